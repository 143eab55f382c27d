-- Which messages the record allows.
use Rattle.std.specs.Prelude.{ℕ, Bool, ◌&&◌, ◌||◌, eqb, ltb, leb}
use Rattle.timing.specs.Limits.{most_stations, most_profiles}
use Rattle.record.specs.declared.message.Message.{Message}

-- the kinds that the record lists: 1 hello to 8 demand
abbrev pub is_kind : ℕ → Bool
is_kind kind = leb 1 kind && leb kind 8

-- "255, 0": "No profile" is 255, and 0 no mode
abbrev pub bare : Message → Bool
bare m = eqb m.profile 255 && eqb m.mode 0

-- "profile, 0": "profile 0 to 63", and no mode
abbrev pub modeless : Message → Bool
modeless m = ltb m.profile most_profiles && eqb m.mode 0

-- "profile 0 to 63, mode 1 to 6", where the first mode is 1; a demand's is 2
abbrev pub mode_from : ℕ → Message → Bool
mode_from first m = ltb m.profile most_profiles && (leb first m.mode && leb m.mode 6)

-- "1 hello and 2 keep-alive: 255, 0, 0."
abbrev pub greets : Message → Bool
greets m = (eqb m.kind 1 || eqb m.kind 2) && bare m && eqb m.detail 0

-- "3 ask: profile 0 to 63, mode 1 to 6, 0."
abbrev pub asks : Message → Bool
asks m = eqb m.kind 3 && mode_from 1 m && eqb m.detail 0

-- "4 release and 5 keep: profile, 0, 0."
abbrev pub keeps : Message → Bool
keeps m = (eqb m.kind 4 || eqb m.kind 5) && modeless m && eqb m.detail 0

-- "6 ACK: detail 0 done (255, 0), 1 granted (profile, mode 1 to 6), 2 wait or 3 in use (profile, 0)."
abbrev pub acks : Message → Bool
acks m =
    eqb m.kind 6
    && (eqb m.detail 0 && bare m
    || eqb m.detail 1 && mode_from 1 m
    || (eqb m.detail 2 || eqb m.detail 3) && modeless m)

-- "7 NACK: 255, 0, detail 0 or 1."
abbrev pub nacks : Message → Bool
nacks m = eqb m.kind 7 && bare m && leb m.detail 1

-- every kind but a demand
unfoldable pub others : Message → Bool
others m = greets m || asks m || keeps m || acks m || nacks m

-- "8 demand: number 0, profile, mode 2 to 6, 0."
unfoldable pub demands : Message → Bool
demands m = eqb m.kind 8 && eqb m.number 0 && mode_from 2 m && eqb m.detail 0

-- "station 0 to 15"; "All other numbers are at least 1."
unfoldable pub allowed : Message → Bool
allowed m = ltb m.station most_stations && (leb 1 m.number && others m || demands m)
