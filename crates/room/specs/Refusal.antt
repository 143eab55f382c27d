-- Refusals 1 to 6, the lowest first.
use Rattle.std.specs.Prelude.{Bool, cond, ◌&&◌, ℕ, eqb, leb, Ok, Err}
use Rattle.refusals.specs.Refusal.{Verdict, or_else}
use Rattle.refusals.specs.declared.Refusal.TheVariants as refused
use Rattle.modes.specs.Modes.{R, X, is_mode}
use Rattle.timing.specs.Reading.{reading_refusal}
use Rattle.timing.specs.declared.settings.Settings.{Settings}
use Rattle.timing.specs.Settings.{in_range}
use Rattle.requests.specs.Request.{profile_refusal, pair_refusal, request_refusal}
use Rattle.room.specs.Event.{Ack, Done, Granted, Wait, InUse, Event, Send, Begin, Edit, End, WriteOut, Restart, Acked, Nacked, Demand}

-- "8 demand: number 0, profile, mode 2 to 6"
abbrev pub is_wanted : ℕ → Bool
is_wanted m = leb R m && leb m X

abbrev pub ack_refusal : ℕ → Ack → Verdict
ack_refusal profiles Done = Ok tt
ack_refusal profiles (Granted p m) = pair_refusal profiles p (is_mode m.0)
ack_refusal profiles (Wait p) = profile_refusal profiles p
ack_refusal profiles (InUse p) = profile_refusal profiles p

-- "The engines hold a message's station, profile and mode to its record and to the settings by 2, 3 and 4"
abbrev pub named_refusal : ℕ → Event → Verdict
named_refusal profiles (Send q) = request_refusal profiles q
named_refusal profiles (Begin p m) = pair_refusal profiles p (is_mode m.0)
named_refusal profiles (Edit p) = profile_refusal profiles p
named_refusal profiles (End p) = profile_refusal profiles p
named_refusal profiles (WriteOut p) = profile_refusal profiles p
named_refusal profiles Restart = Ok tt
named_refusal profiles (Acked i k a) = ack_refusal profiles a
named_refusal profiles (Nacked i k d) = Ok tt
named_refusal profiles (Demand i p m) = pair_refusal profiles p (is_wanted m.0)

-- the station that an event is for: its own events are for the station itself
abbrev pub station_of : ℕ → Event → ℕ
station_of own (Send q) = own
station_of own (Begin p m) = own
station_of own (Edit p) = own
station_of own (End p) = own
station_of own (WriteOut p) = own
station_of own Restart = own
station_of own (Acked i k a) = i
station_of own (Nacked i k d) = i
station_of own (Demand i p m) = i

-- 1: "a setting out of range"; 2: "its own number out of range"
abbrev pub own_refusal : Settings → ℕ → Verdict
own_refusal z own = cond (in_range z) (cond (leb z.stations own) (Err refused.Station) (Ok tt)) (Err refused.Settings)

-- 2: "or a message to another station"
unfoldable pub refusal : Settings → ℕ → ℕ → ℕ → Event → Verdict
refusal z own last now e =
    or_else (own_refusal z own)
    (cond (eqb (station_of own e) own) (or_else (named_refusal z.profiles e) (reading_refusal last now)) (Err refused.Station))

-- of the two questions
unfoldable pub phase_refusal : Settings → ℕ → ℕ → ℕ → Verdict
phase_refusal z own last now = or_else (own_refusal z own) (reading_refusal last now)

unfoldable pub use_refusal : Settings → ℕ → ℕ → ℕ → ℕ → Verdict
use_refusal z own last now p =
    or_else (own_refusal z own) (or_else (profile_refusal z.profiles p) (reading_refusal last now))
