-- The tick: freeing, and then starting.
use Rattle.std.specs.Prelude.{List, map, ℕ}
use Rattle.masks.specs.Mask.{Set, both}
use Rattle.server.specs.State.{Unknown, TimingOut, Member, Profile, Server}
use Rattle.profiles.specs.Sets.{is_waited, members_with, live_set, late_set, wiped, turned}

abbrev pub with_members : Server → List Member → Server
with_members s members =
    record { settings = s.settings; reading = s.reading; members = members; profiles = s.profiles }

abbrev pub with_profiles : Server → List Profile → Server
with_profiles s profiles =
    record { settings = s.settings; reading = s.reading; members = s.members; profiles = profiles }

-- "first each station timing out for W or more becomes unknown and its modes and marks go"
abbrev pub freed_set : ℕ → ℕ → Server → Set
freed_set wait now s = members_with (is_waited wait now) s.members

unfoldable pub free : ℕ → ℕ → Server → Server
free wait now s =
    with_members (with_profiles s (map (wiped (freed_set wait now s)) s.profiles))
    (turned Unknown (freed_set wait now s) s.members)

-- "Then each live station with a mark demanded for R or more ticks starts timing out now."
unfoldable pub started_set : ℕ → Server → Set
started_set now s = both (late_set s.settings.r now s.profiles) (live_set s.members)

unfoldable pub start : ℕ → Server → Server
start now s = with_members s (turned (TimingOut now) (started_set now s) s.members)
