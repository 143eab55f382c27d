-- The server's step: any event at any reading. The wait is a parameter; the code puts in W.
use Rattle.std.specs.Prelude.{Bool, true, false, List, map, ℕ, set, Ok, Err}
use Rattle.refusals.specs.Refusal.{Verdict}
use Rattle.masks.specs.Mask.{mask}
use Rattle.timing.specs.declared.settings.Settings.{Settings}
use Rattle.timing.specs.Settings.{settings_refusal}
use Rattle.server.specs.State.{new_server, Profile, Server, member_at, profile_at}
use Rattle.profiles.specs.Sets.{only, live_set, wiped}
use Rattle.server.specs.Event.{Request, Event, Message, Tick, Ticked, Refused}
use Rattle.requests.specs.Request.{profile_of}
use Rattle.hearing.specs.declared.Heard.{Heard}
use Rattle.hearing.specs.Hear.{hear}
use Rattle.judging.specs.Refusal.{refusal}
use Rattle.server.specs.Tick.{freed_set, free, started_set, start}
pub use Rattle.server.specs.declared.server.Served.{Served}
pub use Rattle.server.specs.declared.server.Made.{Made}

-- a new server, and the refusal of its settings
abbrev pub made : Settings → Made
made z = record { server = new_server z; checked = settings_refusal z }

-- all that a station had goes, where it said hello
abbrev pub wiped_if : Bool → ℕ → List Profile → List Profile
wiped_if true i profiles = map (wiped (only i)) profiles
wiped_if false i profiles = profiles

-- "7 changes the server's reading only": what was heard has then left station and profile as they were
abbrev pub after_heard : Server → ℕ → ℕ → ℕ → Heard → Served
after_heard s now i p h =
    record {
      server = record {
        settings = s.settings;
        reading = now;
        members = set s.members i h.member;
        profiles = wiped_if h.greeted i (set s.profiles p h.profile);
      };
      answer = h.answer;
    }

unfoldable pub message : Server → ℕ → ℕ → ℕ → Request → Served
message s now i number q =
    after_heard s now i (profile_of q)
    (hear (live_set s.members) now i number q (member_at s i) (profile_at s (profile_of q)))

abbrev pub at_reading : Server → ℕ → Server
at_reading s now =
    record { settings = s.settings; reading = now; members = s.members; profiles = s.profiles }

-- "Both sets are answered as masks."
unfoldable pub tick : ℕ → Server → ℕ → Served
tick wait s now =
    record {
      server = start now (free wait now (at_reading s now));
      answer = Ticked (mask (freed_set wait now s)) (mask (started_set now (free wait now s)));
    }

abbrev pub act : ℕ → Server → ℕ → Event → Served
act wait s now (Message i number q) = message s now i number q
act wait s now Tick = tick wait s now

-- "Refusals 1 to 6 change nothing."
abbrev pub if_good : Verdict → ℕ → Server → ℕ → Event → Served
if_good (Ok _) wait s now e = act wait s now e
if_good (Err r) wait s now e = record { server = s; answer = Refused r }

unfoldable pub step : ℕ → Server → ℕ → Event → Served
step wait s now e = if_good (refusal s.settings s.reading now e) wait s now e
