-- An event judged on the server, looking only at what `Needs` names, and what is stored then.
-- No rule stands here: `proofs/Judging.antt` leads all of it back to the step.
use Rattle.std.specs.Prelude.{List, map, ℕ, set, Option, Some, None, Result, Ok, Err}
use Rattle.refusals.specs.declared.Refusal.{Refusal}
use Rattle.masks.specs.Mask.{mask}
use Rattle.profiles.specs.Sets.{live_set}
use Rattle.profiles.specs.Under.{wiped_under}
use Rattle.judging.specs.declared.judge.Route.{Route}
use Rattle.judging.specs.declared.judge.Needs.{Needs}
use Rattle.judging.specs.declared.judge.Needs.TheVariants as needs
use Rattle.judging.specs.declared.judge.Looked.{Looked}
use Rattle.judging.specs.declared.judge.After.{After}
use Rattle.judging.specs.declared.judge.Outcome.{Outcome}
use Rattle.judging.specs.declared.judge.Outcome.TheVariants as outcome
use Rattle.judging.specs.declared.judge.Judged.{Judged}
use Rattle.judging.specs.Judge.{route_of, needed_for, judged_for}
use Rattle.server.specs.State.{Member, Profile, Server, member_at, profile_at}
use Rattle.server.specs.Event.{Event, Refused}
use Rattle.server.specs.Step.{Served, at_reading, tick}

-- the profile, and who is live, where they are looked at; else no profile and nobody
abbrev pub profile_if : Needs → Server → ℕ → Option Profile
profile_if needs.Nothing s p = None
profile_if needs.Profile s p = Some (profile_at s p)
profile_if needs.ProfileAndLive s p = Some (profile_at s p)

abbrev pub live_if : Needs → Server → ℕ
live_if needs.Nothing s = 0
live_if needs.Profile s = 0
live_if needs.ProfileAndLive s = mask (live_set s.members)

abbrev pub look_with : Server → Route → Member → Needs → Looked
look_with s r m n = record { route = r; member = m; profile = profile_if n s r.place; live = live_if n s }

abbrev pub look_at : Server → Event → Route → Looked
look_at s e r = look_with s r (member_at s r.station) (needed_for (member_at s r.station) e)

abbrev pub looked_at : Server → Event → Result Route Refusal → Result Looked Refusal
looked_at s e (Ok r) = Ok (look_at s e r)
looked_at s e (Err r) = Err r

abbrev pub judge_at : Server → ℕ → Event → Result Route Refusal → Judged
judge_at s now e r = judged_for (looked_at s e r) s.reading now e

unfoldable pub judge_on : Server → ℕ → Event → Judged
judge_on s now e = judge_at s now e (route_of s.settings s.reading now e)

-- what is stored of a message
abbrev pub stored_if : Option Profile → ℕ → List Profile → List Profile
stored_if (Some x) p profiles = set profiles p x
stored_if None p profiles = profiles

abbrev pub stored : Server → After → Server
stored s a =
    record {
      settings = s.settings;
      reading = s.reading;
      members = set s.members a.route.station a.member;
      profiles = map (wiped_under a.gone) (stored_if a.profile a.route.place s.profiles);
    }

abbrev pub settled_as : Outcome → ℕ → Server → Served
settled_as (outcome.Refused r) wait s = record { server = s; answer = Refused r }
settled_as outcome.Ticks wait s = tick wait s s.reading
settled_as (outcome.Leaves a) wait s = record { server = stored s a; answer = a.answer }

unfoldable pub settled : ℕ → Server → Judged → Served
settled wait s j = settled_as j.outcome wait (at_reading s j.reading)
