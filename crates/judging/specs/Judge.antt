-- An event judged before anything is stored, on the values that have to be looked at.
-- No rule stands here: the rules are `refusal` and `hear`.
use Rattle.std.specs.Prelude.{◌<◌, Bool, true, false, cond, [], ℕ, Option, Some, Result, Ok, Err}
use Rattle.std.specs.Option.{unwrap_or, option_and}
use Rattle.masks.specs.Mask.{mask, set_of}
use Rattle.refusals.specs.Refusal.{number, Verdict}
use Rattle.refusals.specs.declared.Refusal.{Refusal}
use Rattle.timing.specs.Limits.{most_stations, most_profiles}
use Rattle.timing.specs.declared.settings.Settings.{Settings}
use Rattle.members.specs.declared.member.Member.{Member}
use Rattle.profiles.specs.declared.profile.Profile.{Profile}
use Rattle.profiles.specs.Profile.{empty_profile}
use Rattle.profiles.specs.Sets.{only}
use Rattle.profiles.specs.Said.{Said, said}
use Rattle.requests.specs.declared.Request.{Request}
use Rattle.requests.specs.Request.{profile_of}
use Rattle.hearing.specs.declared.Heard.{Heard}
use Rattle.hearing.specs.Hear.{hear}
use Rattle.hearing.specs.Needs.{looks, asks}
use Rattle.judging.specs.Event.{Event, Message, Tick}
use Rattle.judging.specs.Refusal.{refusal}
pub use Rattle.judging.specs.declared.judge.Route.{Route}
pub use Rattle.judging.specs.declared.judge.Needs.{Needs}
use Rattle.judging.specs.declared.judge.Needs.TheVariants as needs
pub use Rattle.judging.specs.declared.judge.Looked.{Looked}
pub use Rattle.judging.specs.declared.judge.After.{After}
pub use Rattle.judging.specs.declared.judge.Outcome.{Outcome}
pub use Rattle.judging.specs.declared.judge.Outcome.TheVariants.{Refused, Ticks, Leaves}
pub use Rattle.judging.specs.declared.judge.Judged.{Judged}

-- what an event is about that nothing refuses: its station, and the place of its profile among the profiles
abbrev pub route_to : ℕ → ℕ → Route
route_to station place = record { station = station; place = place }

-- a tick names neither: the first of each stands for it
abbrev pub route_by : Verdict → Event → Result Route Refusal
route_by (Ok _) (Message i k q) = Ok (route_to i (profile_of q))
route_by (Ok _) Tick = Ok (route_to 0 0)
route_by (Err r) e = Err r

unfoldable pub route_of : Settings → ℕ → ℕ → Event → Result Route Refusal
route_of z last now e = route_by (refusal z last now e) e

-- a route in the arrays, and an outcome that leaves nothing, or something at such a route
abbrev pub Within : Route → Type 0
Within r = (r.station < most_stations) × (r.place < most_profiles)

abbrev pub LeavesWithin : Outcome → Type 0
LeavesWithin (Refused r) = Unit {0}
LeavesWithin Ticks = Unit {0}
LeavesWithin (Leaves a) = Within a.route

-- what has to be looked at
abbrev pub needs_if : Bool → Bool → Needs
needs_if false b = needs.Nothing
needs_if true false = needs.Profile
needs_if true true = needs.ProfileAndLive

unfoldable pub needed_for : Member → Event → Needs
needed_for m (Message i k q) = needs_if (looks k q m) (asks q)
needed_for m Tick = needs.Nothing

-- What is to be stored: of the profile nothing where it was not looked at; `gone`, the stations whose modes and marks go on every profile.
abbrev pub heard_as : Route → Option Profile → Heard → After
heard_as r x h =
    record {
      route = r;
      member = h.member;
      profile = option_and x (Some h.profile);
      gone = mask (cond h.greeted (only r.station) []);
      answer = h.answer;
    }

unfoldable pub heard_for : Looked → ℕ → ℕ → Request → After
heard_for l now k q =
    heard_as l.route l.profile (hear (set_of most_stations l.live) now l.route.station k q l.member (unwrap_or l.profile empty_profile))

-- the reading that the server then has, and what is done
abbrev pub judged_at : ℕ → Outcome → Judged
judged_at reading outcome = record { reading = reading; outcome = outcome }

unfoldable pub judged_for : Result Looked Refusal → ℕ → ℕ → Event → Judged
judged_for (Ok l) last now (Message i k q) = judged_at now (Leaves (heard_for l now k q))
judged_for (Ok l) last now Tick = judged_at now Ticks
judged_for (Err r) last now e = judged_at last (Refused r)

-- all that is judged, the refusal and the answer in the paper's numbers and values
pub data Done : Type 0 where
  refused : ℕ → Done
  ticks : Done
  leaves : Route → Member → Option Profile → ℕ → Said → Done

pub record Told : Type 0 where
  pub reading : ℕ
  pub done : Done

abbrev pub done_as : Outcome → Done
done_as (Refused r) = Done.refused (number r)
done_as Ticks = Done.ticks
done_as (Leaves a) = Done.leaves a.route a.member a.profile a.gone (said a.answer)

abbrev pub told : Judged → Told
told j = record { reading = j.reading; done = done_as j.outcome }
