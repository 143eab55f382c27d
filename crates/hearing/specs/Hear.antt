-- A station's message, judged on that station and the one profile that it names.
use Rattle.std.specs.Prelude.{Bool, true, false, ℕ, ltb}
use Rattle.masks.specs.Mask.{Set}
use Rattle.members.specs.declared.member.Status.{Status}
use Rattle.members.specs.declared.member.Status.TheVariants.{Unknown, Live, TimingOut}
use Rattle.members.specs.declared.member.Member.{Member}
use Rattle.profiles.specs.declared.profile.Profile.{Profile}
use Rattle.profiles.specs.Sets.{only, wiped, marks_changed, keep_mark, restatus}
use Rattle.profiles.specs.Ask.{with_marks, ask_rule}
use Rattle.profiles.specs.Said.{Said, said}
use Rattle.requests.specs.declared.Request.{Request}
use Rattle.requests.specs.declared.Request.TheVariants.{Hello, KeepAlive, Ask, Release, Keep}
use Rattle.profiles.specs.declared.answer.Answer.{Answer}
use Rattle.profiles.specs.declared.answer.Answer.TheVariants.{Done, Nack, Refused}
use Rattle.profiles.specs.declared.ask.Ruled.{Ruled}
use Rattle.refusals.specs.declared.Refusal.TheVariants.{StaleNumber}
pub use Rattle.hearing.specs.declared.Heard.{Heard}

-- the station and the profile as they are then, and the answer
abbrev pub answered : Member → Profile → Answer → Heard
answered m x answer = record { member = m; profile = x; greeted = false; answer = answer }

-- "Hello: the station's modes and marks go, it is live, ACK done." They go on every profile: `greeted` says so.
abbrev pub greeted : Member → Profile → Heard
greeted m x = record { member = restatus Live m; profile = x; greeted = true; answer = Done }

abbrev pub ruled_for : Member → Ruled → Heard
ruled_for m r = answered m r.profile r.answer

-- a live station's message
unfoldable pub heed : Set → ℕ → ℕ → Request → Member → Profile → Heard
heed live now me Hello m x = greeted m x
-- "Keep-alive: ACK done."
heed live now me KeepAlive m x = answered m x Done
heed live now me (Ask p asked) m x = ruled_for m (ask_rule live p now me asked.0 x)
-- "Release: its mode and mark on that profile go, ACK done."
heed live now me (Release p) m x = answered m (wiped (only me) x) Done
-- "Keep: a demanded mark becomes kept, ACK done."
heed live now me (Keep p) m x = answered m (with_marks x (marks_changed keep_mark (only me) x.marks)) Done

-- "Unknown, and not a hello: NACK 1."
unfoldable pub welcome : Request → Member → Profile → Heard
welcome Hello m x = greeted m x
welcome KeepAlive m x = answered m x (Nack 1)
welcome (Ask p asked) m x = answered m x (Nack 1)
welcome (Release p) m x = answered m x (Nack 1)
welcome (Keep p) m x = answered m x (Nack 1)

-- "Timing out: NACK 0." .. "Nothing else changes."
unfoldable pub by_status : Status → Set → ℕ → ℕ → Request → Member → Profile → Heard
by_status Unknown live now me q m x = welcome q m x
by_status Live live now me q m x = heed live now me q m x
by_status (TimingOut since) live now me q m x = answered m x (Nack 0)

-- "Every other message raises the last number"
abbrev pub numbered : ℕ → Member → Member
numbered number m = record { status = m.status; last = number }

-- "A message number not above the station's last one is refusal 7."
unfoldable pub if_new : Bool → Set → ℕ → ℕ → ℕ → Request → Member → Profile → Heard
if_new true live now me number q m x = by_status m.status live now me q (numbered number m) x
if_new false live now me number q m x = answered m x (Refused StaleNumber)

unfoldable pub hear : Set → ℕ → ℕ → ℕ → Request → Member → Profile → Heard
hear live now me number q m x = if_new (ltb m.last number) live now me number q m x

-- all that is heard, the answer in the paper's numbers and values
pub record Told : Type 0 where
  pub member : Member
  pub profile : Profile
  pub greeted : Bool
  pub answer : Said

abbrev pub told : Heard → Told
told h = record { member = h.member; profile = h.profile; greeted = h.greeted; answer = said h.answer }
