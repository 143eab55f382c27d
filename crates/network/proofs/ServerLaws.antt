-- What the server does where nothing is refused.
-- Assumes nothing.
use mathlib.Core.Path.{◌≡◌, refl, ap}
use mathlib.Core.Bool.{true}
use Prim.Native.Nat.{ℕ, ◌<◌, ◌≤◌}
use Rattle.std.proofs.Common.{Ok}
use borrow.Author.Tests.{le-ltb}
use Rattle.refusals.specs.Refusal.{Verdict}
use Rattle.timing.specs.Limits.{reading_limit}
use Rattle.timing.specs.declared.settings.Settings.{Settings}
use Rattle.timing.specs.Settings.{in_range}
use Rattle.server.specs.declared.server.Server.{Server}
use Rattle.server.specs.Event.{Event, Message, Tick, Request}
use Rattle.server.specs.State.{member_at, profile_at, last_of, status_of}
use Rattle.profiles.specs.Sets.{live_set}
use Rattle.hearing.specs.Hear.{by_status, numbered}
use Rattle.judging.specs.Refusal.{event_refusal, refusal}
use Rattle.requests.specs.Request.{profile_of}
use Rattle.server.specs.Step.{after_heard, tick, if_good, step}
use Rattle.server.proofs.Heard.{judged}

module _ (z : Settings) (good : in_range z ≡ true) where
  pub free : (last now : ℕ) (e : Event) → event_refusal z e ≡ Ok tt → now ≤ reading_limit → last ≤ now → refusal z last now e ≡ Ok tt
  unfolding refusal
  free last now e named top on = rw (good, named, le-ltb reading_limit now top, le-ltb now last on)

module _ (wait : ℕ) (s : Server) (now : ℕ) where
  pub ticked : refusal s.settings s.reading now Tick ≡ Ok tt → step wait s now Tick ≡ tick wait s now
  unfolding step
  ticked free = ap (λ (v : Verdict). if_good v wait s now Tick) free

  pub heard : (i number : ℕ) (q : Request) → refusal s.settings s.reading now (Message i number q) ≡ Ok tt → last_of s i < number →
      step wait s now (Message i number q)
      ≡ after_heard s now i (profile_of q)
      (by_status (status_of s i) (live_set s.members) now i q (numbered number (member_at s i)) (profile_at s (profile_of q)))
  heard i number q free new = judged wait s now i number q free new (status_of s i) refl
