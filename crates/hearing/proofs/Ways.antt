-- Each way that the code goes through a message, as the definition has it: h is what it finds.
-- Assumes nothing.
use mathlib.Core.Path.{◌≡◌}
use Prim.Native.Nat.{ℕ, ◌<◌, ◌≤◌}
use native.Mathlib.Omega.{arith}
use Rattle.masks.specs.Mask.{Set}
use Rattle.members.specs.declared.member.Status.{Status}
use Rattle.members.specs.declared.member.Member.{Member}
use Rattle.profiles.specs.declared.profile.Profile.{Profile}
use Rattle.profiles.specs.declared.answer.Answer.TheVariants.{Refused}
use Rattle.refusals.specs.declared.Refusal.TheVariants.{StaleNumber}
use Rattle.requests.specs.declared.Request.{Request}
use Rattle.hearing.specs.Hear.{Heard, answered, numbered, by_status, if_new, hear, told}

module _ (live : Set) (now me number : ℕ) (q : Request) (m : Member) (x : Profile) (h : Heard) where
  pub stale : number ≤ m.last → h ≡ answered m x (Refused StaleNumber) → told h ≡ told (hear live now me number q m x)
  unfolding hear if_new
  stale l e = grind arith

  pub fresh : m.last < number → (s : Status) → m.status ≡ s → h ≡ by_status s live now me q (numbered number m) x → told h ≡ told (hear live now me number q m x)
  unfolding hear if_new
  fresh l s d e = grind arith
