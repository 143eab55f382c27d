-- What a message does not need to be judged: a profile that no rule looks at, and who is live where nothing is asked.
-- Assumes nothing.
use mathlib.Core.Path.{◌≡◌}
use mathlib.Core.Bool.{false}
use Prim.Native.Nat.{ℕ}
use native.Mathlib.Omega.{arith}
use Rattle.masks.specs.Mask.{Set}
use Rattle.members.specs.declared.member.Member.{Member}
use Rattle.profiles.specs.declared.profile.Profile.{Profile}
use Rattle.requests.specs.declared.Request.{Request}
use Rattle.hearing.specs.Hear.{Heard, heed, welcome, by_status, if_new, hear}
use Rattle.hearing.specs.Needs.{looks, asks}

-- what was heard, over another profile that it left as it was
abbrev pub over : Profile → Heard → Heard
over x h = record { member = h.member; profile = x; greeted = h.greeted; answer = h.answer }

module _ (live live' : Set) (now me number : ℕ) (q : Request) (m : Member) where
  -- where no rule looks at the profile, it is left as it is, and the rest is the same over any other, whoever is live
  pub unlooked : (x x' : Profile) → looks number q m ≡ false
      → hear live now me number q m x ≡ over x (hear live' now me number q m x')
  unfolding hear if_new by_status heed welcome
  unlooked x x' e = grind arith

  -- a message that is no ask is judged the same whoever is live
  pub unasked : (x : Profile) → asks q ≡ false → hear live now me number q m x ≡ hear live' now me number q m x
  unfolding hear if_new by_status heed welcome
  unasked x e = grind arith
