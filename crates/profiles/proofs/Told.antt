-- The paper's numbers and values tell every answer apart, so that a promise in them leaves one answer.
-- Assumes nothing.
use Rattle.std.proofs.Common.{◌≡◌, ap, arith}
use Rattle.refusals.proofs.Told.{number_told}
use Rattle.profiles.specs.Ask.{Answer, Ruled}
use Rattle.profiles.specs.Said.{said}

pub answer_told : (a b : Answer) → said a ≡ said b → a ≡ b
answer_told a b e = grind (arith, number_told)

-- what an ask leaves and answers, told and back
abbrev Same : Ruled → Ruled → Type 0
Same a b = (a.profile ≡ b.profile) × (said a.answer ≡ said b.answer)

pub ruled_said : (a b : Ruled) → a ≡ b → Same a b
ruled_said a b e = (ap (λ (r : Ruled). r.profile) e, ap (λ (r : Ruled). said r.answer) e)

pub ruled_told : (a b : Ruled) → Same a b → a ≡ b
ruled_told a b e =
    grind (arith, answer_told)
