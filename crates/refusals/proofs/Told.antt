-- The paper's numbers tell the refusals apart, and no refusal has 0.
-- Assumes nothing.
use Rattle.std.proofs.Common.{◌≡◌, ◌≤◌, arith}
use Rattle.refusals.specs.Refusal.{number}
use Rattle.refusals.specs.declared.Refusal.{Refusal}

pub from_1 : (r : Refusal) → 1 ≤ number r
from_1 r = grind arith

pub number_told : (a b : Refusal) → number a ≡ number b → a ≡ b
number_told a b e = grind arith
