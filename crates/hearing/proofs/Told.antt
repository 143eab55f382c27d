-- What is told of a message that was heard tells all of it.
-- Assumes nothing.
use Rattle.std.proofs.Common.{◌≡◌, arith}
use Rattle.profiles.proofs.Told.{answer_told}
use Rattle.hearing.specs.Hear.{Heard, told}

pub heard_told : (a b : Heard) → told a ≡ told b → a ≡ b
heard_told a b e = grind (arith, answer_told)
