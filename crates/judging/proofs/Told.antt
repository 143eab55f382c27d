-- What is told of an event that was judged tells all of it.
-- Assumes nothing.
use Rattle.std.proofs.Common.{◌≡◌, arith}
use Rattle.refusals.proofs.Told.{number_told}
use Rattle.profiles.proofs.Told.{answer_told}
use Rattle.judging.specs.Judge.{Judged, told}

pub judged_told : (a b : Judged) → told a ≡ told b → a ≡ b
judged_told a b e = grind (arith, number_told, answer_told)
