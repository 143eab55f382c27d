-- The paper's number of a phase, 0 for out, tells every answer apart, so that a promise in it leaves one answer.
-- Assumes nothing.
use Rattle.std.proofs.Common.{◌≡◌, Option, arith}
use Rattle.timing.specs.declared.settings.Phase.{Phase}
use Rattle.holds.specs.Stage.{phase_said}

pub phase_said_told : (a b : Option Phase) → phase_said a ≡ phase_said b → a ≡ b
phase_said_told a b e = grind arith
