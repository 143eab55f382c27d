-- The sum stays below its prime.
use Rattle.std.proofs.Common.{◌<◌}
use Rattle.pace.proofs.rooms.turns.Given as goal

abbrev pub invariant-loop-n : goal.invariant-loop-n
invariant-loop-n l = l.sum.value < 1000003
