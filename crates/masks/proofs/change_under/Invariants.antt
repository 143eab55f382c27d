-- What is done so far, and the definition of the rest.
use Rattle.std.proofs.Common.{◌≡◌, take, drop, ◌++◌}
use Rattle.masks.specs.Mask.{change_under}
use Rattle.masks.specs.Walk.{Tells}
use Rattle.masks.proofs.change_under.Given as goal

abbrev pub invariant-loop-item : goal.invariant-loop-item
invariant-loop-item g l =
    (f : g.row.T.Denot → g.row.T.Denot) → Tells (goal.F-post g l.change) f
    → take l.item-index l.items ++ change_under f l.rest (drop l.item-index l.items) ≡ change_under f l.fn.set l.fn.items
