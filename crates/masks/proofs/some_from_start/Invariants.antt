-- Nothing so far passed, so that the rest decides.
use Rattle.std.proofs.Common.{◌≡◌, Bool, drop}
use Rattle.masks.specs.Mask.{some_under}
use Rattle.masks.specs.Walk.{Tells}
use Rattle.masks.proofs.some_from_start.Given as goal

abbrev pub invariant-loop-item : goal.invariant-loop-item
invariant-loop-item g l =
    (f : g.row.T.Denot → Bool) → Tells (goal.F-post g l.test) f
    → some_under f l.rest (drop l.item-index l.items) ≡ some_under f l.fn.set l.fn.items
