-- What the walk has looked at is in the mask.
use Rattle.std.proofs.Common.{◌≡◌, Bool, ℕ, ◌^◌, ◌<◌, take}
use Rattle.masks.specs.Mask.{mask, those_at}
use Rattle.masks.specs.Walk.{TellsAt}
use Rattle.masks.proofs.those_at.Given as goal

abbrev pub invariant-loop-i : goal.invariant-loop-i
invariant-loop-i g l =
    (l.mask < 2 ^ l.i)
    × ((f : ℕ → g.row.T.Denot → Bool) → TellsAt (goal.F-post g l.test) f → l.mask ≡ mask (those_at f 0 (take l.i l.items)))
