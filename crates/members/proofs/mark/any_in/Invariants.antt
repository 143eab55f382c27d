-- What was found so far, or is found in the rest.
use Rattle.std.proofs.Common.{◌≡◌, ◌||◌, drop}
use Rattle.masks.specs.Mask.{any, those}
use Rattle.members.specs.Mark.{is_marked}
use Rattle.members.proofs.mark.any_in.Given as goal

abbrev pub invariant-loop-stored : goal.invariant-loop-stored
invariant-loop-stored l =
    (l.some || any (those is_marked (drop l.stored-index l.marks))) ≡ any (those is_marked l.fn.marks)
