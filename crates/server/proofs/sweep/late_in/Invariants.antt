-- The set of those late on the profiles so far.
use Rattle.std.proofs.Common.{◌≡◌, take}
use Rattle.masks.specs.Mask.{mask}
use Rattle.profiles.specs.Sets.{late_set}
use Rattle.server.proofs.sweep.late_in.Given as goal

abbrev pub invariant-loop-profile : goal.invariant-loop-profile
invariant-loop-profile l =
    l.late ≡ mask (late_set l.answer l.reading (take l.profile-index l.profiles))
