-- The profiles so far are wiped, and the rest still has to be.
use Rattle.std.proofs.Common.{◌≡◌, ◌++◌, length, map, take, drop}
use Rattle.profiles.specs.Under.{wiped_under}
use Rattle.server.proofs.sweep.wipe_in.Given as goal

abbrev pub invariant-loop-profile : goal.invariant-loop-profile
invariant-loop-profile l = record {
  whole : length l.profiles ≡ 64;
  wiped : take l.profile-index l.profiles ++ map (wiped_under l.set) (drop l.profile-index l.profiles) ≡ map (wiped_under l.set) l.fn.profiles;
}
