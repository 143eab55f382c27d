-- `Lease::left` answers the ticks left, or the lowest refusal that applies.
use Rattle.std.proofs.Common.{◌+◌, arith, le-ltb}
use Rattle.timing.specs.Lease.{left_of}
use Rattle.timing.proofs.Signed.{difference}
use Rattle.timing.proofs.lease.Lease.left.Goals as goal

pub returns-then-length-lt-SHORTEST : goal.returns-then-length-lt-SHORTEST
unfolding left_of
returns-then-length-lt-SHORTEST c = grind arith

pub returns-then-start-gt-LIMIT : goal.returns-then-start-gt-LIMIT
unfolding left_of
returns-then-start-gt-LIMIT c = grind arith

pub returns-then-reading-start : goal.returns-then-reading-start
unfolding left_of
returns-then-reading-start c = grind arith

pub returns : goal.returns
unfolding left_of
returns c =
    let a = c.args in
    simp (difference (a.start + a.length) a.reading (omega arith) (omega arith), le-ltb _ _ c.if-length-lt-SHORTEST.false, le-ltb _ _ c.if-length-gt-LONGEST.false, le-ltb _ _ c.if-start-gt-LIMIT.false, le-ltb _ _ c.if-reading-gt-LIMIT.false, le-ltb _ _ c.if-reading-start.false)
