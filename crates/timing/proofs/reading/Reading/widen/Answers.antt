-- `Reading::widen` answers the reading that the counter stands for, or 5.
use Rattle.std.proofs.Common.{sym, arith, le-leb}
use borrow.Author.Tests.{lt-leb}
use Rattle.timing.specs.Reading.{widened}
use Rattle.timing.proofs.Clock.{advances}
use Rattle.timing.proofs.reading.Reading.widen.Goals as goal

pub returns-then-last-gt-LIMIT : goal.returns-then-last-gt-LIMIT
unfolding widened
returns-then-last-gt-LIMIT c =
    simp (lt-leb _ _ c.if-last-gt-LIMIT.true)

pub returns-then-reading-le-LIMIT : goal.returns-then-reading-le-LIMIT
unfolding widened
returns-then-reading-le-LIMIT c =
    simp (sym (advances c.args.last c.args.counter c.wrapping_sub_u32-advance.result (omega arith) c.wrapping_sub_u32-advance.ensures.value), le-leb _ _ c.if-last-gt-LIMIT.false, le-leb _ _ c.if-reading-le-LIMIT.true)

pub returns-else-reading-le-LIMIT : goal.returns-else-reading-le-LIMIT
unfolding widened
returns-else-reading-le-LIMIT c =
    simp (sym (advances c.args.last c.args.counter c.wrapping_sub_u32-advance.result (omega arith) c.wrapping_sub_u32-advance.ensures.value), le-leb _ _ c.if-last-gt-LIMIT.false, lt-leb _ _ c.if-reading-le-LIMIT.false)
