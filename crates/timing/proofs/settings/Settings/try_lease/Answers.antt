-- `Settings::try_lease` answers the lease, or refusal 1 where a setting is out of range.
use Rattle.std.proofs.Common.{arith, ◌∙◌, sym}
use Rattle.timing.proofs.Ranges.{ranges, good}
use Rattle.timing.proofs.settings.Settings.try_lease.Goals as goal

pub overflow_add-result : goal.overflow_add-result
overflow_add-result c =
    let k = ranges _ (good _ (sym c.check.ensures ∙ c.in_ok-check.was)) in omega arith

pub overflow_add-result-2 : goal.overflow_add-result-2
overflow_add-result-2 c =
    let k = ranges _ (good _ (sym c.check.ensures ∙ c.in_ok-check.was)) in omega arith

pub overflow_add-result-3 : goal.overflow_add-result-3
overflow_add-result-3 c =
    let k = ranges _ (good _ (sym c.check.ensures ∙ c.in_ok-check.was)) in omega arith
