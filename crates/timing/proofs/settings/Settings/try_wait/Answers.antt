-- `Settings::try_wait` answers the wait, or refusal 1 where a setting is out of range.
use Rattle.std.proofs.Common.{arith, ◌∙◌, sym}
use Rattle.timing.specs.Settings.{wait}
use Rattle.timing.proofs.Wait.{lengthened_fits, dividend_fits, wait_fits}
use Rattle.timing.proofs.Ranges.{ranges, lease_known, checked_good}
use Rattle.timing.proofs.settings.Settings.try_wait.Goals as goal

pub overflow_add-result : goal.overflow_add-result
overflow_add-result c =
    let k = lease_known _ _ (sym c.try_lease.ensures ∙ c.in_ok-lease.was) in
    let r = ranges _ k.0 in omega arith

pub overflow_mul-result : goal.overflow_mul-result
overflow_mul-result c =
    let k = lease_known _ _ (sym c.try_lease.ensures ∙ c.in_ok-lease.was) in
    rw k.1 (lengthened_fits _ k.0)

pub overflow_sub-result : goal.overflow_sub-result
overflow_sub-result c =
    let k = lease_known _ _ (sym c.try_lease.ensures ∙ c.in_ok-lease.was) in
    let r = ranges _ k.0 in omega arith

pub overflow_add-result-2 : goal.overflow_add-result-2
overflow_add-result-2 c =
    let k = lease_known _ _ (sym c.try_lease.ensures ∙ c.in_ok-lease.was) in
    rw k.1 (dividend_fits _ k.0)

pub nonzero_div-result : goal.nonzero_div-result
nonzero_div-result c =
    let k = lease_known _ _ (sym c.try_lease.ensures ∙ c.in_ok-lease.was) in
    let r = ranges _ k.0 in omega arith

-- By arithmetic from the wait's own bound, so that a wrong wait that is no larger is refused for what it answers, and not here.
pub overflow_add-result-3 : goal.overflow_add-result-3
unfolding wait
overflow_add-result-3 c =
    let k = lease_known _ _ (sym c.try_lease.ensures ∙ c.in_ok-lease.was) in
    rw k.1 (record { fits = omega (arith, (wait_fits _ k.0).fits) })

pub returns : goal.returns
unfolding wait
returns c =
    let k = lease_known _ _ (sym c.try_lease.ensures ∙ c.in_ok-lease.was) in
    rw k.1 (checked_good _ _ k.0)
