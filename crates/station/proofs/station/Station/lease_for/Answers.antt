-- `Station::lease_for` answers the lease where 1 to 6 leave the event.
use mathlib.Core.Path.{sym, ap, ◌∙◌}
use Rattle.room.specs.declared.refusal.Asking.{Asking}
use Rattle.room.specs.Refusal.{refusal}
use Rattle.station.proofs.Ways.{lease_good}
use Rattle.station.proofs.station.Station.lease_for.Goals as goal

pub returns : goal.returns
returns c =
    let asked = ap (λ (a : Asking). refusal a.settings a.number a.last a.reading c.args.event) c.asking.ensures in
    c.try_lease.ensures ∙ lease_good _ _ _ _ _ (sym asked ∙ sym c.check.ensures ∙ c.in_ok-check.was)
