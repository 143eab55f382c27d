-- `Station::may_use` refuses, or asks for a mode, and for the lease only where one is held.
use mathlib.Core.Path.{sym, ap, ◌∙◌}
use Rattle.std.proofs.Common.{arith}
use Rattle.timing.proofs.Choice.{below_not}
use Rattle.room.specs.declared.refusal.Asking.{Asking}
use Rattle.room.specs.Refusal.{use_refusal}
use Rattle.station.specs.Station.{may_use}
use Rattle.station.proofs.Ways.{good_asked}
use Rattle.station.proofs.station.Station.may_use.Goals as goal

pub returns-then-is_mode : goal.returns-then-is_mode
unfolding may_use
returns-then-is_mode c =
    let asked = ap (λ (a : Asking). use_refusal a.settings a.number a.last a.reading c.args.profile) c.asking.ensures in
    let z = good_asked _ _ _ _ _ (sym asked ∙ sym c.check_use.ensures ∙ c.in_ok-check_use.was) in
    grind (arith, below_not)
