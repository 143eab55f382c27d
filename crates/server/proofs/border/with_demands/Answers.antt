-- `with_demands` puts a demand to each station of a set after the first message, in station order.
use Rattle.std.proofs.Common.{◌∷◌, arith}
use Rattle.server.specs.Border.{demands_from}
use Rattle.server.proofs.Runs.{demanded, passed_over}
use Rattle.server.proofs.border.with_demands.Goals as goal
use Rattle.server.proofs.border.with_demands.Goals.{then-rest-eq1, else-rest-eq1}

pub loop-station-preserved : goal.loop-station-preserved
loop-station-preserved c =
    let l = c.loop-station in
    let a = c.args in
    let total = a.first ∷ demands_from 16 0 a.stations a.profile a.wanted in
    elim c.if-rest-eq1.branch [
      | then-rest-eq1 w ↦ rw (w.run-is, w.push.ensures) (demanded l.station l.rest a.profile a.wanted total (omega arith) l.run w.if-rest-eq1.true l.invariant)
      | else-rest-eq1 w ↦ rw w.run-is (passed_over l.station l.rest a.profile a.wanted total (omega arith) l.run w.if-rest-eq1.false l.invariant)
    ]
