-- `Station::step` refuses by 1 to 6, or takes the station apart, judges the event, and puts the station together.
use mathlib.Core.Path.{ap}
use Rattle.station.proofs.Ways.{refused, heard_lease}
use Rattle.station.proofs.Heard.{found_profile}
use Rattle.station.proofs.Apart.{taken, none_left, all_kept}
use Rattle.station.specs.Said.{told}
use Rattle.station.proofs.station.Station.step.Goals as goal
use Rattle.station.proofs.station.Station.step.Goals.{then-cleared, else-cleared}

pub returns-in-Err : goal.returns-in-Err
returns-in-Err c =
    let a = c.args in
    ap told (refused a.self a.reading a.event _ c.lease_for.ensures _ c.in-Err.is)

pub bounds-holds-at-2 : goal.bounds-holds-at-2
bounds-holds-at-2 c =
    let a = c.args in
    found_profile a.self a.reading a.event (heard_lease a.self a.reading a.event _ c.lease_for.ensures _ c.in-Ok.is).0 _ c.profile_for-at.ensures

pub bounds-holds-at : goal.bounds-holds-at
bounds-holds-at c =
    let a = c.args in
    found_profile a.self a.reading a.event (heard_lease a.self a.reading a.event _ c.lease_for.ensures _ c.in-Ok.is).0 _ c.profile_for-at.ensures

pub returns : goal.returns
returns c =
    let a = c.args in
    let heard = heard_lease a.self a.reading a.event _ c.lease_for.ensures _ c.in-Ok.is in
    let there = c.if-cleared in
    ap told
    (taken a.self a.reading a.event heard.0 _ heard.1 _ c.is_over-over.ensures _ c.clears-cleared.ensures there.holds there.lost
    (elim there.branch [
      | then-cleared w ↦ none_left a.self a.reading a.event c.is_over-over.result _ c.clears-cleared.ensures w.if-cleared.true _ there.holds w.no_holds-holds.ensures w.holds-is _ there.lost w.lost_at-lost.ensures w.lost-is
      | else-cleared w ↦ all_kept a.self a.reading a.event c.is_over-over.result _ c.clears-cleared.ensures w.if-cleared.false there.holds w.holds-is there.lost w.lost-is
    ]) _ c.profile_for-at.ensures _ c.parts-found.ensures _ c.arrived-arrived.ensures _ c.judged-outcome.ensures _ c.joined.ensures _ c.count.ensures)
