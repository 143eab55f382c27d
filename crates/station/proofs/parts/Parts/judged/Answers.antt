-- `Parts::judged` gives 8 to 14, or lets the event happen.
use Rattle.station.proofs.Ways.{forbidden, free_number, free_hold, allowed}
use Rattle.station.proofs.parts.Parts.judged.Goals as goal

pub returns-in-Err : goal.returns-in-Err
returns-in-Err c =
    let a = c.args in
    forbidden a.settings a.lease a.self a.reading a.event _ c.stage_of.ensures _ c.forbids.ensures _ c.in-Err.is

pub last_after-last-requires : goal.last_after-last-requires
last_after-last-requires c =
    let a = c.args in
    free_number a.settings a.lease a.self a.reading a.event _ c.stage_of.ensures _ c.forbids.ensures c.in_default.is

pub hold_after-requires : goal.hold_after-requires
hold_after-requires c =
    let a = c.args in
    free_hold a.settings a.lease a.self a.reading a.event _ c.stage_of.ensures _ c.forbids.ensures c.in_default.is

pub returns : goal.returns
returns c =
    let a = c.args in
    allowed a.settings a.lease a.self a.reading a.event _ c.stage_of.ensures _ c.forbids.ensures
    c.in_default.is _ c.sent_at-sent.ensures _ _ _ _ _ _ c.standing_after.ensures c.start_after.ensures
    c.last_after-last.ensures c.waiting_after.ensures c.hold_after.ensures c.answer_to.ensures
