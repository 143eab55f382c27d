-- `judge_in` answers what is judged on the server, and what that leaves is in the arrays.
use Rattle.std.proofs.Common.{◌≡◌, arith}
use Rattle.std.proofs.lemmas.Grind.{common_steps}
use Rattle.server.specs.Settle.{judge_on}
use Rattle.server.proofs.Judging.{judged_within}
use Rattle.server.proofs.judge.judge_in.Goals as goal

pub returns : goal.returns
unfolding judge_on
returns c =
    let a = c.args in
    let judged : c.judge.result ≡ judge_on a.server.now a.reading a.event = grind (arith, common_steps) in
    (judged, rw judged (judged_within a.server.now a.reading a.event))
