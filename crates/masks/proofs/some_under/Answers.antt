-- Nobody before the first of the set is asked for.
use Rattle.std.proofs.Common.{◌∙◌}
use Rattle.masks.proofs.Walk.{some_there, none_in_short}
use Rattle.masks.proofs.some_under.Goals as goal

pub returns-then-items-start : goal.returns-then-items-start
returns-then-items-start g c = λ f t. none_in_short f 15 _ _ _ c.first-start.ensures c.if-items-start.true

pub returns : goal.returns
returns g c = λ f t.
    c.some_from_start.ensures f t ∙ some_there f 15 _ _ _ c.first-start.ensures
