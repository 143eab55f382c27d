-- Where nothing is left of the mask, nobody passes.
use Rattle.std.proofs.Common.{sym, ◌∙◌}
use Rattle.masks.proofs.Walk.{none_left}
use Rattle.masks.proofs.some_from_start.Goals as goal

pub returns-then-rest-eq0 : goal.returns-then-rest-eq0
returns-then-rest-eq0 g c = λ f t. sym (none_left f _ c.if-rest-eq0.true _) ∙ c.loop-item.invariant f t
