-- Where no station has a mark, none is late.
use Rattle.std.proofs.Common.{rules, sym, ◌∙◌}
use Rattle.profiles.proofs.Under.{none_late}
use Rattle.profiles.proofs.profile.Profile.late.Goals as goal

pub returns-then-not-any_in : goal.returns-then-not-any_in
returns-then-not-any_in c =
    none_late _ _ _ (sym c.any_in.ensures ∙ search rules)
