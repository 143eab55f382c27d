-- `goes_with` answers what the table holds, and that no lock goes with everything.
use Rattle.std.proofs.Common.{refl, sym, ◌∙◌, false}
use mathlib.Core.Bool.{beq}
use Rattle.modes.specs.Modes.{goes, goes_with}
use Rattle.modes.proofs.Range.{same}
use Rattle.modes.proofs.Lookup.{as_cell, looked, goes_first, goes_second}
use Rattle.modes.proofs.Mode.goes_with.Goals as goal

pub returns-in-Some-Some : goal.returns-in-Some-Some
unfolding goes_with
returns-in-Some-Some c =
    let a = c.args in
    let i = sym c.place.ensures ∙ c.in-Some-Some.is-0 in
    let j = sym c.place-2.ensures ∙ c.in-Some-Some.is-1 in
    rw (as_cell false) (looked false beq same _ goes a.self.0 a.other.0 _ _ i j refl)

pub returns-in_default : goal.returns-in_default
returns-in_default c =
    goes_second _ _ (sym c.place-2.ensures ∙ c.in_default.is-1)

pub returns-in_default-2 : goal.returns-in_default-2
returns-in_default-2 c =
    goes_first _ _ (sym c.place.ensures ∙ c.in_default.is-0)
