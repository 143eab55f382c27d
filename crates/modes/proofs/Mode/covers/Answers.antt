-- `covers` answers what the table holds, that all cover no lock, and that it covers no mode.
use Rattle.std.proofs.Common.{refl, sym, ◌∙◌, false}
use mathlib.Core.Bool.{beq}
use Rattle.modes.specs.Modes.{over, covers}
use Rattle.modes.proofs.Range.{same}
use Rattle.modes.proofs.Lookup.{as_cell, looked, covers_first, covers_second}
use Rattle.modes.proofs.Mode.covers.Goals as goal

pub returns-in-Some-Some : goal.returns-in-Some-Some
unfolding covers
returns-in-Some-Some c =
    let a = c.args in
    let i = sym c.place.ensures ∙ c.in-Some-Some.is-0 in
    let j = sym c.place-2.ensures ∙ c.in-Some-Some.is-1 in
    rw (as_cell false) (looked false beq same _ over a.self.0 a.other.0 _ _ i j refl)

pub returns-in-None-Some : goal.returns-in-None-Some
returns-in-None-Some c =
    covers_first _ _ _ (sym c.place-2.ensures ∙ c.in-None-Some.is-1) (sym c.place.ensures ∙ c.in-None-Some.is-0)

pub returns-in_default-None : goal.returns-in_default-None
returns-in_default-None c =
    covers_second _ _ (sym c.place-2.ensures ∙ c.in_default-None.is-1)

pub returns-in_default-None-2 : goal.returns-in_default-None-2
returns-in_default-None-2 c =
    covers_second _ _ (sym c.place-2.ensures ∙ c.in_default-None.is-1)
