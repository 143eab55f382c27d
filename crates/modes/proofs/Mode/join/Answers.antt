-- `join` answers what the table holds, and the other where one is no lock.
use Rattle.std.proofs.Common.{refl, sym, ap, ◌∙◌, ℕ}
use lib.Dec.{eqb}
use borrow.Author.Tests.{eqb-true}
use Rattle.modes.specs.Modes.{mode, join, is_least, first_of, zero_to_x}
use Rattle.modes.proofs.Lookup.{as_cell, looked, join_first, join_second, join_none}
use Rattle.modes.proofs.Mode.join.Goals as goal

pub returns-in-Some-Some : goal.returns-in-Some-Some
unfolding join
returns-in-Some-Some c =
    let a = c.args in
    let i = sym c.place.ensures ∙ c.in-Some-Some.is-0 in
    let j = sym c.place-2.ensures ∙ c.in-Some-Some.is-1 in
    ap mode (rw (as_cell {A = ℕ} 0) (looked 0 eqb eqb-true _ (λ (a b : ℕ). first_of (is_least a b) zero_to_x) a.self.0 a.other.0 _ _ i j refl))

pub returns-in-Some-None : goal.returns-in-Some-None
returns-in-Some-None c =
    ap mode (join_second _ _ _ (sym c.place.ensures ∙ c.in-Some-None.is-0) (sym c.place-2.ensures ∙ c.in-Some-None.is-1))

pub returns-in-None-Some : goal.returns-in-None-Some
returns-in-None-Some c =
    ap mode (join_first _ _ _ (sym c.place.ensures ∙ c.in-None-Some.is-0) (sym c.place-2.ensures ∙ c.in-None-Some.is-1))

pub returns-in-None-None : goal.returns-in-None-None
returns-in-None-None c =
    ap mode (join_none _ _ (sym c.place.ensures ∙ c.in-None-None.is-0) (sym c.place-2.ensures ∙ c.in-None-None.is-1))
