-- The laws of the modes, each by one computed test over no lock and the six. The engines and the network use these, not the tables.
-- They hold of every number, since what is no mode counts as no lock.
-- Assumes nothing.
use mathlib.Core.Path.{◌≡◌, refl, sym, ◌∙◌}
use mathlib.Core.Bool.{Bool, true, false, cond, ◌&&◌, ◌||◌, not, beq}
use mathlib.Core.List.{[], ◌∷◌}
use Prim.Native.Nat.{ℕ, zero, suc, ◌<◌, ◌≤◌}
use native.Mathlib.Omega.{arith}
use lib.Dec.{eqb, leb, eqb-suc-zero}
use borrow.Author.Tests.{leb-true, le-leb, eqb-true}
use Rattle.modes.specs.Modes.{as_mode, is_mode, among, goes, over, is_least, first_of, zero_to_x, goes_with, covers, join, writes}
use Rattle.modes.proofs.Range.{every, every2, every3, at, at2, at3, same, implied}

as_mode_below : (b : Bool) (n : ℕ) → leb n 6 ≡ b → cond b n 0 < 7
as_mode_below true n e = omega (arith, leb-true n 6 e)
as_mode_below false n e = omega arith

pub below : (n : ℕ) → as_mode n < 7
below n = as_mode_below (leb n 6) n refl

-- a test over 0 to 6, said of all numbers
pub all1 : (f : ℕ → Bool) → every 7 f ≡ true → (a : ℕ) → f (as_mode a) ≡ true
all1 f e a = at 7 f e (as_mode a) (below a)

pub all2 : (f : ℕ → ℕ → Bool) → every2 7 f ≡ true → (a b : ℕ) → f (as_mode a) (as_mode b) ≡ true
all2 f e a b = at2 7 f e (as_mode a) (as_mode b) (below a) (below b)

pub all3 : (f : ℕ → ℕ → ℕ → Bool) → every3 7 f ≡ true → (a b c : ℕ) → f (as_mode a) (as_mode b) (as_mode c) ≡ true
all3 f e a b c = at3 7 f e (as_mode a) (as_mode b) (as_mode c) (below a) (below b) (below c)

-- to be one of the six is not to count as no lock
pub mode_number : (a : ℕ) → is_mode a ≡ not (eqb (as_mode a) 0)
unfolding is_mode
mode_number zero = refl
mode_number (suc n) = by_test (leb (suc n) 6) refl
  where
    by_test : (t : Bool) → leb (suc n) 6 ≡ t → (leb 1 (suc n) && leb (suc n) 6) ≡ not (eqb (as_mode (suc n)) 0)
    by_test true e = simp (e, le-leb 1 (suc n) (omega arith), eqb-suc-zero)
    by_test false e = simp (e, le-leb 1 (suc n) (omega arith))

-- what is none of the six counts as no lock
pub none_else : (n : ℕ) → (n ≡ 1 → ⊥) → (n ≡ 2 → ⊥) → (n ≡ 3 → ⊥) → (n ≡ 4 → ⊥) → (n ≡ 5 → ⊥) → (n ≡ 6 → ⊥) → 0 ≡ as_mode n
none_else n h1 h2 h3 h4 h5 h6 = by_test (leb n 6) refl
  where
    by_test : (t : Bool) → leb n 6 ≡ t → 0 ≡ as_mode n
    by_test true e = let z : 0 ≡ n = omega (arith, leb-true n 6 e) in rw (← z)
    by_test false e = simp e

-- "the same both ways"
pub symmetric : (a b : ℕ) → goes_with a b ≡ goes_with b a
unfolding goes_with
symmetric a b = same (goes_with a b) (goes_with b a) (all2 (λ (a b : ℕ). beq (goes a b) (goes b a)) refl a b)

-- "Joining with 0 changes nothing."
pub join_none : (a : ℕ) → join a 0 ≡ as_mode a
unfolding join
join_none a = eqb-true _ _ (all1 (λ (a : ℕ). eqb (first_of (is_least a 0) zero_to_x) a) refl a)

pub none_join : (a : ℕ) → join 0 a ≡ as_mode a
unfolding join
none_join a = eqb-true _ _ (all1 (λ (a : ℕ). eqb (first_of (is_least 0 a) zero_to_x) a) refl a)

-- no lock is in nobody's way, and anything covers it
pub none_goes : (b : ℕ) → goes_with 0 b ≡ true
unfolding goes_with
none_goes b = refl

pub covers_none : (a : ℕ) → covers a 0 ≡ true
unfolding covers
covers_none a = refl

-- to cover is an order
pub covers_self : (a : ℕ) → covers a a ≡ true
unfolding covers
covers_self a = all1 (λ (a : ℕ). over a a) refl a

pub covers_trans : (a b c : ℕ) → covers a b ≡ true → covers b c ≡ true → covers a c ≡ true
unfolding covers
covers_trans a b c p q =
    implied _ _ (implied _ _ (all3 (λ (a b c : ℕ). not (over a b) || (not (over b c) || over a c)) refl a b c) p) q

-- the join covers both, and whatever covers both covers it
pub join_left : (a b : ℕ) → covers (join a b) a ≡ true
unfolding covers join
join_left a b = all2 (λ (a b : ℕ). over (as_mode (first_of (is_least a b) zero_to_x)) a) refl a b

pub join_right : (a b : ℕ) → covers (join a b) b ≡ true
unfolding covers join
join_right a b = all2 (λ (a b : ℕ). over (as_mode (first_of (is_least a b) zero_to_x)) b) refl a b

pub join_least : (a b m : ℕ) → covers m a ≡ true → covers m b ≡ true → covers m (join a b) ≡ true
unfolding covers join
join_least a b m p q =
    implied _ _
    (implied _ _
    (all3 (λ (a b m : ℕ). not (over m a) || (not (over m b) || over m (as_mode (first_of (is_least a b) zero_to_x)))) refl a b m) p)
    q

-- the join is a mode where the second is one, and never above X
pub join_small : (a b : ℕ) → join a b ≤ 6
unfolding join
join_small a b = leb-true _ _ (all2 (λ (a b : ℕ). leb (first_of (is_least a b) zero_to_x) 6) refl a b)

pub join_mode : (a b : ℕ) → is_mode b ≡ true → is_mode (join a b) ≡ true
unfolding join
join_mode a b h =
    mode_number (join a b)
    ∙ implied _ _
    (all2 (λ (a b : ℕ). not (not (eqb b 0)) || not (eqb (as_mode (first_of (is_least a b) zero_to_x)) 0)) refl a b)
    (sym (mode_number b) ∙ h)

-- what a covers goes with whatever a goes with
pub covered_goes : (a b c : ℕ) → covers a b ≡ true → goes_with a c ≡ true → goes_with b c ≡ true
unfolding goes_with covers
covered_goes a b c p q =
    implied _ _ (implied _ _ (all3 (λ (a b c : ℕ). not (over a b) || (not (goes a c) || goes b c)) refl a b c) p) q

-- two modes covered by modes that go together go together
pub both_covered_go : (a b c d : ℕ) → covers a b ≡ true → covers c d ≡ true → goes_with a c ≡ true → goes_with b d ≡ true
both_covered_go a b c d p q g =
    let h : goes_with c b ≡ true = symmetric c b ∙ covered_goes a b c p g in
    symmetric b d ∙ covered_goes c d b q h

-- a mode that writes is a lock
pub writes_mode : (a : ℕ) → writes a ≡ true → is_mode a ≡ true
unfolding writes
writes_mode a h =
    mode_number a ∙ implied _ _ (all1 (λ (a : ℕ). not (among a (4 ∷ 5 ∷ 6 ∷ [])) || not (eqb a 0)) refl a) h

-- what covers a mode is one, and what covers a writing one writes
pub mode_covered : (a b : ℕ) → covers a b ≡ true → is_mode b ≡ true → is_mode a ≡ true
unfolding covers
mode_covered a b p q =
    mode_number a
    ∙ implied _ _
    (implied _ _ (all2 (λ (a b : ℕ). not (over a b) || (not (not (eqb b 0)) || not (eqb a 0))) refl a b) p)
    (sym (mode_number b) ∙ q)

pub writes_covered : (a b : ℕ) → covers a b ≡ true → writes b ≡ true → writes a ≡ true
unfolding covers writes
writes_covered a b p q =
    implied _ _
    (implied _ _
    (all2 (λ (a b : ℕ). not (over a b) || (not (among b (4 ∷ 5 ∷ 6 ∷ [])) || among a (4 ∷ 5 ∷ 6 ∷ []))) refl a b) p)
    q
