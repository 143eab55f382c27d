-- What a table holds at the places of two modes, and what the rules say where one of the two is no lock.
-- Assumes nothing.
use mathlib.Core.Path.{◌≡◌, refl, sym, ◌∙◌}
use mathlib.Core.Bool.{Bool, true, false, ◌||◌, not, beq}
use mathlib.Core.List.{List, [], ◌∷◌}
use Prim.Native.Nat.{ℕ, zero, suc, ◌-◌, ◌<◌, ◌≤◌}
use Rattle.std.proofs.Common.{Some, None}
use lib.Dec.{eqb, leb, ltb}
use lib.ListN.{get_or}
use native.Mathlib.Omega.{arith}
use borrow.Author.Tests.{le-leb, lt-leb, lt-ltb, leb-false, eqb-true, not-true}
use Rattle.modes.specs.Modes.{as_mode, among, writes, goes, over, is_least, first_of, zero_to_x, goes_with, covers, join, is_mode}
use Rattle.modes.specs.Place.{place_in, place_of, place_at}
use Rattle.modes.proofs.Range.{every2, same, implied}
use Rattle.modes.proofs.Laws.{all1, all2}

-- the place that the code works out is the mode's
pub place_none : (m : ℕ) → false ≡ is_mode m → None ≡ place_at m
unfolding place_of is_mode
place_none m e = grind arith

pub place_mode : (m : ℕ) → true ≡ is_mode m → Some (m - 1) ≡ place_at m
unfolding place_of is_mode
place_mode zero e = grind arith
place_mode (suc m) e = grind arith

pub place_above : (m : ℕ) → 6 < m → 6 ≡ place_of m
unfolding place_of
place_above m h = simp (lt-leb m 6 h)

-- what a place that the code found, or found none, tells
pub absent : (m : ℕ) → place_at m ≡ None → 6 ≤ place_of m
absent m e = grind arith

pub present : (m i : ℕ) → place_at m ≡ Some i → (i ≡ place_of m) × (i < 6)
present m i e = (grind arith, grind arith)

within : (m i : ℕ) → place_at m ≡ Some i → place_of m < 6
within m i e = let p = present m i e in omega arith

-- a place in the tables is that of a number up to 6
pub known : (a : ℕ) → place_of a < 6 → as_mode a ≡ a
known a h = by_test (leb a 6) refl
  where
    by_test : (t : Bool) → leb a 6 ≡ t → as_mode a ≡ a
    by_test true e = simp e
    by_test false e = absurd (omega (arith, place_above a (leb-false a 6 e)))

-- A table of the code, of bools or of numbers, that agrees with the rule g at each place says what g says.
-- `cell` names what stands in a table, so that a proof need not write the table again.
module _ {A : Type 0} (d : A) where
  pub cell : List (List A) → ℕ → ℕ → A
  cell t i j = get_or (get_or t i []) j d

  pub as_cell : (t : List (List A)) (i j : ℕ) → get_or (get_or t i []) j d ≡ cell t i j
  unfolding cell
  as_cell t i j = refl

  abbrev pub agrees : (A → A → Bool) → List (List A) → (ℕ → ℕ → A) → ℕ → ℕ → Bool
  agrees eq t g a b =
      not (ltb (place_in a) 6) || (not (ltb (place_in b) 6) || eq (get_or (get_or t (place_in a) []) (place_in b) d) (g a b))

  pub looked : (eq : A → A → Bool) → ((x y : A) → eq x y ≡ true → x ≡ y) → (t : List (List A)) (g : ℕ → ℕ → A) (a b i j : ℕ) → place_at a ≡ Some i → place_at b ≡ Some j → every2 7 (agrees eq t g) ≡ true → cell t i j ≡ g (as_mode a) (as_mode b)
  unfolding cell place_of
  looked eq sound t g a b i j ei ej e =
      rw ((present a i ei).0, (present b j ej).0)
      (sound _ _
      (implied _ _
      (implied _ _ (all2 (agrees eq t g) e a b) (lt-ltb (place_of a) 6 (within a i ei)))
      (lt-ltb (place_of b) 6 (within b j ej))))

-- where one of the two is no mode, or both are
module _ (a b : ℕ) where
  pub goes_first : place_at a ≡ None → true ≡ goes_with a b
  unfolding goes_with place_of
  goes_first h =
      sym (implied _ _ (all2 (λ (a b : ℕ). not (leb 6 (place_in a)) || goes a b) refl a b) (le-leb 6 (place_of a) (absent a h)))

  pub goes_second : place_at b ≡ None → true ≡ goes_with a b
  unfolding goes_with place_of
  goes_second h =
      sym (implied _ _ (all2 (λ (a b : ℕ). not (leb 6 (place_in b)) || goes a b) refl a b) (le-leb 6 (place_of b) (absent b h)))

  pub covers_second : place_at b ≡ None → true ≡ covers a b
  unfolding covers place_of
  covers_second h =
      sym (implied _ _ (all2 (λ (a b : ℕ). not (leb 6 (place_in b)) || over a b) refl a b) (le-leb 6 (place_of b) (absent b h)))

  pub covers_first : (j : ℕ) → place_at b ≡ Some j → place_at a ≡ None → false ≡ covers a b
  unfolding covers place_of
  covers_first j k h =
      sym (not-true _
      (implied _ _
      (implied _ _ (all2 (λ (a b : ℕ). not (ltb (place_in b) 6) || (not (leb 6 (place_in a)) || not (over a b))) refl a b) (lt-ltb (place_of b) 6 (within b j k)))
      (le-leb 6 (place_of a) (absent a h))))

  pub join_second : (i : ℕ) → place_at a ≡ Some i → place_at b ≡ None → a ≡ join a b
  unfolding join place_of
  join_second i k h =
      sym (known a (within a i k))
      ∙ eqb-true _ _
      (implied _ _
      (implied _ _ (all2 (λ (a b : ℕ). not (ltb (place_in a) 6) || (not (leb 6 (place_in b)) || eqb a (first_of (is_least a b) zero_to_x))) refl a b) (lt-ltb (place_of a) 6 (within a i k)))
      (le-leb 6 (place_of b) (absent b h)))

  pub join_first : (j : ℕ) → place_at a ≡ None → place_at b ≡ Some j → b ≡ join a b
  unfolding join place_of
  join_first j h k =
      sym (known b (within b j k))
      ∙ eqb-true _ _
      (implied _ _
      (implied _ _ (all2 (λ (a b : ℕ). not (leb 6 (place_in a)) || (not (ltb (place_in b) 6) || eqb b (first_of (is_least a b) zero_to_x))) refl a b) (le-leb 6 (place_of a) (absent a h)))
      (lt-ltb (place_of b) 6 (within b j k)))

  pub join_none : place_at a ≡ None → place_at b ≡ None → 0 ≡ join a b
  unfolding join place_of
  join_none h k =
      eqb-true _ _
      (implied _ _
      (implied _ _ (all2 (λ (a b : ℕ). not (leb 6 (place_in a)) || (not (leb 6 (place_in b)) || eqb 0 (first_of (is_least a b) zero_to_x))) refl a b) (le-leb 6 (place_of a) (absent a h)))
      (le-leb 6 (place_of b) (absent b k)))

-- W, U and X are the modes that cover W
pub writing : (a : ℕ) → covers a 4 ≡ writes a
unfolding covers writes
writing a = same _ _ (all1 (λ (a : ℕ). beq (over a 4) (among a (4 ∷ 5 ∷ 6 ∷ []))) refl a)
