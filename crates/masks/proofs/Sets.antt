-- Who is in a set, and what a change in a set leaves at each place.
-- Assumes nothing.
use mathlib.Core.Path.{◌≡◌, refl, sym, ap, ◌∙◌}
use mathlib.Core.Bool.{Bool, true, false, cond, ◌&&◌, ◌||◌}
use mathlib.Core.List.{List, [], ◌∷◌}
use Prim.Native.Nat.{ℕ, zero, suc, ◌+◌, ◌≤◌}
use native.Mathlib.Omega.{arith}
use lib.ListN.{length, get_or}
use Rattle.masks.specs.Mask.{Set, any, both, either, those_at, those, change_in}

-- whether the one at place j is in the set
abbrev pub has : Set → ℕ → Bool
has s j = get_or s j false

pub no_right : (a : Bool) → (a && false) ≡ false
no_right true = refl
no_right false = refl

yes_left : (a : Bool) → (a || false) ≡ a
yes_left true = refl
yes_left false = refl

pub has_both : (s t : Set) (j : ℕ) → has (both s t) j ≡ (has s j && has t j)
has_both [] t j = refl
has_both (a ∷ s) [] zero = sym (no_right a)
has_both (a ∷ s) [] (suc j) = sym (no_right (has s j))
has_both (a ∷ s) (b ∷ t) zero = refl
has_both (a ∷ s) (b ∷ t) (suc j) = has_both s t j

pub has_either : (s t : Set) (j : ℕ) → has (either s t) j ≡ (has s j || has t j)
has_either [] t j = refl
has_either (a ∷ s) [] zero = sym (yes_left a)
has_either (a ∷ s) [] (suc j) = sym (yes_left (has s j))
has_either (a ∷ s) (b ∷ t) zero = refl
has_either (a ∷ s) (b ∷ t) (suc j) = has_either s t j

-- where nobody is in it, nobody is
pub has_none : (s : Set) → any s ≡ false → (j : ℕ) → has s j ≡ false
has_none [] e j = refl
has_none (false ∷ s) e zero = refl
has_none (false ∷ s) e (suc j) = has_none s e j
has_none (true ∷ s) e j = let z : ◌≡◌ {A = ℕ} 0 1 = cc in absurd (omega arith)

-- At each place, and beyond the list if what stands for it there keeps out of the set, or is changed to itself.
module _ {A : Type 0} where
  pub has_at : (f : ℕ → A → Bool) (d : A) (k : ℕ) (xs : List A) (j : ℕ) → (length xs ≤ j → f (k + j) d ≡ false)
      → has (those_at f k xs) j ≡ f (k + j) (get_or xs j d)
  has_at f d k [] j h = sym (h (omega arith))
  has_at f d k (x ∷ xs) zero h = ap (λ (n : ℕ). f n x) (omega arith)
  has_at f d k (x ∷ xs) (suc j) h =
      let e : suc k + j ≡ k + suc j = omega arith in
      has_at f d (suc k) xs j (λ l. ap (λ (n : ℕ). f n d) e ∙ h (omega arith)) ∙ ap (λ (n : ℕ). f n (get_or xs j d)) e

  pub has_those : (f : A → Bool) (d : A) (xs : List A) (j : ℕ) → (length xs ≤ j → f d ≡ false) → has (those f xs) j ≡ f (get_or xs j d)
  has_those f d [] j h = sym (h (omega arith))
  has_those f d (x ∷ xs) zero h = refl
  has_those f d (x ∷ xs) (suc j) h = has_those f d xs j (λ l. h (omega arith))

  pub changed : (f : A → A) (d : A) (s : Set) (xs : List A) (j : ℕ) → (length xs ≤ j → cond (has s j) (f d) d ≡ d)
      → get_or (change_in f s xs) j d ≡ cond (has s j) (f (get_or xs j d)) (get_or xs j d)
  changed f d [] xs j h = refl
  changed f d (b ∷ s) [] j h = sym (h (omega arith))
  changed f d (b ∷ s) (x ∷ xs) zero h = refl
  changed f d (b ∷ s) (x ∷ xs) (suc j) h = changed f d s xs j (λ l. h (omega arith))

  pub length_changed : (f : A → A) (s : Set) (xs : List A) → length (change_in f s xs) ≡ length xs
  length_changed f [] xs = refl
  length_changed f (b ∷ s) [] = refl
  length_changed f (b ∷ s) (x ∷ xs) = ap suc (length_changed f s xs)
