-- A loop that sets each element of a list in turn: what is done so far, and the definition of the rest.
-- Assumes nothing.
use mathlib.Core.Bool.{Bool, true, false, cond, ◌&&◌, ◌||◌}
use Prim.Native.Nat.{ℕ, zero, suc, ◌+◌, ◌-◌, ◌/◌, ◌%◌, ◌^◌, ◌<◌, ◌≤◌}
use lib.Dec.{eqb}
use lib.Pow.{shr-shr}
use lib.Count.{count_trailing_zeros, under}
use native.Mathlib.Nat.{div-one}
use Rattle.masks.specs.Mask.{change_under, some_under}
use mathlib.Core.Path.{◌≡◌, refl, sym, ap, ◌∙◌}
use mathlib.Core.List.{List, [], ◌∷◌, ◌++◌, append_assoc, append-nil, map}
use native.Mathlib.Omega.{arith}
use native.Mathlib.Numerals.{add-one}
use lib.ListN.{length, get_or, set, take, drop, drop_of_length-le, length-map, length-drop}
use lib.Seq.{take-suc-set, drop-set-lt, drop-cons, drop-nil, take_all}

module _ {A : Type 0} (d : A) where
  -- one turn: g is the spec of the rest before it, h after it, and v what is stored
  pub turn : (g h : List A → List A) (f : A → A) → ((x : A) (xs : List A) → g (x ∷ xs) ≡ f x ∷ h xs)
      → (l : List A) (i : ℕ) → i < length l → (v : A) → v ≡ f (get_or l i d)
      → take (i + 1) (set l i v) ++ h (drop (i + 1) (set l i v)) ≡ take i l ++ g (drop i l)
  turn g h f e l i p v q =
      let lt : i < suc i = omega arith in
      rw (add-one, take-suc-set l i v p, drop-set-lt (suc i) l i v lt, append_assoc, drop-cons l i d p, e, q)

  pub end : (g : List A → List A) → g [] ≡ [] → (l : List A) (i : ℕ) → length l ≤ i → take i l ++ g (drop i l) ≡ l
  end g e l i p = rw (drop_of_length-le l p, e, append-nil, take_all i l p)

pub mapped_length : {X Y : Type 0} (f : X → Y) (l : List X) (n : ℕ) → length (map f l) ≡ n → length l ≡ n
mapped_length f l n e = sym (length-map l f) ∙ e

-- a loop that changes each element under the lowest bit of a mask and halves the mask
module _ {A : Type 0} (d : A) (f : A → A) where
  pub under_turn : (w : ℕ) (l : List A) (i : ℕ) → i < length l → (v : A) → v ≡ cond (eqb (w % 2) 1) (f (get_or l i d)) (get_or l i d)
      → take (i + 1) (set l i v) ++ change_under f (w / 2) (drop (i + 1) (set l i v)) ≡ take i l ++ change_under f w (drop i l)
  under_turn w l i p v q =
      turn d (change_under f w) (change_under f (w / 2)) (λ (x : A). cond (eqb (w % 2) 1) (f x) x) (λ x xs. refl) l i p v q

  pub under_end : (w : ℕ) (l : List A) (i : ℕ) → length l ≤ i → take i l ++ change_under f w (drop i l) ≡ l
  under_end w l i p = end d (change_under f w) refl l i p

-- a loop that looks at each element under the lowest bit of a mask and halves the mask
module _ {A : Type 0} (d : A) (f : A → Bool) where
  pub some_turn : (w : ℕ) (l : List A) (i : ℕ) → i < length l → (b t : Bool) → t ≡ (eqb (w % 2) 1 && f (get_or l i d))
      → ((b || t) || some_under f (w / 2) (drop (i + 1) l)) ≡ (b || some_under f w (drop i l))
  some_turn w l i p true t q = refl
  some_turn w l i p false t q = rw (add-one, drop-cons l i d p, q)

  pub some_end : (w : ℕ) (l : List A) (i : ℕ) → length l ≤ i → (b : Bool) → (b || some_under f w (drop i l)) ≡ b
  some_end w l i p true = refl
  some_end w l i p false = rw (drop_of_length-le l p)

halved : (n t : ℕ) → n / 2 ^ suc t ≡ n / 2 / 2 ^ t
halved n t =
    let e : suc t ≡ 1 + t = omega arith in
    ap (λ (j : ℕ). n / 2 ^ j) e ∙ sym (shr-shr n 1 t)

-- such a loop may start at the first under the mask, and stop where nothing is left of the mask
module _ {A : Type 0} (f : A → Bool) where
  pub some_from : (k n : ℕ) (l : List A) → some_under f (n / 2 ^ count_trailing_zeros k n) (drop (count_trailing_zeros k n) l) ≡ some_under f n l
  unfolding count_trailing_zeros
  some_from zero n l = rw div-one
  some_from (suc k) n [] = rw drop-nil
  some_from (suc k) n (x ∷ l) = by_digit (n % 2) (count_trailing_zeros k (n / 2)) refl (some_from k (n / 2) l)
    where
      by_digit : (r t : ℕ) → n % 2 ≡ r → some_under f (n / 2 / 2 ^ t) (drop t l) ≡ some_under f (n / 2) l
          → some_under f (n / 2 ^ under r t) (drop (under r t) (x ∷ l)) ≡ ((eqb r 1 && f x) || some_under f (n / 2) l)
      by_digit zero t e rest = rw (halved n t) rest
      by_digit (suc r) t e rest = rw (div-one, e)

  some_none : (l : List A) → some_under f 0 l ≡ false
  some_none [] = refl
  some_none (x ∷ l) = some_none l

  -- nothing is left of the mask
  pub none_left : (w : ℕ) → w ≡ 0 → (l : List A) → some_under f w l ≡ false
  none_left w e l = rw e (some_none l)

  pub some_out : (w : ℕ) → w ≡ 0 → (l : List A) (b : Bool) → (b || some_under f w l) ≡ b
  some_out w e l true = refl
  some_out w e l false = rw e (some_none l)

  -- nobody of the set stands in a list that ends before its first
  pub none_in_short : (k n i : ℕ) (l : List A) → i ≡ count_trailing_zeros k n → length l < i → false ≡ some_under f n l
  none_in_short k n i l e h =
      sym (ap (λ (xs : List A). some_under f (n / 2 ^ count_trailing_zeros k n) xs) (drop_of_length-le l (omega (arith, e)))) ∙ some_from k n l

  pub some_there : (k n i : ℕ) (l : List A) → i ≡ count_trailing_zeros k n → some_under f (n / 2 ^ i) (take (length l - i) (drop i l)) ≡ some_under f n l
  some_there k n i l e =
      let all : take (length l - i) (drop i l) ≡ drop i l = take_all (length l - i) (drop i l) (omega (arith, length-drop i l)) in
      rw (all, e) (some_from k n l)
