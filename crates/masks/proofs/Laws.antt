-- Masks: a mask fits as many bits as its set has places, its ones are those in the set, and bit by bit it is the set.
-- Assumes nothing.
use mathlib.Core.Path.{◌≡◌, refl, sym, ap, ◌∙◌}
use mathlib.Core.Bool.{Bool, true, false, cond, ◌&&◌, ◌||◌}
use mathlib.Core.List.{List, [], ◌∷◌}
use Prim.Native.Nat.{ℕ, zero, suc, ◌+◌, ◌-◌, ◌*◌, ◌/◌, ◌%◌, ◌^◌, ◌<◌, ◌≤◌, min, max}
use native.Mathlib.Nat.{pow-suc, max-zero}
use native.Mathlib.Omega.{arith}
use native.Mathlib.Numerals.{add-one}
use lib.Dec.{eqb, lit<}
use borrow.Author.Tests.{eqb-true, eqb-false}
use lib.Bits.{bit_and, bit_or, and_step, or_step, and_zero_l, and_zero_r, or_zero_l, or_zero_r}
use lib.Pow.{pow_mono}
use lib.Count.{ones, ones_in, ones_step, count_trailing_zeros}
use lib.ListN.{length, get_or, take, drop, replicate, length-drop, drop_of_length-le}
use lib.Seq.{drop-cons}
use Rattle.std.proofs.lemmas.List.{take_all, take_min}
use Rattle.masks.specs.Mask.{Set, bit_of, mask, count, any, both, either, set_of, those_at, those, change_in, change_under, some_under}

pub bit_small : (b : Bool) → bit_of b < 2
bit_small true = lit< tt
bit_small false = lit< tt

pub half : (b : Bool) (s : Set) → (mask s * 2 + bit_of b) / 2 ≡ mask s
half b s = omega (arith, bit_small b)

pub odd : (b : Bool) (s : Set) → (mask s * 2 + bit_of b) % 2 ≡ bit_of b
odd b s = omega (arith, bit_small b)

pub odd_test : (b : Bool) (s : Set) → eqb ((mask s * 2 + bit_of b) % 2) 1 ≡ b
odd_test b s = ap (λ (n : ℕ). eqb n 1) (odd b s) ∙ bit_test b
  where
    bit_test : (b : Bool) → eqb (bit_of b) 1 ≡ b
    bit_test true = refl
    bit_test false = refl

pub mask_small : (s : Set) → mask s < 2 ^ length s
mask_small [] = lit< tt
mask_small (b ∷ s) = rw (pow-suc 2 (length s)) (omega (arith, mask_small s, bit_small b))

pub mask_fits : (n : ℕ) (s : Set) → length s ≤ n → mask s < 2 ^ n
mask_fits n s h = omega (arith, mask_small s, pow_mono h)

pub mask_ones : (s : Set) → ones (mask s) ≡ count s
unfolding ones ones_in
mask_ones [] = refl
mask_ones (b ∷ s) = ones_step (mask s * 2 + bit_of b) ∙ rw (odd b s, half b s, mask_ones s)

-- the mask is 0 exactly where nobody is in the set
pub mask_none : (s : Set) → any s ≡ false → mask s ≡ 0
mask_none [] e = refl
mask_none (false ∷ s) e = rw (mask_none s e)
mask_none (true ∷ s) e = let z : ◌≡◌ {A = ℕ} 0 1 = cc in absurd (omega arith)

pub none_mask : (s : Set) → mask s ≡ 0 → any s ≡ false
none_mask [] e = refl
none_mask (false ∷ s) e = none_mask s (omega arith)
none_mask (true ∷ s) e = absurd (omega arith)

low : (a b : Bool) → min (bit_of a) (bit_of b) ≡ bit_of (a && b)
low true true = refl
low true false = refl
low false true = refl
low false false = refl

high : (a b : Bool) → max (bit_of a) (bit_of b) ≡ bit_of (a || b)
high true true = refl
high true false = refl
high false true = refl
high false false = refl

pub mask_both : (s t : Set) → bit_and (mask s) (mask t) ≡ mask (both s t)
mask_both [] t = and_zero_l (mask t)
mask_both (a ∷ s) [] = and_zero_r (mask (a ∷ s))
mask_both (a ∷ s) (b ∷ t) =
    and_step (mask s * 2 + bit_of a) (mask t * 2 + bit_of b) ∙ rw (half a s, half b t, odd a s, odd b t, mask_both s t, low a b)

-- the set that a mask stands for, and those of a set that are under any number
pub set_mask : (s : Set) → set_of (length s) (mask s) ≡ s
set_mask [] = refl
set_mask (b ∷ s) = rw (odd_test b s, half b s, set_mask s)

low_bit : (w : ℕ) → w % 2 ≡ bit_of (eqb (w % 2) 1)
low_bit w = by_test (eqb (w % 2) 1) refl
  where
    by_test : (b : Bool) → eqb (w % 2) 1 ≡ b → w % 2 ≡ bit_of b
    by_test true e = eqb-true (w % 2) 1 e
    by_test false e = omega (arith, eqb-false (w % 2) 1 e)

pub mask_under : (s : Set) (w : ℕ) → bit_and (mask s) w ≡ mask (both s (set_of (length s) w))
mask_under [] w = and_zero_l w
mask_under (a ∷ s) w =
    and_step (mask s * 2 + bit_of a) w ∙ rw (half a s, odd a s, mask_under s (w / 2), lower)
  where
    lower : min (bit_of a) (w % 2) ≡ bit_of (a && eqb (w % 2) 1)
    lower = ap (λ (n : ℕ). min (bit_of a) n) (low_bit w) ∙ low a (eqb (w % 2) 1)

pub mask_either : (s t : Set) → bit_or (mask s) (mask t) ≡ mask (either s t)
mask_either [] t = or_zero_l (mask t)
mask_either (a ∷ s) [] = or_zero_r (mask (a ∷ s))
mask_either (a ∷ s) (b ∷ t) =
    or_step (mask s * 2 + bit_of a) (mask t * 2 + bit_of b) ∙ rw (half a s, half b t, odd a s, odd b t, mask_either s t, high a b)

-- a bit on its place, below the sixty-fourth
pub shifted : (i : ℕ) → i < 64 → 1 * 2 ^ i % 2 ^ 64 ≡ 2 ^ i
shifted i h =
    let within : i ≤ 63 = omega arith in
    let top : 2 ^ i ≤ 2 ^ 63 = pow_mono within in
    omega arith

pub doubled : (i : ℕ) → 2 ^ (i + 1) ≡ 2 * 2 ^ i
doubled i = rw add-one (omega (arith, pow-suc 2 i))

-- with place k taken in, the first is looked for up to k: it is at k where none before is in the set
pub first_up_to : (k j n : ℕ) → k < j → count_trailing_zeros j (bit_or n (2 ^ k)) ≡ count_trailing_zeros k n
unfolding count_trailing_zeros
first_up_to k zero n h = absurd (omega arith)
first_up_to zero (suc j) n h = rw lowest
  where
    lowest : bit_or n 1 % 2 ≡ 1
    lowest = omega (arith, or_step n 1)
first_up_to (suc k) (suc j) n h = rw (rest, lowest, first_up_to k j (n / 2) (omega arith))
  where
    digits : bit_or n (2 ^ suc k) ≡ bit_or (n / 2) (2 ^ k) * 2 + n % 2
    digits =
        let p : 2 ^ suc k / 2 ≡ 2 ^ k = omega (arith, pow-suc 2 k) in
        let q : 2 ^ suc k % 2 ≡ 0 = omega (arith, pow-suc 2 k) in
        or_step n (2 ^ suc k) ∙ rw (p, q, max-zero)

    rest : bit_or n (2 ^ suc k) / 2 ≡ bit_or (n / 2) (2 ^ k)
    rest = omega (arith, digits)

    lowest : bit_or n (2 ^ suc k) % 2 ≡ n % 2
    lowest = omega (arith, digits)

module _ {A : Type 0} where
  step_at_lem : (f : ℕ → A → Bool) (d : A) (xs : List A) (k j : ℕ) → j < length xs
      → mask (those_at f k (drop j xs)) ≡ mask (those_at f (suc k) (drop (suc j) xs)) * 2 + bit_of (f k (get_or xs j d))
  step_at_lem f d xs k j h = rw (drop-cons xs j d h)

  step : (f : A → Bool) (d : A) (xs : List A) (j : ℕ) → j < length xs
      → mask (those f (drop j xs)) ≡ mask (those f (drop (suc j) xs)) * 2 + bit_of (f (get_or xs j d))
  step f d xs j h = rw (drop-cons xs j d h)

  -- a loop that goes down and doubles: the mask of one element more
  pub turn_at : (f : ℕ → A → Bool) (d : A) (xs : List A) (i : ℕ) → 0 < i → i ≤ length xs
      → mask (those_at f i (drop i xs)) * 2 + bit_of (f (i - 1) (get_or xs (i - 1) d)) ≡ mask (those_at f (i - 1) (drop (i - 1) xs))
  turn_at f d xs i h l =
      let e : suc (i - 1) ≡ i = omega arith in
      sym (step_at_lem f d xs (i - 1) (i - 1) (omega arith) ∙ rw e)

  pub turn : (f : A → Bool) (d : A) (xs : List A) (i : ℕ) → 0 < i → i ≤ length xs
      → mask (those f (drop i xs)) * 2 + bit_of (f (get_or xs (i - 1) d)) ≡ mask (those f (drop (i - 1) xs))
  turn f d xs i h l =
      let e : suc (i - 1) ≡ i = omega arith in
      sym (step f d xs (i - 1) (omega arith) ∙ rw e)

  -- it starts at nothing, and leaves a bit free until it is done
  pub none_at : (f : ℕ → A → Bool) (xs : List A) (k n : ℕ) → length xs ≤ n → 0 ≡ mask (those_at f k (drop n xs))
  none_at f xs k n h = sym (ap (λ (ys : List A). mask (those_at f k ys)) (drop_of_length-le xs h))

  pub none : (f : A → Bool) (xs : List A) (n : ℕ) → length xs ≤ n → 0 ≡ mask (those f (drop n xs))
  none f xs n h = sym (ap (λ (ys : List A). mask (those f ys)) (drop_of_length-le xs h))

  pub length_at : (f : ℕ → A → Bool) (k : ℕ) (xs : List A) → length (those_at f k xs) ≡ length xs
  length_at f k [] = refl
  length_at f k (x ∷ xs) = ap suc (length_at f (suc k) xs)

  pub length_those : (f : A → Bool) (xs : List A) → length (those f xs) ≡ length xs
  length_those f [] = refl
  length_those f (x ∷ xs) = ap suc (length_those f xs)

  pub room_at : (f : ℕ → A → Bool) (xs : List A) (k i : ℕ) → 0 < i → length xs ≤ 64 → mask (those_at f k (drop i xs)) < 2 ^ 63
  room_at f xs k i h l = mask_fits 63 (those_at f k (drop i xs)) (omega (arith, length_at f k (drop i xs), length-drop i xs))

  pub room : (f : A → Bool) (xs : List A) (i : ℕ) → 0 < i → length xs ≤ 64 → mask (those f (drop i xs)) < 2 ^ 63
  room f xs i h l = mask_fits 63 (those f (drop i xs)) (omega (arith, length_those f (drop i xs), length-drop i xs))

  -- a change by the mask is the change in the set
  pub under_in : (f : A → A) (s : Set) (xs : List A) → change_under f (mask s) xs ≡ change_in f s xs
  under_in f [] [] = refl
  under_in f [] (x ∷ xs) = ap (λ (l : List A). x ∷ l) (under_in f [] xs)
  under_in f (b ∷ s) [] = refl
  under_in f (b ∷ s) (x ∷ xs) = rw (odd_test b s, half b s, under_in f s xs)

  -- where nobody under the mask passes the test, a change of those who pass it leaves all as they are
  pub none_under : (test : A → Bool) (f : A → A) → ((x : A) → test x ≡ false → f x ≡ x) → (w : ℕ) (xs : List A)
      → some_under test w xs ≡ false → change_under f w xs ≡ xs
  none_under test f same w [] e = refl
  none_under test f same w (x ∷ xs) e =
      by_test (eqb (w % 2) 1) (test x) (some_under test (w / 2) xs) refl e (none_under test f same (w / 2) xs)
    where
      by_test : (b t s : Bool) → test x ≡ t → ((b && t) || s) ≡ false → (s ≡ false → change_under f (w / 2) xs ≡ xs)
          → (cond b (f x) x ∷ change_under f (w / 2) xs) ≡ (x ∷ xs)
      by_test true true s d h rest = let z : ◌≡◌ {A = ℕ} 0 1 = cc in absurd (omega arith)
      by_test true false s d h rest = rw (same x d, rest h)
      by_test false t s d h rest = ap (λ (l : List A). x ∷ l) (rest h)

  -- where nobody passes the test, nobody passes one that passes no more
  pub none_of : (test g : A → Bool) → ((x : A) → test x ≡ false → g x ≡ false) → (xs : List A) → any (those test xs) ≡ false → mask (those g xs) ≡ 0
  none_of test g out [] e = refl
  none_of test g out (x ∷ xs) e = by_test (test x) refl e (none_of test g out xs)
    where
      by_test : (t : Bool) → test x ≡ t → (t || any (those test xs)) ≡ false → (any (those test xs) ≡ false → mask (those g xs) ≡ 0)
          → mask (those g xs) * 2 + bit_of (g x) ≡ 0
      by_test true d h rest = let z : ◌≡◌ {A = ℕ} 0 1 = cc in absurd (omega arith)
      by_test false d h rest = rw (out x d, rest h)

  -- where nobody under the mask of all passes the test, nobody passes one that passes no more
  pub none_of_all : (test g : A → Bool) → ((x : A) → test x ≡ false → g x ≡ false) → (n : ℕ) (xs : List A) → length xs ≤ n
      → some_under test (mask (replicate n true)) xs ≡ false → mask (those g xs) ≡ 0
  none_of_all test g out n [] l e = refl
  none_of_all test g out zero (x ∷ xs) l e = absurd (omega arith)
  none_of_all test g out (suc n) (x ∷ xs) l e =
      let h = rw (odd_test true (replicate n true), half true (replicate n true)) at e in
      by_test (test x) (some_under test (mask (replicate n true)) xs) refl h (none_of_all test g out n xs (omega arith))
    where
      by_test : (t s : Bool) → test x ≡ t → (t || s) ≡ false → (s ≡ false → mask (those g xs) ≡ 0)
          → mask (those g xs) * 2 + bit_of (g x) ≡ 0
      by_test true s d h rest = let z : ◌≡◌ {A = ℕ} 0 1 = cc in absurd (omega arith)
      by_test false s d h rest = rw (out x d, rest h)

  -- a loop that goes up: what it has looked at, and one more
  pub mask_more : (f : ℕ → A → Bool) (d : A) (k i : ℕ) (xs : List A) → i < length xs
      → mask (those_at f k (take (suc i) xs)) ≡ mask (those_at f k (take i xs)) + bit_of (f (k + i) (get_or xs i d)) * 2 ^ i
  mask_more f d k i [] h = absurd (omega arith)
  mask_more f d k zero (x ∷ xs) h =
      let e : k + 0 ≡ k = omega arith in
      rw e (omega arith)
  mask_more f d k (suc i) (x ∷ xs) h =
      let e : k + suc i ≡ suc k + i = omega arith in
      rw (e, mask_more f d (suc k) i xs (omega arith), pow-suc 2 i) (omega arith)

  pub mask_turn : (f : ℕ → A → Bool) (xs : List A) (i : ℕ) (x : A) → i < length xs → x ≡ get_or xs i x
      → (m n : ℕ) (b : Bool) → b ≡ f i x → m ≡ mask (those_at f 0 (take i xs)) → n ≡ m + bit_of b * 2 ^ i
      → n ≡ mask (those_at f 0 (take (i + 1) xs))
  mask_turn f xs i x h g m n b e k q =
      let z : 0 + i ≡ i = omega arith in
      let more : mask (those_at f 0 (take (suc i) xs)) ≡ mask (those_at f 0 (take i xs)) + bit_of (f i x) * 2 ^ i
      = mask_more f x 0 i xs h ∙ rw (z, sym g) in
      q ∙ rw (k, e, add-one, more)

  -- a loop that stops at the n-th has gone over the first n, also where the list ends before
  pub gone_over : (xs : List A) (n m i : ℕ) → m ≡ min (length xs) n → length (take m xs) ≤ i → take i (take m xs) ≡ take n xs
  gone_over xs n m i e h =
      let least : m ≡ min n (length xs) = omega arith in
      take_all i (take m xs) h ∙ ap (λ (k : ℕ). take k xs) least ∙ take_min n xs

  pub same_at : (f : A → Bool) (k : ℕ) (xs : List A) → those_at (λ (i : ℕ) (x : A). f x) k xs ≡ those f xs
  same_at f k [] = refl
  same_at f k (x ∷ xs) = ap (λ (s : Set). f x ∷ s) (same_at f (suc k) xs)
