-- Going over the profiles in place: one turn of each walk, and that with nobody in a set no station is changed.
-- Assumes nothing.
use Rattle.std.proofs.Common.{◌≡◌, ℕ, zero, suc, ◌+◌, ◌<◌, false, List, [], ◌∷◌, ◌++◌, map, refl, sym, ap, ◌∙◌, arith, length, get_or, set, take, drop}
use Rattle.std.proofs.Math.Bool.{or_assoc}
use Rattle.std.proofs.Math.Seq.{take-suc}
use Rattle.std.specs.Int.Bits.{bit_or}
use lib.Seq.{set-get_or}
use Rattle.masks.specs.Mask.{Set, mask, either, change_under}
use Rattle.masks.proofs.Laws.{under_in, mask_either}
use Rattle.masks.proofs.Walk.{turn, end, under_end}
use Rattle.profiles.specs.Sets.{is_late, marks_with, late_set}
use Rattle.profiles.specs.Under.{wiped_under, touched_under}
use Rattle.profiles.proofs.Under.{none_wiped, touched_wiped}
use Rattle.server.specs.State.{Profile, no_profile}

either_nobody : (s : Set) → either s [] ≡ s
either_nobody [] = refl
either_nobody (a ∷ s) = refl

either_assoc : (s t u : Set) → either (either s t) u ≡ either s (either t u)
either_assoc [] t u = refl
either_assoc (a ∷ s) [] u = refl
either_assoc (a ∷ s) (b ∷ t) [] = refl
either_assoc (a ∷ s) (b ∷ t) (c ∷ u) = λ i. or_assoc a b c i ∷ either_assoc s t u i

-- one profile more among those looked at for late marks
module _ (answer now : ℕ) where
  late_after : (x : Profile) (xs : List Profile) → late_set answer now (xs ++ x ∷ []) ≡ either (late_set answer now xs) (marks_with (is_late answer now) x.marks)
  late_after x [] = either_nobody (marks_with (is_late answer now) x.marks)
  late_after x (y ∷ xs) =
      ap (either (marks_with (is_late answer now) y.marks)) (late_after x xs)
      ∙ sym (either_assoc (marks_with (is_late answer now) y.marks) (late_set answer now xs) (marks_with (is_late answer now) x.marks))

  pub late_more : (xs : List Profile) (j : ℕ) → j < length xs
      → bit_or (mask (late_set answer now (take j xs))) (mask (marks_with (is_late answer now) (get_or xs j no_profile).marks)) ≡ mask (late_set answer now (take (j + 1) xs))
  late_more xs j within =
      let x = get_or xs j no_profile in
      let e : suc j ≡ j + 1 = omega arith in
      mask_either (late_set answer now (take j xs)) (marks_with (is_late answer now) x.marks)
      ∙ ap mask (sym (late_after x (take j xs)))
      ∙ ap (λ (ys : List Profile). mask (late_set answer now ys)) (sym (take-suc xs j no_profile within))
      ∙ ap (λ (i : ℕ). mask (late_set answer now (take i xs))) e

-- one profile more wiped, or left as it stands where nothing of it would go
module _ (m : ℕ) (l₀ l : List Profile) (j : ℕ) (within : j < length l) where
  pub wiped_turn : take j l ++ map (wiped_under m) (drop j l) ≡ map (wiped_under m) l₀
      → take (j + 1) (set l j (wiped_under m (get_or l j no_profile))) ++ map (wiped_under m) (drop (j + 1) (set l j (wiped_under m (get_or l j no_profile)))) ≡ map (wiped_under m) l₀
  wiped_turn e =
      turn no_profile (map (wiped_under m)) (map (wiped_under m)) (wiped_under m) (λ x xs. refl) l j within (wiped_under m (get_or l j no_profile)) refl ∙ e

  pub wiped_left : touched_under m (get_or l j no_profile) ≡ false → take j l ++ map (wiped_under m) (drop j l) ≡ map (wiped_under m) l₀
      → take (j + 1) l ++ map (wiped_under m) (drop (j + 1) l) ≡ map (wiped_under m) l₀
  wiped_left untouched e =
      let same : set l j (wiped_under m (get_or l j no_profile)) ≡ l = ap (set l j) (touched_wiped m (get_or l j no_profile) untouched) ∙ set-get_or l j no_profile in
      ap (λ (ys : List Profile). take (j + 1) ys ++ map (wiped_under m) (drop (j + 1) ys)) (sym same) ∙ wiped_turn e

-- with nobody in the set no station is changed
pub none_changed : {A : Type 0} (f : A → A) (l : List A) → l ≡ change_under f 0 l
none_changed f l = sym (under_in f [] l)

-- A walk over the stations that is done; with nobody in the set it takes no turn, and there is nothing to change either.
module _ {A : Type 0} (d : A) (f : A → A) where
  pub under_done : (set n : ℕ) (l₀ l : List A) (w i : ℕ) → (set ≡ 0 → i ≡ 0) → ((set ≡ 0 → ⊥) → i ≡ n) → length l ≡ n → (set ≡ 0 → w ≡ 0)
      → take i l ++ change_under f w (drop i l) ≡ change_under f set l₀ → l ≡ change_under f set l₀
  under_done zero n l₀ l w i at all whole none e =
      sym (under_in f [] l) ∙ sym (λ k. take (at refl k) l ++ change_under f (none refl k) (drop (at refl k) l)) ∙ e
  under_done (suc set) n l₀ l w i at all whole none e =
      let last : i ≡ n = all (λ z. omega arith) in
      sym (under_end d f w l i (omega arith)) ∙ e

-- the same of the profiles that the stations of a set are wiped off
pub wiped_done : (set n : ℕ) (l₀ l : List Profile) (j : ℕ) → (set ≡ 0 → j ≡ 0) → ((set ≡ 0 → ⊥) → j ≡ n) → length l ≡ n
    → take j l ++ map (wiped_under set) (drop j l) ≡ map (wiped_under set) l₀ → l ≡ map (wiped_under set) l₀
wiped_done zero n l₀ l j at all whole e =
    none_wiped l ∙ sym (ap (λ (i : ℕ). take i l ++ map (wiped_under 0) (drop i l)) (at refl)) ∙ e
wiped_done (suc set) n l₀ l j at all whole e =
    let last : j ≡ n = all (λ z. omega arith) in
    sym (end no_profile (map (wiped_under (suc set))) refl l j (omega arith)) ∙ e
