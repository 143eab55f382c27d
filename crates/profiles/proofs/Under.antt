-- The code's helpers answer what the rules say.
-- Assumes nothing.
use mathlib.Core.Path.{◌≡◌, refl, sym, ap, ◌∙◌, fun_ext}
use mathlib.Core.Bool.{Bool, true, false, ◌||◌}
use mathlib.Core.List.{List, [], ◌∷◌, map}
use Prim.Native.Nat.{ℕ, zero, suc, ◌-◌, ◌^◌, ◌<◌, ◌≤◌}
use native.Mathlib.Nat.{not-suc-le-zero, le_of_suc-le-suc, pow-suc}
use native.Mathlib.Omega.{arith}
use lib.Bits.{bit_or}
use lib.ListN.{length, get_or, drop, replicate, drop_of_length-le}
use lib.Seq.{drop-cons}
use Rattle.masks.specs.Mask.{Set, mask, any, either, those, some_under}
use Rattle.masks.proofs.Laws.{under_in, mask_either, none_under, none_of}
use Rattle.modes.specs.declared.Mode.{Mode}
use Rattle.members.specs.declared.mark.Marked.{Marked}
use Rattle.members.specs.Mark.{is_marked, as_mark}
use Rattle.members.proofs.Words.{unmarked_word, unmarked_test}
use Rattle.profiles.specs.Profile.{Profile, no_profile}
use Rattle.profiles.specs.Sets.{is_late, marks_with, late_set, only, only_of, wiped, wipe_mark, keep_mark, remark, no_mode, marks_changed}
use Rattle.profiles.specs.Under.{is_held, wiped_under, kept_under, touched_under}
use Rattle.profiles.specs.Ask.{with_marks}

-- a profile wiped, or its marks kept, by a set's mask
pub wiped_under_lem : (s : Set) (x : Profile) → wiped_under (mask s) x ≡ wiped s x
unfolding wiped_under wiped
wiped_under_lem s x = simp (under_in no_mode s x.row, under_in (remark wipe_mark) s x.marks)

-- all profiles wiped by a mask are all profiles wiped in its set
pub wiped_all : (s : Set) (m : ℕ) → m ≡ mask s → (xs : List Profile) → map (wiped_under m) xs ≡ map (wiped s) xs
wiped_all s m e xs =
    ap (λ (n : ℕ). map (wiped_under n) xs) e ∙ ap (λ (f : Profile → Profile). map f xs) (fun_ext (wiped_under_lem s))

-- wiping nobody
nobody_wiped : (x : Profile) → wiped_under 0 x ≡ x
unfolding wiped
nobody_wiped x = wiped_under_lem [] x

pub none_wiped : (xs : List Profile) → xs ≡ map (wiped_under 0) xs
none_wiped [] = refl
none_wiped (x ∷ xs) = λ i. sym (nobody_wiped x) i ∷ none_wiped xs i

-- wiping stations that have neither a mode nor a mark
pub touched_wiped : (w : ℕ) (x : Profile) → touched_under w x ≡ false → wiped_under w x ≡ x
unfolding touched_under wiped_under
touched_wiped w x e = by_tests (some_under is_held w x.row) (some_under is_marked w x.marks) refl refl e
  where
    unheld : (m : Mode) → is_held m ≡ false → no_mode m ≡ m
    unheld m e = grind arith

    unmarked : (m : Marked) → is_marked m ≡ false → remark wipe_mark m ≡ m
    unmarked m e = sym (unmarked_word m e)

    by_tests : (a b : Bool) → some_under is_held w x.row ≡ a → some_under is_marked w x.marks ≡ b → (a || b) ≡ false → wiped_under w x ≡ x
    by_tests true b p q e = grind arith
    by_tests false b p q e =
        λ i. record { row = none_under is_held no_mode unheld w x.row p i; marks = none_under is_marked (remark wipe_mark) unmarked w x.marks (q ∙ e) i }

pub kept_under_lem : (s : Set) (x : Profile) → kept_under (mask s) x ≡ with_marks x (marks_changed keep_mark s x.marks)
unfolding kept_under
kept_under_lem s x = simp (under_in (remark keep_mark) s x.marks)

-- where no mark is there, none is late
pub none_late : (answer now : ℕ) (marks : List Marked) → any (those is_marked marks) ≡ false → 0 ≡ mask (marks_with (is_late answer now) marks)
none_late answer now marks e =
    sym (none_of is_marked (λ (m : Marked). is_late answer now (as_mark m)) (unmarked_test (is_late answer now) refl) marks e)

-- the mask of one station among n
pub mask_none : (n : ℕ) → mask (replicate n false) ≡ 0
mask_none zero = refl
mask_none (suc n) = rw (mask_none n)

mask_only : (n i : ℕ) → i < n → mask (only_of n i) ≡ 2 ^ i
mask_only zero i h = absurd (not-suc-le-zero h)
mask_only (suc n) zero h = rw (mask_none n)
mask_only (suc n) (suc i) h = rw (mask_only n i (le_of_suc-le-suc h), pow-suc) (omega arith)

mask_beyond : (n i : ℕ) → n ≤ i → mask (only_of n i) ≡ 0
mask_beyond zero i h = refl
mask_beyond (suc n) zero h = absurd (not-suc-le-zero h)
mask_beyond (suc n) (suc i) h = rw (mask_beyond n i (le_of_suc-le-suc h))

pub only_mask : (i : ℕ) → i < 16 → 2 ^ i ≡ mask (only i)
only_mask i h = sym (mask_only 16 i h)

pub only_beyond : (i : ℕ) → 16 ≤ i → 0 ≡ mask (only i)
only_beyond i h = sym (mask_beyond 16 i h)

-- one profile more among those with late marks
module _ (answer now : ℕ) where
  late_step : (xs : List Profile) (j : ℕ) → j < length xs
      → late_set answer now (drop j xs) ≡ either (marks_with (is_late answer now) (get_or xs j no_profile).marks) (late_set answer now (drop (suc j) xs))
  late_step xs j h = ap (late_set answer now) (drop-cons xs j no_profile h)

  pub late_turn : (xs : List Profile) (i m : ℕ) → 0 < i → i ≤ length xs → m ≡ mask (marks_with (is_late answer now) (get_or xs (i - 1) no_profile).marks)
      → bit_or m (mask (late_set answer now (drop i xs))) ≡ mask (late_set answer now (drop (i - 1) xs))
  late_turn xs i m h l q =
      let e : suc (i - 1) ≡ i = omega arith in
      ap (λ (n : ℕ). bit_or n (mask (late_set answer now (drop i xs)))) q
      ∙ mask_either (marks_with (is_late answer now) (get_or xs (i - 1) no_profile).marks) (late_set answer now (drop i xs))
      ∙ ap mask (sym (late_step xs (i - 1) (omega arith) ∙ ap (λ (n : ℕ). either (marks_with (is_late answer now) (get_or xs (i - 1) no_profile).marks) (late_set answer now (drop n xs))) e))

  pub late_none : (xs : List Profile) (n : ℕ) → length xs ≤ n → 0 ≡ mask (late_set answer now (drop n xs))
  late_none xs n h = sym (ap (λ (ys : List Profile). mask (late_set answer now ys)) (drop_of_length-le xs h))
