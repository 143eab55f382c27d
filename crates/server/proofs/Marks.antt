-- What the server's rules change and leave of the marks: the laws that Frames has of the modes.
-- Assumes nothing.
use mathlib.Core.Path.{◌≡◌, refl, sym, ap, ◌∙◌}
use mathlib.Core.Bool.{Bool, true, false, cond}
use mathlib.Core.List.{List, [], ◌∷◌, map}
use Prim.Native.Nat.{ℕ, zero, suc, ◌<◌, ◌≤◌}
use native.Mathlib.Omega.{arith}
use lib.Dec.{eqb}
use lib.ListN.{length, get_or, set, replicate}
use lib.Seq.{get_or-set_same, get_or-set_other}
use borrow.Author.Tests.{eqb-true, eqb-false}
use Rattle.masks.specs.Mask.{Set}
use Rattle.masks.proofs.Sets.{has, changed, length_changed}
use Rattle.server.specs.State.{Mark, Unmarked, Marked, Profile, no_mark, as_mark, no_profile, mark_in}
use Rattle.members.proofs.Words.{Stored, stored_mark, stored_wipe}
use Rattle.profiles.specs.Sets.{wipe_mark, remark, marks_changed, wiped}
use Rattle.server.proofs.Frames.{cond_same, Whole, whole_wiped, whole_set}

-- the mark of station j in a row of marks, and on profile p in a list of profiles
abbrev pub mark_at : List Marked → ℕ → Mark
mark_at marks j = as_mark (get_or marks j no_mark)

abbrev pub mark_entry : List Profile → ℕ → ℕ → Mark
mark_entry t j p = mark_in (get_or t p no_profile) j

pub marks_length : (f : Mark → Mark) (s : Set) (marks : List Marked) → length (marks_changed f s marks) ≡ length marks
marks_length f s marks = length_changed (remark f) s marks

-- marks changed in a set, to such as a word can hold: the others are as they were
module _ (f : Mark → Mark) (held : (k : Mark) → Stored k → Stored (f k)) where
  chosen : (b : Bool) (m : Marked) → as_mark (cond b (remark f m) m) ≡ cond b (f (as_mark m)) (as_mark m)
  chosen b m = grind (arith, held (as_mark m) (stored_mark m))

  pub mark_changed : (s : Set) (marks : List Marked) (j : ℕ) → (length marks ≤ j → cond (has s j) (remark f no_mark) no_mark ≡ no_mark) →
      mark_at (marks_changed f s marks) j ≡ cond (has s j) (f (mark_at marks j)) (mark_at marks j)
  mark_changed s marks j ends = ap as_mark (changed (remark f) no_mark s marks j ends) ∙ chosen (has s j) (get_or marks j no_mark)

  -- a rule that makes no mark where there is none
  module _ (eases : f Unmarked ≡ Unmarked) where
    pub mark_eased : (s : Set) (marks : List Marked) (j : ℕ) → mark_at (marks_changed f s marks) j ≡ cond (has s j) (f (mark_at marks j)) (mark_at marks j)
    mark_eased s marks j = mark_changed s marks j (λ h. none (has s j))
      where
        none : (b : Bool) → cond b (remark f no_mark) no_mark ≡ no_mark
        none b = grind (arith, eases)

    -- in the set of everyone
    pub all_eased : (marks : List Marked) (j : ℕ) → mark_at (marks_changed f (replicate (length marks) true) marks) j ≡ f (mark_at marks j)
    all_eased [] j = sym eases
    all_eased (m ∷ marks) zero = held (as_mark m) (stored_mark m)
    all_eased (m ∷ marks) (suc j) = all_eased marks j

-- a wiped profile
pub mark_wiped : (s : Set) (x : Profile) (j : ℕ) → mark_in (wiped s x) j ≡ cond (has s j) Unmarked (mark_in x j)
unfolding wiped
mark_wiped s x j = mark_eased wipe_mark stored_wipe refl s x.marks j

pub marks_wiped : (s : Set) (x : Profile) → length (wiped s x).marks ≡ length x.marks
unfolding wiped
marks_wiped s x = marks_length wipe_mark s x.marks

pub mark_entry_wiped : (s : Set) (t : List Profile) (j p : ℕ) → mark_entry (map (wiped s) t) j p ≡ cond (has s j) Unmarked (mark_entry t j p)
mark_entry_wiped s [] j p = sym (cond_same (has s j) Unmarked)
mark_entry_wiped s (x ∷ t) j zero = mark_wiped s x j
mark_entry_wiped s (x ∷ t) j (suc p) = mark_entry_wiped s t j p

-- the lists have their lengths, the rows of marks too
pub record Full (t : List Profile) : Type 0 where
  pub modes : Whole t
  pub marks : (p : ℕ) → p < 64 → length (get_or t p no_profile).marks ≡ 16

pub full_wiped : (s : Set) (t : List Profile) → Full t → Full (map (wiped s) t)
full_wiped s t w = record { modes = whole_wiped s t w.modes; marks = λ p h. kept t p ∙ w.marks p h }
  where
    kept : (t : List Profile) (p : ℕ) → length (get_or (map (wiped s) t) p no_profile).marks ≡ length (get_or t p no_profile).marks
    kept [] p = refl
    kept (x ∷ t) zero = marks_wiped s x
    kept (x ∷ t) (suc p) = kept t p

pub full_set : (t : List Profile) (p : ℕ) (x : Profile) → Full t → p < 64 → length x.row ≡ 16 → length x.marks ≡ 16 → Full (set t p x)
full_set t p x w h e k = record { modes = whole_set t p x w.modes h e; marks = λ q b. by_test q b (eqb q p) refl }
  where
    by_test : (q : ℕ) → q < 64 → (b : Bool) → eqb q p ≡ b → length (get_or (set t p x) q no_profile).marks ≡ 16
    by_test q b true d =
        let same : q ≡ p = eqb-true q p d in
        rw (same, get_or-set_same t p x no_profile (rw w.modes.count h)) k
    by_test q b false d = rw (get_or-set_other t p q x no_profile (eqb-false q p d)) (w.marks q b)
