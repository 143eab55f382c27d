-- What the server's rules change and leave of the modes of a profile, over the accessors; and one station's set.
-- Assumes nothing.
use mathlib.Core.Path.{◌≡◌, refl, sym, ap, ◌∙◌}
use mathlib.Core.Bool.{Bool, true, false, cond}
use mathlib.Core.List.{List, [], ◌∷◌, map}
use Prim.Native.Nat.{ℕ, zero, suc, ◌<◌}
use native.Mathlib.Omega.{arith}
use native.Mathlib.Nat.{not-suc-le-zero, le_of_suc-le-suc}
use lib.Dec.{eqb}
use lib.ListN.{length, get_or, set, replicate, length-set, length-map}
use lib.Seq.{get_or-set_same, get_or-set_other}
use borrow.Author.Tests.{eqb-true, eqb-false}
use Rattle.masks.specs.Mask.{Set}
use Rattle.masks.proofs.Sets.{has, changed, length_changed}
use Rattle.modes.specs.Modes.{mode}
use Rattle.modes.specs.declared.Mode.{Mode}
use Rattle.server.specs.State.{Profile, no_profile, mode_in}
use Rattle.profiles.specs.Sets.{only_of, no_mode, wiped}

pub cond_same : {A : Type 0} (b : Bool) (x : A) → cond b x x ≡ x
cond_same b x = grind arith

-- the mode of station j on profile p in a list of profiles
abbrev pub entry : List Profile → ℕ → ℕ → ℕ
entry t j p = mode_in (get_or t p no_profile) j

-- one station's set
nobody_in : (n j : ℕ) → has (replicate n false) j ≡ false
nobody_in zero j = refl
nobody_in (suc n) zero = refl
nobody_in (suc n) (suc j) = nobody_in n j

pub only_same : (n i : ℕ) → i < n → has (only_of n i) i ≡ true
only_same zero i h = absurd (not-suc-le-zero h)
only_same (suc n) zero h = refl
only_same (suc n) (suc i) h = only_same n i (le_of_suc-le-suc h)

pub only_other : (n i j : ℕ) → (j ≡ i → ⊥) → has (only_of n i) j ≡ false
only_other zero i j h = refl
only_other (suc n) zero zero h = absurd (h refl)
only_other (suc n) zero (suc j) h = nobody_in n j
only_other (suc n) (suc i) zero h = refl
only_other (suc n) (suc i) (suc j) h = only_other n i j (λ e. h (ap suc e))

-- a set of stations loses its modes: the others keep theirs
chosen : (b : Bool) (m : Mode) → (cond b (mode 0) m).0 ≡ cond b 0 m.0
chosen b m = grind arith

pub mode_wiped : (s : Set) (x : Profile) (j : ℕ) → mode_in (wiped s x) j ≡ cond (has s j) 0 (mode_in x j)
unfolding wiped
mode_wiped s x j =
    ap (λ (m : Mode). m.0) (changed no_mode (mode 0) s x.row j (λ h. cond_same (has s j) (mode 0))) ∙ chosen (has s j) (get_or x.row j (mode 0))

pub width_wiped : (s : Set) (x : Profile) → length (wiped s x).row ≡ length x.row
unfolding wiped
width_wiped s x = length_changed no_mode s x.row

pub entry_wiped : (s : Set) (t : List Profile) (j p : ℕ) → entry (map (wiped s) t) j p ≡ cond (has s j) 0 (entry t j p)
entry_wiped s [] j p = sym (cond_same (has s j) 0)
entry_wiped s (x ∷ t) j zero = mode_wiped s x j
entry_wiped s (x ∷ t) j (suc p) = entry_wiped s t j p

-- the lists have their lengths: sixty-four profiles of sixteen modes
pub record Whole (t : List Profile) : Type 0 where
  pub count : length t ≡ 64
  pub width : (p : ℕ) → p < 64 → length (get_or t p no_profile).row ≡ 16

wiped_width : (s : Set) (t : List Profile) (p : ℕ) → length (get_or (map (wiped s) t) p no_profile).row ≡ length (get_or t p no_profile).row
wiped_width s [] p = refl
wiped_width s (x ∷ t) zero = width_wiped s x
wiped_width s (x ∷ t) (suc p) = wiped_width s t p

pub whole_wiped : (s : Set) (t : List Profile) → Whole t → Whole (map (wiped s) t)
whole_wiped s t w = record { count = length-map t (wiped s) ∙ w.count; width = λ p h. wiped_width s t p ∙ w.width p h }

-- one profile replaced
module _ (t : List Profile) (p : ℕ) (x : Profile) where
  pub whole_set : Whole t → p < 64 → length x.row ≡ 16 → Whole (set t p x)
  whole_set w h e = record { count = length-set t p x ∙ w.count; width = λ q b. by_test q b (eqb q p) refl }
    where
      by_test : (q : ℕ) → q < 64 → (b : Bool) → eqb q p ≡ b → length (get_or (set t p x) q no_profile).row ≡ 16
      by_test q b true k =
          let same : q ≡ p = eqb-true q p k in
          rw (same, get_or-set_same t p x no_profile (rw w.count h)) e
      by_test q b false k = rw (get_or-set_other t p q x no_profile (eqb-false q p k)) (w.width q b)
