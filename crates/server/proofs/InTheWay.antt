-- Who stands in the way of an ask, over the accessors: the sets that the ask rule tests and demands of, at any place.
-- Assumes nothing.
use mathlib.Core.Path.{◌≡◌, refl, sym, ap, ◌∙◌}
use mathlib.Core.Bool.{Bool, true, false, ◌&&◌, not}
use mathlib.Core.List.{List, [], ◌∷◌}
use Prim.Native.Nat.{ℕ, zero, suc, ◌+◌}
use native.Mathlib.Omega.{arith}
use native.Mathlib.Nat.{zero-add}
use lib.Dec.{eqb}
use lib.ListN.{get_or}
use borrow.Author.Tests.{not-false, ne_eqb}
use Rattle.masks.specs.Mask.{Set, any, both}
use Rattle.masks.proofs.Sets.{has, has_both, has_none, has_at, has_those}
use Rattle.modes.specs.Modes.{mode, goes_with}
use Rattle.modes.specs.declared.Mode.{Mode}
use Rattle.modes.proofs.Laws.{symmetric, none_goes}
use Rattle.server.specs.State.{Marked, Member, Server, nobody, no_mark, as_mark, profile_at, status_of, mode_of, mark_of}
use Rattle.profiles.specs.Sets.{is_live, is_kept, live_set, marks_with, clashes, conflicts}
use Rattle.profiles.specs.Ask.{wanted_by, in_the_way}

pub has_live : (ms : List Member) (j : ℕ) → has (live_set ms) j ≡ is_live (get_or ms j nobody).status
has_live ms j = has_those (λ (m : Member). is_live m.status) nobody ms j (λ h. refl)

-- no lock goes with every mode
pub none_clashes : (me wanted j : ℕ) → clashes me wanted j (mode 0) ≡ false
none_clashes me wanted j = grind (arith, symmetric wanted 0, none_goes wanted)

pub has_conflicts : (me wanted : ℕ) (row : List Mode) (j : ℕ) → has (conflicts me wanted row) j ≡ clashes me wanted j (get_or row j (mode 0))
unfolding conflicts
has_conflicts me wanted row j =
    has_at (clashes me wanted) (mode 0) 0 row j (λ h. none_clashes me wanted (0 + j)) ∙ ap (λ (n : ℕ). clashes me wanted n (get_or row j (mode 0))) (zero-add j)

-- nobody in a set, or somebody
any_none : (t : Set) → ((j : ℕ) → has t j ≡ false) → any t ≡ false
any_none [] h = refl
any_none (b ∷ t) h = rw (h 0) (any_none t (λ j. h (suc j)))

any_some : (t : Set) (j : ℕ) → has t j ≡ true → any t ≡ true
any_some [] j h = grind arith
any_some (b ∷ t) zero h = rw h refl
any_some (b ∷ t) (suc j) h = grind (arith, any_some t j)

pub any_both : (t u : Set) → any (both t u) ≡ true → any t ≡ true
any_both [] u h = h
any_both (a ∷ t) [] h = grind arith
any_both (a ∷ t) (b ∷ u) h = grind (arith, any_both t u)

-- "the wanted mode is the join of the held and asked ones"
abbrev pub wanted_on : Server → ℕ → ℕ → ℕ → ℕ
wanted_on s i p asked = wanted_by (profile_at s p) i asked

-- whether station j's mode on profile p is in the way of the one that station i wants
abbrev pub is_in_the_way : Server → ℕ → ℕ → ℕ → ℕ → Bool
is_in_the_way s i p asked j = clashes i (wanted_on s i p asked) j (mode (mode_of s j p))

-- the ask rule's sets: the holders in its way, those of them with a kept mark, those of them that are live
abbrev pub holders : Server → ℕ → ℕ → ℕ → Set
holders s i p asked = in_the_way i asked (profile_at s p)

abbrev pub kept_holders : Server → ℕ → ℕ → ℕ → Set
kept_holders s i p asked = both (holders s i p asked) (marks_with is_kept (profile_at s p).marks)

abbrev pub live_holders : Server → ℕ → ℕ → ℕ → Set
live_holders s i p asked = both (holders s i p asked) (live_set s.members)

module _ (s : Server) (i p asked : ℕ) where
  -- who is in them
  pub has_holders : (j : ℕ) → has (holders s i p asked) j ≡ is_in_the_way s i p asked j
  has_holders j = has_conflicts i (wanted_on s i p asked) (profile_at s p).row j

  of_holders : (t : Set) (j : ℕ) (b : Bool) → has t j ≡ b → has (both (holders s i p asked) t) j ≡ (is_in_the_way s i p asked j && b)
  of_holders t j b e =
      has_both (holders s i p asked) t j ∙ ap (λ (c : Bool). c && has t j) (has_holders j) ∙ ap (λ (c : Bool). is_in_the_way s i p asked j && c) e

  pub has_kept : (j : ℕ) → has (kept_holders s i p asked) j ≡ (is_in_the_way s i p asked j && is_kept (mark_of s j p))
  has_kept j =
      of_holders (marks_with is_kept (profile_at s p).marks) j (is_kept (mark_of s j p))
      (has_those (λ (m : Marked). is_kept (as_mark m)) no_mark (profile_at s p).marks j (λ h. refl))

  pub has_demanded : (j : ℕ) → has (live_holders s i p asked) j ≡ (is_in_the_way s i p asked j && is_live (status_of s j))
  has_demanded j = of_holders (live_set s.members) j (is_live (status_of s j)) (has_live s.members j)

  -- "If no other station holds an incompatible mode", both ways
  pub free_goes : any (holders s i p asked) ≡ false → (j : ℕ) → (j ≡ i → ⊥) → goes_with (wanted_on s i p asked) (mode_of s j p) ≡ true
  free_goes e j other =
      not-false _ (sym (ap (λ (b : Bool). not b && not (goes_with (wanted_on s i p asked) (mode_of s j p))) (ne_eqb j i other))
      ∙ sym (has_holders j) ∙ has_none (holders s i p asked) e j)

  pub goes_free : ((j : ℕ) → (j ≡ i → ⊥) → goes_with (wanted_on s i p asked) (mode_of s j p) ≡ true) → any (holders s i p asked) ≡ false
  goes_free h = any_none (holders s i p asked) (λ j. has_holders j ∙ by_test j (eqb j i) refl)
    where
      by_test : (j : ℕ) (b : Bool) → eqb j i ≡ b → (not b && not (goes_with (wanted_on s i p asked) (mode_of s j p))) ≡ false
      by_test j b e = grind (arith, h j)

  -- somebody in the way, and "if any such holder has a kept mark", both ways
  pub some_holder : (j : ℕ) → is_in_the_way s i p asked j ≡ true → any (holders s i p asked) ≡ true
  some_holder j h = any_some (holders s i p asked) j (has_holders j ∙ h)

  pub some_kept : (j : ℕ) → (is_in_the_way s i p asked j && is_kept (mark_of s j p)) ≡ true → any (kept_holders s i p asked) ≡ true
  some_kept j h = any_some (kept_holders s i p asked) j (has_kept j ∙ h)

  pub none_kept : ((j : ℕ) → (is_in_the_way s i p asked j && is_kept (mark_of s j p)) ≡ false) → any (kept_holders s i p asked) ≡ false
  none_kept h = any_none (kept_holders s i p asked) (λ j. has_kept j ∙ h j)

-- the entries that are demanded: those on profile p of the live ones in the way
abbrev pub is_demanded : Server → ℕ → ℕ → ℕ → ℕ → ℕ → Bool
is_demanded s i p asked j q = eqb q p && (is_in_the_way s i p asked j && is_live (status_of s j))
