-- The invariant of the server's tables, and that the two kinds of change keep it: a grant, and everything else.
-- Assumes nothing.
use mathlib.Core.Path.{◌≡◌, refl, sym, ap, ◌∙◌}
use mathlib.Core.Bool.{Bool, true, false, cond}
use mathlib.Core.Logic.{◌⊎◌, inl, inr}
use Prim.Native.Nat.{ℕ, ◌<◌, ◌≤◌}
use native.Mathlib.Omega.{arith}
use Rattle.modes.specs.Modes.{goes_with}
use Rattle.modes.proofs.Laws.{symmetric, none_goes}
use Rattle.timing.specs.declared.settings.Settings.{Settings}
use Rattle.server.specs.State.{Status, Unknown, Live, Mark, Unmarked}
use Rattle.server.proofs.Serves.{changed_at, own, no_lock, own_so}

-- no mode and no mark
abbrev pub Nothing : (ℕ → ℕ → ℕ) → (ℕ → ℕ → Mark) → ℕ → ℕ → Type 0
Nothing μ ν i p = (μ i p ≡ 0) × (ν i p ≡ Unmarked)

-- what the tables of statuses, modes and marks keep
pub record Orderly (z : Settings) (σ : ℕ → Status) (μ : ℕ → ℕ → ℕ) (ν : ℕ → ℕ → Mark) : Type 0 where
  -- different stations' modes on one profile go together
  pub apart : (i j p : ℕ) → (i ≡ j → ⊥) → goes_with (μ i p) (μ j p) ≡ true
  pub small : (i p : ℕ) → μ i p ≤ 6
  -- unknown stations hold nothing and have no marks
  pub unknown : (i p : ℕ) → σ i ≡ Unknown → Nothing μ ν i p
  -- beyond the settings there is nobody and nothing
  pub stations : (i : ℕ) → z.stations ≤ i → σ i ≡ Unknown
  pub profiles : (i p : ℕ) → z.profiles ≤ p → Nothing μ ν i p

-- modes that go and marks that change, none being made where there is neither mode nor mark: every event but a grant
module _ (z : Settings) (σ τ : ℕ → Status) (μ : ℕ → ℕ → ℕ) (ν : ℕ → ℕ → Mark) (o : Orderly z σ μ ν)
    (gone marked : ℕ → ℕ → Bool) (f : Mark → Mark)
    (eases : (j q : ℕ) → marked j q ≡ true → μ j q ≡ 0 → f Unmarked ≡ Unmarked)
    (freed : (j q : ℕ) → τ j ≡ Unknown → (σ j ≡ Unknown) ⊎ Nothing (changed_at gone no_lock μ) (changed_at marked f ν) j q)
    (outside : (j : ℕ) → z.stations ≤ j → τ j ≡ Unknown) where
  still : (j q : ℕ) → Nothing μ ν j q → Nothing (changed_at gone no_lock μ) (changed_at marked f ν) j q
  still j q h = (by_gone (gone j q), by_marked (marked j q) refl)
    where
      by_gone : (b : Bool) → cond b 0 (μ j q) ≡ 0
      by_gone b = grind (arith, h.0)

      by_marked : (b : Bool) → marked j q ≡ b → cond b (f (ν j q)) (ν j q) ≡ Unmarked
      by_marked true e = ap f h.1 ∙ eases j q e h.0
      by_marked false e = h.1

  pub lessened : Orderly z τ (changed_at gone no_lock μ) (changed_at marked f ν)
  lessened =
      record {
        apart = λ i j p h. both (gone i p) (gone j p) (μ i p) (μ j p) (o.apart i j p h);
        small = λ i p. less (gone i p) (μ i p) (o.small i p);
        unknown = λ i p h. by_cause i p (freed i p h);
        stations = outside;
        profiles = λ i p h. still i p (o.profiles i p h);
      }
    where
      both : (a b : Bool) (m n : ℕ) → goes_with m n ≡ true → goes_with (cond a 0 m) (cond b 0 n) ≡ true
      both a b m n h = grind (arith, none_goes, symmetric m 0)

      less : (b : Bool) (m : ℕ) → m ≤ 6 → cond b 0 m ≤ 6
      less b m h = grind arith

      by_cause : (i p : ℕ) → (σ i ≡ Unknown) ⊎ Nothing (changed_at gone no_lock μ) (changed_at marked f ν) i p → Nothing (changed_at gone no_lock μ) (changed_at marked f ν) i p
      by_cause i p (inl h) = still i p (o.unknown i p h)
      by_cause i p (inr h) = h

-- a grant
module _ (z : Settings) (σ : ℕ → Status) (μ : ℕ → ℕ → ℕ) (ν : ℕ → ℕ → Mark) (o : Orderly z σ μ ν) (i p wanted : ℕ)
    (live : σ i ≡ Live) (below : p < z.profiles) (fits : wanted ≤ 6) (goes : (j : ℕ) → (j ≡ i → ⊥) → goes_with wanted (μ j p) ≡ true) where
  pub given : Orderly z σ (changed_at (own i p) (λ (m : ℕ). wanted) μ) ν
  given =
      record {
        apart = λ a b q h. both a b q h (own i p a q) (own i p b q) refl refl;
        small = λ a q. less (own i p a q) (μ a q) (o.small a q);
        unknown = λ a q h. (other a q (λ e. known a h e.1) (own i p a q) refl ∙ (o.unknown a q h).0, (o.unknown a q h).1);
        stations = o.stations;
        profiles = λ a q h. (other a q (λ e. omega (arith, e.0)) (own i p a q) refl ∙ (o.profiles a q h).0, (o.profiles a q h).1);
      }
    where
      known : (a : ℕ) → σ a ≡ Unknown → a ≡ i → ⊥
      known a h e = grind arith

      less : (b : Bool) (m : ℕ) → m ≤ 6 → cond b wanted m ≤ 6
      less b m h = grind (arith, fits)

      other : (a q : ℕ) → ((q ≡ p) × (a ≡ i) → ⊥) → (b : Bool) → own i p a q ≡ b → cond b wanted (μ a q) ≡ μ a q
      other a q h b e = grind (arith, own_so i p a q)

      both : (a b q : ℕ) → (a ≡ b → ⊥) → (x y : Bool) → own i p a q ≡ x → own i p b q ≡ y → goes_with (cond x wanted (μ a q)) (cond y wanted (μ b q)) ≡ true
      both a b q h true true e k = absurd (h ((own_so i p a q e).1 ∙ sym (own_so i p b q k).1))
      both a b q h true false e k =
          let (here, me) = own_so i p a q e in
          ap (λ (n : ℕ). goes_with wanted (μ b n)) here ∙ goes b (λ d. h (me ∙ sym d))
      both a b q h false true e k =
          let (here, me) = own_so i p b q k in
          symmetric (μ a q) wanted ∙ ap (λ (n : ℕ). goes_with wanted (μ a n)) here ∙ goes a (λ d. h (d ∙ sym me))
      both a b q h false false e k = o.apart a b q h
