-- Each way through refusals 1 and 2, and the modes that can be demanded.
-- Assumes nothing.
use mathlib.Core.Path.{◌≡◌, refl, sym, ap, ◌∙◌}
use mathlib.Core.Bool.{Bool, true, false, cond}
use Prim.Native.Nat.{ℕ, zero, suc, ◌<◌, ◌≤◌}
use native.Mathlib.Omega.{arith}
use lib.Dec.{eqb, leb}
use borrow.Author.Tests.{le-leb, lt-leb, eq-eqb, ne_eqb}
use Rattle.modes.specs.Modes.{is_mode}
use Rattle.std.proofs.Common.{Ok, Err}
use Rattle.refusals.specs.Refusal.{Verdict}
use Rattle.refusals.specs.declared.Refusal.TheVariants.{Settings, Station}
use Rattle.timing.specs.declared.settings.Settings.{Settings as Nine}
use Rattle.timing.specs.Settings.{in_range}
use Rattle.room.specs.Refusal.{is_wanted, own_refusal}

-- a message to another station, or to this one
module _ (i j own : ℕ) (e : i ≡ j) where
  pub other : (x : Verdict) → (i ≡ own → ⊥) → Err Station ≡ cond (eqb j own) x (Err Station)
  other x h = simp (← e, ne_eqb i own h)

  pub same : (k x : Verdict) → i ≡ own → k ≡ x → k ≡ cond (eqb j own) x (Err Station)
  same k x h g = simp (← e, eq-eqb i own h) g

-- 1 and 2, n being the number of stations
module _ (z : Nine) (own : ℕ) where
  pub own_1 : in_range z ≡ false → Err Settings ≡ own_refusal z own
  own_1 e = sym (ap (λ (t : Bool). cond t (cond (leb z.stations own) (Err Station) (Ok tt)) (Err Settings)) e)

  module _ (e : in_range z ≡ true) (n : ℕ) (g : n ≡ z.stations) where
    good : cond (leb n own) (Err Station) (Ok tt) ≡ own_refusal z own
    good = ap (λ (i : ℕ). cond (leb i own) (Err Station) (Ok tt)) g ∙ sym (ap (λ (t : Bool). cond t (cond (leb z.stations own) (Err Station) (Ok tt)) (Err Settings)) e)

    pub own_2 : n ≤ own → Err Station ≡ own_refusal z own
    own_2 h = sym (ap (λ (t : Bool). cond t (Err Station) (Ok tt)) (le-leb n own h)) ∙ good

    pub own_0 : own < n → Ok tt ≡ own_refusal z own
    own_0 h = sym (ap (λ (t : Bool). cond t (Err Station) (Ok tt)) (lt-leb n own h)) ∙ good

-- a mode other than M is one that is demanded
pub wanted : (m : ℕ) → (m ≡ 1 → ⊥) → is_mode m ≡ is_wanted m
unfolding is_mode
wanted zero h = refl
wanted (suc zero) h = absurd (h refl)
wanted (suc (suc n)) h = simp (le-leb 1 (suc (suc n)) (omega arith), le-leb 2 (suc (suc n)) (omega arith))
