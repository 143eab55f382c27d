-- The stage by the phase, and the phase by where a station stands.
-- Assumes nothing.
use mathlib.Core.Path.{◌≡◌, sym, ap, ◌∙◌}
use mathlib.Core.Bool.{Bool, false, ◌&&◌}
use Prim.Native.Nat.{ℕ, ◌-◌}
use native.Mathlib.Omega.{arith}
use lib.Dec.{leb}
use borrow.Author.Tests.{le-leb}
use Rattle.timing.specs.declared.settings.Settings.{Settings}
use Rattle.std.proofs.Common.{Option}
use Rattle.timing.specs.declared.settings.Running.{Running}
use Rattle.timing.specs.Phase.{said_phase, phase_after}
use Rattle.timing.proofs.Said.{phase_told}
use Rattle.timing.proofs.Choice.{both}
use Rattle.holds.specs.Stage.{Standing, Out, Open, Closing, is_out, open_phase, closing_phase, phase_at, Stage, stage_at, early, not_late}

-- the stage by the phase
module _ (z : Settings) (σ : Standing) (start now : ℕ) (o : Bool) (n : ℕ) (d : o ≡ is_out σ) (e : n ≡ phase_at z σ start now) where
  abbrev by_phase : Bool → ℕ → Stage
  by_phase o n = record { out = o; early = early n; not_late = not_late n }

  whole : by_phase o n ≡ stage_at z σ start now
  whole = both by_phase d e

  pub stage_out : n ≡ 0 → record { out = o; early = false; not_late = false } ≡ stage_at z σ start now
  stage_out h = sym (ap (by_phase o) h) ∙ whole

  pub stage_in : (n ≡ 0 → ⊥) → record { out = o; early = leb n 2; not_late = leb n 3 } ≡ stage_at z σ start now
  stage_in h = ap (λ (t : Bool). record { out = o; early = t && leb n 2; not_late = t && leb n 3 }) (sym (le-leb 1 n (omega arith))) ∙ whole

-- the phase of a station; f is what the settings answer of the ticks since its lease's start
module _ (z : Settings) (σ : Standing) (start now t : ℕ) (e : t ≡ now - start) (f : Option Running) (d : said_phase f ≡ said_phase (phase_after z t)) where
  in_phase : f ≡ phase_after z (now - start)
  in_phase = phase_told f (phase_after z t) d ∙ ap (phase_after z) e

  pub phase_open : (r : ℕ) → r ≡ open_phase f → σ ≡ Open → r ≡ phase_at z σ start now
  unfolding phase_at
  phase_open r g o = g ∙ ap open_phase in_phase ∙ sym (ap (λ (σ : Standing). phase_at z σ start now) o)

  pub phase_closing : (r : ℕ) → r ≡ closing_phase f → σ ≡ Closing → r ≡ phase_at z σ start now
  unfolding phase_at
  phase_closing r g o = g ∙ ap closing_phase in_phase ∙ sym (ap (λ (σ : Standing). phase_at z σ start now) o)

pub phase_none : (z : Settings) (σ : Standing) (start now : ℕ) → σ ≡ Out → 0 ≡ phase_at z σ start now
unfolding phase_at
phase_none z σ start now o = sym (ap (λ (σ : Standing). phase_at z σ start now) o)
