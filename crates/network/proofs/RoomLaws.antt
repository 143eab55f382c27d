-- What a room does where nothing is refused.
-- Assumes nothing.
use mathlib.Core.Path.{◌≡◌, refl, ap, ◌∙◌}
use mathlib.Core.Bool.{Bool, true, false, ◌&&◌, not}
use Prim.Native.Nat.{ℕ, ◌+◌, ◌-◌, ◌<◌, ◌≤◌}
use Rattle.std.proofs.Common.{Ok}
use borrow.Author.Tests.{ltb-true, ltb-false, le-ltb, lt-leb, eq-eqb}
use lib.Dec.{ltb}
use Rattle.masks.specs.Mask.{Set, mask, count}
use Rattle.masks.proofs.Sets.{no_right}
use Rattle.timing.specs.Limits.{reading_limit}
use Rattle.timing.specs.declared.settings.Settings.{Settings}
use Rattle.timing.specs.Settings.{in_range, lease}
use Rattle.timing.specs.Phase.{edge1, edge2, phase_after}
use Rattle.timing.proofs.Phases.{in_first, in_second}
use Rattle.station.specs.Event.{Event, Open}
use Rattle.station.specs.declared.station.Station.{Station}
use Rattle.holds.specs.Stage.{early, phase_at, open_phase, is_out}
use Rattle.room.specs.Refusal.{station_of, named_refusal, refusal}
use Rattle.station.specs.Effect.{last_after, answer_to}
use Rattle.station.specs.Station.{is_over, at_reading, gone, expire, refusal_of, forbids, after, stepped, is_restart, lost, lost_if, step}
use Rattle.station.proofs.Steps.{happens}
use Rattle.station.proofs.Frames.{ends, lasts}

module _ (s : Station) (now : ℕ) (e : Event) where
  step_as : (x : Station) → expire s now ≡ x → refusal_of s now e ≡ Ok tt → forbids x e ≡ Ok tt →
      step s now e ≡ stepped (after x e) (answer_to (last_after x.last e) x.holds e) (mask (lost s now e)) (count (lost s now e))
  step_as x same free may =
      happens s now e free (ap (λ (x : Station). forbids x e) same ∙ may)
      ∙ ap (λ (x : Station). stepped (after x e) (answer_to (last_after x.last e) x.holds e) (mask (lost s now e)) (count (lost s now e))) same

  -- while the lease runs, or out
  pub step_on : refusal_of s now e ≡ Ok tt → is_over s now ≡ false → forbids (at_reading s now) e ≡ Ok tt →
      step s now e ≡ stepped (after (at_reading s now) e) (answer_to (last_after s.last e) s.holds e) 0 0
  step_on free over may =
      step_as (at_reading s now) (lasts s now over) free may
      ∙ ap (λ (l : Set). stepped (after (at_reading s now) e) (answer_to (last_after s.last e) s.holds e) (mask l) (count l))
      (ap (λ (b : Bool). lost_if (b && not (is_restart e)) s.holds) over)

  -- where the lease has run its length
  pub step_over : refusal_of s now e ≡ Ok tt → is_over s now ≡ true → forbids (gone s now) e ≡ Ok tt →
      step s now e ≡ stepped (after (gone s now) e) (answer_to (last_after s.last e) (gone s now).holds e) (mask (lost s now e)) (count (lost s now e))
  step_over free over may = step_as (gone s now) (ends s now over) free may

module _ (z : Settings) (good : in_range z ≡ true) where
  pub free : (own last now : ℕ) (e : Event) → own < z.stations → station_of own e ≡ own → named_refusal z.profiles e ≡ Ok tt →
      now ≤ reading_limit → last ≤ now → refusal z own last now e ≡ Ok tt
  unfolding refusal
  free own last now e here mine named top on =
      rw (good, lt-leb z.stations own here, eq-eqb (station_of own e) own mine, named, le-ltb reading_limit now top, le-ltb now last on)

  -- a lease that has not run its length
  pub runs : (s : Station) (now : ℕ) → now < s.start + lease s.settings → is_over s now ≡ false
  runs s now b = ap (λ (t : Bool). not (is_out s.standing) && t) (lt-leb (s.start + lease s.settings) now b) ∙ no_right (not (is_out s.standing))

  -- phase 1 or 2
  pub is_early : (start now : ℕ) → now - start < edge2 z → early (phase_at z Open start now) ≡ true
  unfolding phase_at
  is_early start now b = by_test (ltb (now - start) (edge1 z)) refl
    where
      by_test : (t : Bool) → ltb (now - start) (edge1 z) ≡ t → early (open_phase (phase_after z (now - start))) ≡ true
      by_test true q = rw (in_first z (now - start) (ltb-true (now - start) (edge1 z) q))
      by_test false q = rw (in_second z (now - start) (ltb-false (now - start) (edge1 z) q) b)
