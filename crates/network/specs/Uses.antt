-- Condition 3 in the user's words: what a room's engine allows is a use, and no allowed one stands beside another room's incompatible use.
use Rattle.std.specs.Prelude.{◌≡◌, true, List, ◌∷◌, ℕ, ◌<◌}
use Rattle.modes.specs.Modes.{goes_with, covers, writes}
use Rattle.modes.specs.declared.Mode.{Mode}
use Rattle.timing.specs.declared.settings.Settings.{Settings}
use Rattle.timing.specs.Settings.{in_range, wait}
use Rattle.station.specs.Event.{Event, Begin, Edit, WriteOut}
use Rattle.station.specs.declared.event.Answer.TheVariants.{Done}
use Rattle.station.specs.Station.{mode_of, step}
use Rattle.network.specs.Picture.{does, Moment, run}
use Rattle.network.specs.Premises.{Permitted}
use Rattle.network.specs.Claims.{Uses, mode_at}

-- the mode that room i held on profile p when the latest moment came
abbrev pub held_mode : Settings → Moment → List Moment → ℕ → ℕ → ℕ
held_mode z t h i p = mode_of ((run z (wait z) h).rooms i) p

-- the event happens in room i at the latest moment of a permitted history, and the engine answers done
pub record Allowed (z : Settings) (t : Moment) (h : List Moment) (i : ℕ) (e : Event) : Type 0 where
  pub permitted : Permitted z (wait z) (t ∷ h)
  pub happens : t.what ≡ does i e
  pub done : (step ((run z (wait z) h).rooms i) (t.rooms i) e).answer ≡ Done

-- at that moment room i may use the profile, in the mode that it held, and no other room may use it in a mode incompatible with that
pub record Undisturbed (z : Settings) (t : Moment) (h : List Moment) (i p : ℕ) : Type 0 where
  pub uses : Uses z (wait z) t h i p
  pub held : mode_at z (wait z) t h i p ≡ held_mode z t h i p
  pub others : (j : ℕ) → j < z.stations → (i ≡ j → ⊥) → Uses z (wait z) t h j p →
      goes_with (held_mode z t h i p) (mode_at z (wait z) t h j p) ≡ true

-- "Begin an operation in a mode: .. held mode covers it"
unfoldable pub BeginSafe : Type 0
BeginSafe =
    (z : Settings) → in_range z ≡ true → (t : Moment) (h : List Moment) (i p : ℕ) (m : Mode) → Allowed z t h i (Begin p m)
    → (covers (held_mode z t h i p) m.0 ≡ true) × Undisturbed z t h i p

-- "Edit: .. a writing mode"
unfoldable pub EditSafe : Type 0
EditSafe =
    (z : Settings) → in_range z ≡ true → (t : Moment) (h : List Moment) (i p : ℕ) → Allowed z t h i (Edit p)
    → (writes (held_mode z t h i p) ≡ true) × Undisturbed z t h i p

-- "Write out: .. a writing mode". A write that a station engine allows counts as done at that moment.
unfoldable pub WriteOutSafe : Type 0
WriteOutSafe =
    (z : Settings) → in_range z ≡ true → (t : Moment) (h : List Moment) (i p : ℕ) → Allowed z t h i (WriteOut p)
    → (writes (held_mode z t h i p) ≡ true) × Undisturbed z t h i p
