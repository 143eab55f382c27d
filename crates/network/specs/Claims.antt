-- What is claimed of every permitted history, in the words of condition 3, which are quoted. A moment is the latest of its history; every
-- moment of a longer one is such a latest.
use Rattle.std.specs.Prelude.{◌≡◌, true, false, List, ◌∷◌, ℕ, ◌+◌, ◌-◌, ◌*◌, ◌<◌, ◌≤◌, Ok}
use Rattle.modes.specs.Modes.{goes_with}
use Rattle.timing.specs.declared.settings.Settings.{Settings}
use Rattle.timing.specs.Settings.{in_range, lease, wait}
use Rattle.station.specs.Station.{mode_of, may_use}
use Rattle.network.specs.Picture.{Moment, run}
use Rattle.network.specs.Premises.{Permitted}

-- room i may use profile p at the latest moment: the engine's own question says yes
abbrev pub Uses : Settings → ℕ → Moment → List Moment → ℕ → ℕ → Type 0
Uses z w t h i p = may_use ((run z w (t ∷ h)).rooms i) (t.rooms i) p ≡ Ok true

-- the mode that room i then holds on profile p
abbrev pub mode_at : Settings → ℕ → Moment → List Moment → ℕ → ℕ → ℕ
mode_at z w t h i p = mode_of ((run z w (t ∷ h)).rooms i) p

-- "at no moment may two rooms use one profile in incompatible modes"
unfoldable pub Safe : Type 0
Safe =
    (z : Settings) → in_range z ≡ true → (t : Moment) (h : List Moment) → Permitted z (wait z) (t ∷ h)
    → (i j p : ℕ) → i < z.stations → j < z.stations → (i ≡ j → ⊥)
    → Uses z (wait z) t h i p → Uses z (wait z) t h j p
    → goes_with (mode_at z (wait z) t h i p) (mode_at z (wait z) t h j p) ≡ true

-- "The wait W exceeds the lengthened lease by at least one tick and by less than two": in D-ths of a tick
pub record Exceeds (z : Settings) : Type 0 where
  pub by_one : lease z * (z.d + z.n) + z.d ≤ wait z * z.d
  pub less_than_two : wait z * z.d < lease z * (z.d + z.n) + 2 * z.d

unfoldable pub WaitBounds : Type 0
WaitBounds = (z : Settings) → in_range z ≡ true → Exceeds z

-- two rooms that may use one profile in incompatible modes, at the latest moment of a permitted history
pub record Breach (z : Settings) (w : ℕ) : Type 0 where
  pub latest : Moment
  pub before : List Moment
  pub permitted : Permitted z w (latest ∷ before)
  pub profile : ℕ
  pub one : ℕ
  pub other : ℕ
  pub one_in : one < z.stations
  pub other_in : other < z.stations
  pub two : one ≡ other → ⊥
  pub one_uses : Uses z w latest before one profile
  pub other_uses : Uses z w latest before other profile
  pub incompatible : goes_with (mode_at z w latest before one profile) (mode_at z w latest before other profile) ≡ false

-- "with one tick less and two rooms some permitted history breaks this, for every valid settings"
unfoldable pub OneTickLess : Type 0
OneTickLess = (z : Settings) → in_range z ≡ true → 2 ≤ z.stations → Breach z (wait z - 1)
