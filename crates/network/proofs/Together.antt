-- Clocks that all read the same, at every moment up to t, keep the premises.
-- Assumes nothing.
use mathlib.Core.Path.{◌≡◌, refl}
use Prim.Native.Nat.{ℕ, ◌-◌, ◌*◌, ◌<◌, ◌≤◌}
use native.Mathlib.Omega.{arith}
use native.Mathlib.Nat.{le_refl, mul-le-mul_right}
use Rattle.timing.specs.declared.settings.Settings.{Settings}
use Rattle.timing.specs.Settings.{Rate}
use Rattle.network.specs.Picture.{Happening, Moment}
use Rattle.network.specs.Premises.{Clocks}
use Rattle.network.specs.Examples.{at}

abbrev pub Together : ℕ → Moment → Type 0
Together t m = (m.server ≤ t) × ((i : ℕ) → m.rooms i ≡ m.server)

pub at_together : (t : ℕ) (e : Happening) → Together t (at t e)
at_together t e = (le_refl t, λ i. refl)

pub later : {t t' : ℕ} → t ≤ t' → (m : Moment) → Together t m → Together t' m
later b m f = ((let u = f.0 in omega arith), f.1)

module _ (z : Settings) (base : 1 ≤ z.d) where
  pub level : (a : ℕ) → Rate z a a
  level a =
      let p : (a - 1) * z.d ≤ a * z.d = mul-le-mul_right z.d (omega arith) in
      omega arith

  pub together : (t : ℕ) (old : Moment) (e : Happening) (i : ℕ) → Together t old → i < z.stations → Clocks z old (at t e) i
  together t old e i f here =
      record {
        server_on = f.0;
        room_on = rw (f.1 i) f.0;
        rate = rw (f.1 i) (level (t - old.server), level (t - old.server));
      }
