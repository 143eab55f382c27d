-- What condition 3 takes for granted of clocks and network, a line for each premise. The others stand in the picture itself:
-- 'same settings, own numbers' is `world_at_first`, and 'true readings' is `next`.
use Rattle.std.specs.Prelude.{◌≡◌, Bool, true, false, ℕ, ◌-◌, ◌<◌, ◌≤◌}
use mathlib.Core.List.{List, [], ◌∷◌, Memᴰ}
use Rattle.timing.specs.declared.settings.Settings.{Settings}
use Rattle.timing.specs.Settings.{RateRule}
use Rattle.station.specs.Event.{Event, Send, Begin, Edit, End, WriteOut, Restart, Acked, Nacked, Demand}
use Rattle.network.specs.Picture.{World, Happening, nothing, ticks, hears, gets, does, asks, Moment, run}

-- An earlier and a later moment, at the server's clock and at the clock of room i.
pub record Clocks (z : Settings) (old new : Moment) (i : ℕ) : Type 0 where
  -- "never set back"
  pub server_on : old.server ≤ new.server
  pub room_on : old.rooms i ≤ new.rooms i
  -- "clocks within the rate rule", either way round
  pub rate : RateRule z (new.rooms i - old.rooms i) (new.server - old.server)

-- what the people in a room can do: everything but the three kinds of message from the server
abbrev pub is_own : Event → Bool
is_own (Send q) = true
is_own (Begin p m) = true
is_own (Edit p) = true
is_own (End p) = true
is_own (WriteOut p) = true
is_own Restart = true
is_own (Acked i k a) = false
is_own (Nacked i k d) = false
is_own (Demand i p m) = false

-- "a network that may lose, delay, repeat or reorder but never alter or invent": what comes was sent. Rooms are those of the settings.
abbrev pub Happens : Settings → World → Happening → Type 0
Happens z w nothing = Unit {0}
Happens z w ticks = Unit {0}
Happens z w (hears m) = Memᴰ m w.up
Happens z w (gets i m) = (i < z.stations) × Memᴰ m w.down
Happens z w (does i e) = (i < z.stations) × (is_own e ≡ true)
Happens z w (asks i) = i < z.stations

-- A permitted history: each new moment keeps the clocks' premises against every earlier one, for every room, and what happens can happen.
pub data Permitted (z : Settings) (wait : ℕ) : List Moment → Type 0 where
  begins : Permitted z wait []
  goes_on : {t : Moment} {h : List Moment} →
      ((old : Moment) (i : ℕ) → Memᴰ old h → i < z.stations → Clocks z old t i) →
      Happens z (run z wait h) t.what →
      Permitted z wait h → Permitted z wait (t ∷ h)
