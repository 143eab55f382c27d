-- Where a station stands in its lease.
use Rattle.std.specs.Prelude.{Bool, true, false, ◌&&◌, ℕ, ◌-◌, leb, Option, Some, None}
use Rattle.timing.specs.declared.settings.Settings.{Settings}
use Rattle.timing.specs.declared.settings.Phase.{Phase}
use Rattle.timing.specs.declared.settings.Phase.TheVariants.{First, Second, Third, Fourth}
use Rattle.timing.specs.declared.settings.Running.{Running}
use Rattle.timing.specs.Phase.{phase_number, phase_after}
pub use Rattle.holds.specs.declared.stage.Standing.{Standing}
pub use Rattle.holds.specs.declared.stage.Standing.TheVariants.{Out, Open, Closing}
pub use Rattle.holds.specs.declared.stage.Stage.{Stage}

abbrev pub is_out : Standing → Bool
is_out Out = true
is_out Open = false
is_out Closing = false

-- a phase in the paper's numbers; 0 is out
abbrev pub phase_said : Option Phase → ℕ
phase_said (Some f) = phase_number f
phase_said None = 0

-- "Phases 1 to 4 follow the four lengths from the lease start"; 0 is out
abbrev pub open_phase : Option Running → ℕ
open_phase (Some f) = phase_number f.phase
open_phase None = 0

-- "closing counts phases 1 and 2 as 3"
abbrev pub closing_number : Phase → ℕ
closing_number First = 3
closing_number Second = 3
closing_number Third = 3
closing_number Fourth = 4

abbrev pub closing_phase : Option Running → ℕ
closing_phase (Some f) = closing_number f.phase
closing_phase None = 0

abbrev pub room_phase : Standing → Option Running → ℕ
room_phase Out f = 0
room_phase Open f = open_phase f
room_phase Closing f = closing_phase f

-- "1 to 4, or out, also once the lease has run L ticks"
unfoldable pub phase_at : Settings → Standing → ℕ → ℕ → ℕ
phase_at z standing start now = room_phase standing (phase_after z (now - start))

-- "open, phase 1 or 2": a closing station is never early, since its phases 1 and 2 count as 3
abbrev pub early : ℕ → Bool
early n = leb 1 n && leb n 2

-- "up to phase 3"
abbrev pub not_late : ℕ → Bool
not_late n = leb 1 n && leb n 3

abbrev pub stage_at : Settings → Standing → ℕ → ℕ → Stage
stage_at z standing start now =
    record {
      out = is_out standing;
      early = early (phase_at z standing start now);
      not_late = not_late (phase_at z standing start now);
    }
