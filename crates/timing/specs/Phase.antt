-- The phases of a lease, each found by the edge at which it ends.
use Rattle.std.specs.Prelude.{ℕ, ◌+◌, ◌-◌, cond, nat_lt, Option, Some, None}
use Rattle.timing.specs.Settings.{Settings, lease}
pub use Rattle.timing.specs.declared.settings.Phase.{Phase}
pub use Rattle.timing.specs.declared.settings.Phase.TheVariants.{First, Second, Third, Fourth}
pub use Rattle.timing.specs.declared.settings.Running.{Running}

-- "Phases 1 to 4"
abbrev pub phase_number : Phase → ℕ
phase_number First = 1
phase_number Second = 2
phase_number Third = 3
phase_number Fourth = 4

-- a phase in the paper's numbers, with the ticks until it ends; out is 0 and 0. A closing station's phases are the room's rule.
pub record SaidPhase : Type 0 where
  pub number : ℕ
  pub left : ℕ

abbrev pub said_phase : Option Running → SaidPhase
said_phase (Some f) = record { number = phase_number f.phase; left = f.left }
said_phase None = record { number = 0; left = 0 }

abbrev pub in_phase : Phase → ℕ → Option Running
in_phase f left = Some (record { phase = f; left = left })

-- "Phases 1 to 4 follow the four lengths from the lease start": where each ends, in ticks after the start
abbrev pub edge1 : Settings → ℕ
edge1 z = z.phase1

abbrev pub edge2 : Settings → ℕ
edge2 z = z.phase1 + z.phase2

abbrev pub edge3 : Settings → ℕ
edge3 z = z.phase1 + z.phase2 + z.phase3

-- the phase some ticks after the lease start: the first that has not ended. The engines ask it of settings in range only.
unfoldable pub phase_after : Settings → ℕ → Option Running
phase_after z ticks =
    cond (nat_lt ticks (edge1 z)) (in_phase First (edge1 z - ticks))
    (cond (nat_lt ticks (edge2 z)) (in_phase Second (edge2 z - ticks))
    (cond (nat_lt ticks (edge3 z)) (in_phase Third (edge3 z - ticks))
    (cond (nat_lt ticks (lease z)) (in_phase Fourth (lease z - ticks)) None)))
