-- The ticks left of a lease.
use Rattle.std.specs.Prelude.{ℕ, ◌+◌, Bool, true, false, cond, ◌||◌, ℤ, pos, ◌-ℤ◌, nat_lt, Result, Ok, Err}
use Rattle.timing.specs.Limits.{reading_limit, lease_shortest, lease_longest}
use Rattle.refusals.specs.Refusal.{number}
use Rattle.refusals.specs.declared.Refusal.{Refusal}
use Rattle.refusals.specs.declared.Refusal.TheVariants.{Settings, AboveLimit, BelowLast}

-- an answer in the paper's numbers: whether there are ticks, the refusal, the ticks
pub record SaidLeft : Type 0 where
  pub good : Bool
  pub refusal : ℕ
  pub ticks : ℤ

abbrev pub said_left : Result ℤ Refusal → SaidLeft
said_left (Ok z) = record { good = true; refusal = 0; ticks = z }
said_left (Err r) = record { good = false; refusal = number r; ticks = pos 0 }

-- "Ticks left, worked out from a lease start, L and a reading, is start + L - reading ..
-- A reading below the start is refusal 6; L out of range is 1, either reading above the limit 5." The lowest number wins.
unfoldable pub left_of : ℕ → ℕ → ℕ → Result ℤ Refusal
left_of start length reading =
    cond (nat_lt length lease_shortest || nat_lt lease_longest length) (Err Settings)
    (cond (nat_lt reading_limit start || nat_lt reading_limit reading) (Err AboveLimit)
    (cond (nat_lt reading start) (Err BelowLast) (Ok (pos (start + length) -ℤ pos reading))))
