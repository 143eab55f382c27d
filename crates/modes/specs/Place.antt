-- Where a mode stands in the code's tables. No rule: only the code's own look-up speaks of it.
use Rattle.std.specs.Prelude.{ℕ, zero, suc, cond, nat_lt, Option, Some, None}
use Rattle.modes.specs.Modes.{as_mode}

-- M stands at 0; no lock stands past the end
abbrev pub place_in : ℕ → ℕ
place_in zero = 6
place_in (suc n) = n

unfoldable pub place_of : ℕ → ℕ
place_of m = place_in (as_mode m)

-- the same as the code answers it: none for what is no mode
abbrev pub place_at : ℕ → Option ℕ
place_at m = cond (nat_lt (place_of m) 6) (Some (place_of m)) None
