-- What refuses a reading, when a time has run, and the wide reading that a 32-bit counter stands for.
use Rattle.std.specs.Prelude.{ℕ, ◌+◌, ◌-◌, ◌%◌, ◌^◌, Bool, true, false, cond, nat_le, nat_lt, Result, Ok, Err}
use Rattle.timing.specs.Limits.{reading_limit}
use Rattle.refusals.specs.Refusal.{number, Verdict}
use Rattle.refusals.specs.declared.Refusal.{Refusal}
use Rattle.refusals.specs.declared.Refusal.TheVariants.{AboveLimit, BelowLast}

-- 5, 6: "reading above the limit; below the last one"
abbrev pub reading_refusal : ℕ → ℕ → Verdict
reading_refusal last now = cond (nat_lt reading_limit now) (Err AboveLimit) (cond (nat_lt now last) (Err BelowLast) (Ok tt))

-- a time that began at a reading has run so many ticks or more
abbrev pub passed : ℕ → ℕ → ℕ → Bool
passed since ticks now = nat_le (since + ticks) now

-- an answer in the paper's numbers: whether there is a reading, the refusal, the reading
pub record SaidWidened : Type 0 where
  pub good : Bool
  pub refusal : ℕ
  pub reading : ℕ

abbrev pub said_widened : Result ℕ Refusal → SaidWidened
said_widened (Ok t) = record { good = true; refusal = 0; reading = t }
said_widened (Err r) = record { good = false; refusal = number r; reading = 0 }

-- "the counter's advance round its wrap", from the low 32 bits of the last wide reading
abbrev pub advance : ℕ → ℕ → ℕ
advance last counter = (counter + (2 ^ 32 - last % 2 ^ 32)) % 2 ^ 32

-- "Its reading is widened from the last wide reading .. by the counter's advance ..; above the limit, refusal 5."
unfoldable pub widened : ℕ → ℕ → Result ℕ Refusal
widened last counter =
    cond (nat_le last reading_limit)
    (cond (nat_le (last + advance last counter) reading_limit) (Ok (last + advance last counter)) (Err AboveLimit))
    (Err AboveLimit)
