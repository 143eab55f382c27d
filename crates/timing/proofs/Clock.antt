-- The wrapped difference is the counter's advance, and a reading less than 2 ^ 32 ticks ahead is found again from its low bits.
-- Assumes nothing.
use Rattle.std.proofs.Common.{◌≡◌, ℕ, ◌+◌, ◌%◌, ◌^◌, ◌<◌, ◌≤◌, arith, le-leb, Ok}
use Rattle.timing.specs.Limits.{reading_limit}
use Rattle.timing.specs.Reading.{advance, widened}

pub advances : (last counter r : ℕ) → r < 2 ^ 32 → (r + last % 2 ^ 32) % 2 ^ 32 ≡ counter → r ≡ advance last counter
advances last counter r h e = omega arith

-- "right if fewer than 4,294,967,296 ticks have passed since that last reading"
pub true_reading : (last t : ℕ) → last ≤ t → t < last + 2 ^ 32 → t ≤ reading_limit → widened last (t % 2 ^ 32) ≡ Ok t
unfolding widened
true_reading last t h k l =
    let e : last + advance last (t % 2 ^ 32) ≡ t = omega arith in
    let b : last ≤ reading_limit = omega arith in
    simp (le-leb last reading_limit b, e, le-leb t reading_limit l)
