-- Where fewer than eleven bytes stand at a place, the reader's rule says so.
-- Assumes nothing.
use Rattle.std.proofs.Common.{◌≡◌, ℕ, ◌+◌, ◌<◌, List, length, take, drop, length-take, length-drop, lt-ltb, Err, arith}
use Rattle.refusals.specs.declared.Refusal.TheVariants.{TooShort}
use Rattle.record.specs.Read.{read_bytes, read_at}

pub too_short : (s : List ℕ) (at : ℕ) → length s < at + 11 → read_at s at ≡ Err TooShort
unfolding read_bytes
too_short s at h = simp (lt-ltb (length (take 11 (drop at s))) 11 (simp (length-take, length-drop) (omega arith)))
