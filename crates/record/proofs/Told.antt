-- What an accepted record says.
-- Assumes nothing.
use Rattle.std.proofs.Common.{◌≡◌, ℕ, ◌≤◌, List, true, length, get_or, Ok, arith}
use Rattle.record.specs.declared.message.Message.{Message}
use Rattle.record.specs.Allowed.{allowed}
use Rattle.record.specs.Read.{message_of, read_bytes}

pub record Told (b : List ℕ) (next : ℕ) (m : Message) (n : ℕ) : Type 0 where
  pub whole : 11 ≤ length b
  pub first : get_or b 0 0 ≡ 0xB7
  pub second : get_or b 1 0 ≡ 0x1E
  pub good : allowed m ≡ true
  pub same : message_of b ≡ m
  pub place : next ≡ n

pub told : (b : List ℕ) (next : ℕ) (m : Message) (n : ℕ) → read_bytes b next ≡ Ok (m, n) → Told b next m n
unfolding read_bytes
told b next m n e =
    record {
      whole = grind arith;
      first = grind arith;
      second = grind arith;
      good = grind arith;
      same = grind arith;
      place = grind arith;
    }
