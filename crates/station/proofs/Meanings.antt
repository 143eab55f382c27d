-- Kinds and details that are none of a room's make no event there; and what an event says tells it from every other.
-- Assumes nothing.
use Rattle.std.proofs.Common.{◌≡◌, ℕ, Option, None, arith}
use Rattle.record.specs.declared.message.Message.{Message}
use Rattle.station.specs.Event.{Event}
use Rattle.station.specs.Border.{ack_as, meant_as, said_meant}

pub no_ack : (d : ℕ) (m : Message) → (d ≡ 0 → ⊥) → (d ≡ 1 → ⊥) → (d ≡ 2 → ⊥) → (d ≡ 3 → ⊥) → None ≡ ack_as d m
no_ack d m h0 h1 h2 h3 = grind arith

pub no_event : (k : ℕ) (m : Message) → (k ≡ 6 → ⊥) → (k ≡ 7 → ⊥) → (k ≡ 8 → ⊥) → None ≡ meant_as k m
no_event k m h6 h7 h8 = grind arith

pub meant_told : (a b : Option Event) → said_meant a ≡ said_meant b → a ≡ b
meant_told a b e = grind arith
