-- What a reading says in the paper's numbers tells what was read: nothing is lost on the way.
-- Assumes nothing.
use Rattle.std.proofs.Common.{◌≡◌, arith}
use Rattle.record.specs.Read.{Read, said_read}

pub said_read_injective : (a b : Read) → said_read a ≡ said_read b → a ≡ b
said_read_injective a b e = grind arith
