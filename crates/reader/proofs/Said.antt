-- What was taken, as said in the paper's numbers, tells what was taken: nothing is lost on the way.
use Rattle.std.proofs.Common.{◌≡◌, arith}
use Rattle.reader.specs.declared.Taken.{Taken}
use Rattle.reader.specs.Reader.{said_taken}

pub said_taken_injective : (a b : Taken) → said_taken a ≡ said_taken b → a ≡ b
said_taken_injective a b e = grind arith
