-- What a writer's answer says in the paper's numbers tells the answer: nothing is lost on the way.
-- Assumes nothing.
use Rattle.std.proofs.Common.{◌≡◌, arith}
use Rattle.writer.specs.Put.{Put, said_put}

pub said_put_injective : (a b : Put) → said_put a ≡ said_put b → a ≡ b
said_put_injective a b e = grind arith
