-- The paper's numbers and values tell every event apart, so that a promise in them leaves one.
-- Assumes nothing.
use Rattle.std.proofs.Common.{◌≡◌, Option, arith}
use Rattle.server.specs.Event.{Event}
use Rattle.server.specs.Border.{said_meant}

pub meant_told : (a b : Option Event) → said_meant a ≡ said_meant b → a ≡ b
meant_told a b e = grind arith
