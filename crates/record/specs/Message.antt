-- A message by its six numbers, in the order of its record.
use Rattle.std.specs.Prelude.{ℕ}
use Rattle.record.specs.declared.message.Message.{Message}

abbrev pub message : ℕ → ℕ → ℕ → ℕ → ℕ → ℕ → Message
message kind station number profile mode detail =
    record { kind = kind; station = station; number = number; profile = profile; mode = mode; detail = detail }
