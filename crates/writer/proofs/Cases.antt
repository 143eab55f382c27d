-- "Station 3 asks number 258, profile 5, mode W: B7 1E 03 03 00 00 01 02 05 04 00. The same with mode 7 is 18."
-- Assumes nothing.
use Prim.Native.Nat.{ℕ}
use mathlib.Core.Path.{◌≡◌, refl}
use mathlib.Core.List.{List, [], ◌∷◌}
use lib.ListN.{replicate}
use Rattle.record.specs.declared.message.Message.{Message}
use Rattle.std.specs.Prelude.{Ok, Err}
use Rattle.refusals.specs.declared.Refusal.TheVariants.{NotAllowed}
use Rattle.record.specs.Allowed.{others, demands, allowed}
use Rattle.writer.specs.Put.{put_answer, put_content}
use Rattle.record.specs.Read.{read_bytes, read_at}

abbrev ask_in : ℕ → Message
ask_in wanted = record { kind = 3; station = 3; number = 258; profile = 5; mode = wanted; detail = 0 }

abbrev ask_bytes : ℕ → List ℕ
ask_bytes wanted = 0xB7 ∷ 0x1E ∷ 0x03 ∷ 0x03 ∷ 0x00 ∷ 0x00 ∷ 0x01 ∷ 0x02 ∷ 0x05 ∷ wanted ∷ 0x00 ∷ []

abbrev room : List ℕ
room = replicate 11 0xEE

pub hand_checked : (put_answer (ask_in 4) 0 room ≡ Ok 11)
    × (put_content (ask_in 4) 0 room ≡ ask_bytes 4)
    × (read_at (ask_bytes 4) 0 ≡ Ok (ask_in 4, 11))
    × (put_answer (ask_in 7) 0 room ≡ Err NotAllowed)
    × (put_content (ask_in 7) 0 room ≡ room)
    × (read_at (ask_bytes 7) 0 ≡ Err NotAllowed)
unfolding allowed others demands read_bytes
hand_checked = (refl, refl, refl, refl, refl, refl)
