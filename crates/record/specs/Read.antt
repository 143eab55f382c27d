-- What stands at a place of received bytes.
use Rattle.std.specs.Prelude.{ℕ, ◌+◌, Bool, not, cond, ◌&&◌, List, [], ◌∷◌, eqb, ltb, length, get_or, take, drop, Result, Ok, Err}
use Rattle.record.specs.declared.message.Message.{Message}
use Rattle.refusals.specs.Refusal.{number}
use Rattle.refusals.specs.declared.Refusal.{Refusal}
use Rattle.refusals.specs.declared.Refusal.TheVariants.{TooShort, BadMark, BadKind, NotAllowed}
use Rattle.record.specs.Number.{big_endian}
use Rattle.record.specs.Allowed.{is_kind, allowed}

-- "B7 1E, the house mark"
abbrev pub marked : ℕ → ℕ → Bool
marked first second = eqb first 0xB7 && eqb second 0x1E

-- ".. kind; station ..; number, 4 bytes, high first; profile; mode; detail."
abbrev pub message_of : List ℕ → Message
message_of b =
    record {
      kind = get_or b 2 0;
      station = get_or b 3 0;
      number = big_endian (get_or b 4 0 ∷ get_or b 5 0 ∷ get_or b 6 0 ∷ get_or b 7 0 ∷ []);
      profile = get_or b 8 0;
      mode = get_or b 9 0;
      detail = get_or b 10 0;
    }

-- what stands at a place: a message with the place after its record, or the refusal
abbrev pub Read : Type 0
Read = Result (Message × ℕ) Refusal

-- 15 "fewer than 11 bytes", 16, 17, 18 "mark; kind; any other field"; "The lowest number wins."
unfoldable pub read_bytes : List ℕ → ℕ → Read
read_bytes b next =
    cond (ltb (length b) 11) (Err TooShort)
    (cond (not (marked (get_or b 0 0) (get_or b 1 0))) (Err BadMark)
    (cond (not (is_kind (message_of b).kind)) (Err BadKind)
    (cond (not (allowed (message_of b))) (Err NotAllowed) (Ok (message_of b, next)))))

-- the eleven bytes that stand at a place, or what there is of them
abbrev pub read_at : List ℕ → ℕ → Read
read_at s at = read_bytes (take 11 (drop at s)) (at + 11)

-- An answer in the paper's numbers: the refusal, 0 for none, and then the message's six fields and the next place.
abbrev pub said_read : Read → List ℕ
said_read (Ok (m, next)) = 0 ∷ m.kind ∷ m.station ∷ m.number ∷ m.profile ∷ m.mode ∷ m.detail ∷ next ∷ []
said_read (Err refusal) = number refusal ∷ []
