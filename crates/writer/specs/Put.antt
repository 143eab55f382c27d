-- What the writer answers, and what the buffer holds afterwards.
use Rattle.std.specs.Prelude.{ℕ, ◌+◌, not, cond, List, [], ◌∷◌, ◌++◌, ltb, length, take, drop, Result, Ok, Err}
use Rattle.record.specs.declared.message.Message.{Message}
use Rattle.refusals.specs.Refusal.{number}
use Rattle.refusals.specs.declared.Refusal.{Refusal}
use Rattle.refusals.specs.declared.Refusal.TheVariants.{NotAllowed, NoRoom}
use Rattle.record.specs.Number.{digits}
use Rattle.record.specs.Allowed.{allowed}

-- "B7 1E, the house mark; kind; station ..; number, 4 bytes, high first; profile; mode; detail."
abbrev pub bytes_of : Message → List ℕ
bytes_of m =
    0xB7 ∷ 0x1E ∷ m.kind ∷ m.station
    ∷ (digits 4 m.number ++ (m.profile ∷ m.mode ∷ m.detail ∷ []))

-- the place after a record that was written, or the refusal
abbrev pub Put : Type 0
Put = Result ℕ Refusal

-- "the writer answers 18 for a message the record does not allow"; 19 "fewer than 11 bytes of room"; "The lowest number wins."
abbrev pub put_answer : Message → ℕ → List ℕ → Put
put_answer m at buf =
    cond (not (allowed m)) (Err NotAllowed)
    (cond (ltb (length buf) (at + 11)) (Err NoRoom) (Ok (at + 11)))

-- "one that fails writes none of its bytes"
abbrev pub content_after : Put → Message → ℕ → List ℕ → List ℕ
content_after (Ok next) m at buf = take at buf ++ (bytes_of m ++ drop (at + 11) buf)
content_after (Err refusal) m at buf = buf

-- the whole buffer afterwards
abbrev pub put_content : Message → ℕ → List ℕ → List ℕ
put_content m at buf = content_after (put_answer m at buf) m at buf

-- An answer in the paper's numbers: the refusal, 0 for none, and then the next place.
abbrev pub said_put : Put → List ℕ
said_put (Ok next) = 0 ∷ next ∷ []
said_put (Err refusal) = number refusal ∷ []
