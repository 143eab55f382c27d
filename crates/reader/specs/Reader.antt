-- Where a reader goes from a place.
use Rattle.std.specs.Prelude.{ℕ, zero, suc, List, length, Ok, Err}
use Rattle.refusals.specs.declared.Refusal.{Refusal}
use Rattle.refusals.specs.declared.Refusal.TheVariants.{TooShort}
use Rattle.reader.specs.declared.Reader.{Reader}
use Rattle.reader.specs.declared.Taken.{Taken}
use Rattle.reader.specs.declared.Passed.{Passed}
use Rattle.record.specs.Read.{Read, read_at, said_read}

-- "15 to 19 leave place .. untouched": a record moves the reader past it, a refusal leaves it where it stood
abbrev pub after_read : Read → ℕ → ℕ
after_read (Ok (m, next)) at = next
after_read (Err refusal) at = at

abbrev pub next_place : List ℕ → ℕ → ℕ
next_place s at = after_read (read_at s at) at

-- The reader afterwards, with what it read.
abbrev pub taken_by : Reader → Taken
taken_by r =
    record {
      read = read_at r.src.now r.at;
      reader = record { src = r.src; at = next_place r.src.now r.at };
    }

-- What was taken in the paper's numbers, with the reader afterwards.
pub record SaidTaken : Type 0 where
  pub read : List ℕ
  pub reader : Reader

abbrev pub said_taken : Taken → SaidTaken
said_taken t = record { read = said_read t.read; reader = t.reader }

-- what follows a read, by its answer: on at the next place, or an end with the refusal
abbrev pub on_read : {A : Type 0} → Read → (ℕ → A) → (Refusal → A) → A
on_read (Ok (m, next)) go stop = go next
on_read (Err refusal) go stop = stop refusal

-- record after record, so many at most: how many with those before, where it stops, and why
unfoldable pub passing : ℕ → ℕ → List ℕ → ℕ → Passed
passing zero before s at = record { count = before; next = at; refusal = TooShort }
passing (suc left) before s at =
    on_read (read_at s at)
    (λ next. passing left (suc before) s next)
    (λ r. record { count = before; next = at; refusal = r })

-- All records that stand one after another from a place on. So many bytes hold fewer records, so that a refusal
-- stops it, and it never comes to the end of `passing`.
abbrev pub passed_from : List ℕ → ℕ → Passed
passed_from s at = passing (suc (length s)) 0 s at
