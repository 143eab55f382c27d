-- Several records in a row.
use Rattle.std.specs.Prelude.{ℕ, suc, List, [], ◌∷◌, take, Ok, Err, Some, None}
use Rattle.record.specs.declared.message.Message.{Message}
use Rattle.refusals.specs.declared.Refusal.{Refusal}
use Rattle.writer.specs.declared.run.Run.{Run}
use Rattle.writer.specs.declared.run.Written.{Written}
use Rattle.writer.specs.Put.{Put, put_answer, put_content}

-- an array and a count: the first so many, or all of them
abbrev pub messages_of : Run → List Message
messages_of run = take run.count run.messages

-- what follows a write, by its answer: on at the next place, or an end with the refusal
abbrev pub after_put : {A : Type 0} → Put → (ℕ → A) → (Refusal → A) → A
after_put (Ok next) go stop = go next
after_put (Err refusal) go stop = stop refusal

-- "The writer puts several records one after another, each into what room is left": how many with those before, the place, and the refusal, if there was one
unfoldable pub run_answer : ℕ → List Message → ℕ → List ℕ → Written
run_answer before [] at buf = record { written = before; next = at; refusal = None }
run_answer before (m ∷ ms) at buf =
    after_put (put_answer m at buf)
    (λ next. run_answer (suc before) ms next (put_content m at buf))
    (λ r. record { written = before; next = at; refusal = Some r })

-- ".. one that fails writes none of its bytes", and those before it stand
unfoldable pub run_content : List Message → ℕ → List ℕ → List ℕ
run_content [] at buf = buf
run_content (m ∷ ms) at buf =
    after_put (put_answer m at buf)
    (λ next. run_content ms next (put_content m at buf))
    (λ r. buf)
