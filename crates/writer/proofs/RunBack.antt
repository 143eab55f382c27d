-- A run that was written is read back, record by record.
-- Assumes nothing.
use Prim.Native.Nat.{ℕ, zero, suc, ◌+◌, ◌*◌, ◌^◌, ◌<◌}
use mathlib.Core.Path.{◌≡◌, refl, sym, ap, ◌∙◌}
use mathlib.Core.List.{List, [], ◌∷◌, ◌++◌}
use native.Mathlib.Nat.{add-zero, zero-add, suc-add}
use native.Mathlib.Omega.{arith}
use lib.ListN.{get_or, take, drop}
use lib.Seq.{take-take, take_at, length-take-le, take-nil}
use Rattle.record.specs.declared.message.Message.{Message}
use Rattle.std.specs.Prelude.{Ok, Err}
use Rattle.writer.specs.Put.{Put, bytes_of, put_answer, put_content}
use Rattle.record.specs.Read.{read_bytes, read_at}
use Rattle.writer.specs.Run.{run_answer, run_content}
use Rattle.writer.proofs.Lent.{accepted}
use Rattle.writer.proofs.Turns.{goes_answer, goes_content, ends_answer, ends_content}
use Rattle.writer.proofs.Round.{put_then_read}

-- ---- one record
module _ (m : Message) (at : ℕ) (l : List ℕ) (next : ℕ) (e : put_answer m at l ≡ Ok next) where
  put_before : take at (put_content m at l) ≡ take at l
  put_before = let a = accepted m at l next e in simp e (take_at (take at l) (bytes_of m ++ drop (at + 11) l) at (length-take-le at l (omega arith)))

-- ---- what stands before a run's place stays
kept_one : (m : Message) (ms : List Message) (at : ℕ) (l : List ℕ) (p : Put) → put_answer m at l ≡ p
    → ((next : ℕ) (k : List ℕ) → take next (run_content ms next k) ≡ take next k)
    → take at (run_content (m ∷ ms) at l) ≡ take at l
kept_one m ms at l (Err refusal) e g = ap (take at) (ends_content 0 m ms at l refusal e)
kept_one m ms at l (Ok next) e g =
    let a = accepted m at l next e in
    let k = put_content m at l in
    ap (take at) (goes_content 0 m ms at l next e)
    ∙ sym (take-take at next (run_content ms next k) (omega arith))
    ∙ ap (take at) (g next k)
    ∙ take-take at next k (omega arith)
    ∙ put_before m at l next e

kept : (ms : List Message) (at : ℕ) (l : List ℕ) → take at (run_content ms at l) ≡ take at l
unfolding run_content
kept [] at l = refl
kept (m ∷ ms) at l = kept_one m ms at l (put_answer m at l) refl (λ next k. kept ms next k)

-- bytes from a place are the last of those up to their end
swap : (at n : ℕ) (l : List ℕ) → take n (drop at l) ≡ drop at (take (at + n) l)
swap zero n l = rw (zero-add n)
swap (suc at) n [] = rw (take-nil n, take-nil (suc at + n))
swap (suc at) n (x ∷ l) = rw (suc-add at n) (swap at n l)

-- ---- the first record of a run, whatever follows
first_back : (m : Message) (ms : List Message) (at : ℕ) (l : List ℕ) (next : ℕ) → m.number < 256 ^ 4 → put_answer m at l ≡ Ok next
    → read_at (run_content (m ∷ ms) at l) at ≡ Ok (m, next)
first_back m ms at l next fits e =
    let k = put_content m at l in
    let s = run_content ms next k in
    let end = (accepted m at l next e).2 in
    let same : take (at + 11) s ≡ take (at + 11) k = ap (λ (n : ℕ). take n s) (sym end) ∙ kept ms next k ∙ ap (λ (n : ℕ). take n k) end in
    ap (λ (x : List ℕ). read_at x at) (goes_content 0 m ms at l next e)
    ∙ ap (λ (b : List ℕ). read_bytes b (at + 11)) (swap at 11 s ∙ ap (drop at) same ∙ sym (swap at 11 k))
    ∙ put_then_read m fits at l next e

-- ---- all of them
Back : List Message → Message → Type 0
Back ms none =
    (before at : ℕ) (l : List ℕ) (j : ℕ) → before + j < (run_answer before ms at l).written
    → read_at (run_content ms at l) (at + j * 11) ≡ Ok (get_or ms j none, at + j * 11 + 11)

back_one : (m : Message) (ms : List Message) (none : Message) → m.number < 256 ^ 4 → Back ms none
    → (before at : ℕ) (l : List ℕ) (p : Put) → put_answer m at l ≡ p → (j : ℕ) → before + j < (run_answer before (m ∷ ms) at l).written
    → read_at (run_content (m ∷ ms) at l) (at + j * 11) ≡ Ok (get_or (m ∷ ms) j none, at + j * 11 + 11)
unfolding Back
back_one m ms none fits rest before at l (Err refusal) e j h =
    absurd (omega (arith, rw (ends_answer before m ms at l refusal e) at h))
back_one m ms none fits rest before at l (Ok next) e zero h =
    rw (add-zero at) (first_back m ms at l next fits e ∙ ap (λ (n : ℕ). Ok (m, n)) (accepted m at l next e).2)
back_one m ms none fits rest before at l (Ok next) e (suc j) h =
    let end = (accepted m at l next e).2 in
    let place : at + suc j * 11 ≡ next + j * 11 = omega arith in
    rw place
    (ap (λ (x : List ℕ). read_at x (next + j * 11)) (goes_content before m ms at l next e)
    ∙ rest (suc before) next (put_content m at l) j (omega (arith, rw (goes_answer before m ms at l next e) at h)))

backs : (ms : List Message) (none : Message) → ((i : ℕ) → (get_or ms i none).number < 256 ^ 4) → Back ms none
unfolding Back run_answer
backs [] none fits before at l j h = absurd (omega arith)
backs (m ∷ ms) none fits before at l j h =
    back_one m ms none (fits 0) (backs ms none (λ i. fits (suc i))) before at l (put_answer m at l) refl j h

-- Each message of a run that was written is read where its turn came, eleven bytes after the one before it.
pub run_back : (ms : List Message) (none : Message) → ((i : ℕ) → (get_or ms i none).number < 256 ^ 4) → (at : ℕ) (l : List ℕ) (j : ℕ)
    → j < (run_answer 0 ms at l).written
    → read_at (run_content ms at l) (at + j * 11) ≡ Ok (get_or ms j none, at + j * 11 + 11)
unfolding Back
run_back ms none fits at l j h = backs ms none fits 0 at l j (omega arith)
