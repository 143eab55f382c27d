-- A turn of the loop over a run, and its ends.
-- Assumes nothing.
use Rattle.std.proofs.Common.{◌≡◌, ℕ, suc, ◌+◌, ◌<◌, ◌≤◌, Bool, true, false, leb, List, ◌∷◌, length, get_or, take, drop, length-take, drop-cons, add-one, Ok, Err, Some, None, refl, sym, ap, ◌∙◌, arith}
use Prim.Native.Nat.{min}
use lib.ListN.{drop_of_length-le}
use lib.Seq.{take_all, get_or-take}
use borrow.Author.Tests.{leb-true, leb-false}
use Rattle.record.specs.declared.message.Message.{Message}
use Rattle.refusals.specs.declared.Refusal.{Refusal}
use Rattle.writer.specs.Put.{put_answer, put_content}
use Rattle.writer.specs.Run.{run_answer, run_content}

-- a count beyond the list is the list's length
pub all_meant : (n count : ℕ) (l : List Message) → n ≡ min count (length l) → take n l ≡ take count l
all_meant n count l e = ways (leb count (length l)) refl
  where
    ways : (t : Bool) → leb count (length l) ≡ t → take n l ≡ take count l
    ways true p = let h = leb-true count (length l) p in let q : n ≡ count = omega arith in ap (λ (k : ℕ). take k l) q
    ways false p =
        let h = leb-false count (length l) p in
        take_all n l (omega arith) ∙ sym (take_all count l (omega arith))

-- the message at a place of those that are meant
pub here : (l : List Message) (count i : ℕ) (d : Message) → i < count → count ≤ length l
    → drop i (take count l) ≡ get_or l i d ∷ drop (suc i) (take count l)
here l count i d h k =
    drop-cons (take count l) i d (simp length-take (omega arith))
    ∙ ap (λ (m : Message). m ∷ drop (suc i) (take count l)) (get_or-take count l i d h)

module _ (before : ℕ) (m : Message) (ms : List Message) (at : ℕ) (buf : List ℕ) where
  pub goes_answer : (n : ℕ) → put_answer m at buf ≡ Ok n → run_answer before (m ∷ ms) at buf ≡ run_answer (suc before) ms n (put_content m at buf)
  unfolding run_answer
  goes_answer n e = simp e

  pub goes_content : (n : ℕ) → put_answer m at buf ≡ Ok n → run_content (m ∷ ms) at buf ≡ run_content ms n (put_content m at buf)
  unfolding run_content
  goes_content n e = simp e

  pub ends_answer : (r : Refusal) → put_answer m at buf ≡ Err r → run_answer before (m ∷ ms) at buf ≡ record { written = before; next = at; refusal = Some r }
  unfolding run_answer
  ends_answer r e = simp e

  pub ends_content : (r : Refusal) → put_answer m at buf ≡ Err r → run_content (m ∷ ms) at buf ≡ buf
  unfolding run_content
  ends_content r e = simp e

-- the same at a place of a list
module _ (ms : List Message) (i : ℕ) (none : Message) (at : ℕ) (buf : List ℕ) (within : i < length ms) where
  pub go_answer : (n : ℕ) → put_answer (get_or ms i none) at buf ≡ Ok n
      → run_answer i (drop i ms) at buf ≡ run_answer (i + 1) (drop (i + 1) ms) n (put_content (get_or ms i none) at buf)
  go_answer n e = rw (drop-cons ms i none within, add-one) (goes_answer i (get_or ms i none) (drop (suc i) ms) at buf n e)

  pub go_content : (n : ℕ) → put_answer (get_or ms i none) at buf ≡ Ok n
      → run_content (drop i ms) at buf ≡ run_content (drop (i + 1) ms) n (put_content (get_or ms i none) at buf)
  go_content n e = rw (drop-cons ms i none within, add-one) (goes_content i (get_or ms i none) (drop (suc i) ms) at buf n e)

  pub stop : (r : Refusal) → put_answer (get_or ms i none) at buf ≡ Err r
      → (run_answer i (drop i ms) at buf ≡ record { written = i; next = at; refusal = Some r })
      × (run_content (drop i ms) at buf ≡ put_content (get_or ms i none) at buf)
  stop r e =
      let m = get_or ms i none in
      rw (drop-cons ms i none within) (ends_answer i m (drop (suc i) ms) at buf r e, ends_content i m (drop (suc i) ms) at buf r e ∙ simp e)

-- the same where the message at the place is named
module _ (ms : List Message) (i : ℕ) (m : Message) (at : ℕ) (buf : List ℕ) (here : drop i ms ≡ m ∷ drop (suc i) ms) where
  pub stop_answer : (r : Refusal) → put_answer m at buf ≡ Err r
      → run_answer i (drop i ms) at buf ≡ record { written = i; next = at; refusal = Some r }
  stop_answer r e = rw here (ends_answer i m (drop (suc i) ms) at buf r e)

  pub stop_content : (r : Refusal) → put_answer m at buf ≡ Err r → run_content (drop i ms) at buf ≡ buf
  stop_content r e = rw here (ends_content i m (drop (suc i) ms) at buf r e)

-- no message is left
module _ (ms : List Message) (i : ℕ) (at : ℕ) (buf : List ℕ) (done : length ms ≤ i) where
  pub end_answer : (n : ℕ) → n ≡ i → record { written = n; next = at; refusal = None } ≡ run_answer i (drop i ms) at buf
  unfolding run_answer
  end_answer n e = rw (drop_of_length-le ms done, e) refl

  pub end_content : run_content (drop i ms) at buf ≡ buf
  unfolding run_content
  end_content = rw (drop_of_length-le ms done) refl

pub end : (ms : List Message) (i at : ℕ) (buf : List ℕ) → length ms ≡ i
    → (run_answer i (drop i ms) at buf ≡ record { written = length ms; next = at; refusal = None }) × (run_content (drop i ms) at buf ≡ buf)
unfolding run_answer run_content
end ms i at buf done = rw (drop_of_length-le ms {i = i} (omega arith), done) (refl, refl)
