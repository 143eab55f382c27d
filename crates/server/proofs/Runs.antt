-- Runs of messages: one message more, and the demands to the stations of a mask one after another.
-- Assumes nothing.
use mathlib.Core.Path.{◌≡◌, sym, ap, ◌∙◌}
use mathlib.Core.Bool.{Bool, true, false, cond}
use mathlib.Core.List.{List, [], ◌∷◌, ◌++◌, append_assoc, append-nil}
use Prim.Native.Nat.{ℕ, suc, ◌+◌, ◌-◌, ◌/◌, ◌%◌, ◌<◌, ◌≤◌}
use native.Mathlib.Omega.{arith}
use lib.Dec.{eqb}
use lib.ListN.{length, set, replicate, length-append}
use lib.Seq.{set-append_seam, take-append_seam}
use borrow.Author.Tests.{lt-ltb, eq-eqb, ne_eqb}
use Rattle.record.specs.declared.message.Message.{Message}
use Rattle.writer.specs.declared.run.Run.{Run}
use Rattle.record.specs.Message.{message}
use Rattle.writer.specs.Run.{messages_of}
use Rattle.server.specs.Border.{first_if, demands_from}
use Rattle.server.specs.Run.{blank, most, run_of, pushed}

-- the array after one message more
room : (l : List Message) (m : Message) (k : ℕ) → set (l ++ replicate (suc k) blank) (length l) m ≡ (l ++ (m ∷ [])) ++ replicate k blank
room l m k = set-append_seam l blank (replicate k blank) m ∙ sym (append_assoc l (m ∷ []) (replicate k blank))

length_more : (l : List Message) (m : Message) → length (l ++ (m ∷ [])) ≡ length l + 1
length_more l m = length-append l (m ∷ [])

pub run_more : (l : List Message) (m : Message) → length l < most → pushed m (run_of l) ≡ run_of (l ++ (m ∷ []))
unfolding run_of
run_more l m h =
    let e : most - length l ≡ suc (most - (length l + 1)) = omega arith in
    ap (λ (t : Bool). cond t (record { count = length l + 1; messages = set (l ++ replicate (most - length l) blank) (length l) m }) (run_of l)) (lt-ltb (length l) most h)
    ∙ (λ i. record { count = sym (length_more l m) i; messages = (ap (λ (k : ℕ). set (l ++ replicate k blank) (length l) m) e ∙ room l m (most - (length l + 1)) ∙ ap (λ (k : ℕ). (l ++ (m ∷ [])) ++ replicate (most - k) blank) (sym (length_more l m))) i })

-- a loop over the stations, at station j: what the run holds, and the demands that are still to come
abbrev pub Turned : ℕ → ℕ → ℕ → ℕ → List Message → Run → Type 0
Turned j w p v total run =
    (l : List Message) × ((run ≡ run_of l) × ((length l ≤ suc j) × (l ++ demands_from (16 - j) j w p v ≡ total)))

module _ (j w p v : ℕ) (total : List Message) (in_order : j < 16) where
  left : (l : List Message) → l ++ demands_from (16 - j) j w p v ≡ l ++ demands_from (suc (15 - j)) j w p v
  left l = let e : 16 - j ≡ suc (15 - j) = omega arith in ap (λ (n : ℕ). l ++ demands_from n j w p v) e

  on : (l : List Message) → l ++ demands_from (15 - j) (suc j) (w / 2) p v ≡ l ++ demands_from (16 - (j + 1)) (j + 1) (w / 2) p v
  on l =
      let e : 15 - j ≡ 16 - (j + 1) = omega arith in
      let f : suc j ≡ j + 1 = omega arith in
      λ i. l ++ demands_from (e i) (f i) (w / 2) p v

  -- what the lowest bit decides
  first_is : (t : Bool) → eqb (w % 2) 1 ≡ t → (l : List Message)
      → l ++ demands_from (16 - j) j w p v ≡ l ++ first_if t (message 8 j 0 p v 0) (demands_from (15 - j) (suc j) (w / 2) p v)
  first_is t q l =
      left l
      ∙ ap (λ (b : Bool). l ++ first_if b (message 8 j 0 p v 0) (demands_from (15 - j) (suc j) (w / 2) p v)) q

  pub demanded : (run : Run) → w % 2 ≡ 1 → Turned j w p v total run → Turned (j + 1) (w / 2) p v total (pushed (message 8 j 0 p v 0) run)
  demanded run odd (l, (is, (short, all))) =
      let m = message 8 j 0 p v 0 in (
        l ++ (m ∷ []),
        (
          ap (pushed m) is ∙ run_more l m (omega arith),
          (
            omega (arith, length_more l m),
            sym (on (l ++ (m ∷ []))) ∙ append_assoc l (m ∷ []) (demands_from (15 - j) (suc j) (w / 2) p v) ∙ sym (first_is true (eq-eqb (w % 2) 1 odd) l) ∙ all,
          ),
        ),
      )

  pub passed_over : (run : Run) → (w % 2 ≡ 1 → ⊥) → Turned j w p v total run → Turned (j + 1) (w / 2) p v total run
  passed_over run even (l, (is, (short, all))) = (l, (is, (omega arith, sym (on l) ∙ sym (first_is false (ne_eqb (w % 2) 1 even) l) ∙ all)))

-- after the last station
pub finished : (j w p v : ℕ) (total : List Message) (run : Run) → 16 ≤ j → Turned j w p v total run → run ≡ run_of total
finished j w p v total run h (l, (is, (short, all))) =
    let e : 0 ≡ 16 - j = omega arith in
    is ∙ ap run_of (sym (append-nil l) ∙ ap (λ (n : ℕ). l ++ demands_from n j w p v) e ∙ all)

-- the messages of the run of a list are the list
pub run_messages : (l : List Message) → messages_of (run_of l) ≡ l
unfolding run_of
run_messages l = take-append_seam l (replicate (most - length l) blank)
