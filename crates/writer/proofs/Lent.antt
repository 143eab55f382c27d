-- A record put into the front of the room that is left is a record put at the place.
-- Assumes nothing.
use Prim.Native.Nat.{ℕ, ◌+◌, ◌-◌, ◌≤◌, min}
use mathlib.Core.Path.{◌≡◌, refl, ap}
use mathlib.Core.List.{List, [], append-nil}
use mathlib.Core.Bool.{Bool, true, false}
use native.Mathlib.Omega.{arith}
use lib.Dec.{ltb}
use lib.ListN.{length, drop, length-drop, drop_of_length-le}
use lib.Seq.{take_all, drop-drop}
use borrow.Author.Tests.{lt-ltb, le-ltb, ltb-true, ltb-false}
use borrow.Rule.Slice.PartMut.{mid_of, post_of, put_mid, put_same}
use Rattle.record.specs.declared.message.Message.{Message}
use Rattle.std.specs.Prelude.{Ok, Err}
use Rattle.record.specs.Allowed.{allowed}
use Rattle.writer.specs.Put.{Put, put_answer, put_content}

-- what an accepted write says
pub accepted : (m : Message) (at : ℕ) (l : List ℕ) (next : ℕ) → put_answer m at l ≡ Ok next
    → (allowed m ≡ true) × (at + 11 ≤ length l) × (next ≡ at + 11)
accepted m at l next e = ways (allowed m) (ltb (length l) (at + 11)) refl refl
  where
    ways : (t u : Bool) → allowed m ≡ t → ltb (length l) (at + 11) ≡ u
        → (allowed m ≡ true) × (at + 11 ≤ length l) × (next ≡ at + 11)
    ways false u p q = grind arith
    ways true true p q = grind arith
    ways true false p q = grind arith

abbrev pub moved : ℕ → Put → Put
moved start (Ok next) = Ok (start + next)
moved start (Err refusal) = Err refusal

module _ (m : Message) (at : ℕ) (l : List ℕ) (start : ℕ) (from : start ≡ min at (length l)) where
  rest_is : mid_of start (length l - start) l ≡ drop start l
  rest_is = take_all (length l - start) (drop start l) (simp length-drop (omega arith))

  none_after : post_of start (length l - start) l ≡ []
  none_after = drop_of_length-le (drop start l) {i = length l - start} (simp length-drop (omega arith))

  no_room : ltb (length l) (at + 11) ≡ true → ltb (length (mid_of start (length l - start) l)) 11 ≡ true
  no_room q = simp (rest_is, length-drop) (lt-ltb (length l - start) 11 (omega (arith, ltb-true (length l) (at + 11) q)))

  room : ltb (length l) (at + 11) ≡ false → ltb (length (mid_of start (length l - start) l)) 11 ≡ false
  room q = simp (rest_is, length-drop) (le-ltb (length l - start) 11 (omega (arith, ltb-false (length l) (at + 11) q)))

  there : ltb (length l) (at + 11) ≡ false → start ≡ at
  there q = omega (arith, ltb-false (length l) (at + 11) q)

  answers : (t u : Bool) → allowed m ≡ t → ltb (length l) (at + 11) ≡ u
      → moved start (put_answer m 0 (mid_of start (length l - start) l)) ≡ put_answer m at l
  answers false u p q = simp p
  answers true true p q = simp (p, q, no_room q)
  answers true false p q = simp (p, q, room q) (ap (λ (n : ℕ). Ok (n + 11)) (there q))

  pub lent_answer : moved start (put_answer m 0 (mid_of start (length l - start) l)) ≡ put_answer m at l
  lent_answer = answers (allowed m) (ltb (length l) (at + 11)) refl refl

  contents : (t u : Bool) → allowed m ≡ t → ltb (length l) (at + 11) ≡ u
      → put_mid start (length l - start) l (put_content m 0 (mid_of start (length l - start) l)) ≡ put_content m at l
  contents false u p q = simp p (put_same start (length l - start) l)
  contents true true p q = simp (p, q, no_room q) (put_same start (length l - start) l)
  contents true false p q = simp (p, q, room q) (simp (rest_is, none_after, drop-drop, append-nil (drop (start + 11) l)) (simp (there q)))

  pub lent_content : put_mid start (length l - start) l (put_content m 0 (mid_of start (length l - start) l)) ≡ put_content m at l
  lent_content = contents (allowed m) (ltb (length l) (at + 11)) refl refl
