-- Written and read, read and written: the record means the same both ways.
-- Assumes nothing.
use Prim.Native.Nat.{ℕ, zero, suc, ◌+◌, ◌^◌, ◌<◌, ◌≤◌}
use mathlib.Core.Path.{◌≡◌, refl, sym, ap, ◌∙◌}
use mathlib.Core.List.{List, [], ◌∷◌, ◌++◌}
use mathlib.Core.Bool.{Bool, true, false, true≢false, and-false}
use native.Mathlib.Omega.{arith}
use lib.Dec.{eqb}
use lib.ListN.{length, get_or, take, drop, length-take, length-drop, take-append-drop}
use lib.Seq.{take_at, drop_at, drop-cons, length-take-le, drop-drop, get_or-take, get_or-drop, take-take}
use borrow.Author.Tests.{le-ltb, ne_eqb}
use Rattle.record.specs.declared.message.Message.{Message}
use Rattle.std.specs.Prelude.{Ok, Err}
use Rattle.record.specs.Allowed.{is_kind, others, demands, allowed}
use Rattle.writer.specs.Put.{Put, bytes_of, put_answer, put_content}
use Rattle.record.specs.Read.{Read, message_of, read_bytes, read_at}
use Rattle.record.proofs.BigEndian.{digits_back, number_back}
use Rattle.writer.proofs.Lent as lent
use Rattle.record.proofs.Told.{Told, told}

-- ---- a message the record allows has one of the eight kinds
other : (k c : ℕ) → is_kind k ≡ false → is_kind c ≡ true → eqb k c ≡ false
other k c h t = ne_eqb k c (λ e. true≢false (sym t ∙ ap is_kind (sym e) ∙ h))

pub no_kind : (m : Message) → is_kind m.kind ≡ false → allowed m ≡ false
unfolding allowed others demands
no_kind m h =
    let k = m.kind in
    simp (other k 1 h refl, other k 2 h refl, other k 3 h refl, other k 4 h refl, other k 5 h refl, other k 6 h refl, other k 7 h refl, other k 8 h refl, and-false)

pub kind_allowed : (m : Message) → allowed m ≡ true → is_kind m.kind ≡ true
kind_allowed m h = grind (arith, no_kind m)

-- ---- written, then read
module _ (m : Message) (fits : m.number < 256 ^ 4) where
  message_back : message_of (bytes_of m) ≡ m
  message_back =
      ap
      (λ (n : ℕ). record {
        kind = m.kind;
        station = m.station;
        number = n;
        profile = m.profile;
        mode = m.mode;
        detail = m.detail;
      })
      (digits_back 4 m.number fits)

  bytes_read : (next : ℕ) → allowed m ≡ true → read_bytes (bytes_of m) next ≡ Ok (m, next)
  unfolding read_bytes
  bytes_read next h = grind (arith, message_back, kind_allowed m h)

  eleven_there : (p q : List ℕ) (at : ℕ) → length p ≡ at → take 11 (drop at (p ++ (bytes_of m ++ q))) ≡ bytes_of m
  eleven_there p q at e = ap (take 11) (drop_at p (bytes_of m ++ q) at e) ∙ take_at (bytes_of m) q 11 refl

  -- A message the record allows, written and read at the same place, is that message and the next place.
  pub put_then_read : (at : ℕ) (l : List ℕ) (next : ℕ) → put_answer m at l ≡ Ok next
      → read_at (put_content m at l) at ≡ Ok (m, next)
  put_then_read at l next e =
      let t = lent.accepted m at l next e in
      rw (e, t.2, eleven_there (take at l) (drop (at + 11) l) at (length-take-le at l (omega arith)))
      (bytes_read (at + 11) t.0)

-- ---- one rule
abbrev pub taken : Read → Bool
taken (Ok (m, next)) = true
taken (Err refusal) = false

abbrev pub wrote : Put → Bool
wrote (Ok next) = true
wrote (Err refusal) = false

module _ (m : Message) (fits : m.number < 256 ^ 4) where
  judged : (next : ℕ) → taken (read_bytes (bytes_of m) next) ≡ allowed m
  unfolding read_bytes
  judged next = grind (arith, message_back m fits, kind_allowed m)

  -- Where there is room, the writer takes a message exactly if the record allows it, and so does the reader its bytes.
  pub one_rule : (at : ℕ) (l : List ℕ) → at + 11 ≤ length l
      → (wrote (put_answer m at l) ≡ allowed m)
      × (taken (read_at (take at l ++ (bytes_of m ++ drop (at + 11) l)) at) ≡ allowed m)
  one_rule at l room = (writes (allowed m) refl, reads)
    where
      writes : (t : Bool) → allowed m ≡ t → wrote (put_answer m at l) ≡ allowed m
      writes true p = simp (p, le-ltb _ _ room)
      writes false p = simp p

      reads : taken (read_at (take at l ++ (bytes_of m ++ drop (at + 11) l)) at) ≡ allowed m
      reads =
          rw (eleven_there m fits (take at l) (drop (at + 11) l) at (length-take-le at l (omega arith)))
          (judged (at + 11))

-- ---- read, then written
firsts : ℕ → ℕ → List ℕ → List ℕ
firsts zero j l = []
firsts (suc n) j l = get_or l j 0 ∷ firsts n (suc j) l

firsts_is : (n j : ℕ) (l : List ℕ) → j + n ≤ length l → take n (drop j l) ≡ firsts n j l
unfolding firsts
firsts_is zero j l h = refl
firsts_is (suc n) j l h = rw (drop-cons l j 0 (omega arith), firsts_is n (suc j) l (omega arith))

module _ (s : List ℕ) (byte : (i : ℕ) → get_or s i 0 < 256) (at : ℕ) (m : Message) (next : ℕ) (e : read_at s at ≡ Ok (m, next)) where
  abbrev eleven : List ℕ
  eleven = take 11 (drop at s)

  abbrev number : List ℕ
  number = get_or eleven 4 0 ∷ get_or eleven 5 0 ∷ get_or eleven 6 0 ∷ get_or eleven 7 0 ∷ []

  known : Told eleven (at + 11) m next
  known = told eleven (at + 11) m next e

  there : at + 11 ≤ length s
  there = omega (arith, simp (length-take, length-drop) at known.whole)

  small : (i : ℕ) → i < 11 → get_or eleven i 0 < 256
  small i h = rw (get_or-take 11 (drop at s) i 0 h, get_or-drop at s i 0) (byte (at + i))

  -- A record that is accepted, written anew, gives its own eleven bytes ..
  pub read_then_put : bytes_of m ≡ take 11 (drop at s)
  unfolding firsts
  read_then_put =
      let f = known.first in
      let g = known.second in
      let spelled : eleven ≡ firsts 11 0 eleven = sym (take-take 11 11 (drop at s) (omega arith)) ∙ firsts_is 11 0 eleven known.whole in
      let d = number_back number (small 4 (omega arith), (small 5 (omega arith), (small 6 (omega arith), (small 7 (omega arith), tt)))) in
      ap bytes_of (sym known.same)
      ∙ ap (λ (n : List ℕ). 0xB7 ∷ 0x1E ∷ get_or eleven 2 0 ∷ get_or eleven 3 0 ∷ (n ++ (get_or eleven 8 0 ∷ get_or eleven 9 0 ∷ get_or eleven 10 0 ∷ []))) d
      ∙ rw (← f, ← g) (sym spelled)

  -- .. and so leaves the bytes that it was read from as they are.
  pub written_anew : (put_answer m at s ≡ Ok next) × (put_content m at s ≡ s)
  written_anew =
      let good = known.good in
      let room = le-ltb (length s) (at + 11) there in
      (simp (good, room) (ap Ok known.place), simp (good, room) same)
    where
      same : take at s ++ (bytes_of m ++ drop (at + 11) s) ≡ s
      same =
          ap (λ (b : List ℕ). take at s ++ (b ++ drop (at + 11) s)) read_then_put
          ∙ rw (← drop-drop 11 at s, take-append-drop 11 (drop at s)) (take-append-drop at s)

-- ---- the eleven bytes alone
abbrev pub next_at : ℕ → Read → Read
next_at next (Ok (m, n)) = Ok (m, next)
next_at next (Err refusal) = Err refusal

next_apart : (b : List ℕ) (k n : ℕ) → next_at k (read_bytes b n) ≡ read_bytes b k
unfolding read_bytes
next_apart b k n = grind arith

-- Reading depends on those eleven bytes only: the same bytes elsewhere are the same message or refusal, with the place after them.
pub eleven_only : (s t : List ℕ) (a b : ℕ) → take 11 (drop a s) ≡ take 11 (drop b t) → next_at (b + 11) (read_at s a) ≡ read_at t b
eleven_only s t a b e = next_apart (take 11 (drop a s)) (b + 11) (a + 11) ∙ ap (λ (l : List ℕ). read_bytes l (b + 11)) e
