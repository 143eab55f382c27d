-- The form of the frame laws: what an event answers, and the four tables of statuses, last numbers, modes and marks as they are then,
-- entry by entry. The laws themselves are in Events and Ticks.
-- Assumes nothing.
use mathlib.Core.Path.{◌≡◌, sym, subst, ◌∙◌}
use mathlib.Core.Bool.{Bool, true, false, cond, ◌&&◌}
use Prim.Native.Nat.{ℕ}
use Rattle.std.proofs.Common.{Ok}
use native.Mathlib.Omega.{arith}
use lib.Dec.{eqb}
use lib.ListN.{length}
use Rattle.server.specs.State.{Status, Mark, Server, status_of, last_of, mode_of, mark_of}
use Rattle.server.specs.Event.{Request, Event, Message, Answer}
use Rattle.judging.specs.Refusal.{refusal}
use Rattle.server.specs.Step.{Served, step}
use Rattle.server.proofs.Marks.{Full}

-- the lists have their lengths: sixteen members, sixty-four profiles of sixteen modes and marks
pub record Sized (s : Server) : Type 0 where
  pub members : length s.members ≡ 16
  pub profiles : Full s.profiles

-- none of the refusals 1 to 6 applies
abbrev pub Accepted : Server → ℕ → Event → Type 0
Accepted s now e = refusal s.settings s.reading now e ≡ Ok tt

-- tables by station, and by station and profile, with some entries changed and every other as it was
module _ {A : Type 0} where
  abbrev pub at : ℕ → A → (ℕ → A) → ℕ → A
  at i v f j = cond (eqb j i) v (f j)

  abbrev pub changed_at : (ℕ → ℕ → Bool) → (A → A) → (ℕ → ℕ → A) → ℕ → ℕ → A
  changed_at test g f j q = cond (test j q) (g (f j q)) (f j q)

-- which entries: all of station i, its one on profile p, all on profile p
abbrev pub all_of : ℕ → ℕ → ℕ → Bool
all_of i j q = eqb j i

abbrev pub own : ℕ → ℕ → ℕ → ℕ → Bool
own i p j q = eqb q p && eqb j i

abbrev pub all_on : ℕ → ℕ → ℕ → Bool
all_on p j q = eqb q p

-- a mode that goes
abbrev pub no_lock : ℕ → ℕ
no_lock m = 0

-- the answer, and the state then; where a table is `status_of s`, `last_of s`, `mode_of s` or `mark_of s`, all in it is as it was
pub record Serves (s : Server) (now : ℕ) (r : Served) (answer : Answer) (σ : ℕ → Status) (κ : ℕ → ℕ) (μ : ℕ → ℕ → ℕ) (ν : ℕ → ℕ → Mark) : Type 0 where
  pub answers : r.answer ≡ answer
  pub settings : r.server.settings ≡ s.settings
  pub reading : r.server.reading ≡ now
  pub lengths : Sized r.server
  pub status : (j : ℕ) → status_of r.server j ≡ σ j
  pub last : (j : ℕ) → last_of r.server j ≡ κ j
  pub mode : (j q : ℕ) → mode_of r.server j q ≡ μ j q
  pub mark : (j q : ℕ) → mark_of r.server j q ≡ ν j q

-- of a message k of station i: its last number is k, the others' are as they were
abbrev pub Told : ℕ → Server → ℕ → ℕ → ℕ → Request → Answer → (ℕ → Status) → (ℕ → ℕ → ℕ) → (ℕ → ℕ → Mark) → Type 0
Told wait s now i k q answer σ μ ν = Serves s now (step wait s now (Message i k q)) answer σ (at i k (last_of s)) μ ν

-- to read a table: an entry that is changed, and one that is not. After a release r of (i, p), for another (j, q):
-- r.mode j q ∙ changed_other (own i p) no_lock (mode_of s) j q (own_other i p j q h) : its mode is as it was.
module _ {A : Type 0} (i : ℕ) (v : A) (f : ℕ → A) where
  pub at_same : at i v f i ≡ v
  at_same = grind arith

  pub at_other : (j : ℕ) → (j ≡ i → ⊥) → at i v f j ≡ f j
  at_other j h = grind arith

module _ {A : Type 0} (test : ℕ → ℕ → Bool) (g : A → A) (f : ℕ → ℕ → A) (j q : ℕ) where
  pub changed_here : test j q ≡ true → changed_at test g f j q ≡ g (f j q)
  changed_here e = grind arith

  pub changed_other : test j q ≡ false → changed_at test g f j q ≡ f j q
  changed_other e = grind arith

module _ (i p : ℕ) where
  pub own_here : own i p i p ≡ true
  own_here = grind arith

  pub own_so : (j q : ℕ) → own i p j q ≡ true → (q ≡ p) × (j ≡ i)
  own_so j q e = (grind arith, grind arith)

  pub own_other : (j q : ℕ) → ((q ≡ p) × (j ≡ i) → ⊥) → own i p j q ≡ false
  own_other j q h = grind arith

-- an entry set to what it was
pub at_itself : {A : Type 0} (i : ℕ) (f : ℕ → A) (j : ℕ) → at i (f i) f j ≡ f j
at_itself i f j = grind arith

-- the same said of another value, and by other tables
module _ {s : Server} {now : ℕ} {a : Answer} {σ : ℕ → Status} {κ : ℕ → ℕ} {μ : ℕ → ℕ → ℕ} {ν : ℕ → ℕ → Mark} where
  pub along : {r t : Served} → r ≡ t → Serves s now t a σ κ μ ν → Serves s now r a σ κ μ ν
  along e h = subst (λ (x : Served). Serves s now x a σ κ μ ν) (sym e) h

  pub by_tables : {r : Served} {μ' : ℕ → ℕ → ℕ} {ν' : ℕ → ℕ → Mark} →
      ((j q : ℕ) → μ j q ≡ μ' j q) → ((j q : ℕ) → ν j q ≡ ν' j q) → Serves s now r a σ κ μ ν → Serves s now r a σ κ μ' ν'
  by_tables m n h =
      record {
        answers = h.answers;
        settings = h.settings;
        reading = h.reading;
        lengths = h.lengths;
        status = h.status;
        last = h.last;
        mode = λ j q. h.mode j q ∙ m j q;
        mark = λ j q. h.mark j q ∙ n j q;
      }
