-- Going from record to record: one turn, its end, and that a refusal ends it.
-- Assumes nothing.
use Prim.Native.Nat.{ℕ, zero, suc, ◌+◌, ◌*◌, ◌<◌, ◌≤◌}
use mathlib.Core.Path.{◌≡◌, refl, sym}
use mathlib.Core.List.{List}
use native.Mathlib.Omega.{arith}
use lib.ListN.{length, take, drop, length-take, length-drop}
use Rattle.record.specs.declared.message.Message.{Message}
use Rattle.std.specs.Prelude.{Ok, Err}
use Rattle.refusals.specs.declared.Refusal.{Refusal}
use Rattle.record.specs.Read.{Read, read_at}
use Rattle.reader.specs.Reader.{passing, passed_from}
use Rattle.record.proofs.Told.{told}

-- a record that is read lies within the bytes, and the next place is its end
pub lies : (s : List ℕ) (at : ℕ) (m : Message) (next : ℕ) → read_at s at ≡ Ok (m, next) → (at + 11 ≤ length s) × (next ≡ at + 11)
lies s at m next e =
    let t = told (take 11 (drop at s)) (at + 11) m next e in
    (omega (arith, simp (length-take, length-drop) at t.whole), sym t.place)

module _ (left before : ℕ) (s : List ℕ) (at : ℕ) where
  pub passes : (m : Message) (next : ℕ) → read_at s at ≡ Ok (m, next) → passing (suc left) before s at ≡ passing left (suc before) s next
  unfolding passing
  passes m next e = simp e

  pub stops : (refusal : Refusal) → read_at s at ≡ Err refusal
      → passing (suc left) before s at ≡ record { count = before; next = at; refusal = refusal }
  unfolding passing
  stops refusal e = simp e

enough : (left before : ℕ) (s : List ℕ) (at : ℕ) (r : Read) → read_at s at ≡ r → length s < at + left * 11 + 11
    → read_at s (passing (suc left) before s at).next ≡ Err (passing (suc left) before s at).refusal
enough zero before s at (Err refusal) e h = rw (stops zero before s at refusal e) e
enough zero before s at (Ok (m, next)) e h = absurd (omega (arith, lies s at m next e))
enough (suc left) before s at (Err refusal) e h = rw (stops (suc left) before s at refusal e) e
enough (suc left) before s at (Ok (m, next)) e h =
    let l = lies s at m next e in
    rw (passes (suc left) before s at m next e) (enough left (suc before) s next (read_at s next) refl (omega arith))

-- Where it stops the reader gives the refusal that it says.
pub stopped : (s : List ℕ) (at : ℕ) → read_at s (passed_from s at).next ≡ Err (passed_from s at).refusal
stopped s at = enough (length s) 0 s at (read_at s at) refl (omega arith)
