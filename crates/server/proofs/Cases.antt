-- Every event is one of these cases, each with what the law of Events or Ticks for it asks. A proof about all events goes through them.
-- Assumes nothing.
use mathlib.Core.Path.{◌≡◌, refl}
use mathlib.Core.Bool.{Bool, true, false}
use Prim.Native.Nat.{ℕ, ◌<◌, ◌≤◌}
use native.Mathlib.Omega.{arith}
use Rattle.std.proofs.Common.{Ok, Err}
use lib.Dec.{ltb}
use borrow.Author.Tests.{ltb-true, ltb-false}
use Rattle.refusals.specs.Refusal.{Verdict}
use Rattle.refusals.specs.declared.Refusal.{Refusal}
use Rattle.masks.specs.Mask.{any}
use Rattle.modes.specs.declared.Mode.{Mode}
use Rattle.server.specs.State.{Status, Unknown, Live, TimingOut, Server, status_of, last_of}
use Rattle.server.specs.Event.{Request, Hello, KeepAlive, Ask, Release, Keep, Event, Message, Tick}
use Rattle.judging.specs.Refusal.{refusal}
use Rattle.server.proofs.Serves.{Accepted}
use Rattle.server.proofs.InTheWay.{holders, kept_holders}

pub data Case (s : Server) (now : ℕ) : Event → Type 0 where
  refused : {e : Event} (r : Refusal) → refusal s.settings s.reading now e ≡ Err r → Case s now e
  ticks : Accepted s now Tick → Case s now Tick
  stale : {i k : ℕ} {q : Request} → Accepted s now (Message i k q) → k ≤ last_of s i → Case s now (Message i k q)
  nack_0 : {i k : ℕ} {q : Request} → Accepted s now (Message i k q) → last_of s i < k → (since : ℕ) → status_of s i ≡ TimingOut since → Case s now (Message i k q)
  nack_1 : {i k : ℕ} {q : Request} → Accepted s now (Message i k q) → last_of s i < k → (q ≡ Hello → ⊥) → status_of s i ≡ Unknown → Case s now (Message i k q)
  hello : {i k : ℕ} → Accepted s now (Message i k Hello) → last_of s i < k → ((since : ℕ) → status_of s i ≡ TimingOut since → ⊥) → Case s now (Message i k Hello)
  keep_alive : {i k : ℕ} → Accepted s now (Message i k KeepAlive) → last_of s i < k → status_of s i ≡ Live → Case s now (Message i k KeepAlive)
  release : {i k p : ℕ} → Accepted s now (Message i k (Release p)) → last_of s i < k → status_of s i ≡ Live → Case s now (Message i k (Release p))
  keep : {i k p : ℕ} → Accepted s now (Message i k (Keep p)) → last_of s i < k → status_of s i ≡ Live → Case s now (Message i k (Keep p))
  ask_granted : {i k p : ℕ} {asked : Mode} → Accepted s now (Message i k (Ask p asked)) → last_of s i < k → status_of s i ≡ Live →
      any (holders s i p asked.0) ≡ false → Case s now (Message i k (Ask p asked))
  ask_in_use : {i k p : ℕ} {asked : Mode} → Accepted s now (Message i k (Ask p asked)) → last_of s i < k → status_of s i ≡ Live →
      any (kept_holders s i p asked.0) ≡ true → Case s now (Message i k (Ask p asked))
  ask_wait : {i k p : ℕ} {asked : Mode} → Accepted s now (Message i k (Ask p asked)) → last_of s i < k → status_of s i ≡ Live →
      any (holders s i p asked.0) ≡ true → any (kept_holders s i p asked.0) ≡ false → Case s now (Message i k (Ask p asked))

module _ (s : Server) (now : ℕ) where
  module _ (i k : ℕ) (new : last_of s i < k) where
    from_unknown : (q : Request) → Accepted s now (Message i k q) → status_of s i ≡ Unknown → Case s now (Message i k q)
    from_unknown Hello a e = hello a new (λ since h. grind arith)
    from_unknown KeepAlive a e = nack_1 a new (λ h. grind arith) e
    from_unknown (Ask p asked) a e = nack_1 a new (λ h. grind arith) e
    from_unknown (Release p) a e = nack_1 a new (λ h. grind arith) e
    from_unknown (Keep p) a e = nack_1 a new (λ h. grind arith) e

    from_live : (q : Request) → Accepted s now (Message i k q) → status_of s i ≡ Live → Case s now (Message i k q)
    from_live Hello a e = hello a new (λ since h. grind arith)
    from_live KeepAlive a e = keep_alive a new e
    from_live (Release p) a e = release a new e
    from_live (Keep p) a e = keep a new e
    from_live (Ask p asked) a e = by_free (any (holders s i p asked.0)) refl
      where
        by_kept : (b : Bool) → any (holders s i p asked.0) ≡ true → any (kept_holders s i p asked.0) ≡ b → Case s now (Message i k (Ask p asked))
        by_kept true h g = ask_in_use a new e g
        by_kept false h g = ask_wait a new e h g

        by_free : (b : Bool) → any (holders s i p asked.0) ≡ b → Case s now (Message i k (Ask p asked))
        by_free true h = by_kept (any (kept_holders s i p asked.0)) h refl
        by_free false h = ask_granted a new e h

  from_message : (i k : ℕ) (q : Request) → Accepted s now (Message i k q) → Case s now (Message i k q)
  from_message i k q a = by_number (ltb (last_of s i) k) refl
    where
      by_status_lem : (σ : Status) → status_of s i ≡ σ → last_of s i < k → Case s now (Message i k q)
      by_status_lem Unknown e new = from_unknown i k new q a e
      by_status_lem Live e new = from_live i k new q a e
      by_status_lem (TimingOut since) e new = nack_0 a new since e

      by_number : (b : Bool) → ltb (last_of s i) k ≡ b → Case s now (Message i k q)
      by_number true e = by_status_lem (status_of s i) refl (ltb-true (last_of s i) k e)
      by_number false e = stale a (ltb-false (last_of s i) k e)

  pub case_of : (e : Event) → Case s now e
  case_of e = by_refusal (refusal s.settings s.reading now e) refl
    where
      by_event : (e : Event) → Accepted s now e → Case s now e
      by_event (Message i k q) a = from_message i k q a
      by_event Tick a = ticks a

      by_refusal : (v : Verdict) → refusal s.settings s.reading now e ≡ v → Case s now e
      by_refusal (Ok _) h = by_event e h
      by_refusal (Err r) h = refused r h
