-- What a server hears of a request, and what it sends for an answer: the one ACK or NACK goes to the asker and has the number asked; no demand is an ACK.
-- Assumes nothing.
use mathlib.Core.Path.{◌≡◌, ap}
use mathlib.Core.Bool.{Bool, true, false}
use mathlib.Core.List.Memᴰ
use mathlib.Core.List.{List, Memᴰ}
use mathlib.Core.Logic.{◌⊎◌, inl, inr}
use Prim.Native.Nat.{ℕ, zero, suc, ◌/◌, ◌%◌}
use native.Mathlib.Omega.{arith}
use Rattle.std.proofs.Common.{Some}
use lib.Dec.{eqb}
use Rattle.record.specs.declared.message.Message.{Message}
use Rattle.server.specs.State.{Status, Live}
use Rattle.server.specs.Event.{Request, Message as Said, Answer, Done, Granted, Wait, InUse, Nack, Ticked, Refused}
use Rattle.record.specs.Message.{message}
use Rattle.requests.specs.Request.{message_of, request_of}
use Rattle.server.specs.Border.{event_of, first_if, demands_from, sent_for}

-- what a station says reaches the server as it was meant
pub heard_back_lem : (i k : ℕ) (q : Request) → event_of (message_of i k q) ≡ Some (Said i k q)
unfolding event_of request_of message_of
heard_back_lem i k q = grind arith

-- every ACK among the messages is to station i, of number k, from a server that has it live; and what it grants is the station's mode
abbrev pub Acks : ℕ → ℕ → Status → (ℕ → ℕ) → List Message → Type 0
Acks i k σ f ds =
    (m : Message) → Memᴰ m ds → m.kind ≡ 6 →
    (m.station ≡ i) × (m.number ≡ k) × (σ ≡ Live) × (m.detail ≡ 1 → f m.profile ≡ m.mode)

-- what that asks of the answer
abbrev pub Sure : Answer → Status → (ℕ → ℕ) → Type 0
Sure Done σ f = σ ≡ Live
Sure (Granted p m) σ f = (σ ≡ Live) × (f p ≡ m.0)
Sure (Wait p m mask count) σ f = σ ≡ Live
Sure (InUse p) σ f = σ ≡ Live
Sure (Nack d) σ f = Unit {0}
Sure (Ticked freed started) σ f = Unit {0}
Sure (Refused n) σ f = Unit {0}

-- no demand is an ACK
no_ack_in : (n j w p wanted : ℕ) (m : Message) → Memᴰ m (demands_from n j w p wanted) → m.kind ≡ 6 → ⊥
no_ack_in zero j w p wanted m h e = Memᴰ.not-nil h
no_ack_in (suc n) j w p wanted m h e = by_test (no_ack_in n (suc j) (w / 2) p wanted m) (eqb (w % 2) 1) h
  where
    first : (Memᴰ m (demands_from n (suc j) (w / 2) p wanted) → m.kind ≡ 6 → ⊥) →
        (m ≡ message 8 j 0 p wanted 0) ⊎ Memᴰ m (demands_from n (suc j) (w / 2) p wanted) → ⊥
    first rest (inl q) = grind arith
    first rest (inr q) = rest q e

    by_test : (Memᴰ m (demands_from n (suc j) (w / 2) p wanted) → m.kind ≡ 6 → ⊥) → (b : Bool) →
        Memᴰ m (first_if b (message 8 j 0 p wanted 0) (demands_from n (suc j) (w / 2) p wanted)) → ⊥
    by_test rest true q = first rest (Memᴰ.cases_cons q)
    by_test rest false q = rest q e

module _ (i k : ℕ) (σ : Status) (f : ℕ → ℕ) where
  -- an ACK that grants nothing
  plain : (p d : ℕ) → (d ≡ 1 → ⊥) → σ ≡ Live → (m : Message) → m ≡ message 6 i k p 0 d →
      (m.station ≡ i) × (m.number ≡ k) × (σ ≡ Live) × (m.detail ≡ 1 → f m.profile ≡ m.mode)
  plain p d other live m e = (grind arith, grind arith, live, λ q. absurd (other (grind arith)))

  pub acks_of : (a : Answer) → Sure a σ f → Acks i k σ f (sent_for i k a)
  unfolding sent_for
  acks_of Done h m q e = plain 255 0 (omega arith) h m (Memᴰ.eq_of_singleton q)
  acks_of (Granted p x) h m q e =
      let s = Memᴰ.eq_of_singleton q in
      (ap (λ (x : Message). x.station) s, ap (λ (x : Message). x.number) s, h.0, λ d. grind (arith, s, h.1))
  acks_of (Wait p x mask count) h m q e = by_place (Memᴰ.cases_cons q)
    where
      by_place : (m ≡ message 6 i k p 0 2) ⊎ Memᴰ m (demands_from 16 0 mask p x.0) →
          (m.station ≡ i) × (m.number ≡ k) × (σ ≡ Live) × (m.detail ≡ 1 → f m.profile ≡ m.mode)
      by_place (inl s) = plain p 2 (omega arith) h m s
      by_place (inr s) = absurd (no_ack_in 16 0 mask p x.0 m s e)
  acks_of (InUse p) h m q e = plain p 3 (omega arith) h m (Memᴰ.eq_of_singleton q)
  acks_of (Nack d) h m q e =
      let k : m.kind ≡ 7 = ap (λ (x : Message). x.kind) (Memᴰ.eq_of_singleton q) in
      absurd (omega arith)
  acks_of (Ticked freed started) h m q e = absurd (Memᴰ.not-nil q)
  acks_of (Refused n) h m q e = absurd (Memᴰ.not-nil q)
