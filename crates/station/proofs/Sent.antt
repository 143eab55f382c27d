-- What a station sends, and what that leaves of its modes.
-- Assumes nothing.
use mathlib.Core.Path.{◌≡◌, refl, ap, ◌∙◌}
use mathlib.Core.Bool.{Bool, true, false, cond}
use mathlib.Core.List.Memᴰ
use mathlib.Core.List.{Memᴰ}
use mathlib.Core.Logic.{◌⊎◌, inl, inr}
use Prim.Native.Nat.{ℕ, ◌<◌}
use native.Mathlib.Omega.{arith}
use lib.Dec.{eqb}
use lib.ListN.{length}
use borrow.Author.Tests.{eq-eqb}
use Rattle.record.specs.declared.message.Message.{Message}
use Rattle.requests.specs.Request.{profile_of, message_of}
use Rattle.station.specs.Event.{Request, Hello, KeepAlive, Ask, Release, Keep, Send}
use Rattle.station.specs.Effect.{Answer}
use Rattle.station.specs.declared.event.Answer.TheVariants as answer
use Rattle.station.specs.Station.{Station, mode_of, after}
use Rattle.station.specs.Border.{sent_by}
use Rattle.station.proofs.Frames.{mode_after, mode_after_lem}

-- its message names the station and its number
message_station : (own number : ℕ) (q : Request) → (message_of own number q).station ≡ own
unfolding message_of
message_station own number q = grind arith

pub message_number : (own number : ℕ) (q : Request) → (message_of own number q).number ≡ number
unfolding message_of
message_number own number q = grind arith

pub sent_station : (own : ℕ) (a : Answer) (m : Message) → Memᴰ m (sent_by own a) → m.station ≡ own
unfolding sent_by
sent_station own answer.Done m h = absurd (Memᴰ.not-nil h)
sent_station own (answer.Sent number q) m h = ap (λ (x : Message). x.station) (Memᴰ.eq_of_singleton h) ∙ message_station own number q
sent_station own (answer.Advice a) m h = absurd (Memᴰ.not-nil h)
sent_station own (answer.Refused r) m h = absurd (Memᴰ.not-nil h)

-- kind 1 is a hello
pub is_hello_lem : (own number : ℕ) (q : Request) → (message_of own number q).kind ≡ 1 → q ≡ Hello
unfolding message_of
is_hello_lem own number q e = grind arith

module _ (x : Station) where
  -- sending leaves each mode, or takes it
  pub sent_modes : (q : Request) → profile_of q < length x.holds → (p : ℕ)
      → (mode_of (after x (Send q)) p ≡ mode_of x p) ⊎ (mode_of (after x (Send q)) p ≡ 0)
  sent_modes q l p = by_request q (mode_after_lem x (Send q) p l)
    where
      by_test : (n : ℕ) (t : Bool) → n ≡ cond t 0 (mode_of x p) → (n ≡ mode_of x p) ⊎ (n ≡ 0)
      by_test n true e = inr e
      by_test n false e = inl e

      by_request : (q : Request) → mode_of (after x (Send q)) p ≡ mode_after x (Send q) p
          → (mode_of (after x (Send q)) p ≡ mode_of x p) ⊎ (mode_of (after x (Send q)) p ≡ 0)
      by_request Hello e = inl e
      by_request KeepAlive e = inl e
      by_request (Ask r m) e = inl e
      by_request (Release r) e = by_test _ (eqb p r) e
      by_request (Keep r) e = inl e

  -- kind 4 is a release: the profile's mode is given up with it
  pub given_up : (own number : ℕ) (q : Request) → profile_of q < length x.holds → (message_of own number q).kind ≡ 4
      → mode_of (after x (Send q)) (message_of own number q).profile ≡ 0
  unfolding message_of
  given_up own number Hello l e = absurd (omega arith)
  given_up own number KeepAlive l e = absurd (omega arith)
  given_up own number (Ask p m) l e = absurd (omega arith)
  given_up own number (Release p) l e =
      mode_after_lem x (Send (Release p)) p l ∙ ap (λ (t : Bool). cond t 0 (mode_of x p)) (eq-eqb p p refl)
  given_up own number (Keep p) l e = absurd (omega arith)
