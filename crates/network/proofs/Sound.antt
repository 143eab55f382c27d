-- The invariant of the whole picture.
-- Assumes nothing.
use mathlib.Core.Path.{◌≡◌, refl}
use mathlib.Core.Bool.{Bool, true, false}
use mathlib.Core.List.{List, Memᴰ}
use Prim.Native.Nat.{ℕ, ◌<◌}
use lib.Dec.{eqb}
use lib.ListN.{length}
use borrow.Author.Tests.{eqb-true, eqb-false}
use Rattle.record.specs.declared.message.Message.{Message}
use Rattle.timing.specs.declared.settings.Settings.{Settings}
use Rattle.timing.specs.Settings.{lease}
use Rattle.server.specs.declared.server.Server.{Server}
use Rattle.server.specs.State.{status_of, last_of, mode_of as mode_at}
use Rattle.server.proofs.Reachable.{Sound as ServerSound}
use Rattle.station.specs.declared.station.Station.{Station}
use Rattle.holds.specs.Stage.{is_out}
use Rattle.station.specs.Station.{mode_of}
use Rattle.network.specs.Picture.{World, Moment}
use Rattle.network.proofs.Pair.{Slot, Seat, Inv, turned}

abbrev pub slot_of : Server → ℕ → Slot
slot_of s i = record { last = last_of s i; status = status_of s i; mode = λ p. mode_at s i p }

abbrev pub seat_of : Station → Seat
seat_of r = record { out = is_out r.standing; start = r.start; last = r.last; waiting = r.waiting; mode = λ p. mode_of r p }

-- the messages up from room i; the ACKs (kind 6) down to it
abbrev pub sent_up : List Message → ℕ → Message → Type 0
sent_up l i m = Memᴰ m l × (m.station ≡ i)

abbrev pub ack_down : List Message → ℕ → Message → Type 0
ack_down l i m = Memᴰ m l × (m.station ≡ i) × (m.kind ≡ 6)

-- at some moment so far the server read τ and room i read y
abbrev pub past : List Moment → ℕ → ℕ → ℕ → Type 0
past h i τ y = (t : Moment) × Memᴰ t h × (t.server ≡ τ) × (t.rooms i ≡ y)

-- a room has the settings, its own number, and a hold for each of the profiles
pub record Own (z : Settings) (i : ℕ) (r : Station) : Type 0 where
  pub settings : r.settings ≡ z
  pub number : r.number ≡ i
  pub holds : length r.holds ≡ 64

pub record Sound (z : Settings) (w : World) (h : List Moment) (cs : ℕ → ℕ) : Type 0 where
  pub pair : (i : ℕ) → i < z.stations →
      Inv (lease z) (slot_of w.server i) (seat_of (w.rooms i)) (sent_up w.up i) (ack_down w.down i) (past h i) (cs i)
  pub own : (i : ℕ) → i < z.stations → Own z i (w.rooms i)
  pub server : ServerSound z w.server

-- either the same place or another
pub split : {A : Type 0} (m n : ℕ) → (m ≡ n → A) → ((m ≡ n → ⊥) → A) → A
split {A} m n f g = go (eqb m n) refl
  where
    go : (b : Bool) → eqb m n ≡ b → A
    go true e = f (eqb-true m n e)
    go false e = g (eqb-false m n e)

-- the same slot, entry by entry
pub record Same (S S' : Slot) : Type 0 where
  pub last : S'.last ≡ S.last
  pub status : S'.status ≡ S.status
  pub mode : (p : ℕ) → S'.mode p ≡ S.mode p

pub same : (L : ℕ) {S S' : Slot} {R : Seat} {U D : Message → Type 0} {P : ℕ → ℕ → Type 0} {c : ℕ} →
    Inv L S R U D P c → Same S S' → Inv L S' R U D P c
same L I e = turned L I e.last (λ x b b' h. rw e.status h) (λ k. (rw e.status at k, e.mode))
