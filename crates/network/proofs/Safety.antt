-- Condition 3: at no moment of a permitted history may two rooms use one profile in incompatible modes.
-- Assumes nothing.
use mathlib.Core.Path.{◌≡◌, refl, sym, ap, ◌∙◌}
use mathlib.Core.Bool.{Bool, true, false, true≢false, false≢true, and-eq-true_iff}
use mathlib.Core.List.Memᴰ
use mathlib.Core.List.{List, [], ◌∷◌, Memᴰ}
use mathlib.Core.Logic.{◌⊎◌, inl, inr}
use Prim.Native.Nat.{ℕ, zero, suc, ◌+◌, ◌-◌, ◌*◌, ◌<◌, ◌≤◌, zero-le}
use native.Mathlib.Nat.{mul-le-mul_right, lt_of_mul-lt-mul_right}
use native.Mathlib.Omega.{arith}
use Rattle.std.proofs.Common.{None, Ok}
use lib.Dec.{ltb}
use lib.ListN.{get_or, replicate}
use borrow.Author.Tests.{ltb-true}
use Rattle.refusals.specs.Refusal.{Verdict}
use Rattle.record.specs.declared.message.Message.{Message}
use Rattle.modes.specs.Modes.{covers, goes_with, is_mode}
use Rattle.modes.proofs.Laws.{both_covered_go}
use Rattle.timing.specs.declared.settings.Settings.{Settings}
use Rattle.timing.specs.Settings.{lease, in_range, Rate}
use Rattle.timing.proofs.Ranges.{ranges}
use Rattle.timing.proofs.Wait.{rate_sum, wait_enough, wait_sharp}
use Rattle.server.specs.State.{Unknown, new_server, nobody, status_of, mode_of as server_mode}
use Rattle.server.proofs.Reachable.{new_unknown, new_nothing, sound_new}
use Rattle.station.specs.declared.station.Station.{Station}
use Rattle.holds.specs.Stage.{is_out}
use Rattle.room.specs.Refusal.{use_refusal}
use Rattle.station.specs.Station.{new_station, mode_of, lease_of, usable, if_use, may_use}
use Rattle.station.proofs.Frames.{none_held, none_length}
use Rattle.network.specs.Picture.{World, world_at_first, Happening, nothing, ticks, hears, gets, does, asks, Moment, next, run}
use Rattle.network.specs.Premises.{Clocks, Happens, Permitted, begins, goes_on}
use Rattle.network.specs.Claims.{Uses, mode_at, Safe, WaitBounds}
use Rattle.network.proofs.Pair.{Slot, Seat, Inv, held_known, later}
use Rattle.network.proofs.Sound.{slot_of, seat_of, sent_up, ack_down, past, Own, Sound}
use Rattle.network.proofs.Hearing.{hears_sound}
use Rattle.network.proofs.Ticking.{tick_sound}
use Rattle.network.proofs.Rooms.{does_sound, gets_sound}

-- The first world is sound.
abbrev slot₀ : Slot
slot₀ = record { last = 0; status = Unknown; mode = λ p. 0 }

abbrev seat₀ : Seat
seat₀ = record { out = true; start = 0; last = 0; waiting = None; mode = λ p. 0 }

inv₀ : (L : ℕ) (U D : Message → Type 0) (P : ℕ → ℕ → Type 0) → ((m : Message) → U m → ⊥) → ((m : Message) → D m → ⊥) → Inv L slot₀ seat₀ U D P 0
inv₀ L U D P nu nd = record {
  up_old = λ m u. absurd (nu m u);
  heard = zero-le;
  down_old = λ m d. absurd (nd m d);
  started = zero-le;
  sent_at_lem = λ q e. grind arith;
  lease = λ o. absurd (true≢false o);
  cover = λ o. absurd (true≢false o);
  reply = λ q e b m d. absurd (nd m d);
  released = λ m u k b. refl;
  greeted = λ m u k b. refl;
  empty = λ o p. refl;
}

pub all_same : {A : Type 0} (n i : ℕ) (d : A) → get_or (replicate n d) i d ≡ d
all_same zero i d = refl
all_same (suc n) zero d = refl
all_same (suc n) (suc i) d = all_same n i d

slot_first : (z : Settings) (i : ℕ) → slot_of (world_at_first z).server i ≡ slot₀
unfolding world_at_first new_server
slot_first z i = λ j. record { last = (all_same 16 i nobody j).last; status = new_unknown z i j; mode = λ p. (new_nothing z i p).0 j }

seat_first : (z : Settings) (i : ℕ) → seat_of ((world_at_first z).rooms i) ≡ seat₀
unfolding world_at_first new_station
seat_first z i = λ j. record { out = true; start = 0; last = 0; waiting = None; mode = λ p. (none_held p j).mode.0 }

-- "own numbers"
own_first : (z : Settings) (i : ℕ) → Own z i ((world_at_first z).rooms i)
unfolding world_at_first new_station
own_first z i = record { settings = refl; number = refl; holds = none_length }

pair_first : (z : Settings) (i : ℕ) →
    Inv (lease z) (slot_of (world_at_first z).server i) (seat_of ((world_at_first z).rooms i)) (sent_up (world_at_first z).up i) (ack_down (world_at_first z).down i) (past [] i) 0
unfolding world_at_first
pair_first z i =
    rw (slot_first z i, seat_first z i) (inv₀ (lease z) (sent_up [] i) (ack_down [] i) (past [] i) (λ m u. Memᴰ.not-nil u.0) (λ m d. Memᴰ.not-nil d.0))

sound_first : (z : Settings) → Sound z (world_at_first z) [] (λ i. 0)
unfolding world_at_first
sound_first z = record { pair = λ i b. pair_first z i; own = λ i b. own_first z i; server = sound_new z }

-- A room that may use a profile is not out, its lease lasts, and it holds a mode.
may_use_lem : (v : Verdict) (b : Bool) → if_use v b ≡ Ok true → b ≡ true
may_use_lem v b e = grind arith

pub usable_of : (s : Station) (now p : ℕ) → may_use s now p ≡ Ok true → usable s now p ≡ true
unfolding may_use
usable_of s now p e = may_use_lem (use_refusal s.settings s.number s.reading now p) (usable s now p) e

none_is_no_mode : (n : ℕ) → n ≡ 0 → is_mode n ≡ true → ⊥
unfolding is_mode
none_is_no_mode n e h = false≢true (rw e at h)

-- what the server has then covers what the room uses
covered : (z : Settings) (w : World) (h : List Moment) (cs : ℕ → ℕ) → Sound z w h cs → (i p : ℕ) → i < z.stations → may_use (w.rooms i) (cs i) p ≡ Ok true →
    covers (server_mode w.server i p) (mode_of (w.rooms i) p) ≡ true
covered z w h cs I i p b u = by_test (is_out (w.rooms i).standing) refl
  where
    J : Inv (lease z) (slot_of w.server i) (seat_of (w.rooms i)) (sent_up w.up i) (ack_down w.down i) (past h i) (cs i)
    J = I.pair i b

    both : (is_mode (mode_of (w.rooms i) p) ≡ true) × (ltb (cs i) ((w.rooms i).start + lease_of (w.rooms i)) ≡ true)
    both = (and-eq-true_iff (is_mode (mode_of (w.rooms i) p)) (ltb (cs i) ((w.rooms i).start + lease_of (w.rooms i)))).0 (usable_of (w.rooms i) (cs i) p u)

    lasts : cs i < (w.rooms i).start + lease z
    lasts =
        let x = ltb-true (cs i) ((w.rooms i).start + lease_of (w.rooms i)) both.1 in
        let l : lease_of (w.rooms i) ≡ lease z = ap (λ (y : Settings). lease y) (I.own i b).settings in
        omega arith

    by_test : (o : Bool) → is_out (w.rooms i).standing ≡ o → covers (server_mode w.server i p) (mode_of (w.rooms i) p) ≡ true
    by_test true e = absurd (none_is_no_mode (mode_of (w.rooms i) p) (J.empty e p) both.0)
    by_test false e = J.cover e (held_known (past h i) (status_of w.server i) (w.rooms i).start (J.lease e lasts)) p

abbrev clock_of : List Moment → ℕ → ℕ
clock_of [] i = 0
clock_of (t ∷ h) i = t.rooms i

-- each moment of a history keeps the clocks' premises against those before it
abbrev KeptTime : Settings → Moment → List Moment → Type 0
KeptTime z t h = (old : Moment) (i : ℕ) → Memᴰ old h → i < z.stations → Clocks z old t i

-- the wait W outlasts every lease, by the rate rule
module _ (z : Settings) (good : in_range z ≡ true) (W : ℕ) (enough : lease z * (z.d + z.n) + z.d ≤ W * z.d) where
  outlasts : (a b : ℕ) → W ≤ b → Rate z a b → lease z ≤ a
  outlasts a b waited rate =
      let h : lease z * (z.d + z.n) < (a + 1) * (z.d + z.n) = omega (arith, enough, mul-le-mul_right z.d waited, rate_sum z good a b rate) in
      let k : lease z < a + 1 = lt_of_mul-lt-mul_right (z.d + z.n) h in
      omega arith

  -- time passes
  passes : (t : Moment) (h : List Moment) (w : World) → KeptTime z t h → Sound z w h (clock_of h) → Sound z w (t ∷ h) t.rooms
  passes t h w clocks I = record {
    pair = λ i b. later (lease z) (I.pair i b) (on h i b clocks) (λ τ y x. (x.0, Memᴰ.tail x.1, x.2, x.3)) (λ m x. x) (λ m x. x);
    own = I.own;
    server = I.server;
  }
    where
      on : (h : List Moment) (i : ℕ) → i < z.stations → KeptTime z t h → clock_of h i ≤ t.rooms i
      on [] i b clocks = zero-le
      on (old ∷ h) i b clocks = (clocks old i (Memᴰ.head refl) b).room_on

  -- what the server has waited through is over
  over : (t : Moment) (h : List Moment) → KeptTime z t h → (i τ y : ℕ) → i < z.stations → past (t ∷ h) i τ y → τ + W ≤ t.server → y + lease z ≤ t.rooms i
  over t h clocks i τ y here x late = by_place (Memᴰ.cases_cons x.1)
    where
      by_place : (x.0 ≡ t) ⊎ Memᴰ x.0 h → y + lease z ≤ t.rooms i
      by_place (inl e) =
          let same : t.server ≡ τ = ap (λ (q : Moment). q.server) (sym e) ∙ x.2 in
          let none : W * z.d ≤ 0 * z.d = mul-le-mul_right z.d (omega arith) in
          absurd (omega (arith, (ranges z good).rates.base))
      by_place (inr old) =
          let k = clocks x.0 i old here in
          let waited : W ≤ t.server - x.0.server = omega (arith, x.2) in
          let rate : Rate z (t.rooms i - x.0.rooms i) (t.server - x.0.server) = omega (arith, k.rate) in
          let ran = outlasts (t.rooms i - x.0.rooms i) (t.server - x.0.server) waited rate in
          omega (arith, x.3, k.room_on)

  steps : (t : Moment) (h : List Moment) (w : World) → KeptTime z t h → Sound z w (t ∷ h) t.rooms → (e : Happening) → Happens z w e →
      Sound z (next W w t e) (t ∷ h) t.rooms
  unfolding next
  steps t h w clocks I nothing k = I
  steps t h w clocks I ticks k = tick_sound z W w (t ∷ h) t.rooms I t.server (λ i. (t, Memᴰ.head refl, refl, refl)) (over t h clocks)
  steps t h w clocks I (hears m) k = hears_sound z w (t ∷ h) t.rooms I t.server W m k
  steps t h w clocks I (gets i m) k = gets_sound z w (t ∷ h) t.rooms I i k.0 m k.1
  steps t h w clocks I (does i e) k = does_sound z w (t ∷ h) t.rooms I i k.0 e k.1
  steps t h w clocks I (asks i) k = I

  pub sound : {h : List Moment} → Permitted z W h → Sound z (run z W h) h (clock_of h)
  unfolding run
  sound begins = sound_first z
  sound (goes_on {t} {h} clocks happens P) = steps t h (run z W h) clocks (passes t h (run z W h) clocks (sound P)) t.what happens

  -- safe with every wait that is enough
  pub safe_with : (t : Moment) (h : List Moment) → Permitted z W (t ∷ h) → (i j p : ℕ) → i < z.stations → j < z.stations → (i ≡ j → ⊥) →
      Uses z W t h i p → Uses z W t h j p → goes_with (mode_at z W t h i p) (mode_at z W t h j p) ≡ true
  safe_with t h P i j p bi bj ne ui uj =
      let I = sound P in
      let w = run z W (t ∷ h) in
      both_covered_go (server_mode w.server i p) (mode_of (w.rooms i) p) (server_mode w.server j p) (mode_of (w.rooms j) p)
      (covered z w (t ∷ h) t.rooms I i p bi ui) (covered z w (t ∷ h) t.rooms I j p bj uj)
      (I.server.tables.apart i j p ne)

-- Condition 3, with the wait W
pub safe : Safe
unfolding Safe
safe z good = safe_with z good _ (omega (arith, wait_enough z good))

pub bounds : WaitBounds
unfolding WaitBounds
bounds z good = record { by_one = wait_enough z good; less_than_two = wait_sharp z good }
