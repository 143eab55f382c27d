-- A room keeps the invariant whatever happens there.
-- Assumes nothing.
use mathlib.Core.Path.{◌≡◌, refl, sym, subst, ap, ◌∙◌}
use mathlib.Core.Bool.{Bool, true, false, cond, false≢true}
use mathlib.Core.List.Memᴰ
use mathlib.Core.List.{List, ◌∷◌, ◌++◌, Memᴰ}
use mathlib.Core.Logic.{◌⊎◌, inl, inr}
use Prim.Native.Nat.{ℕ, zero, suc, ◌+◌, ◌<◌, zero-le}
use native.Mathlib.Nat.{le_refl}
use native.Mathlib.Omega.{arith}
use Rattle.std.proofs.Common.{Ok, Err}
use lib.Dec.{eqb}
use lib.ListN.{length}
use borrow.Author.Tests.{eqb-true, eq-eqb, ne_eqb}
use Rattle.refusals.specs.Refusal.{Verdict}
use Rattle.record.specs.declared.message.Message.{Message}
use Rattle.modes.specs.Modes.{mode, covers}
use Rattle.modes.proofs.Laws.{covers_self}
use Rattle.timing.specs.declared.settings.Settings.{Settings}
use Rattle.timing.specs.Settings.{lease}
use Rattle.station.specs.declared.station.Station.{Station}
use Rattle.station.specs.declared.station.Stepped.{Stepped}
use Rattle.station.specs.Event.{Request, Ack, Done, Granted, Wait, InUse, Event, Send, Begin, Edit, End, WriteOut, Restart, Acked, Nacked, Demand, Hold, Out, Open}
use Rattle.station.specs.declared.event.Answer.TheVariants as answer
use Rattle.holds.specs.Stage.{is_out}
use Rattle.room.specs.Refusal.{refusal, station_of}
use Rattle.room.specs.Rules.{ack_profile, profile_for}
use Rattle.station.specs.Effect.{sent_at, last_after, answer_to}
use Rattle.station.specs.Station.{mode_of, lease_of, gone, is_over, ended_if, expire, forbids, after, if_allowed, if_good, step}
use Rattle.requests.specs.Request.{profile_of, message_of}
use Rattle.station.specs.Border.{sent_by, ack_as, meant_as, event_of}
use Rattle.station.proofs.Frames.{none_held, none_length, mode_after, mode_after_lem, after_length, nacked_out}
use Rattle.station.proofs.Shown.{is_hello, sent_by_lem, Fitting, ack_shows}
use Rattle.station.proofs.Heard.{heard, heard_profile}
use Rattle.station.proofs.Sent.{sent_station, message_number, is_hello_lem, sent_modes, given_up}
use Rattle.network.specs.Picture.{World, Moment, with_room, getting}
use Rattle.network.specs.Premises.{is_own}
use Rattle.network.proofs.Pair.{Covered, Fits, Inv, later, left, dropped, posted, acked}
use Rattle.network.proofs.Sound.{slot_of, seat_of, sent_up, ack_down, past, Own, Sound, split}

-- what a message that comes as an ACK says
abbrev pub Says : Message → Ack → Type 0
Says m Done = Unit {0}
Says m (Granted p x) = (m.detail ≡ 1) × (m.profile ≡ p) × (m.mode ≡ x.0)
Says m (Wait p) = Unit {0}
Says m (InUse p) = Unit {0}

-- an event that is a message was sent
abbrev pub Came : List Message → Event → Type 0
Came l (Send q) = Unit {0}
Came l (Begin p m) = Unit {0}
Came l (Edit p) = Unit {0}
Came l (End p) = Unit {0}
Came l (WriteOut p) = Unit {0}
Came l Restart = Unit {0}
Came l (Acked i k a) = (m : Message) × Memᴰ m l × (m.station ≡ i) × (m.kind ≡ 6) × (m.number ≡ k) × Says m a
Came l (Nacked i k d) = Unit {0}
Came l (Demand i p m) = Unit {0}

-- what a room holds after an ACK of a message that grants what the server has, the server's modes cover
granted : (S : ℕ → ℕ) (x : Station) (j k : ℕ) (m : Message) → Covered S (λ p. mode_of x p) → Fits m S →
    (a : Ack) → Says m a → (p : ℕ) → covers (S p) (mode_after x (Acked j k a) p) ≡ true
granted S x j k m old fit Done says p = old p
granted S x j k m old fit (Granted r n) says p = by_test (eqb p r) refl
  where
    by_test : (t : Bool) → eqb p r ≡ t → covers (S p) (cond t n.0 (mode_of x p)) ≡ true
    by_test true e =
        let has : S p ≡ n.0 = ap S (eqb-true p r e ∙ sym says.1) ∙ fit says.0 ∙ says.2 in
        ap (λ (k : ℕ). covers k n.0) has ∙ covers_self n.0
    by_test false e = old p
granted S x j k m old fit (Wait r) says p = old p
granted S x j k m old fit (InUse r) says p = old p

module _ (z : Settings) (w : World) (h : List Moment) (cs : ℕ → ℕ) (I : Sound z w h cs) (i : ℕ) (here : i < z.stations) where
  -- what is to be shown of room i
  pub record Fit (r : Station) (U : List Message) : Type 0 where
    pub inv : Inv (lease z) (slot_of w.server i) (seat_of r) (sent_up U i) (ack_down w.down i) (past h i) (cs i)
    pub own : Own z i r

  -- the world after a step of room i, with what it sent under a station's number
  abbrev moved_as : Stepped → ℕ → World
  moved_as x n =
      record {
        server = w.server;
        rooms = λ (j : ℕ). cond (eqb j i) x.station (w.rooms j);
        up = sent_by n x.answer ++ w.up;
        down = w.down;
      }

  moved_own : (x : Stepped) → Fit x.station (sent_by i x.answer ++ w.up) → Sound z (moved_as x i) h cs
  moved_own x F = record {
    pair = λ j b. split j i (λ e. mine j e) (λ e. other j b e);
    own = λ j b. split j i (λ e. mine_own j e) (λ e. other_own j b e);
    server = I.server;
  }
    where
      pair_of : ℕ → Bool → Type 0
      pair_of j b = Inv (lease z) (slot_of w.server j) (seat_of (cond b x.station (w.rooms j))) (sent_up (sent_by i x.answer ++ w.up) j) (ack_down w.down j) (past h j) (cs j)

      mine : (j : ℕ) → j ≡ i → pair_of j (eqb j i)
      mine j e = subst (λ (b : Bool). pair_of j b) (sym (eq-eqb j i e)) (rw e F.inv)

      mine_own : (j : ℕ) → j ≡ i → Own z j (cond (eqb j i) x.station (w.rooms j))
      mine_own j e = subst (λ (b : Bool). Own z j (cond b x.station (w.rooms j))) (sym (eq-eqb j i e)) (rw e F.own)

      other : (j : ℕ) → j < z.stations → (j ≡ i → ⊥) → pair_of j (eqb j i)
      other j b e = subst (λ (b : Bool). pair_of j b) (sym (ne_eqb j i e))
          (later (lease z) (I.pair j b) (le_refl (cs j)) (λ τ y q. q) (λ m u. by_place m u (Memᴰ.append_cases (sent_by i x.answer) u.0)) (λ m d. d))
        where
          by_place : (m : Message) → sent_up (sent_by i x.answer ++ w.up) j m → Memᴰ m (sent_by i x.answer) ⊎ Memᴰ m w.up → sent_up w.up j m
          by_place m u (inl q) = absurd (e (sym u.1 ∙ sent_station i x.answer m q))
          by_place m u (inr q) = (q, u.1)

      other_own : (j : ℕ) → j < z.stations → (j ≡ i → ⊥) → Own z j (cond (eqb j i) x.station (w.rooms j))
      other_own j b e = subst (λ (b : Bool). Own z j (cond b x.station (w.rooms j))) (sym (ne_eqb j i e)) (I.own j b)

  -- the room's own number is i
  moved : (x : Stepped) → Fit x.station (sent_by i x.answer ++ w.up) → Sound z (with_room w i x) h cs
  moved x F = subst (λ (n : ℕ). Sound z (moved_as x n) h cs) (sym F.own.number) (moved_own x F)

  -- the lease that has run out ends first; a restart goes out too
  goes : (r : Station) (now : ℕ) → Fit r w.up → Fit (gone r now) w.up
  goes r now F = record {
    inv = left (lease z) F.inv refl zero-le refl refl (λ p. ap (λ (y : Hold). y.mode.0) (none_held p));
    own = record { settings = F.own.settings; number = F.own.number; holds = none_length };
  }

  expired : (r : Station) (now : ℕ) → Fit r w.up → (b : Bool) → Fit (ended_if b r now) w.up × ((ended_if b r now).reading ≡ now)
  unfolding ended_if
  expired r now F true = (goes r now F, refl)
  expired r now F false = (record { inv = F.inv; own = record { settings = F.own.settings; number = F.own.number; holds = F.own.holds } }, refl)

  module _ (x : Station) (F : Fit x w.up) (reads : x.reading ≡ cs i) where
    own_after : (e : Event) → Own z i (after x e)
    unfolding after
    own_after e = record { settings = F.own.settings; number = F.own.number; holds = after_length x e F.own.holds }

    -- Send
    on_send : (q : Request) → profile_of q < length x.holds → forbids x (Send q) ≡ Ok tt →
        Fit (after x (Send q)) (sent_by i (answer.Sent (x.last + 1) q) ++ w.up)
    unfolding after sent_by
    on_send q l e = record {
      inv = posted (lease z) F.inv (record { request = q; at = x.reading }) (message_of i (x.last + 1) q) refl refl refl refl reads
          (sent_modes x q l)
          (message_number i (x.last + 1) q)
          (given_up x i (x.last + 1) q l)
          (λ k. ap is_out (sent_by_lem x q e) ∙ ap (λ (r : Request). is_out (cond (is_hello r) Out Open)) (is_hello_lem i (x.last + 1) q k))
          (λ m u. by_place m u (Memᴰ.cases_cons u.0));
      own = own_after (Send q);
    }
      where
        by_place : (m : Message) → sent_up (message_of i (x.last + 1) q ∷ w.up) i m → (m ≡ message_of i (x.last + 1) q) ⊎ Memᴰ m w.up →
            sent_up w.up i m ⊎ (m ≡ message_of i (x.last + 1) q)
        by_place m u (inl k) = inr k
        by_place m u (inr k) = inl (k, u.1)

    -- Ack
    on_ack : (j k : ℕ) (a : Ack) → ack_profile a < length x.holds → j ≡ i → Came w.down (Acked j k a) → forbids x (Acked j k a) ≡ Ok tt →
        Fit (after x (Acked j k a)) w.up
    unfolding after
    on_ack j k a l to c e = record {
      inv = acked (lease z) F.inv (record { request = A.request; at = A.sent }) c.0 A.waits soon (c.1, c.2 ∙ to, c.3) (c.4 ∙ A.number)
          refl (ap sent_at A.waits) refl refl covered;
      own = own_after (Acked j k a);
    }
      where
        A : Fitting x.waiting (lease_of x) x.reading x.last k (mode_of x (ack_profile a)) a
        A = ack_shows x j k a e

        soon : cs i < A.sent + lease z
        soon =
            let s = A.young in
            let l : lease_of x ≡ lease z = ap (λ (y : Settings). lease y) F.own.settings in
            omega (arith, reads)

        S : ℕ → ℕ
        S = λ p. (slot_of w.server i).mode p

        covered : Covered S (λ p. mode_of x p) → Fits c.0 S → Covered S (λ p. mode_of (after x (Acked j k a)) p)
        covered old fit p = ap (λ (n : ℕ). covers (S p) n) (mode_after_lem x (Acked j k a) p l) ∙ granted S x j k c.0 old fit a c.5 p

    on_nack : (j k d : ℕ) → Fit (after x (Nacked j k d)) w.up
    unfolding after
    on_nack j k d = record {
      inv = dropped (lease z) F.inv (nacked_out x.standing) refl refl refl refl;
      own = own_after (Nacked j k d);
    }

    -- operations and flags change nothing that is seen
    unseen : (e : Event) → ((p : ℕ) → mode_of (after x e) p ≡ mode_of x p) →
        Inv (lease z) (slot_of w.server i)
        (record { out = is_out x.standing; start = x.start; last = x.last; waiting = x.waiting; mode = λ p. mode_of (after x e) p })
        (sent_up w.up i) (ack_down w.down i) (past h i) (cs i)
    unseen e same =
        subst (λ (g : ℕ → ℕ). Inv (lease z) (slot_of w.server i)
        (record { out = is_out x.standing; start = x.start; last = x.last; waiting = x.waiting; mode = g })
        (sent_up w.up i) (ack_down w.down i) (past h i) (cs i))
        (sym (λ j p. same p j)) F.inv

    on_allowed : (e : Event) → Came w.down e → profile_for e < length x.holds → station_of i e ≡ i → forbids x e ≡ Ok tt →
        Fit (after x e) (sent_by i (answer_to (last_after x.last e) x.holds e) ++ w.up)
    unfolding after sent_by
    on_allowed (Send q) c l to e = on_send q l e
    on_allowed (Begin p m) c l to e = record { inv = unseen (Begin p m) (λ r. mode_after_lem x (Begin p m) r l); own = own_after (Begin p m) }
    on_allowed (Edit p) c l to e = record { inv = unseen (Edit p) (λ r. mode_after_lem x (Edit p) r l); own = own_after (Edit p) }
    on_allowed (End p) c l to e = record { inv = unseen (End p) (λ r. mode_after_lem x (End p) r l); own = own_after (End p) }
    on_allowed (WriteOut p) c l to e = record { inv = unseen (WriteOut p) (λ r. mode_after_lem x (WriteOut p) r l); own = own_after (WriteOut p) }
    on_allowed Restart c l to e = goes x x.reading F
    on_allowed (Acked j k a) c l to e = on_ack j k a l to c e
    on_allowed (Nacked j k d) c l to e = on_nack j k d
    on_allowed (Demand j p m) c l to e = record { inv = F.inv; own = own_after (Demand j p m) }

    on_forbidden : (e : Event) → Came w.down e → profile_for e < length x.holds → station_of i e ≡ i → (v : Verdict) → forbids x e ≡ v → (lost count : ℕ) →
        Fit (if_allowed v x e lost count).station (sent_by i (if_allowed v x e lost count).answer ++ w.up)
    unfolding if_allowed sent_by
    on_forbidden e c l to (Ok _) q lost count = on_allowed e c l to q
    on_forbidden e c l to (Err r) q lost count = F

  abbrev s : Station
  s = w.rooms i

  fit : Fit s w.up
  fit = record { inv = I.pair i here; own = I.own i here }

  on_refusal : (e : Event) → Came w.down e → (v : Verdict) → refusal s.settings s.number s.reading (cs i) e ≡ v →
      Fit (if_good v s (cs i) e).station (sent_by i (if_good v s (cs i) e).answer ++ w.up)
  unfolding if_good sent_by
  on_refusal e c (Ok _) q =
      let x = expire s (cs i) in
      let k = heard s (cs i) e q in
      let E = expired s (cs i) fit (is_over s (cs i)) in
      let l : profile_for e < length x.holds = omega (arith, (heard_profile s (cs i) e k).1, E.0.own.holds) in
      let to : station_of i e ≡ i = subst (λ (n : ℕ). station_of n e ≡ n) (I.own i here).number k.mine in
      on_forbidden x E.0 E.1 e c l to (forbids x e) refl _ _
  on_refusal e c (Err r) q = fit

  pub event_sound : (e : Event) → Came w.down e → Sound z (with_room w i (step s (cs i) e)) h cs
  unfolding step
  event_sound e c =
      moved (step s (cs i) e) (on_refusal e c (refusal s.settings s.number s.reading (cs i) e) refl)

  -- what the people in a room do
  own_came : (e : Event) → is_own e ≡ true → Came w.down e
  own_came (Send q) e = tt
  own_came (Begin p m) e = tt
  own_came (Edit p) e = tt
  own_came (End p) e = tt
  own_came (WriteOut p) e = tt
  own_came Restart e = tt
  own_came (Acked j k a) e = absurd (false≢true e)
  own_came (Nacked j k d) e = tt
  own_came (Demand j p m) e = tt

  pub does_sound : (e : Event) → is_own e ≡ true → Sound z (with_room w i (step s (cs i) e)) h cs
  does_sound e o = event_sound e (own_came e o)

  -- a message that comes
  module _ (m : Message) (sent : Memᴰ m w.down) where
    by_detail : m.kind ≡ 6 → (n : ℕ) → m.detail ≡ n → Sound z (getting w i (cs i) (ack_as n m)) h cs
    by_detail k zero d = event_sound (Acked m.station m.number Done) (m, sent, refl, k, refl, tt)
    by_detail k (suc zero) d = event_sound (Acked m.station m.number (Granted m.profile (mode m.mode))) (m, sent, refl, k, refl, (d, refl, refl))
    by_detail k (suc (suc zero)) d = event_sound (Acked m.station m.number (Wait m.profile)) (m, sent, refl, k, refl, tt)
    by_detail k (suc (suc (suc zero))) d = event_sound (Acked m.station m.number (InUse m.profile)) (m, sent, refl, k, refl, tt)
    by_detail k (suc (suc (suc (suc n)))) d = I

    by_kind : (n : ℕ) → m.kind ≡ n → Sound z (getting w i (cs i) (meant_as n m)) h cs
    by_kind (suc (suc (suc (suc (suc (suc zero)))))) k = by_detail k m.detail refl
    by_kind (suc (suc (suc (suc (suc (suc (suc zero))))))) k = event_sound (Nacked m.station m.number m.detail) tt
    by_kind (suc (suc (suc (suc (suc (suc (suc (suc zero)))))))) k = event_sound (Demand m.station m.profile (mode m.mode)) tt
    by_kind zero k = I
    by_kind (suc zero) k = I
    by_kind (suc (suc zero)) k = I
    by_kind (suc (suc (suc zero))) k = I
    by_kind (suc (suc (suc (suc zero)))) k = I
    by_kind (suc (suc (suc (suc (suc zero))))) k = I
    by_kind (suc (suc (suc (suc (suc (suc (suc (suc (suc n))))))))) k = I

    pub gets_sound : Sound z (getting w i (cs i) (event_of m)) h cs
    unfolding event_of
    gets_sound = by_kind m.kind refl
