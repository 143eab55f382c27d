-- The server keeps the invariant whatever message comes.
-- Assumes nothing.
use mathlib.Core.Path.{◌≡◌, refl, sym, subst, ap, ◌∙◌}
use mathlib.Core.Bool.{Bool, true, false, cond, true≢false}
use mathlib.Core.List.Memᴰ
use mathlib.Core.List.{List, ◌++◌, Memᴰ}
use mathlib.Core.Logic.{◌⊎◌, inl, inr}
use Prim.Native.Nat.{ℕ, zero, suc, ◌<◌}
use native.Mathlib.Nat.{le_refl}
use native.Mathlib.Omega.{arith}
use Rattle.std.proofs.Common.{Some, Err}
use borrow.Author.Tests.{ne_eqb}
use Rattle.refusals.specs.declared.Refusal.{Refusal}
use Rattle.record.specs.declared.message.Message.{Message}
use Rattle.modes.specs.Modes.{mode, covers}
use Rattle.modes.proofs.Laws.{covers_none, covers_trans, join_left}
use Rattle.timing.specs.declared.settings.Settings.{Settings}
use Rattle.timing.specs.Settings.{lease}
use Rattle.server.specs.State.{Status, Live, Mark, status_of, last_of, mode_of}
use Rattle.server.specs.declared.server.Server.{Server}
use Rattle.server.specs.declared.server.Served.{Served}
use Rattle.server.specs.Event.{Request, Hello, KeepAlive, Ask, Release, Keep, Event, Message as Said, Tick, Answer, Done, Granted}
use Rattle.judging.specs.Refusal.{refusal}
use Rattle.requests.specs.Request.{asked_as, request_of}
use Rattle.server.specs.Step.{step}
use Rattle.server.specs.Border.{sent_for, meant_by, event_of}
use Rattle.server.proofs.Serves.{Accepted, at, changed_at, all_of, own, no_lock, Serves, Told, at_same, at_other, changed_here, changed_other, own_here, own_so, own_other}
use Rattle.server.proofs.InTheWay.{wanted_on}
use Rattle.server.proofs.Events.{refused, stale, nack_0, nack_1, hello, keep_alive, release, keep, ask_granted, ask_in_use, ask_wait}
use Rattle.server.proofs.Cases.{Case, case_of}
use Rattle.server.proofs.Reachable.{below, step_sound}
use Rattle.server.proofs.Sent.{Acks, Sure, acks_of}
use Rattle.holds.specs.Stage.{is_out}
use Rattle.station.specs.Station.{mode_of as held_of}
use Rattle.network.specs.Picture.{World, Moment, hearing}
use Rattle.network.proofs.Pair.{Slot, Held, Known, Covered, Fits, Inv, later, taken}
use Rattle.network.proofs.Sound.{slot_of, seat_of, sent_up, ack_down, past, Sound, split, same}

-- what the kinds 1 and 4 say of their message
abbrev pub Means : Message → Request → Type 0
Means m Hello = m.kind ≡ 1
Means m KeepAlive = Unit {0}
Means m (Ask p x) = Unit {0}
Means m (Release p) = (m.kind ≡ 4) × (m.profile ≡ p)
Means m (Keep p) = Unit {0}

module _ (z : Settings) (w : World) (h : List Moment) (cs : ℕ → ℕ) (I : Sound z w h cs) (now wait : ℕ) where
  abbrev s : Server
  s = w.server

  -- what is to be shown of each room, once the server has answered r and sent ds
  abbrev Pairs : Served → List Message → Type 0
  Pairs r ds = (j : ℕ) → j < z.stations →
      Inv (lease z) (slot_of r.server j) (seat_of (w.rooms j)) (sent_up w.up j) (ack_down (ds ++ w.down) j) (past h j) (cs j)

  -- the server takes m, which is message k of station i
  module _ (i k : ℕ) (m : Message) (up : sent_up w.up i m) (number : m.number ≡ k) (here : i < z.stations) (new : last_of s i < k) where
    J : Inv (lease z) (slot_of s i) (seat_of (w.rooms i)) (sent_up w.up i) (ack_down w.down i) (past h i) (cs i)
    J = I.pair i here

    newer : last_of s i < m.number
    newer = omega (arith, number)

    abbrev room : ℕ → ℕ
    room p = held_of (w.rooms i) p

    -- what its answer, and the statuses and modes then, have to keep: all that is another's, and of the station what safety asks
    record Takes (a : Answer) (σ : ℕ → Status) (μ : ℕ → ℕ → ℕ) : Type 0 where
      pub hold : (x : ℕ) → Held (past h i) (status_of s i) x → Held (past h i) (σ i) x
      pub cover : is_out (w.rooms i).standing ≡ false → Known (σ i) → Covered (μ i) room
      pub status : (j : ℕ) → (j ≡ i → ⊥) → σ j ≡ status_of s j
      pub mode : (j p : ℕ) → (j ≡ i → ⊥) → μ j p ≡ mode_of s j p
      pub sure : Sure a (σ i) (μ i)

    takes : {r : Served} {a : Answer} {σ : ℕ → Status} {μ : ℕ → ℕ → ℕ} {ν : ℕ → ℕ → Mark} →
        Serves s now r a σ (at i k (last_of s)) μ ν → Takes a σ μ → Pairs r (sent_for i k r.answer)
    takes {r} {a} {σ} {μ} {ν} law T j b = split j i (λ e. subst pair_of (sym e) mine) other
      where
        ds : List Message
        ds = sent_for i k r.answer

        pair_of : ℕ → Type 0
        pair_of j = Inv (lease z) (slot_of r.server j) (seat_of (w.rooms j)) (sent_up w.up j) (ack_down (ds ++ w.down) j) (past h j) (cs j)

        sent : Acks i k (σ i) (μ i) ds
        sent = subst (λ (b : Answer). Acks i k (σ i) (μ i) (sent_for i k b)) (sym law.answers) (acks_of i k (σ i) (μ i) a T.sure)

        acks : (x : Message) → ack_down (ds ++ w.down) i x → ack_down w.down i x ⊎ ((x.number ≡ m.number) × (σ i ≡ Live) × Fits x (μ i))
        acks x d = by_place (Memᴰ.append_cases ds d.0)
          where
            by_place : Memᴰ x ds ⊎ Memᴰ x w.down → ack_down w.down i x ⊎ ((x.number ≡ m.number) × (σ i ≡ Live) × Fits x (μ i))
            by_place (inl q) = let y = sent x q d.2 in inr (y.1 ∙ sym number, y.2, y.3)
            by_place (inr q) = inl (q, d.1, d.2)

        slot : Slot
        slot = record { last = at i k (last_of s) i; status = σ i; mode = λ p. μ i p }

        mine : pair_of i
        mine =
            same (lease z) {S = slot} (taken (lease z) J m up newer (at_same i k (last_of s) ∙ sym number) T.hold T.cover acks)
            (record { last = law.last i; status = law.status i; mode = law.mode i })

        other : (j ≡ i → ⊥) → pair_of j
        other e =
            same (lease z)
            (later (lease z) (I.pair j b) (le_refl (cs j)) (λ τ y q. q) (λ x u. u) (λ x d. by_place x d (Memᴰ.append_cases ds d.0)))
            (record { last = law.last j ∙ at_other i k (last_of s) j e; status = law.status j ∙ T.status j e; mode = λ p. law.mode j p ∙ T.mode j p e })
          where
            by_place : (x : Message) → ack_down (ds ++ w.down) j x → Memᴰ x ds ⊎ Memᴰ x w.down → ack_down w.down j x
            by_place x d (inl q) = absurd (e (sym d.1 ∙ (sent x q d.2).0))
            by_place x d (inr q) = (q, d.1, d.2)

    -- no status and no mode is another
    quiet : {a : Answer} → Sure a (status_of s i) (mode_of s i) → Takes a (status_of s) (mode_of s)
    quiet sure = record { hold = λ x q. q; cover = J.cover; status = λ j e. refl; mode = λ j p e. refl; sure = sure }

    -- Hello: all that the station had goes, and the room is out
    greeted : m.kind ≡ 1 → Takes Done (at i Live (status_of s)) (changed_at (all_of i) no_lock (mode_of s))
    greeted kind = record {
      hold = λ x q. subst (λ (σ : Status). Held (past h i) σ x) (sym (at_same i Live (status_of s))) tt;
      cover = λ o q. absurd (true≢false (sym (J.greeted m up kind newer) ∙ o));
      status = at_other i Live (status_of s);
      mode = λ j p e. changed_other (all_of i) no_lock (mode_of s) j p (ne_eqb j i e);
      sure = at_same i Live (status_of s);
    }

    -- the station's mode on one profile is n, which covers what the room holds there
    set_to : {a : Answer} (p n : ℕ) → (is_out (w.rooms i).standing ≡ false → Known (status_of s i) → covers n (room p) ≡ true) →
        Sure a (status_of s i) (changed_at (own i p) (λ (m : ℕ). n) (mode_of s) i) → Takes a (status_of s) (changed_at (own i p) (λ (m : ℕ). n) (mode_of s))
    set_to p n cover sure = record {
      hold = λ x q. q;
      cover = λ o q r. by_test o q r (own i p i r) refl;
      status = λ j e. refl;
      mode = λ j q e. changed_other (own i p) (λ (m : ℕ). n) (mode_of s) j q (own_other i p j q (λ x. e x.1));
      sure = sure;
    }
      where
        by_test : is_out (w.rooms i).standing ≡ false → Known (status_of s i) → (r : ℕ) (b : Bool) → own i p i r ≡ b →
            covers (cond b n (mode_of s i r)) (room r) ≡ true
        by_test o q r true e = ap (λ (p : ℕ). covers n (room p)) (own_so i p i r e).0 ∙ cover o q
        by_test o q r false e = J.cover o q r

    -- Release: the room has given the mode up
    released : (p : ℕ) → m.kind ≡ 4 → m.profile ≡ p → status_of s i ≡ Live → Takes Done (status_of s) (changed_at (own i p) no_lock (mode_of s))
    released p kind named live =
        set_to p 0 (λ o q. ap (λ (n : ℕ). covers 0 n) (ap room (sym named) ∙ J.released m up kind newer) ∙ covers_none 0) live

    -- Ask, granted
    given : (p asked : ℕ) → status_of s i ≡ Live →
        Takes (Granted p (mode (wanted_on s i p asked))) (status_of s) (changed_at (own i p) (λ (m : ℕ). wanted_on s i p asked) (mode_of s))
    given p asked live =
        let wanted = wanted_on s i p asked in
        set_to p wanted (λ o q. covers_trans wanted (mode_of s i p) (room p) (join_left (mode_of s i p) asked) (J.cover o q p))
        (live, changed_here (own i p) (λ (m : ℕ). wanted) (mode_of s) i p (own_here i p))

  -- by the case that a message is
  abbrev Kept : Event → Type 0
  Kept (Said i k q) = (m : Message) → sent_up w.up i m → m.number ≡ k → Means m q →
      Pairs (step wait s now (Said i k q)) (sent_for i k (step wait s now (Said i k q)).answer)
  Kept Tick = Unit {0}

  on_refused : (e : Event) (r : Refusal) → refusal s.settings s.reading now e ≡ Err r → Kept e
  unfolding sent_for
  on_refused (Said i k q) r e =
      λ m up number means. subst (λ (t : Served). Pairs t (sent_for i k t.answer)) (sym (refused wait s now (Said i k q) r e)) I.pair
  on_refused Tick r e = tt

  inside : (i k : ℕ) (q : Request) → Accepted s now (Said i k q) → i < z.stations
  inside i k q a = (below z wait s now I.server i k q a).0

  -- a message whose answer leaves statuses and modes
  stays : (i k : ℕ) (q : Request) {r : Answer} {ν : ℕ → ℕ → Mark} → Accepted s now (Said i k q) → last_of s i < k →
      Sure r (status_of s i) (mode_of s i) → Told wait s now i k q r (status_of s) (mode_of s) ν → Kept (Said i k q)
  stays i k q a new sure law m up number means =
      let b = inside i k q a in
      takes i k m up number b new law (quiet i k m up number b new sure)

  on_case : {e : Event} → Case s now e → Kept e
  unfolding sent_for
  on_case {e} (Case.refused r h) = on_refused e r h
  on_case (Case.ticks a) = tt
  on_case (Case.stale {i} {k} {q} a old) =
      λ m up number means. subst (λ (r : Served). Pairs r (sent_for i k r.answer)) (sym (stale wait s now i k I.server.lengths q a old)) I.pair
  on_case (Case.nack_0 {i} {k} {q} a new since e) = stays i k q a new tt (nack_0 wait s now i k I.server.lengths q a new since e)
  on_case (Case.nack_1 {i} {k} {q} a new other e) = stays i k q a new tt (nack_1 wait s now i k I.server.lengths q a new other e)
  on_case (Case.hello {i} {k} a new settled) =
      λ m up number means. let b = inside i k Hello a in
      takes i k m up number b new (hello wait s now i k I.server.lengths new a settled) (greeted i k m up number b new means)
  on_case (Case.keep_alive {i} {k} a new live) = stays i k KeepAlive a new live (keep_alive wait s now i k I.server.lengths new live a)
  on_case (Case.release {i} {k} {p} a new live) =
      λ m up number means. let b = inside i k (Release p) a in
      takes i k m up number b new (release wait s now i k I.server.lengths new live p a) (released i k m up number b new p means.0 means.1 live)
  on_case (Case.keep {i} {k} {p} a new live) = stays i k (Keep p) a new live (keep wait s now i k I.server.lengths new live p a)
  on_case (Case.ask_granted {i} {k} {p} {asked} a new live free) =
      λ m up number means. let b = inside i k (Ask p asked) a in
      takes i k m up number b new (ask_granted wait s now i k I.server.lengths new live p asked a free) (given i k m up number b new p asked.0 live)
  on_case (Case.ask_in_use {i} {k} {p} {asked} a new live kept) = stays i k (Ask p asked) a new live (ask_in_use wait s now i k I.server.lengths new live p asked a kept)
  on_case (Case.ask_wait {i} {k} {p} {asked} a new live held kept) = stays i k (Ask p asked) a new live (ask_wait wait s now i k I.server.lengths new live p asked a held kept)

  module _ (m : Message) (sent : Memᴰ m w.up) where
    on_request : (q : Request) → Means m q → Sound z (hearing wait w now m (Some (Said m.station m.number q))) h cs
    on_request q means =
        let e = Said m.station m.number q in
        record {
          pair = on_case (case_of s now e) m (sent, refl) refl means;
          own = I.own;
          server = step_sound z wait s now e I.server;
        }

    by_kind : (n : ℕ) → m.kind ≡ n → Sound z (hearing wait w now m (meant_by m (asked_as n m))) h cs
    by_kind (suc zero) e = on_request Hello e
    by_kind (suc (suc zero)) e = on_request KeepAlive tt
    by_kind (suc (suc (suc zero))) e = on_request (Ask m.profile (mode m.mode)) tt
    by_kind (suc (suc (suc (suc zero)))) e = on_request (Release m.profile) (e, refl)
    by_kind (suc (suc (suc (suc (suc zero))))) e = on_request (Keep m.profile) tt
    by_kind zero e = I
    by_kind (suc (suc (suc (suc (suc (suc n)))))) e = I

    pub hears_sound : Sound z (hearing wait w now m (event_of m)) h cs
    unfolding event_of request_of
    hears_sound = by_kind m.kind refl
