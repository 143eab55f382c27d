-- One room and what the server has of it: the invariant, and that each turn of either keeps it.
-- Assumes nothing.
use mathlib.Core.Path.{◌≡◌, refl, sym, ap, ◌∙◌}
use mathlib.Core.Bool.{Bool, true, false, true≢false}
use mathlib.Core.Logic.{◌⊎◌, inl, inr}
use Prim.Native.Nat.{ℕ, ◌+◌, ◌<◌, ◌≤◌}
use native.Mathlib.Nat.{le_trans}
use native.Mathlib.Omega.{arith}
use Rattle.std.proofs.Common.{Option, Some, None}
use Rattle.record.specs.declared.message.Message.{Message}
use Rattle.modes.specs.Modes.{covers}
use Rattle.modes.proofs.Laws.{covers_none}
use Rattle.members.specs.declared.member.Status.{Status}
use Rattle.members.specs.declared.member.Status.TheVariants.{Unknown, Live, TimingOut}
use Rattle.room.specs.declared.event.Sent.{Sent}

-- what the server has of a station
pub record Slot : Type 0 where
  pub last : ℕ
  pub status : Status
  pub mode : ℕ → ℕ

-- what safety asks of a room
pub record Seat : Type 0 where
  pub out : Bool
  pub start : ℕ
  pub last : ℕ
  pub waiting : Option Sent
  pub mode : ℕ → ℕ

-- The server still keeps a lease that started at x: it has the station live, or its time-out began when the station's clock was past x.
-- P τ y says that at some moment so far the server read τ and the station y.
abbrev pub Held : (ℕ → ℕ → Type 0) → Status → ℕ → Type 0
Held P Unknown x = ⊥
Held P Live x = Unit {0}
Held P (TimingOut τ) x = (y : ℕ) × P τ y × (x ≤ y)

abbrev pub Known : Status → Type 0
Known Unknown = ⊥
Known Live = Unit {0}
Known (TimingOut τ) = Unit {0}

pub held_known : (P : ℕ → ℕ → Type 0) (σ : Status) (x : ℕ) → Held P σ x → Known σ
held_known P Unknown x h = h
held_known P Live x h = tt
held_known P (TimingOut τ) x h = tt

abbrev pub Covered : (ℕ → ℕ) → (ℕ → ℕ) → Type 0
Covered f g = (p : ℕ) → covers (f p) (g p) ≡ true

-- what an ACK grants is what the server has
abbrev pub Fits : Message → (ℕ → ℕ) → Type 0
Fits m f = m.detail ≡ 1 → f m.profile ≡ m.mode

module _ (L : ℕ) where
  -- U: the messages up from this room. D: the ACKs down to it. c: what its clock reads now.
  pub record Inv (S : Slot) (R : Seat) (U D : Message → Type 0) (P : ℕ → ℕ → Type 0) (c : ℕ) : Type 0 where
    -- no number above the room's last one is under way
    pub up_old : (m : Message) → U m → m.number ≤ R.last
    -- the server has heard none above it
    pub heard : S.last ≤ R.last
    -- and has acknowledged none above the last that it heard
    pub down_old : (m : Message) → D m → m.number ≤ S.last
    -- the lease started, and the waiting message was sent, not after now
    pub started : R.start ≤ c
    pub sent_at_lem : (q : Sent) → R.waiting ≡ Some q → q.at ≤ c
    -- while the lease lasts the server keeps it
    pub lease : R.out ≡ false → c < R.start + L → Held P S.status R.start
    -- whatever the lease: as long as the server knows the station, its modes there cover the room's
    pub cover : R.out ≡ false → Known S.status → Covered S.mode R.mode
    -- an ACK of the waiting message, while it would still be taken: the server keeps the lease that it would start, and what it grants
    pub reply : (q : Sent) → R.waiting ≡ Some q → c < q.at + L → (m : Message) → D m → m.number ≡ R.last →
        Held P S.status q.at × Fits m S.mode
    -- a release (kind 4) that the server has not heard: the room's mode is gone
    pub released : (m : Message) → U m → m.kind ≡ 4 → S.last < m.number → R.mode m.profile ≡ 0
    -- a hello (kind 1) that the server has not heard: the room is out
    pub greeted : (m : Message) → U m → m.kind ≡ 1 → S.last < m.number → R.out ≡ true
    -- out: no modes
    pub empty : R.out ≡ true → (p : ℕ) → R.mode p ≡ 0

  held_later : {P P' : ℕ → ℕ → Type 0} → ((τ y : ℕ) → P τ y → P' τ y) → (σ : Status) (x : ℕ) → Held P σ x → Held P' σ x
  held_later f Unknown x h = h
  held_later f Live x h = h
  held_later f (TimingOut τ) x h = (h.0, f τ h.0 h.1, h.2)

  -- time passes; what is seen of the messages may be less (what is another's)
  pub later : {S : Slot} {R : Seat} {U U' D D' : Message → Type 0} {P P' : ℕ → ℕ → Type 0} {c c' : ℕ} →
      Inv S R U D P c → c ≤ c' → ((τ y : ℕ) → P τ y → P' τ y) → ((m : Message) → U' m → U m) → ((m : Message) → D' m → D m) →
      Inv S R U' D' P' c'
  later {S} {R} I h f u d = record {
    up_old = λ m x. I.up_old m (u m x);
    heard = I.heard;
    down_old = λ m x. I.down_old m (d m x);
    started = le_trans I.started h;
    sent_at_lem = λ q e. le_trans (I.sent_at_lem q e) h;
    lease = λ o b. held_later f S.status R.start (I.lease o (omega arith));
    cover = I.cover;
    reply = λ q e b m x k. let y = I.reply q e (omega arith) m (d m x) k in (held_later f S.status q.at y.0, y.1);
    released = λ m x k b. I.released m (u m x) k b;
    greeted = λ m x k b. I.greeted m (u m x) k b;
    empty = I.empty;
  }

  -- the server takes a message of the station, newer than all that it took
  pub taken : {S S' : Slot} {R : Seat} {U D D' : Message → Type 0} {P : ℕ → ℕ → Type 0} {c : ℕ} →
      Inv S R U D P c → (m : Message) → U m → S.last < m.number → S'.last ≡ m.number →
      ((x : ℕ) → Held P S.status x → Held P S'.status x) →
      (R.out ≡ false → Known S'.status → Covered S'.mode R.mode) →
      ((a : Message) → D' a → D a ⊎ ((a.number ≡ m.number) × (S'.status ≡ Live) × Fits a S'.mode)) →
      Inv S' R U D' P c
  taken {S} {S'} {R} {U} {D} {D'} {P} {c} I m u new e hold cover acks = record {
    up_old = I.up_old;
    heard = let x = I.up_old m u in omega arith;
    down_old = λ a d. old a (acks a d);
    started = I.started;
    sent_at_lem = I.sent_at_lem;
    lease = λ o b. hold R.start (I.lease o b);
    cover = cover;
    reply = λ q w b a d k. answer q.at a k (acks a d);
    released = λ a x k b. I.released a x k (omega arith);
    greeted = λ a x k b. I.greeted a x k (omega arith);
    empty = I.empty;
  }
    where
      old : (a : Message) → D a ⊎ ((a.number ≡ m.number) × (S'.status ≡ Live) × Fits a S'.mode) → a.number ≤ S'.last
      old a (inl d) = let x = I.down_old a d in omega arith
      old a (inr x) = omega arith

      live : (σ : Status) (t : ℕ) → σ ≡ Live → Held P σ t
      live σ t l = rw l tt

      answer : (t : ℕ) (a : Message) → a.number ≡ R.last → D a ⊎ ((a.number ≡ m.number) × (S'.status ≡ Live) × Fits a S'.mode) →
          Held P S'.status t × Fits a S'.mode
      answer t a k (inl d) = let x = I.down_old a d in let y = I.up_old m u in absurd (omega arith)
      answer t a k (inr x) = (live S'.status t x.1, x.2)

  -- the server's tick: numbers stay; a lease that lasts is kept; and whom it still knows it knew with these modes
  pub turned : {S S' : Slot} {R : Seat} {U D : Message → Type 0} {P : ℕ → ℕ → Type 0} {c : ℕ} →
      Inv S R U D P c → S'.last ≡ S.last →
      ((x : ℕ) → x ≤ c → c < x + L → Held P S.status x → Held P S'.status x) →
      (Known S'.status → Known S.status × ((p : ℕ) → S'.mode p ≡ S.mode p)) →
      Inv S' R U D P c
  turned {S} {S'} {R} {U} {D} {P} {c} I e hold known = record {
    up_old = I.up_old;
    heard = rw e I.heard;
    down_old = λ a d. rw e (I.down_old a d);
    started = I.started;
    sent_at_lem = I.sent_at_lem;
    lease = λ o b. hold R.start I.started b (I.lease o b);
    cover = λ o k p. let y = known k in rw (y.1 p) (I.cover o y.0 p);
    reply = λ q w b a d k.
        let x = I.reply q w b a d k in
        let y = hold q.at (I.sent_at_lem q w) b x.0 in
        (y, λ g. (known (held_known P S'.status q.at y)).1 a.profile ∙ x.1 g);
    released = λ a x k b. I.released a x k (omega arith);
    greeted = λ a x k b. I.greeted a x k (omega arith);
    empty = I.empty;
  }

  nothing_waits : {w : Option Sent} {q : Sent} → w ≡ None → w ≡ Some q → ⊥
  nothing_waits p q = grind arith

  -- the room goes out: its lease is over, or it is started anew
  pub left : {S : Slot} {R R' : Seat} {U D : Message → Type 0} {P : ℕ → ℕ → Type 0} {c : ℕ} →
      Inv S R U D P c → R'.out ≡ true → R'.start ≤ c → R'.last ≡ R.last → R'.waiting ≡ None → ((p : ℕ) → R'.mode p ≡ 0) →
      Inv S R' U D P c
  left {S} {R} {R'} I o st l w m = record {
    up_old = λ a u. rw l (I.up_old a u);
    heard = rw l I.heard;
    down_old = I.down_old;
    started = st;
    sent_at_lem = λ q e. absurd (nothing_waits w e);
    lease = λ o' b. absurd (true≢false (sym o ∙ o'));
    cover = λ o' k. absurd (true≢false (sym o ∙ o'));
    reply = λ q e b a d k. absurd (nothing_waits w e);
    released = λ a u k b. m a.profile;
    greeted = λ a u k b. o;
    empty = λ o p. m p;
  }

  -- a waiting message goes, by a NACK
  pub dropped : {S : Slot} {R R' : Seat} {U D : Message → Type 0} {P : ℕ → ℕ → Type 0} {c : ℕ} →
      Inv S R U D P c → R'.out ≡ R.out → R'.start ≡ R.start → R'.last ≡ R.last → R'.waiting ≡ None → R'.mode ≡ R.mode →
      Inv S R' U D P c
  dropped {S} {R} {R'} I o st l w m = record {
    up_old = λ a u. rw l (I.up_old a u);
    heard = rw l I.heard;
    down_old = I.down_old;
    started = rw st I.started;
    sent_at_lem = λ q e. absurd (nothing_waits w e);
    lease = rw (o, st) I.lease;
    cover = rw (o, m) I.cover;
    reply = λ q e b a d k. absurd (nothing_waits w e);
    released = rw m I.released;
    greeted = rw o I.greeted;
    empty = rw (o, m) I.empty;
  }

  -- the room sends a message: it takes the next number and waits
  pub posted : {S : Slot} {R R' : Seat} {U U' D : Message → Type 0} {P : ℕ → ℕ → Type 0} {c : ℕ} →
      Inv S R U D P c → (q : Sent) (m : Message) →
      R'.out ≡ R.out → R'.start ≡ R.start → R'.last ≡ R.last + 1 → R'.waiting ≡ Some q → q.at ≡ c →
      ((p : ℕ) → (R'.mode p ≡ R.mode p) ⊎ (R'.mode p ≡ 0)) →
      m.number ≡ R.last + 1 →
      (m.kind ≡ 4 → R'.mode m.profile ≡ 0) →
      (m.kind ≡ 1 → R.out ≡ true) →
      ((a : Message) → U' a → U a ⊎ (a ≡ m)) →
      Inv S R' U' D P c
  posted {S} {R} {R'} {U} {U'} {D} {P} {c} I q m o st l w sent modes number rel hi ups = record {
    up_old = λ a u. old a (ups a u);
    heard = let x = I.heard in omega arith;
    down_old = I.down_old;
    started = rw st I.started;
    sent_at_lem = λ s e. let z : q.at ≡ s.at = cc in omega arith;
    lease = λ o' b. rw st (I.lease (sym o ∙ o') (rw st at b));
    cover = λ o' k p. covered p (modes p) (I.cover (sym o ∙ o') k p);
    reply = λ s e b a d k. let x = I.down_old a d in let y = I.heard in absurd (omega arith);
    released = λ a u k b. gone a k b (ups a u);
    greeted = λ a u k b. o ∙ outside a k b (ups a u);
    empty = λ o' p. none_held p (I.empty (sym o ∙ o') p) (modes p);
  }
    where
      old : (a : Message) → U a ⊎ (a ≡ m) → a.number ≤ R'.last
      old a (inl u) = let x = I.up_old a u in omega arith
      old a (inr e) = let x : a.number ≡ m.number = ap (λ (y : Message). y.number) e in omega arith

      covered : (p : ℕ) → (R'.mode p ≡ R.mode p) ⊎ (R'.mode p ≡ 0) → covers (S.mode p) (R.mode p) ≡ true → covers (S.mode p) (R'.mode p) ≡ true
      covered p (inl e) h = rw e h
      covered p (inr e) h = rw e (covers_none (S.mode p))

      none_held : (p : ℕ) → R.mode p ≡ 0 → (R'.mode p ≡ R.mode p) ⊎ (R'.mode p ≡ 0) → R'.mode p ≡ 0
      none_held p z (inl e) = e ∙ z
      none_held p z (inr e) = e

      gone : (a : Message) → a.kind ≡ 4 → S.last < a.number → U a ⊎ (a ≡ m) → R'.mode a.profile ≡ 0
      gone a k b (inl u) = none_held a.profile (I.released a u k b) (modes a.profile)
      gone a k b (inr e) = ap (λ (y : Message). R'.mode y.profile) e ∙ rel (sym (ap (λ (y : Message). y.kind) e) ∙ k)

      outside : (a : Message) → a.kind ≡ 1 → S.last < a.number → U a ⊎ (a ≡ m) → R.out ≡ true
      outside a k b (inl u) = I.greeted a u k b
      outside a k b (inr e) = hi (sym (ap (λ (y : Message). y.kind) e) ∙ k)

  -- the waiting message is acknowledged in time
  pub acked : {S : Slot} {R R' : Seat} {U D : Message → Type 0} {P : ℕ → ℕ → Type 0} {c : ℕ} →
      Inv S R U D P c → (q : Sent) (m : Message) → R.waiting ≡ Some q → c < q.at + L → D m → m.number ≡ R.last →
      R'.out ≡ false → R'.start ≡ q.at → R'.last ≡ R.last → R'.waiting ≡ None →
      (Covered S.mode R.mode → Fits m S.mode → Covered S.mode R'.mode) →
      Inv S R' U D P c
  acked {S} {R} {R'} {U} {D} {P} {c} I q m w fresh d number o st l w' modes = record {
    up_old = λ a u. rw l (I.up_old a u);
    heard = rw l I.heard;
    down_old = I.down_old;
    started = rw st (I.sent_at_lem q w);
    sent_at_lem = λ s e. absurd (nothing_waits w' e);
    lease = λ o' b. rw st answer.0;
    cover = λ o' k. modes (before R.out refl) answer.1;
    reply = λ s e b a d k. absurd (nothing_waits w' e);
    released = λ a u k b. let x = I.up_old a u in absurd (omega (arith, now));
    greeted = λ a u k b. let x = I.up_old a u in absurd (omega (arith, now));
    empty = λ o'. absurd (true≢false (sym o' ∙ o));
  }
    where
      now : m.number ≤ S.last
      now = I.down_old m d

      answer : Held P S.status q.at × Fits m S.mode
      answer = I.reply q w fresh m d number

      before : (b : Bool) → R.out ≡ b → Covered S.mode R.mode
      before true e p = rw (I.empty e p) (covers_none (S.mode p))
      before false e p = I.cover e (held_known P S.status q.at answer.0) p
