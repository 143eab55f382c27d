-- What the lease's end and each event leave of every part of a station.
-- Assumes nothing.
use mathlib.Core.Path.{◌≡◌, refl, ap, ◌∙◌}
use mathlib.Core.Bool.{Bool, true, false, cond, true≢false}
use mathlib.Core.List.{List, [], ◌∷◌}
use Prim.Native.Nat.{ℕ, zero, suc, ◌<◌}
use Rattle.std.proofs.Common.{arith}
use lib.Dec.{eqb}
use lib.ListN.{length, get_or, replicate, length-set}
use lib.Seq.{get_or-set_same, get_or-set_other}
use borrow.Author.Tests.{eqb-true, eqb-false}
use Rattle.modes.specs.declared.Mode.{Mode}
use Rattle.timing.specs.Limits.{most_profiles}
use Rattle.station.specs.Event.{Hello, KeepAlive, Ask, Release, Keep, Done, Granted, Wait, InUse, Event, Send, Begin, Edit, End, WriteOut, Restart, Acked, Nacked, Demand, Hold, Standing}
use Rattle.holds.specs.Hold.{no_hold, no_holds, hold_in, with_mode, with_unwritten, changed}
use Rattle.holds.specs.Stage.{is_out}
use Rattle.room.specs.Rules.{profile_for}
use Rattle.station.specs.Effect.{nacked, standing_after, sent_at, start_after, last_after, waiting_after, holds_after, begun, ended}
use Rattle.station.specs.Parts.{hold_change}
use Rattle.station.specs.Station.{Station, hold_at, mode_of, gone, at_reading, is_over, ended_if, expire, is_restart, after}

-- the lease's end
module _ (s : Station) (now : ℕ) where
  pub ends : is_over s now ≡ true → expire s now ≡ gone s now
  unfolding ended_if
  ends h = ap (λ (b : Bool). ended_if b s now) h

  pub lasts : is_over s now ≡ false → expire s now ≡ at_reading s now
  unfolding ended_if
  lasts h = ap (λ (b : Bool). ended_if b s now) h

module _ (s : Station) (now : ℕ) where
  abbrev told : (b : Bool) → Station
  told b = ended_if b s now

  by_end : {A : Type 0} (f : Station → A) → f (gone s now) ≡ f (at_reading s now) → (b : Bool) → f (told b) ≡ f (at_reading s now)
  unfolding ended_if
  by_end f e true = e
  by_end f e false = refl

  pub expire_settings : (expire s now).settings ≡ s.settings
  expire_settings = by_end (λ (x : Station). x.settings) refl (is_over s now)

  pub expire_number : (expire s now).number ≡ s.number
  expire_number = by_end (λ (x : Station). x.number) refl (is_over s now)

  pub expire_last : (expire s now).last ≡ s.last
  expire_last = by_end (λ (x : Station). x.last) refl (is_over s now)

  pub expire_reading : (expire s now).reading ≡ now
  expire_reading = by_end (λ (x : Station). x.reading) refl (is_over s now)

-- nothing is held where all is gone
empty_at : (n p : ℕ) → get_or (replicate n no_hold) p no_hold ≡ no_hold
empty_at zero p = refl
empty_at (suc n) zero = refl
empty_at (suc n) (suc p) = empty_at n p

pub none_held : (p : ℕ) → hold_in no_holds p ≡ no_hold
unfolding no_holds
none_held p = empty_at most_profiles p

pub none_length : length no_holds ≡ most_profiles
unfolding no_holds
none_length = refl

pub expire_hold : (s : Station) (now p : ℕ) → hold_at (expire s now) p ≡ cond (is_over s now) no_hold (hold_at s p)
unfolding ended_if
expire_hold s now p = by_test (is_over s now)
  where
    by_test : (b : Bool) → hold_at (ended_if b s now) p ≡ cond b no_hold (hold_at s p)
    by_test true = none_held p
    by_test false = refl

-- an event that happens
module _ (x : Station) (e : Event) where
  pub after_settings : (after x e).settings ≡ x.settings
  unfolding after
  after_settings = refl

  pub after_number : (after x e).number ≡ x.number
  unfolding after
  after_number = refl

  pub after_standing : (after x e).standing ≡ standing_after x.standing e
  unfolding after
  after_standing = refl

  pub after_start : (after x e).start ≡ start_after x.start (sent_at x.waiting) e
  unfolding after
  after_start = refl

  pub after_last : (after x e).last ≡ last_after x.last e
  unfolding after
  after_last = refl

  pub after_reading : (after x e).reading ≡ x.reading
  unfolding after
  after_reading = refl

  pub after_waiting : (after x e).waiting ≡ waiting_after x.waiting x.reading e
  unfolding after
  after_waiting = refl

  pub after_holds : (after x e).holds ≡ holds_after x.holds e
  unfolding after
  after_holds = refl

changed_at_lem : (f : Hold → Hold) (holds : List Hold) (p q : ℕ) → p < length holds
    → hold_in (changed f p holds) q ≡ cond (eqb q p) (f (hold_in holds q)) (hold_in holds q)
changed_at_lem f holds p q h = by_test (eqb q p) refl
  where
    by_test : (t : Bool) → eqb q p ≡ t → hold_in (changed f p holds) q ≡ cond t (f (hold_in holds q)) (hold_in holds q)
    by_test true e = rw (eqb-true q p e) (get_or-set_same holds p (f (hold_in holds p)) no_hold h)
    by_test false e = get_or-set_other holds p q (f (hold_in holds p)) no_hold (eqb-false q p e)

either_way : (t : Bool) (h : Hold) → h ≡ cond t h h
either_way t h = grind arith

-- but for restart, only the hold of the profile named changes
pub hold_after : (x : Station) (e : Event) (q : ℕ) → is_restart e ≡ false → profile_for e < length x.holds
    → hold_at (after x e) q ≡ cond (eqb q (profile_for e)) (hold_change e (hold_at x q)) (hold_at x q)
unfolding after
hold_after x (Send Hello) q r h = either_way (eqb q 0) (hold_at x q)
hold_after x (Send KeepAlive) q r h = either_way (eqb q 0) (hold_at x q)
hold_after x (Send (Ask p m)) q r h = either_way (eqb q p) (hold_at x q)
hold_after x (Send (Release p)) q r h = changed_at_lem (with_mode 0) x.holds p q h
hold_after x (Send (Keep p)) q r h = either_way (eqb q p) (hold_at x q)
hold_after x (Begin p m) q r h = changed_at_lem begun x.holds p q h
hold_after x (Edit p) q r h = changed_at_lem (with_unwritten true) x.holds p q h
hold_after x (End p) q r h = changed_at_lem ended x.holds p q h
hold_after x (WriteOut p) q r h = changed_at_lem (with_unwritten false) x.holds p q h
hold_after x Restart q r h = absurd (true≢false r)
hold_after x (Acked i k Done) q r h = either_way (eqb q 0) (hold_at x q)
hold_after x (Acked i k (Granted p m)) q r h = changed_at_lem (with_mode m.0) x.holds p q h
hold_after x (Acked i k (Wait p)) q r h = either_way (eqb q p) (hold_at x q)
hold_after x (Acked i k (InUse p)) q r h = either_way (eqb q p) (hold_at x q)
hold_after x (Nacked i k d) q r h = either_way (eqb q 0) (hold_at x q)
hold_after x (Demand i p m) q r h = either_way (eqb q p) (hold_at x q)

pub hold_restarted : (x : Station) (q : ℕ) → hold_at (after x Restart) q ≡ no_hold
unfolding after
hold_restarted x q = none_held q

-- modes change only by a release at its sending, by what is granted, and by restart
abbrev pub mode_after : Station → Event → ℕ → ℕ
mode_after x (Send Hello) q = mode_of x q
mode_after x (Send KeepAlive) q = mode_of x q
mode_after x (Send (Ask p m)) q = mode_of x q
mode_after x (Send (Release p)) q = cond (eqb q p) 0 (mode_of x q)
mode_after x (Send (Keep p)) q = mode_of x q
mode_after x (Begin p m) q = mode_of x q
mode_after x (Edit p) q = mode_of x q
mode_after x (End p) q = mode_of x q
mode_after x (WriteOut p) q = mode_of x q
mode_after x Restart q = 0
mode_after x (Acked i k Done) q = mode_of x q
mode_after x (Acked i k (Granted p m)) q = cond (eqb q p) m.0 (mode_of x q)
mode_after x (Acked i k (Wait p)) q = mode_of x q
mode_after x (Acked i k (InUse p)) q = mode_of x q
mode_after x (Nacked i k d) q = mode_of x q
mode_after x (Demand i p m) q = mode_of x q

mode_is : (t : Bool) (g h : Hold) → (cond t g h).mode.0 ≡ cond t g.mode.0 h.mode.0
mode_is t g h = grind arith

-- a change that leaves the mode leaves every mode, also past the end
pub modes_kept : (f : Hold → Hold) → ((h : Hold) → (f h).mode ≡ h.mode) → (holds : List Hold) (p q : ℕ)
    → (hold_in (changed f p holds) q).mode.0 ≡ (hold_in holds q).mode.0
modes_kept f e [] p q = refl
modes_kept f e (h ∷ holds) zero zero = ap (λ (m : Mode). m.0) (e h)
modes_kept f e (h ∷ holds) zero (suc q) = refl
modes_kept f e (h ∷ holds) (suc p) zero = refl
modes_kept f e (h ∷ holds) (suc p) (suc q) = modes_kept f e holds p q

mode_changed : (x : Station) (e : Event) (q : ℕ) → is_restart e ≡ false → profile_for e < length x.holds
    → mode_of (after x e) q ≡ cond (eqb q (profile_for e)) (hold_change e (hold_at x q)).mode.0 (mode_of x q)
mode_changed x e q r h =
    ap (λ (k : Hold). k.mode.0) (hold_after x e q r h)
    ∙ mode_is (eqb q (profile_for e)) (hold_change e (hold_at x q)) (hold_at x q)

pub mode_after_lem : (x : Station) (e : Event) (q : ℕ) → profile_for e < length x.holds → mode_of (after x e) q ≡ mode_after x e q
unfolding after
mode_after_lem x (Send Hello) q h = refl
mode_after_lem x (Send KeepAlive) q h = refl
mode_after_lem x (Send (Ask p m)) q h = refl
mode_after_lem x (Send (Release p)) q h = mode_changed x (Send (Release p)) q refl h
mode_after_lem x (Send (Keep p)) q h = refl
mode_after_lem x (Begin p m) q h = modes_kept begun (λ h. refl) x.holds p q
mode_after_lem x (Edit p) q h = modes_kept (with_unwritten true) (λ h. refl) x.holds p q
mode_after_lem x (End p) q h = modes_kept ended (λ h. refl) x.holds p q
mode_after_lem x (WriteOut p) q h = modes_kept (with_unwritten false) (λ h. refl) x.holds p q
mode_after_lem x Restart q h = ap (λ (k : Hold). k.mode.0) (hold_restarted x q)
mode_after_lem x (Acked i k Done) q h = refl
mode_after_lem x (Acked i k (Granted p m)) q h = mode_changed x (Acked i k (Granted p m)) q refl h
mode_after_lem x (Acked i k (Wait p)) q h = refl
mode_after_lem x (Acked i k (InUse p)) q h = refl
mode_after_lem x (Nacked i k d) q h = refl
mode_after_lem x (Demand i p m) q h = refl

-- a NACK puts nobody out, and lets nobody in
pub nacked_out : (σ : Standing) → is_out (nacked σ) ≡ is_out σ
nacked_out σ = grind arith

-- there are as many holds as before
pub after_length : (x : Station) (e : Event) → length x.holds ≡ most_profiles → length (after x e).holds ≡ most_profiles
unfolding after
after_length x (Send Hello) h = h
after_length x (Send KeepAlive) h = h
after_length x (Send (Ask p m)) h = h
after_length x (Send (Release p)) h = length-set x.holds p (with_mode 0 (hold_at x p)) ∙ h
after_length x (Send (Keep p)) h = h
after_length x (Begin p m) h = length-set x.holds p (begun (hold_at x p)) ∙ h
after_length x (Edit p) h = length-set x.holds p (with_unwritten true (hold_at x p)) ∙ h
after_length x (End p) h = length-set x.holds p (ended (hold_at x p)) ∙ h
after_length x (WriteOut p) h = length-set x.holds p (with_unwritten false (hold_at x p)) ∙ h
after_length x Restart h = none_length
after_length x (Acked i k Done) h = h
after_length x (Acked i k (Granted p m)) h = length-set x.holds p (with_mode m.0 (hold_at x p)) ∙ h
after_length x (Acked i k (Wait p)) h = h
after_length x (Acked i k (InUse p)) h = h
after_length x (Nacked i k d) h = h
after_length x (Demand i p m) h = h

pub expire_length : (s : Station) (now : ℕ) → length s.holds ≡ most_profiles → length (expire s now).holds ≡ most_profiles
unfolding ended_if
expire_length s now h = by_test (is_over s now)
  where
    by_test : (b : Bool) → length (ended_if b s now).holds ≡ most_profiles
    by_test true = none_length
    by_test false = h
