-- What holds of every station that can be reached, from a new one by any events at any readings.
-- Assumes nothing.
use mathlib.Core.Path.{◌≡◌, refl, sym, ap, subst, ◌∙◌}
use mathlib.Core.Bool.{Bool, true, false, cond, not, false≢true}
use mathlib.Core.Logic.{◌⊎◌, inl, inr}
use Prim.Native.Nat.{ℕ, ◌<◌, ◌≤◌}
use native.Mathlib.Omega.{arith}
use Rattle.std.proofs.Common.{Option, Some, None, Ok}
use lib.Dec.{eqb}
use lib.ListN.{length}
use borrow.Author.Tests.{eqb-true, ltb-true, ltb-false}
use Rattle.modes.specs.Modes.{is_mode, writes}
use Rattle.modes.proofs.Laws.{mode_covered, writes_covered}
use Rattle.timing.specs.Limits.{reading_limit, most_profiles}
use Rattle.timing.specs.declared.settings.Settings.{Settings}
use Rattle.station.specs.Event.{Request, Hello, KeepAlive, Ask, Release, Keep, Sent, Done, Granted, Wait, InUse, Event, Send, Begin, Edit, End, WriteOut, Restart, Acked, Nacked, Demand, Hold, Standing, Out, Open, Closing}
use Rattle.requests.proofs.Back.{in_modes}
use Rattle.holds.specs.Hold.{no_hold}
use Rattle.holds.specs.Stage.{is_out}
use Rattle.room.specs.Refusal.{named_refusal}
use Rattle.room.specs.Rules.{last_number, profile_for}
use Rattle.station.specs.Effect.{nacked, sent_at}
use Rattle.station.specs.Station.{Station, hold_at, mode_of, started_of, unwritten_of, new_station, gone, at_reading, is_over, expire, is_restart, refusal_of, forbids, after, step}
use Rattle.station.proofs.Ways.{send_free}
use Rattle.station.proofs.Steps.{stepwise}
use Rattle.station.specs.Parts.{hold_change}
use Rattle.station.proofs.Frames.{none_held, none_length, hold_after, hold_restarted, after_length, nacked_out, ends, lasts}
use Rattle.station.proofs.Shown.{is_hello, sent_by_lem, release_shows, begin_shows, edit_shows, end_shows, write_shows, ack_shows, grant_covers}
use Rattle.station.proofs.Heard.{heard, heard_profile}

-- a hold: unwritten only under a writing mode, started only under a mode, and no number above X
pub record GoodHold (h : Hold) : Type 0 where
  pub unwritten : h.unwritten ≡ true → writes h.mode.0 ≡ true
  pub started : 0 < h.started → is_mode h.mode.0 ≡ true
  pub known : h.mode.0 ≤ 6

good_empty : GoodHold no_hold
good_empty = record { unwritten = λ e. absurd (false≢true e); started = λ l. absurd (omega arith); known = omega arith }

mode_small : (n : ℕ) → is_mode n ≡ true → n ≤ 6
unfolding is_mode
mode_small n e = grind arith

-- the hold that an event changes stays good
good_changed : (x : Station) (e : Event) (n : ℕ) → named_refusal n e ≡ Ok tt → forbids x e ≡ Ok tt
    → GoodHold (hold_at x (profile_for e)) → GoodHold (hold_change e (hold_at x (profile_for e)))
good_changed x (Send Hello) n a f g = g
good_changed x (Send KeepAlive) n a f g = g
good_changed x (Send (Ask p m)) n a f g = g
good_changed x (Send (Release p)) n a f g =
    let r = release_shows x p f in
    record {
      unwritten = λ e. absurd (false≢true (sym r.1 ∙ e));
      started = λ l. let k = ltb-false 0 (started_of x p) r.0 in absurd (omega arith);
      known = omega arith;
    }
good_changed x (Send (Keep p)) n a f g = g
good_changed x (Begin p m) n a f g =
    record {
      unwritten = g.unwritten;
      started = λ l. mode_covered (mode_of x p) m.0 (begin_shows x p m.0 f).1 (in_modes n p (is_mode m.0) a);
      known = g.known;
    }
good_changed x (Edit p) n a f g =
    record { unwritten = λ e. (edit_shows x p f).1; started = g.started; known = g.known }
good_changed x (End p) n a f g =
    record { unwritten = g.unwritten; started = λ l. g.started (omega arith); known = g.known }
good_changed x (WriteOut p) n a f g =
    record { unwritten = λ e. absurd (false≢true e); started = g.started; known = g.known }
good_changed x Restart n a f g = good_empty
good_changed x (Acked i k Done) n a f g = g
good_changed x (Acked i k (Granted p m)) n a f g =
    let t = ack_shows x i k (Granted p m) f in
    let c = grant_covers t.request (mode_of x p) p m t.suits in
    let o = in_modes n p (is_mode m.0) a in
    record {
      unwritten = λ e. writes_covered m.0 (mode_of x p) c (g.unwritten e);
      started = λ l. o;
      known = mode_small m.0 o;
    }
good_changed x (Acked i k (Wait p)) n a f g = g
good_changed x (Acked i k (InUse p)) n a f g = g
good_changed x (Nacked i k d) n a f g = g
good_changed x (Demand i p m) n a f g = g

restarts : (e : Event) → (e ≡ Restart) ⊎ (is_restart e ≡ false)
restarts e = grind arith

good_after : (x : Station) (e : Event) (n : ℕ) → named_refusal n e ≡ Ok tt → forbids x e ≡ Ok tt → profile_for e < length x.holds
    → ((p : ℕ) → GoodHold (hold_at x p)) → (q : ℕ) → GoodHold (hold_at (after x e) q)
good_after x e n a f l g q = by_kind (restarts e)
  where
    at : (t : Bool) → eqb q (profile_for e) ≡ t → GoodHold (cond t (hold_change e (hold_at x q)) (hold_at x q))
    at true d =
        subst (λ (p : ℕ). GoodHold (hold_change e (hold_at x p))) (sym (eqb-true q (profile_for e) d))
        (good_changed x e n a f (g (profile_for e)))
    at false d = g q

    by_kind : (e ≡ Restart) ⊎ (is_restart e ≡ false) → GoodHold (hold_at (after x e) q)
    by_kind (inl r) =
        subst GoodHold (sym (ap (λ (e : Event). hold_at (after x e) q) r ∙ hold_restarted x q)) good_empty
    by_kind (inr r) = subst GoodHold (sym (hold_after x e q r l)) (at (eqb q (profile_for e)) refl)

-- which message can wait where
abbrev pub may_wait : Standing → Option Sent → Bool
may_wait Out None = true
may_wait Out (Some w) = is_hello w.request
may_wait Open None = true
may_wait Open (Some w) = not (is_hello w.request)
may_wait Closing None = true
may_wait Closing (Some w) = false

abbrev pub waiting_ones : Option Sent → ℕ
waiting_ones None = 0
waiting_ones (Some w) = 1

-- standing, lease start, waiting message, reading and last number together
pub record Posed (σ : Standing) (start : ℕ) (w : Option Sent) (reading last : ℕ) : Type 0 where
  pub unstarted : is_out σ ≡ true → start ≡ 0
  pub fits : may_wait σ w ≡ true
  pub sent : sent_at w ≤ reading
  pub begun : start ≤ reading
  pub numbered : waiting_ones w ≤ last
  pub counted : last ≤ last_number

abbrev pub PosedAt : Station → Type 0
PosedAt s = Posed s.standing s.start s.waiting s.reading s.last

sends : (q : Request) (t : ℕ) → may_wait (cond (is_hello q) Out Open) (Some (record { request = q; at = t })) ≡ true
sends q t = grind arith

nothing_waits : (σ : Standing) → may_wait σ None ≡ true
nothing_waits σ = grind arith

posed_after : (x : Station) (e : Event) → forbids x e ≡ Ok tt → PosedAt x → PosedAt (after x e)
unfolding after
posed_after x (Send q) f g =
    let n = ltb-true x.last last_number (send_free _ _ _ q f) in
    record {
      unstarted = g.unstarted;
      fits = ap (λ (σ : Standing). may_wait σ (Some (record { request = q; at = x.reading }))) (sent_by_lem x q f) ∙ sends q x.reading;
      sent = omega arith;
      begun = g.begun;
      numbered = omega arith;
      counted = omega arith;
    }
posed_after x (Begin p m) f g = g
posed_after x (Edit p) f g = g
posed_after x (End p) f g = g
posed_after x (WriteOut p) f g = g
posed_after x Restart f g =
    record { unstarted = λ e. refl; fits = refl; sent = omega arith; begun = omega arith; numbered = omega arith; counted = g.counted }
posed_after x (Acked i k a) f g =
    record {
      unstarted = λ e. absurd (false≢true e);
      fits = refl;
      sent = omega arith;
      begun = g.sent;
      numbered = omega arith;
      counted = g.counted;
    }
posed_after x (Nacked i k d) f g =
    record {
      unstarted = λ e. g.unstarted (sym (nacked_out x.standing) ∙ e);
      fits = nothing_waits (nacked x.standing);
      sent = omega arith;
      begun = g.begun;
      numbered = omega arith;
      counted = g.counted;
    }
posed_after x (Demand i p m) f g = g

-- an out station holds nothing
abbrev pub Empty : Station → Type 0
Empty s = is_out s.standing ≡ true → (p : ℕ) → hold_at s p ≡ no_hold

in_out : {A : Type 0} (b : Bool) → b ≡ false → b ≡ true → A
in_out b e g = absurd (false≢true (sym e ∙ g))

empty_after : (x : Station) (e : Event) → forbids x e ≡ Ok tt → Empty x → Empty (after x e)
unfolding after
empty_after x (Send Hello) f g = g
empty_after x (Send KeepAlive) f g = g
empty_after x (Send (Ask p m)) f g = g
empty_after x (Send (Release p)) f g =
    λ o. in_out (is_out x.standing) (ap is_out (sent_by_lem x (Release p) f)) o
empty_after x (Send (Keep p)) f g = g
empty_after x (Begin p m) f g = λ o. in_out (is_out x.standing) (begin_shows x p m.0 f).0 o
empty_after x (Edit p) f g = λ o. in_out (is_out x.standing) (edit_shows x p f).0 o
empty_after x (End p) f g = λ o. in_out (is_out x.standing) (end_shows x p f).0 o
empty_after x (WriteOut p) f g = λ o. in_out (is_out x.standing) (write_shows x p f).0 o
empty_after x Restart f g = λ o p. none_held p
empty_after x (Acked i k a) f g = λ o. absurd (false≢true o)
empty_after x (Nacked i k d) f g = λ o. g (sym (nacked_out x.standing) ∙ o)
empty_after x (Demand i p m) f g = g

pub record Sound (s : Station) : Type 0 where
  pub sized : length s.holds ≡ most_profiles
  pub holds : (p : ℕ) → GoodHold (hold_at s p)
  pub empty : Empty s
  pub posed : PosedAt s
  pub limit : s.reading ≤ reading_limit

gone_sound : (s : Station) (now : ℕ) → now ≤ reading_limit → s.last ≤ last_number → Sound (gone s now)
gone_sound s now l k =
    record {
      sized = none_length;
      holds = λ p. subst GoodHold (sym (none_held p)) good_empty;
      empty = λ o p. none_held p;
      posed = record { unstarted = λ e. refl; fits = refl; sent = omega arith; begun = omega arith; numbered = omega arith; counted = k };
      limit = l;
    }

at_sound : (s : Station) (now : ℕ) → s.reading ≤ now → now ≤ reading_limit → Sound s → Sound (at_reading s now)
at_sound s now f l g =
    let p = g.posed in
    record {
      sized = g.sized;
      holds = g.holds;
      empty = g.empty;
      posed = record {
        unstarted = p.unstarted;
        fits = p.fits;
        sent = omega arith;
        begun = omega arith;
        numbered = p.numbered;
        counted = p.counted;
      };
      limit = l;
    }

pub expire_sound : (s : Station) (now : ℕ) → s.reading ≤ now → now ≤ reading_limit → Sound s → Sound (expire s now)
expire_sound s now f l g = by_test (is_over s now) refl
  where
    by_test : (t : Bool) → is_over s now ≡ t → Sound (expire s now)
    by_test true e = subst Sound (sym (ends s now e)) (gone_sound s now l g.posed.counted)
    by_test false e = subst Sound (sym (lasts s now e)) (at_sound s now f l g)

pub after_sound : (x : Station) (e : Event) (n : ℕ) → named_refusal n e ≡ Ok tt → forbids x e ≡ Ok tt → profile_for e < most_profiles → Sound x → Sound (after x e)
unfolding after
after_sound x e n a f l g =
    let z = g.sized in
    record {
      sized = after_length x e g.sized;
      holds = good_after x e n a f (omega arith) g.holds;
      empty = empty_after x e f g.empty;
      posed = posed_after x e f g.posed;
      limit = g.limit;
    }

pub step_sound : (s : Station) (now : ℕ) (e : Event) → Sound s → Sound (step s now e).station
step_sound s now e g = stepwise Sound s now e g early done
  where
    early : refusal_of s now e ≡ Ok tt → Sound (expire s now)
    early h = let k = heard s now e h in expire_sound s now k.forward k.limit g

    done : refusal_of s now e ≡ Ok tt → forbids (expire s now) e ≡ Ok tt → Sound (after (expire s now) e)
    done h f =
        let k = heard s now e h in
        after_sound (expire s now) e s.settings.profiles k.named f (heard_profile s now e k).1 (early h)

pub new_sound : (z : Settings) (own : ℕ) → Sound (new_station z own)
unfolding new_station
new_sound z own = gone_sound (new_station z own) 0 (omega arith) (omega arith)

-- from a new station by any events at any readings
pub data Reachable : Station → Type 0 where
  made : (z : Settings) (own : ℕ) → Reachable (new_station z own)
  moved : {s : Station} → Reachable s → (now : ℕ) (e : Event) → Reachable (step s now e).station

pub sound : {s : Station} → Reachable s → Sound s
sound (made z own) = new_sound z own
sound (moved {s} r now e) = step_sound s now e (sound r)

-- the same, sentence by sentence
module _ {s : Station} (r : Reachable s) where
  -- out has no modes, counts, flags
  pub out_empty : s.standing ≡ Out → (p : ℕ) → (mode_of s p ≡ 0) × (started_of s p ≡ 0) × (unwritten_of s p ≡ false)
  out_empty o p =
      let h = (sound r).empty (ap is_out o) p in
      (ap (λ (h : Hold). h.mode.0) h, ap (λ (h : Hold). h.started) h, ap (λ (h : Hold). h.unwritten) h)

  -- a waiting message was sent at a reading not above the last
  pub sent_before : (q : Request) (t : ℕ) → s.waiting ≡ Some (record { request = q; at = t }) → t ≤ s.reading
  sent_before q t w = subst (λ (w : Option Sent). sent_at w ≤ s.reading) w (sound r).posed.sent

  -- its number is the last number, and there is one
  pub sent_numbered : (q : Request) (t : ℕ) → s.waiting ≡ Some (record { request = q; at = t }) → 1 ≤ s.last
  sent_numbered q t w = subst (λ (w : Option Sent). waiting_ones w ≤ s.last) w (sound r).posed.numbered

  -- lease start is not above the last reading
  pub started_before : s.start ≤ s.reading
  started_before = (sound r).posed.begun

  -- unwritten implies a writing mode held
  pub unwritten_writes : (p : ℕ) → unwritten_of s p ≡ true → writes (mode_of s p) ≡ true
  unwritten_writes p = ((sound r).holds p).unwritten

  -- a started operation implies a mode held
  pub started_held : (p : ℕ) → 0 < started_of s p → is_mode (mode_of s p) ≡ true
  started_held p = ((sound r).holds p).started

  -- closing has nothing waiting
  pub closing_waits : s.standing ≡ Closing → s.waiting ≡ None
  closing_waits c = by_waiting s.waiting (ap (λ (σ : Standing). may_wait σ s.waiting) (sym c) ∙ (sound r).posed.fits)
    where
      by_waiting : (w : Option Sent) → may_wait Closing w ≡ true → w ≡ None
      by_waiting None e = refl
      by_waiting (Some w) e = absurd (false≢true e)

  -- a hello waits only out, and nothing else waits there
  pub hello_out : (q : Request) (t : ℕ) → s.waiting ≡ Some (record { request = q; at = t }) → s.standing ≡ cond (is_hello q) Out Open
  hello_out q t w = by_standing s.standing q (ap (may_wait s.standing) (sym w) ∙ (sound r).posed.fits)
    where
      by_standing : (σ : Standing) (q : Request) → may_wait σ (Some (record { request = q; at = t })) ≡ true → σ ≡ cond (is_hello q) Out Open
      by_standing Out Hello e = refl
      by_standing Out KeepAlive e = absurd (false≢true e)
      by_standing Out (Ask p m) e = absurd (false≢true e)
      by_standing Out (Release p) e = absurd (false≢true e)
      by_standing Out (Keep p) e = absurd (false≢true e)
      by_standing Open Hello e = absurd (false≢true e)
      by_standing Open KeepAlive e = refl
      by_standing Open (Ask p m) e = refl
      by_standing Open (Release p) e = refl
      by_standing Open (Keep p) e = refl
      by_standing Closing q e = absurd (false≢true e)
