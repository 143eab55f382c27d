-- What an event that nothing forbids shows of the station that it comes to.
-- Assumes nothing.
use mathlib.Core.Path.{◌≡◌, refl, sym, ◌∙◌}
use mathlib.Core.Bool.{Bool, true, false, cond, ◌&&◌, ◌||◌, not, and-eq-true_iff, false≢true}
use Prim.Native.Nat.{ℕ, ◌+◌, ◌-◌, ◌<◌}
use native.Mathlib.Omega.{arith}
use Rattle.std.proofs.Common.{Option, Some, None, Ok, Err}
use lib.Dec.{eqb, ltb}
use borrow.Author.Tests.{eqb-true, leb-false, not-true}
use Rattle.modes.specs.Modes.{covers, writes}
use Rattle.modes.specs.declared.Mode.{Mode}
use Rattle.timing.specs.declared.settings.Settings.{Settings}
use Rattle.timing.specs.declared.settings.Running.{Running}
use Rattle.timing.specs.Phase.{phase_after}
use Rattle.station.specs.Event.{Request, Hello, KeepAlive, Ask, Release, Keep, Sent, Ack, Granted, Send, Edit, End, WriteOut, Acked, Nacked, Standing, Out, Open, Closing, Stage}
use Rattle.holds.specs.Stage.{is_out, closing_phase, phase_at, early}
use Rattle.timing.specs.Reading.{passed}
use Rattle.room.specs.Rules.{number_refusal, release_refusal, started_refusal, sending_refusal, send_refusal, begin_refusal, edit_refusal, end_refusal, write_out_refusal, fits, ack_profile, ack_forbids, nack_forbids}
use Rattle.station.specs.Station.{Station, hold_at, mode_of, started_of, unwritten_of, lease_of, stage_of, forbids}
use Rattle.refusals.specs.Refusal.{Verdict}
use Rattle.refusals.specs.declared.Refusal.TheVariants as refusal
use Rattle.refusals.proofs.Choice.{past_if, past_unless, or_ok}

-- 8 where the station is out; else the rest decides
inside : (out : Bool) (rest : Verdict) → cond out (Err refusal.Out) rest ≡ Ok tt → (out ≡ false) × (rest ≡ Ok tt)
inside out rest e = past_if out refusal.Out rest e

two : (a b : Bool) → (a && b) ≡ true → (a ≡ true) × (b ≡ true)
two a b = (and-eq-true_iff a b).0

neither : (a b : Bool) → (a || b) ≡ false → (a ≡ false) × (b ≡ false)
neither a b e = grind arith

-- to be early is to be open
late : (f : Option Running) → early (closing_phase f) ≡ false
late f = grind arith

early_open : (z : Settings) (σ : Standing) (start now : ℕ) → early (phase_at z σ start now) ≡ true → σ ≡ Open
unfolding phase_at
early_open z Out start now e = absurd (false≢true e)
early_open z Open start now e = refl
early_open z Closing start now e = absurd (false≢true (sym (late (phase_after z (now - start))) ∙ e))

-- a message that needs an open station; `own` is what it needs besides
sending : (stage : Stage) (own : Verdict) (last : ℕ) → sending_refusal stage own last ≡ Ok tt
    → (stage.out ≡ false) × (stage.early ≡ true) × (own ≡ Ok tt)
sending stage own last e =
    let o = inside stage.out _ e in
    let f = past_unless stage.early _ _ o.1 in
    (o.0, f.0, (or_ok own (number_refusal last) f.1).0)

abbrev pub is_hello : Request → Bool
is_hello Hello = true
is_hello KeepAlive = false
is_hello (Ask p m) = false
is_hello (Release p) = false
is_hello (Keep p) = false

-- a hello is sent out, all else open
pub sent_by_lem : (x : Station) (q : Request) → forbids x (Send q) ≡ Ok tt → x.standing ≡ cond (is_hello q) Out Open
unfolding send_refusal
sent_by_lem x Hello e = by_standing x.standing (past_unless (is_out x.standing) _ _ e).0
  where
    by_standing : (σ : Standing) → is_out σ ≡ true → σ ≡ Out
    by_standing Out h = refl
    by_standing Open h = absurd (false≢true h)
    by_standing Closing h = absurd (false≢true h)
sent_by_lem x KeepAlive e = early_open _ x.standing x.start x.reading (sending (stage_of x) (Ok tt) x.last e).1
sent_by_lem x (Ask p m) e = early_open _ x.standing x.start x.reading (sending (stage_of x) (Ok tt) x.last e).1
sent_by_lem x (Release p) e =
    early_open _ x.standing x.start x.reading (sending (stage_of x) (release_refusal (hold_at x p)) x.last e).1
sent_by_lem x (Keep p) e =
    early_open _ x.standing x.start x.reading (sending (stage_of x) (started_refusal (hold_at x p)) x.last e).1

module _ (x : Station) (p : ℕ) where
  -- a release: nothing is started, nothing unwritten
  pub release_shows : forbids x (Send (Release p)) ≡ Ok tt → (ltb 0 (started_of x p) ≡ false) × (unwritten_of x p ≡ false)
  unfolding send_refusal
  release_shows e =
      let own = (sending (stage_of x) (release_refusal (hold_at x p)) x.last e).2 in
      neither _ _ (past_if (ltb 0 (started_of x p) || unwritten_of x p) _ _ own).0

  -- operations: the station is not out, and the held mode allows it
  pub begin_shows : (m : ℕ) → begin_refusal (stage_of x) (hold_at x p) m ≡ Ok tt
      → (is_out x.standing ≡ false) × (covers (mode_of x p) m ≡ true)
  unfolding begin_refusal
  begin_shows m e =
      let o = inside (is_out x.standing) _ e in
      let early = past_unless (stage_of x).early _ _ o.1 in
      (o.0, (past_unless (covers (mode_of x p) m) _ _ early.1).0)

  pub edit_shows : forbids x (Edit p) ≡ Ok tt → (is_out x.standing ≡ false) × (writes (mode_of x p) ≡ true)
  unfolding edit_refusal
  edit_shows e =
      let o = inside (is_out x.standing) _ e in
      let not_late = past_unless (stage_of x).not_late _ _ o.1 in
      (o.0, (past_unless (writes (mode_of x p)) _ _ not_late.1).0)

  pub end_shows : forbids x (End p) ≡ Ok tt → (is_out x.standing ≡ false) × (ltb 0 (started_of x p) ≡ true)
  unfolding end_refusal
  end_shows e =
      let o = inside (is_out x.standing) _ e in
      (o.0, (past_unless (ltb 0 (started_of x p)) _ _ o.1).0)

  pub write_shows : forbids x (WriteOut p) ≡ Ok tt → (is_out x.standing ≡ false) × (writes (mode_of x p) ≡ true)
  unfolding write_out_refusal
  write_shows e =
      let o = inside (is_out x.standing) _ e in
      (o.0, (past_unless (writes (mode_of x p)) _ _ o.1).0)

-- an ACK: it is of the waiting message, fits it, and that message is younger than a lease
pub record Fitting (w : Option Sent) (lease now last k held : ℕ) (a : Ack) : Type 0 where
  pub request : Request
  pub sent : ℕ
  pub waits : w ≡ Some (record { request = request; at = sent })
  pub number : k ≡ last
  pub suits : fits request held a ≡ true
  pub young : now < sent + lease

fitting : (w : Option Sent) (lease now last k held : ℕ) (a : Ack) → ack_forbids w lease now last k held a ≡ Ok tt → Fitting w lease now last k held a
unfolding ack_forbids
fitting None lease now last k held a e = grind arith
fitting (Some w) lease now last k held a e =
    let fine = (past_unless (eqb k last && fits w.request held a && not (passed w.at lease now)) _ _ e).0 in
    let g = two (eqb k last && fits w.request held a) (not (passed w.at lease now)) fine in
    let f = two (eqb k last) (fits w.request held a) g.0 in
    record {
      request = w.request;
      sent = w.at;
      waits = refl;
      number = eqb-true k last f.0;
      suits = f.1;
      young = leb-false (w.at + lease) now (not-true (passed w.at lease now) g.1);
    }

pub ack_shows : (x : Station) (i k : ℕ) (a : Ack) → forbids x (Acked i k a) ≡ Ok tt
    → Fitting x.waiting (lease_of x) x.reading x.last k (mode_of x (ack_profile a)) a
ack_shows x i k a e = fitting x.waiting (lease_of x) x.reading x.last k (mode_of x (ack_profile a)) a e

-- what is granted covers what is held
pub grant_covers : (q : Request) (held p : ℕ) (m : Mode) → fits q held (Granted p m) ≡ true → covers m.0 held ≡ true
unfolding fits
grant_covers q held p m e = grind arith

-- a NACK: it is of the waiting message
pub nack_shows : (x : Station) (i k d : ℕ) → forbids x (Nacked i k d) ≡ Ok tt → k ≡ x.last
unfolding nack_forbids
nack_shows x i k d e = by_waiting x.waiting e
  where
    by_waiting : (w : Option Sent) → nack_forbids w x.last k ≡ Ok tt → k ≡ x.last
    by_waiting None e = grind arith
    by_waiting (Some w) e = eqb-true k x.last (past_unless (eqb k x.last) _ _ e).0
