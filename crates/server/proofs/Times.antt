-- A time that runs began at a reading that the server has seen: no status and no mark of a reachable server is ahead of its reading.
-- Assumes nothing.
use mathlib.Core.Path.{◌≡◌, sym, subst}
use mathlib.Core.Bool.{Bool, true, false, cond, ◌&&◌}
use Prim.Native.Nat.{ℕ, ◌≤◌}
use native.Mathlib.Omega.{arith}
use lib.Dec.{eqb}
use Rattle.timing.specs.declared.settings.Settings.{Settings}
use Rattle.server.specs.State.{Status, Unknown, Live, TimingOut, Mark, Unmarked, Demanded, Kept, Server, status_of, mark_of}
use Rattle.profiles.specs.Sets.{is_live, is_waited, wipe_mark, drop_kept, demand, keep_mark}
use Rattle.server.specs.Event.{Hello, KeepAlive, Ask, Release, Keep, Event, Message, Tick, Answer}
use Rattle.server.specs.Step.{Served, step}
use Rattle.judging.proofs.Refusals.{reading_good}
use Rattle.server.proofs.Serves.{Sized, Accepted, at, changed_at, all_of, own, all_on, Serves}
use Rattle.server.proofs.InTheWay.{is_demanded}
use Rattle.server.proofs.Events.{refused, stale, nack_0, nack_1, hello, keep_alive, release, keep, ask_granted, ask_in_use, ask_wait}
use Rattle.server.proofs.Ticks.{freed_to, started_to, is_late_in, ticks}
use Rattle.server.proofs.Cases.{Case, case_of}
use Rattle.server.proofs.Reachable.{Reachable, first, next, new_unknown, new_nothing, sound}

-- no time that a status or a mark says is ahead of a reading
abbrev pub Waited : ℕ → Status → Type 0
Waited n σ = (since : ℕ) → σ ≡ TimingOut since → since ≤ n

abbrev pub Asked : ℕ → Mark → Type 0
Asked n m = (since : ℕ) → m ≡ Demanded since → since ≤ n

pub record Timed (n : ℕ) (σ : ℕ → Status) (ν : ℕ → ℕ → Mark) : Type 0 where
  pub statuses : (i : ℕ) → Waited n (σ i)
  pub marks : (i p : ℕ) → Asked n (ν i p)

abbrev pub InTime : Server → Type 0
InTime s = Timed s.reading (status_of s) (mark_of s)

-- the changes of marks make no later time than now
module _ (now : ℕ) where
  unmarked : Asked now Unmarked
  unmarked since e = grind arith

  kept : Asked now Kept
  kept since e = grind arith

  just_now : Asked now (Demanded now)
  just_now since e = grind arith

  dropped : (m : Mark) → Asked now m → Asked now (drop_kept m)
  dropped m h since e = grind (arith, h since)

  demanded : (m : Mark) → Asked now m → Asked now (demand now m)
  demanded m h since e = grind (arith, h since)

  answered : (m : Mark) → Asked now m → Asked now (keep_mark m)
  answered m h since e = grind (arith, h since)

module _ (wait : ℕ) (s : Server) (now : ℕ) (sized : Sized s) (t : InTime s) where
  -- an event that changes some marks, and statuses to such
  after : {r : Served} {a : Answer} {κ : ℕ → ℕ} {μ : ℕ → ℕ → ℕ} {τ : ℕ → Status} (marked : ℕ → ℕ → Bool) (f : Mark → Mark) → s.reading ≤ now →
      ((m : Mark) → Asked now m → Asked now (f m)) → ((j : ℕ) → Waited now (status_of s j) → Waited now (τ j)) →
      Serves s now r a τ κ μ (changed_at marked f (mark_of s)) → InTime r.server
  after {r} {τ = τ} marked f le m w h =
      subst (λ (n : ℕ). Timed n (status_of r.server) (mark_of r.server)) (sym h.reading)
      (record {
        statuses = λ j. subst (Waited now) (sym (h.status j)) (w j (λ since e. omega (arith, t.statuses j since e)));
        marks = λ j q. subst (Asked now) (sym (h.mark j q)) (by_test j q (marked j q));
      })
    where
      before : (j q : ℕ) → Asked now (mark_of s j q)
      before j q since e = omega (arith, t.marks j q since e)

      by_test : (j q : ℕ) (b : Bool) → Asked now (cond b (f (mark_of s j q)) (mark_of s j q))
      by_test j q true = m (mark_of s j q) (before j q)
      by_test j q false = before j q

  seen : (e : Event) → Accepted s now e → s.reading ≤ now
  seen e a = (reading_good s.settings s.reading now e a).1

  same : (j : ℕ) → Waited now (status_of s j) → Waited now (status_of s j)
  same j h = h

  wipes : (m : Mark) → Asked now m → Asked now (wipe_mark m)
  wipes m h = unmarked now

  -- one that changes no mark and no status
  none : {r : Served} {a : Answer} {κ : ℕ → ℕ} {μ : ℕ → ℕ → ℕ} → s.reading ≤ now → Serves s now r a (status_of s) κ μ (mark_of s) → InTime r.server
  none le h = after (λ (j q : ℕ). false) wipe_mark le wipes same h

  live_now : (i j : ℕ) → Waited now (status_of s j) → Waited now (at i Live (status_of s) j)
  live_now i j h = by_test (eqb j i)
    where
      by_test : (b : Bool) → Waited now (cond b Live (status_of s j))
      by_test true since e = grind arith
      by_test false since e = h since e

  turned_now : (j : ℕ) → Waited now (status_of s j) → Waited now (started_to now (is_late_in s now j) (freed_to wait now (status_of s j)))
  turned_now j h = started (is_late_in s now j && is_live (freed_to wait now (status_of s j))) (freed_to wait now (status_of s j)) (freed (is_waited wait now (status_of s j)))
    where
      freed : (b : Bool) → Waited now (cond b Unknown (status_of s j))
      freed true since e = grind arith
      freed false since e = h since e

      started : (b : Bool) (σ : Status) → Waited now σ → Waited now (cond b (TimingOut now) σ)
      started true σ k since e = grind arith
      started false σ k since e = k since e

  timed_case : {e : Event} → Case s now e → InTime (step wait s now e).server
  timed_case {e} (Case.refused n h) = subst (λ (r : Served). InTime r.server) (sym (refused wait s now e n h)) t
  timed_case (Case.ticks a) = after (λ (j q : ℕ). is_waited wait now (status_of s j)) wipe_mark (seen Tick a) wipes turned_now (ticks wait s now sized a)
  timed_case (Case.stale {i} {k} {q} a old) =
      let le = seen (Message i k q) a in
      subst (λ (r : Served). InTime r.server) (sym (stale wait s now i k sized q a old))
      (record { statuses = λ j since e. omega (arith, t.statuses j since e); marks = λ j p since e. omega (arith, t.marks j p since e) })
  timed_case (Case.nack_0 {i} {k} {q} a new since e) = none (seen (Message i k q) a) (nack_0 wait s now i k sized q a new since e)
  timed_case (Case.nack_1 {i} {k} {q} a new other e) = none (seen (Message i k q) a) (nack_1 wait s now i k sized q a new other e)
  timed_case (Case.hello {i} {k} a new settled) =
      after (all_of i) wipe_mark (seen (Message i k Hello) a) wipes (live_now i) (hello wait s now i k sized new a settled)
  timed_case (Case.keep_alive {i} {k} a new live) = none (seen (Message i k KeepAlive) a) (keep_alive wait s now i k sized new live a)
  timed_case (Case.release {i} {k} {p} a new live) = after (own i p) wipe_mark (seen (Message i k (Release p)) a) wipes same (release wait s now i k sized new live p a)
  timed_case (Case.keep {i} {k} {p} a new live) = after (own i p) keep_mark (seen (Message i k (Keep p)) a) (answered now) same (keep wait s now i k sized new live p a)
  timed_case (Case.ask_granted {i} {k} {p} {asked} a new live free) = none (seen (Message i k (Ask p asked)) a) (ask_granted wait s now i k sized new live p asked a free)
  timed_case (Case.ask_in_use {i} {k} {p} {asked} a new live held) =
      after (all_on p) drop_kept (seen (Message i k (Ask p asked)) a) (dropped now) same (ask_in_use wait s now i k sized new live p asked a held)
  timed_case (Case.ask_wait {i} {k} {p} {asked} a new live held free) =
      after (is_demanded s i p asked.0) (demand now) (seen (Message i k (Ask p asked)) a) (demanded now) same (ask_wait wait s now i k sized new live p asked a held free)

pub in_time : {z : Settings} {s : Server} → Reachable z s → InTime s
in_time {z} first =
    record {
      statuses = λ i since e. let h = new_unknown z i in grind arith;
      marks = λ i p since e. let h = (new_nothing z i p).1 in grind arith;
    }
in_time {z} (next {s} wait now e r) = timed_case wait s now (sound r).lengths (in_time r) (case_of s now e)
