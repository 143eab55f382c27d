-- The station's step: any event at any reading. And the two questions.
use Rattle.std.specs.Prelude.{Bool, true, false, ◌&&◌, not, List, [], ℕ, zero, suc, ◌+◌, ltb, Option, Some, None, Result, Ok, Err}
use Rattle.refusals.specs.Refusal.{Verdict}
use Rattle.refusals.specs.declared.Refusal.{Refusal}
use Rattle.masks.specs.Mask.{Set, mask, count}
use Rattle.modes.specs.Modes.{is_mode}
use Rattle.timing.specs.declared.settings.Settings.{Settings}
use Rattle.timing.specs.Settings.{lease}
use Rattle.timing.specs.declared.settings.Phase.{Phase}
use Rattle.timing.specs.declared.settings.Phase.TheVariants.{First, Second, Third, Fourth}
use Rattle.station.specs.Event.{Event, Send, Begin, Edit, End, WriteOut, Restart, Acked, Nacked, Demand, Hold, Out, Stage}
use Rattle.holds.specs.Hold.{no_holds, hold_in, unwritten_set}
use Rattle.holds.specs.Stage.{is_out, phase_at, stage_at}
use Rattle.timing.specs.Reading.{passed}
use Rattle.room.specs.Refusal.{own_refusal, refusal, phase_refusal, use_refusal}
use Rattle.room.specs.Rules.{profile_for, event_forbids}
use Rattle.station.specs.Effect.{standing_after, sent_at, start_after, last_after, waiting_after, holds_after, Answer, answer_to}
use Rattle.station.specs.declared.event.Answer.TheVariants as answer
pub use Rattle.station.specs.declared.station.Station.{Station}
pub use Rattle.station.specs.declared.station.Made.{Made}
pub use Rattle.station.specs.declared.station.Stepped.{Stepped}

-- the state, asked: profile p
abbrev pub hold_at : Station → ℕ → Hold
hold_at s p = hold_in s.holds p

-- the mode's number
abbrev pub mode_of : Station → ℕ → ℕ
mode_of s p = (hold_at s p).mode.0

abbrev pub started_of : Station → ℕ → ℕ
started_of s p = (hold_at s p).started

abbrev pub unwritten_of : Station → ℕ → Bool
unwritten_of s p = (hold_at s p).unwritten

abbrev pub lease_of : Station → ℕ
lease_of s = lease s.settings

abbrev pub stage_of : Station → Stage
stage_of s = stage_at s.settings s.standing s.start s.reading

-- "the station is out, modes, counts, flags and waiting message go": all but its own and its last number, and the reading
abbrev pub gone : Station → ℕ → Station
gone s now =
    record {
      settings = s.settings;
      number = s.number;
      standing = Out;
      start = 0;
      last = s.last;
      reading = now;
      waiting = None;
      holds = no_holds;
    }

abbrev pub at_reading : Station → ℕ → Station
at_reading s now =
    record {
      settings = s.settings;
      number = s.number;
      standing = s.standing;
      start = s.start;
      last = s.last;
      reading = now;
      waiting = s.waiting;
      holds = s.holds;
    }

-- "A station is out (at the start)"; "last numbers and readings start at 0"
unfoldable pub new_station : Settings → ℕ → Station
new_station z own =
    record {
      settings = z;
      number = own;
      standing = Out;
      start = 0;
      last = 0;
      reading = 0;
      waiting = None;
      holds = no_holds;
    }

abbrev pub made : Settings → ℕ → Made
made z own = record { station = new_station z own; checked = own_refusal z own }

-- "a lease that has run L ticks"
abbrev pub is_over : Station → ℕ → Bool
is_over s now = not (is_out s.standing) && passed s.start (lease_of s) now

-- "At each event not refused by 1 to 6, a lease that has run L ticks ends first"
unfoldable pub ended_if : Bool → Station → ℕ → Station
ended_if true s now = gone s now
ended_if false s now = at_reading s now

abbrev pub expire : Station → ℕ → Station
expire s now = ended_if (is_over s now) s now

abbrev pub is_restart : Event → Bool
is_restart (Send q) = false
is_restart (Begin p m) = false
is_restart (Edit p) = false
is_restart (End p) = false
is_restart (WriteOut p) = false
is_restart Restart = true
is_restart (Acked i k a) = false
is_restart (Nacked i k d) = false
is_restart (Demand i p m) = false

-- "a mask of lost profiles with its count of ones: those still unwritten. Otherwise both are 0."
-- Restart: "mask and count 0 even if the lease ends at this event"
abbrev pub lost_if : Bool → List Hold → Set
lost_if true holds = unwritten_set holds
lost_if false holds = []

abbrev pub lost : Station → ℕ → Event → Set
lost s now e = lost_if (is_over s now && not (is_restart e)) s.holds

-- 8 to 14, at a station that has taken the event's reading
abbrev pub forbids : Station → Event → Verdict
forbids x e =
    event_forbids (stage_of x) (hold_at x (profile_for e)) x.waiting (lease_of x) x.reading x.last e

-- where nothing forbids it
unfoldable pub after : Station → Event → Station
after x e =
    record {
      settings = x.settings;
      number = x.number;
      standing = standing_after x.standing e;
      start = start_after x.start (sent_at x.waiting) e;
      last = last_after x.last e;
      reading = x.reading;
      waiting = waiting_after x.waiting x.reading e;
      holds = holds_after x.holds e;
    }

abbrev pub stepped : Station → Answer → ℕ → ℕ → Stepped
stepped s a lost count = record { station = s; answer = a; lost = lost; count = count }

-- "8 to 14 change the reading and may end the lease, nothing else."
unfoldable pub if_allowed : Verdict → Station → Event → ℕ → ℕ → Stepped
if_allowed (Ok _) x e lost count = stepped (after x e) (answer_to (last_after x.last e) x.holds e) lost count
if_allowed (Err r) x e lost count = stepped x (answer.Refused r) lost count

abbrev pub judged : Station → Event → ℕ → ℕ → Stepped
judged x e lost count = if_allowed (forbids x e) x e lost count

-- "Refusals 1 to 6 change nothing."
unfoldable pub if_good : Verdict → Station → ℕ → Event → Stepped
if_good (Ok _) s now e = judged (expire s now) e (mask (lost s now e)) (count (lost s now e))
if_good (Err r) s now e = stepped s (answer.Refused r) 0 0

-- 1 to 6, at a station as it was before
abbrev pub refusal_of : Station → ℕ → Event → Verdict
refusal_of s now e = refusal s.settings s.number s.reading now e

unfoldable pub step : Station → ℕ → Event → Stepped
step s now e = if_good (refusal_of s now e) s now e

-- "Which phase: 1 to 4, or out", which is 0
abbrev pub phase_of : ℕ → Option Phase
phase_of zero = None
phase_of (suc zero) = Some First
phase_of (suc (suc zero)) = Some Second
phase_of (suc (suc (suc zero))) = Some Third
phase_of (suc (suc (suc (suc n)))) = Some Fourth

abbrev pub if_asked : Verdict → ℕ → Result (Option Phase) Refusal
if_asked (Ok _) n = Ok (phase_of n)
if_asked (Err r) n = Err r

unfoldable pub phase_asked : Station → ℕ → Result (Option Phase) Refusal
phase_asked s now =
    if_asked (phase_refusal s.settings s.number s.reading now)
    (phase_at s.settings s.standing s.start now)

-- "yes exactly if a mode is held and the present reading is below lease start + L"
abbrev pub usable : Station → ℕ → ℕ → Bool
usable s now p = is_mode (mode_of s p) && ltb now (s.start + lease_of s)

abbrev pub if_use : Verdict → Bool → Result Bool Refusal
if_use (Ok _) b = Ok b
if_use (Err r) b = Err r

unfoldable pub may_use : Station → ℕ → ℕ → Result Bool Refusal
may_use s now p = if_use (use_refusal s.settings s.number s.reading now p) (usable s now p)
