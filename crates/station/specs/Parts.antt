-- The parts of a station that an event changes, with the one hold that it names. The code takes a station apart into them, and puts
-- it together again. No rule stands here: proofs/Apart.antt leads each back to Effect and Station.
use Rattle.std.specs.Prelude.{Bool, true, false, List, ℕ, ltb, None, Result, Ok, Err}
use Rattle.refusals.specs.Refusal.{Verdict}
use Rattle.refusals.specs.declared.Refusal.{Refusal}
use Rattle.timing.specs.declared.settings.Settings.{Settings}
use Rattle.station.specs.Event.{Request, Hello, KeepAlive, Ask, Release, Keep, Ack, Done, Granted, Wait, InUse, Event, Send, Begin, Edit, End, WriteOut, Restart, Acked, Nacked, Demand, Hold, Out}
use Rattle.timing.specs.Settings.{lease}
use Rattle.holds.specs.Hold.{most_started, no_hold, hold_in, with_mode, with_unwritten}
use Rattle.holds.specs.Stage.{stage_at}
use Rattle.room.specs.declared.refusal.Asking.{Asking}
use Rattle.room.specs.Rules.{event_forbids}
use Rattle.station.specs.Effect.{standing_after, sent_at, start_after, last_after, waiting_after, begun, ended, Answer, advised}
use Rattle.station.specs.Station.{Station}
use Rattle.station.specs.declared.event.Answer.TheVariants as answer
pub use Rattle.station.specs.declared.parts.Parts.{Parts}
pub use Rattle.station.specs.declared.parts.Outcome.{Outcome}

-- what an event does to the hold of the profile that it names
abbrev pub sent_change : Request → Hold → Hold
sent_change Hello h = h
sent_change KeepAlive h = h
sent_change (Ask p m) h = h
sent_change (Release p) h = with_mode 0 h
sent_change (Keep p) h = h

abbrev pub acked_change : Ack → Hold → Hold
acked_change Done h = h
acked_change (Granted p m) h = with_mode m.0 h
acked_change (Wait p) h = h
acked_change (InUse p) h = h

abbrev pub hold_change : Event → Hold → Hold
hold_change (Send q) h = sent_change q h
hold_change (Begin p m) h = begun h
hold_change (Edit p) h = with_unwritten true h
hold_change (End p) h = ended h
hold_change (WriteOut p) h = with_unwritten false h
hold_change Restart h = no_hold
hold_change (Acked i k a) h = acked_change a h
hold_change (Nacked i k d) h = h
hold_change (Demand i p m) h = h

-- what it counts up or down has room for it; it has where nothing forbids the event
abbrev pub hold_free : Hold → Event → Bool
hold_free h (Send q) = true
hold_free h (Begin p m) = ltb h.started most_started
hold_free h (Edit p) = true
hold_free h (End p) = ltb 0 h.started
hold_free h (WriteOut p) = true
hold_free h Restart = true
hold_free h (Acked i k a) = true
hold_free h (Nacked i k d) = true
hold_free h (Demand i p m) = true

-- how it is answered; the number is the last one after the event
abbrev pub answer_on : ℕ → Hold → Event → Answer
answer_on number h (Send q) = answer.Sent number q
answer_on number h (Begin p m) = answer.Done
answer_on number h (Edit p) = answer.Done
answer_on number h (End p) = answer.Done
answer_on number h (WriteOut p) = answer.Done
answer_on number h Restart = answer.Done
answer_on number h (Acked i k a) = answer.Done
answer_on number h (Nacked i k d) = answer.Done
answer_on number h (Demand i p m) = answer.Advice (advised h)

abbrev pub parts_with : Station → Hold → Parts
parts_with s h = record { standing = s.standing; start = s.start; last = s.last; waiting = s.waiting; hold = h }

abbrev pub parts_of : Station → ℕ → Parts
parts_of s p = parts_with s (hold_in s.holds p)

-- what 1 to 6 are asked of
abbrev pub asking_of : Station → ℕ → Asking
asking_of s now = record { settings = s.settings; number = s.number; last = s.reading; reading = now }

-- the lease, at an event that they do not refuse
abbrev pub lease_if : Verdict → Settings → Result ℕ Refusal
lease_if (Ok _) z = Ok (lease z)
lease_if (Err r) z = Err r

-- as the event finds them
unfoldable pub arrived_if : Bool → Parts → Parts
arrived_if true x = record { standing = Out; start = 0; last = x.last; waiting = None; hold = no_hold }
arrived_if false x = x

-- 8 to 14
abbrev pub parts_forbid : Settings → ℕ → Parts → ℕ → Event → Verdict
parts_forbid z lease x now e =
    event_forbids (stage_at z x.standing x.start now) x.hold x.waiting lease now x.last e

unfoldable pub parts_after : Parts → ℕ → Event → Parts
parts_after x now e =
    record {
      standing = standing_after x.standing e;
      start = start_after x.start (sent_at x.waiting) e;
      last = last_after x.last e;
      waiting = waiting_after x.waiting now e;
      hold = hold_change e x.hold;
    }

unfoldable pub if_free : Verdict → Parts → ℕ → Event → Outcome
if_free (Ok _) x now e = record { parts = parts_after x now e; answer = answer_on (last_after x.last e) x.hold e }
if_free (Err r) x now e = record { parts = x; answer = answer.Refused r }

abbrev pub outcome_of : Settings → ℕ → Parts → ℕ → Event → Outcome
outcome_of z lease x now e = if_free (parts_forbid z lease x now e) x now e

abbrev pub joined : Settings → ℕ → ℕ → Parts → List Hold → Station
joined z own now x holds =
    record {
      settings = z;
      number = own;
      standing = x.standing;
      start = x.start;
      last = x.last;
      reading = now;
      waiting = x.waiting;
      holds = holds;
    }
