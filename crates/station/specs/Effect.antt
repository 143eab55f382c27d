-- What an event that nothing forbids does to each part of a station, and what is answered.
use Rattle.std.specs.Prelude.{Bool, true, false, cond, List, ℕ, ◌+◌, ◌-◌, ltb, Option, Some, None}
use Rattle.station.specs.Event.{Request, Hello, KeepAlive, Ask, Release, Keep, Sent, Ack, Done, Granted, Wait, InUse, Event, Send, Begin, Edit, End, WriteOut, Restart, Acked, Nacked, Demand, Hold, Standing, Out, Open, Closing}
use Rattle.room.specs.Rules.{last_number}
use Rattle.holds.specs.Hold.{no_holds, hold_in, with_mode, with_started, with_unwritten, changed}
pub use Rattle.station.specs.declared.event.Advice.{Advice}
use Rattle.station.specs.declared.event.Advice.TheVariants as advice
pub use Rattle.station.specs.declared.event.Answer.{Answer}
use Rattle.station.specs.declared.event.Answer.TheVariants as answer

-- "an open station is closing, one that is out stays out"
abbrev pub nacked : Standing → Standing
nacked Out = Out
nacked Open = Closing
nacked Closing = Closing

-- "ACK of the waiting message: .. the station is open"; "Restart: out"
abbrev pub standing_after : Standing → Event → Standing
standing_after σ (Send q) = σ
standing_after σ (Begin p m) = σ
standing_after σ (Edit p) = σ
standing_after σ (End p) = σ
standing_after σ (WriteOut p) = σ
standing_after σ Restart = Out
standing_after σ (Acked i k a) = Open
standing_after σ (Nacked i k d) = nacked σ
standing_after σ (Demand i p m) = σ

abbrev pub sent_at : Option Sent → ℕ
sent_at None = 0
sent_at (Some w) = w.at

-- "the lease starts at that message's sending": `sent` is when the waiting one was
abbrev pub start_after : ℕ → ℕ → Event → ℕ
start_after start sent (Send q) = start
start_after start sent (Begin p m) = start
start_after start sent (Edit p) = start
start_after start sent (End p) = start
start_after start sent (WriteOut p) = start
start_after start sent Restart = 0
start_after start sent (Acked i k a) = sent
start_after start sent (Nacked i k d) = start
start_after start sent (Demand i p m) = start

-- "Each message sent takes the next number"; "A number is never used twice, restarts included."
abbrev pub last_after : ℕ → Event → ℕ
last_after last (Send q) = last + 1
last_after last (Begin p m) = last
last_after last (Edit p) = last
last_after last (End p) = last
last_after last (WriteOut p) = last
last_after last Restart = last
last_after last (Acked i k a) = last
last_after last (Nacked i k d) = last
last_after last (Demand i p m) = last

-- ".. and becomes the waiting one in place of any other"; an ACK or a NACK of it: "nothing waits"
abbrev pub waiting_after : Option Sent → ℕ → Event → Option Sent
waiting_after w now (Send q) = Some (record { request = q; at = now })
waiting_after w now (Begin p m) = w
waiting_after w now (Edit p) = w
waiting_after w now (End p) = w
waiting_after w now (WriteOut p) = w
waiting_after w now Restart = None
waiting_after w now (Acked i k a) = None
waiting_after w now (Nacked i k d) = None
waiting_after w now (Demand i p m) = w

-- "Release drops mode at sending"
abbrev pub holds_sent : List Hold → Request → List Hold
holds_sent holds Hello = holds
holds_sent holds KeepAlive = holds
holds_sent holds (Ask p m) = holds
holds_sent holds (Release p) = changed (with_mode 0) p holds
holds_sent holds (Keep p) = holds

-- "Granted sets the mode."
abbrev pub holds_acked : List Hold → Ack → List Hold
holds_acked holds Done = holds
holds_acked holds (Granted p m) = changed (with_mode m.0) p holds
holds_acked holds (Wait p) = holds
holds_acked holds (InUse p) = holds

-- one operation more, or less
abbrev pub begun : Hold → Hold
begun h = with_started (h.started + 1) h

abbrev pub ended : Hold → Hold
ended h = with_started (h.started - 1) h

-- Edit "sets unwritten"; write out "clears unwritten"; restart: "all else but number and reading gone"
abbrev pub holds_after : List Hold → Event → List Hold
holds_after holds (Send q) = holds_sent holds q
holds_after holds (Begin p m) = changed begun p holds
holds_after holds (Edit p) = changed (with_unwritten true) p holds
holds_after holds (End p) = changed ended p holds
holds_after holds (WriteOut p) = changed (with_unwritten false) p holds
holds_after holds Restart = no_holds
holds_after holds (Acked i k a) = holds_acked holds a
holds_after holds (Nacked i k d) = holds
holds_after holds (Demand i p m) = holds

-- "advice keep if operations are started, else write out first if unwritten, else release"
unfoldable pub advised : Hold → Advice
advised h = cond (ltb 0 h.started) advice.Keep (cond h.unwritten advice.WriteOut advice.Release)

-- the number is the last one after the event
abbrev pub answer_to : ℕ → List Hold → Event → Answer
answer_to number holds (Send q) = answer.Sent number q
answer_to number holds (Begin p m) = answer.Done
answer_to number holds (Edit p) = answer.Done
answer_to number holds (End p) = answer.Done
answer_to number holds (WriteOut p) = answer.Done
answer_to number holds Restart = answer.Done
answer_to number holds (Acked i k a) = answer.Done
answer_to number holds (Nacked i k d) = answer.Done
answer_to number holds (Demand i p m) = answer.Advice (advised (hold_in holds p))

-- there is a number for what the event sends; there is where nothing forbids the event
abbrev pub number_free : ℕ → Event → Bool
number_free last (Send q) = ltb last last_number
number_free last (Begin p m) = true
number_free last (Edit p) = true
number_free last (End p) = true
number_free last (WriteOut p) = true
number_free last Restart = true
number_free last (Acked i k a) = true
number_free last (Nacked i k d) = true
number_free last (Demand i p m) = true
