-- Refusals 8 to 14 of each event, in rising order.
use Rattle.std.specs.Prelude.{Bool, true, false, cond, ◌&&◌, ◌||◌, not, ℕ, eqb, ltb, Option, Some, None, Result, Ok, Err}
use Rattle.refusals.specs.Refusal.{Verdict, or_else}
use Rattle.refusals.specs.declared.Refusal.{Refusal}
use Rattle.refusals.specs.declared.Refusal.TheVariants as refused
use Rattle.modes.specs.Modes.{covers, writes}
use Rattle.requests.specs.Request.{profile_of}
use Rattle.room.specs.Event.{Request, Hello, KeepAlive, Ask, Release, Keep, Sent, Ack, Done, Granted, Wait, InUse, Event, Send, Begin, Edit, End, WriteOut, Restart, Acked, Nacked, Demand}
use Rattle.holds.specs.declared.hold.Hold.{Hold}
use Rattle.holds.specs.Hold.{most_started}
use Rattle.holds.specs.declared.stage.Stage.{Stage}
use Rattle.timing.specs.Reading.{passed}

abbrev pub last_number : ℕ
last_number = 4_294_967_295

-- 13: "number 4,294,967,295 is used"
abbrev pub number_refusal : ℕ → Verdict
number_refusal last = cond (ltb last last_number) (Ok tt) (Err refused.NumbersUsed)

-- 12: "release: started or unwritten"
abbrev pub release_refusal : Hold → Verdict
release_refusal h = cond (ltb 0 h.started || h.unwritten) (Err refused.StillUsed) (Ok tt)

-- 11: "none where one is needed"
abbrev pub started_refusal : Hold → Verdict
started_refusal h = cond (ltb 0 h.started) (Ok tt) (Err refused.OperationCount)

-- 8: "the station is out"; 9: "phase or state forbids it". "Ask, keep-alive, release, keep: open, phase 1 or 2."
abbrev pub sending_refusal : Stage → Verdict → ℕ → Verdict
sending_refusal stage own last =
    cond stage.out (Err refused.Out) (cond stage.early (or_else own (number_refusal last)) (Err refused.PhaseForbids))

-- "Hello: out only."
abbrev pub hello_refusal : Stage → ℕ → Verdict
hello_refusal stage last = cond stage.out (number_refusal last) (Err refused.PhaseForbids)

-- "Release .. needs no started operation and nothing unwritten; a profile not held may be released. Keep needs a started operation."
unfoldable pub send_refusal : Stage → Hold → ℕ → Request → Verdict
send_refusal stage h last Hello = hello_refusal stage last
send_refusal stage h last KeepAlive = sending_refusal stage (Ok tt) last
send_refusal stage h last (Ask p m) = sending_refusal stage (Ok tt) last
send_refusal stage h last (Release p) = sending_refusal stage (release_refusal h) last
send_refusal stage h last (Keep p) = sending_refusal stage (started_refusal h) last

-- "Begin an operation in a mode: phase 1 or 2, held mode covers it, fewer than 255 started."
unfoldable pub begin_refusal : Stage → Hold → ℕ → Verdict
begin_refusal stage h m =
    cond stage.out (Err refused.Out)
    (cond stage.early
    (cond (covers h.mode.0 m) (cond (ltb h.started most_started) (Ok tt) (Err refused.OperationCount)) (Err refused.ModeForbids))
    (Err refused.PhaseForbids))

-- "Edit: up to phase 3, a writing mode, a started operation"
unfoldable pub edit_refusal : Stage → Hold → Verdict
edit_refusal stage h =
    cond stage.out (Err refused.Out)
    (cond stage.not_late (cond (writes h.mode.0) (started_refusal h) (Err refused.ModeForbids)) (Err refused.PhaseForbids))

-- "End: any phase, a started operation."
unfoldable pub end_refusal : Stage → Hold → Verdict
end_refusal stage h = cond stage.out (Err refused.Out) (started_refusal h)

-- "Write out: any phase, a writing mode"
unfoldable pub write_out_refusal : Stage → Hold → Verdict
write_out_refusal stage h = cond stage.out (Err refused.Out) (cond (writes h.mode.0) (Ok tt) (Err refused.ModeForbids))

-- "Demand, phase 1 or 2, profile held or not"
unfoldable pub demand_refusal : Stage → Verdict
demand_refusal stage = cond stage.out (Err refused.Out) (cond stage.early (Ok tt) (Err refused.PhaseForbids))

-- "An ACK fits if it is done for hello, keep-alive, release, keep"
abbrev pub is_done : Ack → Bool
is_done Done = true
is_done (Granted p m) = false
is_done (Wait p) = false
is_done (InUse p) = false

-- "or wait or in use for the asked profile; or granted for it in a mode covering the held and the asked one"
abbrev pub fits_ask : ℕ → ℕ → ℕ → Ack → Bool
fits_ask asked wanted held Done = false
fits_ask asked wanted held (Granted p m) = eqb p asked && covers m.0 held && covers m.0 wanted
fits_ask asked wanted held (Wait p) = eqb p asked
fits_ask asked wanted held (InUse p) = eqb p asked

unfoldable pub fits : Request → ℕ → Ack → Bool
fits Hello held a = is_done a
fits KeepAlive held a = is_done a
fits (Ask p m) held a = fits_ask p m.0 held a
fits (Release p) held a = is_done a
fits (Keep p) held a = is_done a

-- the profile that an ACK names; 0 where it names none, and then its mode does not matter
abbrev pub ack_profile : Ack → ℕ
ack_profile Done = 0
ack_profile (Granted p m) = p
ack_profile (Wait p) = p
ack_profile (InUse p) = p

-- the message that waits, where it has the number; it has the last one
abbrev pub awaited : Option Sent → ℕ → ℕ → Result Sent Refusal
awaited None last k = Err refused.NotAwaited
awaited (Some s) last k = cond (eqb k last) (Ok s) (Err refused.NotAwaited)

-- 14: "no message waits, another number, an ACK that does not fit, or the ACK's message was sent L or more ticks ago".
unfoldable pub ack_forbids : Option Sent → ℕ → ℕ → ℕ → ℕ → ℕ → Ack → Verdict
ack_forbids None lease now last k held a = Err refused.NotAwaited
ack_forbids (Some s) lease now last k held a =
    cond (eqb k last && fits s.request held a && not (passed s.at lease now)) (Ok tt) (Err refused.NotAwaited)

unfoldable pub nack_forbids : Option Sent → ℕ → ℕ → Verdict
nack_forbids None last k = Err refused.NotAwaited
nack_forbids (Some s) last k = cond (eqb k last) (Ok tt) (Err refused.NotAwaited)

-- the profile that an event names; 0 where it names none, and then what is held there does not matter
abbrev pub profile_for : Event → ℕ
profile_for (Send q) = profile_of q
profile_for (Begin p m) = p
profile_for (Edit p) = p
profile_for (End p) = p
profile_for (WriteOut p) = p
profile_for Restart = 0
profile_for (Acked i k a) = ack_profile a
profile_for (Nacked i k d) = 0
profile_for (Demand i p m) = p

-- 8 to 14; `h` is what the room has on the profile that the event names
abbrev pub event_forbids : Stage → Hold → Option Sent → ℕ → ℕ → ℕ → Event → Verdict
event_forbids stage h w lease now last (Send q) = send_refusal stage h last q
event_forbids stage h w lease now last (Begin p m) = begin_refusal stage h m.0
event_forbids stage h w lease now last (Edit p) = edit_refusal stage h
event_forbids stage h w lease now last (End p) = end_refusal stage h
event_forbids stage h w lease now last (WriteOut p) = write_out_refusal stage h
event_forbids stage h w lease now last Restart = Ok tt
event_forbids stage h w lease now last (Acked i k a) = ack_forbids w lease now last k h.mode.0 a
event_forbids stage h w lease now last (Nacked i k d) = nack_forbids w last k
event_forbids stage h w lease now last (Demand i p m) = demand_refusal stage
