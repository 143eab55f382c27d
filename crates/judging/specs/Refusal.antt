-- Refusals 1 to 6 of the server, the lowest first.
use Rattle.std.specs.Prelude.{cond, ℕ, leb, Ok, Err}
use Rattle.refusals.specs.Refusal.{Verdict, or_else}
use Rattle.refusals.specs.declared.Refusal.TheVariants as refused
use Rattle.timing.specs.declared.settings.Settings.{Settings}
use Rattle.timing.specs.Settings.{in_range}
use Rattle.timing.specs.Reading.{reading_refusal}
use Rattle.requests.specs.Request.{request_refusal}
use Rattle.judging.specs.Event.{Event, Message, Tick}

-- 2: "station .. out of range"
abbrev pub event_refusal : Settings → Event → Verdict
event_refusal z (Message i k q) = cond (leb z.stations i) (Err refused.Station) (request_refusal z.profiles q)
event_refusal z Tick = Ok tt

-- 1: "a setting out of range"
unfoldable pub refusal : Settings → ℕ → ℕ → Event → Verdict
refusal z last now e = cond (in_range z) (or_else (event_refusal z e) (reading_refusal last now)) (Err refused.Settings)
