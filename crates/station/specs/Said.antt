-- Answers in the paper's numbers and values.
use Rattle.std.specs.Prelude.{Bool, true, false, ℕ, Option, Some, None, Result, Ok, Err}
use Rattle.refusals.specs.Refusal.{number}
use Rattle.refusals.specs.declared.Refusal.{Refusal}
use Rattle.timing.specs.declared.settings.Phase.{Phase}
use Rattle.timing.specs.Phase.{phase_number}
use Rattle.requests.specs.Request.{said_request}
use Rattle.station.specs.Effect.{Advice, Answer}
use Rattle.station.specs.Station.{Station, Stepped}
use Rattle.station.specs.declared.event.Advice.TheVariants as advice
use Rattle.station.specs.declared.event.Answer.TheVariants as answer

-- whether it is no refusal; the refusal; kind, number, profile, mode and detail of the message sent (kind 0: none is sent);
-- the advice: 1 keep, 2 write out first, 3 release
pub record Said : Type 0 where
  pub good : Bool
  pub refusal : ℕ
  pub kind : ℕ
  pub number : ℕ
  pub profile : ℕ
  pub mode : ℕ
  pub detail : ℕ
  pub advice : ℕ

-- no message
abbrev pub silent : Bool → ℕ → ℕ → Said
silent good refusal advice =
    record {
      good = good;
      refusal = refusal;
      kind = 0;
      number = 0;
      profile = 0;
      mode = 0;
      detail = 0;
      advice = advice;
    }

abbrev pub message : ℕ → ℕ → ℕ → ℕ → Said
message kind number profile mode =
    record {
      good = true;
      refusal = 0;
      kind = kind;
      number = number;
      profile = profile;
      mode = mode;
      detail = 0;
      advice = 0;
    }

abbrev pub said_advice : Advice → ℕ
said_advice advice.Keep = 1
said_advice advice.WriteOut = 2
said_advice advice.Release = 3

-- "All values beside a refusal are 0, save the lost mask and count with 8 to 14."
abbrev pub said : Answer → Said
said answer.Done = silent true 0 0
said (answer.Sent n q) = message (said_request q).kind n (said_request q).profile (said_request q).mode
said (answer.Advice v) = silent true 0 (said_advice v)
said (answer.Refused r) = silent false (number r) 0

-- what an event leaves behind: the whole station, the answer, the lost profiles and their count
pub record Told : Type 0 where
  pub station : Station
  pub answer : Said
  pub lost : ℕ
  pub count : ℕ

abbrev pub told : Stepped → Told
told r = record { station = r.station; answer = said r.answer; lost = r.lost; count = r.count }

-- "1 to 4, or out"
pub record SaidPhase : Type 0 where
  pub good : Bool
  pub refusal : ℕ
  pub out : Bool
  pub phase : ℕ

abbrev pub said_phase : Result (Option Phase) Refusal → SaidPhase
said_phase (Ok (Some f)) = record { good = true; refusal = 0; out = false; phase = phase_number f }
said_phase (Ok None) = record { good = true; refusal = 0; out = true; phase = 0 }
said_phase (Err r) = record { good = false; refusal = number r; out = false; phase = 0 }

pub record SaidUse : Type 0 where
  pub good : Bool
  pub refusal : ℕ
  pub yes : Bool

abbrev pub said_use : Result Bool Refusal → SaidUse
said_use (Ok b) = record { good = true; refusal = 0; yes = b }
said_use (Err r) = record { good = false; refusal = number r; yes = false }
