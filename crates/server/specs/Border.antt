-- The server's borders: from a received message to an event, and from an answer to the messages that it sends.
use Rattle.std.specs.Prelude.{Bool, true, false, List, [], ◌∷◌, ℕ, zero, suc, ◌/◌, ◌%◌, eqb, Option, Some, None}
use Rattle.timing.specs.Limits.{most_stations}
use Rattle.record.specs.declared.message.Message.{Message}
use Rattle.record.specs.Message.{message}
use Rattle.requests.specs.Request.{request_of, said_request}
use Rattle.server.specs.Event.{Request, Event, Message as Says, Tick, Answer, Done, Granted, Wait, InUse, Nack, Ticked, Refused}
use Rattle.profiles.specs.Said.{Said, said}

-- "Only kinds 1 to 5 can be put to a server"
abbrev pub meant_by : Message → Option Request → Option Event
meant_by m (Some q) = Some (Says m.station m.number q)
meant_by m None = None

unfoldable pub event_of : Message → Option Event
event_of m = meant_by m (request_of m)

-- an event in the paper's numbers: whether there is one; kind, station, number, profile and mode of its message (kind 0: a tick)
pub record SaidMeant : Type 0 where
  pub good : Bool
  pub kind : ℕ
  pub station : ℕ
  pub number : ℕ
  pub profile : ℕ
  pub mode : ℕ

abbrev pub said_meant : Option Event → SaidMeant
said_meant (Some (Says i k q)) =
    record {
      good = true;
      kind = (said_request q).kind;
      station = i;
      number = k;
      profile = (said_request q).profile;
      mode = (said_request q).mode;
    }
said_meant (Some Tick) = record { good = true; kind = 0; station = 0; number = 0; profile = 0; mode = 0 }
said_meant None = record { good = false; kind = 0; station = 0; number = 0; profile = 0; mode = 0 }

abbrev pub first_if : Bool → Message → List Message → List Message
first_if true m rest = m ∷ rest
first_if false m rest = rest

-- "8 demand: number 0, profile, mode 2 to 6, 0", to each station of a mask from station j on, in station order
abbrev pub demands_from : ℕ → ℕ → ℕ → ℕ → ℕ → List Message
demands_from zero j mask profile wanted = []
demands_from (suc n) j mask profile wanted =
    first_if (eqb (mask % 2) 1) (message 8 j 0 profile wanted 0) (demands_from n (suc j) (mask / 2) profile wanted)

-- the ACK or NACK to message `number` of a station, as the answer says it
abbrev pub reply_to : ℕ → ℕ → Said → Message
reply_to station number s = message s.kind station number s.profile s.mode s.detail

-- the answer to message `number` of a station: the ACK or NACK first, then the demands in station order
unfoldable pub sent_for : ℕ → ℕ → Answer → List Message
sent_for station number Done = reply_to station number (said Done) ∷ []
sent_for station number (Granted p m) = reply_to station number (said (Granted p m)) ∷ []
sent_for station number (Wait p m mask count) =
    reply_to station number (said (Wait p m mask count)) ∷ demands_from most_stations 0 mask p m.0
sent_for station number (InUse p) = reply_to station number (said (InUse p)) ∷ []
sent_for station number (Nack d) = reply_to station number (said (Nack d)) ∷ []
sent_for station number (Ticked freed started) = []
sent_for station number (Refused n) = []
