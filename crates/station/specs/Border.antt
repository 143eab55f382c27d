-- The station's borders: from a received message to an event, and from what it sends to its message.
use Rattle.std.specs.Prelude.{Bool, true, false, List, [], ◌∷◌, ℕ, zero, suc, Option, Some, None}
use Rattle.modes.specs.Modes.{mode}
use Rattle.requests.specs.Request.{said_request, message_of}
use Rattle.record.specs.declared.message.Message.{Message}
use Rattle.station.specs.Event.{Ack, Done, Granted, Wait, InUse, Event, Send, Begin, Edit, End, WriteOut, Restart, Acked, Nacked, Demand}
use Rattle.station.specs.Effect.{Answer}
use Rattle.station.specs.declared.event.Answer.TheVariants as answer

-- "6 ACK: detail 0 done .., 1 granted .., 2 wait or 3 in use"; the record has no other detail
abbrev pub ack_as : ℕ → Message → Option Event
ack_as zero m = Some (Acked m.station m.number Done)
ack_as (suc zero) m = Some (Acked m.station m.number (Granted m.profile (mode m.mode)))
ack_as (suc (suc zero)) m = Some (Acked m.station m.number (Wait m.profile))
ack_as (suc (suc (suc zero))) m = Some (Acked m.station m.number (InUse m.profile))
ack_as (suc (suc (suc (suc n)))) m = None

-- "only 6 to 8 to a room": 6 ACK, 7 NACK, 8 demand
abbrev pub meant_as : ℕ → Message → Option Event
meant_as (suc (suc (suc (suc (suc (suc zero)))))) m = ack_as m.detail m
meant_as (suc (suc (suc (suc (suc (suc (suc zero))))))) m = Some (Nacked m.station m.number m.detail)
meant_as (suc (suc (suc (suc (suc (suc (suc (suc zero)))))))) m = Some (Demand m.station m.profile (mode m.mode))
meant_as zero m = None
meant_as (suc zero) m = None
meant_as (suc (suc zero)) m = None
meant_as (suc (suc (suc zero))) m = None
meant_as (suc (suc (suc (suc zero)))) m = None
meant_as (suc (suc (suc (suc (suc zero))))) m = None
meant_as (suc (suc (suc (suc (suc (suc (suc (suc (suc n))))))))) m = None

unfoldable pub event_of : Message → Option Event
event_of m = meant_as m.kind m

-- an event in the paper's numbers: whether there is one; the fields of its message; and for what is no message from the server,
-- which no border gives, which of the room's own events it is (1 to 6; 0 for a message)
pub record SaidMeant : Type 0 where
  pub good : Bool
  pub own : ℕ
  pub kind : ℕ
  pub station : ℕ
  pub number : ℕ
  pub profile : ℕ
  pub mode : ℕ
  pub detail : ℕ

abbrev pub said_as : ℕ → ℕ → ℕ → ℕ → ℕ → ℕ → ℕ → SaidMeant
said_as own kind station number profile mode detail =
    record {
      good = true;
      own = own;
      kind = kind;
      station = station;
      number = number;
      profile = profile;
      mode = mode;
      detail = detail;
    }

abbrev pub said_ack : ℕ → ℕ → Ack → SaidMeant
said_ack i k Done = said_as 0 6 i k 255 0 0
said_ack i k (Granted p m) = said_as 0 6 i k p m.0 1
said_ack i k (Wait p) = said_as 0 6 i k p 0 2
said_ack i k (InUse p) = said_as 0 6 i k p 0 3

abbrev pub said_event : Event → SaidMeant
said_event (Send q) = said_as 1 (said_request q).kind 0 0 (said_request q).profile (said_request q).mode 0
said_event (Begin p m) = said_as 2 0 0 0 p m.0 0
said_event (Edit p) = said_as 3 0 0 0 p 0 0
said_event (End p) = said_as 4 0 0 0 p 0 0
said_event (WriteOut p) = said_as 5 0 0 0 p 0 0
said_event Restart = said_as 6 0 0 0 0 0 0
said_event (Acked i k a) = said_ack i k a
said_event (Nacked i k d) = said_as 0 7 i k 255 0 d
said_event (Demand i p m) = said_as 0 8 i 0 p m.0 0

abbrev pub said_meant : Option Event → SaidMeant
said_meant (Some e) = said_event e
said_meant None =
    record { good = false; own = 0; kind = 0; station = 0; number = 0; profile = 0; mode = 0; detail = 0 }

-- what an answer sends
unfoldable pub sent_by : ℕ → Answer → List Message
sent_by own answer.Done = []
sent_by own (answer.Sent number q) = message_of own number q ∷ []
sent_by own (answer.Advice a) = []
sent_by own (answer.Refused r) = []
