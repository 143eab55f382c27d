-- The network picture: one server, its rooms, and all that was ever sent. Nothing is modelled a second time: server and rooms are
-- the engines' own steps, and what travels is the message of the record.
use Rattle.std.specs.Prelude.{cond, List, [], ◌∷◌, ◌++◌, ℕ, eqb, Option, Some, None}
use Rattle.record.specs.declared.message.Message.{Message}
use Rattle.timing.specs.declared.settings.Settings.{Settings}
use Rattle.server.specs.declared.server.Server.{Server}
use Rattle.server.specs.declared.server.Served.{Served}
use Rattle.server.specs.Event.{Event as ServerEvent, Tick}
use Rattle.server.specs.State.{new_server}
use Rattle.server.specs.Step.{step as server_step}
use Rattle.server.specs.Border.{sent_for, event_of as server_event}
use Rattle.station.specs.declared.station.Station.{Station}
use Rattle.station.specs.declared.station.Stepped.{Stepped}
use Rattle.station.specs.Event.{Event}
use Rattle.station.specs.Station.{new_station, step as room_step}
use Rattle.station.specs.Border.{sent_by, event_of as room_event}

-- The server, the room of each number, and every message ever sent, up to the server and down to the rooms. What is sent stays:
-- the network may lose, delay, repeat or reorder, so a message may come at any later moment, any number of times, or never.
pub record World : Type 0 where
  pub server : Server
  pub rooms : ℕ → Station
  pub up : List Message
  pub down : List Message

-- "same settings, own numbers"
unfoldable pub world_at_first : Settings → World
world_at_first z = record { server = new_server z; rooms = λ (i : ℕ). new_station z i; up = []; down = [] }

-- What can happen at a moment: nothing; a tick of the server; a message reaches the server; a message reaches room i;
-- the people in room i do something (send, begin, edit, end, write out, restart); room i asks one of its two questions.
pub data Happening : Type 0 where
  nothing : Happening
  ticks : Happening
  hears : Message → Happening
  gets : ℕ → Message → Happening
  does : ℕ → Event → Happening
  asks : ℕ → Happening

-- A moment: what the server's clock and the clock of each room read, and what happens.
pub record Moment : Type 0 where
  pub server : ℕ
  pub rooms : ℕ → ℕ
  pub what : Happening

abbrev pub with_server : World → Served → List Message → World
with_server w x sent = record { server = x.server; rooms = w.rooms; up = w.up; down = sent ++ w.down }

abbrev pub with_room : World → ℕ → Stepped → World
with_room w i x =
    record {
      server = w.server;
      rooms = λ (j : ℕ). cond (eqb j i) x.station (w.rooms j);
      up = sent_by x.station.number x.answer ++ w.up;
      down = w.down;
    }

-- the server takes a message of its kinds, and drops any other
abbrev pub hearing : ℕ → World → ℕ → Message → Option ServerEvent → World
hearing wait w now m (Some e) =
    with_server w (server_step wait w.server now e) (sent_for m.station m.number (server_step wait w.server now e).answer)
hearing wait w now m None = w

-- and so does a room
abbrev pub getting : World → ℕ → ℕ → Option Event → World
getting w i now (Some e) = with_room w i (room_step (w.rooms i) now e)
getting w i now None = w

-- "true readings": each engine is told what its own clock reads at that moment
unfoldable pub next : ℕ → World → Moment → Happening → World
next wait w t nothing = w
next wait w t ticks = with_server w (server_step wait w.server t.server Tick) []
next wait w t (hears m) = hearing wait w t.server m (server_event m)
next wait w t (gets i m) = getting w i (t.rooms i) (room_event m)
next wait w t (does i e) = with_room w i (room_step (w.rooms i) (t.rooms i) e)
next wait w t (asks i) = w

-- A history is a list of moments, the latest first. The wait is a parameter: the theorems speak of W and of one tick less.
unfoldable pub run : Settings → ℕ → List Moment → World
run z wait [] = world_at_first z
run z wait (t ∷ h) = next wait (run z wait h) t t.what
