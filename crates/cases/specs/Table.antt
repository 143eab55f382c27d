-- 'Checked by hand', the rows marked (P): one table, about the definitions that the contracts cite.
use Rattle.std.specs.Prelude.{◌≡◌, List, [], ◌∷◌, ◌++◌, ℕ, ℤ, pos, negsuc, Ok}
use Rattle.modes.specs.Modes.{mode, R, W, X}
use Rattle.timing.specs.declared.settings.Settings.{Settings}
use Rattle.timing.specs.Settings.{settings, wait}
use Rattle.timing.specs.Lease.{left_of}
use Rattle.record.specs.declared.message.Message.{Message}
use Rattle.writer.specs.Put.{bytes_of}
use Rattle.server.specs.declared.server.Server.{Server}
use Rattle.profiles.specs.declared.answer.Answer.{Answer}
use Rattle.profiles.specs.declared.answer.Answer.TheVariants.{Wait, Ticked}
use Rattle.judging.specs.declared.event.Event.{Event}
use Rattle.judging.specs.declared.event.Event.TheVariants.{Message as Says, Tick}
use Rattle.requests.specs.declared.Request.TheVariants.{Hello, KeepAlive, Ask}
use Rattle.server.specs.State.{new_server}
use Rattle.server.specs.Step.{step}
use Rattle.holds.specs.declared.stage.Standing.TheVariants.{Open}
use Rattle.holds.specs.Stage.{phase_at}

-- settings of these four lengths and this rate allowance; answer time 5, two stations, one profile
abbrev pub with : ℕ → ℕ → ℕ → ℕ → ℕ → ℕ → Settings
with p1 p2 p3 p4 n d = settings p1 p2 p3 p4 n d 5 2 1

-- "Phases 4,2,2,2"; "Same phases, 1/10, R 5."
abbrev pub usual : Settings
usual = with 4 2 2 2 1 10

pub record Occurs : Type 0 where
  pub reading : ℕ
  pub event : Event

abbrev pub at : ℕ → Event → Occurs
at t e = record { reading = t; event = e }

-- the server after a row of events, the first of the list first
abbrev pub served : Server → List Occurs → Server
served s [] = s
served s (o ∷ os) = served (step (wait usual) s o.reading o.event).server os

pub data Row : Type 0 where
  -- the wait of settings
  waits : Settings → ℕ → Row
  -- the phase at a reading, 0 for out, from a lease that starts at 100
  phase : ℕ → ℕ → Row
  -- the ticks left at a reading, of a lease that starts at 100
  left : ℕ → ℤ → Row
  -- a message's bytes
  bytes : Message → List ℕ → Row
  -- what an event is answered, after others
  answered : List Occurs → ℕ → Event → Answer → Row

abbrev pub Holds : Row → Type 0
Holds (waits z w) = wait z ≡ w
Holds (phase now n) = phase_at usual Open 100 now ≡ n
Holds (left now z) = left_of 100 10 now ≡ Ok z
Holds (bytes m bs) = bytes_of m ≡ bs
Holds (answered before now e a) = (step (wait usual) (served (new_server usual) before) now e).answer ≡ a

-- "At 0 both stations say hello; 0 is granted X on profile 0."
abbrev pub opening : List Occurs
opening = at 0 (Says 0 1 Hello) ∷ at 0 (Says 1 1 Hello) ∷ at 0 (Says 0 2 (Ask 0 (mode X))) ∷ []

-- ".. At 3 station 1 asks R .. Ticks 4 to 7"
abbrev pub asked : List Occurs
asked =
    opening ++ (at 3 (Says 1 2 (Ask 0 (mode R))) ∷ at 4 Tick ∷ at 5 Tick ∷ at 6 Tick ∷ at 7 Tick ∷ [])

-- ".. Tick 8 .. Its keep-alive at 9"
abbrev pub late : List Occurs
late = asked ++ (at 8 Tick ∷ at 9 (Says 0 3 KeepAlive) ∷ [])

unfoldable pub table : List Row
table =
    waits (with 1 1 1 1 1 3) 7
    ∷ waits usual 12
    ∷ waits (with 4 1 1 1 1 10) 9
    ∷ waits (with 2500 2500 2500 2500 0 1) 10001
    ∷ phase 103 1
    ∷ phase 106 3
    ∷ phase 108 4
    ∷ phase 109 4
    ∷ phase 110 0
    ∷ left 110 (pos 0)
    ∷ left 111 (negsuc 0)
    ∷ bytes (record { kind = 3; station = 3; number = 258; profile = 5; mode = W; detail = 0 })
    (0xB7 ∷ 0x1E ∷ 0x03 ∷ 0x03 ∷ 0x00 ∷ 0x00 ∷ 0x01 ∷ 0x02 ∷ 0x05 ∷ 0x04 ∷ 0x00 ∷ [])
    ∷ answered opening 3 (Says 1 2 (Ask 0 (mode R))) (Wait 0 (mode R) 1 1)
    ∷ answered asked 8 Tick (Ticked 0 1)
    ∷ answered late 19 Tick (Ticked 0 0)
    ∷ []

-- every row of a table holds
abbrev pub Every : List Row → Type 0
Every [] = Unit {0}
Every (r ∷ rs) = Holds r × Every rs
