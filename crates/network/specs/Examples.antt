-- Histories that are permitted, so that no claim about all of them is empty. Phases 4, 2, 2, 2, so the lease is 10; allowance 1/10,
-- so the wait is 12; answer time 5; two stations, one profile. All clocks read the same, except in the last. A history stands latest first.
use Rattle.std.specs.Prelude.{◌≡◌, true, false, List, [], ◌∷◌, ℕ, ◌+◌, Some, None, Ok}
use Rattle.modes.specs.Modes.{mode, R, X}
use Rattle.record.specs.declared.message.Message.{Message}
use Rattle.timing.specs.declared.settings.Settings.{Settings}
use Rattle.timing.specs.Settings.{settings, wait}
use Rattle.timing.specs.declared.settings.Phase.TheVariants.{Third}
use Rattle.server.specs.State.{Unknown, TimingOut, status_of, mode_of as granted_to}
use Rattle.station.specs.Event.{Closing, Hello, KeepAlive, Ask, Release, Send, Begin, Edit, End, WriteOut, Demand}
use Rattle.station.specs.declared.event.Advice.TheVariants as advice
use Rattle.station.specs.declared.event.Answer.TheVariants as answer
use Rattle.station.specs.Station.{mode_of, unwritten_of, phase_asked, may_use, step}
use Rattle.record.specs.Message.{message}
use Rattle.network.specs.Picture.{World, Happening, ticks, hears, gets, does, Moment, run}
use Rattle.network.specs.Premises.{Permitted}

abbrev pub small : Settings
small = settings 4 2 2 2 1 10 5 2 1

-- all clocks read t
abbrev pub at : ℕ → Happening → Moment
at t e = record { server = t; rooms = λ (i : ℕ). t; what = e }

abbrev pub after : List Moment → World
after h = run small (wait small) h

-- the messages: station, number, and on profile 0 a mode
abbrev pub hello : ℕ → ℕ → Message
hello i k = message 1 i k 255 0 0

abbrev pub alive : ℕ → ℕ → Message
alive i k = message 2 i k 255 0 0

abbrev pub asked : ℕ → ℕ → ℕ → Message
asked i k m = message 3 i k 0 m 0

abbrev pub releases : ℕ → ℕ → Message
releases i k = message 4 i k 0 0 0

abbrev pub done : ℕ → ℕ → Message
done i k = message 6 i k 255 0 0

abbrev pub granted : ℕ → ℕ → ℕ → Message
granted i k m = message 6 i k 0 m 1

abbrev pub waits : ℕ → ℕ → Message
waits i k = message 6 i k 0 0 2

abbrev pub nack : ℕ → ℕ → ℕ → Message
nack i k detail = message 7 i k 255 0 detail

abbrev pub demand : ℕ → ℕ → Message
demand i m = message 8 i 0 0 m 0

-- station 0 says hello at 0
abbrev pub greeted : List Moment
greeted = at 0 (gets 0 (done 0 1)) ∷ at 0 (hears (hello 0 1)) ∷ at 0 (does 0 (Send Hello)) ∷ []

-- and is granted X; then station 1 says hello
abbrev pub holding : List Moment
holding =
    at 0 (gets 1 (done 1 1)) ∷ at 0 (hears (hello 1 1)) ∷ at 0 (does 1 (Send Hello))
    ∷ at 0 (gets 0 (granted 0 2 X)) ∷ at 0 (hears (asked 0 2 X)) ∷ at 0 (does 0 (Send (Ask 0 (mode X))))
    ∷ greeted

-- 1: "a lease renewed by an ACK". The keep-alive is sent at 5, and its ACK comes at 6.
abbrev pub renewed : List Moment
renewed = at 6 (gets 0 (done 0 2)) ∷ at 5 (hears (alive 0 2)) ∷ at 5 (does 0 (Send KeepAlive)) ∷ greeted

pub record Renewed : Type 0 where
  pub permitted : Permitted small (wait small) renewed
  pub first_start : ((after greeted).rooms 0).start ≡ 0
  pub out_without : phase_asked ((after greeted).rooms 0) 12 ≡ Ok None
  pub new_start : ((after renewed).rooms 0).start ≡ 5
  pub lasts : phase_asked ((after renewed).rooms 0) 12 ≡ Ok (Some Third)

-- 2: "a demand answered by a release and the mode granted to the other". Station 1 asks R at 1 and is to wait;
-- the demand reaches room 0 at 2, which releases at 3; station 1 asks again at 4.
abbrev pub demanded : List Moment
demanded =
    at 1 (gets 1 (waits 1 2)) ∷ at 1 (hears (asked 1 2 R)) ∷ at 1 (does 1 (Send (Ask 0 (mode R))))
    ∷ holding

abbrev pub released : List Moment
released =
    at 3 (gets 0 (done 0 3)) ∷ at 3 (hears (releases 0 3)) ∷ at 3 (does 0 (Send (Release 0)))
    ∷ at 2 (gets 0 (demand 0 R))
    ∷ demanded

abbrev pub passed_on : List Moment
passed_on =
    at 4 (gets 1 (granted 1 3 R)) ∷ at 4 (hears (asked 1 3 R)) ∷ at 4 (does 1 (Send (Ask 0 (mode R))))
    ∷ released

pub record PassedOn : Type 0 where
  pub permitted : Permitted small (wait small) passed_on
  pub held : may_use ((after demanded).rooms 0) 2 0 ≡ Ok true
  pub advised : (step ((after demanded).rooms 0) 2 (Demand 0 0 (mode R))).answer ≡ answer.Advice advice.Release
  pub given_up : may_use ((after released).rooms 0) 3 0 ≡ Ok false
  pub other_uses : may_use ((after passed_on).rooms 1) 4 0 ≡ Ok true
  pub in_mode : mode_of ((after passed_on).rooms 1) 0 ≡ R

-- 3: "a silent holder timed out, freed, and its profile granted". Station 1 asks R at 3; the tick at 8 starts timing station 0 out,
-- the tick at 19 does nothing, and the tick at 20 frees it. By then room 1 is out, too.
abbrev pub timing_out : List Moment
timing_out =
    at 8 ticks
    ∷ at 3 (gets 1 (waits 1 2)) ∷ at 3 (hears (asked 1 2 R)) ∷ at 3 (does 1 (Send (Ask 0 (mode R))))
    ∷ holding

abbrev pub not_yet : List Moment
not_yet = at 19 ticks ∷ timing_out

abbrev pub freed : List Moment
freed = at 20 ticks ∷ not_yet

abbrev pub taken_over : List Moment
taken_over =
    at 20 (gets 1 (granted 1 4 R)) ∷ at 20 (hears (asked 1 4 R)) ∷ at 20 (does 1 (Send (Ask 0 (mode R))))
    ∷ at 20 (gets 1 (done 1 3)) ∷ at 20 (hears (hello 1 3)) ∷ at 20 (does 1 (Send Hello))
    ∷ freed

pub record TakenOver : Type 0 where
  pub permitted : Permitted small (wait small) taken_over
  pub held : granted_to (after holding).server 0 0 ≡ X
  pub times_out : status_of (after timing_out).server 0 ≡ TimingOut 8
  pub still_held : granted_to (after not_yet).server 0 0 ≡ X
  pub unknown : status_of (after freed).server 0 ≡ Unknown
  pub gone : granted_to (after freed).server 0 0 ≡ 0
  pub other_uses : may_use ((after taken_over).rooms 1) 20 0 ≡ Ok true
  pub in_mode : mode_of ((after taken_over).rooms 1) 0 ≡ R
  pub no_longer : may_use ((after taken_over).rooms 0) 20 0 ≡ Ok false

-- 4: "a NACKed room closing and writing out in time". Room 0 edits at 1 and does not answer the demand of 1; its keep-alive, sent at 5,
-- is heard only after the tick at 6 and is NACKed; the room closes at 7 and writes out at 8, before its lease ends at 10.
abbrev pub closing : List Moment
closing =
    at 7 (gets 0 (nack 0 3 0)) ∷ at 6 (hears (alive 0 3)) ∷ at 6 ticks ∷ at 5 (does 0 (Send KeepAlive))
    ∷ at 1 (hears (asked 1 2 R)) ∷ at 1 (does 1 (Send (Ask 0 (mode R))))
    ∷ at 1 (does 0 (Edit 0)) ∷ at 1 (does 0 (Begin 0 (mode X)))
    ∷ holding

abbrev pub written : List Moment
written = at 8 (does 0 (WriteOut 0)) ∷ at 7 (does 0 (End 0)) ∷ closing

pub record Written : Type 0 where
  pub permitted : Permitted small (wait small) written
  pub closes : ((after closing).rooms 0).standing ≡ Closing
  pub unwritten : unwritten_of ((after closing).rooms 0) 0 ≡ true
  pub lost_without : (step ((after closing).rooms 0) 10 (Send Hello)).lost ≡ 1
  pub still_held : may_use ((after written).rooms 0) 8 0 ≡ Ok true
  pub all_written : unwritten_of ((after written).rooms 0) 0 ≡ false
  pub none_lost : (step ((after written).rooms 0) 10 (Send Hello)).lost ≡ 0

-- 5: clocks that drift apart, as far as the rate rule lets them. They read the same up to 8, when room 0 has renewed its lease for the
-- second time and the tick starts timing it out; then the rooms' clocks lose two ticks.
abbrev pub behind : ℕ → Happening → Moment
behind t e = record { server = t + 2; rooms = λ (i : ℕ). t; what = e }

abbrev pub renewed_twice : List Moment
renewed_twice =
    at 8 (gets 0 (done 0 4)) ∷ at 8 (hears (alive 0 4)) ∷ at 8 (does 0 (Send KeepAlive))
    ∷ at 5 (gets 0 (done 0 3)) ∷ at 5 (hears (alive 0 3)) ∷ at 5 (does 0 (Send KeepAlive))
    ∷ at 3 (hears (asked 1 2 R)) ∷ at 3 (does 1 (Send (Ask 0 (mode R))))
    ∷ holding

-- at the server's 19, eleven ticks on, room 0 is nine ticks on and may still use: the tick frees nobody; with a wait of 11 it would free room 0
abbrev pub nearly : List Moment
nearly = behind 17 ticks ∷ at 8 ticks ∷ renewed_twice

-- at 20 its lease has run, and the tick frees it
abbrev pub passed_by : List Moment
passed_by = behind 18 ticks ∷ nearly

-- by then room 1 is out, too
abbrev pub overtaken : List Moment
overtaken =
    behind 18 (gets 1 (granted 1 4 R)) ∷ behind 18 (hears (asked 1 4 R)) ∷ behind 18 (does 1 (Send (Ask 0 (mode R))))
    ∷ behind 18 (gets 1 (done 1 3)) ∷ behind 18 (hears (hello 1 3)) ∷ behind 18 (does 1 (Send Hello))
    ∷ passed_by

pub record Overtaken : Type 0 where
  pub permitted : Permitted small (wait small) overtaken
  pub times_out : status_of (after nearly).server 0 ≡ TimingOut 8
  pub still_uses : may_use ((after nearly).rooms 0) 17 0 ≡ Ok true
  pub still_held : granted_to (after nearly).server 0 0 ≡ X
  pub too_early : status_of (run small 11 nearly).server 0 ≡ Unknown
  pub unknown : status_of (after passed_by).server 0 ≡ Unknown
  pub no_longer : may_use ((after passed_by).rooms 0) 18 0 ≡ Ok false
  pub other_uses : may_use ((after overtaken).rooms 1) 18 0 ≡ Ok true
  pub in_mode : mode_of ((after overtaken).rooms 1) 0 ≡ R
