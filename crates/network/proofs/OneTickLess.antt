-- One tick less is too little: for all valid settings with two stations or more a permitted history breaks safety.
-- Assumes nothing.
use mathlib.Core.Path.{◌≡◌, refl, ap, ◌∙◌}
use mathlib.Core.Bool.{true, false}
use mathlib.Core.List.Memᴰ
use mathlib.Core.List.{List, [], ◌∷◌}
use mathlib.Core.Logic.{◌⊎◌, inl, inr}
use Prim.Native.Nat.{ℕ, zero, suc, ◌+◌, ◌-◌, ◌*◌, ◌<◌, ◌≤◌, zero-le}
use native.Mathlib.Omega.{arith}
use native.Mathlib.Nat.{le_refl, mul-le-mul_right}
use Rattle.std.proofs.Common.{Option, Some, None, Ok}
use borrow.Author.Tests.{lt-ltb, le-leb, lt-leb, eq-eqb, ne_eqb}
use lib.Dec.{lit<}
use lib.ListN.{replicate}
use Rattle.modes.specs.Modes.{mode, X, is_mode, goes_with, covers, join}
use Rattle.record.specs.declared.message.Message.{Message}
use Rattle.timing.specs.Limits.{reading_limit}
use Rattle.timing.specs.declared.settings.Settings.{Settings}
use Rattle.timing.specs.Settings.{in_range, lease, wait, Rate}
use Rattle.timing.specs.Phase.{edge2}
use Rattle.timing.proofs.Ranges.{Ranges, ranges}
use Rattle.timing.proofs.Wait.{wait_sharp, wait_above_lease, wait_small}
use Rattle.server.specs.declared.server.Server.{Server}
use Rattle.server.specs.declared.server.Served.{Served}
use Rattle.server.specs.State.{Status, Unknown, Live, TimingOut, Mark, Unmarked, Demanded, nobody, no_mark, empty_profile, new_server}
use Rattle.judging.specs.declared.event.Event.TheVariants as server
use Rattle.server.specs.Event.{Answer as ServerAnswer}
use Rattle.profiles.specs.declared.answer.Answer.TheVariants as says
use Rattle.members.specs.Mark.{as_word}
use Rattle.profiles.specs.Sets.{wiped, conflicts}
use Rattle.profiles.specs.Ask.{ask_rule}
use Rattle.hearing.specs.Hear.{heed, welcome, by_status}
use Rattle.server.specs.Tick.{free, started_set, start}
use Rattle.judging.specs.Refusal.{event_refusal}
use Rattle.server.specs.Step.{tick, step as server_step}
use Rattle.server.specs.Border.{sent_for}
use Rattle.server.proofs.Sent.{heard_back_lem}
use Rattle.record.specs.Message.{message}
use Rattle.station.specs.declared.station.Station.{Station}
use Rattle.station.specs.Event.{Request, Hello, KeepAlive, Ask, Sent, Ack, Done, Granted, Send, Restart, Acked, Hold, Standing, Out, Open}
use Rattle.station.specs.declared.event.Answer.TheVariants as answer
use Rattle.holds.specs.Hold.{no_hold, no_holds}
use Rattle.requests.specs.Request.{request_refusal, message_of}
use Rattle.room.specs.Refusal.{ack_refusal}
use Rattle.room.specs.Rules.{last_number, send_refusal, fits, ack_profile, ack_forbids}
use Rattle.station.specs.Effect.{holds_sent, holds_acked}
use Rattle.station.specs.Station.{new_station, is_over, forbids, after, stepped, step as room_step, may_use, mode_of}
use Rattle.station.specs.Border.{sent_by, event_of as room_event}
use Rattle.network.specs.Picture.{world_at_first, Moment, Happening, nothing, run}
use Rattle.network.specs.Premises.{Clocks, begins}
use Rattle.network.specs.Claims.{Breach, OneTickLess}
use Rattle.station.proofs.Uses.{use_free, may_use_lem}
use Rattle.network.proofs.RoomLaws as room
use Rattle.network.proofs.ServerLaws as served
use Rattle.network.proofs.Together.{Together, at_together, later, level, together}
use Rattle.network.proofs.Story.{put, Story, widen, rearrange, exchange, said, acted, ticked, look}

module _ (z : Settings) (good : in_range z ≡ true) (two : 2 ≤ z.stations) (w : ℕ) where
  ok : Ranges z
  ok = ranges z good

  here₀ : 0 < z.stations
  here₀ = omega arith

  here₁ : 1 < z.stations
  here₁ = omega arith

  any₀ : 0 < z.profiles
  any₀ = omega (arith, ok)

  -- the server and a room, as far as the story goes: stations 0 and 1, profile 0
  abbrev srv : ℕ → ℕ → ℕ → Status → Status → ℕ → ℕ → Mark → Server
  srv c k₀ k₁ σ₀ σ₁ x₀ x₁ m =
      record {
        settings = z;
        reading = c;
        members = record { status = σ₀; last = k₀ } ∷ record { status = σ₁; last = k₁ } ∷ replicate 14 nobody;
        profiles =
            record { row = mode x₀ ∷ mode x₁ ∷ replicate 14 (mode 0); marks = as_word m ∷ no_mark ∷ replicate 14 no_mark }
            ∷ replicate 63 empty_profile;
      }

  abbrev hs : ℕ → List Hold
  hs x = record { mode = mode x; started = 0; unwritten = false } ∷ replicate 63 no_hold

  -- what was asked waits since t
  abbrev waits : Request → ℕ → Option Sent
  waits q t = Some (record { request = q; at = t })

  abbrev rm : ℕ → ℕ → Standing → ℕ → ℕ → Option Sent → ℕ → Station
  rm own c σ start last wt x =
      record { settings = z; number = own; standing = σ; start = start; last = last; reading = c; waiting = wt; holds = hs x }

  abbrev pair : Station → Station → ℕ → Station
  pair r₀ r₁ zero = r₀
  pair r₀ r₁ (suc zero) = r₁
  pair r₀ r₁ (suc (suc j)) = new_station z (suc (suc j))

  first_server : new_server z ≡ srv 0 0 0 Unknown Unknown 0 0 Unmarked
  unfolding new_server
  first_server = refl

  first_room : (i : ℕ) → new_station z i ≡ rm i 0 Out 0 0 None 0
  unfolding new_station no_holds
  first_room i = refl

  put₀ : (r r₀ r₁ : Station) (j : ℕ) → put 0 r (pair r₀ r₁) j ≡ pair r r₁ j
  put₀ r r₀ r₁ zero = refl
  put₀ r r₀ r₁ (suc zero) = refl
  put₀ r r₀ r₁ (suc (suc j)) = rw (ne_eqb (suc (suc j)) 0 (λ e. omega arith))

  put₁ : (r r₀ r₁ : Station) (j : ℕ) → put 1 r (pair r₀ r₁) j ≡ pair r₀ r j
  put₁ r r₀ r₁ zero = refl
  put₁ r r₀ r₁ (suc zero) = refl
  put₁ r r₀ r₁ (suc (suc j)) = rw (ne_eqb (suc (suc j)) 1 (λ e. omega arith))

  -- the three exchanges of the story: what is said, what is answered, and the mode on profile 0 before and after
  record Exchange (q : Request) (a : Ack) (A : ServerAnswer) (x x' : ℕ) : Type 0 where
    back : ℕ → ℕ → Message
    named : request_refusal z.profiles q ≡ Ok tt
    same : (l : List Hold) → holds_sent l q ≡ l
    sent : (i k : ℕ) → sent_by i (answer.Sent k q) ≡ message_of i k q ∷ []
    answered : (i k : ℕ) → sent_for (message_of i k q).station (message_of i k q).number A ≡ back i k ∷ []
    told : (i k : ℕ) → room_event (back i k) ≡ Some (Acked i k a)
    named_back : ack_refusal z.profiles a ≡ Ok tt
    fitting : (i c start k : ℕ) (σ : Standing) (wt : Option Sent) → fits q (mode_of (rm i c σ start k wt x) (ack_profile a)) a ≡ true
    gained : holds_acked (hs x) a ≡ hs x'

  -- two of them name no profile, and are done
  done : (q : Request) → request_refusal z.profiles q ≡ Ok tt → ((l : List Hold) → holds_sent l q ≡ l) → ((m : ℕ) → fits q m Done ≡ true) →
      (x : ℕ) → Exchange q Done says.Done x x
  unfolding message_of sent_for room_event sent_by
  done q named same fitting x =
      record {
        back = λ i k. message 6 i k 255 0 0;
        named = named;
        same = same;
        sent = λ i k. refl;
        answered = λ i k. refl;
        told = λ i k. refl;
        named_back = refl;
        fitting = λ i c start k σ wt. fitting (mode_of (rm i c σ start k wt x) 0);
        gained = refl;
      }

  hello : (x : ℕ) → Exchange Hello Done says.Done x x
  unfolding fits
  hello = done Hello refl (λ l. refl) (λ m. refl)

  alive : (x : ℕ) → Exchange KeepAlive Done says.Done x x
  unfolding fits
  alive = done KeepAlive refl (λ l. refl) (λ m. refl)

  ask : Exchange (Ask 0 (mode X)) (Granted 0 (mode X)) (says.Granted 0 (mode X)) 0 X
  unfolding message_of sent_for room_event fits sent_by is_mode covers
  ask =
      record {
        back = λ i k. message 6 i k 0 X 1;
        named = rw (lt-leb z.profiles 0 any₀);
        same = λ l. refl;
        sent = λ i k. refl;
        answered = λ i k. refl;
        told = λ i k. refl;
        named_back = rw (lt-leb z.profiles 0 any₀);
        fitting = λ i c start k σ wt. refl;
        gained = refl;
      }

  -- a room sends
  sends : (i c₀ : ℕ) (σ : Standing) (start last : ℕ) (wt : Option Sent) (x now : ℕ) (q : Request) → i < z.stations → now ≤ reading_limit → c₀ ≤ now →
      request_refusal z.profiles q ≡ Ok tt → ((l : List Hold) → holds_sent l q ≡ l) →
      is_over (rm i c₀ σ start last wt x) now ≡ false → forbids (rm i now σ start last wt x) (Send q) ≡ Ok tt →
      room_step (rm i c₀ σ start last wt x) now (Send q) ≡ stepped (rm i now σ start (last + 1) (waits q now) x) (answer.Sent (last + 1) q) 0 0
  unfolding after
  sends i c₀ σ start last wt x now q here top on named same over may =
      room.step_on (rm i c₀ σ start last wt x) now (Send q) (room.free z good i c₀ now (Send q) here refl named top on) over may
      ∙ ap (λ (l : List Hold). stepped (record { settings = z; number = i; standing = σ; start = start; last = last + 1; reading = now; waiting = waits q now; holds = l }) (answer.Sent (last + 1) q) 0 0) (same (hs x))

  -- and gets its ACK at once
  takes : (i : ℕ) (σ : Standing) (start k x x' now : ℕ) (q : Request) (a : Ack) → i < z.stations → now ≤ reading_limit →
      ack_refusal z.profiles a ≡ Ok tt → fits q (mode_of (rm i now σ start k (waits q now) x) (ack_profile a)) a ≡ true → holds_acked (hs x) a ≡ hs x' →
      is_over (rm i now σ start k (waits q now) x) now ≡ false →
      room_step (rm i now σ start k (waits q now) x) now (Acked i k a) ≡ stepped (rm i now Open now k None x') answer.Done 0 0
  unfolding after ack_forbids
  takes i σ start k x x' now q a here top named fit gained over =
      room.step_on (rm i now σ start k (waits q now) x) now (Acked i k a) (room.free z good i now now (Acked i k a) here refl named top (le_refl now)) over may
      ∙ ap (λ (l : List Hold). stepped (record { settings = z; number = i; standing = Open; start = now; last = k; reading = now; waiting = None; holds = l }) answer.Done 0 0) gained
    where
      may : ack_forbids (waits q now) (lease z) now k k (mode_of (rm i now σ start k (waits q now) x) (ack_profile a)) a ≡ Ok tt
      may = rw (eq-eqb k k refl, fit, lt-leb (now + lease z) now (omega (arith, ok)))

  module _ (Q : Moment → Type 0) (c : ℕ) (cs : ℕ → ℕ) (mine : (e : Happening) → Q (record { server = c; rooms = cs; what = e }))
      (clocks : (old : Moment) (e : Happening) (i : ℕ) → Q old → i < z.stations → Clocks z old (record { server = c; rooms = cs; what = e }) i)
      (top : c ≤ reading_limit) (tops : (i : ℕ) → cs i ≤ reading_limit) where
    -- one message there and its ACK back
    turn : {s : Server} {rooms : ℕ → Station} {q : Request} {a : Ack} {A : ServerAnswer} {x x' : ℕ} → Story z w Q s rooms → Exchange q a A x x' →
        (i c₀ : ℕ) (σ : Standing) (start last : ℕ) (wt : Option Sent) (s' : Server) → i < z.stations → c₀ ≤ cs i → rooms i ≡ rm i c₀ σ start last wt x →
        is_over (rm i c₀ σ start last wt x) (cs i) ≡ false → forbids (rm i (cs i) σ start last wt x) (Send q) ≡ Ok tt →
        server_step w s c (server.Message i (last + 1) q) ≡ record { server = s'; answer = A } →
        Story z w Q s' (put i (rm i (cs i) Open (cs i) (last + 1) None x') rooms)
    turn {s} {rooms} {q} {a} {A} {x} {x'} S E i c₀ σ start last wt s' here on is over may heard =
        exchange z w Q c cs mine clocks S i here q (message_of i (last + 1) q)
        (stepped (rm i (cs i) σ start (last + 1) (waits q (cs i)) x) (answer.Sent (last + 1) q) 0 0)
        (ap (λ (v : Station). room_step v (cs i) (Send q)) is ∙ sends i c₀ σ start last wt x (cs i) q here (tops i) on E.named E.same over may)
        (E.sent i (last + 1))
        (server.Message i (last + 1) q) (record { server = s'; answer = A }) (E.back i (last + 1)) []
        (heard_back_lem i (last + 1) q) heard (E.answered i (last + 1))
        (Acked i (last + 1) a) (stepped (rm i (cs i) Open (cs i) (last + 1) None x') answer.Done 0 0)
        (E.told i (last + 1))
        (takes i σ start (last + 1) x x' (cs i) q a here (tops i) E.named_back (E.fitting i (cs i) start (last + 1) σ (waits q (cs i))) E.gained over)

  -- the server's answers in the story
  hello₀ : server_step w (srv 0 0 0 Unknown Unknown 0 0 Unmarked) 0 (server.Message 0 1 Hello)
      ≡ record { server = srv 0 1 0 Live Unknown 0 0 Unmarked; answer = says.Done }
  unfolding by_status welcome wiped
  hello₀ =
      served.heard w (srv 0 0 0 Unknown Unknown 0 0 Unmarked) 0 0 1 Hello
      (served.free z good 0 0 (server.Message 0 1 Hello) (rw (lt-leb z.stations 0 here₀)) zero-le zero-le) (lit< tt)

  ask_named : (i k : ℕ) → i < z.stations → event_refusal z (server.Message i k (Ask 0 (mode X))) ≡ Ok tt
  unfolding is_mode
  ask_named i k here = rw (lt-leb z.stations i here, lt-leb z.profiles 0 any₀)

  ask₀ : server_step w (srv 0 1 0 Live Unknown 0 0 Unmarked) 0 (server.Message 0 2 (Ask 0 (mode X)))
      ≡ record { server = srv 0 2 0 Live Unknown X 0 Unmarked; answer = says.Granted 0 (mode X) }
  unfolding by_status heed ask_rule conflicts join goes_with
  ask₀ =
      served.heard w (srv 0 1 0 Live Unknown 0 0 Unmarked) 0 0 2 (Ask 0 (mode X))
      (served.free z good 0 0 (server.Message 0 2 (Ask 0 (mode X))) (ask_named 0 2 here₀) zero-le zero-le) (lit< tt)

  hello₁ : server_step w (srv 0 2 0 Live Unknown X 0 Unmarked) 0 (server.Message 1 1 Hello)
      ≡ record { server = srv 0 2 1 Live Live X 0 Unmarked; answer = says.Done }
  unfolding by_status welcome wiped
  hello₁ =
      served.heard w (srv 0 2 0 Live Unknown X 0 Unmarked) 0 1 1 Hello
      (served.free z good 0 0 (server.Message 1 1 Hello) (rw (lt-leb z.stations 1 here₁)) zero-le zero-le) (lit< tt)

  -- station 0 stands in the way, and is demanded
  ask₁ : server_step w (srv 0 2 1 Live Live X 0 Unmarked) 0 (server.Message 1 2 (Ask 0 (mode X)))
      ≡ record { server = srv 0 2 2 Live Live X 0 (Demanded 0); answer = says.Wait 0 (mode X) 1 1 }
  unfolding by_status heed ask_rule conflicts join goes_with
  ask₁ =
      served.heard w (srv 0 2 1 Live Live X 0 Unmarked) 0 1 2 (Ask 0 (mode X))
      (served.free z good 0 0 (server.Message 1 2 (Ask 0 (mode X))) (ask_named 1 2 here₁) zero-le zero-le) (lit< tt)

  alive₀ : (c₀ c k : ℕ) → c₀ ≤ c → c ≤ reading_limit → server_step w (srv c₀ k 2 Live Live X 0 (Demanded 0)) c (server.Message 0 (k + 1) KeepAlive)
      ≡ record { server = srv c (k + 1) 2 Live Live X 0 (Demanded 0); answer = says.Done }
  unfolding by_status heed
  alive₀ c₀ c k on top =
      served.heard w (srv c₀ k 2 Live Live X 0 (Demanded 0)) c 0 (k + 1) KeepAlive
      (served.free z good c₀ c (server.Message 0 (k + 1) KeepAlive) (rw (lt-leb z.stations 0 here₀)) top on) (omega arith)

  -- R ticks after the demand it starts timing out
  late₀ : (k : ℕ) → z.r ≤ reading_limit → (tick w (srv z.r k 2 Live Live X 0 (Demanded 0)) z.r).server ≡ srv z.r k 2 (TimingOut z.r) Live X 0 (Demanded 0)
  unfolding tick free started_set start wiped
  late₀ k top = rw (le-leb (0 + z.r) z.r (omega arith))

  -- and w ticks later it is freed
  freed₀ : (k : ℕ) → (tick w (srv z.r k 2 (TimingOut z.r) Live X 0 (Demanded 0)) (z.r + w)).server ≡ srv (z.r + w) k 2 Unknown Live 0 0 Unmarked
  unfolding tick free started_set start wiped
  freed₀ k = rw (le-leb (z.r + w) (z.r + w) (le_refl (z.r + w)))

  module _ (c : ℕ) (top : c ≤ reading_limit) (k : ℕ) where
    again₁ : server_step w (srv c k 2 Unknown Live 0 0 Unmarked) c (server.Message 1 3 Hello)
        ≡ record { server = srv c k 3 Unknown Live 0 0 Unmarked; answer = says.Done }
    unfolding by_status heed wiped
    again₁ =
        served.heard w (srv c k 2 Unknown Live 0 0 Unmarked) c 1 3 Hello
        (served.free z good c c (server.Message 1 3 Hello) (rw (lt-leb z.stations 1 here₁)) top (le_refl c)) (lit< tt)

    grant₁ : server_step w (srv c k 3 Unknown Live 0 0 Unmarked) c (server.Message 1 4 (Ask 0 (mode X)))
        ≡ record { server = srv c k 4 Unknown Live 0 X Unmarked; answer = says.Granted 0 (mode X) }
    unfolding by_status heed ask_rule conflicts join goes_with
    grant₁ =
        served.heard w (srv c k 3 Unknown Live 0 0 Unmarked) c 1 4 (Ask 0 (mode X))
        (served.free z good c c (server.Message 1 4 (Ask 0 (mode X))) (ask_named 1 4 here₁) top (le_refl c)) (lit< tt)

  base : 1 ≤ z.d
  base = ok.rates.base

  -- a message may be sent
  may_hello : (i now start last : ℕ) (wt : Option Sent) (x : ℕ) → last < last_number → forbids (rm i now Out start last wt x) (Send Hello) ≡ Ok tt
  unfolding send_refusal
  may_hello i now start last wt x b = rw (lt-ltb last last_number b)

  may_alive : (i now start last : ℕ) (wt : Option Sent) (x : ℕ) → now - start < edge2 z → last < last_number → forbids (rm i now Open start last wt x) (Send KeepAlive) ≡ Ok tt
  unfolding send_refusal
  may_alive i now start last wt x b small = rw (room.is_early z good start now b, lt-ltb last last_number small)

  may_ask : (i now start last : ℕ) (wt : Option Sent) (x : ℕ) → now - start < edge2 z → last < last_number → forbids (rm i now Open start last wt x) (Send (Ask 0 (mode X))) ≡ Ok tt
  unfolding send_refusal
  may_ask i now start last wt x b small = rw (room.is_early z good start now b, lt-ltb last last_number small)

  runs : (i c₀ start last : ℕ) (wt : Option Sent) (x now : ℕ) → now < start + lease z → is_over (rm i c₀ Open start last wt x) now ≡ false
  runs i c₀ start last wt x now b = room.runs z good (rm i c₀ Open start last wt x) now b

  soon : (t : ℕ) → t - t < edge2 z
  soon t = omega (arith, ok)

  within : (t : ℕ) → t < t + lease z
  within t = omega (arith, ok)

  abbrev out₀ : Station
  out₀ = rm 0 0 Out 0 0 None 0

  abbrev out₁ : Station
  out₁ = rm 1 0 Out 0 0 None 0

  abbrev in₀ : ℕ → ℕ → Station
  in₀ t k = rm 0 t Open t k None X

  -- nothing has happened
  story₀ : Story z w (Together 0) (srv 0 0 0 Unknown Unknown 0 0 Unmarked) (pair out₀ out₁)
  unfolding run world_at_first
  story₀ =
      record {
        world = world_at_first z;
        history = record { h = []; permitted = begins; ends = refl; each = λ m a. absurd (Memᴰ.not-nil a) };
        server_is = first_server;
        rooms_are = rooms;
      }
    where
      rooms : (j : ℕ) → new_station z j ≡ pair out₀ out₁ j
      rooms zero = first_room 0
      rooms (suc zero) = first_room 1
      rooms (suc (suc j)) = refl

  -- station 0 says hello
  story₁ : Story z w (Together 0) (srv 0 1 0 Live Unknown 0 0 Unmarked) (pair (rm 0 0 Open 0 1 None 0) out₁)
  story₁ =
      rearrange z w (put₀ (rm 0 0 Open 0 1 None 0) out₀ out₁)
      (turn (Together 0) 0 (λ j. 0) (at_together 0) (together z base 0) zero-le (λ j. zero-le) story₀ (hello 0) 0 0 Out 0 0 None _ here₀ zero-le refl
      refl (may_hello 0 0 0 0 None 0 (lit< tt)) hello₀)

  -- and is granted X
  story₂ : Story z w (Together 0) (srv 0 2 0 Live Unknown X 0 Unmarked) (pair (in₀ 0 2) out₁)
  story₂ =
      rearrange z w (put₀ (in₀ 0 2) (rm 0 0 Open 0 1 None 0) out₁)
      (turn (Together 0) 0 (λ j. 0) (at_together 0) (together z base 0) zero-le (λ j. zero-le) story₁ ask 0 0 Open 0 1 None _ here₀ zero-le refl
      (runs 0 0 0 1 None 0 0 (within 0)) (may_ask 0 0 0 1 None 0 (soon 0) (lit< tt)) ask₀)

  -- station 1 says hello
  story₃ : Story z w (Together 0) (srv 0 2 1 Live Live X 0 Unmarked) (pair (in₀ 0 2) (rm 1 0 Open 0 1 None 0))
  story₃ =
      rearrange z w (put₁ (rm 1 0 Open 0 1 None 0) (in₀ 0 2) out₁)
      (turn (Together 0) 0 (λ j. 0) (at_together 0) (together z base 0) zero-le (λ j. zero-le) story₂ (hello 0) 1 0 Out 0 0 None _ here₁ zero-le refl
      refl (may_hello 1 0 0 0 None 0 (lit< tt)) hello₁)

  -- and asks X, and is to wait: the answer is left to lie
  abbrev waits₁ : Station
  waits₁ = rm 1 0 Open 0 2 (waits (Ask 0 (mode X)) 0) 0

  story₄ : Story z w (Together 0) (srv 0 2 2 Live Live X 0 (Demanded 0)) (pair (in₀ 0 2) waits₁)
  story₄ =
      rearrange z w (put₁ waits₁ (in₀ 0 2) (rm 1 0 Open 0 1 None 0))
      (said z w (Together 0) 0 (λ j. 0) (at_together 0) (together z base 0) story₃ 1 here₁ (Ask 0 (mode X)) (message_of 1 2 (Ask 0 (mode X)))
      (stepped waits₁ (answer.Sent 2 (Ask 0 (mode X))) 0 0)
      (sends 1 0 Open 0 1 None 0 0 (Ask 0 (mode X)) here₁ zero-le zero-le ask.named ask.same (runs 1 0 0 1 None 0 0 (within 0)) (may_ask 1 0 0 1 None 0 (soon 0) (lit< tt)))
      (ask.sent 1 2) (server.Message 1 2 (Ask 0 (mode X))) (record { server = _; answer = says.Wait 0 (mode X) 1 1 }) (heard_back_lem 1 2 (Ask 0 (mode X))) ask₁)

  -- the numbers of station 0's messages
  number : ℕ → ℕ
  number zero = 2
  number (suc t) = number t + 1

  number_is : (t : ℕ) → number t ≡ t + 2
  unfolding number
  number_is zero = refl
  number_is (suc t) = let e = number_is t in omega arith

  small : (t : ℕ) → t ≤ z.r → number t < last_number
  small t b = omega (arith, number_is t, ok)

  -- station 0 keeps its lease alive at each tick
  kept_alive : (t : ℕ) → t ≤ z.r → Story z w (Together t) (srv t (number t) 2 Live Live X 0 (Demanded 0)) (pair (in₀ t (number t)) waits₁)
  unfolding number
  kept_alive zero b = story₄
  kept_alive (suc t) b = on (kept_alive t (omega arith))
    where
      top : suc t ≤ reading_limit
      top = omega (arith, ok)

      on : Story z w (Together t) (srv t (number t) 2 Live Live X 0 (Demanded 0)) (pair (in₀ t (number t)) waits₁) →
          Story z w (Together (suc t)) (srv (suc t) (number t + 1) 2 Live Live X 0 (Demanded 0)) (pair (in₀ (suc t) (number t + 1)) waits₁)
      on S =
          rearrange z w (put₀ (in₀ (suc t) (number t + 1)) (in₀ t (number t)) waits₁)
          (turn (Together (suc t)) (suc t) (λ j. suc t) (at_together (suc t)) (together z base (suc t)) top (λ j. top)
          (widen z w (later (omega arith)) S) (alive X) 0 t Open t (number t) None _ here₀ (omega arith) refl
          (runs 0 t t (number t) None X (suc t) (omega (arith, ok))) (may_alive 0 (suc t) t (number t) None X (omega (arith, ok)) (small t (omega arith)))
          (alive₀ t (suc t) (number t) (omega arith) top))

  -- the tick at R
  dies : Story z w (Together z.r) (srv z.r (number z.r) 2 (TimingOut z.r) Live X 0 (Demanded 0)) (pair (in₀ z.r (number z.r)) waits₁)
  dies =
      let top : z.r ≤ reading_limit = omega (arith, ok) in
      ticked z w (Together z.r) z.r (λ j. z.r) (at_together z.r) (together z base z.r) (kept_alive z.r (le_refl z.r)) _
      (ap (λ (v : Served). v.server) (served.ticked w (srv z.r (number z.r) 2 Live Live X 0 (Demanded 0)) z.r (served.free z good z.r z.r server.Tick refl top (le_refl z.r)))
      ∙ late₀ (number z.r) top)

  -- the server and station 1 go on by w, station 0's clock by L - 1
  abbrev leap : ℕ → ℕ
  leap zero = z.r + (lease z - 1)
  leap (suc i) = z.r + w

  abbrev Leapt : Moment → Type 0
  Leapt m = Together z.r m ⊎ ((m.server ≡ z.r + w) × ((i : ℕ) → m.rooms i ≡ leap i))

  module _ (least : lease z ≤ w) (sharp : w * z.d < lease z * (z.d + z.n) + z.d) (short : w ≤ 2 * lease z) where
    top : z.r + w ≤ reading_limit
    top = omega (arith, ok)

    tops : (i : ℕ) → leap i ≤ reading_limit
    tops zero = omega (arith, ok)
    tops (suc i) = top

    -- x ticks together, then the leap
    fast : (x : ℕ) → Rate z (x + (lease z - 1)) (x + w)
    fast x =
        let l : x + (lease z - 1) + 1 ≡ x + lease z = omega (arith, ok) in
        let e : x + w ≡ (x + w - 1) + 1 = omega (arith, ok) in
        let p : (x + w) * z.d ≡ ((x + w - 1) + 1) * z.d = ap (λ (n : ℕ). n * z.d) e in
        rw l (omega arith)

    slow : (x : ℕ) → Rate z (x + w) (x + (lease z - 1))
    slow x =
        let one : 1 ≤ z.d = ok.rates.base in
        let p : (x + (lease z - 1) - 1) * z.d ≤ (x + w) * z.d = mul-le-mul_right z.d (omega arith) in
        omega arith

    leaps : (old : Moment) (e : Happening) (i : ℕ) → Leapt old → i < z.stations → Clocks z old (record { server = z.r + w; rooms = leap; what = e }) i
    leaps old e zero (inl f) here =
        let b = f.0 in
        let q = f.1 0 in
        let d : z.r + w - old.server ≡ z.r - old.server + w = omega arith in
        let d' : z.r + (lease z - 1) - old.rooms 0 ≡ z.r - old.server + (lease z - 1) = omega arith in
        record {
          server_on = omega arith;
          room_on = omega arith;
          rate = rw (d, d') (fast (z.r - old.server), slow (z.r - old.server));
        }
    leaps old e (suc i) (inl f) here =
        let b = f.0 in
        let q = f.1 (suc i) in
        record {
          server_on = omega arith;
          room_on = omega arith;
          rate = rw q (level z base (z.r + w - old.server), level z base (z.r + w - old.server));
        }
    leaps old e i (inr f) here =
        let a : z.r + w - (z.r + w) ≡ 0 = omega arith in
        let b : leap i - leap i ≡ 0 = omega arith in
        record {
          server_on = rw f.0 (le_refl (z.r + w));
          room_on = rw (f.1 i) (le_refl (leap i));
          rate = rw (f.0, f.1 i, a, b) (level z base 0, level z base 0);
        }

    leapt : (e : Happening) → Leapt (record { server = z.r + w; rooms = leap; what = e })
    leapt e = inr (refl, λ i. refl)

    -- the tick frees station 0
    freed : Story z w Leapt (srv (z.r + w) (number z.r) 2 Unknown Live 0 0 Unmarked) (pair (in₀ z.r (number z.r)) waits₁)
    freed =
        ticked z w Leapt (z.r + w) leap leapt leaps (widen z w (λ m f. inl f) dies) _
        (ap (λ (v : Served). v.server) (served.ticked w (srv z.r (number z.r) 2 (TimingOut z.r) Live X 0 (Demanded 0)) (z.r + w) (served.free z good z.r (z.r + w) server.Tick refl top (omega arith)))
        ∙ freed₀ (number z.r))

    -- station 1 starts anew
    anew : Story z w Leapt (srv (z.r + w) (number z.r) 2 Unknown Live 0 0 Unmarked) (pair (in₀ z.r (number z.r)) (rm 1 (z.r + w) Out 0 2 None 0))
    unfolding after no_holds
    anew =
        let now = z.r + w in
        let restarted =
        room.step_over waits₁ now Restart (room.free z good 1 0 now Restart here₁ refl refl top zero-le) (rw (le-leb (0 + lease z) now (omega arith))) refl in
        rearrange z w (put₁ (rm 1 now Out 0 2 None 0) (in₀ z.r (number z.r)) waits₁)
        (acted z w Leapt now leap leapt leaps freed 1 Restart here₁ refl _ restarted)

    -- says hello
    greets : Story z w Leapt (srv (z.r + w) (number z.r) 3 Unknown Live 0 0 Unmarked) (pair (in₀ z.r (number z.r)) (rm 1 (z.r + w) Open (z.r + w) 3 None 0))
    greets =
        rearrange z w (put₁ (rm 1 (z.r + w) Open (z.r + w) 3 None 0) (in₀ z.r (number z.r)) (rm 1 (z.r + w) Out 0 2 None 0))
        (turn Leapt (z.r + w) leap leapt leaps top tops anew (hello 0) 1 (z.r + w) Out 0 2 None _ here₁ (le_refl (z.r + w)) refl
        refl (may_hello 1 (z.r + w) 0 2 None 0 (lit< tt)) (again₁ (z.r + w) top (number z.r)))

    -- and is granted X
    granted : Story z w Leapt (srv (z.r + w) (number z.r) 4 Unknown Live 0 X Unmarked) (pair (in₀ z.r (number z.r)) (rm 1 (z.r + w) Open (z.r + w) 4 None X))
    granted =
        rearrange z w (put₁ (rm 1 (z.r + w) Open (z.r + w) 4 None X) (in₀ z.r (number z.r)) (rm 1 (z.r + w) Open (z.r + w) 3 None 0))
        (turn Leapt (z.r + w) leap leapt leaps top tops greets ask 1 (z.r + w) Open (z.r + w) 3 None _ here₁ (le_refl (z.r + w)) refl
        (runs 1 (z.r + w) (z.r + w) 3 None 0 (z.r + w) (within (z.r + w)))
        (may_ask 1 (z.r + w) (z.r + w) 3 None 0 (soon (z.r + w)) (lit< tt)) (grant₁ (z.r + w) top (number z.r)))

    uses : (i c start k now : ℕ) → i < z.stations → now ≤ reading_limit → c ≤ now → now < start + lease z → may_use (rm i c Open start k None X) now 0 ≡ Ok true
    unfolding is_mode
    uses i c start k now here t on b =
        may_use_lem (rm i c Open start k None X) now 0 (use_free z good i c now 0 here any₀ t on) refl b

    clash : goes_with X X ≡ false
    unfolding goes_with
    clash = refl

    breach : Breach z w
    breach =
        let (before, permitted, rooms) = look z w Leapt (z.r + w) leap leapt leaps granted in
        record {
          latest = record { server = z.r + w; rooms = leap; what = nothing };
          before = before;
          permitted = permitted;
          profile = 0;
          one = 0;
          other = 1;
          one_in = here₀;
          other_in = here₁;
          two = λ e. omega arith;
          one_uses =
              ap (λ (r : Station). may_use r (leap 0) 0) (rooms 0)
              ∙ uses 0 z.r z.r (number z.r) (leap 0) here₀ (tops 0) (omega arith) (omega (arith, ok));
          other_uses =
              ap (λ (r : Station). may_use r (leap 1) 0) (rooms 1)
              ∙ uses 1 (z.r + w) (z.r + w) 4 (leap 1) here₁ (tops 1) (le_refl (z.r + w)) (within (z.r + w));
          incompatible = ap (λ (r : Station). goes_with (mode_of r 0) (mode_of ((run z w (record { server = z.r + w; rooms = leap; what = nothing } ∷ before)).rooms 1) 0)) (rooms 0) ∙ ap (λ (r : Station). goes_with X (mode_of r 0)) (rooms 1) ∙ clash;
        }

module _ (z : Settings) (good : in_range z ≡ true) where
  least : lease z ≤ wait z - 1
  least = omega (arith, wait_above_lease z good)

  sharp : (wait z - 1) * z.d < lease z * (z.d + z.n) + z.d
  sharp =
      let e : wait z ≡ (wait z - 1) + 1 = omega (arith, wait_above_lease z good) in
      let p : wait z * z.d ≡ ((wait z - 1) + 1) * z.d = ap (λ (n : ℕ). n * z.d) e in
      omega (arith, wait_sharp z good)

  short : wait z - 1 ≤ 2 * lease z
  short = omega (arith, wait_small z good)

pub one_tick_less : OneTickLess
unfolding OneTickLess
one_tick_less z good two = breach z good (omega arith) _ (omega (arith, least z good)) (omega (arith, sharp z good)) (omega (arith, short z good))
