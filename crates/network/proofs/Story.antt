-- Permitted histories, made step by step: what server and rooms are at their end, and what is known of all their moments.
-- Assumes nothing.
use mathlib.Core.Path.{◌≡◌, refl, sym, subst, ap, ◌∙◌}
use mathlib.Core.Bool.{Bool, true, cond}
use mathlib.Core.List.Memᴰ
use mathlib.Core.List.{List, [], ◌∷◌, ◌++◌, Memᴰ}
use mathlib.Core.Logic.{◌⊎◌, inl, inr}
use Prim.Native.Nat.{ℕ, ◌<◌}
use Rattle.std.proofs.Common.{Option, Some, arith}
use borrow.Author.Tests.{eq-eqb}
use lib.Dec.{eqb}
use Rattle.record.specs.declared.message.Message.{Message}
use Rattle.timing.specs.declared.settings.Settings.{Settings}
use Rattle.server.specs.declared.server.Server.{Server}
use Rattle.server.specs.declared.server.Served.{Served}
use Rattle.server.specs.Event.{Event as ServerEvent, Request}
use Rattle.judging.specs.declared.event.Event.TheVariants as server
use Rattle.server.specs.Step.{step as server_step}
use Rattle.server.specs.Border.{sent_for, event_of as server_event}
use Rattle.station.specs.declared.station.Station.{Station}
use Rattle.station.specs.declared.station.Stepped.{Stepped}
use Rattle.station.specs.Event.{Event as RoomEvent, Send}
use Rattle.station.specs.Station.{step as room_step}
use Rattle.station.specs.Border.{sent_by, event_of as room_event}
use Rattle.network.specs.Picture.{World, Moment, Happening, nothing, ticks, hears, gets, does, with_server, with_room, hearing, getting, next, run}
use Rattle.network.specs.Premises.{Clocks, is_own, Happens, Permitted, goes_on}

-- the rooms with another in place i
abbrev pub put : ℕ → Station → (ℕ → Station) → ℕ → Station
put i r rooms j = cond (eqb j i) r (rooms j)

-- of two at one place, the later
again : {A : Type 0} (b : Bool) (p q r r' : A) → r ≡ r' → cond b p (cond b q r) ≡ cond b p r'
again b p q r r' e = grind arith

-- what was sent last is among all that was sent
first_of : {sent rest : List Message} {m : Message} (more : List Message) → sent ≡ m ∷ rest → Memᴰ m (sent ++ more)
first_of {sent} {rest} {m} more e = subst (λ (l : List Message). Memᴰ m (l ++ more)) (sym e) (Memᴰ.head refl)

module _ (z : Settings) (w : ℕ) where
  -- a permitted history that ends in a world, with something known of all its moments
  pub record Ends (Q : Moment → Type 0) (x : World) : Type 0 where
    pub h : List Moment
    pub permitted : Permitted z w h
    pub ends : run z w h ≡ x
    pub each : (m : Moment) → Memᴰ m h → Q m

  -- its server and rooms; what was sent does not matter
  pub record Story (Q : Moment → Type 0) (s : Server) (rooms : ℕ → Station) : Type 0 where
    pub world : World
    pub history : Ends Q world
    pub server_is : world.server ≡ s
    pub rooms_are : (j : ℕ) → world.rooms j ≡ rooms j

  pub widen : {Q Q' : Moment → Type 0} {s : Server} {rooms : ℕ → Station} → ((m : Moment) → Q m → Q' m) → Story Q s rooms → Story Q' s rooms
  widen {Q} {Q'} f S =
      let E = S.history in
      record {
        world = S.world;
        history = record { h = E.h; permitted = E.permitted; ends = E.ends; each = λ m a. f m (E.each m a) };
        server_is = S.server_is;
        rooms_are = S.rooms_are;
      }

  pub rearrange : {Q : Moment → Type 0} {s : Server} {rooms rooms' : ℕ → Station} → ((j : ℕ) → rooms j ≡ rooms' j) → Story Q s rooms → Story Q s rooms'
  rearrange f S =
      record { world = S.world; history = S.history; server_is = S.server_is; rooms_are = λ j. S.rooms_are j ∙ f j }

  module _ (Q : Moment → Type 0) (c : ℕ) (cs : ℕ → ℕ)
      (mine : (e : Happening) → Q (record { server = c; rooms = cs; what = e }))
      (clocks : (old : Moment) (e : Happening) (i : ℕ) → Q old → i < z.stations → Clocks z old (record { server = c; rooms = cs; what = e }) i) where
    abbrev now : Happening → Moment
    now e = record { server = c; rooms = cs; what = e }

    pub go : {x y : World} → Ends Q x → (e : Happening) → Happens z x e → next w x (now e) e ≡ y → Ends Q y
    unfolding run
    go {x} {y} S e can q =
        record {
          h = now e ∷ S.h;
          permitted = goes_on (λ old i a b. clocks old e i (S.each old a) b) (subst (λ (v : World). Happens z v e) (sym S.ends) can) S.permitted;
          ends = ap (λ (v : World). next w v (now e) e) S.ends ∙ q;
          each = λ n a. cases n (Memᴰ.cases_cons a);
        }
      where
        cases : (n : Moment) → (n ≡ now e) ⊎ Memᴰ n S.h → Q n
        cases n (inl q) = subst Q (sym q) (mine e)
        cases n (inr a) = S.each n a

    -- a room does something
    pub done : {x : World} → Ends Q x → (i : ℕ) (e : RoomEvent) → i < z.stations → is_own e ≡ true → (r : Station) → x.rooms i ≡ r → (X : Stepped) → room_step r (cs i) e ≡ X → Ends Q (with_room x i X)
    unfolding next
    done {x} S i e here own r is X q =
        go S (does i e) (here, own) (ap (λ (v : Station). with_room x i (room_step v (cs i) e)) is ∙ ap (λ (v : Stepped). with_room x i v) q)

    -- a message reaches the server
    pub hear : {x : World} → Ends Q x → (m : Message) → Memᴰ m x.up → (s : Server) → x.server ≡ s → (e : ServerEvent) → server_event m ≡ Some e →
        (Y : Served) → server_step w s c e ≡ Y → Ends Q (with_server x Y (sent_for m.station m.number Y.answer))
    unfolding next
    hear {x} S m there s is e meant Y q =
        go S (hears m) there
        (ap (λ (v : Option ServerEvent). hearing w x c m v) meant
        ∙ ap (λ (v : Server). with_server x (server_step w v c e) (sent_for m.station m.number (server_step w v c e).answer)) is
        ∙ ap (λ (v : Served). with_server x v (sent_for m.station m.number v.answer)) q)

    -- a message reaches a room
    pub get : {x : World} → Ends Q x → (i : ℕ) (m : Message) → i < z.stations → Memᴰ m x.down → (r : Station) → x.rooms i ≡ r → (e : RoomEvent) → room_event m ≡ Some e →
        (X : Stepped) → room_step r (cs i) e ≡ X → Ends Q (with_room x i X)
    unfolding next
    get {x} S i m here there r is e meant X q =
        go S (gets i m) (here, there)
        (ap (λ (v : Option RoomEvent). getting x i (cs i) v) meant
        ∙ ap (λ (v : Station). with_room x i (room_step v (cs i) e)) is
        ∙ ap (λ (v : Stepped). with_room x i v) q)

    -- one message there, and its ACK back, with no time between
    pub exchange : {s : Server} {rooms : ℕ → Station} → Story Q s rooms → (i : ℕ) → i < z.stations → (q : Request) (m : Message) (X : Stepped) →
        room_step (rooms i) (cs i) (Send q) ≡ X → sent_by X.station.number X.answer ≡ m ∷ [] →
        (e : ServerEvent) (Y : Served) (m' : Message) (ds : List Message) → server_event m ≡ Some e → server_step w s c e ≡ Y → sent_for m.station m.number Y.answer ≡ m' ∷ ds →
        (e' : RoomEvent) (X' : Stepped) → room_event m' ≡ Some e' → room_step X.station (cs i) e' ≡ X' →
        Story Q Y.server (put i X'.station rooms)
    exchange {s} {rooms} S i here q m X x-is m-is e Y m' ds e-is y-is m'-is e' X' e'-is x'-is =
        let E₁ = done S.history i (Send q) here refl (rooms i) (S.rooms_are i) X x-is in
        let E₂ = hear E₁ m (first_of S.world.up m-is) s S.server_is e e-is Y y-is in
        let E₃ = get E₂ i m' here (first_of S.world.down m'-is) X.station (ap (λ (b : Bool). cond b X.station (S.world.rooms i)) (eq-eqb i i refl)) e' e'-is X' x'-is in
        record {
          world = _;
          history = E₃;
          server_is = refl;
          rooms_are = λ j. again (eqb j i) X'.station X.station (S.world.rooms j) (rooms j) (S.rooms_are j);
        }

    -- a message there, and its answer left to lie
    pub said : {s : Server} {rooms : ℕ → Station} → Story Q s rooms → (i : ℕ) → i < z.stations → (q : Request) (m : Message) (X : Stepped) →
        room_step (rooms i) (cs i) (Send q) ≡ X → sent_by X.station.number X.answer ≡ m ∷ [] →
        (e : ServerEvent) (Y : Served) → server_event m ≡ Some e → server_step w s c e ≡ Y →
        Story Q Y.server (put i X.station rooms)
    said {s} {rooms} S i here q m X x-is m-is e Y e-is y-is =
        let E₁ = done S.history i (Send q) here refl (rooms i) (S.rooms_are i) X x-is in
        let E₂ = hear E₁ m (first_of S.world.up m-is) s S.server_is e e-is Y y-is in
        record {
          world = _;
          history = E₂;
          server_is = refl;
          rooms_are = λ j. ap (λ (v : Station). cond (eqb j i) X.station v) (S.rooms_are j);
        }

    -- a room does something that sends nothing of use
    pub acted : {s : Server} {rooms : ℕ → Station} → Story Q s rooms → (i : ℕ) (e : RoomEvent) → i < z.stations → is_own e ≡ true →
        (X : Stepped) → room_step (rooms i) (cs i) e ≡ X → Story Q s (put i X.station rooms)
    acted {s} {rooms} S i e here own X x-is =
        record {
          world = _;
          history = done S.history i e here own (rooms i) (S.rooms_are i) X x-is;
          server_is = S.server_is;
          rooms_are = λ j. ap (λ (v : Station). cond (eqb j i) X.station v) (S.rooms_are j);
        }

    pub ticked : {s : Server} {rooms : ℕ → Station} → Story Q s rooms → (s' : Server) → (server_step w s c server.Tick).server ≡ s' → Story Q s' rooms
    unfolding next
    ticked {s} {rooms} S s' q =
        record {
          world = with_server S.world (server_step w s c server.Tick) [];
          history = go S.history ticks tt (ap (λ (v : Server). with_server S.world (server_step w v c server.Tick) []) S.server_is);
          server_is = q;
          rooms_are = S.rooms_are;
        }

    -- a moment at which nothing happens, at which server and rooms can be looked at
    pub look : {s : Server} {rooms : ℕ → Station} → Story Q s rooms →
        (before : List Moment) × Permitted z w (now nothing ∷ before) × ((j : ℕ) → (run z w (now nothing ∷ before)).rooms j ≡ rooms j)
    unfolding run next
    look {s} {rooms} S =
        let E = S.history in (
          E.h,
          goes_on (λ old i a b. clocks old nothing i (E.each old a) b) tt E.permitted,
          λ j. ap (λ (v : World). v.rooms j) E.ends ∙ S.rooms_are j,
        )
