-- What an event leaves as it is, and how it is answered, where a `_` stands for it: k is its place among the kinds.
-- Assumes nothing.
use mathlib.Core.Path.{◌≡◌, refl}
use mathlib.Core.Bool.{false}
use mathlib.Core.List.{List, [], ◌∷◌}
use Prim.Native.Nat.{ℕ}
use Rattle.std.proofs.Common.{Option}
use types.Run.{OneOf, miss}
use denote.Enum.Declared.{tag_of}
use Rattle.requests.specs.contracts.Request as request
use Rattle.room.specs.contracts.event.Ack as ack
use Rattle.room.specs.contracts.event.Event as event
use Rattle.station.specs.Event.{Request, Hello, KeepAlive, Ask, Release, Keep, Sent, Ack, Done, Granted, Wait, InUse, Event, Send, Begin, Edit, End, WriteOut, Restart, Acked, Nacked, Demand, Hold, Standing}
use Rattle.station.specs.Effect.{standing_after, start_after, last_after, waiting_after}
use Rattle.station.specs.Parts.{sent_change, acked_change, answer_on}
use Rattle.station.specs.Station.{is_restart}
use Rattle.station.specs.declared.event.Answer.TheVariants as answer

abbrev At : List ℕ → Event → Type 0
At ks e = OneOf ks (tag_of event.the_type e)

pub restarts_not : (e : Event) → At (0 ∷ 1 ∷ 2 ∷ 3 ∷ 4 ∷ 6 ∷ 7 ∷ 8 ∷ []) e → false ≡ is_restart e
restarts_not (Send q) k = refl
restarts_not (Begin p m) k = refl
restarts_not (Edit p) k = refl
restarts_not (End p) k = refl
restarts_not (WriteOut p) k = refl
restarts_not Restart k = absurd (miss (0 ∷ 1 ∷ 2 ∷ 3 ∷ 4 ∷ 6 ∷ 7 ∷ 8 ∷ []) 5 tt k)
restarts_not (Acked i n a) k = refl
restarts_not (Nacked i n d) k = refl
restarts_not (Demand i p m) k = refl

pub standing_stays : (σ : Standing) (e : Event) → At (0 ∷ 1 ∷ 2 ∷ 3 ∷ 4 ∷ 8 ∷ []) e → σ ≡ standing_after σ e
standing_stays σ (Send q) k = refl
standing_stays σ (Begin p m) k = refl
standing_stays σ (Edit p) k = refl
standing_stays σ (End p) k = refl
standing_stays σ (WriteOut p) k = refl
standing_stays σ Restart k = absurd (miss (0 ∷ 1 ∷ 2 ∷ 3 ∷ 4 ∷ 8 ∷ []) 5 tt k)
standing_stays σ (Acked i n a) k = absurd (miss (0 ∷ 1 ∷ 2 ∷ 3 ∷ 4 ∷ 8 ∷ []) 6 tt k)
standing_stays σ (Nacked i n d) k = absurd (miss (0 ∷ 1 ∷ 2 ∷ 3 ∷ 4 ∷ 8 ∷ []) 7 tt k)
standing_stays σ (Demand i p m) k = refl

pub start_stays : (start sent : ℕ) (e : Event) → At (0 ∷ 1 ∷ 2 ∷ 3 ∷ 4 ∷ 7 ∷ 8 ∷ []) e → start ≡ start_after start sent e
start_stays start sent (Send q) k = refl
start_stays start sent (Begin p m) k = refl
start_stays start sent (Edit p) k = refl
start_stays start sent (End p) k = refl
start_stays start sent (WriteOut p) k = refl
start_stays start sent Restart k = absurd (miss (0 ∷ 1 ∷ 2 ∷ 3 ∷ 4 ∷ 7 ∷ 8 ∷ []) 5 tt k)
start_stays start sent (Acked i n a) k = absurd (miss (0 ∷ 1 ∷ 2 ∷ 3 ∷ 4 ∷ 7 ∷ 8 ∷ []) 6 tt k)
start_stays start sent (Nacked i n d) k = refl
start_stays start sent (Demand i p m) k = refl

pub last_stays : (last : ℕ) (e : Event) → At (1 ∷ 2 ∷ 3 ∷ 4 ∷ 5 ∷ 6 ∷ 7 ∷ 8 ∷ []) e → last ≡ last_after last e
last_stays last (Send q) k = absurd (miss (1 ∷ 2 ∷ 3 ∷ 4 ∷ 5 ∷ 6 ∷ 7 ∷ 8 ∷ []) 0 tt k)
last_stays last (Begin p m) k = refl
last_stays last (Edit p) k = refl
last_stays last (End p) k = refl
last_stays last (WriteOut p) k = refl
last_stays last Restart k = refl
last_stays last (Acked i n a) k = refl
last_stays last (Nacked i n d) k = refl
last_stays last (Demand i p m) k = refl

pub waiting_stays : (w : Option Sent) (now : ℕ) (e : Event) → At (1 ∷ 2 ∷ 3 ∷ 4 ∷ 8 ∷ []) e → w ≡ waiting_after w now e
waiting_stays w now (Send q) k = absurd (miss (1 ∷ 2 ∷ 3 ∷ 4 ∷ 8 ∷ []) 0 tt k)
waiting_stays w now (Begin p m) k = refl
waiting_stays w now (Edit p) k = refl
waiting_stays w now (End p) k = refl
waiting_stays w now (WriteOut p) k = refl
waiting_stays w now Restart k = absurd (miss (1 ∷ 2 ∷ 3 ∷ 4 ∷ 8 ∷ []) 5 tt k)
waiting_stays w now (Acked i n a) k = absurd (miss (1 ∷ 2 ∷ 3 ∷ 4 ∷ 8 ∷ []) 6 tt k)
waiting_stays w now (Nacked i n d) k = absurd (miss (1 ∷ 2 ∷ 3 ∷ 4 ∷ 8 ∷ []) 7 tt k)
waiting_stays w now (Demand i p m) k = refl

pub done : (number : ℕ) (h : Hold) (e : Event) → At (1 ∷ 2 ∷ 3 ∷ 4 ∷ 5 ∷ 6 ∷ 7 ∷ []) e → answer.Done ≡ answer_on number h e
done number h (Send q) k = absurd (miss (1 ∷ 2 ∷ 3 ∷ 4 ∷ 5 ∷ 6 ∷ 7 ∷ []) 0 tt k)
done number h (Begin p m) k = refl
done number h (Edit p) k = refl
done number h (End p) k = refl
done number h (WriteOut p) k = refl
done number h Restart k = refl
done number h (Acked i n a) k = refl
done number h (Nacked i n d) k = refl
done number h (Demand i p m) k = absurd (miss (1 ∷ 2 ∷ 3 ∷ 4 ∷ 5 ∷ 6 ∷ 7 ∷ []) 8 tt k)

pub sent_stays : (h : Hold) (q : Request) → OneOf (0 ∷ 1 ∷ 2 ∷ 4 ∷ []) (tag_of request.the_type q) → h ≡ sent_change q h
sent_stays h Hello k = refl
sent_stays h KeepAlive k = refl
sent_stays h (Ask p m) k = refl
sent_stays h (Release p) k = absurd (miss (0 ∷ 1 ∷ 2 ∷ 4 ∷ []) 3 tt k)
sent_stays h (Keep p) k = refl

pub acked_stays : (h : Hold) (a : Ack) → OneOf (0 ∷ 2 ∷ 3 ∷ []) (tag_of ack.the_type a) → h ≡ acked_change a h
acked_stays h Done k = refl
acked_stays h (Granted p m) k = absurd (miss (0 ∷ 2 ∷ 3 ∷ []) 1 tt k)
acked_stays h (Wait p) k = refl
acked_stays h (InUse p) k = refl
