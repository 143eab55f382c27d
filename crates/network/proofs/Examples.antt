-- The examples, computed.
-- Assumes nothing.
use mathlib.Core.Path.{◌≡◌, refl, sym, subst}
use mathlib.Core.List.Memᴰ
use mathlib.Core.List.{List, [], ◌∷◌, Memᴰ}
use mathlib.Core.Logic.{◌⊎◌, inl, inr}
use Prim.Native.Nat.{ℕ, ◌+◌, ◌<◌, ◌≤◌}
use native.Mathlib.Nat.{le_refl}
use native.Mathlib.Omega.{arith}
use lib.Dec.{lit<, lit≤}
use Rattle.timing.specs.Settings.{wait}
use Rattle.timing.specs.Settings as settings
use Rattle.timing.specs.Phase.{phase_after}
use Rattle.server.specs.State.{new_server}
use Rattle.profiles.specs.Sets.{wiped, conflicts}
use Rattle.profiles.specs.Ask.{ask_rule}
use Rattle.hearing.specs.Hear as hear
use Rattle.server.specs.Tick as tick
use Rattle.judging.specs.Refusal as server_refusal
use Rattle.server.specs.Step as server
use Rattle.server.specs.Border as server_border
use Rattle.server.specs.Border.{sent_for}
use Rattle.requests.specs.Request as requests
use Rattle.modes.specs.Modes.{R}
use Rattle.holds.specs.Hold.{no_holds}
use Rattle.holds.specs.Stage.{phase_at}
use Rattle.room.specs.Refusal as room_refusal
use Rattle.room.specs.Rules as rules
use Rattle.station.specs.Effect as effect
use Rattle.station.specs.Station as room
use Rattle.station.specs.Border as room_border
use Rattle.modes.specs.Modes as modes
use Rattle.network.specs.Picture.{Happening, ticks, gets, Moment, world_at_first, next, run}
use Rattle.network.specs.Premises.{Clocks, Happens, Permitted, begins, goes_on}
use Rattle.network.proofs.Together.{Together, at_together, later, together}
use Rattle.network.specs.Examples.{small, at, after, demand, greeted, holding, renewed, Renewed, demanded, released, passed_on, PassedOn, timing_out, taken_over, TakenOver, closing, written, Written, behind, renewed_twice, overtaken, Overtaken}

-- names all that a step computes with, so that one word opens it
engines : ℕ
unfolding run next world_at_first wait new_server wiped conflicts ask_rule phase_after no_holds phase_at settings.lengths_good settings.rate_good settings.counts_good hear.heed hear.welcome hear.by_status hear.if_new hear.hear tick.free tick.started_set tick.start server_refusal.refusal server.message server.tick server.step server_border.event_of server_border.sent_for room_refusal.refusal room_refusal.phase_refusal room_refusal.use_refusal rules.send_refusal rules.begin_refusal rules.edit_refusal rules.end_refusal rules.write_out_refusal rules.demand_refusal rules.fits rules.ack_forbids rules.nack_forbids effect.advised room.new_station room.ended_if room.after room.if_allowed room.if_good room.step room.phase_asked room.may_use room_border.event_of requests.request_of requests.message_of room_border.sent_by modes.is_mode modes.goes_with modes.covers modes.join modes.writes
engines = 0

-- a history that is permitted, and what is known of the clocks at each of its moments
record Known (P : Moment → Type 0) (h : List Moment) : Type 0 where
  permitted : Permitted small (wait small) h
  each : (m : Moment) → Memᴰ m h → P m

-- one moment more: what is known of the old ones is enough for the premises, and holds of the new one, too
module _ {P : Moment → Type 0} (Q : Moment → Type 0) (weaker : (m : Moment) → P m → Q m) (t : Moment) (this : Q t) where
  one_more : {h : List Moment} → ((old : Moment) (i : ℕ) → Q old → i < small.stations → Clocks small old t i) → Happens small (after h) t.what → Known P h → Known Q (t ∷ h)
  one_more {h} clocks can T =
      record {
        permitted = goes_on (λ old i a here. clocks old i (weaker old (T.each old a)) here) can T.permitted;
        each = λ n a. cases n (Memᴰ.cases_cons a);
      }
    where
      cases : (n : Moment) → (n ≡ t) ⊎ Memᴰ n h → Q n
      cases n (inl q) = subst Q (sym q) this
      cases n (inr a) = weaker n (T.each n a)

abbrev Told : ℕ → List Moment → Type 0
Told t h = Known (Together t) h

start : Told 0 []
start = record { permitted = begins; each = λ m a. absurd (Memᴰ.not-nil a) }

on : {t : ℕ} {h : List Moment} (t' : ℕ) → t ≤ t' → (e : Happening) → Happens small (after h) e → Told t h → Told t' (at t' e ∷ h)
on t' b e =
    one_more (Together t') (later b) (at t' e) (at_together t' e) (λ old i f here. together small (lit≤ tt) t' old e i f here)

told₀ : Told 0 greeted
unfolding engines
told₀ =
    on 0 (lit≤ tt) _ (lit< tt, Memᴰ.head refl)
    (on 0 (lit≤ tt) _ (Memᴰ.head refl)
    (on 0 (lit≤ tt) _ (lit< tt, refl)
    start))

told₁ : Told 6 renewed
unfolding engines
told₁ =
    on 6 (lit≤ tt) _ (lit< tt, Memᴰ.head refl)
    (on 5 (lit≤ tt) _ (Memᴰ.head refl)
    (on 5 (lit≤ tt) _ (lit< tt, refl)
    told₀))

pub lease_renewed : Renewed
unfolding engines
lease_renewed =
    record { permitted = told₁.permitted; first_start = refl; out_without = refl; new_start = refl; lasts = refl }

told_holding : Told 0 holding
unfolding engines
told_holding =
    on 0 (lit≤ tt) _ (lit< tt, Memᴰ.head refl)
    (on 0 (lit≤ tt) _ (Memᴰ.head refl)
    (on 0 (lit≤ tt) _ (lit< tt, refl)
    (on 0 (lit≤ tt) _ (lit< tt, Memᴰ.head refl)
    (on 0 (lit≤ tt) _ (Memᴰ.head refl)
    (on 0 (lit≤ tt) _ (lit< tt, refl)
    told₀)))))

told₂ : Told 1 demanded
unfolding engines
told₂ =
    on 1 (lit≤ tt) _ (lit< tt, Memᴰ.head refl)
    (on 1 (lit≤ tt) _ (Memᴰ.head refl)
    (on 1 (lit≤ tt) _ (lit< tt, refl)
    told_holding))

-- the server tells station 1 to wait, and station 0 of the demand
told_demanded : Told 2 (at 2 (gets 0 (demand 0 R)) ∷ demanded)
unfolding engines
told_demanded = on 2 (lit≤ tt) _ (lit< tt, Memᴰ.tail (Memᴰ.head refl)) told₂

told_released : Told 3 released
unfolding engines
told_released =
    on 3 (lit≤ tt) _ (lit< tt, Memᴰ.head refl)
    (on 3 (lit≤ tt) _ (Memᴰ.head refl)
    (on 3 (lit≤ tt) _ (lit< tt, refl)
    told_demanded))

told_passed : Told 4 passed_on
unfolding engines
told_passed =
    on 4 (lit≤ tt) _ (lit< tt, Memᴰ.head refl)
    (on 4 (lit≤ tt) _ (Memᴰ.head refl)
    (on 4 (lit≤ tt) _ (lit< tt, refl)
    told_released))

pub demand_answered : PassedOn
unfolding engines
demand_answered =
    record {
      permitted = told_passed.permitted;
      held = refl;
      advised = refl;
      given_up = refl;
      other_uses = refl;
      in_mode = refl;
    }

told_timing : Told 8 timing_out
unfolding engines
told_timing =
    on 8 (lit≤ tt) _ tt
    (on 3 (lit≤ tt) _ (lit< tt, Memᴰ.head refl)
    (on 3 (lit≤ tt) _ (Memᴰ.head refl)
    (on 3 (lit≤ tt) _ (lit< tt, refl)
    told_holding)))

told_taken : Told 20 taken_over
unfolding engines
told_taken =
    on 20 (lit≤ tt) _ (lit< tt, Memᴰ.head refl)
    (on 20 (lit≤ tt) _ (Memᴰ.head refl)
    (on 20 (lit≤ tt) _ (lit< tt, refl)
    (on 20 (lit≤ tt) _ (lit< tt, Memᴰ.head refl)
    (on 20 (lit≤ tt) _ (Memᴰ.head refl)
    (on 20 (lit≤ tt) _ (lit< tt, refl)
    (on 20 (lit≤ tt) _ tt
    (on 19 (lit≤ tt) _ tt
    told_timing)))))))

pub silent_holder_freed : TakenOver
unfolding engines
silent_holder_freed =
    record {
      permitted = told_taken.permitted;
      held = refl;
      times_out = refl;
      still_held = refl;
      unknown = refl;
      gone = refl;
      other_uses = refl;
      in_mode = refl;
      no_longer = refl;
    }

told_closing : Told 7 closing
unfolding engines
told_closing =
    on 7 (lit≤ tt) _ (lit< tt, Memᴰ.head refl)
    (on 6 (lit≤ tt) _ (Memᴰ.head refl)
    (on 6 (lit≤ tt) _ tt
    (on 5 (lit≤ tt) _ (lit< tt, refl)
    (on 1 (lit≤ tt) _ (Memᴰ.head refl)
    (on 1 (lit≤ tt) _ (lit< tt, refl)
    (on 1 (lit≤ tt) _ (lit< tt, refl)
    (on 1 (lit≤ tt) _ (lit< tt, refl)
    told_holding)))))))

told_written : Told 8 written
unfolding engines
told_written =
    on 8 (lit≤ tt) _ (lit< tt, refl)
    (on 7 (lit≤ tt) _ (lit< tt, refl)
    told_closing)

pub nacked_room_wrote_out : Written
unfolding engines
nacked_room_wrote_out =
    record {
      permitted = told_written.permitted;
      closes = refl;
      unwritten = refl;
      lost_without = refl;
      still_held = refl;
      all_written = refl;
      none_lost = refl;
    }

-- the clocks of the last example: together up to 8, then those of the rooms two ticks behind, from 17 to r
abbrev Behind : ℕ → Moment → Type 0
Behind r m = (i : ℕ) → (m.server ≡ m.rooms i + 2) × (17 ≤ m.rooms i) × (m.rooms i ≤ r)

abbrev Drifting : ℕ → Moment → Type 0
Drifting r m = Together 8 m ⊎ Behind r m

later_behind : {r r' : ℕ} → r ≤ r' → (m : Moment) → Drifting r m → Drifting r' m
later_behind b m (inl f) = inl f
later_behind b m (inr f) = inr (λ i. ((f i).0, (f i).1, let l = (f i).2 in omega (arith, l, b)))

within_rate : (r : ℕ) → 17 ≤ r → (e : Happening) (old : Moment) (i : ℕ) → Drifting r old → Clocks small old (behind r e) i
within_rate r late e old i (inl f) =
    let s = f.0 in
    let q = f.1 i in
    record { server_on = omega (arith, s, late); room_on = omega (arith, s, q, late); rate = (omega (arith, s, q, late), omega (arith, s, q, late)) }
within_rate r late e old i (inr f) =
    let q = (f i).0 in
    let l = (f i).2 in
    record { server_on = omega (arith, q, l); room_on = l; rate = (omega (arith, q, l), omega (arith, q, l)) }

drifts : {r : ℕ} {h : List Moment} (r' : ℕ) → 17 ≤ r' → r ≤ r' → (e : Happening) → Happens small (after h) e → Known (Drifting r) h → Known (Drifting r') (behind r' e ∷ h)
drifts r' late b e =
    one_more (Drifting r') (later_behind b) (behind r' e) (inr (λ i. (refl, late, le_refl r')))
    (λ old i f here. within_rate r' late e old i f)

told_renewed : Told 8 (at 8 ticks ∷ renewed_twice)
unfolding engines
told_renewed =
    on 8 (lit≤ tt) _ tt
    (on 8 (lit≤ tt) _ (lit< tt, Memᴰ.head refl)
    (on 8 (lit≤ tt) _ (Memᴰ.head refl)
    (on 8 (lit≤ tt) _ (lit< tt, refl)
    (on 5 (lit≤ tt) _ (lit< tt, Memᴰ.head refl)
    (on 5 (lit≤ tt) _ (Memᴰ.head refl)
    (on 5 (lit≤ tt) _ (lit< tt, refl)
    (on 3 (lit≤ tt) _ (Memᴰ.head refl)
    (on 3 (lit≤ tt) _ (lit< tt, refl)
    told_holding))))))))

told_overtaken : Known (Drifting 18) overtaken
unfolding engines
told_overtaken =
    drifts 18 (lit≤ tt) (lit≤ tt) _ (lit< tt, Memᴰ.head refl)
    (drifts 18 (lit≤ tt) (lit≤ tt) _ (Memᴰ.head refl)
    (drifts 18 (lit≤ tt) (lit≤ tt) _ (lit< tt, refl)
    (drifts 18 (lit≤ tt) (lit≤ tt) _ (lit< tt, Memᴰ.head refl)
    (drifts 18 (lit≤ tt) (lit≤ tt) _ (Memᴰ.head refl)
    (drifts 18 (lit≤ tt) (lit≤ tt) _ (lit< tt, refl)
    (drifts 18 (lit≤ tt) (lit≤ tt) _ tt
    (drifts {r = 0} 17 (lit≤ tt) (lit≤ tt) _ tt
    (record { permitted = told_renewed.permitted; each = λ m a. inl (told_renewed.each m a) }))))))))

pub slow_holder_overtaken : Overtaken
unfolding engines
slow_holder_overtaken =
    record {
      permitted = told_overtaken.permitted;
      times_out = refl;
      still_uses = refl;
      still_held = refl;
      too_early = refl;
      unknown = refl;
      no_longer = refl;
      other_uses = refl;
      in_mode = refl;
    }
