-- Each way that the code goes through a step or a question, as its definition has it.
-- Assumes nothing.
use mathlib.Core.Path.{◌≡◌, refl, sym, ap, ◌∙◌}
use mathlib.Core.Bool.{Bool, true, false, cond, ◌&&◌, not}
use Prim.Native.Nat.{ℕ, zero, suc, ◌+◌, ◌≤◌}
use lib.Dec.{ltb}
use Rattle.std.proofs.Common.{Option, Result, Ok, Err, Some, None, arith}
use Rattle.refusals.specs.Refusal.{Verdict}
use Rattle.refusals.specs.declared.Refusal.{Refusal}
use Rattle.refusals.proofs.Choice.{past_if, past_unless, or_ok}
use Rattle.modes.specs.Modes.{is_mode, covers}
use Rattle.timing.specs.declared.settings.Phase.{Phase}
use Rattle.timing.specs.declared.settings.Phase.TheVariants.{First, Second, Third, Fourth}
use Rattle.timing.specs.declared.settings.Settings.{Settings}
use Rattle.timing.specs.Settings.{lease, in_range, lease_answer, lease_checked}
use Rattle.timing.specs.Phase.{phase_number}
use Rattle.timing.specs.Reading.{passed}
use Rattle.timing.proofs.Choice.{both, below_not}
use Rattle.station.specs.Event.{Request, Hello, KeepAlive, Ask, Release, Keep, Sent, Event, Send, Begin, Edit, End, WriteOut, Restart, Acked, Nacked, Demand, Hold, Standing, Stage}
use Rattle.holds.specs.Stage.{phase_said, stage_at}
use Rattle.room.specs.Refusal.{own_refusal, refusal, use_refusal}
use Rattle.room.specs.Rules.{last_number, number_refusal, release_refusal, started_refusal, sending_refusal, send_refusal, begin_refusal, end_refusal, event_forbids}
use Rattle.station.specs.Effect.{standing_after, sent_at, start_after, last_after, waiting_after, number_free, Answer}
use Rattle.station.specs.Station.{Station, lease_of, refusal_of, stepped, if_good, step, phase_of, if_asked, usable, if_use, hold_at, may_use}
use Rattle.station.specs.Parts.{Parts, hold_change, hold_free, answer_on, lease_if, parts_forbid, parts_after, if_free, outcome_of}
use Rattle.station.specs.declared.event.Answer.TheVariants as answer

number_free_lem : (last : ℕ) → number_refusal last ≡ Ok tt → ltb last last_number ≡ true
number_free_lem last e = (past_unless (ltb last last_number) _ _ e).0

-- where nothing forbids an event, what it counts has room
sending_free : (stage : Stage) (own : Verdict) (last : ℕ) → sending_refusal stage own last ≡ Ok tt → ltb last last_number ≡ true
sending_free stage own last e =
    let rest = (past_if stage.out _ _ e).1 in
    number_free_lem last (or_ok own _ (past_unless stage.early _ _ rest).1).1

pub send_free : (stage : Stage) (h : Hold) (last : ℕ) (q : Request) → send_refusal stage h last q ≡ Ok tt → ltb last last_number ≡ true
unfolding send_refusal
send_free stage h last Hello e = number_free_lem last (past_unless stage.out _ _ e).1
send_free stage h last KeepAlive e = sending_free stage (Ok tt) last e
send_free stage h last (Ask p m) e = sending_free stage (Ok tt) last e
send_free stage h last (Release p) e = sending_free stage (release_refusal h) last e
send_free stage h last (Keep p) e = sending_free stage (started_refusal h) last e

begin_free : (stage : Stage) (h : Hold) (m : ℕ) → begin_refusal stage h m ≡ Ok tt → ltb h.started 255 ≡ true
unfolding begin_refusal
begin_free stage h m e =
    let out = (past_if stage.out _ _ e).1 in
    let early = (past_unless stage.early _ _ out).1 in
    (past_unless (ltb h.started 255) _ _ (past_unless (covers h.mode.0 m) _ _ early).1).0

end_free : (stage : Stage) (h : Hold) → end_refusal stage h ≡ Ok tt → ltb 0 h.started ≡ true
unfolding end_refusal
end_free stage h e = (past_unless (ltb 0 h.started) _ _ (past_if stage.out _ _ e).1).0

free : (stage : Stage) (h : Hold) (w : Option Sent) (lease now last : ℕ) (e : Event)
    → event_forbids stage h w lease now last e ≡ Ok tt → (number_free last e ≡ true) × (hold_free h e ≡ true)
free stage h w lease now last (Send q) e = (send_free _ _ _ q e, refl)
free stage h w lease now last (Begin p m) e = (refl, begin_free _ _ _ e)
free stage h w lease now last (Edit p) e = (refl, refl)
free stage h w lease now last (End p) e = (refl, end_free _ _ e)
free stage h w lease now last (WriteOut p) e = (refl, refl)
free stage h w lease now last Restart e = (refl, refl)
free stage h w lease now last (Acked i k a) e = (refl, refl)
free stage h w lease now last (Nacked i k d) e = (refl, refl)
free stage h w lease now last (Demand i p m) e = (refl, refl)

-- the parts of a station, where v is what the code finds of 8 to 14
module _ (z : Settings) (lease : ℕ) (x : Parts) (now : ℕ) (e : Event) (stage : Stage) (f : stage ≡ stage_at z x.standing x.start now)
    (v : Verdict) (d : v ≡ event_forbids stage x.hold x.waiting lease now x.last e) where
  by_rules : v ≡ parts_forbid z lease x now e
  by_rules = d ∙ ap (λ (s : Stage). event_forbids s x.hold x.waiting lease now x.last e) f

  pub forbidden : (r : Refusal) → v ≡ Err r → record { parts = x; answer = answer.Refused r } ≡ outcome_of z lease x now e
  unfolding if_free
  forbidden r h = ap (λ (v : Verdict). if_free v x now e) (sym h ∙ by_rules)

  module _ (h : v ≡ Ok tt) where
    pub free_number : number_free x.last e ≡ true
    free_number = (free stage x.hold x.waiting lease now x.last e (sym d ∙ h)).0

    pub free_hold : hold_free x.hold e ≡ true
    free_hold = (free stage x.hold x.waiting lease now x.last e (sym d ∙ h)).1

    pub allowed : (sent : ℕ) → sent ≡ sent_at x.waiting → (σ : Standing) (start last : ℕ) (w : Option Sent) (k : Hold) (a : Answer)
        → σ ≡ standing_after x.standing e → start ≡ start_after x.start sent e → last ≡ last_after x.last e
        → w ≡ waiting_after x.waiting now e → k ≡ hold_change e x.hold → a ≡ answer_on last x.hold e
        → record { parts = record { standing = σ; start = start; last = last; waiting = w; hold = k }; answer = a } ≡ outcome_of z lease x now e
    unfolding if_free parts_after
    allowed sent i σ start last w k a p q l s t g =
        rw (p, q, i, s, t, g, l) (ap (λ (v : Verdict). if_free v x now e) (sym h ∙ by_rules))

-- settings are in range where 1 does not apply
own_good : (z : Settings) (own : ℕ) → own_refusal z own ≡ Ok tt → in_range z ≡ true
own_good z own e = (past_unless (in_range z) _ _ e).0

pub good_settings : (z : Settings) (own last now : ℕ) (e : Event) → refusal z own last now e ≡ Ok tt → in_range z ≡ true
unfolding refusal
good_settings z own last now e h = own_good z own (or_ok _ _ h).0

pub good_asked : (z : Settings) (own last now p : ℕ) → use_refusal z own last now p ≡ Ok tt → in_range z ≡ true
unfolding use_refusal
good_asked z own last now p h = own_good z own (or_ok _ _ h).0

pub lease_is : (z : Settings) → in_range z ≡ true → lease_answer z ≡ lease z
lease_is z e = ap (λ (t : Bool). cond t (lease z) 0) e

-- so the code finds the lease, or the refusal of 1 to 6
pub lease_is_checked : (z : Settings) → in_range z ≡ true → lease_checked z ≡ Ok (lease z)
lease_is_checked z e = rw e refl

pub lease_good : (z : Settings) (own last now : ℕ) (e : Event) → refusal z own last now e ≡ Ok tt
    → lease_checked z ≡ lease_if (refusal z own last now e) z
lease_good z own last now e h =
    lease_is_checked z (good_settings z own last now e h) ∙ ap (λ (v : Verdict). lease_if v z) (sym h)

lease_refused : (v : Verdict) (z : Settings) (r : Refusal) → lease_if v z ≡ Err r → v ≡ Err r
lease_refused (Ok u) z r h = grind arith
lease_refused (Err q) z r h = grind arith

lease_found : (v : Verdict) (z : Settings) (k : ℕ) → lease_if v z ≡ Ok k → (v ≡ Ok tt) × (k ≡ lease z)
lease_found (Ok u) z k h = (refl, grind arith)
lease_found (Err q) z k h = grind arith

-- f is that, as the code finds it
module _ (s : Station) (now : ℕ) (e : Event) (f : Result ℕ Refusal) (d : f ≡ lease_if (refusal_of s now e) s.settings) where
  pub refused : (r : Refusal) → f ≡ Err r → stepped s (answer.Refused r) 0 0 ≡ step s now e
  unfolding step if_good
  refused r h = ap (λ (v : Verdict). if_good v s now e) (sym (lease_refused (refusal_of s now e) s.settings r (sym d ∙ h)))

  pub heard_lease : (k : ℕ) → f ≡ Ok k → (refusal_of s now e ≡ Ok tt) × (k ≡ lease_of s)
  heard_lease k h = lease_found (refusal_of s now e) s.settings k (sym d ∙ h)

-- a phase back from its number
pub phase_back : (f : Option Phase) → phase_of (phase_said f) ≡ f
phase_back f = grind arith

-- the phase asked for; v is what the code finds of 1 to 6
module _ (v n : Verdict) (d : v ≡ n) where
  pub phase_refused : (m : ℕ) (r : Refusal) → v ≡ Err r → Err r ≡ if_asked n m
  phase_refused m r h = ap (λ (v : Verdict). if_asked v m) (sym h ∙ d)

  module _ (h : v ≡ Ok tt) (k m : ℕ) (e : k ≡ m) where
    pub phase_out : k ≡ 0 → Ok None ≡ if_asked n m
    phase_out z = both if_asked (sym h ∙ d) (sym z ∙ e)

    -- the phase that has that number
    pub phase_in : (k ≡ 0 → ⊥) → (f : Phase) × (Ok (Some f) ≡ if_asked n m) × (k ≤ 4 → phase_number f ≡ k)
    phase_in g =
        let p = by_number k g in
        (p.0, p.1 ∙ both if_asked (sym h ∙ d) e, p.2)
      where
        by_number : (i : ℕ) → (i ≡ 0 → ⊥) → (f : Phase) × (Ok (Some f) ≡ if_asked (Ok tt) i) × (i ≤ 4 → phase_number f ≡ i)
        by_number zero g = absurd (g refl)
        by_number (suc zero) g = (First, refl, λ l. refl)
        by_number (suc (suc zero)) g = (Second, refl, λ l. refl)
        by_number (suc (suc (suc zero))) g = (Third, refl, λ l. refl)
        by_number (suc (suc (suc (suc i)))) g = (Fourth, refl, λ l. omega arith)

-- the use asked for; t is whether a mode is held, o whether the lease has run
module _ (s : Station) (now p : ℕ) (v : Verdict) (d : v ≡ use_refusal s.settings s.number s.reading now p) where
  pub use_refused : (r : Refusal) → v ≡ Err r → Err r ≡ may_use s now p
  unfolding may_use
  use_refused r h = ap (λ (v : Verdict). if_use v (usable s now p)) (sym h ∙ d)

  module _ (h : v ≡ Ok tt) (k : Hold) (f : k ≡ hold_at s p) (t : Bool) (e : t ≡ is_mode k.mode.0) where
    answered : (b : Bool) → usable s now p ≡ b → Ok b ≡ may_use s now p
    unfolding may_use
    answered b g = both if_use (sym h ∙ d) (sym g)

    held : (b : Bool) → t ≡ b → usable s now p ≡ (b && ltb now (s.start + lease_of s))
    held b g = ap (λ (b : Bool). b && ltb now (s.start + lease_of s)) (sym (e ∙ ap (λ (k : Hold). is_mode k.mode.0) f) ∙ g)

    pub use_unheld : t ≡ false → Ok false ≡ may_use s now p
    use_unheld g = answered false (held false g)

    module _ (g : t ≡ true) (l : ℕ) (c : l ≡ lease_answer s.settings) (o : Bool) (w : o ≡ passed s.start l now) where
      by_lease : usable s now p ≡ not o
      by_lease =
          let z : in_range s.settings ≡ true = good_asked s.settings s.number s.reading now p (sym d ∙ h) in
          held true g
          ∙ below_not now (s.start + lease_of s)
          ∙ ap not (sym (w ∙ ap (λ (l : ℕ). passed s.start l now) (c ∙ lease_is s.settings z)))

      pub use_over : o ≡ true → Ok false ≡ may_use s now p
      use_over b = answered false (by_lease ∙ ap not b)

      pub use_leased : o ≡ false → Ok true ≡ may_use s now p
      use_leased b = answered true (by_lease ∙ ap not b)
