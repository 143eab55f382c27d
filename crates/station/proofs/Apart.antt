-- A station taken apart for an event and put together after it: what the code does to the parts is what the definitions say of the whole.
-- Assumes nothing.
use mathlib.Core.Path.{◌≡◌, refl, sym, ap, ◌∙◌}
use mathlib.Core.Bool.{Bool, true, false, ◌&&◌, ◌||◌, not, true≢false}
use mathlib.Core.List.{List}
use Prim.Native.Nat.{ℕ}
use Rattle.std.proofs.Common.{None, Ok, Err, arith}
use lib.Count.{ones}
use lib.ListN.{set}
use lib.Seq.{set-get_or}
use Rattle.masks.specs.Mask.{mask}
use Rattle.masks.proofs.Laws.{mask_ones}
use Rattle.timing.specs.Reading.{passed}
use Rattle.timing.proofs.Choice.{both}
use Rattle.station.specs.Event.{Hello, KeepAlive, Ask, Release, Keep, Done, Granted, Wait, InUse, Event, Send, Begin, Edit, End, WriteOut, Restart, Acked, Nacked, Demand, Hold, Out}
use Rattle.holds.specs.Hold.{no_hold, no_holds, hold_in}
use Rattle.holds.specs.Stage.{is_out}
use Rattle.refusals.specs.Refusal.{Verdict}
use Rattle.room.specs.Rules.{profile_for}
use Rattle.station.specs.Effect.{last_after, holds_after, Answer, answer_to}
use Rattle.station.specs.Station.{Station, Stepped, lease_of, is_over, gone, at_reading, ended_if, expire, is_restart, lost, lost_if, refusal_of, forbids, after, stepped, if_allowed, judged, if_good, step}
use Rattle.station.specs.Parts.{Parts, Outcome, hold_change, answer_on, parts_of, arrived_if, parts_after, if_free, outcome_of, joined}
use Rattle.station.specs.declared.event.Answer.TheVariants as answer
use Rattle.station.proofs.Frames.{none_held}

-- an event changes no hold but the one that it names; before a restart all are gone
one_hold : (holds : List Hold) (e : Event) → (is_restart e ≡ true → holds ≡ no_holds)
    → set holds (profile_for e) (hold_change e (hold_in holds (profile_for e))) ≡ holds_after holds e
one_hold holds (Send Hello) r = set-get_or holds 0 no_hold
one_hold holds (Send KeepAlive) r = set-get_or holds 0 no_hold
one_hold holds (Send (Ask p m)) r = set-get_or holds p no_hold
one_hold holds (Send (Release p)) r = refl
one_hold holds (Send (Keep p)) r = set-get_or holds p no_hold
one_hold holds (Begin p m) r = refl
one_hold holds (Edit p) r = refl
one_hold holds (End p) r = refl
one_hold holds (WriteOut p) r = refl
one_hold holds Restart r =
    ap (λ (l : List Hold). set l 0 no_hold) (r refl)
    ∙ ap (set no_holds 0) (sym (none_held 0))
    ∙ set-get_or no_holds 0 no_hold
one_hold holds (Acked i k Done) r = set-get_or holds 0 no_hold
one_hold holds (Acked i k (Granted p m)) r = refl
one_hold holds (Acked i k (Wait p)) r = set-get_or holds p no_hold
one_hold holds (Acked i k (InUse p)) r = set-get_or holds p no_hold
one_hold holds (Nacked i k d) r = set-get_or holds 0 no_hold
one_hold holds (Demand i p m) r = set-get_or holds p no_hold

one_answer : (number : ℕ) (holds : List Hold) (e : Event) → answer_on number (hold_in holds (profile_for e)) e ≡ answer_to number holds e
one_answer number holds e = grind arith

-- the parts judged and put together
module _ (x : Station) (e : Event) (l n : ℕ) where
  abbrev together : Outcome → Stepped
  together o =
      stepped (joined x.settings x.number x.reading o.parts (set x.holds (profile_for e) o.parts.hold)) o.answer l n

  by_verdict : (is_restart e ≡ true → x.holds ≡ no_holds) → (v : Verdict)
      → together (if_free v (parts_of x (profile_for e)) x.reading e) ≡ if_allowed v x e l n
  unfolding if_free parts_after if_allowed after
  by_verdict r (Ok u) =
      both (λ (holds : List Hold) (a : Answer). stepped (joined x.settings x.number x.reading (parts_after (parts_of x (profile_for e)) x.reading e) holds) a l n)
      (one_hold x.holds e r) (one_answer (last_after x.last e) x.holds e)
  by_verdict r (Err q) =
      ap (λ (holds : List Hold). stepped (joined x.settings x.number x.reading (parts_of x (profile_for e)) holds) (answer.Refused q) l n)
      (set-get_or x.holds (profile_for e) no_hold)

  by_parts : (is_restart e ≡ true → x.holds ≡ no_holds)
      → together (outcome_of x.settings (lease_of x) (parts_of x (profile_for e)) x.reading e) ≡ judged x e l n
  by_parts r = by_verdict r (forbids x e)

-- a restart leaves no more than the lease's end
module _ (s : Station) (now : ℕ) (l n : ℕ) where
  abbrev ended : Bool → Event → Stepped
  ended b e = judged (ended_if b s now) e l n

  restarted : (over : Bool) → ended (over || true) Restart ≡ ended over Restart
  unfolding ended_if if_allowed after
  restarted true = refl
  restarted false = refl

  unrestarted : (over : Bool) (e : Event) → ended (over || false) e ≡ ended over e
  unrestarted true e = refl
  unrestarted false e = refl

  cleared : (over : Bool) (e : Event) → ended (over || is_restart e) e ≡ ended over e
  cleared over (Send q) = unrestarted over (Send q)
  cleared over (Begin p m) = unrestarted over (Begin p m)
  cleared over (Edit p) = unrestarted over (Edit p)
  cleared over (End p) = unrestarted over (End p)
  cleared over (WriteOut p) = unrestarted over (WriteOut p)
  cleared over Restart = restarted over
  cleared over (Acked i k a) = unrestarted over (Acked i k a)
  cleared over (Nacked i k d) = unrestarted over (Nacked i k d)
  cleared over (Demand i p m) = unrestarted over (Demand i p m)

-- b is whether all is cleared before the event
module _ (s : Station) (now : ℕ) (e : Event) where
  abbrev found : Bool → List Hold
  found b = (ended_if b s now).holds

  pub arrived_is : (b : Bool) (p : ℕ) → arrived_if b (parts_of s p) ≡ parts_of (ended_if b s now) p
  unfolding arrived_if ended_if
  arrived_is true p = ap (λ (h : Hold). record { standing = Out; start = 0; last = s.last; waiting = None; hold = h }) (sym (none_held p))
  arrived_is false p = refl

  abbrev result : Outcome → List Hold → ℕ → ℕ → Stepped
  result o holds l n = stepped (joined s.settings s.number now o.parts holds) o.answer l n

  put_together : (b : Bool) → (is_restart e ≡ true → b ≡ true) → (o : Outcome)
      → o ≡ outcome_of s.settings (lease_of s) (parts_of (ended_if b s now) (profile_for e)) now e → (l n : ℕ)
      → result o (set (found b) (profile_for e) o.parts.hold) l n ≡ judged (ended_if b s now) e l n
  unfolding ended_if
  put_together true r o d l n =
      ap (λ (o : Outcome). result o (set no_holds (profile_for e) o.parts.hold) l n) d
      ∙ by_parts (gone s now) e l n (λ q. refl)
  put_together false r o d l n =
      ap (λ (o : Outcome). result o (set s.holds (profile_for e) o.parts.hold) l n) d
      ∙ by_parts (at_reading s now) e l n (λ q. absurd (true≢false (sym (r q))))

-- the holds and the lost profiles, by whether all is cleared
abbrev Found : Station → ℕ → Event → Bool → Bool → List Hold → ℕ → Type 0
Found s now e over b holds l = (holds ≡ found s now e b) × (l ≡ mask (lost_if (over && not (is_restart e)) s.holds))

module _ (s : Station) (now : ℕ) (e : Event) (over b : Bool) (w : b ≡ (over || is_restart e)) where
  pub none_left : b ≡ true → (none holds : List Hold) → none ≡ no_holds → holds ≡ none → (k l : ℕ)
      → k ≡ mask (lost_if (over && not (is_restart e)) s.holds) → l ≡ k → Found s now e over b holds l
  unfolding ended_if
  none_left t none holds f g k l i j = (g ∙ f ∙ ap (λ (b : Bool). (ended_if b s now).holds) (sym t), j ∙ i)

  pub all_kept : b ≡ false → (holds : List Hold) → holds ≡ s.holds → (l : ℕ) → l ≡ 0 → Found s now e over b holds l
  unfolding ended_if
  all_kept t holds f l j = (f ∙ ap (λ (b : Bool). (ended_if b s now).holds) (sym t), j ∙ by_end over (sym w ∙ t))
    where
      by_end : (o : Bool) → (o || is_restart e) ≡ false → 0 ≡ mask (lost_if (o && not (is_restart e)) s.holds)
      by_end true q = absurd (true≢false q)
      by_end false q = refl

-- what the code finds: nothing of 1 to 6, k the lease, `over` whether it has run, b whether all is cleared
module _ (s : Station) (now : ℕ) (e : Event) (h : refusal_of s now e ≡ Ok tt) (k : ℕ) (c : k ≡ lease_of s)
    (over : Bool) (v : over ≡ (not (is_out s.standing) && passed s.start k now)) (b : Bool) (w : b ≡ (over || is_restart e)) where
  is_over_lem : over ≡ is_over s now
  is_over_lem = v ∙ ap (λ (k : ℕ). not (is_out s.standing) && passed s.start k now) c

  restart_clears : is_restart e ≡ true → b ≡ true
  restart_clears q = w ∙ ap (λ (t : Bool). over || t) q ∙ or_true over
    where
      or_true : (t : Bool) → (t || true) ≡ true
      or_true true = refl
      or_true false = refl

  pub taken : (holds : List Hold) (l : ℕ) → Found s now e over b holds l
      → (p : ℕ) → p ≡ profile_for e → (y : Parts) → y ≡ parts_of s p → (x : Parts) → x ≡ arrived_if b y
      → (o : Outcome) → o ≡ outcome_of s.settings k x now e
      → (t : Station) → t ≡ joined s.settings s.number now o.parts (set holds p o.parts.hold)
      → (n : ℕ) → n ≡ ones l → stepped t o.answer l n ≡ step s now e
  unfolding step if_good
  taken holds l f p i y g x j o m t q n u =
      let x' : x ≡ parts_of (ended_if b s now) (profile_for e) = j ∙ ap (arrived_if b) g ∙ arrived_is s now e b p ∙ ap (parts_of (ended_if b s now)) i in
      let o' : o ≡ outcome_of s.settings (lease_of s) (parts_of (ended_if b s now) (profile_for e)) now e = m ∙ both (λ (k : ℕ) (x : Parts). outcome_of s.settings k x now e) c x' in
      let l' : l ≡ mask (lost s now e) = f.1 ∙ ap (λ (t : Bool). mask (lost_if (t && not (is_restart e)) s.holds)) is_over_lem in
      ap (λ (t : Station). stepped t o.answer l n) q
      ∙ both (λ (holds : List Hold) (p : ℕ). result s now e o (set holds p o.parts.hold) l n) f.0 i
      ∙ put_together s now e b restart_clears o o' l n
      ∙ ap (λ (b : Bool). judged (ended_if b s now) e l n) w
      ∙ cleared s now l n over e
      ∙ ap (λ (b : Bool). judged (ended_if b s now) e l n) is_over_lem
      ∙ ap (judged (expire s now) e l) u
      ∙ ap (λ (l : ℕ). judged (expire s now) e l (ones l)) l'
      ∙ ap (judged (expire s now) e (mask (lost s now e))) (mask_ones (lost s now e))
      ∙ ap (λ (v : Verdict). if_good v s now e) (sym h)
