-- The three ways that an event goes, and what follows from each. Everything else about `step` is read off these.
-- Assumes nothing.
use mathlib.Core.Path.{◌≡◌, refl, sym, ap, subst, ◌∙◌}
use mathlib.Core.Bool.{Bool, true, false≢true}
use mathlib.Core.List.{List}
use Prim.Native.Nat.{ℕ}
use Rattle.std.proofs.Common.{Ok, Err, arith}
use Rattle.refusals.specs.Refusal.{Verdict}
use Rattle.refusals.specs.declared.Refusal.{Refusal}
use Rattle.masks.specs.Mask.{mask, count}
use Rattle.station.specs.Event.{Event, Hold}
use Rattle.station.specs.Effect.{last_after, Answer, answer_to}
use Rattle.station.specs.Station.{Station, Stepped, expire, lost, refusal_of, forbids, after, stepped, if_allowed, if_good, step}
use Rattle.station.specs.Said.{said}
use Rattle.station.specs.declared.event.Answer.TheVariants as answer

abbrev pub is_good : Answer → Bool
is_good a = (said a).good

module _ (s : Station) (now : ℕ) (e : Event) where
  -- "Refusals 1 to 6 change nothing."
  pub unheard : (r : Refusal) → refusal_of s now e ≡ Err r → step s now e ≡ stepped s (answer.Refused r) 0 0
  unfolding step if_good
  unheard r h = ap (λ (v : Verdict). if_good v s now e) h

  -- "8 to 14 change the reading and may end the lease, nothing else."
  pub forbidden : (r : Refusal) → refusal_of s now e ≡ Ok tt → forbids (expire s now) e ≡ Err r
      → step s now e ≡ stepped (expire s now) (answer.Refused r) (mask (lost s now e)) (count (lost s now e))
  unfolding step if_good if_allowed
  forbidden r h f =
      ap (λ (v : Verdict). if_good v s now e) h
      ∙ ap (λ (v : Verdict). if_allowed v (expire s now) e (mask (lost s now e)) (count (lost s now e))) f

  -- what nothing refuses happens
  pub happens : refusal_of s now e ≡ Ok tt → forbids (expire s now) e ≡ Ok tt
      → step s now e
      ≡ stepped (after (expire s now) e) (answer_to (last_after (expire s now).last e) (expire s now).holds e)
      (mask (lost s now e)) (count (lost s now e))
  unfolding step if_good if_allowed
  happens h f =
      ap (λ (v : Verdict). if_good v s now e) h
      ∙ ap (λ (v : Verdict). if_allowed v (expire s now) e (mask (lost s now e)) (count (lost s now e))) f

-- which way it is
pub data Way (s : Station) (now : ℕ) (e : Event) : Type 0 where
  is_unheard : (r : Refusal) → refusal_of s now e ≡ Err r → Way s now e
  is_forbidden : (r : Refusal) → refusal_of s now e ≡ Ok tt → forbids (expire s now) e ≡ Err r → Way s now e
  is_done_lem : refusal_of s now e ≡ Ok tt → forbids (expire s now) e ≡ Ok tt → Way s now e

pub way : (s : Station) (now : ℕ) (e : Event) → Way s now e
way s now e = by_refusal (refusal_of s now e) refl
  where
    by_rule : (v : Verdict) → refusal_of s now e ≡ Ok tt → forbids (expire s now) e ≡ v → Way s now e
    by_rule (Ok u) h f = is_done_lem h f
    by_rule (Err r) h f = is_forbidden r h f

    by_refusal : (v : Verdict) → refusal_of s now e ≡ v → Way s now e
    by_refusal (Ok u) h = by_rule (forbids (expire s now) e) h refl
    by_refusal (Err r) h = is_unheard r h

-- what holds of a station, of the same after its lease's end and after an event that happens, holds after every event
pub stepwise : (P : Station → Type 0) (s : Station) (now : ℕ) (e : Event) → P s → (refusal_of s now e ≡ Ok tt → P (expire s now))
    → (refusal_of s now e ≡ Ok tt → forbids (expire s now) e ≡ Ok tt → P (after (expire s now) e)) → P (step s now e).station
stepwise P s now e a b c = by_way (way s now e)
  where
    by_way : Way s now e → P (step s now e).station
    by_way (is_unheard r h) = subst P (ap (λ (r : Stepped). r.station) (sym (unheard s now e r h))) a
    by_way (is_forbidden r h f) = subst P (ap (λ (r : Stepped). r.station) (sym (forbidden s now e r h f))) (b h)
    by_way (is_done_lem h f) = subst P (ap (λ (r : Stepped). r.station) (sym (happens s now e h f))) (c h f)

-- only what happens is answered without a refusal
pub good_done : (s : Station) (now : ℕ) (e : Event) → is_good (step s now e).answer ≡ true
    → (refusal_of s now e ≡ Ok tt) × (forbids (expire s now) e ≡ Ok tt)
good_done s now e g = by_way (way s now e)
  where
    by_way : Way s now e → (refusal_of s now e ≡ Ok tt) × (forbids (expire s now) e ≡ Ok tt)
    by_way (is_unheard r h) =
        absurd (false≢true (sym (ap (λ (r : Stepped). is_good r.answer) (unheard s now e r h)) ∙ g))
    by_way (is_forbidden r h f) =
        absurd (false≢true (sym (ap (λ (r : Stepped). is_good r.answer) (forbidden s now e r h f)) ∙ g))
    by_way (is_done_lem h f) = (h, f)

-- and all of it is
pub done_good : (s : Station) (now : ℕ) (e : Event) → refusal_of s now e ≡ Ok tt → forbids (expire s now) e ≡ Ok tt
    → is_good (step s now e).answer ≡ true
done_good s now e h f = ap (λ (r : Stepped). is_good r.answer) (happens s now e h f) ∙ by_event _ _ e
  where
    by_event : (n : ℕ) (holds : List Hold) (e : Event) → is_good (answer_to n holds e) ≡ true
    by_event n holds e = grind arith
