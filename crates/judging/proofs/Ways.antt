-- Each way that the code goes as it judges an event, as the definitions have it; what the event is about is in the arrays.
-- Assumes nothing.
use Rattle.std.proofs.Common.{◌≡◌, ℕ, Option, Some, None, Result, Ok, Err, refl, sym, ap, subst, ◌∙◌, arith}
use Rattle.std.specs.Prelude.{IfOk}
use Rattle.std.specs.Option.{unwrap_or, MatchOption}
use Rattle.masks.specs.Mask.{set_of}
use Rattle.refusals.specs.Refusal.{Verdict}
use Rattle.refusals.specs.declared.Refusal.{Refusal}
use Rattle.timing.specs.Limits.{most_stations}
use Rattle.timing.specs.declared.settings.Settings.{Settings}
use Rattle.profiles.specs.declared.profile.Profile.{Profile}
use Rattle.requests.specs.Request.{profile_of}
use Rattle.profiles.specs.Profile.{empty_profile}
use Rattle.hearing.specs.declared.Heard.{Heard}
use Rattle.hearing.specs.Hear.{hear, told}
use Rattle.hearing.proofs.Told.{heard_told}
use Rattle.judging.specs.Event.{Request, Event, Message, Tick}
use Rattle.judging.specs.Refusal.{refusal}
use Rattle.judging.specs.Judge.{Route, Looked, After, Refused, Ticks, Leaves, route_to, route_by, route_of, Within, heard_as, heard_for, judged_at, judged_for}
use Rattle.judging.proofs.Refusals.{in_arrays}

module _ (z : Settings) (last now : ℕ) (e : Event) where
  pub route_within : IfOk (route_of z last now e) Within
  unfolding route_of
  route_within = by_verdict (refusal z last now e) e refl
    where
      by_verdict : (v : Verdict) (e : Event) → refusal z last now e ≡ v → IfOk (route_by v e) Within
      by_verdict (Ok _) (Message i k q) h = in_arrays z last now i k q h
      by_verdict (Ok _) Tick h = (omega arith, omega arith)
      by_verdict (Err r) e h = tt

  pub routed : (r : Route) → Ok r ≡ route_of z last now e → Within r
  routed r q = subst (λ (v : Result Route Refusal). IfOk v Within) (sym q) route_within

  pub refused_route : (r : Refusal) → Err r ≡ refusal z last now e → Err r ≡ route_of z last now e
  unfolding route_of
  refused_route r found = rw (sym found) refl

  module _ (accepted : Ok tt ≡ refusal z last now e) where
    pub message_route : (i k : ℕ) (q : Request) → e ≡ Message i k q → (p : ℕ) → p ≡ profile_of q → Ok (route_to i p) ≡ route_of z last now e
    unfolding route_of
    message_route i k q is p at = rw (sym accepted, is, at) refl

    pub tick_route : e ≡ Tick → Ok (route_to 0 0) ≡ route_of z last now e
    unfolding route_of
    tick_route is = rw (sym accepted, is) refl

-- the profile that was looked at, or an empty one
looked_at : (o : Option Profile) (x : Profile) → MatchOption o (x ≡ empty_profile) (λ y. x ≡ y) → x ≡ unwrap_or o empty_profile
looked_at (Some y) x e = e
looked_at None x e = e

module _ (l : Looked) (now k : ℕ) (q : Request) (x : Profile) (h : Heard) where
  pub message_heard : MatchOption l.profile (x ≡ empty_profile) (λ y. x ≡ y)
      → told h ≡ told (hear (set_of most_stations l.live) now l.route.station k q l.member x)
      → heard_as l.route l.profile h ≡ heard_for l now k q
  unfolding heard_for
  message_heard looked e =
      ap (heard_as l.route l.profile)
      (heard_told h (hear (set_of most_stations l.live) now l.route.station k q l.member x) e
      ∙ ap (hear (set_of most_stations l.live) now l.route.station k q l.member) (looked_at l.profile x looked))

-- what is judged, over what was looked at
module _ (last now : ℕ) (e : Event) where
  pub refused_judged : (r : Refusal) → judged_at last (Refused r) ≡ judged_for (Err r) last now e
  unfolding judged_for
  refused_judged r = refl

  module _ (l : Looked) where
    pub tick_judged : e ≡ Tick → judged_at now Ticks ≡ judged_for (Ok l) last now e
    unfolding judged_for
    tick_judged is = rw is refl

    pub message_judged : (i k : ℕ) (q : Request) → e ≡ Message i k q → (a : After) → a ≡ heard_for l now k q
        → judged_at now (Leaves a) ≡ judged_for (Ok l) last now e
    unfolding judged_for
    message_judged i k q is a h = rw is (ap (λ (a : After). judged_at now (Leaves a)) h)
