-- Each way through refusals 1 to 6, and what it tells that none applies.
-- Assumes nothing.
use mathlib.Core.Path.{◌≡◌, refl, sym}
use mathlib.Core.Bool.{true, false}
use Prim.Native.Nat.{ℕ, ◌<◌, ◌≤◌}
use native.Mathlib.Omega.{arith}
use lib.Dec.{leb}
use Rattle.std.proofs.Common.{Ok, Err}
use borrow.Author.Tests.{leb-false}
use Rattle.refusals.specs.Refusal.{Verdict, or_else}
use Rattle.refusals.specs.declared.Refusal.{Refusal}
use Rattle.refusals.specs.declared.Refusal.TheVariants as refused
use Rattle.refusals.proofs.Choice.{or_ok, past_if, past_unless}
use Rattle.timing.specs.Limits.{reading_limit, most_stations, most_profiles}
use Rattle.timing.specs.Reading.{reading_refusal}
use Rattle.timing.specs.declared.settings.Settings.{Settings}
use Rattle.timing.specs.Settings.{in_range}
use Rattle.timing.proofs.Ranges.{ranges}
use Rattle.timing.proofs.Choice as choice
use Rattle.requests.specs.Request.{profile_of, request_refusal}
use Rattle.requests.proofs.Back.{named_below}
use Rattle.judging.specs.Event.{Request, Event, Message}
use Rattle.judging.specs.Refusal.{event_refusal, refusal}

module _ (z : Settings) (last now : ℕ) (e : Event) where
  pub bad_settings : in_range z ≡ false → Err refused.Settings ≡ refusal z last now e
  unfolding refusal
  bad_settings h = rw h refl

  pub named : in_range z ≡ true → (r : Refusal) → Err r ≡ event_refusal z e → Err r ≡ refusal z last now e
  unfolding refusal
  named good r q = rw (good, sym q) refl

  pub unnamed : in_range z ≡ true → Ok tt ≡ event_refusal z e → (v : Verdict) → v ≡ reading_refusal last now → v ≡ refusal z last now e
  unfolding refusal
  unnamed good q v r = rw (good, sym q) r

module _ (z : Settings) (last now : ℕ) (e : Event) (accepted : refusal z last now e ≡ Ok tt) where
  parts : (in_range z ≡ true) × (or_else (event_refusal z e) (reading_refusal last now) ≡ Ok tt)
  unfolding refusal
  parts = past_unless (in_range z) (or_else (event_refusal z e) (reading_refusal last now)) refused.Settings accepted

  pub settings_good : in_range z ≡ true
  settings_good = parts.0

  pub event_good : event_refusal z e ≡ Ok tt
  event_good = (or_ok (event_refusal z e) (reading_refusal last now) parts.1).0

  pub reading_good : (now ≤ reading_limit) × (last ≤ now)
  reading_good = choice.reading_good last now (or_ok (event_refusal z e) (reading_refusal last now) parts.1).1

-- and of a message: its station and its profile are among those of the settings
module _ (z : Settings) (last now i k : ℕ) (q : Request) (accepted : refusal z last now (Message i k q) ≡ Ok tt) where
  both_good : (leb z.stations i ≡ false) × (request_refusal z.profiles q ≡ Ok tt)
  both_good = past_if (leb z.stations i) refused.Station (request_refusal z.profiles q) (event_good z last now (Message i k q) accepted)

  pub station_below : i < z.stations
  station_below = leb-false z.stations i both_good.0

  pub profile_below : profile_of q < z.profiles
  profile_below =
      let r = ranges z (settings_good z last now (Message i k q) accepted) in
      named_below z.profiles r.counts.profiles q both_good.1

  pub in_arrays : (i < most_stations) × (profile_of q < most_profiles)
  in_arrays =
      let r = ranges z (settings_good z last now (Message i k q) accepted) in
      (omega (arith, station_below), omega (arith, profile_below))
