-- What an event that 1 to 6 do not refuse shows: settings and reading in range, and what it names with them.
-- Assumes nothing.
use mathlib.Core.Path.{◌≡◌}
use mathlib.Core.Bool.{true}
use Prim.Native.Nat.{ℕ, ◌<◌, ◌≤◌}
use native.Mathlib.Omega.{arith}
use Rattle.std.proofs.Common.{Ok}
use lib.Dec.{eqb, leb}
use borrow.Author.Tests.{leb-false, eqb-true}
use Rattle.timing.specs.Limits.{reading_limit, most_profiles}
use Rattle.timing.specs.Settings.{in_range}
use Rattle.timing.proofs.Ranges.{ranges}
use Rattle.station.specs.Event.{Done, Granted, Wait, InUse, Event, Send, Begin, Edit, End, WriteOut, Restart, Acked, Nacked, Demand}
use Rattle.room.specs.Refusal.{named_refusal, station_of, own_refusal, refusal}
use Rattle.requests.proofs.Back.{in_profiles, named_below}
use Rattle.timing.specs.Reading.{reading_refusal}
use Rattle.station.specs.Station.{Station, refusal_of}
use Rattle.refusals.proofs.Choice.{past_if, past_unless, or_ok}
use Rattle.timing.proofs.Choice.{reading_good}
use Rattle.room.specs.Rules.{profile_for}

pub record Heard (s : Station) (now : ℕ) (e : Event) : Type 0 where
  pub range : in_range s.settings ≡ true
  pub own : s.number < s.settings.stations
  pub mine : station_of s.number e ≡ s.number
  pub named : named_refusal s.settings.profiles e ≡ Ok tt
  pub limit : now ≤ reading_limit
  pub forward : s.reading ≤ now

pub heard : (s : Station) (now : ℕ) (e : Event) → refusal_of s now e ≡ Ok tt → Heard s now e
unfolding refusal
heard s now e h =
    let z = s.settings in
    let i = s.number in
    let o = or_ok (own_refusal z i) _ h in
    let range = past_unless (in_range z) _ _ o.0 in
    let to = past_unless (eqb (station_of i e) i) _ _ o.1 in
    let n = or_ok (named_refusal z.profiles e) (reading_refusal s.reading now) to.1 in
    let r = reading_good s.reading now n.1 in
    record {
      range = range.0;
      own = leb-false z.stations i (past_if (leb z.stations i) _ _ range.1).0;
      mine = eqb-true (station_of i e) i to.0;
      named = n.0;
      limit = r.0;
      forward = r.1;
    }

-- a profile named is one of the settings'
named_profile : (n : ℕ) (e : Event) → 1 ≤ n → named_refusal n e ≡ Ok tt → profile_for e < n
named_profile n (Send q) l e = named_below n l q e
named_profile n (Begin p m) l e = in_profiles n p _ e
named_profile n (Edit p) l e = in_profiles n p _ e
named_profile n (End p) l e = in_profiles n p _ e
named_profile n (WriteOut p) l e = in_profiles n p _ e
named_profile n Restart l e = l
named_profile n (Acked i k Done) l e = l
named_profile n (Acked i k (Granted p m)) l e = in_profiles n p _ e
named_profile n (Acked i k (Wait p)) l e = in_profiles n p _ e
named_profile n (Acked i k (InUse p)) l e = in_profiles n p _ e
named_profile n (Nacked i k d) l e = l
named_profile n (Demand i p m) l e = in_profiles n p _ e

pub heard_profile : (s : Station) (now : ℕ) (e : Event) → Heard s now e → (profile_for e < s.settings.profiles) × (profile_for e < most_profiles)
heard_profile s now e h =
    let k = ranges s.settings h.range in
    let l = named_profile s.settings.profiles e k.counts.profiles h.named in
    (l, omega arith)

-- p is the profile named, as the code finds it
pub found_profile : (s : Station) (now : ℕ) (e : Event) → refusal_of s now e ≡ Ok tt → (p : ℕ) → p ≡ profile_for e → p < most_profiles
found_profile s now e h p q =
    let k = (heard_profile s now e (heard s now e h)).1 in
    omega arith
