-- Settings in range, as facts about their numbers.
-- Assumes nothing.
use Rattle.std.proofs.Common.{◌≡◌, ℕ, ◌<◌, ◌≤◌, Bool, true, false, cond, ◌&&◌, leb, sym, refl, ap, ◌∙◌, arith, le-leb, leb-true, Ok, Err}
use mathlib.Core.Bool.{and-eq-true_iff}
use Rattle.timing.specs.Limits.{lease_shortest, lease_longest, rate_largest, answer_longest, most_stations, most_profiles}
use Rattle.timing.specs.Settings.{Settings, lease, within, lengths_good, rate_good, counts_good, in_range, settings_refusal, lease_checked}
use Rattle.refusals.proofs.Choice.{past_unless}
use Rattle.refusals.specs.Refusal.{Verdict}
use Rattle.refusals.specs.declared.Refusal.TheVariants as refusal

pub record Lengths (z : Settings) : Type 0 where
  pub one : 1 ≤ z.phase1
  pub two : 1 ≤ z.phase2
  pub three : 1 ≤ z.phase3
  pub four : 1 ≤ z.phase4
  pub longest : lease z ≤ lease_longest

pub record Rates (z : Settings) : Type 0 where
  pub base : 1 ≤ z.d
  pub largest : z.d ≤ rate_largest
  pub allowance : z.n ≤ z.d

pub record Counts (z : Settings) : Type 0 where
  pub answer : 1 ≤ z.r
  pub answer_longest_lem : z.r ≤ answer_longest
  pub stations : 1 ≤ z.stations
  pub stations_most : z.stations ≤ most_stations
  pub profiles : 1 ≤ z.profiles
  pub profiles_most : z.profiles ≤ most_profiles

pub record Ranges (z : Settings) : Type 0 where
  pub lengths : Lengths z
  pub rates : Rates z
  pub counts : Counts z

both : (a b : Bool) → (a && b) ≡ true → (a ≡ true) × (b ≡ true)
both a b = (and-eq-true_iff a b).0

-- a test is false where it would bound a number that is past the bound
pub refuted : (b : Bool) (x y : ℕ) → (b ≡ true → x ≤ y) → y < x → false ≡ b
refuted true x y f h = let g = f refl in absurd (omega arith)
refuted false x y f h = refl

bounds : (low high x : ℕ) → within low high x ≡ true → (low ≤ x) × (x ≤ high)
bounds low high x e =
    let p = both (leb low x) (leb x high) e in
    (leb-true low x p.0, leb-true x high p.1)

module _ (z : Settings) where
  pub lengths : lengths_good z ≡ true → Lengths z
  unfolding lengths_good
  lengths e =
      let e4 = both (leb 1 z.phase1 && leb 1 z.phase2 && leb 1 z.phase3 && leb 1 z.phase4) (within lease_shortest lease_longest (lease z)) e in
      let e3 = both (leb 1 z.phase1 && leb 1 z.phase2 && leb 1 z.phase3) (leb 1 z.phase4) e4.0 in
      let e2 = both (leb 1 z.phase1 && leb 1 z.phase2) (leb 1 z.phase3) e3.0 in
      let e1 = both (leb 1 z.phase1) (leb 1 z.phase2) e2.0 in
      record {
        one = leb-true _ _ e1.0;
        two = leb-true _ _ e1.1;
        three = leb-true _ _ e2.1;
        four = leb-true _ _ e3.1;
        longest = (bounds lease_shortest lease_longest (lease z) e4.1).1;
      }

  -- none is longer than the whole
  pub each : Lengths z → (z.phase1 ≤ lease_longest) × (z.phase2 ≤ lease_longest) × (z.phase3 ≤ lease_longest) × (z.phase4 ≤ lease_longest)
  each k = let l = k.longest in (omega arith, omega arith, omega arith, omega arith)

  pub rates : rate_good z ≡ true → Rates z
  unfolding rate_good
  rates e =
      let e1 = both (within 1 rate_largest z.d) (within 0 z.d z.n) e in
      let d = bounds 1 rate_largest z.d e1.0 in
      record { base = d.0; largest = d.1; allowance = (bounds 0 z.d z.n e1.1).1 }

  pub counts : counts_good z ≡ true → Counts z
  unfolding counts_good
  counts e =
      let e2 = both (within 1 answer_longest z.r && within 1 most_stations z.stations) (within 1 most_profiles z.profiles) e in
      let e1 = both (within 1 answer_longest z.r) (within 1 most_stations z.stations) e2.0 in
      let r = bounds 1 answer_longest z.r e1.0 in
      let s = bounds 1 most_stations z.stations e1.1 in
      let p = bounds 1 most_profiles z.profiles e2.1 in
      record {
        answer = r.0;
        answer_longest_lem = r.1;
        stations = s.0;
        stations_most = s.1;
        profiles = p.0;
        profiles_most = p.1;
      }

  pub ranges : in_range z ≡ true → Ranges z
  ranges e =
      let e2 = both (lengths_good z && rate_good z) (counts_good z) e in
      let e1 = both (lengths_good z) (rate_good z) e2.0 in
      record { lengths = lengths e1.0; rates = rates e1.1; counts = counts e2.1 }

  -- the last test of each decides, where the ones before it passed
  pub last_length : 1 ≤ z.phase1 → 1 ≤ z.phase2 → 1 ≤ z.phase3 → 1 ≤ z.phase4 → leb (lease z) lease_longest ≡ lengths_good z
  unfolding lengths_good
  last_length h1 h2 h3 h4 =
      simp (le-leb 1 z.phase1 h1, le-leb 1 z.phase2 h2, le-leb 1 z.phase3 h3, le-leb 1 z.phase4 h4, le-leb lease_shortest (lease z) (omega arith))

  pub last_rate : 1 ≤ z.d → z.d ≤ rate_largest → leb z.n z.d ≡ rate_good z
  unfolding rate_good
  last_rate h k = simp (le-leb 1 z.d h, le-leb z.d rate_largest k, le-leb 0 z.n (omega arith))

  pub last_count : 1 ≤ z.r → z.r ≤ answer_longest → 1 ≤ z.stations → z.stations ≤ most_stations → 1 ≤ z.profiles → leb z.profiles most_profiles ≡ counts_good z
  unfolding counts_good
  last_count h1 h2 h3 h4 h5 =
      simp (le-leb 1 z.r h1, le-leb z.r answer_longest h2, le-leb 1 z.stations h3, le-leb z.stations most_stations h4, le-leb 1 z.profiles h5)

  -- what the code's answer tells
  pub good : settings_refusal z ≡ Ok tt → in_range z ≡ true
  good e = (past_unless (in_range z) (Ok tt) refusal.Settings e).0

  pub bad : (v : Verdict) → v ≡ settings_refusal z → (v ≡ Ok tt → ⊥) → in_range z ≡ false
  bad v e h = by_test (in_range z) refl
    where
      by_test : (t : Bool) → in_range z ≡ t → in_range z ≡ false
      by_test true q = absurd (h (e ∙ ap (λ (t : Bool). cond t (Ok tt) (Err refusal.Settings)) q))
      by_test false q = q

  pub lease_known : (l : ℕ) → lease_checked z ≡ Ok l → (in_range z ≡ true) × (l ≡ lease z)
  lease_known l e = by_test (in_range z) refl
    where
      by_test : (t : Bool) → in_range z ≡ t → (in_range z ≡ true) × (l ≡ lease z)
      by_test true q = grind arith
      by_test false q = grind arith

  -- the lease and the wait, by the test: 0 where the settings are out of range, and refusal 1 where they are checked
  pub answer_bad : (x : ℕ) → in_range z ≡ false → 0 ≡ cond (in_range z) x 0
  answer_bad x e = sym (ap (λ (t : Bool). cond t x 0) e)

  pub answer_good : (x : ℕ) → in_range z ≡ true → x ≡ cond (in_range z) x 0
  answer_good x e = sym (ap (λ (t : Bool). cond t x 0) e)

  pub checked_bad : (x : ℕ) → in_range z ≡ false → Err refusal.Settings ≡ cond (in_range z) (Ok x) (Err refusal.Settings)
  checked_bad x e = sym (ap (λ (t : Bool). cond t (Ok x) (Err refusal.Settings)) e)

  pub checked_good : (x : ℕ) → in_range z ≡ true → Ok x ≡ cond (in_range z) (Ok x) (Err refusal.Settings)
  checked_good x e = sym (ap (λ (t : Bool). cond t (Ok x) (Err refusal.Settings)) e)
