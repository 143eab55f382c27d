-- The settings, the lease, the wait and the rate rule.
use Rattle.std.specs.Prelude.{ℕ, ◌+◌, ◌-◌, ◌*◌, ◌/◌, ◌<◌, Bool, cond, ◌&&◌, nat_le, Result, Ok, Err}
use Rattle.refusals.specs.Refusal.{Verdict}
use Rattle.refusals.specs.declared.Refusal.{Refusal}
use Rattle.refusals.specs.declared.Refusal.TheVariants as refusal
use Rattle.timing.specs.Limits.{lease_shortest, lease_longest, rate_largest, answer_longest, most_stations, most_profiles}
pub use Rattle.timing.specs.declared.settings.Settings.{Settings}

-- settings from nine numbers: four phase lengths, N, D, R, stations, profiles
abbrev pub settings : ℕ → ℕ → ℕ → ℕ → ℕ → ℕ → ℕ → ℕ → ℕ → Settings
settings phase1 phase2 phase3 phase4 n d r stations profiles =
    record {
      phase1 = phase1;
      phase2 = phase2;
      phase3 = phase3;
      phase4 = phase4;
      n = n;
      d = d;
      r = r;
      stations = stations;
      profiles = profiles;
    }

-- "Four phase lengths .. whose sum is the lease L"
abbrev pub lease : Settings → ℕ
lease z = z.phase1 + z.phase2 + z.phase3 + z.phase4

abbrev pub within : ℕ → ℕ → ℕ → Bool
within low high x = nat_le low x && nat_le x high

-- "Four phase lengths, in ticks, each at least 1, whose sum is the lease L, so from 4 to 3,600,000."
unfoldable pub lengths_good : Settings → Bool
lengths_good z =
    nat_le 1 z.phase1
    && nat_le 1 z.phase2
    && nat_le 1 z.phase3
    && nat_le 1 z.phase4
    && within lease_shortest lease_longest (lease z)

-- "Rate allowance N/D, D from 1 to 1,000,000, N from 0 to D."
unfoldable pub rate_good : Settings → Bool
rate_good z = within 1 rate_largest z.d && within 0 z.d z.n

-- "Answer time R, 1 to 3,600,000. Stations 1 to 16, profiles 1 to 64"
unfoldable pub counts_good : Settings → Bool
counts_good z =
    within 1 answer_longest z.r && within 1 most_stations z.stations && within 1 most_profiles z.profiles

abbrev pub in_range : Settings → Bool
in_range z = lengths_good z && rate_good z && counts_good z

-- refusal 1: "a setting out of range"
abbrev pub settings_refusal : Settings → Verdict
settings_refusal z = cond (in_range z) (Ok tt) (Err refusal.Settings)

-- a quotient "rounded up to a whole number"
abbrev pub rounded_up : ℕ → ℕ → ℕ
rounded_up a d = (a + (d - 1)) / d

-- "The wait is W = L·(D+N)/D rounded up to a whole number, plus 1." It means something for settings in range only.
unfoldable pub wait : Settings → ℕ
wait z = rounded_up (lease z * (z.d + z.n)) z.d + 1

-- what the code answers of the lease and the wait: 0 where the settings are out of range
abbrev pub lease_answer : Settings → ℕ
lease_answer z = cond (in_range z) (lease z) 0

abbrev pub wait_answer : Settings → ℕ
wait_answer z = cond (in_range z) (wait z) 0

-- the same with refusal 1 there
abbrev pub lease_checked : Settings → Result ℕ Refusal
lease_checked z = cond (in_range z) (Ok (lease z)) (Err refusal.Settings)

abbrev pub wait_checked : Settings → Result ℕ Refusal
wait_checked z = cond (in_range z) (Ok (wait z)) (Err refusal.Settings)

-- "with reading differences a on one clock and b on the other, (b-1)·D < (a+1)·(D+N)", one way round.
-- Where b is 0 the paper's left side is below 0, and here it is 0: the rule holds of both, since D is at least 1.
abbrev pub Rate : Settings → ℕ → ℕ → Type 0
Rate z a b = (b - 1) * z.d < (a + 1) * (z.d + z.n)

-- ".., either way round"
abbrev pub RateRule : Settings → ℕ → ℕ → Type 0
RateRule z a b = Rate z a b × Rate z b a
