-- The paper's 'Settings and clocks': the limits, each once.
use Rattle.std.specs.Prelude.{ℕ}

-- "Readings run from 0 to 4,000,000,000,000."
abbrev pub reading_limit : ℕ
reading_limit = 4_000_000_000_000

-- "the lease L, so from 4 to 3,600,000"
abbrev pub lease_shortest : ℕ
lease_shortest = 4

abbrev pub lease_longest : ℕ
lease_longest = 3_600_000

-- "D from 1 to 1,000,000"
abbrev pub rate_largest : ℕ
rate_largest = 1_000_000

-- "Answer time R, 1 to 3,600,000."
abbrev pub answer_longest : ℕ
answer_longest = 3_600_000

-- "Stations 1 to 16, profiles 1 to 64, both counted from 0."
abbrev pub most_stations : ℕ
most_stations = 16

abbrev pub most_profiles : ℕ
most_profiles = 64
