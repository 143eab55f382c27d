-- What the wait is worth: it exceeds the lengthened lease by at least one tick and by less than two, and outlasts every lease.
-- Assumes nothing.
use Rattle.std.proofs.Common.{◌≡◌, ℕ, zero, suc, ◌+◌, ◌-◌, ◌*◌, ◌<◌, ◌≤◌, true, mul-le-mul_right, mul-le-mul, lt_of_mul-lt-mul_right, mul-le-mul_left, div-mul-le_self, arith, w64, Fits}
use native.Mathlib.Nat.{lt-div-mul-add}
use Rattle.timing.specs.Limits.{lease_longest}
use Rattle.timing.specs.Settings.{Settings, lease, in_range, wait, Rate}
use Rattle.timing.proofs.Ranges.{ranges}

module _ (z : Settings) (good : in_range z ≡ true) where
  -- W·D is at least L·(D+N) + D
  pub wait_enough : lease z * (z.d + z.n) + z.d ≤ wait z * z.d
  unfolding wait
  wait_enough =
      let k = ranges z good in
      omega (arith, lt-div-mul-add {a = lease z * (z.d + z.n) + (z.d - 1)} k.rates.base)

  -- and less than L·(D+N) + 2·D
  pub wait_sharp : wait z * z.d < lease z * (z.d + z.n) + 2 * z.d
  unfolding wait
  wait_sharp =
      let k = ranges z good in
      omega (arith, div-mul-le_self (lease z * (z.d + z.n) + (z.d - 1)) z.d)

  pub wait_above_lease : lease z < wait z
  wait_above_lease =
      let h : lease z * z.d < wait z * z.d = omega (arith, wait_enough, (ranges z good).rates.base) in
      lt_of_mul-lt-mul_right z.d h

  pub wait_small : wait z ≤ 2 * lease z + 1
  wait_small =
      let h : wait z * z.d < (2 * lease z + 2) * z.d = omega (arith, wait_sharp, mul-le-mul_left (lease z) (ranges z good).rates.allowance) in
      let k : wait z < 2 * lease z + 2 = lt_of_mul-lt-mul_right z.d h in
      omega arith

  -- the rate rule without the subtraction
  pub rate_sum : (a b : ℕ) → Rate z a b → b * z.d < (a + 1) * (z.d + z.n) + z.d
  rate_sum a zero h = omega (arith, (ranges z good).rates.base)
  rate_sum a (suc b) h =
      let e : suc b - 1 ≡ b = omega arith in
      let k : b * z.d < (a + 1) * (z.d + z.n) = rw e at h in
      omega arith

  -- what the server waits through, no lease survives
  pub lease_over : (a b : ℕ) → wait z ≤ b → Rate z a b → lease z ≤ a
  lease_over a b waited rate =
      let h : lease z * (z.d + z.n) < (a + 1) * (z.d + z.n) = omega (arith, wait_enough, mul-le-mul_right z.d waited, rate_sum a b rate) in
      let k : lease z < a + 1 = lt_of_mul-lt-mul_right (z.d + z.n) h in
      omega arith

  -- every step of the code's sum fits 64 bits
  lengthened_small : lease z * (z.d + z.n) ≤ 7_200_000_000_000
  lengthened_small =
      let k = ranges z good in
      let h : z.d + z.n ≤ 2_000_000 = omega arith in
      mul-le-mul {n₂ = lease_longest} {m₂ = 2_000_000} k.lengths.longest h

  pub lengthened_fits : Fits w64 (lease z * (z.d + z.n))
  lengthened_fits = record { fits = omega (arith, lengthened_small) }

  pub dividend_fits : Fits w64 (lease z * (z.d + z.n) + (z.d - 1))
  dividend_fits = record { fits = omega (arith, lengthened_small, (ranges z good).rates.largest) }

  pub wait_fits : Fits w64 (wait z)
  wait_fits = record { fits = omega (arith, wait_small, (ranges z good).lengths.longest) }
