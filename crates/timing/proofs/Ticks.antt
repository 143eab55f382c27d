-- "positive while the lease lasts, zero at the first tick without it, negative after"
-- Assumes nothing.
use Rattle.std.proofs.Common.{◌≡◌, ℕ, zero, suc, ◌+◌, ◌-◌, ◌<◌, ◌≤◌, pos, negsuc, ◌-ℤ◌, ap, ◌∙◌, arith, le-ltb, lt-ltb, Ok}
use Rattle.timing.specs.Limits.{reading_limit, lease_shortest, lease_longest}
use Rattle.timing.specs.Lease.{left_of}

down : (a b : ℕ) → b ≤ a → pos a -ℤ pos b ≡ pos (a - b)
down a zero h = ap pos (omega arith)
down a (suc b) h = rw (le-ltb a (suc b) h)

under : (a b : ℕ) → a < b → pos a -ℤ pos b ≡ negsuc (b - suc a)
under a zero h = absurd (omega arith)
under a (suc b) h = rw (lt-ltb a (suc b) h)

module _ (start length reading : ℕ) (shortest : lease_shortest ≤ length) (longest : length ≤ lease_longest) (start-good : start ≤ reading_limit) (reading_good : reading ≤ reading_limit) (begun : start ≤ reading) where
  asked : left_of start length reading ≡ Ok (pos (start + length) -ℤ pos reading)
  unfolding left_of
  asked =
      simp (le-ltb length lease_shortest shortest, le-ltb lease_longest length longest, le-ltb reading_limit start start-good, le-ltb reading_limit reading reading_good, le-ltb reading start begun)

  pub lasting : reading < start + length → left_of start length reading ≡ Ok (pos (start + length - reading))
  lasting h = asked ∙ ap Ok (down (start + length) reading (omega arith))

  pub ended : reading ≡ start + length → left_of start length reading ≡ Ok (pos 0)
  ended h = asked ∙ ap Ok (down (start + length) reading (omega arith)) ∙ ap (λ (n : ℕ). Ok (pos n)) (omega arith)

  -- -(n + 1) is `negsuc n`
  pub over : start + length < reading → left_of start length reading ≡ Ok (negsuc (reading - suc (start + length)))
  over h = asked ∙ ap Ok (under (start + length) reading h)
