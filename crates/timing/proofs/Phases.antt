-- The phase that each stretch of a lease is in.
-- Assumes nothing.
use Rattle.std.proofs.Common.{◌≡◌, ℕ, ◌-◌, ◌<◌, ◌≤◌, sym, ap, ◌∙◌, arith, le-ltb, lt-ltb, None}
use Rattle.timing.specs.Settings.{Settings, lease}
use Rattle.timing.specs.Phase.{SaidPhase, said_phase, edge1, edge2, edge3, phase_after, in_phase, First, Second, Third, Fourth}

module _ (z : Settings) (t : ℕ) where
  pub in_first : t < edge1 z → phase_after z t ≡ in_phase First (edge1 z - t)
  unfolding phase_after
  in_first h = simp (lt-ltb t (edge1 z) h)

  pub in_second : edge1 z ≤ t → t < edge2 z → phase_after z t ≡ in_phase Second (edge2 z - t)
  unfolding phase_after
  in_second h k = simp (le-ltb t (edge1 z) h, lt-ltb t (edge2 z) k)

  pub in_third : edge2 z ≤ t → t < edge3 z → phase_after z t ≡ in_phase Third (edge3 z - t)
  unfolding phase_after
  in_third h k = simp (le-ltb t (edge1 z) (omega arith), le-ltb t (edge2 z) h, lt-ltb t (edge3 z) k)

  pub in_fourth : edge3 z ≤ t → t < lease z → phase_after z t ≡ in_phase Fourth (lease z - t)
  unfolding phase_after
  in_fourth h k =
      simp (le-ltb t (edge1 z) (omega arith), le-ltb t (edge2 z) (omega arith), le-ltb t (edge3 z) h, lt-ltb t (lease z) k)

  pub is_out_lem : lease z ≤ t → phase_after z t ≡ None
  unfolding phase_after
  is_out_lem h =
      simp (le-ltb t (edge1 z) (omega arith), le-ltb t (edge2 z) (omega arith), le-ltb t (edge3 z) (omega arith), le-ltb t (lease z) h)

-- the same as the code finds it, taking off one length after another
module _ (z : Settings) (t : ℕ) where
  abbrev said : ℕ → ℕ → SaidPhase
  said n left = record { number = n; left = left }

  pub first : t < z.phase1 → said 1 (z.phase1 - t) ≡ said_phase (phase_after z t)
  first h = sym (ap said_phase (in_first z t h))

  module _ (h1 : z.phase1 ≤ t) where
    pub second : t - z.phase1 < z.phase2 → said 2 (z.phase2 - (t - z.phase1)) ≡ said_phase (phase_after z t)
    second k = ap (said 2) (omega arith) ∙ sym (ap said_phase (in_second z t h1 (omega arith)))

    module _ (h2 : z.phase2 ≤ t - z.phase1) where
      pub third : t - z.phase1 - z.phase2 < z.phase3 → said 3 (z.phase3 - (t - z.phase1 - z.phase2)) ≡ said_phase (phase_after z t)
      third k = ap (said 3) (omega arith) ∙ sym (ap said_phase (in_third z t (omega arith) (omega arith)))

      module _ (h3 : z.phase3 ≤ t - z.phase1 - z.phase2) where
        pub fourth : t - z.phase1 - z.phase2 - z.phase3 < z.phase4
            → said 4 (z.phase4 - (t - z.phase1 - z.phase2 - z.phase3)) ≡ said_phase (phase_after z t)
        fourth k = ap (said 4) (omega arith) ∙ sym (ap said_phase (in_fourth z t (omega arith) (omega arith)))

        pub none : z.phase4 ≤ t - z.phase1 - z.phase2 - z.phase3 → said 0 0 ≡ said_phase (phase_after z t)
        none k = sym (ap said_phase (is_out_lem z t (omega arith)))
