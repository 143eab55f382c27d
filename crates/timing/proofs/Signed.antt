-- The difference of two numbers below 2 ^ 63, at 64 signed bits: it fits, and it is the difference of the integers.
-- Assumes nothing.
use Rattle.std.proofs.Common.{◌≡◌, ℕ, zero, suc, ◌-◌, ◌^◌, ◌<◌, Bool, true, false, cond, ltb, pos, negsuc, ◌-ℤ◌, ◌∙◌, arith, to_z-of_z, w64, SFits, to_z, of_z}
use lib.Signed.{mag}
use mir.Facts.{to_z_pos}

either : (t : Bool) (m n h : ℕ) → m < h → n < h → mag (cond t (negsuc m) (pos n)) < h
either true m n h p q = p
either false m n h p q = q

small : (a b h : ℕ) → a < h → b < h → mag (pos a -ℤ pos b) < h
small a zero h p q = omega arith
small a (suc b) h p q = either (ltb a (suc b)) (suc b - suc a) (a - suc b) h (omega arith) (omega arith)

pub fits : (a b : ℕ) → a < 2 ^ 63 → b < 2 ^ 63 → SFits w64 (to_z w64 a -ℤ to_z w64 b)
fits a b p q = rw (to_z_pos w64 p, to_z_pos w64 q) (record { sfits = small a b (2 ^ 63) p q })

pub difference : (a b : ℕ) → a < 2 ^ 63 → b < 2 ^ 63 → to_z w64 (of_z w64 (to_z w64 a -ℤ to_z w64 b)) ≡ pos a -ℤ pos b
difference a b p q = to_z-of_z (fits a b p q) ∙ rw (to_z_pos w64 p, to_z_pos w64 q)
