-- Numbers of several bytes, high first: of any width, there and back.
-- Assumes nothing.
use Prim.Native.Nat.{ℕ, zero, suc, ◌+◌, ◌*◌, ◌/◌, ◌%◌, ◌^◌, ◌<◌}
use mathlib.Core.Path.{◌≡◌, refl, sym, ap, ◌∙◌}
use mathlib.Core.List.{List, [], ◌∷◌}
use native.Mathlib.Omega.{arith}
use native.Mathlib.Nat.{pow-succ', one-le-pow, mod-eq_of_lt, mul_assoc, add_comm, add-mul-div_right}
use lib.Arith.{mod-mul, digits_div, digits_lt}
use lib.Dec.{lit<}
use lib.ListN.{length}
use Rattle.record.specs.Number.{big_endian, digits}

-- every number of a list is a byte
abbrev pub Bytes : List ℕ → Type 0
Bytes [] = Unit {0}
Bytes (b ∷ bs) = (b < 256) × Bytes bs

power : (width : ℕ) → zero < 256 ^ width
power width = one-le-pow width 256 (lit< tt)

length_digits : (width n : ℕ) → length (digits width n) ≡ width
length_digits zero n = refl
length_digits (suc width) n = ap suc (length_digits width n)

low : (width n : ℕ) → big_endian (digits width n) ≡ n % 256 ^ width
low zero n = omega arith
low (suc width) n =
    rw (length_digits width n, low width n, pow-succ' 256 width)
    (sym (mod-mul n {m = 256} {c = 256 ^ width} (lit< tt) (power width)))

-- a number that fits the width is its digits' number
pub digits_back : (width n : ℕ) → n < 256 ^ width → big_endian (digits width n) ≡ n
digits_back width n h = low width n ∙ mod-eq_of_lt h

-- what stands above the width leaves its digits as they are
lower : (width n q : ℕ) → digits width (q * 256 ^ width + n) ≡ digits width n
lower zero n q = refl
lower (suc width) n q =
    let p = 256 ^ width in
    let h : (q * 256 * p + n) / p ≡ n / p + q * 256 = ap (λ (x : ℕ). x / p) (add_comm (q * 256 * p) n) ∙ add-mul-div_right n (q * 256) (power width) in
    let head : (q * 256 * p + n) / p % 256 ≡ n / p % 256 = rw h (omega arith) in
    let tail : digits width (q * 256 * p + n) ≡ digits width n = lower width n (q * 256) in
    rw (pow-succ' 256 width, ← mul_assoc q 256 p) (cc)

below : (bs : List ℕ) → Bytes bs → big_endian bs < 256 ^ length bs
below [] h = lit< tt
below (b ∷ bs) h = rw (pow-succ' 256 (length bs)) (digits_lt h.0 (below bs h.1))

-- bytes are the digits of their number
pub number_back : (bs : List ℕ) → Bytes bs → digits (length bs) (big_endian bs) ≡ bs
number_back [] h = refl
number_back (b ∷ bs) h =
    let n = b * 256 ^ length bs + big_endian bs in
    let head : n / 256 ^ length bs % 256 ≡ b = ap (λ (x : ℕ). x % 256) (digits_div b (below bs h.1)) ∙ mod-eq_of_lt h.0 in
    let tail : digits (length bs) n ≡ bs = lower (length bs) (big_endian bs) b ∙ number_back bs h.1 in
    cc
