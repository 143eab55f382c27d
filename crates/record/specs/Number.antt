-- Numbers of several bytes, of any width: the record has "number, 4 bytes, high first".
use Rattle.std.specs.Prelude.{ℕ, zero, suc, ◌+◌, ◌*◌, ◌/◌, ◌%◌, ◌^◌, List, [], ◌∷◌, length}

-- the number that bytes give, high first
abbrev pub big_endian : List ℕ → ℕ
big_endian [] = 0
big_endian (b ∷ bs) = b * 256 ^ length bs + big_endian bs

-- the bytes of a number, high first, so many
abbrev pub digits : ℕ → ℕ → List ℕ
digits zero n = []
digits (suc width) n = n / 256 ^ width % 256 ∷ digits width n
