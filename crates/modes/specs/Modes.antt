-- The paper's 'Modes': who goes with whom, who covers whom, what two modes join to, who writes.
-- A mode is its number. `goes_with`, `covers`, `join`, `writes` and `is_mode` are the rules, total on every number: one above 6 counts
-- as 0, no lock. What they are made of (`companions`, `goes`, `over` ..) is for numbers up to 6.
use Rattle.std.specs.Prelude.{Bool, true, false, cond, ◌&&◌, ◌||◌, not, List, [], ◌∷◌, ℕ, zero, suc, eqb, leb}
use Rattle.modes.specs.declared.Mode.{Mode}

-- "M 1, R 2, S 3, W 4, U 5, X 6; 0 is no lock."
abbrev pub M : ℕ
M = 1

abbrev pub R : ℕ
R = 2

abbrev pub S : ℕ
S = 3

abbrev pub W : ℕ
W = 4

abbrev pub U : ℕ
U = 5

abbrev pub X : ℕ
X = 6

-- a mode's number as the code's value
abbrev pub mode : ℕ → Mode
mode n = record { 0 = n }

-- a number as a mode: what is not 1 to 6 counts as 0
abbrev pub as_mode : ℕ → ℕ
as_mode n = cond (leb n X) n 0

-- whether it is one of the six
unfoldable pub is_mode : ℕ → Bool
is_mode n = leb M n && leb n X

abbrev pub among : ℕ → List ℕ → Bool
among n [] = false
among n (k ∷ ks) = eqb n k || among n ks

-- the row of a mode, in the order no lock, M, R, S, W, U, X
abbrev pub row_of : ℕ → List ℕ → List ℕ → List ℕ → List ℕ → List ℕ → List ℕ → List ℕ
row_of zero m r s w u x = []
row_of (suc zero) m r s w u x = m
row_of (suc (suc zero)) m r s w u x = r
row_of (suc (suc (suc zero))) m r s w u x = s
row_of (suc (suc (suc (suc zero)))) m r s w u x = w
row_of (suc (suc (suc (suc (suc zero))))) m r s w u x = u
row_of (suc (suc (suc (suc (suc (suc n)))))) m r s w u x = x

-- "Compatible (document 004, table 2)": the modes that each of the six goes with
abbrev pub companions : ℕ → List ℕ
companions n =
    row_of
    n
    (M ∷ R ∷ S ∷ W ∷ U ∷ X ∷ [])
    (M ∷ R ∷ S ∷ W ∷ U ∷ [])
    (M ∷ R ∷ S ∷ [])
    (M ∷ R ∷ W ∷ [])
    (M ∷ R ∷ [])
    (M ∷ [])

-- "X covers all six; U covers M R S W U; S covers M R S; W covers M R W; R covers M R; M covers M."
abbrev pub covered : ℕ → List ℕ
covered n =
    row_of
    n
    (M ∷ [])
    (M ∷ R ∷ [])
    (M ∷ R ∷ S ∷ [])
    (M ∷ R ∷ W ∷ [])
    (M ∷ R ∷ S ∷ W ∷ U ∷ [])
    (M ∷ R ∷ S ∷ W ∷ U ∷ X ∷ [])

-- the two relations among 0 to 6: no lock goes with everything and is covered by everything
abbrev pub goes : ℕ → ℕ → Bool
goes a b = eqb a 0 || eqb b 0 || among b (companions a)

abbrev pub over : ℕ → ℕ → Bool
over a b = eqb b 0 || among b (covered a)

abbrev pub zero_to_x : List ℕ
zero_to_x = 0 ∷ M ∷ R ∷ S ∷ W ∷ U ∷ X ∷ []

abbrev pub covers_both : ℕ → ℕ → ℕ → Bool
covers_both a b m = over m a && over m b

abbrev pub all_of : (ℕ → Bool) → List ℕ → Bool
all_of p [] = true
all_of p (m ∷ ms) = p m && all_of p ms

abbrev pub first_of : (ℕ → Bool) → List ℕ → ℕ
first_of p [] = 0
first_of p (m ∷ ms) = cond (p m) m (first_of p ms)

-- "the least that covers both": it does, and whatever else does covers it
abbrev pub is_least : ℕ → ℕ → ℕ → Bool
is_least a b m = covers_both a b m && all_of (λ (n : ℕ). not (covers_both a b n) || over n m) zero_to_x

-- whether two stations may hold a and b on one profile
unfoldable pub goes_with : ℕ → ℕ → Bool
goes_with a b = goes (as_mode a) (as_mode b)

-- whether a covers b
unfoldable pub covers : ℕ → ℕ → Bool
covers a b = over (as_mode a) (as_mode b)

-- "The join of two modes is the least that covers both"
unfoldable pub join : ℕ → ℕ → ℕ
join a b = first_of (is_least (as_mode a) (as_mode b)) zero_to_x

-- "Only W, U, X write."
unfoldable pub writes : ℕ → Bool
writes a = among (as_mode a) (W ∷ U ∷ X ∷ [])
