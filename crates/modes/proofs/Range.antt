-- A test that passes at each number below n, computed once, said of every number, every two and every three.
-- Assumes nothing.
use mathlib.Core.Path.{◌≡◌, refl}
use mathlib.Core.Bool.{Bool, true, false, ◌&&◌, ◌||◌, not, beq, and-eq-true_iff, false≢true}
use Prim.Native.Nat.{ℕ, zero, suc, ◌<◌}
use native.Mathlib.Nat.{le_of_suc-le-suc, not-suc-le-zero}

-- the test f passes at each number below n
abbrev pub every : ℕ → (ℕ → Bool) → Bool
every zero f = true
every (suc n) f = f 0 && every n (λ (i : ℕ). f (suc i))

abbrev pub every2 : ℕ → (ℕ → ℕ → Bool) → Bool
every2 n f = every n (λ (i : ℕ). every n (f i))

abbrev pub every3 : ℕ → (ℕ → ℕ → ℕ → Bool) → Bool
every3 n f = every n (λ (i : ℕ). every2 n (f i))

pub at : (n : ℕ) (f : ℕ → Bool) → every n f ≡ true → (k : ℕ) → k < n → f k ≡ true
at zero f e k h = absurd (not-suc-le-zero h)
at (suc n) f e zero h = ((and-eq-true_iff (f 0) (every n (λ (i : ℕ). f (suc i)))).0 e).0
at (suc n) f e (suc k) h =
    at n (λ (i : ℕ). f (suc i)) ((and-eq-true_iff (f 0) (every n (λ (i : ℕ). f (suc i)))).0 e).1 k (le_of_suc-le-suc h)

pub at2 : (n : ℕ) (f : ℕ → ℕ → Bool) → every2 n f ≡ true → (i j : ℕ) → i < n → j < n → f i j ≡ true
at2 n f e i j hi hj = at n (f i) (at n (λ (i : ℕ). every n (f i)) e i hi) j hj

pub at3 : (n : ℕ) (f : ℕ → ℕ → ℕ → Bool) → every3 n f ≡ true → (i j k : ℕ) → i < n → j < n → k < n → f i j k ≡ true
at3 n f e i j k hi hj hk = at2 n (f i) (at n (λ (i : ℕ). every2 n (f i)) e i hi) j k hj hk

-- the tests that stand for 'the same' and for 'if .. then ..'
pub same : (a b : Bool) → beq a b ≡ true → a ≡ b
same true true e = refl
same true false e = absurd (false≢true e)
same false true e = absurd (false≢true e)
same false false e = refl

pub implied : (a b : Bool) → (not a || b) ≡ true → a ≡ true → b ≡ true
implied true b e h = e
implied false b e h = absurd (false≢true h)
