-- A set of stations, or of profiles: whether each is in it, in their order. Its mask has the first as the lowest bit.
use Rattle.std.specs.Prelude.{Bool, true, false, cond, ◌&&◌, ◌||◌, List, [], ◌∷◌, ℕ, zero, suc, ◌+◌, ◌*◌, ◌/◌, ◌%◌, eqb}

abbrev pub Set : Type 0
Set = List Bool

abbrev pub bit_of : Bool → ℕ
bit_of true = 1
bit_of false = 0

abbrev pub mask : Set → ℕ
mask [] = 0
mask (b ∷ bs) = mask bs * 2 + bit_of b

-- how many are in it
abbrev pub count : Set → ℕ
count [] = 0
count (b ∷ bs) = bit_of b + count bs

abbrev pub any : Set → Bool
any [] = false
any (b ∷ bs) = b || any bs

-- those in both sets, and those in either
abbrev pub both : Set → Set → Set
both [] t = []
both (a ∷ s) [] = []
both (a ∷ s) (b ∷ t) = (a && b) ∷ both s t

abbrev pub either : Set → Set → Set
either [] t = t
either (a ∷ s) [] = a ∷ s
either (a ∷ s) (b ∷ t) = (a || b) ∷ either s t

-- the set of n that a number stands for, whatever number it is: a mask's own set is proved to be the one it came from
abbrev pub set_of : ℕ → ℕ → Set
set_of zero w = []
set_of (suc n) w = eqb (w % 2) 1 ∷ set_of n (w / 2)

module _ {A : Type 0} where
  -- those whose element, with its place, passes the test; the first has the place k
  abbrev pub those_at : (ℕ → A → Bool) → ℕ → List A → Set
  those_at f k [] = []
  those_at f k (x ∷ xs) = f k x ∷ those_at f (suc k) xs

  -- those whose element passes the test
  abbrev pub those : (A → Bool) → List A → Set
  those f [] = []
  those f (x ∷ xs) = f x ∷ those f xs

  -- the elements of those in a set, changed
  abbrev pub change_in : (A → A) → Set → List A → List A
  change_in f [] xs = xs
  change_in f (b ∷ bs) [] = []
  change_in f (b ∷ bs) (x ∷ xs) = cond b (f x) x ∷ change_in f bs xs

  -- the same by the set's mask, as code goes through it: the lowest bit for the first element
  abbrev pub change_under : (A → A) → ℕ → List A → List A
  change_under f w [] = []
  change_under f w (x ∷ xs) = cond (eqb (w % 2) 1) (f x) x ∷ change_under f (w / 2) xs

  -- whether an element under the mask passes the test
  abbrev pub some_under : (A → Bool) → ℕ → List A → Bool
  some_under f w [] = false
  some_under f w (x ∷ xs) = (eqb (w % 2) 1 && f x) || some_under f (w / 2) xs

  -- one element, by the lowest bit
  abbrev pub lowest : (A → A) → ℕ → A → A
  lowest f w x = cond (eqb (w % 2) 1) (f x) x
