-- What a closure that is passed to a walk over a list has to do with the function that the walk is stated for.
use Rattle.std.specs.Prelude.{◌≡◌, ℕ}

-- whatever a call at x may answer, it is the function's value there
abbrev pub Tells : {A B : Type 0} → (A → B → Type 0) → (A → B) → Type 0
Tells {A} {B} answers f = (x : A) (b : B) → answers x b → b ≡ f x

-- the same where the call is told the place too
abbrev pub TellsAt : {A B : Type 0} → (ℕ → A → B → Type 0) → (ℕ → A → B) → Type 0
TellsAt {A} {B} answers f = (i : ℕ) (x : A) (b : B) → answers i x b → b ≡ f i x
