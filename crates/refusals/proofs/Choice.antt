-- The lowest of several refusals: how it is found, and what it tells that none applies.
-- Assumes nothing.
use Rattle.std.proofs.Common.{◌≡◌, Bool, true, false, cond, refl, sym, ap, ◌∙◌, Ok, Err, arith}
use Rattle.refusals.specs.Refusal.{Verdict, or_else}
use Rattle.refusals.specs.declared.Refusal.{Refusal}

-- the lower of two, r being what the first of them says
pub first : (r a b : Verdict) → r ≡ a → (r ≡ Ok tt → ⊥) → r ≡ or_else a b
first r (Ok u) b e h = absurd (h e)
first r (Err n) b e h = e

pub next : (r a b k : Verdict) → r ≡ a → r ≡ Ok tt → k ≡ b → k ≡ or_else a b
next r a b k e z g = g ∙ ap (λ (v : Verdict). or_else v b) (sym z ∙ e)

-- neither applies
pub or_ok : (a b : Verdict) → or_else a b ≡ Ok tt → (a ≡ Ok tt) × (b ≡ Ok tt)
or_ok (Ok u) b e = (refl, e)
or_ok (Err r) b e = grind arith

-- past a refusal r that applies if a test holds, or unless it does: what that tells of the test, and of the rest
pub past_if : (t : Bool) (r : Refusal) (rest : Verdict) → cond t (Err r) rest ≡ Ok tt → (t ≡ false) × (rest ≡ Ok tt)
past_if true r rest e = grind arith
past_if false r rest e = (refl, e)

pub past_unless : (t : Bool) (rest : Verdict) (r : Refusal) → cond t rest (Err r) ≡ Ok tt → (t ≡ true) × (rest ≡ Ok tt)
past_unless true rest r e = (refl, e)
past_unless false rest r e = grind arith
