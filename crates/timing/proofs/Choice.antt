-- What a reading that is not refused tells, and a time by the ticks since.
-- Assumes nothing.
use Rattle.std.proofs.Common.{◌≡◌, ℕ, ◌+◌, ◌-◌, ◌≤◌, Bool, true, false, cond, not, ltb, leb, sym, refl, ap, ◌∙◌, arith, ltb-false, le-ltb, lt-ltb, le-leb, leb-false, leb-true, Ok, Err}
use borrow.Author.Tests.{lt-leb}
use Rattle.timing.specs.Limits.{reading_limit}
use Rattle.refusals.specs.declared.Refusal.TheVariants.{AboveLimit, BelowLast}
use Rattle.refusals.proofs.Choice.{past_if}
use Rattle.timing.specs.Reading.{reading_refusal, passed}

pub both : {A B C : Type 0} (f : A → B → C) {a b : A} {c d : B} → a ≡ b → c ≡ d → f a c ≡ f b d
both f {a} {b} {c} {d} e g = ap (λ (x : _). f x c) e ∙ ap (f b) g

pub reading_good : (last now : ℕ) → reading_refusal last now ≡ Ok tt → (now ≤ reading_limit) × (last ≤ now)
reading_good last now e =
    let limit = past_if (ltb reading_limit now) AboveLimit (cond (ltb now last) (Err BelowLast) (Ok tt)) e in
    let back = past_if (ltb now last) BelowLast (Ok tt) limit.1 in
    (ltb-false reading_limit now limit.0, ltb-false now last back.0)

-- a time that began by now, by the ticks since
pub ahead : (since ticks now : ℕ) → since ≤ now → leb ticks (now - since) ≡ passed since ticks now
ahead since ticks now h = by_test (leb ticks (now - since)) refl
  where
    by_test : (t : Bool) → leb ticks (now - since) ≡ t → t ≡ passed since ticks now
    by_test true e = sym (le-leb (since + ticks) now (omega (arith, leb-true ticks (now - since) e)))
    by_test false e = sym (lt-leb (since + ticks) now (omega (arith, leb-false ticks (now - since) e)))

pub below_not : (a b : ℕ) → ltb a b ≡ not (leb b a)
below_not a b = by_test (leb b a) refl
  where
    by_test : (t : Bool) → leb b a ≡ t → ltb a b ≡ not t
    by_test true e = le-ltb a b (leb-true b a e)
    by_test false e = lt-ltb a b (leb-false b a e)
