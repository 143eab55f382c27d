-- The paper's numbers and values tell every answer apart, so that a promise in them leaves one answer.
-- Assumes nothing.
use Rattle.std.proofs.Common.{◌≡◌, ℕ, ℤ, Result, Ok, Err, Option, ap, arith, true≢false}
use mathlib.Core.Bool.{false≢true}
use Rattle.refusals.specs.declared.Refusal.{Refusal}
use Rattle.refusals.proofs.Told.{number_told}
use Rattle.timing.specs.Reading.{SaidWidened, said_widened}
use Rattle.timing.specs.Lease.{SaidLeft, said_left}
use Rattle.timing.specs.Phase.{said_phase, Running}

pub widened_told : (a b : Result ℕ Refusal) → said_widened a ≡ said_widened b → a ≡ b
widened_told (Ok s) (Ok t) e = ap (λ (r : SaidWidened). Ok r.reading) e
widened_told (Ok s) (Err n) e = absurd (true≢false (ap (λ (r : SaidWidened). r.good) e))
widened_told (Err m) (Ok t) e = absurd (false≢true (ap (λ (r : SaidWidened). r.good) e))
widened_told (Err m) (Err n) e = ap Err (number_told m n (ap (λ (r : SaidWidened). r.refusal) e))

pub left_told : (a b : Result ℤ Refusal) → said_left a ≡ said_left b → a ≡ b
left_told (Ok s) (Ok t) e = ap (λ (r : SaidLeft). Ok r.ticks) e
left_told (Ok s) (Err n) e = absurd (true≢false (ap (λ (r : SaidLeft). r.good) e))
left_told (Err m) (Ok t) e = absurd (false≢true (ap (λ (r : SaidLeft). r.good) e))
left_told (Err m) (Err n) e = ap Err (number_told m n (ap (λ (r : SaidLeft). r.refusal) e))

pub phase_told : (a b : Option Running) → said_phase a ≡ said_phase b → a ≡ b
phase_told a b e = grind arith
