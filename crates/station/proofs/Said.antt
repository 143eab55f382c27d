-- The paper's numbers and values tell every answer apart, so that a promise in them leaves one answer.
-- Assumes nothing.
use mathlib.Core.Path.{◌≡◌, ap}
use mathlib.Core.Bool.{Bool}
use Rattle.std.proofs.Common.{Option, Result, arith}
use Rattle.refusals.specs.declared.Refusal.{Refusal}
use Rattle.refusals.proofs.Told.{number_told}
use Rattle.timing.specs.declared.settings.Phase.{Phase}
use Rattle.station.specs.Effect.{Answer}
use Rattle.station.specs.Station.{Stepped}
use Rattle.station.specs.Said.{said, Told, told, said_phase, said_use}
use Rattle.timing.proofs.Choice.{both}

pub answer_told : (a b : Answer) → said a ≡ said b → a ≡ b
answer_told a b e = grind (arith, number_told)

pub step_told : (a b : Stepped) → told a ≡ told b → a ≡ b
step_told a b e =
    let f : a.answer ≡ b.answer = answer_told a.answer b.answer (ap (λ (t : Told). t.answer) e) in
    both (λ (x : Answer) (t : Told). record { station = t.station; answer = x; lost = t.lost; count = t.count }) f e

pub phase_told : (a b : Result (Option Phase) Refusal) → said_phase a ≡ said_phase b → a ≡ b
phase_told a b e = grind (arith, number_told)

pub use_told : (a b : Result Bool Refusal) → said_use a ≡ said_use b → a ≡ b
use_told a b e = grind (arith, number_told)
