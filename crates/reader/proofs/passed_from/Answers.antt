-- Each record that is passed lies within the bytes, so that the count stays below their number and the rest gets shorter.
use Rattle.std.proofs.Common.{◌≡◌, ℕ, ◌+◌, ◌-◌, suc, length, sym, ap, ◌∙◌, add-one, arith}
use Rattle.record.proofs.Said.{said_read_injective}
use Rattle.reader.specs.Reader.{passing}
use Rattle.reader.proofs.Passing.{lies, passes}
use Rattle.reader.proofs.passed_from.Goals as goal

pub loop-place-preserved : goal.loop-place-preserved
loop-place-preserved c =
    let s = c.args.s.now in
    let l = c.loop-place in
    let place = c.in-Ok.place in
    let e = sym (said_read_injective _ _ c.in-Ok.ensures) in
    let h = lies s l.next _ _ e in
    let left : length s - l.count ≡ suc (length s - (l.count + 1)) = omega arith in
    record {
      counted = omega arith;
      within = omega arith;
      passed =
          l.invariant.passed
          ∙ passes (length s - l.count) l.count s l.next _ place e
          ∙ ap (λ (k : ℕ). passing k (suc l.count) s place) left
          ∙ ap (λ (k : ℕ). passing (suc (length s - (l.count + 1))) k s place) (sym (add-one l.count));
    }
