-- So many records lie before the place, and the passing has come so far.
use Rattle.std.proofs.Common.{◌≡◌, ◌-◌, ◌*◌, ◌≤◌, suc, length}
use Rattle.reader.specs.Reader.{passing}
use Rattle.reader.proofs.passed_from.Given as goal

abbrev pub invariant-loop-place : goal.invariant-loop-place
invariant-loop-place l =
    record {
      counted : l.count * 11 ≤ l.next;
      within : l.count ≤ length l.s;
      passed : passing (suc (length l.s)) 0 l.s l.at ≡ passing (suc (length l.s - l.count)) l.count l.s l.next;
    }

abbrev pub decreases-loop-place : goal.decreases-loop-place
decreases-loop-place l = length l.s - l.next
