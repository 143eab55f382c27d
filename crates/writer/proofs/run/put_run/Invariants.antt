-- A run is written message by message: what is written so far, and then the rest of the run.
use Rattle.std.proofs.Common.{◌≡◌, drop}
use Rattle.writer.specs.Run.{run_answer, run_content}
use Rattle.writer.proofs.run.put_run.Given as goal

abbrev pub invariant-loop-written : goal.invariant-loop-written
invariant-loop-written l =
    record {
      answer : run_answer 0 l.messages l.at l.initial.buf ≡ run_answer l.written (drop l.written l.messages) l.next l.buf;
      content : run_content l.messages l.at l.initial.buf ≡ run_content (drop l.written l.messages) l.next l.buf;
    }
