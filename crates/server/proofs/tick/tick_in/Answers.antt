-- `tick_in` frees, and then starts.
use Rattle.std.proofs.Common.{◌≡◌, ℕ, ap, ◌∙◌}
use Rattle.masks.specs.Mask.{mask}
use Rattle.members.specs.Member.{is_waited, members_with}
use Rattle.profiles.specs.Sets.{late_set}
use Rattle.server.specs.Tick.{freed_set}
use Rattle.server.specs.Step.{Served}
use Rattle.timing.specs.Settings.{wait_answer}
use Rattle.server.proofs.Stepping.{ticked}
use Rattle.server.proofs.tick.tick_in.Goals as goal

pub returns : goal.returns
returns c =
    let now : ℕ = c.args.reading in
    let s = c.args.server.now in
    let m : ℕ = c.waited_in-freed.result in
    let members = c.turn_in.new.members in
    let profiles = c.wipe_in.new.profiles in
    let is_freed : m ≡ mask (freed_set (wait_answer s.settings) now s) = c.waited_in-freed.ensures
    ∙ ap (λ (n : ℕ). mask (members_with (is_waited n now) s.members)) c.wait-wait.ensures in
    let is_late : c.late_in-late.result ≡ mask (late_set s.settings.r now profiles) = c.late_in-late.ensures
    ∙ ap (λ (r : ℕ). mask (late_set r now profiles)) c.answer_time.ensures in
    let t = ticked s (wait_answer s.settings) now m is_freed members c.turn_in.ensures profiles c.wipe_in.ensures c.late_in-late.result c.live_in.result is_late c.live_in.ensures c.turn_in-2.new.members c.turn_in-2.ensures in
    (ap (λ (y : Served). y.server) t, ap (λ (y : Served). y.answer) t)
