-- `wipe_in` stores a profile only where something goes.
use Rattle.std.proofs.Common.{◌<◌, sym, ◌∙◌, arith, length, length-set}
use lib.Seq.{set-get_or}
use Rattle.server.specs.State.{no_profile}
use Rattle.server.proofs.Sweeping.{wiped_turn, wiped_left}
use Rattle.server.proofs.sweep.wipe_in.Goals as goal
use Rattle.server.proofs.sweep.wipe_in.Goals.{then-touched, else-touched}

pub loop-profile-preserved : goal.loop-profile-preserved
loop-profile-preserved c =
    let a = c.args in
    let l = c.loop-profile in
    let v = l.invariant in
    let xs = l.profiles in
    let inside : l.profile-index < length xs = omega (arith, v.whole) in
    elim c.if-touched.branch [
      | then-touched w ↦ (
          let e = w.wiped.ensures in
          rw w.profiles-is
          (record { whole = length-set xs l.profile-index w.wiped.result ∙ v.whole; wiped = rw e (wiped_turn a.set a.profiles.now xs l.profile-index inside v.wiped) })
          )
      | else-touched w ↦ rw (w.profiles-is, set-get_or xs l.profile-index no_profile)
          (record { whole = v.whole; wiped = wiped_left a.set a.profiles.now xs l.profile-index inside (sym c.touched.ensures ∙ w.if-touched.false) v.wiped })
    ]
