-- `ask` answers by the ask rule.
use Rattle.profiles.proofs.Asking.{granted_way, in_use_way, wait_way}
use Rattle.profiles.proofs.Told.{ruled_said}
use mathlib.Core.Path.{◌≡◌, ap}
use Prim.Native.Nat.{ℕ}
use lib.ListN.{length}
use Rattle.masks.specs.Mask.{set_of}
use Rattle.masks.proofs.Walk.{mapped_length}
use Rattle.timing.specs.Limits.{most_stations}
use borrow.Author.Rules.{rules}
use Rattle.profiles.proofs.ask.ask.Goals as goal

pub returns-then-conflicts-eq0 : goal.returns-then-conflicts-eq0
returns-then-conflicts-eq0 c =
    let a = c.args in
    ruled_said _ _
    (granted_way (set_of most_stations a.live) a.number a.now a.me a.asked.0 a.profile _ c.held.ensures _ c.join-wanted.ensures _ c.conflicts-conflicts.ensures c.if-conflicts-eq0.true _ c.with_mode.ensures)

pub returns-then-conflicts-kept-ne0 : goal.returns-then-conflicts-kept-ne0
returns-then-conflicts-kept-ne0 c =
    let a = c.args in
    let kept = c.kept_in-kept.ensures in
    let dropped = c.without_kept.ensures in
    ruled_said _ _
    (in_use_way (set_of most_stations a.live) a.number a.now a.me a.asked.0 a.profile _ c.held.ensures _ c.join-wanted.ensures _ c.conflicts-conflicts.ensures c.if-conflicts-eq0.false _ kept c.if-conflicts-kept-ne0.true _ dropped)

pub returns : goal.returns
returns c =
    let a = c.args in
    let n : length a.profile.row ≡ 16 = search (rules, mapped_length) in
    let kept = c.kept_in-kept.ensures in
    let demanded = c.demanded.ensures in
    ruled_said _ _
    (wait_way (set_of most_stations a.live) a.number a.now a.me a.asked.0 a.profile _ c.held.ensures _ c.join-wanted.ensures _ c.conflicts-conflicts.ensures c.if-conflicts-eq0.false _ kept a.live (ap (λ (n : ℕ). set_of n a.live) n) c.if-conflicts-kept-ne0.false _ demanded _ c.count.ensures)
