-- One more is looked at: its bit comes on top. At the end the first 64 are gone over, or all of a list that has no more.
use Rattle.std.proofs.Common.{arith, ap, ◌∙◌}
use Rattle.std.proofs.lemmas.List.{length-take, take_all}
use Rattle.masks.specs.Mask.{mask, those_at}
use Rattle.masks.proofs.Laws.{doubled, mask_turn, shifted, gone_over}
use Rattle.masks.proofs.those_at.Goals as goal
use Rattle.masks.proofs.those_at.Goals.{then-test, else-test}

pub loop-i-preserved : goal.loop-i-preserved
loop-i-preserved g c =
    let i = c.loop-i.i in
    let x = c.index-items-i in
    let more = doubled i in
    let short = length-take c.min.result c.args.items.now in
    elim c.if-test.branch [
      | then-test w ↦
          let s = shifted i (omega arith) in
          let e = w.mask-is in (
            omega (arith, s, e, more, c.loop-i.invariant.0),
            λ f t. mask_turn f _ i _ c.loop-i-test.true x.is _ _ _ (t _ _ _ c.test.ensures) (c.loop-i.invariant.1 f t) (rw w.if-test.true (omega (arith, s, e))),
          )
      | else-test w ↦
          let e = w.mask-is in (
            omega (arith, e, more, c.loop-i.invariant.0),
            λ f t. mask_turn f _ i _ c.loop-i-test.true x.is _ _ _ (t _ _ _ c.test.ensures) (c.loop-i.invariant.1 f t) (rw w.if-test.false (omega (arith, e))),
          )
    ]

pub returns : goal.returns
returns g c =
    let seen = gone_over c.args.items.now 64 c.min.result c.loop-i.i (omega arith) c.loop-i-test.false in
    record {
      first = λ f t. c.loop-i.invariant.1 f t ∙ ap (λ xs. mask (those_at f 0 xs)) seen;
      fits = λ h f t. c.loop-i.invariant.1 f t ∙ ap (λ xs. mask (those_at f 0 xs)) (seen ∙ take_all 64 _ h);
    }
