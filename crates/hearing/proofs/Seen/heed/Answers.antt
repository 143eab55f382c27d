-- `heed` gives an ask to the ask rule.
use Rattle.std.proofs.Common.{ap, ◌∙◌}
use Rattle.masks.specs.Mask.{set_of}
use Rattle.timing.specs.Limits.{most_stations}
use Rattle.profiles.specs.Ask.{ask_rule}
use Rattle.profiles.proofs.Told.{ruled_told}
use Rattle.hearing.specs.Hear.{ruled_for, heed}
use Rattle.hearing.proofs.Seen.heed.Goals as goal

pub returns-in-Ask : goal.returns-in-Ask
unfolding heed
returns-in-Ask c =
    let a = c.args.self in
    let rule = ask_rule (set_of most_stations a.live) c.in-Ask.number a.reading a.me c.in-Ask.asked.0 a.profile in
    c.answered-in-Ask.ensures ∙ ap (ruled_for a.member) (ruled_told _ rule c.ask-ruled.ensures) ∙ simp c.in-Ask.is
