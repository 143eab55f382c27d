-- W, U and X are the modes that cover W.
use Rattle.std.proofs.Common.{◌∙◌}
use Rattle.modes.proofs.Lookup.{writing}
use Rattle.modes.proofs.Mode.writes.Goals as goal

pub returns : goal.returns
returns c =
    c.covers.ensures ∙ writing c.args.self.0
