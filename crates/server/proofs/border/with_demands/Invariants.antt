-- `with_demands` puts a demand to each station of a set after the first message, in station order.
use Rattle.std.proofs.Common.{◌∷◌}
use Rattle.server.specs.Border.{demands_from}
use Rattle.server.proofs.Runs.{Turned}
use Rattle.server.proofs.border.with_demands.Given as goal

abbrev pub invariant-loop-station : goal.invariant-loop-station
invariant-loop-station l =
    Turned l.station l.rest l.profile l.wanted (l.fn.first ∷ demands_from 16 0 l.stations l.profile l.wanted) l.run
