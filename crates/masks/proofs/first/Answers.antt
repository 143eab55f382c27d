-- `first` answers the place of the first of a set of stations, and of the last where no other is in it.
use lib.Dec.{lit<}
use Rattle.masks.proofs.Laws.{first_up_to}
use Rattle.masks.proofs.first.Goals as goal

pub returns : goal.returns
returns c =
    first_up_to 15 64 c.args.stations (lit< tt)
