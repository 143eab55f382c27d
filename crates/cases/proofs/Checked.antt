-- Every row of the table holds, by computation.
-- Assumes nothing.
use mathlib.Core.Path.{refl}
use Rattle.timing.specs.Settings.{wait, lengths_good, rate_good, counts_good}
use Rattle.timing.specs.Phase.{phase_after}
use Rattle.timing.specs.Lease.{left_of}
use Rattle.modes.specs.Modes.{is_mode, goes_with, join}
use Rattle.server.specs.State.{new_server}
use Rattle.profiles.specs.Sets.{conflicts, wiped}
use Rattle.profiles.specs.Ask.{ask_rule}
use Rattle.hearing.specs.Hear.{heed, welcome, by_status, if_new, hear}
use Rattle.judging.specs.Refusal.{refusal}
use Rattle.server.specs.Tick.{free, started_set, start}
use Rattle.server.specs.Step.{message, tick, step}
use Rattle.holds.specs.Stage.{phase_at}
use Rattle.cases.specs.Table.{table, Every}

pub checked : Every table
unfolding table wait lengths_good rate_good counts_good phase_after left_of is_mode goes_with join new_server conflicts wiped ask_rule heed welcome by_status if_new hear refusal free started_set start message tick step phase_at
checked =
    (refl, (refl, (refl, (refl, (refl, (refl, (refl, (refl, (refl, (refl, (refl, (refl, (refl, (refl, (refl, tt)))))))))))))))
