-- A list of messages as the array and count that the writer of runs takes; blank beyond the count. No rule stands here.
use Rattle.std.specs.Prelude.{cond, List, ◌++◌, ℕ, ◌+◌, ◌-◌, ltb, length, set, replicate}
use Rattle.timing.specs.Limits.{most_stations}
use Rattle.record.specs.declared.message.Message.{Message}
use Rattle.writer.specs.declared.run.Run.{Run}

abbrev pub blank : Message
blank = record { kind = 0; station = 0; number = 0; profile = 0; mode = 0; detail = 0 }

-- the answer and a demand to each station
abbrev pub most : ℕ
most = most_stations + 1

unfoldable pub run_of : List Message → Run
run_of l = record { count = length l; messages = l ++ replicate (most - length l) blank }

-- one message more at the end, while there is room
abbrev pub pushed : Message → Run → Run
pushed m run =
    cond (ltb run.count most)
    (record { count = run.count + 1; messages = set run.messages run.count m })
    run
