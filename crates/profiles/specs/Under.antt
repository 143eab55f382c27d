-- What the code's own helpers answer on a profile: the rules' sets by their masks.
-- No rule stands here: `proofs/Under.antt` leads each back to the rules' own definitions.
use Rattle.std.specs.Prelude.{Bool, not, ◌||◌, ℕ, eqb}
use Rattle.masks.specs.Mask.{change_under, some_under}
use Rattle.modes.specs.declared.Mode.{Mode}
use Rattle.members.specs.Mark.{is_marked}
use Rattle.profiles.specs.Profile.{Profile}
use Rattle.profiles.specs.Sets.{wipe_mark, keep_mark, remark, no_mode}

-- a mode is held
abbrev pub is_held : Mode → Bool
is_held m = not (eqb m.0 0)

unfoldable pub wiped_under : ℕ → Profile → Profile
wiped_under w x =
    record { row = change_under no_mode w x.row; marks = change_under (remark wipe_mark) w x.marks }

unfoldable pub kept_under : ℕ → Profile → Profile
kept_under w x = record { row = x.row; marks = change_under (remark keep_mark) w x.marks }

-- a station under the mask has a mode or a mark
unfoldable pub touched_under : ℕ → Profile → Bool
touched_under w x = some_under is_held w x.row || some_under is_marked w x.marks
