-- Sets of stations that the rules speak of, and what is done to the modes and marks of a set.
use Rattle.std.specs.Prelude.{Bool, true, false, ◌&&◌, not, List, [], ◌∷◌, ℕ, zero, suc, eqb, replicate}
use Rattle.masks.specs.Mask.{Set, those_at, change_in, either}
use Rattle.modes.specs.Modes.{mode, goes_with}
use Rattle.modes.specs.declared.Mode.{Mode}
use Rattle.timing.specs.Limits.{most_stations}
use Rattle.profiles.specs.Profile.{Profile}
pub use Rattle.members.specs.Member.{is_live, is_waited, members_with, live_set, restatus, turned}
pub use Rattle.members.specs.Mark.{is_kept, is_late, marks_with, wipe_mark, drop_kept, demand, keep_mark, remark, marks_changed}

-- all stations, and one of them
abbrev pub everyone : Set
everyone = replicate most_stations true

abbrev pub only_of : ℕ → ℕ → Set
only_of zero i = []
only_of (suc n) zero = true ∷ replicate n false
only_of (suc n) (suc i) = false ∷ only_of n i

abbrev pub only : ℕ → Set
only i = only_of most_stations i

-- those with a late mark on any profile
abbrev pub late_set : ℕ → ℕ → List Profile → Set
late_set answer now [] = []
late_set answer now (x ∷ xs) = either (marks_with (is_late answer now) x.marks) (late_set answer now xs)

-- another station that holds an incompatible mode
abbrev pub clashes : ℕ → ℕ → ℕ → Mode → Bool
clashes me wanted j held = not (eqb j me) && not (goes_with wanted held.0)

unfoldable pub conflicts : ℕ → ℕ → List Mode → Set
conflicts me wanted row = those_at (clashes me wanted) 0 row

abbrev pub no_mode : Mode → Mode
no_mode m = mode 0

-- a set of stations loses its modes and marks on a profile
unfoldable pub wiped : Set → Profile → Profile
wiped stations x =
    record { row = change_in no_mode stations x.row; marks = marks_changed wipe_mark stations x.marks }
