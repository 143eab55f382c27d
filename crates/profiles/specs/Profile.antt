-- One profile at the server: a row of modes and a row of marks, in station order.
use Rattle.std.specs.Prelude.{[], ℕ, get_or, replicate}
use Rattle.modes.specs.Modes.{mode}
use Rattle.timing.specs.Limits.{most_stations}
use Rattle.members.specs.declared.mark.Mark.{Mark}
use Rattle.members.specs.Mark.{no_mark, as_mark}
pub use Rattle.profiles.specs.declared.profile.Profile.{Profile}

abbrev pub empty_profile : Profile
empty_profile = record { row = replicate most_stations (mode 0); marks = replicate most_stations no_mark }

-- what stands beyond the last profile
abbrev pub no_profile : Profile
no_profile = record { row = []; marks = [] }

-- the mode's number
abbrev pub mode_in : Profile → ℕ → ℕ
mode_in x i = (get_or x.row i (mode 0)).0

abbrev pub mark_in : Profile → ℕ → Mark
mark_in x i = as_mark (get_or x.marks i no_mark)
