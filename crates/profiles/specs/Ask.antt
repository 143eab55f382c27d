-- The ask rule, on one profile.
use Rattle.std.specs.Prelude.{Bool, true, false, List, ℕ, set}
use Rattle.masks.specs.Mask.{Set, mask, count, any, both}
use Rattle.modes.specs.Modes.{mode, join}
use Rattle.modes.specs.declared.Mode.{Mode}
use Rattle.members.specs.declared.mark.Marked.{Marked}
use Rattle.profiles.specs.Profile.{Profile, mode_in}
use Rattle.profiles.specs.Sets.{everyone, conflicts, is_kept, marks_with, marks_changed, drop_kept, demand}
pub use Rattle.profiles.specs.declared.answer.Answer.{Answer}
pub use Rattle.profiles.specs.declared.answer.Answer.TheVariants.{Done, Granted, Wait, InUse, Nack, Ticked, Refused}
pub use Rattle.profiles.specs.declared.ask.Ruled.{Ruled}

-- "the wanted mode is the join of the held and asked ones"
abbrev pub wanted_by : Profile → ℕ → ℕ → ℕ
wanted_by x me asked = join (mode_in x me) asked

-- the other stations that hold a mode incompatible with the wanted one
abbrev pub in_the_way : ℕ → ℕ → Profile → Set
in_the_way me asked x = conflicts me (wanted_by x me asked) x.row

-- the profile with another row, and with other marks
abbrev pub with_row : Profile → List Mode → Profile
with_row x row = record { row = row; marks = x.marks }

abbrev pub with_marks : Profile → List Marked → Profile
with_marks x marks = record { row = x.row; marks = marks }

-- "it is granted"
abbrev pub granted : ℕ → ℕ → ℕ → Profile → Ruled
granted p me wanted x =
    record { profile = with_row x (set x.row me (mode wanted)); answer = Granted p (mode wanted) }

-- "the answer is in use and all kept marks on that profile go"
abbrev pub in_use : ℕ → Profile → Ruled
in_use p x =
    record { profile = with_marks x (marks_changed drop_kept everyone x.marks); answer = InUse p }

-- "the answer is wait: each live incompatible holder is demanded .. The answer gives these live holders .. as a mask and its count of ones."
abbrev pub waits : ℕ → ℕ → Set → ℕ → Profile → Ruled
waits p now holders wanted x =
    record {
      profile = with_marks x (marks_changed (demand now) holders x.marks);
      answer = Wait p (mode wanted) (mask holders) (count holders);
    }

-- "Otherwise, if any such holder has a kept mark" .. "Otherwise"
abbrev pub kept_or_wait : Bool → ℕ → ℕ → Set → ℕ → Profile → Ruled
kept_or_wait true p now holders wanted x = in_use p x
kept_or_wait false p now holders wanted x = waits p now holders wanted x

-- "If no other station holds an incompatible mode"
abbrev pub free_or_not : Bool → Set → ℕ → ℕ → ℕ → ℕ → Set → Profile → Ruled
free_or_not false live p now me wanted holders x = granted p me wanted x
free_or_not true live p now me wanted holders x =
    kept_or_wait (any (both holders (marks_with is_kept x.marks))) p now (both holders live) wanted x

unfoldable pub ask_rule : Set → ℕ → ℕ → ℕ → ℕ → Profile → Ruled
ask_rule live p now me asked x =
    free_or_not (any (in_the_way me asked x)) live p now me (wanted_by x me asked) (in_the_way me asked x) x
