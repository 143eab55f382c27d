-- The mark of a station on a profile, and what an event does to it.
use Rattle.std.specs.Prelude.{Bool, true, false, cond, not, List, ℕ, eqb}
use Rattle.masks.specs.Mask.{Set, those, change_in}
use Rattle.timing.specs.Reading.{passed}
pub use Rattle.members.specs.declared.mark.Mark.{Mark}
pub use Rattle.members.specs.declared.mark.Mark.TheVariants.{Unmarked, Demanded, Kept}
pub use Rattle.members.specs.declared.mark.Marked.{Marked}

-- The two highest numbers of 64 bits stand for the marks that have no reading. Readings end far below them: 5 refuses what is above,
-- so no event makes a mark demanded since one of the two, and only such a mark would read back as another.
abbrev pub none_word : ℕ
none_word = 18446744073709551615

abbrev pub kept_word : ℕ
kept_word = 18446744073709551614

-- a mark as it is stored, and back: the reading since which it is demanded stands for itself
abbrev pub as_word : Mark → Marked
as_word Unmarked = record { word = none_word }
as_word (Demanded since) = record { word = since }
as_word Kept = record { word = kept_word }

abbrev pub as_mark : Marked → Mark
as_mark m = cond (eqb m.word none_word) Unmarked (cond (eqb m.word kept_word) Kept (Demanded m.word))

-- "a mark: none"
abbrev pub no_mark : Marked
no_mark = as_word Unmarked

abbrev pub is_marked : Marked → Bool
is_marked m = not (eqb m.word none_word)

abbrev pub is_kept : Mark → Bool
is_kept Unmarked = false
is_kept (Demanded since) = false
is_kept Kept = true

-- "a mark demanded for R or more ticks"
abbrev pub is_late : ℕ → ℕ → Mark → Bool
is_late answer now Unmarked = false
is_late answer now (Demanded since) = passed since answer now
is_late answer now Kept = false

abbrev pub marks_with : (Mark → Bool) → List Marked → Set
marks_with test marks = those (λ (m : Marked). test (as_mark m)) marks

-- what an event does to a mark
abbrev pub wipe_mark : Mark → Mark
wipe_mark mark = Unmarked

abbrev pub drop_kept : Mark → Mark
drop_kept Unmarked = Unmarked
drop_kept (Demanded since) = Demanded since
drop_kept Kept = Unmarked

-- "demanded, since now unless already demanded". A kept mark in the way means in use, so none is demanded in a step.
abbrev pub demand : ℕ → Mark → Mark
demand now Unmarked = Demanded now
demand now (Demanded since) = Demanded since
demand now Kept = Demanded now

-- "Keep: a demanded mark becomes kept"
abbrev pub keep_mark : Mark → Mark
keep_mark Unmarked = Unmarked
keep_mark (Demanded since) = Kept
keep_mark Kept = Kept

abbrev pub remark : (Mark → Mark) → Marked → Marked
remark f m = as_word (f (as_mark m))

abbrev pub marks_changed : (Mark → Mark) → Set → List Marked → List Marked
marks_changed f stations marks = change_in (remark f) stations marks
