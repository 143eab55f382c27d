-- The paper's 'Numbers of refusal'.
use Rattle.std.specs.Prelude.{ℕ, List, ◌++◌, Result, Ok, Err, codes}
use Rattle.std.specs.Fmt.{decimal}
use Rattle.refusals.specs.declared.Refusal.{Refusal}
use Rattle.refusals.specs.declared.Refusal.TheVariants.{Settings, Station, Profile, Mode, AboveLimit, BelowLast, StaleNumber, Out, PhaseForbids, ModeForbids, OperationCount, StillUsed, NumbersUsed, NotAwaited, TooShort, BadMark, BadKind, NotAllowed, NoRoom}

abbrev pub number : Refusal → ℕ
number Settings = 1
number Station = 2
number Profile = 3
number Mode = 4
number AboveLimit = 5
number BelowLast = 6
number StaleNumber = 7
number Out = 8
number PhaseForbids = 9
number ModeForbids = 10
number OperationCount = 11
number StillUsed = 12
number NumbersUsed = 13
number NotAwaited = 14
number TooShort = 15
number BadMark = 16
number BadKind = 17
number NotAllowed = 18
number NoRoom = 19

-- how a refusal is printed: the word, a space and the paper's number
abbrev pub printed : Refusal → List ℕ
printed refusal = codes "refused " ++ decimal (number refusal)

-- what a rule says: nothing against it, or the refusal
abbrev pub Verdict : Type 0
Verdict = Result Unit Refusal

-- "The lowest number wins."
abbrev pub or_else : Verdict → Verdict → Verdict
or_else (Ok _) v = v
or_else (Err r) v = Err r
