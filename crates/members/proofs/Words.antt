-- A mark and the word that stores it: each word is one mark, and each mark that a word can hold comes back as it was.
-- Assumes nothing.
use mathlib.Core.Path.{◌≡◌, refl, ap, ◌∙◌}
use mathlib.Core.Bool.{Bool, false}
use Prim.Native.Nat.{ℕ, ◌<◌}
use native.Mathlib.Omega.{arith}
use Rattle.members.specs.Mark.{Mark, Unmarked, Demanded, Kept, Marked, kept_word, as_word, as_mark, is_marked, wipe_mark, drop_kept, demand, keep_mark}

pub word_back : (m : Marked) → as_word (as_mark m) ≡ m
word_back m = grind arith

-- what an element of an array of marks reads as beyond the last
abbrev pub beyond : Marked
beyond = record { word = 0 }

-- a mark that a word can hold: every one but a demand since a reading that is no reading
abbrev pub Stored : Mark → Type 0
Stored k = as_mark (as_word k) ≡ k

pub stored_mark : (m : Marked) → Stored (as_mark m)
stored_mark m = ap as_mark (word_back m)

-- what an event does to such a mark leaves one
pub stored_wipe : (k : Mark) → Stored k → Stored (wipe_mark k)
stored_wipe k s = refl

pub stored_drop : (k : Mark) → Stored k → Stored (drop_kept k)
stored_drop Unmarked s = refl
stored_drop (Demanded since) s = s
stored_drop Kept s = refl

pub stored_keep : (k : Mark) → Stored k → Stored (keep_mark k)
stored_keep Unmarked s = refl
stored_keep (Demanded since) s = refl
stored_keep Kept s = refl

stored_since : (now : ℕ) → now < kept_word → Stored (Demanded now)
stored_since now h = grind arith

pub stored_demand : (now : ℕ) → now < kept_word → (k : Mark) → Stored k → Stored (demand now k)
stored_demand now h Unmarked s = stored_since now h
stored_demand now h (Demanded since) s = s
stored_demand now h Kept s = stored_since now h

-- the word of no mark is one alone
pub unmarked_word : (m : Marked) → is_marked m ≡ false → m ≡ as_word Unmarked
unmarked_word m e = grind arith

-- what is not there passes no test that no mark at all fails
pub unmarked_test : (test : Mark → Bool) → test Unmarked ≡ false → (m : Marked) → is_marked m ≡ false → test (as_mark m) ≡ false
unmarked_test test none m e = ap (λ (m : Marked). test (as_mark m)) (unmarked_word m e) ∙ none
