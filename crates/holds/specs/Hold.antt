-- "per profile a mode, a count of started operations and an unwritten flag"
use Rattle.std.specs.Prelude.{Bool, false, List, ℕ, get_or, set, replicate}
use Rattle.masks.specs.Mask.{Set, those}
use Rattle.modes.specs.Modes.{mode}
use Rattle.timing.specs.Limits.{most_profiles}
pub use Rattle.holds.specs.declared.hold.Hold.{Hold}

-- "255 operations started"
abbrev pub most_started : ℕ
most_started = 255

abbrev pub no_hold : Hold
no_hold = record { mode = mode 0; started = 0; unwritten = false }

unfoldable pub no_holds : List Hold
no_holds = replicate most_profiles no_hold

abbrev pub hold_in : List Hold → ℕ → Hold
hold_in holds p = get_or holds p no_hold

abbrev pub with_mode : ℕ → Hold → Hold
with_mode m h = record { mode = mode m; started = h.started; unwritten = h.unwritten }

abbrev pub with_started : ℕ → Hold → Hold
with_started n h = record { mode = h.mode; started = n; unwritten = h.unwritten }

abbrev pub with_unwritten : Bool → Hold → Hold
with_unwritten b h = record { mode = h.mode; started = h.started; unwritten = b }

-- one profile's hold, changed
abbrev pub changed : (Hold → Hold) → ℕ → List Hold → List Hold
changed f p holds = set holds p (f (hold_in holds p))

abbrev pub is_unwritten : Hold → Bool
is_unwritten h = h.unwritten

-- the profiles "still unwritten"
abbrev pub unwritten_set : List Hold → Set
unwritten_set holds = those is_unwritten holds
