-- What the server knows of a station, and the sets of stations by it.
use Rattle.std.specs.Prelude.{Bool, true, false, List, ℕ}
use Rattle.masks.specs.Mask.{Set, those, change_in}
use Rattle.timing.specs.Reading.{passed}
pub use Rattle.members.specs.declared.member.Status.{Status}
pub use Rattle.members.specs.declared.member.Status.TheVariants.{Unknown, Live, TimingOut}
pub use Rattle.members.specs.declared.member.Member.{Member}

-- "A station is unknown (at the start)"; "last numbers and readings start at 0"
abbrev pub nobody : Member
nobody = record { status = Unknown; last = 0 }

abbrev pub is_live : Status → Bool
is_live Unknown = false
is_live Live = true
is_live (TimingOut since) = false

-- "timing out for W or more"
abbrev pub is_waited : ℕ → ℕ → Status → Bool
is_waited wait now Unknown = false
is_waited wait now Live = false
is_waited wait now (TimingOut since) = passed since wait now

abbrev pub members_with : (Status → Bool) → List Member → Set
members_with test members = those (λ (m : Member). test m.status) members

abbrev pub live_set : List Member → Set
live_set members = members_with is_live members

abbrev pub restatus : Status → Member → Member
restatus status m = record { status = status; last = m.last }

abbrev pub turned : Status → Set → List Member → List Member
turned status stations members = change_in (restatus status) stations members
