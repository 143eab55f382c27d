-- What the server has: of each station a status and a last number, of each profile a row of modes and a row of marks.
use Rattle.std.specs.Prelude.{ℕ, get_or, replicate}
use Rattle.timing.specs.Limits.{most_stations, most_profiles}
use Rattle.timing.specs.declared.settings.Settings.{Settings}
pub use Rattle.members.specs.declared.member.Status.{Status}
pub use Rattle.members.specs.declared.member.Status.TheVariants.{Unknown, Live, TimingOut}
pub use Rattle.members.specs.declared.member.Member.{Member}
pub use Rattle.members.specs.declared.mark.Mark.{Mark}
pub use Rattle.members.specs.declared.mark.Mark.TheVariants.{Unmarked, Demanded, Kept}
pub use Rattle.members.specs.declared.mark.Marked.{Marked}
pub use Rattle.members.specs.Member.{nobody}
pub use Rattle.members.specs.Mark.{no_mark, as_mark}
pub use Rattle.profiles.specs.declared.profile.Profile.{Profile}
pub use Rattle.profiles.specs.Profile.{empty_profile, no_profile, mode_in, mark_in}
pub use Rattle.server.specs.declared.server.Server.{Server}

unfoldable pub new_server : Settings → Server
new_server z =
    record {
      settings = z;
      reading = 0;
      members = replicate most_stations nobody;
      profiles = replicate most_profiles empty_profile;
    }

-- the state, asked: station i, profile p
abbrev pub member_at : Server → ℕ → Member
member_at s i = get_or s.members i nobody

abbrev pub status_of : Server → ℕ → Status
status_of s i = (member_at s i).status

abbrev pub last_of : Server → ℕ → ℕ
last_of s i = (member_at s i).last

abbrev pub profile_at : Server → ℕ → Profile
profile_at s p = get_or s.profiles p no_profile

abbrev pub mode_of : Server → ℕ → ℕ → ℕ
mode_of s i p = mode_in (profile_at s p) i

abbrev pub mark_of : Server → ℕ → ℕ → Mark
mark_of s i p = mark_in (profile_at s p) i
