-- The tick put together: what the code leaves is what the rules say.
-- Assumes nothing.
use mathlib.Core.Path.{◌≡◌, ap, ◌∙◌}
use mathlib.Core.List.{List, map}
use Prim.Native.Nat.{ℕ}
use lib.Bits.{bit_and}
use Rattle.masks.specs.Mask.{mask, both, change_under}
use Rattle.masks.proofs.Laws.{under_in, mask_both}
use Rattle.server.specs.State.{Unknown, TimingOut, Member, Profile, Server}
use Rattle.profiles.specs.Sets.{live_set, late_set, wiped, turned, restatus}
use Rattle.profiles.specs.Under.{wiped_under}
use Rattle.server.specs.Event.{Ticked}
use Rattle.server.specs.Tick.{freed_set, free, started_set, start}
use Rattle.server.specs.Step.{tick}
use Rattle.profiles.proofs.Under.{wiped_all}

module _ (s : Server) (wait now : ℕ) (m : ℕ) (is-freed : m ≡ mask (freed_set wait now s)) (members : List Member) (turned-members : members ≡ change_under (restatus Unknown) m s.members) (profiles : List Profile) (wiped-profiles : profiles ≡ map (wiped_under m) s.profiles) where
  freed_members : members ≡ turned Unknown (freed_set wait now s) s.members
  freed_members =
      turned-members
      ∙ ap (λ (n : ℕ). change_under (restatus Unknown) n s.members) is-freed
      ∙ under_in (restatus Unknown) (freed_set wait now s) s.members

  freed_profiles : profiles ≡ map (wiped (freed_set wait now s)) s.profiles
  freed_profiles = wiped-profiles ∙ wiped_all (freed_set wait now s) m is-freed s.profiles

  module _ (late live : ℕ) (is-late : late ≡ mask (late_set s.settings.r now profiles)) (is_live : live ≡ mask (live_set members)) where
    started : bit_and late live ≡ mask (started_set now (free wait now s))
    unfolding started_set free
    started =
        ap (λ (n : ℕ). bit_and n live) is-late
        ∙ ap (bit_and (mask (late_set s.settings.r now profiles))) is_live
        ∙ mask_both (late_set s.settings.r now profiles) (live_set members)
        ∙ (λ k. mask (both (late_set s.settings.r now (freed_profiles k)) (live_set (freed_members k))))

    pub ticked : (next : List Member) → next ≡ change_under (restatus (TimingOut now)) (bit_and late live) members
        → record { server = record { settings = s.settings; reading = now; members = next; profiles = profiles }; answer = Ticked m (bit_and late live) } ≡ tick wait s now
    unfolding tick start free started_set
    ticked next e =
        let f : next ≡ turned (TimingOut now) (started_set now (free wait now s)) (turned Unknown (freed_set wait now s) s.members) = e ∙ (λ k. change_under (restatus (TimingOut now)) (started k) (freed_members k)) ∙ under_in (restatus (TimingOut now)) (started_set now (free wait now s)) (turned Unknown (freed_set wait now s) s.members) in
        λ k. record { server = record { settings = s.settings; reading = now; members = f k; profiles = freed_profiles k }; answer = Ticked (is-freed k) (started k) }
