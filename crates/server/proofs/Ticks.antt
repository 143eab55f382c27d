-- What a tick changes and leaves: the paper's 'The server's rules', in the form of Serves. Over the marks themselves: `is_late_in`.
-- Assumes nothing.
use mathlib.Core.Path.{◌≡◌, refl, sym, ap, ◌∙◌}
use mathlib.Core.Bool.{Bool, true, false, cond, ◌&&◌, ◌||◌}
use mathlib.Core.List.{List, [], ◌∷◌, map}
use Prim.Native.Nat.{ℕ, zero, suc, ◌≤◌}
use native.Mathlib.Omega.{arith}
use lib.ListN.{length, get_or, get_or-eq_default}
use Rattle.refusals.specs.Refusal.{Verdict}
use Rattle.masks.specs.Mask.{Set, mask}
use Rattle.masks.proofs.Sets.{has, no_right, has_both, has_either, has_those, changed, length_changed}
use Rattle.server.specs.State.{Status, Unknown, TimingOut, Unmarked, Marked, Member, Profile, Server, nobody, no_mark, as_mark, mark_in, status_of, last_of, mode_of, mark_of}
use Rattle.profiles.specs.Sets.{is_live, is_waited, is_late, late_set, restatus, turned, live_set, marks_with, wiped, wipe_mark}
use Rattle.server.specs.Event.{Tick, Ticked}
use Rattle.server.specs.Tick.{freed_set, free, started_set, start}
use Rattle.server.specs.Step.{tick, if_good, step}
use Rattle.server.proofs.Frames.{entry_wiped}
use Rattle.server.proofs.Marks.{mark_entry, full_wiped, mark_entry_wiped}
use Rattle.server.proofs.Serves.{Sized, Accepted, changed_at, no_lock, Serves, along}
use Rattle.server.proofs.InTheWay.{has_live}

-- whether any number below n passes
abbrev pub some : ℕ → (ℕ → Bool) → Bool
some zero f = false
some (suc n) f = f 0 || some n (λ (i : ℕ). f (suc i))

some_ext : (n : ℕ) (f g : ℕ → Bool) → ((i : ℕ) → f i ≡ g i) → some n f ≡ some n g
some_ext zero f g h = refl
some_ext (suc n) f g h =
    ap (λ (b : Bool). b || some n (λ (i : ℕ). f (suc i))) (h 0)
    ∙ ap (λ (b : Bool). g 0 || b) (some_ext n (λ (i : ℕ). f (suc i)) (λ (i : ℕ). g (suc i)) (λ i. h (suc i)))

-- "with a mark demanded for R or more ticks", on any profile
abbrev pub is_late_in : Server → ℕ → ℕ → Bool
is_late_in s now j = some 64 (λ (p : ℕ). is_late s.settings.r now (mark_of s j p))

has_late : (answer now : ℕ) (t : List Profile) (j : ℕ) → has (late_set answer now t) j ≡ some (length t) (λ (p : ℕ). is_late answer now (mark_entry t j p))
has_late answer now [] j = refl
has_late answer now (x ∷ t) j =
    has_either (marks_with (is_late answer now) x.marks) (late_set answer now t) j
    ∙ ap (λ (b : Bool). b || has (late_set answer now t) j) (has_those (λ (m : Marked). is_late answer now (as_mark m)) no_mark x.marks j (λ h. refl))
    ∙ ap (λ (b : Bool). is_late answer now (mark_in x j) || b) (has_late answer now t j)

-- a status after freeing, and after starting
abbrev pub freed_to : ℕ → ℕ → Status → Status
freed_to wait now σ = cond (is_waited wait now σ) Unknown σ

abbrev pub started_to : ℕ → Bool → Status → Status
started_to now late σ = cond (late && is_live σ) (TimingOut now) σ

-- statuses turned in a set that ends with the members; their numbers are as they were
module _ (σ : Status) (set : Set) (ms : List Member) (ends : (j : ℕ) → length ms ≤ j → has set j ≡ false) (j : ℕ) where
  turned_member : get_or (turned σ set ms) j nobody ≡ cond (has set j) (restatus σ (get_or ms j nobody)) (get_or ms j nobody)
  turned_member = changed (restatus σ) nobody set ms j (λ h. ap (λ (b : Bool). cond b (restatus σ nobody) nobody) (ends j h))

  turned_status : (get_or (turned σ set ms) j nobody).status ≡ cond (has set j) σ (get_or ms j nobody).status
  turned_status = ap (λ (m : Member). m.status) turned_member ∙ chosen (has set j) (get_or ms j nobody)
    where
      chosen : (b : Bool) (m : Member) → (cond b (restatus σ m) m).status ≡ cond b σ m.status
      chosen b m = grind arith

  turned_last : (get_or (turned σ set ms) j nobody).last ≡ (get_or ms j nobody).last
  turned_last = ap (λ (m : Member). m.last) turned_member ∙ chosen (has set j) (get_or ms j nobody)
    where
      chosen : (b : Bool) (m : Member) → (cond b (restatus σ m) m).last ≡ m.last
      chosen b m = grind arith

-- the members and profiles once those who waited are freed
abbrev freed_members : ℕ → Server → ℕ → List Member
freed_members wait s now = turned Unknown (freed_set wait now s) s.members

abbrev freed_profiles : ℕ → Server → ℕ → List Profile
freed_profiles wait s now = map (wiped (freed_set wait now s)) s.profiles

module _ (wait : ℕ) (s : Server) (now : ℕ) (sized : Sized s) where
  -- who is in the two sets that a tick answers: those freed
  pub has_freed : (j : ℕ) → has (freed_set wait now s) j ≡ is_waited wait now (status_of s j)
  has_freed j = has_those (λ (m : Member). is_waited wait now m.status) nobody s.members j (λ h. refl)

  freed_ends : (j : ℕ) → length s.members ≤ j → has (freed_set wait now s) j ≡ false
  freed_ends j h = has_freed j ∙ ap (λ (m : Member). is_waited wait now m.status) (get_or-eq_default s.members nobody h)

  freed_status : (j : ℕ) → (get_or (freed_members wait s now) j nobody).status ≡ freed_to wait now (status_of s j)
  freed_status j = turned_status Unknown (freed_set wait now s) s.members freed_ends j ∙ ap (λ (b : Bool). cond b Unknown (status_of s j)) (has_freed j)

  -- and those started: whoever is live once those who waited are freed has its marks still, so that it is late exactly if it was
  pub has_started : (j : ℕ) → has (started_set now (free wait now s)) j ≡ (is_late_in s now j && is_live (freed_to wait now (status_of s j)))
  unfolding started_set free
  has_started j =
      let r = s.settings.r in
      let ms = freed_members wait s now in
      let xs = freed_profiles wait s now in
      has_both (late_set r now xs) (live_set ms) j
      ∙ ap (λ (b : Bool). has (late_set r now xs) j && b) (has_live ms j ∙ ap is_live (freed_status j))
      ∙ ap (λ (b : Bool). b && is_live (freed_to wait now (status_of s j)))
      (has_late r now xs j
      ∙ ap (λ (n : ℕ). some n (λ (p : ℕ). is_late r now (mark_entry xs j p))) (full_wiped (freed_set wait now s) s.profiles sized.profiles).modes.count
      ∙ some_ext 64 (λ (p : ℕ). is_late r now (mark_entry xs j p)) (λ (p : ℕ). is_late r now (cond (is_waited wait now (status_of s j)) Unmarked (mark_of s j p)))
      (λ p. ap (is_late r now) (mark_entry_wiped (freed_set wait now s) s.profiles j p ∙ ap (λ (b : Bool). cond b Unmarked (mark_of s j p)) (has_freed j))))
      ∙ by_test (is_waited wait now (status_of s j)) (status_of s j)
    where
      by_test : (b : Bool) (σ : Status) →
          (some 64 (λ (p : ℕ). is_late s.settings.r now (cond b Unmarked (mark_of s j p))) && is_live (cond b Unknown σ)) ≡ (is_late_in s now j && is_live (cond b Unknown σ))
      by_test true σ = sym (no_right (is_late_in s now j))
      by_test false σ = refl

  started_ends : (j : ℕ) → length (freed_members wait s now) ≤ j → has (started_set now (free wait now s)) j ≡ false
  started_ends j h =
      let past : length s.members ≤ j = rw (length_changed (restatus Unknown) (freed_set wait now s) s.members) at h in
      has_started j
      ∙ ap (λ (m : Member). is_late_in s now j && is_live (freed_to wait now m.status)) (get_or-eq_default s.members nobody past)
      ∙ no_right (is_late_in s now j)

  -- "Tick: first each station timing out for W or more becomes unknown and its modes and marks go. Then each live station with a mark
  -- demanded for R or more ticks starts timing out now. Both sets are answered as masks. Nothing else starts or ends timing out."
  pub ticks : Accepted s now Tick →
      Serves s now (step wait s now Tick) (Ticked (mask (freed_set wait now s)) (mask (started_set now (free wait now s))))
      (λ (j : ℕ). started_to now (is_late_in s now j) (freed_to wait now (status_of s j))) (last_of s)
      (changed_at (λ (j q : ℕ). is_waited wait now (status_of s j)) no_lock (mode_of s)) (changed_at (λ (j q : ℕ). is_waited wait now (status_of s j)) wipe_mark (mark_of s))
  unfolding step tick free start started_set
  ticks accepted =
      let freed = freed_set wait now s in
      let started = started_set now (free wait now s) in
      let ms = freed_members wait s now in
      along (ap (λ (v : Verdict). if_good v wait s now Tick) accepted)
      (record {
        answers = refl;
        settings = refl;
        reading = refl;
        lengths = record { members = length_changed (restatus (TimingOut now)) started ms ∙ length_changed (restatus Unknown) freed s.members ∙ sized.members; profiles = full_wiped freed s.profiles sized.profiles };
        status = λ j.
            turned_status (TimingOut now) started ms started_ends j
            ∙ ap (λ (b : Bool). cond b (TimingOut now) (get_or ms j nobody).status) (has_started j)
            ∙ ap (λ (σ : Status). cond (is_late_in s now j && is_live (freed_to wait now (status_of s j))) (TimingOut now) σ) (freed_status j);
        last = λ j. turned_last (TimingOut now) started ms started_ends j ∙ turned_last Unknown freed s.members freed_ends j;
        mode = λ j q. entry_wiped freed s.profiles j q ∙ ap (λ (b : Bool). cond b 0 (mode_of s j q)) (has_freed j);
        mark = λ j q. mark_entry_wiped freed s.profiles j q ∙ ap (λ (b : Bool). cond b Unmarked (mark_of s j q)) (has_freed j);
      })
