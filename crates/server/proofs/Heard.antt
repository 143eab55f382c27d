-- From what was heard of a message to the tables: what Events needs of the representation.
-- Assumes nothing.
use mathlib.Core.Path.{◌≡◌, refl, ap, ◌∙◌}
use mathlib.Core.Bool.{Bool, true, false, cond}
use mathlib.Core.List.{List, map}
use Prim.Native.Nat.{ℕ, ◌<◌}
use native.Mathlib.Omega.{arith}
use lib.Dec.{eqb, ltb}
use lib.ListN.{length, get_or, set, length-set}
use lib.Seq.{get_or-set_same, get_or-set_other, set-get_or}
use borrow.Author.Tests.{lt-ltb}
use Rattle.refusals.specs.Refusal.{Verdict}
use Rattle.masks.specs.Mask.{Set}
use Rattle.masks.proofs.Sets.{has}
use Rattle.server.specs.State.{Status, Live, Mark, Unmarked, Member, Profile, Server, nobody, no_profile, member_at, profile_at, mode_in, mark_in, status_of, last_of, mode_of, mark_of}
use Rattle.profiles.specs.Sets.{only, live_set, marks_changed, wiped, wipe_mark}
use Rattle.profiles.specs.Ask.{with_marks}
use Rattle.server.specs.Event.{Request, Message, Answer, Done}
use Rattle.hearing.specs.Hear.{answered, greeted, by_status, numbered, if_new, hear}
use Rattle.requests.specs.Request.{profile_of}
use Rattle.server.specs.Step.{after_heard, message, if_good, step}
use Rattle.server.proofs.Frames.{only_same, only_other, entry_wiped}
use Rattle.judging.proofs.Refusals.{in_arrays}
use Rattle.server.proofs.Marks.{mark_at, full_wiped, full_set, marks_length, mark_entry_wiped}
use Rattle.server.proofs.Serves.{Sized, Accepted, at, changed_at, all_of, no_lock, Serves, Told, at_itself, along, by_tables}

-- one element of a list replaced, seen through f
pub set_at : {A B : Type 0} (f : A → B) (l : List A) (i : ℕ) (x d : A) → i < length l → (j : ℕ) → f (get_or (set l i x) j d) ≡ at i (f x) (λ (j : ℕ). f (get_or l j d)) j
set_at f l i x d h j = grind (arith, get_or-set_same l i x d h, get_or-set_other l i j x d)

-- a table whose entries on profile p are another table's, and what it is where that has some of its own changed
module _ {A : Type 0} where
  abbrev pub on : ℕ → (ℕ → A) → (ℕ → ℕ → A) → ℕ → ℕ → A
  on p f g j q = cond (eqb q p) (f j) (g j q)

  module _ (p : ℕ) (f : ℕ → A) (g : ℕ → ℕ → A) where
    pub on_changed : (test : Bool → ℕ → Bool) (h : A → A) → ((j : ℕ) → test false j ≡ false) → ((j : ℕ) → f j ≡ cond (test true j) (h (g j p)) (g j p)) →
        (j q : ℕ) → on p f g j q ≡ changed_at (λ (j q : ℕ). test (eqb q p) j) h g j q
    on_changed test h others here j q = grind (arith, here j, others j)

    pub on_itself : ((j : ℕ) → f j ≡ g j p) → (j q : ℕ) → on p f g j q ≡ g j q
    on_itself h = on_changed (λ (b : Bool) (j : ℕ). false) (λ (a : A). a) (λ j. refl) h

pub only_has : (i j : ℕ) → i < 16 → has (only i) j ≡ eqb j i
only_has i j h = grind (arith, only_same 16 i h, only_other 16 i j)

-- after a message, from what was heard
module _ (s : Server) (now i k p : ℕ) (sized : Sized s) (station : i < 16) (profile : p < 64) where
  member_set : {A : Type 0} (f : Member → A) (m : Member) (j : ℕ) → f (get_or (set s.members i m) j nobody) ≡ at i (f m) (λ (j : ℕ). f (member_at s j)) j
  member_set f m j = set_at f s.members i m nobody (rw sized.members station) j

  -- no hello: the station has its new number, and one profile is another
  heard : (x : Profile) (a : Answer) → length x.row ≡ 16 → length x.marks ≡ 16 →
      Serves s now (after_heard s now i p (answered (numbered k (member_at s i)) x a)) a
      (status_of s) (at i k (last_of s)) (on p (mode_in x) (mode_of s)) (on p (mark_in x) (mark_of s))
  heard x a rows marks =
      let m = numbered k (member_at s i) in
      let inside : p < length s.profiles = rw sized.profiles.modes.count profile in
      record {
        answers = refl;
        settings = refl;
        reading = refl;
        lengths = record { members = length-set s.members i m ∙ sized.members; profiles = full_set s.profiles p x sized.profiles profile rows marks };
        status = λ j. member_set (λ (m : Member). m.status) m j ∙ at_itself i (status_of s) j;
        last = λ j. member_set (λ (m : Member). m.last) m j;
        mode = λ j q. set_at (λ (y : Profile). mode_in y j) s.profiles p x no_profile inside q;
        mark = λ j q. set_at (λ (y : Profile). mark_in y j) s.profiles p x no_profile inside q;
      }

  -- a hello: all that the station had is gone
  pub greets : Serves s now (after_heard s now i p (greeted (numbered k (member_at s i)) (profile_at s p))) Done
      (at i Live (status_of s)) (at i k (last_of s)) (changed_at (all_of i) no_lock (mode_of s)) (changed_at (all_of i) wipe_mark (mark_of s))
  greets =
      let m : Member = record { status = Live; last = k } in
      let same = set-get_or s.profiles p no_profile in
      record {
        answers = refl;
        settings = refl;
        reading = refl;
        lengths = record { members = length-set s.members i m ∙ sized.members; profiles = rw same (full_wiped (only i) s.profiles sized.profiles) };
        status = λ j. member_set (λ (m : Member). m.status) m j;
        last = λ j. member_set (λ (m : Member). m.last) m j;
        mode = λ j q.
            ap (λ (t : List Profile). mode_in (get_or (map (wiped (only i)) t) q no_profile) j) same
            ∙ entry_wiped (only i) s.profiles j q ∙ ap (λ (b : Bool). cond b 0 (mode_of s j q)) (only_has i j station);
        mark = λ j q.
            ap (λ (t : List Profile). mark_in (get_or (map (wiped (only i)) t) q no_profile) j) same
            ∙ mark_entry_wiped (only i) s.profiles j q ∙ ap (λ (b : Bool). cond b Unmarked (mark_of s j q)) (only_has i j station);
      }

module _ (wait : ℕ) (s : Server) (now i k : ℕ) (q : Request) (accepted : Accepted s now (Message i k q)) where
  pub by_newness : (b : Bool) → ltb (last_of s i) k ≡ b → step wait s now (Message i k q)
      ≡ after_heard s now i (profile_of q) (if_new b (live_set s.members) now i k q (member_at s i) (profile_at s (profile_of q)))
  unfolding step message hear
  by_newness b e =
      ap (λ (v : Verdict). if_good v wait s now (Message i k q)) accepted
      ∙ ap (λ (b : Bool). after_heard s now i (profile_of q) (if_new b (live_set s.members) now i k q (member_at s i) (profile_at s (profile_of q)))) e

  -- "Every other message raises the last number, then:"
  pub judged : last_of s i < k → (σ : Status) → status_of s i ≡ σ → step wait s now (Message i k q)
      ≡ after_heard s now i (profile_of q) (by_status σ (live_set s.members) now i q (numbered k (member_at s i)) (profile_at s (profile_of q)))
  unfolding if_new
  judged new σ e =
      by_newness true (lt-ltb (last_of s i) k new)
      ∙ ap (λ (τ : Status). after_heard s now i (profile_of q) (by_status τ (live_set s.members) now i q (numbered k (member_at s i)) (profile_at s (profile_of q)))) e

  pub inside : (i < 16) × (profile_of q < 64)
  inside = in_arrays s.settings s.reading now i k q accepted

  module _ (sized : Sized s) where
    -- one profile is another
    pub one_profile : (x : Profile) (a : Answer) → length x.row ≡ length (profile_at s (profile_of q)).row → length x.marks ≡ length (profile_at s (profile_of q)).marks →
        step wait s now (Message i k q) ≡ after_heard s now i (profile_of q) (answered (numbered k (member_at s i)) x a) →
        Told wait s now i k q a (status_of s) (on (profile_of q) (mode_in x) (mode_of s)) (on (profile_of q) (mark_in x) (mark_of s))
    one_profile x a rows marks e =
        let (station, profile) = inside in
        along e (heard s now i k (profile_of q) sized station profile x a
        (rows ∙ sized.profiles.modes.width (profile_of q) profile) (marks ∙ sized.profiles.marks (profile_of q) profile))

    -- no profile is another
    pub only_number : (a : Answer) → step wait s now (Message i k q) ≡ after_heard s now i (profile_of q) (answered (numbered k (member_at s i)) (profile_at s (profile_of q)) a) →
        Told wait s now i k q a (status_of s) (mode_of s) (mark_of s)
    only_number a e =
        let x = profile_at s (profile_of q) in
        by_tables (on_itself (profile_of q) (mode_in x) (mode_of s) (λ j. refl)) (on_itself (profile_of q) (mark_in x) (mark_of s) (λ j. refl)) (one_profile x a refl refl e)

    -- only marks of the profile are others
    pub only_marks : (a : Answer) (f : Mark → Mark) (set : Set) (test : Bool → ℕ → Bool) → ((j : ℕ) → test false j ≡ false) →
        ((j : ℕ) → mark_at (marks_changed f set (profile_at s (profile_of q)).marks) j ≡ cond (test true j) (f (mark_of s j (profile_of q))) (mark_of s j (profile_of q))) →
        step wait s now (Message i k q) ≡ after_heard s now i (profile_of q) (answered (numbered k (member_at s i)) (with_marks (profile_at s (profile_of q)) (marks_changed f set (profile_at s (profile_of q)).marks)) a) →
        Told wait s now i k q a (status_of s) (mode_of s) (changed_at (λ (j p : ℕ). test (eqb p (profile_of q)) j) f (mark_of s))
    only_marks a f set test others here e =
        let x = with_marks (profile_at s (profile_of q)) (marks_changed f set (profile_at s (profile_of q)).marks) in
        by_tables (on_itself (profile_of q) (mode_in x) (mode_of s) (λ j. refl)) (on_changed (profile_of q) (mark_in x) (mark_of s) test f others here)
        (one_profile x a refl (marks_length f set (profile_at s (profile_of q)).marks) e)
