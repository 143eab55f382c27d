-- What each message changes and leaves: the paper's 'The server's rules', a law for each of its sentences, in the form of Serves.
-- In all of them `sized` says that the lists have their lengths, as those of every reachable server do.
-- Assumes nothing.
use mathlib.Core.Path.{◌≡◌, refl, sym, ap, ◌∙◌}
use mathlib.Core.Bool.{Bool, true, false, cond, ◌&&◌}
use Prim.Native.Nat.{ℕ, ◌<◌, ◌≤◌}
use native.Mathlib.Omega.{arith}
use Rattle.std.proofs.Common.{Err}
use lib.Dec.{eqb}
use lib.ListN.{length, get_or, set, replicate, length-set, get_or-eq_default}
use lib.Seq.{set-get_or}
use borrow.Author.Tests.{le-ltb}
use Rattle.refusals.specs.Refusal.{Verdict}
use Rattle.refusals.specs.declared.Refusal.{Refusal}
use Rattle.refusals.specs.declared.Refusal.TheVariants.{StaleNumber}
use Rattle.masks.specs.Mask.{any, mask, count}
use Rattle.masks.proofs.Sets.{has}
use Rattle.modes.specs.Modes.{mode}
use Rattle.modes.specs.declared.Mode.{Mode}
use Rattle.server.specs.State.{Status, Unknown, Live, TimingOut, Unmarked, Member, Profile, Server, nobody, no_mark, no_profile, member_at, profile_at, mode_in, mark_in, status_of, last_of, mode_of, mark_of}
use Rattle.profiles.specs.Sets.{only, everyone, is_live, is_kept, live_set, marks_with, remark, marks_changed, wiped, wipe_mark, drop_kept, demand, keep_mark, clashes}
use Rattle.members.specs.Mark.{kept_word}
use Rattle.members.proofs.Words.{stored_drop, stored_keep, stored_demand}
use Rattle.profiles.specs.Ask.{with_row, ask_rule, free_or_not, kept_or_wait}
use Rattle.server.specs.Event.{Request, Hello, KeepAlive, Ask, Release, Keep, Event, Message, Done, Granted, Wait, InUse, Nack, Refused}
use Rattle.hearing.specs.declared.Heard.{Heard}
use Rattle.hearing.specs.Hear.{answered, greeted, heed, welcome, ruled_for, by_status, numbered, if_new}
use Rattle.judging.specs.Refusal.{refusal}
use Rattle.requests.specs.Request.{profile_of}
use Rattle.server.specs.Step.{after_heard, at_reading, if_good, step}
use Rattle.judging.proofs.Refusals.{reading_good}
use Rattle.server.proofs.Frames.{mode_wiped, width_wiped}
use Rattle.server.proofs.Marks.{mark_at, mark_changed, mark_eased, all_eased, mark_wiped, marks_wiped}
use Rattle.server.proofs.Serves.{Sized, Accepted, at, changed_at, all_of, own, all_on, no_lock, Told, along, by_tables}
use Rattle.server.proofs.Heard.{on_changed, on_itself, set_at, only_has, greets, by_newness, judged, inside, one_profile, only_number, only_marks}
use Rattle.server.proofs.InTheWay.{none_clashes, any_both, wanted_on, is_in_the_way, holders, kept_holders, live_holders, has_demanded, is_demanded}

-- "Refusals 1 to 6 change nothing."
pub refused : (wait : ℕ) (s : Server) (now : ℕ) (e : Event) (r : Refusal) → refusal s.settings s.reading now e ≡ Err r →
    step wait s now e ≡ record { server = s; answer = Refused r }
unfolding step
refused wait s now e r h = ap (λ (v : Verdict). if_good v wait s now e) h

-- what a station that is not known is told
unwelcome : (q : Request) → (q ≡ Hello → ⊥) → (m : Member) (x : Profile) → welcome q m x ≡ answered m x (Nack 1)
unfolding welcome
unwelcome q h m x = grind arith

module _ (wait : ℕ) (s : Server) (now i k : ℕ) (sized : Sized s) where
  module _ (q : Request) (accepted : Accepted s now (Message i k q)) where
    -- "A message number not above the station's last one is refusal 7." "7 changes the server's reading only."
    pub stale : k ≤ last_of s i → step wait s now (Message i k q) ≡ record { server = at_reading s now; answer = Refused StaleNumber }
    unfolding if_new
    stale old =
        by_newness wait s now i k q accepted false (le-ltb (last_of s i) k old)
        ∙ rw (set-get_or s.members i nobody, set-get_or s.profiles (profile_of q) no_profile)

    -- "Every other message raises the last number, then:"
    module _ (new : last_of s i < k) where
      -- "Timing out: NACK 0." "Nothing else changes."
      pub nack_0 : (since : ℕ) → status_of s i ≡ TimingOut since → Told wait s now i k q (Nack 0) (status_of s) (mode_of s) (mark_of s)
      unfolding by_status
      nack_0 since e = only_number wait s now i k q accepted sized (Nack 0) (judged wait s now i k q accepted new (TimingOut since) e)

      -- "Unknown, and not a hello: NACK 1." "Nothing else changes."
      pub nack_1 : (q ≡ Hello → ⊥) → status_of s i ≡ Unknown → Told wait s now i k q (Nack 1) (status_of s) (mode_of s) (mark_of s)
      unfolding by_status
      nack_1 other e =
          only_number wait s now i k q accepted sized (Nack 1)
          (judged wait s now i k q accepted new Unknown e
          ∙ ap (λ (h : Heard). after_heard s now i (profile_of q) h) (unwelcome q other (numbered k (member_at s i)) (profile_at s (profile_of q))))

  module _ (new : last_of s i < k) where
    -- "Hello: the station's modes and marks go, it is live, ACK done."
    pub hello : Accepted s now (Message i k Hello) → ((since : ℕ) → status_of s i ≡ TimingOut since → ⊥) →
        Told wait s now i k Hello Done (at i Live (status_of s)) (changed_at (all_of i) no_lock (mode_of s)) (changed_at (all_of i) wipe_mark (mark_of s))
    unfolding by_status heed welcome
    hello accepted settled = by_status_lem (status_of s i) refl
      where
        known : step wait s now (Message i k Hello) ≡ after_heard s now i 0 (greeted (numbered k (member_at s i)) (profile_at s 0)) →
            Told wait s now i k Hello Done (at i Live (status_of s)) (changed_at (all_of i) no_lock (mode_of s)) (changed_at (all_of i) wipe_mark (mark_of s))
        known e = let (station, profile) = inside wait s now i k Hello accepted in along e (greets s now i k 0 sized station profile)

        by_status_lem : (σ : Status) → status_of s i ≡ σ →
            Told wait s now i k Hello Done (at i Live (status_of s)) (changed_at (all_of i) no_lock (mode_of s)) (changed_at (all_of i) wipe_mark (mark_of s))
        by_status_lem Unknown e = known (judged wait s now i k Hello accepted new Unknown e)
        by_status_lem Live e = known (judged wait s now i k Hello accepted new Live e)
        by_status_lem (TimingOut since) e = absurd (settled since e)

    module _ (live : status_of s i ≡ Live) where
      -- "Keep-alive: ACK done."
      pub keep_alive : Accepted s now (Message i k KeepAlive) → Told wait s now i k KeepAlive Done (status_of s) (mode_of s) (mark_of s)
      unfolding by_status heed
      keep_alive accepted = only_number wait s now i k KeepAlive accepted sized Done (judged wait s now i k KeepAlive accepted new Live live)

      module _ (p : ℕ) where
        -- "Release: its mode and mark on that profile go, ACK done."
        pub release : Accepted s now (Message i k (Release p)) →
            Told wait s now i k (Release p) Done (status_of s) (changed_at (own i p) no_lock (mode_of s)) (changed_at (own i p) wipe_mark (mark_of s))
        unfolding by_status heed
        release accepted =
            let x = wiped (only i) (profile_at s p) in
            let station = (inside wait s now i k (Release p) accepted).0 in
            by_tables
            (on_changed p (mode_in x) (mode_of s) (λ (b : Bool) (j : ℕ). b && eqb j i) no_lock (λ j. refl)
            (λ j. mode_wiped (only i) (profile_at s p) j ∙ ap (λ (b : Bool). cond b 0 (mode_of s j p)) (only_has i j station)))
            (on_changed p (mark_in x) (mark_of s) (λ (b : Bool) (j : ℕ). b && eqb j i) wipe_mark (λ j. refl)
            (λ j. mark_wiped (only i) (profile_at s p) j ∙ ap (λ (b : Bool). cond b Unmarked (mark_of s j p)) (only_has i j station)))
            (one_profile wait s now i k (Release p) accepted sized x Done (width_wiped (only i) (profile_at s p)) (marks_wiped (only i) (profile_at s p))
            (judged wait s now i k (Release p) accepted new Live live))

        -- "Keep: a demanded mark becomes kept, ACK done."
        pub keep : Accepted s now (Message i k (Keep p)) → Told wait s now i k (Keep p) Done (status_of s) (mode_of s) (changed_at (own i p) keep_mark (mark_of s))
        unfolding by_status heed
        keep accepted =
            only_marks wait s now i k (Keep p) accepted sized Done keep_mark (only i) (λ (b : Bool) (j : ℕ). b && eqb j i) (λ j. refl)
            (λ j. mark_eased keep_mark stored_keep refl (only i) (profile_at s p).marks j
            ∙ ap (λ (b : Bool). cond b (keep_mark (mark_of s j p)) (mark_of s j p)) (only_has i j (inside wait s now i k (Keep p) accepted).0))
            (judged wait s now i k (Keep p) accepted new Live live)

        -- "Ask: the wanted mode is the join of the held and asked ones."
        module _ (asked : Mode) (accepted : Accepted s now (Message i k (Ask p asked))) where
          profile : p < 64
          profile = (inside wait s now i k (Ask p asked) accepted).1

          free_or_not_lem : (b : Bool) → any (holders s i p asked.0) ≡ b → step wait s now (Message i k (Ask p asked))
              ≡ after_heard s now i p (ruled_for (numbered k (member_at s i)) (free_or_not b (live_set s.members) p now i (wanted_on s i p asked.0) (holders s i p asked.0) (profile_at s p)))
          unfolding by_status heed ask_rule
          free_or_not_lem b e =
              judged wait s now i k (Ask p asked) accepted new Live live
              ∙ ap (λ (b : Bool). after_heard s now i p (ruled_for (numbered k (member_at s i)) (free_or_not b (live_set s.members) p now i (wanted_on s i p asked.0) (holders s i p asked.0) (profile_at s p)))) e

          kept_or_wait_lem : (b : Bool) → any (holders s i p asked.0) ≡ true → any (kept_holders s i p asked.0) ≡ b → step wait s now (Message i k (Ask p asked))
              ≡ after_heard s now i p (ruled_for (numbered k (member_at s i)) (kept_or_wait b p now (live_holders s i p asked.0) (wanted_on s i p asked.0) (profile_at s p)))
          kept_or_wait_lem b e h =
              free_or_not_lem true e
              ∙ ap (λ (b : Bool). after_heard s now i p (ruled_for (numbered k (member_at s i)) (kept_or_wait b p now (live_holders s i p asked.0) (wanted_on s i p asked.0) (profile_at s p)))) h

          -- "If no other station holds an incompatible mode, it is granted."
          pub ask_granted : any (holders s i p asked.0) ≡ false →
              Told wait s now i k (Ask p asked) (Granted p (mode (wanted_on s i p asked.0)))
              (status_of s) (changed_at (own i p) (λ (m : ℕ). wanted_on s i p asked.0) (mode_of s)) (mark_of s)
          ask_granted free =
              let wanted = wanted_on s i p asked.0 in
              let row = (profile_at s p).row in
              let x = with_row (profile_at s p) (set row i (mode wanted)) in
              let station : i < length row = rw (sized.profiles.modes.width p profile) (inside wait s now i k (Ask p asked) accepted).0 in
              by_tables
              (on_changed p (mode_in x) (mode_of s) (λ (b : Bool) (j : ℕ). b && eqb j i) (λ (m : ℕ). wanted) (λ j. refl)
              (set_at (λ (m : Mode). m.0) row i (mode wanted) (mode 0) station))
              (on_itself p (mark_in x) (mark_of s) (λ j. refl))
              (one_profile wait s now i k (Ask p asked) accepted sized x (Granted p (mode wanted)) (length-set row i (mode wanted)) refl (free_or_not_lem false free))

          -- "Otherwise, if any such holder has a kept mark, the answer is in use and all kept marks on that profile go."
          pub ask_in_use : any (kept_holders s i p asked.0) ≡ true →
              Told wait s now i k (Ask p asked) (InUse p) (status_of s) (mode_of s) (changed_at (all_on p) drop_kept (mark_of s))
          ask_in_use kept =
              let marks = (profile_at s p).marks in
              only_marks wait s now i k (Ask p asked) accepted sized (InUse p) drop_kept everyone (λ (b : Bool) (j : ℕ). b) (λ j. refl)
              (λ j. ap (λ (n : ℕ). mark_at (marks_changed drop_kept (replicate n true) marks) j) (sym (sized.profiles.marks p profile)) ∙ all_eased drop_kept stored_drop refl marks j)
              (kept_or_wait_lem true (any_both (holders s i p asked.0) (marks_with is_kept marks) kept) kept)

          -- "Otherwise the answer is wait: each live incompatible holder is demanded, since now unless already demanded"; "The answer gives
          -- these live holders .. as a mask and its count of ones."
          pub ask_wait : any (holders s i p asked.0) ≡ true → any (kept_holders s i p asked.0) ≡ false →
              Told wait s now i k (Ask p asked) (Wait p (mode (wanted_on s i p asked.0)) (mask (live_holders s i p asked.0)) (count (live_holders s i p asked.0)))
              (status_of s) (mode_of s) (changed_at (is_demanded s i p asked.0) (demand now) (mark_of s))
          ask_wait held kept =
              only_marks wait s now i k (Ask p asked) accepted sized _ (demand now) (live_holders s i p asked.0)
              (λ (b : Bool) (j : ℕ). b && (is_in_the_way s i p asked.0 j && is_live (status_of s j))) (λ j. refl)
              (λ j. mark_changed (demand now) (stored_demand now soon) (live_holders s i p asked.0) (profile_at s p).marks j (beyond j)
              ∙ ap (λ (b : Bool). cond b (demand now (mark_of s j p)) (mark_of s j p)) (has_demanded s i p asked.0 j))
              (kept_or_wait_lem false held kept)
            where
              -- the reading is one that a word holds as it is
              soon : now < kept_word
              soon = omega (arith, reading_good s.settings s.reading now (Message i k (Ask p asked)) accepted)

              -- beyond the row there is no mode that could be in the way
              beyond : (j : ℕ) → length (profile_at s p).marks ≤ j → cond (has (live_holders s i p asked.0) j) (remark (demand now) no_mark) no_mark ≡ no_mark
              beyond j h =
                  let past : length (profile_at s p).row ≤ j = omega (arith, sized.profiles.modes.width p profile, sized.profiles.marks p profile) in
                  let none : get_or (profile_at s p).row j (mode 0) ≡ mode 0 = get_or-eq_default (profile_at s p).row (mode 0) past in
                  ap (λ (b : Bool). cond b (remark (demand now) no_mark) no_mark)
                  (has_demanded s i p asked.0 j
                  ∙ ap (λ (m : Mode). clashes i (wanted_on s i p asked.0) j m && is_live (status_of s j)) none
                  ∙ ap (λ (b : Bool). b && is_live (status_of s j)) (none_clashes i (wanted_on s i p asked.0) j))
