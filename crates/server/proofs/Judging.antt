-- An event judged over the little that it needs, and then stored, is the step; it is stored in the arrays.
-- Assumes nothing.
use mathlib.Core.Path.{◌≡◌, refl, sym, ap, ◌∙◌}
use mathlib.Core.Bool.{Bool, true, false, cond}
use mathlib.Core.List.{List, [], map}
use Prim.Native.Nat.{ℕ}
use Rattle.std.proofs.Common.{Option, Some, None, Result, Ok, Err}
use Rattle.std.specs.Prelude.{IfOk}
use Rattle.std.specs.Option.{unwrap_or}
use native.Mathlib.Omega.{arith}
use lib.ListN.{length, set}
use lib.Seq.{set-get_or}
use Rattle.refusals.specs.Refusal.{Verdict}
use Rattle.refusals.specs.declared.Refusal.{Refusal}
use Rattle.masks.specs.Mask.{Set, mask, set_of}
use Rattle.masks.proofs.Laws.{set_mask, length_those}
use Rattle.timing.specs.Limits.{most_stations}
use Rattle.timing.specs.Settings.{wait, wait_answer}
use Rattle.profiles.specs.Sets.{is_live, live_set, only}
use Rattle.profiles.specs.Under.{wiped_under}
use Rattle.profiles.proofs.Under.{wiped_all, none_wiped}
use Rattle.requests.specs.Request.{profile_of}
use Rattle.hearing.specs.declared.Heard.{Heard}
use Rattle.hearing.specs.Hear.{hear}
use Rattle.hearing.specs.Needs.{looks, asks}
use Rattle.hearing.proofs.Needs.{over, unlooked, unasked}
use Rattle.judging.specs.Refusal.{refusal}
use Rattle.judging.specs.declared.judge.Route.{Route}
use Rattle.judging.specs.Judge.{route_to, route_by, route_of, Within, LeavesWithin, needs_if, needed_for, heard_as, heard_for, judged_for}
use Rattle.judging.proofs.Refusals.{settings_good}
use Rattle.judging.proofs.Ways.{route_within}
use Rattle.server.specs.State.{Member, Profile, Server, no_profile, empty_profile, member_at, profile_at}
use Rattle.server.specs.Event.{Request, Event, Message, Tick}
use Rattle.server.specs.Tick.{free, started_set, start}
use Rattle.server.specs.Step.{Served, wiped_if, after_heard, at_reading, message, tick, if_good, step}
use Rattle.server.specs.Settle.{profile_if, live_if, judge_at, judge_on, stored, settled}

-- what is left is at the route that was judged
at_route : (s : Server) (now : ℕ) (e : Event) (r : Result Route Refusal) → IfOk r Within → LeavesWithin (judge_at s now e r).outcome
unfolding judged_for heard_for
at_route s now (Message i k q) (Ok r) h = h
at_route s now Tick (Ok r) h = tt
at_route s now e (Err r) h = tt

-- so what is judged of any event, on any server and at any reading, is stored at a station and a profile of the arrays
pub judged_within : (s : Server) (now : ℕ) (e : Event) → LeavesWithin (judge_on s now e).outcome
unfolding judge_on
judged_within s now e =
    at_route s now e (route_of s.settings s.reading now e) (route_within s.settings s.reading now e)

-- all profiles wiped of who is gone
gone_wiped : (b : Bool) (i : ℕ) (xs : List Profile) → map (wiped_under (mask (cond b (only i) []))) xs ≡ wiped_if b i xs
gone_wiped b i xs = grind (arith, wiped_all (only i) (mask (only i)) refl xs, none_wiped xs)

-- what was heard, stored: with its profile, and without where that is the one that stands there
module _ (s : Server) (now i p : ℕ) (h : Heard) where
  written : (x : Profile) → stored (at_reading s now) (heard_as (route_to i p) (Some x) h) ≡ (after_heard s now i p h).server
  written x =
      λ j. record {
        settings = s.settings;
        reading = now;
        members = set s.members i h.member;
        profiles = gone_wiped h.greeted i (set s.profiles p h.profile) j;
      }

  unwritten : stored (at_reading s now) (heard_as (route_to i p) None h) ≡ (after_heard s now i p (over (profile_at s p) h)).server
  unwritten =
      let same : map (wiped_under (mask (cond h.greeted (only i) []))) s.profiles ≡ wiped_if h.greeted i (set s.profiles p (profile_at s p)) = gone_wiped h.greeted i s.profiles ∙ ap (wiped_if h.greeted i) (sym (set-get_or s.profiles p no_profile)) in
      λ j. record {
        settings = s.settings;
        reading = now;
        members = set s.members i h.member;
        profiles = same j;
      }

-- a message, judged over its profile and who is live only where it needs them
module _ (s : Server) (now i k : ℕ) (q : Request) (all : length s.members ≡ 16) where
  live_again : set_of most_stations (mask (live_set s.members)) ≡ live_set s.members
  live_again =
      ap (λ (n : ℕ). set_of n (mask (live_set s.members))) (sym (length_those (λ (m : Member). is_live m.status) s.members ∙ all))
      ∙ set_mask (live_set s.members)

  -- what is left of it, judged on a profile and the live stations
  left_on : Option Profile → Set → Served
  left_on x live = let h = hear live now i k q (member_at s i) (unwrap_or x empty_profile) in
      record { server = stored (at_reading s now) (heard_as (route_to i (profile_of q)) x h); answer = h.answer }

  on_profile : (live : Set) → left_on (Some (profile_at s (profile_of q))) live ≡ after_heard s now i (profile_of q) (hear live now i k q (member_at s i) (profile_at s (profile_of q)))
  unfolding left_on
  on_profile live =
      let x = profile_at s (profile_of q) in
      let h = hear live now i k q (member_at s i) x in
      λ j. record { server = written s now i (profile_of q) h x j; answer = h.answer }

  heard_settled : (b c : Bool) → looks k q (member_at s i) ≡ b → asks q ≡ c
      → left_on (profile_if (needs_if b c) s (profile_of q)) (set_of most_stations (live_if (needs_if b c) s)) ≡ message s now i k q
  unfolding left_on message
  heard_settled true true l e =
      on_profile (set_of most_stations (mask (live_set s.members)))
      ∙ ap (λ (live : Set). after_heard s now i (profile_of q) (hear live now i k q (member_at s i) (profile_at s (profile_of q)))) live_again
  heard_settled true false l e =
      on_profile (set_of most_stations 0)
      ∙ ap (after_heard s now i (profile_of q)) (unasked (set_of most_stations 0) (live_set s.members) now i k q (member_at s i) (profile_at s (profile_of q)) e)
  heard_settled false c l e =
      let h = hear (set_of most_stations 0) now i k q (member_at s i) empty_profile in
      (λ j. record { server = unwritten s now i (profile_of q) h j; answer = h.answer })
      ∙ ap (after_heard s now i (profile_of q))
      (sym (unlooked (live_set s.members) (set_of most_stations 0) now i k q (member_at s i) (profile_at s (profile_of q)) empty_profile l))

module _ (s : Server) (now : ℕ) (all : length s.members ≡ 16) where
  by_verdict : (v : Verdict) (e : Event) → refusal s.settings s.reading now e ≡ v
      → settled (wait_answer s.settings) s (judge_at s now e (route_by v e)) ≡ if_good v (wait s.settings) s now e
  unfolding settled judged_for needed_for heard_for tick free start started_set left_on
  by_verdict (Ok _) (Message i k q) h = heard_settled s now i k q all (looks k q (member_at s i)) (asks q) refl refl
  by_verdict (Ok _) Tick h =
      ap (λ (b : Bool). tick (cond b (wait s.settings) 0) s now) (settings_good s.settings s.reading now Tick h)
  by_verdict (Err r) e h = refl

pub judged_settled : (s : Server) (now : ℕ) (e : Event) → length s.members ≡ 16
    → settled (wait_answer s.settings) s (judge_on s now e) ≡ step (wait s.settings) s now e
unfolding judge_on route_of step
judged_settled s now e all = by_verdict s now all (refusal s.settings s.reading now e) e refl
