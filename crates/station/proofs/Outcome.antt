-- What an event leaves of every part of a station, by how it was answered: the laws for whoever builds on a station's step.
-- Assumes nothing.
use mathlib.Core.Path.{◌≡◌, sym, ap, ◌∙◌}
use mathlib.Core.Bool.{true, false, true≢false}
use mathlib.Core.Logic.{◌⊎◌, inl, inr}
use Prim.Native.Nat.{ℕ, ◌<◌}
use native.Mathlib.Omega.{arith}
use Rattle.std.proofs.Common.{Ok}
use lib.ListN.{length}
use Rattle.masks.specs.Mask.{mask, count}
use Rattle.timing.specs.Limits.{most_profiles}
use Rattle.station.specs.Event.{Event}
use Rattle.station.specs.Effect.{standing_after, sent_at, start_after, last_after, waiting_after, answer_to}
use Rattle.station.specs.Station.{Station, Stepped, mode_of, expire, lost, forbids, step}
use Rattle.station.proofs.Steps.{is_good, Way, is_unheard, is_forbidden, is_done_lem, way, unheard, forbidden, happens, good_done, done_good}
use Rattle.room.specs.Rules.{profile_for}
use Rattle.station.proofs.Frames.{expire_settings, expire_number, expire_last, expire_reading, expire_length, after_settings, after_number, after_standing, after_start, after_last, after_reading, after_waiting, mode_after, mode_after_lem}
use Rattle.station.proofs.Heard.{Heard, heard, heard_profile}
use Rattle.station.proofs.Sound.{Sound}

-- an event answered without a refusal, at a station whose lease has ended first if it had run
pub record Happened (s : Station) (now : ℕ) (e : Event) : Type 0 where
  pub heard : Heard s now e
  pub allowed : forbids (expire s now) e ≡ Ok tt
  pub settings : (step s now e).station.settings ≡ s.settings
  pub number : (step s now e).station.number ≡ s.number
  pub standing : (step s now e).station.standing ≡ standing_after (expire s now).standing e
  pub start : (step s now e).station.start ≡ start_after (expire s now).start (sent_at (expire s now).waiting) e
  pub last : (step s now e).station.last ≡ last_after s.last e
  pub reading : (step s now e).station.reading ≡ now
  pub waiting : (step s now e).station.waiting ≡ waiting_after (expire s now).waiting now e
  pub mode : (q : ℕ) → mode_of (step s now e).station q ≡ mode_after (expire s now) e q
  pub answer : (step s now e).answer ≡ answer_to (last_after s.last e) (expire s now).holds e
  pub lost_mask : (step s now e).lost ≡ mask (lost s now e)
  pub lost_count : (step s now e).count ≡ count (lost s now e)

pub happened : (s : Station) (now : ℕ) (e : Event) → Sound s → is_good (step s now e).answer ≡ true → Happened s now e
happened s now e g b =
    let d = good_done s now e b in
    let k = heard s now e d.0 in
    let t = happens s now e d.0 d.1 in
    let x = expire s now in
    let z : length x.holds ≡ most_profiles = expire_length s now g.sized in
    let l : profile_for e < most_profiles = (heard_profile s now e k).1 in
    let p : profile_for e < length x.holds = omega arith in
    record {
      heard = k;
      allowed = d.1;
      settings = ap (λ (r : Stepped). r.station.settings) t ∙ after_settings x e ∙ expire_settings s now;
      number = ap (λ (r : Stepped). r.station.number) t ∙ after_number x e ∙ expire_number s now;
      standing = ap (λ (r : Stepped). r.station.standing) t ∙ after_standing x e;
      start = ap (λ (r : Stepped). r.station.start) t ∙ after_start x e;
      last = ap (λ (r : Stepped). r.station.last) t ∙ after_last x e ∙ ap (λ (n : ℕ). last_after n e) (expire_last s now);
      reading = ap (λ (r : Stepped). r.station.reading) t ∙ after_reading x e ∙ expire_reading s now;
      waiting = ap (λ (r : Stepped). r.station.waiting) t
          ∙ after_waiting x e
          ∙ ap (λ (n : ℕ). waiting_after x.waiting n e) (expire_reading s now);
      mode = λ q. ap (λ (r : Stepped). mode_of r.station q) t ∙ mode_after_lem x e q p;
      answer = ap (λ (r : Stepped). r.answer) t
          ∙ ap (λ (n : ℕ). answer_to (last_after n e) x.holds e) (expire_last s now);
      lost_mask = ap (λ (r : Stepped). r.lost) t;
      lost_count = ap (λ (r : Stepped). r.count) t;
    }

-- a refused event leaves the station as it was, or at the new reading with the lease ended if it had run
pub unhappened : (s : Station) (now : ℕ) (e : Event) → is_good (step s now e).answer ≡ false
    → ((step s now e).station ≡ s) ⊎ (Heard s now e × ((step s now e).station ≡ expire s now))
unhappened s now e b = by_way (way s now e)
  where
    by_way : Way s now e → ((step s now e).station ≡ s) ⊎ (Heard s now e × ((step s now e).station ≡ expire s now))
    by_way (is_unheard r h) = inl (ap (λ (r : Stepped). r.station) (unheard s now e r h))
    by_way (is_forbidden r h f) = inr (heard s now e h, ap (λ (r : Stepped). r.station) (forbidden s now e r h f))
    by_way (is_done_lem h f) = absurd (true≢false (sym (done_good s now e h f) ∙ b))
