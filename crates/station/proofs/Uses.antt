-- What the engine allows is a use: begin, edit and write out are answered done only where the station may use the profile then.
-- It still may afterwards, in the same mode; that mode covers the begun one, or writes.
-- Assumes nothing.
use mathlib.Core.Path.{◌≡◌, refl, sym, ap, ◌∙◌}
use mathlib.Core.Bool.{Bool, true, false, ◌&&◌, not, true≢false}
use Prim.Native.Nat.{ℕ, ◌+◌, ◌<◌, ◌≤◌}
use native.Mathlib.Nat.{le_refl}
use Rattle.std.proofs.Common.{Ok}
use borrow.Author.Tests.{lt-leb, le-ltb, lt-ltb, leb-false}
use Rattle.modes.specs.Modes.{is_mode, covers, writes}
use Rattle.modes.specs.declared.Mode.{Mode}
use Rattle.modes.proofs.Laws.{writes_mode, mode_covered}
use Rattle.timing.specs.Limits.{reading_limit}
use Rattle.timing.specs.declared.settings.Settings.{Settings}
use Rattle.timing.specs.Settings.{in_range}
use Rattle.timing.specs.Reading.{passed}
use Rattle.requests.proofs.Back.{in_modes}
use Rattle.holds.specs.Hold.{with_unwritten}
use Rattle.holds.specs.Stage.{is_out}
use Rattle.room.specs.Refusal.{use_refusal}
use Rattle.station.specs.Event.{Event, Begin, Edit, WriteOut}
use Rattle.station.specs.Effect.{begun}
use Rattle.station.specs.Station.{Station, Stepped, mode_of, lease_of, at_reading, is_over, expire, refusal_of, forbids, after, step, may_use}
use Rattle.station.proofs.Steps.{is_good, happens, good_done}
use Rattle.room.specs.Rules.{profile_for}
use Rattle.station.proofs.Frames.{ends, lasts, modes_kept}
use Rattle.station.proofs.Shown.{begin_shows, edit_shows, write_shows}
use Rattle.station.proofs.Heard.{heard, heard_profile}

-- a station that is not out after its reading was taken has its lease and its modes
pub record Leased (s : Station) (now : ℕ) : Type 0 where
  pub inside : is_out s.standing ≡ false
  pub left : now < s.start + lease_of s
  pub same : expire s now ≡ at_reading s now

pub leased : (s : Station) (now : ℕ) → is_out (expire s now).standing ≡ false → Leased s now
leased s now o = by_test (is_over s now) refl
  where
    runs : (t : Bool) → t ≡ false → (not t && passed s.start (lease_of s) now) ≡ false → passed s.start (lease_of s) now ≡ false
    runs true e f = absurd (true≢false e)
    runs false e f = f

    by_test : (t : Bool) → is_over s now ≡ t → Leased s now
    by_test true e = absurd (true≢false (sym (ap (λ (x : Station). is_out x.standing) (ends s now e)) ∙ o))
    by_test false e =
        let q = lasts s now e in
        let i : is_out s.standing ≡ false = sym (ap (λ (x : Station). is_out x.standing) q) ∙ o in
        record { inside = i; left = leb-false (s.start + lease_of s) now (runs (is_out s.standing) i e); same = q }

-- where 1 to 6 do not refuse the question
pub use_free : (z : Settings) → in_range z ≡ true → (own last now p : ℕ) → own < z.stations → p < z.profiles
    → now ≤ reading_limit → last ≤ now → use_refusal z own last now p ≡ Ok tt
unfolding use_refusal
use_free z range own last now p here named limit forward =
    rw (range, lt-leb z.stations own here, lt-leb z.profiles p named, le-ltb reading_limit now limit, le-ltb now last forward)

pub may_use_lem : (s : Station) (now p : ℕ) → use_refusal s.settings s.number s.reading now p ≡ Ok tt
    → is_mode (mode_of s p) ≡ true → now < s.start + lease_of s → may_use s now p ≡ Ok true
unfolding may_use
may_use_lem s now p free mode left = rw (free, mode, lt-ltb now (s.start + lease_of s) left)

-- the profile may be used before the event, and after it in the same mode
pub record InUse (s : Station) (now p : ℕ) (e : Event) : Type 0 where
  pub uses : may_use s now p ≡ Ok true
  pub uses_after : may_use (step s now e).station now p ≡ Ok true
  pub mode_stays : mode_of (step s now e).station p ≡ mode_of s p

-- so it is with an event that happens to a station within its lease, and leaves the lease and the mode of the profile that it names
in_use_lem : (s : Station) (now : ℕ) (e : Event) → refusal_of s now e ≡ Ok tt → forbids (expire s now) e ≡ Ok tt → Leased s now
    → is_mode (mode_of s (profile_for e)) ≡ true → (after (at_reading s now) e).start ≡ s.start
    → mode_of (after (at_reading s now) e) (profile_for e) ≡ mode_of s (profile_for e) → InUse s now (profile_for e) e
unfolding after
in_use_lem s now e h f k m start same =
    let p = profile_for e in
    let x = after (at_reading s now) e in
    let q = heard s now e h in
    let l = (heard_profile s now e q).0 in
    let left = k.left in
    let free : (last : ℕ) → last ≤ now → use_refusal s.settings s.number last now p ≡ Ok tt =
    λ last forward. use_free s.settings q.range s.number last now p q.own l q.limit forward in
    let becomes : (step s now e).station ≡ x =
    ap (λ (r : Stepped). r.station) (happens s now e h f) ∙ ap (λ (x : Station). after x e) k.same in
    record {
      uses = may_use_lem s now p (free s.reading q.forward) m left;
      uses_after = ap (λ (x : Station). may_use x now p) becomes
          ∙ may_use_lem x now p (free now (le_refl now)) (ap is_mode same ∙ m) (rw start left);
      mode_stays = ap (λ (x : Station). mode_of x p) becomes ∙ same;
    }

module _ (s : Station) (now p : ℕ) where
  mode_kept : Leased s now → mode_of (expire s now) p ≡ mode_of s p
  mode_kept k = ap (λ (x : Station). mode_of x p) k.same

  -- begun in a mode that the held one covers
  pub begin_uses : (m : Mode) → is_good (step s now (Begin p m)).answer ≡ true
      → (covers (mode_of s p) m.0 ≡ true) × InUse s now p (Begin p m)
  unfolding after
  begin_uses m g =
      let (h, f) = good_done s now (Begin p m) g in
      let (inside, covered) = begin_shows (expire s now) p m.0 f in
      let k = leased s now inside in
      let c : covers (mode_of s p) m.0 ≡ true = sym (ap (λ (n : ℕ). covers n m.0) (mode_kept k)) ∙ covered in
      let o = in_modes s.settings.profiles p (is_mode m.0) (heard s now (Begin p m) h).named in
      (c, in_use_lem s now (Begin p m) h f k (mode_covered (mode_of s p) m.0 c o) refl (modes_kept begun (λ h. refl) s.holds p p))

  -- edited and written out under a writing mode
  pub edit_uses : is_good (step s now (Edit p)).answer ≡ true → (writes (mode_of s p) ≡ true) × InUse s now p (Edit p)
  unfolding after
  edit_uses g =
      let (h, f) = good_done s now (Edit p) g in
      let (inside, writing) = edit_shows (expire s now) p f in
      let k = leased s now inside in
      let c : writes (mode_of s p) ≡ true = sym (ap writes (mode_kept k)) ∙ writing in
      (c, in_use_lem s now (Edit p) h f k (writes_mode (mode_of s p) c) refl (modes_kept (with_unwritten true) (λ h. refl) s.holds p p))

  pub write_uses : is_good (step s now (WriteOut p)).answer ≡ true → (writes (mode_of s p) ≡ true) × InUse s now p (WriteOut p)
  unfolding after
  write_uses g =
      let (h, f) = good_done s now (WriteOut p) g in
      let (inside, writing) = write_shows (expire s now) p f in
      let k = leased s now inside in
      let c : writes (mode_of s p) ≡ true = sym (ap writes (mode_kept k)) ∙ writing in
      (c, in_use_lem s now (WriteOut p) h f k (writes_mode (mode_of s p) c) refl (modes_kept (with_unwritten false) (λ h. refl) s.holds p p))
