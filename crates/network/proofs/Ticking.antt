-- The server's tick keeps the invariant.
-- Assumes nothing.
use mathlib.Core.Path.{◌≡◌, refl, sym, subst, ap, ◌∙◌}
use mathlib.Core.Bool.{Bool, true, false, cond}
use mathlib.Core.List.{List, []}
use Prim.Native.Nat.{ℕ, ◌+◌, ◌<◌, ◌≤◌}
use native.Mathlib.Omega.{arith}
use Rattle.std.proofs.Common.{Ok, Err}
use lib.Dec.{leb}
use borrow.Author.Tests.{leb-true}
use Rattle.refusals.specs.Refusal.{Verdict}
use Rattle.timing.specs.declared.settings.Settings.{Settings}
use Rattle.timing.specs.Settings.{lease}
use Rattle.server.specs.State.{Status, Unknown, Live, TimingOut, status_of, mode_of}
use Rattle.server.specs.declared.server.Server.{Server}
use Rattle.server.specs.declared.server.Served.{Served}
use Rattle.server.specs.Event.{Tick}
use Rattle.profiles.specs.Sets.{is_waited}
use Rattle.judging.specs.Refusal.{refusal}
use Rattle.server.specs.Step.{step}
use Rattle.server.proofs.Serves.{Accepted}
use Rattle.server.proofs.Events.{refused}
use Rattle.server.proofs.Ticks.{freed_to, started_to, is_late_in, ticks}
use Rattle.server.proofs.Reachable.{step_sound}
use Rattle.network.specs.Picture.{World, Moment, with_server}
use Rattle.network.proofs.Pair.{Held, Known, turned}
use Rattle.network.proofs.Sound.{past, Sound}

-- whom the server still knows it knew, and did not free
known_still : (wait now : ℕ) (late : Bool) (σ : Status) → Known (started_to now late (freed_to wait now σ)) → Known σ × (is_waited wait now σ ≡ false)
known_still wait now true Unknown k = absurd k
known_still wait now false Unknown k = absurd k
known_still wait now late Live k = (tt, refl)
known_still wait now late (TimingOut τ) k = by_test late (leb (τ + wait) now) k
  where
    by_test : (late b : Bool) → Known (started_to now late (cond b Unknown (TimingOut τ))) → Unit {0} × (b ≡ false)
    by_test true true k = absurd k
    by_test false true k = absurd k
    by_test late false k = (tt, refl)

module _ (z : Settings) (wait : ℕ) (w : World) (h : List Moment) (cs : ℕ → ℕ) (I : Sound z w h cs) (now : ℕ)
    -- the present is a moment
    (present : (i : ℕ) → past h i now (cs i))
    -- what the server has waited through, no lease survives
    (over : (i τ y : ℕ) → i < z.stations → past h i τ y → τ + wait ≤ now → y + lease z ≤ cs i) where
  -- a lease that lasts is kept
  hold : (i : ℕ) → i < z.stations → (x : ℕ) → x ≤ cs i → cs i < x + lease z → (late : Bool) (σ : Status) → Held (past h i) σ x →
      Held (past h i) (started_to now late (freed_to wait now σ)) x
  hold i here x bx lasts late Unknown k = absurd k
  hold i here x bx lasts true Live k = (cs i, present i, bx)
  hold i here x bx lasts false Live k = k
  hold i here x bx lasts late (TimingOut τ) k = by_test late (leb (τ + wait) now) refl
    where
      by_test : (late b : Bool) → leb (τ + wait) now ≡ b → Held (past h i) (started_to now late (cond b Unknown (TimingOut τ))) x
      by_test late true e = let o = over i τ k.0 here k.1 (leb-true (τ + wait) now e) in let y = k.2 in absurd (omega arith)
      by_test true false e = k
      by_test false false e = k

  abbrev s : Server
  s = w.server

  ticked : Accepted s now Tick → Sound z (with_server w (step wait s now Tick) []) h cs
  ticked a =
      let law = ticks wait s now I.server.lengths a in
      record {
        pair = λ i b.
            turned (lease z) (I.pair i b) (law.last i)
            (λ x bx lasts k. subst (λ (σ : Status). Held (past h i) σ x) (sym (law.status i)) (hold i b x bx lasts (is_late_in s now i) (status_of s i) k))
            (λ k.
            let y = known_still wait now (is_late_in s now i) (status_of s i) (subst (λ (σ : Status). Known σ) (law.status i) k) in
            (y.0, λ p. law.mode i p ∙ ap (λ (t : Bool). cond t 0 (mode_of s i p)) y.1));
        own = I.own;
        server = step_sound z wait s now Tick I.server;
      }

  on_refusal : (v : Verdict) → refusal s.settings s.reading now Tick ≡ v → Sound z (with_server w (step wait s now Tick) []) h cs
  on_refusal (Ok _) e = ticked e
  on_refusal (Err r) e = subst (λ (t : Served). Sound z (with_server w t []) h cs) (sym (refused wait s now Tick r e)) I

  pub tick_sound : Sound z (with_server w (step wait s now Tick) []) h cs
  tick_sound = on_refusal (refusal s.settings s.reading now Tick) refl
