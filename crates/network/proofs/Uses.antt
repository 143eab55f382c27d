-- What a room's engine allows never stands beside another room's incompatible use.
-- Assumes nothing.
use mathlib.Core.Path.{◌≡◌, refl, sym, subst, ap, ◌∙◌}
use mathlib.Core.Bool.{Bool, true, cond}
use mathlib.Core.List.{List, ◌∷◌}
use Prim.Native.Nat.{ℕ, ◌<◌}
use Rattle.std.proofs.Common.{Ok}
use borrow.Author.Tests.{eq-eqb}
use Rattle.modes.specs.Modes.{goes_with}
use Rattle.timing.specs.declared.settings.Settings.{Settings}
use Rattle.timing.specs.Settings.{in_range, wait}
use Rattle.station.specs.declared.station.Station.{Station}
use Rattle.station.specs.Event.{Event, Begin, Edit, WriteOut}
use Rattle.station.specs.Station.{mode_of, may_use, step}
use Rattle.station.proofs.Steps.{is_good}
use Rattle.station.proofs.Uses.{InUse, begin_uses, edit_uses, write_uses}
use Rattle.network.specs.Picture.{Happening, Moment, next, run}
use Rattle.network.specs.Premises.{Happens, Permitted, goes_on}
use Rattle.network.specs.Claims.{mode_at, Safe}
use Rattle.network.specs.Uses.{held_mode, Allowed, Undisturbed, BeginSafe, EditSafe, WriteOutSafe}
use Rattle.network.proofs.Safety.{safe}

what_happens : (z : Settings) (w : ℕ) (t : Moment) (h : List Moment) → Permitted z w (t ∷ h) → Happens z (run z w h) t.what
what_happens z w t h (goes_on clocks happens P) = happens

module _ (z : Settings) (good : in_range z ≡ true) (t : Moment) (h : List Moment) (i p : ℕ) (e : Event) (A : Allowed z t h i e) where
  abbrev s : Station
  s = (run z (wait z) h).rooms i

  here : i < z.stations
  here = (subst (λ (k : Happening). Happens z (run z (wait z) h) k) A.happens (what_happens z (wait z) t h A.permitted)).0

  room_after : (run z (wait z) (t ∷ h)).rooms i ≡ (step s (t.rooms i) e).station
  unfolding run next
  room_after =
      ap (λ (k : Happening). (next (wait z) (run z (wait z) h) t k).rooms i) A.happens
      ∙ ap (λ (b : Bool). cond b (step s (t.rooms i) e).station s) (eq-eqb i i refl)

  good_answer : is_good (step s (t.rooms i) e).answer ≡ true
  good_answer = ap is_good A.done

  undisturbed : InUse s (t.rooms i) p e → Undisturbed z t h i p
  unfolding Safe
  undisturbed U = record {
    uses = uses;
    held = held;
    others = λ j b ne u. ap (λ (n : ℕ). goes_with n (mode_at z (wait z) t h j p)) (sym held) ∙ safe_at j b ne u;
  }
    where
      uses : may_use ((run z (wait z) (t ∷ h)).rooms i) (t.rooms i) p ≡ Ok true
      uses = ap (λ (x : Station). may_use x (t.rooms i) p) room_after ∙ U.uses_after

      held : mode_of ((run z (wait z) (t ∷ h)).rooms i) p ≡ held_mode z t h i p
      held = ap (λ (x : Station). mode_of x p) room_after ∙ U.mode_stays

      safe_at : (j : ℕ) → j < z.stations → (i ≡ j → ⊥) → may_use ((run z (wait z) (t ∷ h)).rooms j) (t.rooms j) p ≡ Ok true →
          goes_with (mode_at z (wait z) t h i p) (mode_at z (wait z) t h j p) ≡ true
      safe_at j b ne u = safe z good t h A.permitted i j p here b ne uses u

pub begin_safe : BeginSafe
unfolding BeginSafe
begin_safe z good t h i p m A =
    let U = begin_uses ((run z (wait z) h).rooms i) (t.rooms i) p m (good_answer z good t h i p (Begin p m) A) in
    (U.0, undisturbed z good t h i p (Begin p m) A U.1)

pub edit_safe : EditSafe
unfolding EditSafe
edit_safe z good t h i p A =
    let U = edit_uses ((run z (wait z) h).rooms i) (t.rooms i) p (good_answer z good t h i p (Edit p) A) in
    (U.0, undisturbed z good t h i p (Edit p) A U.1)

pub write_out_safe : WriteOutSafe
unfolding WriteOutSafe
write_out_safe z good t h i p A =
    let U = write_uses ((run z (wait z) h).rooms i) (t.rooms i) p (good_answer z good t h i p (WriteOut p) A) in
    (U.0, undisturbed z good t h i p (WriteOut p) A U.1)
