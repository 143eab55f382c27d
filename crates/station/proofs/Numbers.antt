-- A number is never used twice, restarts included.
-- Assumes nothing.
use mathlib.Core.Path.{sym, subst}
use mathlib.Core.List.{List, [], ◌∷◌}
use Prim.Native.Nat.{ℕ, zero, suc, ◌<◌, ◌≤◌}
use native.Mathlib.Omega.{arith}
use native.Mathlib.Numerals.{add-one}
use native.Mathlib.Nat.{not-suc-le-zero, le_of_suc-le-suc}
use lib.ListN.{length, get_or}
use Rattle.timing.specs.declared.settings.Settings.{Settings}
use Rattle.station.specs.Event.{Event, Send, Begin, Edit, End, WriteOut, Restart, Acked, Nacked, Demand, Hold}
use Rattle.station.specs.Effect.{last_after, Answer, answer_to}
use Rattle.station.specs.Station.{Station, Stepped, new_station, expire, step}
use Rattle.station.specs.declared.event.Answer.TheVariants as answer
use Rattle.station.proofs.Steps.{Way, is_unheard, is_forbidden, is_done_lem, way, unheard, forbidden, happens}
use Rattle.station.proofs.Frames.{expire_last, after_last}

-- the numbers of the messages that were sent, the latest first
abbrev pub numbered : Answer → List ℕ → List ℕ
numbered answer.Done ns = ns
numbered (answer.Sent n q) ns = n ∷ ns
numbered (answer.Advice v) ns = ns
numbered (answer.Refused r) ns = ns

pub data Run : Station → List ℕ → Type 0 where
  made : (z : Settings) (own : ℕ) → Run (new_station z own) []
  moved : {s : Station} {ns : List ℕ} → Run s ns → (now : ℕ) (e : Event)
      → Run (step s now e).station (numbered (step s now e).answer ns)

-- each below the one sent after it, and the first below the bound
abbrev pub Falls : ℕ → List ℕ → Type 0
Falls bound [] = Unit
Falls bound (n ∷ ns) = (n < bound) × Falls n ns

falls_event : (last : ℕ) (holds : List Hold) (e : Event) (ns : List ℕ) → Falls (suc last) ns
    → Falls (suc (last_after last e)) (numbered (answer_to (last_after last e) holds e) ns)
falls_event last holds (Send q) ns f = (omega arith, subst (λ (n : ℕ). Falls n ns) (sym (add-one last)) f)
falls_event last holds (Begin p m) ns f = f
falls_event last holds (Edit p) ns f = f
falls_event last holds (End p) ns f = f
falls_event last holds (WriteOut p) ns f = f
falls_event last holds Restart ns f = f
falls_event last holds (Acked i k a) ns f = f
falls_event last holds (Nacked i k d) ns f = f
falls_event last holds (Demand i p m) ns f = f

falls_step : (s : Station) (now : ℕ) (e : Event) (ns : List ℕ) → Falls (suc s.last) ns
    → Falls (suc (step s now e).station.last) (numbered (step s now e).answer ns)
falls_step s now e ns f = by_way (way s now e)
  where
    Kept : Stepped → Type 0
    Kept r = Falls (suc r.station.last) (numbered r.answer ns)

    by_way : Way s now e → Falls (suc (step s now e).station.last) (numbered (step s now e).answer ns)
    by_way (is_unheard r h) = subst Kept (sym (unheard s now e r h)) f
    by_way (is_forbidden r h g) =
        subst Kept (sym (forbidden s now e r h g)) (subst (λ (l : ℕ). Falls (suc l) ns) (sym (expire_last s now)) f)
    by_way (is_done_lem h g) =
        let x = expire s now in
        subst Kept (sym (happens s now e h g))
        (subst (λ (l : ℕ). Falls (suc l) (numbered (answer_to (last_after x.last e) x.holds e) ns)) (sym (after_last x e))
        (falls_event x.last x.holds e ns (subst (λ (l : ℕ). Falls (suc l) ns) (sym (expire_last s now)) f)))

pub falls : {s : Station} {ns : List ℕ} → Run s ns → Falls (suc s.last) ns
falls (made z own) = tt
falls (moved {s} {ns} r now e) = falls_step s now e ns (falls r)

below : (b : ℕ) (ns : List ℕ) (j : ℕ) → Falls b ns → j < length ns → get_or ns j 0 < b
below b [] j f l = absurd (not-suc-le-zero l)
below b (n ∷ ns) zero f l = f.0
below b (n ∷ ns) (suc j) f l = let k = below n ns j f.1 (le_of_suc-le-suc l) in let h = f.0 in omega arith

apart : (b : ℕ) (ns : List ℕ) (i j : ℕ) → Falls b ns → i < j → j < length ns → get_or ns j 0 < get_or ns i 0
apart b [] i j f h l = absurd (not-suc-le-zero l)
apart b (n ∷ ns) i zero f h l = absurd (not-suc-le-zero h)
apart b (n ∷ ns) zero (suc j) f h l = below n ns j f.1 (le_of_suc-le-suc l)
apart b (n ∷ ns) (suc i) (suc j) f h l = apart n ns i j f.1 (le_of_suc-le-suc h) (le_of_suc-le-suc l)

-- of two messages, the earlier has the lower number
pub never_twice : {s : Station} {ns : List ℕ} → Run s ns → (i j : ℕ) → i < j → j < length ns → get_or ns j 0 < get_or ns i 0
never_twice {s} {ns} r i j h l = apart (suc s.last) ns i j (falls r) h l

-- and none is above the last number
pub none_above : {s : Station} {ns : List ℕ} → Run s ns → (j : ℕ) → j < length ns → get_or ns j 0 ≤ s.last
none_above {s} {ns} r j l = let k = below (suc s.last) ns j (falls r) l in omega arith
