-- What holds of every server that events can lead to, kept by each event through its frame law.
-- Assumes nothing.
use mathlib.Core.Path.{◌≡◌, refl, sym, ap, subst, ◌∙◌}
use mathlib.Core.Bool.{Bool, true, false, cond, ◌&&◌, and-eq-true_iff, false≢true}
use mathlib.Core.Logic.{◌⊎◌, inl, inr}
use Prim.Native.Nat.{ℕ, zero, suc, ◌<◌, ◌≤◌}
use native.Mathlib.Omega.{arith}
use lib.Dec.{eqb}
use lib.ListN.{length, get_or, replicate, get_or-replicate}
use borrow.Author.Tests.{eqb-true}
use Rattle.modes.specs.Modes.{mode, goes_with}
use Rattle.modes.specs.declared.Mode.{Mode}
use Rattle.modes.proofs.Laws.{none_goes, join_small}
use Rattle.timing.specs.declared.settings.Settings.{Settings}
use Rattle.server.specs.State.{Status, Unknown, Live, TimingOut, Mark, Unmarked, Member, Profile, Server, nobody, no_mark, as_mark, empty_profile, no_profile, new_server, mode_in, mark_in, status_of, last_of, mode_of, mark_of}
use Rattle.profiles.specs.Sets.{is_live, is_waited, wipe_mark, drop_kept, demand, keep_mark, clashes}
use Rattle.server.specs.Event.{Request, Hello, Ask, Event, Message, Tick, Answer, Done}
use Rattle.requests.specs.Request.{profile_of}
use Rattle.server.specs.Step.{Served, step}
use Rattle.judging.proofs.Refusals.{station_below, profile_below}
use Rattle.server.proofs.Serves.{Sized, Accepted, at, changed_at, all_of, own, all_on, no_lock, Serves, at_other}
use Rattle.server.proofs.InTheWay.{none_clashes, wanted_on, is_in_the_way, is_demanded, free_goes}
use Rattle.server.proofs.Events.{refused, stale, nack_0, nack_1, hello, keep_alive, release, keep, ask_granted, ask_in_use, ask_wait}
use Rattle.server.proofs.Orderly.{Nothing, Orderly, lessened, given}
use Rattle.server.proofs.Cases.{Case, case_of}
use Rattle.server.proofs.Ticks.{freed_to, started_to, is_late_in, ticks}

-- from a new server by any events, at any readings, with any wait
pub data Reachable (z : Settings) : Server → Type 0 where
  first : Reachable z (new_server z)
  next : {s : Server} (wait now : ℕ) (e : Event) → Reachable z s → Reachable z (step wait s now e).server

-- the invariant
pub record Sound (z : Settings) (s : Server) : Type 0 where
  pub settings : s.settings ≡ z
  pub lengths : Sized s
  pub tables : Orderly z (status_of s) (mode_of s) (mark_of s)

-- an event that leaves such tables
after : {z : Settings} {s : Server} {now : ℕ} {r : Served} {a : Answer} {σ : ℕ → Status} {κ : ℕ → ℕ} {μ : ℕ → ℕ → ℕ} {ν : ℕ → ℕ → Mark} →
    s.settings ≡ z → Serves s now r a σ κ μ ν → Orderly z σ μ ν → Sound z r.server
after {r = r} {μ = μ} {ν = ν} e h o =
    record {
      settings = h.settings ∙ e;
      lengths = h.lengths;
      tables = record {
        apart = λ i j p k.
            ap (λ (n : ℕ). goes_with n (mode_of r.server j p)) (h.mode i p) ∙ ap (λ (n : ℕ). goes_with (μ i p) n) (h.mode j p) ∙ o.apart i j p k;
        small = λ i p. subst (λ (n : ℕ). n ≤ 6) (sym (h.mode i p)) (o.small i p);
        unknown = λ i p k. then i p (o.unknown i p (sym (h.status i) ∙ k));
        stations = λ i k. h.status i ∙ o.stations i k;
        profiles = λ i p k. then i p (o.profiles i p k);
      };
    }
  where
    then : (i p : ℕ) → Nothing μ ν i p → Nothing (mode_of r.server) (mark_of r.server) i p
    then i p k = (h.mode i p ∙ k.0, h.mark i p ∙ k.1)

-- "A station is unknown (at the start)", and no server starts with a mode or a mark
replicated : {A B : Type 0} (f : A → B) (v : B) (a d : A) → f a ≡ v → f d ≡ v → (n i : ℕ) → f (get_or (replicate n a) i d) ≡ v
replicated f v a d p q zero i = q
replicated f v a d p q (suc n) zero = p
replicated f v a d p q (suc n) (suc i) = replicated f v a d p q n i

module _ (z : Settings) where
  pub new_unknown : (i : ℕ) → status_of (new_server z) i ≡ Unknown
  unfolding new_server
  new_unknown i = replicated (λ (m : Member). m.status) Unknown nobody nobody refl refl 16 i

  pub new_nothing : (i p : ℕ) → Nothing (mode_of (new_server z)) (mark_of (new_server z)) i p
  unfolding new_server
  new_nothing i p = (
    replicated (λ (x : Profile). mode_in x i) 0 empty_profile no_profile (replicated (λ (m : Mode). m.0) 0 (mode 0) (mode 0) refl refl 16 i) refl 64 p,
    replicated (λ (x : Profile). mark_in x i) Unmarked empty_profile no_profile (replicated as_mark Unmarked no_mark no_mark refl refl 16 i) refl 64 p,
  )

  new_lengths : Sized (new_server z)
  unfolding new_server
  new_lengths =
      record {
        members = refl;
        profiles = record {
          modes = record { count = refl; width = λ p h. ap (λ (x : Profile). length x.row) (get_or-replicate 64 p empty_profile no_profile h) };
          marks = λ p h. ap (λ (x : Profile). length x.marks) (get_or-replicate 64 p empty_profile no_profile h);
        };
      }

  new_settings : (new_server z).settings ≡ z
  unfolding new_server
  new_settings = refl

  pub sound_new : Sound z (new_server z)
  sound_new =
      record {
        settings = new_settings;
        lengths = new_lengths;
        tables = record {
          apart = λ i j p h. ap (λ (n : ℕ). goes_with n (mode_of (new_server z) j p)) (new_nothing i p).0 ∙ none_goes (mode_of (new_server z) j p);
          small = λ i p. subst (λ (n : ℕ). n ≤ 6) (sym (new_nothing i p).0) (omega arith);
          unknown = λ i p h. new_nothing i p;
          stations = λ i h. new_unknown i;
          profiles = λ i p h. new_nothing i p;
        };
      }

-- whoever is demanded has a mode
demanded_holds : (s : Server) (i p asked j q : ℕ) → is_demanded s i p asked j q ≡ true → mode_of s j q ≡ 0 → ⊥
demanded_holds s i p asked j q e h =
    let (here, rest) = (and-eq-true_iff (eqb q p) (is_in_the_way s i p asked j && is_live (status_of s j))).0 e in
    let clash = ((and-eq-true_iff (is_in_the_way s i p asked j) (is_live (status_of s j))).0 rest).0 in
    let none : mode_of s j p ≡ 0 = ap (λ (n : ℕ). mode_of s j n) (sym (eqb-true q p here)) ∙ h in
    false≢true (sym (ap (λ (n : ℕ). clashes i (wanted_on s i p asked) j (mode n)) none ∙ none_clashes i (wanted_on s i p asked) j) ∙ clash)

abbrev never : ℕ → ℕ → Bool
never j q = false

module _ (z : Settings) (wait : ℕ) (s : Server) (now : ℕ) (g : Sound z s) where
  -- a message that is no hello and grants nothing
  quiet : (gone marked : ℕ → ℕ → Bool) (f : Mark → Mark) → ((j q : ℕ) → marked j q ≡ true → mode_of s j q ≡ 0 → f Unmarked ≡ Unmarked) →
      {r : Served} {a : Answer} {κ : ℕ → ℕ} → Serves s now r a (status_of s) κ (changed_at gone no_lock (mode_of s)) (changed_at marked f (mark_of s)) → Sound z r.server
  quiet gone marked f eases h =
      after g.settings h
      (lessened z (status_of s) (status_of s) (mode_of s) (mark_of s) g.tables gone marked f eases (λ j q e. inl e) g.tables.stations)

  -- one that changes no mode and no mark
  only_number : {r : Served} {a : Answer} {κ : ℕ → ℕ} → Serves s now r a (status_of s) κ (mode_of s) (mark_of s) → Sound z r.server
  only_number h = quiet never never wipe_mark (λ j q e k. refl) h

  sound_hello : (i k : ℕ) {r : Served} → i < z.stations →
      Serves s now r Done (at i Live (status_of s)) (at i k (last_of s)) (changed_at (all_of i) no_lock (mode_of s)) (changed_at (all_of i) wipe_mark (mark_of s)) → Sound z r.server
  sound_hello i k below h =
      after g.settings h
      (lessened z (status_of s) (at i Live (status_of s)) (mode_of s) (mark_of s) g.tables (all_of i) (all_of i) wipe_mark (λ j q e k. refl)
      (λ j q e. inl (by_test j (eqb j i) e)) (λ j e. at_other i Live (status_of s) j (λ d. omega (arith, d)) ∙ g.tables.stations j e))
    where
      by_test : (j : ℕ) (b : Bool) → cond b Live (status_of s j) ≡ Unknown → status_of s j ≡ Unknown
      by_test j b e = grind arith

  sound_tick : Accepted s now Tick → Sound z (step wait s now Tick).server
  sound_tick accepted =
      after g.settings (ticks wait s now g.lengths accepted)
      (lessened z (status_of s) (λ (j : ℕ). started_to now (is_late_in s now j) (freed_to wait now (status_of s j))) (mode_of s) (mark_of s) g.tables
      (λ (j q : ℕ). is_waited wait now (status_of s j)) (λ (j q : ℕ). is_waited wait now (status_of s j)) wipe_mark (λ j q e k. refl)
      (λ j q e. freed j q (is_waited wait now (status_of s j)) e)
      (λ j e. ap (λ (σ : Status). started_to now (is_late_in s now j) (freed_to wait now σ)) (g.tables.stations j e) ∙ outside (is_late_in s now j)))
    where
      freed : (j q : ℕ) (b : Bool) → started_to now (is_late_in s now j) (cond b Unknown (status_of s j)) ≡ Unknown →
          (status_of s j ≡ Unknown) ⊎ ((cond b 0 (mode_of s j q) ≡ 0) × (cond b Unmarked (mark_of s j q) ≡ Unmarked))
      freed j q true e = inr (refl, refl)
      freed j q false e = inl (by_test (is_late_in s now j && is_live (status_of s j)) e)
        where
          by_test : (b : Bool) → cond b (TimingOut now) (status_of s j) ≡ Unknown → status_of s j ≡ Unknown
          by_test b k = grind arith

      outside : (b : Bool) → started_to now b Unknown ≡ Unknown
      outside b = grind arith

  -- the message's station and profile are among those of the settings
  pub below : (i k : ℕ) (q : Request) → Accepted s now (Message i k q) → (i < z.stations) × (profile_of q < z.profiles)
  below i k q a =
      subst (λ (y : Settings). (i < y.stations) × (profile_of q < y.profiles)) g.settings
      (station_below s.settings s.reading now i k q a, profile_below s.settings s.reading now i k q a)

  -- each event, by its frame law
  sound_case : {e : Event} → Case s now e → Sound z (step wait s now e).server
  sound_case {e} (Case.refused n h) = subst (λ (r : Served). Sound z r.server) (sym (refused wait s now e n h)) g
  sound_case (Case.ticks a) = sound_tick a
  sound_case (Case.stale {i} {k} {q} a old) =
      subst (λ (r : Served). Sound z r.server) (sym (stale wait s now i k g.lengths q a old))
      (record { settings = g.settings; lengths = record { members = g.lengths.members; profiles = g.lengths.profiles }; tables = g.tables })
  sound_case (Case.nack_0 {i} {k} {q} a new since e) = only_number (nack_0 wait s now i k g.lengths q a new since e)
  sound_case (Case.nack_1 {i} {k} {q} a new other e) = only_number (nack_1 wait s now i k g.lengths q a new other e)
  sound_case (Case.hello {i} {k} a new settled) = sound_hello i k (below i k Hello a).0 (hello wait s now i k g.lengths new a settled)
  sound_case (Case.keep_alive {i} {k} a new live) = only_number (keep_alive wait s now i k g.lengths new live a)
  sound_case (Case.release {i} {k} {p} a new live) = quiet (own i p) (own i p) wipe_mark (λ j q e k. refl) (release wait s now i k g.lengths new live p a)
  sound_case (Case.keep {i} {k} {p} a new live) = quiet never (own i p) keep_mark (λ j q e k. refl) (keep wait s now i k g.lengths new live p a)
  sound_case (Case.ask_granted {i} {k} {p} {asked} a new live free) =
      after g.settings (ask_granted wait s now i k g.lengths new live p asked a free)
      (given z (status_of s) (mode_of s) (mark_of s) g.tables i p (wanted_on s i p asked.0) live (below i k (Ask p asked) a).1
      (join_small (mode_of s i p) asked.0) (free_goes s i p asked.0 free))
  sound_case (Case.ask_in_use {i} {k} {p} {asked} a new live kept) =
      quiet never (all_on p) drop_kept (λ j q e k. refl) (ask_in_use wait s now i k g.lengths new live p asked a kept)
  sound_case (Case.ask_wait {i} {k} {p} {asked} a new live held kept) =
      quiet never (is_demanded s i p asked.0) (demand now) (λ j q e k. absurd (demanded_holds s i p asked.0 j q e k))
      (ask_wait wait s now i k g.lengths new live p asked a held kept)

pub step_sound : (z : Settings) (wait : ℕ) (s : Server) (now : ℕ) (e : Event) → Sound z s → Sound z (step wait s now e).server
step_sound z wait s now e g = sound_case z wait s now g (case_of s now e)

-- every reachable server is sound
pub sound : {z : Settings} {s : Server} → Reachable z s → Sound z s
sound {z} first = sound_new z
sound {z} (next {s} wait now e r) = step_sound z wait s now e (sound r)
