-- Each way through the reader's rule, from what its tests say.
-- Assumes nothing.
use Prim.Native.Nat.{ℕ, ◌<◌, ◌≤◌}
use mathlib.Core.Path.{◌≡◌}
use mathlib.Core.List.{List}
use mathlib.Core.Bool.{true, false}
use lib.ListN.{length, get_or}
use borrow.Author.Tests.{lt-ltb, le-ltb}
use Rattle.std.proofs.Common.{Ok, Err}
use Rattle.refusals.specs.declared.Refusal.TheVariants.{TooShort, BadMark, BadKind, NotAllowed}
use Rattle.record.specs.Allowed.{is_kind, allowed}
use Rattle.record.specs.Read.{marked, message_of, read_bytes}

module _ (b : List ℕ) (next : ℕ) where
  pub short : length b < 11 → read_bytes b next ≡ Err TooShort
  unfolding read_bytes
  short h = simp (lt-ltb _ _ h)

  module _ (whole : 11 ≤ length b) where
    pub unmarked : marked (get_or b 0 0) (get_or b 1 0) ≡ false → read_bytes b next ≡ Err BadMark
    unfolding read_bytes
    unmarked h = simp (le-ltb _ _ whole, h)

    module _ (mark : marked (get_or b 0 0) (get_or b 1 0) ≡ true) where
      pub unkind : is_kind (message_of b).kind ≡ false → read_bytes b next ≡ Err BadKind
      unfolding read_bytes
      unkind h = simp (le-ltb _ _ whole, mark, h)

      module _ (kind : is_kind (message_of b).kind ≡ true) where
        pub unallowed : allowed (message_of b) ≡ false → read_bytes b next ≡ Err NotAllowed
        unfolding read_bytes
        unallowed h = simp (le-ltb _ _ whole, mark, kind, h)

        pub accepted : allowed (message_of b) ≡ true → read_bytes b next ≡ Ok (message_of b, next)
        unfolding read_bytes
        accepted h = simp (le-ltb _ _ whole, mark, kind, h)
