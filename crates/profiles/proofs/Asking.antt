-- Each way through the ask rule, from what the code's masks tell.
-- Assumes nothing.
use mathlib.Core.Path.{◌≡◌, sym, ap, ◌∙◌}
use mathlib.Core.Bool.{Bool, true, false}
use mathlib.Core.List.{List}
use Prim.Native.Nat.{ℕ}
use native.Mathlib.Omega.{arith}
use lib.Bits.{bit_and}
use lib.Count.{ones}
use lib.ListN.{length, get_or, set}
use Rattle.masks.specs.Mask.{Set, mask, count, any, both, set_of, change_under}
use Rattle.masks.proofs.Laws.{mask_none, none_mask, mask_both, mask_under, mask_ones, length_at, under_in}
use Rattle.modes.specs.Modes.{mode, join}
use Rattle.modes.specs.declared.Mode.{Mode}
use Rattle.members.specs.declared.mark.Marked.{Marked}
use Rattle.profiles.specs.Profile.{Profile}
use Rattle.profiles.specs.Sets.{everyone, conflicts, is_kept, marks_with, marks_changed, clashes, remark, drop_kept, demand}
use Rattle.profiles.specs.Ask.{Granted, InUse, Wait, wanted_by, in_the_way, free_or_not, kept_or_wait, ask_rule}

some_mask : (s : Set) → (mask s ≡ 0 → ⊥) → any s ≡ true
some_mask s h = grind (arith, mask_none)

module _ (live : Set) (number now me asked : ℕ) (x : Profile) (held : Mode) (is_held_lem : held ≡ get_or x.row me (mode 0)) (wanted : Mode) (is-wanted : wanted ≡ mode (join held.0 asked)) (m : ℕ) (is-mask : m ≡ mask (conflicts me wanted.0 x.row)) where
  want : wanted ≡ mode (wanted_by x me asked)
  want = is-wanted ∙ ap (λ (h : Mode). mode (join h.0 asked)) is_held_lem

  way : m ≡ mask (in_the_way me asked x)
  way = is-mask ∙ ap (λ (w : Mode). mask (conflicts me w.0 x.row)) want

  decided : (b : Bool) → any (in_the_way me asked x) ≡ b
      → ask_rule live number now me asked x ≡ free_or_not b live number now me (wanted_by x me asked) (in_the_way me asked x) x
  unfolding ask_rule
  decided b e =
      ap (λ (t : Bool). free_or_not t live number now me (wanted_by x me asked) (in_the_way me asked x) x) e

  pub granted_way : m ≡ 0 → (row : List Mode) → row ≡ set x.row me wanted
      → record { profile = record { row = row; marks = x.marks }; answer = Granted number wanted } ≡ ask_rule live number now me asked x
  granted_way h row e = rw (e, want) (sym (decided false (none_mask (in_the_way me asked x) (sym way ∙ h))))

  module _ (some : m ≡ 0 → ⊥) (k : ℕ) (is-kept : k ≡ mask (marks_with is_kept x.marks)) where
    shared : bit_and m k ≡ mask (both (in_the_way me asked x) (marks_with is_kept x.marks))
    shared =
        ap (λ (n : ℕ). bit_and n k) way
        ∙ ap (λ (n : ℕ). bit_and (mask (in_the_way me asked x)) n) is-kept
        ∙ mask_both (in_the_way me asked x) (marks_with is_kept x.marks)

    blocked : (b : Bool) → any (both (in_the_way me asked x) (marks_with is_kept x.marks)) ≡ b
        → ask_rule live number now me asked x ≡ kept_or_wait b number now (both (in_the_way me asked x) live) (wanted_by x me asked) x
    blocked b e =
        decided true (some_mask (in_the_way me asked x) (λ z. some (way ∙ z)))
        ∙ ap (λ (t : Bool). kept_or_wait t number now (both (in_the_way me asked x) live) (wanted_by x me asked) x) e

    pub in_use_way : (bit_and m k ≡ 0 → ⊥) → (marks : List Marked) → marks ≡ change_under (remark drop_kept) 65535 x.marks
        → record { profile = record { row = x.row; marks = marks }; answer = InUse number } ≡ ask_rule live number now me asked x
    in_use_way h marks e =
        rw (e ∙ under_in (remark drop_kept) everyone x.marks) (sym (blocked true (some_mask (both (in_the_way me asked x) (marks_with is_kept x.marks)) (λ z. h (shared ∙ z)))))

    -- the code's number l stands for the live of as many stations as the row has
    module _ (l : ℕ) (is_live : set_of (length x.row) l ≡ live) where
      asked_of : bit_and m l ≡ mask (both (in_the_way me asked x) live)
      unfolding conflicts
      asked_of =
          ap (λ (n : ℕ). bit_and n l) way
          ∙ mask_under (in_the_way me asked x) l
          ∙ ap (λ (n : ℕ). mask (both (in_the_way me asked x) (set_of n l))) (length_at (clashes me (wanted_by x me asked)) 0 x.row)
          ∙ ap (λ (s : Set). mask (both (in_the_way me asked x) s)) is_live

      pub wait_way : bit_and m k ≡ 0 → (marks : List Marked) → marks ≡ change_under (remark (demand now)) (bit_and m l) x.marks → (n : ℕ) → n ≡ ones (bit_and m l)
          → record { profile = record { row = x.row; marks = marks }; answer = Wait number wanted (bit_and m l) n } ≡ ask_rule live number now me asked x
      wait_way h marks e n q =
          let u : change_under (remark (demand now)) (bit_and m l) x.marks ≡ marks_changed (demand now) (both (in_the_way me asked x) live) x.marks = ap (λ (w : ℕ). change_under (remark (demand now)) w x.marks) asked_of ∙ under_in (remark (demand now)) (both (in_the_way me asked x) live) x.marks in
          let c : n ≡ count (both (in_the_way me asked x) live) = q ∙ ap ones asked_of ∙ mask_ones (both (in_the_way me asked x) live) in
          (λ (i : 𝕀). record { profile = record { row = x.row; marks = (e ∙ u) i }; answer = Wait number (want i) (asked_of i) (c i) })
          ∙ sym (blocked false (none_mask (both (in_the_way me asked x) (marks_with is_kept x.marks)) (sym shared ∙ h)))
