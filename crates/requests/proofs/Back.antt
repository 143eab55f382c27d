-- What a station asks is read back from its message, and a kind that is none of 1 to 5 asks nothing. What 3 and 4 leave is in range.
-- Assumes nothing.
use Rattle.std.proofs.Common.{◌≡◌, refl, ℕ, ◌≤◌, ◌<◌, leb, Bool, true, cond, Option, Some, None, Ok, Err, arith}
use borrow.Author.Tests.{leb-false}
use Rattle.record.specs.declared.message.Message.{Message}
use Rattle.refusals.specs.Refusal.{Verdict}
use Rattle.refusals.specs.declared.Refusal.TheVariants as refusal
use Rattle.refusals.proofs.Choice.{past_if, past_unless}
use Rattle.requests.specs.Request.{Request, Hello, KeepAlive, Ask, Release, Keep, profile_of, pair_refusal, request_refusal, message_of, asked_as, request_of, said_asked}

pub asked_back_lem : (station number : ℕ) (q : Request) → request_of (message_of station number q) ≡ Some q
unfolding request_of message_of
asked_back_lem station number Hello = refl
asked_back_lem station number KeepAlive = refl
asked_back_lem station number (Ask p m) = refl
asked_back_lem station number (Release p) = refl
asked_back_lem station number (Keep p) = refl

pub asks_nothing : (k : ℕ) (m : Message) → (k ≡ 1 → ⊥) → (k ≡ 2 → ⊥) → (k ≡ 3 → ⊥) → (k ≡ 4 → ⊥) → (k ≡ 5 → ⊥) → None ≡ asked_as k m
asks_nothing k m h1 h2 h3 h4 h5 = grind arith

-- what is said of a request tells it from every other
pub asked_told : (a b : Option Request) → said_asked a ≡ said_asked b → a ≡ b
asked_told a b e = grind arith

-- what is not refused by 3 names a profile of the settings', and not by 4 a good mode
pub in_profiles : (profiles p : ℕ) (rest : Verdict) → cond (leb profiles p) (Err refusal.Profile) rest ≡ Ok tt → p < profiles
in_profiles profiles p rest e = leb-false profiles p (past_if (leb profiles p) refusal.Profile rest e).0

pub in_modes : (profiles p : ℕ) (good : Bool) → pair_refusal profiles p good ≡ Ok tt → good ≡ true
in_modes profiles p good e = (past_unless good (Ok tt) refusal.Mode (past_if (leb profiles p) refusal.Profile _ e).1).0

pub named_below : (profiles : ℕ) → 1 ≤ profiles → (q : Request) → request_refusal profiles q ≡ Ok tt → profile_of q < profiles
named_below profiles h Hello e = h
named_below profiles h KeepAlive e = h
named_below profiles h (Ask p m) e = in_profiles profiles p _ e
named_below profiles h (Release p) e = in_profiles profiles p _ e
named_below profiles h (Keep p) e = in_profiles profiles p _ e
