-- What a station asks of the server.
use Rattle.std.specs.Prelude.{Bool, true, false, cond, ℕ, zero, suc, leb, Option, Some, None, Ok, Err}
use Rattle.refusals.specs.Refusal.{Verdict}
use Rattle.refusals.specs.declared.Refusal.TheVariants as refusal
use Rattle.modes.specs.Modes.{mode, is_mode}
use Rattle.record.specs.declared.message.Message.{Message}
use Rattle.record.specs.Message.{message}
pub use Rattle.requests.specs.declared.Request.{Request}
pub use Rattle.requests.specs.declared.Request.TheVariants.{Hello, KeepAlive, Ask, Release, Keep}

-- the profile that a request names; 0 where it names none, and then what stands at that profile does not matter
abbrev pub profile_of : Request → ℕ
profile_of Hello = 0
profile_of KeepAlive = 0
profile_of (Ask p m) = p
profile_of (Release p) = p
profile_of (Keep p) = p

-- 3, 4: "profile, mode out of range"
abbrev pub profile_refusal : ℕ → ℕ → Verdict
profile_refusal profiles p = cond (leb profiles p) (Err refusal.Profile) (Ok tt)

abbrev pub pair_refusal : ℕ → ℕ → Bool → Verdict
pair_refusal profiles p good = cond (leb profiles p) (Err refusal.Profile) (cond good (Ok tt) (Err refusal.Mode))

-- "The engines hold a message's station, profile and mode to its record and to the settings by 2, 3 and 4"
abbrev pub request_refusal : ℕ → Request → Verdict
request_refusal profiles Hello = Ok tt
request_refusal profiles KeepAlive = Ok tt
request_refusal profiles (Ask p m) = pair_refusal profiles p (is_mode m.0)
request_refusal profiles (Release p) = profile_refusal profiles p
request_refusal profiles (Keep p) = profile_refusal profiles p

-- a request in the paper's numbers: whether anything is asked; kind, profile and mode of its message
pub record SaidAsked : Type 0 where
  pub good : Bool
  pub kind : ℕ
  pub profile : ℕ
  pub mode : ℕ

-- "1 hello and 2 keep-alive: 255, 0, 0. 3 ask: profile .., mode .., 0. 4 release and 5 keep: profile, 0, 0."
abbrev pub said_request : Request → SaidAsked
said_request Hello = record { good = true; kind = 1; profile = 255; mode = 0 }
said_request KeepAlive = record { good = true; kind = 2; profile = 255; mode = 0 }
said_request (Ask p m) = record { good = true; kind = 3; profile = p; mode = m.0 }
said_request (Release p) = record { good = true; kind = 4; profile = p; mode = 0 }
said_request (Keep p) = record { good = true; kind = 5; profile = p; mode = 0 }

unfoldable pub message_of : ℕ → ℕ → Request → Message
message_of station number q =
    message (said_request q).kind station number (said_request q).profile (said_request q).mode 0

-- and back: "Only kinds 1 to 5 can be put to a server"
abbrev pub asked_as : ℕ → Message → Option Request
asked_as (suc zero) m = Some Hello
asked_as (suc (suc zero)) m = Some KeepAlive
asked_as (suc (suc (suc zero))) m = Some (Ask m.profile (mode m.mode))
asked_as (suc (suc (suc (suc zero)))) m = Some (Release m.profile)
asked_as (suc (suc (suc (suc (suc zero))))) m = Some (Keep m.profile)
asked_as zero m = None
asked_as (suc (suc (suc (suc (suc (suc n)))))) m = None

unfoldable pub request_of : Message → Option Request
request_of m = asked_as m.kind m

abbrev pub said_asked : Option Request → SaidAsked
said_asked (Some q) = said_request q
said_asked None = record { good = false; kind = 0; profile = 0; mode = 0 }
