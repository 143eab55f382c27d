-- An answer in the paper's numbers and values.
use Rattle.std.specs.Prelude.{Bool, true, false, ℕ}
use Rattle.refusals.specs.Refusal.{number}
use Rattle.profiles.specs.Ask.{Answer, Done, Granted, Wait, InUse, Nack, Ticked, Refused}

-- whether it is no refusal; the refusal; kind, profile, mode and detail of the message to the asker (kind 0: none is sent);
-- the mode demanded, the stations it is demanded of and their count; the stations freed and started by a tick
pub record Said : Type 0 where
  pub good : Bool
  pub refusal : ℕ
  pub kind : ℕ
  pub profile : ℕ
  pub mode : ℕ
  pub detail : ℕ
  pub wanted : ℕ
  pub mask : ℕ
  pub count : ℕ
  pub freed : ℕ
  pub started : ℕ

-- "6 ACK: detail 0 done (255, 0), 1 granted (profile, mode 1 to 6), 2 wait or 3 in use (profile, 0)."
abbrev pub ack : ℕ → ℕ → ℕ → ℕ → ℕ → ℕ → Said
ack profile mode detail wanted mask count =
    record {
      good = true;
      refusal = 0;
      kind = 6;
      profile = profile;
      mode = mode;
      detail = detail;
      wanted = wanted;
      mask = mask;
      count = count;
      freed = 0;
      started = 0;
    }

-- "7 NACK: 255, 0, detail 0 or 1."
abbrev pub nack : ℕ → Said
nack detail =
    record {
      good = true;
      refusal = 0;
      kind = 7;
      profile = 255;
      mode = 0;
      detail = detail;
      wanted = 0;
      mask = 0;
      count = 0;
      freed = 0;
      started = 0;
    }

-- no message: a refusal, or what a tick answers
abbrev pub silent : Bool → ℕ → ℕ → ℕ → Said
silent good refusal freed started =
    record {
      good = good;
      refusal = refusal;
      kind = 0;
      profile = 0;
      mode = 0;
      detail = 0;
      wanted = 0;
      mask = 0;
      count = 0;
      freed = freed;
      started = started;
    }

abbrev pub said : Answer → Said
said Done = ack 255 0 0 0 0 0
said (Granted p m) = ack p m.0 1 0 0 0
said (Wait p m mask count) = ack p 0 2 m.0 mask count
said (InUse p) = ack p 0 3 0 0 0
said (Nack d) = nack d
said (Ticked freed started) = silent true 0 freed started
said (Refused r) = silent false (number r) 0 0
