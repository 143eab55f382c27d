-- What a message needs to be judged: no rule stands here, `proofs/Needs.antt` leads it back to the rules.
use Rattle.std.specs.Prelude.{Bool, true, false, ◌&&◌, ℕ, ltb}
use Rattle.members.specs.declared.member.Member.{Member}
use Rattle.members.specs.Member.{is_live}
use Rattle.requests.specs.declared.Request.{Request}
use Rattle.requests.specs.declared.Request.TheVariants.{Hello, KeepAlive, Ask, Release, Keep}

-- it is about a profile
abbrev pub names : Request → Bool
names Hello = false
names KeepAlive = false
names (Ask p asked) = true
names (Release p) = true
names (Keep p) = true

-- it comes to a rule about that profile
abbrev pub looks : ℕ → Request → Member → Bool
looks number q m = ltb m.last number && (is_live m.status && names q)

-- it has to know who is live
abbrev pub asks : Request → Bool
asks Hello = false
asks KeepAlive = false
asks (Ask p asked) = true
asks (Release p) = false
asks (Keep p) = false
