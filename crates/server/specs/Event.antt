-- The names of what can happen to a server, and of what it answers.
pub use Rattle.requests.specs.declared.Request.{Request}
pub use Rattle.requests.specs.declared.Request.TheVariants.{Hello, KeepAlive, Ask, Release, Keep}
pub use Rattle.judging.specs.declared.event.Event.{Event}
pub use Rattle.judging.specs.declared.event.Event.TheVariants.{Message, Tick}
pub use Rattle.profiles.specs.declared.answer.Answer.{Answer}
pub use Rattle.profiles.specs.declared.answer.Answer.TheVariants.{Done, Granted, Wait, InUse, Nack, Ticked, Refused}
