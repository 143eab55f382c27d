-- The names of what can happen to a server.
pub use Rattle.requests.specs.declared.Request.{Request}
pub use Rattle.requests.specs.declared.Request.TheVariants.{Hello, KeepAlive, Ask, Release, Keep}
pub use Rattle.judging.specs.declared.event.Event.{Event}
pub use Rattle.judging.specs.declared.event.Event.TheVariants.{Message, Tick}
