-- The names of what a station asks, of what waits, and of what can happen to it.
pub use Rattle.requests.specs.declared.Request.{Request}
pub use Rattle.requests.specs.declared.Request.TheVariants.{Hello, KeepAlive, Ask, Release, Keep}
pub use Rattle.room.specs.declared.event.Sent.{Sent}
pub use Rattle.room.specs.declared.event.Ack.{Ack}
pub use Rattle.room.specs.declared.event.Ack.TheVariants.{Done, Granted, Wait, InUse}
pub use Rattle.room.specs.declared.event.Event.{Event}
pub use Rattle.room.specs.declared.event.Event.TheVariants.{Send, Begin, Edit, End, WriteOut, Restart, Ack as Acked, Nack as Nacked, Demand}
