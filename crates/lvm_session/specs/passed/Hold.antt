-- Passed on from `lvm_hold`.
pub use Rattle.lvm_hold.specs.Order.{IsAscending}
pub use Rattle.lvm_hold.specs.Waiting.{Waiting}
pub use Rattle.lvm_hold.specs.declared.queue.Row.{Row}
