-- Passed on from `lvm_steps`.
pub use Rattle.lvm_steps.specs.Behind.{ClockIsAhead, StampsAreEarlier, beginning_at}
pub use Rattle.lvm_steps.specs.Laws.{IsOtherOrEarlier}
pub use Rattle.lvm_steps.specs.Committing.{DiffersInVolume, VolumeIsServed}
pub use Rattle.lvm_steps.specs.Moments.{RunBegins, HistoryHolds, ImagesKept, Keeps, SpanGoesOn, StaysKept}
pub use Rattle.lvm_steps.specs.Requests.{at}
