-- A request that stands in the hold queue.
use Rattle.std.specs.Prelude.{Contains}
use Rattle.lvm_due.specs.passed.Session.{Core, place_of, held_of}
use Rattle.lvm_session.specs.passed.Hold.{IsAscending}
use Rattle.lvm_path.specs.declared.request.Request.{Request}

-- The request has its place in the queue, the rows of which are in the order of their places.
pub record IsQueued (core : Core) (r : Request) : Type 0 where
  pub ordered : IsAscending core.queue.rows
  pub among : Contains core.queue.rows (record { id = place_of r.id; ask = held_of r.ask })
