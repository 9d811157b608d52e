-- What is asked of a request of the table, and what one does that has landed.
use Rattle.std.proofs.Common.{◌≡◌, ℕ, true, false, List, Option, Some, slice_get, sym, ap, subst}
use Rattle.std.specs.Prelude.{Contains, IfSome}
use Rattle.lvm_hold.specs.declared.queue.Row.{Row}
use Rattle.lvm_hold.specs.Order.{IsAscending}
use Rattle.lvm_path.specs.declared.facts.Next.TheVariants as next
use Rattle.lvm_path.specs.declared.request.Phase.{Phase}
use Rattle.lvm_path.specs.Next.{next_in}
use Rattle.lvm_due.specs.passed.Session.{OpenCopy, Open, Core, facts_of, held_of, is_waiting, next_for, place_of, IsOpenOne, IsCopy, IsGoing}
use Rattle.lvm_due.specs.Queued.{IsQueued}
use Rattle.lvm_due.proofs.AtPlaces.{at_place}
use Rattle.lvm_due.proofs.OrderLemmas.{queue_ascends, queue_has}

module _ (core : Core) (going : IsGoing core) (k : ℕ) (o : Open) (there : slice_get core.requests k ≡ Some o) where
  pub one : IsOpenOne core o
  one = at_place (IsOpenOne core) core.requests k o going.requests there

  its_copy : (c : OpenCopy) → core.copy ≡ Some c → IsCopy core c
  its_copy c is = subst (λ (m : Option OpenCopy). IfSome m (IsCopy core)) is going.copy

  pub queued : is_waiting o ≡ true → IsQueued core o.request
  queued waits = record {
    ordered = subst IsAscending (sym going.queue) (queue_ascends core its_copy going.told.table.ascending);
    among = subst (λ (rows : List Row). Contains rows (record { id = place_of o.request.id; ask = held_of o.request.ask })) (sym going.queue) (queue_has core k o there waits);
  }

  pub landed_waits : is_waiting o ≡ false → next_for core o ≡ next.Wait
  landed_waits landed = ap (λ (p : Phase). next_in p (facts_of core o.request) o.request) (one.over landed).phase_is
