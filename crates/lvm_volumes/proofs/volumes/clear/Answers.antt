use Rattle.std.proofs.Common.{◌≡◌, false, subst}
use Rattle.std.specs.Prelude.{All}
use Rattle.std.proofs.lemmas.Result.{err_from_is_err_and}
use Rattle.lvm_num.specs.declared.place.Pp.{Pp}
use Rattle.lvm_num.specs.declared.status.Status.{Status}
use Rattle.lvm_num.specs.Status.{calls_missing}
use Rattle.lvm_volume_plan.specs.passed.Core.{CommitFault, state_of, HasStated}
use Rattle.lvm_session.specs.State.{State}
use Rattle.lvm_volumes.specs.Endings.{StillHeld, KeepsFresh}
use Rattle.lvm_volumes.specs.Stages.{IsLowestMissing}
use Rattle.lvm_volumes.proofs.StagesLemmas.Breaking.{stopped}
use Rattle.lvm_volumes.proofs.StagesLemmas.Clearing.{fresh_among, fresh_still, fresh_keeps, fresh_break, missing_fails, still_unused, clear_end, clear_leaves, clear_still, clear_keeps}
use Rattle.lvm_volumes.proofs.volumes.clear.Goals as goal

pub set_status-requires-clause-unused : goal.set_status-requires-clause-unused
set_status-requires-clause-unused g c = λ k e lt. (c.requires.unused.places k e lt, c.requires.unused.free k e lt)

pub returns-in_err-set_status : goal.returns-in_err-set_status
returns-in_err-set_status g c =
    let map = c.args.map.now in
    let a : State = state_of g.S.Shelf.device c.args.driver.now in
    let b : State = state_of g.S.Shelf.device c.set_status.new.self in
    let p = c.args.patience.now.left in
    let q = c.set_status.new.patience.left in
    let why : CommitFault = c.in_err-set_status.field-0.0 in
    let e = err_from_is_err_and c.from_residual.result c.from_residual.ensures.1 in
    rw (e.1, e.2) (record {
      ends = fresh_break map p q a b c.requires.settled c.set_status.ensures.leaves why c.in_err-set_status.ensures.ends;
      held = stopped (HasStated a.core.descriptor a b) (StillHeld a b) p a b why c.in_err-set_status.ensures.ends;
      fresh = stopped (HasStated a.core.descriptor a b) (KeepsFresh a b) p a b why c.in_err-set_status.ensures.ends;
      leaves = fresh_among map p q a b c.requires.settled c.set_status.ensures.leaves;
    })

pub returns-in-Some : goal.returns-in-Some
returns-in-Some g c =
    let map = c.args.map.now in
    let a : State = state_of g.S.Shelf.device c.args.driver.now in
    let b : State = state_of g.S.Shelf.device c.set_status.new.self in
    let p = c.args.patience.now.left in
    let q = c.set_status.new.patience.left in
    let s = c.set_status.ensures in
    let done : HasStated a.core.descriptor a b = c.in_ok-set_status.ensures.ends in
    let low : IsLowestMissing b.core.status.committed map c.in-Some.disk = subst (λ (t : Status). IsLowestMissing t map c.in-Some.disk) c.table.ensures c.in-Some.ensures.some in
    record {
      ends = missing_fails map p q a b c.requires.settled c.requires.unused c.requires.group done s.marks s.leaves c.in-Some.disk low;
      held = fresh_still map p q a b c.requires.settled s.leaves done s.marks;
      fresh = fresh_keeps map p q a b c.requires.settled s.leaves c.requires.group done s.marks;
      leaves = fresh_among map p q a b c.requires.settled s.leaves;
    }

pub zero_all-requires-clause-unused : goal.zero_all-requires-clause-unused
zero_all-requires-clause-unused g c =
    let map = c.args.map.now in
    let a : State = state_of g.S.Shelf.device c.args.driver.now in
    let b : State = state_of g.S.Shelf.device c.set_status.new.self in
    let s = c.set_status.ensures in
    let none : All (λ (pp : Pp). calls_missing b.core.status.committed pp.disk ≡ false) map = subst (λ (t : Status). All (λ (pp : Pp). calls_missing t pp.disk ≡ false) map) c.table.ensures c.in_default.ensures.none in
    still_unused map _ _ a b c.requires.settled c.requires.unused c.requires.group c.in_ok-set_status.ensures.ends s.marks s.leaves none

pub returns : goal.returns
returns g c =
    let map = c.args.map.now in
    let a : State = state_of g.S.Shelf.device c.args.driver.now in
    let b : State = state_of g.S.Shelf.device c.set_status.new.self in
    let n : State = state_of g.S.Shelf.device c.zero_all.new.driver in
    let p = c.args.patience.now.left in
    let q = c.set_status.new.patience.left in
    let s = c.set_status.ensures in
    let z = c.zero_all.ensures in
    let done : HasStated a.core.descriptor a b = c.in_ok-set_status.ensures.ends in
    let still : StillHeld a b = fresh_still map p q a b c.requires.settled s.leaves done s.marks in
    let none : All (λ (pp : Pp). calls_missing b.core.status.committed pp.disk ≡ false) map = subst (λ (t : Status). All (λ (pp : Pp). calls_missing t pp.disk ≡ false) map) c.table.ensures c.in_default.ensures.none in
    record {
      ends = clear_end map p q a b c.requires.settled c.requires.unused c.requires.group done s.marks s.leaves none n c.zero_all.result z.ends;
      held = clear_still map p q a b c.requires.settled c.requires.unused c.requires.group done s.marks s.leaves none n still c.zero_all.result z.held;
      fresh = clear_keeps map p q a b c.requires.settled c.requires.unused c.requires.group done s.marks s.leaves none n c.zero_all.result z.ends;
      leaves = clear_leaves map p q a b c.requires.settled c.requires.unused c.requires.group done s.marks s.leaves none n c.zero_all.new.patience.left still z.leaves;
    }
