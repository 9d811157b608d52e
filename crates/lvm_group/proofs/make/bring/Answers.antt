use Rattle.std.proofs.Common.{sym, subst, []}
use Rattle.std.specs.Prelude.{IfOk, IfErr}
use Rattle.std.proofs.lemmas.Result.{err_from_is_err_and}
use Rattle.lvm_vol.specs.Log.{Log, spare_entries}
use Rattle.lvm_rec.specs.declared.homes.Homes.{Homes}
use Rattle.lvm_group.specs.passed.Core.{BringsOn, StartsHeld, Cause}
use Rattle.lvm_group.specs.passed.SessionStart.{first_core}
use Rattle.lvm_group.specs.NewGroup.{NewGroup}
use Rattle.lvm_group.specs.Planned.{IsPlannedFor}
use Rattle.lvm_group.specs.Made.{MkvgRefuses}
use Rattle.lvm_group.specs.Steps.{asked_group, cut_at, RecordsStand}
use Rattle.lvm_group.proofs.MadeLemmas.Composing.{refuses_reading}
use Rattle.lvm_group.proofs.StepsLemmas.{read_leaves, descriptor_long, status_long, have_room, refuses_written, stands_written, written_leaves, written_held}
use Rattle.lvm_group.proofs.make.bring.Goals as goal

-- ---- where what was found refuses

pub returns-in_err-free : goal.returns-in_err-free
returns-in_err-free g c =
    let w : NewGroup = asked_group c.args.asked.now c.args.disks.now c.args.moment in
    let was : Log = c.args.history.now in
    let old = g.S.Shelf.device c.args.shelf.now in
    let mid = g.S.Shelf.device c.look.new.shelf in
    let before = c.args.patience.now.left in
    let why : Cause = c.in_err-free.field-0.0 in
    let p = err_from_is_err_and c.from_residual.result c.from_residual.ensures.1 in
    rw (p.1, p.2) (record {
      made = tt;
      refused = refuses_reading w before was old mid why c.requires.planned.may c.in_err-free.ensures.gives;
      held = λ clock. tt;
      leaves = read_leaves was.run c.args.moment before c.look.new.patience.left old mid was (g.met.S.Shelf.sectors_are_whole c.look.new.shelf) c.ranges.moment.fits c.look.ensures.only;
    })

-- ---- where it lets the records be written

pub write-requires-clause-descriptor : goal.write-requires-clause-descriptor
write-requires-clause-descriptor g c =
    let its = c.requires.planned in
    descriptor_long (asked_group c.args.asked.now c.args.disks.now c.args.moment) c.args.asked.now.room c.args.history.now (g.S.Shelf.device c.args.shelf.now) (g.S.Shelf.device c.look.new.shelf) c.in_ok-free.free c.args.plan.now its.may c.in_ok-free.ensures.gives its.planned its.size

pub write-requires-clause-status : goal.write-requires-clause-status
write-requires-clause-status g c =
    let its = c.requires.planned in
    status_long (asked_group c.args.asked.now c.args.disks.now c.args.moment) c.args.asked.now.room c.args.history.now (g.S.Shelf.device c.args.shelf.now) (g.S.Shelf.device c.look.new.shelf) c.in_ok-free.free c.args.plan.now its.may c.in_ok-free.ensures.gives its.planned its.size

pub write-requires-clause-targets : goal.write-requires-clause-targets
write-requires-clause-targets g c =
    let its = c.requires.planned in
    have_room (asked_group c.args.asked.now c.args.disks.now c.args.moment) c.args.asked.now.room c.args.history.now (g.S.Shelf.device c.args.shelf.now) (g.S.Shelf.device c.look.new.shelf) c.in_ok-free.free c.args.plan.now its.may c.in_ok-free.ensures.gives its.planned its.size

pub returns : goal.returns
returns g c =
    let w : NewGroup = asked_group c.args.asked.now c.args.disks.now c.args.moment in
    let room = c.args.asked.now.room in
    let was : Log = c.args.history.now in
    let old = g.S.Shelf.device c.args.shelf.now in
    let mid = g.S.Shelf.device c.look.new.shelf in
    let new = g.S.Shelf.device c.write.new.shelf in
    let before = c.args.patience.now.left in
    let left = c.look.new.patience.left in
    let after = c.write.new.patience.left in
    let plan = c.args.plan.now in
    let free = c.in_ok-free.free in
    let its : IsPlannedFor w room (spare_entries was) old.sizes plan = c.requires.planned in
    let found = c.in_ok-free.ensures.gives in
    let r = c.write.result in
    let only = c.look.ensures.only in
    let leaves = c.write.ensures.leaves in
    let gives = c.write.ensures.gives in
    let whole = g.met.S.Shelf.sectors_are_whole c.look.new.shelf in
    let fits = c.ranges.moment.fits in
    let given = sym c.give_up.ensures in
    record {
      made = subst (λ (l : Log). IfOk r (λ (next : Homes). RecordsStand w room was l old new (record { parts = plan.parts; homes = next }))) given (stands_written w room was old mid free plan its.may found its.planned its.size before left after new only leaves r gives);
      refused = subst (λ (l : Log). IfErr r (MkvgRefuses w before was (cut_at r l) old new)) given (refuses_written w room was old mid free plan its.may found its.planned its.size before left after new only leaves r gives);
      held = λ clock.
          subst (λ (l : Log). IfOk r (λ (next : Homes). StartsHeld new (first_core plan.parts l (record { epoch = w.moment; seq = 2 }) next []))) given
          (written_held w room was old mid free plan its.may found its.planned its.size before left after new only leaves was.run fits whole clock r gives);
      leaves = subst (λ (l : Log). BringsOn was.run w.moment before after old new was l) given (written_leaves w room was old mid free plan its.may found its.planned its.size before left after new only leaves was.run fits whole c.write.ensures.kept);
    }
