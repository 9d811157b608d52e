use Rattle.std.proofs.Common.{◌+◌, arith, sym, ◌∙◌}
use Rattle.lvm_num.specs.Disks.{has}
use Rattle.lvm_quorum.specs.passed.TransferMovesMoved as moved
use Rattle.lvm_write.specs.declared.write.SlotWrite.{SlotWrite}
use Rattle.lvm_write.specs.Written.{write_of}
use Rattle.lvm_write.proofs.WrittenLemmas.Disks.{none_tried, slot_still, disk_skipped, disk_written, disk_failed, disk_leaves, disk_dark, disk_stuck, disks_end, as_joined, part_of_all, stands_of_all, starts_alone}
use Rattle.lvm_write.proofs.write.write_record.Goals as goal
use Rattle.lvm_write.proofs.write.write_record.Goals.{in-Done, in-Failed}

pub loop-disk-init : goal.loop-disk-init
loop-disk-init g c =
    none_tried (write_of c.args.kind (record { stamp = c.args.stamp; content = c.args.content.now }) (has c.args.targets) c.args.homes.now) c.args.patience.now.left (g.S.Shelf.device c.args.shelf.now) c.args.homes.now c.empty-failed.result c.args.buf
    c.requires.ready c.empty-failed.ensures

pub loop-disk-preserved-then-not-has : goal.loop-disk-preserved-then-not-has
loop-disk-preserved-then-not-has g c =
    disk_skipped (write_of c.args.kind (record { stamp = c.args.stamp; content = c.args.content.now }) (has c.args.targets) c.args.homes.now) c.args.buf.number c.args.patience.now.left c.loop-disk.patience.left (g.S.Shelf.device c.args.shelf.now) (g.S.Shelf.device c.loop-disk.shelf) c.args.homes.now c.loop-disk.homes c.loop-disk.failed c.loop-disk.buf c.loop-disk.disk c.loop-disk.invariant
    (sym c.has.ensures.member ∙ c.if-not-has.true)

pub returns-in-Dark : goal.returns-in-Dark
returns-in-Dark g c =
    let w = write_of c.args.kind (record { stamp = c.args.stamp; content = c.args.content.now }) (has c.args.targets) c.args.homes.now in
    let old = g.S.Shelf.device c.args.shelf.now in
    let now = g.S.Shelf.device c.loop-disk.shelf in
    let new = g.S.Shelf.device c.write_slot.new.shelf in
    let one : SlotWrite = record { kind = c.args.kind; stamp = c.args.stamp; content = c.args.content; disk = c.loop-disk.disk; second = c.is_second.result } in
    let target = sym c.has.ensures.member ∙ c.if-not-has.false in
    let second = c.is_second.ensures ∙ slot_still w c.args.buf.number c.args.patience.now.left c.loop-disk.patience.left old now c.args.homes.now c.loop-disk.homes c.loop-disk.failed c.loop-disk.buf c.loop-disk.disk c.loop-disk.invariant in
    let part = part_of_all one (has c.args.targets) c.args.homes.now target second c.loop-disk.buf.number c.loop-disk.patience.left c.write_slot.new.patience.left now new (moved.Dark c.in-Dark.started) c.in-Dark.ensures.part in
    let alone = starts_alone one (has c.args.targets) c.args.homes.now target second c.loop-disk.buf.number c.loop-disk.patience.left c.write_slot.new.patience.left now new (moved.Dark c.in-Dark.started) c.in-Dark.ensures.part in
    record {
      ends = disk_dark w c.args.buf.number c.args.patience.now.left c.loop-disk.patience.left old now c.args.homes.now c.loop-disk.homes c.loop-disk.failed c.loop-disk.buf c.loop-disk.disk c.loop-disk.invariant c.write_slot.new.patience.left new target alone c.in-Dark.started part;
      leaves = disk_leaves w c.args.buf.number c.args.patience.now.left c.loop-disk.patience.left old now c.args.homes.now c.loop-disk.homes c.loop-disk.failed c.loop-disk.buf c.loop-disk.disk c.loop-disk.invariant c.write_slot.new.patience.left new target alone (moved.Dark c.in-Dark.started) part;
    }

pub returns-in-Stuck : goal.returns-in-Stuck
returns-in-Stuck g c =
    let w = write_of c.args.kind (record { stamp = c.args.stamp; content = c.args.content.now }) (has c.args.targets) c.args.homes.now in
    let old = g.S.Shelf.device c.args.shelf.now in
    let now = g.S.Shelf.device c.loop-disk.shelf in
    let new = g.S.Shelf.device c.write_slot.new.shelf in
    let one : SlotWrite = record { kind = c.args.kind; stamp = c.args.stamp; content = c.args.content; disk = c.loop-disk.disk; second = c.is_second.result } in
    let target = sym c.has.ensures.member ∙ c.if-not-has.false in
    let second = c.is_second.ensures ∙ slot_still w c.args.buf.number c.args.patience.now.left c.loop-disk.patience.left old now c.args.homes.now c.loop-disk.homes c.loop-disk.failed c.loop-disk.buf c.loop-disk.disk c.loop-disk.invariant in
    let part = part_of_all one (has c.args.targets) c.args.homes.now target second c.loop-disk.buf.number c.loop-disk.patience.left c.write_slot.new.patience.left now new moved.Stuck c.in-Stuck.ensures.part in
    let alone = starts_alone one (has c.args.targets) c.args.homes.now target second c.loop-disk.buf.number c.loop-disk.patience.left c.write_slot.new.patience.left now new moved.Stuck c.in-Stuck.ensures.part in
    record {
      ends = disk_stuck w c.args.buf.number c.args.patience.now.left c.loop-disk.patience.left old now c.args.homes.now c.loop-disk.homes c.loop-disk.failed c.loop-disk.buf c.loop-disk.disk c.loop-disk.invariant c.write_slot.new.patience.left new target alone part;
      leaves = disk_leaves w c.args.buf.number c.args.patience.now.left c.loop-disk.patience.left old now c.args.homes.now c.loop-disk.homes c.loop-disk.failed c.loop-disk.buf c.loop-disk.disk c.loop-disk.invariant c.write_slot.new.patience.left new target alone moved.Stuck part;
    }

pub loop-disk-preserved : goal.loop-disk-preserved
loop-disk-preserved g c =
    let w = write_of c.args.kind (record { stamp = c.args.stamp; content = c.args.content.now }) (has c.args.targets) c.args.homes.now in
    let old = g.S.Shelf.device c.args.shelf.now in
    let now = g.S.Shelf.device c.loop-disk.shelf in
    let new = g.S.Shelf.device c.write_slot.new.shelf in
    let one : SlotWrite = record { kind = c.args.kind; stamp = c.args.stamp; content = c.args.content; disk = c.loop-disk.disk; second = c.is_second.result } in
    let target = sym c.has.ensures.member ∙ c.if-not-has.false in
    let second = c.is_second.ensures ∙ slot_still w c.args.buf.number c.args.patience.now.left c.loop-disk.patience.left old now c.args.homes.now c.loop-disk.homes c.loop-disk.failed c.loop-disk.buf c.loop-disk.disk c.loop-disk.invariant in
    let part = part_of_all one (has c.args.targets) c.args.homes.now target second c.loop-disk.buf.number c.loop-disk.patience.left c.write_slot.new.patience.left now new in
    elim c.match-write_slot.branch [
      | in-Done v ↦
          as_joined w c.args.buf.number c.args.patience.now.left c.write_slot.new.patience.left old new c.args.homes.now v.flip.new.self c.match-write_slot.homes c.loop-disk.failed c.match-write_slot.failed v.in-Done.back c.match-write_slot.buf (c.loop-disk.disk + 1)
          v.homes-is v.failed-is v.buf-is
          (disk_written w c.args.buf.number c.args.patience.now.left c.loop-disk.patience.left old now c.args.homes.now c.loop-disk.homes c.loop-disk.failed c.loop-disk.buf c.loop-disk.disk c.loop-disk.invariant c.write_slot.new.patience.left new v.in-Done.back target
          (starts_alone one (has c.args.targets) c.args.homes.now target second c.loop-disk.buf.number c.loop-disk.patience.left c.write_slot.new.patience.left now new (moved.Done v.in-Done.back) v.in-Done.ensures.part) v.flip.new.self
          (part (moved.Done v.in-Done.back) v.in-Done.ensures.part) (stands_of_all one (has c.args.targets) c.args.homes.now target second new v.in-Done.ensures.stands) v.flip.ensures)
      | in-Failed v ↦
          as_joined w c.args.buf.number c.args.patience.now.left c.write_slot.new.patience.left old new c.args.homes.now c.loop-disk.homes c.match-write_slot.homes v.with-failed.result c.match-write_slot.failed v.in-Failed.back c.match-write_slot.buf (c.loop-disk.disk + 1)
          v.homes-is v.failed-is v.buf-is
          (disk_failed w c.args.buf.number c.args.patience.now.left c.loop-disk.patience.left old now c.args.homes.now c.loop-disk.homes c.loop-disk.failed c.loop-disk.buf c.loop-disk.disk c.loop-disk.invariant c.write_slot.new.patience.left new v.in-Failed.back target
          (starts_alone one (has c.args.targets) c.args.homes.now target second c.loop-disk.buf.number c.loop-disk.patience.left c.write_slot.new.patience.left now new (moved.Failed v.in-Failed.back) v.in-Failed.ensures.part) v.with-failed.result
          (part (moved.Failed v.in-Failed.back) v.in-Failed.ensures.part) v.with-failed.ensures)
    ]

pub returns : goal.returns
returns g c =
    let w = write_of c.args.kind (record { stamp = c.args.stamp; content = c.args.content.now }) (has c.args.targets) c.args.homes.now in
    record {
      ends = disks_end w c.args.buf.number c.args.patience.now.left c.loop-disk.patience.left (g.S.Shelf.device c.args.shelf.now) (g.S.Shelf.device c.loop-disk.shelf) c.args.homes.now c.loop-disk.homes c.loop-disk.failed c.loop-disk.buf c.loop-disk.disk c.loop-disk.invariant c.requires.targets (omega arith);
      leaves = c.loop-disk.invariant.all.leaves;
    }
