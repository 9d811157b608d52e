use Rattle.std.proofs.Common.{refl, arith}
use Rattle.lvm_num.specs.Disks.{has}
use Rattle.lvm_recovery.specs.Dirty.{copy_to}
use Rattle.lvm_recovery.proofs.JoiningLemmas.{no_part_made, next_part, stopped_part, part_ranges, part_apart, all_parts}
use Rattle.lvm_recovery.proofs.dirty.copy_rest.Goals as goal

pub loop-pp-init : goal.loop-pp-init
loop-pp-init g c = record { so_far = no_part_made (copy_to c.args.mib c.args.block c.args.table.now (has c.args.disks) c.args.from) c.args.pps.now c.args.patience.now.left (g.S.Shelf.device c.args.shelf.now) c.args.buf c.requires.ready c.requires.full }

pub copy_if_usable-requires-clause-ready : goal.copy_if_usable-requires-clause-ready
copy_if_usable-requires-clause-ready g c = c.loop-pp.invariant.so_far.made.how.back.ready

pub copy_if_usable-requires-clause-full : goal.copy_if_usable-requires-clause-full
copy_if_usable-requires-clause-full g c = c.loop-pp.invariant.so_far.made.how.full

pub copy_if_usable-requires-clause-ranges : goal.copy_if_usable-requires-clause-ranges
copy_if_usable-requires-clause-ranges g c =
    part_ranges (copy_to c.args.mib c.args.block c.args.table.now (has c.args.disks) c.args.from) c.args.pps.now c.loop-pp.pp-index _ _ c.loop-pp-test.true refl c.args.buf.number c.args.patience.now.left c.loop-pp.patience.left
    (g.S.Shelf.device c.args.shelf.now) (g.S.Shelf.device c.loop-pp.shelf) c.loop-pp.buf c.loop-pp.invariant.so_far c.requires.ranges

pub copy_if_usable-requires-clause-apart : goal.copy_if_usable-requires-clause-apart
copy_if_usable-requires-clause-apart g c = part_apart (copy_to c.args.mib c.args.block c.args.table.now (has c.args.disks) c.args.from) c.args.pps.now c.loop-pp.pp-index _ _ c.loop-pp-test.true refl c.requires.apart

pub returns-in_default : goal.returns-in_default
returns-in_default g c = record {
  gives = stopped_part (copy_to c.args.mib c.args.block c.args.table.now (has c.args.disks) c.args.from) c.args.pps.now c.loop-pp.pp-index _ _ c.loop-pp-test.true refl c.requires.apart c.args.buf.number c.args.patience.now.left c.loop-pp.patience.left c.copy_if_usable.new.patience.left
      (g.S.Shelf.device c.args.shelf.now) (g.S.Shelf.device c.loop-pp.shelf) (g.S.Shelf.device c.copy_if_usable.new.shelf) c.loop-pp.buf c.loop-pp.invariant.so_far c.copy_if_usable.result c.in_default.not-Ended c.copy_if_usable.ensures.gives;
}

pub loop-pp-preserved : goal.loop-pp-preserved
loop-pp-preserved g c = record {
  so_far = next_part (copy_to c.args.mib c.args.block c.args.table.now (has c.args.disks) c.args.from) c.args.pps.now c.loop-pp.pp-index _ _ c.loop-pp-test.true refl c.requires.apart c.args.buf.number c.args.patience.now.left c.loop-pp.patience.left c.copy_if_usable.new.patience.left
      (g.S.Shelf.device c.args.shelf.now) (g.S.Shelf.device c.loop-pp.shelf) (g.S.Shelf.device c.copy_if_usable.new.shelf) c.loop-pp.buf c.loop-pp.invariant.so_far c.in-Ended.back c.in-Ended.ensures.gives;
}

pub returns : goal.returns
returns g c = record {
  gives = all_parts (copy_to c.args.mib c.args.block c.args.table.now (has c.args.disks) c.args.from) c.args.pps.now c.args.buf.number c.args.patience.now.left c.loop-pp.patience.left (g.S.Shelf.device c.args.shelf.now) (g.S.Shelf.device c.loop-pp.shelf) c.loop-pp.buf c.loop-pp.pp-index
      (let f = c.loop-pp-test.false in omega (arith, f)) c.loop-pp.invariant.so_far;
}
