use Rattle.std.proofs.Common.{◌*◌, sym, arith}
use Rattle.std.specs.List.{range_with_len}
use Rattle.lvm_num.specs.Disks.{has}
use Rattle.lvm_recovery.specs.Plan.{copies_at}
use Rattle.lvm_recovery.proofs.JoiningLemmas.{no_part_made, next_part, stopped_part, part_ranges, part_apart, all_parts}
use Rattle.lvm_recovery.proofs.PlanLemmas.Dirty.{is_within}
use Rattle.lvm_recovery.proofs.RowsLemmas.{range_low, range_at, range_all}
use Rattle.lvm_recovery.proofs.dirty.copy_volume.Goals as goal

pub loop-g-init : goal.loop-g-init
loop-g-init g c = record { so_far = no_part_made (copies_at c.args.mib c.args.table.now (has c.args.disks) c.args.row.now) (range_with_len 0 (8 * c.args.mib * c.args.row.now.lps)) c.args.patience.now.left (g.S.Shelf.device c.args.shelf.now) c.args.buf c.requires.ready c.requires.full }

pub copy_group-requires-clause-ready : goal.copy_group-requires-clause-ready
copy_group-requires-clause-ready g c = c.loop-g.invariant.so_far.made.how.back.ready

pub copy_group-requires-clause-full : goal.copy_group-requires-clause-full
copy_group-requires-clause-full g c = c.loop-g.invariant.so_far.made.how.full

pub copy_group-requires-clause-inside : goal.copy_group-requires-clause-inside
copy_group-requires-clause-inside g c = is_within c.args.mib c.requires.some_size c.args.row.now.lps c.loop-g.g (let e = c.groups_of-groups.ensures.is in let f = c.loop-g-test.true in omega (arith, e, f))

pub copy_group-requires-clause-ranges : goal.copy_group-requires-clause-ranges
copy_group-requires-clause-ranges g c =
    part_ranges (copies_at c.args.mib c.args.table.now (has c.args.disks) c.args.row.now) (range_with_len 0 (8 * c.args.mib * c.args.row.now.lps)) c.loop-g.g 0 c.loop-g.g (range_low (8 * c.args.mib * c.args.row.now.lps) c.loop-g.g (let e = c.groups_of-groups.ensures.is in let f = c.loop-g-test.true in omega (arith, e, f))) (sym (range_at (8 * c.args.mib * c.args.row.now.lps) c.loop-g.g 0 (let e = c.groups_of-groups.ensures.is in let f = c.loop-g-test.true in omega (arith, e, f)))) c.args.buf.number c.args.patience.now.left c.loop-g.patience.left
    (g.S.Shelf.device c.args.shelf.now) (g.S.Shelf.device c.loop-g.shelf) c.loop-g.buf c.loop-g.invariant.so_far c.requires.ranges

pub copy_group-requires-clause-apart : goal.copy_group-requires-clause-apart
copy_group-requires-clause-apart g c = part_apart (copies_at c.args.mib c.args.table.now (has c.args.disks) c.args.row.now) (range_with_len 0 (8 * c.args.mib * c.args.row.now.lps)) c.loop-g.g 0 c.loop-g.g (range_low (8 * c.args.mib * c.args.row.now.lps) c.loop-g.g (let e = c.groups_of-groups.ensures.is in let f = c.loop-g-test.true in omega (arith, e, f))) (sym (range_at (8 * c.args.mib * c.args.row.now.lps) c.loop-g.g 0 (let e = c.groups_of-groups.ensures.is in let f = c.loop-g-test.true in omega (arith, e, f)))) c.requires.apart

pub returns-in_default : goal.returns-in_default
returns-in_default g c = record {
  gives = stopped_part (copies_at c.args.mib c.args.table.now (has c.args.disks) c.args.row.now) (range_with_len 0 (8 * c.args.mib * c.args.row.now.lps)) c.loop-g.g 0 c.loop-g.g (range_low (8 * c.args.mib * c.args.row.now.lps) c.loop-g.g (let e = c.groups_of-groups.ensures.is in let f = c.loop-g-test.true in omega (arith, e, f))) (sym (range_at (8 * c.args.mib * c.args.row.now.lps) c.loop-g.g 0 (let e = c.groups_of-groups.ensures.is in let f = c.loop-g-test.true in omega (arith, e, f)))) c.requires.apart c.args.buf.number c.args.patience.now.left c.loop-g.patience.left c.copy_group.new.patience.left
      (g.S.Shelf.device c.args.shelf.now) (g.S.Shelf.device c.loop-g.shelf) (g.S.Shelf.device c.copy_group.new.shelf) c.loop-g.buf c.loop-g.invariant.so_far c.copy_group.result c.in_default.not-Ended c.copy_group.ensures.gives;
}

pub loop-g-preserved : goal.loop-g-preserved
loop-g-preserved g c = record {
  so_far = next_part (copies_at c.args.mib c.args.table.now (has c.args.disks) c.args.row.now) (range_with_len 0 (8 * c.args.mib * c.args.row.now.lps)) c.loop-g.g 0 c.loop-g.g (range_low (8 * c.args.mib * c.args.row.now.lps) c.loop-g.g (let e = c.groups_of-groups.ensures.is in let f = c.loop-g-test.true in omega (arith, e, f))) (sym (range_at (8 * c.args.mib * c.args.row.now.lps) c.loop-g.g 0 (let e = c.groups_of-groups.ensures.is in let f = c.loop-g-test.true in omega (arith, e, f)))) c.requires.apart c.args.buf.number c.args.patience.now.left c.loop-g.patience.left c.copy_group.new.patience.left
      (g.S.Shelf.device c.args.shelf.now) (g.S.Shelf.device c.loop-g.shelf) (g.S.Shelf.device c.copy_group.new.shelf) c.loop-g.buf c.loop-g.invariant.so_far c.in-Ended.back c.in-Ended.ensures.gives;
}

pub returns : goal.returns
returns g c = record {
  gives = all_parts (copies_at c.args.mib c.args.table.now (has c.args.disks) c.args.row.now) (range_with_len 0 (8 * c.args.mib * c.args.row.now.lps)) c.args.buf.number c.args.patience.now.left c.loop-g.patience.left (g.S.Shelf.device c.args.shelf.now) (g.S.Shelf.device c.loop-g.shelf) c.loop-g.buf c.loop-g.g
      (let e = c.groups_of-groups.ensures.is in let f = c.loop-g-test.false in range_all (8 * c.args.mib * c.args.row.now.lps) c.loop-g.g (omega (arith, e, f))) c.loop-g.invariant.so_far;
}
