use Rattle.std.specs.Prelude.{slice_index_or}
use Rattle.std.proofs.lemmas.List.{get_or_default}
use Rattle.lvm_num.specs.declared.place.Pp.{Pp}
use Rattle.lvm_handover.proofs.ServingLemmas.Marking.{markable_still, none_added, one_added}
use Rattle.lvm_handover.proofs.handover.mark_added.Goals as goal

abbrev first : Pp
first = record { disk = 0; pp = 0 }

pub loop-pp-init : goal.loop-pp-init
loop-pp-init c = none_added c.args.table.now

pub mark-requires-clause-row : goal.mark-requires-clause-row
mark-requires-clause-row c =
    let p : Pp = slice_index_or c.args.added.now c.loop-pp.pp-index first in
    (markable_still c.args.table.now c.loop-pp.table p c.loop-pp.invariant.rows (c.requires.rows c.loop-pp.pp-index first c.loop-pp-test.true)).row

pub mark-requires-clause-partition : goal.mark-requires-clause-partition
mark-requires-clause-partition c = (c.requires.rows c.loop-pp.pp-index first c.loop-pp-test.true).partition

pub loop-pp-preserved : goal.loop-pp-preserved
loop-pp-preserved c =
    let added = c.args.added.now in
    let i = c.loop-pp.pp-index in
    let p : Pp = slice_index_or added i first in
    let its = get_or_default added i first p c.loop-pp-test.true in
    one_added added i p c.loop-pp-test.true its c.args.table.now c.loop-pp.table c.mark.new.self c.loop-pp.invariant c.mark.ensures.members c.mark.ensures.stale c.mark.ensures.missing c.mark.ensures.dirty
