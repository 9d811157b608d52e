use Rattle.std.proofs.Common.{List, sym, subst}
use Rattle.std.specs.Prelude.{All, IsTrue, IfErr}
use Rattle.lvm_num.specs.declared.place.Pp.{Pp}
use Rattle.lvm_num.specs.Descriptor.{partitions_used}
use Rattle.lvm_num.specs.Disks.{has}
use Rattle.lvm_map.specs.FirstFit.{is_among, IsFault}
use Rattle.lvm_map.proofs.PlacesLemmas.{volume_is, volume_used}
use Rattle.lvm_map.proofs.fit.allocate_more.Goals as goal

pub fit-requires-clause-used : goal.fit-requires-clause-used
fit-requires-clause-used c =
    subst (All (λ (pp : Pp). IsTrue (is_among (partitions_used c.args.d.now) pp))) (sym c.as_slice-old.ensures)
    (volume_used c.args.d.now c.args.lv c.in-Some.row.now (volume_is c.args.d.now c.args.lv c.as_slice.result.now c.in-Some.row.now c.in-Some.ensures c.as_slice.ensures))

pub returns-clause-fault : goal.returns-clause-fault
returns-clause-fault c =
    let row = c.in-Some.row.now in
    let is = volume_is c.args.d.now c.args.lv c.as_slice.result.now row c.in-Some.ensures c.as_slice.ensures in
    rw is
    (subst (λ (old : List Pp). IfErr c.fit.result (IsFault c.args.d.now (has c.args.usable) (record { lps = row.lps; copies = c.args.copies; kept = row.copies; old = old })))
    c.as_slice-old.ensures c.fit.ensures.fault)
