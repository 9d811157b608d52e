use Rattle.std.proofs.Common.{◌≡◌, ℕ, [], ◌∷◌, ◌++◌, get_or, false, ap, sym, ◌∙◌}
use Rattle.std.proofs.lemmas.List.{map_more}
use Rattle.lvm_num.specs.declared.descriptor.PvRow.{PvRow}
use Rattle.lvm_num.specs.Geometry.{partition_count}
use Rattle.lvm_group.specs.NewGroup.{sectors_on, member_for}
use Rattle.lvm_group.proofs.NewGroupLemmas.Groups.{is_there, size_at}
use Rattle.lvm_group.proofs.plan.members_of.Goals as goal

pub sectors-requires : goal.sectors-requires
sectors-requires g c = is_there (g.S.Shelf.device c.args.shelf.now).sizes c.args.disks.now c.requires.there c.loop-disk.disk-index 0 c.loop-disk-test.true

pub loop-disk-preserved : goal.loop-disk-preserved
loop-disk-preserved g c =
    let sizes = (g.S.Shelf.device c.args.shelf.now).sizes in
    let i = c.loop-disk.disk-index in
    let disk = get_or c.args.disks.now i 0 in
    let count : c.partitions_on.result ≡ partition_count (sectors_on sizes disk) c.args.mib = c.partitions_on.ensures ∙ ap (λ s. partition_count s c.args.mib) (sym (size_at sizes disk c.sectors.result c.sectors.ensures)) in
    let row = λ (n : ℕ). let made : PvRow = record { disk = disk; pps = n; spare = false } in made in
    c.in_ok-push.ensures.items ∙ (λ t. c.loop-disk.invariant t ++ row (count t) ∷ []) ∙ sym (map_more (member_for sizes c.args.mib) c.args.disks.now i 0 c.loop-disk-test.true)
