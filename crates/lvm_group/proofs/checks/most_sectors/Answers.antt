use Rattle.std.proofs.Common.{max, get_or, ◌∙◌, sym}
use Rattle.std.proofs.lemmas.List.Sums.{fold_more}
use Rattle.lvm_group.specs.NewGroup.{sectors_on}
use Rattle.lvm_group.proofs.NewGroupLemmas.Groups.{is_there, size_at}
use Rattle.lvm_group.proofs.checks.most_sectors.Goals as goal

pub sectors-requires : goal.sectors-requires
sectors-requires g c = is_there (g.S.Shelf.device c.args.shelf.now).sizes c.args.disks.now c.requires.there c.loop-disk.disk-index 0 c.loop-disk-test.true

pub loop-disk-preserved : goal.loop-disk-preserved
loop-disk-preserved g c =
    let sizes = (g.S.Shelf.device c.args.shelf.now).sizes in
    let disk = get_or c.args.disks.now c.loop-disk.disk-index 0 in
    c.max-most.ensures ∙ (λ t. max (c.loop-disk.invariant t) (sym (size_at sizes disk c.sectors.result c.sectors.ensures) t))
    ∙ sym (fold_more (λ most d. max most (sectors_on sizes d)) 0 c.args.disks.now c.loop-disk.disk-index 0 c.loop-disk-test.true)
