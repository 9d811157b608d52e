use Rattle.std.proofs.Common.{ap, length, ℕ, subst, sym, ◌∙◌}
use Rattle.lvm_num.specs.declared.descriptor.Descriptor.{Descriptor}
use Rattle.lvm_num.specs.declared.status.Status.{Status}
use Rattle.lvm_group_lines.specs.Listings.{DiskOfGroup, MemberShows}
use Rattle.lvm_group_lines.specs.Stages.{session_of, shelf_of}
use Rattle.lvm_group_lines.specs.declared.holder.Holder.{Holder}
use Rattle.lvm_group_lines.proofs.Listing.{shown_as}
use Rattle.lvm_group_lines.proofs.listings.list_disk.Goals as goal

pub returns-in-Empty : goal.returns-in-Empty
returns-in-Empty g c =
    DiskOfGroup c.in-Empty.driver.1 (ap session_of c.in-Empty.is)
    (subst (λ (n : ℕ). MemberShows c.args.disk n c.in-Empty.driver.1.descriptor c.in-Empty.driver.1.status.committed c.list_member.result) (c.disks.ensures.number ∙ sym (ap (λ (h : Holder g.row.S.Denot). length (g.S.Shelf.device (shelf_of h)).sizes) c.in-Empty.is))
    (shown_as (λ (d : Descriptor) (t : Status). MemberShows c.args.disk c.disks.result d t c.list_member.result) _ _ _ _ c.descriptor.ensures.same c.table.ensures c.list_member.ensures))

pub returns-in-Serving : goal.returns-in-Serving
returns-in-Serving g c =
    DiskOfGroup c.in-Serving.driver.1 (ap session_of c.in-Serving.is)
    (subst (λ (n : ℕ). MemberShows c.args.disk n c.in-Serving.driver.1.descriptor c.in-Serving.driver.1.status.committed c.list_member-in-Serving.result) (c.disks-in-Serving.ensures.number ∙ sym (ap (λ (h : Holder g.row.S.Denot). length (g.S.Shelf.device (shelf_of h)).sizes) c.in-Serving.is))
    (shown_as (λ (d : Descriptor) (t : Status). MemberShows c.args.disk c.disks-in-Serving.result d t c.list_member-in-Serving.result) _ _ _ _ c.descriptor-in-Serving.ensures.same c.table-in-Serving.ensures c.list_member-in-Serving.ensures))
