use Rattle.std.proofs.Common.{ap}
use Rattle.lvm_num.specs.declared.descriptor.Descriptor.{Descriptor}
use Rattle.lvm_num.specs.declared.status.Status.{Status}
use Rattle.lvm_group_lines.specs.Listings.{CopiesShow, VolumeOfGroup}
use Rattle.lvm_group_lines.specs.Stages.{session_of}
use Rattle.lvm_group_lines.proofs.Listing.{shown_as}
use Rattle.lvm_group_lines.proofs.listings.list_volume.Goals as goal

pub returns-in-Empty : goal.returns-in-Empty
returns-in-Empty g c =
    VolumeOfGroup c.in-Empty.driver.1 (ap session_of c.in-Empty.is)
    (shown_as (λ (d : Descriptor) (t : Status). CopiesShow c.args.name d t c.list_copies.result) _ _ _ _ c.descriptor.ensures.same c.table.ensures c.list_copies.ensures)

pub returns-in-Serving : goal.returns-in-Serving
returns-in-Serving g c =
    VolumeOfGroup c.in-Serving.driver.1 (ap session_of c.in-Serving.is)
    (shown_as (λ (d : Descriptor) (t : Status). CopiesShow c.args.name d t c.list_copies-in-Serving.result) _ _ _ _ c.descriptor-in-Serving.ensures.same c.table-in-Serving.ensures c.list_copies-in-Serving.ensures)
