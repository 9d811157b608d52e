use Rattle.std.proofs.Common.{ap}
use Rattle.lvm_num.specs.declared.descriptor.Descriptor.{Descriptor}
use Rattle.lvm_num.specs.declared.status.Status.{Status}
use Rattle.lvm_group_lines.specs.Listings.{GroupThatIsOn, NamedShows}
use Rattle.lvm_group_lines.specs.Stages.{session_of}
use Rattle.lvm_group_lines.proofs.Listing.{shown_as}
use Rattle.lvm_group_lines.proofs.listings.list_group.Goals as goal

pub returns-in-Empty : goal.returns-in-Empty
returns-in-Empty g c =
    GroupThatIsOn c.in-Empty.driver.1 (ap session_of c.in-Empty.is)
    (shown_as (λ (d : Descriptor) (t : Status). NamedShows c.args.volumes c.args.name d t c.list_named.result) _ _ _ _ c.descriptor.ensures.same c.table.ensures c.list_named.ensures)

pub returns-in-Serving : goal.returns-in-Serving
returns-in-Serving g c =
    GroupThatIsOn c.in-Serving.driver.1 (ap session_of c.in-Serving.is)
    (shown_as (λ (d : Descriptor) (t : Status). NamedShows c.args.volumes c.args.name d t c.list_named-in-Serving.result) _ _ _ _ c.descriptor-in-Serving.ensures.same c.table-in-Serving.ensures c.list_named-in-Serving.ensures)
