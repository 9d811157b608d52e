use Rattle.lvm_group_lines.specs.Listings.{ListsVolume}
use Rattle.lvm_group_lines.proofs.Listing.{there}
use Rattle.lvm_group_lines.proofs.listings.list_copies.Goals as goal

pub show_map-requires-clause-there : goal.show_map-requires-clause-there
show_map-requires-clause-there c = there c.args.group.now.lvs c.args.name c.in-Some.lv c.in-Some.ensures.some

pub returns-in-Some : goal.returns-in-Some
returns-in-Some c = ListsVolume c.in-Some.lv c.in-Some.ensures.some (c.shows.ensures _ c.show_map.ensures)
