use Rattle.lvm_quorum.proofs.ShownDescriptorLemmas.{newest_shows}
use Rattle.lvm_quorum.proofs.area.read_descriptor.Goals as goal

pub returns-clause-shown : goal.returns-clause-shown
returns-clause-shown g c =
    let old = (g.S.Shelf.device c.args.shelf.now) in newest_shows old.media old.sizes c.args.disk c.in_ok-latest.latest c.requires.there c.requires.large c.in_ok-latest.ensures.newest
