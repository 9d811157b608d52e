use Rattle.lvm_transfer.proofs.ReadingLemmas.Following.{reads_none, reads_starve}
use Rattle.lvm_transfer.proofs.reading.read_sectors.Goals as goal

pub returns-in_default-clause-reads : goal.returns-in_default-clause-reads
returns-in_default-clause-reads g c =
    let device = g.S.Shelf.device c.args.shelf.now in
    reads_starve c.args.extent.disk c.args.buf.number c.args.patience.now.left c.args.patience.now.left device device c.args.buf (reads_none c.args.extent.disk c.args.patience.now.left device c.args.buf c.requires.ready)
