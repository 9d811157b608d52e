use Rattle.std.proofs.Common.{◌≡◌, Ok, Err, arith}
use Rattle.std.proofs.lemmas.Result.{err_from_is_err_and}
use Rattle.lvm_num.specs.declared.record.Kind.TheVariants as kind
use Rattle.lvm_num.specs.DescriptorBytes.{descriptor_of}
use Rattle.lvm_num.specs.Record.{joined}
use Rattle.lvm_transfer.specs.passed.Rec.{held}
use Rattle.lvm_transfer.specs.passed.Disk.{Media}
use Rattle.lvm_transfer.proofs.ReadingLemmas.Following.{reads_then, told_before}
use Rattle.lvm_quorum.specs.Reading.{stamped_found}
use Rattle.lvm_quorum.proofs.SlotsLemmas.{latest_is}
use Rattle.lvm_quorum.proofs.area.read_descriptors.Goals as goal

pub read_descriptor_slot-requires-clause-inside : goal.read_descriptor_slot-requires-clause-inside
read_descriptor_slot-requires-clause-inside g c = record { there = c.requires.there; within = omega (arith, c.requires.large); below = omega arith }

pub returns-in_err-second-clause-reads : goal.returns-in_err-second-clause-reads
returns-in_err-second-clause-reads g c =
    let p = err_from_is_err_and c.from_residual-in_err-second.result c.from_residual-in_err-second.ensures.1 in
    rw (p.1, p.2) (reads_then c.args.disk c.args.buf.number c.args.patience.now.left c.read_descriptor_slot.new.patience.left c.read_descriptor_slot-2.new.patience.left (g.S.Shelf.device c.args.shelf.now) (g.S.Shelf.device c.read_descriptor_slot.new.shelf) (g.S.Shelf.device c.read_descriptor_slot-2.new.shelf)
    c.in_ok-first.buf (Err c.in_err-second.field-0.0) c.in_ok-first.ensures.reads c.in_err-second.ensures.reads)

pub returns-clause-reads : goal.returns-clause-reads
returns-clause-reads g c =
    reads_then c.args.disk c.args.buf.number c.args.patience.now.left c.read_descriptor_slot.new.patience.left c.read_descriptor_slot-2.new.patience.left (g.S.Shelf.device c.args.shelf.now) (g.S.Shelf.device c.read_descriptor_slot.new.shelf) (g.S.Shelf.device c.read_descriptor_slot-2.new.shelf)
    c.in_ok-first.buf (Ok c.in_ok-second.buf) c.in_ok-first.ensures.reads c.in_ok-second.ensures.reads

pub returns-clause-newest : goal.returns-clause-newest
returns-clause-newest g c =
    let old = g.S.Shelf.device c.args.shelf.now in
    let mid = g.S.Shelf.device c.read_descriptor_slot.new.shelf in
    latest_is descriptor_of kind.Descriptor old.media c.args.disk c.in_ok-first.first c.in_ok-second.second c.newest.result c.in_ok-first.ensures.held
    (told_before (λ (m : Media). stamped_found c.in_ok-second.second ≡ held descriptor_of kind.Descriptor (joined (m c.args.disk) 1664 1152)) old mid c.in_ok-first.ensures.reads.only.unwritten.media c.in_ok-second.ensures.held)
    c.newest.ensures.newest c.newest.ensures.home

pub returns-clause-whole : goal.returns-clause-whole
returns-clause-whole g c = record { between = g.S.Shelf.device c.read_descriptor_slot.new.shelf; first = c.in_ok-first.ensures.whole; second = c.in_ok-second.ensures.whole }
