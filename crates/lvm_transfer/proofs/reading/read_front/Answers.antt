use Rattle.std.proofs.Common.{◌≡◌, ◌-◌, ◌++◌, ◌∙◌, ℕ, List, Ok, Err, max, min, ap, subst, arith}
use Rattle.std.proofs.lemmas.Result.{err_from_is_err_and}
use Rattle.lvm_disk.specs.passed.NumRecordKind as kind
use Rattle.lvm_disk.specs.passed.Num.{joined, record_in, record_sectors}
use Rattle.lvm_disk.specs.Device.{Media}
use Rattle.lvm_transfer.specs.declared.reading.Extent.{Extent}
use Rattle.lvm_transfer.specs.Reading.{announced_length, ReadsEnd, SectorsRead}
use Rattle.lvm_transfer.proofs.ReadingLemmas.Following.{reads_then, told_before}
use Rattle.lvm_transfer.proofs.ReadingLemmas.Fronts.{record-kept}
use Rattle.lvm_transfer.proofs.RecordLemmas.{told-both}
use Rattle.lvm_transfer.proofs.ReadingLemmas.Pieces.{slot_read}
use Rattle.lvm_transfer.proofs.reading.read_front.Goals as goal

pub returns-in_err-back-clause-reads : goal.returns-in_err-back-clause-reads
returns-in_err-back-clause-reads g c =
    let old = g.S.Shelf.device c.args.shelf.now in
    let mid = g.S.Shelf.device c.read_sectors.new.shelf in
    let new = g.S.Shelf.device c.append_sectors.new.shelf in
    let buf = c.in_ok-bytes.buf in
    let p = err_from_is_err_and c.from_residual-in_err-back.result c.from_residual-in_err-back.ensures.1 in
    rw (p.1, p.2) (reads_then c.args.disk c.args.buf.number c.args.patience.now.left c.read_sectors.new.patience.left c.append_sectors.new.patience.left old mid new buf (Err c.in_err-back.field-0.0) c.in_ok-bytes.ensures.reads
    (subst (λ (x : Extent). ReadsEnd x.disk buf.number c.read_sectors.new.patience.left c.append_sectors.new.patience.left mid new (Err c.in_err-back.field-0.0)) c.rest_of-rest.ensures c.in_err-back.ensures.reads))

pub returns-clause-reads : goal.returns-clause-reads
returns-clause-reads g c =
    let old = g.S.Shelf.device c.args.shelf.now in
    let mid = g.S.Shelf.device c.read_sectors.new.shelf in
    let new = g.S.Shelf.device c.append_sectors.new.shelf in
    let buf = c.in_ok-bytes.buf in
    reads_then c.args.disk c.args.buf.number c.args.patience.now.left c.read_sectors.new.patience.left c.append_sectors.new.patience.left old mid new buf (Ok c.in_ok-back.back) c.in_ok-bytes.ensures.reads
    (subst (λ (x : Extent). ReadsEnd x.disk buf.number c.read_sectors.new.patience.left c.append_sectors.new.patience.left mid new (Ok c.in_ok-back.back)) c.rest_of-rest.ensures c.in_ok-back.ensures.reads)

pub returns-clause-record : goal.returns-clause-record
returns-clause-record g c =
    let disk = c.args.disk in
    let first = c.args.first in
    let bytes = c.in_ok-bytes.bytes.items in
    let all = c.append_sectors.new.bytes.items in
    let rest = c.rest_of-rest.result in
    let kept = ap (λ (x : Extent). x.keep) c.rest_of-rest.ensures ∙ ap (λ (l : List ℕ). max 256 (min (record_sectors (announced_length l)) 1152) - 256) c.deref.ensures.value in
    told-both (λ (m : Media). bytes ≡ joined (m disk) first 256) (λ (m : Media). all ≡ bytes ++ joined (m rest.disk) rest.first rest.keep) (λ (m : Media). record_in kind.Descriptor all ≡ record_in kind.Descriptor (joined (m disk) first 1152)) (g.S.Shelf.device c.args.shelf.now).media
    (λ m is next. record-kept kind.Descriptor (m disk) first 256 rest.keep 1152 bytes all is (next ∙ ap (λ (x : Extent). bytes ++ joined (m x.disk) x.first rest.keep) c.rest_of-rest.ensures) c.in_ok-bytes.ensures.size
    (omega (arith, c.in_ok-back.ensures.size, c.in_ok-bytes.ensures.size)) (omega arith) (omega arith) (omega (arith, kept)))
    c.in_ok-bytes.ensures.bytes
    (told_before (λ (m : Media). all ≡ bytes ++ joined (m rest.disk) rest.first rest.keep) (g.S.Shelf.device c.args.shelf.now) (g.S.Shelf.device c.read_sectors.new.shelf) c.in_ok-bytes.ensures.reads.only.unwritten.media c.in_ok-back.ensures.bytes)

pub returns-clause-whole : goal.returns-clause-whole
returns-clause-whole g c =
    let old = g.S.Shelf.device c.args.shelf.now in
    let mid = g.S.Shelf.device c.read_sectors.new.shelf in
    let new = g.S.Shelf.device c.append_sectors.new.shelf in
    slot_read c.args.disk c.args.first old mid new c.in_ok-bytes.ensures.whole (subst (λ (x : Extent). SectorsRead x.disk x.first x.count mid new) c.rest_of-rest.ensures c.in_ok-back.ensures.whole)
