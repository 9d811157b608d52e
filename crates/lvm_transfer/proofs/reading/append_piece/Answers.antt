use Rattle.std.proofs.Common.{◌≡◌, ◌++◌, [], slice_index_or}
use Rattle.lvm_disk.specs.passed.Num.{joined}
use Rattle.lvm_disk.specs.Device.{Media}
use Rattle.lvm_transfer.proofs.RecordLemmas.{append-same, told-more}
use Rattle.lvm_transfer.proofs.reading.append_piece.Goals as goal

pub returns-in-Ok-clause-bytes : goal.returns-in-Ok-clause-bytes
returns-in-Ok-clause-bytes g c =
    let piece = c.args.piece in
    let was = c.args.bytes.now.items in
    told-more (λ (m : Media). joined (λ i. slice_index_or c.in_ok-back.back.sectors i []) 0 piece.keep ≡ joined (m piece.disk) piece.first piece.keep) (λ (m : Media). c.append.new.bytes.items ≡ was ++ joined (m piece.disk) piece.first piece.keep) (g.S.Shelf.device c.args.shelf.now).media
    (λ m same. append-same was c.append.new.bytes.items (joined (λ i. slice_index_or c.in_ok-back.back.sectors i []) 0 piece.keep) (joined (m piece.disk) piece.first piece.keep) c.in-Ok.ensures.bytes same)
    (c.in_ok-back.ensures.bytes piece.keep c.requires.kept)
