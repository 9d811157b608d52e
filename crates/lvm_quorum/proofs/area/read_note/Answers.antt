use Rattle.std.proofs.Common.{◌≡◌, ◌∙◌}
use Rattle.lvm_num.specs.Record.{joined}
use Rattle.lvm_transfer.specs.passed.Disk.{Media}
use Rattle.lvm_transfer.proofs.RecordLemmas.{joined-one, told-more}
use Rattle.lvm_quorum.proofs.area.read_note.Goals as goal

pub returns-clause-note : goal.returns-clause-note
returns-clause-note g c =
    let disk = c.args.disk in
    let bytes = c.in_ok-bytes.bytes.items in
    told-more (λ (m : Media). bytes ≡ joined (m disk) 8 1) (λ (m : Media). c.copy_from_slice.new.self ≡ m disk 8) (g.S.Shelf.device c.args.shelf.now).media
    (λ m is. c.copy_from_slice.ensures.after ∙ c.deref.ensures.value ∙ is ∙ joined-one (m disk) 8) c.in_ok-bytes.ensures.bytes
