use Rattle.lvm_disk.specs.Paths.{Here}
use Rattle.lvm_raw.proofs.OnePieceKeepingLemmas.{left_alone}
use Rattle.lvm_raw.proofs.request.relight_after_transfer.Goals as goal

pub returns-in_default : goal.returns-in_default
returns-in_default g c = record { lit = left_alone (g.S.Shelf.device c.args.shelf.now) c.args.how.now c.in_default.not-Dark; moments = Here (λ image may. may) }
