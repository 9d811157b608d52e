use Rattle.std.proofs.Common.{ℕ, refl}
use Rattle.lvm_num.specs.Disks.{Disks, has}
use Rattle.lvm_disk.specs.Device.{Device}
use Rattle.lvm_write.proofs.PartsLemmas.Transfers.{keeps_here, spends_none}
use Rattle.lvm_change.specs.Transition.{IsOfTransition}
use Rattle.lvm_commit.specs.Committed.{next_stamp}
use Rattle.lvm_extend.proofs.SpreadingLemmas.{here_still, nothing_finds, nothing_path, voted, with_is}
use Rattle.lvm_extend.proofs.spreading.describe.Goals as goal

pub returns-in_default : goal.returns-in_default
returns-in_default g c =
    let old : Device = g.S.Shelf.device c.args.shelf.now in
    let there : Disks = has c.args.there in
    let p : ℕ = c.args.patience.now.left in
    record {
      ends = voted c.args.turn c.args.disk there c.args.stamp old c.requires.may c.args.homes.now c.args.buf.number p old (has c.with.result) there c.args.buf
          (here_still c.args.turn c.args.disk there c.args.stamp old c.requires.may c.args.homes.now c.args.buf.number c.args.buf refl) (with_is c.args.there c.with.result c.args.disk c.with.ensures) c.by_votes.result c.by_votes.ensures;
      keeps = keeps_here there (IsOfTransition c.args.turn there (next_stamp c.args.stamp) (next_stamp (next_stamp c.args.stamp))) old;
      spends = spends_none p old;
      kept = nothing_path c.args.turn c.args.disk there c.args.stamp old c.requires.may c.args.homes.now;
      finds = nothing_finds c.args.turn c.args.disk there c.args.stamp old c.requires.may c.args.homes.now;
    }
