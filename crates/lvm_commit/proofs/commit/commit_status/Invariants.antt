use Rattle.std.proofs.Common.{◌≡◌, ◌-◌, ◌^◌}
use Rattle.lvm_commit.specs.Settling.{HoldsWithin}
use Rattle.lvm_commit.proofs.SettlingLemmas.StatusRounds.{AreRounds}
use Rattle.lvm_commit.proofs.commit.commit_status.Given as goal

abbrev pub invariant-loop-shelf : goal.invariant-loop-shelf
invariant-loop-shelf g l = record {
  rounds : AreRounds l.d l.fn.buf.number l.fn.patience.left l.patience.left l.fn.updater l.updater l.fn.homes l.homes (g.S.Shelf.device l.fn.shelf) (g.S.Shelf.device l.shelf) l.buf;
  held : HoldsWithin l.fn.updater l.updater;
  unwritten : l.fn.updater.wanted ≡ l.fn.updater.committed → (l.shelf ≡ l.fn.shelf) × (l.updater ≡ l.fn.updater) × (l.homes ≡ l.fn.homes) × (l.patience ≡ l.fn.patience);
}

abbrev pub decreases-loop-shelf : goal.decreases-loop-shelf
decreases-loop-shelf g l = 2 ^ 32 - l.updater.stamp.seq
