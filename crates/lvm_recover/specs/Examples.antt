-- Recovery, worked by hand: two disks that mirror a volume and differ in its first block.
use Rattle.std.specs.Prelude.{◌≡◌, false, true, List, Some}
use Rattle.lvm_num.specs.declared.descriptor.Mode.TheVariants.{Active, Passive}
use Rattle.lvm_num.specs.Buffer.{zero_sector}
use Rattle.lvm_num.specs.Descriptor.{IsValid}
use Rattle.lvm_num.specs.Votes.{CanWrite}
use Rattle.lvm_vol.specs.Facts.{Fact}
use Rattle.lvm_kept.specs.Committed.{IsWithinDisks}
use Rattle.lvm_kept.specs.Examples.{two}
use Rattle.lvm_kept.specs.Group.{block_at}
use Rattle.lvm_kept.specs.Kept.{Kept}
use Rattle.lvm_even.specs.passed.Commit.{ShowsCommitted}
use Rattle.lvm_even.specs.Even.{IsEven, MissingAreStale}
use Rattle.lvm_even.specs.Examples.{Pair, shown_by, status_of, there_by, device_of, history_of, even_pair, torn_pair, naming}
use Rattle.lvm_recover.specs.Recopied.{IsToEqual, IsRecopied, AreEqualled, OnlyNotesOf}
use Rattle.lvm_recover.specs.Keeping.{MayRecover}

-- All that is asked for a recovery holds of the disks before it, sector by sector: they keep the history and show what is committed, with no fresh copy
-- left behind; their usable copies differ at a block, which is to be made equal. After the copying and after the notes are emptied they show this.
pub record IsRecoveredPair (old copied new : Pair) (facts : List Fact) : Type 0 where
  pub valid : IsValid (two old.mode)
  pub may : MayRecover (two old.mode) (status_of old).value (there_by old) (device_of old)
  pub within : IsWithinDisks (shown_by old)
  pub enough : CanWrite (two old.mode) (there_by old)
  pub shows : ShowsCommitted (shown_by old) (two old.mode) (status_of old).value (there_by old)
  pub kept : Kept (shown_by old) facts
  pub behind : MissingAreStale (shown_by old) (two old.mode) (Some shows.stands) (there_by old)
  pub uneven : IsEven (shown_by old) (two old.mode) (Some shows.stands) (there_by old) → ⊥
  pub to_equal : IsToEqual (shown_by old) (Some shows.stands) (there_by old) old.mode 1 0
  pub recopied : IsRecopied (shown_by old) (two old.mode) (Some shows.stands) (there_by old) (shown_by copied)
  pub moved : block_at (shown_by copied) 1 (record { disk = 1; pp = 0 }) 0 ≡ block_at (shown_by old) 1 (record { disk = 1; pp = 0 }) 0 → ⊥
  pub equalled : AreEqualled (shown_by old) (two old.mode) (Some shows.stands) (there_by old) (shown_by copied)
  pub emptied : OnlyNotesOf (there_by old) (shown_by copied) (shown_by new)
  pub even : IsEven (shown_by new) (two old.mode) (Some shows.stands) (there_by old)

-- In mode active the notes name the track group, in mode passive the volume is dirty.
pub record PairsRecover : Type 0 where
  pub active : IsRecoveredPair (torn_pair Active false naming) (even_pair Active false false naming) (even_pair Active false false zero_sector) (history_of Active true)
  pub passive : IsRecoveredPair (torn_pair Passive true zero_sector) (even_pair Passive true false zero_sector) (even_pair Passive true false zero_sector) (history_of Passive true)
