-- The stages of a split: the mark of the new volume, and the descriptor with both between two entries.
use Rattle.std.specs.Prelude.{◌≡◌, ◌⊎◌, ℕ, List, Some, Result, Ok, Err, IsTrue, IsFalse, slice_set}
use Rattle.lvm_num.specs.declared.descriptor.LvRow.{LvRow}
use Rattle.lvm_num.specs.Descriptor.{volume_of}
use Rattle.lvm_num.specs.Status.{calls_dirty}
use Rattle.lvm_disk.specs.Device.{IsReady}
use Rattle.lvm_vol.specs.Facts.{Made, Split}
use Rattle.lvm_vol.specs.Log.{Log, with_fact}
use Rattle.lvm_session.specs.State.{Core, State}
use Rattle.lvm_volume_plan.specs.passed.Core.{FindsOnly, IsSettled, NoDescriptor, NoPartition, Scope}
use Rattle.lvm_volume_plan.specs.declared.fault.GroupFault.{GroupFault}
use Rattle.lvm_volume_plan.specs.declared.fault.GroupFault.TheVariants as fault
use Rattle.lvm_volume_plan.specs.declared.split.SplitPlan.{SplitPlan}
use Rattle.lvm_volume_plan.specs.CopiesFaults.{AreFewer}
use Rattle.lvm_volume_plan.specs.Split.{RefusesCopies}
use Rattle.lvm_volume_plan.specs.PlannedSplit.{IsPlannedSplit}
use Rattle.lvm_volumes.specs.Endings.{CommandDarkened, CommandWentOff, CommandStuck}
use Rattle.lvm_split.specs.Premises.{MaySplitSince}

-- this is the volume of the number, and is to keep some copies, and fewer than it has
abbrev pub IsToShrink : ℕ → ℕ → Core → LvRow → Type 0
IsToShrink lv copies core row = (volume_of core.descriptor lv ≡ Some row) × AreFewer row copies

-- nothing stands against the split of this plan
abbrev pub MayPartBy : ℕ → Core → SplitPlan → Type 0
MayPartBy copies core plan = (name : List ℕ) × IsPlannedSplit plan.from name copies core plan

-- what it may do: commit the descriptor with both volumes, and mark the new one
abbrev pub parting : SplitPlan → Scope
parting plan = record { next = λ d. d ≡ plan.next; zeros = NoPartition; stale = NoPartition; fresh = NoPartition; marks = λ n. n ≡ plan.number; numbers = 2; lets = MaySplitSince plan.from }

-- the history with the entry that copies of a volume are about to become another one
abbrev pub splitting : ℕ → ℕ → State → Log
splitting from lv s = with_fact s.core.history (Split from lv)

-- The descriptor with both is committed, and both entries are made; the new one is dirty where it is to be, and else only where its number was marked before.
pub record IsParted (plan : SplitPlan) (old new : State) : Type 0 where
  pub settled : IsSettled new.core
  pub is : new.core ≡ record old.core {
    descriptor = plan.next;
    history = with_fact (splitting plan.from plan.number old) (Made plan.number);
    last = slice_set old.core.last plan.number 0;
    status = new.core.status;
    homes = new.core.homes;
  }
  pub dirty : IsTrue plan.dirty → IsTrue (calls_dirty new.core.status.committed plan.number)
  pub clean : IsFalse plan.dirty → calls_dirty new.core.status.committed plan.number ≡ calls_dirty old.core.status.committed plan.number
  pub ready : IsReady new.device
  pub cuts : new.device.counts.cuts ≡ old.device.counts.cuts

-- what was entered before it broke off: nothing, or that the copies are about to become another volume
pub record PartBroke (plan : SplitPlan) (old : State) (Ends : Log → Type 0) : Type 0 where
  pub entered : Log
  pub so_far : (entered ≡ old.core.history) ⊎ (entered ≡ splitting plan.from plan.number old)
  pub ends : Ends entered

-- A status was committed, and what is left of the copies by it stands against the split: the session goes on as it was, and no descriptor is found that wasn't.
pub record IsHeldBack (lv copies : ℕ) (why : GroupFault) (old new : State) : Type 0 where
  pub row : LvRow
  pub volume : volume_of old.core.descriptor lv ≡ Some row
  pub refuses : RefusesCopies new.core.status.committed row copies why
  pub settled : IsSettled new.core
  pub is : new.core ≡ record old.core { status = new.core.status; homes = new.core.homes }
  pub finds : FindsOnly NoDescriptor old new
  pub ready : IsReady new.device
  pub cuts : new.device.counts.cuts ≡ old.device.counts.cuts

-- how it ends
abbrev pub PartEnds : ℕ → SplitPlan → ℕ → State → State → Result (Unit {0}) GroupFault → Type 0
PartEnds copies plan patience old new (Ok done) = IsParted plan old new
PartEnds copies plan patience old new (Err fault.Dark) = PartBroke plan old (λ entered. CommandDarkened entered old new)
PartEnds copies plan patience old new (Err (fault.WentOff have total)) = PartBroke plan old (λ entered. CommandWentOff entered have total old new)
PartEnds copies plan patience old new (Err fault.Stuck) = PartBroke plan old (λ entered. CommandStuck entered patience old new)
PartEnds copies plan patience old new (Err (fault.StaleCopy lp)) = IsHeldBack plan.from copies (fault.StaleCopy lp) old new
PartEnds copies plan patience old new (Err (fault.LastFresh lp)) = IsHeldBack plan.from copies (fault.LastFresh lp) old new
PartEnds copies plan patience old new (Err _) = ⊥
