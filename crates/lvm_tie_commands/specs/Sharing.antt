-- Behind a split: the two volumes hold the same, and a write on one changes nothing of the other.
use Rattle.std.specs.Prelude.{◌≡◌, ◌⊎◌, ℕ, ◌++◌, List, Option, Some, Ok, IfSome, IsFalse}
use Rattle.lvm_num.specs.declared.place.Pp.{Pp}
use Rattle.lvm_num.specs.declared.descriptor.Descriptor.{Descriptor}
use Rattle.lvm_num.specs.declared.descriptor.LvRow.{LvRow}
use Rattle.lvm_num.specs.Descriptor.{IsValid, copies_of, volume_of}
use Rattle.lvm_num.specs.Disks.{Disks}
use Rattle.lvm_num.specs.Record.{Stamped}
use Rattle.lvm_num.specs.declared.status.Status.{Status}
use Rattle.lvm_disk.specs.Device.{image_of}
use Rattle.lvm_vol.specs.declared.entry.Vol.TheVariants.{Lv}
use Rattle.lvm_vol.specs.Facts.{Fact}
use Rattle.lvm_vol.specs.May.{known}
use Rattle.lvm_kept.specs.Contents.{Contents, contents_of}
use Rattle.lvm_kept.specs.Group.{HoldOne, IsBlockOf, IsOneOf, block_at, fresh_on}
use Rattle.lvm_kept.specs.Moments.{Moment}
use Rattle.lvm_steps.specs.Moments.{RunBegins}
use Rattle.lvm_commit.specs.LawsOfData.{IsSectorOf}
use Rattle.lvm_session.specs.State.{State, is_there}
use Rattle.lvm_split.specs.Splitting.{SplitGives, to_split}
use Rattle.lvm_tie_commands.specs.passed.Handover.{IsCommanded}
use Rattle.lvm_tie_commands.specs.Commands.{MayBeCommanded}

-- ---- the content of both

-- At each block that isn't loose by this history the usable copies of both volumes hold one value.
abbrev pub HoldTheSame : Contents → List Fact → ℕ → Option (Stamped Status) → Disks → LvRow → LvRow → Type 0
HoldTheSame c facts mib status there stays new =
    (lp b : ℕ) → IsBlockOf mib stays lp b → IsFalse (known facts (Lv stays.number) b).loose → HoldOne c mib (fresh_on there status stays lp ++ fresh_on there status new lp) b

-- The group has both volumes, with the same number of logical partitions, and by what is committed, where the media is told, they hold the same.
pub record ShareContent (facts : List Fact) (s : State) (lv number : ℕ) : Type 0 where
  pub stays : LvRow
  pub new : LvRow
  pub stays_is : volume_of s.core.descriptor lv ≡ Some stays
  pub new_is : volume_of s.core.descriptor number ≡ Some new
  pub apart : lv ≡ number → ⊥
  pub lps : new.lps ≡ stays.lps
  pub same : IfSome s.device.media (λ media. (stands : Stamped Status) → stands.value ≡ s.core.status.committed
      → HoldTheSame (contents_of (image_of s.device.sizes media)) facts s.core.descriptor.mib (Some stands) (is_there s.core) stays new)

-- So it is after each earlier history where a split is answered with the number of the new volume, of blocks that weren't loose before.
abbrev pub SplitShares : Type 0
SplitShares = (run : ℕ) (first : Moment) (lv : ℕ) (name : List ℕ) (copies before after : ℕ) (old new : State) (number : ℕ)
    → MayBeCommanded run first old → IsCommanded (to_split lv name copies old.core) before after old new (Ok number) → SplitGives lv name copies before old new (Ok number)
    → (past : List Fact) → RunBegins run past first → ShareContent (past ++ old.core.history.facts) new lv number

-- ---- a write on one

-- data changes at most in partitions of the volume
abbrev pub ChangesOnlyIn : Descriptor → LvRow → Contents → Contents → Type 0
ChangesOnlyIn group row old new = (d s : ℕ) → (new.block d s ≡ old.block d s) ⊎ ((lp : ℕ) × (pp : Pp) × IsOneOf (copies_of row lp) pp × IsSectorOf group.mib pp d s)

-- Then no block changes on a copy of another volume of the group.
abbrev pub WritesStayApart : Type 0
WritesStayApart = (group : Descriptor) (row other : LvRow) (old new : Contents) → IsValid group → IsOneOf group.lvs row → IsOneOf group.lvs other → (row.number ≡ other.number → ⊥)
    → ChangesOnlyIn group row old new → (lp b : ℕ) (p : Pp) → IsOneOf (copies_of other lp) p → block_at new group.mib p b ≡ block_at old group.mib p b
