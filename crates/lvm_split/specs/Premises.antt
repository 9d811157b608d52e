-- Under which premise a span goes on over the split of a volume.
use Rattle.std.specs.Prelude.{◌≡◌, ℕ, ◌++◌, List, [], Some, IfSome}
use Rattle.lvm_disk.specs.Device.{image_of}
use Rattle.lvm_vol.specs.declared.entry.Vol.TheVariants.{Lv}
use Rattle.lvm_vol.specs.Facts.{Fact}
use Rattle.lvm_vol.specs.May.{known}
use Rattle.lvm_kept.specs.Contents.{contents_of}
use Rattle.lvm_kept.specs.Moments.{Moment}
use Rattle.lvm_steps.specs.Moments.{RunBegins}
use Rattle.lvm_commit.specs.Committed.{ShowsCommitted}
use Rattle.lvm_commit.specs.Settling.{NoneIsLeft}
use Rattle.lvm_even.specs.Even.{IsEven}
use Rattle.lvm_session.specs.State.{State, is_there}
use Rattle.lvm_volumes.specs.Endings.{IfAlone}

-- The media, where it is told, shows what is committed, and by that the usable copies of each volume with consistency are even.
abbrev pub IsEvenOn : State → Type 0
IsEvenOn s = IfSome s.device.media (λ media. (shows : ShowsCommitted (contents_of (image_of s.device.sizes media)) s.core.descriptor s.core.status.committed (is_there s.core))
    × IsEven (contents_of (image_of s.device.sizes media)) s.core.descriptor (Some shows.stands) (is_there s.core))

-- no write of the volume is open
abbrev pub IsClosedIn : List Fact → ℕ → Type 0
IsClosedIn facts lv = (b : ℕ) → (known facts (Lv lv) b).open_writes ≡ []

-- No copy is left behind and, if the entries are made, no other group is found on the disks; and after each earlier history usable copies are even, and no write
-- of the volume is open.
pub record MaySplitSince (lv : ℕ) (old new : State) (run : ℕ) (first : Moment) : Type 0 where
  pub alone : IfAlone old new run first
  pub left : NoneIsLeft old.core.descriptor old.core.status
  pub even : (past : List Fact) → RunBegins run past first → IsEvenOn old
  pub closed : (past : List Fact) → RunBegins run past first → IsClosedIn (past ++ old.core.history.facts) lv
