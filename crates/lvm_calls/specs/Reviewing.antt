-- When what missing disks and commits entail may be done.
use Rattle.std.specs.Prelude.{◌≡◌, ◌<◌, Bool, ◌&&◌, not, Some, IfSome}
use Rattle.lvm_num.specs.declared.place.Pp.{Pp}
use Rattle.lvm_num.specs.declared.descriptor.Descriptor.{Descriptor}
use Rattle.lvm_num.specs.declared.descriptor.LvRow.{LvRow}
use Rattle.lvm_num.specs.Descriptor.{IsValid, volume_of, is_pp}
use Rattle.lvm_num.specs.Disks.{has}
use Rattle.lvm_status.specs.Members.{HasItsRows}
use Rattle.lvm_session.specs.declared.bringing.OpenCopy.{OpenCopy}
use Rattle.lvm_session.specs.State.{Core}
use Rattle.lvm_session.specs.Judging.{is_usable}
use Rattle.lvm_calls.specs.Ending.{MayEndCopy}

-- the copy is one of a logical partition that its volume has
pub record IsLocated (d : Descriptor) (c : OpenCopy) : Type 0 where
  pub row : LvRow
  pub volume : volume_of d c.lv ≡ Some row
  pub lp : c.lp < row.lps

-- The wanted status has rows for the members, and the copy that is open, if one is, can end.
pub record MayReview (core : Core) : Type 0 where
  pub valid : IsValid core.descriptor
  pub rows : HasItsRows core.descriptor core.status.wanted
  pub copy : MayEndCopy core
  pub located : IfSome core.copy (IsLocated core.descriptor)

-- another copy than the one that is brought up, and usable
abbrev pub is_other : Core → OpenCopy → Pp → Bool
is_other core c p = not (is_pp p c.pp) && is_usable core p

-- which wasn't read in vain for the track group
abbrev pub is_untried : Core → OpenCopy → Pp → Bool
is_untried core c p = is_other core c p && not (has c.tried p.disk)
