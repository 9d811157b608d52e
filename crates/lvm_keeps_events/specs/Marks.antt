-- What marks of staleness, and the end of the copy that is open, leave of a request.
use Rattle.std.specs.Prelude.{◌≡◌, Bool, Some}
use Rattle.lvm_num.specs.declared.place.Pp.{Pp}
use Rattle.lvm_status.specs.Runs.{IsSoundStatus}
use Rattle.lvm_status.specs.Update.{Stored, seen}
use Rattle.lvm_session.specs.declared.bringing.CopyEnd.{CopyEnd}
use Rattle.lvm_session.specs.declared.bringing.OpenCopy.{OpenCopy}
use Rattle.lvm_session.specs.declared.open.Open.{Open}
use Rattle.lvm_session.specs.Bringing.{after_copy_end}
use Rattle.lvm_session.specs.State.{Core}
use Rattle.lvm_session.specs.Marks.{WantsStale}
use Rattle.lvm_session.specs.Requests.{IsOpenOne}
use Rattle.lvm_session.specs.Sound.{IsGoing}

-- Whatever comes to be wanted stale, what holds of a request goes on to hold.
abbrev pub MarksKeepRequests : Type 0
MarksKeepRequests = (core : Core) (due : Pp → Bool) (next : Stored) (o : Open) → IsSoundStatus (seen core.status) → WantsStale due core.status next → IsOpenOne core o → IsOpenOne (record core { status = next }) o

-- So it does however the copy ends that is open.
abbrev pub CopyEndsKeepRequests : Type 0
CopyEndsKeepRequests = (core : Core) (c : OpenCopy) (how : CopyEnd) (o : Open) → IsGoing core → core.copy ≡ Some c → IsOpenOne core o → IsOpenOne (after_copy_end core c how) o
