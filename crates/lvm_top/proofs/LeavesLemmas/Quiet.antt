-- What is found once transfers have ended, turns were made, or a session was closed: nothing new.
use Rattle.std.proofs.Common.{◌≡◌, ℕ, [], subst}
use Rattle.lvm_disk.specs.Device.{Device, MayLeave}
use Rattle.lvm_vol.specs.Log.{Log}
use Rattle.lvm_raw.specs.declared.fault.RawFault.{RawFault}
use Rattle.lvm_raw.specs.declared.fault.RawFault.TheVariants as fault
use Rattle.lvm_core.specs.declared.refused.Cause.{Cause}
use Rattle.lvm_core.specs.declared.refused.Cause.TheVariants as cause
use Rattle.lvm_session.specs.declared.open.Power.{Power}
use Rattle.lvm_session.specs.declared.open.Power.TheVariants as power
use Rattle.lvm_session.specs.Sound.{IsSound}
use Rattle.lvm_session.specs.State.{State}
use Rattle.lvm_line.specs.passed.QuiescedVariants as quiesced
use Rattle.lvm_line.specs.passed.Quiesce.{Quiesces, StaysOut, RangeStaysOut}
use Rattle.lvm_line.proofs.passed.Quiesce.{ends_leave, ends_leave_no_more}
use Rattle.lvm_line.specs.passed.Tie.{LeavesDescriptors, LeavesSession, RunsOn}
use Rattle.lvm_line.specs.passed.GroupLines.{IsRelit, IsClosed}
use Rattle.lvm_line.proofs.passed.Tie.{goes_any, going_leaves}
use Rattle.lvm_top.proofs.Devices.{NothingNew, then_nothing, same_nothing, fewer_nothing}
use Rattle.lvm_top.proofs.LeavesLemmas.Transfers.{relit_nothing}

-- ---- transfers of before

pub quiet_nothing : (old mid : Device) → Quiesces old mid → NothingNew old mid
quiet_nothing old mid quiet = fewer_nothing old mid (ends_leave quiet.ends)

pub stays_nothing : (patience : ℕ) (old new : Device) (was is : Log) (why : Cause) → StaysOut patience old new was is why → NothingNew old new
stays_nothing patience old new was is cause.Dark out = fewer_nothing old new (ends_leave_no_more patience old new quiesced.Dark out.0)
stays_nothing patience old new was is cause.Stuck out = fewer_nothing old new (ends_leave_no_more patience old new quiesced.Stuck out.0)
stays_nothing patience old new was is other out = absurd out

pub range_stays_nothing : (patience : ℕ) (old new : Device) (was is : Log) (why : RawFault) → RangeStaysOut patience old new was is why → NothingNew old new
range_stays_nothing patience old new was is fault.Dark out =
    then_nothing old out.0.dark new (fewer_nothing old out.0.dark (ends_leave_no_more patience old out.0.dark quiesced.Dark out.0.cut)) (relit_nothing out.0.dark new out.0.lit)
range_stays_nothing patience old new was is fault.Stuck out = fewer_nothing old new (ends_leave_no_more patience old new quiesced.Stuck out.0)
range_stays_nothing patience old new was is other out = absurd out

-- ---- the power

pub lit_nothing : (why : Cause) (left new : Device) → IsRelit why left new → NothingNew left new
lit_nothing cause.Dark left new lit = relit_nothing left new lit
lit_nothing other left new lit = same_nothing left new lit

freed_nothing : (old new : Device) → new ≡ record old { freed = [] } → NothingNew old new
freed_nothing old new is = fewer_nothing old new (λ image may. subst (λ (d : Device). MayLeave d image) is may)

pub closed_nothing : (p : Power) (old new : Device) → IsClosed p old new → NothingNew old new
closed_nothing power.Dark old new lit = relit_nothing old new lit
closed_nothing power.On old new is = freed_nothing old new is
closed_nothing power.Off old new is = freed_nothing old new is
closed_nothing power.Stuck old new is = freed_nothing old new is

-- ---- turns

pub session_nothing : (old new : State) → IsSound old → LeavesDescriptors old.device → LeavesSession old new → NothingNew old.device new.device
session_nothing old new sound leaves left id k (image, may, found) = ((going_leaves old new sound left).1.descriptors leaves).finds id k image may found

pub runs_nothing : (old new : State) → IsSound old → LeavesDescriptors old.device → RunsOn old new → NothingNew old.device new.device
runs_nothing old new sound leaves runs = session_nothing old new sound leaves (goes_any runs)
