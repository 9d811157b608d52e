-- What is found after a volume was to be split: what was found before, or what was to be committed.
use Rattle.std.proofs.Common.{◌≡◌, ◌⊎◌, inl, inr, ⊎_elim, ℕ, List, Bool, false, IfSome, Some, Result, Ok, Err, refl, sym, ap, subst}
use Rattle.lvm_num.specs.declared.descriptor.Descriptor.{Descriptor}
use Rattle.lvm_parse.specs.declared.command.Command.TheVariants as command
use Rattle.lvm_disk.specs.Device.{Device}
use Rattle.lvm_core.specs.Looking.{IsNumberOf}
use Rattle.lvm_core.specs.Leaves.{MayBeFound}
use Rattle.lvm_session.specs.State.{Core, State}
use Rattle.lvm_line.specs.passed.Splitting.{IsSplit, SplittingHalts}
use Rattle.lvm_line.specs.passed.GroupLines.{IsBetween, IsBrokenOff, OfGroup, ScriptState, Reply}
use Rattle.lvm_line.specs.passed.ReplyVariants as reply
use Rattle.lvm_line.specs.passed.VolumeLines.{Drains, StaysOn, refusal_for, SplitlvcopyDoes, NoGroupForSplitlvcopy, BusySplitlvcopy, UndrainedSplitlvcopy, NoVolumeForSplitlvcopy, SplitsVolume, SplitlvcopyFails, SplitlvcopyEnds}
use Rattle.lvm_line.proofs.passed.Tie.{path_frames}
use Rattle.lvm_top.specs.Standing.{MayHaveCommitted, StoodBefore, WasDrained}
use Rattle.lvm_top.proofs.Devices.{same_nothing}
use Rattle.lvm_top.proofs.StandingLemmas.Volumes.{done_finds, drained_nothing, held_mid, idle_nothing, undrained_nothing}
use Rattle.lvm_volume_plan.specs.declared.fault.GroupFault.{GroupFault}
use Rattle.lvm_volume_plan.specs.declared.fault.GroupFault.TheVariants as fault
use Rattle.lvm_volume_plan.specs.Faults.{ends_session}

-- with a volume split it is the same group
pub split_id : (lv : ℕ) (made : List ℕ) (copies : ℕ) (core : Core) (k : Descriptor) → IsSplit lv made copies core k → k.id ≡ core.descriptor.id
split_id lv made copies core k (row, may, (number, lowest, same)) = ap (λ (d : Descriptor). d.id) same

module _ (run : ℕ) (old new : ScriptState) (between : IsBetween old.moment old.session old.posts) (named : IfSome old.session (λ core. core.history.run ≡ run)) (stood : StoodBefore run OfGroup old new) (answer : Reply) (made name : List ℕ) (copies : ℕ) where
  abbrev FoundBySplit : Type 0
  FoundBySplit = (id : ℕ) (k : Descriptor) → MayBeFound new.moment.device id k → MayBeFound old.moment.device id k ⊎ MayHaveCommitted (Ok (Some (command.Splitlvcopy made name copies))) answer old new id k

  module _ (core : Core) (left : ℕ) (mid : State) (on : old.session ≡ Some core) (drains : Drains core old left mid) (lv : ℕ) (its : IsNumberOf mid.core.descriptor.lvs name lv) where
    of_split : (k : Descriptor) → IsSplit lv made copies mid.core k → (c : Core) × (m : State) × WasDrained old c m × ((n : ℕ) × IsNumberOf c.descriptor.lvs name n × IsSplit n made copies m.core k)
    of_split k is = (core, mid, record { on = on; left = left; drains = drains }, (lv, subst (λ (d : Descriptor). IsNumberOf d.lvs name lv) (path_frames drains.runs).keeps.descriptor its, is))

    tried_split : (given : Result ℕ GroupFault) (over : Bool) → (answer ≡ reply.Ok) ⊎ IsBrokenOff answer → SplitlvcopyEnds lv made copies given over left mid old new → FoundBySplit
    tried_split given over tried done id k it = ⊎_elim
        (λ before. inl before)
        (λ next. inr (record { tried = tried; own = next.0; is = of_split k next.1 }))
        (done_finds run old new between named stood core left mid on drains done id k it)

    -- where it halted behind a status, no descriptor was written
    halted_split : (why : GroupFault) (end : State) → SplittingHalts lv made copies why mid end → StaysOn end old new → FoundBySplit
    halted_split why end halted stays id k it = inl (drained_nothing run old new between named stood core left mid on drains id k (⊎_elim
        (λ (before : MayBeFound mid.device id k). before)
        (λ next. absurd next.1)
        (halted.halts.finds (held_mid run old new between named stood core left mid on drains) id k (subst (λ (d : Device). MayBeFound d id k) stays.device it))))

    failed_split : (why : GroupFault) → answer ≡ reply.Refused (refusal_for why) → SplitlvcopyEnds lv made copies (Err why) (ends_session why) left mid old new → FoundBySplit
    failed_split fault.Dark says done id k it = tried_split (Err fault.Dark) _ (inr (subst IsBrokenOff (sym says) tt)) done id k it
    failed_split (fault.WentOff have total) says done id k it = tried_split (Err (fault.WentOff have total)) _ (inr (subst IsBrokenOff (sym says) tt)) done id k it
    failed_split fault.Stuck says done id k it = tried_split (Err fault.Stuck) _ (inr (subst IsBrokenOff (sym says) tt)) done id k it
    failed_split (fault.StaleCopy lp) says done id k it = ⊎_elim
        (λ refused. inl (idle_nothing run old new between named stood core left mid done.left on drains refused.0 done.leaves id k it))
        (λ halted. halted_split (fault.StaleCopy lp) done.left halted done.leaves id k it)
        done.gives
    failed_split (fault.LastFresh lp) says done id k it = ⊎_elim
        (λ refused. inl (idle_nothing run old new between named stood core left mid done.left on drains refused.0 done.leaves id k it))
        (λ halted. halted_split (fault.LastFresh lp) done.left halted done.leaves id k it)
        done.gives
    failed_split fault.Busy says done id k it = inl (idle_nothing run old new between named stood core left mid done.left on drains done.gives.0 done.leaves id k it)
    failed_split fault.NoVolume says done id k it = inl (idle_nothing run old new between named stood core left mid done.left on drains done.gives.0 done.leaves id k it)
    failed_split fault.VolumeExists says done id k it = inl (idle_nothing run old new between named stood core left mid done.left on drains done.gives.0 done.leaves id k it)
    failed_split (fault.CopyLimit now) says done id k it = inl (idle_nothing run old new between named stood core left mid done.left on drains done.gives.0 done.leaves id k it)
    failed_split (fault.TooMany limit) says done id k it = inl (idle_nothing run old new between named stood core left mid done.left on drains done.gives.0 done.leaves id k it)
    failed_split fault.HistoryFull says done id k it = inl (idle_nothing run old new between named stood core left mid done.left on drains done.gives.0 done.leaves id k it)
    failed_split fault.Memory says done id k it = inl (idle_nothing run old new between named stood core left mid done.left on drains done.gives.0 done.leaves id k it)
    failed_split _ says done id k it = absurd done.gives

  pub splitlvcopy_finds : SplitlvcopyDoes made name copies old new answer → FoundBySplit
  splitlvcopy_finds (NoGroupForSplitlvcopy none is) id k it = inl (same_nothing old.moment.device new.moment.device (ap (λ (s : ScriptState). s.moment.device) is.1) id k it)
  splitlvcopy_finds (BusySplitlvcopy busy is) id k it = inl (same_nothing old.moment.device new.moment.device (ap (λ (s : ScriptState). s.moment.device) is.1) id k it)
  splitlvcopy_finds (UndrainedSplitlvcopy core why some un) id k it = inl (undrained_nothing run old new between named stood core why answer some un id k it)
  splitlvcopy_finds (NoVolumeForSplitlvcopy core left mid some drains none stays last says) id k it = inl (idle_nothing run old new between named stood core left mid mid some drains refl stays id k it)
  splitlvcopy_finds (SplitsVolume core left mid lv number some drains its done is) id k it = tried_split core left mid some drains lv its (Ok number) false (inl is) done id k it
  splitlvcopy_finds (SplitlvcopyFails core left mid lv why some drains its done is) id k it = failed_split core left mid some drains lv its why is done id k it
