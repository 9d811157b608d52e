-- What is found after a volume was to have more or fewer copies: what was found before, or what was to be committed.
use Rattle.std.proofs.Common.{◌≡◌, ◌⊎◌, inl, inr, ⊎_elim, ℕ, List, Bool, false, Option, Some, IfSome, Result, Ok, Err, refl, sym, ap, subst}
use Rattle.std.specs.Prelude.{IsSomeAnd}
use Rattle.lvm_num.specs.declared.descriptor.Descriptor.{Descriptor}
use Rattle.lvm_num.specs.declared.place.Pp.{Pp}
use Rattle.lvm_parse.specs.declared.command.Command.TheVariants as command
use Rattle.lvm_core.specs.Looking.{IsNumberOf}
use Rattle.lvm_core.specs.Leaves.{MayBeFound}
use Rattle.lvm_session.specs.State.{Core, State}
use Rattle.lvm_line.specs.passed.Volumes.{IsWithFirst, IsWithMore}
use Rattle.lvm_line.specs.passed.GroupLines.{IsBetween, IsBrokenOff, OfGroup, ScriptState, Reply}
use Rattle.lvm_line.specs.passed.ReplyVariants as reply
use Rattle.lvm_line.specs.passed.VolumeLines.{Drains, refusal_for, MklvcopyDoes, NoGroupForMklvcopy, BusyMklvcopy, UndrainedMklvcopy, NoVolumeForMklvcopy, AddsCopies, MklvcopyFails, MklvcopyEnds, RmlvcopyDoes, NoGroupForRmlvcopy, BusyRmlvcopy, UndrainedRmlvcopy, NoVolumeForRmlvcopy, RemovesCopies, RmlvcopyFails, RmlvcopyEnds}
use Rattle.lvm_line.proofs.passed.Tie.{path_frames}
use Rattle.lvm_top.specs.Standing.{MayHaveCommitted, StoodBefore, WasDrained}
use Rattle.lvm_top.proofs.Devices.{same_nothing}
use Rattle.lvm_top.proofs.StandingLemmas.Volumes.{done_finds, idle_nothing, undrained_nothing}
use Rattle.lvm_volume_plan.specs.declared.fault.GroupFault.{GroupFault}
use Rattle.lvm_volume_plan.specs.declared.fault.GroupFault.TheVariants as fault
use Rattle.lvm_volume_plan.specs.Faults.{ends_session}

-- ---- with other copies it is the same group

pub more_id : (lv copies : ℕ) (core : Core) (k : Descriptor) → IsWithMore lv copies core k → k.id ≡ core.descriptor.id
more_id lv copies core k (row, (pps, places, same)) = ap (λ (d : Descriptor). d.id) same

pub fewer_id : (lv copies : ℕ) (core : Core) (k : Descriptor) → IsWithFirst lv copies core k → k.id ≡ core.descriptor.id
fewer_id lv copies core k (row, found, same) = ap (λ (d : Descriptor). d.id) same

module _ (run : ℕ) (old new : ScriptState) (between : IsBetween old.moment old.session old.posts) (named : IfSome old.session (λ core. core.history.run ≡ run)) (stood : StoodBefore run OfGroup old new) (answer : Reply) (name : List ℕ) (copies : ℕ) where
  -- ---- `mklvcopy`

  abbrev FoundByMklvcopy : Type 0
  FoundByMklvcopy = (id : ℕ) (k : Descriptor) → MayBeFound new.moment.device id k → MayBeFound old.moment.device id k ⊎ MayHaveCommitted (Ok (Some (command.Mklvcopy name copies))) answer old new id k

  module _ (core : Core) (left : ℕ) (mid : State) (on : old.session ≡ Some core) (drains : Drains core old left mid) (lv : ℕ) (its : IsNumberOf mid.core.descriptor.lvs name lv) where
    with_more : (k : Descriptor) → IsWithMore lv copies mid.core k → (c : Core) × (m : State) × WasDrained old c m × ((n : ℕ) × IsNumberOf c.descriptor.lvs name n × IsWithMore n copies m.core k)
    with_more k is = (core, mid, record { on = on; left = left; drains = drains }, (lv, subst (λ (d : Descriptor). IsNumberOf d.lvs name lv) (path_frames drains.runs).keeps.descriptor its, is))

    tried_mklvcopy : (given : Result (List Pp) GroupFault) (over : Bool) → (answer ≡ reply.Ok) ⊎ IsBrokenOff answer → MklvcopyEnds lv copies given over left mid old new → FoundByMklvcopy
    tried_mklvcopy given over tried done id k it = ⊎_elim
        (λ before. inl before)
        (λ next. inr (record { tried = tried; own = next.0; is = with_more k next.1 }))
        (done_finds run old new between named stood core left mid on drains done id k it)

    failed_mklvcopy : (why : GroupFault) → answer ≡ reply.Refused (refusal_for why) → MklvcopyEnds lv copies (Err why) (ends_session why) left mid old new → FoundByMklvcopy
    failed_mklvcopy fault.Dark says done id k it = tried_mklvcopy (Err fault.Dark) _ (inr (subst IsBrokenOff (sym says) tt)) done id k it
    failed_mklvcopy (fault.WentOff have total) says done id k it = tried_mklvcopy (Err (fault.WentOff have total)) _ (inr (subst IsBrokenOff (sym says) tt)) done id k it
    failed_mklvcopy fault.Stuck says done id k it = tried_mklvcopy (Err fault.Stuck) _ (inr (subst IsBrokenOff (sym says) tt)) done id k it
    failed_mklvcopy fault.Busy says done id k it = inl (idle_nothing run old new between named stood core left mid done.left on drains done.gives.0 done.leaves id k it)
    failed_mklvcopy fault.NoVolume says done id k it = inl (idle_nothing run old new between named stood core left mid done.left on drains done.gives.0 done.leaves id k it)
    failed_mklvcopy (fault.CopyLimit now) says done id k it = inl (idle_nothing run old new between named stood core left mid done.left on drains done.gives.0 done.leaves id k it)
    failed_mklvcopy (fault.NoRoom free) says done id k it = inl (idle_nothing run old new between named stood core left mid done.left on drains done.gives.0 done.leaves id k it)
    failed_mklvcopy fault.HistoryFull says done id k it = inl (idle_nothing run old new between named stood core left mid done.left on drains done.gives.0 done.leaves id k it)
    failed_mklvcopy fault.Memory says done id k it = inl (idle_nothing run old new between named stood core left mid done.left on drains done.gives.0 done.leaves id k it)
    failed_mklvcopy _ says done id k it = absurd done.gives

  pub mklvcopy_finds : MklvcopyDoes name copies old new answer → FoundByMklvcopy
  mklvcopy_finds (NoGroupForMklvcopy none is) id k it = inl (same_nothing old.moment.device new.moment.device (ap (λ (s : ScriptState). s.moment.device) is.1) id k it)
  mklvcopy_finds (BusyMklvcopy busy is) id k it = inl (same_nothing old.moment.device new.moment.device (ap (λ (s : ScriptState). s.moment.device) is.1) id k it)
  mklvcopy_finds (UndrainedMklvcopy core why some un) id k it = inl (undrained_nothing run old new between named stood core why answer some un id k it)
  mklvcopy_finds (NoVolumeForMklvcopy core left mid some drains none stays last says) id k it = inl (idle_nothing run old new between named stood core left mid mid some drains refl stays id k it)
  mklvcopy_finds (AddsCopies core left mid lv added some drains its done is) id k it = tried_mklvcopy core left mid some drains lv its (Ok added) false (inl is) done id k it
  mklvcopy_finds (MklvcopyFails core left mid lv why some drains its done is) id k it = failed_mklvcopy core left mid some drains lv its why is done id k it

  -- ---- `rmlvcopy`

  abbrev FoundByRmlvcopy : Type 0
  FoundByRmlvcopy = (id : ℕ) (k : Descriptor) → MayBeFound new.moment.device id k → MayBeFound old.moment.device id k ⊎ MayHaveCommitted (Ok (Some (command.Rmlvcopy name copies))) answer old new id k

  module _ (core : Core) (left : ℕ) (mid : State) (on : old.session ≡ Some core) (drains : Drains core old left mid) (lv : ℕ) (its : IsNumberOf mid.core.descriptor.lvs name lv) where
    with_fewer : (k : Descriptor) → IsWithFirst lv copies mid.core k → IsSomeAnd old.session (λ c. (n : ℕ) × IsNumberOf c.descriptor.lvs name n × IsWithFirst n copies c k)
    with_fewer k is = subst (λ (o : Option Core). IsSomeAnd o (λ c. (n : ℕ) × IsNumberOf c.descriptor.lvs name n × IsWithFirst n copies c k)) (sym on)
        (subst (λ (d : Descriptor). (n : ℕ) × IsNumberOf d.lvs name n × IsWithFirst n copies (record core { descriptor = d }) k) (path_frames drains.runs).keeps.descriptor (lv, its, is))

    tried_rmlvcopy : (given : Result (Unit {0}) GroupFault) (over : Bool) → (answer ≡ reply.Ok) ⊎ IsBrokenOff answer → RmlvcopyEnds lv copies given over left mid old new → FoundByRmlvcopy
    tried_rmlvcopy given over tried done id k it = ⊎_elim
        (λ before. inl before)
        (λ next. inr (record { tried = tried; own = next.0; is = with_fewer k next.1 }))
        (done_finds run old new between named stood core left mid on drains done id k it)

    failed_rmlvcopy : (why : GroupFault) → answer ≡ reply.Refused (refusal_for why) → RmlvcopyEnds lv copies (Err why) (ends_session why) left mid old new → FoundByRmlvcopy
    failed_rmlvcopy fault.Dark says done id k it = tried_rmlvcopy (Err fault.Dark) _ (inr (subst IsBrokenOff (sym says) tt)) done id k it
    failed_rmlvcopy (fault.WentOff have total) says done id k it = tried_rmlvcopy (Err (fault.WentOff have total)) _ (inr (subst IsBrokenOff (sym says) tt)) done id k it
    failed_rmlvcopy fault.Stuck says done id k it = tried_rmlvcopy (Err fault.Stuck) _ (inr (subst IsBrokenOff (sym says) tt)) done id k it
    failed_rmlvcopy fault.Busy says done id k it = inl (idle_nothing run old new between named stood core left mid done.left on drains done.gives.0 done.leaves id k it)
    failed_rmlvcopy fault.NoVolume says done id k it = inl (idle_nothing run old new between named stood core left mid done.left on drains done.gives.0 done.leaves id k it)
    failed_rmlvcopy (fault.CopyLimit now) says done id k it = inl (idle_nothing run old new between named stood core left mid done.left on drains done.gives.0 done.leaves id k it)
    failed_rmlvcopy (fault.LastFresh lp) says done id k it = inl (idle_nothing run old new between named stood core left mid done.left on drains done.gives.0 done.leaves id k it)
    failed_rmlvcopy fault.HistoryFull says done id k it = inl (idle_nothing run old new between named stood core left mid done.left on drains done.gives.0 done.leaves id k it)
    failed_rmlvcopy fault.Memory says done id k it = inl (idle_nothing run old new between named stood core left mid done.left on drains done.gives.0 done.leaves id k it)
    failed_rmlvcopy _ says done id k it = absurd done.gives

  pub rmlvcopy_finds : RmlvcopyDoes name copies old new answer → FoundByRmlvcopy
  rmlvcopy_finds (NoGroupForRmlvcopy none is) id k it = inl (same_nothing old.moment.device new.moment.device (ap (λ (s : ScriptState). s.moment.device) is.1) id k it)
  rmlvcopy_finds (BusyRmlvcopy busy is) id k it = inl (same_nothing old.moment.device new.moment.device (ap (λ (s : ScriptState). s.moment.device) is.1) id k it)
  rmlvcopy_finds (UndrainedRmlvcopy core why some un) id k it = inl (undrained_nothing run old new between named stood core why answer some un id k it)
  rmlvcopy_finds (NoVolumeForRmlvcopy core left mid some drains none stays last says) id k it = inl (idle_nothing run old new between named stood core left mid mid some drains refl stays id k it)
  rmlvcopy_finds (RemovesCopies core left mid lv some drains its done is) id k it = tried_rmlvcopy core left mid some drains lv its (Ok tt) false (inl is) done id k it
  rmlvcopy_finds (RmlvcopyFails core left mid lv why some drains its done is) id k it = failed_rmlvcopy core left mid some drains lv its why is done id k it
