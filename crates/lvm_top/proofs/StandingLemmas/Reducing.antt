-- What is found after disks were to leave a group: what was found before, or a descriptor on the way.
use Rattle.std.proofs.Common.{◌≡◌, ◌⊎◌, inl, inr, ℕ, List, Bool, true, false, Option, IfSome, Some, Result, Ok, Err, refl, sym, ap, subst}
use Rattle.std.specs.Prelude.{IsSomeAnd}
use Rattle.lvm_num.specs.declared.descriptor.Descriptor.{Descriptor}
use Rattle.lvm_parse.specs.declared.command.Command.TheVariants as command
use Rattle.lvm_core.specs.Leaves.{MayBeFound}
use Rattle.lvm_session.specs.State.{Core, State}
use Rattle.lvm_line.specs.passed.MemberLines.{BusyReducevg, ends_session, IsReducedBy, NoGroupForReducevg, NoMemoryForReducevg, reduce_refusal, ReduceFault, ReduceGives, ReducesGroup, ReducevgDoes, ReducevgEnds, ReducevgFails, UndrainedReducevg}
use Rattle.lvm_line.specs.passed.ReduceFaultVariants as fault
use Rattle.lvm_line.specs.passed.GroupLines.{IsBetween, IsBrokenOff, OfGroup, ScriptState, Reply}
use Rattle.lvm_line.specs.passed.ReplyVariants as reply
use Rattle.lvm_line.specs.passed.VolumeLines.{Drains}
use Rattle.lvm_top.specs.Standing.{MayHaveCommitted, StoodBefore}
use Rattle.lvm_top.proofs.Devices.{same_nothing}
use Rattle.lvm_top.proofs.StandingLemmas.Changing.{tried_change}
use Rattle.lvm_top.proofs.StandingLemmas.Volumes.{idle_nothing, undrained_nothing}

-- it is of the same group
pub reduced_id : (disks : List ℕ) (d k : Descriptor) → IsReducedBy disks d k → k.id ≡ d.id
reduced_id disks d k its = ap (λ (g : Descriptor). g.id) its.is

-- nothing has happened where it is refused and the session goes on
reduce_refused : (disks : List ℕ) (patience : ℕ) (old new : State) (why : ReduceFault) → ends_session why ≡ false → ReduceGives disks patience old new (Err why) → new ≡ old
reduce_refused disks patience old new fault.Dark goes gives = absurd (cc (goes))
reduce_refused disks patience old new (fault.WentOff have total) goes gives = absurd (cc (goes))
reduce_refused disks patience old new fault.Stuck goes gives = absurd (cc (goes))
reduce_refused disks patience old new fault.Busy goes gives = gives.0
reduce_refused disks patience old new (fault.NoDisk disk) goes gives = gives.0
reduce_refused disks patience old new fault.LastDisk goes gives = gives.0
reduce_refused disks patience old new (fault.DiskInUse disk) goes gives = gives.0
reduce_refused disks patience old new (fault.NoQuorum have total) goes gives = gives.0
reduce_refused disks patience old new fault.HistoryFull goes gives = gives.0
reduce_refused disks patience old new fault.Memory goes gives = gives.0

-- one that ends the session is answered as broken off
reduce_broken : (why : ReduceFault) → ends_session why ≡ true → IsBrokenOff (reply.Refused (reduce_refusal why))
reduce_broken fault.Dark ends = tt
reduce_broken (fault.WentOff have total) ends = tt
reduce_broken fault.Stuck ends = tt
reduce_broken fault.Busy ends = absurd (cc (ends))
reduce_broken (fault.NoDisk disk) ends = absurd (cc (ends))
reduce_broken fault.LastDisk ends = absurd (cc (ends))
reduce_broken (fault.DiskInUse disk) ends = absurd (cc (ends))
reduce_broken (fault.NoQuorum have total) ends = absurd (cc (ends))
reduce_broken fault.HistoryFull ends = absurd (cc (ends))
reduce_broken fault.Memory ends = absurd (cc (ends))

module _ (run : ℕ) (old new : ScriptState) (between : IsBetween old.moment old.session old.posts) (named : IfSome old.session (λ core. core.history.run ≡ run)) (stood : StoodBefore run OfGroup old new)
    (answer : Reply) (name disks : List ℕ) where
  abbrev Found : Type 0
  Found = (id : ℕ) (k : Descriptor) → MayBeFound new.moment.device id k → MayBeFound old.moment.device id k ⊎ MayHaveCommitted (Ok (Some (command.Reducevg name disks))) answer old new id k

  tried : (core : Core) (left : ℕ) (mid : State) (given : Result (Unit {0}) ReduceFault) (over : Bool) → old.session ≡ Some core → Drains core old left mid → (answer ≡ reply.Ok) ⊎ IsBrokenOff answer → ReducevgEnds disks given over left mid old new → Found
  tried core left mid given over some drains was done = tried_change run old new between named stood answer (Ok (Some (command.Reducevg name disks))) (IsReducedBy disks) (λ k is. is) (λ tried. tried) core left mid some drains was done

  failed : (core : Core) (left : ℕ) (mid : State) (why : ReduceFault) (b : Bool) → ends_session why ≡ b → old.session ≡ Some core → Drains core old left mid → answer ≡ reply.Refused (reduce_refusal why) → ReducevgEnds disks (Err why) (ends_session why) left mid old new → Found
  failed core left mid why true ends some drains says done id k it = tried core left mid (Err why) (ends_session why) some drains (inr (subst IsBrokenOff (sym says) (reduce_broken why ends))) done id k it
  failed core left mid why false ends some drains says done id k it =
      let goes : ReducevgEnds disks (Err why) false left mid old new = subst (λ (over : Bool). ReducevgEnds disks (Err why) over left mid old new) ends done in
      inl (idle_nothing run old new between named stood core left mid goes.left some drains (reduce_refused disks left mid goes.left why ends goes.gives) goes.leaves id k it)

  pub reducevg_finds : ReducevgDoes name disks old new answer → Found
  reducevg_finds (NoGroupForReducevg none is) id k it = inl (same_nothing old.moment.device new.moment.device (ap (λ (s : ScriptState). s.moment.device) is.1) id k it)
  reducevg_finds (NoMemoryForReducevg some is) id k it = inl (same_nothing old.moment.device new.moment.device (ap (λ (s : ScriptState). s.moment.device) is.1) id k it)
  reducevg_finds (BusyReducevg mine busy is) id k it = inl (same_nothing old.moment.device new.moment.device (ap (λ (s : ScriptState). s.moment.device) is.1) id k it)
  reducevg_finds (UndrainedReducevg core why some mine un) id k it = inl (undrained_nothing run old new between named stood core why answer some un id k it)
  reducevg_finds (ReducesGroup core left mid some mine drains done says) id k it = tried core left mid (Ok tt) false some drains (inl says) done id k it
  reducevg_finds (ReducevgFails core left mid why some mine drains done says) id k it = failed core left mid why (ends_session why) refl some drains says done id k it
