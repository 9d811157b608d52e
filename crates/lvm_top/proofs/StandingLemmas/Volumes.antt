-- What is found after a volume was to be made or removed: what was found before, or what was to be committed.
use Rattle.std.proofs.Common.{◌≡◌, ◌⊎◌, inl, inr, ⊎_elim, ℕ, [], ◌∷◌, ◌++◌, List, Bool, false, Option, Some, IfSome, Result, Ok, Err, refl, sym, ap, subst, ◌∙◌}
use Rattle.std.specs.Prelude.{IsSome, IsSomeAnd}
use Rattle.lvm_num.specs.Votes.{all_disks}
use Rattle.lvm_disk.specs.Device.{Media, image_of}
use Rattle.lvm_steps.proofs.MakingLemmas.Making.{media_may}
use Rattle.lvm_write.proofs.WrittenLemmas.Writing.{told_at}
use Rattle.lvm_commit.specs.Committed.{HoldsCommitted}
use Rattle.lvm_num.specs.declared.descriptor.Descriptor.{Descriptor}
use Rattle.lvm_num.specs.declared.descriptor.LvRow.{LvRow}
use Rattle.lvm_num.specs.declared.descriptor.Mode.{Mode}
use Rattle.lvm_num.specs.declared.descriptor.Policy.{Policy}
use Rattle.lvm_num.proofs.Lists.{some_told}
use Rattle.lvm_parse.specs.declared.command.Command.{Command}
use Rattle.lvm_parse.specs.declared.command.Command.TheVariants as command
use Rattle.lvm_parse.specs.declared.rest.Misfit.{Misfit}
use Rattle.lvm_parse.specs.Grammar.{line_of}
use Rattle.lvm_vol.specs.Facts.{Fact}
use Rattle.lvm_vol.specs.Log.{Log}
use Rattle.lvm_steps.specs.Moments.{RunBegins}
use Rattle.lvm_core.specs.declared.fault.CommitFault.{CommitFault}
use Rattle.lvm_core.specs.declared.parts.Room.{Room}
use Rattle.lvm_core.specs.Held.{IsHeld}
use Rattle.lvm_core.specs.Looking.{IsNumberOf}
use Rattle.lvm_core.specs.Leaves.{MayBeFound, Scope}
use Rattle.lvm_session.specs.Sound.{IsSound}
use Rattle.lvm_session.specs.State.{Core, State, is_there, state}
use Rattle.lvm_line.specs.passed.Tie.{IsGood, IsTied, StaysGood}
use Rattle.lvm_line.proofs.passed.TieCommands.{tied_holds, rests}
use Rattle.lvm_line.specs.passed.TieCommands.{StandsAfter}
use Rattle.lvm_line.specs.passed.GroupLines.{IsBetween, IsBrokenOff, IsOnBetween, OfGroup, ScriptState, StandsAlone, Reply}
use Rattle.lvm_line.specs.passed.VolumeLines.{Drains, IsDone, IsUndrained, StaysOn, MklvDoes, RmlvDoes, NoGroupForMklv, BusyMklv, UndrainedMklv, MakesVolume, MklvFails, NoGroupForRmlv, BusyRmlv, UndrainedRmlv, NoVolumeForRmlv, RemovesVolume, RmlvFails, MklvEnds, RmlvEnds, refusal_for, wanted}
use Rattle.lvm_line.specs.passed.ReplyVariants as reply
use Rattle.lvm_line.specs.Lines.{IsLine, LineDoes}
use Rattle.lvm_line.proofs.passed.Tie.{goes_any, going_leaves, path_frames}
use Rattle.lvm_top.specs.Standing.{MayHaveCommitted, StoodBefore, HeldAtRest, StandsSince}
use Rattle.lvm_top.proofs.Devices.{NothingNew, then_nothing, same_nothing}
use Rattle.lvm_top.proofs.LeavesLemmas.Quiet.{runs_nothing}
use Rattle.lvm_top.proofs.LeavesLemmas.Transfers.{relit_nothing}
use Rattle.lvm_volume_plan.specs.declared.fault.GroupFault.{GroupFault}
use Rattle.lvm_volume_plan.specs.declared.fault.GroupFault.TheVariants as fault
use Rattle.lvm_volume_plan.specs.NewVolume.{without_volume}
use Rattle.lvm_volume_plan.specs.Faults.{ends_session}

module _ (run : ℕ) (old new : ScriptState) (between : IsBetween old.moment old.session old.posts) (named : IfSome old.session (λ core. core.history.run ≡ run)) (stood : StoodBefore run OfGroup old new) where
  of_session : (P : Core → Type 0) (core : Core) → old.session ≡ Some core → IfSome old.session P → P core
  of_session P core some holds = subst (λ (o : Option Core). IfSome o P) some holds

  was_sound : (core : Core) → old.session ≡ Some core → IsSound (state old.moment.device core)
  was_sound core some = (of_session (IsOnBetween old.moment.device) core some between.session).sound

  -- ---- before the command

  -- turns make nothing found
  pub drained_nothing : (core : Core) (left : ℕ) (mid : State) → old.session ≡ Some core → Drains core old left mid → NothingNew old.moment.device mid.device
  drained_nothing core left mid some drains = runs_nothing (state old.moment.device core) mid (was_sound core some) between.descriptors drains.runs

  -- after them the disks hold what the session says, and are told where they were
  pub held_so : (core : Core) (left : ℕ) (mid : State) → old.session ≡ Some core → Drains core old left mid → IsHeld mid.device mid.core × (IsSome old.moment.device.media → IsSome mid.device.media)
  held_so core left mid some drains = by_stood stood
    where
      same_told : mid ≡ state old.moment.device core → IsSome old.moment.device.media → IsSome mid.device.media
      same_told same told = subst (λ (s : State). IsSome s.device.media) (sym same) told

      by_stood : StoodBefore run OfGroup old new → IsHeld mid.device mid.core × (IsSome old.moment.device.media → IsSome mid.device.media)
      by_stood (HeldAtRest rest held) = (subst (λ (s : State). IsHeld s.device s.core) (sym (drains.still rest)) (of_session (IsHeld old.moment.device) core some held), same_told (drains.still rest))
      by_stood (StandsSince past first stands begins alone) = by_volumes core.descriptor.lvs refl
        where
          after : (before : List Fact) → RunBegins run before first → StandsAfter before old.moment.device core
          after before begun = of_session (λ (c : Core). StandsAlone old.moment.device c → StandsAfter before old.moment.device c) core some (stands before begun) (of_session (StandsAlone old.moment.device) core some (alone.acts tt))

          stays_good : StaysGood (state old.moment.device core) mid
          stays_good = (going_leaves (state old.moment.device core) mid (was_sound core some) (goes_any drains.runs)).1

          good : IsGood core.history.run first (state old.moment.device core) → IsTied past mid
          good tied = (stays_good.good first tied).0 drains.settled.power past (subst (λ (n : ℕ). RunBegins n past first) (sym (of_session (λ (c : Core). c.history.run ≡ run) core some named)) begins)

          by_volumes : (lvs : List LvRow) → core.descriptor.lvs ≡ lvs → IsHeld mid.device mid.core × (IsSome old.moment.device.media → IsSome mid.device.media)
          by_volumes [] none = (subst (λ (s : State). IsHeld s.device s.core) (sym (drains.empty none)) ((after past begins).empty none).held, same_told (drains.empty none))
          by_volumes (row ∷ rows) has =
              let some_volume : core.descriptor.lvs ≡ [] → ⊥ = λ none. let e = sym has ∙ none in cc e in
              let tied : IsTied past mid = good (λ on before begun. (after before (subst (λ (n : ℕ). RunBegins n before first) (of_session (λ (c : Core). c.history.run ≡ run) core some named) begun)).tied some_volume) in (
                tied_holds past mid tied (rests mid tied.orderly.sound drains.settled) drains.settled.votes ((stays_good.descriptors between.descriptors).spares ((after past begins).spares some_volume)),
                λ told. subst IsSome (sym tied.setting.told) refl,
              )

  pub held_mid : (core : Core) (left : ℕ) (mid : State) → old.session ≡ Some core → Drains core old left mid → IsHeld mid.device mid.core
  held_mid core left mid some drains = (held_so core left mid some drains).0

  -- so the group of the session was found before
  pub found_before : IsSome old.moment.device.media → (core : Core) (left : ℕ) (mid : State) → old.session ≡ Some core → Drains core old left mid → MayBeFound old.moment.device core.descriptor.id core.descriptor
  found_before told core left mid some drains =
      let so = held_so core left mid some drains in
      let m = some_told mid.device.media (so.1 told) in
      let shown = told_at mid.device.media (λ (x : Media). HoldsCommitted (image_of mid.device.sizes x) mid.core.descriptor mid.core.status.committed (is_there mid.core) mid.core.status.stamp mid.core.homes) m.0 m.1 so.0 in
      let found : MayBeFound mid.device mid.core.descriptor.id mid.core.descriptor = (image_of mid.device.sizes m.0, media_may mid.device m.0 m.1, (all_disks, shown.shows.found)) in
      drained_nothing core left mid some drains core.descriptor.id core.descriptor (subst (λ (d : Descriptor). MayBeFound mid.device d.id d) (path_frames drains.runs).keeps.descriptor found)

  -- where the turns end otherwise
  pub undrained_nothing : (core : Core) (why : CommitFault) (answer : Reply) → old.session ≡ Some core → IsUndrained core old new why answer → NothingNew old.moment.device new.moment.device
  undrained_nothing core why answer some un =
      then_nothing old.moment.device un.end.device new.moment.device (runs_nothing (state old.moment.device core) un.end (was_sound core some) between.descriptors un.runs) (relit_nothing un.end.device new.moment.device un.over.lit)

  -- ---- the command

  -- what it finds, whatever became of it
  pub done_finds : {Gives : State → State → Type 0} {scope : Core → Scope} {over : Bool} (core : Core) (left : ℕ) (mid : State) → old.session ≡ Some core → Drains core old left mid → IsDone Gives scope over mid old new
      → (id : ℕ) (k : Descriptor) → MayBeFound new.moment.device id k → MayBeFound old.moment.device id k ⊎ ((id ≡ k.id) × (scope mid.core).next k)
  done_finds core left mid some drains done id k it = ⊎_elim
      (λ before. inl (drained_nothing core left mid some drains id k before))
      (λ next. inr next)
      (done.finds (held_mid core left mid some drains) id k it)

  -- where a session goes on at which nothing has happened
  pub idle_nothing : (core : Core) (left : ℕ) (mid end : State) → old.session ≡ Some core → Drains core old left mid → end ≡ mid → StaysOn end old new → NothingNew old.moment.device new.moment.device
  idle_nothing core left mid end some drains same stays =
      then_nothing old.moment.device mid.device new.moment.device (drained_nothing core left mid some drains) (same_nothing mid.device new.moment.device (stays.device ∙ ap (λ (s : State). s.device) same))

  module _ (answer : Reply) where
    -- ---- `mklv`

    module _ (name : List ℕ) (copies : ℕ) (mode : Mode) (policy : Policy) (group : List ℕ) (lps : ℕ) where
      abbrev FoundByMklv : Type 0
      FoundByMklv = (id : ℕ) (k : Descriptor) → MayBeFound new.moment.device id k → MayBeFound old.moment.device id k ⊎ MayHaveCommitted (Ok (Some (command.Mklv name copies mode policy group lps))) answer old new id k

      module _ (core : Core) (left : ℕ) (mid : State) (on : old.session ≡ Some core) (drains : Drains core old left mid) where
        tried_mklv : (given : Result ℕ GroupFault) (over : Bool) → (answer ≡ reply.Ok) ⊎ IsBrokenOff answer → MklvEnds (wanted name copies mode policy lps) given over left mid old new → FoundByMklv
        tried_mklv given over tried done id k it = ⊎_elim
            (λ before. inl before)
            (λ next. inr (record { tried = tried; own = next.0; is = (core, mid, record { on = on; left = left; drains = drains }, next.1) }))
            (done_finds core left mid on drains done id k it)

        failed_mklv : (why : GroupFault) → answer ≡ reply.Refused (refusal_for why) → MklvEnds (wanted name copies mode policy lps) (Err why) (ends_session why) left mid old new → FoundByMklv
        failed_mklv fault.Dark says done id k it = tried_mklv (Err fault.Dark) _ (inr (subst IsBrokenOff (sym says) tt)) done id k it
        failed_mklv (fault.WentOff have total) says done id k it = tried_mklv (Err (fault.WentOff have total)) _ (inr (subst IsBrokenOff (sym says) tt)) done id k it
        failed_mklv fault.Stuck says done id k it = tried_mklv (Err fault.Stuck) _ (inr (subst IsBrokenOff (sym says) tt)) done id k it
        failed_mklv (fault.DiskFailed disk) says done id k it = tried_mklv (Err (fault.DiskFailed disk)) _ (inr (subst IsBrokenOff (sym says) tt)) done id k it
        failed_mklv fault.NoVolume says done id k it = absurd done.gives
        failed_mklv (fault.StaleCopy lp) says done id k it = absurd done.gives
        failed_mklv (fault.LastFresh lp) says done id k it = absurd done.gives
        failed_mklv _ says done id k it = inl (idle_nothing core left mid done.left on drains done.gives.0 done.leaves id k it)

      pub mklv_finds : MklvDoes (wanted name copies mode policy lps) group old new answer → FoundByMklv
      mklv_finds (NoGroupForMklv none is) id k it = inl (same_nothing old.moment.device new.moment.device (ap (λ (s : ScriptState). s.moment.device) is.1) id k it)
      mklv_finds (BusyMklv on busy is) id k it = inl (same_nothing old.moment.device new.moment.device (ap (λ (s : ScriptState). s.moment.device) is.1) id k it)
      mklv_finds (UndrainedMklv core why some on un) id k it = inl (undrained_nothing core why answer some un id k it)
      mklv_finds (MakesVolume core left mid number some on drains done is) id k it = tried_mklv core left mid some drains (Ok number) false (inl is) done id k it
      mklv_finds (MklvFails core left mid why some on drains done is) id k it = failed_mklv core left mid some drains why is done id k it

    -- ---- `rmlv`

    module _ (name : List ℕ) where
      abbrev FoundByRmlv : Type 0
      FoundByRmlv = (id : ℕ) (k : Descriptor) → MayBeFound new.moment.device id k → MayBeFound old.moment.device id k ⊎ MayHaveCommitted (Ok (Some (command.Rmlv name))) answer old new id k

      module _ (core : Core) (left : ℕ) (mid : State) (on : old.session ≡ Some core) (drains : Drains core old left mid) (lv : ℕ) (its : IsNumberOf mid.core.descriptor.lvs name lv) where
        -- the volume's number is that of the name
        without : (k : Descriptor) → k ≡ without_volume mid.core.descriptor lv → IsSomeAnd old.session (λ c. (n : ℕ) × IsNumberOf c.descriptor.lvs name n × (k ≡ without_volume c.descriptor n))
        without k is = subst (λ (o : Option Core). IsSomeAnd o (λ c. (n : ℕ) × IsNumberOf c.descriptor.lvs name n × (k ≡ without_volume c.descriptor n))) (sym on)
            (subst (λ (d : Descriptor). (n : ℕ) × IsNumberOf d.lvs name n × (k ≡ without_volume d n)) (path_frames drains.runs).keeps.descriptor (lv, its, is))

        tried_rmlv : (given : Result (Unit {0}) GroupFault) (over : Bool) → (answer ≡ reply.Ok) ⊎ IsBrokenOff answer → RmlvEnds lv given over left mid old new → FoundByRmlv
        tried_rmlv given over tried done id k it = ⊎_elim
            (λ before. inl before)
            (λ next. inr (record { tried = tried; own = next.0; is = without k next.1 }))
            (done_finds core left mid on drains done id k it)

        failed_rmlv : (why : GroupFault) → answer ≡ reply.Refused (refusal_for why) → RmlvEnds lv (Err why) (ends_session why) left mid old new → FoundByRmlv
        failed_rmlv fault.Dark says done id k it = tried_rmlv (Err fault.Dark) _ (inr (subst IsBrokenOff (sym says) tt)) done id k it
        failed_rmlv (fault.WentOff have total) says done id k it = tried_rmlv (Err (fault.WentOff have total)) _ (inr (subst IsBrokenOff (sym says) tt)) done id k it
        failed_rmlv fault.Stuck says done id k it = tried_rmlv (Err fault.Stuck) _ (inr (subst IsBrokenOff (sym says) tt)) done id k it
        failed_rmlv fault.Busy says done id k it = inl (idle_nothing core left mid done.left on drains done.gives.0 done.leaves id k it)
        failed_rmlv fault.NoVolume says done id k it = inl (idle_nothing core left mid done.left on drains done.gives.0 done.leaves id k it)
        failed_rmlv fault.HistoryFull says done id k it = inl (idle_nothing core left mid done.left on drains done.gives.0 done.leaves id k it)
        failed_rmlv fault.Memory says done id k it = inl (idle_nothing core left mid done.left on drains done.gives.0 done.leaves id k it)
        failed_rmlv _ says done id k it = absurd done.gives

      pub rmlv_finds : RmlvDoes name old new answer → FoundByRmlv
      rmlv_finds (NoGroupForRmlv none is) id k it = inl (same_nothing old.moment.device new.moment.device (ap (λ (s : ScriptState). s.moment.device) is.1) id k it)
      rmlv_finds (BusyRmlv busy is) id k it = inl (same_nothing old.moment.device new.moment.device (ap (λ (s : ScriptState). s.moment.device) is.1) id k it)
      rmlv_finds (UndrainedRmlv core why some un) id k it = inl (undrained_nothing core why answer some un id k it)
      rmlv_finds (NoVolumeForRmlv core left mid some drains none stays last says) id k it = inl (idle_nothing core left mid mid some drains refl stays id k it)
      rmlv_finds (RemovesVolume core left mid lv some drains its done is) id k it = tried_rmlv core left mid some drains lv its (Ok tt) false (inl is) done id k it
      rmlv_finds (RmlvFails core left mid lv why some drains its done is) id k it = failed_rmlv core left mid some drains lv its why is done id k it

-- ---- a `mklv` that was done

not_empty : {X : Type 0} (xs : List X) (y : X) (ys : List X) → xs ++ y ∷ ys ≡ [] → ⊥
not_empty [] y ys none = cc none
not_empty (x ∷ xs) y ys none = cc none

-- it leaves a session on whose group has a volume
pub mklv_serves : (log : Log) (room : Room) (line : List ℕ) (old new : ScriptState) (name : List ℕ) (copies : ℕ) (mode : Mode) (policy : Policy) (group : List ℕ) (lps : ℕ)
    → line_of line ≡ Ok (Some (command.Mklv name copies mode policy group lps)) → IsLine log room line reply.Ok old new → (core : Core) × (new.session ≡ Some core) × (core.descriptor.lvs ≡ [] → ⊥)
mklv_serves log room line old new name copies mode policy group lps reads it = by (subst (λ (read : Result (Option Command) Misfit). LineDoes log room read old new reply.Ok) reads it.does)
  where
    by : MklvDoes (wanted name copies mode policy lps) group old new reply.Ok → (core : Core) × (new.session ≡ Some core) × (core.descriptor.lvs ≡ [] → ⊥)
    by (NoGroupForMklv none is) = absurd (let e = is.0 in cc (e))
    by (BusyMklv on busy is) = absurd (let e = is.0 in cc (e))
    by (UndrainedMklv core why some on un) = absurd (let e = un.says in cc (e))
    by (MakesVolume core left mid number some on drains done says) =
        let with = ap (λ (c : Core). c.descriptor.lvs) done.leaves.is ∙ ap (λ (c : Core). c.descriptor.lvs) done.gives.is in
        (done.leaves.core, done.leaves.session, λ none. not_empty _ _ _ (sym with ∙ none))
    by (MklvFails core left mid why some on drains done says) = absurd (cc (says))
