-- Lines without a `mkvg -f` leave one group, where there was one.
use Rattle.std.proofs.Common.{◌≡◌, ◌⊎◌, inl, inr, ⊎_elim, ℕ, ◌∷◌, ◌++◌, [], List, Bool, true, false, Option, Some, None, Result, Ok, Err, count_by, refl, sym, ap, subst, ◌∙◌, ◌≤◌, length, arith}
use Rattle.std.specs.Prelude.{IsSome, IfSome}
use Rattle.lvm_num.specs.declared.descriptor.Descriptor.{Descriptor}
use Rattle.lvm_num.specs.Disks.{Disks}
use Rattle.lvm_num.specs.Record.{Stamped}
use Rattle.lvm_num.proofs.RecordLemmas.Newest.{is_one}
use Rattle.lvm_disk.specs.Device.{Media, Device, image_of, MayLeave}
use Rattle.lvm_vol.specs.Facts.{Fact, Cut}
use Rattle.lvm_vol.specs.Log.{Log}
use Rattle.lvm_parse.specs.declared.command.Command.{Command}
use Rattle.lvm_parse.specs.declared.command.Command.TheVariants as command
use Rattle.lvm_parse.specs.declared.rest.Misfit.{Misfit}
use Rattle.lvm_parse.specs.Grammar.{line_of}
use Rattle.lvm_kept.specs.Contents.{Contents, contents_of}
use Rattle.lvm_kept.specs.Group.{is_of, descriptor_among, Finds}
use Rattle.lvm_kept.proofs.ChangesLemmas.Blank.{no_descriptor}
use Rattle.lvm_kept.proofs.MomentsLemmas.Chaining.{span_sizes}
use Rattle.lvm_kept.proofs.CommittedLemmas.Finding.{offered, is_offered}
use Rattle.lvm_write.specs.Beginning.{new_order}
use Rattle.lvm_commit.specs.LawsOfVolumes.{IsOneFoundOn}
use Rattle.lvm_commit.proofs.LawsOfFindingLemmas.NoMore.{data_finds_nothing_new}
use Rattle.lvm_commit.proofs.LawsOfDataLemmas.Still.{still_image}
use Rattle.lvm_core.specs.declared.parts.Room.{Room}
use Rattle.lvm_core.specs.declared.refused.Cause.{Cause}
use Rattle.lvm_core.specs.declared.refused.Cause.TheVariants as cause
use Rattle.lvm_core.specs.declared.refused.Refused.{Refused}
use Rattle.lvm_session.specs.State.{Core, State}
use Rattle.lvm_line.specs.passed.Quiesce.{MkvgOnceQuiet, RefusedAtOnce, StayedOut, WentQuiet}
use Rattle.lvm_kept.specs.Moments.{Moment}
use Rattle.lvm_core.specs.Leaves.{EntersVolumes, Scope, is_of_volume, MayBeFound}
use Rattle.lvm_volume_plan.specs.declared.new_volume.NewVolume.{NewVolume}
use Rattle.lvm_line.specs.passed.Group.{NewGroup, new_group, MkvgRefuses, IfShown, HasGroup}
use Rattle.lvm_line.specs.passed.GroupLines.{IsBetween, patience_of_line, Asks, IsAlone, OfGroup, OfRequests, Role, IsStuck, ScriptState, IsTimely, StandsAlone, log_with, Reply, IsLeftByCall, MkvgDoes, NoMemoryForLine, NoMkvgWhileOn, Makes, asked_for, itself, outcome_of}
use Rattle.lvm_line.specs.Lines.{LineDoes, role_of}
use Rattle.lvm_line.specs.passed.Members.{IsNext, as_big, with_quorum}
use Rattle.lvm_line.specs.passed.VolumeLines.{BecomesBig, BusyChvgBig, BusyChvgQuorum, ChvgBigDoes, ChvgBigFails, ChvgQuorumDoes, ChvgQuorumFails, IsChangeDone, NoGroupForChvgBig, NoGroupForChvgQuorum, SwitchesQuorum, UndrainedChvgBig, UndrainedChvgQuorum}
use Rattle.lvm_line.specs.passed.VolumeLines.{Drains, IsDone, MklvDoes, RmlvDoes, NoGroupForMklv, BusyMklv, UndrainedMklv, MakesVolume, MklvFails, NoGroupForRmlv, BusyRmlv, UndrainedRmlv, NoVolumeForRmlv, RemovesVolume, RmlvFails, wanted, MklvcopyDoes, NoGroupForMklvcopy, BusyMklvcopy, UndrainedMklvcopy, NoVolumeForMklvcopy, AddsCopies, MklvcopyFails, RmlvcopyDoes, NoGroupForRmlvcopy, BusyRmlvcopy, UndrainedRmlvcopy, NoVolumeForRmlvcopy, RemovesCopies, RmlvcopyFails, SplitlvcopyDoes, NoGroupForSplitlvcopy, BusySplitlvcopy, UndrainedSplitlvcopy, NoVolumeForSplitlvcopy, SplitsVolume, SplitlvcopyFails}
use Rattle.lvm_line.proofs.passed.Tie.{path_frames}
use Rattle.lvm_top.specs.Script.{Script, NoLine, NextLine, StaysAlone, Ends, AtLine, InLine, EndsAlone, EndsHeard, entry_state, empty_log, facts_of}
use Rattle.lvm_top.specs.Run.{exit_state}
use Rattle.lvm_top.proofs.ScriptLemmas.Concluding.{how_ended, stuck_ends, stuck_still}
use Rattle.lvm_top.proofs.LeavesLemmas.Quiet.{lit_nothing, quiet_nothing, stays_nothing}
use Rattle.lvm_top.proofs.StandingLemmas.Volumes.{done_finds, found_before, idle_nothing, undrained_nothing}
use Rattle.lvm_top.proofs.StandingLemmas.Copying.{fewer_id, more_id}
use Rattle.lvm_top.proofs.StandingLemmas.Splitting.{split_id}
use Rattle.lvm_line.specs.passed.MemberLines.{BusyReducevg, IsReducedBy, NoGroupForReducevg, NoMemoryForReducevg, ReducesGroup, ReducevgDoes, ReducevgFails, UndrainedReducevg}
use Rattle.lvm_top.proofs.StandingLemmas.Reducing.{reduced_id}
use Rattle.lvm_top.proofs.StandingLemmas.Changing.{change_finds}
use Rattle.lvm_top.proofs.StandingLemmas.Moving.{found_first, migrated_finds, own_moved}
use Rattle.lvm_line.specs.passed.MoveLines.{MigratepvDoes, MovesCopies, NoGroupForMoves, NotAskedForMoves, NothingMoves}
use Rattle.lvm_top.proofs.ScriptLemmas.Scripting.{script_went}
use Rattle.lvm_top.specs.Laws.{MayRun}
use Rattle.lvm_top.specs.Plain.{FindsOneGroup}
use Rattle.lvm_top.specs.OneGroup.{IsUnforced, AreUnforced, EndsUnforced, UnforcedStaysAlone, UnforcedRunsAlone, BlankFindsOneGroup}
use Rattle.lvm_top.specs.Standing.{MayHaveCommitted, MayMoveCopies, StandsForMoves, StoodBefore}
use Rattle.lvm_top.proofs.Begun.{IsIts}
use Rattle.lvm_top.proofs.Devices.{IsShelf, NothingNew, then_nothing, same_nothing, unwritten_nothing}
use Rattle.lvm_top.proofs.StandingLemmas.Groups.{asked, asked_nothing, not_stuck}
use Rattle.lvm_top.proofs.LawsLemmas.Lines.{by_reading}
use Rattle.lvm_top.proofs.NewGroupLemmas.{parts_find, refused_finds}
use Rattle.lvm_top.proofs.LawsLemmas.Scripts.{last_told, may_move, run_may_start, stood, went_so}

-- ---- what is found is shown

shows : (c : Contents) (disks : Disks) (id : ℕ) (k : Descriptor) → Finds c disks id k → (d : ℕ) × (r : Stamped Descriptor) × (c.descriptor d ≡ Some r)
unfolding descriptor_among
shows c disks id k f =
    let one = is_one Descriptor (offered (is_of id) c.descriptor disks) c.disks f.newest f.found in
    (one.0, f.newest, (is_offered (is_of id) c.descriptor disks one.0 f.newest one.2).0)

-- whatever any disks find is of one group
one_found : (device : Device) → FindsOneGroup device → IsOneFoundOn device
one_found device one image may v w g h of_v of_w = one v w g h (image, may, of_v) (image, may, of_w)

-- ---- each group that may be found might be found before

abbrev NoNewGroup : Device → Device → Type 0
NoNewGroup old new = (id : ℕ) (k : Descriptor) → MayBeFound new id k → (g : Descriptor) × MayBeFound old id g

no_new_one : (old new : Device) → NoNewGroup old new → FindsOneGroup old → FindsOneGroup new
no_new_one old new none one v w g h is also = let a = none v g is in let b = none w h also in one v w a.0 b.0 a.1 b.1

nothing_one : (old new : Device) → NothingNew old new → FindsOneGroup old → FindsOneGroup new
nothing_one old new none one v w g h is also = one v w g h (none v g is) (none w h also)

-- ---- a group is made where no disk shows one

none_found : (device : Device) → device.flights ≡ [] → IfShown device (λ c. HasGroup c false → ⊥) → (id : ℕ) (k : Descriptor) → MayBeFound device id k → ⊥
none_found device still free id k it = by_media device.media refl free it.1
  where
    by_media : (o : Option Media) → device.media ≡ o → IfSome o (λ media. HasGroup (contents_of (image_of device.sizes media)) false → ⊥) → MayLeave (record device { media = o }) it.0 → ⊥
    by_media None none free left = left
    by_media (Some m) told free left =
        let found = data_finds_nothing_new (image_of device.sizes m) it.0 (still_image device m told still it.0 it.1) id k it.2 in
        let shown = shows (contents_of (image_of device.sizes m)) found.0 id k found.1 in
        free (record { disk = shown.0; newest = shown.1; on = shown.2; with_force = λ force. absurd cc })

-- ---- a refused making

module _ (w : NewGroup) (old left : Device) (patience : ℕ) (was is : Log) where
  -- it left what there was, or none that may not give way was there
  refused_either : (why : Cause) → (why ≡ cause.Stuck → ⊥) → MkvgRefuses w patience was is old left why → NothingNew old left ⊎ IfShown old (λ c. HasGroup c w.force → ⊥)
  refused_either (cause.NoDisk disk) rests refuses = inl (same_nothing old left refuses.0.shelf)
  refused_either (cause.TooMany limit) rests refuses = inl (same_nothing old left refuses.0.shelf)
  refused_either (cause.TooSmall disk) rests refuses = inl (same_nothing old left refuses.0.shelf)
  refused_either cause.HistoryFull rests refuses = inl (same_nothing old left refuses.0.shelf)
  refused_either (cause.DiskFailed disk) rests (inl unread) = inl (unwritten_nothing old left unread.read.unwritten unread.read.rested.ready.flights)
  refused_either (cause.DiskFailed disk) rests (inr unwritten) = inr unwritten.breaks.clear.free.free
  refused_either cause.GroupExists rests refuses = inl (unwritten_nothing old left refuses.0.unwritten refuses.0.rested.ready.flights)
  refused_either (cause.ClockBack seen) rests refuses = inl (unwritten_nothing old left refuses.0.unwritten refuses.0.rested.ready.flights)
  refused_either cause.Dark rests (inl reading) = inl (unwritten_nothing old left reading.unwritten reading.cut.flights)
  refused_either cause.Dark rests (inr writing) = inr writing.breaks.clear.free.free
  refused_either cause.Stuck rests (inl reading) = absurd (rests refl)
  refused_either cause.Stuck rests (inr writing) = inr writing.breaks.clear.free.free
  refused_either cause.Memory rests refuses = inl (unwritten_nothing old left refuses.unwritten refuses.rested.ready.flights)
  refused_either _ rests refuses = absurd refuses

-- where all that is found is of the new group
its_one : (group : Descriptor) (old new : Device) → ((id : ℕ) (k : Descriptor) → MayBeFound old id k → ⊥) → ((id : ℕ) (k : Descriptor) → MayBeFound new id k → MayBeFound old id k ⊎ IsIts group id k) → FindsOneGroup new
its_one group old new none finds v w g h is also = its v g is ∙ sym (its w h also)
  where
    its : (id : ℕ) (k : Descriptor) → MayBeFound new id k → id ≡ group.id
    its id k it = ⊎_elim (λ before. absurd (none id k before)) (λ (new : IsIts group id k). new.0) (finds id k it)

module _ (log : Log) (old new : ScriptState) (answer : Reply) (shelf : IsShelf old.moment.device) (between : IsBetween old.moment old.session old.posts) (heard : IsStuck answer → ⊥) (timely : IsTimely log.run old)
    (named : IfSome old.session (λ core. core.history.run ≡ log.run)) (told : IsSome old.moment.device.media) (one : FindsOneGroup old.moment.device) where
  abbrev was : Device
  was = old.moment.device

  abbrev now : Device
  now = new.moment.device

  same_one : new ≡ old → FindsOneGroup now
  same_one same = nothing_one was now (same_nothing was now (ap (λ (s : ScriptState). s.moment.device) same)) one

  -- ---- `mkvg`

  made_one : (room : Room) (line : List ℕ) (name : List ℕ) (mib : Option ℕ) (disks : List ℕ) → line_of line ≡ Ok (Some (command.Mkvg false name mib disks)) → (left : Device) (is : Log) (given : Result Core Cause) → Asks old new
      → MkvgOnceQuiet itself (asked_for name mib disks false new.last) room patience_of_line (log_with log old.moment.facts) was (outcome_of left is given) → IsLeftByCall left is old new answer given → FindsOneGroup now
  made_one room line name mib disks read left is (Ok core) asks (RefusedAtOnce refused same first shelf_same history_same) gone = absurd (cc (same))
  made_one room line name mib disks read left is (Ok core) asks (StayedOut refused same may out) gone = absurd (cc (same))
  made_one room line name mib disks read left is (Ok core) asks (WentQuiet may once) gone =
      let w : NewGroup = asked_for name mib disks false new.last in
      its_one (new_group once.mid.sizes w) once.mid now (none_found once.mid once.quiesces.ready.flights once.goes.clear.free.free)
      (λ id k it. parts_find w once.mid (asked log old new answer shelf heard timely line false name mib disks read once.mid once.quiesces asks) (log_with log old.moment.facts) left once.goes.clear once.goes.homes once.goes.spares new_order once.goes.only once.goes.rested.ready.flights
      id k (subst (λ (d : Device). MayBeFound d id k) (sym gone.0) it))
  made_one room line name mib disks read left is (Err why) asks (RefusedAtOnce refused same first shelf_same history_same) gone =
      let its : left ≡ refused.shelf = ap (λ (r : Refused Device). r.shelf) (let e : record { shelf = left; history = is; cause = why } ≡ refused = cc (same) in e) in
      nothing_one was now (λ id k it. subst (λ (d : Device). MayBeFound d id k) (its ∙ shelf_same) (lit_nothing why left now gone.lit id k it)) one
  made_one room line name mib disks read left is (Err why) asks (StayedOut refused same may out) gone =
      let its : left ≡ refused.shelf = ap (λ (r : Refused Device). r.shelf) (let e : record { shelf = left; history = is; cause = why } ≡ refused = cc (same) in e) in
      nothing_one was now (λ id k it. stays_nothing patience_of_line was refused.shelf (log_with log old.moment.facts) refused.history refused.cause out id k (subst (λ (d : Device). MayBeFound d id k) its (lit_nothing why left now gone.lit id k it))) one
  made_one room line name mib disks read left is (Err why) asks (WentQuiet may once) gone =
      let w : NewGroup = asked_for name mib disks false new.last in
      let stuck = not_stuck log old new answer shelf heard timely why gone.answered in
      ⊎_elim
      (λ (nothing : NothingNew once.mid left). nothing_one was now (then_nothing was once.mid now (quiet_nothing was once.mid once.quiesces) (then_nothing once.mid left now nothing (lit_nothing why left now gone.lit))) one)
      (λ free. its_one (new_group once.mid.sizes w) once.mid now (none_found once.mid once.quiesces.ready.flights free) (λ id k it. ⊎_elim
      (λ before. inl before)
      (λ its. inr its.1)
      (refused_finds w once.mid (asked log old new answer shelf heard timely line false name mib disks read once.mid once.quiesces asks) once.left (log_with log old.moment.facts) is left why (λ is. absurd (stuck is)) once.goes id k (lit_nothing why left now gone.lit id k it))))
      (refused_either w once.mid left once.left (log_with log old.moment.facts) is why stuck once.goes)

  mkvg_one : (room : Room) (line : List ℕ) (name : List ℕ) (mib : Option ℕ) (disks : List ℕ) → line_of line ≡ Ok (Some (command.Mkvg false name mib disks)) → MkvgDoes log room false name mib disks old new answer → FindsOneGroup now
  mkvg_one room line name mib disks read (NoMemoryForLine off says same) = nothing_one was now (asked_nothing old new same) one
  mkvg_one room line name mib disks read (NoMkvgWhileOn on says same) = nothing_one was now (asked_nothing old new same) one
  mkvg_one room line name mib disks read (Makes brings) = made_one room line name mib disks read brings.shelf brings.history brings.given brings.asks brings.gives brings.left

  -- ---- `mklv` and `rmlv`

  module _ (stood : StoodBefore log.run OfGroup old new) where
    commanded_one : {Gives : State → State → Type 0} {scope : Core → Scope} {over : Bool} (core : Core) (left : ℕ) (mid : State) → old.session ≡ Some core → Drains core old left mid
        → ((k : Descriptor) → (scope mid.core).next k → k.id ≡ mid.core.descriptor.id) → IsDone Gives scope over mid old new → FindsOneGroup now
    commanded_one core left mid some drains own done = no_new_one was now (λ id k it. ⊎_elim
        (λ (before : MayBeFound was id k). (k, before))
        (λ next.
        let same : id ≡ core.descriptor.id = next.0 ∙ own k next.1 ∙ ap (λ (d : Descriptor). d.id) (path_frames drains.runs).keeps.descriptor in
        (core.descriptor, subst (λ (n : ℕ). MayBeFound was n core.descriptor) (sym same) (found_before log.run old new between named stood told core left mid some drains)))
        (done_finds log.run old new between named stood core left mid some drains done id k it)) one

    mklv_one : (w : NewVolume) (group : List ℕ) → MklvDoes w group old new answer → FindsOneGroup now
    mklv_one w group (NoGroupForMklv none is) = same_one is.1
    mklv_one w group (BusyMklv on busy is) = same_one is.1
    mklv_one w group (UndrainedMklv core why some on un) = nothing_one was now (undrained_nothing log.run old new between named stood core why answer some un) one
    mklv_one w group (MakesVolume core left mid number some on drains done is) = commanded_one core left mid some drains (λ k its. ap (λ (d : Descriptor). d.id) its.2.2) done
    mklv_one w group (MklvFails core left mid why some on drains done is) = commanded_one core left mid some drains (λ k its. ap (λ (d : Descriptor). d.id) its.2.2) done

    rmlv_one : (name : List ℕ) → RmlvDoes name old new answer → FindsOneGroup now
    rmlv_one name (NoGroupForRmlv none is) = same_one is.1
    rmlv_one name (BusyRmlv busy is) = same_one is.1
    rmlv_one name (UndrainedRmlv core why some un) = nothing_one was now (undrained_nothing log.run old new between named stood core why answer some un) one
    rmlv_one name (NoVolumeForRmlv core left mid some drains none stays last says) = nothing_one was now (idle_nothing log.run old new between named stood core left mid mid some drains refl stays) one
    rmlv_one name (RemovesVolume core left mid lv some drains its done is) = commanded_one core left mid some drains (λ k same. ap (λ (d : Descriptor). d.id) same) done
    rmlv_one name (RmlvFails core left mid lv why some drains its done is) = commanded_one core left mid some drains (λ k same. ap (λ (d : Descriptor). d.id) same) done

    mklvcopy_one : (name : List ℕ) (copies : ℕ) → MklvcopyDoes name copies old new answer → FindsOneGroup now
    mklvcopy_one name copies (NoGroupForMklvcopy none is) = same_one is.1
    mklvcopy_one name copies (BusyMklvcopy busy is) = same_one is.1
    mklvcopy_one name copies (UndrainedMklvcopy core why some un) = nothing_one was now (undrained_nothing log.run old new between named stood core why answer some un) one
    mklvcopy_one name copies (NoVolumeForMklvcopy core left mid some drains none stays last says) = nothing_one was now (idle_nothing log.run old new between named stood core left mid mid some drains refl stays) one
    mklvcopy_one name copies (AddsCopies core left mid lv added some drains its done is) = commanded_one core left mid some drains (λ k its. more_id lv copies mid.core k its) done
    mklvcopy_one name copies (MklvcopyFails core left mid lv why some drains its done is) = commanded_one core left mid some drains (λ k its. more_id lv copies mid.core k its) done

    rmlvcopy_one : (name : List ℕ) (copies : ℕ) → RmlvcopyDoes name copies old new answer → FindsOneGroup now
    rmlvcopy_one name copies (NoGroupForRmlvcopy none is) = same_one is.1
    rmlvcopy_one name copies (BusyRmlvcopy busy is) = same_one is.1
    rmlvcopy_one name copies (UndrainedRmlvcopy core why some un) = nothing_one was now (undrained_nothing log.run old new between named stood core why answer some un) one
    rmlvcopy_one name copies (NoVolumeForRmlvcopy core left mid some drains none stays last says) = nothing_one was now (idle_nothing log.run old new between named stood core left mid mid some drains refl stays) one
    rmlvcopy_one name copies (RemovesCopies core left mid lv some drains its done is) = commanded_one core left mid some drains (λ k its. fewer_id lv copies mid.core k its) done
    rmlvcopy_one name copies (RmlvcopyFails core left mid lv why some drains its done is) = commanded_one core left mid some drains (λ k its. fewer_id lv copies mid.core k its) done

    splitlvcopy_one : (made name : List ℕ) (copies : ℕ) → SplitlvcopyDoes made name copies old new answer → FindsOneGroup now
    splitlvcopy_one made name copies (NoGroupForSplitlvcopy none is) = same_one is.1
    splitlvcopy_one made name copies (BusySplitlvcopy busy is) = same_one is.1
    splitlvcopy_one made name copies (UndrainedSplitlvcopy core why some un) = nothing_one was now (undrained_nothing log.run old new between named stood core why answer some un) one
    splitlvcopy_one made name copies (NoVolumeForSplitlvcopy core left mid some drains none stays last says) = nothing_one was now (idle_nothing log.run old new between named stood core left mid mid some drains refl stays) one
    splitlvcopy_one made name copies (SplitsVolume core left mid lv number some drains its done is) = commanded_one core left mid some drains (λ k its. split_id lv made copies mid.core k its) done
    splitlvcopy_one made name copies (SplitlvcopyFails core left mid lv why some drains its done is) = commanded_one core left mid some drains (λ k its. split_id lv made copies mid.core k its) done

    -- ---- `chvg`

    changed_one : {Gives : State → State → Type 0} {over : Bool} {joins erases : List ℕ} (N : Descriptor → Type 0) (core : Core) (left : ℕ) (mid : State) → old.session ≡ Some core → Drains core old left mid
        → ((k : Descriptor) → N k → k.id ≡ mid.core.descriptor.id) → IsChangeDone N joins erases Gives over mid old new → FindsOneGroup now
    changed_one N core left mid some drains own done = no_new_one was now (λ id k it. ⊎_elim
        (λ (before : MayBeFound was id k). (k, before))
        (λ found.
        let same : id ≡ core.descriptor.id = found.0 ∙ own k found.1 ∙ ap (λ (d : Descriptor). d.id) (path_frames drains.runs).keeps.descriptor in
        (core.descriptor, subst (λ (n : ℕ). MayBeFound was n core.descriptor) (sym same) (found_before log.run old new between named stood told core left mid some drains)))
        (change_finds log.run old new between named stood N core left mid some drains done id k it)) one

    chvg_quorum_one : (on : Bool) (name : List ℕ) → ChvgQuorumDoes on name old new answer → FindsOneGroup now
    chvg_quorum_one on name (NoGroupForChvgQuorum none is) = same_one is.1
    chvg_quorum_one on name (BusyChvgQuorum mine busy is) = same_one is.1
    chvg_quorum_one on name (UndrainedChvgQuorum core why some mine un) = nothing_one was now (undrained_nothing log.run old new between named stood core why answer some un) one
    chvg_quorum_one on name (SwitchesQuorum core left mid some mine drains done is) = changed_one (IsNext (with_quorum on mid.core.descriptor)) core left mid some drains (λ k is. ap (λ (d : Descriptor). d.id) is) done
    chvg_quorum_one on name (ChvgQuorumFails core left mid why some mine drains done is) = changed_one (IsNext (with_quorum on mid.core.descriptor)) core left mid some drains (λ k is. ap (λ (d : Descriptor). d.id) is) done

    chvg_big_one : (name : List ℕ) → ChvgBigDoes name old new answer → FindsOneGroup now
    chvg_big_one name (NoGroupForChvgBig none is) = same_one is.1
    chvg_big_one name (BusyChvgBig mine busy is) = same_one is.1
    chvg_big_one name (UndrainedChvgBig core why some mine un) = nothing_one was now (undrained_nothing log.run old new between named stood core why answer some un) one
    chvg_big_one name (BecomesBig core left mid some mine drains done is) = changed_one (IsNext (as_big mid.core.descriptor)) core left mid some drains (λ k is. ap (λ (d : Descriptor). d.id) is) done
    chvg_big_one name (ChvgBigFails core left mid why some mine drains done is) = changed_one (IsNext (as_big mid.core.descriptor)) core left mid some drains (λ k is. ap (λ (d : Descriptor). d.id) is) done

    reducevg_one : (name disks : List ℕ) → ReducevgDoes name disks old new answer → FindsOneGroup now
    reducevg_one name disks (NoGroupForReducevg none is) = same_one is.1
    reducevg_one name disks (NoMemoryForReducevg some is) = same_one is.1
    reducevg_one name disks (BusyReducevg mine busy is) = same_one is.1
    reducevg_one name disks (UndrainedReducevg core why some mine un) = nothing_one was now (undrained_nothing log.run old new between named stood core why answer some un) one
    reducevg_one name disks (ReducesGroup core left mid some mine drains done is) = changed_one (IsReducedBy disks mid.core.descriptor) core left mid some drains (reduced_id disks mid.core.descriptor) done
    reducevg_one name disks (ReducevgFails core left mid why some mine drains done is) = changed_one (IsReducedBy disks mid.core.descriptor) core left mid some drains (reduced_id disks mid.core.descriptor) done

  -- ---- `migratepv`

  migratepv_one : (volume : Option (List ℕ)) (from to : ℕ) → StandsForMoves log.run OfRequests old new → MigratepvDoes volume from to old new answer → FindsOneGroup now
  migratepv_one volume from to may (NoGroupForMoves none is) = same_one is.1
  migratepv_one volume from to may (NotAskedForMoves core why some not_asked is) = same_one is.1
  migratepv_one volume from to may (NothingMoves core lv some asked none says same) = same_one same
  migratepv_one volume from to may (MovesCopies core lv some asked volumes its) = no_new_one was now (λ id k it. ⊎_elim
      (λ (before : MayBeFound was id k). (k, before))
      (λ committed.
      let same : id ≡ core.descriptor.id = committed.own ∙ own_moved log.run old new between named may volume from to core some k committed.is in
      (core.descriptor, subst (λ (n : ℕ). MayBeFound was n core.descriptor) (sym same) (found_first log.run old new between named may core some volumes)))
      (migrated_finds log.run old new between named may core some volumes lv from to answer its volume asked id k it)) one

  -- ---- another line

  other_one : (room : Room) (line : List ℕ) (read : Result (Option Command) Misfit) → line_of line ≡ read → StoodBefore log.run (role_of read) old new → MayMoveCopies log.run read old new → ((id : ℕ) (k : Descriptor) → MayHaveCommitted read answer old new id k → ⊥)
      → LineDoes log room read old new answer → FindsOneGroup now
  other_one room line read is stood may none does = nothing_one was now (λ id k it. ⊎_elim
      (λ (before : MayBeFound was id k). before)
      (λ committed. absurd (none id k committed))
      (by_reading log room line answer old new shelf between heard timely named read is stood may does id k it)) one

  line_one : (room : Room) (line : List ℕ) → IsUnforced line → (read : Result (Option Command) Misfit) → line_of line ≡ read → StoodBefore log.run (role_of read) old new → MayMoveCopies log.run read old new → LineDoes log room read old new answer → FindsOneGroup now
  line_one room line unforced (Ok (Some (command.Mkvg true name mib disks))) is stood may does = absurd (unforced name mib disks is)
  line_one room line unforced (Ok (Some (command.Mkvg false name mib disks))) is stood may does = mkvg_one room line name mib disks is does
  line_one room line unforced (Ok (Some (command.Mklv name copies mode policy group lps))) is stood may does = mklv_one stood (wanted name copies mode policy lps) group does
  line_one room line unforced (Ok (Some (command.Rmlv name))) is stood may does = rmlv_one stood name does
  line_one room line unforced (Ok (Some (command.ChvgQuorum on name))) is stood may does = chvg_quorum_one stood on name does
  line_one room line unforced (Ok (Some (command.ChvgBig name))) is stood may does = chvg_big_one stood name does
  line_one room line unforced (Ok (Some (command.Reducevg name disks))) is stood may does = reducevg_one stood name disks does
  line_one room line unforced (Err misfit) is stood may does = other_one room line _ is stood tt (λ id k it. it.is) does
  line_one room line unforced (Ok None) is stood may does = other_one room line _ is stood tt (λ id k it. it.is) does
  line_one room line unforced (Ok (Some (command.Varyon name))) is stood may does = other_one room line _ is stood tt (λ id k it. it.is) does
  line_one room line unforced (Ok (Some (command.Varyoff name))) is stood may does = other_one room line _ is stood tt (λ id k it. it.is) does
  line_one room line unforced (Ok (Some (command.Lsvg volumes name))) is stood may does = other_one room line _ is stood tt (λ id k it. it.is) does
  line_one room line unforced (Ok (Some (command.Mklvcopy name copies))) is stood may does = mklvcopy_one stood name copies does
  line_one room line unforced (Ok (Some (command.Rmlvcopy name copies))) is stood may does = rmlvcopy_one stood name copies does
  line_one room line unforced (Ok (Some (command.Splitlvcopy made name copies))) is stood may does = splitlvcopy_one stood made name copies does
  line_one room line unforced (Ok (Some (command.Lslv name))) is stood may does = other_one room line _ is stood tt (λ id k it. it.is) does
  line_one room line unforced (Ok (Some (command.Lspv disk))) is stood may does = other_one room line _ is stood tt (λ id k it. it.is) does
  line_one room line unforced (Ok (Some (command.Rd name at count))) is stood may does = other_one room line _ is stood tt (λ id k it. it.is) does
  line_one room line unforced (Ok (Some (command.Wr name at count word))) is stood may does = other_one room line _ is stood tt (λ id k it. it.is) does
  line_one room line unforced (Ok (Some (command.Post name at count word))) is stood may does = other_one room line _ is stood tt (λ id k it. it.is) does
  line_one room line unforced (Ok (Some command.Wait)) is stood may does = other_one room line _ is stood tt (λ id k it. it.is) does
  line_one room line unforced (Ok (Some (command.SyncVolume name))) is stood may does = other_one room line _ is stood tt (λ id k it. it.is) does
  line_one room line unforced (Ok (Some (command.SyncGroup name))) is stood may does = other_one room line _ is stood tt (λ id k it. it.is) does
  line_one room line unforced (Ok (Some (command.Migratepv volume from to))) is stood may does = migratepv_one volume from to may does
  line_one room line unforced (Ok (Some (command.Step turns))) is stood may does = other_one room line _ is stood tt (λ id k it. it.is) does
  line_one room line unforced (Ok (Some (command.RawRd disk at count))) is stood may does = other_one room line _ is stood tt (λ id k it. it.is) does
  line_one room line unforced (Ok (Some (command.RawWr disk at count word))) is stood may does = other_one room line _ is stood tt (λ id k it. it.is) does
  line_one room line unforced (Ok (Some (command.Fail disk))) is stood may does = other_one room line _ is stood tt (λ id k it. it.is) does
  line_one room line unforced (Ok (Some (command.Heal disk))) is stood may does = other_one room line _ is stood tt (λ id k it. it.is) does
  line_one room line unforced (Ok (Some (command.Cut word))) is stood may does = other_one room line _ is stood tt (λ id k it. it.is) does

-- ---- the lines of a script

-- where one group may be found
pub alone_so : (role : Role) (old new : ScriptState) → FindsOneGroup old.moment.device → IsAlone role old new
alone_so role old new one = record { enters = λ enters. one_found old.moment.device one; acts = λ acting. by_session old.session }
  where
    by_session : (o : Option Core) → IfSome o (StandsAlone old.moment.device)
    by_session None = tt
    by_session (Some core) = λ none some. one_found old.moment.device one

module _ (log : Log) (room : Room) (past : List Fact) (first : ScriptState) (begin : MayRun log.run past first) (one : FindsOneGroup first.moment.device) where
  -- all that is so of the lines
  pub record ScriptAlone {lines : List (List ℕ)} {replies : List Reply} {last : ScriptState} (script : Script log room first lines replies last) : Type 0 where
    pub alone : StaysAlone script
    pub finds_one : FindsOneGroup last.moment.device

  pub script_one : {lines : List (List ℕ)} {replies : List Reply} {last : ScriptState} (script : Script log room first lines replies last) → AreUnforced script → ScriptAlone script
  script_one NoLine unforced = record { alone = tt; finds_one = one }
  script_one (NextLine {mid = mid} {new = new} line answer said heard says before it) unforced =
      let so_far = script_one before unforced.0 in
      let went = script_went log room first before in
      let now : IsAlone (role_of (line_of line)) mid new = alone_so (role_of (line_of line)) mid new so_far.finds_one in
      let few : length mid.moment.device.sizes ≤ 128 = subst (λ (sizes : List ℕ). length sizes ≤ 128) (sym (span_sizes (went_so log room past first begin before so_far.alone).0)) begin.few in
      let shelf : IsShelf mid.moment.device = record { few = few; whole = it.whole } in
      let leaves = went.leaves begin.leaves in
      let timely = went.timely begin.timely in
      let stood_so = stood log room past first begin before so_far.alone (role_of (line_of line)) new now in
      record {
        alone = (so_far.alone, now);
        finds_one = line_one log mid new answer shelf it.between heard timely it.named (last_told log room past first begin before so_far.alone) so_far.finds_one room line unforced.1 (line_of line) refl stood_so (may_move log room past first begin before so_far.alone (line_of line) new now) it.does;
      }

  ends_alone : {mid last : ScriptState} {done : List (List ℕ)} {said : List Reply} {front : List ℕ} (ends : Ends log room mid last done said front) → FindsOneGroup mid.moment.device → EndsAlone ends
  ends_alone (AtLine same) found = tt
  ends_alone {mid = mid} {last = last} (InLine line answer said front rest says split it) found = alone_so (role_of (line_of line)) mid last found

  -- what is so where they end, unless nothing was heard of a transfer
  ends_one : {lines : List (List ℕ)} {replies : List Reply} {mid last : ScriptState} {done : List (List ℕ)} {said : List Reply} {front : List ℕ} (script : Script log room first lines replies mid) → ScriptAlone script → AreUnforced script
      → (ends : Ends log room mid last done said front) → EndsHeard ends → EndsUnforced ends → FindsOneGroup last.moment.device
  ends_one script so_far before (AtLine same) heard unforced = subst (λ (s : ScriptState). FindsOneGroup s.moment.device) (sym same) so_far.finds_one
  ends_one script so_far before (InLine line answer said front rest says split it) heard unforced =
      (script_one (NextLine line answer said heard says script it) (before, unforced)).finds_one

pub unforced_stays_alone : UnforcedStaysAlone
unforced_stays_alone log room past first lines replies last script begin one unforced =
    let all = script_one log room past first begin one script unforced in
    (all.alone, all.finds_one)

-- a history isn't longer than itself
pub not_more : (a b : List Fact) → b ≡ a → EntersVolumes a b → ⊥
not_more a b same more = let e : count_by is_of_volume b ≡ count_by is_of_volume a = ap (λ (l : List Fact). count_by is_of_volume l) same in omega (arith, e, more)

pub unforced_runs_alone : UnforcedRunsAlone
unforced_runs_alone r ran past few ready behind earlier one unforced =
    let begin = run_may_start r.named r.entry past few ready behind earlier in
    let all = script_one (empty_log r.named r.room) r.room (past ++ Cut ∷ []) (entry_state r.entry r.named) begin one ran.lines.script unforced.0 in (
      all.alone,
      ends_alone (empty_log r.named r.room) r.room (past ++ Cut ∷ []) (entry_state r.entry r.named) begin one ran.lines.ends all.finds_one,
      λ requests. ⊎_elim
          (λ stuck.
          let none : ran.end.session ≡ None = stuck_ends ran.lines.ends (ran.stuck stuck) in
          record {
            enters = λ enters. absurd (not_more ran.end.moment.facts (facts_of r.history) (ap (λ (m : Moment). m.facts) (stuck_still r ran stuck)) enters);
            acts = λ acting. subst (λ (o : Option Core). IfSome o (StandsAlone ran.end.moment.device)) (sym none) tt;
          })
          (λ heard.
          let last = ends_one (empty_log r.named r.room) r.room (past ++ Cut ∷ []) (entry_state r.entry r.named) begin one ran.lines.script all unforced.0 ran.lines.ends (ran.heard heard) unforced.1 in
          alone_so OfRequests ran.end (exit_state r.exit r.history ran.end) last)
          (how_ended r.status),
    )

-- ---- disks of zeros

pub blank_finds_one : BlankFindsOneGroup
blank_finds_one device blank v w g h is also = absurd (none_found device blank.still free v g is)
  where
    shows_none : HasGroup (contents_of (image_of device.sizes blank.media)) false → ⊥
    shows_none has = no_some has.newest (sym (no_descriptor (image_of device.sizes blank.media) blank.blank has.disk) ∙ has.on)
      where
        no_some : (r : Stamped Descriptor) → None ≡ Some r → ⊥
        no_some r e = absurd cc

    free : IfShown device (λ c. HasGroup c false → ⊥)
    free = subst (λ (o : Option Media). IfSome o (λ media. HasGroup (contents_of (image_of device.sizes media)) false → ⊥)) (sym blank.told) shows_none
