-- What is found after a group command that was acknowledged.
use Rattle.std.proofs.Common.{◌≡◌, ◌⊎◌, inl, inr, ℕ, List, [], Bool, true, false, Option, Some, None, Result, Ok, Err, refl, sym, ap, subst, ◌∙◌}
use Rattle.std.specs.Prelude.{◌==◌, IfNone, IfOk, IfSome, IsSomeAnd}
use Rattle.std.proofs.lemmas.Bool.{eqb-true, eq-eqb}
use Rattle.lvm_num.specs.declared.descriptor.Descriptor.{Descriptor}
use Rattle.lvm_disk.specs.Device.{Media, Device, image_of, IsReady, MayLeave}
use Rattle.lvm_vol.specs.Facts.{Fact}
use Rattle.lvm_vol.specs.Log.{Log}
use Rattle.lvm_parse.specs.declared.command.Command.{Command}
use Rattle.lvm_parse.specs.declared.command.Command.TheVariants as command
use Rattle.lvm_parse.specs.declared.rest.Misfit.{Misfit}
use Rattle.lvm_kept.specs.Contents.{contents_of}
use Rattle.lvm_kept.proofs.CommittedLemmas.Finding.{images_within}
use Rattle.lvm_steps.specs.Moments.{ImagesKept}
use Rattle.lvm_write.proofs.WrittenLemmas.Writing.{told_at}
use Rattle.lvm_commit.specs.Committed.{HoldsCommitted}
use Rattle.lvm_commit.proofs.LawsLemmas.Found.{only_committed_is_found}
use Rattle.lvm_commit.proofs.LawsOfDataLemmas.Still.{still_holds_committed}
use Rattle.lvm_core.specs.declared.parts.Room.{Room}
use Rattle.lvm_core.specs.Held.{IsHeld}
use Rattle.lvm_core.specs.Settled.{IsSettled}
use Rattle.lvm_session.specs.State.{Core, State, is_there}
use Rattle.lvm_core.specs.Leaves.{MayBeFound}
use Rattle.lvm_line.specs.passed.Volumes.{IsWith, IsWithFirst, IsWithMore}
use Rattle.lvm_line.specs.passed.Members.{as_big, with_quorum}
use Rattle.lvm_line.specs.passed.Splitting.{IsSplit}
use Rattle.lvm_line.specs.passed.VolumeLines.{NoGroupForChvgQuorum, BusyChvgQuorum, UndrainedChvgQuorum, SwitchesQuorum, ChvgQuorumFails, NoGroupForChvgBig, BusyChvgBig, UndrainedChvgBig, BecomesBig, ChvgBigFails, NoGroupForMklvcopy, BusyMklvcopy, UndrainedMklvcopy, NoVolumeForMklvcopy, AddsCopies, MklvcopyFails, NoGroupForRmlvcopy, BusyRmlvcopy, UndrainedRmlvcopy, NoVolumeForRmlvcopy, RemovesCopies, RmlvcopyFails, NoGroupForSplitlvcopy, BusySplitlvcopy, UndrainedSplitlvcopy, NoVolumeForSplitlvcopy, SplitsVolume, SplitlvcopyFails, StaysOn, NoGroupForMklv, BusyMklv, UndrainedMklv, MakesVolume, MklvFails, NoGroupForRmlv, BusyRmlv, UndrainedRmlv, NoVolumeForRmlv, RemovesVolume, RmlvFails, wanted}
use Rattle.lvm_core.specs.Looking.{IsNumberOf}
use Rattle.lvm_line.specs.passed.Group.{NewGroup, new_group}
use Rattle.lvm_core.specs.declared.refused.Cause.{Cause}
use Rattle.lvm_line.specs.passed.Quiesce.{MkvgOnceQuiet, RefusedAtOnce, StayedOut, WentQuiet}
use Rattle.lvm_line.proofs.passed.Quiesce.{ends_only}
use Rattle.lvm_line.specs.passed.GroupLines.{IsBetween, IsLeftByCall, Varies, NoVaryonWhileOn, NoMemoryForLine, NoMkvgWhileOn, Makes, asked_for, itself, outcome_of, patience_of_line, HasBegunHeld, IsStuck, OfRequests, ScriptState, log_with, Reply}
use Rattle.lvm_line.specs.Lines.{CommandDoes, LineDoes, role_of}
use Rattle.lvm_line.specs.passed.ReplyVariants as reply
use Rattle.lvm_volume_plan.specs.declared.new_volume.NewVolume.{NewVolume}
use Rattle.lvm_line.proofs.passed.Tie.{path_frames}
use Rattle.lvm_top.specs.Standing.{IsToCommit, MayMoveCopies, StandsForMoves, StoodBefore, is_group_command, is_acknowledged, StandsOf, IsCommitted, OfAnother, WasDrained}
use Rattle.lvm_top.proofs.StandingLemmas.Volumes.{held_mid}
use Rattle.lvm_top.proofs.StandingLemmas.Copying.{fewer_id, more_id}
use Rattle.lvm_top.proofs.StandingLemmas.Splitting.{split_id}
use Rattle.lvm_line.specs.passed.MemberLines.{BusyReducevg, IsReducedBy, NoGroupForReducevg, NoMemoryForReducevg, ReducesGroup, ReducevgFails, UndrainedReducevg}
use Rattle.lvm_top.proofs.StandingLemmas.Reducing.{reduced_id}
use Rattle.lvm_top.proofs.StandingLemmas.Changing.{big_id}
use Rattle.lvm_top.proofs.StandingLemmas.Moving.{empty_only, end_id, only_end, own_moved, session_on}
use Rattle.lvm_line.specs.passed.MoveLines.{MigratepvDoes, MoveFault, MovesCopies, NoGroupForMoves, NotAskedForMoves, NothingMoves, move_reply}
use Rattle.lvm_session.specs.declared.open.Power.TheVariants as power
use Rattle.lvm_volume_plan.specs.NewVolume.{without_volume}

-- ---- a session at which nothing is under way

module _ (device : Device) (core : Core) (facts : List Fact) (settled : IsSettled core) (held : IsHeld device core) (still : device.flights ≡ []) (kept : ImagesKept device facts) where
  -- of its group its descriptor alone is found
  pub only_committed : (k : Descriptor) → MayBeFound device core.descriptor.id k → k ≡ core.descriptor
  only_committed k it = by_media device.media refl it.1
    where
      by_media : (o : Option Media) → device.media ≡ o → MayLeave (record device { media = o }) it.0 → k ≡ core.descriptor
      by_media None none left = absurd left
      by_media (Some media) told left =
          let holds : HoldsCommitted (image_of device.sizes media) core.descriptor core.status.committed (is_there core) core.status.stamp core.homes =
          told_at device.media (λ m. HoldsCommitted (image_of device.sizes m) core.descriptor core.status.committed (is_there core) core.status.stamp core.homes) media told held in
          let now = still_holds_committed core.descriptor core.status.committed (is_there core) core.status.stamp core.homes device media told still holds it.0 it.1 in
          only_committed_is_found (contents_of it.0) core.descriptor core.status.committed (is_there core) facts (images_within it.0) settled.votes now.shows (kept it.0 it.1) k it.2

-- ---- the session after the command

-- A group is on, of which its descriptor alone is found where the history is kept; and what the line was to commit is a descriptor of it.
pub record LeavesOn (read : Result (Option Command) Misfit) (old new : ScriptState) : Type 0 where
  pub core : Core
  pub on : new.session ≡ Some core
  pub only : (facts : List Fact) → ImagesKept new.moment.device facts → (k : Descriptor) → MayBeFound new.moment.device core.descriptor.id k → k ≡ core.descriptor
  pub own : (k : Descriptor) → IsToCommit read old new k → k.id ≡ core.descriptor.id

-- so it is where it is settled, and held by its disks, on which nothing is out
record LeavesSettled (read : Result (Option Command) Misfit) (old new : ScriptState) : Type 0 where
  core : Core
  on : new.session ≡ Some core
  begun : HasBegunHeld new.moment.device core
  own : (k : Descriptor) → IsToCommit read old new k → k.id ≡ core.descriptor.id

settled_leaves : (read : Result (Option Command) Misfit) (old new : ScriptState) → LeavesSettled read old new → LeavesOn read old new
settled_leaves read old new left = record {
  core = left.core;
  on = left.on;
  only = λ facts kept k it. only_committed new.moment.device left.core facts left.begun.settled left.begun.held left.begun.ready.flights kept k it;
  own = left.own;
}

-- a line by which a group comes on
pub begun_by : (old new : ScriptState) (core : Core) → old.session ≡ None → new.session ≡ Some core → IfNone old.session (IfSome new.session (HasBegunHeld new.moment.device)) → HasBegunHeld new.moment.device core
begun_by old new core off on begins =
    subst (λ (o : Option Core). IfSome o (HasBegunHeld new.moment.device)) on (subst (λ (o : Option Core). IfNone o (IfSome new.session (HasBegunHeld new.moment.device))) off begins)

-- the descriptor is that of the group which was asked for
made_is : (w : NewGroup) (room : Room) (patience : ℕ) (was : Log) (old left : Device) (core : Core) → MkvgOnceQuiet itself w room patience was old (Ok (left, core)) → core.descriptor ≡ new_group old.sizes w
made_is w room patience was old left core (RefusedAtOnce refused is first shelf history) = absurd (cc (is))
made_is w room patience was old left core (StayedOut refused is may out) = absurd (cc (is))
made_is w room patience was old left core (WentQuiet may once) =
    ap (λ (c : Core). c.descriptor) once.goes.core_is ∙ once.goes.parts.descriptor ∙ ap (λ (sizes : List ℕ). new_group sizes w) (ends_only once.quiesces.ends).sizes

-- a descriptor with a volume more is of the group that is on
with_id : (old : ScriptState) (core : Core) → old.session ≡ Some core → (w : NewVolume) (k : Descriptor) → (c : Core) × (mid : State) × WasDrained old c mid × IsWith w mid.core k → k.id ≡ core.descriptor.id
with_id old core some w k (c, mid, drained, is) =
    let same : c ≡ core = let e = sym drained.on ∙ some in cc e in
    ap (λ (d : Descriptor). d.id) is.2.2 ∙ ap (λ (d : Descriptor). d.id) (path_frames drained.drains.runs).keeps.descriptor ∙ ap (λ (c : Core). c.descriptor.id) same

-- one in which a volume has more copies too
with_more_id : (old : ScriptState) (core : Core) → old.session ≡ Some core → (name : List ℕ) (copies : ℕ) (k : Descriptor)
    → (c : Core) × (mid : State) × WasDrained old c mid × ((lv : ℕ) × IsNumberOf c.descriptor.lvs name lv × IsWithMore lv copies mid.core k) → k.id ≡ core.descriptor.id
with_more_id old core some name copies k (c, mid, drained, (lv, its, more)) =
    let same : c ≡ core = let e = sym drained.on ∙ some in cc e in
    more_id lv copies mid.core k more ∙ ap (λ (d : Descriptor). d.id) (path_frames drained.drains.runs).keeps.descriptor ∙ ap (λ (c : Core). c.descriptor.id) same

-- one in which a volume is split too
with_split_id : (old : ScriptState) (core : Core) → old.session ≡ Some core → (made name : List ℕ) (copies : ℕ) (k : Descriptor)
    → (c : Core) × (mid : State) × WasDrained old c mid × ((lv : ℕ) × IsNumberOf c.descriptor.lvs name lv × IsSplit lv made copies mid.core k) → k.id ≡ core.descriptor.id
with_split_id old core some made name copies k (c, mid, drained, (lv, its, split)) =
    let same : c ≡ core = let e = sym drained.on ∙ some in cc e in
    split_id lv made copies mid.core k split ∙ ap (λ (d : Descriptor). d.id) (path_frames drained.drains.runs).keeps.descriptor ∙ ap (λ (c : Core). c.descriptor.id) same

-- what holds of the session that is on
told_and : {X : Type 0} (o : Option X) (P : X → Type 0) (x : X) → o ≡ Some x → IsSomeAnd o P → P x
told_and {X} o P x some is = subst (λ (p : Option X). IsSomeAnd p P) some is

-- the session once its line has handed it on
handed_on : (left : State) (old new : ScriptState) (stays : StaysOn left old new) → IsSettled left.core → IsReady left.device → IsHeld left.device left.core → HasBegunHeld new.moment.device stays.core
handed_on left old new stays settled ready held = record {
  ready = subst IsReady (sym stays.device) ready;
  settled = subst IsSettled (sym stays.is) (record { power = settled.power; quiet = record { requests = settled.quiet.requests; copy = settled.quiet.copy; status = settled.quiet.status; notes = settled.quiet.notes; buffers = settled.quiet.buffers }; committed = settled.committed; epoch = settled.epoch; votes = settled.votes });
  held = subst (λ (d : Device). IsHeld d stays.core) (sym stays.device) (subst (IsHeld left.device) (sym stays.is) held);
}

module _ (log : Log) (room : Room) (old new : ScriptState) (between : IsBetween old.moment old.session old.posts) (named : IfSome old.session (λ core. core.history.run ≡ log.run)) (begins : IfNone old.session (IfSome new.session (HasBegunHeld new.moment.device))) where
  by_command : (c : Command) → is_group_command c ≡ true → StoodBefore log.run (role_of (Ok (Some c))) old new → CommandDoes log room c old new reply.Ok → LeavesSettled (Ok (Some c)) old new
  by_command (command.Mkvg force name mib disks) acked stood (NoMemoryForLine off says asked) = absurd (cc (says))
  by_command (command.Mkvg force name mib disks) acked stood (NoMkvgWhileOn on says asked) = absurd (cc (says))
  by_command (command.Mkvg force name mib disks) acked stood (Makes brings) = by_given brings.given brings.gives brings.left
    where
      by_given : (given : Result Core Cause) → MkvgOnceQuiet itself (asked_for name mib disks force new.last) room patience_of_line (log_with log old.moment.facts) old.moment.device (outcome_of brings.shelf brings.history given)
          → IsLeftByCall brings.shelf brings.history old new reply.Ok given → LeavesSettled (Ok (Some (command.Mkvg force name mib disks))) old new
      by_given (Ok core) gives left = record {
        core = core;
        on = left.2.after;
        begun = begun_by old new core brings.off left.2.after begins;
        own = λ k is. ap (λ (d : Descriptor). d.id) (is ∙ sym (made_is (asked_for name mib disks force new.last) room patience_of_line (log_with log old.moment.facts) old.moment.device brings.shelf core gives));
      }
      by_given (Err why) gives left = absurd (let e = left.answered in cc (e))
  by_command (command.Varyon name) acked stood (NoVaryonWhileOn on says asked) = absurd (cc (says))
  by_command (command.Varyon name) acked stood (Varies brings) = by_given brings.given brings.left
    where
      by_given : (given : Result Core Cause) → IsLeftByCall brings.shelf brings.history old new reply.Ok given → LeavesSettled (Ok (Some (command.Varyon name))) old new
      by_given (Ok core) left = record { core = core; on = left.2.after; begun = begun_by old new core brings.off left.2.after begins; own = λ k is. absurd is }
      by_given (Err why) left = absurd (let e = left.answered in cc (e))
  by_command (command.ChvgQuorum on name) acked stood (NoGroupForChvgQuorum none is) = absurd (let e = is.0 in cc (e))
  by_command (command.ChvgQuorum on name) acked stood (BusyChvgQuorum mine busy is) = absurd (let e = is.0 in cc (e))
  by_command (command.ChvgQuorum on name) acked stood (UndrainedChvgQuorum core why some mine undrained) = absurd (let e = undrained.says in cc (e))
  by_command (command.ChvgQuorum on name) acked stood (SwitchesQuorum core left mid some mine drains done says) = record {
    core = done.leaves.core;
    on = done.leaves.session;
    begun = handed_on done.left old new done.leaves (done.rests refl).0 (done.rests refl).1 (done.held refl (held_mid log.run old new between named stood core left mid some drains));
    own = λ k is.
        ap (λ (d : Descriptor). d.id) (told_and old.session (λ c. k ≡ with_quorum on c.descriptor) core some is) ∙ sym (ap (λ (d : Descriptor). d.id) (path_frames drains.runs).keeps.descriptor) ∙ sym (ap (λ (c : Core). c.descriptor.id) (done.leaves.is) ∙ ap (λ (c : Core). c.descriptor.id) done.gives.1.is);
  }
  by_command (command.ChvgQuorum on name) acked stood (ChvgQuorumFails core left mid why some mine drains done says) = absurd (cc (says))
  by_command (command.ChvgBig name) acked stood (NoGroupForChvgBig none is) = absurd (let e = is.0 in cc (e))
  by_command (command.ChvgBig name) acked stood (BusyChvgBig mine busy is) = absurd (let e = is.0 in cc (e))
  by_command (command.ChvgBig name) acked stood (UndrainedChvgBig core why some mine undrained) = absurd (let e = undrained.says in cc (e))
  by_command (command.ChvgBig name) acked stood (BecomesBig core left mid some mine drains done says) = record {
    core = done.leaves.core;
    on = done.leaves.session;
    begun = handed_on done.left old new done.leaves (done.rests refl).0 (done.rests refl).1 (done.held refl (held_mid log.run old new between named stood core left mid some drains));
    own = λ k is.
        ap (λ (d : Descriptor). d.id) (told_and old.session (λ c. k ≡ as_big c.descriptor) core some is) ∙ sym (ap (λ (d : Descriptor). d.id) (path_frames drains.runs).keeps.descriptor) ∙ sym (ap (λ (c : Core). c.descriptor.id) (done.leaves.is) ∙ big_id left mid done.left done.gives);
  }
  by_command (command.ChvgBig name) acked stood (ChvgBigFails core left mid why some mine drains done says) = absurd (cc (says))
  by_command (command.Reducevg name disks) acked stood (NoGroupForReducevg none is) = absurd (let e = is.0 in cc (e))
  by_command (command.Reducevg name disks) acked stood (NoMemoryForReducevg some is) = absurd (let e = is.0 in cc (e))
  by_command (command.Reducevg name disks) acked stood (BusyReducevg mine busy is) = absurd (let e = is.0 in cc (e))
  by_command (command.Reducevg name disks) acked stood (UndrainedReducevg core why some mine undrained) = absurd (let e = undrained.says in cc (e))
  by_command (command.Reducevg name disks) acked stood (ReducesGroup core left mid some mine drains done says) = record {
    core = done.leaves.core;
    on = done.leaves.session;
    begun = handed_on done.left old new done.leaves (done.rests refl).0 (done.rests refl).1 (done.held refl (held_mid log.run old new between named stood core left mid some drains));
    own = λ k is.
        reduced_id disks core.descriptor k (told_and old.session (λ c. IsReducedBy disks c.descriptor k) core some is)
        ∙ sym (ap (λ (d : Descriptor). d.id) (path_frames drains.runs).keeps.descriptor) ∙ sym (ap (λ (c : Core). c.descriptor.id) (done.leaves.is) ∙ ap (λ (c : Core). c.descriptor.id) done.gives.1.is);
  }
  by_command (command.Reducevg name disks) acked stood (ReducevgFails core left mid why some mine drains done says) = absurd (cc (says))
  by_command (command.Mklv name copies mode policy group lps) acked stood (NoGroupForMklv none is) = absurd (let e = is.0 in cc (e))
  by_command (command.Mklv name copies mode policy group lps) acked stood (BusyMklv on busy is) = absurd (let e = is.0 in cc (e))
  by_command (command.Mklv name copies mode policy group lps) acked stood (UndrainedMklv core why some on un) = absurd (let e = un.says in cc (e))
  by_command (command.Mklv name copies mode policy group lps) acked stood (MakesVolume core left mid number some on drains done says) = record {
    core = done.leaves.core;
    on = done.leaves.session;
    begun = handed_on done.left old new done.leaves (done.rests refl).0 (done.rests refl).1 (done.held refl (held_mid log.run old new between named stood core left mid some drains));
    own = λ k is.
        with_id old core some (wanted name copies mode policy lps) k is ∙ sym (ap (λ (d : Descriptor). d.id) (path_frames drains.runs).keeps.descriptor) ∙ sym (ap (λ (c : Core). c.descriptor.id) (done.leaves.is) ∙ ap (λ (c : Core). c.descriptor.id) done.gives.is);
  }
  by_command (command.Mklv name copies mode policy group lps) acked stood (MklvFails core left mid why some on drains done says) = absurd (cc (says))
  by_command (command.Rmlv name) acked stood (NoGroupForRmlv none is) = absurd (let e = is.0 in cc (e))
  by_command (command.Rmlv name) acked stood (BusyRmlv busy is) = absurd (let e = is.0 in cc (e))
  by_command (command.Rmlv name) acked stood (UndrainedRmlv core why some un) = absurd (let e = un.says in cc (e))
  by_command (command.Rmlv name) acked stood (NoVolumeForRmlv core left mid some drains none stays last says) = absurd (cc (says))
  by_command (command.Rmlv name) acked stood (RemovesVolume core left mid lv some drains its done says) = record {
    core = done.leaves.core;
    on = done.leaves.session;
    begun = handed_on done.left old new done.leaves (done.rests refl).0 (done.rests refl).1 (done.held refl (held_mid log.run old new between named stood core left mid some drains));
    own = λ k is.
        let without = told_and old.session (λ c. (n : ℕ) × IsNumberOf c.descriptor.lvs name n × (k ≡ without_volume c.descriptor n)) core some is in
        ap (λ (d : Descriptor). d.id) without.2 ∙ sym (ap (λ (d : Descriptor). d.id) (path_frames drains.runs).keeps.descriptor) ∙ sym (ap (λ (c : Core). c.descriptor.id) (done.leaves.is) ∙ ap (λ (c : Core). c.descriptor.id) done.gives.is);
  }
  by_command (command.Rmlv name) acked stood (RmlvFails core left mid lv why some drains its done says) = absurd (cc (says))
  by_command (command.Mklvcopy name copies) acked stood (NoGroupForMklvcopy none is) = absurd (let e = is.0 in cc (e))
  by_command (command.Mklvcopy name copies) acked stood (BusyMklvcopy busy is) = absurd (let e = is.0 in cc (e))
  by_command (command.Mklvcopy name copies) acked stood (UndrainedMklvcopy core why some un) = absurd (let e = un.says in cc (e))
  by_command (command.Mklvcopy name copies) acked stood (NoVolumeForMklvcopy core left mid some drains none stays last says) = absurd (cc (says))
  by_command (command.Mklvcopy name copies) acked stood (AddsCopies core left mid lv added some drains its done says) = record {
    core = done.leaves.core;
    on = done.leaves.session;
    begun = handed_on done.left old new done.leaves (done.rests refl).0 (done.rests refl).1 (done.held refl (held_mid log.run old new between named stood core left mid some drains));
    own = λ k is.
        with_more_id old core some name copies k is ∙ sym (ap (λ (d : Descriptor). d.id) (path_frames drains.runs).keeps.descriptor) ∙ sym (ap (λ (c : Core). c.descriptor.id) (done.leaves.is) ∙ ap (λ (c : Core). c.descriptor.id) done.gives.is);
  }
  by_command (command.Mklvcopy name copies) acked stood (MklvcopyFails core left mid lv why some drains its done says) = absurd (cc (says))
  by_command (command.Rmlvcopy name copies) acked stood (NoGroupForRmlvcopy none is) = absurd (let e = is.0 in cc (e))
  by_command (command.Rmlvcopy name copies) acked stood (BusyRmlvcopy busy is) = absurd (let e = is.0 in cc (e))
  by_command (command.Rmlvcopy name copies) acked stood (UndrainedRmlvcopy core why some un) = absurd (let e = un.says in cc (e))
  by_command (command.Rmlvcopy name copies) acked stood (NoVolumeForRmlvcopy core left mid some drains none stays last says) = absurd (cc (says))
  by_command (command.Rmlvcopy name copies) acked stood (RemovesCopies core left mid lv some drains its done says) = record {
    core = done.leaves.core;
    on = done.leaves.session;
    begun = handed_on done.left old new done.leaves (done.rests refl).0 (done.rests refl).1 (done.held refl (held_mid log.run old new between named stood core left mid some drains));
    own = λ k is.
        let fewer = told_and old.session (λ c. (n : ℕ) × IsNumberOf c.descriptor.lvs name n × IsWithFirst n copies c k) core some is in
        fewer_id fewer.0 copies core k fewer.2 ∙ sym (ap (λ (d : Descriptor). d.id) (path_frames drains.runs).keeps.descriptor) ∙ sym (ap (λ (c : Core). c.descriptor.id) (done.leaves.is) ∙ ap (λ (c : Core). c.descriptor.id) done.gives.is);
  }
  by_command (command.Rmlvcopy name copies) acked stood (RmlvcopyFails core left mid lv why some drains its done says) = absurd (cc (says))
  by_command (command.Splitlvcopy made name copies) acked stood (NoGroupForSplitlvcopy none is) = absurd (let e = is.0 in cc (e))
  by_command (command.Splitlvcopy made name copies) acked stood (BusySplitlvcopy busy is) = absurd (let e = is.0 in cc (e))
  by_command (command.Splitlvcopy made name copies) acked stood (UndrainedSplitlvcopy core why some un) = absurd (let e = un.says in cc (e))
  by_command (command.Splitlvcopy made name copies) acked stood (NoVolumeForSplitlvcopy core left mid some drains none stays last says) = absurd (cc (says))
  by_command (command.Splitlvcopy made name copies) acked stood (SplitsVolume core left mid lv number some drains its done says) = record {
    core = done.leaves.core;
    on = done.leaves.session;
    begun = handed_on done.left old new done.leaves (done.rests refl).0 (done.rests refl).1 (done.held refl (held_mid log.run old new between named stood core left mid some drains));
    own = λ k is.
        with_split_id old core some made name copies k is ∙ sym (ap (λ (d : Descriptor). d.id) (path_frames drains.runs).keeps.descriptor) ∙ sym (ap (λ (c : Core). c.descriptor.id) (done.leaves.is) ∙ ap (λ (c : Core). c.descriptor.id) done.gives.is);
  }
  by_command (command.Splitlvcopy made name copies) acked stood (SplitlvcopyFails core left mid lv why some drains its done says) = absurd (cc (says))
  by_command _ acked stood does = absurd (cc (acked))

  -- copies have moved as they were to
  moved_leaves : (volume : Option (List ℕ)) (from to moved : ℕ) → StandsForMoves log.run OfRequests old new → MigratepvDoes volume from to old new (reply.Migrated moved) → LeavesOn (Ok (Some (command.Migratepv volume from to))) old new
  moved_leaves volume from to moved may (NoGroupForMoves none is) = absurd (let e = is.0 in cc (e))
  moved_leaves volume from to moved may (NotAskedForMoves core why some not_asked is) = absurd (let e = is.0 in cc (e))
  moved_leaves volume from to moved may (NothingMoves core lv some asked none says same) = record {
    core = core;
    on = ap (λ (s : ScriptState). s.session) same ∙ some;
    only = λ facts kept k it. empty_only log.run old new between named may core some none k (subst (λ (s : ScriptState). MayBeFound s.moment.device core.descriptor.id k) same it);
    own = λ k is. own_moved log.run old new between named may volume from to core some k is;
  }
  moved_leaves volume from to moved may (MovesCopies core lv some asked volumes its) =
      let on = moved_on its.result its.says its.session.on in
      record {
        core = its.end.core;
        on = session_on log.run old new between named may core some volumes lv from to (reply.Migrated moved) its on refl;
        only = λ facts kept k it. only_end log.run old new between named may core some volumes lv from to (reply.Migrated moved) its on k it;
        own = λ k is. own_moved log.run old new between named may volume from to core some k is ∙ sym (end_id log.run old new between named may core some volumes lv from to (reply.Migrated moved) its);
      }
    where
      moved_on : (r : Result ℕ MoveFault) → reply.Migrated moved ≡ move_reply r → IfOk r (λ n. its.end.core.power ≡ power.On) → its.end.core.power ≡ power.On
      moved_on (Ok n) says on = on
      moved_on (Err why) says on = absurd (cc (says))

  pub leaves_on : (read : Result (Option Command) Misfit) (answer : Reply) → is_acknowledged read answer ≡ true → StoodBefore log.run (role_of read) old new → MayMoveCopies log.run read old new → LineDoes log room read old new answer → LeavesOn read old new
  leaves_on (Err misfit) answer acked stood may does = absurd (cc (acked))
  leaves_on (Ok None) answer acked stood may does = absurd (cc (acked))
  leaves_on (Ok (Some c)) reply.Ok acked stood may does = settled_leaves (Ok (Some c)) old new (by_command c acked stood does)
  leaves_on (Ok (Some (command.Migratepv volume from to))) (reply.Migrated moved) acked stood may does = moved_leaves volume from to moved may does
  leaves_on (Ok (Some c)) reply.Silent acked stood may does = absurd (cc (acked))
  leaves_on (Ok (Some c)) reply.Posted acked stood may does = absurd (cc (acked))
  leaves_on (Ok (Some c)) (reply.Stepped turns) acked stood may does = absurd (cc (acked))
  leaves_on (Ok (Some c)) (reply.Synced made) acked stood may does = absurd (cc (acked))
  leaves_on (Ok (Some c)) (reply.Migrated moved) acked stood may does = absurd (cc (acked))
  leaves_on (Ok (Some c)) (reply.Lines text) acked stood may does = absurd (cc (acked))
  leaves_on (Ok (Some c)) (reply.Answers text refused) acked stood may does = absurd (cc (acked))
  leaves_on (Ok (Some c)) (reply.Refused why) acked stood may does = absurd (cc (acked))

-- something was heard of it
pub was_heard : (read : Result (Option Command) Misfit) (answer : Reply) → is_acknowledged read answer ≡ true → IsStuck answer → ⊥
was_heard (Err misfit) answer acked stuck = cc (acked)
was_heard (Ok None) answer acked stuck = cc (acked)
was_heard (Ok (Some c)) reply.Ok acked stuck = cc (stuck)
was_heard (Ok (Some c)) reply.Silent acked stuck = cc (stuck)
was_heard (Ok (Some c)) reply.Posted acked stuck = cc (stuck)
was_heard (Ok (Some c)) (reply.Stepped turns) acked stuck = cc (stuck)
was_heard (Ok (Some c)) (reply.Synced made) acked stuck = cc (stuck)
was_heard (Ok (Some c)) (reply.Migrated moved) acked stuck = cc (stuck)
was_heard (Ok (Some c)) (reply.Lines text) acked stuck = cc (stuck)
was_heard (Ok (Some c)) (reply.Answers text refused) acked stuck = cc (stuck)
was_heard (Ok (Some c)) (reply.Refused why) acked stuck = cc (acked)

-- ---- what then stands

module _ (core : Core) (Before : ℕ → Descriptor → Type 0) (id : ℕ) (k : Descriptor) (only : id ≡ core.descriptor.id → k ≡ core.descriptor) where
  pub stands_of : Before id k ⊎ ((id ≡ k.id) × (k.id ≡ core.descriptor.id)) → StandsOf core Before id k
  stands_of which = by_id (id == core.descriptor.id) refl which
    where
      by_id : (t : Bool) → (id == core.descriptor.id) ≡ t → Before id k ⊎ ((id ≡ k.id) × (k.id ≡ core.descriptor.id)) → StandsOf core Before id k
      by_id true is which = let its = eqb-true id core.descriptor.id is in IsCommitted its (only its)
      by_id false is (inl before) = OfAnother (λ same. (let equal = eq-eqb id core.descriptor.id same in cc (equal, is))) before
      by_id false is (inr committed) = absurd (let equal = eq-eqb id core.descriptor.id (committed.0 ∙ committed.1) in cc (equal, is))
