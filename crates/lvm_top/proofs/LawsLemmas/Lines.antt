-- What is found after a line.
use Rattle.std.proofs.Common.{◌≡◌, ◌⊎◌, inl, ℕ, Bool, true, false, [], List, Option, Some, None, Result, Ok, Err, refl, ap, subst}
use Rattle.lvm_num.specs.declared.descriptor.Descriptor.{Descriptor}
use Rattle.std.specs.Prelude.{IfSome}
use Rattle.lvm_disk.specs.declared.shelf.Arrange.{Arrange}
use Rattle.lvm_disk.specs.declared.shelf.Arrange.TheVariants as arrange
use Rattle.lvm_disk.proofs.StepsLemmas.{arrange_leaves}
use Rattle.lvm_vol.specs.Log.{Log}
use Rattle.lvm_kept.specs.Moments.{Moment}
use Rattle.lvm_parse.specs.declared.command.Command.{Command}
use Rattle.lvm_parse.specs.declared.command.Command.TheVariants as command
use Rattle.lvm_parse.specs.declared.rest.Misfit.{Misfit}
use Rattle.lvm_parse.specs.Grammar.{line_of}
use Rattle.lvm_core.specs.declared.parts.Room.{Room}
use Rattle.lvm_core.specs.Leaves.{MayBeFound}
use Rattle.lvm_line.specs.passed.GroupLines.{IsBetween, IsOnBetween, patience_of_line, IsStuck, ScriptState, IsTimely, Reply, is_unheard, WriteDoes, ReadDoes, NoWriteWhileOn, WriteGoes, NoReadWhileOn, ReadGoes, ArrangeDoes, NotThere, NotPlanned, IsArranged, CutDoes, CutNotPlanned, PowerIsCut}
use Rattle.lvm_line.specs.passed.Quiesce.{RejectedAtOnce, KeptFrom, AskedAtRest}
use Rattle.lvm_line.specs.Lines.{LineDoes, role_of}
use Rattle.lvm_posts.specs.declared.asked.Asked.{Asked}
use Rattle.lvm_posts.specs.declared.posts.Post.{Post}
use Rattle.lvm_posts.specs.declared.fault.RangeFault.{RangeFault}
use Rattle.lvm_posts.specs.declared.fault.RangeFault.TheVariants as range_fault
use Rattle.lvm_line.specs.passed.RangeLines.{EndsBy, GoesOnWith, IsOverWith, CarriesBy, OnVolume, WhileOff, NotThere as VolumeNotThere, There, IsNotAsked, Posts, NotPosted, Posted, IsFinished, Finishes, NotBegun, EndsWell, Fails, StepDoes, NoStepWhileOff, NothingMoves, Steps, FailsIf}
use Rattle.lvm_line.specs.passed.RangeLinesWaiting.{WaitDoes, WhileOff as WaitsWhileOff, AtRest, Awaits, WaitsOff, WaitsOn, WaitEnds, Goes, Over, InVain}
use Rattle.lvm_line.specs.passed.VolumeLines.{IsSynced, NoGroupForSync, NoVolumeForSync, NothingSyncs, OtherGroupForSync, SyncGroupDoes, SyncVolumeDoes, SyncsGroup, SyncsVolume}
use Rattle.lvm_line.specs.passed.Resync.{Copy, SyncFault, group_copies, group_fault, volume_copies, volume_fault}
use Rattle.lvm_steps.specs.Requests.{at as moment_of}
use Rattle.lvm_session.specs.declared.open.Power.{Power}
use Rattle.lvm_session.specs.declared.open.Power.TheVariants as power
use Rattle.lvm_session.specs.Sound.{IsSound}
use Rattle.lvm_session.specs.State.{Core, State, state}
use Rattle.lvm_line.specs.passed.Tie.{LeavesDescriptors, RunsOn}
use Rattle.lvm_line.proofs.passed.Tie.{goes_any, going_leaves}
use Rattle.lvm_top.specs.Laws.{LineFindsNoMore}
use Rattle.lvm_top.specs.Standing.{MayHaveCommitted, MayMoveCopies, StoodBefore}
use Rattle.lvm_top.proofs.Devices.{IsShelf, NothingNew, then_nothing, same_nothing, fewer_nothing}
use Rattle.lvm_top.proofs.StandingLemmas.Groups.{mkvg_finds, varyon_nothing}
use Rattle.lvm_top.proofs.LeavesLemmas.Quiet.{closed_nothing, quiet_nothing, range_stays_nothing, runs_nothing, session_nothing}
use Rattle.lvm_top.proofs.LeavesLemmas.Transfers.{relit_nothing, write_nothing, read_nothing}
use Rattle.lvm_top.proofs.StandingLemmas.Volumes.{mklv_finds, rmlv_finds}
use Rattle.lvm_top.proofs.StandingLemmas.Closing.{varyoff_nothing}
use Rattle.lvm_top.proofs.StandingLemmas.Copying.{mklvcopy_finds, rmlvcopy_finds}
use Rattle.lvm_top.proofs.StandingLemmas.Splitting.{splitlvcopy_finds}
use Rattle.lvm_top.proofs.StandingLemmas.Reducing.{reducevg_finds}
use Rattle.lvm_top.proofs.StandingLemmas.Changing.{chvg_big_finds, chvg_quorum_finds}
use Rattle.lvm_top.proofs.StandingLemmas.Moving.{migratepv_finds}
use Rattle.lvm_raw.specs.Raw.{log_with as log_of}

module _ (log : Log) (old new : ScriptState) (answer : Reply) where
  -- nothing was found that wasn't before
  abbrev pub FindsNothing : Type 0
  FindsNothing = NothingNew old.moment.device new.moment.device

  same_state : new ≡ old → FindsNothing
  same_state same = same_nothing old.moment.device new.moment.device (ap (λ (s : ScriptState). s.moment.device) same)

  rd_nothing : (disk at count : ℕ) → ReadDoes log disk at count old new answer → FindsNothing
  rd_nothing disk at count (NoReadWhileOn on is) = same_state is.1
  rd_nothing disk at count (ReadGoes given off (RejectedAtOnce why is rejected same) risen shows) = same_nothing old.moment.device new.moment.device (ap (λ (m : Moment). m.device) same)
  rd_nothing disk at count (ReadGoes given off (KeptFrom why is may out) risen shows) = range_stays_nothing patience_of_line old.moment.device new.moment.device (log_of log old.moment.facts) (log_of log new.moment.facts) why out
  rd_nothing disk at count (ReadGoes given off (AskedAtRest may once) risen shows) =
      then_nothing old.moment.device once.mid new.moment.device (quiet_nothing old.moment.device once.mid once.quiesces)
      (read_nothing log disk at count once.left (moment_of once.mid old.moment.facts) new.moment given once.goes.gives)

  wr_nothing : (disk at count word : ℕ) → WriteDoes log disk at count word old new answer → FindsNothing
  wr_nothing disk at count word (NoWriteWhileOn on is) = same_state is.1
  wr_nothing disk at count word (WriteGoes given off (RejectedAtOnce why is rejected same) risen says) = same_nothing old.moment.device new.moment.device (ap (λ (m : Moment). m.device) same)
  wr_nothing disk at count word (WriteGoes given off (KeptFrom why is may out) risen says) = range_stays_nothing patience_of_line old.moment.device new.moment.device (log_of log old.moment.facts) (log_of log new.moment.facts) why out
  wr_nothing disk at count word (WriteGoes given off (AskedAtRest may once) risen says) =
      then_nothing old.moment.device once.mid new.moment.device (quiet_nothing old.moment.device once.mid once.quiesces)
      (write_nothing log disk at count word once.left (moment_of once.mid old.moment.facts) new.moment given once.goes.gives)

  arrange_nothing : (disk : ℕ) (what : Arrange) → ArrangeDoes disk what old new answer → FindsNothing
  arrange_nothing disk what (NotThere beyond is) id k it = same_state is.1 id k it
  arrange_nothing disk what (NotPlanned there unplanned is) id k it = same_state is.1 id k it
  arrange_nothing disk what (IsArranged there planned is same) id k it = subst (λ (s : ScriptState). MayBeFound s.moment.device id k) same it

  cut_nothing : (word : ℕ) → CutDoes log word old new answer → FindsNothing
  cut_nothing word (CutNotPlanned unplanned is) = same_state is.1
  cut_nothing word (PowerIsCut planned is cut) =
      then_nothing old.moment.device cut.dark new.moment.device (fewer_nothing old.moment.device cut.dark (arrange_leaves old.moment.device cut.dark (arrange.Cut word) cut.cut)) (relit_nothing cut.dark new.moment.device cut.lit)

-- ---- requests

module _ (old new : ScriptState) (answer : Reply) (between : IsBetween old.moment old.session old.posts) where
  was_sound : (core : Core) → old.session ≡ Some core → IsSound (state old.moment.device core)
  was_sound core some = (subst (λ (o : Option Core). IfSome o (IsOnBetween old.moment.device)) some between.session).sound

  -- what a session leaves that goes on, or is closed
  goes_on_nothing : (end : State) (posts : List Post) (last : ℕ) → GoesOnWith end posts last new → NothingNew end.device new.moment.device
  goes_on_nothing end posts last goes = same_nothing end.device new.moment.device (ap (λ (s : ScriptState). s.moment.device) goes)

  over_nothing : (end : State) (posts : List Post) (last : ℕ) (closed : ScriptState) → IsOverWith end posts last closed → NothingNew end.device closed.moment.device
  over_nothing end posts last closed over = closed_nothing end.core.power end.device closed.moment.device over.shelf

  leaves_nothing : (p : Power) (end : State) (posts : List Post) (last : ℕ) → CarriesBy p end posts last new → NothingNew end.device new.moment.device
  leaves_nothing power.On end posts last left = goes_on_nothing end posts last left
  leaves_nothing power.Off end posts last left = over_nothing end posts last new left
  leaves_nothing power.Dark end posts last left = over_nothing end posts last new left
  leaves_nothing power.Stuck end posts last left = over_nothing end posts last new left

  ends_nothing : (done : Result (Unit {0}) RangeFault) (end : State) (posts : List Post) (last : ℕ) → EndsBy done end posts last new → NothingNew end.device new.moment.device
  ends_nothing (Err range_fault.Stuck) end posts last ended = over_nothing end posts last new ended
  ends_nothing (Err range_fault.Dark) end posts last ended = leaves_nothing end.core.power end posts last ended
  ends_nothing (Err (range_fault.WentOff have total)) end posts last ended = leaves_nothing end.core.power end posts last ended
  ends_nothing (Err range_fault.Lost) end posts last ended = leaves_nothing end.core.power end posts last ended
  ends_nothing (Err range_fault.ReadFailed) end posts last ended = leaves_nothing end.core.power end posts last ended
  ends_nothing (Err (range_fault.NoFresh lp)) end posts last ended = leaves_nothing end.core.power end posts last ended
  ends_nothing (Ok done) end posts last ended = leaves_nothing end.core.power end posts last ended

  -- and the turns before that
  turns_nothing : (core : Core) (end : State) → old.session ≡ Some core → RunsOn (state old.moment.device core) end → NothingNew end.device new.moment.device → NothingNew old.moment.device new.moment.device
  turns_nothing core end some runs then = then_nothing old.moment.device end.device new.moment.device (runs_nothing (state old.moment.device core) end (was_sound core some) between.descriptors runs) then

  finished_nothing : {write : Option ℕ} {done : Result (Unit {0}) RangeFault} (lv at count : ℕ) (core : Core) (end : State) (asked : Asked) → old.session ≡ Some core → IsFinished write lv at count core old new end asked done → NothingNew old.moment.device new.moment.device
  finished_nothing {done = done} lv at count core end asked some its = turns_nothing core end some its.runs (ends_nothing done end old.posts old.last its.ends)

  volume_nothing : (name : List ℕ) (Happens : Core → ℕ → Type 0) → ((core : Core) (lv : ℕ) → old.session ≡ Some core → Happens core lv → NothingNew old.moment.device new.moment.device) → OnVolume name Happens old new answer → NothingNew old.moment.device new.moment.device
  volume_nothing name Happens each (WhileOff off is) = same_nothing old.moment.device new.moment.device (ap (λ (s : ScriptState). s.moment.device) is.1)
  volume_nothing name Happens each (VolumeNotThere core some none is) = same_nothing old.moment.device new.moment.device (ap (λ (s : ScriptState). s.moment.device) is.1)
  volume_nothing name Happens each (There core lv some its happens) = each core lv some happens

  not_asked_nothing : (write : Option ℕ) (lv at count : ℕ) (core : Core) → IsNotAsked write lv at count core old new answer → NothingNew old.moment.device new.moment.device
  not_asked_nothing write lv at count core none = same_nothing old.moment.device new.moment.device (ap (λ (s : ScriptState). s.moment.device) none.refused.1)

  finishes_nothing : (write : Option ℕ) (Tells : State → Asked → Reply → Type 0) (at count : ℕ) (core : Core) (lv : ℕ) → old.session ≡ Some core → Finishes write Tells lv at count core old new answer → NothingNew old.moment.device new.moment.device
  finishes_nothing write Tells at count core lv some (NotBegun none) = not_asked_nothing write lv at count core none
  finishes_nothing write Tells at count core lv some (EndsWell end asked its says) = finished_nothing lv at count core end asked some its
  finishes_nothing write Tells at count core lv some (Fails end asked why its says) = finished_nothing lv at count core end asked some its

  posts_nothing : (at count word : ℕ) (core : Core) (lv : ℕ) → old.session ≡ Some core → Posts lv at count word core old new answer → NothingNew old.moment.device new.moment.device
  posts_nothing at count word core lv some (NotPosted none) = not_asked_nothing (Some word) lv at count core none
  posts_nothing at count word core lv some (Posted its) = turns_nothing core (state old.moment.device its.begun) some its.runs (goes_on_nothing (state old.moment.device its.begun) _ old.last its.goes)

  step_nothing : (turns : ℕ) → StepDoes turns old new answer → NothingNew old.moment.device new.moment.device
  step_nothing turns (NoStepWhileOff off is) = same_nothing old.moment.device new.moment.device (ap (λ (s : ScriptState). s.moment.device) is.1)
  step_nothing turns (NothingMoves core some empty says same) = same_nothing old.moment.device new.moment.device (ap (λ (s : ScriptState). s.moment.device) same)
  step_nothing turns (Steps core some vols its) = turns_nothing core its.end some its.runs (leaves_nothing its.end.core.power its.end old.posts old.last its.leaves)

  synced_nothing : (refused : Core → Option SyncFault) (copies : List Copy) (core : Core) → old.session ≡ Some core → IsSynced refused copies core old new answer → NothingNew old.moment.device new.moment.device
  synced_nothing refused copies core some its = then_nothing old.moment.device its.end.device new.moment.device (session_nothing (state old.moment.device core) its.end (was_sound core some) between.descriptors its.beside.leaves) (by (is_unheard answer) its.leaves)
    where
      by : (b : Bool) → FailsIf b its.end old.posts old.last new → NothingNew its.end.device new.moment.device
      by true ended = over_nothing its.end old.posts old.last new ended
      by false left = leaves_nothing its.end.core.power its.end old.posts old.last left

  sync_volume_nothing : (name : List ℕ) → SyncVolumeDoes name old new answer → NothingNew old.moment.device new.moment.device
  sync_volume_nothing name (NoGroupForSync off is) = same_nothing old.moment.device new.moment.device (ap (λ (s : ScriptState). s.moment.device) is.1)
  sync_volume_nothing name (NoVolumeForSync core some none is) = same_nothing old.moment.device new.moment.device (ap (λ (s : ScriptState). s.moment.device) is.1)
  sync_volume_nothing name (SyncsVolume core lv some of its) = synced_nothing (λ c. volume_fault c lv) (volume_copies core.descriptor lv) core some its

  sync_group_nothing : (name : List ℕ) → SyncGroupDoes name old new answer → NothingNew old.moment.device new.moment.device
  sync_group_nothing name (OtherGroupForSync off is) = same_nothing old.moment.device new.moment.device (ap (λ (s : ScriptState). s.moment.device) is.1)
  sync_group_nothing name (NothingSyncs core some named empty says same) = same_nothing old.moment.device new.moment.device (ap (λ (s : ScriptState). s.moment.device) same)
  sync_group_nothing name (SyncsGroup core some named vols its) = synced_nothing group_fault (group_copies core.descriptor) core some its

  off_nothing : (closed : ScriptState) → WaitsOff closed new answer → NothingNew closed.moment.device new.moment.device
  off_nothing closed waits = same_nothing closed.moment.device new.moment.device (ap (λ (s : ScriptState). s.moment.device) waits.new_is)

  on_nothing : (first : State) → IsSound first → LeavesDescriptors first.device → WaitsOn first old new answer → NothingNew first.device new.moment.device
  on_nothing first sound at waits = then_nothing first.device waits.end.device new.moment.device (runs_nothing first waits.end sound at waits.runs) (goes_on_nothing waits.end [] old.last waits.goes)

  waited_nothing : (mid : State) (left : ℕ) → IsSound mid → LeavesDescriptors mid.device → WaitEnds mid left old new answer → NothingNew mid.device new.moment.device
  waited_nothing mid left sound at (Goes on landed waits) = on_nothing mid sound at waits
  waited_nothing mid left sound at (Over landed waits) =
      then_nothing mid.device waits.closed.moment.device new.moment.device (over_nothing mid old.posts old.last waits.closed waits.ends) (off_nothing waits.closed waits.waits)
  waited_nothing mid left sound at (InVain waits) = over_nothing mid old.posts old.last new waits.ends

  wait_nothing : WaitDoes old new answer → NothingNew old.moment.device new.moment.device
  wait_nothing (WaitsWhileOff waits) = off_nothing old waits
  wait_nothing (AtRest core some empty waits) = on_nothing (state old.moment.device core) (was_sound core some) between.descriptors waits
  wait_nothing (Awaits core some vols waits) =
      let good = going_leaves (state old.moment.device core) waits.mid (was_sound core some) (goes_any waits.runs) in
      turns_nothing core waits.mid some waits.runs (waited_nothing waits.mid waits.left good.0 (good.1.descriptors between.descriptors).leaves waits.ends)

-- ---- any line

module _ (log : Log) (room : Room) (line : List ℕ) (answer : Reply) (old new : ScriptState) (shelf : IsShelf old.moment.device) (between : IsBetween old.moment old.session old.posts) (heard : IsStuck answer → ⊥) (timely : IsTimely log.run old)
    (named : IfSome old.session (λ core. core.history.run ≡ log.run)) where
  pub by_reading : (read : Result (Option Command) Misfit) → line_of line ≡ read → StoodBefore log.run (role_of read) old new → MayMoveCopies log.run read old new → LineDoes log room read old new answer
      → (id : ℕ) (k : Descriptor) → MayBeFound new.moment.device id k → MayBeFound old.moment.device id k ⊎ MayHaveCommitted read answer old new id k
  by_reading (Err misfit) is stood may does id k it = inl (same_state log old new answer does.1 id k it)
  by_reading (Ok None) is stood may does id k it = inl (same_state log old new answer does.1 id k it)
  by_reading (Ok (Some (command.Mkvg force name mib disks))) is stood may does id k it = mkvg_finds log old new answer shelf heard timely line force name mib disks is room does id k it
  by_reading (Ok (Some (command.Varyon name))) is stood may does id k it = inl (varyon_nothing log old new answer shelf heard timely name room does id k it)
  by_reading (Ok (Some (command.Varyoff name))) is stood may does id k it = inl (varyoff_nothing log.run old new between named stood answer name does id k it)
  by_reading (Ok (Some (command.Lsvg volumes name))) is stood may does id k it = inl (same_state log old new answer does.1 id k it)
  by_reading (Ok (Some (command.ChvgQuorum on name))) is stood may does id k it = chvg_quorum_finds log.run old new between named stood answer on name does id k it
  by_reading (Ok (Some (command.ChvgBig name))) is stood may does id k it = chvg_big_finds log.run old new between named stood answer name does id k it
  by_reading (Ok (Some (command.Reducevg name disks))) is stood may does id k it = reducevg_finds log.run old new between named stood answer name disks does id k it
  by_reading (Ok (Some (command.Mklv name copies mode policy group lps))) is stood may does id k it = mklv_finds log.run old new between named stood answer name copies mode policy group lps does id k it
  by_reading (Ok (Some (command.Rmlv name))) is stood may does id k it = rmlv_finds log.run old new between named stood answer name does id k it
  by_reading (Ok (Some (command.Mklvcopy name copies))) is stood may does id k it = mklvcopy_finds log.run old new between named stood answer name copies does id k it
  by_reading (Ok (Some (command.Rmlvcopy name copies))) is stood may does id k it = rmlvcopy_finds log.run old new between named stood answer name copies does id k it
  by_reading (Ok (Some (command.Splitlvcopy made name copies))) is stood may does id k it = splitlvcopy_finds log.run old new between named stood answer made name copies does id k it
  by_reading (Ok (Some (command.Lslv name))) is stood may does id k it = inl (same_state log old new answer does.1 id k it)
  by_reading (Ok (Some (command.Lspv disk))) is stood may does id k it = inl (same_state log old new answer does.1 id k it)
  by_reading (Ok (Some (command.Rd name at count))) is stood may does id k it = inl (volume_nothing old new answer between name _ (λ core lv. finishes_nothing old new answer between None _ at count core lv) does id k it)
  by_reading (Ok (Some (command.Wr name at count word))) is stood may does id k it = inl (volume_nothing old new answer between name _ (λ core lv. finishes_nothing old new answer between (Some word) _ at count core lv) does id k it)
  by_reading (Ok (Some (command.Post name at count word))) is stood may does id k it = inl (volume_nothing old new answer between name _ (λ core lv. posts_nothing old new answer between at count word core lv) does id k it)
  by_reading (Ok (Some command.Wait)) is stood may does id k it = inl (wait_nothing old new answer between does id k it)
  by_reading (Ok (Some (command.SyncVolume name))) is stood may does id k it = inl (sync_volume_nothing old new answer between name does id k it)
  by_reading (Ok (Some (command.SyncGroup name))) is stood may does id k it = inl (sync_group_nothing old new answer between name does id k it)
  by_reading (Ok (Some (command.Migratepv volume from to))) is stood may does id k it = migratepv_finds log.run old new between named may answer volume from to does id k it
  by_reading (Ok (Some (command.Step turns))) is stood may does id k it = inl (step_nothing old new answer between turns does id k it)
  by_reading (Ok (Some (command.RawRd disk at count))) is stood may does id k it = inl (rd_nothing log old new answer disk at count does id k it)
  by_reading (Ok (Some (command.RawWr disk at count word))) is stood may does id k it = inl (wr_nothing log old new answer disk at count word does id k it)
  by_reading (Ok (Some (command.Fail disk))) is stood may does id k it = inl (arrange_nothing log old new answer disk (arrange.Fail disk) does id k it)
  by_reading (Ok (Some (command.Heal disk))) is stood may does id k it = inl (arrange_nothing log old new answer disk (arrange.Heal disk) does id k it)
  by_reading (Ok (Some (command.Cut word))) is stood may does id k it = inl (cut_nothing log old new answer word does id k it)

pub line_finds_no_more : LineFindsNoMore
line_finds_no_more log room line answer old new it few leaves heard timely stood may = by_reading log room line answer old new (record { few = few; whole = it.whole }) it.between heard timely it.named (line_of line) refl stood may it.does
