-- What lines of requests are refused for.
use Rattle.std.proofs.Common.{◌≡◌, ℕ, Bool, true, false, List, Option, Some, None, Result, Ok, Err, if◌then◌else◌, ◌∙◌, ap, subst, arith}
use Rattle.std.specs.Prelude.{IfErr}
use Rattle.lvm_num.specs.Votes.{total_votes}
use Rattle.lvm_disk.specs.Counts.{Counts}
use Rattle.lvm_disk.proofs.CountingLemmas.{rose_after}
use Rattle.lvm_session.specs.declared.answers.Turned.{Turned}
use Rattle.lvm_session.specs.declared.answers.Turned.TheVariants as turned
use Rattle.lvm_session.specs.Calls.{has_numbers}
use Rattle.lvm_session.specs.State.{Core, State, votes_there}
use Rattle.lvm_volume_lines.proofs.passed.KeepsEvents.{votes_go}
use Rattle.lvm_line.proofs.CausesLemmas.Votes.{moved_votes_go}
use Rattle.lvm_num.specs.declared.descriptor.Descriptor.{Descriptor}
use Rattle.lvm_num.specs.Status.{calls_missing}
use Rattle.lvm_session.specs.declared.open.Power.TheVariants as power
use Rattle.lvm_posts.specs.declared.asked.Asked.{Asked}
use Rattle.lvm_posts.specs.declared.fault.RangeFault.{RangeFault}
use Rattle.lvm_posts.specs.declared.fault.RangeFault.TheVariants as fault
use Rattle.lvm_volume_lines.specs.passed.Ranges.{AskRangeFault, RangeCause}
use Rattle.lvm_volume_lines.specs.passed.AskRangeFaultVariants as ask
use Rattle.lvm_volume_lines.specs.Resyncing.{IsSynced, NoGroupForSync, NoVolumeForSync, NothingSyncs, OtherGroupForSync, SyncGroupDoes, SyncVolumeDoes, SyncsGroup, SyncsVolume, sync_reply}
use Rattle.lvm_volume_lines.specs.passed.Resync.{Copy, SyncCause, SyncFault, group_copies, group_fault, volume_copies, volume_fault}
use Rattle.lvm_volume_lines.specs.passed.SyncFaultVariants as sync
use Rattle.lvm_volume_lines.specs.passed.RangeLines.{FailsBy, FailsIf, CarriesBy, StopsAs, session_over, Tells, TellsAll, TellsNone, Ending, ask_refusal, range_refusal, EndsWell, Fails, IsFinished, Finishes, NoMemory, NotBegun, NotPosted, NotThere, OnVolume, Posted, Posts, PostDoes, RdDoes, ShowsBlocks, ShowsThem, There, WhileOff, WrDoes, NoStepWhileOff, NothingMoves, StepDoes, Steps, step_reply}
use Rattle.lvm_volume_lines.specs.passed.RangeLinesWaiting.{AtRest, Awaits, Goes, InVain, Over, WaitDoes, WaitEnds, WhileOff as WaitsWhileOff}
use Rattle.lvm_volume_lines.specs.passed.GroupLines.{InFull, IsBetween, Shows, WithoutMemory, ScriptState, Refusal, Reply, is_unheard, patience_of_line}
use Rattle.lvm_volume_lines.specs.passed.RefusalVariants as refusal
use Rattle.lvm_volume_lines.specs.passed.ReplyVariants as reply
use Rattle.lvm_volume_lines.proofs.passed.Ranges.{off_votes}
use Rattle.lvm_volume_lines.proofs.passed.Tie.{goes_any, path_shape}
use Rattle.lvm_move_lines.specs.Asking.{IsNotAsked}
use Rattle.lvm_move_lines.specs.Moving.{IsMigrated, MigratepvDoes, MovesCopies, NoGroupForMoves, NotAskedForMoves, NothingMoves as MovesNone, empty_reply, move_reply}
use Rattle.lvm_move_lines.specs.passed.Migrate.{MoveCause, MoveFault}
use Rattle.lvm_move_lines.specs.passed.MoveFaultVariants as move
use Rattle.lvm_volume_lines.specs.passed.Tie.{MovesOn}
use Rattle.lvm_line.specs.Causes.{TurnCause}
use Rattle.lvm_line.proofs.CausesLemmas.Turns.{WentWithin, by_moves, dark_cause, failed_cause, fails_counts, leaves_counts, moves_on, off_cause, over_counts, stuck_cause, went_dark, went_off, went_waiting}

-- what has happened for it; no group is on where nothing was heard of a transfer; and it isn't that votes are lacking for a quorum
pub record Told (why : Refusal) (old new : ScriptState) : Type 0 where
  pub cause : TurnCause why old new
  pub off : why ≡ refusal.Stuck → new.session ≡ None
  pub counted : (have total : ℕ) → why ≡ refusal.NoQuorum have total → ⊥

told_by : (why other : Refusal) (old new : ScriptState) → reply.Refused why ≡ reply.Refused other → Told other old new → Told why old new
told_by why other old new is told = subst (λ (r : Refusal). Told r old new) (cc (is)) told

told_easy : (why : Refusal) (old new : ScriptState) → TurnCause why old new → (why ≡ refusal.Stuck → ⊥) → ((have total : ℕ) → why ≡ refusal.NoQuorum have total → ⊥) → Told why old new
told_easy why old new cause stuck counted = record { cause = cause; off = λ is. absurd (stuck is); counted = counted }

told_ask : (why : AskRangeFault) (old new : ScriptState) → Told (ask_refusal why) old new
told_ask ask.NoVolume old new = told_easy _ old new tt (λ e. cc) (λ h t e. cc)
told_ask _ old new = told_easy _ old new tt (λ e. cc) (λ h t e. cc)

told_of : (answers : List Ending) (why : Refusal) (old new : ScriptState) → Tells answers (reply.Refused why) → Told why old new
told_of answers why old new (TellsAll is) = absurd (cc (is))
told_of answers why old new (TellsNone is) = told_by why refusal.Memory old new is (told_easy refusal.Memory old new tt (λ e. cc) (λ h t e. cc))

volume_told : (name : List ℕ) (Happens : Core → ℕ → Type 0) (why : Refusal) (old new : ScriptState) → ((core : Core) (lv : ℕ) → old.session ≡ Some core → Happens core lv → Told why old new) → OnVolume name Happens old new (reply.Refused why)
    → Told why old new
volume_told name Happens why old new told (WhileOff off is) = told_by why refusal.NoGroup old new is.0 (told_easy refusal.NoGroup old new tt (λ e. cc) (λ h t e. cc))
volume_told name Happens why old new told (NotThere core some none is) = told_by why refusal.NoVolume old new is.0 (told_easy refusal.NoVolume old new tt (λ e. cc) (λ h t e. cc))
volume_told name Happens why old new told (There core lv some its happens) = told core lv some happens

-- a line over a state that stands between lines
module _ (old new : ScriptState) (between : IsBetween old.moment old.session old.posts) where
  -- ---- rd and wr

  module _ (write : Option ℕ) (Says : State → Asked → Reply → Type 0) (lv at count : ℕ) (core : Core) (some : old.session ≡ Some core) (end : State) (asked : Asked) where
    range_told : (why : RangeFault) → IsFinished write lv at count core old new end asked (Err why) → Told (range_refusal why) old new
    range_told why its = by why its.caused its.ends
      where
        counts : CarriesBy end.core.power end old.posts old.last new → new.moment.device.counts ≡ end.device.counts
        counts left = leaves_counts end old.posts old.last new left

        by : (w : RangeFault) → RangeCause lv its.left (session_over old core) end w → FailsBy w end old.posts old.last new → Told (range_refusal w) old new
        by fault.Dark dark left = told_easy _ old new (dark_cause old new core end between (goes_any its.runs) its.sound (counts left) dark) (λ e. cc) (λ h t e. cc)
        by fault.Stuck none over = record {
          cause = stuck_cause old new core end between (goes_any its.runs) its.sound (over_counts end old.posts old.last new over) its.left none its.waited;
          off = λ is. over.session;
          counted = λ h t e. cc;
        }
        by (fault.WentOff have total) lost left = told_easy _ old new (off_cause old new core end between (goes_any its.runs) its.sound (counts left) have total some (lost.0, lost.1) lost.2) (λ e. cc) (λ h t e. cc)
        by fault.Lost lost left = told_easy _ old new (failed_cause old new core end between (goes_any its.runs) its.sound (counts left) lost) (λ e. cc) (λ h t e. cc)
        by fault.ReadFailed lost left = told_easy _ old new (failed_cause old new core end between (goes_any its.runs) its.sound (counts left) lost) (λ e. cc) (λ h t e. cc)
        by (fault.NoFresh lp) none left = told_easy _ old new tt (λ e. cc) (λ h t e. cc)

  module _ (write : Option ℕ) (Says : State → Asked → Reply → Type 0) (why : Refusal) (says : (end : State) (asked : Asked) → Says end asked (reply.Refused why) → Told why old new) where
    finish_told : (lv at count : ℕ) (core : Core) → old.session ≡ Some core → Finishes write Says lv at count core old new (reply.Refused why) → Told why old new
    finish_told lv at count core some (NotBegun none) = told_by why (ask_refusal none.why) old new none.refused.0 (told_ask none.why old new)
    finish_told lv at count core some (EndsWell end asked done shows) = says end asked shows
    finish_told lv at count core some (Fails end asked failed done is) = told_by why (range_refusal failed) old new is (range_told write Says lv at count core some end asked failed done)

  blocks_told : (at : ℕ) (why : Refusal) (end : State) (asked : Asked) → ShowsBlocks at end asked (reply.Refused why) → Told why old new
  blocks_told at why end asked (ShowsThem got) = by got.shows
    where
      by : {text : List ℕ} → Shows text (reply.Refused why) → Told why old new
      by (InFull is) = absurd (cc (is))
      by (WithoutMemory is) = told_by why refusal.Memory old new is (told_easy refusal.Memory old new tt (λ e. cc) (λ h t e. cc))
  blocks_told at why end asked (NoMemory is) = told_by why refusal.Memory old new is (told_easy refusal.Memory old new tt (λ e. cc) (λ h t e. cc))

  pub rd_told : (name : List ℕ) (at count : ℕ) (why : Refusal) → RdDoes name at count old new (reply.Refused why) → Told why old new
  rd_told name at count why does = volume_told name (λ core lv. Finishes None (ShowsBlocks at) lv at count core old new (reply.Refused why)) why old new
      (λ core lv some done. finish_told None (ShowsBlocks at) why (blocks_told at why) lv at count core some done) does

  pub wr_told : (name : List ℕ) (at count word : ℕ) (why : Refusal) → WrDoes name at count word old new (reply.Refused why) → Told why old new
  wr_told name at count word why does = volume_told name (λ core lv. Finishes (Some word) (λ end asked says. says ≡ reply.Ok) lv at count core old new (reply.Refused why)) why old new
      (λ core lv some done. finish_told (Some word) (λ end asked says. says ≡ reply.Ok) why (λ end asked is. absurd (cc (is))) lv at count core some done) does

  -- ---- post and wait

  post_told_on : (lv at count word : ℕ) (core : Core) (why : Refusal) → Posts lv at count word core old new (reply.Refused why) → Told why old new
  post_told_on lv at count word core why (NotPosted none) = told_by why (ask_refusal none.why) old new none.refused.0 (told_ask none.why old new)
  post_told_on lv at count word core why (Posted posts) = absurd (let e = posts.says in cc (e))

  pub post_told : (name : List ℕ) (at count word : ℕ) (why : Refusal) → PostDoes name at count word old new (reply.Refused why) → Told why old new
  post_told name at count word why does = volume_told name (λ core lv. Posts lv at count word core old new (reply.Refused why)) why old new (λ core lv some posts. post_told_on lv at count word core why posts) does

  pub wait_told : (why : Refusal) → WaitDoes old new (reply.Refused why) → Told why old new
  wait_told why (WaitsWhileOff waits) = told_of waits.answers why old new waits.tells
  wait_told why (AtRest core some none waits) = told_of waits.answers why old new waits.tells
  wait_told why (Awaits core some volumes waits) = by waits.ends
    where
      by : WaitEnds waits.mid waits.left old new (reply.Refused why) → Told why old new
      by (Goes on landed goes) = told_of goes.answers why old new goes.tells
      by (Over landed over) = told_of over.waits.answers why old new over.waits.tells
      by (InVain vain) = told_by why refusal.Stuck old new vain.says (record {
        cause = stuck_cause old new core waits.mid between (goes_any waits.runs) waits.sound (over_counts waits.mid old.posts old.last new vain.ends) waits.left vain.none waits.waited;
        off = λ is. vain.ends.session;
        counted = λ h t e. cc;
      })

  -- ---- syncvg

  synced_told : (refused : Core → Option SyncFault) (copies : List Copy) (core : Core) (why : Refusal) → old.session ≡ Some core → IsSynced refused copies core old new (reply.Refused why) → Told why old new
  synced_told refused copies core why some its = by its.result its.caused its.says
    where
      end : State
      end = its.end

      counts : new.moment.device.counts ≡ end.device.counts
      counts = fails_counts end old.posts old.last new (is_unheard (reply.Refused why)) its.leaves

      unheard : is_unheard (reply.Refused why) ≡ true → new.session ≡ None
      unheard is = (subst (λ (b : Bool). FailsIf b end old.posts old.last new) is its.leaves).session

      by : (r : Result ℕ SyncFault) → IfErr r (SyncCause its.left (session_over old core) end) → reply.Refused why ≡ sync_reply end.core r → Told why old new
      by (Ok made) caused is = absurd (cc (is))
      by (Err sync.Dark) dark is = told_by why refusal.Dark old new is (told_easy refusal.Dark old new (dark_cause old new core end between its.beside.leaves its.sound counts dark) (λ e. cc) (λ h t e. cc))
      by (Err sync.Off) off is = told_by why _ old new is (told_easy (refusal.WentOff (votes_there end.core) (total_votes end.core.descriptor)) old new
          (off_cause old new core end between its.beside.leaves its.sound counts (votes_there end.core) (total_votes end.core.descriptor) some (off_votes end its.sound off)
          (votes_go (session_over old core) end (path_shape its.beside.leaves).descriptor its.beside.loses (its.sound.off off))) (λ e. cc) (λ h t e. cc))
      by (Err sync.Stuck) none is = told_by why refusal.Stuck old new is
          (record { cause = stuck_cause old new core end between its.beside.leaves its.sound counts its.left none its.beside.waited; off = λ stuck. unheard (ap is_unheard is); counted = λ h t e. cc })
      by (Err sync.Busy) caused is = told_by why refusal.Busy old new is (told_easy refusal.Busy old new tt (λ e. cc) (λ h t e. cc))
      by (Err sync.NoVolume) caused is = told_by why refusal.NoVolume old new is (told_easy refusal.NoVolume old new tt (λ e. cc) (λ h t e. cc))
      by (Err sync.OutOfRange) caused is = told_by why refusal.NoVolume old new is (told_easy refusal.NoVolume old new tt (λ e. cc) (λ h t e. cc))
      by (Err sync.HistoryFull) caused is = told_by why refusal.HistoryFull old new is (told_easy refusal.HistoryFull old new tt (λ e. cc) (λ h t e. cc))
      by (Err (sync.SyncFailed disk)) failed is = told_by why _ old new is (told_easy (refusal.SyncFailed disk) old new (record {
        core = core;
        on = some;
        failed = (failed.0, rose_after failed.1 (let same = ap (λ (n : Counts). n.faults failed.0) counts in omega (arith, same)));
      }) (λ e. cc) (λ h t e. cc))
      by (Err (sync.NoFresh lp)) caused is = told_by why _ old new is (told_easy (refusal.NoFresh lp) old new tt (λ e. cc) (λ h t e. cc))
      by (Err (sync.Missing disk)) caused is = told_by why _ old new is (told_easy (refusal.Missing disk) old new tt (λ e. cc) (λ h t e. cc))

  pub sync_volume_told : (name : List ℕ) (why : Refusal) → SyncVolumeDoes name old new (reply.Refused why) → Told why old new
  sync_volume_told name why (NoGroupForSync off is) = told_by why refusal.NoGroup old new is.0 (told_easy refusal.NoGroup old new tt (λ e. cc) (λ h t e. cc))
  sync_volume_told name why (NoVolumeForSync core some none is) = told_by why refusal.NoVolume old new is.0 (told_easy refusal.NoVolume old new tt (λ e. cc) (λ h t e. cc))
  sync_volume_told name why (SyncsVolume core lv some of its) = synced_told (λ c. volume_fault c lv) (volume_copies core.descriptor lv) core why some its

  pub sync_group_told : (name : List ℕ) (why : Refusal) → SyncGroupDoes name old new (reply.Refused why) → Told why old new
  sync_group_told name why (OtherGroupForSync off is) = told_by why refusal.NoGroup old new is.0 (told_easy refusal.NoGroup old new tt (λ e. cc) (λ h t e. cc))
  sync_group_told name why (NothingSyncs core some named none is same) = by (has_numbers core) is
    where
      by : (b : Bool) → reply.Refused why ≡ (if b then reply.Synced 0 else reply.Refused refusal.HistoryFull) → Told why old new
      by true e = absurd (cc (e))
      by false e = told_by why refusal.HistoryFull old new e (told_easy refusal.HistoryFull old new tt (λ i. cc) (λ h t i. cc))
  sync_group_told name why (SyncsGroup core some named volumes its) = synced_told group_fault (group_copies core.descriptor) core why some its

  -- ---- migratepv

  migrated_told : (lv : Option ℕ) (from to : ℕ) (core : Core) (why : Refusal) → old.session ≡ Some core → IsMigrated lv from to core old new (reply.Refused why) → Told why old new
  migrated_told lv from to core why some its = by its.result its.session.caused its.says
    where
      end : State
      end = its.end

      moves : MovesOn (session_over old core) end
      moves = moves_on old new between core end some its.session.way.leaves

      went : WentWithin old core end
      went = by_moves old core end moves

      counts : new.moment.device.counts ≡ end.device.counts
      counts = fails_counts end old.posts old.last new (is_unheard (reply.Refused why)) its.leaves

      unheard : is_unheard (reply.Refused why) ≡ true → new.session ≡ None
      unheard is = (subst (λ (b : Bool). FailsIf b end old.posts old.last new) is its.leaves).session

      told_off : (have total : ℕ) → end.core.power ≡ power.Off → have ≡ votes_there end.core → total ≡ total_votes end.core.descriptor → reply.Refused why ≡ reply.Refused (refusal.WentOff have total) → Told why old new
      told_off have total off have_is total_is is =
          told_by why _ old new (is ∙ ap (λ n. reply.Refused (refusal.WentOff n total)) have_is ∙ ap (λ n. reply.Refused (refusal.WentOff (votes_there end.core) n)) total_is) (told_easy (refusal.WentOff (votes_there end.core) (total_votes end.core.descriptor)) old new
          (went_off old new core end between went its.sound counts (votes_there end.core) (total_votes end.core.descriptor) some (off_votes end its.sound off)
          (moved_votes_go (session_over old core) end moves.keeps.alike its.session.way.loses (its.sound.off off))) (λ e. cc) (λ h t e. cc))

      by : (r : Result ℕ MoveFault) → IfErr r (MoveCause patience_of_line (session_over old core) end) → reply.Refused why ≡ move_reply r → Told why old new
      by (Ok moved) caused is = absurd (cc (is))
      by (Err move.Dark) dark is = told_by why refusal.Dark old new is (told_easy refusal.Dark old new (went_dark old new core end between went its.sound counts dark) (λ e. cc) (λ h t e. cc))
      by (Err (move.WentOff have total)) off is = told_off have total off.0 off.1 off.2 is
      by (Err move.Stuck) waited is = told_by why refusal.Stuck old new is
          (record { cause = went_waiting old new core end between went its.sound counts waited; off = λ stuck. unheard (ap is_unheard is); counted = λ h t e. cc })
      by (Err (move.SyncFailed disk)) failed is = told_by why _ old new is (told_easy (refusal.SyncFailed disk) old new (record {
        core = core;
        on = some;
        failed = (failed.0, rose_after failed.1 (let same = ap (λ (n : Counts). n.faults failed.0) counts in omega (arith, same)));
      }) (λ e. cc) (λ h t e. cc))
      by (Err move.Busy) caused is = told_by why refusal.Busy old new is (told_easy refusal.Busy old new tt (λ e. cc) (λ h t e. cc))
      by (Err (move.Missing disk)) caused is = told_by why _ old new is (told_easy (refusal.Missing disk) old new tt (λ e. cc) (λ h t e. cc))
      by (Err (move.Strict lp)) caused is = told_by why _ old new is (told_easy (refusal.Strict lp) old new tt (λ e. cc) (λ h t e. cc))
      by (Err (move.NoRoom free)) caused is = told_by why _ old new is (told_easy (refusal.NoRoom free) old new tt (λ e. cc) (λ h t e. cc))
      by (Err move.HistoryFull) caused is = told_by why refusal.HistoryFull old new is (told_easy refusal.HistoryFull old new tt (λ e. cc) (λ h t e. cc))
      by (Err (move.NoFresh lp)) caused is = told_by why _ old new is (told_easy (refusal.NoFresh lp) old new tt (λ e. cc) (λ h t e. cc))
      by (Err move.Memory) caused is = told_by why refusal.Memory old new is (told_easy refusal.Memory old new tt (λ e. cc) (λ h t e. cc))

  not_asked_told : (d : Descriptor) (volume : Option (List ℕ)) (from to : ℕ) (why : Refusal) → IsNotAsked d volume from to why → Told why old new
  not_asked_told d volume from to (refusal.NoDisk disk) it = told_easy (refusal.NoDisk disk) old new tt (λ e. cc) (λ h t e. cc)
  not_asked_told d volume from to refusal.NoVolume it = told_easy refusal.NoVolume old new tt (λ e. cc) (λ h t e. cc)
  not_asked_told d volume from to why it = absurd it

  empty_told : (core : Core) (to : ℕ) (why : Refusal) → reply.Refused why ≡ empty_reply core to → Told why old new
  empty_told core to why is = by (calls_missing core.status.committed to) (has_numbers core) is
    where
      by : (missing numbers : Bool) → reply.Refused why ≡ (if missing then reply.Refused (refusal.Missing to) else if numbers then reply.Migrated 0 else reply.Refused refusal.HistoryFull) → Told why old new
      by true numbers e = told_by why (refusal.Missing to) old new e (told_easy (refusal.Missing to) old new tt (λ i. cc) (λ h t i. cc))
      by false true e = absurd (cc (e))
      by false false e = told_by why refusal.HistoryFull old new e (told_easy refusal.HistoryFull old new tt (λ i. cc) (λ h t i. cc))

  pub migratepv_told : (volume : Option (List ℕ)) (from to : ℕ) (why : Refusal) → MigratepvDoes volume from to old new (reply.Refused why) → Told why old new
  migratepv_told volume from to why (NoGroupForMoves off is) = told_by why refusal.NoGroup old new is.0 (told_easy refusal.NoGroup old new tt (λ e. cc) (λ h t e. cc))
  migratepv_told volume from to why (NotAskedForMoves core other some not_asked is) = told_by why other old new is.0 (not_asked_told core.descriptor volume from to other not_asked)
  migratepv_told volume from to why (MovesNone core lv some asked none says same) = empty_told core to why says
  migratepv_told volume from to why (MovesCopies core lv some asked volumes its) = migrated_told lv from to core why some its

  -- ---- step

  pub step_told : (turns : ℕ) (why : Refusal) → StepDoes turns old new (reply.Refused why) → Told why old new
  step_told turns why (NoStepWhileOff off is) = told_by why refusal.NoGroup old new is.0 (told_easy refusal.NoGroup old new tt (λ e. cc) (λ h t e. cc))
  step_told turns why (NothingMoves core some none is same) = absurd (cc (is))
  step_told turns why (Steps core some volumes stepped) = by stepped.how stepped.stops stepped.says
    where
      end : State
      end = stepped.end

      counts : new.moment.device.counts ≡ end.device.counts
      counts = leaves_counts end old.posts old.last new stepped.leaves

      by : (how : Turned) → StopsAs how end.core.power → reply.Refused why ≡ step_reply stepped.moved end how → Told why old new
      by turned.Moved stops is = absurd (cc (is))
      by turned.Idle stops is = absurd (cc (is))
      by turned.Dark dark is = told_by why refusal.Dark old new is (told_easy refusal.Dark old new (dark_cause old new core end between (goes_any stepped.runs) stepped.sound counts dark) (λ e. cc) (λ h t e. cc))
      by turned.Off off is = told_by why _ old new is (told_easy (refusal.WentOff (votes_there end.core) (total_votes end.core.descriptor)) old new
          (off_cause old new core end between (goes_any stepped.runs) stepped.sound counts (votes_there end.core) (total_votes end.core.descriptor) some (off_votes end stepped.sound off)
          (stepped.votes (stepped.sound.off off))) (λ e. cc) (λ h t e. cc))
