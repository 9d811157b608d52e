-- What requests land as in lines in which nothing fails.
use Rattle.std.proofs.Common.{◌≡◌, inl, inr, ◌+◌, ◌++◌, ℕ, zero, suc, Bool, true, false, List, [], ◌∷◌, Option, Some, None, Result, Ok, refl, sym, ◌∙◌, ap, subst, arith}
use Rattle.std.specs.Prelude.{IfSome, codes, slice_index_or}
use Rattle.std.proofs.lemmas.List.{append-nil, append_assoc}
use Rattle.lvm_disk.specs.Counts.{Counts, Rose}
use Rattle.lvm_disk.specs.Device.{Device}
use Rattle.lvm_vol.specs.Facts.{Fact}
use Rattle.lvm_vol.specs.Log.{Log, taken_fact}
use Rattle.lvm_parse.specs.declared.command.Command.{Command}
use Rattle.lvm_parse.specs.declared.command.Command.TheVariants as command
use Rattle.lvm_parse.specs.declared.rest.Misfit.{Misfit}
use Rattle.lvm_parse.specs.Grammar.{line_of}
use Rattle.lvm_core.specs.declared.parts.Room.{Room}
use Rattle.lvm_session.specs.declared.open.Power.{Power}
use Rattle.lvm_session.specs.declared.open.Power.TheVariants as power
use Rattle.lvm_session.specs.declared.origin.Origin.{Origin}
use Rattle.lvm_session.specs.Causes.{AnyFailedSince}
use Rattle.lvm_session.specs.Sound.{IsSound, is_dark}
use Rattle.lvm_session.specs.State.{Core, State, state}
use Rattle.lvm_posts.specs.declared.asked.Asked.{Asked}
use Rattle.lvm_posts.specs.declared.posts.Post.{Post}
use Rattle.lvm_posts.specs.Posts.{takings}
use Rattle.lvm_load.specs.Landing.{EntersWell}
use Rattle.lvm_load.specs.MovingLanding.{EntersOnWay, KeepsMovingFrame, LeavesMoving}
use Rattle.lvm_load.proofs.MovingLandingLemmas.{frame_later, requests_land_on_way}
use Rattle.lvm_load.proofs.LandingLemmas.{enters_both, enters_none, enters_one, leaves_nothing, leaves_then, requests_land_well, sound_later}
use Rattle.lvm_top.specs.passed.Line.{IsLine, LineDoes, role_of}
use Rattle.lvm_top.specs.passed.ReplyVariants as reply
use Rattle.lvm_top.specs.passed.GroupLines.{IsBetween, IsOnBetween, IsRequesting, Reply, ScriptState, is_unheard}
use Rattle.lvm_top.specs.passed.RangeLines.{CarriesBy, EndsWell, Fails, FailsIf, Finishes, NoStepWhileOff, NotBegun, NotPosted, NotThere, NothingMoves, OnVolume, Posted, Posts, StepDoes, Steps, There, WhileOff, Ending, is_stuck}
use Rattle.lvm_top.specs.passed.RangeLinesWaiting.{TellsAll, AtRest, Awaits, Goes, InVain, Over, WaitDoes, WaitEnds, WaitsOn, WhileOff as WaitsWhileOff, NoGone, OneGone, TakesGone, WaitsOver}
use Rattle.lvm_top.specs.passed.MoveLines.{MigratepvDoes, MovesCopies, NoGroupForMoves, NotAskedForMoves, NothingMoves as NoneMoves}
use Rattle.lvm_top.specs.passed.Resync.{Copy, SyncFault}
use Rattle.lvm_top.specs.passed.Tie.{LeavesSession}
use Rattle.lvm_top.specs.passed.VolumeLines.{IsSynced, NoGroupForSync, NoVolumeForSync, NothingSyncs, OtherGroupForSync, SyncGroupDoes, SyncVolumeDoes, SyncsGroup, SyncsVolume}
use Rattle.lvm_top.proofs.passed.Line.{fails_counts, leaves_counts, over_counts}
use Rattle.lvm_top.proofs.passed.GroupLines.{same_goes}
use Rattle.lvm_top.proofs.passed.Tie.{goes_any, path_shape}
use Rattle.lvm_parse.specs.Reading.{ends}
use Rattle.lvm_program.specs.Landing.{LandsIn, LandsInLine, LandsOnWay, LinesLandWell, NothingSince, SomeLineLandsWell}

-- ---- answers that are taken

takings_enter : (core : Core) (facts : List Fact) (id n : ℕ) → EntersWell core facts (facts ++ takings facts id n)
takings_enter core facts id zero = enters_none core facts (facts ++ []) (append-nil facts)
takings_enter core facts id (suc n) =
    enters_both core facts (facts ++ takings facts id n) (facts ++ (takings facts id n ++ taken_fact facts (id + n) ∷ [])) (takings_enter core facts id n)
    (enters_one core (facts ++ takings facts id n) (facts ++ (takings facts id n ++ taken_fact facts (id + n) ∷ [])) (taken_fact facts (id + n)) (sym (append_assoc facts (takings facts id n) (taken_fact facts (id + n) ∷ []))) tt)

gone_enter : (core : Core) {first : List Fact} {posts : List Post} {facts : List Fact} {answers : List Ending} → TakesGone first posts facts answers → EntersWell core first facts
gone_enter core {first} NoGone = enters_none core first first refl
gone_enter core {first} (OneGone {facts = facts} before post have total answer is ends) =
    enters_both core first facts (facts ++ takings facts post.asked.first post.asked.pieces) (gone_enter core before) (takings_enter core facts post.asked.first post.asked.pieces)

-- ---- what a line leaves of its session

left_facts : (end : State) (posts : List Post) (last : ℕ) (new : ScriptState) (p : Power) → CarriesBy p end posts last new → new.moment.facts ≡ end.core.history.facts
left_facts end posts last new power.On is = ap (λ (s : ScriptState). s.moment.facts) is
left_facts end posts last new power.Off over = over.facts
left_facts end posts last new power.Dark over = over.facts
left_facts end posts last new power.Stuck over = over.facts

fails_facts : (end : State) (posts : List Post) (last : ℕ) (new : ScriptState) (b : Bool) → FailsIf b end posts last new → new.moment.facts ≡ end.core.history.facts
fails_facts end posts last new true over = over.facts
fails_facts end posts last new false left = left_facts end posts last new end.core.power left

module _ (old new : ScriptState) (between : IsBetween old.moment old.session old.posts) (nothing : NothingSince old new) where
  module _ (core : Core) (on : old.session ≡ Some core) where
    on_first : IsOnBetween old.moment.device core
    on_first = subst (λ (o : Option Core). IfSome o (IsOnBetween old.moment.device)) on between.session

    enters : (end : State) → LeavesSession (state old.moment.device core) end → new.moment.device.counts ≡ end.device.counts → EntersWell core core.history.facts end.core.history.facts
    enters end leaves counts = requests_land_well (state old.moment.device core) end on_first.sound leaves none lit
      where
        none : AnyFailedSince end → ⊥
        none failed = subst (λ (o : Option Core). IfSome o (λ (c : Core). AnyFailedSince (state new.moment.device c) → ⊥)) on nothing.none (
          failed.0,
          subst (λ (n : Counts). Rose (slice_index_or core.origin.faults failed.0 0) (n.faults failed.0)) (sym counts)
              (subst (λ (o : Origin). Rose (slice_index_or o.faults failed.0 0) (end.device.counts.faults failed.0)) (path_shape leaves).origin failed.1),
        )

        lit : end.core.power ≡ power.Dark → ⊥
        lit dark = nothing.lit (subst (λ (n : Counts). Rose old.moment.device.counts.cuts n.cuts) (sym counts)
            ((path_shape leaves).cut between.lit.power ((sound_later (state old.moment.device core) end on_first.sound leaves).dark (ap is_dark dark)).power))

    -- to this state
    lands : (end : State) → LeavesSession (state old.moment.device core) end → new.moment.device.counts ≡ end.device.counts → EntersWell core end.core.history.facts new.moment.facts → LandsInLine old new
    lands end leaves counts more =
        inr (subst (λ (o : Option Core). IfSome o (λ c. EntersWell c c.history.facts new.moment.facts)) (sym on)
        (enters_both core core.history.facts end.core.history.facts new.moment.facts (enters end leaves counts) more))

    carried : (end : State) → LeavesSession (state old.moment.device core) end → CarriesBy end.core.power end old.posts old.last new → LandsInLine old new
    carried end leaves left =
        lands end leaves (leaves_counts end old.posts old.last new left)
        (enters_none core end.core.history.facts new.moment.facts (left_facts end old.posts old.last new end.core.power left))

    failed : (b : Bool) (end : State) → LeavesSession (state old.moment.device core) end → FailsIf b end old.posts old.last new → LandsInLine old new
    failed b end leaves left =
        lands end leaves (fails_counts end old.posts old.last new b left) (enters_none core end.core.history.facts new.moment.facts (fails_facts end old.posts old.last new b left))

    waits_on : (answer : Reply) (mid : State) → LeavesSession (state old.moment.device core) mid → WaitsOn mid old new answer → LandsInLine old new
    waits_on answer mid leaves waits =
        lands waits.end (leaves_then (state old.moment.device core) mid waits.end leaves (goes_any waits.runs))
        (ap (λ (s : ScriptState). s.moment.device.counts) waits.goes)
        (enters_none core waits.end.core.history.facts new.moment.facts (ap (λ (s : ScriptState). s.moment.facts) waits.goes))

    waits_over : (answer : Reply) (mid : State) → LeavesSession (state old.moment.device core) mid → WaitsOver mid old new answer → LandsInLine old new
    waits_over answer mid leaves over =
        lands mid leaves (ap (λ (s : ScriptState). s.moment.device.counts) over.waits.new_is ∙ over_counts mid old.posts old.last over.closed over.ends)
        (subst (λ (fs : List Fact). EntersWell core fs new.moment.facts) over.ends.facts (gone_enter core over.waits.takes))

    -- ---- where copies move

    moves_enter : (end : State) → LeavesMoving (state old.moment.device core) end → IsSound end → new.moment.device.counts ≡ end.device.counts → EntersOnWay (state old.moment.device core) end.core.history.facts
    moves_enter end leaves sound counts = requests_land_on_way (state old.moment.device core) end on_first.sound leaves none lit
      where
        frame : KeepsMovingFrame (state old.moment.device core) end
        frame = frame_later (state old.moment.device core) end leaves

        none : AnyFailedSince end → ⊥
        none failed = subst (λ (o : Option Core). IfSome o (λ (c : Core). AnyFailedSince (state new.moment.device c) → ⊥)) on nothing.none (
          failed.0,
          subst (λ (n : Counts). Rose (slice_index_or core.origin.faults failed.0 0) (n.faults failed.0)) (sym counts)
              (subst (λ (fs : List ℕ). Rose (slice_index_or fs failed.0 0) (end.device.counts.faults failed.0)) frame.faults failed.1),
        )

        lit : end.core.power ≡ power.Dark → ⊥
        lit dark = nothing.lit (subst (λ (n : Counts). Rose old.moment.device.counts.cuts n.cuts) (sym counts) (frame.cut between.lit.power (sound.dark (ap is_dark dark)).power))

    moved : (b : Bool) (end : State) → LeavesMoving (state old.moment.device core) end → IsSound end → FailsIf b end old.posts old.last new → LandsOnWay old new
    moved b end leaves sound left =
        inr (subst (λ (o : Option Core). IfSome o (λ (c : Core). EntersOnWay (state old.moment.device c) new.moment.facts)) (sym on)
        (subst (EntersOnWay (state old.moment.device core)) (sym (fails_facts end old.posts old.last new b left)) (moves_enter end leaves sound (fails_counts end old.posts old.last new b left))))

  range_lands : (name : List ℕ) (write : Option ℕ) (Says : State → Asked → Reply → Type 0) (at count : ℕ) (answer : Reply) → OnVolume name (λ core lv. Finishes write Says lv at count core old new answer) old new answer → LandsInLine old new
  range_lands name write Says at count answer (WhileOff off is) = inl is.1
  range_lands name write Says at count answer (NotThere core on none is) = inl is.1
  range_lands name write Says at count answer (There core lv on named (NotBegun none)) = inl none.refused.1
  range_lands name write Says at count answer (There core lv on named (EndsWell end asked done says)) = carried core on end (goes_any done.runs) done.ends
  range_lands name write Says at count answer (There core lv on named (Fails end asked why done is)) = failed core on (is_stuck why) end (goes_any done.runs) done.ends

  post_lands : (name : List ℕ) (at count word : ℕ) (answer : Reply) → OnVolume name (λ core lv. Posts lv at count word core old new answer) old new answer → LandsInLine old new
  post_lands name at count word answer (WhileOff off is) = inl is.1
  post_lands name at count word answer (NotThere core on none is) = inl is.1
  post_lands name at count word answer (There core lv on named (NotPosted none)) = inl none.refused.1
  post_lands name at count word answer (There core lv on named (Posted its)) =
      lands core on (state old.moment.device its.begun) (goes_any its.runs) (ap (λ (s : ScriptState). s.moment.device.counts) its.goes)
      (enters_none core its.begun.history.facts new.moment.facts (ap (λ (s : ScriptState). s.moment.facts) its.goes))

  step_lands : (turns : ℕ) (answer : Reply) → StepDoes turns old new answer → LandsInLine old new
  step_lands turns answer (NoStepWhileOff off is) = inl is.1
  step_lands turns answer (NothingMoves core on none says same) = inl same
  step_lands turns answer (Steps core on volumes its) = carried core on its.end (goes_any its.runs) its.leaves

  synced_lands : (refused : Core → Option SyncFault) (copies : List Copy) (core : Core) (answer : Reply) → old.session ≡ Some core → IsSynced refused copies core old new answer → LandsInLine old new
  synced_lands refused copies core answer on its = failed core on (is_unheard answer) its.end its.beside.leaves its.leaves

  sync_volume_lands : (name : List ℕ) (answer : Reply) → SyncVolumeDoes name old new answer → LandsInLine old new
  sync_volume_lands name answer (NoGroupForSync off is) = inl is.1
  sync_volume_lands name answer (NoVolumeForSync core on none is) = inl is.1
  sync_volume_lands name answer (SyncsVolume core lv on of its) = synced_lands _ _ core answer on its

  sync_group_lands : (name : List ℕ) (answer : Reply) → SyncGroupDoes name old new answer → LandsInLine old new
  sync_group_lands name answer (OtherGroupForSync off is) = inl is.1
  sync_group_lands name answer (NothingSyncs core on named none says same) = inl same
  sync_group_lands name answer (SyncsGroup core on named volumes its) = synced_lands _ _ core answer on its

  wait_lands : (answer : Reply) → WaitDoes old new answer → LandsInLine old new
  wait_lands answer (WaitsWhileOff waits) = inr (subst (λ (o : Option Core). IfSome o (λ c. EntersWell c c.history.facts new.moment.facts)) (sym waits.off) tt)
  wait_lands answer (AtRest core on none waits) = waits_on core on answer (state old.moment.device core) (leaves_nothing (state old.moment.device core)) waits
  wait_lands answer (Awaits core on volumes waits) = by waits.ends
    where
      by : WaitEnds waits.mid waits.left old new answer → LandsInLine old new
      by (Goes is_on landed goes) = waits_on core on answer waits.mid (goes_any waits.runs) goes
      by (Over landed over) = waits_over core on answer waits.mid (goes_any waits.runs) over
      by (InVain vain) =
          lands core on waits.mid (goes_any waits.runs) (over_counts waits.mid old.posts old.last new vain.ends) (enters_none core waits.mid.core.history.facts new.moment.facts vain.ends.facts)

  migratepv_lands : (volume : Option (List ℕ)) (from to : ℕ) (answer : Reply) → MigratepvDoes volume from to old new answer → LandsOnWay old new
  migratepv_lands volume from to answer (NoGroupForMoves off is) = inl is.1
  migratepv_lands volume from to answer (NotAskedForMoves core why on not is) = inl is.1
  migratepv_lands volume from to answer (NoneMoves core lv on asked none says same) = inl same
  migratepv_lands volume from to answer (MovesCopies core lv on asked some its) = moved core on (is_unheard answer) its.end its.session.way.leaves its.sound its.leaves

  line_lands : (log : Log) (room : Room) (read : Result (Option Command) Misfit) (answer : Reply) → LineDoes log room read old new answer → IsRequesting (role_of read) → LandsIn read old new
  line_lands log room (Ok (Some (command.Rd name at count))) answer does asks = range_lands name None _ at count answer does
  line_lands log room (Ok (Some (command.Wr name at count word))) answer does asks = range_lands name (Some word) _ at count answer does
  line_lands log room (Ok (Some (command.Post name at count word))) answer does asks = post_lands name at count word answer does
  line_lands log room (Ok (Some command.Wait)) answer does asks = wait_lands answer does
  line_lands log room (Ok (Some (command.SyncVolume name))) answer does asks = sync_volume_lands name answer does
  line_lands log room (Ok (Some (command.SyncGroup name))) answer does asks = sync_group_lands name answer does
  line_lands log room (Ok (Some (command.Migratepv volume from to))) answer does asks = migratepv_lands volume from to answer does
  line_lands log room (Ok (Some (command.Step turns))) answer does asks = step_lands turns answer does
  line_lands log room read answer does asks = absurd asks

pub lines_land_well : LinesLandWell
lines_land_well log room line answer old new it asks nothing = line_lands old new it.between nothing log room (line_of line) answer it.does asks

-- ---- worked: no group is on, over one blank disk, and `wait` is answered

abbrev bare : Device
bare = record { sizes = 8192 ∷ []; media = None; flights = []; freed = []; power = true; counts = record { starts = λ disk. 0; misses = λ disk. 0; faults = λ disk. 0; cuts = 0; waits = 0 }; arranges = false; orders = record { made = 0; last = None; alone = None }; wrote = None }

abbrev off : ScriptState
off = record { moment = record { device = bare; facts = [] }; session = None; posts = []; last = 0 }

abbrev said : Reply
said = reply.Answers (codes "ok\n") 0

off_between : IsBetween off.moment off.session off.posts
off_between = record {
  lit = record { power = refl; freed = refl };
  descriptors = λ disk at value flies. absurd flies;
  landed = λ id. refl;
  session = tt;
  posted = record { each = λ k d less. absurd (omega (arith, less)); rise = λ i j d lt less. absurd (omega (arith, less)) };
}

waits : (log : Log) (room : Room) → IsLine log room (codes "wait") said off off
unfolding ends
waits log room = record {
  does = WaitsWhileOff (record { off = refl; answers = []; takes = NoGone; new_is = refl; tells = TellsAll refl });
  goes = same_goes log.run (role_of (line_of (codes "wait"))) said off off off_between (omega arith) refl;
  orders = λ others. refl;
  whole = tt;
  between = off_between;
  named = tt;
}

pub some_line_lands_well : SomeLineLandsWell
unfolding ends
some_line_lands_well log room = (codes "wait", said, off, off, waits log room, tt, record { none = tt; lit = λ rose. let risen = rose.risen in omega (arith, risen) })
