-- What lines tell of posts, and how these end.
use Rattle.std.proofs.Common.{◌≡◌, ℕ, List, [], ◌∷◌, Option, Some, None, Result, Ok, Err}
use Rattle.lvm_vol.specs.Log.{Log}
use Rattle.lvm_parse.specs.declared.command.Command.{Command}
use Rattle.lvm_parse.specs.declared.command.Command.TheVariants as command
use Rattle.lvm_parse.specs.declared.rest.Misfit.{Misfit}
use Rattle.lvm_parse.specs.Grammar.{line_of}
use Rattle.lvm_core.specs.declared.parts.Room.{Room}
use Rattle.lvm_session.specs.State.{Core, State}
use Rattle.lvm_posts.specs.declared.asked.Asked.{Asked}
use Rattle.lvm_posts.specs.declared.fault.RangeFault.TheVariants as fault
use Rattle.lvm_posts.specs.declared.posts.Post.{Post}
use Rattle.lvm_volume_lines.specs.passed.RangeLines.{Ending, EndsWell, Fails, Finishes, NoStepWhileOff, NotBegun, NotThere, NothingMoves, OnVolume, StepDoes, Steps, There, WhileOff, is_stuck}
use Rattle.lvm_volume_lines.specs.passed.GroupLines.{IsBetween, Reply, ScriptState, is_unheard}
use Rattle.lvm_volume_lines.specs.passed.ReplyVariants as reply
use Rattle.lvm_volume_lines.specs.passed.Resync.{Copy, SyncFault}
use Rattle.lvm_volume_lines.proofs.passed.Tie.{goes_any}
use Rattle.lvm_volume_lines.specs.Resyncing.{IsSynced, NoGroupForSync, NoVolumeForSync, NothingSyncs, OtherGroupForSync, SyncGroupDoes, SyncVolumeDoes, SyncsGroup, SyncsVolume}
use Rattle.lvm_move_lines.specs.Moving.{MigratepvDoes, MovesCopies, NoGroupForMoves, NotAskedForMoves, NothingMoves as MovesNone}
use Rattle.lvm_line.specs.Lines.{LineDoes}
use Rattle.lvm_line.specs.Told.{EachTold, IsDoneOrLacks, IsToldFor, IsWellTold, NothingSince, PostsEndForCause, ToldCause, ToldLaw, ToldWellLaw}
use Rattle.lvm_line.proofs.CausesLemmas.Ending.{carries_ends, cut_ends, fails_ends, same_ends, went_fails}
use Rattle.lvm_line.proofs.CausesLemmas.Turns.{by_moves, moves_on}
use Rattle.lvm_line.proofs.CausesLemmas.Telling.{wait_told}

module _ (old new : ScriptState) (between : IsBetween old.moment old.session old.posts) where
  range_ends : (name : List ℕ) (write : Option ℕ) (Says : State → Asked → Reply → Type 0) (at count : ℕ) (answer : Reply) → OnVolume name (λ core lv. Finishes write Says lv at count core old new answer) old new answer → PostsEndForCause old new
  range_ends name write Says at count answer (WhileOff off is) = same_ends old new between is.1
  range_ends name write Says at count answer (NotThere core on none is) = same_ends old new between is.1
  range_ends name write Says at count answer (There core lv on named (NotBegun none)) = same_ends old new between none.refused.1
  range_ends name write Says at count answer (There core lv on named (EndsWell end asked done says)) = carries_ends old new between core on end (goes_any done.runs) done.sound done.ends
  range_ends name write Says at count answer (There core lv on named (Fails end asked why done is)) = fails_ends old new between core on end (goes_any done.runs) done.sound (is_stuck why) done.ends

  step_ends : (turns : ℕ) (answer : Reply) → StepDoes turns old new answer → PostsEndForCause old new
  step_ends turns answer (NoStepWhileOff off is) = same_ends old new between is.1
  step_ends turns answer (NothingMoves core on none says same) = same_ends old new between same
  step_ends turns answer (Steps core on volumes its) = carries_ends old new between core on its.end (goes_any its.runs) its.sound its.leaves

  synced_ends : (refused : Core → Option SyncFault) (copies : List Copy) (core : Core) (answer : Reply) → old.session ≡ Some core → IsSynced refused copies core old new answer → PostsEndForCause old new
  synced_ends refused copies core answer on its = fails_ends old new between core on its.end its.beside.leaves its.sound (is_unheard answer) its.leaves

  sync_volume_ends : (name : List ℕ) (answer : Reply) → SyncVolumeDoes name old new answer → PostsEndForCause old new
  sync_volume_ends name answer (NoGroupForSync off is) = same_ends old new between is.1
  sync_volume_ends name answer (NoVolumeForSync core on none is) = same_ends old new between is.1
  sync_volume_ends name answer (SyncsVolume core lv on of its) = synced_ends _ _ core answer on its

  sync_group_ends : (name : List ℕ) (answer : Reply) → SyncGroupDoes name old new answer → PostsEndForCause old new
  sync_group_ends name answer (OtherGroupForSync off is) = same_ends old new between is.1
  sync_group_ends name answer (NothingSyncs core on named none says same) = same_ends old new between same
  sync_group_ends name answer (SyncsGroup core on named volumes its) = synced_ends _ _ core answer on its

  migratepv_ends : (volume : Option (List ℕ)) (from to : ℕ) (answer : Reply) → MigratepvDoes volume from to old new answer → PostsEndForCause old new
  migratepv_ends volume from to answer (NoGroupForMoves off is) = same_ends old new between is.1
  migratepv_ends volume from to answer (NotAskedForMoves core why on not_asked is) = same_ends old new between is.1
  migratepv_ends volume from to answer (MovesNone core lv on asked none says same) = same_ends old new between same
  migratepv_ends volume from to answer (MovesCopies core lv on asked volumes its) =
      went_fails old new between core on its.end (by_moves old core its.end (moves_on old new between core its.end on its.session.way.leaves)) its.sound (is_unheard answer) its.leaves

  told : (log : Log) (room : Room) (read : Result (Option Command) Misfit) (answer : Reply) → LineDoes log room read old new answer → ToldCause read answer old new
  told log room (Ok (Some command.Wait)) (reply.Answers text refused) does = wait_told old new between text refused does
  told log room (Ok (Some (command.Rd name at count))) answer does = range_ends name None _ at count answer does
  told log room (Ok (Some (command.Wr name at count word))) answer does = range_ends name (Some word) _ at count answer does
  told log room (Ok (Some (command.Step turns))) answer does = step_ends turns answer does
  told log room (Ok (Some (command.SyncVolume name))) answer does = sync_volume_ends name answer does
  told log room (Ok (Some (command.SyncGroup name))) answer does = sync_group_ends name answer does
  told log room (Ok (Some (command.Migratepv volume from to))) answer does = migratepv_ends volume from to answer does
  told log room (Ok (Some (command.Cut word))) answer does = cut_ends log word old new between answer does
  told log room read answer does = tt

pub told_causes : ToldLaw
told_causes log room line answer old new it = told old new it.between log room (line_of line) answer it.does

-- ---- where nothing fails

module _ (old new : ScriptState) (nothing : NothingSince old new) where
  well_told : (post : Post) (answer : Ending) → IsToldFor old new post answer → post.ended ≡ None → IsDoneOrLacks answer
  well_told post (Ok done) cause own = tt
  well_told post (Err fault.Lost) cause own = nothing.none (cause own)
  well_told post (Err fault.ReadFailed) cause own = nothing.none (cause own)
  well_told post (Err (fault.WentOff have total)) cause own = nothing.none (cause own)
  well_told post (Err fault.Dark) cause own = nothing.lit (cause own)
  well_told post (Err fault.Stuck) cause own = cause own
  well_told post (Err (fault.NoFresh lp)) cause own = tt

  each_well : (posts : List Post) (answers : List Ending) → EachTold (IsToldFor old new) posts answers → EachTold (λ post ending. post.ended ≡ None → IsDoneOrLacks ending) posts answers
  each_well [] [] all = tt
  each_well (post ∷ posts) (answer ∷ answers) all = (well_told post answer all.0, each_well posts answers all.1)
  each_well [] (answer ∷ answers) all = absurd all
  each_well (post ∷ posts) [] all = absurd all

  told_well : (read : Result (Option Command) Misfit) (answer : Reply) → ToldCause read answer old new → IsWellTold read answer old new
  told_well (Ok (Some command.Wait)) (reply.Answers text refused) it = record { answers = it.answers; tells = it.tells; well = each_well old.posts it.answers it.caused }
  told_well read answer it = tt

pub told_is_well : ToldWellLaw
told_is_well log room line answer old new it nothing = told_well old new nothing (line_of line) answer (told_causes log room line answer old new it)
