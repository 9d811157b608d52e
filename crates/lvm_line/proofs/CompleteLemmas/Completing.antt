-- Lines in which nothing failed.
use Rattle.std.proofs.Common.{ℕ, List, Option, Some, None, Result, Ok, inl, inr, ⊎_elim, subst}
use Rattle.std.specs.Prelude.{IfSome}
use Rattle.lvm_parse.specs.declared.command.Command.{Command}
use Rattle.lvm_parse.specs.declared.command.Command.TheVariants as command
use Rattle.lvm_parse.specs.declared.rest.Misfit.{Misfit}
use Rattle.lvm_parse.specs.Grammar.{line_of}
use Rattle.lvm_session.specs.State.{Core, state}
use Rattle.lvm_volume_lines.specs.passed.Resync.{AnyFails}
use Rattle.lvm_volume_lines.specs.passed.GroupLines.{Refusal, ScriptState}
use Rattle.lvm_volume_lines.specs.passed.RefusalVariants as refusal
use Rattle.lvm_volume_lines.specs.passed.KeepsEvents.{LostForFaults}
use Rattle.lvm_line.specs.Causes.{CauseOf, HasCause, LacksOnTheWay, TransferHasFailed, HasFailedInSession, RangeLineCause, RoseOn, TurnCause, WereLost, disk_of}
use Rattle.lvm_line.specs.Complete.{CompleteLaw, HasLostVotes, IsByRule, IsOwn, NothingFailed, RuleLaw}
use Rattle.lvm_line.proofs.CausesLemmas.Causing.{has_cause}

module _ (old new : ScriptState) where
  none_failed : (read : Result (Option Command) Misfit) → NothingFailed read old new → (disk : ℕ) → TransferHasFailed read disk old.moment.device.counts new.moment.device.counts → ⊥
  none_failed (Ok (Some (command.Mkvg force name mib disks))) nothing disk (inl rose) = nothing.misses tt disk rose
  none_failed (Ok (Some (command.Mkvg force name mib disks))) nothing disk (inr rose) = nothing.none.faults disk rose
  none_failed (Ok (Some (command.RawRd on at count))) nothing disk rose = nothing.misses tt disk rose
  none_failed (Ok (Some (command.RawWr on at count word))) nothing disk rose = nothing.misses tt disk rose
  none_failed other nothing disk rose = nothing.none.faults disk rose

  module _ (read : Result (Option Command) Misfit) (nothing : NothingFailed read old new) where
    on_none : (disk : Option ℕ) → RoseOn disk old.moment.device.counts.faults new.moment.device.counts.faults → ⊥
    on_none None rose = rose
    on_none (Some disk) rose = nothing.none.faults disk rose

    -- so the votes that are lost were lost before
    had_lost : HasFailedInSession old new → HasLostVotes old
    had_lost it = by it.lost
      where
        by : LostForFaults (state old.moment.device it.core) (state new.moment.device it.core) → HasLostVotes old
        by (inl was) = record { core = it.core; on = it.on; lost = was }
        by (inr failed) = absurd (nothing.none.faults failed.0 failed.1)

    were_lost : (why : Refusal) → WereLost why old new → HasLostVotes old
    were_lost why (inl lost) = absurd (nothing.none.faults lost.disk lost.failed)
    were_lost why (inr undrained) = had_lost undrained.1

    own_of : (why : Refusal) → CauseOf read why old new → IsOwn read old why
    own_of refusal.Lost cause = on_none (disk_of read) cause
    own_of refusal.ReadFailed cause = on_none (disk_of read) cause
    own_of (refusal.WentOff have total) cause = (cause.0, ⊎_elim (λ lost. inl (were_lost (refusal.WentOff have total) lost)) (λ lacks. inr lacks) cause.1)
    own_of refusal.Dark cause = nothing.none.cuts cause
    own_of refusal.Stuck cause = nothing.none.waits cause
    own_of (refusal.DiskFailed disk) cause = none_failed read nothing disk cause
    own_of (refusal.SyncFailed disk) cause = cause
    own_of other cause = tt

    turn_own : (why : Refusal) → TurnCause why old new → IsOwn read old why
    turn_own refusal.Lost cause = nothing.none.faults cause.0 cause.1
    turn_own refusal.ReadFailed cause = nothing.none.faults cause.0 cause.1
    turn_own (refusal.WentOff have total) cause = (cause.0, inl (had_lost cause.1))
    turn_own refusal.Dark cause = nothing.none.cuts cause
    turn_own refusal.Stuck cause = nothing.none.waits cause
    turn_own (refusal.DiskFailed disk) cause = cause
    turn_own (refusal.SyncFailed disk) cause =
        let unseen : AnyFails (state old.moment.device cause.core) (state new.moment.device cause.core) → ⊥ =
        subst (λ (m : Option Core). IfSome m (λ (core : Core). AnyFails (state old.moment.device core) (state new.moment.device core) → ⊥)) cause.on nothing.seen in
        unseen cause.failed
    turn_own other cause = tt

    range_own : (name : List ℕ) (why : Refusal) → RangeLineCause name why old new → IsOwn read old why
    range_own name (refusal.NoFresh lp) cause = tt
    range_own name why cause = turn_own why cause

  is_own : (read : Result (Option Command) Misfit) → NothingFailed read old new → (why : Refusal) → HasCause read why old new → IsOwn read old why
  is_own (Ok (Some (command.Rd name at count))) nothing why cause = range_own _ nothing name why cause
  is_own (Ok (Some (command.Wr name at count word))) nothing why cause = range_own _ nothing name why cause
  is_own (Ok (Some (command.Post name at count word))) nothing why cause = turn_own _ nothing why cause
  is_own (Ok (Some command.Wait)) nothing why cause = turn_own _ nothing why cause
  is_own (Ok (Some (command.SyncVolume name))) nothing why cause = turn_own _ nothing why cause
  is_own (Ok (Some (command.SyncGroup name))) nothing why cause = turn_own _ nothing why cause
  is_own (Ok (Some (command.Migratepv volume from to))) nothing why cause = turn_own _ nothing why cause
  is_own (Ok (Some (command.Step turns))) nothing why cause = turn_own _ nothing why cause
  is_own read nothing why cause = own_of read nothing why cause

pub lines_complete : CompleteLaw
lines_complete log room line why old new it nothing = is_own old new _ nothing why (has_cause log room _ why old new it.between it.does)

-- where the votes weren't lost
by_rule : (read : Result (Option Command) Misfit) (old : ScriptState) (why : Refusal) → (HasLostVotes old → ⊥) → ((have total : ℕ) → LacksOnTheWay read have total old → ⊥) → IsOwn read old why → IsByRule why
by_rule read old refusal.Dark kept has own = own
by_rule read old refusal.Stuck kept has own = own
by_rule read old refusal.Lost kept has own = own
by_rule read old refusal.ReadFailed kept has own = own
by_rule read old (refusal.DiskFailed disk) kept has own = own
by_rule read old (refusal.SyncFailed disk) kept has own = own
by_rule read old (refusal.WentOff have total) kept has own = ⊎_elim kept (has have total) own.1
by_rule read old other kept has own = tt

pub lines_by_rule : RuleLaw
lines_by_rule log room line why old new it nothing kept has = by_rule (line_of line) old why kept has (lines_complete log room line why old new it nothing)
