-- What is left once a copy has moved.
use Rattle.std.proofs.Common.{◌≡◌, ◌≢◌, ◌++◌, ℕ, List, [], ◌∷◌, Option, Some, None, refl, sym, ap, subst, ◌∙◌}
use Rattle.std.specs.Prelude.{Ok, Err, Result}
use Rattle.lvm_num.specs.declared.descriptor.Descriptor.{Descriptor}
use Rattle.lvm_num.specs.Descriptor.{IsValid}
use Rattle.lvm_num.specs.DescriptorBytes.{descriptor_bytes}
use Rattle.lvm_num.specs.Buffer.{Buffer}
use Rattle.lvm_disk.specs.Counts.{NoneFalls}
use Rattle.lvm_disk.specs.Device.{Device}
use Rattle.lvm_disk.specs.Paths.{Here, Path, Then}
use Rattle.lvm_disk.proofs.CountingLemmas.{none_falls_at_once, none_falls_on}
use Rattle.lvm_commit.specs.declared.commit.CommitEnd.{CommitEnd}
use Rattle.lvm_commit.specs.declared.commit.CommitEnd.TheVariants as commit_end
use Rattle.lvm_commit.specs.Settling.{DescriptorEnds}
use Rattle.lvm_core.specs.declared.fault.CommitFault.{CommitFault}
use Rattle.lvm_core.specs.declared.fault.CommitFault.TheVariants as commit
use Rattle.lvm_move.specs.Moving.{CommitsMove, GoesOnMoved, Misses, MoveEnds, Writes, WritesMove}
use Rattle.lvm_moved.specs.Moved.{MayStandOn}
use Rattle.lvm_session.specs.declared.open.Power.TheVariants as power
use Rattle.lvm_session.specs.Calls.{OpensMove}
use Rattle.lvm_session.specs.State.{Core, State}
use Rattle.lvm_keeps_events.specs.passed.Calls.{counts_seen}
use Rattle.lvm_going.specs.Going.{CommitsOpenMove}
use Rattle.lvm_going.specs.Moves.{next_of}
use Rattle.lvm_going.proofs.FramesLemmas.{moved_next}
use Rattle.lvm_driver.specs.Drains.{IsDrained}
use Rattle.lvm_driver.proofs.EndedLemmas.{path_keeps_move}
use Rattle.lvm_driver.proofs.EpochLemmas.{EpochStays, committed_epoch, opened_epoch, turns_epoch}
use Rattle.lvm_move_plan.specs.declared.plan.PlannedMove.{PlannedMove}
use Rattle.lvm_move_plan.specs.Laws.{after_move, after_moves}
use Rattle.lvm_move_plan.proofs.LawsLemmas.{goes_on}
use Rattle.lvm_migrate.specs.Migrating.{HaveMoved, IsPlanOf, NoneMoved, OneMoved, SomeStandMoved, StopsAmong}
use Rattle.lvm_migrate.specs.Moving.{CommitGives, Opens}
use Rattle.lvm_migrate.proofs.OpeningLemmas.{opened_fine}

-- ---- the commit

-- the descriptor and the status were written, and the session goes on with them
pub record IsWrittenWell (before after : ℕ) (old new : State) (it : CommitsOpenMove before after old new (Ok tt)) : Type 0 where
  pub w : WritesMove it.next (descriptor_bytes it.next) before after old it.written (Ok tt)
  pub back : Buffer
  pub ends : DescriptorEnds (descriptor_bytes it.next) 0 before old.core.status w.last old.core.homes w.homes old.device it.written.device (commit_end.Done back)
  pub goes : GoesOnMoved it.next (record old.core { status = w.last; homes = w.homes }) it.written.core

pub written_well : (before after : ℕ) (old new : State) (it : CommitsOpenMove before after old new (Ok tt)) → IsWrittenWell before after old new it
written_well before after old new it = of it.commits
  where
    of : CommitsMove it.next (descriptor_bytes it.next) before after old it.written (Ok tt) → IsWrittenWell before after old new it
    of (Misses disk missing is same patience) = absurd (let e : Ok tt ≡ Err (commit.DiskFailed disk) = is in cc e)
    of (Writes there w) = by w.how w.ends w.goes
      where
        by : (how : CommitEnd) → DescriptorEnds (descriptor_bytes it.next) 0 before old.core.status w.last old.core.homes w.homes old.device it.written.device how → MoveEnds it.next w.last w.homes old.core it.written.core how (Ok tt)
            → IsWrittenWell before after old new it
        by (commit_end.Done back) ends goes = record { w = w; back = back; ends = ends; goes = goes.1 }
        by (commit_end.WentOff have total back) ends goes = absurd (let e : Ok tt ≡ Err (commit.WentOff have total) = goes.0 in cc e)
        by commit_end.Dark ends goes = absurd (let e : Ok tt ≡ Err commit.Dark = goes.0 in cc e)
        by commit_end.Stuck ends goes = absurd (let e : Ok tt ≡ Err commit.Stuck = goes.0 in cc e)

-- ---- the copy has moved

module _ (m : PlannedMove) (patience left : ℕ) (old new : State) (gives : CommitGives m patience left old new (Ok tt)) where
  abbrev opened : State
  opened = gives.turns.opened

  abbrev ended : State
  ended = gives.ended

  pub opens : Opens old opened m (Ok tt)
  opens = (gives.turns.fine, gives.turns.opens, gives.turns.device)

  made : OpensMove (counts_seen old.device old.core) old.core opened.core m.copy.lv m.copy.lp m.copy.number m.to
  made = (opened_fine (counts_seen old.device old.core) old.core opened.core m gives.turns.opens).1

  drained : IsDrained ended
  drained = gives.turns.ends

  pub well : IsWrittenWell gives.between left ended new gives.commits
  well = written_well gives.between left ended new gives.commits

  next_is : gives.commits.next ≡ after_move old.core.descriptor m
  next_is =
      let both : Some gives.commits.next ≡ Some (after_move old.core.descriptor m) =
      sym gives.commits.ready ∙ path_keeps_move gives.turns.turns ∙ moved_next (counts_seen old.device old.core) old.core opened.core m.copy.lv m.copy.lp m.copy.number m.to made in
      cc both

  pub descriptor_is : new.core.descriptor ≡ after_move old.core.descriptor m
  descriptor_is = ap (λ (s : State). s.core.descriptor) gives.commits.is ∙ ap (λ (c : Core). c.descriptor) well.goes.is ∙ next_is

  pub goes_on_still : new.core.power ≡ power.On
  goes_on_still = ap (λ (s : State). s.core.power) gives.commits.is ∙ ap (λ (c : Core). c.power) well.goes.is ∙ drained.on

  pub is_shut : new.core.copy ≡ None
  is_shut = ap (λ (s : State). s.core.copy) gives.commits.is

  lit : ended.core.power ≡ power.Dark → ⊥
  lit dark = let e : power.On ≡ power.Dark = sym drained.on ∙ dark in cc e

  pub epoch_stays : new.core.status.stamp.epoch ≡ old.core.status.stamp.epoch
  epoch_stays =
      committed_epoch gives.between left ended new gives.commits ∙ turns_epoch lit gives.turns.turns
      ∙ opened_epoch (counts_seen old.device old.core) old.core opened.core m.copy.lv m.copy.lp m.copy.number m.to (Ok tt) gives.turns.opens

  pub plan_next : (rest : List PlannedMove) → IsValid old.core.descriptor → IsPlanOf old.core.descriptor (m ∷ rest) → IsPlanOf new.core.descriptor rest
  plan_next rest valid plan =
      let on = goes_on old.core.descriptor plan.lv plan.from plan.to m rest valid plan.differ plan.fine plan.is in
      subst (λ (d : Descriptor). IsPlanOf d rest) (sym descriptor_is) (record { lv = plan.lv; from = plan.from; to = plan.to; differ = plan.differ; fine = on.still; is = on.rest_is })

-- it may stand there
pub may_stand : (d : Descriptor) (m : PlannedMove) (rest : List PlannedMove) → IsValid d → IsPlanOf d (m ∷ rest) → MayStandOn d m.copy.lv m.copy.lp m.copy.number m.to
may_stand d m rest valid plan = (goes_on d plan.lv plan.from plan.to m rest valid plan.differ plan.fine plan.is).may

-- ---- all that have moved

after_last : (d : Descriptor) (moves : List PlannedMove) (m : PlannedMove) → after_moves d (moves ++ m ∷ []) ≡ after_move (after_moves d moves) m
after_last d [] m = refl
after_last d (x ∷ moves) m = after_last (after_move d x) moves m

pub moved_stand : {first : State} {patience : ℕ} {moves : List PlannedMove} {now : State} {left : ℕ} → HaveMoved first patience moves now left → now.core.descriptor ≡ after_moves first.core.descriptor moves
moved_stand NoneMoved = refl
moved_stand {first = first} (OneMoved {moves} {old} {new} {before} {left} m have gives) =
    descriptor_is m before left old new gives ∙ ap (λ (d : Descriptor). after_move d m) (moved_stand have) ∙ sym (after_last first.core.descriptor moves m)
