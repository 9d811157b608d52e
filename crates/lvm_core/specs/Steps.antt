-- The steps of a commit: what is wanted is marked, the records are written, and the session goes on with what came of them.
use Rattle.std.specs.Prelude.{◌≡◌, ℕ, false, List, None, Result, Ok, Err, slice_set}
use Rattle.lvm_num.specs.declared.place.Pp.{Pp}
use Rattle.lvm_num.specs.declared.record.Kind.TheVariants as kind
use Rattle.lvm_num.specs.declared.descriptor.Descriptor.{Descriptor}
use Rattle.lvm_num.specs.Descriptor.{IsValid}
use Rattle.lvm_num.specs.DescriptorBytes.{descriptor_bytes}
use Rattle.lvm_kept.specs.Plans.{Plan}
use Rattle.lvm_status.specs.Table.{SameMissing, SameStale}
use Rattle.lvm_status.specs.Update.{Stored}
use Rattle.lvm_commit.specs.declared.commit.CommitEnd.{CommitEnd}
use Rattle.lvm_commit.specs.declared.commit.CommitEnd.TheVariants as commit_end
use Rattle.lvm_commit.specs.Settling.{HasSameRows, IsForgotten, IsOfStatus, IsOfCommit, IsPlain, IsPlainStatus, StatusStaysKept, DescriptorStaysKept, StatusFindsNothingNew, CommitFindsNoMore, StaysHeld, ComesHeld, CommitLeaves, SettleEnds}
use Rattle.lvm_core.specs.declared.fault.CommitFault.{CommitFault}
use Rattle.lvm_core.specs.declared.fault.CommitFault.TheVariants as fault
use Rattle.lvm_session.specs.declared.open.Power.TheVariants as power
use Rattle.lvm_session.specs.State.{Core, State}
use Rattle.lvm_session.specs.Dark.{all_dark}
use Rattle.lvm_core.specs.Committing.{MarksCopies, AreMarked, Dirties, AreDirtied, with_one_out}

-- ---- the marks

-- Of what is wanted at most marks have changed, and nothing is in flight.
pub record WantsMarksAtMost (old new : Stored) : Type 0 where
  pub group : new.group ≡ old.group
  pub committed : new.committed ≡ old.committed
  pub idle : new.in_flight ≡ None
  pub stamp : new.stamp ≡ old.stamp
  pub rows : HasSameRows old.wanted new.wanted
  pub missing : SameMissing old.wanted new.wanted
  pub forgotten : IsForgotten old → IsForgotten new

-- These marks of partitions are wanted now, and nothing else is.
pub record IsMarked (to_stale to_fresh : List Pp) (old new : Stored) : Type 0 where
  pub rest : WantsMarksAtMost old new
  pub dirty : new.wanted.dirty ≡ old.wanted.dirty
  pub marks : MarksCopies to_stale to_fresh old.wanted new.wanted
  pub same : AreMarked to_stale to_fresh old.wanted → new ≡ old

-- These marks of volumes are wanted now, and nothing else is.
pub record IsDirtied (to_dirty to_clean : List ℕ) (old new : Stored) : Type 0 where
  pub rest : WantsMarksAtMost old new
  pub stale : SameStale old.wanted new.wanted
  pub marks : Dirties to_dirty to_clean old.wanted new.wanted
  pub same : AreDirtied to_dirty to_clean old.wanted → new ≡ old

-- ---- after the records

-- The session with this descriptor where it is committed, and the buffer back where it comes back; off where the votes are lost, and ended where the power was cut.
abbrev pub EndsWith : Descriptor → Core → Core → CommitEnd → Result (Unit {0}) CommitFault → Type 0
EndsWith next old new (commit_end.Done back) answer = (answer ≡ Ok tt) × (new ≡ record old { descriptor = next; pool = slice_set old.pool back.number false })
EndsWith next old new (commit_end.WentOff have total back) answer = (answer ≡ Err (fault.WentOff have total)) × (new ≡ record old { pool = slice_set old.pool back.number false; power = power.Off })
EndsWith next old new commit_end.Dark answer = (answer ≡ Err fault.Dark) × (new ≡ all_dark old)
EndsWith next old new commit_end.Stuck answer = (answer ≡ Err fault.Stuck) × (new ≡ old)

-- with the descriptor that it has
abbrev pub EndsAs : Core → Core → CommitEnd → Result (Unit {0}) CommitFault → Type 0
EndsAs old new end answer = EndsWith old.descriptor old new end answer

-- The session with this descriptor where it is committed; the buffer is back, or out.
abbrev pub CoreEnds : Descriptor → Core → Core → CommitEnd → Result (Unit {0}) CommitFault → Type 0
CoreEnds next old new (commit_end.Done back) answer = (answer ≡ Ok tt) × (new ≡ record old { descriptor = next; status = new.status; homes = new.homes })
CoreEnds next old new (commit_end.WentOff have total back) answer = (answer ≡ Err (fault.WentOff have total)) × (new ≡ record old { status = new.status; homes = new.homes; power = power.Off })
CoreEnds next old new commit_end.Dark answer = (answer ≡ Err fault.Dark) × (new ≡ all_dark (record old { pool = with_one_out old.pool; status = new.status; homes = new.homes }))
CoreEnds next old new commit_end.Stuck answer = (answer ≡ Err fault.Stuck) × (new ≡ record old { pool = with_one_out old.pool; status = new.status; homes = new.homes })

-- What was wanted first is committed, or as far as it went, with the buffer of number 0; the session goes on as that ended.
pub record Settles (Held Plain : Type 0) (next : Descriptor) (plan : Plan) (first : Stored) (before after : ℕ) (old new : State) (how : CommitEnd) (answer : Result (Unit {0}) CommitFault) : Type 0 where
  pub ends : SettleEnds Held Plain 0 before first new.core.status old.device new.device how
  pub leaves : CommitLeaves next plan before after first new.core.status old.device new.device
  pub goes : CoreEnds next old.core new.core how answer

-- ---- the whole

-- The descriptor was written, and the status where a member was lost.
pub record CommitsDescriptor (next : Descriptor) (before after : ℕ) (old new : State) (answer : Result (Unit {0}) CommitFault) : Type 0 where
  pub how : CommitEnd
  pub valid : IsValid next
  pub settles : Settles (ComesHeld (descriptor_bytes next) old.core.status new.core.status old.core.homes new.core.homes old.device new.device)
      (IsPlain kind.Descriptor (descriptor_bytes next) old.core.status new.core.status old.core.homes old.device new.device)
      next (IsOfCommit (descriptor_bytes next) old.core.status new.core.status) old.core.status before after old new how answer
  pub finds : CommitFindsNoMore (descriptor_bytes next) old.core.status old.core.homes old.device new.device
  pub kept : DescriptorStaysKept (descriptor_bytes next) old.core.status old.core.homes old.device new.device

-- Marks were wanted as this says, and the status written.
pub record CommitsStatus (Wants : Stored → Stored → Type 0) (before after : ℕ) (old new : State) (answer : Result (Unit {0}) CommitFault) : Type 0 where
  pub first : Stored
  pub wants : Wants old.core.status first
  pub rest : WantsMarksAtMost old.core.status first
  pub how : CommitEnd
  pub settles : Settles (StaysHeld first new.core.status old.core.homes new.core.homes old.device new.device) (IsPlainStatus first new.core.status old.core.homes old.device new.device) old.core.descriptor
      (IsOfStatus first new.core.status) first before after old new how answer
  pub finds : StatusFindsNothingNew first old.core.homes old.device new.device
  pub kept : StatusStaysKept old.core.descriptor first old.core.homes old.device new.device
  pub same : first.wanted ≡ first.committed → (answer ≡ Ok tt) × (new.device ≡ old.device) × (new.core ≡ record old.core { status = first })

-- with these partitions stale and those fresh
abbrev pub CommitsMarks : List Pp → List Pp → ℕ → ℕ → State → State → Result (Unit {0}) CommitFault → Type 0
CommitsMarks to_stale to_fresh = CommitsStatus (IsMarked to_stale to_fresh)

-- with these volumes dirty and those not
abbrev pub CommitsDirt : List ℕ → List ℕ → ℕ → ℕ → State → State → Result (Unit {0}) CommitFault → Type 0
CommitsDirt to_dirty to_clean = CommitsStatus (IsDirtied to_dirty to_clean)
