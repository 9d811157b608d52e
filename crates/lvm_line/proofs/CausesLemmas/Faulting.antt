-- Why `mklv` and `rmlv` are refused.
use Rattle.std.proofs.Common.{◌≡◌, inl, inr, ◌*◌, ◌+◌, ◌-◌, ◌&&◌, ◌≤◌, ℕ, Bool, true, false, Option, Some, None, Result, IsFalse, not, refl, if◌then◌else◌, sym, ◌∙◌, ap, subst, arith}
use Rattle.std.specs.Prelude.{nat_lt}
use Rattle.std.proofs.lemmas.Bool.{ltb-false}
use Rattle.lvm_num.specs.declared.descriptor.Descriptor.{Descriptor}
use Rattle.lvm_num.specs.Descriptor.{is_member}
use Rattle.lvm_num.specs.Status.{calls_missing}
use Rattle.lvm_num.specs.Votes.{total_votes, is_enough_to_write}
use Rattle.lvm_disk.specs.Counts.{Rose, RoseBy, Counts}
use Rattle.lvm_disk.specs.Device.{Device}
use Rattle.lvm_parse.specs.declared.command.Command.{Command}
use Rattle.lvm_parse.specs.declared.rest.Misfit.{Misfit}
use Rattle.lvm_status.specs.Update.{Stored}
use Rattle.lvm_commit.specs.Settling.{HasLostQuorum, there}
use Rattle.lvm_session.specs.State.{Core, State}
use Rattle.lvm_session.specs.Judging.{is_missing}
use Rattle.lvm_core.specs.declared.fault.CommitFault.{CommitFault}
use Rattle.lvm_core.specs.declared.fault.CommitFault.TheVariants as commit
use Rattle.lvm_volume_lines.proofs.passed.Tie.{goes_any, path_frames}
use Rattle.lvm_line.specs.Causes.{HasCause, TransferHasFailed, HasLostMember}
use Rattle.lvm_write.proofs.PartsLemmas.Transfers.{rose_then}
use Rattle.lvm_disk.proofs.CountingLemmas.{rose_before}
use Rattle.lvm_volume_lines.specs.passed.GroupLines.{IsBetween, Refusal, Reply, patience_of_line, ScriptState}
use Rattle.lvm_volume_lines.specs.passed.RefusalVariants as refusal
use Rattle.lvm_volume_lines.specs.passed.ReplyVariants as reply
use Rattle.lvm_volume_lines.specs.Volumes.{Drains, IsLeftEither, IsUndrained, drain_refusal, refusal_for}
use Rattle.lvm_volume_lines.proofs.Ending.{FaultFacts}
use Rattle.lvm_volume_lines.proofs.passed.Ranges.{off_votes}
use Rattle.lvm_line.proofs.CausesLemmas.Knowing.{IsOther, Known, has_by}
use Rattle.lvm_line.proofs.CausesLemmas.Turns.{dark_cause, off_cause, stuck_cause}
use Rattle.lvm_volume_lines.specs.passed.VolumePlan.{GroupFault, ends_session}
use Rattle.lvm_volume_lines.specs.passed.VolumePlanFaultGroupFault as fault

-- votes that are too few to write are at most half
pub at_most_half : (group : Descriptor) (have : ℕ) → IsFalse (is_enough_to_write group have) → 2 * have ≤ total_votes group
at_most_half group have few = go group.quorum few
  where
    go : (quorum : Bool) → (if quorum then nat_lt (total_votes group) (2 * have) else nat_lt 0 have) ≡ false → 2 * have ≤ total_votes group
    go true is = ltb-false (total_votes group) (2 * have) is
    go false is = let none = ltb-false 0 have is in omega (arith, none)

-- what is left has the counts of the shelf
pub counts_left : (ends : Bool) (left : State) (old new : ScriptState) → IsLeftEither ends left old new → new.moment.device.counts ≡ left.device.counts
counts_left true left old new over = ap (λ (d : Device). d.counts) over.lit
counts_left false left old new stays = ap (λ (d : Device). d.counts) stays.device

pub none_left : (left : State) (old new : ScriptState) → IsLeftEither true left old new → new.session ≡ None
none_left left old new over = over.session

-- why the turns before the command have ended is no want of votes for a quorum
not_counted : (why : Refusal) (fault : CommitFault) (have total : ℕ) → reply.Refused why ≡ reply.Refused (drain_refusal fault) → why ≡ refusal.NoQuorum have total → ⊥
not_counted why commit.Dark have total says is = cc (says, is)
not_counted why (commit.WentOff left all) have total says is = cc (says, is)
not_counted why commit.Stuck have total says is = cc (says, is)
not_counted why (commit.DiskFailed disk) have total says is = cc (says, is)

-- the turns before the command have ended for what happened then
module _ (read : Result (Option Command) Misfit) (old new : ScriptState) (core : Core) (other : IsOther read) (between : IsBetween old.moment old.session old.posts) (some : old.session ≡ Some core) where
  why_undrained : (fault : CommitFault) → IsUndrained core old new fault (reply.Refused (drain_refusal fault)) → HasCause read (drain_refusal fault) old new
  why_undrained commit.Dark ends = has_by read refusal.Dark old new other (dark_cause old new core ends.end between (goes_any ends.runs) ends.sound (ap (λ (d : Device). d.counts) ends.over.lit) ends.fails)
  why_undrained (commit.WentOff have total) ends =
      let votes = off_votes ends.end ends.sound ends.fails.power_is in
      let few : 2 * have ≤ total = subst (λ (n : ℕ). 2 * have ≤ n) (sym ends.fails.total_is) (subst (λ (n : ℕ). 2 * n ≤ total_votes ends.end.core.descriptor) (sym ends.fails.have_is) votes.0) in
      let since = off_cause old new core ends.end between (goes_any ends.runs) ends.sound (ap (λ (d : Device). d.counts) ends.over.lit) have total some (few, votes.1) (ends.votes (ends.sound.off ends.fails.power_is)) in
      has_by read (refusal.WentOff have total) old new other (since.0, inl (inr (record { core = core; fault = commit.WentOff have total; on = some; ends = ends }, since.1)))
  why_undrained commit.Stuck ends =
      has_by read refusal.Stuck old new other (stuck_cause old new core ends.end between (goes_any ends.runs) ends.sound (ap (λ (d : Device). d.counts) ends.over.lit) ends.left ends.fails ends.waited)
  why_undrained (commit.DiskFailed disk) ends = absurd ends.fails

  pub undrained : (why : Refusal) (fault : CommitFault) → IsUndrained core old new fault (reply.Refused why) → Known read why old new
  undrained why fault ends = record {
    cause = subst (λ (r : Refusal). HasCause read r old new) (let is = ends.says in cc (is)) (why_undrained fault (subst (λ (a : Reply). IsUndrained core old new fault a) ends.says ends));
    off = λ is. ends.over.session;
    unwritten = λ have total is. absurd (not_counted why fault have total ends.says is);
  }

-- patience that went before, and then
pub rose_in_line : (left a b c : ℕ) → left ≤ patience_of_line → RoseBy (patience_of_line - left) a b → RoseBy left b c → RoseBy patience_of_line a c
rose_in_line left a b c few before later =
    let sum : (patience_of_line - left) + left ≡ patience_of_line = omega (arith, few) in
    subst (λ (n : ℕ). RoseBy n a c) sum (rose_then (patience_of_line - left) left a b c before later)

module _ (read : Result (Option Command) Misfit) (other : IsOther read) (failed : (d : ℕ) (a b : Counts) → Rose (a.faults d) (b.faults d) → TransferHasFailed read d a b) where
  module _ (old new : ScriptState) (core : Core) (patience : ℕ) (mid left : State) (some : old.session ≡ Some core) (drains : Drains core old patience mid) where
    faults_since : (disk : ℕ) (n : Counts) → Rose (mid.device.counts.faults disk) (n.faults disk) → Rose (old.moment.device.counts.faults disk) (n.faults disk)
    faults_since disk n rose = rose_before ((path_frames drains.runs).keeps.counts.faults disk) rose

    -- what is there is a member of the session's group
    pub member_of : (disk : ℕ) → there mid.core.status disk ≡ true → is_member core.descriptor disk ≡ true
    member_of disk was = sym (ap (λ (g : Descriptor). is_member g disk) (path_frames drains.runs).keeps.descriptor) ∙ sym (ap (λ (g : Descriptor). is_member g disk) drains.sound.fitting.group)
        ∙ first (is_member mid.core.status.group disk) (calls_missing mid.core.status.wanted disk) was
      where
        first : (a b : Bool) → a && not b ≡ true → a ≡ true
        first true b is = refl
        first false b is = is

    -- and wasn't missing before
    pub was_there : (disk : ℕ) → there mid.core.status disk ≡ true → is_missing core disk ≡ false
    was_there disk was = by (is_missing core disk) refl
      where
        second : (a b : Bool) → a && not b ≡ true → b ≡ false
        second true true is = absurd (cc is)
        second true false is = refl
        second false b is = absurd (cc is)

        by : (b : Bool) → is_missing core disk ≡ b → b ≡ false
        by true is = let gone = sym (drains.missing disk is) ∙ second (is_member mid.core.status.group disk) (calls_missing mid.core.status.wanted disk) was in absurd (cc gone)
        by false is = refl

    lost : (have total : ℕ) (last : Stored) → HasLostQuorum mid.core.status last mid.device left.device have total → new.moment.device.counts ≡ left.device.counts → (2 * have ≤ total) × HasLostMember old new.moment.device.counts
    lost have total last it same = (
      subst (λ (n : ℕ). 2 * have ≤ n) (sym it.total_is) (at_most_half last.group have it.few),
      record {
        core = core;
        on = some;
        disk = it.disk;
        member = member_of it.disk it.was;
        was = was_there it.disk it.was;
        failed = subst (λ (n : Counts). Rose (old.moment.device.counts.faults it.disk) (n.faults it.disk)) (sym same) (faults_since it.disk left.device.counts it.failed);
      },
    )

    known_so : (why : GroupFault) → FaultFacts why patience mid left → IsLeftEither (ends_session why) left old new → Known read (refusal_for why) old new
    known_so fault.Dark facts leaves = record {
      cause = has_by read refusal.Dark old new other (subst (λ (n : Counts). Rose old.moment.device.counts.cuts n.cuts) (sym (counts_left true left old new leaves)) (rose_before (path_frames drains.runs).keeps.counts.cuts facts.1));
      off = λ is. none_left left old new leaves;
      unwritten = λ have total is. absurd (cc (is));
    }
    known_so (fault.WentOff have total) facts leaves = record {
      cause = has_by read (refusal.WentOff have total) old new other (let its = lost have total left.core.status facts.0 (counts_left true left old new leaves) in (its.0, inl (inl its.1)));
      off = λ is. none_left left old new leaves;
      unwritten = λ h t is. absurd (cc (is));
    }
    known_so fault.Stuck facts leaves = record {
      cause = has_by read refusal.Stuck old new other (subst (λ (n : Counts). RoseBy patience_of_line old.moment.device.counts.waits n.waits) (sym (counts_left true left old new leaves))
          (rose_in_line patience old.moment.device.counts.waits mid.device.counts.waits left.device.counts.waits drains.few drains.waited facts.waits));
      off = λ is. none_left left old new leaves;
      unwritten = λ have total is. absurd (cc (is));
    }
    known_so (fault.DiskFailed disk) facts leaves = record {
      cause = has_by read (refusal.DiskFailed disk) old new other
          (failed disk old.moment.device.counts new.moment.device.counts (subst (λ (n : Counts). Rose (old.moment.device.counts.faults disk) (n.faults disk)) (sym (counts_left false left old new leaves)) (faults_since disk left.device.counts facts.0)));
      off = λ is. absurd (cc (is));
      unwritten = λ have total is. absurd (cc (is));
    }
    known_so plain facts leaves = record { cause = has_by read _ old new other tt; off = λ is. absurd (cc (is)); unwritten = λ have total is. absurd (cc (is)) }

  pub known_group : (why : GroupFault) (old new : ScriptState) (core : Core) (patience : ℕ) (mid left : State) → old.session ≡ Some core → Drains core old patience mid → FaultFacts why patience mid left → IsLeftEither (ends_session why) left old new
      → Known read (refusal_for why) old new
  known_group why old new core patience mid left some drains facts leaves = known_so old new core patience mid left some drains why facts leaves
