-- Why `reducevg` is refused.
use Rattle.std.proofs.Common.{◌≡◌, ◌⊎◌, inl, inr, ⊎_elim, ◌*◌, ◌+◌, ◌-◌, ◌≤◌, not, ℕ, true, false, List, Option, Some, Result, Ok, Err, refl, sym, ◌∙◌, ap, subst, arith}
use Rattle.std.specs.Prelude.{IsTrue}
use Rattle.lvm_num.specs.declared.descriptor.Descriptor.{Descriptor}
use Rattle.lvm_disk.specs.Counts.{Rose, RoseBy, Counts}
use Rattle.lvm_num.specs.Descriptor.{is_member}
use Rattle.lvm_disk.specs.Device.{Device}
use Rattle.lvm_steps.proofs.RecordLemmas.{join}
use Rattle.lvm_session.specs.Judging.{is_missing}
use Rattle.lvm_disk.proofs.CountingLemmas.{rose_before}
use Rattle.lvm_write.proofs.PartsLemmas.Transfers.{rose_then}
use Rattle.lvm_parse.specs.declared.command.Command.{Command}
use Rattle.lvm_parse.specs.declared.command.Command.TheVariants as command
use Rattle.lvm_parse.specs.declared.rest.Misfit.{Misfit}
use Rattle.lvm_core.specs.Committing.{HasGoneDark, IsLeftOut}
use Rattle.lvm_session.specs.declared.open.Power.TheVariants as power
use Rattle.lvm_session.specs.State.{Core, State, is_there}
use Rattle.lvm_status.specs.Update.{members_there}
use Rattle.lvm_core.specs.declared.fault.CommitFault.TheVariants as commit
use Rattle.lvm_volume_lines.specs.passed.Members.{HasGoneOffBy}
use Rattle.lvm_member_lines.specs.passed.MemberPlan.{IsReducedBy, ReduceFault}
use Rattle.lvm_member_lines.specs.passed.MemberSteps.{BreaksFrom, BreaksOff, HasComeTo, WentOffAtOnce}
use Rattle.lvm_member_lines.specs.passed.Reduce.{ReduceGives, ends_session}
use Rattle.lvm_member_lines.specs.passed.ReduceFaultVariants as fault
use Rattle.lvm_volume_lines.specs.passed.GroupLines.{Refusal, ScriptState, patience_of_line}
use Rattle.lvm_volume_lines.specs.passed.RefusalVariants as refusal
use Rattle.lvm_volume_lines.specs.Volumes.{Drains, IsLeftEither}
use Rattle.lvm_volume_lines.proofs.passed.Tie.{path_frames}
use Rattle.lvm_member_lines.specs.Reducing.{reduce_refusal}
use Rattle.lvm_line.specs.Causes.{CauseOf, HasLostMember, LacksVotes, WritesNoMore}
use Rattle.lvm_line.proofs.CausesLemmas.Faulting.{at_most_half, counts_left, member_of, none_left, rose_in_line, was_there}
use Rattle.lvm_line.proofs.CausesLemmas.Knowing.{Known}

-- it has waited so often in two parts
rose_on : (before left a b c : ℕ) → left ≤ before → RoseBy (before - left) a b → RoseBy left b c → RoseBy before a c
rose_on before left a b c few first later =
    let sum : (before - left) + left ≡ before = omega (arith, few) in
    subst (λ (n : ℕ). RoseBy n a c) sum (rose_then (before - left) left a b c first later)

module _ (name disks : List ℕ) (old new : ScriptState) (core : Core) (patience : ℕ) (mid left : State) (some : old.session ≡ Some core) (drains : Drains core old patience mid) where
  abbrev read : Result (Option Command) Misfit
  read = Ok (Some (command.Reducevg name disks))

  not_dark : mid.core.power ≡ power.Dark → ⊥
  not_dark dark = let is = drains.settled.power in cc (is, dark)

  not_off : mid.core.power ≡ power.Off → ⊥
  not_off off = let is = drains.settled.power in cc (is, off)

  -- the power was cut in the line
  went_dark : BreaksOff disks patience mid left commit.Dark → Rose old.moment.device.counts.cuts left.device.counts.cuts
  went_dark broke =
      let dark : HasGoneDark broke.mid left = broke.breaks in
      rose_before (path_frames drains.runs).keeps.counts.cuts (subst (λ (n : ℕ). Rose n left.device.counts.cuts) broke.come.cuts dark.cut.cuts)

  -- the shelf waited
  waited : (end : State) (rest : ℕ) → HasComeTo disks patience rest mid end → RoseBy rest end.device.counts.waits left.device.counts.waits → RoseBy patience_of_line old.moment.device.counts.waits left.device.counts.waits
  waited end rest came more = rose_in_line patience old.moment.device.counts.waits mid.device.counts.waits left.device.counts.waits drains.few drains.waited
      (rose_on patience rest mid.device.counts.waits end.device.counts.waits left.device.counts.waits came.spends.falls came.spends.waits more)

  was_left : BreaksOff disks patience mid left commit.Stuck → RoseBy patience_of_line old.moment.device.counts.waits left.device.counts.waits
  was_left broke =
      let out : IsLeftOut broke.left broke.mid left = broke.breaks in
      waited broke.mid broke.left broke.come out.out.waits

  -- a member was lost, and the votes by some descriptor with it
  lost_by : (by has : Descriptor) (have total : ℕ) (end : State) (rest : ℕ) → HasComeTo disks patience rest mid end → HasGoneOffBy by has have total end left → new.moment.device.counts ≡ left.device.counts
      → (2 * have ≤ total) × HasLostMember old new.moment.device.counts
  lost_by by has have total end rest came it same = (
    subst (λ (n : ℕ). 2 * have ≤ n) (sym it.total_is) (at_most_half by have it.few),
    record {
      core = core;
      on = some;
      disk = it.disk;
      member = member_of read tt (λ d a b rose. rose) old new core patience mid left some drains it.disk there;
      was = was_there read tt (λ d a b rose. rose) old new core patience mid left some drains it.disk there;
      failed = subst (λ (n : Counts). Rose (old.moment.device.counts.faults it.disk) (n.faults it.disk)) (sym same)
          (rose_before ((path_frames drains.runs).keeps.counts.faults it.disk) (rose_before (came.falls.faults it.disk) it.failed));
    },
  )
    where
      there : members_there mid.core.status.group mid.core.status.wanted it.disk ≡ true
      there = ap (λ (g : Descriptor). members_there g mid.core.status.wanted it.disk) drains.sound.fitting.group ∙ came.before it.disk it.was

  -- or there were too few for a step
  lacks : (next : Descriptor) (have total : ℕ) (end : State) (rest : ℕ) → HasComeTo disks patience rest mid end → IsReducedBy disks mid.core.descriptor next → WentOffAtOnce next have total end left
      → (2 * have ≤ total) × LacksVotes disks have total old
  lacks next have total end rest came way it = (
    subst (λ (n : ℕ). 2 * have ≤ n) (sym it.total_is) (at_most_half next have it.few),
    record {
      core = core;
      on = some;
      next = next;
      way = subst (λ (g : Descriptor). IsReducedBy disks g next) (path_frames drains.runs).keeps.descriptor way;
      there = is_there end.core;
      fewer = λ d there. was_there_first d (came.before d there);
      have_is = it.have_is;
      total_is = it.total_is;
      few = it.few;
    },
  )
    where
      was_there_first : (d : ℕ) → IsTrue (is_there mid.core d) → IsTrue (is_there core d)
      was_there_first d there =
          let its : members_there mid.core.status.group mid.core.status.wanted d ≡ true = ap (λ (g : Descriptor). members_there g mid.core.status.wanted d) drains.sound.fitting.group ∙ there in
          join (is_member core.descriptor d) (not (is_missing core d)) (member_of read tt (λ e a b rose. rose) old new core patience mid left some drains d its)
          (ap not (was_there read tt (λ e a b rose. rose) old new core patience mid left some drains d its))

  -- nothing was written behind the turns
  no_more : left ≡ mid → IsLeftEither false left old new → WritesNoMore old new
  no_more same leaves = record { core = core; on = some; left = patience; mid = mid; drains = drains; wrote = ap (λ (d : Device). d.wrote) leaves.device ∙ ap (λ (s : State). s.device.wrote) same }

  pub known_reduce : (why : ReduceFault) → ReduceGives disks patience mid left (Err why) → IsLeftEither (ends_session why) left old new → Known read (reduce_refusal why) old new
  known_reduce fault.Dark gives leaves = record {
    cause = subst (λ (n : Counts). Rose old.moment.device.counts.cuts n.cuts) (sym (counts_left true left old new leaves)) (⊎_elim (λ refused. absurd (not_dark refused.1)) (λ broken. went_dark broken.1) gives);
    off = λ is. none_left left old new leaves;
    unwritten = λ have total is. absurd (cc (is));
  }
  known_reduce (fault.WentOff have total) gives leaves = record {
    cause = ⊎_elim (λ refused. absurd (not_off refused.1.0)) (λ broken. by broken.1) gives;
    off = λ is. none_left left old new leaves;
    unwritten = λ h t is. absurd (cc (is));
  }
    where
      from : (end : State) (rest : ℕ) → HasComeTo disks patience rest mid end → BreaksFrom disks rest mid end left (commit.WentOff have total) → CauseOf read (refusal.WentOff have total) old new
      from end rest came (inl between) = let its = lost_by between.by between.has have total end rest came between.off (counts_left true left old new leaves) in (its.0, inl (inl its.1))
      from end rest came (inr (next, way, few)) = let its = lacks next have total end rest came way few in (its.0, inr its.1)

      by : BreaksOff disks patience mid left (commit.WentOff have total) → CauseOf read (refusal.WentOff have total) old new
      by broke = from broke.mid broke.left broke.come broke.breaks
  known_reduce fault.Stuck gives leaves = record {
    cause = subst (λ (n : Counts). RoseBy patience_of_line old.moment.device.counts.waits n.waits) (sym (counts_left true left old new leaves)) (was_left gives.1);
    off = λ is. none_left left old new leaves;
    unwritten = λ have total is. absurd (cc (is));
  }
  known_reduce (fault.NoQuorum have total) gives leaves = record { cause = tt; off = λ is. absurd (cc (is)); unwritten = λ h t is. no_more gives.0 leaves }
  known_reduce fault.Busy gives leaves = record { cause = tt; off = λ is. absurd (cc (is)); unwritten = λ have total is. absurd (cc (is)) }
  known_reduce (fault.NoDisk disk) gives leaves = record { cause = tt; off = λ is. absurd (cc (is)); unwritten = λ have total is. absurd (cc (is)) }
  known_reduce fault.LastDisk gives leaves = record { cause = tt; off = λ is. absurd (cc (is)); unwritten = λ have total is. absurd (cc (is)) }
  known_reduce (fault.DiskInUse disk) gives leaves = record { cause = tt; off = λ is. absurd (cc (is)); unwritten = λ have total is. absurd (cc (is)) }
  known_reduce fault.HistoryFull gives leaves = record { cause = tt; off = λ is. absurd (cc (is)); unwritten = λ have total is. absurd (cc (is)) }
  known_reduce fault.Memory gives leaves = record { cause = tt; off = λ is. absurd (cc (is)); unwritten = λ have total is. absurd (cc (is)) }
