-- A varyon as a part of a run.
use Rattle.std.proofs.Common.{◌≡◌, ◌≢◌, ℕ, ◌≤◌, ◌<◌, ◌+◌, ◌*◌, ◌^◌, Bool, true, false, ◌&&◌, not, IsTrue, arith, List, refl, sym, ap, subst, ◌∙◌}
use Rattle.std.specs.Prelude.{if◌then◌else◌}
use Rattle.lvm_write.proofs.WrittenLemmas.Writing.{if_told}
use Rattle.lvm_num.specs.declared.descriptor.Descriptor.{Descriptor}
use Rattle.lvm_num.specs.Disks.{Disks}
use Rattle.lvm_num.specs.Descriptor.{is_member}
use Rattle.lvm_num.specs.Votes.{all_disks, votes_in, CanRead, CanWrite}
use Rattle.lvm_num.proofs.VotesLemmas.{read_is_write, more_is_enough, more_have_more}
use Rattle.lvm_disk.specs.Device.{Device, image_of}
use Rattle.lvm_disk.specs.Paths.{DeviceStep, Path}
use Rattle.lvm_vol.specs.Facts.{Fact, Cut, On}
use Rattle.lvm_vol.specs.Log.{Log, spare_entries, is_uncut, with_fact, cut_log}
use Rattle.lvm_kept.specs.Moments.{StaysCalm}
use Rattle.lvm_kept.specs.Group.{ReadsBy}
use Rattle.lvm_kept.proofs.CommittedLemmas.Finding.{finding_reads}
use Rattle.lvm_steps.specs.Moments.{ImagesKept, Keeps, StaysKept}
use Rattle.lvm_steps.specs.Requests.{at}
use Rattle.lvm_steps.proofs.EnteringLemmas.{quiet_goes_on, calm_goes_on}
use Rattle.lvm_steps.proofs.MomentsLemmas.Spans.{keeps_still, steps_go_on, group_goes_on}
use Rattle.lvm_steps.specs.Behind.{ClockIsAhead}
use Rattle.lvm_status.specs.Update.{Updates, members_there}
use Rattle.lvm_commit.specs.Settling.{many_there}
use Rattle.lvm_rec.specs.declared.homes.Homes.{Homes}
use Rattle.lvm_varyon.specs.passed.Core.{Room, Cause, NotesAreHome, StartsHeld, IsSettled, HasSpareNumbers}
use Rattle.lvm_varyon.specs.passed.Commit.{HoldsCommitted, NoneIsLeft}
use Rattle.lvm_varyon.specs.passed.SessionStart.{Parts, first_core}
use Rattle.lvm_varyon.specs.passed.Session.{Core, is_there}
use Rattle.lvm_varyon.specs.passed.CoreRefusedCause as cause
use Rattle.lvm_varyon.proofs.passed.Core.{starts_settled, starts_numbered}
use Rattle.lvm_num.specs.declared.status.Status.{Status}
use Rattle.lvm_num.specs.Status.{calls_missing, calls_stale}
use Rattle.lvm_varyon.specs.Second.{status_after, last_stamp}
use Rattle.lvm_varyon.proofs.SecondLemmas.{last_seq_low, same_missing, same_stale}
use Rattle.lvm_varyon.specs.Varied.{IsRecovered, DirtyAreEqual, ComesOn, IsAheadOfDisks, IsBrought, log_after}
use Rattle.lvm_varyon.specs.Chosen.{answering}
use Rattle.lvm_varyon.proofs.SettlingLemmas.{next_leaves_none}
use Rattle.lvm_varyon.proofs.FoundLemmas.Holding.{dirty_are_one, holds, notes_home, recovers, shows_recovered, was_told}

-- ---- the span

pub ahead_of : (run moment : ℕ) (old : Device) (facts : List Fact) → ClockIsAhead run moment old facts → IsAheadOfDisks moment old
ahead_of run moment old facts clock early = (clock early).behind

on_steps : (log : Log) (old new : Device) → Path DeviceStep (StaysKept old) old new → Keeps log.run (at old log.facts) (at new log.facts)
on_steps log old new path = steps_go_on log.run (at old log.facts) old new log.facts (keeps_still log.run (at old log.facts)) path

same_calm : (log : Log) (old new : Device) → StaysCalm (at old log.facts) (at new log.facts)
same_calm log old new past calm = calm

-- a cut is entered, or there is nothing to end
cut_keeps : (log : Log) (old new : Device) → Keeps log.run (at old log.facts) (at new log.facts) → Keeps log.run (at old log.facts) (at new (cut_log log).facts)
cut_keeps log old new span = by_test (is_uncut log.facts)
  where
    by_test : (t : Bool) → Keeps log.run (at old log.facts) (at new (if t then with_fact log Cut else log).facts)
    by_test true = quiet_goes_on log.run (at old log.facts) new log.facts Cut span tt (λ past begins holds. tt)
    by_test false = span

cut_calm : (log : Log) (old new : Device) → StaysCalm (at old log.facts) (at new (cut_log log).facts)
cut_calm log old new = by_test (is_uncut log.facts)
  where
    by_test : (t : Bool) → StaysCalm (at old log.facts) (at new (if t then with_fact log Cut else log).facts)
    by_test true = calm_goes_on (at old log.facts) new log.facts Cut (same_calm log old new) tt
    by_test false = same_calm log old new

pub refused_keeps : (why : Cause) (log : Log) (old new : Device) → Path DeviceStep (StaysKept old) old new → Keeps log.run (at old log.facts) (at new (log_after why log).facts)
refused_keeps cause.Dark log old new path = cut_keeps log old new (on_steps log old new path)
refused_keeps _ log old new path = on_steps log old new path

pub refused_calm : (why : Cause) (log : Log) (old new : Device) → StaysCalm (at old log.facts) (at new (log_after why log).facts)
refused_calm cause.Dark log old new = cut_calm log old new
refused_calm _ log old new = same_calm log old new

-- ---- the group is on

module _ (old new : Device) (log : Log) (name : List ℕ) (moment : ℕ) (room : Room) (parts : Parts) (seq : ℕ) (homes : Homes) (core : Core) (is : IsBrought old new name moment room parts seq homes)
    (core_is : core ≡ first_core parts log (record { epoch = moment; seq = seq }) homes core.origin.faults) where
  group_is : core.descriptor ≡ is.written.group
  group_is = ap (λ (c : Core). c.descriptor) core_is ∙ is.reserved.descriptor

  abbrev stands : Status
  stands = status_after is.written.next is.written.clean

  core_at : core ≡ first_core parts log (last_stamp moment is.written.clean) homes core.origin.faults
  core_at = core_is ∙ ap (λ (n : ℕ). first_core parts log (record { epoch = moment; seq = n }) homes core.origin.faults) is.seq_is

  pub comes_on : 1 ≤ spare_entries log → ComesOn old new log name moment room core
  comes_on spare = subst (ComesOn old new log name moment room) (sym core_at) (record {
    spare = spare;
    written = is.written;
    first = record { parts = parts; reserved = is.reserved; is = refl };
  })

  pub starts_held : (facts : List Fact) → ClockIsAhead log.run moment old log.facts → ImagesKept old facts → StartsHeld new core
  starts_held facts clock kept = record {
    held = if_told new.media (λ media. HoldsCommitted (image_of new.sizes media) core.descriptor core.status.committed (is_there core) core.status.stamp core.homes) (λ last told_last.
        let first = was_told old new name moment room parts seq homes is last told_last in
        holds old new name moment room parts seq homes is first.0 last first.1 told_last (ahead_of log.run moment old log.facts clock) core log core_is facts kept);
    notes = if_told new.media (λ media. NotesAreHome core (image_of new.sizes media)) (λ last told_last.
        let first = was_told old new name moment room parts seq homes is last told_last in
        notes_home old new name moment room parts seq homes is first.0 last first.1 told_last (ahead_of log.run moment old log.facts clock) core log core_is);
  }

  missing_are : (d : ℕ) → calls_missing stands d ≡ calls_missing is.written.next d
  missing_are d = same_missing is.written.group (answering is.written.found.shown is.written.group) moment is.written.next is.written.clean is.written.clean_is d

  -- no copy is left behind, since the next status calls them stale
  pub none_left : NoneIsLeft core.descriptor core.status
  none_left =
      let first : Core = first_core parts log (last_stamp moment is.written.clean) homes core.origin.faults in
      let wanted : first.status.wanted ≡ stands = ap (λ (u : Updates). u.wanted) is.reserved.status in
      subst (λ (c : Core). NoneIsLeft c.descriptor c.status) (sym core_at) (subst (λ (d : Descriptor). NoneIsLeft d first.status) (sym is.reserved.descriptor)
      (next_leaves_none is.written.group (answering is.written.found.shown is.written.group) is.written.was is.written.next first.status is.valid is.written.next_is
      (ap (λ (u : Updates). u.group) is.reserved.status)
      (λ p. ap (λ (s : Status). calls_stale s p) wanted ∙ same_stale is.written.group (answering is.written.found.shown is.written.group) moment is.written.next is.written.clean is.written.clean_is p)
      (λ d. ap (λ (s : Status). calls_missing s d) wanted ∙ missing_are d)))

  pub is_recovered : ClockIsAhead log.run moment old log.facts → IsRecovered old new core.descriptor
  is_recovered clock = subst (IsRecovered old new) (sym group_is) (record {
    disks = is.written.found.answered;
    answered = is.written.found.have;
    recovered = λ was last first more told told_last wrote wrote_last. recovers old new name moment room parts seq homes is was last told told_last (ahead_of log.run moment old log.facts clock) first more wrote wrote_last;
    shown = λ was last told told_last. shows_recovered old new name moment room parts seq homes is was last told told_last (ahead_of log.run moment old log.facts clock);
  })

  pub dirty_are_equal : ClockIsAhead log.run moment old log.facts → DirtyAreEqual new core
  dirty_are_equal clock = if_told new.media _ (λ last told_last stands same.
      let first = was_told old new name moment room parts seq homes is last told_last in
      dirty_are_one old new name moment room parts seq homes is first.0 last first.1 told_last (ahead_of log.run moment old log.facts clock) core log core_is stands same)

  pub on_keeps : Path DeviceStep (StaysKept old) old new → ClockIsAhead log.run moment old log.facts → Keeps log.run (at old log.facts) (at new core.history.facts)
  on_keeps path clock = subst (λ (c : Core). Keeps log.run (at old log.facts) (at new c.history.facts)) (sym core_is)
      (let ahead = clock is.written.chosen.early in group_goes_on log.run (at old log.facts) new log.facts moment (on_steps log old new path) ahead.run_is ahead.later)

  pub on_calm : StaysCalm (at old log.facts) (at new core.history.facts)
  on_calm = subst (λ (c : Core). StaysCalm (at old log.facts) (at new c.history.facts)) (sym core_is) (calm_goes_on (at old log.facts) new log.facts (On moment) (same_calm log old new) tt)

  -- the members that answer hold a quorum
  votes : CanWrite is.written.group (members_there is.written.group stands)
  votes =
      let group = is.written.group in
      let c = is.written.found.shown in
      let holds = is.written.chosen.holds in
      let reads : ReadsBy c all_disks group.id group = finding_reads c all_disks group.id group (record { quorum = holds.quorum; newest = holds.newest; found = holds.only.newest; is = holds.is }) in
      let enough : CanRead group (answering c group) = subst (λ (v : Disks). CanRead group v) (sym reads.voters) reads.reads.enough in
      more_is_enough.write group (votes_in group (answering c group)) (votes_in group (members_there group stands))
      (more_have_more group (answering c group) (members_there group stands) present) (read_is_write group (votes_in group (answering c group)) is.valid.head.a_member enough)
    where
      present : (d : ℕ) → IsTrue (is_member is.written.group d) → IsTrue (answering is.written.found.shown is.written.group d) → IsTrue (members_there is.written.group stands d)
      present d member target =
          ap (λ (m : Bool). is_member is.written.group d && not m) (missing_are d ∙ is.written.next_is.missing d)
          ∙ ap (λ (a : Bool). a && not (a && not (answering is.written.found.shown is.written.group d))) member
          ∙ ap (λ (t : Bool). true && not (true && not t)) target

  -- a stamp more is still spare, since twice a number is even
  numbered : HasSpareNumbers (first_core parts log (last_stamp moment is.written.clean) homes core.origin.faults)
  numbered =
      let two : 10 + 2 * many_there (first_core parts log (last_stamp moment is.written.clean) homes core.origin.faults).status < 2 ^ 32 =
      starts_numbered is.written.group stands room parts log (record { epoch = moment; seq = 2 }) homes core.origin.faults is.reserved is.valid (omega arith) in
      let low = last_seq_low is.written.clean in omega (arith, two, low)

  pub settles : moment ≢ 0 → IsSettled core × HasSpareNumbers core
  settles some = subst (λ (c : Core). IsSettled c × HasSpareNumbers c) (sym core_at) (
    starts_settled is.written.group stands room parts log (last_stamp moment is.written.clean) homes core.origin.faults is.reserved some votes,
    numbered,
  )
