-- Why no more copies have moved.
use Rattle.std.proofs.Common.{◌≡◌, ◌⊎◌, inl, inr, ◌≤◌, ◌+◌, ◌-◌, ◌||◌, ℕ, Bool, true, false, List, [], Option, None, Some, if◌then◌else◌, length, slice_index_or, refl, sym, ap, subst, ◌∙◌, arith}
use Rattle.std.specs.Prelude.{IfErr, IfSome, Ok, Err, Result, nat_lt}
use Rattle.std.specs.Option.{option_map_or}
use Rattle.lvm_num.specs.declared.place.Pp.{Pp}
use Rattle.lvm_num.specs.declared.descriptor.LvRow.{LvRow}
use Rattle.lvm_num.specs.declared.descriptor.Descriptor.{Descriptor}
use Rattle.lvm_num.specs.Descriptor.{IsValid, copies_of, volume_of}
use Rattle.lvm_num.specs.DescriptorBytes.{descriptor_bytes}
use Rattle.lvm_num.specs.Votes.{total_votes, votes_in}
use Rattle.lvm_disk.specs.Counts.{Rose, RoseBy}
use Rattle.lvm_disk.specs.Device.{Device}
use Rattle.lvm_disk.specs.Paths.{Here, Path, Then}
use Rattle.lvm_disk.proofs.CountingLemmas.{rose_after, rose_before}
use Rattle.lvm_status.specs.Update.{members_there}
use Rattle.lvm_commit.specs.declared.commit.CommitEnd.{CommitEnd}
use Rattle.lvm_commit.specs.declared.commit.CommitEnd.TheVariants as commit_end
use Rattle.lvm_commit.specs.Settling.{DescriptorEnds, HasLostQuorum}
use Rattle.lvm_core.specs.declared.fault.CommitFault.{CommitFault}
use Rattle.lvm_core.specs.declared.fault.CommitFault.TheVariants as commit
use Rattle.lvm_core.proofs.CommittingLemmas.Spanning.{path_falls}
use Rattle.lvm_move.specs.Moving.{CommitsMove, Misses, MoveEnds, Writes, WritesMove}
use Rattle.lvm_session.specs.declared.answers.CopyState.{CopyState}
use Rattle.lvm_session.specs.declared.answers.CopyState.TheVariants as copy
use Rattle.lvm_session.specs.declared.answers.OpenFault.{OpenFault}
use Rattle.lvm_session.specs.declared.answers.OpenFault.TheVariants as denial
use Rattle.lvm_session.specs.declared.bringing.CopyEnd.{CopyEnd}
use Rattle.lvm_session.specs.declared.bringing.CopyEnd.TheVariants as ending
use Rattle.lvm_session.specs.declared.bringing.OpenCopy.{OpenCopy}
use Rattle.lvm_session.specs.declared.open.Power.TheVariants as power
use Rattle.lvm_session.specs.declared.origin.Origin.{Origin}
use Rattle.lvm_session.specs.Bringing.{is_out}
use Rattle.lvm_session.specs.Calls.{OpensMove, closed, copy_at, faults_of, copy_state, is_still_aimed, state_at_end, state_of_copy}
use Rattle.lvm_session.specs.Causes.{FailedSinceOpening, HaveSourcesFailed, IsCausedAmong, OwnFailedSinceOpening, faults_at_first, faults_at_opening, own_faults}
use Rattle.lvm_session.specs.Dark.{all_off}
use Rattle.lvm_session.specs.Judging.{copies_in, is_move_done}
use Rattle.lvm_session.specs.Sound.{IsSound}
use Rattle.lvm_session.specs.State.{Core, State, votes_there}
use Rattle.lvm_due.proofs.DescriptorLemmas.Members.{few_in}
use Rattle.lvm_keeps_events.specs.passed.Calls.{counts_seen, faults_seen}
use Rattle.lvm_keeps_events.proofs.OpeningLemmas.Opening.{at_place, counted_at, last_count}
use Rattle.lvm_going.specs.Going.{CommitsOpenMove, closed_after}
use Rattle.lvm_going.proofs.FramesLemmas.{turn_frame}
use Rattle.lvm_driver.specs.Answers.{IsCopyCaused}
use Rattle.lvm_driver.specs.Drains.{DrainEnds, IsAny, IsDrained, IsTurn}
use Rattle.lvm_move_plan.specs.declared.plan.PlannedMove.{PlannedMove}
use Rattle.lvm_ranges.specs.Causes.{AnyFails}
use Rattle.lvm_ranges.specs.Passing.{IsSameCopy}
use Rattle.lvm_migrate.specs.declared.fault.MoveFault.{MoveFault}
use Rattle.lvm_migrate.specs.declared.fault.MoveFault.TheVariants as fault
use Rattle.lvm_migrate.specs.Faults.{IsOfOpening, commit_fault_is, opening_fault_is}
use Rattle.lvm_migrate.specs.Migrating.{GoesBesideMoving, MoveCause}
use Rattle.lvm_migrate.specs.Moving.{CommitGives, Concludes, HasFailed, IsAnswerOf, IsDeniedBy, Opens, ended_fault, fault_of_move}
use Rattle.lvm_migrate.proofs.CommittedLemmas.{IsWrittenWell, opens as opens_of, written_well}
use Rattle.lvm_migrate.proofs.MovingLemmas.{begun, opened_so}
use Rattle.lvm_migrate.proofs.OpeningLemmas.{FewNumbers, ItsDiskIsMissing, NoneIsUsable, SessionIsDark, SessionIsOff, StandsAgainstIt}
use Rattle.lvm_migrate.proofs.TurnsLemmas.{IsOpenMove}

-- ---- what stays, and what never falls

-- the disks are as large, as many transfers had failed when the session began, and no count of faults has fallen
pub record IsLater (old new : State) : Type 0 where
  pub sizes : new.device.sizes ≡ old.device.sizes
  pub began : new.core.origin.faults ≡ old.core.origin.faults
  pub faults : (d : ℕ) → old.device.counts.faults d ≤ new.device.counts.faults d

pub later_same : (s : State) → IsLater s s
later_same s = record { sizes = refl; began = refl; faults = λ d. omega arith }

pub later_both : (old mid new : State) → IsLater old mid → IsLater mid new → IsLater old new
later_both old mid new one two = record { sizes = two.sizes ∙ one.sizes; began = two.began ∙ one.began; faults = λ d. let a = one.faults d in let b = two.faults d in omega (arith, a, b) }

-- by a call, which makes no transfer
later_call : (old new : State) → new.device ≡ old.device → new.core.origin.faults ≡ old.core.origin.faults → IsLater old new
later_call old new same began = record { sizes = ap (λ (d : Device). d.sizes) same; began = began; faults = λ d. subst (λ (x : Device). old.device.counts.faults d ≤ x.counts.faults d) (sym same) (omega arith) }

later_turns : {P : State → Type 0} {first last : State} → Path IsTurn P first last → IsLater first last
later_turns {first = first} (Here here) = later_same first
later_turns {first = first} {last = last} (Then {m = mid} path turn there) =
    let frame = turn_frame mid last turn.0 turn.1 in
    later_both first mid last (later_turns path) (record { sizes = frame.keeps.sizes; began = ap (λ (o : Origin). o.faults) frame.keeps.origin; faults = frame.keeps.counts.faults })

later_opened : (m : PlannedMove) (old mid : State) → Opens old mid m (Ok tt) → IsLater old mid
later_opened m old mid opens = later_call old mid opens.2 (ap (λ (c : Core). c.origin.faults) (opened_so old mid m opens).is ∙ (opened_so old mid m opens).called.faults)

pub turns_group : {P : State → Type 0} {first last : State} → Path IsTurn P first last → last.core.descriptor ≡ first.core.descriptor
turns_group (Here here) = refl
turns_group {last = last} (Then {m = mid} path turn there) = (turn_frame mid last turn.0 turn.1).keeps.descriptor ∙ turns_group path

-- one that has moved
pub later_moved : (m : PlannedMove) (patience left : ℕ) (old new : State) → CommitGives m patience left old new (Ok tt) → IsLater old new
later_moved m patience left old new gives =
    later_both old gives.turns.opened new (later_opened m old gives.turns.opened (opens_of m patience left old new gives))
    (later_both gives.turns.opened gives.ended new (later_turns gives.turns.turns) committed)
  where
    it : CommitsOpenMove gives.between left gives.ended new (Ok tt)
    it = gives.commits

    well : IsWrittenWell gives.between left gives.ended new it
    well = written_well gives.between left gives.ended new it

    device_is : new.device ≡ it.written.device
    device_is = ap (λ (s : State). s.device) it.is

    committed : IsLater gives.ended new
    committed = record {
      sizes = ap (λ (d : Device). d.sizes) device_is ∙ well.w.leaves.keeps.sizes;
      began = ap (λ (s : State). s.core.origin.faults) it.is ∙ ap (λ (c : Core). c.origin.faults) well.goes.is;
      faults = λ d. subst (λ (x : Device). gives.ended.device.counts.faults d ≤ x.counts.faults d) (sym device_is) ((path_falls gives.ended.device it.written.device well.w.kept).faults d);
    }

-- ---- what has failed

-- what is seen of the counts never falls
seen_more : (old new : State) → IsLater old new → (d : ℕ) → faults_seen old.device old.core d ≤ faults_seen new.device new.core d
seen_more old new it d = subst (λ (l : List ℕ). faults_seen old.device old.core d ≤ (if nat_lt d (length l) then new.device.counts.faults d else faults_at_first new.core d)) (sym it.sizes) (by (nat_lt d (length old.device.sizes)))
  where
    first_same : faults_at_first new.core d ≡ faults_at_first old.core d
    first_same = ap (λ (fs : List ℕ). slice_index_or fs d 0) it.began

    by : (b : Bool) → (if b then old.device.counts.faults d else faults_at_first old.core d) ≤ (if b then new.device.counts.faults d else faults_at_first new.core d)
    by true = it.faults d
    by false = omega (arith, first_same)

fails_later : (old mid new : State) → IsLater old mid → AnyFails mid new → AnyFails old new
fails_later old mid new since fails = (fails.0, rose_before (seen_more old mid since fails.0) fails.1)

-- one that has ended as failed, and rests
failed_end : (core : Core) (c : OpenCopy) (disk : ℕ) → state_of_copy core c ≡ copy.SyncFailed disk → c.end ≡ Some ending.SyncFailed
failed_end core c disk e = by (is_out c.step || is_still_aimed core c) (is_move_done core c) c.end refl e
  where
    by : (b d : Bool) (m : Option CopyEnd) → c.end ≡ m → (if b then copy.Running c.cursor else if d then copy.Done else option_map_or (state_at_end c) m (copy.Running c.cursor)) ≡ copy.SyncFailed disk → c.end ≡ Some ending.SyncFailed
    by true d m is f = absurd (cc f)
    by false true m is f = absurd (cc f)
    by false false None is f = absurd (cc f)
    by false false (Some ending.Done) is f = absurd (cc f)
    by false false (Some ending.SyncFailed) is f = is
    by false false (Some ending.NoFresh) is f = absurd (cc f)
    by false false (Some ending.Ended) is f = absurd (cc f)

module _ (m : PlannedMove) (old mid ended : State) (opens : Opens old mid m (Ok tt)) (valid : IsValid old.core.descriptor) (turns : Path IsTurn IsAny mid ended) (still : IsOpenMove (begun old mid m opens) ended.core) (disk : ℕ)
    (how : copy_state ended.core ≡ copy.SyncFailed disk) (its_cause : IsCopyCaused ended) where
  abbrev pps : List Pp
  pps = copies_of (opened_so old mid m opens).row m.copy.lp

  abbrev k : OpenCopy
  k = still.copy

  its_copies : copies_in old.core.descriptor m.copy.lv m.copy.lp ≡ pps
  its_copies = ap (λ (o : Option LvRow). option_map_or (λ (r : LvRow). copies_of r m.copy.lp) o []) (opened_so old mid m opens).volume

  few : length pps ≤ 3
  few = subst (λ (ps : List Pp). length ps ≤ 3) its_copies (few_in old.core.descriptor m.copy.lv m.copy.lp valid)

  same_group : ended.core.descriptor ≡ old.core.descriptor
  same_group = turns_group turns ∙ ap (λ (c : Core). c.descriptor) (opened_so old mid m opens).is

  its_own : copies_in ended.core.descriptor k.lv k.lp ≡ pps
  its_own = (λ t. copies_in (same_group t) (still.its.1 t) (still.its.2 t)) ∙ its_copies

  rose : (n : ℕ) (p : Pp) → copy_at pps n ≡ Some p → FailedSinceOpening ended.device k n p → AnyFails old ended
  rose n p at since = (p.disk, subst (λ (x : ℕ). Rose x (ended.device.counts.faults p.disk)) seen since)
    where
      seen : faults_at_opening k n ≡ faults_seen old.device old.core p.disk
      seen = ap (λ (fs : List ℕ). slice_index_or fs (n - 1) 0) still.its.4 ∙ counted_at (counts_seen old.device old.core) pps m.to (n - 1) p few (at_place pps n p at)

  own_rose : OwnFailedSinceOpening ended.device k → AnyFails old ended
  own_rose since = (k.pp.disk, subst (λ (x : ℕ). Rose x (ended.device.counts.faults k.pp.disk)) seen since)
    where
      seen : own_faults k ≡ faults_seen old.device old.core k.pp.disk
      seen = ap (λ (fs : List ℕ). slice_index_or fs 3 0) still.its.4 ∙ last_count (counts_seen old.device old.core) pps m.to
          ∙ ap (λ (p : Pp). faults_seen old.device old.core p.disk) (sym still.its.0)

  caused : IsCausedAmong ended (copies_in ended.core.descriptor k.lv k.lp) k
  caused = subst (λ (o : Option OpenCopy). IfSome o (λ (x : OpenCopy). IsCausedAmong ended (copies_in ended.core.descriptor x.lv x.lp) x)) still.is_open its_cause

  pub move_failed : AnyFails old ended
  move_failed = by (caused.failed (failed_end ended.core k disk (sym (ap (λ (o : Option OpenCopy). option_map_or (state_of_copy ended.core) o copy.Closed) still.is_open) ∙ how)))
    where
      by : OwnFailedSinceOpening ended.device k ⊎ HaveSourcesFailed ended (copies_in ended.core.descriptor k.lv k.lp) k → AnyFails old ended
      by (inl own) = own_rose own
      by (inr sources) = rose sources.number sources.source (ap (λ (ps : List Pp). copy_at ps sources.number) (sym its_own) ∙ sources.source_is) sources.one

-- ---- why one is the last

-- it isn't opened
pub cause_unopened : (patience : ℕ) (m : PlannedMove) (copies : List Pp) (old new : State) (why : MoveFault) → ((denied : OpenFault) → fault_of_move old.core m ≡ Some denied → StandsAgainstIt old.core m copies denied)
    → Opens old new m (Err why) → MoveCause patience old new why
cause_unopened patience m copies old new why against opens = subst (MoveCause patience old new) (sym opens.1.3) (by opens.1.0 opens.1.1 opens.1.2)
  where
    off : ℕ × ℕ
    off = (votes_there old.core, total_votes old.core.descriptor)

    so : (denied : OpenFault) → StandsAgainstIt old.core m copies denied → MoveCause patience old old (opening_fault_is denied m.copy.lp off)
    so denial.Dark (SessionIsDark is) = is
    so denial.Off (SessionIsOff is) = (is, refl, refl)
    so (denial.Missing disk) (ItsDiskIsMissing is) = is
    so denial.NoFresh (NoneIsUsable is) = tt
    so denial.HistoryFull (FewNumbers is) = is
    so denial.Busy it = elim it [ ]
    so denial.NoVolume it = elim it [ ]
    so denial.OutOfRange it = elim it [ ]
    so denial.InUse it = elim it [ ]
    so denial.Memory it = elim it [ ]

    moved : (denied : OpenFault) → fault_of_move old.core m ≡ Some denied → MoveCause patience old new (opening_fault_is denied m.copy.lp off)
    moved denied is = subst (λ (s : State). MoveCause patience old s (opening_fault_is denied m.copy.lp off)) (sym opens.0) (so denied (against denied is))

    by : (denied : OpenFault) → IsOfOpening denied → IsDeniedBy old.core m denied → MoveCause patience old new (opening_fault_is denied m.copy.lp off)
    by denial.Dark of is = moved denial.Dark is
    by denial.Off of is = moved denial.Off is
    by (denial.Missing disk) of is = moved (denial.Missing disk) is
    by denial.NoFresh of is = moved denial.NoFresh is
    by denial.HistoryFull of is = moved denial.HistoryFull is
    by denial.Memory of is = tt
    by denial.Busy of is = absurd of
    by denial.NoVolume of is = absurd of
    by denial.OutOfRange of is = absurd of
    by denial.InUse of is = absurd of

-- the turns break off
pub cause_turns : (patience left : ℕ) (old mid new : State) (why : CommitFault) → GoesBesideMoving old new patience left → DrainEnds left new (Err why) → MoveCause patience old new (commit_fault_is why)
cause_turns patience left old mid new commit.Dark beside ends = ends
cause_turns patience left old mid new (commit.WentOff have total) beside ends = (ends.power_is, ends.have_is, ends.total_is)
cause_turns patience left old mid new commit.Stuck beside ends =
    let all : patience - left ≡ patience = omega (arith, ends) in
    subst (λ (n : ℕ). RoseBy n old.device.counts.waits new.device.counts.waits) all beside.waited
cause_turns patience left old mid new (commit.DiskFailed disk) beside ends = absurd ends

-- the commit does
rose_by_both : {m n a b c : ℕ} → RoseBy m a b → RoseBy n b c → RoseBy (m + n) a c
rose_by_both one two = record { later = omega (arith, one.later, two.later); risen = omega (arith, one.risen, two.risen, one.later, two.later) }

module _ (patience between left : ℕ) (old ended new : State) (sound : IsSound ended) (beside : GoesBesideMoving old ended patience between) where
  module _ (why : CommitFault) (it : CommitsOpenMove between left ended new (Err why)) where
    done_not : {X : Type 0} → ◌≡◌ {A = Result (Unit {0}) CommitFault} (Err why) (Ok tt) → X
    done_not e = absurd (cc e)

    -- as what it is answered says
    so : (u : CommitFault) → ◌≡◌ {A = Result (Unit {0}) CommitFault} (Err why) (Err u) → (new.core ≡ closed_after (Err u) it.written.core → MoveCause patience old new (commit_fault_is u)) → MoveCause patience old new (commit_fault_is why)
    so u e cause =
        let same : why ≡ u = cc e in
        subst (λ (x : CommitFault). MoveCause patience old new (commit_fault_is x)) (sym same) (cause (ap (λ (s : State). s.core) it.is ∙ ap (λ (x : CommitFault). closed_after (Err x) it.written.core) same))

    off_cause : (have total : ℕ) (w : WritesMove it.next (descriptor_bytes it.next) between left ended it.written (Err why)) → HasLostQuorum ended.core.status w.last ended.device it.written.device have total
        → it.written.core ≡ all_off (record ended.core { status = w.last; homes = w.homes }) → new.core ≡ closed_after (Err (commit.WentOff have total)) it.written.core → MoveCause patience old new (fault.WentOff have total)
    off_cause have total w lost off is =
        let group_is : w.last.group ≡ record ended.core.descriptor { lvs = [] } = w.leaves.loses.group ∙ sound.fitting.group in
        let core_is : new.core ≡ closed (all_off (record ended.core { status = w.last; homes = w.homes })) = is ∙ ap closed off in (
          ap (λ (c : Core). c.power) core_is,
          lost.have_is ∙ ap (λ (g : Descriptor). votes_in g (members_there g w.last.wanted)) group_is ∙ sym (ap (λ (c : Core). votes_there c) core_is),
          lost.total_is ∙ ap (λ (g : Descriptor). total_votes g) group_is ∙ sym (ap (λ (c : Core). total_votes c.descriptor) core_is),
        )

    stuck_cause : RoseBy between ended.device.counts.waits it.written.device.counts.waits → MoveCause patience old new fault.Stuck
    stuck_cause waits =
        let fewer = beside.fewer in
        let all : patience - between + between ≡ patience = omega (arith, fewer) in
        subst (λ (n : ℕ). RoseBy n old.device.counts.waits new.device.counts.waits) all
        (rose_by_both beside.waited (subst (λ (s : State). RoseBy between ended.device.counts.waits s.device.counts.waits) (sym it.is) waits))

    cause_commit : ((disk : ℕ) → why ≡ commit.DiskFailed disk → ⊥) → MoveCause patience old new (commit_fault_is why)
    cause_commit there = of it.commits
      where
        of : CommitsMove it.next (descriptor_bytes it.next) between left ended it.written (Err why) → MoveCause patience old new (commit_fault_is why)
        of (Misses disk missing is same patience_is) = absurd (there disk (let e : why ≡ commit.DiskFailed disk = cc is in e))
        of (Writes none w) = by w.how w.ends w.goes
          where
            by : (end : CommitEnd) → DescriptorEnds (descriptor_bytes it.next) 0 between ended.core.status w.last ended.core.homes w.homes ended.device it.written.device end → MoveEnds it.next w.last w.homes ended.core it.written.core end (Err why)
                → MoveCause patience old new (commit_fault_is why)
            by (commit_end.Done back) ends goes = done_not goes.0
            by (commit_end.WentOff have total back) ends goes = so (commit.WentOff have total) goes.0 (off_cause have total w ends.lost goes.1)
            by commit_end.Dark ends goes = so commit.Dark goes.0 (λ is. ap (λ (c : Core). c.power) is ∙ ap (λ (c : Core). c.power) goes.1)
            by commit_end.Stuck ends goes = so commit.Stuck goes.0 (λ is. stuck_cause ends.0.waits)

  -- it is given up, or the commit ends so
  pub cause_concluded : (lp : ℕ) (why : MoveFault) → ((disk : ℕ) → copy_state ended.core ≡ copy.SyncFailed disk → IsCopyCaused ended → AnyFails old ended) → Concludes lp between left ended new (Err why) → MoveCause patience old new why
  cause_concluded lp why failed (inl it) = by it.how it.commits it.there it.answer_is
    where
      by : (how : Result (Unit {0}) CommitFault) → CommitsOpenMove between left ended new how → IfErr how (λ u. (disk : ℕ) → u ≡ commit.DiskFailed disk → ⊥) → IsAnswerOf how (Err why) → MoveCause patience old new why
      by (Ok done) commits there is = absurd (let e : Err why ≡ Ok tt = is in cc e)
      by (Err u) commits there is = let same : why ≡ commit_fault_is u = cc is in subst (MoveCause patience old new) (sym same) (cause_commit u commits there)
  cause_concluded lp why failed (inr it) = let same : why ≡ ended_fault (copy_state ended.core) lp = cc it.answer_is in subst (MoveCause patience old new) (sym same) (by (copy_state ended.core) refl it.failed)
    where
      later : (d : ℕ) → ended.device.counts.faults d ≤ new.device.counts.faults d
      later d = subst (λ (s : State). ended.device.counts.faults d ≤ s.device.counts.faults d) (sym it.is) (omega arith)

      by : (how : CopyState) → copy_state ended.core ≡ how → HasFailed how → MoveCause patience old new (ended_fault how lp)
      by (copy.SyncFailed disk) is its = let fails = failed disk is it.caused in (fails.0, rose_after fails.1 (later fails.0))
      by copy.NoFresh is its = tt
      by copy.Closed is its = absurd its
      by (copy.Running cursor) is its = absurd its
      by copy.Done is its = absurd its
      by copy.Ended is its = absurd its

-- since an earlier moment
pub cause_since : (first mid new : State) (patience between : ℕ) (why : MoveFault) → IsLater first mid → GoesBesideMoving first mid patience between → MoveCause between mid new why → MoveCause patience first new why
cause_since first mid new patience between fault.Dark later beside cause = cause
cause_since first mid new patience between (fault.WentOff have total) later beside cause = cause
cause_since first mid new patience between fault.Stuck later beside cause =
    let fewer = beside.fewer in
    let all : patience - between + between ≡ patience = omega (arith, fewer) in
    subst (λ (n : ℕ). RoseBy n first.device.counts.waits new.device.counts.waits) all (rose_by_both beside.waited cause)
cause_since first mid new patience between fault.HistoryFull later beside cause = cause
cause_since first mid new patience between (fault.Missing disk) later beside cause = cause
cause_since first mid new patience between (fault.SyncFailed disk) later beside cause = fails_later first mid new later cause
cause_since first mid new patience between (fault.NoFresh lp) later beside cause = tt
cause_since first mid new patience between fault.Busy later beside cause = tt
cause_since first mid new patience between (fault.Strict lp) later beside cause = tt
cause_since first mid new patience between (fault.NoRoom free) later beside cause = tt
cause_since first mid new patience between fault.Memory later beside cause = tt

-- ---- the group stays where one doesn't move

pub commit_group : (between left : ℕ) (ended new : State) (why : CommitFault) → CommitsOpenMove between left ended new (Err why) → new.core.descriptor ≡ ended.core.descriptor
commit_group between left ended new why it = ap (λ (s : State). s.core.descriptor) it.is ∙ closes (Err why) it.written.core ∙ of it.commits
  where
    closes : (answer : Result (Unit {0}) CommitFault) (core : Core) → (closed_after answer core).descriptor ≡ core.descriptor
    closes (Ok done) core = refl
    closes (Err commit.Stuck) core = refl
    closes (Err commit.Dark) core = refl
    closes (Err (commit.WentOff have total)) core = refl
    closes (Err (commit.DiskFailed disk)) core = refl

    done_not : {X : Type 0} → ◌≡◌ {A = Result (Unit {0}) CommitFault} (Err why) (Ok tt) → X
    done_not e = absurd (cc e)

    of : CommitsMove it.next (descriptor_bytes it.next) between left ended it.written (Err why) → it.written.core.descriptor ≡ ended.core.descriptor
    of (Misses disk missing is same patience_is) = ap (λ (s : State). s.core.descriptor) same
    of (Writes none w) = by w.how w.goes
      where
        by : (end : CommitEnd) → MoveEnds it.next w.last w.homes ended.core it.written.core end (Err why) → it.written.core.descriptor ≡ ended.core.descriptor
        by (commit_end.Done back) goes = done_not goes.0
        by (commit_end.WentOff have total back) goes = ap (λ (c : Core). c.descriptor) goes.1
        by commit_end.Dark goes = ap (λ (c : Core). c.descriptor) goes.1
        by commit_end.Stuck goes = ap (λ (c : Core). c.descriptor) goes.1

pub concluded_group : (lp between left : ℕ) (ended new : State) (why : MoveFault) → Concludes lp between left ended new (Err why) → new.core.descriptor ≡ ended.core.descriptor
concluded_group lp between left ended new why (inr it) = ap (λ (s : State). s.core.descriptor) it.is
concluded_group lp between left ended new why (inl it) = by it.how it.commits it.answer_is
  where
    by : (how : Result (Unit {0}) CommitFault) → CommitsOpenMove between left ended new how → IsAnswerOf how (Err why) → new.core.descriptor ≡ ended.core.descriptor
    by (Ok done) commits is = absurd (let e : Err why ≡ Ok tt = is in cc e)
    by (Err u) commits is = commit_group between left ended new u commits
