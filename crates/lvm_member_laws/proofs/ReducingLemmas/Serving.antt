-- A session that disks have left is sound with requests.
use Rattle.std.proofs.Common.{◌≡◌, ◌⊎◌, inl, inr, ⊎_elim, ℕ, ◌==◌, ◌-◌, ◌≤◌, ◌<◌, ◌^◌, Bool, true, false, ◌&&◌, List, [], ◌∷◌, length, Ok, Err, refl, sym, ap, subst, ◌∙◌, arith}
use Rattle.std.specs.Prelude.{IsTrue, IsFalse, Contains}
use Rattle.std.proofs.lemmas.Bool.{or_right}
use Rattle.lvm_num.specs.declared.descriptor.Descriptor.{Descriptor}
use Rattle.lvm_num.specs.declared.descriptor.LvRow.{LvRow}
use Rattle.lvm_num.specs.declared.place.Pp.{Pp}
use Rattle.lvm_num.specs.Descriptor.{IsValid, is_member, most_members}
use Rattle.lvm_num.specs.Status.{calls_stale, calls_missing}
use Rattle.lvm_num.proofs.Booleans.{second_with_first}
use Rattle.lvm_disk.specs.Counts.{Rose}
use Rattle.lvm_disk.proofs.CountingLemmas.{rose_after, rose_before}
use Rattle.lvm_vol.specs.declared.entry.Vol.TheVariants.{Disk}
use Rattle.lvm_vol.specs.Facts.{Removed}
use Rattle.lvm_vol.specs.Log.{Log, with_fact}
use Rattle.lvm_vol.specs.Order.{Ordered}
use Rattle.lvm_vol.proofs.FactsLemmas.Order.{ordered-push}
use Rattle.lvm_kept.specs.Group.{IsOneOf}
use Rattle.lvm_status.specs.Table.{has_row}
use Rattle.lvm_status.specs.Update.{members_there}
use Rattle.lvm_write.proofs.NextLemmas.{copy_is_placed, is_member_of}
use Rattle.lvm_core.specs.Committing.{is_in}
use Rattle.lvm_core.specs.Sound.{IsSoundAtRest}
use Rattle.lvm_session.specs.State.{Core, State}
use Rattle.lvm_session.specs.Causes.{FailedSince, faults_at_first, is_held_stale}
use Rattle.lvm_session.specs.Judging.{copies_in, is_missing, is_wanted_stale}
use Rattle.lvm_session.specs.Left.{updates_left}
use Rattle.lvm_session.specs.Marks.{is_among}
use Rattle.lvm_session.specs.Placed.{ArePlaced, IsPlaced}
use Rattle.lvm_session.specs.Sound.{IsSound}
use Rattle.lvm_volume_plan.specs.passed.Core.{NoPartition, WasLeftBehind, IsSettled}
use Rattle.lvm_keeps.proofs.LeftLemmas.Updates.{few_updates}
use Rattle.lvm_volumes.specs.Endings.{HasFresh, KeepsFresh, StillHeld}
use Rattle.lvm_volumes.proofs.StagesLemmas.Entering.{many_bound}
use Rattle.lvm_members.specs.passed.Turnover.{ChangeLeaves}
use Rattle.lvm_member_plan.specs.declared.fault.ReduceFault.TheVariants as fault
use Rattle.lvm_reduce.specs.Answers.{HasReduced}
use Rattle.lvm_member_plan.specs.Descriptors.{IsReducedBy, reduced}
use Rattle.lvm_member_plan.specs.Refusals.{MayReduce}
use Rattle.lvm_member_steps.specs.Steps.{with_removed}
use Rattle.lvm_handover.specs.Serving.{GoesOnFrom}
use Rattle.lvm_handover.proofs.ServingLemmas.Serving.{other_members_serve}
use Rattle.lvm_handover.proofs.ServingLemmas.Volumes.{found, had_fresh, its_row, none_before}
use Rattle.lvm_tie_commands.specs.Serving.{MayServeWith}
use Rattle.lvm_tie_commands.proofs.ServingLemmas.More.{refused}
use Rattle.lvm_member_laws.specs.Reducing.{ReduceServes}
use Rattle.lvm_member_laws.proofs.Rows.{contained_is, kept_contained, missing_has_row, not_leaving, stale_has_row}

-- so many members a group has at most
at_most_128 : (big : Bool) → most_members big ≤ 128
at_most_128 true = omega arith
at_most_128 false = omega arith

-- an order of facts goes on over such entries
ordered_removed : (disks : List ℕ) (log : Log) → Ordered log.run [] log.facts → Ordered (with_removed disks log).run [] (with_removed disks log).facts
ordered_removed [] log ordered = ordered
ordered_removed (x ∷ disks) log ordered = ordered_removed disks (with_fact log (Removed (Disk x))) (ordered-push log.run [] log.facts (Removed (Disk x)) ordered tt)

module _ (disks : List ℕ) (before after : ℕ) (old new : State) (sound : IsSound old) (began : IsSettled old.core) (on : IsSettled new.core) (still : StillHeld old new) (keeps : KeepsFresh old new)
    (leaves : ChangeLeaves (IsReducedBy disks old.core.descriptor) [] disks before after old new) (may : MayReduce disks old.core) (done : HasReduced disks old new) where
  abbrev was : Descriptor
  was = old.core.descriptor

  now : new.core.descriptor ≡ reduced disks was
  now = ap (λ (c : Core). c.descriptor) done.is

  faults : (d : ℕ) → faults_at_first new.core d ≡ faults_at_first old.core d
  faults d = ap (λ (c : Core). faults_at_first c d) done.is

  since : (d : ℕ) → FailedSince old d → FailedSince new d
  since d failed = subst (λ (n : ℕ). Rose n (new.device.counts.faults d)) (sym (faults d)) (rose_after failed (leaves.falls.faults d))

  copies : (lv lp : ℕ) → copies_in new.core.descriptor lv lp ≡ copies_in was lv lp
  copies lv lp = ap (λ (g : Descriptor). copies_in g lv lp) now

  module _ (between : IsSoundAtRest new) where
    valid : IsValid new.core.descriptor
    valid = between.fitting.valid

    its_member : (d : ℕ) → IsTrue (has_row new.core.status.wanted d) → IsTrue (is_member new.core.descriptor d)
    its_member d row = sym (between.fitting.rows d) ∙ row

    as_reduced : (d : ℕ) → IsTrue (is_member new.core.descriptor d) → IsTrue (is_member (reduced disks was) d)
    as_reduced d is = subst (λ (g : Descriptor). IsTrue (is_member g d)) now is

    stays_in : (d : ℕ) → IsTrue (is_member new.core.descriptor d) → IsFalse (is_in disks d)
    stays_in d is = not_leaving disks was d (as_reduced d is)

    -- of a member the status with which the session began says what it did
    missing_first : (d : ℕ) → IsTrue (is_member new.core.descriptor d) → calls_missing new.core.origin.table d ≡ calls_missing old.core.origin.table d
    missing_first d is = done.origin_is.missing d ∙ ap (λ (b : Bool). b && calls_missing old.core.origin.table d) (as_reduced d is)

    stale_first : (p : Pp) → IsTrue (is_member new.core.descriptor p.disk) → calls_stale new.core.origin.table p ≡ calls_stale old.core.origin.table p
    stale_first p is = done.origin_is.stale p ∙ ap (λ (b : Bool). b && calls_stale old.core.origin.table p) (as_reduced p.disk is)

    member_first : (d : ℕ) → IsTrue (has_row new.core.origin.table d) → IsTrue (is_member new.core.descriptor d)
    member_first d row = subst (λ (g : Descriptor). IsTrue (is_member g d)) (sym now) (sym (done.origin_is.rows d) ∙ row)

    placed : ArePlaced new.device.sizes new.core.descriptor new.core.origin.table
    placed row among there =
        let is : IsTrue (is_member new.core.descriptor row.disk) = contained_is new.core.descriptor.pvs row among in
        subst (λ (sizes : List ℕ). IsPlaced sizes new.core.descriptor.mib row) (sym leaves.writes.sizes) (subst (λ (g : Descriptor). IsPlaced old.device.sizes g.mib row) (sym now)
        (sound.placed row (kept_contained disks was.pvs row (subst (λ (g : Descriptor). Contains g.pvs row) now among)) (sym (missing_first row.disk is) ∙ there)))

    still_missing : (d : ℕ) → IsTrue (calls_missing new.core.origin.table d) → IsTrue (is_missing new.core d)
    still_missing d gone =
        let is : IsTrue (is_member new.core.descriptor d) = member_first d (missing_has_row new.core.origin.table d gone) in
        leaves.status.stays d (stays_in d is) (sound.origin.still_missing d (sym (missing_first d is) ∙ gone))

    missing : (d : ℕ) → IsTrue (is_missing new.core d) → IsTrue (calls_missing new.core.origin.table d) ⊎ FailedSince new d
    missing d gone = by (is_missing old.core d) refl
      where
        is : IsTrue (is_member new.core.descriptor d)
        is = its_member d (missing_has_row new.core.status.wanted d gone)

        by : (b : Bool) → is_missing old.core d ≡ b → IsTrue (calls_missing new.core.origin.table d) ⊎ FailedSince new d
        by true before = ⊎_elim (λ (at : calls_missing old.core.origin.table d ≡ true). inl (missing_first d is ∙ at)) (λ (failed : FailedSince old d). inr (since d failed)) (sound.origin.missing d before)
        by false before = inr (subst (λ (n : ℕ). Rose n (new.device.counts.faults d)) (sym (faults d)) (rose_before (sound.origin.since d) (leaves.status.lost d gone before).1))

    -- a copy that was left behind stands on a member that is missing
    behind_is_missing : (p : Pp) → IsTrue (is_wanted_stale new.core p) → WasLeftBehind (IsReducedBy disks was) NoPartition old new p → IsTrue (is_missing new.core p.disk)
    behind_is_missing p now_stale left = second_with_first (is_member new.core.descriptor p.disk) (is_missing new.core p.disk) (its_member p.disk (stale_has_row new.core.status.wanted p now_stale))
        (subst (λ (g : Descriptor). IsFalse (members_there g new.core.status.wanted p.disk)) between.fitting.group left.absent)

    abbrev Why : Pp → Type 0
    Why p = IsTrue (calls_stale new.core.origin.table p) ⊎ IsTrue (is_among [] p) ⊎ IsTrue (is_missing new.core p.disk) ⊎ FailedSince new p.disk

    stale : (p : Pp) → IsTrue (is_wanted_stale new.core p) → Why p
    stale p now_stale = ⊎_elim by_old (λ (left : WasLeftBehind (IsReducedBy disks was) NoPartition old new p). inr (inr (inl (behind_is_missing p now_stale left)))) (leaves.status.further p now_stale)
      where
        is : IsTrue (is_member new.core.descriptor p.disk)
        is = its_member p.disk (stale_has_row new.core.status.wanted p now_stale)

        by_old : IsTrue (calls_stale old.core.status.wanted p) → Why p
        by_old before = ⊎_elim
            (λ (at : calls_stale old.core.origin.table p ≡ true). inl (stale_first p is ∙ at))
            (λ (rest : (is_missing old.core p.disk ≡ true) ⊎ FailedSince old p.disk). inr (inr (⊎_elim
            (λ (gone : is_missing old.core p.disk ≡ true). inl (leaves.status.stays p.disk (stays_in p.disk is) gone))
            (λ (failed : FailedSince old p.disk). inr (since p.disk failed)) rest)))
            (sound.origin.stale p (or_right (is_held_stale old.core p) (is_wanted_stale old.core p) before))

    fresh : (lv lp : ℕ) (p : Pp) → IsOneOf (copies_in new.core.descriptor lv lp) p → IsFalse (calls_stale new.core.origin.table p) → HasFresh new.core lv lp
    fresh lv lp p one first =
        let its = its_row new.core.descriptor lv lp p one in
        let is : IsTrue (is_member new.core.descriptor p.disk) = is_member_of new.core.descriptor p (copy_is_placed new.core.descriptor valid its.row lp p (found (λ (row : LvRow). row.number == lv) new.core.descriptor.lvs its.row its.volume).0 its.one) in
        keeps lv lp p one (inr (had_fresh old sound began lv lp p (subst (λ (ps : List Pp). IsOneOf ps p) (copies lv lp) one) (sym (stale_first p is) ∙ first)))

    goes_on : GoesOnFrom [] old new
    goes_on = record {
      is = done.is ∙ ap (λ (c : Core). record old.core { descriptor = c.descriptor; cache = c.cache; origin = c.origin; history = c.history; last = c.last; status = c.status; homes = c.homes }) (sym done.is);
      entries = ap (λ (c : Core). c.cache.entries) done.is;
      placed = placed;
      rows = λ d. done.origin_is.rows d ∙ sym (ap (λ (g : Descriptor). is_member g d) now);
      ordered = subst (λ (l : Log). Ordered l.run [] l.facts) (sym done.enters.history) (ordered_removed done.entered old.core.history sound.told.ordered);
      room = ap (λ (l : Log). l.room) leaves.history.room;
      numbers =
          let many = many_bound old.core sound.fitting.valid sound.fitting.group in
          let most = leaves.numbers.most in
          let few : length disks < length was.pvs = may.few in
          let all : length was.pvs ≤ most_members was.big = sound.fitting.valid.head.members in
          let most_of : most_members was.big ≤ 128 = at_most_128 was.big in
          let left : 65536 ≤ 2 ^ 32 - 1 - old.core.status.stamp.seq = may.room.numbers in
          let updates : updates_left new.core ≤ 129 = few_updates new.core valid on.quiet.requests on.quiet.copy in
          omega (arith, many, most, few, all, most_of, left, updates);
      left = still.left (none_before old sound began);
      since = λ d.
          let at : faults_at_first old.core d ≤ old.device.counts.faults d = sound.origin.since d in
          let later : old.device.counts.faults d ≤ new.device.counts.faults d = leaves.falls.faults d in
          subst (λ (n : ℕ). n ≤ new.device.counts.faults d) (sym (faults d)) (omega (arith, at, later));
      still_missing = still_missing;
      missing = missing;
      stale = stale;
      fresh = λ lv lp p one first apart. fresh lv lp p one first;
    }

  reduced_serves : MayServeWith [] new
  reduced_serves = (
    (λ between. (other_members_serve [] old new sound began on (goes_on between)).0 between),
    (λ none between. (other_members_serve [] old new sound began on (goes_on between)).1 none between),
  )

pub reduce_serves : ReduceServes
reduce_serves disks before after old new (Ok done) sound c = reduced_serves disks before after old new sound c.began c.on c.still c.fresh c.leaves c.gives.0 c.gives.1
reduce_serves disks before after old new (Err fault.Dark) sound c = tt
reduce_serves disks before after old new (Err (fault.WentOff have total)) sound c = tt
reduce_serves disks before after old new (Err fault.Stuck) sound c = tt
reduce_serves disks before after old new (Err fault.Busy) sound c = refused old new sound c.began c.gives.0
reduce_serves disks before after old new (Err (fault.NoDisk disk)) sound c = refused old new sound c.began c.gives.0
reduce_serves disks before after old new (Err fault.LastDisk) sound c = refused old new sound c.began c.gives.0
reduce_serves disks before after old new (Err (fault.DiskInUse disk)) sound c = refused old new sound c.began c.gives.0
reduce_serves disks before after old new (Err (fault.NoQuorum have total)) sound c = refused old new sound c.began c.gives.0
reduce_serves disks before after old new (Err fault.HistoryFull) sound c = refused old new sound c.began c.gives.0
reduce_serves disks before after old new (Err fault.Memory) sound c = refused old new sound c.began c.gives.0
