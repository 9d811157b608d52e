-- The status with the mark of the new volume.
use Rattle.std.proofs.Common.{◌≡◌, inl, ℕ, zero, suc, ◌<◌, ◌≤◌, Bool, true, false, ◌&&◌, ◌||◌, List, [], ◌∷◌, ◌++◌, Some, Err, length, get_or, take, refl, sym, ap, subst, ◌∙◌, eq-eqb, arith}
use Rattle.std.specs.Prelude.{◌==◌, All, Contains, IsTrue, IsFalse}
use Rattle.std.specs.Int.{from_bool}
use Rattle.std.proofs.lemmas.List.{append-nil}
use Rattle.std.proofs.lemmas.List.Elements.{All-cons, All-nil, All-take}
use Rattle.lvm_num.proofs.DescriptorLemmas.Bounds.{few_volumes}
use Rattle.lvm_num.specs.declared.descriptor.Descriptor.{Descriptor}
use Rattle.lvm_num.specs.declared.descriptor.LvRow.{LvRow}
use Rattle.lvm_num.specs.declared.status.Status.{Status}
use Rattle.lvm_num.specs.Descriptor.{is_member, volume_of}
use Rattle.lvm_num.specs.Record.{Stamped}
use Rattle.lvm_disk.specs.Device.{Media, image_of}
use Rattle.lvm_vol.specs.Log.{Log, spare_entries}
use Rattle.lvm_kept.specs.Contents.{contents_of}
use Rattle.lvm_commit.specs.Committed.{IsAlike}
use Rattle.lvm_commit.specs.Settling.{NoneIsLeft, many_there}
use Rattle.lvm_commit.proofs.AmongLemmas.{one_place}
use Rattle.lvm_num.specs.Status.{IsVolumeNumber, calls_dirty}
use Rattle.lvm_core.specs.Committing.{Dirties, MayGoClean, Redirties, is_in}
use Rattle.lvm_core.specs.Leaves.{dirtying}
use Rattle.lvm_session.specs.State.{Core, State, is_there}
use Rattle.lvm_even.specs.Even.{IsEven}
use Rattle.lvm_write.proofs.WrittenLemmas.Writing.{if_told}
use Rattle.lvm_volumes.proofs.EvenLemmas.Even.{kept_even}
use Rattle.lvm_volume_plan.specs.passed.Core.{Always, CommitFault, HasSpareNumbers, HasStated, IsSettled, Leaves, MarkEnds, NoDescriptor, NoPartition}
use Rattle.lvm_volume_plan.specs.passed.CoreFaultCommitFault as commit
use Rattle.lvm_volume_plan.specs.declared.fault.GroupFault.{GroupFault}
use Rattle.lvm_volume_plan.specs.declared.fault.GroupFault.TheVariants as fault
use Rattle.lvm_volume_plan.specs.declared.split.SplitPlan.{SplitPlan}
use Rattle.lvm_volume_plan.specs.Faults.{fault_of}
use Rattle.lvm_volume_plan.specs.Split.{MayServeBoth, RefusesCopies}
use Rattle.lvm_volume_plan.proofs.DescriptorLemmas.{one_volume}
use Rattle.lvm_volume_plan.specs.PlannedSplit.{IsPlannedSplit}
use Rattle.lvm_volumes.specs.Endings.{KeepsFresh, StillHeld}
use Rattle.lvm_volumes.specs.Stages.{CommandBroke}
use Rattle.lvm_volumes.proofs.EndingsLemmas.Fresh.{keeps_all}
use Rattle.lvm_volumes.proofs.EndingsLemmas.Holding.{still_by}
use Rattle.lvm_volumes.proofs.EndingsLemmas.Notes.{still_missing}
use Rattle.lvm_volumes.proofs.Leaving.{leaves_wider, scoped}
use Rattle.lvm_volumes.proofs.StagesLemmas.Breaking.{broken}
use Rattle.lvm_volumes.proofs.StagesLemmas.Entering.{many_bound}
use Rattle.lvm_split.specs.Parting.{IsHeldBack, IsToShrink, PartEnds, parting}

module _ (name : List ℕ) (copies : ℕ) (plan : SplitPlan) (a : State) (settled : IsSettled a.core) (planned : IsPlannedSplit plan.from name copies a.core plan)
    (marked : List ℕ) (one : (n : ℕ) → Contains marked n → n ≡ plan.number)
    (p q : ℕ) (b : State) (leaves : Leaves (dirtying marked []) p q a b) where
  abbrev N : Descriptor → Type 0
  N d = d ≡ plan.next

  abbrev D : ℕ → Type 0
  D n = n ≡ plan.number

  none_clean : MayGoClean [] a
  none_clean = if_told a.device.media _ (λ m told row volume passive has. absurd (omega (arith, has.1)))

  -- it is one of the split's
  pub mark_among : Leaves (scoped N NoPartition NoPartition D Always 1) p q a b
  mark_among = leaves_wider (dirtying marked []) (scoped N NoPartition NoPartition D Always 1) (λ d none. absurd none) (λ pp none. none) (λ pp none. none) (λ pp none. none)
      (λ n has. one n (subst (λ (ns : List ℕ). Contains ns n) (append-nil marked) has)) (omega arith) p q a b (λ run first held only past begins. none_clean) leaves

  pub mark_leaves : Leaves (parting plan) p q a b
  mark_leaves = leaves_wider (scoped N NoPartition NoPartition D Always 1) (parting plan) (λ d is. is) (λ pp none. none) (λ pp none. none) (λ pp none. none) (λ n is. is) (omega arith) p q a b (λ run first held may. tt) mark_among

  pub mark_break : (why : CommitFault) → MarkEnds p a b (Err why) → CommandBroke a.core.history p a b why
  mark_break why ends = broken (HasStated a.core.descriptor a b) p a b settled why ends

  pub mark_fails : (why : CommitFault) → MarkEnds p a b (Err why) → PartEnds copies plan p a b (Err (fault_of why))
  mark_fails commit.Dark ends = record { entered = a.core.history; so_far = inl refl; ends = mark_break commit.Dark ends }
  mark_fails (commit.WentOff have total) ends = record { entered = a.core.history; so_far = inl refl; ends = mark_break (commit.WentOff have total) ends }
  mark_fails commit.Stuck ends = record { entered = a.core.history; so_far = inl refl; ends = mark_break commit.Stuck ends }
  mark_fails (commit.DiskFailed disk) ends = absurd ends

  module _ (done : HasStated a.core.descriptor a b) (marks : Redirties marked [] a b) where
    pub same : b.core.descriptor ≡ a.core.descriptor
    same = ap (λ (x : Core). x.descriptor) done.is

    pub same_history : b.core.history ≡ a.core.history
    same_history = ap (λ (x : Core). x.history) done.is

    pub mark_still : StillHeld a b
    mark_still = still_by (dirtying marked []) p q a b leaves (λ k none. absurd none) (ap (λ (x : Descriptor). x.id) same) (λ n. ap (λ (g : Descriptor). is_member g n) same) (ap (λ (x : Core). x.cache) done.is)
        done.held (λ none. subst (λ (x : Descriptor). NoneIsLeft x b.core.status) (sym same) (marks.none none))

    pub mark_keeps : KeepsFresh a b
    mark_keeps = keeps_all a.core.descriptor a b same (λ row other lp at x. one_place a.core.descriptor row other lp at x planned.group.valid) (λ row lp x volume copy stale. marks.only x stale) refl

    pub mid_numbers : HasSpareNumbers b.core
    mid_numbers =
        let status = leaves.status.group ∙ planned.group.status in
        let first = many_bound a.core planned.group.valid planned.group.status in
        let last : many_there b.core.status ≤ 128 = many_bound (record b.core { descriptor = a.core.descriptor }) planned.group.valid status in
        omega (arith, leaves.numbers.most, first, last, planned.may.room.numbers)

    pub mid_alike : IsAlike plan.next b.core.descriptor
    mid_alike = ap (λ (x : Descriptor). record x { lvs = [] }) planned.is ∙ ap (λ (x : Descriptor). record x { lvs = [] }) (sym same)

    pub mid_spare : 2 ≤ spare_entries b.core.history
    mid_spare = subst (λ (l : Log). 2 ≤ spare_entries l) (sym same_history) planned.may.room.entries

    -- the volume is still to be split
    found_now : volume_of b.core.descriptor plan.from ≡ Some planned.row
    found_now = ap (λ (x : Descriptor). volume_of x plan.from) same ∙ planned.may.counted.copies_for.parts.named.found.volume

    pub mid_row : (row : LvRow) × IsToShrink plan.from copies b.core row
    mid_row = (planned.row, (found_now, planned.may.counted.copies_for.parts.are))

    -- the one that is found by its number is that
    its_own : (row : LvRow) → IsToShrink plan.from copies b.core row → row ≡ planned.row
    its_own row is = one_volume (volume_of b.core.descriptor plan.from) row planned.row is.0 found_now

    pub own_serve : (row : LvRow) × IsToShrink plan.from copies b.core row × MayServeBoth b.core.status.committed row copies → MayServeBoth b.core.status.committed planned.row copies
    own_serve it = subst (λ (r : LvRow). MayServeBoth b.core.status.committed r copies) (its_own it.0 it.1) it.2

    held_back : (why : GroupFault) → (row : LvRow) × IsToShrink plan.from copies b.core row × RefusesCopies b.core.status.committed row copies why → IsHeldBack plan.from copies why a b
    held_back why it = record {
      row = it.0;
      volume = ap (λ (x : Descriptor). volume_of x plan.from) (sym same) ∙ it.1.0;
      refuses = it.2;
      finds = leaves.finds;
      settled = done.settled;
      is = done.is;
      ready = done.ready;
      cuts = done.cuts;
    }

    -- where what is left of the copies stands against it, it goes no further
    pub judged_back : (why : GroupFault) → (row : LvRow) × IsToShrink plan.from copies b.core row × RefusesCopies b.core.status.committed row copies why → PartEnds copies plan p a b (Err why)
    judged_back (fault.StaleCopy lp) it = held_back (fault.StaleCopy lp) it
    judged_back (fault.LastFresh lp) it = held_back (fault.LastFresh lp) it
    judged_back fault.Dark it = absurd it.2
    judged_back (fault.WentOff have total) it = absurd it.2
    judged_back fault.Busy it = absurd it.2
    judged_back fault.NoVolume it = absurd it.2
    judged_back fault.VolumeExists it = absurd it.2
    judged_back (fault.CopyLimit now) it = absurd it.2
    judged_back (fault.TooMany limit) it = absurd it.2
    judged_back (fault.NoRoom free) it = absurd it.2
    judged_back fault.HistoryFull it = absurd it.2
    judged_back (fault.DiskFailed disk) it = absurd it.2
    judged_back fault.Stuck it = absurd it.2
    judged_back fault.Memory it = absurd it.2

    -- usable copies stay even
    module _ (was is : Media) (told : a.device.media ≡ Some was) (told_now : b.device.media ≡ Some is) (stood stands : Stamped Status)
        (before : stood.value ≡ a.core.status.committed) (after : stands.value ≡ b.core.status.committed) where
      pub mark_even : IsEven (contents_of (image_of a.device.sizes was)) a.core.descriptor (Some stood) (is_there a.core) → IsEven (contents_of (image_of b.device.sizes is)) a.core.descriptor (Some stands) (is_there b.core)
      mark_even = kept_even NoDescriptor NoPartition NoPartition (Contains (marked ++ [])) a b was is stood stands leaves.writes leaves.status (λ pp none. absurd none) told told_now
          (record {
            before = before ∙ settled.committed;
            after = after ∙ done.settled.committed;
            fewer = still_missing a b (λ n. ap (λ (g : Descriptor). is_member g n) same) leaves.status.stays;
          })

-- ---- which are marked

-- of nothing there is no part
none_taken : (m : ℕ) (xs : List ℕ) → xs ≡ [] → length (take m xs) ≡ 0
none_taken zero xs none = refl
none_taken (suc m) [] none = refl
none_taken (suc m) (x ∷ xs) none = absurd (cc none)

-- none but this is one of a part of it alone
pub marked_one : (k x n : ℕ) → Contains (take k (x ∷ [])) n → n ≡ x
marked_one zero x n has = absurd (let lt = has.1 in omega (arith, lt))
marked_one (suc k) x n has = by has.0 has.1 has.2
  where
    by : (i : ℕ) → i < length (x ∷ take k []) → get_or (x ∷ take k []) i n ≡ n → n ≡ x
    by zero lt is = sym is
    by (suc i) lt is = absurd (let none = none_taken k [] refl in omega (arith, lt, none))

-- and it is dirty where it is
pub marked_dirty : (k x : ℕ) (s t : Status) → 1 ≤ k → Dirties (take k (x ∷ [])) [] s t → IsTrue (calls_dirty t x)
marked_dirty zero x s t some dirties = absurd (omega (arith, some))
marked_dirty (suc k) x s t some dirties = dirties x ∙ by (calls_dirty s x) (x == x) (eq-eqb x x refl)
  where
    by : (a b : Bool) → b ≡ true → (a || (b || is_in (take k []) x)) && true ≡ true
    by true b is = refl
    by false true is = refl
    by false false is = let no : false ≡ true = is in cc no

-- they are numbers of volumes
pub marked_numbers : (name : List ℕ) (copies : ℕ) (plan : SplitPlan) (a : State) → IsPlannedSplit plan.from name copies a.core plan → (k : ℕ) → All IsVolumeNumber (take k (plan.number ∷ []) ++ [])
marked_numbers name copies plan a planned k = subst (All IsVolumeNumber) (sym (append-nil (take k (plan.number ∷ [])))) (All-take IsVolumeNumber k (plan.number ∷ []) (All-cons IsVolumeNumber plan.number [] own (All-nil IsVolumeNumber)))
  where
    own : IsVolumeNumber plan.number
    own = record { least = planned.lowest.least; most = let few = few_volumes a.core.descriptor.big in omega (arith, planned.order.within, planned.may.counted.fewer, few) }

-- where none is marked each is as it was
marked_clean : (k x : ℕ) (s t : Status) → k ≡ 0 → Dirties (take k (x ∷ [])) [] s t → calls_dirty t x ≡ calls_dirty s x
marked_clean zero x s t none dirties = dirties x ∙ by (calls_dirty s x)
  where
    by : (a : Bool) → (a || false) && true ≡ a
    by true = refl
    by false = refl
marked_clean (suc k) x s t none dirties = absurd (omega (arith, none))

-- the mark that is wanted of the new volume: where it is to be dirty, and else as its number was
pub record IsMarkedBy (plan : SplitPlan) (a b : State) : Type 0 where
  pub dirty : IsTrue plan.dirty → IsTrue (calls_dirty b.core.status.wanted plan.number)
  pub clean : IsFalse plan.dirty → calls_dirty b.core.status.wanted plan.number ≡ calls_dirty a.core.status.wanted plan.number

pub marked_so : (k : ℕ) (plan : SplitPlan) (a b : State) → k ≡ from_bool plan.dirty → Redirties (take k (plan.number ∷ [])) [] a b → IsMarkedBy plan a b
marked_so k plan a b is marks = record {
  dirty = λ it. marked_dirty k plan.number a.core.status.wanted b.core.status.wanted (let one : k ≡ 1 = is ∙ ap from_bool it in omega (arith, one)) marks.marks;
  clean = λ it. marked_clean k plan.number a.core.status.wanted b.core.status.wanted (is ∙ ap from_bool it) marks.marks;
}
