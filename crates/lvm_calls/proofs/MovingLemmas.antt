-- What a move finds that isn't refused.
use Rattle.std.proofs.Common.{◌≡◌, ◌⊎◌, inl, ◌<◌, ℕ, Bool, true, false, List, [], ◌∷◌, Option, Some, None, map, refl, sym, ◌∙◌, ap, subst}
use Rattle.std.specs.Prelude.{◌&&◌, ◌||◌, Err, MatchOption, Ok, Result, find, is_some, nat_lt, not, if◌then◌else◌}
use Rattle.std.specs.List.{list_any}
use Rattle.std.specs.Option.{option_map_or}
use Rattle.std.proofs.lemmas.Bool.{ltb-true, or_parts}
use Rattle.std.proofs.lemmas.List.Folds.{list_any-append}
use Rattle.lvm_num.specs.declared.descriptor.LvRow.{LvRow}
use Rattle.lvm_num.specs.declared.descriptor.PvRow.{PvRow}
use Rattle.lvm_num.specs.declared.descriptor.Descriptor.{Descriptor}
use Rattle.lvm_num.specs.declared.place.Pp.{Pp}
use Rattle.lvm_num.specs.Descriptor.{IsPartitionOf, copies_of, is_pp, member_of, partitions_in, partitions_used, volume_of}
use Rattle.lvm_session.specs.declared.answers.OpenFault.{OpenFault}
use Rattle.lvm_session.specs.declared.answers.OpenFault.TheVariants as denial
use Rattle.lvm_session.specs.declared.bringing.OpenCopy.{OpenCopy}
use Rattle.lvm_session.specs.declared.open.Power.{Power}
use Rattle.lvm_session.specs.declared.open.Power.TheVariants as power
use Rattle.lvm_session.specs.State.{Core}
use Rattle.lvm_session.specs.Judging.{is_missing, is_usable}
use Rattle.lvm_session.specs.Marks.{is_among}
use Rattle.lvm_session.specs.Calls.{CallsStale, OpenMoveGives, OpensMove, aged, copy_at, has_numbers, is_in_use, move_fault, move_fault_at, move_fault_in, move_fault_on, move_fault_when}
use Rattle.lvm_session.specs.Asking.{IsAwake}
use Rattle.lvm_session.specs.Ends.{with_step}
use Rattle.lvm_session.specs.declared.origin.Origin.{Origin}
use Rattle.lvm_disk.specs.Counts.{Counts}
use Rattle.lvm_calls.specs.Opening.{HasCopy}

-- a volume has the partition that is in one of the maps
pub any_used : (p : Pp) (rows : List LvRow) → list_any (λ (row : LvRow). is_among row.map p) rows ≡ is_among (partitions_in rows) p
any_used p [] = refl
any_used p (row ∷ rows) = ap (λ (b : Bool). is_among row.map p || b) (any_used p rows) ∙ sym (list_any-append (is_pp p) row.map (partitions_in rows))

-- ---- the partition

-- No volume has the partition, and its member has it.
pub record IsUnused (d : Descriptor) (p : Pp) : Type 0 where
  pub free : is_among (partitions_used d) p ≡ false
  pub inside : IsPartitionOf d p

pub unused : (core : Core) (p : Pp) → is_in_use core p ≡ false → IsUnused core.descriptor p
unused core p is =
    let parts = or_parts (is_among (partitions_used core.descriptor) p) (not (option_map_or (λ (row : PvRow). nat_lt p.pp row.pps) (member_of core.descriptor p.disk) false)) is in
    record { free = parts.0; inside = by (member_of core.descriptor p.disk) refl parts.1 }
  where
    within : (row : PvRow) (b : Bool) → nat_lt p.pp row.pps ≡ b → not b ≡ false → p.pp < row.pps
    within row true less is = ltb-true p.pp row.pps less
    within row false less is = absurd (cc is)

    by : (m : Option PvRow) → member_of core.descriptor p.disk ≡ m → not (option_map_or (λ (row : PvRow). nat_lt p.pp row.pps) m false) ≡ false → IsPartitionOf core.descriptor p
    by None at is = absurd (cc is)
    by (Some row) at is = (row, at, within row (nat_lt p.pp row.pps) refl is)

-- What is asked of it and of the copies beside it.
pub record IsFineMove (core : Core) (to : Pp) (copies : List Pp) : Type 0 where
  pub unused : IsUnused core.descriptor to
  pub there : is_missing core to.disk ≡ false
  pub usable : list_any (is_usable core) copies ≡ true
  pub numbers : has_numbers core ≡ true

pub fine_move : (core : Core) (to : Pp) (copies : List Pp) → move_fault_at core to copies ≡ None → IsFineMove core to copies
fine_move core to copies is = by (is_in_use core to) (is_missing core to.disk) (list_any (is_usable core) copies) (has_numbers core) refl refl refl refl is
  where
    by : (a b c d : Bool) → is_in_use core to ≡ a → is_missing core to.disk ≡ b → list_any (is_usable core) copies ≡ c → has_numbers core ≡ d
        → (if a then Some denial.InUse else if b then Some (denial.Missing to.disk) else if not c then Some denial.NoFresh else if d then None else Some denial.HistoryFull) ≡ None → IsFineMove core to copies
    by false false true true u t o n e = record { unused = unused core to u; there = t; usable = o; numbers = n }
    by false false true false u t o n e = absurd (cc e)
    by false false false d u t o n e = absurd (cc e)
    by false true c d u t o n e = absurd (cc e)
    by true b c d u t o n e = absurd (cc e)

-- ---- the copy

-- The volume has the copy, and nothing is against its move; the session is on, and no other copy is open.
pub record IsMoveTaken (core : Core) (lv lp number : ℕ) (to : Pp) : Type 0 where
  pub on : core.power ≡ power.On
  pub none : core.copy ≡ None
  pub its : HasCopy core.descriptor lv lp number
  pub fine : IsFineMove core to (copies_of its.row lp)

module _ (core : Core) (lv lp number : ℕ) (to : Pp) (on : core.power ≡ power.On) (free : core.copy ≡ None) where
  move_in : (row : LvRow) → volume_of core.descriptor lv ≡ Some row → move_fault_in core row lp number to ≡ None → IsMoveTaken core lv lp number to
  move_in row volume is = by_test (nat_lt lp row.lps) (copy_at (copies_of row lp) number) refl refl is
    where
      by_test : (b : Bool) (p : Option Pp) → nat_lt lp row.lps ≡ b → copy_at (copies_of row lp) number ≡ p
          → (if b && is_some p then move_fault_at core to (copies_of row lp) else Some denial.OutOfRange) ≡ None → IsMoveTaken core lv lp number to
      by_test true (Some p) within at fine = record {
        on = on;
        none = free;
        its = record { row = row; volume = volume; within = ltb-true lp row.lps within; pp = p; copy_is = at };
        fine = fine_move core to (copies_of row lp) fine;
      }
      by_test true None within at none = absurd (cc none)
      by_test false p within at none = absurd (cc none)

  move_of : option_map_or (λ (row : LvRow). move_fault_in core row lp number to) (volume_of core.descriptor lv) (Some denial.NoVolume) ≡ None → IsMoveTaken core lv lp number to
  move_of is = by_row (volume_of core.descriptor lv) refl is
    where
      by_row : (row : Option LvRow) → volume_of core.descriptor lv ≡ row → option_map_or (λ (row : LvRow). move_fault_in core row lp number to) row (Some denial.NoVolume) ≡ None → IsMoveTaken core lv lp number to
      by_row None volume none = absurd (cc none)
      by_row (Some row) volume none = move_in row volume none

move_on : (core : Core) (lv lp number : ℕ) (to : Pp) → core.power ≡ power.On → move_fault_on core lv lp number to ≡ None → IsMoveTaken core lv lp number to
move_on core lv lp number to on is = by_copy core.copy refl is
  where
    by_copy : (copy : Option OpenCopy) → core.copy ≡ copy
        → (if is_some copy then Some denial.Busy else option_map_or (λ (row : LvRow). move_fault_in core row lp number to) (volume_of core.descriptor lv) (Some denial.NoVolume)) ≡ None → IsMoveTaken core lv lp number to
    by_copy None free none = move_of core lv lp number to on free none
    by_copy (Some c) busy none = absurd (cc none)

pub move_taken : (core : Core) (lv lp number : ℕ) (to : Pp) → IsAwake core → None ≡ move_fault core lv lp number to → IsMoveTaken core lv lp number to
move_taken core lv lp number to awake is = by_power core.power refl (sym is)
  where
    by_power : (p : Power) → core.power ≡ p → move_fault_when p (move_fault_on core lv lp number to) ≡ None → IsMoveTaken core lv lp number to
    by_power power.On on none = move_on core lv lp number to on none
    by_power power.Off off none = absurd (cc none)
    by_power power.Dark dark none = absurd (cc none)
    by_power power.Stuck stuck none = absurd (awake.unstuck stuck)

-- ---- no memory is wanting

module _ (core : Core) (lv lp number : ℕ) (to : Pp) where
  none_at : (copies : List Pp) → move_fault_at core to copies ≡ Some denial.Memory → ⊥
  none_at copies = by (is_in_use core to) (is_missing core to.disk) (list_any (is_usable core) copies) (has_numbers core)
    where
      by : (a b c d : Bool) → (if a then Some denial.InUse else if b then Some (denial.Missing to.disk) else if not c then Some denial.NoFresh else if d then None else Some denial.HistoryFull) ≡ Some denial.Memory → ⊥
      by true b c d e = absurd (cc e)
      by false true c d e = absurd (cc e)
      by false false false d e = absurd (cc e)
      by false false true true e = absurd (cc e)
      by false false true false e = absurd (cc e)

  none_in : (row : LvRow) → move_fault_in core row lp number to ≡ Some denial.Memory → ⊥
  none_in row = by (nat_lt lp row.lps && is_some (copy_at (copies_of row lp) number))
    where
      by : (b : Bool) → (if b then move_fault_at core to (copies_of row lp) else Some denial.OutOfRange) ≡ Some denial.Memory → ⊥
      by true e = none_at (copies_of row lp) e
      by false e = absurd (cc e)

  none_on : move_fault_on core lv lp number to ≡ Some denial.Memory → ⊥
  none_on = by (is_some core.copy) (volume_of core.descriptor lv)
    where
      by : (b : Bool) (row : Option LvRow) → (if b then Some denial.Busy else option_map_or (λ (row : LvRow). move_fault_in core row lp number to) row (Some denial.NoVolume)) ≡ Some denial.Memory → ⊥
      by true row e = absurd (cc e)
      by false None e = absurd (cc e)
      by false (Some row) e = none_in row e

  pub never_memory : move_fault core lv lp number to ≡ Some denial.Memory → ⊥
  never_memory = by core.power
    where
      by : (p : Power) → move_fault_when p (move_fault_on core lv lp number to) ≡ Some denial.Memory → ⊥
      by power.On e = none_on e
      by power.Off e = absurd (cc e)
      by power.Dark e = absurd (cc e)
      by power.Stuck e = none_on e

-- ---- what the opening leaves

-- the copy is open, its step has entered the queue, all requests are aged, and the place counts as stale since the session began
pub record LeavesMove (core new : Core) (to : Pp) (k : OpenCopy) : Type 0 where
  pub called : CallsStale to core.origin new.origin
  pub is : new ≡ with_step (record core { requests = map aged core.requests; origin = new.origin }) k

pub move_leaves : (core called after new : Core) (to : Pp) (c k : OpenCopy) → called ≡ record core { origin = called.origin } → CallsStale to core.origin called.origin
    → after ≡ record called { requests = map aged called.requests } → new ≡ with_step after c → c ≡ k → LeavesMove core new to k
move_leaves core called after new to c k calls stale ages enters is =
    record { called = subst (CallsStale to core.origin) (sym same) stale; is = entered ∙ ap (λ (o : Origin). with_step (with_origin o) k) (sym same) }
  where
    with_origin : Origin → Core
    with_origin o = record core { requests = map aged core.requests; origin = o }

    entered : new ≡ with_step (with_origin called.origin) k
    entered = enters ∙ ap (λ (x : Core). with_step x c) (ages ∙ ap (λ (x : Core). record x { requests = map aged x.requests }) calls) ∙ ap (with_step (with_origin called.origin)) is

    same : new.origin ≡ called.origin
    same = ap (λ (x : Core). x.origin) entered

-- ---- what it answers

module _ (counts : Counts) (old new : Core) (lv lp number : ℕ) (to : Pp) (answer : Result (Unit {0}) OpenFault) where
  abbrev Given : Option OpenFault → Type 0
  Given fault = MatchOption fault (((answer ≡ Ok tt) × OpensMove counts old new lv lp number to) ⊎ ((answer ≡ Err denial.Memory) × (new ≡ old))) (λ (why : OpenFault). (answer ≡ Err why) × (new ≡ old))

  pub gives_opened : answer ≡ Ok tt → None ≡ move_fault old lv lp number to → OpensMove counts old new lv lp number to → OpenMoveGives counts old new lv lp number to answer
  gives_opened ok fine opens = subst Given fine (inl (ok, opens))

  pub gives_refused : (why : OpenFault) → answer ≡ Err why → Some why ≡ move_fault old lv lp number to → new ≡ old → OpenMoveGives counts old new lv lp number to answer
  gives_refused why err is same = subst Given is (err, same)
