-- The copies of logical partitions are passed one after the other, and what comes of it.
use Rattle.std.specs.Prelude.{◌≡◌, ◌⊎◌, ◌+◌, ◌-◌, ◌^◌, ◌++◌, ◌&&◌, ◌||◌, ℕ, zero, suc, min, Bool, true, false, not, List, [], ◌∷◌, length, Option, Some, None, Result, Ok, Err, MatchOption, slice_get, nat_lt, is_some, if◌then◌else◌}
use Rattle.std.specs.Option.{option_map_or}
use Rattle.lvm_num.specs.declared.descriptor.Descriptor.{Descriptor}
use Rattle.lvm_num.specs.declared.descriptor.LvRow.{LvRow}
use Rattle.lvm_num.specs.declared.place.Pp.{Pp}
use Rattle.lvm_num.specs.Descriptor.{volume_of, is_pp}
use Rattle.lvm_disk.specs.Counts.{Rose}
use Rattle.lvm_session.specs.declared.open.Power.{Power}
use Rattle.lvm_session.specs.declared.open.Power.TheVariants as power
use Rattle.lvm_session.specs.Calls.{has_numbers}
use Rattle.lvm_session.specs.Judging.{copies_in, is_missing, is_settled, is_stale, is_wanted_stale}
use Rattle.lvm_session.specs.State.{Core, State}
use Rattle.lvm_ranges.specs.passed.KeepsEvents.{has_failed_on, is_lasting}
use Rattle.lvm_ranges.specs.declared.copies.Passed.{Passed}
use Rattle.lvm_ranges.specs.declared.copies.Passed.TheVariants as passed
use Rattle.lvm_ranges.specs.declared.fault.SyncFault.{SyncFault}
use Rattle.lvm_ranges.specs.declared.fault.SyncFault.TheVariants as fault
use Rattle.lvm_ranges.specs.declared.tally.Tally.{Tally}
use Rattle.lvm_ranges.specs.Passing.{Copy, EndsAtCopy, EndsOr, PassesCopy}

-- ---- the copies that are asked for

-- what there is for each number below this one, in order
abbrev pub below : {A : Type 0} → (ℕ → List A) → ℕ → List A
below of zero = []
below of (suc n) = below of n ++ of n

-- a copy of a logical partition, by its place from 0
abbrev pub copy_in : Descriptor → ℕ → ℕ → ℕ → List Copy
copy_in d lv lp place = option_map_or (λ (p : Pp). record { lv = lv; lp = lp; number = place + 1; pp = p } ∷ []) (slice_get (copies_in d lv lp) place) []

-- those of a logical partition, which are at most three
abbrev pub partition_copies : Descriptor → ℕ → ℕ → List Copy
partition_copies d lv lp = below (copy_in d lv lp) 3

-- those of a volume, by its logical partitions
abbrev pub volume_copies : Descriptor → ℕ → List Copy
volume_copies d lv = below (partition_copies d lv) (option_map_or (λ (row : LvRow). row.lps) (volume_of d lv) 0)

-- those of the volume at a place of the descriptor
abbrev pub copies_at : Descriptor → ℕ → List Copy
copies_at d place = option_map_or (λ (row : LvRow). volume_copies d row.number) (slice_get d.lvs place) []

-- those of all volumes
abbrev pub group_copies : Descriptor → List Copy
group_copies d = below (copies_at d) (length d.lvs)

-- ---- what is made of them

-- the first thing by which one stays stale
abbrev pub or_first : Option SyncFault → SyncFault → Option SyncFault
or_first None why = Some why
or_first (Some first) why = Some first

-- one that is made fresh is counted, up to the greatest number of four bytes
abbrev pub with_passed : Tally → Passed → Tally
with_passed t passed.Fresh = t
with_passed t passed.Made = record t { made = min (t.made + 1) (2 ^ 32 - 1) }
with_passed t (passed.Failed why) = record t { fault = or_first t.fault why }

-- These copies are passed in order, each once, and the patience that is left.
pub data PassesCopies (first : State) (from : Tally) (patience : ℕ) : List Copy → State → Tally → ℕ → Type 0 where
  NonePassed : PassesCopies first from patience [] first from patience
  OnePassed : {copies : List Copy} {old new : State} {tally : Tally} {before left : ℕ} (c : Copy) (how : Passed)
      → PassesCopies first from patience copies old tally before → PassesCopy c before left old new how → PassesCopies first from patience (copies ++ c ∷ []) new (with_passed tally how) left

-- all of them are, and no copy is left open
abbrev pub ArePassed : List Copy → ℕ → ℕ → State → State → Tally → Tally → Unit {0} → Type 0
ArePassed copies patience left old new from to done = PassesCopies old from patience copies new to left × (new.core.copy ≡ None)

-- The resync ends at once at one of these copies; those before it are passed, and none behind it.
pub record StopsAmong (copies : List Copy) (patience left : ℕ) (old new : State) (from : Tally) (why : SyncFault) : Type 0 where
  pub passed : List Copy
  pub one : Copy
  pub rest : List Copy
  pub all : copies ≡ passed ++ one ∷ rest
  pub mid : State
  pub tally : Tally
  pub before : ℕ
  pub passes : PassesCopies old from patience passed mid tally before
  pub stops : EndsAtCopy one before left mid new why

-- all of them are passed, or the resync ends at one of them
abbrev pub PassesAll : List Copy → ℕ → ℕ → State → State → Tally → Tally → Result (Unit {0}) SyncFault → Type 0
PassesAll copies patience left old new from to = EndsOr (ArePassed copies patience left old new from to) (StopsAmong copies patience left old new from)

-- ---- what is answered

-- none is passed yet
abbrev pub no_tally : Tally
no_tally = record { made = 0; fault = None }

-- all copies that were asked for are passed, with so many made fresh, and this is the first thing by which one stays stale
pub record Syncs (copies : List Copy) (patience left : ℕ) (old new : State) (made : ℕ) (first : Option SyncFault) : Type 0 where
  pub passes : PassesCopies old no_tally patience copies new (record { made = made; fault = first }) left
  pub none : new.core.copy ≡ None

-- ---- what they leave

-- whether a copy on this partition is made fresh among them
abbrev pub is_made_among : Pp → {first : State} {from : Tally} {patience : ℕ} {copies : List Copy} {now : State} {tally : Tally} {left : ℕ} → PassesCopies first from patience copies now tally left → Bool
is_made_among p NonePassed = false
is_made_among p (OnePassed c passed.Fresh rest it) = is_made_among p rest
is_made_among p (OnePassed c passed.Made rest it) = is_pp c.pp p || is_made_among p rest
is_made_among p (OnePassed c (passed.Failed why) rest it) = is_made_among p rest

-- staleness of the copy is wanted, and not settled yet
abbrev pub is_to_be_stale : Core → Pp → Bool
is_to_be_stale core p = is_wanted_stale core p && not (is_settled core p)

-- Why a copy that was passed may be stale: its disk is missing, or has failed meanwhile; at first its staleness was wanted and not settled, or an open write had failed on it.
abbrev pub IsStaleFor : State → State → Pp → Type 0
IsStaleFor old new p = (is_missing new.core p.disk ≡ true) ⊎ Rose (old.device.counts.faults p.disk) (new.device.counts.faults p.disk) ⊎ (is_to_be_stale old.core p ≡ true) ⊎ (has_failed_on old.core p ≡ true)

-- Where none stays stale: what was settled as stale was made fresh, if it was asked for, and else it stays so; and what was asked for is stale for such a cause alone.
pub record LeavesFresh (copies : List Copy) (patience left : ℕ) (old new : State) (tally : Tally) (passes : PassesCopies old no_tally patience copies new tally left) : Type 0 where
  pub made : (place : ℕ) (c : Copy) → slice_get copies place ≡ Some c → is_settled old.core c.pp ≡ true → is_made_among c.pp passes ≡ true
  pub others : (p : Pp) → is_settled old.core p ≡ true → is_made_among p passes ≡ false → is_lasting new.core p ≡ true
  pub stale : (place : ℕ) (c : Copy) → slice_get copies place ≡ Some c → is_stale new.core c.pp ≡ true → IsStaleFor old new c.pp

-- How many copies are made fresh, where none stays stale; else the first thing by which one does; or why it ended before.
abbrev pub SyncEnds : List Copy → ℕ → ℕ → State → State → Result ℕ SyncFault → Type 0
SyncEnds copies patience left old new (Ok made) = (syncs : Syncs copies patience left old new made None) × LeavesFresh copies patience left old new (record { made = made; fault = None }) syncs.passes
SyncEnds copies patience left old new (Err why) = ((made : ℕ) × Syncs copies patience left old new made (Some why)) ⊎ StopsAmong copies patience left old new no_tally why

-- and where it isn't begun nothing changes
abbrev pub SyncGives : Option SyncFault → List Copy → ℕ → ℕ → State → State → Result ℕ SyncFault → Type 0
SyncGives refused copies patience left old new answer =
    MatchOption refused (SyncEnds copies patience left old new answer) (λ (why : SyncFault). (answer ≡ Err why) × (new ≡ old) × (left ≡ patience))

-- the answer by what was made of the copies
abbrev pub IsAnswer : Tally → Result ℕ SyncFault → Type 0
IsAnswer tally (Ok made) = tally ≡ record { made = made; fault = None }
IsAnswer tally (Err why) = tally ≡ record { made = tally.made; fault = Some why }

-- ---- why it isn't begun

-- fewer than 65,536 numbers are left for the stamps of records
abbrev pub numbers_fault : Core → Option SyncFault
numbers_fault core = if has_numbers core then None else Some fault.HistoryFull

-- a copy is open; else it is this
abbrev pub fault_on : Core → Option SyncFault → Option SyncFault
fault_on core further = if is_some core.copy then Some fault.Busy else further

-- where the session is over
abbrev pub fault_by : Power → Option SyncFault → Option SyncFault
fault_by power.Dark on = Some fault.Dark
fault_by power.Off on = Some fault.Off
fault_by power.Stuck on = on
fault_by power.On on = on

-- of a group
abbrev pub group_fault : Core → Option SyncFault
group_fault core = fault_by core.power (fault_on core (numbers_fault core))

-- of a volume
abbrev pub volume_fault : Core → ℕ → Option SyncFault
volume_fault core lv = fault_by core.power (fault_on core (option_map_or (λ (row : LvRow). numbers_fault core) (volume_of core.descriptor lv) (Some fault.NoVolume)))

-- of a logical partition
abbrev pub partition_fault : Core → ℕ → ℕ → Option SyncFault
partition_fault core lv lp = fault_by core.power (fault_on core
    (option_map_or (λ (row : LvRow). if nat_lt lp row.lps then numbers_fault core else Some fault.OutOfRange) (volume_of core.descriptor lv) (Some fault.NoVolume)))
