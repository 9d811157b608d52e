-- Why copies may be passed where nothing is against it, and what is answered of them.
use Rattle.std.proofs.Common.{◌≡◌, ◌<◌, inl, inr, ℕ, Bool, true, false, nat_lt, List, Option, None, Some, Result, Ok, Err, if◌then◌else◌, refl, sym, ap, subst, ◌∙◌}
use Rattle.std.specs.Prelude.{is_some}
use Rattle.std.specs.Option.{option_map_or}
use Rattle.std.proofs.lemmas.Bool.{ltb-true}
use Rattle.lvm_num.specs.declared.descriptor.LvRow.{LvRow}
use Rattle.lvm_num.specs.Descriptor.{volume_of}
use Rattle.lvm_session.specs.declared.bringing.OpenCopy.{OpenCopy}
use Rattle.lvm_session.specs.declared.open.Power.{Power}
use Rattle.lvm_session.specs.declared.open.Power.TheVariants as power
use Rattle.lvm_session.specs.Sound.{IsSound}
use Rattle.lvm_session.specs.State.{Core, State}
use Rattle.lvm_ranges.specs.declared.fault.SyncFault.{SyncFault}
use Rattle.lvm_ranges.specs.declared.fault.SyncFault.TheVariants as fault
use Rattle.lvm_ranges.specs.declared.tally.Tally.{Tally}
use Rattle.lvm_ranges.specs.Passing.{Copy}
use Rattle.lvm_ranges.specs.Syncing.{ArePassed, IsAnswer, PassesCopies, StopsAmong, SyncEnds, SyncGives, Syncs, fault_by, fault_on, no_tally, numbers_fault}
use Rattle.lvm_ranges.proofs.SyncingLemmas.Staying.{leaves_fresh}

-- a session that goes on, of which no copy is open
pub record IsReadyToSync (core : Core) (further : Option SyncFault) : Type 0 where
  pub on : (core.power ≡ power.Stuck → ⊥) → core.power ≡ power.On
  pub none : core.copy ≡ None
  pub further_is : further ≡ None

pub ready_by : (core : Core) (further : Option SyncFault) → fault_by core.power (fault_on core further) ≡ None → IsReadyToSync core further
ready_by core further e = by core.power refl e
  where
    closed : (m : Option OpenCopy) → (if is_some m then Some fault.Busy else further) ≡ None → (m ≡ None) × (further ≡ None)
    closed None i = (refl, i)
    closed (Some c) i = absurd (cc i)

    by : (p : Power) → core.power ≡ p → fault_by p (fault_on core further) ≡ None → IsReadyToSync core further
    by power.Dark is i = absurd (cc i)
    by power.Off is i = absurd (cc i)
    by power.On is i = let it = closed core.copy i in record { on = λ unstuck. is; none = it.0; further_is = it.1 }
    by power.Stuck is i = let it = closed core.copy i in record { on = λ unstuck. absurd (unstuck is); none = it.0; further_is = it.1 }

-- the logical partition that is asked for is one of the volume
pub within_by : (core : Core) (lv lp : ℕ) → option_map_or (λ (row : LvRow). if nat_lt lp row.lps then numbers_fault core else Some fault.OutOfRange) (volume_of core.descriptor lv) (Some fault.NoVolume) ≡ None
    → (row : LvRow) → volume_of core.descriptor lv ≡ Some row → lp < row.lps
within_by core lv lp e row is = by (nat_lt lp row.lps) refl (sym (ap (λ m. option_map_or (λ (r : LvRow). if nat_lt lp r.lps then numbers_fault core else Some fault.OutOfRange) m (Some fault.NoVolume)) is) ∙ e)
  where
    by : (b : Bool) → nat_lt lp row.lps ≡ b → (if b then numbers_fault core else Some fault.OutOfRange) ≡ None → lp < row.lps
    by true less i = ltb-true lp row.lps less
    by false less i = absurd (cc i)

-- ---- the answer

module _ (refused : Option SyncFault) (copies : List Copy) (patience left : ℕ) (old new : State) where
  -- where it isn't begun
  pub not_begun : (why : SyncFault) → refused ≡ Some why → new ≡ old → left ≡ patience → SyncGives refused copies patience left old new (Err why)
  not_begun why is same spared = subst (λ (m : Option SyncFault). SyncGives m copies patience left old new (Err why)) (sym is) (refl, same, spared)

  begun : (answer : Result ℕ SyncFault) → refused ≡ None → SyncEnds copies patience left old new answer → SyncGives refused copies patience left old new answer
  begun answer is ends = subst (λ (m : Option SyncFault). SyncGives m copies patience left old new answer) (sym is) ends

  -- where it ends before
  pub stopped : (why : SyncFault) → refused ≡ None → StopsAmong copies patience left old new no_tally why → SyncGives refused copies patience left old new (Err why)
  stopped why is stops = begun (Err why) is (inr stops)

  -- and once all are passed
  pub synced : (tally : Tally) (answer : Result ℕ SyncFault) → refused ≡ None → IsSound old → old.core.power ≡ power.On → old.core.copy ≡ None → ArePassed copies patience left old new no_tally tally tt → IsAnswer tally answer
      → SyncGives refused copies patience left old new answer
  synced tally answer is sound on none passed answers = begun answer is (by answer answers)
    where
      all : (t : Tally) → tally ≡ t → PassesCopies old no_tally patience copies new t left
      all t same = subst (λ (x : Tally). PassesCopies old no_tally patience copies new x left) same passed.0

      by : (a : Result ℕ SyncFault) → IsAnswer tally a → SyncEnds copies patience left old new a
      by (Ok made) same =
          let syncs : Syncs copies patience left old new made None = record { passes = all (record { made = made; fault = None }) same; none = passed.1 } in
          (syncs, leaves_fresh old sound on none patience left copies new (record { made = made; fault = None }) syncs.passes refl)
      by (Err why) same = inl (tally.made, record { passes = all (record { made = tally.made; fault = Some why }) same; none = passed.1 })
