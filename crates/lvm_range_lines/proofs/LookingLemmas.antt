-- Ranges of volumes that are asked for by name.
use Rattle.std.proofs.Common.{◌≡◌, ℕ, List, [], Option, Some, None, ap, subst, arith}
use Rattle.std.specs.Prelude.{Contains, MatchOption, Result, Ok, Err}
use Rattle.lvm_num.specs.declared.descriptor.LvRow.{LvRow}
use Rattle.lvm_group_lines.specs.passed.Core.{HasNoVolumeNamed, IsNumberOf}
use Rattle.lvm_session.specs.State.{Core}
use Rattle.lvm_posts.specs.declared.asked.Asked.{Asked}
use Rattle.lvm_group_lines.specs.passed.Ranges.{AskRangeFault, AskRangeGives, Asks, range_fault}
use Rattle.lvm_range_lines.specs.Requests.{AsksByName, HasNone, Refuses, Takes}

-- where there is no volume none has the name
pub none_named : (lvs : List LvRow) (name : List ℕ) → lvs ≡ [] → HasNoVolumeNamed lvs name
none_named lvs name none row among = absurd (none_in row (subst (λ (rows : List LvRow). Contains rows row) none among))
  where
    none_in : (row : LvRow) → Contains [] row → ⊥
    none_in row among = let less = among.1 in omega (arith, less)

-- a range that isn't asked for changes nothing
pub fault_same : (write : Option ℕ) (lv at count : ℕ) (old new : Core) (why : AskRangeFault) → AskRangeGives write lv at count old new (Err why) → new ≡ old
fault_same write lv at count old new why = by (range_fault old lv at count)
  where
    by : (m : Option AskRangeFault) → MatchOption m ((asked : Asked) × (◌≡◌ {A = Result Asked AskRangeFault} (Err why) (Ok asked)) × Asks write lv at count old new asked) (λ (w : AskRangeFault). (◌≡◌ {A = Result Asked AskRangeFault} (Err why) (Err w)) × (new ≡ old)) → new ≡ old
    by None gives = absurd (let e = gives.1 in cc e)
    by (Some w) gives = gives.1

-- what was asked for is what it says
pub record IsTaken (name : List ℕ) (write : Option ℕ) (at count : ℕ) (old new : Core) (asked : Asked) : Type 0 where
  pub lv : ℕ
  pub named : IsNumberOf old.descriptor.lvs name lv
  pub gives : AskRangeGives write lv at count old new (Ok asked)

pub taken_so : (name : List ℕ) (write : Option ℕ) (at count : ℕ) (old new : Core) (asked : Asked) → AsksByName name write at count old new (Ok asked) → IsTaken name write at count old new asked
taken_so name write at count old new asked (HasNone none same is) = absurd (cc is)
taken_so name write at count old new asked (Refuses lv why named gives same is) = absurd (cc is)
taken_so name write at count old new asked (Takes lv it named gives is) = record { lv = lv; named = named; gives = subst (λ (r : Result Asked AskRangeFault). AskRangeGives write lv at count old new r) (let e : it ≡ asked = cc is in ap (λ (a : Asked). Ok a) e) gives }
