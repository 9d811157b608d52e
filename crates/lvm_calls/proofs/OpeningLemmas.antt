-- What a copy finds that isn't refused.
use Rattle.std.proofs.Common.{◌≡◌, ◌<◌, ℕ, Bool, true, false, List, [], ◌∷◌, Option, Some, None, slice_get, refl, sym, ap}
use Rattle.std.specs.Prelude.{is_some, nat_lt, if◌then◌else◌}
use Rattle.std.specs.Option.{option_map_or}
use Rattle.std.proofs.lemmas.Bool.{ltb-true}
use Rattle.lvm_num.specs.declared.descriptor.LvRow.{LvRow}
use Rattle.lvm_num.specs.declared.descriptor.Descriptor.{Descriptor}
use Rattle.lvm_num.specs.declared.place.Pp.{Pp}
use Rattle.lvm_num.specs.Descriptor.{copies_of, volume_of}
use Rattle.lvm_disk.specs.Counts.{Counts}
use Rattle.lvm_session.specs.declared.bringing.OpenCopy.{OpenCopy}
use Rattle.lvm_session.specs.declared.open.Power.{Power}
use Rattle.lvm_session.specs.declared.open.Power.TheVariants as power
use Rattle.lvm_session.specs.State.{Core}
use Rattle.lvm_session.specs.Judging.{copies_in}
use Rattle.lvm_session.specs.declared.answers.CopyFault.TheVariants as refusal
use Rattle.lvm_session.specs.Calls.{copy_at, copy_fault, faults_of, refusal_at, refusal_when, refusal_in, refusal_on}
use Rattle.lvm_session.specs.Asking.{IsAwake}
use Rattle.lvm_calls.specs.Opening.{HasCopy}

-- The volume has the copy, and nothing is against it; the session is on, and no other copy is open.
pub record IsTaken (core : Core) (lv lp number : ℕ) : Type 0 where
  pub on : core.power ≡ power.On
  pub none : core.copy ≡ None
  pub its : HasCopy core.descriptor lv lp number
  pub fine : refusal_at core (copies_of its.row lp) its.pp ≡ None

module _ (core : Core) (lv lp number : ℕ) (on : core.power ≡ power.On) (free : core.copy ≡ None) where
  taken_in : (row : LvRow) → volume_of core.descriptor lv ≡ Some row → refusal_in core row lp number ≡ None → IsTaken core lv lp number
  taken_in row volume is = by_test (nat_lt lp row.lps) refl is
    where
      by_copy : lp < row.lps → (p : Option Pp) → copy_at (copies_of row lp) number ≡ p → option_map_or (refusal_at core (copies_of row lp)) p (Some refusal.OutOfRange) ≡ None → IsTaken core lv lp number
      by_copy within None at fine = absurd (cc fine)
      by_copy within (Some p) at fine = record { on = on; none = free; its = record { row = row; volume = volume; within = within; pp = p; copy_is = at }; fine = fine }

      by_test : (b : Bool) → nat_lt lp row.lps ≡ b
          → (if b then option_map_or (refusal_at core (copies_of row lp)) (copy_at (copies_of row lp) number) (Some refusal.OutOfRange) else Some refusal.OutOfRange) ≡ None → IsTaken core lv lp number
      by_test true within none = by_copy (ltb-true lp row.lps within) (copy_at (copies_of row lp) number) refl none
      by_test false within none = absurd (cc none)

  taken_of : option_map_or (λ (row : LvRow). refusal_in core row lp number) (volume_of core.descriptor lv) (Some refusal.NoVolume) ≡ None → IsTaken core lv lp number
  taken_of is = by_row (volume_of core.descriptor lv) refl is
    where
      by_row : (row : Option LvRow) → volume_of core.descriptor lv ≡ row → option_map_or (λ (row : LvRow). refusal_in core row lp number) row (Some refusal.NoVolume) ≡ None → IsTaken core lv lp number
      by_row None volume none = absurd (cc none)
      by_row (Some row) volume none = taken_in row volume none

taken_on : (core : Core) (lv lp number : ℕ) → core.power ≡ power.On → refusal_on core lv lp number ≡ None → IsTaken core lv lp number
taken_on core lv lp number on is = by_copy core.copy refl is
  where
    by_copy : (copy : Option OpenCopy) → core.copy ≡ copy
        → (if is_some copy then Some refusal.Busy else option_map_or (λ (row : LvRow). refusal_in core row lp number) (volume_of core.descriptor lv) (Some refusal.NoVolume)) ≡ None → IsTaken core lv lp number
    by_copy None free none = taken_of core lv lp number on free none
    by_copy (Some c) busy none = absurd (cc none)

pub taken : (core : Core) (lv lp number : ℕ) → IsAwake core → None ≡ copy_fault core lv lp number → IsTaken core lv lp number
taken core lv lp number awake is = by_power core.power refl (sym is)
  where
    by_power : (p : Power) → core.power ≡ p → refusal_when p (refusal_on core lv lp number) ≡ None → IsTaken core lv lp number
    by_power power.On on none = taken_on core lv lp number on none
    by_power power.Off off none = absurd (cc none)
    by_power power.Dark dark none = absurd (cc none)
    by_power power.Stuck stuck none = absurd (awake.unstuck stuck)

-- ---- its partition

pub copies_are : (d : Descriptor) (lv lp : ℕ) (row : LvRow) → volume_of d lv ≡ Some row → copies_in d lv lp ≡ copies_of row lp
copies_are d lv lp row volume = ap (λ (o : Option LvRow). option_map_or (λ (r : LvRow). copies_of r lp) o []) volume

-- ---- the counts of its disks

pub faults_are : (counts : Counts) (copies : List Pp) (own : Pp) (a b c e : ℕ)
    → a ≡ option_map_or (λ (p : Pp). counts.faults p.disk) (slice_get copies 0) 0 → b ≡ option_map_or (λ (p : Pp). counts.faults p.disk) (slice_get copies 1) 0
    → c ≡ option_map_or (λ (p : Pp). counts.faults p.disk) (slice_get copies 2) 0 → e ≡ counts.faults own.disk → a ∷ b ∷ c ∷ e ∷ [] ≡ faults_of counts copies own
faults_are counts [] own a b c e one two three four = rw (one, two, three, four) refl
faults_are counts (p ∷ []) own a b c e one two three four = rw (one, two, three, four) refl
faults_are counts (p ∷ q ∷ []) own a b c e one two three four = rw (one, two, three, four) refl
faults_are counts (p ∷ q ∷ r ∷ more) own a b c e one two three four = rw (one, two, three, four) refl
