-- How many updates of the status may follow at most.
use Rattle.std.proofs.Common.{◌≡◌, ℕ, zero, suc, ◌≤◌, Bool, true, false, not, List, [], ◌∷◌, Option, Some, None, length, slice_get, slice_set, refl, ap, arith}
use Rattle.std.specs.Prelude.{unwrap_or, count_by}
use Rattle.std.specs.Option.{option_map_or}
use Rattle.std.proofs.lemmas.List.Sums.{count_by-le-length}
use Rattle.lvm_num.specs.declared.descriptor.PvRow.{PvRow}
use Rattle.lvm_num.specs.Descriptor.{IsValid, most_members}
use Rattle.lvm_num.proofs.DescriptorLemmas.Bounds.{few_members}
use Rattle.lvm_session.specs.declared.bringing.OpenCopy.{OpenCopy}
use Rattle.lvm_session.specs.declared.open.Open.{Open}
use Rattle.lvm_session.specs.State.{Core, is_there}
use Rattle.lvm_session.specs.Enabled.{same_status}
use Rattle.lvm_session.specs.Left.{clean_volumes, copy_updates, if_open, if_so, marks_later, updates_left}

pub one_if : (b : Bool) → if_so b 1 ≤ 1
one_if true = omega arith
one_if false = omega arith

-- ---- what an open request may mark

-- where one is open it is all of it
pub open_at : (os : List Open) (place : ℕ) (o : Open) (n : ℕ) → slice_get os place ≡ Some o → if_open os n ≡ n
open_at [] place o n there = absurd (cc there)
open_at (x ∷ os) place o n there = refl

pub open_set : (os : List Open) (place : ℕ) (o : Open) (n : ℕ) → if_open (slice_set os place o) n ≡ if_open os n
open_set [] place o n = refl
open_set (x ∷ os) zero o n = refl
open_set (x ∷ os) (suc place) o n = refl

pub open_most : (os : List Open) (n : ℕ) → if_open os n ≤ n
open_most [] n = omega arith
open_most (x ∷ os) n = omega arith

-- ---- all of them

-- where neither a request nor a copy is open
pub few_updates : (core : Core) → IsValid core.descriptor → core.requests ≡ [] → core.copy ≡ None → updates_left core ≤ 129
few_updates core valid none no_copy =
    let a = one_if (not (same_status core.status.wanted (unwrap_or core.status.in_flight core.status.committed))) in
    let b : count_by marks_later core.requests ≡ 0 = ap (λ (os : List Open). count_by marks_later os) none in
    let c : if_open core.requests (clean_volumes core) ≡ 0 = ap (λ (os : List Open). if_open os (clean_volumes core)) none in
    let d = count_by-le-length (λ (row : PvRow). is_there core row.disk) core.descriptor.pvs in
    let e : ◌≡◌ {A = ℕ} (option_map_or (copy_updates core) core.copy 0) 0 = ap (λ (o : Option OpenCopy). option_map_or (copy_updates core) o 0) no_copy in
    let members : length core.descriptor.pvs ≤ most_members core.descriptor.big = valid.head.members in
    let m = few_members core.descriptor.big in
    omega (arith, a, b, c, d, e, members, m)
