-- One block of one copy stands at a sector.
use Rattle.std.proofs.Common.{◌≡◌, inl, inr, ℕ, suc, ◌+◌, ◌-◌, ◌*◌, ◌/◌, ◌%◌, ◌<◌, ◌≤◌, true, false, List, [], ◌∷◌, length, get_or, Some, None, sym, ap, subst, ◌∙◌, arith}
use Rattle.std.specs.Prelude.{◌==◌, find, if◌then◌else◌, AllPairs, slice_get}
use Rattle.std.proofs.lemmas.Bool.Decides.{nat_tests}
use Rattle.std.proofs.lemmas.Option.{slice_get-get_or}
use Rattle.lvm_num.specs.declared.place.Pp.{Pp}
use Rattle.lvm_num.specs.declared.place.Place.{Place}
use Rattle.lvm_num.specs.declared.descriptor.LvRow.{LvRow}
use Rattle.lvm_num.specs.declared.descriptor.Descriptor.{Descriptor}
use Rattle.lvm_num.specs.Descriptor.{IsValid, copies_of, volume_of}
use Rattle.lvm_num.specs.Geometry.{partition_blocks, sector_of, track_group_of}
use Rattle.lvm_num.proofs.Lists.{pairs_tail}
use Rattle.lvm_kept.specs.Group.{IsOneOf}
use Rattle.lvm_map.specs.Places.{copy_at, place_on, place_of}
use Rattle.lvm_map.proofs.Parts.{same_parts, parts, whole}
use Rattle.lvm_map.proofs.PlacesLemmas.{mib_positive, place-is}
use Rattle.lvm_map.proofs.LawsLemmas.OneToOne.{is_same}
use Rattle.lvm_crash.specs.Copies.{IsCopyOf, OneBlock}

-- where one of a list stands
pub one_at : {X : Type 0} (xs : List X) (x : X) → IsOneOf xs x → (k : ℕ) × (k < length xs) × ((d : X) → get_or xs k d ≡ x)
one_at [] x one = absurd one
one_at (y ∷ ys) x (inl is) = (0, omega arith, λ d. sym is)
one_at (y ∷ ys) x (inr one) = let rest = one_at ys x one in let lt = rest.1 in (suc rest.0, omega arith, rest.2)

volume_found : (rows : List LvRow) (row : LvRow) → AllPairs (λ (a b : LvRow). a.number < b.number) rows → IsOneOf rows row → find (λ (r : LvRow). r.number == row.number) rows ≡ Some row
volume_found [] row rise one = absurd one
volume_found (r ∷ rs) row rise (inl is) =
    let same : (r.number == row.number) ≡ true = ap (λ (x : LvRow). r.number == x.number) is ∙ grind (arith, nat_tests) in
    ap (λ t. if t then Some r else find (λ (x : LvRow). x.number == row.number) rs) same ∙ ap (λ (x : LvRow). Some x) (sym is)
volume_found (r ∷ rs) row rise (inr one) =
    let at = one_at rs row one in
    let lt : at.0 < length rs = at.1 in
    let less : r.number < row.number = subst (λ (x : LvRow). r.number < x.number) (at.2 r) (rise 0 (suc at.0) r (omega arith) (omega arith)) in
    let differ : (r.number == row.number) ≡ false = grind (arith, nat_tests) in
    ap (λ t. if t then Some r else find (λ (x : LvRow). x.number == row.number) rs) differ ∙ volume_found rs row (pairs_tail (λ (a b : LvRow). a.number < b.number) r rs rise) one

pub number_finds : (group : Descriptor) (row : LvRow) → IsValid group → IsOneOf group.lvs row → volume_of group row.number ≡ Some row
number_finds group row valid one = volume_found group.lvs row valid.volumes.numbers_rise one

-- the place of a block on a copy
pub copy_placed : (group : Descriptor) (lv b : ℕ) (p : Pp) → IsValid group → IsCopyOf group lv b p → (copy : ℕ) × (place_of group lv copy b ≡ Some (place_on group.mib p b))
copy_placed group lv b p valid of =
    let at = one_at (copies_of of.row of.lp) p of.copy in
    let lt : at.0 < length (copies_of of.row of.lp) = at.1 in
    let found : volume_of group lv ≡ Some of.row = subst (λ n. volume_of group n ≡ Some of.row) of.number (number_finds group of.row valid of.volume) in
    let not_none : (suc at.0 == 0) ≡ false = grind (arith, nat_tests) in
    let index : suc at.0 - 1 ≡ at.0 = omega arith in
    let there : copy_at of.row of.lp (suc at.0) ≡ Some p =
    ap (λ t. if t then None else slice_get (copies_of of.row of.lp) (suc at.0 - 1)) not_none
    ∙ ap (λ n. slice_get (copies_of of.row of.lp) n) index
    ∙ slice_get-get_or (copies_of of.row of.lp) at.0 p lt
    ∙ ap (λ (x : Pp). Some x) (at.2 p) in
    (suc at.0, place-is group lv (suc at.0) b of.row (Some p) found (ap (λ n. copy_at of.row n (suc at.0)) of.inside.partition ∙ there))

pub one_block : OneBlock
one_block group lv b l c p q valid of other disk sector =
    let first = copy_placed group lv b p valid of in
    let second = copy_placed group l c q valid other in
    let place : place_on group.mib p b ≡ place_on group.mib q c = λ t. record { disk = disk t; sector = sector t } in
    let same = is_same group valid lv first.0 b l second.0 c (place_on group.mib q c) (first.1 ∙ ap (λ (x : Place). Some x) place) second.1 in
    let size = partition_blocks group.mib in
    let some = mib_positive group valid in
    let own : b % size < size = omega arith in
    let its : c % size < size = omega arith in
    let pp = same_parts size p.pp q.pp (b % size) (c % size) own its (omega (arith, sector)) in
    record { volume = same.same_volume; block = same.same_block; copy = λ t. record { disk = disk t; pp = pp.0 t } }

-- Blocks of one track group stand one behind the other on a copy.
pub next_sector : (mib pp b k : ℕ) → 1 ≤ mib → track_group_of (b + k) ≡ track_group_of b → sector_of mib pp (b + k) ≡ sector_of mib pp b + k
next_sector mib pp b k some same =
    let size = partition_blocks mib in
    let rest : b % size < size = omega arith in
    let all : b / size * size + b % size ≡ b = whole size b (omega arith) in
    let fits : b % size + k < size = omega (arith, all, same) in
    let is = parts size (b + k) (b / size) (b % size + k) fits (omega (arith, all)) in
    omega (arith, is.1)
