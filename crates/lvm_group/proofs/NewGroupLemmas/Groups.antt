-- The descriptor and the status of a new group are valid, and its disks have the sectors that its partitions need.
use Rattle.std.proofs.Common.{◌≡◌, ◌≢◌, ⊎_elim, ℕ, zero, suc, ◌-◌, ◌^◌, ◌<◌, ◌≤◌, Bool, true, false, ◌&&◌, ◌||◌, List, [], ◌∷◌, length, get_or, Some, None, refl, sym, ap, subst, ◌∙◌, arith}
use Rattle.std.specs.Prelude.{◌==◌, nat_le, map, filter, AllPairs, IsTrue, slice_get}
use Rattle.std.specs.List.{list_any}
use Rattle.std.proofs.lemmas.Bool.{cases_lt, eqb-true, eq-eqb, leb-false}
use Rattle.std.proofs.lemmas.Bool.Decides.{nat_tests}
use Rattle.std.proofs.lemmas.List.{get_or-map, length-map, length-replicate}
use Rattle.std.proofs.lemmas.List.Elements.{All-map, All-filter}
use Rattle.std.proofs.lemmas.List.Folds.{list_any_at}
use Rattle.std.proofs.lemmas.List.Kept.{AllPairs-filter}
use Rattle.lvm_num.specs.declared.descriptor.PvRow.{PvRow}
use Rattle.lvm_num.specs.declared.status.StatusRow.{StatusRow}
use Rattle.lvm_num.specs.Descriptor.{is_size, IsMember, AreMembers, IsValid, is_member}
use Rattle.lvm_num.specs.Geometry.{data_start, partition_count, sectors_needed}
use Rattle.lvm_num.specs.Name.{is_name}
use Rattle.lvm_num.specs.Status.{IsStatusRow, IsValidStatus, calls_missing}
use Rattle.lvm_status.specs.Table.{has_row}
use Rattle.lvm_core.specs.passed.SessionStart.{IsOneGroup}
use Rattle.lvm_core.specs.passed.Session.{IsPlaced, ArePlaced}
use Rattle.lvm_group.specs.NewGroup.{among, sectors_on, member_for, descriptor_for, clear_row, disks_in_order, status_for, first_absent, first_too_small}
use Rattle.lvm_group.proofs.NewGroupLemmas.Searches.{none_found, any_map, any_filter, in_order, order_rises, order_below, few_in_order}

pub size_positive : (mib : ℕ) → is_size mib ≡ true → 1 ≤ mib
size_positive zero is = absurd cc
size_positive (suc mib) is = omega arith

-- ---- the disks that are named

-- each of them is there,
pub is_there : (sizes disks : List ℕ) → first_absent sizes disks ≡ None → (k d : ℕ) → k < length disks → get_or disks k d < length sizes
is_there sizes disks there k d lt = leb-false (length sizes) (get_or disks k d) (none_found (λ disk. nat_le (length sizes) disk) disks there k d lt)

some_count : (n : ℕ) → n == 0 ≡ false → 1 ≤ n
some_count n is = grind (arith, nat_tests)

-- and a partition fits on it
pub has_partition : (sizes : List ℕ) (mib : ℕ) (disks : List ℕ) → first_too_small sizes mib disks ≡ None → (k d : ℕ) → k < length disks → 1 ≤ partition_count (sectors_on sizes (get_or disks k d)) mib
has_partition sizes mib disks fit k d lt = some_count (partition_count (sectors_on sizes (get_or disks k d)) mib) (none_found (λ disk. partition_count (sectors_on sizes disk) mib == 0) disks fit k d lt)

-- a disk that is among them is one of them
pub among_at : (disks : List ℕ) (disk : ℕ) → among disks disk ≡ true → (k : ℕ) × (k < length disks) × (get_or disks k 0 ≡ disk)
among_at [] disk is = absurd cc
among_at (x ∷ disks) disk is = by_test (λ rest. among_at disks disk rest) (x == disk) refl is
  where
    by_test : (among disks disk ≡ true → (k : ℕ) × (k < length disks) × (get_or disks k 0 ≡ disk)) → (t : Bool) → x == disk ≡ t → (t || among disks disk) ≡ true
        → (k : ℕ) × (k < length (x ∷ disks)) × (get_or (x ∷ disks) k 0 ≡ disk)
    by_test behind true same is = (0, omega arith, eqb-true x disk same)
    by_test behind false same is = let at = behind is in (suc at.0, (let lt = at.1 in omega (arith, lt)), at.2)

pub there_among : (sizes disks : List ℕ) → first_absent sizes disks ≡ None → (disk : ℕ) → among disks disk ≡ true → disk < length sizes
there_among sizes disks there disk is = let at = among_at disks disk is in subst (λ d. d < length sizes) at.2 (is_there sizes disks there at.0 0 at.1)

-- ---- the descriptor

at_member : (sizes : List ℕ) (mib : ℕ) (disks : List ℕ) (k : ℕ) (d : PvRow) → k < length disks → get_or (map (member_for sizes mib) disks) k d ≡ member_for sizes mib (get_or disks k 0)
at_member sizes mib disks k d lt = get_or-map (member_for sizes mib) disks k 0 d lt

pub are_members : (sizes : List ℕ) (mib : ℕ) (disks : List ℕ) → length sizes ≤ 128 → first_absent sizes disks ≡ None → first_too_small sizes mib disks ≡ None
    → AllPairs (λ a b. a ≢ b) disks → AreMembers (map (member_for sizes mib) disks)
are_members sizes mib disks few there fit differ = record {
  each = All-map IsMember (member_for sizes mib) disks (λ k d lt.
      let disk = is_there sizes disks there k d lt in
      record { disk = omega (arith, disk, few); a_partition = has_partition sizes mib disks fit k d lt; partitions = omega arith });
  disks_differ = λ i j d less lt.
      let j-lt : j < length disks = omega (arith, lt, length-map disks (member_for sizes mib)) in
      let i-lt : i < length disks = omega (arith, less, j-lt) in
      λ same. differ i j 0 less j-lt (sym (ap (λ (row : PvRow). row.disk) (at_member sizes mib disks i d i-lt)) ∙ same ∙ ap (λ (row : PvRow). row.disk) (at_member sizes mib disks j d j-lt));
}

pub valid_group : (sizes name : List ℕ) (mib : ℕ) (disks : List ℕ) (moment : ℕ) → moment ≢ 0 → moment < 2 ^ 64 → IsTrue (is_name name) → IsTrue (is_size mib) → 1 ≤ length disks → length disks ≤ 32
    → AreMembers (map (member_for sizes mib) disks) → IsValid (descriptor_for sizes name mib disks moment)
valid_group sizes name mib disks moment some small named size one few members =
    let many : length (map (member_for sizes mib) disks) ≡ length disks = length-map disks (member_for sizes mib) in
    record {
      head = record {
        some_id = some;
        id = small;
        name = named;
        size = size;
        even = λ is. absurd cc;
        a_member = omega (arith, many, one);
        members = omega (arith, many, few);
        volumes = omega arith;
      };
      members = members;
      volumes = record { each = λ k d lt. absurd (omega (arith, lt)); numbers_rise = λ i j d less lt. absurd (omega (arith, lt)); names_differ = λ i j d less lt. absurd (omega (arith, lt)) };
      maps = record { places = λ k d lt. absurd (omega (arith, lt)); laid_out = λ k d lt. absurd (omega (arith, lt)); used_once = λ i j d less lt. absurd (omega (arith, lt)) };
    }

-- ---- the status

pub member_among : (sizes name : List ℕ) (mib : ℕ) (disks : List ℕ) (moment disk : ℕ) → is_member (descriptor_for sizes name mib disks moment) disk ≡ among disks disk
member_among sizes name mib disks moment disk = any_map (member_for sizes mib) (λ row. row.disk == disk) disks

abbrev kept_disks : List ℕ → List ℕ
kept_disks disks = filter (among disks) disks_in_order

pub first_among : (xs : List ℕ) → 1 ≤ length xs → among xs (get_or xs 0 0) ≡ true
first_among [] one = absurd (omega (arith, one))
first_among (x ∷ xs) one = ap (λ b. b || among xs x) (eq-eqb x x refl)

row_among : (disks : List ℕ) (moment disk : ℕ) → length disks ≤ 128 → (among disks disk ≡ true → disk < 128) → has_row (status_for disks moment) disk ≡ among disks disk
row_among disks moment disk few below = any_map clear_row (λ row. row.disk == disk) (kept_disks disks) ∙ any_filter (among disks) disk disks_in_order ∙ by_test (among disks disk) refl
  where
    by_test : (t : Bool) → among disks disk ≡ t → (t && list_any (λ e. e == disk) disks_in_order) ≡ t
    by_test true is = in_order disk (below is)
    by_test false is = refl

some_row : (xs : List ℕ) (disk : ℕ) → list_any (λ e. e == disk) xs ≡ true → 1 ≤ length xs
some_row [] disk is = absurd cc
some_row (x ∷ xs) disk is = omega arith

at_row : (xs : List ℕ) (k : ℕ) (d : StatusRow) → k < length xs → get_or (map clear_row xs) k d ≡ clear_row (get_or xs k 0)
at_row xs k d lt = get_or-map clear_row xs k 0 d lt

pub valid_status : (disks : List ℕ) (moment : ℕ) → moment ≢ 0 → moment < 2 ^ 64 → 1 ≤ length disks → length disks ≤ 32 → ((k : ℕ) → k < length disks → get_or disks k 0 < 128) → IsValidStatus (status_for disks moment)
valid_status disks moment some small one few below =
    let many : length (map clear_row (kept_disks disks)) ≡ length (kept_disks disks) = length-map (kept_disks disks) clear_row in
    let first : among disks (get_or disks 0 0) ≡ true = first_among disks one in
    let there : list_any (λ e. e == get_or disks 0 0) (kept_disks disks) ≡ true =
    any_filter (among disks) (get_or disks 0 0) disks_in_order ∙ ap (λ b. b && list_any (λ e. e == get_or disks 0 0) disks_in_order) first ∙ in_order (get_or disks 0 0) (below 0 (omega (arith, one))) in
    let a_row = some_row (kept_disks disks) (get_or disks 0 0) there in
    let fewer = few_in_order disks in
    record {
      some_id = some;
      id = small;
      a_row = omega (arith, many, a_row);
      rows_fit = omega (arith, many, fewer, few);
      rows = record {
        each = All-map IsStatusRow clear_row (kept_disks disks) (All-filter (among disks) (λ e. IsStatusRow (clear_row e)) disks_in_order (λ k d lt. record { disk = order_below k d lt; size = length-replicate {A = ℕ} 127 0 }));
        disks_rise = λ i j d less lt.
            let j-lt : j < length (kept_disks disks) = omega (arith, lt, many) in
            let i-lt : i < length (kept_disks disks) = omega (arith, less, j-lt) in
            let up = AllPairs-filter (λ a b. a < b) (among disks) disks_in_order order_rises i j 0 less j-lt in
            let i-is : (get_or (map clear_row (kept_disks disks)) i d).disk ≡ get_or (kept_disks disks) i 0 = ap (λ (row : StatusRow). row.disk) (at_row (kept_disks disks) i d i-lt) in
            let j-is : (get_or (map clear_row (kept_disks disks)) j d).disk ≡ get_or (kept_disks disks) j 0 = ap (λ (row : StatusRow). row.disk) (at_row (kept_disks disks) j d j-lt) in
            omega (arith, up, i-is, j-is);
      };
      dirty = record { each = λ k d lt. absurd (omega (arith, lt)); numbers_rise = λ i j d less lt. absurd (omega (arith, lt)) };
    }

pub one_group : (sizes name : List ℕ) (mib : ℕ) (disks : List ℕ) (moment : ℕ) → length disks ≤ 32 → ((disk : ℕ) → among disks disk ≡ true → disk < 128)
    → IsOneGroup (descriptor_for sizes name mib disks moment) (status_for disks moment)
one_group sizes name mib disks moment few below = record {
  id = refl;
  rows = λ disk. row_among disks moment disk (omega (arith, few)) (below disk) ∙ sym (member_among sizes name mib disks moment disk);
}

-- ---- the sectors of its disks

needs : (size mib pps : ℕ) → 1 ≤ mib → pps ≡ partition_count size mib → 1 ≤ pps → sectors_needed mib pps ≤ size
needs size mib pps some is one = grind (arith)

pub size_at : (sizes : List ℕ) (disk size : ℕ) → slice_get sizes disk ≡ Some size → sectors_on sizes disk ≡ size
size_at [] disk size is = absurd cc
size_at (x ∷ sizes) zero size is = cc
size_at (x ∷ sizes) (suc disk) size is = size_at sizes disk size is

pub is_placed : (sizes : List ℕ) (mib : ℕ) (disks : List ℕ) → 1 ≤ mib → first_absent sizes disks ≡ None → first_too_small sizes mib disks ≡ None
    → (k : ℕ) → k < length disks → IsPlaced sizes mib (member_for sizes mib (get_or disks k 0))
is_placed sizes mib disks some there fit k lt = record {
  there = is_there sizes disks there k 0 lt;
  within = λ size is.
      needs size mib (partition_count (sectors_on sizes (get_or disks k 0)) mib) some (ap (λ s. partition_count s mib) (size_at sizes (get_or disks k 0) size is)) (has_partition sizes mib disks fit k 0 lt);
}

pub are_placed : (sizes name : List ℕ) (mib : ℕ) (disks : List ℕ) (moment : ℕ) → 1 ≤ mib → first_absent sizes disks ≡ None → first_too_small sizes mib disks ≡ None
    → ArePlaced sizes (descriptor_for sizes name mib disks moment) (status_for disks moment)
are_placed sizes name mib disks moment some there fit row has calls =
    let lt : has.0 < length disks = let l = has.1 in omega (arith, l, length-map disks (member_for sizes mib)) in
    subst (IsPlaced sizes mib) (sym (at_member sizes mib disks has.0 row lt) ∙ has.2) (is_placed sizes mib disks some there fit has.0 lt)

-- ---- room for records

large : (size mib : ℕ) → 1 ≤ partition_count size mib → data_start ≤ size
large size mib some = ⊎_elim (λ (less : size < data_start). absurd (none size mib (omega (arith, less)) some)) (λ (more : data_start ≤ size). more) (cases_lt size data_start)
  where
    none : (size mib : ℕ) → size - data_start ≡ 0 → 1 ≤ partition_count size mib → ⊥
    none size mib is some = grind (arith)

-- each disk named is there, with the sectors that records need
pub room_among : (sizes : List ℕ) (mib : ℕ) (disks : List ℕ) → first_absent sizes disks ≡ None → first_too_small sizes mib disks ≡ None → (disk : ℕ) → among disks disk ≡ true
    → (disk < length sizes) × (data_start ≤ sectors_on sizes disk)
room_among sizes mib disks there fit disk is =
    let at = among_at disks disk is in
    (subst (λ d. d < length sizes) at.2 (is_there sizes disks there at.0 0 at.1), subst (λ d. data_start ≤ sectors_on sizes d) at.2 (large (sectors_on sizes (get_or disks at.0 0)) mib (has_partition sizes mib disks fit at.0 0 at.1)))

-- and each is a member with the sectors that its partitions need
pub placed_among : (sizes name : List ℕ) (mib : ℕ) (disks : List ℕ) (moment : ℕ) → 1 ≤ mib → first_absent sizes disks ≡ None → first_too_small sizes mib disks ≡ None → (disk : ℕ) → among disks disk ≡ true
    → list_any (λ (row : PvRow). row.disk == disk && nat_le (sectors_needed mib row.pps) (sectors_on sizes disk)) (descriptor_for sizes name mib disks moment).pvs ≡ true
placed_among sizes name mib disks moment some there fit disk is =
    let at = among_at disks disk is in
    let row : PvRow = member_for sizes mib (get_or disks at.0 0) in
    let here : (d : PvRow) → get_or (map (member_for sizes mib) disks) at.0 d ≡ row = λ d. at_member sizes mib disks at.0 d at.1 in
    list_any_at (λ (r : PvRow). r.disk == disk && nat_le (sectors_needed mib r.pps) (sectors_on sizes disk)) (map (member_for sizes mib) disks) at.0 row (let lt = at.1 in omega (arith, lt, length-map disks (member_for sizes mib)))
    (ap (λ (r : PvRow). r.disk == disk && nat_le (sectors_needed mib r.pps) (sectors_on sizes disk)) (here row)
    ∙ both (get_or disks at.0 0 == disk) (nat_le (sectors_needed mib row.pps) (sectors_on sizes disk)) (eq-eqb (get_or disks at.0 0) disk at.2)
    (subst (λ d. nat_le (sectors_needed mib row.pps) (sectors_on sizes d) ≡ true) at.2 (is_le _ _ (needs (sectors_on sizes (get_or disks at.0 0)) mib row.pps some refl (has_partition sizes mib disks fit at.0 0 at.1)))))
  where
    both : (a b : Bool) → a ≡ true → b ≡ true → (a && b) ≡ true
    both true true p q = refl
    both true false p q = q
    both false b p q = absurd cc

    is_le : (n m : ℕ) → n ≤ m → nat_le n m ≡ true
    is_le n m le = grind (arith, nat_tests)

-- none is missing
none_missing : (xs : List ℕ) (disk : ℕ) → list_any (λ (row : StatusRow). row.disk == disk && row.missing) (map clear_row xs) ≡ false
none_missing [] disk = refl
none_missing (x ∷ xs) disk = ap (λ b. b || list_any (λ (row : StatusRow). row.disk == disk && row.missing) (map clear_row xs)) (and_false (x == disk)) ∙ none_missing xs disk
  where
    and_false : (b : Bool) → (b && false) ≡ false
    and_false true = refl
    and_false false = refl

pub nothing_missing : (disks : List ℕ) (moment disk : ℕ) → calls_missing (status_for disks moment) disk ≡ false
nothing_missing disks moment disk = none_missing (kept_disks disks) disk
