-- How many partitions of volumes pass a test, volume by volume.
use Rattle.std.proofs.Common.{◌≡◌, ℕ, ◌+◌, ◌≤◌, ◌<◌, Bool, if◌then◌else◌, List, [], ◌∷◌, ◌++◌, length, take, get_or, ap, ◌∙◌, arith, append-nil}
use Rattle.std.specs.Prelude.{count_by}
use Rattle.std.proofs.lemmas.List.{take_more}
use Rattle.std.proofs.lemmas.List.Concat.{flat_map-append}
use Rattle.std.proofs.lemmas.List.Sums.{sum_by-append, count_by-le-length}
use Rattle.std.proofs.lemmas.List.Folds.{length-flat_map-take}
use Rattle.lvm_num.specs.declared.place.Pp.{Pp}
use Rattle.lvm_num.specs.declared.descriptor.LvRow.{LvRow}
use Rattle.lvm_num.specs.declared.descriptor.Descriptor.{Descriptor}
use Rattle.lvm_num.specs.Descriptor.{IsValid, partitions_in}
use Rattle.lvm_status.proofs.DescriptorLemmas.{few_partitions}

-- the partitions of one volume more
pub partitions-more : (rows : List LvRow) (i : ℕ) (d : LvRow) → i < length rows
    → partitions_in (take (i + 1) rows) ≡ partitions_in (take i rows) ++ (get_or rows i d).map
partitions-more rows i d lt =
    ap partitions_in (take_more rows i d lt)
    ∙ flat_map-append (λ (row : LvRow). row.map) (take i rows) (get_or rows i d ∷ [])
    ∙ ap (λ (last : List Pp). partitions_in (take i rows) ++ last) (append-nil (get_or rows i d).map)

-- what a count is after one volume more
pub counted-more : (p : Pp → Bool) (rows : List LvRow) (i : ℕ) (d : LvRow) (so-far here : ℕ) → i < length rows
    → so-far ≡ count_by p (partitions_in (take i rows)) → here ≡ count_by p (get_or rows i d).map → so-far + here ≡ count_by p (partitions_in (take (i + 1) rows))
counted-more p rows i d so-far here lt before count =
    let joined = sum_by-append (λ (pp : Pp). if p pp then 1 else 0) (partitions_in (take i rows)) (get_or rows i d).map in
    let next = ap (count_by p) (partitions-more rows i d lt) in
    omega (arith, joined, next, before, count)

-- which is at most as many as there are partitions on a shelf
pub counted-small : (p : Pp → Bool) (d : Descriptor) → IsValid d → (rows : List LvRow) → rows ≡ d.lvs → (i : ℕ) (row : LvRow) (so-far here : ℕ) → i < length rows
    → row ≡ get_or rows i row → so-far ≡ count_by p (partitions_in (take i rows)) → here ≡ count_by p row.map → so-far + here ≤ 130048
counted-small p d valid rows is i row so-far here lt at before count =
    let all : length (partitions_in rows) ≤ 130048 = omega (arith, few_partitions d valid, ap (λ (r : List LvRow). length (partitions_in r)) is) in
    let own : length row.map ≡ length (get_or rows i row).map = ap (λ (r : LvRow). length r.map) at in
    omega (arith, all, own, before, count, count_by-le-length p (partitions_in (take i rows)), count_by-le-length p row.map, length-flat_map-take (λ (r : LvRow). r.map) rows i row lt)
