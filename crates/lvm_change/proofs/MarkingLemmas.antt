-- A group of which a member comes to be a spare, or to be none any more, is as valid as it was.
use Rattle.std.proofs.Common.{◌≡◌, ◌≢◌, ℕ, zero, suc, ◌<◌, Bool, true, false, List, [], ◌∷◌, length, get_or, map, Some, refl, sym, ap, subst, ◌∙◌, arith}
use Rattle.std.specs.Prelude.{◌==◌, if◌then◌else◌, find, All, AllPairs}
use Rattle.lvm_num.specs.declared.place.Pp.{Pp}
use Rattle.lvm_num.specs.declared.descriptor.PvRow.{PvRow}
use Rattle.lvm_num.specs.declared.descriptor.Descriptor.{Descriptor}
use Rattle.lvm_num.specs.Descriptor.{IsValid, IsMember, IsPartitionOf, partitions_used}
use Rattle.lvm_change_laws.specs.Rule.{unspared}
use Rattle.lvm_change_laws.specs.Spares.{DiffersInSpares}
use Rattle.lvm_change_laws.proofs.UnsparedLemmas.{unspared_row}
use Rattle.lvm_change.specs.Spare.{marked, with_spare}

module _ (disk : ℕ) (on : Bool) where
  same_row : (row : PvRow) → unspared_row (marked disk on row) ≡ unspared_row row
  same_row row = by (row.disk == disk)
    where
      by : (b : Bool) → unspared_row (if b then record row { spare = on } else row) ≡ unspared_row row
      by true = refl
      by false = refl

  same_rows : (rows : List PvRow) → unspared (map (marked disk on) rows) ≡ unspared rows
  same_rows [] = refl
  same_rows (row ∷ rows) = λ t. same_row row t ∷ same_rows rows t

  pub spare_differs : (d : Descriptor) → DiffersInSpares d (with_spare disk on d)
  spare_differs d = record { alone = refl; members = same_rows d.pvs }

  pub spare_is : (d next : Descriptor) (rows : List PvRow) → next ≡ d → rows ≡ map (marked disk on) d.pvs → record next { pvs = rows } ≡ with_spare disk on d
  spare_is d next rows same its = λ t. record (same t) { pvs = its t }

  -- ---- it is valid

  disk_is : (row : PvRow) → (marked disk on row).disk ≡ row.disk
  disk_is row = ap (λ (r : PvRow). r.disk) (same_row row)

  pps_is : (row : PvRow) → (marked disk on row).pps ≡ row.pps
  pps_is row = ap (λ (r : PvRow). r.pps) (same_row row)

  long : (rows : List PvRow) → length (map (marked disk on) rows) ≡ length rows
  long [] = refl
  long (row ∷ rows) = ap suc (long rows)

  at : (rows : List PvRow) (i : ℕ) (e : PvRow) → i < length rows → get_or (map (marked disk on) rows) i e ≡ marked disk on (get_or rows i e)
  at [] i e lt = absurd (omega (arith, lt))
  at (row ∷ rows) zero e lt = refl
  at (row ∷ rows) (suc i) e lt = at rows i e (omega (arith, lt))

  member_so : (row : PvRow) → IsMember row → IsMember (marked disk on row)
  member_so row is =
      let one = disk_is row in
      let two = pps_is row in
      let a = is.disk in
      let b = is.a_partition in
      let c = is.partitions in
      record { disk = omega (arith, one, a); a_partition = omega (arith, two, b); partitions = omega (arith, two, c) }

  each_so : (rows : List PvRow) → All IsMember rows → All IsMember (map (marked disk on) rows)
  each_so rows each i e lt = let few : i < length rows = (let same = long rows in omega (arith, same, lt)) in subst IsMember (sym (at rows i e few)) (member_so (get_or rows i e) (each i e few))

  apart_so : (rows : List PvRow) → AllPairs (λ (a b : PvRow). a.disk ≢ b.disk) rows → AllPairs (λ (a b : PvRow). a.disk ≢ b.disk) (map (marked disk on) rows)
  apart_so rows apart i j e less lt is =
      let few : j < length rows = (let same = long rows in omega (arith, same, lt)) in
      let first : i < length rows = omega (arith, less, few) in
      apart i j e less few (sym (ap (λ (r : PvRow). r.disk) (at rows i e first) ∙ disk_is (get_or rows i e)) ∙ is ∙ ap (λ (r : PvRow). r.disk) (at rows j e few) ∙ disk_is (get_or rows j e))

  found_so : (x : ℕ) (rows : List PvRow) (row : PvRow) → find (λ (r : PvRow). r.disk == x) rows ≡ Some row → find (λ (r : PvRow). r.disk == x) (map (marked disk on) rows) ≡ Some (marked disk on row)
  found_so x [] row is = absurd (cc is)
  found_so x (r ∷ rows) row is =
      ap (λ (n : ℕ). if n == x then Some (marked disk on r) else find (λ (r : PvRow). r.disk == x) (map (marked disk on) rows)) (disk_is r) ∙ by (r.disk == x) (found_so x rows row) is
    where
      by : (b : Bool) → (find (λ (r : PvRow). r.disk == x) rows ≡ Some row → find (λ (r : PvRow). r.disk == x) (map (marked disk on) rows) ≡ Some (marked disk on row))
          → (if b then Some r else find (λ (r : PvRow). r.disk == x) rows) ≡ Some row
          → (if b then Some (marked disk on r) else find (λ (r : PvRow). r.disk == x) (map (marked disk on) rows)) ≡ Some (marked disk on row)
      by true rest found = let same : r ≡ row = cc found in ap (λ (y : PvRow). Some (marked disk on y)) same
      by false rest found = rest found

  pub spare_valid : (d : Descriptor) → IsValid d → IsValid (with_spare disk on d)
  spare_valid d v = record {
    head = record {
      some_id = v.head.some_id;
      id = v.head.id;
      name = v.head.name;
      size = v.head.size;
      even = λ e. long d.pvs ∙ v.head.even e;
      a_member = (let same = long d.pvs in let some = v.head.a_member in omega (arith, same, some));
      members = (let same = long d.pvs in let most = v.head.members in omega (arith, same, most));
      volumes = v.head.volumes;
    };
    members = record { each = each_so d.pvs v.members.each; disks_differ = apart_so d.pvs v.members.disks_differ };
    volumes = v.volumes;
    maps = record {
      places = λ k e few. placed (get_or (partitions_used d) k e) (v.maps.places k e few);
      laid_out = v.maps.laid_out;
      used_once = v.maps.used_once;
    };
  }
    where
      placed : (pp : Pp) → IsPartitionOf d pp → IsPartitionOf (with_spare disk on d) pp
      placed pp (row, found, below) = (marked disk on row, found_so pp.disk d.pvs row found, (let same = pps_is row in omega (arith, same, below)))
