-- Which copies are planned.
use Rattle.std.proofs.Common.{◌≡◌, ℕ, suc, ◌+◌, ◌<◌, ◌==◌, ◌++◌, Bool, true, false, List, [], ◌∷◌, Option, Some, None, length, slice_index_or, take, find, flat_map, refl, sym, ap, subst, ◌∙◌, arith, All}
use Rattle.std.specs.Prelude.{if◌then◌else◌}
use Rattle.std.proofs.lemmas.List.{take_more, append-nil}
use Rattle.std.proofs.lemmas.Bool.{eqb-true}
use Rattle.lvm_num.specs.declared.descriptor.PvRow.{PvRow}
use Rattle.lvm_num.specs.declared.descriptor.LvRow.{LvRow}
use Rattle.lvm_num.specs.declared.descriptor.Descriptor.{Descriptor}
use Rattle.lvm_num.specs.declared.status.Status.{Status}
use Rattle.lvm_num.specs.Disks.{Disks}
use Rattle.lvm_num.specs.Descriptor.{IsValid, IsLaidOut, IsMember, IsPartitionOf, volume_of, partitions_used}
use Rattle.lvm_num.proofs.AmongLemmas.{all_one, one_at}
use Rattle.lvm_kept.proofs.ChangesLemmas.Entries.{volume_is_row}
use Rattle.lvm_recover.proofs.passed.Commit.{of_rows}
use Rattle.lvm_recovery.specs.declared.copying.Recopy.{Recopy}
use Rattle.lvm_recovery.specs.declared.plan.TrackGroup.{TrackGroup}
use Rattle.lvm_recovery.specs.Plan.{copies_of_group, copies_of_found, copies_named}
use Rattle.lvm_recovery.proofs.CopyingLemmas.AllCopied.{at_index}

-- the row that was found is the volume's
pub row_found : (group : Descriptor) (rows : List LvRow) (number : ℕ) (o : Option LvRow) → rows ≡ group.lvs → o ≡ find (λ (r : LvRow). r.number == number) rows → volume_of group number ≡ o
row_found group rows number o same found = ap (λ (l : List LvRow). find (λ (r : LvRow). r.number == number) l) (sym same) ∙ sym found

pub is_laid_out : (group : Descriptor) (rows : List LvRow) (number : ℕ) (row : LvRow) → IsValid group → rows ≡ group.lvs → Some row ≡ find (λ (r : LvRow). r.number == number) rows → IsLaidOut row
is_laid_out group rows number row valid same found = all_one IsLaidOut group.lvs row valid.maps.laid_out (volume_is_row group number row (row_found group rows number (Some row) same found))

-- a member is a disk of the shelf
disk_of : (rows : List PvRow) (disk : ℕ) (row : PvRow) → All IsMember rows → find (λ (r : PvRow). r.disk == disk) rows ≡ Some row → disk < 128
disk_of [] disk row all found = absurd cc
disk_of (r ∷ rows) disk row all found = by_test (r.disk == disk) refl (disk_of rows disk row (λ k d low. all (suc k) d (let l = low in omega (arith, l)))) found
  where
    by_test : (t : Bool) → (r.disk == disk) ≡ t → (find (λ (x : PvRow). x.disk == disk) rows ≡ Some row → disk < 128) → (if t then Some r else find (λ (x : PvRow). x.disk == disk) rows) ≡ Some row → disk < 128
    by_test true here rest is = subst (λ (n : ℕ). n < 128) (eqb-true r.disk disk here) (all 0 r (omega arith)).disk
    by_test false here rest is = rest is

pub places_below : (group : Descriptor) (rows : List LvRow) (number : ℕ) (row : LvRow) → IsValid group → rows ≡ group.lvs → Some row ≡ find (λ (r : LvRow). r.number == number) rows → All (λ p. p.disk < 128) row.map
places_below group rows number row valid same found k d low =
    let volume = volume_is_row group number row (row_found group rows number (Some row) same found) in
    let p = slice_index_or row.map k d in
    let of = all_one (IsPartitionOf group) (partitions_used group) p valid.maps.places (of_rows group.lvs row p volume (one_at row.map k p (at_index row.map k d low))) in
    disk_of group.pvs p.disk of.0 valid.members.each of.1

-- one more
pub flat_map_one : {X Y : Type 0} (f : X → List Y) (xs : List X) (x : X) → flat_map f (xs ++ x ∷ []) ≡ flat_map f xs ++ f x
flat_map_one f [] x = append-nil (f x)
flat_map_one f (y ∷ xs) x = ap (λ l. f y ++ l) (flat_map_one f xs x) ∙ sym (Rattle.std.proofs.lemmas.List.append_assoc (f y) (flat_map f xs) (f x))

pub flat_map_next : {X Y : Type 0} (f : X → List Y) (xs : List X) (k : ℕ) (d : X) (before after : List Y) → k < length xs → before ≡ flat_map f (take k xs) → after ≡ before ++ f (slice_index_or xs k d) → after ≡ flat_map f (take (k + 1) xs)
flat_map_next f xs k d before after low was is =
    is ∙ ap (λ l. l ++ f (slice_index_or xs k d)) was ∙ sym (flat_map_one f (take k xs) (slice_index_or xs k d)) ∙ ap (λ l. flat_map f l) (sym (take_more xs k d low))

pub none_named : (group : Descriptor) (status : Status) (disks : Disks) (rows : List LvRow) (one : TrackGroup) (before : List Recopy) → rows ≡ group.lvs → None ≡ find (λ (r : LvRow). r.number == one.volume) rows → before ≡ before ++ copies_named group status disks one
none_named group status disks rows one before same found =
    sym (append-nil before) ∙ ap (λ (o : Option LvRow). before ++ copies_of_found group.mib status disks one.group o) (sym (row_found group rows one.volume None same found))

pub some_named : (group : Descriptor) (status : Status) (disks : Disks) (rows : List LvRow) (one : TrackGroup) (row : LvRow) (before after : List Recopy) → rows ≡ group.lvs → Some row ≡ find (λ (r : LvRow). r.number == one.volume) rows
    → after ≡ before ++ copies_of_group group.mib status disks row one.group → after ≡ before ++ copies_named group status disks one
some_named group status disks rows one row before after same found is =
    is ∙ ap (λ (o : Option LvRow). before ++ copies_of_found group.mib status disks one.group o) (sym (row_found group rows one.volume (Some row) same found))
