-- What a descriptor with a new volume, or without an old one, needs of the history and the disks.
use Rattle.std.proofs.Common.{◌≡◌, inl, inr, ⊎_elim, ℕ, suc, ◌+◌, ◌-◌, ◌*◌, ◌%◌, ◌<◌, ◌≤◌, Bool, true, false, ◌&&◌, List, [], ◌∷◌, ◌++◌, Option, Some, None, length, get_or, refl, sym, ap, subst, ◌∙◌, eq-eqb, arith}
use Rattle.std.specs.Prelude.{◌==◌, find, nat_lt, IsTrue, IsFalse, All, if◌then◌else◌}
use Rattle.std.proofs.lemmas.Bool.{false≢true}
use Rattle.std.proofs.lemmas.Bool.Decides.{nat_tests}
use Rattle.std.proofs.lemmas.List.Elements.{All-contains}
use Rattle.std.proofs.Math.Nat.{div-lt_iff_lt-mul, mul_comm, mul-le-mul_right}
use Rattle.lvm_num.specs.declared.place.Pp.{Pp}
use Rattle.lvm_num.specs.declared.descriptor.Mode.{Mode}
use Rattle.lvm_num.specs.declared.descriptor.LvRow.{LvRow}
use Rattle.lvm_num.specs.declared.descriptor.Descriptor.{Descriptor}
use Rattle.lvm_num.specs.declared.status.Status.{Status}
use Rattle.lvm_num.specs.Buffer.{zero_sector}
use Rattle.lvm_num.specs.Disks.{Disks}
use Rattle.lvm_num.specs.Geometry.{partition_blocks, sector_of, volume_blocks}
use Rattle.lvm_num.specs.Descriptor.{IsValid, copies_of, volume_of}
use Rattle.lvm_num.specs.Status.{calls_stale}
use Rattle.lvm_num.specs.Votes.{CanWrite}
use Rattle.lvm_vol.specs.declared.entry.Vol.TheVariants.{Lv}
use Rattle.lvm_vol.specs.Facts.{Fact, Making, Removing, Cut}
use Rattle.lvm_vol.specs.May.{Known, known, IsValue, cut}
use Rattle.lvm_vol.specs.Standing.{Standing, Open, Volume, no_volumes, volumes_after_fact, volumes_in}
use Rattle.lvm_disk.specs.Device.{Media, image_of}
use Rattle.lvm_kept.specs.Contents.{Contents, contents_of}
use Rattle.lvm_kept.specs.Group.{block_at, IsBlockOf, IsOneOf}
use Rattle.lvm_kept.specs.Kept.{StandsAs, Kept}
use Rattle.lvm_kept.proofs.PlacesLemmas.{blocks_are_sectors}
use Rattle.lvm_kept.proofs.CommittedLemmas.Finding.{images_within}
use Rattle.lvm_kept.proofs.MayLemmas.{known_more}
use Rattle.lvm_steps.specs.Committing.{VolumeIsServed}
use Rattle.lvm_steps.proofs.EntriesLemmas.{volumes-append}
use Rattle.lvm_steps.proofs.VolumeEntriesLemmas.{zeros_serve}
use Rattle.lvm_volume_plan.specs.passed.Commit.{ShowsCommitted, IsSectorOf, VolumeServes, HasFreshCopies}
use Rattle.lvm_volume_plan.proofs.passed.Commit.{contains, of_map, zeros_are_found}
use Rattle.lvm_volume_plan.specs.declared.new_volume.NewVolume.{NewVolume}
use Rattle.lvm_volume_plan.specs.NewVolume.{IsLowestFree, IsInOrder, row_for, with_volume, without_volume}
use Rattle.lvm_volume_plan.proofs.Sublists.{one_insert}
use Rattle.lvm_volumes.proofs.DescriptorLemmas.{its_copy}
use Rattle.lvm_volume_plan.proofs.NewVolumeLemmas.NewDescriptor.{named_with, differs_with}
use Rattle.lvm_volume_plan.proofs.NewVolumeLemmas.OldDescriptor.{unnamed_without, differs_without, none_without}

-- ---- the history with one entry more

pub stands_after : (facts : List Fact) (f : Fact) (lv : ℕ) → volumes_in (facts ++ f ∷ []) lv ≡ volumes_after_fact f (volumes_in facts) lv
stands_after facts f lv = ap (λ (v : ℕ → Volume). v lv) (volumes-append no_volumes facts (f ∷ []))

made_open : (lv blocks : ℕ) (mode : Mode) (volumes : ℕ → Volume) → volumes_after_fact (Making lv blocks mode) volumes lv ≡ record { standing = Open; shape = Some (record { blocks = blocks; mode = mode }) }
made_open lv blocks mode volumes = ap (λ (t : Bool). if t then record { standing = Open; shape = Some (record { blocks = blocks; mode = mode }) } else volumes lv) (eq-eqb lv lv refl)

-- the volume in the making is open,
pub making_open : (facts : List Fact) (lv blocks : ℕ) (mode : Mode) → volumes_in (facts ++ Making lv blocks mode ∷ []) lv ≡ record { standing = Open; shape = Some (record { blocks = blocks; mode = mode }) }
making_open facts lv blocks mode = stands_after facts (Making lv blocks mode) lv ∙ made_open lv blocks mode (volumes_in facts)

-- and so is one that is being removed
pub removing_open : (facts : List Fact) (lv : ℕ) → (volumes_in (facts ++ Removing (Lv lv) ∷ []) lv).standing ≡ Open
removing_open facts lv = ap (λ (v : Volume). v.standing) (stands_after facts (Removing (Lv lv)) lv)
    ∙ ap (λ (t : Bool). (if t then record (volumes_in facts lv) { standing = Open } else volumes_in facts lv).standing) (eq-eqb lv lv refl)

-- its blocks may be zeros
zeros_allowed : (facts : List Fact) (lv blocks n : ℕ) (mode : Mode) → n < blocks → IsValue (known ((facts ++ Making lv blocks mode ∷ []) ++ Cut ∷ []) (Lv lv) n) zero_sector
zeros_allowed facts lv blocks n mode lt =
    let made = λ (t : Bool). let k : Known = (if t then record { values = Some (zero_sector ∷ []); open_writes = []; loose = false; mode = mode } else known facts (Lv lv) n) in k in
    let inside : ((lv == lv) && nat_lt n blocks) ≡ true = grind (arith, nat_tests) in
    let is : known ((facts ++ Making lv blocks mode ∷ []) ++ Cut ∷ []) (Lv lv) n ≡ cut n (made true) =
    known_more (facts ++ Making lv blocks mode ∷ []) Cut (Lv lv) n ∙ ap (cut n) (known_more facts (Making lv blocks mode) (Lv lv) n ∙ ap made inside) in
    subst (λ (k : Known). IsValue k zero_sector) (sym is) (inl refl)

-- ---- with a new volume

module _ (v : NewVolume) (lv : ℕ) (map : List Pp) (d : Descriptor) (lowest : IsLowestFree d lv) (order : IsInOrder d lv) (valid : IsValid d) (size : 1 ≤ d.mib) (some : 1 ≤ v.copies) (whole : length map ≡ v.lps * v.copies) where
  abbrev row : LvRow
  row = row_for v lv map

  abbrev next : Descriptor
  next = with_volume d row

  -- the row of its number is its own
  own_row : (r : LvRow) → IsOneOf next.lvs r → r.number ≡ lv → r ≡ row
  own_row r is its = ⊎_elim (λ same. same) (λ old. absurd (not_there d.lvs r old its lowest.free)) (one_insert d.lvs (lv - 1) row r is)
    where
      not_there : (rows : List LvRow) (r : LvRow) → IsOneOf rows r → r.number ≡ lv → find (λ (x : LvRow). x.number == lv) rows ≡ None → ⊥
      not_there [] r is its none = is
      not_there (x ∷ rows) r is its none = by_test (x.number == lv) refl (not_there rows r) is none
        where
          by_test : (t : Bool) → (x.number == lv) ≡ t → (IsOneOf rows r → r.number ≡ lv → find (λ (y : LvRow). y.number == lv) rows ≡ None → ⊥)
              → IsOneOf (x ∷ rows) r → (if t then Some x else find (λ (y : LvRow). y.number == lv) rows) ≡ None → ⊥
          by_test true test rest is none = absurd cc
          by_test false test rest (inl here) none = false≢true (sym test ∙ eq-eqb x.number lv (ap (λ (y : LvRow). y.number) (sym here) ∙ its))
          by_test false test rest (inr there) none = rest there its none

  module _ (media : Media) (sizes : List ℕ) (facts : List Fact) (status : Status) (there : Disks) (enough : CanWrite d there) (shows : ShowsCommitted (contents_of (image_of sizes media)) d status there)
      (kept : Kept (contents_of (image_of sizes media)) (facts ++ Making lv (volume_blocks d.mib v.lps) v.mode ∷ []))
      (zeros : All (λ (pp : Pp). (disk s : ℕ) → IsSectorOf d.mib pp disk s → media disk s ≡ zero_sector) map) (here : All (λ (pp : Pp). IsTrue (there pp.disk)) map) (fresh : All (λ (pp : Pp). IsFalse (calls_stale status pp)) map) where
    abbrev c : Contents
    c = contents_of (image_of sizes media)

    its_zeros : (lp n : ℕ) (p : Pp) → IsOneOf (copies_of row lp) p → IsBlockOf d.mib row lp n → block_at c d.mib p n ≡ zero_sector
    its_zeros lp n p copy inside =
        let below : n % partition_blocks d.mib < partition_blocks d.mib = omega (arith, size) in
        blocks_are_sectors (image_of sizes media) d.mib n p
        ∙ All-contains (λ (pp : Pp). (disk s : ℕ) → IsSectorOf d.mib pp disk s → media disk s ≡ zero_sector) map p zeros (contains map p (of_map row lp p copy)) p.disk (sector_of d.mib p.pp n)
        (record { disk = refl; low = omega arith; high = omega (arith, below) })

    its_values : (lp n : ℕ) → IsBlockOf d.mib row lp n → IsValue (known ((facts ++ Making lv (volume_blocks d.mib v.lps) v.mode ∷ []) ++ Cut ∷ []) (Lv lv) n) zero_sector
    its_values lp n inside =
        let some : 0 < partition_blocks d.mib = omega (arith, size) in
        let upto = (div-lt_iff_lt-mul {k = partition_blocks d.mib} {x = n} {y = v.lps} some).0 (subst (λ (m : ℕ). m < v.lps) (sym inside.partition) inside.inside) in
        zeros_allowed facts lv (volume_blocks d.mib v.lps) n v.mode (subst (λ (m : ℕ). n < m) (mul_comm v.lps (partition_blocks d.mib)) upto)

    its_fresh : HasFreshCopies status there row
    its_fresh lp lt =
        let e : Pp = record { disk = 0; pp = 0 } in
        let k = lp * v.copies + 0 in
        let next_lp : suc lp * v.copies ≤ v.lps * v.copies = mul-le-mul_right v.copies lt in
        let within : lp * v.copies < length map = omega (arith, next_lp, some, whole) in
        let within_k : k < length map = omega (arith, within) in
        (get_or map k e, its_copy row lp e some within, here k e within_k, fresh k e within_k)

    its_served : (r : LvRow) → IsOneOf next.lvs r → r.number ≡ lv → VolumeIsServed c (facts ++ Making lv (volume_blocks d.mib v.lps) v.mode ∷ []) d r
    its_served r is its = subst (λ (x : LvRow). VolumeIsServed c (facts ++ Making lv (volume_blocks d.mib v.lps) v.mode ∷ []) d x) (sym (own_row r is its))
        (zeros_serve c (facts ++ Making lv (volume_blocks d.mib v.lps) v.mode ∷ []) d row
        (zeros_are_found c d status there (facts ++ Making lv (volume_blocks d.mib v.lps) v.mode ∷ []) row (images_within (image_of sizes media)) enough shows kept its_zeros its_values its_fresh))

    pub new_serves : VolumeServes c (facts ++ Making lv (volume_blocks d.mib v.lps) v.mode ∷ []) d lv next
    new_serves =
        let open_now = making_open facts lv (volume_blocks d.mib v.lps) v.mode in
        record {
          differs = differs_with d v lv map valid lowest order;
          stands = subst (λ (t : Standing). StandsAs d.mib t (volumes_in (facts ++ Making lv (volume_blocks d.mib v.lps) v.mode ∷ []) lv).shape (volume_of next lv)) (sym (ap (λ (x : Volume). x.standing) open_now)) (subst (λ (o : Option LvRow). StandsAs d.mib Open (volumes_in (facts ++ Making lv (volume_blocks d.mib v.lps) v.mode ∷ []) lv).shape o) (sym (named_with d v lv map valid lowest order)) (ap (λ (x : Volume). x.shape) open_now));
          served = its_served;
        }

-- ---- without one

pub old_serves : (d : Descriptor) (lv : ℕ) (c : Contents) (facts : List Fact) → VolumeServes c (facts ++ Removing (Lv lv) ∷ []) d lv (without_volume d lv)
old_serves d lv c facts = record {
  differs = differs_without d lv;
  stands = subst (λ (t : Standing). StandsAs d.mib t (volumes_in (facts ++ Removing (Lv lv) ∷ []) lv).shape (volume_of (without_volume d lv) lv)) (sym (removing_open facts lv)) (subst (λ (o : Option LvRow). StandsAs d.mib Open (volumes_in (facts ++ Removing (Lv lv) ∷ []) lv).shape o) (sym (unnamed_without d lv)) tt);
  served = λ r is its. absurd (none_without d lv r is its);
}
