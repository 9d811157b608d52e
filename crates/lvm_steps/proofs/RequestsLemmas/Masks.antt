-- What holds of disks by themselves, seen on the disks of an image that are in no group.
use Rattle.std.proofs.Common.{◌≡◌, inl, inr, ⊎_elim, ℕ, ◌<◌, ◌≤◌, Bool, true, false, ◌&&◌, List, [], ◌∷◌, ◌++◌, Option, Some, None, refl, sym, ◌∙◌, ap, subst, arith}
use Rattle.std.specs.Prelude.{IsTrue, nat_lt, not, is_some, filter, if◌then◌else◌}
use Rattle.std.specs.List.{AllByRecursion}
use Rattle.std.proofs.lemmas.Bool.Decides.{nat_tests}
use Rattle.lvm_num.specs.declared.place.Pp.{Pp}
use Rattle.lvm_num.specs.declared.descriptor.LvRow.{LvRow}
use Rattle.lvm_num.specs.declared.descriptor.Descriptor.{Descriptor}
use Rattle.lvm_num.specs.declared.status.Status.{Status}
use Rattle.lvm_num.specs.Buffer.{Sector}
use Rattle.lvm_num.specs.Disks.{Disks}
use Rattle.lvm_num.specs.Geometry.{data_start, sector_of}
use Rattle.lvm_num.specs.Record.{Stamped}
use Rattle.lvm_num.specs.Votes.{all_disks}
use Rattle.lvm_kept.specs.passed.Disk.{Image, Flight, written, DiffersBy}
use Rattle.lvm_vol.specs.declared.entry.Vol.TheVariants.{Disk}
use Rattle.lvm_vol.specs.Facts.{Fact, Cut}
use Rattle.lvm_vol.specs.May.{known, May}
use Rattle.lvm_kept.specs.Contents.{Contents, descriptor_on, data_at, contents_of}
use Rattle.lvm_kept.specs.Group.{passes, is_of, has_room, descriptor_among, is_voter, members_in, is_stale_by, fresh_on, block_at}
use Rattle.lvm_kept.specs.Places.{SameRecords}
use Rattle.lvm_kept.specs.Kept.{RawAgrees, Kept}
use Rattle.lvm_kept.specs.Changes.{Unchanged}
use Rattle.lvm_kept.specs.Raw.{RawKept}
use Rattle.lvm_kept.proofs.PlacesLemmas.{descriptor-same, data_writes}
use Rattle.lvm_kept.proofs.ChangesLemmas.Changing.{data_keeps}
use Rattle.lvm_steps.specs.Requests.{IsOfData}
use Rattle.lvm_steps.proofs.RecordLemmas.{first, second}

-- a sector of the data is what stands there
pub data_is : (image : Image) (d s : ℕ) → data_start ≤ s → data_at image d s ≡ image.sector d s
data_is image d s low = ap (λ (t : Bool). if t then [] else image.sector d s) (high s low)
  where
    high : (s : ℕ) → data_start ≤ s → nat_lt s data_start ≡ false
    high s low = grind (arith, nat_tests)

-- ---- masked images

-- of the disks that show a descriptor nothing is seen
abbrev pub masked : Image → Image
masked image = record image { size = λ d. if is_some (descriptor_on image d) then 0 else image.size d }

pub to_masked : (image : Image) (facts : List Fact) → RawAgrees (contents_of image) facts → RawKept (masked image) facts
to_masked image facts raw = record { raw = λ d b there low high. by_shown d b there low (descriptor_on image d) refl high }
  where
    by_shown : (d b : ℕ) → d < image.disks → data_start ≤ b → (o : Option (Stamped Descriptor)) → descriptor_on image d ≡ o → b < (if is_some o then 0 else image.size d) → May (known (facts ++ Cut ∷ []) (Disk d) b) (image.sector d b)
    by_shown d b there low None none high = subst (May (known (facts ++ Cut ∷ []) (Disk d) b)) (data_is image d b low) (raw d b there none low high)
    by_shown d b there low (Some r) some high = absurd (omega (arith, high))

pub of_masked : (image : Image) (facts : List Fact) → RawKept (masked image) facts → RawAgrees (contents_of image) facts
of_masked image facts kept d b there none low high = subst (May (known (facts ++ Cut ∷ []) (Disk d) b)) (sym (data_is image d b low))
    (kept.raw d b there low (subst (λ (o : Option (Stamped Descriptor)). b < (if is_some o then 0 else image.size d)) (sym none) high))

-- ---- a change of data on disks that show no descriptor

filtered : {X : Type 0} (P : X → Type 0) (q : X → Bool) → ((x : X) → q x ≡ true → P x) → (xs : List X) → AllByRecursion P (filter q xs)
filtered P q each [] = tt
filtered P q each (x ∷ xs) = by_test (q x) refl (filtered P q each xs)
  where
    by_test : (t : Bool) → q x ≡ t → AllByRecursion P (filter q xs) → AllByRecursion P (if t then x ∷ filter q xs else filter q xs)
    by_test true is rest = (each x is, rest)
    by_test false is rest = rest

shows_some : (id : ℕ) (o : Option (Stamped Descriptor)) → o ≡ None → passes (is_of id) o ≡ true → ⊥
shows_some id None none passed = absurd cc
shows_some id (Some r) none passed = absurd cc

-- voters and members show a descriptor
voter_shows : (c : Contents) (disks : Disks) (id d : ℕ) → c.descriptor d ≡ None → IsTrue (is_voter c disks id d) → ⊥
unfolding is_voter
voter_shows c disks id d none is = shows_some id (c.descriptor d) none
    (second (disks d) (passes (is_of id) (c.descriptor d)) (first (disks d && passes (is_of id) (c.descriptor d)) (passes (has_room c d) (descriptor_among c disks id)) is))

member_shows : (c : Contents) (disks : Disks) (id : ℕ) (g : Descriptor) (d : ℕ) → c.descriptor d ≡ None → IsTrue (members_in c disks id g d) → ⊥
member_shows c disks id g d none is = shows_some id (c.descriptor d) none (second (disks d) (passes (is_of id) (c.descriptor d)) (first (disks d && passes (is_of id) (c.descriptor d)) (has_room c d g) is))

module _ (before image : Image) (f : Flight) (of_data : IsOfData f) (only : (d s : ℕ) (x : Sector) → written f d s ≡ Some x → descriptor_on before d ≡ None) (differs : DiffersBy f before image) where
  pub same_records : SameRecords before image
  same_records = record {
    same = differs.same;
    sectors = λ d s lt. ⊎_elim (λ same. same) (λ put. absurd (let e : None ≡ Some (image.sector d s) = sym (of_data d s lt) ∙ put in cc)) (differs.each d s);
  }

  pub descriptors_same : (d : ℕ) → descriptor_on image d ≡ descriptor_on before d
  descriptors_same = descriptor-same before image same_records

  pub masked_differs : DiffersBy f (masked before) (masked image)
  masked_differs = record {
    same = record {
      disks = differs.same.disks;
      size = λ d. let shown : descriptor_on image d ≡ descriptor_on before d = descriptors_same d in let size : image.size d ≡ before.size d = differs.same.size d in λ t. if is_some (shown t) then 0 else size t;
    };
    each = differs.each;
  }

  same_data : (d s : ℕ) → (descriptor_on before d ≡ None → ⊥) → data_at image d s ≡ data_at before d s
  same_data d s some = let same : image.sector d s ≡ before.sector d s = ⊎_elim (λ is. is) (λ put. absurd (some (only d s (image.sector d s) put))) (differs.each d s) in λ t. if nat_lt s data_start then [] else same t

  -- copies on disks that show a descriptor are as they were
  unchanged : (disks : Disks) → ((d : ℕ) → descriptor_on before d ≡ None → IsTrue (disks d) → ⊥) → (status : Option (Stamped Status)) (row : LvRow) (lp mib b : ℕ) → Unchanged (contents_of before) (contents_of image) mib (fresh_on disks status row lp) b
  unchanged disks shows status row lp mib b = filtered (λ (p : Pp). block_at (contents_of image) mib p b ≡ block_at (contents_of before) mib p b) (λ (p : Pp). disks p.disk && not (is_stale_by status p))
      (λ p is. same_data p.disk (sector_of mib p.pp b) (λ none. shows p.disk none (first (disks p.disk) (not (is_stale_by status p)) is))) _

  pub data_by : (facts : List Fact) → RawAgrees (contents_of image) facts → Kept (contents_of before) facts → Kept (contents_of image) facts
  data_by facts raw kept = data_keeps (contents_of before) (contents_of image) facts
      (record {
        rest = data_writes before image same_records;
        copies = λ disks id group found row lp b is inside. inl (unchanged (is_voter (contents_of before) disks id) (λ d none is. voter_shows (contents_of before) disks id d none is) _ row lp group.mib b);
        across = λ b id h k reads found row lp n is inside. inl (unchanged (members_in (contents_of before) all_disks id k) (λ d none is. member_shows (contents_of before) all_disks id k d none is) _ row lp k.mib n);
        raw = λ d b there none low high. inr (raw d b (subst (λ (n : ℕ). d < n) (sym differs.same.disks) there) (descriptors_same d ∙ none) low (subst (λ (n : ℕ). b < n) (sym (differs.same.size d)) high));
      })
      kept
