-- The row of a disk, as its sectors say it.
use Rattle.std.proofs.Common.{◌≡◌, ◌⊎◌, inl, inr, ◌<◌, ◌≤◌, ◌++◌, [], ◌∷◌, ℕ, zero, suc, List, Bool, true, false, Some, None, length, slice_get, slice_index_or, refl, sym, ◌∙◌, ap, subst, arith}
use Rattle.std.specs.Prelude.{◌&&◌, nat_le, nat_lt, if◌then◌else◌, option_map}
use Rattle.lvm_quorum.specs.passed.Transfer.{noted_of, held, newest_on, slot_of, Image, Media, Device, image_of, has_records, descriptor_on, status_on, note_on}
use Rattle.std.proofs.lemmas.Bool.Decides.{nat_tests}
use Rattle.lvm_num.specs.declared.record.Kind.TheVariants as kind
use Rattle.lvm_num.specs.DescriptorBytes.{descriptor_of}
use Rattle.lvm_num.specs.Note.{note_in}
use Rattle.lvm_num.specs.StatusBytes.{status_of}
use Rattle.lvm_quorum.specs.declared.area.RecordArea.{RecordArea}
use Rattle.lvm_quorum.specs.declared.row.SurveyRow.{SurveyRow}
use Rattle.lvm_quorum.specs.Reading.{home_of, under, IsArea}
use Rattle.lvm_quorum.specs.Surveyed.{home_on, IsEmpty, IsRead}
use Rattle.lvm_quorum.specs.Surveying.{IsRowOfArea, IsSmall}
use Rattle.lvm_quorum.proofs.passed.Transfer.{or_got}
use Rattle.lvm_quorum.proofs.ShownDescriptorLemmas.{is_there, where_it_has}

-- ---- whether a disk has records

is_not : (d n size : ℕ) → size < 4096 → (nat_lt d n && nat_le 4096 size) ≡ false
is_not d n size small = grind (arith, nat_tests)

pub large_has : (sizes : List ℕ) (m : Media) (d size : ℕ) → slice_get sizes d ≡ Some size → d < length sizes → 4096 ≤ size → has_records (image_of sizes m) d ≡ true
large_has sizes m d size got there large = let same : slice_index_or sizes d 0 ≡ size = or_got sizes d 0 size got in is_there d (length sizes) (slice_index_or sizes d 0) there (omega arith)

pub small_has_none : (sizes : List ℕ) (m : Media) (d size : ℕ) → slice_get sizes d ≡ Some size → size < 4096 → has_records (image_of sizes m) d ≡ false
small_has_none sizes m d size got small = let same : slice_index_or sizes d 0 ≡ size = or_got sizes d 0 size got in is_not d (length sizes) (slice_index_or sizes d 0) (omega arith)

pair_of : (a b x y : ℕ) → a ≡ x → b ≡ y → a ∷ b ∷ [] ≡ x ∷ y ∷ []
pair_of a b x y p q = λ t. p t ∷ q t ∷ []

where_it_has_none : {X : Type 0} (b : Bool) (x y : X) → b ≡ false → y ≡ (if b then x else y)
where_it_has_none b x y is = ap (λ (c : Bool). if c then x else y) (sym is)

-- ---- one that has none

pub empty_is_read : (image : Image) (d : ℕ) (row : SurveyRow) → has_records image d ≡ false → IsEmpty row → IsRead image d row
unfolding descriptor_on status_on note_on
empty_is_read image d row none empty = record {
  descriptor = ap (λ o. under o row.descriptor_stamp) empty.descriptor ∙ where_it_has_none (has_records image d) (newest_on descriptor_of kind.Descriptor (image.sector d)) None none;
  status = ap (λ o. under o row.status_stamp) empty.status ∙ where_it_has_none (has_records image d) (newest_on status_of kind.Status (image.sector d)) None none;
  note = ap (λ o. option_map noted_of o) empty.note ∙ where_it_has_none (has_records image d) (note_in (image.sector d 8)) None none;
  homes = empty.homes ∙ pair_of 2 2 (home_on descriptor_of kind.Descriptor image d) (home_on status_of kind.Status image d)
      (where_it_has_none (has_records image d) (home_of (held descriptor_of kind.Descriptor (slot_of kind.Descriptor 0 (image.sector d))) (held descriptor_of kind.Descriptor (slot_of kind.Descriptor 1 (image.sector d)))) 2 none)
      (where_it_has_none (has_records image d) (home_of (held status_of kind.Status (slot_of kind.Status 0 (image.sector d))) (held status_of kind.Status (slot_of kind.Status 1 (image.sector d)))) 2 none);
}

-- ---- one that was read

pub area_is_read : (image : Image) (d : ℕ) (area : RecordArea) (row : SurveyRow) → has_records image d ≡ true → IsArea (image.sector d) area → IsRowOfArea area row → IsRead image d row
unfolding descriptor_on status_on note_on
area_is_read image d area row has is says =
    let sectors = image.sector d in
    record {
      descriptor = says.descriptor ∙ is.descriptor.newest ∙ where_it_has (has_records image d) (newest_on descriptor_of kind.Descriptor sectors) None has;
      status = says.status ∙ is.status.newest ∙ where_it_has (has_records image d) (newest_on status_of kind.Status sectors) None has;
      note = says.note ∙ ap note_in is.note ∙ where_it_has (has_records image d) (note_in (sectors 8)) None has;
      homes = says.homes ∙ pair_of area.descriptor.home area.status.home (home_on descriptor_of kind.Descriptor image d) (home_on status_of kind.Status image d)
          (is.descriptor.home
          ∙ where_it_has (has_records image d) (home_of (held descriptor_of kind.Descriptor (slot_of kind.Descriptor 0 sectors)) (held descriptor_of kind.Descriptor (slot_of kind.Descriptor 1 sectors))) 2 has)
          (is.status.home
          ∙ where_it_has (has_records image d) (home_of (held status_of kind.Status (slot_of kind.Status 0 sectors)) (held status_of kind.Status (slot_of kind.Status 1 sectors))) 2 has);
    }

-- ---- places in lists

-- what a list with one more has at a place
pub got_one_more : {X : Type 0} (xs : List X) (last : X) (i : ℕ) (x : X) → slice_get (xs ++ last ∷ []) i ≡ Some x → (slice_get xs i ≡ Some x) ⊎ ((i ≡ length xs) × (last ≡ x))
got_one_more [] last zero x is = inr (refl, cc)
got_one_more [] last (suc i) x is = absurd (cc (is))
got_one_more (y ∷ xs) last zero x is = inl is
got_one_more (y ∷ xs) last (suc i) x is = elim (got_one_more xs last i x is) [ inl before ↦ inl before | inr (here, same) ↦ inr (ap suc here, same) ]

-- a disk that isn't small is another than a small one
pub not_small : (old : Device) (disk size d : ℕ) → slice_get old.sizes disk ≡ Some size → 4096 ≤ size → (d ≡ disk → IsSmall old d) → d ≡ disk → ⊥
not_small old disk size d got large small same =
    let here : IsSmall old disk = subst (λ k. IsSmall old k) same (small same) in
    let long : slice_index_or old.sizes disk 0 ≡ size = or_got old.sizes disk 0 size got in
    omega (arith, here)
