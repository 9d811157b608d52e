-- The descriptor that a disk shows.
use Rattle.std.proofs.Common.{◌≡◌, ◌<◌, ◌≤◌, ℕ, List, Bool, true, Option, Some, None, IfSome, length, slice_index_or, refl, sym, ◌∙◌, ap, arith}
use Rattle.std.specs.Prelude.{◌&&◌, nat_le, nat_lt, if◌then◌else◌, option_map}
use Rattle.std.proofs.lemmas.Bool.Decides.{nat_tests}
use Rattle.lvm_num.specs.declared.record.Kind.TheVariants as kind
use Rattle.lvm_num.specs.declared.record.Stamp.{Stamp}
use Rattle.lvm_num.specs.declared.descriptor.Descriptor.{Descriptor}
use Rattle.lvm_num.specs.DescriptorBytes.{descriptor_of}
use Rattle.lvm_transfer.specs.passed.Rec.{newest_on, Latest}
use Rattle.lvm_transfer.specs.passed.Disk.{Media, image_of}
use Rattle.lvm_transfer.specs.passed.Kept.{has_records, descriptor_on}
use Rattle.lvm_quorum.specs.Reading.{under, descriptor_shown, IsLatestOn}

pub is_there : (d n size : ℕ) → d < n → 4096 ≤ size → (nat_lt d n && nat_le 4096 size) ≡ true
is_there d n size there large = grind (arith, nat_tests)

index_has : (sizes : List ℕ) (m : Media) (d : ℕ) → d < length sizes → 4096 ≤ slice_index_or sizes d 0 → has_records (image_of sizes m) d ≡ true
index_has sizes m d there large = is_there d (length sizes) (slice_index_or sizes d 0) there large

pub where_it_has : {X : Type 0} (b : Bool) (x y : X) → b ≡ true → x ≡ (if b then x else y)
where_it_has b x y is = ap (λ (c : Bool). if c then x else y) (sym is)

value_under : {X : Type 0} (value : Option X) (stamp : Stamp) → value ≡ option_map (λ r. r.value) (under value stamp)
value_under None stamp = refl
value_under (Some x) stamp = refl

-- the newest on the disk is what it shows
pub newest_shows : (o : Option Media) (sizes : List ℕ) (d : ℕ) (latest : Latest Descriptor) → d < length sizes → 4096 ≤ slice_index_or sizes d 0
    → IfSome o (λ m. IsLatestOn descriptor_of kind.Descriptor (m d) latest) → IfSome o (λ m. latest.value ≡ descriptor_shown (image_of sizes m) d)
unfolding descriptor_on
newest_shows None sizes d latest there large is = tt
newest_shows (Some m) sizes d latest there large is =
    value_under latest.value latest.stamp ∙ ap (λ o. option_map (λ r. r.value) o) (is.newest ∙ where_it_has (has_records (image_of sizes m) d) (newest_on descriptor_of kind.Descriptor (m d)) None (index_has sizes m d there large))
