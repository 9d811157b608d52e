-- Disks of zeros hold no record.
use Rattle.std.proofs.Common.{◌≡◌, ℕ, zero, suc, ◌<◌, ◌≤◌, Bool, true, false, List, ◌++◌, Option, None, Some, Result, refl, ap, ◌∙◌, arith}
use Rattle.std.specs.Prelude.{if◌then◌else◌, option_and_then, nat_le, nat_lt}
use Rattle.std.proofs.lemmas.Bool.{ltb-true, leb-true, and_parts}
use Rattle.lvm_disk.specs.passed.Num.{Descriptor, Kind, zero_sector, Disks, data_start, descriptor_of, status_of, Stamped, joined, record_in, newer, newest_below}
use Rattle.lvm_disk.specs.passed.NumRecordKind as kind
use Rattle.lvm_rec.specs.Slots.{read_under, newest_on}
use Rattle.lvm_disk.specs.Device.{Image}
use Rattle.lvm_kept.specs.Contents.{has_records, newest_at, descriptor_on, status_on, contents_of}
use Rattle.lvm_kept.specs.Group.{if_passes, is_of, descriptor_among, Finds}
use Rattle.lvm_kept.specs.Changes.{IsBlank, BlankIsKept}

no_record : (kind : Kind) (rest : List ℕ) → record_in kind (zero_sector ++ rest) ≡ None
unfolding record_in
no_record kind rest = refl

-- n sectors are the first and the others
begins : (f : ℕ → List ℕ) (i n : ℕ) → joined f i (suc n) ≡ f i ++ joined f (suc i) n
unfolding joined
begins f i n = refl

nothing_held : (kind : Kind) (sectors : ℕ → List ℕ) (first n : ℕ) → sectors first ≡ zero_sector → record_in kind (joined sectors first (suc n)) ≡ None
nothing_held kind sectors first n zeros =
    ap (record_in kind) (begins sectors first n ∙ ap (λ (x : List ℕ). x ++ joined sectors (suc first) n) zeros) ∙ no_record kind (joined sectors (suc first) n)

none_newest : {X : Type 0} (content_of : List ℕ → Result X ℕ) (kind : Kind) (sectors : ℕ → List ℕ) → ((s : ℕ) → s < data_start → sectors s ≡ zero_sector) → newest_on content_of kind sectors ≡ None
none_newest content_of kind.Descriptor sectors zeros =
    let e : record_in kind.Descriptor (joined sectors 512 1152) ≡ None = nothing_held kind.Descriptor sectors 512 1151 (zeros 512 (omega arith)) in
    let f : record_in kind.Descriptor (joined sectors 1664 1152) ≡ None = nothing_held kind.Descriptor sectors 1664 1151 (zeros 1664 (omega arith)) in
    λ t. newer (option_and_then (λ r. read_under r.stamp (content_of r.content)) (e t)) (option_and_then (λ r. read_under r.stamp (content_of r.content)) (f t))
none_newest content_of kind.Status sectors zeros =
    let e : record_in kind.Status (joined sectors 64 64) ≡ None = nothing_held kind.Status sectors 64 63 (zeros 64 (omega arith)) in
    let f : record_in kind.Status (joined sectors 128 64) ≡ None = nothing_held kind.Status sectors 128 63 (zeros 128 (omega arith)) in
    λ t. newer (option_and_then (λ r. read_under r.stamp (content_of r.content)) (e t)) (option_and_then (λ r. read_under r.stamp (content_of r.content)) (f t))

module _ (image : Image) (blank : IsBlank image) where
  none_at : {X : Type 0} (content_of : List ℕ → Result X ℕ) (kind : Kind) (d : ℕ) → newest_at content_of kind image d ≡ None
  none_at content_of kind d = by_room (has_records image d) refl
    where
      by_room : (room : Bool) → has_records image d ≡ room → (if room then newest_on content_of kind (image.sector d) else None) ≡ None
      by_room false is = refl
      by_room true is =
          let both = and_parts (nat_lt d image.disks) (nat_le data_start (image.size d)) is in
          let there : d < image.disks = ltb-true d image.disks both.0 in
          let large : data_start ≤ image.size d = leb-true data_start (image.size d) both.1 in
          none_newest content_of kind (image.sector d) (λ s lt. blank d s there (omega (arith, lt, large)))

  pub no_descriptor : (d : ℕ) → descriptor_on image d ≡ None
  unfolding descriptor_on
  no_descriptor d = none_at descriptor_of kind.Descriptor d

  no_status : (d : ℕ) → status_on image d ≡ None
  unfolding status_on
  no_status d = none_at status_of kind.Status d

none_below : {X : Type 0} (at : ℕ → Option (Stamped X)) (n : ℕ) → ((d : ℕ) → at d ≡ None) → newest_below at n ≡ None
unfolding newest_below
none_below at zero none = refl
none_below at (suc n) none = λ t. newer (none_below at n none t) (none n t)

not_some : {X : Type 0} (o : Option X) (x : X) → o ≡ None → o ≡ Some x → ⊥
not_some o x none some = absurd cc

no_group : (image : Image) → IsBlank image → (disks : Disks) (id : ℕ) → descriptor_among (contents_of image) disks id ≡ None
unfolding descriptor_among
no_group image blank disks id = none_below _ image.disks (λ d. by_test (disks d) (descriptor_on image d) (no_descriptor image blank d))
  where
    by_test : (in_set : Bool) (o : Option (Stamped Descriptor)) → o ≡ None → (if in_set then if_passes (is_of id) o else None) ≡ None
    by_test true o none = ap (if_passes (is_of id)) none
    by_test false o none = refl

finds_nothing : (image : Image) → IsBlank image → (disks : Disks) (id : ℕ) (group : Descriptor) → Finds (contents_of image) disks id group → ⊥
finds_nothing image blank disks id group f = not_some (descriptor_among (contents_of image) disks id) f.newest (no_group image blank disks id) f.found

pub blank_is_kept : BlankIsKept
blank_is_kept image blank = record {
  agrees = record {
    volumes = λ disks id group f lv. absurd (finds_nothing image blank disks id group f);
    status = λ disks id group f. absurd (finds_nothing image blank disks id group f);
    copies = λ disks id group f. absurd (finds_nothing image blank disks id group f);
    raw = λ d b inside none low high. tt;
    available = λ lv settled. absurd cc;
  };
  lasting = record {
    common = λ a b id g h r. absurd (finds_nothing image blank r.found.0 id g r.found.1);
    status = λ b id h k r. absurd (finds_nothing image blank r.found.0 id h r.found.1);
    across = λ b id h k r. absurd (finds_nothing image blank r.found.0 id h r.found.1);
    some = λ b id h k r. absurd (finds_nothing image blank r.found.0 id h r.found.1);
    size = λ id g h is. absurd (finds_nothing image blank is.0 id g is.1);
    partitions = λ id g h is. absurd (finds_nothing image blank is.0 id g is.1);
    descriptors = λ d e r s is. absurd (not_some (descriptor_on image d) r (no_descriptor image blank d) is);
    statuses = λ d e r s is. absurd (not_some (status_on image d) r (no_status image blank d) is);
  };
}
