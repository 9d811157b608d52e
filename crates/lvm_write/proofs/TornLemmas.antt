-- In which sectors the parts of a beginning are written.
use Rattle.std.proofs.Common.{◌≡◌, inl, inr, ℕ, ◌+◌, ◌<◌, ◌≤◌, Bool, true, false, List, [], ◌∷◌, length, IsTrue, arith}
use Rattle.std.specs.Prelude.{if◌then◌else◌}
use Rattle.lvm_num.specs.declared.record.Kind.TheVariants as kind
use Rattle.lvm_num.specs.Buffer.{Sector}
use Rattle.lvm_num.specs.Record.{longest_content, record_sectors, slot_start}
use Rattle.lvm_num.specs.Geometry.{data_start}
use Rattle.lvm_kept.specs.Torn.{IsOfRecord, IsOtherOrRecord}
use Rattle.lvm_rec.specs.Homes.{second_slots}
use Rattle.lvm_write.specs.Beginning.{Beginning, Part, TheDescriptor, TheStatus, TheNotes, describes, states, brought, IsOfParts}

descriptor_place : (second : Bool) (len k s : ℕ) → len ≤ 571388 → k < record_sectors len → s ≡ slot_start kind.Descriptor (if second then 1 else 0) + k → (512 ≤ s) × (s < 2816)
descriptor_place true len k s fits less place = (omega (arith, place), omega (arith, place, fits, less))
descriptor_place false len k s fits less place = (omega (arith, place), omega (arith, place, fits, less))

status_place : (second : Bool) (len k s : ℕ) → len ≤ 31740 → k < record_sectors len → s ≡ slot_start kind.Status (if second then 1 else 0) + k → (64 ≤ s) × (s < 192)
status_place true len k s fits less place = (omega (arith, place), omega (arith, place, fits, less))
status_place false len k s fits less place = (omega (arith, place), omega (arith, place, fits, less))

module _ (b : Beginning) (fits_descriptor : length b.descriptor.content ≤ longest_content kind.Descriptor) (fits_status : length b.status.content ≤ longest_content kind.Status) where
  pub of_descriptor : (d s : ℕ) (value : Sector) → IsOfRecord (describes b) d s value → (512 ≤ s) × (s < 2816)
  of_descriptor d s value is = descriptor_place (second_slots kind.Descriptor b.homes d) (length b.descriptor.content) is.its.part s fits_descriptor is.its.inside is.its.place

  pub of_status : (d s : ℕ) (value : Sector) → IsOfRecord (states b) d s value → (64 ≤ s) × (s < 192)
  of_status d s value is = status_place (second_slots kind.Status b.homes d) (length b.status.content) is.its.part s fits_status is.its.inside is.its.place

  -- a part is of the descriptor, or outside its slots
  beside_descriptor : (p : Part) (d s : ℕ) (value : Sector) → brought b p d s value → IsOtherOrRecord (describes b) d s value
  beside_descriptor TheDescriptor d s value is = inr (inr is)
  beside_descriptor TheStatus d s value is = inl (let low = (of_status d s value is).1 in omega (arith, low))
  beside_descriptor TheNotes d s value is = inl (let place = is.place in omega (arith, place))

  -- or of the status, or outside its slots
  beside_status : (p : Part) (d s : ℕ) (value : Sector) → brought b p d s value → IsOtherOrRecord (states b) d s value
  beside_status TheDescriptor d s value is = inr (inl (let high = (of_descriptor d s value is).0 in omega (arith, high)))
  beside_status TheStatus d s value is = inr (inr is)
  beside_status TheNotes d s value is = inl (let place = is.place in omega (arith, place))

  low_part : (p : Part) (d s : ℕ) (value : Sector) → brought b p d s value → s < data_start
  low_part TheDescriptor d s value is = let high = (of_descriptor d s value is).1 in omega (arith, high)
  low_part TheStatus d s value is = let high = (of_status d s value is).1 in omega (arith, high)
  low_part TheNotes d s value is = let place = is.place in omega (arith, place)

  pub beside_descriptors : (parts : List Part) (d s : ℕ) (value : Sector) → IsOfParts b parts d s value → IsOtherOrRecord (describes b) d s value
  beside_descriptors [] d s value is = absurd is
  beside_descriptors (p ∷ parts) d s value (inl here) = beside_descriptor p d s value here
  beside_descriptors (p ∷ parts) d s value (inr there) = beside_descriptors parts d s value there

  pub beside_statuses : (parts : List Part) (d s : ℕ) (value : Sector) → IsOfParts b parts d s value → IsOtherOrRecord (states b) d s value
  beside_statuses [] d s value is = absurd is
  beside_statuses (p ∷ parts) d s value (inl here) = beside_status p d s value here
  beside_statuses (p ∷ parts) d s value (inr there) = beside_statuses parts d s value there

  pub below_data : (parts : List Part) (d s : ℕ) (value : Sector) → IsOfParts b parts d s value → s < data_start
  below_data [] d s value is = absurd is
  below_data (p ∷ parts) d s value (inl here) = low_part p d s value here
  below_data (p ∷ parts) d s value (inr there) = below_data parts d s value there

-- it is on a target
part_on_target : (b : Beginning) (p : Part) (d s : ℕ) (value : Sector) → brought b p d s value → IsTrue (b.targets d)
part_on_target b TheDescriptor d s value is = is.target
part_on_target b TheStatus d s value is = is.target
part_on_target b TheNotes d s value is = is.target

pub on_target : (b : Beginning) (parts : List Part) (d s : ℕ) (value : Sector) → IsOfParts b parts d s value → IsTrue (b.targets d)
on_target b [] d s value is = absurd is
on_target b (p ∷ parts) d s value (inl here) = part_on_target b p d s value here
on_target b (p ∷ parts) d s value (inr there) = on_target b parts d s value there
