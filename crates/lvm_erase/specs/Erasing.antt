-- The zeros by which a disk loses its descriptor, and the order in which they come.
use Rattle.std.specs.Prelude.{◌≡◌, ◌⊎◌, ℕ, ◌<◌, Bool, if◌then◌else◌, None, IfSome}
use Rattle.lvm_num.specs.declared.record.Kind.TheVariants as kind
use Rattle.lvm_num.specs.Buffer.{zero_sector}
use Rattle.lvm_num.specs.DescriptorBytes.{descriptor_of}
use Rattle.lvm_num.specs.Record.{slot_start}
use Rattle.lvm_rec.specs.Slots.{slot_for}
use Rattle.lvm_disk.specs.Device.{Image, Device, image_of, MayLeave}
use Rattle.lvm_kept.specs.Contents.{Contents, contents_of, descriptor_on}
use Rattle.lvm_kept.specs.Plans.{Plan, ChangesBy}

abbrev pub slot_number : Bool → ℕ
slot_number second = if second then 1 else 0

-- ---- what is written

-- zeros come to the first sector of this slot of descriptors of the disk
abbrev pub ZeroesSlot : ℕ → ℕ → Plan
ZeroesSlot disk slot d s value = (d ≡ disk) × (s ≡ slot_start kind.Descriptor slot) × (value ≡ zero_sector)

-- or of either
abbrev pub ZeroesSlots : ℕ → Plan
ZeroesSlots disk d s value = (slot : ℕ) × (slot < 2) × ZeroesSlot disk slot d s value

-- ---- what stands

-- the slot begins with zeros, so no record stands there, where the media is told
abbrev pub StartsWithZeros : ℕ → ℕ → Device → Type 0
StartsWithZeros disk slot device = IfSome device.media (λ media. media disk (slot_start kind.Descriptor slot) ≡ zero_sector)

-- both do: the disk shows no descriptor
abbrev pub IsErased : ℕ → Device → Type 0
IsErased disk device = (slot : ℕ) → slot < 2 → StartsWithZeros disk slot device

-- The new image differs by zeros in the older slot alone; or that begins with zeros, and the image differs by zeros in the two slots.
abbrev pub ErasesTo : ℕ → ℕ → Image → Image → Type 0
ErasesTo disk older old new = ChangesBy (ZeroesSlot disk older) old new ⊎ (ChangesBy (ZeroesSlots disk) old new × (new.sector disk (slot_start kind.Descriptor older) ≡ zero_sector))

-- so does each crash image from the media at first, where that is told
abbrev pub ErasesInOrder : ℕ → ℕ → Device → Device → Type 0
ErasesInOrder disk older old now = IfSome old.media (λ media. (image : Image) → MayLeave now image → ErasesTo disk older (image_of old.sizes media) image)

-- ---- what the disk shows

-- Where it is the slot that doesn't hold the newest descriptor, the disk goes on showing that one, or shows none.
abbrev pub ShowsNewestOrNone : Type 0
ShowsNewestOrNone = (disk older : ℕ) (old new : Image) → older ≡ slot_for descriptor_of kind.Descriptor (old.sector disk) → ErasesTo disk older old new
    → (descriptor_on new disk ≡ descriptor_on old disk) ⊎ (descriptor_on new disk ≡ None)

-- One disk shows the descriptor that it showed or none, and nothing else changes.
pub record ErasesOne (disk : ℕ) (old new : Contents) : Type 0 where
  pub own : (d : ℕ) → (new.descriptor d ≡ old.descriptor d) ⊎ ((d ≡ disk) × (new.descriptor d ≡ None))
  pub rest : new ≡ record old { descriptor = new.descriptor }

-- So it is at each moment.
abbrev pub ErasingShowsOne : Type 0
ErasingShowsOne = (disk older : ℕ) (old new : Image) → older ≡ slot_for descriptor_of kind.Descriptor (old.sector disk) → ErasesTo disk older old new → ErasesOne disk (contents_of old) (contents_of new)

-- Where both slots begin with zeros it shows none.
abbrev pub ErasedShowsNone : Type 0
ErasedShowsNone = (disk : ℕ) (image : Image) → ((slot : ℕ) → slot < 2 → image.sector disk (slot_start kind.Descriptor slot) ≡ zero_sector) → descriptor_on image disk ≡ None
