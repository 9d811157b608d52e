-- Reading descriptors and writing them.
use Rattle.std.specs.Prelude.{◌≡◌, ℕ, ◌<◌, List, slice_index, Ok}
use Rattle.lvm_num.specs.declared.descriptor.Descriptor.{Descriptor}
use Rattle.lvm_num.specs.Descriptor.{IsValid}
use Rattle.lvm_num.specs.DescriptorBytes.{descriptor_bytes, descriptor_of, IsDescriptor}

-- the spelling of a valid descriptor is read as it
abbrev pub SpelledIsRead : Type 0
SpelledIsRead = (d : Descriptor) → IsValid d → descriptor_of (descriptor_bytes d) ≡ Ok d

-- bytes that are read as a descriptor are the spelling of it, and it is valid
abbrev pub ReadIsSpelled : Type 0
ReadIsSpelled = (bytes : List ℕ) (d : Descriptor) → ((i : ℕ) → slice_index bytes i < 256) → descriptor_of bytes ≡ Ok d → IsDescriptor bytes d
