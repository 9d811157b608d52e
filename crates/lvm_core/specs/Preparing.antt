-- A descriptor with the bytes of its record.
use Rattle.std.specs.Prelude.{◌≡◌, ℕ, List}
use Rattle.lvm_num.specs.declared.descriptor.Descriptor.{Descriptor}
use Rattle.lvm_num.specs.Descriptor.{IsValid}
use Rattle.lvm_num.specs.DescriptorBytes.{descriptor_bytes}

-- the bytes are those of this valid descriptor
pub record IsPrepared (d : Descriptor) (encoded : List ℕ) : Type 0 where
  pub valid : IsValid d
  pub bytes : encoded ≡ descriptor_bytes d
