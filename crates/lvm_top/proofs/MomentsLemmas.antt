-- Disks of zeros: nothing was told before a run over them, and no stamp stands there.
use Rattle.std.proofs.Common.{ℕ, [], Option, IfSome, sym, subst}
use Rattle.lvm_disk.specs.Device.{Media, Device, image_of}
use Rattle.lvm_kept.specs.Changes.{IsBlank}
use Rattle.lvm_steps.specs.Moments.{IsEarlier}
use Rattle.lvm_steps.proofs.MomentsLemmas.Zeros.{blank_is_earlier}
use Rattle.lvm_steps.specs.Behind.{StampsAreEarlier}
use Rattle.lvm_steps.proofs.LawsLemmas.Records.{blank_is_behind}
use Rattle.lvm_top.specs.Blank.{IsToldBlank}

pub told_earlier : (run : ℕ) (device : Device) → IsToldBlank device → IsEarlier run device []
told_earlier run device it = blank_is_earlier run device it.media it.told it.still it.blank

pub told_behind : (run : ℕ) (device : Device) → IsToldBlank device → StampsAreEarlier run device
told_behind run device it = blank_is_behind run device (subst (λ (m : Option Media). IfSome m (λ media. IsBlank (image_of device.sizes media))) (sym it.told) it.blank)
