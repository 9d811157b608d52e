-- Still disks of zeros.
use Rattle.std.proofs.Common.{◌≡◌, ◌<◌, ⊎_elim, ℕ, List, [], Option, Some, IsSome, refl, sym, ◌∙◌, subst}
use Rattle.lvm_kept.specs.passed.Disk.{Media, Image, Flight, Device, image_of, IsCrashImage, MayLeave}
use Rattle.lvm_kept.specs.Changes.{IsBlank}
use Rattle.lvm_kept.proofs.ChangesLemmas.Blank.{blank_is_kept, no_descriptor}
use Rattle.lvm_steps.specs.Moments.{BlankIsEarlier}
use Rattle.lvm_steps.specs.Requests.{BlankIsInNoGroup}
use Rattle.lvm_steps.proofs.RequestsLemmas.Writing.{still_shows_none}

-- what may be left of them is zeros
left_blank : (device : Device) (media : Media) → device.media ≡ Some media → device.flights ≡ [] → IsBlank (image_of device.sizes media) → (image : Image) → MayLeave device image → IsBlank image
left_blank device media told still blank image may d s there inside =
    let crash : IsCrashImage (image_of device.sizes media) [] image = subst (λ (l : List Flight). IsCrashImage (image_of device.sizes media) l image) still (subst (λ (o : Option Media). MayLeave (record device { media = o }) image) told may) in
    ⊎_elim (λ is. is) (λ is. absurd is) (crash.each d s)
    ∙ blank d s (subst (λ (n : ℕ). d < n) crash.same.disks there) (subst (λ (n : ℕ). s < n) (crash.same.size d) inside)

pub blank_is_earlier : BlankIsEarlier
blank_is_earlier run device media told still blank = record {
  told = subst (λ (o : Option Media). IsSome o) (sym told) refl;
  legal = tt;
  own = refl;
  moments = tt;
  kept = λ image may. blank_is_kept image (left_blank device media told still blank image may);
}

pub blank_is_in_no_group : BlankIsInNoGroup
blank_is_in_no_group device media d told still blank = still_shows_none device media d told still (no_descriptor (image_of device.sizes media) blank d)
