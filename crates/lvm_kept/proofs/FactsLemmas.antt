-- What the images that a shelf may leave show of a read of a raw disk.
use Rattle.std.proofs.Common.{◌≡◌, ◌+◌, ◌-◌, ◌<◌, ◌≤◌, ◌∷◌, [], ℕ, zero, suc, List, Option, Some, None, false, length, take, slice_get, slice_index_or, IfSome, refl, sym, ◌∙◌, ap, arith}
use Rattle.lvm_disk.specs.passed.Num.{Buffer, Sector}
use Rattle.lvm_disk.specs.Device.{Media, Image, Flight, Device, MayLeave}
use Rattle.lvm_disk.specs.Steps.{BothTold, Puts, ReadsRange, IsRange}
use Rattle.lvm_vol.specs.Facts.{block_of}
use Rattle.lvm_kept.specs.Raw.{HasNothingOut}
use Rattle.lvm_kept.proofs.MomentsLemmas.Spans.{from_before}

-- the block that a buffer has at its place
got_here : (n i : ℕ) (xs : List Sector) (x : Sector) → i < n → slice_get xs i ≡ Some x → slice_index_or (take n xs) i [] ≡ x
got_here zero i xs x within is = absurd (omega (arith, within))
got_here (suc n) i [] x within is = absurd (cc (is))
got_here (suc n) zero (y ∷ xs) x within is = cc
got_here (suc n) (suc i) (y ∷ xs) x within is = got_here n i xs x (omega (arith, within)) is

-- how large the images of a shelf are
may_disks : (device : Device) (image : Image) → MayLeave device image → (image.disks ≡ length device.sizes) × ((d : ℕ) → image.size d ≡ slice_index_or device.sizes d 0)
may_disks device image may = go device.media may
  where
    go : (m : Option Media) → MayLeave (record device { media = m }) image → (image.disks ≡ length device.sizes) × ((d : ℕ) → image.size d ≡ slice_index_or device.sizes d 0)
    go None may = absurd may
    go (Some m) may = (may.same.disks, may.same.size)

-- a read has ended well: its buffer has what stood on the disk, and the shelf is still
module _ (disk at count ticket : ℕ) (sent : Buffer) (old new : Device) (still : HasNothingOut old new) (puts : BothTold old.media new.media (Puts (record { ticket = ticket; disk = disk; first = at; count = count; write = false; buf = sent }))) (buf : Buffer)
    (reads : IfSome old.media (λ m. ReadsRange m (record { ticket = ticket; disk = disk; first = at; count = count; write = false; buf = sent }) buf)) (range : IsRange old disk at count) where
  abbrev f : Flight
  f = record { ticket = ticket; disk = disk; first = at; count = count; write = false; buf = sent }

  abbrev got : List Sector
  got = take count buf.sectors

  -- what each sector was, and that the buffer has it
  abbrev Same : ℕ → ℕ → Sector → Sector → Type 0
  Same d s x y = (y ≡ x) × ((i : ℕ) → i < count → d ≡ disk → s ≡ at + i → slice_get buf.sectors i ≡ Some x)

  told : BothTold old.media new.media (λ m n. (d s : ℕ) → Same d s (m d s) (n d s))
  told = go old.media new.media puts reads
    where
      go : (a b : Option Media) → BothTold a b (Puts f) → IfSome a (λ m. ReadsRange m f buf) → BothTold a b (λ m n. (d s : ℕ) → Same d s (m d s) (n d s))
      go None None puts reads = tt
      go None (Some n) puts reads = puts
      go (Some m) None puts reads = puts
      go (Some m) (Some n) puts reads = λ d s. (puts d s, λ i within here there. reads i within ∙ ap (λ (e : ℕ). Some (m e (at + i))) (sym here) ∙ ap (λ (k : ℕ). Some (m d k)) (sym there))

  -- each image has what the buffer has
  pub got_is : (image : Image) → MayLeave new image → (b : ℕ) → at ≤ b → b < at + count → block_of got at b ≡ image.sector disk b
  got_is image may b from to =
      let old_image = from_before old new Same told still.flights still.sizes image may in
      let is = old_image.sectors disk b in
      got_here count (b - at) buf.sectors (old_image.before.sector disk b) (omega (arith, from, to)) (is.1 (b - at) (omega (arith, from, to)) refl (omega (arith, from))) ∙ sym is.0

  pub within : (image : Image) → MayLeave new image → (disk < image.disks) × (at + count ≤ image.size disk)
  within image may =
      let sizes = may_disks new image may in
      let there : disk < length old.sizes = range.there in
      let size : image.size disk ≡ slice_index_or old.sizes disk 0 = sizes.1 disk ∙ ap (λ (l : List ℕ). slice_index_or l disk 0) still.sizes in
      let disks : image.disks ≡ length old.sizes = sizes.0 ∙ ap length still.sizes in
      (omega (arith, there, disks), let fits = in_range old.sizes disk there range.within in omega (arith, fits, size))
    where
      in_range : (sizes : List ℕ) (d : ℕ) → d < length sizes → ((size : ℕ) → slice_get sizes d ≡ Some size → at + count ≤ size) → at + count ≤ slice_index_or sizes d 0
      in_range [] d there h = absurd (omega (arith, there))
      in_range (size ∷ sizes) zero there h = h size refl
      in_range (size ∷ sizes) (suc d) there h = in_range sizes d (omega (arith, there)) h
