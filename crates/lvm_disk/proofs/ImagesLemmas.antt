-- Crash images have whole sectors.
use Rattle.std.proofs.Common.{◌≡◌, ⊎_elim, ◌+◌, ◌-◌, ◌&&◌, ◌==◌, [], ◌∷◌, ℕ, List, Bool, true, false, cond, Option, Some, None, nat_le, nat_lt, slice_get, IsSomeAnd, IfSome, refl, sym, subst}
use Rattle.std.specs.List.{AllByRecursion}
use Rattle.lvm_num.specs.Buffer.{Sector, IsSector}
use Rattle.lvm_disk.specs.Device.{Media, Image, Flight, image_of, written, IsInFlight, IsCrashImage, AreSectors}
use Rattle.lvm_disk.specs.Images.{IsWholeBuffer, WholeLaw}

from_buffer : (write a b c : Bool) (o : Option Sector) (x : Sector) → cond (((write && a) && b) && c) o None ≡ Some x → (write ≡ true) × (o ≡ Some x)
from_buffer true true true true o x is = (refl, is)
from_buffer true true true false o x is = absurd (cc)
from_buffer true true false c o x is = absurd (cc)
from_buffer true false b c o x is = absurd (cc)
from_buffer false a b c o x is = absurd (cc)

brought : (f : Flight) (d s : ℕ) (x : Sector) → (f.write ≡ true → IsWholeBuffer f.buf) → written f d s ≡ Some x → IsSector x
brought f d s x whole is =
    let from = from_buffer f.write (f.disk == d) (nat_le f.first s) (nat_lt s (f.first + f.count)) (slice_get f.buf.sectors (s - f.first)) x is in
    whole from.0 (s - f.first) x from.1

in_flight : (flights : List Flight) (d s : ℕ) (x : Sector) → AllByRecursion (λ f. f.write ≡ true → IsWholeBuffer f.buf) flights → IsInFlight flights d s x → IsSector x
in_flight [] d s x whole none = absurd none
in_flight (f ∷ flights) d s x whole flying = ⊎_elim (λ here. brought f d s x whole.0 here) (λ there. in_flight flights d s x whole.1 there) flying

of_media :
    (sizes : List ℕ) (media : Option Media) (flights : List Flight) (image : Image) → IfSome media (λ m. AreSectors sizes m)
    → AllByRecursion (λ f. f.write ≡ true → IsWholeBuffer f.buf) flights → IsSomeAnd media (λ m. IsCrashImage (image_of sizes m) flights image) → AreSectors sizes image.sector
of_media sizes None flights image sectors whole may = absurd may
of_media sizes (Some m) flights image sectors whole may = λ d s below. ⊎_elim
    (λ same. subst IsSector (sym same) (sectors d s below))
    (λ flying. in_flight flights d s (image.sector d s) whole flying)
    (may.each d s)

pub whole_images : WholeLaw
whole_images device image sectors whole may = of_media device.sizes device.media device.flights image sectors whole may
