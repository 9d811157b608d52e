-- What a cut by a word leaves is some crash image.
use Rattle.std.proofs.Common.{◌≡◌, ◌⊎◌, inl, inr, ⊎_elim, ◌+◌, ◌-◌, [], ◌∷◌, ℕ, List, Bool, true, false, cond, Option, Some, None, unwrap_or, refl, sym, ◌∙◌, ap, subst}
use Rattle.lvm_num.specs.Buffer.{Buffer, Sector}
use Rattle.lvm_disk.specs.Device.{Media, Flight, Device, Orders, written, IsInFlight, IsTorn}
use Rattle.lvm_disk.specs.Counts.{Counts}
use Rattle.lvm_disk.specs.Steps.{PutsSome}
use Rattle.lvm_memory.specs.Media.{picks, written_by, cut_by}
use Rattle.lvm_memory.specs.Flights.{writes}

either : (b : Bool) (o : Option Sector) (x : Sector) → (cond b (unwrap_or o x) x ≡ x) ⊎ (o ≡ Some (cond b (unwrap_or o x) x))
either false o x = inl refl
either true None x = inl refl
either true (Some y) x = inr refl

-- some of a flight's sectors are written by a word
pub written_in_part : (word k : ℕ) (f : Flight) (m : Media) → PutsSome f m (written_by word k f m)
written_in_part word k f m d s = either (picks word (k + (s - f.first))) (written f d s) (m d s)

pub torn_by_word : (word k : ℕ) (flights : List Flight) (m : Media) → IsTorn m flights (cut_by word k flights m)
torn_by_word word k [] m d s = inl refl
torn_by_word word k (f ∷ flights) m d s = ⊎_elim
    (λ same. ⊎_elim
    (λ kept. inl (same ∙ kept))
    (λ put. inr (inl (put ∙ ap Some (sym same))))
    (written_in_part word k f m d s))
    (λ flying. inr (inr flying))
    (torn_by_word word (k + writes f) flights (written_by word k f m) d s)

-- what equals the media after a cut is torn like it
pub torn_like : (word : ℕ) (flights : List Flight) (m n : Media) → ((d s : ℕ) → n d s ≡ cut_by word 0 flights m d s) → IsTorn m flights n
torn_like word flights m n is d s = subst (λ (x : Sector). (x ≡ m d s) ⊎ IsInFlight flights d s x) (sym (is d s)) (torn_by_word word 0 flights m d s)

-- a device that was cut, part by part
pub darkened :
    (d : Device) (sizes : List ℕ) (media : Media) (flights : List Flight) (freed gave : List Buffer) (counts : Counts) (orders : Orders) → sizes ≡ d.sizes → flights ≡ [] → freed ≡ gave
    → counts ≡ record d.counts { cuts = counts.cuts } → orders ≡ d.orders
    → record d { sizes = sizes; media = Some media; flights = flights; freed = freed; power = false; counts = counts; orders = orders }
    ≡ record d { media = Some media; flights = []; freed = gave; power = false; counts = record d.counts { cuts = counts.cuts } }
darkened d sizes media flights freed gave counts orders same none frees counted ordered = λ i. record d { sizes = same i; media = Some media; flights = none i; freed = frees i; power = false; counts = counted i; orders = ordered i }
