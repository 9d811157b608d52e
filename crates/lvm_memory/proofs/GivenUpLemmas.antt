-- Flights that are given up, one after another.
use Rattle.std.proofs.Common.{◌≡◌, ◌+◌, ◌*◌, ◌≤◌, ◌<◌, [], ◌∷◌, ◌++◌, ℕ, suc, List, Bool, true, false, cond, slice_get, slice_index_or, length, map, refl, sym, ◌∙◌, ap, subst, arith, append_assoc, length-append}
use Rattle.std.specs.List.{remove}
use Rattle.lvm_num.specs.Buffer.{Buffer, Sector}
use Rattle.lvm_disk.specs.Device.{Media, Flight, AreSectors}
use Rattle.lvm_memory.specs.Media.{media_of, sizes_of, written_by, cut_by}
use Rattle.lvm_memory.specs.Flights.{Lies, AllLie, writes, flight_of, flights_of}
use Rattle.lvm_memory.specs.declared.flying.Flying.{Flying}

-- what was cut so far, and what is still to be cut, makes the whole
pub record CutSoFar
    (word : ℕ) (disks0 disks : List (List Sector)) (flights0 flights : List Flight) (freed0 freed : List Buffer) (counted room0 room flights_room0 flights_room : ℕ) : Type 0 where
  pub cut : (d s : ℕ) → cut_by word counted flights (media_of disks) d s ≡ cut_by word 0 flights0 (media_of disks0) d s
  pub gave : freed ++ map (λ f. f.buf) flights ≡ freed0 ++ map (λ f. f.buf) flights0
  pub lie : AllLie (sizes_of disks0) flights
  pub sizes : sizes_of disks ≡ sizes_of disks0
  pub sectors : AreSectors (sizes_of disks) (media_of disks)
  pub few : counted + 256 * length flights ≤ 262144
  pub fits : length freed + length flights ≤ room
  pub room_left : room0 ≤ room
  pub flights_left : flights_room0 ≤ flights_room

-- the first of some flights was taken out
pub headed : (l : List Flying) (x : Flying) (rest : List Flying) → 0 < length l → x ≡ slice_index_or l 0 x → rest ≡ remove l 0 → flights_of l ≡ flight_of x ∷ flights_of rest
headed [] x rest some is left = absurd (omega arith)
headed (y ∷ l) x rest some is left = (λ i. flight_of (sym is i) ∷ flights_of l) ∙ ap (λ (m : List Flying). flight_of x ∷ flights_of m) (sym left)

pub length-flights : (l : List Flying) → length (flights_of l) ≡ length l
length-flights [] = refl
length-flights (f ∷ l) = ap suc (length-flights l)

few_written : (write : Bool) (count : ℕ) → count ≤ 256 → cond write count 0 ≤ 256
few_written true count few = few
few_written false count few = omega arith

module _
    (word : ℕ) (disks0 disks : List (List Sector)) (flights0 flights : List Flight) (freed0 freed : List Buffer) (counted room0 room flights_room0 flights_room : ℕ)
    (so_far : CutSoFar word disks0 disks flights0 flights freed0 freed counted room0 room flights_room0 flights_room) (f : Flight) (rest : List Flight) (next : flights ≡ f ∷ rest) where
  pub lies_next : Lies (sizes_of disks) f
  lies_next = subst (λ (sizes : List ℕ). Lies sizes f) (sym so_far.sizes) (so_far.lie 0 f (ap (λ (l : List Flight). slice_get l 0) next))

  pub few_more : counted + writes f ≤ 262144
  few_more = omega (arith, few_written f.write f.count lies_next.most, so_far.few, ap length next)

  pub one_cut :
      (disks1 : List (List Sector)) (freed1 : List Buffer) (counted1 room1 flights_room1 : ℕ) → sizes_of disks1 ≡ sizes_of disks
      → ((d s : ℕ) → media_of disks1 d s ≡ written_by word counted f (media_of disks) d s) → AreSectors (sizes_of disks1) (media_of disks1) → freed1 ≡ freed ++ f.buf ∷ [] → counted1 ≡ counted + writes f
      → room ≤ room1 → flights_room ≤ flights_room1 → CutSoFar word disks0 disks1 flights0 rest freed0 freed1 counted1 room0 room1 flights_room0 flights_room1
  one_cut disks1 freed1 counted1 room1 flights_room1 same torn sectors gave counts more more_flights = record {
    cut = λ d s.
        let all : media_of disks1 ≡ written_by word counted f (media_of disks) = λ i e t. torn e t i in
        ap (λ (n : ℕ). cut_by word n rest (media_of disks1) d s) counts ∙ ap (λ (m : Media). cut_by word (counted + writes f) rest m d s) all
        ∙ ap (λ (l : List Flight). cut_by word counted l (media_of disks) d s) (sym next) ∙ so_far.cut d s;
    gave =
        ap (λ (l : List Buffer). l ++ map (λ g. g.buf) rest) gave ∙ append_assoc freed (f.buf ∷ []) (map (λ g. g.buf) rest)
        ∙ ap (λ (l : List Flight). freed ++ map (λ g. g.buf) l) (sym next) ∙ so_far.gave;
    lie = λ i g is. so_far.lie (suc i) g (ap (λ (l : List Flight). slice_get l (suc i)) next ∙ is);
    sizes = same ∙ so_far.sizes;
    sectors = sectors;
    few = omega (arith, few_written f.write f.count lies_next.most, so_far.few, ap length next, counts);
    fits = omega (arith, so_far.fits, ap length next, ap length gave, length-append freed (f.buf ∷ []), more);
    room_left = omega (arith, so_far.room_left, more);
    flights_left = omega (arith, so_far.flights_left, more_flights);
  }
