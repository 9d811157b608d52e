-- Crash images before and after a step.
use Rattle.std.proofs.Common.{◌≡◌, ◌⊎◌, inl, inr, ⊎_elim, ℕ, List, [], ◌∷◌, ◌++◌, Option, Some, None, unwrap_or, IsSomeAnd, refl, sym, ◌∙◌, ap, subst}
use Rattle.lvm_num.specs.Buffer.{Buffer, Sector}
use Rattle.lvm_disk.specs.Device.{Media, Image, Flight, Device, image_of, written, IsInFlight, IsTorn, IsCrashImage, MayLeave}
use Rattle.lvm_disk.specs.Steps.{BothTold, Cuts, Starts, Removes, Puts, PutsSome, EndsDone, EndsFailed}
use Rattle.lvm_disk.specs.Images.{LeavesNoMore, DiffersBy}

in_more : (before after : List Flight) (f : Flight) (d s : ℕ) (x : Sector) → IsInFlight (before ++ after) d s x → IsInFlight (before ++ f ∷ after) d s x
in_more [] after f d s x is = inr is
in_more (g ∷ before) after f d s x (inl here) = inl here
in_more (g ∷ before) after f d s x (inr there) = inr (in_more before after f d s x there)

in_this : (before after : List Flight) (f : Flight) (d s : ℕ) (x : Sector) → written f d s ≡ Some x → IsInFlight (before ++ f ∷ after) d s x
in_this [] after f d s x is = inl is
in_this (g ∷ before) after f d s x is = inr (in_this before after f d s x is)

-- what the flights with one more would write there, the others would or this one
pub in_old_or_new : (flights : List Flight) (f : Flight) (d s : ℕ) (x : Sector) → IsInFlight (flights ++ f ∷ []) d s x → IsInFlight flights d s x ⊎ (written f d s ≡ Some x)
in_old_or_new [] f d s x (inl here) = inr here
in_old_or_new [] f d s x (inr none) = absurd none
in_old_or_new (g ∷ flights) f d s x (inl here) = inl (inl here)
in_old_or_new (g ∷ flights) f d s x (inr there) = ⊎_elim (λ old. inl (inr old)) (λ new. inr new) (in_old_or_new flights f d s x there)

unwrapped : (o : Option Sector) (d x : Sector) → x ≡ unwrap_or o d → (x ≡ d) ⊎ (o ≡ Some x)
unwrapped None d x is = inl is
unwrapped (Some y) d x is = inr (ap Some (sym is))

-- a write that is there whole is there in part
pub all_is_some : (f : Flight) (m n : Media) → Puts f m n → PutsSome f m n
all_is_some f m n puts d s = unwrapped (written f d s) (m d s) (n d s) (puts d s)

-- from what the new media may leave to what the old one may
lead_back :
    (R : Media → Media → Type 0) (sizes : List ℕ) (old new : Option Media) (flights left : List Flight) (image : Image) → BothTold old new R
    → ((m n : Media) → R m n → IsTorn n left image.sector → IsTorn m flights image.sector)
    → IsSomeAnd new (λ n. IsCrashImage (image_of sizes n) left image) → IsSomeAnd old (λ m. IsCrashImage (image_of sizes m) flights image)
lead_back R sizes None None flights left image told back may = absurd may
lead_back R sizes (Some m) (Some n) flights left image told back may = record { same = record { disks = may.same.disks; size = may.same.size }; each = back m n told may.each }
lead_back R sizes None (Some n) flights left image told back may = absurd told
lead_back R sizes (Some m) None flights left image told back may = absurd may

-- some of an ended flight's sectors are there, and the other flights are out
ended : (f : Flight) (old new : List Flight) (m n left : Media) → Removes f old new → PutsSome f m n → IsTorn n new left → IsTorn m old left
ended f old new m n left removes puts torn d s =
    let more : IsInFlight (removes.before ++ f ∷ removes.after) d s (left d s) → (left d s ≡ m d s) ⊎ IsInFlight old d s (left d s) =
    λ is. inr (subst (λ (l : List Flight). IsInFlight l d s (left d s)) (sym removes.was) is) in
    ⊎_elim
    (λ same. ⊎_elim (λ kept. inl (same ∙ kept)) (λ put. more (in_this removes.before removes.after f d s (left d s) (put ∙ ap Some (sym same)))) (puts d s))
    (λ flying. more (in_more removes.before removes.after f d s (left d s) (subst (λ (l : List Flight). IsInFlight l d s (left d s)) removes.is flying)))
    (torn d s)

pub done_leaves : (old new : Device) (ticket : ℕ) (buf : Buffer) → EndsDone old new ticket buf → LeavesNoMore old new
done_leaves old new ticket buf ends image may = lead_back (Puts ends.flight) old.sizes old.media new.media old.flights new.flights image ends.media
    (λ m n puts. ended ends.flight old.flights new.flights m n image.sector ends.flights (all_is_some ends.flight m n puts))
    (subst (λ (d : Device). MayLeave d image) ends.new_is may)

pub failed_leaves : (old new : Device) (ticket : ℕ) (buf : Buffer) → EndsFailed old new ticket buf → LeavesNoMore old new
failed_leaves old new ticket buf ends image may = lead_back (PutsSome ends.flight) old.sizes old.media new.media old.flights new.flights image ends.media
    (λ m n puts. ended ends.flight old.flights new.flights m n image.sector ends.flights puts)
    (subst (λ (d : Device). MayLeave d image) ends.new_is may)

-- a torn media, of which no more is torn
torn_again : (flights : List Flight) (m n left : Media) → IsTorn m flights n → IsTorn n [] left → IsTorn m flights left
torn_again flights m n left torn again d s = ⊎_elim
    (λ same. subst (λ (x : Sector). (x ≡ m d s) ⊎ IsInFlight flights d s x) (sym same) (torn d s))
    (λ none. absurd none)
    (again d s)

pub cut_leaves : (old new : Device) → Cuts old new → LeavesNoMore old new
cut_leaves old new cuts image may = lead_back (λ m n. IsTorn m old.flights n) old.sizes old.media new.media old.flights [] image cuts.media
    (λ m n. torn_again old.flights m n image.sector)
    (subst (λ (d : Device). MayLeave d image) cuts.new_is may)

-- what an image was before a flight's sectors were put on it
rest_of :
    (m image : Image) (flights : List Flight) (f : Flight) → IsCrashImage m (flights ++ f ∷ []) image → (before : Image) × IsCrashImage m flights before × DiffersBy f before image
rest_of m image flights f may = (
  record { disks = image.disks; size = image.size; sector = λ d s. (pick d s).0 },
  record { same = record { disks = may.same.disks; size = may.same.size }; each = λ d s. (pick d s).1.0 },
  record { same = record { disks = refl; size = λ d. refl }; each = λ d s. (pick d s).1.1 },
)
  where
    pick : (d s : ℕ) → (x : Sector) × (((x ≡ m.sector d s) ⊎ IsInFlight flights d s x) × ((image.sector d s ≡ x) ⊎ (written f d s ≡ Some (image.sector d s))))
    pick d s = ⊎_elim
        (λ same. (image.sector d s, (inl same, inl refl)))
        (λ flying. ⊎_elim
        (λ old. (image.sector d s, (inr old, inl refl)))
        (λ new. (m.sector d s, (inl refl, inr new)))
        (in_old_or_new flights f d s (image.sector d s) flying))
        (may.each d s)

started :
    (sizes : List ℕ) (media : Option Media) (image : Image) (flights : List Flight) (f : Flight) → IsSomeAnd media (λ m. IsCrashImage (image_of sizes m) (flights ++ f ∷ []) image)
    → (before : Image) × IsSomeAnd media (λ m. IsCrashImage (image_of sizes m) flights before) × DiffersBy f before image
started sizes None image flights f may = absurd may
started sizes (Some m) image flights f may = rest_of (image_of sizes m) image flights f may

pub start_leaves : (old new : Device) (f : Flight) → Starts old new f → (image : Image) → MayLeave new image → (before : Image) × MayLeave old before × DiffersBy f before image
start_leaves old new f starts image may = started old.sizes old.media image old.flights f (subst (λ (d : Device). MayLeave d image) starts.new_is may)
