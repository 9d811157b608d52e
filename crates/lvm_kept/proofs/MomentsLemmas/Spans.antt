-- Moments of a run with one entry more, and what a still shelf may leave.
use Rattle.std.proofs.Common.{◌≡◌, inl, ⊎_elim, ◌+◌, ◌∷◌, ◌++◌, [], ℕ, List, Option, Some, None, cond, count_by, refl, sym, subst, arith, append_assoc}
use Rattle.std.proofs.lemmas.List.Sums.{sum_by-append}
use Rattle.lvm_disk.specs.passed.Num.{Sector}
use Rattle.lvm_disk.specs.Device.{Media, Image, Flight, Device, SameDisks, image_of, MayLeave, IsCrashImage}
use Rattle.lvm_disk.specs.Steps.{BothTold}
use Rattle.lvm_vol.specs.Facts.{Fact}
use Rattle.lvm_vol.specs.Legal.{begins_in}
use Rattle.lvm_kept.specs.Moments.{Moment}

abbrev pub at_moment : Device → List Fact → Moment
at_moment device facts = record { device = device; facts = facts }

-- what holds of the entries with one more, holds where it is put behind the run's own
pub regroup : (P : List Fact → Type 0) (past facts : List Fact) (f : Fact) → P ((past ++ facts) ++ f ∷ []) → P (past ++ (facts ++ f ∷ []))
regroup P past facts f p = subst P (append_assoc past facts (f ∷ [])) p

-- the run's next number is its next in the joined history too
pub next_joined : (run : ℕ) (past facts : List Fact) → count_by (begins_in run) past ≡ 0 → count_by (begins_in run) facts + 1 ≡ count_by (begins_in run) (past ++ facts) + 1
next_joined run past facts none =
    let e : count_by (begins_in run) (past ++ facts) ≡ count_by (begins_in run) past + count_by (begins_in run) facts = sum_by-append (λ g. cond (begins_in run g) 1 0) past facts in omega (arith, e, none)

-- ---- what a still shelf may leave

-- a still shelf may leave its media alone
still_image : (sizes : List ℕ) (media : Media) (image : Image) → IsCrashImage (image_of sizes media) [] image → (d s : ℕ) → image.sector d s ≡ media d s
still_image sizes media image crash d s = ⊎_elim (λ same. same) (λ none. absurd none) (crash.each d s)

-- the media themselves are a crash image
media_may : (sizes : List ℕ) (media : Media) (flights : List Flight) → IsCrashImage (image_of sizes media) flights (image_of sizes media)
media_may sizes media flights = record { same = record { disks = refl; size = λ d. refl }; each = λ d s. inl refl }

-- What a shelf at rest may leave comes from what it might have left before, by what happened to each sector.
pub record Before (old : Device) (Q : ℕ → ℕ → Sector → Sector → Type 0) (image : Image) : Type 0 where
  pub before : Image
  pub may : MayLeave old before
  pub same : SameDisks before image
  pub sectors : (d s : ℕ) → Q d s (before.sector d s) (image.sector d s)

pub from_before :
    (old new : Device) (Q : ℕ → ℕ → Sector → Sector → Type 0) → BothTold old.media new.media (λ m n. (d s : ℕ) → Q d s (m d s) (n d s))
    → new.flights ≡ [] → new.sizes ≡ old.sizes → (image : Image) → MayLeave new image → Before old Q image
from_before old new Q told still sizes image may = go old.media new.media refl refl told (subst (λ (l : List Flight). MayLeave (record new { flights = l }) image) still may)
  where
    go : (a b : Option Media) → old.media ≡ a → new.media ≡ b → BothTold a b (λ m n. (d s : ℕ) → Q d s (m d s) (n d s)) → MayLeave (record new { flights = [] }) image → Before old Q image
    go None None was is told may = absurd (subst (λ (o : Option Media). MayLeave (record new { flights = []; media = o }) image) is may)
    go None (Some n) was is told may = absurd told
    go (Some m) None was is told may = absurd told
    go (Some m) (Some n) was is told may =
        let crash : IsCrashImage (image_of new.sizes n) [] image = subst (λ (o : Option Media). MayLeave (record new { flights = []; media = o }) image) is may in
        record {
          before = image_of old.sizes m;
          may = subst (λ (o : Option Media). MayLeave (record old { media = o }) (image_of old.sizes m)) (sym was) (media_may old.sizes m old.flights);
          same = subst (λ (l : List ℕ). SameDisks (image_of l m) image) sizes (record { disks = crash.same.disks; size = crash.same.size });
          sectors = λ d s. subst (λ (x : Sector). Q d s (m d s) x) (sym (still_image new.sizes n image crash d s)) (told d s);
        }
