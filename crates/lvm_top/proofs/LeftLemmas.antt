-- A crash image of what a loss of power has left is one of what was there before it.
use Rattle.std.proofs.Common.{◌≡◌, ◌⊎◌, ⊎_elim, ℕ, List, [], Option, Some, IsSome, IsSomeAnd, IfSome, inl, refl, sym, subst}
use Rattle.lvm_num.specs.Buffer.{Sector}
use Rattle.lvm_disk.specs.Device.{Media, Image, Flight, Device, image_of, IsInFlight, IsTorn, IsCrashImage, MayLeave}
use Rattle.lvm_vol.specs.Facts.{joined}
use Rattle.lvm_steps.proofs.MomentsLemmas.Spans.{runs_follow}
use Rattle.lvm_steps.specs.Behind.{StampsBefore, beginning_at}
use Rattle.lvm_num.specs.declared.descriptor.Descriptor.{Descriptor}
use Rattle.lvm_core.specs.Leaves.{MayBeFound}
use Rattle.lvm_top.specs.Left.{IsLeftOf, LeftIsEarlier, NextAfterCut, LeftIsBehind}
use Rattle.lvm_top.specs.Runs.{LeftFindsNoMore}

-- of disks of these sizes
before : (sizes : List ℕ) (was media : Media) (flights : List Flight) (image : Image) → IsTorn was flights media → IsCrashImage (image_of sizes media) [] image → IsCrashImage (image_of sizes was) flights image
before sizes was media flights image left crash = record {
  same = record { disks = crash.same.disks; size = crash.same.size };
  each = λ d s. ⊎_elim (λ (is : image.sector d s ≡ media d s). one d s (image.sector d s) is) (λ none. absurd none) (crash.each d s);
}
  where
    one : (d s : ℕ) (x : Sector) → x ≡ media d s → (x ≡ was d s) ⊎ IsInFlight flights d s x
    one d s x is = subst (λ (y : Sector). (y ≡ was d s) ⊎ IsInFlight flights d s y) (sym is) (left d s)

-- of the shelves
back : (old new : Device) → IsLeftOf old new → (image : Image) → MayLeave new image → MayLeave old image
back old new l image may =
    let crash : IsCrashImage (image_of new.sizes l.media) new.flights image = subst (λ (o : Option Media). IsSomeAnd o (λ m. IsCrashImage (image_of new.sizes m) new.flights image)) l.told may in
    let still : IsCrashImage (image_of new.sizes l.media) [] image = subst (λ (fs : List Flight). IsCrashImage (image_of new.sizes l.media) fs image) l.idle crash in
    let sized : IsCrashImage (image_of old.sizes l.media) [] image = subst (λ (sizes : List ℕ). IsCrashImage (image_of sizes l.media) [] image) l.sizes still in
    subst (λ (o : Option Media). IsSomeAnd o (λ m. IsCrashImage (image_of old.sizes m) old.flights image)) (sym l.told_before) (before old.sizes l.was l.media old.flights image l.left sized)

pub left_is_earlier : LeftIsEarlier
left_is_earlier run old new past earlier l = record {
  told = subst (λ (o : Option Media). IsSome o) (sym l.told) refl;
  legal = earlier.legal;
  own = earlier.own;
  moments = earlier.moments;
  kept = λ image may. earlier.kept image (back old new l image may);
}

pub next_after_cut : NextAfterCut
next_after_cut run next entry exit later past facts earlier upheld left own after = left_is_earlier next exit later (joined past facts) (runs_follow run next entry exit past facts earlier upheld own after) left

-- what stands is a crash image of the second
stands : (new : Device) (media : Media) → new.media ≡ Some media → MayLeave new (image_of new.sizes media)
stands new media told = subst (λ (o : Option Media). IsSomeAnd o (λ m. IsCrashImage (image_of new.sizes m) new.flights (image_of new.sizes media))) (sym told)
    (record { same = record { disks = refl; size = λ d. refl }; each = λ d s. inl refl })

pub left_is_behind : LeftIsBehind
left_is_behind moment old new leaves l = subst (λ (o : Option Media). IfSome o (λ media. StampsBefore (beginning_at moment) (image_of new.sizes media))) (sym l.told)
    (leaves (image_of new.sizes l.media) (back old new l (image_of new.sizes l.media) (stands new l.media l.told)))

-- what is found of what has been left might be found before
found_back : (old new : Device) → IsLeftOf old new → (id : ℕ) (k : Descriptor) → MayBeFound new id k → MayBeFound old id k
found_back old new left id k it = (it.0, back old new left it.0 it.1, it.2)

pub left_finds_no_more : LeftFindsNoMore
left_finds_no_more old new left one v w g h found also = one v w g h (found_back old new left v g found) (found_back old new left w h also)
