-- What a loss of power leaves, and what stands on a shelf.
use Rattle.std.proofs.Common.{◌≡◌, inl, inr, ⊎_elim, ℕ, ◌<◌, List, [], length, Option, Some, None, refl, sym, ap, subst}
use Rattle.std.specs.Prelude.{IfSome, IsSomeAnd, slice_index_or}
use Rattle.lvm_num.specs.Buffer.{Sector}
use Rattle.lvm_num.specs.Geometry.{data_start}
use Rattle.lvm_kept.specs.passed.Disk.{Device, Media, Image, Flight, SameDisks, image_of, written, IsInFlight, IsCrashImage, LeavesNoMore, BothTold}
use Rattle.lvm_kept.specs.Plans.{ChangesBy}
use Rattle.lvm_kept.specs.Raw.{OnlyAdds}
use Rattle.lvm_steps.specs.Behind.{StampsBefore, beginning_at, StampsAreEarlier}
use Rattle.lvm_steps.specs.Laws.{IsOtherOrEarlier, CrashKeepsBefore, StillKeepsBefore, UnderWayKeepsBefore, LeftIsBefore, UnwrittenStaysBefore, NoMoreStaysBefore, DataStaysBefore, TransferStaysBefore, EarlierStandsBefore, UntouchedStaysBehind, EarlierStaysBehind}
use Rattle.lvm_steps.proofs.LawsLemmas.Writes.{data_keeps_before, earlier_keep_before}

-- ---- crash images

pub crash_keeps_before : CrashKeepsBefore
crash_keeps_before stamp device flying before image may = by_media device.media before may
  where
    by_media : (o : Option Media) → IfSome o (λ m. StampsBefore stamp (image_of device.sizes m)) → IsSomeAnd o (λ m. IsCrashImage (image_of device.sizes m) device.flights image) → StampsBefore stamp image
    by_media None all crash = absurd crash
    by_media (Some media) all crash = earlier_keep_before stamp (image_of device.sizes media) image
        (record { same = crash.same; each = λ d s. ⊎_elim (λ same. inl same) (λ is. inr (flying d s (image.sector d s) is)) (crash.each d s) })
        all

pub still_keeps_before : StillKeepsBefore
still_keeps_before stamp device none = crash_keeps_before stamp device (λ d s value is. absurd (subst (λ (l : List Flight). IsInFlight l d s value) none is))

pub under_way_keeps_before : UnderWayKeepsBefore
under_way_keeps_before stamp old device way before image may = earlier_keep_before stamp old image (way.images image may) before

pub left_is_before : LeftIsBefore
left_is_before stamp device leaves = by_media device.media leaves
  where
    by_media : (o : Option Media) → ((image : Image) → IsSomeAnd o (λ m. IsCrashImage (image_of device.sizes m) device.flights image) → StampsBefore stamp image) → IfSome o (λ m. StampsBefore stamp (image_of device.sizes m))
    by_media None all = tt
    by_media (Some media) all = all (image_of device.sizes media) (record { same = record { disks = refl; size = λ d. refl }; each = λ d s. inl refl })

-- ---- shelves

pub unwritten_stays_before : UnwrittenStaysBefore
unwritten_stays_before old new sizes media stamp before =
    subst (λ (o : Option Media). IfSome o (λ m. StampsBefore stamp (image_of new.sizes m))) (sym media)
    (subst (λ (l : List ℕ). IfSome old.media (λ m. StampsBefore stamp (image_of l m))) (sym sizes) before)

pub no_more_stays_before : NoMoreStaysBefore
no_more_stays_before old new none fewer stamp before = left_is_before stamp new (λ image may. still_keeps_before stamp old none before image (fewer image may))

-- no data is brought below it
none_brought : (o : Option Sector) (value : Sector) → o ≡ None → o ≡ Some value → ⊥
none_brought o value none some = absurd cc

pub transfer_stays_before : TransferStaysBefore
transfer_stays_before f old new none of_data adds stamp before = left_is_before stamp new (λ image may.
    let from = adds image may in
    data_keeps_before stamp from.0 image
    (record {
      same = from.2.same;
      sectors = λ d s there low. ⊎_elim (λ same. same) (λ brought. absurd (none_brought (written f d s) (image.sector d s) (of_data d s low) brought)) (from.2.each d s);
    })
    (still_keeps_before stamp old none before from.0 from.1))

-- what holds of what stood on the media, and of what stands there
both_told : (P Q : Media → Type 0) (R : Media → Media → Type 0) → ((was is : Media) → R was is → P was → Q is) → (o p : Option Media) → BothTold o p R → IfSome o P → IfSome p Q
both_told P Q R more o None told all = tt
both_told P Q R more None (Some is) told all = absurd told
both_told P Q R more (Some was) (Some is) told all = more was is told all

same_sizes : (old new : List ℕ) (was is : Media) → new ≡ old → SameDisks (image_of old was) (image_of new is)
same_sizes old new was is same = record { disks = ap length same; size = λ d. ap (λ (l : List ℕ). slice_index_or l d 0) same }

pub data_stays_before : DataStaysBefore
data_stays_before old new sizes told stamp = both_told
    (λ was. StampsBefore stamp (image_of old.sizes was))
    (λ is. StampsBefore stamp (image_of new.sizes is))
    (λ was is. (d s : ℕ) → s < data_start → is d s ≡ was d s)
    (λ was is same. data_keeps_before stamp (image_of old.sizes was) (image_of new.sizes is)
    (record { same = same_sizes old.sizes new.sizes was is sizes; sectors = λ d s there low. same d s low }))
    old.media
    new.media
    told

pub earlier_stands_before : EarlierStandsBefore
earlier_stands_before stamp old new told = both_told
    (λ was. StampsBefore stamp (image_of old.sizes was))
    (λ is. StampsBefore stamp (image_of new.sizes is))
    (λ was is. ChangesBy (IsOtherOrEarlier stamp) (image_of old.sizes was) (image_of new.sizes is))
    (λ was is. earlier_keep_before stamp (image_of old.sizes was) (image_of new.sizes is))
    old.media
    new.media
    told

-- ---- from before a moment

pub untouched_stays_behind : UntouchedStaysBehind
untouched_stays_behind moment old new stays = stays (beginning_at moment)

pub earlier_stays_behind : EarlierStaysBehind
earlier_stays_behind moment = earlier_stands_before (beginning_at moment)

pub unwritten_stays_behind : (moment : ℕ) (old new : Device) → new.sizes ≡ old.sizes → new.media ≡ old.media → StampsAreEarlier moment old → StampsAreEarlier moment new
unwritten_stays_behind moment old new sizes media = unwritten_stays_before old new sizes media (beginning_at moment)

pub no_more_stays_behind : (moment : ℕ) (old new : Device) → old.flights ≡ [] → LeavesNoMore old new → StampsAreEarlier moment old → StampsAreEarlier moment new
no_more_stays_behind moment old new none fewer = no_more_stays_before old new none fewer (beginning_at moment)

pub data_stays_behind : (moment : ℕ) (old new : Device) → new.sizes ≡ old.sizes → BothTold old.media new.media (λ was is. (d s : ℕ) → s < data_start → is d s ≡ was d s) → StampsAreEarlier moment old → StampsAreEarlier moment new
data_stays_behind moment old new sizes told = data_stays_before old new sizes told (beginning_at moment)

pub transfer_stays_behind : (moment : ℕ) (f : Flight) (old new : Device) → old.flights ≡ [] → ((d s : ℕ) → s < data_start → written f d s ≡ None) → OnlyAdds f old new → StampsAreEarlier moment old → StampsAreEarlier moment new
transfer_stays_behind moment f old new none of_data adds = transfer_stays_before f old new none of_data adds (beginning_at moment)
