-- What is kept while copies are made, a second status is written and notes are emptied.
use Rattle.std.proofs.Common.{◌≡◌, ℕ, List, Option, None, Some, IfSome, refl, sym, ap, subst}
use Rattle.std.specs.Prelude.{IsTrue}
use Rattle.lvm_num.specs.declared.record.Kind.{Kind}
use Rattle.lvm_num.specs.declared.record.Kind.TheVariants as kind
use Rattle.lvm_num.specs.declared.descriptor.Descriptor.{Descriptor}
use Rattle.lvm_num.specs.declared.status.Status.{Status}
use Rattle.lvm_num.specs.StatusBytes.{status_of}
use Rattle.lvm_num.specs.Buffer.{Buffer}
use Rattle.lvm_num.specs.Disks.{Disks}
use Rattle.lvm_disk.specs.Device.{Media, Image, Device, HasSectors, IsReady, IsWholeImage, image_of, MayLeave}
use Rattle.lvm_disk.specs.Paths.{DeviceStep, Path, Here}
use Rattle.lvm_disk.proofs.PathsLemmas.{append-path, last-path, map-path}
use Rattle.lvm_kept.specs.passed.Vol.{Fact}
use Rattle.lvm_kept.specs.Contents.{contents_of, newest_at, status_on}
use Rattle.lvm_kept.specs.Plans.{ChangesBy}
use Rattle.lvm_kept.specs.Torn.{RecordWrite, MayWriteAll, StandsOn, IsOfRecord, IsOfNote, written as as_read}
use Rattle.lvm_kept.proofs.TornLemmas.Records.{wider, whole_is_new}
use Rattle.lvm_rec.specs.declared.homes.Homes.{Homes}
use Rattle.lvm_recover.specs.passed.Steps.{ImagesKept, StaysKept}
use Rattle.lvm_write.specs.Notes.{empty_note_sector}
use Rattle.lvm_write.specs.Written.{IsWriting, StandsTold}
use Rattle.lvm_write.specs.Runs.{OneGives}
use Rattle.lvm_write.proofs.WrittenLemmas.Writing.{told_at, both_at, changes_more}
use Rattle.lvm_write.proofs.PathsLemmas.Untold.{untold_kept}
use Rattle.lvm_write.specs.declared.begin.Begun.{Begun}
use Rattle.lvm_write.specs.declared.begin.Begun.TheVariants as begun
use Rattle.lvm_recover.specs.Recopied.{IsFromFirst, AreEqualled}
use Rattle.lvm_recover.proofs.KeepingLemmas.Moments.{copying_stays_kept, emptying_stays_kept}
use Rattle.lvm_tidying.specs.Moments.{HasCopied, MayCleanBy, HasCleaned}
use Rattle.lvm_tidying.proofs.MomentsLemmas.{cleaning_stays_kept, emptying_once_clean}
use Rattle.lvm_recovery.specs.declared.copying.Recopy.{Recopy}
use Rattle.lvm_recovery.specs.Copying.{IsOfCopies, AllGive}
use Rattle.lvm_recovery.specs.Equalising.{second_write, StatesSecond, WentOn, StoppedStating, StoppedCopying, MayEqualise, MayState, MayStateSecond, MayEqualiseBy, EqualisedStaysKept}
use Rattle.lvm_recovery.proofs.PlannedLemmas.{planned_are_from_first, planned_are_equalled}

-- a status that stands whole on a target is the one that is read there
pub status_stands : (w : RecordWrite) (x : Status) (old new : Image) → w.kind ≡ kind.Status → MayWriteAll Status status_of w x old → ChangesBy (IsOfRecord w) old new → (d : ℕ) → IsTrue (w.targets d) → StandsOn w new d
    → status_on new d ≡ Some (as_read w x)
unfolding status_on
status_stands w x old new is may by d target stands =
    subst (λ (k : Kind). newest_at status_of k new d ≡ Some (as_read w x)) is (whole_is_new Status status_of w x old new d may (wider w old new may.frames may.slots by) target stands)

module _ (copies : List Recopy) (targets : Disks) (group : Descriptor) (status : Status) (there : Disks) (old : Device) (it : MayEqualise copies targets group status there old) where
  abbrev media : Media
  media = it.may.media

  abbrev first : Image
  first = image_of old.sizes media

  from_first : (image : Image) → ChangesBy (IsOfCopies old copies) first image → ChangesBy (IsFromFirst (contents_of first) group (Some it.may.shows.stands) there) first image
  from_first image by = changes_more (IsOfCopies old copies) (IsFromFirst (contents_of first) group (Some it.may.shows.stands) there) first image
      (planned_are_from_first group (Some it.may.shows.stands) there copies old media it.may.valid it.may.told it.planned.each) by

  while_copying : (now : Device) → IsWriting (IsOfCopies old copies) old now → StaysKept old now
  while_copying now writing = copying_stays_kept group status there old now it.may
      (λ image left. from_first image (told_at old.media (λ media. (image : Image) → MayLeave now image → ChangesBy (IsOfCopies old copies) (image_of old.sizes media) image) media it.may.told writing image left))

  -- all copies were made
  module _ (number before after : ℕ) (buf : Buffer) (mid : Device) (copied : AllGive copies number before after old mid (begun.Ended buf)) (whole : HasSectors mid) where
    between : (m : Media) × (mid.media ≡ Some m) × ChangesBy (IsOfCopies old copies) first (image_of mid.sizes m)
    between = both_at old.media mid.media (λ was is. ChangesBy (IsOfCopies old copies) (image_of old.sizes was) (image_of mid.sizes is)) media copied.does.keeps.media it.may.told

    abbrev now_copied : Image
    now_copied = image_of mid.sizes between.0

    equalled : AreEqualled (contents_of first) group (Some it.may.shows.stands) there (contents_of now_copied)
    equalled = planned_are_equalled group (Some it.may.shows.stands) there copies old mid media between.0 it.may.valid it.may.told between.1 it.planned between.2 copied.how.copied

    has_copied : HasCopied group status there old it.may now_copied
    has_copied = record { changes = from_first now_copied between.2; equalled = equalled }

    -- no second status is written
    while_emptying : (epoch : ℕ) (now : Device) → IsWriting (IsOfNote targets (empty_note_sector epoch)) mid now → StaysKept old now
    while_emptying epoch now writing = emptying_stays_kept group status there targets (empty_note_sector epoch) old now now_copied it.may (from_first now_copied between.2)
        equalled it.targets_there
        (λ image left. told_at mid.media (λ media. (image : Image) → MayLeave now image → ChangesBy (IsOfNote targets (empty_note_sector epoch)) (image_of mid.sizes media) image) between.0 between.1 writing image left)

    -- one is
    module _ (w : RecordWrite) (state : MayState copies w group status there old it.may) where
      by : MayCleanBy group status there old it.may now_copied w state.clean
      by = state.by now_copied (told_at mid.media (λ m. IsWholeImage (image_of mid.sizes m)) between.0 between.1 whole) between.2

      while_stating : (now : Device) → IsWriting (IsOfRecord w) mid now → StaysKept old now
      while_stating now writing = cleaning_stays_kept group status there old now now_copied w state.clean it.may has_copied by
          (λ image left. told_at mid.media (λ media. (image : Image) → MayLeave now image → ChangesBy (IsOfRecord w) (image_of mid.sizes media) image) between.0 between.1 writing image left)

      -- and stands
      module _ (p q n : ℕ) (back : Buffer) (stated : Device) (gives : OneGives w.targets (IsOfRecord w) (StandsTold w) n p q mid stated (begun.Ended back)) where
        last : (m : Media) × (stated.media ≡ Some m) × ChangesBy (IsOfRecord w) now_copied (image_of stated.sizes m)
        last = both_at mid.media stated.media (λ was is. ChangesBy (IsOfRecord w) (image_of mid.sizes was) (image_of stated.sizes is)) between.0 gives.does.keeps.media between.1

        has_cleaned : HasCleaned group there now_copied (image_of stated.sizes last.0) w state.clean
        has_cleaned = record {
          all = state.all;
          changes = last.2;
          stands = λ d present. status_stands w state.clean now_copied (image_of stated.sizes last.0) by.is_status by.write last.2 d (state.all d present)
              (told_at stated.media (λ m. StandsOn w (image_of stated.sizes m) d) last.0 last.1 (gives.how.stands d (state.all d present)));
        }

        while_emptying_then : (epoch : ℕ) (now : Device) → IsWriting (IsOfNote targets (empty_note_sector epoch)) stated now → StaysKept old now
        while_emptying_then epoch now writing = emptying_once_clean group status there targets (empty_note_sector epoch) old now now_copied (image_of stated.sizes last.0) w state.clean it.may has_copied by has_cleaned it.targets_there
            (λ image left. told_at stated.media (λ media. (image : Image) → MayLeave now image → ChangesBy (IsOfNote targets (empty_note_sector epoch)) (image_of stated.sizes media) image) last.0 last.1 writing image left)

-- by what was kept
module _ (copies : List Recopy) (second : Option (List ℕ)) (epoch : ℕ) (targets : Disks) (homes : Homes) (group : Descriptor) (status : Status) (there : Disks) (old : Device)
    (may : (facts : List Fact) → ImagesKept old facts → MayEqualiseBy copies second epoch targets homes group status there old) where
  copying : (new : Device) → Path DeviceStep (IsWriting (IsOfCopies old copies) old) old new → Path DeviceStep (StaysKept old) old new
  copying new path = map-path (StaysKept old) (λ now writing facts kept. while_copying copies targets group status there old (may facts kept).0 now writing facts kept) path

  module _ (number before after : ℕ) (buf : Buffer) (mid : Device) (copied : AllGive copies number before after old mid (begun.Ended buf)) (whole : HasSectors mid) where
    -- the second status, whatever becomes of it
    stating : (s : Option (List ℕ)) → second ≡ s → (last : Homes) (n p q : ℕ) (new : Device) (result : Begun) → StatesSecond s epoch targets homes last n p q mid new result → Path DeviceStep (StaysKept old) mid new
    stating None is last n p q new result states = subst (λ (d : Device). Path DeviceStep (StaysKept old) mid d) (sym states.same) (Here (last-path (copying mid copied.does.moments)))
    stating (Some bytes) is last n p q new result states = map-path (StaysKept old)
        (λ now writing facts kept. while_stating copies targets group status there old (may facts kept).0 number before after buf mid copied whole (second_write epoch bytes targets homes)
        (subst (λ (o : Option (List ℕ)). MayStateSecond copies o epoch targets homes group status there old (may facts kept).0.may) is (may facts kept).1) now writing facts kept) states.gives.does.moments

    emptying : (s : Option (List ℕ)) → second ≡ s → (last : Homes) (n p q : ℕ) (stated new : Device) (back : Buffer) → StatesSecond s epoch targets homes last n p q mid stated (begun.Ended back)
        → Path DeviceStep (IsWriting (IsOfNote targets (empty_note_sector epoch)) stated) stated new → Path DeviceStep (StaysKept old) stated new
    emptying None is last n p q stated new back states path = map-path (StaysKept old)
        (λ now writing facts kept. while_emptying copies targets group status there old (may facts kept).0 number before after buf mid copied whole epoch now
        (subst (λ (d : Device). IsWriting (IsOfNote targets (empty_note_sector epoch)) d now) states.same writing) facts kept) path
    emptying (Some bytes) is last n p q stated new back states path = map-path (StaysKept old)
        (λ now writing facts kept. while_emptying_then copies targets group status there old (may facts kept).0 number before after buf mid copied whole (second_write epoch bytes targets homes)
        (subst (λ (o : Option (List ℕ)). MayStateSecond copies o epoch targets homes group status there old (may facts kept).0.may) is (may facts kept).1) p q n back stated states.gives epoch now writing facts kept) path

-- where the media is told and where it isn't
by_told : {A : Type 0} {P : Device → Type 0} (old new : Device) → Path DeviceStep P old new → (A → Path DeviceStep (StaysKept old) old new) → IfSome old.media (λ (media : Media). A) → Path DeviceStep (StaysKept old) old new
by_told {A = A} old new path kept may = by_media old.media refl may
  where
    by_media : (o : Option Media) → old.media ≡ o → IfSome o (λ (m : Media). A) → Path DeviceStep (StaysKept old) old new
    by_media None none may = untold_kept old new none path
    by_media (Some m) told may = kept may

any_path : {P : Device → Type 0} {old new : Device} → Path DeviceStep P old new → Path DeviceStep (λ (d : Device). Unit {0}) old new
any_path path = map-path (λ (d : Device). Unit {0}) (λ d p. tt) path

any_stating : (s : Option (List ℕ)) (epoch : ℕ) (targets : Disks) (homes last : Homes) (n p q : ℕ) (mid new : Device) (result : Begun) → StatesSecond s epoch targets homes last n p q mid new result → Path DeviceStep (λ (d : Device). Unit {0}) mid new
any_stating None epoch targets homes last n p q mid new result states = subst (λ (d : Device). Path DeviceStep (λ (d : Device). Unit {0}) mid d) (sym states.same) (Here tt)
any_stating (Some bytes) epoch targets homes last n p q mid new result states = any_path states.gives.does.moments

pub went_on_kept : (copies : List Recopy) (second : Option (List ℕ)) (epoch : ℕ) (targets : Disks) (homes last : Homes) (number before after : ℕ) (old new : Device) (result : Begun)
    → WentOn copies second epoch targets homes last number before after old new result → EqualisedStaysKept copies second epoch targets homes old new
went_on_kept copies second epoch targets homes last number before after old new result on group status there = by_told old new
    (append-path (any_path on.copied.does.moments) (append-path (any_stating second epoch targets homes last on.buf.number on.between on.then_left on.mid on.stated (begun.Ended on.back) on.states) (any_path on.emptied.does.moments)))
    (λ (may : (facts : List Fact) → ImagesKept old facts → MayEqualiseBy copies second epoch targets homes group status there old).
    append-path (copying copies second epoch targets homes group status there old may on.mid on.copied.does.moments)
    (append-path (stating copies second epoch targets homes group status there old may number before on.between on.buf on.mid on.copied on.whole second refl last on.buf.number on.between on.then_left on.stated (begun.Ended on.back) on.states)
    (emptying copies second epoch targets homes group status there old may number before on.between on.buf on.mid on.copied on.whole second refl last on.buf.number on.between on.then_left on.stated new on.back on.states on.emptied.does.moments)))

pub stopped_stating_kept : (copies : List Recopy) (second : Option (List ℕ)) (epoch : ℕ) (targets : Disks) (homes last : Homes) (number before after : ℕ) (old new : Device) (result : Begun)
    → StoppedStating copies second epoch targets homes last number before after old new result → EqualisedStaysKept copies second epoch targets homes old new
stopped_stating_kept copies second epoch targets homes last number before after old new result on group status there = by_told old new
    (append-path (any_path on.copied.does.moments) (any_stating second epoch targets homes last on.buf.number on.between after on.mid new result on.states))
    (λ (may : (facts : List Fact) → ImagesKept old facts → MayEqualiseBy copies second epoch targets homes group status there old).
    append-path (copying copies second epoch targets homes group status there old may on.mid on.copied.does.moments)
    (stating copies second epoch targets homes group status there old may number before on.between on.buf on.mid on.copied on.whole second refl last on.buf.number on.between after new result on.states))

pub stopped_kept : (copies : List Recopy) (second : Option (List ℕ)) (epoch : ℕ) (targets : Disks) (homes : Homes) (number before after : ℕ) (old new : Device) (result : Begun)
    → StoppedCopying copies number before after old new result → EqualisedStaysKept copies second epoch targets homes old new
stopped_kept copies second epoch targets homes number before after old new result stopped group status there = by_told old new stopped.copied.does.moments
    (λ (may : (facts : List Fact) → ImagesKept old facts → MayEqualiseBy copies second epoch targets homes group status there old). copying copies second epoch targets homes group status there old may new stopped.copied.does.moments)

-- ---- between the second status and the notes

pub state_ready : (second : Option (List ℕ)) (epoch : ℕ) (targets : Disks) (homes last : Homes) (n p q : ℕ) (mid new : Device) (back : Buffer) → IsReady mid → StatesSecond second epoch targets homes last n p q mid new (begun.Ended back) → IsReady new
state_ready None epoch targets homes last n p q mid new back ready states = subst IsReady (sym states.same) ready
state_ready (Some bytes) epoch targets homes last n p q mid new back ready states = states.gives.how.back.ready

pub state_sizes : (second : Option (List ℕ)) (epoch : ℕ) (targets : Disks) (homes last : Homes) (n p q : ℕ) (mid new : Device) (result : Begun) → StatesSecond second epoch targets homes last n p q mid new result → new.sizes ≡ mid.sizes
state_sizes None epoch targets homes last n p q mid new result states = ap (λ (d : Device). d.sizes) states.same
state_sizes (Some bytes) epoch targets homes last n p q mid new result states = states.gives.does.keeps.sizes
