-- What the reading of a disk's descriptors leaves.
use Rattle.std.proofs.Common.{◌≡◌, ◌-◌, ◌∷◌, ◌++◌, [], ℕ, List, Bool, true, false, Option, Some, None, IfSome, Result, Err, if◌then◌else◌, option_map, IsSome, refl, sym, ◌∙◌, ap, subst}
use Rattle.lvm_num.specs.declared.descriptor.Descriptor.{Descriptor}
use Rattle.lvm_disk.specs.Counts.{Rose, RoseBy}
use Rattle.lvm_disk.specs.Device.{Media, Device, IsReady, MayLeave, image_of}
use Rattle.lvm_disk.specs.Images.{LeavesNoMore}
use Rattle.lvm_disk.specs.Paths.{DeviceStep, Path}
use Rattle.lvm_vol.specs.Facts.{Fact, Cut}
use Rattle.lvm_vol.specs.Log.{Log, cut_log, is_uncut}
use Rattle.lvm_kept.specs.Contents.{descriptor_on}
use Rattle.lvm_kept.specs.Moments.{Moment, StaysCalm}
use Rattle.lvm_steps.specs.Moments.{Keeps}
use Rattle.lvm_steps.specs.Requests.{IsInNoGroup, at as moment_of}
use Rattle.lvm_steps.proofs.MomentsLemmas.Spans.{keeps_still, keeps_steps, later_append}
use Rattle.lvm_steps.proofs.EnteringLemmas.{quiet_goes_on, calm_goes_on}
use Rattle.lvm_steps.proofs.RequestsLemmas.Writing.{still_shows_none}
use Rattle.lvm_raw.proofs.passed.Steps.{unwritten_stays_behind}
use Rattle.lvm_transfer.specs.Transfer.{Relights}
use Rattle.lvm_transfer.specs.Reading.{OnlyReads, IsCutOff}
use Rattle.lvm_quorum.specs.Reading.{descriptor_shown}
use Rattle.lvm_raw.specs.declared.fault.RawFault.{RawFault}
use Rattle.lvm_raw.specs.declared.fault.RawFault.TheVariants as fault
use Rattle.lvm_vol.specs.Legal.{IsLater}
use Rattle.lvm_raw.proofs.LogLemmas.{cut_lands}
use Rattle.lvm_raw.specs.OnePieceKeeping.{HaveAllLanded, NoneComesOn, KeepsArrangements, KeepsOlder}
use Rattle.lvm_raw.specs.Keeping.{AnswerHasCause, IsUnstuck, RangeKeeps}
use Rattle.lvm_raw.specs.Looking.{ShowsDescriptor, FindsNone, LookFails, look_ends}
use Rattle.lvm_raw.specs.Raw.{WasServed}

-- ---- what the disk shows

no_value : {X Y : Type 0} (value : X → Y) (o : Option X) → None ≡ option_map value o → o ≡ None
no_value value None is = refl
no_value value (Some x) is = absurd (cc (is))

some_value : {X Y : Type 0} (value : X → Y) (o : Option X) (y : Y) → Some y ≡ option_map value o → IsSome o
some_value value None y is = absurd (cc (is))
some_value value (Some x) y is = refl

-- where a still shelf shows no descriptor of the disk, it is in no group
pub shown_none : (device : Device) (disk : ℕ) → device.flights ≡ [] → IfSome device.media (λ m. None ≡ descriptor_shown (image_of device.sizes m) disk) → IsInNoGroup device disk
shown_none device disk still shown = go device.media refl shown
  where
    go : (o : Option Media) → device.media ≡ o → IfSome o (λ m. None ≡ descriptor_shown (image_of device.sizes m) disk) → IsInNoGroup device disk
    go None told shown = λ image may. absurd (subst (λ (o : Option Media). MayLeave (record device { media = o }) image) told may)
    go (Some m) told shown = still_shows_none device m disk told still (no_value _ (descriptor_on (image_of device.sizes m) disk) shown)

pub shown_some : (device : Device) (disk : ℕ) (it : Descriptor) → IfSome device.media (λ m. Some it ≡ descriptor_shown (image_of device.sizes m) disk) → ShowsDescriptor device disk
shown_some device disk it shown = go device.media shown
  where
    go : (o : Option Media) → IfSome o (λ m. Some it ≡ descriptor_shown (image_of device.sizes m) disk) → IfSome o (λ m. IsSome (descriptor_on (image_of device.sizes m) disk))
    go None shown = tt
    go (Some m) shown = some_value _ (descriptor_on (image_of device.sizes m) disk) it shown

-- on shelves without flights that have the same media the same disks are in no group
pub none_here : (old new : Device) (disk : ℕ) → old.flights ≡ [] → new.flights ≡ [] → new.sizes ≡ old.sizes → new.media ≡ old.media → IsInNoGroup old disk → IsInNoGroup new disk
none_here old new disk still rests sizes media none image may = none image (go (sym media) (sym sizes) (sym rests) may)
  where
    go : old.media ≡ new.media → old.sizes ≡ new.sizes → [] ≡ new.flights → MayLeave new image → MayLeave old image
    go m s f may = rw (m, s, still, f) may

-- ---- what it leaves

module _ (a b : ℕ) (old new : Device) (reads : OnlyReads a b old new) where
  pub reads_shelf : KeepsArrangements a b old new
  reads_shelf = record { sizes = reads.unwritten.sizes; arranges = reads.unwritten.arranges; orders = reads.unwritten.orders; falls = reads.falls; waited = reads.waited }

  pub reads_behind : KeepsOlder old new
  reads_behind m behind = unwritten_stays_behind m old new reads.unwritten.sizes reads.unwritten.media behind

  pub reads_keep : (run : ℕ) (facts : List Fact) → Keeps run (moment_of old facts) (moment_of new facts)
  reads_keep run facts = keeps_steps run (moment_of old facts) old new facts (keeps_still run (moment_of old facts)) reads.moments

  -- the reads ended so, with the history as it was
  pub looked : {X : Type 0} (run disk : ℕ) (facts : List Fact) (given : Result X RawFault) → new.power ≡ true → (IsUnstuck given → IsReady new) → AnswerHasCause disk a old.counts new.counts given → RangeKeeps run disk a b (moment_of old facts) (moment_of new facts) given
  looked run disk facts given power ready cause = record { keeps = reads_keep run facts; calm = λ unstuck past calm. calm; behind = reads_behind; shelf = reads_shelf; power = power; ready = ready; landed = λ unstuck closed. closed; later = λ m later. later; cause = cause }

-- a cut is entered, if something is to end
cut_keeps : (run : ℕ) (first : Moment) (device : Device) (log : Log) → Keeps run first (moment_of device log.facts) → Keeps run first (moment_of device (cut_log log).facts)
cut_keeps run first device log span = go (is_uncut log.facts)
  where
    go : (b : Bool) → Keeps run first (moment_of device (if b then record log { facts = log.facts ++ Cut ∷ [] } else log).facts)
    go true = quiet_goes_on run first device log.facts Cut span tt (λ past begins holds. tt)
    go false = span

cut_calm : (first : Moment) (device : Device) (log : Log) → StaysCalm first (moment_of device log.facts) → StaysCalm first (moment_of device (cut_log log).facts)
cut_calm first device log calm = go (is_uncut log.facts)
  where
    go : (b : Bool) → StaysCalm first (moment_of device (if b then record log { facts = log.facts ++ Cut ∷ [] } else log).facts)
    go true = calm_goes_on first device log.facts Cut calm tt
    go false = calm

cut_landed : (log : Log) → HaveAllLanded log.facts → HaveAllLanded (cut_log log).facts
cut_landed log closed = go (is_uncut log.facts)
  where
    go : (b : Bool) → HaveAllLanded (if b then record log { facts = log.facts ++ Cut ∷ [] } else log).facts
    go true = cut_lands log.facts closed
    go false = closed

cut_later : (log : Log) → NoneComesOn log.facts (cut_log log).facts
cut_later log m later = go (is_uncut log.facts)
  where
    go : (b : Bool) → IsLater (if b then record log { facts = log.facts ++ Cut ∷ [] } else log).facts m
    go true = later_append log.facts (Cut ∷ []) m later tt
    go false = later

-- the power was cut in one of the reads, and is on again
pub looked_dark :
    {X : Type 0} (run disk a b : ℕ) (old dark new : Device) (log : Log) (given : Result X RawFault) → given ≡ Err fault.Dark → OnlyReads a b old dark → IsCutOff old dark → Relights dark new → Path DeviceStep (LeavesNoMore dark) dark new
    → RangeKeeps run disk a b (moment_of old log.facts) (moment_of new (cut_log log).facts) given
looked_dark run disk a b old dark new log given is reads off lit path = record {
  keeps = keeps_steps run (moment_of old log.facts) dark new (cut_log log).facts (cut_keeps run (moment_of old log.facts) dark log (reads_keep a b old dark reads run log.facts)) path;
  calm = λ unstuck. cut_calm (moment_of old log.facts) new log (λ past calm. calm);
  behind = λ m behind. unwritten_stays_behind m dark new (ap (λ (d : Device). d.sizes) lit) (ap (λ (d : Device). d.media) lit) (reads_behind a b old dark reads m behind);
  shelf = record {
    sizes = ap (λ (d : Device). d.sizes) lit ∙ reads.unwritten.sizes;
    arranges = ap (λ (d : Device). d.arranges) lit ∙ reads.unwritten.arranges;
    orders = ap (λ (d : Device). d.orders) lit ∙ reads.unwritten.orders;
    falls = reads.falls;
    waited = subst (λ (d : Device). RoseBy (a - b) old.counts.waits d.counts.waits) (sym lit) reads.waited;
  };
  power = ap (λ (d : Device). d.power) lit;
  landed = λ unstuck. cut_landed log;
  later = cut_later log;
  ready = λ unstuck. record { flights = ap (λ (d : Device). d.flights) lit ∙ off.flights; freed = ap (λ (d : Device). d.freed) lit; power = ap (λ (d : Device). d.power) lit };
  cause = subst (λ (r : Result _ RawFault). AnswerHasCause disk a old.counts new.counts r) (sym is) (subst (λ (d : Device). Rose old.counts.cuts d.counts.cuts) (sym lit) off.cuts);
}

-- a disk in no group after the reads was in none before
pub none_before : (patience disk : ℕ) (old new : Device) → IsReady old → FindsNone patience disk old new → IsInNoGroup old disk
none_before patience disk old new ready finds =
    let same = finds.reads.only.unwritten in
    none_here new old disk finds.all.rested.ready.flights ready.flights (sym same.sizes) (sym same.media) finds.none

-- no piece was asked for
pub unserved : (X : Type 0) (patience disk : ℕ) (old new : Device) (why : RawFault) → LookFails patience disk old new why → WasServed {X = X} (Err why) → ⊥
unserved X patience disk old new fault.Lost fails served = fails
unserved X patience disk old new fault.ReadFailed fails served = fails
unserved X patience disk old new _ fails served = served

-- the history's run and rooms are as before
pub look_rooms : (h new : Log) (why : RawFault) → new ≡ look_ends h why → new ≡ record h { facts = new.facts }
look_rooms h new why is = is ∙ go why ∙ ap (λ (l : Log). record h { facts = l.facts }) (sym is)
  where
    cut : (b : Bool) → (if b then record h { facts = h.facts ++ Cut ∷ [] } else h) ≡ record h { facts = (if b then record h { facts = h.facts ++ Cut ∷ [] } else h).facts }
    cut true = refl
    cut false = refl

    go : (why : RawFault) → look_ends h why ≡ record h { facts = (look_ends h why).facts }
    go fault.Dark = cut (is_uncut h.facts)
    go _ = refl
