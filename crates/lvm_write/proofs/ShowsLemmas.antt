-- What the disks show while a record is written to them, and afterwards.
use Rattle.std.proofs.Common.{◌≡◌, ℕ, true, Option, Some, subst}
use Rattle.std.specs.Prelude.{List, Result, IsTrue}
use Rattle.lvm_num.specs.declared.descriptor.Descriptor.{Descriptor}
use Rattle.lvm_num.specs.declared.status.Status.{Status}
use Rattle.lvm_num.specs.declared.record.Framed.{Framed}
use Rattle.lvm_num.specs.declared.record.Kind.{Kind}
use Rattle.lvm_num.specs.declared.record.Kind.TheVariants as kind
use Rattle.lvm_num.specs.Disks.{Disks}
use Rattle.lvm_num.specs.DescriptorBytes.{descriptor_of}
use Rattle.lvm_num.specs.StatusBytes.{status_of}
use Rattle.lvm_num.specs.Record.{Frames}
use Rattle.lvm_num.proofs.Booleans.{place_below}
use Rattle.lvm_quorum.specs.passed.Transfer.{MayWrite, has_records, ChangesBy, RecordWrite, MayWriteAll, IsOfRecord, StandsOn, on_disk, Homes, second_slots}
use Rattle.lvm_quorum.proofs.passed.Rec.{may_write}
use Rattle.lvm_quorum.proofs.passed.Kept.{descriptor_shows, status_shows, wider, whole_is_new}
use Rattle.lvm_disk.specs.Device.{Media, Image, Device, image_of, MayLeave}
use Rattle.lvm_disk.specs.Steps.{BothTold}
use Rattle.lvm_write.specs.Written.{write_of, IsWriting}
use Rattle.lvm_write.specs.Shows.{DescriptorMayBeWritten, StatusMayBeWritten, DescriptorsOldOrNew, StatusesOldOrNew, WrittenIsNewest}
use Rattle.lvm_write.proofs.WrittenLemmas.Writing.{told_at}

-- a record may go to all targets where it may go to each
all_may : (X : Type 0) (content_of : List ℕ → Result X ℕ) (k : Kind) (framed : Framed) (next : X) (targets : Disks) (homes : Homes) (image : Image) → Frames k framed
    → ((d : ℕ) → IsTrue (targets d) → has_records image d ≡ true) → ((d : ℕ) → IsTrue (targets d) → MayWrite X content_of (on_disk (write_of k framed targets homes) d) next (image.sector d))
    → MayWriteAll X content_of (write_of k framed targets homes) next image
all_may X content_of k framed next targets homes image frames there each = record { frames = frames; slots = λ d. place_below (second_slots k homes d); there = there; each = each }

pub descriptor_may_be_written : DescriptorMayBeWritten
descriptor_may_be_written framed group targets homes image frames reads fit =
    all_may Descriptor descriptor_of kind.Descriptor framed group targets homes image frames (λ d on. (fit d on).0)
    (λ d on. let it = fit d on in may_write Descriptor descriptor_of (on_disk (write_of kind.Descriptor framed targets homes) d) group (image.sector d) frames reads it.1.descriptor it.2)

pub status_may_be_written : StatusMayBeWritten
status_may_be_written framed status targets homes image frames reads fit =
    all_may Status status_of kind.Status framed status targets homes image frames (λ d on. (fit d on).0)
    (λ d on. let it = fit d on in may_write Status status_of (on_disk (write_of kind.Status framed targets homes) d) status (image.sector d) frames reads it.1.status it.2)

left_by : (w : RecordWrite) (old now : Device) (media : Media) (image : Image) → old.media ≡ Some media → IsWriting (IsOfRecord w) old now → MayLeave now image → ChangesBy (IsOfRecord w) (image_of old.sizes media) image
left_by w old now media image told writing may = told_at old.media (λ m. (image : Image) → MayLeave now image → ChangesBy (IsOfRecord w) (image_of old.sizes m) image) media told writing image may

pub descriptors_old_or_new : DescriptorsOldOrNew
descriptors_old_or_new w group old now media image is_kind told may writing left = descriptor_shows w group (image_of old.sizes media) image is_kind may (left_by w old now media image told writing left)

pub statuses_old_or_new : StatusesOldOrNew
statuses_old_or_new w status old now media image is_kind told may writing left = status_shows w status (image_of old.sizes media) image is_kind may (left_by w old now media image told writing left)

pub written_newest : (X : Type 0) → WrittenIsNewest X
written_newest X content_of w x failed old new was is d told tells may keeps ends target well =
    let by = subst (λ (o : Option Media). BothTold o new.media (λ m n. ChangesBy (IsOfRecord w) (image_of old.sizes m) (image_of new.sizes n))) told keeps.media in
    let by_both = subst (λ (o : Option Media). BothTold (Some was) o (λ m n. ChangesBy (IsOfRecord w) (image_of old.sizes m) (image_of new.sizes n))) tells by in
    let stands = told_at new.media (λ m. StandsOn w (image_of new.sizes m) d) is tells (ends.stands target well) in
    whole_is_new X content_of w x (image_of old.sizes was) (image_of new.sizes is) d may (wider w (image_of old.sizes was) (image_of new.sizes is) may.frames may.slots by_both) target stands
