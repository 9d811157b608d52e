-- What the writes of a further session of a group keep, one after another.
use Rattle.std.proofs.Common.{◌≡◌, inl, inr, Bool, true, false, List, [], ◌∷◌, Option, Some, None, IfSome, IsTrue, refl, sym, ◌∙◌, ap, subst}
use Rattle.std.specs.Prelude.{if◌then◌else◌}
use Rattle.lvm_num.specs.declared.record.Kind.TheVariants as kind
use Rattle.lvm_num.specs.declared.descriptor.Descriptor.{Descriptor}
use Rattle.lvm_num.specs.declared.status.Status.{Status}
use Rattle.lvm_num.specs.Disks.{Disks}
use Rattle.lvm_num.specs.StatusBytes.{status_of}
use Rattle.lvm_num.specs.Record.{Stamped}
use Rattle.lvm_disk.specs.Device.{Media, Image, Device, image_of}
use Rattle.lvm_disk.specs.Paths.{DeviceStep, Path}
use Rattle.lvm_kept.specs.Contents.{Contents, contents_of}
use Rattle.lvm_kept.specs.Plans.{ChangesBy}
use Rattle.lvm_kept.specs.Torn.{MayWriteAll, StandsOn, DescriptorsChange, StatusesChange, written as as_read, Alone, Note}
use Rattle.lvm_kept.proofs.CommittedLemmas.Finding.{images_within}
use Rattle.lvm_kept.proofs.TornLemmas.Records.{descriptor_shows, status_shows}
use Rattle.lvm_steps.specs.Moments.{StaysKept}
use Rattle.lvm_steps.specs.VaryingOn.{AreShowing, HasNewest, MayRestate}
use Rattle.lvm_steps.proofs.VaryingOnLemmas.Following.{restamp_is_newest, newest_stays_newest, descriptor_varies_on, status_varies_on, notes_vary_on}
use Rattle.lvm_steps.proofs.WritableLemmas.{writable_stays, records_are_outside}
use Rattle.lvm_write.specs.Notes.{empty_note_sector}
use Rattle.lvm_write.proofs.WrittenLemmas.Writing.{both_at, told_at}
use Rattle.lvm_write.specs.Beginning.{Beginning, Part, TheDescriptor, TheStatus, TheNotes, describes, states, brought, again_order, IsOfParts, MayBeginAgain}
use Rattle.lvm_write.specs.Kept.{AgainStaysKept}
use Rattle.lvm_write.specs.Runs.{AreBegun}
use Rattle.lvm_write.proofs.VaryingOnLemmas.{may_restate}
use Rattle.lvm_write.proofs.PathsLemmas.Keeping.{is_written, kept_then}
use Rattle.lvm_write.proofs.ContentsLemmas.{descriptor_is}
use Rattle.lvm_write.proofs.PathsLemmas.Untold.{untold_kept}

module _ (b : Beginning) (forget : Bool) (group : Descriptor) (status : Status) (disks : Disks) (was : Stamped Status) where
  abbrev newest : Stamped Descriptor
  newest = as_read (describes b) group

  -- the status is written once the descriptor stands, and then the notes
  abbrev after_descriptor : List Part
  after_descriptor = TheStatus ∷ (if forget then TheNotes ∷ [] else [])

  -- ---- the notes

  module _ (stated : Device) (media : Media) (told : stated.media ≡ Some media) (still : stated.flights ≡ []) (quiet : IsTrue forget → Rattle.lvm_steps.specs.VaryingOn.HasNoActive group)
      (has : HasNewest (contents_of (image_of stated.sizes media)) group disks newest) (showing : AreShowing (contents_of (image_of stated.sizes media)) group.id b.targets) (new : Device) where
    notes_kept : AreBegun b (if forget then TheNotes ∷ [] else []) stated new → Path DeviceStep (StaysKept stated) stated new
    notes_kept begun = by_forget forget refl begun
      where
        by_forget : (t : Bool) → forget ≡ t → AreBegun b (if t then TheNotes ∷ [] else []) stated new → Path DeviceStep (StaysKept stated) stated new
        by_forget true is_on (inl path) = notes_vary_on group disks newest b.targets (empty_note_sector b.epoch) stated new (is_written (Note b.targets (empty_note_sector b.epoch)) stated new media told still path) has (quiet is_on) showing
        by_forget true is_on (inr more) = absurd more.2
        by_forget false is_off begun = absurd begun

  -- ---- the status

  module _ (described : Device) (media : Media) (told : described.media ≡ Some media) (still : described.flights ≡ []) (quiet : IsTrue forget → Rattle.lvm_steps.specs.VaryingOn.HasNoActive group)
      (state : MayWriteAll Status status_of (states b) status (image_of described.sizes media))
      (restate : MayRestate (contents_of (image_of described.sizes media)) group disks b.targets newest was (as_read (states b) status)) (new : Device) where
    state_path : (next : Device) → Path DeviceStep (Rattle.lvm_write.specs.Written.IsWriting (brought b TheStatus) described) described next → Path DeviceStep (StaysKept described) described next
    state_path next path = status_varies_on group disks newest was (states b) status described next (is_written (Alone (states b)) described next media told still path) refl state restate

    status_kept : AreBegun b after_descriptor described new → Path DeviceStep (StaysKept described) described new
    status_kept (inl path) = state_path new path
    status_kept (inr (stated, stage, more)) =
        let start : Image = image_of described.sizes media in
        let moved = both_at described.media stated.media (λ was is. ChangesBy (brought b TheStatus) (image_of described.sizes was) (image_of stated.sizes is)) media stage.keeps.media told in
        let now : Image = image_of stated.sizes moved.0 in
        let shows : StatusesChange b.targets (as_read (states b) status) (contents_of start) (contents_of now) = status_shows (states b) status start now refl state moved.2 in
        let note : (contents_of start).note ≡ (contents_of now).note = sym (ap (λ (c : Contents). c.note) shows.rest) in
        let rest : contents_of now ≡ record (contents_of start) { status = (contents_of now).status; note = (contents_of now).note } = shows.rest ∙ (λ t. record (contents_of start) { status = (contents_of now).status; note = note t }) in
        let has : HasNewest (contents_of now) group disks newest = newest_stays_newest group disks newest (contents_of start) (contents_of now) rest restate.newest_is in
        let showing : AreShowing (contents_of now) group.id b.targets = subst (λ (c : Contents). AreShowing c group.id b.targets) (sym shows.rest) restate.showing in
        kept_then described stated new (state_path stated stage.path) (notes_kept stated moved.0 moved.1 stage.still quiet has showing new more)

  -- ---- the descriptor

  module _ (old : Device) (media : Media) (told : old.media ≡ Some media) (still : old.flights ≡ []) (may : MayBeginAgain b forget group status disks was (image_of old.sizes media)) (new : Device) where
    describe_path : (next : Device) → Path DeviceStep (Rattle.lvm_write.specs.Written.IsWriting (brought b TheDescriptor) old) old next → Path DeviceStep (StaysKept old) old next
    describe_path next path = descriptor_varies_on group (describes b) old next (is_written (Alone (describes b)) old next media told still path) refl may.describe may.restamp

    all_kept : AreBegun b (again_order forget) old new → Path DeviceStep (StaysKept old) old new
    all_kept (inl path) = describe_path new path
    all_kept (inr (described, stage, more)) =
        let start : Image = image_of old.sizes media in
        let moved = both_at old.media described.media (λ was is. ChangesBy (brought b TheDescriptor) (image_of old.sizes was) (image_of described.sizes is)) media stage.keeps.media told in
        let now : Image = image_of described.sizes moved.0 in
        let shows : DescriptorsChange b.targets newest (contents_of start) (contents_of now) = descriptor_shows (describes b) group start now refl may.describe moved.2 in
        let by_parts : ChangesBy (IsOfParts b (TheDescriptor ∷ [])) start now = Rattle.lvm_write.proofs.WrittenLemmas.Writing.changes_more (brought b TheDescriptor) (IsOfParts b (TheDescriptor ∷ [])) start now (λ d s value is. inl is) moved.2 in
        let has : HasNewest (contents_of now) group disks newest = restamp_is_newest group disks b.targets newest (contents_of start) (contents_of now) (images_within start) may.members may.found may.restamp shows
        (λ d voter. descriptor_is b group status (TheDescriptor ∷ []) start now may.describe may.state by_parts d (may.voters d voter)
        (told_at described.media (λ m. StandsOn (describes b) (image_of described.sizes m) d) moved.0 moved.1 (stage.stands d (may.voters d voter)))) in
        let restate = may_restate group disks b.targets newest was (as_read (states b) status) (contents_of start) (contents_of now) may.found may.restamp shows has may.own may.was_found may.marks may.later in
        let state : MayWriteAll Status status_of (states b) status now = writable_stays Status status_of (states b) status start now may.state
        (records_are_outside (describes b) kind.Status start now (λ e. absurd (cc (e))) may.describe.frames may.describe.slots moved.2) in
        kept_then old described new (describe_path described stage.path) (status_kept described moved.0 moved.1 stage.still may.quiet state restate new more)

pub again_stays_kept : {P : Device → Type 0} (b : Beginning) (forget : Bool) (old new : Device) → old.flights ≡ [] → Path DeviceStep P old new → AreBegun b (again_order forget) old new → AgainStaysKept b forget old new
again_stays_kept b forget old new still path begun group status disks was may = by_media old.media refl may
  where
    by_media : (o : Option Media) → old.media ≡ o → IfSome o (λ media. MayBeginAgain b forget group status disks was (image_of old.sizes media)) → Path DeviceStep (StaysKept old) old new
    by_media None none may = untold_kept old new none path
    by_media (Some media) told may = all_kept b forget group status disks was old media told still may new begun
