-- What the disks hold and what is found of them, while the next status is written and once it stands.
use Rattle.std.proofs.Common.{◌≡◌, ℕ, List, Ok, sym, subst}
use Rattle.std.specs.Prelude.{IfSome, is_some}
use Rattle.lvm_num.specs.declared.record.Kind.TheVariants as kind
use Rattle.lvm_num.specs.declared.record.Stamp.{Stamp}
use Rattle.lvm_num.specs.declared.descriptor.Descriptor.{Descriptor}
use Rattle.lvm_num.specs.declared.status.Status.{Status}
use Rattle.lvm_num.specs.Buffer.{Buffer}
use Rattle.lvm_num.specs.Disks.{Disks}
use Rattle.lvm_num.specs.StatusBytes.{status_of}
use Rattle.lvm_num.specs.Record.{Frames}
use Rattle.lvm_num.specs.Votes.{CanWrite}
use Rattle.lvm_disk.specs.Device.{Device, image_of, HasSectors}
use Rattle.lvm_kept.specs.Contents.{contents_of}
use Rattle.lvm_kept.specs.Plans.{ChangesBy}
use Rattle.lvm_kept.specs.Torn.{RecordWrite, IsOfRecord}
use Rattle.lvm_status.specs.Update.{Stored}
use Rattle.lvm_steps.specs.Moments.{StaysKept}
use Rattle.lvm_steps.proofs.MakingLemmas.Making.{media_may}
use Rattle.lvm_rec.specs.declared.homes.Homes.{Homes}
use Rattle.lvm_write.specs.Written.{KeepsShelf, IsWriting}
use Rattle.lvm_write.proofs.WrittenLemmas.Writing.{if_told, told_at, both_from}
use Rattle.lvm_commit.specs.Committed.{next_stamp, MayMark, HoldsCommitted}
use Rattle.lvm_commit.specs.LawsOfFinding.{FindsNothingNew, FindsNothingNewOn}
use Rattle.lvm_commit.specs.Settling.{there, IsOf, SessionIsHeld}
use Rattle.lvm_commit.specs.Rounds.{WasTried}
use Rattle.lvm_commit.proofs.LawsOfFindingLemmas.Finding.{status_write_finds_nothing_new}
use Rattle.lvm_commit.proofs.LawsOfWritesLemmas.Writes.{status_write_keeps, status_is_held}
use Rattle.lvm_commit.proofs.LawsOfWritesLemmas.Holding.{told_before, framed, one_write, whole, held_at, by_at, later, can_write, written, there_written, stand}

module _ (first : Stored) (homes : Homes) (old : Device) (sectors : HasSectors old) (content : List ℕ) (next : Status)
    (frames : Frames kind.Status (framed first homes old sectors kind.Status content)) (reads : status_of content ≡ Ok next) where
  abbrev w : RecordWrite
  w = one_write first homes old sectors kind.Status content

  pub status_moment_kept :
      (d : Device) → IsWriting (IsOfRecord w) old d → is_some d.media ≡ is_some old.media → CanWrite first.group (there first)
      → (group : Descriptor) → IsOf group first → next.id ≡ group.id → IfSome old.media (λ m. MayMark (contents_of (image_of old.sizes m)) group first.committed next) → SessionIsHeld old group first homes → StaysKept old d
  status_moment_kept d writing same enough group own its marks held facts kept image may =
      let m = told_before old d image same may in
      status_write_keeps group first.committed next (there first) first.stamp homes w.framed (image_of old.sizes m.0) image facts (whole first homes old sectors kind.Status content m.0 m.1)
      (can_write first homes old sectors kind.Status content group (there first) own enough) (held_at first homes old sectors kind.Status content group m.0 m.1 held) frames reads its (told_at old.media (λ m. MayMark (contents_of (image_of old.sizes m)) group first.committed next) m.0 m.1 marks)
      (later first homes old sectors kind.Status content) (by_at first homes old sectors kind.Status content d m.0 m.1 writing image may) (kept (image_of old.sizes m.0) (media_may old m.0 m.1))

  pub status_moment_finds : (d : Device) → IsWriting (IsOfRecord w) old d → (group : Descriptor) → SessionIsHeld old group first homes → FindsNothingNewOn old d
  status_moment_finds d writing group held image may = if_told old.media (λ media. FindsNothingNew (contents_of (image_of old.sizes media)) (contents_of image)) (λ m told.
      status_write_finds_nothing_new group first.committed next (there first) first.stamp homes w.framed (image_of old.sizes m) image (whole first homes old sectors kind.Status content m told)
      (held_at first homes old sectors kind.Status content group m told held) frames reads (later first homes old sectors kind.Status content)
      (by_at first homes old sectors kind.Status content d m told writing image may))

  module _ (last : Stored) (after : Homes) (new : Device) (number : ℕ) (keeps : KeepsShelf (there first) (IsOfRecord w) old new) (buf : Buffer)
      (tried : WasTried w number (record first { stamp = next_stamp first.stamp }) last homes after old new buf) (same : last.committed ≡ next) where
    abbrev on : Disks
    on = written first homes old sectors kind.Status content last after new number keeps buf tried

    on_is : there last ≡ on
    on_is = there_written first homes old sectors kind.Status content last after new number keeps buf tried

    pub status_holds : (group : Descriptor) → next.id ≡ group.id → SessionIsHeld old group first homes → SessionIsHeld new group last after
    status_holds group its held = if_told new.media (λ media. HoldsCommitted (image_of new.sizes media) group last.committed (there last) last.stamp after) (λ k told_new.
        let back = both_from old.media new.media (λ was is. ChangesBy (IsOfRecord w) (image_of old.sizes was) (image_of new.sizes is)) k keeps.media told_new in
        let is = status_is_held group first.committed next (there first) on first.stamp homes after w.framed (image_of old.sizes back.0) (image_of new.sizes k)
        (whole first homes old sectors kind.Status content back.0 back.1) (held_at first homes old sectors kind.Status content group back.0 back.1 held) frames reads its
        (later first homes old sectors kind.Status content) (stand first homes old sectors kind.Status content last after new number keeps buf tried back.0 k told_new back.2) in
        subst (λ (s : Stamp). HoldsCommitted (image_of new.sizes k) group last.committed (there last) s after) (sym tried.stamp)
        (subst (λ (set : Disks). HoldsCommitted (image_of new.sizes k) group last.committed set w.framed.stamp after) (sym on_is)
        (subst (λ (s : Status). HoldsCommitted (image_of new.sizes k) group s on w.framed.stamp after) (sym same) is)))
