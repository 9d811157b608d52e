-- What the disks hold and what is found of them, while the next descriptor is written and once it stands.
use Rattle.std.proofs.Common.{◌≡◌, Bool, ℕ, List, Ok, IfSome, sym, ◌∙◌, subst}
use Rattle.std.specs.Prelude.{is_some}
use Rattle.lvm_num.specs.declared.record.Kind.TheVariants as kind
use Rattle.lvm_num.specs.declared.record.Stamp.{Stamp}
use Rattle.lvm_num.specs.declared.descriptor.Descriptor.{Descriptor}
use Rattle.lvm_num.specs.declared.status.Status.{Status}
use Rattle.lvm_num.specs.Buffer.{Buffer}
use Rattle.lvm_num.specs.Disks.{Disks}
use Rattle.lvm_num.specs.DescriptorBytes.{descriptor_of}
use Rattle.lvm_num.specs.Record.{Frames}
use Rattle.lvm_num.specs.Votes.{CanWrite}
use Rattle.lvm_vol.specs.Facts.{Fact}
use Rattle.lvm_disk.specs.Device.{Device, image_of, HasSectors}
use Rattle.lvm_kept.specs.Contents.{contents_of}
use Rattle.lvm_kept.specs.Plans.{ChangesBy}
use Rattle.lvm_kept.specs.Torn.{RecordWrite, IsOfRecord}
use Rattle.lvm_status.specs.Update.{Stored}
use Rattle.lvm_steps.specs.Moments.{ImagesKept}
use Rattle.lvm_steps.proofs.MakingLemmas.Making.{media_may}
use Rattle.lvm_rec.specs.declared.homes.Homes.{Homes}
use Rattle.lvm_write.specs.Written.{KeepsShelf, IsWriting}
use Rattle.lvm_write.proofs.WrittenLemmas.Writing.{if_told, told_at, both_from}
use Rattle.lvm_commit.specs.Committed.{next_stamp, IsAlike, HoldsCommitted}
use Rattle.lvm_commit.specs.LawsOfVolumes.{VolumesServe}
use Rattle.lvm_commit.specs.LawsOfFinding.{FindsNoMore, FindsNoMoreOn}
use Rattle.lvm_commit.specs.Settling.{there, IsOf, SessionIsHeld}
use Rattle.lvm_commit.specs.Rounds.{WasTried}
use Rattle.lvm_commit.proofs.LawsOfFindingLemmas.Finding.{descriptor_write_finds_no_more}
use Rattle.lvm_commit.proofs.LawsOfWritesLemmas.Writes.{descriptor_write_keeps, descriptor_is_held}
use Rattle.lvm_commit.proofs.LawsOfWritesLemmas.Holding.{told_before, framed, one_write, whole, held_at, by_at, later, written, there_written, stand}

module _ (first : Stored) (homes : Homes) (old : Device) (sectors : HasSectors old) (content : List ℕ) (next : Descriptor)
    (frames : Frames kind.Descriptor (framed first homes old sectors kind.Descriptor content)) (reads : descriptor_of content ≡ Ok next) where
  abbrev w : RecordWrite
  w = one_write first homes old sectors kind.Descriptor content

  pub descriptor_moment_kept :
      (d : Device) → IsWriting (IsOfRecord w) old d → is_some d.media ≡ is_some old.media → (group : Descriptor) (among : ℕ → Bool) (facts : List Fact) → SessionIsHeld old group first homes
      → IfSome old.media (λ media. VolumesServe (contents_of (image_of old.sizes media)) facts group among next) → ImagesKept old facts → ImagesKept d facts
  descriptor_moment_kept d writing same group among facts held serves kept image may =
      let m = told_before old d image same may in
      descriptor_write_keeps group next among first.committed (there first) first.stamp homes w.framed (image_of old.sizes m.0) image facts (whole first homes old sectors kind.Descriptor content m.0 m.1)
      (held_at first homes old sectors kind.Descriptor content group m.0 m.1 held) frames reads (told_at old.media (λ media. VolumesServe (contents_of (image_of old.sizes media)) facts group among next) m.0 m.1 serves)
      (later first homes old sectors kind.Descriptor content) (by_at first homes old sectors kind.Descriptor content d m.0 m.1 writing image may) (kept (image_of old.sizes m.0) (media_may old m.0 m.1))

  pub descriptor_moment_finds : (d : Device) → IsWriting (IsOfRecord w) old d → (group : Descriptor) → SessionIsHeld old group first homes → FindsNoMoreOn next old d
  descriptor_moment_finds d writing group held image may = if_told old.media (λ media. FindsNoMore next (contents_of (image_of old.sizes media)) (contents_of image)) (λ m told.
      descriptor_write_finds_no_more group next first.committed (there first) first.stamp homes w.framed (image_of old.sizes m) image (whole first homes old sectors kind.Descriptor content m told)
      (held_at first homes old sectors kind.Descriptor content group m told held) frames reads (later first homes old sectors kind.Descriptor content)
      (by_at first homes old sectors kind.Descriptor content d m told writing image may))

  module _ (last : Stored) (after : Homes) (new : Device) (number : ℕ) (keeps : KeepsShelf (there first) (IsOfRecord w) old new) (buf : Buffer)
      (tried : WasTried w number (record first { stamp = next_stamp first.stamp }) last homes after old new buf) (same : last.committed ≡ first.committed) (enough : CanWrite last.group (there last)) where
    abbrev on : Disks
    on = written first homes old sectors kind.Descriptor content last after new number keeps buf tried

    on_is : there last ≡ on
    on_is = there_written first homes old sectors kind.Descriptor content last after new number keeps buf tried

    can_write_next : (group : Descriptor) → IsOf group first → IsAlike next group → CanWrite next on
    can_write_next group own alike = subst (λ (g : Descriptor). CanWrite g on) (tried.group ∙ sym own ∙ sym alike) (subst (λ (set : Disks). CanWrite last.group set) on_is enough)

    pub descriptor_holds : (group : Descriptor) → IsOf group first → IsAlike next group → SessionIsHeld old group first homes → SessionIsHeld new next last after
    descriptor_holds group own alike held = if_told new.media (λ media. HoldsCommitted (image_of new.sizes media) next last.committed (there last) last.stamp after) (λ k told_new.
        let back = both_from old.media new.media (λ was is. ChangesBy (IsOfRecord w) (image_of old.sizes was) (image_of new.sizes is)) k keeps.media told_new in
        let is = descriptor_is_held group next first.committed (there first) on first.stamp homes after w.framed (image_of old.sizes back.0) (image_of new.sizes k)
        (whole first homes old sectors kind.Descriptor content back.0 back.1) (held_at first homes old sectors kind.Descriptor content group back.0 back.1 held) frames reads alike
        (later first homes old sectors kind.Descriptor content) (stand first homes old sectors kind.Descriptor content last after new number keeps buf tried back.0 k told_new back.2) (can_write_next group own alike) in
        subst (λ (s : Stamp). HoldsCommitted (image_of new.sizes k) next last.committed (there last) s after) (sym tried.stamp)
        (subst (λ (set : Disks). HoldsCommitted (image_of new.sizes k) next last.committed set w.framed.stamp after) (sym on_is)
        (subst (λ (s : Status). HoldsCommitted (image_of new.sizes k) next s on w.framed.stamp after) (sym same) is)))
