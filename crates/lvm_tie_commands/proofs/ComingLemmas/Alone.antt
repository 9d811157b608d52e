-- A group that a mkvg without force has made is the only one that the disks show.
use Rattle.std.proofs.Common.{◌≡◌, inl, inr, ⊎_elim, ℕ, Bool, true, false, ◌&&◌, not, if◌then◌else◌, List, [], ◌∷◌, Option, Some, None, refl, sym, ap, subst, ◌∙◌}
use Rattle.std.specs.Prelude.{IsTrue, IfSome}
use Rattle.lvm_num.specs.declared.record.Kind.TheVariants as kind
use Rattle.lvm_num.specs.declared.descriptor.Descriptor.{Descriptor}
use Rattle.lvm_num.specs.Buffer.{Sector}
use Rattle.lvm_num.specs.Descriptor.{is_member}
use Rattle.lvm_num.specs.DescriptorBytes.{descriptor_of}
use Rattle.lvm_num.specs.Record.{Stamped}
use Rattle.lvm_rec.specs.Slots.{newest_on}
use Rattle.lvm_disk.specs.Device.{Device, Image, Media, SameDisks, image_of}
use Rattle.lvm_disk.specs.Steps.{BothTold}
use Rattle.lvm_vol.specs.Log.{Log}
use Rattle.lvm_kept.specs.Contents.{Contents, contents_of, descriptor_on}
use Rattle.lvm_kept.specs.Plans.{ChangesBy}
use Rattle.lvm_kept.proofs.CommittedLemmas.Alike.{one_shown_is_one}
use Rattle.lvm_kept.proofs.PlacesLemmas.{data_writes, room-same}
use Rattle.lvm_status.specs.Update.{Updates, members_there}
use Rattle.lvm_commit.specs.Committed.{HoldsCommitted}
use Rattle.lvm_commit.specs.LawsOfVolumes.{IsOneFoundOn}
use Rattle.lvm_commit.proofs.LawsOfDataLemmas.Still.{still_image}
use Rattle.lvm_session.specs.State.{Core, State, is_there}
use Rattle.lvm_varyon.specs.passed.Write.{Beginning, IsOfParts, Part, TheDescriptor, TheNotes, TheStatus, new_order}
use Rattle.lvm_settled.specs.passed.Core.{Room}
use Rattle.lvm_group.specs.Made.{IsMade, beginning_for}
use Rattle.lvm_group.specs.NewGroup.{NewGroup, among, new_group, size_for}
use Rattle.lvm_group.specs.Shown.{HasGroup}
use Rattle.lvm_group.proofs.NewGroupLemmas.Groups.{member_among, nothing_missing}
use Rattle.lvm_tie_commands.specs.Coming.{MadeAlone}

-- what the parts of a beginning bring goes to its targets
to_target : (b : Beginning) (parts : List Part) (d s : ℕ) (value : Sector) → IsOfParts b parts d s value → IsTrue (b.targets d)
to_target b [] d s value none = absurd none
to_target b (TheDescriptor ∷ parts) d s value (inl its) = its.target
to_target b (TheStatus ∷ parts) d s value (inl its) = its.target
to_target b (TheNotes ∷ parts) d s value (inl its) = its.target
to_target b (part ∷ parts) d s value (inr later) = to_target b parts d s value later

-- the media before, where it is told after
told_first : (a b : Option Media) (R : Media → Media → Type 0) (m : Media) → b ≡ Some m → BothTold a b R → (n : Media) × (a ≡ Some n) × R n m
told_first None None R m told both = absurd (cc told)
told_first None (Some x) R m told both = absurd both
told_first (Some n) None R m told both = absurd both
told_first (Some n) (Some x) R m told both = (n, refl, let same : x ≡ m = cc told in subst (R n) same both)

-- a disk whose sectors are the same shows the same descriptor
same_shown : (old new : Image) (d : ℕ) → SameDisks old new → ((s : ℕ) → new.sector d s ≡ old.sector d s) → descriptor_on new d ≡ descriptor_on old d
unfolding descriptor_on
same_shown old new d same sectors = λ t. if room-same old new same d t then newest_on descriptor_of kind.Descriptor (λ s. sectors s t) else None

module _ (w : NewGroup) (room : Room) (was : Log) (old : Device) (s : State) (media : Media) (made : IsMade w room was old s.device s.core) (told : s.device.media ≡ Some media)
    (held : HoldsCommitted (image_of s.device.sizes media) s.core.descriptor s.core.status.committed (is_there s.core) s.core.status.stamp s.core.homes) (unforced : w.force ≡ false) where
  abbrev c : Contents
  c = contents_of (image_of s.device.sizes media)

  there_is : (d : ℕ) → is_there s.core d ≡ among w.disks d
  there_is d =
      ap (λ (core : Core). is_there core d) made.core_is
      ∙ ap (λ (g : Descriptor). members_there g made.reserved.updater.wanted d) made.parts.descriptor
      ∙ ap (λ (u : Updates). members_there (new_group old.sizes w) u.wanted d) made.parts.status
      ∙ ap (λ (b : Bool). is_member (new_group old.sizes w) d && not b) (nothing_missing w.disks w.moment d)
      ∙ and_true (is_member (new_group old.sizes w) d)
      ∙ member_among old.sizes w.name (size_for old.sizes w.disks w.mib) w.disks w.moment d
    where
      and_true : (b : Bool) → b && true ≡ b
      and_true true = refl
      and_true false = refl

  its_id : s.core.descriptor.id ≡ w.moment
  its_id = ap (λ (core : Core). core.descriptor.id) made.core_is ∙ ap (λ (g : Descriptor). g.id) made.parts.descriptor

  first : (n : Media) × (old.media ≡ Some n) × ChangesBy (IsOfParts (beginning_for old.sizes w made.homes) new_order) (image_of old.sizes n) (image_of s.device.sizes media)
  first = told_first old.media s.device.media (λ (n m : Media). ChangesBy (IsOfParts (beginning_for old.sizes w made.homes) new_order) (image_of old.sizes n) (image_of s.device.sizes m)) media told made.only.media

  is_new : (d : ℕ) (r : Stamped Descriptor) → c.descriptor d ≡ Some r → r.value.id ≡ w.moment
  is_new d r shown = by (among w.disks d) refl
    where
      by : (b : Bool) → among w.disks d ≡ b → r.value.id ≡ w.moment
      by true one =
          let described : c.descriptor d ≡ Some held.shows.descriptor = held.shows.described d (there_is d ∙ one) in
          let both : Some r ≡ Some held.shows.descriptor = sym shown ∙ described in
          let same : r ≡ held.shows.descriptor = cc both in
          ap (λ (x : Stamped Descriptor). x.value.id) same ∙ ap (λ (g : Descriptor). g.id) held.shows.value ∙ its_id
      by false other =
          let sectors : (k : ℕ) → media d k ≡ first.0 d k = λ k. ⊎_elim
          (λ (same : media d k ≡ first.0 d k). same)
          (λ (put : IsOfParts (beginning_for old.sizes w made.homes) new_order d k (media d k)). absurd (let no : true ≡ false = sym (to_target (beginning_for old.sizes w made.homes) new_order d k (media d k) put) ∙ other in cc no))
          (first.2.each d k) in
          let before : (contents_of (image_of old.sizes first.0)).descriptor d ≡ Some r = sym (same_shown (image_of old.sizes first.0) (image_of s.device.sizes media) d first.2.same sectors) ∙ shown in
          let free = subst (λ (o : Option Media). IfSome o (λ (m : Media). HasGroup (contents_of (image_of old.sizes m)) w.force → ⊥)) first.1 made.clear.free.free in
          absurd (free (record { disk = d; newest = r; on = before; with_force = λ forced. absurd (let no : true ≡ false = sym forced ∙ unforced in cc no) }))

  pub alone : IsOneFoundOn s.device
  alone image may =
      let same = still_image s.device media told made.rested.ready.flights image may in
      let shows : (d : ℕ) → (contents_of image).descriptor d ≡ c.descriptor d = λ d. ap (λ (x : Contents). x.descriptor d) (data_writes (image_of s.device.sizes media) image same) in
      one_shown_is_one (contents_of image) (λ d e r q one other. is_new d r (sym (shows d) ∙ one) ∙ sym (is_new e q (sym (shows e) ∙ other)))

pub made_alone : MadeAlone
made_alone was w room old s media made it clock facts kept told unforced =
    alone w room was old s media made told (subst (λ (o : Option Media). IfSome o (λ (m : Media). HoldsCommitted (image_of s.device.sizes m) s.core.descriptor s.core.status.committed (is_there s.core) s.core.status.stamp s.core.homes)) told (it.started.held facts clock kept).held) unforced
