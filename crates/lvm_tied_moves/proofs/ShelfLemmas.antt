-- What stands on the disks of the written-out session.
use Rattle.std.proofs.Common.{◌≡◌, ℕ, Bool, true, false, ◌&&◌, ◌==◌, if◌then◌else◌, take, Option, Some, None, refl, sym, ap, subst, ◌∙◌, arith}
use Rattle.std.proofs.lemmas.Bool.{ne_eqb}
use Rattle.lvm_num.specs.declared.place.Pp.{Pp}
use Rattle.lvm_num.specs.declared.descriptor.Mode.{Mode}
use Rattle.lvm_num.specs.declared.record.Framed.{Framed}
use Rattle.lvm_num.specs.declared.record.Kind.TheVariants as kind
use Rattle.lvm_num.specs.Buffer.{IsSector, Sector, zero_sector}
use Rattle.lvm_num.specs.Descriptor.{is_member}
use Rattle.lvm_num.specs.DescriptorBytes.{descriptor_of}
use Rattle.lvm_num.specs.Disks.{has}
use Rattle.lvm_num.specs.Geometry.{sector_of}
use Rattle.lvm_num.specs.Record.{Stamped, frame, newer, record_in, slot_start}
use Rattle.lvm_num.specs.Torn.{slot_at}
use Rattle.lvm_num.proofs.Booleans.{not_either}
use Rattle.lvm_num.proofs.TornLemmas.Fresh.{before_is_older}
use Rattle.lvm_rec.specs.Slots.{held, newest_on, read_under, slot_of, slot_to_write}
use Rattle.lvm_rec.specs.Homes.{next_slot}
use Rattle.std.specs.Prelude.{option_and_then}
use Rattle.lvm_kept.specs.Contents.{contents_of, descriptor_on}
use Rattle.lvm_kept.specs.Examples.{stamped, two}
use Rattle.lvm_kept.specs.Group.{block_at, has_room, is_of, passes}
use Rattle.lvm_kept.proofs.PlacesLemmas.{blocks_are_sectors}
use Rattle.lvm_kept.proofs.TornLemmas.Standing.{zeros-sector}
use Rattle.lvm_even.specs.Members.{members_showing}
use Rattle.lvm_even.proofs.ExamplesLemmas.Slots.{never_before, no-magic, none_or}
use Rattle.lvm_even.proofs.Lists.{left_of}
use Rattle.lvm_crash.specs.Session.{Describes, HasVolumes, marks_shown}
use Rattle.lvm_crash.specs.Worked.{Shown, framed_group, framed_status, media_of}
use Rattle.lvm_crash.proofs.WorkedLemmas.Shelf.{descriptors, image, second_zero, statuses_on}
use Rattle.lvm_crash.proofs.WorkedLemmas.Worked.{groups_have_votes}
use Rattle.lvm_tie.specs.Spares.{SparesDescriptors}
use Rattle.lvm_tie.specs.Worked.{shown}
use Rattle.lvm_tie.proofs.WorkedLemmas.Seen.{it_describes}
use Rattle.lvm_tie.proofs.WorkedLemmas.Shelf.{at_both}
use Rattle.lvm_move_tie.specs.Worked.{its_place, moved_state, shown_disks}
use Rattle.lvm_move_tie.proofs.WorkedLemmas.{places_may_be_taken}
use Rattle.lvm_tied_moves.specs.Worked.{moved}
use Rattle.lvm_tied_moves.proofs.ViewLemmas.{seen_as}

-- the slot that isn't the newest one's, where the second holds nothing
second_is_next : {X : Type 0} (first second : Option (Stamped X)) (x : Stamped X) → second ≡ None → newer first second ≡ Some x → slot_to_write first second ≡ 1
second_is_next None second x none newest = absurd (let e : None ≡ Some x = sym none ∙ newest in cc e)
second_is_next (Some a) None x none newest = refl
second_is_next (Some a) (Some b) x none newest = absurd (let e : Some b ≡ None = none in cc e)

module _ (mode : Mode) where
  abbrev w : Shown
  w = shown mode false

  -- ---- the blocks

  zero_else : (d s : ℕ) → (s ≡ 512 → ⊥) → (s ≡ 64 → ⊥) → media_of w d s ≡ zero_sector
  zero_else d s a b = by (s == 512) (s == 64) (ne_eqb s 512 a) (ne_eqb s 64 b)
    where
      by : (a b : Bool) → a ≡ false → b ≡ false
          → (if a then frame kind.Descriptor (framed_group mode).stamp (framed_group mode).content 0 else if b then frame kind.Status (framed_status w).stamp (framed_status w).content 0 else zero_sector) ≡ zero_sector
      by true b e f = not_either e
      by false true e f = not_either f
      by false false e f = refl

  zeros : (b : ℕ) (p : Pp) → zero_sector ≡ block_at (contents_of (image w)) (two mode).mib p b
  zeros b p = sym (blocks_are_sectors (image w) (two mode).mib b p ∙ zero_else p.disk (sector_of (two mode).mib p.pp b) (λ e. omega (arith, e)) (λ e. omega (arith, e)))

  -- ---- it describes them

  members_same : members_showing (shown_disks mode) (two mode) ≡ members_showing (contents_of (image w)) (two mode)
  members_same = let on = descriptors w in λ t d. passes (is_of 50) (sym (on d) t) && has_room (shown_disks mode) d (two mode)

  volumes : HasVolumes (seen_as mode) (seen_as mode).facts (two mode) (members_showing (contents_of (image w)) (two mode))
  volumes =
      let votes = groups_have_votes (two mode) in
      let m = subst (HasVolumes (moved_state mode) (moved_state mode).facts (two mode)) members_same (places_may_be_taken mode votes.0 votes.1).describes.volumes in
      record { copies = m.copies; free = m.free; inside = m.inside; some = m.some; notes = m.notes; mark = m.mark; modes = m.modes; history = m.history }

  pub describes : Describes (seen_as mode) (seen_as mode).facts (two mode) None (contents_of (image w))
  describes = let old = it_describes mode false in record {
    stands = old.stands;
    volumes = volumes;
    shown = record {
      blocks = λ lv b p copy. zeros b p;
      names = λ d lv g. old.shown.names d lv g;
      status = λ d. ap (marks_shown (Some its_place) 50) (sym (statuses_on w d));
      statuses = record { same = refl; own = λ u e. absurd cc; once = old.shown.statuses.once; new = λ u d r e is ids stamps. absurd cc };
    };
    raw = old.raw;
  }

  -- ---- its newest descriptors are spared

  second_none : (d : ℕ) → held descriptor_of kind.Descriptor (slot_of kind.Descriptor 1 (media_of w d)) ≡ None
  second_none d = ap (λ (o : Option Framed). option_and_then (λ r. read_under r.stamp (descriptor_of r.content)) o)
      (none_or (record_in kind.Descriptor (slot_at kind.Descriptor (slot_start kind.Descriptor 1) (media_of w d))) (λ r is. never_before r.stamp.epoch r.stamp.seq
      (before_is_older kind.Descriptor (record { epoch = 0; seq = 0 }) (slot_start kind.Descriptor 1) (media_of w d)
      (λ k low. subst (λ (x : Sector). IsSector x) (sym (second_zero w kind.Descriptor d k low)) zeros-sector)
      (λ k low magic. absurd (no-magic kind.Descriptor (ap (take 2) (sym (second_zero w kind.Descriptor d k low)) ∙ magic)))
      r is)))

  newest : (d : ℕ) → is_member (two mode) d ≡ true → newest_on descriptor_of kind.Descriptor (media_of w d) ≡ Some (stamped 2 (two mode))
  unfolding descriptor_on
  newest d is = at_both mode (λ (n : ℕ). newest_on descriptor_of kind.Descriptor (media_of w n) ≡ Some (stamped 2 (two mode))) (descriptors w 0) (descriptors w 1) d is

  second_next : (d : ℕ) → is_member (two mode) d ≡ true → next_slot kind.Descriptor (moved mode).core.homes d ≡ 1
  unfolding has
  second_next d is = at_both mode (λ (n : ℕ). next_slot kind.Descriptor (moved mode).core.homes n ≡ 1) refl refl d is

  pub spares : SparesDescriptors (moved mode)
  spares d there =
      let member = left_of (is_member (two mode) d) _ there in
      second_next d member ∙ sym (second_is_next (held descriptor_of kind.Descriptor (slot_of kind.Descriptor 0 (media_of w d))) (held descriptor_of kind.Descriptor (slot_of kind.Descriptor 1 (media_of w d))) (stamped 2 (two mode)) (second_none d) (newest d member))
