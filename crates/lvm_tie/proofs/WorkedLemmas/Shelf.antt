-- The shelf of a session that has just begun.
use Rattle.std.proofs.Common.{◌≡◌, inr, ℕ, zero, suc, ◌+◌, ◌<◌, Bool, true, false, ◌&&◌, ◌||◌, ◌==◌, take, Some, refl, sym, ap, subst, ◌∙◌, arith, eqb-true}
use Rattle.std.specs.Prelude.{IsTrue, if◌then◌else◌}
use Rattle.std.proofs.lemmas.Bool.{ne_eqb}
use Rattle.lvm_num.specs.declared.descriptor.Mode.{Mode}
use Rattle.lvm_num.specs.declared.descriptor.Mode.TheVariants.{Active, Passive, Off}
use Rattle.lvm_num.specs.declared.record.Kind.{Kind}
use Rattle.lvm_num.specs.declared.record.Kind.TheVariants as kind
use Rattle.lvm_num.specs.Buffer.{Sector, zero_sector, IsSector}
use Rattle.lvm_num.specs.Disks.{has}
use Rattle.lvm_num.specs.Descriptor.{is_member}
use Rattle.lvm_num.specs.Record.{frame, slot_start, slot_size, kind_magic, stamp_lt}
use Rattle.lvm_num.specs.Torn.{stamp_of}
use Rattle.lvm_num.specs.StatusBytes.{status_of}
use Rattle.lvm_num.proofs.Booleans.{not_so, some_if, not_either}
use Rattle.lvm_rec.specs.Slots.{slot_for, slot_to_write}
use Rattle.lvm_kept.specs.Contents.{contents_of, descriptor_on, status_on}
use Rattle.lvm_kept.specs.Examples.{either_of, stamped, two}
use Rattle.lvm_kept.specs.Group.{has_room, is_of, passes}
use Rattle.lvm_kept.proofs.TornLemmas.Standing.{zeros-sector}
use Rattle.lvm_steps.specs.Behind.{StampsBefore}
use Rattle.lvm_disk.specs.Device.{IsWholeImage}
use Rattle.lvm_commit.specs.Committed.{next_stamp}
use Rattle.lvm_rec.specs.Homes.{next_slot}
use Rattle.lvm_even.specs.Members.{members_showing}
use Rattle.lvm_crash.specs.Worked.{Shown, framed_group, framed_status, media_of, status_shown}
use Rattle.lvm_crash.proofs.WorkedLemmas.Worked.{base}
use Rattle.lvm_even.proofs.Lists.{left_of}
use Rattle.lvm_crash.proofs.WorkedLemmas.Shelf.{image, second_zero, status_held, status_none, statuses_on, the_status, descriptors}
use Rattle.lvm_even.proofs.ExamplesLemmas.Slots.{no-magic}
use Rattle.lvm_tie.specs.Out.{MayUpdate}
use Rattle.lvm_tie.specs.Tied.{ShowsRecords}
use Rattle.lvm_tie.specs.Worked.{shown, core_of}
use Rattle.lvm_tie.proofs.PairsLemmas.Pairs.{tested}

-- ---- sectors

group_sector : (mode : Mode) → IsSector (frame kind.Descriptor (framed_group mode).stamp (framed_group mode).content 0)
group_sector Active = tested _ refl refl
group_sector Passive = tested _ refl refl
group_sector Off = tested _ refl refl

status_sector : (mode : Mode) (stale : Bool) → IsSector (frame kind.Status (framed_status (shown mode stale)).stamp (framed_status (shown mode stale)).content 0)
status_sector mode true = tested _ refl refl
status_sector mode false = tested _ refl refl

-- a member is one of the two
pub at_both : (mode : Mode) (P : ℕ → Type 0) → P 0 → P 1 → (d : ℕ) → is_member (two mode) d ≡ true → P d
at_both mode P first second d is = by (0 == d) (1 == d) refl refl is
  where
    by : (a b : Bool) → (0 == d) ≡ a → (1 == d) ≡ b → a || (b || false) ≡ true → P d
    by true b e f h = subst P (eqb-true 0 d e) first
    by false true e f h = subst P (eqb-true 1 d f) second
    by false false e f h = not_so h

module _ (mode : Mode) (stale : Bool) where
  abbrev w : Shown
  w = shown mode stale

  whole : IsWholeImage (image w)
  whole d s low = by (s == slot_start kind.Descriptor 0) (s == slot_start kind.Status 0)
    where
      by : (a b : Bool) → IsSector (if a then frame kind.Descriptor (framed_group mode).stamp (framed_group mode).content 0 else if b then frame kind.Status (framed_status w).stamp (framed_status w).content 0 else zero_sector)
      by true b = group_sector mode
      by false true = status_sector mode stale
      by false false = zeros-sector

  zero_else : (d s : ℕ) → (s ≡ 512 → ⊥) → (s ≡ 64 → ⊥) → media_of w d s ≡ zero_sector
  zero_else d s a b = by (s == 512) (s == 64) (ne_eqb s 512 a) (ne_eqb s 64 b)
    where
      by : (a b : Bool) → a ≡ false → b ≡ false
          → (if a then frame kind.Descriptor (framed_group mode).stamp (framed_group mode).content 0 else if b then frame kind.Status (framed_status w).stamp (framed_status w).content 0 else zero_sector) ≡ zero_sector
      by true b e f = not_either e
      by false true e f = not_either f
      by false false e f = refl

  -- ---- stamps

  no_record : (kind : Kind) (sector : Sector) → sector ≡ zero_sector → take 2 sector ≡ kind_magic kind → stamp_lt (stamp_of sector) (record { epoch = 50; seq = 3 }) ≡ true
  no_record kind sector is magic = absurd (no-magic kind (sym (ap (take 2) is) ∙ magic))

  first_slot : (kind : Kind) (d k : ℕ) → k < slot_size kind → take 2 (media_of w d (slot_start kind 0 + k)) ≡ kind_magic kind → stamp_lt (stamp_of (media_of w d (slot_start kind 0 + k))) (record { epoch = 50; seq = 3 }) ≡ true
  first_slot kind.Descriptor d zero low magic = refl
  first_slot kind.Descriptor d (suc k) low magic = no_record kind.Descriptor (media_of w d (512 + suc k)) (zero_else d (512 + suc k) (λ e. omega (arith, e)) (λ e. omega (arith, e))) magic
  first_slot kind.Status d zero low magic = refl
  first_slot kind.Status d (suc k) low magic = no_record kind.Status (media_of w d (64 + suc k)) (zero_else d (64 + suc k) (λ e. omega (arith, e, low)) (λ e. omega (arith, e))) magic

  stamps : StampsBefore (next_stamp (core_of mode stale).status.stamp) (image w)
  stamps kind d zero there two k low magic = first_slot kind d k low magic
  stamps kind d (suc zero) there two k low magic = no_record kind (media_of w d (slot_start kind 1 + k)) (second_zero w kind d k low) magic
  stamps kind d (suc (suc slot)) there two k low magic = absurd (omega (arith, two))

  -- ---- slots

  -- the next status goes to the second slots of both
  second_next : (d : ℕ) → is_member (two mode) d ≡ true → next_slot kind.Status (core_of mode stale).homes d ≡ 1
  unfolding has
  second_next d is = at_both mode (λ (n : ℕ). next_slot kind.Status (core_of mode stale).homes n ≡ 1) refl refl d is

  second_free : (d : ℕ) → slot_for status_of kind.Status (media_of w d) ≡ 1
  second_free d = let first = status_held w d in let second = status_none w d in λ t. slot_to_write (first t) (second t)

  pub may_update : MayUpdate (two mode) (core_of mode stale).status (core_of mode stale).homes (image w)
  may_update = record {
    some_epoch = λ e. omega (arith, e);
    epoch = omega arith;
    whole = whole;
    before = stamps;
    spare = λ d there owed. second_next d (left_of (is_member (two mode) d) _ there) ∙ sym (second_free d);
  }

  -- ---- members

  -- a member shows the group and has room for its records, where it shows its descriptor
  shows_group : (d : ℕ) → IsTrue (members_showing (record (contents_of (image w)) { descriptor = (base mode).descriptor }) (two mode) d) → IsTrue (members_showing (contents_of (image w)) (two mode) d)
  shows_group d is = ap (λ o. passes (is_of 50) o && has_room (contents_of (image w)) d (two mode)) (descriptors w d) ∙ is

  pub members : (d : ℕ) → is_member (two mode) d ≡ true → IsTrue (members_showing (contents_of (image w)) (two mode) d)
  members d is = at_both mode (λ (n : ℕ). IsTrue (members_showing (contents_of (image w)) (two mode) n)) (shows_group 0 refl) (shows_group 1 refl) d is

  -- ---- records

  pub records : ShowsRecords (two mode) (core_of mode stale).status (contents_of (image w))
  records = record {
    descriptor = stamped 2 (two mode);
    value = refl;
    described = λ d there. at_both mode (λ (n : ℕ). descriptor_on (image w) n ≡ Some (stamped 2 (two mode))) (descriptors w 0) (descriptors w 1) d (left_of (is_member (two mode) d) _ there);
    latest = λ d r is own. inr (some_if (either_of 0 1 d) (stamped 2 (two mode)) r (sym (descriptors w d) ∙ is));
    settled = λ none. record {
      stands = status_shown w;
      committed = refl;
      own = refl;
      stated = λ d there. at_both mode (λ (n : ℕ). status_on (image w) n ≡ Some (status_shown w)) (statuses_on w 0) (statuses_on w 1) d (left_of (is_member (two mode) d) _ there);
      last = λ d r is own. inr (the_status w d r is);
    };
  }
