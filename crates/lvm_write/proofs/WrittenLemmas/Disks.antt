-- A record written to one disk after another.
use Rattle.std.proofs.Common.{◌≡◌, inl, inr, ⊎_elim, ℕ, ◌+◌, ◌<◌, ◌≤◌, Bool, true, false, IfSome, IsTrue, IsFalse, length, refl, sym, ◌∙◌, ap, subst, arith}
use Rattle.std.specs.Prelude.{◌==◌, ◌&&◌, ◌||◌, not, nat_lt, if◌then◌else◌}
use Rattle.std.proofs.lemmas.Bool.{cases_lt, eqb-true, ne_eqb, lt-ltb}
use Rattle.std.proofs.lemmas.Bool.Decides.{nat_tests, eqb_tells}
use Rattle.lvm_num.specs.declared.record.Kind.{Kind}
use Rattle.lvm_num.specs.Buffer.{Buffer, Sector}
use Rattle.lvm_num.specs.Disks.{Disks, has}
use Rattle.lvm_num.specs.Record.{frame, record_sectors, slot_start}
use Rattle.lvm_num.proofs.Booleans.{none_below}
use Rattle.lvm_disk.specs.Device.{Media, Device, IsReady, image_of}
use Rattle.lvm_quorum.specs.passed.Transfer.{ChangesBy, RecordWrite, IsOfRecord, StandsOn, Moved, Homes, second_slots, next_slot, Flips}
use Rattle.lvm_quorum.proofs.passed.Kept.{never}
use Rattle.lvm_quorum.specs.passed.TransferMovesMoved as moved
use Rattle.lvm_write.specs.declared.write.SlotWrite.{SlotWrite}
use Rattle.lvm_write.specs.declared.write.Wrote.TheVariants as wrote
use Rattle.lvm_write.specs.Written.{write_of, HaveRoom, KeepsShelf, StandsTold, written_well}
use Rattle.lvm_write.specs.Writes.{DiskWritesLeave, RecordWritesEnd}
use Rattle.lvm_write.specs.Parts.{write_to, PartsStand, WritesPart}
use Rattle.lvm_quorum.proofs.Passing.{lt_not, lt_other, lt_same, neither, or_itself, or_other}
use Rattle.lvm_write.proofs.WrittenLemmas.Writing.{logs_wider, if_told, told_at, both_map, changes_more, moments_wider, parts_stay}
use Rattle.lvm_write.proofs.WritesLemmas.{TriedDisks, nothing_tried, none_here, well_here, badly_here, leaves_here, dark_here, stuck_here, no_more, tried_ends}

-- ---- what stands of the record

part_told : (w : RecordWrite) (d : ℕ) → Media → Type 0
part_told w d media = (k : ℕ) → 0 ≤ k → k < record_sectors (length w.framed.content) → media d (slot_start w.kind (w.slots d) + k) ≡ frame w.kind w.framed.stamp w.framed.content k

pub all_stands : (w : RecordWrite) (device : Device) (d : ℕ) → PartsStand w device d 0 (record_sectors (length w.framed.content)) → StandsTold w device d
unfolding part_told
all_stands w device d parts = if_told device.media (λ media. StandsOn w (image_of device.sizes media) d) (λ m told k inside. told_at device.media (part_told w d) m told parts k (omega arith) inside)

parts_of : (w : RecordWrite) (device : Device) (d : ℕ) → StandsTold w device d → PartsStand w device d 0 (record_sectors (length w.framed.content))
unfolding part_told
parts_of w device d stands = if_told device.media (part_told w d) (λ m told k low inside. told_at device.media (λ media. StandsOn w (image_of device.sizes media) d) m told stands k inside)

still_stands : (w : RecordWrite) (now new : Device) (d : ℕ) → KeepsShelf w.targets (IsOfRecord w) now new → StandsTold w now d → StandsTold w new d
still_stands w now new d keeps stands = all_stands w new d (parts_stay w now new keeps.media d 0 (record_sectors (length w.framed.content)) (parts_of w now d stands))

-- ---- the write to one disk is a part of all

module _ (one : SlotWrite) (targets : Disks) (homes : Homes) (target : IsTrue (targets one.disk)) (second : one.second ≡ second_slots one.kind homes one.disk) where
  all_of : RecordWrite
  all_of = write_of one.kind (record { stamp = one.stamp; content = one.content.now }) targets homes

  slot_same : (if one.second then 1 else 0) ≡ next_slot one.kind homes one.disk
  slot_same = ap (λ (b : Bool). if b then 1 else 0) second

  of_all : (d s : ℕ) (value : Sector) → IsOfRecord (write_to one) d s value → IsOfRecord (write_of one.kind (record { stamp = one.stamp; content = one.content.now }) targets homes) d s value
  of_all d s value is =
      let here : d ≡ one.disk = eqb-true d one.disk is.target in
      record {
        target = subst (λ (x : ℕ). IsTrue (targets x)) (sym here) target;
        its = record {
          part = is.its.part;
          inside = is.its.inside;
          place = is.its.place ∙ ap (λ (slot : ℕ). slot_start one.kind slot + is.its.part) (slot_same ∙ ap (next_slot one.kind homes) (sym here));
          is = is.its.is;
        };
      }

  off_disk : (d : ℕ) → IsFalse (targets d) → IsFalse (d == one.disk)
  off_disk d off = elim (eqb_tells d one.disk) [
    | inl same ↦ absurd (never (targets one.disk) target (subst (λ (x : ℕ). IsFalse (targets x)) same.1 off))
    | inr differ ↦ differ.0
  ]

  -- nothing starts on another disk
  pub starts_alone : (number p q : ℕ) (old new : Device) (how : Moved) → WritesPart (write_to one) one.disk number p q old new how → (d : ℕ) → (d ≡ one.disk → ⊥) → new.counts.starts d ≡ old.counts.starts d
  starts_alone number p q old new how part d differ = part.keeps.starts d (ne_eqb d one.disk differ)

  pub part_of_all :
      (number p q : ℕ) (old new : Device) (how : Moved) → WritesPart (write_to one) one.disk number p q old new how
      → WritesPart (write_of one.kind (record { stamp = one.stamp; content = one.content.now }) targets homes) one.disk number p q old new how
  unfolding all_of
  part_of_all number p q old new how part = record {
    keeps = record {
      sizes = part.keeps.sizes;
      arranges = part.keeps.arranges;
      orders = part.keeps.orders;
      misses = part.keeps.misses;
      starts = λ d off. part.keeps.starts d (off_disk d off);
      faults = λ d off. part.keeps.faults d (off_disk d off);
      wrote = logs_wider (IsOfRecord (write_to one)) (IsOfRecord all_of) old.wrote new.wrote of_all part.keeps.wrote;
      media = both_map old.media new.media
          (λ was is. ChangesBy (IsOfRecord (write_to one)) (image_of old.sizes was) (image_of new.sizes is))
          (λ was is. ChangesBy (IsOfRecord all_of) (image_of old.sizes was) (image_of new.sizes is)) part.keeps.media
          (λ m k a b by. changes_more (IsOfRecord (write_to one)) (IsOfRecord all_of) (image_of old.sizes m) (image_of new.sizes k) of_all by);
    };
    counts = part.counts;
    rests = part.rests;
    spends = part.spends;
    leaves = part.leaves;
    buffer = part.buffer;
    moments = moments_wider (IsOfRecord (write_to one)) (IsOfRecord all_of) of_all old new part.moments;
  }

  pub stands_of_all :
      (device : Device) → PartsStand (write_to one) device one.disk 0 (record_sectors (length one.content.now))
      → StandsTold (write_of one.kind (record { stamp = one.stamp; content = one.content.now }) targets homes) device one.disk
  unfolding all_of
  stands_of_all device parts = all_stands all_of device one.disk
      (subst (λ (slot : ℕ). IfSome device.media (λ media. (k : ℕ) → 0 ≤ k → k < record_sectors (length one.content.now) → media one.disk (slot_start one.kind slot + k) ≡ frame one.kind one.stamp one.content.now k)) slot_same parts)

-- ---- which slots come next

pub flips_same : (kind : Kind) (p q : Disks) (old new : Homes) → ((d : ℕ) → p d ≡ q d) → Flips kind p old new → Flips kind q old new
flips_same kind p q old new same flips = record {
  own = λ d. flips.own d ∙ ap (λ (b : Bool). if b then not (second_slots kind old d) else second_slots kind old d) (same d);
  other = flips.other;
}

flips_none : (kind : Kind) (p : Disks) (homes : Homes) → ((d : ℕ) → IsFalse (p d)) → Flips kind p homes homes
flips_none kind p homes none = record {
  own = λ d. sym (ap (λ (b : Bool). if b then not (second_slots kind homes d) else second_slots kind homes d) (none d));
  other = λ k differ d. refl;
}

-- ---- disk after disk

-- the targets below a disk that didn't fail
abbrev pub well_below : Disks → ℕ → ℕ → Disks
well_below targets failed n d = nat_lt d n && written_well targets (has failed) d

-- the record was written to the targets below a disk, or tried
pub record WroteDisks (w : RecordWrite) (number before after : ℕ) (old now : Device) (first homes : Homes) (failed : ℕ) (buf : Buffer) (n : ℕ) : Type 0 where
  pub all : TriedDisks w.targets (IsOfRecord w) (StandsTold w) number before after old now failed buf n
  pub flips : Flips w.kind (well_below w.targets failed n) first homes

pub none_tried : (w : RecordWrite) (patience : ℕ) (old : Device) (homes : Homes) (failed : ℕ) (buf : Buffer) → IsReady old → ((d : ℕ) → IsFalse (has failed d)) → WroteDisks w buf.number patience patience old old homes homes failed buf 0
none_tried w patience old homes failed buf ready empty = record {
  all = nothing_tried w.targets (IsOfRecord w) (StandsTold w) (still_stands w) patience old failed buf ready empty;
  flips = flips_none w.kind (well_below w.targets failed 0) homes (λ d. ap (λ (b : Bool). b && written_well w.targets (has failed) d) (none_below d));
}

-- the write to the next disk has ended
module _ (w : RecordWrite) (number p q : ℕ) (old now : Device) (first homes : Homes) (failed : ℕ) (buf : Buffer) (n : ℕ) (so_far : WroteDisks w number p q old now first homes failed buf n) where
  flips_on : (next : Homes) (more : ℕ) → ((d : ℕ) → (d ≡ n → ⊥) → has more d ≡ has failed d) → Flips w.kind (λ d. d == n && written_well w.targets (has more) d) homes next → Flips w.kind (well_below w.targets more (n + 1)) first next
  flips_on next more others flips = record {
    own = λ d.
        let V : Bool = second_slots w.kind first d in
        let H : Bool = second_slots w.kind homes d in
        elim (eqb_tells d n) [
          | inl same ↦
              flips.own d ∙ ap (λ (b : Bool). if b && written_well w.targets (has more) d then not H else H) same.0
              ∙ ap (λ (v : Bool). if written_well w.targets (has more) d then not v else v) (so_far.flips.own d ∙ ap (λ (b : Bool). if b && written_well w.targets (has failed) d then not V else V) (lt_not d n same.1))
              ∙ ap (λ (b : Bool). if b && written_well w.targets (has more) d then not V else V) (sym (lt_same d n same.1))
          | inr differ ↦
              flips.own d ∙ ap (λ (b : Bool). if b && written_well w.targets (has more) d then not H else H) differ.0 ∙ so_far.flips.own d
              ∙ ap (λ (b : Bool). if nat_lt d n && (w.targets d && not b) then not V else V) (sym (others d differ.1))
              ∙ ap (λ (b : Bool). if b && written_well w.targets (has more) d then not V else V) (sym (lt_other d n differ.1))
        ];
    other = λ k differ d. flips.other k differ d ∙ so_far.flips.other k differ d;
  }

  -- the slot of a disk that wasn't tried yet is the first one
  pub slot_still : second_slots w.kind homes n ≡ second_slots w.kind first n
  slot_still = so_far.flips.own n ∙ ap (λ (b : Bool). if b && written_well w.targets (has failed) n then not (second_slots w.kind first n) else second_slots w.kind first n) (lt_not n n refl)

  -- it is no target
  pub disk_skipped : IsFalse (w.targets n) → WroteDisks w number p q old now first homes failed buf (n + 1)
  disk_skipped off = record {
    all = none_here w.targets (IsOfRecord w) (StandsTold w) (still_stands w) number p q old now failed buf n so_far.all off;
    flips = flips_on homes failed (λ d differ. refl) (flips_none w.kind (λ d. d == n && written_well w.targets (has failed) d) homes (λ d. no_target w.targets failed n d off));
  }
    where
      no_target : (targets : Disks) (failed n d : ℕ) → IsFalse (targets n) → IsFalse (d == n && written_well targets (has failed) d)
      no_target targets failed n d off = elim (eqb_tells d n) [
        | inl same ↦ ap (λ (b : Bool). b && written_well targets (has failed) d) same.0 ∙ ap (λ (x : ℕ). targets x && not (has failed d)) same.1 ∙ ap (λ (b : Bool). b && not (has failed d)) off
        | inr differ ↦ ap (λ (b : Bool). b && written_well targets (has failed) d) differ.0
      ]

  module _ (r : ℕ) (new : Device) (back : Buffer) (target : IsTrue (w.targets n)) (alone : (d : ℕ) → (d ≡ n → ⊥) → new.counts.starts d ≡ now.counts.starts d) where
    -- all of the record stands there
    pub disk_written : (next : Homes) → WritesPart w n buf.number q r now new (moved.Done back) → StandsTold w new n → Flips w.kind (λ d. d == n) homes next → WroteDisks w number p r old new first next failed back (n + 1)
    disk_written next part stands flips = record {
      all = well_here w.targets (IsOfRecord w) (StandsTold w) (still_stands w) number p q old now failed buf n so_far.all r new back target alone part stands;
      flips = flips_on next failed (λ d differ. refl)
          (flips_same w.kind (λ d. d == n) (λ d. d == n && written_well w.targets (has failed) d) homes next (λ d. is_well w.targets failed n d target (so_far.all.none n (omega arith))) flips);
    }
      where
        is_well : (targets : Disks) (failed n d : ℕ) → IsTrue (targets n) → IsFalse (has failed n) → (d == n) ≡ (d == n && written_well targets (has failed) d)
        is_well targets failed n d on fine = elim (eqb_tells d n) [
          | inl same ↦ same.0 ∙ sym (ap (λ (b : Bool). b && written_well targets (has failed) d) same.0 ∙ ap (λ (x : ℕ). targets x && not (has failed x)) same.1 ∙ ap (λ (b : Bool). b && not (has failed n)) on ∙ ap not fine)
          | inr differ ↦ differ.0 ∙ sym (ap (λ (b : Bool). b && written_well targets (has failed) d) differ.0)
        ]

    -- it failed
    pub disk_failed : (more : ℕ) → WritesPart w n buf.number q r now new (moved.Failed back) → ((d : ℕ) → has more d ≡ (has failed d || d == n)) → WroteDisks w number p r old new first homes more back (n + 1)
    disk_failed more part with_it =
        let failed_here : IsTrue (has more n) = with_it n ∙ or_itself (has failed n) n in
        record {
          all = badly_here w.targets (IsOfRecord w) (StandsTold w) (still_stands w) number p q old now failed buf n so_far.all r new back target alone more part with_it;
          flips = flips_on homes more (λ d differ. with_it d ∙ or_other (has failed d) d n differ) (flips_none w.kind (λ d. d == n && written_well w.targets (has more) d) homes (λ d. not_well w.targets more n d failed_here));
        }
      where
        not_well : (targets : Disks) (more n d : ℕ) → IsTrue (has more n) → IsFalse (d == n && written_well targets (has more) d)
        not_well targets more n d bad = elim (eqb_tells d n) [
          | inl same ↦ ap (λ (b : Bool). b && written_well targets (has more) d) same.0 ∙ ap (λ (x : ℕ). targets d && not (has more x)) same.1 ∙ ap (λ (b : Bool). targets d && not b) bad ∙ neither (targets d) false refl
          | inr differ ↦ ap (λ (b : Bool). b && written_well targets (has more) d) differ.0
        ]

  -- it was broken off
  module _ (r : ℕ) (new : Device) (target : IsTrue (w.targets n)) (alone : (d : ℕ) → (d ≡ n → ⊥) → new.counts.starts d ≡ now.counts.starts d) where
    pub disk_leaves : (how : Moved) → WritesPart w n buf.number q r now new how → DiskWritesLeave w.targets (IsOfRecord w) p r old new
    disk_leaves how part = leaves_here w.targets (IsOfRecord w) (StandsTold w) (still_stands w) number p q old now failed buf n so_far.all r new (λ written. Flips w.kind written first homes) target alone how part

    pub disk_dark : (started : Bool) → WritesPart w n buf.number q r now new (moved.Dark started) → RecordWritesEnd w first homes number p old new wrote.Dark
    disk_dark started part = dark_here w.targets (IsOfRecord w) (StandsTold w) (still_stands w) number p q old now failed buf n so_far.all r new (λ written. Flips w.kind written first homes) target alone started part so_far.flips

    pub disk_stuck : WritesPart w n buf.number q r now new moved.Stuck → RecordWritesEnd w first homes number p old new wrote.Stuck
    disk_stuck part = stuck_here w.targets (IsOfRecord w) (StandsTold w) (still_stands w) number p q old now failed buf n so_far.all r new (λ written. Flips w.kind written first homes) target alone part so_far.flips

  -- all disks were tried
  module _ (room : HaveRoom old w.targets) (all : length old.sizes ≤ n) where
    all_flipped : Flips w.kind (written_well w.targets (has failed)) first homes
    all_flipped = flips_same w.kind (well_below w.targets failed n) (written_well w.targets (has failed)) first homes
        (λ d. ⊎_elim
        (λ (below : d < n). ap (λ (b : Bool). b && written_well w.targets (has failed) d) (lt-ltb d n below))
        (λ (past : n ≤ d).
        let off = no_more w.targets old n room all d past in
        ap (λ (b : Bool). nat_lt d n && (b && not (has failed d))) off ∙ neither (nat_lt d n) false refl ∙ sym (ap (λ (b : Bool). b && not (has failed d)) off))
        (cases_lt d n))
        so_far.flips

    pub disks_end : RecordWritesEnd w first homes number p old now (wrote.Ended failed buf)
    disks_end = tried_ends w.targets (IsOfRecord w) (StandsTold w) (λ written. Flips w.kind written first homes) number p q old now failed buf n so_far.all room all all_flipped

-- the same, by equal homes, disks and buffer
pub as_joined :
    (w : RecordWrite) (number p q : ℕ) (old now : Device) (first homes joined : Homes) (failed more : ℕ) (buf back : Buffer) (n : ℕ) → joined ≡ homes → more ≡ failed → back ≡ buf
    → WroteDisks w number p q old now first homes failed buf n → WroteDisks w number p q old now first joined more back n
as_joined w number p q old now first homes joined failed more buf back n h f b wrote =
    subst (λ (x : Homes). WroteDisks w number p q old now first x more back n) (sym h)
    (subst (λ (x : ℕ). WroteDisks w number p q old now first homes x back n) (sym f) (subst (λ (x : Buffer). WroteDisks w number p q old now first homes failed x n) (sym b) wrote))
