-- What a write of a record leaves on a disk.
use Rattle.std.proofs.Common.{◌≡◌, ◌⊎◌, inl, inr, ⊎_elim, ℕ, ◌+◌, ◌-◌, ◌*◌, ◌<◌, Bool, true, false, List, ◌++◌, length, take, Option, Some, None, Result, Ok, Err, refl, sym, ap, subst, ◌∙◌, arith}
use Rattle.std.specs.Prelude.{if◌then◌else◌, option_and_then}
use Rattle.std.proofs.lemmas.Bool.Decides.{nat_tests}
use Rattle.std.proofs.lemmas.List.{take_at}
use Rattle.lvm_num.specs.declared.record.Stamp.{Stamp}
use Rattle.lvm_num.specs.declared.record.Kind.{Kind}
use Rattle.lvm_num.specs.declared.record.Kind.TheVariants.{Descriptor, Status}
use Rattle.lvm_num.specs.declared.record.Framed.{Framed}
use Rattle.lvm_num.specs.Record.{Frames, Stamped, frame, record_bytes, record_sectors, record_in, slot_start, slot_size, stamp_lt, newer}
use Rattle.lvm_num.specs.Note.{note_bytes, note_in}
use Rattle.lvm_num.specs.Torn.{Sectors, IsTorn, stamp_of}
use Rattle.lvm_num.proofs.RecordLemmas.Records.{joined-same, held_is_read, announced-is}
use Rattle.lvm_num.proofs.TornLemmas.Torn.{torn_is, whole_is_read, sectors-fit, frame-carries}
use Rattle.lvm_num.proofs.TornLemmas.Fresh.{carried, before_is_fresh, before_is_older}
use Rattle.lvm_num.proofs.RecordLemmas.Newest.{of_two}
use Rattle.lvm_num.proofs.NoteLemmas.{written_is_read}
use Rattle.lvm_rec.specs.Slots.{SlotHoldsOne, FramesAreRead, read_under, held, slot_of, slot_to_write, SlotWrite, IsOfSlot, IsTornWrite, StandsIn, MayWrite, written_as, NewestStaysOrIsNew, WholeIsNewest, TornKeepsOthers, BeforeMayWrite, TornKeepsBefore, NoteStaysOrIsNew}
use Rattle.lvm_rec.proofs.RecordLemmas.Slot.{length-record}

-- ---- one slot

pub slot_holds_one : SlotHoldsOne
slot_holds_one kind slot r s first second = sym (announced-is kind slot r first) ∙ announced-is kind slot s second

pub frames_are_read : FramesAreRead
frames_are_read kind r rest frames = held_is_read kind (record_bytes kind r ++ rest) r (record { frames = frames; front = take_at (record_bytes kind r) rest (512 * record_sectors (length r.content)) (length-record kind r) })

-- ---- places

-- sectors of two slots are apart
pub slots-apart : (one other : Kind) (a b k p : ℕ) → a < 2 → b < 2 → k < slot_size one → p < slot_size other → ((one ≡ other → ⊥) ⊎ (a ≡ b → ⊥)) → slot_start one a + k ≡ slot_start other b + p → ⊥
slots-apart Descriptor Status a b k p la lb lk lp ne e = absurd (omega (arith, e))
slots-apart Status Descriptor a b k p la lb lk lp ne e = absurd (omega (arith, e))
slots-apart Descriptor Descriptor a b k p la lb lk lp (inl ne) e = ne refl
slots-apart Status Status a b k p la lb lk lp (inl ne) e = ne refl
slots-apart Descriptor Descriptor a b k p la lb lk lp (inr ne) e = ne (omega (arith, e))
slots-apart Status Status a b k p la lb lk lp (inr ne) e = ne (omega (arith, e))

slot-low : (kind : Kind) (slot k : ℕ) → slot < 2 → k < slot_size kind → slot_start kind slot + k < 4096
slot-low Descriptor slot k ls lk = omega arith
slot-low Status slot k ls lk = omega arith

slot-above : (kind : Kind) (slot k : ℕ) → 8 < slot_start kind slot + k
slot-above Descriptor slot k = omega arith
slot-above Status slot k = omega arith

module _ (w : SlotWrite) (old new : Sectors) (torn : IsTornWrite w old new) where
  -- the slot that is written
  pub torn-slot : IsTorn w.kind w.framed (slot_start w.kind w.slot) old new
  torn-slot = record {
    within = λ k lt. ⊎_elim
        (λ (h : new (slot_start w.kind w.slot + k) ≡ old (slot_start w.kind w.slot + k)). inl h)
        (λ (of : IsOfSlot w (slot_start w.kind w.slot + k) (new (slot_start w.kind w.slot + k))). inr (of.is ∙ ap (frame w.kind w.framed.stamp w.framed.content) (omega (arith, of.place))))
        (torn (slot_start w.kind w.slot + k));
    behind = λ k ge lt. ⊎_elim
        (λ (h : new (slot_start w.kind w.slot + k) ≡ old (slot_start w.kind w.slot + k)). h)
        (λ (of : IsOfSlot w (slot_start w.kind w.slot + k) (new (slot_start w.kind w.slot + k))). absurd (omega (arith, of.place, of.inside)))
        (torn (slot_start w.kind w.slot + k));
  }

  module _ (frames : Frames w.kind w.framed) where
    -- a sector that the write has no part in
    pub sector-kept : (s : ℕ) → ((part : ℕ) → part < slot_size w.kind → s ≡ slot_start w.kind w.slot + part → ⊥) → new s ≡ old s
    sector-kept s apart = ⊎_elim
        (λ (h : new s ≡ old s). h)
        (λ (of : IsOfSlot w s (new s)). absurd (apart of.part (omega (arith, of.inside, sectors-fit w.kind (length w.framed.content) frames.content)) of.place))
        (torn s)

    pub slot-kept : (kind : Kind) (slot : ℕ) → ((k part : ℕ) → k < slot_size kind → part < slot_size w.kind → slot_start kind slot + k ≡ slot_start w.kind w.slot + part → ⊥)
        → slot_of kind slot new ≡ slot_of kind slot old
    slot-kept kind slot apart = joined-same new old (slot_start kind slot) (slot_size kind) (λ s low high.
        sector-kept s (λ part lt e. apart (s - slot_start kind slot) part (omega (arith, low, high)) lt (omega (arith, low, e))))

pub keeps_others : (X : Type 0) → TornKeepsOthers X
keeps_others X w old new frames slots torn = record {
  kinds = λ content_of kind ne.
      let first : slot_of kind 0 new ≡ slot_of kind 0 old = slot-kept w old new torn frames kind 0 (λ k part lk lp e. slots-apart kind w.kind 0 w.slot k part (omega arith) slots lk lp (inl ne) e) in
      let second : slot_of kind 1 new ≡ slot_of kind 1 old = slot-kept w old new torn frames kind 1 (λ k part lk lp e. slots-apart kind w.kind 1 w.slot k part (omega arith) slots lk lp (inl ne) e) in
      λ t. newer (held content_of kind (first t)) (held content_of kind (second t));
  note = sector-kept w old new torn frames 8 (λ part lt e. absurd (omega (arith, e, slot-above w.kind w.slot part)));
  blocks = λ s le. sector-kept w old new torn frames s (λ part lt e. absurd (omega (arith, e, le, slot-low w.kind w.slot part slots lt)));
}

-- ---- the newer of two, when one of them is written

not-after : (a b : Stamp) → stamp_lt a b ≡ true → stamp_lt b a ≡ false
not-after a b h = grind (arith, nat_tests)

-- slot 0 is written where the newest is in slot 1, or there is none
newest-1 : {X : Type 0} (a b : Option (Stamped X)) → slot_to_write a b ≡ 0 → newer a b ≡ b
newest-1 None b e = refl
newest-1 (Some a) None e = absurd (omega (arith, e))
newest-1 (Some a) (Some b) e = by_test (stamp_lt a.stamp b.stamp) a b e
  where
    by_test : {X : Type 0} (later : Bool) (a b : Stamped X) → ◌≡◌ {A = ℕ} (if later then 0 else 1) 0 → (if later then Some b else Some a) ≡ Some b
    by_test true a b e = refl
    by_test false a b e = absurd (omega (arith, e))

newest-0 : {X : Type 0} (a b : Option (Stamped X)) → slot_to_write a b ≡ 1 → newer a b ≡ a
newest-0 None b e = absurd (omega (arith, e))
newest-0 (Some a) None e = refl
newest-0 (Some a) (Some b) e = by_test (stamp_lt a.stamp b.stamp) a b e
  where
    by_test : {X : Type 0} (later : Bool) (a b : Stamped X) → ◌≡◌ {A = ℕ} (if later then 0 else 1) 1 → (if later then Some b else Some a) ≡ Some a
    by_test true a b e = absurd (omega (arith, e))
    by_test false a b e = refl

pub slot-is : {X : Type 0} (a b : Option (Stamped X)) → (slot_to_write a b ≡ 0) ⊎ (slot_to_write a b ≡ 1)
slot-is None b = inl refl
slot-is (Some a) None = inr refl
slot-is (Some a) (Some b) = by_test (stamp_lt a.stamp b.stamp)
  where
    by_test : (later : Bool) → (◌≡◌ {A = ℕ} (if later then 0 else 1) 0) ⊎ (◌≡◌ {A = ℕ} (if later then 0 else 1) 1)
    by_test true = inl refl
    by_test false = inr refl

-- the new one counts over an earlier one, in either slot
over-1 : {X : Type 0} (b : Option (Stamped X)) (n : Stamped X) → ((y : Stamped X) → b ≡ Some y → stamp_lt y.stamp n.stamp ≡ true) → newer (Some n) b ≡ Some n
over-1 None n later = refl
over-1 (Some y) n later = ap (λ t. if t then Some y else Some n) (not-after y.stamp n.stamp (later y refl))

over-0 : {X : Type 0} (a : Option (Stamped X)) (n : Stamped X) → ((y : Stamped X) → a ≡ Some y → stamp_lt y.stamp n.stamp ≡ true) → newer a (Some n) ≡ Some n
over-0 None n later = refl
over-0 (Some y) n later = ap (λ t. if t then Some n else Some y) (later y refl)

alone : {X : Type 0} (a : Option (Stamped X)) → newer a None ≡ a
alone None = refl
alone (Some a) = refl

abbrev OldOrNoneOrNew : {X : Type 0} → Option X → Option X → X → Type 0 → Type 0
OldOrNoneOrNew now was n P = (now ≡ was) ⊎ (now ≡ None) ⊎ ((now ≡ Some n) × P)

after-0 : {X : Type 0} (a b now : Option (Stamped X)) (n : Stamped X) (P : Type 0) → slot_to_write a b ≡ 0 → ((y : Stamped X) → newer a b ≡ Some y → stamp_lt y.stamp n.stamp ≡ true)
    → OldOrNoneOrNew now a n P → (newer now b ≡ newer a b) ⊎ ((newer now b ≡ Some n) × P)
after-0 a b now n P zero later (inl e) = inl (ap (λ (o : Option (Stamped _)). newer o b) e)
after-0 a b now n P zero later (inr (inl e)) = inl (ap (λ (o : Option (Stamped _)). newer o b) e ∙ sym (newest-1 a b zero))
after-0 a b now n P zero later (inr (inr e)) = inr (ap (λ (o : Option (Stamped _)). newer o b) e.0 ∙ over-1 b n (λ y h. later y (newest-1 a b zero ∙ h)), e.1)

after-1 : {X : Type 0} (a b now : Option (Stamped X)) (n : Stamped X) (P : Type 0) → slot_to_write a b ≡ 1 → ((y : Stamped X) → newer a b ≡ Some y → stamp_lt y.stamp n.stamp ≡ true)
    → OldOrNoneOrNew now b n P → (newer a now ≡ newer a b) ⊎ ((newer a now ≡ Some n) × P)
after-1 a b now n P one later (inl e) = inl (ap (newer a) e)
after-1 a b now n P one later (inr (inl e)) = inl (ap (newer a) e ∙ alone a ∙ sym (newest-0 a b one))
after-1 a b now n P one later (inr (inr e)) = inr (ap (newer a) e.0 ∙ over-0 a n (λ y h. later y (newest-0 a b one ∙ h)), e.1)

-- ---- one disk

module _ (X : Type 0) (content_of : List ℕ → Result X ℕ) (w : SlotWrite) (x : X) (old new : Sectors) (may : MayWrite X content_of w x old) (torn : IsTornWrite w old new) where
  -- what a slot holds, before and after
  abbrev was : ℕ → Option (Stamped X)
  was slot = held content_of w.kind (slot_of w.kind slot old)

  abbrev now : ℕ → Option (Stamped X)
  now slot = held content_of w.kind (slot_of w.kind slot new)

  -- the record as it is read from its slot
  held-new : record_in w.kind (slot_of w.kind w.slot new) ≡ Some w.framed → now w.slot ≡ Some (written_as w x)
  held-new e = ap (option_and_then (λ (r : Framed). read_under r.stamp (content_of r.content))) e ∙ ap (read_under w.framed.stamp) may.reads

  held-after : OldOrNoneOrNew (now w.slot) (was w.slot) (written_as w x) (StandsIn w new)
  held-after = ⊎_elim
      (λ (e : record_in w.kind (slot_of w.kind w.slot new) ≡ record_in w.kind (slot_of w.kind w.slot old)). inl (ap read e))
      (⊎_elim
      (λ (e : record_in w.kind (slot_of w.kind w.slot new) ≡ None). inr (inl (ap read e)))
      (λ (e : (record_in w.kind (slot_of w.kind w.slot new) ≡ Some w.framed) × StandsIn w new). inr (inr (held-new e.0, e.1))))
      (torn_is w.kind w.framed (slot_start w.kind w.slot) old new may.frames may.whole may.fresh (torn-slot w old new torn))
    where
      read : Option Framed → Option (Stamped X)
      read o = option_and_then (λ (r : Framed). read_under r.stamp (content_of r.content)) o

  other-slot : (slot : ℕ) → slot < 2 → w.slot < 2 → (slot ≡ w.slot → ⊥) → now slot ≡ was slot
  other-slot slot ls lw ne = ap (held content_of w.kind) (slot-kept w old new torn may.frames w.kind slot (λ k part lk lp e. slots-apart w.kind w.kind slot w.slot k part ls lw lk lp (inr ne) e))

  old-or-new : (newer (now 0) (now 1) ≡ newer (was 0) (was 1)) ⊎ ((newer (now 0) (now 1) ≡ Some (written_as w x)) × StandsIn w new)
  old-or-new = ⊎_elim
      (λ (zero : slot_to_write (was 0) (was 1) ≡ 0).
      let slot : w.slot ≡ 0 = may.slot ∙ zero in
      let other : now 1 ≡ was 1 = other-slot 1 (omega arith) (omega (arith, slot)) (λ e. absurd (omega (arith, e, slot))) in
      subst (λ (o : Option (Stamped X)). (newer (now 0) o ≡ newer (was 0) (was 1)) ⊎ ((newer (now 0) o ≡ Some (written_as w x)) × StandsIn w new)) (sym other)
      (after-0 (was 0) (was 1) (now 0) (written_as w x) (StandsIn w new) zero may.later (subst (λ s. OldOrNoneOrNew (now s) (was s) (written_as w x) (StandsIn w new)) slot held-after)))
      (λ (one : slot_to_write (was 0) (was 1) ≡ 1).
      let slot : w.slot ≡ 1 = may.slot ∙ one in
      let other : now 0 ≡ was 0 = other-slot 0 (omega arith) (omega (arith, slot)) (λ e. absurd (omega (arith, e, slot))) in
      subst (λ (o : Option (Stamped X)). (newer o (now 1) ≡ newer (was 0) (was 1)) ⊎ ((newer o (now 1) ≡ Some (written_as w x)) × StandsIn w new)) (sym other)
      (after-1 (was 0) (was 1) (now 1) (written_as w x) (StandsIn w new) one may.later (subst (λ s. OldOrNoneOrNew (now s) (was s) (written_as w x) (StandsIn w new)) slot held-after)))
      (slot-is (was 0) (was 1))

  whole-new : StandsIn w new → newer (now 0) (now 1) ≡ Some (written_as w x)
  whole-new stands =
      let here : now w.slot ≡ Some (written_as w x) = held-new (whole_is_read w.kind w.framed (slot_start w.kind w.slot) new may.frames stands) in
      ⊎_elim
      (λ (zero : slot_to_write (was 0) (was 1) ≡ 0).
      let slot : w.slot ≡ 0 = may.slot ∙ zero in
      let other : now 1 ≡ was 1 = other-slot 1 (omega arith) (omega (arith, slot)) (λ e. absurd (omega (arith, e, slot))) in
      let own : now 0 ≡ Some (written_as w x) = subst (λ s. now s ≡ Some (written_as w x)) slot here in
      ap (λ (o : Option (Stamped X)). newer o (now 1)) own ∙ ap (newer (Some (written_as w x))) other ∙ over-1 (was 1) (written_as w x) (λ y h. may.later y (newest-1 (was 0) (was 1) zero ∙ h)))
      (λ (one : slot_to_write (was 0) (was 1) ≡ 1).
      let slot : w.slot ≡ 1 = may.slot ∙ one in
      let other : now 0 ≡ was 0 = other-slot 0 (omega arith) (omega (arith, slot)) (λ e. absurd (omega (arith, e, slot))) in
      let own : now 1 ≡ Some (written_as w x) = subst (λ s. now s ≡ Some (written_as w x)) slot here in
      ap (newer (now 0)) own ∙ ap (λ (o : Option (Stamped X)). newer o (Some (written_as w x))) other ∙ over-0 (was 0) (written_as w x) (λ y h. may.later y (newest-0 (was 0) (was 1) one ∙ h)))
      (slot-is (was 0) (was 1))

pub newest_stays_or_is_new : (X : Type 0) → NewestStaysOrIsNew X
newest_stays_or_is_new X content_of w x old new may torn = old-or-new X content_of w x old new may torn

pub whole_is_newest : (X : Type 0) → WholeIsNewest X
whole_is_newest X content_of w x old new may torn stands = whole-new X content_of w x old new may torn stands

-- ---- stamps that are new on a disk

pub keeps_before : TornKeepsBefore
keeps_before w stamp old new frames torn lower kind slot before k lt magic = ⊎_elim
    (λ (h : new (slot_start kind slot + k) ≡ old (slot_start kind slot + k)).
    ap (λ (x : List ℕ). stamp_lt (stamp_of x) stamp) h ∙ before k lt (ap (take 2) (sym h) ∙ magic))
    (λ (of : IsOfSlot w (slot_start kind slot + k) (new (slot_start kind slot + k))).
    ap (λ (s : Stamp). stamp_lt s stamp) (ap stamp_of of.is ∙ carried w.kind w.framed (frame w.kind w.framed.stamp w.framed.content of.part) frames (frame-carries w.kind w.framed.stamp w.framed.content of.part)) ∙ lower)
    (torn (slot_start kind slot + k))

-- what a slot holds is read from a record under the same stamp
read-stamp : {X : Type 0} (stamp : Stamp) (res : Result X ℕ) (y : Stamped X) → read_under stamp res ≡ Some y → stamp ≡ y.stamp
read-stamp stamp (Ok x) y e = ap (λ (o : Option (Stamped _)). under o) e
  where
    under : {X : Type 0} → Option (Stamped X) → Stamp
    under None = stamp
    under (Some z) = z.stamp
read-stamp stamp (Err place) y e = absurd cc

pub held-record : {X : Type 0} (content_of : List ℕ → Result X ℕ) (o : Option Framed) (y : Stamped X) → option_and_then (λ (r : Framed). read_under r.stamp (content_of r.content)) o ≡ Some y → (s : Framed) × (o ≡ Some s) × (s.stamp ≡ y.stamp)
held-record content_of None y e = absurd cc
held-record content_of (Some s) y e = (s, refl, read-stamp s.stamp (content_of s.content) y e)

pub slot-two : {X : Type 0} (a b : Option (Stamped X)) → slot_to_write a b < 2
slot-two a b = ⊎_elim (λ (e : slot_to_write a b ≡ 0). omega (arith, e)) (λ (e : slot_to_write a b ≡ 1). omega (arith, e)) (slot-is a b)

pub may_write : (X : Type 0) → BeforeMayWrite X
may_write X content_of w x sectors frames reads slot both =
    let two : w.slot < 2 = subst (λ s. s < 2) (sym slot) (slot-two (held content_of w.kind (slot_of w.kind 0 sectors)) (held content_of w.kind (slot_of w.kind 1 sectors))) in
    record {
      frames = frames;
      reads = reads;
      slot = slot;
      whole = both.whole w.slot two;
      fresh = before_is_fresh w.kind w.framed (slot_start w.kind w.slot) sectors frames (both.before w.slot two);
      later = λ y e. ⊎_elim (earlier 0 (omega arith) y) (earlier 1 (omega arith) y)
          (of_two (held content_of w.kind (slot_of w.kind 0 sectors)) (held content_of w.kind (slot_of w.kind 1 sectors)) y e);
    }
  where
    earlier : (slot : ℕ) → slot < 2 → (y : Stamped X) → held content_of w.kind (slot_of w.kind slot sectors) ≡ Some y → stamp_lt y.stamp w.framed.stamp ≡ true
    earlier slot lt y e =
        let r = held-record content_of (record_in w.kind (slot_of w.kind slot sectors)) y e in
        ap (λ (s : Stamp). stamp_lt s w.framed.stamp) (sym r.2) ∙ before_is_older w.kind w.framed.stamp (slot_start w.kind slot) sectors (both.whole slot lt) (both.before slot lt) r.0 r.1

-- ---- the note

pub note_stays_or_is_new : NoteStaysOrIsNew
note_stays_or_is_new note old new is change = ⊎_elim
    (λ (h : new ≡ old). inl (ap note_in h))
    (λ (h : new ≡ note_bytes note). inr (ap note_in h ∙ written_is_read note is))
    change
