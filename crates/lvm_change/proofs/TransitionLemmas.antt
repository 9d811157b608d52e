-- One record of a turn: what is kept and found while it is written, and what came of it.
use Rattle.std.proofs.Common.{◌≡◌, ⊎_elim, ℕ, Bool, true, false, ◌&&◌, not, List, Some, IfSome, IsTrue, IsFalse, Ok, refl, sym, subst, ◌∙◌, arith}
use Rattle.std.specs.Prelude.{is_some}
use Rattle.std.proofs.lemmas.Bool.{false≢true}
use Rattle.std.proofs.lemmas.Bool.Decides.{nat_tests}
use Rattle.lvm_num.specs.declared.record.Kind.{Kind}
use Rattle.lvm_num.specs.declared.record.Kind.TheVariants as kind
use Rattle.lvm_num.specs.declared.record.Stamp.{Stamp}
use Rattle.lvm_num.specs.declared.record.Framed.{Framed}
use Rattle.lvm_num.specs.declared.descriptor.Descriptor.{Descriptor}
use Rattle.lvm_num.specs.declared.status.Status.{Status}
use Rattle.lvm_num.specs.Buffer.{Buffer}
use Rattle.lvm_num.specs.Disks.{Disks}
use Rattle.lvm_num.specs.DescriptorBytes.{descriptor_of}
use Rattle.lvm_num.specs.StatusBytes.{status_of}
use Rattle.lvm_num.specs.Record.{Frames}
use Rattle.lvm_num.specs.Votes.{CanWrite}
use Rattle.lvm_disk.specs.Counts.{Rose, NoneFalls}
use Rattle.lvm_disk.specs.Device.{Media, Image, Device, image_of, MayLeave, HasSectors, IsWholeImage}
use Rattle.lvm_disk.proofs.CountingLemmas.{rose_after}
use Rattle.lvm_kept.specs.Contents.{contents_of}
use Rattle.lvm_kept.specs.Plans.{ChangesBy}
use Rattle.lvm_kept.specs.Torn.{RecordWrite, IsOfRecord, StandsOn}
use Rattle.lvm_status.specs.Rerowed.{IsRerowed}
use Rattle.lvm_steps.specs.Laws.{IsNoLater}
use Rattle.lvm_steps.specs.Moments.{StaysKept}
use Rattle.lvm_steps.proofs.MakingLemmas.Making.{media_may}
use Rattle.lvm_steps.proofs.RecordLemmas.{either}
use Rattle.lvm_rec.specs.declared.homes.Homes.{Homes}
use Rattle.lvm_rec.specs.Homes.{Flips}
use Rattle.lvm_write.specs.Writes.{EachTried}
use Rattle.lvm_write.specs.Written.{write_of, KeepsShelf, IsWriting, StandsTold, written_well}
use Rattle.lvm_write.proofs.WrittenLemmas.Writing.{if_told, told_at, both_from}
use Rattle.lvm_commit.specs.Committed.{next_stamp, HoldsCommitted}
use Rattle.lvm_commit.specs.LawsOfFinding.{FindsNothingNew, FindsNoMore, FindsNothingNewOn, FindsNoMoreOn}
use Rattle.lvm_commit.specs.LawsOfWrites.{StandsWritten}
use Rattle.lvm_commit.proofs.LawsOfFindingLemmas.Finding.{status_write_finds_nothing_new, descriptor_write_finds_no_more}
use Rattle.lvm_commit.proofs.LawsOfWritesLemmas.Holding.{told_before}
use Rattle.lvm_commit.proofs.LawsOfWritesLemmas.Writes.{statuses_change, status_write_keeps, status_is_held}
use Rattle.lvm_change_laws.specs.Rule.{MayChange, IsOpenTo, MayTurnTo, members_among, IsShownOn}
use Rattle.lvm_change_laws.proofs.RuleLemmas.{change_opens, statuses_leave_open, rerowed_may_follow, turn_write_keeps, turn_is_held, turn_is_shown}
use Rattle.lvm_change.specs.Transition.{HoldsBy, ComesBack}

pub no_later : (stamp : Stamp) → IsNoLater stamp stamp
no_later stamp = grind (arith, nat_tests)

-- ---- one record

module _ (group : Descriptor) (status : Status) (which : Kind) (content : List ℕ) (there : Disks) (stamp : Stamp) (homes : Homes) (old : Device) (sectors : HasSectors old) where
  abbrev pub framed : Framed
  framed = record { stamp = next_stamp stamp; content = content }

  abbrev pub w : RecordWrite
  w = write_of which framed there homes

  whole : (media : Media) → old.media ≡ Some media → IsWholeImage (image_of old.sizes media)
  whole media told = told_at old.media (λ m. IsWholeImage (image_of old.sizes m)) media told sectors

  at : (media : Media) → old.media ≡ Some media → HoldsBy old group status there stamp homes → HoldsCommitted (image_of old.sizes media) group status there stamp homes
  at media told held = told_at old.media (λ m. HoldsCommitted (image_of old.sizes m) group status there stamp homes) media told held

  by_at : (d : Device) (media : Media) → old.media ≡ Some media → IsWriting (IsOfRecord w) old d → (image : Image) → MayLeave d image → ChangesBy (IsOfRecord w) (image_of old.sizes media) image
  by_at d media told writing = told_at old.media (λ m. (image : Image) → MayLeave d image → ChangesBy (IsOfRecord w) (image_of old.sizes m) image) media told writing

  -- ---- once it was tried

  module _ (slots : Homes) (new : Device) (failed : Disks) (number : ℕ) (buf : Buffer) (each : EachTried there (StandsTold w) (λ written. Flips which written homes slots) number old new failed buf) where
    abbrev on : Disks
    on = written_well there failed

    written_was : (d : ℕ) → IsTrue (on d) → IsTrue (there d) × IsFalse (failed d)
    written_was d is = parts (there d) (failed d) is
      where
        parts : (a b : Bool) → a && not b ≡ true → (a ≡ true) × (b ≡ false)
        parts true true is = (refl, sym is)
        parts true false is = (refl, refl)
        parts false b is = absurd (false≢true is)

    fails_else : (d : ℕ) → IsTrue (there d) → IsFalse (on d) → IsTrue (failed d)
    fails_else d is isnt = parts (there d) (failed d) is isnt
      where
        parts : (a b : Bool) → a ≡ true → a && not b ≡ false → b ≡ true
        parts true true is isnt = refl
        parts true false is isnt = absurd (false≢true (sym isnt))
        parts false b is isnt = absurd (false≢true is)

    pub comes_back : ComesBack there on number old new buf
    comes_back = record {
      ready = each.back.ready;
      cuts = each.back.cuts;
      number_is = each.back.number_is;
      within = λ d is. (written_was d is).0;
      well = λ d is. (each.each d).well (written_was d is).1;
      badly = λ d is isnt. (each.each d).badly (fails_else d is isnt);
    }

    stand : (was is : Media) → new.media ≡ Some is → ChangesBy (IsOfRecord w) (image_of old.sizes was) (image_of new.sizes is) → StandsWritten w on homes slots (image_of old.sizes was) (image_of new.sizes is)
    stand was is told by = record {
      changes = by;
      targets = λ d on. (written_was d on).0;
      stands = λ d on. told_at new.media (λ m. StandsOn w (image_of new.sizes m) d) is told ((each.each d).stands (written_was d on).0 (written_was d on).1);
      flips = each.next;
    }

-- ---- a status

module _ (group next : Descriptor) (status told : Status) (content : List ℕ) (there : Disks) (stamp : Stamp) (homes : Homes) (old : Device) (sectors : HasSectors old)
    (frames : Frames kind.Status (framed group status kind.Status content there stamp homes old sectors)) (reads : status_of content ≡ Ok told) where
  abbrev ws : RecordWrite
  ws = w group status kind.Status content there stamp homes old sectors

  pub status_kept : (d : Device) → IsWriting (IsOfRecord ws) old d → is_some d.media ≡ is_some old.media → (leaves : Disks) → MayChange leaves group next there → IsRerowed next status told → HoldsBy old group status there stamp homes → StaysKept old d
  status_kept d writing same leaves may rerowed held facts kept image left =
      let m = told_before old d image same left in
      let holds = at group status kind.Status content there stamp homes old sectors m.0 m.1 held in
      let opened = change_opens (contents_of (image_of old.sizes m.0)) leaves group next status there may holds.shows in
      status_write_keeps group status told there stamp homes (framed group status kind.Status content there stamp homes old sectors) (image_of old.sizes m.0) image facts (whole group status kind.Status content there stamp homes old sectors m.0 m.1) may.enough
      holds frames reads (rerowed.id ∙ holds.shows.own) (rerowed_may_follow (contents_of (image_of old.sizes m.0)) group next status told opened.two rerowed)
      (no_later (next_stamp stamp)) (by_at group status kind.Status content there stamp homes old sectors d m.0 m.1 writing image left) (kept (image_of old.sizes m.0) (media_may old m.0 m.1))

  pub status_finds : (d : Device) → IsWriting (IsOfRecord ws) old d → HoldsBy old group status there stamp homes → FindsNothingNewOn old d
  status_finds d writing held image left = if_told old.media (λ media. FindsNothingNew (contents_of (image_of old.sizes media)) (contents_of image)) (λ m told_is.
      status_write_finds_nothing_new group status told there stamp homes (framed group status kind.Status content there stamp homes old sectors) (image_of old.sizes m) image (whole group status kind.Status content there stamp homes old sectors m told_is)
      (at group status kind.Status content there stamp homes old sectors m told_is held) frames reads (no_later (next_stamp stamp)) (by_at group status kind.Status content there stamp homes old sectors d m told_is writing image left))

  module _ (slots : Homes) (new : Device) (failed : Disks) (number : ℕ) (buf : Buffer) (each : EachTried there (StandsTold ws) (λ written. Flips kind.Status written homes slots) number old new failed buf)
      (keeps : KeepsShelf there (IsOfRecord ws) old new) where
    abbrev set : Disks
    set = written_well there failed

    pub status_held : IsRerowed next status told → HoldsBy old group status there stamp homes → HoldsBy new group told set (next_stamp stamp) slots
    status_held rerowed held = if_told new.media (λ media. HoldsCommitted (image_of new.sizes media) group told set (next_stamp stamp) slots) (λ k told_new.
        let back = both_from old.media new.media (λ was is. ChangesBy (IsOfRecord ws) (image_of old.sizes was) (image_of new.sizes is)) k keeps.media told_new in
        let holds = at group status kind.Status content there stamp homes old sectors back.0 back.1 held in
        status_is_held group status told there set stamp homes slots (framed group status kind.Status content there stamp homes old sectors) (image_of old.sizes back.0) (image_of new.sizes k) (whole group status kind.Status content there stamp homes old sectors back.0 back.1)
        holds frames reads (rerowed.id ∙ holds.shows.own) (no_later (next_stamp stamp)) (stand group status kind.Status content there stamp homes old sectors slots new failed number buf each back.0 k told_new back.2))

    pub status_opens : (leaves : Disks) → MayChange leaves group next there → HoldsBy old group status there stamp homes → IfSome new.media (λ media. IsOpenTo (contents_of (image_of new.sizes media)) group next set)
    status_opens leaves may held = if_told new.media (λ media. IsOpenTo (contents_of (image_of new.sizes media)) group next set) (λ k told_new.
        let back = both_from old.media new.media (λ was is. ChangesBy (IsOfRecord ws) (image_of old.sizes was) (image_of new.sizes is)) k keeps.media told_new in
        let holds = at group status kind.Status content there stamp homes old sectors back.0 back.1 held in
        statuses_leave_open (contents_of (image_of old.sizes back.0)) (contents_of (image_of new.sizes k)) group next there set
        (statuses_change group status told there stamp homes (framed group status kind.Status content there stamp homes old sectors) (image_of old.sizes back.0) (whole group status kind.Status content there stamp homes old sectors back.0 back.1) holds frames reads
        (no_later (next_stamp stamp)) (image_of new.sizes k) back.2).rest
        (λ d is. (comes_back group status kind.Status content there stamp homes old sectors slots new failed number buf each).within d is)
        (change_opens (contents_of (image_of old.sizes back.0)) leaves group next status there may holds.shows))

-- ---- a descriptor

module _ (group next : Descriptor) (told : Status) (content : List ℕ) (there : Disks) (stamp : Stamp) (homes : Homes) (old : Device) (sectors : HasSectors old)
    (frames : Frames kind.Descriptor (framed group told kind.Descriptor content there stamp homes old sectors)) (reads : descriptor_of content ≡ Ok next) where
  abbrev wd : RecordWrite
  wd = w group told kind.Descriptor content there stamp homes old sectors

  abbrev Opened : Type 0
  Opened = IfSome old.media (λ media. IsOpenTo (contents_of (image_of old.sizes media)) group next there)

  may_at : CanWrite group there → CanWrite next there → (m : Media) → old.media ≡ Some m → Opened → MayTurnTo (contents_of (image_of old.sizes m)) group next there
  may_at enough enough_too m is opened = record { opened = told_at old.media (λ media. IsOpenTo (contents_of (image_of old.sizes media)) group next there) m is opened; enough = enough; enough_too = enough_too }

  pub descriptor_kept : CanWrite group there → CanWrite next there → (d : Device) → IsWriting (IsOfRecord wd) old d → is_some d.media ≡ is_some old.media → Opened → HoldsBy old group told there stamp homes → StaysKept old d
  descriptor_kept enough enough_too d writing same opened held facts kept image left =
      let m = told_before old d image same left in
      turn_write_keeps group next told there stamp homes (framed group told kind.Descriptor content there stamp homes old sectors) (image_of old.sizes m.0) image facts (whole group told kind.Descriptor content there stamp homes old sectors m.0 m.1)
      (at group told kind.Descriptor content there stamp homes old sectors m.0 m.1 held) (may_at enough enough_too m.0 m.1 opened) frames reads
      (no_later (next_stamp stamp)) (by_at group told kind.Descriptor content there stamp homes old sectors d m.0 m.1 writing image left) (kept (image_of old.sizes m.0) (media_may old m.0 m.1))

  pub descriptor_finds : (d : Device) → IsWriting (IsOfRecord wd) old d → HoldsBy old group told there stamp homes → FindsNoMoreOn next old d
  descriptor_finds d writing held image left = if_told old.media (λ media. FindsNoMore next (contents_of (image_of old.sizes media)) (contents_of image)) (λ m told_is.
      descriptor_write_finds_no_more group next told there stamp homes (framed group told kind.Descriptor content there stamp homes old sectors) (image_of old.sizes m) image (whole group told kind.Descriptor content there stamp homes old sectors m told_is)
      (at group told kind.Descriptor content there stamp homes old sectors m told_is held) frames reads (no_later (next_stamp stamp)) (by_at group told kind.Descriptor content there stamp homes old sectors d m told_is writing image left))

  module _ (enough : CanWrite group there) (enough_too : CanWrite next there) (slots : Homes) (new : Device) (failed : Disks) (number : ℕ) (buf : Buffer) (each : EachTried there (StandsTold wd) (λ written. Flips kind.Descriptor written homes slots) number old new failed buf)
      (keeps : KeepsShelf there (IsOfRecord wd) old new) where
    abbrev had : Disks
    had = written_well there failed

    pub descriptor_held : CanWrite group had → CanWrite next had → Opened → HoldsBy old group told there stamp homes → HoldsBy new next told (members_among next had) (next_stamp stamp) slots
    descriptor_held can can_too opened held = if_told new.media (λ media. HoldsCommitted (image_of new.sizes media) next told (members_among next had) (next_stamp stamp) slots) (λ k told_new.
        let back = both_from old.media new.media (λ was is. ChangesBy (IsOfRecord wd) (image_of old.sizes was) (image_of new.sizes is)) k keeps.media told_new in
        turn_is_held group next told there had stamp homes slots (framed group told kind.Descriptor content there stamp homes old sectors) (image_of old.sizes back.0) (image_of new.sizes k) (whole group told kind.Descriptor content there stamp homes old sectors back.0 back.1)
        (at group told kind.Descriptor content there stamp homes old sectors back.0 back.1 held) (may_at enough enough_too back.0 back.1 opened) frames reads (no_later (next_stamp stamp))
        (stand group told kind.Descriptor content there stamp homes old sectors slots new failed number buf each back.0 k told_new back.2) can can_too)

    pub descriptor_shown : Opened → HoldsBy old group told there stamp homes → IfSome new.media (λ media. (disk : ℕ) → IsTrue (had disk) → IsShownOn (image_of new.sizes media) next homes disk)
    descriptor_shown opened held = if_told new.media (λ media. (disk : ℕ) → IsTrue (had disk) → IsShownOn (image_of new.sizes media) next homes disk) (λ k told_new.
        let back = both_from old.media new.media (λ was is. ChangesBy (IsOfRecord wd) (image_of old.sizes was) (image_of new.sizes is)) k keeps.media told_new in
        turn_is_shown group next told there had stamp homes slots (framed group told kind.Descriptor content there stamp homes old sectors) (image_of old.sizes back.0) (image_of new.sizes k) (whole group told kind.Descriptor content there stamp homes old sectors back.0 back.1)
        (at group told kind.Descriptor content there stamp homes old sectors back.0 back.1 held) (may_at enough enough_too back.0 back.1 opened) frames reads (no_later (next_stamp stamp))
        (stand group told kind.Descriptor content there stamp homes old sectors slots new failed number buf each back.0 k told_new back.2))

-- ---- one behind the other

pub back_then : (there mid written : Disks) (number : ℕ) (old m new : Device) (back buf : Buffer) → NoneFalls m.counts new.counts → ComesBack there mid number old m back → ComesBack mid written back.number m new buf → ComesBack there written number old new buf
back_then there mid written number old m new back buf rises one two = record {
  ready = two.ready;
  cuts = two.cuts ∙ one.cuts;
  number_is = two.number_is ∙ one.number_is;
  within = λ d is. one.within d (two.within d is);
  well = λ d is. two.well d is ∙ one.well d (two.within d is);
  badly = λ d is isnt. ⊎_elim
      (λ (was : IsTrue (mid d)). let rose = two.badly d was isnt in subst (λ (n : ℕ). Rose n (new.counts.faults d)) (one.well d was) rose)
      (λ (wasnt : IsFalse (mid d)). rose_after (one.badly d is wasnt) (rises.faults d))
      (either (mid d));
}
