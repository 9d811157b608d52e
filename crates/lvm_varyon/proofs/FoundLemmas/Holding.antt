-- What the session that a varyon begins finds on its disks.
use Rattle.std.proofs.Common.{◌≡◌, ⊎_elim, ℕ, Bool, true, false, ◌&&◌, ◌++◌, List, [], Option, Some, None, filter, refl, sym, ap, subst, ◌∙◌}
use Rattle.std.specs.Prelude.{IsTrue, not, nat_le, option_map}
use Rattle.lvm_num.specs.declared.place.Pp.{Pp}
use Rattle.lvm_num.specs.declared.record.Stamp.{Stamp}
use Rattle.lvm_num.specs.declared.descriptor.LvRow.{LvRow}
use Rattle.lvm_num.specs.declared.descriptor.PvRow.{PvRow}
use Rattle.lvm_num.specs.declared.descriptor.Descriptor.{Descriptor}
use Rattle.lvm_num.specs.declared.status.Status.{Status}
use Rattle.lvm_num.specs.Disks.{Disks}
use Rattle.lvm_num.specs.Buffer.{Sector}
use Rattle.lvm_num.specs.Descriptor.{copies_of, is_member}
use Rattle.lvm_num.specs.Geometry.{sectors_needed}
use Rattle.lvm_num.specs.Record.{Stamped}
use Rattle.lvm_num.specs.Status.{calls_dirty, calls_missing, calls_stale}
use Rattle.lvm_num.specs.StatusBytes.{status_bytes}
use Rattle.lvm_disk.specs.Counts.{Rose}
use Rattle.lvm_disk.specs.Device.{Media, Range, Device, image_of}
use Rattle.lvm_disk.specs.Steps.{BothTold}
use Rattle.lvm_vol.specs.Facts.{Fact}
use Rattle.lvm_vol.specs.Log.{Log}
use Rattle.lvm_kept.specs.Contents.{Contents, contents_of}
use Rattle.lvm_kept.specs.Group.{IsOneOf, fresh_on}
use Rattle.lvm_kept.specs.Recovered.{Recovered}
use Rattle.lvm_steps.specs.Behind.{StampsAreEarlier}
use Rattle.lvm_steps.specs.Moments.{ImagesKept}
use Rattle.lvm_steps.proofs.MakingLemmas.Making.{media_may}
use Rattle.lvm_rec.specs.declared.homes.Homes.{Homes}
use Rattle.lvm_status.specs.Update.{Updates}
use Rattle.lvm_mwc.specs.Cache.{is_named as is_named_by}
use Rattle.lvm_varyon.specs.passed.Tidying.{DirtyAreOne}
use Rattle.lvm_varyon.specs.passed.Commit.{HoldsCommitted}
use Rattle.lvm_varyon.specs.passed.Session.{Core, is_there}
use Rattle.lvm_varyon.specs.passed.SessionStart.{Parts, first_core}
use Rattle.lvm_varyon.specs.passed.Core.{Room, NotesAreHome}
use Rattle.lvm_varyon.proofs.passed.Tidying.{copied_are_one}
use Rattle.lvm_varyon.proofs.passed.Core.{empty_names_none}
use Rattle.lvm_write.specs.Written.{KeepsShelf}
use Rattle.lvm_varyon.specs.Chosen.{answering}
use Rattle.lvm_varyon.specs.Equal.{MakesEqual}
use Rattle.lvm_varyon.specs.Found.{HaveAnswered}
use Rattle.lvm_varyon.specs.Second.{first_stated, status_after, last_stamp}
use Rattle.lvm_varyon.specs.Varied.{IsAheadOfDisks, IsBrought}
use Rattle.lvm_varyon.proofs.After.{HasRecords, MayHaveRecords, records_keep, room_member, target_room}
use Rattle.lvm_varyon.proofs.SecondLemmas.{IsOfSecond, same_missing, same_stale, stated_keeps}
use Rattle.lvm_varyon.proofs.Equalled.{copied_image, emptied, is_cleaned, last_holds, none_named, shows_copied}
use Rattle.lvm_varyon.proofs.RecoveredLemmas.{recovered, shown_recovered}

told_before : (a b : Option Media) (R : Media → Media → Type 0) (m : Media) → b ≡ Some m → BothTold a b R → (was : Media) × (a ≡ Some was)
told_before None None R m e both = absurd cc
told_before None (Some n) R m e both = absurd both
told_before (Some w) None R m e both = absurd cc
told_before (Some w) (Some n) R m e both = (w, refl)

told_after : (a b : Option Media) (R : Media → Media → Type 0) (m : Media) → a ≡ Some m → BothTold a b R → (now : Media) × (b ≡ Some now)
told_after None b R m e both = absurd cc
told_after (Some w) None R m e both = absurd both
told_after (Some w) (Some n) R m e both = (n, refl)

module _ (old new : Device) (name : List ℕ) (moment : ℕ) (room : Room) (parts : Parts) (seq : ℕ) (homes : Homes) (is : IsBrought old new name moment room parts seq homes) where
  -- when its records stood
  abbrev mid : Device
  mid = is.written.writes.how.restated

  abbrev second : Option (List ℕ)
  second = option_map status_bytes is.written.clean

  abbrev first : Homes
  first = is.written.writes.how.first

  abbrev equal : MakesEqual is.written.copies (option_map status_bytes is.written.clean) moment (answering is.written.found.shown is.written.group) is.written.writes.how.first homes is.written.writes.how.restated new
  equal = is.written.writes.how.equal

  states_keep : KeepsShelf (answering is.written.found.shown is.written.group) (IsOfSecond second moment (answering is.written.found.shown is.written.group) first) equal.copied equal.stated
  states_keep = stated_keeps second moment (answering is.written.found.shown is.written.group) first homes equal.copied equal.stated equal.states

  same_misses : new.counts.misses ≡ mid.counts.misses
  same_misses = equal.only.misses ∙ states_keep.misses ∙ equal.made.keeps.misses

  pub have_mid : HaveAnswered old is.written.writes.how.restated is.written.found.answered
  have_mid = record {
    room = is.written.found.have.room;
    well = λ d answers. sym (ap (λ (m : ℕ → ℕ). m d) same_misses) ∙ is.written.found.have.well d answers;
    badly = λ d has_room off. subst (λ (n : ℕ). Rose (old.counts.misses d) n) (ap (λ (m : ℕ → ℕ). m d) same_misses) (is.written.found.have.badly d has_room off);
  }

  abbrev pub records : HasRecords old is.written.writes.how.restated name moment is.written.writes.how.first
  records = record {
    found = record {
      answered = is.written.found.answered;
      have = have_mid;
      shown = is.written.found.shown;
      disks = is.written.found.disks;
      size = is.written.found.size;
      told = is.written.found.told;
    };
    group = is.written.group;
    was = is.written.was;
    next = is.written.next;
    chosen = is.written.chosen;
    answered = is.written.answered;
    next_is = is.written.next_is;
    clean = is.written.clean;
    clean_is = is.written.clean_is;
    clean_valid = is.written.clean_valid;
    copies = is.written.copies;
    planned = is.written.planned;
    order = is.written.order;
    writes = record {
      read = is.written.writes.read;
      unwritten = is.written.writes.unwritten;
      rested = is.written.writes.rested;
      homes = is.written.writes.homes;
      spared = is.written.writes.spared;
      how = is.written.writes.how.written;
    };
  }

  -- ---- what is told

  pub was_told : (last : Media) → new.media ≡ Some last → (was : Media) × (old.media ≡ Some was)
  was_told last told_last =
      let stated = told_before equal.stated.media new.media _ last told_last equal.only.media in
      let copied = told_before equal.copied.media equal.stated.media _ stated.0 stated.1 states_keep.media in
      let stood = told_before mid.media equal.copied.media _ copied.0 copied.1 equal.made.keeps.media in
      let read = told_before is.written.writes.read.media mid.media _ stood.0 stood.1 is.written.writes.how.written.keeps.media in
      (read.0, sym is.written.writes.unwritten.media ∙ read.1)

  module _ (was last : Media) (told : old.media ≡ Some was) (told_last : new.media ≡ Some last) (ahead : IsAheadOfDisks moment old) where
    stood : (now : Media) × (mid.media ≡ Some now)
    stood = told_after is.written.writes.read.media mid.media _ was (is.written.writes.unwritten.media ∙ told) is.written.writes.how.written.keeps.media

    between : (m : Media) × (equal.copied.media ≡ Some m)
    between = told_after mid.media equal.copied.media _ stood.0 stood.1 equal.made.keeps.media

    stated : (m : Media) × (equal.stated.media ≡ Some m)
    stated = told_after equal.copied.media equal.stated.media _ between.0 between.1 states_keep.media

    abbrev final : Contents
    final = contents_of (image_of new.sizes last)

    -- once its records stood
    abbrev after : Contents
    after = contents_of (image_of mid.sizes stood.0)

    may : MayHaveRecords old mid name moment first records was
    may = is.may ahead was told

    behind : StampsAreEarlier moment old
    behind = ahead is.written.chosen.early

    pub recovers : (front more : List Range) → old.wrote ≡ Some front → new.wrote ≡ Some (front ++ more)
        → Recovered (contents_of (image_of old.sizes was)) more final is.written.found.answered is.written.group.id is.written.group
    recovers = recovered old mid name moment first records was stood.0 told stood.1 may is.valid new homes equal behind between.0 stated.0 last between.1 stated.1 told_last

    pub shows_recovered : Recovered (contents_of (image_of old.sizes was)) [] final is.written.found.answered is.written.group.id is.written.group
    shows_recovered = shown_recovered old mid name moment first records was stood.0 told stood.1 may is.valid new homes equal behind between.0 stated.0 last between.1 stated.1 told_last

    -- ---- the session

    module _ (core : Core) (log : Log) (core_is : core ≡ first_core parts log (record { epoch = moment; seq = seq }) homes core.origin.faults) where
      abbrev targets : Disks
      targets = answering is.written.found.shown is.written.group

      group_is : core.descriptor ≡ is.written.group
      group_is = ap (λ (c : Core). c.descriptor) core_is ∙ is.reserved.descriptor

      abbrev stands : Status
      stands = status_after is.written.next is.written.clean

      wanted : core.status.wanted ≡ status_after is.written.next is.written.clean
      wanted = ap (λ (c : Core). c.status.wanted) core_is ∙ ap (λ (u : Updates). u.wanted) is.reserved.status

      committed : core.status.committed ≡ status_after is.written.next is.written.clean
      committed = ap (λ (c : Core). c.status.committed) core_is ∙ ap (λ (u : Updates). u.committed) is.reserved.status

      stamp_is : core.status.stamp ≡ last_stamp moment is.written.clean
      stamp_is = ap (λ (c : Core). c.status.stamp) core_is ∙ ap (λ (n : ℕ). record { epoch = moment; seq = n }) is.seq_is

      missing_are : (d : ℕ) → calls_missing stands d ≡ calls_missing is.written.next d
      missing_are d = same_missing is.written.group (answering is.written.found.shown is.written.group) moment is.written.next is.written.clean is.written.clean_is d

      homes_are : core.homes ≡ homes
      homes_are = ap (λ (c : Core). c.homes) core_is

      -- the members that aren't missing are the targets
      there_are : is_there core ≡ targets
      there_are = (λ i d. is_member (group_is i) d && not (calls_missing (wanted i) d)) ∙ (λ i d. (ap (λ (m : Bool). is_member is.written.group d && not m) (missing_are d ∙ is.written.next_is.missing d) ∙ by_member (is_member is.written.group d) (targets d) (target_member d)) i)
        where
          by_member : (m t : Bool) → (t ≡ true → m ≡ true) → m && not (m && not t) ≡ t
          by_member true true e = refl
          by_member true false e = refl
          by_member false true e = e refl
          by_member false false e = refl

          target_member : (d : ℕ) → targets d ≡ true → is_member is.written.group d ≡ true
          target_member d target = room_member is.written.group.pvs d (λ (row : PvRow). nat_le (sectors_needed is.written.group.mib row.pps) ((contents_of (image_of mid.sizes stood.0)).size d))
              (target_room old mid name moment first records was stood.0 told stood.1 may d target)

      on_target : (d : ℕ) → IsTrue (is_there core d) → IsTrue (targets d)
      on_target d present = sym (ap (λ (v : Disks). v d) there_are) ∙ present

      -- the notes name nothing, and no more does the cache
      pub notes_home : NotesAreHome core (image_of new.sizes last)
      notes_home d lv track_group present =
          none_named old mid name moment first records was stood.0 told stood.1 may is.valid new homes equal behind between.0 stated.0 last between.1 stated.1 told_last d lv track_group (on_target d present)
          ∙ sym (ap (λ (c : Core). is_named_by c.cache d lv track_group) core_is ∙ empty_names_none is.written.group parts.cache is.reserved.cache d lv track_group)

      -- where a history was kept
      pub holds : (facts : List Fact) → ImagesKept old facts → HoldsCommitted (image_of new.sizes last) core.descriptor core.status.committed (is_there core) core.status.stamp core.homes
      holds facts kept =
          subst (λ (g : Descriptor). HoldsCommitted (image_of new.sizes last) g core.status.committed (is_there core) core.status.stamp core.homes) (sym group_is)
          (subst (λ (s : Status). HoldsCommitted (image_of new.sizes last) is.written.group s (is_there core) core.status.stamp core.homes) (sym committed)
          (subst (λ (v : Disks). HoldsCommitted (image_of new.sizes last) is.written.group stands v core.status.stamp core.homes) (sym there_are)
          (subst (λ (s : Stamp). HoldsCommitted (image_of new.sizes last) is.written.group stands targets s core.homes) (sym stamp_is)
          (subst (λ (h : Homes). HoldsCommitted (image_of new.sizes last) is.written.group stands targets (last_stamp moment is.written.clean) h) (sym homes_are)
          (last_holds old mid name moment first records was stood.0 told stood.1 may is.valid new homes equal behind between.0 stated.0 last between.1 stated.1 told_last facts
          (records_keep old mid name moment first records was stood.0 told stood.1 may facts (kept (image_of old.sizes was) (media_may old was told))))))))

      -- ---- volumes that are dirty still

      abbrev copied : Contents
      copied = contents_of (copied_image old mid name moment first records was stood.0 told stood.1 may is.valid new homes equal behind between.0 stated.0 last between.1 stated.1 told_last)

      -- what stands was copied
      same_data : final.block ≡ copied.block
      same_data =
          ap (λ (c : Contents). c.block) (emptied old mid name moment first records was stood.0 told stood.1 may is.valid new homes equal behind between.0 stated.0 last between.1 stated.1 told_last).rest
          ∙ ⊎_elim (λ same. ap (λ (c : Contents). c.block) same.1) (λ written. ap (λ (c : Contents). c.block) written.changes.rest)
          (is_cleaned old mid name moment first records was stood.0 told stood.1 may is.valid new homes equal behind between.0 stated.0 last between.1 stated.1 told_last).1

      module _ (by : Stamped Status) (same : by.value ≡ status_after is.written.next is.written.clean) where
        usable : (row : LvRow) (lp : ℕ) → IsOneOf is.written.group.lvs row → fresh_on targets (Some by) row lp ≡ fresh_on targets (Some (first_stated moment is.written.next)) row lp
        usable row lp one = λ i. filter (λ (p : Pp). targets p.disk && not (stale p i)) (copies_of row lp)
          where
            stale : (p : Pp) → calls_stale by.value p ≡ calls_stale is.written.next p
            stale p = ap (λ (s : Status). calls_stale s p) same ∙ same_stale is.written.group targets moment is.written.next is.written.clean is.written.clean_is p

        fewer : (lv : ℕ) → IsTrue (calls_dirty by.value lv) → IsTrue (calls_dirty is.written.next lv)
        fewer lv dirty =
            let cleaned = (is_cleaned old mid name moment first records was stood.0 told stood.1 may is.valid new homes equal behind between.0 stated.0 last between.1 stated.1 told_last).0 in
            ((cleaned.dirty lv).0 (subst (λ (s : Status). IsTrue (calls_dirty s lv)) same dirty)).dirty

        on_targets : DirtyAreOne final is.written.group (Some by) targets
        on_targets = subst (λ (block : ℕ → ℕ → Sector). DirtyAreOne (record copied { block = block }) is.written.group (Some by) targets) (sym same_data)
            (copied_are_one after copied is.written.group (Some (first_stated moment is.written.next)) (Some by) targets
            (shows_copied old mid name moment first records was stood.0 told stood.1 may is.valid new homes equal behind between.0 stated.0 last between.1 stated.1 told_last).equalled
            usable fewer)

      pub dirty_are_one : (by : Stamped Status) → by.value ≡ core.status.committed → DirtyAreOne final core.descriptor (Some by) (is_there core)
      dirty_are_one by same = subst (λ (g : Descriptor). DirtyAreOne final g (Some by) (is_there core)) (sym group_is)
          (subst (λ (v : Disks). DirtyAreOne final is.written.group (Some by) v) (sym there_are) (on_targets by (same ∙ committed)))
