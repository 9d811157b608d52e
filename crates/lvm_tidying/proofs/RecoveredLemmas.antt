-- A group is recovered, with its volumes in mode passive.
use Rattle.std.proofs.Common.{◌<◌, None, eq-eqb, ◌≡◌, ◌⊎◌, inl, inr, ⊎_elim, ℕ, Bool, true, false, ◌&&◌, ◌||◌, ◌==◌, List, [], ◌∷◌, Option, Some, refl, sym, ap, subst, ◌∙◌}
use Rattle.std.specs.Prelude.{IsTrue, if◌then◌else◌, not, find, is_some, option_map}
use Rattle.std.specs.List.{list_any, AllByRecursion}
use Rattle.std.proofs.lemmas.Bool.{not_from_false, eqb-true}
use Rattle.std.proofs.lemmas.Option.{same_Some}
use Rattle.lvm_num.specs.declared.place.Pp.{Pp}
use Rattle.lvm_num.specs.declared.descriptor.Mode.{Mode}
use Rattle.lvm_num.specs.declared.descriptor.Mode.TheVariants.{Active, Passive, Off}
use Rattle.lvm_num.specs.declared.descriptor.PvRow.{PvRow}
use Rattle.lvm_num.specs.declared.descriptor.LvRow.{LvRow}
use Rattle.lvm_num.specs.declared.descriptor.Descriptor.{Descriptor}
use Rattle.lvm_num.specs.declared.status.Status.{Status}
use Rattle.lvm_num.specs.Buffer.{Sector}
use Rattle.lvm_num.specs.Disks.{Disks}
use Rattle.lvm_num.specs.Descriptor.{is_member, member_of}
use Rattle.lvm_num.specs.Geometry.{track_group_of, sector_of}
use Rattle.lvm_num.specs.Note.{Noted}
use Rattle.lvm_num.specs.Record.{Stamped, stamp_lt}
use Rattle.lvm_num.proofs.RecordLemmas.Newest.{is_one}
use Rattle.lvm_num.specs.Status.{calls_dirty, calls_missing, calls_stale}
use Rattle.lvm_vol.specs.Facts.{Fact}
use Rattle.lvm_disk.specs.Device.{Range}
use Rattle.lvm_kept.specs.Contents.{Contents}
use Rattle.lvm_kept.specs.Group.{if_passes, is_status_of, is_dirty_by, descriptor_among, is_voter, status_among, is_stale_by, fresh, fresh_on, block_at, IsBlockOf, IsOneOf, IsSome, HoldOne}
use Rattle.lvm_kept.specs.Kept.{Kept}
use Rattle.lvm_kept.specs.Recovered.{IsMadeEqual, MadeEqual, IsCopied, IsLeftBehind as IsLeftBehindBy, IsLeftDirty, Recovered}
use Rattle.lvm_kept.specs.Committed.{StandsOnSet}
use Rattle.lvm_kept.proofs.CommittedLemmas.Finding.{offered, newest_among}
use Rattle.lvm_write.specs.Next.{IsLeftBehind, has_passive}
use Rattle.lvm_num.specs.Modes.{is_passive}
use Rattle.lvm_recover.specs.Recopied.{IsToEqual, IsFromFirst, IsRecopied, HoldFirst, AreEqualled}
use Rattle.lvm_recover.proofs.BeginningLemmas.{usable_same}
use Rattle.lvm_recover.proofs.KeepingLemmas.Equalling.{even_there}
use Rattle.lvm_tidying.specs.Recovered.{IsWrittenTo, RecoversAll, RecoveredByCleaning}
use Rattle.lvm_tidying.specs.Cleaned.{IsStillDirty}
use Rattle.lvm_tidying.proofs.MomentsLemmas.{same_fresh}
use Rattle.lvm_steps.proofs.RecordLemmas.{split, join}
use Rattle.lvm_even.proofs.Lists.{not_so}

-- ---- members and modes

pub one_passive : (rows : List LvRow) (row : LvRow) → IsOneOf rows row → row.mode ≡ Passive → list_any (λ (r : LvRow). r.number == row.number && is_passive r.mode) rows ≡ true
one_passive [] row one soft = absurd one
one_passive (r ∷ rs) row (inl here) soft = ap (λ (t : Bool). t || list_any (λ (x : LvRow). x.number == row.number && is_passive x.mode) rs)
    (join (r.number == row.number) (is_passive r.mode) (eq-eqb r.number row.number (sym (ap (λ (x : LvRow). x.number) here))) (sym (ap (λ (x : LvRow). is_passive x.mode) here) ∙ ap is_passive soft))
one_passive (r ∷ rs) row (inr there) soft = or_right (r.number == row.number && is_passive r.mode) (list_any (λ (x : LvRow). x.number == row.number && is_passive x.mode) rs) (one_passive rs row there soft)
  where
    or_right : (a b : Bool) → b ≡ true → a || b ≡ true
    or_right true b is = refl
    or_right false b is = is

some_member : (rows : List PvRow) (d : ℕ) → is_some (find (λ (row : PvRow). row.disk == d) rows) ≡ list_any (λ (row : PvRow). row.disk == d) rows
some_member [] d = refl
some_member (r ∷ rs) d = by_test (r.disk == d) (some_member rs d)
  where
    by_test : (t : Bool) → is_some (find (λ (row : PvRow). row.disk == d) rs) ≡ list_any (λ (row : PvRow). row.disk == d) rs → is_some (if t then Some r else find (λ (row : PvRow). row.disk == d) rs) ≡ (t || list_any (λ (row : PvRow). row.disk == d) rs)
    by_test true e = refl
    by_test false e = e

-- ---- other statuses, other notes and other data

module _ (c : Contents) (stated : ℕ → Option (Stamped Status)) (note : ℕ → Option Noted) (block : ℕ → ℕ → Sector) where
  abbrev with_data : Contents
  with_data = record c { status = stated; note = note; block = block }

  pub group_same : (disks : Disks) (id : ℕ) → descriptor_among with_data disks id ≡ descriptor_among c disks id
  unfolding descriptor_among
  group_same disks id = refl

  pub voter_same : (disks : Disks) (id : ℕ) → is_voter with_data disks id ≡ is_voter c disks id
  unfolding is_voter descriptor_among
  voter_same disks id = refl

  -- where the voters have one status, and others only earlier ones, it is the newest
  pub status_is : (disks set : Disks) (id : ℕ) (one : Stamped Status) → StandsOnSet (is_status_of id) stated set one one → (d : ℕ) → IsTrue (is_voter c disks id d) → IsTrue (set d)
      → ((d : ℕ) (r : Stamped Status) → stated d ≡ Some r → d < c.disks) → status_among with_data disks id ≡ Some one
  unfolding status_among
  status_is disks set id one stands d voter in_set within =
      ⊎_elim (λ e. e) (λ e. e) (newest_among Status (is_status_of id) stated (is_voter with_data disks id) set c.disks one one stands d (subst (λ (v : Disks). IsTrue (v d)) (sym (voter_same disks id)) voter) in_set within)

-- a status that is found is one of a voter
in_set : {X : Type 0} (of : X → Bool) (on : ℕ → Option (Stamped X)) (set : Disks) (d : ℕ) (r : Stamped X) → offered of on set d ≡ Some r → IsTrue (set d)
in_set of on set d r is = by (set d) is
  where
    by : (t : Bool) → (if t then if_passes of (on d) else None) ≡ Some r → IsTrue t
    by true is = refl
    by false is = absurd cc

some_voter : (c : Contents) (disks : Disks) (id : ℕ) (s : Stamped Status) → status_among c disks id ≡ Some s → (d : ℕ) × IsTrue (is_voter c disks id d)
unfolding status_among
some_voter c disks id s is =
    let at = is_one Status (offered (is_status_of id) c.status (is_voter c disks id)) c.disks s is in
    (at.0, in_set (is_status_of id) c.status (is_voter c disks id) at.0 s at.2)

module _ (old begun copied cleaned new : Contents) (clean : Stamped Status) (ranges : List Range) (disks : Disks) (group : Descriptor) (is : RecoversAll old begun copied cleaned new clean ranges disks group) where
  abbrev id : ℕ
  id = group.id

  abbrev there : Disks
  there = is_voter old disks id

  abbrev next : Stamped Status
  next = is.restated.status

  abbrev was : Stamped Status
  was = is.restated.was

  -- ---- what has changed since the records stand

  cleaned_rest : cleaned ≡ record copied { status = cleaned.status }
  cleaned_rest = ⊎_elim
      (λ (same : (clean ≡ next) × (cleaned ≡ copied)). same.1 ∙ ap (λ (f : ℕ → Option (Stamped Status)). record copied { status = f }) (sym (ap (λ (c : Contents). c.status) same.1)))
      (λ (put : IsWrittenTo there group clean copied cleaned). put.changes.rest)
      is.cleaned_is

  abbrev end : Contents
  end = record begun { status = cleaned.status; note = new.note; block = copied.block }

  is_end : new ≡ end
  is_end = is.emptied.rest ∙ ap (λ (c : Contents). record c { note = new.note }) cleaned_rest
      ∙ ap (λ (c : Contents). record c { status = cleaned.status; note = new.note }) is.copied_so.rest

  same_block : (d s : ℕ) → new.block d s ≡ copied.block d s
  same_block d s = ap (λ (c : Contents). c.block d s) is_end

  block_was : (d s : ℕ) → begun.block d s ≡ old.block d s
  block_was d s = ap (λ (f : ℕ → ℕ → Sector). f d s) is.same_data

  status_was : (d : ℕ) → copied.status d ≡ begun.status d
  status_was d = ap (λ (c : Contents). c.status d) is.copied_so.rest

  -- ---- the usable copies

  usable : (row : LvRow) (lp : ℕ) → IsOneOf group.lvs row → fresh_on there (Some next) row lp ≡ fresh old disks id row lp
  usable row lp one = usable_same group there was next is.valid is.restated.next row lp one ∙ ap (λ (o : Option (Stamped Status)). fresh_on there o row lp) (sym is.restated.was_found)

  dirty_was : (lv : ℕ) → IsTrue (calls_dirty next.value lv) → IsTrue (is_dirty_by (status_among old disks id) lv)
  dirty_was lv e = ap (λ (o : Option (Stamped Status)). is_dirty_by o lv) is.restated.was_found ∙ (split (calls_dirty was.value lv) (has_passive group lv) (sym (is.restated.next.dirty lv) ∙ e)).0

  dirty_next : (row : LvRow) → IsOneOf group.lvs row → row.mode ≡ Passive → IsTrue (is_dirty_by (status_among old disks id) row.number) → IsTrue (calls_dirty next.value row.number)
  dirty_next row one soft e = is.restated.next.dirty row.number ∙ join (calls_dirty was.value row.number) (has_passive group row.number)
      (sym (ap (λ (o : Option (Stamped Status)). is_dirty_by o row.number) is.restated.was_found) ∙ e) (one_passive group.lvs row one soft)

  to_equal : (mode : Mode) (row : LvRow) → IsOneOf group.lvs row → row.mode ≡ mode → (b : ℕ) → IsMadeEqual old disks id group mode row.number b → IsToEqual begun (Some next) there mode row.number b
  to_equal Active row one e b made = (made.0, made.1, is.same_notes made.0 row.number (track_group_of b) made.1 ∙ made.2)
  to_equal Passive row one e b made = dirty_next row one e made
  to_equal Off row one e b made = made

  made_equal : (mode : Mode) (row : LvRow) → IsOneOf group.lvs row → row.mode ≡ mode → (b : ℕ) → IsToEqual begun (Some next) there mode row.number b → IsMadeEqual old disks id group mode row.number b
  made_equal Active row one e b named = (named.0, named.1, sym (is.same_notes named.0 row.number (track_group_of b) named.1) ∙ named.2)
  made_equal Passive row one e b dirty = dirty_was row.number dirty
  made_equal Off row one e b none = none

  equal_of : (copies : List Pp) (b : ℕ) → HoldFirst begun copied group.mib copies b → MadeEqual old disks id group new copies b
  equal_of [] b hold = tt
  equal_of (first ∷ others) b hold = each (first ∷ others) hold
    where
      each : (ps : List Pp) → AllByRecursion (λ p. block_at copied group.mib p b ≡ block_at begun group.mib first b) ps → AllByRecursion (λ p. block_at new group.mib p b ≡ block_at old group.mib first b) ps
      each [] all = tt
      each (p ∷ ps) all = (same_block p.disk (sector_of group.mib p.pp b) ∙ all.0 ∙ block_was first.disk (sector_of group.mib first.pp b), each ps all.1)

  equal : (row : LvRow) (lp b : ℕ) → IsOneOf group.lvs row → IsBlockOf group.mib row lp b → IsMadeEqual old disks id group row.mode row.number b → MadeEqual old disks id group new (fresh old disks id row lp) b
  equal row lp b one inside made = subst (λ (ps : List Pp). MadeEqual old disks id group new ps b) (usable row lp one)
      (equal_of (fresh_on there (Some next) row lp) b (is.equalled row lp b one inside (to_equal row.mode row one refl b made)))

  others : (d s : ℕ) → (new.block d s ≡ old.block d s) ⊎ IsCopied old disks id group d s
  others d s = ⊎_elim
      (λ (same : copied.block d s ≡ begun.block d s). inl (same_block d s ∙ same ∙ block_was d s))
      (λ (from : IsFromFirst begun group (Some next) there d s (copied.block d s)). inr (record {
        row = from.row;
        lp = from.lp;
        block = from.block;
        copy = from.copy;
        volume = from.volume;
        inside = from.inside;
        fresh_copy = subst (λ (ps : List Pp). IsOneOf ps from.copy) (sym from.usable ∙ usable from.row from.lp from.volume) (inr from.one);
        made = made_equal from.row.mode from.row from.volume refl from.block from.made;
        disk = from.disk;
        sector = from.sector;
      }))
      (is.copied_so.each d s)

  -- ---- the status

  rest_now : clean.value ≡ record next.value { dirty = clean.value.dirty }
  rest_now = is.cleaned_so.rest

  own : clean.value.id ≡ id
  own = ap (λ (s : Status). s.id) rest_now ∙ is.restated.next.id

  is_own : IsTrue (is_status_of id clean.value)
  is_own = eq-eqb clean.value.id id own

  status_stands : StandsOnSet (is_status_of id) cleaned.status there clean clean
  status_stands = record {
    own = is_own;
    next_own = is_own;
    later = inl refl;
    have = λ d voter. inl (⊎_elim
        (λ (same : (clean ≡ next) × (cleaned ≡ copied)). ap (λ (c : Contents). c.status d) same.1 ∙ status_was d ∙ is.stated d voter ∙ ap (λ (r : Stamped Status). Some r) (sym same.0))
        (λ (put : IsWrittenTo there group clean copied cleaned). put.stands d voter)
        is.cleaned_is);
    newest = λ d r shown its. ⊎_elim
        (λ (same : (clean ≡ next) × (cleaned ≡ copied)). ⊎_elim
        (λ low. inl (subst (λ (s : Stamped Status). stamp_lt r.stamp s.stamp ≡ true) (sym same.0) low))
        (λ e. inr (inl (e ∙ sym same.0)))
        (is.last d r (sym (status_was d) ∙ sym (ap (λ (c : Contents). c.status d) same.1) ∙ shown) (eqb-true r.value.id id its)))
        (λ (put : IsWrittenTo there group clean copied cleaned). ⊎_elim
        (λ (kept : cleaned.status d ≡ copied.status d). inl (put.later d r (sym kept ∙ shown) (eqb-true r.value.id id its)))
        (λ (new_one : IsTrue (there d) × (cleaned.status d ≡ Some clean)). inr (inl (same_Some r clean (sym shown ∙ new_one.1))))
        (put.changes.own d))
        is.cleaned_is;
  }

  in_disks : (d : ℕ) (r : Stamped Status) → cleaned.status d ≡ Some r → d < begun.disks
  in_disks d r shown = ⊎_elim
      (λ (same : (clean ≡ next) × (cleaned ≡ copied)). is.within.statuses d r (sym (status_was d) ∙ sym (ap (λ (c : Contents). c.status d) same.1) ∙ shown))
      (λ (put : IsWrittenTo there group clean copied cleaned). ⊎_elim
      (λ (kept : cleaned.status d ≡ copied.status d). is.within.statuses d r (sym (status_was d) ∙ sym kept ∙ shown))
      (λ (new_one : IsTrue (there d) × (cleaned.status d ≡ Some clean)). is.within.statuses d next (is.stated d new_one.0))
      (put.changes.own d))
      is.cleaned_is

  voters_begun : is_voter begun disks id ≡ there
  voters_begun = λ t d. is.same_voters d t

  status_now : status_among new disks id ≡ Some clean
  status_now =
      let some = some_voter begun disks id next is.restated.status_found in
      ap (λ (c : Contents). status_among c disks id) is_end
      ∙ status_is begun cleaned.status new.note copied.block disks there id clean status_stands some.0 some.1 (subst (λ (v : Disks). IsTrue (v some.0)) voters_begun some.1) in_disks

  voters_now : is_voter new disks id ≡ there
  voters_now = ap (λ (c : Contents). is_voter c disks id) is_end ∙ voter_same begun cleaned.status new.note copied.block disks id ∙ voters_begun

  consistent : (facts : List Fact) → Kept old facts → (row : LvRow) (lp b : ℕ) → IsOneOf group.lvs row → IsBlockOf group.mib row lp b → (row.mode ≡ Off → ⊥) → HoldOne new group.mib (fresh new disks id row lp) b
  consistent facts kept row lp b one inside on =
      let begun_kept = is.keeps facts kept in
      let shown = is.shows facts begun_kept in
      let stands_is = shown.1 in
      let shows = shown.0 in
      let hold : HoldOne copied group.mib (fresh_on there (Some shows.stands) row lp) b =
      even_there group next.value there begun facts is.within is.enough shows begun_kept copied is.valid
      (subst (λ (s : Stamped Status). IsRecopied begun group (Some s) there copied) (sym stands_is) is.copied_so)
      row lp b one (subst (λ (s : Stamped Status). AreEqualled begun group (Some s) there copied) (sym stands_is) is.equalled row lp b one inside) on inside in
      let by_next : HoldOne copied group.mib (fresh_on there (Some next) row lp) b = subst (λ (s : Stamped Status). HoldOne copied group.mib (fresh_on there (Some s) row lp) b) stands_is hold in
      let held_now : HoldOne new group.mib (fresh_on there (Some next) row lp) b = (by_next.0, held by_next.0 (fresh_on there (Some next) row lp) by_next.1) in
      let now : HoldOne new group.mib (fresh_on there (Some clean) row lp) b = subst (λ (ps : List Pp). HoldOne new group.mib ps b) (sym (same_fresh group there next clean is.cleaned_so there row lp)) held_now in
      subst (λ (set : Disks). HoldOne new group.mib (fresh_on set (status_among new disks id) row lp) b) (sym voters_now)
      (subst (λ (o : Option (Stamped Status)). HoldOne new group.mib (fresh_on there o row lp) b) (sym status_now) now)
    where
      held : (v : List ℕ) (ps : List Pp) → AllByRecursion (λ p. block_at copied group.mib p b ≡ v) ps → AllByRecursion (λ p. block_at new group.mib p b ≡ v) ps
      held v [] all = tt
      held v (p ∷ ps) all = (same_block p.disk (sector_of group.mib p.pp b) ∙ all.0, held v ps all.1)

  member_is : (d : ℕ) → is_some (member_of group d) ≡ is_member group d
  member_is d = some_member group.pvs d

  left : (p : Pp) → IsLeftBehind group there was p → IsLeftBehindBy old disks id group p
  left p l = record {
    row = l.row;
    lp = l.lp;
    volume = l.volume;
    inside = l.inside;
    one = l.one;
    absent = l.absent;
    other = subst (λ (o : Option (Stamped Status)). IsSome (fresh_on there o l.row l.lp)) (sym is.restated.was_found) l.other;
  }

  left_by : (p : Pp) → IsLeftBehindBy old disks id group p → IsLeftBehind group there was p
  left_by p l = record {
    row = l.row;
    lp = l.lp;
    volume = l.volume;
    inside = l.inside;
    one = l.one;
    absent = l.absent;
    other = subst (λ (o : Option (Stamped Status)). IsSome (fresh_on there o l.row l.lp)) is.restated.was_found l.other;
  }

  stale_was : (p : Pp) → is_stale_by (status_among old disks id) p ≡ is_stale_by (Some was) p
  stale_was p = ap (λ (o : Option (Stamped Status)). is_stale_by o p) is.restated.was_found

  stale_now : (p : Pp) → calls_stale clean.value p ≡ calls_stale next.value p
  stale_now p = ap (λ (s : Status). calls_stale s p) rest_now

  missing_now : (d : ℕ) → calls_missing clean.value d ≡ calls_missing next.value d
  missing_now d = ap (λ (s : Status). calls_missing s d) rest_now

  left_dirty : (lv : ℕ) → IsStillDirty group there next lv → IsLeftDirty old disks id group lv
  left_dirty lv l = record {
    row = l.row;
    lp = l.lp;
    volume = l.volume;
    number = l.number;
    mode = l.mode;
    dirty = dirty_was lv l.dirty;
    inside = l.inside;
    none = sym (usable l.row l.lp l.volume) ∙ l.none;
  }

  still_dirty : (lv : ℕ) → IsLeftDirty old disks id group lv → IsStillDirty group there next lv
  still_dirty lv l = record {
    row = l.row;
    lp = l.lp;
    volume = l.volume;
    number = l.number;
    mode = l.mode;
    dirty = subst (λ (n : ℕ). IsTrue (calls_dirty next.value n)) l.number (dirty_next l.row l.volume l.mode (subst (λ (n : ℕ). IsTrue (is_dirty_by (status_among old disks id) n)) (sym l.number) l.dirty));
    inside = l.inside;
    none = usable l.row l.lp l.volume ∙ l.none;
  }

  pub recovered : Recovered old ranges new disks id group
  recovered = record {
    found_before = is.restated.found;
    same_disks = ap (λ (c : Contents). c.disks) is_end ∙ is.restated.same_disks;
    same_sizes = ap (λ (c : Contents). c.size) is_end ∙ is.restated.same_sizes;
    ranges = is.ranges_are;
    equal = equal;
    others = λ d s past. others d s;
    descriptor = ap (λ (c : Contents). option_map (λ r. r.value) (descriptor_among c disks id)) is_end ∙ ap (λ o. option_map (λ r. r.value) o) (group_same begun cleaned.status new.note copied.block disks id) ∙ is.restated.descriptor;
    status = clean;
    found = status_now;
    missing = λ d. (
      λ e. let two = split (is_member group d) (not (there d)) (sym (is.restated.next.missing d) ∙ sym (missing_now d) ∙ e) in (member_is d ∙ two.0, not_so (there d) two.1),
      λ e. missing_now d ∙ is.restated.next.missing d ∙ join (is_member group d) (not (there d)) (sym (member_is d) ∙ e.0) (not_from_false (there d) e.1),
    );
    stale = λ p row member. let its = is.restated.next.stale p (sym (member_is p.disk) ∙ ap is_some member) in (
      λ e. ⊎_elim (λ was_so. inl (stale_was p ∙ was_so)) (λ l. inr (left p l)) (its.0 (sym (stale_now p) ∙ e)),
      λ e. stale_now p ∙ its.1 (⊎_elim (λ was_so. inl (sym (stale_was p) ∙ was_so)) (λ l. inr (left_by p l)) e),
    );
    strangers = λ p none. stale_now p ∙ is.restated.next.strangers p (sym (member_is p.disk) ∙ ap is_some none);
    dirty = λ lv. (λ e. left_dirty lv ((is.cleaned_so.dirty lv).0 e), λ e. (is.cleaned_so.dirty lv).1 (still_dirty lv e));
    notes = λ d lv track_group voter. is.empty d lv track_group voter;
    consistent = consistent;
  }

pub recovered_by_cleaning : RecoveredByCleaning
recovered_by_cleaning old begun copied cleaned new clean ranges disks group is = recovered old begun copied cleaned new clean ranges disks group is
