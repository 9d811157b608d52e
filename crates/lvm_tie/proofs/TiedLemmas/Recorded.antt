-- What the members that aren't missing show, of the group's descriptor and of its status, lasts.
use Rattle.std.proofs.Common.{◌≡◌, ◌⊎◌, inl, inr, ⊎_elim, ℕ, Bool, true, false, List, Option, Some, None, if◌then◌else◌, refl, sym, ap, ◌∙◌, arith}
use Rattle.std.specs.Prelude.{option_map}
use Rattle.std.proofs.lemmas.Bool.Decides.{nat_tests}
use Rattle.lvm_num.specs.declared.descriptor.Descriptor.{Descriptor}
use Rattle.lvm_num.specs.declared.status.Status.{Status}
use Rattle.lvm_num.specs.declared.record.Stamp.{Stamp}
use Rattle.lvm_num.specs.Record.{Stamped, stamp_lt}
use Rattle.lvm_vol.specs.Facts.{Fact}
use Rattle.lvm_disk.specs.Device.{Image}
use Rattle.lvm_kept.specs.Contents.{Contents, contents_of}
use Rattle.lvm_kept.specs.Group.{is_status_of}
use Rattle.lvm_kept.specs.Places.{SameRecords}
use Rattle.lvm_kept.proofs.PlacesLemmas.{data_writes}
use Rattle.lvm_status.specs.Update.{Stored, members_there}
use Rattle.lvm_invariant.specs.State.{Marks, Beside, ModelState}
use Rattle.lvm_invariant.specs.Found.{Found, Votes}
use Rattle.lvm_crash.specs.Session.{Describes, as_marks, marks_shown}
use Rattle.lvm_tie.specs.Seen.{update_of}
use Rattle.lvm_tie.specs.Tied.{CommittedIsOne, ShowsRecords, ShowsStatus}

-- none is there that wasn't
abbrev pub NoMoreThere : Descriptor → Stored → Stored → Type 0
NoMoreThere group old new = (d : ℕ) → members_there group new.wanted d ≡ true → members_there group old.wanted d ≡ true

-- where the statuses stand that stood, and what is committed is what was
pub status_lasts : (group : Descriptor) (old new : Stored) (a b : Contents) → ShowsStatus group old a → NoMoreThere group old new → new.committed ≡ old.committed → ((d : ℕ) → b.status d ≡ a.status d) → ShowsStatus group new b
status_lasts group old new a b shows fewer committed same = record {
  stands = shows.stands;
  committed = shows.committed ∙ sym committed;
  own = shows.own;
  stated = λ d there. same d ∙ shows.stated d (fewer d there);
  last = λ d r is own. shows.last d r (sym (same d) ∙ is) own;
}

-- where the descriptors stand that stood
pub records_last : (group : Descriptor) (old new : Stored) (a b : Contents) → ShowsRecords group old a → NoMoreThere group old new → ((d : ℕ) → b.descriptor d ≡ a.descriptor d) → (new.in_flight ≡ None → ShowsStatus group new b) → ShowsRecords group new b
records_last group old new a b shows fewer same settled = record {
  descriptor = shows.descriptor;
  value = shows.value;
  described = λ d there. same d ∙ shows.described d (fewer d there);
  latest = λ d r is own. shows.latest d r (sym (same d) ∙ is) own;
  settled = settled;
}

-- A write of data leaves all records.
pub records_kept : (group : Descriptor) (status : Stored) (old new : Image) → SameRecords old new → ShowsRecords group status (contents_of old) → ShowsRecords group status (contents_of new)
records_kept group status old new same shows =
    let is : contents_of new ≡ record (contents_of old) { block = (contents_of new).block } = data_writes old new same in
    records_last group status status (contents_of old) (contents_of new) shows (λ d there. there) (λ d. ap (λ (c : Contents). c.descriptor d) is)
    (λ none. status_lasts group status status (contents_of old) (contents_of new) (shows.settled none) (λ d there. there) refl (λ d. ap (λ (c : Contents). c.status d) is))

-- ---- what is under the stamp of the committed status

-- It stays that status, where each status that stands stood before or is the one in flight, and that and what is committed are what was.
pub one_remains : {stamp : Stamp} {group : Descriptor} {old new : Stored} {a b : Contents} → CommittedIsOne stamp group old a → new.committed ≡ old.committed
    → ((u : Stamped Status) → update_of new ≡ Some u → update_of old ≡ Some u) → ((d : ℕ) → (b.status d ≡ a.status d) ⊎ ((u : Stamped Status) × (update_of old ≡ Some u) × (b.status d ≡ Some u))) → CommittedIsOne stamp group new b
one_remains {old = old} {b = b} one committed flew may = record {
  stands = λ d r is own stamp. ⊎_elim
      (λ same. one.stands d r (sym same ∙ is) own stamp ∙ sym committed)
      (λ (x : (u : Stamped Status) × (update_of old ≡ Some u) × (b.status d ≡ Some u)).
      let it : x.0 ≡ r = (let e : Some x.0 ≡ Some r = sym x.2 ∙ is in cc) in
      ap (λ (y : Stamped Status). y.value) (sym it) ∙ one.flies x.0 x.1 (ap (λ (y : Stamped Status). y.stamp) it ∙ stamp) ∙ sym committed)
      (may d);
  flies = λ u is stamp. one.flies u (flew u is) stamp ∙ sym committed;
}

-- A write of data leaves it.
pub one_kept : {stamp : Stamp} {group : Descriptor} {status : Stored} (old new : Image) → SameRecords old new → CommittedIsOne stamp group status (contents_of old) → CommittedIsOne stamp group status (contents_of new)
one_kept old new same one =
    let is : contents_of new ≡ record (contents_of old) { block = (contents_of new).block } = data_writes old new same in
    one_remains one refl (λ u flies. flies) (λ d. inl (ap (λ (c : Contents). c.status d) is))

-- ---- what a disk shows

-- what a disk shows of a group is a status of it
pub shown_of : (beside : Option Beside) (id : ℕ) (o : Option (Stamped Status)) (m : Stamped Marks) → marks_shown beside id o ≡ Some m → (r : Stamped Status) × (o ≡ Some r) × (r.value.id ≡ id) × (as_marks beside r ≡ m)
shown_of beside id None m is = absurd (cc is)
shown_of beside id (Some r) m is = by (is_status_of id r.value) refl is
  where
    by : (b : Bool) → is_status_of id r.value ≡ b → option_map (as_marks beside) (if b then Some r else None) ≡ Some m → (x : Stamped Status) × (Some r ≡ Some x) × (x.value.id ≡ id) × (as_marks beside x ≡ m)
    by true own h = (r, refl, let e : r.value.id ≡ id = grind (arith, nat_tests) in e, let e : as_marks beside r ≡ m = cc h in e)
    by false own h = absurd (cc h)

-- A disk that shows the marks of the update in flight shows that update.
pub shows_update : (s : ModelState) (facts : List Fact) (group : Descriptor) (u : Stamped Status) (c : Contents) → Describes s facts group (Some u) c → (d : ℕ) → s.media.status d ≡ Some (as_marks s.beside u) → c.status d ≡ Some u
shows_update s facts group u c describes d shown =
    let its = shown_of s.beside group.id (c.status d) (as_marks s.beside u) (sym (describes.shown.status d) ∙ shown) in
    let same : its.0 ≡ u = describes.shown.statuses.new u d its.0 refl its.1 (its.2 ∙ sym (describes.shown.statuses.own u refl)) (ap (λ (m : Stamped Marks). m.stamp) its.3) in
    its.1 ∙ ap (λ (r : Stamped Status). Some r) same

-- a status of the group is shown by its marks
pub shows_own : (beside : Option Beside) (id : ℕ) (r : Stamped Status) → r.value.id ≡ id → marks_shown beside id (Some r) ≡ Some (as_marks beside r)
shows_own beside id r own = let test : is_status_of id r.value ≡ true = grind (arith, nat_tests) in ap (λ t. option_map (as_marks beside) (if t then Some r else None)) test

-- Once the update in flight is committed, no disk shows a later status.
pub shows_last : (votes : Votes) (s : ModelState) (facts : List Fact) (group : Descriptor) (u : Stamped Status) (c : Contents) → Describes s facts group (Some u) c → Found votes s → s.committed ≡ as_marks s.beside u → s.in_flight ≡ Some (as_marks s.beside u)
    → (d : ℕ) (r : Stamped Status) → c.status d ≡ Some r → r.value.id ≡ group.id → (stamp_lt r.stamp u.stamp ≡ true) ⊎ (r ≡ u)
shows_last votes s facts group u c describes found committed flies d r is own = ⊎_elim
    (λ before. inl (ap (λ (m : Stamped Marks). stamp_lt r.stamp m.stamp) (sym committed) ∙ before))
    (λ others. inr (⊎_elim (λ same. alike (same ∙ committed)) (λ same. alike (some_of (as_marks s.beside r) (as_marks s.beside u) (sym same ∙ flies))) others))
    (found.only d (as_marks s.beside r) (describes.shown.status d ∙ ap (marks_shown s.beside group.id) is ∙ shows_own s.beside group.id r own))
  where
    some_of : (a b : Stamped Marks) → Some a ≡ Some b → a ≡ b
    some_of a b e = cc

    alike : as_marks s.beside r ≡ as_marks s.beside u → r ≡ u
    alike e = describes.shown.statuses.new u d r refl is (own ∙ sym (describes.shown.statuses.own u refl)) (ap (λ (m : Stamped Marks). m.stamp) e)

-- no update is in flight under any stamp
pub no_update_of : (s : Stored) → s.in_flight ≡ None → update_of s ≡ None
no_update_of s none = ap (λ (o : Option Status). option_map (λ (t : Status). let r : Stamped Status = record { stamp = s.stamp; value = t } in r) o) none
