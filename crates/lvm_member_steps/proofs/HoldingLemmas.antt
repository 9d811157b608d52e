-- Once a step is made the disks hold what the session says, where they did, and each logical partition keeps a fresh copy.
use Rattle.std.proofs.Common.{◌≡◌, inl, inr, ⊎_elim, ℕ, Bool, true, false, ◌&&◌, not, List, [], ◌∷◌, Option, Some, None, IfSome, refl, sym, ◌∙◌, ap, subst, arith}
use Rattle.std.specs.Prelude.{◌==◌, IsTrue, IsFalse, if◌then◌else◌, find, filter}
use Rattle.std.specs.Option.{option_map_or}
use Rattle.std.proofs.lemmas.Bool.{false≢true, and_parts, eqb-true}
use Rattle.lvm_num.specs.declared.descriptor.LvRow.{LvRow}
use Rattle.lvm_num.specs.declared.descriptor.Descriptor.{Descriptor}
use Rattle.lvm_num.specs.Buffer.{Sector}
use Rattle.lvm_num.specs.Descriptor.{is_member, volume_of}
use Rattle.lvm_num.specs.Status.{calls_missing}
use Rattle.lvm_num.proofs.Booleans.{or_false}
use Rattle.lvm_disk.specs.Device.{Media, image_of}
use Rattle.lvm_kept.specs.Contents.{note_sector}
use Rattle.lvm_erase.specs.Erasing.{ZeroesSlots}
use Rattle.lvm_mwc.specs.declared.notes.DiskNotes.{DiskNotes}
use Rattle.lvm_mwc.specs.Cache.{Cached, is_named as is_named_by, notes_on}
use Rattle.lvm_mwc.specs.Notes.{both_name, is_of_disk}
use Rattle.lvm_status.specs.passed.Status.{IsLeftIn}
use Rattle.lvm_commit.specs.LawsOfVolumes.{IsOnlyGroupOn}
use Rattle.lvm_commit.specs.Settling.{there, MarksLeft, NoneIsLeft}
use Rattle.lvm_commit.proofs.AmongLemmas.{one_place}
use Rattle.lvm_session.specs.State.{Core, State, is_there}
use Rattle.lvm_core.specs.Committing.{HasStated, is_in}
use Rattle.lvm_core.specs.Held.{NotesAreHome, AreNotesHome}
use Rattle.lvm_core.specs.Leaves.{NoPartition, MayBeFound}
use Rattle.lvm_change_laws.proofs.StayingLemmas.{staying_member}
use Rattle.lvm_turnover.specs.declared.change.Leaving.{Leaving}
use Rattle.lvm_turnover.specs.Turning.{cache_after, disks_leaving, state_after}
use Rattle.lvm_turnover.specs.Changing.{IsNext, IsOfChange, among, LeavesWithin}
use Rattle.lvm_volumes.specs.Endings.{StillHeld, KeepsFresh}
use Rattle.lvm_volumes.proofs.EndingsLemmas.Fresh.{HasOnePlaceEach, no_copy, volume_stays}
use Rattle.lvm_volumes.proofs.EndingsLemmas.Notes.{SparesNotes, command_spares, notes_stay}
use Rattle.lvm_member_plan.specs.Steps.{IsStep}

-- ---- notes

abbrev others : ℕ → List DiskNotes → List DiskNotes
others x notes = filter (λ (n : DiskNotes). not (is_of_disk x n)) notes

-- a disk's notes are those that it had, but for the one whose notes are let go
find_without : (x d : ℕ) (notes : List DiskNotes) → find (is_of_disk d) (filter (λ n. not (is_of_disk x n)) notes) ≡ (if d == x then None else find (is_of_disk d) notes)
find_without x d [] = by (d == x)
  where
    by : (b : Bool) → ◌≡◌ {A = Option DiskNotes} None (if b then None else None)
    by true = refl
    by false = refl
find_without x d (n ∷ notes) = by (n.disk == x) (n.disk == d) (d == x) refl refl refl (find_without x d notes)
  where
    by : (goes same one : Bool) → (n.disk == x) ≡ goes → (n.disk == d) ≡ same → (d == x) ≡ one → find (is_of_disk d) (others x notes) ≡ (if one then None else find (is_of_disk d) notes)
        → find (is_of_disk d) (if not goes then n ∷ others x notes else others x notes) ≡ (if one then None else (if same then Some n else find (is_of_disk d) notes))
    by true true true goes same one ih = ih
    by true true false goes same one ih = absurd (false≢true (sym one ∙ ap (λ (k : ℕ). k == x) (sym (eqb-true n.disk d same)) ∙ goes))
    by true false one goes same is ih = ih ∙ other one
      where
        other : (b : Bool) → ◌≡◌ {A = Option DiskNotes} (if b then None else find (is_of_disk d) notes) (if b then None else find (is_of_disk d) notes)
        other b = refl
    by false true true goes same one ih = absurd (false≢true (sym goes ∙ ap (λ (k : ℕ). k == x) (eqb-true n.disk d same) ∙ one))
    by false true false goes same one ih = ap (λ (b : Bool). if b then Some n else find (is_of_disk d) (others x notes)) same
    by false false one goes same is ih = ap (λ (b : Bool). if b then Some n else find (is_of_disk d) (others x notes)) same ∙ ih

-- what the cache says of another disk's note stays
named_after : (leaving : Option Leaving) (cache : Cached) (d lv group : ℕ) → IsFalse (is_in (disks_leaving leaving) d) → is_named_by (cache_after leaving cache) d lv group ≡ is_named_by cache d lv group
named_after None cache d lv group off = refl
named_after (Some out) cache d lv group off = ap (λ (o : Option DiskNotes). option_map_or (both_name lv group) o false) (find_without out.disk d cache.notes ∙ ap (λ (b : Bool). if b then None else notes_on cache d) (sym (or_false (d == out.disk)) ∙ off))

-- nor do zeros in a slot come to one
pub zeros_spare : (d : ℕ) (value : Sector) → ZeroesSlots d d note_sector value → ⊥
zeros_spare d value (slot, few, at) = let place = at.1 in omega (arith, place, few)

-- ---- a step

module _ (next : Descriptor) (leaving : Option Leaving) (p q : ℕ) (old new : State) (step : IsStep (disks_leaving leaving) old.core.descriptor next) (left : MarksLeft next old.core.status new.core.status)
    (leaves : LeavesWithin 3 (IsNext next) [] (disks_leaving leaving) p q old new) (done : HasStated next (state_after leaving old) new) where
  abbrev was : Descriptor
  was = old.core.descriptor

  abbrev gone : List ℕ
  gone = disks_leaving leaving

  now : new.core.descriptor ≡ next
  now = ap (λ (k : Core). k.descriptor) done.is

  pub step_id : next.id ≡ was.id
  step_id = ap (λ (g : Descriptor). g.id) step.is

  pub step_volumes : next.lvs ≡ was.lvs
  step_volumes = ap (λ (g : Descriptor). g.lvs) step.is

  volume_same : (lv : ℕ) → volume_of next lv ≡ volume_of was lv
  volume_same lv = ap (λ (g : Descriptor). volume_of g lv) step.is

  pub step_member : (d : ℕ) → is_member next d ≡ (is_member was d && not (is_in gone d))
  step_member d = ap (λ (g : Descriptor). is_member g d) step.is ∙ staying_member (is_in gone) d was.pvs

  places : HasOnePlaceEach next
  places row other lp at pp one two here there = one_place next row other lp at pp step.valid_next one two here there

  pub step_fresh : KeepsFresh old new
  step_fresh lv lp pp one how = ⊎_elim
      (λ (none : volume_of was lv ≡ None). absurd (no_copy new.core.descriptor lv lp pp (ap (λ (g : Descriptor). volume_of g lv) now ∙ volume_same lv ∙ none) one))
      (λ fresh. volume_stays next old new now places (λ row n x volume copy is. left.only x is) lv lp (volume_same lv) fresh)
      how

  -- a member that isn't missing was one, and doesn't leave
  parts_of : (d : ℕ) → IsTrue (is_there new.core d) → IsTrue (is_member was d) × IsFalse (is_in gone d) × IsTrue (not (calls_missing new.core.status.wanted d))
  parts_of d is =
      let two = and_parts (is_member new.core.descriptor d) (not (calls_missing new.core.status.wanted d)) is in
      let its = and_parts (is_member was d) (not (is_in gone d)) (sym (step_member d) ∙ ap (λ (g : Descriptor). is_member g d) (sym now) ∙ two.0) in
      (its.0, isnt (is_in gone d) its.1, two.1)
    where
      isnt : (b : Bool) → not b ≡ true → b ≡ false
      isnt true is = absurd (false≢true is)
      isnt false is = refl

  pub step_before : (d : ℕ) → IsTrue (is_there new.core d) → IsTrue (is_there old.core d)
  step_before d is = let its = parts_of d is in both (is_member was d) (calls_missing old.core.status.wanted d) (calls_missing new.core.status.wanted d) its.0 (leaves.status.stays d its.1) its.2
    where
      both : (m o n : Bool) → m ≡ true → (IsTrue o → IsTrue n) → IsTrue (not n) → (m && not o) ≡ true
      both false o n one more is = absurd (false≢true one)
      both true false n one more is = refl
      both true true true one more is = absurd (false≢true is)
      both true true false one more is = absurd (false≢true (more refl))

  spares : SparesNotes (IsOfChange (IsNext next) [] gone old new)
  spares d value (inl it) = command_spares (IsNext next) NoPartition old new d value (inl it)
  spares d value (inr (inl it)) = command_spares (IsNext next) NoPartition old new d value (inr (inl it))
  spares d value (inr (inr it)) = zeros_spare d value it.1

  -- by the cache of before
  abbrev with_old : State
  with_old = record { device = new.device; core = record new.core { cache = old.core.cache } }

  home : AreNotesHome old.device old.core → AreNotesHome new.device new.core
  home was_home = by_media new.device.media (notes_stay (among [] (among gone (is_there old.core))) (IsOfChange (IsNext next) [] gone old new) spares old with_old leaves.writes step_before refl was_home)
    where
      by_media : (o : Option Media) → IfSome o (λ media. NotesAreHome with_old.core (image_of new.device.sizes media)) → IfSome o (λ media. NotesAreHome new.core (image_of new.device.sizes media))
      by_media None is = tt
      by_media (Some media) is = λ d lv group there. is d lv group there ∙ sym (ap (λ (k : Core). is_named_by k.cache d lv group) done.is ∙ named_after leaving old.core.cache d lv group (parts_of d there).1)

  none_next : NoneIsLeft was old.core.status → NoneIsLeft next old.core.status
  none_next none pp is = none pp (subst (λ (rows : List LvRow). IsLeftIn (there old.core.status) old.core.status.wanted rows pp) step_volumes is)

  pub step_still : StillHeld old new
  step_still = record {
    held = done.held;
    notes = home;
    only = λ held only. subst (λ (n : ℕ). IsOnlyGroupOn new.device n) (sym (ap (λ (g : Descriptor). g.id) now ∙ step_id)) (λ image may other k is. ⊎_elim
        (λ (before : MayBeFound old.device other k). only before.0 before.1 other k before.2)
        (λ (its : (other ≡ k.id) × (k ≡ next)). its.0 ∙ ap (λ (g : Descriptor). g.id) its.1 ∙ step_id)
        (leaves.finds held other k (image, may, is)));
    left = λ none. subst (λ (d : Descriptor). NoneIsLeft d new.core.status) (sym now) (left.none (none_next none));
  }
