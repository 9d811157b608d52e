-- What some records of a session did, one after another.
use Rattle.std.proofs.Common.{◌≡◌, inl, inr, ⊎_elim, ℕ, ◌+◌, ◌≤◌, Bool, true, false, ◌&&◌, ◌||◌, not, map, IsTrue, IsFalse, refl, sym, ◌∙◌, ap, subst, arith}
use Rattle.std.proofs.lemmas.Bool.{false≢true}
use Rattle.lvm_num.specs.declared.record.Stamp.{Stamp}
use Rattle.lvm_num.specs.declared.descriptor.Descriptor.{Descriptor}
use Rattle.lvm_num.specs.declared.status.StatusRow.{StatusRow}
use Rattle.lvm_num.specs.declared.status.Status.{Status}
use Rattle.lvm_num.specs.Buffer.{Buffer, Sector}
use Rattle.lvm_num.specs.Disks.{Disks}
use Rattle.lvm_num.specs.Descriptor.{is_member}
use Rattle.lvm_num.specs.Status.{calls_missing, calls_stale}
use Rattle.lvm_num.specs.Votes.{CanWrite}
use Rattle.lvm_disk.specs.Counts.{NoneFalls}
use Rattle.lvm_disk.specs.Device.{Device, image_of}
use Rattle.lvm_disk.specs.Paths.{DeviceStep, Path, Here, Then}
use Rattle.lvm_disk.proofs.PathsLemmas.{append-path}
use Rattle.lvm_disk.proofs.CountingLemmas.{rose_before, rose_after, none_falls_at_once, none_falls_on}
use Rattle.lvm_disk.proofs.StepsLemmas.{step_counts}
use Rattle.lvm_kept.specs.Plans.{Plan, ChangesBy}
use Rattle.lvm_kept.specs.Torn.{RecordWrite}
use Rattle.lvm_status.specs.Update.{Stored}
use Rattle.lvm_steps.proofs.RecordLemmas.{either, clash}
use Rattle.lvm_rec.specs.declared.homes.Homes.{Homes}
use Rattle.lvm_write.specs.Parts.{Spends}
use Rattle.lvm_write.specs.Written.{KeepsShelf}
use Rattle.lvm_write.proofs.PartsLemmas.Transfers.{keeps_then, spends_then}
use Rattle.lvm_write.proofs.WrittenLemmas.Writing.{logs_wider, both_map, changes_more}
use Rattle.lvm_commit.specs.Settling.{StaysCommitted, there, OnlyLoses, HasLostQuorum, SpendsNumbers, ComesBack}
use Rattle.lvm_commit.specs.Rounds.{WasTried}

-- ---- counts

pub path_counts : {P : Device → Type 0} {a b : Device} → Path DeviceStep P a b → NoneFalls a.counts b.counts
path_counts (Here p) = none_falls_at_once _
path_counts (Then path step p) = none_falls_on (path_counts path) (step_counts _ _ step)

-- ---- who is missing

pub there_less : (first last : Stored) → last.group ≡ first.group → ((d : ℕ) → IsTrue (calls_missing first.wanted d) → IsTrue (calls_missing last.wanted d)) → (d : ℕ) → IsTrue (there last d) → IsTrue (there first d)
there_less first last group stays d is = less (is_member first.group d) (calls_missing first.wanted d) (calls_missing last.wanted d) (stays d)
    (sym (ap (λ g. is_member g d && not (calls_missing last.wanted d)) group) ∙ is)
  where
    less : (member was now : Bool) → (was ≡ true → now ≡ true) → member && not now ≡ true → member && not was ≡ true
    less true true now more is = absurd (false≢true (ap not (sym (more refl)) ∙ is))
    less true false now more is = refl
    less false was now more is = is

pub not_there : (first last : Stored) → ((d : ℕ) → IsTrue (there last d) → IsTrue (there first d)) → (d : ℕ) → IsFalse (there first d) → IsFalse (there last d)
not_there first last less d isnt = ⊎_elim (λ is. absurd (clash (there first d) (less d is) isnt)) (λ is. is) (either (there last d))

pub loses_less : (first last : Stored) (old new : Device) → OnlyLoses first last old new → (d : ℕ) → IsTrue (there last d) → IsTrue (there first d)
loses_less first last old new loses = there_less first last loses.group loses.stays

pub loses_same : (first last : Stored) (old new : Device) → last.group ≡ first.group → last.wanted ≡ first.wanted → OnlyLoses first last old new
loses_same first last old new group same = record {
  group = group;
  rows = record { id = ap (λ (s : Status). s.id) same; big = ap (λ (s : Status). s.big) same; disks = ap (λ (s : Status). map (λ (row : StatusRow). row.disk) s.rows) same };
  stale = λ p is. ap (λ (s : Status). calls_stale s p) same ∙ is;
  dirty = ap (λ (s : Status). s.dirty) same;
  stays = λ d is. ap (λ (s : Status). calls_missing s d) same ∙ is;
  lost = λ d is isnt. absurd (clash (calls_missing last.wanted d) is (ap (λ (s : Status). calls_missing s d) same ∙ isnt));
}

-- whatever the stamp
pub loses_from : (first last : Stored) (stamp : Stamp) (old new : Device) → OnlyLoses (record first { stamp = stamp }) last old new → OnlyLoses first last old new
loses_from first last stamp old new loses = record { group = loses.group; rows = loses.rows; stale = loses.stale; dirty = loses.dirty; stays = loses.stays; lost = loses.lost }

pub loses_then : (first mid last : Stored) (old m new : Device) → NoneFalls old.counts m.counts → NoneFalls m.counts new.counts → OnlyLoses first mid old m → OnlyLoses mid last m new → OnlyLoses first last old new
loses_then first mid last old m new rises goes_on one two = record {
  group = two.group ∙ one.group;
  rows = record { id = two.rows.id ∙ one.rows.id; big = two.rows.big ∙ one.rows.big; disks = two.rows.disks ∙ one.rows.disks };
  stale = λ p is. two.stale p (one.stale p is);
  dirty = two.dirty ∙ one.dirty;
  stays = λ d is. two.stays d (one.stays d is);
  lost = λ d is isnt. ⊎_elim
      (λ (was : IsTrue (calls_missing mid.wanted d)). let its = one.lost d was isnt in (its.0, rose_after its.1 (goes_on.faults d)))
      (λ (wasnt : IsFalse (calls_missing mid.wanted d)). let its = two.lost d is wasnt in (loses_less first mid old m one d its.0, rose_before (rises.faults d) its.1))
      (either (calls_missing mid.wanted d));
}

-- ---- the shelf

pub keeps_wider : (few many : Disks) (P Q : Plan) (old new : Device) → ((d : ℕ) → IsFalse (many d) → IsFalse (few d)) → ((d s : ℕ) (value : Sector) → P d s value → Q d s value) → KeepsShelf few P old new → KeepsShelf many Q old new
keeps_wider few many P Q old new fewer more keeps = record {
  sizes = keeps.sizes;
  arranges = keeps.arranges;
  orders = keeps.orders;
  misses = keeps.misses;
  starts = λ d off. keeps.starts d (fewer d off);
  faults = λ d off. keeps.faults d (fewer d off);
  wrote = logs_wider P Q old.wrote new.wrote more keeps.wrote;
  media = both_map old.media new.media (λ was is. ChangesBy P (image_of old.sizes was) (image_of new.sizes is)) (λ was is. ChangesBy Q (image_of old.sizes was) (image_of new.sizes is)) keeps.media
      (λ m n was is by. changes_more P Q (image_of old.sizes m) (image_of new.sizes n) more by);
}

-- what was committed since a later point was so since an earlier one
pub stays_before : (first mid last : Stored) (old m new : Device) → mid.committed ≡ first.committed → mid.stamp.epoch ≡ first.stamp.epoch → first.stamp.seq ≤ mid.stamp.seq → mid.group ≡ first.group
    → Path DeviceStep (λ d. Unit {0}) old m → StaysCommitted mid last m new → StaysCommitted first last old new
stays_before first mid last old m new committed epoch later group path stays = ⊎_elim
    (λ same. inl (same ∙ committed))
    (λ came. inr (record {
      write = came.write;
      kind = came.kind;
      content = came.content;
      epoch = came.epoch ∙ epoch;
      later = (let l = came.later in omega (arith, l, later));
      earlier = came.earlier;
      members = came.members;
      votes = subst (λ (g : Descriptor). CanWrite g came.members) group came.votes;
      moment = came.moment;
      before = append-path path came.before;
      after = came.after;
      stands = came.stands;
    }))
    stays

-- ---- whatever the answer

pub record Goes (P : Plan) (before after : ℕ) (first last : Stored) (old new : Device) : Type 0 where
  pub loses : OnlyLoses first last old new
  pub keeps : KeepsShelf (there first) P old new
  pub spends : Spends before after old new
  pub rises : NoneFalls old.counts new.counts

pub goes_wider : (P Q : Plan) (before after : ℕ) (first last : Stored) (old new : Device) → ((d s : ℕ) (value : Sector) → P d s value → Q d s value) → Goes P before after first last old new → Goes Q before after first last old new
goes_wider P Q before after first last old new more goes = record { loses = goes.loses; keeps = keeps_wider (there first) (there first) P Q old new (λ d off. off) more goes.keeps; spends = goes.spends; rises = goes.rises }

-- whatever the stamp
pub goes_from : (P : Plan) (before after : ℕ) (first last : Stored) (stamp : Stamp) (old new : Device) → Goes P before after (record first { stamp = stamp }) last old new → Goes P before after first last old new
goes_from P before after first last stamp old new goes = record { loses = loses_from first last stamp old new goes.loses; keeps = goes.keeps; spends = goes.spends; rises = goes.rises }

pub goes_then : (P : Plan) (p q r : ℕ) (first mid last : Stored) (old m new : Device) → Goes P p q first mid old m → Goes P q r mid last m new → Goes P p r first last old new
goes_then P p q r first mid last old m new one two = record {
  loses = loses_then first mid last old m new one.rises two.rises one.loses two.loses;
  keeps = keeps_then (there first) P old m new one.keeps (keeps_wider (there mid) (there first) P P m new (not_there first mid (loses_less first mid old m one.loses)) (λ d s value is. is) two.keeps);
  spends = spends_then p q r old m new one.spends two.spends;
  rises = none_falls_on one.rises two.rises;
}

-- ---- where the buffer comes back

pub returns_then : (number : ℕ) (mid last : Stored) (old m new : Device) (back buf : Buffer) → ((d : ℕ) → IsTrue (there last d) → IsTrue (there mid d)) → ComesBack number mid old m back → ComesBack back.number last m new buf → ComesBack number last old new buf
returns_then number mid last old m new back buf less one two = record {
  number_is = two.number_is ∙ one.number_is;
  ready = two.ready;
  cuts = two.cuts ∙ one.cuts;
  well = λ d is. two.well d is ∙ one.well d (less d is);
}

pub lost_quorum_then : (first mid last : Stored) (old m new : Device) (have total : ℕ) → OnlyLoses first mid old m → NoneFalls old.counts m.counts → HasLostQuorum mid last m new have total → HasLostQuorum first last old new have total
lost_quorum_then first mid last old m new have total loses rises lost = record {
  have_is = lost.have_is;
  total_is = lost.total_is;
  few = lost.few;
  disk = lost.disk;
  was = loses_less first mid old m loses lost.disk lost.was;
  failed = rose_before (rises.faults lost.disk) lost.failed;
}

pub spends_numbers_then : (a b : ℕ) (first mid last : Stored) → SpendsNumbers a first mid → SpendsNumbers b mid last → SpendsNumbers (a + b) first last
spends_numbers_then a b first mid last one two = record {
  epoch = two.epoch ∙ one.epoch;
  rises = omega (arith, one.rises, two.rises);
  most = omega (arith, one.most, two.most);
}

-- ---- one record

module _ (w : RecordWrite) (number : ℕ) (first last : Stored) (slots next : Homes) (old new : Device) (buf : Buffer) (targets : w.targets ≡ there first) (tried : WasTried w number first last slots next old new buf) where
  pub was_there : (d : ℕ) → IsTrue (tried.failed d) → IsTrue (there first d)
  was_there d is = sym (ap (λ (set : Disks). set d) targets) ∙ (tried.each d).target is

  missing_then : (d : ℕ) → calls_missing last.wanted d ≡ (calls_missing first.wanted d || tried.failed d)
  missing_then d = tried.wanted.missing d

  pub record_loses : OnlyLoses first last old new
  record_loses = record {
    group = tried.group;
    rows = tried.wanted.rows;
    stale = tried.wanted.stale;
    dirty = tried.wanted.dirty;
    stays = λ d is. missing_then d ∙ ap (λ b. b || tried.failed d) is;
    lost = λ d is isnt. let fails : IsTrue (tried.failed d) = sym (missing_then d ∙ ap (λ b. b || tried.failed d) isnt) ∙ is in (was_there d fails, (tried.each d).badly fails);
  }

  -- the members that aren't missing then are those that it was written to, but for the failed
  pub there_then : (d : ℕ) → there last d ≡ w.targets d && not (tried.failed d)
  there_then d =
      ap (λ g. is_member g d && not (calls_missing last.wanted d)) tried.group ∙ ap (λ b. is_member first.group d && not b) (missing_then d) ∙ parts (is_member first.group d) (calls_missing first.wanted d) (tried.failed d)
      ∙ ap (λ (set : Disks). set d && not (tried.failed d)) (sym targets)
    where
      parts : (member was fails : Bool) → member && not (was || fails) ≡ (member && not was) && not fails
      parts true true fails = refl
      parts true false fails = refl
      parts false was fails = refl

  pub record_returns : ComesBack number last old new buf
  record_returns = record { number_is = tried.number_is; ready = tried.ready; cuts = tried.cuts; well = λ d is. (tried.each d).well (not_failed (w.targets d) (tried.failed d) (sym (there_then d) ∙ is)) }
    where
      not_failed : (t fails : Bool) → t && not fails ≡ true → fails ≡ false
      not_failed t false is = refl
      not_failed true true is = sym is
      not_failed false true is = absurd (false≢true is)
