-- What a command leaves, one call after another, and by a wider scope.
use Rattle.std.proofs.Common.{◌≡◌, ◌⊎◌, ◌+◌, inl, inr, ⊎_elim, ℕ, ◌<◌, ◌≤◌, Bool, true, false, List, refl, sym, subst, ◌∙◌, arith}
use Rattle.std.specs.Prelude.{◌&&◌, not, IsTrue, IsFalse}
use Rattle.std.proofs.lemmas.Bool.{false≢true}
use Rattle.lvm_num.specs.declared.place.Pp.{Pp}
use Rattle.lvm_num.specs.declared.descriptor.Descriptor.{Descriptor}
use Rattle.lvm_num.specs.declared.status.Status.{Status}
use Rattle.lvm_num.specs.Buffer.{Sector}
use Rattle.lvm_num.specs.Disks.{Disks}
use Rattle.lvm_num.specs.Descriptor.{is_member}
use Rattle.lvm_num.specs.Status.{calls_stale, calls_missing}
use Rattle.lvm_num.proofs.Booleans.{false_by}
use Rattle.lvm_disk.specs.Counts.{Rose, NoneFalls}
use Rattle.lvm_disk.specs.Device.{Device}
use Rattle.lvm_kept.specs.Moments.{Moment}
use Rattle.lvm_kept.specs.Torn.{RecordWrite}
use Rattle.lvm_kept.specs.Plans.{Plan}
use Rattle.lvm_status.specs.Update.{members_there}
use Rattle.lvm_volume_plan.specs.passed.Write.{KeepsShelf}
use Rattle.lvm_volume_plan.specs.passed.Commit.{there, IsOfSession, StatesGroup, IsOfStatus, IsOfCommit}
use Rattle.lvm_volume_plan.specs.passed.Core.{IsZeroOf, IsHeld, Scope, NoPartition, NoVolume, IsHeldSince, IsOfCommand, WasLeftBehind, MayBeFound, Leaves}
use Rattle.lvm_volume_plan.proofs.passed.Write.{keeps_here, keeps_then, spends_none, spends_then}
use Rattle.lvm_volume_plan.proofs.passed.Commit.{keeps_wider}
use Rattle.lvm_volume_plan.proofs.passed.Core.{keeps_same, same_status}
use Rattle.lvm_session.specs.State.{State, is_there, moment_of}
use Rattle.lvm_steps.specs.Moments.{SpanGoesOn}
use Rattle.lvm_volumes.specs.Endings.{StillHeld, IfAlone, commanding}

-- ---- counts

pub rose_on : (a b c : ℕ) → Rose a b → b ≤ c → Rose a c
rose_on a b c rose le = record { later = omega (arith, rose.later, le); risen = omega (arith, rose.risen, le) }

pub rose_from : (a b c : ℕ) → a ≤ b → Rose b c → Rose a c
rose_from a b c le rose = record { later = omega (arith, rose.later, le); risen = omega (arith, rose.risen, le) }

-- ---- wider plans

pub wider : (T U : Disks) (P Q : Plan) (old new : Device) → ((d : ℕ) → IsTrue (T d) → IsTrue (U d)) → ((d s : ℕ) (value : Sector) → P d s value → Q d s value) → KeepsShelf T P old new → KeepsShelf U Q old new
wider T U P Q old new targets more keeps = keeps_wider T U P Q old new (λ d off. false_by (T d) (U d) (targets d) off) more keeps

-- ---- members

-- those that aren't missing are fewer where more are missing
fewer : (m : Bool) (a b : Bool) → (IsTrue a → IsTrue b) → IsTrue (m && not b) → IsTrue (m && not a)
fewer true true true more is = is
fewer true true false more is = absurd (false≢true (more refl))
fewer true false b more is = refl
fewer false a b more is = is

pub there_before : (d : Descriptor) (old new : Status) (disk : ℕ) → (IsTrue (calls_missing old disk) → IsTrue (calls_missing new disk)) → IsTrue (members_there d new disk) → IsTrue (members_there d old disk)
there_before d old new disk stays is = fewer (is_member d disk) (calls_missing old disk) (calls_missing new disk) stays is

there_less : (a b : State) → b.core.status.group ≡ a.core.status.group → ((d : ℕ) → IsTrue (calls_missing a.core.status.wanted d) → IsTrue (calls_missing b.core.status.wanted d)) → (d : ℕ)
    → IsTrue (there b.core.status d) → IsTrue (there a.core.status d)
there_less a b group stays d is = there_before a.core.status.group a.core.status.wanted b.core.status.wanted d (stays d) (subst (λ (g : Descriptor). IsTrue (members_there g b.core.status.wanted d)) group is)

-- ---- wider scopes

module _ (V W : Scope) (next : (d : Descriptor) → V.next d → W.next d) (zeros : (pp : Pp) → V.zeros pp → W.zeros pp) (stale : (pp : Pp) → V.stale pp → W.stale pp) (fresh : (pp : Pp) → V.fresh pp → W.fresh pp)
    (marks : (lv : ℕ) → V.marks lv → W.marks lv) (numbers : V.numbers ≤ W.numbers) (p q : ℕ) (a b : State) (lets : (run : ℕ) (first : Moment) → IsHeldSince run first a → W.lets a b run first → V.lets a b run first) where
  behind_wider : (pp : Pp) → WasLeftBehind V.next V.fresh a b pp → WasLeftBehind W.next W.fresh a b pp
  behind_wider pp is = record {
    group = is.group;
    known = ⊎_elim (λ same. inl same) (λ its. inr (next is.group its)) is.known;
    its = is.its;
    absent = is.absent;
    apart = is.apart;
    usable = λ out. is.usable (λ its. out (fresh is.its.other its));
    was_there = is.was_there;
  }

  pub leaves_wider : Leaves V p q a b → Leaves W p q a b
  leaves_wider leaves = record {
    writes = wider (is_there a.core) (is_there a.core) (IsOfCommand V.next V.zeros a b) (IsOfCommand W.next W.zeros a b) a.device b.device (λ d is. is)
        (λ d s value is. ⊎_elim (λ x. inl x) (⊎_elim (λ y. inr (inl (y.0, next y.0 y.1, y.2))) (λ z. inr (inr (z.0, zeros z.0 z.1, z.2)))) is) leaves.writes;
    status = record {
      group = leaves.status.group;
      rows = leaves.status.rows;
      stale = λ pp out. leaves.status.stale pp (λ its. out (fresh pp its));
      further = λ pp is. ⊎_elim (λ x. inl x) (⊎_elim (λ y. inr (inl (stale pp y))) (λ z. inr (inr (behind_wider pp z)))) (leaves.status.further pp is);
      dirty = λ lv out. leaves.status.dirty lv (λ its. out (marks lv its));
      stays = leaves.status.stays;
      lost = leaves.status.lost;
    };
    numbers = record { epoch = leaves.numbers.epoch; rises = leaves.numbers.rises; most = let m = leaves.numbers.most in omega (arith, m, numbers) };
    history = leaves.history;
    spans = λ run first held only. leaves.spans run first held (lets run first held only);
    finds = λ held id k is. ⊎_elim (λ was. inl was) (λ new. inr (new.0, next k new.1)) (leaves.finds held id k is);
    calm = leaves.calm;
    behind = leaves.behind;
    falls = leaves.falls;
    spends = leaves.spends;
  }

falls_then : (a b c : Device) → NoneFalls a.counts b.counts → NoneFalls b.counts c.counts → NoneFalls a.counts c.counts
falls_then a b c one two = record {
  starts = λ d. let x = one.starts d in let y = two.starts d in omega (arith, x, y);
  misses = λ d. let x = one.misses d in let y = two.misses d in omega (arith, x, y);
  faults = λ d. let x = one.faults d in let y = two.faults d in omega (arith, x, y);
  cuts = omega (arith, one.cuts, two.cuts);
  waits = omega (arith, one.waits, two.waits);
}

pub falls_none : (a : Device) → NoneFalls a.counts a.counts
falls_none a = record { starts = λ d. omega arith; misses = λ d. omega arith; faults = λ d. omega arith; cuts = omega arith; waits = omega arith }

-- ---- nothing

pub leaves_none : (W : Scope) (p : ℕ) (s : State) → Leaves W p p s s
leaves_none W p s = record {
  writes = keeps_here (is_there s.core) (IsOfCommand W.next W.zeros s s) s.device;
  status = same_status W.next W.stale W.fresh W.marks s s refl;
  numbers = record { epoch = refl; rises = omega arith; most = omega arith };
  history = keeps_same s.core.history s.core.history refl;
  spans = λ run first held only span. span;
  finds = λ held id k is. inl is;
  calm = λ past calm. calm;
  behind = λ moment lt is. is;
  falls = falls_none s.device;
  spends = spends_none p s.device;
}

-- ---- one after the other

module _ (N : Descriptor → Type 0) (Z : Pp → Type 0) where
  module _ (a b c : State) (group : b.core.status.group ≡ a.core.status.group) (stays : (d : ℕ) → IsTrue (calls_missing a.core.status.wanted d) → IsTrue (calls_missing b.core.status.wanted d))
      (epoch : b.core.status.stamp.epoch ≡ a.core.status.stamp.epoch) (earlier : a.core.status.stamp.seq ≤ b.core.status.stamp.seq) (later : b.core.status.stamp.seq ≤ c.core.status.stamp.seq) where
    session_first : (write : RecordWrite) (d s : ℕ) (value : Sector) → IsOfSession a.core.status b.core.status write d s value → IsOfSession a.core.status c.core.status write d s value
    session_first write d s value is = record {
      frames = is.frames;
      slots = is.slots;
      targets = is.targets;
      epoch = is.epoch;
      later = is.later;
      latest = omega (arith, is.latest, later);
      its = is.its;
    }

    session_second : (write : RecordWrite) (d s : ℕ) (value : Sector) → IsOfSession b.core.status c.core.status write d s value → IsOfSession a.core.status c.core.status write d s value
    session_second write d s value is = record {
      frames = is.frames;
      slots = is.slots;
      targets = λ disk t. there_less a b group stays disk (is.targets disk t);
      epoch = is.epoch ∙ epoch;
      later = omega (arith, is.later, earlier);
      latest = is.latest;
      its = is.its;
    }

    states_second : (write : RecordWrite) → StatesGroup b.core.status.group write → StatesGroup a.core.status.group write
    states_second write is = subst (λ (g : Descriptor). StatesGroup g write) group is

    pub status_first : (d s : ℕ) (value : Sector) → IsOfStatus a.core.status b.core.status d s value → IsOfStatus a.core.status c.core.status d s value
    status_first d s value is = (is.0, is.1, session_first is.0 d s value is.2)

    pub status_second : (d s : ℕ) (value : Sector) → IsOfStatus b.core.status c.core.status d s value → IsOfStatus a.core.status c.core.status d s value
    status_second d s value is = (is.0, states_second is.0 is.1, session_second is.0 d s value is.2)

    pub commit_first : (content : List ℕ) (d s : ℕ) (value : Sector) → IsOfCommit content a.core.status b.core.status d s value → IsOfCommit content a.core.status c.core.status d s value
    commit_first content d s value is = (is.0, is.1, session_first is.0 d s value is.2)

    pub commit_second : (content : List ℕ) (d s : ℕ) (value : Sector) → IsOfCommit content b.core.status c.core.status d s value → IsOfCommit content a.core.status c.core.status d s value
    commit_second content d s value is = (is.0, ⊎_elim (λ x. inl x) (λ y. inr (states_second is.0 y)) is.1, session_second is.0 d s value is.2)

    command_first : (d s : ℕ) (value : Sector) → IsOfCommand N Z a b d s value → IsOfCommand N Z a c d s value
    command_first d s value (inl is) = inl (status_first d s value is)
    command_first d s value (inr (inl is)) = inr (inl (is.0, is.1, commit_first _ d s value is.2))
    command_first d s value (inr (inr is)) = inr (inr is)

    command_second : b.core.descriptor.mib ≡ a.core.descriptor.mib → (d s : ℕ) (value : Sector) → IsOfCommand N Z b c d s value → IsOfCommand N Z a c d s value
    command_second mib d s value (inl is) = inl (status_second d s value is)
    command_second mib d s value (inr (inl is)) = inr (inl (is.0, is.1, commit_second _ d s value is.2))
    command_second mib d s value (inr (inr is)) = inr (inr (is.0, is.1, subst (λ (n : ℕ). IsZeroOf n is.0 d s value) mib is.2))

  -- ---- what was left behind at the one call or the other

  behind_first : (F : Pp → Type 0) (a b c : State) → ((d : ℕ) → IsTrue (there c.core.status d) → IsTrue (there b.core.status d)) → (p : Pp) → WasLeftBehind N F a b p → WasLeftBehind N F a c p
  behind_first F a b c less p is = record {
    group = is.group;
    known = is.known;
    its = is.its;
    absent = false_by (there c.core.status p.disk) (there b.core.status p.disk) (less p.disk) is.absent;
    apart = is.apart;
    usable = is.usable;
    was_there = is.was_there;
  }

  behind_second : (F : Pp → Type 0) (a b c : State) → (b.core.descriptor ≡ a.core.descriptor) ⊎ N b.core.descriptor
      → ((p : Pp) → (F p → ⊥) → IsTrue (calls_stale a.core.status.wanted p) → IsTrue (calls_stale b.core.status.wanted p))
      → ((d : ℕ) → IsTrue (there b.core.status d) → IsTrue (there a.core.status d)) → (p : Pp) → WasLeftBehind N F b c p → WasLeftBehind N F a c p
  behind_second F a b c from stale less p is = record {
    group = is.group;
    known = ⊎_elim
        (λ (same : is.group ≡ b.core.descriptor). ⊎_elim (λ (was : b.core.descriptor ≡ a.core.descriptor). inl (same ∙ was)) (λ (its : N b.core.descriptor). inr (subst N (sym same) its)) from)
        (λ (its : N is.group). inr its)
        is.known;
    its = is.its;
    absent = is.absent;
    apart = is.apart;
    usable = λ out. false_by (calls_stale a.core.status.wanted is.its.other) (calls_stale b.core.status.wanted is.its.other) (stale is.its.other out) (is.usable out);
    was_there = less is.its.other.disk is.was_there;
  }

  -- a command that may also make such partitions stale and such volumes dirty or not, under such a premise
  abbrev pub scoped : (Pp → Type 0) → (ℕ → Type 0) → (State → State → ℕ → Moment → Type 0) → ℕ → Scope
  scoped S D L numbers = record { next = N; zeros = Z; stale = S; fresh = Z; marks = D; numbers = numbers; lets = L }

  pub leaves_joined : (S : Pp → Type 0) (D : ℕ → Type 0) (J K L : State → State → ℕ → Moment → Type 0) (m n p q r : ℕ) (a b c : State) → (b.core.descriptor ≡ a.core.descriptor) ⊎ N b.core.descriptor → b.core.descriptor.mib ≡ a.core.descriptor.mib
      → ((d : ℕ) → is_member b.core.descriptor d ≡ is_member a.core.descriptor d) → Leaves (scoped S D J m) p q a b → (IsHeld a.device a.core → IsHeld b.device b.core) → Leaves (scoped S D K n) q r b c
      → ((run : ℕ) (first : Moment) → IsHeldSince run first a → L a c run first → SpanGoesOn run first (moment_of a) (moment_of c)) → Leaves (scoped S D L (m + n)) p r a c
  leaves_joined S D J K L m n p q r a b c from mib members one still two spans = record {
    writes = keeps_then (is_there a.core) (IsOfCommand N Z a c) a.device b.device c.device
        (wider (is_there a.core) (is_there a.core) (IsOfCommand N Z a b) (IsOfCommand N Z a c) a.device b.device (λ d is. is)
        (command_first a b c one.status.group one.status.stays one.numbers.epoch one.numbers.rises two.numbers.rises) one.writes)
        (wider (is_there b.core) (is_there a.core) (IsOfCommand N Z b c) (IsOfCommand N Z a c) b.device c.device before
        (command_second a b c one.status.group one.status.stays one.numbers.epoch one.numbers.rises two.numbers.rises mib) two.writes);
    status = record {
      group = two.status.group ∙ one.status.group;
      rows = record { id = two.status.rows.id ∙ one.status.rows.id; big = two.status.rows.big ∙ one.status.rows.big; disks = two.status.rows.disks ∙ one.status.rows.disks };
      stale = λ p off is. two.status.stale p off (one.status.stale p off is);
      further = λ p is. ⊎_elim
          (λ before. ⊎_elim (λ first. inl first)
          (⊎_elim (λ its. inr (inl its)) (λ gone. inr (inr (behind_first Z a b c (there_less b c two.status.group two.status.stays) p gone)))) (one.status.further p before))
          (⊎_elim (λ its. inr (inl its)) (λ gone. inr (inr (behind_second Z a b c from one.status.stale (there_less a b one.status.group one.status.stays) p gone))))
          (two.status.further p is);
      dirty = λ lv out. two.status.dirty lv out ∙ one.status.dirty lv out;
      stays = λ d is. two.status.stays d (one.status.stays d is);
      lost = λ d is isnt. lost d (calls_missing b.core.status.wanted d) refl is isnt;
    };
    numbers = record {
      epoch = two.numbers.epoch ∙ one.numbers.epoch;
      rises = omega (arith, one.numbers.rises, two.numbers.rises);
      most = let x = one.numbers.most in let y = two.numbers.most in omega (arith, x, y);
    };
    history = record { room = two.history.room ∙ one.history.room; volumes = omega (arith, one.history.volumes, two.history.volumes); later = λ moment is. two.history.later moment (one.history.later moment is) };
    spans = spans;
    finds = λ held id k is. ⊎_elim (λ (was : MayBeFound b.device id k). one.finds held id k was) (λ (new : (id ≡ k.id) × N k). inr new) (two.finds (still held) id k is);
    calm = λ past calm. two.calm past (one.calm past calm);
    behind = λ moment lt is. two.behind moment (subst (λ (n : ℕ). n < moment) (sym one.numbers.epoch) lt) (one.behind moment lt is);
    falls = falls_then a.device b.device c.device one.falls two.falls;
    spends = spends_then p q r a.device b.device c.device one.spends two.spends;
  }
    where
      before : (d : ℕ) → IsTrue (is_there b.core d) → IsTrue (is_there a.core d)
      before d is = fewer (is_member a.core.descriptor d) (calls_missing a.core.status.wanted d) (calls_missing b.core.status.wanted d) (one.status.stays d)
          (subst (λ (m : Bool). IsTrue (m && not (calls_missing b.core.status.wanted d))) (members d) is)

      lost : (d : ℕ) (t : Bool) → calls_missing b.core.status.wanted d ≡ t → IsTrue (calls_missing c.core.status.wanted d) → IsFalse (calls_missing a.core.status.wanted d)
          → IsTrue (is_there a.core d) × Rose (a.device.counts.faults d) (c.device.counts.faults d)
      lost d true mid is isnt = let first = one.status.lost d mid isnt in (first.0, rose_on (a.device.counts.faults d) (b.device.counts.faults d) (c.device.counts.faults d) first.1 (two.falls.faults d))
      lost d false mid is isnt = let second = two.status.lost d is mid in (before d second.0, rose_from (a.device.counts.faults d) (b.device.counts.faults d) (c.device.counts.faults d) (one.falls.faults d) second.1)

  pub leaves_then : (m n p q r : ℕ) (a b c : State) → (b.core.descriptor ≡ a.core.descriptor) ⊎ N b.core.descriptor → b.core.descriptor.mib ≡ a.core.descriptor.mib → ((d : ℕ) → is_member b.core.descriptor d ≡ is_member a.core.descriptor d)
      → Leaves (commanding N Z m) p q a b → StillHeld a b → Leaves (commanding N Z n) q r b c → Leaves (commanding N Z (m + n)) p r a c
  leaves_then m n p q r a b c from mib members one still two = leaves_joined NoPartition NoVolume IfAlone IfAlone IfAlone m n p q r a b c from mib members one still.held two (λ run first held only span.
      let before = one.history.volumes in
      let after = two.history.volumes in
      two.spans run first (λ past begins. still.held (held past begins)) (λ enters past begins. still.only (held past begins) (only (omega (arith, before, enters)) past begins))
      (one.spans run first held (λ enters. only (omega (arith, after, enters))) span))
