-- What a command leaves that does one thing after another while members leave.
use Rattle.std.proofs.Common.{◌≡◌, ◌⊎◌, ◌+◌, inl, inr, ⊎_elim, ℕ, ◌<◌, ◌≤◌, Bool, true, false, List, [], refl, sym, subst, ◌∙◌, arith}
use Rattle.std.specs.Prelude.{◌||◌, IsTrue, IsFalse}
use Rattle.std.proofs.lemmas.Bool.{false≢true}
use Rattle.lvm_num.specs.declared.place.Pp.{Pp}
use Rattle.lvm_num.specs.declared.descriptor.LvRow.{LvRow}
use Rattle.lvm_num.specs.declared.descriptor.Descriptor.{Descriptor}
use Rattle.lvm_num.specs.Buffer.{Sector}
use Rattle.lvm_num.specs.Descriptor.{copies_of}
use Rattle.lvm_num.specs.Among.{IsOneOf}
use Rattle.lvm_num.specs.Status.{calls_stale, calls_missing}
use Rattle.lvm_num.proofs.Booleans.{false_by}
use Rattle.lvm_disk.specs.Counts.{Rose}
use Rattle.lvm_disk.proofs.CountingLemmas.{none_falls_on}
use Rattle.lvm_kept.specs.Torn.{RecordWrite}
use Rattle.lvm_write.proofs.PartsLemmas.Transfers.{keeps_then, spends_then}
use Rattle.lvm_commit.specs.Settling.{there, IsOfSession, StatesGroup}
use Rattle.lvm_session.specs.State.{State, is_there}
use Rattle.lvm_core.specs.Committing.{is_in}
use Rattle.lvm_core.specs.Held.{IsHeld}
use Rattle.lvm_core.specs.Leaves.{NoPartition, WasLeftBehind, MayBeFound}
use Rattle.lvm_volumes.proofs.Leaving.{rose_on, rose_from, wider}
use Rattle.lvm_turnover.specs.Changing.{among, IsOfChange, LeavesWithin}
use Rattle.lvm_member_steps.specs.Steps.{LeavesIf}

-- ---- more may be done

either_more : (a b c : Bool) → (IsTrue a → IsTrue b) → IsTrue (a || c) → IsTrue (b || c)
either_more true b c more is = either_left b (more refl)
  where
    either_left : (t : Bool) → IsTrue t → IsTrue (t || c)
    either_left true is = refl
    either_left false is = absurd (false≢true is)
either_more false true c more is = refl
either_more false false c more is = is

-- what is left without a premise is left under one,
pub as_if : (Q : Type 0) (m : ℕ) (N : Descriptor → Type 0) (E : List ℕ) (p q : ℕ) (a b : State) → LeavesWithin m N [] E p q a b → LeavesIf Q m N E p q a b
as_if Q m N E p q a b is = record {
  writes = is.writes;
  status = is.status;
  numbers = is.numbers;
  history = is.history;
  spans = λ run first held given. is.spans run first held;
  finds = λ given. is.finds;
  calm = is.calm;
  behind = is.behind;
  falls = is.falls;
  spends = is.spends;
}

-- and without it, where what the session says gives it
pub as_within : (Q : Type 0) (m : ℕ) (N : Descriptor → Type 0) (E : List ℕ) (p q : ℕ) (a b : State) → (IsHeld a.device a.core → Q) → LeavesIf Q m N E p q a b → LeavesWithin m N [] E p q a b
as_within Q m N E p q a b give is = record {
  writes = is.writes;
  status = is.status;
  numbers = is.numbers;
  history = is.history;
  spans = λ run first held. is.spans run first held (λ past begins. give (held past begins));
  finds = λ held. is.finds (give held) held;
  calm = is.calm;
  behind = is.behind;
  falls = is.falls;
  spends = is.spends;
}

module _ (Q R : Type 0) (M N : Descriptor → Type 0) (D E : List ℕ) (less : R → Q) (more : (k : Descriptor) → M k → N k) (within : (d : ℕ) → IsTrue (is_in D d) → IsTrue (is_in E d)) (m n p q : ℕ) (few : m ≤ n) (a b : State) where
  change_more : (d s : ℕ) (value : Sector) → IsOfChange M [] D a b d s value → IsOfChange N [] E a b d s value
  change_more d s value (inl is) = inl is
  change_more d s value (inr (inl is)) = inr (inl (is.0, more is.0 is.1, is.2))
  change_more d s value (inr (inr is)) = inr (inr (within d is.0, is.1))

  behind_more : (pp : Pp) → WasLeftBehind M NoPartition a b pp → WasLeftBehind N NoPartition a b pp
  behind_more pp is = record {
    group = is.group;
    known = ⊎_elim (λ same. inl same) (λ its. inr (more is.group its)) is.known;
    its = is.its;
    absent = is.absent;
    apart = is.apart;
    usable = is.usable;
    was_there = is.was_there;
  }

  -- so it leaves this too
  pub if_more : LeavesIf Q m M D p q a b → LeavesIf R n N E p q a b
  if_more one = record {
    writes = wider (among [] (among D (is_there a.core))) (among [] (among E (is_there a.core))) (IsOfChange M [] D a b) (IsOfChange N [] E a b) a.device b.device (λ d is. either_more (is_in D d) (is_in E d) (is_there a.core d) (within d) is) change_more one.writes;
    status = record {
      group = ⊎_elim (λ same. inl same) (λ its. inr (its.0, more its.0 its.1, its.2)) one.status.group;
      stale = λ pp off is. one.status.stale pp (false_by (is_in D pp.disk) (is_in E pp.disk) (within pp.disk) off) is;
      further = λ pp is. ⊎_elim (λ was. inl was) (λ its. inr (behind_more pp its)) (one.status.further pp is);
      dirty = one.status.dirty;
      stays = λ d off is. one.status.stays d (false_by (is_in D d) (is_in E d) (within d) off) is;
      lost = one.status.lost;
      fewer = one.status.fewer;
    };
    numbers = record { epoch = one.numbers.epoch; rises = one.numbers.rises; most = let most = one.numbers.most in omega (arith, most, few) };
    history = one.history;
    spans = λ run first held given. one.spans run first held (λ past begins. less (given past begins));
    finds = λ given held id k is. ⊎_elim (λ was. inl was) (λ its. inr (its.0, more k its.1)) (one.finds (less given) held id k is);
    calm = one.calm;
    behind = one.behind;
    falls = one.falls;
    spends = one.spends;
  }

pub within_more : (M N : Descriptor → Type 0) (D E : List ℕ) → ((k : Descriptor) → M k → N k) → ((d : ℕ) → IsTrue (is_in D d) → IsTrue (is_in E d)) → (m n p q : ℕ) → m ≤ n → (a b : State) → LeavesWithin m M [] D p q a b → LeavesWithin n N [] E p q a b
within_more M N D E more within m n p q few a b one =
    as_within (Unit {0}) n N E p q a b (λ held. tt) (if_more (Unit {0}) (Unit {0}) M N D E (λ is. is) more within m n p q few a b (as_if (Unit {0}) m M D p q a b one))

-- ---- one after the other

-- The group's descriptors have its id, no copy stands on a disk that leaves, and the members that aren't missing by the one are so by the one before. The premise of the second holds
-- where the disks held what was committed before the first.
module _ (Q R : Type 0) (N : Descriptor → Type 0) (E : List ℕ) (a b c : State) (from : (b.core.descriptor ≡ a.core.descriptor) ⊎ N b.core.descriptor) (ids : (k : Descriptor) → N k → k.id ≡ a.core.status.group.id)
    (apart : (k : Descriptor) → (k ≡ a.core.descriptor) ⊎ N k → (row : LvRow) (lp : ℕ) (p : Pp) → IsOneOf k.lvs row → IsOneOf (copies_of row lp) p → IsFalse (is_in E p.disk))
    (before : (d : ℕ) → IsTrue (is_there b.core d) → IsTrue (is_there a.core d)) (still : Q → IsHeld a.device a.core → IsHeld b.device b.core) (m n p q r : ℕ) (give : Q → IsHeld a.device a.core → R) (one : LeavesIf Q m N E p q a b) (two : LeavesIf R n N E q r b c) where
  group_id : b.core.status.group.id ≡ a.core.status.group.id
  group_id = ⊎_elim (λ (same : b.core.status.group ≡ a.core.status.group). subst (λ (g : Descriptor). g.id ≡ a.core.status.group.id) (sym same) refl)
      (λ (its : (k : Descriptor) × N k × (b.core.status.group ≡ record k { lvs = [] })). subst (λ (g : Descriptor). g.id ≡ a.core.status.group.id) (sym its.2) (ids its.0 its.1)) one.status.group

  session_first : (write : RecordWrite) (d s : ℕ) (value : Sector) → IsOfSession a.core.status b.core.status write d s value → IsOfSession a.core.status c.core.status write d s value
  session_first write d s value is = record {
    frames = is.frames;
    slots = is.slots;
    targets = is.targets;
    epoch = is.epoch;
    later = is.later;
    latest = (let low = is.latest in let rises = two.numbers.rises in omega (arith, low, rises));
    its = is.its;
  }

  session_second : (write : RecordWrite) (d s : ℕ) (value : Sector) → IsOfSession b.core.status c.core.status write d s value → IsOfSession a.core.status c.core.status write d s value
  session_second write d s value is = record {
    frames = is.frames;
    slots = is.slots;
    targets = λ disk t. one.status.fewer disk (is.targets disk t);
    epoch = is.epoch ∙ one.numbers.epoch;
    later = (let high = is.later in let rises = one.numbers.rises in omega (arith, high, rises));
    latest = is.latest;
    its = is.its;
  }

  states_second : (write : RecordWrite) → StatesGroup b.core.status.group write → StatesGroup a.core.status.group write
  states_second write is = record { kind = is.kind; status = is.status; own = is.own ∙ group_id; content = is.content }

  change_first : (d s : ℕ) (value : Sector) → IsOfChange N [] E a b d s value → IsOfChange N [] E a c d s value
  change_first d s value (inl is) = inl (is.0, is.1, session_first is.0 d s value is.2)
  change_first d s value (inr (inl is)) = inr (inl (is.0, is.1, (is.2.0, is.2.1, session_first is.2.0 d s value is.2.2)))
  change_first d s value (inr (inr is)) = inr (inr is)

  change_second : (d s : ℕ) (value : Sector) → IsOfChange N [] E b c d s value → IsOfChange N [] E a c d s value
  change_second d s value (inl is) = inl (is.0, states_second is.0 is.1, session_second is.0 d s value is.2)
  change_second d s value (inr (inl is)) = inr (inl (is.0, is.1, (is.2.0, ⊎_elim (λ x. inl x) (λ y. inr (states_second is.2.0 y)) is.2.1, session_second is.2.0 d s value is.2.2)))
  change_second d s value (inr (inr is)) = inr (inr is)

  behind_first : (pp : Pp) → WasLeftBehind N NoPartition a b pp → WasLeftBehind N NoPartition a c pp
  behind_first pp is = record {
    group = is.group;
    known = is.known;
    its = is.its;
    absent = false_by (there c.core.status pp.disk) (there b.core.status pp.disk) (two.status.fewer pp.disk) is.absent;
    apart = is.apart;
    usable = is.usable;
    was_there = is.was_there;
  }

  behind_second : (pp : Pp) → WasLeftBehind N NoPartition b c pp → WasLeftBehind N NoPartition a c pp
  behind_second pp is = record {
    group = is.group;
    known = known_before;
    its = is.its;
    absent = is.absent;
    apart = is.apart;
    usable = λ out. false_by (calls_stale a.core.status.wanted is.its.other) (calls_stale b.core.status.wanted is.its.other)
        (one.status.stale is.its.other (apart is.group known_before is.its.row is.its.lp is.its.other is.its.volume is.its.among)) (is.usable out);
    was_there = one.status.fewer is.its.other.disk is.was_there;
  }
    where
      known_before : (is.group ≡ a.core.descriptor) ⊎ N is.group
      known_before = ⊎_elim
          (λ (same : is.group ≡ b.core.descriptor). ⊎_elim (λ (was : b.core.descriptor ≡ a.core.descriptor). inl (same ∙ was)) (λ (its : N b.core.descriptor). inr (subst N (sym same) its)) from)
          (λ (its : N is.group). inr its)
          is.known

  lost : (d : ℕ) (t : Bool) → calls_missing b.core.status.wanted d ≡ t → IsTrue (calls_missing c.core.status.wanted d) → IsFalse (calls_missing a.core.status.wanted d)
      → IsTrue (is_there a.core d) × Rose (a.device.counts.faults d) (c.device.counts.faults d)
  lost d true mid is isnt = let first = one.status.lost d mid isnt in (first.0, rose_on (a.device.counts.faults d) (b.device.counts.faults d) (c.device.counts.faults d) first.1 (two.falls.faults d))
  lost d false mid is isnt = let second = two.status.lost d is mid in (before d second.0, rose_from (a.device.counts.faults d) (b.device.counts.faults d) (c.device.counts.faults d) (one.falls.faults d) second.1)

  pub if_then : LeavesIf Q (m + n) N E p r a c
  if_then = record {
    writes = keeps_then (among [] (among E (is_there a.core))) (IsOfChange N [] E a c) a.device b.device c.device
        (wider (among [] (among E (is_there a.core))) (among [] (among E (is_there a.core))) (IsOfChange N [] E a b) (IsOfChange N [] E a c) a.device b.device (λ d is. is) change_first one.writes)
        (wider (among [] (among E (is_there b.core))) (among [] (among E (is_there a.core))) (IsOfChange N [] E b c) (IsOfChange N [] E a c) b.device c.device (λ d is. narrowed (is_in E d) (is_there b.core d) (is_there a.core d) (before d) is) change_second two.writes);
    status = record {
      group = ⊎_elim (λ (same : c.core.status.group ≡ b.core.status.group). ⊎_elim (λ was. inl (same ∙ was)) (λ its. inr (its.0, its.1, same ∙ its.2)) one.status.group) (λ its. inr its) two.status.group;
      stale = λ pp off is. two.status.stale pp off (one.status.stale pp off is);
      further = λ pp is. ⊎_elim
          (λ mid. ⊎_elim (λ first. inl first) (λ gone. inr (behind_first pp gone)) (one.status.further pp mid))
          (λ gone. inr (behind_second pp gone))
          (two.status.further pp is);
      dirty = λ lv. two.status.dirty lv ∙ one.status.dirty lv;
      stays = λ d off is. two.status.stays d off (one.status.stays d off is);
      lost = λ d is isnt. lost d (calls_missing b.core.status.wanted d) refl is isnt;
      fewer = λ d is. one.status.fewer d (two.status.fewer d is);
    };
    numbers = record {
      epoch = two.numbers.epoch ∙ one.numbers.epoch;
      rises = (let x = one.numbers.rises in let y = two.numbers.rises in omega (arith, x, y));
      most = (let x = one.numbers.most in let y = two.numbers.most in omega (arith, x, y));
    };
    history = record { room = two.history.room ∙ one.history.room; volumes = (let x = one.history.volumes in let y = two.history.volumes in omega (arith, x, y)); later = λ moment is. two.history.later moment (one.history.later moment is) };
    spans = λ run first held given span. two.spans run first (λ past begins. still (given past begins) (held past begins)) (λ past begins. give (given past begins) (held past begins)) (one.spans run first held given span);
    finds = λ given held id k is. ⊎_elim (λ (was : MayBeFound b.device id k). one.finds given held id k was) (λ (new : (id ≡ k.id) × N k). inr new) (two.finds (give given held) (still given held) id k is);
    calm = λ past calm. two.calm past (one.calm past calm);
    behind = λ moment lt is. two.behind moment (subst (λ (n : ℕ). n < moment) (sym one.numbers.epoch) lt) (one.behind moment lt is);
    falls = none_falls_on one.falls two.falls;
    spends = spends_then p q r a.device b.device c.device one.spends two.spends;
  }
    where
      narrowed : (e t u : Bool) → (IsTrue t → IsTrue u) → IsTrue (e || t) → IsTrue (e || u)
      narrowed true t u less is = refl
      narrowed false t u less is = less is
