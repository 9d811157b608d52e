-- A session that comes so far, and then further; and where it breaks off.
use Rattle.std.proofs.Common.{◌≡◌, inl, inr, ⊎_elim, ℕ, Bool, true, false, ◌||◌, not, List, [], ◌∷◌, ◌++◌, Option, None, refl, sym, ◌∙◌, ap, subst}
use Rattle.std.specs.Prelude.{◌==◌, IsTrue, if◌then◌else◌}
use Rattle.std.proofs.lemmas.Bool.{false≢true, eqb-true}
use Rattle.lvm_num.specs.declared.descriptor.PvRow.{PvRow}
use Rattle.lvm_num.specs.declared.descriptor.Descriptor.{Descriptor}
use Rattle.lvm_num.specs.Disks.{Disks}
use Rattle.lvm_num.specs.Descriptor.{volume_of}
use Rattle.lvm_num.proofs.Booleans.{or_false}
use Rattle.lvm_disk.specs.Device.{IsReady}
use Rattle.lvm_disk.proofs.CountingLemmas.{none_falls_on, none_falls_at_once}
use Rattle.lvm_vol.specs.declared.entry.Vol.TheVariants.{Disk}
use Rattle.lvm_vol.specs.Facts.{Removed}
use Rattle.lvm_vol.specs.Log.{Log, with_fact}
use Rattle.lvm_write.proofs.PartsLemmas.Transfers.{spends_then, spends_none}
use Rattle.lvm_session.specs.State.{Core, State}
use Rattle.lvm_core.specs.declared.fault.CommitFault.{CommitFault}
use Rattle.lvm_core.specs.declared.fault.CommitFault.TheVariants as fault
use Rattle.lvm_core.specs.Committing.{is_in}
use Rattle.lvm_core.specs.Settled.{IsSettled}
use Rattle.lvm_change_laws.specs.Rule.{staying}
use Rattle.lvm_volume_plan.specs.PlannedVolume.{AreOfOneGroup}
use Rattle.lvm_volumes.specs.Endings.{HasFresh}
use Rattle.lvm_volumes.specs.Stages.{with_entry}
use Rattle.lvm_volumes.proofs.EndingsLemmas.Fresh.{no_copy}
use Rattle.lvm_turnover.specs.declared.change.Leaving.{Leaving}
use Rattle.lvm_turnover.specs.Changing.{LeavesWithin}
use Rattle.lvm_member_plan.specs.Descriptors.{IsReducedBy, IsOnTheWay}
use Rattle.lvm_member_plan.specs.Steps.{IsStep}
use Rattle.lvm_member_steps.specs.Steps.{with_removed, HasComeSoFar, BreaksFrom, BreaksOffSoFar, HasStepped}

-- ---- members that are named

pub in_more : (xs ys : List ℕ) (d : ℕ) → is_in (xs ++ ys) d ≡ (is_in xs d || is_in ys d)
in_more [] ys d = refl
in_more (x ∷ xs) ys d = ap (λ (b : Bool). (d == x) || b) (in_more xs ys d) ∙ sym (or_assoc (d == x) (is_in xs d) (is_in ys d))
  where
    or_assoc : (a b c : Bool) → ((a || b) || c) ≡ (a || (b || c))
    or_assoc true b c = refl
    or_assoc false b c = refl

pub removed_more : (xs ys : List ℕ) (log : Log) → with_removed (xs ++ ys) log ≡ with_removed ys (with_removed xs log)
removed_more [] ys log = refl
removed_more (x ∷ xs) ys log = removed_more xs ys (with_fact log (Removed (Disk x)))

-- of rows that stay the others stay that stay of these
pub staying_twice : (f g : Disks) (rows : List PvRow) → staying g (staying f rows) ≡ staying (λ d. f d || g d) rows
staying_twice f g [] = refl
staying_twice f g (row ∷ rows) = by (f row.disk) refl (staying_twice f g rows)
  where
    by : (b : Bool) → f row.disk ≡ b → staying g (staying f rows) ≡ staying (λ d. f d || g d) rows
        → staying g (if not b then row ∷ staying f rows else staying f rows) ≡ (if not (b || g row.disk) then row ∷ staying (λ d. f d || g d) rows else staying (λ d. f d || g d) rows)
    by true is rest = rest
    by false is rest = ap (λ (l : List PvRow). if not (g row.disk) then row ∷ l else l) rest

-- ---- descriptors on the way

module _ (small big : List ℕ) (within : (x : ℕ) → IsTrue (is_in small x) → IsTrue (is_in big x)) (d b : Descriptor) (way : IsOnTheWay big d b) where
  pub reduced_on : (k : Descriptor) → IsReducedBy small b k → IsReducedBy big d k
  reduced_on k its = by way
    where
      either : (s t u : Bool) → (IsTrue s → IsTrue u) → (IsTrue t → IsTrue u) → IsTrue (s || t) → IsTrue u
      either true t u one two is = one refl
      either false t u one two is = two is

      by : IsOnTheWay big d b → IsReducedBy big d k
      by (inl same) = subst (λ (g : Descriptor). IsReducedBy big g k) same (record { gone = its.gone; among = λ x is. within x (its.among x is); is = its.is; valid = its.valid })
      by (inr one) = record {
        gone = λ x. one.gone x || its.gone x;
        among = λ x is. either (one.gone x) (its.gone x) (is_in big x) (one.among x) (λ goes. within x (its.among x goes)) is;
        is = its.is ∙ ap (λ (g : Descriptor). record g { pvs = staying its.gone g.pvs; even = k.even }) one.is ∙ ap (λ (rows : List PvRow). record d { pvs = rows; even = k.even }) (staying_twice one.gone its.gone d.pvs);
        valid = its.valid;
      }

  pub way_on : (k : Descriptor) → IsOnTheWay small b k → IsOnTheWay big d k
  way_on k (inl same) = subst (IsOnTheWay big d) (sym same) way
  way_on k (inr its) = inr (reduced_on k its)

-- a step comes to one
pub step_reduces : (leaving disks : List ℕ) (d k : Descriptor) → IsStep leaving d k → ((x : ℕ) → IsTrue (is_in leaving x) → IsTrue (is_in disks x)) → IsReducedBy disks d k
step_reduces leaving disks d k step within = record { gone = is_in leaving; among = within; is = step.is; valid = step.valid_next }

-- ---- further

module _ (now raw : Disks) (small big : List ℕ) (within : (x : ℕ) → IsTrue (is_in small x) → IsTrue (is_in big x)) (was : (x : ℕ) → IsTrue (is_in small x) → IsTrue (now x) → IsTrue (raw x)) (p q : ℕ) (a b : State) (one : HasComeSoFar raw big p q a b) where
  pub come_then : (r : ℕ) (c : State) → HasComeSoFar now small q r b c → HasComeSoFar raw big p r a c
  come_then r c two = record {
    is = two.is ∙ ap (λ (k : Core). record k { descriptor = c.core.descriptor; status = c.core.status; homes = c.core.homes; cache = c.core.cache; origin = c.core.origin; history = c.core.history }) one.is;
    descriptor = way_on small big within a.core.descriptor b.core.descriptor one.descriptor c.core.descriptor two.descriptor;
    entered = one.entered ++ two.entered;
    among = λ x is. either x (is_in one.entered x) refl (sym (in_more one.entered two.entered x) ∙ is);
    history = two.history ∙ ap (with_removed two.entered) one.history ∙ sym (removed_more one.entered two.entered a.core.history);
    before = λ d is. one.before d (two.before d is);
    ready = two.ready;
    cuts = two.cuts ∙ one.cuts;
    falls = none_falls_on one.falls two.falls;
    spends = spends_then p q r a.device b.device c.device one.spends two.spends;
  }
    where
      either : (x : ℕ) (t : Bool) → is_in one.entered x ≡ t → IsTrue (t || is_in two.entered x) → IsTrue (is_in big x) × IsTrue (raw x)
      either x true at is = one.among x at
      either x false at is = let its = two.among x is in (within x its.0, was x its.0 its.1)

  pub breaks_then : (new : State) (why : CommitFault) → BreaksOffSoFar now small q b new why → BreaksOffSoFar raw big p a new why
  breaks_then new why its = record { mid = its.mid; left = its.left; come = come_then its.left its.mid its.come; breaks = by why its.breaks }
    where
      by : (why : CommitFault) → BreaksFrom small its.left b its.mid new why → BreaksFrom big its.left a its.mid new why
      by (fault.WentOff have total) (inl between) = inl (record {
        by = between.by;
        has = between.has;
        by_is = way_on small big within a.core.descriptor b.core.descriptor one.descriptor between.by between.by_is;
        has_is = way_on small big within a.core.descriptor b.core.descriptor one.descriptor between.has between.has_is;
        off = between.off;
      })
      by (fault.WentOff have total) (inr (next, way, off)) = inr (next, reduced_on small big within a.core.descriptor b.core.descriptor one.descriptor next way, off)
      by fault.Dark breaks = breaks
      by fault.Stuck breaks = breaks
      by (fault.DiskFailed disk) breaks = absurd breaks

-- ---- behind a step

-- behind one it has come to its descriptor, and entered nothing
pub stepped_comes : (raw : Disks) (disks : List ℕ) (leaving : Option Leaving) (next : Descriptor) (m : ℕ) (N : Descriptor → Type 0) (E : List ℕ) (p q : ℕ) (a b : State) → IsOnTheWay disks a.core.descriptor next
    → LeavesWithin m N [] E p q a b → HasStepped leaving next a b → HasComeSoFar raw disks p q a b
stepped_comes raw disks leaving next m N E p q a b way leaves done = record {
  is = done.is ∙ ap (λ (k : Core). record a.core { descriptor = k.descriptor; status = k.status; homes = k.homes; cache = k.cache; origin = k.origin; history = k.history }) (sym done.is);
  descriptor = subst (IsOnTheWay disks a.core.descriptor) (sym (ap (λ (k : Core). k.descriptor) done.is)) way;
  entered = [];
  among = λ x is. absurd (false≢true is);
  history = ap (λ (k : Core). k.history) done.is;
  before = done.before;
  ready = done.ready;
  cuts = done.cuts;
  falls = leaves.falls;
  spends = leaves.spends;
}

-- ---- at once

-- it has come to where it is
pub come_here : (raw : Disks) (disks : List ℕ) (p : ℕ) (s : State) → IsReady s.device → HasComeSoFar raw disks p p s s
come_here raw disks p s ready = record {
  is = refl;
  descriptor = inl refl;
  entered = [];
  among = λ x is. absurd (false≢true is);
  history = refl;
  before = λ d is. is;
  ready = ready;
  cuts = refl;
  falls = none_falls_at_once s.device.counts;
  spends = spends_none p s.device;
}

-- and behind the entry of a disk, which was there, to one with that
pub come_entered : (raw : Disks) (disk p : ℕ) (s : State) → IsReady s.device → IsTrue (raw disk) → HasComeSoFar raw (disk ∷ []) p p s (with_entry s (Removed (Disk disk)))
come_entered raw disk p s ready was = record {
  is = refl;
  descriptor = inl refl;
  entered = disk ∷ [];
  among = λ x is. (is, subst (λ (n : ℕ). IsTrue (raw n)) (sym (eqb-true x disk (sym (or_false (x == disk)) ∙ is))) was);
  history = refl;
  before = λ d is. is;
  ready = ready;
  cuts = refl;
  falls = none_falls_at_once s.device.counts;
  spends = spends_none p s.device;
}

-- where nothing is done the session stands as before a step to its own descriptor
pub stands_same : (s : State) → IsSettled s.core → AreOfOneGroup s.core → IsReady s.device → HasStepped None s.core.descriptor s s
stands_same s settled group ready = record {
  settled = settled;
  group = group;
  is = refl;
  before = λ d is. is;
  ready = ready;
  cuts = refl;
  still = record { held = λ held. held; notes = λ home. home; only = λ held only. only; left = λ none. none };
  fresh = λ lv lp pp one how. ⊎_elim (λ (none : volume_of s.core.descriptor lv ≡ None). absurd (no_copy s.core.descriptor lv lp pp none one)) (λ (fresh : HasFresh s.core lv lp). fresh) how;
}
