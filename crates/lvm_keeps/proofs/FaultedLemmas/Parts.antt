-- The parts of a session that misses disks.
use Rattle.std.proofs.Common.{◌≡◌, ◌⊎◌, inl, inr, ℕ, Bool, true, false, ◌&&◌, ◌||◌, not, [], ◌∷◌, refl, sym, ap, ◌∙◌, subst, arith}
use Rattle.std.specs.Prelude.{◌==◌, if◌then◌else◌, replicate}
use Rattle.std.specs.List.{list_any}
use Rattle.std.proofs.lemmas.Bool.{eqb-true}
use Rattle.lvm_num.specs.Bits.{has_bit}
use Rattle.lvm_num.specs.declared.place.Pp.{Pp}
use Rattle.lvm_num.specs.declared.descriptor.Mode.{Mode}
use Rattle.lvm_num.specs.Status.{calls_missing, calls_stale}
use Rattle.lvm_num.proofs.BitsLemmas.{has-none}
use Rattle.lvm_num.proofs.Booleans.{not_so, not_either}
use Rattle.lvm_disk.specs.Counts.{Rose}
use Rattle.lvm_path.specs.declared.request.Phase.TheVariants as phase
use Rattle.lvm_session.specs.State.{state}
use Rattle.lvm_session.specs.Judging.{is_stale}
use Rattle.lvm_session.specs.Marks.{can_replace, is_among, is_entailed}
use Rattle.lvm_session.specs.Requests.{IsOpenOne}
use Rattle.lvm_session.specs.Causes.{FailedSince, IsTrueToOrigin}
use Rattle.lvm_session.specs.Sound.{IsFitting, IsSound, IsTold}
use Rattle.lvm_session.specs.Worked.{HeldWritesAreSound, a_write, asking, core_of, faultless, fresh, second_copy, held_write, status_of}
use Rattle.lvm_session.proofs.WorkedLemmas.Parts.{both_copies, none_missing_at_first as none_missing, zeros_at}
use Rattle.lvm_keeps.specs.Faulted.{faulted, wanting, without_disks}

-- ---- what the status says

-- no copy is stale by what is committed
pub none_stale : (p : Pp) → calls_stale (status_of fresh) p ≡ false
none_stale p = by (0 == p.disk) (1 == p.disk) (2 == p.disk) (has_bit (replicate 127 0) p.pp) (has-none 127 p.pp)
  where
    by : (x y z t : Bool) → t ≡ false → x && t || (y && t || (z && t || false)) ≡ false
    by x y z true e = not_either e
    by true true true false e = refl
    by true true false false e = refl
    by true false true false e = refl
    by true false false false e = refl
    by false true true false e = refl
    by false true false false e = refl
    by false false true false e = refl
    by false false false false e = refl

-- the second disk is missing, and the third where this is so
pub which_missing : (both : Bool) (disk : ℕ) → calls_missing (without_disks both) disk ≡ true → (disk ≡ 1) ⊎ ((disk ≡ 2) × (both ≡ true))
which_missing both disk is = by (1 == disk) (2 == disk) refl refl (0 == disk) is
  where
    last : (c t : Bool) → (2 == disk) ≡ c → c && t || false ≡ true → (disk ≡ 2) × (t ≡ true)
    last true true e is = (sym (eqb-true 2 disk e), refl)
    last true false e is = not_so is
    last false t e is = not_so is

    by : (b c : Bool) → (1 == disk) ≡ b → (2 == disk) ≡ c → (a : Bool) → (a && false) || ((b && true) || ((c && both) || false)) ≡ true → (disk ≡ 1) ⊎ ((disk ≡ 2) × (both ≡ true))
    by true c e f a is = inl (sym (eqb-true 1 disk e))
    by false c e f true is = inr (last c both f is)
    by false c e f false is = inr (last c both f is)

pub is_missing_so : (both : Bool) (disk : ℕ) → (disk ≡ 1) ⊎ ((disk ≡ 2) × (both ≡ true)) → calls_missing (without_disks both) disk ≡ true
is_missing_so both disk (inl one) = subst (λ d. calls_missing (without_disks both) d ≡ true) (sym one) refl
is_missing_so both disk (inr two) = subst (λ d. calls_missing (without_disks both) d ≡ true) (sym two.0) (ap (λ (t : Bool). t || false) two.1)

-- a copy that is stale by it stands on the second disk
pub stale_there : (both : Bool) (p : Pp) → calls_stale (without_disks both) p ≡ true → p.disk ≡ 1
stale_there both p is = by (1 == p.disk) refl (0 == p.disk) (2 == p.disk) (has_bit (replicate 127 0) p.pp) (has-none 127 p.pp) is
  where
    by : (y : Bool) → (1 == p.disk) ≡ y → (x z t : Bool) → t ≡ false → x && t || (y && has_bit (1 ∷ replicate 126 0) p.pp || (z && t || false)) ≡ true → p.disk ≡ 1
    by true e x z t none is = sym (eqb-true 1 p.disk e)
    by false e x z true none is = not_either none
    by false e true true false none is = not_so is
    by false e true false false none is = not_so is
    by false e false true false none is = not_so is
    by false e false false false none is = not_so is

-- ---- what follows from it

second_is_stale : (both : Bool) → calls_stale (without_disks both) second_copy ≡ true
unfolding has_bit
second_is_stale both = refl

-- what is entailed is a copy, and on a missing disk
pub entailed : (a b c d : Bool) → a && b && c && d || false || false ≡ true → (a ≡ true) × (c ≡ true)
entailed true true true true is = (refl, refl)
entailed true true true false is = not_so is
entailed true true false d is = not_so is
entailed true false c d is = not_so is
entailed false b c d is = not_so is

-- a copy on a missing disk is called stale
pub stale_with_disk : (both : Bool) (p : Pp) → is_among both_copies p ≡ true → calls_missing (without_disks both) p.disk ≡ true → calls_stale (without_disks both) p ≡ true
stale_with_disk both p one missing = among (p.disk == 0) (p.pp == 0) (p.disk == 1) refl refl refl one (which_missing both p.disk missing)
  where
    there : p.disk ≡ 1 → p.pp ≡ 0 → calls_stale (without_disks both) p ≡ true
    there e f = ap (λ d. calls_stale (without_disks both) (record { disk = d; pp = p.pp })) e ∙ ap (λ n. calls_stale (without_disks both) (record { disk = 1; pp = n })) f ∙ second_is_stale both

    among : (x z y : Bool) → (p.disk == 0) ≡ x → (p.pp == 0) ≡ z → (p.disk == 1) ≡ y → x && z || (y && z || false) ≡ true → (p.disk ≡ 1) ⊎ ((p.disk ≡ 2) × (both ≡ true)) → calls_stale (without_disks both) p ≡ true
    among true z y e f g is (inl one) = let zero_is = eqb-true p.disk 0 e in absurd (omega (arith, zero_is, one))
    among true z y e f g is (inr two) = let zero_is = eqb-true p.disk 0 e in let at = two.0 in absurd (omega (arith, zero_is, at))
    among false true true e f g is disk = there (eqb-true p.disk 1 g) (eqb-true p.pp 0 f)
    among false true false e f g is disk = not_so is
    among false false true e f g is disk = not_so is
    among false false false e f g is disk = not_so is

-- what the missing disks entail is wanted
pub behind : (m : Mode) (both : Bool) (p : Pp) → is_entailed (wanting m both) p ≡ true → calls_stale (without_disks both) p ≡ true
behind m both p is =
    let parts = entailed (is_among both_copies p) (not (is_stale (wanting m both) p)) (calls_missing (without_disks both) p.disk) (list_any (can_replace (wanting m both)) both_copies) is in
    stale_with_disk both p parts.0 parts.1

-- ---- what has failed

pub rose_once : Rose 0 1
rose_once = record { later = omega arith; risen = omega arith }

-- a disk that is missing has failed since
pub failed : (both : Bool) (disk : ℕ) → (disk ≡ 1) ⊎ ((disk ≡ 2) × (both ≡ true)) → Rose 0 ((faulted both).counts.faults disk)
failed both disk (inl one) = subst (λ d. Rose 0 ((faulted both).counts.faults d)) (sym one) rose_once
failed both disk (inr two) = subst (λ d. Rose 0 ((faulted both).counts.faults d)) (sym two.0) (subst (λ (t : Bool). Rose 0 (if t then 1 else 0)) (sym two.1) rose_once)

-- ---- what it has of the session with the held write alone

module _ (held : HeldWritesAreSound) (m : Mode) (both : Bool) where
  before : IsSound (state faultless (core_of (held_write m)))
  before = held m

  pub fitting : IsFitting (wanting m both)
  fitting = let f = before.fitting in record {
    valid = f.valid;
    id = refl;
    rows = λ disk. refl;
    group = refl;
    entries = f.entries;
    notes = f.notes;
    table = f.table;
    most = f.most;
    queue = refl;
    a_buffer = f.a_buffer;
    buffers = f.buffers;
    last = f.last;
    room = f.room;
  }

  pub told : IsTold (wanting m both)
  told = let t = before.told in record { ordered = t.ordered; table = t.table; each = t.each; requests = t.requests }

  pub request : IsOpenOne (wanting m both) (asking 1 a_write phase.Held [])
  request = let r = (before.on refl).going.requests.0 in record {
    laid = record { within = r.laid.within; blocks = r.laid.blocks; most = r.laid.most; id = r.laid.id };
    waits = λ e. let w = r.waits e in record {
      shape = record { targets = tt; phase_is = w.shape.phase_is; hand = w.shape.hand; room = tt; differ = w.shape.differ; usable = w.shape.usable; one = w.shape.one };
      ready = record { free = w.ready.free; recorded = w.ready.recorded; wanted = λ past two. not_so past; named = λ has two. not_so has; dirty = λ has two. not_so has };
      judged = λ write. record { uncaught = tt; due = λ waits. not_so waits; missed = λ waits. not_so waits; all = λ begun. not_so begun; place = λ begun. not_so begun };
    };
    over = λ e. not_either e;
    still = λ e. not_either e;
  }

  pub origin : IsTrueToOrigin (state (faulted both) (wanting m both))
  origin = let o = before.origin in record {
    since = λ disk. let none = zeros_at 128 disk in omega (arith, none);
    votes = o.votes;
    rows = o.rows;
    still_missing = λ disk is. none_missing disk is;
    missing = λ disk is. inr (since disk (failed both disk (which_missing both disk is)));
    stale = λ p is. inr (inl (is_missing_so both p.disk (inl (stale_there both p (wanted (calls_stale (status_of fresh) p) _ (none_stale p) is)))));
  }
    where
      since : (disk : ℕ) → Rose 0 ((faulted both).counts.faults disk) → FailedSince (state (faulted both) (wanting m both)) disk
      since disk rose = subst (λ n. Rose n ((faulted both).counts.faults disk)) (sym (zeros_at 128 disk)) rose

      wanted : (a b : Bool) → a ≡ false → (a || a) || b ≡ true → b ≡ true
      wanted true b none is = not_either none
      wanted false b none is = is
