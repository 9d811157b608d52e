-- The parts of a worked session of which no disk is missing.
use Rattle.std.proofs.Common.{◌≡◌, inl, ℕ, zero, suc, ◌<◌, ◌≤◌, ◌*◌, Bool, true, false, ◌&&◌, ◌||◌, not, List, [], ◌∷◌, replicate, take, Some, None, refl, sym, ap, subst, ◌∙◌, arith}
use Rattle.std.specs.Prelude.{◌≢◌, ◌==◌, AllPairs, is_some, slice_index_or, option_and_then, if◌then◌else◌}
use Rattle.std.specs.List.{list_any}
use Rattle.std.specs.Option.{option_map_or}
use Rattle.std.proofs.lemmas.Option.{same_Some}
use Rattle.std.proofs.lemmas.List.{drop_all}
use Rattle.std.proofs.lemmas.List.Elements.{All-nil, All-cons}
use Rattle.std.proofs.lemmas.List.Kept.{AllPairs-cons}
use Rattle.lvm_num.specs.declared.place.Pp.{Pp}
use Rattle.lvm_num.specs.declared.descriptor.Mode.{Mode}
use Rattle.lvm_num.specs.declared.descriptor.PvRow.{PvRow}
use Rattle.lvm_num.specs.declared.status.Status.{Status}
use Rattle.lvm_num.specs.Bits.{has_bit}
use Rattle.lvm_num.specs.Disks.{has}
use Rattle.lvm_num.specs.Votes.{votes_by}
use Rattle.lvm_num.specs.Name.{is_name}
use Rattle.lvm_num.specs.Descriptor.{IsMember, IsVolume, IsPartitionOf, IsLaidOut, IsValid, copies_of, is_member}
use Rattle.lvm_num.specs.Geometry.{sectors_needed}
use Rattle.lvm_num.specs.Status.{calls_missing}
use Rattle.lvm_num.proofs.DisksLemmas.{has-zero}
use Rattle.lvm_kept.specs.Examples.{member, mirror}
use Rattle.lvm_mwc.specs.declared.notes.DiskNotes.{DiskNotes}
use Rattle.lvm_mwc.specs.Cache.{has_disk, flight_on, no_notes}
use Rattle.lvm_status.specs.Update.{Updates, is_held, is_owed, is_there, seen}
use Rattle.lvm_status.specs.Runs.{IsSoundStatus}
use Rattle.lvm_num.specs.declared.descriptor.LvRow.{LvRow}
use Rattle.lvm_num.proofs.Booleans.{not_so, not_either}
use Rattle.lvm_session.specs.State.{Core}
use Rattle.lvm_session.specs.Judging.{copies_in, is_stale, is_missing}
use Rattle.lvm_session.specs.Marks.{is_among, can_replace, is_entailed}
use Rattle.lvm_session.specs.Placed.{IsPlaced, ArePlaced}
use Rattle.lvm_session.specs.Causes.{faults_at_first}
use Rattle.lvm_session.specs.Sound.{count_if, may_be_fresh, stays_fresh}
use Rattle.lvm_session.specs.Worked.{Says, Moment, mirrored, first_copy, second_copy, status_of, fresh, calm, core_of, faultless}
use Rattle.lvm_session.proofs.Small.{not_none}

-- ---- the group

abbrev pub both_copies : List Pp
both_copies = record { disk = 0; pp = 0 } ∷ record { disk = 1; pp = 0 } ∷ []

laid_out : (m : Mode) (lp : ℕ) → lp < 1 → AllPairs (λ (a b : Pp). a.disk ≢ b.disk) (copies_of (mirror m) lp)
laid_out m zero low = AllPairs-cons (λ (a b : Pp). a.disk ≢ b.disk) (record { disk = 0; pp = 0 }) (record { disk = 1; pp = 0 } ∷ [])
    (All-cons (λ (b : Pp). 0 ≢ b.disk) (record { disk = 1; pp = 0 }) [] (λ e. omega (arith, e)) (All-nil (λ (b : Pp). 0 ≢ b.disk))) (λ i j d lt within. absurd (omega (arith, lt, within)))
laid_out m (suc lp) low = absurd (omega (arith, low))

pub valid : (m : Mode) → IsValid (mirrored m)
unfolding is_name
valid m = record {
  head = record { some_id = λ e. omega (arith, e); id = omega arith; name = refl; size = refl; even = λ e. not_so e; a_member = omega arith; members = omega arith; volumes = omega arith };
  members = record {
    each = All-cons IsMember (member 0) (member 1 ∷ member 2 ∷ []) (record { disk = omega arith; a_partition = omega arith; partitions = omega arith })
        (All-cons IsMember (member 1) (member 2 ∷ []) (record { disk = omega arith; a_partition = omega arith; partitions = omega arith })
        (All-cons IsMember (member 2) [] (record { disk = omega arith; a_partition = omega arith; partitions = omega arith }) (All-nil IsMember)));
    disks_differ = AllPairs-cons (λ (a b : PvRow). a.disk ≢ b.disk) (member 0) (member 1 ∷ member 2 ∷ [])
        (All-cons (λ (b : PvRow). 0 ≢ b.disk) (member 1) (member 2 ∷ []) (λ e. omega (arith, e)) (All-cons (λ (b : PvRow). 0 ≢ b.disk) (member 2) [] (λ e. omega (arith, e)) (All-nil (λ (b : PvRow). 0 ≢ b.disk))))
        (AllPairs-cons (λ (a b : PvRow). a.disk ≢ b.disk) (member 1) (member 2 ∷ []) (All-cons (λ (b : PvRow). 1 ≢ b.disk) (member 2) [] (λ e. omega (arith, e)) (All-nil (λ (b : PvRow). 1 ≢ b.disk)))
        (λ i j d lt within. absurd (omega (arith, lt, within))));
  };
  volumes = record {
    each = All-cons (IsVolume false) (mirror m) [] (record { a_number = omega arith; number = omega arith; a_copy = omega arith; copies = omega arith; a_partition = omega arith; partitions = omega arith; name = refl }) (All-nil (IsVolume false));
    numbers_rise = λ i j d lt within. absurd (omega (arith, lt, within));
    names_differ = λ i j d lt within. absurd (omega (arith, lt, within));
  };
  maps = record {
    places = All-cons (IsPartitionOf (mirrored m)) (record { disk = 0; pp = 0 }) (record { disk = 1; pp = 0 } ∷ []) (member 0, refl, omega arith)
        (All-cons (IsPartitionOf (mirrored m)) (record { disk = 1; pp = 0 }) [] (member 1, refl, omega arith) (All-nil (IsPartitionOf (mirrored m))));
    laid_out = All-cons IsLaidOut (mirror m) [] (record { whole = refl; strict = laid_out m }) (All-nil IsLaidOut);
    used_once = AllPairs-cons (λ (a b : Pp). a ≢ b) (record { disk = 0; pp = 0 }) (record { disk = 1; pp = 0 } ∷ [])
        (All-cons (λ (b : Pp). record { disk = 0; pp = 0 } ≢ b) (record { disk = 1; pp = 0 }) [] (λ e. omega (arith, ap (λ (p : Pp). p.disk) e)) (All-nil (λ (b : Pp). record { disk = 0; pp = 0 } ≢ b)))
        (λ i j d lt within. absurd (omega (arith, lt, within)));
  };
}

-- a disk of 8 MiB has room for 6 partitions of 1 MiB
sizes : (size : ℕ) → Some 16384 ≡ Some size → sectors_needed 1 6 ≤ size
sizes size e = let same : 16384 ≡ size = same_Some 16384 size e in omega (arith, same)

-- each member has the sectors that it needs
of_three : (k : ℕ) (row : PvRow) → k < 3 → slice_index_or (member 0 ∷ member 1 ∷ member 2 ∷ []) k row ≡ row → IsPlaced faultless.sizes 1 row
of_three zero row low is = subst (IsPlaced faultless.sizes 1) is (record { there = omega arith; within = λ size e. sizes size e })
of_three (suc zero) row low is = subst (IsPlaced faultless.sizes 1) is (record { there = omega arith; within = λ size e. sizes size e })
of_three (suc (suc zero)) row low is = subst (IsPlaced faultless.sizes 1) is (record { there = omega arith; within = λ size e. sizes size e })
of_three (suc (suc (suc k))) row low is = absurd (omega (arith, low))

pub placed : (m : Mode) (s : Status) → ArePlaced faultless.sizes (mirrored m) s
placed m s row one there = of_three one.0 row one.1 one.2

-- ---- its notes

pub notes_fit : (m : Mode) (disk : ℕ) → has_disk (core_of (calm m)).cache disk ≡ is_member (mirrored m) disk
notes_fit m disk = by (0 == disk) (1 == disk) (2 == disk)
  where
    by : (a b c : Bool) → is_some (if a then Some (no_notes 0) else if b then Some (no_notes 1) else if c then Some (no_notes 2) else None) ≡ a || (b || (c || false))
    by true b c = refl
    by false true c = refl
    by false false true = refl
    by false false false = refl

pub no_note_flies : (m : Mode) (disk : ℕ) → flight_on (core_of (calm m)).cache disk ≡ None
no_note_flies m disk = by (0 == disk) (1 == disk) (2 == disk)
  where
    by : (a b c : Bool) → option_and_then (λ (n : DiskNotes). n.flight) (if a then Some (no_notes 0) else if b then Some (no_notes 1) else if c then Some (no_notes 2) else None) ≡ None
    by true b c = refl
    by false true c = refl
    by false false true = refl
    by false false false = refl

-- ---- its status

pub not_marked : (disk : ℕ) {X : Type 0} → has 0 disk ≡ true → X
not_marked disk is = not_so (sym (has-zero disk) ∙ is)

pub none_written : (disk : ℕ) → (has 0 disk ≡ false) × (has 0 disk ≡ false) × (has 0 disk ≡ false) × (has 0 disk ≡ false)
none_written disk = (has-zero disk, has-zero disk, has-zero disk, has-zero disk)

-- a status while nothing is in flight
pub idle_is_sound : (u : Updates) → u.in_flight ≡ None → ((disk : ℕ) → (u.unstarted disk ≡ false) × (u.started disk ≡ false) × (u.written disk ≡ false) × (u.failed disk ≡ false)) → is_held u ≡ false
    → ((disk : ℕ) → calls_missing u.committed disk ≡ true → calls_missing u.wanted disk ≡ true) → IsSoundStatus u
idle_is_sound u none unwritten held missing = record {
  unstarted = λ disk is. not_so (sym (unwritten disk).0 ∙ is);
  started = λ disk is. not_so (sym (unwritten disk).1 ∙ is);
  failed = λ disk is. not_so (sym (unwritten disk).3 ∙ is);
  each = λ t e. not_none (sym none ∙ e);
  idle = λ e. unwritten;
  held = λ is. not_so (sym held ∙ is);
  open_still = λ t e. not_none (sym none ∙ e);
  committed_missing = missing;
  in_flight_missing = λ t e. not_none (sym none ∙ e);
}

-- a status whose update is in flight, of which no write is under way or has failed
pub update_is_sound : (u : Updates) (t : Status) → u.in_flight ≡ Some t
    → ((disk : ℕ) → u.unstarted disk ≡ true → (is_there u disk ≡ true) × (u.started disk ≡ false) × (u.written disk ≡ false) × (u.failed disk ≡ false))
    → ((disk : ℕ) → u.started disk ≡ false) → ((disk : ℕ) → u.failed disk ≡ false) → ((disk : ℕ) → is_there u disk ≡ true → u.unstarted disk || (u.started disk || u.written disk) ≡ true)
    → is_held u ≡ false → is_owed u ≡ true → ((disk : ℕ) → calls_missing u.committed disk ≡ true → calls_missing u.wanted disk ≡ true)
    → ((disk : ℕ) → calls_missing t disk ≡ true → calls_missing u.wanted disk ≡ true) → IsSoundStatus u
update_is_sound u t flies unstarted none_started none_failed each held owed committed flying = record {
  unstarted = unstarted;
  started = λ disk is. not_so (sym (none_started disk) ∙ is);
  failed = λ disk is. not_so (sym (none_failed disk) ∙ is);
  each = λ x e. each;
  idle = λ e. some_is_there (sym flies ∙ e);
  held = λ is. not_so (sym held ∙ is);
  open_still = λ x e. inl owed;
  committed_missing = committed;
  in_flight_missing = λ x e disk is. flying disk (ap (λ (y : Status). calls_missing y disk) (same t x (sym flies ∙ e)) ∙ is);
}
  where
    some_is_there : {A X : Type 0} {a : A} → Some a ≡ None → X
    some_is_there e = absurd cc

    same : (x y : Status) → Some x ≡ Some y → x ≡ y
    same x y e = cc e

-- a status while nothing is in flight, and what is wanted is committed
pub status_is_sound : (m : Mode) (says : Says) → IsSoundStatus (seen (core_of (record (calm m) { committed = says; wanted = says })).status)
unfolding votes_by has_bit has
status_is_sound m says = idle_is_sound (seen (core_of (record (calm m) { committed = says; wanted = says })).status) refl none_written refl (λ disk is. is)

pub none_missing : (stale : Bool) (disk : ℕ) → calls_missing (status_of (record fresh { stale = stale })) disk ≡ false
none_missing stale disk = by (0 == disk) (1 == disk) (2 == disk)
  where
    by : (a b c : Bool) → (a && false) || ((b && false) || ((c && false) || false)) ≡ false
    by true true true = refl
    by true true false = refl
    by true false true = refl
    by true false false = refl
    by false true true = refl
    by false true false = refl
    by false false true = refl
    by false false false = refl

-- a session that begins with the second copy stale, or with both fresh
abbrev begun_with : Mode → Bool → Moment
begun_with m stale = record (calm m) { committed = record fresh { stale = stale }; wanted = record fresh { stale = stale } }

-- nothing is left to be wanted
pub none_behind : (m : Mode) (stale : Bool) (p : Pp) {X : Type 0} → is_entailed (core_of (begun_with m stale)) p ≡ true → X
none_behind m stale p is = not_so (by (is_among both_copies p) (not (is_stale (core_of (begun_with m stale)) p)) (is_missing (core_of (begun_with m stale)) p.disk) (list_any (can_replace (core_of (begun_with m stale))) both_copies) (none_missing stale p.disk) is)
  where
    by : (a b c d : Bool) → c ≡ false → a && b && c && d || false || false ≡ true → false ≡ true
    by true true true d e is = not_either e
    by true true false d e is = is
    by true false c d e is = is
    by false b c d e is = is

-- each logical partition has a fresh copy where the first copy stays fresh
pub has_fresh : (m : Mode) (core : Core) → stays_fresh core first_copy ≡ true → (lv lp : ℕ) → list_any (may_be_fresh core) (copies_in (mirrored m) lv lp) ≡ true → list_any (stays_fresh core) (copies_in (mirrored m) lv lp) ≡ true
has_fresh m core stays lv lp = by_volume (1 == lv) lp
  where
    copies : Bool → ℕ → List Pp
    copies is n = option_map_or (λ (row : LvRow). copies_of row n) (if is then Some (mirror m) else None) []

    by_volume : (is : Bool) (n : ℕ) → list_any (may_be_fresh core) (copies is n) ≡ true → list_any (stays_fresh core) (copies is n) ≡ true
    by_volume false n some = not_so some
    by_volume true zero some = ap (λ t. t || (stays_fresh core second_copy || false)) stays
    by_volume true (suc n) some = not_so (sym (ap (λ (ps : List Pp). list_any (may_be_fresh core) (take 2 ps)) (drop_all (suc n * 2) both_copies (omega arith))) ∙ some)

pub none_missing_at_first : {X : Type 0} (disk : ℕ) → calls_missing (status_of fresh) disk ≡ true → X
none_missing_at_first disk is = not_so (sym (none_missing false disk) ∙ is)

-- ---- its room

pub none_out : (n : ℕ) → 0 ≡ count_if (slice_index_or (false ∷ []) n false)
none_out zero = refl
none_out (suc n) = refl

pub zeros_at : (many k : ℕ) → ◌≡◌ {A = ℕ} (slice_index_or (replicate many 0) k 0) 0
zeros_at zero k = refl
zeros_at (suc many) zero = refl
zeros_at (suc many) (suc k) = zeros_at many k

pub no_fault : (m : Mode) (disk : ℕ) → faults_at_first (core_of (calm m)) disk ≤ 0
no_fault m disk = let none = zeros_at 128 disk in omega (arith, none)
