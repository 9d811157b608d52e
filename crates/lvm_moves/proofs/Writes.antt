-- The write of a status that is started: to which disk it goes, and what it leaves.
use Rattle.std.proofs.Common.{◌≡◌, ⊎_elim, inl, inr, ◌<◌, ◌≤◌, ◌+◌, ◌*◌, ◌==◌, ◌∷◌, [], ℕ, zero, suc, Bool, true, false, not, nat_lt, if◌then◌else◌, List, Option, Some, None, length, slice_get, slice_set, refl, sym, ◌∙◌, ap, subst, arith}
use Rattle.std.specs.Prelude.{◌&&◌, ◌||◌, Contains, bytes_eq, is_none}
use Rattle.std.specs.List.{list_any, sum_by}
use Rattle.std.proofs.lemmas.Bool.{eqb-true}
use Rattle.std.proofs.lemmas.List.Sums.{sum_by-cons}
use Rattle.std.proofs.lemmas.Slice.Eq.{bytes_eq-Decides}
use Rattle.lvm_num.specs.declared.descriptor.PvRow.{PvRow}
use Rattle.lvm_num.specs.declared.descriptor.Descriptor.{Descriptor}
use Rattle.lvm_num.specs.declared.status.Status.{Status}
use Rattle.lvm_num.specs.declared.status.StatusRow.{StatusRow}
use Rattle.lvm_num.specs.Descriptor.{IsMember, is_member}
use Rattle.lvm_num.specs.Disks.{Disks, has}
use Rattle.lvm_num.specs.Votes.{is_enough_to_write, total_votes, votes_in, votes_of}
use Rattle.lvm_num.specs.Status.{calls_missing}
use Rattle.lvm_num.proofs.Booleans.{first_holds, same_itself, if_itself, three_hold, none_below}
use Rattle.lvm_disk.specs.Device.{Device}
use Rattle.lvm_disk.specs.Steps.{GoesDark, IsRange}
use Rattle.lvm_pbuf.specs.Out.{TakesLowest}
use Rattle.lvm_status.specs.Calls.{with_update}
use Rattle.lvm_status.specs.Update.{MayStartUpdate, Stored, Updates, members_there, seen}
use Rattle.lvm_session.specs.State.{Core, State, state}
use Rattle.lvm_session.specs.Enabled.{is_lost, is_status_due, same_rows, same_status}
use Rattle.lvm_session.specs.Dark.{all_dark}
use Rattle.lvm_session.specs.Turns.{Darkens, SaysTheSame}
use Rattle.lvm_moves.specs.passed.Session.{MayEnd}
use Rattle.lvm_session.specs.Sound.{IsGoing}
use Rattle.lvm_moves.proofs.OutLemmas.{pool_same}
use Rattle.lvm_moves.specs.Updating.{MayStartStatus, NextOn}

-- ---- a status says the same as itself

rows_own : (rows : List StatusRow) → same_rows rows rows ≡ true
rows_own [] = refl
rows_own (row ∷ rows) =
    ap (λ (b : Bool). b && same_rows rows rows) (three_hold (row.disk == row.disk) (if row.missing then row.missing else not row.missing) (bytes_eq row.stale row.stale) (same_itself row.disk) (if_itself row.missing) ((bytes_eq-Decides row.stale row.stale).1 refl))
    ∙ rows_own rows

pub same_own : (s : Status) → same_status s s ≡ true
same_own s =
    ap (λ (b : Bool). b && same_rows s.rows s.rows) (three_hold (s.id == s.id) (if s.big then s.big else not s.big) (bytes_eq s.dirty s.dirty) (same_itself s.id) (if_itself s.big) ((bytes_eq-Decides s.dirty s.dirty).1 refl)) ∙ rows_own s.rows

-- ---- what is due

module _ (core : Core) (due : is_status_due core ≡ true) where
  unlike : core.status.in_flight ≡ None → not (same_status core.status.wanted core.status.committed) ≡ true
  unlike none = sym (ap (λ (m : Option Status). if is_none m then not (same_status core.status.wanted core.status.committed) else list_any (λ (row : PvRow). has core.status.writes.unstarted row.disk) core.status.group.pvs) none) ∙ due

  pub differs : core.status.in_flight ≡ None → core.status.wanted ≡ core.status.committed → ⊥
  differs none same = absurd (let e : ◌≡◌ {A = Bool} false true = sym (ap not (ap (same_status core.status.wanted) (sym same) ∙ same_own core.status.wanted)) ∙ unlike none in cc e)

  owed : (core.status.in_flight ≡ None → ⊥) → list_any (λ (row : PvRow). has core.status.writes.unstarted row.disk) core.status.group.pvs ≡ true
  owed flies = by_flight core.status.in_flight refl due
    where
      by_flight : (m : Option Status) → core.status.in_flight ≡ m → (if is_none m then not (same_status core.status.wanted core.status.committed) else list_any (λ (row : PvRow). has core.status.writes.unstarted row.disk) core.status.group.pvs) ≡ true
          → list_any (λ (row : PvRow). has core.status.writes.unstarted row.disk) core.status.group.pvs ≡ true
      by_flight None is d = absurd (flies is)
      by_flight (Some s) is d = d

-- ---- a member is left

none_of : (set : Disks) (rows : List PvRow) → ((disk : ℕ) → set disk ≡ false) → list_any (λ (row : PvRow). set row.disk) rows ≡ false
none_of set [] none = refl
none_of set (row ∷ rows) none = ap (λ (b : Bool). b || (list_any (λ (r : PvRow). set r.disk) rows)) (none row.disk) ∙ none_of set rows none

sum_none : (f : PvRow → ℕ) (rows : List PvRow) → ((row : PvRow) → f row ≡ 0) → sum_by f rows ≡ 0
sum_none f [] none = refl
sum_none f (row ∷ rows) none = let more = sum_by-cons f row rows in let here = none row in let rest = sum_none f rows none in omega (arith, more, here, rest)

no_votes : (d : Descriptor) (set : Disks) → ((disk : ℕ) → set disk ≡ false) → votes_in d set ≡ 0
no_votes d set none = sum_none (λ (row : PvRow). if set row.disk then votes_of d row.disk else 0) d.pvs (λ row. ap (λ (b : Bool). if b then votes_of d row.disk else 0) (none row.disk))

too_few : (d : Descriptor) → is_enough_to_write d 0 ≡ false
too_few d = by_quorum d.quorum
  where
    by_quorum : (b : Bool) → (if b then nat_lt (total_votes d) (2 * 0) else nat_lt 0 0) ≡ false
    by_quorum true = none_below (total_votes d)
    by_quorum false = none_below 0

module _ (core : Core) (going : IsGoing core) (due : is_status_due core ≡ true) (votes : is_lost core ≡ false) (new : Stored) where
  in_group : (disk : ℕ) → members_there core.status.group core.status.wanted disk ≡ members_there core.descriptor core.status.wanted disk
  in_group disk = ap (λ (g : Descriptor). members_there g core.status.wanted disk) going.fitting.group

  pub some_left : NextOn core.status new None → ⊥
  some_left next = ⊎_elim flying begun next.begins
    where
      flying : (core.status.in_flight ≡ None → ⊥) × (next.begun ≡ core.status) → ⊥
      flying it = absurd (let e : ◌≡◌ {A = Bool} false true = sym (none_of (has core.status.writes.unstarted) core.status.group.pvs (λ disk. ap (λ (s : Stored). has s.writes.unstarted disk) (sym it.1) ∙ next.lowest disk)) ∙ owed core due it.0 in cc e)

      begun : MayStartUpdate (seen core.status) × (seen next.begun ≡ with_update (seen core.status)) → ⊥
      begun it =
          let none : (disk : ℕ) → members_there core.descriptor core.status.wanted disk ≡ false = λ disk. sym (in_group disk) ∙ ap (λ (u : Updates). u.unstarted disk) (sym it.1) ∙ next.lowest disk in
          absurd (let e : ◌≡◌ {A = Bool} true false = sym (ap not (ap (is_enough_to_write core.descriptor) (no_votes core.descriptor (members_there core.descriptor core.status.wanted) none) ∙ too_few core.descriptor)) ∙ votes in cc e)

  pub is_there : (disk : ℕ) → NextOn core.status new (Some disk) → members_there core.descriptor core.status.wanted disk ≡ true
  is_there disk next = sym (in_group disk) ∙ ⊎_elim flying begun next.begins
    where
      flying : (core.status.in_flight ≡ None → ⊥) × (next.begun ≡ core.status) → members_there core.status.group core.status.wanted disk ≡ true
      flying it = (going.status.unstarted disk (ap (λ (s : Stored). has s.writes.unstarted disk) (sym it.1) ∙ next.lowest.0)).0

      begun : MayStartUpdate (seen core.status) × (seen next.begun ≡ with_update (seen core.status)) → members_there core.status.group core.status.wanted disk ≡ true
      begun it = ap (λ (u : Updates). u.unstarted disk) (sym it.1) ∙ next.lowest.0

-- ---- it is on the shelf

found_in : (rows : List PvRow) (disk : ℕ) → list_any (λ (row : PvRow). row.disk == disk) rows ≡ true → (row : PvRow) × Contains rows row × (row.disk ≡ disk)
found_in [] disk is = absurd cc
found_in (row ∷ rows) disk is = by_test (row.disk == disk) refl is (found_in rows disk)
  where
    by_test : (b : Bool) → (row.disk == disk) ≡ b → b || (list_any (λ (r : PvRow). r.disk == disk) rows) ≡ true
        → (list_any (λ (r : PvRow). r.disk == disk) rows ≡ true → (r : PvRow) × Contains rows r × (r.disk ≡ disk)) → (r : PvRow) × Contains (row ∷ rows) r × (r.disk ≡ disk)
    by_test true same is rest = (row, (zero, omega arith, refl), eqb-true row.disk disk same)
    by_test false same is rest = let it = rest is in let within = it.1.1 in (it.0, (suc it.1.0, omega (arith, within), it.1.2), it.2)

back_false : (a b : Bool) → (a && not b) ≡ true → b ≡ false
back_false true true is = absurd cc
back_false true false is = refl
back_false false b is = absurd cc

pub record IsOnShelf (device : Device) (disk : ℕ) : Type 0 where
  pub small : disk < 128
  pub there : disk < length device.sizes
  pub within : (size : ℕ) → slice_get device.sizes disk ≡ Some size → 4096 ≤ size

pub on_shelf : (device : Device) (core : Core) → IsGoing core → MayStartStatus device core → (disk : ℕ) → members_there core.descriptor core.status.wanted disk ≡ true → IsOnShelf device disk
on_shelf device core going may disk is =
    let it = found_in core.descriptor.pvs disk (first_holds (is_member core.descriptor disk) (not (calls_missing core.status.wanted disk)) is) in
    let here = back_false (is_member core.descriptor disk) (calls_missing core.status.wanted disk) is in
    let placed = may.placed it.0 it.1 (ap (calls_missing core.status.wanted) it.2 ∙ here) in
    let member : IsMember it.0 = subst IsMember it.1.2 (going.fitting.valid.members.each it.1.0 it.0 it.1.1) in
    let small = member.disk in
    let same = it.2 in
    record {
      small = omega (arith, small, same);
      there = subst (λ n. n < length device.sizes) it.2 placed.there;
      within = λ size at. let all = placed.within size (ap (slice_get device.sizes) it.2 ∙ at) in omega (arith, all);
    }

pub its_range : (device : Device) (disk first count : ℕ) (second : Bool) → IsOnShelf device disk → first ≡ 64 + 64 * (if second then 1 else 0) → 1 ≤ count → count ≤ 64 → IsRange device disk first count
its_range device disk first count second on is some few =
    let most : first ≤ 128 = by_slot second is in
    record { there = on.there; some = some; most = omega (arith, few); within = λ size at. let all = on.within size at in omega (arith, few, most, all) }
  where
    by_slot : (b : Bool) → first ≡ 64 + 64 * (if b then 1 else 0) → first ≤ 128
    by_slot true is = omega (arith, is)
    by_slot false is = omega (arith, is)

-- ---- what it leaves

pub says : (old new : Stored) (disk : ℕ) → NextOn old new (Some disk) → SaysTheSame old new
says old new disk next = ⊎_elim flying begun next.begins
  where
    flying : (old.in_flight ≡ None → ⊥) × (next.begun ≡ old) → SaysTheSame old new
    flying it = record {
      group = ap (λ (u : Updates). u.group) next.started ∙ ap (λ (s : Stored). s.group) it.1;
      committed = ap (λ (u : Updates). u.committed) next.started ∙ ap (λ (s : Stored). s.committed) it.1;
      wanted = ap (λ (u : Updates). u.wanted) next.started ∙ ap (λ (s : Stored). s.wanted) it.1;
      in_flight = inl (ap (λ (u : Updates). u.in_flight) next.started ∙ ap (λ (s : Stored). s.in_flight) it.1);
      stamp = inl (ap (λ (u : Updates). u.stamp) next.started ∙ ap (λ (s : Stored). s.stamp) it.1);
    }

    begun : MayStartUpdate (seen old) × (seen next.begun ≡ with_update (seen old)) → SaysTheSame old new
    begun it = record {
      group = ap (λ (u : Updates). u.group) next.started ∙ ap (λ (u : Updates). u.group) it.1;
      committed = ap (λ (u : Updates). u.committed) next.started ∙ ap (λ (u : Updates). u.committed) it.1;
      wanted = ap (λ (u : Updates). u.wanted) next.started ∙ ap (λ (u : Updates). u.wanted) it.1;
      in_flight = inr (it.0.none, ap (λ (u : Updates). u.in_flight) next.started ∙ ap (λ (u : Updates). u.in_flight) it.1);
      stamp = inr (it.0.none, ap (λ (u : Updates). u.stamp) next.started ∙ ap (λ (u : Updates). u.stamp) it.1);
    }

pub flies : (core : Core) (new : Stored) (disk : ℕ) → NextOn core.status new (Some disk) → new.in_flight ≡ None → ⊥
flies core new disk next none = ⊎_elim flying begun next.begins
  where
    left : next.begun.in_flight ≡ None
    left = sym (ap (λ (u : Updates). u.in_flight) next.started) ∙ none

    flying : (core.status.in_flight ≡ None → ⊥) × (next.begun ≡ core.status) → ⊥
    flying it = it.0 (sym (ap (λ (s : Stored). s.in_flight) it.1) ∙ left)

    begun : MayStartUpdate (seen core.status) × (seen next.begun ≡ with_update (seen core.status)) → ⊥
    begun it = absurd (let e : ◌≡◌ {A = Option Status} (Some core.status.wanted) None = sym (ap (λ (u : Updates). u.in_flight) it.1) ∙ left in cc e)

pub with_status : (core : Core) (status : Stored) (pool : List Bool) → pool ≡ core.pool → MayEnd core → MayEnd (record core { pool = pool; status = status })
with_status core status pool same may = subst (λ (p : List Bool). MayEnd (record core { pool = p; status = status })) (sym same) (record { told = may.told; copy = may.copy; requests = may.requests })

pub dark_status : (old : State) (device : Device) (new : Core) (status : Stored) (pool : List Bool) (n : ℕ) → TakesLowest old.core.pool pool n → GoesDark old.device device → device.power ≡ false → SaysTheSame old.core.status status
    → new ≡ all_dark (record old.core { pool = slice_set pool n false; status = status }) → Darkens old (state device new)
dark_status old device new status pool n takes goes off same is =
    let back : new ≡ all_dark (record old.core { status = status }) = is ∙ ap (λ (p : List Bool). all_dark (record old.core { pool = p; status = status })) (pool_same old.core.pool pool n takes) in
    subst (λ (c : Core). Darkens old (state device c)) (sym back) (record { device = goes; power = off; status = same; entries = refl; notes = λ disk. refl; is = refl })
