-- A session may commit its records while nothing is under way, and what stands on its disks then.
use Rattle.std.proofs.Common.{◌≡◌, ◌⊎◌, inl, inr, ◌∷◌, ℕ, zero, suc, ◌<◌, ◌≤◌, ◌%◌, ◌++◌, Bool, true, false, ◌&&◌, not, List, [], Some, length, refl, sym, ◌∙◌, ap, subst, arith}
use Rattle.std.specs.Prelude.{◌==◌, ◌||◌, IsTrue, IfSome, All, Contains, slice_get, get_or}
use Rattle.std.specs.List.{list_any}
use Rattle.std.proofs.lemmas.Bool.{eqb-true, false_from_ne_true}
use Rattle.std.proofs.lemmas.List.Folds.{Any-from_list_any, list_any-from_Any}
use Rattle.std.proofs.lemmas.List.Elements.{Contains-append_left, Contains-append_right}
use Rattle.std.proofs.Math.Nat.{mod-lt}
use Rattle.std.proofs.lemmas.Option.{slice_get-get_or}
use Rattle.lvm_num.specs.declared.place.Pp.{Pp}
use Rattle.lvm_num.specs.declared.descriptor.Mode.TheVariants.{Passive}
use Rattle.lvm_num.specs.declared.descriptor.PvRow.{PvRow}
use Rattle.lvm_num.specs.declared.descriptor.LvRow.{LvRow}
use Rattle.lvm_num.specs.declared.descriptor.Descriptor.{Descriptor}
use Rattle.lvm_num.specs.declared.status.Status.{Status}
use Rattle.lvm_num.specs.Disks.{Disks}
use Rattle.lvm_num.specs.Descriptor.{IsValid, IsPartitionOf, is_member, is_size, copies_of, is_pp}
use Rattle.lvm_num.specs.declared.record.Stamp.{Stamp}
use Rattle.lvm_num.specs.Geometry.{partition_blocks}
use Rattle.lvm_num.specs.Status.{calls_missing, calls_stale, calls_dirty}
use Rattle.lvm_num.specs.Votes.{CanWrite}
use Rattle.lvm_num.proofs.MarksLemmas.Maps.{find-Some}
use Rattle.lvm_disk.specs.Device.{Device, image_of}
use Rattle.lvm_kept.specs.Group.{IsOneOf}
use Rattle.lvm_status.specs.Table.{has_row}
use Rattle.lvm_status.specs.Calls.{IsMarkable}
use Rattle.lvm_status.specs.Update.{Stored, members_there}
use Rattle.lvm_rec.specs.declared.homes.Homes.{Homes}
use Rattle.lvm_write.specs.Written.{HasRoom}
use Rattle.lvm_commit.specs.Committed.{AreOne, MayMark, HoldsCommitted}
use Rattle.lvm_kept.specs.Contents.{Contents}
use Rattle.lvm_status.specs.Marking.{is_served}
use Rattle.lvm_commit.specs.LawsOfData.{IsFree}
use Rattle.lvm_commit.specs.Settling.{NoneIsLeft, there, IsOf, MayCommit, MaySettle, SessionIsHeld}
use Rattle.lvm_session.specs.Sound.{is_dark}
use Rattle.lvm_session.specs.State.{Core, State, is_there}
use Rattle.lvm_session.specs.Marks.{is_among}
use Rattle.lvm_core.specs.Sound.{IsSoundAtRest}
use Rattle.lvm_core.specs.Held.{IsHeld}
use Rattle.lvm_core.specs.Settled.{HasSpareNumbers, IsSettled}
use Rattle.lvm_core.specs.Committing.{AreUnused, AreMarked, AreDirtied, is_in}
use Rattle.lvm_core.specs.Steps.{IsMarked, IsDirtied, WantsMarksAtMost}
use Rattle.lvm_commit.proofs.LawsOfDataLemmas.Free.{none_stands}
use Rattle.lvm_core.proofs.StepsLemmas.Marking.{pp_is}
use Rattle.lvm_core.proofs.CommittingLemmas.Settled.{IsBegun, there_is}
use Rattle.lvm_core.proofs.ZerosLemmas.ZeroKeeping.{is_not_missing, is_low}

-- ---- what a commit needs

-- the row of a member
member_row : (rows : List PvRow) (disk : ℕ) → list_any (λ (row : PvRow). row.disk == disk) rows ≡ true → (row : PvRow) × Contains rows row × (row.disk ≡ disk)
member_row rows disk is =
    let found = Any-from_list_any (λ (row : PvRow). row.disk == disk) rows is in
    (found.1, (found.0, found.2, found.3), eqb-true found.1.disk disk found.4)

is_its : (d : Descriptor) (s : Status) (disk : ℕ) → IsTrue (members_there d s disk) → is_member d disk ≡ true
is_its d s disk there = by_test (is_member d disk) refl there
  where
    by_test : (b : Bool) → is_member d disk ≡ b → b && not (calls_missing s disk) ≡ true → b ≡ true
    by_test true is there = refl
    by_test false is there = absurd (cc there)

-- a member that isn't missing has room for records
pub member_has_room : (s : State) → IsSoundAtRest s → (disk : ℕ) → IsTrue (is_there s.core disk) → HasRoom s.device disk
member_has_room s sound disk there =
    let row = member_row s.core.descriptor.pvs disk (is_its s.core.descriptor s.core.status.wanted disk there) in
    let its = sound.placed row.0 row.1 (ap (calls_missing s.core.status.wanted) row.2 ∙ is_not_missing s.core disk there) in
    let below : disk < length s.device.sizes = subst (λ n. n < length s.device.sizes) row.2 its.there in
    let at : slice_get s.device.sizes disk ≡ Some (get_or s.device.sizes disk 0) = slice_get-get_or s.device.sizes disk 0 below in
    let within = its.within (get_or s.device.sizes disk 0) (ap (slice_get s.device.sizes) row.2 ∙ at) in
    (get_or s.device.sizes disk 0, at, omega (arith, within))

may_settle : (s : State) → IsSoundAtRest s → IsSettled s.core → MaySettle s.core.descriptor s.core.status s.device
may_settle s sound settled = record {
  valid = sound.fitting.valid;
  own = sym sound.fitting.group;
  idle = settled.quiet.status;
  id = sound.fitting.id ∙ sym (ap (λ (g : Descriptor). g.id) sound.fitting.group);
  rows = λ disk. sound.fitting.rows disk ∙ sym (ap (λ (g : Descriptor). is_member g disk) sound.fitting.group);
  epoch = settled.epoch;
  room = λ d is. member_has_room s sound d (subst (λ (set : Disks). IsTrue (set d)) (there_is s.core.descriptor s.core.status sound.fitting.group) is);
  votes = subst (λ (g : Descriptor). CanWrite g (members_there g s.core.status.wanted)) (sym sound.fitting.group) settled.votes;
}

pub may_commit_now : (s : State) → IsSoundAtRest s → IsSettled s.core → HasSpareNumbers s.core → (records : ℕ) → records ≤ 8 → MayCommit records s.core.descriptor s.core.status s.device
may_commit_now s sound settled spare records few = record {
  ready = let lit = sound.lit (ap is_dark settled.power) in record { flights = sound.quiet settled.quiet; freed = lit.freed; power = lit.power };
  settle = may_settle s sound settled;
  numbers = omega (arith, spare, few);
}

-- ---- marks of partitions that no volume has

is_one : (d : Descriptor) (p : Pp) → IsPartitionOf d p → is_member d p.disk ≡ true
is_one d p (row, member, below) =
    let found = find-Some (λ (r : PvRow). r.disk == p.disk) d.pvs row member in
    list_any-from_Any (λ (r : PvRow). r.disk == p.disk) d.pvs (found.1.0, row, found.1.1, found.1.2 row, found.0)

pub unused_markable : (core : Core) (pps : List Pp) → IsValid core.descriptor → ((disk : ℕ) → has_row core.status.wanted disk ≡ is_member core.descriptor disk)
    → AreUnused core.descriptor pps → All (IsMarkable core.status.wanted) pps
unused_markable core pps valid rows unused i p within =
    let its = unused i p within in
    record { row = rows (get_or pps i p).disk ∙ is_one core.descriptor (get_or pps i p) its.0; partition = is_low core.descriptor (get_or pps i p) valid its.0 }

-- ---- what stands on the disks

pub is_of : (d : Descriptor) (u : Stored) → u.group ≡ record d { lvs = [] } → IsOf d u
is_of d u group = sym group

pub session_holds : (device : Device) (core : Core) → core.status.group ≡ record core.descriptor { lvs = [] } → IsHeld device core → SessionIsHeld device core.descriptor core.status core.homes
session_holds device core group held = subst (λ (set : Disks). IfSome device.media (λ media. HoldsCommitted (image_of device.sizes media) core.descriptor core.status.committed set core.status.stamp core.homes))
    (sym (there_is core.descriptor core.status group)) held

pub holds_session : (device : Device) (core : Core) (d : Descriptor) (u : Stored) (homes : Homes) → u.group ≡ record d { lvs = [] } → SessionIsHeld device d u homes → IsHeld device (record core { descriptor = d; status = u; homes = homes })
holds_session device core d u homes group held = subst (λ (set : Disks). IfSome device.media (λ media. HoldsCommitted (image_of device.sizes media) d u.committed set u.stamp homes))
    (there_is d u group) held

-- ---- the marks

some_size : (mib : ℕ) → is_size mib ≡ true → 1 ≤ mib
some_size zero is = absurd (cc is)
some_size (suc n) is = omega arith

-- no copy of a volume is in a partition that none has
not_free : (d : Descriptor) (row : LvRow) (lp : ℕ) (p : Pp) → IsValid d → IsOneOf d.lvs row → IsOneOf (copies_of row lp) p → IsFree d p → ⊥
not_free d row lp p valid volume one free =
    let size = some_size d.mib valid.head.size in
    let some : 0 < partition_blocks d.mib = omega (arith, size) in
    let small : 0 % partition_blocks d.mib < partition_blocks d.mib = mod-lt 0 some in
    none_stands d p row lp 0 p free volume one (record { disk = refl; low = omega arith; high = omega (arith, small) })

unused_at : (d : Descriptor) (pps : List Pp) (p : Pp) → AreUnused d pps → Contains pps p → IsFree d p
unused_at d pps p unused at = subst (IsFree d) at.2 (unused at.0 p at.1).1

pub among_at : (pps : List Pp) (p : Pp) → is_among pps p ≡ true → Contains pps p
among_at pps p is =
    let found = Any-from_list_any (λ (q : Pp). is_pp p q) pps is in
    subst (Contains pps) (sym (pp_is p found.1 found.4)) (found.0, found.2, found.3)

-- tests that agree on the elements
any_same : (p q : Pp → Bool) (xs : List Pp) → ((x : Pp) → IsOneOf xs x → p x ≡ q x) → list_any p xs ≡ list_any q xs
any_same p q [] same = refl
any_same p q (x ∷ xs) same = λ i. same x (inl refl) i || any_same p q xs (λ y is. same y (inr is)) i

module _ (core : Core) (first : Stored) (rest : WantsMarksAtMost core.status first) (group : core.status.group ≡ record core.descriptor { lvs = [] }) where
  pub first_is_of : IsOf core.descriptor first
  first_is_of = sym (rest.group ∙ group)

  pub begun : IsBegun core first
  begun = record { group = rest.group; stamp = rest.stamp; committed = rest.committed; rows = rest.rows; missing = rest.missing; forgotten = rest.forgotten }

  -- the disks hold what was committed, whatever is wanted now
  pub first_held : (device : Device) → IsHeld device core → SessionIsHeld device core.descriptor first core.homes
  first_held device held =
      let Held : Status → Disks → Stamp → Type 0 = λ c s t. IfSome device.media (λ media. HoldsCommitted (image_of device.sizes media) core.descriptor c s t core.homes) in
      let same : there first ≡ is_there core = λ t d. is_member ((rest.group ∙ group) t) d && not (rest.missing d t) in
      subst (λ (c : Status). Held c (there first) first.stamp) (sym rest.committed)
      (subst (λ (s : Disks). Held core.status.committed s first.stamp) (sym same)
      (subst (λ (t : Stamp). Held core.status.committed (is_there core) t) (sym rest.stamp) held))

  -- none is left behind by what is wanted now where none was, if it says the same of the volumes
  pub none_by : ((row : LvRow) (lp : ℕ) (p : Pp) → IsOneOf core.descriptor.lvs row → IsOneOf (copies_of row lp) p → calls_stale first.wanted p ≡ calls_stale core.status.wanted p)
      → NoneIsLeft core.descriptor core.status → NoneIsLeft core.descriptor first
  none_by same_wanted none p left =
      let copies = copies_of left.row left.left.lp in
      let there_same : there first ≡ there core.status = (λ t d. is_member (rest.group t) d && not (rest.missing d t)) in
      let serves : is_served (there core.status) core.status.wanted copies ≡ is_served (there first) first.wanted copies =
      any_same (λ (q : Pp). there core.status q.disk && not (calls_stale core.status.wanted q)) (λ (q : Pp). there first q.disk && not (calls_stale first.wanted q)) copies
      (λ q copy. sym (λ t. there_same t q.disk && not (same_wanted left.row left.left.lp q left.volume copy t))) in
      same_wanted left.row left.left.lp p left.volume left.left.left.one ∙ none p (record {
        row = left.row;
        volume = left.volume;
        left = record {
          lp = left.left.lp;
          below = left.left.below;
          left = record { one = left.left.left.one; absent = sym (λ t. there_same t p.disk) ∙ left.left.left.absent; served = serves ∙ left.left.left.served };
        };
      })

-- ---- marks of partitions

module _ (core : Core) (stale fresh : List Pp) (first : Stored) (marked : IsMarked stale fresh core.status first) (settled : IsSettled core) (group : core.status.group ≡ record core.descriptor { lvs = [] }) where
  -- what is wanted says the same of the volumes
  module _ (valid : IsValid core.descriptor) (unused : AreUnused core.descriptor (stale ++ fresh)) where
    not_stale : (row : LvRow) (lp : ℕ) (p : Pp) → IsOneOf core.descriptor.lvs row → IsOneOf (copies_of row lp) p → is_among stale p ≡ false
    not_stale row lp p volume one = false_from_ne_true (is_among stale p) (λ is. not_free core.descriptor row lp p valid volume one (unused_at core.descriptor (stale ++ fresh) p unused (Contains-append_left stale fresh p (among_at stale p is))))

    not_fresh : (row : LvRow) (lp : ℕ) (p : Pp) → IsOneOf core.descriptor.lvs row → IsOneOf (copies_of row lp) p → is_among fresh p ≡ false
    not_fresh row lp p volume one = false_from_ne_true (is_among fresh p) (λ is. not_free core.descriptor row lp p valid volume one (unused_at core.descriptor (stale ++ fresh) p unused (Contains-append_right stale fresh p (among_at fresh p is))))

    as_before : (a : Bool) → (a || false) && not false ≡ a
    as_before true = refl
    as_before false = refl

    committed_is : core.status.wanted ≡ first.committed
    committed_is = sym settled.committed ∙ sym marked.rest.committed

    same_stale : (row : LvRow) (lp : ℕ) (p : Pp) → IsOneOf core.descriptor.lvs row → IsOneOf (copies_of row lp) p → calls_stale first.wanted p ≡ calls_stale first.committed p
    same_stale row lp p volume one =
        marked.marks p ∙ ap (λ b. (calls_stale core.status.wanted p || b) && not (is_among fresh p)) (not_stale row lp p volume one)
        ∙ ap (λ b. (calls_stale core.status.wanted p || false) && not b) (not_fresh row lp p volume one) ∙ as_before (calls_stale core.status.wanted p) ∙ ap (λ (s : Status). calls_stale s p) committed_is

    same_wanted : (row : LvRow) (lp : ℕ) (p : Pp) → IsOneOf core.descriptor.lvs row → IsOneOf (copies_of row lp) p → calls_stale first.wanted p ≡ calls_stale core.status.wanted p
    same_wanted row lp p volume one = same_stale row lp p volume one ∙ sym (ap (λ (s : Status). calls_stale s p) committed_is)

    -- so none is left behind by what is wanted now where none was
    pub first_none : NoneIsLeft core.descriptor core.status → NoneIsLeft core.descriptor first
    first_none none = none_by core first marked.rest group same_wanted none

    pub wants_marks : (c : Contents) → MayMark c core.descriptor first.committed first.wanted
    wants_marks c = record {
      stale = λ row lp p volume one is. same_stale row lp p volume one ∙ is;
      added = λ row lp p volume low one is. inl (sym (same_stale row lp p volume one) ∙ is);
      dirty = λ row volume soft is. inl (ap (λ (dirty : List ℕ). list_any (λ n. n == row.number) dirty) marked.dirty ∙ ap (λ (s : Status). calls_dirty s row.number) committed_is ∙ is);
    }

  -- where all is so already
  pub none_first : AreMarked stale fresh core.status.committed → first ≡ core.status
  none_first marks = marked.same (subst (AreMarked stale fresh) settled.committed marks)

-- ---- marks of volumes

pub in_at : (numbers : List ℕ) (lv : ℕ) → is_in numbers lv ≡ true → Contains numbers lv
in_at numbers lv is =
    let found = Any-from_list_any (λ (n : ℕ). lv == n) numbers is in
    subst (Contains numbers) (sym (eqb-true lv found.1 found.4)) (found.0, found.2, found.3)

module _ (core : Core) (dirty clean : List ℕ) (first : Stored) (marked : IsDirtied dirty clean core.status first) (settled : IsSettled core) where
  -- a mark that doesn't go stays
  stays : (a b c : Bool) → a ≡ true → c ≡ false → ((a || b) && not c) ≡ true
  stays true b false is isnt = refl
  stays true b true is isnt = absurd (cc isnt)
  stays false b c is isnt = absurd (cc is)

  pub wants_dirt : (c : Contents) → ((row : LvRow) → IsOneOf core.descriptor.lvs row → row.mode ≡ Passive → Contains clean row.number → AreOne c core.descriptor core.status.committed row) → MayMark c core.descriptor first.committed first.wanted
  wants_dirt c one = record {
    stale = λ row lp p volume copy is. marked.stale p ∙ sym (ap (λ (s : Status). calls_stale s p) was) ∙ is;
    added = λ row lp p volume low copy is. inl (ap (λ (s : Status). calls_stale s p) was ∙ sym (marked.stale p) ∙ is);
    dirty = λ row volume soft is. by row volume soft is (is_in clean row.number) refl;
  }
    where
      was : first.committed ≡ core.status.wanted
      was = marked.rest.committed ∙ settled.committed

      by : (row : LvRow) → IsOneOf core.descriptor.lvs row → row.mode ≡ Passive → IsTrue (calls_dirty first.committed row.number) → (t : Bool) → is_in clean row.number ≡ t → IsTrue (calls_dirty first.wanted row.number) ⊎ AreOne c core.descriptor first.committed row
      by row volume soft is true among = inr (subst (λ (s : Status). AreOne c core.descriptor s row) (sym marked.rest.committed) (one row volume soft (in_at clean row.number among)))
      by row volume soft is false among =
          inl (marked.marks row.number ∙ stays (calls_dirty core.status.wanted row.number) (is_in dirty row.number) (is_in clean row.number) (sym (ap (λ (s : Status). calls_dirty s row.number) was) ∙ is) among)

  -- where all is so already
  pub no_dirt : AreDirtied dirty clean core.status.committed → first ≡ core.status
  no_dirt marks = marked.same (subst (AreDirtied dirty clean) settled.committed marks)
