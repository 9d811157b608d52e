-- The status of a session by the records of a turn, and what it needs to go on with it.
use Rattle.std.proofs.Common.{◌≡◌, ℕ, ◌≤◌, Bool, true, false, ◌&&◌, ◌||◌, not, List, [], None, count_by, refl, sym, ◌∙◌, ap, subst, arith}
use Rattle.std.specs.Prelude.{◌==◌, IsTrue, IsFalse, Contains}
use Rattle.std.proofs.lemmas.Bool.{false≢true, and_parts}
use Rattle.lvm_num.specs.declared.place.Pp.{Pp}
use Rattle.lvm_num.specs.declared.record.Stamp.{Stamp}
use Rattle.lvm_num.specs.declared.descriptor.PvRow.{PvRow}
use Rattle.lvm_num.specs.declared.descriptor.LvRow.{LvRow}
use Rattle.lvm_num.specs.declared.descriptor.Descriptor.{Descriptor}
use Rattle.lvm_num.specs.declared.status.Status.{Status}
use Rattle.lvm_num.specs.declared.status.StatusRow.{StatusRow}
use Rattle.lvm_num.specs.Bits.{has_bit}
use Rattle.lvm_num.specs.Disks.{Disks, has}
use Rattle.lvm_num.specs.Descriptor.{is_member, copies_of}
use Rattle.lvm_num.specs.Status.{calls_stale, calls_missing}
use Rattle.lvm_num.specs.Among.{IsOneOf}
use Rattle.lvm_num.specs.Votes.{votes_in, CanWrite}
use Rattle.lvm_num.proofs.AmongLemmas.{one_any}
use Rattle.lvm_num.proofs.Lists.{found_any}
use Rattle.lvm_num.proofs.Booleans.{same_itself}
use Rattle.lvm_num.proofs.VotesLemmas.{more_have_more, more_is_enough}
use Rattle.lvm_disk.specs.Device.{Device, IsReady}
use Rattle.lvm_status.specs.Members.{HasItsRows}
use Rattle.lvm_status.specs.Rerowed.{IsRerowed}
use Rattle.lvm_status.specs.Table.{has_row}
use Rattle.lvm_status.specs.Calls.{first_updates}
use Rattle.lvm_status.specs.Update.{Stored, Updates, members_there, seen}
use Rattle.lvm_write.proofs.PartsLemmas.Transfers.{still_room}
use Rattle.lvm_commit.specs.Settling.{there, many_there, IsOf, IsForgotten, MayCommit}
use Rattle.lvm_commit.proofs.RoundsLemmas.Wanting.{row_stays}
use Rattle.lvm_commit.proofs.SettlingLemmas.Round.{no_more_there}
use Rattle.lvm_session.specs.State.{State, is_there}
use Rattle.lvm_change.specs.Parting.{PartsWith}
use Rattle.lvm_change.proofs.PartingLemmas.{parts_group, parts_stamp, parts_committed, parts_idle, parts_loses, parts_there}
use Rattle.lvm_turnover.specs.declared.change.Change.{Change}
use Rattle.lvm_change_laws.specs.Rule.{members_among, staying, unspared}
use Rattle.lvm_change_laws.proofs.RuleLemmas.{are_two, member_next, was_member}
use Rattle.lvm_core.specs.Committing.{is_in}
use Rattle.lvm_turnover.specs.Turning.{MayTurnSession, after_turn, disks_leaving, unreached}
use Rattle.lvm_turnover.proofs.OutLemmas.{HasAsMany, count_same, count_staying, count_unspared, had_as_many, said_in_row}

module _ (c : Change) (s : State) (may : MayTurnSession c s) where
  abbrev pub next : Descriptor
  next = c.next

  abbrev pub was : Descriptor
  was = s.core.descriptor

  -- the disk that leaves, if one does
  abbrev pub leaves : Disks
  leaves = is_in (disks_leaving c.leaving)

  pub same_mib : next.mib ≡ was.mib
  same_mib = ap (λ (g : Descriptor). g.mib) may.change.differs

  pub same_id : next.id ≡ was.id
  same_id = ap (λ (g : Descriptor). g.id) may.change.differs

  pub same_volumes : next.lvs ≡ was.lvs
  same_volumes = ap (λ (g : Descriptor). g.lvs) may.change.differs

  pub still_inside : (row : PvRow) → Contains next.pvs row → HasAsMany was.pvs row
  still_inside row inside = had_as_many leaves was.pvs next.pvs may.change.members row inside

  pub next_member : (e : ℕ) → is_member next e ≡ (is_member was e && not (leaves e))
  next_member e = member_next leaves was next (is_there s.core) may.change e

  pub had_member : (e : ℕ) → IsTrue (is_member next e) → IsTrue (is_member was e)
  had_member e is = was_member leaves was next (is_there s.core) may.change e is

  pub session_there : there s.core.status ≡ is_there s.core
  session_there = λ t. members_there (sym may.commit.settle.own t) s.core.status.wanted

  pub rerowed : IsRerowed next s.core.status.wanted c.tables.told
  rerowed = subst (λ (x : Status). IsRerowed next x c.tables.told) may.settled may.ready.told

  -- no copy of the group's volumes stands on the disk that leaves
  pub copy_stays : (row : LvRow) (lp : ℕ) (p : Pp) → IsOneOf was.lvs row → IsOneOf (copies_of row lp) p → IsTrue (is_member next p.disk)
  copy_stays row lp p one copy =
      let at = (are_two leaves was next (is_there s.core) may.change).places row lp p one copy in
      found_any (λ (r : PvRow). r.disk == p.disk) next.pvs at.1 at.3

  pub copy_apart : (row : LvRow) (lp : ℕ) (p : Pp) → IsOneOf was.lvs row → IsOneOf (copies_of row lp) p → IsFalse (leaves p.disk)
  copy_apart row lp p one copy = by (leaves p.disk) (and_parts (is_member was p.disk) (not (leaves p.disk)) (sym (next_member p.disk) ∙ copy_stays row lp p one copy)).1
    where
      by : (b : Bool) → not b ≡ true → b ≡ false
      by true is = absurd (false≢true is)
      by false is = refl

  was_rows : HasItsRows was s.core.status.wanted
  was_rows e = may.commit.settle.rows e ∙ ap (λ (g : Descriptor). is_member g e) (sym may.commit.settle.own)

  -- a disk of which it says something is a member of the next one, unless it leaves
  still_member : (e : ℕ) → IsFalse (leaves e) → IsTrue (has_row s.core.status.wanted e) → IsTrue (is_member next e)
  still_member e off row = next_member e ∙ both (is_member was e) (leaves e) (sym (was_rows e) ∙ row) off
    where
      both : (a b : Bool) → a ≡ true → b ≡ false → (a && not b) ≡ true
      both true false one two = refl
      both true true one two = absurd (false≢true (sym two))
      both false b one two = absurd (false≢true one)

  -- ---- those that weren't reached

  left : (a b o : Bool) → (a && b) && o ≡ true → a ≡ true
  left true b o is = refl
  left false b o is = absurd (false≢true is)

  pub unreached_member : (written : ℕ) (e : ℕ) → IsTrue (unreached was s.core written e) → IsTrue (is_member was e)
  unreached_member written e is = left (is_member was e) (not (calls_missing s.core.status.wanted e)) (not (has written e)) is

  pub unreached_next : (written : ℕ) (e : ℕ) → IsTrue (unreached next s.core written e) → IsTrue (is_member next e)
  unreached_next written e is = left (is_member next e) (not (calls_missing s.core.status.wanted e)) (not (has written e)) is

  -- so they are of the members that the group had
  pub unreached_was : (written : ℕ) (e : ℕ) → IsTrue (unreached next s.core written e) → IsTrue (unreached was s.core written e)
  unreached_was written e is = by (is_member next e) (is_member was e) (not (calls_missing s.core.status.wanted e)) (not (has written e)) (had_member e (unreached_next written e is)) is
    where
      by : (m w n o : Bool) → w ≡ true → (m && n) && o ≡ true → (w && n) && o ≡ true
      by true true n o one is = is
      by false w n o one is = absurd (false≢true is)
      by true false n o one is = absurd (false≢true one)

-- the status by the records, with nothing lost
module _ (c : Change) (s : State) (may : MayTurnSession c s) (begun : Stored) (begun_is : seen begun ≡ record (first_updates c.tables.told c.tables.group) { stamp = after_turn s.core.status.stamp }) where
  abbrev goal : Descriptor
  goal = c.next

  abbrev had : Descriptor
  had = s.core.descriptor

  pub begun_group : begun.group ≡ record goal { lvs = [] }
  begun_group = ap (λ (x : Updates). x.group) begun_is ∙ ap (λ (g : Descriptor). record g { lvs = [] }) may.ready.prepared.group

  pub begun_of : IsOf goal begun
  begun_of = sym begun_group

  pub begun_committed : begun.committed ≡ c.tables.told
  begun_committed = ap (λ (x : Updates). x.committed) begun_is

  pub begun_wanted : begun.wanted ≡ c.tables.told
  begun_wanted = ap (λ (x : Updates). x.wanted) begun_is

  pub begun_idle : begun.in_flight ≡ None
  begun_idle = ap (λ (x : Updates). x.in_flight) begun_is

  pub begun_forgotten : IsForgotten begun
  begun_forgotten none disk = (ap (λ (x : Updates). x.unstarted disk) begun_is, ap (λ (x : Updates). x.started disk) begun_is, ap (λ (x : Updates). x.written disk) begun_is, ap (λ (x : Updates). x.failed disk) begun_is)

  pub begun_rows : HasItsRows goal begun.wanted
  begun_rows e = ap (λ (x : Status). has_row x e) begun_wanted ∙ (rerowed c s may).rows e

  pub begun_own_rows : HasItsRows begun.group begun.wanted
  begun_own_rows e = begun_rows e ∙ ap (λ (g : Descriptor). is_member g e) (sym begun_group)

  pub begun_id : begun.wanted.id ≡ goal.id
  begun_id = ap (λ (x : Status). x.id) begun_wanted ∙ (rerowed c s may).id ∙ may.commit.settle.id ∙ ap (λ (g : Descriptor). g.id) (sym may.commit.settle.own) ∙ sym (same_id c s may)

  -- it says of the goal one's members what is wanted
  pub begun_stale : (p : Pp) → calls_stale begun.wanted p ≡ (is_member goal p.disk && calls_stale s.core.status.wanted p)
  begun_stale p = ap (λ (x : Status). calls_stale x p) begun_wanted ∙ (rerowed c s may).stale p

  pub begun_missing : (e : ℕ) → calls_missing begun.wanted e ≡ (is_member goal e && calls_missing s.core.status.wanted e)
  begun_missing e = ap (λ (x : Status). calls_missing x e) begun_wanted ∙ (rerowed c s may).missing e

  pub begun_dirty : begun.wanted.dirty ≡ s.core.status.wanted.dirty
  begun_dirty = ap (λ (x : Status). x.dirty) begun_wanted ∙ (rerowed c s may).dirty

  pub begun_there : (e : ℕ) → there begun e ≡ members_there goal s.core.status.wanted e
  begun_there e = ap (λ (g : Descriptor). is_member g e && not (calls_missing begun.wanted e)) begun_group ∙ ap (λ (b : Bool). is_member goal e && not b) (begun_missing e) ∙ both (is_member goal e) (calls_missing s.core.status.wanted e)
    where
      both : (m n : Bool) → (m && not (m && n)) ≡ (m && not n)
      both true n = refl
      both false n = refl

  pub begun_less : (e : ℕ) → IsTrue (there begun e) → IsTrue (is_there s.core e)
  begun_less e is =
      let two = and_parts (is_member goal e) (not (calls_missing s.core.status.wanted e)) (sym (begun_there e) ∙ is) in
      both (is_member had e) (not (calls_missing s.core.status.wanted e)) (had_member c s may e two.0) two.1
    where
      both : (a b : Bool) → a ≡ true → b ≡ true → a && b ≡ true
      both true b one two = two
      both false b one two = absurd (false≢true one)

  pub begun_many : many_there begun ≤ many_there s.core.status
  begun_many =
      let one : many_there begun ≡ count_by (λ (row : PvRow). not (calls_missing begun.wanted row.disk)) goal.pvs = ap (λ (g : Descriptor). count_by (λ (row : PvRow). not (calls_missing begun.wanted row.disk)) g.pvs) begun_group in
      let two = count_same (λ (row : PvRow). not (calls_missing begun.wanted row.disk)) (λ (row : PvRow). not (calls_missing s.core.status.wanted row.disk)) goal.pvs said in
      let rows : count_by (λ (row : PvRow). not (calls_missing s.core.status.wanted row.disk)) (unspared goal.pvs) ≡ count_by (λ (row : PvRow). not (calls_missing s.core.status.wanted row.disk)) (staying (is_in (disks_leaving c.leaving)) (unspared had.pvs)) =
      ap (count_by (λ (row : PvRow). not (calls_missing s.core.status.wanted row.disk))) may.change.members in
      let few = count_staying (λ (row : PvRow). not (calls_missing s.core.status.wanted row.disk)) (is_in (disks_leaving c.leaving)) (unspared had.pvs) in
      let all = count_unspared (λ (disk : ℕ). not (calls_missing s.core.status.wanted disk)) had.pvs in
      let left = count_unspared (λ (disk : ℕ). not (calls_missing s.core.status.wanted disk)) goal.pvs in
      let own : count_by (λ (row : PvRow). not (calls_missing s.core.status.wanted row.disk)) had.pvs ≡ many_there s.core.status =
      ap (λ (g : Descriptor). count_by (λ (row : PvRow). not (calls_missing s.core.status.wanted row.disk)) g.pvs) may.commit.settle.own in
      omega (arith, one, two, rows, few, all, left, own)
    where
      said : (row : PvRow) → IsOneOf goal.pvs row → not (calls_missing begun.wanted row.disk) ≡ not (calls_missing s.core.status.wanted row.disk)
      said row one = ap not (begun_missing row.disk ∙ ap (λ (b : Bool). b && calls_missing s.core.status.wanted row.disk) (one_any (λ (r : PvRow). r.disk == row.disk) goal.pvs row one (same_itself row.disk)))

  pub copy_there : (row : LvRow) (lp : ℕ) (p : Pp) → IsOneOf had.lvs row → IsOneOf (copies_of row lp) p → there begun p.disk ≡ there s.core.status p.disk
  copy_there row lp p one copy =
      let member = copy_stays c s may row lp p one copy in
      begun_there p.disk ∙ ap (λ (b : Bool). b && not (calls_missing s.core.status.wanted p.disk)) (member ∙ sym (had_member c s may p.disk member)) ∙ ap (λ (set : Disks). set p.disk) (sym (session_there c s may))

  pub copy_stale : (row : LvRow) (lp : ℕ) (p : Pp) → IsOneOf had.lvs row → IsOneOf (copies_of row lp) p → calls_stale begun.wanted p ≡ calls_stale s.core.status.wanted p
  copy_stale row lp p one copy = begun_stale p ∙ ap (λ (b : Bool). b && calls_stale s.core.status.wanted p) (copy_stays c s may row lp p one copy)

  pub stale_before : (p : Pp) → IsTrue (calls_stale begun.wanted p) → IsTrue (calls_stale s.core.status.wanted p)
  stale_before p is = (and_parts (is_member goal p.disk) (calls_stale s.core.status.wanted p) (sym (begun_stale p) ∙ is)).1

  pub stale_after : (p : Pp) → IsFalse (is_in (disks_leaving c.leaving) p.disk) → IsTrue (calls_stale s.core.status.wanted p) → IsTrue (calls_stale begun.wanted p)
  stale_after p off is = begun_stale p
      ∙ ap (λ (b : Bool). b && calls_stale s.core.status.wanted p) (still_member c s may p.disk off (said_in_row (λ (row : StatusRow). has_bit row.stale p.pp) p.disk s.core.status.wanted.rows is)) ∙ is

  pub missing_after : (e : ℕ) → IsFalse (is_in (disks_leaving c.leaving) e) → IsTrue (calls_missing s.core.status.wanted e) → IsTrue (calls_missing begun.wanted e)
  missing_after e off is = begun_missing e ∙ ap (λ (b : Bool). b && calls_missing s.core.status.wanted e) (still_member c s may e off (said_in_row (λ (row : StatusRow). row.missing) e s.core.status.wanted.rows is)) ∙ is

  pub missing_before : (e : ℕ) → IsTrue (calls_missing begun.wanted e) → IsTrue (calls_missing s.core.status.wanted e)
  missing_before e is = (and_parts (is_member goal e) (calls_missing s.core.status.wanted e) (sym (begun_missing e) ∙ is)).1

  -- ---- once they are missing

  module _ (written : ℕ) (within : (e : ℕ) → IsTrue (has written e) → IsTrue (is_there s.core e)) where
    reached : (m n on : Bool) → (on ≡ true → n ≡ true) → (m && n) && not ((m && n) && not on) ≡ (on && m)
    reached true true true its = refl
    reached true true false its = refl
    reached true false true its = absurd (false≢true (its refl))
    reached true false false its = refl
    reached false n true its = refl
    reached false n false its = refl

    module _ (first : Stored) (parts : PartsWith goal (unreached goal s.core written) begun first) where
      pub first_there : there first ≡ members_among goal (has written)
      first_there = λ t e. (parts_there goal (unreached goal s.core written) begun first parts e ∙ ap (λ (b : Bool). b && not (unreached goal s.core written e)) (begun_there e)
          ∙ reached (is_member goal e) (not (calls_missing s.core.status.wanted e)) (has written e) (λ is. (and_parts (is_member had e) (not (calls_missing s.core.status.wanted e)) (within e is)).1)) t

      pub first_reached : (e : ℕ) → IsTrue (there first e) → IsTrue (has written e)
      first_reached e is = (and_parts (has written e) (is_member goal e) (subst (λ (set : Disks). IsTrue (set e)) first_there is)).0

      pub first_group : first.group ≡ record goal { lvs = [] }
      first_group = parts_group goal (unreached goal s.core written) begun first parts ∙ begun_group

      pub first_stamp : first.stamp ≡ after_turn s.core.status.stamp
      first_stamp = parts_stamp goal (unreached goal s.core written) begun first parts ∙ ap (λ (x : Updates). x.stamp) begun_is

      pub first_committed : first.committed ≡ c.tables.told
      first_committed = parts_committed goal (unreached goal s.core written) begun first parts ∙ begun_committed

      first_fewer : many_there first ≤ many_there s.core.status
      first_fewer =
          let loses = parts_loses goal (unreached goal s.core written) begun first parts in
          let less = no_more_there begun first (parts_group goal (unreached goal s.core written) begun first parts) (λ e is. loses.missing e ∙ ap (λ (b : Bool). b || unreached goal s.core written e) is) in
          omega (arith, less, begun_many)

      enough_among : CanWrite goal (has written) → CanWrite goal (members_among goal (has written))
      enough_among enough = more_is_enough.write goal (votes_in goal (has written)) (votes_in goal (members_among goal (has written))) (more_have_more goal (has written) (members_among goal (has written)) (λ d member is. both (has written d) (is_member goal d) is member)) enough
        where
          both : (a b : Bool) → a ≡ true → b ≡ true → a && b ≡ true
          both true b one two = two
          both false b one two = absurd (false≢true one)

      pub first_may : (m : Device) → IsReady m → m.sizes ≡ s.device.sizes → CanWrite goal (has written) → MayCommit 1 goal first m
      first_may m ready sizes enough = record {
        ready = ready;
        settle = record {
          valid = may.change.valid_next;
          own = sym first_group;
          idle = parts_idle goal (unreached goal s.core written) begun first parts;
          id = (parts_loses goal (unreached goal s.core written) begun first parts).rows.id ∙ begun_id ∙ ap (λ (g : Descriptor). g.id) (sym first_group);
          rows = λ e. row_stays begun.wanted first.wanted (parts_loses goal (unreached goal s.core written) begun first parts).rows e ∙ begun_rows e ∙ ap (λ (g : Descriptor). is_member g e) (sym first_group);
          epoch = λ none. may.commit.settle.epoch (sym (ap (λ (x : Stamp). x.epoch) first_stamp) ∙ none);
          room = λ e is. still_room s.device m e sizes (may.commit.settle.room e (subst (λ (set : Disks). IsTrue (set e)) (sym (session_there c s may)) (within e (first_reached e is))));
          votes = subst (λ (g : Descriptor). CanWrite g (there first)) (sym first_group) (subst (CanWrite goal) (sym first_there) (enough_among enough));
        };
        numbers = (let seq = ap (λ (x : Stamp). x.seq) first_stamp in let few = first_fewer in let left = may.commit.numbers in omega (arith, seq, few, left));
      }
