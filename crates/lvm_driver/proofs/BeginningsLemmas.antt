-- Which sessions may begin.
use Rattle.std.proofs.Common.{◌≡◌, ◌<◌, ◌+◌, ◌^◌, ℕ, Bool, true, false, ◌&&◌, not, List, [], length, refl, sym, ◌∙◌, ap, subst, arith}
use Rattle.std.specs.List.{list_any, range_with_len}
use Rattle.lvm_num.specs.declared.descriptor.Descriptor.{Descriptor}
use Rattle.lvm_num.specs.declared.descriptor.LvRow.{LvRow}
use Rattle.lvm_num.specs.declared.descriptor.Mode.{Mode}
use Rattle.lvm_num.specs.declared.place.Pp.{Pp}
use Rattle.lvm_num.specs.declared.record.Stamp.{Stamp}
use Rattle.lvm_num.specs.declared.status.Status.{Status}
use Rattle.lvm_num.specs.Descriptor.{copies_of, is_member}
use Rattle.lvm_num.specs.Disks.{has}
use Rattle.lvm_num.specs.Status.{calls_missing}
use Rattle.lvm_num.specs.Votes.{all_disks, is_enough_to_write, total_votes, votes_by, votes_in}
use Rattle.lvm_num.proofs.VotesLemmas.{more_have_more, more_is_enough}
use Rattle.lvm_num.proofs.Lists.{none_each}
use Rattle.lvm_disk.specs.Device.{Device}
use Rattle.lvm_vol.specs.Log.{Log}
use Rattle.lvm_status.specs.Update.{Updates, members_there}
use Rattle.lvm_rec.specs.declared.homes.Homes.{Homes}
use Rattle.lvm_session.specs.Judging.{is_missing, is_stale}
use Rattle.lvm_session.specs.State.{Core}
use Rattle.lvm_session.specs.Marks.{can_replace, is_among, is_entailed, is_entailed_in, is_left_behind}
use Rattle.lvm_session.specs.Left.{updates_left}
use Rattle.lvm_session.specs.Worked.{faultless, fresh, mirrored, status_of}
use Rattle.lvm_session.proofs.WorkedLemmas.Parts.{none_missing, placed, valid}
use Rattle.lvm_keeps_events.proofs.SubmitKeepsLemmas.{few_updates}
use Rattle.lvm_session_start.specs.declared.parts.Parts.{Parts}
use Rattle.lvm_session_start.specs.declared.parts.SessionRoom.{SessionRoom}
use Rattle.lvm_session_start.specs.Beginning.{MayBeginSession, first_core}
use Rattle.lvm_session_start.specs.Parts.{IsReserved, IsSessionRoom}
use Rattle.lvm_driver.specs.Beginnings.{EachModeBegins, IsClosedLog, IsShelfOf, IsWholeGroup, WholeGroupsBegin, no_log, third_stamp}

-- ---- nothing that missing disks would entail

module _ (core : Core) (p : Pp) (there : is_missing core p.disk ≡ false) where
  not_behind : (copies : List Pp) → is_left_behind core copies p ≡ false
  not_behind copies = by (is_among copies p) (not (is_stale core p)) (is_missing core p.disk) (list_any (can_replace core) copies) there
    where
      by : (a b c d : Bool) → c ≡ false → a && b && c && d ≡ false
      by true true true d gone = absurd (cc gone)
      by true true false d gone = refl
      by true false c d gone = refl
      by false b c d gone = refl

  not_entailed_in : (row : LvRow) → is_entailed_in core row p ≡ false
  not_entailed_in row = none_each (λ (lp : ℕ). is_left_behind core (copies_of row lp) p) (λ lp. not_behind (copies_of row lp)) (range_with_len 0 row.lps)

  not_entailed : is_entailed core p ≡ false
  not_entailed = none_each (λ (row : LvRow). is_entailed_in core row p) not_entailed_in core.descriptor.lvs

-- ---- all members are there

all_there : (d : Descriptor) (s : Status) → ((disk : ℕ) → calls_missing s disk ≡ false) → (disk : ℕ) → is_member d disk ≡ true → members_there d s disk ≡ true
all_there d s whole disk member = ap (λ b. b && not (calls_missing s disk)) member ∙ ap not (whole disk)

enough : (d : Descriptor) (s : Status) → IsWholeGroup d s → is_enough_to_write d (votes_in d (members_there d s)) ≡ true
enough d s it = more_is_enough.write d (total_votes d) (votes_in d (members_there d s)) (more_have_more d all_disks (members_there d s) (λ disk member any. all_there d s it.whole disk member)) it.votes

-- ---- its parts

module _ (device : Device) (history : Log) (stamp : Stamp) (homes : Homes) (room : SessionRoom) (d : Descriptor) (s : Status) (p : Parts)
    (fits : IsSessionRoom room) (its : IsReserved d s room p) (whole : IsWholeGroup d s) (shelf : IsShelfOf device d s) (log : IsClosedLog history) (few : stamp.seq < 2 ^ 31) where
  abbrev core : Core
  core = first_core p history stamp homes []

  its_own : IsReserved p.descriptor p.table p.room p
  its_own =
      subst (λ (x : Descriptor). IsReserved x p.table p.room p) (sym its.descriptor)
      (subst (λ (x : Status). IsReserved d x p.room p) (sym its.table) (subst (λ (x : SessionRoom). IsReserved d s x p) (sym its.room_is) its))

  group : IsWholeGroup p.descriptor p.table
  group = subst (λ (x : Descriptor). IsWholeGroup x p.table) (sym its.descriptor) (subst (IsWholeGroup d) (sym its.table) whole)

  on_shelf : IsShelfOf device p.descriptor p.table
  on_shelf = subst (λ (x : Descriptor). IsShelfOf device x p.table) (sym its.descriptor) (subst (IsShelfOf device d) (sym its.table) shelf)

  wanted : p.updater.wanted ≡ s
  wanted = ap (λ (u : Updates). u.wanted) its.status

  none_missing_then : (disk : ℕ) → is_missing core disk ≡ false
  none_missing_then disk = ap (λ (x : Status). calls_missing x disk) wanted ∙ whole.whole disk

  numbers : stamp.seq + updates_left core < 2 ^ 32
  numbers =
      let none : length core.requests ≡ 0 = ap length its.requests in
      let most = few_updates core group.valid (omega (arith, none)) in
      omega (arith, most, few)

  pub may_begin : MayBeginSession device history stamp homes p
  may_begin = record {
    reserved = its_own;
    room = subst IsSessionRoom (sym its.room_is) fits;
    valid = group.valid;
    group = group.group;
    ordered = log.ordered;
    landed = log.landed;
    few = log.few;
    lit = on_shelf.lit;
    idle = on_shelf.idle;
    placed = on_shelf.placed;
    votes = enough p.descriptor p.table group;
    behind = λ pp. not_entailed core pp (none_missing_then pp.disk);
    numbers = numbers;
  }

pub whole_groups_begin : WholeGroupsBegin
whole_groups_begin device history stamp homes room d s p fits its whole shelf log few = may_begin device history stamp homes room d s p fits its whole shelf log few

-- ---- a mirrored volume

mirrored_whole : (m : Mode) → IsWholeGroup (mirrored m) (status_of fresh)
unfolding votes_by has
mirrored_whole m = record {
  valid = valid m;
  group = record { id = refl; rows = λ disk. refl };
  whole = none_missing false;
  votes = refl;
}

pub each_mode_begins : EachModeBegins
each_mode_begins m homes room p fits its =
    whole_groups_begin faultless no_log third_stamp homes room (mirrored m) (status_of fresh) p fits its (mirrored_whole m)
    (record { lit = record { power = refl; freed = refl }; idle = refl; placed = placed m (status_of fresh) })
    (record { ordered = tt; landed = λ id. refl; few = omega arith }) (omega arith)
