-- What the code judges of copies is what the state sees of them.
use Rattle.std.proofs.Common.{◌≡◌, inl, inr, ⊎_elim, eqb-true, ℕ, ◌+◌, ◌*◌, ◌/◌, ◌%◌, ◌<◌, ◌≤◌, Bool, true, false, ◌&&◌, ◌||◌, ◌==◌, not, List, [], ◌∷◌, Option, Some, None, refl, sym, ap, subst, ◌∙◌, arith}
use Rattle.std.specs.Prelude.{IfSome, IsTrue, find, slice_get, ◌-◌, if◌then◌else◌, nat_le, nat_lt, unwrap_or}
use Rattle.std.specs.List.{list_any}
use Rattle.std.specs.Option.{option_map, option_map_or}
use Rattle.std.proofs.Math.Bool.{not-not}
use Rattle.std.proofs.lemmas.Bool.{and_parts}
use Rattle.std.proofs.lemmas.Bool.Decides.{nat_tests}
use Rattle.lvm_num.specs.declared.place.Pp.{Pp}
use Rattle.lvm_num.specs.declared.descriptor.PvRow.{PvRow}
use Rattle.lvm_num.specs.declared.descriptor.LvRow.{LvRow}
use Rattle.lvm_num.specs.declared.descriptor.Descriptor.{Descriptor}
use Rattle.lvm_num.specs.declared.status.Status.{Status}
use Rattle.lvm_num.specs.Disks.{Disks}
use Rattle.lvm_num.specs.Descriptor.{IsValid, copies_of, is_member, volume_of, is_pp}
use Rattle.lvm_num.specs.Geometry.{partition_blocks, partition_of, track_group_of, sector_of, volume_blocks}
use Rattle.lvm_num.specs.Record.{Stamped}
use Rattle.lvm_num.specs.Status.{calls_stale, calls_missing}
use Rattle.lvm_num.proofs.Lists.{all_at}
use Rattle.lvm_num.proofs.AmongLemmas.{one_at}
use Rattle.lvm_num.proofs.Booleans.{clash_gives}
use Rattle.lvm_vol.specs.Facts.{Fact}
use Rattle.lvm_disk.specs.Device.{image_of}
use Rattle.lvm_map.proofs.Parts.{parts, whole}
use Rattle.lvm_map.proofs.PlacesLemmas.{mib_positive, volume_at, lp_below}
use Rattle.lvm_map.proofs.LawsLemmas.OneToOne.{is_data}
use Rattle.lvm_map.specs.Places.{place_on}
use Rattle.lvm_kept.specs.Contents.{contents_of}
use Rattle.lvm_kept.specs.Group.{IsBlockOf, IsOneOf}
use Rattle.lvm_kept.proofs.ChangesLemmas.Entries.{volume_is_row}
use Rattle.lvm_path.specs.declared.ask.Ask.{Ask}
use Rattle.lvm_path.specs.declared.target.Target.{Target}
use Rattle.lvm_path.specs.Asks.{lv_of, at_of, count_of}
use Rattle.lvm_session.specs.declared.open.Open.{Open}
use Rattle.lvm_session.specs.declared.bringing.OpenCopy.{OpenCopy}
use Rattle.lvm_session.specs.State.{Core, State, is_there}
use Rattle.lvm_session.specs.Judging.{copies_in, copies_for, group_in, is_usable, is_stale, is_missing, is_wanted_stale, is_settled, is_running, is_caught, is_waiting, is_beside_copy, destinations_for, destinations_if, IsWithinVolume}
use Rattle.lvm_session.specs.Bringing.{groups_of, is_whole}
use Rattle.lvm_invariant.specs.State.{Marks, ModelCopy, ModelState, is_usable as sees_usable, is_settled_stale, stale_in, HasPassed, Beside}
use Rattle.lvm_crash.specs.Session.{as_marks, IsPlaceOf, is_beside}
use Rattle.lvm_even.specs.Members.{members_showing}
use Rattle.lvm_crash.proofs.CopiesLemmas.{copy_placed, one_block}
use Rattle.lvm_crash.proofs.WritingLemmas.{pp_same, same_pp}
use Rattle.lvm_crash.specs.Copies.{IsCopyOf}
use Rattle.lvm_tie.proofs.TiedLemmas.Orderly.{open_one, valid_of, waiting_one}
use Rattle.lvm_tie.specs.Seen.{its_blocks, passed_by, SeesOpen, SeesRunning, SeesCopy}
use Rattle.lvm_tie.specs.Tied.{IsTied}
use Rattle.lvm_session.specs.Marks.{is_among}
use Rattle.lvm_session.specs.Requests.{IsAimed, IsTarget}
use Rattle.lvm_session.specs.Sound.{IsCopy}
use Rattle.lvm_session.proofs.MovesLemmas.{move_of, place_open, stale_of}
use Rattle.lvm_tie.proofs.SeenLemmas.Beside.{beside_destination, beside_stale, copy_apart, copy_its, copy_plain, copy_seen, destination_beside, moving_beside, none_beside, stale_apart, stale_so}
use Rattle.lvm_write.proofs.NextLemmas.{copy_is_placed, is_member_of}

pub found_any : (rows : List PvRow) (disk : ℕ) (row : PvRow) → find (λ (r : PvRow). r.disk == disk) rows ≡ Some row → list_any (λ (r : PvRow). r.disk == disk) rows ≡ true
found_any [] disk row is = absurd cc
found_any (r ∷ rs) disk row is = by (r.disk == disk) refl is (found_any rs disk row)
  where
    by : (b : Bool) → (r.disk == disk) ≡ b → (if b then Some r else find (λ (x : PvRow). x.disk == disk) rs) ≡ Some row → (find (λ (x : PvRow). x.disk == disk) rs ≡ Some row → list_any (λ (x : PvRow). x.disk == disk) rs ≡ true)
        → (b || list_any (λ (x : PvRow). x.disk == disk) rs) ≡ true
    by true test here rest = refl
    by false test there rest = rest there

pub among_one : (ps : List Pp) (p : Pp) → is_among ps p ≡ true → IsOneOf ps p
among_one [] p is = absurd (cc is)
among_one (q ∷ ps) p is = by (is_pp p q) refl is (among_one ps p)
  where
    by : (b : Bool) → is_pp p q ≡ b → b || is_among ps p ≡ true → (is_among ps p ≡ true → IsOneOf ps p) → IsOneOf (q ∷ ps) p
    by true same h rest = inl (pp_same p q same)
    by false same h rest = inr (rest h)

-- the logical partition of the open copy, of which it is a copy unless it moves
pub record IsOfItsPartition (core : Core) (c : OpenCopy) : Type 0 where
  pub row : LvRow
  pub volume : volume_of core.descriptor c.lv ≡ Some row
  pub lp : c.lp < row.lps
  pub among : c.moves ≡ false → IsOneOf (copies_of row c.lp) c.pp
  pub cursor : c.cursor ≤ groups_of core

pub its_partition : (core : Core) (c : OpenCopy) → IsCopy core c → IsOfItsPartition core c
its_partition core c its = record { row = its.row; volume = its.volume; lp = its.lp; among = λ stays. by (c.copy == 0) (stale_of core c its stays).its; cursor = its.cursor }
  where
    by : (b : Bool) → (if b then None else slice_get (copies_in core.descriptor c.lv c.lp) (c.copy - 1)) ≡ Some c.pp → IsOneOf (copies_of its.row c.lp) c.pp
    by true there = absurd (cc there)
    by false there = one_at (copies_of its.row c.lp) (c.copy - 1) c.pp (sym (ap (λ (o : Option LvRow). slice_get (option_map_or (λ (row : LvRow). copies_of row c.lp) o []) (c.copy - 1)) its.volume) ∙ there)

module _ (past : List Fact) (s : State) (tied : IsTied past s) where
  abbrev v : ModelState
  v = tied.view

  abbrev core : Core
  core = s.core

  abbrev group : Descriptor
  group = core.descriptor

  abbrev members : Disks
  members = members_showing (contents_of (image_of s.device.sizes tied.media)) group

  -- what is stale is seen so, and so is what isn't, unless it is the partition beside
  pub stale_there : (p : Pp) → is_stale core p ≡ true → IsTrue (v.committed.value.stale p)
  stale_there p stale = ap (λ (m : Marks). m.stale p) tied.sees.status.committed ∙ stale_so v.beside core.status.committed p stale

  pub stale_seen : (p : Pp) → is_beside v.beside p ≡ false → v.committed.value.stale p ≡ is_stale core p
  stale_seen p off = ap (λ (m : Marks). m.stale p) tied.sees.status.committed ∙ stale_apart v.beside core.status.committed p off

  pub wanted_there : (p : Pp) → is_wanted_stale core p ≡ true → IsTrue (v.wanted.stale p)
  wanted_there p stale = ap (λ (m : Marks). m.stale p) tied.sees.status.wanted ∙ stale_so v.beside core.status.wanted p stale

  pub wanted_seen : (p : Pp) → is_beside v.beside p ≡ false → v.wanted.stale p ≡ is_wanted_stale core p
  wanted_seen p off = ap (λ (m : Marks). m.stale p) tied.sees.status.wanted ∙ stale_apart v.beside core.status.wanted p off

  -- the partition beside counts as stale by each
  pub beside_is_stale : (p : Pp) → IsTrue (is_beside v.beside p) → IsTrue (v.committed.value.stale p)
  beside_is_stale p is = ap (λ (m : Marks). m.stale p) tied.sees.status.committed ∙ beside_stale v.beside core.status.committed p is

  pub beside_is_wanted : (p : Pp) → IsTrue (is_beside v.beside p) → IsTrue (v.wanted.stale p)
  beside_is_wanted p is = ap (λ (m : Marks). m.stale p) tied.sees.status.wanted ∙ beside_stale v.beside core.status.wanted p is

  pub missing_seen : (disk : ℕ) → is_member group disk ≡ true → v.missing disk ≡ is_missing core disk
  missing_seen disk member = tied.sees.status.missing disk ∙ ap (λ b. not (b && not (is_missing core disk))) member ∙ not-not (is_missing core disk)

  pub usable_seen : (p : Pp) → is_beside v.beside p ≡ false → is_member group p.disk ≡ true → sees_usable v p ≡ is_usable core p
  usable_seen p off member = let a = stale_seen p off in let b = missing_seen p.disk member in λ t. not (a t) && not (b t)

  -- settled by both statuses
  pub settled_seen : (p : Pp) → is_settled core p ≡ true → IsTrue (is_settled_stale v p)
  settled_seen p settled =
      let both = and_parts (calls_stale core.status.committed p) (calls_stale (unwrap_or core.status.in_flight core.status.committed) p) settled in
      let flies = ap (λ (o : Option (Stamped Marks)). stale_in o p) tied.sees.status.in_flight ∙ by core.status.in_flight both.1 in
      let stale = stale_there p both.0 in
      λ t. stale t && flies t
    where
      by : (u : Option Status) → calls_stale (unwrap_or u core.status.committed) p ≡ true → stale_in (option_map (as_marks v.beside) (option_map (λ (t : Status). let r : Stamped Status = record { stamp = core.status.stamp; value = t } in r) u)) p ≡ true
      by None stale = refl
      by (Some u) stale = stale_so v.beside u p stale

  pub beside_settled : (p : Pp) → IsTrue (is_beside v.beside p) → IsTrue (is_settled_stale v p)
  beside_settled p is =
      let flies = ap (λ (o : Option (Stamped Marks)). stale_in o p) tied.sees.status.in_flight ∙ by core.status.in_flight in
      let stale = beside_is_stale p is in
      λ t. stale t && flies t
    where
      by : (u : Option Status) → stale_in (option_map (as_marks v.beside) (option_map (λ (t : Status). let r : Stamped Status = record { stamp = core.status.stamp; value = t } in r) u)) p ≡ true
      by None = refl
      by (Some u) = beside_stale v.beside u p is

  -- the copy that is open
  pub copy_is : (c : OpenCopy) → core.copy ≡ Some c → IsCopy core c
  copy_is c is = subst (λ (m : Option OpenCopy). IfSome m (IsCopy core)) is (tied.orderly.sound.on tied.orderly.on).going.copy

  pub of_its : (c : OpenCopy) → core.copy ≡ Some c → IsOfItsPartition core c
  of_its c is = its_partition core c (copy_is c is)

  -- it is on a member
  pub its_member : (c : OpenCopy) → core.copy ≡ Some c → is_member group c.pp.disk ≡ true
  its_member c is = by c.moves refl
    where
      by : (b : Bool) → c.moves ≡ b → is_member group c.pp.disk ≡ true
      by true moves = let m = move_of core c (copy_is c is) moves in found_any group.pvs c.pp.disk m.member m.member_is
      by false stays =
          let its = of_its c is in
          is_member_of group c.pp (copy_is_placed group (valid_of s tied.write tied.orderly) its.row c.lp c.pp (volume_is_row group c.lv its.row its.volume) (its.among stays))

  -- where its disk wasn't missing at first it is a copy of each block of its logical partition, also the destination of a move
  pub its_copy : (c : OpenCopy) → core.copy ≡ Some c → (its : IsOfItsPartition core c) → calls_missing core.origin.table c.pp.disk ≡ false → (b : ℕ) → IsBlockOf group.mib its.row c.lp b → IsTrue (v.is_copy its.row.number b c.pp)
  its_copy c is its there b inside = by c.moves refl
    where
      one : IsOneOf group.lvs its.row
      one = volume_is_row group c.lv its.row its.volume

      shown : IsTrue (members c.pp.disk)
      shown = tied.recorded.members c.pp.disk (its_member c is) there

      its_block : IsTrue (its_blocks core c its.row.number b)
      its_block =
          let number : its.row.number ≡ c.lv = (volume_at group c.lv its.row its.volume).its in
          let lp : partition_of group.mib b ≡ c.lp = inside.partition in
          let same_lv : (its.row.number == c.lv) ≡ true = grind (arith, nat_tests) in
          let same_lp : (partition_of group.mib b == c.lp) ≡ true = grind (arith, nat_tests) in
          λ t. same_lv t && same_lp t

      by : (m : Bool) → c.moves ≡ m → IsTrue (v.is_copy its.row.number b c.pp)
      by false stays = copy_seen tied.describes.volumes its.row c.lp b c.pp one inside (its.among stays) shown
      by true moves = (tied.describes.volumes.copies its.row c.lp b c.pp one inside).1
          (subst (λ (o : Option Beside). IsPlaceOf o its.row c.lp b c.pp) (sym (moving_beside core c v.beside tied.sees.beside is moves)) (inr (refl, its_block)), shown)

  -- until it is whole it counts as stale by what is committed and what is wanted
  pub part_stale : (c : OpenCopy) → core.copy ≡ Some c → is_running c ≡ true → is_whole core c ≡ false → IsTrue (v.committed.value.stale c.pp) × IsTrue (v.wanted.stale c.pp)
  part_stale c is runs part = by c.moves refl
    where
      by : (b : Bool) → c.moves ≡ b → IsTrue (v.committed.value.stale c.pp) × IsTrue (v.wanted.stale c.pp)
      by true moves = let beside = destination_beside core c v.beside tied.sees.beside is moves in (beside_is_stale c.pp beside, beside_is_wanted c.pp beside)
      by false stays =
          let own = (stale_of core c (copy_is c is) stays).stale runs part in
          (stale_there c.pp (and_parts (is_stale core c.pp) (calls_stale (unwrap_or core.status.in_flight core.status.committed) c.pp) own.0).0, wanted_there c.pp own.1)

  -- then by what is committed
  pub whole_stale : (c : OpenCopy) → core.copy ≡ Some c → is_running c ≡ true → is_whole core c ≡ true → IsTrue (v.committed.value.stale c.pp)
  whole_stale c is runs all = by c.moves refl
    where
      by : (b : Bool) → c.moves ≡ b → IsTrue (v.committed.value.stale c.pp)
      by true moves = beside_is_stale c.pp (destination_beside core c v.beside tied.sees.beside is moves)
      by false stays = stale_there c.pp ((stale_of core c (copy_is c is) stays).clearing runs all).0

  -- each block of which it is a copy is one of its logical partition
  pub its_only : (c : OpenCopy) → core.copy ≡ Some c → (lv b : ℕ) → IsTrue (v.is_copy lv b c.pp) → (lv ≡ c.lv) × (partition_of group.mib b ≡ c.lp)
  its_only c is lv b copy = by c.moves refl
    where
      valid : IsValid group
      valid = valid_of s tied.write tied.orderly

      by : (m : Bool) → c.moves ≡ m → (lv ≡ c.lv) × (partition_of group.mib b ≡ c.lp)
      by false stays =
          let its = of_its c is in
          let size = partition_blocks group.mib in
          let some = mib_positive group valid in
          let low : b % size < size = omega arith in
          let b2 : ℕ = c.lp * size + b % size in
          let of_b = parts size b2 c.lp (b % size) low refl in
          let other : IsCopyOf group c.lv b2 c.pp = record {
            row = its.row;
            lp = c.lp;
            volume = volume_is_row group c.lv its.row its.volume;
            number = (volume_at group c.lv its.row its.volume).its;
            inside = record { inside = its.lp; partition = of_b.0 };
            copy = its.among stays;
          } in
          let mine = copy_plain tied.describes.volumes lv b c.pp (ap (λ (o : Option Beside). is_beside o c.pp) (none_beside core c v.beside tied.sees.beside is stays)) copy in
          let sector : sector_of group.mib c.pp.pp b ≡ sector_of group.mib c.pp.pp b2 = (let r = of_b.1 in omega (arith, r)) in
          let one = one_block group lv b c.lv b2 c.pp c.pp valid mine other refl sector in
          (one.volume, ap (partition_of group.mib) one.block ∙ of_b.0)
      by true moves =
          let inside = tied.describes.volumes.inside lv b c.pp copy in
          let own : IsTrue (v.is_copy inside.row.number b c.pp) = subst (λ (n : ℕ). IsTrue (v.is_copy n b c.pp)) (sym inside.number) copy in
          let beside = moving_beside core c v.beside tied.sees.beside is moves in
          let place = subst (λ (o : Option Beside). IsPlaceOf o inside.row inside.lp b c.pp) beside ((tied.describes.volumes.copies inside.row inside.lp b c.pp inside.volume inside.inside).0 own).0 in
          of inside.row.number inside.number (⊎_elim
          (λ (one : IsOneOf (copies_of inside.row inside.lp) c.pp). absurd ((tied.describes.volumes.free (record { place = c.pp; its = its_blocks core c }) beside).free inside.row inside.lp inside.volume inside.inside.inside one))
          (λ (its : (c.pp ≡ c.pp) × IsTrue (its_blocks core c inside.row.number b)). its.1)
          place)
        where
          of : (n : ℕ) → n ≡ lv → IsTrue (its_blocks core c n b) → (lv ≡ c.lv) × (partition_of group.mib b ≡ c.lp)
          of n number its = let both = and_parts (n == c.lv) (partition_of group.mib b == c.lp) its in (sym number ∙ eqb-true n c.lv both.0, eqb-true (partition_of group.mib b) c.lp both.1)

  -- a disk that isn't missing wasn't when the session began
  pub there_first : (disk : ℕ) → is_missing core disk ≡ false → calls_missing core.origin.table disk ≡ false
  there_first disk there = by (calls_missing core.origin.table disk) refl
    where
      by : (b : Bool) → calls_missing core.origin.table disk ≡ b → b ≡ false
      by false is = refl
      by true is = sym (tied.orderly.sound.origin.still_missing disk is) ∙ there

  -- a member that isn't missing is there
  pub there_of : (disk : ℕ) → is_member group disk ≡ true → is_missing core disk ≡ false → IsTrue (is_there core disk)
  there_of disk member there = λ t. member t && not (there t)

  module _ (ask : Ask) (inside : IsWithinVolume group ask) where
    abbrev lp : ℕ
    lp = partition_of group.mib (at_of ask)

    row_one : IsOneOf group.lvs inside.row
    row_one = volume_is_row group (lv_of ask) inside.row inside.volume

    row_number : inside.row.number ≡ lv_of ask
    row_number = (volume_at group (lv_of ask) inside.row inside.volume).its

    copies_are : copies_for core ask ≡ copies_of inside.row lp
    copies_are = ap (λ (o : Option LvRow). option_map_or (λ (row : LvRow). copies_of row lp) o []) inside.volume

    some : 1 ≤ group.mib
    some = mib_positive group (valid_of s tied.write tied.orderly)

    lp_inside : lp < inside.row.lps
    lp_inside = lp_below group.mib inside.row.lps (at_of ask) some (let a : at_of ask + count_of ask ≤ volume_blocks group.mib inside.row.lps = inside.within in let b : 1 ≤ count_of ask = inside.some in omega arith)

    block : IsBlockOf group.mib inside.row lp (at_of ask)
    block = record { inside = lp_inside; partition = refl }

    pub copy_is_one : (p : Pp) → is_beside v.beside p ≡ false → IsTrue (v.is_copy (lv_of ask) (at_of ask) p) → IsOneOf (copies_for core ask) p
    copy_is_one p off copy = subst (λ (ps : List Pp). IsOneOf ps p) (sym copies_are) (copy_its tied.describes.volumes inside.row lp (at_of ask) p row_one block off (subst (λ n. IsTrue (v.is_copy n (at_of ask) p)) (sym row_number) copy))

    pub one_is_copy : (p : Pp) → IsOneOf (copies_for core ask) p → IsTrue (members p.disk) → IsTrue (v.is_copy (lv_of ask) (at_of ask) p)
    one_is_copy p one member = subst (λ n. IsTrue (v.is_copy n (at_of ask) p)) row_number (copy_seen tied.describes.volumes inside.row lp (at_of ask) p row_one block (subst (λ (ps : List Pp). IsOneOf ps p) copies_are one) member)

    -- a copy of the group isn't the partition beside
    pub one_apart : (p : Pp) → IsOneOf (copies_for core ask) p → is_beside v.beside p ≡ false
    one_apart p one = copy_apart tied.describes.volumes inside.row lp p row_one lp_inside (subst (λ (ps : List Pp). IsOneOf ps p) copies_are one)

    of_group : (p : Pp) → IsOneOf (copies_for core ask) p → IsCopyOf group (lv_of ask) (at_of ask) p
    of_group p one = record { row = inside.row; lp = lp; volume = row_one; number = row_number; inside = block; copy = subst (λ (ps : List Pp). IsOneOf ps p) copies_are one }

    pub on_member : (p : Pp) → IsOneOf (copies_for core ask) p → is_member group p.disk ≡ true
    on_member p one =
        let place = copy_placed group (lv_of ask) (at_of ask) p (valid_of s tied.write tied.orderly) (of_group p one) in
        let its = is_data group (valid_of s tied.write tied.orderly) (lv_of ask) place.0 (at_of ask) (place_on group.mib p (at_of ask)) place.1 in
        found_any group.pvs p.disk its.row its.member

    -- a copy on a disk that isn't missing is one that the state sees
    pub there_is_copy : (p : Pp) → IsOneOf (copies_for core ask) p → is_missing core p.disk ≡ false → IsTrue (v.is_copy (lv_of ask) (at_of ask) p)
    there_is_copy p one there = one_is_copy p one (tied.recorded.members p.disk (on_member p one) (there_first p.disk there))

    pub usable_one : (p : Pp) → IsOneOf (copies_for core ask) p → sees_usable v p ≡ is_usable core p
    usable_one p one = usable_seen p (one_apart p one) (on_member p one)

    -- its track group, counted in its volume
    groups : groups_of core ≡ 8 * group.mib
    groups = omega arith

    group_at : track_group_of (at_of ask) ≡ groups_of core * lp + group_in core ask
    group_at =
        let size = partition_blocks group.mib in
        let all : at_of ask / size * size + at_of ask % size ≡ at_of ask = whole size (at_of ask) (omega arith) in
        let product : groups_of core * lp ≡ 8 * group.mib * lp = ap (λ n. n * lp) groups in
        omega (arith, all, product)

    group_low : group_in core ask < groups_of core
    group_low = let size = partition_blocks group.mib in let rest : at_of ask % size < size = omega arith in omega (arith, rest, groups)

    -- a copy of the request that is the one which is being brought up is of the same logical partition
    pub record IsBeside (c : OpenCopy) : Type 0 where
      pub lv : lv_of ask ≡ c.lv
      pub same_lp : lp ≡ c.lp

    -- so it is where the copy doesn't move
    beside_stays : (c : OpenCopy) (p : Pp) → IsOfItsPartition core c → c.moves ≡ false → IsOneOf (copies_for core ask) p → p ≡ c.pp → IsBeside c
    beside_stays c p its stays one same =
        let size = partition_blocks group.mib in
        let b : ℕ = c.lp * size + at_of ask % size in
        let rest : at_of ask % size < size = omega arith in
        let of_b = parts size b c.lp (at_of ask % size) rest refl in
        let other : IsCopyOf group c.lv b c.pp = record {
          row = its.row;
          lp = c.lp;
          volume = volume_is_row group c.lv its.row its.volume;
          number = (volume_at group c.lv its.row its.volume).its;
          inside = record { inside = its.lp; partition = of_b.0 };
          copy = its.among stays;
        } in
        let sector : sector_of group.mib p.pp (at_of ask) ≡ sector_of group.mib c.pp.pp b = let pp : p.pp ≡ c.pp.pp = ap (λ (x : Pp). x.pp) same in let e = of_b.1 in let product : size * p.pp ≡ size * c.pp.pp = ap (λ n. size * n) pp in omega (arith, product, e) in
        let one_is = one_block group (lv_of ask) (at_of ask) c.lv b p c.pp (valid_of s tied.write tied.orderly) (of_group p one) other (ap (λ (x : Pp). x.disk) same) sector in
        record { lv = one_is.volume; same_lp = ap (partition_of group.mib) one_is.block ∙ of_b.0 }

    -- the open copy is of the logical partition of the request, where its partition is one of the copies of that (it doesn't move then)
    pub one_beside : (p : Pp) → IsOneOf (copies_for core ask) p → (c : OpenCopy) → core.copy ≡ Some c → p ≡ c.pp → IsBeside c
    one_beside p one c is same = by c.moves refl
      where
        by : (b : Bool) → c.moves ≡ b → IsBeside c
        by false stays = beside_stays c p (of_its c is) stays one same
        by true moves = clash_gives (is_beside v.beside c.pp) (destination_beside core c v.beside tied.sees.beside is moves) (ap (is_beside v.beside) (sym same) ∙ one_apart p one)

    -- or where it is the destination of a move of one
    of_beside : (c : OpenCopy) → is_beside_copy core ask c ≡ true → IsBeside c
    of_beside c is =
        let both = and_parts (lv_of ask == c.lv) (lp == c.lp) is in
        record { lv = eqb-true (lv_of ask) c.lv both.0; same_lp = eqb-true lp c.lp both.1 }

    pub destination_beside_it : (p : Pp) → is_among (destinations_for core ask) p ≡ true → (c : OpenCopy) → core.copy ≡ Some c → p ≡ c.pp → IsBeside c
    destination_beside_it p among c is same =
        let at = place_open core ask p among in
        subst IsBeside (let e : Some at.copy ≡ Some c = sym at.is_open ∙ is in cc) (of_beside at.copy at.beside)

    -- so it is a copy of the request's block
    pub destination_is_copy : (p : Pp) → is_among (destinations_for core ask) p ≡ true → calls_missing core.origin.table p.disk ≡ false → IsTrue (v.is_copy (lv_of ask) (at_of ask) p)
    destination_is_copy p among there =
        let at = place_open core ask p among in
        let c : OpenCopy = at.copy in
        let its = of_its c at.is_open in
        let beside = of_beside c at.beside in
        let copy = its_copy c at.is_open its (ap (λ (q : Pp). calls_missing core.origin.table q.disk) (sym at.is) ∙ there) (at_of ask) (record { inside = its.lp; partition = beside.same_lp }) in
        subst (λ (q : Pp). IsTrue (v.is_copy (lv_of ask) (at_of ask) q)) (sym at.is)
        (subst (λ n. IsTrue (v.is_copy n (at_of ask) c.pp)) ((volume_at group c.lv its.row its.volume).its ∙ sym beside.lv) copy)

    -- the partition beside is the destination of a move of its logical partition, where it is a copy of the request's block
    pub copy_destination : (p : Pp) → IsTrue (is_beside v.beside p) → IsTrue (v.is_copy (lv_of ask) (at_of ask) p) → IsOneOf (destinations_for core ask) p
    copy_destination p is copy =
        let d = beside_destination core v.beside p tied.sees.beside is in
        let c : OpenCopy = d.copy in
        let only = its_only c d.is_open (lv_of ask) (at_of ask) (ap (v.is_copy (lv_of ask) (at_of ask)) (sym d.is) ∙ copy) in
        let same_lv : (lv_of ask == c.lv) ≡ true = (let e = only.0 in grind (arith, nat_tests)) in
        let same_lp : (lp == c.lp) ≡ true = (let e : lp ≡ c.lp = only.1 in grind (arith, nat_tests)) in
        let beside : is_beside_copy core ask c ≡ true = (λ t. same_lv t && same_lp t) in
        let moves = d.moves in
        let are : destinations_for core ask ≡ c.pp ∷ [] = ap (λ (m : Option OpenCopy). option_map_or (λ (x : OpenCopy). destinations_if (x.moves && is_beside_copy core ask x) x) m []) d.is_open ∙ (λ t. destinations_if (moves t && beside t) c) in
        subst (λ (ps : List Pp). IsOneOf ps p) (sym are) (inl d.is)

    -- each target of the request is one
    pub target_is_copy : (t : Target) → IsTarget core ask t → IsTrue (v.is_copy (lv_of ask) (at_of ask) t.pp)
    target_is_copy t its = by t.moves its.copy
      where
        by : (b : Bool) → IsAimed b core ask t → IsTrue (v.is_copy (lv_of ask) (at_of ask) t.pp)
        by false among = let one = among_one (copies_for core ask) t.pp among in one_is_copy t.pp one (tied.recorded.members t.pp.disk (on_member t.pp one) its.there)
        by true aimed = destination_is_copy t.pp aimed.0 its.there

    -- and on a member
    pub target_member : (t : Target) → IsTarget core ask t → is_member group t.pp.disk ≡ true
    target_member t its = by t.moves its.copy
      where
        by : (b : Bool) → IsAimed b core ask t → is_member group t.pp.disk ≡ true
        by false among = on_member t.pp (among_one (copies_for core ask) t.pp among)
        by true aimed = let at = place_open core ask t.pp aimed.0 in ap (λ (p : Pp). is_member group p.disk) at.is ∙ its_member at.copy at.is_open

    pub target_beside : (t : Target) → IsTarget core ask t → (c : OpenCopy) → core.copy ≡ Some c → t.pp ≡ c.pp → IsBeside c
    target_beside t its = by t.moves its.copy
      where
        by : (b : Bool) → IsAimed b core ask t → (c : OpenCopy) → core.copy ≡ Some c → t.pp ≡ c.pp → IsBeside c
        by false among = one_beside t.pp (among_one (copies_for core ask) t.pp among)
        by true aimed = destination_beside_it t.pp aimed.0

    pub caught_passed : (p : Pp) → ((c : OpenCopy) → core.copy ≡ Some c → p ≡ c.pp → IsBeside c) → is_caught core (group_in core ask) p ≡ true → HasPassed v (lv_of ask) (track_group_of (at_of ask)) p
    caught_passed p beside caught = by core.copy refl caught
      where
        by : (o : Option OpenCopy) → core.copy ≡ o → option_map_or (λ (c : OpenCopy). is_running c && is_pp p c.pp && nat_lt (group_in core ask) c.cursor) o false ≡ true → HasPassed v (lv_of ask) (track_group_of (at_of ask)) p
        by None is test = absurd cc
        by (Some c) is test =
            let outer = and_parts (is_running c && is_pp p c.pp) (nat_lt (group_in core ask) c.cursor) test in
            let inner = and_parts (is_running c) (is_pp p c.pp) outer.0 in
            let same : p ≡ c.pp = pp_same p c.pp inner.1 in
            let below : group_in core ask < c.cursor = let h : nat_lt (group_in core ask) c.cursor ≡ true = outer.1 in grind (arith, nat_tests) in
            let sees : SeesOpen (groups_of core) c v.open_copy = subst (λ (b : Bool). SeesRunning b (groups_of core) c v.open_copy) inner.0 (subst (λ (x : Option OpenCopy). SeesCopy (groups_of core) x v.open_copy) is tied.sees.open_copy) in
            let its = beside c is same in
            let product : groups_of core * lp ≡ groups_of core * c.lp = ap (λ n. groups_of core * n) its.same_lp in
            let lv : (lv_of ask == c.lv) ≡ true = let e = its.lv in grind (arith, nat_tests) in
            let g = group_at in
            let low : nat_le (groups_of core * c.lp) (track_group_of (at_of ask)) ≡ true = let le : groups_of core * c.lp ≤ track_group_of (at_of ask) = omega (arith, g, product) in grind (arith, nat_tests) in
            let high : nat_lt (track_group_of (at_of ask)) (groups_of core * c.lp + c.cursor) ≡ true = let lt : track_group_of (at_of ask) < groups_of core * c.lp + c.cursor = omega (arith, g, product, below) in grind (arith, nat_tests) in
            record {
              copy = sees.copy;
              is_open = sees.is_open;
              target = sees.target ∙ sym same;
              passed = sees.passed (lv_of ask) (track_group_of (at_of ask)) ∙ (λ t. lv t && low t && high t);
            }

    pub passed_caught : (p : Pp) → ((c : OpenCopy) → core.copy ≡ Some c → p ≡ c.pp → IsBeside c) → HasPassed v (lv_of ask) (track_group_of (at_of ask)) p → is_caught core (group_in core ask) p ≡ true
    passed_caught p beside passed = ap (λ (o : Option OpenCopy). option_map_or (λ (c : OpenCopy). is_running c && is_pp p c.pp && nat_lt (group_in core ask) c.cursor) o false) refl ∙ by core.copy refl tied.sees.open_copy
      where
        running : (c : OpenCopy) → core.copy ≡ Some c → (b : Bool) → is_running c ≡ b → SeesRunning b (groups_of core) c v.open_copy → (is_running c && is_pp p c.pp && nat_lt (group_in core ask) c.cursor) ≡ true
        running c is false test none = absurd (let e : Some passed.copy ≡ None = sym passed.is_open ∙ none in cc)
        running c is true test sees =
            let open_same : passed.copy ≡ sees.copy = let e : Some passed.copy ≡ Some sees.copy = sym passed.is_open ∙ sees.is_open in cc in
            let same : p ≡ c.pp = sym passed.target ∙ ap (λ (x : ModelCopy). x.target) open_same ∙ sees.target in
            let its = beside c is same in
            let by_cursor : IsTrue (passed_by (groups_of core) c (lv_of ask) (track_group_of (at_of ask))) = sym (sees.passed (lv_of ask) (track_group_of (at_of ask))) ∙ ap (λ (x : ModelCopy). x.passed (lv_of ask) (track_group_of (at_of ask))) (sym open_same) ∙ passed.passed in
            let outer = and_parts ((lv_of ask == c.lv) && nat_le (groups_of core * c.lp) (track_group_of (at_of ask))) (nat_lt (track_group_of (at_of ask)) (groups_of core * c.lp + c.cursor)) by_cursor in
            let lt : track_group_of (at_of ask) < groups_of core * c.lp + c.cursor = let h : nat_lt (track_group_of (at_of ask)) (groups_of core * c.lp + c.cursor) ≡ true = outer.1 in grind (arith, nat_tests) in
            let product : groups_of core * lp ≡ groups_of core * c.lp = ap (λ n. groups_of core * n) its.same_lp in
            let g = group_at in
            let below : nat_lt (group_in core ask) c.cursor ≡ true = let h : group_in core ask < c.cursor = omega (arith, g, product, lt) in grind (arith, nat_tests) in
            λ t. test t && same_pp p c.pp same t && below t

        by : (o : Option OpenCopy) → core.copy ≡ o → SeesCopy (groups_of core) o v.open_copy → option_map_or (λ (c : OpenCopy). is_running c && is_pp p c.pp && nat_lt (group_in core ask) c.cursor) o false ≡ true
        by None is none = absurd (let e : Some passed.copy ≡ None = sym passed.is_open ∙ none in cc)
        by (Some c) is sees = running c is (is_running c) refl sees

  -- each target of a request that hasn't landed is a copy that the state sees
  pub aimed_of : (place number : ℕ) (o : Open) (t : Target) → slice_get core.requests place ≡ Some o → is_waiting o ≡ true → slice_get o.request.targets.items number ≡ Some t
      → IsTrue (v.is_copy (lv_of o.request.ask) (at_of o.request.ask) t.pp)
  aimed_of place number o t there waits at =
      target_is_copy o.request.ask (open_one s tied.write tied.orderly place o there).laid.within t
      (all_at (IsTarget core o.request.ask) o.request.targets.items number t (waiting_one s tied.write tied.orderly place o there waits).shape.targets at)
