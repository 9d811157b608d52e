-- What is known of the partition that is chosen for a copy.
use Rattle.std.proofs.Common.{◌≡◌, ◌≢◌, inl, inr, ℕ, ◌*◌, ◌-◌, ◌<◌, ◌≤◌, Bool, true, false, ◌&&◌, ◌||◌, not, List, [], ◌∷◌, drop, map, Option, None, Some, if◌then◌else◌, refl, sym, ap, ◌∙◌, arith}
use Rattle.std.specs.Prelude.{◌==◌, nat_lt, find, is_some, Ok, Err, Result}
use Rattle.std.specs.List.{list_any, range_with_len}
use Rattle.std.specs.Option.{option_map_or}
use Rattle.std.proofs.lemmas.Bool.{and_parts, lt-ltb, ne_eqb}
use Rattle.std.proofs.lemmas.Option.{slice_get_within}
use Rattle.std.proofs.lemmas.List.{length-take}
use Rattle.lvm_num.specs.Among.{IsOneOf}
use Rattle.lvm_num.specs.declared.place.Pp.{Pp}
use Rattle.lvm_num.specs.declared.descriptor.PvRow.{PvRow}
use Rattle.lvm_num.specs.declared.descriptor.LvRow.{LvRow}
use Rattle.lvm_num.specs.declared.descriptor.Descriptor.{Descriptor}
use Rattle.lvm_num.specs.Descriptor.{IsValid, copies_of, is_member, member_of, partitions_used, volume_of}
use Rattle.lvm_num.proofs.AmongLemmas.{of_range, one_any}
use Rattle.lvm_num.proofs.Booleans.{same_itself}
use Rattle.lvm_map.specs.FirstFit.{has_partition_on, is_among, partitions_of}
use Rattle.lvm_moved.specs.Moved.{MayStandOn}
use Rattle.lvm_session.specs.declared.answers.OpenFault.TheVariants as denial
use Rattle.lvm_session.specs.declared.open.Power.{Power}
use Rattle.lvm_session.specs.declared.open.Power.TheVariants as power
use Rattle.lvm_session.specs.Calls.{has_numbers, is_in_use, move_fault_on, move_fault_when}
use Rattle.lvm_session.specs.Judging.{is_missing, is_usable}
use Rattle.lvm_session.specs.State.{Core}
use Rattle.lvm_move_plan.specs.declared.standing.VolumeCopy.{VolumeCopy}
use Rattle.lvm_move_plan.specs.Planned.{lowest_free, stands_beside}
use Rattle.lvm_move_plan.specs.Standing.{StandsAmong, listed}
use Rattle.lvm_move_plan.proofs.FreeLemmas.{none_has}
use Rattle.lvm_move_plan.proofs.GoesOnLemmas.{apart_each}
use Rattle.lvm_move_plan.proofs.RisingLemmas.{Rises, one_found, pairs_rise}
use Rattle.lvm_migrate.specs.declared.fault.MoveFault.TheVariants as move
use Rattle.lvm_migrate.specs.Moving.{fault_of_move}
use Rattle.lvm_migrate.proofs.OpeningLemmas.{on_is}
use Rattle.lvm_rebuild.specs.declared.fault.RebuildFault.{RebuildFault}
use Rattle.lvm_rebuild.specs.declared.fault.RebuildFault.TheVariants as fault
use Rattle.lvm_rebuild.specs.Rebuilding.{move_to}
use Rattle.lvm_rebuild.specs.Choosing.{choice_of, has_fresh, has_place, is_at_hand, serves, spare_for}

isnt : (b : Bool) → not b ≡ true → b ≡ false
isnt true is = absurd (cc is)
isnt false is = refl

-- ---- lists

one_mapped : {X Y : Type 0} (f : X → Y) (xs : List X) (y : Y) → IsOneOf (map f xs) y → (x : X) × IsOneOf xs x × (y ≡ f x)
one_mapped f [] y one = absurd one
one_mapped f (x ∷ xs) y (inl is) = (x, inl refl, is)
one_mapped f (x ∷ xs) y (inr one) = let it = one_mapped f xs y one in (it.0, inr it.1, it.2)

-- a member's row is found by its disk
own_found : (rows : List PvRow) (row : PvRow) → Rises (λ (a b : PvRow). a.disk ≢ b.disk) rows → IsOneOf rows row → find (λ (r : PvRow). r.disk == row.disk) rows ≡ Some row
own_found [] row rise one = absurd one
own_found (x ∷ xs) row rise (inl same) =
    ap (λ (b : Bool). if b then Some x else find (λ (r : PvRow). r.disk == row.disk) xs) (ap (λ (r : PvRow). x.disk == r.disk) same ∙ same_itself x.disk) ∙ ap (λ (r : PvRow). Some r) (sym same)
own_found (x ∷ xs) row rise (inr one) =
    ap (λ (b : Bool). if b then Some x else find (λ (r : PvRow). r.disk == row.disk) xs) (ne_eqb x.disk row.disk (rise.0 row one)) ∙ own_found xs row rise.1 one

-- ---- what is chosen

-- a spare that takes the copy, and its lowest free partition; some copy is usable, and numbers are left
pub record IsChosen (core : Core) (lost : List ℕ) (c : VolumeCopy) (to : Pp) : Type 0 where
  pub row : PvRow
  pub inside : IsOneOf core.descriptor.pvs row
  pub off : listed lost row.disk ≡ false
  pub there : is_missing core row.disk ≡ false
  pub beside : stands_beside core.descriptor row.disk c ≡ false
  pub low : lowest_free (partitions_used core.descriptor) row ≡ Some to
  pub fresh : has_fresh core c ≡ true
  pub numbers : has_numbers core ≡ true

module _ (core : Core) (lost : List ℕ) (c : VolumeCopy) where
  abbrev used : List Pp
  used = partitions_used core.descriptor

  spare_is : (to : Pp) → choice_of core lost c ≡ Ok to → (has_numbers core ≡ true) × (has_fresh core c ≡ true) × (spare_for core lost c ≡ Some to)
  spare_is to is = by (has_numbers core) (has_fresh core c) (spare_for core lost c) refl refl refl is
    where
      by : (n f : Bool) (o : Option Pp) → has_numbers core ≡ n → has_fresh core c ≡ f → spare_for core lost c ≡ o
          → (if not n then Err (fault.Move move.HistoryFull) else if not f then Err (fault.Move (move.NoFresh c.lp)) else option_map_or (λ (pp : Pp). let r : Result Pp RebuildFault = Ok pp in r) o (Err (fault.NoSpare c.lp))) ≡ Ok to
          → (has_numbers core ≡ true) × (has_fresh core c ≡ true) × (spare_for core lost c ≡ Some to)
      by false f o many fresh spare e = absurd (cc e)
      by true false o many fresh spare e = absurd (cc e)
      by true true None many fresh spare e = absurd (cc e)
      by true true (Some pp) many fresh spare e = let same : pp ≡ to = cc e in (many, fresh, spare ∙ ap (λ (p : Pp). Some p) same)

  pub chosen : (to : Pp) → choice_of core lost c ≡ Ok to → IsChosen core lost c to
  chosen to is = let all = spare_is to is in by all.0 all.1 (find (serves core lost c) core.descriptor.pvs) refl all.2
    where
      by : has_numbers core ≡ true → has_fresh core c ≡ true → (o : Option PvRow) → find (serves core lost c) core.descriptor.pvs ≡ o → option_map_or (lowest_free used) o None ≡ Some to → IsChosen core lost c to
      by many fresh None found low = absurd (cc low)
      by many fresh (Some row) found low =
          let it = one_found (serves core lost c) core.descriptor.pvs row found in
          let all = and_parts row.spare (is_at_hand core lost row.disk && has_place core.descriptor c row) it.1 in
          let two = and_parts (is_at_hand core lost row.disk) (has_place core.descriptor c row) all.1 in
          let hand = and_parts (not (listed lost row.disk)) (not (is_missing core row.disk)) two.0 in
          let place = and_parts (not (stands_beside core.descriptor row.disk c)) (is_some (lowest_free used row)) two.1 in
          record { row = row; inside = it.0; off = isnt (listed lost row.disk) hand.0; there = isnt (is_missing core row.disk) hand.1; beside = isnt (stands_beside core.descriptor row.disk c) place.0; low = low; fresh = fresh; numbers = many }

  module _ (to : Pp) (it : IsChosen core lost c to) where
    lowest : IsOneOf (partitions_of it.row) to × (not (is_among used to) ≡ true)
    lowest = one_found (λ (pp : Pp). not (is_among used pp)) (partitions_of it.row) to it.low

    numbered : (k : ℕ) × IsOneOf (range_with_len 0 it.row.pps) k × (to ≡ record { disk = it.row.disk; pp = k })
    numbered = one_mapped (λ (k : ℕ). let pp : Pp = record { disk = it.row.disk; pp = k } in pp) (range_with_len 0 it.row.pps) to lowest.0

    pub on_spare : to.disk ≡ it.row.disk
    on_spare = ap (λ (p : Pp). p.disk) numbered.2

    below : to.pp < it.row.pps
    below =
        let less = of_range 0 it.row.pps numbered.0 numbered.1 in
        let same : to.pp ≡ numbered.0 = ap (λ (p : Pp). p.pp) numbered.2 in
        omega (arith, less, same)

    pub off_lost : listed lost to.disk ≡ false
    off_lost = ap (listed lost) on_spare ∙ it.off

    pub is_there : is_missing core to.disk ≡ false
    is_there = ap (is_missing core) on_spare ∙ it.there

    pub its_member : is_member core.descriptor to.disk ≡ true
    its_member = one_any (λ (r : PvRow). r.disk == to.disk) core.descriptor.pvs it.row it.inside (ap (λ (n : ℕ). it.row.disk == n) on_spare ∙ same_itself it.row.disk)

    -- so the copy may stand there
    pub may_stand : (stands : StandsAmong core.descriptor None (listed lost) c) → IsValid core.descriptor → MayStandOn core.descriptor c.lv c.lp c.number to
    may_stand stands valid = record {
      row = stands.row;
      volume = stands.volume;
      within = stands.within;
      some = (let number = stands.number in omega (arith, number));
      copy = few;
      free = none_has used to (isnt (is_among used to) lowest.1);
      inside = (it.row, ap (member_of core.descriptor) on_spare ∙ own_found core.descriptor.pvs it.row (pairs_rise (λ (a b : PvRow). a.disk ≢ b.disk) core.descriptor.pvs valid.members.disks_differ) it.inside, below);
      apart = λ k q at other same. apart_each (copies_of stands.row c.lp) it.row.disk (sym beside_is ∙ it.beside) k q at (same ∙ on_spare);
    }
      where
        few : c.number ≤ stands.row.copies
        few =
            let inside = slice_get_within (copies_of stands.row c.lp) stands.place stands.pp stands.its in
            let size = length-take stands.row.copies (drop (c.lp * stands.row.copies) stands.row.map) in
            let number = stands.number in
            omega (arith, inside, size, number)

        beside_is : stands_beside core.descriptor it.row.disk c ≡ has_partition_on (copies_of stands.row c.lp) it.row.disk
        beside_is =
            ap (λ (o : Option LvRow). option_map_or (λ (r : LvRow). nat_lt c.lp r.lps && has_partition_on (copies_of r c.lp) it.row.disk) o false) stands.volume
            ∙ ap (λ (b : Bool). b && has_partition_on (copies_of stands.row c.lp) it.row.disk) (lt-ltb c.lp stands.row.lps stands.within)

    -- and nothing stands against its move
    pub none_against : (stands : StandsAmong core.descriptor None (listed lost) c) → IsValid core.descriptor → core.power ≡ power.On → core.copy ≡ None → fault_of_move core (move_to c to) ≡ None
    unfolding may_stand
    none_against stands valid on shut =
        ap (λ (p : Power). move_fault_when p (move_fault_on core c.lv c.lp c.number to)) on ∙ on_is core (move_to c to) valid shut may
        ∙ ap (λ (b : Bool). if b then Some denial.InUse else if is_missing core to.disk then Some (denial.Missing to.disk) else if not (list_any (is_usable core) those) then Some denial.NoFresh else if has_numbers core then None else Some denial.HistoryFull)
        unused
        ∙ ap (λ (b : Bool). if b then Some (denial.Missing to.disk) else if not (list_any (is_usable core) those) then Some denial.NoFresh else if has_numbers core then None else Some denial.HistoryFull) is_there
        ∙ ap (λ (b : Bool). if not b then Some denial.NoFresh else if has_numbers core then None else Some denial.HistoryFull) usable
        ∙ ap (λ (b : Bool). if b then None else Some denial.HistoryFull) it.numbers
      where
        may : MayStandOn core.descriptor c.lv c.lp c.number to
        may = may_stand stands valid

        those : List Pp
        those = copies_of stands.row c.lp

        unused : is_in_use core to ≡ false
        unused =
            ap (λ (b : Bool). b || not (option_map_or (λ (r : PvRow). nat_lt to.pp r.pps) (member_of core.descriptor to.disk) false)) may.free
            ∙ ap (λ (o : Option PvRow). not (option_map_or (λ (r : PvRow). nat_lt to.pp r.pps) o false)) may.inside.1 ∙ ap not (lt-ltb to.pp may.inside.0.pps may.inside.2)

        usable : list_any (is_usable core) those ≡ true
        usable = sym (ap (λ (o : Option LvRow). list_any (is_usable core) (option_map_or (λ (row : LvRow). copies_of row c.lp) o [])) stands.volume) ∙ it.fresh

-- a copy that stands somewhere is one of its volume
pub copy_within : (d : Descriptor) (lost : List ℕ) (c : VolumeCopy) → StandsAmong d None (listed lost) c → (row : LvRow) → volume_of d c.lv ≡ Some row → c.lp < row.lps
copy_within d lost c stands row is =
    let both : Some stands.row ≡ Some row = sym stands.volume ∙ is in
    let same : stands.row ≡ row = cc both in
    let within = stands.within in
    let lps = ap (λ (r : LvRow). r.lps) same in
    omega (arith, within, lps)
