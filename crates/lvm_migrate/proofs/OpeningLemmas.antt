-- A copy that is planned to move may be opened, and isn't for few reasons alone.
use Rattle.std.proofs.Common.{◌≡◌, ◌⊎◌, inl, inr, ℕ, zero, suc, ◌-◌, ◌*◌, ◌<◌, ◌≤◌, Bool, true, false, ◌&&◌, ◌||◌, not, List, [], ◌∷◌, length, take, drop, slice_get, Option, Some, None, if◌then◌else◌, refl, sym, ap, subst, ◌∙◌, arith}
use Rattle.std.specs.Prelude.{◌==◌, MatchOption, Ok, Err, Result, is_some, nat_lt}
use Rattle.std.specs.List.{list_any}
use Rattle.std.specs.Option.{option_map_or}
use Rattle.std.proofs.lemmas.Bool.{cases_eq, cases_Bool, eq-eqb, eqb-true, lt-ltb}
use Rattle.std.proofs.lemmas.List.{length-drop, length-take}
use Rattle.std.proofs.lemmas.Option.{slice_get-get_or}
use Rattle.std.proofs.Math.Nat.{mul-le-mul_right}
use Rattle.lvm_num.specs.declared.place.Pp.{Pp}
use Rattle.lvm_num.specs.declared.descriptor.LvRow.{LvRow}
use Rattle.lvm_num.specs.declared.descriptor.PvRow.{PvRow}
use Rattle.lvm_num.specs.declared.descriptor.Descriptor.{Descriptor}
use Rattle.lvm_num.specs.Descriptor.{IsLaidOut, IsValid, copies_of, is_pp, member_of, partitions_used, volume_of}
use Rattle.lvm_num.proofs.Booleans.{and_true}
use Rattle.lvm_num.proofs.DescriptorLemmas.Partitions.{same_partition}
use Rattle.lvm_num.proofs.MarksLemmas.Maps.{find-Some}
use Rattle.lvm_disk.specs.Counts.{Counts}
use Rattle.lvm_moved.specs.Moved.{MayStandOn}
use Rattle.lvm_session.specs.declared.answers.OpenFault.{OpenFault}
use Rattle.lvm_session.specs.declared.answers.OpenFault.TheVariants as denial
use Rattle.lvm_session.specs.declared.bringing.OpenCopy.{OpenCopy}
use Rattle.lvm_session.specs.declared.open.Power.{Power}
use Rattle.lvm_session.specs.declared.open.Power.TheVariants as power
use Rattle.lvm_session.specs.Calls.{OpenMoveGives, OpensMove, copy_at, has_numbers, is_in_use, move_fault, move_fault_at, move_fault_in, move_fault_on, move_fault_when}
use Rattle.lvm_session.specs.Judging.{copies_in, is_missing, is_usable}
use Rattle.lvm_session.specs.Marks.{is_among}
use Rattle.lvm_session.specs.State.{Core}
use Rattle.lvm_keeps_events.specs.Opening.{IsApart}
use Rattle.lvm_move_plan.specs.declared.plan.PlannedMove.{PlannedMove}
use Rattle.lvm_migrate.specs.Faults.{IsAgainst}
use Rattle.lvm_migrate.specs.Moving.{MayOpen, fault_of_move}

-- ---- lists

any_none : {X : Type 0} (t : X → Bool) (xs : List X) → ((k : ℕ) (x : X) → slice_get xs k ≡ Some x → t x ≡ false) → list_any t xs ≡ false
any_none t [] each = refl
any_none t (x ∷ xs) each = ap (λ b. b || list_any t xs) (each 0 x refl) ∙ any_none t xs (λ k y at. each (suc k) y at)

there_at : {X : Type 0} (xs : List X) (k : ℕ) → k < length xs → is_some (slice_get xs k) ≡ true
there_at [] k lt = absurd (omega (arith, lt))
there_at (x ∷ xs) zero lt = refl
there_at (x ∷ xs) (suc k) lt = there_at xs k (omega (arith, lt))

-- ---- what the copies are

laid_out : (d : Descriptor) (lv : ℕ) (row : LvRow) → IsValid d → volume_of d lv ≡ Some row → IsLaidOut row
laid_out d lv row valid is =
    let found = find-Some (λ (r : LvRow). r.number == lv) d.lvs row is in
    subst IsLaidOut (found.1.2 row) (valid.maps.laid_out found.1.0 row found.1.1)

copies_long : (row : LvRow) (lp : ℕ) → IsLaidOut row → lp < row.lps → length (copies_of row lp) ≡ row.copies
copies_long row lp laid within =
    let step : suc lp * row.copies ≤ row.lps * row.copies = mul-le-mul_right row.copies within in
    omega (arith, step, laid.whole, length-take row.copies (drop (lp * row.copies) row.map), length-drop (lp * row.copies) row.map)

module _ (d : Descriptor) (m : PlannedMove) (valid : IsValid d) (it : MayStandOn d m.copy.lv m.copy.lp m.copy.number m.to) where
  abbrev copies : List Pp
  copies = copies_of it.row m.copy.lp

  its_copies : copies_in d m.copy.lv m.copy.lp ≡ copies
  its_copies = ap (λ (o : Option LvRow). option_map_or (λ (row : LvRow). copies_of row m.copy.lp) o []) it.volume

  copy_there : is_some (copy_at copies m.copy.number) ≡ true
  copy_there = by (m.copy.number == 0) refl
    where
      long : length copies ≡ it.row.copies
      long = copies_long it.row m.copy.lp (laid_out d m.copy.lv it.row valid it.volume) it.within

      by : (b : Bool) → (m.copy.number == 0) ≡ b → is_some (if b then None else slice_get copies (m.copy.number - 1)) ≡ true
      by true is = let none : m.copy.number ≡ 0 = eqb-true m.copy.number 0 is in let some = it.some in absurd (omega (arith, none, some))
      by false is = let few = it.copy in let some = it.some in there_at copies (m.copy.number - 1) (omega (arith, long, few, some))

  -- no other copy stands on the disk
  pub planned_apart : IsApart d m.copy.lv m.copy.lp m.copy.number m.to
  planned_apart from is = any_none (λ (p : Pp). not (is_pp p from) && p.disk == m.to.disk) (copies_in d m.copy.lv m.copy.lp) each
    where
      from_is : copy_at copies m.copy.number ≡ Some from
      from_is = ap (λ (ps : List Pp). copy_at ps m.copy.number) (sym its_copies) ∙ is

      at_from : slice_get copies (m.copy.number - 1) ≡ Some from
      at_from = by (m.copy.number == 0) from_is
        where
          by : (b : Bool) → (if b then None else slice_get copies (m.copy.number - 1)) ≡ Some from → slice_get copies (m.copy.number - 1) ≡ Some from
          by true e = absurd (cc e)
          by false e = e

      each : (k : ℕ) (p : Pp) → slice_get (copies_in d m.copy.lv m.copy.lp) k ≡ Some p → not (is_pp p from) && p.disk == m.to.disk ≡ false
      each k p at = elim (cases_eq k (m.copy.number - 1)) [
        | inl same ↦
            let both : Some p ≡ Some from = sym at ∙ ap (λ (ps : List Pp). slice_get ps k) its_copies ∙ ap (λ (n : ℕ). slice_get copies n) same ∙ at_from in
            let is_from : p ≡ from = cc both in
            ap (λ b. not b && p.disk == m.to.disk) (same_partition p from is_from)
        | inr other ↦ apart_by (not (is_pp p from)) (p.disk == m.to.disk) refl (it.apart k p (ap (λ (ps : List Pp). slice_get ps k) (sym its_copies) ∙ at) other)
      ]
        where
          apart_by : (a b : Bool) → (p.disk == m.to.disk) ≡ b → (p.disk ≡ m.to.disk → ⊥) → a && b ≡ false
          apart_by a true is_on never = absurd (never (eqb-true p.disk m.to.disk is_on))
          apart_by a false is_on never = by a
            where
              by : (x : Bool) → x && false ≡ false
              by true = refl
              by false = refl

-- ---- why it isn't opened

-- why a planned copy, one of these, isn't opened
pub data StandsAgainstIt (core : Core) (m : PlannedMove) (copies : List Pp) : OpenFault → Type 0 where
  SessionIsDark : core.power ≡ power.Dark → StandsAgainstIt core m copies denial.Dark
  SessionIsOff : core.power ≡ power.Off → StandsAgainstIt core m copies denial.Off
  ItsDiskIsMissing : is_missing core m.to.disk ≡ true → StandsAgainstIt core m copies (denial.Missing m.to.disk)
  NoneIsUsable : list_any (is_usable core) copies ≡ false → StandsAgainstIt core m copies denial.NoFresh
  FewNumbers : has_numbers core ≡ false → StandsAgainstIt core m copies denial.HistoryFull

module _ (core : Core) (m : PlannedMove) (valid : IsValid core.descriptor) (none : core.copy ≡ None) (it : MayStandOn core.descriptor m.copy.lv m.copy.lp m.copy.number m.to) where
  abbrev row : LvRow
  row = it.row

  abbrev those : List Pp
  those = copies_of row m.copy.lp

  unused : is_in_use core m.to ≡ false
  unused =
      ap (λ b. b || not (option_map_or (λ (r : PvRow). nat_lt m.to.pp r.pps) (member_of core.descriptor m.to.disk) false)) it.free
      ∙ ap (λ (o : Option PvRow). not (option_map_or (λ (r : PvRow). nat_lt m.to.pp r.pps) o false)) it.inside.1
      ∙ ap not (lt-ltb m.to.pp it.inside.0.pps it.inside.2)

  -- while the session goes on it is for the second disk, the fresh copies or the numbers
  pub on_is : move_fault_on core m.copy.lv m.copy.lp m.copy.number m.to ≡ move_fault_at core m.to those
  on_is =
      ap (λ (o : Option OpenCopy). if is_some o then Some denial.Busy else option_map_or (λ (r : LvRow). move_fault_in core r m.copy.lp m.copy.number m.to) (volume_of core.descriptor m.copy.lv) (Some denial.NoVolume)) none
      ∙ ap (λ (o : Option LvRow). option_map_or (λ (r : LvRow). move_fault_in core r m.copy.lp m.copy.number m.to) o (Some denial.NoVolume)) it.volume
      ∙ ap (λ b. if b && is_some (copy_at those m.copy.number) then move_fault_at core m.to those else Some denial.OutOfRange) (lt-ltb m.copy.lp row.lps it.within)
      ∙ ap (λ b. if b then move_fault_at core m.to those else Some denial.OutOfRange) (copy_there core.descriptor m valid it)

  against_at : (why : OpenFault) → move_fault_at core m.to those ≡ Some why → StandsAgainstIt core m those why
  against_at why e = by (is_in_use core m.to) (is_missing core m.to.disk) (list_any (is_usable core) those) (has_numbers core) unused refl refl refl e
    where
      so : (u : OpenFault) → Some u ≡ Some why → StandsAgainstIt core m those u → StandsAgainstIt core m those why
      so u is its = let same : u ≡ why = cc is in subst (StandsAgainstIt core m those) same its

      by : (u g l h : Bool) → u ≡ false → is_missing core m.to.disk ≡ g → list_any (is_usable core) those ≡ l → has_numbers core ≡ h
          → (if u then Some denial.InUse else if g then Some (denial.Missing m.to.disk) else if not l then Some denial.NoFresh else if h then None else Some denial.HistoryFull) ≡ Some why → StandsAgainstIt core m those why
      by true g l h clear is_g is_l is_h f = absurd (cc clear)
      by false true l h clear is_g is_l is_h f = so (denial.Missing m.to.disk) f (ItsDiskIsMissing is_g)
      by false false false h clear is_g is_l is_h f = so denial.NoFresh f (NoneIsUsable is_l)
      by false false true true clear is_g is_l is_h f = absurd (cc f)
      by false false true false clear is_g is_l is_h f = so denial.HistoryFull f (FewNumbers is_h)

  pub stands_against : (why : OpenFault) → fault_of_move core m ≡ Some why → StandsAgainstIt core m those why
  stands_against why e = by core.power refl e
    where
      over : (u : OpenFault) → Some u ≡ Some why → StandsAgainstIt core m those u → StandsAgainstIt core m those why
      over u f its = let is : u ≡ why = cc f in subst (StandsAgainstIt core m those) is its

      by : (p : Power) → core.power ≡ p → move_fault_when p (move_fault_on core m.copy.lv m.copy.lp m.copy.number m.to) ≡ Some why → StandsAgainstIt core m those why
      by power.Dark is f = over denial.Dark f (SessionIsDark is)
      by power.Off is f = over denial.Off f (SessionIsOff is)
      by power.Stuck is f = against_at why (sym on_is ∙ f)
      by power.On is f = against_at why (sym on_is ∙ f)

  against : {why : OpenFault} → StandsAgainstIt core m those why → IsAgainst why
  against (SessionIsDark is) = tt
  against (SessionIsOff is) = tt
  against (ItsDiskIsMissing is) = tt
  against (NoneIsUsable is) = tt
  against (FewNumbers is) = tt

  pub may_open : MayOpen core m
  may_open why e = against (stands_against why e)

-- ---- what was answered

abbrev Answer : Type 0
Answer = Result (Unit {0}) OpenFault

module _ (counts : Counts) (old new : Core) (m : PlannedMove) where
  abbrev Gives : Answer → Type 0
  Gives answer = OpenMoveGives counts old new m.copy.lv m.copy.lp m.copy.number m.to answer

  abbrev GivesBy : Answer → Option OpenFault → Type 0
  GivesBy answer o = MatchOption o (((answer ≡ Ok tt) × OpensMove counts old new m.copy.lv m.copy.lp m.copy.number m.to) ⊎ ((answer ≡ Err denial.Memory) × (new ≡ old))) (λ (why : OpenFault). (answer ≡ Err why) × (new ≡ old))

  -- it was opened, since nothing was against it
  pub opened_fine : Gives (Ok tt) → (fault_of_move old m ≡ None) × OpensMove counts old new m.copy.lv m.copy.lp m.copy.number m.to
  opened_fine gives = by (fault_of_move old m) refl gives
    where
      by : (o : Option OpenFault) → fault_of_move old m ≡ o → GivesBy (Ok tt) o → (fault_of_move old m ≡ None) × OpensMove counts old new m.copy.lv m.copy.lp m.copy.number m.to
      by None is (inl it) = (is, it.1)
      by None is (inr it) = absurd (let e : Ok tt ≡ Err denial.Memory = it.0 in cc e)
      by (Some why) is it = absurd (let e : Ok tt ≡ Err why = it.0 in cc e)

  -- it wasn't, for want of memory or for what was against it, and nothing changed
  pub denied_so : (why : OpenFault) → Gives (Err why) → ((fault_of_move old m ≡ None) × (why ≡ denial.Memory) × (new ≡ old)) ⊎ ((fault_of_move old m ≡ Some why) × (new ≡ old))
  denied_so why gives = by (fault_of_move old m) refl gives
    where
      by : (o : Option OpenFault) → fault_of_move old m ≡ o → GivesBy (Err why) o → ((fault_of_move old m ≡ None) × (why ≡ denial.Memory) × (new ≡ old)) ⊎ ((fault_of_move old m ≡ Some why) × (new ≡ old))
      by None is (inl it) = absurd (let e : Err why ≡ Ok tt = it.0 in cc e)
      by None is (inr it) = let same : why ≡ denial.Memory = cc it.0 in inl (is, same, it.1)
      by (Some other) is it = let same : why ≡ other = cc it.0 in inr (is ∙ ap (λ (w : OpenFault). Some w) (sym same), it.1)
