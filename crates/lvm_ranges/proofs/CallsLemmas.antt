-- Why a copy isn't opened of which nothing is against asking.
use Rattle.std.proofs.Common.{◌≡◌, ◌-◌, ◌&&◌, ◌==◌, ℕ, Bool, true, false, not, nat_lt, List, [], Option, Some, None, Result, Ok, Err, if◌then◌else◌, slice_get, refl, sym, ap, subst, ◌∙◌, arith}
use Rattle.std.proofs.lemmas.Bool.Decides.{nat_tests}
use Rattle.std.specs.Prelude.{MatchOption, is_some, unwrap_or}
use Rattle.std.specs.List.{list_any}
use Rattle.std.specs.Option.{option_map_or}
use Rattle.std.proofs.lemmas.Option.{same_Some}
use Rattle.lvm_num.specs.declared.descriptor.LvRow.{LvRow}
use Rattle.lvm_num.specs.declared.place.Pp.{Pp}
use Rattle.lvm_num.specs.declared.status.Status.{Status}
use Rattle.lvm_num.specs.Descriptor.{copies_of, volume_of, is_pp}
use Rattle.lvm_num.specs.Status.{calls_stale}
use Rattle.lvm_disk.specs.Counts.{Counts}
use Rattle.lvm_session.specs.declared.answers.CopyFault.{CopyFault}
use Rattle.lvm_session.specs.declared.answers.CopyFault.TheVariants as refusal
use Rattle.lvm_session.specs.declared.open.Power.{Power}
use Rattle.lvm_session.specs.declared.open.Power.TheVariants as power
use Rattle.lvm_session.specs.Calls.{OpenGives, Opens, copy_at, copy_fault, has_numbers, refusal_at, refusal_when, refusal_in, refusal_on}
use Rattle.lvm_session.specs.Judging.{is_missing, is_settled, is_stale, is_usable}
use Rattle.lvm_session.specs.State.{Core}
use Rattle.lvm_ranges.specs.Passing.{Copy, MayPass}

-- what holds of the session by why the copy isn't opened
abbrev pub IsRefusedSo : Core → Pp → CopyFault → Type 0
IsRefusedSo core p refusal.AlreadyFresh = is_settled core p ≡ false
IsRefusedSo core p refusal.Dark = core.power ≡ power.Dark
IsRefusedSo core p refusal.Off = core.power ≡ power.Off
IsRefusedSo core p refusal.HistoryFull = has_numbers core ≡ false
IsRefusedSo core p (refusal.Missing disk) = Unit {0}
IsRefusedSo core p refusal.NoFresh = Unit {0}
IsRefusedSo core p refusal.Busy = ⊥
IsRefusedSo core p refusal.NoVolume = ⊥
IsRefusedSo core p refusal.OutOfRange = ⊥

module _ (core : Core) (c : Copy) (may : MayPass core c) (why : CopyFault) where
  at_copy : (copies : List Pp) → refusal_at core copies c.pp ≡ Some why → IsRefusedSo core c.pp why
  at_copy copies e = by (is_settled core c.pp) (is_missing core c.pp.disk) (list_any (λ (q : Pp). not (is_pp q c.pp) && is_usable core q) copies) (has_numbers core) refl refl e
    where
      by : (s m u n : Bool) → is_settled core c.pp ≡ s → has_numbers core ≡ n
          → (if not s then Some refusal.AlreadyFresh else if m then Some (refusal.Missing c.pp.disk) else if not u then Some refusal.NoFresh else if n then None else Some refusal.HistoryFull) ≡ Some why
          → IsRefusedSo core c.pp why
      by false m u n i j f = subst (IsRefusedSo core c.pp) (same_Some refusal.AlreadyFresh why f) i
      by true true u n i j f = subst (IsRefusedSo core c.pp) (same_Some (refusal.Missing c.pp.disk) why f) tt
      by true false false n i j f = subst (IsRefusedSo core c.pp) (same_Some refusal.NoFresh why f) tt
      by true false true true i j f = absurd (cc f)
      by true false true false i j f = subst (IsRefusedSo core c.pp) (same_Some refusal.HistoryFull why f) j

  in_row : (row : LvRow) → volume_of core.descriptor c.lv ≡ Some row → refusal_in core row c.lp c.number ≡ Some why → IsRefusedSo core c.pp why
  in_row row is e =
      let less = may.within row is in
      let within : nat_lt c.lp row.lps ≡ true = grind (arith, nat_tests, less) in
      let its : copy_at (copies_of row c.lp) c.number ≡ Some c.pp = sym (ap (λ m. copy_at (option_map_or (λ (r : LvRow). copies_of r c.lp) m []) c.number) is) ∙ may.its in
      at_copy (copies_of row c.lp) (sym (ap (λ b. if b then option_map_or (refusal_at core (copies_of row c.lp)) (copy_at (copies_of row c.lp) c.number) (Some refusal.OutOfRange) else Some refusal.OutOfRange) within
      ∙ ap (λ m. option_map_or (refusal_at core (copies_of row c.lp)) m (Some refusal.OutOfRange)) its) ∙ e)

  none_there : copy_at [] c.number ≡ Some c.pp → ⊥
  none_there = by (c.number == 0)
    where
      by : (b : Bool) → (if b then None else slice_get [] (c.number - 1)) ≡ Some c.pp → ⊥
      by true e = cc e
      by false e = cc e

  on_session : refusal_on core c.lv c.lp c.number ≡ Some why → IsRefusedSo core c.pp why
  on_session e = by (volume_of core.descriptor c.lv) refl
      (sym (ap (λ m. if is_some m then Some refusal.Busy else option_map_or (λ (row : LvRow). refusal_in core row c.lp c.number) (volume_of core.descriptor c.lv) (Some refusal.NoVolume)) may.none) ∙ e)
    where
      by : (m : Option LvRow) → volume_of core.descriptor c.lv ≡ m → option_map_or (λ (row : LvRow). refusal_in core row c.lp c.number) m (Some refusal.NoVolume) ≡ Some why → IsRefusedSo core c.pp why
      by None is f = absurd (none_there (sym (ap (λ m. copy_at (option_map_or (λ (r : LvRow). copies_of r c.lp) m []) c.number) is) ∙ may.its))
      by (Some row) is f = in_row row is f

  pub refused_so : copy_fault core c.lv c.lp c.number ≡ Some why → IsRefusedSo core c.pp why
  refused_so e = by core.power refl e
    where
      by : (p : Power) → core.power ≡ p → refusal_when p (refusal_on core c.lv c.lp c.number) ≡ Some why → IsRefusedSo core c.pp why
      by power.Dark is f = subst (IsRefusedSo core c.pp) (same_Some refusal.Dark why f) is
      by power.Off is f = subst (IsRefusedSo core c.pp) (same_Some refusal.Off why f) is
      by power.Stuck is f = on_session f
      by power.On is f = on_session f

-- ---- what the opening answers

abbrev Answer : Type 0
Answer = Result (Unit {0}) CopyFault

abbrev well : Answer
well = Ok tt

abbrev badly : CopyFault → Answer
badly why = Err why

module _ (counts : Counts) (old new : Core) (lv lp number : ℕ) where
  abbrev Gives : Option CopyFault → Answer → Type 0
  Gives m answer = MatchOption m ((answer ≡ well) × Opens counts old new lv lp number) (λ (why : CopyFault). (answer ≡ badly why) × (new ≡ old))

  pub opened_so : OpenGives counts old new lv lp number (Ok tt) → (copy_fault old lv lp number ≡ None) × Opens counts old new lv lp number
  opened_so gives = by (copy_fault old lv lp number) gives
    where
      by : (m : Option CopyFault) → Gives m well → (m ≡ None) × Opens counts old new lv lp number
      by None it = (refl, it.1)
      by (Some why) it = let e : well ≡ badly why = it.0 in absurd (cc e)

  pub refused_for : (why : CopyFault) → OpenGives counts old new lv lp number (Err why) → (copy_fault old lv lp number ≡ Some why) × (new ≡ old)
  refused_for why gives = by (copy_fault old lv lp number) gives
    where
      by : (m : Option CopyFault) → Gives m (badly why) → (m ≡ Some why) × (new ≡ old)
      by None it = let e : badly why ≡ well = it.0 in absurd (cc e)
      by (Some other) it = let e : badly why ≡ badly other = it.0 in let same : why ≡ other = cc e in (ap (λ (w : CopyFault). Some w) (sym same), it.1)

-- ---- one that isn't settled

-- without an update in flight a copy is settled
pub settled_alone : (core : Core) (p : Pp) → core.status.in_flight ≡ None → is_stale core p ≡ true → is_settled core p ≡ true
settled_alone core p none stale = ap (λ (m : Option Status). is_stale core p && calls_stale (unwrap_or m core.status.committed) p) none ∙ ap (λ b. b && is_stale core p) stale ∙ stale
