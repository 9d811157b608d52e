-- Each logical partition keeps a fresh copy.
use Rattle.std.proofs.Common.{◌≡◌, ◌≢◌, ◌⊎◌, inl, inr, ⊎_elim, ℕ, ◌-◌, Bool, true, false, ◌||◌, List, [], ◌∷◌, Option, Some, None, refl, sym, ap, subst, ◌∙◌, eq-eqb}
use Rattle.std.specs.Prelude.{◌==◌, not, IsTrue, IsFalse, All, AllPairs}
use Rattle.std.specs.List.{list_any}
use Rattle.std.specs.Option.{option_map_or}
use Rattle.std.proofs.lemmas.Bool.{eqb-true, false≢true}
use Rattle.std.proofs.lemmas.List.Elements.{All-contains}
use Rattle.lvm_num.specs.declared.place.Pp.{Pp}
use Rattle.lvm_num.specs.declared.descriptor.LvRow.{LvRow}
use Rattle.lvm_num.specs.declared.descriptor.Descriptor.{Descriptor}
use Rattle.lvm_num.specs.Descriptor.{IsValid, copies_of, volume_of}
use Rattle.lvm_num.specs.Status.{calls_stale}
use Rattle.lvm_num.proofs.AmongLemmas.{any_one}
use Rattle.lvm_kept.specs.Group.{IsOneOf}
use Rattle.lvm_kept.proofs.ChangesLemmas.Entries.{volume_is_row}
use Rattle.lvm_steps.specs.Committing.{DiffersInVolume}
use Rattle.lvm_volume_plan.specs.passed.Commit.{IsFree, IsPassedOver}
use Rattle.lvm_volume_plan.proofs.passed.Commit.{IsOnePlace, contains, of_map, one_place}
use Rattle.lvm_session.specs.Judging.{copies_in, is_wanted_stale}
use Rattle.lvm_session.specs.State.{Core, State}
use Rattle.lvm_volumes.specs.Endings.{HasFresh, KeepsFresh}
use Rattle.lvm_volumes.proofs.SettlingLemmas.{is_used}
use Rattle.lvm_volumes.proofs.DescriptorLemmas.{one_partition}
use Rattle.lvm_volume_plan.specs.declared.new_volume.NewVolume.{NewVolume}
use Rattle.lvm_volume_plan.specs.NewVolume.{row_for, with_volume}
use Rattle.lvm_volume_plan.proofs.Sublists.{one_insert}
pub use Rattle.std.proofs.lemmas.Bool.{not-true as not_stale}

-- ---- copies

pub one_any : (test : Pp → Bool) (ps : List Pp) (p : Pp) → IsOneOf ps p → IsTrue (test p) → IsTrue (list_any test ps)
one_any test [] p one is = absurd one
one_any test (x ∷ xs) p (inl here) is = ap (λ (t : Bool). t || list_any test xs) (ap test (sym here) ∙ is)
one_any test (x ∷ xs) p (inr there) is = by_test (test x) (one_any test xs p there is)
  where
    by_test : (b : Bool) → IsTrue (list_any test xs) → IsTrue (b || list_any test xs)
    by_test true rest = refl
    by_test false rest = rest

-- a copy of a logical partition is one of a volume
record IsCopyOf (d : Descriptor) (lv lp : ℕ) (p : Pp) : Type 0 where
  pub row : LvRow
  pub volume : volume_of d lv ≡ Some row
  pub one : IsOneOf (copies_of row lp) p

copy_of : (d : Descriptor) (lv lp : ℕ) (p : Pp) → IsOneOf (copies_in d lv lp) p → IsCopyOf d lv lp p
copy_of d lv lp p is = by_volume (volume_of d lv) refl is
  where
    by_volume : (o : Option LvRow) → volume_of d lv ≡ o → IsOneOf (option_map_or (λ (row : LvRow). copies_of row lp) o []) p → IsCopyOf d lv lp p
    by_volume None at one = absurd one
    by_volume (Some row) at one = record { row = row; volume = at; one = one }

copies_by : (lp : ℕ) (o t : Option LvRow) → o ≡ t → option_map_or (λ (row : LvRow). copies_of row lp) o [] ≡ option_map_or (λ (row : LvRow). copies_of row lp) t []
copies_by lp o t same = ap (λ (x : Option LvRow). option_map_or (λ (row : LvRow). copies_of row lp) x []) same

-- a volume that isn't there has none
pub no_copy : (d : Descriptor) (lv lp : ℕ) (p : Pp) → volume_of d lv ≡ None → IsOneOf (copies_in d lv lp) p → ⊥
no_copy d lv lp p none one = subst (λ (ps : List Pp). IsOneOf ps p) (copies_by lp (volume_of d lv) None none) one

-- ---- places

-- a partition stands in one place of a group
abbrev pub HasOnePlaceEach : Descriptor → Type 0
HasOnePlaceEach d = (row other : LvRow) (lp at : ℕ) (p : Pp) → IsOneOf d.lvs row → IsOneOf d.lvs other → IsOneOf (copies_of row lp) p → IsOneOf (copies_of other at) p → IsOnePlace row other lp at

-- so it is with a volume more, on partitions that were free
pub one_place_with : (d : Descriptor) (v : NewVolume) (lv : ℕ) (map : List Pp) → IsValid d → All (IsFree d) map → AllPairs (λ (a b : Pp). a ≢ b) map → HasOnePlaceEach (with_volume d (row_for v lv map))
one_place_with d v lv map valid free once row other lp at p one two a b = ⊎_elim
    (λ new. ⊎_elim
    (λ also. record { row_is = new ∙ sym also; lp_is = one_partition its lp at p once (in_its row lp new a) (in_its other at also b) })
    (λ old. absurd (not_both other at old b (of_map its lp p (in_its row lp new a))))
    (one_insert d.lvs (lv - 1) its other two))
    (λ old. ⊎_elim
    (λ new. absurd (not_both row lp old a (of_map its at p (in_its other at new b))))
    (λ also. one_place d row other lp at p valid old also a b)
    (one_insert d.lvs (lv - 1) its other two))
    (one_insert d.lvs (lv - 1) its row one)
  where
    its : LvRow
    its = row_for v lv map

    in_its : (r : LvRow) (n : ℕ) → r ≡ its → IsOneOf (copies_of r n) p → IsOneOf (copies_of its n) p
    in_its r n same is = subst (λ (x : LvRow). IsOneOf (copies_of x n) p) same is

    not_both : (r : LvRow) (n : ℕ) → IsOneOf d.lvs r → IsOneOf (copies_of r n) p → IsOneOf map p → ⊥
    not_both r n old is inside = All-contains (IsFree d) map p free (contains map p inside) (is_used d r n p old is)

-- ---- after a record

-- The descriptor is the group's now, and further ones of its copies are stale only where they were passed.
module _ (d : Descriptor) (a b : State) (is : b.core.descriptor ≡ d) (places : HasOnePlaceEach d)
    (only : (row : LvRow) (lp : ℕ) (p : Pp) → IsOneOf d.lvs row → IsOneOf (copies_of row lp) p → IsTrue (calls_stale b.core.status.wanted p) → IsTrue (calls_stale a.core.status.wanted p) ⊎ IsPassedOver d a.core.status b.core.status p) where
  abbrev fresh_now : Pp → Bool
  fresh_now p = not (is_wanted_stale b.core p)

  -- where one copy was fresh, one is
  pub one_stays : (lv lp : ℕ) (p : Pp) → IsOneOf (copies_in d lv lp) p → IsFalse (calls_stale a.core.status.wanted p) → HasFresh b.core lv lp
  one_stays lv lp p one was = subst (λ (x : Descriptor). IsTrue (list_any fresh_now (copies_in x lv lp))) (sym is) (by_mark (calls_stale b.core.status.wanted p) refl)
    where
      its : IsCopyOf d lv lp p
      its = copy_of d lv lp p one

      volume : IsOneOf d.lvs its.row
      volume = volume_is_row d lv its.row its.volume

      other_is : (passed : IsPassedOver d a.core.status b.core.status p) → IsOneOf (copies_in d lv lp) passed.its.other
      other_is passed =
          let found = passed.its in
          let place = places its.row found.row lp found.lp p volume found.volume its.one found.one in
          let same : copies_in d lv lp ≡ copies_of found.row found.lp = copies_by lp (volume_of d lv) (Some its.row) its.volume ∙ (λ t. copies_of (place.row_is t) (place.lp_is t)) in
          subst (λ (ps : List Pp). IsOneOf ps found.other) (sym same) found.among

      by_mark : (t : Bool) → calls_stale b.core.status.wanted p ≡ t → IsTrue (list_any fresh_now (copies_in d lv lp))
      by_mark false fresh = one_any fresh_now (copies_in d lv lp) p one (ap not fresh)
      by_mark true stale = ⊎_elim
          (λ before. absurd (false≢true (sym was ∙ before)))
          (λ passed. one_any fresh_now (copies_in d lv lp) passed.its.other (other_is passed) (ap not passed.fresh))
          (only its.row lp p volume its.one stale)

  -- so it is of a volume that is as it was
  pub volume_stays : (lv lp : ℕ) → volume_of d lv ≡ volume_of a.core.descriptor lv → HasFresh a.core lv lp → HasFresh b.core lv lp
  volume_stays lv lp same fresh =
      let p = any_one (λ (p : Pp). not (is_wanted_stale a.core p)) (copies_in a.core.descriptor lv lp) fresh in
      one_stays lv lp p.0 (subst (λ (ps : List Pp). IsOneOf ps p.0) (sym (copies_by lp (volume_of d lv) (volume_of a.core.descriptor lv) same)) p.1) (not_stale (is_wanted_stale a.core p.0) p.2)

  stays : (lv lp : ℕ) (p : Pp) → volume_of d lv ≡ volume_of a.core.descriptor lv → IsOneOf (copies_in d lv lp) p → (volume_of a.core.descriptor lv ≡ None) ⊎ HasFresh a.core lv lp → HasFresh b.core lv lp
  stays lv lp p same one how = ⊎_elim (λ none. absurd (no_copy d lv lp p (same ∙ none) one)) (λ fresh. volume_stays lv lp same fresh) how

  -- of all of them,
  pub keeps_all : d ≡ a.core.descriptor → KeepsFresh a b
  keeps_all same lv lp p one how = stays lv lp p (ap (λ (x : Descriptor). volume_of x lv) same) (subst (λ (x : Descriptor). IsOneOf (copies_in x lv lp) p) is one) how

  -- or of all but one
  pub keeps_others : (lv : ℕ) → DiffersInVolume lv a.core.descriptor d
      → ((lp : ℕ) (p : Pp) → IsOneOf (copies_in d lv lp) p → (volume_of a.core.descriptor lv ≡ None) ⊎ HasFresh a.core lv lp → HasFresh b.core lv lp) → KeepsFresh a b
  keeps_others lv differs its n lp p one how = by_number (n == lv) refl
    where
      here : IsOneOf (copies_in d n lp) p
      here = subst (λ (x : Descriptor). IsOneOf (copies_in x n lp) p) is one

      by_number : (t : Bool) → (n == lv) ≡ t → HasFresh b.core n lp
      by_number true test =
          let same : n ≡ lv = eqb-true n lv test in
          subst (λ (m : ℕ). HasFresh b.core m lp) (sym same)
          (its lp p (subst (λ (m : ℕ). IsOneOf (copies_in d m lp) p) same here) (subst (λ (m : ℕ). (volume_of a.core.descriptor m ≡ None) ⊎ HasFresh a.core m lp) same how))
      by_number false test = stays n lp p (differs.volumes n (λ same. false≢true (sym test ∙ eq-eqb n lv same))) here how

-- ---- one after the other

pub keeps_none : (s : State) → KeepsFresh s s
keeps_none s lv lp p one how = ⊎_elim (λ none. absurd (no_copy s.core.descriptor lv lp p none one)) (λ fresh. fresh) how

-- where the session is the same
pub keeps_same : (a b c : State) → c.core ≡ b.core → KeepsFresh a b → KeepsFresh a c
keeps_same a b c same keeps = subst (λ (x : Core). KeepsFresh a (record c { core = x })) (sym same) keeps

-- first with the descriptor that it was
pub keeps_then : (a b c : State) → b.core.descriptor ≡ a.core.descriptor → KeepsFresh a b → KeepsFresh b c → KeepsFresh a c
keeps_then a b c same one two lv lp p inside how = two lv lp p inside (⊎_elim
    (λ none. inl (ap (λ (x : Descriptor). volume_of x lv) same ∙ none))
    (λ fresh.
    let q = any_one (λ (q : Pp). not (is_wanted_stale a.core q)) (copies_in a.core.descriptor lv lp) fresh in
    inr (one lv lp q.0 (subst (λ (x : Descriptor). IsOneOf (copies_in x lv lp) q.0) (sym same) q.1) (inr fresh)))
    how)

-- or then with the descriptor that it was by then
pub keeps_behind : (a b c : State) → c.core.descriptor ≡ b.core.descriptor → KeepsFresh a b → KeepsFresh b c → KeepsFresh a c
keeps_behind a b c same one two lv lp p inside how =
    let here : IsOneOf (copies_in b.core.descriptor lv lp) p = subst (λ (d : Descriptor). IsOneOf (copies_in d lv lp) p) same inside in
    two lv lp p inside (inr (one lv lp p here how))
