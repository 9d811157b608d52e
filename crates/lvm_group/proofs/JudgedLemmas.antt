-- What the rows of a survey show, taken together.
use Rattle.std.proofs.Common.{◌≡◌, ◌⊎◌, inl, inr, ⊎_elim, ℕ, ◌+◌, ◌<◌, ◌≤◌, max, Bool, length, Option, Some, None, refl, sym, ap, subst, ◌∙◌, arith}
use Rattle.std.specs.Prelude.{slice_get, option_and_then}
use Rattle.std.proofs.lemmas.Bool.{cases_lt}
use Rattle.std.proofs.lemmas.Option.{slice_get_within}
use Rattle.lvm_num.specs.declared.record.Stamp.{Stamp}
use Rattle.lvm_num.specs.declared.descriptor.Descriptor.{Descriptor}
use Rattle.lvm_num.specs.declared.status.Status.{Status}
use Rattle.lvm_num.specs.Record.{Stamped}
use Rattle.lvm_quorum.specs.declared.row.SurveyRow.{SurveyRow}
use Rattle.lvm_quorum.specs.declared.row.Survey.{Survey}
use Rattle.lvm_quorum.specs.Surveyed.{surveyed}
use Rattle.lvm_quorum.specs.Reading.{under}
use Rattle.lvm_quorum.proofs.SurveyedLemmas.SurveyRows.{descriptor_shown, status_shown}
use Rattle.lvm_group.specs.Shown.{HasGroup, ShowsEarlier, ShowsMoment}
use Rattle.lvm_group.specs.Judged.{DiskIsTaken, HasMoment, IsLastOf}

-- ---- from what is shown to a row

under_is : {X : Type 0} (o : Option X) (stamp : Stamp) (r : Stamped X) → under o stamp ≡ Some r → (o ≡ Some r.value) × (stamp ≡ r.stamp)
under_is None stamp r is = absurd cc
under_is (Some x) stamp r is = (cc, cc)

-- the row that shows a record under a stamp
row_shown : {X : Type 0} (value : SurveyRow → Option X) (stamp : SurveyRow → Stamp) (r : Stamped X) (o : Option SurveyRow) → option_and_then (λ (row : SurveyRow). under (value row) (stamp row)) o ≡ Some r
    → (row : SurveyRow) × (o ≡ Some row) × (value row ≡ Some r.value) × (stamp row ≡ r.stamp)
row_shown value stamp r None is = absurd cc
row_shown value stamp r (Some row) is = let two = under_is (value row) (stamp row) r is in (row, refl, two.0, two.1)

pub descriptor_row : (s : Survey) (d : ℕ) (r : Stamped Descriptor) → (surveyed s).descriptor d ≡ Some r
    → (row : SurveyRow) × (slice_get s.rows d ≡ Some row) × (row.descriptor ≡ Some r.value) × (row.descriptor_stamp ≡ r.stamp)
descriptor_row s d r is = row_shown (λ row. row.descriptor) (λ row. row.descriptor_stamp) r (slice_get s.rows d) is

pub status_row : (s : Survey) (d : ℕ) (r : Stamped Status) → (surveyed s).status d ≡ Some r
    → (row : SurveyRow) × (slice_get s.rows d ≡ Some row) × (row.status ≡ Some r.value) × (row.status_stamp ≡ r.stamp)
status_row s d r is = row_shown (λ row. row.status) (λ row. row.status_stamp) r (slice_get s.rows d) is

-- ---- a group

pub taken_shows : (s : Survey) (force : Bool) (d : ℕ) (row : SurveyRow) → slice_get s.rows d ≡ Some row → DiskIsTaken row force → HasGroup (surveyed s) force
taken_shows s force d row at taken = record {
  disk = d;
  newest = record { stamp = row.descriptor_stamp; value = taken.group };
  on = descriptor_shown s d row at ∙ ap (λ (o : Option Descriptor). under o row.descriptor_stamp) taken.on;
  with_force = taken.with_force;
}

-- none of the rows below one is of a disk in a group
abbrev pub NoneTaken : Survey → Bool → ℕ → Type 0
NoneTaken s force n = (d : ℕ) (row : SurveyRow) → d < n → slice_get s.rows d ≡ Some row → DiskIsTaken row force → ⊥

pub none_shown : (s : Survey) (force : Bool) (n : ℕ) → length s.rows ≤ n → NoneTaken s force n → HasGroup (surveyed s) force → ⊥
none_shown s force n all none has =
    let at = descriptor_row s has.disk has.newest has.on in
    let lt = slice_get_within s.rows has.disk at.0 at.1 in
    none has.disk at.0 (omega (arith, lt, all)) at.1 (record { group = has.newest.value; on = at.2; with_force = has.with_force })

-- ---- moments

row_shows : (s : Survey) (d : ℕ) (row : SurveyRow) (m : ℕ) → slice_get s.rows d ≡ Some row → HasMoment row m → ShowsMoment (surveyed s) m
row_shows s d row m at (inl epoch) = inl (d, record { stamp = row.descriptor_stamp; value = epoch.0 }, descriptor_shown s d row at ∙ ap (λ (o : Option Descriptor). under o row.descriptor_stamp) epoch.1, epoch.2)
row_shows s d row m at (inr (inl id)) = inr (inl (d, record { stamp = row.descriptor_stamp; value = id.0 }, descriptor_shown s d row at ∙ ap (λ (o : Option Descriptor). under o row.descriptor_stamp) id.1, id.2))
row_shows s d row m at (inr (inr status)) = inr (inr (d, record { stamp = row.status_stamp; value = status.0 }, status_shown s d row at ∙ ap (λ (o : Option Status). under o row.status_stamp) status.1, status.2))

-- a row that has the moment
abbrev pub HasRow : Survey → ℕ → Type 0
HasRow s m = (d : ℕ) × (row : SurveyRow) × (slice_get s.rows d ≡ Some row) × HasMoment row m

pub shown_row : (s : Survey) (m : ℕ) → ShowsMoment (surveyed s) m → HasRow s m
shown_row s m (inl epoch) =
    let at = descriptor_row s epoch.0 epoch.1 epoch.2 in
    (epoch.0, at.0, at.1, inl (epoch.1.value, at.2, ap (λ (stamp : Stamp). stamp.epoch) at.3 ∙ epoch.3))
shown_row s m (inr (inl id)) = let at = descriptor_row s id.0 id.1 id.2 in (id.0, at.0, at.1, inr (inl (id.1.value, at.2, id.3)))
shown_row s m (inr (inr status)) =
    let at = status_row s status.0 status.1 status.2 in
    (status.0, at.0, at.1, inr (inr (status.1.value, at.2, ap (λ (stamp : Stamp). stamp.epoch) at.3 ∙ status.3)))

-- the greatest moment of the rows below one, 0 where they have none
pub record IsLastBelow (s : Survey) (n last : ℕ) : Type 0 where
  pub all : (d : ℕ) (row : SurveyRow) → d < n → slice_get s.rows d ≡ Some row → (m : ℕ) → HasMoment row m → m ≤ last
  pub one : (last ≡ 0) ⊎ HasRow s last

pub last_none : (s : Survey) → IsLastBelow s 0 0
last_none s = record { all = λ d row lt. absurd (omega (arith, lt)); one = inl refl }

pub same_row : (s : Survey) (d : ℕ) (a b : SurveyRow) → slice_get s.rows d ≡ Some a → slice_get s.rows d ≡ Some b → a ≡ b
same_row s d a b p q = cc

pub last_more : (s : Survey) (n last own next : ℕ) (row : SurveyRow) → slice_get s.rows n ≡ Some row → IsLastBelow s n last → IsLastOf row own → next ≡ max last own → IsLastBelow s (n + 1) next
last_more s n last own next row at below of is = record {
  all = λ d other lt on m has. ⊎_elim
      (λ (before : d < n). let le = below.all d other before on m has in omega (arith, le, is))
      (λ (here : n ≤ d).
      let same : d ≡ n = omega (arith, here, lt) in
      let its : HasMoment row m = subst (λ (r : SurveyRow). HasMoment r m) (same_row s n other row (subst (λ e. slice_get s.rows e ≡ Some other) same on) at) has in
      let le = of.all m its in omega (arith, le, is))
      (cases_lt d n);
  one = by_order (cases_lt last own);
}
  where
    by_order : (last < own) ⊎ (own ≤ last) → (next ≡ 0) ⊎ HasRow s next
    by_order (inl up) =
        let e : next ≡ own = omega (arith, is, up) in
        ⊎_elim (λ (z : own ≡ 0). inl (e ∙ z)) (λ (has : HasMoment row own). inr (subst (HasRow s) (sym e) (n, row, at, has))) of.one
    by_order (inr down) =
        let e : next ≡ last = omega (arith, is, down) in
        ⊎_elim (λ (z : last ≡ 0). inl (e ∙ z)) (λ (has : HasRow s last). inr (subst (HasRow s) (sym e) has)) below.one

pub last_all : (s : Survey) (n last : ℕ) → length s.rows ≤ n → IsLastBelow s n last → ShowsEarlier (surveyed s) (last + 1)
last_all s n last all below m shows =
    let at = shown_row s m shows in
    let lt = slice_get_within s.rows at.0 at.1 at.2 in
    let le = below.all at.0 at.1 (omega (arith, lt, all)) at.2 m at.3 in
    omega (arith, le)

pub last_shown : (s : Survey) (n last : ℕ) → IsLastBelow s n last → (last ≡ 0) ⊎ ShowsMoment (surveyed s) last
last_shown s n last below = ⊎_elim (λ (z : last ≡ 0). inl z) (λ (has : HasRow s last). inr (row_shows s has.0 has.1 last has.2 has.3)) below.one
