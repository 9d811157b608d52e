-- What the rows of a survey show of some disks, taken together.
use Rattle.std.proofs.Common.{◌≡◌, ◌⊎◌, inl, inr, ⊎_elim, ℕ, ◌+◌, ◌<◌, ◌≤◌, max, false, List, length, Option, Some, refl, sym, ap, subst, ◌∙◌, arith}
use Rattle.std.specs.Prelude.{slice_get, IsTrue}
use Rattle.std.proofs.lemmas.Bool.{cases_lt, false≢true}
use Rattle.std.proofs.lemmas.Option.{slice_get_within}
use Rattle.lvm_num.specs.declared.record.Stamp.{Stamp}
use Rattle.lvm_num.specs.declared.descriptor.Descriptor.{Descriptor}
use Rattle.lvm_num.specs.declared.status.Status.{Status}
use Rattle.lvm_core.specs.Committing.{is_in}
use Rattle.lvm_quorum.specs.declared.row.SurveyRow.{SurveyRow}
use Rattle.lvm_quorum.specs.declared.row.Survey.{Survey}
use Rattle.lvm_quorum.specs.Surveyed.{surveyed}
use Rattle.lvm_quorum.specs.Reading.{under}
use Rattle.lvm_quorum.proofs.SurveyedLemmas.SurveyRows.{descriptor_shown, status_shown}
use Rattle.lvm_group.proofs.JudgedLemmas.{descriptor_row, status_row, same_row}
use Rattle.lvm_extend_plan.specs.Judged.{HasForeign, ShowsForeign, HasEpoch, IsLastOf, ShowsEpoch, ShowsUpTo}

-- what holds of each row below one whose disk is named, and of the next row where its disk is, holds of each row below the next
pub rows_more : (P : SurveyRow → Type 0) (s : Survey) (disks : List ℕ) (n : ℕ) (row : SurveyRow) → slice_get s.rows n ≡ Some row
    → ((d : ℕ) (r : SurveyRow) → d < n → slice_get s.rows d ≡ Some r → IsTrue (is_in disks d) → P r) → (IsTrue (is_in disks n) → P row)
    → (d : ℕ) (r : SurveyRow) → d < n + 1 → slice_get s.rows d ≡ Some r → IsTrue (is_in disks d) → P r
rows_more P s disks n row at below here d r lt on named = ⊎_elim
    (λ (before : d < n). below d r before on named)
    (λ (its : n ≤ d).
    let same : d ≡ n = omega (arith, its, lt) in
    subst P (same_row s n row r at (subst (λ (e : ℕ). slice_get s.rows e ≡ Some r) same on)) (here (subst (λ (e : ℕ). IsTrue (is_in disks e)) same named)))
    (cases_lt d n)

-- so it holds of all where the last row is behind
pub rows_all : (P : SurveyRow → Type 0) (s : Survey) (disks : List ℕ) (n : ℕ) → length s.rows ≤ n → ((d : ℕ) (r : SurveyRow) → d < n → slice_get s.rows d ≡ Some r → IsTrue (is_in disks d) → P r)
    → (d : ℕ) (r : SurveyRow) → slice_get s.rows d ≡ Some r → IsTrue (is_in disks d) → P r
rows_all P s disks n all below d r on named = let lt = slice_get_within s.rows d r on in below d r (omega (arith, lt, all)) on named

-- ---- another group

pub foreign_shows : (s : Survey) (disks : List ℕ) (id d : ℕ) (row : SurveyRow) → slice_get s.rows d ≡ Some row → IsTrue (is_in disks d) → HasForeign row id → ShowsForeign (surveyed s) disks id
foreign_shows s disks id d row at named foreign = record {
  disk = d;
  named = named;
  newest = record { stamp = row.descriptor_stamp; value = foreign.0 };
  on = descriptor_shown s d row at ∙ ap (λ (o : Option Descriptor). under o row.descriptor_stamp) foreign.1;
  other = foreign.2;
}

pub none_foreign : (s : Survey) (disks : List ℕ) (id : ℕ) → ((d : ℕ) (r : SurveyRow) → slice_get s.rows d ≡ Some r → IsTrue (is_in disks d) → HasForeign r id → ⊥) → ShowsForeign (surveyed s) disks id → ⊥
none_foreign s disks id none shows = let at = descriptor_row s shows.disk shows.newest shows.on in none shows.disk at.0 at.1 shows.named (shows.newest.value, at.2, shows.other)

-- ---- moments

-- a row of one of the disks that has the moment
abbrev pub HasRow : Survey → List ℕ → ℕ → Type 0
HasRow s disks m = (d : ℕ) × (row : SurveyRow) × (slice_get s.rows d ≡ Some row) × IsTrue (is_in disks d) × HasEpoch row m

row_shows : (s : Survey) (disks : List ℕ) (m : ℕ) → HasRow s disks m → ShowsEpoch (surveyed s) disks m
row_shows s disks m (d, row, at, named, inl epoch) =
    inl (d, record { stamp = row.descriptor_stamp; value = epoch.0 }, named, descriptor_shown s d row at ∙ ap (λ (o : Option Descriptor). under o row.descriptor_stamp) epoch.1, epoch.2)
row_shows s disks m (d, row, at, named, inr status) =
    inr (d, record { stamp = row.status_stamp; value = status.0 }, named, status_shown s d row at ∙ ap (λ (o : Option Status). under o row.status_stamp) status.1, status.2)

shown_row : (s : Survey) (disks : List ℕ) (m : ℕ) → ShowsEpoch (surveyed s) disks m → HasRow s disks m
shown_row s disks m (inl (d, r, named, on, its)) = let at = descriptor_row s d r on in (d, at.0, at.1, named, inl (r.value, at.2, ap (λ (stamp : Stamp). stamp.epoch) at.3 ∙ its))
shown_row s disks m (inr (d, r, named, on, its)) = let at = status_row s d r on in (d, at.0, at.1, named, inr (r.value, at.2, ap (λ (stamp : Stamp). stamp.epoch) at.3 ∙ its))

-- the greatest moment of the rows below one whose disks are named, 0 where they have none
pub record IsLastBelow (s : Survey) (disks : List ℕ) (n last : ℕ) : Type 0 where
  pub all : (d : ℕ) (row : SurveyRow) → d < n → slice_get s.rows d ≡ Some row → IsTrue (is_in disks d) → (m : ℕ) → HasEpoch row m → m ≤ last
  pub one : (last ≡ 0) ⊎ HasRow s disks last

pub last_none : (s : Survey) (disks : List ℕ) → IsLastBelow s disks 0 0
last_none s disks = record { all = λ d row lt. absurd (omega (arith, lt)); one = inl refl }

-- a row whose disk isn't named
pub last_same : (s : Survey) (disks : List ℕ) (n last : ℕ) (row : SurveyRow) → slice_get s.rows n ≡ Some row → is_in disks n ≡ false → IsLastBelow s disks n last → IsLastBelow s disks (n + 1) last
last_same s disks n last row at off below = record {
  all = rows_more (λ (r : SurveyRow). (m : ℕ) → HasEpoch r m → m ≤ last) s disks n row at below.all (λ named. absurd (false≢true (sym off ∙ named)));
  one = below.one;
}

-- and one whose disk is
pub last_more : (s : Survey) (disks : List ℕ) (n last own next : ℕ) (row : SurveyRow)
    → slice_get s.rows n ≡ Some row → IsTrue (is_in disks n) → IsLastBelow s disks n last → IsLastOf row own → next ≡ max last own → IsLastBelow s disks (n + 1) next
last_more s disks n last own next row at named below of is = record {
  all = rows_more (λ (r : SurveyRow). (m : ℕ) → HasEpoch r m → m ≤ next) s disks n row at
      (λ d r lt on its m has. let le = below.all d r lt on its m has in omega (arith, le, is))
      (λ its m has. let le = of.all m has in omega (arith, le, is));
  one = by_order (cases_lt last own);
}
  where
    by_order : (last < own) ⊎ (own ≤ last) → (next ≡ 0) ⊎ HasRow s disks next
    by_order (inl up) =
        let e : next ≡ own = omega (arith, is, up) in
        ⊎_elim (λ (z : own ≡ 0). inl (e ∙ z)) (λ (has : HasEpoch row own). inr (subst (HasRow s disks) (sym e) (n, row, at, named, has))) of.one
    by_order (inr down) =
        let e : next ≡ last = omega (arith, is, down) in
        ⊎_elim (λ (z : last ≡ 0). inl (e ∙ z)) (λ (has : HasRow s disks last). inr (subst (HasRow s disks) (sym e) has)) below.one

pub last_all : (s : Survey) (disks : List ℕ) (n last : ℕ) → length s.rows ≤ n → IsLastBelow s disks n last → ShowsUpTo (surveyed s) disks last
last_all s disks n last all below m shows =
    let at = shown_row s disks m shows in
    rows_all (λ (r : SurveyRow). (m : ℕ) → HasEpoch r m → m ≤ last) s disks n all below.all at.0 at.1 at.2 at.3 m at.4

pub last_shown : (s : Survey) (disks : List ℕ) (n last : ℕ) → IsLastBelow s disks n last → (last ≡ 0) ⊎ ShowsEpoch (surveyed s) disks last
last_shown s disks n last below = ⊎_elim (λ (z : last ≡ 0). inl z) (λ (has : HasRow s disks last). inr (row_shows s disks last has)) below.one
