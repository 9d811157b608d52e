-- A transfer is started.
use Rattle.std.proofs.Common.{◌≡◌, ◌==◌, ◌+◌, ℕ, zero, suc, Bool, true, false, ◌||◌, List, [], ◌∷◌, ◌++◌, Some, slice_get, slice_set, refl, sym, ◌∙◌, ap, arith}
use Rattle.std.specs.Prelude.{count_by, slice_index_or}
use Rattle.std.proofs.lemmas.Bool.{eqb-true, eqb-false, ne_eqb}
use Rattle.std.proofs.lemmas.List.Sums.{sum_by_push}
use Rattle.lvm_session.specs.passed.Disk.{Flight, IsNewTicket}
use Rattle.lvm_vol.proofs.FactsLemmas.Order.{any-push}
use Rattle.lvm_session.specs.declared.flown.Flown.{Flown}
use Rattle.lvm_session.specs.declared.flown.Owner.{Owner}
use Rattle.lvm_session.specs.State.{Core}
use Rattle.lvm_session.specs.Owners.{AreRows, HaveTickets, IsRowOf, same_owner}
use Rattle.lvm_session.specs.Sound.{count_if}

-- ---- its buffer

taken_at : (pool : List Bool) (k : ℕ) → slice_get pool k ≡ Some false → (slice_index_or pool k false ≡ false) × (slice_index_or (slice_set pool k true) k false ≡ true)
taken_at [] k free = absurd (cc free)
taken_at (b ∷ pool) zero free = (let is : b ≡ false = cc free in is, refl)
taken_at (b ∷ pool) (suc k) free = taken_at pool k free

beside_taken : (pool : List Bool) (k n : ℕ) → (n ≡ k → ⊥) → slice_index_or (slice_set pool k true) n false ≡ slice_index_or pool n false
beside_taken [] k n other = refl
beside_taken (b ∷ pool) zero zero other = absurd (other refl)
beside_taken (b ∷ pool) zero (suc n) other = refl
beside_taken (b ∷ pool) (suc k) zero other = refl
beside_taken (b ∷ pool) (suc k) (suc n) other = beside_taken pool k n (λ e. other (ap suc e))

-- one more is out
pub taken : (pool : List Bool) (k n : ℕ) → slice_get pool k ≡ Some false → count_if (slice_index_or (slice_set pool k true) n false) ≡ count_if (slice_index_or pool n false) + count_if (k == n)
taken pool k n free = by (k == n) refl
  where
    by : (b : Bool) → (k == n) ≡ b → count_if (slice_index_or (slice_set pool k true) n false) ≡ count_if (slice_index_or pool n false) + count_if (k == n)
    by true is =
        let same = eqb-true k n is in
        let at = taken_at pool k free in
        let now : count_if (slice_index_or (slice_set pool k true) n false) ≡ 1 = ap (λ m. count_if (slice_index_or (slice_set pool k true) m false)) (sym same) ∙ ap count_if at.1 in
        let was : count_if (slice_index_or pool n false) ≡ 0 = ap (λ m. count_if (slice_index_or pool m false)) (sym same) ∙ ap count_if at.0 in
        let one : count_if (k == n) ≡ 1 = ap count_if is in
        omega (arith, now, was, one)
    by false is =
        let same : count_if (slice_index_or (slice_set pool k true) n false) ≡ count_if (slice_index_or pool n false) = ap count_if (beside_taken pool k n (λ e. eqb-false k n is (sym e))) in
        let none : count_if (k == n) ≡ 0 = ap count_if is in
        omega (arith, same, none)

-- ---- its row

pub rows_push : (core : Core) (row : Flown) (f : Flight) → IsRowOf core row f → (rows : List Flown) (flights : List Flight) → AreRows core rows flights → AreRows core (rows ++ row ∷ []) (flights ++ f ∷ [])
rows_push core row f its [] [] all = (its, tt)
rows_push core row f its [] (g ∷ flights) all = absurd all
rows_push core row f its (r ∷ rows) [] all = absurd all
rows_push core row f its (r ∷ rows) (g ∷ flights) all = (all.0, rows_push core row f its rows flights all.1)

-- its ticket is new
pub tickets_push : (core : Core) (row : Flown) (rows : List Flown) (flights : List Flight) → AreRows core rows flights → IsNewTicket row.ticket flights → HaveTickets rows → HaveTickets (rows ++ row ∷ [])
tickets_push core row [] flights all fresh have = (refl, tt)
tickets_push core row (r ∷ rows) [] all fresh have = absurd all
tickets_push core row (r ∷ rows) (g ∷ flights) all fresh have = (
  any-push (λ (other : Flown). other.ticket == r.ticket) rows row ∙ ap (λ b. b || row.ticket == r.ticket) have.0 ∙ ne_eqb row.ticket r.ticket (λ e. fresh.0 (all.0.ticket ∙ sym e)),
  tickets_push core row rows flights all.1 fresh.1 have.1,
)

pub owners_push : (who : Owner) (row : Flown) (rows : List Flown) → count_by (λ (f : Flown). same_owner who f.owner) (rows ++ row ∷ []) ≡ count_by (λ (f : Flown). same_owner who f.owner) rows + count_if (same_owner who row.owner)
owners_push who row rows = sum_by_push (λ (f : Flown). count_if (same_owner who f.owner)) rows row

-- another owner has as many
pub none_more : (who : Owner) (row : Flown) (rows : List Flown) → same_owner who row.owner ≡ false → count_by (λ (g : Flown). same_owner who g.owner) (rows ++ row ∷ []) ≡ count_by (λ (g : Flown). same_owner who g.owner) rows
none_more who row rows other =
    let more = owners_push who row rows in
    let none : count_if (same_owner who row.owner) ≡ 0 = ap count_if other in
    omega (arith, more, none)

-- its buffer is out
pub flights_push : (t : Flight → Bool) (f : Flight) (flights : List Flight) → count_by t (flights ++ f ∷ []) ≡ count_by t flights + count_if (t f)
flights_push t f flights = sum_by_push (λ (g : Flight). count_if (t g)) flights f
