-- A transfer isn't out any more.
use Rattle.std.proofs.Common.{◌≡◌, ◌==◌, ◌+◌, ℕ, zero, suc, Bool, true, false, ◌&&◌, ◌||◌, List, [], ◌∷◌, ◌++◌, Option, Some, slice_get, refl, sym, ◌∙◌, ap, subst, arith}
use Rattle.std.specs.Prelude.{count_by, slice_index_or, slice_set}
use Rattle.std.specs.List.{list_any, remove, AllByRecursion}
use Rattle.std.proofs.lemmas.Bool.{eq-eqb}
use Rattle.lvm_num.specs.Buffer.{Buffer}
use Rattle.lvm_num.proofs.Booleans.{not_so}
use Rattle.lvm_disk.specs.Device.{Flight, Media}
use Rattle.lvm_disk.specs.Steps.{Removes}
use Rattle.lvm_session.specs.declared.flown.Flown.{Flown}
use Rattle.lvm_session.specs.declared.flown.Owner.{Owner}
use Rattle.lvm_session.specs.declared.flown.Owner.TheVariants as owner
use Rattle.lvm_session.specs.declared.open.Power.TheVariants as power
use Rattle.lvm_session.specs.State.{Core, State}
use Rattle.lvm_session.specs.Owners.{AreOwned, AreRows, HaveTickets, IsRowOf, flies, same_owner}
use Rattle.lvm_session.specs.Sound.{IsSound, count_if, hands_with, has_number, is_dark, is_hand, out_with}
use Rattle.lvm_keeps.proofs.DarkLemmas.Ending.{back}
use Rattle.lvm_keeps.proofs.Lists.{count_cons}

-- ---- one of a list goes

module _ {A : Type 0} where
  pub count_taken : (t : A → Bool) (xs : List A) (k : ℕ) (x : A) → slice_get xs k ≡ Some x → count_by t (remove xs k) + count_if (t x) ≡ count_by t xs
  count_taken t [] k x there = absurd (cc there)
  count_taken t (z ∷ xs) zero x there =
      let is : z ≡ x = cc there in
      let one : count_if (t z) ≡ count_if (t x) = ap (λ y. count_if (t y)) is in
      let old = count_cons t z xs in
      omega (arith, one, old)
  count_taken t (z ∷ xs) (suc k) x there =
      let rest = count_taken t xs k x there in
      let new = count_cons t z (remove xs k) in
      let old = count_cons t z xs in
      omega (arith, rest, new, old)

  any_left : (t : A → Bool) (xs : List A) (k : ℕ) → list_any t xs ≡ false → list_any t (remove xs k) ≡ false
  any_left t [] zero none = refl
  any_left t [] (suc k) none = refl
  any_left t (x ∷ xs) zero none = by (t x) none
    where
      by : (b : Bool) → b || list_any t xs ≡ false → list_any t xs ≡ false
      by true e = not_so (sym e)
      by false e = e
  any_left t (x ∷ xs) (suc k) none = by (t x) (λ e. any_left t xs k e) none
    where
      by : (b : Bool) → (list_any t xs ≡ false → list_any t (remove xs k) ≡ false) → b || list_any t xs ≡ false → b || list_any t (remove xs k) ≡ false
      by true rest e = not_so (sym e)
      by false rest e = rest e

  -- none passes of which none is counted
  none_counted : (t : A → Bool) (xs : List A) → count_by t xs ≡ 0 → AllByRecursion (λ (x : A). t x ≡ false) xs
  none_counted t [] none = tt
  none_counted t (x ∷ xs) none = (by (t x) refl, none_counted t xs (let more = count_cons t x xs in omega (arith, more, none)))
    where
      by : (b : Bool) → t x ≡ b → t x ≡ false
      by false is = is
      by true is = let more = count_cons t x xs in let one : count_if (t x) ≡ 1 = ap count_if is in absurd (omega (arith, more, none, one))

-- ---- its row and its flight

pub record IsOut (core : Core) (flights left : List Flight) (at : ℕ) (row : Flown) (f : Flight) : Type 0 where
  pub there : slice_get flights at ≡ Some f
  pub left_is : left ≡ remove flights at
  pub own : IsRowOf core row f

-- a flight's ticket is in the list
listed : (core : Core) (rows : List Flown) (before after : List Flight) (f : Flight) → AreRows core rows (before ++ f ∷ after) → list_any (λ (r : Flown). r.ticket == f.ticket) rows ≡ true
listed core [] [] after f all = absurd all
listed core [] (b ∷ before) after f all = absurd all
listed core (r ∷ rows) [] after f all = ap (λ b. b || list_any (λ (x : Flown). x.ticket == f.ticket) rows) (eq-eqb r.ticket f.ticket (sym all.0.ticket))
listed core (r ∷ rows) (b ∷ before) after f all = ap (λ c. r.ticket == f.ticket || c) (listed core rows before after f all.1) ∙ or_true (r.ticket == f.ticket)
  where
    or_true : (a : Bool) → a || true ≡ true
    or_true true = refl
    or_true false = refl

has_ticket : (rows : List Flown) (at : ℕ) (row : Flown) (ticket : ℕ) → slice_get rows at ≡ Some row → row.ticket ≡ ticket → list_any (λ (r : Flown). r.ticket == ticket) rows ≡ true
has_ticket [] at row ticket there same = absurd (cc there)
has_ticket (r ∷ rows) zero row ticket there same = let is : r ≡ row = cc there in ap (λ b. b || list_any (λ (x : Flown). x.ticket == ticket) rows) (eq-eqb r.ticket ticket (ap (λ (x : Flown). x.ticket) is ∙ same))
has_ticket (r ∷ rows) (suc at) row ticket there same = ap (λ c. r.ticket == ticket || c) (has_ticket rows at row ticket there same) ∙ or_true (r.ticket == ticket)
  where
    or_true : (a : Bool) → a || true ≡ true
    or_true true = refl
    or_true false = refl

pub out_at : (core : Core) (rows : List Flown) (before after : List Flight) (at : ℕ) (row : Flown) (f : Flight) → AreRows core rows (before ++ f ∷ after) → HaveTickets rows → slice_get rows at ≡ Some row → f.ticket ≡ row.ticket → IsOut core (before ++ f ∷ after) (before ++ after) at row f
out_at core [] before after at row f all have there same = absurd (cc there)
out_at core (r ∷ rows) [] after zero row f all have there same = let is : r ≡ row = cc there in record { there = refl; left_is = refl; own = subst (λ x. IsRowOf core x f) is all.0 }
out_at core (r ∷ rows) [] after (suc at) row f all have there same = not_so (sym have.0 ∙ has_ticket rows at row r.ticket there (sym same ∙ all.0.ticket))
out_at core (r ∷ rows) (b ∷ before) after zero row f all have there same =
    let is : r ≡ row = cc there in
    not_so (sym have.0 ∙ ap (λ n. list_any (λ (x : Flown). x.ticket == n) rows) (sym (same ∙ ap (λ (x : Flown). x.ticket) (sym is))) ∙ listed core rows before after f all.1)
out_at core (r ∷ rows) (b ∷ before) after (suc at) row f all have there same =
    let rest = out_at core rows before after at row f all.1 have.1 there same in
    record { there = rest.there; left_is = ap (λ (fs : List Flight). b ∷ fs) rest.left_is; own = rest.own }

-- so it is of the flight that a shelf has removed
pub taken_out : (core : Core) (rows : List Flown) (old new : List Flight) (at : ℕ) (row : Flown) (f : Flight) → AreRows core rows old → HaveTickets rows → slice_get rows at ≡ Some row → Removes f old new → f.ticket ≡ row.ticket → IsOut core old new at row f
taken_out core rows old new at row f all have there removes same =
    subst (λ (fs : List Flight). IsOut core fs new at row f) (sym removes.was) (subst (λ (fs : List Flight). IsOut core (removes.before ++ f ∷ removes.after) fs at row f) (sym removes.is)
    (out_at core rows removes.before removes.after at row f (subst (λ (fs : List Flight). AreRows core rows fs) removes.was all) have there same))

pub rows_left : (core : Core) (rows : List Flown) (flights : List Flight) (at : ℕ) → AreRows core rows flights → AreRows core (remove rows at) (remove flights at)
rows_left core [] [] zero all = all
rows_left core [] [] (suc at) all = all
rows_left core [] (f ∷ flights) at all = absurd all
rows_left core (r ∷ rows) [] at all = absurd all
rows_left core (r ∷ rows) (f ∷ flights) zero all = all.1
rows_left core (r ∷ rows) (f ∷ flights) (suc at) all = (all.0, rows_left core rows flights at all.1)

pub tickets_left : (rows : List Flown) (at : ℕ) → HaveTickets rows → HaveTickets (remove rows at)
tickets_left [] zero all = all
tickets_left [] (suc at) all = all
tickets_left (r ∷ rows) zero all = all.1
tickets_left (r ∷ rows) (suc at) all = (any_left (λ (other : Flown). other.ticket == r.ticket) rows at all.0, tickets_left rows at all.1)

-- ---- whose it was

self : (who : Owner) → same_owner who who ≡ true
self (owner.Data id target) = ap (λ b. b && target == target) (eq-eqb id id refl) ∙ eq-eqb target target refl
self (owner.Status disk) = eq-eqb disk disk refl
self (owner.Note disk) = eq-eqb disk disk refl
self owner.Copy = refl

module _ (core : Core) (owned : AreOwned core) (at : ℕ) (row : Flown) (there : slice_get core.flying at ≡ Some row) where
  same_self : same_owner row.owner row.owner ≡ true
  same_self = self row.owner

  -- its owner had one out, and has none more
  pub was_out : flies core row.owner ≡ true
  was_out = by (flies core row.owner) refl
    where
      by : (b : Bool) → flies core row.owner ≡ b → b ≡ true
      by true is = refl
      by false is =
          let all = count_taken (λ (g : Flown). same_owner row.owner g.owner) core.flying at row there in
          let one : count_if (same_owner row.owner row.owner) ≡ 1 = ap count_if same_self in
          let none = owned row.owner ∙ ap count_if is in
          absurd (omega (arith, all, one, none))

  pub none_left : count_by (λ (g : Flown). same_owner row.owner g.owner) (remove core.flying at) ≡ 0
  none_left =
      let all = count_taken (λ (g : Flown). same_owner row.owner g.owner) core.flying at row there in
      let one : count_if (same_owner row.owner row.owner) ≡ 1 = ap count_if same_self in
      let was = owned row.owner ∙ ap count_if was_out in
      omega (arith, all, one, was)

  -- the others have other owners
  pub others : AllByRecursion (λ (g : Flown). same_owner row.owner g.owner ≡ false) (remove core.flying at)
  others = none_counted (λ (g : Flown). same_owner row.owner g.owner) (remove core.flying at) none_left

  -- another owner has as many
  pub as_many : (who : Owner) → same_owner who row.owner ≡ false → count_by (λ (g : Flown). same_owner who g.owner) (remove core.flying at) ≡ count_by (λ (g : Flown). same_owner who g.owner) core.flying
  as_many who other =
      let all = count_taken (λ (g : Flown). same_owner who g.owner) core.flying at row there in
      let none : count_if (same_owner who row.owner) ≡ 0 = ap count_if other in
      omega (arith, all, none)

-- ---- its buffer comes back

-- to the pool, where as much is in hand as before
pub given_back : (s : State) (sound : IsSound s) (on : s.core.power ≡ power.On) (at : ℕ) (f : Flight) (there : slice_get s.device.flights at ≡ Some f) (buf : Buffer) (number : buf.number ≡ f.buf.number) (media : Option Media) (now : Core)
    → ((n : ℕ) → hands_with now n ≡ hands_with s.core n) → (n : ℕ) → out_with (record s.device { media = media; flights = remove s.device.flights at }) now n ≡ count_if (slice_index_or (slice_set s.core.pool buf.number false) n false)
given_back s sound on at f there buf number media now hands n =
    let was = sound.none_lost (ap is_dark on) n in
    let same = hands n in
    let hand : count_if (is_hand n (Some buf)) ≡ count_if (has_number n f.buf) = ap (λ k. count_if (k == n)) number in
    let less = count_taken (λ (g : Flight). has_number n g.buf) s.device.flights at f there in
    let given = back s.core.pool (Some buf) n (omega (arith, was, hand, less)) in
    omega (arith, was, same, hand, less, given)
