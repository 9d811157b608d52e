-- Requests begin by rising numbers.
use Rattle.std.proofs.Common.{◌≡◌, ◌+◌, ◌==◌, inl, inr, ℕ, zero, suc, Bool, true, false, cond, List, [], ◌∷◌, Option, Some, None, length, take, count_by, slice_get, refl, sym, ◌∙◌, ap, subst, arith}
use Rattle.std.proofs.lemmas.Bool.Decides.{nat_tests}
use Rattle.std.proofs.lemmas.List.{take_all}
use Rattle.std.proofs.lemmas.List.Sums.{sum_by-cons}
use Rattle.lvm_vol.specs.declared.entry.Entry.{Entry}
use Rattle.lvm_vol.specs.Facts.{Request, Fact, Making, Made, Split, Removing, Removed, Begun, Landed, Taken, Cut, On, IsInList, begun}
use Rattle.lvm_vol.specs.Legal.{begins_in}
use Rattle.lvm_vol.specs.Log.{Log, entries_from, entries_of, entry_at, next_id}
use Rattle.lvm_vol.specs.Order.{Ordered}
use Rattle.lvm_vol.proofs.FactsLemmas.Order.{IdsFrom, numbered}
use Rattle.lvm_calls.specs.Numbers.{IsNumberAt, begun_in, number_of}

abbrev one_if : Bool → ℕ
one_if is = cond is 1 0

module _ (run : ℕ) where
  abbrev in_first : ℕ → List Fact → ℕ
  in_first n facts = count_by (begins_in run) (take n facts)

  -- the numbers rise from n on, and the requests are of this run
  record AreFrom (n : ℕ) (facts : List Fact) : Type 0 where
    pub ids : IdsFrom n (begun facts)
    pub runs : (r : Request) → IsInList r (begun facts) → r.run ≡ run

  -- as `IsNumberAt` says of numbers from 1 on
  abbrev IsAt : ℕ → List Fact → ℕ → Option ℕ → Type 0
  IsAt n facts k None = in_first (suc k) facts ≡ in_first k facts
  IsAt n facts k (Some id) = n + in_first (suc k) facts ≡ id + 1

  counts_one : (f : Fact) (facts : List Fact) → count_by (begins_in run) (f ∷ facts) ≡ one_if (begins_in run f) + count_by (begins_in run) facts
  counts_one f facts = sum_by-cons (λ (x : Fact). one_if (begins_in run x)) f facts

  itself : (r : Request) → r.run ≡ run → one_if (r.run == run) ≡ 1
  itself r is = ap (λ (n : ℕ). one_if (n == run)) is ∙ (let e : (run == run) ≡ true = grind (arith, nat_tests) in ap one_if e)

  -- one that begins stands before the others, or one by which none does
  past_begun : (n k : ℕ) (r : Request) (facts : List Fact) (number : Option ℕ) → r.run ≡ run → IsAt (n + 1) facts k number → IsAt n (Begun r ∷ facts) (suc k) number
  past_begun n k r facts None is at =
      let one = counts_one (Begun r) (take k facts) in let more = counts_one (Begun r) (take (suc k) facts) in omega (arith, one, more, at)
  past_begun n k r facts (Some id) is at =
      let more = counts_one (Begun r) (take (suc k) facts) in let own = itself r is in omega (arith, more, own, at)

  past_other : (n k : ℕ) (f : Fact) (facts : List Fact) (number : Option ℕ) → begins_in run f ≡ false → IsAt n facts k number → IsAt n (f ∷ facts) (suc k) number
  past_other n k f facts None is at =
      let one = counts_one f (take k facts) in let more = counts_one f (take (suc k) facts) in omega (arith, one, more, at)
  past_other n k f facts (Some id) is at =
      let more = counts_one f (take (suc k) facts) in let none = ap one_if is in omega (arith, more, none, at)

  abbrev Rest : List Fact → Entry → Type 0
  Rest facts e = (m p j : ℕ) → AreFrom m facts → slice_get (entries_from p facts) j ≡ Some e → IsAt m facts j (number_of e)

  number_there : (n place k : ℕ) (facts : List Fact) (e : Entry) → AreFrom n facts → slice_get (entries_from place facts) k ≡ Some e → IsAt n facts k (number_of e)
  number_there n place k [] e are is = absurd (cc is)
  number_there n place k (f ∷ facts) e are is = by_fact (λ m p j all its. number_there m p j facts e all its) f k are is
    where
      is_begun : Rest facts e → (r : Request) (k : ℕ) → r.id ≡ n → r.run ≡ run → AreFrom (n + 1) facts → slice_get (entry_at place (Begun r) ∷ entries_from (place + r.count) facts) k ≡ Some e → IsAt n (Begun r ∷ facts) k (number_of e)
      is_begun rest r zero id own all is =
          let same : entry_at place (Begun r) ≡ e = cc is in
          let one = counts_one (Begun r) (take zero facts) in
          let its = itself r own in
          subst (λ (x : Entry). IsAt n (Begun r ∷ facts) zero (number_of x)) same (omega (arith, one, its, id))
      is_begun rest r (suc k) id own all is = past_begun n k r facts (number_of e) own (rest (n + 1) (place + r.count) k all is)

      is_other : Rest facts e → (g : Fact) (x : Entry) (k : ℕ) → begins_in run g ≡ false → number_of x ≡ None → AreFrom n facts → slice_get (x ∷ entries_from place facts) k ≡ Some e → IsAt n (g ∷ facts) k (number_of e)
      is_other rest g x zero not none all is =
          let same : x ≡ e = cc is in
          let one = counts_one g (take zero facts) in
          let its = ap one_if not in
          subst (λ (y : Entry). IsAt n (g ∷ facts) zero (number_of y)) same (subst (IsAt n (g ∷ facts) zero) (sym none) (omega (arith, one, its)))
      is_other rest g x (suc k) not none all is = past_other n k g facts (number_of e) not (rest n place k all is)

      by_fact : Rest facts e → (g : Fact) (k : ℕ) → AreFrom n (g ∷ facts) → slice_get (entries_from place (g ∷ facts)) k ≡ Some e → IsAt n (g ∷ facts) k (number_of e)
      by_fact rest (Begun r) k all is = is_begun rest r k all.ids.0 (all.runs r (inl refl)) (record { ids = all.ids.1; runs = λ s there. all.runs s (inr there) }) is
      by_fact rest (Landed r how started got) k all is = is_other rest (Landed r how started got) (entry_at place (Landed r how started got)) k refl refl (record { ids = all.ids; runs = all.runs }) is
      by_fact rest (Taken r) k all is = is_other rest (Taken r) (entry_at place (Taken r)) k refl refl (record { ids = all.ids; runs = all.runs }) is
      by_fact rest (Making lv blocks m) k all is = is_other rest (Making lv blocks m) (entry_at place (Making lv blocks m)) k refl refl (record { ids = all.ids; runs = all.runs }) is
      by_fact rest (Made lv) k all is = is_other rest (Made lv) (entry_at place (Made lv)) k refl refl (record { ids = all.ids; runs = all.runs }) is
      by_fact rest (Split from lv) k all is = is_other rest (Split from lv) (entry_at place (Split from lv)) k refl refl (record { ids = all.ids; runs = all.runs }) is
      by_fact rest (Removing vol) k all is = is_other rest (Removing vol) (entry_at place (Removing vol)) k refl refl (record { ids = all.ids; runs = all.runs }) is
      by_fact rest (Removed vol) k all is = is_other rest (Removed vol) (entry_at place (Removed vol)) k refl refl (record { ids = all.ids; runs = all.runs }) is
      by_fact rest Cut k all is = is_other rest Cut (entry_at place Cut) k refl refl (record { ids = all.ids; runs = all.runs }) is
      by_fact rest (On moment) k all is = is_other rest (On moment) (entry_at place (On moment)) k refl refl (record { ids = all.ids; runs = all.runs }) is

-- the entry of an index tells how many have begun by then
pub number_at : (log : Log) (k : ℕ) (e : Entry) → Ordered log.run [] log.facts → slice_get (entries_of log.facts) k ≡ Some e → IsNumberAt log k (number_of e)
number_at log k e ordered is =
    let q = numbered log.run log.facts ordered in
    by_number (number_of e) (number_there log.run 1 0 k log.facts e (record { ids = q.ids; runs = q.runs }) is)
  where
    next : k + 1 ≡ suc k
    next = omega arith

    by_number : (number : Option ℕ) → IsAt log.run 1 log.facts k number → IsNumberAt log k number
    by_number None at = ap (begun_in log) next ∙ at
    by_number (Some id) at = ap (begun_in log) next ∙ (omega (arith, at))

-- all that have begun are in the first entries, as many as there are
pub all_begun : (log : Log) → next_id log ≡ begun_in log (length log.facts) + 1
all_begun log = ap (λ (facts : List Fact). count_by (begins_in log.run) facts + 1) (sym (take_all (length log.facts) log.facts (omega arith)))
