use Rattle.std.proofs.Common.{◌≡◌, ◌∙◌, sym, subst, Option, Some, None, map, is_none, is_some, true, false, List, refl}
use Rattle.std.specs.List.{position, slice_get}
use Rattle.std.proofs.lemmas.List.{map-set}
use Rattle.std.proofs.lemmas.Option.{get_or_from_slice_get}
use Rattle.lvm_num.specs.Buffer.{Buffer}
use Rattle.lvm_pbuf.proofs.PlacesLemmas.{all_out, IsLowest, lowest, home_without, takes_as, not_all_out}
use Rattle.lvm_pbuf.proofs.pool.Pool.take.Goals as goal

found : (c : goal.After-self-1) → IsLowest c.self.inside.places.items c.in_ok-number.number
found c =
    let is : position is_some c.self.inside.places.items ≡ Some c.in_ok-number.number = sym (subst (λ (xs : List (Option Buffer)). Some c.in_ok-number.number ≡ position is_some xs) c.deref.ensures.value c.in_ok-number.ensures) in
    lowest c.self.inside.places.items c.in_ok-number.number is

given : (c : goal.After-self-1) → c.take.result ≡ Some (found c).buf
given c = c.take.ensures.value ∙ c.index_mut.ensures.value ∙ get_or_from_slice_get c.self.inside.places.items c.in_ok-number.number (Some (found c).buf) c.index_mut.result.now (found c).there

pub returns-in_err-number-clause-none : goal.returns-in_err-number-clause-none
returns-in_err-number-clause-none c =
    let none : position is_some c.self.inside.places.items ≡ None = sym (subst (λ (xs : List (Option Buffer)). None ≡ position is_some xs) c.deref.ensures.value c.in_err-number.ensures) in
    let is : map is_none c.self.inside.places.items ≡ c.args.self.now = c.self.view_is in
    (λ _. rw (← is) (all_out c.self.inside.places.items none), λ _. rw c.from_residual.ensures refl)

pub invariant_of-self : goal.invariant_of-self
invariant_of-self c = rw c.take.ensures.after (home_without c.self.inside.places.items c.in_ok-number.number c.self.invariant)

pub returns-clause-number : goal.returns-clause-number
returns-clause-number c =
    takes_as c.self.inside.places.items c.in_ok-number.number (found c) c.args.self.now _ c.take.result c.self.view_is
    (rw c.take.ensures.after (map-set is_none c.self.inside.places.items c.in_ok-number.number None))
    (c.self.invariant.number c.in_ok-number.number (found c).buf (found c).there) (given c)

pub returns-clause-none : goal.returns-clause-none
returns-clause-none c =
    let free : slice_get c.args.self.now c.in_ok-number.number ≡ Some false = rw (← c.self.view_is) (found c).takes.free in
    (λ none. let is : is_some c.take.result ≡ true = rw (given c) refl in cc, λ all. absurd (not_all_out c.args.self.now c.in_ok-number.number free all))
