-- The requests of a history by their numbers.
use Rattle.std.proofs.Common.{◌≡◌, inl, inr, ℕ, ◌&&◌, ◌==◌, not, Bool, true, false, cond, List, [], ◌∷◌, Option, Some, None, is_some, unwrap_or, refl, sym, ◌∙◌, ap, subst}
use Rattle.std.specs.List.{list_any, find}
use Rattle.std.proofs.lemmas.Bool.{eqb-true, not-true}
use Rattle.lvm_vol.specs.Facts.{Request, Fact, Begun, Taken, IsInList, begun}
use Rattle.lvm_vol.specs.Log.{has_id, asked, no_request, request_of, lands_id, takes_id, is_open, is_answered}
use Rattle.lvm_vol.specs.Order.{Follows}
pub use Rattle.lvm_num.proofs.Booleans.{first_holds as and_left, second_holds as and_right}

-- a request that was found

pub find_stands : (id : ℕ) (rs : List Request) (r : Request) → find (has_id id) rs ≡ Some r → IsInList r rs × (r.id ≡ id)
find_stands id [] r is = absurd (cc is)
find_stands id (s ∷ rs) r is = by_test (λ later. find_stands id rs r later) (s.id == id) refl
  where
    by_test : (find (has_id id) rs ≡ Some r → IsInList r rs × (r.id ≡ id)) → (t : Bool) → (s.id == id) ≡ t → IsInList r (s ∷ rs) × (r.id ≡ id)
    by_test rest true same =
        let e : Some s ≡ Some r = sym (ap (λ (t : Bool). cond t (Some s) (find (has_id id) rs)) same) ∙ is in
        let own : s ≡ r = cc in
        (inl own, ap (λ (x : Request). x.id) (sym own) ∙ eqb-true s.id id same)
    by_test rest false other =
        let e : find (has_id id) rs ≡ Some r = sym (ap (λ (t : Bool). cond t (Some s) (find (has_id id) rs)) other) ∙ is in
        let found = rest e in
        (inr found.0, found.1)

pub begun_stands : (facts : List Fact) (r : Request) → IsInList r (begun facts) → IsInList (Begun r) facts
begun_stands [] r none = absurd none
begun_stands (f ∷ facts) r there = by_fact (λ later. begun_stands facts r later) f there
  where
    by_fact : (IsInList r (begun facts) → IsInList (Begun r) facts) → (g : Fact) → IsInList r (begun (g ∷ facts)) → IsInList (Begun r) (g ∷ facts)
    by_fact rest (Begun s) (inl is) = inl (ap (λ (x : Request). Begun x) is)
    by_fact rest (Begun s) (inr later) = inr (rest later)
    by_fact rest _ later = inr (rest later)

-- the request of a number that began
pub record IsFound (facts : List Fact) (id : ℕ) : Type 0 where
  pub began : IsInList (Begun (request_of facts id)) facts
  pub own : (request_of facts id).id ≡ id
  pub found : asked facts id ≡ Some (request_of facts id)

pub found_of : (facts : List Fact) (id : ℕ) → is_some (asked facts id) ≡ true → IsFound facts id
found_of facts id is = by_option (asked facts id) refl
  where
    by_option : (o : Option Request) → asked facts id ≡ o → IsFound facts id
    by_option None none = absurd (let e : ◌≡◌ {A = Bool} false true = sym (ap (λ (o : Option Request). is_some o) none) ∙ is in cc)
    by_option (Some r) some =
        let its = find_stands id (begun facts) r some in
        let e : request_of facts id ≡ r = ap (λ (o : Option Request). unwrap_or o no_request) some in
        record {
          began = subst (λ (x : Request). IsInList (Begun x) facts) (sym e) (begun_stands facts r its.0);
          own = ap (λ (x : Request). x.id) e ∙ its.1;
          found = some ∙ ap (λ (x : Request). Some x) (sym e);
        }

pub record IsOpen (facts : List Fact) (id : ℕ) : Type 0 where
  pub its : IsFound facts id
  pub unlanded : list_any (lands_id id) facts ≡ false

pub open_of : (facts : List Fact) (id : ℕ) → is_open facts id ≡ true → IsOpen facts id
open_of facts id is = record {
  its = found_of facts id (and_left (is_some (asked facts id)) (not (list_any (lands_id id) facts)) is);
  unlanded = not-true (list_any (lands_id id) facts) (and_right (is_some (asked facts id)) (not (list_any (lands_id id) facts)) is);
}

pub follows_taken : (facts : List Fact) (run client id : ℕ) → is_answered facts client id ≡ true → Follows run facts (Taken (request_of facts id)) × ((request_of facts id).client ≡ client) × ((request_of facts id).id ≡ id)
follows_taken facts run client id answered =
    let some = is_some (asked facts id) in
    let own = (request_of facts id).client == client in
    let landed = list_any (lands_id id) facts in
    let front : (is_some (asked facts id) && (request_of facts id).client == client && list_any (lands_id id) facts) ≡ true = and_left _ (not (list_any (takes_id id) facts)) answered in
    let front2 : (is_some (asked facts id) && (request_of facts id).client == client) ≡ true = and_left _ (list_any (lands_id id) facts) front in
    let its = found_of facts id (and_left _ ((request_of facts id).client == client) front2) in
    let lands_it : list_any (lands_id id) facts ≡ true = and_right (is_some (asked facts id) && (request_of facts id).client == client) _ front in
    let untaken : list_any (takes_id id) facts ≡ false = not-true _ (and_right (is_some (asked facts id) && (request_of facts id).client == client && list_any (lands_id id) facts) _ answered) in (
      (its.began, ap (λ (n : ℕ). list_any (lands_id n) facts) its.own ∙ lands_it, ap (λ (n : ℕ). list_any (takes_id n) facts) its.own ∙ untaken),
      eqb-true (request_of facts id).client client (and_right (is_some (asked facts id)) _ front2),
      its.own,
    )
