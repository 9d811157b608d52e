-- An entry of the history that begins no request.
use Rattle.std.proofs.Common.{◌≡◌, ℕ, List, [], ◌∷◌, ◌++◌, Option, None, sym, ap, ◌∙◌}
use Rattle.std.specs.Prelude.{find, unwrap_or}
use Rattle.std.specs.List.{cons_option}
use Rattle.std.proofs.lemmas.List.{append_assoc, append-nil}
use Rattle.lvm_vol.specs.Facts.{Request as Asked, Fact, begun, begun_by}
use Rattle.lvm_vol.specs.Log.{has_id, no_request, request_of, with_fact}
use Rattle.lvm_vol.proofs.FactsLemmas.Order.{begun-push}
use Rattle.lvm_session.specs.State.{Core}
use Rattle.lvm_invariant.specs.State.{ModelState}
use Rattle.lvm_tie.specs.Seen.{Sees}

same_request : (facts : List Fact) (f : Fact) (id : ℕ) → begun_by f ≡ None → request_of (facts ++ f ∷ []) id ≡ request_of facts id
same_request facts f id aside =
    let b : begun (facts ++ f ∷ []) ≡ begun facts = begun-push facts f ∙ ap (λ (o : Option Asked). begun facts ++ cons_option o []) aside ∙ append-nil (begun facts) in
    ap (λ (rs : List Asked). unwrap_or (find (has_id id) rs) no_request) b

pub sees_entered : (past : List Fact) (core : Core) (v : ModelState) (f : Fact) → begun_by f ≡ None → Sees past core v → Sees past (record core { history = with_fact core.history f }) (record v { facts = v.facts ++ f ∷ [] })
sees_entered past core v f aside sees = record {
  queue = record {
    requests = sees.queue.requests;
    a_step = sees.queue.a_step;
    only = sees.queue.only;
    names = λ k p at. sees.queue.names k p at ∙ sym (same_request core.history.facts f p.request.id aside);
  };
  facts = ap (λ (fs : List Fact). fs ++ f ∷ []) sees.facts ∙ append_assoc past core.history.facts (f ∷ []);
  status = sees.status;
  notes = sees.notes;
  open_copy = sees.open_copy;
  step_write = sees.step_write;
  beside = sees.beside;
}
