-- What is asked of statuses is kept.
use Rattle.std.proofs.Common.{◌≡◌, ⊎_elim, true, Option, Some, None, refl, sym, ap, ◌∙◌, arith}
use Rattle.std.specs.Prelude.{option_map}
use Rattle.std.proofs.lemmas.Option.{same_Some}
use Rattle.std.proofs.lemmas.Bool.Decides.{nat_tests}
use Rattle.lvm_num.specs.declared.record.Stamp.{Stamp}
use Rattle.lvm_num.specs.declared.status.Status.{Status}
use Rattle.lvm_num.specs.Record.{Stamped, stamp_lt}
use Rattle.lvm_invariant.specs.State.{Beside}
use Rattle.lvm_crash.specs.Session.{as_marks}
use Rattle.lvm_crash.specs.Lasting.{StatusesLast}

not_before : (a : Stamp) → stamp_lt a a ≡ true → ⊥
not_before a h = grind (arith, nat_tests)

pub statuses_last : StatusesLast
statuses_last = record {
  begins = λ s group c u has own later. record {
    same = refl;
    own = λ v is. ap (λ (x : Stamped Status). x.value.id) (sym (same_Some u v is)) ∙ own;
    once = has.once;
    new = λ v d r is there ids stamps.
        let one : u ≡ v = same_Some u v is in
        absurd (not_before u.stamp (ap (λ (x : Stamp). stamp_lt x u.stamp) (sym (stamps ∙ ap (λ (x : Stamped Status). x.stamp) (sym one))) ∙ later d r there (ids ∙ ap (λ (x : Stamped Status). x.value.id) (sym one))));
  };
  moves = λ s new group in_flight old now has same beside each. record {
    same = same ∙ has.same ∙ ap (λ (o : Option Beside). option_map (as_marks o) in_flight) (sym beside);
    own = has.own;
    once = λ d e r t is also ids stamps. ⊎_elim
        (λ old_r. ⊎_elim
        (λ old_t. has.once d e r t (sym old_r ∙ is) (sym old_t ∙ also) ids stamps)
        (λ new_t. let one : t ≡ new_t.0 = same_Some t new_t.0 (sym also ∙ new_t.2) in
        has.new new_t.0 d r new_t.1 (sym old_r ∙ is) (ids ∙ ap (λ (x : Stamped Status). x.value.id) one) (stamps ∙ ap (λ (x : Stamped Status). x.stamp) one) ∙ sym one)
        (each e))
        (λ new_r. let one : r ≡ new_r.0 = same_Some r new_r.0 (sym is ∙ new_r.2) in ⊎_elim
        (λ old_t. one
        ∙ sym (has.new new_r.0 e t new_r.1 (sym old_t ∙ also) (sym ids ∙ ap (λ (x : Stamped Status). x.value.id) one) (sym stamps ∙ ap (λ (x : Stamped Status). x.stamp) one)))
        (λ new_t. one ∙ same_Some new_r.0 new_t.0 (sym new_r.1 ∙ new_t.1) ∙ sym (same_Some t new_t.0 (sym also ∙ new_t.2)))
        (each e))
        (each d);
    new = λ u d r is there ids stamps. ⊎_elim
        (λ old_r. has.new u d r is (sym old_r ∙ there) ids stamps)
        (λ new_r. same_Some r new_r.0 (sym there ∙ new_r.2) ∙ same_Some new_r.0 u (sym new_r.1 ∙ is))
        (each d);
  };
  ends = λ s group in_flight c has. record {
    same = refl;
    own = λ u is. absurd (nothing u is);
    once = has.once;
    new = λ u d r is there ids stamps. absurd (nothing u is);
  };
}
  where
    nothing : (u : Stamped Status) → None ≡ Some u → ⊥
    nothing u is = absurd cc
