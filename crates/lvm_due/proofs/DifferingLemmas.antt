-- Two statuses don't say the same exactly where they differ.
use Rattle.std.proofs.Common.{◌≡◌, Bool, true, false, refl, sym, ◌∙◌, ap, subst}
use Rattle.std.specs.Prelude.{◌≢◌, ◌↔◌, IsTrue, not}
use Rattle.lvm_num.specs.declared.status.Status.{Status}
use Rattle.lvm_session.specs.Enabled.{same_status}
use Rattle.lvm_session.proofs.EnabledLemmas.{status_one}

pub differ_is : (a b : Status) (differ : Bool) → (IsTrue differ ↔ (a ≢ b)) → differ ≡ not (same_status a b)
differ_is a b differ tells = by differ (same_status a b) refl refl
  where
    by : (d s : Bool) → differ ≡ d → same_status a b ≡ s → differ ≡ not (same_status a b)
    by true true is same = absurd (tells.0 is ((status_one a b).0 same))
    by true false is same = is ∙ sym (ap not same)
    by false true is same = is ∙ sym (ap not same)
    by false false is same = absurd (let e : false ≡ true = sym is ∙ tells.1 (λ one. let t : true ≡ false = sym ((status_one a b).1 one) ∙ same in absurd (cc t)) in cc e)
