-- What shows that a session is calm.
use Rattle.std.proofs.Common.{◌≡◌, Bool, true, false, refl, sym, ◌∙◌}
use Rattle.std.specs.Prelude.{◌≢◌, ◌↔◌, IsTrue}
use Rattle.lvm_num.specs.declared.status.Status.{Status}
use Rattle.lvm_session.specs.Enabled.{same_status}
use Rattle.lvm_session.proofs.EnabledLemmas.{status_one}

-- two statuses that don't differ are one
pub same_one : (a b : Status) (differ : Bool) → (IsTrue differ ↔ (a ≢ b)) → differ ≡ false → a ≡ b
same_one a b differ tells is = by (same_status a b) refl
  where
    by : (s : Bool) → same_status a b ≡ s → a ≡ b
    by true same = (status_one a b).0 same
    by false apart = absurd (let e : false ≡ true = sym is ∙ tells.1 (λ one. let t : true ≡ false = sym ((status_one a b).1 one) ∙ apart in absurd (cc t)) in cc e)
