-- Whether something else is wanted than is committed.
use Rattle.std.proofs.Common.{◌≡◌, Bool, true, false, not, refl, sym, ◌∙◌}
use Rattle.std.specs.Prelude.{◌≢◌, ◌↔◌, IsTrue}
use Rattle.lvm_status.specs.passed.Num.{Status}

-- by the tables that stand for two statuses
pub differ_by : (a b x y : Status) (same : Bool) → x ≡ a → y ≡ b → (IsTrue same ↔ (x ≡ y)) → (IsTrue (not same) ↔ (a ≢ b))
differ_by a b x y true first second tells = (λ is. absurd (cc is), λ differ. absurd (differ (sym first ∙ tells.0 refl ∙ second)))
differ_by a b x y false first second tells = (λ is one. let e : false ≡ true = tells.1 (first ∙ one ∙ sym second) in cc e, λ differ. refl)
