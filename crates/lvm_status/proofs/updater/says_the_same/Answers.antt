use Rattle.std.proofs.Common.{◌≡◌, sym, ap, ◌∙◌}
use Rattle.lvm_status.specs.passed.Num.{Status}
use Rattle.lvm_status.proofs.Same.{same_status, status_one, status_own}
use Rattle.lvm_status.proofs.updater.says_the_same.Goals as goal

pub returns : goal.returns
returns c =
    let tests : c.eq.result ≡ same_status c.args.a.now c.args.b.now = c.eq.ensures ∙ ap (λ (s : Status). same_status s c.as_status-2.result.now) c.as_status.ensures.same
    ∙ ap (λ (s : Status). same_status c.args.a.now s) c.as_status-2.ensures.same in (
      λ is. status_one c.args.a.now c.args.b.now (sym tests ∙ is),
      λ same. tests ∙ ap (λ (s : Status). same_status c.args.a.now s) (sym same) ∙ status_own c.args.a.now,
    )
