use Rattle.std.proofs.Common.{◌≡◌, sym, ap, ◌∙◌}
use Rattle.lvm_status.specs.Update.{Stored}
use Rattle.lvm_status.proofs.Differing.{differ_by}
use Rattle.lvm_status.proofs.updater.Updater.differs.Goals as goal

pub returns-then-self : goal.returns-then-self
returns-then-self c =
    let same : c.args.self.now.wanted ≡ c.args.self.now.committed =
    sym (ap (λ (s : Stored). s.wanted) c.self.view_is) ∙ c.self.invariant.same c.if-self.true ∙ ap (λ (s : Stored). s.committed) c.self.view_is in (
      λ is. absurd (cc is),
      λ differ. absurd (differ same),
    )

pub returns : goal.returns
returns c =
    let now = c.args.self.now in
    differ_by now.wanted now.committed c.self.inside.wanted c.self.inside.committed c.says_the_same.result (ap (λ (s : Stored). s.wanted) c.self.view_is) (ap (λ (s : Stored). s.committed) c.self.view_is) c.says_the_same.ensures
