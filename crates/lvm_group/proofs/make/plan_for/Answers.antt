use Rattle.std.proofs.Common.{◌≡◌, inl, inr, ℕ, ◌≤◌, List, Option, None, IsTrue, refl, sym, subst}
use Rattle.std.proofs.lemmas.Result.{err_from_is_err_and}
use Rattle.lvm_num.specs.Descriptor.{is_size}
use Rattle.lvm_group.specs.NewGroup.{NewGroup, first_too_small, size_for}
use Rattle.lvm_group.specs.Planned.{IsPlanned}
use Rattle.lvm_group.specs.Steps.{asked_group}
use Rattle.lvm_group.proofs.NewGroupLemmas.Groups.{size_positive}
use Rattle.lvm_group.proofs.make.plan_for.Goals as goal

pub returns-in_err-size-clause-refused : goal.returns-in_err-size-clause-refused
returns-in_err-size-clause-refused g c =
    let p = err_from_is_err_and c.from_residual.result c.from_residual.ensures.1 in
    rw (p.1, p.2) (inr c.in_err-size.ensures.refused)

pub new-requires-clause-can : goal.new-requires-clause-can
new-requires-clause-can g c =
    let sizes : List ℕ = (g.S.Shelf.device c.args.shelf.now).sizes in
    let asked = c.requires.asked in
    let fit = c.in_ok-size.ensures.may.disks_fit in
    record {
      there = fit.there;
      some = asked.some;
      few = fit.few;
      differ = asked.differ;
      size = c.in_ok-size.ensures.is_size;
      fit = subst (λ n. first_too_small sizes n c.args.disks.now ≡ None) (sym c.in_ok-size.ensures.size) fit.fit;
      some_moment = asked.moment;
    }

some_size : (sizes disks : List ℕ) (given : Option ℕ) (size : ℕ) → size ≡ size_for sizes disks given → IsTrue (is_size size) → 1 ≤ size_for sizes disks given
some_size sizes disks given size same is = subst (λ n. 1 ≤ n) same (size_positive size is)

pub returns-in-Ok-clause-planned : goal.returns-in-Ok-clause-planned
returns-in-Ok-clause-planned g c =
    let w : NewGroup = asked_group c.args.asked.now c.args.disks.now c.args.moment in
    let sizes : List ℕ = (g.S.Shelf.device c.args.shelf.now).sizes in
    record {
      may = c.in_ok-size.ensures.may;
      size = some_size sizes w.disks w.mib c.in_ok-size.size c.in_ok-size.ensures.size c.in_ok-size.ensures.is_size;
      planned = subst (λ n. IsPlanned sizes w.name n w.disks w.moment c.args.asked.now.room c.in-Ok.plan) c.in_ok-size.ensures.size c.in-Ok.ensures;
    }

pub returns-in-Err-clause-refused : goal.returns-in-Err-clause-refused
returns-in-Err-clause-refused g c = inl (refl, c.in_ok-size.ensures.may)
