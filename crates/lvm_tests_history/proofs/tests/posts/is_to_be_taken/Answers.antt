use Rattle.std.proofs.Common.{◌≡◌, ◌+◌, true, subst, arith}
use Rattle.lvm_vol.specs.Log.{is_answered}
use Rattle.lvm_tests_history.proofs.tests.posts.is_to_be_taken.Goals as goal

pub returns : goal.returns
returns g c k less =
    let one = c.requires in
    let same : c.args.asked.now.first ≡ c.args.asked.now.first + k = omega (arith, one, less) in
    subst (λ n. is_answered c.args.history.now.facts 1 n ≡ true) same c.is_there.ensures
