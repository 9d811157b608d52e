use Rattle.std.proofs.Common.{◌≡◌, ℕ, List, Ok, sym, subst}
use Rattle.std.specs.Prelude.{IfOk}
use Rattle.lvm_num.specs.DescriptorBytes.{descriptor_of, descriptor_bytes}
use Rattle.lvm_vgda.proofs.DescriptorBytesLemmas.Whole.{spelled_is_read}
use Rattle.lvm_tests_groups.proofs.tests.commit.content_of.Goals as goal

pub returns-clause-describes : goal.returns-clause-describes
returns-clause-describes g c =
    let spelled : c.expect-content.result ≡ descriptor_bytes c.args.d.now = subst (λ r. IfOk r (λ bytes. bytes ≡ descriptor_bytes c.args.d.now)) c.expect-content.ensures c.encode.ensures in
    subst (λ (l : List ℕ). descriptor_of l ≡ Ok c.args.d.now) (sym spelled) (spelled_is_read c.args.d.now (c.is_valid.ensures.0 c.if-not-is_valid.false))
