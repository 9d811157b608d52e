use Rattle.std.proofs.Common.{◌≡◌, ◌+◌, ◌-◌, take, drop, sym, ap, ◌∙◌, arith}
use Rattle.std.proofs.lemmas.Bool.Decides.{Decides-eqb}
use Rattle.std.proofs.lemmas.Slice.Eq.{slice_eq-Decides}
use Rattle.lvm_rec.proofs.frames.stands_at.Goals as goal

pub returns : goal.returns
returns c =
    let size : c.args.at + 512 - c.args.at ≡ 512 = omega arith in
    let part = ap (λ n. take n (drop c.args.at c.args.bytes.now)) size in
    let decides = slice_eq-Decides Decides-eqb (take (c.args.at + 512 - c.args.at) (drop c.args.at c.args.bytes.now)) c.args.sector.now c.eq.result c.eq.ensures in
    (λ e. sym part ∙ decides.0 e, λ same. decides.1 (part ∙ same))
