use Rattle.std.proofs.Common.{◌++◌, ℕ, List, length, ◌∙◌, ap, arith}
use Rattle.std.proofs.lemmas.List.{length-append}
use Rattle.lvm_transfer.proofs.RecordLemmas.{joined-front}
use Rattle.lvm_transfer.proofs.reading.append.Goals as goal

pub returns-clause-size : goal.returns-clause-size
returns-clause-size c = omega (arith, ap (length {A = ℕ}) c.in_ok-extend_from_slice.ensures.items, length-append c.args.bytes.now.items c.front.result.now, c.front.ensures.size)

pub returns-clause-bytes : goal.returns-clause-bytes
returns-clause-bytes c = c.in_ok-extend_from_slice.ensures.items ∙ ap (λ (l : List ℕ). c.args.bytes.now.items ++ l) (c.front.ensures.bytes ∙ joined-front c.args.buf.now.sectors c.args.count)
