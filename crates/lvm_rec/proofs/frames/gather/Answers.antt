use Rattle.std.proofs.Common.{◌≡◌, ◌+◌, ◌-◌, ◌*◌, ◌++◌, ℕ, List, take, drop, ap, ◌∙◌, arith}
use Rattle.lvm_num.specs.Record.{payload_of}
use Rattle.lvm_num.proofs.RecordLemmas.Records.{enough}
use Rattle.lvm_rec.proofs.RecordLemmas.Slot.{payload-one, payload-more}
use Rattle.lvm_rec.proofs.frames.gather.Goals as goal

pub loop-k-init : goal.loop-k-init
loop-k-init c = c.in_ok-content.ensures.items ∙ payload-one c.args.bytes.now (omega (arith, c.requires.there, enough c.args.len))

pub loop-k-preserved : goal.loop-k-preserved
loop-k-preserved c =
    let bytes = c.args.bytes.now in
    let k = c.loop-k.k in
    let size : 512 * k + 512 - (512 * k + 16) ≡ 496 = omega arith in
    let more : drop 4 (payload_of bytes k) ++ take 496 (drop (512 * k + 16) bytes) ≡ drop 4 (payload_of bytes (k + 1)) =
    payload-more bytes k (omega arith) (omega (arith, c.slot_sectors-k-end.ensures, c.requires.there)) in
    c.in_ok-extend_from_slice.ensures.items
    ∙ ap (λ (l : List ℕ). l ++ take (512 * k + 512 - (512 * k + 16)) (drop (512 * k + 16) bytes)) c.loop-k.invariant
    ∙ ap (λ n. drop 4 (payload_of bytes k) ++ take n (drop (512 * k + 16) bytes)) size
    ∙ more
