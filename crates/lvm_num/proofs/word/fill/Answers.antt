use Rattle.std.proofs.Common.{◌≡◌, ◌+◌, ◌*◌, ◌-◌, ◌≤◌, ◌++◌, length, length-append, length-take, length-drop, take, replicate, sym, ◌∙◌, ap, arith, add-one}
use Rattle.std.specs.List.{concat}
use Rattle.std.specs.Int.{w64, to_be_bytes}
use Rattle.std.proofs.lemmas.List.{take_all}
use Rattle.std.proofs.lemmas.Slice.{take-put_mid}
use Rattle.lvm_num.specs.Word.{fill_of}
use Rattle.lvm_num.proofs.WordLemmas.{concat-replicate-suc}
use Rattle.lvm_num.proofs.word.fill.Goals as goal

pub loop-k-preserved : goal.loop-k-preserved
loop-k-preserved c =
    let word = to_be_bytes w64 c.args.word in
    let k = c.loop-k.k in
    let put : c.copy_from_slice.new.self ≡ word = c.copy_from_slice.ensures.after ∙ c.to_be_bytes-bytes.ensures in
    let size : length c.copy_from_slice.new.self ≡ 8 = ap length put in (
      simp (length-append, length-take, length-drop) (omega arith),
      take-put_mid (8 * k) (8 * k + 8 - 8 * k) c.loop-k.block c.copy_from_slice.new.self (8 * (k + 1)) (omega arith) (omega arith)
          ∙ ap (λ rest. rest ++ c.copy_from_slice.new.self) c.loop-k.invariant.1
          ∙ ap (λ rest. concat (replicate k word) ++ rest) put
          ∙ sym (concat-replicate-suc k word)
          ∙ ap (λ n. concat (replicate n word)) (sym (add-one k)),
    )

pub returns : goal.returns
unfolding fill_of
returns c =
    let all : c.loop-k.k ≡ 64 = omega arith in
    let word = to_be_bytes w64 c.args.word in
    let is : take (8 * 64) c.loop-k.block ≡ concat (replicate 64 word) = rw all at c.loop-k.invariant.1 in
    let long : length c.loop-k.block ≤ 512 = omega arith in
    sym (take_all 512 c.loop-k.block long) ∙ is
