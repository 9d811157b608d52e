use Rattle.std.proofs.Common.{◌≡◌, ◌<◌, ◌++◌, ℕ, List, length, sym, ap, subst, ◌∙◌, arith}
use Rattle.std.specs.Prelude.{flat_map}
use Rattle.std.specs.Int.{w16, to_be_bytes}
use Rattle.lvm_num.specs.StatusBytes.{dirty_bytes}
use Rattle.lvm_vgsa.specs.Putting.{Puts}
use Rattle.lvm_vgsa.proofs.PuttingLemmas.{puts_both}
use Rattle.lvm_vgsa.proofs.StatusBytesLemmas.Sizes.{length-dirty, length-numbers, dirty_some, not_empty}
use Rattle.lvm_vgsa.proofs.writing.put_dirty.Goals as goal

pub put_numbers-requires : goal.put_numbers-requires
put_numbers-requires c =
    let some : 0 < length c.args.numbers.now = not_empty (length c.args.numbers.now) (sym c.if-is_empty.ensures) in
    omega (arith, length-dirty c.args.numbers.now some, ap length c.number_bytes.ensures, c.put-numbers_at.ensures.end, c.put-numbers_at.auto.into, c.requires.fits)

pub returns-clause-puts : goal.returns-clause-puts
returns-clause-puts c =
    let numbers = c.args.numbers.now in
    let some : 0 < length c.args.numbers.now = not_empty (length c.args.numbers.now) (sym c.if-is_empty.ensures) in
    let parts : c.number_bytes.result ++ flat_map (to_be_bytes w16) c.args.numbers.now ≡ dirty_bytes c.args.numbers.now =
    ap (λ (l : List ℕ). l ++ flat_map (to_be_bytes w16) c.args.numbers.now) c.number_bytes.ensures ∙ sym (dirty_some c.args.numbers.now some) in
    subst (Puts c.args.into.now c.put_numbers.new.into c.args.at) parts
    (puts_both c.args.into.now c.put-numbers_at.new.into c.put_numbers.new.into c.args.at c.put-numbers_at.result c.number_bytes.result (flat_map (to_be_bytes w16) numbers)
    c.put-numbers_at.ensures.puts c.put_numbers.ensures.puts c.put-numbers_at.ensures.end
    (omega (arith, length-numbers numbers, length-dirty c.args.numbers.now some, ap length c.number_bytes.ensures, c.put-numbers_at.ensures.end, c.requires.fits)))

pub returns-clause-end : goal.returns-clause-end
returns-clause-end c =
    let some : 0 < length c.args.numbers.now = not_empty (length c.args.numbers.now) (sym c.if-is_empty.ensures) in
    omega (arith, length-dirty c.args.numbers.now some, ap length c.number_bytes.ensures, c.put-numbers_at.ensures.end, c.put_numbers.ensures.end)
