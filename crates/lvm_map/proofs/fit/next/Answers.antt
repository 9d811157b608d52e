use Rattle.std.proofs.Common.{◌≡◌, ℕ, ◌-◌, ◌%◌, ◌≤◌, false, List, length, take, drop, nat_lt, subst, arith}
use Rattle.std.proofs.lemmas.Bool.Decides.{nat_tests}
use Rattle.std.proofs.lemmas.List.{take_rest}
use Rattle.lvm_num.specs.declared.place.Pp.{Pp}
use Rattle.lvm_map.specs.FreePartitions.{TakesFirstFree}
use Rattle.lvm_map.proofs.fit.next.Goals as goal

not_below : (m n : ℕ) → n ≤ m → nat_lt m n ≡ false
not_below m n le = grind (arith, nat_tests)

pub returns-else-copy-kept : goal.returns-else-copy-kept
returns-else-copy-kept c =
    let front = c.args.front.now in
    let le : c.args.kept ≤ length front % c.from-copies.result = omega arith in
    let past : c.args.kept ≤ length front % c.args.copies = subst (λ n. c.args.kept ≤ length front % n) c.from-copies.ensures le in
    let others : take (length front - (length front - length front % c.args.copies)) (drop (length front - length front % c.args.copies) front) ≡ drop (length front - length front % c.args.copies) front =
    take_rest front (length front - length front % c.args.copies) in
    rw (not_below (length front % c.args.copies) c.args.kept past)
    (subst (λ (pps : List Pp). TakesFirstFree pps c.args.room.now c.take.new.self c.take.result) others
    (subst (λ n. TakesFirstFree (take (length front - (length front - length front % n)) (drop (length front - length front % n) front)) c.args.room.now c.take.new.self c.take.result) c.from-copies.ensures c.take.ensures))
