use Rattle.std.proofs.Common.{◌≡◌, ℕ, ◌<◌, List, length, Some, None, Err, ap, sym, ◌∙◌, arith}
use Rattle.std.proofs.lemmas.Bool.Decides.{nat_tests}
use Rattle.lvm_parse.specs.Reading.{disks, further_disk}
use Rattle.lvm_parse.specs.Rests.{left, word_at}
use Rattle.lvm_parse.proofs.ReadingLemmas.ManyWords.{disks_end, disks_misfit, disks_go_on, one_or_more_some, one_or_more_none}
use Rattle.lvm_parse.proofs.disk_list.disks.Goals as goal

pub returns-in_default-further_disk : goal.returns-in_default-further_disk
returns-in_default-further_disk c =
    let none : further_disk c.disks.found.items c.in-Some.word.bytes.now ≡ None = ap (λ (ds : List ℕ). further_disk ds c.in-Some.word.bytes.now) (sym c.deref.ensures.0) ∙ sym c.further_disk.ensures.disk ∙ c.in_default-further_disk.is in
    sym c.disks.invariant ∙ disks_misfit c.disks.found.items (left c.disks.rest) (word_at c.in-Some.word) (left c.in-Some.behind) c.in-Some.ensures.word none ∙ sym (ap Err c.misfit.ensures)

pub disks-preserved : goal.disks-preserved
disks-preserved c =
    let some : further_disk c.disks.found.items c.in-Some.word.bytes.now ≡ Some c.in-Some-further_disk.disk = ap (λ (ds : List ℕ). further_disk ds c.in-Some.word.bytes.now) (sym c.deref.ensures.0) ∙ sym c.further_disk.ensures.disk ∙ c.in-Some-further_disk.is in
    ap (λ (ds : List ℕ). disks ds (left c.in-Some.behind)) c.push.ensures.items
    ∙ sym (disks_go_on c.disks.found.items c.in-Some-further_disk.disk (left c.disks.rest) (word_at c.in-Some.word) (left c.in-Some.behind) c.in-Some.ensures.word some) ∙ c.disks.invariant

pub returns-then-is_empty : goal.returns-then-is_empty
returns-then-is_empty c =
    let none : length c.disks.found.items ≡ 0 = grind (arith, nat_tests) in
    sym c.disks.invariant ∙ disks_end c.disks.found.items (left c.disks.rest) c.in_default.ensures.word
    ∙ one_or_more_none c.disks.found.items (left c.disks.rest).end none
    ∙ sym (ap Err (c.misfit-then-is_empty.ensures ∙ ap (λ (n : ℕ). record { column = n }) c.end.ensures))

pub returns-else-is_empty : goal.returns-else-is_empty
returns-else-is_empty c =
    let some : 0 < length c.disks.found.items = grind (arith, nat_tests) in
    sym c.disks.invariant ∙ disks_end c.disks.found.items (left c.disks.rest) c.in_default.ensures.word
    ∙ one_or_more_some c.disks.found.items (left c.disks.rest).end some
