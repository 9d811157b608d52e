use Rattle.std.proofs.Common.{◌≡◌, ◌≤◌, ◌+◌, ◌++◌, ℕ, List, length, take, drop, sym, ◌∙◌, arith, take-append-drop, length-append}
use Rattle.std.proofs.lemmas.List.{drop-drop, take_at, length-take-le}
use Rattle.lvm_io.proofs.memory.MemSourceSource.read.Goals as goal

-- what is left is the bytes that are handed out, wherever they are put, and what is left after them
handed_out : (bytes others : List ℕ) (at n : ℕ) → n ≤ length (drop at bytes) → drop at bytes ≡ take n (take n (drop at bytes) ++ others) ++ drop (at + n) bytes
handed_out bytes others at n most =
    sym (take-append-drop n (drop at bytes)) ∙ rw (take_at (take n (drop at bytes)) others n (length-take-le n (drop at bytes) most), drop-drop n at bytes)

pub returns-clause-bytes : goal.returns-clause-bytes
returns-clause-bytes c =
    let n = c.min-count.result in
    let put : c.copy_from_slice.new.self ≡ take n (drop c.self.inside.at c.self.inside.bytes) = cc in
    let most : n ≤ length (drop c.self.inside.at c.self.inside.bytes) = grind arith in
    let is : c.args.self.now.left ≡ drop c.self.inside.at c.self.inside.bytes = cc in
    (grind arith, grind (arith, length-append {A = ℕ}), rw (is, put) (handed_out c.self.inside.bytes (drop n c.args.into.now) c.self.inside.at n most))
