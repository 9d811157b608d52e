use Rattle.std.proofs.Common.{◌≡◌, ◌++◌, ℕ, List, Some, None, false, take, refl, sym, ◌∙◌, ap, arith}
use Rattle.std.specs.List.{slice_range, position}
use Rattle.std.proofs.lemmas.Grind.{common_steps}
use Rattle.lvm_io.specs.Lines.{has_feed, is_feed}
use Rattle.lvm_io.proofs.LinesLemmas.Feeds.{no_feed, LineInRange, line_in_range, no_line_in_range, range_none}
use Rattle.lvm_io.proofs.ReadingLemmas.{same_reading}
use Rattle.lvm_io.proofs.lines.Lines.take_line.Goals as goal

pub invariant_of-self-in-None : goal.invariant_of-self-in-None
invariant_of-self-in-None c =
    let block = slice_range c.self.inside.block.items c.self.inside.start c.self.inside.end in
    let is : c.extend_from_slice-in-None.new.self.items ≡ c.self.inside.front.items ++ block = grind (arith, common_steps) in
    let none : position is_feed block ≡ None = cc in
    let clean : has_feed block ≡ false = no_line_in_range c.self.inside.block.items c.self.inside.start c.self.inside.end none in
    (rw is (no_feed c.self.inside.front.items block c.self.invariant.0 clean), omega arith, c.self.invariant.2, c.self.invariant.3)

pub returns-else-is_err : goal.returns-else-is_err
returns-else-is_err c =
    let at = c.in-Some.at in
    let block = slice_range c.self.inside.block.items c.self.inside.start c.self.inside.end in
    let some : position is_feed block ≡ Some at = cc in
    let it : LineInRange c.self.inside.block.items c.self.inside.start c.self.inside.end at = line_in_range c.self.inside.block.items c.self.inside.start c.self.inside.end at c.self.invariant.1 c.self.invariant.2 some in
    let line_is : c.new-in-Some.result ≡ c.self.inside.front.items ++ take at block = grind (arith, common_steps) in
    let front_is : c.args.self.now.front ≡ c.self.inside.front.items = cc in
    let block_is : c.args.self.now.block ≡ block = cc in
    let given_is : c.self.inside.given ≡ c.args.self.now.given = rw (← c.self.view_is) refl in
    (take at block, block_is ∙ it.split, line_is ∙ ap (λ (l : List ℕ). l ++ take at block) (sym front_is), rw line_is (no_feed c.self.inside.front.items (take at block) c.self.invariant.0 it.clean), same_reading _ _ _ _ _ _ (cc) refl given_is)

pub returns-else-is_err-2 : goal.returns-else-is_err-2
returns-else-is_err-2 c =
    let block = slice_range c.self.inside.block.items c.self.inside.start c.self.inside.end in
    let is : c.extend_from_slice-in-None.new.self.items ≡ c.self.inside.front.items ++ block = grind (arith, common_steps) in
    let front_is : c.args.self.now.front ≡ c.self.inside.front.items = cc in
    let block_is : c.args.self.now.block ≡ block = cc in
    let whole : c.extend_from_slice-in-None.new.self.items ≡ c.args.self.now.front ++ c.args.self.now.block = rw (front_is, block_is) is in
    let none : position is_feed block ≡ None = cc in
    let clean : has_feed block ≡ false = no_line_in_range c.self.inside.block.items c.self.inside.start c.self.inside.end none in
    (rw is (no_feed c.self.inside.front.items block c.self.invariant.0 clean), same_reading _ _ _ _ _ _ whole (range_none c.self.inside.block.items c.self.inside.end) (cc))
