use Rattle.std.proofs.Common.{◌≡◌, ◌+◌, ◌++◌, [], ◌∷◌, List, Some, length, take, drop, slice_get, refl, sym, ◌∙◌, ap, subst, arith}
use Rattle.std.proofs.lemmas.List.{length-append}
use Rattle.lvm_num.specs.Buffer.{Sector}
use Rattle.lvm_vol.specs.Log.{blocks_of}
use Rattle.lvm_ranges.specs.Reading.{AreGot}
use Rattle.lvm_ranges.proofs.ReadingLemmas.{read_well, reads_within, take_next}
use Rattle.lvm_ranges.proofs.reading.read_blocks.Goals as goal

pub overflow_add-asked : goal.overflow_add-asked
overflow_add-asked c =
    let less = c.loop-k-test.true in
    let within = reads_within c.args.history.now.facts c.args.asked.now.first c.args.asked.now.place c.requires.read (omega (arith, less)) in
    let few = c.is_ordered.ensures.few in
    let at = c.from.ensures in
    omega (arith, less, within, few, at)

pub block-requires : goal.block-requires
block-requires c =
    let less = c.loop-k-test.true in
    let within = reads_within c.args.history.now.facts c.args.asked.now.first c.args.asked.now.place c.requires.read (omega (arith, less)) in
    let at = c.from.ensures in
    omega (arith, less, within, at)

pub loop-k-init : goal.loop-k-init
loop-k-init c = record { items = c.in_ok-blocks.ensures.items ∙ sym (nothing (drop c.args.asked.now.place (blocks_of c.args.history.now.facts))); long = ap length c.in_ok-blocks.ensures.items }
  where
    nothing : {X : Type 0} (xs : List X) → ◌≡◌ {A = List X} (take 0 xs) []
    nothing [] = refl
    nothing (x ∷ xs) = refl

pub loop-k-preserved : goal.loop-k-preserved
loop-k-preserved c =
    let blocks : List Sector = blocks_of c.args.history.now.facts in
    let place = c.args.asked.now.place in
    let got : Sector = c.block.result.now in
    let there : slice_get blocks (place + c.loop-k.k) ≡ Some got = ap (λ n. slice_get blocks (place + n)) (sym c.from.ensures) ∙ c.block.ensures in
    record {
      items = c.in_ok-push.ensures.items ∙ ap (λ (l : List Sector). l ++ got ∷ []) c.loop-k.invariant.items ∙ sym (take_next blocks place c.loop-k.k got there);
      long = ap length c.in_ok-push.ensures.items ∙ length-append c.loop-k.blocks.items (got ∷ []) ∙ ap (λ n. n + 1) c.loop-k.invariant.long;
    }

pub returns-clause-got : goal.returns-clause-got
returns-clause-got c =
    let facts = c.args.history.now.facts in
    let last : c.loop-k.k ≡ c.args.count = omega arith in
    let same = c.new.ensures ∙ c.loop-k.invariant.items ∙ ap (λ n. take n (drop c.args.asked.now.place (blocks_of facts))) last in
    subst (λ (l : List Sector). AreGot facts c.args.asked.now.first c.args.asked.now.pieces l) (sym same) (read_well c.args.history.now.run facts c.args.asked.now c.args.count c.is_ordered.ensures.ordered c.requires.read c.requires.well)

pub returns-clause-long : goal.returns-clause-long
returns-clause-long c = let last : c.loop-k.k ≡ c.args.count = omega arith in ap length c.new.ensures ∙ c.loop-k.invariant.long ∙ last
