use Rattle.std.proofs.Common.{◌≡◌, ◌<◌, ◌+◌, ◌-◌, ◌^◌, ◌∙◌, ℕ, length, get_or, ap, sym, subst, arith}
use Rattle.indexmap.proofs.CallerLemmas.{index_map_len-with_value_at}
use Rattle.lvm_mwc.specs.Filled.{blank}
use Rattle.lvm_mwc.specs.Laid.{laid}
use Rattle.lvm_mwc.proofs.LaidLemmas.{inside, moved_long, moved_more, pins_inside}
use Rattle.lvm_mwc.proofs.filled.Filled.move_to_end.Goals as goal

pub overflow_add-index_mut : goal.overflow_add-index_mut
overflow_add-index_mut c =
    let same : c.index_mut.result.now ≡ (get_or c.args.self.now c.args.place blank).pins = pins_inside c.self.inside.keys.entries c.args.self.now c.args.place c.index_mut.result.now c.self.view_is c.requires.within c.index_mut.ensures.value in
    let room : (get_or c.args.self.now c.args.place blank).pins + 1 < 2 ^ 32 = c.requires.room in
    omega (arith, same, room)

pub overflow_sub-last : goal.overflow_sub-last
overflow_sub-last c =
    let full : c.len-last.result ≡ 62 = c.len-last.ensures.len ∙ index_map_len-with_value_at c.self.inside.keys c.args.place (c.index_mut.result.now + 1) ∙ c.self.invariant in
    omega (arith, full)

pub move_index-requires-clause-from_in_bounds : goal.move_index-requires-clause-from_in_bounds
move_index-requires-clause-from_in_bounds c =
    subst (λ (n : ℕ). c.args.place < n) (sym (index_map_len-with_value_at c.self.inside.keys c.args.place (c.index_mut.result.now + 1))) (inside c.self.inside.keys.entries c.args.self.now c.args.place c.self.view_is c.requires.within)

pub move_index-requires-clause-to_in_bounds : goal.move_index-requires-clause-to_in_bounds
move_index-requires-clause-to_in_bounds c =
    let full : c.len-last.result ≡ 62 = c.len-last.ensures.len ∙ index_map_len-with_value_at c.self.inside.keys c.args.place (c.index_mut.result.now + 1) ∙ c.self.invariant in
    let low : c.len-last.result - 1 < 62 = omega (arith, full) in
    subst (λ (n : ℕ). c.len-last.result - 1 < n) (sym (index_map_len-with_value_at c.self.inside.keys c.args.place (c.index_mut.result.now + 1) ∙ c.self.invariant)) low

pub invariant_of-self : goal.invariant_of-self
invariant_of-self c =
    let es = c.self.inside.keys.entries in
    let full : c.len-last.result ≡ 62 = c.len-last.ensures.len ∙ index_map_len-with_value_at c.self.inside.keys c.args.place (c.index_mut.result.now + 1) ∙ c.self.invariant in
    let all : length es ≡ 62 = c.self.invariant in
    ap length c.move_index.ensures.entries ∙ moved_long es c.args.place (c.index_mut.result.now + 1) (c.len-last.result - 1) (inside es c.args.self.now c.args.place c.self.view_is c.requires.within) (omega (arith, full, all)) ∙ all

pub returns : goal.returns
returns c =
    let es = c.self.inside.keys.entries in
    let full : c.len-last.result ≡ 62 = c.len-last.ensures.len ∙ index_map_len-with_value_at c.self.inside.keys c.args.place (c.index_mut.result.now + 1) ∙ c.self.invariant in
    let all : length es ≡ 62 = c.self.invariant in
    ap laid c.move_index.ensures.entries ∙ moved_more es c.args.self.now c.args.place c.index_mut.result.now (c.len-last.result - 1) c.self.view_is c.requires.within (omega (arith, full, all)) c.index_mut.ensures.value
