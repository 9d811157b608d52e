use Rattle.std.proofs.Common.{◌≡◌, ◌∙◌, rules}
use Rattle.std.proofs.lemmas.List.Sorted.{answers_always}
use Rattle.lvm_hold.specs.declared.queue.Row.{Row}
use Rattle.lvm_hold.specs.Chains.{place_in}
use Rattle.lvm_hold.proofs.PlaceLemmas.{searched, some_within, place_within}
use Rattle.lvm_hold.proofs.chains.place_of.Goals as goal

-- the closure gives a row's id
its_place : (c : goal.After-ok) → c.ok.result ≡ place_in c.args.id c.args.rows.now
its_place c =
    let facts = c.binary_search_by_key.ensures in
    let by_id = facts.position (λ (row : Row). row.id) (answers_always _ _ _ (λ f a r g called. search rules)) in
    c.ok.ensures.value ∙ searched c.args.rows.now c.args.id _ c.requires facts.bound by_id

pub returns : goal.returns
returns c = record { place = its_place c; within = some_within c.args.rows.now c.args.id c.ok.result (its_place c) }

pub returns-then-is_at-clause-within : goal.returns-then-is_at-clause-within
returns-then-is_at-clause-within c = place_within c.args.rows.now c.args.id c.likely_place-likely.result (c.is_at.ensures c.if-is_at.true)
