use Rattle.std.proofs.Common.{◌≡◌, ◌<◌, ◌∙◌, Some, None, ap, sym, arith, length}
use Rattle.std.proofs.lemmas.List.{get_or_default}
use Rattle.std.proofs.lemmas.Option.{get_or_from_slice_get}
use Rattle.lvm_hold.specs.declared.queue.Row.{Row}
use Rattle.lvm_hold.specs.Waiting.{Waiting}
use Rattle.lvm_hold.specs.Chains.{first_of, place_in}
use Rattle.lvm_hold.proofs.PlaceLemmas.{place_some}
use Rattle.lvm_hold.proofs.QueueLemmas.{none_before_place}
use Rattle.lvm_hold.proofs.queue.Queue.last_before.Goals as goal

pub index-requires : goal.index-requires
index-requires c = omega (arith, c.requires.head, c.self.invariant.2.count, c.self.inside.heads.ok.0)

pub returns-in-Some-clause-place : goal.returns-in-Some-clause-place
returns-in-Some-clause-place c =
    let rows = c.self.inside.rows.items in
    let heads = c.self.inside.heads.items in
    let order = c.self.invariant.2.ascending in
    let there : c.args.head < length heads = omega (arith, c.self.invariant.2.count, c.requires.head) in
    let within : c.args.place < length rows = omega (arith, c.requires.there, ap (λ (w : Waiting). length w.rows) c.self.view_is) in
    let first : first_of c.args.head rows ≡ Some c.in-Some.first =
    sym (c.self.invariant.2.heads_are c.args.head c.requires.head) ∙ sym (get_or_default heads c.args.head _ None there) ∙ sym c.index.ensures ∙ c.in-Some.is in
    let at : place_in c.in-Some.first rows ≡ Some c.args.place =
    place_some rows c.in-Some.first c.args.place order within (λ d. ap (λ (r : Row). r.id) (get_or_from_slice_get rows c.args.place c.at.result d c.at.ensures) ∙ sym c.if-first-at.true) in
    rw (← c.self.view_is) (sym (none_before_place rows c.args.head c.in-Some.first c.args.place order at first))

pub at-requires : goal.at-requires
at-requires c = omega (arith, c.requires.there, ap (λ (w : Waiting). length w.rows) c.self.view_is)
