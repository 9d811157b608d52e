use Rattle.std.proofs.Common.{◌≡◌, ◌∙◌, None, sym, ap, subst}
use Rattle.lvm_hold.specs.Waiting.{Waiting, IsInside, Blocks}
use Rattle.lvm_hold.specs.Chains.{place_in}
use Rattle.lvm_hold.proofs.OrderLemmas.{first_conflict_blocks, first_conflict_least}
use Rattle.std.proofs.lemmas.Option.{get_or_from_slice_get}
use Rattle.lvm_hold.proofs.PlaceLemmas.{inside_has_place, place_within, IsAt, at_its_place}
use Rattle.lvm_hold.proofs.queue.Queue.blocked_by.Goals as goal

pub returns-in_err-place-clause-least : goal.returns-in_err-place-clause-least
returns-in_err-place-clause-least c earlier blocks =
    let inside : IsInside c.self.inside.rows.items c.args.id = rw (ap (λ (w : Waiting). w.rows) c.self.view_is) c.requires in
    let none : place_in c.args.id c.self.inside.rows.items ≡ None = ap (place_in c.args.id) (sym c.as_slice-rows.ensures) ∙ sym c.in_err-place.ensures.place in
    absurd (inside_has_place c.self.inside.rows.items c.args.id c.self.invariant.2.ascending inside none)

pub at-this-requires : goal.at-this-requires
at-this-requires c = place_within c.self.inside.rows.items c.args.id c.in_ok-place.place (ap (place_in c.args.id) (sym c.as_slice-rows.ensures) ∙ sym c.in_ok-place.ensures.place)

this_is : (c : goal.After-first_in_chain) → IsAt c.self.inside.rows.items c.args.id c.at-this.result
this_is c =
    let at = at_its_place c.self.inside.rows.items c.args.id c.in_ok-place.place c.at-this.result (ap (place_in c.args.id) (sym c.as_slice-rows.ensures) ∙ sym c.in_ok-place.ensures.place) in
    subst (IsAt c.self.inside.rows.items c.args.id) (get_or_from_slice_get c.self.inside.rows.items c.in_ok-place.place c.at-this.result c.at-this.result c.at-this.ensures) at

pub returns-clause-blocks : goal.returns-clause-blocks
returns-clause-blocks c =
    rw (c.first_in_chain.ensures, c.as_slice-rows.ensures, ← c.self.view_is) (first_conflict_blocks c.self.inside.rows.items c.at-this.result c.args.id (this_is c).among (this_is c).its)

pub returns-clause-least : goal.returns-clause-least
returns-clause-least c earlier blocks =
    let among : Blocks c.self.inside.rows.items earlier c.args.id = rw (ap (λ (w : Waiting). w.rows) c.self.view_is) blocks in
    rw (c.first_in_chain.ensures, c.as_slice-rows.ensures) (first_conflict_least c.self.inside.rows.items c.at-this.result c.args.id c.self.invariant.2.ascending (this_is c).among (this_is c).its earlier among)
