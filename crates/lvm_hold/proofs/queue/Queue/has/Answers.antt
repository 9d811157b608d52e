use Rattle.std.proofs.Common.{◌≡◌, ◌==◌, ◌∙◌, List, is_some, refl, ap}
use Rattle.std.specs.List.{find}
use Rattle.lvm_hold.specs.declared.queue.Row.{Row}
use Rattle.lvm_hold.specs.Chains.{place_in}
use Rattle.lvm_hold.proofs.OrderLemmas.{inside_tells}
use Rattle.lvm_hold.proofs.PlaceLemmas.{place_tells}
use Rattle.lvm_hold.proofs.queue.Queue.has.Goals as goal

pub returns : goal.returns
returns c =
    let rows = c.self.inside.rows.items in
    let is : c.is_some.result ≡ is_some (find (λ (row : Row). row.id == c.args.id) rows) =
    c.is_some.ensures ∙ ap is_some c.place_of.ensures.place ∙ ap (λ (rs : List Row). is_some (place_in c.args.id rs)) c.as_slice.ensures ∙ place_tells rows c.args.id in
    let tells = inside_tells rows c.args.id (find (λ (row : Row). row.id == c.args.id) rows) c.self.invariant.2.ascending refl in
    rw (is, ← c.self.view_is) (tells.0, tells.1)
