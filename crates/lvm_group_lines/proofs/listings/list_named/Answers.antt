use Rattle.std.proofs.Common.{◌≡◌, Bool, List, ℕ, ap, rules, subst, sym, if◌then◌else◌, refl}
use Rattle.lvm_show.specs.Listings.{group_text, volumes_text}
use Rattle.lvm_group_lines.specs.Listings.{ListsGroup, OtherGroup}
use Rattle.lvm_group_lines.specs.Replies.{Shows}
use Rattle.lvm_group_lines.proofs.listings.list_named.Goals as goal

pub returns-then-volumes : goal.returns-then-volumes
returns-then-volumes c =
    let on : c.args.group.now.name ≡ c.args.name = search rules in
    ListsGroup on (subst (λ (lines : List ℕ). Shows lines c.shows.result)
    (sym (ap (λ (b : Bool). if b then volumes_text c.args.group.now c.args.table.now else group_text c.args.group.now c.args.table.now) c.if-volumes.true)) (c.shows.ensures _ c.show_volumes.ensures))

pub returns-else-volumes : goal.returns-else-volumes
returns-else-volumes c =
    let on : c.args.group.now.name ≡ c.args.name = search rules in
    ListsGroup on (subst (λ (lines : List ℕ). Shows lines c.shows-else-volumes.result)
    (sym (ap (λ (b : Bool). if b then volumes_text c.args.group.now c.args.table.now else group_text c.args.group.now c.args.table.now) c.if-volumes.false)) (c.shows-else-volumes.ensures _ c.show_group.ensures))

pub returns-then-ne : goal.returns-then-ne
returns-then-ne c =
    let off : c.args.group.now.name ≡ c.args.name → ⊥ = search rules in
    OtherGroup off refl
