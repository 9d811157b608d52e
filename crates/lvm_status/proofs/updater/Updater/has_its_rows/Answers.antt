use Rattle.std.proofs.Common.{◌≡◌, true, ◌&&◌, sym, ap, ◌∙◌}
use Rattle.std.proofs.lemmas.Bool.{false≢true}
use Rattle.lvm_status.specs.Members.{all_rows, all_members}
use Rattle.lvm_status.proofs.MembersLemmas.Rows.{rows_are, rows_tell}
use Rattle.lvm_status.proofs.RunsLemmas.Sound.{and_left, both}
use Rattle.lvm_status.proofs.updater.Updater.has_its_rows.Goals as goal

pub returns-then-all_have_rows : goal.returns-then-all_have_rows
returns-then-all_have_rows c =
    let rows : all_rows c.args.d.now c.args.table.now ≡ true = sym c.all_have_rows.ensures ∙ c.if-all_have_rows.true in
    let members : c.all_are_members.result ≡ all_members c.args.d.now c.args.table.now = c.all_are_members.ensures ∙ ap (all_members c.args.d.now) c.as_status.ensures.same in (
      λ is. rows_are c.args.d.now c.args.table.now (both (all_rows c.args.d.now c.args.table.now) (all_members c.args.d.now c.args.table.now) rows (sym members ∙ is)),
      λ has. members ∙ sym (ap (λ b. b && all_members c.args.d.now c.args.table.now) rows) ∙ rows_tell c.args.d.now c.args.table.now has,
    )

pub returns-else-all_have_rows : goal.returns-else-all_have_rows
returns-else-all_have_rows c = (
  λ is. absurd (false≢true (sym c.if-all_have_rows.false ∙ is)),
  λ has. c.all_have_rows.ensures ∙ and_left (all_rows c.args.d.now c.args.table.now) (all_members c.args.d.now c.args.table.now) (rows_tell c.args.d.now c.args.table.now has),
)
