use Rattle.std.proofs.Common.{◌<◌, List, length, map, Some, sym, ap, ◌∙◌, subst, arith, slice_get}
use Rattle.std.proofs.lemmas.List.{get_or-map, length-map}
use Rattle.std.proofs.lemmas.Option.{slice_get-get_or}
use Rattle.lvm_history.specs.passed.Vol.{Entry}
use Rattle.lvm_allowed.specs.declared.row.Ask.{Ask}
use Rattle.lvm_allowed.specs.declared.row.Row.{Row}
use Rattle.lvm_history.specs.Opened.{kept_of}
use Rattle.lvm_history.specs.Keeping.{entry_kept, IsOneOfAsks}
use Rattle.lvm_history.proofs.KeepingLemmas.{length_rows, row_names, entries_kept}
use Rattle.lvm_history.proofs.history.History.entry.Goals as goal

pub entry_of-requires : goal.entry_of-requires
entry_of-requires c =
    let within : c.args.k < length c.self.inside.rows.items = omega (arith, c.requires, length_rows (kept_of c.self.inside) c.args.self.now c.self.invariant.kept c.self.view_is) in
    let names = row_names (kept_of c.self.inside) c.args.k c.index.result.now c.self.invariant.kept within in
    let here = subst (λ (r : Row). IsOneOfAsks r (length c.self.inside.asks.items)) (sym c.index.ensures) names in
    subst (λ (l : List Ask). IsOneOfAsks c.index.result.now (length l)) (sym c.deref.ensures.value) here

pub returns : goal.returns
returns c =
    let within : c.args.k < length c.self.inside.rows.items = omega (arith, c.requires, length_rows (kept_of c.self.inside) c.args.self.now c.self.invariant.kept c.self.view_is) in
    let entry_of_row : Row → Entry = entry_kept c.self.inside.asks.items in
    let size = length-map c.self.inside.rows.items (entry_kept c.self.inside.asks.items) in
    ap (λ (l : List Entry). slice_get l c.args.k) (sym (entries_kept (kept_of c.self.inside) c.args.self.now c.self.invariant.kept c.self.view_is))
    ∙ slice_get-get_or (map (entry_kept c.self.inside.asks.items) c.self.inside.rows.items) c.args.k c.entry_of.result (omega (arith, within, size))
    ∙ ap (λ (x : Entry). Some x) (get_or-map (entry_kept c.self.inside.asks.items) c.self.inside.rows.items c.args.k c.index.result.now c.entry_of.result within
    ∙ ap (λ (r : Row). entry_kept c.self.inside.asks.items r) (sym c.index.ensures)
    ∙ ap (λ (l : List Ask). entry_kept l c.index.result.now) (sym c.deref.ensures.value)
    ∙ sym c.entry_of.ensures)
