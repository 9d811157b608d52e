use Rattle.std.proofs.Common.{◌≡◌, ◌==◌, ℕ, Option, Some, None, sym, ◌∙◌, subst}
use Rattle.std.specs.Prelude.{position}
use Rattle.std.specs.List.{position_or_len}
use Rattle.std.proofs.lemmas.Bool.{eqb-true}
use Rattle.lvm_session.specs.declared.flown.Flown.{Flown}
use Rattle.lvm_session_turn.proofs.Listing.{finds, is_at}
use Rattle.lvm_session_turn.proofs.rows.row_of.Goals as goal

pub unreachable-requires : goal.unreachable-requires
unreachable-requires c =
    let rows = c.args.session.now.flying.items in
    let e : ◌≡◌ {A = Option ℕ} (Some (position_or_len (λ (row : Flown). row.ticket == c.args.ticket) rows)) None = sym (finds (λ (row : Flown). row.ticket == c.args.ticket) rows c.requires) ∙ sym (subst (λ xs. c.place_of.result ≡ position (λ (row : Flown). row.ticket == c.args.ticket) xs) c.deref.ensures.value c.place_of.ensures) ∙ c.in-None.is in
    absurd (cc e)

pub returns-clause-there : goal.returns-clause-there
returns-clause-there c = (is_at (λ (row : Flown). row.ticket == c.args.ticket) c.args.session.now.flying.items c.in-Some.at c.index.result.now c.requires (sym (subst (λ xs. c.place_of.result ≡ position (λ (row : Flown). row.ticket == c.args.ticket) xs) c.deref.ensures.value c.place_of.ensures) ∙ c.in-Some.is) c.index.ensures).there

pub returns-clause-own : goal.returns-clause-own
returns-clause-own c =
    let it = is_at (λ (row : Flown). row.ticket == c.args.ticket) c.args.session.now.flying.items c.in-Some.at c.index.result.now c.requires (sym (subst (λ xs. c.place_of.result ≡ position (λ (row : Flown). row.ticket == c.args.ticket) xs) c.deref.ensures.value c.place_of.ensures) ∙ c.in-Some.is) c.index.ensures in
    eqb-true c.index.result.now.ticket c.args.ticket it.passes
