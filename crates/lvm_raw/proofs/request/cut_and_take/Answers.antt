use Rattle.std.proofs.Common.{◌++◌, ◌∷◌, [], ◌∙◌, ap, refl}
use Rattle.lvm_vol.specs.Facts.{Cut, Landed, Request}
use Rattle.lvm_vol.specs.Log.{Log, request_of, is_open}
use Rattle.lvm_vol.specs.declared.entry.Outcome.TheVariants as outcome
use Rattle.lvm_raw.specs.Requests.{landing_ends}
use Rattle.lvm_raw.proofs.LogLemmas.{cut_is, open_cut, request_more}
use Rattle.lvm_raw.proofs.request.cut_and_take.Goals as goal

pub land_and_take-requires-clause-begun : goal.land_and_take-requires-clause-begun
land_and_take-requires-clause-begun c =
    let h = c.args.history.now in
    ap (λ (l : Log). is_open l.facts c.args.id) (c.cut.ensures ∙ cut_is h c.requires.uncut) ∙ open_cut h.facts c.args.id ∙ c.requires.begun

pub land_and_take-requires-clause-own : goal.land_and_take-requires-clause-own
land_and_take-requires-clause-own c =
    let h = c.args.history.now in
    ap (λ (l : Log). (request_of l.facts c.args.id).client) (c.cut.ensures ∙ cut_is h c.requires.uncut) ∙ ap (λ (r : Request). r.client) (request_more h.facts Cut c.args.id refl) ∙ c.requires.own

pub returns : goal.returns
returns c =
    let h = c.args.history.now in
    c.land_and_take.ensures
    ∙ ap (λ (l : Log). record l { facts = landing_ends l.facts (request_of l.facts c.args.id) (Landed (request_of l.facts c.args.id) outcome.Dark c.args.started []) }) (c.cut.ensures ∙ cut_is h c.requires.uncut)
    ∙ ap (λ (r : Request). record h { facts = landing_ends (h.facts ++ Cut ∷ []) r (Landed r outcome.Dark c.args.started []) }) (request_more h.facts Cut c.args.id refl)
