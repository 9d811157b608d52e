use Rattle.std.proofs.Common.{◌||◌, [], ◌∷◌, sym, ◌∙◌, arith}
use Rattle.std.specs.Option.{option_map_or}
use Rattle.lvm_num.specs.declared.place.Pp.{Pp}
use Rattle.lvm_session.specs.Fields.{core_of}
use Rattle.lvm_session.specs.Judging.{is_usable, is_caught}
use Rattle.lvm_due.proofs.FactsJudgingLemmas.{aims_end}
use Rattle.lvm_due.proofs.standing.are_targets.Goals as goal

pub returns : goal.returns
returns c =
    let test = c.loop-pp-test.false in
    let ended = aims_end (λ (p : Pp). is_usable (core_of c.args.session.now) p || is_caught (core_of c.args.session.now) c.args.group p) (option_map_or (λ (p : Pp). p ∷ []) c.args.place []) c.loop-pp.rest.now c.args.pps.now c.loop-pp.pp-index (omega (arith, test)) in
    c.are_last.ensures ∙ sym ended ∙ c.loop-pp.invariant
