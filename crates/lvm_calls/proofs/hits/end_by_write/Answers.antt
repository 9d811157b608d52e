use Rattle.std.proofs.Common.{Bool, false, Option, sym, ◌∙◌, ap}
use Rattle.std.specs.Option.{option_map_or}
use Rattle.lvm_session.specs.declared.bringing.CopyEnd.TheVariants as ending
use Rattle.lvm_session.specs.declared.bringing.OpenCopy.{OpenCopy}
use Rattle.lvm_session.specs.declared.open.Open.{Open}
use Rattle.lvm_session.specs.Bringing.{ends_if}
use Rattle.lvm_session.specs.Fields.{core_of}
use Rattle.lvm_session.specs.Marks.{hits_copy}
use Rattle.lvm_calls.specs.Losing.{fails_with}
use Rattle.lvm_calls.proofs.LosingLemmas.{hits_is, read_same}
use Rattle.lvm_calls.proofs.hits.end_by_write.Goals as goal

pub returns-in-Some : goal.returns-in-Some
returns-in-Some c o there =
    let core = core_of c.args.session.now in
    let read = read_same core.requests c.args.place c.index.result.now o there c.index.ensures in
    c.fails_if.ensures
    ∙ ap (λ (b : Bool). ends_if b ending.SyncFailed)
    (c.fails_with.ensures
    ∙ ap (λ (x : Open). fails_with core x c.args.ok c.args.pp c.in-Some.copy) read
    ∙ hits_is core o c.args.ok c.args.pp c.in-Some.copy
    ∙ sym (ap (λ (m : Option OpenCopy). option_map_or (hits_copy core o c.args.ok c.args.pp) m false) c.in-Some.is))
