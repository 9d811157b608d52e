use Rattle.std.proofs.lemmas.Result.{err_from_is_err_and}
use Rattle.lvm_varyon.proofs.VariedLemmas.Bringing.{stops_reading, stops_choosing}
use Rattle.lvm_varyon.proofs.vary.read_plan.Goals as goal

pub returns-in_err-survey : goal.returns-in_err-survey
returns-in_err-survey g c =
    let p = err_from_is_err_and c.from_residual.result c.from_residual.ensures.1 in
    rw (p.1, p.2) (record {
      planned = tt;
      stops = stops_reading (g.S.Shelf.device c.args.shelf.now) (g.S.Shelf.device c.read_disks.new.shelf) c.args.name c.args.moment c.args.patience.now.left c.in_err-survey.field-0.0 c.in_err-survey.ensures.gives;
      only = c.read_disks.ensures.only;
    })

pub returns-in-Ok : goal.returns-in-Ok
returns-in-Ok g c = record { planned = (c.in_ok-survey.survey, c.in_ok-survey.ensures.gives, c.in-Ok.ensures); stops = tt; only = c.read_disks.ensures.only }

pub returns : goal.returns
returns g c = record {
  planned = tt;
  stops = stops_choosing (g.S.Shelf.device c.args.shelf.now) (g.S.Shelf.device c.read_disks.new.shelf) c.args.name c.args.moment c.args.patience.now.left c.in_ok-survey.survey c.in_ok-survey.ensures.gives c.in-Err.why c.in-Err.ensures;
  only = c.read_disks.ensures.only;
}
