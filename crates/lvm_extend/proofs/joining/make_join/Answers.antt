use Rattle.lvm_num.specs.Disks.{has}
use Rattle.lvm_extend.specs.declared.admission.Admitted.TheVariants as admitted
use Rattle.lvm_extend.specs.declared.joining.JoinEnd.TheVariants as ended
use Rattle.lvm_extend.proofs.JoiningLemmas.{may_spread, joined, stopped}
use Rattle.lvm_extend.proofs.AdmissionLemmas.{not_it}
use Rattle.lvm_extend.proofs.joining.make_join.Goals as goal

pub spread-end-requires : goal.spread-end-requires
spread-end-requires g c = record {
  may = may_spread c.args.turn c.args.disk (has c.args.there) c.args.stamp c.args.homes.now (g.S.Shelf.device c.args.shelf.now) (g.met.S.Shelf.sectors_are_whole c.args.shelf.now) c.requires.may c.admit.new.homes c.args.buf.number c.args.patience.now.left c.admit.new.patience.left
      (g.S.Shelf.device c.admit.new.shelf) c.in-Done.buf c.in-Done.ensures;
}

pub returns-in-Done : goal.returns-in-Done
returns-in-Done g c =
    joined c.args.turn c.args.disk (has c.args.there) c.args.stamp c.args.homes.now (g.S.Shelf.device c.args.shelf.now) (g.met.S.Shelf.sectors_are_whole c.args.shelf.now) c.requires.may c.admit.new.homes c.args.buf.number c.args.patience.now.left c.admit.new.patience.left
    (g.S.Shelf.device c.admit.new.shelf) c.in-Done.buf c.in-Done.ensures c.spread-end.new.patience.left (g.S.Shelf.device c.spread-end.new.shelf) c.spread-end.result c.spread-end.ensures c.told_of.result c.told_of.ensures

pub returns-in-Failed : goal.returns-in-Failed
returns-in-Failed g c =
    stopped c.args.turn c.args.disk (has c.args.there) c.args.stamp c.args.homes.now (g.S.Shelf.device c.args.shelf.now) (g.met.S.Shelf.sectors_are_whole c.args.shelf.now) c.requires.may c.admit.new.homes c.args.buf.number c.args.patience.now.left c.admit.new.patience.left
    (g.S.Shelf.device c.admit.new.shelf) (admitted.Failed c.in-Failed.buf) (ended.DiskFailed c.in-Failed.buf) c.in-Failed.ensures
    (c.in-Failed.ensures.ends.0, c.in-Failed.ensures.ends.1, λ d apart. c.in-Failed.ensures.keeps.starts d (not_it c.args.disk d apart))

pub returns-in-Dark : goal.returns-in-Dark
returns-in-Dark g c =
    stopped c.args.turn c.args.disk (has c.args.there) c.args.stamp c.args.homes.now (g.S.Shelf.device c.args.shelf.now) (g.met.S.Shelf.sectors_are_whole c.args.shelf.now) c.requires.may c.admit.new.homes c.args.buf.number c.args.patience.now.left c.admit.new.patience.left
    (g.S.Shelf.device c.admit.new.shelf) admitted.Dark ended.Dark c.in-Dark.ensures c.in-Dark.ensures.ends

pub returns-in-Stuck : goal.returns-in-Stuck
returns-in-Stuck g c =
    stopped c.args.turn c.args.disk (has c.args.there) c.args.stamp c.args.homes.now (g.S.Shelf.device c.args.shelf.now) (g.met.S.Shelf.sectors_are_whole c.args.shelf.now) c.requires.may c.admit.new.homes c.args.buf.number c.args.patience.now.left c.admit.new.patience.left
    (g.S.Shelf.device c.admit.new.shelf) admitted.Stuck ended.Stuck c.in-Stuck.ensures c.in-Stuck.ensures.ends
