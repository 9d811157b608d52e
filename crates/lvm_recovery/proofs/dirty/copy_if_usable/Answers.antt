use Rattle.std.proofs.Common.{Bool, true, [], ◌∷◌, sym, ◌∙◌, subst}
use Rattle.std.specs.Prelude.{if◌then◌else◌}
use Rattle.lvm_write.specs.declared.begin.Begun.TheVariants as begun
use Rattle.lvm_recovery.specs.Copying.{AllGive}
use Rattle.lvm_recovery.specs.Dirty.{one_to}
use Rattle.lvm_recovery.proofs.JoiningLemmas.{nothing_made}
use Rattle.lvm_recovery.proofs.dirty.copy_if_usable.Goals as goal

pub returns-then-not-is_usable : goal.returns-then-not-is_usable
returns-then-not-is_usable g c = record {
  gives = subst (λ (t : Bool). AllGive (if t then one_to c.args.mib c.args.block c.args.from c.args.pp ∷ [] else []) c.args.buf.number c.args.patience.now.left c.args.patience.now.left (g.S.Shelf.device c.args.shelf.now) (g.S.Shelf.device c.args.shelf.now) (begun.Ended c.args.buf))
      (sym c.if-not-is_usable.true ∙ c.is_usable.ensures)
      (nothing_made c.args.patience.now.left (g.S.Shelf.device c.args.shelf.now) c.args.buf c.requires.ready c.requires.full);
}
