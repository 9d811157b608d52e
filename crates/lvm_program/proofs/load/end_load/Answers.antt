use Rattle.std.proofs.Common.{◌∙◌, IfSome, sym, subst}
use Rattle.lvm_load.specs.Loading.{NoneHasBegun}
use Rattle.lvm_session.specs.State.{Core}
use Rattle.lvm_top.specs.passed.HolderVariants as holder
use Rattle.lvm_top.specs.passed.GroupLines.{Holder, session_of}
use Rattle.lvm_program.specs.Loaded.{HoldsVolume, NoSuchVolume, NotVaried}
use Rattle.lvm_program.proofs.WovenLemmas.Woven.{ok_heard, rooms_at, serving_on, serving_unmoved}
use Rattle.lvm_program.proofs.LoadedLemmas.Loaded.{serving_loads}
use Rattle.lvm_program.proofs.load.end_load.Goals as goal

pub returns-then-not-is_ok-clause-ends : goal.returns-then-not-is_ok-clause-ends
returns-then-not-is_ok-clause-ends g c = NotVaried (λ ok. let yes = c.is_ok.ensures.1 ok in let no = c.if-not-is_ok.true in cc (yes, no)) c.refuse.ensures.refused

pub returns-in_default-clause-ends : goal.returns-in_default-clause-ends
returns-in_default-clause-ends g c = NoSuchVolume (c.is_ok.ensures.0 c.if-not-is_ok.false) c.in_default.ensures.none c.refuse-in_default.ensures.refused

pub load-requires-clause-on : goal.load-requires-clause-on
load-requires-clause-on g c = λ κs outlives. serving_on g.S.Shelf.device c.args.stage c.in-Serving.driver c.in-Serving.is (c.requires.between (λ stuck. ok_heard (sym (c.is_ok.ensures.0 c.if-not-is_ok.false) ∙ stuck)))

pub load-requires-clause-fresh : goal.load-requires-clause-fresh
load-requires-clause-fresh g c = λ κs outlives. subst (λ (h : Holder _). IfSome (session_of h) (λ (core : Core). NoneHasBegun core.history.facts)) c.in-Serving.is (c.requires.fresh (c.is_ok.ensures.0 c.if-not-is_ok.false))

pub returns-clause-ends : goal.returns-clause-ends
returns-clause-ends g c =
    let volume = c.in-Some.volume in
    serving_loads g.S.Shelf.device c.args.words.now c.args.reply _ (c.is_ok.ensures.0 c.if-not-is_ok.false) c.in-Serving.driver c.args.stage.holder c.in-Serving.is volume.number volume.blocks
    (subst (λ (h : Holder _). HoldsVolume h c.args.words.now.volume volume.number volume.blocks) c.in-Serving.is c.in-Some.ensures.some) c.load.ensures.loaded

pub returns-clause-rooms : goal.returns-clause-rooms
returns-clause-rooms g c = rooms_at g.S.Shelf.device c.args.stage (holder.Serving c.in-Serving.driver) c.in-Serving.is _ c.load.ensures.rooms

pub load-requires-clause-unmoved : goal.load-requires-clause-unmoved
load-requires-clause-unmoved g c = λ κs outlives. serving_unmoved g.S.Shelf.device c.args.stage c.in-Serving.driver c.in-Serving.is (c.requires.between (λ stuck. ok_heard (sym (c.is_ok.ensures.0 c.if-not-is_ok.false) ∙ stuck)))
