use Rattle.std.proofs.Common.{◌≡◌, ℕ, ◌+◌, ◌<◌, ◌^◌, sym, ap, subst, ◌∙◌, arith}
use Rattle.lvm_num.specs.declared.record.Stamp.{Stamp}
use Rattle.lvm_num.specs.declared.descriptor.Descriptor.{Descriptor}
use Rattle.lvm_num.specs.Disks.{has}
use Rattle.lvm_disk.specs.Device.{Device}
use Rattle.lvm_rec.specs.declared.homes.Homes.{Homes}
use Rattle.lvm_commit.specs.Committed.{next_stamp}
use Rattle.lvm_session.specs.declared.session.Session.{Session}
use Rattle.lvm_session.specs.Fields.{core_of}
use Rattle.lvm_session.specs.State.{state}
use Rattle.lvm_change.specs.Transition.{MayMakeTransition, TransitionGives}
use Rattle.lvm_turnover.specs.Turning.{IsTurnBy, after_turn}
use Rattle.lvm_turnover.proofs.SendingLemmas.{may_turn, sent_core}
use Rattle.lvm_turnover.proofs.turning.send.Goals as goal

pub set_stamp-requires : goal.set_stamp-requires
set_stamp-requires g c = ap (λ (s : Session). s.updater.in_flight) c.take_buffer-buf.ensures.taken ∙ c.requires.may.commit.settle.idle

pub next_stamp-first-requires : goal.next_stamp-first-requires
next_stamp-first-requires g c =
    let is : c.stamp-stamp.result.seq ≡ c.args.session.now.updater.stamp.seq = ap (λ (x : Stamp). x.seq) (c.stamp-stamp.ensures ∙ ap (λ (s : Session). s.updater.stamp) c.take_buffer-buf.ensures.taken) in
    let left = c.requires.may.commit.numbers in
    omega (arith, is, left)

pub next_stamp-last-requires : goal.next_stamp-last-requires
next_stamp-last-requires g c =
    let is : c.stamp-stamp.result.seq ≡ c.args.session.now.updater.stamp.seq = ap (λ (x : Stamp). x.seq) (c.stamp-stamp.ensures ∙ ap (λ (s : Session). s.updater.stamp) c.take_buffer-buf.ensures.taken) in
    let one : c.next_stamp-first.result.seq ≡ c.stamp-stamp.result.seq + 1 = ap (λ (x : Stamp). x.seq) c.next_stamp-first.ensures in
    let left = c.requires.may.commit.numbers in
    omega (arith, is, one, left)

pub make_transition-requires : goal.make_transition-requires
make_transition-requires g c =
    let self : Session = c.args.session.now in
    let stamp_is : c.stamp-stamp.result ≡ self.updater.stamp = c.stamp-stamp.ensures ∙ ap (λ (s : Session). s.updater.stamp) c.take_buffer-buf.ensures.taken in
    let bound : c.stamp-stamp.result.epoch < 2 ^ 64 = omega arith in
    let low : self.updater.stamp.epoch < 2 ^ 64 = subst (λ (x : Stamp). x.epoch < 2 ^ 64) stamp_is bound in
    let was : c.spell_status-count.new.session.descriptor ≡ self.descriptor = ap (λ (s : Session). s.descriptor) c.spell_status-count.ensures.same ∙ ap (λ (s : Session). s.descriptor) c.take_buffer-buf.ensures.taken in
    let by : IsTurnBy c.args.change.now self.descriptor c.turn_by-turn.result = subst (λ (d : Descriptor). IsTurnBy c.args.change.now d c.turn_by-turn.result) was c.turn_by-turn.ensures in
    record {
      may = subst (λ (x : Stamp). MayMakeTransition c.turn_by-turn.result (has c.args.there) x (g.S.Shelf.device c.args.shelf.now)) (sym stamp_is)
          (may_turn c.args.change.now (has c.args.there) (state (g.S.Shelf.device c.args.shelf.now) (core_of self)) c.requires.may c.turn_by-turn.result by low);
    }

pub returns-clause-sent : goal.returns-clause-sent
returns-clause-sent g c =
    let self : Session = c.args.session.now in
    let taken : Session = c.take_buffer-buf.new.session in
    let taken_is = c.take_buffer-buf.ensures.taken in
    let stamp_is : c.stamp-stamp.result ≡ self.updater.stamp = c.stamp-stamp.ensures ∙ ap (λ (s : Session). s.updater.stamp) taken_is in
    let last_is : c.next_stamp-last.result ≡ after_turn self.updater.stamp = c.next_stamp-last.ensures ∙ ap next_stamp (c.next_stamp-first.ensures ∙ ap next_stamp stamp_is) in
    let old : Device = g.S.Shelf.device c.args.shelf.now in
    let new : Device = g.S.Shelf.device c.make_transition.new.shelf in
    let p : ℕ = c.args.patience.now.left in
    let q : ℕ = c.make_transition.new.patience.left in
    let homes : Homes = c.make_transition.new.homes in
    let spelled = c.spell_status-count.new.session in
    let spelled_is = c.spell_status-count.ensures.same in
    let zero = subst (λ (s : Session). TransitionGives c.turn_by-turn.result (has c.args.there) c.stamp-stamp.result s.homes homes c.take_buffer-buf.result.number p q old new c.make_transition.result) spelled_is c.make_transition.ensures in
    let one = subst (λ (x : Stamp). TransitionGives c.turn_by-turn.result (has c.args.there) x taken.homes homes c.take_buffer-buf.result.number p q old new c.make_transition.result) stamp_is zero in
    let two = subst (λ (s : Session). TransitionGives c.turn_by-turn.result (has c.args.there) self.updater.stamp s.homes homes c.take_buffer-buf.result.number p q old new c.make_transition.result) taken_is one in
    record {
      turn = c.turn_by-turn.result;
      by = subst (λ (d : Descriptor). IsTurnBy c.args.change.now d c.turn_by-turn.result) (ap (λ (s : Session). s.descriptor) spelled_is ∙ ap (λ (s : Session). s.descriptor) taken_is) c.turn_by-turn.ensures;
      gives = subst (λ (n : ℕ). TransitionGives c.turn_by-turn.result (has c.args.there) self.updater.stamp self.homes homes n p q old new c.make_transition.result) c.take_buffer-buf.ensures.number two;
      is = ap (λ (s : Session). core_of (record s { homes = homes })) spelled_is ∙ sent_core self taken c.set_stamp.new.self homes c.next_stamp-last.result taken_is c.set_stamp.ensures last_is;
    }
