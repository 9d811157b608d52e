use Rattle.std.proofs.Common.{◌≡◌, refl, sym, ap, subst, ◌∙◌, arith}
use Rattle.std.specs.Prelude.{IsTrue, None}
use Rattle.lvm_num.specs.declared.status.Status.{Status}
use Rattle.lvm_num.specs.declared.descriptor.Descriptor.{Descriptor}
use Rattle.lvm_num.specs.Disks.{Disks, has}
use Rattle.lvm_num.specs.Descriptor.{IsValid, is_member}
use Rattle.lvm_status.specs.Members.{HasItsRows}
use Rattle.lvm_status.specs.Update.{Stored, members_there}
use Rattle.lvm_write.specs.Written.{written_well}
use Rattle.lvm_commit.specs.Settling.{IsOf, MayCommit}
use Rattle.lvm_session_start.specs.passed.Pbuf.{IsOut}
use Rattle.lvm_mwc.specs.Cache.{flight_on}
use Rattle.lvm_turnover.specs.Turning.{core_after, unreached}
use Rattle.lvm_session.specs.Dark.{all_dark}
use Rattle.lvm_session.specs.Fields.{core_of}
use Rattle.lvm_session.specs.State.{Core, State, state}
use Rattle.lvm_core.specs.Sound.{HasNoneOpen}
use Rattle.lvm_core.proofs.SoundLemmas.Dark.{may_end}
use Rattle.lvm_core.proofs.CommittingLemmas.Buffers.{one_is_out}
use Rattle.lvm_turnover.proofs.BeginningLemmas.{unreached_member, unreached_next}
use Rattle.lvm_turnover.proofs.SendingLemmas.{may_send, turns, takes_over, over_may, done_number, gives_up, off_number}
use Rattle.lvm_turnover.proofs.turning.turn_session.Goals as goal

pub send-requires-clause-may : goal.send-requires-clause-may
send-requires-clause-may g c =
    let self = c.args.session.now in
    may_send c.args.change (has c.members_there-there.result) (state (g.S.Shelf.device c.args.shelf.now) (core_of self)) c.requires.may
    (c.members_there-there.ensures ∙ ap (λ (s : Status). members_there self.descriptor s) c.wanted.ensures)

pub take_over-requires-clause-valid : goal.take_over-requires-clause-valid
take_over-requires-clause-valid g c = c.requires.may.change.valid_next

pub take_over-requires-clause-prepared : goal.take_over-requires-clause-prepared
take_over-requires-clause-prepared g c = c.requires.may.ready.prepared

pub take_over-requires-clause-rows : goal.take_over-requires-clause-rows
take_over-requires-clause-rows g c = c.requires.may.ready.told.rows

pub take_over-requires-clause-idle : goal.take_over-requires-clause-idle
take_over-requires-clause-idle g c = ap (λ (k : Core). k.status.in_flight) c.in-Done.ensures.sent.is ∙ c.requires.may.commit.settle.idle

pub take_over-requires-clause-still : goal.take_over-requires-clause-still
take_over-requires-clause-still g c = λ disk. ap (λ (k : Core). flight_on k.cache disk) c.in-Done.ensures.sent.is ∙ c.requires.may.still disk

pub take_over-requires-clause-members : goal.take_over-requires-clause-members
take_over-requires-clause-members g c =
    let self = c.args.session.now in
    let old : State = state (g.S.Shelf.device c.args.shelf.now) (core_of self) in
    let lost_is : has c.without.result ≡ unreached c.args.change.next (core_of self) c.in-Done.written =
    c.without.ensures ∙ ap (λ (set : Disks). written_well set (has c.in-Done.written)) (c.members_there-stay.ensures ∙ ap (λ (s : Status). members_there c.args.change.next s) c.wanted-2.ensures) in
    λ disk is. unreached_next c.args.change old c.requires.may c.in-Done.written disk (subst (λ (set : Disks). IsTrue (set disk)) lost_is is)

pub settle-requires-clause-may : goal.settle-requires-clause-may
settle-requires-clause-may g c =
    let self = c.args.session.now in
    let old : State = state (g.S.Shelf.device c.args.shelf.now) (core_of self) in
    let m = g.S.Shelf.device c.send.new.shelf in
    let there_is = c.members_there-there.ensures ∙ ap (λ (s : Status). members_there self.descriptor s) c.wanted.ensures in
    let first : Stored = c.take_over.new.session.updater in
    subst (λ (d : Descriptor). MayCommit 1 d first m) (sym (ap (λ (k : Core). k.descriptor) c.take_over.ensures.core))
    (over_may c.args.change c.args.patience.now.left c.send.new.patience.left old m (core_of c.send.new.session) (has c.members_there-there.result) c.in-Done.written c.in-Done.buf there_is c.in-Done.ensures.sent c.requires.may c.without.result (c.without.ensures ∙ ap (λ (set : Disks). written_well set (has c.in-Done.written)) (c.members_there-stay.ensures ∙ ap (λ (s : Status). members_there c.args.change.next s) c.wanted-2.ensures)) first c.take_over.ensures.parts)

pub settle-requires-clause-bytes : goal.settle-requires-clause-bytes
settle-requires-clause-bytes g c =
    let one = c.send.ensures.rooms.bytes in
    let two = c.take_over.ensures.rooms.bytes in
    let has = c.requires.bytes in
    omega (arith, one, two, has)

pub settle-requires-clause-none : goal.settle-requires-clause-none
settle-requires-clause-none g c =
    let sent = c.in-Done.ensures.sent in
    subst HasNoneOpen (sym (c.take_over.ensures.core ∙ ap (λ (k : Core). record (core_after c.args.change.leaving k) { descriptor = c.args.change.next; status = c.take_over.new.session.updater }) sent.is)) (record { requests = c.requires.none.requests; copy = c.requires.none.copy })

pub settle-requires-clause-out : goal.settle-requires-clause-out
settle-requires-clause-out g c =
    let sent = c.in-Done.ensures.sent in
    subst (λ (k : Core). IsOut k.pool 0) (sym (c.take_over.ensures.core ∙ ap (λ (k : Core). record (core_after c.args.change.leaving k) { descriptor = c.args.change.next; status = c.take_over.new.session.updater }) sent.is)) (one_is_out c.args.session.now.pool 0 refl c.requires.some)

pub settle-requires-clause-number : goal.settle-requires-clause-number
settle-requires-clause-number g c =
    let self = c.args.session.now in
    let old : State = state (g.S.Shelf.device c.args.shelf.now) (core_of self) in
    let there_is = c.members_there-there.ensures ∙ ap (λ (s : Status). members_there self.descriptor s) c.wanted.ensures in
    done_number c.args.change c.args.patience.now.left c.send.new.patience.left old (g.S.Shelf.device c.send.new.shelf) (core_of c.send.new.session) (has c.members_there-there.result) c.in-Done.written c.in-Done.buf there_is c.in-Done.ensures.sent c.requires.may

pub returns-in-Done-clause-does : goal.returns-in-Done-clause-does
returns-in-Done-clause-does g c =
    let self = c.args.session.now in
    let old : State = state (g.S.Shelf.device c.args.shelf.now) (core_of self) in
    let m = g.S.Shelf.device c.send.new.shelf in
    let new : State = state (g.S.Shelf.device c.settle.new.shelf) (core_of c.settle.new.session) in
    let there_is = c.members_there-there.ensures ∙ ap (λ (s : Status). members_there self.descriptor s) c.wanted.ensures in
    let p = c.args.patience.now.left in
    let q = c.send.new.patience.left in
    let r = c.settle.new.patience.left in
    let sent = c.in-Done.ensures.sent in
    turns c.args.change p q r old new m (core_of c.send.new.session) (has c.members_there-there.result) _ c.settle.result there_is sent
    (takes_over c.args.change p q r old new m (core_of c.send.new.session) (has c.members_there-there.result) _ c.settle.result there_is sent c.in-Done.written c.without.result (c.without.ensures ∙ ap (λ (set : Disks). written_well set (has c.in-Done.written)) (c.members_there-stay.ensures ∙ ap (λ (s : Status). members_there c.args.change.next s) c.wanted-2.ensures)) c.take_over.new.session.updater (core_of c.take_over.new.session)
    c.take_over.ensures.core c.take_over.ensures.parts c.settle.ensures.settles)

pub give_up-requires-clause-valid : goal.give_up-requires-clause-valid
give_up-requires-clause-valid g c = subst (λ (k : Core). IsValid k.descriptor) (sym c.in-WentOff.ensures.sent.is) c.requires.may.change.valid

pub give_up-requires-clause-own : goal.give_up-requires-clause-own
give_up-requires-clause-own g c = subst (λ (k : Core). IsOf k.descriptor k.status) (sym c.in-WentOff.ensures.sent.is) c.requires.may.commit.settle.own

pub give_up-requires-clause-idle : goal.give_up-requires-clause-idle
give_up-requires-clause-idle g c = subst (λ (k : Core). k.status.in_flight ≡ None) (sym c.in-WentOff.ensures.sent.is) c.requires.may.commit.settle.idle

pub give_up-requires-clause-rows : goal.give_up-requires-clause-rows
give_up-requires-clause-rows g c = subst (λ (k : Core). HasItsRows k.status.group k.status.wanted) (sym c.in-WentOff.ensures.sent.is) c.requires.may.commit.settle.rows

pub give_up-requires-clause-members : goal.give_up-requires-clause-members
give_up-requires-clause-members g c =
    let self = c.args.session.now in
    let there_is = c.members_there-there.ensures ∙ ap (λ (s : Status). members_there self.descriptor s) c.wanted.ensures in
    λ disk is. subst (λ (k : Core). IsTrue (is_member k.descriptor disk)) (sym c.in-WentOff.ensures.sent.is)
    (unreached_member c.args.change (state (g.S.Shelf.device c.args.shelf.now) (core_of self)) c.requires.may c.in-WentOff.written disk
    (subst (λ (set : Disks). IsTrue (set disk)) (c.without-in-WentOff.ensures ∙ ap (λ (set : Disks). written_well set (has c.in-WentOff.written)) there_is) is))

pub give_up-requires-clause-out : goal.give_up-requires-clause-out
give_up-requires-clause-out g c =
    let self = c.args.session.now in
    let old : State = state (g.S.Shelf.device c.args.shelf.now) (core_of self) in
    let there_is = c.members_there-there.ensures ∙ ap (λ (s : Status). members_there self.descriptor s) c.wanted.ensures in
    let number = off_number c.args.change c.args.patience.now.left c.send.new.patience.left old (g.S.Shelf.device c.send.new.shelf) (core_of c.send.new.session) (has c.members_there-there.result) c.in-WentOff.have c.in-WentOff.total c.in-WentOff.written c.in-WentOff.buf there_is c.in-WentOff.ensures.sent in
    subst (λ (k : Core). IsOut k.pool c.in-WentOff.buf.number) (sym c.in-WentOff.ensures.sent.is) (one_is_out self.pool c.in-WentOff.buf.number number c.requires.some)

pub returns-in-WentOff-clause-does : goal.returns-in-WentOff-clause-does
returns-in-WentOff-clause-does g c =
    let self = c.args.session.now in
    let old : State = state (g.S.Shelf.device c.args.shelf.now) (core_of self) in
    let m = g.S.Shelf.device c.send.new.shelf in
    let there_is = c.members_there-there.ensures ∙ ap (λ (s : Status). members_there self.descriptor s) c.wanted.ensures in
    let p = c.args.patience.now.left in
    let q = c.send.new.patience.left in
    let new : Core = core_of c.give_up.new.session in
    turns c.args.change p q q old (state m new) m (core_of c.send.new.session) (has c.members_there-there.result) _ _ there_is c.in-WentOff.ensures.sent (
      refl,
      refl,
      gives_up c.args.change p q old m (core_of c.send.new.session) (has c.members_there-there.result) c.in-WentOff.have c.in-WentOff.total c.in-WentOff.written c.in-WentOff.buf there_is c.in-WentOff.ensures.sent c.requires.buffers
          c.without-in-WentOff.result c.without-in-WentOff.ensures new c.give_up.ensures.core c.give_up.ensures.parts,
    )

pub darken-requires : goal.darken-requires
darken-requires g c = may_end (core_of c.send.new.session) (subst HasNoneOpen (sym c.in-Dark.ensures.sent.is) (record { requests = c.requires.none.requests; copy = c.requires.none.copy }))

pub returns-in-Dark-clause-does : goal.returns-in-Dark-clause-does
returns-in-Dark-clause-does g c =
    let self = c.args.session.now in
    let old : State = state (g.S.Shelf.device c.args.shelf.now) (core_of self) in
    let there_is = c.members_there-there.ensures ∙ ap (λ (s : Status). members_there self.descriptor s) c.wanted.ensures in
    let q = c.send.new.patience.left in
    let m = g.S.Shelf.device c.send.new.shelf in
    turns c.args.change c.args.patience.now.left q q old (state m (core_of c.darken.new.session)) m (core_of c.send.new.session) (has c.members_there-there.result) _ _ there_is c.in-Dark.ensures.sent
    (refl, refl, refl, c.darken.ensures.core ∙ ap all_dark c.in-Dark.ensures.sent.is)

pub returns-in-Stuck-clause-does : goal.returns-in-Stuck-clause-does
returns-in-Stuck-clause-does g c =
    let self = c.args.session.now in
    let old : State = state (g.S.Shelf.device c.args.shelf.now) (core_of self) in
    let there_is = c.members_there-there.ensures ∙ ap (λ (s : Status). members_there self.descriptor s) c.wanted.ensures in
    let q = c.send.new.patience.left in
    let m = g.S.Shelf.device c.send.new.shelf in
    turns c.args.change c.args.patience.now.left q q old (state m (core_of c.send.new.session)) m (core_of c.send.new.session) (has c.members_there-there.result) _ _ there_is c.in-Stuck.ensures.sent
    (refl, refl, refl, c.in-Stuck.ensures.sent.is)
