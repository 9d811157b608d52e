use Rattle.std.proofs.Common.{sym, subst, ◌∙◌}
use Rattle.std.proofs.lemmas.Bool.{false≢true}
use Rattle.lvm_num.specs.declared.descriptor.Descriptor.{Descriptor}
use Rattle.lvm_num.specs.Disks.{has}
use Rattle.lvm_num.specs.Votes.{CanWrite}
use Rattle.lvm_change_laws.specs.Rule.{DiffersInRule, MayChangeRule}
use Rattle.lvm_change.specs.Rule.{IsRefused}
use Rattle.lvm_members.proofs.PlanLemmas.{there_by, at_core}
use Rattle.lvm_members.proofs.plan.check.Goals as goal

pub few_votes_for-requires-clause-differs : goal.few_votes_for-requires-clause-differs
few_votes_for-requires-clause-differs g c = subst (λ (d : Descriptor). DiffersInRule d c.args.next.now) (sym c.descriptor-group.ensures.same) c.requires.differs

pub few_votes_for-requires-clause-enough : goal.few_votes_for-requires-clause-enough
few_votes_for-requires-clause-enough g c =
    let core = c.args.driver.now.1 in
    let same = c.descriptor-group.ensures.same in
    let there = there_by core (has c.members_there-there.result) c.descriptor-group.result.now c.table.result.now c.requires.settled c.members_there-there.ensures same c.table.ensures in
    subst (λ (d : Descriptor). CanWrite d (has c.members_there-there.result)) (sym same) (subst (CanWrite core.descriptor) (sym there) c.requires.settled.votes)

pub returns-in-Some-clause-refused : goal.returns-in-Some-clause-refused
returns-in-Some-clause-refused g c =
    let core = c.args.driver.now.1 in
    let same = c.descriptor-group.ensures.same in
    let there = there_by core (has c.members_there-there.result) c.descriptor-group.result.now c.table.result.now c.requires.settled c.members_there-there.ensures same c.table.ensures in
    (c.requires.takes, at_core core (has c.members_there-there.result) c.descriptor-group.result.now same there (λ d set. IsRefused d c.args.next.now set c.in-Some.votes) c.in-Some.ensures.some)

pub returns-then-not-has_room-clause-refused : goal.returns-then-not-has_room-clause-refused
returns-then-not-has_room-clause-refused g c =
    let core = c.args.driver.now.1 in
    let same = c.descriptor-group.ensures.same in
    let there = there_by core (has c.members_there-there.result) c.descriptor-group.result.now c.table.result.now c.requires.settled c.members_there-there.ensures same c.table.ensures in (
      c.requires.takes,
      at_core core (has c.members_there-there.result) c.descriptor-group.result.now same there (λ d set. MayChangeRule d c.args.next.now set) c.in_default.ensures.none,
      λ room. false≢true (sym c.if-not-has_room.true ∙ c.has_room.ensures.1 room),
    )

pub returns-clause-may : goal.returns-clause-may
returns-clause-may g c =
    let core = c.args.driver.now.1 in
    let same = c.descriptor-group.ensures.same in
    let there = there_by core (has c.members_there-there.result) c.descriptor-group.result.now c.table.result.now c.requires.settled c.members_there-there.ensures same c.table.ensures in
    record {
      takes = c.requires.takes;
      rule = at_core core (has c.members_there-there.result) c.descriptor-group.result.now same there (λ d set. MayChangeRule d c.args.next.now set) c.in_default.ensures.none;
      room = c.has_room.ensures.0 c.if-not-has_room.false;
    }
