use Rattle.std.proofs.Common.{ap, ◌∙◌, Global}
use Rattle.std.specs.Prelude.{position}
use Rattle.std.specs.declared.collections.VecDeque.{VecDeque}
use Rattle.lvm_num.specs.declared.place.Pp.{Pp}
use Rattle.lvm_map.specs.FreePartitions.{is_open}
use Rattle.lvm_map.proofs.FreePartitionsLemmas.Choices.{takes_none, takes_first}
use Rattle.lvm_map.proofs.free_partitions.FreePartitions.take.Goals as goal

pub returns-in_err-member : goal.returns-in_err-member
returns-in_err-member c =
    let none = takes_none (λ (free : VecDeque Pp Global). free.items) c.args.others.now c.self.inside.members.items
    (c.in_err-member.ensures ∙ ap (position (λ (free : VecDeque Pp Global). is_open c.args.others.now free.items)) c.deref.ensures.value) in
    rw (← c.self.view_is, c.from_residual.ensures) none

pub returns : goal.returns
returns c =
    let first = takes_first (λ (free : VecDeque Pp Global). free.items) c.args.others.now c.self.inside.members.items c.in_ok-member.member
    c.index_mut.result.now c.pop_front.new.self c.pop_front.result
    (c.in_ok-member.ensures ∙ ap (position (λ (free : VecDeque Pp Global). is_open c.args.others.now free.items)) c.deref.ensures.value)
    c.index_mut.ensures.value c.pop_front.ensures.items c.pop_front.ensures.rest in
    rw (← c.self.view_is) first
