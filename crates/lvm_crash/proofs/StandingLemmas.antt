-- How a group comes to stand.
use Rattle.std.proofs.Common.{⊎_elim, subst}
use Rattle.lvm_num.specs.declared.descriptor.Descriptor.{Descriptor}
use Rattle.lvm_kept.specs.Committed.{SameVotes}
use Rattle.lvm_kept.proofs.CommittedLemmas.Finding.{finds_descriptor, meets_writers}
use Rattle.lvm_even.proofs.MembersLemmas.{shown}
use Rattle.lvm_crash.specs.Standing.{CommittedIsFound}

pub committed_found : CommittedIsFound
committed_found c now within is disks g f =
    let s = shown c disks now.value.id g f in
    let votes : SameVotes g now.value = subst (λ (h : Descriptor). SameVotes h now.value) s.is (is.votes s.disk s.newest s.there s.of) in
    ⊎_elim (λ e. e) (λ e. e) (finds_descriptor c now.value.id is.set now now within is.stands disks g f (meets_writers c disks now.value.id g now.value is.set f votes is.enough))
