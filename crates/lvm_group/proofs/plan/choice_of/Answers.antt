use Rattle.std.proofs.Common.{◌≡◌, ℕ, ◌≤◌, false, List, [], length, sym, subst, ◌∙◌, arith}
use Rattle.std.specs.Prelude.{map, filter}
use Rattle.lvm_num.specs.declared.descriptor.Descriptor.{Descriptor}
use Rattle.lvm_num.specs.declared.status.Status.{Status}
use Rattle.lvm_num.specs.Descriptor.{IsValid}
use Rattle.lvm_num.specs.Disks.{Disks, has}
use Rattle.lvm_num.specs.Status.{IsValidStatus}
use Rattle.lvm_core.specs.passed.SessionStart.{IsOneGroup}
use Rattle.lvm_group.specs.NewGroup.{among, clear_row, disks_in_order, descriptor_for, status_for}
use Rattle.lvm_group.proofs.NewGroupLemmas.Groups.{is_there, are_members, valid_group, valid_status, one_group, there_among}
use Rattle.lvm_group.proofs.plan.choice_of.Goals as goal

-- the status of a set is that of the disks that are in it
same_status : (disks : List ℕ) (moment : ℕ) (set : Disks) (s : Status) → ((d : ℕ) → set d ≡ among disks d) → s ≡ record { id = moment; big = false; dirty = []; rows = map clear_row (filter set disks_in_order) } → s ≡ status_for disks moment
same_status disks moment set s same is = is ∙ (λ t. let made : Status = record { id = moment; big = false; dirty = []; rows = map clear_row (filter (λ d. same d t) disks_in_order) } in made)

pub set_of-answering-requires : goal.set_of-answering-requires
set_of-answering-requires g c = λ k d lt.
    let there = is_there (g.S.Shelf.device c.args.shelf.now).sizes c.args.disks.now c.requires.can.there k d lt in
    omega (arith, there, c.disks-disks.ensures.number, c.disks-disks.ensures.some)

pub returns : goal.returns
returns g c =
    let sizes = (g.S.Shelf.device c.args.shelf.now).sizes in
    let disks = c.args.disks.now in
    let group : Descriptor = descriptor_for sizes c.args.name c.args.mib disks c.args.moment in
    let is : c.in_ok-descriptor.descriptor ≡ group = c.in_ok-descriptor.ensures.is in
    let status_is : c.in_ok-status.status ≡ status_for disks c.args.moment = same_status disks c.args.moment (has c.set_of-answering.result) c.in_ok-status.status c.set_of-answering.ensures c.in_ok-status.ensures in
    let few : length sizes ≤ 128 = omega (arith, c.disks-disks.ensures.number, c.disks-disks.ensures.some) in
    record {
      descriptor = is;
      status = status_is;
      targets = c.set_of-answering.ensures;
      valid = subst IsValid (sym is)
          (valid_group sizes c.args.name c.args.mib disks c.args.moment c.requires.can.some_moment c.ranges.moment.fits c.in_ok-descriptor.ensures.name c.requires.can.size c.requires.can.some c.requires.can.few
          (are_members sizes c.args.mib disks few c.requires.can.there c.requires.can.fit c.requires.can.differ));
      stated = subst IsValidStatus (sym status_is)
          (valid_status disks c.args.moment c.requires.can.some_moment c.ranges.moment.fits c.requires.can.some c.requires.can.few (λ k lt. let there = is_there sizes disks c.requires.can.there k 0 lt in omega (arith, there, few)));
      group = subst (λ (d : Descriptor). IsOneGroup d c.in_ok-status.status) (sym is)
          (subst (IsOneGroup group) (sym status_is) (one_group sizes c.args.name c.args.mib disks c.args.moment c.requires.can.few (λ disk its. let there = there_among sizes disks c.requires.can.there disk its in omega (arith, there, few))));
    }
