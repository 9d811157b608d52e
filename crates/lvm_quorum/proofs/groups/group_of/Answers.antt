use Rattle.std.proofs.Common.{◌≡◌, ℕ, Some, sym, ◌∙◌}
use Rattle.lvm_num.specs.Disks.{has}
use Rattle.lvm_num.specs.Votes.{all_disks}
use Rattle.lvm_quorum.specs.passed.Transfer.{descriptor_among, is_voter}
use Rattle.lvm_quorum.specs.Surveyed.{surveyed}
use Rattle.lvm_quorum.specs.Groups.{shown_record}
use Rattle.lvm_quorum.proofs.KeptGroupLemmas.Chosen.{status_is}
use Rattle.lvm_quorum.proofs.KeptGroupLemmas.Voting.{voters_are}
use Rattle.lvm_quorum.proofs.groups.group_of.Goals as goal

pub returns : goal.returns
returns c =
    let shown = surveyed c.args.survey.now in
    let id = c.args.id in
    let newest = shown_record c.in_ok-descriptor.descriptor in
    let found : descriptor_among shown all_disks id ≡ Some newest = sym c.in_ok-descriptor.ensures in
    let voters : (d : ℕ) → has c.voters-voters.result d ≡ is_voter shown all_disks id d = λ d. c.voters-voters.ensures d ∙ sym (voters_are shown id newest found d) in
    record {
      descriptor = found;
      voters = voters;
      status = c.newest_status-status.ensures ∙ status_is shown id (has c.voters-voters.result) voters;
    }
