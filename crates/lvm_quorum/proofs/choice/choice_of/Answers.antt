use Rattle.std.proofs.Common.{sym, ap, ◌∙◌}
use Rattle.lvm_num.specs.Disks.{has}
use Rattle.lvm_quorum.specs.Surveyed.{surveyed}
use Rattle.lvm_quorum.specs.Groups.{shown_record, shown_record_if}
use Rattle.lvm_quorum.proofs.KeptGroupLemmas.Chosen.{found_valid, no_status, votes_are, quorum_is}
use Rattle.lvm_quorum.proofs.GroupsLemmas.Epochs.{seen_is_greatest}
use Rattle.lvm_quorum.proofs.choice.choice_of.Goals as goal

pub returns-in_default : goal.returns-in_default
returns-in_default c = no_status (surveyed c.args.survey.now) c.args.id c.in_default.ensures

pub votes_in-have-requires : goal.votes_in-have-requires
votes_in-have-requires c = found_valid c.args.survey.now c.args.id (shown_record c.in-Some.group.descriptor) c.requires.valid c.in-Some.ensures.descriptor

pub enough_to_read-requires : goal.enough_to_read-requires
enough_to_read-requires c = found_valid c.args.survey.now c.args.id (shown_record c.in-Some.group.descriptor) c.requires.valid c.in-Some.ensures.descriptor

pub total_votes-total-requires : goal.total_votes-total-requires
total_votes-total-requires c = found_valid c.args.survey.now c.args.id (shown_record c.in-Some.group.descriptor) c.requires.valid c.in-Some.ensures.descriptor

pub returns-then-not-enough_to_read : goal.returns-then-not-enough_to_read
returns-then-not-enough_to_read c =
    let shown = surveyed c.args.survey.now in
    let id = c.args.id in
    let group = shown_record c.in-Some.group.descriptor in
    let found = c.in-Some.ensures.descriptor in
    let have = c.votes_in-have.ensures ∙ votes_are shown id group.value (has c.in-Some.group.voters) c.in-Some.ensures.voters in
    record {
      group = group;
      status = shown_record c.in-Some-status.status;
      newest = found;
      found = sym c.in-Some.ensures.status ∙ ap shown_record_if c.in-Some-status.is;
      quorum = sym (quorum_is shown id c.votes_in-have.result group c.enough_to_read.result found have c.enough_to_read.ensures) ∙ c.if-not-enough_to_read.true;
      have_is = have;
      total_is = c.total_votes-total.ensures;
    }

pub returns-in-Ok : goal.returns-in-Ok
returns-in-Ok c =
    let shown = surveyed c.args.survey.now in
    let id = c.args.id in
    let group = shown_record c.in-Some.group.descriptor in
    let found = c.in-Some.ensures.descriptor in
    let have = c.votes_in-have.ensures ∙ votes_are shown id group.value (has c.in-Some.group.voters) c.in-Some.ensures.voters in
    record {
      group = group;
      status = shown_record c.in-Some-status.status;
      newest = found;
      found = sym c.in-Some.ensures.status ∙ ap shown_record_if c.in-Some-status.is;
      quorum = sym (quorum_is shown id c.votes_in-have.result group c.enough_to_read.result found have c.enough_to_read.ensures) ∙ c.if-not-enough_to_read.false;
      descriptor = c.in-Ok.ensures.descriptor;
      newest_status = c.in-Ok.ensures.status;
      answering = c.in-Some.ensures.voters;
      seen = seen_is_greatest shown id c.greatest_epoch.result group found c.greatest_epoch.ensures;
    }
