use Rattle.lvm_kept.proofs.CommittedLemmas.Finding.{finding_reads, images_within, meets_writers, quorums_meet, finds_status, finds_descriptor}
use Rattle.lvm_kept.proofs.laws.quorums_find.Goals as goal

pub returns : goal.returns
returns c = record { reads = finding_reads; within = images_within; writers = meets_writers; voters = quorums_meet; status = finds_status; descriptor = finds_descriptor }
