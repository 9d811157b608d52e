-- What is shown as committed is shown so under other notes and other data.
use Rattle.std.proofs.Common.{ℕ, Option}
use Rattle.lvm_num.specs.declared.descriptor.Descriptor.{Descriptor}
use Rattle.lvm_num.specs.declared.status.Status.{Status}
use Rattle.lvm_num.specs.Disks.{Disks}
use Rattle.lvm_num.specs.Note.{Noted}
use Rattle.lvm_num.specs.Buffer.{Sector}
use Rattle.lvm_num.specs.Votes.{all_disks}
use Rattle.lvm_kept.specs.Contents.{Contents}
use Rattle.lvm_kept.proofs.GroupLemmas.{still_finds, finds_before}
use Rattle.lvm_commit.specs.Committed.{ShowsCommitted}

unfoldable pub still_shows : (c : Contents) (note : ℕ → Option Noted) (block : ℕ → ℕ → Sector) (group : Descriptor) (status : Status) (there : Disks) → ShowsCommitted c group status there → ShowsCommitted (record c { note = note; block = block }) group status there
still_shows c note block group status there shows = record {
  found = still_finds c c.status note block all_disks group.id group shows.found;
  only = λ disks k f. shows.only disks k (finds_before c c.status note block disks group.id k f);
  descriptor = shows.descriptor;
  value = shows.value;
  latest = shows.latest;
  described = shows.described;
  room = shows.room;
  own = shows.own;
  stands = shows.stands;
  committed = shows.committed;
  stated = shows.stated;
  last = shows.last;
}
