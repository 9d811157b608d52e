-- What is committed is shown as long as a session lasts.
use Rattle.std.proofs.Common.{◌≡◌, ℕ, Option, refl, sym, subst}
use Rattle.std.specs.Prelude.{IsTrue}
use Rattle.lvm_num.specs.declared.descriptor.Descriptor.{Descriptor}
use Rattle.lvm_num.specs.declared.status.Status.{Status}
use Rattle.lvm_num.specs.Buffer.{Sector}
use Rattle.lvm_num.specs.Disks.{Disks}
use Rattle.lvm_num.specs.Note.{Noted}
use Rattle.lvm_num.specs.Record.{Stamped}
use Rattle.lvm_num.specs.Votes.{all_disks}
use Rattle.lvm_kept.specs.Contents.{Contents}
use Rattle.lvm_kept.proofs.GroupLemmas.{finds_before}
use Rattle.lvm_commit.specs.Committed.{ShowsCommitted}
use Rattle.lvm_crash.proofs.LawsLemmas.Remaining.{after}
use Rattle.lvm_rest.specs.Lasting.{StatusIsOn, CommittedLasts}

module _ (group : Descriptor) (was : Status) (stands : Stamped Status) (before now : Disks) (old : Contents) (status : ℕ → Option (Stamped Status)) (note : ℕ → Option Noted) (block : ℕ → ℕ → Sector)
    (shows : ShowsCommitted old group was before) (fewer : (d : ℕ) → IsTrue (now d) → IsTrue (before d)) where
  abbrev then_ : Contents
  then_ = record old { status = status; note = note; block = block }

  lasts : StatusIsOn then_ group stands now → (is : ShowsCommitted then_ group stands.value now) × (is.stands ≡ stands)
  lasts on = (
    record {
      found = after old status note block all_disks group.id group shows.found;
      only = λ disks k f. shows.only disks k (finds_before old status note block disks group.id k f);
      descriptor = shows.descriptor;
      value = shows.value;
      latest = shows.latest;
      described = λ d is. shows.described d (fewer d is);
      room = λ d is. shows.room d (fewer d is);
      own = on.own;
      stands = stands;
      committed = refl;
      stated = on.stated;
      last = on.last;
    },
    refl,
  )

pub committed_lasts : CommittedLasts
committed_lasts group was stands before now old new shows keeps fewer on =
    subst (λ (c : Contents). (is : ShowsCommitted c group stands.value now) × (is.stands ≡ stands)) (sym keeps.rest)
    (lasts group was stands before now old new.status new.note new.block shows fewer (subst (λ (c : Contents). StatusIsOn c group stands now) keeps.rest on))
