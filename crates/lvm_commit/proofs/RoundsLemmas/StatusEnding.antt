-- How the commit of a session's status ends.
use Rattle.std.proofs.Common.{◌≡◌, ⊎_elim, ℕ, refl, sym, ◌∙◌, ap}
use Rattle.lvm_num.specs.declared.record.Kind.TheVariants as kind
use Rattle.lvm_num.specs.declared.descriptor.Descriptor.{Descriptor}
use Rattle.lvm_num.specs.Buffer.{Buffer}
use Rattle.lvm_num.specs.Status.{IsValidStatus}
use Rattle.lvm_num.specs.StatusBytes.{status_bytes}
use Rattle.lvm_num.specs.Record.{Frames}
use Rattle.lvm_disk.specs.Device.{Media, Device, HasSectors, image_of}
use Rattle.lvm_disk.specs.Steps.{BothTold}
use Rattle.lvm_kept.specs.Contents.{contents_of}
use Rattle.lvm_kept.specs.Plans.{ChangesBy}
use Rattle.lvm_status.specs.Update.{Stored}
use Rattle.lvm_steps.proofs.MakingLemmas.Making.{media_may}
use Rattle.lvm_rec.specs.declared.homes.Homes.{Homes}
use Rattle.lvm_write.proofs.PartsLemmas.Transfers.{darkened_then, given_up_then}
use Rattle.lvm_write.proofs.WrittenLemmas.Writing.{told_at, both_map}
use Rattle.lvm_commit.specs.declared.commit.CommitEnd.{CommitEnd}
use Rattle.lvm_commit.specs.declared.commit.CommitEnd.TheVariants as commit_end
use Rattle.lvm_commit.specs.Committed.{next_stamp}
use Rattle.lvm_commit.specs.LawsOfFinding.{FindsNothingNew, FindsNothingNewOn}
use Rattle.lvm_commit.specs.LawsOfVolumes.{LeavesOthers}
use Rattle.lvm_commit.specs.Settling.{IsOfStatus, StaysCommitted, OthersAreLeft, StatusEnds}
use Rattle.lvm_commit.specs.Rounds.{MarksRound, CommitsRound, stamped, session_write, HowRecord, RecordGives, StatusGives}
use Rattle.lvm_commit.proofs.SettlingLemmas.StatusRounds.{AreRounds, more_goes, more_forgotten, more_left, more_numbers, more_kept, more_finds, more_committed, more_returns, more_lost, lost_spends}

-- where nothing is found that wasn't, other groups are left as they were
pub nothing_new_leaves : (id : ℕ) (old new : Device) (R : Media → Media → Type 0) → BothTold old.media new.media R → FindsNothingNewOn old new → OthersAreLeft id old new
nothing_new_leaves id old new R both finds =
    both_map old.media new.media R (λ was is. LeavesOthers (contents_of (image_of old.sizes was)) (contents_of (image_of new.sizes is)) id) both
    (λ m n was is related other k apart found.
    told_at old.media (λ media. FindsNothingNew (contents_of (image_of old.sizes media)) (contents_of (image_of new.sizes n))) m was (finds (image_of new.sizes n) (media_may new n is)) other k found)

module _ (d : Descriptor) (number before left : ℕ) (first now : Stored) (slots next : Homes) (old mid : Device) (buf : Buffer) (rounds : AreRounds d number before left first now slots next old mid buf) where
  pub rounds_end : now.committed ≡ now.wanted → StatusGives d number before left first now slots next old mid (commit_end.Done buf)
  rounds_end same = record {
    leaves = record { loses = rounds.goes.loses; left = rounds.leaving; forgotten = rounds.forgotten; numbers = rounds.numbers; keeps = rounds.goes.keeps; spends = rounds.goes.spends };
    finds = rounds.finds;
    kept = rounds.kept;
    ends = record {
      back = rounds.returns;
      committed = record { idle = rounds.may.idle; same = same; votes = rounds.may.votes };
      held = λ group own held. (
        rounds.held group own held,
        nothing_new_leaves group.id old mid (λ was is. ChangesBy (IsOfStatus first now) (image_of old.sizes was) (image_of mid.sizes is)) rounds.goes.keeps.media (rounds.finds group own held),
      );
      plain = λ differs. ⊎_elim
          (λ fresh. absurd (differs (ap (λ (u : Stored). u.wanted) (sym fresh.same) ∙ sym same ∙ ap (λ (u : Stored). u.committed) fresh.same)))
          (λ on. on.plain)
          rounds.stage;
    };
  }

  module _ (differs : now.committed ≡ now.wanted → ⊥) (sectors : HasSectors mid) (last : Stored) (then : Homes) (new : Device) (after : ℕ) (result : CommitEnd)
      (gives : RecordGives (session_write kind.Status (status_bytes now.wanted) (stamped now) next) buf.number left after (stamped now) last next then mid new result)
      (frames : Frames kind.Status (record { stamp = next_stamp now.stamp; content = status_bytes now.wanted })) (valid : IsValidStatus now.wanted) (round : MarksRound d now last) (commits : CommitsRound now.wanted now last result) where
    stays : last.committed ≡ now.committed → StaysCommitted first last old new
    stays same = more_committed d number before left first now slots next old mid buf rounds differs sectors last then new after result gives frames valid round same

    how_stopped : (r : CommitEnd) → ((back : Buffer) → r ≡ commit_end.Done back → ⊥) → CommitsRound now.wanted now last r → HowRecord (session_write kind.Status (status_bytes now.wanted) (stamped now) next) buf.number left (stamped now) last next then mid new r
        → StatusEnds number before first last slots then old new r
    how_stopped (commit_end.Done back) never same how = absurd (never back refl)
    how_stopped (commit_end.WentOff have total back) never same how =
        record {
          back = more_returns d number before left first now slots next old mid buf rounds differs sectors last then new after result gives frames valid round back how.0;
          lost = more_lost d number before left first now slots next old mid buf rounds differs sectors last then new after result gives frames valid round back how.0 have total how.1;
          spent = lost_spends d number before left first now slots next old mid buf rounds differs sectors last then new after result gives frames valid round back how.0 have total how.1;
          committed = stays same;
        }
    how_stopped commit_end.Dark never same how = (darkened_then number buf.number old mid new rounds.returns.number_is rounds.returns.cuts how.0, stays same)
    how_stopped commit_end.Stuck never same how = (given_up_then number buf.number before left old mid new rounds.returns.number_is rounds.returns.cuts rounds.goes.spends how.0, stays same)

    pub rounds_stop : ((back : Buffer) → result ≡ commit_end.Done back → ⊥) → StatusGives d number before after first last slots then old new result
    rounds_stop never =
        let goes = more_goes d number before left first now slots next old mid buf rounds differs sectors last then new after result gives frames valid round in
        record {
          leaves = record {
            loses = goes.loses;
            left = more_left d number before left first now slots next old mid buf rounds differs sectors last then new after result gives frames valid round;
            forgotten = more_forgotten d number before left first now slots next old mid buf rounds differs sectors last then new after result gives frames valid round;
            numbers = more_numbers d number before left first now slots next old mid buf rounds differs sectors last then new after result gives frames valid round;
            keeps = goes.keeps;
            spends = goes.spends;
          };
          finds = more_finds d number before left first now slots next old mid buf rounds differs sectors last then new after result gives frames valid round;
          kept = more_kept d number before left first now slots next old mid buf rounds differs sectors last then new after result gives frames valid round;
          ends = how_stopped result never commits gives.how;
        }
