-- What the write of a session's next descriptor does, however it ended.
use Rattle.std.proofs.Common.{◌≡◌, Bool, inl, ℕ, ◌+◌, ◌≤◌, List, IfSome, Ok, refl, ap, arith}
use Rattle.lvm_num.specs.declared.record.Kind.TheVariants as kind
use Rattle.lvm_num.specs.declared.record.Stamp.{Stamp}
use Rattle.lvm_num.specs.declared.descriptor.Descriptor.{Descriptor}
use Rattle.lvm_num.specs.Buffer.{Buffer, Sector}
use Rattle.lvm_num.specs.DescriptorBytes.{descriptor_of}
use Rattle.lvm_num.specs.Record.{Frames}
use Rattle.lvm_num.specs.Votes.{CanWrite}
use Rattle.lvm_num.proofs.Booleans.{place_below}
use Rattle.lvm_vol.specs.Facts.{Fact}
use Rattle.lvm_disk.specs.Device.{Device, image_of, HasSectors}
use Rattle.lvm_disk.proofs.PathsLemmas.{map-path, last-path}
use Rattle.lvm_kept.specs.Contents.{contents_of}
use Rattle.lvm_kept.specs.Torn.{RecordWrite, IsOfRecord}
use Rattle.lvm_status.specs.Update.{Stored}
use Rattle.lvm_steps.specs.Moments.{ImagesKept}
use Rattle.lvm_rec.specs.declared.homes.Homes.{Homes}
use Rattle.lvm_rec.specs.Homes.{second_slots}
use Rattle.lvm_commit.specs.declared.commit.CommitEnd.{CommitEnd}
use Rattle.lvm_commit.specs.declared.commit.CommitEnd.TheVariants as commit_end
use Rattle.lvm_commit.specs.Committed.{next_stamp}
use Rattle.lvm_commit.specs.LawsOfVolumes.{VolumesServe}
use Rattle.lvm_commit.specs.LawsOfFinding.{FindsNoMoreOn}
use Rattle.lvm_commit.specs.Settling.{there, IsOf, SessionIsHeld, IsOfCommit, DescriptorStaysKept, DescriptorEnds}
use Rattle.lvm_commit.specs.Rounds.{CommitsRound, stamped, session_write, HowRecord, RecordGives}
use Rattle.lvm_commit.proofs.SettlingLemmas.Chaining.{Goes, goes_from, record_returns}
use Rattle.lvm_commit.proofs.SettlingLemmas.Round.{record_goes, quorum_lost, some_failed, failed_is_missing, was_there_on, stamp_taken}
use Rattle.lvm_commit.proofs.SettlingLemmas.Ready.{spends_none}
use Rattle.lvm_commit.proofs.LawsOfWritesLemmas.Holding.{with_told}
use Rattle.lvm_commit.proofs.LawsOfFindingLemmas.HoldingDescriptor.{descriptor_moment_kept, descriptor_moment_finds}

module _ (first mid : Stored) (homes after : Homes) (old m : Device) (content : List ℕ) (number p q : ℕ) (r : CommitEnd)
    (gives : RecordGives (session_write kind.Descriptor content (stamped first) homes) number p q (stamped first) mid homes after old m r) where
  abbrev w : RecordWrite
  w = session_write kind.Descriptor content (stamped first) homes

  pub describes : Goes (IsOfRecord w) p q first mid old m
  describes = goes_from (IsOfRecord w) p q first mid (next_stamp first.stamp) old m (record_goes w number (stamped first) mid homes after old m refl p q r gives)

  pub stamp_is : mid.stamp ≡ next_stamp first.stamp
  stamp_is = stamp_taken w number p (stamped first) mid homes after old m r gives.how

  -- ---- at its end

  -- not all of it was committed
  pub descriptor_ends : CanWrite first.group (there first) → ((buf : Buffer) → r ≡ commit_end.Done buf → ⊥) → CommitsRound first.committed first mid r → DescriptorEnds content number p first mid homes after old m r
  descriptor_ends enough never commits = by_end r never commits gives.how
    where
      by_end : (r : CommitEnd) → ((buf : Buffer) → r ≡ commit_end.Done buf → ⊥) → CommitsRound first.committed first mid r → HowRecord w number p (stamped first) mid homes after old m r → DescriptorEnds content number p first mid homes after old m r
      by_end (commit_end.Done buf) never same how = absurd (never buf refl)
      by_end (commit_end.WentOff have total buf) never same how =
          let lost = quorum_lost w number (stamped first) mid homes after old m refl buf how.0 enough have total how.1 in
          let some = some_failed w number (stamped first) mid homes after old m refl buf how.0 enough have total how.1 in
          record {
            back = record_returns w number (stamped first) mid homes after old m buf refl how.0;
            lost = record { have_is = lost.have_is; total_is = lost.total_is; few = lost.few; disk = lost.disk; was = lost.was; failed = lost.failed };
            spent = spends_none first mid old m describes.loses stamp_is some.0 (was_there_on w number (stamped first) mid homes after old m refl buf how.0 some.0 some.1)
                (failed_is_missing w number (stamped first) mid homes after old m refl buf how.0 some.0 some.1);
            committed = inl same;
          }
      by_end commit_end.Dark never same how = (how.0, inl same)
      by_end commit_end.Stuck never same how = (how.0, inl same)

  module _ (sectors : HasSectors old) (frames : Frames kind.Descriptor (record { stamp = next_stamp first.stamp; content = content })) where
    -- ---- what it brings

    pub is_of_commit : (last : Stored) → mid.stamp.seq ≤ last.stamp.seq → (d s : ℕ) (value : Sector) → IsOfRecord w d s value → IsOfCommit content first last d s value
    is_of_commit last rises d s value its =
        let seq : mid.stamp.seq ≡ first.stamp.seq + 1 = ap (λ (s : Stamp). s.seq) stamp_is in (
          w,
          inl (record { kind = refl; content_is = refl }),
          record {
            frames = frames;
            slots = λ disk. place_below (second_slots kind.Descriptor homes disk);
            targets = λ disk is. is;
            epoch = refl;
            later = omega arith;
            latest = omega (arith, seq, rises);
            its = its;
          },
        )

    -- ---- while it is written

    pub descriptor_finds : (group next : Descriptor) → descriptor_of content ≡ Ok next → SessionIsHeld old group first homes → FindsNoMoreOn next old m
    descriptor_finds group next reads held = descriptor_moment_finds first homes old sectors content next frames reads m (last-path gives.leaves.moments) group held

    pub descriptor_kept : DescriptorStaysKept content first homes old m
    descriptor_kept = map-path
        (λ d. (group next : Descriptor) (among : ℕ → Bool) (facts : List Fact) → descriptor_of content ≡ Ok next → IsOf group first → SessionIsHeld old group first homes
        → IfSome old.media (λ media. VolumesServe (contents_of (image_of old.sizes media)) facts group among next) → ImagesKept old facts → ImagesKept d facts)
        (λ d is group next among facts reads own held serves kept. descriptor_moment_kept first homes old sectors content next frames reads d is.0 is.1 group among facts held serves kept)
        (with_told gives.leaves.moments)
