-- How the write of one record ended, from what the calls say of it.
use Rattle.std.proofs.Common.{◌≡◌, ℕ, Bool, true, false, ◌&&◌, List, refl, sym, ◌∙◌, ap, subst}
use Rattle.lvm_num.specs.Buffer.{Buffer}
use Rattle.lvm_num.specs.Disks.{Disks}
use Rattle.lvm_num.specs.declared.record.Kind.{Kind}
use Rattle.lvm_num.specs.declared.record.Stamp.{Stamp}
use Rattle.lvm_num.specs.declared.status.Status.{Status}
use Rattle.lvm_disk.specs.Device.{Device}
use Rattle.lvm_kept.specs.Torn.{RecordWrite, IsOfRecord}
use Rattle.lvm_status.specs.Update.{Stored}
use Rattle.lvm_rec.specs.declared.homes.Homes.{Homes}
use Rattle.lvm_rec.specs.Homes.{Flips}
use Rattle.lvm_write.specs.Written.{StandsTold, write_of, IsDarkened, IsGivenUp}
use Rattle.lvm_write.specs.declared.write.Wrote.{Wrote}
use Rattle.lvm_write.specs.Writes.{RecordWritesEnd, DiskWritesLeave, EachTried}
use Rattle.lvm_commit.specs.declared.commit.CommitEnd.{CommitEnd}
use Rattle.lvm_commit.specs.declared.commit.CommitEnd.TheVariants as commit_end
use Rattle.lvm_commit.specs.Settling.{there}
use Rattle.lvm_commit.specs.Rounds.{Misses, LosesMembers, IsByVotes, IsSame, IsSent, session_write, WasTried, HowRecord, RecordGives}
use Rattle.lvm_commit.proofs.RoundsLemmas.Losing.{misses_same}

-- it was tried on each disk, and the slots come next that then do
abbrev pub Tries : RecordWrite → ℕ → Homes → Homes → Device → Device → Disks → Buffer → Type 0
Tries w number slots next old new failed back = EachTried w.targets (StandsTold w) (λ written. Flips w.kind written slots next) number old new failed back

module _ (w : RecordWrite) (number before after : ℕ) (first last : Stored) (slots next : Homes) (old new : Device) (leaves : DiskWritesLeave w.targets (IsOfRecord w) before after old new) where
  pub ended_gives :
      (failed : Disks) (back : Buffer) (result : CommitEnd) → Tries w number slots next old new failed back → last.group ≡ first.group → last.stamp ≡ first.stamp → LosesMembers failed first.wanted last.wanted → IsByVotes last back result
      → RecordGives w number before after first last slots next old new result
  ended_gives failed back result tries group stamp misses votes = record { leaves = leaves; how = how result votes }
    where
      tried : (buf : Buffer) → buf ≡ back → WasTried w number first last slots next old new buf
      tried buf is = record {
        ready = tries.back.ready;
        cuts = tries.back.cuts;
        number_is = ap (λ (b : Buffer). b.number) is ∙ tries.back.number_is;
        failed = failed;
        each = tries.each;
        flips = tries.next;
        group = group;
        stamp = stamp;
        wanted = misses;
      }

      how : (r : CommitEnd) → IsByVotes last back r → HowRecord w number before first last slots next old new r
      how (commit_end.Done buf) its = (tried buf its.0, its.1)
      how (commit_end.WentOff have total buf) its = (tried buf its.0, its.1)
      how commit_end.Dark its = absurd its
      how commit_end.Stuck its = absurd its

  pub dark_gives : IsSame first last → IsDarkened number old new → RecordGives w number before after first last slots next old new commit_end.Dark
  dark_gives same dark = record { leaves = leaves; how = (dark, same) }

  pub stuck_gives : IsSame first last → IsGivenUp number before old new → RecordGives w number before after first last slots next old new commit_end.Stuck
  stuck_gives same stuck = record { leaves = leaves; how = (stuck, same) }

-- the record that was written is the session's
pub as_sent :
    (r w : RecordWrite) (number before after : ℕ) (slots next : Homes) (old new : Device) (wrote : Wrote) → r ≡ w → RecordWritesEnd r slots next number before old new wrote → DiskWritesLeave r.targets (IsOfRecord r) before after old new
    → IsSent w number before after slots next old new wrote
as_sent r w number before after slots next old new wrote same ends leaves =
    subst (λ (x : RecordWrite). IsSent x number before after slots next old new wrote) same (record { ends = ends; leaves = leaves })

-- the disks on which it failed were members that weren't missing
pub only_targets : (targets failed : Disks) (a b : Status) → ((d : ℕ) → failed d ≡ true → targets d ≡ true) → Misses (λ d. targets d && failed d) a b → Misses failed a b
only_targets targets failed a b target misses = misses_same (λ d. targets d && failed d) failed a b b misses refl (λ d. within (targets d) (failed d) (target d))
  where
    within : (there fails : Bool) → (fails ≡ true → there ≡ true) → fails ≡ there && fails
    within true fails its = refl
    within false false its = refl
    within false true its = sym (its refl)

-- the write that a call names is the session's
pub as_session : (kind : Kind) (u : Stored) (homes : Homes) (stamp : Stamp) (bytes content : List ℕ) (targets : Disks) → stamp ≡ u.stamp → bytes ≡ content → targets ≡ there u
    → write_of kind (record { stamp = stamp; content = bytes }) targets homes ≡ session_write kind content u homes
as_session kind u homes stamp bytes content targets stamp_is content_is targets_are = λ t. write_of kind (record { stamp = stamp_is t; content = content_is t }) (targets_are t) homes
