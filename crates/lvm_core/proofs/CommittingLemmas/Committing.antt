-- What a session and its shelf are after a descriptor was committed.
use Rattle.std.proofs.Common.{◌≡◌, Bool, inl, inr, ⊎_elim, ℕ, ◌==◌, ◌++◌, List, [], refl, sym, ◌∙◌, ap, subst}
use Rattle.std.specs.List.{list_any}
use Rattle.std.specs.Prelude.{Result, Ok, IfSome, IsTrue}
use Rattle.lvm_num.specs.declared.record.Kind.TheVariants as kind
use Rattle.lvm_num.specs.declared.descriptor.Descriptor.{Descriptor}
use Rattle.lvm_num.specs.Disks.{Disks}
use Rattle.lvm_num.specs.DescriptorBytes.{descriptor_bytes, descriptor_of}
use Rattle.lvm_disk.specs.Counts.{NoneFalls}
use Rattle.lvm_disk.specs.Device.{Device, image_of}
use Rattle.lvm_num.specs.Descriptor.{IsValid}
use Rattle.lvm_status.specs.Update.{Stored}
use Rattle.lvm_vol.specs.Facts.{Fact}
use Rattle.lvm_kept.specs.Contents.{contents_of}
use Rattle.lvm_kept.specs.Moments.{Moment, StaysCalm}
use Rattle.lvm_kept.specs.Plans.{Plan}
use Rattle.lvm_commit.specs.passed.Steps.{ImagesKept, SpanGoesOn}
use Rattle.lvm_write.specs.Written.{KeepsShelf}
use Rattle.lvm_commit.proofs.passed.Vgda.{spelled_is_read}
use Rattle.lvm_commit.specs.Committed.{IsAlike}
use Rattle.lvm_commit.specs.LawsOfFinding.{FindsNoMoreOn}
use Rattle.lvm_commit.specs.LawsOfVolumes.{VolumeServes, VolumesServe}
use Rattle.lvm_commit.proofs.LawsOfVolumesLemmas.Volumes.{one_serves}
use Rattle.lvm_write.proofs.WrittenLemmas.Writing.{if_told, told_at}
use Rattle.lvm_commit.specs.Settling.{MayCommit, IsOf, IsOfCommit, IsPlain, SessionIsHeld, ComesHeld}
use Rattle.lvm_commit.proofs.SettlingLemmas.Chaining.{keeps_wider}
use Rattle.lvm_core.specs.declared.fault.CommitFault.{CommitFault}
use Rattle.lvm_session.specs.State.{Core, State, is_there}
use Rattle.lvm_core.specs.Sound.{IsSoundAtRest}
use Rattle.lvm_core.specs.Held.{IsHeld}
use Rattle.lvm_core.specs.Settled.{IsSettled}
use Rattle.lvm_core.specs.Committing.{CommitEnds, HasCommitted, FailsCommitted, moment_of, LetsCommit, LetsCommitAmong, StaysBehind}
use Rattle.lvm_core.specs.Leaves.{IsOfCommand, NoPartition, IsHeldSince, Leaves, committing}
use Rattle.lvm_core.specs.Steps.{CommitsDescriptor}
use Rattle.lvm_core.proofs.SoundLemmas.Own.{SameSizes}
use Rattle.lvm_core.proofs.CommittingLemmas.Spanning.{path_falls}
use Rattle.lvm_core.proofs.LeavesLemmas.{finds_next, passed_behind}
use Rattle.lvm_core.proofs.CommittingLemmas.Settled.{IsBegun, there_is, group_is, settles_sound, records_end, fails_committed, sizes_stay, settles_history, settles_keep, settles_calm, settles_behind}
use Rattle.lvm_core.proofs.SettlingLemmas.{session_holds, holds_session}

-- nothing else is wanted first than what is
still_begun : (core : Core) → IsBegun core core.status
still_begun core = record { group = refl; stamp = refl; committed = refl; rows = record { id = refl; big = refl; disks = refl }; missing = λ d. refl; forgotten = λ was. was }

-- the next descriptor may be committed where the session's group may
pub may_next : (records : ℕ) (d next : Descriptor) (u : Stored) (device : Device) → MayCommit records d u device → IsValid next → IsAlike next d → MayCommit records next u device
may_next records d next u device may valid alike =
    let was = may.settle in
    record {
      ready = may.ready;
      settle = record { valid = valid; own = alike ∙ was.own; idle = was.idle; id = was.id; rows = was.rows; epoch = was.epoch; room = was.room; votes = was.votes };
      numbers = may.numbers;
    }

-- what lets a descriptor be committed in which one volume differs
pub lets_one : (lv : ℕ) (next : Descriptor) (run : ℕ) (first : Moment) (s : State) → LetsCommit lv next run first s → LetsCommitAmong (λ n. n == lv) next run first s
lets_one lv next run first s lets past begins holds =
    if_told s.device.media (λ media. VolumesServe (contents_of (image_of s.device.sizes media)) (past ++ s.core.history.facts) s.core.descriptor (λ n. n == lv) next) (λ m told.
    one_serves (contents_of (image_of s.device.sizes m)) (past ++ s.core.history.facts) s.core.descriptor lv next
    (told_at s.device.media (λ media. VolumeServes (contents_of (image_of s.device.sizes media)) (past ++ s.core.history.facts) s.core.descriptor lv next) m told (lets past begins holds)))

module _ (next : Descriptor) (before after : ℕ) (old new : State) (answer : Result (Unit {0}) CommitFault) (w : CommitsDescriptor next before after old new answer) (settled_is : IsSettled old.core) (sound : IsSoundAtRest old) (alike : IsAlike next old.core.descriptor) where
  abbrev plan : Plan
  plan = IsOfCommit (descriptor_bytes next) old.core.status new.core.status

  abbrev Held : Type 0
  Held = ComesHeld (descriptor_bytes next) old.core.status new.core.status old.core.homes new.core.homes old.device new.device

  abbrev Plain : Type 0
  Plain = IsPlain kind.Descriptor (descriptor_bytes next) old.core.status new.core.status old.core.homes old.device new.device

  read : descriptor_of (descriptor_bytes next) ≡ Ok next
  read = spelled_is_read next w.valid

  own : IsOf old.core.descriptor old.core.status
  own = sym sound.fitting.group

  held_first : IsHeld old.device old.core → SessionIsHeld old.device old.core.descriptor old.core.status old.core.homes
  held_first = session_holds old.device old.core sound.fitting.group

  pub descriptor_sound : IsSoundAtRest new
  descriptor_sound = settles_sound Held Plain next plan old.core.status before after old new w.how answer w.settles (still_begun old.core) settled_is sound w.valid alike

  pub descriptor_sizes : SameSizes old.core new.core
  descriptor_sizes = sizes_stay Held Plain next plan old.core.status before after old new w.how answer w.settles (still_begun old.core) settled_is sound w.valid alike

  group : new.core.status.group ≡ record old.core.descriptor { lvs = [] }
  group = group_is Held Plain next plan old.core.status before after old new w.how answer w.settles (still_begun old.core) settled_is sound w.valid alike

  -- where it is committed
  descriptor_held : new.core ≡ record old.core { descriptor = next; status = new.core.status; homes = new.core.homes } → Held → IsHeld old.device old.core → IsHeld new.device new.core
  descriptor_held is comes held = subst (IsHeld new.device) (sym is)
      (holds_session new.device old.core next new.core.status new.core.homes (group ∙ sym alike) (comes old.core.descriptor next read own alike (held_first held)).0)

  descriptor_finds : IsHeld old.device old.core → FindsNoMoreOn next old.device new.device
  descriptor_finds held = w.finds old.core.descriptor next read own alike (held_first held)

  descriptor_falls : NoneFalls old.device.counts new.device.counts
  descriptor_falls = path_falls old.device new.device w.kept

  descriptor_writes : KeepsShelf (is_there old.core) plan old.device new.device
  descriptor_writes = subst (λ (set : Disks). KeepsShelf set plan old.device new.device) (there_is old.core.descriptor old.core.status sound.fitting.group) w.settles.leaves.keeps

  descriptor_keeps : (among : ℕ → Bool) (run : ℕ) (first : Moment) → IsHeldSince run first old → LetsCommitAmong among next run first old → SpanGoesOn run first (moment_of old) (moment_of new)
  descriptor_keeps among run first held lets span =
      settles_keep Held Plain next plan old.core.status before after old new w.how answer w.settles (still_begun old.core) settled_is sound w.valid alike
      (λ d. (group k : Descriptor) (v : ℕ → Bool) (facts : List Fact) → descriptor_of (descriptor_bytes next) ≡ Ok k → IsOf group old.core.status → SessionIsHeld old.device group old.core.status old.core.homes
      → IfSome old.device.media (λ media. VolumesServe (contents_of (image_of old.device.sizes media)) facts group v k) → ImagesKept old.device facts → ImagesKept d facts)
      w.kept run first span
      (λ past begins holds d its. its old.core.descriptor next among (past ++ old.core.history.facts) read own (held_first (held past begins)) (lets past begins holds) holds.kept)

  descriptor_calm : StaysCalm (moment_of old) (moment_of new)
  descriptor_calm = settles_calm Held Plain next plan old.core.status before after old new w.how answer w.settles (still_begun old.core) settled_is sound w.valid alike

  descriptor_behind : StaysBehind old new
  descriptor_behind = settles_behind Held Plain next plan old.core.status before after old new w.how answer w.settles (still_begun old.core) settled_is sound w.valid alike (λ d n value it. (it.0, it.2))

  -- ---- all of it

  pub descriptor_ends : CommitEnds next before old new answer
  descriptor_ends = records_end Held Plain next plan old.core.status before after old new w.how answer w.settles (still_begun old.core) settled_is sound w.valid alike (HasCommitted next old new)
      (λ ok comes plain its is well ready cuts. record { stated = record { settled = its; is = is; well = well; ready = ready; cuts = cuts; held = descriptor_held is comes }; plain = plain })

  pub descriptor_fails : FailsCommitted old new answer
  descriptor_fails = fails_committed Held Plain next plan old.core.status before after old new w.how answer w.settles (still_begun old.core) settled_is sound w.valid alike

  pub descriptor_leaves : Leaves (committing next) before after old new
  descriptor_leaves =
      let loses = w.settles.leaves.loses in
      record {
        writes = keeps_wider (is_there old.core) (is_there old.core) plan (IsOfCommand (λ d. d ≡ next) NoPartition old new) old.device new.device (λ d off. off) (λ d s value is. inr (inl (next, refl, is))) descriptor_writes;
        status = record {
          group = loses.group;
          rows = loses.rows;
          stale = λ p out. loses.stale p;
          further = λ p is. ⊎_elim (λ before. inl before) (λ passed. inr (inr (passed_behind (λ d. d ≡ next) NoPartition old new next (inr refl) (λ q out. loses.stale q) p is passed))) (w.settles.leaves.left.only p is);
          dirty = λ lv out. ap (λ (numbers : List ℕ). list_any (λ n. n == lv) numbers) loses.dirty;
          stays = loses.stays;
          lost = λ d is isnt. let two = loses.lost d is isnt in (subst (λ (set : Disks). IsTrue (set d)) (there_is old.core.descriptor old.core.status sound.fitting.group) two.0, two.1);
        };
        numbers = w.settles.leaves.numbers;
        history = settles_history Held Plain next plan old.core.status before after old new w.how answer w.settles (still_begun old.core) settled_is sound w.valid alike;
        spans = λ run first held lets. descriptor_keeps lets.0 run first held lets.1;
        finds = λ held id k is. finds_next (λ d. d ≡ next) old new _ descriptor_writes.media next refl (descriptor_finds held) held id k is;
        calm = descriptor_calm;
        behind = descriptor_behind;
        falls = descriptor_falls;
        spends = w.settles.leaves.spends;
      }
