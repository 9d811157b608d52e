-- What a change leaves, by what was written, what was wanted and what was entered.
use Rattle.std.proofs.Common.{◌≡◌, ◌⊎◌, inl, inr, ⊎_elim, ℕ, ◌<◌, List, [], ◌++◌, refl, sym, subst}
use Rattle.lvm_num.proofs.Booleans.{second_fails}
use Rattle.lvm_num.specs.declared.descriptor.Descriptor.{Descriptor}
use Rattle.lvm_num.specs.DescriptorBytes.{descriptor_bytes}
use Rattle.lvm_disk.specs.Device.{image_of}
use Rattle.lvm_disk.specs.Paths.{DeviceStep, Path}
use Rattle.lvm_vol.specs.Log.{Log, cut_log}
use Rattle.lvm_kept.specs.Moments.{Moment, StaysCalm}
use Rattle.lvm_kept.specs.Plans.{ChangesBy}
use Rattle.lvm_commit.specs.passed.Steps.{Keeps, SpanGoesOn, StaysKept, at, beginning_at, IsOtherOrEarlier}
use Rattle.lvm_commit.proofs.passed.Steps.{keeps_path, earlier_stays_behind, session_is_before_later}
use Rattle.lvm_write.specs.Parts.{Spends}
use Rattle.lvm_write.specs.Written.{KeepsShelf}
use Rattle.lvm_write.proofs.WrittenLemmas.Writing.{both_map, changes_more}
use Rattle.lvm_commit.specs.LawsOfFinding.{FindsNoMoreOn}
use Rattle.lvm_commit.specs.Settling.{IsOfCommit, SpendsNumbers}
use Rattle.lvm_commit.proofs.SettlingLemmas.Chaining.{keeps_wider}
use Rattle.lvm_session.specs.State.{State, moment_of, is_there}
use Rattle.lvm_core.specs.Held.{IsHeld}
use Rattle.lvm_core.specs.Committing.{StaysBehind, is_in}
use Rattle.lvm_core.specs.Leaves.{KeepsHistory, IsHeldSince}
use Rattle.lvm_core.proofs.LeavesLemmas.{finds_next, keeps_same, keeps_cut as history_keeps_cut}
use Rattle.lvm_core.proofs.CommittingLemmas.Spanning.{keeps_cut, calm_cut, path_falls}
use Rattle.lvm_turnover.specs.Changing.{IsNext, among, IsOfChange, KeepsMarks, LeavesWithin}

-- What was written and wanted, what is kept and found, and what was waited.
pub record Writes (next : Descriptor) (erases : List ℕ) (before after : ℕ) (old new : State) : Type 0 where
  pub writes : KeepsShelf (is_there old.core) (IsOfCommit (descriptor_bytes next) old.core.status new.core.status) old.device new.device
  pub status : KeepsMarks (IsNext next) [] erases old new
  pub numbers : SpendsNumbers 3 old.core.status new.core.status
  pub kept : Path DeviceStep (λ d. IsHeld old.device old.core → StaysKept old.device d) old.device new.device
  pub finds : IsHeld old.device old.core → FindsNoMoreOn next old.device new.device
  pub spends : Spends before after old.device new.device

-- nothing was entered, or a cut
abbrev pub IsSameOrCut : Log → Log → Type 0
IsSameOrCut was is = (is ≡ was) ⊎ (is ≡ cut_log was)

module _ (next : Descriptor) (erases : List ℕ) (before after : ℕ) (old new : State) (w : Writes next erases before after old new) (log : IsSameOrCut old.core.history new.core.history) where
  by_history : (P : Log → Type 0) → P old.core.history → P (cut_log old.core.history) → P new.core.history
  by_history P same dark = ⊎_elim (λ is. subst P (sym is) same) (λ is. subst P (sym is) dark) log

  keeps : (run : ℕ) (first : Moment) → IsHeldSince run first old → SpanGoesOn run first (moment_of old) (moment_of new)
  keeps run first held span =
      let goes = keeps_path (λ d. IsHeld old.device old.core → StaysKept old.device d) run first old.device new.device old.core.history.facts span (λ past begins holds d its. its (held past begins) (past ++ old.core.history.facts) holds.kept) w.kept in
      by_history (λ (l : Log). Keeps run first (at new.device l.facts)) goes (keeps_cut new.device old.core.history run first goes)

  calm : StaysCalm (moment_of old) (moment_of new)
  calm =
      let same : StaysCalm (moment_of old) (at new.device old.core.history.facts) = λ past calm. calm in
      by_history (λ (l : Log). StaysCalm (moment_of old) (at new.device l.facts)) same (calm_cut new.device old.core.history (moment_of old) same)

  behind : StaysBehind old new
  behind moment later was = earlier_stays_behind moment old.device new.device
      (both_map old.device.media new.device.media (λ a b. ChangesBy (IsOfCommit (descriptor_bytes next) old.core.status new.core.status) (image_of old.device.sizes a) (image_of new.device.sizes b))
      (λ a b. ChangesBy (IsOtherOrEarlier (beginning_at moment)) (image_of old.device.sizes a) (image_of new.device.sizes b)) w.writes.media
      (λ m n a b by. changes_more (IsOfCommit (descriptor_bytes next) old.core.status new.core.status) (IsOtherOrEarlier (beginning_at moment)) (image_of old.device.sizes m) (image_of new.device.sizes n) (λ d k value it.
      inr (record {
        write = it.0;
        frames = it.2.frames;
        earlier = session_is_before_later moment it.0.framed.stamp (subst (λ (e : ℕ). e < moment) (sym it.2.epoch) later);
        its = it.2.its;
      })) by)) was

  pub change_leaves : LeavesWithin 3 (IsNext next) [] erases before after old new
  change_leaves = record {
    writes = keeps_wider (is_there old.core) (among [] (among erases (is_there old.core))) (IsOfCommit (descriptor_bytes next) old.core.status new.core.status) (IsOfChange (IsNext next) [] erases old new) old.device new.device
        (λ d off. second_fails (is_in erases d) (is_there old.core d) off) (λ d s value it. inr (inl (next, refl, it))) w.writes;
    status = w.status;
    numbers = w.numbers;
    history = by_history (λ (l : Log). KeepsHistory old.core.history l) (keeps_same old.core.history old.core.history refl) (history_keeps_cut old.core.history);
    spans = keeps;
    finds = λ held id k is. finds_next (IsNext next) old new _ w.writes.media next refl (w.finds held) held id k is;
    calm = calm;
    behind = behind;
    falls = path_falls old.device new.device w.kept;
    spends = w.spends;
  }
