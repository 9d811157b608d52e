-- A descriptor that is written once more, as a change, and what a command leaves that does nothing.
use Rattle.std.proofs.Common.{◌≡◌, inl, inr, ⊎_elim, ℕ, ◌++◌, false, [], refl, sym, ◌∙◌, ap, subst, arith}
use Rattle.std.specs.Prelude.{Result, Ok, Err, IsTrue, IsFalse, IfErr}
use Rattle.std.proofs.lemmas.Bool.{false≢true}
use Rattle.lvm_num.specs.declared.descriptor.Descriptor.{Descriptor}
use Rattle.lvm_num.specs.Disks.{Disks}
use Rattle.lvm_num.specs.Votes.{votes_in, total_votes, is_enough_to_write}
use Rattle.lvm_disk.specs.Device.{image_of}
use Rattle.lvm_kept.specs.Contents.{contents_of}
use Rattle.lvm_kept.specs.Group.{IsOneOf}
use Rattle.lvm_num.specs.Descriptor.{volume_of}
use Rattle.lvm_status.specs.Update.{members_there}
use Rattle.lvm_commit.specs.passed.Steps.{SpanGoesOn}
use Rattle.lvm_kept.specs.Moments.{Moment}
use Rattle.lvm_commit.specs.LawsOfVolumes.{VolumesServe}
use Rattle.lvm_commit.specs.Settling.{there}
use Rattle.lvm_commit.proofs.SettlingLemmas.Chaining.{keeps_wider}
use Rattle.lvm_write.proofs.WrittenLemmas.Writing.{if_told}
use Rattle.lvm_core.specs.declared.fault.CommitFault.{CommitFault}
use Rattle.lvm_core.specs.declared.fault.CommitFault.TheVariants as commit
use Rattle.lvm_core.specs.Committing.{CommitEnds, HasGoneOff, HasStated, LetsCommitAmong}
use Rattle.lvm_core.specs.Leaves.{IsOfCommand, IsHeldSince, NoPartition, Leaves, committing}
use Rattle.lvm_session.specs.State.{Core, State, is_there, moment_of}
use Rattle.lvm_core.proofs.CommittingLemmas.Settled.{there_is}
use Rattle.lvm_turnover.specs.Changing.{ChangeEnds, IsNext, IsOfChange, ChangeLeaves, HasGoneOffBy, among}
use Rattle.lvm_volumes.proofs.Leaving.{leaves_none, there_before}
use Rattle.lvm_volume_plan.specs.PlannedVolume.{AreOfOneGroup}
use Rattle.lvm_members.specs.Commands.{IsOfRecords, IsAnswerOf, IfOn, MayBeChanged, RefusesChange, RuleGives}
use Rattle.lvm_members.specs.declared.fault.RuleFault.{RuleFault}
use Rattle.lvm_members.specs.declared.fault.RuleFault.TheVariants as fault

-- ---- a commit as a change

as_change : (next : Descriptor) (p q : ℕ) (old new : State) → Leaves (committing next) p q old new → ((run : ℕ) (first : Moment) → IsHeldSince run first old → SpanGoesOn run first (moment_of old) (moment_of new)) → ChangeLeaves (IsNext next) [] [] p q old new
as_change next p q old new leaves spans = record {
  writes = keeps_wider (is_there old.core) (is_there old.core) (IsOfCommand (λ k. k ≡ next) NoPartition old new) (IsOfChange (IsNext next) [] [] old new) old.device new.device (λ d off. off)
      (λ d s value is. ⊎_elim (λ states. inl states) (λ rest. ⊎_elim (λ its. inr (inl its)) (λ zeros. absurd zeros.1) rest) is) leaves.writes;
  status = record {
    group = inl leaves.status.group;
    stale = λ pp off. leaves.status.stale pp (λ none. none);
    further = λ pp is. ⊎_elim (λ was. inl was) (λ rest. ⊎_elim (λ none. absurd none) (λ behind. inr behind) rest) (leaves.status.further pp is);
    dirty = λ lv. leaves.status.dirty lv (λ none. none);
    stays = λ d off. leaves.status.stays d;
    lost = leaves.status.lost;
    fewer = λ d is. there_before old.core.status.group old.core.status.wanted new.core.status.wanted d (leaves.status.stays d) (subst (λ (g : Descriptor). IsTrue (members_there g new.core.status.wanted d)) leaves.status.group is);
  };
  numbers = (let most = leaves.numbers.most in record { epoch = leaves.numbers.epoch; rises = leaves.numbers.rises; most = omega (arith, most) });
  history = leaves.history;
  spans = spans;
  finds = leaves.finds;
  calm = leaves.calm;
  behind = leaves.behind;
  falls = leaves.falls;
  spends = leaves.spends;
}

-- ---- a descriptor once more

module _ (next : Descriptor) (p q : ℕ) (old new : State) (same : next ≡ old.core.descriptor) where
  serves : (run : ℕ) (first : Moment) → LetsCommitAmong (λ n. false) next run first old
  serves run first past begins holds = if_told old.device.media (λ media. VolumesServe (contents_of (image_of old.device.sizes media)) (past ++ old.core.history.facts) old.core.descriptor (λ n. false) next) (λ media told. record {
    differs = record {
      alone = same ∙ ap (λ (g : Descriptor). record old.core.descriptor { lvs = g.lvs }) (sym same);
      rows = λ row among isnt. subst (λ (g : Descriptor). IsOneOf g.lvs row) same among;
      volumes = λ number isnt. ap (λ (g : Descriptor). volume_of g number) same;
    };
    stands = λ lv among. absurd (false≢true among);
    served = λ row inside among. absurd (false≢true among);
  })

  pub same_leaves : Leaves (committing next) p q old new → ChangeLeaves (IsNext next) [] [] p q old new
  same_leaves leaves = as_change next p q old new leaves (λ run first held. leaves.spans run first held ((λ n. false), serves run first))

  module _ (leaves : Leaves (committing next) p q old new) (group : AreOfOneGroup old.core) where
    own : new.core.status.group ≡ record old.core.descriptor { lvs = [] }
    own = leaves.status.group ∙ group.status

    pub same_ends : (answer : Result (Unit {0}) CommitFault) → CommitEnds next p old new answer → ChangeEnds next p old new answer
    same_ends (Ok done) ends = ends.stated
    same_ends (Err (commit.WentOff have total)) ends = inl (goes_off have total ends)
      where
        goes_off : (have total : ℕ) → HasGoneOff have total old new → HasGoneOffBy old.core.descriptor old.core.descriptor have total old new
        goes_off have total off =
            let there_now = ap (λ (k : Core). members_there k.descriptor new.core.status.wanted) off.is ∙ sym (there_is old.core.descriptor new.core.status own) in
            record {
              have_is = off.lost.have_is ∙ ap (λ (g : Descriptor). votes_in g (there new.core.status)) own ∙ ap (votes_in old.core.descriptor) (sym there_now);
              total_is = off.lost.total_is ∙ ap total_votes own;
              few = subst (λ (g : Descriptor). IsFalse (is_enough_to_write g have)) own off.lost.few;
              disk = off.lost.disk;
              was = subst (λ (set : Disks). IsTrue (set off.lost.disk)) (there_is old.core.descriptor old.core.status group.status) off.lost.was;
              failed = off.lost.failed;
              is = off.is;
              well = off.well;
              ready = off.ready;
              cuts = off.cuts;
            }
    same_ends (Err commit.Dark) ends = inl ends
    same_ends (Err commit.Stuck) ends = inl ends
    same_ends (Err (commit.DiskFailed disk)) ends = ends

-- ---- nothing

pub leaves_here : (next : Descriptor) (p : ℕ) (s : State) → ChangeLeaves (IsNext next) [] [] p p s s
leaves_here next p s = as_change next p p s s (leaves_none (committing next) p s) (λ run first held span. span)

pub refused_gives : (next : Descriptor) (p : ℕ) (s : State) (why : RuleFault) → RefusesChange next s.core why → RuleGives next p s s (Err why)
refused_gives next p s fault.Dark is = inl (refl, is)
refused_gives next p s (fault.WentOff have total) is = inl (refl, is)
refused_gives next p s fault.Busy is = (refl, is)
refused_gives next p s (fault.NoQuorum have total) is = (refl, is)
refused_gives next p s fault.HistoryFull is = (refl, is)
refused_gives next p s fault.Stuck is = absurd is
refused_gives next p s fault.Memory is = (refl, is)

-- what holds where nothing happens holds where the session goes on
pub here_on : (answer : Result (Unit {0}) RuleFault) (P : Type 0) → P → IfOn answer P
here_on (Ok done) P is = is
here_on (Err fault.Dark) P is = tt
here_on (Err (fault.WentOff have total)) P is = tt
here_on (Err fault.Busy) P is = is
here_on (Err (fault.NoQuorum have total)) P is = is
here_on (Err fault.HistoryFull) P is = is
here_on (Err fault.Stuck) P is = tt
here_on (Err fault.Memory) P is = is

-- ---- by what its records answer

pub only_records : (next : Descriptor) (p : ℕ) (old new : State) (answer : Result (Unit {0}) CommitFault) → ChangeEnds next p old new answer → IfErr answer IsOfRecords
only_records next p old new (Ok done) ends = tt
only_records next p old new (Err commit.Dark) ends = tt
only_records next p old new (Err (commit.WentOff have total)) ends = tt
only_records next p old new (Err commit.Stuck) ends = tt
only_records next p old new (Err (commit.DiskFailed disk)) ends = ends

module _ (next : Descriptor) (p : ℕ) (old new : State) (may : MayBeChanged next old.core) where
  pub rule_gives : (answer : Result (Unit {0}) CommitFault) (result : Result (Unit {0}) RuleFault) → ChangeEnds next p old new answer → IsAnswerOf answer result → RuleGives next p old new result
  rule_gives (Ok done) result ends is = subst (RuleGives next p old new) (sym is) (may, ends)
  rule_gives (Err commit.Dark) result ends (of, its, is) = subst (RuleGives next p old new) (sym (is ∙ ap (λ (f : RuleFault). Err f) its)) (inr (may, ends))
  rule_gives (Err (commit.WentOff have total)) result ends (of, its, is) = subst (RuleGives next p old new) (sym (is ∙ ap (λ (f : RuleFault). Err f) its)) (inr (may, ends))
  rule_gives (Err commit.Stuck) result ends (of, its, is) = subst (RuleGives next p old new) (sym (is ∙ ap (λ (f : RuleFault). Err f) its)) (may, ends)
  rule_gives (Err (commit.DiskFailed disk)) result ends is = absurd ends

  pub rule_on : (P : Type 0) → (HasStated next old new → P) → (answer : Result (Unit {0}) CommitFault) (result : Result (Unit {0}) RuleFault) → ChangeEnds next p old new answer → IsAnswerOf answer result → IfOn result P
  rule_on P makes (Ok done) result ends is = subst (λ (r : Result (Unit {0}) RuleFault). IfOn r P) (sym is) (makes ends)
  rule_on P makes (Err commit.Dark) result ends (of, its, is) = subst (λ (r : Result (Unit {0}) RuleFault). IfOn r P) (sym (is ∙ ap (λ (f : RuleFault). Err f) its)) tt
  rule_on P makes (Err (commit.WentOff have total)) result ends (of, its, is) = subst (λ (r : Result (Unit {0}) RuleFault). IfOn r P) (sym (is ∙ ap (λ (f : RuleFault). Err f) its)) tt
  rule_on P makes (Err commit.Stuck) result ends (of, its, is) = subst (λ (r : Result (Unit {0}) RuleFault). IfOn r P) (sym (is ∙ ap (λ (f : RuleFault). Err f) its)) tt
  rule_on P makes (Err (commit.DiskFailed disk)) result ends is = absurd ends
