-- What is known of a session behind a change, by its answer.
use Rattle.std.proofs.Common.{◌≡◌, ◌⊎◌, inl, inr, ⊎_elim, ℕ, Bool, true, false, List, [], Result, Ok, Err, sym, ◌∙◌, ap, subst}
use Rattle.std.specs.Prelude.{MatchBool}
use Rattle.lvm_num.specs.declared.descriptor.Descriptor.{Descriptor}
use Rattle.lvm_disk.specs.Device.{IsReady}
use Rattle.lvm_vol.specs.Facts.{Fact}
use Rattle.lvm_vol.specs.Log.{Log, cut_log}
use Rattle.lvm_write.specs.Written.{IsGivenUp}
use Rattle.lvm_session.specs.declared.open.Power.TheVariants as power
use Rattle.lvm_session.specs.State.{Core, State}
use Rattle.lvm_core.specs.declared.fault.CommitFault.TheVariants as commit
use Rattle.lvm_core.specs.Committing.{HasGoneDark, IsLeftOut, with_one_out}
use Rattle.lvm_core.specs.Sound.{HasNoneOpen}
use Rattle.lvm_core.proofs.SoundLemmas.Dark.{dark_is}
use Rattle.lvm_volume_lines.specs.passed.Members.{BigGives, BreaksOff, GoesOff, HasGoneOffBy, IsRefusedFor, NothingGives, RuleFault, RuleGives, as_big, is_over, with_descriptor}
use Rattle.lvm_volume_lines.specs.passed.RuleFaultVariants as fault
use Rattle.lvm_volume_lines.proofs.passed.GroupLines.{Bears, bears_cut}
use Rattle.lvm_volume_lines.proofs.Ending.{SameShape, shape_as}

-- ---- what has happened

-- What has happened to the shelf, by the answer: where the power was cut nothing is out, where the votes were lost it is ready, and where nothing was heard a transfer is
-- out; where it was refused nothing has.
abbrev pub ChangeFacts : Result (Unit {0}) RuleFault → ℕ → State → State → Type 0
ChangeFacts (Ok done) patience old new = (new ≡ old) ⊎ IsReady new.device
ChangeFacts (Err fault.Dark) patience old new = new.device.flights ≡ []
ChangeFacts (Err (fault.WentOff have total)) patience old new = IsReady new.device
ChangeFacts (Err fault.Stuck) patience old new = IsGivenUp 0 patience old.device new.device
ChangeFacts (Err _) patience old new = new ≡ old

-- what has been entered into the history: at most a cut
pub data EntersCut (old new : State) : Type 0 where
  NothingEntered : new.core.history ≡ old.core.history → EntersCut old new
  CutEntered : new.core.history ≡ cut_log old.core.history → EntersCut old new

pub cut_entered : (a b : State) → HasNoneOpen a.core → HasGoneDark a b → b.core.history ≡ cut_log a.core.history
cut_entered a b none dark = ap (λ (c : Core). c.history) (dark.is ∙ dark_is (record a.core { pool = with_one_out a.core.pool; status = b.core.status; homes = b.core.homes }) (record { requests = none.requests; copy = none.copy }))

-- what is known of it
pub record IsKnownOfChange (patience : ℕ) (old new : State) (given : Result (Unit {0}) RuleFault) : Type 0 where
  pub facts : ChangeFacts given patience old new
  pub enters : EntersCut old new
  pub shape : is_over given ≡ false → SameShape old new

-- ---- by its contract

module _ (patience : ℕ) (old new : State) (on : old.core.power ≡ power.On) (none : HasNoneOpen old.core) where
  as_before : (given : Result (Unit {0}) RuleFault) → new ≡ old → ChangeFacts given patience old new → IsKnownOfChange patience old new given
  as_before given same facts = record { facts = facts; enters = NothingEntered (ap (λ (s : State). s.core.history) same); shape = λ goes. shape_as old new same }

  -- a session that is on isn't refused for being over
  refused_dark : (next : Descriptor) → IsRefusedFor next fault.Dark old new → ⊥
  refused_dark next refused = let dark = refused.1 in absurd (cc (on, dark))

  refused_off : (next : Descriptor) (have total : ℕ) → IsRefusedFor next (fault.WentOff have total) old new → ⊥
  refused_off next have total refused = let off = refused.1.0 in absurd (cc (on, off))

  went_dark : (next : Descriptor) → BreaksOff next patience old new commit.Dark → IsKnownOfChange patience old new (Err fault.Dark)
  went_dark next broke = ⊎_elim
      (λ (dark : HasGoneDark old new). record { facts = dark.cut.flights; enters = CutEntered (cut_entered old new none dark); shape = λ goes. absurd (cc goes) })
      (λ (dark : HasGoneDark (with_descriptor next old) new). record { facts = dark.cut.flights; enters = CutEntered (cut_entered (with_descriptor next old) new (record { requests = none.requests; copy = none.copy }) dark); shape = λ goes. absurd (cc goes) })
      broke.1

  went_off_by : (by has : Descriptor) (have total : ℕ) → HasGoneOffBy by has have total old new → IsKnownOfChange patience old new (Err (fault.WentOff have total))
  went_off_by by has have total off = record { facts = off.ready; enters = NothingEntered (ap (λ (c : Core). c.history) off.is); shape = λ goes. absurd (cc goes) }

  went_off : (next : Descriptor) (have total : ℕ) → GoesOff next have total old new → IsKnownOfChange patience old new (Err (fault.WentOff have total))
  went_off next have total (inl off) = went_off_by old.core.descriptor old.core.descriptor have total off
  went_off next have total (inr (inl off)) = went_off_by next old.core.descriptor have total off.0
  went_off next have total (inr (inr off)) = went_off_by next next have total off

  went_stuck : (next : Descriptor) → BreaksOff next patience old new commit.Stuck → IsKnownOfChange patience old new (Err fault.Stuck)
  went_stuck next broke = ⊎_elim
      (λ (out : IsLeftOut patience old new). record { facts = out.out; enters = NothingEntered (ap (λ (c : Core). c.history) out.is); shape = λ goes. absurd (cc goes) })
      (λ (out : IsLeftOut patience (with_descriptor next old) new). record { facts = out.out; enters = NothingEntered (ap (λ (c : Core). c.history) out.is); shape = λ goes. absurd (cc goes) })
      broke.1

  pub rule_known : (next : Descriptor) (given : Result (Unit {0}) RuleFault) → RuleGives next patience old new given → IsKnownOfChange patience old new given
  rule_known next (Ok done) gives = record {
    facts = inr gives.1.ready;
    enters = NothingEntered (ap (λ (c : Core). c.history) gives.1.is);
    shape = λ goes. record {
      origin = ap (λ (c : Core). c.origin) gives.1.is;
      pvs = ap (λ (c : Core). c.descriptor.pvs) gives.1.is ∙ ap (λ (g : Descriptor). g.pvs) gives.0.rule.differs;
    };
  }
  rule_known next (Err fault.Dark) gives = ⊎_elim (λ refused. absurd (refused_dark next refused)) (went_dark next) gives
  rule_known next (Err (fault.WentOff have total)) gives = ⊎_elim (λ refused. absurd (refused_off next have total refused)) (λ broke. went_off next have total broke.1) gives
  rule_known next (Err fault.Stuck) gives = went_stuck next gives
  rule_known next (Err fault.Busy) gives = as_before (Err fault.Busy) gives.0 gives.0
  rule_known next (Err (fault.NoQuorum have total)) gives = as_before (Err (fault.NoQuorum have total)) gives.0 gives.0
  rule_known next (Err fault.HistoryFull) gives = as_before (Err fault.HistoryFull) gives.0 gives.0
  rule_known next (Err fault.Memory) gives = as_before (Err fault.Memory) gives.0 gives.0

  nothing_known : (given : Result (Unit {0}) RuleFault) → NothingGives old new given → IsKnownOfChange patience old new given
  nothing_known (Ok done) gives = as_before (Ok done) gives.0 (inl gives.0)
  nothing_known (Err fault.Dark) gives = absurd (refused_dark old.core.descriptor gives)
  nothing_known (Err (fault.WentOff have total)) gives = absurd (refused_off old.core.descriptor have total gives)
  nothing_known (Err fault.Stuck) gives = absurd gives.1
  nothing_known (Err fault.Busy) gives = as_before (Err fault.Busy) gives.0 gives.0
  nothing_known (Err (fault.NoQuorum have total)) gives = as_before (Err (fault.NoQuorum have total)) gives.0 gives.0
  nothing_known (Err fault.HistoryFull) gives = as_before (Err fault.HistoryFull) gives.0 gives.0
  nothing_known (Err fault.Memory) gives = as_before (Err fault.Memory) gives.0 gives.0

  pub big_known : (given : Result (Unit {0}) RuleFault) → BigGives patience old new given → IsKnownOfChange patience old new given
  big_known given gives = by old.core.descriptor.big gives
    where
      by : (big : Bool) → MatchBool big (NothingGives old new given) (RuleGives (as_big old.core.descriptor) patience old new given) → IsKnownOfChange patience old new given
      by true gives = nothing_known given gives
      by false gives = rule_known (as_big old.core.descriptor) given gives

-- a cut at most leaves this true
pub cut_bears : (P : List Fact → Type 0) → Bears P → (old new : State) → EntersCut old new → P old.core.history.facts → P new.core.history.facts
cut_bears P bears old new (NothingEntered same) holds = subst (λ (l : Log). P l.facts) (sym same) holds
cut_bears P bears old new (CutEntered cut) holds = subst (λ (l : Log). P l.facts) (sym cut) (bears_cut P bears old.core.history holds)
