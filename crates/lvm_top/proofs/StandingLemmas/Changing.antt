-- What is found after a group was to change its rule of votes, or to become big: what was found before, or what was to be committed.
use Rattle.std.proofs.Common.{◌≡◌, ◌⊎◌, inl, inr, ⊎_elim, ℕ, List, [], Bool, true, false, Option, IfSome, Some, Result, Ok, Err, refl, sym, ap, subst}
use Rattle.std.specs.Prelude.{IsSomeAnd, MatchBool}
use Rattle.lvm_num.specs.declared.descriptor.Descriptor.{Descriptor}
use Rattle.lvm_parse.specs.declared.command.Command.{Command}
use Rattle.lvm_parse.specs.declared.command.Command.TheVariants as command
use Rattle.lvm_parse.specs.declared.rest.Misfit.{Misfit}
use Rattle.lvm_core.specs.Leaves.{MayBeFound}
use Rattle.lvm_session.specs.State.{Core, State}
use Rattle.lvm_line.specs.passed.GroupLines.{IsBetween, IsBrokenOff, OfGroup, ScriptState, Reply}
use Rattle.lvm_line.specs.passed.Members.{BigGives, IsNext, NothingGives, RuleFault, RuleGives, as_big, ends_session, with_quorum}
use Rattle.lvm_line.specs.passed.ReplyVariants as reply
use Rattle.lvm_line.specs.passed.RuleFaultVariants as fault
use Rattle.lvm_line.specs.passed.VolumeLines.{Drains, IsChangeDone, ChvgQuorumDoes, NoGroupForChvgQuorum, BusyChvgQuorum, UndrainedChvgQuorum, SwitchesQuorum, ChvgQuorumFails, ChvgBigDoes, NoGroupForChvgBig, BusyChvgBig, UndrainedChvgBig, BecomesBig, ChvgBigFails, change_refusal}
use Rattle.lvm_line.proofs.passed.Tie.{path_frames}
use Rattle.lvm_top.specs.Standing.{IsToCommit, MayHaveCommitted, MayHaveTried, StoodBefore}
use Rattle.lvm_top.proofs.Devices.{same_nothing}
use Rattle.lvm_top.proofs.StandingLemmas.Volumes.{drained_nothing, held_mid, idle_nothing, undrained_nothing}

-- ---- what is answered

-- nothing has happened where it is refused and the session goes on
rule_refused : (next : Descriptor) (patience : ℕ) (old new : State) (why : RuleFault) → ends_session why ≡ false → RuleGives next patience old new (Err why) → new ≡ old
rule_refused next patience old new fault.Dark goes gives = absurd (cc (goes))
rule_refused next patience old new (fault.WentOff have total) goes gives = absurd (cc (goes))
rule_refused next patience old new fault.Stuck goes gives = absurd (cc (goes))
rule_refused next patience old new fault.Busy goes gives = gives.0
rule_refused next patience old new (fault.NoQuorum have total) goes gives = gives.0
rule_refused next patience old new fault.HistoryFull goes gives = gives.0
rule_refused next patience old new fault.Memory goes gives = gives.0

big_refused : (patience : ℕ) (old new : State) (why : RuleFault) → ends_session why ≡ false → BigGives patience old new (Err why) → new ≡ old
big_refused patience old new why goes gives = by old.core.descriptor.big gives
  where
    by : (big : Bool) → MatchBool big (NothingGives old new (Err why)) (RuleGives (as_big old.core.descriptor) patience old new (Err why)) → new ≡ old
    by true nothing = nothing.0
    by false changed = rule_refused (as_big old.core.descriptor) patience old new why goes changed

-- it is the same group that becomes big, or is
pub big_id : (patience : ℕ) (old new : State) → BigGives patience old new (Ok tt) → new.core.descriptor.id ≡ old.core.descriptor.id
big_id patience old new gives = by old.core.descriptor.big gives
  where
    by : (big : Bool) → MatchBool big (NothingGives old new (Ok tt)) (RuleGives (as_big old.core.descriptor) patience old new (Ok tt)) → new.core.descriptor.id ≡ old.core.descriptor.id
    by true nothing = ap (λ (s : State). s.core.descriptor.id) nothing.0
    by false changed = ap (λ (c : Core). c.descriptor.id) changed.1.is

module _ (run : ℕ) (old new : ScriptState) (between : IsBetween old.moment old.session old.posts) (named : IfSome old.session (λ core. core.history.run ≡ run)) (stood : StoodBefore run OfGroup old new) where
  -- what it finds, whatever became of it
  pub change_finds : {Gives : State → State → Type 0} {over : Bool} {joins erases : List ℕ} (N : Descriptor → Type 0) (core : Core) (left : ℕ) (mid : State) → old.session ≡ Some core → Drains core old left mid
      → IsChangeDone N joins erases Gives over mid old new → (id : ℕ) (k : Descriptor) → MayBeFound new.moment.device id k → MayBeFound old.moment.device id k ⊎ ((id ≡ k.id) × N k)
  change_finds N core left mid some drains done id k it = ⊎_elim
      (λ before. inl (drained_nothing run old new between named stood core left mid some drains id k before))
      (λ next. inr next)
      (done.finds (held_mid run old new between named stood core left mid some drains) id k it)

  -- ---- a command that changes the descriptor so

  module _ (answer : Reply) (read : Result (Option Command) Misfit) (N : Descriptor → Descriptor → Type 0) (its : (k : Descriptor) → IsSomeAnd old.session (λ core. N core.descriptor k) → IsToCommit read old new k) (tries : (answer ≡ reply.Ok) ⊎ IsBrokenOff answer → MayHaveTried read answer) where
    abbrev FoundByChange : Type 0
    FoundByChange = (id : ℕ) (k : Descriptor) → MayBeFound new.moment.device id k → MayBeFound old.moment.device id k ⊎ MayHaveCommitted read answer old new id k

    module _ (core : Core) (left : ℕ) (mid : State) (on : old.session ≡ Some core) (drains : Drains core old left mid) where
      of_group : (k : Descriptor) → N mid.core.descriptor k → IsSomeAnd old.session (λ core. N core.descriptor k)
      of_group k is = subst (λ (o : Option Core). IsSomeAnd o (λ core. N core.descriptor k)) (sym on) (subst (λ (g : Descriptor). N g k) (path_frames drains.runs).keeps.descriptor is)

      pub tried_change : {Gives : State → State → Type 0} {over : Bool} {joins erases : List ℕ} → (answer ≡ reply.Ok) ⊎ IsBrokenOff answer → IsChangeDone (N mid.core.descriptor) joins erases Gives over mid old new → FoundByChange
      tried_change tried done id k it = ⊎_elim
          (λ before. inl before)
          (λ found. inr (record { tried = tries tried; own = found.0; is = its k (of_group k found.1) }))
          (change_finds (N mid.core.descriptor) core left mid on drains done id k it)

      failed_change : (Gives : State → State → Type 0) (why : RuleFault) → (ends_session why ≡ false → (end : State) → Gives mid end → end ≡ mid) → answer ≡ reply.Refused (change_refusal why)
          → IsChangeDone (N mid.core.descriptor) [] [] Gives (ends_session why) mid old new → FoundByChange
      failed_change Gives fault.Dark same says done id k it = tried_change (inr (subst IsBrokenOff (sym says) tt)) done id k it
      failed_change Gives (fault.WentOff have total) same says done id k it = tried_change (inr (subst IsBrokenOff (sym says) tt)) done id k it
      failed_change Gives fault.Stuck same says done id k it = tried_change (inr (subst IsBrokenOff (sym says) tt)) done id k it
      failed_change Gives fault.Busy same says done id k it = inl (idle_nothing run old new between named stood core left mid done.left on drains (same refl done.left done.gives) done.leaves id k it)
      failed_change Gives (fault.NoQuorum have total) same says done id k it = inl (idle_nothing run old new between named stood core left mid done.left on drains (same refl done.left done.gives) done.leaves id k it)
      failed_change Gives fault.HistoryFull same says done id k it = inl (idle_nothing run old new between named stood core left mid done.left on drains (same refl done.left done.gives) done.leaves id k it)
      failed_change Gives fault.Memory same says done id k it = inl (idle_nothing run old new between named stood core left mid done.left on drains (same refl done.left done.gives) done.leaves id k it)

  -- ---- the lines

  pub chvg_quorum_finds : (answer : Reply) (on : Bool) (name : List ℕ) → ChvgQuorumDoes on name old new answer
      → (id : ℕ) (k : Descriptor) → MayBeFound new.moment.device id k → MayBeFound old.moment.device id k ⊎ MayHaveCommitted (Ok (Some (command.ChvgQuorum on name))) answer old new id k
  chvg_quorum_finds answer on name (NoGroupForChvgQuorum none is) id k it = inl (same_nothing old.moment.device new.moment.device (ap (λ (s : ScriptState). s.moment.device) is.1) id k it)
  chvg_quorum_finds answer on name (BusyChvgQuorum mine busy is) id k it = inl (same_nothing old.moment.device new.moment.device (ap (λ (s : ScriptState). s.moment.device) is.1) id k it)
  chvg_quorum_finds answer on name (UndrainedChvgQuorum core why some mine un) id k it = inl (undrained_nothing run old new between named stood core why answer some un id k it)
  chvg_quorum_finds answer on name (SwitchesQuorum core left mid some mine drains done says) id k it =
      tried_change answer (Ok (Some (command.ChvgQuorum on name))) (λ group. IsNext (with_quorum on group)) (λ k is. is) (λ tried. tried) core left mid some drains (inl says) done id k it
  chvg_quorum_finds answer on name (ChvgQuorumFails core left mid why some mine drains done says) id k it =
      failed_change answer (Ok (Some (command.ChvgQuorum on name))) (λ group. IsNext (with_quorum on group)) (λ k is. is) (λ tried. tried) core left mid some drains (λ was is. RuleGives (with_quorum on was.core.descriptor) left was is (Err why)) why
      (λ goes end gives. rule_refused (with_quorum on mid.core.descriptor) left mid end why goes gives) says done id k it

  pub chvg_big_finds : (answer : Reply) (name : List ℕ) → ChvgBigDoes name old new answer
      → (id : ℕ) (k : Descriptor) → MayBeFound new.moment.device id k → MayBeFound old.moment.device id k ⊎ MayHaveCommitted (Ok (Some (command.ChvgBig name))) answer old new id k
  chvg_big_finds answer name (NoGroupForChvgBig none is) id k it = inl (same_nothing old.moment.device new.moment.device (ap (λ (s : ScriptState). s.moment.device) is.1) id k it)
  chvg_big_finds answer name (BusyChvgBig mine busy is) id k it = inl (same_nothing old.moment.device new.moment.device (ap (λ (s : ScriptState). s.moment.device) is.1) id k it)
  chvg_big_finds answer name (UndrainedChvgBig core why some mine un) id k it = inl (undrained_nothing run old new between named stood core why answer some un id k it)
  chvg_big_finds answer name (BecomesBig core left mid some mine drains done says) id k it =
      tried_change answer (Ok (Some (command.ChvgBig name))) (λ group. IsNext (as_big group)) (λ k is. is) (λ tried. tried) core left mid some drains (inl says) done id k it
  chvg_big_finds answer name (ChvgBigFails core left mid why some mine drains done says) id k it =
      failed_change answer (Ok (Some (command.ChvgBig name))) (λ group. IsNext (as_big group)) (λ k is. is) (λ tried. tried) core left mid some drains (λ was is. BigGives left was is (Err why)) why
      (λ goes end gives. big_refused left mid end why goes gives) says done id k it
