-- A session that a change of its group's rule of votes or of its size has left is sound with requests.
use Rattle.std.proofs.Common.{◌≡◌, ◌⊎◌, inl, inr, ⊎_elim, ℕ, ◌-◌, ◌≤◌, ◌^◌, Bool, true, false, List, [], Result, Ok, Err, sym, ap, subst, ◌∙◌, arith, refl}
use Rattle.std.specs.Prelude.{IsFalse, IsTrue, MatchBool}
use Rattle.lvm_num.specs.declared.descriptor.Descriptor.{Descriptor}
use Rattle.lvm_num.specs.declared.descriptor.LvRow.{LvRow}
use Rattle.lvm_num.specs.declared.place.Pp.{Pp}
use Rattle.lvm_num.specs.Descriptor.{IsValid, copies_of, is_member}
use Rattle.lvm_num.specs.Status.{calls_stale}
use Rattle.lvm_num.proofs.Booleans.{second_with_first}
use Rattle.lvm_vol.specs.Log.{Log}
use Rattle.lvm_vol.specs.Order.{Ordered}
use Rattle.lvm_kept.specs.Group.{IsOneOf}
use Rattle.lvm_status.specs.Update.{members_there}
use Rattle.lvm_write.proofs.NextLemmas.{copy_is_placed, is_member_of}
use Rattle.lvm_session.specs.State.{Core, State}
use Rattle.lvm_session.specs.Judging.{copies_in, is_missing}
use Rattle.lvm_session.specs.Left.{updates_left}
use Rattle.lvm_session.specs.Sound.{IsSound}
use Rattle.lvm_volume_plan.specs.passed.Core.{HasStated, NoPartition, WasLeftBehind, IsSettled}
use Rattle.lvm_keeps.proofs.LeftLemmas.Updates.{few_updates}
use Rattle.lvm_members.specs.passed.Change.{with_quorum, as_big}
use Rattle.lvm_members.specs.passed.ChangeLaws.{DiffersInRule}
use Rattle.lvm_members.specs.passed.Turnover.{ChangeLeaves, IsNext}
use Rattle.lvm_volumes.specs.Endings.{HasFresh, KeepsFresh, StillHeld}
use Rattle.lvm_volumes.proofs.StagesLemmas.Entering.{many_bound}
use Rattle.lvm_members.specs.declared.fault.RuleFault.{RuleFault}
use Rattle.lvm_members.specs.declared.fault.RuleFault.TheVariants as fault
use Rattle.lvm_members.specs.Commands.{IfOn, MayBeChanged, NothingGives, RuleGives}
use Rattle.lvm_handover.specs.Serving.{GoesOnWith}
use Rattle.lvm_handover.proofs.ServingLemmas.Serving.{commands_serve}
use Rattle.lvm_handover.proofs.ServingLemmas.Volumes.{had_fresh, none_before}
use Rattle.lvm_tie_commands.specs.Serving.{MayServeWith}
use Rattle.lvm_tie_commands.specs.Changing.{IsChangedTo, MakeBigServes, SetQuorumServes}
use Rattle.lvm_tie_commands.proofs.ServingLemmas.More.{refused}

module _ (next : Descriptor) (before after : ℕ) (old new : State) (sound : IsSound old) (began : IsSettled old.core) (on : IsSettled new.core) (still : StillHeld old new) (keeps : KeepsFresh old new)
    (leaves : ChangeLeaves (IsNext next) [] [] before after old new) (may : MayBeChanged next old.core) (done : HasStated next old new) where
  abbrev was : Descriptor
  was = old.core.descriptor

  differs : DiffersInRule was next
  differs = may.rule.differs

  now : new.core.descriptor ≡ next
  now = ap (λ (c : Core). c.descriptor) done.is

  copies : (lv lp : ℕ) → copies_in new.core.descriptor lv lp ≡ copies_in was lv lp
  copies lv lp = ap (λ (g : Descriptor). copies_in g lv lp) now ∙ ap (λ (g : Descriptor). copies_in g lv lp) differs

  -- of either descriptor a copy is on a member
  on_member : (group : Descriptor) → (group ≡ was) ⊎ (group ≡ next) → (row : LvRow) (lp : ℕ) (p : Pp) → IsOneOf group.lvs row → IsOneOf (copies_of row lp) p → IsTrue (is_member was p.disk)
  on_member group which row lp p volume one = is_member_of was p (copy_is_placed was sound.fitting.valid row lp p (subst (λ (rows : List LvRow). IsOneOf rows row) (rows which) volume) one)
    where
      rows : (group ≡ was) ⊎ (group ≡ next) → group.lvs ≡ was.lvs
      rows (inl same) = ap (λ (g : Descriptor). g.lvs) same
      rows (inr is) = ap (λ (g : Descriptor). g.lvs) is ∙ ap (λ (g : Descriptor). g.lvs) differs

  -- by the status the members are those that there were
  same_there : (disk : ℕ) → members_there new.core.status.group new.core.status.wanted disk ≡ members_there was new.core.status.wanted disk
  same_there disk = ⊎_elim
      (λ (same : new.core.status.group ≡ old.core.status.group). ap (λ (g : Descriptor). members_there g new.core.status.wanted disk) (same ∙ sound.fitting.group))
      (λ (other : (k : Descriptor) × IsNext next k × (new.core.status.group ≡ record k { lvs = [] })).
      let is : new.core.status.group ≡ record next { lvs = [] } = other.2 ∙ ap (λ (g : Descriptor). record g { lvs = [] }) other.1 in
      ap (λ (g : Descriptor). members_there g new.core.status.wanted disk) is ∙ ap (λ (g : Descriptor). members_there g new.core.status.wanted disk) differs)
      leaves.status.group

  behind_is_missing : (p : Pp) → WasLeftBehind (IsNext next) NoPartition old new p → IsTrue (is_missing new.core p.disk)
  behind_is_missing p left = second_with_first (is_member was p.disk) (is_missing new.core p.disk)
      (on_member left.group left.known left.its.row left.its.lp p left.its.volume left.its.one) (sym (same_there p.disk) ∙ left.absent)

  fresh : (lv lp : ℕ) (p : Pp) → IsOneOf (copies_in new.core.descriptor lv lp) p → IsFalse (calls_stale old.core.origin.table p) → HasFresh new.core lv lp
  fresh lv lp p one first = keeps lv lp p one (inr (had_fresh old sound began lv lp p (subst (λ (ps : List Pp). IsOneOf ps p) (copies lv lp) one) first))

  goes_on : IsValid new.core.descriptor → GoesOnWith [] old new
  goes_on valid = record {
    is = done.is ∙ ap (λ (c : Core). record old.core { descriptor = c.descriptor; history = c.history; last = c.last; status = new.core.status; homes = new.core.homes }) (sym done.is);
    members = ap (λ (g : Descriptor). g.pvs) now ∙ ap (λ (g : Descriptor). g.pvs) differs;
    partitions = ap (λ (g : Descriptor). g.mib) now ∙ ap (λ (g : Descriptor). g.mib) differs;
    sizes = leaves.writes.sizes;
    falls = leaves.falls;
    ordered = subst (λ (l : Log). Ordered l.run [] l.facts) (sym (ap (λ (c : Core). c.history) done.is)) sound.told.ordered;
    room = ap (λ (c : Core). c.history.room) done.is;
    numbers =
        let many = many_bound old.core sound.fitting.valid sound.fitting.group in
        let most = leaves.numbers.most in
        let left : 65536 ≤ 2 ^ 32 - 1 - old.core.status.stamp.seq = may.room.numbers in
        let updates : updates_left new.core ≤ 129 = few_updates new.core valid on.quiet.requests on.quiet.copy in
        omega (arith, many, most, left, updates);
    left = still.left (none_before old sound began);
    stays = λ disk gone. leaves.status.stays disk refl gone;
    lost = λ disk gone there. (leaves.status.lost disk gone there).1;
    further = λ p stale. ⊎_elim (λ (first : IsTrue (calls_stale old.core.status.wanted p)). inl first) (λ left. inr (inr (behind_is_missing p left))) (leaves.status.further p stale);
    fresh = λ lv lp p one first apart. fresh lv lp p one first;
  }

  rule_serves : MayServeWith [] new
  rule_serves = (
    (λ between. (commands_serve [] old new sound began on (goes_on between.fitting.valid)).0 between),
    (λ none between. (commands_serve [] old new sound began on (goes_on between.fitting.valid)).1 none between),
  )

serves : (next : Descriptor) (before after : ℕ) (old new : State) (answer : Result (Unit {0}) RuleFault) → IsSound old → IsChangedTo next before after old new answer → RuleGives next before old new answer → IfOn answer (MayServeWith [] new)
serves next before after old new (Ok done) sound c gives = rule_serves next before after old new sound c.began c.on c.still c.fresh c.leaves gives.0 gives.1
serves next before after old new (Err fault.Dark) sound c gives = tt
serves next before after old new (Err (fault.WentOff have total)) sound c gives = tt
serves next before after old new (Err fault.Stuck) sound c gives = tt
serves next before after old new (Err fault.Busy) sound c gives = refused old new sound c.began gives.0
serves next before after old new (Err (fault.NoQuorum have total)) sound c gives = refused old new sound c.began gives.0
serves next before after old new (Err fault.HistoryFull) sound c gives = refused old new sound c.began gives.0
serves next before after old new (Err fault.Memory) sound c gives = refused old new sound c.began gives.0

nothing_serves : (old new : State) (answer : Result (Unit {0}) RuleFault) → IsSound old → IsSettled old.core → NothingGives old new answer → IfOn answer (MayServeWith [] new)
nothing_serves old new (Ok done) sound began gives = refused old new sound began gives.0
nothing_serves old new (Err fault.Dark) sound began gives = tt
nothing_serves old new (Err (fault.WentOff have total)) sound began gives = tt
nothing_serves old new (Err fault.Stuck) sound began gives = tt
nothing_serves old new (Err fault.Busy) sound began gives = refused old new sound began gives.0
nothing_serves old new (Err (fault.NoQuorum have total)) sound began gives = refused old new sound began gives.0
nothing_serves old new (Err fault.HistoryFull) sound began gives = refused old new sound began gives.0
nothing_serves old new (Err fault.Memory) sound began gives = refused old new sound began gives.0

pub set_quorum_serves : SetQuorumServes
set_quorum_serves on before after old new answer sound c gives = let next : Descriptor = with_quorum on old.core.descriptor in serves next before after old new answer sound c gives

pub make_big_serves : MakeBigServes
make_big_serves before after old new answer sound c gives = by old.core.descriptor.big gives
  where
    next : Descriptor
    next = as_big old.core.descriptor

    by : (big : Bool) → MatchBool big (NothingGives old new answer) (RuleGives next before old new answer) → IfOn answer (MayServeWith [] new)
    by true gives = nothing_serves old new answer sound c.began gives
    by false gives = serves next before after old new answer sound c gives
