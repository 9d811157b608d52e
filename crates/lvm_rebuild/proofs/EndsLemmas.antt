-- What ends a rebuilding.
use Rattle.std.proofs.Common.{◌≡◌, inl, inr, ℕ, Bool, true, false, List, Option, None, Some, if◌then◌else◌, sym, subst, ◌∙◌}
use Rattle.std.specs.Prelude.{not, Ok, Err, Result}
use Rattle.std.specs.Option.{option_map_or}
use Rattle.lvm_num.specs.declared.place.Pp.{Pp}
use Rattle.lvm_num.specs.Votes.{total_votes}
use Rattle.lvm_session.specs.declared.answers.OpenFault.TheVariants as denial
use Rattle.lvm_session.specs.declared.open.Power.{Power}
use Rattle.lvm_session.specs.declared.open.Power.TheVariants as power
use Rattle.lvm_session.specs.Calls.{has_numbers}
use Rattle.lvm_session.specs.State.{Core, State, votes_there}
use Rattle.lvm_move_plan.specs.declared.standing.VolumeCopy.{VolumeCopy}
use Rattle.lvm_move_plan.specs.declared.plan.PlannedMove.{PlannedMove}
use Rattle.lvm_migrate.specs.declared.fault.MoveFault.{MoveFault}
use Rattle.lvm_migrate.specs.declared.fault.MoveFault.TheVariants as move
use Rattle.lvm_migrate.specs.Migrating.{refusal_by}
use Rattle.lvm_migrate.specs.Moving.{StopsAt, fault_of_move}
use Rattle.lvm_rebuild.specs.declared.fault.RebuildFault.{RebuildFault}
use Rattle.lvm_rebuild.specs.declared.fault.RebuildFault.TheVariants as fault
use Rattle.lvm_rebuild.specs.Choosing.{choice_of, has_fresh, spare_for}
use Rattle.lvm_rebuild.specs.Rebuilding.{IsOfRebuilding, IsRefused, LacksMemory, Rebuilds, RebuildsEndSo, StopsAtCopy, busy_or_full, has_entries, is_busy, move_to, rebuild_refusal}

-- a move against which nothing stands
move_ends : (m : PlannedMove) (p q : ℕ) (old new : State) (w : MoveFault) → fault_of_move old.core m ≡ None → StopsAt m p q old new w → IsOfRebuilding (fault.Move w)
move_ends m p q old new (move.Missing disk) fine stops = absurd (let e : None ≡ Some (denial.Missing disk) = sym fine ∙ stops.why_is in cc e)
move_ends m p q old new (move.Strict lp) fine stops = absurd stops
move_ends m p q old new (move.NoRoom free) fine stops = absurd stops
move_ends m p q old new move.Dark fine stops = tt
move_ends m p q old new (move.WentOff have total) fine stops = tt
move_ends m p q old new move.Busy fine stops = tt
move_ends m p q old new move.HistoryFull fine stops = tt
move_ends m p q old new (move.SyncFailed disk) fine stops = tt
move_ends m p q old new (move.NoFresh lp) fine stops = tt
move_ends m p q old new move.Stuck fine stops = tt
move_ends m p q old new move.Memory fine stops = tt

-- there is no partition for a copy
choice_ends : (core : Core) (lost : List ℕ) (c : VolumeCopy) (why : RebuildFault) → choice_of core lost c ≡ Err why → IsOfRebuilding why
choice_ends core lost c why is = by (has_numbers core) (has_fresh core c) (spare_for core lost c) is
  where
    by : (n f : Bool) (o : Option Pp) → (if not n then Err (fault.Move move.HistoryFull) else if not f then Err (fault.Move (move.NoFresh c.lp)) else option_map_or (λ (pp : Pp). let r : Result Pp RebuildFault = Ok pp in r) o (Err (fault.NoSpare c.lp))) ≡ Err why
        → IsOfRebuilding why
    by false f o e = let same : fault.Move move.HistoryFull ≡ why = cc e in subst IsOfRebuilding same tt
    by true false o e = let same : fault.Move (move.NoFresh c.lp) ≡ why = cc e in subst IsOfRebuilding same tt
    by true true None e = let same : fault.NoSpare c.lp ≡ why = cc e in subst IsOfRebuilding same tt
    by true true (Some pp) e = absurd (cc e)

copy_ends : (lost : List ℕ) (c : VolumeCopy) (p q : ℕ) (old new : State) (why : RebuildFault) → StopsAtCopy lost c p q old new why → IsOfRebuilding why
copy_ends lost c p q old new why (inl (is, same, left)) = choice_ends old.core lost c why is
copy_ends lost c p q old new why (inr (pp, w, chosen, is, fine, stops)) = subst IsOfRebuilding (sym is) (move_ends (move_to c pp) p q old new w fine stops)

-- what stands against it
refusal_ends : (core : Core) (w : MoveFault) → rebuild_refusal core ≡ Some w → IsOfRebuilding (fault.Move w)
refusal_ends core w is = by core.power is
  where
    so : (u : MoveFault) → Some u ≡ Some w → IsOfRebuilding (fault.Move u) → IsOfRebuilding (fault.Move w)
    so u e its = let same : u ≡ w = cc e in subst (λ (x : MoveFault). IsOfRebuilding (fault.Move x)) same its

    on : busy_or_full core ≡ Some w → IsOfRebuilding (fault.Move w)
    on f = at (is_busy core) (has_entries core) (has_numbers core) f
      where
        at : (b h n : Bool) → (if b then Some move.Busy else if h then (if n then None else Some move.HistoryFull) else Some move.HistoryFull) ≡ Some w → IsOfRebuilding (fault.Move w)
        at true h n g = so move.Busy g tt
        at false true true g = absurd (cc g)
        at false true false g = so move.HistoryFull g tt
        at false false n g = so move.HistoryFull g tt

    by : (p : Power) → refusal_by p core (busy_or_full core) ≡ Some w → IsOfRebuilding (fault.Move w)
    by power.Dark f = so move.Dark f tt
    by power.Off f = so (move.WentOff (votes_there core) (total_votes core.descriptor)) f tt
    by power.Stuck f = on f
    by power.On f = on f

pub rebuilds_end_so : RebuildsEndSo
rebuilds_end_so p q old new why (Rebuilds none stops) = copy_ends _ stops.one stops.before q stops.mid new why stops.stops
rebuilds_end_so p q old new why (IsRefused w against (is, same, left)) = let its : why ≡ fault.Move w = cc is in subst IsOfRebuilding (sym its) (refusal_ends old.core w against)
rebuilds_end_so p q old new why (LacksMemory none (is, same, left)) = let its : why ≡ fault.Move move.Memory = cc is in subst IsOfRebuilding (sym its) tt
