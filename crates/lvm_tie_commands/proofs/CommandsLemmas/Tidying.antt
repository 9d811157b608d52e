-- Over the dropping of dirty marks that aren't needed.
use Rattle.std.proofs.Common.{◌≡◌, ℕ, ◌==◌, ◌<◌, Bool, true, false, ◌&&◌, not, List, [], Some, refl, sym, ap, subst, ◌∙◌, eq-eqb}
use Rattle.std.specs.Prelude.{IsTrue, Contains, IfSome}
use Rattle.std.proofs.lemmas.Bool.{and_from, not-true as not_so}
use Rattle.std.proofs.lemmas.List.Elements.{All-contains, filter_passes}
use Rattle.lvm_num.specs.declared.place.Pp.{Pp}
use Rattle.lvm_num.specs.declared.descriptor.Descriptor.{Descriptor}
use Rattle.lvm_num.specs.declared.descriptor.LvRow.{LvRow}
use Rattle.lvm_num.specs.declared.descriptor.Mode.TheVariants.{Passive}
use Rattle.lvm_num.specs.declared.status.Status.{Status}
use Rattle.lvm_num.specs.Descriptor.{IsPartitionOf, copies_of, is_member, partitions_used}
use Rattle.lvm_num.specs.Disks.{Disks}
use Rattle.lvm_num.specs.Modes.{is_passive}
use Rattle.lvm_num.specs.Status.{calls_missing, calls_stale}
use Rattle.lvm_num.proofs.AmongLemmas.{all_one, any_one, one_any}
use Rattle.lvm_num.proofs.Booleans.{clash_gives, first_holds, second_holds}
use Rattle.lvm_disk.specs.Device.{Media}
use Rattle.lvm_vol.specs.Facts.{Fact}
use Rattle.lvm_kept.specs.Group.{IsOneOf, IsSome, fresh_on}
use Rattle.lvm_kept.specs.Moments.{Moment}
use Rattle.lvm_steps.specs.Moments.{RunBegins}
use Rattle.lvm_status.specs.Update.{members_there}
use Rattle.lvm_commit.specs.Committed.{AreOne}
use Rattle.lvm_commit.proofs.AmongLemmas.{of_map, of_rows}
use Rattle.lvm_write.proofs.NextLemmas.{is_member_of}
use Rattle.lvm_write.proofs.WrittenLemmas.Writing.{if_told}
use Rattle.lvm_even.proofs.Lists.{one_passes}
use Rattle.lvm_tidying.proofs.CleanedLemmas.{are_one}
use Rattle.lvm_session.specs.State.{State, is_there}
use Rattle.lvm_volume_plan.specs.CopiesFaults.{has_usable}
use Rattle.lvm_volumes.specs.Tidying.{lacks_usable, needs_mark, to_tidy, unneeded}
use Rattle.lvm_volumes.proofs.TidyingLemmas.{some_lacks}
use Rattle.lvm_handover.specs.passed.Core.{IsSettled}
use Rattle.lvm_tie.specs.Begins.{shown_to}
use Rattle.lvm_settled.specs.passed.Even.{MissingAreStale}
use Rattle.lvm_settled.proofs.passed.Even.{none_is_left_behind}
use Rattle.lvm_tie_commands.specs.Commands.{MayBeCommanded, TidyGoesOn}
use Rattle.lvm_tie_commands.proofs.CommandsLemmas.Commands.{keeps_on}
use Rattle.lvm_tie_commands.proofs.HeldLemmas.{Carries, carries}
use Rattle.lvm_tie_commands.proofs.Resting.{left}

-- a volume in mode passive whose mark isn't needed has a copy to use of each logical partition
has_each : (d : Descriptor) (s : Status) (row : LvRow) → IsOneOf d.lvs row → row.mode ≡ Passive → Contains (unneeded d s) row.number → (lp : ℕ) → lp < row.lps → IsTrue (has_usable s (copies_of row lp))
has_each d s row one soft goes lp low = by (has_usable s (copies_of row lp)) refl
  where
    needless : needs_mark d.lvs s row.number ≡ false
    needless = not_so (needs_mark d.lvs s row.number)
        (All-contains (λ (n : ℕ). not (needs_mark d.lvs s n) ≡ true) (unneeded d s) row.number (filter_passes (λ (n : ℕ). not (needs_mark d.lvs s n)) s.dirty) goes)

    needs : lacks_usable s row ≡ true → needs_mark d.lvs s row.number ≡ true
    needs lacks = one_any (λ (r : LvRow). r.number == row.number && is_passive r.mode && lacks_usable s r) d.lvs row one
        (and_from (row.number == row.number && is_passive row.mode) (lacks_usable s row) (and_from (row.number == row.number) (is_passive row.mode) (eq-eqb row.number row.number refl) (ap is_passive soft)) lacks)

    by : (t : Bool) → has_usable s (copies_of row lp) ≡ t → t ≡ true
    by true is = refl
    by false is = clash_gives (needs_mark d.lvs s row.number) (needs (some_lacks s row lp low is)) needless

module _ (run : ℕ) (first : Moment) (old : State) (may : MayBeCommanded run first old) (settled : IsSettled old.core) where
  abbrev clean : List ℕ
  clean = unneeded old.core.descriptor old.core.status.committed

  module _ (media : Media) (it : Carries old media) where
    behind : MissingAreStale (shown_to old media) old.core.descriptor (Some it.held.shows.stands) (is_there old.core)
    behind = subst (λ (set : Disks). MissingAreStale (shown_to old media) old.core.descriptor (Some it.held.shows.stands) set) (ap (λ (g : Descriptor). members_there g old.core.status.wanted) may.sound.fitting.group)
        (none_is_left_behind (shown_to old media) old.core.descriptor old.core.status it.held.shows.stands (it.held.shows.committed ∙ settled.committed) (left old may.sound settled))

    -- a copy that can be used is on a member that is there
    usable : (row : LvRow) → IsOneOf old.core.descriptor.lvs row → row.mode ≡ Passive → Contains clean row.number → (lp : ℕ) → lp < row.lps → IsSome (fresh_on (is_there old.core) (Some it.held.shows.stands) row lp)
    usable row one soft goes lp low =
        let s : Status = old.core.status.committed in
        let found = any_one (λ (p : Pp). not (calls_stale s p) && not (calls_missing s p.disk)) (copies_of row lp) (has_each old.core.descriptor s row one soft goes lp low) in
        let p : Pp = found.0 in
        let fresh : not (calls_stale s p) ≡ true = first_holds (not (calls_stale s p)) (not (calls_missing s p.disk)) found.2 in
        let present : not (calls_missing s p.disk) ≡ true = second_holds (not (calls_stale s p)) (not (calls_missing s p.disk)) found.2 in
        let member : IsTrue (is_member old.core.descriptor p.disk) = is_member_of old.core.descriptor p
        (all_one (IsPartitionOf old.core.descriptor) (partitions_used old.core.descriptor) p may.sound.fitting.valid.maps.places (of_rows old.core.descriptor.lvs row p one (of_map row lp p found.1))) in
        let there : IsTrue (is_there old.core p.disk) = and_from (is_member old.core.descriptor p.disk) (not (calls_missing old.core.status.wanted p.disk)) member (ap (λ (x : Status). not (calls_missing x p.disk)) (sym settled.committed) ∙ present) in
        one_passes (λ (q : Pp). is_there old.core q.disk && not (calls_stale it.held.shows.stands.value q)) (copies_of row lp) p found.1
        (and_from (is_there old.core p.disk) (not (calls_stale it.held.shows.stands.value p)) there (ap (λ (x : Status). not (calls_stale x p)) it.held.shows.committed ∙ fresh))

    ones : (row : LvRow) → IsOneOf old.core.descriptor.lvs row → row.mode ≡ Passive → Contains clean row.number → AreOne (shown_to old media) old.core.descriptor old.core.status.committed row
    ones row one soft goes = are_one (shown_to old media) old.core.descriptor old.core.status.committed (is_there old.core) it.held.shows it.even behind row one soft (usable row one soft goes)

  none_empty : (row : LvRow) → IsOneOf old.core.descriptor.lvs row → old.core.descriptor.lvs ≡ [] → ⊥
  none_empty row one none = subst (λ (rows : List LvRow). IsOneOf rows row) none one

  lets : (past : List Fact) → RunBegins run past first → IfSome old.device.media (λ (media : Media). (row : LvRow) → IsOneOf old.core.descriptor.lvs row → row.mode ≡ Passive → Contains clean row.number → AreOne (shown_to old media) old.core.descriptor old.core.status.committed row)
  lets past begins = if_told old.device.media _ (λ media told row one soft goes.
      let it : (m : Media) × Carries old m = carries run first old may settled past begins (λ none. absurd (none_empty row one none)) in
      let same : it.0 ≡ media = let both : Some it.0 ≡ Some media = sym it.1.told ∙ told in cc both in
      ones media (subst (λ (m : Media). Carries old m) same it.1) row one soft goes)

pub tidy_goes_on : TidyGoesOn
tidy_goes_on run first before after old new may settled leaves = keeps_on run first old new may settled (to_tidy old.core) before after leaves (lets run first old may settled)
