-- The session of a group that was made may start, and what then holds.
use Rattle.std.proofs.Common.{◌≡◌, ◌≢◌, ℕ, ◌≤◌, ◌*◌, Bool, true, false, ◌&&◌, not, List, [], IsTrue, sym, ap, subst, ◌∙◌, arith}
use Rattle.std.specs.Prelude.{nat_lt, if◌then◌else◌}
use Rattle.std.proofs.lemmas.Bool.Decides.{nat_tests}
use Rattle.lvm_num.specs.declared.descriptor.LvRow.{LvRow}
use Rattle.lvm_num.specs.declared.descriptor.Descriptor.{Descriptor}
use Rattle.lvm_num.specs.declared.status.Status.{Status}
use Rattle.lvm_num.specs.Descriptor.{is_member}
use Rattle.lvm_num.specs.Votes.{all_disks, votes_in, total_votes, CanWrite}
use Rattle.lvm_num.proofs.VotesLemmas.{total-some, more_is_enough, more_have_more}
use Rattle.lvm_disk.specs.Device.{Device}
use Rattle.lvm_vol.specs.Facts.{On}
use Rattle.lvm_vol.specs.Legal.{IsLater}
use Rattle.lvm_vol.specs.Log.{Log, spare_entries}
use Rattle.lvm_kept.specs.Moments.{Moment, StaysCalm}
use Rattle.lvm_steps.specs.Moments.{Keeps}
use Rattle.lvm_steps.specs.Requests.{at}
use Rattle.lvm_steps.proofs.EnteringLemmas.{calm_goes_on}
use Rattle.lvm_steps.proofs.MomentsLemmas.Spans.{group_goes_on}
use Rattle.lvm_kept.specs.Group.{IsOneOf}
use Rattle.lvm_status.specs.Update.{Updates, Stored, members_there}
use Rattle.lvm_steps.specs.Behind.{IsAhead, ClockIsAhead}
use Rattle.lvm_group.specs.passed.Commit.{NoneIsLeft}
use Rattle.lvm_group.specs.passed.Core.{Room, HaveAllLanded, IsSettled, HasSpareNumbers}
use Rattle.lvm_group.specs.passed.Session.{ArePlaced, Core}
use Rattle.lvm_group.specs.passed.SessionStart.{first_core, Parts}
use Rattle.lvm_group.proofs.passed.Core.{starts_settled, starts_numbered}
use Rattle.lvm_group.specs.NewGroup.{NewGroup, size_for, new_group, new_status}
use Rattle.lvm_group.specs.Made.{IsMade}
use Rattle.lvm_group.specs.Steps.{RecordsStand}
use Rattle.lvm_group.specs.declared.make.Standing.{Standing}
use Rattle.lvm_group.proofs.LogLemmas.{spare_given, landed_given, later_given}
use Rattle.lvm_group.proofs.NewGroupLemmas.Groups.{are_placed, nothing_missing}

-- where there is no volume no copy is left behind
none_left_of_none : (d : Descriptor) (u : Stored) → d.lvs ≡ [] → NoneIsLeft d u
none_left_of_none d u empty p is = absurd (subst (λ (rows : List LvRow). IsOneOf rows is.row) empty is.volume)

module _ (w : NewGroup) (room : Room) (was is : Log) (old new : Device) (standing : Standing Parts) (stands : RecordsStand w room was is old new standing) where
  pub spare_left : 1 ≤ spare_entries is
  spare_left = subst (λ (l : Log). 1 ≤ spare_entries l) (sym stands.entered) (let e = spare_given was w.disks in let room_for = stands.clear.free.may.entries in omega (arith, e, room_for))

  pub still_landed : HaveAllLanded was.facts → HaveAllLanded is.facts
  still_landed landed = subst (λ (l : Log). HaveAllLanded l.facts) (sym stands.entered) (landed_given was.facts w.disks landed)

  pub placed : ArePlaced new.sizes standing.parts.descriptor standing.parts.updater.wanted
  placed =
      let fit = stands.clear.free.may.disks_fit in
      subst (λ (l : List ℕ). ArePlaced l standing.parts.descriptor standing.parts.updater.wanted) (sym stands.only.sizes)
      (subst (λ (d : Descriptor). ArePlaced old.sizes d standing.parts.updater.wanted) (sym stands.parts.descriptor)
      (subst (λ (s : Status). ArePlaced old.sizes (new_group old.sizes w) s) (sym (ap (λ (u : Updates). u.wanted) stands.parts.status))
      (are_placed old.sizes w.name (size_for old.sizes w.disks w.mib) w.disks w.moment stands.size fit.there fit.fit)))

  pub made : (core : Core) → core ≡ first_core standing.parts is (record { epoch = w.moment; seq = 2 }) standing.homes core.origin.faults → IsMade w room was old new core
  made core core_is = record {
    clear = stands.clear;
    homes = stands.homes;
    spares = stands.spares;
    stand = stands.stand;
    only = stands.only;
    well = stands.well;
    rested = stands.rested;
    reserved = standing.parts;
    parts = stands.parts;
    next = standing.homes;
    flips = stands.flips;
    core_is = core_is ∙ ap (λ (l : Log). first_core standing.parts l (record { epoch = w.moment; seq = 2 }) standing.homes core.origin.faults) stands.entered;
  }

  pub keeps_on : (first : Moment) (core : Core) → core ≡ first_core standing.parts is (record { epoch = w.moment; seq = 2 }) standing.homes core.origin.faults → ClockIsAhead was.run w.moment old was.facts
      → Keeps was.run first (at new is.facts) → Keeps was.run first (at new core.history.facts)
  keeps_on first core core_is clock span =
      let ahead : IsAhead was.run w.moment old was.facts = clock stands.clear.moment in
      let later : IsLater is.facts w.moment = subst (λ (l : Log). IsLater l.facts w.moment) (sym stands.entered) (later_given was.facts w.disks w.moment ahead.later) in
      subst (λ (c : Core). Keeps was.run first (at new c.history.facts)) (sym core_is) (group_goes_on was.run first new is.facts w.moment span ahead.run_is later)

  pub calm_on : (first : Moment) (core : Core) → core ≡ first_core standing.parts is (record { epoch = w.moment; seq = 2 }) standing.homes core.origin.faults → StaysCalm first (at new is.facts) → StaysCalm first (at new core.history.facts)
  calm_on first core core_is calm = subst (λ (c : Core). StaysCalm first (at new c.history.facts)) (sym core_is) (calm_goes_on first new is.facts (On w.moment) calm tt)

  -- all members are there
  all_there : (d : ℕ) → IsTrue (is_member (new_group old.sizes w) d) → IsTrue (members_there (new_group old.sizes w) (new_status w) d)
  all_there d member = ap (λ (m : Bool). is_member (new_group old.sizes w) d && not m) (nothing_missing w.disks w.moment d) ∙ ap (λ (m : Bool). m && true) member

  votes : CanWrite (new_group old.sizes w) (members_there (new_group old.sizes w) (new_status w))
  votes =
      let group = new_group old.sizes w in
      more_is_enough.write group (total_votes group) (votes_in group (members_there group (new_status w))) (more_have_more group all_disks (members_there group (new_status w)) (λ d member all. all_there d member))
      (all_enough group.quorum (total_votes group) (total-some group stands.valid.head.a_member))
    where
      all_enough : (q : Bool) (total : ℕ) → 1 ≤ total → IsTrue (if q then nat_lt total (2 * total) else nat_lt 0 total)
      all_enough true total some = grind (arith, nat_tests)
      all_enough false total some = grind (arith, nat_tests)

  pub settles : w.moment ≢ 0 → (core : Core) → core ≡ first_core standing.parts is (record { epoch = w.moment; seq = 2 }) standing.homes core.origin.faults → IsSettled core × HasSpareNumbers core
  settles some core core_is = subst (λ (c : Core). IsSettled c × HasSpareNumbers c) (sym core_is) (
    starts_settled (new_group old.sizes w) (new_status w) room standing.parts is (record { epoch = w.moment; seq = 2 }) standing.homes core.origin.faults stands.parts some votes,
    starts_numbered (new_group old.sizes w) (new_status w) room standing.parts is (record { epoch = w.moment; seq = 2 }) standing.homes core.origin.faults stands.parts stands.valid (omega arith),
  )

  -- it has no volume, of which a copy might be left behind
  pub none_left : (core : Core) → core ≡ first_core standing.parts is (record { epoch = w.moment; seq = 2 }) standing.homes core.origin.faults → NoneIsLeft core.descriptor core.status
  none_left core core_is = none_left_of_none core.descriptor core.status (ap (λ (c : Core). c.descriptor.lvs) core_is ∙ ap (λ (d : Descriptor). d.lvs) stands.parts.descriptor)
