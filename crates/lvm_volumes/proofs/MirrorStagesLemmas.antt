-- Copies are added: the further ones become stale, and the descriptor with them is committed.
use Rattle.std.proofs.Common.{◌==◌, ◌≡◌, ◌≢◌, ◌⊎◌, inl, inr, ⊎_elim, ℕ, ◌≤◌, Bool, true, false, ◌&&◌, ◌||◌, List, [], ◌++◌, Some, Result, Ok, Err, get_or, refl, sym, ap, subst, ◌∙◌, arith}
use Rattle.std.specs.Prelude.{not, IsTrue, All, Contains}
use Rattle.std.proofs.lemmas.Bool.{false≢true}
use Rattle.std.proofs.lemmas.List.{append-nil}
use Rattle.std.proofs.lemmas.List.Elements.{All-contains}
use Rattle.std.proofs.lemmas.List.Folds.{list_any_at}
use Rattle.lvm_num.specs.declared.place.Pp.{Pp}
use Rattle.lvm_num.specs.declared.descriptor.LvRow.{LvRow}
use Rattle.lvm_num.specs.declared.descriptor.Descriptor.{Descriptor}
use Rattle.lvm_num.specs.declared.status.Status.{Status}
use Rattle.lvm_num.specs.Descriptor.{copies_of, is_member, volume_of, is_pp}
use Rattle.lvm_num.specs.Status.{calls_stale}
use Rattle.lvm_num.specs.Votes.{CanWrite}
use Rattle.lvm_num.proofs.AmongLemmas.{any_one}
use Rattle.lvm_vol.specs.Facts.{Fact}
use Rattle.lvm_vol.specs.Log.{Log}
use Rattle.lvm_kept.specs.Contents.{contents_of}
use Rattle.lvm_kept.specs.Group.{IsOneOf}
use Rattle.lvm_kept.specs.Kept.{Kept}
use Rattle.lvm_kept.specs.Moments.{Moment}
use Rattle.lvm_kept.proofs.CommittedLemmas.Finding.{images_within}
use Rattle.lvm_disk.specs.Device.{Media, image_of}
use Rattle.lvm_commit.specs.Committed.{IsAlike, ShowsCommitted}
use Rattle.lvm_commit.specs.LawsOfData.{IsFree}
use Rattle.lvm_commit.specs.LawsOfVolumes.{VolumeServes}
use Rattle.lvm_commit.specs.Settling.{NoneIsLeft, MarksLeft, many_there}
use Rattle.lvm_commit.proofs.AmongLemmas.{contains, one_place}
use Rattle.lvm_session.specs.Judging.{copies_in, is_wanted_stale}
use Rattle.lvm_session.specs.State.{Core, State, is_there}
use Rattle.lvm_volume_plan.specs.passed.Core.{CommitFault, IsSettled, HasSpareNumbers, AreUnused, Restates, LetsCommit, HasStated, HasCommitted, CommitEnds, MarkEnds, NoPartition, NoVolume, Always, IsHeldSince, Leaves, committing, marking}
use Rattle.lvm_volume_plan.specs.passed.Session.{is_among}
use Rattle.lvm_volume_plan.specs.Faults.{IfOn, command_answer}
use Rattle.lvm_volume_plan.proofs.passed.Core.{pp_is}
use Rattle.lvm_volumes.specs.Endings.{StillHeld, KeepsFresh}
use Rattle.lvm_volumes.specs.Stages.{CommandBroke}
use Rattle.lvm_volumes.proofs.StagesLemmas.Breaking.{broken, broken_since, stopped}
use Rattle.lvm_volumes.proofs.StagesLemmas.Entering.{many_bound, commit_still}
use Rattle.lvm_volumes.proofs.EndingsLemmas.Fresh.{not_stale, keeps_all, keeps_then}
use Rattle.lvm_volumes.proofs.EndingsLemmas.Holding.{still_by, still_then}
use Rattle.lvm_volumes.proofs.Leaving.{leaves_wider, leaves_joined}
use Rattle.lvm_volumes.proofs.SettlingLemmas.{itself, is_used}
use Rattle.lvm_volume_plan.specs.Copies.{with_map, with_copies, further_copies}
use Rattle.lvm_volume_plan.specs.PlannedCopies.{ArePlanned}
use Rattle.lvm_volume_plan.proofs.CopiesLemmas.More as more
use Rattle.lvm_volumes.specs.MirrorStages.{adding, AddEnds}
use Rattle.lvm_volumes.proofs.JudgingLemmas.{copies_by, keeps_with}
use Rattle.lvm_volumes.proofs.MirrorSettlingLemmas.{none_left}
use Rattle.lvm_volumes.proofs.LawsOfVolumesLemmas.{more_serve, lets}
use Rattle.lvm_core.proofs.CommittingLemmas.Committing.{lets_one}

-- what is to be stale is marked
is_marked : (a b : Bool) → b ≡ true → IsTrue ((a || b) && true)
is_marked true b is = refl
is_marked false b is = ap (λ (t : Bool). t && true) is

-- what is stale with these marks was so before, or is among them
was_or_is : (a b : Bool) → IsTrue ((a || b) && true) → IsTrue a ⊎ IsTrue b
was_or_is true b is = inl refl
was_or_is false true is = inr refl
was_or_is false false is = absurd (false≢true is)

module _ (lv copies : ℕ) (added : List Pp) (next : Descriptor) (a : State) (settled : IsSettled a.core) (planned : ArePlanned lv copies a.core added next) where
  abbrev d : Descriptor
  d = a.core.descriptor

  abbrev further : List Pp
  further = further_copies (with_map planned.row copies planned.pps) planned.row.copies

  abbrev its : Descriptor
  its = with_copies d lv copies planned.pps

  -- ---- the partitions are of no volume

  unused : AreUnused d further
  unused k e lt = (
    more.places_of d (is_there a.core) lv copies planned.row planned.pps planned.group.valid planned.may.places.grows.found.volume planned.may.places.grows.are.more planned.may.places.placed k e lt,
    more.free_of d (is_there a.core) lv copies planned.row planned.pps planned.group.valid planned.may.places.grows.found.volume planned.may.places.grows.are.more planned.may.places.placed k e lt,
  )

  pub added_unused : AreUnused d (added ++ [])
  added_unused = subst (AreUnused d) (sym planned.added_is ∙ sym (append-nil added)) unused

  -- none of them is a copy
  not_copy : (row : LvRow) (lp : ℕ) (p : Pp) → IsOneOf d.lvs row → IsOneOf (copies_of row lp) p → IsTrue (is_among added p) → ⊥
  not_copy row lp p volume one inside =
      let q = any_one (is_pp p) added inside in
      let at = contains added q.0 q.1 in
      (subst (λ (x : Pp). IsFree d x) (sym (pp_is p q.0 q.2)) (All-contains (IsFree d) added q.0 (λ k e lt. subst (All (IsFree d)) (sym planned.added_is) (λ k e lt. (unused k e lt).1) k e lt) at))
      (is_used d row lp p volume one)

  -- ---- the status with stale marks

  module _ (p q : ℕ) (b : State) (leaves : Leaves (marking added []) p q a b) where
    among : (n : ℕ) → 1 ≤ n → Leaves (adding added next n) p q a b
    among n le = leaves_wider (marking added []) (adding added next n) (λ x none. absurd none) (λ pp none. none) (λ pp is. is) (λ pp is. absurd (let lt = is.1 in omega (arith, lt))) (λ lv none. none) le p q a b (λ run first held only. tt) leaves

    pub mark_break_leaves : Leaves (adding added next 2) p q a b
    mark_break_leaves = among 2 (omega arith)

    pub mark_break : (why : CommitFault) → MarkEnds p a b (Err why) → AddEnds added next p a b (Err why)
    mark_break why ends = broken (HasStated a.core.descriptor a b) p a b settled why ends

    module _ (done : HasStated a.core.descriptor a b) (marks : Restates added [] a b) where
      same : b.core.descriptor ≡ a.core.descriptor
      same = ap (λ (x : Core). x.descriptor) done.is

      pub mark_still : StillHeld a b
      mark_still = still_by (marking added []) p q a b leaves (λ k none. absurd none) (ap (λ (x : Descriptor). x.id) same) (λ n. ap (λ (g : Descriptor). is_member g n) same) (ap (λ (x : Core). x.cache) done.is)
          done.held (λ none. subst (λ (x : Descriptor). NoneIsLeft x b.core.status) (sym same) (marks.none none))

      -- the copies are as fresh as they were
      mark_keeps : KeepsFresh a b
      mark_keeps = keeps_all d a b same (λ row other lp at x. one_place d row other lp at x planned.group.valid)
          (λ row lp x volume one stale. ⊎_elim
          (λ marked. ⊎_elim (λ was. inl was) (λ inside. absurd (not_copy row lp x volume one inside)) (was_or_is (calls_stale a.core.status.wanted x) (is_among added x) marked))
          (λ passed. inr passed)
          (marks.only x stale)) refl

      -- ---- what the commit needs

      pub mid_numbers : HasSpareNumbers b.core
      mid_numbers =
          let status = leaves.status.group ∙ planned.group.status in
          let first = many_bound a.core planned.group.valid planned.group.status in
          let last : many_there b.core.status ≤ 128 = many_bound (record b.core { descriptor = d }) planned.group.valid status in
          omega (arith, leaves.numbers.most, first, last, planned.may.room.numbers)

      pub mid_alike : IsAlike next b.core.descriptor
      mid_alike = ap (λ (x : Descriptor). record x { lvs = [] }) planned.is ∙ ap (λ (x : Descriptor). record x { lvs = [] }) (sym same)

      stale_now : All (λ (pp : Pp). IsTrue (calls_stale b.core.status.wanted pp)) added
      stale_now k e lt = marks.kept (get_or added k e) (is_marked (calls_stale a.core.status.wanted (get_or added k e)) (is_among added (get_or added k e)) (list_any_at (λ (x : Pp). is_pp (get_or added k e) x) added k e lt (itself (get_or added k e))))

      further_stale : All (λ (pp : Pp). IsTrue (calls_stale b.core.status.wanted pp)) further
      further_stale = subst (All (λ (pp : Pp). IsTrue (calls_stale b.core.status.wanted pp))) planned.added_is stale_now

      -- the descriptor may be committed
      lets_add : (run : ℕ) (first : Moment) → IsHeldSince run first b → LetsCommit lv next run first b
      lets_add = lets b lv next done.settled.votes (λ m facts told shows kept.
          subst (λ (x : Descriptor). VolumeServes (contents_of (image_of b.device.sizes m)) facts b.core.descriptor lv x) (sym planned.is)
          (by_same b.core.descriptor (sym same) m facts done.settled.votes shows kept))
        where
          by_same : (g : Descriptor) → d ≡ g → (m : Media) (facts : List Fact) → CanWrite g (is_there b.core)
              → ShowsCommitted (contents_of (image_of b.device.sizes m)) g b.core.status.committed (is_there b.core)
              → Kept (contents_of (image_of b.device.sizes m)) facts
              → VolumeServes (contents_of (image_of b.device.sizes m)) facts g lv its
          by_same g is m facts = subst
              (λ (g : Descriptor). CanWrite g (is_there b.core)
              → ShowsCommitted (contents_of (image_of b.device.sizes m)) g b.core.status.committed (is_there b.core)
              → Kept (contents_of (image_of b.device.sizes m)) facts
              → VolumeServes (contents_of (image_of b.device.sizes m)) facts g lv its)
              is (λ votes shows kept. more_serve d lv copies planned.row planned.group.valid planned.may.places.grows.found.volume (contents_of (image_of b.device.sizes m)) b.core.status.committed (is_there b.core) facts
              (images_within (image_of b.device.sizes m)) votes shows kept (is_there a.core) planned.pps planned.may.places.grows.are.more planned.may.places.placed
              (subst (λ (s : Status). All (λ (pp : Pp). IsTrue (calls_stale s pp)) further) (sym done.settled.committed) further_stale))

      -- none of the copies is left behind
      none_named : NoneIsLeft b.core.descriptor b.core.status → NoneIsLeft next b.core.status
      none_named none = subst (λ (x : Descriptor). NoneIsLeft x b.core.status) (sym planned.is)
          (none_left d lv copies planned.row planned.pps b.core.status planned.group.valid planned.may.places.grows.found.volume
          (λ lp p one. ⊎_elim (λ old. inl old) (λ new. inr (All-contains (λ (pp : Pp). IsTrue (calls_stale b.core.status.wanted pp)) further p further_stale new))
          (more.old_or_further d (is_there a.core) lv copies planned.row planned.pps planned.group.valid planned.may.places.grows.found.volume planned.may.places.grows.are.more planned.may.places.placed lp p one))
          (subst (λ (x : Descriptor). NoneIsLeft x b.core.status) same none))

      -- ---- the commit

      module _ (r : ℕ) (c : State) (commits : Leaves (committing next) q r b c) (left : MarksLeft next b.core.status c.core.status) where
        pub all_leaves : Leaves (adding added next 2) p r a c
        all_leaves = leaves_joined (λ x. x ≡ next) NoPartition (Contains added) NoVolume Always Always Always 1 1 p q r a b c (inl same) (ap (λ (x : Descriptor). x.mib) same) (λ n. ap (λ (x : Descriptor). is_member x n) same)
            (among 1 (omega arith)) mark_still.held
            (leaves_wider (committing next) (adding added next 1) (λ x is. is) (λ pp none. none) (λ pp none. absurd none) (λ pp none. none) (λ lv none. none) (omega arith) q r b c (λ run first held only. ((λ n. n == lv), lets_one lv next run first b (lets_add run first held))) commits)
            (λ run first held only span.
            let after : IsHeldSince run first b = λ past begins. mark_still.held (held past begins) in
            commits.spans run first after ((λ n. n == lv), lets_one lv next run first b (lets_add run first after)) (leaves.spans run first held tt span))

        pub all_still : (x : Result (Unit {0}) CommitFault) → CommitEnds next q b c x → IfOn (command_answer x) (StillHeld a c)
        all_still (Ok _) ends = still_then a b c mark_still (commit_still next q r b c commits left ends.stated (ap (λ (x : Descriptor). x.id) planned.is ∙ sym (ap (λ (x : Descriptor). x.id) same))
            (λ n. ap (λ (x : Descriptor). is_member x n) planned.is ∙ sym (ap (λ (x : Descriptor). is_member x n) same)) none_named)
        all_still (Err why) ends = stopped (HasCommitted next b c) (StillHeld a c) q b c why ends

        volume_mid : volume_of b.core.descriptor lv ≡ Some planned.row
        volume_mid = ap (λ (x : Descriptor). volume_of x lv) same ∙ planned.may.places.grows.found.volume

        -- and stay so with the others
        commit_keeps : HasCommitted next b c → KeepsFresh b c
        commit_keeps done = keeps_with lv copies planned.row planned.pps b c volume_mid next (planned.is ∙ ap (λ (x : Descriptor). with_copies x lv copies planned.pps) (sym same)) (ap (λ (x : Core). x.descriptor) done.stated.is) planned.valid left
            (λ lp lt has.
            let q = any_one (λ (x : Pp). not (is_wanted_stale b.core x)) (copies_in b.core.descriptor lv lp) has in
            let old : IsOneOf (copies_of planned.row lp) q.0 = subst (λ (ps : List Pp). IsOneOf ps q.0) (copies_by b.core.descriptor lv lp planned.row volume_mid) q.1 in
            (q.0, more.old_copies d (is_there a.core) lv copies planned.row planned.pps planned.group.valid planned.may.places.grows.found.volume planned.may.places.grows.are.more planned.may.places.placed lp q.0 lt old, not_stale (is_wanted_stale b.core q.0) q.2))

        pub all_keeps : (x : Result (Unit {0}) CommitFault) → CommitEnds next q b c x → IfOn (command_answer x) (KeepsFresh a c)
        all_keeps (Ok _) ends = keeps_then a b c same mark_keeps (commit_keeps ends)
        all_keeps (Err why) ends = stopped (HasCommitted next b c) (KeepsFresh a c) q b c why ends

        pub all_ends : (x : Result (Unit {0}) CommitFault) → CommitEnds next q b c x → AddEnds added next p a c x
        all_ends (Ok _) ends = record {
          settled = ends.stated.settled;
          is = ends.stated.is ∙ ap (λ (x : Core). record x { descriptor = next; status = c.core.status; homes = c.core.homes }) done.is;
          stale = subst (λ (s : Status). All (λ (pp : Pp). IsTrue (calls_stale s pp)) added) (sym ends.stated.settled.committed) (λ k e lt. commits.status.stale (get_or added k e) (λ none. none) (stale_now k e lt));
          ready = ends.stated.ready;
          cuts = ends.stated.cuts ∙ done.cuts;
        }
        all_ends (Err why) ends = broken_since (marking added []) p q a.core.history a.core.history a b c leaves done.is done.cuts why
            (subst (λ (l : Log). CommandBroke l q b c why) (ap (λ (x : Core). x.history) done.is) (broken (HasCommitted next b c) q b c done.settled why ends))
