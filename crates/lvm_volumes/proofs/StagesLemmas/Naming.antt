-- A volume is made: its entries, and the descriptor with it, once its partitions are fresh zeros.
use Rattle.std.proofs.Common.{◌≡◌, inl, inr, ℕ, zero, suc, ◌+◌, ◌*◌, ◌<◌, ◌≤◌, Bool, true, false, List, [], ◌∷◌, ◌++◌, append_assoc, Option, Some, None, Result, Ok, Err, length, get_or, refl, sym, ap, subst, ◌∙◌, arith}
use Rattle.std.specs.Prelude.{IsTrue, IsFalse, IfSome, All, Contains, is_some, find, slice_set, ◌==◌, if◌then◌else◌}
use Rattle.std.specs.Option.{option_map_or}
use Rattle.std.proofs.lemmas.Bool.{eqb-true}
use Rattle.std.proofs.lemmas.List.Elements.{All-contains}
use Rattle.lvm_num.specs.declared.place.Pp.{Pp}
use Rattle.lvm_num.specs.declared.record.Kind.{Kind}
use Rattle.lvm_num.specs.declared.record.Kind.TheVariants as kind
use Rattle.lvm_num.specs.declared.descriptor.LvRow.{LvRow}
use Rattle.lvm_num.specs.declared.descriptor.PvRow.{PvRow}
use Rattle.lvm_num.specs.declared.descriptor.Descriptor.{Descriptor}
use Rattle.lvm_num.specs.declared.status.Status.{Status}
use Rattle.lvm_num.specs.Buffer.{Sector, zero_sector}
use Rattle.lvm_num.specs.Geometry.{data_start, volume_blocks}
use Rattle.lvm_num.specs.Record.{record_sectors, slot_start, longest_content}
use Rattle.lvm_num.specs.Descriptor.{IsMember, copies_of, is_member, volume_of}
use Rattle.lvm_num.specs.Status.{calls_stale}
use Rattle.lvm_num.specs.Votes.{CanWrite}
use Rattle.lvm_disk.specs.Device.{Media, image_of}
use Rattle.lvm_vol.specs.Facts.{Fact, Making, Made}
use Rattle.lvm_vol.specs.Log.{Log, with_fact}
use Rattle.lvm_vol.specs.Standing.{Open, Volume, volumes_in}
use Rattle.lvm_kept.specs.Contents.{contents_of}
use Rattle.lvm_kept.specs.Group.{IsOneOf}
use Rattle.lvm_kept.specs.Kept.{Kept}
use Rattle.lvm_kept.specs.Moments.{Moment}
use Rattle.lvm_map.specs.FirstFit.{IsAllocated, new_volume}
use Rattle.lvm_steps.specs.Committing.{DiffersInVolume}
use Rattle.lvm_steps.proofs.MakingLemmas.Making.{media_may}
use Rattle.lvm_status.specs.Update.{members_there}
use Rattle.lvm_volume_plan.specs.passed.Commit.{ShowsCommitted, HoldsCommitted, IsSectorOf, VolumeServes, NoneIsLeft, MarksLeft}
use Rattle.lvm_volume_plan.specs.passed.Core.{CommitFault, IsSettled, LetsCommit, HasStated, HasCommitted, CommitEnds, NoDescriptor, NoPartition, IsHeldSince, IsOfCommand, Leaves, committing}
use Rattle.lvm_volume_plan.proofs.passed.Commit.{contains, of_map, volume_begins_in_session, volume_is_made_in_session}
use Rattle.lvm_volume_plan.proofs.passed.Core.{enters_one}
use Rattle.lvm_volume_plan.specs.passed.CoreFaultCommitFault as commit
use Rattle.lvm_session.specs.Judging.{copies_in}
use Rattle.lvm_session.specs.State.{Core, State, is_there}
use Rattle.lvm_volumes.specs.Endings.{StillHeld, KeepsFresh, commanding}
use Rattle.lvm_volumes.specs.Stages.{CommandBroke, with_entry, ClosesBy, CommitsBetween, AreUnusedOn, AreCleared, ClearEnds, making_of, IsNamed, MakeEnds}
use Rattle.lvm_volumes.specs.Volumes.{AreZeroed}
use Rattle.lvm_map.proofs.PlacesLemmas.{mib_positive}
use Rattle.lvm_volumes.proofs.Leaving.{leaves_wider, leaves_then}
use Rattle.lvm_volumes.proofs.SettlingLemmas.{none_with, fresh_with}
use Rattle.lvm_volumes.proofs.StagesLemmas.Breaking.{broken, broken_since, stopped}
use Rattle.lvm_volumes.proofs.EndingsLemmas.Fresh.{HasOnePlaceEach, one_place_with, one_stays, keeps_others, keeps_then}
use Rattle.lvm_volumes.proofs.EndingsLemmas.Holding.{still_then}
use Rattle.lvm_volumes.proofs.StagesLemmas.Zeros.{zeros_stay}
use Rattle.lvm_volumes.proofs.DescriptorLemmas.{places_of, usable_of, free_of, once_of}
use Rattle.lvm_volumes.proofs.StandingLemmas.{making_open, new_serves}
use Rattle.lvm_volumes.proofs.StagesLemmas.Entering.{settled_entered, entry_leaves, entry_still, commit_among, commit_still, leaves_committed}
use Rattle.lvm_volume_plan.specs.declared.new_volume.NewVolume.{NewVolume}
use Rattle.lvm_volume_plan.specs.declared.new_volume.VolumePlan.{VolumePlan}
use Rattle.lvm_volume_plan.specs.NewVolume.{row_for, with_volume}
use Rattle.lvm_volume_plan.specs.PlannedVolume.{IsPlannedVolume}
use Rattle.lvm_volume_plan.specs.Faults.{IfOn, command_answer}
use Rattle.lvm_volume_plan.proofs.NewVolumeLemmas.NewDescriptor.{named_with, differs_with}

-- ---- records stand below the data

record_low : (kind : Kind) (slot part len s : ℕ) → slot < 2 → len ≤ longest_content kind → part < record_sectors len → s ≡ slot_start kind slot + part → s < data_start
record_low kind.Descriptor zero part len s two fits inside place = omega (arith, fits, inside, place)
record_low kind.Descriptor (suc zero) part len s two fits inside place = omega (arith, fits, inside, place)
record_low kind.Descriptor (suc (suc slot)) part len s two fits inside place = absurd (omega (arith, two))
record_low kind.Status zero part len s two fits inside place = omega (arith, fits, inside, place)
record_low kind.Status (suc zero) part len s two fits inside place = omega (arith, fits, inside, place)
record_low kind.Status (suc (suc slot)) part len s two fits inside place = absurd (omega (arith, two))

-- ---- the plan's partitions

disk_of : (rows : List PvRow) (disk : ℕ) (row : PvRow) → All IsMember rows → find (λ (r : PvRow). r.disk == disk) rows ≡ Some row → disk < 128
disk_of [] disk row all is = absurd cc
disk_of (r ∷ rows) disk row all is = by_test (r.disk == disk) refl (disk_of rows disk row (λ k e lt. all (suc k) e (omega (arith, lt)))) is
  where
    by_test : (t : Bool) → (r.disk == disk) ≡ t → (find (λ (x : PvRow). x.disk == disk) rows ≡ Some row → disk < 128) → (if t then Some r else find (λ (x : PvRow). x.disk == disk) rows) ≡ Some row → disk < 128
    by_test true test rest is = subst (λ (n : ℕ). n < 128) (eqb-true r.disk disk test) (all 0 r (omega arith)).disk
    by_test false test rest is = rest is

module _ (v : NewVolume) (plan : VolumePlan) (a : State) (settled : IsSettled a.core) (planned : IsPlannedVolume v a.core plan) where
  some : 1 ≤ v.copies
  some = planned.may.places.numbered.counted.copies.0

  placed : IsAllocated a.core.descriptor (is_there a.core) (new_volume v.lps v.copies) plan.map
  placed = planned.may.places.placed

  pub plan_unused : AreUnusedOn a.core plan.map
  plan_unused = record {
    there = usable_of a.core.descriptor (is_there a.core) v.lps v.copies plan.map planned.group.valid placed;
    free = free_of a.core.descriptor (is_there a.core) v.lps v.copies plan.map planned.group.valid placed;
    places = places_of a.core.descriptor (is_there a.core) v.lps v.copies plan.map planned.group.valid placed;
    disks = λ k e lt. let place = places_of a.core.descriptor (is_there a.core) v.lps v.copies plan.map planned.group.valid placed k e lt in
        disk_of a.core.descriptor.pvs (get_or plan.map k e).disk place.0 planned.group.valid.members.each place.1;
    once = once_of a.core.descriptor (is_there a.core) v.lps v.copies plan.map planned.group.valid placed;
  }

  abbrev N : Descriptor → Type 0
  N d = d ≡ plan.next

  abbrev Z : Pp → Type 0
  Z = Contains plan.map

  abbrev f : Fact
  f = Making plan.number plan.blocks plan.mode

  module _ (p q : ℕ) (b : State) (clear_leaves : Leaves (commanding NoDescriptor Z 1) p q a b) where
    -- a stage that commits no descriptor
    as_named : (n : ℕ) → 1 ≤ n → Leaves (commanding N Z n) p q a b
    as_named n le = leaves_wider (commanding NoDescriptor Z 1) (commanding N Z n) (λ d none. absurd none) (λ pp its. its) (λ pp none. none) (λ pp its. its) (λ lv none. none) le p q a b (λ run first held only. only) clear_leaves

    pub clear_break_leaves : Leaves (commanding N Z 2) p q a b
    clear_break_leaves = as_named 2 (omega arith)

    -- where the partitions weren't cleared
    pub clear_break : (why : CommitFault) → ClearEnds plan.map p a b (Err why) → MakeEnds plan p a b (Err why)
    clear_break (commit.WentOff have total) ends = record { entered = a.core.history; so_far = inl refl; ends = ends }
    clear_break commit.Dark ends = record { entered = a.core.history; so_far = inl refl; ends = ends }
    clear_break commit.Stuck ends = record { entered = a.core.history; so_far = inl refl; ends = ends }
    clear_break (commit.DiskFailed disk) ends = ends

    module _ (cleared : AreCleared plan.map a b) (still : StillHeld a b) where
      same : b.core.descriptor ≡ a.core.descriptor
      same = ap (λ (x : Core). x.descriptor) cleared.is

      same_history : b.core.history ≡ a.core.history
      same_history = ap (λ (x : Core). x.history) cleared.is

      abbrev pub begun : State
      begun = with_entry b f

      is_making : begun.core.history ≡ making_of plan a
      is_making = ap (λ (l : Log). with_fact l f) same_history

      still_begun : StillHeld a begun
      still_begun = still_then a b begun still (entry_still b f)

      -- the volume may be in the making
      begun_leaves : Leaves (commanding N Z 1) p q a begun
      begun_leaves = leaves_then N Z 1 0 p q q a b begun (inl same) (ap (λ (d : Descriptor). d.mib) same) (λ d. ap (λ (x : Descriptor). is_member x d) same) (as_named 1 (omega arith)) still
          (entry_leaves N Z q b f (λ moment. tt) tt (λ run first held only span.
          volume_begins_in_session run first b.device b.core.history.facts b.core.descriptor b.core.status.committed (is_there b.core) plan.number plan.blocks plan.mode span cleared.settled.votes
          (leaves_committed b cleared.ready run first held (only (enters_one b.core.history.facts f refl))) (subst (λ (d : Descriptor). volume_of d plan.number ≡ None) (sym same) planned.lowest.free)))

      -- and the descriptor with it may be committed
      same_f : f ≡ Making plan.number (volume_blocks a.core.descriptor.mib v.lps) v.mode
      same_f = λ t. Making plan.number (planned.blocks t) (planned.mode t)

      whole : length plan.map ≡ v.lps * v.copies
      whole = placed.whole

      lets_make : (run : ℕ) (first : Moment) → IsHeldSince run first b → LetsCommit plan.number plan.next run first begun
      lets_make run first held past begins holds = by_media b.device.media refl (held past begins)
        where
          serves : (m : Media) → b.device.media ≡ Some m → HoldsCommitted (image_of b.device.sizes m) b.core.descriptor b.core.status.committed (is_there b.core) b.core.status.stamp b.core.homes
              → VolumeServes (contents_of (image_of b.device.sizes m)) (past ++ (b.core.history.facts ++ f ∷ [])) b.core.descriptor plan.number plan.next
          serves m told shown =
              let d : Descriptor = a.core.descriptor in
              let made : Fact = Making plan.number (volume_blocks a.core.descriptor.mib v.lps) v.mode in
              let facts : List Fact = past ++ b.core.history.facts in
              let grouped : past ++ (b.core.history.facts ++ f ∷ []) ≡ facts ++ made ∷ [] = sym (append_assoc past b.core.history.facts (f ∷ [])) ∙ ap (λ (x : Fact). facts ++ x ∷ []) same_f in
              let kept : Kept (contents_of (image_of b.device.sizes m)) (facts ++ made ∷ []) =
              subst (λ (l : List Fact). Kept (contents_of (image_of b.device.sizes m)) l) grouped (holds.kept (image_of b.device.sizes m) (media_may b.device m told)) in
              let shows : ShowsCommitted (contents_of (image_of b.device.sizes m)) d b.core.status.committed (is_there b.core) =
              subst (λ (x : Descriptor). ShowsCommitted (contents_of (image_of b.device.sizes m)) x b.core.status.committed (is_there b.core)) same shown.shows in
              let enough : CanWrite d (is_there b.core) = subst (λ (x : Descriptor). CanWrite x (is_there b.core)) same cleared.settled.votes in
              let zeros : All (λ (pp : Pp). (disk s : ℕ) → IsSectorOf d.mib pp disk s → m disk s ≡ zero_sector) plan.map = λ k e lt.
              subst (λ (o : Option Media). IfSome o (λ media. (disk s : ℕ) → IsSectorOf d.mib (get_or plan.map k e) disk s → media disk s ≡ zero_sector)) told (cleared.zeros k e lt) in
              let all : VolumeServes (contents_of (image_of b.device.sizes m)) (facts ++ made ∷ []) d plan.number (with_volume d (row_for v plan.number plan.map)) =
              new_serves v plan.number plan.map d planned.lowest planned.order planned.group.valid (mib_positive d planned.group.valid) some whole
              m b.device.sizes facts b.core.status.committed (is_there b.core) enough shows kept zeros cleared.there cleared.fresh in
              subst (λ (x : Descriptor). VolumeServes (contents_of (image_of b.device.sizes m)) (past ++ (b.core.history.facts ++ f ∷ [])) x plan.number plan.next) (sym same)
              (subst (λ (x : Descriptor). VolumeServes (contents_of (image_of b.device.sizes m)) (past ++ (b.core.history.facts ++ f ∷ [])) d plan.number x) (sym planned.next)
              (subst (λ (l : List Fact). VolumeServes (contents_of (image_of b.device.sizes m)) l d plan.number (with_volume d (row_for v plan.number plan.map))) (sym grouped) all))

          by_media : (o : Option Media) → b.device.media ≡ o → IfSome o (λ media. HoldsCommitted (image_of b.device.sizes media) b.core.descriptor b.core.status.committed (is_there b.core) b.core.status.stamp b.core.homes)
              → IfSome o (λ media. VolumeServes (contents_of (image_of b.device.sizes media)) (past ++ (b.core.history.facts ++ f ∷ [])) b.core.descriptor plan.number plan.next)
          by_media None told shown = tt
          by_media (Some m) told shown = serves m told shown

      -- none of its copies is left behind
      none_named : NoneIsLeft begun.core.descriptor begun.core.status → NoneIsLeft plan.next begun.core.status
      none_named none = subst (λ (d : Descriptor). NoneIsLeft d b.core.status) (sym planned.next)
          (none_with a.core.descriptor v plan.number plan.map b.core.status (λ k e lt. subst (λ (g : Descriptor). IsTrue (members_there g b.core.status.wanted (get_or plan.map k e).disk)) (sym (clear_leaves.status.group ∙ planned.group.status))
          (subst (λ (d : Descriptor). IsTrue (members_there d b.core.status.wanted (get_or plan.map k e).disk)) same (cleared.there k e lt)))
          (subst (λ (d : Descriptor). NoneIsLeft d b.core.status) same none))

      -- ---- the commit

      module _ (r : ℕ) (c : State) (leaves : Leaves (committing plan.next) q r begun c) (left : MarksLeft plan.next b.core.status c.core.status) where
        break_leaves : Leaves (commanding N Z 2) p r a c
        break_leaves = leaves_then N Z 1 1 p q r a begun c (inl same) (ap (λ (d : Descriptor). d.mib) same) (λ d. ap (λ (x : Descriptor). is_member x d) same) begun_leaves still_begun
            (commit_among N Z plan.next refl q r begun c leaves plan.number lets_make)

        low : (d s : ℕ) (value : Sector) → IsOfCommand (λ x. x ≡ plan.next) NoPartition begun c d s value → s < data_start
        low d s value (inl is) = let w = is.0 in record_low w.kind (w.slots d) is.2.its.its.part (length w.framed.content) s (is.2.slots d) is.2.frames.content is.2.its.its.inside is.2.its.its.place
        low d s value (inr (inl of)) = let is = of.2 in let w = is.0 in record_low w.kind (w.slots d) is.2.its.its.part (length w.framed.content) s (is.2.slots d) is.2.frames.content is.2.its.its.inside is.2.its.its.place
        low d s value (inr (inr of)) = absurd of.1

        zeros_then : AreZeroed a.core.descriptor.mib plan.map c.device
        zeros_then k e lt = zeros_stay (is_there b.core) (IsOfCommand (λ x. x ≡ plan.next) NoPartition begun c) a.core.descriptor.mib (get_or plan.map k e) b.device c.device
            (λ d s value brought inside. absurd (let below = low d s value brought in let above = inside.low in omega (arith, below, above))) leaves.writes (cleared.zeros k e lt)

        -- where it failed
        since : (why : CommitFault) → CommitEnds plan.next q begun c (Err why) → CommandBroke (making_of plan a) p a c why
        since why ends = broken_since (commanding N Z 1) p q (making_of plan a) begun.core.history a begun c begun_leaves (ap (λ (x : Core). record x { history = begun.core.history }) cleared.is) cleared.cuts why
            (subst (λ (l : Log). CommandBroke l q begun c why) is_making (broken (HasCommitted plan.next begun c) q begun c (settled_entered b f cleared.settled) why ends))

        commit_break : (why : CommitFault) → CommitEnds plan.next q begun c (Err why) → MakeEnds plan p a c (Err why)
        commit_break (commit.WentOff have total) ends = record { entered = making_of plan a; so_far = inr (refl, zeros_then); ends = since (commit.WentOff have total) ends }
        commit_break commit.Dark ends = record { entered = making_of plan a; so_far = inr (refl, zeros_then); ends = since commit.Dark ends }
        commit_break commit.Stuck ends = record { entered = making_of plan a; so_far = inr (refl, zeros_then); ends = since commit.Stuck ends }
        commit_break (commit.DiskFailed disk) ends = absurd ends

        -- where it was committed
        module _ (committed : HasCommitted plan.next begun c) where
          done : HasStated plan.next begun c
          done = committed.stated

          abbrev made : State
          made = with_entry c (Made plan.number)

          named : c.core.descriptor ≡ with_volume a.core.descriptor (row_for v plan.number plan.map)
          named = ap (λ (x : Core). x.descriptor) done.is ∙ planned.next

          there_now : IsTrue (is_some (volume_of c.core.descriptor plan.number))
          there_now = ap is_some (ap (λ (d : Descriptor). volume_of d plan.number) named ∙ named_with a.core.descriptor v plan.number plan.map planned.group.valid planned.lowest planned.order)

          facts_now : c.core.history.facts ≡ b.core.history.facts ++ f ∷ []
          facts_now = ap (λ (x : Core). x.history.facts) done.is

          is_open : (past : List Fact) → (volumes_in (past ++ c.core.history.facts) plan.number).standing ≡ Open
          is_open past =
              ap (λ (l : List Fact). (volumes_in l plan.number).standing) (ap (λ (l : List Fact). past ++ l) facts_now ∙ sym (append_assoc past b.core.history.facts (f ∷ [])))
              ∙ ap (λ (x : Volume). x.standing) (making_open (past ++ b.core.history.facts) plan.number plan.blocks plan.mode)

          ends_leaves : Leaves (commanding N Z 0) r r c made
          ends_leaves = entry_leaves N Z r c (Made plan.number) (λ moment. tt) tt (λ run first held only span.
              volume_is_made_in_session run first c.device c.core.history.facts c.core.descriptor c.core.status.committed (is_there c.core) plan.number span done.settled.votes
              (leaves_committed c done.ready run first held (only (enters_one c.core.history.facts (Made plan.number) refl))) there_now is_open)

          still_all : StillHeld a c
          still_all = still_then a begun c still_begun
              (commit_still plan.next q r begun c leaves left done (ap (λ (d : Descriptor). d.id) planned.next ∙ sym (ap (λ (d : Descriptor). d.id) same))
              (λ d. ap (λ (x : Descriptor). is_member x d) planned.next ∙ sym (ap (λ (x : Descriptor). is_member x d) same)) none_named)

          made_leaves : Leaves (commanding N Z 2) p r a made
          made_leaves = leaves_then N Z 2 0 p r r a c made (inr (ap (λ (x : Core). x.descriptor) done.is)) (ap (λ (d : Descriptor). d.mib) named) (λ d. ap (λ (x : Descriptor). is_member x d) named) break_leaves still_all ends_leaves

          made_still : StillHeld a made
          made_still = still_then a c made still_all (entry_still c (Made plan.number))

          made_named : IsNamed plan a made
          made_named = record {
            settled = settled_entered c (Made plan.number) done.settled;
            is = ap (λ (x : Core). record x { history = with_fact x.history (Made plan.number); last = slice_set x.last plan.number 0 }) done.is
                ∙ ap (λ (x : Core). record x { descriptor = plan.next; history = with_fact (with_fact x.history f) (Made plan.number); last = slice_set x.last plan.number 0; status = c.core.status; homes = c.core.homes }) cleared.is;
            fresh = subst (λ (s : Status). All (λ (pp : Pp). IsTrue (is_there c.core pp.disk) → IsFalse (calls_stale s pp)) plan.map) (sym done.settled.committed)
                (λ k e lt here. fresh_with a.core.descriptor v plan.number plan.map b.core.status c.core.status (subst (λ (s : Status). All (λ (pp : Pp). IsFalse (calls_stale s pp)) plan.map) cleared.settled.committed cleared.fresh)
                (subst (λ (d : Descriptor). MarksLeft d b.core.status c.core.status) planned.next left) k e lt
                (subst (λ (g : Descriptor). IsTrue (members_there g c.core.status.wanted (get_or plan.map k e).disk)) (sym (leaves.status.group ∙ clear_leaves.status.group ∙ planned.group.status))
                (subst (λ (d : Descriptor). IsTrue (members_there d c.core.status.wanted (get_or plan.map k e).disk)) named here)));
            zeros = zeros_then;
            ready = done.ready;
            cuts = done.cuts ∙ cleared.cuts;
          }

        -- its partitions are fresh, and each other volume is as it was
        module _ (done : HasStated plan.next begun c) where
          named_now : volume_of plan.next plan.number ≡ Some (row_for v plan.number plan.map)
          named_now = ap (λ (d : Descriptor). volume_of d plan.number) planned.next ∙ named_with a.core.descriptor v plan.number plan.map planned.group.valid planned.lowest planned.order

          fresh_begun : All (λ (pp : Pp). IsFalse (calls_stale b.core.status.wanted pp)) plan.map
          fresh_begun = subst (λ (s : Status). All (λ (pp : Pp). IsFalse (calls_stale s pp)) plan.map) cleared.settled.committed cleared.fresh

          its_copy_of : (lp : ℕ) (x : Pp) → IsOneOf (copies_in plan.next plan.number lp) x → Contains plan.map x
          its_copy_of lp x one = contains plan.map x (of_map (row_for v plan.number plan.map) lp x
              (subst (λ (o : Option LvRow). IsOneOf (option_map_or (λ (row : LvRow). copies_of row lp) o []) x) named_now one))

          differs_now : DiffersInVolume plan.number b.core.descriptor plan.next
          differs_now = subst (λ (d : Descriptor). DiffersInVolume plan.number d plan.next) (sym same)
              (subst (DiffersInVolume plan.number a.core.descriptor) (sym planned.next) (differs_with a.core.descriptor v plan.number plan.map planned.group.valid planned.lowest planned.order))

          places_now : HasOnePlaceEach plan.next
          places_now = subst HasOnePlaceEach (sym planned.next) (one_place_with a.core.descriptor v plan.number plan.map planned.group.valid plan_unused.free plan_unused.once)

          commit_keeps : KeepsFresh begun c
          commit_keeps = keeps_others plan.next begun c (ap (λ (x : Core). x.descriptor) done.is) places_now (λ row at y volume copy. left.only y) plan.number differs_now
              (λ lp x one how. one_stays plan.next begun c (ap (λ (x : Core). x.descriptor) done.is) places_now (λ row at y volume copy. left.only y) plan.number lp x one
              (All-contains (λ (pp : Pp). IsFalse (calls_stale b.core.status.wanted pp)) plan.map x fresh_begun (its_copy_of lp x one)))

        -- ---- both

        module _ (e : State) where
          ends_so : (x : Result (Unit {0}) CommitFault) → CommitEnds plan.next q begun c x → ClosesBy (Made plan.number) c e x → MakeEnds plan p a e x
          ends_so (Ok _) ends closes = subst (λ (y : State). IsNamed plan a y) (sym closes) (made_named ends)
          ends_so (Err why) ends closes = subst (λ (y : State). MakeEnds plan p a y (Err why)) (sym closes) (commit_break why ends)

          leaves_so : (x : Result (Unit {0}) CommitFault) → CommitEnds plan.next q begun c x → ClosesBy (Made plan.number) c e x → Leaves (commanding N Z 2) p r a e
          leaves_so (Ok _) ends closes = subst (λ (y : State). Leaves (commanding N Z 2) p r a y) (sym closes) (made_leaves ends)
          leaves_so (Err why) ends closes = subst (λ (y : State). Leaves (commanding N Z 2) p r a y) (sym closes) break_leaves

          keeps_so : KeepsFresh a b → (x : Result (Unit {0}) CommitFault) → CommitEnds plan.next q begun c x → ClosesBy (Made plan.number) c e x → IfOn (command_answer x) (KeepsFresh a e)
          keeps_so keeps (Ok _) ends closes = subst (λ (y : State). KeepsFresh a y) (sym closes) (keeps_then a b c same keeps (commit_keeps ends.stated))
          keeps_so keeps (Err why) ends closes = stopped (HasCommitted plan.next begun c) (KeepsFresh a e) q begun c why ends

          still_so : (x : Result (Unit {0}) CommitFault) → CommitEnds plan.next q begun c x → ClosesBy (Made plan.number) c e x → IfOn (command_answer x) (StillHeld a e)
          still_so (Ok _) ends closes = subst (λ (y : State). StillHeld a y) (sym closes) (made_still ends)
          still_so (Err why) ends closes = stopped (HasCommitted plan.next begun c) (StillHeld a e) q begun c why ends

      module _ (r : ℕ) (e : State) (x : Result (Unit {0}) CommitFault) (between : CommitsBetween f (Made plan.number) plan.next q r b e x) where
        pub make_ends : MakeEnds plan p a e x
        make_ends = ends_so r between.mid between.leaves between.left e x between.ends between.closes

        pub make_leaves : Leaves (commanding N Z 2) p r a e
        make_leaves = leaves_so r between.mid between.leaves between.left e x between.ends between.closes

        pub make_still : IfOn (command_answer x) (StillHeld a e)
        make_still = still_so r between.mid between.leaves between.left e x between.ends between.closes

        pub make_keeps : KeepsFresh a b → IfOn (command_answer x) (KeepsFresh a e)
        make_keeps keeps = keeps_so r between.mid between.leaves between.left e keeps x between.ends between.closes
