-- A volume is split: the entries, and the descriptor with both volumes between them.
use Rattle.std.proofs.Common.{◌≡◌, ◌⊎◌, inl, inr, ⊎_elim, ℕ, ◌+◌, Bool, List, [], ◌∷◌, ◌++◌, append_assoc, Option, Some, None, Result, Ok, Err, refl, sym, ap, subst, ◌∙◌, arith}
use Rattle.std.specs.Prelude.{IsTrue, IsFalse, Contains, is_some, slice_set}
use Rattle.std.proofs.lemmas.Bool.{cases_eq}
use Rattle.lvm_num.specs.declared.place.Pp.{Pp}
use Rattle.lvm_num.specs.declared.descriptor.LvRow.{LvRow}
use Rattle.lvm_num.specs.declared.descriptor.Descriptor.{Descriptor}
use Rattle.lvm_num.specs.declared.status.Status.{Status}
use Rattle.lvm_num.specs.Descriptor.{copies_of, is_member, volume_of}
use Rattle.lvm_num.specs.Status.{calls_dirty, calls_stale}
use Rattle.lvm_disk.proofs.PathsLemmas.{last-path}
use Rattle.lvm_disk.specs.Device.{Media, image_of}
use Rattle.lvm_disk.specs.Steps.{BothTold}
use Rattle.lvm_vol.specs.Facts.{Fact, Made, Split}
use Rattle.lvm_vol.specs.Log.{Log, with_fact}
use Rattle.lvm_vol.specs.Standing.{Open, Volume, volumes_in}
use Rattle.lvm_kept.specs.Contents.{contents_of}
use Rattle.lvm_kept.specs.Group.{IsOneOf}
use Rattle.lvm_kept.specs.Moments.{Moment}
use Rattle.lvm_steps.specs.Moments.{RunBegins, HistoryHolds, Keeps, Upholds}
use Rattle.lvm_parting.proofs.EntryLemmas.{stands_after_split}
use Rattle.lvm_commit.specs.Committed.{ShowsCommitted}
use Rattle.lvm_commit.specs.Settling.{IsPassedOver, MarksLeft, NoneIsLeft}
use Rattle.lvm_commit.proofs.AmongLemmas.{one_place}
use Rattle.lvm_commit.proofs.LawsOfVolumesLemmas.Volumes.{volume_is_made_in_session, volume_splits_in_session}
use Rattle.lvm_core.specs.Committing.{LetsCommitAmong, Redirties}
use Rattle.lvm_core.specs.Leaves.{EntersVolumes, dirtying}
use Rattle.lvm_core.proofs.LeavesLemmas.{enters_one}
use Rattle.lvm_session.specs.Judging.{copies_in}
use Rattle.lvm_session.specs.State.{Core, State, is_there, moment_of}
use Rattle.lvm_even.specs.Even.{IsEven}
use Rattle.lvm_write.proofs.WrittenLemmas.Writing.{told_at}
use Rattle.lvm_volume_plan.specs.passed.Core.{Always, CommitEnds, CommitFault, HasCommitted, HasStated, IsHeldSince, IsSettled, Leaves, NoPartition, committing}
use Rattle.lvm_volume_plan.specs.passed.CoreFaultCommitFault as commit
use Rattle.lvm_volume_plan.specs.Faults.{IfOn, command_answer}
use Rattle.lvm_volume_plan.specs.declared.split.SplitPlan.{SplitPlan}
use Rattle.lvm_volume_plan.specs.Split.{MayServeBoth}
use Rattle.lvm_volume_plan.specs.PlannedSplit.{IsPlannedSplit}
use Rattle.lvm_volumes.specs.Endings.{HasFresh, IfAlone, KeepsFresh, StillHeld, commanding}
use Rattle.lvm_volumes.specs.Stages.{ClosesBy, CommandBroke, CommitsBetween, with_entry}
use Rattle.lvm_volumes.proofs.EndingsLemmas.Fresh.{HasOnePlaceEach, keeps_then, no_copy, one_stays, volume_stays}
use Rattle.lvm_volumes.proofs.EndingsLemmas.Holding.{still_then}
use Rattle.lvm_volumes.proofs.JudgingLemmas.{copies_by}
use Rattle.lvm_volumes.proofs.Leaving.{leaves_joined, leaves_wider, scoped}
use Rattle.lvm_volumes.proofs.StagesLemmas.Breaking.{broken, broken_since, stopped}
use Rattle.lvm_volumes.proofs.StagesLemmas.Entering.{commit_still, entry_leaves, entry_still, leaves_committed, settled_entered}
use Rattle.lvm_parted.specs.Parted.{IsSplitInto}
use Rattle.lvm_split.specs.Premises.{IsClosedIn, IsEvenOn, MaySplitSince}
use Rattle.lvm_split.specs.Parting.{IsParted, PartEnds, parting, splitting}
use Rattle.lvm_split.proofs.SplittingLemmas.Copies as copies_
use Rattle.lvm_split.proofs.SplittingLemmas.Marking as marking_
use Rattle.lvm_split.proofs.SplittingLemmas.Marking.{IsMarkedBy}
use Rattle.lvm_split.proofs.SplittingLemmas.Serving.{are_two, lets_split, new, split_into, stays, volume}

-- the media was told before, as it is
told_before : (o n : Option Media) (R : Media → Media → Type 0) (m : Media) → BothTold o n R → n ≡ Some m → (w : Media) × (o ≡ Some w)
told_before None None R m both told = absurd (cc told)
told_before None (Some x) R m both told = absurd both
told_before (Some w) n R m both told = (w, refl)

module _ (name : List ℕ) (copies : ℕ) (plan : SplitPlan) (a : State) (settled : IsSettled a.core) (planned : IsPlannedSplit plan.from name copies a.core plan)
    (marked : List ℕ) (one : (n : ℕ) → Contains marked n → n ≡ plan.number)
    (p q : ℕ) (b : State) (leaves : Leaves (dirtying marked []) p q a b) (done : HasStated a.core.descriptor a b) (marks : Redirties marked [] a b)
    (serve : MayServeBoth b.core.status.committed planned.row copies) where
  abbrev d : Descriptor
  d = a.core.descriptor

  abbrev N : Descriptor → Type 0
  N x = x ≡ plan.next

  abbrev D : ℕ → Type 0
  D n = n ≡ plan.number

  abbrev f : Fact
  f = Split plan.from plan.number

  abbrev pub begun : State
  begun = with_entry b f

  same : b.core.descriptor ≡ d
  same = marking_.same name copies plan a settled planned marked one p q b leaves done marks

  same_history : b.core.history ≡ a.core.history
  same_history = marking_.same_history name copies plan a settled planned marked one p q b leaves done marks

  mark_still : StillHeld a b
  mark_still = marking_.mark_still name copies plan a settled planned marked one p q b leaves done marks

  mark_among : Leaves (scoped N NoPartition NoPartition D Always 1) p q a b
  mark_among = marking_.mark_among name copies plan a settled planned marked one p q b leaves

  group : b.core.status.group ≡ record d { lvs = [] }
  group = leaves.status.group ∙ planned.group.status

  -- ---- the entry

  unnamed : volume_of b.core.descriptor plan.number ≡ None
  unnamed = ap (λ (x : Descriptor). volume_of x plan.number) same ∙ planned.lowest.free

  entered : Leaves (commanding N NoPartition 0) q q b begun
  entered = entry_leaves N NoPartition q b f (λ moment. tt) tt (λ run first held only span.
      volume_splits_in_session run first b.device b.core.history.facts b.core.descriptor b.core.status.committed (is_there b.core) plan.from plan.number span done.settled.votes
      (leaves_committed b done.ready run first held (only (enters_one b.core.history.facts f refl))) unnamed)

  still_begun : StillHeld a begun
  still_begun = still_then a b begun mark_still (entry_still b f)

  -- with a premise on groups where the entry is made
  alone_at : (run : ℕ) (first : Moment) → IsHeldSince run first a → IfAlone a begun run first → IfAlone b begun run first
  alone_at run first held only enters past begins = mark_still.only (held past begins) (only (let before = leaves.history.volumes in omega (arith, before, enters)) past begins)

  begun_leaves : Leaves (scoped N NoPartition NoPartition D IfAlone 1) p q a begun
  begun_leaves = leaves_joined N NoPartition NoPartition D Always IfAlone IfAlone 1 0 p q q a b begun (inl same) (ap (λ (x : Descriptor). x.mib) same) (λ n. ap (λ (x : Descriptor). is_member x n) same) mark_among mark_still.held
      (leaves_wider (commanding N NoPartition 0) (scoped N NoPartition NoPartition D IfAlone 0) (λ x is. is) (λ pp none. none) (λ pp none. none) (λ pp none. none) (λ lv none. absurd none) (omega arith) q q b begun (λ run first held only. only) entered)
      (λ run first held only span. entered.spans run first (λ past begins. mark_still.held (held past begins)) (alone_at run first held only) (mark_among.spans run first held tt span))

  -- ---- what lets the descriptor be committed

  left_now : NoneIsLeft d a.core.status → NoneIsLeft b.core.descriptor b.core.status
  left_now none = mark_still.left none

  module _ (run : ℕ) (first : Moment) (held : IsHeldSince run first a) (left : NoneIsLeft d a.core.status) (even : (past : List Fact) → RunBegins run past first → IsEvenOn a)
      (closed : (past : List Fact) → RunBegins run past first → IsClosedIn (past ++ a.core.history.facts) plan.from) (span : Keeps run first (moment_of a)) where
    upheld : (past : List Fact) → RunBegins run past first → HistoryHolds past (moment_of b)
    upheld = let is : Upholds run first (moment_of b) = last-path (mark_among.spans run first held tt span) in is

    even_now : (past : List Fact) → RunBegins run past first → (m : Media) → b.device.media ≡ Some m → (shows : ShowsCommitted (contents_of (image_of b.device.sizes m)) d b.core.status.committed (is_there b.core))
        → IsEven (contents_of (image_of b.device.sizes m)) d (Some shows.stands) (is_there b.core)
    even_now past begins m told shows =
        let was : (w : Media) × (a.device.media ≡ Some w) = told_before a.device.media b.device.media _ m leaves.writes.media told in
        let before = told_at a.device.media _ was.0 was.1 (even past begins) in
        marking_.mark_even name copies plan a settled planned marked one p q b leaves done marks was.0 m was.1 told before.0.stands shows.stands before.0.committed shows.committed before.1

    lets : LetsCommitAmong (are_two name copies plan a.core planned) plan.next run first begun
    lets = lets_split name copies plan a b planned same group done.settled serve (left_now left) run first (λ past begins. mark_still.held (held past begins)) upheld
        (λ past begins. subst (λ (l : Log). IsClosedIn (past ++ l.facts) plan.from) (sym same_history) (closed past begins)) even_now

  -- ---- the commit

  none_named : NoneIsLeft begun.core.descriptor begun.core.status → NoneIsLeft plan.next begun.core.status
  none_named none = subst (λ (x : Descriptor). NoneIsLeft x b.core.status) (sym planned.is)
      (copies_.none_left d copies plan.number name planned.row planned.group.valid (volume name copies plan a.core planned) planned.may.counted.copies_for.parts.are planned.lowest planned.order b.core.status
      (subst (λ (x : Descriptor). NoneIsLeft x b.core.status) same none))

  next_id : plan.next.id ≡ begun.core.descriptor.id
  next_id = ap (λ (x : Descriptor). x.id) planned.is ∙ sym (ap (λ (x : Descriptor). x.id) same)

  next_member : (n : ℕ) → is_member plan.next n ≡ is_member begun.core.descriptor n
  next_member n = ap (λ (x : Descriptor). is_member x n) planned.is ∙ sym (ap (λ (x : Descriptor). is_member x n) same)

  module _ (r : ℕ) (c : State) (commits : Leaves (committing plan.next) q r begun c) (left : MarksLeft plan.next b.core.status c.core.status) where
    abbrev K : State → State → ℕ → Moment → Type 0
    K from to run first = (among : ℕ → Bool) × LetsCommitAmong among plan.next run first from

    enters_too : EntersVolumes a.core.history.facts begun.core.history.facts → EntersVolumes a.core.history.facts c.core.history.facts
    enters_too enters = let after = commits.history.volumes in omega (arith, enters, after)

    break_leaves : Leaves (parting plan) p r a c
    break_leaves = leaves_joined N NoPartition NoPartition D IfAlone K (MaySplitSince plan.from) 1 1 p q r a begun c (inl same) (ap (λ (x : Descriptor). x.mib) same) (λ n. ap (λ (x : Descriptor). is_member x n) same) begun_leaves still_begun.held
        (leaves_wider (committing plan.next) (scoped N NoPartition NoPartition D K 1) (λ x is. is) (λ pp none. none) (λ pp none. none) (λ pp none. none) (λ lv none. absurd none) (omega arith) q r begun c (λ run first held only. only) commits)
        (λ run first held may span. commits.spans run first (λ past begins. still_begun.held (held past begins))
        (are_two name copies plan a.core planned, lets run first held may.left may.even may.closed span)
        (begun_leaves.spans run first held (λ enters. may.alone (enters_too enters)) span))

    since : (why : CommitFault) → CommitEnds plan.next q begun c (Err why) → CommandBroke (splitting plan.from plan.number a) p a c why
    since why ends = broken_since (scoped N NoPartition NoPartition D IfAlone 1) p q (splitting plan.from plan.number a) begun.core.history a begun c begun_leaves (ap (λ (x : Core). record x { history = begun.core.history }) done.is) done.cuts why
        (subst (λ (l : Log). CommandBroke l q begun c why) (ap (λ (l : Log). with_fact l f) same_history) (broken (HasCommitted plan.next begun c) q begun c (settled_entered b f done.settled) why ends))

    module _ (committed : HasCommitted plan.next begun c) where
      stated : HasStated plan.next begun c
      stated = committed.stated

      abbrev made : State
      made = with_entry c (Made plan.number)

      named : c.core.descriptor ≡ plan.next
      named = ap (λ (x : Core). x.descriptor) stated.is

      there_now : IsTrue (is_some (volume_of c.core.descriptor plan.number))
      there_now = ap is_some (ap (λ (x : Descriptor). volume_of x plan.number) named ∙ (split_into name copies plan a.core planned).more)

      facts_now : c.core.history.facts ≡ b.core.history.facts ++ f ∷ []
      facts_now = ap (λ (x : Core). x.history.facts) stated.is

      is_open : (past : List Fact) → (volumes_in (past ++ c.core.history.facts) plan.number).standing ≡ Open
      is_open past =
          ap (λ (l : List Fact). (volumes_in l plan.number).standing) (ap (λ (l : List Fact). past ++ l) facts_now ∙ sym (append_assoc past b.core.history.facts (f ∷ [])))
          ∙ ap (λ (v : Volume). v.standing) (stands_after_split (past ++ b.core.history.facts) plan.from plan.number).new

      still_all : StillHeld a c
      still_all = still_then a begun c still_begun (commit_still plan.next q r begun c commits left stated next_id next_member none_named)

      ends_leaves : Leaves (commanding N NoPartition 0) r r c made
      ends_leaves = entry_leaves N NoPartition r c (Made plan.number) (λ moment. tt) tt (λ run first held only span.
          volume_is_made_in_session run first c.device c.core.history.facts c.core.descriptor c.core.status.committed (is_there c.core) plan.number span stated.settled.votes
          (leaves_committed c stated.ready run first held (only (enters_one c.core.history.facts (Made plan.number) refl))) there_now is_open)

      same_members : (n : ℕ) → is_member c.core.descriptor n ≡ is_member d n
      same_members n = ap (λ (x : Descriptor). is_member x n) (named ∙ planned.is)

      made_leaves : Leaves (parting plan) p r a made
      made_leaves = leaves_joined N NoPartition NoPartition D (MaySplitSince plan.from) IfAlone (MaySplitSince plan.from) 2 0 p r r a c made (inr named) (ap (λ (x : Descriptor). x.mib) (named ∙ planned.is)) same_members break_leaves still_all.held
          (leaves_wider (commanding N NoPartition 0) (scoped N NoPartition NoPartition D IfAlone 0) (λ x is. is) (λ pp none. none) (λ pp none. none) (λ pp none. none) (λ lv none. absurd none) (omega arith) r r c made (λ run first held only. only) ends_leaves)
          (λ run first held may span.
          let before = break_leaves.history.volumes in
          let after = ends_leaves.history.volumes in
          ends_leaves.spans run first (λ past begins. still_all.held (held past begins)) (λ enters past begins. still_all.only (held past begins) (may.alone (omega (arith, before, enters)) past begins))
          (break_leaves.spans run first held (record { alone = λ enters. may.alone (omega (arith, after, enters)); left = may.left; even = may.even; closed = may.closed }) span))

      made_still : StillHeld a made
      made_still = still_then a c made still_all (entry_still c (Made plan.number))

      -- the commit leaves the mark as it is
      mark_now : calls_dirty c.core.status.committed plan.number ≡ calls_dirty b.core.status.wanted plan.number
      mark_now = ap (λ (s : Status). calls_dirty s plan.number) stated.settled.committed ∙ commits.status.dirty plan.number (λ none. none)

      made_parted : IsMarkedBy plan a b → IsParted plan a made
      made_parted marked_by = record {
        settled = settled_entered c (Made plan.number) stated.settled;
        is = ap (λ (x : Core). record x { history = with_fact x.history (Made plan.number); last = slice_set x.last plan.number 0 }) stated.is
            ∙ ap (λ (x : Core). record x { descriptor = plan.next; history = with_fact (with_fact x.history f) (Made plan.number); last = slice_set x.last plan.number 0; status = c.core.status; homes = c.core.homes }) done.is;
        dirty = λ is. mark_now ∙ marked_by.dirty is;
        clean = λ is. mark_now ∙ marked_by.clean is ∙ ap (λ (s : Status). calls_dirty s plan.number) (sym settled.committed);
        ready = stated.ready;
        cuts = stated.cuts ∙ done.cuts;
      }

      -- ---- fresh copies

      places : HasOnePlaceEach plan.next
      places row other lp at x = one_place plan.next row other lp at x planned.valid

      only : (row : LvRow) (lp : ℕ) (x : Pp) → IsOneOf plan.next.lvs row → IsOneOf (copies_of row lp) x → IsTrue (calls_stale c.core.status.wanted x)
          → IsTrue (calls_stale begun.core.status.wanted x) ⊎ IsPassedOver plan.next begun.core.status c.core.status x
      only row lp x one_ copy stale = left.only x stale

      into : IsSplitInto d plan.next planned.row (stays name copies plan a.core planned) (new name copies plan a.core planned)
      into = split_into name copies plan a.core planned

      -- of a volume of which each logical partition had one
      fresh_of : (lv : ℕ) (r : LvRow) → volume_of plan.next lv ≡ Some r → ((lp : ℕ) (x : Pp) → IsOneOf (copies_of r lp) x → (y : Pp) × IsOneOf (copies_of r lp) y × IsFalse (calls_stale b.core.status.committed y))
          → (lp : ℕ) (x : Pp) → IsOneOf (copies_in plan.next lv lp) x → HasFresh c.core lv lp
      fresh_of lv r volume some lp x copy =
          let y = some lp x (subst (λ (ps : List Pp). IsOneOf ps x) (copies_by plan.next lv lp r volume) copy) in
          one_stays plan.next begun c named places only lv lp y.0 (subst (λ (ps : List Pp). IsOneOf ps y.0) (sym (copies_by plan.next lv lp r volume)) y.1)
          (subst (λ (s : Status). IsFalse (calls_stale s y.0)) done.settled.committed y.2)

      stays_fresh : (lp : ℕ) (x : Pp) → IsOneOf (copies_of (stays name copies plan a.core planned) lp) x → (y : Pp) × IsOneOf (copies_of (stays name copies plan a.core planned) lp) y × IsFalse (calls_stale b.core.status.committed y)
      stays_fresh lp x copy = copies_.stays_usable d copies plan.number name planned.row planned.group.valid (volume name copies plan a.core planned) planned.may.counted.copies_for.parts.are planned.lowest planned.order b.core.status.committed serve lp
          (copies_.stays_inside d copies plan.number name planned.row planned.group.valid (volume name copies plan a.core planned) planned.may.counted.copies_for.parts.are planned.lowest planned.order lp x copy)

      new_fresh : (lp : ℕ) (x : Pp) → IsOneOf (copies_of (new name copies plan a.core planned) lp) x → (y : Pp) × IsOneOf (copies_of (new name copies plan a.core planned) lp) y × IsFalse (calls_stale b.core.status.committed y)
      new_fresh lp x copy = (
        x,
        copy,
        (copies_.new_usable d copies plan.number name planned.row planned.group.valid (volume name copies plan a.core planned) planned.may.counted.copies_for.parts.are planned.lowest planned.order b.core.status.committed serve lp x copy).0,
      )

      -- each other volume is as it was
      others_fresh : (n lp : ℕ) (x : Pp) → (n ≡ planned.row.number → ⊥) → (n ≡ plan.number → ⊥) → IsOneOf (copies_in plan.next n lp) x → (volume_of begun.core.descriptor n ≡ None) ⊎ HasFresh begun.core n lp → HasFresh c.core n lp
      others_fresh n lp x not_old not_new here how =
          let was : volume_of plan.next n ≡ volume_of begun.core.descriptor n = into.volumes n not_old not_new ∙ ap (λ (y : Descriptor). volume_of y n) (sym same) in
          ⊎_elim
          (λ (none : volume_of begun.core.descriptor n ≡ None). absurd (no_copy plan.next n lp x (was ∙ none) here))
          (λ (fresh : HasFresh begun.core n lp). volume_stays plan.next begun c named places only n lp was fresh)
          how

      commit_keeps : KeepsFresh begun c
      commit_keeps n lp x copy how =
          let here : IsOneOf (copies_in plan.next n lp) x = subst (λ (y : Descriptor). IsOneOf (copies_in y n lp) x) named copy in
          elim (cases_eq n planned.row.number) [
            | inl is_old ↦ subst (λ (m : ℕ). HasFresh c.core m lp) (sym is_old) (fresh_of planned.row.number (stays name copies plan a.core planned) into.is stays_fresh lp x (subst (λ (m : ℕ). IsOneOf (copies_in plan.next m lp) x) is_old here))
            | inr not_old ↦ elim (cases_eq n plan.number) [
              | inl is_new ↦ subst (λ (m : ℕ). HasFresh c.core m lp) (sym is_new) (fresh_of plan.number (new name copies plan a.core planned) into.more new_fresh lp x (subst (λ (m : ℕ). IsOneOf (copies_in plan.next m lp) x) is_new here))
              | inr not_new ↦ others_fresh n lp x not_old not_new here how
            ]
          ]

      -- the last entry changes none
      made_keeps : KeepsFresh a made
      made_keeps = keeps_then a begun c same (marking_.mark_keeps name copies plan a settled planned marked one p q b leaves done marks) commit_keeps

    -- ---- both

    module _ (marked_by : IsMarkedBy plan a b) (e : State) where
      leaves_so : (x : Result (Unit {0}) CommitFault) → CommitEnds plan.next q begun c x → ClosesBy (Made plan.number) c e x → Leaves (parting plan) p r a e
      leaves_so (Ok _) ends closes = subst (λ (y : State). Leaves (parting plan) p r a y) (sym closes) (made_leaves ends)
      leaves_so (Err why) ends closes = subst (λ (y : State). Leaves (parting plan) p r a y) (sym closes) break_leaves

      still_so : (x : Result (Unit {0}) CommitFault) → CommitEnds plan.next q begun c x → ClosesBy (Made plan.number) c e x → IfOn (command_answer x) (StillHeld a e)
      still_so (Ok _) ends closes = subst (λ (y : State). StillHeld a y) (sym closes) (made_still ends)
      still_so (Err why) ends closes = stopped (HasCommitted plan.next begun c) (StillHeld a e) q begun c why ends

      keeps_so : (x : Result (Unit {0}) CommitFault) → CommitEnds plan.next q begun c x → ClosesBy (Made plan.number) c e x → IfOn (command_answer x) (KeepsFresh a e)
      keeps_so (Ok _) ends closes = subst (λ (y : State). KeepsFresh a y) (sym closes) (made_keeps ends)
      keeps_so (Err why) ends closes = stopped (HasCommitted plan.next begun c) (KeepsFresh a e) q begun c why ends

      ends_so : (x : Result (Unit {0}) CommitFault) → CommitEnds plan.next q begun c x → ClosesBy (Made plan.number) c e x → PartEnds copies plan p a e (command_answer x)
      ends_so (Ok _) ends closes = subst (λ (y : State). IsParted plan a y) (sym closes) (made_parted ends marked_by)
      ends_so (Err commit.Dark) ends closes = record { entered = splitting plan.from plan.number a; so_far = inr refl; ends = subst (λ (y : State). CommandBroke (splitting plan.from plan.number a) p a y commit.Dark) (sym closes) (since commit.Dark ends) }
      ends_so (Err (commit.WentOff have total)) ends closes = record { entered = splitting plan.from plan.number a; so_far = inr refl; ends = subst (λ (y : State). CommandBroke (splitting plan.from plan.number a) p a y (commit.WentOff have total)) (sym closes) (since (commit.WentOff have total) ends) }
      ends_so (Err commit.Stuck) ends closes = record { entered = splitting plan.from plan.number a; so_far = inr refl; ends = subst (λ (y : State). CommandBroke (splitting plan.from plan.number a) p a y commit.Stuck) (sym closes) (since commit.Stuck ends) }
      ends_so (Err (commit.DiskFailed disk)) ends closes = absurd ends

  module _ (marked_by : IsMarkedBy plan a b) (r : ℕ) (e : State) (x : Result (Unit {0}) CommitFault) (between : CommitsBetween f (Made plan.number) plan.next q r b e x) where
    pub part_leaves : Leaves (parting plan) p r a e
    part_leaves = leaves_so r between.mid between.leaves between.left marked_by e x between.ends between.closes

    pub part_still : IfOn (command_answer x) (StillHeld a e)
    part_still = still_so r between.mid between.leaves between.left marked_by e x between.ends between.closes

    pub part_keeps : IfOn (command_answer x) (KeepsFresh a e)
    part_keeps = keeps_so r between.mid between.leaves between.left marked_by e x between.ends between.closes

    pub part_ends : PartEnds copies plan p a e (command_answer x)
    part_ends = ends_so r between.mid between.leaves between.left marked_by e x between.ends between.closes
