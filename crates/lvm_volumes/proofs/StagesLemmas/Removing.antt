-- A volume loses its name: the entries of its removal, and the descriptor without it.
use Rattle.std.proofs.Common.{◌≡◌, inl, inr, ℕ, List, [], ◌∷◌, ◌++◌, append_assoc, Option, Some, None, Result, Ok, Err, refl, sym, ap, subst, ◌∙◌}
use Rattle.std.specs.Prelude.{IfSome}
use Rattle.lvm_num.specs.declared.descriptor.Descriptor.{Descriptor}
use Rattle.lvm_disk.specs.Device.{Media, image_of}
use Rattle.lvm_vol.specs.declared.entry.Vol.TheVariants.{Lv}
use Rattle.lvm_vol.specs.Facts.{Fact, Removing, Removed}
use Rattle.lvm_vol.specs.Log.{with_fact}
use Rattle.lvm_kept.specs.Contents.{contents_of}
use Rattle.lvm_kept.specs.Moments.{Moment}
use Rattle.lvm_steps.specs.Committing.{DiffersInVolume}
use Rattle.lvm_steps.proofs.EnteringLemmas.{goes_in_span}
use Rattle.lvm_volume_plan.specs.passed.Commit.{VolumeServes, NoneIsLeft, MarksLeft}
use Rattle.lvm_volume_plan.specs.passed.Core.{CommitFault, IsSettled, LetsCommit, HasStated, HasCommitted, CommitEnds, NoPartition, Leaves, committing}
use Rattle.lvm_volume_plan.proofs.passed.Commit.{one_place, volume_is_gone_in_session}
use Rattle.lvm_volume_plan.proofs.passed.Core.{enters_one}
use Rattle.lvm_session.specs.State.{Core, State, is_there}
use Rattle.lvm_num.specs.Descriptor.{IsValid, is_member, volume_of}
use Rattle.lvm_volumes.specs.Endings.{StillHeld, KeepsFresh, commanding}
use Rattle.lvm_volumes.specs.Stages.{CommandBroke, with_entry, ClosesBy, CommitsBetween, IsUnnamed, UnnameEnds}
use Rattle.lvm_volumes.specs.Volumes.{removing}
use Rattle.lvm_volumes.proofs.StagesLemmas.Breaking.{broken, broken_since, stopped}
use Rattle.lvm_volumes.proofs.EndingsLemmas.Fresh.{HasOnePlaceEach, no_copy, keeps_others}
use Rattle.lvm_volumes.proofs.EndingsLemmas.Holding.{still_then}
use Rattle.lvm_volumes.proofs.Leaving.{leaves_then}
use Rattle.lvm_volumes.proofs.StandingLemmas.{old_serves}
use Rattle.lvm_volumes.proofs.SettlingLemmas.{none_left_without}
use Rattle.lvm_volumes.proofs.StagesLemmas.Entering.{settled_entered, entry_leaves, entry_still, commit_among, commit_still, leaves_committed}
use Rattle.lvm_volume_plan.specs.NewVolume.{without_volume}
use Rattle.lvm_volume_plan.specs.PlannedVolume.{IsWithout}
use Rattle.lvm_volume_plan.specs.Faults.{IfOn, command_answer}
use Rattle.lvm_volume_plan.proofs.NewVolumeLemmas.OldDescriptor.{valid_without, unnamed_without, differs_without}

module _ (lv : ℕ) (next : Descriptor) (a : State) (settled : IsSettled a.core) (without : IsWithout lv a.core next) where
  -- the session once the removal is entered
  abbrev pub begun : State
  begun = with_entry a (Removing (Lv lv))

  abbrev N : Descriptor → Type 0
  N d = d ≡ next

  begins_leaves : (p : ℕ) → Leaves (commanding N NoPartition 0) p p a begun
  begins_leaves p = entry_leaves N NoPartition p a (Removing (Lv lv)) (λ moment. tt) tt (λ run first held only span. goes_in_span run first a.device a.core.history.facts lv span)

  -- the descriptor may be committed
  lets_unname : (run : ℕ) (first : Moment) → LetsCommit lv next run first begun
  lets_unname run first past begins holds = by_media a.device.media
    where
      serves : (m : Media) → VolumeServes (contents_of (image_of a.device.sizes m)) (past ++ (a.core.history.facts ++ Removing (Lv lv) ∷ [])) a.core.descriptor lv next
      serves m = subst (λ (d : Descriptor). VolumeServes (contents_of (image_of a.device.sizes m)) (past ++ (a.core.history.facts ++ Removing (Lv lv) ∷ [])) a.core.descriptor lv d) (sym without.is)
          (subst (λ (facts : List Fact). VolumeServes (contents_of (image_of a.device.sizes m)) facts a.core.descriptor lv (without_volume a.core.descriptor lv)) (append_assoc past a.core.history.facts (Removing (Lv lv) ∷ []))
          (old_serves a.core.descriptor lv (contents_of (image_of a.device.sizes m)) (past ++ a.core.history.facts)))

      by_media : (o : Option Media) → IfSome o (λ media. VolumeServes (contents_of (image_of a.device.sizes media)) (past ++ (a.core.history.facts ++ Removing (Lv lv) ∷ [])) a.core.descriptor lv next)
      by_media None = tt
      by_media (Some m) = serves m

  -- fewer copies can be left behind
  none_unnamed : NoneIsLeft begun.core.descriptor begun.core.status → NoneIsLeft next begun.core.status
  none_unnamed none = subst (λ (d : Descriptor). NoneIsLeft d a.core.status) (sym without.is) (none_left_without a.core.descriptor lv a.core.status none)

  module _ (p q : ℕ) (b : State) (leaves : Leaves (committing next) p q begun b) (left : MarksLeft next begun.core.status b.core.status) where
    break_leaves : Leaves (commanding N NoPartition 1) p q a b
    break_leaves = leaves_then N NoPartition 0 1 p p q a begun b (inl refl) refl (λ d. refl) (begins_leaves p) (entry_still a (Removing (Lv lv)))
        (commit_among N NoPartition next refl p q begun b leaves lv (λ run first held. lets_unname run first))

    -- where it wasn't committed
    since : (why : CommitFault) → CommitEnds next p begun b (Err why) → CommandBroke (removing lv a) p a b why
    since why ends = broken_since (commanding N NoPartition 0) p p (removing lv a) (removing lv a) a begun b (begins_leaves p) refl refl why (broken (HasCommitted next begun b) p begun b (settled_entered a (Removing (Lv lv)) settled) why ends)

    -- where it was
    module _ (committed : HasCommitted next begun b) where
      done : HasStated next begun b
      done = committed.stated

      abbrev gone : State
      gone = with_entry b (Removed (Lv lv))

      named : b.core.descriptor ≡ next
      named = ap (λ (x : Core). x.descriptor) done.is

      still : StillHeld begun b
      still = commit_still next p q begun b leaves left done (ap (λ (d : Descriptor). d.id) without.is) (λ d. ap (λ (x : Descriptor). is_member x d) without.is) none_unnamed

      still_all : StillHeld a b
      still_all = still_then a begun b (entry_still a (Removing (Lv lv))) still

      ends_leaves : Leaves (commanding N NoPartition 0) q q b gone
      ends_leaves = entry_leaves N NoPartition q b (Removed (Lv lv)) (λ moment. tt) tt (λ run first held only span.
          volume_is_gone_in_session run first b.device b.core.history.facts b.core.descriptor b.core.status.committed (is_there b.core) lv span done.settled.votes (leaves_committed b done.ready run first held (only (enters_one b.core.history.facts (Removed (Lv lv)) refl)))
          (subst (λ (d : Descriptor). volume_of d lv ≡ None) (sym (named ∙ without.is)) (unnamed_without a.core.descriptor lv)))

      same_members : (d : ℕ) → is_member b.core.descriptor d ≡ is_member a.core.descriptor d
      same_members d = ap (λ (x : Descriptor). is_member x d) (named ∙ without.is)

      gone_leaves : Leaves (commanding N NoPartition 1) p q a gone
      gone_leaves = leaves_then N NoPartition 1 0 p q q a b gone (inr named) (ap (λ (x : Descriptor). x.mib) (named ∙ without.is)) same_members break_leaves still_all ends_leaves

      gone_still : StillHeld a gone
      gone_still = still_then a b gone still_all (entry_still b (Removed (Lv lv)))

      -- each other volume is as it was
      places_now : HasOnePlaceEach next
      places_now row other lp at x = one_place next row other lp at x (subst IsValid (sym without.is) (valid_without a.core.descriptor lv without.group.valid))

      gone_keeps : KeepsFresh a gone
      gone_keeps = keeps_others next a gone named places_now (λ row at x volume copy. left.only x) lv (subst (DiffersInVolume lv a.core.descriptor) (sym without.is) (differs_without a.core.descriptor lv))
          (λ lp x one how. absurd (no_copy next lv lp x (ap (λ (d : Descriptor). volume_of d lv) without.is ∙ unnamed_without a.core.descriptor lv) one))

      gone_unnamed : IsUnnamed lv next a gone
      gone_unnamed = record {
        settled = settled_entered b (Removed (Lv lv)) done.settled;
        is = ap (λ (x : Core). record x { history = with_fact x.history (Removed (Lv lv)) }) done.is;
        ready = done.ready;
        cuts = done.cuts;
      }

    -- both
    module _ (e : State) where
      ends_so : (x : Result (Unit {0}) CommitFault) → CommitEnds next p begun b x → ClosesBy (Removed (Lv lv)) b e x → UnnameEnds lv next p a e x
      ends_so (Ok _) ends closes = subst (λ (y : State). IsUnnamed lv next a y) (sym closes) (gone_unnamed ends)
      ends_so (Err why) ends closes = subst (λ (y : State). UnnameEnds lv next p a y (Err why)) (sym closes) (since why ends)

      leaves_so : (x : Result (Unit {0}) CommitFault) → CommitEnds next p begun b x → ClosesBy (Removed (Lv lv)) b e x → Leaves (commanding N NoPartition 1) p q a e
      leaves_so (Ok _) ends closes = subst (λ (y : State). Leaves (commanding N NoPartition 1) p q a y) (sym closes) (gone_leaves ends)
      leaves_so (Err why) ends closes = subst (λ (y : State). Leaves (commanding N NoPartition 1) p q a y) (sym closes) break_leaves

      keeps_so : (x : Result (Unit {0}) CommitFault) → CommitEnds next p begun b x → ClosesBy (Removed (Lv lv)) b e x → IfOn (command_answer x) (KeepsFresh a e)
      keeps_so (Ok _) ends closes = subst (λ (y : State). KeepsFresh a y) (sym closes) (gone_keeps ends)
      keeps_so (Err why) ends closes = stopped (HasCommitted next begun b) (KeepsFresh a e) p begun b why ends

      still_so : (x : Result (Unit {0}) CommitFault) → CommitEnds next p begun b x → ClosesBy (Removed (Lv lv)) b e x → IfOn (command_answer x) (StillHeld a e)
      still_so (Ok _) ends closes = subst (λ (y : State). StillHeld a y) (sym closes) (gone_still ends)
      still_so (Err why) ends closes = stopped (HasCommitted next begun b) (StillHeld a e) p begun b why ends

  module _ (p q : ℕ) (e : State) (x : Result (Unit {0}) CommitFault) (between : CommitsBetween (Removing (Lv lv)) (Removed (Lv lv)) next p q a e x) where
    pub unname_ends : UnnameEnds lv next p a e x
    unname_ends = ends_so p q between.mid between.leaves between.left e x between.ends between.closes

    pub unname_leaves : Leaves (commanding N NoPartition 1) p q a e
    unname_leaves = leaves_so p q between.mid between.leaves between.left e x between.ends between.closes

    pub unname_still : IfOn (command_answer x) (StillHeld a e)
    unname_still = still_so p q between.mid between.leaves between.left e x between.ends between.closes

    pub unname_keeps : IfOn (command_answer x) (KeepsFresh a e)
    unname_keeps = keeps_so p q between.mid between.leaves between.left e x between.ends between.closes
