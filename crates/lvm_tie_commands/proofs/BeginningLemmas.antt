-- What stands on the disks of a session as it begins.
use Rattle.std.proofs.Common.{◌≡◌, ℕ, List, [], ◌++◌, false, Some, count_by, sym, ap, subst, ◌∙◌}
use Rattle.std.specs.Prelude.{◌≢◌}
use Rattle.lvm_num.specs.declared.descriptor.Descriptor.{Descriptor}
use Rattle.lvm_num.specs.declared.status.Status.{Status}
use Rattle.lvm_num.specs.Record.{Stamped}
use Rattle.lvm_num.specs.Status.{calls_missing}
use Rattle.lvm_num.proofs.Lists.{some_told, of_told}
use Rattle.lvm_disk.specs.Device.{HasSectors, Media, image_of}
use Rattle.lvm_disk.proofs.PathsLemmas.{last-path}
use Rattle.lvm_vol.specs.Facts.{Fact}
use Rattle.lvm_vol.specs.Legal.{begins_in}
use Rattle.lvm_vol.specs.Order.{Ordered}
use Rattle.lvm_kept.specs.Moments.{Moment}
use Rattle.lvm_kept.proofs.MomentsLemmas.Chaining.{span_told}
use Rattle.lvm_steps.specs.Moments.{RunBegins, HistoryHolds, Upholds}
use Rattle.lvm_status.specs.Update.{Updates}
use Rattle.lvm_commit.specs.LawsOfVolumes.{IsOneFoundOn}
use Rattle.lvm_session.specs.State.{Core, State, is_there}
use Rattle.lvm_handover.specs.passed.Core.{moment_of, NotesAreHome}
use Rattle.lvm_handover.proofs.passed.Core.{empty_names_none}
use Rattle.lvm_handover.proofs.passed.Tidying.{quiet_dirty_is_even}
use Rattle.lvm_mwc.specs.Cache.{is_named as is_named_by}
use Rattle.lvm_kept.proofs.CommittedLemmas.Finding.{images_within}
use Rattle.lvm_steps.proofs.MakingLemmas.Making.{media_may}
use Rattle.lvm_tie.specs.Spares.{SparesDescriptors}
use Rattle.lvm_tie.specs.Tied.{IsTied}
use Rattle.lvm_tie.specs.Begins.{shown_to}
use Rattle.lvm_handover.specs.passed.Varyon.{DirtyAreEqual}
use Rattle.lvm_varyon.specs.passed.Tidying.{DirtyAreOne}
use Rattle.lvm_tie_commands.specs.Beginning.{HasBegun, MadeStands, VariedOnStands}
use Rattle.lvm_tie_commands.proofs.MomentsLemmas.{calm_at}
use Rattle.lvm_tie_commands.proofs.Resting.{landed}
use Rattle.lvm_tie_commands.proofs.BeginsLemmas.{Held, members_show, ties}

module _ (run : ℕ) (first : Moment) (s : State) (begun : HasBegun run first s) (table : s.core.status.wanted ≡ s.core.origin.table) (whole : HasSectors s.device)
    (one : IsOneFoundOn s.device) (equal : DirtyAreEqual s.device s.core) (quiet : (d lv track_group : ℕ) → is_named_by s.core.cache d lv track_group ≡ false) (past : List Fact) (begins : RunBegins run past first) where
  told : (media : Media) × (s.device.media ≡ Some media)
  told = some_told s.device.media (span_told begun.keeps begins.told)

  abbrev held : Held s told.0
  held = of_told (λ (m : Media). Held s m) s.device.media told.0 told.1 begun.held.held

  home : NotesAreHome s.core (image_of s.device.sizes told.0)
  home = of_told (λ (m : Media). NotesAreHome s.core (image_of s.device.sizes m)) s.device.media told.0 told.1 begun.held.notes

  dirty_are_one : (stands : Stamped Status) → stands.value ≡ s.core.status.committed → DirtyAreOne (shown_to s told.0) s.core.descriptor (Some stands) (is_there s.core)
  dirty_are_one = of_told (λ (m : Media). (stands : Stamped Status) → stands.value ≡ s.core.status.committed → DirtyAreOne (shown_to s m) s.core.descriptor (Some stands) (is_there s.core)) s.device.media told.0 told.1 equal

  holds : HistoryHolds past (moment_of s)
  holds = let upholds : Upholds run first (moment_of s) = last-path begun.keeps in upholds past begins

  tied_first : IsTied past s × SparesDescriptors s
  tied_first = ties s told.0 begun.sound begun.settled begun.stamped.epoch whole told.1 held home one
      (quiet_dirty_is_even (shown_to s told.0) s.core.descriptor s.core.status.committed (is_there s.core) (past ++ s.core.history.facts) begun.sound.fitting.valid (images_within (image_of s.device.sizes told.0)) begun.settled.votes held.shows (dirty_are_one held.shows.stands held.shows.committed)
      (λ d lv track_group present. home d lv track_group present ∙ quiet d lv track_group) (holds.kept (image_of s.device.sizes told.0) (media_may s.device told.0 told.1)))
      (members_show s told.0 held (λ d member present. ap (λ (t : Status). calls_missing t d) table ∙ present))
      past holds
      (calm_at run first (moment_of s) begun.keeps (subst (λ (n : ℕ). Ordered n [] s.core.history.facts) begun.run_is begun.sound.told.ordered) (landed s begun.sound begun.settled) past begins)
      (subst (λ (n : ℕ). count_by (begins_in n) past ≡ 0) (sym begun.run_is) begins.own)

pub varied_on_stands : VariedOnStands
varied_on_stands run first was name moment room old s on equal begun whole alone past begins = record {
  empty = λ none. begun.held;
  tied = λ some. (tied some).0;
  spares = λ some. (tied some).1;
}
  where
    table : s.core.status.wanted ≡ s.core.origin.table
    table = ap (λ (c : Core). c.status.wanted) on.first.is ∙ ap (λ (u : Updates). u.wanted) on.first.reserved.status ∙ sym on.first.reserved.table ∙ sym (ap (λ (c : Core). c.origin.table) on.first.is)

    quiet : (d lv track_group : ℕ) → is_named_by s.core.cache d lv track_group ≡ false
    quiet d lv track_group = ap (λ (c : Core). is_named_by c.cache d lv track_group) on.first.is ∙ empty_names_none on.written.group on.first.parts.cache on.first.reserved.cache d lv track_group

    tied : s.core.descriptor.lvs ≢ [] → IsTied past s × SparesDescriptors s
    tied some = tied_first run first s begun table whole (alone some) equal quiet past begins

pub made_stands : MadeStands
made_stands past was w room old s made held =
    let none : s.core.descriptor.lvs ≡ [] = ap (λ (c : Core). c.descriptor.lvs) made.core_is ∙ ap (λ (d : Descriptor). d.lvs) made.parts.descriptor in
    record {
      empty = λ e. held;
      tied = λ some. absurd (some none);
      spares = λ some. absurd (some none);
    }
