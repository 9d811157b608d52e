-- What a line leaves of a group without volumes: nothing changes.
use Rattle.std.proofs.Common.{◌≡◌, ◌≤◌, ℕ, List, Option, false, refl, sym, ◌∙◌, ap, subst}
use Rattle.lvm_disk.specs.Device.{Device}
use Rattle.lvm_session.specs.State.{Core}
use Rattle.lvm_range_lines.specs.passed.HolderVariants as holder
use Rattle.lvm_range_lines.specs.passed.ReplyVariants as reply
use Rattle.lvm_range_lines.specs.passed.GroupLines.{EndsUnasked, IsBetweenStage, IsFittingStage, IsLeftBy, IsOfKind, OfRequests, Refusal, Reply, Stage, is_unheard, most_refusals, session_of}
use Rattle.lvm_range_lines.proofs.EndsLemmas.{between_now, held_by, refused_as, still_as}
use Rattle.lvm_range_lines.proofs.passed.GroupLines.{left_still}
use Rattle.lvm_range_lines.specs.passed.RefusalVariants as refusal
use Rattle.lvm_move_lines.specs.Asking.{IsNotAsked}
use Rattle.lvm_move_lines.specs.Moving.{EmptyAnswers, MigratepvDoes, MovesNone, NotAskedForMoves, NothingMoves, RefusesToMove}
use Rattle.lvm_num.specs.declared.descriptor.Descriptor.{Descriptor}
use Rattle.lvm_move_lines.proofs.MovingLemmas.{empty_few, empty_heard}

-- something is heard of what isn't asked for
pub not_asked_heard : (d : Descriptor) (volume : Option (List ℕ)) (from to : ℕ) (why : Refusal) → IsNotAsked d volume from to why → is_unheard (reply.Refused why) ≡ false
not_asked_heard d volume from to (refusal.NoDisk disk) it = refl
not_asked_heard d volume from to refusal.NoVolume it = refl
not_asked_heard d volume from to why it = absurd it

module _ {S : Type 0} (device : S → Device) (volume : Option (List ℕ)) (from to : ℕ) (stage : Stage S) (fits : IsFittingStage stage) (between : IsBetweenStage device stage) (driver : S × Core) (is : stage.holder ≡ holder.Empty driver)
    (new : Stage S) (answer : Reply) where
  abbrev core : Core
  core = driver.1

  still : is_unheard answer ≡ false → IsLeftBy device (held_by stage (holder.Empty driver)) answer new → new ≡ held_by stage (holder.Empty driver)
  still heard its = left_still device (held_by stage (holder.Empty driver)) answer heard (between_now device (λ log. MigratepvDoes volume from to) stage fits between (holder.Empty driver) is) new its

  pub empty_ends : EmptyAnswers core volume from to answer → IsLeftBy device (held_by stage (holder.Empty driver)) answer new → EndsUnasked device (λ log. MigratepvDoes volume from to) ⊥ OfRequests stage new answer
  empty_ends (RefusesToMove why not_asked says) its =
      refused_as device (λ log. MigratepvDoes volume from to) stage fits between (holder.Empty driver) is new answer
      (still (ap is_unheard says ∙ not_asked_heard core.descriptor volume from to why not_asked) its) why says
      (λ last refused. NotAskedForMoves core why (ap session_of is) not_asked refused)
  empty_ends (MovesNone lv asked says) its =
      still_as device (λ log. MigratepvDoes volume from to) stage fits between (holder.Empty driver) is new answer
      (still (ap is_unheard says ∙ empty_heard core to) its)
      (subst (λ (a : Reply). most_refusals a ≤ 1) (sym says) (empty_few core to))
      (λ last same. NothingMoves core lv (ap session_of is) asked (subst IsOfKind is fits.kind) says same)
