-- Why the votes are lost.
use Rattle.std.proofs.Common.{◌≡◌, ◌⊎◌, inl, inr, ◌==◌, ℕ, Bool, true, false, ◌&&◌, not, List, [], ◌∷◌, refl, sym, ◌∙◌, ap}
use Rattle.std.specs.List.{list_any}
use Rattle.std.proofs.lemmas.Bool.{eqb-true}
use Rattle.lvm_num.specs.declared.descriptor.PvRow.{PvRow}
use Rattle.lvm_num.specs.Descriptor.{is_member}
use Rattle.lvm_num.specs.Disks.{Disks}
use Rattle.lvm_num.specs.Status.{calls_missing}
use Rattle.lvm_num.specs.Votes.{votes_in}
use Rattle.lvm_num.proofs.VotesLemmas.{more_have_more, more_is_enough}
use Rattle.lvm_num.proofs.Booleans.{not_so}
use Rattle.lvm_session.specs.passed.Status.{members_there}
use Rattle.lvm_session.specs.State.{Core, State, is_there, votes_there}
use Rattle.lvm_session.specs.Judging.{is_missing}
use Rattle.lvm_session.specs.Enabled.{is_lost}
use Rattle.lvm_session.specs.Causes.{AnyFailedSince, FailedSince}
use Rattle.lvm_session.specs.Sound.{IsSound}
use Rattle.lvm_keeps.specs.Keeps.{LossIsCaused}
use Rattle.lvm_keeps.proofs.KeepsLemmas.Landing.{witness}
use Rattle.lvm_keeps.proofs.Small.{both, is_false}

none_of : (rows : List PvRow) → list_any (λ (row : PvRow). false) rows ≡ false
none_of [] = refl
none_of (row ∷ rows) = none_of rows

module _ (s : State) (sound : IsSound s) (lost : is_lost s.core ≡ true) where
  abbrev core : Core
  core = s.core

  -- the members that were there when it began
  abbrev before : Disks
  before = members_there core.descriptor core.origin.table

  -- a member that was there and is missing
  abbrev is_gone : PvRow → Bool
  is_gone row = not (calls_missing core.origin.table row.disk) && is_missing core row.disk

  not_gone : (row : PvRow) → is_gone row ≡ false → not (calls_missing core.origin.table row.disk) ≡ true → is_missing core row.disk ≡ false
  not_gone row none was = sym (ap (λ b. b && is_missing core row.disk) was) ∙ none

  -- where none is, each that was there still is
  still_there : list_any is_gone core.descriptor.pvs ≡ false → (disk : ℕ) → is_member core.descriptor disk ≡ true → before disk ≡ true → is_there core disk ≡ true
  still_there none disk member was =
      let one = witness (λ (row : PvRow). row.disk == disk) is_gone core.descriptor.pvs member none in
      let same = eqb-true one.0.disk disk one.1 in
      let known = (both (is_member core.descriptor disk) (not (calls_missing core.origin.table disk)) was).1 in
      let there = not_gone one.0 one.2 (ap (λ d. not (calls_missing core.origin.table d)) same ∙ known) in
      ap (λ b. b && not (is_missing core disk)) member ∙ ap not (sym (ap (is_missing core) same) ∙ there)

  none_lost : list_any is_gone core.descriptor.pvs ≡ false → is_lost core ≡ false
  none_lost none =
      ap not (more_is_enough.write core.descriptor (votes_in core.descriptor before) (votes_there core) (more_have_more core.descriptor before (is_there core) (still_there none)) sound.origin.votes)

  pub cause : AnyFailedSince s
  cause = by (list_any is_gone core.descriptor.pvs) refl
    where
      from : (disk : ℕ) → not (calls_missing core.origin.table disk) ≡ true → (calls_missing core.origin.table disk ≡ true) ⊎ FailedSince s disk → AnyFailedSince s
      from disk was (inl is) = not_so (sym (is_false (calls_missing core.origin.table disk) was) ∙ is)
      from disk was (inr rose) = (disk, rose)

      by : (b : Bool) → list_any is_gone core.descriptor.pvs ≡ b → AnyFailedSince s
      by false none = not_so (sym (none_lost none) ∙ lost)
      by true some =
          let one = witness is_gone (λ (row : PvRow). false) core.descriptor.pvs some (none_of core.descriptor.pvs) in
          let parts = both (not (calls_missing core.origin.table one.0.disk)) (is_missing core one.0.disk) one.1 in
          from one.0.disk parts.0 (sound.origin.missing one.0.disk parts.1)

pub loss_is_caused : LossIsCaused
loss_is_caused s sound lost = cause s sound lost
