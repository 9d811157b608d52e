-- By what the votes are lost.
use Rattle.std.proofs.Common.{◌≡◌, ◌⊎◌, inl, inr, ◌==◌, ℕ, Bool, true, false, ◌&&◌, not, List, [], ◌∷◌, refl, sym, ◌∙◌, ap}
use Rattle.std.specs.List.{list_any}
use Rattle.std.proofs.lemmas.Bool.{eqb-true}
use Rattle.lvm_num.specs.declared.descriptor.Descriptor.{Descriptor}
use Rattle.lvm_num.specs.declared.descriptor.PvRow.{PvRow}
use Rattle.lvm_num.specs.Descriptor.{is_member}
use Rattle.lvm_num.specs.Votes.{is_enough_to_write, votes_in}
use Rattle.lvm_num.proofs.VotesLemmas.{more_have_more, more_is_enough}
use Rattle.lvm_num.proofs.Booleans.{not_so}
use Rattle.lvm_status.specs.Update.{members_there}
use Rattle.lvm_session.specs.State.{State, is_there, votes_there}
use Rattle.lvm_session.specs.Enabled.{is_lost}
use Rattle.lvm_session.specs.Judging.{is_missing}
use Rattle.lvm_keeps_events.proofs.passed.Keeps.{witness, both, is_false}
use Rattle.lvm_keeps_events.specs.Losing.{HasFailedOn, LosesByFaults, LostForFaults, VotesGoByFaults}

none_of : (rows : List PvRow) → list_any (λ (row : PvRow). false) rows ≡ false
none_of [] = refl
none_of (row ∷ rows) = none_of rows

module _ (old new : State) (same : new.core.descriptor ≡ old.core.descriptor) (loses : LosesByFaults old new) (had : is_lost old.core ≡ false) (lost : is_lost new.core ≡ true) where
  abbrev d : Descriptor
  d = old.core.descriptor

  -- a member that was there and is missing
  abbrev is_gone : PvRow → Bool
  is_gone row = not (is_missing old.core row.disk) && is_missing new.core row.disk

  not_gone : (row : PvRow) → is_gone row ≡ false → not (is_missing old.core row.disk) ≡ true → is_missing new.core row.disk ≡ false
  not_gone row none was = sym (ap (λ b. b && is_missing new.core row.disk) was) ∙ none

  abbrev there : ℕ → Bool
  there disk = members_there d new.core.status.wanted disk

  still_there : list_any is_gone d.pvs ≡ false → (disk : ℕ) → is_member d disk ≡ true → is_there old.core disk ≡ true → there disk ≡ true
  still_there none disk member was =
      let one = witness (λ (row : PvRow). row.disk == disk) is_gone d.pvs member none in
      let at = eqb-true one.0.disk disk one.1 in
      let known = (both (is_member d disk) (not (is_missing old.core disk)) was).1 in
      let here = not_gone one.0 one.2 (ap (λ n. not (is_missing old.core n)) at ∙ known) in
      ap (λ b. b && not (is_missing new.core disk)) member ∙ ap not (sym (ap (is_missing new.core) at) ∙ here)

  enough : is_enough_to_write d (votes_there old.core) ≡ true
  enough = by (is_enough_to_write d (votes_there old.core)) had
    where
      by : (b : Bool) → not b ≡ false → b ≡ true
      by true e = refl
      by false e = not_so (sym e)

  none_lost : list_any is_gone d.pvs ≡ false → is_lost new.core ≡ false
  none_lost none =
      ap (λ (k : Descriptor). not (is_enough_to_write k (votes_in k (members_there k new.core.status.wanted)))) same
      ∙ ap not (more_is_enough.write d (votes_there old.core) (votes_in d there) (more_have_more d (is_there old.core) there (still_there none)) enough)

  go : (disk : ℕ) × HasFailedOn old new disk
  go = by (list_any is_gone d.pvs) refl
    where
      from : (disk : ℕ) → not (is_missing old.core disk) ≡ true → (is_missing old.core disk ≡ true) ⊎ HasFailedOn old new disk → (n : ℕ) × HasFailedOn old new n
      from disk was (inl is) = not_so (sym (is_false (is_missing old.core disk) was) ∙ is)
      from disk was (inr rose) = (disk, rose)

      by : (b : Bool) → list_any is_gone d.pvs ≡ b → (n : ℕ) × HasFailedOn old new n
      by false none = not_so (sym (none_lost none) ∙ lost)
      by true some =
          let one = witness is_gone (λ (row : PvRow). false) d.pvs some (none_of d.pvs) in
          let parts = both (not (is_missing old.core one.0.disk)) (is_missing new.core one.0.disk) one.1 in
          from one.0.disk parts.0 (loses one.0.disk parts.1)

pub votes_go : VotesGoByFaults
votes_go old new same loses lost = by (is_lost old.core) refl
  where
    by : (b : Bool) → is_lost old.core ≡ b → LostForFaults old new
    by true is = inl is
    by false is = inr (go old new same loses is lost)
