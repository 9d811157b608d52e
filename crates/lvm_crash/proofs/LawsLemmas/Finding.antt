-- Which status the members of a group that can read find after a loss of power.
use Rattle.std.proofs.Common.{◌≡◌, ⊎_elim, ℕ, ◌<◌, Option, Some, None, refl, sym, ap, ◌∙◌}
use Rattle.std.specs.Prelude.{IsTrue, option_map}
use Rattle.std.proofs.lemmas.Option.{same_Some}
use Rattle.lvm_num.specs.declared.status.Status.{Status}
use Rattle.lvm_num.specs.declared.descriptor.Descriptor.{Descriptor}
use Rattle.lvm_num.specs.Disks.{Disks}
use Rattle.lvm_num.specs.Record.{Stamped, stamp_lt}
use Rattle.lvm_num.specs.Votes.{CanRead}
use Rattle.lvm_num.proofs.VotesLemmas.{read_meets_write}
use Rattle.lvm_num.proofs.RecordLemmas.Newest.{is_one, is_last}
use Rattle.lvm_num.proofs.Booleans.{let_through, passed_if}
use Rattle.lvm_kept.specs.Contents.{Contents}
use Rattle.lvm_kept.specs.Group.{if_passes, is_status_of, members_in, status_by}
use Rattle.lvm_kept.specs.Committed.{IsWithinDisks}
use Rattle.lvm_kept.proofs.CommittedLemmas.Finding.{offered, is_offered}
use Rattle.lvm_invariant.specs.State.{Marks, Beside, ModelState}
use Rattle.lvm_invariant.specs.Found.{Votes, Found, HasIt}
use Rattle.lvm_invariant.specs.Crash.{IsCrash, IsPossible}
use Rattle.lvm_invariant.proofs.FoundLemmas.{quorum_finds}
use Rattle.lvm_crash.specs.Session.{marks_of, as_marks, marks_shown, view_of, AreVotesOf}

-- marks are shown by a record
shown_by : (beside : Option Beside) (o : Option (Stamped Status)) (x : Stamped Marks) → option_map (as_marks beside) o ≡ Some x → (r : Stamped Status) × (o ≡ Some r) × (x ≡ as_marks beside r)
shown_by beside None x e = absurd cc
shown_by beside (Some r) x e = (r, refl, sym (same_Some (as_marks beside r) x e))

-- the status that members find, and that it is one of the two
pub record FindsStatus (s : ModelState) (group : Descriptor) (c : Contents) (disks : Disks) : Type 0 where
  pub status : Stamped Status
  pub found : status_by c disks group.id group ≡ Some status
  pub possible : IsPossible s (marks_of s.beside status.value)

module _ (votes : Votes) (s : ModelState) (group : Descriptor) (c : Contents) (are : AreVotesOf group votes) (found : Found votes s) (crash : IsCrash s (view_of s.beside group c)) (within : IsWithinDisks c) (disks : Disks)
    (enough : CanRead group (members_in c disks group.id group)) where
  abbrev set : Disks
  set = members_in c disks group.id group

  abbrev offer : ℕ → Option (Stamped Status)
  offer = offered (is_status_of group.id) c.status set

  shows : (d : ℕ) → HasIt s d → (x : Stamped Marks) × (marks_shown s.beside group.id (c.status d) ≡ Some x)
  shows d has = ⊎_elim
      (λ (same : marks_shown s.beside group.id (c.status d) ≡ s.media.status d). ⊎_elim
      (λ (is : s.media.status d ≡ Some s.committed). (s.committed, same ∙ is))
      (λ (is : (u : Stamped Marks) × (s.in_flight ≡ Some u) × (s.media.status d ≡ Some u)). (is.0, same ∙ is.2))
      has)
      (λ (is : (u : Stamped Marks) × (s.in_flight ≡ Some u) × IsTrue (s.status_flying d) × (marks_shown s.beside group.id (c.status d) ≡ Some u)). (is.0, is.3))
      (crash.status d)

  -- a member has one
  someone : (d : ℕ) × (r : Stamped Status) × (offer d ≡ Some r)
  someone =
      let both = read_meets_write group set found.set enough (sym (are.writes found.set) ∙ found.enough) in
      let shown = shows both.0 (found.have both.0 both.3) in
      let r = shown_by s.beside (if_passes (is_status_of group.id) (c.status both.0)) shown.0 shown.1 in
      (both.0, r.0, let_through (set both.0) (if_passes (is_status_of group.id) (c.status both.0)) both.2 ∙ r.1)

  inside : (d : ℕ) (r : Stamped Status) → offer d ≡ Some r → d < c.disks
  inside d r e = within.statuses d r (is_offered (is_status_of group.id) c.status set d r e).0

  module _ (d : ℕ) (r : Stamped Status) (e : offer d ≡ Some r) where
    in_set : IsTrue (set d)
    in_set = (passed_if (set d) (if_passes (is_status_of group.id) (c.status d)) r e).0

    its_marks : marks_shown s.beside group.id (c.status d) ≡ Some (as_marks s.beside r)
    its_marks = ap (option_map (as_marks s.beside)) (passed_if (set d) (if_passes (is_status_of group.id) (c.status d)) r e).1

  pub finds_status : FindsStatus s group c disks
  finds_status =
      let some = someone in
      let last = is_last Status offer c.disks some.0 some.1 (inside some.0 some.1 some.2) some.2 in
      let first = is_one Status offer c.disks last.0 last.1 in
      record {
        status = last.0;
        found = last.1;
        possible = quorum_finds votes s found (view_of s.beside group c) crash set (are.reads set ∙ enough) (as_marks s.beside last.0) (record {
          disk = first.0;
          inside = in_set first.0 last.0 first.2;
          shown = its_marks first.0 last.0 first.2;
          last = λ d other member is.
              let r = shown_by s.beside (if_passes (is_status_of group.id) (c.status d)) other is in
              let e : offer d ≡ Some r.0 = let_through (set d) (if_passes (is_status_of group.id) (c.status d)) member ∙ r.1 in
              let newest = is_last Status offer c.disks d r.0 (inside d r.0 e) e in
              ap (λ (x : Stamped Marks). stamp_lt last.0.stamp x.stamp) r.2
              ∙ ap (λ (x : Stamped Status). stamp_lt x.stamp r.0.stamp) (same_Some last.0 newest.0 (sym last.1 ∙ newest.1)) ∙ newest.2;
        });
      }
