-- A session is tied as it begins.
use Rattle.std.proofs.Common.{◌≡◌, ℕ, Bool, true, false, ◌&&◌, not, List, Option, Some, None, refl, sym, ap, subst, ◌∙◌}
use Rattle.std.specs.Prelude.{IsTrue, count_by, option_and_then, if◌then◌else◌}
use Rattle.lvm_num.specs.declared.status.Status.{Status}
use Rattle.lvm_num.specs.Descriptor.{is_member}
use Rattle.lvm_num.specs.Status.{calls_missing}
use Rattle.lvm_num.specs.Votes.{all_disks}
use Rattle.lvm_vol.specs.Facts.{Fact}
use Rattle.lvm_vol.specs.Legal.{begins_in}
use Rattle.lvm_disk.specs.Device.{Media}
use Rattle.lvm_disk.proofs.PathsLemmas.{last-path}
use Rattle.lvm_kept.specs.Contents.{Contents}
use Rattle.lvm_kept.specs.Moments.{Moment, StaysCalm}
use Rattle.lvm_steps.specs.Moments.{RunBegins, Keeps, Upholds}
use Rattle.lvm_steps.proofs.GroupLemmas.Members.{member_of_parts}
use Rattle.lvm_tie.proofs.passed.Commit.{shows_group}
use Rattle.lvm_mwc.specs.declared.notes.DiskNotes.{DiskNotes}
use Rattle.lvm_mwc.specs.Cache.{flight_on, no_notes}
use Rattle.lvm_status.specs.Update.{Updates}
use Rattle.lvm_session.specs.State.{Core, State, is_there}
use Rattle.lvm_session_start.specs.declared.parts.Parts.{Parts}
use Rattle.lvm_session_start.specs.Parts.{IsReserved}
use Rattle.lvm_tie.specs.Tied.{IsTied, moment_of}
use Rattle.lvm_tie.specs.Begins.{BeginsGood, BeginsSound, BeginsTied, FollowsOn, IsCoreAtRest, MembersShow, StandsAtRest, Start, begun, shown_to}
use Rattle.lvm_tie.proofs.BeginsLemmas.Resting.{rest_ties}

-- where no disk is missing but those that were at first, each other member shows the group
pub first_members : (s : State) (media : Media) → StandsAtRest s media → s.core.status.wanted ≡ s.core.origin.table → MembersShow s media
first_members s media stands first d member present =
    let core : Core = s.core in
    let there : IsTrue (is_there core d) = ap (λ (t : Status). is_member core.descriptor d && not (calls_missing t d)) first ∙ (λ k. member k && not (present k)) in
    member_of_parts (shown_to s media) all_disks core.descriptor.id core.descriptor d refl (shows_group (shown_to s media) core.descriptor core.status.committed (is_there core) stands.held.shows d there) (stands.held.shows.room d there)

module _ (b : Start) (media : Media) (first : BeginsSound b) (stands : StandsAtRest (begun b) media) where
  abbrev s : State
  s = begun b

  abbrev core : Core
  core = s.core

  abbrev p : Parts
  p = b.parts

  abbrev c : Contents
  c = shown_to s media

  its : IsReserved p.descriptor p.table p.room p
  its = first.may.reserved

  none_flies : (disk : ℕ) → flight_on core.cache disk ≡ None
  none_flies disk = ap (λ (o : Option DiskNotes). option_and_then (λ (n : DiskNotes). n.flight) o) (its.cache.notes disk) ∙ by (is_member p.descriptor disk)
    where
      by : (t : Bool) → option_and_then (λ (n : DiskNotes). n.flight) (if t then Some (no_notes disk) else None) ≡ None
      by true = refl
      by false = refl

  rests : IsCoreAtRest core
  rests = record {
    requests = its.requests;
    copy = refl;
    flying = its.flying;
    in_flight = ap (λ (u : Updates). u.in_flight) its.status;
    committed = ap (λ (u : Updates). u.committed) its.status ∙ sym (ap (λ (u : Updates). u.wanted) its.status);
    notes = none_flies;
  }

  members : MembersShow s media
  members = first_members s media stands (ap (λ (u : Updates). u.wanted) its.status)

  pub ties : (past : List Fact) → FollowsOn past s → IsTied past s
  ties past follows = rest_ties past s media first.sound refl rests stands members follows

-- where the span leads to it, it follows on each earlier history
follows_on : (run : ℕ) (m : Moment) (s : State) → s.core.history.run ≡ run → Keeps run m (moment_of s) → StaysCalm m (moment_of s) → (past : List Fact) → RunBegins run past m → FollowsOn past s
follows_on run m s run_is keeps calm past begins = record {
  holds = let last : Upholds run m (moment_of s) = last-path keeps in last past begins;
  calm = calm past begins.calm;
  own = subst (λ (n : ℕ). count_by (begins_in n) past ≡ 0) (sym run_is) begins.own;
}

pub begins_tied : BeginsTied
begins_tied past b media first stands follows = ties b media first stands past follows

pub begins_good : BeginsGood
begins_good m b media first stands keeps calm on past begins = ties b media first stands past (follows_on b.history.run m (begun b) refl keeps calm past begins)
