-- What is committed is read, and a turn that is over is committed.
use Rattle.std.proofs.Common.{◌≡◌, inl, inr, ⊎_elim, ℕ, Option, Some, refl, sym, ap, subst, ◌∙◌, eq-eqb}
use Rattle.std.specs.Prelude.{IsTrue}
use Rattle.std.proofs.lemmas.Bool.{eqb-true}
use Rattle.lvm_disk.specs.passed.Num.{Descriptor, Status, Disks, all_disks, CanRead, Stamped}
use Rattle.lvm_disk.proofs.passed.Num.{read_meets_write}
use Rattle.lvm_kept.specs.Group.{is_of, is_status_of, descriptor_among, Finds, members_in, status_by, fresh_on, ReadsGroup, IsSome}
use Rattle.lvm_kept.specs.Kept.{BlocksKept}
use Rattle.lvm_kept.proofs.CommittedLemmas.Finding.{finding_reads, finds_from}
use Rattle.lvm_change_laws.specs.Turning.{DoesFor}
use Rattle.lvm_change_laws.specs.Committed.{CommittedIsRead, CommittedServes, TurnIsCommitted}
use Rattle.lvm_change_laws.proofs.Words.{newest_looked}
use Rattle.lvm_change_laws.proofs.TurningLemmas.{turn_is_done}

pub committed_is_read : CommittedIsRead
committed_is_read c group status there within enough shows b can =
    let own : shows.stands.value.id ≡ group.id = ap (λ (s : Status). s.id) shows.committed ∙ shows.own in
    let both = read_meets_write group (members_in c b group.id group) there can enough in
    ⊎_elim (λ e. e) (λ e. e)
    (newest_looked Status (is_status_of group.id) c.status (members_in c b group.id group) c.disks shows.stands shows.stands (eq-eqb shows.stands.value.id group.id own) (eq-eqb shows.stands.value.id group.id own) (inl refl)
    (λ d r looks is its. ⊎_elim (λ low. inl low) (λ same. inr (inl same)) (shows.last d r is (eqb-true r.value.id group.id its)))
    both.0 both.2 (inl (shows.stated both.0 both.3)) within.statuses)

pub committed_serves : CommittedServes
committed_serves c group status there facts within enough shows kept = record { volumes = λ lv. kept.agrees.volumes all_disks group.id group shows.found lv; by_was = does; by_is = does }
  where
    reads : ReadsGroup c all_disks group.id group
    reads = (finding_reads c all_disks group.id group shows.found).reads

    read : status_by c all_disks group.id group ≡ Some shows.stands
    read = committed_is_read c group status there within enough shows all_disks reads.enough

    does : DoesFor c facts group shows.stands
    does = record {
      blocks = subst (λ (s : Option (Stamped Status)). BlocksKept c facts group (members_in c all_disks group.id group) s) read (kept.lasting.across all_disks group.id group group reads (all_disks, shows.found));
      some = λ row lp one inside. subst (λ (s : Option (Stamped Status)). IsSome (fresh_on (members_in c all_disks group.id group) s row lp)) read (kept.lasting.some all_disks group.id group group reads (all_disks, shows.found) row lp one inside);
    }

pub turn_is_committed : TurnIsCommitted
unfolding descriptor_among
turn_is_committed c g h written there next status stands within t = record {
  found = subst (λ (x : Descriptor). Finds c all_disks h.id x) t.value finds_all;
  only = λ disks k f. turn_is_done c g h written next within t.two.id t.value t.finds t.have t.latest meets_g meets_h disks k (subst (λ (n : ℕ). Finds c disks n k) (sym t.two.id) f);
  descriptor = next;
  value = t.value;
  latest = λ d r e its. t.latest d r e (its ∙ sym t.two.id);
  described = λ d is. t.have d (t.among d is);
  room = t.room;
  own = t.own;
  stands = stands;
  committed = t.committed;
  stated = t.stated;
  last = t.last;
}
  where
    own : next.value.id ≡ h.id
    own = ap (λ (x : Descriptor). x.id) t.value

    meets_g : (a : Disks) → CanRead g a → (d : ℕ) × IsTrue (a d) × IsTrue (written d)
    meets_g a can = let m = read_meets_write g a written can t.enough in (m.0, m.2, m.3)

    meets_h : (a : Disks) → CanRead h a → (d : ℕ) × IsTrue (a d) × IsTrue (written d)
    meets_h a can = let m = read_meets_write h a written can t.enough_too in (m.0, m.2, m.3)

    can_all : CanRead h (members_in c all_disks h.id h)
    can_all = subst (λ (n : ℕ). CanRead h (members_in c all_disks n h)) t.two.id t.reads

    newest : descriptor_among c all_disks h.id ≡ Some next
    newest =
        let m = meets_h (members_in c all_disks h.id h) can_all in
        ⊎_elim (λ e. e) (λ e. e)
        (newest_looked Descriptor (is_of h.id) c.descriptor all_disks c.disks next next (eq-eqb next.value.id h.id own) (eq-eqb next.value.id h.id own) (inl refl)
        (λ e r looks shows its. ⊎_elim (λ low. inl low) (λ same. inr (inl same)) (t.latest e r shows (eqb-true r.value.id h.id its ∙ sym t.two.id)))
        m.0 refl (inl (t.have m.0 m.2)) within.descriptors)

    finds_all : Finds c all_disks h.id next.value
    finds_all = finds_from c all_disks h.id next newest (subst (λ (x : Descriptor). CanRead x (members_in c all_disks h.id x)) (sym t.value) can_all)
