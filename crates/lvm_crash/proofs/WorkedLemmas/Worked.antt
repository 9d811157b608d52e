-- The group of worked sessions, and what its disks show.
use Rattle.std.proofs.Common.{◌≡◌, ◌⊎◌, inl, inr, ⊎_elim, ℕ, ◌<◌, ◌/◌, ◌↔◌, Bool, true, false, ◌&&◌, ◌||◌, [], ◌∷◌, Some, None, refl, sym, ap, subst, ◌∙◌, arith, replicate}
use Rattle.std.specs.Prelude.{IsTrue, ◌==◌, nat_lt, if◌then◌else◌, slice_index_or}
use Rattle.std.proofs.lemmas.Bool.{eqb-true}
use Rattle.std.proofs.lemmas.Bool.Decides.{nat_tests}
use Rattle.lvm_num.specs.declared.place.Pp.{Pp}
use Rattle.lvm_num.specs.declared.descriptor.Mode.{Mode}
use Rattle.lvm_num.specs.declared.descriptor.LvRow.{LvRow}
use Rattle.lvm_num.specs.declared.descriptor.Descriptor.{Descriptor}
use Rattle.lvm_num.specs.Bits.{has_bit}
use Rattle.lvm_num.specs.Descriptor.{copies_of, is_pp}
use Rattle.lvm_num.specs.Record.{Stamped, newest_below}
use Rattle.lvm_num.specs.Votes.{all_disks, votes_by, votes_in, is_enough_to_read, is_enough_to_write}
use Rattle.lvm_num.proofs.BitsLemmas.{has-none, has-set}
use Rattle.lvm_num.proofs.VotesLemmas.{read_meets_write}
use Rattle.lvm_vol.specs.Standing.{Open, Settled, Volume, no_volumes}
use Rattle.lvm_vol.specs.declared.entry.Vol.TheVariants.{Lv}
use Rattle.lvm_vol.specs.May.{known, unknown}
use Rattle.lvm_num.specs.Buffer.{zero_sector}
use Rattle.lvm_num.specs.Status.{calls_stale, calls_dirty}
use Rattle.lvm_num.proofs.Booleans.{or_false, and_false, same_turned, some_if}
use Rattle.lvm_kept.specs.Contents.{Contents}
use Rattle.lvm_kept.specs.Examples.{stamped, row_of, mirror, two, of_two, either_of, no_note, zeros}
use Rattle.lvm_kept.specs.Group.{descriptor_among, is_voter, has_quorum, Finds, IsFound, IsOneOf}
use Rattle.lvm_kept.specs.Kept.{StandsAs}
use Rattle.lvm_num.specs.Modes.{is_active, is_passive}
use Rattle.lvm_even.proofs.ExamplesLemmas.Slots.{first_partition}
use Rattle.lvm_invariant.specs.First.{two_disks, first_copy, second_copy, is_either, marks_with, at_rest}
use Rattle.lvm_crash.specs.Session.{as_marks, GroupStands, HasVolumes}
use Rattle.lvm_even.specs.Members.{members_showing}
use Rattle.lvm_crash.specs.Worked.{Shown, sizes, status_shown, GroupsHaveVotes}
use Rattle.lvm_even.proofs.MembersLemmas.{shown}
use Rattle.lvm_even.proofs.Lists.{left_of, right_of, both_of}

pub groups_have_votes : GroupsHaveVotes
groups_have_votes group = (
  record {
    reads = λ set. is_enough_to_read group (votes_in group set);
    writes = λ set. is_enough_to_write group (votes_in group set);
    meet = λ a b reads writes. let both = read_meets_write group a b reads writes in (both.0, both.2, both.3);
  },
  record { reads = λ set. refl; writes = λ set. refl },
)

pub enough : (mode : Mode) → IsTrue (is_enough_to_write (two mode) (votes_in (two mode) two_disks))
unfolding votes_by
enough mode = refl

within : (b : ℕ) → b / 2048 ≡ 0 → IsTrue (nat_lt b 2048)
within b is = grind (arith, nat_tests)

without : (b : ℕ) → IsTrue (nat_lt b 2048) → b / 2048 ≡ 0
without b is = let low : b < 2048 = grind (arith, nat_tests) in omega arith

-- the two copies
pub on_either : (p : Pp) → IsTrue (is_either p) → (p ≡ first_copy) ⊎ (p ≡ second_copy)
on_either p is = by (is_pp p first_copy) refl is
  where
    same : (a b : Pp) → IsTrue (is_pp a b) → a ≡ b
    same a b is =
        let disk : a.disk ≡ b.disk = eqb-true a.disk b.disk (left_of (a.disk == b.disk) (a.pp == b.pp) is) in
        let pp : a.pp ≡ b.pp = eqb-true a.pp b.pp (right_of (a.disk == b.disk) (a.pp == b.pp) is) in
        λ t. record { disk = disk t; pp = pp t }

    by : (t : Bool) → is_pp p first_copy ≡ t → IsTrue (t || is_pp p second_copy) → (p ≡ first_copy) ⊎ (p ≡ second_copy)
    by true e h = inl (same p first_copy e)
    by false e h = inr (same p second_copy h)

-- ---- the group stands

module _ (mode : Mode) where
  abbrev pub base : Contents
  base = record (of_two mode false no_note zeros) { size = λ d. slice_index_or sizes d 0 }

  the_descriptor : (d : ℕ) (r : Stamped Descriptor) → base.descriptor d ≡ Some r → r ≡ stamped 2 (two mode)
  the_descriptor d r e = some_if (either_of 0 1 d) (stamped 2 (two mode)) r e

  found : Finds base all_disks 50 (two mode)
  unfolding has_quorum is_voter descriptor_among newest_below votes_by
  found = record { quorum = refl; newest = stamped 2 (two mode); found = refl; is = refl }

  one_id : (id : ℕ) (g : Descriptor) → IsFound base id g → id ≡ 50
  one_id id g is = let s = shown base is.0 id g is.1 in sym s.of ∙ ap (λ (r : Stamped Descriptor). r.value.id) (the_descriptor s.disk s.newest s.there)

  pub stands : GroupStands base (two mode)
  stands = record {
    a_member = omega arith;
    size = omega arith;
    found = found;
    alone = λ disks id g f. inl (one_id id g (disks, f));
    only = λ disks g f. let s = shown base disks 50 g f in sym s.is ∙ ap (λ (r : Stamped Descriptor). r.value) (the_descriptor s.disk s.newest s.there);
    others = record {
      common = λ a b other g h apart r t. absurd (apart (one_id other g r.found));
      size = λ other g h apart is also. absurd (apart (one_id other g is));
      partitions = λ other g h apart is also. absurd (apart (one_id other g is));
    };
    once = λ d e r t is also ids stamps. the_descriptor d r is ∙ sym (the_descriptor e t also);
  }

  -- ---- its volume

  the_row : (row : LvRow) → IsOneOf (two mode).lvs row → row ≡ mirror mode
  the_row row (inl is) = is
  the_row row (inr none) = absurd none

  abbrev is_there : Pp → Type 0
  is_there p = IsOneOf (copies_of (mirror mode) 0) p × IsTrue (members_showing base (two mode) p.disk)

  there : (p : Pp) → IsTrue (is_either p) → is_there p
  there p is = ⊎_elim (λ (e : p ≡ first_copy). subst is_there (sym e) (inl refl, refl)) (λ (e : p ≡ second_copy). subst is_there (sym e) (inr (inl refl), refl)) (on_either p is)

  back : (p : Pp) → IsOneOf (copies_of (mirror mode) 0) p → IsTrue (is_either p)
  back p (inl e) = ap is_either e
  back p (inr (inl e)) = ap is_either e
  back p (inr (inr none)) = absurd none

  module _ (stale : Bool) where
    copies_at : (row : LvRow) → row ≡ mirror mode → (lp b : ℕ) (p : Pp) → lp ≡ 0 → b / 2048 ≡ lp
        → IsTrue ((at_rest mode stale).is_copy row.number b p) ↔ (IsOneOf (copies_of row lp) p × IsTrue (members_showing base (two mode) p.disk))
    copies_at row is lp b p none part = subst (λ (r : LvRow). IsTrue ((at_rest mode stale).is_copy r.number b p) ↔ (IsOneOf (copies_of r lp) p × IsTrue (members_showing base (two mode) p.disk))) (sym is)
        (subst (λ (n : ℕ). IsTrue ((at_rest mode stale).is_copy 1 b p) ↔ (IsOneOf (copies_of (mirror mode) n) p × IsTrue (members_showing base (two mode) p.disk))) (sym none)
        (λ h. there p (right_of (nat_lt b 2048) (is_either p) h), λ h. both_of (nat_lt b 2048) (is_either p) (within b (part ∙ none)) (back p h.0)))

    -- what the history says of a block of volume 1, if it is one
    mode_of : (t : Bool) → IsTrue t → (if t then record { values = Some (zero_sector ∷ []); open_writes = []; loose = false; mode = mode } else unknown).mode ≡ mode
    mode_of true h = refl
    mode_of false h = absurd cc

    -- and of a volume, if it is volume 1
    abbrev made : Bool → ℕ → Volume
    made t lv = if t then record { standing = Open; shape = Some (record { blocks = 2048; mode = mode }) } else no_volumes lv

    stands_as : (t : Bool) (lv : ℕ) → StandsAs 1 (if t then record (made t lv) { standing = Settled } else made t lv).standing (if t then record (made t lv) { standing = Settled } else made t lv).shape (if t then Some (mirror mode) else None)
    stands_as true lv = refl
    stands_as false lv = tt

    pub volumes : HasVolumes (at_rest mode stale) (at_rest mode stale).facts (two mode) (members_showing base (two mode))
    volumes = record {
      free = λ o is. absurd (cc is);
      copies = λ row lp b p one inside. copies_at row (the_row row one) lp b p (first_partition lp (subst (λ (r : LvRow). lp < r.lps) (the_row row one) inside.inside)) inside.partition;
      inside = λ lv b p copy.
          let low = left_of (1 == lv && nat_lt b 2048) (is_either p) copy in
          record {
            row = mirror mode;
            lp = 0;
            volume = inl refl;
            number = eqb-true 1 lv (left_of (1 == lv) (nat_lt b 2048) low);
            inside = record { inside = omega arith; partition = without b (right_of (1 == lv) (nat_lt b 2048) low) };
          };
      some = λ row lp one low.
          let is = the_row row one in
          let none = first_partition lp (subst (λ (r : LvRow). lp < r.lps) is low) in
          (first_copy, subst (λ (r : LvRow). IsOneOf (copies_of r lp) first_copy) (sym is) (subst (λ (n : ℕ). IsOneOf (copies_of (mirror mode) n) first_copy) (sym none) (inl refl)), refl);
      notes = λ row one. sym (ap (λ (r : LvRow). is_active r.mode) (the_row row one));
      mark = λ row one. sym (ap (λ (r : LvRow). is_passive r.mode) (the_row row one));
      modes = λ row lp b one inside.
          let is = the_row row one in
          let none = first_partition lp (subst (λ (r : LvRow). lp < r.lps) is inside.inside) in
          subst (λ (r : LvRow). (known (at_rest mode stale).facts (Lv r.number) b).mode ≡ r.mode) (sym is) (mode_of (nat_lt b 2048) (within b (inside.partition ∙ none)));
      history = λ lv. stands_as (1 == lv) lv;
    }

-- ---- its statuses

no_bit : (d p : ℕ) → has_bit (row_of d false).stale p ≡ false
no_bit d p = has-none 127 p

first_bit : (d p : ℕ) → has_bit (row_of d true).stale p ≡ (p == 0)
first_bit d p = has-set (replicate 127 0) 0 (omega arith) p ∙ ap (λ (t : Bool). t || (p == 0)) (has-none 127 p)

which_stale : (w : Shown) (p : Pp) → calls_stale (status_shown w).value p ≡ (w.stale && is_pp p second_copy)
which_stale w p = by w.stale
  where
    none_of_first : (0 == p.disk) && has_bit (row_of 0 false).stale p.pp ≡ false
    none_of_first = ap (λ (t : Bool). (0 == p.disk) && t) (no_bit 0 p.pp) ∙ and_false (0 == p.disk)

    by : (stale : Bool) → ((0 == p.disk) && has_bit (row_of 0 false).stale p.pp) || (((1 == p.disk) && has_bit (row_of 1 stale).stale p.pp) || false) ≡ (stale && is_pp p second_copy)
    by true = ap (λ (t : Bool). t || (((1 == p.disk) && has_bit (row_of 1 true).stale p.pp) || false)) none_of_first
        ∙ or_false ((1 == p.disk) && has_bit (row_of 1 true).stale p.pp)
        ∙ ap (λ (t : Bool). t && has_bit (row_of 1 true).stale p.pp) (same_turned 1 p.disk) ∙ ap (λ (t : Bool). (p.disk == 1) && t) (first_bit 1 p.pp)
    by false = ap (λ (t : Bool). t || (((1 == p.disk) && has_bit (row_of 1 false).stale p.pp) || false)) none_of_first
        ∙ or_false ((1 == p.disk) && has_bit (row_of 1 false).stale p.pp)
        ∙ ap (λ (t : Bool). (1 == p.disk) && t) (no_bit 1 p.pp) ∙ and_false (1 == p.disk)

which_dirty : (w : Shown) (lv : ℕ) → calls_dirty (status_shown w).value lv ≡ (w.dirty && lv == 1)
which_dirty w lv = by w.dirty
  where
    by : (dirty : Bool) → calls_dirty (record (status_shown w).value { dirty = if dirty then 1 ∷ [] else [] }) lv ≡ (dirty && lv == 1)
    by true = or_false (1 == lv) ∙ same_turned 1 lv
    by false = refl

pub its_marks : (w : Shown) → as_marks None (status_shown w) ≡ record { stamp = (status_shown w).stamp; value = marks_with w.stale w.dirty }
its_marks w = λ t. record { stamp = (status_shown w).stamp; value = record { stale = λ p. which_stale w p t; dirty = λ lv. which_dirty w lv t } }
