-- The copies of the two disks that are worked by hand.
use Rattle.std.proofs.Common.{◌≡◌, inl, inr, ℕ, ◌*◌, ◌<◌, Bool, true, false, ◌&&◌, ◌||◌, ◌==◌, List, [], ◌∷◌, Option, Some, None, refl, sym, ap, subst, ◌∙◌, arith}
use Rattle.std.specs.Prelude.{if◌then◌else◌}
use Rattle.std.proofs.lemmas.Bool.{eqb-true}
use Rattle.std.proofs.lemmas.List.Elements.{All-cons, All-nil}
use Rattle.lvm_num.specs.declared.place.Pp.{Pp}
use Rattle.lvm_num.specs.declared.descriptor.Mode.{Mode}
use Rattle.lvm_num.specs.declared.descriptor.Mode.TheVariants.{Active, Off}
use Rattle.lvm_num.specs.declared.descriptor.LvRow.{LvRow}
use Rattle.lvm_num.specs.Bits.{has_bit}
use Rattle.lvm_num.specs.Buffer.{zero_sector}
use Rattle.lvm_num.specs.Note.{Noted, entries_below, note_in}
use Rattle.lvm_num.proofs.Booleans.{clash}
use Rattle.lvm_disk.specs.Device.{image_of}
use Rattle.lvm_kept.specs.Contents.{Contents, contents_of}
use Rattle.lvm_kept.specs.Examples.{mirror, two, either_of}
use Rattle.lvm_kept.specs.Group.{fresh_on, is_named, names_if, IsOneOf}
use Rattle.lvm_recover.specs.passed.Even.{Pair, pair_sizes, status_of, shown_by, there_by, media_of, even_pair, torn_pair, naming, MissingAreStale}
use Rattle.lvm_recover.specs.passed.Commit.{ShowsCommitted}
use Rattle.lvm_recover.proofs.passed.Even.{both_copies, the_row, first_partition, told, behind, enough, is_naming, naming_read, shows, torn_below, valid}
use Rattle.lvm_recovery.specs.declared.copying.Recopy.{Recopy}
use Rattle.lvm_recovery.specs.Copying.{MayCopy}
use Rattle.lvm_recovery.specs.Examples.{PairsCopy, first_to_second}
use Rattle.lvm_recovery.specs.Planned.{IsPlannedCopy, ArePlanned}
use Rattle.lvm_map.specs.Places.{place_on}
use Rattle.lvm_num.specs.Geometry.{track_group_of}
use Rattle.lvm_recover.specs.Recopied.{IsToEqual}
use Rattle.lvm_recovery.proofs.PlannedLemmas.{group_of_start, planned_are_apart}

abbrev torn : Pair
torn = torn_pair Active false naming

-- both copies are usable
usable : fresh_on (there_by torn) (Some (status_of torn)) (mirror Active) 0 ≡ both_copies
unfolding has_bit
usable = refl

its_copy : IsPlannedCopy (shown_by torn) (two Active) (Some (status_of torn)) (there_by torn) first_to_second
its_copy = record {
  row = mirror Active;
  lp = 0;
  g = 0;
  volume = inl refl;
  inside = record { inside = omega arith; partition = refl };
  made = (0, refl, is_naming);
  first = record { disk = 0; pp = 0 };
  others = record { disk = 1; pp = 0 } ∷ [];
  usable = usable;
  copy = record { disk = 1; pp = 0 };
  further = inl refl;
  from = refl;
  into = refl;
}

-- the note names no other track group
named_is : (lv g : ℕ) → names_if (note_in naming) lv g ≡ ((1 == lv && 0 == g) || false)
named_is lv g = ap (λ (o : Option Noted). names_if o lv g) naming_read

only_first : (a b : Bool) → (a && b) || false ≡ true → b ≡ true
only_first true true e = refl
only_first true false e = absurd cc
only_first false b e = absurd cc

on_one : (t : Bool) (lv g : ℕ) → names_if (if t then note_in naming else None) lv g ≡ true → names_if (note_in naming) lv g ≡ true
on_one true lv g e = e
on_one false lv g e = absurd cc

same_first : (first x : Pp) (others : List Pp) → both_copies ≡ first ∷ others → IsOneOf others x → (first ≡ record { disk = 0; pp = 0 }) × (x ≡ record { disk = 1; pp = 0 })
same_first first x others e one =
    let head : first ≡ record { disk = 0; pp = 0 } = cc in
    let rest : others ≡ record { disk = 1; pp = 0 } ∷ [] = cc in
    (head, only (subst (λ (l : List Pp). IsOneOf l x) rest one))
  where
    only : IsOneOf (record { disk = 1; pp = 0 } ∷ []) x → x ≡ record { disk = 1; pp = 0 }
    only (inl is) = is
    only (inr none) = absurd none

the_copy : (one : Recopy) → IsPlannedCopy (shown_by torn) (two Active) (Some (status_of torn)) (there_by torn) one → one ≡ first_to_second
the_copy one p =
    let row_is : p.row ≡ mirror Active = the_row torn p.row p.volume in
    let lp_is : p.lp ≡ 0 = first_partition p.lp (subst (λ (r : LvRow). p.lp < r.lps) row_is p.inside.inside) in
    let made : IsToEqual (shown_by torn) (Some (status_of torn)) (there_by torn) Active p.row.number (p.g * 256) =
    subst (λ (m : Mode). IsToEqual (shown_by torn) (Some (status_of torn)) (there_by torn) m p.row.number (p.g * 256)) (ap (λ (r : LvRow). r.mode) row_is) p.made in
    let its : is_named (shown_by torn) made.0 p.row.number p.g ≡ true = ap (λ (t : ℕ). is_named (shown_by torn) made.0 p.row.number t) (sym (group_of_start p.g)) ∙ made.2 in
    let g_is : p.g ≡ 0 = sym (eqb-true 0 p.g (only_first (1 == p.row.number) (0 == p.g) (sym (named_is p.row.number p.g) ∙ on_one (either_of 0 1 made.0) p.row.number p.g its))) in
    let copies : both_copies ≡ p.first ∷ p.others = sym usable ∙ (λ t. fresh_on (there_by torn) (Some (status_of torn)) (sym row_is t) (sym lp_is t)) ∙ p.usable in
    let two_of = same_first p.first p.copy p.others copies p.further in
    let from : one.from ≡ place_on 1 (record { disk = 0; pp = 0 }) (0 * 256) = p.from ∙ (λ t. place_on 1 (two_of.0 t) (g_is t * 256)) in
    let into : one.into ≡ place_on 1 (record { disk = 1; pp = 0 }) (0 * 256) = p.into ∙ (λ t. place_on 1 (two_of.1 t) (g_is t * 256)) in
    λ t. record { from = from t; into = into t }

named : ArePlanned (shown_by torn) (two Active) (Some (status_of torn)) (there_by torn) (first_to_second ∷ [])
named = record { each = λ one among. only one among; all = λ one p. inl (the_copy one p) }
  where
    only : (one : Recopy) → IsOneOf (first_to_second ∷ []) one → IsPlannedCopy (shown_by torn) (two Active) (Some (status_of torn)) (there_by torn) one
    only one (inl is) = subst (IsPlannedCopy (shown_by torn) (two Active) (Some (status_of torn)) (there_by torn)) (sym is) its_copy
    only one (inr none) = absurd none

it_may : MayCopy pair_sizes first_to_second
it_may = record {
  from = record { there = omega arith; data_there = omega arith; within = λ size e. let is : size ≡ 16384 = cc in omega (arith, is) };
  into = record { there = omega arith; data_there = omega arith; within = λ size e. let is : size ≡ 16384 = cc in omega (arith, is) };
}

-- none is planned
no_copies : (c : Contents) (x : Pair) → ((one : Recopy) → IsPlannedCopy c (two x.mode) (Some (status_of x)) (there_by x) one → ⊥) → ArePlanned c (two x.mode) (Some (status_of x)) (there_by x) []
no_copies c x none = record { each = λ one among. absurd among; all = λ one p. absurd (none one p) }

-- sector by sector
on_disks : (sh : ShowsCommitted (contents_of (image_of pair_sizes (media_of torn))) (two Active) (status_of torn).value (there_by torn))
    × MissingAreStale (contents_of (image_of pair_sizes (media_of torn))) (two Active) (Some sh.stands) (there_by torn)
    × ArePlanned (contents_of (image_of pair_sizes (media_of torn))) (two Active) (Some sh.stands) (there_by torn) (first_to_second ∷ [])
on_disks = subst (λ (c : Contents). (sh : ShowsCommitted c (two Active) (status_of torn).value (there_by torn)) × MissingAreStale c (two Active) (Some sh.stands) (there_by torn) × ArePlanned c (two Active) (Some sh.stands) (there_by torn) (first_to_second ∷ []))
    (sym (told torn torn_below)) (shows torn, behind torn, named)

zeros_name : (t : Bool) (lv group : ℕ) → names_if (if t then note_in zero_sector else None) lv group ≡ false
unfolding entries_below
zeros_name true lv group = refl
zeros_name false lv group = refl

abbrev quiet_pair : Pair
quiet_pair = even_pair Active false false zero_sector

pub pairs_copy : PairsCopy
pairs_copy = record {
  named = named;
  ranges = All-cons (MayCopy pair_sizes) first_to_second [] it_may (All-nil (MayCopy pair_sizes));
  apart = planned_are_apart (shown_by torn) (two Active) (Some (status_of torn)) (there_by torn) (first_to_second ∷ []) (valid Active) named.each;
  may = record {
    may = record { media = media_of torn; told = refl; valid = valid Active; enough = enough torn; shows = on_disks.0; none_behind = on_disks.1 };
    planned = on_disks.2;
    targets_there = λ d target. target;
  };
  off = no_copies (shown_by (torn_pair Off false naming)) (torn_pair Off false naming)
      (λ one p. subst (λ (m : Mode). IsToEqual (shown_by (torn_pair Off false naming)) (Some (status_of (torn_pair Off false naming))) (there_by (torn_pair Off false naming)) m p.row.number (p.g * 256))
      (ap (λ (r : LvRow). r.mode) (the_row (torn_pair Off false naming) p.row p.volume)) p.made);
  quiet = no_copies (shown_by quiet_pair) quiet_pair (λ one p.
      let made : IsToEqual (shown_by quiet_pair) (Some (status_of quiet_pair)) (there_by quiet_pair) Active p.row.number (p.g * 256) =
      subst (λ (m : Mode). IsToEqual (shown_by quiet_pair) (Some (status_of quiet_pair)) (there_by quiet_pair) m p.row.number (p.g * 256)) (ap (λ (r : LvRow). r.mode) (the_row quiet_pair p.row p.volume)) p.made in
      clash (is_named (shown_by quiet_pair) made.0 p.row.number (track_group_of (p.g * 256))) made.2 (zeros_name (either_of 0 1 made.0) p.row.number (track_group_of (p.g * 256))));
}
