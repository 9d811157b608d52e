-- The two disks that are worked by hand are recovered.
use Rattle.std.proofs.Common.{◌≡◌, ◌⊎◌, inl, inr, ℕ, ◌<◌, Bool, true, false, List, [], ◌∷◌, Some, None, refl, sym, ap, subst, ◌∙◌, arith}
use Rattle.std.specs.Prelude.{IsFalse, ◌==◌, nat_lt, get_or, if◌then◌else◌}
use Rattle.std.proofs.lemmas.Bool.{eqb-true}
use Rattle.lvm_num.specs.declared.place.Pp.{Pp}
use Rattle.lvm_num.specs.declared.descriptor.Mode.{Mode}
use Rattle.lvm_num.specs.declared.descriptor.Mode.TheVariants.{Active, Passive, Off}
use Rattle.lvm_num.specs.declared.descriptor.LvRow.{LvRow}
use Rattle.lvm_num.specs.Bits.{has_bit}
use Rattle.lvm_num.specs.Buffer.{Sector, zero_sector}
use Rattle.lvm_num.specs.Geometry.{data_start}
use Rattle.lvm_num.specs.Note.{note_in}
use Rattle.lvm_kept.specs.Contents.{Contents}
use Rattle.lvm_kept.specs.Examples.{mirror, two, either_of, ones, torn_mirror}
use Rattle.lvm_kept.specs.Group.{fresh_on, IsBlockOf, IsOneOf, HoldOne}
use Rattle.lvm_kept.specs.Kept.{Kept}
use Rattle.lvm_even.specs.passed.Commit.{ShowsCommitted}
use Rattle.lvm_even.specs.Even.{IsEven, MissingAreStale}
use Rattle.lvm_even.specs.Examples.{Pair, status_of, shown_by, there_by, media_of, device_of, even_pair, torn_pair, history_of, naming}
use Rattle.lvm_even.proofs.ExamplesLemmas.Slots.{first_partition}
use Rattle.lvm_even.proofs.ExamplesLemmas.Pairs.{both_copies, the_row}
use Rattle.lvm_even.proofs.ExamplesLemmas.Sectors.{told}
use Rattle.lvm_even.proofs.ExamplesLemmas.Examples.{valid, within, enough, shows, behind, zeros_even, torn_below, is_naming, active_torn, passive_torn}
use Rattle.lvm_recover.specs.Recopied.{IsToEqual, IsFromFirst, IsRecopied, HoldFirst, AreEqualled, OnlyNotesOf}
use Rattle.lvm_recover.specs.Keeping.{MayRecover}
use Rattle.lvm_recover.specs.Examples.{IsRecoveredPair, PairsRecover}

differ : ones ≡ zero_sector → ⊥
differ e = absurd (omega (arith, ap (λ (s : Sector). get_or s 0 0) e))

module _ (mode : Mode) (dirty : Bool) (note : Sector) (on : mode ≡ Off → ⊥) where
  abbrev old : Pair
  old = torn_pair mode dirty note

  abbrev copied : Pair
  copied = even_pair mode dirty false note

  -- both copies are usable
  usable : fresh_on (there_by old) (Some (status_of old)) (mirror mode) 0 ≡ both_copies
  unfolding has_bit
  usable = refl

  here : IsBlockOf 1 (mirror mode) 0 0
  here = record { inside = omega arith; partition = refl }

  uneven : IsEven (shown_by old) (two mode) (Some (status_of old)) (there_by old) → ⊥
  uneven even =
      let hold = subst (λ (ps : List Pp). HoldOne (shown_by old) 1 ps 0) usable (even (mirror mode) 0 0 (inl refl) on here) in
      differ (hold.1.1.0 ∙ sym hold.1.0)

  module _ (to_equal : IsToEqual (shown_by old) (Some (status_of old)) (there_by old) mode 1 0) where
    recopied : IsRecopied (shown_by old) (two mode) (Some (status_of old)) (there_by old) (shown_by copied)
    recopied = record { rest = refl; each = λ d s. by_low d s (nat_lt s data_start) }
      where
        by_sector : (d s : ℕ) → d ≡ 1 → (t : Bool) → (s == 4096) ≡ t → (zero_sector ≡ (if t then ones else zero_sector)) ⊎ IsFromFirst (shown_by old) (two mode) (Some (status_of old)) (there_by old) d s zero_sector
        by_sector d s first false e = inl refl
        by_sector d s first true e = inr (record {
          row = mirror mode;
          lp = 0;
          block = 0;
          volume = inl refl;
          made = to_equal;
          inside = here;
          first = record { disk = 0; pp = 0 };
          others = record { disk = 1; pp = 0 } ∷ [];
          usable = usable;
          copy = record { disk = 1; pp = 0 };
          one = inl refl;
          disk = sym first;
          sector = sym (eqb-true s 4096 e);
          value_is = refl;
        })

        by_disk : (d s : ℕ) (t : Bool) → (d == 1) ≡ t → (zero_sector ≡ (if t then (if s == 4096 then ones else zero_sector) else zero_sector)) ⊎ IsFromFirst (shown_by old) (two mode) (Some (status_of old)) (there_by old) d s zero_sector
        by_disk d s true e = by_sector d s (eqb-true d 1 e) (s == 4096) refl
        by_disk d s false e = inl refl

        by_low : (d s : ℕ) (t : Bool) → ((if t then [] else zero_sector) ≡ (if t then [] else torn_mirror d s)) ⊎ IsFromFirst (shown_by old) (two mode) (Some (status_of old)) (there_by old) d s (if t then [] else zero_sector)
        by_low d s true = inl refl
        by_low d s false = by_disk d s (d == 1) refl

    holds_first : (row : LvRow) (lp b : ℕ) → IsOneOf (two mode).lvs row → IsBlockOf 1 row lp b → HoldFirst (shown_by old) (shown_by copied) 1 (fresh_on (there_by old) (Some (status_of old)) row lp) b
    holds_first row lp b one inside =
        let is = the_row old row one in
        let none = first_partition lp (subst (λ (r : LvRow). lp < r.lps) is inside.inside) in
        subst (λ (r : LvRow). HoldFirst (shown_by old) (shown_by copied) 1 (fresh_on (there_by old) (Some (status_of old)) r lp) b) (sym is)
        (subst (λ (n : ℕ). HoldFirst (shown_by old) (shown_by copied) 1 (fresh_on (there_by old) (Some (status_of old)) (mirror mode) n) b) (sym none)
        (subst (λ (ps : List Pp). HoldFirst (shown_by old) (shown_by copied) 1 ps b) (sym usable) (refl, (refl, tt))))

    equalled : AreEqualled (shown_by old) (two mode) (Some (status_of old)) (there_by old) (shown_by copied)
    equalled row lp b one inside made = holds_first row lp b one inside

-- on a still shelf
may : (x : Pair) → ((d s : ℕ) → s < 4096 → x.stands d s ≡ zero_sector) → MayRecover (two x.mode) (status_of x).value (there_by x) (device_of x)
may x below =
    let both = subst (λ (c : Contents). (shows : ShowsCommitted c (two x.mode) (status_of x).value (there_by x)) × MissingAreStale c (two x.mode) (Some shows.stands) (there_by x)) (sym (told x below)) (shows x, behind x) in
    record { media = media_of x; told = refl; valid = valid x.mode; enough = enough x; shows = both.0; none_behind = both.1 }

-- where the notes of the two alone differ
emptied : (mode : Mode) (dirty : Bool) (note : Sector) → OnlyNotesOf (there_by (torn_pair mode dirty note)) (shown_by (even_pair mode dirty false note)) (shown_by (even_pair mode dirty false zero_sector))
emptied mode dirty note = record { rest = refl; others = λ d away. by d (either_of 0 1 d) away }
  where
    by : (d : ℕ) (t : Bool) → IsFalse t → (if t then note_in zero_sector else None) ≡ (if t then note_in note else None)
    by d true away = absurd cc
    by d false away = refl

module _ (mode : Mode) (dirty : Bool) (note : Sector) (on : mode ≡ Off → ⊥) (to_equal : IsToEqual (shown_by (torn_pair mode dirty note)) (Some (status_of (torn_pair mode dirty note))) (there_by (torn_pair mode dirty note)) mode 1 0)
    (is_kept : Kept (shown_by (torn_pair mode dirty note)) (history_of mode true)) where
  recovered : IsRecoveredPair (torn_pair mode dirty note) (even_pair mode dirty false note) (even_pair mode dirty false zero_sector) (history_of mode true)
  recovered = record {
    valid = valid mode;
    may = may (torn_pair mode dirty note) torn_below;
    within = within (torn_pair mode dirty note);
    enough = enough (torn_pair mode dirty note);
    shows = shows (torn_pair mode dirty note);
    kept = is_kept;
    behind = behind (torn_pair mode dirty note);
    uneven = uneven mode dirty note on;
    to_equal = to_equal;
    recopied = recopied mode dirty note on to_equal;
    moved = λ e. differ (sym e);
    equalled = equalled mode dirty note on to_equal;
    emptied = emptied mode dirty note;
    even = zeros_even mode dirty false zero_sector (either_of 0 1);
  }

pub pairs_recover : PairsRecover
pairs_recover = record {
  active = recovered Active false naming (λ e. absurd cc) (0, refl, is_naming) active_torn;
  passive = recovered Passive true zero_sector (λ e. absurd cc) refl passive_torn;
}
