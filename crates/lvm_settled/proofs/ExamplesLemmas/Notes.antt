-- The notes of the sessions that are worked by hand.
use Rattle.std.proofs.Common.{◌≡◌, ℕ, Bool, true, false, ◌&&◌, Option, refl, sym, ap, subst, ◌∙◌}
use Rattle.std.specs.Prelude.{IsTrue, ◌==◌, ◌||◌}
use Rattle.std.proofs.lemmas.Bool.{false≢true}
use Rattle.lvm_num.specs.declared.descriptor.Mode.{Mode}
use Rattle.lvm_num.specs.Buffer.{Sector, zero_sector}
use Rattle.lvm_num.specs.Note.{Noted, entries_below, note_in}
use Rattle.lvm_num.proofs.Booleans.{and_true}
use Rattle.lvm_disk.specs.Device.{image_of}
use Rattle.lvm_kept.specs.Contents.{Contents, contents_of}
use Rattle.lvm_kept.specs.Group.{is_named, names_if}
use Rattle.lvm_mwc.specs.Cache.{is_named as is_named_by}
use Rattle.lvm_core.specs.Held.{NotesAreHome}
use Rattle.lvm_session.specs.State.{Core, is_there}
use Rattle.lvm_even.specs.Examples.{Pair, pair_sizes, media_of, shown_by, even_pair, naming}
use Rattle.lvm_even.proofs.ExamplesLemmas.Sectors.{told}
use Rattle.lvm_even.proofs.ExamplesLemmas.Examples.{there_in, at_both, naming_read, is_naming}
use Rattle.lvm_settled.specs.Examples.{core_of, noted_core, PairsHaveNotesHome}
use Rattle.lvm_settled.proofs.ExamplesLemmas.Examples.{there_at}

module _ (mode : Mode) (dirty lost : Bool) (note : Sector) where
  abbrev x : Pair
  x = even_pair mode dirty lost note

  shown : contents_of (image_of pair_sizes (media_of x)) ≡ shown_by x
  shown = told x (λ d s low. refl)

  -- where both disks name what the cache says
  home : (core : Core) → is_there core ≡ is_there (core_of x) → ((lv group : ℕ) → names_if (note_in note) lv group ≡ is_named_by core.cache 0 lv group)
      → ((lv group : ℕ) → names_if (note_in note) lv group ≡ is_named_by core.cache 1 lv group) → NotesAreHome core (image_of pair_sizes (media_of x))
  home core same zeroth first d lv group there =
      ap (λ (c : Contents). is_named c d lv group) shown
      ∙ at_both (λ (n : ℕ). is_named (shown_by x) n lv group ≡ is_named_by core.cache n lv group) (zeroth lv group) (first lv group) d
      (there_in x d (subst (λ (b : Bool). IsTrue b) (there_at lost x d) (subst (λ (set : ℕ → Bool). IsTrue (set d)) same there)))

  -- what the first disk's note says of the first track group
  first_named : names_if (note_in note) 1 0 ≡ is_named (contents_of (image_of pair_sizes (media_of x))) 0 1 0
  first_named = sym (ap (λ (c : Contents). is_named c 0 1 0) shown)

-- zeros name nothing
zeros_name : (lv group : ℕ) → names_if (note_in zero_sector) lv group ≡ false
unfolding entries_below
zeros_name lv group = refl

naming_is : (lv group : ℕ) → names_if (note_in naming) lv group ≡ ((1 == lv && 0 == group) || false) && true
naming_is lv group = ap (λ (o : Option Noted). names_if o lv group) naming_read ∙ sym (and_true ((1 == lv && 0 == group) || false))

pub pairs_have_notes_home : PairsHaveNotesHome
pairs_have_notes_home = record {
  first = λ mode dirty lost. home mode dirty lost zero_sector (core_of (even_pair mode dirty lost zero_sector)) refl zeros_name zeros_name;
  noted = λ mode dirty lost. home mode dirty lost naming (noted_core (even_pair mode dirty lost naming)) refl naming_is naming_is;
  left = λ mode dirty lost is. absurd (false≢true (sym (is 0 1 0 refl) ∙ sym (first_named mode dirty lost naming) ∙ is_naming));
  gone = λ mode dirty lost is. absurd (false≢true (sym (zeros_name 1 0) ∙ first_named mode dirty lost zero_sector ∙ is 0 1 0 refl));
}
