-- The sessions that are worked by hand are settled.
use Rattle.std.proofs.Common.{◌≡◌, ⊎_elim, ℕ, zero, suc, ◌+◌, ◌<◌, Bool, true, false, ◌&&◌, ◌||◌, not, [], ◌∷◌, take, is_some, Option, Some, None, refl, sym, ap, subst, ◌∙◌, arith}
use Rattle.std.specs.Prelude.{IsTrue, IsFalse, ◌==◌, if◌then◌else◌, option_and_then, slice_index_or}
use Rattle.std.proofs.lemmas.Option.{same_Some}
use Rattle.std.proofs.lemmas.Bool.{eqb-true, ne_eqb}
use Rattle.std.proofs.lemmas.List.{length-replicate}
use Rattle.std.proofs.lemmas.List.Elements.{All-cons, All-nil}
use Rattle.lvm_num.specs.declared.descriptor.Mode.{Mode}
use Rattle.lvm_num.specs.declared.descriptor.PvRow.{PvRow}
use Rattle.lvm_num.specs.declared.record.Kind.{Kind}
use Rattle.lvm_num.specs.declared.record.Kind.TheVariants as kind
use Rattle.lvm_num.specs.Buffer.{Sector, zero_sector}
use Rattle.lvm_num.specs.Note.{IsEntry}
use Rattle.lvm_num.specs.DescriptorBytes.{descriptor_of}
use Rattle.lvm_num.specs.StatusBytes.{status_of as read_status}
use Rattle.lvm_num.specs.Disks.{Disks, has}
use Rattle.lvm_num.specs.declared.descriptor.Descriptor.{Descriptor}
use Rattle.lvm_num.specs.Record.{Stamped, slot_start, slot_size, kind_magic, stamp_lt}
use Rattle.lvm_num.specs.Torn.{stamp_of}
use Rattle.lvm_num.specs.Votes.{CanWrite}
use Rattle.lvm_num.specs.declared.record.Framed.{Framed}
use Rattle.lvm_rec.specs.Slots.{held, slot_of, read_under, slot_to_write}
use Rattle.lvm_disk.specs.Device.{Image, image_of, MayLeave}
use Rattle.lvm_vol.specs.declared.entry.Vol.TheVariants.{Lv}
use Rattle.lvm_kept.specs.Contents.{Contents, contents_of}
use Rattle.lvm_kept.specs.Examples.{stamped, member, two, either_of}
use Rattle.lvm_kept.specs.Group.{IsOneFound}
use Rattle.lvm_kept.proofs.CommittedLemmas.Alike.{one_shown_is_one}
use Rattle.lvm_kept.specs.Kept.{Kept}
use Rattle.lvm_kept.specs.Moments.{Calm}
use Rattle.lvm_steps.specs.Behind.{StampsBefore}
use Rattle.lvm_core.specs.passed.Write.{SparesNewest}
use Rattle.lvm_core.specs.passed.Commit.{ShowsCommitted, HoldsCommitted}
use Rattle.lvm_mwc.specs.Cache.{Cached, has_disk, no_notes}
use Rattle.lvm_mwc.specs.declared.notes.DiskNotes.{DiskNotes}
use Rattle.lvm_session.specs.State.{Core, state, is_there}
use Rattle.lvm_session.specs.declared.open.Power.TheVariants as power
use Rattle.lvm_session.proofs.WorkedLemmas.Parts.{none_written}
use Rattle.lvm_core.specs.Sound.{IsFittingAtRest, HasNothingUnderWay, IsSoundAtRest}
use Rattle.lvm_session.specs.Placed.{IsPlaced}
use Rattle.lvm_core.proofs.SoundLemmas.Beginning.{no_entries}
use Rattle.lvm_core.proofs.SoundLemmas.Own.{sound_ready}
use Rattle.lvm_even.specs.Even.{IsEven, MissingAreStale}
use Rattle.lvm_even.specs.Examples.{Pair, status_of, pair_sizes, framed_group, framed_status, shown_by, media_of, device_of, there_by, history_of, even_pair, naming_note}
use Rattle.lvm_even.proofs.ExamplesLemmas.Pairs.{the_descriptor}
use Rattle.lvm_even.proofs.ExamplesLemmas.Slots.{group_read, no-magic}
use Rattle.lvm_even.proofs.ExamplesLemmas.Sectors.{status_read, group_first, status_first, stands_else, second_zero, second_none, room, told}
use Rattle.lvm_even.proofs.ExamplesLemmas.Examples.{valid, there_in, at_both, enough, shows, behind, zeros_even, pairs_rest}
use Rattle.lvm_settled.specs.Examples.{core_of, noted_cache, noted_core, IsSettledPair, PairsSettle}

-- ---- who is there

-- the members that aren't missing are those of the pair
pub there_at : (lost : Bool) (x : Pair) (d : ℕ) → is_there (core_of (record x { lost = lost })) d ≡ there_by (record x { lost = lost }) d
there_at lost x d = by (d == 0) (d == 1) refl refl
  where
    at : Bool → ℕ → Type 0
    at l n = is_there (core_of (record x { lost = l })) n ≡ there_by (record x { lost = l }) n

    at_zero : (l : Bool) → at l 0
    at_zero true = refl
    at_zero false = refl

    at_one : (l : Bool) → at l 1
    at_one true = refl
    at_one false = refl

    neither : (l : Bool) → (0 == d) ≡ false → (1 == d) ≡ false → (d == 0) ≡ false → (d == 1) ≡ false → at l d
    neither true a b c e = ap (λ (t : Bool). (t || (1 == d || false)) && not ((t && false) || ((1 == d && true) || false))) a ∙ ap (λ (t : Bool). (t || false) && not ((t && true) || false)) b ∙ sym c
    neither false a b c e = ap (λ (t : Bool). (t || (1 == d || false)) && not ((t && false) || ((1 == d && false) || false))) a ∙ ap (λ (t : Bool). (t || false) && not ((t && false) || false)) b ∙ sym (ap (λ (t : Bool). if t then true else d == 1) c ∙ e)

    by : (s t : Bool) → (d == 0) ≡ s → (d == 1) ≡ t → at lost d
    by true t e f = subst (at lost) (sym (eqb-true d 0 e)) (at_zero lost)
    by false true e f = subst (at lost) (sym (eqb-true d 1 f)) (at_one lost)
    by false false e f = neither lost (ne_eqb 0 d (λ is. clash (d == 0) (ap (λ (n : ℕ). n == 0) (sym is)) e)) (ne_eqb 1 d (λ is. clash (d == 1) (ap (λ (n : ℕ). n == 1) (sym is)) f)) e f
      where
        clash : (b : Bool) → IsTrue b → IsFalse b → ⊥
        clash true g h = absurd cc
        clash false g h = absurd cc

same_there : (x : Pair) → is_there (core_of x) ≡ there_by x
same_there x = λ t d. there_at x.lost x d t

-- ---- the stamps, and the slots

-- the next records go to the second slots of both
slot_is : (d : ℕ) → IsTrue (either_of 0 1 d) → ◌≡◌ {A = ℕ} (if has 3 d then 1 else 0) 1
unfolding has
slot_is d is = at_both (λ (n : ℕ). ◌≡◌ {A = ℕ} (if has 3 n then 1 else 0) 1) refl refl d is

module _ (x : Pair) (below : (d s : ℕ) → s < 4096 → x.stands d s ≡ zero_sector) where
  abbrev image : Image
  image = image_of pair_sizes (media_of x)

  no_record : (kind : Kind) (sector : Sector) → sector ≡ zero_sector → take 2 sector ≡ kind_magic kind → stamp_lt (stamp_of sector) (record { epoch = 50; seq = 3 }) ≡ true
  no_record kind sector is magic = absurd (no-magic kind (sym (ap (take 2) is) ∙ magic))

  first_slot : (kind : Kind) (d k : ℕ) → k < slot_size kind → take 2 (media_of x d (slot_start kind 0 + k)) ≡ kind_magic kind → stamp_lt (stamp_of (media_of x d (slot_start kind 0 + k))) (record { epoch = 50; seq = 3 }) ≡ true
  first_slot kind.Descriptor d zero low magic = refl
  first_slot kind.Descriptor d (suc k) low magic = no_record kind.Descriptor (media_of x d (512 + suc k))
      (stands_else x below d (512 + suc k) (λ e. omega (arith, e)) (λ e. omega (arith, e)) (λ e. omega (arith, e)) ∙ below d (512 + suc k) (omega (arith, low))) magic
  first_slot kind.Status d zero low magic = refl
  first_slot kind.Status d (suc k) low magic = no_record kind.Status (media_of x d (64 + suc k))
      (stands_else x below d (64 + suc k) (λ e. omega (arith, e, low)) (λ e. omega (arith, e)) (λ e. omega (arith, e)) ∙ below d (64 + suc k) (omega (arith, low))) magic

  stamps : StampsBefore (record { epoch = 50; seq = 3 }) image
  stamps kind d zero there two k low magic = first_slot kind d k low magic
  stamps kind d (suc zero) there two k low magic = no_record kind (media_of x d (slot_start kind 1 + k)) (second_zero x below kind d k low) magic
  stamps kind d (suc (suc slot)) there two k low magic = absurd (omega (arith, two))

  -- the newest records stand in the first slots
  spares : (d : ℕ) → IsTrue (either_of 0 1 d) → SparesNewest (record { descriptor = 3; status = 3 }) image d
  spares d is = record {
    descriptor = slot_is d is ∙ sym (λ t. slot_to_write (held_group d t) (none_group d t));
    status = slot_is d is ∙ sym (λ t. slot_to_write (held_status d t) (none_status d t));
  }
    where
      held_group : (d : ℕ) → held descriptor_of kind.Descriptor (slot_of kind.Descriptor 0 (media_of x d)) ≡ Some (stamped 2 (two x.mode))
      held_group d = ap (λ (o : Option Framed). option_and_then (λ r. read_under r.stamp (descriptor_of r.content)) o) (group_first x d) ∙ ap (read_under (framed_group x).stamp) (group_read x.mode)

      none_group : (d : ℕ) → held descriptor_of kind.Descriptor (slot_of kind.Descriptor 1 (media_of x d)) ≡ None
      none_group d = ap (λ (o : Option Framed). option_and_then (λ r. read_under r.stamp (descriptor_of r.content)) o) (second_none x below kind.Descriptor d)

      held_status : (d : ℕ) → held read_status kind.Status (slot_of kind.Status 0 (media_of x d)) ≡ Some (status_of x)
      held_status d = ap (λ (o : Option Framed). option_and_then (λ r. read_under r.stamp (read_status r.content)) o) (status_first x d) ∙ ap (read_under (framed_status x).stamp) (status_read x x.dirty x.lost)

      none_status : (d : ℕ) → held read_status kind.Status (slot_of kind.Status 1 (media_of x d)) ≡ None
      none_status d = ap (λ (o : Option Framed). option_and_then (λ r. read_under r.stamp (read_status r.content)) o) (second_none x below kind.Status d)

  -- a crash leaves what stands there
  left_is : (i : Image) → MayLeave (device_of x) i → i ≡ image
  left_is i crash =
      let sector : (d s : ℕ) → i.sector d s ≡ media_of x d s = λ d s. ⊎_elim (λ same. same) (λ none. absurd none) (crash.each d s) in
      λ t. record { disks = crash.same.disks t; size = λ d. crash.same.size d t; sector = λ d s. sector d s t }

-- ---- the session

-- its parts are of one group
fits : (x : Pair) → IsFittingAtRest (core_of x)
fits x = record {
  valid = valid x.mode;
  id = refl;
  rows = λ disk. refl;
  group = refl;
  entries = no_entries;
  notes = λ disk. note_at (0 == disk) (1 == disk);
  most = omega arith;
  queue = refl;
  a_buffer = omega arith;
  buffers = omega arith;
  last = length-replicate {A = ℕ} 512 0;
  forgotten = λ none. none_written;
}
  where
    note_at : (s t : Bool) → is_some (if s then Some (no_notes 0) else if t then Some (no_notes 1) else None) ≡ s || (t || false)
    note_at true t = refl
    note_at false true = refl
    note_at false false = refl

-- each member has the sectors that it needs
of_two : (k : ℕ) (row : PvRow) → k < 2 → slice_index_or (member 0 ∷ member 1 ∷ []) k row ≡ row → IsPlaced pair_sizes 1 row
of_two zero row low is = subst (IsPlaced pair_sizes 1) is (record { there = omega arith; within = λ size e. let same : 16384 ≡ size = same_Some 16384 size e in omega (arith, same) })
of_two (suc zero) row low is = subst (IsPlaced pair_sizes 1) is (record { there = omega arith; within = λ size e. let same : 16384 ≡ size = same_Some 16384 size e in omega (arith, same) })
of_two (suc (suc k)) row low is = absurd (omega (arith, low))

sound : (x : Pair) → IsSoundAtRest (state (device_of x) (core_of x))
sound x = sound_ready (device_of x) (core_of x) (fits x) (record { requests = refl; copy = refl }) (λ id. refl) (λ row one there. of_two one.0 row one.1 one.2) refl refl
    (λ stuck. absurd (let e : power.On ≡ power.Stuck = stuck in cc)) (record { flights = refl; freed = refl; power = refl })

quiet : (x : Pair) → HasNothingUnderWay (core_of x)
quiet x = record { requests = refl; copy = refl; status = refl; notes = λ disk. none (0 == disk) (1 == disk); buffers = refl }
  where
    none : (s t : Bool) → option_and_then (λ (n : DiskNotes). n.flight) (if s then Some (no_notes 0) else if t then Some (no_notes 1) else None) ≡ None
    none true t = refl
    none false true = refl
    none false false = refl

-- the note of a disk after a write
abbrev written_note : ℕ → DiskNotes
written_note disk = record (no_notes disk) { written = record { items = naming_note.entries } }

-- after a write it has the same disks' notes, and none in flight
noted_disk : (x : Pair) (disk : ℕ) → has_disk noted_cache disk ≡ has_disk (core_of x).cache disk
noted_disk x disk = by (0 == disk) (1 == disk)
  where
    by : (s t : Bool) → is_some (if s then Some (written_note 0) else if t then Some (written_note 1) else None) ≡ is_some (if s then Some (no_notes 0) else if t then Some (no_notes 1) else None)
    by true t = refl
    by false true = refl
    by false false = refl

noted_quiet : (x : Pair) → HasNothingUnderWay (noted_core x)
noted_quiet x = record { requests = refl; copy = refl; status = refl; notes = λ disk. none (0 == disk) (1 == disk); buffers = refl }
  where
    none : (s t : Bool) → option_and_then (λ (n : DiskNotes). n.flight) (if s then Some (written_note 0) else if t then Some (written_note 1) else None) ≡ None
    none true t = refl
    none false true = refl
    none false false = refl

noted_sound : (x : Pair) → IsSoundAtRest (state (device_of x) (noted_core x))
noted_sound x =
    let first = sound x in
    record {
      fitting = record {
        valid = first.fitting.valid;
        id = first.fitting.id;
        rows = first.fitting.rows;
        group = first.fitting.group;
        entries = record { most = omega arith; differ = (refl, tt); counting = All-cons IsEntry (record { lv = 1; group = 0 }) [] (record { some_lv = λ e. omega (arith, e); lv = omega arith; group = omega arith }) (All-nil IsEntry) };
        notes = λ disk. noted_disk x disk ∙ first.fitting.notes disk;
        most = first.fitting.most;
        queue = first.fitting.queue;
        a_buffer = first.fitting.a_buffer;
        buffers = first.fitting.buffers;
        last = first.fitting.last;
        forgotten = first.fitting.forgotten;
      };
      none = record { requests = first.none.requests; copy = first.none.copy };
      landed = first.landed;
      placed = first.placed;
      buffers = first.buffers;
      none_lost = first.none_lost;
      quiet = λ none. refl;
      lit = first.lit;
      dark = first.dark;
      heard = first.heard;
    }

-- ---- the history

no_write : (mode : Mode) (cut : Bool) → Calm (history_of mode cut)
no_write mode false vol b = refl
no_write mode true vol b = refl

-- ---- all of it

abbrev IsShownEven : Pair → Disks → Contents → Type 0
IsShownEven x set c = (sh : ShowsCommitted c (two x.mode) (status_of x).value set) × IsEven c (two x.mode) (Some sh.stands) set × MissingAreStale c (two x.mode) (Some sh.stands) set

abbrev IsHeldEven : Pair → Disks → Type 0
IsHeldEven x set = (h : HoldsCommitted (image_of pair_sizes (media_of x)) (two x.mode) (status_of x).value set (record { epoch = 50; seq = 2 }) (record { descriptor = 3; status = 3 }))
    × IsEven (contents_of (image_of pair_sizes (media_of x))) (two x.mode) (Some h.shows.stands) set × MissingAreStale (contents_of (image_of pair_sizes (media_of x))) (two x.mode) (Some h.shows.stands) set

-- a session with this cache
module _ (mode : Mode) (dirty lost cut : Bool) (note : Sector) (cache : Cached) where
  abbrev x : Pair
  x = even_pair mode dirty lost note

  abbrev core : Core
  core = record (core_of x) { cache = cache }

  below : (d s : ℕ) → s < 4096 → x.stands d s ≡ zero_sector
  below d s low = refl

  settles : IsSoundAtRest (state (device_of x) core) → HasNothingUnderWay core → IsSettledPair core x mode cut
  settles sound quiet =
      let rests = pairs_rest.even mode dirty lost cut note in
      let shown : IsShownEven x (there_by x) (contents_of (image_of pair_sizes (media_of x))) = subst (IsShownEven x (there_by x)) (sym (told x below)) (shows x, zeros_even mode dirty lost note (there_by x), behind x) in
      let held_even : IsHeldEven x (is_there core) = subst (IsHeldEven x) (sym (same_there x))
      (record { shows = shown.0; stamps = stamps x below; there = λ d is. room x below d ∙ there_in x d is; homes = λ d is. spares x below d (there_in x d is) }, shown.1, shown.2) in
      record {
        known = record {
          told = refl;
          sound = sound;
          settled = record { power = refl; quiet = quiet; committed = refl; epoch = λ e. omega (arith, e); votes = subst (CanWrite (two mode)) (sym (same_there x)) (enough x) };
          held = held_even.0;
          holds = record {
            legal = rests.at_rest.legal;
            kept = λ i crash. subst (λ (j : Image). Kept (contents_of j) (history_of mode cut)) (sym (left_is x below i crash)) (subst (λ (c : Contents). Kept c (history_of mode cut)) (sym (told x below)) rests.at_rest.kept);
          };
          only = λ i crash. subst (λ (j : Image). IsOneFound (contents_of j)) (sym (left_is x below i crash)) (subst (λ (c : Contents). IsOneFound c) (sym (told x below))
              (one_shown_is_one (shown_by x) (λ d e r s is also. ap (λ (t : Stamped Descriptor). t.value.id) (the_descriptor x d r is ∙ sym (the_descriptor x e s also)))));
        };
        carried = record {
          calm = no_write mode cut;
          even = held_even.1;
          behind = held_even.2;
        };
      }

pub pairs_settle : PairsSettle
pairs_settle = record {
  first = λ mode dirty lost cut note. let x : Pair = even_pair mode dirty lost note in settles mode dirty lost cut note (core_of x).cache (sound x) (quiet x);
  noted = λ mode dirty lost cut note. let x : Pair = even_pair mode dirty lost note in settles mode dirty lost cut note noted_cache (noted_sound x) (noted_quiet x);
  begun = λ mode calm. absurd (cc (calm (Lv 1) 0));
}
