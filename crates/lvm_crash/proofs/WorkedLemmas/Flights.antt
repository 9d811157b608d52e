-- Worked sessions match their shelves.
use Rattle.std.proofs.Common.{◌≡◌, ◌⊎◌, inl, inr, ⊎_elim, ℕ, ◌+◌, ◌-◌, ◌<◌, ◌≤◌, Bool, true, false, ◌&&◌, ◌||◌, ◌==◌, List, [], ◌∷◌, ◌++◌, length, replicate, Some, None, refl, sym, ap, subst, ◌∙◌, arith, eqb-true}
use Rattle.std.specs.Prelude.{IsTrue, if◌then◌else◌, nat_lt, nat_le, slice_get}
use Rattle.std.proofs.lemmas.Bool.Decides.{nat_tests}
use Rattle.std.proofs.lemmas.Option.{get_or_from_slice_get}
use Rattle.std.proofs.lemmas.List.{get_or-replicate}
use Rattle.lvm_num.specs.declared.place.Pp.{Pp}
use Rattle.lvm_num.specs.declared.descriptor.Mode.{Mode}
use Rattle.lvm_num.specs.declared.descriptor.Mode.TheVariants.{Active, Passive, Off}
use Rattle.lvm_num.specs.Buffer.{Sector, zero_sector}
use Rattle.lvm_num.specs.Geometry.{sector_of}
use Rattle.lvm_kept.specs.passed.Disk.{Flight, IsInFlight, written, image_of}
use Rattle.lvm_vol.specs.Facts.{Begun}
use Rattle.lvm_kept.specs.Contents.{contents_of}
use Rattle.lvm_kept.specs.Examples.{two}
use Rattle.lvm_invariant.specs.State.{ModelState, covers, Started}
use Rattle.lvm_num.specs.Modes.{is_active, is_passive}
use Rattle.lvm_invariant.specs.Crash.{Brings, CopyBrings}
use Rattle.lvm_invariant.specs.First.{two_disks, first_copy, second_copy, is_either, at_rest}
use Rattle.lvm_invariant.specs.Worked.{ones, asked, both_out, step_read, zero_blocks, writing, stepping}
use Rattle.lvm_invariant.proofs.FirstLemmas.{first_is_good}
use Rattle.lvm_invariant.proofs.WorkedLemmas.Writes.{each_mode_writes}
use Rattle.lvm_invariant.proofs.WorkedLemmas.Reads.{copy_is_brought_up}
use Rattle.lvm_crash.specs.Session.{Describes}
use Rattle.lvm_crash.specs.Flights.{HasOut}
use Rattle.lvm_crash.specs.Worked.{Shown, to_disk, device_of, media_of, RestMatches, WritingMatches, SteppingMatches}
use Rattle.lvm_crash.proofs.LawsLemmas.Ends.{entry_more}
use Rattle.lvm_even.proofs.Lists.{left_of, right_of, both_of}
use Rattle.lvm_crash.proofs.WorkedLemmas.Worked.{base, enough, on_either}
use Rattle.lvm_crash.proofs.WorkedLemmas.Shelf.{descriptors, no_update, Fits, describes, fits_still}

-- ---- flights

-- such a flight brings what it carries, from the first data sector on
pub record Flew (n : ℕ) (sectors : List Sector) (d s : ℕ) (value : Sector) : Type 0 where
  pub disk : d ≡ n
  pub from : 4096 ≤ s
  pub to : s < 4096 + length sectors
  pub is : slice_get sectors (s - 4096) ≡ Some value

flew : (n : ℕ) (sectors : List Sector) (d s : ℕ) (value : Sector) → written (to_disk n sectors) d s ≡ Some value → Flew n sectors d s value
flew n sectors d s value = by ((n == d) && nat_le 4096 s && nat_lt s (4096 + length sectors)) refl
  where
    by : (t : Bool) → ((n == d) && nat_le 4096 s && nat_lt s (4096 + length sectors)) ≡ t → (if t then slice_get sectors (s - 4096) else None) ≡ Some value → Flew n sectors d s value
    by true is h =
        let low : IsTrue (nat_le 4096 s) = right_of (n == d) (nat_le 4096 s) (left_of ((n == d) && nat_le 4096 s) (nat_lt s (4096 + length sectors)) is) in
        let high : IsTrue (nat_lt s (4096 + length sectors)) = right_of ((n == d) && nat_le 4096 s) (nat_lt s (4096 + length sectors)) is in
        record {
          disk = sym (eqb-true n d (left_of (n == d) (nat_le 4096 s) (left_of ((n == d) && nat_le 4096 s) (nat_lt s (4096 + length sectors)) is)));
          from = grind (arith, nat_tests);
          to = grind (arith, nat_tests);
          is = h;
        }
    by false is h = absurd cc

-- each of the flights goes to data of a disk of the group
abbrev pub AreOfData : List Flight → Type 0
AreOfData flights = (d s : ℕ) (value : Sector) → IsInFlight flights d s value → (4096 ≤ s) × IsTrue (two_disks d)

-- only the flights over blocks have to be told
out_of : (s : ModelState) (w : Shown) (flights : List Flight) → AreOfData flights
    → ((lv b : ℕ) (p : Pp) (value : Sector) → IsTrue (s.is_copy lv b p) → IsInFlight flights p.disk (sector_of (two w.mode).mib p.pp b) value → Brings s lv b p value ⊎ CopyBrings s lv b p value)
    → HasOut s (two w.mode) None (device_of w flights) (media_of w)
out_of s w flights are blocks = record {
  blocks = blocks;
  notes = λ d value is. absurd (omega (arith, (are d 8 value is).0));
  statuses = λ d at value is. let far = (are d at value is).0 in inr (omega (arith, far));
  descriptors = λ d at value is. let far = (are d at value is).0 in inr (omega (arith, far));
  raw = λ d at value none from is. hidden d (are d at value is).1 none;
}
  where
    hidden : (d : ℕ) → IsTrue (two_disks d) → (contents_of (image_of (device_of w flights).sizes (media_of w))).descriptor d ≡ None → ⊥
    hidden d there none = shown d there (sym (descriptors w d) ∙ none)
      where
        shown : (d : ℕ) → IsTrue (two_disks d) → (base w.mode).descriptor d ≡ None → ⊥
        shown d = by (d == 0) (d == 1)
          where
            by : (a b : Bool) → IsTrue (a || b) → (if (if a then true else b) then (base w.mode).descriptor 0 else None) ≡ None → ⊥
            by true b h e = absurd cc
            by false true h e = absurd cc
            by false false h e = absurd cc

-- ---- at rest

fits_rest : (mode : Mode) (stale : Bool) → Fits (record { mode = mode; stale = stale; dirty = false; named = false }) (at_rest mode stale) None
fits_rest mode stale = record { block = λ lv b p. refl; names = λ d lv g. refl; status = λ d. refl; statuses = no_update (record { mode = mode; stale = stale; dirty = false; named = false }) (at_rest mode stale) refl; beside = refl; volumes = λ facts v. v }

pub rest_matches : RestMatches
rest_matches mode stale = record {
  good = λ votes are. first_is_good votes mode stale (are.writes two_disks ∙ enough mode);
  matches = let w : Shown = record { mode = mode; stale = stale; dirty = false; named = false } in record {
    told = refl;
    describes = describes w (at_rest mode stale) None (fits_rest mode stale);
    out = out_of (at_rest mode stale) w [] (λ d s value none. absurd none) (λ lv b p value copy none. absurd none);
  };
}

-- ---- a write is out

abbrev while_writing : Mode → Shown
while_writing mode = record { mode = mode; stale = false; dirty = is_passive mode; named = is_active mode }

abbrev two_writes : List Flight
two_writes = to_disk 0 (ones ∷ []) ∷ to_disk 1 (ones ∷ []) ∷ []

fits_writing : (mode : Mode) → Fits (while_writing mode) (writing mode) None
fits_writing Active = fits_still (while_writing Active) (writing Active) (λ lv b p. refl) (λ d lv g. refl) (λ d. refl) refl refl
fits_writing Passive = fits_still (while_writing Passive) (writing Passive) (λ lv b p. refl) (λ d lv g. refl) (λ d. refl) refl refl
fits_writing Off = fits_still (while_writing Off) (writing Off) (λ lv b p. refl) (λ d lv g. refl) (λ d. refl) refl refl

its_facts : (mode : Mode) → (writing mode).facts ≡ (at_rest mode false).facts ++ Begun asked ∷ []
its_facts Active = refl
its_facts Passive = refl
its_facts Off = refl

its_copies : (mode : Mode) (lv b : ℕ) (p : Pp) → IsTrue ((writing mode).is_copy lv b p) → IsTrue ((1 == lv && nat_lt b 2048) && is_either p)
its_copies Active lv b p h = h
its_copies Passive lv b p h = h
its_copies Off lv b p h = h

started : (mode : Mode) → Started (writing mode) 1 both_out
started Active = record { there = refl; write = refl; going = refl }
started Passive = record { there = refl; write = refl; going = refl }
started Off = record { there = refl; write = refl; going = refl }

is_ones : (k : ℕ) (value : Sector) → k ≡ 0 → slice_get (ones ∷ []) k ≡ Some value → value ≡ ones
is_ones k value is h = same (sym (ap (slice_get (ones ∷ [])) is) ∙ h)
  where
    same : Some ones ≡ Some value → value ≡ ones
    same e = cc

block_is : (pp b : ℕ) → pp ≡ 0 → b < 2048 → sector_of 1 pp b < 4097 → b ≡ 0
block_is pp b none low at = omega (arith, none, low, at)

of_two : (d s : ℕ) (value : Sector) → IsInFlight two_writes d s value → (4096 ≤ s) × (s < 4097) × (value ≡ ones) × IsTrue (two_disks d)
of_two d s value (inl h) = let f = flew 0 (ones ∷ []) d s value h in (f.from, f.to, is_ones (s - 4096) value (omega (arith, f.from, f.to)) f.is, subst (λ (n : ℕ). IsTrue (two_disks n)) (sym f.disk) refl)
of_two d s value (inr (inl h)) = let f = flew 1 (ones ∷ []) d s value h in (f.from, f.to, is_ones (s - 4096) value (omega (arith, f.from, f.to)) f.is, subst (λ (n : ℕ). IsTrue (two_disks n)) (sym f.disk) refl)
of_two d s value (inr (inr none)) = absurd none

low_block : (b : ℕ) → IsTrue (nat_lt b 2048) → b < 2048
low_block b h = grind (arith, nat_tests)

write_brings : (mode : Mode) (lv b : ℕ) (p : Pp) (value : Sector) → IsTrue ((writing mode).is_copy lv b p) → IsInFlight two_writes p.disk (sector_of 1 p.pp b) value → Brings (writing mode) lv b p value
write_brings mode lv b p value copy flies =
    let f = of_two p.disk (sector_of 1 p.pp b) value flies in
    let here = its_copies mode lv b p copy in
    let low = low_block b (right_of (1 == lv) (nat_lt b 2048) (left_of (1 == lv && nat_lt b 2048) (is_either p) here)) in
    let which = on_either p (right_of (1 == lv && nat_lt b 2048) (is_either p) here) in
    let pp : p.pp ≡ 0 = ⊎_elim (λ (e : p ≡ first_copy). ap (λ (q : Pp). q.pp) e) (λ (e : p ≡ second_copy). ap (λ (q : Pp). q.pp) e) which in
    let first : b ≡ 0 = block_is p.pp b pp low f.1 in
    let volume : lv ≡ 1 = sym (eqb-true 1 lv (left_of (1 == lv) (nat_lt b 2048) (left_of (1 == lv && nat_lt b 2048) (is_either p) here))) in
    record {
      id = 1;
      req = both_out;
      started = started mode;
      over = ap (λ (n : ℕ). covers both_out n b) volume ∙ ap (λ (n : ℕ). covers both_out 1 n) first;
      flies = ⊎_elim (λ (e : p ≡ first_copy). ap both_out.targets e) (λ (e : p ≡ second_copy). ap both_out.targets e) which;
      is = f.2 ∙ sym (ap both_out.value first);
    }

pub writing_matches : WritingMatches
writing_matches mode = record {
  good = λ votes are. (each_mode_writes votes mode (are.writes two_disks ∙ enough mode)).0.reached.good;
  matches = let w = while_writing mode in record {
    told = refl;
    describes = subst (λ l. Describes (writing mode) l (two mode) None (contents_of (image_of (device_of w two_writes).sizes (media_of w)))) (sym (its_facts mode))
        (entry_more (writing mode) (two mode) None _ (at_rest mode false).facts (Begun asked) (1, refl, refl) (describes w (writing mode) None (fits_writing mode)));
    out = out_of (writing mode) w two_writes (λ d s value flies. let f = of_two d s value flies in (f.0, f.3)) (λ lv b p value copy flies. inl (write_brings mode lv b p value copy flies));
  };
}

-- ---- a copy is brought up

abbrev while_stepping : Mode → Shown
while_stepping mode = record { mode = mode; stale = true; dirty = false; named = false }

abbrev step_write : List Flight
step_write = to_disk 1 (replicate 256 zero_sector) ∷ []

fits_stepping : (mode : Mode) → Fits (while_stepping mode) (stepping mode) None
fits_stepping mode = fits_still (while_stepping mode) (stepping mode) (λ lv b p. refl) (λ d lv g. refl) (λ d. refl) refl refl

is_zeros : (k : ℕ) (value : Sector) → k < 256 → slice_get (replicate 256 zero_sector) k ≡ Some value → value ≡ zero_sector
is_zeros k value low h = sym (get_or_from_slice_get (replicate 256 zero_sector) k value zero_sector h) ∙ get_or-replicate 256 k zero_sector zero_sector low

of_step : (d s : ℕ) (value : Sector) → IsInFlight step_write d s value → (d ≡ 1) × (4096 ≤ s) × (s < 4352) × (value ≡ zero_sector)
of_step d s value (inl h) = let f = flew 1 (replicate 256 zero_sector) d s value h in (f.disk, f.from, f.to, is_zeros (s - 4096) value (omega (arith, f.from, f.to)) f.is)
of_step d s value (inr none) = absurd none

step_brings : (mode : Mode) (lv b : ℕ) (p : Pp) (value : Sector) → IsTrue ((1 == lv && nat_lt b 2048) && is_either p) → IsInFlight step_write p.disk (sector_of 1 p.pp b) value → CopyBrings (stepping mode) lv b p value
step_brings mode lv b p value here flies =
    let f = of_step p.disk (sector_of 1 p.pp b) value flies in
    let low = low_block b (right_of (1 == lv) (nat_lt b 2048) (left_of (1 == lv && nat_lt b 2048) (is_either p) here)) in
    let second : p ≡ second_copy = ⊎_elim (λ (e : p ≡ first_copy). absurd (differ (sym (ap (λ (q : Pp). q.disk) e) ∙ f.0))) (λ (e : p ≡ second_copy). e) (on_either p (right_of (1 == lv && nat_lt b 2048) (is_either p) here)) in
    record {
      step = record { target = second_copy; place = 1 };
      flies = refl;
      target = sym second;
      id = 1;
      place = refl;
      req = step_read;
      values = zero_blocks;
      there = refl;
      read = refl;
      past = refl;
      got = refl;
      over = both_of (1 == lv && nat_le 0 b) (nat_lt b (0 + 256)) (both_of (1 == lv) (nat_le 0 b) (left_of (1 == lv) (nat_lt b 2048) (left_of (1 == lv && nat_lt b 2048) (is_either p) here)) (from_zero b))
          (in_group b (low_in p.pp b (ap (λ (q : Pp). q.pp) second) low f.2));
      is = f.3;
    }
  where
    differ : ◌≡◌ {A = ℕ} 0 1 → ⊥
    differ e = absurd (omega (arith, e))

    low_in : (pp b : ℕ) → pp ≡ 0 → b < 2048 → sector_of 1 pp b < 4352 → b < 256
    low_in pp b none low at = omega (arith, none, low, at)

    from_zero : (b : ℕ) → IsTrue (nat_le 0 b)
    from_zero b = grind (arith, nat_tests)

    in_group : (b : ℕ) → b < 256 → IsTrue (nat_lt b (0 + 256))
    in_group b low = grind (arith, nat_tests)

pub stepping_matches : SteppingMatches
stepping_matches mode = record {
  good = λ votes are. (copy_is_brought_up votes mode (are.writes two_disks ∙ enough mode)).0.reached.good;
  matches = let w = while_stepping mode in record {
    told = refl;
    describes = describes w (stepping mode) None (fits_stepping mode);
    out = out_of (stepping mode) w step_write (λ d s value flies. let f = of_step d s value flies in (f.1, subst (λ (n : ℕ). IsTrue (two_disks n)) (sym f.0) refl)) (λ lv b p value copy flies. inr (step_brings mode lv b p value copy flies));
  };
}
