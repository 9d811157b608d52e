-- The groups that are worked by hand are at rest.
use Rattle.std.proofs.Common.{◌≡◌, inl, inr, ℕ, ◌<◌, ◌%◌, ◌+◌, ◌*◌, Bool, true, false, ◌&&◌, not, [], ◌∷◌, ◌++◌, Option, Some, None, refl, sym, ap, subst, ◌∙◌, arith}
use Rattle.std.specs.Prelude.{IsTrue, IsFalse, ◌==◌, ◌≢◌, nat_lt, if◌then◌else◌, AllPairs}
use Rattle.std.proofs.lemmas.List.Elements.{All-nil, All-cons}
use Rattle.std.proofs.lemmas.List.Kept.{AllPairs-cons}
use Rattle.std.proofs.lemmas.Bool.{eqb-true}
use Rattle.std.proofs.lemmas.Bool.Decides.{nat_tests}
use Rattle.lvm_num.specs.declared.place.Pp.{Pp}
use Rattle.lvm_num.specs.declared.descriptor.Mode.{Mode}
use Rattle.lvm_num.specs.declared.descriptor.Mode.TheVariants.{Active, Passive, Off}
use Rattle.lvm_num.specs.declared.descriptor.PvRow.{PvRow}
use Rattle.lvm_num.specs.declared.descriptor.LvRow.{LvRow}
use Rattle.lvm_num.specs.declared.descriptor.Descriptor.{Descriptor}
use Rattle.lvm_num.specs.Bits.{has_bit}
use Rattle.lvm_num.specs.Buffer.{Sector, zero_sector}
use Rattle.lvm_num.specs.Disks.{Disks}
use Rattle.lvm_num.specs.Descriptor.{IsMember, IsVolume, IsPartitionOf, IsLaidOut, IsValid, copies_of, volume_of}
use Rattle.lvm_num.specs.Name.{is_name}
use Rattle.lvm_num.specs.Geometry.{partition_blocks, sector_of}
use Rattle.lvm_num.specs.Note.{Noted, note_in, IsEntry}
use Rattle.lvm_num.proofs.NoteLemmas.{written_is_read}
use Rattle.lvm_num.specs.Record.{Stamped}
use Rattle.lvm_num.specs.Votes.{CanWrite, votes_by}
use Rattle.lvm_vol.specs.Facts.{Cut, is_over}
use Rattle.lvm_vol.specs.May.{Known, known, unknown, cut as after_cut, IsValue}
use Rattle.lvm_vol.specs.Legal.{Legal}
use Rattle.lvm_vol.specs.declared.entry.Vol.TheVariants.{Lv}
use Rattle.lvm_vol.specs.Standing.{Open, Settled, Volume, no_volumes, volumes_in}
use Rattle.lvm_kept.specs.Examples.{stamped, member, mirror, two, either_of, only, ones, torn_mirror}
use Rattle.lvm_kept.specs.Group.{is_stale_by, block_at, names_if, IsOneOf, has_room}
use Rattle.lvm_kept.specs.Kept.{StandsAs, IsBlockKept, Kept}
use Rattle.lvm_kept.specs.Committed.{IsWithinDisks}
use Rattle.lvm_commit.specs.Committed.{ShowsCommitted}
use Rattle.lvm_commit.proofs.LawsLemmas.Found.{shown_is_only}
use Rattle.lvm_even.proofs.Lists.{of_passing}
use Rattle.lvm_even.specs.Even.{IsEven, MissingAreStale, IsAlone, AreClosed, HoldsAtRest}
use Rattle.lvm_even.specs.Examples.{Pair, status_of, shown_by, there_by, first_write, history_of, even_pair, torn_pair, naming_note, naming, IsRestingPair, PairsRest}
use Rattle.lvm_even.proofs.ExamplesLemmas.Sectors.{told}
use Rattle.lvm_even.proofs.ExamplesLemmas.Slots.{first_partition}
use Rattle.lvm_even.proofs.ExamplesLemmas.Pairs.{both_copies, the_descriptor, the_status, id_is, found_by_all, the_row, kept}

-- ---- the history

-- what is known of a block once the volume is made, if it is one of it
abbrev made : Bool → Mode → Known
made t mode = if t then record { values = Some (zero_sector ∷ []); open_writes = []; loose = false; mode = mode } else unknown

-- and once the write has begun, if it goes over it
abbrev begun_if : Bool → Bool → Mode → Known
begun_if s t mode = if s then record (made t mode) { open_writes = first_write ∷ (made t mode).open_writes } else made t mode

zero_made : (t : Bool) (mode : Mode) (b : ℕ) → IsTrue t → IsValue (after_cut b (after_cut b (made t mode))) zero_sector
zero_made true mode b low = inl refl
zero_made false mode b low = absurd cc

zero_begun : (s t : Bool) (mode : Mode) (b : ℕ) → IsTrue t → IsValue (after_cut b (after_cut b (begun_if s t mode))) zero_sector
zero_begun true true mode b low = inl refl
zero_begun false true mode b low = inl refl
zero_begun s false mode b low = absurd cc

zero_value : (mode : Mode) (cut : Bool) (b : ℕ) → IsTrue (nat_lt b 2048) → IsValue (known (history_of mode cut ++ Cut ∷ []) (Lv 1) b) zero_sector
zero_value mode false b low = zero_made (nat_lt b 2048) mode b low
zero_value mode true b low = zero_begun (is_over first_write (Lv 1) b) (nat_lt b 2048) mode b low

pub legal : (mode : Mode) (cut : Bool) → Legal (history_of mode cut)
legal mode false = (tt, (tt, (tt, (tt, tt))))
legal mode true = (tt, (tt, (refl, (tt, (tt, tt)))))

pub closed : (mode : Mode) (cut : Bool) → AreClosed (history_of mode cut) (two mode)
closed mode false row lp b one inside = refl
closed mode true row lp b one inside = refl

abbrev made_volume : Bool → ℕ → Mode → Volume
made_volume t lv mode = if t then record { standing = Open; shape = Some (record { blocks = 2048; mode = mode }) } else no_volumes lv

abbrev settled_if : Bool → Volume → Volume
settled_if t v = if t then record v { standing = Settled } else v

once_settled : (t : Bool) (lv : ℕ) (mode : Mode) → StandsAs 1 (settled_if t (made_volume t lv mode)).standing (settled_if t (made_volume t lv mode)).shape (if t then Some (mirror mode) else None)
once_settled true lv mode = refl
once_settled false lv mode = tt

twice_settled : (t : Bool) (lv : ℕ) (mode : Mode) → StandsAs 1 (settled_if t (settled_if t (made_volume t lv mode))).standing (settled_if t (settled_if t (made_volume t lv mode))).shape (if t then Some (mirror mode) else None)
twice_settled true lv mode = refl
twice_settled false lv mode = tt

volumes : (mode : Mode) (cut : Bool) (lv : ℕ) → StandsAs 1 (volumes_in (history_of mode cut) lv).standing (volumes_in (history_of mode cut) lv).shape (volume_of (two mode) lv)
volumes mode false lv = once_settled (1 == lv) lv mode
volumes mode true lv = twice_settled (1 == lv) lv mode

-- ---- the group

pub valid : (mode : Mode) → IsValid (two mode)
unfolding is_name
valid mode = record {
  head = record { some_id = λ e. omega (arith, e); id = omega arith; name = refl; size = refl; even = λ e. absurd cc; a_member = omega arith; members = omega arith; volumes = omega arith };
  members = record {
    each = All-cons IsMember (member 0) (member 1 ∷ []) (record { disk = omega arith; a_partition = omega arith; partitions = omega arith })
        (All-cons IsMember (member 1) [] (record { disk = omega arith; a_partition = omega arith; partitions = omega arith }) (All-nil IsMember));
    disks_differ = AllPairs-cons (λ (a b : PvRow). a.disk ≢ b.disk) (member 0) (member 1 ∷ []) (All-cons (λ (b : PvRow). 0 ≢ b.disk) (member 1) [] (λ e. omega (arith, e)) (All-nil (λ (b : PvRow). 0 ≢ b.disk))) (λ i j d lt within. absurd (omega (arith, lt, within)));
  };
  volumes = record {
    each = All-cons (IsVolume false) (mirror mode) [] (record { a_number = omega arith; number = omega arith; a_copy = omega arith; copies = omega arith; a_partition = omega arith; partitions = omega arith; name = refl }) (All-nil (IsVolume false));
    numbers_rise = λ i j d lt within. absurd (omega (arith, lt, within));
    names_differ = λ i j d lt within. absurd (omega (arith, lt, within));
  };
  maps = record {
    places = All-cons (IsPartitionOf (two mode)) (record { disk = 0; pp = 0 }) (record { disk = 1; pp = 0 } ∷ []) (member 0, refl, omega arith)
        (All-cons (IsPartitionOf (two mode)) (record { disk = 1; pp = 0 }) [] (member 1, refl, omega arith) (All-nil (IsPartitionOf (two mode))));
    laid_out = All-cons IsLaidOut (mirror mode) [] (record {
      whole = refl;
      strict = λ lp low. subst (λ (n : ℕ). AllPairs (λ (a b : Pp). a.disk ≢ b.disk) (copies_of (mirror mode) n)) (sym (first_partition lp low))
          (AllPairs-cons (λ (a b : Pp). a.disk ≢ b.disk) (record { disk = 0; pp = 0 }) (record { disk = 1; pp = 0 } ∷ [])
          (All-cons (λ (b : Pp). 0 ≢ b.disk) (record { disk = 1; pp = 0 }) [] (λ e. omega (arith, e)) (All-nil (λ (b : Pp). 0 ≢ b.disk))) (λ i j d lt within. absurd (omega (arith, lt, within))));
    }) (All-nil IsLaidOut);
    used_once = AllPairs-cons (λ (a b : Pp). a ≢ b) (record { disk = 0; pp = 0 }) (record { disk = 1; pp = 0 } ∷ [])
        (All-cons (λ (b : Pp). record { disk = 0; pp = 0 } ≢ b) (record { disk = 1; pp = 0 }) [] (λ e. omega (arith, ap (λ (p : Pp). p.disk) e)) (All-nil (λ (b : Pp). record { disk = 0; pp = 0 } ≢ b)))
        (λ i j d lt within. absurd (omega (arith, lt, within)));
  };
}

-- ---- what is committed

-- a member that is there is one of the two
pub there_in : (x : Pair) (d : ℕ) → IsTrue (there_by x d) → IsTrue (either_of 0 1 d)
there_in x d is = by x.lost (d == 0) (d == 1) (applied x.lost is)
  where
    applied : (lost : Bool) → IsTrue ((if lost then only 0 else either_of 0 1) d) → IsTrue (if lost then d == 0 else (if d == 0 then true else d == 1))
    applied true h = h
    applied false h = h

    by : (lost s t : Bool) → IsTrue (if lost then s else (if s then true else t)) → IsTrue (if s then true else t)
    by true true t is = refl
    by true false t is = absurd cc
    by false s t is = is

-- what holds at both holds of each
pub at_both : (P : ℕ → Type 0) → P 0 → P 1 → (d : ℕ) → IsTrue (either_of 0 1 d) → P d
at_both P zeroth first d is = by (d == 0) (d == 1) refl refl is
  where
    by : (s t : Bool) → (d == 0) ≡ s → (d == 1) ≡ t → IsTrue (if s then true else t) → P d
    by true t e f h = subst P (sym (eqb-true d 0 e)) zeroth
    by false true e f h = subst P (sym (eqb-true d 1 f)) first
    by false false e f h = absurd cc

-- the second copy is on a member that is there, or stale
second_copy : (x : Pair) (lost : Bool) → IsFalse ((if lost then only 0 else either_of 0 1) 1) → IsFalse (is_stale_by (Some (status_of (record x { lost = lost }))) (record { disk = 1; pp = 0 })) → ⊥
unfolding has_bit
second_copy x true away clear = absurd cc
second_copy x false away clear = absurd cc

module _ (x : Pair) where
  abbrev pub shows : ShowsCommitted (shown_by x) (two x.mode) (status_of x).value (there_by x)
  shows = record {
    found = found_by_all x;
    only = shown_is_only (shown_by x) (two x.mode) (λ d r is ids. ap (λ (s : Stamped Descriptor). s.value) (the_descriptor x d r is));
    descriptor = stamped 2 (two x.mode);
    value = refl;
    latest = λ d r is ids. inr (the_descriptor x d r is);
    described = λ d is. at_both (λ (n : ℕ). (shown_by x).descriptor n ≡ Some (stamped 2 (two x.mode))) refl refl d (there_in x d is);
    room = λ d is. at_both (λ (n : ℕ). IsTrue (has_room (shown_by x) n (two x.mode))) refl refl d (there_in x d is);
    own = refl;
    stands = status_of x;
    committed = refl;
    stated = λ d is. at_both (λ (n : ℕ). (shown_by x).status n ≡ Some (status_of x)) refl refl d (there_in x d is);
    last = λ d r is ids. inr (the_status x d r is);
  }

  pub enough : CanWrite (two x.mode) (there_by x)
  unfolding votes_by
  enough = by x.lost
    where
      by : (lost : Bool) → CanWrite (two x.mode) (if lost then only 0 else either_of 0 1)
      by true = refl
      by false = refl

  pub within : IsWithinDisks (shown_by x)
  within = record { descriptors = λ d r is. low d (either_is d (stamped 2 (two x.mode)) r is); statuses = λ d r is. low d (either_is d (status_of x) r is) }
    where
      low : (d : ℕ) → IsTrue (either_of 0 1 d) → d < 2
      low d is = at_both (λ (n : ℕ). n < 2) (omega arith) (omega arith) d is

      either_is : {X : Type 0} (d : ℕ) (x r : X) → (if either_of 0 1 d then Some x else None) ≡ Some r → IsTrue (either_of 0 1 d)
      either_is d x r e = by (either_of 0 1 d) e
        where
          by : (t : Bool) → (if t then Some x else None) ≡ Some r → IsTrue t
          by true e = refl
          by false e = absurd cc

  -- a fresh copy on a member that isn't there: the second one's is stale
  pub behind : MissingAreStale (shown_by x) (two x.mode) (Some (status_of x)) (there_by x)
  behind row lp p one low copy member gone fresh = absurd (of_copy
      (subst (λ (n : ℕ). IsOneOf (copies_of (mirror x.mode) n) p) (first_partition lp (subst (λ (r : LvRow). lp < r.lps) (the_row x row one) low)) (subst (λ (r : LvRow). IsOneOf (copies_of r lp) p) (the_row x row one) copy)))
    where
      zeroth_there : (lost : Bool) → IsFalse ((if lost then only 0 else either_of 0 1) 0) → ⊥
      zeroth_there true h = absurd cc
      zeroth_there false h = absurd cc

      first_stale : (lost : Bool) → IsFalse ((if lost then only 0 else either_of 0 1) 1) → IsFalse (is_stale_by (Some (status_of (record x { lost = lost }))) (record { disk = 1; pp = 0 })) → ⊥
      first_stale lost away clear = second_copy x lost away clear

      of_copy : IsOneOf (copies_of (mirror x.mode) 0) p → ⊥
      of_copy (inl is) = zeroth_there x.lost (subst (λ (q : Pp). IsFalse (there_by x q.disk)) is gone)
      of_copy (inr (inl is)) = first_stale x.lost (subst (λ (q : Pp). IsFalse (there_by x q.disk)) is gone) (subst (λ (q : Pp). IsFalse (is_stale_by (Some (status_of x)) q)) is fresh)
      of_copy (inr (inr none)) = none

  pub alone : IsAlone (shown_by x) (two x.mode)
  alone disks id g f = inl (id_is x id g (disks, f))

-- ---- zeros

-- past the records the data is what stands there
high : (a b : ℕ) → nat_lt (4096 + a + b) 4096 ≡ false
high a b = grind (arith, nat_tests)

pub stands_at : (x : Pair) (p : Pp) (b : ℕ) → block_at (shown_by x) 1 p b ≡ x.stands p.disk (sector_of 1 p.pp b)
stands_at x p b = ap (λ (t : Bool). if t then [] else x.stands p.disk (sector_of 1 p.pp b)) (high (partition_blocks 1 * p.pp) (b % partition_blocks 1))

zeros_kept : (mode : Mode) (dirty lost cut : Bool) (note : Sector) → Kept (shown_by (even_pair mode dirty lost note)) (history_of mode cut)
zeros_kept mode dirty lost cut note = kept (even_pair mode dirty lost note) (history_of mode cut)
    (λ b low.
    let zero = zero_value mode cut b low in
    let first = stands_at (even_pair mode dirty lost note) (record { disk = 0; pp = 0 }) b in
    let second = stands_at (even_pair mode dirty lost note) (record { disk = 1; pp = 0 }) b in
    record { allowed = (subst (IsValue (known (history_of mode cut ++ Cut ∷ []) (Lv 1) b)) (sym first) zero, (subst (IsValue (known (history_of mode cut ++ Cut ∷ []) (Lv 1) b)) (sym second) zero, tt)); equal = inl (zero_sector, (first, (second, tt))) })
    (volumes mode cut)

pub zeros_even : (mode : Mode) (dirty lost : Bool) (note : Sector) (set : Disks) → IsEven (shown_by (even_pair mode dirty lost note)) (two mode) (Some (status_of (even_pair mode dirty lost note))) set
zeros_even mode dirty lost note set row lp b one on inside = (
  zero_sector,
  of_passing (λ p. block_at (shown_by (even_pair mode dirty lost note)) 1 p b ≡ zero_sector) (λ p. set p.disk && not (is_stale_by (Some (status_of (even_pair mode dirty lost note))) p)) (copies_of row lp)
      (λ p copy use_. stands_at (even_pair mode dirty lost note) p b),
)

pub zeros_rest : (mode : Mode) (dirty lost cut : Bool) (note : Sector) → IsRestingPair (even_pair mode dirty lost note) (history_of mode cut)
zeros_rest mode dirty lost cut note =
    let x : Pair = even_pair mode dirty lost note in
    let rests : HoldsAtRest (shown_by x) (history_of mode cut) (two mode) (Some (status_of x)) (there_by x) =
    record { legal = legal mode cut; kept = zeros_kept mode dirty lost cut note; alone = alone x; even = zeros_even mode dirty lost note (there_by x); behind = behind x } in
    record {
      told = told x (λ d s low. refl);
      valid = valid mode;
      enough = enough x;
      shows = shows x;
      closed = closed mode cut;
      at_rest = rests;
    }

-- ---- where the first block differs

-- only the first block stands at the first sector of the data
at_first_sector : (b : ℕ) → IsTrue (nat_lt b 2048) → (sector_of 1 0 b == 4096) ≡ true → b ≡ 0
at_first_sector b low is = let e : sector_of 1 0 b ≡ 4096 = eqb-true (sector_of 1 0 b) 4096 is in grind (arith, nat_tests)

pub torn_below : (d s : ℕ) → s < 4096 → torn_mirror d s ≡ zero_sector
torn_below d s low = by (d == 1)
  where
    isnt : (s == 4096) ≡ false
    isnt = grind (arith, nat_tests)

    by : (t : Bool) → (if t then (if s == 4096 then ones else zero_sector) else zero_sector) ≡ zero_sector
    by true = ap (λ (t : Bool). if t then ones else zero_sector) isnt
    by false = refl

torn_each : (mode : Mode) (dirty : Bool) (note : Sector)
    → IsBlockKept (shown_by (torn_pair mode dirty note)) 1 (Some (status_of (torn_pair mode dirty note))) (mirror mode) both_copies (known (history_of mode true ++ Cut ∷ []) (Lv 1) 0) 0
    → (b : ℕ) → IsTrue (nat_lt b 2048) → IsBlockKept (shown_by (torn_pair mode dirty note)) 1 (Some (status_of (torn_pair mode dirty note))) (mirror mode) both_copies (known (history_of mode true ++ Cut ∷ []) (Lv 1) b) b
torn_each mode dirty note zeroth b low = by (sector_of 1 0 b == 4096) refl
  where
    by : (t : Bool) → (sector_of 1 0 b == 4096) ≡ t → IsBlockKept (shown_by (torn_pair mode dirty note)) 1 (Some (status_of (torn_pair mode dirty note))) (mirror mode) both_copies (known (history_of mode true ++ Cut ∷ []) (Lv 1) b) b
    by true is = subst (λ (n : ℕ). IsBlockKept (shown_by (torn_pair mode dirty note)) 1 (Some (status_of (torn_pair mode dirty note))) (mirror mode) both_copies (known (history_of mode true ++ Cut ∷ []) (Lv 1) n) n) (sym (at_first_sector b low is)) zeroth
    by false is =
        let zero = zero_value mode true b low in
        let first : block_at (shown_by (torn_pair mode dirty note)) 1 (record { disk = 0; pp = 0 }) b ≡ zero_sector = stands_at (torn_pair mode dirty note) (record { disk = 0; pp = 0 }) b in
        let second : block_at (shown_by (torn_pair mode dirty note)) 1 (record { disk = 1; pp = 0 }) b ≡ zero_sector =
        stands_at (torn_pair mode dirty note) (record { disk = 1; pp = 0 }) b ∙ ap (λ (t : Bool). if t then ones else zero_sector) is in
        record {
          allowed = (subst (IsValue (known (history_of mode true ++ Cut ∷ []) (Lv 1) b)) (sym first) zero, (subst (IsValue (known (history_of mode true ++ Cut ∷ []) (Lv 1) b)) (sym second) zero, tt));
          equal = inl (zero_sector, (first, (second, tt)));
        }

-- the note names the first track group
pub naming_read : note_in naming ≡ Some naming_note
naming_read = written_is_read naming_note (record { stamp = omega arith; count = omega arith; entries = All-cons IsEntry (record { lv = 1; group = 0 }) [] (record { some_lv = λ e. omega (arith, e); lv = omega arith; group = omega arith }) (All-nil IsEntry) })

pub is_naming : names_if (note_in naming) 1 0 ≡ true
is_naming = ap (λ (o : Option Noted). names_if o 1 0) naming_read

pub active_torn : Kept (shown_by (torn_pair Active false naming)) (history_of Active true)
active_torn = kept (torn_pair Active false naming) (history_of Active true) (torn_each Active false naming (record { allowed = (inl refl, (inr (inl refl), tt)); equal = inr (is_naming, (is_naming, tt)) })) (volumes Active true)

pub passive_torn : Kept (shown_by (torn_pair Passive true zero_sector)) (history_of Passive true)
passive_torn = kept (torn_pair Passive true zero_sector) (history_of Passive true) (torn_each Passive true zero_sector (record { allowed = (inl refl, (inr (inl refl), tt)); equal = inr refl })) (volumes Passive true)

off_torn : Kept (shown_by (torn_pair Off false zero_sector)) (history_of Off true)
off_torn = kept (torn_pair Off false zero_sector) (history_of Off true) (torn_each Off false zero_sector (record { allowed = (inl refl, (inr (inl refl), tt)); equal = inr refl })) (volumes Off true)

pub off_rest : IsRestingPair (torn_pair Off false zero_sector) (history_of Off true)
off_rest =
    let x : Pair = torn_pair Off false zero_sector in
    let rests : HoldsAtRest (shown_by x) (history_of Off true) (two Off) (Some (status_of x)) (there_by x) =
    record { legal = legal Off true; kept = off_torn; alone = alone x; even = λ row lp b one on inside. absurd (on (ap (λ (r : LvRow). r.mode) (the_row x row one))); behind = behind x } in
    record {
      told = told x torn_below;
      valid = valid Off;
      enough = enough x;
      shows = shows x;
      closed = closed Off true;
      at_rest = rests;
    }

pub pairs_rest : PairsRest
pairs_rest = record { even = zeros_rest; off = off_rest }
