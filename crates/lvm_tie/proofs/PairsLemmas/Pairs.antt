-- The sessions meet what is asked of one at rest, and are tied.
use Rattle.std.proofs.Common.{◌≡◌, ℕ, zero, suc, ◌<◌, Bool, true, false, ◌==◌, List, [], ◌∷◌, length, refl, arith}
use Rattle.std.specs.Prelude.{IsTrue, count_by, nat_lt, slice_index, if◌then◌else◌}
use Rattle.std.specs.List.{list_all}
use Rattle.std.proofs.lemmas.Bool.Decides.{nat_tests}
use Rattle.lvm_num.specs.declared.descriptor.Mode.{Mode}
use Rattle.lvm_num.specs.declared.descriptor.Mode.TheVariants.{Active, Passive, Off}
use Rattle.lvm_num.specs.declared.record.Kind.TheVariants as kind
use Rattle.lvm_num.specs.Buffer.{IsSector, Sector, zero_sector}
use Rattle.lvm_num.specs.Record.{frame, slot_start}
use Rattle.lvm_vol.specs.Legal.{begins_in}
use Rattle.lvm_disk.specs.Device.{AreSectors}
use Rattle.lvm_kept.specs.Contents.{note_sector}
use Rattle.lvm_kept.proofs.TornLemmas.Standing.{zeros-sector}
use Rattle.lvm_even.proofs.Lists.{left_of, right_of}
use Rattle.lvm_session.specs.State.{State, state}
use Rattle.lvm_even.specs.Examples.{Pair, device_of, even_pair, framed_group, framed_status, media_of, naming, pair_sizes, past_of}
use Rattle.lvm_settled.specs.Examples.{IsSettledPair, core_of, noted_core}
use Rattle.lvm_settled.proofs.ExamplesLemmas.Examples.{pairs_settle}
use Rattle.lvm_settled.proofs.ExamplesLemmas.Notes.{pairs_have_notes_home}
use Rattle.lvm_tie.specs.Begins.{StandsAtRest}
use Rattle.lvm_tie.proofs.BeginsLemmas.Beginning.{first_members}
use Rattle.lvm_tie.proofs.BeginsLemmas.Resting.{rest_ties}
use Rattle.lvm_tie.specs.Pairs.{IsRestingPair, PairsAreTied}
use Rattle.lvm_tie.proofs.PairsLemmas.Sound.{is_sound}

-- ---- sectors

-- a list of bytes by a test
pub small : (l : List ℕ) (i : ℕ) → list_all (λ (b : ℕ). nat_lt b 256) l ≡ true → slice_index l i < 256
small [] zero all = omega arith
small [] (suc i) all = omega arith
small (x ∷ xs) zero all = let low : IsTrue (nat_lt x 256) = left_of (nat_lt x 256) (list_all (λ (b : ℕ). nat_lt b 256) xs) all in grind (arith, nat_tests)
small (x ∷ xs) (suc i) all = small xs i (right_of (nat_lt x 256) (list_all (λ (b : ℕ). nat_lt b 256) xs) all)

pub tested : (l : Sector) → length l ≡ 512 → list_all (λ (b : ℕ). nat_lt b 256) l ≡ true → IsSector l
tested l long all = record { long = long; bytes = λ i. small l i all }

group_sector : (mode : Mode) (dirty lost : Bool) (note : Sector) → IsSector (frame kind.Descriptor (framed_group (even_pair mode dirty lost note)).stamp (framed_group (even_pair mode dirty lost note)).content 0)
group_sector Active dirty lost note = tested _ refl refl
group_sector Passive dirty lost note = tested _ refl refl
group_sector Off dirty lost note = tested _ refl refl

status_sector : (mode : Mode) (dirty lost : Bool) (note : Sector) → IsSector (frame kind.Status (framed_status (even_pair mode dirty lost note)).stamp (framed_status (even_pair mode dirty lost note)).content 0)
status_sector mode true true note = tested _ refl refl
status_sector mode true false note = tested _ refl refl
status_sector mode false true note = tested _ refl refl
status_sector mode false false note = tested _ refl refl

sectors : (mode : Mode) (dirty lost : Bool) (note : Sector) → IsSector note → AreSectors pair_sizes (media_of (even_pair mode dirty lost note))
sectors mode dirty lost note whole d s low = by (s == slot_start kind.Descriptor 0) (s == slot_start kind.Status 0) (s == note_sector)
  where
    by : (a b c : Bool) → IsSector (if a then frame kind.Descriptor (framed_group (even_pair mode dirty lost note)).stamp (framed_group (even_pair mode dirty lost note)).content 0 else if b then frame kind.Status (framed_status (even_pair mode dirty lost note)).stamp (framed_status (even_pair mode dirty lost note)).content 0 else if c then note else zero_sector)
    by true b c = group_sector mode dirty lost note
    by false true c = status_sector mode dirty lost note
    by false false true = whole
    by false false false = zeros-sector

-- ---- at rest

-- the earlier history has nothing of this run
none_own : (mode : Mode) (cut : Bool) → count_by (begins_in 50) (past_of mode cut) ≡ 0
none_own mode true = refl
none_own mode false = refl

module _ (mode : Mode) (dirty lost cut : Bool) where
  -- ---- as it comes on

  abbrev first : Pair
  first = even_pair mode dirty lost zero_sector

  abbrev first_session : State
  first_session = state (device_of first) (core_of first)

  settled : IsSettledPair (core_of first) first mode cut
  settled = pairs_settle.first mode dirty lost cut zero_sector

  first_stands : StandsAtRest first_session (media_of first)
  first_stands = record {
    told = settled.known.told;
    sectors = sectors mode dirty lost zero_sector zeros-sector;
    some_epoch = settled.known.settled.epoch;
    epoch = omega arith;
    votes = settled.known.settled.votes;
    held = settled.known.held;
    only = settled.known.only;
    notes = pairs_have_notes_home.first mode dirty lost;
    even = settled.carried.even;
    behind = settled.carried.behind;
  }

  pub first_rests : IsRestingPair first_session first mode cut
  first_rests = record {
    rests = record { requests = refl; copy = refl; flying = refl; in_flight = refl; committed = refl; notes = settled.known.settled.quiet.notes };
    stands = first_stands;
    members = first_members first_session (media_of first) first_stands refl;
    follows = record { holds = settled.known.holds; calm = settled.carried.calm; own = none_own mode cut };
  }

  -- ---- once it was written

  abbrev noted : Pair
  noted = even_pair mode dirty lost naming

  abbrev noted_session : State
  noted_session = state (device_of noted) (noted_core noted)

  written : IsSettledPair (noted_core noted) noted mode cut
  written = pairs_settle.noted mode dirty lost cut naming

  noted_stands : StandsAtRest noted_session (media_of noted)
  noted_stands = record {
    told = written.known.told;
    sectors = sectors mode dirty lost naming (tested naming refl refl);
    some_epoch = written.known.settled.epoch;
    epoch = omega arith;
    votes = written.known.settled.votes;
    held = written.known.held;
    only = written.known.only;
    notes = pairs_have_notes_home.noted mode dirty lost;
    even = written.carried.even;
    behind = written.carried.behind;
  }

  pub noted_rests : IsRestingPair noted_session noted mode cut
  noted_rests = record {
    rests = record { requests = refl; copy = refl; flying = refl; in_flight = refl; committed = refl; notes = written.known.settled.quiet.notes };
    stands = noted_stands;
    members = first_members noted_session (media_of noted) noted_stands refl;
    follows = record { holds = written.known.holds; calm = written.carried.calm; own = none_own mode cut };
  }

pub pairs_are_tied : PairsAreTied
pairs_are_tied = record {
  first = λ mode dirty lost cut.
      let its = first_rests mode dirty lost cut in
      let sound = is_sound mode dirty lost in
      record {
        resting = its;
        sound = sound;
        tied = rest_ties (past_of mode cut) (first_session mode dirty lost cut) (media_of (first mode dirty lost cut)) sound refl its.rests its.stands its.members its.follows;
      };
  noted = noted_rests;
}
