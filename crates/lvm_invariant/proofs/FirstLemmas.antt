-- What is asked of a session can be met.
use Rattle.std.proofs.Common.{◌≡◌, inl, inr, Bool, true, false, ◌&&◌, [], ◌∷◌, Option, Some, None, refl, ap}
use Rattle.std.specs.Prelude.{IsTrue, IsFalse, ◌==◌, nat_lt, if◌then◌else◌}
use Rattle.lvm_num.specs.Buffer.{zero_sector}
use Rattle.lvm_num.specs.declared.descriptor.Mode.{Mode}
use Rattle.lvm_num.specs.declared.descriptor.Mode.TheVariants.{Active, Passive, Off}
use Rattle.lvm_vol.specs.May.{Known, unknown, is_off, IsValue}
use Rattle.lvm_invariant.specs.First.{second_copy, first_copy, is_either, two_disks, at_rest, bringing_up, FirstIsGood, BringingUpIsGood}
use Rattle.lvm_invariant.specs.Found.{Votes}
use Rattle.lvm_invariant.specs.Good.{Good}
use Rattle.lvm_invariant.specs.Sound.{Sound}
use Rattle.lvm_num.specs.Descriptor.{is_pp}
use Rattle.lvm_num.specs.Record.{Stamped}
use Rattle.lvm_num.proofs.Booleans.{and_false, clash_gives, not_so}
use Rattle.lvm_invariant.specs.State.{Marks, ModelCopy, ModelState}
use Rattle.lvm_num.specs.Modes.{is_active, is_passive}
pub use Rattle.lvm_invariant.proofs.Small.{left_of as left, right_of as right, both_of as both}
use Rattle.lvm_invariant.proofs.ToldLemmas.{told_of_none}

pub nothing : {X A : Type 0} (a : A) → None ≡ Some a → X
nothing a e = absurd cc

-- what is known of a block once the volume is made, if the block is one of it
abbrev known_by : Mode → Bool → Known
known_by mode inside = if inside then record { values = Some (zero_sector ∷ []); open_writes = []; loose = false; mode = mode } else unknown

zeros_there : (mode : Mode) (inside : Bool) → IsTrue inside → IsValue (known_by mode inside) zero_sector
zeros_there mode true h = inl refl
zeros_there mode false h = not_so h

not_loose : (mode : Mode) (inside : Bool) → IsFalse (known_by mode inside).loose
not_loose mode true = refl
not_loose mode false = refl

its_mode : (mode : Mode) (inside : Bool) → IsTrue inside → IsFalse (is_active mode) → IsFalse (is_passive mode) → IsTrue (is_off (known_by mode inside).mode)
its_mode Off true h notes mark = refl
its_mode Active true h notes mark = absurd cc
its_mode Passive true h notes mark = absurd cc
its_mode mode false h notes mark = not_so h

module _ (mode : Mode) (stale : Bool) (open_copy : Option ModelCopy) (brought : (o : ModelCopy) → open_copy ≡ Some o → IsTrue (stale && is_pp o.target second_copy)) where
  abbrev s : ModelState
  s = record (at_rest mode stale) { open_copy = open_copy }

  rest_is_sound : Sound s
  rest_is_sound = record {
    blocks = record {
      each = λ lv b. inl (record {
        calm = λ i r started over. nothing r started.there;
        allowed = λ c live. zeros_there mode (1 == lv && nat_lt b 2048) (left (1 == lv && nat_lt b 2048) (is_either c) live.copy);
        equal = inl (zero_sector, λ c live. refl);
      });
      busy = λ i lv b r started over. nothing r started.there;
      recorded = λ i lv b r started over. nothing r started.there;
    };
    tied = record {
      open_writes = λ i r there write un lv b. nothing r there;
      modes = λ lv b c copy off soft. its_mode mode (1 == lv && nat_lt b 2048) (left (1 == lv && nat_lt b 2048) (is_either c) copy) off soft;
      tight = λ lv b c copy on. not_loose mode (1 == lv && nat_lt b 2048);
      owner = λ lv b l d c e x y z. both (1 == lv && nat_lt b 2048) (is_either e) (left (1 == lv && nat_lt b 2048) (is_either c) x) (right (1 == l && nat_lt d 2048) (is_either e) z);
      inside = λ i r there lv b over. nothing r there;
      place = λ i r there lv b over. nothing r there;
    };
    statuses = record {
      stale_flies = λ c u flies old fresh. nothing u flies;
      stale_is_wanted = λ c old n. clash_gives (stale && is_pp c second_copy) old n;
      flying_is_wanted = λ c u flies old n. nothing u flies;
      kept = λ lv b c copy. (
        first_copy,
        both (1 == lv && nat_lt b 2048) true (left (1 == lv && nat_lt b 2048) (is_either c) copy) refl,
        record { committed = and_false stale; flying = λ u flies. nothing u flies; wanted = and_false stale },
      );
      open_there = λ o is. refl;
      open_stale = λ o is. inl (brought o is);
      dirty_flies = λ lv u flies h. nothing u flies;
      dirty_is_wanted = λ lv h. h;
      dirty_flying_is_wanted = λ lv u flies h. nothing u flies;
    };
    behind = record { left_behind = λ lv b c e copy fresh gone other usable kept. not_so gone };
    notes = record { home = λ d lv g there. refl; pinned = λ i r there write pins on several. nothing r there };
    holds = record {
      order = λ i j r e at_i at_j low conflict past. nothing r at_i;
      reads = λ i lv b r there read past over c x at. nothing r there;
      got = λ i lv b r value there read past got over. nothing r there;
    };
  }

  rest_is_good : (votes : Votes) → IsTrue (votes.writes two_disks) → Good votes s
  rest_is_good votes enough = record {
    sound = rest_is_sound;
    found = record {
      set = two_disks;
      enough = enough;
      have = λ d h. inl (shown (two_disks d) h);
      only = λ d r is. inr (inl (one_status (two_disks d) r is));
      newer = λ u flies. nothing u flies;
    };
    told = told_of_none _ _ _ (λ i r there. nothing r there) (tt, (tt, tt));
  }
    where
      shown : (t : Bool) → IsTrue t → (if t then Some s.committed else None) ≡ Some s.committed
      shown true h = refl
      shown false h = not_so h

      one_status : (t : Bool) (r : Stamped Marks) → (if t then Some s.committed else None) ≡ Some r → r ≡ s.committed
      one_status true r is = cc
      one_status false r is = nothing r is

pub first_is_good : FirstIsGood
first_is_good votes mode stale enough = rest_is_good mode stale None (λ o is. nothing o is) votes enough

pub bringing_up_is_good : BringingUpIsGood
bringing_up_is_good votes mode passed enough = rest_is_good mode true (bringing_up mode passed).open_copy (λ o is. ap (λ (x : ModelCopy). is_pp x.target second_copy) (same o is)) votes enough
  where
    same : (o : ModelCopy) → Some (record { target = second_copy; passed = passed }) ≡ Some o → o ≡ record { target = second_copy; passed = passed }
    same o is = cc
