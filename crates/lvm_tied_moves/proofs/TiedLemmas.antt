-- The written-out session is tied.
use Rattle.std.proofs.Common.{◌≡◌, ℕ, zero, suc, ◌<◌, ◌/◌, Bool, true, false, ◌&&◌, ◌==◌, not, [], Some, None, refl, sym, ap, ◌∙◌, arith, eqb-true, eq-eqb}
use Rattle.std.specs.Prelude.{nat_lt, slice_get}
use Rattle.std.proofs.lemmas.Bool.Decides.{nat_tests}
use Rattle.lvm_num.specs.declared.descriptor.Mode.{Mode}
use Rattle.lvm_num.specs.declared.status.Status.{Status}
use Rattle.lvm_num.specs.Geometry.{partition_of}
use Rattle.lvm_num.specs.Record.{Stamped}
use Rattle.lvm_num.proofs.Booleans.{not_so, same_turned}
use Rattle.lvm_num.proofs.DisksLemmas.{has-zero}
use Rattle.lvm_kept.specs.Examples.{two}
use Rattle.lvm_crash.specs.Worked.{media_of}
use Rattle.lvm_crash.proofs.WorkedLemmas.Shelf.{the_status}
use Rattle.lvm_crash.proofs.WorkedLemmas.Worked.{groups_have_votes}
use Rattle.lvm_session.specs.Bringing.{has_row}
use Rattle.lvm_session.specs.declared.bringing.OpenCopy.{OpenCopy}
use Rattle.lvm_session.proofs.WorkedLemmas.Parts.{not_marked}
use Rattle.lvm_tie.specs.Seen.{Sees, beside_of}
use Rattle.lvm_tie.specs.Tied.{IsTied}
use Rattle.lvm_tie.specs.Worked.{making, shown}
use Rattle.lvm_tie.proofs.BeginsLemmas.Resting.{some_is_none}
use Rattle.lvm_tie.proofs.WorkedLemmas.Parts.{no_note_flies}
use Rattle.lvm_tie.proofs.WorkedLemmas.Seen.{sees as begun_sees, there}
use Rattle.lvm_tie.proofs.WorkedLemmas.Shelf.{may_update, members, records}
use Rattle.lvm_move_tie.specs.Worked.{free_partition}
use Rattle.lvm_move_tie.proofs.TakingLemmas.{drained_takes_place}
use Rattle.lvm_tied_moves.specs.Worked.{MovesAreTied, moved, moving}
use Rattle.lvm_tied_moves.proofs.ShelfLemmas.{describes, spares}
use Rattle.lvm_tied_moves.proofs.SoundLemmas.{drained, sound}
use Rattle.lvm_tied_moves.proofs.ViewLemmas.{good, seen_as}

none_at : {A X : Type 0} (k : ℕ) (x : A) → slice_get [] k ≡ Some x → X
none_at zero x e = absurd cc
none_at (suc k) x e = absurd cc

-- ---- its blocks

both_so : (a b : Bool) → (a ≡ true → b ≡ true) → (b ≡ true → a ≡ true) → a ≡ b
both_so true true f g = refl
both_so true false f g = absurd (cc (f refl))
both_so false true f g = absurd (cc (g refl))
both_so false false f g = refl

in_first : (b : ℕ) → (partition_of 1 b == 0) ≡ nat_lt b 2048
in_first b = both_so (partition_of 1 b == 0) (nat_lt b 2048) low first
  where
    low : partition_of 1 b == 0 ≡ true → nat_lt b 2048 ≡ true
    low is = let none : b / 2048 ≡ 0 = eqb-true (partition_of 1 b) 0 is in grind (arith, nat_tests)

    first : nat_lt b 2048 ≡ true → partition_of 1 b == 0 ≡ true
    first is = let less : b < 2048 = grind (arith, nat_tests) in let none : b / 2048 ≡ 0 = omega arith in eq-eqb (partition_of 1 b) 0 none

module _ (mode : Mode) where
  -- its step waits for nothing
  no_row : {X : Type 0} (c : OpenCopy) → Some moving ≡ Some c → has_row (moved mode).core c ≡ true → X
  no_row c is row = not_so (ap (has_row (moved mode).core) (let e : moving ≡ c = cc is in e) ∙ row)

  beside_is : (seen_as mode).beside ≡ beside_of (moved mode).core
  beside_is =
      let volume : (lv : ℕ) → (1 == lv) ≡ (lv == 1) = λ lv. same_turned 1 lv in
      let block : (b : ℕ) → nat_lt b 2048 ≡ (partition_of 1 b == 0) = λ b. sym (in_first b) in
      λ t. Some (record { place = free_partition; its = λ lv b. volume lv t && block b t })

  sees : Sees (making mode) (moved mode).core (seen_as mode)
  sees = let old = begun_sees mode false in record {
    queue = record {
      requests = λ place o is. none_at place o is;
      a_step = λ c is row. no_row c is row;
      only = λ i q is. absurd cc;
      names = λ place o is. none_at place o is;
    };
    facts = refl;
    status = record {
      committed = refl;
      in_flight = refl;
      wanted = refl;
      started = λ d. sym (has-zero d);
      written = λ d is. not_marked d is;
      held = λ u is held. absurd cc;
      missing = λ d. ap not (sym (there mode false d));
    };
    notes = record { cache = old.notes.cache; home = old.notes.home; flying = old.notes.flying };
    open_copy = record { copy = _; is_open = refl; target = refl; passed = λ lv g. refl };
    step_write = refl;
    beside = beside_is;
  }

  tied : IsTied (making mode) (moved mode)
  tied = let votes = groups_have_votes (two mode) in record {
    votes = votes.0;
    media = media_of (shown mode false);
    setting = record { are_votes = votes.1; told = refl; own = refl };
    view = seen_as mode;
    sees = sees;
    good = good mode votes.0 votes.1;
    describes = describes mode;
    write = None;
    orderly = record { sound = sound mode; on = refl; update = tt };
    since = tt;
    recorded = record {
      next = may_update mode false;
      members = λ d is there. members mode false d is;
      records = records mode false;
      committed = record {
        stands = λ d r is own stamp. ap (λ (x : Stamped Status). x.value) (the_status (shown mode false) d r is);
        flies = λ u is stamp. absurd (cc is);
      };
    };
    notes = λ d items flies. some_is_none _ items (no_note_flies mode false d) flies;
    copy_aimed = λ c is row. no_row c is row;
    carry = tt;
  }

pub moves_are_tied : MovesAreTied
moves_are_tied mode = record {
  tied = tied mode;
  drained = drained mode;
  spares = spares mode;
  epoch = λ none. omega (arith, none);
  place = drained_takes_place (making mode) (moved mode) moving (tied mode) (drained mode);
}
