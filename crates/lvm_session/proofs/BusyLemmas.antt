-- A session with each of its parts in use is sound.
use Rattle.std.proofs.Common.{◌≡◌, ◌⊎◌, inl, inr, ℕ, zero, suc, ◌<◌, ◌≤◌, ◌+◌, ◌-◌, ◌*◌, ◌^◌, Bool, true, false, ◌&&◌, ◌||◌, not, List, [], ◌∷◌, take, Some, None, refl, sym, ap, subst, ◌∙◌, arith}
use Rattle.std.specs.Prelude.{◌≢◌, ◌==◌, All, AllPairs, is_some, slice_get, slice_index_or, if◌then◌else◌}
use Rattle.std.specs.List.{list_any}
use Rattle.std.specs.Option.{option_map_or}
use Rattle.std.proofs.lemmas.Bool.{eqb-true}
use Rattle.std.proofs.lemmas.Bool.Decides.{nat_tests}
use Rattle.std.proofs.lemmas.List.{drop_all}
use Rattle.std.proofs.lemmas.List.Elements.{All-nil, All-cons}
use Rattle.std.proofs.lemmas.List.Kept.{AllPairs-cons}
use Rattle.lvm_num.specs.Bits.{has_bit}
use Rattle.lvm_num.specs.Disks.{has}
use Rattle.lvm_num.specs.Name.{is_name}
use Rattle.lvm_num.specs.Votes.{votes_by, votes_in, is_enough_to_write}
use Rattle.lvm_num.specs.declared.place.Pp.{Pp}
use Rattle.lvm_num.specs.declared.descriptor.LvRow.{LvRow}
use Rattle.lvm_num.specs.declared.descriptor.Mode.TheVariants as mode
use Rattle.lvm_num.specs.Descriptor.{IsVolume, IsPartitionOf, IsLaidOut, IsValid, copies_of}
use Rattle.lvm_num.specs.Status.{calls_stale, calls_missing}
use Rattle.lvm_num.proofs.DisksLemmas.{has-zero, has-with}
use Rattle.lvm_num.proofs.Booleans.{same_turned, not_so, not_either, or_left, twice_fails, thrice_holds}
use Rattle.lvm_kept.specs.Examples.{member}
use Rattle.lvm_kept.specs.passed.Vol.{Begun, Ordered}
use Rattle.lvm_mwc.specs.declared.entries.CacheEntry.{CacheEntry}
use Rattle.lvm_status.specs.Update.{is_there, members_there, seen}
use Rattle.lvm_status.specs.Runs.{IsSoundStatus}
use Rattle.lvm_path.specs.passed.SchedWritesTargetState as stage
use Rattle.lvm_path.specs.declared.target.Target.{Target}
use Rattle.lvm_session.specs.declared.event.Event.TheVariants as event
use Rattle.lvm_session.specs.declared.flown.Owner.TheVariants as owner
use Rattle.lvm_session.specs.State.{state}
use Rattle.lvm_session.specs.Judging.{copies_in, is_missing, is_stale}
use Rattle.lvm_session.specs.Bringing.{copy_ends}
use Rattle.lvm_session.specs.Enabled.{first_event}
use Rattle.lvm_session.specs.Marks.{can_replace, is_among, is_entailed}
use Rattle.lvm_kept.specs.passed.VolEntryOutcome as outcome
use Rattle.lvm_session.specs.Owners.{AreOwned, IsDataOf, target_flies}
use Rattle.lvm_session.specs.Left.{updates_left}
use Rattle.lvm_session.specs.Requests.{IsOpenOne}
use Rattle.lvm_session.specs.Causes.{AreCaused, AreCounted, IsChosenSince, IsCausedAmong, faults_at_opening}
use Rattle.lvm_session.specs.Sound.{count_if, may_be_fresh, out_with, stays_fresh, IsAsked, IsCopy, IsFitting, IsTold, IsGoing, IsOn, IsSound}
use Rattle.lvm_session.specs.Worked.{behind, begun_write, second_copy, status_of}
use Rattle.lvm_session.specs.Busy.{BusyIsSound, begun_read, busy_core, busy_device, data_flight, got_read, group_of_three, half_written, other_part, part, target_at, wide, writing}
use Rattle.lvm_session.proofs.Small.{not_none}
use Rattle.lvm_session.proofs.SoundLemmas.{sound_while_on}
use Rattle.lvm_session.proofs.RequestsLemmas.{laid_in, shaped, waits_with}
use Rattle.lvm_session.proofs.WorkedLemmas.Parts.{update_is_sound, none_missing, not_marked, placed, valid as valid_before, zeros_at}
use Rattle.lvm_session.proofs.WorkedLemmas.Flying.{no_note_flies, notes_named, one_entry, one_pin}
use Rattle.lvm_session.proofs.WorkedLemmas.Whole.{begun_so}

-- ---- the group

abbrev first_pp : Pp
first_pp = record { disk = 0; pp = 0 }

abbrev Differs : Pp → Pp → Type 0
Differs a b = a ≢ b

laid_out : (lp : ℕ) → lp < 2 → AllPairs (λ (a b : Pp). a.disk ≢ b.disk) (copies_of wide lp)
laid_out zero low = pair part other_part (λ e. omega (arith, e))
  where
    pair : (a b : Pp) → (a.disk ≡ b.disk → ⊥) → AllPairs (λ (c d : Pp). c.disk ≢ d.disk) (a ∷ b ∷ [])
    pair a b differ = AllPairs-cons (λ (c d : Pp). c.disk ≢ d.disk) a (b ∷ []) (All-cons (λ (d : Pp). a.disk ≢ d.disk) b [] differ (All-nil (λ (d : Pp). a.disk ≢ d.disk))) (λ i j d lt within. absurd (omega (arith, lt, within)))
laid_out (suc zero) low = pair first_pp second_copy (λ e. omega (arith, e))
  where
    pair : (a b : Pp) → (a.disk ≡ b.disk → ⊥) → AllPairs (λ (c d : Pp). c.disk ≢ d.disk) (a ∷ b ∷ [])
    pair a b differ = AllPairs-cons (λ (c d : Pp). c.disk ≢ d.disk) a (b ∷ []) (All-cons (λ (d : Pp). a.disk ≢ d.disk) b [] differ (All-nil (λ (d : Pp). a.disk ≢ d.disk))) (λ i j d lt within. absurd (omega (arith, lt, within)))
laid_out (suc (suc lp)) low = absurd (omega (arith, low))

by_disk : (a b : Pp) → (a.disk ≡ b.disk → ⊥) → Differs a b
by_disk a b differ e = differ (ap (λ (p : Pp). p.disk) e)

by_pp : (a b : Pp) → (a.pp ≡ b.pp → ⊥) → Differs a b
by_pp a b differ e = differ (ap (λ (p : Pp). p.pp) e)

used_once : AllPairs Differs (part ∷ other_part ∷ first_pp ∷ second_copy ∷ [])
used_once = AllPairs-cons Differs part (other_part ∷ first_pp ∷ second_copy ∷ [])
    (All-cons (Differs part) other_part (first_pp ∷ second_copy ∷ []) (by_disk part other_part (λ e. omega (arith, e)))
    (All-cons (Differs part) first_pp (second_copy ∷ []) (by_pp part first_pp (λ e. omega (arith, e)))
    (All-cons (Differs part) second_copy [] (by_disk part second_copy (λ e. omega (arith, e))) (All-nil (Differs part)))))
    (AllPairs-cons Differs other_part (first_pp ∷ second_copy ∷ [])
    (All-cons (Differs other_part) first_pp (second_copy ∷ []) (by_disk other_part first_pp (λ e. omega (arith, e)))
    (All-cons (Differs other_part) second_copy [] (by_pp other_part second_copy (λ e. omega (arith, e))) (All-nil (Differs other_part))))
    (AllPairs-cons Differs first_pp (second_copy ∷ [])
    (All-cons (Differs first_pp) second_copy [] (by_disk first_pp second_copy (λ e. omega (arith, e))) (All-nil (Differs first_pp)))
    (λ i j d lt within. absurd (omega (arith, lt, within)))))

places : All (IsPartitionOf group_of_three) (part ∷ other_part ∷ first_pp ∷ second_copy ∷ [])
places = All-cons (IsPartitionOf group_of_three) part (other_part ∷ first_pp ∷ second_copy ∷ []) (member 0, refl, omega arith)
    (All-cons (IsPartitionOf group_of_three) other_part (first_pp ∷ second_copy ∷ []) (member 1, refl, omega arith)
    (All-cons (IsPartitionOf group_of_three) first_pp (second_copy ∷ []) (member 0, refl, omega arith)
    (All-cons (IsPartitionOf group_of_three) second_copy [] (member 1, refl, omega arith) (All-nil (IsPartitionOf group_of_three)))))

valid : IsValid group_of_three
unfolding is_name
valid = let was = valid_before mode.Active in record {
  head = record { some_id = was.head.some_id; id = was.head.id; name = refl; size = refl; even = λ e. not_so e; a_member = omega arith; members = omega arith; volumes = omega arith };
  members = record { each = was.members.each; disks_differ = was.members.disks_differ };
  volumes = record {
    each = All-cons (IsVolume false) wide [] (record { a_number = omega arith; number = omega arith; a_copy = omega arith; copies = omega arith; a_partition = omega arith; partitions = omega arith; name = refl }) (All-nil (IsVolume false));
    numbers_rise = λ i j d lt within. absurd (omega (arith, lt, within));
    names_differ = λ i j d lt within. absurd (omega (arith, lt, within));
  };
  maps = record {
    places = places;
    laid_out = All-cons IsLaidOut wide [] (record { whole = refl; strict = laid_out }) (All-nil IsLaidOut);
    used_once = used_once;
  };
}

fits : IsFitting busy_core
fits = record {
  valid = valid;
  id = refl;
  rows = λ disk. refl;
  group = refl;
  entries = record { most = one_entry.most; differ = one_entry.differ; counting = one_entry.counting };
  notes = notes_named;
  table = omega arith;
  most = omega arith;
  queue = refl;
  a_buffer = omega arith;
  buffers = omega arith;
  last = refl;
  room = omega arith;
}

-- ---- its history

in_order : Ordered 50 [] (Begun begun_write ∷ Begun begun_read ∷ [])
in_order = (begun_so.0, ((refl, refl, (refl, omega arith)), tt))

asked_write : IsAsked (Begun begun_write ∷ Begun begun_read ∷ []) half_written
asked_write = record { request = begun_write; told = refl; client = refl; vol = refl; at = refl; count = refl; write = refl; length = λ e. refl; place = refl; outcome = refl; answered = λ e. not_either e }

asked_read : IsAsked (Begun begun_write ∷ Begun begun_read ∷ []) got_read
asked_read = record { request = begun_read; told = refl; client = refl; vol = refl; at = refl; count = refl; write = refl; length = λ e. not_so e; place = refl; outcome = refl; answered = λ e. not_either e }

told : IsTold busy_core
told = record {
  ordered = in_order;
  table = record { ascending = ((omega arith, tt), (tt, tt)); still = (λ e. refl, (λ e. refl, tt)) };
  each = λ id. by (1 == id) (2 == id);
  requests = (asked_write, (asked_read, tt));
}
  where
    by : (s t : Bool) → is_some (if s then Some begun_write else if t then Some begun_read else None) && true ≡ s || (t || false)
    by true t = refl
    by false true = refl
    by false false = refl

-- ---- what is out

first_flies : (target : ℕ) → target_flies target half_written ≡ (target == 0)
first_flies zero = refl
first_flies (suc zero) = refl
first_flies (suc (suc target)) = grind (arith, nat_tests)

none_flies : (target : ℕ) → target_flies target got_read ≡ false
none_flies zero = refl
none_flies (suc zero) = refl
none_flies (suc (suc target)) = refl

owned : AreOwned busy_core
owned (owner.Data id target) = by (id == 1) (target == 0) (1 == id) (2 == id) (target_flies target half_written) (target_flies target got_read) (same_turned 1 id) (first_flies target) (none_flies target)
  where
    none : (d : Bool) → ◌≡◌ {A = ℕ} (count_if (d && false || false)) 0
    none true = refl
    none false = refl

    by : (a b c d e f : Bool) → c ≡ a → e ≡ b → f ≡ false → 0 + count_if (a && b) + 0 ≡ count_if (c && e || (d && f || false))
    by true true c d e f p q r = sym (ap (λ t. count_if (t && e || (d && f || false))) p ∙ ap (λ t. count_if (t || (d && f || false))) q)
    by true false c d e f p q r = sym (ap (λ t. count_if (t && e || (d && f || false))) p ∙ ap (λ t. count_if (t || (d && f || false))) q ∙ ap (λ t. count_if (d && t || false)) r ∙ none d)
    by false b c d e f p q r = sym (ap (λ t. count_if (t && e || (d && f || false))) p ∙ ap (λ t. count_if (d && t || false)) r ∙ none d)
owned (owner.Status disk) = sym (ap (λ (t : Bool). count_if t) (has-zero disk))
owned (owner.Note disk) = sym (ap (λ n. count_if (is_some n)) (no_note_flies disk))
owned owner.Copy = refl

carries : (k : ℕ) → k < 1 → slice_get data_flight.buf.sectors k ≡ slice_get begun_write.blocks k
carries zero below = refl
carries (suc k) below = absurd (omega (arith, below))

its : IsDataOf busy_core 1 0 data_flight
its = record {
  place = 0;
  request = half_written;
  there = refl;
  own = refl;
  aim = target_at part 6144 stage.Flying;
  aim_is = refl;
  moves = record { disk_is = refl; first = refl; count = refl; write = refl; carries = λ write k below. carries k below };
}

-- the buffers 0 to 2 are out, one each
out : (n : ℕ) → out_with busy_device busy_core n ≡ count_if (slice_index_or busy_core.pool n false)
out zero = refl
out (suc zero) = refl
out (suc (suc zero)) = refl
out (suc (suc (suc zero))) = refl
out (suc (suc (suc (suc n)))) = let a : (0 == suc (suc (suc (suc n)))) ≡ false = grind (arith, nat_tests) in let b : (1 == suc (suc (suc (suc n)))) ≡ false = grind (arith, nat_tests) in let c : (2 == suc (suc (suc (suc n)))) ≡ false = grind (arith, nat_tests) in
    ap (λ t. 0 + count_if t + count_if (2 == suc (suc (suc (suc n)))) + 0 + (0 + count_if (1 == suc (suc (suc (suc n)))) + 0)) a ∙ ap (λ t. 0 + 0 + count_if t + 0 + (0 + count_if (1 == suc (suc (suc (suc n)))) + 0)) c ∙ ap (λ t. 0 + 0 + 0 + 0 + (0 + count_if t + 0)) b

-- ---- its status

on_first : (disk : ℕ) → has 1 disk ≡ true → disk ≡ 0
on_first disk is = eqb-true disk 0 (by (disk == 0) (has-with 0 0 (omega arith) disk ∙ ap (λ t. t || disk == 0) (has-zero disk)))
  where
    by : (t : Bool) → has 1 disk ≡ t → t ≡ true
    by t same = sym same ∙ is

on_others : (disk : ℕ) → has 6 disk ≡ (disk == 1 || disk == 2)
on_others disk = has-with 2 2 (omega arith) disk ∙ ap (λ t. t || disk == 2) (has-with 0 1 (omega arith) disk ∙ ap (λ t. t || disk == 1) (has-zero disk))

one_or_two : (disk : ℕ) → has 6 disk ≡ true → (disk ≡ 1) ⊎ (disk ≡ 2)
one_or_two disk is = by (disk == 1) (disk == 2) refl refl (sym (on_others disk) ∙ is)
  where
    by : (a b : Bool) → (disk == 1) ≡ a → (disk == 2) ≡ b → a || b ≡ true → (disk ≡ 1) ⊎ (disk ≡ 2)
    by true b p q e = inl (eqb-true disk 1 p)
    by false true p q e = inr (eqb-true disk 2 q)
    by false false p q e = not_so e

abbrev Untouched : ℕ → Type 0
Untouched disk = (is_there (seen busy_core.status) disk ≡ true) × (has 0 disk ≡ false) × (has 1 disk ≡ false) × (has 0 disk ≡ false)

untouched : (disk : ℕ) → (disk ≡ 1) ⊎ (disk ≡ 2) → Untouched disk
unfolding has has_bit
untouched disk (inl is) = subst Untouched (sym is) (refl, refl, refl, refl)
untouched disk (inr is) = subst Untouched (sym is) (refl, refl, refl, refl)

-- a member has the update, or is to be written
each_is : (disk : ℕ) → is_there (seen busy_core.status) disk ≡ true → has 6 disk || (has 0 disk || has 1 disk) ≡ true
each_is disk is =
    ap (λ t. t || (has 0 disk || has 1 disk)) (on_others disk)
    ∙ ap (λ t. disk == 1 || disk == 2 || (t || has 1 disk)) (has-zero disk)
    ∙ ap (λ t. disk == 1 || disk == 2 || t) (has-with 0 0 (omega arith) disk ∙ ap (λ t. t || disk == 0) (has-zero disk))
    ∙ ap (λ t. t || disk == 2 || disk == 0) (same_turned disk 1) ∙ ap (λ t. 1 == disk || t || disk == 0) (same_turned disk 2) ∙ ap (λ t. 1 == disk || 2 == disk || t) (same_turned disk 0)
    ∙ by (0 == disk) (1 == disk) (2 == disk) (calls_missing busy_core.status.wanted disk) is
  where
    by : (a b c d : Bool) → (a || (b || (c || false))) && not d ≡ true → b || c || a ≡ true
    by true true c d e = refl
    by true false true d e = refl
    by true false false d e = refl
    by false true c d e = refl
    by false false true d e = refl
    by false false false d e = not_so e

status : IsSoundStatus (seen busy_core.status)
unfolding votes_by has_bit has
status = update_is_sound _ _ refl (λ disk is. untouched disk (one_or_two disk is)) has-zero has-zero each_is refl refl (λ disk is. not_so (sym (none_missing true disk) ∙ is)) (λ disk is. not_so (sym (none_missing true disk) ∙ is))

none_behind : (p : Pp) {X : Type 0} → is_entailed busy_core p ≡ true → X
none_behind p is = not_so (by (is_among (part ∷ other_part ∷ []) p) (is_among (first_pp ∷ second_copy ∷ []) p) (not (is_stale busy_core p)) (is_missing busy_core p.disk) (list_any (can_replace busy_core) (part ∷ other_part ∷ [])) (list_any (can_replace busy_core) (first_pp ∷ second_copy ∷ [])) (none_missing true p.disk) is)
  where
    by : (a b c d e f : Bool) → d ≡ false → (a && c && d && e || (b && c && d && f || false)) || false ≡ true → false ≡ true
    by true true true true e f none is = not_either none
    by false true true true e f none is = not_either none
    by true false true true e f none is = not_either none
    by false false c d e f none is = is
    by true true true false e f none is = is
    by true false true false e f none is = is
    by false true true false e f none is = is
    by true true false d e f none is = is
    by true false false d e f none is = is
    by false true false d e f none is = is

first_stays : stays_fresh busy_core part ≡ true
unfolding has_bit
first_stays = refl

source_stays : stays_fresh busy_core first_pp ≡ true
unfolding has_bit
source_stays = refl

has_fresh : (lv lp : ℕ) → list_any (may_be_fresh busy_core) (copies_in group_of_three lv lp) ≡ true → list_any (stays_fresh busy_core) (copies_in group_of_three lv lp) ≡ true
has_fresh lv lp = by_volume (1 == lv) lp
  where
    copies : Bool → ℕ → List Pp
    copies is n = option_map_or (λ (row : LvRow). copies_of row n) (if is then Some wide else None) []

    by_volume : (is : Bool) (n : ℕ) → list_any (may_be_fresh busy_core) (copies is n) ≡ true → list_any (stays_fresh busy_core) (copies is n) ≡ true
    by_volume false n some = not_so some
    by_volume true zero some = ap (λ t. t || (stays_fresh busy_core other_part || false)) first_stays
    by_volume true (suc zero) some = ap (λ t. t || (stays_fresh busy_core second_copy || false)) source_stays
    by_volume true (suc (suc n)) some = not_so (sym (ap (λ (ps : List Pp). list_any (may_be_fresh busy_core) (take 2 ps)) (drop_all (suc (suc n) * 2) (part ∷ other_part ∷ first_pp ∷ second_copy ∷ []) (omega arith))) ∙ some)

-- ---- its requests

differ : (a b : Target) → a.pp ≡ part → b.pp ≡ other_part → (i j : ℕ) (d : Target) → i < j → j < 2 → (slice_index_or (a ∷ b ∷ []) i d).pp ≢ (slice_index_or (a ∷ b ∷ []) j d).pp
differ a b p q zero zero d below within e = absurd (omega (arith, below))
differ a b p q zero (suc zero) d below within e = let disks : 0 ≡ 1 = ap (λ (x : Pp). x.disk) (sym p ∙ e ∙ q) in absurd (omega (arith, disks))
differ a b p q zero (suc (suc j)) d below within e = absurd (omega (arith, within))
differ a b p q (suc i) j d below within e = absurd (omega (arith, below, within))

write_request : IsOpenOne busy_core half_written
unfolding has_bit
write_request =
    waits_with refl (laid_in wide refl (omega arith) (omega arith) (omega arith) (omega arith) (omega arith) (omega arith))
    (record {
      shape = shaped (record { copy = refl; sector = refl; there = refl }, (record { copy = refl; sector = refl; there = refl }, tt)) (omega arith, λ write. refl) refl tt (differ _ _ refl refl) (λ past. refl) (λ read. not_either read);
      ready = record { free = λ past. refl; recorded = inl refl; wanted = λ past two. refl; named = λ has two. refl; dirty = λ has two. refl };
      judged = λ write. record { uncaught = (refl, (refl, tt)); due = λ waits. not_so waits; missed = λ waits. not_so waits; all = λ begun p among. or_left _ among; place = λ begun p among. not_so among };
    })

read_request : IsOpenOne busy_core got_read
unfolding has_bit
read_request =
    waits_with refl (laid_in wide refl (omega arith) (omega arith) (omega arith) (omega arith) (omega arith) (omega arith))
    (record {
      shape = shaped (record { copy = refl; sector = refl; there = refl }, (record { copy = refl; sector = refl; there = refl }, tt)) (omega arith, λ write. not_so write) refl refl (differ _ _ refl refl) (λ past. refl) (λ read. omega arith);
      ready = record { free = λ past. refl; recorded = (refl, refl, refl); wanted = λ past two. refl; named = λ has two. refl; dirty = λ has two. refl };
      judged = λ write. not_so write;
    })

all_caused : AreCaused busy_device busy_core half_written × AreCaused busy_device busy_core got_read
unfolding has_bit
all_caused = (λ waits. (λ e. not_so e, (λ e. not_so e, tt)), λ waits. (λ e. not_so e, (λ e. not_so e, tt)))

counted : AreCounted (state busy_device busy_core) half_written × AreCounted (state busy_device busy_core) got_read
counted = ((record { began = omega arith; since = omega arith }, (record { began = omega arith; since = omega arith }, tt)), (record { began = omega arith; since = omega arith }, (record { began = omega arith; since = omega arith }, tt)))

-- ---- its copy

copy : IsCopy busy_core writing
unfolding has_bit
copy = record {
  row = wide;
  volume = refl;
  lp = omega arith;
  kind = record { its = refl; stale = λ runs part. (refl, refl); clearing = λ runs whole. not_so whole };
  cursor = omega arith;
  faults = refl;
  place = (0, omega arith, refl);
  room = tt;
  free = λ idle. refl;
  hand = λ ended. not_either ended;
  tried = λ disk is. not_marked disk is;
  source = tt;
  under_way = λ runs busy. refl;
}

copy_caused : IsCausedAmong (state busy_device busy_core) (first_pp ∷ second_copy ∷ []) writing
copy_caused = record {
  began = λ number p is. let none = zeros_at 128 p.disk in omega (arith, none);
  since = λ number p is. let none = zeros_at 4 (number - 1) in omega (arith, none);
  tried = λ number p is tried. not_marked p.disk tried;
  own_began = omega arith;
  own_since = omega arith;
  failed = λ e. not_none e;
}

chosen : IsChosenSince busy_core writing half_written × IsChosenSince busy_core writing got_read
chosen = (λ waits young number p is. ((λ e. low number, λ e. omega arith), ((λ e. low number, λ e. omega arith), tt)), λ waits young number p is. ((λ e. low number, λ e. omega arith), ((λ e. low number, λ e. omega arith), tt)))
  where
    low : (number : ℕ) → faults_at_opening writing number ≤ 0
    low number = let none = zeros_at 4 (number - 1) in omega (arith, none)

runs_on : copy_ends busy_core ≡ None
unfolding has_bit has
runs_on = refl

-- ---- all of it

numbers : 3 + updates_left busy_core < 2 ^ 32
unfolding has_bit has
numbers = omega arith

pins : (lv group : ℕ) → option_map_or (λ (e : CacheEntry). e.pins) (if 1 == lv && 0 == group then Some (record { lv = 1; group = 0; pins = 1 }) else None) 0 ≡ 0 + count_if (1 == lv && 0 == group) + 0
pins lv group = let one = one_pin lv group in omega (arith, one)

goes_on : IsGoing busy_core
goes_on = record {
  fitting = fits;
  told = told;
  status = status;
  owned = owned;
  tickets = (refl, (refl, tt));
  queue = refl;
  pinned = pins;
  requests = (write_request, (read_request, tt));
  copy = copy;
  hands = λ n. let same = out n in omega (arith, same);
  behind = λ p is. none_behind p is;
  reviewed = runs_on;
  fresh = has_fresh;
  clearings = λ p held clear. twice_fails (calls_stale (status_of behind) p) held clear;
  numbers = numbers;
}

on : IsOn (state busy_device busy_core)
on = record {
  going = goes_on;
  rows = (record { ticket = refl; long = refl; disk = refl; own = its }, (record { ticket = refl; long = refl; disk = refl; own = (writing, refl, record { disk_is = refl; first = refl; count = refl; write_is = refl }) }, tt));
  caused = (all_caused.0, (all_caused.1, tt));
  chosen = (chosen.0, (chosen.1, tt));
}

votes : is_enough_to_write group_of_three (votes_in group_of_three (members_there group_of_three (status_of behind))) ≡ true
unfolding votes_by has_bit has
votes = refl

is_sound : IsSound (state busy_device busy_core)
is_sound =
    sound_while_on _ refl (record { power = refl; freed = refl }) fits told (placed mode.Active (status_of behind)) out on
    (record {
      counted = (counted.0, (counted.1, tt));
      answered = (tt, (tt, tt));
      copy = copy_caused;
      origin = record {
        since = λ disk. let none = zeros_at 128 disk in omega (arith, none);
        votes = votes;
        rows = λ disk. refl;
        still_missing = λ disk is. not_so (sym (none_missing true disk) ∙ is);
        missing = λ disk is. inl is;
        stale = λ p is. inl (thrice_holds (calls_stale (status_of behind) p) is);
      };
    })

lands_next : first_event busy_core ≡ Some (event.Land 1 outcome.Got)
unfolding votes_by has_bit has
lands_next = refl

pub busy_is_sound : BusyIsSound
busy_is_sound = record { sound = is_sound; next = lands_next }
