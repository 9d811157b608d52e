-- The status with which a group goes on once its dirty volumes are equal.
use Rattle.std.proofs.Common.{◌≡◌, ◌⊎◌, inl, inr, ⊎_elim, ℕ, ◌<◌, ◌&&◌, not, List, [], ◌∷◌, Option, Some, refl, sym, ap, subst, ◌∙◌}
use Rattle.std.specs.Prelude.{IsTrue, IsFalse}
use Rattle.std.proofs.lemmas.Bool.{cases_Bool, not_from_false}
use Rattle.std.proofs.lemmas.Option.{same_Some}
use Rattle.lvm_num.specs.declared.place.Pp.{Pp}
use Rattle.lvm_num.specs.declared.descriptor.Mode.TheVariants.{Passive, Off}
use Rattle.lvm_num.specs.declared.descriptor.LvRow.{LvRow}
use Rattle.lvm_num.specs.declared.descriptor.Descriptor.{Descriptor}
use Rattle.lvm_num.specs.declared.status.Status.{Status}
use Rattle.lvm_num.specs.Disks.{Disks}
use Rattle.lvm_num.specs.Descriptor.{copies_of}
use Rattle.lvm_num.specs.Record.{Stamped}
use Rattle.lvm_num.specs.Status.{calls_stale, calls_dirty}
use Rattle.lvm_num.specs.Votes.{all_disks}
use Rattle.lvm_kept.specs.Contents.{Contents}
use Rattle.lvm_kept.specs.Group.{members_in, is_stale_by, fresh_on, block_at, IsOneOf, IsSome}
use Rattle.lvm_kept.proofs.GroupLemmas.{still_finds, finds_before}
use Rattle.lvm_commit.specs.Committed.{AreOne, MayMark, ShowsCommitted}
use Rattle.lvm_even.proofs.Lists.{left_of, right_of, both_of, not_so, of_passing}
use Rattle.lvm_commit.proofs.passed.Steps.{clash}
use Rattle.lvm_even.specs.Even.{IsEven, MissingAreStale}
use Rattle.lvm_even.proofs.Rows.{at_passing}
use Rattle.lvm_tidying.specs.Cleaned.{CleaningIsMarking, MarkingStays, CleanedMayClean, CleanedShows}

not_passive : Passive ≡ Off → ⊥
not_passive e = absurd cc

module _ (c : Contents) (group : Descriptor) (status : Status) (there : Disks) (shows : ShowsCommitted c group status there) (even : IsEven c group (Some shows.stands) there) (none : MissingAreStale c group (Some shows.stands) there) where
  abbrev stands : Option (Stamped Status)
  stands = Some shows.stands

  abbrev members : Disks
  members = members_in c all_disks group.id group

  -- where each logical partition has a usable copy, all fresh ones on members are usable
  pub are_one : (row : LvRow) → IsOneOf group.lvs row → row.mode ≡ Passive → ((lp : ℕ) → lp < row.lps → IsSome (fresh_on there stands row lp)) → AreOne c group status row
  are_one row one soft some lp b inside =
      let hold = even row lp b one (λ off. not_passive (sym soft ∙ off)) inside in (
        hold.0,
        of_passing (λ p. block_at c group.mib p b ≡ hold.0) (λ p. members p.disk && not (calls_stale status p)) (copies_of row lp) (λ p copy is.
            at_passing (λ p. block_at c group.mib p b ≡ hold.0) (λ p. there p.disk && not (is_stale_by stands p)) (copies_of row lp) hold.1 p copy
            (usable p copy (left_of (members p.disk) (not (calls_stale status p)) is) (not_so (calls_stale status p) (right_of (members p.disk) (not (calls_stale status p)) is)))),
      )
    where
      usable : (p : Pp) → IsOneOf (copies_of row lp) p → IsTrue (members p.disk) → IsFalse (calls_stale status p) → IsTrue (there p.disk && not (is_stale_by stands p))
      usable p copy member fresh =
          let by_stands : IsFalse (is_stale_by stands p) = ap (λ (s : Status). calls_stale s p) shows.committed ∙ fresh in
          ⊎_elim
          (λ (is : IsTrue (there p.disk)). both_of (there p.disk) (not (is_stale_by stands p)) is (not_from_false (is_stale_by stands p) by_stands))
          (λ (isnt : IsFalse (there p.disk)). absurd (subst IsSome (none row lp p one inside.inside copy member isnt by_stands) (some lp inside.inside)))
          (cases_Bool (there p.disk))

pub cleaning_is_marking : CleaningIsMarking
cleaning_is_marking c group status there shows next may even none = record {
  stale = λ row lp p one copy is. may.stale row lp p one copy ∙ ap (λ (s : Status). calls_stale s p) shows.committed ∙ is;
  added = λ row lp p one low copy is. inl (sym (ap (λ (s : Status). calls_stale s p) shows.committed) ∙ sym (may.stale row lp p one copy) ∙ is);
  dirty = λ row one soft is. ⊎_elim
      (λ stays. inl stays)
      (λ some. inr (are_one c group status there shows even none row one soft some))
      (may.dirty row one soft (ap (λ (s : Status). calls_dirty s row.number) shows.committed ∙ is));
}

pub marking_stays : MarkingStays
marking_stays group was next old new rest may = subst (λ (c : Contents). MayMark c group was next) (sym rest) (stays may)
  where
    stays : MayMark old group was next → MayMark (record old { status = new.status }) group was next
    stays may = record { stale = may.stale; added = may.added; dirty = may.dirty }

-- a list is empty, or it isn't
is_empty : {X : Type 0} (xs : List X) → (xs ≡ []) ⊎ IsSome xs
is_empty [] = inl refl
is_empty (x ∷ xs) = inr tt

pub cleaned_may_clean : CleanedMayClean
cleaned_may_clean group there stands clean is = record {
  stale = λ row lp p one copy. ap (λ (s : Status). calls_stale s p) is.rest;
  dirty = λ row one soft marked. ⊎_elim
      (λ (stays : IsTrue (calls_dirty clean row.number)). inl stays)
      (λ (goes : IsFalse (calls_dirty clean row.number)). inr (λ lp low. ⊎_elim
      (λ (none : fresh_on there (Some stands) row lp ≡ []). absurd (clash (calls_dirty clean row.number)
      ((is.dirty row.number).1 (record { row = row; lp = lp; volume = one; number = refl; mode = soft; dirty = marked; inside = low; none = none })) goes))
      (λ some. some)
      (is_empty (fresh_on there (Some stands) row lp))))
      (cases_Bool (calls_dirty clean row.number));
}

pub cleaned_shows : CleanedShows
cleaned_shows group status there clean old new shows own later change on =
    subst (λ (c : Contents). (is : ShowsCommitted c group clean.value there) × (is.stands ≡ clean)) (sym change.rest) (
      record {
        found = still_finds old new.status old.note old.block all_disks group.id group shows.found;
        only = λ disks k f. shows.only disks k (finds_before old new.status old.note old.block disks group.id k f);
        descriptor = shows.descriptor;
        value = shows.value;
        latest = shows.latest;
        described = shows.described;
        room = shows.room;
        own = own;
        stands = clean;
        committed = refl;
        stated = on;
        last = λ d r e its. ⊎_elim
            (λ (same : new.status d ≡ old.status d). inl (later d r (sym same ∙ e) its))
            (λ (put : IsTrue (there d) × (new.status d ≡ Some clean)). inr (same_Some r clean (sym e ∙ put.1)))
            (change.own d);
      },
      refl,
    )
