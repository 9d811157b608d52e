-- The sessions that are written out.
use Rattle.std.proofs.Common.{◌≡◌, ◌⊎◌, inl, inr, ℕ, zero, suc, ◌<◌, true, false, Some, refl, sym, ap, ◌∙◌, arith}
use Rattle.std.specs.Prelude.{◌≢◌, slice_index_or}
use Rattle.lvm_num.specs.Bits.{has_bit}
use Rattle.lvm_num.specs.Disks.{has}
use Rattle.lvm_num.specs.Votes.{votes_by}
use Rattle.lvm_num.specs.Descriptor.{is_member}
use Rattle.lvm_num.specs.declared.place.Pp.{Pp}
use Rattle.lvm_num.proofs.Booleans.{not_so, not_either, or_left}
use Rattle.lvm_kept.specs.passed.VolEntryOutcome as outcome
use Rattle.lvm_path.specs.declared.target.Target.{Target}
use Rattle.lvm_session.specs.declared.open.Power.TheVariants as power
use Rattle.lvm_session.specs.State.{Core}
use Rattle.lvm_session.specs.Worked.{AdmissionMarks, CommitLowersWork, UnsettledIsFresh, ReadsMayLag, StandingStillIsUnsound, BlameNeedsFaults, AnswersAreTold, DarknessKeepsNotes, UnpinnedWritesMove, read_targets, unpinned_write}
use Rattle.lvm_session.proofs.RequestsLemmas.{shaped}
use Rattle.lvm_session.proofs.Small.{not_risen}

pub admission_marks : AdmissionMarks
unfolding votes_by has_bit has
admission_marks = record {
  may = refl;
  makes = refl;
  waits = refl;
  unsound = λ r. not_so (r.ready.wanted refl (omega arith));
  goes_on = refl;
  falls = refl;
}

pub commit_lowers_work : CommitLowersWork
unfolding votes_by has_bit has
commit_lowers_work = record { before = refl; after = refl; falls = refl }

pub unsettled_is_fresh : UnsettledIsFresh
unfolding votes_by has_bit has
unsettled_is_fresh = record { unsettled = refl; settled = refl }

pub standing_still_is_unsound : StandingStillIsUnsound
unfolding votes_by has_bit has
standing_still_is_unsound = record {
  no_event = refl;
  no_end = refl;
  stale = λ c. not_either ((c.kind.clearing refl refl).1);
  waits = refl;
  unmarked = λ r. not_so ((r.judged refl).due refl);
  overtakes = λ r. not_either (r.ready.free refl);
  passes = λ r. not_either ((r.judged refl).uncaught.1.0);
}

-- neither did the session begin so, nor is there a fault
of_origin : {F : Type 0} → (F → ⊥) → (false ≡ true) ⊎ F → ⊥
of_origin none (inl e) = not_so e
of_origin none (inr f) = none f

of_origin_or_missing : {F : Type 0} → (F → ⊥) → (false ≡ true) ⊎ (false ≡ true) ⊎ F → ⊥
of_origin_or_missing none (inl e) = not_so e
of_origin_or_missing none (inr (inl e)) = not_so e
of_origin_or_missing none (inr (inr f)) = none f

pub blame_needs_faults : BlameNeedsFaults
unfolding votes_by has_bit has
blame_needs_faults = record {
  missing = λ c. not_risen (c refl);
  lost = λ o. of_origin (λ rose. not_risen rose) (o.missing 0 refl);
  stale = λ o. of_origin_or_missing (λ rose. not_risen rose) (o.stale (record { disk = 1; pp = 0 }) refl);
  behind = λ g. not_so (g.behind (record { disk = 0; pp = 0 }) refl);
}

pub answers_are_told : AnswersAreTold
answers_are_told = record {
  otherwise = λ a. other a.outcome;
  off = λ e. not_so e.0;
  dark = λ e. lit e;
  stuck = λ core ask. refl;
}
  where
    other : Some outcome.Done ≡ Some outcome.Lost → ⊥
    other e = absurd cc

    lit : power.On ≡ power.Dark → ⊥
    lit e = absurd cc

pub darkness_keeps_notes : DarknessKeepsNotes
darkness_keeps_notes old new dark same disk = dark.notes disk ∙ same disk ∙ ap (λ (core : Core). is_member core.descriptor disk) (sym dark.is)

-- the two targets of the read differ
differ : (i j : ℕ) (d : Target) → i < j → j < 2 → (slice_index_or read_targets i d).pp ≢ (slice_index_or read_targets j d).pp
differ zero zero d below within e = absurd (omega (arith, below))
differ zero (suc zero) d below within e = let disks : 0 ≡ 1 = ap (λ (p : Pp). p.disk) e in absurd (omega (arith, disks))
differ zero (suc (suc j)) d below within e = absurd (omega (arith, within))
differ (suc i) j d below within e = absurd (omega (arith, below, within))

pub reads_may_lag : ReadsMayLag
unfolding votes_by has_bit has
reads_may_lag = record {
  caught = refl;
  sound = record {
    shape = shaped (record { copy = refl; sector = refl; there = refl }, (record { copy = refl; sector = refl; there = refl }, tt)) (omega arith, λ write. not_so write) refl tt differ (λ past. refl) (λ read. omega arith);
    ready = record { free = λ past. refl; recorded = (refl, refl, refl); wanted = λ past two. refl; named = λ has two. refl; dirty = λ has two. refl };
    judged = λ write. not_so write;
  };
}

pub unpinned_writes_move : UnpinnedWritesMove
unfolding votes_by has_bit has
unpinned_writes_move = record {
  passive = record {
    shape = shaped (record { copy = refl; sector = refl; there = refl }, (record { copy = refl; sector = refl; there = refl }, tt)) (omega arith, λ write. refl) refl tt differ_so (λ past. refl) (λ read. not_either read);
    ready = record { free = λ past. refl; recorded = (refl, refl); wanted = λ past two. refl; named = λ has two. refl; dirty = λ has two. refl };
    judged = λ write. record { uncaught = (refl, (refl, tt)); due = λ waits. not_so waits; missed = λ waits. not_so waits; all = λ begun p among. or_left _ among; place = λ begun p among. not_so among };
  };
  off = record {
    shape = shaped (record { copy = refl; sector = refl; there = refl }, (record { copy = refl; sector = refl; there = refl }, tt)) (omega arith, λ write. refl) refl tt differ_so (λ past. refl) (λ read. not_either read);
    ready = record { free = λ past. refl; recorded = (refl, refl, refl); wanted = λ past two. refl; named = λ has two. refl; dirty = λ has two. refl };
    judged = λ write. record { uncaught = (refl, (refl, tt)); due = λ waits. not_so waits; missed = λ waits. not_so waits; all = λ begun p among. or_left _ among; place = λ begun p among. not_so among };
  };
}
  where
    differ_so : (i j : ℕ) (d : Target) → i < j → j < 2 → (slice_index_or unpinned_write.request.targets.items i d).pp ≢ (slice_index_or unpinned_write.request.targets.items j d).pp
    differ_so zero zero d below within e = absurd (omega (arith, below))
    differ_so zero (suc zero) d below within e = let disks : 0 ≡ 1 = ap (λ (p : Pp). p.disk) e in absurd (omega (arith, disks))
    differ_so zero (suc (suc j)) d below within e = absurd (omega (arith, within))
    differ_so (suc i) j d below within e = absurd (omega (arith, below, within))
