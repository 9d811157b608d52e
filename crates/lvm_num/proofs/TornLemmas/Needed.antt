-- Why the stamp of a record that is written must be new in its slot.
use Rattle.std.proofs.Common.{◌≡◌, ◌⊎◌, inl, inr, ℕ, zero, suc, ◌+◌, ◌<◌, ◌≤◌, length, None, refl, sym, ap, ◌∙◌, arith}
use Rattle.lvm_num.specs.declared.record.Kind.TheVariants.{Status}
use Rattle.lvm_num.specs.Record.{record_sectors, frame, joined, record_in}
use Rattle.lvm_num.specs.Torn.{slot_at, two_records, stale_slot, torn_slot, FreshIsNeeded}
use Rattle.lvm_num.proofs.TornLemmas.Torn.{whole_is_read}

alike : frame Status (two_records 0).stamp (two_records 0).content 0 ≡ frame Status (two_records 1).stamp (two_records 1).content 0
alike = refl

sectors : (last : ℕ) → record_sectors (length (two_records last).content) ≡ 2
sectors last = refl

own : (k : ℕ) → k < 2 → (torn_slot k ≡ stale_slot k) ⊎ (torn_slot k ≡ frame Status (two_records 0).stamp (two_records 0).content k)
own zero lt = inr refl
own (suc k) lt = inl refl

behind : (k : ℕ) → 2 ≤ k → torn_slot k ≡ stale_slot k
behind zero le = absurd (omega arith)
behind (suc k) le = refl

whole : (k : ℕ) → k < 2 → torn_slot k ≡ frame Status (two_records 1).stamp (two_records 1).content k
whole zero lt = alike
whole (suc zero) lt = refl
whole (suc (suc k)) lt = absurd (omega arith)

at : (k : ℕ) → 0 + k ≡ k
at k = omega arith

was-none : record_in Status (slot_at Status 0 stale_slot) ≡ None
unfolding record_in joined
was-none = refl

pub fresh_is_needed : FreshIsNeeded
fresh_is_needed = record {
  torn = record {
    within = λ k lt. from k (own k lt);
    behind = λ k ge lt. ap torn_slot (at k) ∙ behind k ge ∙ ap stale_slot (sym (at k));
  };
  was = was-none;
  read = whole_is_read Status (two_records 1) 0 torn_slot
      (record { some_epoch = λ e. absurd (omega (arith, e)); epoch = omega arith; some_seq = λ e. absurd (omega (arith, e)); seq = omega arith; content = omega arith })
      (λ k lt. ap torn_slot (at k) ∙ whole k lt);
}
  where
    from : (k : ℕ) → (torn_slot k ≡ stale_slot k) ⊎ (torn_slot k ≡ frame Status (two_records 0).stamp (two_records 0).content k)
        → (torn_slot (0 + k) ≡ stale_slot (0 + k)) ⊎ (torn_slot (0 + k) ≡ frame Status (two_records 0).stamp (two_records 0).content k)
    from k (inl h) = inl (ap torn_slot (at k) ∙ h ∙ ap stale_slot (sym (at k)))
    from k (inr h) = inr (ap torn_slot (at k) ∙ h)
