-- What is needed where writes start, and where copies become wanted stale.
use Rattle.std.proofs.Common.{inl, inr, ⊎_elim}
use Rattle.std.specs.Prelude.{IsTrue}
use Rattle.std.proofs.lemmas.Bool.{and_left}
use Rattle.lvm_invariant.specs.State.{stale_in, Live}
use Rattle.lvm_invariant.proofs.StateLemmas.Claims.{EachHasKeptTarget, MarksAreReplaced}

pub each_has : EachHasKeptTarget
each_has s i r sound started over =
    let inside = sound.tied.inside i r started.there r.lv r.first over in
    let kept = sound.statuses.kept r.lv r.first inside.0 inside.1 in
    let live : Live s r.lv r.first kept.0 = record { copy = kept.1; counts = inl (and_left (s.committed.value.stale kept.0) (stale_in s.in_flight kept.0) kept.2.committed) } in
    let aim = (sound.blocks.busy i r.lv r.first r started over).aimed kept.0 live in
    record { copy = kept.0; stage = aim.0; target = aim.1; is_copy = kept.1; kept = kept.2 }

pub replaced : MarksAreReplaced
replaced s r kept wanted marks c w = ⊎_elim
    (λ (before : IsTrue (s.wanted.stale c)). inl before)
    (λ (copy : IsTrue (s.is_copy r.lv r.first c)). inr (record { lv = r.lv; block = r.first; other = kept; copy = copy; other_copy = marks.is_copy; fresh = marks.fresh; kept = marks.stays }))
    (marks.added c w)
