-- Which sessions that are written out lack a source.
use Rattle.std.proofs.Common.{◌≡◌, ◌⊎◌, inl, inr, ◌+◌, ℕ, true, false, [], ◌∷◌, Some, find, refl, sym, subst, arith}
use Rattle.std.specs.List.{list_any}
use Rattle.lvm_num.specs.Bits.{has_bit}
use Rattle.lvm_session.specs.declared.open.Open.{Open}
use Rattle.lvm_session.specs.Calls.{is_asked}
use Rattle.lvm_session.specs.Causes.{AnyFailedSince, faults_at_first, was_usable}
use Rattle.lvm_session.specs.Judging.{copies_for}
use Rattle.lvm_session.specs.State.{state}
use Rattle.lvm_session.specs.Worked.{faultless, fresh}
use Rattle.lvm_posts.specs.declared.fault.RangeFault.TheVariants as fault
use Rattle.lvm_ranges.specs.Finishing.{GoingCause, PieceLacksSource}
use Rattle.lvm_ranges.specs.Worked.{SourcesAreJudged, begun_as, neither, one_block, unread}

lacks : GoingCause (faults_at_first (begun_as neither)) one_block (begun_as neither) faultless (fault.NoFresh 0)
unfolding has_bit
lacks = record { piece = 0; below = omega arith; lp_is = refl; request = unread; found = refl; landed = refl; lacks = inr refl }

-- nothing has failed, and both copies could be used
sourced : (o : Open) → unread ≡ o → AnyFailedSince (state faultless (begun_as fresh)) ⊎ (list_any (was_usable (begun_as fresh)) (copies_for (begun_as fresh) o.request.ask) ≡ false) → ⊥
unfolding has_bit
sourced o is (inl failed) = let more = failed.1.risen in absurd (omega (arith, more))
sourced o is (inr none) =
    let no : true ≡ false = subst (λ (x : Open). list_any (was_usable (begun_as fresh)) (copies_for (begun_as fresh) x.request.ask) ≡ false) (sym is) none in
    absurd (cc no)

has : PieceLacksSource one_block (begun_as fresh) faultless 0 → ⊥
has it = sourced it.request same it.lacks
  where
    first : it.piece ≡ 0
    first = let below = it.below in omega (arith, below)

    same : unread ≡ it.request
    same = let found : Some unread ≡ Some it.request = subst (λ (n : ℕ). find (is_asked 1 (1 + n)) (unread ∷ []) ≡ Some it.request) first it.found in cc found

pub sources_are_judged : SourcesAreJudged
sources_are_judged = record { lacks = lacks; has = has }
