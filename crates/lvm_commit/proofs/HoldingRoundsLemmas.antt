-- What is committed or in flight behind records, one after the other.
use Rattle.std.proofs.Common.{◌≡◌, ◌⊎◌, inl, inr, ⊎_elim, Bool, true, false, ◌||◌, Option, Some, None, refl, sym, ◌∙◌, ap}
use Rattle.std.specs.Prelude.{unwrap_or}
use Rattle.lvm_num.specs.declared.place.Pp.{Pp}
use Rattle.lvm_num.specs.declared.status.Status.{Status}
use Rattle.lvm_num.specs.Status.{calls_stale}
use Rattle.lvm_status.specs.Update.{Stored}
use Rattle.lvm_commit.specs.declared.commit.CommitEnd.{CommitEnd}
use Rattle.lvm_commit.specs.declared.commit.CommitEnd.TheVariants as commit_end
use Rattle.lvm_commit.specs.Rounds.{CommitsRound, HoldsRound}
use Rattle.lvm_commit.specs.Settling.{HoldsWithin, is_held_so}

either : (a b : Bool) → a || b ≡ true → (a ≡ true) ⊎ (b ≡ true)
either true b is = inl refl
either false b is = inr is

first_is : (a b : Bool) → a ≡ true → a || b ≡ true
first_is true b is = refl
first_is false b is = absurd (cc is)

pub within_same : (u : Stored) → HoldsWithin u u
within_same u p is = inl is

pub round_within : (first now last : Stored) → HoldsWithin first now → HoldsRound now last → HoldsWithin first last
round_within first now last within round p is = ⊎_elim by_committed by_second (either (calls_stale last.committed p) (calls_stale (unwrap_or last.in_flight last.committed) p) is)
  where
    wanted_now : calls_stale now.wanted p ≡ true → (is_held_so first p ≡ true) ⊎ (calls_stale last.wanted p ≡ true)
    wanted_now stale = inr (round.stale p stale)

    by_committed : calls_stale last.committed p ≡ true → (is_held_so first p ≡ true) ⊎ (calls_stale last.wanted p ≡ true)
    by_committed stale = ⊎_elim
        (λ same. ⊎_elim (λ was. inl was) wanted_now (within p (first_is (calls_stale now.committed p) (calls_stale (unwrap_or now.in_flight now.committed) p) (sym (ap (λ (s : Status). calls_stale s p) same) ∙ stale))))
        (λ wanted. wanted_now (sym (ap (λ (s : Status). calls_stale s p) wanted) ∙ stale))
        round.committed

    by_second : calls_stale (unwrap_or last.in_flight last.committed) p ≡ true → (is_held_so first p ≡ true) ⊎ (calls_stale last.wanted p ≡ true)
    by_second stale = ⊎_elim
        (λ flies. wanted_now (sym (ap (λ (o : Option Status). calls_stale (unwrap_or o last.committed) p) flies) ∙ stale))
        (λ none. by_committed (sym (ap (λ (o : Option Status). calls_stale (unwrap_or o last.committed) p) none) ∙ stale))
        round.in_flight

pub within_both : (first mid last : Stored) → HoldsWithin first mid → HoldsWithin mid last → ((p : Pp) → calls_stale mid.wanted p ≡ true → calls_stale last.wanted p ≡ true) → HoldsWithin first last
within_both first mid last one two stale p is = ⊎_elim (λ held. ⊎_elim (λ was. inl was) (λ wanted. inr (stale p wanted)) (one p held)) (λ wanted. inr wanted) (two p is)

-- by how the record ended
pub by_round : (want : Status) (first last : Stored) (r : CommitEnd) → CommitsRound want first last r → (last.committed ≡ first.committed) ⊎ (last.committed ≡ want)
by_round want first last (commit_end.Done back) is = inr is.1
by_round want first last (commit_end.WentOff have total back) is = inl is
by_round want first last commit_end.Dark is = inl is
by_round want first last commit_end.Stuck is = inl is
