-- Which status each quorum finds.
use Rattle.std.proofs.Common.{◌≡◌, ◌⊎◌, inl, inr, ⊎_elim, ℕ, Bool, true, Some, None, refl, sym, ap, subst, ◌∙◌, arith}
use Rattle.std.specs.Prelude.{IsTrue}
use Rattle.std.proofs.lemmas.Bool.Decides.{nat_tests}
use Rattle.lvm_num.specs.declared.record.Stamp.{Stamp}
use Rattle.lvm_num.specs.Record.{Stamped, stamp_lt}
use Rattle.lvm_num.proofs.Booleans.{clash_gives}
use Rattle.lvm_invariant.specs.State.{Marks, View, ModelState}
use Rattle.lvm_invariant.specs.Crash.{IsCrash, IsPossible}
use Rattle.lvm_invariant.specs.Found.{Votes, Found, IsNewest, QuorumFinds}
use Rattle.lvm_invariant.proofs.StateLemmas.Claims.{StatusEndKeepsFound, BeginKeepsFound, CommitKeepsFound, UpdateEndKeepsFound}

-- earlier than an earlier one
earlier : (a b c : Stamp) → stamp_lt a b ≡ true → stamp_lt b c ≡ true → stamp_lt a c ≡ true
earlier a b c h k = grind (arith, nat_tests)

pub same_one : (a b : Stamped Marks) → Some a ≡ Some b → a ≡ b
same_one a b e = cc

no_one : {X : Type 0} (a : Stamped Marks) → None ≡ Some a → X
no_one a e = absurd cc

-- with the statuses that disks show, the committed one and the one under way as they were
abbrev pub keeping_found : ModelState → ModelState → ModelState
keeping_found old new = record new { media = record new.media { status = old.media.status }; committed = old.committed; in_flight = old.in_flight }

pub found_same : {votes : Votes} (old new : ModelState) → keeping_found old new ≡ new → Found votes old → Found votes new
found_same {votes} old new same f = subst (Found votes) same (record { set = f.set; enough = f.enough; have = f.have; only = f.only; newer = f.newer })

module _ (votes : Votes) (s : ModelState) (found : Found votes s) (v : View) (crash : IsCrash s v) (set : ℕ → Bool) (r : Stamped Marks) (newest : IsNewest v set r) where
  -- what a disk of the writers shows after the loss isn't older than the committed status
  shows : (d : ℕ) → IsTrue (found.set d) → (x : Stamped Marks) × (v.status d ≡ Some x) × ((x ≡ s.committed) ⊎ (stamp_lt s.committed.stamp x.stamp ≡ true))
  shows d inside = elim (crash.status d) [
    | inl same ↦ ⊎_elim
        (λ (c : s.media.status d ≡ Some s.committed). (s.committed, same ∙ c, inl refl))
        (λ (f : (u : Stamped Marks) × (s.in_flight ≡ Some u) × (s.media.status d ≡ Some u)). (f.0, same ∙ f.2, ⊎_elim (λ (h : stamp_lt s.committed.stamp f.0.stamp ≡ true). inr h) (λ (h : f.0 ≡ s.committed). inl h) (found.newer f.0 f.1)))
        (found.have d inside)
    | inr flies ↦ (flies.0, flies.3, ⊎_elim (λ (h : stamp_lt s.committed.stamp flies.0.stamp ≡ true). inr h) (λ (h : flies.0 ≡ s.committed). inl h) (found.newer flies.0 flies.1))
  ]

  not_older : (d : ℕ) → IsTrue (set d) → IsTrue (found.set d) → stamp_lt r.stamp s.committed.stamp ≡ true → ⊥
  not_older d a b older =
      let x = shows d b in
      let last = newest.last d x.0 a x.1 in
      ⊎_elim
      (λ (is : x.0 ≡ s.committed). clash_gives (stamp_lt r.stamp x.0.stamp) (ap (λ (y : Stamped Marks). stamp_lt r.stamp y.stamp) is ∙ older) last)
      (λ (later : stamp_lt s.committed.stamp x.0.stamp ≡ true). clash_gives (stamp_lt r.stamp x.0.stamp) (earlier r.stamp s.committed.stamp x.0.stamp older later) last)
      x.2

  finds : IsTrue (votes.reads set) → IsPossible s r.value
  finds enough =
      let both = votes.meet set found.set enough found.enough in
      elim (crash.status newest.disk) [
        | inl same ↦ ⊎_elim
            (λ (older : stamp_lt r.stamp s.committed.stamp ≡ true). absurd (not_older both.0 both.1 both.2 older))
            (λ (rest : (r ≡ s.committed) ⊎ (s.in_flight ≡ Some r)). ⊎_elim
            (λ (is : r ≡ s.committed). inl (ap (λ (y : Stamped Marks). y.value) is))
            (λ (flies : s.in_flight ≡ Some r). inr (r, flies, refl))
            rest)
            (found.only newest.disk r (sym same ∙ newest.shown))
        | inr flies ↦ inr (flies.0, flies.1, ap (λ (y : Stamped Marks). y.value) (same_one r flies.0 (sym newest.shown ∙ flies.3)))
      ]

pub quorum_finds : QuorumFinds
quorum_finds votes s found v crash set enough r newest = finds votes s found v crash set r newest enough

pub status_end_keeps_found : StatusEndKeepsFound
status_end_keeps_found votes s u status flying is each found = record {
  set = found.set;
  enough = found.enough;
  have = λ d inside. ⊎_elim
      (λ (same : status d ≡ s.media.status d). ⊎_elim
      (λ (c : s.media.status d ≡ Some s.committed). inl (same ∙ c))
      (λ (f : (w : Stamped Marks) × (s.in_flight ≡ Some w) × (s.media.status d ≡ Some w)). inr (f.0, f.1, same ∙ f.2))
      (found.have d inside))
      (λ (new : status d ≡ Some u). inr (u, is, new))
      (each d);
  only = λ d r shown. ⊎_elim
      (λ (same : status d ≡ s.media.status d). found.only d r (sym same ∙ shown))
      (λ (new : status d ≡ Some u). inr (inr (is ∙ sym new ∙ shown)))
      (each d);
  newer = found.newer;
}

pub begin_keeps_found : BeginKeepsFound
begin_keeps_found votes s u none later found = record {
  set = found.set;
  enough = found.enough;
  have = λ d inside. ⊎_elim
      (λ (c : s.media.status d ≡ Some s.committed). inl c)
      (λ (f : (w : Stamped Marks) × (s.in_flight ≡ Some w) × (s.media.status d ≡ Some w)). no_one f.0 (sym none ∙ f.1))
      (found.have d inside);
  only = λ d r shown. ⊎_elim
      (λ (older : stamp_lt r.stamp s.committed.stamp ≡ true). inl older)
      (λ (rest : (r ≡ s.committed) ⊎ (s.in_flight ≡ Some r)). ⊎_elim
      (λ (is : r ≡ s.committed). inr (inl is))
      (λ (f : s.in_flight ≡ Some r). no_one r (sym none ∙ f))
      rest)
      (found.only d r shown);
  newer = λ w flies. inl (subst (λ (y : Stamped Marks). stamp_lt s.committed.stamp y.stamp ≡ true) (same_one u w flies) later);
}

pub commit_keeps_found : CommitKeepsFound
commit_keeps_found votes s u has_it is enough have found = record {
  set = has_it;
  enough = enough;
  have = λ d inside. inl (have d inside);
  only = λ d r shown. ⊎_elim
      (λ (older : stamp_lt r.stamp s.committed.stamp ≡ true). ⊎_elim
      (λ (later : stamp_lt s.committed.stamp u.stamp ≡ true). inl (earlier r.stamp s.committed.stamp u.stamp older later))
      (λ (same : u ≡ s.committed). inl (subst (λ (y : Stamped Marks). stamp_lt r.stamp y.stamp ≡ true) (sym same) older))
      (found.newer u is))
      (λ (rest : (r ≡ s.committed) ⊎ (s.in_flight ≡ Some r)). ⊎_elim
      (λ (old : r ≡ s.committed). ⊎_elim
      (λ (later : stamp_lt s.committed.stamp u.stamp ≡ true). inl (subst (λ (y : Stamped Marks). stamp_lt y.stamp u.stamp ≡ true) (sym old) later))
      (λ (same : u ≡ s.committed). inr (inl (old ∙ sym same)))
      (found.newer u is))
      (λ (f : s.in_flight ≡ Some r). inr (inl (same_one r u (sym f ∙ is))))
      rest)
      (found.only d r shown);
  newer = λ w flies. inr (same_one w u (sym flies ∙ is));
}

pub update_end_keeps_found : UpdateEndKeepsFound
update_end_keeps_found votes s is found = record {
  set = found.set;
  enough = found.enough;
  have = λ d inside. ⊎_elim
      (λ (c : s.media.status d ≡ Some s.committed). inl c)
      (λ (f : (w : Stamped Marks) × (s.in_flight ≡ Some w) × (s.media.status d ≡ Some w)). inl (f.2 ∙ sym f.1 ∙ is))
      (found.have d inside);
  only = λ d r shown. ⊎_elim
      (λ (older : stamp_lt r.stamp s.committed.stamp ≡ true). inl older)
      (λ (rest : (r ≡ s.committed) ⊎ (s.in_flight ≡ Some r)). inr (inl (⊎_elim (λ (c : r ≡ s.committed). c) (λ (f : s.in_flight ≡ Some r). same_one r s.committed (sym f ∙ is)) rest)))
      (found.only d r shown);
  newer = λ w flies. no_one w flies;
}
