-- What holds of a session as one of its transfers has ended.
use Rattle.std.proofs.Common.{◌≡◌, ◌≤◌, ◌<◌, ◌+◌, ◌-◌, ◌==◌, ℕ, zero, suc, Bool, true, false, cond, List, [], ◌∷◌, Option, Some, None, count_by, length, slice_get, slice_set, slice_index_or, if◌then◌else◌, refl, sym, ◌∙◌, ap, subst, arith}
use Rattle.std.specs.Prelude.{◌&&◌, ◌||◌, All, IfSome}
use Rattle.std.proofs.lemmas.Bool.{eqb-false, eqb-true}
use Rattle.std.proofs.lemmas.List.Elements.{All-head, All-tail}
use Rattle.std.proofs.lemmas.List.Sums.{sum_by-cons}
use Rattle.std.proofs.lemmas.Option.{get_or_from_slice_get, slice_get_within}
use Rattle.lvm_num.specs.Buffer.{Buffer}
use Rattle.lvm_num.specs.declared.place.Pp.{Pp}
use Rattle.lvm_num.specs.declared.descriptor.Descriptor.{Descriptor}
use Rattle.lvm_num.specs.Descriptor.{IsPartitionOf, IsValid, is_pp}
use Rattle.lvm_pbuf.specs.Out.{IsOut}
use Rattle.lvm_status.specs.Members.{HasItsRows}
use Rattle.lvm_status.specs.Runs.{IsSoundStatus}
use Rattle.lvm_status.specs.Update.{seen}
use Rattle.lvm_session.specs.declared.bringing.OpenCopy.{OpenCopy}
use Rattle.lvm_session.specs.declared.flown.Flown.{Flown}
use Rattle.lvm_session.specs.declared.flown.Owner.{Owner}
use Rattle.lvm_session.specs.declared.flown.Owner.TheVariants as owner
use Rattle.lvm_session.specs.declared.open.Open.{Open}
use Rattle.lvm_session.specs.State.{Core}
use Rattle.lvm_session.specs.Judging.{copies_in}
use Rattle.lvm_session.specs.Bringing.{hand_of}
use Rattle.lvm_session.specs.Calls.{copy_at}
use Rattle.lvm_session.specs.Dark.{hand_of_copy}
use Rattle.lvm_session.specs.Marks.{is_among}
use Rattle.lvm_moves.specs.passed.Session.{IsOutIf}
use Rattle.lvm_session.specs.Owners.{flies, same_owner}
use Rattle.lvm_session.specs.Sound.{IsCopy, count_if, is_hand}
use Rattle.lvm_session.proofs.MovesLemmas.{move_of, move_partition, stale_of}
use Rattle.lvm_moves.proofs.passed.Due.{copies_in_are}
use Rattle.lvm_moves.proofs.OutLemmas.{at_most_one, get_other, is_out as out_of}
use Rattle.lvm_session_turn.specs.Learning.{MayReturn}
use Rattle.lvm_calls.specs.Ending.{CanEnd}
use Rattle.lvm_calls.specs.Reviewing.{IsLocated, MayReview}
use Rattle.lvm_calls.proofs.BringingLemmas.{markable}
use Rattle.lvm_session_turn.specs.Ended.{TransferHasEnded}
pub use Rattle.lvm_num.proofs.Booleans.{first_holds as left, second_holds as right}
use Rattle.lvm_num.proofs.Booleans.{same_itself}

-- ---- counting

some_counts : {X : Type 0} (f : X → Bool) (xs : List X) (i : ℕ) (x : X) → slice_get xs i ≡ Some x → f x ≡ true → 1 ≤ count_by f xs
some_counts f [] i x there passes = absurd (cc there)
some_counts f (y ∷ xs) zero x there passes =
    let same : y ≡ x = cc there in
    let one : ◌≡◌ {A = ℕ} (cond (f y) 1 0) 1 = ap (λ (b : Bool). cond b 1 0) (ap f same ∙ passes) in
    let more = sum_by-cons (λ z. cond (f z) 1 0) y xs in
    omega (arith, one, more)
some_counts f (y ∷ xs) (suc i) x there passes =
    let rest = some_counts f xs i x there passes in
    let more = sum_by-cons (λ z. cond (f z) 1 0) y xs in
    omega (arith, rest, more)

same_own : (who : Owner) → same_owner who who ≡ true
same_own (owner.Data id target) = ap (λ (b : Bool). b && (target == target)) (same_itself id) ∙ same_itself target
same_own (owner.Status disk) = same_itself disk
same_own (owner.Note disk) = same_itself disk
same_own owner.Copy = refl

-- ---- copies

-- what holds of all partitions holds of one among them
pub among_all : (P : Pp → Type 0) (ps : List Pp) (p : Pp) → All P ps → is_among ps p ≡ true → P p
among_all P [] p all is = absurd (cc is)
among_all P (q ∷ ps) p all is = by_test (among_all P ps p (All-tail P q ps all)) (is_pp p q) refl is
  where
    same : is_pp p q ≡ true → q ≡ p
    same is =
        let disk : p.disk ≡ q.disk = eqb-true p.disk q.disk (left (p.disk == q.disk) (p.pp == q.pp) is) in
        let pp : p.pp ≡ q.pp = eqb-true p.pp q.pp (right (p.disk == q.disk) (p.pp == q.pp) is) in
        λ i. record { disk = sym disk i; pp = sym pp i }

    by_test : (is_among ps p ≡ true → P p) → (b : Bool) → is_pp p q ≡ b → (b || is_among ps p) ≡ true → P p
    by_test rest true its is = subst P (same its) (All-head P q ps all)
    by_test rest false its is = rest is

-- ---- buffers

-- what is in hand beside the one that comes back stays out
hand_out : (pool : List Bool) (number : ℕ) (hand : Option Buffer) (others : ℕ → ℕ) → ((n : ℕ) → count_if (number == n) + (others n + count_if (is_hand n hand)) ≤ count_if (slice_index_or pool n false))
    → IsOutIf (slice_set pool number false) hand × IsOutIf pool hand
hand_out pool number None others few = (tt, tt)
hand_out pool number (Some buf) others few = (by_test (number == buf.number) refl, out_of pool buf.number one_out)
  where
    one : count_if (buf.number == buf.number) ≡ 1
    one = ap count_if (same_itself buf.number)

    one_out : 1 ≤ count_if (slice_index_or pool buf.number false)
    one_out = let all = few buf.number in omega (arith, all, one)

    by_test : (b : Bool) → (number == buf.number) ≡ b → IsOut (slice_set pool number false) buf.number
    by_test true is = absurd (let all = few buf.number in let two = ap count_if is in let most = at_most_one (slice_index_or pool buf.number false) in omega (arith, all, one, two, most))
    by_test false is = out_of (slice_set pool number false) buf.number (subst (λ (b : Bool). 1 ≤ count_if b) (sym (get_other pool number buf.number (eqb-false number buf.number is))) one_out)

module _ (core : Core) (at : ℕ) (who : Owner) (number : ℕ) (ended : TransferHasEnded core at who number) where
  pub within : at < length core.flying
  within = slice_get_within core.flying at ended.row ended.there

  pub is_out : IsOut core.pool number
  is_out = out_of core.pool number (let all = ended.apart number in let one = ap count_if (same_itself number) in omega (arith, all, one))

  pub may_return : MayReturn core at number
  may_return = record { within = within; out = is_out }

  -- its owner had a transfer out
  pub was_out : flies core who ≡ true
  was_out =
      let some = some_counts (λ (f : Flown). same_owner who f.owner) core.flying at ended.row ended.there (ap (same_owner who) ended.own ∙ same_own who) in
      by_test (flies core who) refl (ended.going.owned who) some
    where
      by_test : (b : Bool) → flies core who ≡ b → count_by (λ (f : Flown). same_owner who f.owner) core.flying ≡ (if b then 1 else 0) → 1 ≤ count_by (λ (f : Flown). same_owner who f.owner) core.flying → b ≡ true
      by_test true is counts some = refl
      by_test false is counts some = absurd (omega (arith, counts, some))

  hand_apart : (c : OpenCopy) → core.copy ≡ Some c → IsOutIf (slice_set core.pool number false) (hand_of c.step) × IsOutIf core.pool (hand_of c.step)
  hand_apart c is =
      let hand : hand_of_copy core.copy ≡ hand_of c.step = ap hand_of_copy is in
      let others = λ (n : ℕ). count_by (λ (o : Open). is_hand n o.got) core.requests in
      subst (λ (h : Option Buffer). IsOutIf (slice_set core.pool number false) h × IsOutIf core.pool h) hand (hand_out core.pool number (hand_of_copy core.copy) others ended.apart)

  pub its_copy : (c : OpenCopy) → core.copy ≡ Some c → IsCopy core c
  its_copy c is = subst (λ (m : Option OpenCopy). IfSome m (IsCopy core)) is ended.going.copy

  pub its_place : (c : OpenCopy) → core.copy ≡ Some c → IsPartitionOf core.descriptor c.pp
  its_place c is = by_kind c.moves refl
    where
      copies : List Pp
      copies = copies_in core.descriptor c.lv c.lp

      by_test : (k : ℕ) (b : Bool) → (if b then None else slice_get copies k) ≡ Some c.pp → IsPartitionOf core.descriptor c.pp
      by_test k true its = absurd (cc its)
      by_test k false its =
          let less = slice_get_within copies k c.pp its in
          subst (IsPartitionOf core.descriptor) (get_or_from_slice_get copies k c.pp c.pp its) (copies_in_are core.descriptor c.lv c.lp ended.going.fitting.valid k c.pp less)

      by_number : (n : ℕ) → copy_at copies n ≡ Some c.pp → IsPartitionOf core.descriptor c.pp
      by_number n its = by_test (n - 1) (n == 0) its

      by_kind : (b : Bool) → c.moves ≡ b → IsPartitionOf core.descriptor c.pp
      by_kind false stays = by_number c.copy (stale_of core c (its_copy c is) stays).its
      by_kind true moves = move_partition core c (move_of core c (its_copy c is) moves)

  -- what the copy has in hand stays out, whether or not the buffer comes back
  pub hand_back : (c : OpenCopy) → core.copy ≡ Some c → IsOutIf (slice_set core.pool number false) (hand_of c.step)
  hand_back c is = (hand_apart c is).0

  pub hand_kept : (c : OpenCopy) → core.copy ≡ Some c → IsOutIf core.pool (hand_of c.step)
  hand_kept c is = (hand_apart c is).1

  -- the copy that is open can end
  pub can_end : (new : Core) (c : OpenCopy) → IsOutIf new.pool (hand_of c.step) → HasItsRows core.descriptor new.status.wanted → core.copy ≡ Some c → CanEnd new c
  can_end new c hand rows is = record { hand = hand; markable = markable core.descriptor new.status.wanted c.pp ended.going.fitting.valid rows (its_place c is) }

  pub located : (c : OpenCopy) → core.copy ≡ Some c → IsLocated core.descriptor c
  located c is = let copy = its_copy c is in record { row = copy.row; volume = copy.volume; lp = copy.lp }

  pub by_copy : (P : OpenCopy → Type 0) (copy : Option OpenCopy) → core.copy ≡ copy → ((c : OpenCopy) → core.copy ≡ Some c → P c) → IfSome copy P
  by_copy P None is all = tt
  by_copy P (Some c) is all = all c is

  -- and what the new status entails may be done
  pub may_review : (new : Core) → new.descriptor ≡ core.descriptor → new.copy ≡ core.copy → new.pool ≡ slice_set core.pool number false → IsSoundStatus (seen new.status)
      → HasItsRows core.descriptor new.status.wanted → MayReview new
  may_review new descriptor copy pool sound rows = record {
    valid = subst IsValid (sym descriptor) ended.going.fitting.valid;
    rows = subst (λ (d : Descriptor). HasItsRows d new.status.wanted) (sym descriptor) rows;
    copy = record { sound = sound; copy = by_copy (CanEnd new) new.copy (sym copy) (λ c is. can_end new c (subst (λ (p : List Bool). IsOutIf p (hand_of c.step)) (sym pool) (hand_back c is)) rows is) };
    located = subst (λ (d : Descriptor). IfSome new.copy (IsLocated d)) (sym descriptor) (by_copy (IsLocated core.descriptor) new.copy (sym copy) located);
  }
