-- A transfer less is out, and nothing else is left to do but what was.
use Rattle.std.proofs.Common.{◌*◌, ◌+◌, ◌<◌, [], ap, arith, Bool, false, if◌then◌else◌, length, List, not, refl, slice_get, slice_set, Some, subst, suc, sym, true, zero, ℕ, ◌∙◌, ◌∷◌, ◌≡◌, ◌≤◌}
use Rattle.std.proofs.lemmas.List.Sums.{sum_by-cons}
use Rattle.std.specs.List.{AllByRecursion, sum_by}
use Rattle.std.specs.Option.{option_map_or}
use Rattle.std.specs.Prelude.{count_by}
use Rattle.lvm_num.specs.Votes.{is_enough_to_write, votes_in, votes_of}
use Rattle.lvm_num.specs.declared.descriptor.Descriptor.{Descriptor}
use Rattle.lvm_num.specs.declared.descriptor.PvRow.{PvRow}
use Rattle.lvm_hold.specs.Waiting.{Waiting}
use Rattle.lvm_session.specs.Enabled.{is_lost}
use Rattle.lvm_session.specs.Judging.{is_waiting}
use Rattle.lvm_session.specs.State.{Core, is_there}
use Rattle.lvm_session.specs.declared.bringing.OpenCopy.{OpenCopy}
use Rattle.lvm_session.specs.declared.bringing.Step.{Step}
use Rattle.lvm_session.specs.declared.flown.Flown.{Flown}
use Rattle.lvm_session.specs.declared.open.Open.{Open}
use Rattle.lvm_session.specs.declared.open.Power.TheVariants as power
use Rattle.lvm_session.specs.Left.{copy_left, left_by, left_of, request_left, status_left, update_work, work_left}
use Rattle.lvm_keeps.proofs.FallsLemmas.Pin.{sum_same}
use Rattle.lvm_keeps.proofs.LeftLemmas.Leaving.{request_still}

-- ---- lists

-- ---- sums

module _ {A : Type 0} (f g : A → ℕ) where
  -- each is at most what it was
  pub sum_most : (xs : List A) → AllByRecursion (λ (x : A). g x ≤ f x) xs → sum_by g xs ≤ sum_by f xs
  sum_most [] less = omega arith
  sum_most (x ∷ xs) less = let a = sum_by-cons g x xs in let b = sum_by-cons f x xs in let one = less.0 in let rest = sum_most xs less.1 in omega (arith, a, b, one, rest)

  pub each_less : ((x : A) → g x ≤ f x) → (xs : List A) → AllByRecursion (λ (x : A). g x ≤ f x) xs
  each_less less [] = tt
  each_less less (x ∷ xs) = (less x, each_less less xs)

  -- and one is less by so much
  pub sum_drops : (n : ℕ) (xs : List A) (k : ℕ) (x : A) → slice_get xs k ≡ Some x → g x + n ≤ f x → AllByRecursion (λ (y : A). g y ≤ f y) xs → sum_by g xs + n ≤ sum_by f xs
  sum_drops n [] k x there low less = absurd (cc there)
  sum_drops n (z ∷ xs) zero x there low less =
      let is : z ≡ x = cc there in
      let here : g z + n ≤ f z = subst (λ y. g y + n ≤ f y) (sym is) low in
      let a = sum_by-cons g z xs in let b = sum_by-cons f z xs in let rest = sum_most xs less.1 in omega (arith, a, b, here, rest)
  sum_drops n (z ∷ xs) (suc k) x there low less = let a = sum_by-cons g z xs in let b = sum_by-cons f z xs in let one = less.0 in let rest = sum_drops n xs k x there low less.1 in omega (arith, a, b, one, rest)

  -- one is set, and is so much
  pub sum_set_most : (n : ℕ) (xs : List A) (k : ℕ) (x y : A) → slice_get xs k ≡ Some x → g y + n ≤ f x → AllByRecursion (λ (z : A). g z ≤ f z) xs → sum_by g (slice_set xs k y) + n ≤ sum_by f xs
  sum_set_most n [] k x y there low less = absurd (cc there)
  sum_set_most n (z ∷ xs) zero x y there low less =
      let is : z ≡ x = cc there in
      let here : g y + n ≤ f z = subst (λ v. g y + n ≤ f v) (sym is) low in
      let a = sum_by-cons g y xs in let b = sum_by-cons f z xs in let rest = sum_most xs less.1 in omega (arith, a, b, here, rest)
  sum_set_most n (z ∷ xs) (suc k) x y there low less = let a = sum_by-cons g z (slice_set xs k y) in let b = sum_by-cons f z xs in let one = less.0 in let rest = sum_set_most n xs k x y there low less.1 in omega (arith, a, b, one, rest)

-- ---- all that is left

abbrev pub rest_left : Core → ℕ
rest_left core = status_left core + sum_by (request_left core) core.requests + option_map_or (copy_left core) core.copy 0

-- the members that are there, the requests that wait and the votes stay, and one transfer less is out
pub record IsLess (old new : Core) : Type 0 where
  pub lit : old.power ≡ power.On
  pub still_lit : new.power ≡ power.On
  pub lost : is_lost new ≡ is_lost old
  pub fewer : length new.flying + 1 ≡ length old.flying
  pub waiting : count_by is_waiting new.requests ≡ count_by is_waiting old.requests
  pub members : count_by (λ (row : PvRow). is_there new row.disk) new.descriptor.pvs ≡ count_by (λ (row : PvRow). is_there old row.disk) old.descriptor.pvs
  pub rest : rest_left new ≤ rest_left old

pub falls : (old new : Core) → IsLess old new → left_of new < left_of old
falls old new its = by (is_lost old) refl
  where
    is_so : (c : Core) (b : Bool) → c.power ≡ power.On → is_lost c ≡ b → left_of c ≡ (if b then length c.flying + count_by is_waiting c.requests else work_left c)
    is_so c b lit lost = ap (λ p. left_by p c) lit ∙ ap (λ t. if t then length c.flying + count_by is_waiting c.requests else work_left c) lost

    work_falls : work_left new < work_left old
    work_falls = let fewer = its.fewer in let members = its.members in let rest = its.rest in
        grows (length old.flying) (length new.flying) (count_by (λ (row : PvRow). is_there old row.disk) old.descriptor.pvs) (count_by (λ (row : PvRow). is_there new row.disk) new.descriptor.pvs)
        (status_left old) (sum_by (request_left old) old.requests) (option_map_or (copy_left old) old.copy 0) (status_left new) (sum_by (request_left new) new.requests) (option_map_or (copy_left new) new.copy 0) fewer members rest
      where
        grows : (n m a b x y z u v t : ℕ) → m + 1 ≡ n → b ≡ a → u + v + t ≤ x + y + z → m + (update_work + 1) * b + u + v + t < n + (update_work + 1) * a + x + y + z
        grows n m a b x y z u v t fewer members rest = omega (arith, fewer, members, rest)

    by : (b : Bool) → is_lost old ≡ b → left_of new < left_of old
    by true lost = subst (λ n. left_of new < n) (sym (is_so old true its.lit lost)) (subst (λ n. n < length old.flying + count_by is_waiting old.requests) (sym (is_so new true its.still_lit (its.lost ∙ lost))) (let fewer = its.fewer in let waiting = its.waiting in omega (arith, fewer, waiting)))
    by false lost = subst (λ n. left_of new < n) (sym (is_so old false its.lit lost)) (subst (λ n. n < work_left old) (sym (is_so new false its.still_lit (its.lost ∙ lost))) work_falls)

-- the votes are those of the same members
pub votes_same : (old new : Core) → new.descriptor ≡ old.descriptor → ((d : ℕ) → is_there new d ≡ is_there old d) → is_lost new ≡ is_lost old
votes_same old new same there = ap (λ (d : Descriptor). not (is_enough_to_write d (votes_in d (is_there new)))) same
    ∙ ap (λ n. not (is_enough_to_write old.descriptor n)) (sum_same (λ (r : PvRow). if is_there old r.disk then votes_of old.descriptor r.disk else 0) (λ (r : PvRow). if is_there new r.disk then votes_of old.descriptor r.disk else 0)
    (λ r. ap (λ (b : Bool). if b then votes_of old.descriptor r.disk else 0) (there r.disk)) old.descriptor.pvs)

-- ---- the same copy, at another step

module _ (core : Core) (c : OpenCopy) (to : Step) (tried : ℕ) (queue : Waiting) (pool : List Bool) (flying : List Flown) where
  abbrev pub before : Core
  before = record core { copy = Some c }

  abbrev pub stepped : OpenCopy
  stepped = record c { step = to; tried = tried }

  abbrev pub after : Core
  after = record core { queue = queue; pool = pool; flying = flying; copy = Some stepped }

  pub step_same : (x : Open) → request_left after x ≡ request_left before x
  step_same x = request_still before after x refl refl
