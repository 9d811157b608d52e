-- A write that is kept back.
use Rattle.std.proofs.Common.{◌≡◌, ◌<◌, ◌+◌, ◌==◌, if◌then◌else◌, [], ◌∷◌, ◌++◌, ℕ, zero, suc, List, take, drop, Bool, true, false, length, Option, Some, None, MatchOption, slice_set, get_or, refl, sym, ◌∙◌, ap, subst, arith}
use Rattle.std.specs.Prelude.{slice_get}
use Rattle.std.specs.List.{position}
use Rattle.std.proofs.lemmas.Bool.{eq-eqb, eqb-true}
use Rattle.std.proofs.lemmas.List.{append-nil, drop_all, take_all}
use Rattle.std.proofs.lemmas.List.Quantifiers.{position-Some}
use Rattle.lvm_disk.specs.Device.{Device, Flight}
use Rattle.lvm_memory.specs.Bench.{Bench, DarkensBy, ReapsAsPlanned}
use Rattle.lvm_memory.specs.Flights.{delayed, delays_of, flight_of, flights_of}
use Rattle.lvm_memory.specs.Gate.{HoldsOn, IsKeptBack, IsFailing, IsPassedOver, KeepsBack}
use Rattle.lvm_memory.specs.Injection.{cut_planned}
use Rattle.lvm_memory.specs.declared.flying.Flying.{Flying}
use Rattle.lvm_memory.specs.declared.gate.Gate.{Gate}
use Rattle.lvm_memory.specs.declared.gate.Gate.TheVariants as gate
use Rattle.lvm_disk.specs.declared.shelf.Reaped.{Reaped}
use Rattle.lvm_disk.specs.declared.shelf.Reaped.TheVariants as reaped

-- ---- the transfers with a ticket are delayed

module _ (ticket delay : ℕ) where
  abbrev pub with_delay : Flying → Flying
  with_delay f = record f { delay = if f.ticket == ticket then delay else f.delay }

  -- the first i are
  abbrev pub so_far : ℕ → List Flying → List Flying
  so_far zero l = l
  so_far (suc i) [] = []
  so_far (suc i) (f ∷ l) = with_delay f ∷ so_far i l

  pub length-so_far : (i : ℕ) (l : List Flying) → length (so_far i l) ≡ length l
  length-so_far zero l = refl
  length-so_far (suc i) [] = refl
  length-so_far (suc i) (f ∷ l) = ap suc (length-so_far i l)

  -- and one more
  pub one_delayed : (l : List Flying) (i : ℕ) (x f : Flying) → i < length l → f ≡ with_delay (get_or (so_far i l) i x) → slice_set (so_far i l) i f ≡ so_far (suc i) l
  one_delayed [] i x f within is = absurd (omega arith)
  one_delayed (g ∷ l) zero x f within is = ap (λ (h : Flying). h ∷ l) is
  one_delayed (g ∷ l) (suc i) x f within is = ap (λ (m : List Flying). with_delay g ∷ m) (one_delayed l i x f (omega arith) is)

  pub next_delayed : (old now : List Flying) (i : ℕ) (x f : Flying) → now ≡ so_far i old → i < length now → f ≡ with_delay (get_or now i x) → slice_set now i f ≡ so_far (i + 1) old
  next_delayed old now i x f so within is =
      let long = length-so_far i old in
      let there : i < length old = let same = ap (λ (l : List Flying). length l) so in omega (arith, within, same, long) in
      let next : suc i ≡ i + 1 = omega arith in
      ap (λ (l : List Flying). slice_set l i f) so ∙ one_delayed old i x f there (is ∙ ap (λ (l : List Flying). with_delay (get_or l i x)) so) ∙ ap (λ (n : ℕ). so_far n old) next

  pub same_flights : (l : List Flying) → flights_of (so_far (length l) l) ≡ flights_of l
  same_flights [] = refl
  same_flights (f ∷ l) = ap (λ (m : List Flight). flight_of f ∷ m) (same_flights l)

  pub all_delayed : (l : List Flying) → delays_of (so_far (length l) l) ≡ delayed ticket delay l
  all_delayed [] = refl
  all_delayed (f ∷ l) = ap (λ (m : List ℕ). (if f.ticket == ticket then delay else f.delay) ∷ m) (all_delayed l)

  -- so they are passed over
  chosen : (t n : ℕ) → t ≡ ticket → 0 < delay → 0 < (if t == ticket then delay else n)
  chosen t n is some = subst (λ (b : Bool). 0 < (if b then delay else n)) (sym (eq-eqb t ticket is)) some

  some_given : (f g : Flight) → Some f ≡ Some g → f ≡ g
  some_given f g e = cc e

  none_given : (f : Flight) → None ≡ Some f → ⊥
  none_given f e = cc e

  pub delayed_over : (l : List Flying) → 0 < delay → IsPassedOver ticket (flights_of l) (delayed ticket delay l)
  delayed_over [] some zero f there its = absurd (none_given f there)
  delayed_over [] some (suc i) f there its = absurd (none_given f there)
  delayed_over (g ∷ l) some zero f there its = chosen g.ticket g.delay (ap (λ (h : Flight). h.ticket) (some_given _ f there) ∙ its) some
  delayed_over (g ∷ l) some (suc i) f there its = delayed_over l some i f there its

pub passed_over : (ticket delay : ℕ) (old now : List Flying) → flights_of now ≡ flights_of old → delays_of now ≡ delayed ticket delay old → 0 < delay → IsPassedOver ticket (flights_of now) (delays_of now)
passed_over ticket delay old now flights delays some =
    subst (λ (fs : List Flight). IsPassedOver ticket fs (delays_of now)) (sym flights) (subst (λ (ns : List ℕ). IsPassedOver ticket (flights_of old) ns) (sym delays) (delayed_over ticket delay old some))

-- the elements of a vector that was written as a slice
pub written_back : (len : ℕ) (new old : List Flying) → length new ≡ len → length old ≡ len → take len (new ++ drop (length new) old) ≡ new
written_back len new old is was =
    ap (λ (l : List Flying). take len (new ++ l)) (drop_all (length new) old (omega (arith, is, was))) ∙ ap (take len) (append-nil new) ∙ take_all len new (omega (arith, is))

-- ---- a reap doesn't end them

-- with the power on after a call has begun, nothing has changed of the flights
still : (o : Option ℕ) (old new : Bench) → MatchOption o (new.device ≡ old.device) (λ word. (new.device.power ≡ false) × DarkensBy word old.device new.device)
    → MatchOption o (new.delays ≡ old.delays) (λ _. new.delays ≡ []) → new.device.power ≡ true → (new.device ≡ old.device) × (new.delays ≡ old.delays)
still None old new device delays on = (device, delays)
still (Some word) old new device delays on = let off = device.0 in absurd (cc (off, on))

-- one that is passed over isn't the first that is due
not_due : (ticket : ℕ) (flights : List Flight) (delays : List ℕ) (place t : ℕ) (f : Flight) → IsPassedOver ticket flights delays → position (λ n. n == 0) delays ≡ Some place → slice_get flights place ≡ Some f → f.ticket ≡ t → t ≡ ticket → ⊥
not_due ticket flights delays place t f over first there its is =
    let due = (position-Some (λ (n : ℕ). n == 0) delays place 0 first).1 in
    let none : get_or delays place 0 ≡ 0 = eqb-true (get_or delays place 0) 0 due in
    let some : 0 < get_or delays place 0 = over place f there (its ∙ is) in
    omega (arith, none, some)

module _ (ticket : ℕ) (old new : Bench) (over : IsPassedOver ticket old.device.flights old.delays) where
  pub not_done : (t : ℕ) (answer : Reaped) (buf : _) → answer ≡ reaped.Done t buf → ReapsAsPlanned old new answer → t ≡ ticket → ⊥
  not_done t answer buf is planned = at (subst (λ (a : Reaped). ReapsAsPlanned old new a) is planned)
    where
      at : ReapsAsPlanned old new (reaped.Done t buf) → t ≡ ticket → ⊥
      at (begun, begins, ends) =
          let same = still (cut_planned old.injection) old begun begins.device begins.delays ends.power in
          not_due ticket begun.device.flights begun.delays ends.place t ends.flight
          (subst (λ (d : Device). IsPassedOver ticket d.flights begun.delays) (sym same.0) (subst (λ (ns : List ℕ). IsPassedOver ticket old.device.flights ns) (sym same.1) over)) ends.first ends.there ends.its

  pub not_failed : (t : ℕ) (answer : Reaped) (buf : _) → answer ≡ reaped.Failed t buf → ReapsAsPlanned old new answer → t ≡ ticket → ⊥
  not_failed t answer buf is planned = at (subst (λ (a : Reaped). ReapsAsPlanned old new a) is planned)
    where
      at : ReapsAsPlanned old new (reaped.Failed t buf) → t ≡ ticket → ⊥
      at (begun, begins, ends) =
          let same = still (cut_planned old.injection) old begun begins.device begins.delays ends.power in
          not_due ticket begun.device.flights begun.delays ends.place t ends.flight
          (subst (λ (d : Device). IsPassedOver ticket d.flights begun.delays) (sym same.0) (subst (λ (ns : List ℕ). IsPassedOver ticket old.device.flights ns) (sym same.1) over)) ends.first ends.there ends.its

pub keeps_back : (g : Gate) (old new : Bench) (answer : Reaped) → ReapsAsPlanned old new answer → IsKeptBack g old → KeepsBack g 1 answer
keeps_back (gate.Held ticket) old new (reaped.Done t buf) planned over = not_done ticket old new over t (reaped.Done t buf) buf refl planned
keeps_back (gate.Held ticket) old new (reaped.Failed t buf) planned over = λ some. not_failed ticket old new over t (reaped.Failed t buf) buf refl planned
keeps_back (gate.Held ticket) old new reaped.Empty planned over = tt
keeps_back (gate.Held ticket) old new (reaped.Dark freed) planned over = tt
keeps_back gate.Before old new answer planned over = tt
keeps_back gate.Behind old new answer planned over = tt

-- it is kept back on
pub holds_still : (g : Gate) (left : ℕ) (answer : Reaped) → HoldsOn g left g answer
holds_still g left (reaped.Done t buf) = refl
holds_still g left (reaped.Failed t buf) = λ some. refl
holds_still g left reaped.Empty = refl
holds_still g left (reaped.Dark freed) = tt

-- while answers are left, however many
pub keeps_however : (g : Gate) (left : ℕ) (answer : Reaped) → KeepsBack g 1 answer → KeepsBack g left answer
keeps_however (gate.Held ticket) left (reaped.Done t buf) kept = kept
keeps_however (gate.Held ticket) left (reaped.Failed t buf) kept = λ some. kept (omega arith)
keeps_however (gate.Held ticket) left reaped.Empty kept = tt
keeps_however (gate.Held ticket) left (reaped.Dark freed) kept = tt
keeps_however gate.Before left answer kept = tt
keeps_however gate.Behind left answer kept = tt

pub holds_however : (old new : Gate) (left : ℕ) (answer : Reaped) → HoldsOn old 1 new answer → HoldsOn old left new answer
holds_however old new left (reaped.Done t buf) holds = holds
holds_however old new left (reaped.Failed t buf) holds = λ some. holds (omega arith)
holds_however old new left reaped.Empty holds = holds
holds_however old new left (reaped.Dark freed) holds = tt

-- where none is left it may fail
pub fails_at_last : (g : Gate) (left : ℕ) (answer : Reaped) → left ≡ 0 → IsFailing answer → KeepsBack g left answer
fails_at_last (gate.Held ticket) left (reaped.Failed t buf) none fails = λ some. absurd (omega (arith, none, some))
fails_at_last (gate.Held ticket) left (reaped.Dark freed) none fails = tt
fails_at_last (gate.Held ticket) left (reaped.Done t buf) none fails = absurd fails
fails_at_last (gate.Held ticket) left reaped.Empty none fails = tt
fails_at_last gate.Before left answer none fails = tt
fails_at_last gate.Behind left answer none fails = tt

pub lets_go_at_last : (old new : Gate) (left : ℕ) (answer : Reaped) → left ≡ 0 → IsFailing answer → HoldsOn old left new answer
lets_go_at_last old new left (reaped.Failed t buf) none fails = λ some. absurd (omega (arith, none, some))
lets_go_at_last old new left (reaped.Dark freed) none fails = tt
lets_go_at_last old new left (reaped.Done t buf) none fails = absurd fails
lets_go_at_last old new left reaped.Empty none fails = absurd fails
