-- What is out of a session and its shelf, and what a turn makes of it.
use Rattle.std.proofs.Common.{◌≡◌, ◌≤◌, ◌<◌, ◌==◌, ℕ, Bool, true, false, inl, inr, List, [], ◌∷◌, ◌++◌, count_by, length, cond, refl, sym, ap, subst, arith}
use Rattle.std.proofs.lemmas.Bool.{eqb-true}
use Rattle.std.proofs.lemmas.List.Sums.{sum_by-cons}
use Rattle.lvm_num.specs.Buffer.{Buffer}
use Rattle.lvm_disk.specs.Device.{Device, Flight}
use Rattle.lvm_disk.specs.Steps.{GoesDark}
use Rattle.lvm_session.specs.declared.flown.Flown.{Flown}
use Rattle.lvm_session.specs.declared.open.Power.TheVariants as power
use Rattle.lvm_session.specs.State.{Core, State, state}
use Rattle.lvm_session.specs.declared.answers.Turned.{Turned}
use Rattle.lvm_session.specs.declared.answers.Turned.TheVariants as turned
use Rattle.lvm_session.specs.Dark.{all_dark}
use Rattle.lvm_session.specs.Ends.{EndsAs, Returns}
use Rattle.lvm_session.specs.Turns.{Darkens, FinishMakes}
use Rattle.lvm_session.specs.Owners.{AreRows}
use Rattle.lvm_session.specs.Sound.{IsSound, count_if, has_number}
use Rattle.lvm_session_turn.specs.Ended.{TransferHasEnded}
use Rattle.lvm_session_turn.specs.Finishing.{Rests}

-- ---- the list is that of the flights

pub none_out : (core : Core) (rows : List Flown) (flights : List Flight) → AreRows core rows flights → (length rows == 0) ≡ true → flights ≡ []
none_out core [] [] are is = refl
none_out core [] (f ∷ flights) are is = absurd are
none_out core (row ∷ rows) flights are is = absurd (let e = eqb-true (length (row ∷ rows)) 0 is in omega (arith, e))

pub some_out : (core : Core) (rows : List Flown) (flights : List Flight) → AreRows core rows flights → (length rows == 0) ≡ false → 0 < length flights
some_out core [] flights are some = absurd (cc some)
some_out core (row ∷ rows) [] are some = absurd are
some_out core (row ∷ rows) (f ∷ flights) are some = omega arith

-- ---- the buffer that comes back

counted : (n : ℕ) (f : Flight) (before after : List Flight) → count_if (f.buf.number == n) ≤ count_by (λ (g : Flight). has_number n g.buf) (before ++ f ∷ after)
counted n f [] after = let one = sum_by-cons (λ (g : Flight). cond (has_number n g.buf) 1 0) f after in omega (arith, one)
counted n f (g ∷ before) after =
    let rest = counted n f before after in
    let more = sum_by-cons (λ (h : Flight). cond (has_number n h.buf) 1 0) g (before ++ f ∷ after) in
    omega (arith, rest, more)

-- it was with the flight
record WasOut (flights : List Flight) (number : ℕ) : Type 0 where
  before : List Flight
  after : List Flight
  flight : Flight
  was : flights ≡ before ++ flight ∷ after
  its : number ≡ flight.buf.number

was_out : (old new : Device) (ticket : ℕ) (buf : Buffer) (ok : Bool) → EndsAs ok old new ticket buf → WasOut old.flights buf.number
was_out old new ticket buf true ends = record { before = ends.flights.before; after = ends.flights.after; flight = ends.flight; was = ends.flights.was; its = ends.rest.number }
was_out old new ticket buf false ends = record { before = ends.flights.before; after = ends.flights.after; flight = ends.flight; was = ends.flights.was; its = ends.number }

pub has_ended : (s : State) (device : Device) (core : Core) (at : ℕ) (row : Flown) (ok : Bool) (buf : Buffer) → IsSound s → s.core.power ≡ power.On → Returns s (state device core) at row ok buf
    → TransferHasEnded s.core at row.owner buf.number
has_ended s device core at row ok buf sound on returns = record {
  going = (sound.on on).going;
  row = row;
  there = returns.there;
  own = refl;
  apart = λ n.
      let it = was_out s.device device row.ticket buf ok returns.ends in
      let one = counted n it.flight it.before it.after in
      let listed = ap (λ (fs : List Flight). count_by (λ (g : Flight). has_number n g.buf) fs) it.was in
      let mine = ap (λ (m : ℕ). count_if (m == n)) it.its in
      let all = sound.buffers n in
      omega (arith, one, listed, mine, all);
}

-- ---- how a turn ends

pub dark_is : (old : State) (device : Device) (new : Core) → GoesDark old.device device → device.power ≡ false → new ≡ all_dark old.core → Darkens old (state device new)
dark_is old device new goes off is =
    subst (λ (c : Core). Darkens old (state device c)) (sym is)
    (record { device = goes; power = off; status = record { group = refl; committed = refl; wanted = refl; in_flight = inl refl; stamp = inl refl }; entries = refl; notes = λ disk. refl; is = refl })

pub rests_so : (old : State) (new : Core) (answer : Turned) → old.device.flights ≡ [] → Rests old.core new answer → FinishMakes old (state old.device new) answer
rests_so old new turned.Moved idle rests = absurd rests
rests_so old new turned.Idle idle rests = inr (record { votes = rests.0; idle = idle; is = ap (state old.device) rests.1 })
rests_so old new turned.Dark idle rests = absurd rests
rests_so old new turned.Off idle rests = record { lost = rests.0; idle = idle; is = ap (state old.device) rests.1 }
