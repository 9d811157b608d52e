-- Turns behind the last line.
use Rattle.std.proofs.Common.{◌≡◌, ◌⊎◌, ⊎_elim, ◌↔◌, ◌+◌, ◌==◌, ℕ, Bool, true, false, List, [], ◌∷◌, length, None, refl, sym, ap, subst, ◌∙◌, arith}
use Rattle.std.specs.Prelude.{IsTrue}
use Rattle.std.proofs.lemmas.Bool.{eqb-true}
use Rattle.lvm_num.specs.Buffer.{Buffer}
use Rattle.lvm_disk.specs.Device.{Device, Flight}
use Rattle.lvm_vol.specs.Facts.{Fact}
use Rattle.lvm_kept.specs.Moments.{Moment}
use Rattle.lvm_session.specs.declared.open.Power.{Power}
use Rattle.lvm_session.specs.Sound.{IsSound}
use Rattle.lvm_posts.specs.declared.posts.Post.{Post}
use Rattle.lvm_line.specs.passed.GroupLines.{Holder, IsClosed, IsOfKind, history_of, session_of, shelf_of, IsBetween}
use Rattle.lvm_line.specs.passed.HolderVariants as holder
use Rattle.lvm_session.specs.declared.answers.Turned.{Turned}
use Rattle.lvm_session.specs.declared.answers.Turned.TheVariants as turned
use Rattle.lvm_session.specs.declared.open.Power.TheVariants as power
use Rattle.lvm_session.specs.State.{Core, State, state}
use Rattle.lvm_session.specs.Turns.{TurnMakes}
use Rattle.lvm_line.specs.passed.Tie.{RunsOn}
use Rattle.lvm_line.proofs.passed.Tie.{runs_both, runs_none}
use Rattle.lvm_line.specs.passed.KeepsEvents.{TurnTells}
use Rattle.lvm_line.specs.passed.Ranges.{MovesTurns, NoMove, OneMove}
use Rattle.lvm_top.specs.Ending.{Concludes, HasNothingLeft, IsServed, MakesTurns, NoneIsServed, NothingIsLeft, HasNothingLeftOrOut, RunsOut, TurnsAreMade}

-- so far each turn has moved
pub record MovesSoFar (first now : State) : Type 0 where
  pub moved : ℕ
  pub moves : MovesTurns first moved now
  pub runs : RunsOn first now
  pub unstuck : now.core.power ≡ power.Stuck → ⊥

pub no_turn : (first : State) → (first.core.power ≡ power.Stuck → ⊥) → MovesSoFar first first
no_turn first unstuck = record { moved = 0; moves = NoMove; runs = runs_none first; unstuck = unstuck }

module _ (first old new : State) (so_far : MovesSoFar first old) where
  pub one_turn : TurnMakes old new turned.Moved → TurnTells old new turned.Moved → RunsOn old new → MovesSoFar first new
  one_turn made tells runs = record {
    moved = so_far.moved + 1;
    moves = OneMove so_far.moves made;
    runs = runs_both first old new so_far.runs runs;
    unstuck = λ stuck. let e = sym tells.power_is ∙ stuck in cc e;
  }

  pub last_turn : (answer : Turned) → TurnMakes old new answer → TurnTells old new answer → (answer ≡ turned.Moved → ⊥) → MakesTurns first new
  last_turn answer made tells unmoved = record { moved = so_far.moved; mid = old; moves = so_far.moves; answer = answer; last = made; tells = tells; unmoved = unmoved }

  pub turns_run : RunsOn old new → RunsOn first new
  turns_run runs = runs_both first old new so_far.runs runs

-- what holds of none, of a turn, and of one behind the other holds of all
module _ (R : State → State → Type 0) (none : (s : State) → R s s) (both : (a b c : State) → R a b → R b c → R a c) (turn : (a b : State) (answer : Turned) → TurnMakes a b answer → R a b) where
  each_move : (old : State) (n : ℕ) (new : State) → MovesTurns old n new → R old new
  each_move old n new NoMove = none old
  each_move old n new (OneMove {n = m} {old = mid} so_far made) = both old mid new (each_move old m mid so_far) (turn mid new turned.Moved made)

  pub each_turn : (old new : State) → MakesTurns old new → R old new
  each_turn old new made = both old made.mid new (each_move old made.moved made.mid made.moves) (turn made.mid new made.answer made.last)

-- ---- whether nothing is under way

none_out : (fs : List Flight) → length fs ≡ 0 → fs ≡ []
none_out [] none = refl
none_out (f ∷ fs) none = absurd (omega (arith, none))

none_count : (n : ℕ) → (n == 0) ≡ true → n ≡ 0
none_count n is = eqb-true n 0 is

by_length : (fs : List Flight) (b : Bool) → b ≡ (length fs == 0) → (b ≡ true → fs ≡ []) × (fs ≡ [] → b ≡ true)
by_length fs b is = (λ yes. none_out fs (none_count (length fs) (sym is ∙ yes)), λ none. is ∙ subst (λ (l : List Flight). (length l == 0) ≡ true) (sym none) refl)

pub rests_now : (device : Device) (core read : Core) (quiet rests : Bool) (out : ℕ) → IsTrue quiet ↔ HasNothingLeft read → read ≡ core → out ≡ length device.flights → quiet ≡ true → rests ≡ (out == 0) → IsTrue rests ↔ HasNothingLeftOrOut (state device core)
rests_now device core read quiet rests out quiets same counted is says =
    let by = by_length device.flights rests (says ∙ ap (λ (n : ℕ). n == 0) counted) in
    (λ yes. record { quiet = subst HasNothingLeft same (quiets.0 is); flights = by.0 yes }, λ rest. by.1 rest.flights)

pub rests_not : (device : Device) (core read : Core) (quiet rests : Bool) → IsTrue quiet ↔ HasNothingLeft read → read ≡ core → quiet ≡ false → rests ≡ false → IsTrue rests ↔ HasNothingLeftOrOut (state device core)
rests_not device core read quiet rests quiets same is says =
    (λ yes. absurd (let e : false ≡ true = sym says ∙ yes in cc e), λ rest. absurd (let e : false ≡ true = sym is ∙ quiets.1 (subst HasNothingLeft (sym same) rest.quiet) in cc e))

-- ---- the end of a session

-- its shelf, once it is closed by its holder
pub closed_by : {S : Type 0} (device : S → Device) (p : Power) (old : Device) (h : Holder S) (closed : S) → IsClosed p old (device (shelf_of h)) → session_of h ≡ None → (session_of h ≡ None → device closed ≡ device (shelf_of h)) → IsClosed p old (device closed)
closed_by device p old h closed is none same = subst (λ (d : Device). IsClosed p old d) (sym (same none)) is

-- it rests
pub out_still : (s : State) (exit : Device) (facts : List Fact) → HasNothingLeftOrOut s → s.core.power ≡ power.On → IsClosed s.core.power s.device exit → facts ≡ s.core.history.facts → RunsOut s (record { device = exit; facts = facts })
out_still s exit facts rest on closed entries = NothingIsLeft rest (subst (λ (p : Power). IsClosed p s.device exit) on closed) entries

-- or turns were made
pub out_turned : (s last : State) (exit : Device) (facts : List Fact) → (HasNothingLeftOrOut s → ⊥) → MakesTurns s last → RunsOn s last → IsSound last → IsClosed last.core.power last.device exit → facts ≡ last.core.history.facts
    → RunsOut s (record { device = exit; facts = facts })
out_turned s last exit facts moving turns runs sound closed entries = TurnsAreMade last moving turns runs sound closed entries

module _ {S : Type 0} (device : S → Device) (posts : List Post) (driver : S × Core) (exit : Moment) where
  -- before it
  abbrev Stands : Holder S → Type 0
  Stands h = (session_of h ≡ None) ⊎ IsBetween (record { device = device (shelf_of h); facts = (history_of h).facts }) (session_of h) posts

  abbrev Ends : Holder S → Type 0
  Ends h = Concludes (history_of h).run (record { device = device (shelf_of h); facts = (history_of h).facts }) exit (session_of h)

  pub empty_concludes : (h : Holder S) → h ≡ holder.Empty driver → Stands h → IsOfKind h → exit.device ≡ record (device driver.0) { freed = [] } → exit.facts ≡ driver.1.history.facts → Ends h
  empty_concludes h is stands kind shelf entries = subst (λ (k : Holder S). Stands k → IsOfKind k → Ends k) (sym is) its stands kind
    where
      its : Stands (holder.Empty driver) → IsOfKind (holder.Empty driver) → Ends (holder.Empty driver)
      its stands kind =
          let freed : (device driver.0).freed ≡ [] = ⊎_elim (λ none. absurd (cc (none))) (λ between. between.lit.freed) stands in
          NoneIsServed driver.1 refl kind
          (ap (λ (d : Device). record { device = d; facts = exit.facts }) (shelf ∙ ap (λ (l : List Buffer). record (device driver.0) { freed = l }) (sym freed)) ∙ ap (λ (fs : List Fact). record { device = device driver.0; facts = fs }) entries)

  pub serving_concludes : (h : Holder S) → h ≡ holder.Serving driver → IsOfKind h → RunsOut (state (device driver.0) driver.1) exit → Ends h
  serving_concludes h is kind out = subst (λ (k : Holder S). IsOfKind k → Ends k) (sym is) (λ kind. IsServed driver.1 refl kind refl refl out) kind
