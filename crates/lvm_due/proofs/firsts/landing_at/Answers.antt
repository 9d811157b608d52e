use Rattle.std.proofs.Common.{◌≡◌, ℕ, Bool, true, false, Some, None, slice_get, refl, sym, ◌∙◌, ap}
use Rattle.std.specs.Option.{option_map}
use Rattle.lvm_due.specs.passed.SessionEventEvent as event
use Rattle.lvm_due.specs.passed.Session.{Open, outcome_next, Core, IsGoing, core_of, facts_of, is_waiting, next_for}
use Rattle.lvm_due.specs.Might.{might_land, shows_usable}
use Rattle.lvm_due.proofs.NotNextLemmas.{lands_not}
use Rattle.lvm_due.proofs.Nexts.{landed_waits, one}
use Rattle.lvm_due.proofs.AtPlaces.{read_same, stands}
use Rattle.lvm_due.proofs.UsableLemmas.{shown_usable}
use Rattle.lvm_due.proofs.firsts.landing_at.Goals as goal

pub returns-then-not-might_land : goal.returns-then-not-might_land
returns-then-not-might_land c o there =
    let core = core_of c.args.session.now in
    let found : Open = c.index.result.now in
    let same = read_same c.args.session.now.requests.items c.args.place found o there c.index.ensures in
    let at : slice_get core.requests c.args.place ≡ Some found = stands c.args.session.now.requests.items c.args.place found c.requires.there c.index.ensures in
    let might_not : might_land core found.request ≡ false = sym c.might_land.ensures ∙ c.if-not-might_land.true in
    let none = by core c.requires.going c.args.place found at might_not (is_waiting found) refl in
    sym (ap (λ (x : Open). option_map (event.Land c.args.place) (outcome_next (next_for core x))) (sym same) ∙ ap (option_map (event.Land c.args.place)) none)
  where
    by : (core : Core) (going : IsGoing core) (k : ℕ) (found : Open) → slice_get core.requests k ≡ Some found → might_land core found.request ≡ false → (b : Bool) → is_waiting found ≡ b → outcome_next (next_for core found) ≡ None
    by core going k found at lands true waits =
        let r = found.request in
        lands_not (facts_of core r) r (shows_usable core r.phase r) (shown_usable core r ((one core going k found at).waits waits).shape.targets r.phase) r.phase lands
    by core going k found at lands false landed = ap outcome_next (landed_waits core going k found at landed)
