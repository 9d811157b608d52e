-- Once no event may be made and no transfer is out, a copy that is open doesn't run; and turns leave a move as it is.
use Rattle.std.proofs.Common.{◌≡◌, ℕ, Bool, true, false, ◌&&◌, ◌||◌, not, List, [], ◌∷◌, Option, Some, None, if◌then◌else◌, refl, sym, ap, subst, ◌∙◌, arith}
use Rattle.std.specs.Prelude.{IfSome, count_by, is_none, is_some}
use Rattle.std.specs.List.{list_any}
use Rattle.std.specs.Option.{option_map_or}
use Rattle.lvm_num.proofs.Booleans.{and_true}
use Rattle.lvm_disk.specs.Device.{Flight}
use Rattle.lvm_disk.specs.Paths.{Here, Path, Then}
use Rattle.lvm_session.specs.declared.answers.CopyState.TheVariants as copy
use Rattle.lvm_session.specs.declared.bringing.CopyEnd.{CopyEnd}
use Rattle.lvm_session.specs.declared.bringing.CopyEnd.TheVariants as ending
use Rattle.lvm_session.specs.declared.bringing.OpenCopy.{OpenCopy}
use Rattle.lvm_session.specs.declared.flown.Flown.{Flown}
use Rattle.lvm_session.specs.declared.flown.Owner.{Owner}
use Rattle.lvm_session.specs.declared.flown.Owner.TheVariants as owner
use Rattle.lvm_session.specs.declared.open.Open.{Open}
use Rattle.lvm_session.specs.State.{Core, State}
use Rattle.lvm_session.specs.Bringing.{is_out, is_whole}
use Rattle.lvm_session.specs.Calls.{copy_state, is_aimed_at, is_still_aimed, state_at_end, state_of_copy}
use Rattle.lvm_session.specs.Judging.{is_beside_copy, stays_fresh, is_held_by_move, is_move_done, is_running, is_under_way, is_waiting}
use Rattle.lvm_session.specs.Owners.{AreRows, flies, same_owner}
use Rattle.lvm_session.specs.Sound.{IsGoing, IsOn, IsSound, count_if}
use Rattle.lvm_keeps.proofs.StateLemmas.{state_ended}
use Rattle.lvm_keeps_events.proofs.KeepsFallsLemmas.Standing.{never_stands_still, none_waits_at_all}
use Rattle.lvm_going.specs.Moves.{next_of}
use Rattle.lvm_going.proofs.FramesLemmas.{turn_next}
use Rattle.lvm_driver.specs.Drains.{DrainedHasEnded, IsDrained, IsTurn}

-- where no transfer is out none is owned
none_flown : (core : Core) (rows : List Flown) (flights : List Flight) → AreRows core rows flights → flights ≡ [] → rows ≡ []
none_flown core [] flights are none = refl
none_flown core (row ∷ rows) [] are none = absurd are
none_flown core (row ∷ rows) (f ∷ flights) are none = absurd (cc none)

module _ (s : State) (sound : IsSound s) (drained : IsDrained s) where
  abbrev core : Core
  core = s.core

  on : IsOn s
  on = sound.on drained.on

  abbrev going : IsGoing core
  going = on.going

  -- ---- nothing is out

  pub flying : core.flying ≡ []
  flying = none_flown core core.flying s.device.flights on.rows drained.idle

  pub none_out : (who : Owner) → flies core who ≡ false
  none_out who = by (flies core who) (sym (ap (λ (rows : List Flown). count_by (λ (f : Flown). same_owner who f.owner) rows) flying) ∙ going.owned who)
    where
      by : (b : Bool) → count_by (λ (f : Flown). same_owner who f.owner) [] ≡ count_if b → b ≡ false
      by false e = refl
      by true e = absurd (omega (arith, e))

  -- ---- what doesn't wait for a move that is done is over

  pub stands : (list_any (λ (o : Open). is_waiting o && not (is_held_by_move core o.request.ask)) core.requests ≡ false) × IfSome core.copy (λ (c : OpenCopy). is_running c && not (is_move_done core c) ≡ false)
  stands = never_stands_still s sound drained.on drained.votes drained.none drained.idle

  -- ---- a copy that is open has ended

  pub has_ended : (cursor : ℕ) → copy_state core ≡ copy.Running cursor → ⊥
  has_ended cursor runs = by core.copy refl
    where
      ended : (c : OpenCopy) (m : Option CopyEnd) → is_none m ≡ false → option_map_or (state_at_end c) m (copy.Running c.cursor) ≡ copy.Running cursor → ⊥
      ended c None over e = cc over
      ended c (Some ending.Done) over e = cc e
      ended c (Some ending.SyncFailed) over e = cc e
      ended c (Some ending.NoFresh) over e = cc e
      ended c (Some ending.Ended) over e = cc e

      -- a move that is done runs, so that it is told as done
      moved : (c : OpenCopy) → is_out c.step ≡ false → is_move_done core c ≡ true → state_of_copy core c ≡ copy.Running cursor → ⊥
      moved c rests done e =
          let told : copy.Done ≡ copy.Running cursor = sym (
          ap (λ b. if b || is_still_aimed core c then copy.Running c.cursor else if is_move_done core c then copy.Done else option_map_or (state_at_end c) c.end (copy.Running c.cursor)) rests
          ∙ ap (λ b. if b then copy.Running c.cursor else if is_move_done core c then copy.Done else option_map_or (state_at_end c) c.end (copy.Running c.cursor)) unaimed
          ∙ ap (λ b. if b then copy.Done else option_map_or (state_at_end c) c.end (copy.Running c.cursor)) done
          ) ∙ e in cc told
        where
          parts : is_running c ≡ true
          parts = second c.moves (is_running c) (first (c.moves && is_running c) (is_whole core c) (first (c.moves && is_running c && is_whole core c) (stays_fresh core c.pp) (first (c.moves && is_running c && is_whole core c && stays_fresh core c.pp) (not (is_under_way core c)) done)))
            where
              first : (a b : Bool) → a && b ≡ true → a ≡ true
              first true b f = refl
              first false b f = absurd (cc f)

              second : (a b : Bool) → a && b ≡ true → b ≡ true
              second true b f = f
              second false b f = absurd (cc f)

          unended : is_some c.end ≡ false
          unended = by_end c.end parts
            where
              by_end : (m : Option CopyEnd) → is_none m ≡ true → is_some m ≡ false
              by_end None f = refl
              by_end (Some how) f = absurd (cc f)

          unaimed : is_still_aimed core c ≡ false
          unaimed = ap (λ b. c.moves && b && is_aimed_at core c.pp) unended ∙ by_moves c.moves
            where
              by_moves : (m : Bool) → m && false && is_aimed_at core c.pp ≡ false
              by_moves true = refl
              by_moves false = refl

      by : (m : Option OpenCopy) → core.copy ≡ m → ⊥
      by None is = let e : copy.Closed ≡ copy.Running cursor = sym (ap (λ m. option_map_or (state_of_copy core) m copy.Closed) is) ∙ runs in cc e
      by (Some c) is = by_move (is_move_done core c) refl
        where
          rests : is_out c.step ≡ false
          rests = sym (ap (λ m. option_map_or (λ (d : OpenCopy). is_out d.step) m false) is) ∙ none_out owner.Copy

          told : state_of_copy core c ≡ copy.Running cursor
          told = sym (ap (λ m. option_map_or (state_of_copy core) m copy.Closed) is) ∙ runs

          by_move : (b : Bool) → is_move_done core c ≡ b → ⊥
          by_move true done = moved c rests done told
          by_move false undone = ended c c.end stopped (sym (state_ended core c stopped rests landed) ∙ told)
            where
              stopped : is_running c ≡ false
              stopped = sym (and_true (is_running c)) ∙ sym (ap (λ b. is_running c && not b) undone) ∙ subst (λ m. IfSome m (λ (d : OpenCopy). is_running d && not (is_move_done core d) ≡ false)) is stands.1

              landed : list_any is_waiting core.requests ≡ false
              landed = none_waits_at_all core (λ ask. ap (λ m. option_map_or (λ (d : OpenCopy). is_move_done core d && is_beside_copy core ask d) m false) is ∙ ap (λ b. b && is_beside_copy core ask c) undone) core.requests stands.0

-- ---- laws

pub drained_has_ended : DrainedHasEnded
drained_has_ended s sound drained cursor runs = has_ended s sound drained cursor runs

-- a copy that moves does so to the same partition however many turns are made
pub path_keeps_move : {P : State → Type 0} {first last : State} → Path IsTurn P first last → next_of last.core ≡ next_of first.core
path_keeps_move (Here here) = refl
path_keeps_move {first = first} {last = last} (Then {m = mid} path turn there) = turn_next mid last turn.0 turn.1 ∙ path_keeps_move path
