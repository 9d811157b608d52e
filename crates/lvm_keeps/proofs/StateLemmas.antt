-- What a caller sees of the copy that is open.
use Rattle.std.proofs.Common.{◌≡◌, Bool, true, false, ◌&&◌, ◌||◌, not, List, [], ◌∷◌, refl, ap, ◌∙◌, if◌then◌else◌}
use Rattle.std.specs.Prelude.{is_none, is_some}
use Rattle.std.specs.List.{list_any}
use Rattle.std.specs.Option.{option_map_or}
use Rattle.lvm_session.specs.declared.answers.CopyState.TheVariants as copy
use Rattle.lvm_session.specs.declared.bringing.OpenCopy.{OpenCopy}
use Rattle.lvm_session.specs.declared.open.Open.{Open}
use Rattle.lvm_session.specs.State.{Core}
use Rattle.lvm_session.specs.Bringing.{is_out, is_whole}
use Rattle.lvm_session.specs.Calls.{is_aimed_at, is_still_aimed, state_at_end, state_of_copy}
use Rattle.lvm_session.specs.Judging.{stays_fresh, is_move_done, is_running, is_under_way, is_waiting, pps_of}
use Rattle.lvm_session.specs.Marks.{is_among}

or_false : (a : Bool) → a || false ≡ a
or_false true = refl
or_false false = refl

-- a copy that doesn't move is as its step and its end say
pub state_brought : (core : Core) (c : OpenCopy) → c.moves ≡ false → state_of_copy core c ≡ (if is_out c.step then copy.Running c.cursor else option_map_or (state_at_end c) c.end (copy.Running c.cursor))
state_brought core c stays =
    ap (λ b. if is_out c.step || (b && is_some c.end && is_aimed_at core c.pp) then copy.Running c.cursor else if is_move_done core c then copy.Done else option_map_or (state_at_end c) c.end (copy.Running c.cursor)) stays
    ∙ ap (λ b. if b then copy.Running c.cursor else if is_move_done core c then copy.Done else option_map_or (state_at_end c) c.end (copy.Running c.cursor)) (or_false (is_out c.step))
    ∙ ap (λ b. if is_out c.step then copy.Running c.cursor else if b && is_running c && is_whole core c && stays_fresh core c.pp && not (is_under_way core c) then copy.Done else option_map_or (state_at_end c) c.end (copy.Running c.cursor)) stays

-- so is each that has ended and rests, where no request waits
pub state_ended : (core : Core) (c : OpenCopy) → is_running c ≡ false → is_out c.step ≡ false → list_any is_waiting core.requests ≡ false → state_of_copy core c ≡ option_map_or (state_at_end c) c.end (copy.Running c.cursor)
state_ended core c over rests landed =
    ap (λ b. if b || is_still_aimed core c then copy.Running c.cursor else if is_move_done core c then copy.Done else option_map_or (state_at_end c) c.end (copy.Running c.cursor)) rests
    ∙ ap (λ b. if (c.moves && is_some c.end && b) then copy.Running c.cursor else if is_move_done core c then copy.Done else option_map_or (state_at_end c) c.end (copy.Running c.cursor)) (unaimed core.requests landed)
    ∙ ap (λ b. if b then copy.Running c.cursor else if is_move_done core c then copy.Done else option_map_or (state_at_end c) c.end (copy.Running c.cursor)) (and_false (c.moves && is_some c.end))
    ∙ ap (λ b. if c.moves && b && is_whole core c && stays_fresh core c.pp && not (is_under_way core c) then copy.Done else option_map_or (state_at_end c) c.end (copy.Running c.cursor)) over
    ∙ ap (λ b. if b && is_whole core c && stays_fresh core c.pp && not (is_under_way core c) then copy.Done else option_map_or (state_at_end c) c.end (copy.Running c.cursor)) (and_false c.moves)
  where
    and_false : (a : Bool) → a && false ≡ false
    and_false true = refl
    and_false false = refl

    unaimed : (os : List Open) → list_any is_waiting os ≡ false → list_any (λ (o : Open). is_none o.landed && is_among (pps_of o.request.targets.items) c.pp) os ≡ false
    unaimed [] e = refl
    unaimed (o ∷ os) e = by (is_waiting o) (λ f. unaimed os f) e
      where
        by : (b : Bool) → (list_any is_waiting os ≡ false → list_any (λ (x : Open). is_none x.landed && is_among (pps_of x.request.targets.items) c.pp) os ≡ false) → b || list_any is_waiting os ≡ false
            → (b && is_among (pps_of o.request.targets.items) c.pp) || list_any (λ (x : Open). is_none x.landed && is_among (pps_of x.request.targets.items) c.pp) os ≡ false
        by true rest f = absurd (cc f)
        by false rest f = rest f
