-- A copy that is closed, tied.
use Rattle.std.proofs.Common.{◌≡◌, inl, ⊎_elim, ℕ, Bool, true, false, ◌&&◌, ◌||◌, not, if◌then◌else◌, List, [], ◌∷◌, Option, Some, None, refl, sym, ap, subst, ◌∙◌}
use Rattle.std.specs.Option.{option_map_or}
use Rattle.lvm_vol.specs.Facts.{Fact}
use Rattle.lvm_disk.specs.Device.{Flight}
use Rattle.lvm_session.specs.declared.bringing.OpenCopy.{OpenCopy}
use Rattle.lvm_session.specs.declared.bringing.CopyEnd.{CopyEnd}
use Rattle.lvm_session.specs.declared.flown.Flown.{Flown}
use Rattle.lvm_session.specs.declared.flown.Owner.{Owner}
use Rattle.lvm_session.specs.declared.flown.Owner.TheVariants as owner
use Rattle.lvm_session.specs.declared.answers.CopyState.TheVariants as copy
use Rattle.lvm_session.specs.State.{Core, State, state}
use Rattle.lvm_session.specs.Judging.{is_running}
use Rattle.lvm_session.specs.Bringing.{groups_of, has_row, is_out, is_whole}
use Rattle.lvm_session.specs.Calls.{closed, copy_state, state_at_end, state_of_copy}
use Rattle.lvm_keeps.proofs.StateLemmas.{state_brought}
use Rattle.lvm_tie.proofs.SeenLemmas.Beside.{closed_beside, none_beside as stays_beside}
use Rattle.lvm_tie.proofs.CallsLemmas.MoveCloses.{move_closes}
use Rattle.lvm_session.specs.Sound.{IsSound}
use Rattle.lvm_invariant.specs.State.{ModelState}
use Rattle.lvm_tie.specs.Out.{CarriesStep, CarryTheirs}
use Rattle.lvm_tie.specs.Seen.{IsRequestAt, IsStepAt, Sees, SeesCopy, SeesRunning, step_write_in, beside_of}
use Rattle.lvm_tie.specs.Tied.{IsTied}
use Rattle.lvm_tie.proofs.TiedLemmas.Orderly.{orderly_same}
use Rattle.lvm_tie.specs.Calls.{CloseTies}
use Rattle.lvm_tie.proofs.NearLemmas.{no_write as step_none}

-- one that isn't running by what a caller sees has ended, and nothing of it is out
pub record IsEnded (c : OpenCopy) : Type 0 where
  pub over : is_running c ≡ false
  pub still : is_out c.step ≡ false

has_ended : (c : OpenCopy) → ((cursor : ℕ) → (if is_out c.step then copy.Running c.cursor else option_map_or (state_at_end c) c.end (copy.Running c.cursor)) ≡ copy.Running cursor → ⊥) → IsEnded c
has_ended c ended = by (is_out c.step) c.end refl refl ended
  where
    by : (b : Bool) (m : Option CopyEnd) → is_out c.step ≡ b → c.end ≡ m → ((cursor : ℕ) → (if b then copy.Running c.cursor else option_map_or (state_at_end c) m (copy.Running c.cursor)) ≡ copy.Running cursor → ⊥) → IsEnded c
    by true m out is none = absurd (none c.cursor refl)
    by false None out is none = absurd (none c.cursor refl)
    by false (Some how) out is none = record { over = ap (λ (x : Option CopyEnd). Rattle.std.specs.Prelude.is_none x) is; still = out }

ended_of : (core : Core) → ((cursor : ℕ) → copy_state core ≡ copy.Running cursor → ⊥) → (c : OpenCopy) → core.copy ≡ Some c → c.moves ≡ false → IsEnded c
ended_of core ended c is stays = has_ended c (λ cursor h. ended cursor (ap (λ (m : Option OpenCopy). option_map_or (state_of_copy core) m copy.Closed) is ∙ state_brought core c stays ∙ h))

no_row : (core : Core) (c : OpenCopy) → IsEnded c → has_row core c ≡ false
no_row core c ended = (λ t. ended.still t || (ended.over t && not (is_whole core c)))

module _ (past : List Fact) (s : State) (tied : IsTied past s) (ended : (cursor : ℕ) → copy_state s.core ≡ copy.Running cursor → ⊥) (sound : IsSound (state s.device (closed s.core)))
    (stays : (c : OpenCopy) → s.core.copy ≡ Some c → c.moves ≡ false) where
  abbrev core : Core
  core = s.core

  abbrev v : ModelState
  v = tied.view

  not_open : v.open_copy ≡ None
  not_open = by core.copy refl tied.sees.open_copy
    where
      by : (m : Option OpenCopy) → core.copy ≡ m → SeesCopy (groups_of core) m v.open_copy → v.open_copy ≡ None
      by None is sees = sees
      by (Some c) is sees = subst (λ b. SeesRunning b (groups_of core) c v.open_copy) (ended_of core ended c is (stays c is)).over sees

  no_write : v.step_write ≡ None
  no_write = tied.sees.step_write ∙ by core.copy refl
    where
      by : (m : Option OpenCopy) → core.copy ≡ m → step_write_in m ≡ None
      by None is = refl
      by (Some c) is = step_none c c.step (ended_of core ended c is (stays c is)).still

  none_beside : beside_of core ≡ None
  none_beside = by core.copy refl
    where
      by : (m : Option OpenCopy) → core.copy ≡ m → beside_of core ≡ None
      by None is = closed_beside core is
      by (Some c) is = stays_beside core c (beside_of core) refl is (stays c is)

  sees : Sees past (closed core) v
  sees = record {
    queue = record {
      requests = tied.sees.queue.requests;
      a_step = λ c is. absurd (cc is);
      only = λ j q at. ⊎_elim
          (λ (r : IsRequestAt core j). inl r)
          (λ (r : IsStepAt core j). absurd (let e : true ≡ false = sym r.row ∙ no_row core r.copy (ended_of core ended r.copy r.is_open (stays r.copy r.is_open)) in cc))
          (tied.sees.queue.only j q at);
      names = tied.sees.queue.names;
    };
    facts = tied.sees.facts;
    status = tied.sees.status;
    notes = tied.sees.notes;
    open_copy = not_open;
    step_write = no_write;
    beside = tied.sees.beside ∙ none_beside;
  }

  carry_none : (fs : List Flight) (rows : List Flown) → CarryTheirs (closed core) v fs rows
  carry_none [] rows = tt
  carry_none (f ∷ fs) [] = tt
  carry_none (f ∷ fs) (row ∷ rows) = (by row.owner, carry_none fs rows)
    where
      by : (who : Owner) → CarriesStep (closed core) v f who
      by (owner.Data id n) = tt
      by (owner.Status disk) = tt
      by (owner.Note disk) = tt
      by owner.Copy = λ c q is. absurd (cc is)

  pub closed_ties : IsTied past (state s.device (closed core))
  closed_ties = record {
    votes = tied.votes;
    media = tied.media;
    setting = tied.setting;
    view = v;
    sees = sees;
    good = tied.good;
    describes = tied.describes;
    write = tied.write;
    orderly = orderly_same s (state s.device (closed core)) tied.write tied.orderly sound refl refl refl;
    since = tied.since;
    recorded = tied.recorded;
    notes = tied.notes;
    copy_aimed = λ c is. absurd (cc is);
    carry = carry_none s.device.flights core.flying;
  }

pub close_ties : CloseTies
close_ties past s new tied sound closes = subst (λ (c : Core). IsTied past (state s.device c)) (sym closes.is) (by s.core.copy refl)
  where
    is_sound : IsSound (state s.device (closed s.core))
    is_sound = subst (λ (c : Core). IsSound (state s.device c)) closes.is sound

    of : (c : OpenCopy) → s.core.copy ≡ Some c → (b : Bool) → c.moves ≡ b → IsTied past (state s.device (closed s.core))
    of c is false stays = closed_ties past s tied closes.ended is_sound (λ d at. ap (λ (x : OpenCopy). x.moves) (let e : Some d ≡ Some c = sym at ∙ is in let same : d ≡ c = cc in same) ∙ stays)
    of c is true moves = move_closes past s tied closes.ended is_sound c is moves

    by : (m : Option OpenCopy) → s.core.copy ≡ m → IsTied past (state s.device (closed s.core))
    by None none = closed_ties past s tied closes.ended is_sound (λ d at. absurd (let e : None ≡ Some d = sym none ∙ at in cc))
    by (Some c) is = of c is c.moves refl
