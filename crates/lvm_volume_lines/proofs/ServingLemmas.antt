-- A command on a volume that the group doesn't have: the session comes to rest, and goes on.
use Rattle.std.proofs.Common.{◌≡◌, ◌<◌, ◌^◌, ℕ, [], List, Result, Err, refl, sym, ◌∙◌, ap, subst, arith}
use Rattle.lvm_num.specs.declared.descriptor.Mode.TheVariants.{Off}
use Rattle.lvm_num.specs.declared.descriptor.Policy.TheVariants as policy
use Rattle.lvm_disk.specs.Device.{Device, HasSectors}
use Rattle.lvm_vol.specs.Log.{Log}
use Rattle.lvm_session.specs.State.{Core, State}
use Rattle.lvm_core.specs.Looking.{HasNoVolumeNamed}
use Rattle.lvm_core.specs.State.{state_of}
use Rattle.lvm_range_lines.specs.passed.Handover.{IsCommanded}
use Rattle.lvm_range_lines.specs.passed.TieCommands.{MayServeWith}
use Rattle.lvm_range_lines.proofs.passed.Handover.{mklv_serves}
use Rattle.lvm_range_lines.proofs.passed.TieCommands.{mklv_goes_on}
use Rattle.lvm_range_lines.specs.passed.VolumePlan.{GroupFault, NewVolume}
use Rattle.lvm_range_lines.specs.passed.VolumePlanFaultGroupFault as fault
use Rattle.lvm_range_lines.specs.passed.Volumes.{MklvGives, to_make}
use Rattle.lvm_range_lines.proofs.passed.Volumes.{keeps_none, leaves_none}
use Rattle.lvm_range_lines.specs.passed.GroupLines.{EndsUnasked, patience_of_line, LineGoesOn, Role, HaveRooms, IsBetweenStage, IsFittingStage, IsOfKind, history_in, open_in, session_in, shelf_in, state_in, ScriptState, without_facts, Holder, Reply, Stage}
use Rattle.lvm_range_lines.specs.passed.RefusalVariants as refusal
use Rattle.lvm_range_lines.specs.passed.ReplyVariants as reply
use Rattle.lvm_range_lines.proofs.passed.Tie.{path_frames}
use Rattle.lvm_volume_lines.specs.Commands.{HasRested, IsHeldAgain}
use Rattle.lvm_volume_lines.specs.Volumes.{Drains, StaysOn}
use Rattle.lvm_volume_lines.proofs.Commanding.{Acts, Promised, goes_on, promised_by, ready_mid, rows_mid}
use Rattle.lvm_volume_lines.proofs.Carrying.{at_mid, drains, its_history, rows_again, stands_again}

module _ {S : Type 0} (device : S → Device) (stage : Stage S) (fits : IsFittingStage stage) (between : IsBetweenStage device stage) (none : open_in (session_in stage) ≡ 0) (patience : ℕ) (driver : S × Core)
    (rested : HasRested device stage.holder patience_of_line patience driver) (name : List ℕ) (unnamed : HasNoVolumeNamed driver.1.descriptor.lvs name) where
  abbrev core : Core
  core = rested.turned.core

  abbrev mid : State
  mid = state_of device driver

  -- it is as a making that is refused, which changes nothing
  abbrev asked : NewVolume
  asked = record { name = name; copies = 0; mode = Off; policy = policy.Parallel; lps = 1 }

  abbrev given : Result ℕ GroupFault
  given = Err (fault.CopyLimit 0)

  gives : MklvGives asked patience mid mid given
  gives = (refl, (record { takes = record { on = rested.settled.power; requests = rested.settled.quiet.requests }; new = unnamed }, (λ may. let low = may.0 in absurd (omega (arith, low))), refl))

  commanded : IsCommanded (to_make asked mid.core) patience patience mid mid given
  commanded = record {
    began = rested.settled;
    on = rested.settled;
    still = record { held = λ held. held; notes = λ home. home; only = λ held only. only; left = λ none. none };
    fresh = keeps_none mid;
    leaves = leaves_none (to_make asked mid.core) patience mid;
  }

  pub may_again : MayServeWith [] mid
  may_again = let may = mklv_serves asked patience patience mid mid given rested.turned.sound commanded gives in (may.0, λ none. may.1)

  promised : Promised mid mid
  promised = promised_by (to_make asked mid.core) patience patience mid mid commanded.leaves

  module _ (role : Role) (acts : Acts role) (by : Holder S) (held : IsHeldAgain device [] driver by) (it : Stage S) (is : it ≡ record { holder = by; posts = stage.posts; bytes = stage.bytes }) (answer : Reply) (says : answer ≡ reply.Refused refusal.NoVolume)
      (sectors : (shelf : S) → HasSectors (device shelf)) where
    log_is : history_in it ≡ driver.1.history
    log_is = ap (λ (s : Stage S). history_in s) is ∙ held.history

    log_same : without_facts (history_in it) ≡ without_facts (history_in stage)
    log_same = ap without_facts log_is ∙ (path_frames rested.turned.runs).keeps.log ∙ sym (ap without_facts (its_history device stage fits between none core rested.turned.its))

    device_is : device (shelf_in it) ≡ device driver.0
    device_is = ap (λ (s : Stage S). device (shelf_in s)) is ∙ ap device held.shelf

    abbrev stays : (last : ℕ) → StaysOn mid (state_in device stage last) (state_in device it last)
    stays last = record {
      core = held.core;
      is = held.is;
      session = ap (λ (s : Stage S). session_in s) is ∙ held.session;
      device = device_is;
      facts = ap (λ (l : Log). l.facts) log_is;
      posts = ap (λ (s : Stage S). s.posts.items) is;
    }

    goes : (last : ℕ) → LineGoesOn core.history.run role (reply.Refused refusal.NoVolume) (state_in device stage last) (state_in device it last)
    goes last =
        let old = state_in device stage last in
        let mids = at_mid device stage fits between none patience driver rested last in
        goes_on role acts old core mid mid mids promised (λ range answered. answered) (reply.Refused refusal.NoVolume) (state_in device it last) (stays last).facts refl (omega arith) (λ m may alone. may.keeps)
        held.core held.is (stays last).session (stays last).device (stays last).posts (ready_mid old core mid mids) rested.settled rested.between.landed held.sound
        (rows_again device [] driver by held (rows_mid old core mid mids))
        (λ m may alone past begins. stands_again device [] driver by held past ((mklv_goes_on core.history.run m asked patience patience mid mid given may alone commanded gives).1 (sectors driver.0) past begins))

    pub unnamed_ends : (Does : Log → ScriptState → ScriptState → Reply → Type 0)
        → ((last : ℕ) → Drains core (state_in device stage last) patience mid → StaysOn mid (state_in device stage last) (state_in device it last) → Does (without_facts (history_in stage)) (state_in device stage last) (state_in device it last) answer)
        → EndsUnasked device Does ⊥ role stage it answer
    unnamed_ends Does does = λ last. record {
      does = does last (drains device stage fits between none patience driver rested last) (stays last);
      goes = subst (λ (n : ℕ). LineGoesOn n role answer (state_in device stage last) (state_in device it last)) (sym (ap (λ (l : Log). l.run) (its_history device stage fits between none core rested.turned.its)))
          (subst (λ (a : Reply). LineGoesOn core.history.run role a (state_in device stage last) (state_in device it last)) (sym says) (goes last));
      rooms = log_same;
      fits = record {
        kind = subst (λ (s : Stage S). IsOfKind s.holder) (sym is) held.kind;
        few = subst (λ (l : Log). l.room < 2 ^ 32) (sym log_same) fits.few;
        rooms = subst (λ (l : Log). HaveRooms l.room it.posts it.bytes) (sym log_same) (subst (λ (s : Stage S). HaveRooms (history_in stage).room s.posts s.bytes) (sym is) fits.rooms);
      };
      orders = λ nothing. ap (λ (d : Device). d.orders) device_is ∙ (path_frames rested.turned.runs).orders;
    }
