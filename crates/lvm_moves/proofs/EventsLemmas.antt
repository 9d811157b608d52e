-- An admission, put together from its steps.
use Rattle.std.proofs.Common.{◌≡◌, ℕ, Bool, List, Some, slice_get, slice_set, if◌then◌else◌, refl, subst}
use Rattle.lvm_num.specs.declared.descriptor.Mode.{Mode}
use Rattle.lvm_num.specs.declared.descriptor.Policy.{Policy}
use Rattle.lvm_mwc.specs.Cache.{Cached, after_unpin}
use Rattle.lvm_status.specs.Update.{Stored}
use Rattle.lvm_path.specs.declared.facts.Next.TheVariants as next
use Rattle.lvm_path.specs.declared.target.Target.{Target}
use Rattle.lvm_path.specs.Asks.{lv_of}
use Rattle.lvm_session.specs.declared.open.Open.{Open}
use Rattle.lvm_session.specs.State.{State, state}
use Rattle.lvm_session.specs.Judging.{group_of, mode_of, next_for, policy_of}
use Rattle.lvm_session.specs.Events.{Admits, Chooses, admitted_as, last_after, makes_dirty}
use Rattle.lvm_session.specs.Marks.{WantsDirtyIf}

-- o is the request as it is read, w as it is written, and l as it is admitted
module _ (old : State) (place : ℕ) (o : Open) (there : slice_get old.core.requests place ≡ Some o) (admits : next_for old.core o ≡ next.Admit) where
  pub admission_is : (w l : Open) (how : Policy) (m : Mode) (targets : List Target) (order : List ℕ) (dirty : Bool) (lv lv2 : ℕ) (cache : Cached) (last : List ℕ) (status : Stored)
      → w ≡ o → how ≡ policy_of old.core o.request.ask → m ≡ mode_of old.core o.request.ask → lv ≡ lv_of o.request.ask → lv2 ≡ lv_of o.request.ask
      → Chooses old o.request.ask targets order → dirty ≡ makes_dirty old.core o.request.ask targets → WantsDirtyIf dirty lv2 old.core.status status → l ≡ admitted_as how m targets w
      → cache ≡ (if o.request.pinned then after_unpin old.core.cache (lv_of o.request.ask) (group_of o.request.ask) else old.core.cache)
      → last ≡ last_after old.core.last lv order
      → Admits old (state old.device (record old.core { requests = slice_set old.core.requests place l; cache = cache; last = last; status = status })) place
  admission_is w l how m targets order dirty lv lv2 cache last status wrote hows modes lvs lvs2 chooses is_dirty marks admitted unpins lasts = record {
    request = o;
    there = there;
    admits = admits;
    targets = targets;
    order = order;
    chosen = chooses;
    dirty = subst (λ (b : Bool). WantsDirtyIf b (lv_of o.request.ask) old.core.status status) is_dirty (subst (λ n. WantsDirtyIf dirty n old.core.status status) lvs2 marks);
    is = rw (unpins, lasts, admitted, hows, modes, lvs, wrote) refl;
  }
