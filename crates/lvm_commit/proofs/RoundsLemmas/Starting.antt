-- What is wanted goes in flight.
use Rattle.std.proofs.Common.{◌≡◌, Bool, ◌↔◌, Some, None, IsTrue, sym, ◌∙◌, ap}
use Rattle.std.specs.Prelude.{if◌then◌else◌}
use Rattle.lvm_num.specs.declared.descriptor.Descriptor.{Descriptor}
use Rattle.lvm_num.specs.declared.status.Status.{Status}
use Rattle.lvm_status.specs.Update.{Stored, Updates, members_there, seen, MayStartUpdate}
use Rattle.lvm_status.specs.Calls.{with_update}
use Rattle.lvm_commit.specs.Settling.{there}
use Rattle.lvm_commit.specs.Rounds.{Starts}

pub update_starts : (u x : Stored) (result : Bool) → u.in_flight ≡ None → (u.committed ≡ u.wanted → ⊥) → (IsTrue result ↔ MayStartUpdate (seen u)) → seen x ≡ (if result then with_update (seen u) else seen u) → Starts u x
update_starts u x result idle differs tells is =
    let may : MayStartUpdate (seen u) = record { none = idle; differs = λ same. differs (sym same) } in
    let it : seen x ≡ with_update (seen u) = is ∙ ap (λ (b : Bool). if b then with_update (seen u) else seen u) (tells.1 may) in
    let group : x.group ≡ u.group = ap (λ (v : Updates). v.group) it in
    let wanted : x.wanted ≡ u.wanted = ap (λ (v : Updates). v.wanted) it in
    record {
      group = group;
      wanted = wanted;
      committed = ap (λ (v : Updates). v.committed) it;
      stamp = ap (λ (v : Updates). v.stamp) it;
      started = record {
        flies = ap (λ (v : Updates). v.in_flight) it ∙ ap (λ (s : Status). Some s) (sym wanted);
        unstarted = ap (λ (v : Updates). v.unstarted) it ∙ sym (ap (λ (g : Descriptor). members_there g x.wanted) group ∙ ap (λ (s : Status). members_there u.group s) wanted);
        started = ap (λ (v : Updates). v.started) it;
        written = ap (λ (v : Updates). v.written) it;
        failed = ap (λ (v : Updates). v.failed) it;
      };
    }

-- the members that aren't missing stay those
pub there_still : (u x : Stored) → Starts u x → there x ≡ there u
there_still u x starts = ap (λ (g : Descriptor). members_there g x.wanted) starts.group ∙ ap (λ (s : Status). members_there u.group s) starts.wanted
