use Rattle.std.proofs.Common.{◌≡◌, ◌*◌, ◌≤◌, true, cond, not, List, [], ◌∷◌, ◌++◌, length, Some, None, is_ok, sym, ap, subst, ◌∙◌, arith}
use Rattle.std.specs.Prelude.{All, sum_by}
use Rattle.std.proofs.lemmas.List.{length_push}
use Rattle.lvm_num.specs.declared.place.Pp.{Pp}
use Rattle.lvm_num.specs.Descriptor.{partitions_used}
use Rattle.lvm_num.specs.Disks.{has}
use Rattle.lvm_map.specs.FirstFit.{Asked, IsFirstFit}
use Rattle.lvm_map.specs.FreePartitions.{free_partitions, TakesNext}
use Rattle.lvm_map.proofs.FirstFitLemmas.Fitting.{next_is_some, next_is_none, fits-more}
use Rattle.lvm_map.proofs.FreePartitionsLemmas.Members.{few_members, few_each, free_is}
use Rattle.lvm_map.proofs.fit.fit.Goals as goal

pub free-free-requires-clause-members : goal.free-free-requires-clause-members
free-free-requires-clause-members c =
    rw c.in-Ok.ensures (few_members c.args.d.now c.requires.valid (has c.args.usable) (partitions_used c.args.d.now))

pub free-free-requires-clause-each : goal.free-free-requires-clause-each
free-free-requires-clause-each c =
    subst (All (λ (free : List Pp). length free ≤ 1016)) (sym c.in-Ok.ensures) (few_each c.args.d.now c.requires.valid (has c.args.usable) (partitions_used c.args.d.now))

pub returns-in_default-next-clause-fault : goal.returns-in_default-next-clause-fault
returns-in_default-next-clause-fault c =
    let d = c.args.d.now in
    let asked : Asked = record { lps = c.args.lps; copies = c.args.copies; kept = c.args.kept; old = c.args.old.now } in
    let usable = has c.args.usable in
    let front = c.loop-room.map.items in (
      record {
        front = front;
        short = omega (arith, c.loop-room-test.true, c.len.ensures, c.loop-room.map.ok, ap (λ n. c.args.lps * n) c.from.ensures);
        fits = c.loop-room.invariant.fits;
        none =
            next_is_none d usable asked front c.loop-room.room c.next.new.room c.loop-room.invariant.room
            (subst (λ (pps : List Pp). TakesNext asked pps c.loop-room.room c.next.new.room None) c.deref.ensures.value c.in_default-next.ensures);
      },
      c.free-free.ensures ∙ ap (sum_by (λ (free : List Pp). length free)) c.in-Ok.ensures ∙ free_is d usable (partitions_used d),
    )

pub loop-room-preserved : goal.loop-room-preserved
loop-room-preserved c =
    let d = c.args.d.now in
    let usable = has c.args.usable in
    let asked : Asked = record { lps = c.args.lps; copies = c.args.copies; kept = c.args.kept; old = c.args.old.now } in
    let front = c.loop-room.map.items in
    let ok : is_ok c.push.result ≡ true = c.is_err.ensures.negation ∙ ap not c.if-is_err.false in
    let pushed : c.push.new.self.items ≡ front ++ c.in-Some.pp ∷ [] = c.push.ensures.items ∙ ap (λ b. cond b (front ++ c.in-Some.pp ∷ []) front) ok in
    let next = next_is_some d usable asked front c.loop-room.room c.next.new.room c.in-Some.pp c.requires.valid.members.disks_differ c.requires.used c.loop-room.invariant.room
    (subst (λ (pps : List Pp). TakesNext asked pps c.loop-room.room c.next.new.room (Some c.in-Some.pp)) c.deref.ensures.value c.in-Some.ensures) in
    record {
      within = omega (arith, ap (λ (pps : List Pp). length pps) pushed, length_push front c.in-Some.pp, c.loop-room-test.true, c.len.ensures, c.loop-room.map.ok);
      fits = subst (IsFirstFit d usable asked) (sym pushed) (fits-more d usable asked front c.in-Some.pp c.loop-room.invariant.fits next.0);
      room = next.1 ∙ ap (λ (pps : List Pp). free_partitions d usable (partitions_used d ++ pps)) (sym pushed);
    }
