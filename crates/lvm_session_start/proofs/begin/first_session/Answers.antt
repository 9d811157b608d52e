use Rattle.std.proofs.Common.{false, length, ◌∙◌, ap, arith}
use Rattle.std.proofs.lemmas.List.{length-replicate}
use Rattle.lvm_keeps.specs.passed.Session.{Core}
use Rattle.lvm_session_start.proofs.begin.first_session.Goals as goal

pub returns-clause-rooms : goal.returns-clause-rooms
returns-clause-rooms g c =
    let its = c.requires.reserved in
    let made = c.of_parts.ensures in
    let room = c.args.parts.room in
    let most = ap (λ (core : Core). core.most) made.core in
    let pool = ap (λ (core : Core). length core.pool) made.core ∙ ap length its.pool ∙ length-replicate room.pool false in
    let requests = made.requests in
    let flying = made.flying in
    let for_requests = its.for_requests in
    let for_transfers = its.for_transfers in
    let blocks = ap (λ b. length b.items) made.bytes ∙ its.for_blocks in
    record {
      requests = omega (arith, most, requests, for_requests);
      flying = omega (arith, pool, flying, for_transfers);
      bytes = omega (arith, blocks);
    }
