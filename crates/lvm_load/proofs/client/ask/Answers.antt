use Rattle.std.proofs.Common.{◌≡◌, ◌+◌, ◌*◌, ◌%◌, ◌^◌, ℕ, get_or, refl, ap, arith}
use Rattle.std.specs.Prelude.{Err, Ok}
use Rattle.lvm_workers.specs.Draws.{draw_at}
use Rattle.lvm_load.specs.Requests.{word_of}
use Rattle.lvm_load.specs.Weaving.{fresh_client}
use Rattle.lvm_load.proofs.RequestsLemmas.{client_there, submits_drawn}
use Rattle.lvm_load.proofs.client.ask.Goals as goal

pub returns-in-Ok-clause-asks : goal.returns-in-Ok-clause-asks
returns-in-Ok-clause-asks g c =
    let client = get_or c.args.clients.now c.args.k fresh_client in
    let from = c.from-first.ensures in
    let first : 4294967296 * c.from-first.result ≡ (c.args.k + 1) * 2 ^ 32 = omega (arith, from) in
    record {
      client = client;
      answer = Ok c.in-Ok.id;
      client_is = client_there c.args.clients.now c.args.k c.requires.within.0;
      submits = submits_drawn c.args.driver.now.1 c.submit_drawn.new.driver.1 (c.args.k + 1) c.args.lv c.args.blocks c.draw_request-drawn.result (draw_at c.args.rng.now) ((4294967296 * c.from-first.result + client.offset) % 2 ^ 64) (word_of (c.args.k + 1) client.offset) (Ok c.in-Ok.id) c.draw_request-drawn.ensures.words
          (ap (λ (n : ℕ). (n + client.offset) % 2 ^ 64) first) c.in-Ok.ensures.gives;
      shelf = ap g.S.Shelf.device c.in-Ok.ensures.shelf;
      after_is = refl;
      more_is = refl;
    }

pub returns-in-Err-clause-asks : goal.returns-in-Err-clause-asks
returns-in-Err-clause-asks g c =
    let client = get_or c.args.clients.now c.args.k fresh_client in
    let from = c.from-first.ensures in
    let first : 4294967296 * c.from-first.result ≡ (c.args.k + 1) * 2 ^ 32 = omega (arith, from) in
    record {
      client = client;
      answer = Err c.in-Err.why;
      client_is = client_there c.args.clients.now c.args.k c.requires.within.0;
      submits = submits_drawn c.args.driver.now.1 c.submit_drawn.new.driver.1 (c.args.k + 1) c.args.lv c.args.blocks c.draw_request-drawn.result (draw_at c.args.rng.now) ((4294967296 * c.from-first.result + client.offset) % 2 ^ 64) (word_of (c.args.k + 1) client.offset) (Err c.in-Err.why) c.draw_request-drawn.ensures.words
          (ap (λ (n : ℕ). (n + client.offset) % 2 ^ 64) first) c.in-Err.ensures.gives;
      shelf = ap g.S.Shelf.device c.in-Err.ensures.shelf;
      after_is = refl;
      more_is = c.goes_on.ensures;
    }
