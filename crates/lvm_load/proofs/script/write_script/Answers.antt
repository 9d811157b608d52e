use Rattle.std.proofs.Common.{◌∙◌, ℕ, ◌+◌, refl, sym, subst, arith}
use Rattle.std.specs.String.{string_bytes}
use Rattle.lvm_io.specs.Count.{Rose}
use Rattle.lvm_workers.specs.Draws.{draw_at}
use Rattle.lvm_load.specs.Script.{line_text}
use Rattle.lvm_load.proofs.ScriptLemmas.Growing.{begins, err_of, front_at_end, front_at_fault, front_at_first, front_at_want, ok_of, one_more}
use Rattle.lvm_load.proofs.script.write_script.Goals as goal

pub returns-in_default-clause-front : goal.returns-in_default-clause-front
returns-in_default-clause-front g c = front_at_first c.args.seed c.args.count (g.O.Sink.held c.args.out.now)

pub loop-k-init : goal.loop-k-init
loop-k-init g c = (begins c.args.seed (string_bytes c.in-Ok.text) c.generator-rng.result (g.O.Sink.held c.args.out.now) (g.O.Sink.faults c.args.out.now) c.in-Ok.ensures.ok c.generator-rng.ensures, (refl, refl))

pub returns-then-is_err-clause-front : goal.returns-then-is_err-clause-front
returns-then-is_err-clause-front g c =
    front_at_want c.args.seed c.loop-k.k c.args.count (string_bytes c.loop-k.text) c.loop-k.rng (g.O.Sink.held c.args.out.now) (g.O.Sink.held c.loop-k.out) (g.O.Sink.faults c.args.out.now) (g.O.Sink.faults c.loop-k.out)
    c.loop-k.invariant.0 c.loop-k-test.true

pub returns-then-is_err-clause-memory : goal.returns-then-is_err-clause-memory
returns-then-is_err-clause-memory g c = λ is. c.loop-k.invariant.0.well

pub returns-then-is_err-2-clause-front : goal.returns-then-is_err-2-clause-front
returns-then-is_err-2-clause-front g c =
    front_at_fault c.args.seed c.loop-k.k (string_bytes c.loop-k.text) (line_text (c.loop-k.k + 1) (draw_at c.loop-k.rng)) c.loop-k.rng (g.O.Sink.held c.args.out.now) (g.O.Sink.held c.loop-k.out) (g.O.Sink.faults c.args.out.now)
    (g.O.Sink.faults c.loop-k.out) c.loop-k.invariant.0 c.args.count (string_bytes c.push_request.new.text) (g.O.Sink.held c.flush_long.new.out) c.loop-k-test.true
    (ok_of c.push_request.result _ (sym c.if-is_err.ensures.value) c.push_request.ensures.line) refl (err_of c.flush_long.result _ (sym c.if-is_err-2.ensures.value) c.flush_long.ensures.front)

pub returns-then-is_err-2-clause-cause : goal.returns-then-is_err-2-clause-cause
returns-then-is_err-2-clause-cause g c = λ is.
    subst (λ (n : ℕ). Rose n (g.O.Sink.faults c.flush_long.new.out)) c.loop-k.invariant.0.well (err_of c.flush_long.result _ (sym c.if-is_err-2.ensures.value) c.flush_long.ensures.cause)

pub loop-k-preserved : goal.loop-k-preserved
loop-k-preserved g c = (
  one_more c.args.seed c.loop-k.k (string_bytes c.loop-k.text) (line_text (c.loop-k.k + 1) (draw_at c.loop-k.rng)) c.loop-k.rng (g.O.Sink.held c.args.out.now) (g.O.Sink.held c.loop-k.out) (g.O.Sink.faults c.args.out.now)
      (g.O.Sink.faults c.loop-k.out) c.loop-k.invariant.0 (string_bytes c.push_request.new.text) (string_bytes c.flush_long.new.text) c.push_request.new.rng (g.O.Sink.held c.flush_long.new.out) (g.O.Sink.faults c.flush_long.new.out)
      (ok_of c.push_request.result _ (sym c.if-is_err.ensures.value) c.push_request.ensures.line) refl c.push_request.ensures.after
      (ok_of c.flush_long.result _ (sym c.if-is_err-2.ensures.value) c.flush_long.ensures.whole) (ok_of c.flush_long.result _ (sym c.if-is_err-2.ensures.value) c.flush_long.ensures.well),
  (c.flush_long.ensures.image.0 ∙ c.loop-k.invariant.1.0, c.flush_long.ensures.image.1 ∙ c.loop-k.invariant.1.1),
)

pub returns-clause-front : goal.returns-clause-front
returns-clause-front g c =
    front_at_end c.args.seed c.args.count c.loop-k.k (string_bytes c.loop-k.text) c.loop-k.rng (g.O.Sink.held c.args.out.now) (g.O.Sink.held c.loop-k.out) (g.O.Sink.held c.flush.new.out) (g.O.Sink.faults c.args.out.now)
    (g.O.Sink.faults c.loop-k.out) c.loop-k.invariant.0 (omega arith) c.in-Err.ensures.front
