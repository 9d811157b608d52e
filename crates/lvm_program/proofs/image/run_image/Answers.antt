use Rattle.std.proofs.Common.{◌≡◌, ◌+◌, ◌*◌, ◌∙◌, ◌++◌, ℕ, List, arith, subst}
use Rattle.lvm_io.specs.Stream.{WhereTold, WritesFront}
use Rattle.lvm_program.proofs.StreamLemmas.{BlankSoFar, one_more, front_of_all}
use Rattle.lvm_program.proofs.image.run_image.Goals as goal

pub returns-in-Err-clause-front : goal.returns-in-Err-clause-front
returns-in-Err-clause-front g c = λ is.
    front_of_all (1048576 * c.loop.counter) 1048576 (1048576 * c.args.mib) (g.O.Sink.held c.args.out.now) (g.O.Sink.held c.loop.out) (g.O.Sink.held c.write_all.new.out) _ _ c.loop.invariant.0 (omega arith) (subst (λ (l : List ℕ). WhereTold (g.O.Sink.held c.loop.out) (g.O.Sink.held c.write_all.new.out) (λ a b. WritesFront l a b)) c.zeros.ensures c.in-Err.ensures.front)

pub loop-preserved : goal.loop-preserved
loop-preserved g c =
    let more : BlankSoFar (1048576 * c.loop.counter + 1048576) (g.O.Sink.held c.args.out.now) (g.O.Sink.held c.write_all.new.out) (g.O.Sink.faults c.args.out.now) (g.O.Sink.faults c.write_all.new.out) =
    one_more (1048576 * c.loop.counter) 1048576 (g.O.Sink.held c.args.out.now) (g.O.Sink.held c.loop.out) (g.O.Sink.held c.write_all.new.out) (g.O.Sink.faults c.args.out.now) (g.O.Sink.faults c.loop.out) (g.O.Sink.faults c.write_all.new.out)
    c.loop.invariant.0 (subst (λ (l : List ℕ). WhereTold (g.O.Sink.held c.loop.out) (g.O.Sink.held c.write_all.new.out) (λ a b. b ≡ a ++ l)) c.zeros.ensures c.in-Ok.ensures.whole) c.write_all.ensures.later c.in-Ok.ensures.well in
    let sum : 1048576 * c.loop.counter + 1048576 ≡ 1048576 * (c.loop.counter + 1) = omega arith in
    (subst (λ (n : ℕ). BlankSoFar n (g.O.Sink.held c.args.out.now) (g.O.Sink.held c.write_all.new.out) (g.O.Sink.faults c.args.out.now) (g.O.Sink.faults c.write_all.new.out)) sum more, (c.write_all.ensures.image.0 ∙ c.loop.invariant.1.0, c.write_all.ensures.image.1 ∙ c.loop.invariant.1.1))
