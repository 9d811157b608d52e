use Rattle.std.proofs.Common.{◌≡◌}
use Rattle.std.specs.String.{string_bytes}
use Rattle.lvm_load.proofs.ScriptLemmas.Growing.{HasScript}
use Rattle.lvm_load.proofs.script.write_script.Given as goal

abbrev pub invariant-loop-k : goal.invariant-loop-k
invariant-loop-k g l = HasScript l.seed l.k (string_bytes l.text) l.rng (g.O.Sink.held l.fn.out) (g.O.Sink.held l.out) (g.O.Sink.faults l.fn.out) (g.O.Sink.faults l.out)
    × ((g.O.Sink.chosen l.out ≡ g.O.Sink.chosen l.fn.out) × (g.O.Sink.choices l.out ≡ g.O.Sink.choices l.fn.out))
