use Rattle.std.proofs.Common.{◌≡◌, ◌<◌, length, arith, subst}
use Rattle.lvm_disk.specs.Steps.{ReapGives}
use Rattle.lvm_memory.specs.Memory.{device_of, bench_of}
use Rattle.lvm_disk.specs.declared.shelf.Reaped.{Reaped}
use Rattle.lvm_disk.specs.declared.shelf.Reaped.TheVariants.{Empty}
use Rattle.lvm_memory.proofs.BenchLemmas.{prompt_reaped, no_wait, as_many_delays}
use Rattle.lvm_memory.proofs.memory.MemShelfShelf.reap.Goals as goal

pub returns-clause-prompt : goal.returns-clause-prompt
returns-clause-prompt c = prompt_reaped (bench_of c.args.self.now) (bench_of c.reap_now.new.self) c.reap_now.result c.reap_now.ensures.planned

pub returns-clause-waits : goal.returns-clause-waits
returns-clause-waits c =
    let s = c.args.self.now in
    let some : c.reap_now.result ≡ Empty → 0 < length (bench_of s).delays =
    λ empty.
    let gives = subst (λ (answer : Reaped). ReapGives (device_of s) (device_of c.reap_now.new.self) answer) empty c.reap_now.ensures.gives in
    omega (arith, gives.out, as_many_delays s.flights.items) in
    no_wait (bench_of s) (bench_of c.reap_now.new.self) c.reap_now.result some c.reap_now.ensures.planned
