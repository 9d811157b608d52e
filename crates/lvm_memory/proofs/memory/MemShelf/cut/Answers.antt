use Rattle.std.proofs.Common.{inr, ap}
use Rattle.lvm_memory.specs.Flights.{flights_of}
use Rattle.lvm_memory.specs.Media.{media_of}
use Rattle.lvm_memory.specs.Tally.{counts_of}
use Rattle.lvm_memory.specs.Memory.{device_of}
use Rattle.lvm_memory.specs.Bench.{let_cut}
use Rattle.lvm_memory.proofs.DeviceLemmas.{torn_like, darkened}
use Rattle.lvm_memory.proofs.HeedsLemmas.{cut_ordered, cuts_as_ordered}
use Rattle.lvm_memory.proofs.memory.MemShelf.cut.Goals as goal

pub returns-then-self-clause-dark : goal.returns-then-self-clause-dark
returns-then-self-clause-dark c = inr (record {
  cuts = record {
    power = c.if-self.true;
    media = torn_like c.args.word (flights_of c.args.self.now.flights.items) (media_of c.args.self.now.disks.items) (media_of c.cut_flights.new.disks.items) c.cut_flights.ensures.cut;
    cuts = c.count_cut.ensures.rose;
    once = c.count_cut.ensures.once;
    ordered = cuts_as_ordered c.args.self.now.heeds c.args.self.now.tally.cuts c.count_cut.new.self.cuts c.args.self.now.fails c.args.self.now.injector.failing c.args.self.now.power c.args.word c.if-self.true c.count_cut.ensures.once;
    new_is = darkened (let_cut c.args.word (device_of c.args.self.now)) _ (media_of c.cut_flights.new.disks.items) _ _ _ _ _ c.cut_flights.ensures.disks.sizes (ap flights_of c.cut_flights.ensures.buffers.none) c.cut_flights.ensures.buffers.buffers
        (ap counts_of c.count_cut.ensures.same) (λ i. record (device_of c.args.self.now).orders { alone = cut_ordered c.args.self.now.heeds c.args.self.now.tally.cuts c.count_cut.new.self.cuts c.args.self.now.fails c.args.self.now.injector.failing c.args.self.now.power c.args.word c.if-self.true c.count_cut.ensures.once i });
  };
  picked = c.cut_flights.ensures.cut;
})
