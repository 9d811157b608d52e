use Rattle.std.proofs.Common.{refl, ◌∙◌, ap}
use Rattle.std.specs.List.{list_any}
use Rattle.lvm_path.specs.declared.facts.Facts.{Facts}
use Rattle.lvm_path.specs.declared.request.Phase.TheVariants as phase
use Rattle.lvm_path.specs.Next.{next_in}
use Rattle.lvm_due.specs.passed.Session.{core_of, copies_for, facts_of, is_held_back, is_pending, is_usable}
use Rattle.lvm_due.proofs.NextLemmas.{by_phase, held_same}
use Rattle.lvm_due.proofs.facts.read_facts.Goals as goal

pub returns-in-Held : goal.returns-in-Held
returns-in-Held c =
    let core = core_of c.args.session.now in
    let r = c.args.request.now in
    by_phase r c.held_facts.result (facts_of core r) phase.Held c.in-Held.is
    (ap (λ (k : Facts). next_in phase.Held k r) c.held_facts.ensures ∙ held_same (is_held_back core r) (is_pending core r) (list_any (is_usable core) (copies_for core r.ask)))

pub returns-in-WantEntry : goal.returns-in-WantEntry
returns-in-WantEntry c = by_phase c.args.request.now c.entry_facts.result (facts_of (core_of c.args.session.now) c.args.request.now) phase.WantEntry c.in-WantEntry.is c.entry_facts.ensures

pub returns-in-WantRecord : goal.returns-in-WantRecord
returns-in-WantRecord c =
    let r = c.args.request.now in
    by_phase r c.chosen_facts.result (facts_of (core_of c.args.session.now) r) phase.WantRecord c.in-WantRecord.is (ap (λ (k : Facts). next_in phase.WantRecord k r) c.chosen_facts.ensures)

pub returns-in-Data : goal.returns-in-Data
returns-in-Data c = by_phase c.args.request.now c.data_facts.result (facts_of (core_of c.args.session.now) c.args.request.now) phase.Data c.in-Data.is c.data_facts.ensures

pub returns-in-WantStatus : goal.returns-in-WantStatus
returns-in-WantStatus c =
    let r = c.args.request.now in
    by_phase r c.ended_facts.result (facts_of (core_of c.args.session.now) r) phase.WantStatus c.in-WantStatus.is (ap (λ (k : Facts). next_in phase.WantStatus k r) c.ended_facts.ensures)

pub returns-in-Landed : goal.returns-in-Landed
returns-in-Landed c = by_phase c.args.request.now c.no_facts.result (facts_of (core_of c.args.session.now) c.args.request.now) phase.Landed c.in-Landed.is refl
