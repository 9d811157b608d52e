use Rattle.std.proofs.Common.{◌≡◌, ◌∙◌, ap, sym, ℕ, List, true, take}
use Rattle.std.specs.Simd.{first_chunks}
use Rattle.lvm_vol.specs.Facts.{Landed}
use Rattle.lvm_vol.specs.Log.{request_of}
use Rattle.lvm_vol.specs.declared.entry.Outcome.TheVariants as outcome
use Rattle.lvm_transfer.specs.declared.moves.Moved.{Moved}
use Rattle.lvm_raw.specs.Requests.{read_ends, landing_ends}
use Rattle.lvm_raw.proofs.LogLemmas.{count_is}
use Rattle.lvm_raw.proofs.request.end_read.Goals as goal

pub returns-in-Done-clause-ends : goal.returns-in-Done-clause-ends
returns-in-Done-clause-ends c =
    let h = c.args.history.now in
    let r = request_of h.facts c.args.id in
    let n : r.count ≡ c.args.count = count_is h.facts c.args.id c.args.count c.requires.waits in
    let bytes = c.as_slice.result.now in
    let got : first_chunks 512 r.count bytes ≡ take r.count c.in-Done.back.sectors = ap (λ (k : ℕ). first_chunks 512 k bytes) n ∙ ap (first_chunks 512 c.args.count) c.as_slice.ensures.value ∙ c.copy_front.ensures.blocks ∙ ap (λ (k : ℕ). take k c.in-Done.back.sectors) (sym n) in
    c.got_and_take.ensures
    ∙ ap (λ (l : List (List ℕ)). record h { facts = landing_ends h.facts r (Landed r outcome.Got true l) }) got
    ∙ ap (λ (m : Moved). record h { facts = read_ends h.facts r m }) (sym c.in-Done.is)
