use Rattle.std.proofs.Common.{Bool, refl, subst}
use Rattle.lvm_session.specs.declared.open.Open.{Open}
use Rattle.lvm_due.proofs.AtPlaces.{read_same}
use Rattle.lvm_due.specs.declared.due.Due.{Due}
use Rattle.lvm_due.specs.Due.{AddsIf, AddsMaking}
use Rattle.lvm_due.proofs.due.Due.add.Goals as goal

pub returns : goal.returns
returns c o there =
    let place = c.args.place in
    let was = c.args.self.now in
    let same = read_same c.args.session.now.requests.items place c.index.result.now o there c.index.ensures in
    let now : Due = record { landing = c.add_if.new.span; admission = c.add_if-2.new.span; pinning = c.add_if-3.new.span; note = c.add_if-4.new.span; «data» = c.add_if-5.new.span; unfailing = was.unfailing } in
    subst (λ (x : Open). AddsMaking x.request place was now) same (record {
      landing = subst (λ (b : Bool). AddsIf b place was.landing c.add_if.new.span) c.might_make_landing.ensures c.add_if.ensures;
      admission = subst (λ (b : Bool). AddsIf b place was.admission c.add_if-2.new.span) c.might_make_admission.ensures c.add_if-2.ensures;
      pinning = subst (λ (b : Bool). AddsIf b place was.pinning c.add_if-3.new.span) c.might_pin.ensures c.add_if-3.ensures;
      note = subst (λ (b : Bool). AddsIf b place was.note c.add_if-4.new.span) c.might_make_note.ensures c.add_if-4.ensures;
      «data» = subst (λ (b : Bool). AddsIf b place was.data c.add_if-5.new.span) c.might_make_data.ensures c.add_if-5.ensures;
      unfailing = refl;
    })
