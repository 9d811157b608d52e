use Rattle.lvm_map.proofs.LawsLemmas.OneToOne.{is_data, is_same}
use Rattle.lvm_map.proofs.laws.places_are_one_to_one.Goals as goal

pub returns-clause-differ : goal.returns-clause-differ
returns-clause-differ c = λ d lv copy block other_lv other_copy other_block place valid first second.
    is_same d valid lv copy block other_lv other_copy other_block place first second

pub returns-clause-data : goal.returns-clause-data
returns-clause-data c = λ d lv copy block place valid is. is_data d valid lv copy block place is
