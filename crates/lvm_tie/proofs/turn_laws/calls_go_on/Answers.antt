use Rattle.lvm_tie.proofs.GoingOnLemmas.CallsTurn.{submit_goes_on, answer_goes_on, open_goes_on, open_move_goes_on, close_goes_on, arrange_goes_on}
use Rattle.lvm_tie.proofs.turn_laws.calls_go_on.Goals as goal

pub returns : goal.returns
returns c = record { submit = submit_goes_on; answer = answer_goes_on; opens = open_goes_on; moves = open_move_goes_on; closes = close_goes_on; order = arrange_goes_on }
