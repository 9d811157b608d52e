use Rattle.std.proofs.Common.{◌∙◌, ap, sym}
use Rattle.lvm_vol.specs.Log.{Log}
use Rattle.lvm_session.specs.State.{state_of}
use Rattle.lvm_top.specs.passed.GroupLines.{without_facts}
use Rattle.lvm_top.proofs.passed.Tie.{path_shape}
use Rattle.lvm_program.proofs.load.serve.Goals as goal

pub serve_load-driver-requires-clause-unstuck : goal.serve_load-driver-requires-clause-unstuck
serve_load-driver-requires-clause-unstuck g c = λ κs outlives stuck. let e = sym c.requires.on ∙ stuck in cc e

pub serve_load-driver-requires-clause-some : goal.serve_load-driver-requires-clause-some
serve_load-driver-requires-clause-some g c = λ κs outlives. (c.requires.some.0.0, c.requires.some.0.1, c.requires.some.1)

pub returns-clause-made : goal.returns-clause-made
returns-clause-made g c = record {
  end = state_of g.S.Shelf.device c.serve_load-driver.result.driver;
  made = c.serve_load-driver.ensures.loaded;
  none = c.serve_load-driver.ensures.none;
  keeps = c.serve_load-driver.ensures.keeps;
  sound = c.is_sound.ensures;
  closed = c.close_ended.ensures.shelf;
  facts = ap (λ (l : Log). l.facts) c.close_ended.ensures.history;
}

pub returns-clause-rooms : goal.returns-clause-rooms
returns-clause-rooms g c = ap without_facts c.close_ended.ensures.history ∙ (path_shape c.serve_load-driver.ensures.keeps.leaves).log
