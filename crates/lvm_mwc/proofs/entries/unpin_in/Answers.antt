use Rattle.std.proofs.Common.{◌≡◌, sym, Some, None}
use Rattle.std.specs.List.{position}
use Rattle.lvm_mwc.specs.Entries.{is_entry}
use Rattle.lvm_mwc.specs.Filled.{blank}
use Rattle.lvm_mwc.proofs.FirstsLemmas.{looked_for}
use Rattle.lvm_mwc.proofs.EntriesLemmas.Entries.{unpinned, some_pins, not_there}
use Rattle.lvm_mwc.proofs.entries.unpin_in.Goals as goal

at : (c : goal.After-deref_mut) → position (is_entry c.args.lv c.args.group) c.args.entries.now.items ≡ Some c.in-Some.place
at c = looked_for (is_entry c.args.lv c.args.group) c.args.entries.now.items c.deref.result.now (Some c.in-Some.place) c.deref.ensures.0 c.in-Some.ensures

pub overflow_sub-deref_mut : goal.overflow_sub-deref_mut
overflow_sub-deref_mut c = some_pins c.args.entries.now.items c.deref_mut.result.now c.args.lv c.args.group c.in-Some.place blank c.deref_mut.ensures.value (at c) c.requires

pub returns-in-Some : goal.returns-in-Some
returns-in-Some c = unpinned c.args.entries.now.items c.deref_mut.result.now c.args.lv c.args.group c.in-Some.place blank c.deref_mut.ensures.value (looked_for (is_entry c.args.lv c.args.group) c.args.entries.now.items c.deref.result.now (Some c.in-Some.place) c.deref.ensures.0 c.in-Some.ensures)

pub returns-in_default : goal.returns-in_default
returns-in_default c = sym (not_there c.args.entries.now.items c.args.lv c.args.group (looked_for (is_entry c.args.lv c.args.group) c.args.entries.now.items c.deref.result.now None c.deref.ensures.0 c.in_default.ensures))
