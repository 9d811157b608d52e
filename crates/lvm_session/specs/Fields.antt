-- The fields of a session as contracts see them.
use Rattle.lvm_session.specs.declared.session.Session.{Session}
use Rattle.lvm_session.specs.State.{Core}

abbrev pub core_of : Session → Core
core_of s = record {
  descriptor = s.descriptor;
  history = s.history;
  requests = s.requests.items;
  most = s.most;
  queue = s.queue;
  copy = s.copy;
  pool = s.pool;
  flying = s.flying.items;
  status = s.updater;
  cache = s.cache;
  homes = s.homes;
  last = s.last;
  origin = s.origin;
  power = s.power;
}
