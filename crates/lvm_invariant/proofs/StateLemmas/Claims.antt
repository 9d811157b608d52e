-- What each event keeps.
use Rattle.lvm_invariant.specs.Updates.{landed, put, with_name, with_req, with_block, with_names, with_status}
use Rattle.std.specs.Prelude.{◌≡◌, ◌⊎◌, ℕ, Bool, List, Option, Some, None, IsTrue, IsFalse, true}
use Rattle.lvm_num.specs.declared.place.Pp.{Pp}
use Rattle.lvm_num.specs.Geometry.{track_group_of}
use Rattle.lvm_num.specs.Record.{Stamped, stamp_lt}
use Rattle.lvm_vol.specs.May.{IsValue}
use Rattle.lvm_invariant.specs.State.{write_of, Marks, Groups, ModelCopy, StepWrite, ModelPhase, Stage, Queued, ModelState, covers, request_of, is_past, has_landed, is_pinning, Live, Named, Started, told}
use Rattle.lvm_invariant.specs.Sound.{StaysFresh, Tied, Statuses, ModelHolds, Sound, Nearly}
use Rattle.lvm_invariant.proofs.StateLemmas.Effects.{DoneEffect, LostEffect, ChangeEffect, GotEffect, JoinEffect}
use Rattle.lvm_vol.specs.Facts.{Fact, Request}
use Rattle.lvm_invariant.specs.EndNote.{EndsNote}
use Rattle.lvm_invariant.specs.CopyWrite.{CopyWrites}
use Rattle.lvm_invariant.specs.StartWrite.{MayStartWrite, started_first}
use Rattle.lvm_invariant.specs.Commit.{Commits}
use Rattle.lvm_invariant.specs.Admit.{admitted, Admits}
use Rattle.lvm_invariant.specs.Found.{Votes, Found}
use Rattle.lvm_invariant.specs.Transfer.{Restages, restaged}
use Rattle.lvm_invariant.specs.Open.{Opens}
use Rattle.lvm_invariant.specs.Want.{Replaced, Wants, after_wants}
use Rattle.lvm_invariant.specs.StartNote.{StartsNote}
use Rattle.lvm_invariant.specs.Clear.{Clears}

-- with the blocks of copies, and with the modes of volumes, as they were
abbrev pub keeping_blocks : ModelState → ModelState → ModelState
keeping_blocks old new = record new { media = record new.media { block = old.media.block }; is_active = old.is_active; is_passive = old.is_passive }

-- Seen from the blocks, nothing gets worse: no write starts or ends its life, nothing on the copies changes, no copy becomes live.
pub record Calmer (old new : ModelState) : Type 0 where
  pub started : (i : ℕ) (r : Queued) → Started new i r → Started old i r
  pub started_still : (i : ℕ) (r : Queued) → Started old i r → Started new i r
  pub may : (lv b : ℕ) → (told new lv b).values ≡ (told old lv b).values
  pub loose : (lv b : ℕ) → IsTrue (told old lv b).loose → IsTrue (told new lv b).loose
  pub same : keeping_blocks old new ≡ new
  pub live : (lv b : ℕ) (c : Pp) → Live new lv b c → Live old lv b c
  pub dirty : (lv : ℕ) → IsTrue (old.committed.value.dirty lv) → IsTrue (new.committed.value.dirty lv)
  pub missing_still : (d : ℕ) → IsTrue (old.missing d) → IsTrue (new.missing d)
  pub named_missing : (d lv g : ℕ) → IsTrue (old.missing d) → Named old d lv g → Named new d lv g
  pub named_started : (i lv b d : ℕ) (r : Queued) → Started old i r → IsTrue (covers r lv b) → IsTrue (old.is_active lv) → IsTrue r.several → Named old d lv (track_group_of b) → Named new d lv (track_group_of b)

-- the old state, with the requests, the history and the cache as they are now
abbrev pub with_requests : ModelState → ModelState → ModelState
with_requests old new = record old { queue = new.queue; facts = new.facts; name = new.name; cache = new.cache }

-- a request and what an event makes of it: it asks the same, and at most goes on or lands
pub record Alike (r n : Queued) : Type 0 where
  pub lv : n.lv ≡ r.lv
  pub first : n.first ≡ r.first
  pub over : (lv b : ℕ) → covers n lv b ≡ covers r lv b
  pub write : n.write ≡ r.write
  pub value : (b : ℕ) → n.value b ≡ r.value b
  pub past : IsTrue (is_past n.phase) → IsTrue (is_past r.phase)
  pub unlanded : IsFalse (has_landed n.phase) → IsFalse (has_landed r.phase)
  pub landed : IsTrue (has_landed r.phase) → IsTrue (has_landed n.phase)
  pub several : IsTrue n.several → IsTrue r.several
  pub aimed : (c : Pp) (x : Stage) → n.targets c ≡ Some x → (y : Stage) × (r.targets c ≡ Some y)
  pub aimed_still : (c : Pp) (x : Stage) → r.targets c ≡ Some x → (y : Stage) × (n.targets c ≡ Some y)

-- a block that a read goes over, and a value that is allowed there and that the live copies hold
pub record Seen (s : ModelState) (i : ℕ) (r : Queued) (lv b : ℕ) (value : List ℕ) : Type 0 where
  pub there : s.queue i ≡ Some r
  pub read : IsFalse r.write
  pub past : IsTrue (is_past r.phase)
  pub over : IsTrue (covers r lv b)
  pub allowed : IsValue (told s lv b) value
  pub equal : IsTrue (told s lv b).loose ⊎ ((e : Pp) → Live s lv b e → s.media.block lv b e ≡ value)

-- with the names of requests, and with the volumes, as they were
abbrev pub keeping_volumes : ModelState → ModelState → ModelState
keeping_volumes old new = record new { name = old.name; is_active = old.is_active; is_passive = old.is_passive; is_copy = old.is_copy }

-- what an event leaves of the requests and of what reads see
pub record Frame (old new : ModelState) : Type 0 where
  pub from : (i : ℕ) (n : Queued) → new.queue i ≡ Some n → (r : Queued) × (old.queue i ≡ Some r) × Alike r n
  pub writes : (i : ℕ) (n : Queued) → new.queue i ≡ Some n → IsTrue n.write → IsFalse (has_landed n.phase) → (lv b : ℕ) → write_of b (told new lv b) (request_of new i) ≡ write_of b (told old lv b) (request_of old i)
  pub same : keeping_volumes old new ≡ new
  pub modes : (lv b : ℕ) → (told new lv b).mode ≡ (told old lv b).mode
  pub tight : (lv b : ℕ) (c : Pp) → IsTrue (new.is_copy lv b c) → IsTrue (new.is_active lv) ⊎ IsTrue (new.is_passive lv) → IsFalse (told new lv b).loose
  pub seen : (i lv b : ℕ) (r n : Queued) (v : List ℕ) → Seen old i r lv b v → new.queue i ≡ Some n → IsTrue (is_past n.phase)
      → IsValue (told new lv b) v × (IsTrue (told new lv b).loose ⊎ ((e : Pp) → Live new lv b e → new.media.block lv b e ≡ v))
  pub still : (i lv b : ℕ) (r n : Queued) (c : Pp) → Seen old i r lv b (old.media.block lv b c) → new.queue i ≡ Some n → IsTrue (is_past n.phase) → new.media.block lv b c ≡ old.media.block lv b c
  pub got : (i : ℕ) (r n : Queued) (value : ℕ → List ℕ) → old.queue i ≡ Some r → new.queue i ≡ Some n → n.got ≡ Some value
      → (r.got ≡ Some value) ⊎ ((lv b : ℕ) → IsTrue (covers n lv b) → (c : Pp) × (x : Stage) × (r.targets c ≡ Some x) × (value b ≡ old.media.block lv b c))
  pub pinning : (i : ℕ) (r n : Queued) → old.queue i ≡ Some r → new.queue i ≡ Some n → IsTrue n.write → IsTrue (is_pinning n.phase) → IsTrue (new.is_active n.lv) → IsTrue n.several
      → IsTrue (is_pinning r.phase) ⊎ IsTrue (new.cache n.lv (track_group_of n.first))
  pub cache : (i : ℕ) (r : Queued) → old.queue i ≡ Some r → IsTrue r.write → IsTrue (is_pinning r.phase) → IsTrue (old.is_active r.lv) → IsTrue r.several → IsTrue (old.cache r.lv (track_group_of r.first)) → IsTrue (new.cache r.lv (track_group_of r.first))

abbrev pub FrameKeeps : Type 0
FrameKeeps = (old new : ModelState) → Frame old new → Nearly old → Tied new × ModelHolds new
    × ((i : ℕ) (r : Queued) → new.queue i ≡ Some r → IsTrue r.write → IsTrue (is_pinning r.phase) → IsTrue (new.is_active r.lv) → IsTrue r.several → IsTrue (new.cache r.lv (track_group_of r.first)))

-- with the requests, the history, the volumes, the blocks of copies and the cache as they were
abbrev pub keeping_requests : ModelState → ModelState → ModelState
keeping_requests old new = record (keeping_volumes old new) { media = record new.media { block = old.media.block }; queue = old.queue; facts = old.facts; cache = old.cache }

-- Nothing changes of the requests, of the history and on the copies, and no copy becomes live.
pub record Quiet (old new : ModelState) : Type 0 where
  pub same : keeping_requests old new ≡ new
  pub dirty : (lv : ℕ) → IsTrue (old.committed.value.dirty lv) → IsTrue (new.committed.value.dirty lv)
  pub live : (lv b : ℕ) (c : Pp) → Live new lv b c → Live old lv b c
  pub missing_still : (d : ℕ) → IsTrue (old.missing d) → IsTrue (new.missing d)
  pub named_missing : (d lv g : ℕ) → IsTrue (old.missing d) → Named old d lv g → Named new d lv g
  pub named_pinned : (d lv g : ℕ) → IsTrue (old.cache lv g) → Named old d lv g → Named new d lv g

-- what a quiet event leaves to be shown
pub record Rest (s : ModelState) : Type 0 where
  pub statuses : Statuses s
  pub home : (d lv g : ℕ) → IsFalse (s.missing d) → s.media.names d lv g ≡ s.home_note d lv g

abbrev pub WantsKeep : Type 0
WantsKeep = (s : ModelState) (wanted : Marks) (missing : ℕ → Bool) (open_copy : Option ModelCopy) → Wants s wanted missing open_copy → Nearly s → Sound (after_wants s wanted missing open_copy)

abbrev pub BeginKeeps : Type 0
BeginKeeps = (s : ModelState) (u : Stamped Marks) → s.in_flight ≡ None → u.value ≡ s.wanted → Sound s → Sound (record s { in_flight = Some u })

abbrev pub CommitKeepsCore : Type 0
CommitKeepsCore = (s : ModelState) (u : Stamped Marks) (open_copy : Option ModelCopy) → Commits s u open_copy → Sound s → Nearly (record s { committed = u; open_copy = open_copy })

abbrev pub UpdateEndKeeps : Type 0
UpdateEndKeeps = (s : ModelState) → s.in_flight ≡ Some s.committed → Sound s → Sound (record s { in_flight = None })

abbrev pub StartNoteKeepsCore : Type 0
StartNoteKeepsCore = (s : ModelState) (flying : ℕ → Option Groups) → StartsNote s flying → Sound s → Sound (record s { flying_note = flying })

abbrev pub EndNoteKeepsCore : Type 0
EndNoteKeepsCore = (s : ModelState) (d : ℕ) (names home : ℕ → Groups) (flying : ℕ → Option Groups) → EndsNote s d names home flying → Sound s
    → Sound (record s { media = with_names s.media names; home_note = home; flying_note = flying })

abbrev pub FirstKeeps : Type 0
FirstKeeps = (s : ModelState) (i : ℕ) (r : Queued) (c : Pp) → MayStartWrite s i r c → Sound s → Sound (started_first s i r c)

abbrev pub RestagingKeeps : Type 0
RestagingKeeps = (s : ModelState) (i : ℕ) (r : Queued) (c : Pp) (stage : Stage) (block : ℕ → ℕ → Pp → List ℕ) → Restages s i r c stage block → Sound s → Sound (restaged s i r c stage block)

abbrev pub DoneKeeps : Type 0
DoneKeeps = (s : ModelState) (i : ℕ) (r : Queued) (facts : List Fact) → DoneEffect s i r facts → Sound s → Sound (landed s i r facts)

abbrev pub LostKeeps : Type 0
LostKeeps = (s : ModelState) (i : ℕ) (r : Queued) (facts : List Fact) → LostEffect s i r facts → Sound s → Sound (landed s i r facts)

abbrev pub PlainKeeps : Type 0
PlainKeeps = (s : ModelState) (i : ℕ) (r n : Queued) (facts : List Fact) (cache : Groups) → ChangeEffect s i r n facts cache → Alike r n → Sound s → Sound (record s { queue = put s.queue i n; facts = facts; cache = cache })

abbrev pub AdmitKeepsCore : Type 0
AdmitKeepsCore = (s : ModelState) (i : ℕ) (r : Queued) (phase : ModelPhase) (several : Bool) (targets : Pp → Option Stage) → Admits s i r phase several targets → Sound s → Sound (with_req s i (admitted r phase several targets))

abbrev pub GotKeeps : Type 0
GotKeeps = (s : ModelState) (i : ℕ) (r : Queued) (value : ℕ → List ℕ) (facts : List Fact) → GotEffect s i r value facts → Sound s → Sound (landed s i r facts)

-- each value that a read lands with is one that the block may have
abbrev pub GotIsAllowed : Type 0
GotIsAllowed = (s : ModelState) (i : ℕ) (r : Queued) (value : ℕ → List ℕ) (facts : List Fact) → GotEffect s i r value facts → Sound s → (lv b : ℕ) → IsTrue (covers r lv b) → IsValue (told s lv b) (value b)

abbrev pub SubmitKeepsCore : Type 0
SubmitKeepsCore = (s : ModelState) (i : ℕ) (q : Request) (r : Queued) (facts : List Fact) → JoinEffect s i q r facts → Sound s → Sound (record s { queue = put s.queue i r; facts = facts; name = with_name s.name i q })

abbrev pub CopyWriteKeepsCore : Type 0
CopyWriteKeepsCore = (s : ModelState) (i : ℕ) (r : Queued) (value : ℕ → List ℕ) (target : Pp) (open_copy : Option ModelCopy) (step_write : Option StepWrite) (block : ℕ → ℕ → Pp → List ℕ)
    → CopyWrites s i r value target open_copy block → Sound s → Sound (record s { media = with_block s.media block; open_copy = open_copy; step_write = step_write })

abbrev pub OpenKeepsCore : Type 0
OpenKeepsCore = (s : ModelState) (o : ModelCopy) → Opens s o → Sound s → Sound (record s { open_copy = Some o })

abbrev pub ClearKeepsCore : Type 0
ClearKeepsCore = (s : ModelState) (wanted : Marks) (c : Pp) → Clears s wanted c → Sound s → Sound (record s { wanted = wanted })

-- A write that has started has a target that is fresh by all three statuses: a copy is always left that stays fresh.
pub record KeptTarget (s : ModelState) (r : Queued) : Type 0 where
  pub copy : Pp
  pub stage : Stage
  pub target : r.targets copy ≡ Some stage
  pub is_copy : IsTrue (s.is_copy r.lv r.first copy)
  pub kept : StaysFresh s copy

abbrev pub EachHasKeptTarget : Type 0
EachHasKeptTarget = (s : ModelState) (i : ℕ) (r : Queued) → Sound s → Started s i r → IsTrue (covers r r.lv r.first) → KeptTarget s r

-- marks after transfers failed: targets become wanted stale, another target stays fresh
pub record MarksOthers (s : ModelState) (r : Queued) (kept : Pp) (wanted : Marks) : Type 0 where
  pub is_copy : IsTrue (s.is_copy r.lv r.first kept)
  pub fresh : IsFalse (s.committed.value.stale kept)
  pub stays : IsFalse (wanted.stale kept)
  pub still : (c : Pp) → IsTrue (s.wanted.stale c) → IsTrue (wanted.stale c)
  pub added : (c : Pp) → IsTrue (wanted.stale c) → IsTrue (s.wanted.stale c) ⊎ IsTrue (s.is_copy r.lv r.first c)

abbrev pub MarksAreReplaced : Type 0
MarksAreReplaced = (s : ModelState) (r : Queued) (kept : Pp) (wanted : Marks) → MarksOthers s r kept wanted → (c : Pp) → IsTrue (wanted.stale c) → IsTrue (s.wanted.stale c) ⊎ Replaced s wanted c

-- a write of the update in flight ends: the disk has it, or what it had
abbrev pub StatusEndKeepsFound : Type 0
StatusEndKeepsFound = (votes : Votes) (s : ModelState) (u : Stamped Marks) (status : ℕ → Option (Stamped Marks)) (flying : ℕ → Bool) → s.in_flight ≡ Some u
    → ((d : ℕ) → (status d ≡ s.media.status d) ⊎ (status d ≡ Some u)) → Found votes s → Found votes (record s { media = with_status s.media status; status_flying = flying })

abbrev pub BeginKeepsFound : Type 0
BeginKeepsFound = (votes : Votes) (s : ModelState) (u : Stamped Marks) → s.in_flight ≡ None → stamp_lt s.committed.stamp u.stamp ≡ true → Found votes s → Found votes (record s { in_flight = Some u })

-- the disks that have the update have votes enough to write
abbrev pub CommitKeepsFound : Type 0
CommitKeepsFound = (votes : Votes) (s : ModelState) (u : Stamped Marks) (has_it : ℕ → Bool) → s.in_flight ≡ Some u → IsTrue (votes.writes has_it) → ((d : ℕ) → IsTrue (has_it d) → s.media.status d ≡ Some u)
    → Found votes s → Found votes (record s { committed = u })

abbrev pub UpdateEndKeepsFound : Type 0
UpdateEndKeepsFound = (votes : Votes) (s : ModelState) → s.in_flight ≡ Some s.committed → Found votes s → Found votes (record s { in_flight = None })
