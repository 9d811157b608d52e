-- The start of a copy's read leaves less work.
use Rattle.std.proofs.Common.{◌≡◌, ◌≤◌, ◌<◌, ◌+◌, ◌-◌, ◌*◌, ◌==◌, ℕ, Bool, true, false, not, if◌then◌else◌, List, [], ◌∷◌, ◌++◌, Some, length, length-append, refl, sym, ◌∙◌, ap, subst, arith}
use Rattle.std.specs.Prelude.{IfSome, count_by, drop}
use Rattle.std.specs.List.{sum_by}
use Rattle.std.specs.Option.{option_map_or}
use Rattle.std.proofs.lemmas.List.Sums.{count_by-le-length}
use Rattle.lvm_num.specs.declared.place.Pp.{Pp}
use Rattle.lvm_num.specs.declared.descriptor.LvRow.{LvRow}
use Rattle.lvm_num.specs.declared.descriptor.PvRow.{PvRow}
use Rattle.lvm_num.specs.Descriptor.{IsValid, IsVolume, copies_of}
use Rattle.lvm_num.specs.Disks.{has}
use Rattle.lvm_num.proofs.MarksLemmas.Maps.{find-Some}
use Rattle.lvm_session.specs.declared.bringing.OpenCopy.{OpenCopy}
use Rattle.lvm_session.specs.declared.bringing.Step.{Step}
use Rattle.lvm_session.specs.declared.bringing.Step.TheVariants as step
use Rattle.lvm_session.specs.declared.flown.Flown.{Flown}
use Rattle.lvm_session.specs.declared.flown.Owner.TheVariants as owner
use Rattle.lvm_session.specs.declared.open.Open.{Open}
use Rattle.lvm_session.specs.State.{Core, State, is_there}
use Rattle.lvm_session.specs.Judging.{copies_in, is_running}
use Rattle.lvm_session.specs.Bringing.{groups_of, is_whole}
use Rattle.lvm_session.specs.Events.{flown}
use Rattle.lvm_session.specs.Left.{copy_left, left_of, request_left, status_left, step_left, tried_of, update_work, work_left}
use Rattle.lvm_session.specs.Sound.{IsCopy}
use Rattle.lvm_keeps.specs.Falls.{CopyReadFalls}
use Rattle.lvm_keeps.proofs.FallsLemmas.Bounding.{take_few}
use Rattle.lvm_keeps.proofs.KeepsLemmas.CopyRead.{at_rest, running, short}
use Rattle.lvm_keeps.proofs.FallsLemmas.Pin.{sum_same}
use Rattle.lvm_keeps.proofs.LeftLemmas.Leaving.{request_still, lit}

module _ (core : Core) (c : OpenCopy) (to : Step) (row : Flown) (pool : List Bool) where
  abbrev before : Core
  before = record core { copy = Some c }

  abbrev stepping : OpenCopy
  stepping = record c { step = to }

  abbrev after : Core
  after = record core { flying = core.flying ++ row ∷ []; pool = pool; copy = Some stepping }

  -- the requests have as much left
  requests_same : (x : Open) → request_left after x ≡ request_left before x
  requests_same x = request_still before after x refl refl

  module _ (runs : is_running c ≡ true) (goes : is_whole core c ≡ false) (less : step_left to (tried_of core c) + 1 < step_left c.step (tried_of core c)) where
    abbrev beside : ℕ
    beside = 3 * update_work + 16 * (groups_of core - c.cursor - 1) + 8

    abbrev left_at : Step → ℕ
    left_at at = if not (is_running c) then 0 else if is_whole core c then 2 * update_work else beside + step_left at (tried_of core c)

    going : (at : Step) → left_at at ≡ beside + step_left at (tried_of core c)
    going at = ap (λ b. if not b then 0 else if is_whole core c then 2 * update_work else beside + step_left at (tried_of core c)) runs ∙ ap (λ b. if b then 2 * update_work else beside + step_left at (tried_of core c)) goes

    copy_falls : copy_left after stepping + 1 < copy_left before c
    copy_falls = let new = going to in let old = going c.step in omega (arith, new, old, less)

    pub falls : work_left after < work_left before
    falls =
        let longer = length-append core.flying (row ∷ []) in
        let same = sum_same (request_left before) (request_left after) requests_same core.requests in
        let fewer = copy_falls in
        grows (length core.flying) (length (core.flying ++ row ∷ [])) ((update_work + 1) * count_by (λ (r : PvRow). is_there core r.disk) core.descriptor.pvs) (status_left core) (sum_by (request_left before) core.requests) (sum_by (request_left after) core.requests)
        (copy_left before c) (copy_left after stepping) longer same fewer
      where
        grows : (n m a b x y k l : ℕ) → m ≡ n + 1 → y ≡ x → l + 1 < k → m + a + b + y + l < n + a + b + x + k
        grows n m a b x y k l longer same fewer = omega (arith, longer, same, fewer)

pub few_copies : (core : Core) (c : OpenCopy) → IsValid core.descriptor → IsCopy core c → length (copies_in core.descriptor c.lv c.lp) ≤ 3
few_copies core c valid its =
    let row = its.row in
    let found = find-Some (λ (x : LvRow). x.number == c.lv) core.descriptor.lvs row its.volume in
    let volume : IsVolume core.descriptor.big row = subst (IsVolume core.descriptor.big) (found.1.2 row) (valid.volumes.each found.1.0 row found.1.1) in
    let most : row.copies ≤ 3 = volume.copies in
    let few = take_few row.copies (drop (c.lp * row.copies) row.map) in
    let same : length (copies_in core.descriptor c.lv c.lp) ≡ length (copies_of row c.lp) = ap (λ m. length (option_map_or (λ (x : LvRow). copies_of x c.lp) m [])) its.volume in
    omega (arith, most, few, same)

pub copy_read_falls : CopyReadFalls
copy_read_falls old new sound on votes event = subst (λ (s : State). left_of s.core < left_of old.core) (sym event.is) (subst (λ n. left_of made < n) (sym (lit old.core on votes)) (subst (λ n. n < work_left old.core) (sym (lit made on votes)) work_falls))
  where
    its : IsCopy old.core event.copy
    its = subst (λ m. IfSome m (IsCopy old.core)) event.is_open (sound.on on).going.copy

    row : Flown
    row = flown event.flight.ticket event.flight.disk owner.Copy

    made : Core
    made = record old.core { flying = old.core.flying ++ row ∷ []; pool = new.core.pool; copy = Some (record event.copy { step = step.Reading event.source }) }

    fewer : 6 - 2 * tried_of old.core event.copy + 1 < step_left event.copy.step (tried_of old.core event.copy)
    fewer =
        let rests : step_left event.copy.step (tried_of old.core event.copy) ≡ 8 - 2 * tried_of old.core event.copy = ap (λ (at : Step). step_left at (tried_of old.core event.copy)) (at_rest old.core event.copy event.may) in
        let low = count_by-le-length (λ (p : Pp). has event.copy.tried p.disk) (copies_in old.core.descriptor event.copy.lv event.copy.lp) in
        let few = few_copies old.core event.copy (sound.on on).going.fitting.valid its in
        omega (arith, rests, low, few)

    work_falls : work_left made < work_left old.core
    work_falls = subst (λ m. work_left made < work_left (record old.core { copy = m })) (sym event.is_open)
        (falls old.core event.copy (step.Reading event.source) row new.core.pool (running old.core event.copy event.may) (short old.core event.copy event.may) fewer)
