-- The start of a write of the status leaves less work.
use Rattle.std.proofs.Common.{◌≡◌, ◌⊎◌, inl, inr, ◌==◌, ◌≤◌, ◌<◌, ◌+◌, ◌*◌, ◌&&◌, ◌||◌, ℕ, Bool, true, false, not, List, [], ◌∷◌, ◌++◌, Option, Some, None, length, length-append, if◌then◌else◌, refl, sym, ◌∙◌, ap, subst, arith}
use Rattle.std.specs.Prelude.{count_by, unwrap_or}
use Rattle.std.specs.List.{list_any, sum_by}
use Rattle.std.specs.Option.{option_map_or}
use Rattle.std.proofs.lemmas.Bool.{eqb-true}
use Rattle.std.proofs.lemmas.List.Sums.{count_by-le-length}
use Rattle.lvm_num.specs.declared.descriptor.Descriptor.{Descriptor}
use Rattle.lvm_num.specs.declared.descriptor.PvRow.{PvRow}
use Rattle.lvm_num.specs.declared.place.Pp.{Pp}
use Rattle.lvm_num.specs.declared.status.Status.{Status}
use Rattle.lvm_num.specs.Descriptor.{most_members, is_pp}
use Rattle.lvm_num.specs.Disks.{has}
use Rattle.lvm_num.specs.Status.{calls_stale}
use Rattle.lvm_num.proofs.DescriptorLemmas.Bounds.{few_members}
use Rattle.lvm_num.proofs.Booleans.{not_so}
use Rattle.lvm_status.specs.Update.{Stored}
use Rattle.lvm_session.specs.Bringing.{is_whole}
use Rattle.lvm_session.specs.declared.bringing.OpenCopy.{OpenCopy}
use Rattle.lvm_session.specs.declared.flown.Flown.{Flown}
use Rattle.lvm_session.specs.declared.flown.Owner.TheVariants as owner
use Rattle.lvm_session.specs.declared.open.Open.{Open}
use Rattle.lvm_session.specs.State.{Core, State, is_there}
use Rattle.lvm_session.specs.Judging.{copies_for, is_changed, is_missing, is_running, is_settled, is_stale, is_usable, is_wanted_stale, destinations_for}
use Rattle.lvm_session.specs.Enabled.{same_status}
use Rattle.lvm_session.specs.Events.{flown}
use Rattle.lvm_session.specs.Left.{copy_left, if_so, is_brought_up, is_held, lacks_dirty, left_of, destination_turns, request_left, status_left, turns_of, update_work, work_left}
use Rattle.lvm_session.specs.Sound.{IsGoing, count_if, is_clearing}
use Rattle.lvm_keeps.proofs.Lists.{count_cons}
use Rattle.lvm_keeps.proofs.FallsLemmas.Pin.{sum_same}
use Rattle.lvm_keeps.proofs.LeftLemmas.Leaving.{request_still, lit}
use Rattle.lvm_keeps.proofs.FallsLemmas.NoteStart.{count_less, one_less}
use Rattle.lvm_keeps_events.specs.Falls.{StatusStartFalls}
use Rattle.lvm_keeps_events.proofs.KeepsLemmas.StatusStart.{Flies, IsUnderWay, next_is, status_own, under_way}

-- ---- fewer writes are to be started

module _ {A : Type 0} (t u p : A → Bool) (less : (x : A) → u x ≡ true → t x ≡ true) (at : (x : A) → p x ≡ true → (t x ≡ true) × (u x ≡ false)) where
  fewer_there : (xs : List A) → list_any p xs ≡ true → count_by u xs + 1 ≤ count_by t xs
  fewer_there [] is = absurd (cc is)
  fewer_there (x ∷ xs) is = by (p x) refl (λ e. fewer_there xs e) is
    where
      by : (b : Bool) → p x ≡ b → (list_any p xs ≡ true → count_by u xs + 1 ≤ count_by t xs) → b || list_any p xs ≡ true → count_by u (x ∷ xs) + 1 ≤ count_by t (x ∷ xs)
      by true e rest some =
          let a = count_cons t x xs in
          let b = count_cons u x xs in
          let one : count_if (t x) ≡ 1 = ap count_if (at x e).0 in
          let none : count_if (u x) ≡ 0 = ap count_if (at x e).1 in
          let all = count_less t u less xs in
          omega (arith, a, b, one, none, all)
      by false e rest some = let a = count_cons t x xs in let b = count_cons u x xs in let one = one_less t u less x in let more = rest some in omega (arith, a, b, one, more)

module _ (core : Core) (going : IsGoing core) (next : Stored) (disk : ℕ) (status : Status) (its : IsUnderWay core next disk status) (row : Flown) (pool : List Bool) where
  abbrev flown_status : Stored
  flown_status = record core.status { in_flight = Some status; writes = next.writes; stamp = next.stamp }

  abbrev after : Core
  after = record core { flying = core.flying ++ row ∷ []; pool = pool; status = flown_status }

  -- ---- the requests have as much left

  was_flying : Status
  was_flying = unwrap_or core.status.in_flight core.status.committed

  -- a copy that is stale by what is committed, but not wanted stale, is brought up
  settled_same : (p : Pp) → is_usable core p ≡ false → is_missing core p.disk ≡ false → is_brought_up core p ≡ false → is_settled after p ≡ is_settled core p
  settled_same p unusable there idle = by its.was
    where
      stale : (a b : Bool) → b ≡ false → not a && not b ≡ false → a ≡ true
      stale true b e f = refl
      stale false true e f = not_so (sym e)
      stale false false e f = not_so (sym f)

      is_stale_so : is_stale core p ≡ true
      is_stale_so = stale (is_stale core p) (is_missing core p.disk) there unusable

      not_cleared : is_clearing core p ≡ false
      not_cleared = of_copy core.copy idle
        where
          of_copy : (m : Option OpenCopy) → option_map_or (λ (c : OpenCopy). is_running c && is_pp p c.pp) m false ≡ false → option_map_or (λ (c : OpenCopy). is_running c && is_whole core c && is_pp p c.pp) m false ≡ false
          of_copy None e = refl
          of_copy (Some c) e = drop_middle (is_running c) (is_whole core c) (is_pp p c.pp) e
            where
              drop_middle : (a b c : Bool) → a && c ≡ false → a && b && c ≡ false
              drop_middle true true c f = f
              drop_middle true false c f = refl
              drop_middle false b c f = refl

      wanted : is_wanted_stale core p ≡ true
      wanted = of_wanted (is_wanted_stale core p) refl
        where
          of_wanted : (b : Bool) → is_wanted_stale core p ≡ b → b ≡ true
          of_wanted true e = refl
          of_wanted false e = not_so (sym not_cleared ∙ going.clearings p (ap (λ b. b || calls_stale (unwrap_or core.status.in_flight core.status.committed) p) is_stale_so) e)

      by : Flies core status next.stamp → is_settled after p ≡ is_settled core p
      by (inl flew) = sym (ap (λ m. is_stale core p && calls_stale (unwrap_or m core.status.committed) p) flew.0)
      by (inr new) =
          ap (λ x. is_stale core p && calls_stale x p) new.1 ∙ ap (λ b. is_stale core p && b) wanted ∙ ap (λ b. b && true) is_stale_so
          ∙ sym (ap (λ m. is_stale core p && calls_stale (unwrap_or m core.status.committed) p) new.0 ∙ ap (λ b. b && b) is_stale_so)

  turns_same : (p : Pp) → turns_of after p ≡ turns_of core p
  turns_same p = by (is_missing core p.disk) (is_usable core p) (is_brought_up core p) refl refl refl
    where
      turns_by : Bool → Bool → Bool → Bool → ℕ
      turns_by a b c d = if a then 0 else if b then (if c then 34 else 22) else if c then 46 else if d then 0 else 34

      by : (a b c : Bool) → is_missing core p.disk ≡ a → is_usable core p ≡ b → is_brought_up core p ≡ c → turns_by a b c (is_settled after p) ≡ turns_by a b c (is_settled core p)
      by true b c i j k = refl
      by false true c i j k = refl
      by false false true i j k = refl
      by false false false i j k = ap (turns_by false false false) (settled_same p j i k)

  requests_same : (x : Open) → request_left after x ≡ request_left core x
  requests_same x = request_still core after x
      (ap (λ n. update_work + n + sum_by (destination_turns core) (destinations_for core x.request.ask) + if_so (lacks_dirty core x.request.ask) update_work + if_so (not (is_held x.request.phase) && is_changed core x.request) 12) (sum_same (turns_of core) (turns_of after) turns_same (copies_for core x.request.ask)))
      refl

  -- ---- the status has less left

  one_member : list_any (λ (r : PvRow). r.disk == disk) core.status.group.pvs ≡ true
  one_member = its.member

  at_disk : (r : PvRow) → (r.disk == disk) ≡ true → has next.writes.unstarted r.disk ≡ false
  at_disk r e = ap (λ d. has next.writes.unstarted d) (eqb-true r.disk disk e) ∙ its.gone

  status_falls : status_left after + 1 < status_left core
  status_falls = by its.was its.fewer
    where
      few : length core.status.group.pvs ≤ 128
      few =
          let same : length core.status.group.pvs ≡ length core.descriptor.pvs = ap (λ (d : Descriptor). length d.pvs) going.fitting.group in
          let members : length core.descriptor.pvs ≤ most_members core.descriptor.big = going.fitting.valid.head.members in
          let most = few_members core.descriptor.big in
          omega (arith, same, members, most)

      flew_falls : core.status.in_flight ≡ Some status → has core.status.writes.unstarted disk ≡ true → ((d : ℕ) → has next.writes.unstarted d ≡ true → has core.status.writes.unstarted d ≡ true) → status_left after + 1 < status_left core
      flew_falls flew left less =
          let fewer = fewer_there (λ (r : PvRow). has core.status.writes.unstarted r.disk) (λ (r : PvRow). has next.writes.unstarted r.disk) (λ (r : PvRow). r.disk == disk) (λ r e. less r.disk e)
          (λ r e. (ap (λ d. has core.status.writes.unstarted d) (eqb-true r.disk disk e) ∙ left, at_disk r e)) core.status.group.pvs one_member in
          let old : status_left core ≡ 2 * count_by (λ (r : PvRow). has core.status.writes.unstarted r.disk) core.status.group.pvs + if_so (not (same_status core.status.wanted status)) update_work =
          ap (λ m. option_map_or (λ (u : Status). 2 * count_by (λ (r : PvRow). has core.status.writes.unstarted r.disk) core.status.group.pvs + if_so (not (same_status core.status.wanted u)) update_work) m (if_so (not (same_status core.status.wanted core.status.committed)) update_work)) flew in
          omega (arith, fewer, old)

      new_falls : core.status.in_flight ≡ None → status ≡ core.status.wanted → same_status core.status.wanted core.status.committed ≡ false → status_left after + 1 < status_left core
      new_falls none wanted differs =
          let fewer = fewer_there (λ (r : PvRow). true) (λ (r : PvRow). has next.writes.unstarted r.disk) (λ (r : PvRow). r.disk == disk) (λ r e. refl) (λ r e. (refl, at_disk r e)) core.status.group.pvs one_member in
          let all = count_by-le-length (λ (r : PvRow). true) core.status.group.pvs in
          let most = few in
          let zero : if_so (not (same_status core.status.wanted status)) update_work ≡ 0 = ap (λ x. if_so (not (same_status core.status.wanted x)) update_work) wanted ∙ ap (λ b. if_so (not b) update_work) (status_own core.status.wanted) in
          let old : status_left core ≡ 256 =
          ap (λ m. option_map_or (λ (u : Status). 2 * count_by (λ (r : PvRow). has core.status.writes.unstarted r.disk) core.status.group.pvs + if_so (not (same_status core.status.wanted u)) update_work) m (if_so (not (same_status core.status.wanted core.status.committed)) update_work)) none
          ∙ ap (λ b. if_so (not b) update_work) differs in
          omega (arith, fewer, all, most, zero, old)

      by : Flies core status next.stamp → ((core.status.in_flight ≡ None) ⊎ ((has core.status.writes.unstarted disk ≡ true) × ((d : ℕ) → has next.writes.unstarted d ≡ true → has core.status.writes.unstarted d ≡ true))) → status_left after + 1 < status_left core
      by (inl flew) (inl none) = absurd (let no : None ≡ Some status = sym none ∙ flew.0 in cc)
      by (inl flew) (inr less) = flew_falls flew.0 less.0 less.1
      by (inr new) any = new_falls new.0 new.1 new.3

  pub falls : work_left after < work_left core
  falls =
      let longer = length-append core.flying (row ∷ []) in
      let same = sum_same (request_left core) (request_left after) requests_same core.requests in
      let less = status_falls in
      grows (length core.flying) (length after.flying) ((update_work + 1) * count_by (λ (r : PvRow). is_there core r.disk) core.descriptor.pvs) (status_left core) (status_left after) (sum_by (request_left core) core.requests) (sum_by (request_left after) core.requests)
      (option_map_or (copy_left core) core.copy 0) longer same less
    where
      grows : (n m a b c x y k : ℕ) → m ≡ n + 1 → y ≡ x → c + 1 < b → m + a + c + y + k < n + a + b + x + k
      grows n m a b c x y k longer same less = omega (arith, longer, same, less)

pub status_start_falls : StatusStartFalls
status_start_falls old new sound on votes event =
    subst (λ (s : State). left_of s.core < left_of old.core) (sym (event.is ∙ ap (λ (u : Stored). record { device = new.device; core = made u }) same))
    (subst (λ n. left_of after_so < n) (sym (lit old.core on votes)) (subst (λ n. n < work_left old.core) (sym (lit after_so on votes)) (falls old.core (sound.on on).going new.core.status event.disk event.status its row new.core.pool)))
  where
    row : Flown
    row = flown event.flight.ticket event.flight.disk (owner.Status event.disk)

    its : IsUnderWay old.core new.core.status event.disk event.status
    its = under_way old.core new.core.status event.disk event.status event.begun (sound.on on).going event.due event.begins event.lowest event.started event.flies

    same : new.core.status ≡ record old.core.status { in_flight = Some event.status; writes = new.core.status.writes; stamp = new.core.status.stamp }
    same = next_is old.core new.core.status event.status its.group its.committed its.wanted event.flies

    made : Stored → Core
    made u = record old.core { flying = old.core.flying ++ row ∷ []; status = u; pool = new.core.pool }

    after_so : Core
    after_so = made (record old.core.status { in_flight = Some event.status; writes = new.core.status.writes; stamp = new.core.status.stamp })
