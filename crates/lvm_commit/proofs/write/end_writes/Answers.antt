use Rattle.std.proofs.Common.{◌≡◌, inl, inr, ⊎_elim, ℕ, Bool, true, false, ◌&&◌, not, Some, refl, sym, ◌∙◌, ap, subst, arith}
use Rattle.std.specs.Prelude.{◌==◌, count_by}
use Rattle.std.proofs.lemmas.Bool.{eqb-true}
use Rattle.lvm_num.specs.declared.descriptor.PvRow.{PvRow}
use Rattle.lvm_num.specs.declared.descriptor.Descriptor.{Descriptor}
use Rattle.lvm_num.specs.Descriptor.{is_member}
use Rattle.lvm_num.specs.Disks.{has}
use Rattle.lvm_num.specs.Status.{calls_missing}
use Rattle.lvm_status.specs.Update.{Updates, seen}
use Rattle.lvm_status.specs.Calls.{WantsAtEnd, with_start, after_end}
use Rattle.lvm_status.proofs.Disks.{member-below}
use Rattle.lvm_status.proofs.RunsLemmas.Sound.{and_left}
use Rattle.lvm_commit.proofs.Counting.{counts_fewer}
use Rattle.lvm_commit.proofs.UpdateLemmas.{IsEnding, ending_first, ending_next, ending_fewer, ending_committed, ending_wanted, ending_short}
use Rattle.lvm_commit.proofs.write.end_writes.Goals as goal

pub loop-disk-init : goal.loop-disk-init
loop-disk-init c = let s = c.requires.started in ending_first (seen c.args.updater.now) (has c.args.failed) s.flies s.unstarted s.started s.written s.failed

pub has-requires : goal.has-requires
has-requires c =
    let u = c.args.updater.now in
    let here = c.loop-disk.invariant.within c.in-Some.disk c.in-Some.ensures.lowest.0 in
    member-below c.args.d.now c.requires.valid c.in-Some.disk (ap (λ (g : Descriptor). is_member g c.in-Some.disk) c.requires.own ∙ and_left (is_member u.group c.in-Some.disk) (not (calls_missing u.wanted c.in-Some.disk)) here)

-- the end of a write as the session sees it
ends_at : (failed : ℕ → Bool) (old mid new : Updates) (disk : ℕ) (has_failed : Bool) → has_failed ≡ failed disk → mid ≡ with_start old (Some disk) → WantsAtEnd disk (not has_failed) mid.wanted new.wanted
    → new ≡ after_end mid disk (not has_failed) new.wanted
    → WantsAtEnd disk (not (failed disk)) old.wanted new.wanted × (new ≡ after_end (with_start old (Some disk)) disk (not (failed disk)) new.wanted)
ends_at failed old mid new disk has_failed tells starts wants ends = (
  subst (λ (b : Bool). WantsAtEnd disk (not b) old.wanted new.wanted) tells (subst (λ (m : Updates). WantsAtEnd disk (not has_failed) m.wanted new.wanted) starts wants),
  ends ∙ ap (λ (m : Updates). after_end m disk (not has_failed) new.wanted) starts ∙ ap (λ b. after_end (with_start old (Some disk)) disk (not b) new.wanted) tells,
)

pub loop-disk-preserved : goal.loop-disk-preserved
loop-disk-preserved c =
    let old = seen c.loop-disk.updater in
    let new = seen c.ended.new.self in
    let its = ends_at (has c.args.failed) old (seen c.next_write.new.self) new c.in-Some.disk c.has.result c.has.ensures.member c.in-Some.ensures.starts c.ended.ensures.wanted c.ended.ensures.rest in
    ending_next (seen c.args.updater.now) (has c.args.failed) old c.in-Some.disk c.loop-disk.invariant c.in-Some.ensures.lowest new its.0 its.1

pub loop-disk-smaller : goal.loop-disk-smaller
loop-disk-smaller c =
    let old = seen c.loop-disk.updater in
    let new = seen c.ended.new.self in
    let disk = c.in-Some.disk in
    let lowest = c.in-Some.ensures.lowest in
    let its = ends_at (has c.args.failed) old (seen c.next_write.new.self) new disk c.has.result c.has.ensures.member c.in-Some.ensures.starts c.ended.ensures.wanted c.ended.ensures.rest in
    let inv : IsEnding (seen c.args.updater.now) (has c.args.failed) old = c.loop-disk.invariant in
    let next = ending_next (seen c.args.updater.now) (has c.args.failed) old disk inv lowest new its.0 its.1 in
    let fewer = ending_fewer (seen c.args.updater.now) (has c.args.failed) old disk inv lowest new its.1 in
    let same : new.group ≡ old.group = next.group ∙ sym inv.group in
    let member : is_member old.group disk ≡ true = and_left (is_member old.group disk) (not (calls_missing old.wanted disk)) (inv.sound.unstarted disk lowest.0).0 in
    let less = counts_fewer (λ (row : PvRow). new.unstarted row.disk) (λ (row : PvRow). old.unstarted row.disk) old.group.pvs (λ (row : PvRow). row.disk == disk)
    (λ row is. and_left (old.unstarted row.disk) (not (row.disk == disk)) (sym (fewer row.disk) ∙ is))
    (λ row is. (ap old.unstarted (eqb-true row.disk disk is) ∙ lowest.0, fewer row.disk ∙ ap (λ b. old.unstarted row.disk && not b) is ∙ never (old.unstarted row.disk)))
    member in
    let pvs : new.group.pvs ≡ old.group.pvs = ap (λ (g : Descriptor). g.pvs) same in
    let counts : count_by (λ (row : PvRow). new.unstarted row.disk) new.group.pvs ≡ count_by (λ (row : PvRow). new.unstarted row.disk) old.group.pvs = ap (count_by (λ (row : PvRow). new.unstarted row.disk)) pvs in
    omega (arith, less, counts)
  where
    never : (b : Bool) → b && false ≡ false
    never true = refl
    never false = refl

pub returns : goal.returns
returns c =
    let first = seen c.args.updater.now in
    let last = seen c.next_write.new.self in
    let is : last ≡ seen c.loop-disk.updater = c.in_default.ensures.starts in
    let ending : IsEnding first (has c.args.failed) last = subst (IsEnding first (has c.args.failed)) (sym is) c.loop-disk.invariant in
    let none : (d : ℕ) → last.unstarted d ≡ false = λ d. ap (λ (u : Updates). u.unstarted d) is ∙ c.in_default.ensures.lowest d in
    record {
      group = ending.group;
      stamp = ending.stamp;
      wanted = ending_wanted first (has c.args.failed) last ending none;
      committed = ending_committed first (has c.args.failed) last ending none;
      short = ending_short first (has c.args.failed) last ending none;
      flown = ⊎_elim (λ flies. inl flies) (λ closed. inr closed.0) ending.flown;
      forgotten = ending.sound.idle;
    }
