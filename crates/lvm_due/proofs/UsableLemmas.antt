-- A target that is usable is a usable copy of the logical partition.
use Rattle.std.proofs.Common.{◌≡◌, ◌==◌, ◌&&◌, ◌||◌, not, Bool, true, false, List, [], ◌∷◌, refl, sym, ◌∙◌, ap, subst}
use Rattle.std.specs.List.{list_any, AllByRecursion}
use Rattle.std.proofs.lemmas.Bool.{eqb-true, or_right}
use Rattle.lvm_num.specs.declared.place.Pp.{Pp}
use Rattle.lvm_num.proofs.Booleans.{first_holds, second_holds}
use Rattle.lvm_path.specs.declared.ask.Ask.{Ask}
use Rattle.lvm_path.specs.declared.request.Phase.{Phase}
use Rattle.lvm_path.specs.declared.request.Phase.TheVariants as phase
use Rattle.lvm_path.specs.declared.request.Request.{Request}
use Rattle.lvm_path.specs.declared.target.Target.{Target}
use Rattle.lvm_due.specs.passed.Session.{Core, copies_for, is_usable, is_among, IsTarget}
use Rattle.lvm_session.specs.Requests.{IsAimed}
use Rattle.lvm_due.specs.Might.{any_is_usable, shows_usable}

-- a test that a partition passes is passed by one of those that it is among
among_any : (test : Pp → Bool) (ps : List Pp) (p : Pp) → is_among ps p ≡ true → test p ≡ true → list_any test ps ≡ true
among_any test [] p is passes = absurd (cc is)
among_any test (q ∷ ps) p is passes = by (λ later. among_any test ps p later passes) (p.disk == q.disk && p.pp == q.pp) refl is
  where
    same : (p.disk == q.disk && p.pp == q.pp) ≡ true → p ≡ q
    same its =
        let disk : p.disk ≡ q.disk = eqb-true p.disk q.disk (first_holds (p.disk == q.disk) (p.pp == q.pp) its) in
        let pp : p.pp ≡ q.pp = eqb-true p.pp q.pp (second_holds (p.disk == q.disk) (p.pp == q.pp) its) in
        λ i. record { disk = disk i; pp = pp i }

    by : (is_among ps p ≡ true → list_any test ps ≡ true) → (b : Bool) → (p.disk == q.disk && p.pp == q.pp) ≡ b → (b || is_among ps p) ≡ true → (test q || list_any test ps) ≡ true
    by rest true its is = ap (λ (b : Bool). b || list_any test ps) (sym (ap test (same its)) ∙ passes)
    by rest false its is = or_right (test q) (list_any test ps) (rest is)

module _ (core : Core) (ask : Ask) where
  target_usable : (ts : List Target) → AllByRecursion (IsTarget core ask) ts → any_is_usable core ts ≡ true → list_any (is_usable core) (copies_for core ask) ≡ true
  target_usable [] all is = absurd (cc is)
  target_usable (t ∷ ts) all is = by (target_usable ts all.1) t.moves (is_usable core t.pp) refl refl is
    where
      by : (any_is_usable core ts ≡ true → list_any (is_usable core) (copies_for core ask) ≡ true) → (m b : Bool) → t.moves ≡ m → is_usable core t.pp ≡ b → ((not m && b) || any_is_usable core ts) ≡ true → list_any (is_usable core) (copies_for core ask) ≡ true
      by rest false true stays its is = among_any (is_usable core) (copies_for core ask) t.pp (subst (λ (m : Bool). IsAimed m core ask t) stays all.0.copy) its
      by rest false false stays its is = rest is
      by rest true b moves its is = rest is

pub shown_usable : (core : Core) (r : Request) → AllByRecursion (IsTarget core r.ask) r.targets.items → (p : Phase) → shows_usable core p r ≡ true → list_any (is_usable core) (copies_for core r.ask) ≡ true
shown_usable core r all phase.Held is = is
shown_usable core r all phase.WantEntry is = target_usable core r.ask r.targets.items all is
shown_usable core r all phase.WantRecord is = target_usable core r.ask r.targets.items all is
shown_usable core r all phase.Data is = target_usable core r.ask r.targets.items all is
shown_usable core r all phase.WantStatus is = target_usable core r.ask r.targets.items all is
shown_usable core r all phase.Landed is = target_usable core r.ask r.targets.items all is
