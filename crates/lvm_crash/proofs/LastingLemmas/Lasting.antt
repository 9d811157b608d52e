-- The state goes on describing the disks.
use Rattle.std.proofs.Common.{◌≡◌, ◌⊎◌, inl, inr, ⊎_elim, ℕ, Bool, true, false, ◌&&◌, ◌==◌, List, [], ◌∷◌, ◌++◌, Option, Some, None, refl, sym, ap, subst, ◌∙◌, eqb-true, ◌+◌, ◌↔◌}
use Rattle.std.specs.Prelude.{IsTrue, IsFalse, if◌then◌else◌, is_some, nat_le, nat_lt}
use Rattle.std.proofs.lemmas.Bool.{and_right}
use Rattle.lvm_num.specs.declared.descriptor.Mode.{Mode}
use Rattle.lvm_num.specs.declared.descriptor.LvRow.{LvRow}
use Rattle.lvm_num.specs.declared.descriptor.Descriptor.{Descriptor}
use Rattle.lvm_num.specs.declared.status.Status.{Status}
use Rattle.lvm_num.specs.Buffer.{Sector}
use Rattle.lvm_num.specs.Disks.{Disks}
use Rattle.lvm_num.specs.Descriptor.{copies_of, volume_of}
use Rattle.lvm_num.specs.declared.place.Pp.{Pp}
use Rattle.lvm_kept.specs.Group.{IsOneOf}
use Rattle.lvm_num.specs.Note.{Noted}
use Rattle.lvm_num.specs.Record.{Stamped}
use Rattle.lvm_vol.specs.declared.entry.Vol.{Vol}
use Rattle.lvm_vol.specs.declared.entry.Vol.TheVariants.{Disk, Lv}
use Rattle.lvm_vol.specs.declared.entry.Outcome.{Outcome}
use Rattle.lvm_vol.specs.Facts.{Request, Fact, Begun, Landed as HasLanded, Taken, Cut, same_vol, is_over, block_of}
use Rattle.lvm_vol.specs.Laws.{is_about}
use Rattle.lvm_vol.specs.May.{Known, known, cut, source, change, May}
use Rattle.lvm_vol.specs.Standing.{Standing, Absent, Open, Settled, Shape, Volume, no_volumes, volumes_after, volumes_after_fact, volumes_in, put}
use Rattle.lvm_vol.proofs.LawsLemmas.Knowing.{known-push, others_stay}
use Rattle.lvm_kept.specs.Contents.{Contents}
use Rattle.lvm_kept.specs.Kept.{StandsAs, RawAgrees}
use Rattle.lvm_invariant.specs.State.{Beside, ModelState, Queued}
use Rattle.lvm_invariant.specs.Found.{Votes}
use Rattle.lvm_invariant.specs.Good.{Good}
use Rattle.lvm_invariant.specs.Events.{Event, Submit, LandDone, LandLost, LandGot, LandReadFailed, LandNoFresh, Take, TakeEarlier, ModelStep}
use Rattle.lvm_even.specs.Members.{members_showing}
use Rattle.lvm_crash.specs.Session.{IsPlaceOf, GroupStands, HasVolumes, Shows, Describes}
use Rattle.lvm_crash.specs.Left.{KeepsGroup}
use Rattle.lvm_crash.specs.Lasting.{AsksOf, DescriptionLasts}
use Rattle.lvm_invariant.proofs.MayLemmas.{landed_mode}
use Rattle.lvm_crash.proofs.LawsLemmas.Remaining.{before, after, others_last}

-- ---- entries of a session

-- a request on a volume begins or lands, or an answer is taken
abbrev pub IsOfSession : Descriptor → Fact → Type 0
IsOfSession group (Begun q) = (lv : ℕ) × (q.vol ≡ Lv lv) × IsTrue (is_some (volume_of group lv))
IsOfSession group (HasLanded q how started got) = (lv : ℕ) × (q.vol ≡ Lv lv)
IsOfSession group (Taken q) = Unit {0}
IsOfSession group _ = ⊥

-- what holds of a beginning, a landing and an answer that is taken holds of each such entry
of_session : (group : Descriptor) (P : Fact → Type 0) → ((q : Request) → (lv : ℕ) × (q.vol ≡ Lv lv) × IsTrue (is_some (volume_of group lv)) → P (Begun q))
    → ((q : Request) (how : Outcome) (started : Bool) (got : List Sector) → (lv : ℕ) × (q.vol ≡ Lv lv) → P (HasLanded q how started got)) → ((q : Request) → P (Taken q)) → (f : Fact) → IsOfSession group f → P f
of_session group P begun landed taken (Begun q) of = begun q of
of_session group P begun landed taken (HasLanded q how started got) of = landed q how started got of
of_session group P begun landed taken (Taken q) of = taken q
of_session group P begun landed taken _ of = absurd of

pub volumes-append : (volumes : ℕ → Volume) (facts more : List Fact) → volumes_after volumes (facts ++ more) ≡ volumes_after (volumes_after volumes facts) more
volumes-append volumes [] more = refl
volumes-append volumes (g ∷ facts) more = volumes-append (volumes_after_fact g volumes) facts more

settles : (mib : ℕ) (standing : Standing) (shape : Option Shape) (o : Option LvRow) → IsTrue (is_some o) → StandsAs mib standing shape o → StandsAs mib Settled shape o
settles mib standing shape None some stands = absurd cc
settles mib Settled shape (Some row) some stands = stands
settles mib Open shape (Some row) some stands = stands
settles mib Absent shape (Some row) some stands = absurd stands

-- the group's volumes stand in the history as they did
pub volumes_stand : (group : Descriptor) (facts : List Fact) (f : Fact) → IsOfSession group f → (lv : ℕ) → StandsAs group.mib (volumes_in facts lv).standing (volumes_in facts lv).shape (volume_of group lv)
    → StandsAs group.mib (volumes_in (facts ++ f ∷ []) lv).standing (volumes_in (facts ++ f ∷ []) lv).shape (volume_of group lv)
volumes_stand group facts f of lv stands =
    subst (λ (v : Volume). StandsAs group.mib v.standing v.shape (volume_of group lv)) (sym (ap (λ (v : ℕ → Volume). v lv) (volumes-append no_volumes facts (f ∷ [])))) (by f of)
  where
    put_stands : (n : ℕ) → IsTrue (is_some (volume_of group n)) → (t : Bool) → (n == lv) ≡ t
        → StandsAs group.mib (if t then record (volumes_in facts lv) { standing = Settled } else volumes_in facts lv).standing (if t then record (volumes_in facts lv) { standing = Settled } else volumes_in facts lv).shape (volume_of group lv)
    put_stands n there true is = settles group.mib (volumes_in facts lv).standing (volumes_in facts lv).shape (volume_of group lv) (ap (λ (k : ℕ). is_some (volume_of group k)) (sym (eqb-true n lv is)) ∙ there) stands
    put_stands n there false is = stands

    by : (f : Fact) → IsOfSession group f → StandsAs group.mib (volumes_after_fact f (volumes_in facts) lv).standing (volumes_after_fact f (volumes_in facts) lv).shape (volume_of group lv)
    by = of_session group (λ (f : Fact). StandsAs group.mib (volumes_after_fact f (volumes_in facts) lv).standing (volumes_after_fact f (volumes_in facts) lv).shape (volume_of group lv))
        (λ q at. subst (λ (vol : Vol). StandsAs group.mib (put vol Settled (volumes_in facts) lv).standing (put vol Settled (volumes_in facts) lv).shape (volume_of group lv)) (sym at.1) (put_stands at.0 at.2 (at.0 == lv) refl))
        (λ q how started got at. stands) (λ q. stands)

-- ---- modes

either : (t : Bool) (x y : Known) (m : Mode) → x.mode ≡ m → y.mode ≡ m → (if t then x else y).mode ≡ m
either true x y m h k = h
either false x y m h k = k

pub modes_stay : (group : Descriptor) (facts : List Fact) (f : Fact) → IsOfSession group f → (vol : Vol) (b : ℕ) → (known (facts ++ f ∷ []) vol b).mode ≡ (known facts vol b).mode
modes_stay group facts f of vol b = ap (λ (k : Known). k.mode) (known-push facts f vol b) ∙ by f of
  where
    by : (f : Fact) → IsOfSession group f → (change f vol b (known facts (source f vol) b)).mode ≡ (known facts vol b).mode
    by = of_session group (λ (f : Fact). (change f vol b (known facts (source f vol) b)).mode ≡ (known facts vol b).mode)
        (λ q at. either (q.write && is_over q vol b) (record (known facts vol b) { open_writes = q ∷ (known facts vol b).open_writes }) (known facts vol b) (known facts vol b).mode refl refl)
        (λ q how started got at. landed_mode q how started (is_over q vol b) (block_of q.blocks q.at b) (block_of got q.at b) (known facts vol b)) (λ q. refl)

-- ---- disks in no group

not_over : (q : Request) (lv d b : ℕ) → q.vol ≡ Lv lv → is_over q (Disk d) b ≡ false
not_over q lv d b is = ap (λ (vol : Vol). same_vol vol (Disk d) && nat_le q.at b && nat_lt b (q.at + q.count)) is

not_about : (group : Descriptor) (f : Fact) → IsOfSession group f → (d b : ℕ) → is_about f (Disk d) b ≡ false
not_about group f of d b = of_session group (λ (g : Fact). is_about g (Disk d) b ≡ false) (λ q at. and_right q.write (is_over q (Disk d) b) (not_over q at.0 d b at.1))
    (λ q how started got at. not_over q at.0 d b at.1) (λ q. refl) f of

pub raw_stays : (group : Descriptor) (facts : List Fact) (f : Fact) → IsOfSession group f → (d b : ℕ) → known ((facts ++ f ∷ []) ++ Cut ∷ []) (Disk d) b ≡ known (facts ++ Cut ∷ []) (Disk d) b
raw_stays group facts f of d b =
    known-push (facts ++ f ∷ []) Cut (Disk d) b ∙ ap (cut b) (others_stay facts f (Disk d) b (not_about group f of d b)) ∙ sym (known-push facts Cut (Disk d) b)

-- ---- each event

-- what the group's volumes are told by stays, and the history gets at most one entry of a session
record Goes (group : Descriptor) (s new : ModelState) : Type 0 where
  copies : new.is_copy ≡ s.is_copy
  active : new.is_active ≡ s.is_active
  passive : new.is_passive ≡ s.is_passive
  beside : new.beside ≡ s.beside
  facts : (new.facts ≡ s.facts) ⊎ ((f : Fact) × (new.facts ≡ s.facts ++ f ∷ []) × IsOfSession group f)

module _ (votes : Votes) (group : Descriptor) (s : ModelState) (good : Good votes s) where
  -- a request of the queue is on a volume
  pub on_volume : (i : ℕ) (r : Queued) → s.queue i ≡ Some r → IsFalse r.step → (lv : ℕ) × ((s.name i).vol ≡ Lv lv)
  on_volume i r there request = (r.lv, (good.told.same i r there request).vol)

  -- a write is a request
  write_asked : (i : ℕ) (r : Queued) → s.queue i ≡ Some r → IsTrue r.write → IsFalse r.step
  write_asked i r there write = by_step r.step refl
    where
      never : (b : Bool) → IsTrue b → IsFalse b → ⊥
      never true h k = absurd cc
      never false h k = absurd cc

      by_step : (t : Bool) → r.step ≡ t → IsFalse t
      by_step true is = absurd (never r.write write (good.told.steps_read i r there is))
      by_step false is = refl

  abbrev Went : ModelState → Type 0
  Went new = Goes group s new

  -- the volumes stay
  went : (new : ModelState) → record new { is_copy = s.is_copy; is_active = s.is_active; is_passive = s.is_passive; beside = s.beside } ≡ new → (new.facts ≡ s.facts) ⊎ ((f : Fact) × (new.facts ≡ s.facts ++ f ∷ []) × IsOfSession group f) → Went new
  went new same facts = record { copies = ap (λ (x : ModelState). x.is_copy) (sym same); active = ap (λ (x : ModelState). x.is_active) (sym same); passive = ap (λ (x : ModelState). x.is_passive) (sym same); beside = ap (λ (x : ModelState). x.beside) (sym same); facts = facts }

  goes : (event : Event) (new : ModelState) → ModelStep votes event s new → AsksOf group event → Went new
  goes (Submit i q r) new step asks = subst Went (sym step.1) (went _ refl (inr (Begun q, refl, (r.lv, step.0.same.vol, asks))))
  goes (LandDone i r) new step asks = subst Went (sym step.1)
      (went _ refl (inr (_, refl, on_volume i r step.0.started.there (write_asked i r step.0.started.there step.0.started.write))))
  goes (LandLost i r) new step asks = subst Went (sym step.1)
      (went _ refl (inr (_, refl, on_volume i r step.0.started.there (write_asked i r step.0.started.there step.0.started.write))))
  goes (LandGot i r got) new step asks = subst Went (sym step.1) (went _ refl (inr (_, refl, on_volume i r step.0.there step.0.request)))
  goes (LandReadFailed i r) new step asks = subst Went (sym step.1) (went _ refl (inr (_, refl, on_volume i r step.0.there step.0.request)))
  goes (LandNoFresh i r) new step asks = subst Went (sym step.1) (went _ refl (inr (_, refl, on_volume i r step.0.there step.0.request)))
  goes (Take i r) new step asks = subst Went (sym step.1) (went _ refl (by_step r.step))
    where
      by_step : (t : Bool) → ((if t then s.facts else s.facts ++ Taken (s.name i) ∷ []) ≡ s.facts)
          ⊎ ((f : Fact) × ((if t then s.facts else s.facts ++ Taken (s.name i) ∷ []) ≡ s.facts ++ f ∷ []) × IsOfSession group f)
      by_step true = inl refl
      by_step false = inr (Taken (s.name i), refl, tt)
  goes (TakeEarlier q) new step asks = subst Went (sym step.1) (went _ refl (inr (Taken q, refl, tt)))
  goes _ new step asks = subst Went (sym step.1) (went _ refl (inl refl))

-- no event changes which partition stands beside
pub beside_stays : (votes : Votes) (event : Event) (s new : ModelState) (group : Descriptor) → ModelStep votes event s new → Good votes s → AsksOf group event → new.beside ≡ s.beside
beside_stays votes event s new group step good asks = (goes votes group s good event new step asks).beside

-- ---- all of it

-- what holds with the history, and with each entry of a session more, holds with the new one
with_facts : (group : Descriptor) (s new : ModelState) (P : List Fact → Type 0) → Goes group s new → P s.facts → ((f : Fact) → IsOfSession group f → P (s.facts ++ f ∷ [])) → P new.facts
with_facts group s new P goes same more = ⊎_elim (λ is. subst P (sym is) same) (λ is. subst P (sym is.1) (more is.0 is.2)) goes.facts

volumes_last : (group : Descriptor) (members : Disks) (s new : ModelState) → Goes group s new → HasVolumes s s.facts group members → HasVolumes new new.facts group members
volumes_last group members s new goes volumes = record {
  copies = λ row lp b p one inside. subst (λ (o : Option Beside). IsTrue (new.is_copy row.number b p) ↔ (IsPlaceOf o row lp b p × IsTrue (members p.disk))) (sym goes.beside)
      (subst (λ (is : ℕ → ℕ → Pp → Bool). IsTrue (is row.number b p) ↔ (IsPlaceOf s.beside row lp b p × IsTrue (members p.disk))) (sym goes.copies) (volumes.copies row lp b p one inside));
  free = λ o is. volumes.free o (sym goes.beside ∙ is);
  inside = λ lv b p copy. volumes.inside lv b p (sym (ap (λ (is : ℕ → ℕ → Pp → Bool). is lv b p) goes.copies) ∙ copy);
  some = volumes.some;
  notes = λ row one. ap (λ (is : ℕ → Bool). is row.number) goes.active ∙ volumes.notes row one;
  mark = λ row one. ap (λ (is : ℕ → Bool). is row.number) goes.passive ∙ volumes.mark row one;
  modes = λ row lp b one inside. with_facts group s new (λ l. (known l (Lv row.number) b).mode ≡ row.mode) goes (volumes.modes row lp b one inside)
      (λ f of. modes_stay group s.facts f of (Lv row.number) b ∙ volumes.modes row lp b one inside);
  history = λ lv. with_facts group s new (λ l. StandsAs group.mib (volumes_in l lv).standing (volumes_in l lv).shape (volume_of group lv)) goes (volumes.history lv)
      (λ f of. volumes_stand group s.facts f of lv (volumes.history lv));
}

module _ (old : Contents) (status : ℕ → Option (Stamped Status)) (note : ℕ → Option Noted) (block : ℕ → ℕ → Sector) where
  abbrev now : Contents
  now = record old { status = status; note = note; block = block }

  pub group_stands : (group : Descriptor) → GroupStands old group → GroupStands now group
  group_stands group stands = record {
    a_member = stands.a_member;
    size = stands.size;
    found = after old status note block _ group.id group stands.found;
    alone = λ disks id g f. stands.alone disks id g (before old status note block disks id g f);
    only = λ disks g f. stands.only disks g (before old status note block disks group.id g f);
    others = others_last old status note block group.id stands.others;
    once = stands.once;
  }

  description_lasts_here : (votes : Votes) (event : Event) (s new : ModelState) (group : Descriptor) (in_flight next : Option (Stamped Status))
      → ModelStep votes event s new → Good votes s → AsksOf group event → Describes s s.facts group in_flight old → KeepsGroup old now → Shows new group next now → Describes new new.facts group next now
  description_lasts_here votes event s new group in_flight next step good asks describes keeps shows =
      let went : Goes group s new = goes votes group s good event new step asks in
      record {
        stands = group_stands group describes.stands;
        volumes = volumes_last group (members_showing old group) s new went describes.volumes;
        shown = shows;
        raw = λ d b low none from to. with_facts group s new (λ l. May (known (l ++ Cut ∷ []) (Disk d) b) (block d b)) went (held d b low none from to)
            (λ f of. subst (λ (k : Known). May k (block d b)) (sym (raw_stays group s.facts f of d b)) (held d b low none from to));
      }
    where
      held : RawAgrees now s.facts
      held d b low none from to = subst (May (known (s.facts ++ Cut ∷ []) (Disk d) b)) (sym (keeps.raw d b none from)) (describes.raw d b low none from to)

pub description_lasts : DescriptionLasts
description_lasts votes event s new group in_flight next old c step good asks describes keeps shows =
    subst (λ d. Describes new new.facts group next d) (sym keeps.rest)
    (description_lasts_here old c.status c.note c.block votes event s new group in_flight next step good asks describes (subst (KeepsGroup old) keeps.rest keeps) (subst (Shows new group next) keeps.rest shows))
