-- Spans of moments, grown by one entry or by steps of the shelf, and one after the other.
use Rattle.std.proofs.Common.{map, ◌≤◌, ◌≡◌, ◌∷◌, ◌++◌, [], ◌+◌, ℕ, List, count_by, cond, refl, sym, ◌∙◌, ap, subst, append_assoc, arith}
use Rattle.std.proofs.lemmas.List.Sums.{sum_by-append}
use Rattle.lvm_kept.specs.passed.Disk.{Device, LeavesNoMore, DeviceStep, Path, Here, Then}
use Rattle.lvm_kept.proofs.passed.Disk.{append-path, lift-path, last-path, map-path}
use Rattle.lvm_vol.specs.declared.entry.Vol.TheVariants.{Disk}
use Rattle.lvm_vol.specs.Facts.{Fact, Removed, Cut, On}
use Rattle.lvm_vol.specs.Legal.{begins_in, Legal, IsLater}
use Rattle.lvm_kept.specs.Contents.{contents_of}
use Rattle.lvm_kept.specs.Kept.{Kept}
use Rattle.lvm_kept.specs.Moments.{Moment, Step, Moves, Enters, Calm, StaysCalm}
use Rattle.lvm_kept.proofs.LegalLemmas.{legal_more}
use Rattle.lvm_kept.proofs.RawLemmas.Keeping.{cut_calm}
use Rattle.lvm_kept.proofs.MomentsLemmas.Spans.{at_moment, regroup}
use Rattle.lvm_kept.proofs.MomentsLemmas.Chaining.{span_told}
use Rattle.lvm_steps.specs.Moments.{ImagesKept, RunBegins, HistoryHolds, Upholds, Keeps, StaysKept, IsEarlier, StepsGoOn, FewerStayKept, EntryGoesOn, SpansJoin, SpanUpholds, RunsFollow, GroupGoesOn, DisksGoOut}
use Rattle.lvm_steps.proofs.EntriesLemmas.{cut_keeps, quiet_entry_keeps}

-- where nothing happens all is as it should be
pub keeps_still : (run : ℕ) (m : Moment) → Keeps run m m
keeps_still run m = Here (λ past begins. record { legal = begins.legal; kept = begins.kept })

pub entry_goes_on : EntryGoesOn
entry_goes_on run first device facts f span fits kept = Then span (Enters f refl refl) (λ past begins.
    let before = last-path span past begins in
    record {
      legal = regroup Legal past facts f (legal_more [] (past ++ facts) f before.legal (fits past begins before));
      kept = λ image may. regroup (Kept (contents_of image)) past facts f (kept past begins before image may);
    })

-- steps of the shelf after which each crash image is kept
pub keeps_path :
    (P : Device → Type 0) (run : ℕ) (first : Moment) (old new : Device) (facts : List Fact) → Keeps run first (at_moment old facts)
    → ((past : List Fact) → RunBegins run past first → HistoryHolds past (at_moment old facts) → (d : Device) → P d → ImagesKept d (past ++ facts))
    → Path DeviceStep P old new → Keeps run first (at_moment new facts)
keeps_path P run first old new facts span kept path = append-path span (lift-path Step (Upholds run first) (λ d. at_moment d facts) (λ x y step. Moves step refl)
    (λ d p past begins. let before = last-path span past begins in record { legal = before.legal; kept = kept past begins before d p }) path)

pub steps_go_on : StepsGoOn
steps_go_on run first old new facts span path = keeps_path (StaysKept old) run first old new facts span (λ past begins before d stays. stays (past ++ facts) before.kept) path

pub fewer_stay_kept : FewerStayKept
fewer_stay_kept old new leaves facts kept image may = kept image (leaves image may)

-- steps that add no crash images
pub keeps_steps : (run : ℕ) (first : Moment) (old new : Device) (facts : List Fact) → Keeps run first (at_moment old facts) → Path DeviceStep (LeavesNoMore old) old new → Keeps run first (at_moment new facts)
keeps_steps run first old new facts span path = steps_go_on run first old new facts span (map-path (StaysKept old) (λ d leaves. fewer_stay_kept old d leaves) path)

-- ---- one span and then another

begins_on : (run : ℕ) (past : List Fact) (first last : Moment) → Keeps run first last → StaysCalm first last → RunBegins run past first → RunBegins run past last
begins_on run past first last span calm begins =
    let holds = last-path span past begins in
    record { told = span_told span begins.told; legal = holds.legal; own = begins.own; moments = begins.moments; calm = calm past begins.calm; kept = holds.kept }

pub spans_join : SpansJoin
spans_join run first mid last one calm two = append-path one (map-path (Upholds run first) (λ m upholds past begins. upholds past (begins_on run past first mid one calm begins)) two)

-- ---- runs

append_none : (l : List Fact) → l ++ [] ≡ l
append_none [] = refl
append_none (f ∷ l) = ap (λ (m : List Fact). f ∷ m) (append_none l)

-- later than the moments of both lists
pub later_append : (xs ys : List Fact) (m : ℕ) → IsLater xs m → IsLater ys m → IsLater (xs ++ ys) m
later_append [] ys m later more = more
later_append (On e ∷ xs) ys m later more = (later.0, later_append xs ys m later.1 more)
later_append (_ ∷ xs) ys m later more = later_append xs ys m later more

-- and a later moment is too
later_still : (xs : List Fact) (m n : ℕ) → m ≤ n → IsLater xs m → IsLater xs n
later_still [] m n le later = tt
later_still (On e ∷ xs) m n le later = (let lt = later.0 in omega (arith, lt, le), later_still xs m n le later.1)
later_still (_ ∷ xs) m n le later = later_still xs m n le later

-- a group was varied on
pub group_goes_on : GroupGoesOn
group_goes_on run first device facts moment span le own = entry_goes_on run first device facts (On moment) span
    (λ past begins holds. later_append past facts moment (later_still past run moment le begins.moments) own)
    (λ past begins holds image may. quiet_entry_keeps (contents_of image) (past ++ facts) (On moment) tt (holds.kept image may))

-- the contents of disks are given up
pub disks_go_out : DisksGoOut
disks_go_out run first device facts [] span = subst (λ (l : List Fact). Keeps run first (at_moment device l)) (sym (append_none facts)) span
disks_go_out run first device facts (d ∷ disks) span =
    subst (λ (l : List Fact). Keeps run first (at_moment device l)) (append_assoc facts (Removed (Disk d) ∷ []) (map (λ (e : ℕ). Removed (Disk e)) disks))
    (disks_go_out run first device (facts ++ Removed (Disk d) ∷ []) disks
    (entry_goes_on run first device facts (Removed (Disk d)) span (λ past begins holds. tt) (λ past begins holds image may. quiet_entry_keeps (contents_of image) (past ++ facts) (Removed (Disk d)) tt (holds.kept image may))))

-- the earlier history, as a run finds it
pub begins_run : (run : ℕ) (device : Device) (past : List Fact) → IsEarlier run device past → RunBegins run (past ++ Cut ∷ []) (at_moment device [])
begins_run run device past earlier =
    let all : (past ++ Cut ∷ []) ++ [] ≡ past ++ Cut ∷ [] = append_none (past ++ Cut ∷ []) in
    record {
      told = earlier.told;
      legal = subst Legal (sym all) (legal_more [] past Cut earlier.legal tt);
      own = sum_by-append (λ g. cond (begins_in run g) 1 0) past (Cut ∷ []) ∙ (let e = earlier.own in more e);
      moments = later_append past (Cut ∷ []) run earlier.moments tt;
      calm = subst Calm (sym all) (cut_calm past);
      kept = λ image may. subst (Kept (contents_of image)) (sym all) (cut_keeps (contents_of image) past (earlier.kept image may));
    }
  where
    more : count_by (begins_in run) past ≡ 0 → ◌≡◌ {A = ℕ} (count_by (begins_in run) past + 0) 0
    more e = omega (arith, e)

pub span_upholds : SpanUpholds
span_upholds run entry exit facts span =
    let holds : (past : List Fact) → IsEarlier run entry past → HistoryHolds (past ++ Cut ∷ []) (at_moment exit facts) = λ past earlier. last-path span (past ++ Cut ∷ []) (begins_run run entry past earlier) in
    record {
      told = λ told. span_told span told;
      legal = λ past earlier. subst Legal (append_assoc past (Cut ∷ []) facts) (holds past earlier).legal;
      kept = λ past earlier image may. subst (Kept (contents_of image)) (append_assoc past (Cut ∷ []) facts) ((holds past earlier).kept image may);
    }

pub runs_follow : RunsFollow
runs_follow run next entry exit past facts earlier upheld own later = record { told = upheld.told earlier.told; legal = upheld.legal past earlier; own = own; moments = later; kept = upheld.kept past earlier }
