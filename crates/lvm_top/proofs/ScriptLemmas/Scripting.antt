-- Runs of lines.
use Rattle.std.specs.Prelude.{is_some, IsTrue}
use Rattle.std.specs.List.{list_any}
use Rattle.std.proofs.Common.{◌≡◌, ◌⊎◌, ◌||◌, inl, inr, ⊎_elim, ◌↔◌, ◌+◌, ◌≤◌, ◌<◌, ℕ, List, [], ◌∷◌, ◌++◌, Option, Some, None, Bool, true, false, if◌then◌else◌, length, refl, sym, ◌∙◌, ap, subst, arith, zero-add, append_assoc}
use Rattle.std.proofs.lemmas.Bool.{cases_lt}
use Rattle.std.proofs.lemmas.List.{append-nil}
use Rattle.std.proofs.lemmas.List.Sums.{sum_by-append}
use Rattle.lvm_disk.specs.Device.{Device}
use Rattle.lvm_io.specs.Count.{Rose}
use Rattle.lvm_io.specs.Stream.{WhereTold}
use Rattle.lvm_io.specs.Lines.{TakesFirst, is_feed, joined, lines_from, lines_of}
use Rattle.lvm_io.specs.Reading.{Reading, to_come, lines_left, CountsGiven}
use Rattle.lvm_io.proofs.StreamLemmas.Told.{told_on, told_same, told_more}
use Rattle.lvm_io.proofs.LinesLemmas.Feeds.{first_of}
use Rattle.lvm_vol.specs.Log.{Log}
use Rattle.lvm_kept.specs.Moments.{Moment}
use Rattle.lvm_steps.specs.Moments.{Keeps}
use Rattle.lvm_steps.specs.Behind.{StampsAreEarlier, IsAhead}
use Rattle.lvm_steps.proofs.LawsLemmas.Stamps.{later_is_ahead_too}
use Rattle.lvm_core.specs.declared.parts.Room.{Room}
use Rattle.lvm_parse.specs.Grammar.{line_of}
use Rattle.lvm_line.proofs.passed.Quiesce.{still_is_behind_each, each_is_behind}
use Rattle.lvm_line.specs.passed.Tie.{LeavesDescriptors}
use Rattle.lvm_posts.specs.declared.posts.Post.{Post}
use Rattle.lvm_line.specs.Lines.{IsLine, asked_after, role_of}
use Rattle.lvm_line.specs.passed.GroupLines.{IsRequesting, Role, Aside, OfGroup, OfRequests, reply_text, refusals_of, most_refusals, IsStuck, ScriptState, IsAtRest, IsTimely, StandsBy, Reply}
use Rattle.lvm_top.specs.Script.{Stream, Passage, Says, Script, NoLine, NextLine, StaysAlone, Ends, AtLine, InLine, EndsAlone, EndsHeard, AreBefore, AreDone, AreAllRead, AreDoneBut, ComesBehind, IsLineLeft, MakeRequests, is_made_late, is_requesting, texts_of, refusals_in, entry_state}
use Rattle.lvm_top.specs.Clock.{GoesAsking, asked_by}
use Rattle.lvm_top.specs.Statuses.{GoesUntil}
use Rattle.lvm_top.specs.declared.script.Stop.{Stop}
use Rattle.lvm_top.specs.declared.script.Stop.TheVariants as stop
use Rattle.lvm_top.specs.Turn.{Wrote, EndsFor, KeepsFront, ReadsLine, ReadsNone, Tells}
use Rattle.lvm_line.specs.passed.ReplyVariants as reply

-- nothing was read yet
abbrev pub nothing_read : Reading
nothing_read = record { front = []; block = []; given = 0 }

-- what a run has done so far
pub record RunSoFar (log : Log) (room : Room) (first now : ScriptState) (reading : Reading) (input left before after : Option (List ℕ)) (refused lines_done : ℕ) : Type 0 where
  pub lines : List (List ℕ)
  pub replies : List Reply
  pub script : Script log room first lines replies now
  pub read : WhereTold (to_come nothing_read input) (to_come reading left) (λ a b. lines_of a ≡ lines ++ lines_of b)
  pub before_rest : WhereTold (to_come nothing_read input) (to_come reading left) (AreBefore lines)
  pub given : CountsGiven nothing_read reading input left
  pub written : WhereTold before after (λ a b. b ≡ a ++ texts_of replies)
  pub counted : refused ≡ refusals_in replies
  pub few : refused + length now.posts ≤ lines_done
  pub bounded : lines_left reading + lines_done ≤ 16842752
  pub within : reading.given ≤ 16777216

-- and for those lines the clock was asked alone
pub record AskedSoFar (log : Log) (room : Room) (first now : ScriptState) (reading : Reading) (input left before after : Option (List ℕ)) (refused lines_done asks asked : ℕ) : Type 0 where
  pub far : RunSoFar log room first now reading input left before after refused lines_done
  pub count : asked ≡ asked_by far.lines asks

asked_more : (lines : List (List ℕ)) (line : List ℕ) (n : ℕ) → asked_by (lines ++ line ∷ []) n ≡ asked_after (line_of line) (asked_by lines n)
asked_more [] line n = refl
asked_more (l ∷ lines) line n = asked_more lines line (asked_after (line_of l) n)

-- a stream before and after
abbrev pub through : Option (List ℕ) → ℕ → Option (List ℕ) → ℕ → Passage
through a f b g = record { before = record { content = a; faults = f }; after = record { content = b; faults = g } }

pub at_start : (log : Log) (room : Room) (first : ScriptState) (input before : Option (List ℕ)) → first.posts ≡ [] → RunSoFar log room first first nothing_read input input before before 0 0
at_start log room first input before none = record {
  lines = [];
  replies = [];
  script = NoLine;
  read = told_same (to_come nothing_read input) (λ a b. lines_of a ≡ lines_of b) (λ a. refl);
  before_rest = told_same (to_come nothing_read input) (AreBefore []) (λ a. inl refl);
  given = told_same input (λ a b. length a + 0 ≡ length b + 0) (λ a. refl);
  written = told_same before (λ a b. b ≡ a ++ []) (λ a. sym (append-nil a));
  counted = refl;
  few = let e : length first.posts ≡ 0 = ap (λ (l : List Post). length l) none in omega (arith, e);
  bounded = omega arith;
  within = omega arith;
}

pub asked_at_start : (log : Log) (room : Room) (first : ScriptState) (input before : Option (List ℕ)) (asks : ℕ) → first.posts ≡ [] → AskedSoFar log room first first nothing_read input input before before 0 0 asks asks
unfolding at_start
asked_at_start log room first input before asks none = record { far = at_start log room first input before none; count = refl }

texts_more : (replies : List Reply) (said : Reply) → texts_of (replies ++ said ∷ []) ≡ texts_of replies ++ reply_text said
texts_more [] said = append-nil (reply_text said)
texts_more (r ∷ replies) said = ap (λ (t : List ℕ). reply_text r ++ t) (texts_more replies said) ∙ sym (append_assoc (reply_text r) (texts_of replies) (reply_text said))

refusals_more : (replies : List Reply) (said : Reply) → refusals_in (replies ++ said ∷ []) ≡ refusals_in replies + refusals_of said
refusals_more replies said = sum_by-append refusals_of replies (said ∷ []) ∙ ap (λ (n : ℕ). refusals_in replies + n) (zero-add (refusals_of said))

-- what is written has as many refusals as the answer may have
pub said_few : (answer said : Reply) → Says answer said → refusals_of said ≤ most_refusals answer
said_few answer said (inl same) = subst (λ (r : Reply). refusals_of r ≤ most_refusals answer) (sym same) (its answer)
  where
    its : (r : Reply) → refusals_of r ≤ most_refusals r
    its reply.Silent = omega arith
    its _ = omega arith
said_few answer said (inr (late, is)) = subst (λ (r : Reply). refusals_of r ≤ most_refusals answer) (sym is) (one answer late)
  where
    one : (r : Reply) → IsTrue (is_made_late r) → 1 ≤ most_refusals r
    one (reply.Stepped turns) late = omega arith
    one (reply.Synced made) late = omega arith
    one (reply.Migrated moved) late = omega arith
    one (reply.Refused why) late = omega arith
    one _ late = absurd (cc (late))

-- one line more refuses as many lines more as posts go with it, and one
pub one_more : (refused refused' lines_done posts posts' : ℕ) (answer said : Reply) → Says answer said → refused' ≡ refused + refusals_of said → most_refusals answer + posts' ≤ posts + 1 → refused + posts ≤ lines_done → refused' + posts' ≤ lines_done + 1
one_more refused refused' lines_done posts posts' answer said says is one few = let most = said_few answer said says in omega (arith, is, one, few, most)

-- bytes that have no lines are none
some_lines : (front bytes : List ℕ) → (front ≡ [] → ⊥) → lines_from front bytes ≡ [] → ⊥
some_lines [] bytes some none = some refl
some_lines (f ∷ front) [] some none = cc (none)
some_lines (f ∷ front) (byte ∷ bytes) some none = by_feed (is_feed byte) (some_lines ((f ∷ front) ++ byte ∷ []) bytes (λ e. cc (e))) none
  where
    by_feed : (t : Bool) → (lines_from ((f ∷ front) ++ byte ∷ []) bytes ≡ [] → ⊥) → (if t then (f ∷ front) ∷ lines_from [] bytes else lines_from ((f ∷ front) ++ byte ∷ []) bytes) ≡ [] → ⊥
    by_feed true more none = cc (none)
    by_feed false more none = more none

no_lines : (bytes : List ℕ) → lines_of bytes ≡ [] → bytes ≡ []
no_lines [] none = refl
no_lines (byte ∷ bytes) none = absurd (by_feed (is_feed byte) none)
  where
    by_feed : (t : Bool) → (if t then [] ∷ lines_from [] bytes else lines_from (byte ∷ []) bytes) ≡ [] → ⊥
    by_feed true none = cc (none)
    by_feed false none = some_lines (byte ∷ []) bytes (λ e. cc (e)) none

no_more : {X : Type 0} (xs ys : List X) → xs ++ ys ≡ xs → ys ≡ []
no_more [] ys is = is
no_more (x ∷ xs) ys is = no_more xs ys (cc (is))

-- a line more of the bytes
joined_more : (lines : List (List ℕ)) (line rest : List ℕ) → joined lines ++ (line ++ 10 ∷ rest) ≡ joined (lines ++ line ∷ []) ++ rest
joined_more [] line rest = sym (append_assoc line (10 ∷ []) rest)
joined_more (l ∷ lines) line rest =
    append_assoc l (10 ∷ joined lines) (line ++ 10 ∷ rest) ∙ ap (λ (t : List ℕ). l ++ 10 ∷ t) (joined_more lines line rest) ∙ sym (append_assoc l (10 ∷ joined (lines ++ line ∷ [])) rest)

nothing_fed : (line rest : List ℕ) → line ++ 10 ∷ rest ≡ [] → ⊥
nothing_fed [] rest is = cc (is)
nothing_fed (byte ∷ line) rest is = cc (is)

one_before : (lines : List (List ℕ)) (line bytes mid rest : List ℕ) → AreBefore lines bytes mid → TakesFirst line mid rest → AreBefore (lines ++ line ∷ []) bytes rest
one_before lines line bytes mid rest (inl is) (clean, inl fed) = inl (is ∙ ap (λ (l : List ℕ). joined lines ++ l) fed ∙ joined_more lines line rest)
one_before lines line bytes mid rest (inl is) (clean, inr (all, none, some)) = inr (record { ended = lines; last = line; are = refl; is = is ∙ ap (λ (l : List ℕ). joined lines ++ l) all; some = some }, none)
one_before lines line bytes mid rest (inr (lacks, empty)) (clean, inl fed) = absurd (nothing_fed line rest (sym fed ∙ empty))
one_before lines line bytes mid rest (inr (lacks, empty)) (clean, inr (all, none, some)) = absurd (let e : length line ≡ 0 = ap length (sym all ∙ empty) in omega (arith, e, some))

module _ (log : Log) (room : Room) (first now : ScriptState) (reading : Reading) (input left before after : Option (List ℕ)) (refused lines_done : ℕ) (so_far : RunSoFar log room first now reading input left before after refused lines_done) where
  -- one line more was read, done and answered
  pub line_answered :
      (new : ScriptState) (reading' : Reading) (left' after' : Option (List ℕ)) (refused' : ℕ) (line : List ℕ) (answer said : Reply) → (IsStuck answer → ⊥) → Says answer said → IsLine log room line answer now new
      → WhereTold (to_come reading left) (to_come reading' left') (TakesFirst line) → CountsGiven reading reading' left left' → lines_left reading' < lines_left reading → reading'.given ≤ 16777216
      → WhereTold after after' (λ a b. b ≡ a ++ reply_text said) → refused' ≡ refused + refusals_of said → refused' + length new.posts ≤ lines_done + 1
      → RunSoFar log room first new reading' input left' before after' refused' (lines_done + 1)
  line_answered new reading' left' after' refused' line answer said goes says does read given fewer within written counts few = record {
    lines = so_far.lines ++ line ∷ [];
    replies = so_far.replies ++ said ∷ [];
    script = NextLine line answer said goes says so_far.script does;
    read = told_on (to_come nothing_read input) (to_come reading left) (to_come reading' left') _ _ (λ a b. lines_of a ≡ (so_far.lines ++ line ∷ []) ++ lines_of b)
        (λ a b c one two. one ∙ ap (λ (l : List (List ℕ)). so_far.lines ++ l) (first_of line b c two) ∙ sym (append_assoc so_far.lines (line ∷ []) (lines_of c))) so_far.read read;
    before_rest = told_on (to_come nothing_read input) (to_come reading left) (to_come reading' left') (AreBefore so_far.lines) (TakesFirst line) (AreBefore (so_far.lines ++ line ∷ [])) (one_before so_far.lines line) so_far.before_rest read;
    given = told_on input left left' _ _ (λ a b. length a + 0 ≡ length b + reading'.given) (λ a b c one two. omega (arith, one, two)) so_far.given given;
    written = told_on before after after' _ _ (λ a b. b ≡ a ++ texts_of (so_far.replies ++ said ∷ [])) (λ a b c one two. two ∙ ap (λ (t : List ℕ). t ++ reply_text said) one ∙ append_assoc a (texts_of so_far.replies) (reply_text said) ∙ ap (λ (t : List ℕ). a ++ t) (sym (texts_more so_far.replies said))) so_far.written written;
    counted = counts ∙ ap (λ (n : ℕ). n + refusals_of said) so_far.counted ∙ sym (refusals_more so_far.replies said);
    few = few;
    bounded = let b = so_far.bounded in omega (arith, b, fewer);
    within = within;
  }

  -- how much was read
  all_given : (reading' : Reading) (left' : Option (List ℕ)) → CountsGiven reading reading' left left' → WhereTold input left' (λ a b. length a + 0 ≡ length b + reading'.given)
  all_given reading' left' given = told_on input left left' _ _ (λ a b. length a + 0 ≡ length b + reading'.given) (λ a b c one two. omega (arith, one, two)) so_far.given given

  -- the lines so far, and no other
  pub lines_so_far : (unread : Stream) (f h k : ℕ) → AreDone log room first now (record { before = record { content = input; faults = f }; after = unread }) (through before h after k) refused
  lines_so_far unread f h k = record {
    lines = so_far.lines;
    replies = so_far.replies;
    mid = now;
    script = so_far.script;
    done = [];
    said = [];
    front = [];
    ends = AtLine refl;
    read = λ bytes is. begins_with bytes (to_come reading left) (subst (λ (o : Option (List ℕ)). WhereTold (to_come nothing_read o) (to_come reading left) (λ a b. lines_of a ≡ so_far.lines ++ lines_of b)) is so_far.read);
    written = told_on before after after _ (λ a b. b ≡ a) (λ a b. b ≡ (a ++ texts_of so_far.replies) ++ []) (λ a b c one two. two ∙ one ∙ sym (append-nil (a ++ texts_of so_far.replies))) so_far.written (told_same after (λ a b. b ≡ a) (λ a. refl));
    in_full = inl refl;
    counted = so_far.counted ∙ ap refusals_in (sym (append-nil so_far.replies));
  }
    where
      begins_with : (bytes : List ℕ) (now : Option (List ℕ)) → WhereTold (Some bytes) now (λ a b. lines_of a ≡ so_far.lines ++ lines_of b) → (rest : List (List ℕ)) × (lines_of bytes ≡ (so_far.lines ++ []) ++ rest)
      begins_with bytes (Some b) read = (lines_of b, read ∙ ap (λ (l : List (List ℕ)). l ++ lines_of b) (sym (append-nil so_far.lines)))
      begins_with bytes None read = absurd read

  -- the source has come to its end
  pub all_read : (reading' : Reading) (left' : Option (List ℕ)) (f g h k : ℕ) → WhereTold (to_come reading left) (to_come reading' left') (λ a b. (a ≡ []) × (b ≡ [])) → CountsGiven reading reading' left left' → reading'.given ≤ 16777216
      → AreAllRead (lines_so_far (record { content = left'; faults = g }) f h k) (through input f left' g)
  unfolding lines_so_far
  all_read reading' left' f g h k ends given within = (refl, go input left left' so_far.read ends (all_given reading' left' given))
    where
      nothing_left : (front block rest : List ℕ) → front ++ (block ++ rest) ≡ [] → rest ≡ []
      nothing_left [] [] rest is = is
      nothing_left [] (b ∷ block) rest is = absurd (cc (is))
      nothing_left (f ∷ front) block rest is = absurd (cc (is))

      go : (x y z : Option (List ℕ)) → WhereTold (to_come nothing_read x) (to_come reading y) (λ a b. lines_of a ≡ so_far.lines ++ lines_of b) → WhereTold (to_come reading y) (to_come reading' z) (λ a b. (a ≡ []) × (b ≡ [])) → WhereTold x z (λ a b. length a + 0 ≡ length b + reading'.given)
          → WhereTold x z (λ a b. (lines_of a ≡ so_far.lines) × (b ≡ []) × (length a ≤ 16777216))
      go None y None read ends count = tt
      go (Some a) (Some b) (Some c) read ends count =
          let none : c ≡ [] = nothing_left reading'.front reading'.block c ends.1 in
          (read ∙ ap (λ (l : List ℕ). so_far.lines ++ lines_of l) ends.0 ∙ append-nil so_far.lines, none, let e = ap length none in omega (arith, count, e, within))
      go None y (Some c) read ends count = absurd count
      go (Some a) y None read ends count = absurd count
      go (Some a) None (Some c) read ends count = absurd read

  -- memory was wanting for a line that has begun
  line_left : (reading' : Reading) (left' : Option (List ℕ)) (f g h k : ℕ) → WhereTold (to_come reading left) (to_come reading' left') (λ a b. (b ≡ a) × (a ≡ [] → ⊥)) → CountsGiven reading reading' left left' → IsLineLeft (lines_so_far (record { content = left'; faults = g }) f h k) (through input f left' g)
  unfolding lines_so_far
  line_left reading' left' f g h k some given = go input left left' so_far.read some (all_given reading' left' given)
    where
      go : (x y z : Option (List ℕ)) → WhereTold (to_come nothing_read x) (to_come reading y) (λ a b. lines_of a ≡ so_far.lines ++ lines_of b) → WhereTold (to_come reading y) (to_come reading' z) (λ a b. (b ≡ a) × (a ≡ [] → ⊥)) → WhereTold x z (λ a b. length a + 0 ≡ length b + reading'.given)
          → WhereTold x z (λ a b. lines_of a ≡ so_far.lines → ⊥)
      go None y None read some count = tt
      go (Some a) (Some b) (Some c) read some count = λ all. some.1 (no_lines (reading.front ++ (reading.block ++ b)) (no_more so_far.lines (lines_of (reading.front ++ (reading.block ++ b))) (sym read ∙ all)))
      go None y (Some c) read some count = absurd count
      go (Some a) y None read some count = absurd count
      go (Some a) None (Some c) read some count = absurd read

  -- no line that was read is left but for those that end in the last bytes of it
  kept_front : (most : ℕ) (reading' : Reading) (left' : Option (List ℕ)) (f g h k : ℕ) → KeepsFront most reading reading' (through left f left' g) → CountsGiven reading reading' left left'
      → AreDoneBut most (lines_so_far (record { content = left'; faults = g }) f h k) (through input f left' g)
  unfolding lines_so_far
  kept_front most reading' left' f g h k kept given = go input left left' so_far.before_rest kept.same (all_given reading' left' given)
    where
      go : (x y z : Option (List ℕ)) → WhereTold (to_come nothing_read x) (to_come reading y) (AreBefore so_far.lines) → WhereTold (to_come reading y) (to_come reading' z) (λ a b. b ≡ a) → WhereTold x z (λ a b. length a + 0 ≡ length b + reading'.given)
          → WhereTold x z (λ a b. ComesBehind so_far.lines most a b)
      go None y None are same count = tt
      go (Some a) (Some b) (Some c) are same count = record { front = reading'.front; block = reading'.block; clean = kept.clean; few = kept.few; whole = subst (AreBefore so_far.lines a) (sym same) are }
      go None y (Some c) are same count = absurd count
      go (Some a) y None are same count = absurd count
      go (Some a) None (Some c) are same count = absurd are

  -- the run stops between two lines
  pub stops_between :
      (why : Option Stop) (reading' : Reading) (left' : Option (List ℕ)) (f g h k : ℕ) → CountsGiven reading reading' left left' → (why ≡ Some stop.TooLong) ↔ (16777216 < reading'.given) → (why ≡ Some stop.SinkFault → ⊥) → (why ≡ Some stop.Stuck → ⊥)
      → (why ≡ None → WhereTold (to_come reading left) (to_come reading' left') (λ a b. (a ≡ []) × (b ≡ []))) → (why ≡ Some stop.SourceFault → Rose f g) → ((why ≡ Some stop.SourceFault → ⊥) → g ≡ f) → k ≡ h
      → (why ≡ Some stop.Memory → WhereTold (to_come reading left) (to_come reading' left') (λ a b. (b ≡ a) × (a ≡ [] → ⊥)))
      → (why ≡ Some stop.SourceFault → KeepsFront 0 reading reading' (through left f left' g)) → ((why ≡ Some stop.TooLong) ⊎ (why ≡ Some stop.Memory) → KeepsFront 65536 reading reading' (through left f left' g))
      → GoesUntil why log room first now (through input f left' g) (through before h after k) refused
  unfolding lines_so_far
  stops_between why reading' left' f g h k given too_long no_sink no_stuck ends source read_well written_well some behind beyond = record {
    lines = lines_so_far (record { content = left'; faults = g }) f h k;
    whole = λ is. all_read reading' left' f g h k (ends is) given (within (λ long. cc (is, long)));
    between = λ no_sink no_stuck. refl;
    wanting = λ is. line_left reading' left' f g h k (some is) given;
    behind = λ is. kept_front 0 reading' left' f g h k (behind is) given;
    beyond = λ cause. kept_front 65536 reading' left' f g h k (beyond cause) given;
    source = source;
    sink = λ is. absurd (no_sink is);
    read_well = read_well;
    written_well = λ no_sink no_stuck. written_well;
    stuck = λ is. absurd (no_stuck is);
    heard = λ other. tt;
    long = λ is. told_more input left' _ (λ a b. 16777216 + length b < length a) (λ a b e. let over = too_long.0 is in omega (arith, e, over)) (all_given reading' left' given);
    short = λ not_long. told_more input left' _ (λ a b. length a ≤ 16777216 + length b) (λ a b e. let fits = within not_long in omega (arith, e, fits)) (all_given reading' left' given);
  }
    where
      within : (why ≡ Some stop.TooLong → ⊥) → reading'.given ≤ 16777216
      within not_long = elim (cases_lt 16777216 reading'.given) [ inl over ↦ absurd (not_long (too_long.1 over)) | inr fits ↦ fits ]

  -- the run stops in one line more
  pub stops_in_line :
      (why : Option Stop) (last : ScriptState) (reading' : Reading) (left' after' : Option (List ℕ)) (f g h k refused' : ℕ) (line : List ℕ) (answer said : Reply) (text : Wrote (reply_text said) (through after h after' k)) → Says answer said → IsLine log room line answer now last
      → WhereTold (to_come reading left) (to_come reading' left') (TakesFirst line) → CountsGiven reading reading' left left' → reading'.given ≤ 16777216 → refused' ≡ refused + refusals_of said
      → (why ≡ None → ⊥) → (why ≡ Some stop.SourceFault → ⊥) → (why ≡ Some stop.TooLong → ⊥) → ((why ≡ Some stop.SinkFault → ⊥) → why ≡ Some stop.Stuck) → (why ≡ Some stop.SinkFault → Rose h k) → (why ≡ Some stop.Stuck → IsStuck answer) → (IsStuck answer → why ≡ Some stop.Stuck) → g ≡ f
      → GoesUntil why log room first last (through input f left' g) (through before h after' k) refused'
  stops_in_line why last reading' left' after' f g h k refused' line answer said text says does read given within counts not_end no_source not_long either sink stuck stuck_so well = record {
    lines = record {
      lines = so_far.lines;
      replies = so_far.replies;
      mid = now;
      script = so_far.script;
      done = line ∷ [];
      said = said ∷ [];
      front = text.front;
      ends = InLine line answer said text.front text.rest says text.split does;
      read = λ bytes is. begins_with bytes (to_come reading left) (to_come reading' left') (subst (λ (o : Option (List ℕ)). WhereTold (to_come nothing_read o) (to_come reading left) (λ a b. lines_of a ≡ so_far.lines ++ lines_of b)) is so_far.read) read;
      written = told_on before after after' _ _ (λ a b. b ≡ (a ++ texts_of so_far.replies) ++ text.front) (λ a b c one two. two ∙ ap (λ (t : List ℕ). t ++ text.front) one) so_far.written text.written;
      in_full = ⊎_elim (λ is. inl (is ∙ sym (append-nil (reply_text said)))) (λ rose. inr rose) text.in_full;
      counted = counts ∙ ap (λ (n : ℕ). n + refusals_of said) so_far.counted ∙ sym (refusals_more so_far.replies said);
    };
    whole = λ is. absurd (not_end is);
    between = λ no_sink no_stuck. absurd (no_stuck (either no_sink));
    wanting = λ is. absurd (let stuck_too = either (λ sink_too. cc (is, sink_too)) in cc (is, stuck_too));
    behind = λ is. absurd (no_source is);
    beyond = λ cause. absurd (⊎_elim not_long (λ is. let stuck_too = either (λ sink_too. cc (is, sink_too)) in cc (is, stuck_too)) cause);
    source = λ is. absurd (no_source is);
    sink = sink;
    read_well = λ no_source. well;
    written_well = λ no_sink no_stuck. absurd (no_stuck (either no_sink));
    stuck = stuck;
    heard = λ other stuck. other (stuck_so stuck);
    long = λ is. absurd (not_long is);
    short = λ not_long. told_more input left' _ (λ a b. length a ≤ 16777216 + length b) (λ a b e. omega (arith, e, within)) (all_given reading' left' given);
  }
    where
      begins_with : (bytes : List ℕ) (y z : Option (List ℕ)) → WhereTold (Some bytes) y (λ a b. lines_of a ≡ so_far.lines ++ lines_of b) → WhereTold y z (TakesFirst line) → (rest : List (List ℕ)) × (lines_of bytes ≡ (so_far.lines ++ line ∷ []) ++ rest)
      begins_with bytes (Some b) (Some c) one two = (lines_of c, one ∙ ap (λ (l : List (List ℕ)). so_far.lines ++ l) (first_of line b c two) ∙ sym (append_assoc so_far.lines (line ∷ []) (lines_of c)))
      begins_with bytes None z one two = absurd one
      begins_with bytes (Some b) None one two = absurd two

  -- ---- one line more, as it was read and its reply written

  module _ (asks asked : ℕ) (so_asked : asked ≡ asked_by so_far.lines asks) where
    -- none was read
    pub none_read : (why : Option Stop) (reading' : Reading) (left' : Option (List ℕ)) (f g h k : ℕ) → k ≡ h → ReadsNone reading reading' (through left f left' g) why → GoesAsking why log room first now (through input f left' g) (through before h after k) refused asks asked
    unfolding stops_between lines_so_far
    none_read why reading' left' f g h k same none = record {
      goes = stops_between why reading' left' f g h k none.given none.long none.unwritten none.unstuck none.ends none.failed none.well same none.wanting none.behind none.beyond;
      asked = so_asked ∙ ap (λ (ls : List (List ℕ)). asked_by ls asks) (sym (append-nil so_far.lines));
    }

    one_asked : (line : List ℕ) (asked' : ℕ) → asked' ≡ asked_after (line_of line) asked → asked' ≡ asked_by (so_far.lines ++ line ∷ []) asks
    one_asked line asked' is = is ∙ ap (asked_after (line_of line)) so_asked ∙ sym (asked_more so_far.lines line asks)

    -- the run goes on
    pub line_told :
        (new : ScriptState) (reading' : Reading) (left' after' : Option (List ℕ)) (f g h k refused' asked' : ℕ) (line : List ℕ) (answer : Reply) (why : Option Stop) → is_some why ≡ false → IsLine log room line answer now new → asked' ≡ asked_after (line_of line) asked
        → ReadsLine reading reading' (through left f left' g) line → Tells answer refused refused' (through after h after' k) why → AskedSoFar log room first new reading' input left' before after' refused' (lines_done + 1) asks asked'
    unfolding line_answered
    line_told new reading' left' after' f g h k refused' asked' line answer (Some why) none does is read tells = absurd (cc (none))
    line_told new reading' left' after' f g h k refused' asked' line answer None none does is read tells =
        let on = tells.goes_on refl in
        record {
          far = line_answered new reading' left' after' refused' line answer tells.said (λ is. (let e = tells.stuck.1 is in cc (e))) tells.says does read.line_is read.given read.fewer read.within on.whole tells.counted (one_more refused refused' lines_done (length now.posts) (length new.posts) answer tells.said tells.says tells.counted does.goes.few so_far.few);
          count = one_asked line asked' is;
        }

    -- it ends
    pub line_ends :
        (last : ScriptState) (reading' : Reading) (left' after' : Option (List ℕ)) (f g h k refused' asked' : ℕ) (line : List ℕ) (answer : Reply) (why : Option Stop) → is_some why ≡ true → IsLine log room line answer now last → asked' ≡ asked_after (line_of line) asked
        → ReadsLine reading reading' (through left f left' g) line → Tells answer refused refused' (through after h after' k) why → GoesAsking why log room first last (through input f left' g) (through before h after' k) refused' asks asked'
    unfolding stops_in_line
    line_ends last reading' left' after' f g h k refused' asked' line answer None some does is read tells = absurd (cc (some))
    line_ends last reading' left' after' f g h k refused' asked' line answer (Some why) some does is read tells = ended tells.ends
      where
        ended : EndsFor (through after h after' k) why → GoesAsking (Some why) log room first last (through input f left' g) (through before h after' k) refused' asks asked'
        ended (inl end) = record {
          goes = stops_in_line (Some why) last reading' left' after' f g h k refused' line answer tells.said tells.text tells.says does read.line_is read.given read.within tells.counted
              (λ e. cc (e)) (λ e. cc (e, end)) (λ e. cc (e, end)) (λ no. ap Some end) (λ e. absurd (cc (e, end))) tells.stuck.0 tells.stuck.1 read.well;
          asked = one_asked line asked' is;
        }
        ended (inr (end, rose)) = record {
          goes = stops_in_line (Some why) last reading' left' after' f g h k refused' line answer tells.said tells.text tells.says does read.line_is read.given read.within tells.counted
              (λ e. cc (e)) (λ e. cc (e, end)) (λ e. cc (e, end)) (λ no. absurd (no (ap Some end))) (λ e. rose) tells.stuck.0 tells.stuck.1 read.well;
          asked = one_asked line asked' is;
        }

-- ---- requests among the lines

more_requests : (lines more : List (List ℕ)) → MakeRequests lines → MakeRequests (lines ++ more)
more_requests [] more some = absurd (cc (some))
more_requests (line ∷ lines) more some = by (is_requesting (role_of (line_of line))) some (more_requests lines more)
  where
    by : (t : Bool) → IsTrue (t || list_any (λ l. is_requesting (role_of (line_of l))) lines) → (MakeRequests lines → MakeRequests (lines ++ more)) → IsTrue (t || list_any (λ l. is_requesting (role_of (line_of l))) (lines ++ more))
    by true some rest = refl
    by false some rest = rest some

last_requests : (lines : List (List ℕ)) (line : List ℕ) → IsTrue (is_requesting (role_of (line_of line))) → MakeRequests (lines ++ line ∷ [])
last_requests [] line its = ap (λ (t : Bool). t || false) its
last_requests (other ∷ lines) line its = by (is_requesting (role_of (line_of other))) (last_requests lines line its)
  where
    by : (t : Bool) → MakeRequests (lines ++ line ∷ []) → IsTrue (t || list_any (λ l. is_requesting (role_of (line_of l))) (lines ++ line ∷ []))
    by true rest = refl
    by false rest = rest

-- such a line
asks : (role : Role) → IsRequesting role → IsTrue (is_requesting role)
asks Aside asking = absurd asking
asks OfGroup asking = absurd asking
asks OfRequests asking = refl

no_requests : (lines : List (List ℕ)) (line : List ℕ) → (MakeRequests (lines ++ line ∷ []) → ⊥) → IsRequesting (role_of (line_of line)) → ⊥
no_requests lines line none asking = none (last_requests lines line (asks (role_of (line_of line)) asking))

-- ---- what a run upholds

-- From one state to a later one, where the clock is ahead of each crash image at the first: it stays ahead; where no other group was found at a line that asks for
-- one, a span goes on, and the disks go on standing by the session. No transfer goes to a slot of descriptors where none did, and nothing is under way where no line
-- made requests.
pub record Went (run : ℕ) (Alone Requests : Type 0) (first last : ScriptState) : Type 0 where
  pub timely : IsTimely run first → IsTimely run last
  pub keeps : IsTimely run first → Alone → (begun : Moment) → Keeps run begun first.moment → StandsBy run begun first → Keeps run begun last.moment × StandsBy run begun last
  pub leaves : LeavesDescriptors first.moment.device → LeavesDescriptors last.moment.device
  pub rests : (Requests → ⊥) → IsAtRest first → IsAtRest last
  pub waits : first.moment.device.counts.waits ≤ last.moment.device.counts.waits
  pub power : first.moment.device.power ≡ true → last.moment.device.power ≡ true
  pub clock : first.last ≤ last.last

pub script_went : (log : Log) (room : Room) (first : ScriptState) {lines : List (List ℕ)} {replies : List Reply} {last : ScriptState} (script : Script log room first lines replies last) → Went log.run (StaysAlone script) (MakeRequests lines) first last
script_went log room first NoLine =
    record { timely = λ timely. timely; keeps = λ timely alone begun span stands. (span, stands); leaves = λ leaves. leaves; rests = λ none rest. rest; waits = omega arith; power = λ on. on; clock = omega arith }
script_went log room first (NextLine {lines = lines} {mid = mid} {new = new} line answer said heard says script it) =
    let went = script_went log room first script in
    record {
      timely = λ timely. it.goes.timely heard (went.timely timely);
      keeps = λ timely alone begun span stands.
          let so_far = went.keeps timely alone.0 begun span stands in
          let next = it.goes.keeps (went.timely timely) alone.1 begun so_far.0 so_far.1 in
          (next.0, next.1 heard);
      leaves = λ leaves. (it.goes.between heard).descriptors;
      rests = λ none rest. it.goes.rests (no_requests lines line none) heard (went.rests (λ some. none (more_requests lines (line ∷ []) some)) rest);
      waits = let a = went.waits in let b = it.goes.waits in omega (arith, a, b);
      power = λ on. it.goes.power;
      clock = let a = went.clock in let b = it.goes.clock in omega (arith, a, b);
    }

-- the same to a run's last state, behind which nothing may have been heard of a transfer
pub record Ended (run : ℕ) (Alone Requests Heard : Type 0) (first last : ScriptState) : Type 0 where
  pub left : IsTimely run first → IsAhead run (last.last + 1) last.moment.device last.moment.facts
  pub timely : Heard → IsTimely run first → IsTimely run last
  pub keeps : IsTimely run first → Alone → (begun : Moment) → Keeps run begun first.moment → StandsBy run begun first → Keeps run begun last.moment × (Heard → StandsBy run begun last)
  pub rests : Heard → (Requests → ⊥) → IsAtRest first → IsAtRest last
  pub leaves : Heard → LeavesDescriptors first.moment.device → LeavesDescriptors last.moment.device
  pub power : first.moment.device.power ≡ true → last.moment.device.power ≡ true
  pub clock : first.last ≤ last.last

-- what is ahead of each crash image is ahead of the disks
pub timely_ahead : (run : ℕ) (s : ScriptState) → IsTimely run s → IsAhead run (s.last + 1) s.moment.device s.moment.facts
timely_ahead run s timely = record { run_is = timely.ahead.run_is; later = timely.ahead.later; behind = each_is_behind (s.last + 1) s.moment.device timely.ahead.behind }

ends_went : (log : Log) (room : Room) (Alone : Type 0) (lines : List (List ℕ)) (first mid last : ScriptState) {done : List (List ℕ)} {said : List Reply} {front : List ℕ} → Went log.run Alone (MakeRequests lines) first mid → (ends : Ends log room mid last done said front)
    → Ended log.run (Alone × EndsAlone ends) (MakeRequests (lines ++ done)) (EndsHeard ends) first last
ends_went log room Alone lines first mid last went (AtLine is) = record {
  left = λ timely. timely_ahead log.run last (subst (IsTimely log.run) (sym is) (went.timely timely));
  timely = λ heard timely. subst (IsTimely log.run) (sym is) (went.timely timely);
  keeps = λ timely alone begun span stands.
      let kept = went.keeps timely alone.0 begun span stands in
      (subst (λ (s : ScriptState). Keeps log.run begun s.moment) (sym is) kept.0, λ heard. subst (λ (s : ScriptState). StandsBy log.run begun s) (sym is) kept.1);
  rests = λ heard none rest. subst IsAtRest (sym is) (went.rests (λ some. none (more_requests lines [] some)) rest);
  leaves = λ heard leaves. subst (λ (s : ScriptState). LeavesDescriptors s.moment.device) (sym is) (went.leaves leaves);
  power = λ on. subst (λ (s : ScriptState). s.moment.device.power ≡ true) (sym is) (went.power on);
  clock = subst (λ (s : ScriptState). first.last ≤ s.last) (sym is) went.clock;
}
ends_went log room Alone lines first mid last went (InLine line answer said front rest says split it) = record {
  left = λ timely. it.goes.left (went.timely timely);
  timely = λ heard timely. it.goes.timely heard (went.timely timely);
  keeps = λ timely alone begun span stands.
      let so_far = went.keeps timely alone.0 begun span stands in
      it.goes.keeps (went.timely timely) alone.1 begun so_far.0 so_far.1;
  rests = λ heard none rest. it.goes.rests (no_requests lines line none) heard (went.rests (λ some. none (more_requests lines (line ∷ []) some)) rest);
  leaves = λ heard leaves. (it.goes.between heard).descriptors;
  power = λ on. it.goes.power;
  clock = let a = went.clock in let b = it.goes.clock in omega (arith, a, b);
}

pub lines_ended : (log : Log) (room : Room) (first last : ScriptState) (input output : Passage) (refused : ℕ) (lines : AreDone log room first last input output refused)
    → Ended log.run (StaysAlone lines.script × EndsAlone lines.ends) (MakeRequests (lines.lines ++ lines.done)) (EndsHeard lines.ends) first last
lines_ended log room first last input output refused lines = ends_went log room (StaysAlone lines.script) lines.lines first lines.mid last (script_went log room first lines.script) lines.ends

-- a run that has done no line
pub nothing_done : (log : Log) (room : Room) (first : ScriptState) (input output : Stream) → first.posts ≡ [] → AreDone log room first first (record { before = input; after = input }) (record { before = output; after = output }) 0
nothing_done log room first input output none =
    lines_so_far log room first first nothing_read input.content input.content output.content output.content 0 0 (at_start log room first input.content output.content none) input input.faults output.faults output.faults

-- in which no line was broken off
pub nothing_broken : (log : Log) (room : Room) (first : ScriptState) (input output : Stream) (none : first.posts ≡ []) → (nothing_done log room first input output none).done ≡ []
unfolding nothing_done lines_so_far
nothing_broken log room first input output none = refl

-- nor is a line left of what was read
pub nothing_left : (log : Log) (room : Room) (first : ScriptState) (input output : Stream) (none : first.posts ≡ []) (most : ℕ) → AreDoneBut most (nothing_done log room first input output none) (record { before = input; after = input })
unfolding nothing_done lines_so_far at_start
nothing_left log room first input output none most = told_same input.content (λ a b. ComesBehind [] most a b) (λ a. record { front = []; block = []; clean = refl; few = omega arith; whole = inl refl })

-- nor was anything not heard of
pub nothing_heard : (log : Log) (room : Room) (first : ScriptState) (input output : Stream) (none : first.posts ≡ []) → EndsHeard (nothing_done log room first input output none).ends
unfolding nothing_done lines_so_far
nothing_heard log room first input output none = tt

-- ---- runs

-- The run's moment is later than what stands on the disks at its beginning, where nothing is out, so the clock is ahead of each crash image.
pub begins_timely : (run : ℕ) (device : Device) → device.flights ≡ [] → StampsAreEarlier run device → IsTimely run (entry_state device run)
begins_timely run device still behind = record {
  ahead = record { run_is = omega arith; later = tt; behind = still_is_behind_each (run + 1) device still (later_is_ahead_too run (run + 1) device (omega arith) behind) };
  session = tt;
}
