-- A trace that is judged while it is read.
use Rattle.std.proofs.Common.{◌≡◌, ℕ, ◌+◌, ◌<◌, ◌≤◌, Bool, true, false, List, [], ◌∷◌, ◌++◌, ◌⊎◌, length, take, length-append, inl, inr}
use Rattle.std.proofs.Common.{String, Global, string_bytes, Option, None, Some, Result, Ok, Err, IfOk, refl, sym, ap, ◌∙◌, subst, arith}
use Rattle.std.proofs.lemmas.List.{append-nil, length-take, length-take-le, take-append-le}
use Rattle.std.proofs.Math.Seq.{take-append_seam}
use Rattle.std.specs.Result.{IsErrOf}
use Rattle.ol_io.specs.declared.calls.ReadAll.{ReadAll}
use Rattle.ol_io.specs.declared.calls.ReadAll.TheVariants as read
use Rattle.ol_io.specs.Outside.{Consumed, Counts, IsUsedUp, Rose}
use Rattle.ol_io.specs.Readings.{AreOfSince, Reading, gave, closed, IsReadOf}
use Rattle.ol_limits.specs.Limits.{most_journal_bytes}
use Rattle.ol_io.proofs.Readings.{Consumed-more, front-Consumed, front-nothing, gave-more, gave-nothing, IsAllOf-read}
use Rattle.ol_net.specs.Graph.{Graph}
use Rattle.ol_subjects.specs.declared.layouts.Layout.{Layout}
use Rattle.ol_subjects.specs.declared.layouts.Layout.TheVariants.{Lines, Object}
use Rattle.ol_limits.specs.declared.NoMemory.{NoMemory}
use Rattle.ol_subjects.specs.declared.answers.Answer.{Answer}
use Rattle.ol_subjects.specs.declared.answers.End.{End}
use Rattle.ol_subjects.specs.declared.answers.End.TheVariants.{Refused}
use Rattle.ol_subjects.specs.declared.subjects.Subject as of
use Rattle.ol_subjects.specs.Subjects.{IsSubject, Refuses}
use Rattle.ol_view.specs.declared.answers.Check.{Check}
use Rattle.ol_view.specs.declared.feeding.Checker.{Checker}
use Rattle.ol_view.specs.Checks.{start_net_of_graph, OnlyIsFound}
use Rattle.ol_view.specs.Feeding.{IsAnswered, IsFed}
use Rattle.ol_explain.specs.Judged as judged
use Rattle.ol_explain.specs.Judged.{end_of}
use Rattle.ol_explain.specs.Objects as object
use Rattle.ol_explain.specs.Objects.{found_in}
use Rattle.ol_bench.specs.declared.asked.Content.TheVariants.{Journal, Subject}
use Rattle.ol_bench.specs.declared.asked.Given.{Given}
use Rattle.ol_bench.specs.declared.asked.Given.TheVariants as given
use Rattle.ol_bench.specs.declared.asked.OnTwo.{OnTwo}
use Rattle.ol_bench.specs.declared.asked.OnTwo.TheVariants as two
use Rattle.ol_bench.specs.Commands.{IsCauseOfWhole, IsCauseOnward, ReadsOnward, ReadsTwo, as_check, contents_of}
use Rattle.ol_bench.specs.Inputs.{Files, IsAllWithin, IsNamed, most_of, told_of}
use Rattle.ol_bench.specs.Traces.{ComesOfTrace, IsJudgedIn, IsOpenAfter, IsOpenAtLimit, IsOpenBeforeLast, IsReadNoFurther, most_read_ahead}
use Rattle.ol_bench.specs.Traces.{fault, too_long, whole, by_prefix}
use Rattle.ol_bench.specs.Piecewise.{IsFoundBy, judging_failed, Judges, AnswersCheck}
use Rattle.ol_bench.specs.Taking.{IsReadOnce, IsRefusal}
use Rattle.ol_bench.proofs.OpenAfter.{open_fed, open_read}

-- ---- on the way

-- These bytes were given so far, and fed to the checker.
pub record GivenSoFar (net : Graph) (left0 left : Option (List ℕ)) (old new : List Reading) (given : ℕ) (c : Checker)
    : Type 0 where
  pub front : List ℕ
  pub counted : given ≡ length front
  pub fed : IsFed net front c
  pub taken : Consumed left0 front left
  pub grown : new ≡ gave front old

-- one piece more
pub piece_given : (net : Graph) (left0 left left' : Option (List ℕ)) (old mid new : List Reading) (given : ℕ)
    (c c' : Checker) (piece : List ℕ) (n : ℕ) → (h : GivenSoFar net left0 left old mid given c) →
    Consumed left piece left' → new ≡ gave piece mid → length piece ≡ n → IsFed net (h.front ++ piece) c' →
    GivenSoFar net left0 left' old new (given + n) c'
piece_given net left0 left left' old mid new given c c' piece n h took more long fed = record {
  front = h.front ++ piece;
  counted = let q = h.counted in omega (arith, length-append h.front piece);
  fed = fed;
  taken = Consumed-more left0 left left' h.front piece h.taken took;
  grown = more ∙ ap (gave piece) h.grown ∙ gave-more h.front piece old;
}

-- what is answered to the front of a buffer
pub answered_with : (net : Graph) (text buf rest : List ℕ) (n : ℕ) (found told : Option Check) (c : Checker) →
    n ≤ length buf → IsAnswered net (text ++ take n (buf ++ rest)) found c → found ≡ told →
    IsAnswered net (text ++ take n buf) told c
answered_with net text buf rest n found told c within h is =
    subst (λ found. IsAnswered net (text ++ take n buf) found c) is
    (subst (λ piece. IsAnswered net (text ++ piece) found c) (take-append-le n buf rest within) h)

-- a read into the first bytes of a buffer gave so many
pub read_short : (asked count : ℕ) (buf new : List ℕ) → count ≤ length (take asked buf) → count ≤ length new →
    (count ≤ asked) × (length (take count new) ≡ count)
read_short asked count buf new within room =
    (let l = length-take asked buf in omega (arith, l, within), length-take-le count new room)

-- ---- what is answered

module _ (net : Graph) (left0 left left' : Option (List ℕ)) (old mid new : List Reading) (given : ℕ) (c : Checker)
    (h : GivenSoFar net left0 left old mid given c) (ended : Bool) (result : Result Check ReadAll) where
  -- the end came
  pub judged_at_end : IsUsedUp left → new ≡ closed true mid → ended ≡ true →
      IfOk result (λ check. IsFoundBy net ended h.front check) →
      (IsErrOf result read.TooLong → ⊥) → Judges net left0 ended old new result
  judged_at_end used close at_end found not_long = record {
    front = h.front;
    grown = rw at_end (close ∙ ap (closed true) h.grown);
    told = rw at_end (all_read left0 left h.taken used);
    found = found;
    long = λ z. absurd (not_long z);
    needed = inr (h.front, [], sym (append-nil h.front), omega arith, open_fed net h.front c h.fed);
  }
    where
      all_read : (left0 left : Option (List ℕ)) → Consumed left0 h.front left → IsUsedUp left →
          IsReadOf left0 true h.front
      all_read None left t u = tt
      all_read (Some xs) None t u = absurd (cc)
      all_read (Some xs) (Some ys) (rest, e, q) u =
          let none : rest ≡ [] = (let z : ys ≡ rest = cc in sym z ∙ u) in
          sym (q ∙ ap (λ bs. h.front ++ bs) none ∙ append-nil h.front)

  -- a piece came
  pub judged_with : (piece : List ℕ) → Consumed left piece left' → new ≡ gave piece mid → ended ≡ false →
      length piece ≤ most_read_ahead → IfOk result (λ check. IsFoundBy net ended (h.front ++ piece) check) →
      (IsErrOf result read.TooLong → (given ≡ most_journal_bytes) × (0 < length piece)) →
      Judges net left0 ended old new result
  judged_with piece took more begun within found long = record {
    front = h.front ++ piece;
    grown = rw begun (more ∙ ap (gave piece) h.grown ∙ gave-more h.front piece old);
    told = rw begun (front-Consumed left0 (h.front ++ piece) left'
        (Consumed-more left0 left left' h.front piece h.taken took));
    found = found;
    long = λ z. open_at_limit (sym h.counted ∙ (long z).0) (long z).1;
    needed = inr (h.front, piece, refl, within, open_fed net h.front c h.fed);
  }
    where
      open_at_limit : length h.front ≡ most_journal_bytes → 0 < length piece → IsOpenAtLimit net (Some (h.front ++ piece))
      open_at_limit full some = (
        (let l = length-append h.front piece in omega (arith, l, full, some)),
        subst (IsOpenAfter net) (sym (subst (λ n. take n (h.front ++ piece) ≡ h.front) full
            (take-append_seam h.front piece))) (open_fed net h.front c h.fed),
      )

  -- a call failed
  pub judged_fault : new ≡ mid → ended ≡ false → IfOk result (λ check. IsFoundBy net ended h.front check) →
      (IsErrOf result read.TooLong → ⊥) → Judges net left0 ended old new result
  judged_fault same begun found not_long = record {
    front = h.front;
    grown = rw begun (same ∙ h.grown);
    told = rw begun (front-Consumed left0 h.front left h.taken);
    found = found;
    long = λ z. absurd (not_long z);
    needed = inr (h.front, [], sym (append-nil h.front), omega arith, open_fed net h.front c h.fed);
  }

-- ---- what comes of a trace

-- what was read to the end was read
front_read : (file : Option (List ℕ)) (ended : Bool) (front : List ℕ) → IsReadOf file ended front →
    IsReadOf file false front
front_read None ended front h = tt
front_read (Some all) true front h = ([], sym (append-nil front ∙ h))
front_read (Some all) false front h = h

-- a net that is found, and one that is refused
pub judged_in : (layout : Layout) (bytes journal text : List ℕ) (s : of.Subject) (g : Graph) (check : Check) (e : End) →
    IsSubject s bytes g → OnlyIsFound (start_net_of_graph g) journal check → text ≡ found_in layout check →
    e ≡ end_of check → IsJudgedIn layout bytes journal text s e
judged_in Lines bytes journal text s g check e is found told end =
    subst (λ e. judged.IsJudged bytes journal text s e) (sym end) (judged.found check is found told)
judged_in Object bytes journal text s g check e is found told end =
    subst (λ e. object.IsJudgedObject bytes journal text s e) (sym end) (object.found check is found told)

pub refused_in : (layout : Layout) (bytes journal text : List ℕ) (s : of.Subject) → Refuses s bytes text →
    IsJudgedIn layout bytes journal text s Refused
refused_in Lines bytes journal text s h = judged.refused h
refused_in Object bytes journal text s h = object.refused h

-- the first file is refused, whatever the trace has
pub cause_refused : (layout : Layout) (bytes : List ℕ) (s : of.Subject) (file : Option (List ℕ)) (faults : ℕ)
    (text : List ℕ) (ended : Bool) → Refuses s bytes text → IsReadOf file ended [] →
    ComesOfTrace layout s bytes file faults faults text Refused
cause_refused layout bytes s file faults text ended h r =
    by_prefix refl ([], omega arith, front_read file ended [] r, λ rest. refused_in layout bytes rest text s h)

-- this is found
pub cause_found : (layout : Layout) (bytes : List ℕ) (s : of.Subject) (file : Option (List ℕ)) (faults faults' : ℕ)
    (text : List ℕ) (e : End) (ended : Bool) (front : List ℕ) (g : Graph) (check : Check) → IsSubject s bytes g →
    IsFoundBy g ended front check → faults' ≡ faults → text ≡ found_in layout check → e ≡ end_of check →
    IsReadOf file ended front → ComesOfTrace layout s bytes file faults faults' text e
cause_found layout bytes s file faults faults' text e ended front g check is (short, inl fixed) stay told end r =
    by_prefix stay (
      front,
      short,
      front_read file ended front r,
      λ rest. judged_in layout bytes (front ++ rest) text s g check e is (fixed rest) told end,
    )
cause_found layout bytes s file faults faults' text e ended front g check is (short, inr h) stay told end r =
    whole front stay
    (IsAllOf-read file front (subst (λ ended. IsReadOf file ended front) h.0 r), short)
    (judged_in layout bytes front text s g check e is h.1 told end)

-- the trace couldn't be begun
pub cause_unbegun : (layout : Layout) (bytes : List ℕ) (s : of.Subject) (file : Option (List ℕ)) (faults faults' : ℕ)
    (text : List ℕ) (e : End) → Rose faults faults' → IsRefusal read.Fault Journal text → e ≡ Refused →
    ComesOfTrace layout s bytes file faults faults' text e
cause_unbegun layout bytes s file faults faults' text e rose line end =
    subst (λ e. ComesOfTrace layout s bytes file faults faults' text e) (sym end) (fault rose line)

-- nothing is
pub cause_unread : (layout : Layout) (bytes : List ℕ) (s : of.Subject) (file : Option (List ℕ)) (faults faults' : ℕ)
    (text : List ℕ) (e : End) (ended : Bool) (front : List ℕ) (g : Graph) (why : ReadAll) → IsSubject s bytes g →
    Counts (judging_failed (Err why)) faults faults' →
    (IsErrOf {T = Check} {E = ReadAll} (Err why) read.TooLong → IsOpenAtLimit g (Some front)) →
    IsRefusal why Journal text → e ≡ Refused → IsReadOf file ended front →
    ComesOfTrace layout s bytes file faults faults' text e
cause_unread layout bytes s file faults faults' text e ended front g why is counts long line end r =
    subst (λ e. ComesOfTrace layout s bytes file faults faults' text e) (sym end) (go why counts long line)
  where
    go : (why : ReadAll) → Counts (judging_failed (Err why)) faults faults' →
        (IsErrOf {T = Check} {E = ReadAll} (Err why) read.TooLong → IsOpenAtLimit g (Some front)) →
        IsRefusal why Journal text → ComesOfTrace layout s bytes file faults faults' text Refused
    go read.Fault counts long line = fault counts line
    go read.TooLong counts long line =
        too_long counts is (open_read g file ended front r (long refl)) line
    go read.NoMemory counts long line = absurd line

-- ---- a call that is answered

pub both_ok : {T E : Type 0} (result : Result T E) (P Q R : T → Type 0) → IfOk result P → IfOk result Q →
    ((a : T) → P a → Q a → R a) → IfOk result R
both_ok (Ok a) P Q R p q h = h a p q
both_ok (Err x) P Q R p q h = tt

module _ (bytes : List ℕ) (s : of.Subject) (layout : Layout) (left : Option (List ℕ)) (ended : Bool)
    (faults faults' : ℕ) where
  pub answers_nothing : (old : List Reading) (result : Result Answer NoMemory) → ended ≡ false →
      ((file : Option (List ℕ)) → IsReadOf file ended [] →
      IfOk result (λ a. ComesOfTrace layout s bytes file faults faults' a.text.items a.end)) →
      AnswersCheck bytes s layout left ended faults faults' old old result
  answers_nothing old result begun h = record {
    front = [];
    grown = rw begun (sym (gave-nothing old));
    told = rw begun (front-nothing left);
    caused = h;
    no_further = inl refl;
  }

  -- the first file is refused, before a read
  pub answers_refused : (old : List Reading) (text : List ℕ) (result : Result Answer NoMemory) → ended ≡ false →
      faults' ≡ faults → Refuses s bytes text → IfOk result (λ a. a.text.items ≡ text) →
      IfOk result (λ a. a.end ≡ Refused) → AnswersCheck bytes s layout left ended faults faults' old old result
  answers_refused old text result begun stay refused told end =
      answers_nothing old result begun (λ file r.
      both_ok result _ _ _ told end (λ a is ends.
      subst (λ faults'. ComesOfTrace layout s bytes file faults faults' a.text.items a.end) (sym stay)
      (subst (λ e. ComesOfTrace layout s bytes file faults faults a.text.items e) (sym ends)
      (cause_refused layout bytes s file faults a.text.items ended (rw is refused) r))))

  module _ (net : Graph) (old new : List Reading) (result : Result Answer NoMemory) where
    needed_of : (front : List ℕ) → (front ≡ []) ⊎ IsOpenBeforeLast net front → IsSubject s bytes net →
        IsReadNoFurther s bytes front
    needed_of front (inl none) is = inl none
    needed_of front (inr last) is = inr (net, is, last)

    -- nothing is found
    pub answers_unread : (why : ReadAll) → (j : Judges net left ended old new (Err why)) →
        Counts (judging_failed (Err why)) faults faults' → IsSubject s bytes net →
        IfOk result (λ a. IsRefusal why Journal a.text.items) →
        IfOk result (λ a. a.end ≡ Refused) → AnswersCheck bytes s layout left ended faults faults' old new result
    answers_unread why j counts is line end = record {
      front = j.front;
      grown = j.grown;
      told = j.told;
      caused = λ file r. both_ok result _ _ _ line end (λ a says ends.
          cause_unread layout bytes s file faults faults' a.text.items a.end ended j.front net why is counts j.long says
          ends r);
      no_further = needed_of j.front j.needed is;
    }

    -- this is found
    pub answers_found : (check : Check) → (j : Judges net left ended old new (Ok check)) → faults' ≡ faults →
        IsSubject s bytes net → IfOk result (λ a. a.text.items ≡ found_in layout check) →
        IfOk result (λ a. a.end ≡ end_of check) → AnswersCheck bytes s layout left ended faults faults' old new result
    answers_found check j stay is told end = record {
      front = j.front;
      grown = j.grown;
      told = j.told;
      caused = λ file r. both_ok result _ _ _ told end (λ a says ends.
          cause_found layout bytes s file faults faults' a.text.items a.end ended j.front net check is j.found
          stay says ends r);
      no_further = needed_of j.front j.needed is;
    }

-- ---- a command on two files

pub is_check : (command : OnTwo) (s : of.Subject) (layout : Layout) → as_check command ≡ Some (s, layout) →
    command ≡ two.Check s layout
is_check (two.After t lines weights) s layout e = absurd (cc)
is_check (two.Check t other) s layout e =
    let pair : ◌≡◌ {A = of.Subject × Layout} (t, other) (s, layout) = cc in
    ap (λ both. two.Check both.0 both.1) pair
is_check (two.Explain t other) s layout e = absurd (cc)
is_check two.Same s layout e = absurd (cc)

pub onward_checked : (command : OnTwo) (s : of.Subject) (layout : Layout) (bytes : List ℕ) (other : Given)
    (name : String Global) (of_name : List ℕ) (files : Files) (faults faults' : ℕ) (result : Result Answer NoMemory) →
    command ≡ two.Check s layout → other ≡ given.Name name → of_name ≡ string_bytes name →
    IfOk result (λ a. ComesOfTrace layout s bytes (files 0 of_name) faults faults' a.text.items a.end) →
    IfOk result (λ a. IsCauseOnward command bytes other files faults faults' a.text.items a.end)
onward_checked command s layout bytes other name of_name files faults faults' result is named same h =
    subst (λ command. IfOk result (λ a. IsCauseOnward command bytes other files faults faults' a.text.items a.end))
    (sym is)
    (subst (λ other. IfOk result (λ a.
    IsCauseOnward (two.Check s layout) bytes other files faults faults' a.text.items a.end)) (sym named)
    (subst (λ of_name. IfOk result (λ a.
    ComesOfTrace layout s bytes (files 0 of_name) faults faults' a.text.items a.end)) same h))

-- the second file is taken whole: by each command but `check`, and if it is a text
abbrev pub IsTakenWhole : OnTwo → Given → Type 0
IsTakenWhole (two.Check s layout) (given.Name file) = ⊥
IsTakenWhole command other = Unit {0}

pub taken_by_another : (command : OnTwo) (other : Given) → as_check command ≡ None → IsTakenWhole command other
taken_by_another (two.After s lines weights) other e = tt
taken_by_another (two.Check s layout) other e = absurd (cc)
taken_by_another (two.Explain s layout) other e = tt
taken_by_another two.Same other e = tt

pub text_taken : (command : OnTwo) (other : Given) (text : String Global) → other ≡ given.Text text →
    IsTakenWhole command other
text_taken command other text is = subst (λ other. IsTakenWhole command other) (sym is) (go command)
  where
    go : (command : OnTwo) → IsTakenWhole command (given.Text text)
    go (two.After s lines weights) = tt
    go (two.Check s layout) = tt
    go (two.Explain s layout) = tt
    go two.Same = tt

module _ (bytes : List ℕ) where
  pub onward_taken : (command : OnTwo) (other : Given) (files : Files) (faults faults' : ℕ)
      (result : Result Answer NoMemory) → IsTakenWhole command other →
      IfOk result (λ a. IsCauseOfWhole command bytes other files faults faults' a.text.items a.end) →
      IfOk result (λ a. IsCauseOnward command bytes other files faults faults' a.text.items a.end)
  onward_taken (two.After s lines weights) other files faults faults' result is h = h
  onward_taken (two.Check s layout) (given.Name file) files faults faults' result is h = absurd is
  onward_taken (two.Check s layout) (given.Text text) files faults faults' result is h = h
  onward_taken (two.Explain s layout) other files faults faults' result is h = h
  onward_taken two.Same other files faults faults' result is h = h

  pub taken_reads : (command : OnTwo) (other : Given) (old new : List Reading) → IsTakenWhole command other →
      ReadsOnward command bytes other old new
  taken_reads (two.After s lines weights) other old new is = tt
  taken_reads (two.Check s layout) (given.Name file) old new is = absurd is
  taken_reads (two.Check s layout) (given.Text text) old new is = tt
  taken_reads (two.Explain s layout) other old new is = tt
  taken_reads two.Same other old new is = tt

-- how far a trace was read
pub checked_reads : (command : OnTwo) (s : of.Subject) (layout : Layout) (bytes : List ℕ) (other : Given)
    (name : String Global) (old new : List Reading) → command ≡ two.Check s layout → other ≡ given.Name name →
    (trace : Reading) × (new ≡ trace ∷ old) × IsReadNoFurther s bytes trace.bytes →
    ReadsOnward command bytes other old new
checked_reads command s layout bytes other name old new is named h =
    subst (λ command. ReadsOnward command bytes other old new) (sym is)
    (subst (λ other. ReadsOnward (two.Check s layout) bytes other old new) (sym named) h)

-- after the first file the second one was read
pub two_reads : (command : OnTwo) (file other : Given) (bytes : List ℕ) (most : ℕ) (old mid new : List Reading) →
    IsReadOnce file old mid →
    ((files : Files) → AreOfSince files old mid → IsAllWithin most (told_of files file) bytes) →
    ReadsOnward command bytes other mid new → ReadsTwo command file other old new
two_reads command (given.Name name) other bytes most old mid new (first, e) all h =
    let own : IsReadOf (Some first.bytes) first.ended first.bytes =
    elim first.ended as (λ ended. IsReadOf (Some first.bytes) ended first.bytes) [
      | true ↦ refl
      | false ↦ ([], sym (append-nil first.bytes))
    ] in
    let same : bytes ≡ first.bytes = (all (λ n name. Some first.bytes) (first ∷ [], e, (own, tt))).0 in (
      first,
      inr (subst (λ bytes. ReadsOnward command bytes other (first ∷ old) new) same
          (subst (λ mid. ReadsOnward command bytes other mid new) e h)),
    )
two_reads command (given.Text text) other bytes most old mid new e all h =
    let same : bytes ≡ string_bytes text = (all (λ n name. None) ([], e, tt)).0 in
    inr (subst (λ bytes. ReadsOnward command bytes other old new) same
    (subst (λ mid. ReadsOnward command bytes other mid new) e h))

-- it wasn't
pub first_alone : (command : OnTwo) (file other : Given) (old new : List Reading) → IsReadOnce file old new →
    ReadsTwo command file other old new
first_alone command (given.Name name) other old new (first, e) = (first, inl e)
first_alone command (given.Text text) other old new e = inl e

-- the source knows the second file, and the first one is short enough
pub known_checked : (other : Given) (name : String Global) (of_name : List ℕ) → other ≡ given.Name name →
    of_name ≡ string_bytes name → IsNamed other of_name
known_checked other name of_name is same = subst (λ other. IsNamed other of_name) (sym is) same

pub short_checked : (command : OnTwo) (s : of.Subject) (layout : Layout) (bytes : List ℕ) →
    command ≡ two.Check s layout → length bytes ≤ most_of (contents_of command).0 →
    length bytes ≤ most_of (Subject s)
short_checked command s layout bytes is h =
    subst (λ command. length bytes ≤ most_of (contents_of command).0) is h
