-- What comes of a file that gives no bytes, and what is written of an answer.
use Rattle.std.proofs.Common.{◌≡◌, ℕ, ◌<◌, ◌≤◌, ◌↔◌, ◌⊎◌, inl, inr, Bool, List, Option, length}
use Rattle.std.proofs.Common.{refl, subst, sym, ap, ◌∙◌, Vec, Global, Result, Ok, Err, IfOk, arith, [], ◌∷◌, ◌++◌, ◌+◌, drop, slice_index_or}
use Rattle.std.proofs.lemmas.List.{drop_more}
use Rattle.std.specs.Result.{IsErrOf}
use Rattle.ol_io.specs.declared.calls.ReadAll.{ReadAll}
use Rattle.ol_io.specs.declared.calls.ReadAll.TheVariants as read
use Rattle.ol_io.specs.Calls.{read_all_failed}
use Rattle.ol_io.specs.Outside.{Counts, IsAllOf, IsLonger}
use Rattle.ol_io.specs.Readings.{Reading, AreOfSince}
use Rattle.ol_io.proofs.Readings.{AreOfSince-parts, AreOfSince-nothing}
use Rattle.ol_subjects.specs.declared.answers.End.{End}
use Rattle.ol_subjects.specs.declared.answers.End.TheVariants.{Refused}
use Rattle.ol_bench.specs.declared.asked.Content.{Content}
use Rattle.ol_bench.specs.declared.asked.Given.{Given}
use Rattle.ol_bench.specs.declared.asked.Given.TheVariants as given
use Rattle.ol_bench.specs.declared.asked.OnOne.{OnOne}
use Rattle.ol_bench.specs.declared.asked.OnTwo.{OnTwo}
use Rattle.ol_bench.specs.declared.top.Status.{Status}
use Rattle.ol_bench.specs.Commands.{IsAnswerToOne, IsAnswerToTwo, IsCauseOfOne, IsCauseOfTwo, IsCauseOfWhole, IsCauseOnward}
use Rattle.ol_bench.specs.Commands.{content_of, contents_of, of_term, IsStudent, IsWork, IsCauseOfStudents, IsCauseOfSolution, IsCauseOfGrade, IsCauseOfWalk}
use Rattle.ol_decoding.specs.declared.frame_walks.Wanted.{Wanted}
use Rattle.ol_decoding.specs.WalkAnswers.{IsFrameWalk}
use Rattle.ol_derivations.specs.declared.grading.Student.{Student}
use Rattle.ol_derivations.specs.declared.grading.Work.{Work}
use Rattle.ol_derivations.specs.declared.reading.Bounds.{Bounds}
use Rattle.ol_bench.specs.Inputs.{ComesOf, Files, IsAllWithin, fault, too_long, of_bytes, most_of, after_taking, told_of}
use Rattle.ol_bench.specs.Taking.{IsReadOnce, IsRefusal, IsWorkOf}
use Rattle.ol_bench.specs.Writing.{Change, GoesTo, Told, WritesAnswer, is_shown, status_of, told}

-- all bytes that were read are no more than were asked for
pub is_short : (bytes : Vec ℕ Global) (given asked : ℕ) → length bytes.items ≡ given →
    IsErrOf {T = Vec ℕ Global} {E = ReadAll} (Ok bytes) read.TooLong ↔ (asked < given) →
    length bytes.items ≤ asked
is_short bytes given asked counted h =
    elim (which asked given) [ inl past ↦ absurd (no (h.1 past)) | inr w ↦ omega (arith, counted, w) ]
  where
    which : (asked given : ℕ) → (asked < given) ⊎ (given ≤ asked)
    which asked given = grind arith

    no : IsErrOf {T = Vec ℕ Global} {E = ReadAll} (Ok bytes) read.TooLong → ⊥
    no h = absurd (cc)

-- there are no bytes, and the line says why
refused_by : (c : Content) (file : Option (List ℕ)) (faults faults' : ℕ)
    (OfBytes : List ℕ → List ℕ → End → Type 0) (text : List ℕ) (why : ReadAll) →
    Counts (read_all_failed (Err why)) faults faults' →
    (IsErrOf {T = Vec ℕ Global} {E = ReadAll} (Err why) read.TooLong → IsLonger file (most_of c)) →
    IsRefusal why c text → ComesOf c file faults faults' OfBytes text Refused
refused_by c file faults faults' OfBytes text read.Fault counts longer line = fault counts line
refused_by c file faults faults' OfBytes text read.TooLong counts longer line =
    too_long counts (longer refl) line
refused_by c file faults faults' OfBytes text read.NoMemory counts longer line = absurd line

not_read : (c d : Content) (file : Option (List ℕ)) (faults faults' : ℕ)
    (OfBytes : List ℕ → List ℕ → End → Type 0) (text : List ℕ) (e : End) (why : ReadAll) →
    Counts (read_all_failed (Err why)) faults faults' →
    (IsErrOf {T = Vec ℕ Global} {E = ReadAll} (Err why) read.TooLong → IsLonger file (most_of c)) →
    IsRefusal why c text → e ≡ Refused → c ≡ d → ComesOf d file faults faults' OfBytes text e
not_read c d file faults faults' OfBytes text e why counts longer line end same =
    subst (λ d. ComesOf d file faults faults' OfBytes text e) same
    (subst (λ e. ComesOf c file faults faults' OfBytes text e) (sym end)
    (refused_by c file faults faults' OfBytes text why counts longer line))

module _ (files : Files) (faults faults' : ℕ) (text : List ℕ) (e : End) (c : Content) where
  module _ (why : ReadAll) (counts : Counts (read_all_failed (Err why)) faults faults')
      (line : IsRefusal why c text) (end : e ≡ Refused) where
    -- the one file of a command gives no bytes, or the second of two, or the first
    pub one_not_read : (command : OnOne) (file : Given) → c ≡ content_of command →
        (IsErrOf {T = Vec ℕ Global} {E = ReadAll} (Err why) read.TooLong →
        IsLonger (told_of files file) (most_of c)) →
        IsCauseOfOne command file files faults faults' text e
    one_not_read command file same longer =
        not_read c (content_of command) (told_of files file) faults faults' _ text e why counts longer line end same

    pub onward_not_read : (command : OnTwo) (bytes : List ℕ) (other : Given) →
        c ≡ (contents_of command).1 →
        (IsErrOf {T = Vec ℕ Global} {E = ReadAll} (Err why) read.TooLong →
        IsLonger (told_of files other) (most_of c)) →
        IsCauseOfWhole command bytes other files faults faults' text e
    onward_not_read command bytes other same longer =
        not_read c (contents_of command).1 (told_of files other) faults faults' _ text e why counts longer line end same

    pub two_not_read : (command : OnTwo) (file other : Given) → c ≡ (contents_of command).0 →
        (IsErrOf {T = Vec ℕ Global} {E = ReadAll} (Err why) read.TooLong →
        IsLonger (told_of files file) (most_of c)) →
        IsCauseOfTwo command file other files faults faults' text e
    two_not_read command file other same longer =
        not_read c (contents_of command).0 (told_of files file) faults faults' _ text e why counts longer line end same

  -- the one file of a command has these bytes, or the second of two, or the first
  pub one_read : (command : OnOne) (file : Given) (bytes : List ℕ) → c ≡ content_of command →
      IsAllWithin (most_of c) (told_of files file) bytes → faults' ≡ faults →
      IsAnswerToOne command bytes text e → IsCauseOfOne command file files faults faults' text e
  one_read command file bytes same all stays answer = of_bytes bytes
      (subst (λ c. IsAllWithin (most_of c) (told_of files file) bytes) same all) (stays, answer)

  pub onward_read : (command : OnTwo) (bytes more : List ℕ) (other : Given) →
      c ≡ (contents_of command).1 → IsAllWithin (most_of c) (told_of files other) more →
      faults' ≡ faults → IsAnswerToTwo command bytes more text e →
      IsCauseOfWhole command bytes other files faults faults' text e
  onward_read command bytes more other same all stays answer = of_bytes more
      (subst (λ c. IsAllWithin (most_of c) (told_of files other) more) same all) (stays, answer)

  pub two_read : (command : OnTwo) (file other : Given) (bytes : List ℕ) (mid : ℕ) →
      c ≡ (contents_of command).0 → IsAllWithin (most_of c) (told_of files file) bytes →
      mid ≡ faults → IsCauseOnward command bytes other (after_taking file files) mid faults' text e →
      IsCauseOfTwo command file other files faults faults' text e
  two_read command file other bytes mid same all stays cause = of_bytes bytes
      (subst (λ c. IsAllWithin (most_of c) (told_of files file) bytes) same all)
      (subst (λ f. IsCauseOnward command bytes other (after_taking file files) f faults' text e) stays cause)

-- what there is of a file, by what came of reading it
pub is_work : (file : Option (List ℕ)) (faults faults' : ℕ) (result : Result (Vec ℕ Global) ReadAll) (w : Work) →
    IsWorkOf result w → Counts (read_all_failed result) faults faults' →
    IfOk result (λ bytes. IsAllWithin (most_of of_term) file bytes.items) →
    (IsErrOf result read.TooLong → IsLonger file (most_of of_term)) → IsWork file faults faults' w
is_work file faults faults' (Ok bytes) w is counts all longer =
    subst (λ w. IsWork file faults faults' w) (sym is) (IsWork.readable counts all)
is_work file faults faults' (Err read.Fault) w is counts all longer =
    subst (λ w. IsWork file faults faults' w) (sym is) (IsWork.unread counts)
is_work file faults faults' (Err read.TooLong) w is counts all longer =
    subst (λ w. IsWork file faults faults' w) (sym is) (IsWork.too_long counts (longer refl))
is_work file faults faults' (Err read.NoMemory) w is counts all longer = absurd is

-- the file at a place is the next of those that are left
pub next_file : (list : List Given) (at : ℕ) (file : Given) → at < length list → file ≡ slice_index_or list at file →
    drop at list ≡ file ∷ drop (at + 1) list
next_file list at file here is = drop_more list at file here ∙ ap (λ x. x ∷ drop (at + 1) list) (sym is)

module _ (files : Files) (faults faults' : ℕ) (text : List ℕ) (e : End) where
  -- a file of `grade` gives no bytes
  pub no_bytes : (file : Option (List ℕ)) (OfBytes : List ℕ → List ℕ → End → Type 0) (why : ReadAll) →
      Counts (read_all_failed (Err why)) faults faults' →
      (IsErrOf {T = Vec ℕ Global} {E = ReadAll} (Err why) read.TooLong → IsLonger file (most_of of_term)) →
      IsRefusal why of_term text → e ≡ Refused → ComesOf of_term file faults faults' OfBytes text e
  no_bytes file OfBytes why counts longer line end =
      not_read of_term of_term file faults faults' OfBytes text e why counts longer line end refl

  module _ (bounds : Bounds) (inputs solution : List ℕ) (before : List Student) (list : List Given) (at : ℕ)
      (file : Given) (here : at < length list) (is : file ≡ slice_index_or list at file) where
    -- the next student is this one
    pub student_taken : (more : List Student) (s : Student) (mid : ℕ) → IsStudent file files faults mid s →
        more ≡ before ++ s ∷ [] →
        IsCauseOfStudents bounds inputs solution more (drop (at + 1) list) (after_taking file files) mid faults' text e →
        IsCauseOfStudents bounds inputs solution before (drop at list) files faults faults' text e
    student_taken more s mid student one cause =
        subst (λ left. IsCauseOfStudents bounds inputs solution before left files faults faults' text e)
        (sym (next_file list at file here is)) (
          s,
          mid,
          student,
          subst (λ r. IsCauseOfStudents bounds inputs solution r (drop (at + 1) list) (after_taking file files)
              mid faults' text e) one cause,
        )

  -- the file with the solution has these bytes, or that with the inputs
  pub solution_read : (bounds : Bounds) (inputs : List ℕ) (file : Given) (students : List Given) (bytes : List ℕ)
      (before : List Student) (mid : ℕ) → IsAllWithin (most_of of_term) (told_of files file) bytes → mid ≡ faults →
      before ≡ [] → IsCauseOfStudents bounds inputs bytes before students (after_taking file files) mid faults' text e →
      IsCauseOfSolution bounds inputs file students files faults faults' text e
  solution_read bounds inputs file students bytes before mid all stays none cause = of_bytes bytes all
      (subst (λ f. IsCauseOfStudents bounds inputs bytes [] students (after_taking file files) f faults' text e) stays
      (subst (λ r. IsCauseOfStudents bounds inputs bytes r students (after_taking file files) mid faults' text e)
      none cause))

  pub inputs_read : (bounds : Bounds) (file solution : Given) (students : List Given) (bytes : List ℕ) (mid : ℕ) →
      IsAllWithin (most_of of_term) (told_of files file) bytes → mid ≡ faults →
      IsCauseOfSolution bounds bytes solution students (after_taking file files) mid faults' text e →
      IsCauseOfGrade bounds file solution students files faults faults' text e
  inputs_read bounds file solution students bytes mid all stays cause = of_bytes bytes all
      (subst (λ f. IsCauseOfSolution bounds bytes solution students (after_taking file files) f faults' text e)
      stays cause)

  pub walk_read : (wanted : Wanted) (file : Given) (bytes : List ℕ) →
      IsAllWithin (most_of of_term) (told_of files file) bytes → faults' ≡ faults →
      IsFrameWalk bytes wanted text e → IsCauseOfWalk wanted file files faults faults' text e
  walk_read wanted file bytes all stays answer = of_bytes bytes all (stays, answer)

-- the readings of the first of two files, and those after it
pub parts : (g : Given) (files : Files) (tells : List ℕ → Option (List ℕ))
    (old mid new : List Reading) → IsReadOnce g old mid → AreOfSince (λ _. tells) mid new →
    AreOfSince files old new → AreOfSince files old mid × AreOfSince (after_taking g files) mid new
parts (given.Name file) files tells old mid new (r, e) h k =
    AreOfSince-parts files tells r old mid new e h k
parts (given.Text text) files tells old mid new e h k = (
  subst (λ mid. AreOfSince files old mid) (sym e) (AreOfSince-nothing files old),
  subst (λ mid. AreOfSince files mid new) (sym e) k,
)

-- An answer of this text and end was told to the sink to which it goes.
pub told_to : {Cause : List ℕ → End → Type 0} {out errors : Change} {result : Status}
    {text text' : List ℕ} {e : End} (e' : End) (shown : Bool) (st : Status) → Cause text e →
    text' ≡ text → e ≡ e' → is_shown e' ≡ shown → st ≡ status_of e' →
    GoesTo shown out errors (Told text' st result) → WritesAnswer Cause out errors result
told_to {out = out} {errors = errors} {result = result} {text = text} {e = e} e' shown st c t i s k goes =
    told text e c (subst (λ e. GoesTo (is_shown e) out errors (Told text (status_of e) result)) (sym i)
    (subst (λ shown. GoesTo shown out errors (Told text (status_of e') result)) (sym s)
    (subst (λ st. GoesTo shown out errors (Told text st result)) k
    (subst (λ text. GoesTo shown out errors (Told text st result)) t goes))))

-- all bytes that were read are all of what is given, and no more than so many
pub whole_within : (file of_name : Option (List ℕ)) (most asked given : ℕ)
    (result : Result (Vec ℕ Global) ReadAll) → file ≡ of_name →
    IfOk result (λ bytes. IsAllOf of_name bytes.items) →
    IfOk result (λ bytes. length bytes.items ≡ given) →
    IsErrOf result read.TooLong ↔ (asked < given) → asked ≡ most →
    IfOk result (λ bytes. IsAllWithin most file bytes.items)
whole_within file of_name most asked given (Ok bytes) e whole counted long m = (
  subst (λ file. IsAllOf file bytes.items) (sym e) whole,
  subst (λ most. length bytes.items ≤ most) m (is_short bytes given asked counted long),
)
whole_within file of_name most asked given (Err x) e whole counted long m = tt
