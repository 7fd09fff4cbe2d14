-- Inputs one after another, and students.
use Rattle.std.proofs.Common.{◌≡◌, ℕ, zero, suc, ◌+◌, ◌<◌, ◌≤◌, Bool, true, false, List, [], ◌∷◌, ◌++◌, append_assoc, append-nil, length, take, drop, refl, sym, ap, ◌∙◌, subst, arith}
use Rattle.std.specs.Prelude.{◌&&◌, ◌≢◌, All, get_or}
use Rattle.std.specs.List.{AllZip}
use Rattle.std.proofs.lemmas.List.{take-append-drop}
use Rattle.std.proofs.lemmas.List.Elements.{All-append}
use Rattle.std.proofs.Math.Bool.{and_assoc, and-true}
use Rattle.ol_term.specs.Trees.{Tree}
use Rattle.ol_derivations.specs.Lines.{is_left_out}
use Rattle.ol_derivations.specs.Derivations.{IsTermLine, IsNoTermLine, line_text}
use Rattle.ol_derivations.specs.declared.reading.Bounds.{Bounds}
use Rattle.ol_derivations.specs.declared.read_trees.Seen.{Seen}
use Rattle.ol_derivations.specs.declared.applying.Input.{Input}
use Rattle.ol_derivations.specs.declared.grading.Student.{Student}
use Rattle.ol_derivations.specs.Applications.{IsInput}
use Rattle.ol_derivations.specs.Reads.{HasWholeTree, HasNoWholeTree}
use Rattle.ol_derivations.specs.Grades.{AreInputs, HasNoInputs, IsTermText, IsNoTermText, IsRight, IsWrong, IsGrade, IsGradeOf, AreGrades, IsNoSolution, on_input, file_line}
use Rattle.ol_derivations.specs.StudentsSoFar.{AreWanted, texts_of}
use Rattle.ol_readback.specs.Texts.{AreNamed}

-- ---- lists

one_up : (k : ℕ) → suc k ≡ k + 1
one_up k = omega arith

module _ {X : Type 0} where
  -- item k of a list, and those behind it
  abbrev At : List X → ℕ → X → Type 0
  At xs k x = drop k xs ≡ x ∷ drop (suc k) xs

  pub at : (xs : List X) (k : ℕ) (x : X) → drop k xs ≡ x ∷ drop (k + 1) xs → At xs k x
  at xs k x d = d ∙ ap (λ n. x ∷ drop n xs) (sym (one_up k))

  take_at : (xs : List X) (k : ℕ) (x : X) → At xs k x → take (suc k) xs ≡ take k xs ++ (x ∷ [])
  take_at [] zero x d = absurd (cc)
  take_at [] (suc k) x d = absurd (cc)
  take_at (y ∷ xs) zero x d = let e : y ≡ x = cc in ap (λ x. x ∷ []) e
  take_at (y ∷ xs) (suc k) x d = ap (λ l. y ∷ l) (take_at xs k x d)

  pub taken : (xs : List X) (k : ℕ) (x : X) → drop k xs ≡ x ∷ drop (k + 1) xs → take (k + 1) xs ≡ take k xs ++ (x ∷ [])
  taken xs k x d = ap (λ n. take n xs) (sym (one_up k)) ∙ take_at xs k x (at xs k x d)

  pub parted : (xs : List X) (k : ℕ) (x : X) → drop k xs ≡ x ∷ drop (k + 1) xs →
      xs ≡ take k xs ++ (x ∷ drop (k + 1) xs)
  parted xs k x d = sym (take-append-drop k xs) ∙ ap (λ l. take k xs ++ l) d

  long_at : (xs : List X) (k : ℕ) (x : X) → At xs k x → length (take k xs) ≡ k
  long_at [] zero x d = absurd (cc)
  long_at [] (suc k) x d = absurd (cc)
  long_at (y ∷ xs) zero x d = refl
  long_at (y ∷ xs) (suc k) x d = ap (λ n. suc n) (long_at xs k x d)

  pub front_long : (xs : List X) (k : ℕ) (x : X) → drop k xs ≡ x ∷ drop (k + 1) xs → length (take k xs) ≡ k
  front_long xs k x d = long_at xs k x (at xs k x d)

  here_at : (xs : List X) (k : ℕ) (x : X) → k < length xs → x ≡ get_or xs k x → At xs k x
  here_at [] k x l e = absurd (omega arith)
  here_at (y ∷ xs) zero x l e = ap (λ y. y ∷ xs) (sym e)
  here_at (y ∷ xs) (suc k) x l e = here_at xs k x (omega arith) e

  pub item_here : (xs : List X) (k : ℕ) (x : X) → k < length xs → x ≡ get_or xs k x → drop k xs ≡ x ∷ drop (k + 1) xs
  item_here xs k x l e = here_at xs k x l e ∙ ap (λ n. x ∷ drop n xs) (one_up k)

  pub none_left : (xs : List X) (k : ℕ) → length xs ≤ k → drop k xs ≡ []
  none_left [] zero l = refl
  none_left [] (suc k) l = refl
  none_left (y ∷ xs) zero l = absurd (omega arith)
  none_left (y ∷ xs) (suc k) l = none_left xs k (omega arith)

  pub all_taken : (xs : List X) (k : ℕ) → length xs ≤ k → take k xs ≡ xs
  all_taken [] zero l = refl
  all_taken [] (suc k) l = refl
  all_taken (y ∷ xs) zero l = absurd (omega arith)
  all_taken (y ∷ xs) (suc k) l = ap (λ l. y ∷ l) (all_taken xs k (omega arith))

pub zip_push : {A B : Type 0} (R : A → B → Type 0) (xs : List A) (ys : List B) (x : A) (y : B) → AllZip R xs ys →
    R x y → AllZip R (xs ++ (x ∷ [])) (ys ++ (y ∷ []))
zip_push R [] [] x y h r = (r, tt)
zip_push R [] (z ∷ ys) x y h r = absurd h
zip_push R (z ∷ xs) [] x y h r = absurd h
zip_push R (z ∷ xs) (w ∷ ys) x y h r = (h.0, zip_push R xs ys x y h.1 r)

pub zip_long : {A B : Type 0} (R : A → B → Type 0) (xs : List A) (ys : List B) → AllZip R xs ys → length ys ≡ length xs
zip_long R [] [] h = refl
zip_long R [] (z ∷ ys) h = absurd h
zip_long R (z ∷ xs) [] h = absurd h
zip_long R (z ∷ xs) (w ∷ ys) h = ap (λ n. suc n) (zip_long R xs ys h.1)

pub texts_push : (inputs : List Input) (x : Input) → texts_of (inputs ++ (x ∷ [])) ≡ texts_of inputs ++ (x.text.now ∷ [])
texts_push [] x = refl
texts_push (y ∷ inputs) x = ap (λ l. y.text.now ∷ l) (texts_push inputs x)

pub texts_long : (inputs : List Input) → length (texts_of inputs) ≡ length inputs
texts_long [] = refl
texts_long (y ∷ inputs) = ap (λ n. suc n) (texts_long inputs)

text_at : (inputs : List Input) (k : ℕ) (x : Input) → k < length inputs → x ≡ get_or inputs k x →
    drop k (texts_of inputs) ≡ x.text.now ∷ drop (suc k) (texts_of inputs)
text_at [] k x l e = absurd (omega arith)
text_at (y ∷ inputs) zero x l e = ap (λ (y : Input). y.text.now ∷ texts_of inputs) (sym e)
text_at (y ∷ inputs) (suc k) x l e = text_at inputs k x (omega arith) e

pub text_here : (inputs : List Input) (k : ℕ) (x : Input) → k < length inputs → x ≡ get_or inputs k x →
    drop k (texts_of inputs) ≡ x.text.now ∷ drop (k + 1) (texts_of inputs)
text_here inputs k x l e = text_at inputs k x l e ∙ ap (λ n. x.text.now ∷ drop n (texts_of inputs)) (one_up k)

pub input_here : (inputs : List Input) (k : ℕ) (x : Input) → All IsInput inputs → k < length inputs →
    x ≡ get_or inputs k x → IsInput x
input_here inputs k x all l e = subst IsInput (sym e) (all k x l)

pub no_input : All IsInput []
no_input k d l = absurd (omega (arith, l))

pub one_more_input : (inputs : List Input) (x : Input) → All IsInput inputs → IsInput x → All IsInput (inputs ++ (x ∷ []))
one_more_input inputs x all i = All-append IsInput inputs (x ∷ []) all only
  where
    only : All IsInput (x ∷ [])
    only zero d l = i
    only (suc k) d l = absurd (omega (arith, l))

pub some_texts : (inputs : List Input) → 0 < length inputs → texts_of inputs ≢ []
some_texts [] l e = omega (arith, l)
some_texts (y ∷ inputs) l e = absurd (cc)

pub no_texts : (inputs : List Input) → length inputs ≡ 0 → texts_of inputs ≡ []
no_texts [] e = refl
no_texts (y ∷ inputs) e = absurd (omega (arith, e))

-- ---- inputs

pub function_of : (line : List ℕ) (t : Tree) (names : List (List ℕ)) → IsTermLine line t names → IsTermText line
function_of line t names h = record { term = t; names = names; short = h.short; file = h.file; shallow = h.within.1 }

abbrev pub AreFunctions : List (List ℕ) → Type 0
AreFunctions [] = Unit {0}
AreFunctions (line ∷ lines) = IsTermText line × AreFunctions lines

pub are_functions : {lines inputs : List (List ℕ)} → AreInputs lines inputs → AreFunctions inputs
are_functions AreInputs.none = tt
are_functions (AreInputs.left_out e h) = are_functions h
are_functions (AreInputs.input {line = line} {t = t} {names = names} e i h) = (function_of line t names i, are_functions h)

-- ---- wanted trees

abbrev Named : Seen → Type 0
Named w = AreNamed (length w.names) w.tree

pub are_wanted : (bounds : Bounds) (solution : List ℕ) (lines : List (List ℕ)) (trees : List Seen) →
    AllZip (HasWholeTree bounds solution) lines trees → AreWanted lines trees
are_wanted bounds solution [] [] h = tt
are_wanted bounds solution [] (w ∷ trees) h = absurd h
are_wanted bounds solution (line ∷ lines) [] h = absurd h
are_wanted bounds solution (line ∷ lines) (w ∷ trees) h = (h.0.0.named, are_wanted bounds solution lines trees h.1)

named_at : (lines : List (List ℕ)) (trees : List Seen) (k : ℕ) (w : Seen) → AreWanted lines trees →
    drop k trees ≡ w ∷ drop (suc k) trees → Named w
named_at lines [] zero w h d = absurd (cc)
named_at lines [] (suc k) w h d = absurd (cc)
named_at [] (v ∷ trees) k w h d = absurd h
named_at (line ∷ lines) (v ∷ trees) zero w h d = let e : v ≡ w = cc in subst Named e h.0
named_at (line ∷ lines) (v ∷ trees) (suc k) w h d = named_at lines trees k w h.1 d

pub named_here : (lines : List (List ℕ)) (trees : List Seen) (k : ℕ) (w : Seen) → AreWanted lines trees →
    drop k trees ≡ w ∷ drop (k + 1) trees → Named w
named_here lines trees k w h d = named_at lines trees k w h (at trees k w d)

pub as_many : (lines : List (List ℕ)) (trees : List Seen) → AreWanted lines trees → length trees ≡ length lines
as_many lines trees h = zip_long (λ line w. Named w) lines trees h

-- whatever the lines from line k + 1 on come to, behind these inputs all lines come to it
abbrev pub Onward : (lines kept : List (List ℕ)) → ℕ → Type 0
Onward lines kept k =
    ((rest : List (List ℕ)) → AreInputs (drop k lines) rest → AreInputs lines (kept ++ rest))
    × ((text : List ℕ) → HasNoInputs (k + 1) (drop k lines) text → HasNoInputs 1 lines text)

pub begins : (lines kept : List (List ℕ)) → kept ≡ [] → Onward lines kept 0
begins lines kept e = subst (λ kept. Onward lines kept 0) (sym e) (λ rest h. h, λ text h. h)

module _ (lines kept : List (List ℕ)) (k : ℕ) (line : List ℕ) (d : drop k lines ≡ line ∷ drop (k + 1) lines)
    (on : Onward lines kept k) where
  pub passes : is_left_out line ≡ true → Onward lines kept (k + 1)
  passes e = (
    λ rest h. on.0 rest (subst (λ l. AreInputs l rest) (sym d) (AreInputs.left_out e h)),
    λ text h. on.1 text (subst (λ l. HasNoInputs (k + 1) l text) (sym d)
        (HasNoInputs.behind (AreInputs.left_out e AreInputs.none) h)),
  )

  pub keeps : (t : Tree) (names : List (List ℕ)) → is_left_out line ≡ false → IsTermLine line t names →
      Onward lines (kept ++ (line ∷ [])) (k + 1)
  keeps t names e i = (
    λ rest h. subst (λ l. AreInputs lines l) (sym (append_assoc kept (line ∷ []) rest))
        (on.0 (line ∷ rest) (subst (λ l. AreInputs l (line ∷ rest)) (sym d) (AreInputs.input e i h))),
    λ text h. on.1 text (subst (λ l. HasNoInputs (k + 1) l text) (sym d)
        (HasNoInputs.behind (AreInputs.input e i AreInputs.none) h)),
  )

  pub stops : (words : List ℕ) → is_left_out line ≡ false → IsNoTermLine line words →
      HasNoInputs 1 lines (line_text (k + 1) words)
  stops words e i = on.1 (line_text (k + 1) words)
      (subst (λ l. HasNoInputs (k + 1) l (line_text (k + 1) words)) (sym d) (HasNoInputs.here e i))

pub all_kept : (lines kept : List (List ℕ)) (k : ℕ) → drop k lines ≡ [] → Onward lines kept k → AreInputs lines kept
all_kept lines kept k d on = subst (λ l. AreInputs lines l) (append-nil kept)
    (on.0 [] (subst (λ l. AreInputs l []) (sym d) AreInputs.none))

-- ---- a solution, and a student

module _ (bounds : Bounds) (lines : List (List ℕ)) (k : ℕ) (line : List ℕ)
    (d : drop k lines ≡ line ∷ drop (k + 1) lines) where
  pub tree_more : (solution : List ℕ) (trees : List Seen) (seen : Seen) →
      AllZip (HasWholeTree bounds solution) (take k lines) trees → HasWholeTree bounds solution line seen →
      AllZip (HasWholeTree bounds solution) (take (k + 1) lines) (trees ++ (seen ∷ []))
  tree_more solution trees seen h i =
      subst (λ l. AllZip (HasWholeTree bounds solution) l (trees ++ (seen ∷ []))) (sym (taken lines k line d))
      (zip_push (HasWholeTree bounds solution) (take k lines) trees line seen h i)

  pub no_tree_here : (solution : List ℕ) (trees : List Seen) (why text : List ℕ) → IsTermText solution →
      AllZip (HasWholeTree bounds solution) (take k lines) trees → text ≡ on_input why (k + 1) →
      HasNoWholeTree bounds solution line why → IsNoSolution bounds lines solution text
  no_tree_here solution trees why text f h e i =
      subst (IsNoSolution bounds lines solution) (sym e)
      (subst (λ n. IsNoSolution bounds lines solution (on_input why (n + 1))) (front_long lines k line d)
      (IsNoSolution.no_tree (take k lines) (drop (k + 1) lines) trees f (parted lines k line d) h i))

  module _ (student : List ℕ) (wanted : List Seen) (w : Seen) (e : drop k wanted ≡ w ∷ drop (k + 1) wanted) where
    pub right_more : AllZip (IsRight bounds student) (take k lines) (take k wanted) → IsRight bounds student line w →
        AllZip (IsRight bounds student) (take (k + 1) lines) (take (k + 1) wanted)
    right_more h i =
        subst (λ l. AllZip (IsRight bounds student) l (take (k + 1) wanted)) (sym (taken lines k line d))
        (subst (λ l. AllZip (IsRight bounds student) (take k lines ++ (line ∷ [])) l) (sym (taken wanted k w e))
        (zip_push (IsRight bounds student) (take k lines) (take k wanted) line w h i))

    pub wrong_here : (words : List ℕ) → IsTermText student →
        AllZip (IsRight bounds student) (take k lines) (take k wanted) →
        IsWrong bounds student line w (k + 1) words → IsGrade bounds lines wanted student words false
    wrong_here words f h i = IsGrade.wrong (take k lines) (drop (k + 1) lines) (take k wanted) (drop (k + 1) wanted) f (parted lines k line d) (parted wanted k w e) h
        (subst (λ n. IsWrong bounds student line w (n + 1) words) (sym (front_long lines k line d)) i)

pub all_trees : (bounds : Bounds) (lines : List (List ℕ)) (k : ℕ) (solution : List ℕ) (trees : List Seen) →
    length lines ≤ k → AllZip (HasWholeTree bounds solution) (take k lines) trees →
    AllZip (HasWholeTree bounds solution) lines trees
all_trees bounds lines k solution trees l h =
    subst (λ l. AllZip (HasWholeTree bounds solution) l trees) (all_taken lines k l) h

pub all_right : (bounds : Bounds) (lines : List (List ℕ)) (k : ℕ) (student : List ℕ) (wanted : List Seen) →
    length lines ≤ k → length wanted ≤ k → AllZip (IsRight bounds student) (take k lines) (take k wanted) →
    AllZip (IsRight bounds student) lines wanted
all_right bounds lines k student wanted l m h =
    subst (λ l. AllZip (IsRight bounds student) l wanted) (all_taken lines k l)
    (subst (λ w. AllZip (IsRight bounds student) (take k lines) w) (all_taken wanted k m) h)

-- ---- students

module _ (bounds : Bounds) (inputs : List (List ℕ)) (wanted : List Seen) where
  -- whatever is said of the students from number k on, behind this text it is said of all
  abbrev pub Behind : List Student → ℕ → List ℕ → Bool → Type 0
  Behind students k text fine = (rest : List ℕ) (all : Bool) →
      AreGrades bounds inputs wanted (drop k students) rest all →
      AreGrades bounds inputs wanted students (text ++ rest) (fine && all)

  pub first_student : (students : List Student) (text : List ℕ) → text ≡ [] → Behind students 0 text true
  first_student students text t rest all are =
      subst (λ text. AreGrades bounds inputs wanted students (text ++ rest) all) (sym t) are

  pub next_student : (students : List Student) (k : ℕ) (student : Student) (text words : List ℕ) (fine now : Bool) →
      drop k students ≡ student ∷ drop (k + 1) students → Behind students k text fine →
      IsGradeOf bounds inputs wanted student.work words now →
      Behind students (k + 1) (text ++ file_line student.name.items words) (fine && now)
  next_student students k student text words fine now d on is rest all are =
      let told = file_line student.name.items words in
      let here : AreGrades bounds inputs wanted (drop k students) (told ++ rest) (now && all) =
      subst (λ l. AreGrades bounds inputs wanted l (told ++ rest) (now && all)) (sym d) (AreGrades.more is are) in
      subst (λ text. AreGrades bounds inputs wanted students text ((fine && now) && all))
      (sym (append_assoc text told rest))
      (subst (λ all. AreGrades bounds inputs wanted students (text ++ (told ++ rest)) all) (sym (and_assoc fine now all))
      (on (told ++ rest) (now && all) here))

  pub last_student : (students : List Student) (k : ℕ) (text : List ℕ) (fine : Bool) → drop k students ≡ [] →
      Behind students k text fine → AreGrades bounds inputs wanted students text fine
  last_student students k text fine d on =
      subst (λ text. AreGrades bounds inputs wanted students text fine) (append-nil text)
      (subst (λ all. AreGrades bounds inputs wanted students (text ++ []) all) (and-true fine)
      (on [] true (subst (λ l. AreGrades bounds inputs wanted l [] true) (sym d) AreGrades.none)))

-- ---- a function's text

pub told_so : (bytes words text : List ℕ) → text ≡ words → IsNoTermText bytes words → IsNoTermText bytes text
told_so bytes words text e h = subst (IsNoTermText bytes) (sym e) h
