-- The same files have one answer.
use Rattle.std.proofs.Common.{◌≡◌, ℕ, suc, ◌+◌, Bool, true, false, List, [], ◌∷◌, ◌++◌, length, codes, refl, sym, ap, ◌∙◌, subst, subst₂, arith}
use Rattle.std.specs.Prelude.{◌&&◌, if◌then◌else◌}
use Rattle.std.specs.List.{AllZip}
use Rattle.ol_term.specs.Trees.{depth}
use Rattle.ol_parse.proofs.Exact.{one_file}
use Rattle.ol_parse.proofs.Sizes.{one_dead_place}
use Rattle.ol_readback.specs.Texts.{rounds}
use Rattle.ol_readback.specs.declared.answers.ReadNode.{ReadNode}
use Rattle.ol_readback.proofs.OneTree.{list_is_of_one_tree}
use Rattle.ol_equal.specs.Comparing.{IsComparison, place_at}
use Rattle.ol_equal.specs.Texts.{compared_text}
use Rattle.ol_equal.specs.declared.answers.Compared.{Compared}
use Rattle.ol_equal.specs.declared.answers.Compared.TheVariants.{Equal}
use Rattle.ol_equal.proofs.Alone.{comparison_is_one}
use Rattle.ol_derivations.specs.Heads.{all_names, head_text, IsHeadText}
use Rattle.ol_derivations.specs.Lines.{is_left_out}
use Rattle.ol_derivations.specs.Derivations.{IsNoTermLine, line_text}
use Rattle.ol_derivations.proofs.Unique as unique
use Rattle.ol_subjects.specs.declared.answers.End.TheVariants.{Yes, No}
use Rattle.ol_derivations.specs.declared.reading.Bounds.{Bounds}
use Rattle.ol_derivations.specs.declared.read_trees.Seen.{Seen}
use Rattle.ol_derivations.specs.declared.grading.Student.{Student}
use Rattle.ol_derivations.specs.declared.grading.Work.{Work}
use Rattle.ol_derivations.specs.Reads.{HasWholeTree, HasNoWholeTree, lack_words}
use Rattle.ol_derivations.specs.Grades.{AreInputs, HasNoInputs, IsTermText, IsNoTermText, place_words, on_input, names_of, IsRight, HaveThere, heads_words, IsWrong, IsGrade, IsGradeOf, file_line, AreGrades, IsNoSolution, IsGraded}
use Rattle.ol_derivations.specs.GradeLaws.{OneGrading}
use Rattle.ol_derivations.proofs.Alone.{one_tree, not_both, one_lack, one_whole, not_whole, one_why}
use Rattle.ol_derivations.proofs.Differing.{one_place}

clash : false ≡ true → ⊥
clash e = absurd (cc)

-- ---- functions

no_function : {bytes words : List ℕ} → IsTermText bytes → IsNoTermText bytes words → ⊥
no_function f (IsNoTermText.long l) = let s = f.short in omega (arith, s, l)
no_function f (IsNoTermText.syntax_at s r) = r.0 f.file.named f.file.text
no_function {bytes} f (IsNoTermText.deep s d) =
    let e = ap depth (one_file bytes f.term d.tree f.names d.names f.file d.file).0 in
    let i = d.is in
    let a = d.above in
    let l = f.shallow in
    omega (arith, e, i, a, l)

one_fault : {bytes words others : List ℕ} → IsNoTermText bytes words → IsNoTermText bytes others → words ≡ others
one_fault (IsNoTermText.long l) (IsNoTermText.long k) = refl
one_fault (IsNoTermText.long l) (IsNoTermText.syntax_at s r) = absurd (omega (arith, l, s))
one_fault (IsNoTermText.long l) (IsNoTermText.deep s d) = absurd (omega (arith, l, s))
one_fault (IsNoTermText.syntax_at s r) (IsNoTermText.long l) = absurd (omega (arith, l, s))
one_fault {bytes} (IsNoTermText.syntax_at {at = m} s r) (IsNoTermText.syntax_at {at = n} z q) =
    ap (λ at. codes "syntax, " ++ place_words bytes at) (one_dead_place bytes m n r.1 q.1)
one_fault (IsNoTermText.syntax_at s r) (IsNoTermText.deep z d) = absurd (r.0 d.file.named d.file.text)
one_fault (IsNoTermText.deep s d) (IsNoTermText.long l) = absurd (omega (arith, l, s))
one_fault (IsNoTermText.deep s d) (IsNoTermText.syntax_at z r) = absurd (r.0 d.file.named d.file.text)
one_fault (IsNoTermText.deep s d) (IsNoTermText.deep z c) = refl

-- ---- inputs

one_inputs : {lines kept others : List (List ℕ)} → AreInputs lines kept → AreInputs lines others → kept ≡ others
one_inputs AreInputs.none AreInputs.none = refl
one_inputs (AreInputs.left_out e h) (AreInputs.left_out f k) = one_inputs h k
one_inputs (AreInputs.left_out e h) (AreInputs.input f i k) = absurd (clash (sym f ∙ e))
one_inputs (AreInputs.input e i h) (AreInputs.left_out f k) = absurd (clash (sym e ∙ f))
one_inputs (AreInputs.input {line = line} e i h) (AreInputs.input f j k) = ap (λ kept. line ∷ kept) (one_inputs h k)

no_input : {line words : List ℕ} {lines kept : List (List ℕ)} → is_left_out line ≡ false → IsNoTermLine line words →
    AreInputs (line ∷ lines) kept → ⊥
no_input o w (AreInputs.left_out e h) = clash (sym o ∙ e)
no_input o w (AreInputs.input {t = t} {names = names} e i h) = unique.no_both t names w i

no_inputs : {n : ℕ} {lines kept : List (List ℕ)} {text : List ℕ} → AreInputs lines kept → HasNoInputs n lines text → ⊥
no_inputs h (HasNoInputs.here o w) = no_input o w h
no_inputs (AreInputs.left_out e h) (HasNoInputs.behind i k) = no_inputs h k
no_inputs (AreInputs.input e j h) (HasNoInputs.behind i k) = no_inputs h k

one_line : {n : ℕ} {lines : List (List ℕ)} {text other : List ℕ} → HasNoInputs n lines text →
    HasNoInputs n lines other → text ≡ other
one_line {n} (HasNoInputs.here o w) (HasNoInputs.here p z) = ap (line_text n) (unique.one_why w z)
one_line (HasNoInputs.here o w) (HasNoInputs.behind i k) = absurd (no_input o w i)
one_line (HasNoInputs.behind i h) (HasNoInputs.here o w) = absurd (no_input o w i)
one_line (HasNoInputs.behind i h) (HasNoInputs.behind j k) = one_line h k

-- ---- places in lists

none_before : (k : ℕ) → 0 + k ≡ k
none_before k = omega arith

one_before : (n k : ℕ) → suc n + k ≡ n + suc k
one_before n k = omega arith

one_list : {A B : Type 0} (R : A → B → Type 0) → ((x : A) (y z : B) → R x y → R x z → y ≡ z) → (xs : List A)
    (ys zs : List B) → AllZip R xs ys → AllZip R xs zs → ys ≡ zs
one_list R one [] [] [] h k = refl
one_list R one [] [] (z ∷ zs) h k = absurd k
one_list R one [] (y ∷ ys) zs h k = absurd h
one_list R one (x ∷ xs) [] zs h k = absurd h
one_list R one (x ∷ xs) (y ∷ ys) [] h k = absurd k
one_list R one (x ∷ xs) (y ∷ ys) (z ∷ zs) h k =
    ap (λ y. y ∷ ys) (one x y z h.0 k.0) ∙ ap (λ ys. z ∷ ys) (one_list R one xs ys zs h.1 k.1)

-- ---- a student on an input

one_head_text : {all names : List (List ℕ)} {ns : List ReadNode} {k : ℕ} {text other : List ℕ} →
    IsHeadText all names ns k text → IsHeadText all names ns k other → text ≡ other
one_head_text {all} {names} {ns} {k} h g =
    let t = list_is_of_one_tree h.tree g.tree (h.listed ∙ sym g.listed) in
    h.is ∙ ap (λ t. head_text all names (rounds 0 t) k (place_at ns k)) t ∙ sym g.is

one_there : {wanted got : Seen} {expected found awaited had : List ℕ} → HaveThere wanted got expected found →
    HaveThere wanted got awaited had → (expected ≡ awaited) × (found ≡ had)
one_there {wanted} {got} {expected} {found} {awaited} {had} h g =
    let names = names_of wanted got in
    let k = one_place names wanted.tree got.tree h.place g.place h.path g.path h.first g.first in (
      one_head_text h.of_wanted
          (subst (λ k. IsHeadText (all_names names) wanted.names wanted.tree k awaited) (sym k) g.of_wanted),
      one_head_text h.of_got (subst (λ k. IsHeadText (all_names names) got.names got.tree k had) (sym k) g.of_got),
    )

abbrev apart_words : ℕ → Compared → (expected found : List ℕ) → List ℕ
apart_words k c expected found = on_input (compared_text c) k ++ heads_words expected found

-- the first input that is wrong, of inputs from number k on
data FirstWrong (bounds : Bounds) (student : List ℕ) : ℕ → List (List ℕ) → List Seen → List ℕ → Type 0 where
  wrong_here : {k : ℕ} {line words : List ℕ} {after : List (List ℕ)} {w : Seen} {others : List Seen} →
      IsWrong bounds student line w k words → FirstWrong bounds student k (line ∷ after) (w ∷ others) words
  wrong_later : {k : ℕ} {line words : List ℕ} {after : List (List ℕ)} {w : Seen} {others : List Seen} →
      IsRight bounds student line w → FirstWrong bounds student (suc k) after others words →
      FirstWrong bounds student k (line ∷ after) (w ∷ others) words

module _ {bounds : Bounds} {student : List ℕ} where
  one_wrong : {line : List ℕ} {w : Seen} {k : ℕ} {words others : List ℕ} → IsWrong bounds student line w k words →
      IsWrong bounds student line w k others → words ≡ others
  one_wrong {w = w} {k = k} (IsWrong.apart {c = c} {expected = x} {found = y} h unlike there)
      (IsWrong.apart {c = d} {expected = u} {found = v} g differs over) =
      let got = one_tree g.has h.has in
      let is = subst (λ got. IsComparison (names_of w got) w.tree got.tree d) got g.is in
      let same = comparison_is_one (names_of w h.got) w.tree h.got.tree c d h.is is in
      let both = one_there there (subst (λ got. HaveThere w got u v) got over) in
      ap (λ c. apart_words k c x y) same ∙ ap (λ x. apart_words k d x y) both.0 ∙ ap (apart_words k d u) both.1
  one_wrong (IsWrong.apart h unlike there) (IsWrong.no_tree none) = absurd (not_both h.has none)
  one_wrong (IsWrong.no_tree none) (IsWrong.apart h unlike there) = absurd (not_both h.has none)
  one_wrong {k = k} (IsWrong.no_tree none) (IsWrong.no_tree nothing) =
      ap (λ lack. on_input (lack_words lack) k) (one_lack none nothing)

  wrong_or_right : {line : List ℕ} {w : Seen} {k : ℕ} {words : List ℕ} → IsWrong bounds student line w k words →
      IsRight bounds student line w → ⊥
  wrong_or_right {w = w} (IsWrong.apart {c = c} h unlike there) r =
      let is = subst (λ got. IsComparison (names_of w got) w.tree got.tree Equal) (one_tree r.has h.has) r.is in
      unlike (comparison_is_one (names_of w h.got) w.tree h.got.tree c Equal h.is is)
  wrong_or_right (IsWrong.no_tree none) r = not_both r.has none

  first_of : (k : ℕ) (before after : List (List ℕ)) (passed others : List Seen) (line words : List ℕ) (w : Seen) →
      AllZip (IsRight bounds student) before passed → IsWrong bounds student line w (length before + k) words →
      FirstWrong bounds student k (before ++ (line ∷ after)) (passed ++ (w ∷ others)) words
  first_of k [] after [] others line words w p h =
      wrong_here (subst (λ n. IsWrong bounds student line w n words) (none_before k) h)
  first_of k [] after (v ∷ passed) others line words w p h = absurd p
  first_of k (x ∷ before) after [] others line words w p h = absurd p
  first_of k (x ∷ before) after (v ∷ passed) others line words w p h =
      wrong_later p.0 (first_of (suc k) before after passed others line words w p.1
      (subst (λ n. IsWrong bounds student line w n words) (one_before (length before) k) h))

  one_first : {k : ℕ} {inputs : List (List ℕ)} {wanted : List Seen} {words others : List ℕ} →
      FirstWrong bounds student k inputs wanted words → FirstWrong bounds student k inputs wanted others → words ≡ others
  one_first (wrong_here h) (wrong_here g) = one_wrong h g
  one_first (wrong_here h) (wrong_later r g) = absurd (wrong_or_right h r)
  one_first (wrong_later r h) (wrong_here g) = absurd (wrong_or_right g r)
  one_first (wrong_later r h) (wrong_later s g) = one_first h g

  not_all : {k : ℕ} {inputs : List (List ℕ)} {wanted : List Seen} {words : List ℕ} →
      AllZip (IsRight bounds student) inputs wanted → FirstWrong bounds student k inputs wanted words → ⊥
  not_all all (wrong_here h) = wrong_or_right h all.0
  not_all all (wrong_later r h) = not_all all.1 h

  first_in : (inputs before after : List (List ℕ)) (wanted passed others : List Seen) (line words : List ℕ) (w : Seen) →
      inputs ≡ before ++ (line ∷ after) → wanted ≡ passed ++ (w ∷ others) →
      AllZip (IsRight bounds student) before passed → IsWrong bounds student line w (length before + 1) words →
      FirstWrong bounds student 1 inputs wanted words
  first_in inputs before after wanted passed others line words w e g p h =
      subst₂ (λ inputs wanted. FirstWrong bounds student 1 inputs wanted words) (sym e) (sym g)
      (first_of 1 before after passed others line words w p h)

-- ---- a student

module _ {bounds : Bounds} {inputs : List (List ℕ)} {wanted : List Seen} where
  one_grade : {student words others : List ℕ} {fine good : Bool} → IsGrade bounds inputs wanted student words fine →
      IsGrade bounds inputs wanted student others good → (words ≡ others) × (fine ≡ good)
  one_grade (IsGrade.bad_text h) (IsGrade.bad_text g) = (one_fault h g, refl)
  one_grade (IsGrade.bad_text h) (IsGrade.equal f all) = absurd (no_function f h)
  one_grade (IsGrade.bad_text h) (IsGrade.wrong before after passed others f e g p w) = absurd (no_function f h)
  one_grade (IsGrade.equal f all) (IsGrade.bad_text h) = absurd (no_function f h)
  one_grade (IsGrade.equal f all) (IsGrade.equal g every) = (refl, refl)
  one_grade (IsGrade.equal f all)
      (IsGrade.wrong before after passed others {line = line} {words = words} {w = w} g d e p h) =
      absurd (not_all all (first_in inputs before after wanted passed others line words w d e p h))
  one_grade (IsGrade.wrong before after passed others f d e p h) (IsGrade.bad_text g) = absurd (no_function f g)
  one_grade (IsGrade.wrong before after passed others {line = line} {words = words} {w = w} g d e p h)
      (IsGrade.equal f all) =
      absurd (not_all all (first_in inputs before after wanted passed others line words w d e p h))
  one_grade (IsGrade.wrong before after passed others {line = line} {words = words} {w = w} f d e p h)
      (IsGrade.wrong front rest done more {line = other} {words = told} {w = v} g a b q k) = (
        one_first (first_in inputs before after wanted passed others line words w d e p h)
            (first_in inputs front rest wanted done more other told v a b q k),
        refl,
      )

  one_told : {work : Work} {words others : List ℕ} {fine good : Bool} → IsGradeOf bounds inputs wanted work words fine →
      IsGradeOf bounds inputs wanted work others good → (words ≡ others) × (fine ≡ good)
  one_told (IsGradeOf.of_text h) (IsGradeOf.of_text g) = one_grade h g
  one_told IsGradeOf.unread IsGradeOf.unread = (refl, refl)
  one_told IsGradeOf.too_long IsGradeOf.too_long = (refl, refl)

  one_text : {students : List Student} {text other : List ℕ} {fine good : Bool} →
      AreGrades bounds inputs wanted students text fine → AreGrades bounds inputs wanted students other good →
      (text ≡ other) × (fine ≡ good)
  one_text AreGrades.none AreGrades.none = (refl, refl)
  one_text (AreGrades.more {student = s} {words = words} {text = text} {fine = fine} {all = all} h rest)
      (AreGrades.more {words = others} {text = other} {fine = good} {all = every} g more) =
      let a = one_told h g in
      let b = one_text rest more in (
        ap (λ words. file_line s.name.items words ++ text) a.0
            ∙ ap (λ (text : List ℕ). file_line s.name.items others ++ text) b.0,
        ap (λ fine. fine && all) a.1 ∙ ap (λ all. good && all) b.1,
      )

-- ---- the solution

-- the first input on which it has no whole tree, of inputs from number k on
data FirstLack (bounds : Bounds) (solution : List ℕ) : ℕ → List (List ℕ) → List ℕ → Type 0 where
  lack_here : {k : ℕ} {line why : List ℕ} {after : List (List ℕ)} → HasNoWholeTree bounds solution line why →
      FirstLack bounds solution k (line ∷ after) (on_input why k)
  lack_later : {k : ℕ} {line words : List ℕ} {after : List (List ℕ)} {w : Seen} →
      HasWholeTree bounds solution line w → FirstLack bounds solution (suc k) after words →
      FirstLack bounds solution k (line ∷ after) words

module _ {bounds : Bounds} {solution : List ℕ} where
  lack_of : (k : ℕ) (before after : List (List ℕ)) (passed : List Seen) (line why : List ℕ) →
      AllZip (HasWholeTree bounds solution) before passed → HasNoWholeTree bounds solution line why →
      FirstLack bounds solution k (before ++ (line ∷ after)) (on_input why (length before + k))
  lack_of k [] after [] line why p h =
      subst (λ n. FirstLack bounds solution k (line ∷ after) (on_input why n)) (sym (none_before k)) (lack_here h)
  lack_of k [] after (w ∷ passed) line why p h = absurd p
  lack_of k (x ∷ before) after [] line why p h = absurd p
  lack_of k (x ∷ before) after (w ∷ passed) line why p h =
      subst (λ n. FirstLack bounds solution k (x ∷ (before ++ (line ∷ after))) (on_input why n)) (sym (one_before (length before) k))
      (lack_later p.0 (lack_of (suc k) before after passed line why p.1 h))

  one_first_lack : {k : ℕ} {inputs : List (List ℕ)} {words others : List ℕ} → FirstLack bounds solution k inputs words →
      FirstLack bounds solution k inputs others → words ≡ others
  one_first_lack {k} (lack_here h) (lack_here g) = ap (λ why. on_input why k) (one_why h g)
  one_first_lack (lack_here h) (lack_later w g) = absurd (not_whole w h)
  one_first_lack (lack_later w h) (lack_here g) = absurd (not_whole w g)
  one_first_lack (lack_later w h) (lack_later v g) = one_first_lack h g

  none_lacks : {k : ℕ} {inputs : List (List ℕ)} {words : List ℕ} (wanted : List Seen) →
      AllZip (HasWholeTree bounds solution) inputs wanted → FirstLack bounds solution k inputs words → ⊥
  none_lacks [] all (lack_here h) = all
  none_lacks [] all (lack_later w h) = all
  none_lacks (v ∷ wanted) all (lack_here h) = not_whole all.0 h
  none_lacks (v ∷ wanted) all (lack_later w h) = none_lacks wanted all.1 h

  lack_in : (inputs before after : List (List ℕ)) (passed : List Seen) (line why : List ℕ) →
      inputs ≡ before ++ (line ∷ after) → AllZip (HasWholeTree bounds solution) before passed →
      HasNoWholeTree bounds solution line why → FirstLack bounds solution 1 inputs (on_input why (length before + 1))
  lack_in inputs before after passed line why e p h =
      subst (λ inputs. FirstLack bounds solution 1 inputs (on_input why (length before + 1))) (sym e)
      (lack_of 1 before after passed line why p h)

  one_no_solution : {inputs : List (List ℕ)} {words others : List ℕ} → IsNoSolution bounds inputs solution words →
      IsNoSolution bounds inputs solution others → words ≡ others
  one_no_solution (IsNoSolution.bad_text h) (IsNoSolution.bad_text g) = one_fault h g
  one_no_solution (IsNoSolution.bad_text h) (IsNoSolution.no_tree before after passed f e p w) = absurd (no_function f h)
  one_no_solution (IsNoSolution.no_tree before after passed f e p w) (IsNoSolution.bad_text h) = absurd (no_function f h)
  one_no_solution {inputs} (IsNoSolution.no_tree before after passed {line = line} {words = why} f e p h)
      (IsNoSolution.no_tree front rest done {line = other} {words = cause} g d q k) =
      one_first_lack (lack_in inputs before after passed line why e p h) (lack_in inputs front rest done other cause d q k)

  solved_or_not : {inputs : List (List ℕ)} {words : List ℕ} (wanted : List Seen) → IsTermText solution →
      AllZip (HasWholeTree bounds solution) inputs wanted → IsNoSolution bounds inputs solution words → ⊥
  solved_or_not wanted f all (IsNoSolution.bad_text h) = no_function f h
  solved_or_not {inputs} wanted f all (IsNoSolution.no_tree before after passed {line = line} {words = why} g e p h) =
      none_lacks wanted all (lack_in inputs before after passed line why e p h)

-- ---- all

pub one_grading : OneGrading
one_grading inputs solution students bounds text other e f (IsGraded.bad_inputs h) (IsGraded.bad_inputs g) =
    (ap (λ text. codes "inputs: " ++ text) (one_line h g), refl)
one_grading inputs solution students bounds text other e f (IsGraded.bad_inputs h) (IsGraded.no_inputs i) =
    absurd (no_inputs i h)
one_grading inputs solution students bounds text other e f (IsGraded.bad_inputs h) (IsGraded.no_solution i some w) =
    absurd (no_inputs i h)
one_grading inputs solution students bounds text other e f (IsGraded.bad_inputs h) (IsGraded.graded i some g z a) =
    absurd (no_inputs i h)
one_grading inputs solution students bounds text other e f (IsGraded.no_inputs i) (IsGraded.bad_inputs h) =
    absurd (no_inputs i h)
one_grading inputs solution students bounds text other e f (IsGraded.no_inputs i) (IsGraded.no_inputs j) = (refl, refl)
one_grading inputs solution students bounds text other e f (IsGraded.no_inputs i) (IsGraded.no_solution j some w) =
    absurd (some (one_inputs j i))
one_grading inputs solution students bounds text other e f (IsGraded.no_inputs i) (IsGraded.graded j some g z a) =
    absurd (some (one_inputs j i))
one_grading inputs solution students bounds text other e f (IsGraded.no_solution i some w) (IsGraded.bad_inputs h) =
    absurd (no_inputs i h)
one_grading inputs solution students bounds text other e f (IsGraded.no_solution i some w) (IsGraded.no_inputs j) =
    absurd (some (one_inputs i j))
one_grading inputs solution students bounds text other e f (IsGraded.no_solution {words = words} i some w)
    (IsGraded.no_solution {words = others} j more v) =
    let v' = subst (λ kept. IsNoSolution bounds kept solution others) (one_inputs j i) v in
    (ap (λ words. file_line (codes "solution") words) (one_no_solution w v'), refl)
one_grading inputs solution students bounds text other e f (IsGraded.no_solution {words = words} i some w)
    (IsGraded.graded {wanted = wanted} j more g z a) =
    absurd (solved_or_not wanted g z
    (subst (λ kept. IsNoSolution bounds kept solution words) (one_inputs i j) w))
one_grading inputs solution students bounds text other e f (IsGraded.graded i some g z a) (IsGraded.bad_inputs h) =
    absurd (no_inputs i h)
one_grading inputs solution students bounds text other e f (IsGraded.graded i some g z a) (IsGraded.no_inputs j) =
    absurd (some (one_inputs i j))
one_grading inputs solution students bounds text other e f (IsGraded.graded {wanted = wanted} i some g z a)
    (IsGraded.no_solution {words = words} j more w) =
    absurd (solved_or_not wanted g z
    (subst (λ kept. IsNoSolution bounds kept solution words) (one_inputs j i) w))
one_grading inputs solution students bounds text other e f
    (IsGraded.graded {kept = kept} {wanted = wanted} {all = fine} i some g z a)
    (IsGraded.graded {kept = lines} {wanted = trees} {all = good} j more h y b) =
    let same = one_inputs j i in
    let y' = subst (λ kept. AllZip (HasWholeTree bounds solution) kept trees) same y in
    let alike = one_list (HasWholeTree bounds solution) (λ line a b. one_whole a b) kept trees wanted y' z in
    let b' = subst₂ (λ kept wanted. AreGrades bounds kept wanted students other good) same alike b in
    let one = one_text a b' in
    (one.0, ap (λ (all : Bool). if all then Yes else No) one.1)
