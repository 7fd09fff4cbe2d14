-- What is said of a student never tells one text twice.
use Rattle.std.proofs.Common.{◌≡◌, ℕ, ◌+◌, ◌-◌, ◌<◌, ◌^◌, Bool, List, [], ◌∷◌, ◌++◌, length, take, codes, refl, sym, subst, subst₂, arith}
use Rattle.std.specs.Prelude.{slice_index_or}
use Rattle.std.specs.Fmt.{decimal, digits}
use Rattle.std.specs.List.{AllZip}
use Rattle.ol_readback.specs.Texts.{rounds}
use Rattle.ol_parse.specs.Parsed.{AreNames}
use Rattle.ol_readback.specs.declared.answers.ReadNode.{ReadNode}
use Rattle.ol_equal.specs.Comparing.{place_at}
use Rattle.ol_equal.specs.Texts.{path_text, compared_text}
use Rattle.ol_equal.specs.declared.answers.Compared.{Compared}
use Rattle.ol_equal.specs.declared.answers.Compared.TheVariants.{Equal, Different, Cut}
use Rattle.ol_subjects.specs.Limited.{bytes_words, depth_words, nodes_words}
use Rattle.ol_derivations.specs.Lines.{lines_of}
use Rattle.ol_derivations.specs.Heads.{IsHeadText}
use Rattle.ol_derivations.proofs.Plain.{Lacks, lacks_both}
use Rattle.ol_derivations.specs.declared.reading.Bounds.{Bounds}
use Rattle.ol_derivations.specs.declared.reading.Lack.{Lack}
use Rattle.ol_derivations.specs.declared.reading.Lack.TheVariants as lacks
use Rattle.ol_derivations.specs.declared.read_trees.Seen.{Seen}
use Rattle.ol_derivations.specs.declared.grading.Work.{Work}
use Rattle.ol_derivations.specs.Reads.{HasWholeTree, lack_words}
use Rattle.ol_derivations.specs.Grades.{IsTermText, IsNoTermText, place_words, on_input, IsRight, heads_words, IsWrong, IsGrade, IsGradeOf}
use Rattle.ol_derivations.specs.GradeLaws.{NoHeadTwice}
use Rattle.ol_derivations.proofs.Commas.{colon, comma, decimal_lacks, lacks_by, lacks_no_more, path_lacks, same_twice, text_lacks}
use Rattle.ol_derivations.proofs.Differing.{heads_differ, names_are}
use Rattle.ol_derivations.proofs.InputByInput.{AreFunctions, are_functions}

-- ---- texts without a colon

module _ (words head : List ℕ) where
  abbrev Ends : List ℕ → Type 0
  Ends text = text ≡ words ++ heads_words head head

  no_colon : (text : List ℕ) → Lacks 58 text → Ends text → ⊥
  no_colon text h e =
      lacks_no_more 58 words (codes " expected " ++ head ++ codes ", got " ++ head) (subst (Lacks 58) e h)

on_lacks : (words : List ℕ) (k : ℕ) → Lacks 58 words → Lacks 58 (on_input words k)
on_lacks words k h =
    lacks_both 58 (words ++ codes " on ") (decimal k)
    (lacks_both 58 words (codes " on ") h (lacks_by 58 (codes " on ") refl)) (decimal_lacks 58 colon k)

lack_lacks : (lack : Lack) → Lacks 58 (lack_words lack)
unfolding digits
lack_lacks lacks.Fuel = lacks_by 58 (codes "beyond the fuel") refl
lack_lacks lacks.Depth = lacks_by 58 depth_words refl
lack_lacks lacks.Nodes = lacks_by 58 nodes_words refl

no_dot : ◌≡◌ {A = ℕ} 46 58 → ⊥
no_dot e = omega (arith, e)

compared_lacks : (c : Compared) → Lacks 58 (compared_text c)
compared_lacks Equal = lacks_by 58 (codes "equal") refl
compared_lacks (Different path) =
    lacks_both 58 (codes "different at ") (path_text path) (lacks_by 58 (codes "different at ") refl)
    (path_lacks 58 colon no_dot path (lacks_by 58 (codes "root") refl))
compared_lacks (Cut path) =
    lacks_both 58 (codes "cut at ") (path_text path) (lacks_by 58 (codes "cut at ") refl)
    (path_lacks 58 colon no_dot path (lacks_by 58 (codes "root") refl))

place_lacks : (bytes : List ℕ) (at : ℕ) → Lacks 58 (codes "syntax, " ++ place_words bytes at)
place_lacks bytes at =
    let front = lines_of (take at bytes) in
    let one = codes "syntax, line " in
    let two = codes ", column " in
    let line = decimal (length front) in
    let column = decimal (length (slice_index_or front (length front - 1) []) + 1) in
    lacks_both 58 (one ++ line ++ two) column
    (lacks_both 58 (one ++ line) two
    (lacks_both 58 one line (lacks_by 58 one refl) (decimal_lacks 58 colon (length front))) (lacks_by 58 two refl))
    (decimal_lacks 58 colon (length (slice_index_or front (length front - 1) []) + 1))

equal_lacks : (n : ℕ) → Lacks 58 (codes "equal on " ++ decimal n ++ codes " of " ++ decimal n)
equal_lacks n =
    let one = codes "equal on " in
    let two = codes " of " in
    let d = decimal_lacks 58 colon n in
    lacks_both 58 (one ++ decimal n ++ two) (decimal n)
    (lacks_both 58 (one ++ decimal n) two (lacks_both 58 one (decimal n) (lacks_by 58 one refl) d) (lacks_by 58 two refl)) d

no_colon_told : {all names : List (List ℕ)} {ns : List ReadNode} {k : ℕ} {text : List ℕ} → AreNames names →
    IsHeadText all names ns k text → Lacks 58 text
no_colon_told {all} {names} {ns} {k} g h =
    subst (Lacks 58) (sym h.is)
    (text_lacks 58 colon no_dot (λ e. omega (arith, e)) all names (rounds 0 h.tree) k (place_at ns k) g)

no_comma_told : {all names : List (List ℕ)} {ns : List ReadNode} {k : ℕ} {text : List ℕ} → AreNames names →
    IsHeadText all names ns k text → Lacks 44 text
no_comma_told {all} {names} {ns} {k} g h =
    subst (Lacks 44) (sym h.is)
    (text_lacks 44 comma (λ e. omega (arith, e)) (λ e. omega (arith, e)) all names (rounds 0 h.tree) k (place_at ns k) g)

-- ---- places in lists

zip_at : {A B : Type 0} (R S : A → B → Type 0) (front : List A) (passed : List B) (x : A) (y : B) (after : List A)
    (others : List B) → AllZip S front passed → AllZip R (front ++ (x ∷ after)) (passed ++ (y ∷ others)) → R x y
zip_at R S [] [] x y after others s r = r.0
zip_at R S [] (z ∷ passed) x y after others s r = absurd s
zip_at R S (w ∷ front) [] x y after others s r = absurd s
zip_at R S (w ∷ front) (z ∷ passed) x y after others s r = zip_at R S front passed x y after others s.1 r.1

function_at : (front : List (List ℕ)) (line : List ℕ) (after : List (List ℕ)) →
    AreFunctions (front ++ (line ∷ after)) → IsTermText line
function_at [] line after h = h.0
function_at (x ∷ front) line after h = function_at front line after h.1

-- ---- a student

module _ (bounds : Bounds) (low : bounds.heads.most < 2 ^ 32) (solution : List ℕ) (g : IsTermText solution)
    (words head : List ℕ) where
  abbrev Told : List ℕ → Type 0
  Told text = text ≡ words ++ heads_words head head

  fault_told : {bytes text : List ℕ} → IsNoTermText bytes text → Told text → ⊥
  unfolding digits
  fault_told (IsNoTermText.long l) e =
      no_colon words head bytes_words (lacks_by 58 bytes_words refl) e
  fault_told {bytes} (IsNoTermText.syntax_at {at = at} s r) e =
      no_colon words head (codes "syntax, " ++ place_words bytes at) (place_lacks bytes at) e
  fault_told (IsNoTermText.deep s d) e =
      no_colon words head depth_words (lacks_by 58 depth_words refl) e

  module _ (student line : List ℕ) (w : Seen) (k : ℕ) (f : IsTermText student) (i : IsTermText line)
      (has : HasWholeTree bounds solution line w) where
    wrong_told : {text : List ℕ} → IsWrong bounds student line w k text → Told text → ⊥
    wrong_told (IsWrong.apart {c = c} {expected = expected} {found = found} h unlike there) e =
        let own = names_are has.0 in
        let other = names_are h.has in
        heads_differ bounds student solution line w c expected found low f g i has h unlike there
        (same_twice (on_input (compared_text c) k) words expected found head (on_lacks (compared_text c) k (compared_lacks c))
        (no_colon_told own there.of_wanted) (no_colon_told other there.of_got)
        (no_comma_told own there.of_wanted) (no_comma_told other there.of_got) e)
    wrong_told (IsWrong.no_tree {lack = lack} none) e =
        no_colon words head (on_input (lack_words lack) k) (on_lacks (lack_words lack) k (lack_lacks lack)) e

  module _ (kept : List (List ℕ)) (wanted : List Seen) (functions : AreFunctions kept)
      (all : AllZip (HasWholeTree bounds solution) kept wanted) where
    grade_told : {student text : List ℕ} {fine : Bool} → IsGrade bounds kept wanted student text fine → Told text → ⊥
    grade_told (IsGrade.bad_text h) e = fault_told h e
    grade_told (IsGrade.equal f right) e =
        no_colon words head (codes "equal on " ++ decimal (length kept) ++ codes " of " ++ decimal (length kept))
        (equal_lacks (length kept)) e
    grade_told {student} (IsGrade.wrong before after passed others {line = line} {w = w} f d b p h) e =
        let here = subst₂ (AllZip (HasWholeTree bounds solution)) d b all in
        wrong_told student line w (length before + 1) f (function_at before line after (subst AreFunctions d functions))
        (zip_at (HasWholeTree bounds solution) (IsRight bounds student) before passed line w after others p here) h e

    told : {work : Work} {text : List ℕ} {fine : Bool} → IsGradeOf bounds kept wanted work text fine → Told text → ⊥
    unfolding digits
    told (IsGradeOf.of_text h) e = grade_told h e
    told IsGradeOf.unread e =
        no_colon words head (codes "can't be read") (lacks_by 58 (codes "can't be read") refl) e
    told IsGradeOf.too_long e =
        no_colon words head bytes_words (lacks_by 58 bytes_words refl) e

pub no_head_twice : NoHeadTwice
no_head_twice bounds inputs solution kept wanted work words head fine low is f all h =
    told bounds low solution f words head kept wanted (are_functions is) all h refl
