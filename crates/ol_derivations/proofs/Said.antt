-- What is said of a student on an input, and of all files.
use Rattle.std.proofs.Common.{◌≡◌, ℕ, ◌++◌, Bool, true, false, append_assoc, List, Option, Some, None, sym, ap, ◌∙◌, subst, length, codes, Global}
use Rattle.std.specs.Fmt.{decimal}
use Rattle.std.specs.List.{AllZip}
use Rattle.std.specs.declared.vec.Vec.{Vec}
use Rattle.ol_subjects.specs.Limited.{bytes_words}
use Rattle.ol_equal.specs.Paths.{IsPathTo}
use Rattle.ol_equal.specs.Comparing.{IsComparison}
use Rattle.ol_equal.specs.Texts.{compared_text}
use Rattle.ol_equal.specs.declared.answers.Compared.{Compared}
use Rattle.ol_equal.specs.declared.answers.Compared.TheVariants.{Equal, Different, Cut}
use Rattle.ol_subjects.specs.declared.answers.End.{End}
use Rattle.ol_derivations.specs.declared.reading.Bounds.{Bounds}
use Rattle.ol_derivations.specs.declared.reading.Lack.{Lack}
use Rattle.ol_derivations.specs.declared.read_trees.Seen.{Seen}
use Rattle.ol_derivations.specs.declared.grading.Student.{Student}
use Rattle.ol_derivations.specs.declared.grading.Work.{Work}
use Rattle.ol_derivations.specs.declared.grading.Work.TheVariants as work
use Rattle.ol_derivations.specs.Reads.{HasTree, HasNoTree, HasNoWholeTree, lack_words}
use Rattle.ol_derivations.specs.Grades.{IsTermText, IsRight, IsWrong, IsGrade, IsGradeOf, IsGraded, names_of, on_input, heads_words}
use Rattle.ol_derivations.specs.StudentsSoFar.{AddsHeads, IsOn, IsPathOf, IsSaid, IsToldApart}

pub said_on : (bounds : Bounds) (student line : List ℕ) (wanted seen : Seen) (k : ℕ) (told : Option (Vec ℕ Global)) →
    HasTree bounds student line seen → IsSaid wanted seen k told → IsOn bounds student line wanted k told
said_on bounds student line wanted seen k None h s = record { got = seen; has = h; is = s }
said_on bounds student line wanted seen k (Some words) h s =
    subst (IsWrong bounds student line wanted k) (sym s.told)
    (IsWrong.apart (record { got = seen; has = h; is = s.is }) s.apart s.there)

-- two trees that aren't equal, and what is said of them
pub told_apart : (wanted got : Seen) (k : ℕ) (c : Compared) (path told text words : List ℕ) →
    IsComparison (names_of wanted got) wanted.tree got.tree c → IsPathOf c path → told ≡ compared_text c →
    text ≡ on_input told k → AddsHeads wanted got path text words → IsToldApart wanted got k words
told_apart wanted got k Equal path told text words h p t e a = absurd p
told_apart wanted got k (Different q) path told text words h p t e a = record {
  c = Different q;
  is = h;
  apart = λ e. absurd (cc);
  expected = a.expected;
  found = a.found;
  there = record {
    place = h.0;
    path = q;
    first = h.1;
    of_wanted = a.of_wanted h.0 (subst (λ path. IsPathTo wanted.tree h.0 path) p h.1.path_in_a);
    of_got = a.of_got h.0 (subst (λ path. IsPathTo got.tree h.0 path) p h.1.path_in_b);
  };
  told = a.told ∙ ap (λ text. text ++ heads_words a.expected a.found) (e ∙ ap (λ told. on_input told k) t);
}
told_apart wanted got k (Cut q) path told text words h p t e a = record {
  c = Cut q;
  is = h;
  apart = λ e. absurd (cc);
  expected = a.expected;
  found = a.found;
  there = record {
    place = h.0;
    path = q;
    first = h.1;
    of_wanted = a.of_wanted h.0 (subst (λ path. IsPathTo wanted.tree h.0 path) p h.1.path_in_a);
    of_got = a.of_got h.0 (subst (λ path. IsPathTo got.tree h.0 path) p h.1.path_in_b);
  };
  told = a.told ∙ ap (λ text. text ++ heads_words a.expected a.found) (e ∙ ap (λ told. on_input told k) t);
}

pub heads_told : (text a b c d expected found : List ℕ) → a ≡ text ++ codes ": expected " → b ≡ a ++ expected →
    c ≡ b ++ codes ", got " → d ≡ c ++ found → d ≡ text ++ heads_words expected found
heads_told text a b c d expected found e f g h =
    let one = codes ": expected " in
    let two = codes ", got " in
    h ∙ ap (λ s. s ++ found)
    (g ∙ ap (λ s. s ++ two) (f ∙ ap (λ s. s ++ expected) e ∙ append_assoc text one expected)
    ∙ append_assoc text (one ++ expected) two)
    ∙ append_assoc text (one ++ expected ++ two) found

-- a student without a text
pub unread_so : (bounds : Bounds) (inputs : List (List ℕ)) (wanted : List Seen) (w : Work) (text : List ℕ)
    (fine : Bool) → w ≡ work.Unread → text ≡ codes "can't be read" → fine ≡ false →
    IsGradeOf bounds inputs wanted w text fine
unread_so bounds inputs wanted w text fine e t f =
    subst (λ w. IsGradeOf bounds inputs wanted w text fine) (sym e)
    (subst (λ text. IsGradeOf bounds inputs wanted work.Unread text fine) (sym t)
    (subst (λ fine. IsGradeOf bounds inputs wanted work.Unread (codes "can't be read") fine) (sym f) IsGradeOf.unread))

pub too_long_so : (bounds : Bounds) (inputs : List (List ℕ)) (wanted : List Seen) (w : Work) (text : List ℕ)
    (fine : Bool) → w ≡ work.TooLong → text ≡ bytes_words → fine ≡ false →
    IsGradeOf bounds inputs wanted w text fine
too_long_so bounds inputs wanted w text fine e t f =
    subst (λ w. IsGradeOf bounds inputs wanted w text fine) (sym e)
    (subst (λ text. IsGradeOf bounds inputs wanted work.TooLong text fine) (sym t)
    (subst (λ fine. IsGradeOf bounds inputs wanted work.TooLong bytes_words fine) (sym f)
    IsGradeOf.too_long))

pub text_so : (bounds : Bounds) (inputs : List (List ℕ)) (wanted : List Seen) (w : Work) (bytes : Vec ℕ Global)
    (items words : List ℕ) (fine : Bool) → w ≡ work.Text bytes → items ≡ bytes.items →
    IsGrade bounds inputs wanted items words fine → IsGradeOf bounds inputs wanted w words fine
text_so bounds inputs wanted w bytes items words fine e i h =
    subst (λ w. IsGradeOf bounds inputs wanted w words fine) (sym e)
    (IsGradeOf.of_text (subst (λ (items : List ℕ). IsGrade bounds inputs wanted items words fine) i h))

pub lacks_on : (bounds : Bounds) (student line : List ℕ) (wanted : Seen) (k : ℕ) (lack : Lack) (words text : List ℕ) →
    text ≡ on_input words k → words ≡ lack_words lack → HasNoTree bounds student line lack →
    IsWrong bounds student line wanted k text
lacks_on bounds student line wanted k lack words text e w h =
    subst (IsWrong bounds student line wanted k) (sym (e ∙ ap (λ words. on_input words k) w)) (IsWrong.no_tree h)

pub equal_told : (bounds : Bounds) (inputs : List (List ℕ)) (wanted : List Seen) (student : List ℕ) (n : ℕ)
    (text : List ℕ) → length inputs ≡ n →
    text ≡ codes "equal on " ++ decimal n ++ codes " of " ++ decimal n → IsTermText student →
    AllZip (IsRight bounds student) inputs wanted → IsGrade bounds inputs wanted student text true
equal_told bounds inputs wanted student n text e t f h =
    subst (λ text. IsGrade bounds inputs wanted student text true)
    (sym (t ∙ ap (λ n. codes "equal on " ++ decimal n ++ codes " of " ++ decimal n) (sym e))) (IsGrade.equal f h)

-- a solution without a tree, and why
pub lacks_so : (bounds : Bounds) (solution line : List ℕ) (lack : Lack) (words text : List ℕ) (k : ℕ) →
    text ≡ on_input words k → words ≡ lack_words lack → HasNoTree bounds solution line lack →
    (why : List ℕ) × (text ≡ on_input why k) × HasNoWholeTree bounds solution line why
lacks_so bounds solution line lack words text k e w h =
    (lack_words lack, e ∙ ap (λ words. on_input words k) w, HasNoWholeTree.no_tree h)

pub graded_so : (inputs solution : List ℕ) (students : List Student) (bounds : Bounds) (text words : List ℕ)
    (e d : End) → text ≡ words → e ≡ d → IsGraded inputs solution students bounds words d →
    IsGraded inputs solution students bounds text e
graded_so inputs solution students bounds text words e d t q h =
    subst (λ e. IsGraded inputs solution students bounds text e) (sym q)
    (subst (λ text. IsGraded inputs solution students bounds text d) (sym t) h)
