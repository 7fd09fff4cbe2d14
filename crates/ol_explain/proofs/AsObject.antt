-- An answer of lines, as an object.
use Rattle.std.proofs.Common.{◌≡◌, ◌+◌, ◌≤◌, ℕ, List, ◌++◌, length, drop, refl, sym, ap, ◌∙◌, subst, arith}
use Rattle.std.proofs.lemmas.List.{append_assoc, length-append, drop_at}
use Rattle.ol_net.specs.Graph.{Graph}
use Rattle.ol_view.specs.declared.answers.Check.{Check}
use Rattle.ol_subjects.specs.declared.answers.End.{End}
use Rattle.ol_subjects.specs.declared.subjects.Subject.{Subject}
use Rattle.ol_subjects.specs.Subjects.{IsSubject}
use Rattle.ol_explain.specs.Explained.{IsExplained, answered}
use Rattle.ol_explain.specs.Explanations.{IsExplanation}
use Rattle.ol_explain.specs.Judged.{end_of, found_line}
use Rattle.ol_explain.specs.Objects.{IsExplainedObject, found_members, object_line, why_member}
use Rattle.ol_explain.specs.Others.{TellsOther}

-- the lines below the first one
onward : (g : Graph) (journal : List ℕ) (found : Check) (e : End) (plain more whole : List ℕ) →
    (x : IsExplanation g journal plain e found) → whole ≡ plain ++ more → whole ≡ found_line found ++ (x.below ++ more)
onward g journal found e plain more whole x w =
    w ∙ ap (λ z. z ++ more) x.text_is ∙ append_assoc (found_line found) x.below more

pub fits : (g : Graph) (journal : List ℕ) (found : Check) (e : End) (plain more whole : List ℕ) →
    IsExplanation g journal plain e found → whole ≡ plain ++ more → length (found_line found) ≤ length whole
fits g journal found e plain more whole x w =
    let q : length whole ≡ length (found_line found) + length (x.below ++ more) =
    ap length (onward g journal found e plain more whole x w) ∙ length-append (found_line found) (x.below ++ more) in
    omega arith

pub as_object : (bytes journal : List ℕ) (subject : Subject) (g : Graph) (found : Check) (e : End)
    (plain more whole text : List ℕ) → IsSubject subject bytes g → IsExplanation g journal plain e found →
    TellsOther bytes journal subject e more → whole ≡ plain ++ more →
    text ≡ object_line (found_members found ++ why_member (drop (length (found_line found)) whole)) →
    IsExplainedObject bytes journal text subject e
as_object bytes journal subject g found e plain more whole text s x o w t =
    let q = onward g journal found e plain more whole x w in
    let i : IsExplained bytes journal whole subject e = answered s x.explained o w in
    let j : IsExplained bytes journal (found_line found ++ (x.below ++ more)) subject (end_of found) =
    subst (λ z. IsExplained bytes journal (found_line found ++ (x.below ++ more)) subject z) x.end_is
    (subst (λ z. IsExplained bytes journal z subject e) q i) in
    subst (λ z. IsExplainedObject bytes journal text subject z) (sym x.end_is)
    (IsExplainedObject.explained found (x.below ++ more) j (t
    ∙ ap (λ z. object_line (found_members found ++ why_member z)) (ap (drop (length (found_line found))) q
    ∙ drop_at (found_line found) (x.below ++ more) (length (found_line found)) refl)))
