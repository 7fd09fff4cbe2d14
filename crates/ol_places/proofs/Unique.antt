-- A text has one answer.
use Rattle.std.proofs.Common.{◌≡◌, ℕ, List, ◌++◌, refl, sym, ap, ◌∙◌, arith}
use Rattle.std.specs.Prelude.{codes}
use Rattle.std.specs.Fmt.{decimal}
use Rattle.ol_term.specs.Trees.{depth}
use Rattle.ol_parse.proofs.Exact.{one_file}
use Rattle.ol_parse.proofs.Sizes.{one_dead_place}
use Rattle.ol_subjects.specs.declared.answers.End.{End}
use Rattle.ol_places.specs.Frees.{or_closed, IsFree, syntax_at, deep, told}

pub one_answer : (bytes text other : List ℕ) (e f : End) → IsFree bytes text e → IsFree bytes other f →
    (text ≡ other) × (e ≡ f)
one_answer bytes text other e f (syntax_at {at = m} r) (syntax_at {at = n} s) =
    (ap (λ k. codes "syntax at byte " ++ decimal k ++ codes "\n") (one_dead_place bytes m n r.1 s.1), refl)
one_answer bytes text other e f (syntax_at r) (deep d) = absurd (r.0 d.file.named d.file.text)
one_answer bytes text other e f (syntax_at r) (told g s each) = absurd (r.0 g.named g.text)
one_answer bytes text other e f (deep d) (syntax_at r) = absurd (r.0 d.file.named d.file.text)
one_answer bytes text other e f (deep c) (deep d) = (refl, refl)
one_answer bytes text other e f (deep d) (told {t = t} {names = names} g s each) =
    let same = ap depth (one_file bytes d.tree t d.names names d.file g).0 in
    let i = d.is in
    let a = d.above in
    absurd (omega arith)
one_answer bytes text other e f (told g s each) (syntax_at r) = absurd (r.0 g.named g.text)
one_answer bytes text other e f (told {t = t} {names = names} g s each) (deep d) =
    let same = ap depth (one_file bytes d.tree t d.names names d.file g).0 in
    let i = d.is in
    let a = d.above in
    absurd (omega arith)
one_answer bytes text other e f (told g s each) (told h r others) =
    (ap or_closed (each g.named g.text ∙ sym (others g.named g.text)), refl)
