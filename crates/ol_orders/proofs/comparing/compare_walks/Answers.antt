use Rattle.std.proofs.Common.{◌≡◌, ℕ, List, ◌++◌, codes, Option, Some, sym, ap, ◌∙◌, subst}
use Rattle.ol_net.specs.Graph.{Graph}
use Rattle.ol_net.specs.PartTexts.{port_text}
use Rattle.ol_net.specs.declared.parts.Port.{Port}
use Rattle.ol_orders.specs.Same.{IsComparison, both_words, differ, differs}
use Rattle.ol_orders.specs.Meetings.{Finds}
use Rattle.ol_subjects.specs.declared.answers.End.{End}
use Rattle.ol_orders.proofs.Renumbered.{not_one}
use Rattle.ol_orders.proofs.comparing.compare_walks.Goals as goal

-- the text, of the ports at a place of the walk
text_at : (a b : Graph) (p p' q q' : Port) → p ≡ p' → q ≡ q' → (text : List ℕ) →
    text ≡ codes "different at " ++ port_text p ++ codes ": " ++ both_words a b p q ++ codes "\n" →
    text ≡ codes "different at " ++ port_text p' ++ codes ": " ++ both_words a b p' q' ++ codes "\n"
text_at a b p p' q q' e f text t =
    t ∙ ap (λ p. codes "different at " ++ port_text p ++ codes ": " ++ both_words a b p q ++ codes "\n") e
    ∙ ap (λ q. codes "different at " ++ port_text p' ++ codes ": " ++ both_words a b p' q ++ codes "\n") f

pub returns-in-Some : goal.returns-in-Some
returns-in-Some c =
    let a = c.args.a.now in
    let b = c.args.b.now in
    let answer = c.in_ok-answer-in-Some in
    let found = subst (λ (o : Option (Port × Port)). Finds a b 0 c.in_ok-met.met.pairs.items o
    c.walk.new.met.pairs.items) c.in-Some.is c.in_ok-ports.ensures.found in
    let g = subst (λ (had : List (ℕ × ℕ)). Finds a b 0 had (Some c.in-Some.ports)
    c.walk.new.met.pairs.items) c.in_ok-met.ensures.none found in
    subst (λ (e : End). IsComparison a b answer.answer.text.items e) (sym answer.ensures.no)
    (differ (not_one a b c.is_tabled.ensures.tables c.is_tabled-2.ensures.tables g.0 g.1 g.2 g.3 g.4)
    (differs c.requires.free g.2 g.3 g.4)
    (text_at a b c.in-Some.ports.0 _ c.in-Some.ports.1 _ g.5 g.6 answer.answer.text.items answer.ensures.text))
