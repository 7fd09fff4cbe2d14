use Rattle.std.proofs.Common.{◌≡◌, ℕ, List, [], refl, sym, ◌∙◌, subst}
use Rattle.std.specs.Prelude.{codes}
use Rattle.std.proofs.lemmas.List.{append-nil}
use Rattle.ol_net.specs.Graph.{Graph}
use Rattle.ol_view.specs.declared.answers.Check.{Check}
use Rattle.ol_subjects.specs.declared.answers.End.{End}
use Rattle.ol_view.specs.declared.answers.Check.TheVariants.{Complete, Run}
use Rattle.ol_explain.specs.Explained.{IsExplainedOf}
use Rattle.ol_explain.specs.Explained as of
use Rattle.ol_explain.specs.Explanations.{IsBelow, IsExplanation}
use Rattle.ol_explain.specs.Judged.{end_of}
use Rattle.ol_explain.proofs.Lefts.{tells_left}
use Rattle.ol_explain.proofs.Reasoned.{no_other}
use Rattle.ol_explain.proofs.explaining.ended.Goals as goal

-- what is said, where this is found
explanation : (g : Graph) (journal text : List ℕ) (e : End) (found c : Check) → found ≡ c → e ≡ end_of c →
    IsExplainedOf g journal text (end_of c) → (below : List ℕ) → IsBelow c text below →
    IsExplanation g journal text e found
explanation g journal text e found c is end_is explained below b =
    subst (λ found. IsExplanation g journal text e found) (sym is) (record {
      explained = subst (λ e. IsExplainedOf g journal text e) (sym end_is) explained;
      end_is = end_is;
      below = below;
      text_is = b;
    })

pub run_and_left-requires-clause-entries : goal.run_and_left-requires-clause-entries
run_and_left-requires-clause-entries c = c.requires.told.begins.few

pub unreachable-requires : goal.unreachable-requires
unreachable-requires c = no_other c.args.net.now c.args.journal.now c.args.replay.now _
    c.in_ok-found.ensures.read_again c.requires.told (λ e. let q = c.in-BadText.is in absurd (cc))
    (λ n e. let q = c.in-BadText.is in absurd (cc))

pub unreachable-requires-in-NotARun : goal.unreachable-requires-in-NotARun
unreachable-requires-in-NotARun c = no_other c.args.net.now c.args.journal.now c.args.replay.now _
    c.in_ok-found.ensures.read_again c.requires.told (λ e. let q = c.in-NotARun.is in absurd (cc))
    (λ n e. let q = c.in-NotARun.is in absurd (cc))

pub returns-in_ok-answer-in-Complete : goal.returns-in_ok-answer-in-Complete
returns-in_ok-answer-in-Complete c =
    let a = c.in_ok-answer-in-Complete in
    explanation c.args.net.now c.args.journal.now a.answer.text.items a.answer.end c.in_ok-found.found Complete
    c.in-Complete.is a.ensures.end
    (of.IsExplainedOf.complete ((c.in_ok-found.ensures.exact Complete).0 c.in-Complete.is) a.ensures.text) []
    (a.ensures.text ∙ sym (append-nil (codes "complete\n")))

pub returns-in_ok-answer-in-Run : goal.returns-in_ok-answer-in-Run
returns-in_ok-answer-in-Run c =
    let a = c.in_ok-answer-in-Run in
    explanation c.args.net.now c.args.journal.now a.answer.text.items a.answer.end (Run c.in-Run.k) (Run c.in-Run.k)
    refl a.ensures.end
    (of.IsExplainedOf.run ((c.in_ok-found.ensures.exact (Run c.in-Run.k)).0 c.in-Run.is)
    (tells_left c.args.net.now c.is_net.ensures.net c.args.replay.now c.requires.replay c.args.journal.now
    a.ensures.text.0 c.requires.told a.ensures.text.1) a.ensures.text.2) a.ensures.text.0 a.ensures.text.2
