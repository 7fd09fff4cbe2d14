-- What is fed and not answered is a run, and what is a run isn't answered.
use Rattle.std.proofs.Common.{◌≡◌, ℕ, ◌+◌, List, [], ◌∷◌, ◌++◌, append_assoc, length}
use Rattle.std.proofs.Common.{Option, None, Some, inr, refl, sym, ap, ◌∙◌, subst, arith}
use Rattle.ol_net.specs.Pairs.{IsComplete}
use Rattle.ol_view.specs.declared.answers.Check.TheVariants.{Complete, Run, BadText}
use Rattle.ol_view.specs.declared.forms.Form.{Form}
use Rattle.ol_view.specs.Checks.{start_net_of_graph, BeginsWithRun}
use Rattle.ol_view.specs.Feeding.{IsOpenLine, IsRunSoFar, in_first_line, FedIsARun, RunIsNotAnswered}
use Rattle.ol_view.proofs.FoundCases.{found_of, bad_text}
use Rattle.ol_view.proofs.Fronts.{only_line, open_none, run_so_far}
use Rattle.ol_view.proofs.OneFound.{read_again}

pub fed_run : FedIsARun
fed_run net text c r = go c.form refl
  where
    go : (o : Option Form) → c.form ≡ o → IsRunSoFar (start_net_of_graph net) text
    go None f = in_first_line (subst IsOpenLine (sym (only_line net text c r.lines_read f)) r.line_open)
    go (Some form) f = run_so_far net text c r.lines_read form f r.line_open

-- Where nothing follows, the whole of the trace is found to be a run. Where a byte does, it is bad text.
pub run_not_answered : RunIsNotAnswered
run_not_answered net front more form journal waves last check is_net few short run is h =
    let start = start_net_of_graph net in
    let line : List ℕ = 0 ∷ [] in
    let again = read_again net is_net few (front ++ more) check ((h more check).0 refl)
    form journal waves last short run is in
    let begins : BeginsWithRun form start (front ++ (more ++ line)) journal waves last line =
    record {
      begins = sym (append_assoc front more line) ∙ ap (λ bs. bs ++ line) is;
      few = short;
      run = run;
    } in
    let bad : check ≡ BadText (length journal + 2) = (h (more ++ line) (BadText (length journal + 2))).1
    (found_of (bad_text begins (λ e. absurd (cc)) (inr (open_none form line ((λ z. omega arith), tt))))) in
    let not_complete : IsComplete last → ⊥ = λ k.
    let e : BadText (length journal + 2) ≡ Complete = sym bad ∙ again.0 k in absurd (cc) in
    let e : BadText (length journal + 2) ≡ Run (length journal) = sym bad ∙ again.1 not_complete in
    absurd (cc)
