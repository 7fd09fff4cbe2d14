use Rattle.std.proofs.Common.{◌≡◌, ◌+◌, List, ℕ, rules, sym, ap, ◌∙◌, subst, arith}
use Rattle.std.specs.Prelude.{All}
use Rattle.ol_derivations.specs.Applications.{IsInput}
use Rattle.ol_derivations.specs.Derivations.{IsRead, line_text}
use Rattle.ol_derivations.specs.declared.applying.Input.{Input}
use Rattle.ol_derivations.specs.declared.lines.Read.{Read}
use Rattle.ol_derivations.specs.declared.lines.Read.TheVariants as read
use Rattle.ol_derivations.proofs.LineByLine.{line_here, none_left}
use Rattle.ol_derivations.specs.Grades.{AreInputs, HasNoInputs}
use Rattle.ol_derivations.specs.StudentsSoFar.{seen_lines, texts_of}
use Rattle.ol_derivations.proofs.InputByInput.{Onward, begins, function_of, passes, keeps, stops, all_kept, texts_push, no_input, one_more_input}
use Rattle.ol_derivations.proofs.inputs.inputs_of.Goals as goal
use Rattle.ol_derivations.proofs.inputs.inputs_of.Goals.{in-LeftOut, in-Term+in_ok-further-in-Term+in_ok-push-in-Term}

pub loop-k-init : goal.loop-k-init
loop-k-init c =
    let e = c.new-kept.ensures.items in (
      begins (seen_lines c.in_ok-lines.lines.items) (texts_of c.new-kept.result.items) (ap texts_of e),
      subst (λ (kept : List Input). All IsInput kept) (sym e) no_input,
    )

pub returns-in-NoTerm : goal.returns-in-NoTerm
returns-in-NoTerm c =
    let items = c.in_ok-lines.lines.items in
    let lines = seen_lines items in
    let l = c.loop-k in
    let line = c.index-line.result.now.now in
    let words = c.in-NoTerm.words in
    let text = c.in_ok-text-in-NoTerm.text.items in
    let is : IsRead line (read.NoTerm words) =
    subst (λ (r : Read). IsRead line r) c.in-NoTerm.is c.in_ok-read_line.ensures in
    let w : c.deref.result.now ≡ words.items = search rules in
    let e : text ≡ line_text (l.k + 1) words.items =
    c.in_ok-text-in-NoTerm.ensures ∙ ap (λ words. line_text (l.k + 1) words) w in
    let d = line_here items l.k c.index-line.result.now
    (omega (arith, c.loop-k-test.true, c.len-k-end.ensures, c.in_ok-lines.lines.ok.0)) c.index-line.ensures in
    subst (λ lines. HasNoInputs 1 lines text) c.in_ok-lines.ensures
    (subst (HasNoInputs 1 lines) (sym e)
    (stops lines (texts_of l.kept.items) l.k line d l.invariant.0 words.items is.0 is.1))

pub loop-k-preserved : goal.loop-k-preserved
loop-k-preserved c =
    let items = c.in_ok-lines.lines.items in
    let lines = seen_lines items in
    let l = c.loop-k in
    let x = c.index-line.result.now in
    let d = line_here items l.k x
    (omega (arith, c.loop-k-test.true, c.len-k-end.ensures, c.in_ok-lines.lines.ok.0)) c.index-line.ensures in
    elim c.match-branch-3.branch [
      | in-LeftOut w ↦
          let is : IsRead x.now read.LeftOut =
          subst (λ (r : Read). IsRead x.now r) w.in-LeftOut.is c.in_ok-read_line.ensures in
          let e = ap (λ k. k.items) w.kept-is in (
            subst (λ (kept : List Input). Onward lines (texts_of kept) (l.k + 1)) (sym e)
                (passes lines (texts_of l.kept.items) l.k x.now d l.invariant.0 is),
            subst (λ (kept : List Input). All IsInput kept) (sym e) l.invariant.1,
          )
      | in-Term+in_ok-further-in-Term+in_ok-push-in-Term w ↦
          let is = subst (λ (r : Read). IsRead x.now r) w.in-Term.is c.in_ok-read_line.ensures in
          let e = ap (λ k. k.items) w.kept-is ∙ w.in_ok-push-in-Term.ensures.items in
          let input : Input = record { text = x; file = w.in-Term.file; further = w.in_ok-further-in-Term.further } in (
            subst (λ (kept : List (List ℕ)). Onward lines kept (l.k + 1))
                (sym (ap texts_of e ∙ texts_push l.kept.items input))
                (keeps lines (texts_of l.kept.items) l.k x.now d l.invariant.0 _ _ is.0 is.1),
            subst (λ (kept : List Input). All IsInput kept) (sym e)
                (one_more_input l.kept.items input l.invariant.1
                (record { line = is.1; arguments = w.in_ok-further-in-Term.ensures })),
          )
    ]

pub returns : goal.returns
returns c =
    let items = c.in_ok-lines.lines.items in
    let l = c.loop-k in (
      subst (λ lines. AreInputs lines (texts_of l.kept.items)) c.in_ok-lines.ensures
          (all_kept (seen_lines items) (texts_of l.kept.items) l.k
          (none_left items l.k (omega (arith, c.loop-k-test.false, c.len-k-end.ensures, c.in_ok-lines.lines.ok.0)))
          l.invariant.0),
      l.invariant.1,
    )

pub further_of-requires : goal.further_of-requires
further_of-requires c =
    let line = c.index-line.result.now.now in
    let is = subst (λ (r : Read). IsRead line r) c.in-Term.is c.in_ok-read_line.ensures in
    record { line = function_of line _ _ is.1 }
