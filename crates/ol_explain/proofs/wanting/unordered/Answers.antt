use Rattle.std.proofs.Common.{◌≡◌, List, ℕ, ◌++◌, ap, ◌∙◌}
use Rattle.std.specs.Prelude.{codes}
use Rattle.std.specs.Fmt.{decimal}
use Rattle.ol_view.specs.TraceTexts.{name_text}
use Rattle.ol_explain.specs.Afters.{line_with}
use Rattle.ol_explain.proofs.Cuts.{told}
use Rattle.ol_explain.proofs.wanting.unordered.Goals as goal

pub returns-clause-text : goal.returns-clause-text
returns-clause-text c =
    let words : List ℕ = codes " a name greater than " ++ name_text c.args.first in
    let w : c.as_bytes.result.now ≡ words = c.as_bytes.ensures.value ∙ c.in_ok-put_name.ensures
    ∙ ap (λ (s : List ℕ). s ++ name_text c.args.first) (c.in_ok-put.ensures
    ∙ ap (λ (s : List ℕ). s ++ codes " a name greater than ") c.new-words.ensures.bytes) in
    told c.in_ok-text.text.items c.put-2.new.text.items c.put-3.new.text.items
    (line_with (codes "bad text at line ") c.args.line) (codes "byte ") (decimal c.args.start) (codes ": wanted") words
    (codes "\n") c.in_ok-text.ensures (c.in_ok-put-2.ensures ∙ ap (λ (s : List ℕ). c.in_ok-text.text.items ++ s) w)
    c.in_ok-put-3.ensures
