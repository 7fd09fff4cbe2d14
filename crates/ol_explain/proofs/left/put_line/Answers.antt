-- A line is put piece by piece.
use Rattle.std.proofs.Common.{rules, ◌≡◌, ℕ, List, [], ◌∷◌, ◌++◌, OnOk, ap, ◌∙◌, subst}
use Rattle.std.specs.Prelude.{string_bytes}
use Rattle.std.specs.Fmt.{decimal}
use Rattle.std.proofs.lemmas.List.{append_assoc}
use Rattle.ol_view.specs.TraceTexts.{name_text}
use Rattle.ol_view.specs.RuleNames.{rule_text}
use Rattle.ol_explain.proofs.left.put_line.Goals as goal

joined : (b0 b1 b2 b3 b4 b5 b6 b7 r w x y : List ℕ) → b1 ≡ b0 ++ r → b2 ≡ b1 ++ 32 ∷ [] →
    b3 ≡ b2 ++ w → b4 ≡ b3 ++ 32 ∷ [] → b5 ≡ b4 ++ x → b6 ≡ b5 ++ 32 ∷ [] → b7 ≡ b6 ++ y →
    b7 ++ 10 ∷ [] ≡ b0 ++ (r ++ (32 ∷ w ++ (32 ∷ x ++ (32 ∷ y ++ 10 ∷ []))))
joined b0 b1 b2 b3 b4 b5 b6 b7 r w x y e1 e2 e3 e4 e5 e6 e7 = search (rules, append_assoc)

pub returns : goal.returns
returns c =
    let b0 = string_bytes c.args.text.now in
    subst (λ words. OnOk c.put-5.result (string_bytes c.put-5.new.text ≡ words))
    (joined b0 (string_bytes c.put.new.text) (string_bytes c.put-2.new.text) (string_bytes c.put_number.new.text)
    (string_bytes c.put-3.new.text) (string_bytes c.put_name.new.text) (string_bytes c.put-4.new.text)
    (string_bytes c.put_name-2.new.text) (rule_text c.args.entry.rule) (decimal c.args.wave)
    (name_text c.args.entry.first) (name_text c.args.entry.second)
    (c.in_ok-put.ensures ∙ ap (λ word. b0 ++ word) c.rule_word.ensures) c.in_ok-put-2.ensures
    c.in_ok-put_number.ensures c.in_ok-put-3.ensures c.in_ok-put_name.ensures c.in_ok-put-4.ensures
    c.in_ok-put_name-2.ensures)
    c.put-5.ensures
