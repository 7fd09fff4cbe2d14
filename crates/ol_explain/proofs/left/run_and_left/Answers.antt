-- A text that is appended to in four steps is the pieces in order.
use Rattle.std.proofs.Common.{◌≡◌, ℕ, List, [], ◌++◌, ap, ◌∙◌}
use Rattle.std.specs.Prelude.{string_bytes, codes}
use Rattle.std.specs.Fmt.{decimal}
use Rattle.ol_explain.proofs.left.run_and_left.Goals as goal

pieces : (b0 b1 b2 b3 b4 w n l x : List ℕ) → b0 ≡ [] → b1 ≡ b0 ++ w → b2 ≡ b1 ++ n → b3 ≡ b2 ++ l → b4 ≡ b3 ++ x →
    b4 ≡ w ++ n ++ l ++ x
pieces b0 b1 b2 b3 b4 w n l x e0 e1 e2 e3 e4 =
    e4 ∙ ap (λ b. b ++ x) (e3 ∙ ap (λ b. b ++ l) (e2 ∙ ap (λ b. b ++ n) (e1 ∙ ap (λ b. b ++ w) e0)))

pub returns-clause-text : goal.returns-clause-text
returns-clause-text c =
    let t = c.in_ok-put_left.ensures in (
      t.0,
      t.1,
      ap (λ v. v.items) c.into_bytes-text.ensures.value
          ∙ pieces (string_bytes c.new-text.result) (string_bytes c.put.new.text) (string_bytes c.put_number.new.text)
          (string_bytes c.put-2.new.text) (string_bytes c.put_left.new.text) (codes "run ") (decimal c.args.entries)
          (codes "\n") t.0 c.new-text.ensures.bytes c.in_ok-put.ensures c.in_ok-put_number.ensures
          c.in_ok-put-2.ensures t.2,
    )
