-- The words for a link that a line created, its number counted from the header.
use Rattle.std.proofs.Common.{◌≡◌, ◌≢◌, ℕ, zero, suc, ◌+◌, ◌++◌, OnOk, refl, sym, ap, ◌∙◌, subst, arith}
use Rattle.std.specs.Prelude.{string_bytes, codes}
use Rattle.std.specs.Fmt.{decimal}
use Rattle.ol_explain.specs.Explained.{link_text}
use Rattle.ol_explain.proofs.Pieces.{two, four}
use Rattle.ol_explain.proofs.causes.put_link.Goals as goal

by_line : (n weight : ℕ) → n ≢ 0 →
    codes "line " ++ decimal (n + 1) ++ codes " created the link, of weight " ++ decimal weight ≡ link_text n weight
by_line zero weight d = absurd (d refl)
by_line (suc n) weight d =
    ap (λ k. codes "line " ++ decimal k ++ codes " created the link, of weight " ++ decimal weight)
    (let q : suc n + 1 ≡ n + 2 = omega arith in q)

pub returns-then-joined-eq0 : goal.returns-then-joined-eq0
returns-then-joined-eq0 c =
    let b0 = string_bytes c.args.text.now in
    subst (λ words. OnOk c.put_number.result (string_bytes c.put_number.new.text ≡ words))
    (two b0 (string_bytes c.put.new.text) (codes "the first net has the link, of weight ") (decimal c.args.weight)
    c.in_ok-put.ensures
    ∙ ap (λ n. b0 ++ link_text n c.args.weight) (sym c.if-joined-eq0.true))
    c.put_number.ensures

pub returns : goal.returns
returns c =
    let b0 = string_bytes c.args.text.now in
    subst (λ words. OnOk c.put_number-2.result (string_bytes c.put_number-2.new.text ≡ words))
    (four b0 (string_bytes c.put-2.new.text) (string_bytes c.put_long.new.text) (string_bytes c.put-3.new.text)
    (codes "line ") (decimal (c.args.joined + 1)) (codes " created the link, of weight ") (decimal c.args.weight)
    c.in_ok-put-2.ensures c.in_ok-put_long.ensures c.in_ok-put-3.ensures
    ∙ ap (λ bs. b0 ++ bs) (by_line c.args.joined c.args.weight c.if-joined-eq0.false))
    c.put_number-2.ensures
