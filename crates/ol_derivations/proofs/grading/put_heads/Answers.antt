use Rattle.std.proofs.Common.{◌≡◌, ◌++◌, List, ℕ, ap, ◌∙◌, subst, rules}
use Rattle.ol_derivations.specs.Heads.{IsHeadText}
use Rattle.ol_derivations.proofs.Said.{heads_told}
use Rattle.ol_derivations.proofs.grading.put_heads.Goals as goal

pub returns : goal.returns
returns c =
    let expected = c.in_ok-expected.expected.items in
    let found = c.in_ok-found.found.items in
    let one = c.put.new.text.items in
    let three = c.put-3.new.text.items in
    let e : c.deref.result.now ≡ expected = search rules in
    let f : c.deref-2.result.now ≡ found = search rules in
    record {
      expected = expected;
      found = found;
      of_wanted = λ k p. subst (λ all. IsHeadText all c.args.wanted.now.names c.args.wanted.now.tree k expected)
          c.in_ok-all.ensures (c.in_ok-expected.ensures k p);
      of_got = λ k p. subst (λ all. IsHeadText all c.args.got.now.names c.args.got.now.tree k found)
          c.in_ok-all.ensures (c.in_ok-found.ensures k p);
      told = heads_told c.args.text.now.items one c.put-2.new.text.items three c.put-4.new.text.items expected found
          c.in_ok-put.ensures (c.in_ok-put-2.ensures ∙ ap (λ (s : List ℕ). one ++ s) e)
          c.in_ok-put-3.ensures (c.in_ok-put-4.ensures ∙ ap (λ (s : List ℕ). three ++ s) f);
    }
