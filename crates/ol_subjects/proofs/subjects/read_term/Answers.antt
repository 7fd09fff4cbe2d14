use Rattle.std.proofs.Common.{◌<◌, ◌≤◌, ◌⊎◌, inl, inr, refl, arith}
use Rattle.std.specs.Fmt.{digits}
use Rattle.std.proofs.lemmas.Bool.{cases_lt}
use Rattle.ol_term.specs.Trees.{tree_of}
use Rattle.ol_translate.specs.Sizes.{size_of_translation}
use Rattle.ol_subjects.specs.Subjects.{syntax_at, deep, large}
use Rattle.ol_translate.proofs.TermSizes.{counted}
use Rattle.ol_subjects.proofs.subjects.read_term.Goals as goal

pub returns-in-Ok-translate : goal.returns-in-Ok-translate
returns-in-Ok-translate c =
    let p = c.in-Ok.ensures in
    let n = c.in-Ok-translate.ensures in
    let small : size_of_translation c.args.translation (tree_of c.in-Ok.file.term) ≤ 200000 = go
    (cases_lt 200000 (size_of_translation c.args.translation (tree_of c.in-Ok.file.term))) in
    record {
      term = record { file = p.file; shallow = p.shallow; small = small };
      ready = record { same = n.net; numbers = n.numbers };
      few = (let e = n.size in omega (arith, small));
      counted = counted c.args.translation (tree_of c.in-Ok.file.term) small;
    }
  where
    go : (200000 < size_of_translation c.args.translation (tree_of c.in-Ok.file.term))
        ⊎ (size_of_translation c.args.translation (tree_of c.in-Ok.file.term) ≤ 200000) →
        size_of_translation c.args.translation (tree_of c.in-Ok.file.term) ≤ 200000
    go (inl past) = let e = (c.in-Ok-translate.ensures.too_many (λ e. absurd (cc))).1 past in absurd (cc)
    go (inr small) = small

pub returns-in-Ok : goal.returns-in-Ok
unfolding digits
returns-in-Ok c =
    let p = c.in-Ok.ensures in
    let past = (c.in-Err-translate.ensures.too_many (λ e. absurd (cc))).0 (rw c.in-TooMany.is refl) in
    large (tree_of c.in-Ok.file.term) c.in-Ok.file.names p.file p.shallow past c.in_ok-text-in-TooMany.ensures

pub returns-in-Syntax : goal.returns-in-Syntax
returns-in-Syntax c =
    let told = (c.in-Err.ensures.syntax (λ e. absurd (cc)) c.in-Syntax.at).0 (rw c.in-Syntax.is refl) in
    syntax_at c.in-Syntax.at told c.in_ok-text-in-Syntax.ensures

pub returns : goal.returns
unfolding digits
returns c =
    let told = (c.in-Err.ensures.too_deep (λ e. absurd (cc)) c.in-Depth.depth).0 (rw c.in-Depth.is refl) in
    deep c.in-Depth.depth told c.in_ok-text-in-Depth.ensures
