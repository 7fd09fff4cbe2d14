-- What the line of `equal` says of two terms.
use Rattle.std.proofs.Common.{◌≡◌, ℕ, List, [], ◌∷◌, Option, String, Global, refl, ap, arith}
use Rattle.std.specs.Fmt.{decimal}
use Rattle.ol_term.specs.Trees.{Tree}
use Rattle.ol_parse.specs.Grammar.{Named}
use Rattle.ol_parse.specs.Numbered.{names_of, number}
use Rattle.ol_equal.specs.declared.answers.Compared.{Compared}
use Rattle.ol_equal.specs.declared.answers.Compared.TheVariants as answer
use Rattle.ol_equal.specs.Texts.{path_text, compared_text}
use Rattle.ol_equal.specs.Walking.{dotted}
use Rattle.ol_law_confluence.specs.Reductions.{Convertible, turned, joined}
use Rattle.ol_law_confluence.specs.Compared.{TellsTerms, ShareNormalForm}
use Rattle.ol_law_confluence.proofs.Meetings.{convertible}
use Rattle.ol_law_confluence.proofs.Counts.{times, times_append}
use Rattle.ol_law_confluence.proofs.Printed.{decimal_none, feed}
use Rattle.ol_law_confluence.proofs.Lines.{line_of}
use Rattle.ol_cli.specs.Jobs.{Files}
use Rattle.ol_words.specs.declared.jobs.Job.TheVariants as jobs
use Rattle.ol_cli.specs.SourceLaws.{WritesOfSources}
use Rattle.ol_cli.specs.NormalForms.{SaysOfTwo, LineSaysOfTwo}
use Rattle.ol_cli.proofs.NormalLines.{file_of}

dotted_feeds : (ns : List ℕ) → times 10 (dotted ns) ≡ 0
dotted_feeds [] = refl
dotted_feeds (n ∷ ns) =
    let h = times_append 10 (decimal n) (dotted ns) in
    let k = decimal_none 10 feed.apart n in
    let j = dotted_feeds ns in
    omega arith

path_feeds : (path : List ℕ) → times 10 (path_text path) ≡ 0
path_feeds [] = refl
path_feeds (n ∷ ns) =
    let h = times_append 10 (decimal n) (dotted ns) in
    let k = decimal_none 10 feed.apart n in
    let j = dotted_feeds ns in
    omega arith

compared_feeds : (c : Compared) → times 10 (compared_text c) ≡ 0
compared_feeds answer.Equal = refl
compared_feeds (answer.Different path) = path_feeds path
compared_feeds (answer.Cut path) = path_feeds path

share_convertible : {t u : Tree} → ShareNormalForm t u → Convertible t u
share_convertible s = joined (convertible s.first) (turned (convertible s.second))

-- the first byte
abbrev first : List ℕ → ℕ
first [] = 0
first (b ∷ bs) = b

says_of_two : (t u : Named) (c : Compared) →
    TellsTerms (record { a = names_of t; b = names_of u }) (number t) (number u) c →
    SaysOfTwo t u (compared_text c)
says_of_two t u answer.Equal h =
    ((λ e. share_convertible h), (λ rest e. let k : 101 ≡ 100 = ap first e in absurd (omega arith)))
says_of_two t u (answer.Different path) h =
    ((λ e. let k : 100 ≡ 101 = ap first e in absurd (omega arith)), (λ rest e. h))
says_of_two t u (answer.Cut path) h = (
  (λ e. let k : 99 ≡ 101 = ap first e in absurd (omega arith)),
  (λ rest e. let k : 99 ≡ 100 = ap first e in absurd (omega arith)),
)

pub writes_of_two : (words : List (String Global)) (files : Files)
    (old new : Option (List ℕ)) → WritesOfSources words files old new →
    LineSaysOfTwo words files old new
writes_of_two words files old new w tr k fuel heads a b ask m n e f t u i j =
    let r =
    w (jobs.Equal tr k fuel heads a b) ask m n e f (number t) (number u) (names_of t) (names_of u)
    (file_of i) (file_of j) in
    record {
      line = compared_text r.compared;
      rest = [];
      one = line_of (compared_text r.compared) (compared_feeds r.compared);
      written = r.written;
      says = says_of_two t u r.compared r.tells;
    }
