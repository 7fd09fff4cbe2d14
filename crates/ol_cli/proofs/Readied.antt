-- The answer to a term file, by what it was made ready for.
use Rattle.std.proofs.Common.{◌≡◌, ℕ, ◌+◌, ◌<◌, ◌≤◌, List, length, Option, None, arith}
use Rattle.ol_term.specs.declared.translations.Translation.{Translation}
use Rattle.ol_term.specs.Trees.{Tree, depth}
use Rattle.ol_parse.specs.Parsed.{IsFileOf}
use Rattle.ol_net.specs.Graph.{Graph}
use Rattle.ol_net.specs.Nets.{SameNet}
use Rattle.ol_net.specs.Numbered.{net_of, all_live}
use Rattle.ol_net.specs.Indexes.{top_index_of}
use Rattle.ol_translate.specs.Sizes.{size_of_translation}
use Rattle.ol_translate.specs.Translation.{nodes_of, translation_of}
use Rattle.ol_wire.specs.Closed.{ClosedTable}
use Rattle.ol_words.specs.declared.jobs.Job.{Job}
use Rattle.ol_cli.specs.declared.status.Status.{Status}
use Rattle.ol_cli.specs.declared.status.Status.TheVariants.{Syntax, Limit}
use Rattle.ol_cli.specs.Jobs.{translation_in}
use Rattle.ol_cli.specs.TermFiles.{IsTermFile}
use Rattle.ol_cli.specs.Cases.{TermAnswer, FileAnswer}
use Rattle.ol_cli.specs.Handed.{WhereEnded}
use Rattle.ol_cli.specs.Ready.{Refuses, IsReady}
use Rattle.ol_cli.proofs.Exact.{term_status}
use Rattle.ol_cli.proofs.Handing.{whole_net}

-- ---- a file that is refused

module _ (job : Job) (bytes : List ℕ) where
  pub refuses_answer : (st : Status) (text : List ℕ) →
      Refuses (translation_in job) bytes st text → FileAnswer job bytes st text
  refuses_answer Syntax text r = r
  refuses_answer Limit text r = r
  refuses_answer _ text r = absurd r

pub refuses_hands : (tr : Translation) (bytes : List ℕ) (st : Status) (text : List ℕ)
    (closed : Option ClosedTable) (P : Type 0) → Refuses tr bytes st text → closed ≡ None → WhereEnded st closed P
refuses_hands tr bytes Syntax text closed P r e = e
refuses_hands tr bytes Limit text closed P r e = e
refuses_hands tr bytes _ text closed P r e = absurd r

-- ---- a file whose term is answered

pub term_answer : (job : Job) (bytes : List ℕ) (t : Tree) (names : List (List ℕ)) →
    IsTermFile (translation_in job) bytes t names → (st : Status) (text : List ℕ) →
    TermAnswer job t names st text → FileAnswer job bytes st text
term_answer job bytes t names i Syntax text h = absurd (term_status job t names Syntax text h)
term_answer job bytes t names i Limit text h = absurd (term_status job t names Limit text h)
term_answer job bytes t names i _ text h = (t, names, i, h)

-- ---- the net of a term

small_of : (m n : ℕ) → (n < m → ⊥) → m ≤ n
small_of m n h = grind arith

pub ready_net : (tr : Translation) (bytes : List ℕ) (t : Tree) (names : List (List ℕ))
    (net : Graph) → length bytes ≤ 1048576 → IsFileOf bytes t names → depth t ≤ 1000 →
    SameNet (net_of net) (translation_of tr t (length names)) →
    net.nodes ≡ all_live (nodes_of tr t) → length net.nodes ≡ size_of_translation tr t →
    net.free ≡ length names + 1 →
    length names ≤ length net.nodes → top_index_of net.nodes ≤ 1000000 →
    (200000 < size_of_translation tr t → ⊥) → IsReady tr bytes t names net
ready_net tr bytes t names net short file shallow same numbers size free few indexes fits =
    let small = small_of (size_of_translation tr t) 200000 fits in record {
      term = record { short = short; file = file; shallow = shallow; small = small };
      ready = record {
        same = same;
        whole = whole_net net (nodes_of tr t) numbers;
        small = record { nodes = omega arith; free = omega arith; indexes = indexes };
        few = omega arith;
      };
    }
