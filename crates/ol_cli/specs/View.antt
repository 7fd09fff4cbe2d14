-- `view`: a term's net after some leads, shown.
use Rattle.std.specs.Prelude.{List, codes, count_by, is_some, length, ℕ, ◌++◌, ◌≡◌}
use Rattle.ol_net.specs.Graph.{Graph}
use Rattle.ol_net.specs.Nets.{SameNet}
use Rattle.ol_net.specs.Numbered.{net_of}
use Rattle.ol_term.specs.Trees.{Tree}
use Rattle.ol_term.specs.declared.translations.Translation.{Translation}
use Rattle.ol_translate.specs.Translation.{translation_of}
use Rattle.ol_view.specs.Laws.{IsTable}
use Rattle.ol_view.specs.Leads.{IsAfterLeads}
use Rattle.ol_view.specs.ShowTexts.{show_text}
use Rattle.ol_cli.specs.Texts.{count_line}

-- The net of the term is rewritten by at most so many leads, and what is left is shown, with the
-- number of leads. The nodes have the
-- numbers of the translation, and the new ones the next numbers in the order in which they come. So it is one text.
pub record Views (translation : Translation) (t : Tree) (names : List (List ℕ)) (after : ℕ)
    (text : List ℕ) : Type 0 where
  pub start : Graph
  pub last : Graph
  pub steps : ℕ
  pub same : SameNet (net_of start) (translation_of translation t (length names))
  pub whole : count_by is_some start.nodes ≡ length start.nodes
  pub leads : IsAfterLeads start after last steps
  pub tabled : IsTable last
  pub written : text ≡ count_line (codes "step") steps ++ show_text last
