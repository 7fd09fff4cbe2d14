-- Private: words of private contracts alone: a term file made ready, which is the net of its term,
-- or the answer that refuses it, whatever the job.
use Rattle.std.specs.Prelude.{◌≡◌, ℕ, ◌≤◌, ◌<◌, ◌^◌, List, length, None, count_by, is_some}
use Rattle.ol_term.specs.declared.translations.Translation.{Translation}
use Rattle.ol_term.specs.Trees.{Tree, tree_of, depth, term_size}
use Rattle.ol_parse.specs.Texts.{IsRefusedAt}
use Rattle.ol_net.specs.Graph.{Graph}
use Rattle.ol_net.specs.Nets.{SameNet}
use Rattle.ol_net.specs.Numbered.{net_of}
use Rattle.ol_translate.specs.Names.{HasNames}
use Rattle.ol_translate.specs.Translation.{translation_of}
use Rattle.ol_wire.specs.Sizes.{IsSmallNet}
use Rattle.ol_cli.specs.declared.status.Status.{Status}
use Rattle.ol_cli.specs.declared.status.Status.TheVariants as status
use Rattle.ol_cli.specs.declared.ready.Ready.{Ready}
use Rattle.ol_cli.specs.declared.ready.Ready.TheVariants as ready
use Rattle.ol_words.specs.Texts.{Text}
use Rattle.ol_cli.specs.RefusalTexts.{syntax_text, bytes_text}
use Rattle.ol_cli.specs.TermFiles.{IsTermFile, IsPastLimit}
use Rattle.ol_cli.specs.Answers.{Seen}
use Rattle.ol_cli.specs.Cases.{GaveAll, CauseOf}
use Rattle.ol_limits.specs.Limits.{most_term_bytes, most_depth, most_nodes}

-- the bytes are refused so
abbrev pub Refuses : Translation → List ℕ → Status → List ℕ → Type 0
Refuses translation bytes status.Limit text = IsPastLimit translation bytes text
Refuses translation bytes status.Syntax text = (at : ℕ) × (length bytes ≤ most_term_bytes)
    × IsRefusedAt bytes at × (text ≡ syntax_text at)
Refuses translation bytes _ text = ⊥

-- the net is that of the term, with the numbers of its translation, and none of its nodes is gone
pub record IsNetOf (translation : Translation) (t : Tree) (names : List (List ℕ)) (net : Graph) : Type 0 where
  pub same : SameNet (net_of net) (translation_of translation t (length names))
  pub whole : count_by is_some net.nodes ≡ length net.nodes
  pub small : IsSmallNet net
  pub few : length net.nodes ≤ most_nodes

-- the term isn't deep, has just these free names, and its size is counted in 64 bits, so that it can be reduced
pub record IsReducible (t : Tree) (names : List (List ℕ)) : Type 0 where
  pub shallow : depth t ≤ most_depth
  pub named : HasNames t (length names)
  pub few : term_size t < 2 ^ 64

-- this holds of each term whose net it is by a translation, with its free names
abbrev pub HoldsOfTerms : Graph → (Translation → Tree → List (List ℕ) → Type 0) → Type 0
HoldsOfTerms net P = (translation : Translation) (t : Tree) (names : List (List ℕ)) →
    IsNetOf translation t names net → P translation t names

-- the bytes are a text of this term, whose net this is
pub record IsReady (translation : Translation) (bytes : List ℕ) (t : Tree) (names : List (List ℕ))
    (net : Graph) : Type 0 where
  pub term : IsTermFile translation bytes t names
  pub ready : IsNetOf translation t names net

-- what is made of the bytes of a term file
abbrev pub IsMadeReady : Translation → List ℕ → Ready → Type 0
IsMadeReady translation bytes (ready.Net net file) = IsReady translation bytes (tree_of file.term) file.names net
IsMadeReady translation bytes (ready.Refused answer) =
    Refuses translation bytes answer.status answer.text.items × (answer.closed ≡ None)

-- the net, if there is one, is that of the term, which can be reduced
abbrev pub IsNetReady : Translation → Ready → Type 0
IsNetReady translation (ready.Net net file) =
    IsNetOf translation (tree_of file.term) file.names net × IsReducible (tree_of file.term) file.names
IsNetReady translation (ready.Refused answer) = Unit {0}

-- the term file is refused so: the source failed, or gave too many bytes, or its bytes are refused
abbrev pub RefusesTerm : Translation → Seen → Text → Status → List ℕ → Type 0
RefusesTerm translation s name = CauseOf s most_term_bytes bytes_text name (Refuses translation)

-- what comes of a term file
abbrev pub ComesOfTerm : Translation → Seen → Text → Ready → Type 0
ComesOfTerm translation s name (ready.Net net file) = (s.faults' ≡ s.faults) × ((bytes : List ℕ) × GaveAll s name bytes
    × IsReady translation bytes (tree_of file.term) file.names net)
ComesOfTerm translation s name (ready.Refused answer) =
    RefusesTerm translation s name answer.status answer.text.items × (answer.closed ≡ None)
