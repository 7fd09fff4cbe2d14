-- A file made ready: its term, its net, or the line by which it is refused.
use Rattle.std.specs.Prelude.{◌≡◌, ◌≢◌, ℕ, ◌<◌, ◌≤◌, List, ◌++◌, length, codes}
use Rattle.std.specs.Fmt.{decimal}
use Rattle.ol_term.specs.declared.translations.Translation.{Translation}
use Rattle.ol_term.specs.Trees.{Tree, depth}
use Rattle.ol_parse.specs.Texts.{IsRefusedAt}
use Rattle.ol_parse.specs.Parsed.{IsFileOf, IsTooDeep}
use Rattle.ol_net.specs.Graph.{Graph}
use Rattle.ol_net.specs.Nets.{SameNet}
use Rattle.ol_net.specs.Numbered.{net_of, all_live}
use Rattle.ol_translate.specs.Translation.{nodes_of, translation_of}
use Rattle.ol_translate.specs.Sizes.{size_of_translation}
use Rattle.ol_netfile.specs.NetTexts.{IsNetRead, IsNetFault}
use Rattle.ol_netfile.specs.FaultTexts.{fault_text}
use Rattle.ol_netfile.specs.declared.faults.NetFault.{NetFault}
use Rattle.ol_netfile.specs.declared.faults.NetFault.TheVariants.{NoMemory}
use Rattle.ol_subjects.specs.declared.subjects.Subject.{Subject}
use Rattle.ol_subjects.specs.declared.subjects.Subject.TheVariants.{Term, Net}
use Rattle.ol_subjects.specs.Limited.{depth_words, nodes_words}
use Rattle.ol_limits.specs.Limits.{most_depth, most_net_bytes, most_nodes, most_term_bytes}

-- The bytes are a text of this term with these free names. It is at most 1,000 deep, and its net has
-- at most 200,000 nodes.
pub record IsTerm (translation : Translation) (bytes : List ℕ) (t : Tree) (names : List (List ℕ))
    : Type 0 where
  pub file : IsFileOf bytes t names
  pub shallow : depth t ≤ most_depth
  pub small : size_of_translation translation t ≤ most_nodes

-- The net is that of the term, with the numbers of its translation.
pub record IsNetOfTerm (translation : Translation) (t : Tree) (names : List (List ℕ)) (net : Graph)
    : Type 0 where
  pub same : SameNet (net_of net) (translation_of translation t (length names))
  pub numbers : net.nodes ≡ all_live (nodes_of translation t)

-- the bytes are those of a file with this net
pub data IsSubject : Subject → List ℕ → Graph → Type 0 where
  of_term : {translation : Translation} {bytes : List ℕ} {t : Tree} {names : List (List ℕ)}
      {net : Graph} →
      IsTerm translation bytes t names → IsNetOfTerm translation t names net →
      IsSubject (Term translation) bytes net
  of_text : {bytes : List ℕ} {net : Graph} → IsNetRead bytes net → IsSubject Net bytes net

-- The line by which a file with a term is refused: its bytes aren't in the grammar, its term is too
-- deep, or its net has too many nodes.
pub data RefusesTerm (translation : Translation) (bytes : List ℕ) (text : List ℕ) : Type 0 where
  syntax_at : (at : ℕ) → IsRefusedAt bytes at →
      text ≡ codes "syntax at byte " ++ decimal at ++ codes "\n" →
      RefusesTerm translation bytes text
  deep : (d : ℕ) → IsTooDeep bytes d → text ≡ depth_words ++ codes "\n" →
      RefusesTerm translation bytes text
  large : (t : Tree) (names : List (List ℕ)) → IsFileOf bytes t names → depth t ≤ most_depth →
      most_nodes < size_of_translation translation t → text ≡ nodes_words ++ codes "\n" →
      RefusesTerm translation bytes text

-- The line by which a file with a net is refused: that of its fault.
pub record RefusesNet (bytes : List ℕ) (text : List ℕ) : Type 0 where
  pub fault : NetFault
  pub is : IsNetFault bytes fault
  pub told : fault ≢ NoMemory
  pub text_is : text ≡ fault_text fault ++ codes "\n"

abbrev pub Refuses : Subject → List ℕ → List ℕ → Type 0
Refuses (Term translation) bytes text = RefusesTerm translation bytes text
Refuses Net bytes text = RefusesNet bytes text

-- The most bytes of a file.
abbrev pub most_bytes : Subject → ℕ
most_bytes (Term translation) = most_term_bytes
most_bytes Net = most_net_bytes
