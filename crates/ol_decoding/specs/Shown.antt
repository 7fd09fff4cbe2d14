-- The answer of `show`: a term's normal form, and what is told of it.
use Rattle.std.specs.Prelude.{◌≡◌, ℕ, List, [], ◌++◌, codes, None}
use Rattle.std.specs.Fmt.{decimal}
use Rattle.ol_term.specs.declared.translations.Translation.{Translation}
use Rattle.ol_term.specs.Trees.{Tree}
use Rattle.ol_net.specs.Graph.{Graph}
use Rattle.ol_rules.specs.declared.journal.Entry.{Entry}
use Rattle.ol_readback.specs.Texts.{IsTextOf}
use Rattle.ol_readback.specs.declared.answers.ReadNode.{ReadNode}
use Rattle.ol_demand.specs.declared.answers.Demanded.TheVariants.{Done}
use Rattle.ol_demand.specs.Answers.{start_of, IsAnswer}
use Rattle.ol_demand.specs.Demands.{HasMoreSteps}
use Rattle.ol_beta.specs.Leftmost.{IsNormal}
use Rattle.ol_beta.specs.TreeTerms.{IsTermOf, IsFirstHole, IsTreeTooDeep}
use Rattle.ol_law_meaning.specs.Shows.{LeftmostReduces}
use Rattle.ol_subjects.specs.declared.answers.End.{End}
use Rattle.ol_subjects.specs.declared.answers.End.TheVariants.{Yes, No, Refused}
use Rattle.ol_subjects.specs.Subjects.{IsTerm, IsNetOfTerm, RefusesTerm}
use Rattle.ol_decoding.specs.Numerals.{IsNumeralOf}
use Rattle.ol_decoding.specs.Told.{IsTold, SomeFits}

-- leftmost reduction leads from a term to this one, which is normal
pub record IsNormalFormOf (t u : Tree) : Type 0 where
  pub reached : LeftmostReduces t u
  pub normal : IsNormal u

-- The demand run from a net ends within the fuel, and these are the places that it reads.
pub record IsDemanded (net : Graph) (heads fuel : ℕ) (ns : List ReadNode) : Type 0 where
  pub journal : List Entry
  pub last : Graph
  pub run : IsAnswer net heads fuel last (Done ns journal)

abbrev pub fuel_line : ℕ → List ℕ
fuel_line fuel = codes "fuel " ++ decimal fuel ++ codes "\n"

abbrev pub deep_line : ℕ → List ℕ
deep_line deep = codes "too deep to decode: depth " ++ decimal deep ++ codes "\n"

-- the printed tree of some places, and what is told of its term
pub data TellsTree (names : List (List ℕ)) (ns : List ReadNode) (text : List ℕ) : End → Type 0 where
  -- place k is the first that has no head or was cut
  holes : {printed : List ℕ} (k : ℕ) → IsTextOf names ns printed → IsFirstHole ns k →
      text ≡ printed ++ codes "\nholes are left\n" → TellsTree names ns text No
  -- the term is more than 1,000 deep, and no Church numeral
  deep : {printed : List ℕ} (d : ℕ) → IsTextOf names ns printed → IsTreeTooDeep ns d → IsNumeralOf ns None →
      text ≡ printed ++ codes "\n" ++ deep_line d → TellsTree names ns text No
  -- some value fits the term
  fits : {printed told : List ℕ} {u : Tree} → IsTextOf names ns printed → IsTermOf ns u → IsTold [] u told →
      SomeFits u → text ≡ printed ++ codes "\n" ++ told → TellsTree names ns text Yes
  -- none does
  none : {printed told : List ℕ} {u : Tree} → IsTextOf names ns printed → IsTermOf ns u → IsTold [] u told →
      (SomeFits u → ⊥) → text ≡ printed ++ codes "\n" ++ told → TellsTree names ns text No

-- The answer to a file.
pub data IsShown (bytes : List ℕ) (translation : Translation) (fuel heads : ℕ) (text : List ℕ) : End → Type 0 where
  refused : RefusesTerm translation bytes text → IsShown bytes translation fuel heads text Refused
  -- demand order goes on beyond the fuel
  goes_on : {t : Tree} {names : List (List ℕ)} {net : Graph} → IsTerm translation bytes t names →
      IsNetOfTerm translation t names net → HasMoreSteps (start_of net) heads fuel → text ≡ fuel_line fuel →
      IsShown bytes translation fuel heads text No
  -- it ends, and where each place has a head, they stand for the normal form
  ends : {t : Tree} {names : List (List ℕ)} {net : Graph} {ns : List ReadNode} {e : End} →
      IsTerm translation bytes t names → IsNetOfTerm translation t names net → IsDemanded net heads fuel ns →
      ((u : Tree) → IsTermOf ns u → IsNormalFormOf t u) → TellsTree names ns text e →
      IsShown bytes translation fuel heads text e
