-- The tree of a net shows the term of that net.
use Rattle.std.proofs.Common.{ℕ, false, List, ◌++◌, ◌∷◌, [], length, sym, subst}
use Rattle.ol_term.specs.declared.translations.Translation.{Translation}
use Rattle.ol_term.specs.Trees.{Tree}
use Rattle.ol_net.specs.Graph.{Graph}
use Rattle.ol_net.specs.Numbered.{net_of}
use Rattle.ol_translate.specs.Translation.{translation_of}
use Rattle.ol_readback.specs.Sources.{HasHeadsOf}
use Rattle.ol_readback.specs.declared.answers.ReadNode.{ReadNode}
use Rattle.ol_law_meaning.proofs.Based.{tree_shows}
use Rattle.ol_law_meaning.proofs.FileNames.{file_names}
use Rattle.ol_subjects.specs.Subjects.{IsTerm, IsNetOfTerm}
use Rattle.ol_subjects.specs.Readied.{IsReady}
use Rattle.ol_subjects.specs.declared.answers.End.{End}
use Rattle.ol_decoding.specs.ToldTrees.{ShowTerm, IsTreeAnswer, told}
use Rattle.ol_decoding.specs.TreesOfNets.{TellsNet}
use Rattle.ol_decoding.proofs.TermHeads.{own_heads}

show_term : (τ : Translation) (bytes : List ℕ) (t : Tree) (names : List (List ℕ)) (net : Graph)
    (ns : List ReadNode) → IsTerm τ bytes t names → IsNetOfTerm τ t names net → HasHeadsOf (net_of net) false ns →
    ShowTerm ns t
show_term τ bytes t names net ns f n h T e =
    let own = own_heads τ t names net ns n h in
    tree_shows τ t (length names) (file_names bytes t names f.file) false T (subst (HasHeadsOf (translation_of τ t (length names)) false) (sym e) own)

pub told_of : (bytes : List ℕ) (τ : Translation) (depth many fuel : ℕ) (t : Tree) (names : List (List ℕ)) (g : Graph)
    (text : List ℕ) (e : End) → IsReady τ bytes t names g → TellsNet g names depth many fuel text e →
    IsTreeAnswer bytes τ depth many fuel text e
told_of bytes τ depth many fuel t names g text e r x =
    told r.term r.ready x.tells (show_term τ bytes t names g x.places r.term r.ready x.right)
