-- The term of a demanded tree is the normal form of the source.
use Rattle.std.proofs.Common.{ℕ, false, List, ◌++◌, ◌∷◌, [], length, sym, subst}
use Rattle.ol_term.specs.declared.translations.Translation.{Translation}
use Rattle.ol_term.specs.Trees.{Tree}
use Rattle.ol_net.specs.Graph.{Graph}
use Rattle.ol_net.specs.Numbered.{net_of}
use Rattle.ol_translate.specs.Translation.{translation_of}
use Rattle.ol_readback.specs.Sources.{HasHeadsOf}
use Rattle.ol_readback.specs.Terms.{HasAllHeads}
use Rattle.ol_readback.specs.declared.answers.ReadNode.{ReadNode}
use Rattle.ol_beta.specs.Leftmost.{IsNormal}
use Rattle.ol_beta.specs.TreeTerms.{IsTermOf}
use Rattle.ol_law_meaning.specs.Shows.{LeftmostReduces}
use Rattle.ol_law_meaning.proofs.Based.{tree_shows, shown_normal}
use Rattle.ol_law_meaning.proofs.FileNames.{file_names}
use Rattle.ol_subjects.specs.Subjects.{IsTerm, IsNetOfTerm}
use Rattle.ol_decoding.specs.Shown.{IsNormalFormOf}
use Rattle.ol_decoding.proofs.TermHeads.{own_heads}

pub is_normal_form : (τ : Translation) (bytes : List ℕ) (t : Tree) (names : List (List ℕ)) (net : Graph)
    (ns : List ReadNode) → IsTerm τ bytes t names → IsNetOfTerm τ t names net → HasHeadsOf (net_of net) false ns →
    (u : Tree) → IsTermOf ns u → IsNormalFormOf t u
is_normal_form τ bytes t names net ns f n h u i =
    let own = own_heads τ t names net ns n h in
    let g = tree_shows τ t (length names) (file_names bytes t names f.file) false i.tree
    (subst (HasHeadsOf (translation_of τ t (length names)) false) (sym i.is_list) own) in
    let x = shown_normal t false i.tree g (subst HasAllHeads (sym i.is_list) i.whole) in
    record { reached = subst (LeftmostReduces t) i.is x.0; normal = subst IsNormal i.is x.1 }
