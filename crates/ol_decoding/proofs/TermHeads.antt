-- Heads of a term's net are heads of its translation.
use Rattle.std.proofs.Common.{ℕ, List, false, length}
use Rattle.ol_term.specs.declared.translations.Translation.{Translation}
use Rattle.ol_term.specs.Trees.{Tree}
use Rattle.ol_net.specs.Graph.{Graph}
use Rattle.ol_net.specs.Numbered.{net_of}
use Rattle.ol_rules.proofs.Relation.{same_sym}
use Rattle.ol_invariance.proofs.SameNets.{same_path}
use Rattle.ol_translate.specs.Translation.{translation_of}
use Rattle.ol_readback.specs.Sources.{HasHeadsOf}
use Rattle.ol_readback.specs.declared.answers.ReadNode.{ReadNode}
use Rattle.ol_readback.proofs.Kept.{heads_moved}
use Rattle.ol_subjects.specs.Subjects.{IsNetOfTerm}

pub own_heads : (τ : Translation) (t : Tree) (names : List (List ℕ)) (net : Graph) (ns : List ReadNode) →
    IsNetOfTerm τ t names net → HasHeadsOf (net_of net) false ns → HasHeadsOf (translation_of τ t (length names)) false ns
own_heads τ t names net ns n h =
    let N = net_of net in
    let M = translation_of τ t (length names) in
    heads_moved N M (λ p c q d. (
      λ r. same_path N M n.same r,
      λ r. same_path M N (same_sym N M n.same) r,
    )) false h
