-- Trees in which each place has a head.
use Rattle.std.proofs.Common.{◌≡◌, ℕ, zero, suc, ◌≤◌, false, true, List, [], ◌∷◌, length, take, Some, None, slice_get, subst}
use Rattle.ol_readback.specs.Terms.{HasAllHeads}
use Rattle.ol_readback.specs.declared.answers.ReadNode.{ReadNode}
use Rattle.ol_readback.proofs.OneTree.{all_left, all_right}
use Rattle.ol_derivations.proofs.InputByInput.{all_taken}

pub clash : false ≡ true → ⊥
clash e = cc

-- each place of such a tree has one
pub each_head : (ns : List ReadNode) (k : ℕ) (n : ReadNode) → slice_get ns k ≡ Some n → HasAllHeads ns → HasAllHeads (n ∷ [])
each_head [] k n e h = let z : None ≡ Some n = e in absurd (cc)
each_head (x ∷ ns) zero n e h =
    let q : x ≡ n = cc in subst (λ n. HasAllHeads (n ∷ [])) q (all_left (x ∷ []) ns h)
each_head (x ∷ ns) (suc k) n e h = each_head ns k n e (all_right (x ∷ []) ns h)

pub all_heads : (ns : List ReadNode) (k : ℕ) → length ns ≤ k → HasAllHeads (take k ns) → HasAllHeads ns
all_heads ns k l h = subst HasAllHeads (all_taken ns k l) h
