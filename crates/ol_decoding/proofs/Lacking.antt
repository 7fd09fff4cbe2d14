-- Places without a head.
use Rattle.std.proofs.Common.{◌≡◌, ℕ, zero, suc, ◌+◌, ◌<◌, ◌≤◌, ◌⊎◌, inl, inr, List, [], ◌∷◌, length}
use Rattle.std.proofs.Common.{Some, None, slice_get, refl, sym, ◌∙◌, subst, arith}
use Rattle.ol_readback.specs.declared.answers.ReadNode.{ReadNode}
use Rattle.ol_readback.specs.declared.answers.ReadNode.TheVariants.{Head, NoHead, Cut}
use Rattle.ol_law_meaning.specs.Shows.{LacksHead}

pub at_lacks : (ns : List ReadNode) (j : ℕ) → slice_get ns j ≡ Some NoHead → LacksHead ns
at_lacks [] j e = let z : None ≡ Some NoHead = e in absurd (cc)
at_lacks (NoHead ∷ ns) j e = tt
at_lacks (Head l v k ∷ ns) zero e = let z : Some (Head l v k) ≡ Some NoHead = e in absurd (cc)
at_lacks (Head l v k ∷ ns) (suc j) e = at_lacks ns j e
at_lacks (Cut ∷ ns) zero e = let z : Some Cut ≡ Some NoHead = e in absurd (cc)
at_lacks (Cut ∷ ns) (suc j) e = at_lacks ns j e

pub lacks_at : (ns : List ReadNode) → LacksHead ns → (j : ℕ) × (j < length ns) × (slice_get ns j ≡ Some NoHead)
lacks_at [] h = absurd h
lacks_at (NoHead ∷ ns) h = (0, omega arith, refl)
lacks_at (Head l v k ∷ ns) h = let r = lacks_at ns h in (suc r.0, (let b = r.1 in omega arith), r.2)
lacks_at (Cut ∷ ns) h = let r = lacks_at ns h in (suc r.0, (let b = r.1 in omega arith), r.2)

-- none of the first places has none
abbrev pub NoneBelow : ℕ → List ReadNode → Type 0
NoneBelow k ns = (j : ℕ) → j < k → slice_get ns j ≡ Some NoHead → ⊥

pub none_yet : (ns : List ReadNode) → NoneBelow 0 ns
none_yet ns j b e = absurd (omega arith)

cases : (j k : ℕ) → j < k + 1 → (j < k) ⊎ (j ≡ k)
cases j k b = grind arith

pub none_more : (k : ℕ) (ns : List ReadNode) (n : ReadNode) → slice_get ns k ≡ Some n → (n ≡ NoHead → ⊥) →
    NoneBelow k ns → NoneBelow (k + 1) ns
none_more k ns n g f h j b e = go (cases j k b)
  where
    go : (j < k) ⊎ (j ≡ k) → ⊥
    go (inl c) = h j c e
    go (inr c) =
        let z : slice_get ns k ≡ Some NoHead = subst (λ j. slice_get ns j ≡ Some NoHead) c e in
        let y : Some n ≡ Some NoHead = sym g ∙ z in
        f (cc)

pub none_at_all : (k : ℕ) (ns : List ReadNode) → length ns ≤ k → NoneBelow k ns → LacksHead ns → ⊥
none_at_all k ns b h l = let r = lacks_at ns l in let c = r.1 in h r.0 (omega arith) r.2
