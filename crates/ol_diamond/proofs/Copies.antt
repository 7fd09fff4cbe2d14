-- What is put behind the weights of a graph's ports where copies come at the slots of a node.
use Rattle.std.proofs.Common.{◌≡◌, ℕ, zero, suc, ◌+◌, ◌*◌, ◌<◌, ◌≤◌, max, List, [], ◌∷◌, ◌++◌}
use Rattle.std.proofs.Common.{length, length-append, get_or, refl, ap, ◌∙◌, arith}
use Rattle.std.proofs.lemmas.List.{get_or_append_left, get_or-append-add}
use Rattle.ol_net.specs.declared.parts.NodeId.{NodeId}
use Rattle.ol_net.specs.declared.parts.Port.TheVariants.{Of}
use Rattle.ol_diamond.specs.PortWeights.{weight_at, copied, copies_at}

-- so many rows of three were put behind: one for each slot, that of slot q + 1 as heavy as source q, and as the wave
pub record IsCopied (old new : List ℕ) (slots : ℕ) (source : ℕ → ℕ) (wave : ℕ) : Type 0 where
  pub size : length new ≡ length old + 3 * slots
  pub kept : (k : ℕ) → k < length old → get_or new k 0 ≡ get_or old k 0
  pub principal : (q : ℕ) → q < slots → get_or new (length old + 3 * q) 0 ≡ max wave (source q)
  pub other : (q t : ℕ) → q < slots → t < 2 → get_or new (length old + 3 * q + suc t) 0 ≡ wave

abbrev row : ℕ → ℕ → List ℕ
row v wave = max wave v ∷ wave ∷ wave ∷ []

module _ (old : List ℕ) (v wave : ℕ) where
  row_size : length (old ++ row v wave) ≡ length old + 3
  row_size = omega (arith, length-append old (row v wave))

  row_first : (k : ℕ) → k ≡ length old → get_or (old ++ row v wave) k 0 ≡ max wave v
  row_first k e =
      let q : k ≡ length old + 0 = omega arith in
      ap (λ k. get_or (old ++ row v wave) k 0) q ∙ get_or-append-add old (row v wave) 0 0

  row_other : (k t : ℕ) → t < 2 → k ≡ length old + suc t → get_or (old ++ row v wave) k 0 ≡ wave
  row_other k zero b e = ap (λ k. get_or (old ++ row v wave) k 0) e ∙ get_or-append-add old (row v wave) 1 0
  row_other k (suc zero) b e = ap (λ k. get_or (old ++ row v wave) k 0) e ∙ get_or-append-add old (row v wave) 2 0
  row_other k (suc (suc t)) b e = absurd (omega arith)

  row_kept : (k : ℕ) → k < length old → get_or (old ++ row v wave) k 0 ≡ get_or old k 0
  row_kept k b = get_or_append_left old (row v wave) 0 k b

module _ (ports : ℕ) (old : List ℕ) (n : NodeId) (wave : ℕ) (inside : ports + 3 * n.0 + 3 ≤ length old) where
  abbrev source : ℕ → ℕ
  source q = weight_at ports old (Of n (suc q))

  abbrev new1 : List ℕ
  new1 = copied ports old (Of n 1) wave

  abbrev new2 : List ℕ
  new2 = copied ports (copied ports old (Of n 1) wave) (Of n 2) wave

  one_row : IsCopied old new1 1 source wave
  one_row = record {
    size = row_size old (source 0) wave ∙ omega arith;
    kept = row_kept old (source 0) wave;
    principal = principal;
    other = other;
  }
    where
      principal : (q : ℕ) → q < 1 → get_or new1 (length old + 3 * q) 0 ≡ max wave (source q)
      principal zero b = row_first old (source 0) wave (length old + 3 * 0) (omega arith)
      principal (suc q) b = absurd (omega arith)

      other : (q t : ℕ) → q < 1 → t < 2 → get_or new1 (length old + 3 * q + suc t) 0 ≡ wave
      other zero t b c = row_other old (source 0) wave (length old + 3 * 0 + suc t) t c (omega arith)
      other (suc q) t b c = absurd (omega arith)

  second_is : weight_at ports new1 (Of n 2) ≡ source 1
  second_is = row_kept old (source 0) wave (ports + 3 * n.0 + 2) (omega arith)

  two_rows : IsCopied old new2 2 source wave
  two_rows = record {
    size = row_size new1 (weight_at ports new1 (Of n 2)) wave
        ∙ ap (λ k. k + 3) (row_size old (source 0) wave) ∙ omega arith;
    kept = λ k b. row_kept new1 (weight_at ports new1 (Of n 2)) wave k
        (let s = row_size old (source 0) wave in omega arith) ∙ row_kept old (source 0) wave k b;
    principal = principal;
    other = other;
  }
    where
      size1 : length new1 ≡ length old + 3
      size1 = row_size old (source 0) wave

      principal : (q : ℕ) → q < 2 → get_or new2 (length old + 3 * q) 0 ≡ max wave (source q)
      principal zero b =
          row_kept new1 (weight_at ports new1 (Of n 2)) wave (length old + 3 * 0) (let s = size1 in omega arith)
          ∙ row_first old (source 0) wave (length old + 3 * 0) (omega arith)
      principal (suc zero) b = row_first new1 (weight_at ports new1 (Of n 2)) wave
          (length old + 3 * 1) (let s = size1 in omega arith) ∙ ap (λ v. max wave v) second_is
      principal (suc (suc q)) b = absurd (omega arith)

      other : (q t : ℕ) → q < 2 → t < 2 → get_or new2 (length old + 3 * q + suc t) 0 ≡ wave
      other zero t b c =
          row_kept new1 (weight_at ports new1 (Of n 2)) wave (length old + 3 * 0 + suc t) (let s = size1 in omega arith)
          ∙ row_other old (source 0) wave (length old + 3 * 0 + suc t) t c (omega arith)
      other (suc zero) t b c = row_other new1 (weight_at ports new1 (Of n 2)) wave
          (length old + 3 * 1 + suc t) t c (let s = size1 in omega arith)
      other (suc (suc q)) t b c = absurd (omega arith)

  no_row : IsCopied old old 0 source wave
  no_row = record {
    size = omega arith;
    kept = λ k b. refl;
    principal = λ q b. absurd (omega arith);
    other = λ q t b c. absurd (omega arith);
  }

  pub rows : (slots : ℕ) → slots ≤ 2 → IsCopied old (copies_at ports old n slots wave) slots source wave
  rows zero b = no_row
  rows (suc zero) b = one_row
  rows (suc (suc zero)) b = two_rows
  rows (suc (suc (suc s))) b = absurd (omega arith)
