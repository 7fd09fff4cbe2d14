-- What several head steps keep of where a term's interface leads.
use Rattle.std.proofs.Common.{◌≡◌, ℕ, ◌≤◌, refl, sym, ◌∙◌, subst, arith}
use Rattle.ol_law_meaning.specs.Contraction.{Tree, Level, Context, Place, at, Leads}
use Rattle.ol_law_meaning.specs.Heads.{Steps, done, step, SameAlong}
use Rattle.ol_law_meaning.proofs.Mains.{keeps, reflects, same_one}
use Rattle.ol_term.specs.declared.translations.Translation.{Translation}

module _ {τ : Translation} where
  pub keeps_along : {t u : Tree} {m : ℕ} (s : Steps t u m) (p q : Place) (v v' w : Level)
      (c d : Context) (n : ℕ) → SameAlong τ s p v v' → Leads τ t (at p v c) (at q w d) n →
      (w' : Level) × SameAlong τ s q w w' × (n' : ℕ) × (n' ≤ n) × Leads τ u (at p v' c) (at q w' d) n'
  keeps_along (done {t = t}) p q v v' w c d n e l = (
    w,
    refl,
    n,
    (omega arith),
    subst (λ v. Leads τ t (at p v c) (at q w d) n) e l,
  )
  keeps_along (step h s) p q v v' w c d n e l =
      let x = keeps h p q v e.0 w c d n e.1 l in
      let y = keeps_along s p q e.0 v' x.0 c d x.2 e.2 x.5 in
      (y.0, (x.0, x.1, y.1), y.2, (let a : x.2 ≤ n = x.3 in let b : y.2 ≤ x.2 = y.3 in omega arith), y.4)

  pub reflects_along : {t u : Tree} {m : ℕ} (s : Steps t u m) (p q : Place) (v v' w' : Level)
      (c d : Context) (n' : ℕ) → SameAlong τ s p v v' → Leads τ u (at p v' c) (at q w' d) n' →
      (w : Level) × SameAlong τ s q w w' × (n : ℕ) × Leads τ t (at p v c) (at q w d) n
  reflects_along (done {t = t}) p q v v' w' c d n' e l = (
    w',
    refl,
    n',
    subst (λ v. Leads τ t (at p v c) (at q w' d) n') (sym e) l,
  )
  reflects_along (step h s) p q v v' w' c d n' e l =
      let y = reflects_along s p q e.0 v' w' c d n' e.2 l in
      let x = reflects h p q v e.0 y.0 c d y.2 e.1 y.3 in
      (x.0, (y.0, x.1, y.1), x.2, x.3)

module _ (τ : Translation) where
  pub same_along_one : {t u : Tree} {m : ℕ} (s : Steps t u m) (p : Place) (v v' w w' : Level) →
      SameAlong τ s p v v' → SameAlong τ s p w w' → (v ≡ w → v' ≡ w') × (v' ≡ w' → v ≡ w)
  same_along_one done p v v' w w' e f = (λ g. sym e ∙ g ∙ f, λ g. e ∙ g ∙ sym f)
  same_along_one (step h s) p v v' w w' e f =
      let a = same_one τ h p v e.0 w f.0 e.1 f.1 in
      let b = same_along_one s p e.0 v' f.0 w' e.2 f.2 in
      (λ g. b.0 (a.0 g), λ g. a.1 (b.1 g))

  -- the same of whole spots
  pub along_one : {t u : Tree} {m : ℕ} (s : Steps t u m) (p q : Place) (v v' w w' : Level)
      (c d : Context) → SameAlong τ s p v v' → SameAlong τ s q w w' →
      (at p v c ≡ at q w d → at p v' c ≡ at q w' d) × (at p v' c ≡ at q w' d → at p v c ≡ at q w d)
  along_one s p q v v' w w' c d e f = (
    λ g. (let i : p ≡ q = cc in let j : v ≡ w = cc in let k : c ≡ d = cc in
        let l = (same_along_one s p v v' w w' e (subst (λ p. SameAlong τ s p w w') (sym i) f)).0 j in cc),
    λ g. (let i : p ≡ q = cc in let j : v' ≡ w' = cc in let k : c ≡ d = cc in
        let l = (same_along_one s p v v' w w' e (subst (λ p. SameAlong τ s p w w') (sym i) f)).1 j in cc),
  )
