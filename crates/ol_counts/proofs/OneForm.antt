-- By the rules of call-by-need a term comes to one form, by one number of steps.
use Rattle.std.proofs.Common.{◌≡◌, ℕ, suc, ◌+◌, List, [], ◌∷◌, ◌++◌, length, slice_get, slice_set, Some, refl, sym, ap, ◌∙◌, subst}
use Rattle.std.proofs.lemmas.Option.{same_Some}
use Rattle.ol_term.specs.Trees.{Tree}
use Rattle.ol_term.specs.Trees as trees
use Rattle.ol_counts.specs.NeedRules.{Head, level, WeakForm, function, name, HeapCell, waits, taken, has, Evaluates, of_free}
use Rattle.ol_counts.specs.NeedRules.{of_lam, first_use, later_use, beta, argument, Task, closure, spine, NormalisesByNeed}
use Rattle.ol_counts.specs.NeedRules.{into_body, into_arguments, no_argument, one_argument, ReducesByNeed}

pub record SameEnd (Δ Θ : List HeapCell) (v w : WeakForm) (m n : ℕ) : Type 0 where
  pub heap : Δ ≡ Θ
  pub value : v ≡ w
  pub count : m ≡ n

two_cells : {t : Tree} {η : List ℕ} {v : WeakForm} → Some (waits t η) ≡ Some (has v) → ⊥
two_cells e = absurd (cc)

two_values : {t : Tree} {η cs : List ℕ} {h : Head} → function t η ≡ name h cs → ⊥
two_values e = absurd (cc)

set_alike : {Δ Θ : List HeapCell} {v w : WeakForm} {c d : ℕ} → Δ ≡ Θ → c ≡ d → v ≡ w →
    slice_set Δ c (has v) ≡ slice_set Θ d (has w)
set_alike e f g = λ i. slice_set (e i) (f i) (has (g i))

pub one_evaluation : {Γ Δ Θ : List HeapCell} {t : Tree} {ρ : List ℕ} {v w : WeakForm} {m n : ℕ} →
    Evaluates Γ t ρ Δ v m → Evaluates Γ t ρ Θ w n → SameEnd Δ Θ v w m n
one_evaluation of_free of_free = record { heap = refl; value = refl; count = refl }
one_evaluation of_lam of_lam = record { heap = refl; value = refl; count = refl }
one_evaluation {Γ} (first_use {η = η} {t = t} {c = c} e g r) (first_use {Δ = Θ} {η = η'} {t = t'} {v = w} {c = c'} {n = n} f h s) =
    let k : c ≡ c' = same_Some c c' (sym e ∙ f) in
    let i = sym g ∙ ap (slice_get Γ) k ∙ h in
    let a : t' ≡ t = cc in
    let b : η' ≡ η = cc in
    let x =
    one_evaluation r
    (subst (λ c. Evaluates (slice_set Γ c taken) t η Θ w n) (sym k)
    (subst (λ t. Evaluates (slice_set Γ c' taken) t η Θ w n) a
    (subst (λ η. Evaluates (slice_set Γ c' taken) t' η Θ w n) b s))) in
    record { heap = set_alike x.heap k x.value; value = x.value; count = x.count }
one_evaluation {Γ} (first_use {c = c} e g r) (later_use {c = c'} f h) =
    let k : c ≡ c' = same_Some c c' (sym e ∙ f) in
    absurd (two_cells (sym g ∙ ap (slice_get Γ) k ∙ h))
one_evaluation {Γ} (later_use {c = c} e g) (first_use {c = c'} f h s) =
    let k : c ≡ c' = same_Some c c' (sym e ∙ f) in
    absurd (two_cells (sym h ∙ ap (slice_get Γ) (sym k) ∙ g))
one_evaluation {Γ} (later_use {v = v} {c = c} e g) (later_use {v = w} {c = c'} f h) =
    let k : c ≡ c' = same_Some c c' (sym e ∙ f) in
    let i : Some (has v) ≡ Some (has w) = sym g ∙ ap (slice_get Γ) k ∙ h in
    record { heap = refl; value = (let q : v ≡ w = cc in q); count = refl }
one_evaluation {Γ} (beta {Δ = Δ} {η = η} {t = t} {m = m} r u) (beta {Δ = Δ'} {Θ = Θ} {η = η'} {t = t'} {v = w} {m = m'} {n = n} s q) =
    let x = one_evaluation r s in
    let g = x.value in
    let a : t' ≡ t = cc in
    let b : η' ≡ η = cc in
    let y =
    one_evaluation u
    (subst (λ Δ. Evaluates Δ t (length Γ ∷ η) Θ w n) (sym x.heap)
    (subst (λ t. Evaluates Δ' t (length Γ ∷ η) Θ w n) a
    (subst (λ η. Evaluates Δ' t' (length Γ ∷ η) Θ w n) b q))) in
    record { heap = y.heap; value = y.value; count = λ i. suc (x.count i + y.count i) }
one_evaluation (beta r u) (argument s) = absurd (two_values (one_evaluation r s).value)
one_evaluation (argument r) (beta s q) = absurd (two_values (sym (one_evaluation r s).value))
one_evaluation {Γ} (argument {cs = cs} {h = h} r) (argument {cs = ds} {h = g} s) =
    let x = one_evaluation r s in
    let e = x.value in
    let a : h ≡ g = cc in
    let b : cs ≡ ds = cc in
    record { heap = x.heap; value = λ i. name (a i) (length Γ ∷ b i); count = x.count }

pub record SameForm (Δ Θ : List HeapCell) (v w : Tree) (m n : ℕ) : Type 0 where
  pub heap : Δ ≡ Θ
  pub form : v ≡ w
  pub count : m ≡ n

pub one_form : {d : ℕ} {Γ Δ Θ : List HeapCell} {x : Task} {v w : Tree} {m n : ℕ} →
    NormalisesByNeed d Γ x Δ v m → NormalisesByNeed d Γ x Θ w n → SameForm Δ Θ v w m n
one_form {d} (into_body {Δ = Δ} {η = η} {u = u} r q) (into_body {n = n} {Δ = Δ'} {Θ = Θ} {η = η'} {u = u'} {v = w} s p) =
    let x = one_evaluation r s in
    let g = x.value in
    let a : u' ≡ u = cc in
    let b : η' ≡ η = cc in
    let y =
    one_form q
    (subst (λ Δ. NormalisesByNeed (suc d) (Δ ++ has (name (level d) []) ∷ []) (closure u (length Δ ∷ η)) Θ w n) (sym x.heap)
    (subst (λ u. NormalisesByNeed (suc d) (Δ' ++ has (name (level d) []) ∷ []) (closure u (length Δ' ∷ η)) Θ w n) a
    (subst (λ η. NormalisesByNeed (suc d) (Δ' ++ has (name (level d) []) ∷ []) (closure u' (length Δ' ∷ η)) Θ w n) b p))) in
    record { heap = y.heap; form = ap trees.lam y.form; count = λ i. x.count i + y.count i }
one_form (into_body r q) (into_arguments s p) = absurd (two_values (one_evaluation r s).value)
one_form (into_arguments r q) (into_body s p) = absurd (two_values (sym (one_evaluation r s).value))
one_form {d} (into_arguments {Δ = Δ} {cs = cs} {h = h} r q) (into_arguments {n = n} {Δ = Δ'} {Θ = Θ} {cs = cs'} {v = w} {h = h'} s p) =
    let x = one_evaluation r s in
    let g = x.value in
    let a : h' ≡ h = cc in
    let b : cs' ≡ cs = cc in
    let y =
    one_form q
    (subst (λ Δ. NormalisesByNeed d Δ (spine h cs) Θ w n) (sym x.heap)
    (subst (λ h. NormalisesByNeed d Δ' (spine h cs) Θ w n) a
    (subst (λ cs. NormalisesByNeed d Δ' (spine h' cs) Θ w n) b p))) in
    record { heap = y.heap; form = y.form; count = λ i. x.count i + y.count i }
one_form no_argument no_argument = record { heap = refl; form = refl; count = refl }
one_form {d} (one_argument {c = c} q r) (one_argument {n = n} {Θ = Θ} {w = w} p s) =
    let x = one_form q p in
    let y =
    one_form r
    (subst (λ Δ. NormalisesByNeed d Δ (closure (trees.var 0) (c ∷ [])) Θ w n) (sym x.heap) s) in
    record {
      heap = y.heap;
      form = λ i. trees.app (x.form i) (y.form i);
      count = λ i. x.count i + y.count i;
    }

pub comes_to_one : (t v w : Tree) (m n : ℕ) → ReducesByNeed t v m → ReducesByNeed t w n → (v ≡ w) × (m ≡ n)
comes_to_one t v w m n r s = let x = one_form r.1 s.1 in (x.form, x.count)
