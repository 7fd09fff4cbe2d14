-- Whether a level 0 leads down the wire of a variable to an occurrence.
-- Used in Simulating.
use Rattle.std.proofs.Common.{◌≡◌, ℕ, suc, Bool, true, false, if◌then◌else◌, ◌⊎◌, inl, inr, refl, sym, ◌∙◌, subst, arith}
use Rattle.std.proofs.lemmas.Bool.Decides.{nat_tests}
use Rattle.ol_context.specs.Contexts.{Level, empty, o, star, pair}
use Rattle.ol_law_meaning.specs.Sites.{Site, self, in_lam, in_function, in_argument}
use Rattle.ol_law_meaning.specs.Spots.{Wire, bound, name, under, occurs, is_bare}
use Rattle.ol_term.specs.Trees.{Tree, var, free, lam, app}
use Rattle.ol_term.specs.declared.translations.Translation.{Translation}
use Rattle.ol_law_completeness.proofs.Jumps.{Reached, at_var, at_name, by_lam, by_fun, by_arg}

module _ (τ : Translation) where
  abbrev pub Code : Tree → Wire → Level → Type 0
  Code M y w = ((p : Site) × Reached τ M y w p) ⊎ ((p : Site) → Reached τ M y w p → ⊥)

  at_a_var : (v : ℕ) {y : Wire} {w : Level} {p : Site} → Reached τ (var v) y w p → (bound v ≡ y) × (empty ≡ w)
  at_a_var v at_var = (refl, refl)

  at_a_name : (f : ℕ) {y : Wire} {w : Level} {p : Site} → Reached τ (free f) y w p → name f ≡ y
  at_a_name f at_name = refl

  var_code : (v y : ℕ) (w : Level) (b : Bool) → occurs (bound y) (var v) ≡ b → Code (var v) (bound y) w
  var_code v y empty true e =
      let h : v ≡ y = grind (arith, nat_tests, e) in inl (self, subst (λ y. Reached τ (var v) (bound y) empty self) h at_var)
  var_code v y empty false e =
      inr (λ p r. (let g = (at_a_var v r).0 in let h : v ≡ y = cc in grind (arith, nat_tests, e, h)))
  var_code v y (o a) b e = inr (λ p r. (let h = (at_a_var v r).1 in absurd (cc)))
  var_code v y (star a) b e = inr (λ p r. (let h = (at_a_var v r).1 in absurd (cc)))
  var_code v y (pair a a') b e = inr (λ p r. (let h = (at_a_var v r).1 in absurd (cc)))

  -- it is a variable's wire that is asked for
  free_code : (f y : ℕ) (w : Level) → Code (free f) (bound y) w
  free_code f y w = inr (λ p r. (let h = at_a_name f r in absurd (cc)))

  lam_code : (M : Tree) (y : Wire) (w : Level) → Code M (under y) w → Code (lam M) y w
  lam_code M y w (inl h) = inl (in_lam h.0, by_lam h.1)
  lam_code M y w (inr h) = inr (λ p r. no p r)
    where
      no : (p : Site) → Reached τ (lam M) y w p → ⊥
      no p (by_lam {p = q} r) = h q r

  module _ (M N : Tree) (y : Wire) (of_M : (w : Level) → Code M y w) (of_N : (w : Level) → Code N y w) where
    abbrev InFun : Level → Bool → Type 0
    InFun w b = ((a : Level) × (p : Site) × Reached τ M y a p × (w ≡ (if b then o a else a)))
        ⊎ ((a : Level) (p : Site) → Reached τ M y a p → w ≡ (if b then o a else a) → ⊥)

    same_fun : (w : Level) → Code M y w → InFun w false
    same_fun w (inl h) = inl (w, h.0, h.1, refl)
    same_fun w (inr h) = inr (λ a p r q. h p (subst (λ a. Reached τ M y a p) (sym q) r))

    marked_fun : (a : Level) → Code M y a → InFun (o a) true
    marked_fun a (inl h) = inl (a, h.0, h.1, refl)
    marked_fun a (inr h) = inr (λ a' p r q. (let g : a ≡ a' = cc in h p (subst (λ a. Reached τ M y a p) (sym g) r)))

    in_fun_code : (w : Level) (b : Bool) → InFun w b
    in_fun_code w false = same_fun w (of_M w)
    in_fun_code (o a) true = marked_fun a (of_M a)
    in_fun_code empty true = inr (λ a p r q. absurd (cc))
    in_fun_code (star x) true = inr (λ a p r q. absurd (cc))
    in_fun_code (pair x x') true = inr (λ a p r q. absurd (cc))

    abbrev Unmarked : Level → Bool → Type 0
    Unmarked w b = ((x : Level) × (w ≡ (if b then star x else x))) ⊎ ((x : Level) → w ≡ (if b then star x else x) → ⊥)

    unmarked : (w : Level) (b : Bool) → Unmarked w b
    unmarked w false = inl (w, refl)
    unmarked (star x) true = inl (x, refl)
    unmarked empty true = inr (λ x q. absurd (cc))
    unmarked (o a) true = inr (λ x q. absurd (cc))
    unmarked (pair a a') true = inr (λ x q. absurd (cc))

    one_mark : (b : Bool) (x x' : Level) → (if b then star x else x) ≡ (if b then star x' else x') → x ≡ x'
    one_mark true x x' e = cc
    one_mark false x x' e = e

    abbrev InBox : Level → Bool → Type 0
    InBox x bare = ((b : Level) × (v : Level) × (p : Site) × Reached τ N y b p × (bare ≡ true → b ≡ empty)
        × (x ≡ (if bare then v else pair b v)))
        ⊎ ((b v : Level) (p : Site) → Reached τ N y b p → (bare ≡ true → b ≡ empty) → x ≡ (if bare then v else pair b v) → ⊥)

    bare_box : (x : Level) → Code N y empty → InBox x true
    bare_box x (inl h) = inl (empty, x, h.0, h.1, (λ e. refl), refl)
    bare_box x (inr h) = inr (λ b v p r l q. h p (subst (λ b. Reached τ N y b p) (l refl) r))

    own_box : (b v : Level) → Code N y b → InBox (pair b v) false
    own_box b v (inl h) = inl (b, v, h.0, h.1, (λ e. absurd (cc)), refl)
    own_box b v (inr h) = inr (λ b' v' p r l q. (let g : b ≡ b' = cc in h p (subst (λ b. Reached τ N y b p) (sym g) r)))

    in_box : (x : Level) (bare : Bool) → InBox x bare
    in_box x true = bare_box x (of_N empty)
    in_box (pair b v) false = own_box b v (of_N b)
    in_box empty false = inr (λ b v p r l q. absurd (cc))
    in_box (o a) false = inr (λ b v p r l q. absurd (cc))
    in_box (star a) false = inr (λ b v p r l q. absurd (cc))

    module _ (w : Level) (nf : (a : Level) (p : Site) → Reached τ M y a p → w ≡ (if occurs y N then o a else a) → ⊥) where
      none : ((b v : Level) (p : Site) → Reached τ N y b p → (is_bare τ N ≡ true → b ≡ empty) →
          w ≡ (if occurs y M then star (if is_bare τ N then v else pair b v) else (if is_bare τ N then v else pair b v)) → ⊥) →
          (p : Site) → Reached τ (app M N) y w p → ⊥
      none h p (by_fun {a = a} {p = q} r e) = nf a q r e
      none h p (by_arg {b = b} {v = v} {p = q} r e) = h b v q r e.level e.is

      in_the_box : (x : Level) → w ≡ (if occurs y M then star x else x) → InBox x (is_bare τ N) → Code (app M N) y w
      in_the_box x e (inl h) =
          inl (
            in_argument h.1 h.2,
            by_arg h.3 (record {
              level = h.4;
              is = subst (λ x. w ≡ (if occurs y M then star x else x)) h.5 e;
            }),
          )
      in_the_box x e (inr h) =
          inr (none (λ b v p r l q. h b v p r l
          (one_mark (occurs y M) x (if is_bare τ N then v else pair b v) (sym e ∙ q))))

      in_the_arg : Unmarked w (occurs y M) → Code (app M N) y w
      in_the_arg (inl h) = in_the_box h.0 h.1 (in_box h.0 (is_bare τ N))
      in_the_arg (inr h) = inr (none (λ b v p r l q. h (if is_bare τ N then v else pair b v) q))

    in_the_fun : (w : Level) → InFun w (occurs y N) → Code (app M N) y w
    in_the_fun w (inl h) = inl (in_function h.1, by_fun h.2 h.3)
    in_the_fun w (inr h) = in_the_arg w h (unmarked w (occurs y M))

    app_code : (w : Level) → Code (app M N) y w
    app_code w = in_the_fun w (in_fun_code w (occurs y N))

  pub code : (M : Tree) (y : ℕ) (w : Level) → Code M (bound y) w
  code (var v) y w = var_code v y w (occurs (bound y) (var v)) refl
  code (free f) y w = free_code f y w
  code (lam M) y w = lam_code M (bound y) w (code M (suc y) w)
  code (app M N) y w = app_code M N (bound y) (code M y) (code N y) w
