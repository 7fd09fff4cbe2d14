-- The jumps over a term are hops over it without labels, which cost nothing.
-- Used in Circling.
use Rattle.std.proofs.Common.{◌≡◌, Bool, true, false, refl, sym, subst, arith}
use Rattle.ol_context.specs.Contexts.{Level}
use Rattle.ol_law_optimality.specs.Labels.{erased}
use Rattle.ol_law_meaning.specs.Sites.{Site, self, in_lam, in_function, in_argument}
use Rattle.ol_law_meaning.specs.Spots.{bound, Spot}
use Rattle.ol_term.specs.Trees.{Tree, var, free, lam, app}
use Rattle.ol_term.specs.declared.translations.Translation.{Translation}
use Rattle.ol_law_completeness.proofs.Jumps.{Reached, Jump, pushes}
use Rattle.ol_law_completeness.proofs.Jumps as jumps
use Rattle.ol_law_completeness.proofs.First.{unlabelled, erased_unlabelled}
use Rattle.ol_law_completeness.proofs.Hops.{Act, app_push, app_pop, lam_push, lam_pop, label_at, Hop, to_body, to_var, to_fun, to_arg}
use Rattle.ol_law_completeness.proofs.Hops.{from_body, from_var, from_fun, from_arg, in_body, in_fun, in_arg}

abbrev pub is_push : Act → Bool
is_push app_push = true
is_push app_pop = false
is_push lam_push = true
is_push lam_pop = false

no_label : (t : Tree) (p : Site) → label_at (unlabelled t) p ≡ 0
no_label (var y) p = refl
no_label (free f) p = refl
no_label (lam b) self = refl
no_label (lam b) (in_lam p) = no_label b p
no_label (lam b) (in_function p) = refl
no_label (lam b) (in_argument v p) = refl
no_label (app f a) self = refl
no_label (app f a) (in_lam p) = refl
no_label (app f a) (in_function p) = no_label f p
no_label (app f a) (in_argument v p) = no_label a p

module _ {τ : Translation} where
  own : (M : Tree) {a : Level} {p : Site} → Reached τ M (bound 0) a p → Reached τ (erased (unlabelled M)) (bound 0) a p
  own M {a} {p} r = subst (λ M. Reached τ M (bound 0) a p) (sym (erased_unlabelled M)) r

  pub hop_of : {t : Tree} {d e : Bool} {s z : Spot} (j : Jump τ t d s e z) →
      (k : Act) × Hop τ (unlabelled t) k 0 d s e z × (is_push k ≡ pushes j)
  hop_of jumps.to_body = (lam_pop, to_body refl, refl)
  hop_of (jumps.to_var {M = M} {p = p} r e q) = let g = no_label M p in (lam_pop, to_var (own M r) e q (omega (arith, g)), refl)
  hop_of jumps.to_fun = (app_push, to_fun refl, refl)
  hop_of (jumps.to_arg e) = (app_pop, to_arg e refl, refl)
  hop_of jumps.from_body = (lam_push, from_body refl, refl)
  hop_of (jumps.from_var {M = M} {p = p} r e q) =
      let g = no_label M p in (lam_push, from_var (own M r) e q (omega (arith, g)), refl)
  hop_of jumps.from_fun = (app_pop, from_fun refl, refl)
  hop_of (jumps.from_arg e) = (app_push, from_arg e refl, refl)
  hop_of (jumps.in_body j) = let h = hop_of j in (h.0, in_body h.1, h.2)
  hop_of (jumps.in_fun j) = let h = hop_of j in (h.0, in_fun h.1, h.2)
  hop_of (jumps.in_arg j) = let h = hop_of j in (h.0, in_arg h.1, h.2)
