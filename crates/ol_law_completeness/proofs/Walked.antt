-- In each labelled term walks end in which whatever is popped was pushed in the walk, and is no older than K.
-- Used in Circling.
use Rattle.std.proofs.Common.{ℕ, Bool, true, false}
use Rattle.ol_law_optimality.specs.Labels.{Labelled}
use Rattle.ol_term.specs.declared.translations.Translation.{Translation}
use Rattle.ol_law_completeness.proofs.Short.{Short, Neutral}
use Rattle.ol_law_completeness.proofs.Short as short
use Rattle.ol_law_completeness.proofs.Simulating.{stepped, short_before}
use Rattle.ol_law_completeness.proofs.Walls.{Norm, of_var, of_free, of_app, plain, of_lam, of_redex, wall, all_norm}

data Built (τ : Translation) (K : ℕ) : Bool → Labelled → Type 1 where
  neutral : {t : Labelled} → Neutral τ K t → Built τ K true t
  whole : {t : Labelled} → Short τ K t → Built τ K false t

of_neutral : {τ : Translation} {K : ℕ} {t : Labelled} → Built τ K true t → Neutral τ K t
of_neutral (neutral n) = n

of_whole : {τ : Translation} {K : ℕ} {t : Labelled} → Built τ K false t → Short τ K t
of_whole (whole h) = h

as_short : {τ : Translation} {K : ℕ} {t : Labelled} → Neutral τ K t → Short τ K t
as_short N d s = N.short (N.begin d s)

built : (τ : Translation) (K : ℕ) {k : ℕ} {b : Bool} {t : Labelled} → Norm K k b t → Built τ K b t
built τ K (of_var {y = y} {w = w}) = neutral (short.of_var y w)
built τ K (of_free {f = f} {w = w}) = neutral (short.of_free f w)
built τ K (of_app {m = m} {n = n} {w = w} r s) =
    neutral (short.of_app m n w (of_neutral (built τ K r)) (of_whole (built τ K s)))
built τ K (plain r) = whole (as_short (of_neutral (built τ K r)))
built τ K (of_lam h r) = whole (short.of_lam (of_whole (built τ K r)))
built τ K (of_redex s r u) = whole (short_before (stepped τ K s) (of_whole (built τ K r)) (of_whole (built τ K u)))
built τ K (wall {b = b} {c = c} {v = v} {w = w} h r s) =
    neutral (short.of_wall b c v w h (of_whole (built τ K r)) (of_whole (built τ K s)))

pub all_short : (τ : Translation) (K : ℕ) (t : Labelled) → Short τ K t
all_short τ K t = of_whole (built τ K (all_norm K t))
