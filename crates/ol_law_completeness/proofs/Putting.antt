-- Jumps over a term that stands under more abstractions than before, and over a term with another in a
-- variable's place.
-- Used in Redexes and Hops.
use Rattle.std.proofs.Common.{◌≡◌, ℕ, suc, Bool, false, Some, refl, sym, ap, ◌∙◌, subst}
use Rattle.ol_context.specs.Contexts.{Level, empty}
use Rattle.ol_law_meaning.proofs.Addresses.{without_own, occurs_same, left_same, bare_same, zero_lifted}
use Rattle.ol_law_meaning.proofs.Addresses.{without_under, occurs_more, wire_some}
use Rattle.ol_law_meaning.proofs.Lifts.{occurs_lifted, bare_lifted, lifted_under}
use Rattle.ol_law_meaning.specs.Contraction.{lift, lifted_wire, without, wire_without, put, subst_for}
use Rattle.ol_law_meaning.proofs.Bare.{right_like}
use Rattle.ol_law_meaning.specs.Sites.{Site, self, spot_in}
use Rattle.ol_law_meaning.specs.Spots.{Wire, bound, name, under, occurs, Spot}
use Rattle.ol_term.specs.Trees.{Tree, free}
use Rattle.ol_term.specs.declared.translations.Translation.{Translation}
use Rattle.ol_law_completeness.proofs.Jumps.{Reached, at_var, at_name, by_lam, by_fun, by_arg, reached_occurs}
use Rattle.ol_law_completeness.proofs.Jumps.{Jump, to_body, to_var, to_fun, to_arg, from_body, from_var, from_fun}
use Rattle.ol_law_completeness.proofs.Jumps.{from_arg, in_body, in_fun, in_arg}

module _ {τ : Translation} where
  pub reached_lifted : {M : Tree} {y : Wire} {a : Level} {p : Site} (d i : ℕ) → Reached τ M y a p →
      Reached τ (lift d i M) (lifted_wire d i y) a p
  reached_lifted d i at_var = at_var
  reached_lifted d i at_name = at_name
  reached_lifted {y = y} {a = a} d i (by_lam {M = M} {p = p} r) =
      by_lam (subst (λ y. Reached τ (lift (suc d) i M) y a p) (lifted_under d i y) (reached_lifted (suc d) i r))
  reached_lifted {y = y} d i (by_fun {N = N} {a = a} r e) =
      by_fun (reached_lifted d i r) (e ∙ rw (occurs_lifted y N d i) refl)
  reached_lifted {y = y} d i (by_arg {M = M} {N = N} r e) =
      by_arg (reached_lifted d i r) (right_like (lift d i M) (lift d i N) (lifted_wire d i y)
      (occurs_lifted y M d i) (bare_lifted τ N d i) e)

  jump_lifted : {t : Tree} {d e : Bool} {s z : Spot} (k i : ℕ) → Jump τ t d s e z → Jump τ (lift k i t) d s e z
  jump_lifted k i to_body = to_body
  jump_lifted k i (to_var r e q) = to_var (reached_lifted (suc k) i r) e q
  jump_lifted k i to_fun = to_fun
  jump_lifted k i (to_arg e) = to_arg e
  jump_lifted k i from_body = from_body
  jump_lifted k i (from_var r e q) = from_var (reached_lifted (suc k) i r) e q
  jump_lifted k i from_fun = from_fun
  jump_lifted k i (from_arg e) = from_arg e
  jump_lifted k i (in_body j) = in_body (jump_lifted (suc k) i j)
  jump_lifted k i (in_fun j) = in_fun (jump_lifted k i j)
  jump_lifted k i (in_arg j) = in_arg (jump_lifted k i j)

  -- a wire that isn't N's leads to the same occurrences, with the same levels
  pub reached_kept : (N : Tree) {M : Tree} {y : Wire} {a : Level} {p : Site} (i : ℕ) (z : Wire) → Reached τ M y a p →
      wire_without i y ≡ Some z → occurs z (lift 0 i N) ≡ false → Reached τ (subst_for i N M) z a p
  reached_kept N i z (at_var {y = y}) e f =
      let t = wire_some (without i y) z e in
      subst (λ z. Reached τ (put i N (without i y)) z empty self) (sym t.2)
      (subst (λ o. Reached τ (put i N o) (bound t.0) empty self) (sym t.1) at_var)
  reached_kept N i z (at_name {f = g}) e f =
      let k : name g ≡ z = cc in subst (λ z. Reached τ (free g) z empty self) k at_name
  reached_kept N {y = y} i z (by_lam r) e f =
      by_lam (reached_kept N (suc i) (under z) r (without_under i y z e) (occurs_more z N i ∙ f))
  reached_kept N {y = y} i z (by_fun {N = N2} {a = a} r q) e f =
      by_fun (reached_kept N i z r e f) (q ∙ sym (left_same N2 N i y z a e f))
  reached_kept N {y = y} i z (by_arg {M = M1} {N = M2} r q) e f =
      by_arg (reached_kept N i z r e f) (right_like (subst_for i N M1) (subst_for i N M2) z
      (occurs_same M1 N i y z e f) (bare_same τ M2 N i y z e (reached_occurs r)) q)

  pub own_kept : (N : Tree) {M : Tree} {a : Level} {p : Site} (i : ℕ) → Reached τ M (bound 0) a p →
      Reached τ (subst_for (suc i) N M) (bound 0) a p
  own_kept N i r = reached_kept N (suc i) (bound 0) r refl (zero_lifted N i)

  -- M's own jumps stay
  pub jump_kept : (N : Tree) {M : Tree} {d e : Bool} {s z : Spot} (i : ℕ) → Jump τ M d s e z →
      Jump τ (subst_for i N M) d s e z
  jump_kept N i to_body = to_body
  jump_kept N i (to_var r e q) = to_var (own_kept N i r) e q
  jump_kept N i to_fun = to_fun
  jump_kept N i (to_arg e) = to_arg e
  jump_kept N i from_body = from_body
  jump_kept N i (from_var r e q) = from_var (own_kept N i r) e q
  jump_kept N i from_fun = from_fun
  jump_kept N i (from_arg e) = from_arg e
  jump_kept N i (in_body j) = in_body (jump_kept N (suc i) j)
  jump_kept N i (in_fun j) = in_fun (jump_kept N i j)
  jump_kept N i (in_arg j) = in_arg (jump_kept N i j)

  -- and those of N are made in its copy at each occurrence
  copied : (N : Tree) {M : Tree} {y : Wire} {a : Level} {p : Site} {d e : Bool} {s z : Spot} (i : ℕ) →
      Reached τ M y a p → y ≡ bound i → Jump τ N d s e z → Jump τ (subst_for i N M) d (spot_in p s) e (spot_in p z)
  copied N {d = d} {e = e} {s = s} {z = z} i (at_var {y = y}) q j =
      let k : y ≡ i = cc in
      subst (λ y. Jump τ (put i N (without i y)) d s e z) (sym k)
      (subst (λ o. Jump τ (put i N o) d s e z) (sym (without_own i)) (jump_lifted 0 i j))
  copied N i at_name q j = absurd (cc)
  copied N i (by_lam r) q j = in_body (copied N (suc i) r (ap under q) j)
  copied N i (by_fun r e) q j = in_fun (copied N i r q j)
  copied N i (by_arg r e) q j = in_arg (copied N i r q j)

  pub jump_copied : (N : Tree) {M : Tree} {a : Level} {p : Site} {d e : Bool} {s z : Spot} →
      Reached τ M (bound 0) a p → Jump τ N d s e z → Jump τ (subst_for 0 N M) d (spot_in p s) e (spot_in p z)
  jump_copied N r j = copied N 0 r refl j
