-- A walk from a port up to where something holds, with the row of its crossings: a path to a free
-- port, or a chain to a pair.
use Rattle.std.proofs.Common.{◌≡◌, ℕ, suc, ◌<◌, List, [], ◌∷◌}
use Rattle.ol_net.specs.declared.parts.Kind.{Kind}
use Rattle.ol_net.specs.declared.parts.Rule.{Rule}
use Rattle.ol_net.specs.Parts.{arity}
use Rattle.ol_net.specs.Nets.{NamedNet, NamedPort, free, slot, HasNode, Linked, IsNet}
use Rattle.ol_context.specs.Contexts.{Context, up}
use Rattle.ol_context.specs.Paths.{inward, outward, Path, ends, goes}
use Rattle.ol_demand.specs.Chains.{IsAtPair, IsAtNoPair}
use Rattle.ol_law_completeness.specs.Rows.{Crossing, rise, fall, row}
use Rattle.ol_law_completeness.specs.Least.{Clean, starts, crosses, Meets}

module _ {A : Type 0} (N : NamedNet A) where
  pub data Goes (E : NamedPort A → Type 0) : NamedPort A → Context → List (Crossing A) → Type 0
    where
      stops : {u : NamedPort A} {c : Context} → E u → Goes E u c []
      goes_up : {u : NamedPort A} {c d : Context} {x : A} {w : List (Crossing A)} (k : Kind)
          (i s : ℕ) → Linked N u (slot x (suc s)) → HasNode N x k i → s < arity k →
          up k i s c ≡ d → Goes E (slot x 0) d w → Goes E u c (rise x ∷ w)
      goes_down : {u : NamedPort A} {c d : Context} {x : A} {w : List (Crossing A)} (k : Kind)
          (i s : ℕ) → Linked N u (slot x 0) → HasNode N x k i → s < arity k →
          up k i s d ≡ c → Goes E (slot x (suc s)) d w → Goes E u c (fall x ∷ w)

  -- where a walk stops, no node follows but behind an active pair
  abbrev pub IsStop : (NamedPort A → Type 0) → Type 0
  IsStop E = (u : NamedPort A) → E u → (x : A) (s : ℕ) → Linked N u (slot x s) →
      IsAtNoPair N u → ⊥

  abbrev pub AtFree : ℕ → NamedPort A → Type 0
  AtFree q u = Linked N u (free q)

  abbrev pub AtPair : A → A → Rule → NamedPort A → Type 0
  AtPair f g r u = IsAtPair N u f g r

  pub free_stops : IsNet N → (q : ℕ) → IsStop (AtFree q)
  free_stops is_net q u e x s l a =
      let z : free q ≡ slot x s = is_net.one_link u (free q) (slot x s) e l in absurd (cc)

  pub pair_stops : (f g : A) (r : Rule) → IsStop (AtPair f g r)
  pair_stops f g r u e x s l a = a f g r e

  pub path_goes : {u : NamedPort A} {c d : Context} {q : ℕ} (t : Path N u c q d) →
      Goes (AtFree q) u c (row t)
  path_goes (ends l) = stops l
  path_goes (goes {k = k} {i = i} l h (inward {s = s} b e) r) = goes_up k i s l h b e (path_goes r)
  path_goes (goes {k = k} {i = i} l h (outward {s = s} b e) r) =
      goes_down k i s l h b e (path_goes r)

  clean_goes : {E : NamedPort A → Type 0} {p : ℕ} {c : Context} {n : ℕ} {u : NamedPort A}
      {d : Context} → Clean N p c n u d → {w : List (Crossing A)} → Goes E u d w →
      (w' : List (Crossing A)) × Goes E (free p) c w'
  clean_goes starts {w} r = (w, r)
  clean_goes (crosses {k = k} {i = i} h a l y (inward {s = s} b e)) r =
      clean_goes h (goes_up k i s l y b e r)
  clean_goes (crosses {k = k} {i = i} h a l y (outward {s = s} b e)) r =
      clean_goes h (goes_down k i s l y b e r)

  pub meets_goes : {p : ℕ} {c : Context} {f g : A} {r : Rule} → Meets N p c f g r →
      (w : List (Crossing A)) × Goes (AtPair f g r) (free p) c w
  meets_goes m = clean_goes m.clean (stops m.at)
