-- One step by the table: its net is there, is counted, and is what the relation says.
use Rattle.std.proofs.Common.{◌≡◌, ◌≢◌, ℕ, suc, ◌+◌, ◌<◌, List, [], ◌∷◌, ◌++◌, Bool, true, false}
use Rattle.std.proofs.Common.{cond, if◌then◌else◌, Some, ◌⊎◌, inl, inr, refl, sym, subst}
use Rattle.ol_law_edges.specs.Edges.{IsIn, IsTest, Ready}
use Rattle.ol_net.specs.Nets.{slot, NamedNet, Linked, Faces}
use Rattle.ol_net.specs.Parts.{arity}
use Rattle.ol_net.specs.Rules.{rule_of}
use Rattle.ol_net.specs.declared.parts.Kind.{Kind}
use Rattle.ol_net.specs.declared.parts.Rule.{Rule}
use Rattle.ol_rules.proofs.Built.{net_of, HasBorn, ready, built_rewrites, built_counted}
use Rattle.ol_rules.proofs.Joins.{meets, crosses}
use Rattle.ol_law_edges.proofs.Lists.{in_left, in_right, in_cases}
use Rattle.ol_rules.proofs.Lists.{in_each, in_each_of}
use Rattle.ol_rules.specs.Contracting.{Vertex, old, f_copy, g_copy, vertex_same, links_left, meeting_joins}
use Rattle.ol_rules.specs.Contracting.{crossing_joins, gone, born_nodes, rewritten, rewrite, IsCounted}
use Rattle.ol_rules.proofs.Wires.{Join}
use Rattle.ol_rules.proofs.Alike.{meeting_alike}
use Rattle.ol_rules.specs.Laws.{IsFresh}
use Rattle.ol_rules.specs.Listed.{each}
use Rattle.ol_rules.specs.Rewriting.{Action, meeting, crossing, is_meeting, index_after, action_of}
use Rattle.ol_rules.specs.Rewriting.{NodeOf, of_f, of_g, Rewrites}

module _ {A : Type 0} (same : A → A → Bool) (t : IsTest same) (born : ℕ → A) (N : NamedNet A)
    (f g : A) (k : Kind) (i : ℕ) (l : Kind) (j : ℕ)
    (counted : IsCounted same N) (faces : Faces N f g k i l j) (fresh : IsFresh N born) where
  apart : f ≢ g
  apart e = (net_of same t N counted).apart (slot f 0)
      (subst (λ g. Linked N (slot f 0) (slot g 0)) (sym e) faces.linked)

  Dead : Vertex A → Type 0
  Dead u = ((s : ℕ) × (s < arity k) × (u ≡ old (slot f (suc s))))
      ⊎ ((s : ℕ) × (s < arity l) × (u ≡ old (slot g (suc s))))

  dead_is : (u : Vertex A) → IsIn u (gone f g (arity k) (arity l)) → Dead u
  unfolding Dead
  dead_is u h = go (in_cases u (each (arity k) (λ p. old (slot f (suc p)) ∷ []))
      (each (arity l) (λ q. old (slot g (suc q)) ∷ [])) h)
    where
      one : (x : A) (n : ℕ) → ((s : ℕ) × (s < n) × IsIn u (old (slot x (suc s)) ∷ [])) →
          (s : ℕ) × (s < n) × (u ≡ old (slot x (suc s)))
      one x n (s, b, inl e) = (s, b, e)
      one x n (s, b, inr e) = absurd e

      go : IsIn u (each (arity k) (λ p. old (slot f (suc p)) ∷ []))
          ⊎ IsIn u (each (arity l) (λ q. old (slot g (suc q)) ∷ [])) → Dead u
      go (inl h) = inl (one f (arity k) (in_each_of u (arity k) (λ p. old (slot f (suc p)) ∷ []) h))
      go (inr h) = inr (one g (arity l) (in_each_of u (arity l) (λ q. old (slot g (suc q)) ∷ []) h))

  abbrev IsEnd : Action → Vertex A → Type 0
  IsEnd a u = (w : Vertex A) × (Join N f g k i l j a u w ⊎ Join N f g k i l j a w u)

  meeting_end : arity k ≡ arity l → (u : Vertex A) → IsIn u (gone f g (arity k) (arity l)) → IsEnd meeting u
  unfolding Dead
  meeting_end q u h = go (dead_is u h)
    where
      go : Dead u → IsEnd meeting u
      go (inl (s, b, e)) = (
        old (slot g (suc s)),
        inl (subst (λ u. Join N f g k i l j meeting u (old (slot g (suc s)))) (sym e) (Join.meet b)),
      )
      go (inr (s, b, e)) = (
        old (slot f (suc s)),
        inr (subst (λ u. Join N f g k i l j meeting (old (slot f (suc s))) u) (sym e)
            (Join.meet (subst (λ n. s < n) (sym q) b))),
      )

  crossing_end : (j' : ℕ) (u : Vertex A) → IsIn u (gone f g (arity k) (arity l)) → IsEnd (crossing j') u
  unfolding Dead
  crossing_end j' u h = go (dead_is u h)
    where
      go : Dead u → IsEnd (crossing j') u
      go (inl (s, b, e)) = (
        g_copy s 0,
        inr
            (subst (λ u. Join N f g k i l j (crossing j') (g_copy s 0) u) (sym e) (Join.at_f b)),
      )
      go (inr (s, b, e)) = (
        f_copy s 0,
        inr
            (subst (λ u. Join N f g k i l j (crossing j') (f_copy s 0) u) (sym e) (Join.at_g b)),
      )

  no_births : HasBorn same t born N f g k i l j meeting []
  no_births = record {
    sound = λ x m n h. absurd h;
    of_f = λ q j' e b. absurd (cc);
    of_g = λ p j' e b. absurd (cc);
  }

  births : (j' : ℕ) → HasBorn same t born N f g k i l j (crossing j') (born_nodes f g born k i l j')
  births j' = record { sound = sound; of_f = from_f; of_g = from_g }
    where
      one_f : (x : A) (m : Kind) (n : ℕ) →
          ((s : ℕ) × (s < arity l) × IsIn {X = A × Kind × ℕ} (x, m, n) ((born s, k, i) ∷ [])) →
          NodeOf N born f g k i l (crossing j') x m n
      one_f x m n (s, b, inl e) = subst (λ (d : A × Kind × ℕ).
          NodeOf N born f g k i l (crossing j') d.0 d.1 d.2) (sym e) (of_f j' refl b)
      one_f x m n (s, b, inr e) = absurd e

      one_g : (x : A) (m : Kind) (n : ℕ) →
          ((s : ℕ) × (s < arity k) × IsIn {X = A × Kind × ℕ} (x, m, n)
          ((born (arity l + s), l, j') ∷ [])) → NodeOf N born f g k i l (crossing j') x m n
      one_g x m n (s, b, inl e) = subst (λ (d : A × Kind × ℕ).
          NodeOf N born f g k i l (crossing j') d.0 d.1 d.2) (sym e) (of_g j' refl b)
      one_g x m n (s, b, inr e) = absurd e

      fs : List (A × Kind × ℕ)
      fs = each (arity l) (λ q. (born q, k, i) ∷ [])

      gs : List (A × Kind × ℕ)
      gs = each (arity k) (λ p. (born (arity l + p), l, j') ∷ [])

      sound : (x : A) (m : Kind) (n : ℕ) →
          IsIn {X = A × Kind × ℕ} (x, m, n) (born_nodes f g born k i l j') → NodeOf N born f g k i l (crossing j') x m n
      sound x m n h = go (in_cases (x, m, n) fs gs h)
        where
          go : IsIn {X = A × Kind × ℕ} (x, m, n) fs ⊎ IsIn {X = A × Kind × ℕ} (x, m, n) gs →
              NodeOf N born f g k i l (crossing j') x m n
          go (inl h) = one_f x m n (in_each_of (x, m, n) (arity l) (λ q. (born q, k, i) ∷ []) h)
          go (inr h) = one_g x m n (in_each_of (x, m, n) (arity k) (λ p. (born (arity l + p), l, j') ∷ []) h)

      from_f : (q j2 : ℕ) → crossing j' ≡ crossing j2 → q < arity l →
          IsIn {X = A × Kind × ℕ} (born q, k, i) (born_nodes f g born k i l j')
      from_f q j2 e b = in_left (born q, k, i) fs gs
          (in_each (born q, k, i) (arity l) (λ q. (born q, k, i) ∷ []) q b (inl refl))

      from_g : (p j2 : ℕ) → crossing j' ≡ crossing j2 → p < arity k →
          IsIn {X = A × Kind × ℕ} (born (arity l + p), l, j2) (born_nodes f g born k i l j')
      from_g p j2 e b = let r : j' ≡ j2 = cc in
          subst (λ j2. IsIn {X = A × Kind × ℕ} (born (arity l + p), l, j2) (born_nodes f g born k i l j')) r
          (in_right (born (arity l + p), l, j') fs gs
          (in_each (born (arity l + p), l, j') (arity k) (λ p. (born (arity l + p), l, j') ∷ []) p b (inl refl)))

  pub record Stepped (a : Action) (M : NamedNet A) : Type 0 where
    pub is_rewrite : Rewrites born N f g k i l a M
    pub is_counted : IsCounted same M

  pub met : arity k ≡ arity l → Stepped meeting
      (rewritten f g same born N [] (meeting_joins f g (arity k)) (arity k) (arity l))
  met q = record {
    is_rewrite = built_rewrites same t born N f g k i l j meeting counted faces fresh
        (meeting_joins f g (arity k)) (meets same t N f g k i l j apart q) (λ e. q) (meeting_end q) [] no_births;
    is_counted = built_counted same t born N f g k i l j meeting counted faces fresh
        (meeting_joins f g (arity k)) (meets same t N f g k i l j apart q) (λ e. q) (meeting_end q) [] no_births;
  }

  pub crossed : (j' : ℕ) → Stepped (crossing j')
      (rewritten f g same born N (born_nodes f g born k i l j')
      (crossing_joins f g (arity k) (arity l)) (arity k) (arity l))
  crossed j' = record {
    is_rewrite = built_rewrites same t born N f g k i l j (crossing j') counted faces fresh
        (crossing_joins f g (arity k) (arity l)) (crosses same t N f g k i l j apart j')
        (λ e. absurd (cc)) (crossing_end j') (born_nodes f g born k i l j') (births j');
    is_counted = built_counted same t born N f g k i l j (crossing j') counted faces fresh
        (crossing_joins f g (arity k) (arity l)) (crosses same t N f g k i l j apart j')
        (λ e. absurd (cc)) (crossing_end j') (born_nodes f g born k i l j') (births j');
  }

  pub met_ready : arity k ≡ arity l → Ready (vertex_same same) (gone f g (arity k) (arity l))
      (meeting_joins f g (arity k) ++ links_left f g same born N)
  met_ready q = ready same t born N f g k i l j meeting counted faces fresh
      (meeting_joins f g (arity k)) (meets same t N f g k i l j apart q) (λ e. q) (meeting_end q)

  pub crossed_ready : ℕ → Ready (vertex_same same) (gone f g (arity k) (arity l))
      (crossing_joins f g (arity k) (arity l) ++ links_left f g same born N)
  crossed_ready j' = ready same t born N f g k i l j (crossing j') counted faces fresh
      (crossing_joins f g (arity k) (arity l)) (crosses same t N f g k i l j apart j')
      (λ e. absurd (cc)) (crossing_end j')

  pub stepped : (r : Rule) → rule_of k i l j ≡ Some r → Stepped (action_of r j) (rewrite f g same born N r k i l j)
  stepped r h = go (is_meeting r) (meeting_alike k i l j r h)
    where
      go : (b : Bool) → (b ≡ true → arity k ≡ arity l) → Stepped (if b then meeting else crossing (index_after r j))
          (cond b (rewritten f g same born N [] (meeting_joins f g (arity k)) (arity k) (arity l))
          (rewritten f g same born N (born_nodes f g born k i l (index_after r j))
          (crossing_joins f g (arity k) (arity l)) (arity k) (arity l)))
      go true m = met (m refl)
      go false m = crossed (index_after r j)
