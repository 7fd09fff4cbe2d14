-- What stands among the edges of the words and among the pending links, and whether a net has a node.
-- Used in InWords, LinkSteps, Steps and Ticket.
use Rattle.std.proofs.Common.{◌≡◌, ◌≢◌, ℕ, zero, suc, ◌+◌, ◌<◌, Bool, true, false, ◌&&◌, ◌||◌}
use Rattle.std.proofs.Common.{nat_eq, eqb-true, eq-eqb, List, [], ◌∷◌, ◌++◌, slice_index, slice_set}
use Rattle.std.proofs.Common.{◌⊎◌, inl, inr, refl, sym, ap, ◌∙◌, subst, arith}
use Rattle.std.proofs.lemmas.Bool.{cases_Bool, or_left, or_right, false≢true, and_parts}
use mathlib.Core.Option.{some, some-injective, some-ne-none}
use lib.ListN.{get_elem?}
use Rattle.ol_law_edges.specs.Edges.{IsIn}
use Rattle.ol_net.specs.declared.parts.Kind.{Kind}
use Rattle.ol_net.specs.Nets.{NamedNet, HasNode}
use Rattle.ol_rules.specs.declared.journal.NodeName.{NodeName}
use Rattle.ol_rules.specs.declared.journal.NodeName.TheVariants.{Init, Born}
use Rattle.ol_law_edges.proofs.Lists.{in_left, in_right, in_cases}
use Rattle.ol_wire.specs.declared.layout.Parts.{Parts}
use Rattle.ol_wire.specs.declared.view.View.{View}
use Rattle.ol_wire.specs.Layout.{part_of_word}
use Rattle.ol_wire.specs.Weights.{pairs}
use Rattle.ol_wire.specs.Edges.{same_name, is_listed, is_live, edge_in, edges_in, links_in, pending_in}
use Rattle.ol_wire.proofs.InWords.Alike.{Alike, pairs_append}

-- the edge of word w
abbrev pub word_edge : Parts → NamedNet NodeName → (ℕ → Bool) → List ℕ → ℕ → List (ℕ × ℕ)
word_edge z net reached words w = edge_in net (reached w) (part_of_word z w) w (slice_index words w)
    (slice_index words (suc w))

module _ (z : Parts) (net : NamedNet NodeName) (reached : ℕ → Bool) (words : List ℕ) where
  pub edge_there : (n w : ℕ) (d : ℕ × ℕ) → w < n → IsIn d (word_edge z net reached words w) →
      IsIn d (edges_in z net reached words n)
  edge_there zero w d lt h = absurd (omega arith)
  edge_there (suc n) w d lt h = go (last w n lt) (λ c. edge_there n w d c h)
    where
      last : (w n : ℕ) → w < suc n → (w < n) ⊎ (w ≡ n)
      last w n b = grind arith

      go : (w < n) ⊎ (w ≡ n) → (w < n → IsIn d (edges_in z net reached words n)) →
          IsIn d (edges_in z net reached words (suc n))
      go (inl c) ih = in_left d (edges_in z net reached words n) (word_edge z net reached words n) (ih c)
      go (inr e) ih = in_right d (edges_in z net reached words n) (word_edge z net reached words n)
          (subst (λ w. IsIn d (word_edge z net reached words w)) e h)

  pub edge_found : (n : ℕ) (d : ℕ × ℕ) → IsIn d (edges_in z net reached words n) →
      (w : ℕ) × (w < n) × IsIn d (word_edge z net reached words w)
  edge_found zero d h = absurd h
  edge_found (suc n) d h = go (edge_found n d)
      (in_cases d (edges_in z net reached words n) (word_edge z net reached words n) h)
    where
      go : (IsIn d (edges_in z net reached words n) →
          (w : ℕ) × (w < n) × IsIn d (word_edge z net reached words w)) →
          IsIn d (edges_in z net reached words n) ⊎ IsIn d (word_edge z net reached words n) →
          (w : ℕ) × (w < suc n) × IsIn d (word_edge z net reached words w)
      go ih (inl c) = let t = ih c in let b = t.1 in (t.0, omega arith, t.2)
      go ih (inr c) = (n, omega arith, c)

-- equal names
pub same_name_true : (x : NodeName) → same_name x x ≡ true
same_name_true (Init m) = eq-eqb m m refl
same_name_true (Born t p) = ap (λ b. b && nat_eq p p) (eq-eqb t t refl) ∙ eq-eqb p p refl

pub same_name_tells : (x y : NodeName) → same_name x y ≡ true → x ≡ y
same_name_tells (Init m) (Init n) h = ap (λ m. Init m) (eqb-true m n h)
same_name_tells (Init m) (Born t p) h = absurd (false≢true h)
same_name_tells (Born t p) (Init m) h = absurd (false≢true h)
same_name_tells (Born t p) (Born u q) h = let b = and_parts (nat_eq t u) (nat_eq p q) h in
    ap (λ t. Born t p) (eqb-true t u b.0) ∙ ap (λ p. Born u p) (eqb-true p q b.1)

pub name_apart : (x y : NodeName) → x ≢ y → same_name x y ≡ false
name_apart x y d = go (cases_Bool (same_name x y))
  where
    go : (same_name x y ≡ true) ⊎ (same_name x y ≡ false) → same_name x y ≡ false
    go (inl h) = absurd (d (same_name_tells x y h))
    go (inr h) = h

-- whether the net has a node
pub listed_there : (nodes : List (NodeName × Kind × ℕ)) (x : NodeName) (k : Kind) (i : ℕ) →
    IsIn {X = NodeName × Kind × ℕ} (x, k, i) nodes → is_listed x nodes ≡ true
listed_there [] x k i h = absurd h
listed_there (n ∷ nodes) x k i (inl e) = or_left (same_name x n.0) (is_listed x nodes)
    (subst (λ y. same_name x y ≡ true) (ap (λ (n : NodeName × Kind × ℕ). n.0) e) (same_name_true x))
listed_there (n ∷ nodes) x k i (inr h) = or_right (same_name x n.0) (is_listed x nodes) (listed_there nodes x k i h)

pub listed_found : (nodes : List (NodeName × Kind × ℕ)) (x : NodeName) → is_listed x nodes ≡ true →
    (k : Kind) × (i : ℕ) × IsIn {X = NodeName × Kind × ℕ} (x, k, i) nodes
listed_found [] x h = absurd (false≢true h)
listed_found (n ∷ nodes) x h = go (cases_Bool (same_name x n.0)) (listed_found nodes x)
  where
    here : same_name x n.0 ≡ true → ◌≡◌ {A = NodeName × Kind × ℕ} (x, n.1, n.2) n
    here q = λ i. (same_name_tells x n.0 q i, n.1, n.2)

    go : (same_name x n.0 ≡ true) ⊎ (same_name x n.0 ≡ false) →
        (is_listed x nodes ≡ true → (k : Kind) × (i : ℕ)
        × IsIn {X = NodeName × Kind × ℕ} (x, k, i) nodes) →
        (k : Kind) × (i : ℕ) × IsIn {X = NodeName × Kind × ℕ} (x, k, i) (n ∷ nodes)
    go (inl q) ih = (n.1, n.2, inl (here q))
    go (inr q) ih = let t = ih (ap (λ b. b || is_listed x nodes) (sym q) ∙ h) in (t.0, t.1, inr t.2)

pub live_there : (net : NamedNet NodeName) (x : NodeName) (k : Kind) (i : ℕ) → HasNode net x k i → is_live net x ≡ true
live_there net x k i h = listed_there net.nodes x k i h

pub live_found : (net : NamedNet NodeName) (x : NodeName) → is_live net x ≡ true →
    (k : Kind) × (i : ℕ) × HasNode net x k i
live_found net x h = listed_found net.nodes x h

-- where two nets have nodes of the same names
pub live_same : (M N : NamedNet NodeName) (x : NodeName) →
    ((k : Kind) (i : ℕ) → HasNode M x k i → is_live N x ≡ true) →
    ((k : Kind) (i : ℕ) → HasNode N x k i → is_live M x ≡ true) → is_live M x ≡ is_live N x
live_same M N x f g = go (cases_Bool (is_live M x)) (cases_Bool (is_live N x))
  where
    go : (is_live M x ≡ true) ⊎ (is_live M x ≡ false) →
        (is_live N x ≡ true) ⊎ (is_live N x ≡ false) → is_live M x ≡ is_live N x
    go (inl a) (inl b) = a ∙ sym b
    go (inr a) (inr b) = a ∙ sym b
    go (inl a) (inr b) = let t = live_found M x a in a ∙ sym (f t.0 t.1 t.2)
    go (inr a) (inl b) = let t = live_found N x b in g t.0 t.1 t.2 ∙ sym b

-- pending links
pub pending_there : (views : List View) (id : ℕ) (v : View) (d : ℕ × ℕ) →
    get_elem? views id ≡ some v → IsIn d (links_in v.pending) → IsIn d (pending_in views)
pending_there [] id v d e h = absurd (some-ne-none v (sym e))
pending_there (u ∷ views) zero v d e h = in_left d (links_in u.pending) (pending_in views)
    (subst (λ (w : View). IsIn d (links_in w.pending)) (sym (some-injective u v e)) h)
pending_there (u ∷ views) (suc id) v d e h = in_right d (links_in u.pending) (pending_in views)
    (pending_there views id v d e h)

pub pending_found : (views : List View) (d : ℕ × ℕ) → IsIn d (pending_in views) →
    (id : ℕ) × (v : View) × (get_elem? views id ≡ some v) × IsIn d (links_in v.pending)
pending_found [] d h = absurd h
pending_found (u ∷ views) d h = go (pending_found views d) (in_cases d (links_in u.pending) (pending_in views) h)
  where
    go : (IsIn d (pending_in views) → (id : ℕ) × (v : View) × (get_elem? views id ≡ some v)
        × IsIn d (links_in v.pending)) → IsIn d (links_in u.pending) ⊎ IsIn d (pending_in views)
        → (id : ℕ) × (v : View) × (get_elem? (u ∷ views) id ≡ some v) × IsIn d (links_in v.pending)
    go ih (inl c) = (0, u, refl, c)
    go ih (inr c) = let t = ih c in (suc t.0, t.1, t.2, t.3)

-- one view changes, and not its links
pub pending_still : (views : List View) (id : ℕ) (v v' : View) → get_elem? views id ≡ some v →
    v'.pending ≡ v.pending → pending_in (slice_set views id v') ≡ pending_in views
pending_still [] id v v' e q = refl
pending_still (u ∷ views) zero v v' e q = ap (λ links. links_in links ++ pending_in views)
    (q ∙ ap (λ (w : View). w.pending) (sym (some-injective u v e)))
pending_still (u ∷ views) (suc id) v v' e q = ap (λ es. links_in u.pending ++ es) (pending_still views id v v' e q)

-- the weight of all pending links, where those of one view change
pub pending_weigh : (h : ℕ → ℕ → ℕ) (views : List View) (id : ℕ) (v v' : View) → get_elem? views id ≡ some v
    → pairs h (pending_in (slice_set views id v')) + pairs h (links_in v.pending) ≡ pairs h
    (pending_in views) + pairs h (links_in v'.pending)
pending_weigh h [] id v v' e = absurd (some-ne-none v (sym e))
pending_weigh h (u ∷ views) zero v v' e =
    omega (
      arith,
      pairs_append h (links_in v'.pending) (pending_in views),
      pairs_append h (links_in u.pending) (pending_in views),
      ap (λ (w : View). pairs h (links_in w.pending)) (some-injective u v e),
    )
pending_weigh h (u ∷ views) (suc id) v v' e =
    omega (
      arith,
      pairs_append h (links_in u.pending) (pending_in (slice_set views id v')),
      pairs_append h (links_in u.pending) (pending_in views),
      pending_weigh h views id v v' e,
    )

-- a view without links gets some
pub pending_set : (views : List View) (id : ℕ) (v v' : View) → get_elem? views id ≡ some v →
    v.pending ≡ [] → Alike (pending_in (slice_set views id v')) (links_in v'.pending ++ pending_in views)
pending_set views id v v' e q h even =
    let none : pairs h (links_in v.pending) ≡ 0 = ap (λ links. pairs h (links_in links)) q in
    omega (arith, pending_weigh h views id v v' e, pairs_append h (links_in v'.pending) (pending_in views), none)
