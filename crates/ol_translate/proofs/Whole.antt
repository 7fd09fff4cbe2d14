-- Parts whose ports stand in one link each are those of a net.
use Rattle.std.proofs.Common.{◌≡◌, ℕ, suc, ◌≤◌, ◌+◌, List, [], ◌∷◌, map, true, false, Bool, Option}
use Rattle.std.proofs.Common.{Some, None, nat_lt, ◌⊎◌, inl, inr, refl, sym, ap, ◌∙◌, subst, arith}
use Rattle.std.proofs.lemmas.Bool.Decides.{nat_tests}
use Rattle.ol_law_edges.specs.Edges.{IsIn, Near}
use Rattle.ol_term.specs.declared.translations.Translation.{Translation}
use Rattle.ol_term.specs.Trees.{Tree}
use Rattle.ol_net.specs.declared.parts.Kind.{Kind}
use Rattle.ol_net.specs.declared.parts.Port.{Port}
use Rattle.ol_net.specs.declared.parts.Port.TheVariants.{Free, Of}
use Rattle.ol_net.specs.Parts.{arity}
use Rattle.ol_net.specs.Graph.{Graph, kind_at, has_slot, has_port}
use Rattle.ol_net.specs.Nets.{NamedPort, free, slot, NamedNet, Linked, IsPort, IsNet}
use Rattle.ol_net.specs.Numbered.{numbered_port, numbered_from, net_of_parts, all_live}
use Rattle.ol_net.proofs.Building.{numbered_link, nodes_from-live}
use Rattle.ol_net.proofs.Numbered.{has_node}
use Rattle.ol_translate.specs.Translation.{nodes_of, links_of, translation_of}
use Rattle.ol_translate.specs.Names.{HasNames}
use Rattle.ol_translate.proofs.Counts.{port_eq, hit, uses}
use Rattle.ol_translate.proofs.Ports.{bit, each_port_once}
use Rattle.ol_translate.proofs.Fitting.{hit_itself, port_from_eq, EachOnce}

-- ---- a port and its links

hit_once : (p q : Port) → p ≡ q → hit p q ≡ 1
hit_once p q e = subst (λ q. hit p q ≡ 1) e (hit_itself p)

of_hit : (p q : Port) → 1 ≤ hit p q → p ≡ q
unfolding hit
of_hit p q h = elim (port_eq p q) as (λ b. port_eq p q ≡ b → 1 ≤ bit b → p ≡ q) [
  | true ↦ (λ t l. sym (port_from_eq p q t))
  | false ↦ (λ t l. absurd (omega arith))
] refl h

-- the link is of these two, either way
abbrev Joins : Port × Port → Port → Port → Type 0
Joins l p q = (◌≡◌ {A = Port × Port} (p, q) l) ⊎ (◌≡◌ {A = Port × Port} (q, p) l)

near_first : (l : Port × Port) (links : List (Port × Port)) (p q : Port) → Near (l ∷ links) p q →
    Joins l p q ⊎ Near links p q
near_first l links p q (inl (inl e)) = inl (inl e)
near_first l links p q (inl (inr h)) = inr (inl h)
near_first l links p q (inr (inl e)) = inl (inr e)
near_first l links p q (inr (inr h)) = inr (inr h)

hit_joined : (l : Port × Port) (p q : Port) → Joins l p q → 1 ≤ hit p l.0 + hit p l.1
hit_joined l p q (inl e) = omega (arith, hit_once p l.0 (ap (λ (l : Port × Port). l.0) e))
hit_joined l p q (inr e) = omega (arith, hit_once p l.1 (ap (λ (l : Port × Port). l.1) e))

-- a port of a link is used
used : (links : List (Port × Port)) (p q : Port) → Near links p q → 1 ≤ uses p links
used [] p q (inl h) = absurd h
used [] p q (inr h) = absurd h
used (l ∷ links) p q h = elim (near_first l links p q h) [
  | inl j ↦ omega (arith, hit_joined l p q j)
  | inr k ↦ omega (arith, used links p q k)
]

-- a link of a port with itself uses it twice
used_twice : (links : List (Port × Port)) (p : Port) → Near links p p → 2 ≤ uses p links
used_twice [] p (inl h) = absurd h
used_twice [] p (inr h) = absurd h
used_twice (l ∷ links) p h = elim (near_first l links p p h) [
  | inl j ↦ omega (arith, both j)
  | inr k ↦ omega (arith, used_twice links p k)
]
  where
    both : Joins l p p → 2 ≤ hit p l.0 + hit p l.1
    both (inl e) = omega (
      arith,
      hit_once p l.0 (ap (λ (l : Port × Port). l.0) e),
      hit_once p l.1 (ap (λ (l : Port × Port). l.1) e),
    )
    both (inr e) = omega (
      arith,
      hit_once p l.0 (ap (λ (l : Port × Port). l.0) e),
      hit_once p l.1 (ap (λ (l : Port × Port). l.1) e),
    )

same_end : (l : Port × Port) (p q r : Port) → Joins l p q → Joins l p r → q ≡ r
same_end l p q r (inl e) (inl e') = ap (λ (l : Port × Port). l.1) (e ∙ sym e')
same_end l p q r (inl e) (inr e') = let t = e ∙ sym e' in
    ap (λ (l : Port × Port). l.1) t ∙ ap (λ (l : Port × Port). l.0) t
same_end l p q r (inr e) (inl e') = let t = e ∙ sym e' in
    ap (λ (l : Port × Port). l.0) t ∙ ap (λ (l : Port × Port). l.1) t
same_end l p q r (inr e) (inr e') = ap (λ (l : Port × Port). l.0) (e ∙ sym e')

-- a port that is used once has one partner
one_partner : (links : List (Port × Port)) (p q r : Port) → uses p links ≤ 1 → Near links p q → Near links p r → q ≡ r
one_partner [] p q r few (inl h) h' = absurd h
one_partner [] p q r few (inr h) h' = absurd h
one_partner (l ∷ links) p q r few h h' = go (one_partner links p q r (omega arith))
    (near_first l links p q h) (near_first l links p r h')
  where
    go : (Near links p q → Near links p r → q ≡ r) → Joins l p q ⊎ Near links p q → Joins l p r ⊎ Near links p r → q ≡ r
    go later (inl j) (inl j') = same_end l p q r j j'
    go later (inl j) (inr k') = absurd (omega (arith, hit_joined l p q j, used links p r k'))
    go later (inr k) (inl j') = absurd (omega (arith, hit_joined l p r j', used links p q k))
    go later (inr k) (inr k') = later k k'

-- a port that is used has a partner
some_partner : (links : List (Port × Port)) (p : Port) → 1 ≤ uses p links → (q : Port) × Near links p q
some_partner [] p h = absurd (omega arith)
some_partner (l ∷ links) p h = go (some_partner links p) (some (hit p l.0) (hit p l.1) (uses p links) h)
  where
    some : (a b c : ℕ) → 1 ≤ a + b + c → (1 ≤ a) ⊎ ((1 ≤ b) ⊎ (1 ≤ c))
    some a b c h = grind arith

    later : (q : Port) × Near links p q → (q : Port) × Near (l ∷ links) p q
    later (q, inl h) = (q, inl (inr h))
    later (q, inr h) = (q, inr (inr h))

    go : (1 ≤ uses p links → (q : Port) × Near links p q) →
        (1 ≤ hit p l.0) ⊎ ((1 ≤ hit p l.1) ⊎ (1 ≤ uses p links)) → (q : Port) × Near (l ∷ links) p q
    go rest (inl a) = (l.1, inl (inl (ap (λ p. (p, l.1)) (of_hit p l.0 a))))
    go rest (inr (inl b)) = (l.0, inr (inl (ap (λ p. (l.0, p)) (of_hit p l.1 b))))
    go rest (inr (inr c)) = later (rest c)

-- ---- ports by their numbers

abbrev pub port_of : NamedPort ℕ → Port
port_of (free n) = Free n
port_of (slot x s) = Of (record { 0 = x }) s

pub port_back : (p : Port) → port_of (numbered_port p) ≡ p
port_back (Free k) = refl
port_back (Of n s) = refl

pub port_there : (p : NamedPort ℕ) → numbered_port (port_of p) ≡ p
port_there (free n) = refl
port_there (slot x s) = refl

port_apart : (p q : NamedPort ℕ) → port_of p ≡ port_of q → p ≡ q
port_apart p q e = sym (port_there p) ∙ ap numbered_port e ∙ port_there q

links_back : (links : List (Port × Port)) (p q : NamedPort ℕ) →
    IsIn (p, q) (map numbered_link links) → IsIn (port_of p, port_of q) links
links_back [] p q h = absurd h
links_back (l ∷ links) p q (inl e) =
    let a = ap (λ (w : NamedPort ℕ × NamedPort ℕ). port_of w.0) e ∙ port_back l.0 in
    let b = ap (λ (w : NamedPort ℕ × NamedPort ℕ). port_of w.1) e ∙ port_back l.1 in
    inl (ap (λ p. (p, port_of q)) a ∙ ap (λ q. (l.0, q)) b)
links_back (l ∷ links) p q (inr h) = inr (links_back links p q h)

links_there : (links : List (Port × Port)) (p q : Port) → IsIn (p, q) links →
    IsIn (numbered_port p, numbered_port q) (map numbered_link links)
links_there [] p q h = absurd h
links_there (l ∷ links) p q (inl e) = inl (ap numbered_link e)
links_there (l ∷ links) p q (inr h) = inr (links_there links p q h)

near_back : (links : List (Port × Port)) (p q : NamedPort ℕ) → Near (map numbered_link links) p q →
    Near links (port_of p) (port_of q)
near_back links p q (inl h) = inl (links_back links p q h)
near_back links p q (inr h) = inr (links_back links q p h)

near_there : (links : List (Port × Port)) (p q : Port) → Near links p q →
    Near (map numbered_link links) (numbered_port p) (numbered_port q)
near_there links p q (inl h) = inl (links_there links p q h)
near_there links p q (inr h) = inr (links_there links q p h)

-- ---- nodes

-- a table with these nodes
abbrev table : List (Kind × ℕ) → Graph
table nodes = record { free = 0; nodes = all_live nodes; partners = [] }

node_at : (nodes : List (Kind × ℕ)) (x : ℕ) (k : Kind) (i : ℕ) →
    IsIn (x, k, i) (numbered_from 0 nodes) → kind_at (all_live nodes) x ≡ Some (k, i)
node_at nodes x k i h = (has_node (table nodes) x k i).0
    (subst (λ ns. IsIn (x, k, i) ns) (sym (nodes_from-live 0 nodes)) h)

at_node : (nodes : List (Kind × ℕ)) (x : ℕ) (k : Kind) (i : ℕ) →
    kind_at (all_live nodes) x ≡ Some (k, i) → IsIn (x, k, i) (numbered_from 0 nodes)
at_node nodes x k i e = subst (λ ns. IsIn (x, k, i) ns) (nodes_from-live 0 nodes) ((has_node (table nodes) x k i).1 e)

one_bit : (b : Bool) → 1 ≤ bit b → b ≡ true
one_bit true h = refl
one_bit false h = absurd (omega arith)

bit_few : (b : Bool) → bit b ≤ 1
bit_few true = omega arith
bit_few false = omega arith

-- ---- the net

module _ (ports : ℕ) (nodes : List (Kind × ℕ)) (links : List (Port × Port)) (once : EachOnce ports nodes links) where
  abbrev N : NamedNet ℕ
  N = net_of_parts ports nodes links

  is_port : (p : NamedPort ℕ) → has_port ports (all_live nodes) (port_of p) ≡ true → IsPort N p
  is_port (free n) e = grind (arith, nat_tests)
  is_port (slot x s) e = go (kind_at (all_live nodes) x) refl e
    where
      go : (o : Option (Kind × ℕ)) → kind_at (all_live nodes) x ≡ o → has_slot o s ≡ true → IsPort N (slot x s)
      go None e t = absurd (cc)
      go (Some k) e t = (k.0, k.1, at_node nodes x k.0 k.1 e, grind (arith, nat_tests))

  port_is : (p : NamedPort ℕ) → IsPort N p → has_port ports (all_live nodes) (port_of p) ≡ true
  port_is (free n) h = grind (arith, nat_tests)
  port_is (slot x s) (k, i, h, b) = let t : nat_lt s (suc (arity k)) ≡ true = grind
      (arith, nat_tests) in ap (λ o. has_slot o s) (node_at nodes x k i h) ∙ t

  few : (p : Port) → uses p links ≤ 1
  few p = omega (arith, once p, bit_few (has_port ports (all_live nodes) p))

  end_is_port : (p q : NamedPort ℕ) → Linked N p q → IsPort N p
  end_is_port p q h = is_port p (one_bit (has_port ports (all_live nodes) (port_of p))
      (omega (arith, once (port_of p), used links (port_of p) (port_of q) (near_back links p q h))))

  turned : (p q : NamedPort ℕ) → Linked N p q → Linked N q p
  turned p q (inl h) = inr h
  turned p q (inr h) = inl h

  linked : (p : NamedPort ℕ) → (q : Port) × Near links (port_of p) q → (q : NamedPort ℕ) × Linked N p q
  linked p (q, h) = (
    numbered_port q,
    subst (λ p. Linked N p (numbered_port q)) (port_there p)
        (near_there links (port_of p) q h),
  )

  pub parts_net : IsNet N
  parts_net = record {
    one_node = λ x k l i j h h'.
        let e : ◌≡◌ {A = Option (Kind × ℕ)} (Some (k, i)) (Some (l, j)) = sym
        (node_at nodes x k i h) ∙ node_at nodes x l j h' in
        let t : ◌≡◌ {A = Kind × ℕ} (k, i) (l, j) = cc in
        (ap (λ (w : Kind × ℕ). w.0) t, ap (λ (w : Kind × ℕ). w.1) t);
    of_ports = λ p q h. (end_is_port p q h, end_is_port q p (turned p q h));
    one_link = λ p q r h h'. port_apart q r
        (one_partner links (port_of p) (port_of q) (port_of r) (few (port_of p))
        (near_back links p q h) (near_back links p r h'));
    apart = λ p h. absurd (omega (arith, few (port_of p), used_twice links (port_of p) (near_back links p p h)));
    some_link = λ p h.
        let b : bit (has_port ports (all_live nodes) (port_of p)) ≡ 1 = ap bit (port_is p h) in
        linked p (some_partner links (port_of p) (omega (arith, once (port_of p), b)));
  }

pub translation_net : (w : Translation) (t : Tree) (names : ℕ) → HasNames t names → IsNet (translation_of w t names)
translation_net w t names h = parts_net (1 + names) (nodes_of w t) (links_of w t) (each_port_once w t names h)
