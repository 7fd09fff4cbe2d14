-- Both orders of two pairs of a graph, by birth names and by numbers.
use Rattle.std.proofs.Common.{◌≡◌, ◌≢◌, ℕ, ◌+◌, ◌-◌, ◌<◌, ◌≤◌, nat_lt, if◌then◌else◌, List, [], ◌∷◌}
use Rattle.std.proofs.Common.{map, length, ◌⊎◌, inl, inr, refl, sym, ap, ◌∙◌, subst, arith}
use Rattle.std.proofs.lemmas.Bool.{cases_lt}
use Rattle.ol_law_edges.proofs.Lists.{if_below, if_above}
use Rattle.ol_net.specs.declared.parts.Kind.{Kind}
use Rattle.ol_net.specs.declared.parts.Rule.{Rule}
use Rattle.ol_net.specs.Graph.{Graph}
use Rattle.ol_net.specs.Nets.{NamedPort, free, slot, NamedNet, HasNode, IsNet, SameNet, Faces, port_under, net_under}
use Rattle.ol_net.specs.Numbered.{net_of}
use Rattle.ol_net.specs.Pairs.{IsActive, IsInActive}
use Rattle.ol_rules.specs.Rewriting.{action_of, Rewrites}
use Rattle.ol_rules.specs.Steps.{births, StepsAt}
use Rattle.ol_rules.proofs.FreshPairs.{linked_sym}
use Rattle.ol_rules.proofs.Relation.{same_refl, same_sym, same_trans}
use Rattle.ol_rules.proofs.Renaming.{node_to, link_to, node_back, link_back, net_alike}
use Rattle.ol_rules.proofs.OnTheWay.{node_below, fresh_numbers}
use Rattle.ol_rules.proofs.OneRun.{ArePaired}
use Rattle.ol_diamond.specs.Births.{BirthName, init, born, IsBirthNet}
use Rattle.ol_diamond.specs.Runs.{BirthPair, IsSamePair, IsPairStep}
use Rattle.ol_diamond.specs.Squares.{IsInNoActive, AreTogether, AreInOnePair, InTurn, born_between}
use Rattle.ol_diamond.specs.Squares.{exchanged, names_after, birth_names, BothOrders}
use Rattle.ol_diamond.proofs.Births.{fresh_of, start_is_birth_net}
use Rattle.ol_diamond.proofs.Commute.{Disjoint}
use Rattle.ol_diamond.proofs.Confluence.{step_keeps, take, one_pair, pairs_commute}
use Rattle.ol_diamond.proofs.Renaming.{IsRenamed, under_renamed, renamed_under, agree, renamed}
use Rattle.ol_diamond.proofs.Pairs.{one_partner, one_rule, IsSeenTwice, seen_twice, after_net, apart, faces_after}

-- ---- names by numbers

-- start nodes below n, then nodes of a first pair, and from m on those of a second one
abbrev two : (n m : ℕ) (F G F' G' : BirthName) → ℕ → BirthName
two n m F G F' G' x = if nat_lt x m then (if nat_lt x n then init x else born F G (x - n)) else born F' G' (x - m)

module _ (n m : ℕ) (F G F' G' : BirthName) (up : n ≤ m) where
  two_start : (x : ℕ) → x < n → two n m F G F' G' x ≡ init x
  two_start x h = if_below x m (if nat_lt x n then init x else born F G (x - n))
      (born F' G' (x - m)) (omega arith) ∙ if_below x n (init x) (born F G (x - n)) h

  two_first : (x : ℕ) → n ≤ x → x < m → two n m F G F' G' x ≡ born F G (x - n)
  two_first x h h' = if_below x m (if nat_lt x n then init x else born F G (x - n))
      (born F' G' (x - m)) h' ∙ if_above x n (init x) (born F G (x - n)) h

  two_second : (x : ℕ) → m ≤ x → two n m F G F' G' x ≡ born F' G' (x - m)
  two_second x h = if_above x m (if nat_lt x n then init x else born F G (x - n)) (born F' G' (x - m)) h

  -- where a number lies, and so its name
  Lies : ℕ → BirthName → Type 0
  Lies x v = ((x < n) × (v ≡ init x)) ⊎
      (((n ≤ x) × (x < m) × (v ≡ born F G (x - n))) ⊎ ((m ≤ x) × (v ≡ born F' G' (x - m))))

  lies : (x : ℕ) → Lies x (two n m F G F' G' x)
  unfolding Lies
  lies x = go (cases_lt x n) (cases_lt x m)
    where
      go : (x < n) ⊎ (n ≤ x) → (x < m) ⊎ (m ≤ x) → Lies x (two n m F G F' G' x)
      go (inl h) c = inl (h, two_start x h)
      go (inr h) (inl h') = inr (inl (h, h', two_first x h h'))
      go (inr h) (inr h') = inr (inr (h', two_second x h'))

  one_number : F ≢ F' → (x y : ℕ) (v w : BirthName) → Lies x v → Lies y w → v ≡ w → x ≡ y
  unfolding Lies
  one_number d x y v w (inl (a, e)) (inl (b, e')) q = let z : init x ≡ init y = sym e ∙ q ∙ e' in cc
  one_number d x y v w (inl (a, e)) (inr (inl (b, b', e'))) q = let z : init x ≡ born F G
      (y - n) = sym e ∙ q ∙ e' in absurd (cc)
  one_number d x y v w (inl (a, e)) (inr (inr (b, e'))) q = let z : init x ≡ born F' G'
      (y - m) = sym e ∙ q ∙ e' in absurd (cc)
  one_number d x y v w (inr (inl (a, a', e))) (inl (b, e')) q = let z : born F G
      (x - n) ≡ init y = sym e ∙ q ∙ e' in absurd (cc)
  one_number d x y v w (inr (inl (a, a', e))) (inr (inl (b, b', e'))) q = let z : born F G
      (x - n) ≡ born F G (y - n) = sym e ∙ q ∙ e' in let u : x - n ≡ y - n = cc in omega arith
  one_number d x y v w (inr (inl (a, a', e))) (inr (inr (b, e'))) q = let z : born F G
      (x - n) ≡ born F' G' (y - m) = sym e ∙ q ∙ e' in let u : F ≡ F' = cc in absurd (d u)
  one_number d x y v w (inr (inr (a, e))) (inl (b, e')) q = let z : born F' G'
      (x - m) ≡ init y = sym e ∙ q ∙ e' in absurd (cc)
  one_number d x y v w (inr (inr (a, e))) (inr (inl (b, b', e'))) q = let z : born F' G'
      (x - m) ≡ born F G (y - n) = sym e ∙ q ∙ e' in let u : F ≡ F' = cc in absurd (d u)
  one_number d x y v w (inr (inr (a, e))) (inr (inr (b, e'))) q = let z : born F' G'
      (x - m) ≡ born F' G' (y - m) = sym e ∙ q ∙ e' in let u : x - m ≡ y - m = cc in omega arith

  two_injective : F ≢ F' → (x y : ℕ) → two n m F G F' G' x ≡ two n m F G F' G' y → x ≡ y
  two_injective d x y e = one_number d x y (two n m F G F' G' x) (two n m F G F' G' y) (lies x) (lies y) e

-- names agree where the blocks are exchanged
abbrev Agree : ℕ → BirthName → BirthName → BirthName → BirthName → Type 0
Agree count F G F' G' = (count ≡ 0) ⊎ ((F ≡ F') × (G ≡ G'))

born_agree : (count p : ℕ) (F G F' G' : BirthName) → p < count → Agree count F G F' G' → born F G p ≡ born F' G' p
born_agree count p F G F' G' h (inl e) = absurd (omega arith)
born_agree count p F G F' G' h (inr (e, e')) = let a = e in let b = e' in cc

module _ (n one other m m' : ℕ) (is_m : m ≡ n + one) (is_m' : m' ≡ n + other)
    (F G F2 G2 F' G' F2' G2' : BirthName) (a : Agree one F G F2' G2') (b : Agree other F2 G2 F' G') where
  abbrev T : ℕ → BirthName
  T = two n m' F' G' F2' G2'

  abbrev inner : ℕ → ℕ
  inner y = if nat_lt y (n + one + other) then y - one else y

  abbrev middle : ℕ → ℕ
  middle y = if nat_lt y (n + one) then y + other else inner y

  moved : (x : ℕ) → x < n + one + other → two n m F G F2 G2 x ≡ two n m' F' G' F2' G2' (exchanged n one other x)
  moved x h = go (cases_lt x n) (cases_lt x (n + one))
    where
      go : (x < n) ⊎ (n ≤ x) → (x < n + one) ⊎ (n + one ≤ x) →
          two n m F G F2 G2 x ≡ two n m' F' G' F2' G2' (exchanged n one other x)
      go (inl c) d =
          let e : exchanged n one other x ≡ x = if_below x n x (middle x) c in
          two_start n m F G F2 G2 (omega arith) x c
          ∙ sym (two_start n m' F' G' F2' G2' (omega arith) x c) ∙ ap T (sym e)
      go (inr c) (inl d) =
          let e : exchanged n one other x ≡ x + other = if_above x n x (middle x) c
          ∙ if_below x (n + one) (x + other) (inner x) d in
          let q : x + other - m' ≡ x - n = omega arith in
          two_first n m F G F2 G2 (omega arith) x c (omega arith)
          ∙ born_agree one (x - n) F G F2' G2' (omega arith) a ∙ ap (born F2' G2') (sym q)
          ∙ sym (two_second n m' F' G' F2' G2' (omega arith) (x + other) (omega arith)) ∙ ap T (sym e)
      go (inr c) (inr d) =
          let e : exchanged n one other x ≡ x - one = if_above x n x (middle x) c
          ∙ if_above x (n + one) (x + other) (inner x) d ∙ if_below x (n + one + other) (x - one) x h in
          let q : x - one - n ≡ x - m = omega arith in
          two_second n m F G F2 G2 (omega arith) x (omega arith)
          ∙ born_agree other (x - m) F2 G2 F' G' (omega arith) b ∙ ap (born F' G') (sym q)
          ∙ sym (two_first n m' F' G' F2' G2' (omega arith) (x - one) (omega arith) (omega arith)) ∙ ap T (sym e)

-- ---- a net under names of names

module _ {A B C : Type 0} (m : B → C) (e : A → B) where
  port_twice : (p : NamedPort A) → port_under m (port_under e p) ≡ port_under (λ x. m (e x)) p
  port_twice (free u) = refl
  port_twice (slot x s) = refl

  nodes_twice : (xs : List (A × Kind × ℕ)) →
      map {B = C × Kind × ℕ} (λ (d : B × Kind × ℕ). (m d.0, d.1, d.2))
      (map {B = B × Kind × ℕ} (λ (d : A × Kind × ℕ). (e d.0, d.1, d.2)) xs) ≡ map {B = C × Kind × ℕ}
      (λ (d : A × Kind × ℕ). (m (e d.0), d.1, d.2)) xs
  nodes_twice [] = refl
  nodes_twice (x ∷ xs) = ap (λ ys. (m (e x.0), x.1, x.2) ∷ ys) (nodes_twice xs)

  links_twice : (xs : List (NamedPort A × NamedPort A)) →
      map {B = NamedPort C × NamedPort C} (λ (d : NamedPort B × NamedPort B).
      (port_under m d.0, port_under m d.1))
      (map {B = NamedPort B × NamedPort B}
      (λ (d : NamedPort A × NamedPort A). (port_under e d.0, port_under e d.1)) xs)
      ≡ map {B = NamedPort C × NamedPort C}
      (λ (d : NamedPort A × NamedPort A). (port_under (λ x. m (e x)) d.0, port_under (λ x. m (e x)) d.1)) xs
  links_twice [] = refl
  links_twice (x ∷ xs) = let p = port_twice x.0 in let q = port_twice x.1 in let r = links_twice xs in cc

  under_twice : (N : NamedNet A) → net_under m (net_under e N) ≡ net_under (λ x. m (e x)) N
  under_twice N = λ i. record {
    nodes = nodes_twice N.nodes i;
    free_ports = N.free_ports;
    links = links_twice N.links i;
  }

-- names of which no two are equal hide no difference
same_back : {A B : Type 0} (m : A → B) (one_name : (x y : A) → m x ≡ m y → x ≡ y)
    (M N : NamedNet A) → SameNet (net_under m M) (net_under m N) → SameNet M N
same_back m one_name M N s = record {
  nodes = λ x k i. (
    (λ h. node_back m one_name N x k i ((s.nodes (m x) k i).0 (node_to m M x k i h))),
    (λ h. node_back m one_name M x k i ((s.nodes (m x) k i).1 (node_to m N x k i h))),
  );
  free_ports = s.free_ports;
  links = λ p q. (
    (λ h. link_back m one_name N p q ((s.links (port_under m p) (port_under m q)).0 (link_to m M p q h))),
    (λ h. link_back m one_name M p q ((s.links (port_under m p) (port_under m q)).1 (link_to m N p q h))),
  );
}

-- ---- one step by numbers and by birth names

record On (g : Graph) (m : ℕ → BirthName) (B : NamedNet BirthName) : Type 0 where
  net : IsNet (net_of g)
  birth_net : IsBirthNet B
  renames : IsRenamed m (net_of g) B

abbrev pair_of : {old new : Graph} {at : ℕ} {r : Rule} → (ℕ → BirthName) → StepsAt old new at r → BirthPair
pair_of {r = r} m s = record { f = m s.f; g = m s.g; rule = r }

module _ (old new : Graph) (at : ℕ) (r : Rule) (m : ℕ → BirthName) (s : StepsAt old new at r) where
  names_old : (x : ℕ) → x < length old.nodes → names_after m s x ≡ m x
  names_old x h = if_below x (length old.nodes) (m x) (born (m s.f) (m s.g) (x - length old.nodes)) h

  names_new : (place : ℕ) → names_after m s (length old.nodes + place) ≡ born (m s.f) (m s.g) place
  names_new place =
      let x = length old.nodes + place in
      let q : x - length old.nodes ≡ place = omega arith in
      if_above x (length old.nodes) (m x) (born (m s.f) (m s.g) (x - length old.nodes))
      (omega arith) ∙ ap (born (m s.f) (m s.g)) q

  record Stepped (B : NamedNet BirthName) : Type 0 where
    after : NamedNet BirthName
    step : IsPairStep B (pair_of m s) after
    on : On new (names_after m s) after

  on_step : (B : NamedNet BirthName) → On old m B → Stepped B
  on_step B o =
      let x = s.step.active in
      let f = m s.f in
      let g = m s.g in
      let faces : Faces B f g x.k x.i x.l x.j = record {
        first = o.renames.nodes_to s.f x.k x.i x.faces.first;
        second = o.renames.nodes_to s.g x.l x.j x.faces.second;
        linked = o.renames.links_to (slot s.f 0) (slot s.g 0) x.faces.linked;
      } in
      let p = pair_of m s in
      let a = take B o.birth_net p x.k x.i x.l x.j faces x.fits in
      let m' = names_after m s in
      let ef = names_old s.f (node_below old s.f x.k x.i x.faces.first) in
      let eg = names_old s.g (node_below old s.g x.l x.j x.faces.second) in
      let e = agree m m' (net_of old) B o.net (λ y k i h. names_old y (node_below old y k i h)) o.renames in
      let w = subst (λ g'. Rewrites (born f g) B (m' s.f) g' x.k x.i x.l (action_of r x.j) a.after)
      (sym eg) (subst (λ f'. Rewrites (born f g) B f' g x.k x.i x.l (action_of r x.j) a.after)
      (sym ef) a.rewrites) in
      record {
        after = a.after;
        step = a.step;
        on = record {
          net = after_net old new at r o.net s;
          birth_net = step_keeps B a.after p o.birth_net a.step;
          renames = renamed m' (net_of old) B e o.net s.f s.g x.k x.i x.l x.j
              (action_of r x.j) x.faces (λ place. length old.nodes + place) (born f g)
              (fresh_numbers old) (fresh_of B o.birth_net f g x.k x.l x.i x.j faces.first
              faces.second) names_new (net_of new) a.after s.step.rewrites w;
        };
      }

-- ---- both orders

turned_two : (net : Graph) (x y : ℕ) → (AreTogether net x y → ⊥) → AreTogether net y x → ⊥
turned_two net x y two (inl e) = two (inl (sym e))
turned_two net x y two (inr h) = two (inr (linked_sym (net_of net) (slot y 0) (slot x 0) h))

module _ (net ab ba : Graph) (a b : ℕ) (r s : Rule) (is_net : IsNet (net_of net))
    (two_pairs : AreTogether net a b → ⊥) (t : InTurn net a b r s ab) (u : InTurn net b a s r ba) where
  two_back : AreTogether net b a → ⊥
  two_back = turned_two net a b two_pairs

  a_twice : IsSeenTwice t.first.step.active u.second.step.active
  a_twice =
      let x = t.first in
      let y = u.second in
      seen_twice (net_of net) (net_of u.middle)
      (after_net net u.middle b s is_net u.first) a x.f x.g y.f y.g r x.step.active y.step.active x.one_of y.one_of
      (faces_after net u.middle b s is_net u.first a x.f x.g r x.step.active x.one_of two_back)

  b_twice : IsSeenTwice u.first.step.active t.second.step.active
  b_twice =
      let x = u.first in
      let y = t.second in
      seen_twice (net_of net) (net_of t.middle)
      (after_net net t.middle a r is_net t.first) b x.f x.g y.f y.g s x.step.active y.step.active x.one_of y.one_of
      (faces_after net t.middle a r is_net t.first b x.f x.g s x.step.active x.one_of two_pairs)

  far_apart : Disjoint t.first.f t.first.g u.first.f u.first.g
  far_apart = apart net t.middle a r is_net t.first b u.first.f u.first.g s u.first.step.active u.first.one_of two_pairs

  abbrev a_active : IsActive (net_of net) t.first.f t.first.g r
  a_active = t.first.step.active

  abbrev b_active : IsActive (net_of net) u.first.f u.first.g s
  b_active = u.first.step.active

  -- the two pairs by birth names, in each order
  abbrev a_first : BirthPair
  a_first = pair_of init t.first

  abbrev b_second : BirthPair
  b_second = pair_of (names_after init t.first) t.second

  abbrev b_first : BirthPair
  b_first = pair_of init u.first

  abbrev a_second : BirthPair
  a_second = pair_of (names_after init u.first) u.second

  -- a start node has its name after a step too
  kept_a : (x y : ℕ) (k : Kind) (i : ℕ) → HasNode (net_of net) x k i → x ≡ y → init x ≡ names_after init u.first y
  kept_a x y k i h e = let z = names_old net u.middle b s init u.first x (node_below net x k i h) in
      sym z ∙ ap (names_after init u.first) e

  kept_b : (x y : ℕ) (k : Kind) (i : ℕ) → HasNode (net_of net) x k i → x ≡ y → init x ≡ names_after init t.first y
  kept_b x y k i h e = let z = names_old net t.middle a r init t.first x (node_below net x k i h) in
      sym z ∙ ap (names_after init t.first) e

  same_a : IsSamePair a_first a_second
  same_a = (refl, go a_twice.two)
    where
      go : ArePaired t.first.f t.first.g u.second.f u.second.g →
          ((a_first.f ≡ a_second.f) × (a_first.g ≡ a_second.g)) ⊎ ((a_first.f ≡ a_second.g) × (a_first.g ≡ a_second.f))
      go (inl (e, e')) = inl (
        kept_a t.first.f u.second.f a_active.k a_active.i a_active.faces.first
            e,
        kept_a t.first.g u.second.g a_active.l a_active.j a_active.faces.second e',
      )
      go (inr (e, e')) = inr (
        kept_a t.first.f u.second.g a_active.k a_active.i a_active.faces.first
            e,
        kept_a t.first.g u.second.f a_active.l a_active.j a_active.faces.second e',
      )

  same_b : IsSamePair b_second b_first
  same_b = (refl, go b_twice.two)
    where
      go : ArePaired u.first.f u.first.g t.second.f t.second.g →
          ((b_second.f ≡ b_first.f) × (b_second.g ≡ b_first.g)) ⊎ ((b_second.f ≡ b_first.g) × (b_second.g ≡ b_first.f))
      go (inl (e, e')) = inl (
        sym (kept_b u.first.f t.second.f b_active.k b_active.i
            b_active.faces.first e),
        sym (kept_b u.first.g t.second.g b_active.l b_active.j b_active.faces.second e'),
      )
      go (inr (e, e')) = inr (
        sym (kept_b u.first.g t.second.f b_active.l b_active.j
            b_active.faces.second e'),
        sym (kept_b u.first.f t.second.g b_active.k b_active.i b_active.faces.first e),
      )

  not_same : IsSamePair a_first b_first → ⊥
  not_same (e, inl h) = far_apart.ff (let q = h.0 in cc)
  not_same (e, inr h) = far_apart.fg (let q = h.0 in cc)

  -- a birth name of a's pair in the other order is none of b's
  names_differ : b_first.f ≢ a_second.f
  names_differ q = go same_a.1
    where
      go : ((a_first.f ≡ a_second.f) × (a_first.g ≡ a_second.g))
          ⊎ ((a_first.f ≡ a_second.g) × (a_first.g ≡ a_second.f)) → ⊥
      go (inl (e, e')) = far_apart.ff (let z : init t.first.f ≡ init u.first.f = e ∙ sym q in cc)
      go (inr (e, e')) = far_apart.gf (let z : init t.first.g ≡ init u.first.f = e' ∙ sym q in cc)

  pub one_by_births : SameNet (net_under (birth_names t) (net_of ab)) (net_under (birth_names u) (net_of ba))
  one_by_births =
      let B = net_under init (net_of net) in
      let start : On net init B = record {
        net = is_net;
        birth_net = start_is_birth_net (net_of net) is_net;
        renames = under_renamed init (net_of net) (λ x y k l i j h h' e. cc);
      } in
      let x = on_step net t.middle a r init t.first B start in
      let y = on_step t.middle ab b s (names_after init t.first) t.second x.after x.on in
      let x' = on_step net u.middle b s init u.first B start in
      let y' = on_step u.middle ba a r (names_after init u.first) u.second x'.after x'.on in
      let sq = (pairs_commute B x.after x'.after a_first b_first start.birth_net x.step x'.step not_same).1 in
      let over = one_pair x.after x.after y.after sq.0 b_second b_first same_b x.on.birth_net
      (same_refl x.after) y.step sq.2 in
      let under = one_pair x'.after x'.after sq.1 y'.after a_first a_second same_a x'.on.birth_net
      (same_refl x'.after) sq.3 y'.step in
      let left = renamed_under (birth_names t) (net_of ab) y.after y.on.renames in
      let right = renamed_under (birth_names u) (net_of ba) y'.after y'.on.renames in
      same_trans (net_under (birth_names t) (net_of ab)) y.after
      (net_under (birth_names u) (net_of ba)) (same_sym y.after (net_under (birth_names t) (net_of ab)) left)
      (same_trans y.after sq.0 (net_under (birth_names u) (net_of ba)) over
      (same_trans sq.0 sq.1 (net_under (birth_names u) (net_of ba)) sq.4
      (same_trans sq.1 y'.after (net_under (birth_names u) (net_of ba)) under right)))

  abbrev made_by_a : ℕ
  made_by_a = born_between net t.middle

  abbrev made_by_b : ℕ
  made_by_b = born_between net u.middle

  a_agree : Agree made_by_a a_first.f a_first.g a_second.f a_second.g
  a_agree = go a_twice.names
    where
      go : (births r a_active.k a_active.l ≡ 0)
          ⊎ ((t.first.f ≡ u.second.f) × (t.first.g ≡ u.second.g)) →
          Agree made_by_a a_first.f a_first.g a_second.f a_second.g
      go (inl e) = let c = t.first.numbers in inl (omega arith)
      go (inr (e, e')) = inr (
        kept_a t.first.f u.second.f a_active.k a_active.i a_active.faces.first
            e,
        kept_a t.first.g u.second.g a_active.l a_active.j a_active.faces.second e',
      )

  b_agree : Agree made_by_b b_second.f b_second.g b_first.f b_first.g
  b_agree = go b_twice.names
    where
      go : (births s b_active.k b_active.l ≡ 0)
          ⊎ ((u.first.f ≡ t.second.f) × (u.first.g ≡ t.second.g)) →
          Agree made_by_b b_second.f b_second.g b_first.f b_first.g
      go (inl e) = let c = u.first.numbers in inl (omega arith)
      go (inr (e, e')) = inr (
        sym (kept_b u.first.f t.second.f b_active.k b_active.i
            b_active.faces.first e),
        sym (kept_b u.first.g t.second.g b_active.l b_active.j b_active.faces.second e'),
      )

  abbrev goes_to : ℕ → ℕ
  goes_to = exchanged (length net.nodes) made_by_a made_by_b

  goes_by_births : (x : ℕ) → x < length ab.nodes → birth_names t x ≡ birth_names u (goes_to x)
  goes_by_births x h =
      let p = t.first.numbers in
      let q = t.second.numbers in
      let p' = u.first.numbers in
      let c = b_twice.count in
      moved (length net.nodes) made_by_a made_by_b (length t.middle.nodes) (length u.middle.nodes)
      (omega arith) (omega arith)
      a_first.f a_first.g b_second.f b_second.g b_first.f b_first.g a_second.f a_second.g a_agree
      b_agree x (omega arith)

  pub exchange : SameNet (net_under goes_to (net_of ab)) (net_of ba)
  exchange =
      let m = birth_names u in
      let p' = u.first.numbers in
      let ab_net = after_net t.middle ab b s (after_net net t.middle a r is_net t.first) t.second in
      let e : net_under m (net_under goes_to (net_of ab)) ≡ net_under (birth_names t) (net_of ab) =
      under_twice m goes_to (net_of ab) ∙ net_alike (λ x. m (goes_to x)) (birth_names t)
      (net_of ab) ab_net (λ x k i h. sym (goes_by_births x (node_below ab x k i h))) in
      same_back m (two_injective (length net.nodes)
      (length u.middle.nodes) b_first.f b_first.g a_second.f a_second.g
      (omega arith) names_differ) (net_under goes_to (net_of ab)) (net_of ba)
      (subst (λ N. SameNet N (net_under m (net_of ba))) (sym e) one_by_births)

  pub both : BothOrders net a b r s ab ba
  both = record { ab_turn = t; ba_turn = u; exchange = exchange; births = one_by_births }

-- ---- what is refused

pub idle_apart : (net : Graph) (a b : ℕ) → IsInNoActive net a ⊎ IsInNoActive net b → AreInOnePair net a b → ⊥
idle_apart net a b (inl n) p = n p.rule p.first
idle_apart net a b (inr n) p = n p.rule p.second

pub not_idle : (net : Graph) (a b : ℕ) → (r : Rule) × IsInActive (net_of net) a r →
    (r : Rule) × IsInActive (net_of net) b r → IsInNoActive net a ⊎ IsInNoActive net b → ⊥
not_idle net a b (r, x) (s, y) (inl n) = n r x
not_idle net a b (r, x) (s, y) (inr n) = n s y

-- two nodes together are in one active pair where the first is in one
pub in_one_pair : (net : Graph) (a b : ℕ) → IsNet (net_of net) →
    (r : Rule) × IsInActive (net_of net) a r → AreTogether net a b → AreInOnePair net a b
in_one_pair net a b n (r, x) t = record { rule = r; first = x; second = go x t; together = t }
  where
    go : IsInActive (net_of net) a r → AreTogether net a b → IsInActive (net_of net) b r
    go x (inl e) = subst (λ z. IsInActive (net_of net) z r) e x
    go (y, inl x) (inr h) = (
      a,
      inr (subst (λ z. IsActive (net_of net) a z r)
          (one_partner (net_of net) n a y b x.faces.linked h) x),
    )
    go (y, inr x) (inr h) = (
      a,
      inl (subst (λ z. IsActive (net_of net) z a r)
          (one_partner (net_of net) n a y b (linked_sym (net_of net) (slot y 0) (slot a 0) x.faces.linked) h) x),
    )

-- both orders, as they were made
pub as_made : (net ab ba : Graph) (a b : ℕ) (r s r' s' : Rule) → IsNet (net_of net) →
    (AreTogether net a b → ⊥) → InTurn net a b r s ab → InTurn net b a s' r' ba →
    IsInActive (net_of net) a r → IsInActive (net_of net) b s → IsInActive (net_of net) b s' →
    IsInActive (net_of net) a r' → BothOrders net a b r s ab ba
as_made net ab ba a b r s r' s' n two t u x y y' x' =
    let p = one_rule (net_of net) n a r' r x' x in
    let q = one_rule (net_of net) n b s' s y' y in
    both net ab ba a b r s n two t (subst (λ z. InTurn net b a z r ba) q (subst (λ z. InTurn net b a s' z ba) p u))
