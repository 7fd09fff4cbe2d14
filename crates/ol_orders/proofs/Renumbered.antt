-- Where a renaming takes one net to another, a walk over both goes on at each place.
use Rattle.std.proofs.Common.{◌≡◌, ◌≢◌, ℕ, zero, suc, ◌+◌, ◌-◌, ◌*◌, ◌/◌, ◌%◌, ◌<◌, ◌≤◌, nat_lt, true, false, ◌⊎◌, inl, inr, refl, sym}
use Rattle.std.proofs.Common.{ap, ◌∙◌, subst, List, [], ◌∷◌, ◌++◌, length, Option, None, Some, arith}
use Rattle.std.specs.Prelude.{slice_index_or}
use Rattle.std.proofs.lemmas.Bool.{cases_lt, cases_eq}
use Rattle.std.proofs.lemmas.Bool.Decides.{nat_tests}
use Rattle.std.proofs.lemmas.Option.{none-some}
use Rattle.ol_law_edges.specs.Edges.{IsIn}
use Rattle.ol_law_edges.proofs.Lists.{in_cases}
use Rattle.ol_net.specs.declared.parts.Kind.{Kind}
use Rattle.ol_net.specs.declared.parts.Port.{Port}
use Rattle.ol_net.specs.declared.parts.Port.TheVariants.{Free, Of}
use Rattle.ol_net.specs.Graph.{Graph, IsTabled, partner_of}
use Rattle.ol_net.specs.Nets.{NamedPort, free, slot, HasNode, IsPort, port_under}
use Rattle.ol_net.specs.Numbered.{net_of, numbered_port}
use Rattle.ol_net.proofs.Numbered.{has_node, linked, linked_back, net_is_net, numbered_port-injective, partner_of-parts}
use Rattle.ol_net.proofs.Numbered.{partner_of-back, is_port}
use Rattle.ol_rules.proofs.Renaming.{node_to, link_to, link_from}
use Rattle.ol_orders.specs.Same.{pair_at, port_on, AreOne, Meets, AreAlike, GoesOn, Walks, here, on, IsRenumbered}
use Rattle.ol_orders.specs.Walked.{Follow}

-- the element at a place is in the list
in_at : (met : List (ℕ × ℕ)) (n : ℕ) → n < length met → IsIn (slice_index_or met n (0, 0)) met
in_at [] n l = absurd (omega arith)
in_at (p ∷ met) zero l = inl refl
in_at (p ∷ met) (suc n) l = inr (in_at met n (omega arith))

-- whether a node has met one
find_met : (met : List (ℕ × ℕ)) (x : ℕ) → ((y : ℕ) × IsIn (x, y) met) ⊎ ((y : ℕ) → IsIn (x, y) met → ⊥)
find_met [] x = inr (λ y h. h)
find_met (p ∷ met) x = go (cases_eq p.0 x) (find_met met x)
  where
    go : (p.0 ≡ x) ⊎ (p.0 ≢ x) → ((y : ℕ) × IsIn (x, y) met) ⊎ ((y : ℕ) → IsIn (x, y) met → ⊥) →
        ((y : ℕ) × IsIn (x, y) (p ∷ met)) ⊎ ((y : ℕ) → IsIn (x, y) (p ∷ met) → ⊥)
    go (inl e) s = inl (p.1, inl (ap (λ (u : ℕ). (u, p.1)) (sym e)))
    go (inr d) (inl t) = inl (t.0, inr t.1)
    go (inr d) (inr none) = inr (λ y h. apart y h)
      where
        apart : (y : ℕ) → ((x, y) ≡ p) ⊎ IsIn (x, y) met → ⊥
        apart y (inl e) = d (sym (ap (λ (q : ℕ × ℕ). q.0) e))
        apart y (inr i) = none y i

module _ (a b : Graph) (ta : IsTabled a.free a.nodes a.partners) (tb : IsTabled b.free b.nodes b.partners)
    (names : ℕ → ℕ) (r : IsRenumbered names (net_of a) (net_of b)) where
  -- the port of the second net for one of the first
  abbrev over : Port → Port
  over (Free k) = Free k
  over (Of x s) = Of (record { 0 = names x.0 }) s

  over_is : (p : Port) → numbered_port (over p) ≡ port_under names (numbered_port p)
  over_is (Free k) = refl
  over_is (Of x s) = refl

  abbrev over_some : Option Port → Option Port
  over_some None = None
  over_some (Some p) = Some (over p)

  pub node_over : (x : ℕ) (k : Kind) (i : ℕ) → HasNode (net_of a) x k i → HasNode (net_of b) (names x) k i
  node_over x k i h = (r.same.nodes (names x) k i).0 (node_to names (net_of a) x k i h)

  -- a free port, or a port of a node that there is
  abbrev Stands : Port → Type 0
  Stands (Free k) = Unit {0}
  Stands (Of x s) = (k : Kind) × (i : ℕ) × HasNode (net_of a) x.0 k i

  -- a partner's node is there
  stands : (p q : Port) → partner_of a p ≡ Some q → Stands q
  stands p (Free k) e = tt
  stands p (Of x s) e =
      let h = (is_port a (Of x s)).1 (partner_of-parts a (Of x s) p (partner_of-back a p (Of x s) ta e).0).0 in
      (h.0, h.1, h.2)

  some_over : (p q : Port) → partner_of a p ≡ Some q → partner_of b (over p) ≡ Some (over q)
  some_over p q e =
      let l = (r.same.links (port_under names (numbered_port p)) (port_under names (numbered_port q))).0
      (link_to names (net_of a) (numbered_port p) (numbered_port q) (linked a p q ta e)) in
      let o = linked_back b _ _ tb l in
      let from : o.from ≡ over p = numbered_port-injective o.from (over p) (sym o.first ∙ sym (over_is p)) in
      let to : o.to ≡ over q = numbered_port-injective o.to (over q) (sym o.second ∙ sym (over_is q)) in
      ap (partner_of b) (sym from) ∙ o.partner ∙ ap (λ (p : Port). Some p) to

  -- a port that is written as a port that stands is that port
  same_port : (p : Port) → Stands p → (P : NamedPort ℕ) → IsPort (net_of a) P →
      numbered_port (over p) ≡ port_under names P → P ≡ numbered_port p
  same_port (Free k) st (free l) h e = sym e
  same_port (Free k) st (slot y t) h e = absurd (cc)
  same_port (Of x s) st (free l) h e = absurd (cc)
  same_port (Of x s) st (slot y t) h e =
      let z : names x.0 ≡ names y = cc in
      let u : s ≡ t = cc in
      let w : x.0 ≡ y = r.apart x.0 y st.0 h.0 st.1 h.1 st.2 h.2 z in
      ap (λ (v : ℕ). slot v t) (sym w) ∙ ap (slot x.0) (sym u)

  none_over : (p : Port) → Stands p → partner_of a p ≡ None → (o : Option Port) → partner_of b (over p) ≡ o →
      partner_of b (over p) ≡ None
  none_over p st n None e = e
  none_over p st n (Some q) e =
      let l = (r.same.links (numbered_port (over p)) (numbered_port q)).1 (linked b (over p) q tb e) in
      let t = link_from names (net_of a) (numbered_port (over p)) (numbered_port q) l in
      let is = same_port p st t.0 ((net_is_net a ta).of_ports t.0 t.1 t.4).0 t.2 in
      let o = linked_back a t.0 t.1 ta t.4 in
      let from : o.from ≡ p = numbered_port-injective o.from p (sym o.first ∙ is) in
      absurd (none-some o.to (sym n ∙ ap (partner_of a) (sym from) ∙ o.partner))

  partner_over : (p : Port) → Stands p → partner_of b (over p) ≡ over_some (partner_of a p)
  partner_over p st = go (partner_of a p) refl
    where
      go : (o : Option Port) → partner_of a p ≡ o → partner_of b (over p) ≡ over_some (partner_of a p)
      go None e = none_over p st e (partner_of b (over p)) refl ∙ ap over_some (sym e)
      go (Some q) e = some_over p q e ∙ ap over_some (sym e)

  -- the ports at a place
  at_ports : (met : List (ℕ × ℕ)) (at : ℕ) → Follow a names met → at < a.free + 3 * length met →
      Stands (port_on a.free (pair_at a.free met at).0 at)
      × (port_on a.free (pair_at a.free met at).1 at ≡ over (port_on a.free (pair_at a.free met at).0 at))
  at_ports met at f l = go (cases_lt at a.free)
    where
      go : (at < a.free) ⊎ (a.free ≤ at) → Stands (port_on a.free (pair_at a.free met at).0 at)
          × (port_on a.free (pair_at a.free met at).1 at ≡ over (port_on a.free (pair_at a.free met at).0 at))
      go (inl h) = let t : nat_lt at a.free ≡ true = grind (arith, nat_tests) in rw t (tt, refl)
      go (inr h) =
          let t : nat_lt at a.free ≡ false = grind (arith, nat_tests) in
          let i = in_at met ((at - a.free) / 3) (omega (arith, l, h)) in
          let e = f.is (pair_at a.free met at).0 (pair_at a.free met at).1 i in
          rw t (
            f.there (pair_at a.free met at).0 (pair_at a.free met at).1 i,
            ap (λ (y : ℕ). Of (record { 0 = y }) ((at - a.free) % 3)) e,
          )

  -- nodes of one name meet
  meet_over : (met : List (ℕ × ℕ)) → Follow a names met → (x : ℕ) → (k : Kind) × (i : ℕ) × HasNode (net_of a) x k i →
      (met' : List (ℕ × ℕ)) × Meets a b met x (names x) met'
  meet_over met f x n = go (find_met met x)
    where
      go : ((y : ℕ) × IsIn (x, y) met) ⊎ ((y : ℕ) → IsIn (x, y) met → ⊥) →
          (met' : List (ℕ × ℕ)) × Meets a b met x (names x) met'
      go (inl t) = (met, inl (subst (λ (y : ℕ). IsIn (x, y) met) (f.is x t.0 t.1) t.1, refl))
      go (inr none) = (
        met ++ (x, names x) ∷ [],
        inr (
          (λ u v h. (
            (λ e. none v (subst (λ (u : ℕ). IsIn (u, v) met) e h)),
            (λ e.
                let g = f.there u v h in
                let same : u ≡ x = r.apart u x g.0 n.0 g.1 n.1 g.2 n.2 (sym (f.is u v h) ∙ e) in
                none v (subst (λ (u : ℕ). IsIn (u, v) met) same h)),
          )),
          (has_node a x n.0 n.1).0 n.2 ∙ sym ((has_node b (names x) n.0 n.1).0 (node_over x n.0 n.1 n.2)),
          refl,
        ),
      )

  alike_over : (met : List (ℕ × ℕ)) → Follow a names met → (p : Port) (o : Option Port) → partner_of a p ≡ o →
      (met' : List (ℕ × ℕ)) × AreAlike a b met o (over_some o) met'
  alike_over met f p None e = (met, refl)
  alike_over met f p (Some (Free k)) e = (met, (refl, refl))
  alike_over met f p (Some (Of x s)) e = let t = meet_over met f x.0 (stands p (Of x s) e) in (t.0, (refl, t.1))

  -- a walk goes on
  pub goes_on : (met : List (ℕ × ℕ)) (at : ℕ) → Follow a names met → at < a.free + 3 * length met →
      (met' : List (ℕ × ℕ)) × GoesOn a b met at met'
  goes_on met at f l =
      let ports = at_ports met at f l in
      let p = port_on a.free (pair_at a.free met at).0 at in
      let t = alike_over met f p (partner_of a p) refl in (
        t.0,
        subst (λ (o : Option Port). AreAlike a b met (partner_of a p) o t.0)
            (sym (ap (partner_of b) ports.1 ∙ partner_over p ports.0)) t.1,
      )

  -- and its pairs are of one name
  pub follow_meet : (met : List (ℕ × ℕ)) → Follow a names met → (x y : ℕ) (met' : List (ℕ × ℕ)) → y ≡ names x →
      (k : Kind) × (i : ℕ) × HasNode (net_of a) x k i → Meets a b met x y met' → Follow a names met'
  follow_meet met f x y met' e n (inl h) = subst (λ (m : List (ℕ × ℕ)). Follow a names m) (sym h.1) f
  follow_meet met f x y met' e n (inr h) = subst (λ (m : List (ℕ × ℕ)). Follow a names m) (sym h.2) (record {
    is = λ u v i. is u v (in_cases (u, v) met ((x, y) ∷ []) i);
    there = λ u v i. there u v (in_cases (u, v) met ((x, y) ∷ []) i);
  })
    where
      is : (u v : ℕ) → IsIn (u, v) met ⊎ IsIn {X = ℕ × ℕ} (u, v) ((x, y) ∷ []) → v ≡ names u
      is u v (inl i) = f.is u v i
      is u v (inr (inl i)) = ap (λ (p : ℕ × ℕ). p.1) i ∙ e ∙ ap names (sym (ap (λ (p : ℕ × ℕ). p.0) i))
      is u v (inr (inr i)) = absurd i

      there : (u v : ℕ) → IsIn (u, v) met ⊎ IsIn {X = ℕ × ℕ} (u, v) ((x, y) ∷ []) →
          (k : Kind) × (i : ℕ) × HasNode (net_of a) u k i
      there u v (inl i) = f.there u v i
      there u v (inr (inl i)) = subst (λ (z : ℕ). (k : Kind) × (i : ℕ) × HasNode (net_of a) z k i)
          (sym (ap (λ (p : ℕ × ℕ). p.0) i)) n
      there u v (inr (inr i)) = absurd i

  follow_alike : (met : List (ℕ × ℕ)) → Follow a names met → (p : Port) (o : Option Port) → partner_of a p ≡ o →
      (met' : List (ℕ × ℕ)) → AreAlike a b met o (over_some o) met' → Follow a names met'
  follow_alike met f p None e met' h = subst (λ (m : List (ℕ × ℕ)). Follow a names m) (sym h) f
  follow_alike met f p (Some (Free k)) e met' h = subst (λ (m : List (ℕ × ℕ)). Follow a names m) (sym h.1) f
  follow_alike met f p (Some (Of x s)) e met' h =
      follow_meet met f x.0 (names x.0) met' refl (stands p (Of x s) e) h.1

  follow_on : (met : List (ℕ × ℕ)) (at : ℕ) (met' : List (ℕ × ℕ)) → Follow a names met → at < a.free + 3 * length met →
      GoesOn a b met at met' → Follow a names met'
  follow_on met at met' f l g =
      let ports = at_ports met at f l in
      let p = port_on a.free (pair_at a.free met at).0 at in
      follow_alike met f p (partner_of a p) refl met'
      (subst (λ (o : Option Port). AreAlike a b met (partner_of a p) o met')
      (ap (partner_of b) ports.1 ∙ partner_over p ports.0) g)

  pub follows : (from : ℕ) (had : List (ℕ × ℕ)) → Follow a names had → (at : ℕ) (met : List (ℕ × ℕ)) →
      Walks a b from had at met → Follow a names met
  follows from had f at met here = f
  follows from had f at met (on {at = k} {met = m} w l g) = follow_on m k met (follows from had f k m w) l g

  pub nothing_met : Follow a names []
  nothing_met = record { is = λ x y h. absurd h; there = λ x y h. absurd h }

-- So two nets aren't one where a walk stops.
pub not_one : (a b : Graph) → IsTabled a.free a.nodes a.partners → IsTabled b.free b.nodes b.partners →
    (at : ℕ) (met : List (ℕ × ℕ)) → Walks a b 0 [] at met → at < a.free + 3 * length met →
    ((met' : List (ℕ × ℕ)) → GoesOn a b met at met' → ⊥) → AreOne a b → ⊥
not_one a b ta tb at met w l stops one =
    let f = follows a b ta tb one.0 one.1 0 [] (nothing_met a b ta tb one.0 one.1) at met w in
    let t = goes_on a b ta tb one.0 one.1 met at f l in
    stops t.0 t.1

-- nor are nets of other numbers of free ports
pub one_free : (a b : Graph) → AreOne a b → a.free ≡ b.free
one_free a b one = one.1.same.free_ports
