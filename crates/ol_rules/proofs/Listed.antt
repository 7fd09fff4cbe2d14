-- The lists of a step are its joins and its nodes.
use Rattle.std.proofs.Common.{◌≡◌, ℕ, suc, ◌+◌, ◌<◌, List, [], ◌∷◌, ◌++◌, Some, ◌⊎◌, inl, inr, refl}
use Rattle.std.proofs.Common.{sym, ap, ◌∙◌, subst, ◌≢◌, append-nil}
use Rattle.std.specs.Prelude.{slice_get}
use Rattle.ol_law_edges.specs.Edges.{IsIn}
use Rattle.ol_net.specs.declared.parts.Kind.{Kind}
use Rattle.ol_net.specs.declared.parts.JoinEnd.{JoinEnd}
use Rattle.ol_net.specs.declared.parts.JoinEnd.TheVariants.{First, Second, Born}
use Rattle.ol_net.specs.Parts.{arity}
use Rattle.ol_net.specs.Nets.{NamedPort, slot, NamedNet, HasNode}
use Rattle.ol_net.specs.Replace.{JoinsOf, IsBorn, port_of_end}
use Rattle.ol_rules.specs.Rewriting.{Action, meeting, crossing, JoinOf, meet, at_f, at_g, between}
use Rattle.ol_rules.specs.Rewriting.{NodeOf, left, of_f, of_g}
use Rattle.ol_rules.specs.Listed.{each}
use Rattle.ol_rules.specs.BornLists.{copies, born_of, meeting_joins, crossing_joins, joins_of}
use Rattle.ol_law_edges.proofs.Lists.{in_left, in_right, in_cases, only}
use Rattle.ol_rules.proofs.Lists.{in_each, in_each_of, get_copy, get_behind, got}

module _ (f g next : ℕ) (k l : Kind) where
  abbrev born : ℕ → ℕ
  born place = next + place

  -- a join of the list, by its ends
  of_ends : (js : List (JoinEnd × JoinEnd)) (d e : JoinEnd) →
      IsIn {X = JoinEnd × JoinEnd} (d, e) js → JoinsOf f g next js (port_of_end f g next d) (port_of_end f g next e)
  of_ends js d e h = ((d, e), h, refl, refl)

  -- ports that are the ends of a join of the list
  to_ends : (d e : JoinEnd) (j : JoinEnd × JoinEnd) (p q : NamedPort ℕ) →
      ◌≡◌ {A = JoinEnd × JoinEnd} j (d, e) → p ≡ port_of_end f g next j.0 → q ≡ port_of_end f g next j.1
      → (p ≡ port_of_end f g next d) × (q ≡ port_of_end f g next e)
  to_ends d e j p q t u v = (
    u ∙ ap (λ (j : JoinEnd × JoinEnd). port_of_end f g next j.0) t,
    v
        ∙ ap (λ (j : JoinEnd × JoinEnd). port_of_end f g next j.1) t,
  )

  at_ends : (P : NamedPort ℕ → NamedPort ℕ → Type 0) (p q u v : NamedPort ℕ) → (p ≡ u) × (q ≡ v) → P u v → P p q
  at_ends P p q u v (d, e) h = subst (λ x. P x q) (sym d) (subst (λ y. P u y) (sym e) h)

  abbrev side : ℕ → List (JoinEnd × JoinEnd)
  side s = (First (suc s), Second (suc s)) ∷ []

  abbrev to_g : ℕ → List (JoinEnd × JoinEnd)
  to_g q = (Born q 0, Second (suc q)) ∷ []

  abbrev to_f : ℕ → List (JoinEnd × JoinEnd)
  to_f p = (Born (arity l + p) 0, First (suc p)) ∷ []

  abbrev both : ℕ → ℕ → List (JoinEnd × JoinEnd)
  both q p = (Born q (suc p), Born (arity l + p) (suc q)) ∷ []

  abbrev to_gs : List (JoinEnd × JoinEnd)
  to_gs = each (arity l) to_g

  abbrev to_fs : List (JoinEnd × JoinEnd)
  to_fs = each (arity k) to_f

  abbrev boths : List (JoinEnd × JoinEnd)
  boths = each (arity l) (λ q. each (arity k) (both q))

  abbrev Listed : Action → NamedPort ℕ → NamedPort ℕ → Type 0
  Listed a p q = JoinsOf f g next (joins_of a (arity k) (arity l)) p q

  -- a join of the table stands in the list
  pub listed : (a : Action) (p q : NamedPort ℕ) → JoinOf born f g k l a p q →
      JoinsOf f g next (joins_of a (arity k) (arity l)) p q
  listed a p q (meet {s = s} e b) =
      let d : JoinEnd = First (suc s) in
      let d' : JoinEnd = Second (suc s) in
      subst (λ a. Listed a (slot f (suc s)) (slot g (suc s))) (sym e)
      (of_ends (meeting_joins (arity k)) d d' (in_each (d, d') (arity k) side s b (inl refl)))
  listed a p q (at_g {q = r} j e b) =
      let d : JoinEnd = Born r 0 in
      let d' : JoinEnd = Second (suc r) in
      subst (λ a. Listed a (slot (born r) 0) (slot g (suc r))) (sym e)
      (of_ends (crossing_joins (arity k) (arity l)) d d'
      (in_left (d, d') to_gs (to_fs ++ boths) (in_each (d, d') (arity l) to_g r b (inl refl))))
  listed a p q (at_f {p = r} j e b) =
      let d : JoinEnd = Born (arity l + r) 0 in
      let d' : JoinEnd = First (suc r) in
      subst (λ a. Listed a (slot (born (arity l + r)) 0) (slot f (suc r))) (sym e)
      (of_ends (crossing_joins (arity k) (arity l)) d d'
      (in_right (d, d') to_gs (to_fs ++ boths)
      (in_left (d, d') to_fs boths (in_each (d, d') (arity k) to_f r b (inl refl)))))
  listed a p q (between {p = r} {q = t} j e b c) =
      let d : JoinEnd = Born t (suc r) in
      let d' : JoinEnd = Born (arity l + r) (suc t) in
      subst (λ a. Listed a (slot (born t) (suc r)) (slot (born (arity l + r)) (suc t))) (sym e)
      (of_ends (crossing_joins (arity k) (arity l)) d d'
      (in_right (d, d') to_gs (to_fs ++ boths)
      (in_right (d, d') to_fs boths (in_each (d, d') (arity l)
      (λ q. each (arity k) (both q)) t c (in_each (d, d') (arity k) (both t) r b (inl refl))))))

  -- and the list has no others
  pub of_list : (a : Action) (p q : NamedPort ℕ) →
      JoinsOf f g next (joins_of a (arity k) (arity l)) p q → JoinOf born f g k l a p q
  of_list meeting p q (j, h, u, v) =
      let t = in_each_of j (arity k) side h in
      at_ends (λ p q. JoinOf born f g k l meeting p q) p q (slot f (suc t.0)) (slot g (suc t.0))
      (to_ends (First (suc t.0)) (Second (suc t.0)) j p q
      (only j (First (suc t.0), Second (suc t.0)) t.2) u v) (meet refl t.1)
  of_list (crossing i) p q (j, h, u, v) = first (in_cases j to_gs (to_fs ++ boths) h)
    where
      last : ((t : ℕ) × (t < arity l) × IsIn j (each (arity k) (both t))) → JoinOf born f g k l (crossing i) p q
      last (t, c, h) =
          let r = in_each_of j (arity k) (both t) h in
          at_ends (λ p q. JoinOf born f g k l (crossing i) p q) p q (slot (born t) (suc r.0))
          (slot (born (arity l + r.0)) (suc t))
          (to_ends (Born t (suc r.0)) (Born (arity l + r.0) (suc t)) j p q
          (only j (Born t (suc r.0), Born (arity l + r.0) (suc t)) r.2) u v) (between i refl r.1 c)

      second : IsIn j to_fs ⊎ IsIn j boths → JoinOf born f g k l (crossing i) p q
      second (inl h) =
          let r = in_each_of j (arity k) to_f h in
          at_ends (λ p q. JoinOf born f g k l (crossing i) p q) p q (slot (born (arity l + r.0)) 0)
          (slot f (suc r.0)) (to_ends (Born (arity l + r.0) 0) (First (suc r.0)) j p q
          (only j (Born (arity l + r.0) 0, First (suc r.0)) r.2) u v) (at_f i refl r.1)
      second (inr h) = last (in_each_of j (arity l) (λ q. each (arity k) (both q)) h)

      first : IsIn j to_gs ⊎ IsIn j (to_fs ++ boths) → JoinOf born f g k l (crossing i) p q
      first (inl h) =
          let r = in_each_of j (arity l) to_g h in
          at_ends (λ p q. JoinOf born f g k l (crossing i) p q) p q (slot (born r.0) 0)
          (slot g (suc r.0)) (to_ends (Born r.0 0) (Second (suc r.0)) j p q
          (only j (Born r.0 0, Second (suc r.0)) r.2) u v) (at_g i refl r.1)
      first (inr h) = second (in_cases j to_fs boths h)

module _ (N : NamedNet ℕ) (f g next : ℕ) (k : Kind) (i : ℕ) (l : Kind) (j : ℕ) where
  abbrev Node : ℕ → ℕ → Kind × ℕ → Type 0
  Node j' x c = NodeOf N (λ place. next + place) f g k i l (crossing j') x c.0 c.1

  -- a node of the list is one of the table
  pub of_births : (a : Action) (x : ℕ) (m : Kind) (n : ℕ) →
      IsBorn next (born_of a (k, i) (l, j)) x m n → NodeOf N (λ place. next + place) f g k i l a x m n
  of_births meeting x m n (p, e, h) = absurd (cc)
  of_births (crossing j') x m n (p, e, h) = go
      (got {X = Kind × ℕ} (arity l) (k, i) (copies {X = Kind × ℕ} (arity k) (l, j')) p (m, n) h)
    where
      at_node : (x y : ℕ) (c d : Kind × ℕ) → x ≡ y → c ≡ d → Node j' y d → Node j' x c
      at_node x y c d e u h = subst (λ x. Node j' x c) (sym e) (subst (λ c. Node j' y c) (sym u) h)

      behind : (q : ℕ) → p ≡ arity l + q →
          slice_get {X = Kind × ℕ} (copies {X = Kind × ℕ} (arity k) (l, j')) q ≡ Some (m, n) →
          NodeOf N (λ place. next + place) f g k i l (crossing j') x m n
      behind q u h = last (got {X = Kind × ℕ} (arity k) (l, j') [] q (m, n)
          (ap (λ ys. slice_get {X = Kind × ℕ} ys q)
          (append-nil {A = Kind × ℕ} (copies {X = Kind × ℕ} (arity k) (l, j'))) ∙ h))
        where
          last : ((q < arity k) × (◌≡◌ {A = Kind × ℕ} (m, n) (l, j')))
              ⊎ ((t : ℕ) × (q ≡ arity k + t) × (slice_get {X = Kind × ℕ} [] t ≡ Some (m, n))) →
              NodeOf N (λ place. next + place) f g k i l (crossing j') x m n
          last (inl (b, v)) = at_node x (next + (arity l + q)) (m, n) (l, j')
              (e ∙ ap (λ p. next + p) u) v (of_g j' refl b)
          last (inr (t, v, h)) = absurd (cc)

      go : ((p < arity l) × (◌≡◌ {A = Kind × ℕ} (m, n) (k, i)))
          ⊎ ((q : ℕ) × (p ≡ arity l + q) × (slice_get {X = Kind × ℕ}
          (copies {X = Kind × ℕ} (arity k) (l, j')) q ≡ Some (m, n))) →
          NodeOf N (λ place. next + place) f g k i l (crossing j') x m n
      go (inl (b, v)) = at_node x (next + p) (m, n) (k, i) e v (of_f j' refl b)
      go (inr (q, u, h)) = behind q u h

  -- and the list has each of them
  pub in_births : (a : Action) (x : ℕ) (m : Kind) (n : ℕ) → NodeOf N (λ place. next + place) f g k i l a x m n
      → (HasNode N x m n × (x ≢ f) × (x ≢ g)) ⊎ IsBorn next (born_of a (k, i) (l, j)) x m n
  in_births a x m n (left h u v) = inl (h, u, v)
  in_births a x m n (of_f {q = q} j' e b) = inr (
    q,
    refl,
    subst (λ a. slice_get (born_of a (k, i) (l, j)) q ≡ Some (k, i)) (sym e)
        (get_copy {X = Kind × ℕ} (arity l) (k, i) (copies {X = Kind × ℕ} (arity k) (l, j')) q b),
  )
  in_births a x m n (of_g {p = p} j' e b) = inr (
    arity l + p,
    refl,
    subst (λ a. slice_get (born_of a (k, i) (l, j)) (arity l + p) ≡ Some (l, j')) (sym e)
        (get_behind {X = Kind × ℕ} (arity l) (k, i) (copies {X = Kind × ℕ} (arity k) (l, j')) p
        ∙ (sym (ap (λ ys. slice_get {X = Kind × ℕ} ys p)
        (append-nil {A = Kind × ℕ} (copies {X = Kind × ℕ} (arity k) (l, j'))))
        ∙ get_copy {X = Kind × ℕ} (arity k) (l, j') [] p b)),
  )
