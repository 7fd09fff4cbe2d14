-- Contraction in two steps, between other edges, and under other names.
use Rattle.std.proofs.Common.{◌≡◌, ◌≢◌, ◌⊎◌, ◌↔◌, inl, inr, refl, sym, ap, ◌∙◌, subst}
use Rattle.ol_law_edges.specs.Edges.{Joined, here, on, back, Contracted, Edge}
use Rattle.ol_law_edges.proofs.Joining.{joined_sym, joined_map, joined_image}

-- an edge at u, taken either way
abbrev pub HasEdge : {V : Type 0} → (V → V → Type 0) → V → Type 0
HasEdge {V} E u = (w : V) × (E u w ⊎ E w u)

-- what joins begins with an edge
pub first_edge : {V : Type 0} {E : V → V → Type 0} {u v : V} → Joined E u v → (u ≡ v) ⊎ HasEdge E u
first_edge here = inl refl
first_edge {E = E} {u = u} (on {v = v} {w = w} j e) = go (first_edge j)
  where
    go : (u ≡ v) ⊎ HasEdge E u → (u ≡ w) ⊎ HasEdge E u
    go (inl q) = inr (w, inl (subst (λ z. E z w) (sym q) e))
    go (inr a) = inr a
first_edge {E = E} {u = u} (back {v = v} {w = w} j e) = go (first_edge j)
  where
    go : (u ≡ v) ⊎ HasEdge E u → (u ≡ w) ⊎ HasEdge E u
    go (inl q) = inr (w, inr (subst (λ z. E w z) (sym q) e))
    go (inr a) = inr a

pub edge_of_apart : {V : Type 0} {E : V → V → Type 0} {u v : V} → Joined E u v → u ≢ v → HasEdge E u
edge_of_apart {E = E} {u = u} {v = v} j n = go (first_edge j)
  where
    go : (u ≡ v) ⊎ HasEdge E u → HasEdge E u
    go (inl q) = absurd (n q)
    go (inr a) = a

-- what each edge keeps, both ways, holds of all that is joined
pub joined_keeps : {V : Type 0} {E : V → V → Type 0} {u v : V} → (Q : V → Type 0) →
    ((v w : V) → E v w → Q v → Q w) → ((v w : V) → E v w → Q w → Q v) → Joined E u v → Q u → Q v
joined_keeps Q f b here q = q
joined_keeps Q f b (on {v = v} {w = w} j e) q = f v w e (joined_keeps Q f b j q)
joined_keeps Q f b (back {v = v} {w = w} j e) q = b w v e (joined_keeps Q f b j q)

pub contracted_swap : {V : Type 0} {K : V → V → Type 0} {G : V → Type 0} {u v : V} →
    Contracted K G u v → Contracted K G v u
contracted_swap c = record {
  first = c.second;
  second = c.first;
  apart = λ q. c.apart (sym q);
  joined = joined_sym c.joined;
}

-- other edges and vertices, where each edge is joined by the others, and no end of what is left goes
pub contracted_map : {V : Type 0} {K K' : V → V → Type 0} {G G' : V → Type 0} →
    ((u v : V) → K u v → K' u v) → ((u : V) → HasEdge K u → G' u → G u) →
    (u v : V) → Contracted K G u v → Contracted K' G' u v
contracted_map {K = K} {G = G} f g u v c = record {
  first = λ h. c.first (g u (edge_of_apart c.joined c.apart) h);
  second = λ h. c.second (g v (edge_of_apart (joined_sym c.joined) (λ q. c.apart (sym q))) h);
  apart = c.apart;
  joined = joined_map (λ u v e. on here (f u v e)) c.joined;
}

-- Edges K and J, of which J has no end in G: it is the same to take G out of K, to add J and then to take H out, as to
-- take both out of both.
module _ {V : Type 0} (decide : (u v : V) → (u ≡ v) ⊎ (u ≢ v)) (K J : V → V → Type 0)
    (G H : V → Type 0) (first_out : (u v : V) → J u v → G u → ⊥) (second_out : (u v : V) → J u v → G v → ⊥) where
  abbrev Once : V → V → Type 0
  Once u v = K u v ⊎ J u v

  abbrev Twice : V → V → Type 0
  Twice u v = Contracted K G u v ⊎ J u v

  abbrev Both : V → Type 0
  Both w = G w ⊎ H w

  -- where a walk by all edges stands: the last vertex that stays, and then edges of K
  abbrev Stands : V → V → Type 0
  Stands u w = (x : V) × (G x → ⊥) × Joined Twice u x × Joined K x w

  closed : (u x w : V) → (G x → ⊥) → (G w → ⊥) → Joined Twice u x → Joined K x w → Joined Twice u w
  closed u x w nx nw a j = go (decide x w)
    where
      go : (x ≡ w) ⊎ (x ≢ w) → Joined Twice u w
      go (inl q) = subst (λ z. Joined Twice u z) q a
      go (inr n) = on a (inl (record { first = nx; second = nw; apart = n; joined = j }))

  stands : {u w : V} → (G u → ⊥) → Joined Once u w → Stands u w
  stands {u} n here = (u, n, here, here)
  stands {u} n (on {v = v} {w = w} j e) = go (stands n j) e
    where
      go : Stands u v → K v w ⊎ J v w → Stands u w
      go s (inl k) = (s.0, s.1, s.2, on s.3 k)
      go s (inr a) = (w, second_out v w a, on (closed u s.0 v s.1 (first_out v w a) s.2 s.3) (inr a), here)
  stands {u} n (back {v = v} {w = w} j e) = go (stands n j) e
    where
      go : Stands u v → K w v ⊎ J w v → Stands u w
      go s (inl k) = (s.0, s.1, s.2, back s.3 k)
      go s (inr a) = (w, first_out w v a, back (closed u s.0 v s.1 (second_out w v a) s.2 s.3) (inr a), here)

  flat : (u v : V) → Twice u v → Joined Once u v
  flat u v (inl c) = joined_map (λ u v k. on here (inl k)) c.joined
  flat u v (inr a) = on here (inr a)

  outside : (u : V) → HasEdge Twice u → G u → ⊥
  outside u a g = go a.1
    where
      go : Twice u a.0 ⊎ Twice a.0 u → ⊥
      go (inl (inl c)) = c.first g
      go (inl (inr j)) = first_out u a.0 j g
      go (inr (inl c)) = c.second g
      go (inr (inr j)) = second_out a.0 u j g

  to_once : (u v : V) → Contracted Twice H u v → Contracted Once Both u v
  to_once u v c = record {
    first = λ h. not_both u c.first (edge_of_apart c.joined c.apart) h;
    second = λ h. not_both v c.second (edge_of_apart (joined_sym c.joined) (λ q. c.apart (sym q))) h;
    apart = c.apart;
    joined = joined_map flat c.joined;
  }
    where
      not_both : (u : V) → (H u → ⊥) → HasEdge Twice u → G u ⊎ H u → ⊥
      not_both u n a (inl g) = outside u a g
      not_both u n a (inr h) = n h

  to_twice : (u v : V) → Contracted Once Both u v → Contracted Twice H u v
  to_twice u v c =
      let s = stands (λ g. c.first (inl g)) c.joined in
      record {
        first = λ h. c.first (inr h);
        second = λ h. c.second (inr h);
        apart = c.apart;
        joined = closed u s.0 v s.1 (λ g. c.second (inl g)) s.2 s.3;
      }

  pub contracted_twice : (u v : V) → Contracted Twice H u v ↔ Contracted Once Both u v
  contracted_twice u v = (to_once u v, to_twice u v)

-- F has the edges of E, with each vertex under its name
pub record IsImage {V W : Type 0} (name : V → W) (E : V → V → Type 0) (F : W → W → Type 0) : Type 0 where
  pub forth : (u v : V) → E u v → F (name u) (name v)
  pub from : (p q : W) → F p q → (u : V) × (v : V) × (p ≡ name u) × (q ≡ name v) × E u v

-- vertices of which no two have one name
module _ {V W : Type 0} (name : V → W) (one_name : (u v : V) → name u ≡ name v → u ≡ v)
    (E : V → V → Type 0) (F : W → W → Type 0) (i : IsImage name E F) where
  abbrev Reaches : V → W → Type 0
  Reaches u q = (v : V) × (q ≡ name v) × Joined E u v

  reaches : {u : V} {p q : W} → p ≡ name u → Joined F p q → Reaches u q
  reaches {u} e here = (u, e, here)
  reaches {u} e (on {v = p} {w = q} j f) =
      let s = reaches e j in
      let d = i.from p q f in
      (d.1, d.3, on (subst (λ z. Joined E u z) (one_name s.0 d.0 (sym s.1 ∙ d.2)) s.2) d.4)
  reaches {u} e (back {v = p} {w = q} j f) =
      let s = reaches e j in
      let d = i.from q p f in
      (d.0, d.2, back (subst (λ z. Joined E u z) (one_name s.0 d.1 (sym s.1 ∙ d.3)) s.2) d.4)

  named : (p : W) → HasEdge F p → (u : V) × (p ≡ name u)
  named p a = go a.1
    where
      go : F p a.0 ⊎ F a.0 p → (u : V) × (p ≡ name u)
      go (inl f) = let d = i.from p a.0 f in (d.0, d.2)
      go (inr f) = let d = i.from a.0 p f in (d.1, d.3)

  -- contraction is of the edges, whatever the names
  pub contracted_image : (G : V → Type 0) (H : W → Type 0) → ((u : V) → G u ↔ H (name u)) →
      IsImage name (Contracted E G) (Contracted F H)
  contracted_image G H gh = record {
    forth = λ u v c. record {
      first = λ h. c.first ((gh u).1 h);
      second = λ h. c.second ((gh v).1 h);
      apart = λ q. c.apart (one_name u v q);
      joined = joined_image name (λ u v e. on here (i.forth u v e)) c.joined;
    };
    from = λ p q c.
        let u = named p (edge_of_apart c.joined c.apart) in
        let v = reaches u.1 c.joined in (
          u.0,
          v.0,
          u.1,
          v.1,
          record {
            first = λ g. c.first (subst H (sym u.1) ((gh u.0).0 g));
            second = λ g. c.second (subst H (sym v.1) ((gh v.0).0 g));
            apart = λ e. c.apart (u.1 ∙ ap name e ∙ sym v.1);
            joined = v.2;
          },
        );
  }

-- the edges left without those at P, and the joins, under names
pub edge_image : {V W : Type 0} (name : V → W) (E J : V → V → Type 0) (P : V → Type 0)
    (F L : W → W → Type 0) (Q : W → Type 0) → IsImage name E F → IsImage name J L → ((u : V) → P u ↔ Q (name u)) →
    IsImage name (Edge E P J) (Edge F Q L)
edge_image {V} {W} name E J P F L Q i l pq = record { forth = to; from = back_to }
  where
    to : (u v : V) → Edge E P J u v → Edge F Q L (name u) (name v)
    to u v (inl e) = inl (i.forth u v e.0, (λ q. e.1 ((pq u).1 q)), λ q. e.2 ((pq v).1 q))
    to u v (inr h) = inr (l.forth u v h)

    back_to : (p q : W) → Edge F Q L p q → (u : V) × (v : V) × (p ≡ name u) × (q ≡ name v) × Edge E P J u v
    back_to p q (inl f) =
        let d = i.from p q f.0 in (
          d.0,
          d.1,
          d.2,
          d.3,
          inl (
            d.4,
            (λ h. f.1 (subst Q (sym d.2) ((pq d.0).0 h))),
            λ h. f.2 (subst Q (sym d.3) ((pq d.1).0 h)),
          ),
        )
    back_to p q (inr h) = let d = l.from p q h in (d.0, d.1, d.2, d.3, inr d.4)

-- the same edges under the same names
image_into : {V W : Type 0} (name : V → W) (E E' : V → V → Type 0) (F F' : W → W → Type 0) →
    IsImage name E F → IsImage name E' F' → ((u v : V) → E u v → E' u v) → (p q : W) → F p q → F' p q
image_into name E E' F F' i i' f p q h =
    let d = i.from p q h in
    subst (λ z. F' z q) (sym d.2) (subst (λ z. F' (name d.0) z) (sym d.3) (i'.forth d.0 d.1 (f d.0 d.1 d.4)))

pub image_same : {V W : Type 0} (name : V → W) (E E' : V → V → Type 0) (F F' : W → W → Type 0) →
    IsImage name E F → IsImage name E' F' → ((u v : V) → E u v ↔ E' u v) → (p q : W) → F p q ↔ F' p q
image_same name E E' F F' i i' s p q = (
  image_into name E E' F F' i i' (λ u v. (s u v).0) p q,
  image_into name E' E F' F i' i (λ u v. (s u v).1) p q,
)
