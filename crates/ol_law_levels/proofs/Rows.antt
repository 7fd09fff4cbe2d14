-- Where each vertex has one edge that leads on and one that leads to it, what is joined is a row.
-- Used in Copies.
use Rattle.std.proofs.Common.{◌≡◌, ◌≢◌, ◌⊎◌, inl, inr, refl, sym, subst}
use Rattle.ol_law_edges.specs.Edges.{Joined, here, on, back}

-- Goes u v: the edge of u and v is gone along from u to v.
pub record Leads {V : Type 0} (E Goes : V → V → Type 0) : Type 0 where
  pub either : (u v : V) → E u v → Goes u v ⊎ Goes v u
  pub one_on : (u v w : V) → Goes u v → Goes u w → v ≡ w
  pub one_to : (u v w : V) → Goes u w → Goes v w → u ≡ v

-- from u to v by one edge after another
data Row {V : Type 0} (Goes : V → V → Type 0) (u : V) : V → Type 0 where
  none : Row Goes u u
  more : {v w : V} → Row Goes u v → Goes v w → Row Goes u w

-- both ends of a row that isn't empty
pub record Ends {V : Type 0} (Goes : V → V → Type 0) (u v : V) : Type 0 where
  pub after : V
  pub first : Goes u after
  pub before : V
  pub last : Goes before v

module _ {V : Type 0} {E Goes : V → V → Type 0} (leads : Leads E Goes) where
  begun : {u v w : V} → Goes u v → Row Goes v w → Row Goes u w
  begun g none = more none g
  begun g (more r g') = more (begun g r) g'

  -- the row without its first edge
  Tail : V → V → Type 0
  Tail u v = (u ≡ v) ⊎ ((w : V) × Goes u w × Row Goes w v)

  tail : {u v : V} → Row Goes u v → Tail u v
  unfolding Tail
  tail none = inl refl
  tail {u = u} (more {v = v} {w = w} r g) = go (tail r)
    where
      go : Tail u v → Tail u w
      go (inl e) = inr (w, subst (λ u. Goes u w) (sym e) g, none)
      go (inr t) = inr (t.0, t.1, more t.2 g)

  Either : V → V → Type 0
  Either u v = Row Goes u v ⊎ Row Goes v u

  on_to : (u v w : V) → Either u v → Goes v w → Either u w
  unfolding Either Tail
  on_to u v w (inl r) g = inl (more r g)
  on_to u v w (inr r) g = go (tail r)
    where
      go : Tail v u → Either u w
      go (inl e) = inl (more none (subst (λ v. Goes v w) e g))
      go (inr t) = inr (subst (λ w. Row Goes w u) (leads.one_on v t.0 w t.1 g) t.2)

  back_to : (u v w : V) → Either u v → Goes w v → Either u w
  unfolding Either
  back_to u v w (inr r) g = inr (begun g r)
  back_to u v w (inl r) g = go v r g
    where
      go : (z : V) → Row Goes u z → Goes w z → Either u w
      go z none g = inr (more none g)
      go z (more {v = x} r g') g = inl (subst (λ x. Row Goes u x) (leads.one_to x w z g' g) r)

  row : {u v : V} → Joined E u v → Either u v
  unfolding Either
  row here = inl none
  row {u = u} (on {v = v} {w = w} j e) = go (row j) (leads.either v w e)
    where
      go : Either u v → Goes v w ⊎ Goes w v → Either u w
      go r (inl g) = on_to u v w r g
      go r (inr g) = back_to u v w r g
  row {u = u} (back {v = v} {w = w} j e) = go (row j) (leads.either w v e)
    where
      go : Either u v → Goes w v ⊎ Goes v w → Either u w
      go r (inl g) = back_to u v w r g
      go r (inr g) = on_to u v w r g

  ends_of : {u v : V} → Row Goes u v → u ≢ v → Ends Goes u v
  unfolding Tail
  ends_of none n = absurd (n refl)
  ends_of {u = u} (more {v = v} {w = w} r g) n = go (tail r)
    where
      go : Tail u v → Ends Goes u w
      go (inl e) = record {
        after = w;
        first = subst (λ u. Goes u w) (sym e) g;
        before = v;
        last =
            g;
      }
      go (inr t) = record { after = t.0; first = t.1; before = v; last = g }

  -- what is joined and apart lies in a row, from the one to the other or back
  pub joined_ends : {u v : V} → Joined E u v → u ≢ v → Ends Goes u v ⊎ Ends Goes v u
  unfolding Either
  joined_ends {u = u} {v = v} j n = go (row j)
    where
      go : Either u v → Ends Goes u v ⊎ Ends Goes v u
      go (inl r) = inl (ends_of r n)
      go (inr r) = inr (ends_of r (λ e. n (sym e)))
