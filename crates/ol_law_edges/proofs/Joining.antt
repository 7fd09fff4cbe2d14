-- What joins, and contraction.
use Rattle.ol_law_edges.specs.Edges.{Joined, here, on, back}

-- going on
pub joined_trans : {V : Type 0} {E : V → V → Type 0} {u v w : V} → Joined E u v → Joined E v w → Joined E u w
joined_trans a here = a
joined_trans a (on b e) = on (joined_trans a b) e
joined_trans a (back b e) = back (joined_trans a b) e

pub joined_sym : {V : Type 0} {E : V → V → Type 0} {u v : V} → Joined E u v → Joined E v u
joined_sym here = here
joined_sym (on a e) = joined_trans (back here e) (joined_sym a)
joined_sym (back a e) = joined_trans (on here e) (joined_sym a)

-- from edges each of which joins
pub joined_map : {V : Type 0} {E F : V → V → Type 0} {u v : V} →
    ((u v : V) → E u v → Joined F u v) → Joined E u v → Joined F u v
joined_map f here = here
joined_map f (on {v = v} {w = w} a e) = joined_trans (joined_map f a) (f v w e)
joined_map f (back {v = v} {w = w} a e) = joined_trans (joined_map f a) (joined_sym (f w v e))

-- from edges whose images join
pub joined_image : {V W : Type 0} {E : V → V → Type 0} {F : W → W → Type 0} {u v : V} →
    (m : V → W) → ((u v : V) → E u v → Joined F (m u) (m v)) → Joined E u v → Joined F (m u) (m v)
joined_image m f here = here
joined_image m f (on {v = v} {w = w} a e) = joined_trans (joined_image m f a) (f v w e)
joined_image m f (back {v = v} {w = w} a e) = joined_trans (joined_image m f a) (joined_sym (f w v e))

-- What joins here joins there, followed from the far end: each vertex has its images, and an edge into a vertex is
-- followed from each image of that vertex to some image of the edge's other end.
pub record Follows {V W : Type 0} (E : V → V → Type 0) (F : W → W → Type 0) (R : V → W → Type 0) : Type 0 where
  pub forth : (u v : V) (w : W) → E u v → R v w → (x : W) × R u x × Joined F x w
  pub back' : (u v : V) (w : W) → E u v → R u w → (x : W) × R v x × Joined F x w

pub follow : {V W : Type 0} {E : V → V → Type 0} {F : W → W → Type 0} {R : V → W → Type 0} →
    Follows E F R → {u v : V} → Joined E u v → (w : W) → R v w → (x : W) × R u x × Joined F x w
follow s here w r = (w, r, here)
follow s (on {v = a} {w = b} j e) w r =
    let t = s.forth a b w e r in
    let t' = follow s j t.0 t.1 in
    (t'.0, t'.1, joined_trans t'.2 t.2)
follow s (back {v = a} {w = b} j e) w r =
    let t = s.back' b a w e r in
    let t' = follow s j t.0 t.1 in
    (t'.0, t'.1, joined_trans t'.2 t.2)
