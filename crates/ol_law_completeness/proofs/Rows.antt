-- What a step does to a row: an up and a down through its two nodes go, or change places.
use Rattle.std.proofs.Common.{◌≢◌, ◌≤◌, ◌<◌, List, [], ◌∷◌, inl, inr, arith}
use Rattle.ol_law_edges.specs.Edges.{IsIn}
use Rattle.ol_law_completeness.specs.Rows.{Crossing, rise, fall, falls, inversions, GoesDown}

module _ {A : Type 0} (f g : A) where
  -- the row before a step of f and g, and the row after it
  pub data Shorter : List (Crossing A) → List (Crossing A) → Type 0 where
    nil : Shorter [] []
    rises : {x : A} {v w : List (Crossing A)} → Shorter v w → Shorter (rise x ∷ v) (rise x ∷ w)
    sinks : {x : A} {v w : List (Crossing A)} → x ≢ f → x ≢ g → Shorter v w →
        Shorter (fall x ∷ v) (fall x ∷ w)
    meets : {x y : A} {v w : List (Crossing A)} → Shorter v w → Shorter (rise x ∷ fall y ∷ v) w
    crosses : {x y a b : A} {v w : List (Crossing A)} → Shorter v w →
        Shorter (rise x ∷ fall y ∷ v) (fall a ∷ rise b ∷ w)

  pub fewer_falls : {v w : List (Crossing A)} → Shorter v w → falls w ≤ falls v
  fewer_falls nil = omega arith
  fewer_falls (rises s) = fewer_falls s
  fewer_falls (sinks m n s) = let a = fewer_falls s in omega arith
  fewer_falls (meets s) = let a = fewer_falls s in omega arith
  fewer_falls (crosses s) = let a = fewer_falls s in omega arith

  pub fewer : {v w : List (Crossing A)} → Shorter v w → inversions w ≤ inversions v
  fewer nil = omega arith
  fewer (rises s) = let a = fewer_falls s in let b = fewer s in omega arith
  fewer (sinks m n s) = fewer s
  fewer (meets s) = let b = fewer s in omega arith
  fewer (crosses s) = let a = fewer_falls s in let b = fewer s in omega arith

  not_rise : {x y : A} (v : List (Crossing A)) → IsIn (fall x) (rise y ∷ v) → IsIn (fall x) v
  not_rise v (inl e) = absurd (cc)
  not_rise v (inr h) = h

  later : {x y : A} (v : List (Crossing A)) → x ≢ y → IsIn (fall y) (fall x ∷ v) → IsIn (fall y) v
  later v n (inl e) = absurd (n (cc))
  later v n (inr h) = h

  pub strictly : {v w : List (Crossing A)} → Shorter v w → GoesDown f g v →
      inversions w < inversions v
  strictly nil (inl h) = absurd h
  strictly nil (inr h) = absurd h
  strictly (rises {v = v} s) (inl h) = let a = fewer_falls s in
      let b = strictly s (inl (not_rise v h)) in omega arith
  strictly (rises {v = v} s) (inr h) = let a = fewer_falls s in
      let b = strictly s (inr (not_rise v h)) in omega arith
  strictly (sinks {v = v} m n s) (inl h) = strictly s (inl (later v m h))
  strictly (sinks {v = v} m n s) (inr h) = strictly s (inr (later v n h))
  strictly (meets s) h = let b = fewer s in omega arith
  strictly (crosses s) h = let a = fewer_falls s in let b = fewer s in omega arith
