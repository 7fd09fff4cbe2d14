-- Rows of crossings: parts of one, and one the other way round.
use Rattle.std.proofs.Common.{◌≡◌, ℕ, suc, ◌<◌, List, [], ◌∷◌, ◌++◌, refl, sym, ap, ◌∙◌, arith, append-nil}
use Rattle.std.proofs.lemmas.List.{append_assoc}
use Rattle.ol_net.specs.Nets.{NamedPort, slot, NamedNet, HasNode, Linked, IsNet}
use Rattle.ol_net.specs.Parts.{arity}
use Rattle.ol_net.specs.declared.parts.Kind.{Kind}
use Rattle.ol_rules.proofs.FreshPairs.{linked_sym}
use Rattle.ol_law_optimality.specs.Routes.{Crossing, rise, fall, Row, along, rises, falls}
use Rattle.ol_law_optimality.specs.Words.{turned}

module _ {A : Type 0} (N : NamedNet A) where
  pub no_slots : {x y : A} {s : ℕ} → ◌≡◌ {A = NamedPort A} (slot x (suc s)) (slot y 0) → ⊥
  no_slots {s = s} e = let q : suc s ≡ 0 = cc in omega arith

  -- ---- the part before a crossing, and the part after it

  pub record AtFall (p q : NamedPort A) (v : List (Crossing A)) (x : A) (s : ℕ) (w : List (Crossing A)) : Type 0 where
    pub before : Row N p v (slot x 0)
    pub after : Row N (slot x (suc s)) w q
    pub kind : Kind
    pub index : ℕ
    pub node : HasNode N x kind index
    pub low : s < arity kind

  pub record AtRise (p q : NamedPort A) (v : List (Crossing A)) (x : A) (s : ℕ) (w : List (Crossing A)) : Type 0 where
    pub before : Row N p v (slot x (suc s))
    pub after : Row N (slot x 0) w q
    pub kind : Kind
    pub index : ℕ
    pub node : HasNode N x kind index
    pub low : s < arity kind

  pub at_fall : (v : List (Crossing A)) {p q : NamedPort A} {x : A} {s : ℕ} {w : List
      (Crossing A)} → Row N p (v ++ fall x s ∷ w) q → AtFall p q v x s w
  at_fall [] (falls k i l h b r) = record { before = along l; after = r; kind = k; index = i; node = h; low = b }
  at_fall (rise y t ∷ v) (rises k i l h b r) =
      let a = at_fall v r in
      record {
        before = rises k i l h b a.before;
        after = a.after;
        kind = a.kind;
        index = a.index;
        node = a.node;
        low = a.low;
      }
  at_fall (fall y t ∷ v) (falls k i l h b r) =
      let a = at_fall v r in
      record {
        before = falls k i l h b a.before;
        after = a.after;
        kind = a.kind;
        index = a.index;
        node = a.node;
        low = a.low;
      }

  pub at_rise : (v : List (Crossing A)) {p q : NamedPort A} {x : A} {s : ℕ} {w : List
      (Crossing A)} → Row N p (v ++ rise x s ∷ w) q → AtRise p q v x s w
  at_rise [] (rises k i l h b r) = record { before = along l; after = r; kind = k; index = i; node = h; low = b }
  at_rise (rise y t ∷ v) (rises k i l h b r) =
      let a = at_rise v r in
      record {
        before = rises k i l h b a.before;
        after = a.after;
        kind = a.kind;
        index = a.index;
        node = a.node;
        low = a.low;
      }
  at_rise (fall y t ∷ v) (falls k i l h b r) =
      let a = at_rise v r in
      record {
        before = falls k i l h b a.before;
        after = a.after;
        kind = a.kind;
        index = a.index;
        node = a.node;
        low = a.low;
      }

  -- ---- the other way round

  then_fall : {p q : NamedPort A} {v : List (Crossing A)} {x : A} {s : ℕ} (k : Kind) (i : ℕ) →
      HasNode N x k i → s < arity k → Row N p v (slot x 0) → Linked N (slot x (suc s)) q →
      Row N p (v ++ fall x s ∷ []) q
  then_fall k i h b (along m) l = falls k i m h b (along l)
  then_fall k i h b (rises k' i' m h' b' r) l = rises k' i' m h' b' (then_fall k i h b r l)
  then_fall k i h b (falls k' i' m h' b' r) l = falls k' i' m h' b' (then_fall k i h b r l)

  then_rise : {p q : NamedPort A} {v : List (Crossing A)} {x : A} {s : ℕ} (k : Kind) (i : ℕ) →
      HasNode N x k i → s < arity k → Row N p v (slot x (suc s)) → Linked N (slot x 0) q →
      Row N p (v ++ rise x s ∷ []) q
  then_rise k i h b (along m) l = rises k i m h b (along l)
  then_rise k i h b (rises k' i' m h' b' r) l = rises k' i' m h' b' (then_rise k i h b r l)
  then_rise k i h b (falls k' i' m h' b' r) l = falls k' i' m h' b' (then_rise k i h b r l)

  pub back_row : {p q : NamedPort A} {v : List (Crossing A)} → Row N p v q → Row N q (turned v) p
  back_row {p = p} (along {q = q} l) = along (linked_sym N p q l)
  back_row {p = p} (rises {x = x} {s = s} k i l h b r) = then_fall k i h b (back_row r)
      (linked_sym N p (slot x (suc s)) l)
  back_row {p = p} (falls {x = x} {s = s} k i l h b r) = then_rise k i h b (back_row r) (linked_sym N p (slot x 0) l)

turned_rise : {A : Type 0} (v : List (Crossing A)) (x : A) (s : ℕ) → turned (v ++ rise x s ∷ []) ≡ fall x s ∷ turned v
turned_rise [] x s = refl
turned_rise (rise y t ∷ v) x s = ap (λ w. w ++ fall y t ∷ []) (turned_rise v x s)
turned_rise (fall y t ∷ v) x s = ap (λ w. w ++ rise y t ∷ []) (turned_rise v x s)

turned_fall : {A : Type 0} (v : List (Crossing A)) (x : A) (s : ℕ) → turned (v ++ fall x s ∷ []) ≡ rise x s ∷ turned v
turned_fall [] x s = refl
turned_fall (rise y t ∷ v) x s = ap (λ w. w ++ fall y t ∷ []) (turned_fall v x s)
turned_fall (fall y t ∷ v) x s = ap (λ w. w ++ rise y t ∷ []) (turned_fall v x s)

pub turned_back : {A : Type 0} (v : List (Crossing A)) → turned (turned v) ≡ v
turned_back [] = refl
turned_back (rise x s ∷ v) = turned_fall (turned v) x s ∙ ap (λ w. rise x s ∷ w) (turned_back v)
turned_back (fall x s ∷ v) = turned_rise (turned v) x s ∙ ap (λ w. fall x s ∷ w) (turned_back v)

module _ {A : Type 0} (N : NamedNet A) (n : IsNet N) where
  -- a row ends at one port
  pub one_end : {p q r : NamedPort A} {v : List (Crossing A)} → Row N p v q → Row N p v r → q ≡ r
  one_end {p} {q} {r} (along l) (along m) = n.one_link p q r l m
  one_end (rises k i l h b r) (rises k' i' l' h' b' r') = one_end r r'
  one_end (falls k i l h b r) (falls k' i' l' h' b' r') = one_end r r'

pub turned_append : {A : Type 0} (v w : List (Crossing A)) → turned (v ++ w) ≡ turned w ++ turned v
turned_append [] w = sym (append-nil (turned w))
turned_append (rise x s ∷ v) w = ap (λ u. u ++ fall x s ∷ []) (turned_append v w)
    ∙ append_assoc (turned w) (turned v) (fall x s ∷ [])
turned_append (fall x s ∷ v) w = ap (λ u. u ++ rise x s ∷ []) (turned_append v w)
    ∙ append_assoc (turned w) (turned v) (rise x s ∷ [])
