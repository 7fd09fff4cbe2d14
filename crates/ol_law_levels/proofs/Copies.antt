-- The vertices of a step have depths and orientations, and its edges are gone along one way.
-- Used in Steps and Examples.
use Rattle.std.proofs.Common.{◌≡◌, ◌≢◌, ℕ, zero, suc, ◌<◌, Bool, true, false, not, ◌⊎◌, inl, inr}
use Rattle.std.proofs.Common.{refl, sym, ap, ◌∙◌, subst}
use Rattle.ol_law_edges.specs.Edges.{IsTest, Joined, here, on, back}
use Rattle.ol_net.specs.Nets.{NamedPort, free, slot, NamedNet, Linked, IsNet, Faces}
use Rattle.ol_net.specs.Parts.{arity}
use Rattle.ol_net.specs.declared.parts.Kind.{Kind}
use Rattle.ol_rules.proofs.FreshPairs.{linked_sym}
use Rattle.ol_rules.proofs.Ports.{Lasts}
use Rattle.ol_rules.proofs.Wires.{Join, meet, at_f, at_g, between, Wire, stays, join}
use Rattle.ol_rules.specs.Contracting.{Vertex, old, f_copy, g_copy}
use Rattle.ol_rules.specs.Rewriting.{Action, meeting, crossing}
use Rattle.ol_law_levels.specs.Levels.{depth_beside, out_beside, IsLevelled}
use Rattle.ol_law_levels.proofs.Rows.{Leads, Ends, joined_ends}
use Rattle.ol_law_levels.proofs.Table.{Suits}

pub opposite : (a b : Bool) → a ≡ not b → b ≡ not a
opposite true true e = absurd (cc)
opposite true false e = refl
opposite false true e = refl
opposite false false e = absurd (cc)

module _ {A : Type 0} (N : NamedNet A) (L : IsLevelled N) (f g : A) (k : Kind) (i : ℕ) (l : Kind)
    (j : ℕ) where
  -- A copy's slot 0 is as the slot at which it comes, and its other slots are as its kind tells.
  abbrev pub depth_of : Vertex A → ℕ
  depth_of (old p) = L.depth p
  depth_of (f_copy q zero) = L.depth (slot g (suc q))
  depth_of (f_copy q (suc p)) = depth_beside k p (L.depth (slot g (suc q)))
  depth_of (g_copy p zero) = L.depth (slot f (suc p))
  depth_of (g_copy p (suc q)) = depth_beside l q (L.depth (slot f (suc p)))

  abbrev pub out_of : Vertex A → Bool
  out_of (old p) = L.is_out p
  out_of (f_copy q zero) = L.is_out (slot g (suc q))
  out_of (f_copy q (suc p)) = out_beside k p (L.is_out (slot g (suc q)))
  out_of (g_copy p zero) = L.is_out (slot f (suc p))
  out_of (g_copy p (suc q)) = out_beside l q (L.is_out (slot f (suc p)))

  -- whether a row leaves the vertex by a join
  abbrev by_join : Vertex A → Bool
  by_join (old p) = not (L.is_out p)
  by_join (f_copy q s) = out_of (f_copy q s)
  by_join (g_copy p s) = out_of (g_copy p s)

  module _ (faces : Faces N f g k i l j) (a : Action)
      (suits : Suits a k i l (L.depth (slot f 0)) (L.is_out (slot f 0))) where
    abbrev d : ℕ
    d = L.depth (slot f 0)

    abbrev out : Bool
    out = L.is_out (slot f 0)

    pub g_depth : L.depth (slot g 0) ≡ d
    g_depth = sym (L.links (slot f 0) (slot g 0) faces.linked).0

    pub g_out : L.is_out (slot g 0) ≡ not out
    g_out = (L.links (slot g 0) (slot f 0) (linked_sym N (slot f 0) (slot g 0) faces.linked)).1

    pub f_depths : (p : ℕ) → p < arity k → L.depth (slot f (suc p)) ≡ depth_beside k p d
    f_depths p b = (L.beside f k i p faces.first b).0

    pub f_outs : (p : ℕ) → p < arity k → L.is_out (slot f (suc p)) ≡ out_beside k p out
    f_outs p b = (L.beside f k i p faces.first b).1

    pub g_depths : (q : ℕ) → q < arity l → L.depth (slot g (suc q)) ≡ depth_beside l q d
    g_depths q b = (L.beside g l j q faces.second b).0 ∙ ap (depth_beside l q) g_depth

    pub g_outs : (q : ℕ) → q < arity l → L.is_out (slot g (suc q)) ≡ out_beside l q (not out)
    g_outs q b = (L.beside g l j q faces.second b).1 ∙ ap (out_beside l q) g_out

    join_depth : (b : Action) → Suits b k i l d out → (u v : Vertex A) → Join N f g k i l j b u v →
        depth_of u ≡ depth_of v
    join_depth meeting m u v (meet {s = s} b) = f_depths s b ∙ m.depths s
        ∙ sym (g_depths s (subst (λ n. s < n) m.arities b))
    join_depth (crossing j') m u v (at_f b) = refl
    join_depth (crossing j') m u v (at_g b) = refl
    join_depth (crossing j') m u v (between {p = p} {q = q} b b') =
        ap (depth_beside k p) (g_depths q b') ∙ m.depths p q b b'
        ∙ sym (ap (depth_beside l q) (f_depths p b))

    wire_depth : (u v : Vertex A) → Wire N f g k i l j a u v → depth_of u ≡ depth_of v
    wire_depth u v (stays {p = p} {q = q} h o o') = (L.links p q h).0
    wire_depth u v (join h) = join_depth a suits u v h

    pub joined_depth : {u v : Vertex A} → Joined (Wire N f g k i l j a) u v →
        depth_of u ≡ depth_of v
    joined_depth here = refl
    joined_depth (on {v = v} {w = w} r e) = joined_depth r ∙ wire_depth v w e
    joined_depth (back {v = v} {w = w} r e) = joined_depth r ∙ sym (wire_depth w v e)

    -- a join is left by at one of its ends, and come to at the other
    join_turns : (b : Action) → Suits b k i l d out → (u v : Vertex A) → Join N f g k i l j b u v →
        by_join v ≡ not (by_join u)
    join_turns meeting m u v (meet {s = s} b) =
        ap not (g_outs s (subst (λ n. s < n) m.arities b) ∙ m.turned s ∙ ap not (sym (f_outs s b)))
    join_turns (crossing j') m u v (at_f b) = refl
    join_turns (crossing j') m u v (at_g b) = refl
    join_turns (crossing j') m u v (between {p = p} {q = q} b b') =
        opposite (out_of (f_copy q (suc p))) (out_of (g_copy p (suc q)))
        (ap (out_beside k p) (g_outs q b') ∙ m.turned p q b b'
        ∙ ap (λ x. not (out_beside l q x)) (sym (f_outs p b)))

    -- an edge is gone along from an old out port to an old in port, and by a join from a vertex
    -- that is left by it
    pub data Goes : Vertex A → Vertex A → Type 0 where
      along_link : {p q : NamedPort A} → Linked N p q → L.is_out p ≡ true → L.is_out q ≡ false →
          Goes (old p) (old q)
      along_join : {u v : Vertex A} → Join N f g k i l j a u v ⊎ Join N f g k i l j a v u →
          by_join u ≡ true → by_join v ≡ false → Goes u v

    by_value : (b : Bool) → (b ≡ true) ⊎ (b ≡ false)
    by_value true = inl refl
    by_value false = inr refl

    go_link : (p q : NamedPort A) → Linked N p q → Goes (old p) (old q) ⊎ Goes (old q) (old p)
    go_link p q h = go (by_value (L.is_out p))
      where
        t : L.is_out q ≡ not (L.is_out p)
        t = (L.links q p (linked_sym N p q h)).1

        go : (L.is_out p ≡ true) ⊎ (L.is_out p ≡ false) → Goes (old p) (old q)
            ⊎ Goes (old q) (old p)
        go (inl e) = inl (along_link h e (t ∙ ap not e))
        go (inr e) = inr (along_link (linked_sym N p q h) (t ∙ ap not e) e)

    go_join : (u v : Vertex A) → Join N f g k i l j a u v → Goes u v ⊎ Goes v u
    go_join u v h = go (by_value (by_join u))
      where
        t : by_join v ≡ not (by_join u)
        t = join_turns a suits u v h

        go : (by_join u ≡ true) ⊎ (by_join u ≡ false) → Goes u v ⊎ Goes v u
        go (inl e) = inl (along_join (inl h) e (t ∙ ap not e))
        go (inr e) = inr (along_join (inr h) (t ∙ ap not e) e)

    either : (u v : Vertex A) → Wire N f g k i l j a u v → Goes u v ⊎ Goes v u
    either u v (stays {p = p} {q = q} h o o') = go_link p q h
    either u v (join h) = go_join u v h

    module _ (same : A → A → Bool) (t : IsTest same) (is_net : IsNet N) where
      -- the other end of a vertex's join
      mate_of : Action → Bool → A → ℕ → Vertex A
      mate_of meeting true x s = old (slot g (suc s))
      mate_of meeting false x s = old (slot f (suc s))
      mate_of (crossing j') true x s = g_copy s 0
      mate_of (crossing j') false x s = f_copy s 0

      mate : Action → Vertex A → Vertex A
      mate b (old (free n)) = old (free n)
      mate b (old (slot x zero)) = old (slot x 0)
      mate b (old (slot x (suc s))) = mate_of b (same x f) x s
      mate b (f_copy q zero) = old (slot g (suc q))
      mate b (f_copy q (suc p)) = g_copy p (suc q)
      mate b (g_copy p zero) = old (slot f (suc p))
      mate b (g_copy p (suc q)) = f_copy q (suc p)

      f_is_g : f ≡ g → ⊥
      f_is_g e = is_net.apart (slot f 0)
          (subst (λ x. Linked N (slot f 0) (slot x 0)) (sym e) faces.linked)

      is_f : same f f ≡ true
      is_f = t.holds f

      is_not_f : same g f ≡ false
      is_not_f = go (same g f) refl
        where
          go : (b : Bool) → same g f ≡ b → b ≡ false
          go true e = absurd (f_is_g (sym (t.tells g f e)))
          go false e = refl

      mates : (b : Action) (u v : Vertex A) → Join N f g k i l j b u v → (mate b u ≡ v)
          × (mate b v ≡ u)
      unfolding mate mate_of
      mates meeting u v (meet {s = s} b) =
          (ap (λ x. mate_of meeting x f s) is_f, ap (λ x. mate_of meeting x g s) is_not_f)
      mates (crossing j') u v (at_f {p = p} b) = (refl, ap (λ x. mate_of (crossing j') x f p) is_f)
      mates (crossing j') u v (at_g {q = q} b) =
          (refl, ap (λ x. mate_of (crossing j') x g q) is_not_f)
      mates (crossing j') u v (between b b') = (refl, refl)

      mated : (u v : Vertex A) → Join N f g k i l j a u v ⊎ Join N f g k i l j a v u → mate a u ≡ v
      mated u v (inl h) = (mates a u v h).0
      mated u v (inr h) = (mates a v u h).1

      -- where a vertex is gone from, and where it is come to from
      From : Vertex A → Vertex A → Type 0
      From u v = ((p : NamedPort A) × (q : NamedPort A) × (u ≡ old p) × (v ≡ old q) × Linked N p q
          × (by_join u ≡ false) × (by_join v ≡ true))
          ⊎ ((mate a u ≡ v) × (mate a v ≡ u) × (by_join u ≡ true) × (by_join v ≡ false))

      from : {u v : Vertex A} → Goes u v → From u v
      unfolding From
      from (along_link {p = p} {q = q} h e e') = inl (p, q, refl, refl, h, ap not e, ap not e')
      from (along_join {u = u} {v = v} h e e') = inr (mated u v h, mated v u (turn h), e, e')
        where
          turn : Join N f g k i l j a u v ⊎ Join N f g k i l j a v u → Join N f g k i l j a v u
              ⊎ Join N f g k i l j a u v
          turn (inl h) = inr h
          turn (inr h) = inl h

      old_one : (p q : NamedPort A) → old p ≡ old q → p ≡ q
      old_one p q e = cc

      one_on : (u v w : Vertex A) → From u v → From u w → v ≡ w
      unfolding From
      one_on u v w (inl x) (inr y) = absurd (cc)
      one_on u v w (inr x) (inl y) = absurd (cc)
      one_on u v w (inr x) (inr y) = sym x.0 ∙ y.0
      one_on u v w (inl x) (inl y) =
          let e : x.0 ≡ y.0 = old_one x.0 y.0 (sym x.2 ∙ y.2) in
          x.3 ∙ ap old (is_net.one_link x.0 x.1 y.1 x.4 (subst (λ p. Linked N p y.1) (sym e) y.4))
          ∙ sym y.3

      one_to : (u v w : Vertex A) → From u w → From v w → u ≡ v
      unfolding From
      one_to u v w (inl x) (inr y) = absurd (cc)
      one_to u v w (inr x) (inl y) = absurd (cc)
      one_to u v w (inr x) (inr y) = sym x.1 ∙ y.1
      one_to u v w (inl x) (inl y) =
          let e : x.1 ≡ y.1 = old_one x.1 y.1 (sym x.3 ∙ y.3) in
          let h : Linked N x.1 y.0 = subst (λ q. Linked N q y.0) (sym e) (linked_sym N y.0 y.1 y.4)
          in
          x.2 ∙ ap old (is_net.one_link x.1 x.0 y.0 (linked_sym N x.0 x.1 x.4) h) ∙ sym y.2

      leads : Leads (Wire N f g k i l j a) Goes
      leads = record {
        either = either;
        one_on =
            λ u v w h h'. one_on u v w (from h) (from h');
        one_to =
            λ u v w h h'. one_to u v w (from h) (from h');
      }

      module _ (born : ℕ → A) where
        -- a vertex that lasts, and is no slot of a copy that isn't there
        abbrev pub IsThere : Vertex A → Type 0
        IsThere (old p) = Lasts N f g k i l j a born (old p)
        IsThere (f_copy q s) = q < arity l
        IsThere (g_copy p s) = p < arity k

        abbrev IsJoined : Vertex A → Type 0
        IsJoined (old p) = (s : ℕ) × ((p ≡ slot f s) ⊎ (p ≡ slot g s))
        IsJoined (f_copy q s) = q < arity l
        IsJoined (g_copy p s) = p < arity k

        join_ends : (b : Action) (u v : Vertex A) → Join N f g k i l j b u v → IsJoined u
            × IsJoined v
        join_ends meeting u v (meet {s = s} b) = ((suc s, inl refl), (suc s, inr refl))
        join_ends (crossing j') u v (at_f {p = p} b) = (b, (suc p, inl refl))
        join_ends (crossing j') u v (at_g {q = q} b) = (b, (suc q, inr refl))
        join_ends (crossing j') u v (between b b') = (b', b)

        at_join : (u v : Vertex A) → Join N f g k i l j a u v ⊎ Join N f g k i l j a v u →
            IsJoined u × IsJoined v
        at_join u v (inl h) = join_ends a u v h
        at_join u v (inr h) = let r = join_ends a v u h in (r.1, r.0)

        abbrev LastsHere : Vertex A → Type 0
        LastsHere u = Lasts N f g k i l j a born u

        goes_away : (x : A) (s : ℕ) → LastsHere (old (slot x s)) → IsJoined (old (slot x s)) → ⊥
        goes_away x s h (n, inl e) = h.0 (cc)
        goes_away x s h (n, inr e) = h.1 (cc)

        join_start : (u : Vertex A) → LastsHere u → IsJoined u → by_join u ≡ true → IsThere u
            × (out_of u ≡ true)
        join_start (old (free n)) h (s, inl e) c = absurd (cc)
        join_start (old (free n)) h (s, inr e) c = absurd (cc)
        join_start (old (slot x s)) h r c = absurd (goes_away x s h r)
        join_start (f_copy q s) h r c = (r, c)
        join_start (g_copy p s) h r c = (r, c)

        join_end : (u : Vertex A) → LastsHere u → IsJoined u → by_join u ≡ false → IsThere u
            × (out_of u ≡ false)
        join_end (old (free n)) h (s, inl e) c = absurd (cc)
        join_end (old (free n)) h (s, inr e) c = absurd (cc)
        join_end (old (slot x s)) h r c = absurd (goes_away x s h r)
        join_end (f_copy q s) h r c = (r, c)
        join_end (g_copy p s) h r c = (r, c)

        -- a row begins at an out port and ends at an in port
        starts : {u v : Vertex A} → Goes u v → LastsHere u → IsThere u × (out_of u ≡ true)
        starts (along_link h e e') r = (r, e)
        starts (along_join {u = u} {v = v} h e e') r = join_start u r (at_join u v h).0 e

        stops : {u v : Vertex A} → Goes u v → LastsHere v → IsThere v × (out_of v ≡ false)
        stops (along_link h e e') r = (r, e')
        stops (along_join {u = u} {v = v} h e e') r = join_end v r (at_join u v h).1 e'

        -- two vertices that last and are joined: both are there, and one is out where the other is
        -- in
        pub turned : {u v : Vertex A} → LastsHere u → LastsHere v → u ≢ v →
            Joined (Wire N f g k i l j a) u v → IsThere u × IsThere v × (out_of u ≡ not (out_of v))
        turned {u} {v} h h' n r = go (joined_ends leads r n)
          where
            go : Ends Goes u v ⊎ Ends Goes v u → IsThere u × IsThere v × (out_of u ≡ not (out_of v))
            go (inl e) =
                let b = starts e.first h in
                let c = stops e.last h' in
                (b.0, c.0, b.1 ∙ ap not (sym c.1))
            go (inr e) =
                let b = starts e.first h' in
                let c = stops e.last h in
                (c.0, b.0, c.1 ∙ ap not (sym b.1))
