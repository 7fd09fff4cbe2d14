-- A step of an unblocked net leaves an unblocked net.
-- Used in Runs, for `step_keeps_unblocked`.
use Rattle.std.proofs.Common.{◌≡◌, ℕ, zero, suc, ◌+◌, ◌<◌, ◌≤◌, List, [], ◌∷◌, refl, sym, ◌∙◌, subst}
use Rattle.ol_context.specs.Contexts.{Context, up, IsCrosser}
use Rattle.ol_law_edges.specs.Edges.{Joined, here, on, back}
use Rattle.ol_invariance.proofs.Moves.{Meets, Commutes, Suits}
use Rattle.ol_invariance.proofs.Table.{rule_suits}
use Rattle.ol_net.specs.Nets.{NamedPort, free, slot, NamedNet, HasNode, Linked, IsPort, IsNet, Faces}
use Rattle.ol_net.specs.Parts.{arity}
use Rattle.ol_net.specs.declared.parts.Kind.{Kind}
use Rattle.ol_rules.proofs.FreshPairs.{linked_sym}
use Rattle.ol_rules.proofs.Ports.{Real, named, links_of, name_one, lasts_real}
use Rattle.ol_rules.proofs.Wires.{Join, Wire, stays, join}
use Rattle.ol_rules.proofs.Wires as wires
use Rattle.ol_rules.specs.Contracting.{Vertex, old, f_copy, g_copy}
use Rattle.ol_rules.specs.Laws.{IsFresh}
use Rattle.ol_rules.specs.Rewriting.{Action, meeting, crossing, action_of, NodeOf, left, of_f, of_g, Rewrites}
use Rattle.ol_law_levels.specs.UnblockedLaws.{StepKeepsUnblocked}
use Rattle.ol_law_levels.specs.Unblocked.{Change, rise, fall, ComesOut, Reaches, begins, along, rises}
use Rattle.ol_law_levels.specs.Unblocked.{falls, alike, IsUnblocked}
use Rattle.ol_law_levels.proofs.Before.{Alike, alike_rise, meet_on, meet_back, between_on, between_back}
use Rattle.ol_law_levels.proofs.Before.{begins_f, begins_g, falls_f, falls_g}

module _ {A : Type 0} (N : NamedNet A) (f g : A) (k : Kind) (i : ℕ) (l : Kind) (j : ℕ)
    (a : Action) (n : ℕ) (born : ℕ → A) (is_net : IsNet N) (faces : Faces N f g k i l j)
    (fresh : IsFresh N born) (M : NamedNet A) (rewrites : Rewrites born N f g k i l a M)
    (meets : a ≡ meeting → Meets k i l j)
    (commutes : (n' : ℕ) → a ≡ crossing n' → (n' ≡ n) × Commutes k i l j n) where
  -- what a walk at a vertex of the step is before it
  abbrev Before : Vertex A → List Change → Type 0
  Before (old p) w = Reaches N p w
  Before (f_copy q zero) w = Reaches N (slot g (suc q)) w
  Before (f_copy q (suc p)) w = Reaches N (slot g (suc q)) (rise k i p ∷ w)
  Before (g_copy p zero) w = Reaches N (slot f (suc p)) w
  Before (g_copy p (suc q)) w = Reaches N (slot f (suc p)) (rise l n q ∷ w)

  before_alike : (u : Vertex A) (v w : List Change) → Alike v w → Before u v → Before u w
  before_alike (old p) v w h r = alike r h
  before_alike (f_copy q zero) v w h r = alike r h
  before_alike (f_copy q (suc p)) v w h r = alike r (alike_rise k i p v w h)
  before_alike (g_copy p zero) v w h r = alike r h
  before_alike (g_copy p (suc q)) v w h r = alike r (alike_rise l n q v w h)

  joined_join : (b : Action) → b ≡ a → (u v : Vertex A) (w : List Change) → Join N f g k i l j b u v →
      (Before u w → Before v w) × (Before v w → Before u w)
  joined_join b e u v w (wires.Join.meet {s = s} h) =
      let m = meets (sym e) in (
        meet_on N f g k i l j faces m s w h,
        meet_back N f g k i l j faces m s w h,
      )
  joined_join b e u v w (wires.Join.at_f h) = (λ r. r, λ r. r)
  joined_join b e u v w (wires.Join.at_g h) = (λ r. r, λ r. r)
  joined_join b e u v w (wires.Join.between {j' = j'} {p = p} {q = q} h h') =
      let m = (commutes j' (sym e)).1 in (
        between_on N f g k i l j faces n m p q w h h',
        between_back N f g k i l j faces n m p q w h h',
      )

  wired : (u v : Vertex A) (w : List Change) → Wire N f g k i l j a u v →
      (Before u w → Before v w) × (Before v w → Before u w)
  wired u v w (stays {p = p} {q = q} h o o') =
      (λ r. along r h, λ r. along r (linked_sym N p q h))
  wired u v w (join h) = joined_join a refl u v w h

  joined : {u v : Vertex A} (w : List Change) → Joined (Wire N f g k i l j a) u v → Before u w →
      Before v w
  joined w here r = r
  joined w (on {v = x} {w = y} c e) r = (wired x y w e).0 (joined w c r)
  joined w (back {v = x} {w = y} c e) r = (wired y x w e).1 (joined w c r)

  abbrev name : Vertex A → NamedPort A
  name u = named N f g k i l j a born u

  abbrev RealHere : Vertex A → Type 0
  RealHere u = Real N f g k i l j a born u

  abbrev Was : NamedPort A → List Change → Type 0
  Was p w = (u : Vertex A) → RealHere u → p ≡ name u → Before u w

  one : (u v : Vertex A) → RealHere u → RealHere v → name u ≡ name v → u ≡ v
  one u v h h' e = name_one N f g k i l j a born is_net faces fresh u v h h' e

  -- at the vertex that has this name
  at : (p : NamedPort A) (w : List Change) (v : Vertex A) → RealHere v → p ≡ name v → Before v w →
      Was p w
  at p w v h e r u h' e' = subst (λ x. Before x w) (one v u h h' (sym e ∙ e')) r

  node_of : (x : A) (m : Kind) (d : ℕ) → HasNode M x m d → NodeOf N born f g k i l a x m d
  node_of x m d h = (rewrites.nodes x m d).0 h

  begins_at : (x : A) (s : ℕ) (m : Kind) (d : ℕ) → NodeOf N born f g k i l a x m d → s ≤ arity m →
      Was (slot x s) []
  begins_at x s m d (left h y z) b =
      at (slot x s) [] (old (slot x s)) (m, d, h) refl (begins (m, d, h, b))
  begins_at x zero m d (of_f {q = q} j' e c) b =
      at (slot (born q) zero) [] (f_copy q zero) c refl (begins (l, j, faces.second, c))
  begins_at x (suc s) m d (of_f {q = q} j' e c) b =
      at (slot (born q) (suc s)) [] (f_copy q (suc s)) c refl
      (begins_f N f g k i l j faces n (commutes j' e).1 s q b c)
  begins_at x zero m d (of_g {p = p} j' e c) b =
      at (slot (born (arity l + p)) zero) [] (g_copy p zero) tt refl (begins (k, i, faces.first, c))
  begins_at x (suc s) m d (of_g {p = p} j' e c) b =
      at (slot (born (arity l + p)) (suc s)) [] (g_copy p (suc s)) tt refl
      (begins_g N f g k i l j faces n (commutes j' e).1 p s c b)

  begins_here : (p : NamedPort A) → IsPort M p → Was p []
  begins_here (free m) h =
      at (free m) [] (old (free m)) tt refl (begins (subst (λ t. m < t) rewrites.free_ports h))
  begins_here (slot x s) h = begins_at x s h.0 h.1 (node_of x h.0 h.1 h.2) h.3

  rises_here : (x : A) (s : ℕ) (w : List Change) (m : Kind) (d : ℕ) →
      NodeOf N born f g k i l a x m d → s < arity m → Was (slot x (suc s)) w →
      Was (slot x 0) (rise m d s ∷ w)
  rises_here x s w m d (left h y z) b r =
      at (slot x 0) (rise m d s ∷ w) (old (slot x 0)) (m, d, h) refl
      (rises m d (r (old (slot x (suc s))) (m, d, h) refl) h b)
  rises_here x s w m d (of_f {q = q} j' e c) b r =
      at (slot (born q) 0) (rise k i s ∷ w) (f_copy q zero) c refl (r (f_copy q (suc s)) c refl)
  rises_here x s w m d (of_g {p = p} j' e c) b r =
      at (slot (born (arity l + p)) 0) (rise l j' s ∷ w) (g_copy p zero) tt refl
      (subst (λ t. Reaches N (slot f (suc p)) (rise l t s ∷ w)) (sym (commutes j' e).0)
      (r (g_copy p (suc s)) tt refl))

  falls_here : (x : A) (s : ℕ) (w : List Change) (m : Kind) (d : ℕ) (c : Context) →
      NodeOf N born f g k i l a x m d → s < arity m → ComesOut w (up m d s c) → Was (slot x 0) w →
      Was (slot x (suc s)) (fall m d s ∷ w)
  falls_here x s w m d c (left h y z) b t r =
      at (slot x (suc s)) (fall m d s ∷ w) (old (slot x (suc s))) (m, d, h) refl
      (falls m d c (r (old (slot x 0)) (m, d, h) refl) h b t)
  falls_here x s w m d c (of_f {q = q} j' e q') b t r =
      at (slot (born q) (suc s)) (fall k i s ∷ w) (f_copy q (suc s)) q' refl
      (falls_f N f g k i l j faces n (commutes j' e).1 s q w c b q' (r (f_copy q zero) q' refl) t)
  falls_here x s w m d c (of_g {p = p} j' e p') b t r =
      let o = commutes j' e in
      at (slot (born (arity l + p)) (suc s)) (fall l j' s ∷ w) (g_copy p (suc s)) tt refl
      (subst (λ t. Reaches N (slot f (suc p)) (rise l n s ∷ fall l t s ∷ w)) (sym o.0)
      (falls_g N f g k i l j faces n o.1 p s w c p' b (r (g_copy p zero) tt refl)
      (subst (λ t. ComesOut w (up l t s c)) o.0 t)))

  along_here : (p q : NamedPort A) (w : List Change) → Linked M p q → Was p w → Was q w
  along_here p q w h r =
      let t = (links_of N f g k i l j a born is_net faces fresh p q).1 ((rewrites.links p q).0 h) in
      let real = lasts_real N f g k i l j a born is_net faces fresh in
      at q w t.to (real t.to t.to_lasts) t.to_is
      (joined w t.joined (r t.from (real t.from t.from_lasts) t.from_is))

  -- each walk after the step is one before it
  was : {p : NamedPort A} {w : List Change} → Reaches M p w → Was p w
  was (begins {p = p} h) = begins_here p h
  was (along {p = p} {q = q} {w = w} r h) = along_here p q w h (was r)
  was (rises {x = x} {s = s} {w = w} m d r h b) =
      rises_here x s w m d (node_of x m d h) b (was r)
  was (falls {x = x} {s = s} {w = w} m d c r h b t) =
      falls_here x s w m d c (node_of x m d h) b t (was r)
  was (alike {v = v} {w = w} r h) = λ u real e. before_alike u v w h (was r u real e)

  module _ (unblocked : IsUnblocked N) where
    GoesOn : Kind → ℕ → List Change → Type 0
    GoesOn m d w = (s : ℕ) × (c : Context) × (s < arity m) × ComesOut w (up m d s c)

    goes_on : (x : A) (m : Kind) (d : ℕ) (w : List Change) → NodeOf N born f g k i l a x m d →
        IsCrosser m → Was (slot x 0) w → GoesOn m d w
    unfolding GoesOn
    goes_on x m d w (left h y z) o r = unblocked x m d w h o (r (old (slot x 0)) (m, d, h) refl)
    goes_on x m d w (of_f {q = q} j' e c) o r =
        let q' = r (f_copy q zero) c refl in
        let t = unblocked f k i (rise l j q ∷ w) faces.first o
        (along (rises l j q' faces.second c) (linked_sym N (slot f 0) (slot g 0) faces.linked)) in
        let x = t.3 in
        let y = (commutes j' e).1.pull t.0 q t.1 x.0 t.2 c (sym x.2) in
        (t.0, y.0, t.2, subst (λ c. ComesOut w c) (sym y.2) x.1)
    goes_on x m d w (of_g {p = p} j' e c) o r =
        let p' = r (g_copy p zero) tt refl in
        let t = unblocked g l j (rise k i p ∷ w) faces.second o
        (along (rises k i p' faces.first c) faces.linked) in
        let x = t.3 in
        let z = commutes j' e in
        let y = z.1.pull p t.0 x.0 t.1 c t.2 x.2 in (
          t.0,
          y.0,
          t.2,
          subst (λ t'. ComesOut w (up l t' t.0 y.0)) (sym z.0)
              (subst (λ c. ComesOut w c) (sym y.1) x.1),
        )

    pub after : IsUnblocked M
    unfolding GoesOn
    after x m d w h o r = goes_on x m d w (node_of x m d h) o (was r)

module _ {A : Type 0} where
  pub keeps : (N : NamedNet A) (f g : A) (k : Kind) (i : ℕ) (l : Kind) (j : ℕ) (a : Action)
      (born : ℕ → A) → IsNet N → Faces N f g k i l j → IsFresh N born → (M : NamedNet A) →
      Rewrites born N f g k i l a M → Suits a k i l j → IsUnblocked N → IsUnblocked M
  keeps N f g k i l j meeting born is_net faces fresh M rewrites suits u =
      after N f g k i l j meeting 0 born is_net faces fresh M rewrites (λ e. suits)
      (λ n' e. absurd (cc)) u
  keeps N f g k i l j (crossing n) born is_net faces fresh M rewrites suits u =
      after N f g k i l j (crossing n) n born is_net faces fresh M rewrites (λ e. absurd (cc))
      (λ n' e. (index n' e, suits)) u
    where
      index : (n' : ℕ) → crossing n ≡ crossing n' → n' ≡ n
      index n' e = let q : n ≡ n' = cc in sym q

  pub step_keeps_unblocked : StepKeepsUnblocked A
  step_keeps_unblocked same t born N M f g r is_net fresh s u =
      let x = s.active in
      keeps N f g x.k x.i x.l x.j (action_of r x.j) born is_net x.faces fresh M s.rewrites
      (rule_suits x.k x.i x.l x.j r x.fits) u
