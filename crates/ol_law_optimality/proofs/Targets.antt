-- A row on which contexts lead on leaves a row of the net after a step.
use Rattle.std.proofs.Common.{◌≡◌, ◌≢◌, ℕ, suc, ◌+◌, ◌<◌, Bool, List, [], ◌∷◌, refl, sym, ap, ◌∙◌, subst, arith}
use Rattle.ol_context.proofs.Contexts.{injective}
use Rattle.ol_context.specs.Contexts.{Context, empty, up}
use Rattle.ol_law_edges.specs.Edges.{IsTest}
use Rattle.ol_invariance.proofs.Moves.{Meets, Suits}
use Rattle.ol_net.specs.Nets.{NamedPort, slot, NamedNet, HasNode, Linked, IsPort, IsNet, Faces}
use Rattle.ol_net.specs.Parts.{arity}
use Rattle.ol_net.specs.declared.parts.Kind.{Kind}
use Rattle.ol_net.specs.declared.parts.Kind.TheVariants as kind
use Rattle.ol_rules.proofs.FreshPairs.{linked_sym}
use Rattle.ol_rules.proofs.Ports.{Lasts, Real, named}
use Rattle.ol_rules.specs.Contracting.{Vertex, old, f_copy, g_copy}
use Rattle.ol_rules.specs.Laws.{IsFresh}
use Rattle.ol_rules.specs.Rewriting.{Action, meeting, crossing, left, of_f, of_g, Rewrites}
use Rattle.ol_law_optimality.specs.Redexes.{Carries}
use Rattle.ol_law_optimality.specs.Routes.{Crossing, rise, fall, node_of, Row, along, rises, falls, Residue}
use Rattle.ol_law_optimality.specs.Routes as routes
use Rattle.ol_law_optimality.proofs.Sources.{arrives, beside}
use Rattle.ol_law_optimality.proofs.Trails.{At, at_old, at_f, at_g, Next, direct, to_f, to_g, by_f, by_g}
use Rattle.ol_law_optimality.proofs.Trails as trails
use Rattle.ol_invariance.proofs.WrongTables.{at_its_level}
use Rattle.ol_context.proofs.LeafMoves.{marked_empty}

module _ {A : Type 0} (N : NamedNet A) (f g : A) (k : Kind) (i : ℕ) (l : Kind) (j : ℕ)
    (a : Action) (born : ℕ → A) (same : A → A → Bool) (t : IsTest same) (is_net : IsNet N)
    (faces : Faces N f g k i l j) (fresh : IsFresh N born) (M : NamedNet A)
    (rewrites : Rewrites born N f g k i l a M) (suits : Suits a k i l j)
    (quiet : (j' : ℕ) → a ≡ crossing j' → (k ≢ kind.Lam) × (k ≢ kind.App)) (net_after : IsNet M)
  where
    abbrev name : Vertex A → NamedPort A
    name u = named N f g k i l j a born u

    abbrev LastsHere : Vertex A → Type 0
    LastsHere u = Lasts N f g k i l j a born u

    abbrev AtHere : Vertex A → NamedPort A → Type 0
    AtHere u p = At N f g k i l j a same t is_net faces u p

    abbrev NextHere : NamedPort A → Vertex A → Type 0
    NextHere p u = Next N f g k i l j a same t is_net faces p u

    meets : a ≡ meeting → Meets k i l j
    meets e = subst (λ a. Suits a k i l j) e suits

    copy_of_f : (j' q : ℕ) → a ≡ crossing j' → q < arity l → HasNode M (born q) k i
    copy_of_f j' q e b = (rewrites.nodes (born q) k i).1 (of_f j' e b)

    copy_of_g : (j' p : ℕ) → a ≡ crossing j' → p < arity k → HasNode M (born (arity l + p)) l j'
    copy_of_g j' p e b = (rewrites.nodes (born (arity l + p)) l j').1 (of_g j' e b)

    still : (x : A) (m : Kind) (n : ℕ) → HasNode N x m n → x ≢ f → x ≢ g → HasNode M x m n
    still x m n h y z = (rewrites.nodes x m n).1 (left h y z)

    slot_node : (x y : A) (s n : ℕ) → ◌≡◌ {A = NamedPort A} (slot x s) (slot y n) → x ≡ y
    slot_node x y s n e = cc

    slot_number : (x y : A) (s n : ℕ) → ◌≡◌ {A = NamedPort A} (slot x s) (slot y n) → s ≡ n
    slot_number x y s n e = cc

    g_to_f : Linked N (slot g 0) (slot f 0)
    g_to_f = linked_sym N (slot f 0) (slot g 0) faces.linked

    -- rows to the principal port of an abstraction, at whose level nothing stands in the end
    module _ (y : A) (jy : ℕ) (lam : HasNode N y kind.Lam jy) (fin : Context)
        (bare : fin jy ≡ empty) where
      pub record Made (p' : NamedPort A) (v : List (Crossing A)) : Type 0 where
        pub w : List (Crossing A)
        pub z : A
        pub index : ℕ
        pub abstraction : HasNode M z kind.Lam index
        pub row : Row M p' w (slot z 0)
        pub residue : Residue born f g (arity l) a v y w z

      abbrev Going : NamedPort A → List (Crossing A) → Type 0
      Going p v = (p' q' : NamedPort A) (to : Vertex A) → Linked M p' q' → q' ≡ name to →
          LastsHere to → NextHere p to → Made p' v

      -- after the principal port of the other node
      data Beyond (x : A) (kx : Kind) (ix : ℕ) (c : Context) (v : List (Crossing A)) : Type 0 where
        stops : v ≡ [] → y ≡ x → c ≡ fin → Beyond x kx ix c v
        goes : (n : ℕ) (u : List (Crossing A)) (b : Context) → v ≡ fall x n ∷ u → n < arity kx →
            up kx ix n b ≡ c → Going (slot x (suc n)) u → Beyond x kx ix c v

      record All (p : NamedPort A) (c : Context) (v : List (Crossing A)) : Type 0 where
        going : Going p v
        past_f : p ≡ slot f 0 → Beyond g l j c v
        past_g : p ≡ slot g 0 → Beyond f k i c v

      -- from a vertex that stands for port p
      pub on_from : (u : Vertex A) (p : NamedPort A) → AtHere u p →
          Real N f g k i l j a born u → IsPort M (name u) → (v : List (Crossing A)) → Going p v →
          Made (name u) v
      on_from u p at real port v go =
          let s = net_after.some_link (name u) port in
          let r = arrives N f g k i l j a born same t is_net faces fresh M rewrites (arities s)
          quiet u
          p (name u) s.0 at real refl s.1 in
          go (name u) s.0 r.to s.1 r.is r.lasts r.next
        where
          arities : {X : Type 0} → X → a ≡ meeting → arity k ≡ arity l
          arities x e = (meets e).arities

      -- the link between two copies
      between_g : (s n : ℕ) (j' : ℕ) → a ≡ crossing j' → s < arity k → n < arity l →
          Linked M (slot (born (arity l + s)) (suc n)) (slot (born n) (suc s))
      between_g s n j' e b b' =
          let q = net_after.some_link (slot (born (arity l + s)) (suc n)) (
            l,
            j',
            copy_of_g j' s e b,
            (omega arith),
          ) in
          subst (λ q. Linked M (slot (born (arity l + s)) (suc n)) q)
          (beside N f g k i l j a born same t is_net faces fresh M rewrites (λ e. (meets e).arities)
          quiet (g_copy s (suc n)) (f_copy n (suc s)) tt (trails.g_beside e b b')
          (λ p x. absurd (cc)) (λ p x. absurd (cc)) (slot (born (arity l + s)) (suc n)) q.0 refl
          q.1) q.1

      between_f : (s n : ℕ) (j' : ℕ) → a ≡ crossing j' → s < arity k → n < arity l →
          Linked M (slot (born n) (suc s)) (slot (born (arity l + s)) (suc n))
      between_f s n j' e b b' =
          linked_sym M (slot (born (arity l + s)) (suc n)) (slot (born n) (suc s))
          (between_g s n j' e b b')

      old_lasts : (q r : NamedPort A) → q ≡ r → LastsHere (old r) → LastsHere (old q)
      old_lasts q r e h = subst (λ q. LastsHere (old q)) (sym e) h

      -- the row ends with this link
      ended : {p q : NamedPort A} → Linked N p q → q ≡ slot y 0 → Going p []
      ended {p} {q} h e p' q' (old r) link is lasts (direct h') =
          let o : slot y 0 ≡ r = sym e ∙ is_net.one_link p q r h h' in
          let z = old_lasts (slot y 0) r o lasts in
          record {
            w = [];
            z = y;
            index = jy;
            abstraction = still y kind.Lam jy lam z.0 z.1;
            row = along (subst (λ q. Linked M p' q) (is ∙ sym o) link);
            residue = routes.Residue.ends z.0 z.1;
          }
      ended {p} {q} h e p' q' to link is lasts (to_f {s = s} c b h') =
          let o = slot_number y f 0 (suc s) (sym e ∙ is_net.one_link p q (slot f (suc s)) h h') in
          absurd (omega arith)
      ended {p} {q} h e p' q' to link is lasts (to_g {q = s} c b h') =
          let o = slot_number y g 0 (suc s) (sym e ∙ is_net.one_link p q (slot g (suc s)) h h') in
          absurd (omega arith)
      ended {p} {q} h e p' q' to link is lasts (by_f {s = s} c b h' r) =
          let o = slot_number y f 0 (suc s) (sym e ∙ is_net.one_link p q (slot f (suc s)) h h') in
          absurd (omega arith)
      ended {p} {q} h e p' q' to link is lasts (by_g {s = s} c b h' r) =
          let o = slot_number y g 0 (suc s) (sym e ∙ is_net.one_link p q (slot g (suc s)) h h') in
          absurd (omega arith)

      -- it goes down through x
      falling : {p : NamedPort A} (x : A) (m : ℕ) (k' : Kind) (i' : ℕ) → Linked N p (slot x 0) →
          HasNode N x k' i' → m < arity k' → (v : List (Crossing A)) → Going (slot x (suc m)) v →
          Going p (fall x m ∷ v)
      falling {p} x m k' i' h hn b v go p' q' (old r) link is lasts (direct h') =
          let o : slot x 0 ≡ r = is_net.one_link p (slot x 0) r h h' in
          let z = old_lasts (slot x 0) r o lasts in
          let hm = still x k' i' hn z.0 z.1 in
          let F = on_from (old (slot x (suc m))) (slot x (suc m)) at_old (k', i', hn) (
            k',
            i',
            hm,
            (omega arith),
          ) v go in
          record {
            w = fall x m ∷ F.w;
            z = F.z;
            index = F.index;
            abstraction = F.abstraction;
            row = falls k' i' (subst (λ q. Linked M p' q) (is ∙ sym o) link) hm b F.row;
            residue = routes.passes z.0 z.1 F.residue;
          }
      falling {p} x m k' i' h hn b v go p' q' to link is lasts (to_f {s = s} c b' h') =
          let o = slot_number x f 0 (suc s) (is_net.one_link p (slot x 0) (slot f (suc s)) h h') in
          absurd (omega arith)
      falling {p} x m k' i' h hn b v go p' q' to link is lasts (to_g {q = s} c b' h') =
          let o = slot_number x g 0 (suc s) (is_net.one_link p (slot x 0) (slot g (suc s)) h h') in
          absurd (omega arith)
      falling {p} x m k' i' h hn b v go p' q' to link is lasts (by_f {s = s} c b' h' r) =
          let o = slot_number x f 0 (suc s) (is_net.one_link p (slot x 0) (slot f (suc s)) h h') in
          absurd (omega arith)
      falling {p} x m k' i' h hn b v go p' q' to link is lasts (by_g {s = s} c b' h' r) =
          let o = slot_number x g 0 (suc s) (is_net.one_link p (slot x 0) (slot g (suc s)) h h') in
          absurd (omega arith)

      -- no row ends at an abstraction that meets, after the application that meets it
      not_ended : (m : ℕ) (c : Context) (x : A) (kx : Kind) (ix : ℕ) → HasNode N x kx ix → y ≡ x →
          up kx ix m c ≡ fin → ⊥
      not_ended m c x kx ix h e q =
          let o = is_net.one_node x kx kind.Lam ix jy h (subst (λ y. HasNode N y kind.Lam jy) e lam)
          in
          let z : up kind.Lam jy m c ≡ fin =
          ap (λ k. up k jy m c) (sym o.0) ∙ ap (λ i. up kx i m c) (sym o.1) ∙ q in
          marked_empty m (c jy) (sym (at_its_level jy m c) ∙ ap (λ (c : Context). c jy) z ∙ bare)

      -- it goes up through x
      rising : {p : NamedPort A} (x : A) (m : ℕ) (c : Context) (k' : Kind) (i' : ℕ) →
          Linked N p (slot x (suc m)) → HasNode N x k' i' → m < arity k' → (v : List (Crossing A)) →
          All (slot x 0) (up k' i' m c) v → Going p (rise x m ∷ v)
      rising {p} x m c k' i' h hn b v all p' q' (old r) link is lasts (direct h') =
          let o : slot x (suc m) ≡ r = is_net.one_link p (slot x (suc m)) r h h' in
          let z = old_lasts (slot x (suc m)) r o lasts in
          let hm = still x k' i' hn z.0 z.1 in
          let F = on_from (old (slot x 0)) (slot x 0) at_old (k', i', hn) (
            k',
            i',
            hm,
            (omega arith),
          ) v all.going in
          record {
            w = rise x m ∷ F.w;
            z = F.z;
            index = F.index;
            abstraction = F.abstraction;
            row = rises k' i' (subst (λ q. Linked M p' q) (is ∙ sym o) link) hm b F.row;
            residue = routes.passes z.0 z.1 F.residue;
          }
      rising {p} x m c k' i' h hn b v all p' q' to link is lasts (to_f {j' = j'} {s = s} d b' h') =
          let o = is_net.one_link p (slot x (suc m)) (slot f (suc s)) h h' in
          let x' = slot_node x f (suc m) (suc s) o in
          let m' = slot_number x f (suc m) (suc s) o in
          let m2 : m ≡ s = omega arith in
          subst (λ x. Made p' (rise x m ∷ v)) (sym x') (subst (λ m. Made p' (rise f m ∷ v)) (sym m2)
          (go (all.past_f (ap (λ x. slot x 0) x'))))
        where
          go : Beyond g l j (up k' i' m c) v → Made p' (rise f s ∷ v)
          go (stops e ey ec) =
              let o = is_net.one_node g l kind.Lam j jy faces.second
              (subst (λ y. HasNode N y kind.Lam jy) ey lam) in
              subst (λ v. Made p' (rise f s ∷ v)) (sym e) (record {
                w = [];
                z = born (arity l + s);
                index = j';
                abstraction = subst (λ l'. HasNode M (born (arity l + s)) l' j') o.0
                    (copy_of_g j' s d b');
                row = along (subst (λ q. Linked M p' q) is link);
                residue = subst (λ y. Residue born f g (arity l) a (rise f s ∷ []) y []
                    (born (arity l + s))) (sym ey) (routes.ends_at_copy d);
              })
          go (goes n u b2 e bn ec go') =
              let F = on_from (f_copy n 0) (slot g (suc n)) at_g bn (
                k,
                i,
                copy_of_f j' n d bn,
                (omega arith),
              ) u go' in
              subst (λ v. Made p' (rise f s ∷ v)) (sym e) (record {
                w = fall (born (arity l + s)) n ∷ rise (born n) s ∷ F.w;
                z = F.z;
                index = F.index;
                abstraction = F.abstraction;
                row = falls l j' (subst (λ q. Linked M p' q) is link) (copy_of_g j' s d b') bn
                    (rises k i (between_g s n j' d b' bn) (copy_of_f j' n d bn) b' F.row);
                residue = routes.crosses_up d F.residue;
              })
      rising {p} x m c k' i' h hn b v all p' q' to link is lasts (to_g {j' = j'} {q = s} d b' h') =
          let o = is_net.one_link p (slot x (suc m)) (slot g (suc s)) h h' in
          let x' = slot_node x g (suc m) (suc s) o in
          let m' = slot_number x g (suc m) (suc s) o in
          let m2 : m ≡ s = omega arith in
          subst (λ x. Made p' (rise x m ∷ v)) (sym x') (subst (λ m. Made p' (rise g m ∷ v)) (sym m2)
          (go (all.past_g (ap (λ x. slot x 0) x'))))
        where
          go : Beyond f k i (up k' i' m c) v → Made p' (rise g s ∷ v)
          go (stops e ey ec) =
              let o = is_net.one_node f k kind.Lam i jy faces.first
              (subst (λ y. HasNode N y kind.Lam jy) ey lam) in
              absurd ((quiet j' d).0 o.0)
          go (goes n u b2 e bn ec go') =
              let F = on_from (g_copy n 0) (slot f (suc n)) at_f tt (
                l,
                j',
                copy_of_g j' n d bn,
                (omega arith),
              ) u go' in
              subst (λ v. Made p' (rise g s ∷ v)) (sym e) (record {
                w = fall (born s) n ∷ rise (born (arity l + n)) s ∷ F.w;
                z = F.z;
                index = F.index;
                abstraction = F.abstraction;
                row = falls k i (subst (λ q. Linked M p' q) is link) (copy_of_f j' s d b') bn
                    (rises l j' (between_f n s j' d bn b') (copy_of_g j' n d bn) b' F.row);
                residue = routes.crosses_down d F.residue;
              })
      rising {p} x m c k' i' h hn b v all p' q' to link is lasts (by_f {s = s} d b' h' r) =
          let o = is_net.one_link p (slot x (suc m)) (slot f (suc s)) h h' in
          let x' = slot_node x f (suc m) (suc s) o in
          let m' = slot_number x f (suc m) (suc s) o in
          let m2 : m ≡ s = omega arith in
          let z = is_net.one_node f k' k i' i (subst (λ x. HasNode N x k' i') x' hn) faces.first in
          let w : up k' i' m c ≡ up l j s c =
          ap (λ k. up k i' m c) z.0 ∙ ap (λ i. up k i m c) z.1 ∙ ap (λ m. up k i m c) m2
          ∙ (meets d).alike s c b' in
          subst (λ x. Made p' (rise x m ∷ v)) (sym x') (subst (λ m. Made p' (rise f m ∷ v)) (sym m2)
          (go w (all.past_f (ap (λ x. slot x 0) x'))))
        where
          go : up k' i' m c ≡ up l j s c → Beyond g l j (up k' i' m c) v → Made p' (rise f s ∷ v)
          go w (stops e ey ec) = absurd (not_ended s c g l j faces.second ey (sym w ∙ ec))
          go w (goes n u b2 e bn ec go') =
              let q : n ≡ s = (injective l j n s b2 c bn (subst (λ n. s < n) (meets d).arities b')
              (ec ∙ w)).0 in
              let F = go' p' q' to link is lasts
              (subst (λ n. NextHere (slot g (suc n)) to) (sym q) r) in
              subst (λ v. Made p' (rise f s ∷ v)) (sym e)
              (subst (λ n. Made p' (rise f s ∷ fall g n ∷ u)) (sym q) (record {
                w = F.w;
                z = F.z;
                index = F.index;
                abstraction = F.abstraction;
                row = F.row;
                residue = routes.meets_up d F.residue;
              }))
      rising {p} x m c k' i' h hn b v all p' q' to link is lasts (by_g {s = s} d b' h' r) =
          let o = is_net.one_link p (slot x (suc m)) (slot g (suc s)) h h' in
          let x' = slot_node x g (suc m) (suc s) o in
          let m' = slot_number x g (suc m) (suc s) o in
          let m2 : m ≡ s = omega arith in
          let z = is_net.one_node g k' l i' j (subst (λ x. HasNode N x k' i') x' hn) faces.second in
          let w : up k' i' m c ≡ up k i s c =
          ap (λ k. up k i' m c) z.0 ∙ ap (λ i. up l i m c) z.1 ∙ ap (λ m. up l j m c) m2
          ∙ sym ((meets d).alike s c b') in
          subst (λ x. Made p' (rise x m ∷ v)) (sym x') (subst (λ m. Made p' (rise g m ∷ v)) (sym m2)
          (go w (all.past_g (ap (λ x. slot x 0) x'))))
        where
          go : up k' i' m c ≡ up k i s c → Beyond f k i (up k' i' m c) v → Made p' (rise g s ∷ v)
          go w (stops e ey ec) = absurd (not_ended s c f k i faces.first ey (sym w ∙ ec))
          go w (goes n u b2 e bn ec go') =
              let q : n ≡ s = (injective k i n s b2 c bn b' (ec ∙ w)).0 in
              let F = go' p' q' to link is lasts
              (subst (λ n. NextHere (slot f (suc n)) to) (sym q) r) in
              subst (λ v. Made p' (rise g s ∷ v)) (sym e)
              (subst (λ n. Made p' (rise g s ∷ fall f n ∷ u)) (sym q) (record {
                w = F.w;
                z = F.z;
                index = F.index;
                abstraction = F.abstraction;
                row = F.row;
                residue = routes.meets_down d F.residue;
              }))

      -- what the principal ports of f and g are linked to
      from_f : (p q : NamedPort A) → p ≡ slot f 0 → Linked N p q → q ≡ slot g 0
      from_f p q e h =
          is_net.one_link (slot f 0) q (slot g 0) (subst (λ p. Linked N p q) e h) faces.linked

      from_g : (p q : NamedPort A) → p ≡ slot g 0 → Linked N p q → q ≡ slot f 0
      from_g p q e h =
          is_net.one_link (slot g 0) q (slot f 0) (subst (λ p. Linked N p q) e h) g_to_f

      beyond : (x : A) (kx : Kind) (ix : ℕ) → HasNode N x kx ix →
          (x' : A) (m : ℕ) (k' : Kind) (i' : ℕ)
          (b c : Context) (v : List (Crossing A)) → HasNode N x' k' i' → m < arity k' →
          up k' i' m b ≡ c → x' ≡ x → Going (slot x' (suc m)) v → Beyond x kx ix c (fall x' m ∷ v)
      beyond x kx ix hx x' m k' i' b c v h n e q go =
          let z = is_net.one_node x k' kx i' ix (subst (λ x. HasNode N x k' i') q h) hx in
          goes m v b (ap (λ x. fall x m ∷ v) q) (subst (λ k. m < arity k) z.0 n)
          (ap (λ k. up k ix m b) (sym z.0) ∙ ap (λ i. up k' i m b) (sym z.1) ∙ e)
          (subst (λ x. Going (slot x (suc m)) v) q go)

      all : {p q : NamedPort A} {v : List (Crossing A)} → Row N p v q → q ≡ slot y 0 →
          (c : Context) → Carries N c v fin → All p c v
      all (along {p = p} {q = q} h) e c r = record {
        going = ended h e;
        past_f = λ o. stops refl (slot_node y g 0 0 (sym e ∙ from_f p q o h)) r;
        past_g = λ o. stops refl (slot_node y f 0 0 (sym e ∙ from_g p q o h)) r;
      }
      all (rises {p = p} {x = x} {s = m} {w = v} k' i' h hn b row) e c r =
          let z = is_net.one_node x r.0 k' r.1 i' r.2 hn in
          let d = subst (λ i. Carries N (up k' i m c) v fin) z.1
          (subst (λ k. Carries N (up k r.1 m c) v fin) z.0 r.4) in
          record {
            going = rising x m c k' i' h hn b v (all row e (up k' i' m c) d);
            past_f = λ o.
                let n = slot_number x g (suc m) 0 (from_f p (slot x (suc m)) o h) in
                absurd (omega arith);
            past_g = λ o.
                let n = slot_number x f (suc m) 0 (from_g p (slot x (suc m)) o h) in
                absurd (omega arith);
          }
      all (falls {p = p} {x = x} {s = m} {w = v} k' i' h hn b row) e c r =
          let ih = all row e r.4 r.6 in
          record {
            going = falling x m k' i' h hn b v ih.going;
            past_f = λ o. beyond g l j faces.second x m r.0 r.1 r.4 c v r.2 r.3 r.5
                (slot_node x g 0 0 (from_f p (slot x 0) o h)) ih.going;
            past_g = λ o. beyond f k i faces.first x m r.0 r.1 r.4 c v r.2 r.3 r.5
                (slot_node x f 0 0 (from_g p (slot x 0) o h)) ih.going;
          }

      pub toward : {p q : NamedPort A} {v : List (Crossing A)} → Row N p v q → q ≡ slot y 0 →
          (c : Context) → Carries N c v fin → (u : Vertex A) → AtHere u p →
          Real N f g k i l j a born u → IsPort M (name u) → Made (name u) v
      toward {p} {q} {v} row e c r u at real port = on_from u p at real port v (all row e c r).going
