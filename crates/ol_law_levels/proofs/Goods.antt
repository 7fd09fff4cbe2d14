-- What may stand as the value of a box, as the value of a wire, and on a stack; that it stays so where more gets known.
use Rattle.std.proofs.Common.{◌≡◌, ℕ, suc, ◌<◌, [], ◌∷◌, length, refl, sym, ap, subst, arith}
use Rattle.ol_law_edges.proofs.Joining.{joined_trans}
use Rattle.ol_law_edges.specs.Edges.{here, on, back}
use Rattle.ol_law_levels.specs.Levels.{IsLevelled}
use Rattle.ol_net.specs.Nets.{NamedPort, slot, NamedNet, HasNode, Linked, IsNet}
use Rattle.ol_net.specs.declared.parts.Kind.{Kind}
use Rattle.ol_net.specs.declared.parts.Kind.TheVariants as kind
use Rattle.ol_law_levels.proofs.Lines.{Stack, IsPole, is_lam, is_app, node, own, box, cross, Meet}
use Rattle.ol_law_levels.proofs.Lines.{meet_filled, Refs, ref_self, refined, ends}
use Rattle.ol_law_levels.proofs.Patterns.{Pat, any, hole, nil, oo, ss, pp, osp, raised}

-- v as the value of the box of application q, or on the wire whose inner end is p, with these values round it
pub data Claim (A : Type 0) : Type 0 where
  box_of : A → Stack → Pat → Claim A
  wire_of : NamedPort A → Stack → Pat → Claim A

abbrev pub round : {A : Type 0} → Claim A → Stack
round (box_of q a v) = a
round (wire_of p a v) = a

abbrev pub within : {A : Type 0} → Claim A → Stack → Claim A
within (box_of q a v) b = box_of q b v
within (wire_of p a v) b = wire_of p b v

-- boxes x i is the application whose argument is box i round node x
module _ {A : Type 0} (N : NamedNet A) (boxes : A → ℕ → A) where
  pub data Good : Claim A → Type 0 where
    unknown : {q : A} {a : Stack} → Good (box_of q a any)
    met : {q : A} {a : Stack} {v : Pat} (r : A) (b : Stack) (p : NamedPort A) (j : ℕ) → HasNode N r kind.Lam j →
        Meet N (slot q 0, a, hole ∷ []) (slot r 0, b, hole ∷ []) → Linked N (slot r 2) p → Good (wire_of p b v) →
        Good (box_of q a v)
    unread : {p : NamedPort A} {a : Stack} → Good (wire_of p a any)
    at_croissant : {x : A} {a : Stack} (i : ℕ) → HasNode N x kind.Croissant i → Good (wire_of (slot x 0) a nil)
    at_fan_o : {x : A} {a : Stack} {v : Pat} (i : ℕ) (p : NamedPort A) → HasNode N x kind.Fan i →
        Linked N (slot x 1) p → Good (wire_of p a v) → Good (wire_of (slot x 0) a (oo v))
    at_fan_s : {x : A} {a : Stack} {v : Pat} (i : ℕ) (p : NamedPort A) → HasNode N x kind.Fan i →
        Linked N (slot x 2) p → Good (wire_of p a v) → Good (wire_of (slot x 0) a (ss v))
    at_bracket : {x : A} {a : Stack} {v w : Pat} (i : ℕ) (p : NamedPort A) → HasNode N x kind.Bracket i →
        Linked N (slot x 1) p → Good (box_of (boxes x i) a v) → Good (wire_of p (v ∷ a) w) →
        Good (wire_of (slot x 0) a (pp w v))
    at_app : {x : A} {a : Stack} {v : Pat} (i : ℕ) → HasNode N x kind.App i → Good (box_of x a v) →
        Good (wire_of (slot x 2) a v)
    at_eraser : {x : A} {a : Stack} {v : Pat} (i : ℕ) → HasNode N x kind.Eraser i → Good (wire_of (slot x 0) a v)

  pub good_refined : {c : Claim A} → Good c → (b : Stack) → Refs (round c) b → Good (within c b)
  good_refined unknown b h = unknown
  good_refined (met {q = q} {a = a} r e p j n m l g) b h =
      let t = refined N (slot q 0) a (hole ∷ []) r e m b h in met r t.0 p j n t.2 l (good_refined g t.0 t.1)
  good_refined unread b h = unread
  good_refined (at_croissant i n) b h = at_croissant i n
  good_refined (at_fan_o i p n l g) b h = at_fan_o i p n l (good_refined g b h)
  good_refined (at_fan_s i p n l g) b h = at_fan_s i p n l (good_refined g b h)
  good_refined (at_bracket {v = v} i p n l g g') b h =
      at_bracket i p n l (good_refined g b h) (good_refined g' (v ∷ b) (ref_self v, h))
  good_refined (at_app i n g) b h = at_app i n (good_refined g b h)
  good_refined (at_eraser i n) b h = at_eraser i n

  -- the values of the boxes round a place
  abbrev pub Addr : (ℕ → A) → Stack → Type 0
  Addr E [] = Unit {0}
  Addr E (v ∷ a) = Good (box_of (E (length a)) a v) × Addr E a

  pub addr_agree : (E E' : ℕ → A) (a : Stack) → ((i : ℕ) → i < length a → E i ≡ E' i) → Addr E a → Addr E' a
  addr_agree E E' [] h g = tt
  addr_agree E E' (v ∷ a) h g = (
    subst (λ q. Good (box_of q a v)) (h (length a) (omega arith)) g.0,
    addr_agree E E' a (λ i b. h i (omega (arith, b))) g.1,
  )

  -- v is good as what node z, an abstraction or an application, puts on the stack
  pub data Put (z : A) (e : Stack) (v : Pat) : Type 0 where
    by_app : (i : ℕ) → HasNode N z kind.App i → Good (box_of z e v) → Put z e v
    by_lam : (i : ℕ) (p : NamedPort A) → HasNode N z kind.Lam i → Linked N (slot z 2) p → Good (wire_of p e v) →
        Put z e v

  put_refined : (z : A) (e : Stack) (v : Pat) → Put z e v → (e' : Stack) → Refs e e' → Put z e' v
  put_refined z e v (by_app i h g) e' r = by_app i h (good_refined g e' r)
  put_refined z e v (by_lam i p h l g) e' r = by_lam i p h l (good_refined g e' r)

  -- a stack at a port, with the values round it
  pub data Stacked : NamedPort A → Stack → Stack → Type 0 where
    s_nil : {p : NamedPort A} {a r : Stack} → r ≡ [] → Stacked p a r
    s_top : {p : NamedPort A} {a r : Stack} (k : ℕ) → r ≡ osp k any ∷ [] → Stacked p a r
    s_some : {p : NamedPort A} {a r : Stack} (k : ℕ) (v : Pat) (q : Stack) (z : A) (e : Stack) →
        r ≡ osp k (ss v) ∷ q → Meet N (p, a, osp k hole ∷ []) (slot z 0, e, hole ∷ []) → Put z e v →
        Stacked (slot z 2) (v ∷ e) q → Stacked p a r

  pub stacked_moved : (p q : NamedPort A) (a b r : Stack) →
      ((k : ℕ) → Meet N (q, b, osp k hole ∷ []) (p, a, osp k hole ∷ [])) → Stacked p a r → Stacked q b r
  stacked_moved p q a b r m (s_nil e) = s_nil e
  stacked_moved p q a b r m (s_top k e) = s_top k e
  stacked_moved p q a b r m (s_some k v t z e i l g s) = s_some k v t z e i (joined_trans (m k) l) g s

  pub stacked_refined : (p : NamedPort A) (a r : Stack) → Stacked p a r → (b : Stack) → Refs a b → Stacked p b r
  stacked_refined p a r (s_nil e) b h = s_nil e
  stacked_refined p a r (s_top k e) b h = s_top k e
  stacked_refined p a r (s_some k v t z e i l g s) b h =
      let o = refined N p a (osp k hole ∷ []) z e l b h in
      s_some k v t z o.0 i o.2 (put_refined z e v g o.0 o.1)
      (stacked_refined (slot z 2) (v ∷ e) t s (v ∷ o.0) (ref_self v, o.1))

  -- an o put on the stack
  pub stacked_raised : (x : A) (K : Kind) (i : ℕ) → IsPole K → HasNode N x K i → (a r : Stack) →
      Stacked (slot x 1) a r → Stacked (slot x 0) a (raised r)
  stacked_raised x K i p h a r (s_nil e) = s_top 1 (ap raised e)
  stacked_raised x K i p h a r (s_top k e) = s_top (suc k) (ap raised e)
  stacked_raised x K i p h a r (s_some k v t z e q l g s) =
      s_some (suc k) v t z e (ap raised q) (joined_trans (on here (cross (node i h (own p)))) l) g s

  -- and a star
  pub stacked_starred : (x : A) (a r : Stack) (v : Pat) → Put x a v → Stacked (slot x 2) (v ∷ a) r →
      Stacked (slot x 0) a (ss v ∷ r)
  stacked_starred x a r v g s = s_some 0 v r x a refl here g s

  -- what is taken from the stack where another node put it
  module _ (is_net : IsNet N) (L : IsLevelled N) where
    take_lam : (x : A) (i : ℕ) → HasNode N x kind.Lam i → (a : Stack) (z : A) (e : Stack) (v : Pat) →
        Meet N (slot x 0, a, hole ∷ []) (slot z 0, e, hole ∷ []) → {c : Claim A} → Good c → c ≡ box_of z e v →
        Put x a v
    take_lam x i h a z e v m (unknown {q = q} {a = b}) c =
        let same : any ≡ v = cc in
        let t = is_net.some_link (slot x 2) (kind.Lam, i, h, omega arith) in
        subst (λ v. Put x a v) same (by_lam i t.0 h t.1 unread)
    take_lam x i h a z e v m (met {q = q} {a = b} {v = w} r d p j n m' l g) c =
        let eq : q ≡ z = cc in
        let eb : b ≡ e = cc in
        let ev : w ≡ v = cc in
        let m2 : Meet N (slot z 0, e, hole ∷ []) (slot r 0, d, hole ∷ []) =
        subst (λ q. Meet N (slot q 0, e, hole ∷ []) (slot r 0, d, hole ∷ [])) eq
        (subst (λ b. Meet N (slot q 0, b, hole ∷ []) (slot r 0, d, hole ∷ [])) eb m') in
        let o = ends N is_net L kind.Lam x r i j a d is_lam h n (joined_trans m m2) in
        by_lam i p h (subst (λ r. Linked N (slot r 2) p) (sym o.0) l)
        (subst (λ d. Good (wire_of p d v)) (sym o.1) (subst (λ w. Good (wire_of p d w)) ev g))
    take_lam x i h a z e v m unread c = absurd (cc)
    take_lam x i h a z e v m (at_croissant i' n) c = absurd (cc)
    take_lam x i h a z e v m (at_fan_o i' p n l g) c = absurd (cc)
    take_lam x i h a z e v m (at_fan_s i' p n l g) c = absurd (cc)
    take_lam x i h a z e v m (at_bracket i' p n l g g') c = absurd (cc)
    take_lam x i h a z e v m (at_app i' n g) c = absurd (cc)
    take_lam x i h a z e v m (at_eraser i' n) c = absurd (cc)

    pub taken : (x : A) (K : Kind) (i : ℕ) → IsPole K → HasNode N x K i → (a : Stack) (z : A) (e : Stack) (v : Pat) →
        Meet N (slot x 0, a, hole ∷ []) (slot z 0, e, hole ∷ []) → Put z e v → Put x a v
    taken x K i is_app h a z e v m (by_app j n g) =
        let o = ends N is_net L kind.App x z i j a e is_app h n m in
        subst (λ x. Put x a v) (sym o.0) (subst (λ a. Put z a v) (sym o.1) (by_app j n g))
    taken x K i is_app h a z e v m (by_lam j p n l g) = by_app i h (met z e p j n m l g)
    taken x K i is_lam h a z e v m (by_app j n g) = take_lam x i h a z e v m g refl
    taken x K i is_lam h a z e v m (by_lam j p n l g) =
        let o = ends N is_net L kind.Lam x z i j a e is_lam h n m in
        subst (λ x. Put x a v) (sym o.0) (subst (λ a. Put z a v) (sym o.1) (by_lam j p n l g))

    -- the stack after that
    pub stacked_taken : (x : A) (K : Kind) (i : ℕ) → IsPole K → HasNode N x K i → (a : Stack) (z : A) (K' : Kind)
        (j : ℕ) → IsPole K' → HasNode N z K' j → (e : Stack) (v : Pat) (r : Stack) →
        Meet N (slot x 0, a, hole ∷ []) (slot z 0, e, hole ∷ []) → Stacked (slot z 2) (v ∷ e) r →
        Stacked (slot x 2) (v ∷ a) r
    stacked_taken x K i p h a z K' j p' h' e v r m s =
        stacked_moved (slot z 2) (slot x 2) (v ∷ e) (v ∷ a) r
        (λ k. on (joined_trans (back here (cross (node i h (box p)))) (meet_filled N (ss v) (osp k hole ∷ []) m))
        (cross (node j h' (box p')))) s
