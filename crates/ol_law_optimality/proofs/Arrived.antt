-- A walk over a term's net that comes to an application or an abstraction is at its site.
use Rattle.std.proofs.Common.{◌≡◌, ℕ, zero, suc, ◌+◌, ◌<◌, true, ◌⊎◌, inl, inr, refl, sym, ◌∙◌, arith, subst}
use Rattle.ol_term.specs.declared.translations.Translation.{Translation}
use Rattle.ol_term.specs.Trees.{Tree, var, lam, app, has_name}
use Rattle.ol_term.specs.Trees as trees
use Rattle.ol_net.specs.declared.parts.Kind.{Kind}
use Rattle.ol_net.specs.declared.parts.Kind.TheVariants as kind
use Rattle.ol_net.specs.Nets.{NamedPort, NamedNet, HasNode, Linked, free, slot}
use Rattle.ol_net.specs.Numbered.{numbered_port}
use Rattle.ol_context.specs.Contexts.{Level, Context, cons, tail}
use Rattle.ol_context.specs.Ways.{Way, start, on}
use Rattle.ol_rules.proofs.FreshPairs.{linked_sym}
use Rattle.ol_translate.specs.Translation.{subnet_of, translation_of}
use Rattle.ol_translate.specs.Names.{HasNames}
use Rattle.ol_law_meaning.specs.Sites.{Site, PartAt, function_at, depth, context_at}
use Rattle.ol_law_meaning.specs.Spots.{name, occurs, Spot, at, place, Edge, Trail, here}
use Rattle.ol_law_meaning.proofs.Down.{at_root, at_wire}
use Rattle.ol_law_meaning.proofs.Followed.{St, Rests, net, goes_up, at_end, next_of}
use Rattle.ol_law_meaning.proofs.Parts.{wire_there}
use Rattle.ol_law_meaning.proofs.States.{L}
use Rattle.ol_law_meaning.proofs.Trails.{tr_trans}
use Rattle.ol_law_meaning.proofs.Up.{AtFunction}
use Rattle.ol_law_meaning.proofs.Whole.{has_part, end_links, name_link}
use Rattle.ol_law_optimality.proofs.Principals.{AtAbstraction, Principal, principal}

-- the application node x, with context d at its principal port, is at a site
pub record Application (τ : Translation) (t : Tree) (names : ℕ) (x : ℕ) (d : Context) : Type 0 where
  pub site : Site
  pub function : Tree
  pub argument : Tree
  pub is : PartAt t site (app function argument)
  pub level : Level
  pub later : Context
  pub same : d ≡ context_at site (cons level later)
  pub index : HasNode (translation_of τ t names) x kind.App (depth site)
  pub port : NamedPort ℕ
  pub linked : Linked (translation_of τ t names) (slot x 0) port

module _ (τ : Translation) (t : Tree) (names : ℕ) (h : HasNames t names) where
  abbrev N : NamedNet ℕ
  N = translation_of τ t names

  abbrev T : Spot → Spot → ℕ → Type 0
  T = Trail (Edge τ t)

  follow_way : {p : NamedPort ℕ} {c : Context} {n : ℕ} {u : NamedPort ℕ} {d : Context} →
      Way N p c n u d → (z : Spot) → Rests τ t names h z (p, c) →
      (z' : Spot) × (m : ℕ) × T z z' m × Rests τ t names h z' (u, d)
  follow_way start z r = (z, 0, here, r)
  follow_way (on {u = u} {d = d} {e = e} {x = x} {k = K} {i = i} {s = s} {t = r} w l hn cr) z st =
      let a = follow_way w z st in
      let b = next_of τ t names h a.0 u d e x s i r K a.3 l hn cr in
      (b.0, _, tr_trans a.2 b.1 refl, b.2)

  one_kind : (x i j : ℕ) (K J : Kind) → HasNode N x K i → HasNode N x J j → K ≡ J
  one_kind x i j K J a b = ((net τ t names h).one_node x K J i j a b).0

  no_control : (x i : ℕ) → HasNode N x kind.App i →
      (K : Kind) × (j : ℕ) × HasNode N x K j × (K ≡ kind.Lam → ⊥) × (K ≡ kind.App → ⊥) → ⊥
  no_control x i a c = c.4 (one_kind x c.1 i c.0 kind.App c.2 a)

  no_lam_control : (x i : ℕ) → HasNode N x kind.Lam i →
      (K : Kind) × (j : ℕ) × HasNode N x K j × (K ≡ kind.Lam → ⊥) × (K ≡ kind.App → ⊥) → ⊥
  no_lam_control x i a c = c.3 (one_kind x c.1 i c.0 kind.Lam c.2 a)

  apart : (x i j : ℕ) → HasNode N x kind.App i → HasNode N x kind.Lam j → ⊥
  apart x i j a b = let q = one_kind x i j kind.App kind.Lam a b in cc

  no_free : {f x s : ℕ} → ◌≡◌ {A = NamedPort ℕ} (free f) (slot x s) → ⊥
  no_free e = cc

  -- where a spot stands beside a principal port
  beside : (z : Spot) (p : NamedPort ℕ) (c : Context) (x : ℕ) → St τ t names h z (p, c) →
      Linked N p (slot x 0) → AtFunction τ N t 0 0 0 (λ c. c) z (p, c) x
  beside z p c x st l = elim (goes_up τ t names h z (p, c) st) [
    | inl e ↦ (let E = at_end τ t names h e.place_is e.level e.later (p, c) e.stands in
        absurd (no_free ((net τ t names h).one_link p (free E.0) (slot x 0) (linked_sym N (free E.0) p E.2) l)))
    | inr T ↦ T.application x ((net τ t names h).one_link p T.next (slot x 0) T.linked l)
  ]

  at_principal : (z : Spot) (x : ℕ) (c : Context) → St τ t names h z (slot x 0, c) →
      Principal τ N t 0 0 0 (λ c. c) z (slot x 0, c) x
  at_principal z x c st = principal τ N t 0 0 0 (λ c. c) h.bound (has_part τ t names h) z (slot x 0, c) st x refl

  -- no spot stands at an application's principal port
  not_there : (z : Spot) (x i : ℕ) (c : Context) → HasNode N x kind.App i → St τ t names h z (slot x 0, c) → ⊥
  not_there z x i c a st = by (at_principal z x c st)
    where
      by : Principal τ N t 0 0 0 (λ c. c) z (slot x 0, c) x → ⊥
      by (inl k) = no_control x i a k
      by (inr k) = apart x i (0 + depth k.site) a k.there

  pub record Come (z : Spot) (x : ℕ) (c : Context) : Type 0 where
    pub at_site : Application τ t names x c
    pub weight : ℕ
    pub trail : T z (function_at at_site.site at_site.level at_site.later) weight
    pub stands : (w : Level) (e : Context) →
        St τ t names h (function_at at_site.site w e) (at_site.port, context_at at_site.site (cons w e))

  come : (z : Spot) (p : NamedPort ℕ) (c : Context) (x : ℕ) → Linked N p (slot x 0) →
      AtFunction τ N t 0 0 0 (λ c. c) z (p, c) x → Come z x c
  come z p c x l r = record {
    at_site = record {
      site = r.site;
      function = r.function;
      argument = r.argument;
      is = r.is;
      level = r.level;
      later = r.later;
      same = r.same;
      index = subst (λ i. HasNode N x kind.App i) (let g : 0 + depth r.site ≡ depth r.site = omega arith in g) r.there;
      port = p;
      linked = linked_sym N p (slot x 0) l;
    };
    weight = 0;
    trail = r.trail;
    stands = r.stands;
  }

  -- a walk that comes to an application
  arrives : (z : Spot) (p : NamedPort ℕ) (c : Context) (x i : ℕ) → Rests τ t names h z (p, c) →
      HasNode N x kind.App i → Linked N p (slot x 0) ⊎ (p ≡ slot x 0) → Come z x c
  arrives z p c x i (inl (inl st)) a (inl l) = come z p c x l (beside z p c x st l)
  arrives z p c x i (inl (inr (y, l', st))) a (inl l) =
      let e = (net τ t names h).one_link p y (slot x 0) l' l in
      absurd (not_there z x i c a (subst (λ y. St τ t names h z (y, c)) e st))
  arrives z p c x i (inr (y, l', T, f, g)) a (inl l) = absurd
      (no_control x i a (g x ((net τ t names h).one_link p y (slot x 0) l' l)))
  arrives z p c x i (inl (inl st)) a (inr e) = absurd (not_there z x i c a (subst (λ y. St τ t names h z (y, c)) e st))
  arrives z p c x i (inl (inr (y, l', st))) a (inr e) =
      let l = linked_sym N (slot x 0) y (subst (λ p. Linked N p y) e l') in
      come z y c x l (beside z y c x st l)
  arrives z p c x i (inr (y, l', T, f, g)) a (inr e) = absurd (no_control x i a (f x e))

  -- and to an abstraction, from outside
  pub arrives_at_lam : (z : Spot) (p : NamedPort ℕ) (c : Context) (y j : ℕ) →
      Rests τ t names h z (p, c) → HasNode N y kind.Lam j → Linked N p (slot y 0) →
      AtAbstraction τ N t 0 0 0 (λ c. c) z (slot y 0, c) y
  arrives_at_lam z p c y j (inl (inl st)) a l = let r = beside z p c y st l in
      absurd (apart y (0 + depth r.site) j r.there a)
  arrives_at_lam z p c y j (inl (inr (q, l', st))) a l =
      by (at_principal z y c (subst (λ q. St τ t names h z (q, c)) ((net τ t names h).one_link p q (slot y 0) l' l) st))
    where
      by : Principal τ N t 0 0 0 (λ c. c) z (slot y 0, c) y → AtAbstraction τ N t 0 0 0 (λ c. c) z (slot y 0, c) y
      by (inl k) = absurd (no_lam_control y j a k)
      by (inr k) = k
  arrives_at_lam z p c y j (inr (q, l', T, f, g)) a l = absurd
      (no_lam_control y j a (g y ((net τ t names h).one_link p q (slot y 0) l' l)))

  -- from a free port
  name_occurs : (f : ℕ) (u : Tree) → has_name f u ≡ occurs (name f) u
  name_occurs f (var v) = refl
  name_occurs f (trees.free g) = refl
  name_occurs f (lam u) = name_occurs f u
  name_occurs f (app u v) = rw (name_occurs f u, name_occurs f v) refl

  begins_at : (p : ℕ) (c : Context) (q : NamedPort ℕ) → Linked N (free p) q →
      Rests τ t names h (at (place p) (c 0) (tail c)) (free p, c)
  begins_at zero c q l = inl (inr (
    numbered_port (subnet_of τ t 0 0 0).root,
    (end_links τ t names h).0,
    at_root τ N t 0 0 0 (λ c. c) c,
  ))
  begins_at (suc f) c q l =
      let b : suc f < 1 + names = ((net τ t names h).of_ports (free (suc f)) q l).0 in
      let there : occurs (name f) t ≡ true = sym (name_occurs f t) ∙ h.each f (omega arith) in
      let W = wire_there τ t (name f) 0 0 0 h.bound there in
      let k = name_link (L N) (0 + f) W.0 (subnet_of τ t 0 0 0).wires W.1 (end_links τ t names h).1 in
      let n : 0 + f + 1 ≡ suc f = omega arith in
      inl (inr (
        numbered_port W.0,
        subst (λ n. Linked N (free n) (numbered_port W.0)) n k,
        at_wire τ N t (name f) 0 0 0 (λ c. c) c W.0 W.1 there,
      ))

  linked_first : {p : ℕ} {c : Context} {n : ℕ} {u : NamedPort ℕ} {d : Context} (v : NamedPort ℕ) →
      Way N (free p) c n u d → Linked N u v → (q : NamedPort ℕ) × Linked N (free p) q
  linked_first v start l = (v, l)
  linked_first v (on {x = y} {s = s} w k hn z) l = linked_first (slot y s) w k

  first_link : {p n x : ℕ} {c d : Context} {u : NamedPort ℕ} → Way N (free p) c n u d →
      Linked N u (slot x 0) ⊎ (u ≡ slot x 0) → (q : NamedPort ℕ) × Linked N (free p) q
  first_link {x = x} w (inl l) = linked_first (slot x 0) w l
  first_link start (inr e) = absurd (no_free e)
  first_link (on {x = y} {s = s} w l hn z) (inr e) = linked_first (slot y s) w l

  pub from_port : {p n : ℕ} {c d : Context} {u : NamedPort ℕ} (x i : ℕ) → Way N (free p) c n u d →
      HasNode N x kind.App i → Linked N u (slot x 0) ⊎ (u ≡ slot x 0) → Come (at (place p) (c 0) (tail c)) x d
  from_port {p = p} {c = c} {d = d} {u = u} x i w a e =
      let l = first_link {x = x} w e in
      let r = follow_way w (at (place p) (c 0) (tail c)) (begins_at p c l.0 l.1) in
      let k = arrives r.0 u d x i r.3 a e in
      record { at_site = k.at_site; weight = r.1 + k.weight; trail = tr_trans r.2 k.trail refl; stands = k.stands }

  -- from an application's function
  pub from_function : {n : ℕ} {d : Context} {u : NamedPort ℕ} {z : Spot} {b : Context} (x y j : ℕ)
      (k : Come z x b) (v : Level) (c : Context) →
      Way N (slot x 0) (context_at k.at_site.site (cons v c)) n u d → HasNode N y kind.Lam j → Linked N u (slot y 0) →
      (z' : Spot) × (m : ℕ) × T (function_at k.at_site.site v c) z' m
      × AtAbstraction τ N t 0 0 0 (λ c. c) z' (slot y 0, d) y
  from_function {d = d} {u = u} x y j k v c w a l =
      let r = follow_way w (function_at k.at_site.site v c)
      (inl (inr (k.at_site.port, k.at_site.linked, k.stands v c))) in
      (r.0, r.1, r.2, arrives_at_lam r.0 u d y j r.3 a l)
