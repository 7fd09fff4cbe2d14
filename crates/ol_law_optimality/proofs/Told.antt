-- A virtual redex on a walk of a labelled term's net reads the word of its site.
use Rattle.std.proofs.Common.{◌≡◌, ℕ, zero, suc, ◌<◌, ◌+◌, List, [], ◌∷◌, length, Option, Some, refl, sym, ap, ◌∙◌}
use Rattle.std.proofs.Common.{subst, arith}
use Rattle.ol_context.proofs.Contexts.{eta}
use Rattle.ol_context.specs.Contexts.{Level, empty, Context, cons, up}
use Rattle.ol_law_edges.specs.Edges.{Joined}
use Rattle.ol_law_edges.specs.Edges as edges
use Rattle.ol_law_edges.proofs.Joining.{joined_trans}
use Rattle.ol_law_optimality.specs.Met.{blank}
use Rattle.ol_law_optimality.proofs.Keys.{levels_of, as_put, as_long}
use Rattle.ol_law_optimality.proofs.SitesSeen.{IsNamed, MetAt}
use Rattle.ol_invariance.proofs.WrongTables.{at_its_level}
use Rattle.ol_net.specs.Nets.{NamedPort, slot, NamedNet, HasNode, Linked, IsNet, port_under}
use Rattle.ol_net.specs.Numbered.{numbered_port}
use Rattle.ol_net.specs.Parts.{arity}
use Rattle.ol_net.specs.declared.parts.Kind.{Kind}
use Rattle.ol_net.specs.declared.parts.Kind.TheVariants as kind
use Rattle.ol_law_optimality.specs.Labels.{none, atom, Labelled, erased}
use Rattle.ol_law_optimality.specs.Redexes.{Carries, put, IsVirtualRedex}
use Rattle.ol_law_optimality.specs.Routes.{Crossing, rise, fall, Row, along, rises, falls, Route, HasRoute}
use Rattle.ol_law_optimality.proofs.Carrying.{rise_at, fall_at}
use Rattle.ol_context.proofs.LeafMoves.{marked_empty}
use Rattle.ol_law_optimality.proofs.Puts.{above}
use Rattle.ol_rules.proofs.FreshPairs.{linked_sym}
use Rattle.ol_rules.proofs.Renaming.{one_port}
use Rattle.ol_law_meaning.proofs.Followed.{net}
use Rattle.ol_law_meaning.proofs.States.{S}
use Rattle.ol_law_meaning.proofs.Whole.{has_part}
use Rattle.ol_law_meaning.specs.Sites.{depth, context_at}
use Rattle.ol_term.specs.declared.translations.Translation.{Translation}
use Rattle.ol_translate.specs.Names.{HasNames}
use Rattle.ol_translate.specs.Translation.{translation_of}
use Rattle.ol_law_optimality.specs.Readings.{function_label, word_along, word_of, moved, AreAlike}
use Rattle.ol_law_optimality.specs.Signs.{letter_of, Signs, onward, signs_of, Signed, nothing, shared_up, shared_down}
use Rattle.ol_law_optimality.specs.Signs.{to_function, from_function, to_body, from_body, from_variable, to_variable}
use Rattle.ol_law_optimality.specs.Signs.{to_argument, from_argument}
use Rattle.ol_law_optimality.proofs.Phases.{HaveLetters}
use Rattle.ol_law_optimality.proofs.Hearing.{AreLettered, Heard, linked, lam_at, function_is, trail_heard}
use Rattle.ol_law_optimality.proofs.Motions.{moved_append}
use Rattle.ol_law_optimality.proofs.Routes.{routes_told}
use Rattle.ol_law_optimality.proofs.Saying.{Bars, row_is_heard}

-- ---- each row is signed

module _ {A : Type 0} (N : NamedNet A) (letter : A → ℕ → ℕ) where
  signed_up : (k : Kind) (i : ℕ) (x : A) (s : ℕ) {w : List (Crossing A)} {a : Signs} → HasNode N x k i → s < arity k →
      Signed N letter w a → (b : Signs) × Signed N letter (rise x s ∷ w) b
  signed_up kind.App i x zero h low S = (_, to_function (i, h) S)
  signed_up kind.App i x (suc zero) h low S = (_, from_argument (i, h) S)
  signed_up kind.App i x (suc (suc s)) h low S = absurd (omega arith)
  signed_up kind.Lam i x zero h low S = (_, from_body (i, h) S)
  signed_up kind.Lam i x (suc zero) h low S = (_, from_variable (i, h) S)
  signed_up kind.Lam i x (suc (suc s)) h low S = absurd (omega arith)
  signed_up kind.Fan i x s h low S = (_, shared_up kind.Fan (i, h) (λ e. absurd (cc)) (λ e. absurd (cc)) S)
  signed_up kind.Croissant i x s h low S = (_, shared_up kind.Croissant (i, h) (λ e. absurd (cc)) (λ e. absurd (cc)) S)
  signed_up kind.Bracket i x s h low S = (_, shared_up kind.Bracket (i, h) (λ e. absurd (cc)) (λ e. absurd (cc)) S)
  signed_up kind.Eraser i x s h low S = (_, shared_up kind.Eraser (i, h) (λ e. absurd (cc)) (λ e. absurd (cc)) S)

  signed_down : (k : Kind) (i : ℕ) (x : A) (s : ℕ) {w : List (Crossing A)} {a : Signs} → HasNode N x k i → s < arity k →
      Signed N letter w a → (b : Signs) × Signed N letter (fall x s ∷ w) b
  signed_down kind.App i x zero h low S = (_, from_function (i, h) S)
  signed_down kind.App i x (suc zero) h low S = (_, to_argument (i, h) S)
  signed_down kind.App i x (suc (suc s)) h low S = absurd (omega arith)
  signed_down kind.Lam i x zero h low S = (_, to_body (i, h) S)
  signed_down kind.Lam i x (suc zero) h low S = (_, to_variable (i, h) S)
  signed_down kind.Lam i x (suc (suc s)) h low S = absurd (omega arith)
  signed_down kind.Fan i x s h low S = (_, shared_down kind.Fan (i, h) (λ e. absurd (cc)) (λ e. absurd (cc)) S)
  signed_down kind.Croissant i x s h low S = (
    _,
    shared_down kind.Croissant (
      i,
      h,
    ) (λ e. absurd (cc)) (λ e. absurd (cc)) S,
  )
  signed_down kind.Bracket i x s h low S = (_, shared_down kind.Bracket (i, h) (λ e. absurd (cc)) (λ e. absurd (cc)) S)
  signed_down kind.Eraser i x s h low S = (_, shared_down kind.Eraser (i, h) (λ e. absurd (cc)) (λ e. absurd (cc)) S)

  row_signed : {p q : NamedPort A} {w : List (Crossing A)} → Row N p w q → (a : Signs) × Signed N letter w a
  row_signed (along l) = ([], nothing)
  row_signed (rises {x = x} {s = s} k i l h low r) = signed_up k i x s h low (row_signed r).1
  row_signed (falls {x = x} {s = s} k i l h low r) = signed_down k i x s h low (row_signed r).1

-- ---- a route under other names

abbrev pub row_under : {B : Type 0} → (ℕ → B) → List (Crossing ℕ) → List (Crossing B)
row_under m [] = []
row_under m (rise x s ∷ w) = rise (m x) s ∷ row_under m w
row_under m (fall x s ∷ w) = fall (m x) s ∷ row_under m w

abbrev pub route_under : {B : Type 0} → (ℕ → B) → Route ℕ → Route B
route_under m s = record { from = m s.from; row = row_under m s.row; to = m s.to }

module _ {B : Type 0} (m : ℕ → B) (N : NamedNet ℕ) (M : NamedNet B) (n : IsNet M) (I : IsNamed m N M) where
  link_named : (P : NamedPort B) (p q : NamedPort ℕ) (Q : NamedPort B) → P ≡ port_under m p →
      Q ≡ port_under m q → Linked M P Q → Linked N p q
  link_named P p q Q e f l =
      let t = I.links P Q l in
      subst (λ q. Linked N p q) (one_port m I.one t.1 q (sym t.3 ∙ f))
      (subst (λ p. Linked N p t.1) (one_port m I.one t.0 p (sym t.2 ∙ e)) t.4)

  row_named : {P Q : NamedPort B} {w : List (Crossing B)} {c d : Context} → Row M P w Q → Carries M c w d →
      (p q : NamedPort ℕ) → P ≡ port_under m p → Q ≡ port_under m q →
      (v : List (Crossing ℕ)) × Row N p v q × Carries N c v d × (w ≡ row_under m v)
  row_named {P} {Q} (along l) t p q e f = ([], along (link_named P p q Q e f l), t, refl)
  row_named {P} {Q} {c = c} {d = d} (rises {x = X} {s = s} {w = w} k i l h low r) t p q e f =
      let x = I.nodes X k i h in
      let z = rise_at M n X k i h s w c d t in
      let o = row_named r z.1 (slot x.0 0) q (ap (λ x. slot x 0) x.2) f in (
        rise x.0 s ∷ o.0,
        rises k i (link_named P p (slot x.0 (suc s)) (slot X (suc s)) e (ap (λ x. slot x (suc s)) x.2) l) x.1 low o.1,
        (k, i, x.1, low, o.2),
        ap (λ x. rise x s ∷ w) x.2 ∙ ap (λ w. rise (m x.0) s ∷ w) o.3,
      )
  row_named {P} {Q} {c = c} {d = d} (falls {x = X} {s = s} {w = w} k i l h low r) t p q e f =
      let x = I.nodes X k i h in
      let z = fall_at M n X k i h s w c d t in
      let o = row_named r z.3 (slot x.0 (suc s)) q (ap (λ x. slot x (suc s)) x.2) f in (
        fall x.0 s ∷ o.0,
        falls k i (link_named P p (slot x.0 0) (slot X 0) e (ap (λ x. slot x 0) x.2) l) x.1 low o.1,
        (k, i, x.1, low, z.1, z.2, o.2),
        ap (λ x. fall x s ∷ w) x.2 ∙ ap (λ w. fall (m x.0) s ∷ w) o.3,
      )

-- ---- an empty level lets nothing in

module _ (N : NamedNet ℕ) (n : IsNet N) (letter : ℕ → ℕ → ℕ) where
  pub bars_lam : (y j : ℕ) → HasNode N y kind.Lam j → (vs : List Level) → length vs ≡ j → Bars N n letter y (put vs blank)
  bars_lam y j h vs l k i s h' b e = by (n.one_node y kind.Lam k j i h h').0 (n.one_node y kind.Lam k j i h h').1
    where
      by : kind.Lam ≡ k → j ≡ i → ⊥
      by q r =
          let e' : up kind.Lam j s b ≡ put vs blank = subst (λ k. up k j s b ≡ put vs blank)
          (sym q) (subst (λ i. up k i s b ≡ put vs blank) (sym r) e) in
          marked_empty s (b j) (sym (at_its_level j s b) ∙ ap (λ (c : Context). c j) e' ∙ above vs blank j l)

  pub bars_app : (y j : ℕ) → HasNode N y kind.App j → (vs : List Level) → length vs ≡ j → Bars N n letter y (put vs blank)
  bars_app y j h vs l k i s h' b e = by (n.one_node y kind.App k j i h h').0 (n.one_node y kind.App k j i h h').1
    where
      by : kind.App ≡ k → j ≡ i → ⊥
      by q r =
          let e' : up kind.App j s b ≡ put vs blank = subst (λ k. up k j s b ≡ put vs blank)
          (sym q) (subst (λ i. up k i s b ≡ put vs blank) (sym r) e) in
          marked_empty s (b j) (sym (at_its_level j s b) ∙ ap (λ (c : Context). c j) e' ∙ above vs blank j l)

-- ---- the route of a redex that is met

module _ {B : Type 0} (m : ℕ → B) (M : NamedNet B) (n : IsNet M) (τ : Translation) (T : Labelled)
    (names : ℕ) (h : HasNames (erased T) names) (I : IsNamed m (translation_of τ (erased T) names) M)
    (letter : ℕ → ℕ → ℕ) (are : AreLettered τ letter T 0 0 0) where
  abbrev N : NamedNet ℕ
  N = translation_of τ (erased T) names

  abbrev At : (s : Route B) (V : IsVirtualRedex M s) (p : ℕ) (c : Context) → Type 0
  At s V p c = MetAt m M n τ (erased T) names h I s V p c

  pub record IsTold (s : Route B) (word : Signs) : Type 0 where
    pub route : Route ℕ
    pub is : s ≡ route_under m route
    pub has : HasRoute (translation_of τ (erased T) names) route
    pub signs : Signs
    pub signed : Signed (translation_of τ (erased T) names) letter route.row signs
    pub alike : AreAlike (onward (letter_of (letter route.from 0)) ∷ signs) word

  some_one : {u v : S} → ◌≡◌ {A = Option S} (Some u) (Some v) → ◌≡◌ {A = S} u v
  some_one e = cc

  pub told : (s : Route B) (V : IsVirtualRedex M s) (p : ℕ) (c : Context) (a : At s V p c) →
      IsTold s (word_of T a.at_site.site a.comes.matched)
  told s V p c a =
      let NN = translation_of τ (erased T) names in
      let net' = net τ (erased T) names h in
      let site = a.at_site.site in
      let mt = a.comes.matched in
      let y = I.nodes s.to kind.Lam V.route.j V.route.abstraction in
      let R = row_named m NN M n I V.route.row (V.carries blank) (slot a.node 0) (slot y.0 0)
      (ap (λ x. slot x 0) a.from_is) (ap (λ x. slot x 0) y.2) in
      let G = row_signed NN letter R.1 in
      let X = I.nodes s.from kind.App V.route.i V.route.application in
      let node : a.node ≡ X.0 = I.one a.node X.0 (sym a.from_is ∙ X.2) in
      let app : HasNode NN a.node kind.App V.route.i = subst (λ x. HasNode NN x kind.App V.route.i) (sym node) X.1 in
      let first : put V.begin blank ≡ context_at site (cons empty blank) = ap (λ vs. put vs blank) a.begin_is
      ∙ sym (as_put site blank) ∙ ap (context_at site) (sym (eta blank)) in
      let fun = function_is τ NN letter T 0 0 0 (λ c. c) mt.is tt (has_part τ (erased T) names h) are in
      let stood = a.stands empty blank in
      let same : ◌≡◌ {A = S} (numbered_port fun.port, context_at site (cons empty blank))
      (a.at_site.port, context_at site (cons empty blank)) = some_one (sym (fun.is empty blank) ∙ stood.is) in
      let port = ap (λ (u : S). u.0) same in
      let there : slot fun.node 0 ≡ slot a.node 0 = net'.one_link a.at_site.port (slot fun.node 0) (slot a.node 0)
      (subst (λ q. Linked NN q (slot fun.node 0)) port (linked_sym NN (slot fun.node 0)
      (numbered_port fun.port) fun.link))
      (linked_sym NN (slot a.node 0) a.at_site.port a.at_site.linked) in
      let number : fun.node ≡ a.node = cc in
      let label : function_label T site ≡ atom (letter a.node 0) none = fun.label
      ∙ ap (λ x. atom (letter x 0) none) number in
      let H = trail_heard τ T names h letter are mt.trail (
        a.at_site.port,
        context_at site (cons empty blank),
      ) stood.is in
      let L = lam_at τ NN letter 0 0 0 (λ c. c) mt.is_other tt (has_part τ (erased T) names h) in
      let last : ◌≡◌ {A = S} H.0 (slot L.node 0, context_at mt.other (cons empty blank)) = some_one (sym H.1
      ∙ L.is empty blank) in
      let ends : put (levels_of mt.other) blank ≡ context_at mt.other (cons empty blank) = sym (as_put mt.other blank)
      ∙ ap (context_at mt.other) (sym (eta blank)) in
      let long : length (levels_of mt.other) ≡ 0 + depth mt.other = as_long mt.other
      ∙ (let q : depth mt.other ≡ 0 + depth mt.other = omega arith in q) in
      let differ : a.node ≡ L.node → ⊥ = λ e. (let q = (net'.one_node L.node kind.App kind.Lam V.route.i
      (0 + depth mt.other)
      (subst (λ x. HasNode NN x kind.App V.route.i) e app) L.index).0 in absurd (cc)) in
      record {
        route = record { from = a.node; row = R.0; to = y.0 };
        is = ap (λ x. record { from = x; row = s.row; to = s.to }) a.from_is
            ∙ ap (λ w. record { from = m a.node; row = w; to = s.to }) R.3
            ∙ ap (λ x. record { from = m a.node; row = row_under m R.0; to = x }) y.2;
        has = record { i = V.route.i; j = V.route.j; application = app; abstraction = y.1; row = R.1 };
        signs = G.0;
        signed = G.1;
        alike = λ r x.
            let z = r.act (letter_of (letter a.node 0)) x in
            row_is_heard NN net' letter r a.node y.0 L.node (put V.begin blank) (put V.last blank) (put
            (levels_of mt.other) blank)
            R.0 G.0 z (moved r (word_along T mt.trail) z)
            (bars_app NN net' letter a.node V.route.i app V.begin V.begin_is)
            (bars_lam NN net' letter y.0 V.route.j y.1 V.last V.last_is)
            (bars_lam NN net' letter L.node (0 + depth mt.other) L.index (levels_of mt.other) long)
            differ R.1 G.1 R.2
            (subst (λ c. Joined (Heard NN letter r) ((slot a.node 0, c), z)
            ((slot L.node 0, put (levels_of mt.other) blank), moved r (word_along T mt.trail) z)) (sym first)
            (subst (λ c. Joined (Heard NN letter r) ((slot a.node 0, context_at site (cons empty blank)), z)
            ((slot L.node 0, c), moved r (word_along T mt.trail) z)) (sym ends)
            (joined_trans (edges.on edges.here (linked a.at_site.linked))
            (subst (λ u. Joined (Heard NN letter r) ((a.at_site.port, context_at site (cons empty blank)), z)
            (u, moved r (word_along T mt.trail) z)) last (H.2 r z)))))
            ∙ sym (moved_append r (signs_of (function_label T site)) (word_along T mt.trail) x
            ∙ ap (λ l. moved r (word_along T mt.trail) (moved r (signs_of l) x)) label);
      }

  -- so two of them with alike words are one
  pub told_one : HaveLetters (translation_of τ (erased T) names) letter → (s u : Route B) (v w : Signs) →
      IsTold s v → IsTold u w → AreAlike v w → s ≡ u
  told_one atoms s u v w a b e =
      let same = routes_told τ (erased T) names h letter atoms a.route b.route a.has b.has a.signs b.signs
      a.signed b.signed
      (λ r x. a.alike r x ∙ e r x ∙ sym (b.alike r x)) in
      a.is ∙ ap (route_under m) same ∙ sym b.is
