-- A redex that walks from a labelled term's root meet is a virtual redex on such a walk over the term's net, and its
-- route reads its word.
use Rattle.std.proofs.Common.{◌≡◌, ℕ, zero, suc, ◌+◌, ◌<◌, ◌⊎◌, inl, inr, List, [], ◌∷◌, ◌++◌, length, Option, Some}
use Rattle.std.proofs.Common.{refl, sym, ap, ◌∙◌, arith, subst}
use Rattle.std.proofs.lemmas.List.{append_assoc}
use Rattle.ol_context.proofs.Contexts.{eta}
use Rattle.ol_context.specs.Asked.{os, asked}
use Rattle.ol_context.specs.Contexts.{Level, empty, Context, cons, up}
use Rattle.ol_law_edges.specs.Edges.{Joined}
use Rattle.ol_law_edges.specs.Edges as edges
use Rattle.ol_law_edges.proofs.Joining.{joined_trans, joined_map, joined_image}
use Rattle.ol_law_optimality.specs.Met.{IsMatched, IsMet, blank}
use Rattle.ol_law_optimality.proofs.Meeting.{Comes}
use Rattle.ol_law_optimality.proofs.Sites.{no_root}
use Rattle.ol_invariance.proofs.Moves as moves
use Rattle.ol_law_optimality.proofs.Keys.{levels_of, as_put, as_long}
use Rattle.ol_law_levels.specs.Levels.{IsLevelled}
use Rattle.ol_law_levels.proofs.Terms.{term_is_levelled}
use Rattle.ol_net.specs.Nets.{NamedPort, slot, free, NamedNet, HasNode, Linked, IsNet}
use Rattle.ol_net.specs.Numbered.{numbered_port}
use Rattle.ol_net.specs.Parts.{arity}
use Rattle.ol_net.specs.declared.parts.Kind.{Kind}
use Rattle.ol_net.specs.declared.parts.Kind.TheVariants as kind
use Rattle.ol_law_optimality.specs.Labels.{Labelled, erased}
use Rattle.ol_law_optimality.specs.Redexes.{Carries, put, IsVirtualRedex}
use Rattle.ol_law_optimality.specs.Routes.{Crossing, rise, fall, Row, along, rises, falls, Route}
use Rattle.ol_law_optimality.specs.Seen.{Move, link, node, IsSeen}
use Rattle.ol_rules.proofs.FreshPairs.{linked_sym}
use Rattle.ol_law_meaning.proofs.Followed.{net}
use Rattle.ol_law_meaning.proofs.States.{S, state, Both}
use Rattle.ol_law_meaning.proofs.Whole.{has_part, trail_both, place_joined}
use Rattle.ol_law_meaning.specs.Sites.{Site, depth, context_at, function_at}
use Rattle.ol_law_meaning.specs.Spots.{at, place}
use Rattle.ol_term.specs.declared.translations.Translation.{Translation}
use Rattle.ol_translate.specs.Names.{HasNames}
use Rattle.ol_translate.specs.Translation.{translation_of}
use Rattle.ol_law_optimality.specs.Readings.{function_label, word_along, word_of, Acting, moved, AreAlike}
use Rattle.ol_law_optimality.specs.Signs.{letter_of, Signs, onward, reversed, signs_of, Signed, nothing, shared_up}
use Rattle.ol_law_optimality.specs.Signs.{shared_down, to_function, from_function, to_body, from_body, from_variable}
use Rattle.ol_law_optimality.specs.Signs.{to_variable, to_argument, from_argument}
use Rattle.ol_law_optimality.proofs.Hearing.{rising, AreLettered, Heard, linked, crossed, lam_at, function_is}
use Rattle.ol_law_optimality.proofs.Hearing.{trail_heard}
use Rattle.ol_law_optimality.proofs.Motions.{moved_append}
use Rattle.ol_law_optimality.proofs.Saying.{Says, start, all_along, not_left, row_is_heard}
use Rattle.ol_law_optimality.proofs.Saying as saying
use Rattle.ol_law_optimality.proofs.Told.{bars_lam, bars_app}
use Rattle.ol_law_optimality.proofs.Untouched.{Held, settled}
use Rattle.ol_law_optimality.proofs.Wider.{linked_held, risen_held, fallen_held, root_otherwise, asked_first, rest}

-- ---- one crossing more is read

module _ {A : Type 0} (N : NamedNet A) (letter : A → ℕ → ℕ) where
  read_up : (k : Kind) (i : ℕ) (x : A) (s : ℕ) {w : List (Crossing A)} {a : Signs} → HasNode N x k i → s < arity k →
      Signed N letter w a → Signed N letter (rise x s ∷ w) (rising letter k x s ++ a)
  read_up kind.App i x zero h low S = to_function (i, h) S
  read_up kind.App i x (suc zero) h low S = from_argument (i, h) S
  read_up kind.App i x (suc (suc s)) h low S = absurd (omega arith)
  read_up kind.Lam i x zero h low S = from_body (i, h) S
  read_up kind.Lam i x (suc zero) h low S = from_variable (i, h) S
  read_up kind.Lam i x (suc (suc s)) h low S = absurd (omega arith)
  read_up kind.Fan i x s h low S = shared_up kind.Fan (i, h) (λ e. absurd (cc)) (λ e. absurd (cc)) S
  read_up kind.Croissant i x s h low S = shared_up kind.Croissant (i, h) (λ e. absurd (cc)) (λ e. absurd (cc)) S
  read_up kind.Bracket i x s h low S = shared_up kind.Bracket (i, h) (λ e. absurd (cc)) (λ e. absurd (cc)) S
  read_up kind.Eraser i x s h low S = absurd (omega arith)

  read_down : (k : Kind) (i : ℕ) (x : A) (s : ℕ) {w : List (Crossing A)} {a : Signs} → HasNode N x k i → s < arity k →
      Signed N letter w a → Signed N letter (fall x s ∷ w) (reversed (rising letter k x s) ++ a)
  read_down kind.App i x zero h low S = from_function (i, h) S
  read_down kind.App i x (suc zero) h low S = to_argument (i, h) S
  read_down kind.App i x (suc (suc s)) h low S = absurd (omega arith)
  read_down kind.Lam i x zero h low S = to_body (i, h) S
  read_down kind.Lam i x (suc zero) h low S = to_variable (i, h) S
  read_down kind.Lam i x (suc (suc s)) h low S = absurd (omega arith)
  read_down kind.Fan i x s h low S = shared_down kind.Fan (i, h) (λ e. absurd (cc)) (λ e. absurd (cc)) S
  read_down kind.Croissant i x s h low S = shared_down kind.Croissant (i, h) (λ e. absurd (cc)) (λ e. absurd (cc)) S
  read_down kind.Bracket i x s h low S = shared_down kind.Bracket (i, h) (λ e. absurd (cc)) (λ e. absurd (cc)) S
  read_down kind.Eraser i x s h low S = absurd (omega arith)

-- ---- what is said with one context is a row on which all lead on

module _ (N : NamedNet ℕ) (n : IsNet N) (letter : ℕ → ℕ → ℕ) (L : IsLevelled N) where
  record RowFrom (p q : NamedPort ℕ) (F E : Context → Context) (a : Signs) : Type 0 where
    row : List (Crossing ℕ)
    is : Row N p row q
    signed : Signed N letter row a
    carries : (c : Context) → Carries N (F c) row (E c)

  record Rowed (p : NamedPort ℕ) (F : Context → Context) (c0 : Context) (u : NamedPort ℕ) (d : Context) (a : Signs) :
      Type 0 where
    family : Context → Context
    held : Held (L.depth u) family
    there : family c0 ≡ d
    before : (w : List (Crossing ℕ)) (b : Signs) (q : NamedPort ℕ) (E : Context → Context) → Row N u w q →
        Signed N letter w b → ((c : Context) → Carries N (family c) w (E c)) → RowFrom p q F E (a ++ b)

  rowed : (c0 : Context) → c0 0 ≡ empty → (p : NamedPort ℕ) (F : Context → Context) → Held (L.depth p) F →
      {m : ℕ} {u : NamedPort ℕ} {d : Context} {a : Signs} → Says N n letter p (F c0) m u d a → Rowed p F c0 u d a
  rowed c0 z p F H start = record {
    family = F;
    held = H;
    there = refl;
    before = λ w b q E r S t. record { row = w; is = r; signed = S; carries = t };
  }
  rowed c0 z p F H (saying.rises {x = x} {s = s} {u = u} {a = a} k i w l h low f) =
      let r = rowed c0 z p F H w in
      record {
        family = λ c. up k i s (r.family c);
        held = risen_held N L x k i s h low r.family (linked_held N L u (slot x (suc s)) r.family l r.held);
        there = ap (up k i s) r.there ∙ f;
        before = λ w b q E y S t. subst (RowFrom p q F E) (sym (append_assoc a (rising letter k x s) b))
            (r.before (rise x s ∷ w) (rising letter k x s ++ b) q E (rises k i l h low y)
            (read_up N letter k i x s h low S) (λ c. (k, i, h, low, t c)));
      }
  rowed c0 z p F H (saying.falls {x = x} {s = s} {u = u} {e = e} {a = a} k i w l h low f) =
      let r = rowed c0 z p F H w in
      let g = fallen_held N L x k i s h low r.family (linked_held N L u (slot x 0) r.family l r.held) c0 e z
      (f ∙ sym r.there) in
      record {
        family = g.family;
        held = g.held;
        there = g.there;
        before = λ w b q E y S t. subst (RowFrom p q F E) (sym (append_assoc a (reversed (rising letter k x s)) b))
            (r.before (fall x s ∷ w) (reversed (rising letter k x s) ++ b) q E (falls k i l h low y)
            (read_down N letter k i x s h low S) (λ c. (k, i, h, low, g.family c, g.all c, t c)));
      }

-- signs that move nothing
still : Acting
still = record { act = λ a x. x; undo = λ a x. x; undone = λ a x. refl; done = λ a x. refl }

some_one : {u v : S} → ◌≡◌ {A = Option S} (Some u) (Some v) → ◌≡◌ {A = S} u v
some_one e = cc

module _ (N : NamedNet ℕ) where
  one_here : (u v : S) → moves.Move N u v → Joined (Move N) u v
  one_here u v (moves.link l) = edges.on edges.here (link l)
  one_here u v (moves.node k i h low e) = edges.on edges.here (node k i h low e)

  moves_here : {u v : S} → Joined (moves.Move N) u v → Joined (Move N) u v
  moves_here j = joined_map one_here j

module _ (N : NamedNet ℕ) (letter : ℕ → ℕ → ℕ) where
  one_move : (u v : S × Signs) → Heard N letter still u v → Joined (Move N) u.0 v.0
  one_move u v (linked l) = edges.on edges.here (link l)
  one_move u v (crossed k i h low e f) = edges.on edges.here (node k i h low e)

  heard_moves : {u v : S × Signs} → Joined (Heard N letter still) u v → Joined (Move N) u.0 v.0
  heard_moves j = joined_image (λ (u : S × Signs). u.0) one_move j

-- ---- of a redex that is met

module _ (τ : Translation) (T : Labelled) (names : ℕ) (h : HasNames (erased T) names) (letter : ℕ → ℕ → ℕ)
    (are : AreLettered τ letter T 0 0 0) where
  abbrev N : NamedNet ℕ
  N = translation_of τ (erased T) names

  -- the virtual redex of a site
  pub record RedexAt (p : Site) (word : Signs) : Type 0 where
    pub route : Route ℕ
    pub redex : IsVirtualRedex (translation_of τ (erased T) names) route
    pub begin_is : redex.begin ≡ levels_of p
    pub port : NamedPort ℕ
    pub linked : Linked (translation_of τ (erased T) names) port (slot route.from 0)
    pub stands : (v : Level) (c : Context) → state τ (function_at p v c) (erased T) 0 0 0 (λ c. c)
        ≡ Some (port, context_at p (cons v c))
    pub signs : Signs
    pub signed : Signed (translation_of τ (erased T) names) letter route.row signs
    pub alike : AreAlike (onward (letter_of (letter route.from 0)) ∷ signs) word

  pub redex_at : (p : Site) (m : IsMatched τ (erased T) p) → RedexAt p (word_of T p m)
  redex_at p m =
      let NN = translation_of τ (erased T) names in
      let net' = net τ (erased T) names h in
      let L = term_is_levelled τ (erased T) names h in
      let q = m.other in
      let part = has_part τ (erased T) names h in
      let fun = function_is τ NN letter T 0 0 0 (λ c. c) m.is tt part are in
      let lam = lam_at τ NN letter 0 0 0 (λ c. c) m.is_other tt part in
      let vs = levels_of p in
      let ws = levels_of q in
      let long : length vs ≡ 0 + depth p = as_long p ∙ (let e : depth p ≡ 0 + depth p = omega arith in e) in
      let long' : length ws ≡ 0 + depth q = as_long q ∙ (let e : depth q ≡ 0 + depth q = omega arith in e) in
      let first : put vs blank ≡ context_at p (cons empty blank) = sym (as_put p blank)
      ∙ ap (context_at p) (sym (eta blank)) in
      let ends : put ws blank ≡ context_at q (cons empty blank) = sym (as_put q blank)
      ∙ ap (context_at q) (sym (eta blank)) in
      let bars = bars_app NN net' letter fun.node (0 + depth p) fun.index vs long in
      let bars' = bars_lam NN net' letter lam.node (0 + depth q) lam.index ws long' in
      let H = trail_heard τ T names h letter are m.trail (
        numbered_port fun.port,
        context_at p (cons empty blank),
      ) (fun.is empty blank) in
      let last : ◌≡◌ {A = S} H.0 (slot lam.node 0, context_at q (cons empty blank)) = some_one (sym H.1
      ∙ lam.is empty blank) in
      let heard : (r : Acting) (z : Signs) → Joined (Heard NN letter r) ((slot fun.node 0, put vs blank), z)
      ((slot lam.node 0, put ws blank), moved r (word_along T m.trail) z) = λ r z.
      subst (λ c. Joined (Heard NN letter r) ((slot fun.node 0, c), z)
      ((slot lam.node 0, put ws blank), moved r (word_along T m.trail) z)) (sym first)
      (subst (λ c. Joined (Heard NN letter r) ((slot fun.node 0, context_at p (cons empty blank)), z)
      ((slot lam.node 0, c), moved r (word_along T m.trail) z)) (sym ends)
      (joined_trans (edges.on edges.here (linked fun.link))
      (subst (λ u. Joined (Heard NN letter r) ((numbered_port fun.port, context_at p (cons empty blank)), z)
      (u, moved r (word_along T m.trail) z)) last (H.2 r z)))) in
      let differ : fun.node ≡ lam.node → ⊥ = λ e. (let o = (net'.one_node lam.node kind.App kind.Lam (0 + depth p)
      (0 + depth q) (subst (λ x. HasNode NN x kind.App (0 + depth p)) e fun.index) lam.index).0 in absurd (cc)) in
      let A = all_along NN net' letter still fun.node (put vs blank) bars [] (heard still []) in
      let link' = by NN lam.node A.port A.there (λ e. not_left NN net' letter still fun.node
      (put vs blank) bars [] lam.node A.says differ bars' e) in
      let R = rowed NN net' letter L blank refl (slot fun.node 0) (put vs) (record {
        low = vs;
        long = long ∙ (L.stands fun.node kind.App (0 + depth p) fun.index).0;
        mid = [];
        starred = tt;
        marks = 0;
        is = λ c. ap (put vs) (sym (eta c));
      }) A.says in
      let held = linked_held NN L A.port (slot lam.node 0) R.family link' R.held in
      let there : L.depth (slot lam.node 0) ≡ length ws = sym (long'
      ∙ (L.stands lam.node kind.Lam (0 + depth q) lam.index).0) in
      let B = R.before [] [] (slot lam.node 0) (put ws) (along link') nothing
      (settled R.family ws (subst (λ n. Held n R.family) there held) R.there) in
      record {
        route = record { from = fun.node; row = B.row; to = lam.node };
        redex = record {
          route = record {
            i = 0 + depth p;
            j = 0 + depth q;
            application = fun.index;
            abstraction = lam.index;
            row = B.is;
          };
          begin = vs;
          last = ws;
          begin_is = long;
          last_is = long';
          carries = B.carries;
        };
        begin_is = refl;
        port = numbered_port fun.port;
        linked = linked_sym NN (slot fun.node 0) (numbered_port fun.port) fun.link;
        stands = fun.is;
        signs = A.signs ++ [];
        signed = B.signed;
        alike = λ r x.
            let z = r.act (letter_of (letter fun.node 0)) x in
            row_is_heard NN net' letter r fun.node lam.node lam.node (put vs blank) (put ws blank) (put ws blank)
            B.row (A.signs ++ []) z (moved r (word_along T m.trail) z) bars bars' bars' differ B.is B.signed
            (B.carries blank) (heard r z)
            ∙ sym (moved_append r (signs_of (function_label T p)) (word_along T m.trail) x
            ∙ ap (λ l. moved r (word_along T m.trail) (moved r (signs_of l) x)) fun.label);
      }
    where
      by : (N : NamedNet ℕ) (y : ℕ) (u : NamedPort ℕ) → Linked N u (slot y 0) ⊎ (u ≡ slot y 0) →
          (u ≡ slot y 0 → ⊥) → Linked N u (slot y 0)
      by N y u (inl l) f = l
      by N y u (inr e) f = absurd (f e)

  -- a walk from a free port to it
  walk_to : (q : ℕ) (v : Level) (c : Context) (p : Site) (m : Comes τ (erased T) (at (place q) v c) p) →
      (a : RedexAt p (word_of T p m.matched)) → Joined (Move (translation_of τ (erased T) names)) (free q, cons v c)
      (slot a.route.from 0, put a.redex.begin (cons m.level m.later))
  walk_to q v c p m a = by (trail_both τ (erased T) names h m.way)
    where
      by : (at (place q) v c ≡ function_at p m.level m.later) ⊎ Both (translation_of τ (erased T) names)
          (state τ (at (place q) v c) (erased T) 0 0 0 (λ c. c))
          (state τ (function_at p m.level m.later) (erased T) 0 0 0 (λ c. c)) →
          Joined (Move (translation_of τ (erased T) names)) (free q, cons v c)
          (slot a.route.from 0, put a.redex.begin (cons m.level m.later))
      by (inl e) = absurd (no_root p m.level v m.later c (place q) e)
      by (inr b) =
          let NN = translation_of τ (erased T) names in
          let w = trail_heard τ T names h letter are m.way b.first b.from in
          let come : ◌≡◌ {A = S} w.0 (a.port, context_at p (cons m.level m.later)) = some_one (sym w.1
          ∙ a.stands m.level m.later) in
          let there : context_at p (cons m.level m.later) ≡ put a.redex.begin (cons m.level m.later) = as_put p
          (cons m.level m.later) ∙ ap (λ vs. put vs (cons m.level m.later)) (sym a.begin_is) in
          edges.on (joined_trans (moves_here NN (place_joined τ (erased T) names h q v c b.first b.from))
          (subst (λ u. Joined (Move NN) b.first u) (come ∙ ap (λ c. (a.port, c)) there) (heard_moves NN letter (w.2 still []))))
          (link a.linked)

  -- A redex to which a walk over the term comes is seen by this walk over the net.
  pub record SeenBy (q : ℕ) (c : Context) (word : Signs) : Type 0 where
    pub route : Route ℕ
    pub seen : IsSeen (translation_of τ (erased T) names) q c route
    pub signs : Signs
    pub signed : Signed (translation_of τ (erased T) names) letter route.row signs
    pub alike : AreAlike (onward (letter_of (letter route.from 0)) ∷ signs) word

  pub comes_seen : (q : ℕ) (v : Level) (c : Context) (p : Site) (m : Comes τ (erased T) (at (place q) v c) p) →
      SeenBy q (cons v c) (word_of T p m.matched)
  comes_seen q v c p m =
      let a = redex_at p m.matched in
      record {
        route = a.route;
        seen = record { redex = a.redex; rest = cons m.level m.later; on_walk = walk_to q v c p m a };
        signs = a.signs;
        signed = a.signed;
        alike = a.alike;
      }

  -- So is one that walks from the root meet, by the question for as many abstractions.
  pub met_seen : (p : Site) (m : IsMet τ (erased T) p) → SeenBy 0 (asked [] m.lams) (word_of T p m.matched)
  met_seen p m =
      let a = comes_seen 0 (os m.lams empty) m.first p (record {
        matched = m.matched;
        level = m.level;
        later = m.later;
        steps = m.steps;
        way = m.way;
      }) in
      record {
        route = a.route;
        seen = subst (λ c. IsSeen (translation_of τ (erased T) names) 0 c a.route) (asked_first m.lams)
            (root_otherwise (translation_of τ (erased T) names) (net τ (erased T) names h)
            (term_is_levelled τ (erased T) names h) m.lams (cons empty m.first) (cons empty rest) refl a.route a.seen);
        signs = a.signs;
        signed = a.signed;
        alike = a.alike;
      }
