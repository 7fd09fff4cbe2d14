-- Walks over a net in boxes: where they stand, and that they are not blocked.
use Rattle.std.proofs.Common.{◌≡◌, ℕ, zero, suc, ◌<◌, List, [], ◌∷◌, length, ◌↔◌, refl, sym, ap, ◌∙◌, subst, arith}
use Rattle.ol_context.specs.Contexts.{Context, cons, empty, at_level, mark, packed, up, IsCrosser}
use Rattle.ol_law_edges.proofs.Joining.{joined_trans}
use Rattle.ol_law_edges.specs.Edges.{here, on, back}
use Rattle.ol_law_levels.specs.Levels.{IsLevelled}
use Rattle.ol_net.specs.Nets.{NamedPort, slot, NamedNet, HasNode, Linked, IsNet}
use Rattle.ol_net.specs.Parts.{arity}
use Rattle.ol_net.specs.declared.parts.Kind.{Kind}
use Rattle.ol_net.specs.declared.parts.Kind.TheVariants as kind
use Rattle.ol_law_levels.proofs.Before.{passes}
use Rattle.ol_law_levels.proofs.Goods.{box_of, wire_of, Good, unknown, unread, at_croissant, at_fan_o, at_fan_s}
use Rattle.ol_law_levels.proofs.Goods.{at_bracket, at_eraser, Put, by_app, by_lam, Stacked, s_nil, s_top, s_some}
use Rattle.ol_law_levels.proofs.Goods.{stacked_moved, stacked_refined, stacked_raised, stacked_starred, taken}
use Rattle.ol_law_levels.proofs.Goods.{stacked_taken}
use Rattle.ol_law_levels.proofs.Lines.{Stack, IsPole, is_lam, is_app, node, own, fan_o, fan_s}
use Rattle.ol_law_levels.proofs.Lines.{croissant, bracket, link, cross, Meet, refs_self}
use Rattle.ol_law_levels.proofs.Patterns.{Pat, any, hole, nil, oo, ss, pp, osp, raised, unknowns, all_fit, Inst}
use Rattle.ol_law_levels.proofs.Patterns.{Matches, Below, shift_in, shift_out, cross_up, cross_from, mark_up, mark_down}
use Rattle.ol_law_levels.proofs.Patterns.{mark_from, nil_from, pair_from, Iff, level_iff, shifted_iff, shift_iff}
use Rattle.ol_law_levels.proofs.Patterns.{shift_two, impossible, drop_any, add_any}
use Rattle.ol_law_levels.proofs.Places.{IsBoxed, Rooted, Inside, Outside, Place, at_node, place_along, begun}
use Rattle.ol_law_levels.specs.Unblocked.{Change, rise, fall, ComesOut, Reaches, begins, along, rises, falls, alike}
use Rattle.ol_law_levels.specs.Unblocked.{IsUnblocked}

-- ---- what comes out

abbrev Out : List Change → Stack → Stack → Type 0
Out w a r = (d : Context) → ComesOut w d ↔ Inst a r d

risen : (k : Kind) (i s : ℕ) (w : List Change) (a r a' r' : Stack) → Out w a r →
    ((c : Context) → Inst a r c → Inst a' r' (up k i s c)) →
    ((d : Context) → Inst a' r' d → (c : Context) × Inst a r c × (up k i s c ≡ d)) → Out (rise k i s ∷ w) a' r'
risen k i s w a r a' r' h f g d = (
  λ t. subst (λ d. Inst a' r' d) t.2 (f t.0 ((h t.0).0 t.1)),
  λ t. (let x = g d t in (x.0, (h x.0).1 x.1, x.2)),
)

-- before a change
abbrev Before : List Change → (Context → Context) → Stack → Stack → Type 0
Before w f a r = (d : Context) → ComesOut w (f d) ↔ Inst a r d

fallen : (w : List Change) (f : Context → Context) (a' r' a r : Stack) → Out w a' r' → Iff f a' r' a r →
    Before w f a r
fallen w f a' r' a r h k d = (λ t. (k d).0 ((h (f d)).0 t), λ t. (h (f d)).1 ((k d).1 t))

module _ {A : Type 0} (N : NamedNet A) (is_net : IsNet N) (L : IsLevelled N) (B : IsBoxed N) where
  abbrev PlaceHere : NamedPort A → Stack → Type 0
  PlaceHere p a = Place N is_net B p a

  abbrev St : NamedPort A → Stack → Stack → Type 0
  St p a r = Stacked N B.boxes p a r

  abbrev GoodHere : NamedPort A → Stack → Pat → Type 0
  GoodHere p a v = Good N B.boxes (wire_of p a v)

  -- where a walk stands
  pub record Now (p : NamedPort A) (w : List Change) : Type 0 where
    pub low : Stack
    pub high : Stack
    pub place : PlaceHere p low
    pub stacked : St p low high
    pub out : Out w low high

  -- ---- up

  own_local : (r : Stack) (c : Context) → Below r c → Below (raised r) (mark 0 c)
  own_local [] c h = (tt, tt)
  own_local (u ∷ r) c h = h

  own_back : (r : Stack) (e : Context) → Below (raised r) e → (c : Context) × Below r c × (mark 0 c ≡ e)
  own_back [] e h = let t = mark_from 0 any [] e h in (t.0, tt, t.2)
  own_back (u ∷ r) e h = mark_from 0 u r e h

  own_up : (i : ℕ) (a r : Stack) → length a ≡ i → (c : Context) → Inst a r c →
      Inst a (raised r) (at_level i (mark 0) c)
  own_up i a r e = cross_up a r (raised r) i (mark 0) e (own_local r)

  own_from : (i : ℕ) (a r : Stack) → length a ≡ i → (d : Context) → Inst a (raised r) d →
      (c : Context) × Inst a r c × (at_level i (mark 0) c ≡ d)
  own_from i a r e = cross_from a r (raised r) i (mark 0) e (own_back r)

  box_up : (i : ℕ) (a r : Stack) (v : Pat) → length a ≡ i → (c : Context) → Inst (v ∷ a) r c →
      Inst a (ss v ∷ r) (at_level i (mark 1) c)
  box_up i a r v e c h = cross_up a (v ∷ r) (ss v ∷ r) i (mark 1) e (mark_up 1 v r) c (shift_in v a r c h)

  box_from : (i : ℕ) (a r : Stack) (v : Pat) → length a ≡ i → (d : Context) → Inst a (ss v ∷ r) d →
      (c : Context) × Inst (v ∷ a) r c × (at_level i (mark 1) c ≡ d)
  box_from i a r v e d h =
      let t = cross_from a (v ∷ r) (ss v ∷ r) i (mark 1) e (mark_from 1 v r) d h in
      (t.0, shift_out v a r t.0 t.1, t.2)

  rise_lam : (x : A) (i : ℕ) (w : List Change) → HasNode N x kind.Lam i → (a r : Stack) →
      Outside N is_net B (slot x 2) x i a → St (slot x 2) a r → Out w a r →
      Now (slot x 0) (rise kind.Lam i 1 ∷ w)
  rise_lam x i w h [] r P s o = absurd P
  rise_lam x i w h (v ∷ a) r P s o = record {
    low = a;
    high = ss v ∷ r;
    place = (kind.Lam, i, h, (P.0, P.1));
    stacked = stacked_starred N B.boxes x a r v (by_lam i P.2.0 h P.2.1 P.2.2) s;
    out = risen kind.Lam i 1 w (v ∷ a) r a (ss v ∷ r) o (box_up i a r v P.1) (box_from i a r v P.1);
  }

  boxed_app : (x : A) (i : ℕ) → HasNode N x kind.App i → (a : Stack) (v : Pat) → length a ≡ i →
      Good N B.boxes (box_of (B.boxes x (length a)) a v) → Good N B.boxes (box_of x a v)
  boxed_app x i h a v e g = subst (λ q. Good N B.boxes (box_of q a v)) (ap (B.boxes x) e ∙ B.app x i h) g

  rise_app : (x : A) (i : ℕ) (w : List Change) → HasNode N x kind.App i → (a r : Stack) →
      Rooted N is_net B x (suc i) a → St (slot x 2) a r → Out w a r → Now (slot x 0) (rise kind.App i 1 ∷ w)
  rise_app x i w h [] r P s o = absurd (omega (arith, P.1))
  rise_app x i w h (v ∷ a) r P s o =
      let e : length a ≡ i = omega (arith, P.1) in
      record {
        low = a;
        high = ss v ∷ r;
        place = (kind.App, i, h, (P.0.1, e));
        stacked = stacked_starred N B.boxes x a r v (by_app i h (boxed_app x i h a v e P.0.0)) s;
        out = risen kind.App i 1 w (v ∷ a) r a (ss v ∷ r) o (box_up i a r v e) (box_from i a r v e);
      }

  rise_fan_o : (x : A) (i : ℕ) (w : List Change) → HasNode N x kind.Fan i → (a r : Stack) →
      Outside N is_net B (slot x 1) x i a → St (slot x 1) a r → Out w a r → Now (slot x 0) (rise kind.Fan i 0 ∷ w)
  rise_fan_o x i w h [] r P s o = absurd P
  rise_fan_o x i w h (v ∷ a) r P s o = record {
    low = oo v ∷ a;
    high = r;
    place = (kind.Fan, i, h, (P.0, P.1, at_fan_o i P.2.0 h P.2.1 P.2.2));
    stacked = stacked_moved N B.boxes (slot x 1) (slot x 0) (v ∷ a) (oo v ∷ a) r
        (λ k. on here (cross (node i h fan_o))) s;
    out = risen kind.Fan i 0 w (v ∷ a) r (oo v ∷ a) r o
        (λ c t. shift_out (oo v) a r (up kind.Fan i 0 c)
        (cross_up a (v ∷ r) (oo v ∷ r) i (mark 0) P.1 (mark_up 0 v r) c (shift_in v a r c t)))
        (λ d t. (let y = cross_from a (v ∷ r) (oo v ∷ r) i (mark 0) P.1 (mark_from 0 v r) d (shift_in (oo v) a r d t) in
        (y.0, shift_out v a r y.0 y.1, y.2)));
  }

  rise_fan_s : (x : A) (i : ℕ) (w : List Change) → HasNode N x kind.Fan i → (a r : Stack) →
      Outside N is_net B (slot x 2) x i a → St (slot x 2) a r → Out w a r → Now (slot x 0) (rise kind.Fan i 1 ∷ w)
  rise_fan_s x i w h [] r P s o = absurd P
  rise_fan_s x i w h (v ∷ a) r P s o = record {
    low = ss v ∷ a;
    high = r;
    place = (kind.Fan, i, h, (P.0, P.1, at_fan_s i P.2.0 h P.2.1 P.2.2));
    stacked = stacked_moved N B.boxes (slot x 2) (slot x 0) (v ∷ a) (ss v ∷ a) r
        (λ k. on here (cross (node i h fan_s))) s;
    out = risen kind.Fan i 1 w (v ∷ a) r (ss v ∷ a) r o
        (λ c t. shift_out (ss v) a r (up kind.Fan i 1 c)
        (cross_up a (v ∷ r) (ss v ∷ r) i (mark 1) P.1 (mark_up 1 v r) c (shift_in v a r c t)))
        (λ d t. (let y = cross_from a (v ∷ r) (ss v ∷ r) i (mark 1) P.1 (mark_from 1 v r) d (shift_in (ss v) a r d t) in
        (y.0, shift_out v a r y.0 y.1, y.2)));
  }

  rise_bracket : (x : A) (i : ℕ) (w : List Change) → HasNode N x kind.Bracket i → (a r : Stack) →
      Outside N is_net B (slot x 1) x (suc i) a → St (slot x 1) a r → Out w a r →
      Now (slot x 0) (rise kind.Bracket i 0 ∷ w)
  rise_bracket x i w h [] r P s o = absurd P
  rise_bracket x i w h (u ∷ []) r P s o = absurd (omega (arith, P.1))
  rise_bracket x i w h (u ∷ (v ∷ a)) r P s o =
      let e : length a ≡ i = omega (arith, P.1) in
      record {
        low = pp u v ∷ a;
        high = r;
        place = (
          kind.Bracket,
          i,
          h,
          (
            P.0.1,
            e,
            at_bracket i P.2.0 h P.2.1 (subst (λ n. Good N B.boxes (box_of (B.boxes x n) a v)) e P.0.0) P.2.2,
          ),
        );
        stacked = stacked_moved N B.boxes (slot x 1) (slot x 0) (u ∷ v ∷ a) (pp u v ∷ a) r
            (λ k. on here (cross (node i h bracket))) s;
        out = risen kind.Bracket i 0 w (u ∷ v ∷ a) r (pp u v ∷ a) r o
            (λ c t. shift_out (pp u v) a r (up kind.Bracket i 0 c)
            (cross_up a (v ∷ u ∷ r) (pp u v ∷ r) i packed e (λ c h. ((h.1.0, h.0), h.1.1)) c
            ((shift_two u v a r c).1 t)))
            (λ d t. (let y = cross_from a (v ∷ u ∷ r) (pp u v ∷ r) i packed e (pair_from u v r) d
            (shift_in (pp u v) a r d t) in (y.0, (shift_two u v a r y.0).0 y.1, y.2)));
      }

  pub now_rises : (x : A) (k : Kind) (i s : ℕ) (w : List Change) → HasNode N x k i → s < arity k →
      Now (slot x (suc s)) w → Now (slot x 0) (rise k i s ∷ w)
  now_rises x kind.Lam i zero w h b n =
      let P = at_node N is_net B x kind.Lam i 1 n.low h n.place in record {
        low = n.low;
        high = raised n.high;
        place = (kind.Lam, i, h, P);
        stacked = stacked_raised N B.boxes x kind.Lam i is_lam h n.low n.high n.stacked;
        out = risen kind.Lam i 0 w n.low n.high n.low (raised n.high) n.out (own_up i n.low n.high P.1)
            (own_from i n.low n.high P.1);
      }
  now_rises x kind.Lam i (suc zero) w h b n =
      rise_lam x i w h n.low n.high (at_node N is_net B x kind.Lam i 2 n.low h n.place) n.stacked n.out
  now_rises x kind.Lam i (suc (suc s)) w h b n = absurd (omega arith)
  now_rises x kind.App i zero w h b n =
      let P = at_node N is_net B x kind.App i 1 n.low h n.place in record {
        low = n.low;
        high = raised n.high;
        place = (kind.App, i, h, P);
        stacked = stacked_raised N B.boxes x kind.App i is_app h n.low n.high n.stacked;
        out = risen kind.App i 0 w n.low n.high n.low (raised n.high) n.out (own_up i n.low n.high P.1)
            (own_from i n.low n.high P.1);
      }
  now_rises x kind.App i (suc zero) w h b n =
      rise_app x i w h n.low n.high (at_node N is_net B x kind.App i 2 n.low h n.place) n.stacked n.out
  now_rises x kind.App i (suc (suc s)) w h b n = absurd (omega arith)
  now_rises x kind.Fan i zero w h b n =
      rise_fan_o x i w h n.low n.high (at_node N is_net B x kind.Fan i 1 n.low h n.place) n.stacked n.out
  now_rises x kind.Fan i (suc zero) w h b n =
      rise_fan_s x i w h n.low n.high (at_node N is_net B x kind.Fan i 2 n.low h n.place) n.stacked n.out
  now_rises x kind.Fan i (suc (suc s)) w h b n = absurd (omega arith)
  now_rises x kind.Croissant i zero w h b n =
      let P = at_node N is_net B x kind.Croissant i 1 n.low h n.place in record {
        low = nil ∷ n.low;
        high = n.high;
        place = (kind.Croissant, i, h, (P.0, P.1, at_croissant i h));
        stacked = stacked_moved N B.boxes (slot x 1) (slot x 0) n.low (nil ∷ n.low) n.high
            (λ k. on here (cross (node i h croissant))) n.stacked;
        out = risen kind.Croissant i 0 w n.low n.high (nil ∷ n.low) n.high n.out
            (λ c t. shift_out nil n.low n.high (up kind.Croissant i 0 c)
            (cross_up n.low n.high (nil ∷ n.high) i (cons empty) P.1 (λ c h. (tt, h)) c t))
            (λ d t. cross_from n.low n.high (nil ∷ n.high) i (cons empty) P.1 (nil_from n.high) d
            (shift_in nil n.low n.high d t));
      }
  now_rises x kind.Croissant i (suc s) w h b n = absurd (omega arith)
  now_rises x kind.Bracket i zero w h b n =
      rise_bracket x i w h n.low n.high (at_node N is_net B x kind.Bracket i 1 n.low h n.place) n.stacked n.out
  now_rises x kind.Bracket i (suc s) w h b n = absurd (omega arith)
  now_rises x kind.Eraser i s w h b n = absurd (omega arith)

  -- ---- down, by slot 1 of an abstraction or an application

  record Own (x : A) (a : Stack) (w : List Change) (i : ℕ) : Type 0 where
    high : Stack
    stacked : St (slot x 1) a high
    before : Before w (at_level i (mark 0)) a high

  own_empty : (a : Stack) (i : ℕ) → length a ≡ i → (r : Stack) → ((c : Context) → Below [] c → Below r (mark 0 c)) →
      Iff (at_level i (mark 0)) a r a []
  own_empty a i e r f = level_iff a r [] i (mark 0) e (λ c h. tt) f

  own_taken : (x : A) (K : Kind) (i : ℕ) → IsPole K → HasNode N x K i → (a r : Stack) → length a ≡ i →
      (w : List Change) → Out w a r → St (slot x 0) a r → (d : Context) → ComesOut w (at_level i (mark 0) d) →
      Own x a w i
  own_taken x K i p h a r e w o (s_nil q) d t =
      let o' = subst (λ r. Out w a r) q o in
      record {
        high = [];
        stacked = s_nil refl;
        before = fallen w (at_level i (mark 0)) a [] a [] o' (own_empty a i e [] (λ c h. tt));
      }
  own_taken x K i p h a r e w o (s_top zero q) d t =
      let o' = subst (λ r. Out w a r) q o in
      record {
        high = [];
        stacked = s_nil refl;
        before = fallen w (at_level i (mark 0)) a (any ∷ []) a [] o' (own_empty a i e (any ∷ []) (λ c h. (tt, tt)));
      }
  own_taken x K i p h a r e w o (s_top (suc k) q) d t =
      let o' = subst (λ r. Out w a r) q o in
      record {
        high = osp k any ∷ [];
        stacked = s_top k refl;
        before = fallen w (at_level i (mark 0)) a (oo (osp k any) ∷ []) a (osp k any ∷ []) o'
            (level_iff a (oo (osp k any) ∷ []) (osp k any ∷ []) i (mark 0) e (mark_down 0 (osp k any) [])
            (mark_up 0 (osp k any) []));
      }
  own_taken x K i p h a r e w o (s_some zero v q z b f m g s) d t =
      let o' = subst (λ r. Out w a r) f o in
      absurd (impossible a (ss v ∷ q) i (mark 0) d e (λ c h. h.0) ((o' (at_level i (mark 0) d)).0 t))
  own_taken x K i p h a r e w o (s_some (suc k) v q z b f m g s) d t =
      let o' = subst (λ r. Out w a r) f o in
      record {
        high = osp k (ss v) ∷ q;
        stacked = s_some k v q z b refl (joined_trans (back here (cross (node i h (own p)))) m) g s;
        before = fallen w (at_level i (mark 0)) a (oo (osp k (ss v)) ∷ q) a (osp k (ss v) ∷ q) o'
            (level_iff a (oo (osp k (ss v)) ∷ q) (osp k (ss v) ∷ q) i (mark 0) e (mark_down 0 (osp k (ss v)) q)
            (mark_up 0 (osp k (ss v)) q));
      }

  -- ---- and by slot 2

  record Box (x : A) (a : Stack) (w : List Change) (i : ℕ) : Type 0 where
    value : Pat
    high : Stack
    put : Put N B.boxes x a value
    stacked : St (slot x 2) (value ∷ a) high
    before : Before w (at_level i (mark 1)) (value ∷ a) high

  box_empty : (a : Stack) (i : ℕ) → length a ≡ i → (r : Stack) → ((c : Context) → Below (any ∷ []) c → Below r (mark 1 c))
      → Iff (at_level i (mark 1)) a r (any ∷ a) []
  box_empty a i e r f d = (
    λ t. shift_out any a [] d ((level_iff a r (any ∷ []) i (mark 1) e (λ c h. (tt, tt)) f d).0 t),
    λ t. (level_iff a r (any ∷ []) i (mark 1) e (λ c h. (tt, tt)) f d).1 (shift_in any a [] d t),
  )

  box_known : (a : Stack) (i : ℕ) → length a ≡ i → (v : Pat) (q : Stack) →
      Iff (at_level i (mark 1)) a (ss v ∷ q) (v ∷ a) q
  box_known a i e v q d = (
    λ t. shift_out v a q d ((level_iff a (ss v ∷ q) (v ∷ q) i (mark 1) e (mark_down 1 v q) (mark_up 1 v q) d).0 t),
    λ t. (level_iff a (ss v ∷ q) (v ∷ q) i (mark 1) e (mark_down 1 v q) (mark_up 1 v q) d).1 (shift_in v a q d t),
  )

  stacked_by : (x : A) (K : Kind) (i : ℕ) → IsPole K → HasNode N x K i → (a : Stack) (z : A) (e : Stack) (v : Pat)
      (r : Stack) → Meet N (slot x 0, a, hole ∷ []) (slot z 0, e, hole ∷ []) → Put N B.boxes z e v →
      St (slot z 2) (v ∷ e) r → St (slot x 2) (v ∷ a) r
  stacked_by x K i p h a z e v r m (by_app j n g) s =
      stacked_taken N B.boxes is_net L x K i p h a z kind.App j is_app n e v r m s
  stacked_by x K i p h a z e v r m (by_lam j q n l g) s =
      stacked_taken N B.boxes is_net L x K i p h a z kind.Lam j is_lam n e v r m s

  box_taken : (x : A) (K : Kind) (i : ℕ) → IsPole K → HasNode N x K i →
      (a r : Stack) → Put N B.boxes x a any → length a ≡ i → (w : List Change) → Out w a r → St (slot x 0) a r →
      (d : Context) → ComesOut w (at_level i (mark 1) d) → Box x a w i
  box_taken x K i p h a r u e w o (s_nil q) d t =
      let o' = subst (λ r. Out w a r) q o in
      record {
        value = any;
        high = [];
        put = u;
        stacked = s_nil refl;
        before = fallen w (at_level i (mark 1)) a [] (any ∷ a) [] o' (box_empty a i e [] (λ c h. tt));
      }
  box_taken x K i p h a r u e w o (s_top zero q) d t =
      let o' = subst (λ r. Out w a r) q o in
      record {
        value = any;
        high = [];
        put = u;
        stacked = s_nil refl;
        before = fallen w (at_level i (mark 1)) a (any ∷ []) (any ∷ a) [] o'
            (box_empty a i e (any ∷ []) (λ c h. (tt, tt)));
      }
  box_taken x K i p h a r u e w o (s_top (suc k) q) d t =
      let o' = subst (λ r. Out w a r) q o in
      absurd (impossible a (oo (osp k any) ∷ []) i (mark 1) d e (λ c h. h.0) ((o' (at_level i (mark 1) d)).0 t))
  box_taken x K i p h a r u e w o (s_some zero v q z b f m g s) d t =
      let o' = subst (λ r. Out w a r) f o in
      record {
        value = v;
        high = q;
        put = taken N B.boxes is_net L x K i p h a z b v m g;
        stacked = stacked_by x K i p h a z b v q m g s;
        before = fallen w (at_level i (mark 1)) a (ss v ∷ q) (v ∷ a) q o' (box_known a i e v q);
      }
  box_taken x K i p h a r u e w o (s_some (suc k) v q z b f m g s) d t =
      let o' = subst (λ r. Out w a r) f o in
      absurd (impossible a (oo (osp k (ss v)) ∷ q) i (mark 1) d e (λ c h. h.0) ((o' (at_level i (mark 1) d)).0 t))

  lam_place : (x : A) (i : ℕ) → HasNode N x kind.Lam i → (a : Stack) (v : Pat) → Rooted N is_net B x i a →
      Put N B.boxes x a v → PlaceHere (slot x 2) (v ∷ a)
  lam_place x i h a v P (by_lam j p n l g) = (kind.Lam, i, h, (P.0, P.1, (p, l, g)))
  lam_place x i h a v P (by_app j n g) = let c = (is_net.one_node x kind.Lam kind.App i j h n).0 in absurd (cc)

  app_place : (x : A) (i : ℕ) → HasNode N x kind.App i → (a : Stack) (v : Pat) → Rooted N is_net B x i a →
      Put N B.boxes x a v → PlaceHere (slot x 2) (v ∷ a)
  app_place x i h a v P (by_app j n g) = (
    kind.App,
    i,
    h,
    (
      (
        subst (λ q. Good N B.boxes (box_of q a v)) (sym (ap (B.boxes x) P.1 ∙ B.app x i h)) g,
        P.0,
      ),
      ap suc P.1,
    ),
  )
  app_place x i h a v P (by_lam j p n l g) = let c = (is_net.one_node x kind.App kind.Lam i j h n).0 in absurd (cc)

  lam_any : (x : A) (i : ℕ) → HasNode N x kind.Lam i → (a : Stack) → Put N B.boxes x a any
  lam_any x i h a =
      let t = is_net.some_link (slot x 2) (kind.Lam, i, h, omega arith) in by_lam i t.0 h t.1 unread

  -- ---- down through a fan, a croissant and a bracket

  data FanReads (x : A) (a : Stack) : Pat → Type 0 where
    fan_any : FanReads x a any
    fan_left : (v : Pat) (p : NamedPort A) → Linked N (slot x 1) p → GoodHere p a v → FanReads x a (oo v)
    fan_right : (v : Pat) (p : NamedPort A) → Linked N (slot x 2) p → GoodHere p a v → FanReads x a (ss v)

  fan_reads : (x : A) (i : ℕ) → HasNode N x kind.Fan i → (a : Stack) (v : Pat) → GoodHere (slot x 0) a v →
      FanReads x a v
  fan_reads x i h a v unread = fan_any
  fan_reads x i h a v (at_croissant j n) = let c = (is_net.one_node x kind.Fan kind.Croissant i j h n).0 in absurd (cc)
  fan_reads x i h a v (at_fan_o {v = u} j p n l g) = fan_left u p l g
  fan_reads x i h a v (at_fan_s {v = u} j p n l g) = fan_right u p l g
  fan_reads x i h a v (at_bracket j p n l g g') =
      let c = (is_net.one_node x kind.Fan kind.Bracket i j h n).0 in absurd (cc)
  fan_reads x i h a v (at_eraser j n) = let c = (is_net.one_node x kind.Fan kind.Eraser i j h n).0 in absurd (cc)

  data CroissantReads : Pat → Type 0 where
    croissant_any : CroissantReads any
    croissant_nil : CroissantReads nil

  croissant_reads : (x : A) (i : ℕ) → HasNode N x kind.Croissant i → (a : Stack) (v : Pat) → GoodHere (slot x 0) a v →
      CroissantReads v
  croissant_reads x i h a v unread = croissant_any
  croissant_reads x i h a v (at_croissant j n) = croissant_nil
  croissant_reads x i h a v (at_fan_o j p n l g) =
      let c = (is_net.one_node x kind.Croissant kind.Fan i j h n).0 in absurd (cc)
  croissant_reads x i h a v (at_fan_s j p n l g) =
      let c = (is_net.one_node x kind.Croissant kind.Fan i j h n).0 in absurd (cc)
  croissant_reads x i h a v (at_bracket j p n l g g') =
      let c = (is_net.one_node x kind.Croissant kind.Bracket i j h n).0 in absurd (cc)
  croissant_reads x i h a v (at_eraser j n) =
      let c = (is_net.one_node x kind.Croissant kind.Eraser i j h n).0 in absurd (cc)

  data BracketReads (x : A) (i : ℕ) (a : Stack) : Pat → Type 0 where
    bracket_any : BracketReads x i a any
    bracket_pair : (u v : Pat) (p : NamedPort A) → Linked N (slot x 1) p →
        Good N B.boxes (box_of (B.boxes x i) a v) → GoodHere p (v ∷ a) u → BracketReads x i a (pp u v)

  bracket_reads : (x : A) (i : ℕ) → HasNode N x kind.Bracket i → (a : Stack) (v : Pat) → GoodHere (slot x 0) a v →
      BracketReads x i a v
  bracket_reads x i h a v unread = bracket_any
  bracket_reads x i h a v (at_croissant j n) =
      let c = (is_net.one_node x kind.Bracket kind.Croissant i j h n).0 in absurd (cc)
  bracket_reads x i h a v (at_fan_o j p n l g) =
      let c = (is_net.one_node x kind.Bracket kind.Fan i j h n).0 in absurd (cc)
  bracket_reads x i h a v (at_fan_s j p n l g) =
      let c = (is_net.one_node x kind.Bracket kind.Fan i j h n).0 in absurd (cc)
  bracket_reads x i h a v (at_bracket {v = t} {w = u} j p n l g g') =
      let o = (is_net.one_node x kind.Bracket kind.Bracket i j h n).1 in
      bracket_pair u t p l (subst (λ n. Good N B.boxes (box_of (B.boxes x n) a t)) (sym o) g) g'
  bracket_reads x i h a v (at_eraser j n) =
      let c = (is_net.one_node x kind.Bracket kind.Eraser i j h n).0 in absurd (cc)

  -- a fan's slots, as the top of what is known says
  fan_place : (x : A) (i s : ℕ) → HasNode N x kind.Fan i → s < 2 → (a : Stack) (v : Pat) → Rooted N is_net B x i a →
      (p : NamedPort A) → Linked N (slot x (suc s)) p → GoodHere p a v → PlaceHere (slot x (suc s)) (v ∷ a)
  fan_place x i s h b a v P p l g = (kind.Fan, i, h, (P.0, P.1, (p, l, g)))

  fan_iff : (s : ℕ) (a : Stack) (i : ℕ) → length a ≡ i → (x' v : Pat) (r : Stack) →
      ((c : Context) → Below (x' ∷ r) (mark s c) → Below (v ∷ r) c) →
      ((c : Context) → Below (v ∷ r) c → Below (x' ∷ r) (mark s c)) →
      Iff (at_level i (mark s)) (x' ∷ a) r (v ∷ a) r
  fan_iff s a i e x' v r f g =
      shifted_iff x' a r (v ∷ r) (v ∷ a) r (at_level i (mark s)) (level_iff a (x' ∷ r) (v ∷ r) i (mark s) e f g)
      (shift_iff v a r)

  fall_fan_o : (x : A) (i : ℕ) (w : List Change) → HasNode N x kind.Fan i → (a r : Stack) →
      Inside N is_net B (slot x 0) x i a → St (slot x 0) a r → Out w a r → (d : Context) →
      ComesOut w (at_level i (mark 0) d) → Now (slot x 1) (fall kind.Fan i 0 ∷ w)
  fall_fan_o x i w h [] r P s o d t = absurd P
  fall_fan_o x i w h (v ∷ a) r P s o d t = go v (fan_reads x i h a v P.2) s o
    where
      moved : (v : Pat) → St (slot x 0) (oo v ∷ a) r → St (slot x 1) (v ∷ a) r
      moved v s = stacked_moved N B.boxes (slot x 0) (slot x 1) (oo v ∷ a) (v ∷ a) r
          (λ k. back here (cross (node i h fan_o))) s

      go : (v : Pat) → FanReads x a v → St (slot x 0) (v ∷ a) r → Out w (v ∷ a) r →
          Now (slot x 1) (fall kind.Fan i 0 ∷ w)
      go v fan_any s o =
          let l = is_net.some_link (slot x 1) (kind.Fan, i, h, omega arith) in
          record {
            low = any ∷ a;
            high = r;
            place = fan_place x i 0 h (omega arith) a any (P.0, P.1) l.0 l.1 unread;
            stacked = moved any (stacked_refined N B.boxes (slot x 0) (any ∷ a) r s (oo any ∷ a) (tt, refs_self a));
            out = fallen w (at_level i (mark 0)) (any ∷ a) r (any ∷ a) r o
                (fan_iff 0 a i P.1 any any r (λ c h. (tt, h.1)) (λ c h. (tt, h.1)));
          }
      go v (fan_left u p l g) s o = record {
        low = u ∷ a;
        high = r;
        place = fan_place x i 0 h (omega arith) a u (P.0, P.1) p l g;
        stacked = moved u s;
        out = fallen w (at_level i (mark 0)) (oo u ∷ a) r (u ∷ a) r o
            (fan_iff 0 a i P.1 (oo u) u r (mark_down 0 u r) (mark_up 0 u r));
      }
      go v (fan_right u p l g) s o =
          absurd (impossible a (ss u ∷ r) i (mark 0) d P.1 (λ c h. h.0)
          (shift_in (ss u) a r (at_level i (mark 0) d) ((o (at_level i (mark 0) d)).0 t)))

  fall_fan_s : (x : A) (i : ℕ) (w : List Change) → HasNode N x kind.Fan i → (a r : Stack) →
      Inside N is_net B (slot x 0) x i a → St (slot x 0) a r → Out w a r → (d : Context) →
      ComesOut w (at_level i (mark 1) d) → Now (slot x 2) (fall kind.Fan i 1 ∷ w)
  fall_fan_s x i w h [] r P s o d t = absurd P
  fall_fan_s x i w h (v ∷ a) r P s o d t = go v (fan_reads x i h a v P.2) s o
    where
      moved : (v : Pat) → St (slot x 0) (ss v ∷ a) r → St (slot x 2) (v ∷ a) r
      moved v s = stacked_moved N B.boxes (slot x 0) (slot x 2) (ss v ∷ a) (v ∷ a) r
          (λ k. back here (cross (node i h fan_s))) s

      go : (v : Pat) → FanReads x a v → St (slot x 0) (v ∷ a) r → Out w (v ∷ a) r →
          Now (slot x 2) (fall kind.Fan i 1 ∷ w)
      go v fan_any s o =
          let l = is_net.some_link (slot x 2) (kind.Fan, i, h, omega arith) in
          record {
            low = any ∷ a;
            high = r;
            place = fan_place x i 1 h (omega arith) a any (P.0, P.1) l.0 l.1 unread;
            stacked = moved any (stacked_refined N B.boxes (slot x 0) (any ∷ a) r s (ss any ∷ a) (tt, refs_self a));
            out = fallen w (at_level i (mark 1)) (any ∷ a) r (any ∷ a) r o
                (fan_iff 1 a i P.1 any any r (λ c h. (tt, h.1)) (λ c h. (tt, h.1)));
          }
      go v (fan_right u p l g) s o = record {
        low = u ∷ a;
        high = r;
        place = fan_place x i 1 h (omega arith) a u (P.0, P.1) p l g;
        stacked = moved u s;
        out = fallen w (at_level i (mark 1)) (ss u ∷ a) r (u ∷ a) r o
            (fan_iff 1 a i P.1 (ss u) u r (mark_down 1 u r) (mark_up 1 u r));
      }
      go v (fan_left u p l g) s o =
          absurd (impossible a (oo u ∷ r) i (mark 1) d P.1 (λ c h. h.0)
          (shift_in (oo u) a r (at_level i (mark 1) d) ((o (at_level i (mark 1) d)).0 t)))

  fall_croissant : (x : A) (i : ℕ) (w : List Change) → HasNode N x kind.Croissant i → (a r : Stack) →
      Inside N is_net B (slot x 0) x i a → St (slot x 0) a r → Out w a r →
      Now (slot x 1) (fall kind.Croissant i 0 ∷ w)
  fall_croissant x i w h [] r P s o = absurd P
  fall_croissant x i w h (v ∷ a) r P s o = go v (croissant_reads x i h a v P.2) s o
    where
      moved : St (slot x 0) (nil ∷ a) r → St (slot x 1) a r
      moved s = stacked_moved N B.boxes (slot x 0) (slot x 1) (nil ∷ a) a r
          (λ k. back here (cross (node i h croissant))) s

      same : (v : Pat) → Matches v empty → Iff (at_level i (cons empty)) (v ∷ a) r a r
      same v m = shifted_iff v a r r a r (at_level i (cons empty))
          (level_iff a (v ∷ r) r i (cons empty) P.1 (λ c h. h.1) (λ c h. (m, h))) (λ d. (λ t. t, λ t. t))

      go : (v : Pat) → CroissantReads v → St (slot x 0) (v ∷ a) r → Out w (v ∷ a) r →
          Now (slot x 1) (fall kind.Croissant i 0 ∷ w)
      go v croissant_any s o = record {
        low = a;
        high = r;
        place = (kind.Croissant, i, h, (P.0, P.1));
        stacked = moved (stacked_refined N B.boxes (slot x 0) (any ∷ a) r s (nil ∷ a) (tt, refs_self a));
        out = fallen w (at_level i (cons empty)) (any ∷ a) r a r o (same any tt);
      }
      go v croissant_nil s o = record {
        low = a;
        high = r;
        place = (kind.Croissant, i, h, (P.0, P.1));
        stacked = moved s;
        out = fallen w (at_level i (cons empty)) (nil ∷ a) r a r o (same nil tt);
      }

  fall_bracket : (x : A) (i : ℕ) (w : List Change) → HasNode N x kind.Bracket i → (a r : Stack) →
      Inside N is_net B (slot x 0) x i a → St (slot x 0) a r → Out w a r →
      Now (slot x 1) (fall kind.Bracket i 0 ∷ w)
  fall_bracket x i w h [] r P s o = absurd P
  fall_bracket x i w h (v ∷ a) r P s o = go v (bracket_reads x i h a v P.2) s o
    where
      moved : (u v : Pat) → St (slot x 0) (pp u v ∷ a) r → St (slot x 1) (u ∷ v ∷ a) r
      moved u v s = stacked_moved N B.boxes (slot x 0) (slot x 1) (pp u v ∷ a) (u ∷ v ∷ a) r
          (λ k. back here (cross (node i h bracket))) s

      same : (x' u v : Pat) → ((c : Context) → Below (x' ∷ r) (packed c) → Below (v ∷ u ∷ r) c) →
          ((c : Context) → Below (v ∷ u ∷ r) c → Below (x' ∷ r) (packed c)) →
          Iff (at_level i packed) (x' ∷ a) r (u ∷ v ∷ a) r
      same x' u v f g = shifted_iff x' a r (v ∷ u ∷ r) (u ∷ v ∷ a) r (at_level i packed)
          (level_iff a (x' ∷ r) (v ∷ u ∷ r) i packed P.1 f g) (shift_two u v a r)

      box_here : (v : Pat) → Good N B.boxes (box_of (B.boxes x i) a v) →
          Good N B.boxes (box_of (B.boxes x (length a)) a v)
      box_here v g = subst (λ n. Good N B.boxes (box_of (B.boxes x n) a v)) (sym P.1) g

      go : (v : Pat) → BracketReads x i a v → St (slot x 0) (v ∷ a) r → Out w (v ∷ a) r →
          Now (slot x 1) (fall kind.Bracket i 0 ∷ w)
      go v bracket_any s o =
          let l = is_net.some_link (slot x 1) (kind.Bracket, i, h, omega arith) in
          record {
            low = any ∷ any ∷ a;
            high = r;
            place = (kind.Bracket, i, h, ((box_here any unknown, P.0), ap suc P.1, (l.0, l.1, unread)));
            stacked = moved any any
                (stacked_refined N B.boxes (slot x 0) (any ∷ a) r s (pp any any ∷ a) (tt, refs_self a));
            out = fallen w (at_level i packed) (any ∷ a) r (any ∷ any ∷ a) r o
                (same any any any (λ c h. (tt, (tt, h.1))) (λ c h. (tt, h.1.1)));
          }
      go v (bracket_pair u t p l g g') s o = record {
        low = u ∷ t ∷ a;
        high = r;
        place = (kind.Bracket, i, h, ((box_here t g, P.0), ap suc P.1, (p, l, g')));
        stacked = moved u t s;
        out = fallen w (at_level i packed) (pp u t ∷ a) r (u ∷ t ∷ a) r o
            (same (pp u t) u t (λ c h. (h.0.1, (h.0.0, h.1))) (λ c h. ((h.1.0, h.0), h.1.1)));
      }

  pub now_falls : (x : A) (k : Kind) (i s : ℕ) (w : List Change) (d : Context) → HasNode N x k i → s < arity k →
      ComesOut w (up k i s d) → Now (slot x 0) w → Now (slot x (suc s)) (fall k i s ∷ w)
  now_falls x kind.Lam i zero w d h b t n =
      let P = at_node N is_net B x kind.Lam i 0 n.low h n.place in
      let o = own_taken x kind.Lam i is_lam h n.low n.high P.1 w n.out n.stacked d t in
      record { low = n.low; high = o.high; place = (kind.Lam, i, h, P); stacked = o.stacked; out = o.before }
  now_falls x kind.Lam i (suc zero) w d h b t n =
      let P = at_node N is_net B x kind.Lam i 0 n.low h n.place in
      let o = box_taken x kind.Lam i is_lam h n.low n.high (lam_any x i h n.low) P.1 w n.out
      n.stacked d t in
      record {
        low = o.value ∷ n.low;
        high = o.high;
        place = lam_place x i h n.low o.value P o.put;
        stacked = o.stacked;
        out = o.before;
      }
  now_falls x kind.Lam i (suc (suc s)) w d h b t n = absurd (omega arith)
  now_falls x kind.App i zero w d h b t n =
      let P = at_node N is_net B x kind.App i 0 n.low h n.place in
      let o = own_taken x kind.App i is_app h n.low n.high P.1 w n.out n.stacked d t in
      record { low = n.low; high = o.high; place = (kind.App, i, h, P); stacked = o.stacked; out = o.before }
  now_falls x kind.App i (suc zero) w d h b t n =
      let P = at_node N is_net B x kind.App i 0 n.low h n.place in
      let o = box_taken x kind.App i is_app h n.low n.high (by_app i h unknown) P.1 w n.out
      n.stacked d t in
      record {
        low = o.value ∷ n.low;
        high = o.high;
        place = app_place x i h n.low o.value P o.put;
        stacked = o.stacked;
        out = o.before;
      }
  now_falls x kind.App i (suc (suc s)) w d h b t n = absurd (omega arith)
  now_falls x kind.Fan i zero w d h b t n =
      fall_fan_o x i w h n.low n.high (at_node N is_net B x kind.Fan i 0 n.low h n.place) n.stacked n.out d t
  now_falls x kind.Fan i (suc zero) w d h b t n =
      fall_fan_s x i w h n.low n.high (at_node N is_net B x kind.Fan i 0 n.low h n.place) n.stacked n.out d t
  now_falls x kind.Fan i (suc (suc s)) w d h b t n = absurd (omega arith)
  now_falls x kind.Croissant i zero w d h b t n =
      fall_croissant x i w h n.low n.high (at_node N is_net B x kind.Croissant i 0 n.low h n.place) n.stacked n.out
  now_falls x kind.Croissant i (suc s) w d h b t n = absurd (omega arith)
  now_falls x kind.Bracket i zero w d h b t n =
      fall_bracket x i w h n.low n.high (at_node N is_net B x kind.Bracket i 0 n.low h n.place) n.stacked n.out
  now_falls x kind.Bracket i (suc s) w d h b t n = absurd (omega arith)
  now_falls x kind.Eraser i s w d h b t n = absurd (omega arith)

  -- ---- each walk

  pub stands : {p : NamedPort A} {w : List Change} → Reaches N p w → Now p w
  stands (begins {p = p} h) =
      let t = begun N is_net B p h in
      record {
        low = unknowns t.0;
        high = [];
        place = t.1;
        stacked = s_nil refl;
        out = λ d. (λ u. all_fit t.0 d, λ u. tt);
      }
  stands (along {p = p} {q = q} {w = w} r h) =
      let n = stands r in record {
        low = n.low;
        high = n.high;
        place = place_along N is_net B p q n.low h n.place;
        stacked = stacked_moved N B.boxes p q n.low n.low n.high (λ k. back here (link h)) n.stacked;
        out = n.out;
      }
  stands (rises {x = x} {s = s} {w = w} k i r h b) = now_rises x k i s w h b (stands r)
  stands (falls {x = x} {s = s} {w = w} k i d r h b t) = now_falls x k i s w d h b t (stands r)
  stands (alike {v = v} {w = w} r h) =
      let n = stands r in record {
        low = n.low;
        high = n.high;
        place = n.place;
        stacked = n.stacked;
        out = λ d. (λ t. (n.out d).0 ((h d).1 t), λ t. (h d).0 ((n.out d).1 t));
      }

  -- ---- no walk is blocked

  abbrev GoesOn : Kind → ℕ → List Change → Type 0
  GoesOn k i w = (s : ℕ) × (d : Context) × (s < arity k) × ComesOut w (up k i s d)

  on_fan : (x : A) (i : ℕ) (w : List Change) → HasNode N x kind.Fan i → (a r : Stack) →
      Inside N is_net B (slot x 0) x i a → Out w a r → (d : Context) → ComesOut w d → GoesOn kind.Fan i w
  on_fan x i w h [] r P o d t = absurd P
  on_fan x i w h (v ∷ a) r P o d t = go v (fan_reads x i h a v P.2) o ((o d).0 t)
    where
      go : (v : Pat) → FanReads x a v → Out w (v ∷ a) r → Inst (v ∷ a) r d → GoesOn kind.Fan i w
      go v fan_any o t = (
        0,
        d,
        omega arith,
        (o (at_level i (mark 0) d)).1 (shift_out any a r (at_level i (mark 0) d)
            (cross_up a (any ∷ r) (any ∷ r) i (mark 0) P.1 (λ c h. (tt, h.1)) d (shift_in any a r d t))),
      )
      go v (fan_left u p l g) o t =
          let y = cross_from a (u ∷ r) (oo u ∷ r) i (mark 0) P.1 (mark_from 0 u r) d (shift_in (oo u) a r d t) in
          (0, y.0, omega arith, subst (λ d. ComesOut w d) (sym y.2) ((o d).1 t))
      go v (fan_right u p l g) o t =
          let y = cross_from a (u ∷ r) (ss u ∷ r) i (mark 1) P.1 (mark_from 1 u r) d (shift_in (ss u) a r d t) in
          (1, y.0, omega arith, subst (λ d. ComesOut w d) (sym y.2) ((o d).1 t))

  on_croissant : (x : A) (i : ℕ) (w : List Change) → HasNode N x kind.Croissant i → (a r : Stack) →
      Inside N is_net B (slot x 0) x i a → Out w a r → (d : Context) → ComesOut w d → GoesOn kind.Croissant i w
  on_croissant x i w h [] r P o d t = absurd P
  on_croissant x i w h (v ∷ a) r P o d t = go v (croissant_reads x i h a v P.2) o ((o d).0 t)
    where
      go : (v : Pat) → CroissantReads v → Out w (v ∷ a) r → Inst (v ∷ a) r d → GoesOn kind.Croissant i w
      go v croissant_any o t =
          let y = drop_any a r d (shift_in any a r d t) in (
            0,
            y.0,
            omega arith,
            (o (at_level i (cons empty) y.0)).1 (shift_out any a r (at_level i (cons empty) y.0)
                (cross_up a r (any ∷ r) i (cons empty) P.1 (λ c h. (tt, h)) y.0 y.1)),
          )
      go v croissant_nil o t =
          let y = cross_from a r (nil ∷ r) i (cons empty) P.1 (nil_from r) d (shift_in nil a r d t) in
          (0, y.0, omega arith, subst (λ d. ComesOut w d) (sym y.2) ((o d).1 t))

  on_bracket : (x : A) (i : ℕ) (w : List Change) → HasNode N x kind.Bracket i → (a r : Stack) →
      Inside N is_net B (slot x 0) x i a → Out w a r → (d : Context) → ComesOut w d → GoesOn kind.Bracket i w
  on_bracket x i w h [] r P o d t = absurd P
  on_bracket x i w h (v ∷ a) r P o d t = go v (bracket_reads x i h a v P.2) o ((o d).0 t)
    where
      go : (v : Pat) → BracketReads x i a v → Out w (v ∷ a) r → Inst (v ∷ a) r d → GoesOn kind.Bracket i w
      go v bracket_any o t =
          let y = add_any a (any ∷ r) d (shift_in any a r d t) in (
            0,
            y.0,
            omega arith,
            (o (at_level i packed y.0)).1 (shift_out any a r (at_level i packed y.0)
                (cross_up a (any ∷ any ∷ r) (any ∷ r) i packed P.1 (λ c h. (tt, h.1.1)) y.0 y.1)),
          )
      go v (bracket_pair u s p l g g') o t =
          let y = cross_from a (s ∷ u ∷ r) (pp u s ∷ r) i packed P.1 (pair_from u s r) d
          (shift_in (pp u s) a r d t) in
          (0, y.0, omega arith, subst (λ d. ComesOut w d) (sym y.2) ((o d).1 t))

  goes_on : (x : A) (k : Kind) (i : ℕ) (w : List Change) → HasNode N x k i → IsCrosser k → Now (slot x 0) w →
      (d : Context) → ComesOut w d → GoesOn k i w
  goes_on x kind.Fan i w h o n d t =
      on_fan x i w h n.low n.high (at_node N is_net B x kind.Fan i 0 n.low h n.place) n.out d t
  goes_on x kind.Croissant i w h o n d t =
      on_croissant x i w h n.low n.high (at_node N is_net B x kind.Croissant i 0 n.low h n.place) n.out d t
  goes_on x kind.Bracket i w h o n d t =
      on_bracket x i w h n.low n.high (at_node N is_net B x kind.Bracket i 0 n.low h n.place) n.out d t
  goes_on x kind.Lam i w h o n d t = absurd o
  goes_on x kind.App i w h o n d t = absurd o
  goes_on x kind.Eraser i w h o n d t = absurd o

  -- A levelled net in boxes is unblocked.
  pub unblocked : IsUnblocked N
  unblocked x k i w h o r = let t = passes N r in goes_on x k i w h o (stands r) t.0 t.1
