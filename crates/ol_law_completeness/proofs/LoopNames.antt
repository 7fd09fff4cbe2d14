-- A loop of a net with other names, and with its lists in another order, is a loop of the net.
-- Used in NoRing.
use Rattle.std.proofs.Common.{◌≡◌, ℕ, suc, ◌≤◌, List, [], ◌∷◌, refl, sym, ap, ◌∙◌, subst, arith}
use Rattle.ol_context.specs.Contexts.{Context, up}
use Rattle.ol_law_optimality.specs.Routes.{Crossing, rise, fall}
use Rattle.ol_net.specs.Nets.{NamedNet, NamedPort, slot, HasNode, Linked, SameNet, port_under, net_under}
use Rattle.ol_net.specs.declared.parts.Kind.{Kind}
use Rattle.ol_rules.proofs.Renaming.{node_from, link_from, one_port, node_back, link_back}
use Rattle.ol_law_completeness.proofs.Lines.{Line, stop, rises, falls, Leads, climbs, ups, downs, Loop}

module _ {A B : Type 0} (m : A → B) (one : (x y : A) → m x ≡ m y → x ≡ y) (N K : NamedNet A) (same : SameNet K N) where
  node_here : (x : A) (y : B) (k : Kind) (i : ℕ) → HasNode (net_under m K) y k i → y ≡ m x → HasNode N x k i
  node_here x y k i h e = (same.nodes x k i).0 (node_back m one K x k i (subst (λ y. HasNode (net_under m K) y k i) e h))

  link_here : (p q : NamedPort A) (P Q : NamedPort B) → Linked (net_under m K) P Q → P ≡ port_under m p → Q ≡ port_under m q →
      Linked N p q
  link_here p q P Q l e f =
      (same.links p q).0 (link_back m one K p q
      (subst (λ Q. Linked (net_under m K) (port_under m p) Q) f (subst (λ P. Linked (net_under m K) P Q) e l)))

  record Unnamed (p : NamedPort A) {P Q : NamedPort B} {w : List (Crossing B)} (r : Line (net_under m K) P w Q) : Type 0 where
    end : NamedPort A
    is : Q ≡ port_under m end
    row : List (Crossing A)
    line : Line N p row end
    leads : (c d : Context) → Leads r c d → Leads line c d
    same_climbs : climbs row ≡ climbs w
    same_ups : ups line ≡ ups r
    same_downs : downs line ≡ downs r

  unnamed : (p : NamedPort A) {P Q : NamedPort B} {w : List (Crossing B)} (r : Line (net_under m K) P w Q) →
      P ≡ port_under m p → Unnamed p r
  unnamed p stop e = record {
    end = p;
    is = e;
    row = [];
    line = stop;
    leads = λ c d h. h;
    same_climbs = refl;
    same_ups = refl;
    same_downs = refl;
  }
  unnamed p (rises {p = P} {x = x} {s = s} k i l h b r) e =
      let n = node_from m K x k i h in
      let U = unnamed (slot n.0 0) r (ap (λ x. slot x 0) n.2) in
      let f = U.same_climbs in
      let g = U.same_ups in
      record {
        end = U.end;
        is = U.is;
        row = rise n.0 s ∷ U.row;
        line = rises k i (link_here p (slot n.0 (suc s)) P (slot x (suc s)) l e (ap (λ x. slot x (suc s)) n.2))
            (node_here n.0 x k i h n.2) b U.line;
        leads = λ c d t. U.leads (up k i s c) d t;
        same_climbs = omega (arith, f);
        same_ups = omega (arith, g);
        same_downs = U.same_downs;
      }
  unnamed p (falls {p = P} {x = x} {s = s} k i l h b r) e =
      let n = node_from m K x k i h in
      let U = unnamed (slot n.0 (suc s)) r (ap (λ x. slot x (suc s)) n.2) in
      let g = U.same_downs in
      record {
        end = U.end;
        is = U.is;
        row = fall n.0 s ∷ U.row;
        line = falls k i (link_here p (slot n.0 0) P (slot x 0) l e (ap (λ x. slot x 0) n.2)) (node_here n.0 x k i h n.2) b U.line;
        leads = λ c d t. (t.0, t.1, U.leads t.0 d t.2);
        same_climbs = U.same_climbs;
        same_ups = U.same_ups;
        same_downs = omega (arith, g);
      }

  -- where a line begins
  first_port : {P Q : NamedPort B} {w : List (Crossing B)} → Line (net_under m K) P w Q → 1 ≤ climbs w →
      (p : NamedPort A) × (P ≡ port_under m p)
  first_port stop h = absurd (omega (arith, h))
  first_port (rises {p = P} {x = x} {s = s} k i l h b r) g = let t = link_from m K P (slot x (suc s)) l in (t.0, t.2)
  first_port (falls {p = P} {x = x} k i l h b r) g = let t = link_from m K P (slot x 0) l in (t.0, t.2)

  pub loop_unnamed : Loop (net_under m K) → Loop N
  loop_unnamed L =
      let t = first_port L.line L.some in
      let U = unnamed t.0 L.line t.1 in
      let some = L.some in
      let balance = L.balance in
      let f = U.same_climbs in
      let g = U.same_ups in
      let h = U.same_downs in
      let Z = closed t.0 U.row U.end (one_port m one U.end t.0 (sym U.is ∙ t.1)) U.line
      (λ c. U.leads (L.at c) (L.at (L.change c)) (L.leads c)) (omega (arith, balance, g, h)) in
      record {
        port = t.0;
        row = U.row;
        line = Z.0;
        some = omega (arith, some, f);
        at = L.at;
        change = L.change;
        leads = Z.1;
        balance = Z.2;
      }
    where
      closed : (p : NamedPort A) (w : List (Crossing A)) (q : NamedPort A) → q ≡ p → (r : Line N p w q) →
          ((c : Context) → Leads r (L.at c) (L.at (L.change c))) → downs r ≤ ups r →
          (r : Line N p w p) × ((c : Context) → Leads r (L.at c) (L.at (L.change c))) × (downs r ≤ ups r)
      closed p w q e r l b =
          subst (λ q. (r : Line N p w q) × ((c : Context) → Leads r (L.at c) (L.at (L.change c))) × (downs r ≤ ups r)) e (r, l, b)
