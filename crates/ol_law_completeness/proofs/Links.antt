-- Rows of crossings that lead each context on, and links of several links, which such a row joins.
-- Used in Traces, First and OnlyStrong.
use Rattle.std.proofs.Common.{◌≡◌, ℕ, suc, ◌<◌, ◌≤◌, List, [], ◌∷◌, ◌++◌, length, length-append, refl, sym, ap}
use Rattle.std.proofs.Common.{subst, arith}
use Rattle.ol_context.specs.Contexts.{Level, Context, cons, at_level, change, up}
use Rattle.ol_law_optimality.specs.Words.{turned}
use Rattle.ol_law_optimality.specs.Redexes.{Carries, put}
use Rattle.ol_law_optimality.specs.Routes.{Crossing, rise, fall, Row, along, rises, falls}
use Rattle.ol_net.specs.Nets.{NamedNet, NamedPort, slot, HasNode, Linked, IsNet}
use Rattle.ol_net.specs.Parts.{arity}
use Rattle.ol_net.specs.declared.parts.Kind.{Kind}
use Rattle.ol_rules.proofs.FreshPairs.{linked_sym}
use Rattle.ol_rules.specs.declared.journal.NodeName.{NodeName}

-- levels before a part's own stay as they are
pub at_put : (L : List Level) (g : Context → Context) (c : Context) → at_level (length L) g (put L c) ≡ put L (g c)
at_put [] g c = refl
at_put (v ∷ L) g c = ap (cons v) (at_put L g c)

pub length_turned : (w : List (Crossing NodeName)) → length (turned w) ≡ length w
length_turned [] = refl
length_turned (rise x s ∷ w) =
    let e = length_turned w in let f = length-append (turned w) (fall x s ∷ []) in omega (arith, e, f)
length_turned (fall x s ∷ w) =
    let e = length_turned w in let f = length-append (turned w) (rise x s ∷ []) in omega (arith, e, f)

-- Having left port p with context c, a walk makes these crossings, and has left port q with context d.
pub data Goes (N : NamedNet NodeName) : NamedPort NodeName → Context → List (Crossing NodeName) → NamedPort NodeName →
    Context → Type 0 where
  stays : {p : NamedPort NodeName} {c : Context} → Goes N p c [] p c
  goes_up : {p q : NamedPort NodeName} {c d : Context} {x : NodeName} {s : ℕ} {w : List (Crossing NodeName)} (k : Kind) (i : ℕ) →
      Linked N p (slot x (suc s)) → HasNode N x k i → s < arity k → Goes N (slot x 0) (up k i s c) w q d →
      Goes N p c (rise x s ∷ w) q d
  goes_down : {p q : NamedPort NodeName} {c d : Context} {x : NodeName} {s : ℕ} {w : List (Crossing NodeName)} (k : Kind) (i : ℕ)
      (b : Context) → Linked N p (slot x 0) → HasNode N x k i → s < arity k → up k i s b ≡ c →
      Goes N (slot x (suc s)) b w q d → Goes N p c (fall x s ∷ w) q d

module _ (N : NamedNet NodeName) where
  pub goes_on : {p : NamedPort NodeName} {c : Context} {w : List (Crossing NodeName)} {q : NamedPort NodeName} {d : Context}
      {v : List (Crossing NodeName)} {r : NamedPort NodeName} {e : Context} →
      Goes N p c w q d → Goes N q d v r e → Goes N p c (w ++ v) r e
  goes_on stays on = on
  goes_on (goes_up k i l h b g) on = goes_up k i l h b (goes_on g on)
  goes_on (goes_down k i a l h b e g) on = goes_down k i a l h b e (goes_on g on)

  pub goes_at : {p q r : NamedPort NodeName} {c d e : Context} {w : List (Crossing NodeName)} → p ≡ r → c ≡ e →
      Goes N r e w q d → Goes N p c w q d
  goes_at {q = q} {r = r} {c = c} {d = d} {w = w} g h on =
      subst (λ p. Goes N p c w q d) (sym g) (subst (λ c. Goes N r c w q d) (sym h) on)

  pub goes_to : {p q r : NamedPort NodeName} {c d e : Context} {w : List (Crossing NodeName)} → q ≡ r → d ≡ e →
      Goes N p c w q d → Goes N p c w r e
  goes_to {p} {q = q} {r = r} {c = c} {d = d} {w = w} g h on =
      subst (λ d. Goes N p c w r d) h (subst (λ q. Goes N p c w q d) g on)

  -- through one node, where these levels stand before its own
  pub upwards : {p : NamedPort NodeName} {x : NodeName} (k : Kind) {i : ℕ} (s : ℕ) (L : List Level) (c : Context) →
      HasNode N x k i → length L ≡ i → s < arity k → Linked N p (slot x (suc s)) →
      Goes N p (put L c) (rise x s ∷ []) (slot x 0) (put L (change k s c))
  upwards {p} {x} k {i} s L c h e b l =
      let f = subst (λ i. at_level i (change k s) (put L c) ≡ put L (change k s c)) e (at_put L (change k s) c) in
      goes_up k i l h b (subst (λ d. Goes N (slot x 0) (at_level i (change k s) (put L c)) [] (slot x 0) d) f stays)

  pub downwards : {p : NamedPort NodeName} {x : NodeName} (k : Kind) {i : ℕ} (s : ℕ) (L : List Level) (c : Context) →
      HasNode N x k i → length L ≡ i → s < arity k → Linked N p (slot x 0) →
      Goes N p (put L (change k s c)) (fall x s ∷ []) (slot x (suc s)) (put L c)
  downwards {x = x} k {i} s L c h e b l =
      goes_down k i (put L c) l h b
      (subst (λ i. at_level i (change k s) (put L c) ≡ put L (change k s c)) e (at_put L (change k s) c)) stays

  -- it is a row, and carries the context
  pub goes_row : {p : NamedPort NodeName} {c : Context} {w : List (Crossing NodeName)} {q r : NamedPort NodeName} {d : Context} →
      Goes N p c w q d → Linked N q r → Row N p w r
  goes_row stays l = along l
  goes_row (goes_up k i l' h b g) l = rises k i l' h b (goes_row g l)
  goes_row (goes_down k i c l' h b e g) l = falls k i l' h b (goes_row g l)

  pub goes_carries : {p : NamedPort NodeName} {c : Context} {w : List (Crossing NodeName)} {q : NamedPort NodeName} {d : Context} →
      Goes N p c w q d → Carries N c w d
  goes_carries stays = refl
  goes_carries (goes_up k i l' h b g) = (k, i, h, b, goes_carries g)
  goes_carries (goes_down k i c l' h b e g) = (k, i, h, b, c, e, goes_carries g)

  module _ (net : IsNet N) where
    mate_of : (x : NodeName) (k : Kind) (i s : ℕ) → HasNode N x k i → s ≤ arity k →
        (q : NamedPort NodeName) × Linked N (slot x s) q
    mate_of x k i s h b = net.some_link (slot x s) (k, i, h, b)

    -- the way back
    pub back : {p : NamedPort NodeName} {c : Context} {w : List (Crossing NodeName)} {q : NamedPort NodeName} {d : Context} →
        Goes N p c w q d → {q' p' : NamedPort NodeName} → Linked N q q' → Linked N p p' → Goes N q' d (turned w) p' c
    back (stays {p = p} {c = c}) {q'} {p'} l l' =
        subst (λ r. Goes N q' c [] r c) (net.one_link p q' p' l l') stays
    back (goes_up {p = p} {c = c} {x = x} {s = s} k i l0 h b g) {q'} {p'} l l' =
        let r = mate_of x k i 0 h (omega arith) in
        goes_on (back g l r.1)
        (goes_down k i c (linked_sym N (slot x 0) r.0 r.1) h b refl
        (subst (λ p'. Goes N (slot x (suc s)) c [] p' c) (net.one_link p (slot x (suc s)) p' l0 l') stays))
    back (goes_down {p = p} {c = c} {x = x} {s = s} k i a l0 h b e g) {q'} {p'} l l' =
        let r = mate_of x k i (suc s) h (omega (arith, b)) in
        goes_on (back g l r.1)
        (goes_up k i (linked_sym N (slot x (suc s)) r.0 r.1) h b
        (subst (λ d. Goes N (slot x 0) (up k i s a) [] p' d) e
        (subst (λ p'. Goes N (slot x 0) (up k i s a) [] p' (up k i s a)) (net.one_link p (slot x 0) p' l0 l') stays)))

-- A link of a part: from the port that asks for it, along links and through nodes, to its root. Whatever
-- its own levels are, the context is led from the one end to the other.
pub record Link (N : NamedNet NodeName) : Type 0 where
  pub port : NamedPort NodeName
  pub mate : NamedPort NodeName
  pub last_port : NamedPort NodeName
  pub last_mate : NamedPort NodeName
  pub begins : Linked N port mate
  pub ends : Linked N last_port last_mate
  pub from : Level → Context → Context
  pub to : Level → Context → Context
  pub row : List (Crossing NodeName)
  pub goes : (v : Level) (c : Context) → Goes N port (from v c) row last_port (to v c)

-- more before it
abbrev pub prefixed : {N : NamedNet NodeName} (p mate : NamedPort NodeName) → Linked N p mate → (F : Level → Context → Context)
    (w : List (Crossing NodeName)) (l : Link N) →
    ((v : Level) (c : Context) → Goes N p (F v c) w l.port (l.from v c)) → Link N
prefixed {N} p mate b F w l g = record {
  port = p;
  mate = mate;
  last_port = l.last_port;
  last_mate = l.last_mate;
  begins = b;
  ends = l.ends;
  from = F;
  to = l.to;
  row = w ++ l.row;
  goes = λ v c. goes_on N (g v c) (l.goes v c);
}

-- one link
abbrev pub single : {N : NamedNet NodeName} (p mate : NamedPort NodeName) → Linked N p mate → (F : Level → Context → Context) → Link N
single p mate b F = record {
  port = p;
  mate = mate;
  last_port = p;
  last_mate = mate;
  begins = b;
  ends = b;
  from = F;
  to = F;
  row = [];
  goes = λ v c. stays;
}
