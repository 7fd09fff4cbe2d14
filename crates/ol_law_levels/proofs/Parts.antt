-- The parts of a term's net fit their level: their links, their roots and their wires.
-- Used in Terms.
use Rattle.std.proofs.Common.{◌≡◌, ℕ, zero, suc, ◌+◌, List, [], ◌∷◌, ◌++◌, length, Bool, true}
use Rattle.std.proofs.Common.{false, not, nat_eq, nat_lt, Option, None, Some, ◌⊎◌, inl, inr, refl}
use Rattle.std.proofs.Common.{sym, ap, ◌∙◌, arith, subst, length-append}
use Rattle.ol_term.specs.declared.translations.Translation.{Translation}
use Rattle.ol_term.specs.Trees.{Tree}
use Rattle.ol_term.specs.Trees as trees
use Rattle.ol_net.specs.Parts.{is_eraser}
use Rattle.ol_net.specs.declared.parts.Kind.{Kind}
use Rattle.ol_net.specs.declared.parts.Kind.TheVariants as kind
use Rattle.ol_net.specs.declared.parts.Port.{Port}
use Rattle.ol_net.specs.declared.parts.Port.TheVariants.{Free, Of}
use Rattle.ol_translate.specs.Translation.{Subnet, subnet_of, occurrence, abstraction, application, application_to}
use Rattle.ol_translate.specs.Translation.{applied, bare_variable, erasers, bound_port, outside, bracket_nodes}
use Rattle.ol_translate.specs.Translation.{bracket_links, past_brackets, fans, fan_nodes, fan_links, merged, wire_of}
use Rattle.ol_translate.specs.Translation.{reconnected, slot_port}
use Rattle.ol_translate.proofs.Walks.{length-bracket_nodes}
use Rattle.ol_law_meaning.proofs.Fans.{Holds, Links, holds_append, by_wire, wire_here, wire_later}
use Rattle.ol_law_levels.specs.Levels.{depth_beside, out_beside}

-- slot 0 of a node of a term's net
abbrev pub depth_first : Kind × ℕ → ℕ
depth_first (kind.Lam, i) = i
depth_first (kind.App, i) = i
depth_first (k, i) = suc i

abbrev pub out_first : Kind → Bool
out_first kind.Lam = true
out_first k = false

abbrev pub depth_slot : Option (Kind × ℕ) → ℕ → ℕ
depth_slot None s = 0
depth_slot (Some k) zero = depth_first k
depth_slot (Some k) (suc s) = depth_beside k.0 s (depth_first k)

abbrev pub out_slot : Option (Kind × ℕ) → ℕ → Bool
out_slot None s = false
out_slot (Some k) zero = out_first k.0
out_slot (Some k) (suc s) = out_beside k.0 s (out_first k.0)

abbrev pub erased : Option (Kind × ℕ) → Bool
erased None = false
erased (Some k) = is_eraser k.0

pub links_join : (L : Port → Port → Type 0) (xs ys : List (Port × Port)) → Links L xs →
    Links L ys → Links L (xs ++ ys)
links_join L [] ys h h' = h'
links_join L (x ∷ xs) ys h h' = (h.0, links_join L xs ys h.1 h')

-- by the nodes that stand under the numbers; erasers aside
module _ (node : ℕ → Option (Kind × ℕ)) where
  abbrev pub depth_at : Port → ℕ
  depth_at (Free zero) = 0
  depth_at (Free (suc f)) = 1
  depth_at (Of n s) = depth_slot (node n.0) s

  abbrev pub out_at : Port → Bool
  out_at (Free zero) = false
  out_at (Free (suc f)) = true
  out_at (Of n s) = out_slot (node n.0) s

  abbrev pub erased_at : Port → Bool
  erased_at (Free f) = false
  erased_at (Of n s) = erased (node n.0)

  pub record At (p : Port) (d : ℕ) (out : Bool) : Type 0 where
    pub depth : depth_at p ≡ d
    pub is_out : out_at p ≡ out
    pub plain : erased_at p ≡ false

  -- a link of two ports of one depth, or one to an eraser
  pub record Plain (p q : Port) : Type 0 where
    pub depths : depth_at p ≡ depth_at q
    pub outs : out_at p ≡ not (out_at q)
    pub first : erased_at p ≡ false
    pub second : erased_at q ≡ false

  pub record Erases (p q : Port) : Type 0 where
    pub first : erased_at p ≡ false
    pub number : ℕ
    pub index : ℕ
    pub second : q ≡ slot_port number 0
    pub eraser : node number ≡ Some (kind.Eraser, index)

  abbrev pub Fits : Port → Port → Type 0
  Fits p q = Plain p q ⊎ Erases p q

  abbrev pub H : ℕ → Kind → ℕ → Type 0
  H x K i = node x ≡ Some (K, i)

  abbrev pub Wired : ℕ → List (ℕ × Port) → Type 0
  Wired d [] = Unit {0}
  Wired d (w ∷ wires) = At w.1 d false × Wired d wires

  pub record FitsPart (n : ℕ) (P : Subnet) : Type 0 where
    pub links : Links Fits P.links
    pub root : At P.root n true
    pub wires : Wired (suc n) P.wires

  at_slot : (x : ℕ) (K : Kind) (i s : ℕ) → H x K i → is_eraser K ≡ false →
      At (slot_port x s) (depth_slot (Some (K, i)) s) (out_slot (Some (K, i)) s)
  at_slot x K i s h e = record {
    depth = ap (λ o. depth_slot o s) h;
    is_out =
        ap (λ o. out_slot o s) h;
    plain = ap erased h ∙ e;
  }

  deep : {p : Port} {d d' : ℕ} {out : Bool} → At p d out → d ≡ d' → At p d' out
  deep {p} {out = out} h e = subst (λ d. At p d out) e h

  pub meets : {p q : Port} {d : ℕ} {out : Bool} → At p d (not out) → At q d out → Fits p q
  meets h h' = inl (record {
    depths = h.depth ∙ sym h'.depth;
    outs = h.is_out
        ∙ ap not (sym h'.is_out);
    first = h.plain;
    second = h'.plain;
  })

  -- ---- wires

  wire_at : (d v : ℕ) (wires : List (ℕ × Port)) → Wired d wires → (p : Port) →
      wire_of v wires ≡ Some p → At p d false
  wire_at d v [] h p e = absurd (cc)
  wire_at d v (w ∷ wires) h p e = by_wire (At p d false) v w
      (λ t. let found : ◌≡◌ {A = Option Port} (Some w.1) (Some p) = sym (wire_here v w wires t)
      ∙ e in
      let same : w.1 ≡ p = cc in
      subst (λ q. At q d false) same h.0)
      (λ t. wire_at d v wires h.1 p (sym (wire_later v w wires t) ∙ e))

  wired_outside : (d : ℕ) (wires : List (ℕ × Port)) → Wired d wires → Wired d (outside wires)
  wired_outside d [] h = tt
  wired_outside d (w ∷ wires) h = go (wired_outside d wires h.1) (nat_lt 0 w.0) refl
    where
      go : Wired d (outside wires) → (b : Bool) → nat_lt 0 w.0 ≡ b → Wired d (outside (w ∷ wires))
      go rest true t = rw t (h.0, rest)
      go rest false t = rw t rest

  wired_last : (d : ℕ) (wires : List (ℕ × Port)) (w : ℕ × Port) → Wired d wires → At w.1 d false →
      Wired d (wires ++ w ∷ [])
  wired_last d [] w h a = (a, tt)
  wired_last d (u ∷ wires) w h a = (h.0, wired_last d wires w h.1 a)

  wired_again : (d v : ℕ) (p : Port) (wires : List (ℕ × Port)) → Wired d wires → At p d false →
      Wired d (reconnected v p wires)
  wired_again d v p [] h a = tt
  wired_again d v p (w ∷ wires) h a = go (wired_again d v p wires h.1 a) (nat_eq w.0 v) refl
    where
      go : Wired d (reconnected v p wires) → (b : Bool) → nat_eq w.0 v ≡ b →
          Wired d (reconnected v p (w ∷ wires))
      go rest true t = rw t (a, h.1)
      go rest false t = rw t (h.0, rest)

  -- ---- fans and brackets

  record Joins (n : ℕ) (links : List (Port × Port)) (wires : List (ℕ × Port)) : Type 0 where
    fit : Links Fits links
    wired : Wired (suc n) wires

  -- one fan, or one wire more
  one_fan : (n f : ℕ) (wires : List (ℕ × Port)) (w : ℕ × Port) (x : Option Port) →
      wire_of w.0 wires ≡ x → Holds H f (fan_nodes n x) → Wired (suc n) wires → At w.1 (suc n) false
      → Joins n (fan_links f x w.1) (merged f x w wires)
  one_fan n f wires w None e h ws a = record { fit = tt; wired = wired_last (suc n) wires w ws a }
  one_fan n f wires w (Some p) e h ws a = record {
    fit = (
      meets (at_slot f kind.Fan n 1 h.0 refl) (wire_at (suc n) w.0 wires ws p e),
      (meets (at_slot f kind.Fan n 2 h.0 refl) a, tt),
    );
    wired = wired_again (suc n) w.0 (slot_port f 0) wires ws (at_slot f kind.Fan n 0 h.0 refl);
  }

  all_fans : (n f : ℕ) (wires more : List (ℕ × Port)) → Holds H f (fans n f wires more).nodes →
      Wired (suc n) wires → Wired (suc n) more
      → Joins n (fans n f wires more).links (fans n f wires more).wires
  all_fans n f wires [] h ws ms = record { fit = tt; wired = ws }
  all_fans n f wires (w ∷ more) h ws ms =
      let f' = f + length (fan_nodes n (wire_of w.0 wires)) in
      let rest = fans n f' (merged f (wire_of w.0 wires) w wires) more in
      let nodes = holds_append H f f' (fan_nodes n (wire_of w.0 wires)) rest.nodes refl h in
      let one = one_fan n f wires w (wire_of w.0 wires) refl nodes.0 ws ms.0 in
      let others = all_fans n f' (merged f (wire_of w.0 wires) w wires) more nodes.1 one.wired ms.1
      in
      record {
        fit = links_join Fits (fan_links f (wire_of w.0 wires) w.1) rest.links one.fit
            others.fit;
        wired = others.wired;
      }

  all_brackets : (n b : ℕ) (wires : List (ℕ × Port)) → Holds H b (bracket_nodes n wires) →
      Wired (suc (suc n)) wires → Joins n (bracket_links b wires) (past_brackets b wires)
  all_brackets n b [] h ws = record { fit = tt; wired = tt }
  all_brackets n b (w ∷ wires) h ws =
      let rest = all_brackets n (b + 1) wires h.1 ws.1 in
      record {
        fit = (meets (at_slot b kind.Bracket n 1 h.0 refl) ws.0, rest.fit);
        wired =
            (at_slot b kind.Bracket n 0 h.0 refl, rest.wired);
      }

  -- ---- terms

  fits_occurrence : (v n k : ℕ) → Holds H k (occurrence v n k).nodes → FitsPart n (occurrence v n k)
  fits_occurrence v n k h = record {
    links = tt;
    root = deep (at_slot k kind.Croissant n 1 h.0 refl) (omega arith);
    wires = (at_slot k kind.Croissant n 0 h.0 refl, tt);
  }

  bound_link : (n k e : ℕ) (wires : List (ℕ × Port)) (x : Option Port) → wire_of 0 wires ≡ x →
      H k kind.Lam n → Holds H e (erasers x) → Wired (suc n) wires →
      Fits (slot_port k 2) (bound_port x e)
  bound_link n k e wires None q h es ws =
      inr (record {
        first = (at_slot k kind.Lam n 2 h refl).plain;
        number = e;
        index = 0;
        second =
            refl;
        eraser = es.0;
      })
  bound_link n k e wires (Some p) q h es ws =
      meets (at_slot k kind.Lam n 2 h refl) (wire_at (suc n) 0 wires ws p q)

  fits_abstraction : (n k : ℕ) (M : Subnet) → Holds H k (abstraction n k M).nodes →
      (Holds H (k + 1) M.nodes → FitsPart n M) → FitsPart n (abstraction n k M)
  fits_abstraction n k M h ih =
      let e = k + 1 + length M.nodes in
      let nodes = holds_append H k e ((
        kind.Lam,
        n,
      ) ∷ M.nodes) (erasers (wire_of 0 M.wires)) (omega arith) h in
      let part = ih nodes.0.1 in
      let lam = nodes.0.0 in
      record {
        links = links_join Fits M.links ((slot_port k 1, M.root) ∷ (
          slot_port k 2,
          bound_port (wire_of 0 M.wires) e,
        ) ∷ []) part.links (
          meets (at_slot k kind.Lam n 1 lam refl) part.root,
          (bound_link n k e M.wires (wire_of 0 M.wires) refl lam nodes.1 part.wires, tt),
        );
        root = at_slot k kind.Lam n 0 lam refl;
        wires = wired_outside (suc n) M.wires part.wires;
      }

  fits_application : (n k : ℕ) (M N : Subnet) → Holds H k (application n k M N).nodes →
      (Holds H (k + 1) M.nodes → FitsPart n M) →
      (Holds H (k + 1 + length M.nodes) N.nodes → FitsPart (suc n) N)
      → FitsPart n (application n k M N)
  fits_application n k M N h ih ih' =
      let b = k + 1 + length M.nodes + length N.nodes in
      let f = b + length N.wires in
      let F = fans n f M.wires (past_brackets b N.wires) in
      let nodes1 = holds_append H k b (((
        kind.App,
        n,
      ) ∷ M.nodes) ++ N.nodes) (bracket_nodes n N.wires ++ F.nodes) (omega (
        arith,
        length-append M.nodes N.nodes,
      )) h in
      let nodes2 = holds_append H k (k + 1 + length M.nodes) ((
        kind.App,
        n,
      ) ∷ M.nodes) N.nodes (omega arith) nodes1.0 in
      let nodes3 = holds_append H b f (bracket_nodes n N.wires) F.nodes (omega (
        arith,
        length-bracket_nodes n N.wires,
      )) nodes1.1 in
      let left = ih nodes2.0.1 in
      let right = ih' nodes2.1 in
      let app = nodes2.0.0 in
      let brackets = all_brackets n b N.wires nodes3.0 right.wires in
      let all = all_fans n f M.wires (past_brackets b N.wires) nodes3.1 left.wires brackets.wired in
      record {
        links = links_join Fits (M.links ++ N.links) (((slot_port k 0, M.root) ∷ (
          slot_port k 2,
          N.root,
        ) ∷ []) ++ (bracket_links b N.wires ++ F.links))
            (links_join Fits M.links N.links left.links right.links) (
              meets (at_slot k kind.App n 0 app refl) left.root,
              (
                meets (at_slot k kind.App n 2 app refl) right.root,
                links_join Fits (bracket_links b N.wires) F.links brackets.fit all.fit,
              ),
            );
        root = at_slot k kind.App n 1 app refl;
        wires = all.wired;
      }

  fits_application_to : (n k y : ℕ) (M : Subnet) → Holds H k (application_to n k y M).nodes →
      (Holds H (k + 1) M.nodes → FitsPart n M) → FitsPart n (application_to n k y M)
  fits_application_to n k y M h ih =
      let f = k + 1 + length M.nodes in
      let F = fans n f M.wires ((y, slot_port k 2) ∷ []) in
      let nodes = holds_append H k f ((kind.App, n) ∷ M.nodes) F.nodes (omega arith) h in
      let part = ih nodes.0.1 in
      let app = nodes.0.0 in
      let all = all_fans n f M.wires ((
        y,
        slot_port k 2,
      ) ∷ []) nodes.1 part.wires (at_slot k kind.App n 2 app refl, tt) in
      record {
        links = links_join Fits M.links ((
          slot_port k 0,
          M.root,
        ) ∷ F.links) part.links (
          meets (at_slot k kind.App n 0 app refl) part.root,
          all.fit,
        );
        root = at_slot k kind.App n 1 app refl;
        wires = all.wired;
      }

  fits_applied : (n k : ℕ) (o : Option ℕ) (M N : Subnet) → Holds H k (applied n k o M N).nodes →
      (Holds H (k + 1) M.nodes → FitsPart n M) →
      (Holds H (k + 1 + length M.nodes) N.nodes → FitsPart (n + 1) N)
      → FitsPart n (applied n k o M N)
  fits_applied n k None M N h ih ih' = let e : n + 1 ≡ suc n = omega arith in
      fits_application n k M N h ih (λ h. subst (λ m. FitsPart m N) e (ih' h))
  fits_applied n k (Some y) M N h ih ih' = fits_application_to n k y M h ih

  pub fits_term : (w : Translation) (t : Tree) (d n k : ℕ) →
      Holds H k (subnet_of w t d n k).nodes → FitsPart n (subnet_of w t d n k)
  fits_term w (trees.var v) d n k h = fits_occurrence v n k h
  fits_term w (trees.free f) d n k h = fits_occurrence (d + f) n k h
  fits_term w (trees.lam M) d n k h =
      fits_abstraction n k (subnet_of w M (d + 1) n (k + 1)) h (fits_term w M (d + 1) n (k + 1))
  fits_term w (trees.app M N) d n k h =
      let left = subnet_of w M d n (k + 1) in
      let j = k + 1 + length left.nodes in
      fits_applied n k (bare_variable w d N) left (subnet_of w N d (n + 1) j) h
      (fits_term w M d n (k + 1)) (fits_term w N d (n + 1) j)
