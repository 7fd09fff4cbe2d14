-- A net makes one turn.
use Rattle.std.proofs.Common.{◌≡◌, ℕ, suc, ◌<◌, ◌⊎◌, inl, inr, true, List, [], ◌∷◌, ◌++◌, length}
use Rattle.std.proofs.Common.{refl, sym, ap, ◌∙◌, subst, arith}
use Rattle.ol_net.specs.declared.parts.Rule.{Rule}
use Rattle.ol_net.specs.Nets.{NamedNet, IsNet, SameNet}
use Rattle.ol_net.specs.Pairs.{IsActive, IsInActive}
use Rattle.ol_context.specs.Short.{live}
use Rattle.ol_diamond.proofs.Pairs.{one_rule}
use Rattle.ol_rules.specs.declared.journal.NodeName.{NodeName}
use Rattle.ol_rules.specs.declared.journal.NodeName.TheVariants.{Born}
use Rattle.ol_rules.specs.declared.journal.Entry.{Entry}
use Rattle.ol_rules.specs.Names.{comes_before}
use Rattle.ol_rules.proofs.NameOrder.{before_before, not_before_itself}
use Rattle.ol_rules.proofs.OneRun.{ArePaired, step_either}
use Rattle.ol_rules.proofs.Relation.{same_sym}
use Rattle.ol_rules.proofs.Same.{active_same}
use Rattle.ol_readback.specs.Frames.{Frame, asked}
use Rattle.ol_readback.specs.Heads.{Answer, IsMatched}
use Rattle.ol_readback.specs.ReadTrees.{Subterm, framed}
use Rattle.ol_readback.specs.declared.answers.ReadNode.{ReadNode}
use Rattle.ol_readback.proofs.One.{exit_is_one}
use Rattle.ol_demand.specs.Chains.{End, Ends}
use Rattle.ol_demand.specs.Chains as chain
use Rattle.ol_demand.specs.Demands.{Asking, asks, ChainEnds, Meets, IsFound, exits, lost, spent}
use Rattle.ol_demand.specs.Demands.{place_of, next, Turn, rewrites, one_more, finds}
use Rattle.ol_demand.proofs.Chains.{Agree, ends_one}
use Rattle.ol_demand.proofs.SameChains.{ends_same}

-- two names in order, given as a pair either way round
one_order : (a b a' b' f g f' g' : NodeName) → comes_before a b ≡ true → comes_before a' b' ≡ true →
    ((a ≡ f) × (b ≡ g)) ⊎ ((a ≡ g) × (b ≡ f)) → ((a' ≡ f') × (b' ≡ g')) ⊎ ((a' ≡ g') × (b' ≡ f')) →
    ArePaired f g f' g' → (a ≡ a') × (b ≡ b')
one_order a b a' b' f g f' g' o o' p p' q = go (ends p p' q)
  where
    ends : ((a ≡ f) × (b ≡ g)) ⊎ ((a ≡ g) × (b ≡ f)) →
        ((a' ≡ f') × (b' ≡ g')) ⊎ ((a' ≡ g') × (b' ≡ f')) → ArePaired f g f' g' →
        ((a ≡ a') × (b ≡ b')) ⊎ ((a ≡ b') × (b ≡ a'))
    ends (inl x) (inl y) (inl z) = inl (x.0 ∙ z.0 ∙ sym y.0, x.1 ∙ z.1 ∙ sym y.1)
    ends (inl x) (inl y) (inr z) = inr (x.0 ∙ z.0 ∙ sym y.1, x.1 ∙ z.1 ∙ sym y.0)
    ends (inl x) (inr y) (inl z) = inr (x.0 ∙ z.0 ∙ sym y.1, x.1 ∙ z.1 ∙ sym y.0)
    ends (inl x) (inr y) (inr z) = inl (x.0 ∙ z.0 ∙ sym y.0, x.1 ∙ z.1 ∙ sym y.1)
    ends (inr x) (inl y) (inl z) = inr (x.0 ∙ z.1 ∙ sym y.1, x.1 ∙ z.0 ∙ sym y.0)
    ends (inr x) (inl y) (inr z) = inl (x.0 ∙ z.1 ∙ sym y.0, x.1 ∙ z.0 ∙ sym y.1)
    ends (inr x) (inr y) (inl z) = inl (x.0 ∙ z.1 ∙ sym y.0, x.1 ∙ z.0 ∙ sym y.1)
    ends (inr x) (inr y) (inr z) = inr (x.0 ∙ z.1 ∙ sym y.1, x.1 ∙ z.0 ∙ sym y.0)

    clash : a ≡ b' → b ≡ a' → ⊥
    clash x y =
        let r : comes_before a a ≡ true = before_before a b a o
        (subst (λ c. comes_before b c ≡ true) (sym x) (subst (λ c. comes_before c b' ≡ true) (sym y) o')) in
        let z = not_before_itself a in
        absurd (cc)

    go : ((a ≡ a') × (b ≡ b')) ⊎ ((a ≡ b') × (b ≡ a')) → (a ≡ a') × (b ≡ b')
    go (inl x) = x
    go (inr x) = absurd (clash x.0 x.1)

abbrev entry_of : Rule → NodeName → NodeName → Entry
entry_of r x y = record { rule = r; first = x; second = y }

-- two turns are one
pub record OneTurn (es es' : List Entry) (ns ns' : List ReadNode) (P Q : NamedNet NodeName)
    (b b' : Asking) : Type 0 where
  pub entries : es ≡ es'
  pub places : ns ≡ ns'
  pub nets : SameNet P Q
  pub next : b ≡ b'

module _ (heads t : ℕ) (M N : NamedNet NodeName) (is_net : IsNet M) (same : SameNet M N) (l : live M ≡ live N) where
  agree : (F : List Frame) (s : Subterm) (n : ℕ) (a b : End NodeName) → ChainEnds heads M F s n a →
      ChainEnds heads N F s n b → Agree a b
  agree F s n a b x y = ends_one M is_net s.port (asked s.levels n) a b x.ends
      (ends_same N M (same_sym M N same) (sym l) s.port (asked s.levels n) b y.ends)

  rule_is : (f g f' g' : NodeName) (r r' : Rule) → IsActive M f g r → IsActive N f' g' r' → ArePaired f g f' g' → r ≡ r'
  rule_is f g f' g' r r' a a' p = one_rule M is_net f r r' (g, inl a) (go p)
    where
      b : IsActive M f' g' r'
      b = active_same N M (same_sym M N same) f' g' r' a'

      go : ArePaired f g f' g' → IsInActive M f r'
      go (inl e) = (g', inl (subst (λ x. IsActive M x g' r') (sym e.0) b))
      go (inr e) = (f', inr (subst (λ x. IsActive M f' x r') (sym e.0) b))

  -- the same entry, and the same net
  one_meeting : (F : List Frame) (s : Subterm) (n : ℕ) (e e' : Entry) (P Q : NamedNet NodeName) →
      Meets heads M t F s n e P → Meets heads N t F s n e' Q → (e ≡ e') × SameNet P Q
  one_meeting F s n e e' P Q m m' =
      let p : ArePaired m.step.f m.step.g m'.step.f m'.step.g = agree F s n
      (chain.met m.step.f m.step.g e.rule) (chain.met m'.step.f m'.step.g e'.rule) m.ends m'.ends in
      let r = rule_is m.step.f m.step.g m'.step.f m'.step.g e.rule e'.rule m.step.step.active m'.step.step.active p in
      let o = one_order e.first e.second e'.first e'.second m.step.f m.step.g m'.step.f m'.step.g
      m.step.named.ordered m'.step.named.ordered m.step.named.pair m'.step.named.pair p in (
        ap (λ r. entry_of r e.first e.second) r ∙ ap (λ x. entry_of e'.rule x e.second) o.0
            ∙ ap (λ y. entry_of e'.rule e'.first y) o.1,
        step_either (λ place. Born t place) M N P Q m.step.f m.step.g m'.step.f m'.step.g e.rule
            e'.rule is_net same p m.step.step m'.step.step,
      )

  one_answer : (F : List Frame) (s : Subterm) (n : ℕ) {end end' : End NodeName} {c c' : Answer} →
      IsFound M F s n end c → IsFound N F s n end' c' → Agree end end' → c ≡ c'
  one_answer F s n (exits {q = q} {X = X} {a = a} m) (exits {q = q'} {X = X'} {a = a'} m') e =
      exit_is_one (F ++ framed s 0 ∷ []) (length F) n q X a a' m
      (subst (λ q. IsMatched (F ++ framed s 0 ∷ []) (length F) n q X a') (sym e.0)
      (subst (λ X. IsMatched (F ++ framed s 0 ∷ []) (length F) n q' X a') (sym e.1) m'))
  one_answer F s n (exits m) (lost b) e = absurd e
  one_answer F s n (exits m) spent e = absurd e
  one_answer F s n (lost b) (exits m) e = absurd e
  one_answer F s n (lost b) (lost b') e = refl
  one_answer F s n (lost b) spent e = absurd e
  one_answer F s n spent (exits m) e = absurd e
  one_answer F s n spent (lost b) e = absurd e
  one_answer F s n spent spent e = refl

  -- what isn't found
  not_met : (F : List Frame) (s : Subterm) (n : ℕ) (f g : NodeName)
      (r : Rule) {end : End NodeName} {c : Answer} → IsFound N F s n end c → Agree (chain.met f g r) end → ⊥
  not_met F s n f g r (exits m) e = e
  not_met F s n f g r (lost b) e = e
  not_met F s n f g r spent e = e

  not_met' : (F : List Frame) (s : Subterm) (n : ℕ) (f g : NodeName)
      (r : Rule) {end : End NodeName} {c : Answer} → IsFound M F s n end c → Agree end (chain.met f g r) → ⊥
  not_met' F s n f g r (exits m) e = e
  not_met' F s n f g r (lost b) e = e
  not_met' F s n f g r spent e = e

  not_more : (F : List Frame) (s : Subterm) (n : ℕ) → n < live N →
      {end : End NodeName} {c : Answer} → IsFound N F s n end c → Agree chain.undefined end → ⊥
  not_more F s n b (exits m) e = e
  not_more F s n b (lost b') e = absurd (omega arith)
  not_more F s n b spent e = e

  not_more' : (F : List Frame) (s : Subterm) (n : ℕ) → n < live M →
      {end : End NodeName} {c : Answer} → IsFound M F s n end c → Agree end chain.undefined → ⊥
  not_more' F s n b (exits m) e = e
  not_more' F s n b (lost b') e = absurd (omega arith)
  not_more' F s n b spent e = e

  after_meeting : (F : List Frame) (s : Subterm) (ss : List Subterm) (n : ℕ) (e : Entry)
      (P : NamedNet NodeName) → Meets heads M t F s n e P →
      {es' : List Entry} {ns' : List ReadNode} {Q : NamedNet NodeName} {b' : Asking} →
      Turn heads N t (asks F (s ∷ ss) n) es' ns' Q b' →
      OneTurn (e ∷ []) es' [] ns' P Q (asks F (s ∷ ss) n) b'
  after_meeting F s ss n e P m {Q = Q}
      (rewrites {e = e'} m') = let t = one_meeting F s n e e' P Q m m' in
      record { entries = ap (λ e. e ∷ []) t.0; places = refl; nets = t.1; next = refl }
  after_meeting F s ss n e P m (one_more h b) = absurd
      (agree F s n (chain.met m.step.f m.step.g e.rule) chain.undefined m.ends h)
  after_meeting F s ss n e P m (finds {end = end} h f) = absurd
      (not_met F s n m.step.f m.step.g e.rule f (agree F s n (chain.met m.step.f m.step.g e.rule) end m.ends h))

  after_more : (F : List Frame) (s : Subterm) (ss : List Subterm) (n : ℕ) →
      ChainEnds heads M F s n chain.undefined → n < live M →
      {es' : List Entry} {ns' : List ReadNode} {Q : NamedNet NodeName} {b' : Asking} →
      Turn heads N t (asks F (s ∷ ss) n) es' ns' Q b' →
      OneTurn [] es' [] ns' M Q (asks F (s ∷ ss) (suc n)) b'
  after_more F s ss n h b (rewrites {e = e} m) = absurd
      (agree F s n chain.undefined (chain.met m.step.f m.step.g e.rule) h m.ends)
  after_more F s ss n h b (one_more h' b') = record { entries = refl; places = refl; nets = same; next = refl }
  after_more F s ss n h b (finds {end = end} h' f) = absurd
      (not_more F s n (omega arith) f (agree F s n chain.undefined end h h'))

  after_found : (F : List Frame) (s : Subterm) (ss : List Subterm) (n : ℕ) (end : End NodeName)
      (c : Answer) → ChainEnds heads M F s n end → IsFound M F s n end c →
      {es' : List Entry} {ns' : List ReadNode} {Q : NamedNet NodeName} {b' : Asking} →
      Turn heads N t (asks F (s ∷ ss) n) es' ns' Q b' →
      OneTurn [] es' (place_of c ∷ []) ns' M Q (next F s ss c) b'
  after_found F s ss n end c h f (rewrites {e = e} m) = absurd
      (not_met' F s n m.step.f m.step.g e.rule f (agree F s n end (chain.met m.step.f m.step.g e.rule) h m.ends))
  after_found F s ss n end c h f (one_more h' b) = absurd
      (not_more' F s n (omega arith) f (agree F s n end chain.undefined h h'))
  after_found F s ss n end c h f (finds {end = end'} {a = c'} h' f') =
      let e : c ≡ c' = one_answer F s n f f' (agree F s n end end' h h') in
      record { entries = refl; places = ap (λ c. place_of c ∷ []) e; nets = same; next = ap (next F s ss) e }

  pub one_turn : {a : Asking} {es es' : List Entry} {ns ns' : List ReadNode}
      {P Q : NamedNet NodeName} {b b' : Asking} → Turn heads M t a es ns P b →
      Turn heads N t a es' ns' Q b' → OneTurn es es' ns ns' P Q b b'
  one_turn (rewrites {F = F} {s = s} {ss = ss} {n = n} {e = e} {P = P} m) y = after_meeting F s ss n e P m y
  one_turn (one_more {F = F} {s = s} {ss = ss} {n = n} h b) y = after_more F s ss n h b y
  one_turn (finds {F = F} {s = s} {ss = ss} {n = n} {end = end} {a = c} h f) y = after_found F s ss n end c h f y

  -- where the chain meets a pair, the turn rewrites
  pub meets_right : (F : List Frame) (s : Subterm) (ss : List Subterm) (n : ℕ) (f g : NodeName)
      (r : Rule) → ChainEnds heads M F s n (chain.met f g r) →
      {es : List Entry} {ns : List ReadNode} {Q : NamedNet NodeName} {b : Asking} →
      Turn heads N t (asks F (s ∷ ss) n) es ns Q b → length es ≡ 1
  meets_right F s ss n f g r h (rewrites m) = refl
  meets_right F s ss n f g r h (one_more h' b) = absurd (agree F s n (chain.met f g r) chain.undefined h h')
  meets_right F s ss n f g r h (finds {end = end} h' y) = absurd
      (not_met F s n f g r y (agree F s n (chain.met f g r) end h h'))

  pub meets_left : (F : List Frame) (s : Subterm) (ss : List Subterm) (n : ℕ) (f g : NodeName)
      (r : Rule) → ChainEnds heads N F s n (chain.met f g r) →
      {es : List Entry} {ns : List ReadNode} {Q : NamedNet NodeName} {b : Asking} →
      Turn heads M t (asks F (s ∷ ss) n) es ns Q b → length es ≡ 1
  meets_left F s ss n f g r h (rewrites m) = refl
  meets_left F s ss n f g r h (one_more h' b) = absurd (agree F s n chain.undefined (chain.met f g r) h' h)
  meets_left F s ss n f g r h (finds {end = end} h' y) = absurd
      (not_met' F s n f g r y (agree F s n end (chain.met f g r) h' h))
