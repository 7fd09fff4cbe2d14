-- The active pairs of a run's last net, found node by node.
use Rattle.std.proofs.Common.{◌≡◌, ℕ, ◌+◌, ◌<◌, ◌≤◌, true, List, [], ◌∷◌, ◌++◌, length}
use Rattle.std.proofs.Common.{length-append, length-take, ◌⊎◌, inl, inr, refl, sym, ap, ◌∙◌, subst, arith}
use Rattle.std.proofs.lemmas.Bool.{cases_lt}
use Rattle.std.proofs.lemmas.List.{take_all, take-append-le}
use Rattle.ol_law_edges.specs.Edges.{IsIn}
use Rattle.ol_law_edges.proofs.Lists.{in_left, in_right, in_cases, only}
use Rattle.ol_net.specs.declared.parts.Rule.{Rule}
use Rattle.ol_net.specs.Graph.{Graph}
use Rattle.ol_net.specs.Nets.{NamedNet, free, slot, Linked, IsPort, net_under}
use Rattle.ol_net.specs.Numbered.{net_of}
use Rattle.ol_net.specs.Pairs.{IsActive, IsInActive}
use Rattle.ol_rules.specs.declared.journal.NodeName.{NodeName}
use Rattle.ol_rules.specs.declared.journal.Entry.{Entry}
use Rattle.ol_rules.specs.Names.{comes_before}
use Rattle.ol_rules.proofs.FreshPairs.{linked_sym}
use Rattle.ol_rules.proofs.NameOrder.{Names, names_apart, not_before, not_before_itself}
use Rattle.ol_rules.proofs.Renaming.{net_alike, active_to, active_from}
use Rattle.ol_rules.proofs.OnTheWay.{node_below}
use Rattle.ol_diamond.proofs.Pairs.{one_rule}
use Rattle.ol_view.proofs.OneVerdict.{one_entry}
use Rattle.ol_orders.specs.declared.replaying.Replay.{Replay}
use Rattle.ol_orders.specs.Replays.{names_of, IsReplay, net_here, AreRising}
use Rattle.ol_explain.specs.Found.{IsOfPair, IsPairAt, AreBelow, AreFound}

-- one of two nodes acts on the other, by this rule
abbrev pub Act : Graph → ℕ → ℕ → Rule → Type 0
Act g x y r = IsActive (net_of g) x y r ⊎ IsActive (net_of g) y x r

rising_on : (es : List Entry) (e : Entry) → AreRising es →
    ((d : Entry) → IsIn d es → comes_before d.first e.first ≡ true) → AreRising (es ++ e ∷ [])
rising_on [] e h later = ((λ d i. absurd i), tt)
rising_on (d ∷ es) e h later = (first, rising_on es e h.1 (λ x i. later x (inr i)))
  where
    first : (x : Entry) → IsIn x (es ++ e ∷ []) → comes_before d.first x.first ≡ true
    first x i = go (in_cases x es (e ∷ []) i)
      where
        go : IsIn x es ⊎ IsIn x (e ∷ []) → comes_before d.first x.first ≡ true
        go (inl i) = h.0 x i
        go (inr i) = subst (λ (y : Entry). comes_before d.first y.first ≡ true) (sym (only x e i)) (later d (inl refl))

module _ (old : Graph) (r : Replay) (u : IsReplay old r) where
  names : Names (length old.nodes) (length r.net.nodes) (length r.run.journal) u.m
  names = record { room = u.named.room; initial = u.named.initial; rising = u.named.rising; born = u.named.born }

  later : (j k : ℕ) → j < k → k < length r.net.nodes → comes_before (names_of r j) (names_of r k) ≡ true
  later j k b h =
      let i = u.listed j (omega arith) in
      let i' = u.listed k h in
      rw (i, i') (u.named.rising j k b)

  one_number : (j k : ℕ) → u.m j ≡ u.m k → j ≡ k
  one_number = names_apart (length old.nodes) (length r.net.nodes) (length r.run.journal) u.m names

  lesser : (j k : ℕ) → comes_before (u.m j) (u.m k) ≡ true → j < k
  lesser j k b = go (cases_lt j k) (cases_lt k j)
    where
      go : (j < k) ⊎ (k ≤ j) → (k < j) ⊎ (j ≤ k) → j < k
      go (inl l) h = l
      go (inr l) (inl h) = let c = not_before (u.m k) (u.m j) (u.named.rising k j h) in absurd (cc)
      go (inr l) (inr h) =
          let e : j ≡ k = omega arith in
          let d = not_before_itself (u.m k) in
          let c : comes_before (u.m k) (u.m k) ≡ true = subst (λ z. comes_before (u.m z) (u.m k) ≡ true) e b in
          absurd (cc)

  alike : net_here r ≡ net_under u.m (net_of r.net)
  alike = net_alike (names_of r) u.m (net_of r.net) u.is_net (λ x k i h. u.listed x (node_below r.net x k i h))

  -- the two nodes of a pair, by their numbers
  at_number : (n : ℕ) → n < length r.net.nodes → (e : Entry) → IsPairAt r n e →
      (y : ℕ) × (n < y) × (e.second ≡ names_of r y) × Act r.net n y e.rule
  at_number n b e (first, (o, inl a)) = go (active_from u.m one_number (net_of r.net) e.first e.second e.rule
      (subst (λ (M : NamedNet NodeName). IsActive M e.first e.second e.rule) alike a))
    where
      go : (f : ℕ) × (g : ℕ) × (e.first ≡ u.m f) × (e.second ≡ u.m g) × IsActive (net_of r.net) f g e.rule →
          (y : ℕ) × (n < y) × (e.second ≡ names_of r y) × Act r.net n y e.rule
      go (f, g, p, q, x) =
          let i : n ≡ f = one_number n f (sym (u.listed n b) ∙ sym first ∙ p) in
          let c : comes_before (u.m f) (u.m g) ≡ true = subst (λ z. comes_before z (u.m g) ≡ true) p
          (subst (λ z. comes_before e.first z ≡ true) q o) in
          let l : n < g = (let s = lesser f g c in omega arith) in (
            g,
            l,
            q ∙ sym (u.listed g (node_below r.net g x.l x.j x.faces.second)),
            inl (subst (λ f. IsActive (net_of r.net) f g e.rule) (sym i) x),
          )
  at_number n b e (first, (o, inr a)) = go (active_from u.m one_number (net_of r.net) e.second e.first e.rule
      (subst (λ (M : NamedNet NodeName). IsActive M e.second e.first e.rule) alike a))
    where
      go : (f : ℕ) × (g : ℕ) × (e.second ≡ u.m f) × (e.first ≡ u.m g) × IsActive (net_of r.net) f g e.rule →
          (y : ℕ) × (n < y) × (e.second ≡ names_of r y) × Act r.net n y e.rule
      go (f, g, p, q, x) =
          let i : n ≡ g = one_number n g (sym (u.listed n b) ∙ sym first ∙ q) in
          let c : comes_before (u.m g) (u.m f) ≡ true = subst (λ z. comes_before z (u.m f) ≡ true) q
          (subst (λ z. comes_before e.first z ≡ true) p o) in
          let l : n < f = (let s = lesser g f c in omega arith) in (
            f,
            l,
            p ∙ sym (u.listed f (node_below r.net f x.k x.i x.faces.first)),
            inr (subst (λ g. IsActive (net_of r.net) f g e.rule) (sym i) x),
          )

  act_linked : (x y : ℕ) (rule : Rule) → Act r.net x y rule → Linked (net_of r.net) (slot x 0) (slot y 0)
  act_linked x y rule (inl a) = a.faces.linked
  act_linked x y rule (inr a) = linked_sym (net_of r.net) (slot y 0) (slot x 0) a.faces.linked

  act_below : (x y : ℕ) (rule : Rule) → Act r.net x y rule → y < length r.net.nodes
  act_below x y rule (inl a) = node_below r.net y a.l a.j a.faces.second
  act_below x y rule (inr a) = node_below r.net y a.k a.i a.faces.first

  partner : (x y m s : ℕ) → Linked (net_of r.net) (slot x 0) (slot y 0) →
      Linked (net_of r.net) (slot x 0) (slot m s) → y ≡ m
  partner x y m s h h' =
      let e : slot y 0 ≡ slot m s = u.is_net.one_link (slot x 0) (slot y 0) (slot m s) h h' in cc

  -- what was found at a node
  module _ (n : ℕ) (b : n < length r.net.nodes) where
    pub pair_is : (rule : Rule) → IsInActive (net_of r.net) n rule → (m s : ℕ) →
        Linked (net_of r.net) (slot n 0) (slot m s) → (m ≤ n → ⊥) → (first second : NodeName) →
        first ≡ names_of r n → second ≡ names_of r m →
        IsPairAt r n (record { rule = rule; first = first; second = second })
    pair_is rule (y, act) m s linked more first second p q =
        let i : y ≡ m = partner n y m s (act_linked n y rule act) linked in
        let act' : Act r.net n m rule = subst (λ y. Act r.net n y rule) i act in
        let l : n < m = above (cases_lt n m) in
        let ordered = subst (λ x. comes_before x second ≡ true) (sym p)
        (subst (λ y. comes_before (names_of r n) y ≡ true) (sym q) (later n m l (act_below n m rule act'))) in
        (p, (ordered, named act'))
      where
        above : (n < m) ⊎ (m ≤ n) → n < m
        above (inl l) = l
        above (inr l) = absurd (more l)

        put : {M : NamedNet NodeName} (x y : NodeName) → IsActive M (names_of r n) (names_of r m) rule →
            x ≡ names_of r n → y ≡ names_of r m → IsActive M x y rule
        put {M} x y a p q = subst (λ x. IsActive M x y rule) (sym p)
            (subst (λ y. IsActive M (names_of r n) y rule) (sym q) a)

        turned : {M : NamedNet NodeName} (x y : NodeName) → IsActive M (names_of r m) (names_of r n) rule →
            x ≡ names_of r n → y ≡ names_of r m → IsActive M y x rule
        turned {M} x y a p q = subst (λ y. IsActive M y x rule) (sym q)
            (subst (λ x. IsActive M (names_of r m) x rule) (sym p) a)

        named : Act r.net n m rule →
            IsActive (net_here r) first second rule ⊎ IsActive (net_here r) second first rule
        named (inl a) = inl (put first second (active_to (names_of r) (net_of r.net) n m rule a) p q)
        named (inr a) = inr (turned first second (active_to (names_of r) (net_of r.net) m n rule a) p q)

    pub none_active : ((rule : Rule) → IsInActive (net_of r.net) n rule → ⊥) → (e : Entry) → IsPairAt r n e → ⊥
    none_active none e h = let x = at_number n b e h in none e.rule (x.0, x.3)

    pub none_less : (m s : ℕ) → Linked (net_of r.net) (slot n 0) (slot m s) → m ≤ n → (e : Entry) → IsPairAt r n e → ⊥
    none_less m s linked l e h =
        let x = at_number n b e h in
        let i : x.0 ≡ m = partner n x.0 m s (act_linked n x.0 e.rule x.3) linked in
        let k = x.1 in
        omega arith

    pub none_free : (k : ℕ) → Linked (net_of r.net) (slot n 0) (free k) → (e : Entry) → IsPairAt r n e → ⊥
    none_free k linked e h =
        let x = at_number n b e h in
        let q : slot x.0 0 ≡ free k = u.is_net.one_link (slot n 0) (slot x.0 0) (free k)
        (act_linked n x.0 e.rule x.3) linked in
        absurd (cc)

    pub none_there : (IsPort (net_of r.net) (slot n 0) → ⊥) → (e : Entry) → IsPairAt r n e → ⊥
    none_there none e h =
        let x = at_number n b e h in
        none (u.is_net.of_ports (slot n 0) (slot x.0 0) (act_linked n x.0 e.rule x.3)).0

    one_pair : (d e : Entry) → IsPairAt r n d → IsPairAt r n e → d ≡ e
    one_pair d e h h' =
        let x = at_number n b d h in
        let y = at_number n b e h' in
        let i : x.0 ≡ y.0 = partner n x.0 y.0 0 (act_linked n x.0 d.rule x.3) (act_linked n y.0 e.rule y.3) in
        one_entry d e (one_rule (net_of r.net) u.is_net n d.rule e.rule (x.0, x.3) (y.0, y.3))
        (h.0 ∙ sym h'.0) (x.2 ∙ ap (λ k. names_of r k) i ∙ sym y.2)

    -- with one node more
    below_none : (es : List Entry) → AreBelow r n es → ((e : Entry) → IsPairAt r n e → ⊥) → AreBelow r (n + 1) es
    below_none es a none = record {
      all = λ e. (
        (λ i. let x = (a.all e).0 i in (x.0, let l = x.1 in omega arith, x.2)),
        (λ x. go e x.0 x.1 x.2 (cases_lt x.0 n)),
      );
      rising = a.rising;
    }
      where
        go : (e : Entry) (k : ℕ) → k < n + 1 → IsPairAt r k e → (k < n) ⊎ (n ≤ k) → IsIn e es
        go e k l h (inl l') = (a.all e).1 (k, l', h)
        go e k l h (inr l') = let i : k ≡ n = omega arith in
            absurd (none e (subst (λ k. IsPairAt r k e) i h))

    below_one : (es : List Entry) → AreBelow r n es → (e : Entry) → IsPairAt r n e → AreBelow r (n + 1) (es ++ e ∷ [])
    below_one es a e h = record {
      all = λ d. ((λ i. to d (in_cases d es (e ∷ []) i)), (λ x. go d x.0 x.1 x.2 (cases_lt x.0 n)));
      rising = rising_on es e a.rising (λ d i.
          let x = (a.all d).0 i in
          subst (λ z. comes_before z e.first ≡ true) (sym x.2.0)
          (subst (λ z. comes_before (names_of r x.0) z ≡ true) (sym h.0) (later x.0 n x.1 b)));
    }
      where
        to : (d : Entry) → IsIn d es ⊎ IsIn d (e ∷ []) → (k : ℕ) × (k < n + 1) × IsPairAt r k d
        to d (inl i) = let x = (a.all d).0 i in (x.0, let l = x.1 in omega arith, x.2)
        to d (inr i) = (n, omega arith, subst (λ (d : Entry). IsPairAt r n d) (sym (only d e i)) h)

        go : (d : Entry) (k : ℕ) → k < n + 1 → IsPairAt r k d → (k < n) ⊎ (n ≤ k) → IsIn d (es ++ e ∷ [])
        go d k l x (inl l') = in_left d es (e ∷ []) ((a.all d).1 (k, l', x))
        go d k l x (inr l') =
            let i : k ≡ n = omega arith in
            let q : d ≡ e = one_pair d e (subst (λ k. IsPairAt r k d) i x) h in
            in_right d es (e ∷ []) (inl q)

    pub found_none : (told : List Entry) (more : ℕ) → AreFound r n told more →
        ((e : Entry) → IsPairAt r n e → ⊥) → AreFound r (n + 1) told more
    found_none told more f none = record {
      pairs = f.pairs;
      below = below_none f.pairs f.below none;
      few = let l = f.few in omega arith;
      told_is = f.told_is;
      more_is = f.more_is;
    }

    size : (told : List Entry) (more : ℕ) (f : AreFound r n told more) → length told < 20 → length f.pairs < 20
    size told more f l =
        let q = ap (λ (es : List Entry). length es) f.told_is in
        omega (arith, length-take 20 f.pairs)

    pub found_told : (told : List Entry) (more : ℕ) → AreFound r n told more → (e : Entry) → IsPairAt r n e →
        length told < 20 → AreFound r (n + 1) (told ++ e ∷ []) more
    found_told told more f e h l =
        let s = size told more f l in
        let one = length-append f.pairs (e ∷ []) in
        record {
          pairs = f.pairs ++ e ∷ [];
          below = below_one f.pairs f.below e h;
          few = let l = f.few in omega arith;
          told_is = ap (λ (es : List Entry). es ++ e ∷ []) (f.told_is ∙ take_all 20 f.pairs (omega arith))
              ∙ sym (take_all 20 (f.pairs ++ e ∷ []) (omega arith));
          more_is = let m = f.more_is in omega arith;
        }

    pub found_more : (told : List Entry) (more : ℕ) → AreFound r n told more → (e : Entry) → IsPairAt r n e →
        (length told < 20 → ⊥) → AreFound r (n + 1) told (more + 1)
    found_more told more f e h l =
        let q = ap (λ (es : List Entry). length es) f.told_is in
        let many : 20 ≤ length f.pairs = omega (arith, length-take 20 f.pairs) in
        let one = length-append f.pairs (e ∷ []) in
        record {
          pairs = f.pairs ++ e ∷ [];
          below = below_one f.pairs f.below e h;
          few = let l = f.few in omega arith;
          told_is = f.told_is ∙ sym (take-append-le 20 f.pairs (e ∷ []) many);
          more_is = let m = f.more_is in omega arith;
        }

  pub found_first : AreFound r 0 [] 0
  found_first = record {
    pairs = [];
    below = record { all = λ e. ((λ i. absurd i), (λ x. let l = x.1 in absurd (omega arith))); rising = tt };
    few = omega arith;
    told_is = refl;
    more_is = refl;
  }

  -- all pairs of the net
  pub each_found : (es : List Entry) → AreBelow r (length r.net.nodes) es → (e : Entry) → IsOfPair (net_here r) e →
      IsIn e es
  each_found es a e (o, inl x) =
      let t = active_from u.m one_number (net_of r.net) e.first e.second e.rule
      (subst (λ (M : NamedNet NodeName). IsActive M e.first e.second e.rule) alike x) in
      let l = node_below r.net t.0 t.4.k t.4.i t.4.faces.first in
      (a.all e).1 (t.0, l, (t.2 ∙ sym (u.listed t.0 l), (o, inl x)))
  each_found es a e (o, inr x) =
      let t = active_from u.m one_number (net_of r.net) e.second e.first e.rule
      (subst (λ (M : NamedNet NodeName). IsActive M e.second e.first e.rule) alike x) in
      let l = node_below r.net t.1 t.4.l t.4.j t.4.faces.second in
      (a.all e).1 (t.1, l, (t.3 ∙ sym (u.listed t.1 l), (o, inr x)))
