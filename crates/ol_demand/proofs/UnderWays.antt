-- A demand run on its way, turn after turn.
use Rattle.std.proofs.Common.{◌≡◌, ℕ, suc, ◌+◌, ◌-◌, ◌<◌, ◌≤◌, Bool, true, nat_lt, if◌then◌else◌}
use Rattle.std.proofs.Common.{slice_index_or, List, [], ◌∷◌, ◌++◌, length, length-append}
use Rattle.std.proofs.Common.{append-nil, ◌⊎◌, inl, inr, refl, sym, ap, ◌∙◌, subst, arith}
use Rattle.ol_net.specs.declared.parts.Rule.{Rule}
use Rattle.ol_net.specs.Graph.{Graph}
use Rattle.ol_net.specs.Nets.{slot, NamedNet, Linked, IsNet, IsPrincipalOf, net_under}
use Rattle.ol_net.specs.Numbered.{net_of}
use Rattle.ol_net.specs.Pairs.{IsActive}
use Rattle.ol_context.specs.Contexts.{Context}
use Rattle.ol_context.specs.Short.{live}
use Rattle.ol_rules.specs.declared.journal.NodeName.{NodeName}
use Rattle.ol_rules.specs.declared.journal.NodeName.TheVariants.{Init}
use Rattle.ol_rules.specs.declared.journal.Entry.{Entry}
use Rattle.ol_rules.specs.UnderWay.{name_in, Advances}
use Rattle.ol_rules.specs.Steps.{StepsAt}
use Rattle.std.proofs.lemmas.Bool.Decides.{nat_tests}
use Rattle.ol_rules.proofs.NameOrder.{names_first, names_after, names_after_old}
use Rattle.ol_rules.proofs.Renaming.{net_alike}
use Rattle.ol_rules.proofs.OnTheWay.{node_below, the_pair}
use Rattle.ol_readback.specs.Frames.{Frame, asked}
use Rattle.ol_readback.specs.Heads.{Answer, no_head, budget, IsMatched}
use Rattle.ol_readback.specs.ReadTrees.{Subterm, whole_term, framed}
use Rattle.ol_readback.specs.declared.answers.ReadNode.{ReadNode}
use Rattle.ol_demand.specs.Chains.{IsAtPair, Ends}
use Rattle.ol_demand.specs.Chains as chain
use Rattle.ol_demand.specs.Chaining.{MetBy}
use Rattle.ol_demand.specs.Demands.{Asking, asks, ChainEnds, Meets, IsFound, exits, lost, spent, place_of, next, Turn}
use Rattle.ol_demand.specs.Demands.{rewrites, one_more, finds, Turns, begins, and_then}
use Rattle.ol_demand.specs.Answers.{start_of, StopsOnTheWay}
use Rattle.ol_demand.specs.Asking.{IsNaming, IsUnderWay, IsLeftOff}
use Rattle.ol_rules.specs.declared.under_way.UnderWay.{UnderWay}
use Rattle.ol_demand.proofs.Entries.{is_naming, one_name, named_entry, named_step, names_of_next, after_step}
use Rattle.ol_demand.proofs.LiveNodes.{once}
use Rattle.ol_demand.proofs.Paired.{acts}
use Rattle.ol_demand.proofs.UnderNames.{end_under, live_under, ends_under, once_under}

-- the run that begins
pub begun : (old : Graph) (run : UnderWay) (heads : ℕ) → IsNet (net_of old) →
    run.names.start ≡ length old.nodes → run.journal ≡ [] → IsUnderWay old old run heads [] (asks [] (whole_term ∷ []) 0)
begun old run heads is_net s j = record {
  names = names_after Init (length old.nodes) 0;
  are_names = record {
    naming = subst (λ (es : List Entry).
        IsNaming (length old.nodes) (length old.nodes) (length es)
        (names_after Init (length old.nodes) 0)) (sym j)
        (is_naming (length old.nodes) (length old.nodes) 0 _ (names_first (length old.nodes)));
    start = s;
    listed = λ k h.
        let e : nat_lt k (length old.nodes) ≡ true = grind (arith, nat_tests) in
        ap (λ t. name_in t run.names.born.items k) s
        ∙ ap (λ (b : Bool). if b then Init k else slice_index_or run.names.born.items (k - length old.nodes) (Init k)) e
        ∙ sym (names_after_old Init (length old.nodes) 0 k h);
  };
  turns = 0;
  made = subst (λ (es : List Entry). Turns (start_of old) heads 0 es []
      (net_under (names_after Init (length old.nodes) 0) (net_of old)) (asks [] (whole_term ∷ []) 0)) (sym j)
      (subst (λ N. Turns (start_of old) heads 0 [] [] N (asks [] (whole_term ∷ []) 0))
      (net_alike Init (names_after Init (length old.nodes) 0) (net_of old) is_net
      (λ x k i h. sym (names_after_old Init (length old.nodes) 0 x (node_below old x k i h)))) begins);
}

-- a turn without an entry, or without a place
module _ {N M : NamedNet NodeName} {heads turns : ℕ} {journal : List Entry} {places : List ReadNode}
    {a b : Asking} where
  then_nothing : Turns N heads turns journal places M a →
      Turn heads M (length journal) a [] [] M b → Turns N heads (suc turns) journal places M b
  then_nothing r t =
      subst (λ (es : List Entry). Turns N heads (suc turns) es places M b) (append-nil journal)
      (subst (λ (ns : List ReadNode). Turns N heads (suc turns) (journal ++ []) ns M b)
      (append-nil places) (and_then r t))

  then_place : (p : ReadNode) → Turns N heads turns journal places M a →
      Turn heads M (length journal) a [] (p ∷ []) M b → Turns N heads (suc turns) journal (places ++ p ∷ []) M b
  then_place p r t = subst (λ (es : List Entry).
      Turns N heads (suc turns) es (places ++ p ∷ []) M b) (append-nil journal) (and_then r t)

  then_entry : {P : NamedNet NodeName} (e : Entry) → Turns N heads turns journal places M a →
      Turn heads M (length journal) a (e ∷ []) [] P b → Turns N heads (suc turns) (journal ++ e ∷ []) places P b
  then_entry {P} e r t = subst (λ (ns : List ReadNode).
      Turns N heads (suc turns) (journal ++ e ∷ []) ns P b) (append-nil places) (and_then r t)

-- a run under way is a front part
pub under_stops : (old g : Graph) (run : UnderWay) (heads fuel : ℕ) (places : List ReadNode)
    (a : Asking) → IsUnderWay old g run heads places a → length run.journal ≤ fuel → StopsOnTheWay old heads fuel g
under_stops old g run heads fuel places a u b = record {
  names = u.names;
  are_names = record { initial = u.are_names.naming.initial; rising = λ j k h c. u.are_names.naming.rising j k h };
  is = record { turns = u.turns; journal = run.journal; places = places; next = a; run = u.made; within = b };
}

module _ (old g : Graph) (run : UnderWay) (heads : ℕ) (places : List ReadNode) (F : List Frame)
    (s : Subterm) (ss : List Subterm) (n : ℕ) (below : length F < heads)
    (u : IsUnderWay old g run heads places (asks F (s ∷ ss) n)) where
  abbrev M : NamedNet NodeName
  M = net_under u.names (net_of g)

  pub one_here : (x y : ℕ) → u.names x ≡ u.names y → x ≡ y
  one_here = one_name (length old.nodes) (length g.nodes) (length run.journal) u.names u.are_names.naming

  pub ends_here : (end : chain.End ℕ) → Ends (net_of g) s.port (asked s.levels n) end →
      ChainEnds heads M F s n (end_under u.names end)
  ends_here end h = record {
    below = below;
    ends = ends_under u.names one_here (net_of g) s.port (asked s.levels n) end h;
  }

  live_here : live M ≡ live (net_of g)
  live_here = live_under u.names one_here (net_of g)

  pub asked_more : Ends (net_of g) s.port (asked s.levels n) chain.undefined → n < live (net_of g) →
      IsUnderWay old g run heads places (asks F (s ∷ ss) (suc n))
  asked_more h b = record {
    names = u.names;
    are_names = u.are_names;
    turns = suc u.turns;
    made = let e = live_here in then_nothing u.made (one_more (ends_here chain.undefined h) (omega arith));
  }

  pub was_found : (end : chain.End ℕ) (a : Answer) → Ends (net_of g) s.port (asked s.levels n) end →
      IsFound M F s n (end_under u.names end) a → IsUnderWay old g run heads (places ++ place_of a ∷ []) (next F s ss a)
  was_found end a h f = record {
    names = u.names;
    are_names = u.are_names;
    turns = suc u.turns;
    made = then_place (place_of a) u.made (finds (ends_here end h) f);
  }

  pub found_lost : Ends (net_of g) s.port (asked s.levels n) chain.undefined → live (net_of g) ≤ n →
      IsUnderWay old g run heads (places ++ place_of no_head ∷ []) (next F s ss no_head)
  found_lost h b = let e = live_here in was_found chain.undefined no_head h (lost (omega arith))

  pub found_spent : Ends (net_of g) s.port (asked s.levels n) chain.budget →
      IsUnderWay old g run heads (places ++ place_of budget ∷ []) (next F s ss budget)
  found_spent h = was_found chain.budget budget h spent

  pub found_left : (q : ℕ) (X : Context) (a : Answer) →
      Ends (net_of g) s.port (asked s.levels n) (chain.left q X) →
      IsMatched (F ++ framed s 0 ∷ []) (length F) n q X a →
      IsUnderWay old g run heads (places ++ place_of a ∷ []) (next F s ss a)
  found_left q X a h m = was_found (chain.left q X) a h (exits m)

  pub left_off : (x y : ℕ) → MetBy (net_of g) s.port (asked s.levels n) x y → IsNet (net_of g) →
      IsLeftOff old g run heads
  left_off x y h is_net = go (acts (net_of g) is_net x y h.rule h.pair)
    where
      by : (f k : ℕ) → IsAtPair (net_of g) (slot x 0) f k h.rule → IsLeftOff old g run heads
      by f k a = record {
        names = u.names;
        are_names = u.are_names;
        goes_on = record {
          turns = u.turns;
          places = places;
          frames = F;
          subterm = s;
          later = ss;
          lams = n;
          run = u.made;
          first = u.names f;
          second = u.names k;
          rule = h.rule;
          meets = ends_here (chain.met f k h.rule) (h.ends f k h.rule a);
        };
      }

      go : IsActive (net_of g) x y h.rule ⊎ IsActive (net_of g) y x h.rule → IsLeftOff old g run heads
      go (inl a) = by x y (record { active = a; principal = inl refl })
      go (inr a) = by y x (record { active = a; principal = inr refl })

  -- the step of x and y, of which x has the smaller number, and one of which the chain stands at
  module _ (g' : Graph) (is_net : IsNet (net_of g)) (x y z : ℕ) (lesser : x < y)
      (at : (z ≡ x) ⊎ (z ≡ y)) (b : (x < length g.nodes) × (y < length g.nodes))
      (l : Linked (net_of g) (slot x 0) (slot y 0))
      (h : (f k : ℕ) (r : Rule) → IsAtPair (net_of g) (slot z 0) f k r →
      Ends (net_of g) s.port (asked s.levels n) (chain.met f k r)) (r : Rule) (st : StepsAt g g' x r) where
    principal : IsPrincipalOf st.f st.g (slot z 0)
    principal = go at (the_pair g g' is_net x y r st l)
      where
        go : (z ≡ x) ⊎ (z ≡ y) → ((x ≡ st.f) × (y ≡ st.g)) ⊎ ((x ≡ st.g) × (y ≡ st.f)) →
            IsPrincipalOf st.f st.g (slot z 0)
        go (inl e) (inl p) = inl (ap (λ z. slot z 0) (e ∙ p.0))
        go (inl e) (inr p) = inr (ap (λ z. slot z 0) (e ∙ p.0))
        go (inr e) (inl p) = inr (ap (λ z. slot z 0) (e ∙ p.1))
        go (inr e) (inr p) = inl (ap (λ z. slot z 0) (e ∙ p.1))

    abbrev entry : Entry
    entry = record { rule = r; first = u.names x; second = u.names y }

    meets_under : Meets heads M (length run.journal) F s n entry (net_under u.names (net_of g'))
    meets_under = record {
      step = record {
        f = u.names st.f;
        g = u.names st.g;
        named = named_entry g g' is_net x y r st l lesser (length old.nodes)
            (length run.journal) u.names u.are_names.naming;
        step = named_step g g' is_net x y r st l lesser (length old.nodes)
            (length run.journal) u.names u.are_names.naming;
      };
      ends = ends_here (chain.met st.f st.g r)
          (h st.f st.g r (record { active = st.step.active; principal = principal }));
      once = once_under u.names one_here (net_of g') (once g');
    }

    -- the net after it, under any names that are these where there are nodes
    made_by : IsNet (net_of g') → (m : ℕ → NodeName) →
        ((k : ℕ) → k < length g'.nodes → m k ≡ u.names k) →
        Turns (start_of old) heads (suc u.turns) (run.journal ++ entry ∷ []) places
        (net_under m (net_of g')) (asks F (s ∷ ss) n)
    made_by is_net' m e =
        let same = net_alike u.names m (net_of g') is_net' (λ x k i h. sym (e x (node_below g' x k i h))) in
        then_entry entry u.made (rewrites (subst
        (λ P. Meets heads M (length run.journal) F s n entry P) same meets_under))

    -- not written down
    pub stopped : (fuel : ℕ) → length run.journal < fuel → StopsOnTheWay old heads fuel g'
    stopped fuel b = record {
      names = u.names;
      are_names = record { initial = u.are_names.naming.initial; rising = λ j k h c. u.are_names.naming.rising j k h };
      is = record {
        turns = suc u.turns;
        journal = run.journal ++ entry ∷ [];
        places = places;
        next = asks F (s ∷ ss) n;
        run = then_entry entry u.made (rewrites meets_under);
        within = omega (arith, length-append run.journal (entry ∷ []));
      };
    }

  -- a step that was written down
  pub rewritten : (g' : Graph) (run' : UnderWay) → IsNet (net_of g) → (x y z : ℕ) → x < y →
      (z ≡ x) ⊎ (z ≡ y) → (x < length g.nodes) × (y < length g.nodes) → Linked (net_of g) (slot x 0) (slot y 0) →
      ((f k : ℕ) (r : Rule) → IsAtPair (net_of g) (slot z 0) f k r →
      Ends (net_of g) s.port (asked s.levels n) (chain.met f k r)) →
      run.names.start + length run.names.born.items ≡ length g.nodes → Advances run run' g g' x y →
      IsUnderWay old g' run' heads places (asks F (s ∷ ss) n)
  rewritten g' run' is_net x y z lesser at b l h c a = record {
    names = after_step g' run u.names;
    are_names = names_of_next old g g' run run' u.names x y u.are_names c a;
    turns = suc u.turns;
    made = subst (λ (es : List Entry). Turns (start_of old) heads (suc u.turns) es places
        (net_under (after_step g' run u.names) (net_of g')) (asks F (s ∷ ss) n)) (sym written)
        (made_by g' is_net x y z lesser at b l h a.rule a.step a.is_net (after_step g' run u.names)
        (λ k h. names_after_old u.names (length g'.nodes) (suc (length run.journal)) k h));
  }
    where
      written : run'.journal ≡ run.journal ++ record { rule = a.rule; first = u.names x; second = u.names y } ∷ []
      written =
          a.journal ∙ ap (λ (v : NodeName). run.journal ++ record {
            rule = a.rule;
            first = v;
            second = name_in run.names.start run.names.born.items y;
          } ∷ []) (u.are_names.listed x b.0)
          ∙ ap (λ (w : NodeName). run.journal ++ record {
            rule = a.rule;
            first = u.names x;
            second = w;
          } ∷ []) (u.are_names.listed y b.1)
