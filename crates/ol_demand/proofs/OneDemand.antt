-- The demand run of a net is one.
use Rattle.std.proofs.Common.{◌≡◌, ℕ, ◌<◌, ◌≤◌, ◌⊎◌, inl, inr, List, [], ◌∷◌, ◌++◌, length}
use Rattle.std.proofs.Common.{length-append, append-nil, map, refl, sym, ap, ◌∙◌, subst, arith}
use Rattle.std.proofs.lemmas.List.{append_assoc}
use Rattle.ol_net.specs.Nets.{NamedNet, SameNet}
use Rattle.ol_context.specs.Short.{IsOnce}
use Rattle.ol_context.proofs.Exits.{Three, three}
use Rattle.ol_rules.specs.declared.journal.NodeName.{NodeName}
use Rattle.ol_rules.specs.declared.journal.Entry.{Entry}
use Rattle.ol_readback.specs.declared.answers.ReadNode.{ReadNode}
use Rattle.ol_readback.specs.declared.answers.ReadNode.TheVariants as node
use Rattle.ol_demand.specs.Demands.{Asking, asks, Turn, rewrites, one_more, finds, Turns, begins}
use Rattle.ol_demand.specs.Demands.{and_then, IsDemandRun, GoesOn}
use Rattle.ol_demand.specs.Laws.{IsStart, DemandRunIsOne, FrontIsOne, EndsOrGoesOn}
use Rattle.ol_demand.proofs.LiveNodes.{live_same}
use Rattle.ol_demand.proofs.OneTurn.{OneTurn, one_turn, meets_left, meets_right}
use Rattle.ol_demand.proofs.Turning.{turns_kept}

-- nets after turns list each node once
pub once_kept : {N : NamedNet NodeName} {heads : ℕ} {M : NamedNet NodeName} {turns : ℕ}
    {journal : List Entry} {places : List ReadNode} {a : Asking} → IsOnce N.nodes →
    Turns N heads turns journal places M a → IsOnce M.nodes
once_kept o begins = o
once_kept o (and_then r t) = by t (once_kept o r)
  where
    by : {heads ticket : ℕ} {M P : NamedNet NodeName} {a b : Asking} {es : List Entry}
        {ns : List ReadNode} → Turn heads M ticket a es ns P b → IsOnce M.nodes → IsOnce P.nodes
    by (rewrites m) x = m.once
    by (one_more h b) x = x
    by (finds h f) x = x

-- the turns up to one of them, that turn, and what was written down in all
pub record Front (N : NamedNet NodeName) (heads turns : ℕ) (all : List Entry) : Type 0 where
  pub journal : List Entry
  pub places : List ReadNode
  pub net : NamedNet NodeName
  pub asking : Asking
  pub run : Turns N heads turns journal places net asking
  pub es : List Entry
  pub ns : List ReadNode
  pub after : NamedNet NodeName
  pub then_asking : Asking
  pub turn : Turn heads net (length journal) asking es ns after then_asking
  pub rest : List Entry
  pub is : all ≡ (journal ++ es) ++ rest

front : {N : NamedNet NodeName} {heads : ℕ} {M : NamedNet NodeName} {turns : ℕ}
    {journal : List Entry} {places : List ReadNode} {a : Asking} →
    Turns N heads turns journal places M a → (k : ℕ) → k < turns → Front N heads k journal
front begins k b = absurd (omega arith)
front {N = N} {heads = heads} (and_then {turns = turns} {journal = journal} {es = es}
    {places = places} {ns = ns} {M = M} {P = P} {a = a} {b = b'} r t) k b = go (front r k) (three k turns)
  where
    go : (k < turns → Front N heads k journal) → Three k turns → Front N heads k (journal ++ es)
    go before (inl (inl z)) =
        let f = before z in
        record {
          journal = f.journal;
          places = f.places;
          net = f.net;
          asking = f.asking;
          run = f.run;
          es = f.es;
          ns = f.ns;
          after = f.after;
          then_asking = f.then_asking;
          turn = f.turn;
          rest = f.rest ++ es;
          is = ap (λ (js : List Entry). js ++ es) f.is ∙ append_assoc (f.journal ++ f.es) f.rest es;
        }
    go before (inl (inr z)) =
        record {
          journal = journal;
          places = places;
          net = M;
          asking = a;
          run = subst (λ k. Turns N heads k journal places M a) (sym z) r;
          es = es;
          ns = ns;
          after = P;
          then_asking = b';
          turn = t;
          rest = [];
          is = sym (append-nil (journal ++ es));
        }
    go before (inr z) = absurd (omega arith)

-- no turn is left
abbrev Over : ℕ → Asking → Type 0
Over heads a = (a.waiting ≡ []) ⊎ (heads ≤ length a.frames)

no_turn : {heads ticket : ℕ} {M P : NamedNet NodeName} {a b : Asking} {es : List Entry}
    {ns : List ReadNode} → Turn heads M ticket a es ns P b → Over heads a → ⊥
no_turn (rewrites m) (inl e) = absurd (cc)
no_turn (rewrites m) (inr b) = let c = m.ends.below in absurd (omega arith)
no_turn (one_more h l) (inl e) = absurd (cc)
no_turn (one_more h l) (inr b) = let c = h.below in absurd (omega arith)
no_turn (finds h f) (inl e) = absurd (cc)
no_turn (finds h f) (inr b) = let c = h.below in absurd (omega arith)

record Same (js js' : List Entry) (ps ps' : List ReadNode) (M M' : NamedNet NodeName) (a a' : Asking) : Type 0 where
  journal : js ≡ js'
  places : ps ≡ ps'
  nets : SameNet M M'
  asking : a ≡ a'

longer : (all js es rest : List Entry) → all ≡ (js ++ es) ++ rest → length es ≡ 1 → length js < length all
longer all js es rest e l =
    let a = ap (λ (js : List Entry). length js) e in
    let b = length-append (js ++ es) rest in
    let c = length-append js es in
    omega arith

module _ {N : NamedNet NodeName} {N' : NamedNet NodeName} {heads : ℕ} (s : IsStart N)
    (o : IsOnce N'.nodes) (same : SameNet N N') where
  turn_same : {M M' P P' : NamedNet NodeName} {turns : ℕ} {js es js' es' : List Entry}
      {ps ns ps' ns' : List ReadNode} {a b a' b' : Asking} → Turns N heads turns js ps M a →
      Turns N' heads turns js' ps' M' a' → Same js js' ps ps' M M' a a' →
      Turn heads M (length js) a es ns P b → Turn heads M' (length js') a' es' ns' P' b' →
      OneTurn es es' ns ns' P P' b b'
  turn_same {M} {M'} {P} {P'} {turns} {js} {es} {js'} {es'} {ps} {ns} {ps'} {ns'} {a} {b} {a'} {b'} r r' e t t' =
      let k = turns_kept s r in
      let l = live_same M M' e.nets k.once (once_kept o r') in
      let t1 : Turn heads M' (length js) a' es' ns' P' b' = subst
      (λ (js : List Entry). Turn heads M' (length js) a' es' ns' P' b') (sym e.journal) t' in
      one_turn heads (length js) M M' k.net e.nets l t
      (subst (λ a. Turn heads M' (length js) a es' ns' P' b') (sym e.asking) t1)

  turns_same : {M M' : NamedNet NodeName} {turns : ℕ} {js js' : List Entry} {ps ps' : List ReadNode}
      {a a' : Asking} → Turns N heads turns js ps M a → Turns N' heads turns js' ps' M' a' →
      Same js js' ps ps' M M' a a'
  turns_same begins begins = record { journal = refl; places = refl; nets = same; asking = refl }
  turns_same (and_then {journal = js} {es = es} {places = ps} {ns = ns} r t)
      (and_then {journal = js'} {es = es'} {places = ps'} {ns = ns'} r' t') =
      let e = turns_same r r' in
      let y = turn_same r r' e t t' in
      record {
        journal = ap (λ (js : List Entry). js ++ es) e.journal ∙ ap (λ (es : List Entry). js' ++ es) y.entries;
        places = ap (λ (ps : List ReadNode). ps ++ ns) e.places ∙ ap (λ (ns : List ReadNode). ps' ++ ns) y.places;
        nets = y.nets;
        asking = y.next;
      }

  pub one_demand : {M M' : NamedNet NodeName} {js js' : List Entry} {ps ps' : List ReadNode} →
      IsDemandRun N heads js ps M → IsDemandRun N' heads js' ps' M' → (js ≡ js') × (ps ≡ ps') × SameNet M M'
  one_demand {M} {M'} {js} {js'} {ps} {ps'} d d' = go (three d.turns d'.turns)
    where
      go : Three d.turns d'.turns → (js ≡ js') × (ps ≡ ps') × SameNet M M'
      go (inl (inl z)) = let f = front d'.run d.turns z in let e = turns_same d.run f.run in
          absurd (no_turn f.turn (subst (Over heads) e.asking d.over))
      go (inl (inr z)) =
          let r : Turns N' heads d.turns js' d'.asked_places M' d'.last = subst
          (λ k. Turns N' heads k js' d'.asked_places M' d'.last) (sym z) d'.run in
          let e = turns_same d.run r in (
            e.journal,
            d.all ∙ ap (λ (qs : List ReadNode). qs ++ map (λ s. node.Cut) d.last.waiting) e.places
                ∙ ap (λ (a : Asking). d'.asked_places ++ map (λ s. node.Cut) a.waiting) e.asking ∙ sym d'.all,
            e.nets,
          )
      go (inr z) = let f = front d.run d'.turns z in let e = turns_same f.run d'.run in
          absurd (no_turn f.turn (subst (Over heads) (sym e.asking) d'.over))

  pub one_front : {M M' : NamedNet NodeName} {js js' : List Entry} → GoesOn N heads js M →
      GoesOn N' heads js' M' → length js ≡ length js' → (js ≡ js') × SameNet M M'
  one_front {M} {M'} {js} {js'} g g' q = go (three g.turns g'.turns)
    where
      go : Three g.turns g'.turns → (js ≡ js') × SameNet M M'
      go (inl (inl z)) =
          let f = front g'.run g.turns z in
          let e = turns_same g.run f.run in
          let k = turns_kept s g.run in
          let l = live_same M f.net e.nets k.once (once_kept o f.run) in
          let t : Turn heads f.net (length f.journal)
          (asks g.frames (g.subterm ∷ g.later) g.lams) f.es f.ns f.after f.then_asking = subst
          (λ a. Turn heads f.net (length f.journal) a f.es f.ns f.after f.then_asking) (sym e.asking) f.turn in
          let m = meets_right heads (length f.journal) M f.net k.net e.nets l g.frames g.subterm
          g.later g.lams g.first g.second g.rule g.meets t in
          let n = longer js' f.journal f.es f.rest f.is m in
          let w = ap (λ (js : List Entry). length js) e.journal in
          absurd (omega arith)
      go (inl (inr z)) =
          let r : Turns N' heads g.turns js' g'.places M'
          (asks g'.frames (g'.subterm ∷ g'.later) g'.lams) = subst
          (λ k. Turns N' heads k js' g'.places M'
          (asks g'.frames (g'.subterm ∷ g'.later) g'.lams)) (sym z) g'.run in
          let e = turns_same g.run r in
          (e.journal, e.nets)
      go (inr z) =
          let f = front g.run g'.turns z in
          let e = turns_same f.run g'.run in
          let k = turns_kept s f.run in
          let l = live_same f.net M' e.nets k.once (once_kept o g'.run) in
          let t : Turn heads f.net (length f.journal)
          (asks g'.frames (g'.subterm ∷ g'.later) g'.lams) f.es f.ns f.after
          f.then_asking = subst (λ a. Turn heads f.net
          (length f.journal) a f.es f.ns f.after f.then_asking) e.asking f.turn in
          let m = meets_left heads (length f.journal) f.net M' k.net e.nets l g'.frames g'.subterm
          g'.later g'.lams g'.first g'.second g'.rule g'.meets t in
          let n = longer js f.journal f.es f.rest f.is m in
          let w = ap (λ (js : List Entry). length js) e.journal in
          absurd (omega arith)

  pub no_more : {M M' : NamedNet NodeName} {js js' : List Entry} {ps : List ReadNode} →
      IsDemandRun N heads js ps M → GoesOn N' heads js' M' → length js ≤ length js' → ⊥
  no_more {M} {M'} {js} {js'} {ps} d g b = go (three d.turns g.turns)
    where
      go : Three d.turns g.turns → ⊥
      go (inl (inl z)) = let f = front g.run d.turns z in let e = turns_same d.run f.run in
          no_turn f.turn (subst (Over heads) e.asking d.over)
      go (inl (inr z)) =
          let r : Turns N' heads d.turns js' g.places M'
          (asks g.frames (g.subterm ∷ g.later) g.lams) = subst
          (λ k. Turns N' heads k js' g.places M' (asks g.frames (g.subterm ∷ g.later) g.lams)) (sym z) g.run in
          let e = turns_same d.run r in
          by (subst (Over heads) e.asking d.over)
        where
          by : Over heads (asks g.frames (g.subterm ∷ g.later) g.lams) → ⊥
          by (inl e) = absurd (cc)
          by (inr c) = let w = g.meets.below in absurd (omega arith)
      go (inr z) =
          let f = front d.run g.turns z in
          let e = turns_same f.run g.run in
          let k = turns_kept s f.run in
          let l = live_same f.net M' e.nets k.once (once_kept o g.run) in
          let t : Turn heads f.net (length f.journal)
          (asks g.frames (g.subterm ∷ g.later) g.lams) f.es f.ns f.after f.then_asking = subst
          (λ a. Turn heads f.net (length f.journal) a f.es f.ns f.after f.then_asking) e.asking f.turn in
          let m = meets_left heads (length f.journal) f.net M' k.net e.nets l g.frames g.subterm
          g.later g.lams g.first g.second g.rule g.meets t in
          let n = longer js f.journal f.es f.rest f.is m in
          let w = ap (λ (js : List Entry). length js) e.journal in
          absurd (omega arith)

pub demand_is_one : DemandRunIsOne
demand_is_one N N' M M' heads js js' ps ps' s o same d d' = one_demand s o same d d'

pub front_is_one : FrontIsOne
front_is_one N N' M M' heads fuel js js' s o same g g' q q' = one_front s o same g g' (q ∙ sym q')

pub ends_or_goes_on : EndsOrGoesOn
ends_or_goes_on N N' M heads fuel js ps s o same d b h = let q = h.3 in no_more s o same d h.2 (omega arith)
