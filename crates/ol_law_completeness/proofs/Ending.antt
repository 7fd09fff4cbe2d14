-- The turns of demand order, each against the paths of the places that are left.
use Rattle.std.proofs.Common.{◌≡◌, ℕ, zero, suc, ◌+◌, ◌<◌, ◌≤◌, ◌⊎◌, inl, inr, List, [], ◌∷◌, ◌++◌, length, map, take}
use Rattle.std.proofs.Common.{refl, sym, ap, ◌∙◌, subst, arith, append-nil, append_assoc, length-append}
use Rattle.std.proofs.lemmas.Bool.{cases_lt}
use Rattle.std.proofs.lemmas.List.{length_push, take-append-le, take_all}
use Rattle.ol_net.specs.declared.parts.Rule.{Rule}
use Rattle.ol_net.specs.Nets.{NamedNet, NamedPort, free, slot, IsNet, IsPort}
use Rattle.ol_net.specs.Pairs.{IsActive}
use Rattle.ol_context.specs.Contexts.{Context}
use Rattle.ol_context.specs.Paths.{Path, ends, goes, HaveSamePaths}
use Rattle.ol_context.proofs.Exits.{path_one}
use Rattle.ol_invariance.proofs.Steps.{step_keeps}
use Rattle.ol_rules.specs.declared.journal.NodeName.{NodeName}
use Rattle.ol_rules.specs.declared.journal.NodeName.TheVariants.{Born}
use Rattle.ol_rules.specs.declared.journal.Entry.{Entry}
use Rattle.ol_rules.proofs.OneRun.{name_same, name_test, fresh_names}
use Rattle.ol_readback.specs.Frames.{Frame, asked}
use Rattle.ol_readback.specs.Heads.{Answer, head, NoPath, IsMatched, matched}
use Rattle.ol_readback.specs.ReadTrees.{Subterm, whole_term, framed, port_of, arguments}
use Rattle.ol_readback.specs.declared.answers.ReadNode.{ReadNode}
use Rattle.ol_readback.specs.declared.answers.ReadNode.TheVariants as node
use Rattle.ol_readback.proofs.One.{exit_is_one}
use Rattle.ol_demand.specs.Chains as chain
use Rattle.ol_demand.specs.Chains.{Ends}
use Rattle.ol_demand.specs.Demands.{Asking, asks, ChainEnds, Meets, IsFound, exits, lost, spent, place_of, next, Turn}
use Rattle.ol_demand.specs.Demands.{rewrites, one_more, finds, Turns, begins, and_then, IsDemandRun, GoesOn}
use Rattle.ol_demand.specs.Laws.{IsStart}
use Rattle.ol_demand.proofs.Chains.{no_path_at, path_at}
use Rattle.ol_demand.proofs.Turning.{IsKept, turns_kept}
use Rattle.ol_law_completeness.specs.Laws.{CrossesNoStuck}
use Rattle.ol_law_completeness.specs.Complete.{AreRead, done, enough, place, StaysClear, ReadsFirst, HeadsAreRead}
use Rattle.ol_law_completeness.proofs.Costs.{first_after}
use Rattle.ol_law_completeness.proofs.Chaining.{chain_ends}
use Rattle.ol_law_completeness.proofs.Listing.{step_turn}
use Rattle.ol_law_completeness.proofs.Tracing.{chain_is_on_path}
use Rattle.ol_demand.proofs.SourceHeads.{first_is}

-- the numbers of abstractions that are asked for, at these places
abbrev pub lams_of : List ReadNode → ℕ
lams_of [] = 0
lams_of (node.Head n v k ∷ ns) = suc n + lams_of ns
lams_of (node.NoHead ∷ ns) = lams_of ns
lams_of (node.Cut ∷ ns) = lams_of ns

-- what is left to be read costs no more than what is left of so many steps
record Under (ns : List ReadNode) (last most bound heads turns : ℕ) (M : NamedNet NodeName)
    (journal : List Entry) (places : List ReadNode) (a : Asking) : Type 0 where
  cost : ℕ
  left : List ReadNode
  reads : AreRead M last a.frames a.waiting left cost
  all : places ++ left ≡ ns
  few : length journal + cost ≤ most
  slow : turns + cost + lams_of left ≤ bound + a.lams
  tried : (s : Subterm) (ss : List Subterm) → a.waiting ≡ s ∷ ss → (j : ℕ) → j < a.lams →
      NoPath M s.port (asked s.levels j)
  each : length places ≡ length a.frames
  within : length a.frames ≤ heads
  said : heads ≤ last

-- where a chain leaves for no more abstractions than the path, it is the path
pub exit_here : (M : NamedNet NodeName) → IsNet M →
    (F : List Frame) (s : Subterm) (n n0 q q' : ℕ) (X X' : Context) (a : Answer) →
    ((j : ℕ) → j < n0 → NoPath M s.port (asked s.levels j)) →
    Path M (free s.port) (asked s.levels n0) q X →
    IsMatched (F ++ framed s 0 ∷ []) (length F) n0 q X a → n ≤ n0 →
    Ends M s.port (asked s.levels n) (chain.left q' X') →
    (n ≡ n0) × IsMatched (F ++ framed s 0 ∷ []) (length F) n q' X' a
exit_here M is_net F s n n0 q q' X X' a few path match le e = (same, one)
  where
    path' : Path M (free s.port) (asked s.levels n) q' X'
    path' = path_at M is_net s.port (asked s.levels n) q' X' e

    same : n ≡ n0
    same = go (cases_lt n n0)
      where
        go : (n < n0) ⊎ (n0 ≤ n) → n ≡ n0
        go (inl b) = absurd (few n b q' X' path')
        go (inr b) = omega arith

    one : IsMatched (F ++ framed s 0 ∷ []) (length F) n q' X' a
    one =
        let o = path_one M is_net (free s.port) (asked s.levels n) q q' X X'
        (subst (λ n. Path M (free s.port) (asked s.levels n) q X) (sym same) path) path' in
        let z1 =
        subst (λ n. IsMatched (F ++ framed s 0 ∷ []) (length F) n q X a) (sym same) match in
        let z2 = subst (λ q. IsMatched (F ++ framed s 0 ∷ []) (length F) n q X a) o.0 z1 in
        subst (λ X. IsMatched (F ++ framed s 0 ∷ []) (length F) n q' X a) o.1 z2

module _ (ns : List ReadNode) (last most bound heads turns : ℕ) (M : NamedNet NodeName)
    (journal : List Entry) (places : List ReadNode) where
  not_tried : (F : List Frame) (s : Subterm) (ss : List Subterm) (n : ℕ) →
      ((t : Subterm) (ts : List Subterm) → s ∷ ss ≡ t ∷ ts → (j : ℕ) → j < n →
      NoPath M t.port (asked t.levels j)) →
      (n0 q : ℕ) (X : Context) → Path M (free s.port) (asked s.levels n0) q X → n ≤ n0
  not_tried F s ss n tried n0 q X t = by (cases_lt n0 n)
    where
      by : (n0 < n) ⊎ (n ≤ n0) → n ≤ n0
      by (inl b) = absurd (tried s ss refl n0 b q X t)
      by (inr b) = b

  -- ---- one abstraction more

  one_more_under : (F : List Frame) (s : Subterm) (ss : List Subterm) (n : ℕ) → IsNet M →
      ChainEnds heads M F s n chain.undefined →
      Under ns last most bound heads turns M journal places (asks F (s ∷ ss) n) →
      Under ns last most bound heads (suc turns) M (journal ++ []) (places ++ [])
      (asks F (s ∷ ss) (suc n))
  one_more_under F s ss n is_net h u =
      subst (λ (es : List Entry). Under ns last most bound heads (suc turns) M es (places ++ [])
      (asks F (s ∷ ss) (suc n))) (sym (append-nil journal))
      (subst (λ (ps : List ReadNode). Under ns last most bound heads (suc turns) M journal ps
      (asks F (s ∷ ss) (suc n))) (sym (append-nil places))
      (record {
        cost = u.cost;
        left = u.left;
        reads = u.reads;
        all = u.all;
        few = u.few;
        slow = (let z = u.slow in omega arith);
        tried = tried;
        each = u.each;
        within = u.within;
        said = u.said;
      }))
    where
      tried : (t : Subterm) (ts : List Subterm) → s ∷ ss ≡ t ∷ ts → (j : ℕ) → j < suc n →
          NoPath M t.port (asked t.levels j)
      tried t ts e j b = by (cases_lt j n)
        where
          by : (j < n) ⊎ (n ≤ j) → NoPath M t.port (asked t.levels j)
          by (inl c) = u.tried t ts e j c
          by (inr c) =
              let z : n ≡ j = omega arith in
              subst (λ j. NoPath M t.port (asked t.levels j)) z
              (subst (λ (t : Subterm). NoPath M t.port (asked t.levels n))
              (first_is s t ss ts e) (λ q X r. no_path_at M is_net s.port (asked s.levels n)
              h.ends q X r))

  -- ---- a step

  rewrites_under : (N P : NamedNet NodeName) (F : List Frame) (s : Subterm) (ss : List Subterm)
      (n : ℕ) (e : Entry) → IsKept N journal M → CrossesNoStuck M →
      Meets heads M (length journal) F s n e P →
      Under ns last most bound heads turns M journal places (asks F (s ∷ ss) n) →
      Under ns last most bound heads (suc turns) P (journal ++ e ∷ []) (places ++ [])
      (asks F (s ∷ ss) n)
  rewrites_under N P F s ss n e k clear m u =
      subst (λ (ps : List ReadNode). Under ns last most bound heads (suc turns) P
      (journal ++ e ∷ []) ps (asks F (s ∷ ss) n)) (sym (append-nil places))
      (by u.reads u.few u.slow u.all)
    where
      paths : HaveSamePaths M P
      paths = step_keeps name_same name_test (λ at. Born (length journal) at) M P m.step.f m.step.g
          e.rule k.net (fresh_names M (length journal) k.named) m.step.step

      tried : (t : Subterm) (ts : List Subterm) → s ∷ ss ≡ t ∷ ts → (j : ℕ) → j < n →
          NoPath P t.port (asked t.levels j)
      tried t ts z j b q X r = u.tried t ts z j b q X ((paths t.port (asked t.levels j) q X).1 r)

      by : {left : List ReadNode} {cost : ℕ} → AreRead M last F (s ∷ ss) left cost →
          length journal + cost ≤ most → turns + cost + lams_of left ≤ bound + n →
          places ++ left ≡ ns →
          Under ns last most bound heads (suc turns) P (journal ++ e ∷ []) places
          (asks F (s ∷ ss) n)
      by (enough b) low slow all = let c = m.ends.below in let d = u.said in absurd (omega arith)
      by (place {ns = rest} {n = n0} {q = q} {k = args} {X = X} {v = v} few path match reads) low
          slow all =
          let le = not_tried F s ss n u.tried n0 q X path in
          let c = chain_is_on_path M k.net clear s.port s.levels n0 q X path n
          (chain.met m.step.f m.step.g e.rule) le m.ends.ends in
          let y = first_after name_same name_test (λ at. Born (length journal) at) M P m.step.f
          m.step.g e.rule k.net (fresh_names M (length journal) k.named) m.step.step few path
          match reads c in
          let less = y.2 in
          let longer = length-append journal (e ∷ []) in
          record {
            cost = y.0;
            left = node.Head n0 v args ∷ rest;
            reads = y.1;
            all = all;
            few = omega arith;
            slow = omega arith;
            tried = tried;
            each = u.each;
            within = u.within;
            said = u.said;
          }

  -- ---- a place

  finds_under : (F : List Frame) (s : Subterm) (ss : List Subterm) (n : ℕ)
      (end : chain.End NodeName) (a : Answer) → IsNet M → CrossesNoStuck M →
      ChainEnds heads M F s n end → IsFound M F s n end a →
      Under ns last most bound heads turns M journal places (asks F (s ∷ ss) n) →
      Under ns last most bound heads (suc turns) M (journal ++ []) (places ++ place_of a ∷ [])
      (next F s ss a)
  finds_under F s ss n end a is_net clear h f u =
      subst (λ (es : List Entry). Under ns last most bound heads (suc turns) M es
      (places ++ place_of a ∷ []) (next F s ss a)) (sym (append-nil journal))
      (by u.reads u.few u.slow u.all f h)
    where
      by : {left : List ReadNode} {cost : ℕ} {end : chain.End NodeName} {a : Answer} →
          AreRead M last F (s ∷ ss) left cost → length journal + cost ≤ most →
          turns + cost + lams_of left ≤ bound + n → places ++ left ≡ ns → IsFound M F s n end a →
          ChainEnds heads M F s n end →
          Under ns last most bound heads (suc turns) M journal (places ++ place_of a ∷ [])
          (next F s ss a)
      by (enough b) low slow all f h = let c = h.below in let d = u.said in absurd (omega arith)
      by (place {n = n0} {q = q} {X = X} few path match reads) low slow all (lost b) h =
          let c = chain_is_on_path M is_net clear s.port s.levels n0 q X path n chain.undefined
          (not_tried F s ss n u.tried n0 q X path) h.ends in
          let d = c.1 in
          absurd (omega arith)
      by (place {n = n0} {q = q} {X = X} few path match reads) low slow all spent h =
          absurd (chain_is_on_path M is_net clear s.port s.levels n0 q X path n chain.budget
          (not_tried F s ss n u.tried n0 q X path) h.ends)
      by {a = a} (place {ns = rest} {n = n0} {q = q} {k = k} {m = m} {X = X} {v = v}
          {ls = ls} few path match reads) low slow all (exits {q = q'} {X = X'} y) h =
          subst (λ a. Under ns last most bound heads (suc turns) M journal
          (places ++ place_of a ∷ []) (next F s ss a)) one (record {
            cost = m;
            left = rest;
            reads = reads;
            all = append_assoc places (node.Head n0 v k ∷ []) rest ∙ all;
            few = omega arith;
            slow = let z = same in omega arith;
            tried = λ t ts e j b. absurd (omega arith);
            each = let l = length_push places (node.Head n0 v k) in
                let l' = length_push F (framed s n0) in let e = u.each in omega arith;
            within = let l' = length_push F (framed s n0) in let b = h.below in omega arith;
            said = u.said;
          })
        where
          here : (n ≡ n0) × IsMatched (F ++ framed s 0 ∷ []) (length F) n q' X' (head n0 v k ls)
          here = exit_here M is_net F s n n0 q q' X X' (head n0 v k ls) few path (matched match)
              (not_tried F s ss n u.tried n0 q X path) h.ends

          same : n ≡ n0
          same = here.0

          one : head n0 v k ls ≡ a
          one = exit_is_one (F ++ framed s 0 ∷ []) (length F) n q' X' (head n0 v k ls) a here.1 y

turn_under : (ns : List ReadNode) (last most bound heads turns : ℕ) (N M P : NamedNet NodeName)
    (journal es : List Entry) (places found : List ReadNode) (a b : Asking) → IsKept N journal M →
    CrossesNoStuck M → Turn heads M (length journal) a es found P b →
    Under ns last most bound heads turns M journal places a →
    Under ns last most bound heads (suc turns) P (journal ++ es) (places ++ found) b
turn_under ns last most bound heads turns N M P journal es places found a b k clear (rewrites
    {F = F} {s = s} {ss = ss} {n = n} {e = e} m) u =
    rewrites_under ns last most bound heads turns M journal places N P F s ss n e k clear m u
turn_under ns last most bound heads turns N M P journal es places found a b k clear (one_more
    {F = F} {s = s} {ss = ss} {n = n} h l) u =
    one_more_under ns last most bound heads turns M journal places F s ss n k.net h u
turn_under ns last most bound heads turns N M P journal es places found a b k clear (finds
    {F = F} {s = s} {ss = ss} {n = n} {end = end} {a = c} h f) u =
    finds_under ns last most bound heads turns M journal places F s ss n end c k.net clear h f u

turns_under : {N : NamedNet NodeName} {heads : ℕ} {M : NamedNet NodeName} {turns : ℕ}
    {journal : List Entry} {places : List ReadNode} {a : Asking} (ns : List ReadNode)
    (last most : ℕ) → heads ≤ last → IsStart N → StaysClear N →
    AreRead N last [] (whole_term ∷ []) ns most → Turns N heads turns journal places M a →
    Under ns last most (most + lams_of ns) heads turns M journal places a
turns_under ns last most c s clear r begins = record {
  cost = most;
  left = ns;
  reads = r;
  all = refl;
  few = omega arith;
  slow = omega arith;
  tried = λ t ts e j b. absurd (omega arith);
  each = refl;
  within = omega arith;
  said = c;
}
turns_under {N = N} {heads = heads} ns last most c s clear r (and_then {turns = turns}
    {journal = journal} {es = es} {places = places} {ns = found} {M = M} {P = P} {a = a} {b =
    b} y t) =
    let k = turns_kept s y in
    turn_under ns last most (most + lams_of ns) heads turns N M P journal es places found a b k
    (clear journal M k.run) t (turns_under ns last most c s clear r y)

-- ---- a whole run

take_first : (asked left : List ReadNode) (n : ℕ) → length asked ≡ n →
    take n (asked ++ left) ≡ asked
take_first asked left n e = take-append-le n asked left (omega arith)
    ∙ take_all n asked (omega arith)

none_left : {M : NamedNet NodeName} {last : ℕ} {F : List Frame} {ss : List Subterm}
    {left : List ReadNode} {m : ℕ} → AreRead M last F ss left m → ss ≡ [] → left ≡ []
none_left done e = refl
none_left (enough b) e = refl
none_left (place few t match r) e = absurd (cc)

none_waiting : {M : NamedNet NodeName} {last : ℕ} {F : List Frame} {ss : List Subterm}
    {left : List ReadNode} {m : ℕ} → AreRead M last F ss left m → length F < last → left ≡ [] →
    ss ≡ []
none_waiting done b e = refl
none_waiting (enough c) b e = absurd (omega arith)
none_waiting (place few t match r) b e = absurd (cc)

no_length : (left : List ReadNode) → length left ≡ 0 → left ≡ []
no_length [] e = refl
no_length (n ∷ left) e = absurd (omega arith)

module _ (ns : List ReadNode) (last most heads : ℕ) (M : NamedNet NodeName) (journal : List Entry)
    (asked_places : List ReadNode) (a : Asking) (bound turns : ℕ)
    (u : Under ns last most bound heads turns M journal asked_places a) where
  -- all were read
  all_read : a.waiting ≡ [] → asked_places ≡ ns
  all_read e = sym (append-nil asked_places)
      ∙ ap (λ left. asked_places ++ left) (sym (none_left u.reads e)) ∙ u.all

  no_cuts : a.waiting ≡ [] → asked_places ++ map (λ s. node.Cut) a.waiting ≡ ns
  no_cuts e = ap (λ (ss : List Subterm). asked_places ++ map (λ s. node.Cut) ss) e
      ∙ append-nil asked_places ∙ all_read e

  reads_first : (places : List ReadNode) → places ≡ asked_places ++ map (λ s. node.Cut) a.waiting →
      (a.waiting ≡ []) ⊎ (heads ≤ length a.frames) → ReadsFirst heads ns places
  reads_first places e (inl z) = record {
    later = a.waiting;
    is = e ∙ ap (λ ps. ps ++ map (λ s. node.Cut) a.waiting) (all_read z
        ∙ sym (take_all heads ns (let n = ap length (all_read z) in let b = u.each in
        let c = u.within in omega arith)));
  }
  reads_first places e (inr z) = record {
    later = a.waiting;
    is = e ∙ ap (λ ps. ps ++ map (λ s. node.Cut) a.waiting) (sym (ap (take heads) (sym u.all)
        ∙ take_first asked_places u.left heads (let b = u.each in let c = u.within in
        omega arith)));
  }

  reads_whole : (places : List ReadNode) → places ≡ asked_places ++ map (λ s. node.Cut) a.waiting →
      (a.waiting ≡ []) ⊎ (heads ≤ length a.frames) → length ns < last → length ns ≤ heads →
      places ≡ ns
  reads_whole places e (inl z) b c = e ∙ no_cuts z
  reads_whole places e (inr z) b c =
      let l = length-append asked_places u.left in
      let m = ap length u.all in
      let n = u.each in
      let few : length a.frames < last = omega arith in
      let short : length u.left ≡ 0 = omega arith in
      e ∙ no_cuts (none_waiting u.reads few (no_length u.left short))

-- ---- that there is a run

pub path_port : {M : NamedNet NodeName} {p : NamedPort NodeName} {c : Context} {q : ℕ}
    {X : Context} → IsNet M → Path M p c q X → IsPort M p
path_port is_net (ends {p = p} {q = q} l) = (is_net.of_ports p (free q) l).0
path_port is_net (goes {p = p} {x = x} {s = s} l h y r) = (is_net.of_ports p (slot x s) l).0

active_of : (M : NamedNet NodeName) (p : ℕ) (c : Context) (f g : NodeName) (r : Rule) →
    Ends M p c (chain.met f g r) → IsActive M f g r
active_of M p c f g r e = go e.stands refl
  where
    go : {n : ℕ} {u : NamedPort NodeName} {d : Context} {end : chain.End NodeName} →
        chain.Stands M n u d end → end ≡ chain.met f g r → IsActive M f g r
    go (chain.at_pair {f = f'} {g = g'} {r = r'} y) z =
        let a : f' ≡ f = cc in
        let b : g' ≡ g = cc in
        let d : r' ≡ r = cc in
        subst (λ f. IsActive M f g r) a (subst (λ g. IsActive M f' g r) b
        (subst (λ r. IsActive M f' g' r) d y.active))
    go (chain.at_port l) z = absurd (cc)
    go (chain.barred a l b) z = absurd (cc)
    go (chain.at_last a l t b) z = absurd (cc)

module _ (N : NamedNet NodeName) (ns : List ReadNode) (last m heads : ℕ) (below : heads ≤ last)
    (start : IsStart N) (clear : StaysClear N) (reads : AreRead N last [] (whole_term ∷ []) ns m)
  where
    abbrev Run : Type 0
    Run = (journal : List Entry) × (places : List ReadNode) × (M : NamedNet NodeName)
        × IsDemandRun N heads journal places M

    abbrev More : ℕ → Type 0
    More fuel =
        (turns : ℕ) (journal : List Entry) (places : List ReadNode) (M : NamedNet NodeName)
        (F : List Frame) (ss : List Subterm) (n : ℕ) →
        Turns N heads turns journal places M (asks F ss n) → m + lams_of ns ≤ turns + fuel → Run

    module _ (turns : ℕ) (journal : List Entry) (places : List ReadNode) (M : NamedNet NodeName)
        (F : List Frame) (s : Subterm) (ss : List Subterm) (n : ℕ)
        (t : Turns N heads turns journal places M (asks F (s ∷ ss) n)) where
      -- one turn more, and what it leaves to be asked
      record Next : Type 0 where
        entries : List Entry
        found : List ReadNode
        after : NamedNet NodeName
        frames : List Frame
        waiting : List Subterm
        lams : ℕ
        turn : Turn heads M (length journal) (asks F (s ∷ ss) n) entries found after
            (asks frames waiting lams)

      by_step : IsKept N journal M → length F < heads → (f g : NodeName) (r : Rule) →
          Ends M s.port (asked s.levels n) (chain.met f g r) → Next
      by_step k b f g r e =
          let x = step_turn heads M (length journal) F s ss n k.net k.named b f g r
          (active_of M s.port (asked s.levels n) f g r e) e in
          record {
            entries = x.entry ∷ [];
            found = [];
            after = x.after;
            frames = F;
            waiting = s ∷ ss;
            lams = n;
            turn = x.turn;
          }

      next_turn : length F < heads → Next × (turns < m + lams_of ns)
      next_turn b = by u.reads u.slow
        where
          k : IsKept N journal M
          k = turns_kept start t

          u : Under ns last m (m + lams_of ns) heads turns M journal places (asks F (s ∷ ss) n)
          u = turns_under ns last m below start clear reads t

          by : {left : List ReadNode} {cost : ℕ} → AreRead M last F (s ∷ ss) left cost →
              turns + cost + lams_of left ≤ m + lams_of ns + n → Next × (turns < m + lams_of ns)
          by (enough d) slow = let e = below in absurd (omega arith)
          by (place {n = n0} {q = q} {k = args} {X = X} {v = v} {ls = ls} few path match rest)
              slow =
              let le = not_tried ns last m (m + lams_of ns) heads turns M journal places F s ss n
              u.tried n0 q X path in (
                ended le (chain_ends M k.net s.port (asked s.levels n) (path_port k.net path)),
                omega arith,
              )
            where
              ended : n ≤ n0 → (end : chain.End NodeName) × Ends M s.port (asked s.levels n) end →
                  Next
              ended le (chain.met f g r, e) = by_step k b f g r e
              ended le (chain.left q' X', e) = record {
                entries = [];
                found = node.Head n0 v args ∷ [];
                after = M;
                frames = F ++ framed s n0 ∷ [];
                waiting = arguments (length F) (port_of (F ++ framed s n0 ∷ []) v) ls 0 args ++ ss;
                lams = 0;
                turn = finds {a = head n0 v args ls} (record { below = b; ends = e })
                    (exits (exit_here M k.net F s n n0 q q' X X' (head n0 v args ls) few path
                    (matched match) le e).1);
              }
              ended le (chain.undefined, e) =
                  let c = chain_is_on_path M k.net (clear journal M k.run) s.port s.levels n0 q X
                  path
                  n chain.undefined le e in
                  record {
                    entries = [];
                    found = [];
                    after = M;
                    frames = F;
                    waiting = s ∷ ss;
                    lams = suc n;
                    turn = one_more (record { below = b; ends = e }) c.1;
                  }
              ended le (chain.budget, e) =
                  absurd (chain_is_on_path M k.net (clear journal M k.run) s.port s.levels n0 q X
                  path
                  n chain.budget le e)

    finish : (turns : ℕ) (journal : List Entry) (places : List ReadNode) (M : NamedNet NodeName)
        (a : Asking) → Turns N heads turns journal places M a →
        (a.waiting ≡ []) ⊎ (heads ≤ length a.frames) → Run
    finish turns journal places M a t o = (
      journal,
      places ++ map (λ s. node.Cut) a.waiting,
      M,
      record { turns = turns; asked_places = places; last = a; run = t; over = o; all = refl },
    )

    stand : (fuel : ℕ) → ((rest : ℕ) → fuel ≡ suc rest → More rest) → More fuel
    stand fuel later turns journal places M F [] n t b =
        finish turns journal places M (asks F [] n) t (inl refl)
    stand fuel later turns journal places M F (s ∷ ss) n t b = by (cases_lt (length F) heads)
      where
        by : (length F < heads) ⊎ (heads ≤ length F) → Run
        by (inr c) = finish turns journal places M (asks F (s ∷ ss) n) t (inr c)
        by (inl c) = go fuel refl (next_turn turns journal places M F s ss n t c)
          where
            go : (f : ℕ) → fuel ≡ f → Next turns journal places M F s ss n t
                × (turns < m + lams_of ns) → Run
            go zero e (x, l) = absurd (omega arith)
            go (suc f) e (x, l) =
                later f e (suc turns) (journal ++ x.entries) (places ++ x.found) x.after x.frames
                x.waiting x.lams (and_then t x.turn) (omega arith)

    go_on : (fuel : ℕ) → More fuel
    go_on zero = stand zero (λ rest e. absurd (omega arith))
    go_on (suc fuel) = stand (suc fuel) (λ rest e. (let q : fuel ≡ rest = omega arith in
        subst More q (go_on fuel)))

    pub run_is_there : Run
    run_is_there = go_on (m + lams_of ns) 0 [] [] N [] (whole_term ∷ []) 0 begins (omega arith)

-- where one pair more is met, fewer steps were made than there are inversions
goes_on_under : (N : NamedNet NodeName) (ns : List ReadNode) (last m heads : ℕ) → heads ≤ last →
    IsStart N → StaysClear N → AreRead N last [] (whole_term ∷ []) ns m →
    (journal : List Entry) (M : NamedNet NodeName) → GoesOn N heads journal M → length journal < m
goes_on_under N ns last m heads b s clear r journal M g =
    let k = turns_kept s g.run in
    let x = step_turn heads M (length journal) g.frames g.subterm g.later g.lams k.net k.named
    g.meets.below g.first g.second g.rule (active_of M g.subterm.port (asked g.subterm.levels g.lams)
    g.first g.second g.rule g.meets.ends) g.meets.ends in
    let u = turns_under ns last m b s clear r (and_then g.run x.turn) in
    let few = u.few in
    let longer = length-append journal (x.entry ∷ []) in
    omega arith

pub heads_are_read : HeadsAreRead
heads_are_read N last m ns s clear r heads b = (
  record {
    run = run_is_there N ns last m heads b s clear r;
    ends = λ fuel c h. (let few = goes_on_under N ns last m heads b s clear r h.0 h.1 h.2 in
        let l = h.3 in absurd (omega arith));
    few = λ journal places M d. (let u = turns_under {heads = heads} ns last m b s clear r d.run in
        let few = u.few in omega arith);
    places = λ journal places M d. reads_first ns last m heads M journal d.asked_places d.last
        (m + lams_of ns) d.turns (turns_under ns last m b s clear r d.run) places d.all d.over;
  },
  λ c e journal places M d. reads_whole ns last m heads M journal d.asked_places d.last
      (m + lams_of ns) d.turns (turns_under ns last m b s clear r d.run) places d.all d.over c e,
)
