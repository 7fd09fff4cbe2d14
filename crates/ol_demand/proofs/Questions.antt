-- The last frame of a list, its question, and what its chain says of a run under way.
use Rattle.std.proofs.Common.{◌≡◌, ◌≢◌, ℕ, ◌+◌, ◌-◌, ◌<◌, inl, inr, List, [], ◌∷◌, ◌++◌, length}
use Rattle.std.proofs.Common.{length-append, map, get_or, refl, sym, ap, ◌∙◌, subst, arith}
use Rattle.std.proofs.lemmas.List.{map-append, length_push}
use Rattle.ol_net.specs.Graph.{Graph}
use Rattle.ol_net.specs.Nets.{IsNet}
use Rattle.ol_net.specs.Numbered.{net_of}
use Rattle.ol_context.specs.Contexts.{Level, empty, Context, levels}
use Rattle.ol_context.specs.Shapes.{value, Extends, context_of}
use Rattle.ol_context.proofs.Shapes.{map_more}
use Rattle.ol_rules.specs.declared.journal.Entry.{Entry}
use Rattle.ol_rules.specs.declared.journal.NodeName.{NodeName}
use Rattle.ol_rules.specs.Runs.{names_born}
use Rattle.ol_readback.specs.declared.answers.ReadNode.{ReadNode}
use Rattle.ol_rules.proofs.OnTheWay.{length-names_born, step_few}
use Rattle.ol_readback.specs.Askers.{IsKnownHead}
use Rattle.ol_readback.specs.Frames.{Frame, os, asked, frame_at, frame_of, frames_of, ParentsFirst, AreHeldFrames}
use Rattle.ol_readback.specs.Heads.{Answer, IsMatched, matched, unmatched, answer_of}
use Rattle.ol_readback.specs.Matching.{Matches}
use Rattle.ol_readback.specs.ReadTrees.{Subterm, framed}
use Rattle.ol_readback.specs.declared.answers.Head.{Head}
use Rattle.ol_readback.specs.declared.answers.Head.TheVariants as head
use Rattle.ol_readback.specs.declared.frames.Frame as code
use Rattle.ol_readback.proofs.Forests.{frame_last}
use Rattle.ol_readback.proofs.FrameLists.{frame_is, held_this, count_frames}
use Rattle.ol_readback.proofs.Places.{port_is, known, path_port}
use Rattle.ol_demand.specs.Chains as chain
use Rattle.ol_demand.specs.Chains.{Ends}
use Rattle.ol_demand.specs.Chaining.{MetBy, IsEndOf, question_of}
use Rattle.ol_demand.specs.Demands.{asks}
use Rattle.ol_demand.specs.Answers.{StopsOnTheWay}
use Rattle.ol_demand.specs.Asking.{IsUnderWay, IsRunning, AdvancesEither, StopsEither}
use Rattle.ol_rules.specs.UnderWay.{entry_for, Advances}
use Rattle.ol_demand.specs.declared.answers.End.{End}
use Rattle.ol_rules.specs.declared.under_way.UnderWay.{UnderWay}
use Rattle.ol_demand.proofs.Chains.{path_at}
use Rattle.ol_demand.proofs.Paired.{both_below, linked_turned}
use Rattle.ol_demand.proofs.UnderWays.{rewritten, stopped, under_stops}

-- the list's last frame is that of subterm s
module _ (vs : List Level) (fs : List code.Frame) (at : ℕ) (f : code.Frame) (b : at + 1 ≡ length fs)
    (e : f ≡ get_or fs at f) (front : List Frame) (s : Subterm) (z : frames_of vs fs ≡ front ++ framed s 0 ∷ []) where
  pub at_is : length front ≡ at
  at_is =
      let c = count_frames vs fs in
      let l = length_push front (framed s 0) in
      let y = ap (λ (F : List Frame). length F) z in
      omega arith

  pub frame_is_last : frame_of vs f ≡ framed s 0
  frame_is_last =
      sym (frame_is vs fs at f (omega arith) e) ∙ ap (λ (F : List Frame). frame_at F at) z
      ∙ ap (λ i. frame_at (front ++ framed s 0 ∷ []) i) (sym at_is) ∙ frame_last front (framed s 0)

  pub port_is_last : f.port ≡ s.port
  port_is_last = ap (λ (f : Frame). f.port) frame_is_last

  pub levels_last : map (value vs) f.levels ≡ s.levels
  levels_last = ap (λ (f : Frame). f.levels) frame_is_last

  -- what its chain says
  module _ (ws : List Level) (mark n : ℕ) (x : Extends vs ws) (h : AreHeldFrames vs fs)
      (m : value ws mark ≡ os n empty) where
    pub question_is : context_of ws (question_of f.levels mark) ≡ asked s.levels n
    question_is =
        let held = held_this vs fs at f h (omega arith) e in
        let here : map (value ws) f.levels ≡ s.levels = map_more vs ws f.levels x held ∙ levels_last in
        ap levels (map-append (value ws) f.levels (mark ∷ [])
        ∙ ap (λ ls. ls ++ value ws mark ∷ []) here ∙ ap (λ v. s.levels ++ v ∷ []) m)

    pub end_here : (g : Graph) (us : List Level) (end : End) →
        IsEndOf g f.port (context_of ws (question_of f.levels mark)) us end → IsEndOf g s.port (asked s.levels n) us end
    end_here g us end y =
        subst (λ p. IsEndOf g p (asked s.levels n) us end) port_is_last
        (subst (λ c. IsEndOf g f.port c us end) question_is y)

    pub end_is : (g : Graph) (us : List Level) (end end' : End) →
        IsEndOf g f.port (context_of ws (question_of f.levels mark)) us end → end ≡ end' →
        IsEndOf g s.port (asked s.levels n) us end'
    end_is g us end end' y q = subst (λ end. IsEndOf g s.port (asked s.levels n) us end) q (end_here g us end y)

  -- what its exit says
  pub matched_last : (n q : ℕ) (X : Context) (a : Answer) → IsMatched (frames_of vs fs) at n q X a →
      IsMatched (front ++ framed s 0 ∷ []) (length front) n q X a
  matched_last n q X a y = subst (λ i. IsMatched (front ++ framed s 0 ∷ []) i n q X a) (sym at_is)
      (subst (λ F. IsMatched F at n q X a) z y)

-- the variable of what an exit says
pub known_head : (g : Graph) → IsNet (net_of g) →
    (F : List Frame) (i n q : ℕ) (X : Context) (p : ℕ) (c : Context) (vs : List Level) (h : Head) →
    ParentsFirst F → i < length F → Ends (net_of g) p c (chain.left q X) →
    IsMatched F i n q X (answer_of vs h) → IsKnownHead g.free F h
known_head g is_net F i n q X p c vs (head.Is l v k ls) parents b x m = go m refl
  where
    port : q < g.free
    port = path_port is_net (path_at (net_of g) is_net p c q X x)

    by : {v' : _} {k' : ℕ} {ls' : List Level} → Matches F q X i n v' k' ls' → v' ≡ v →
        IsKnownHead g.free F (head.Is l v k ls)
    by y e = subst (λ v. IsKnownHead g.free F (head.Is l v k ls)) e
        (known parents y (length F) b, (let z = port_is y in let w = port in omega arith))

    go : {a : Answer} → IsMatched F i n q X a → a ≡ answer_of vs (head.Is l v k ls) →
        IsKnownHead g.free F (head.Is l v k ls)
    go (matched y) e = by y (cc)
    go (unmatched y) e = absurd (cc)
known_head g is_net F i n q X p c vs head.NoHead parents b x m = tt
known_head g is_net F i n q X p c vs head.Budget parents b x m = tt

-- after a step
pub running_on : (g g' : Graph) (run run' : UnderWay) (fuel x y : ℕ) → IsRunning g run fuel →
    length run.journal ≢ fuel → AdvancesEither run run' g g' x y → IsRunning g' run' fuel
running_on g g' run run' fuel x y h n a = go a
  where
    by : (x y : ℕ) → Advances run run' g g' x y → IsRunning g' run' fuel
    by x y a =
        let q = a.step.numbers in
        let w = step_few g g' x a.rule a.step in
        let j = ap (λ (es : List Entry). length es) a.journal in
        let k = length_push run.journal (entry_for run a.rule x y) in
        let m = ap (λ (ns : List NodeName). length ns) a.names in
        let l = length-append run.names.born.items (names_born (length run.journal) (length g'.nodes - length g.nodes)) in
        let o = length-names_born (length run.journal) (length g'.nodes - length g.nodes) in
        let i = h.names in
        let f = h.few in
        let v = h.within in
        let e = a.start in
        record { names = omega arith; within = omega arith; few = omega arith }

    go : AdvancesEither run run' g g' x y → IsRunning g' run' fuel
    go (inl t) = by x y t.1
    go (inr t) = by y x t.1

pub journal_on : (g g' : Graph) (run run' : UnderWay) (x y : ℕ) → AdvancesEither run run' g g' x y →
    length run'.journal ≡ length run.journal + 1
journal_on g g' run run' x y (inl t) = ap (λ (es : List Entry). length es) t.1.journal
    ∙ length_push run.journal (entry_for run t.1.rule x y)
journal_on g g' run run' x y (inr t) = ap (λ (es : List Entry). length es) t.1.journal
    ∙ length_push run.journal (entry_for run t.1.rule y x)

pub free_on : (g g' : Graph) (run run' : UnderWay) (x y : ℕ) → AdvancesEither run run' g g' x y → g'.free ≡ g.free
free_on g g' run run' x y (inl t) = t.1.step.step.rewrites.free_ports
free_on g g' run run' x y (inr t) = t.1.step.step.rewrites.free_ports

module _ (old g g' : Graph) (run : UnderWay) (heads : ℕ) (places : List ReadNode) (F : List Frame)
    (s : Subterm) (ss : List Subterm) (n x y : ℕ) (below : length F < heads)
    (u : IsUnderWay old g run heads places (asks F (s ∷ ss) n))
    (is_net : IsNet (net_of g)) (h : MetBy (net_of g) s.port (asked s.levels n) x y) where
  -- both nodes, in their order
  both : (x < length g.nodes) × (y < length g.nodes)
  both = both_below g is_net x y h.rule h.pair

  pub met_on : (run' : UnderWay) → run.names.start + length run.names.born.items ≡ length g.nodes →
      AdvancesEither run run' g g' x y → IsUnderWay old g' run' heads places (asks F (s ∷ ss) n)
  met_on run' c (inl t) = rewritten old g run heads places F s ss n below u g' run' is_net x y x t.0
      (inl refl) both h.pair.1 h.ends c t.1
  met_on run' c (inr t) = rewritten old g run heads places F s ss n below u g' run' is_net y x x t.0
      (inr refl) (both.1, both.0) (linked_turned (net_of g) x y h.pair.1) h.ends c t.1

  pub met_stopped : (fuel : ℕ) → length run.journal < fuel → StopsEither g g' x y → StopsOnTheWay old heads fuel g'
  met_stopped fuel b (inl (l, inl e)) = subst (λ g. StopsOnTheWay old heads fuel g) (sym e)
      (under_stops old g run heads fuel places (asks F (s ∷ ss) n) u (omega arith))
  met_stopped fuel b (inl (l, inr t)) = stopped old g run heads places F s ss n below u g' is_net x
      y x l (inl refl) both h.pair.1 h.ends t.0 t.1 fuel b
  met_stopped fuel b (inr (l, inl e)) = subst (λ g. StopsOnTheWay old heads fuel g) (sym e)
      (under_stops old g run heads fuel places (asks F (s ∷ ss) n) u (omega arith))
  met_stopped fuel b (inr (l, inr t)) = stopped old g run heads places F s ss n below u g' is_net y
      x x l (inr refl) (both.1, both.0) (linked_turned (net_of g) x y h.pair.1) h.ends t.0 t.1 fuel b
