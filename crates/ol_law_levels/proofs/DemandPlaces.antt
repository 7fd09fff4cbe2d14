-- The places that turns find in a levelled net are those of the net before.
-- For `demand_places_are_the_sources`, `asked_places_are_the_sources`, and in crates above.
use Rattle.std.proofs.Common.{◌≡◌, ℕ, ◌<◌, ◌≤◌, ◌⊎◌, inl, inr, List, [], ◌∷◌, ◌++◌, length}
use Rattle.std.proofs.Common.{append-nil, map, refl, sym, subst, arith}
use Rattle.std.proofs.lemmas.List.{append_assoc}
use Rattle.std.proofs.lemmas.Bool.{cases_lt}
use Rattle.ol_net.specs.Nets.{NamedNet, free, IsNet}
use Rattle.ol_context.specs.Contexts.{Level, Context}
use Rattle.ol_context.specs.Paths.{Path, HaveSamePaths}
use Rattle.ol_rules.specs.declared.journal.NodeName.{NodeName}
use Rattle.ol_rules.specs.declared.journal.Entry.{Entry}
use Rattle.ol_readback.specs.Frames.{Frame, asked}
use Rattle.ol_readback.specs.Heads.{Answer, head, no_head, NoPath, IsHead, IsMatched}
use Rattle.ol_readback.specs.Heads as heads
use Rattle.ol_readback.specs.ReadTrees.{Subterm, framed}
use Rattle.ol_readback.specs.declared.answers.HeadVar.{HeadVar}
use Rattle.ol_readback.specs.declared.answers.ReadNode.{ReadNode}
use Rattle.ol_readback.specs.declared.answers.ReadNode.TheVariants as node
use Rattle.ol_readback.proofs.Forests.{frame_last}
use Rattle.ol_demand.specs.Chains as chain
use Rattle.ol_demand.specs.Chains.{Ends}
use Rattle.ol_demand.specs.Demands.{Asking, asks, IsFound, exits, lost, spent, place_of, next, Turn}
use Rattle.ol_demand.specs.Demands.{rewrites, one_more, finds, Turns, begins, and_then}
use Rattle.ol_demand.specs.Laws.{IsStart}
use Rattle.ol_demand.proofs.Chains.{path_at}
use Rattle.ol_demand.proofs.Turning.{turns_kept}
use Rattle.ol_law_levels.specs.Levels.{IsLevelled}
use Rattle.ol_law_levels.specs.Asked.{HaveAskedHeadsOf, HasAskedHeadsOf, DemandTellsAsked}
use Rattle.ol_law_levels.specs.Asked as places_of
use Rattle.ol_law_levels.specs.Demand.{DemandPlacesAreTheSources}
use Rattle.ol_law_levels.proofs.AskedTrees.{asked_heads}
use Rattle.ol_law_levels.proofs.Budgets.{spent_is_lost}
use Rattle.ol_law_levels.proofs.Lost.{lost_is_lost}
use Rattle.ol_law_levels.proofs.Runs.{run_keeps}
use Rattle.ol_demand.proofs.SourceHeads.{Tried, tried_more, tried_none}

-- what is found later is found after these places
abbrev Ahead : NamedNet NodeName → ℕ → List ReadNode → Asking → Type 0
Ahead N many places a = (rest : List ReadNode) → HaveAskedHeadsOf N many a.frames a.waiting rest →
    HasAskedHeadsOf N many (places ++ rest)

unmatched_budget : {F : List Frame} {i n q : ℕ} {X : Context} {a : Answer} → IsMatched F i n q X a →
    a ≡ heads.budget → ⊥
unmatched_budget (heads.matched x) e = absurd (cc)
unmatched_budget (heads.unmatched x) e = absurd (cc)

module _ (N M : NamedNet NodeName) (is_net : IsNet M) (L : IsLevelled M)
    (paths : HaveSamePaths N M) where
  module _ (F : List Frame) (s : Subterm) (ss : List Subterm) (n : ℕ)
      (y : Tried N (asks F (s ∷ ss) n)) where
    is_head : {end : chain.End NodeName} {a : Answer} {n' k : ℕ} {v : HeadVar} {ls : List Level} →
        IsFound M F s n end a → a ≡ head n' v k ls → Ends M s.port (asked s.levels n) end →
        IsHead N (F ++ framed s 0 ∷ []) (length F) a
    is_head (exits {q = q} {X = X} {a = a} m) e h =
        let z = frame_last F (framed s 0) in
        heads.leaves {n = n} {q = q} {X = X}
        (λ m b. subst (λ (f : Frame). NoPath N f.port (asked f.levels m)) (sym z) (y s ss refl m b))
        (subst (λ (f : Frame). Path N (free f.port) (asked f.levels n) q X) (sym z)
        ((paths s.port (asked s.levels n) q X).1
        (path_at M is_net s.port (asked s.levels n) q X h))) m
    is_head (lost b) e h = absurd (cc)
    is_head spent e h = absurd (cc)

    -- asked in vain for fewer, for so many, and then for more
    is_lost : {end : chain.End NodeName} {a : Answer} → IsFound M F s n end a →
        Ends M s.port (asked s.levels n) end → a ≡ no_head →
        IsHead N (F ++ framed s 0 ∷ []) (length F) no_head
    is_lost (lost b) h e =
        let z = frame_last F (framed s 0) in
        heads.never (λ m. subst (λ (f : Frame). NoPath N f.port (asked f.levels m)) (sym z)
        (none m (cases_lt m n)))
      where
        none : (m : ℕ) → (m < n) ⊎ (n ≤ m) → NoPath N s.port (asked s.levels m)
        none m (inl c) = y s ss refl m c
        none m (inr c) = λ q X r.
            lost_is_lost M is_net L s.port s.levels n b h m c q X
            ((paths s.port (asked s.levels m) q X).0 r)
    is_lost (exits {q = q} {X = X} {a = a} m) h e =
        let z = frame_last F (framed s 0) in
        subst (λ a. IsHead N (F ++ framed s 0 ∷ []) (length F) a) e (heads.leaves {n = n} {q =
        q} {X = X}
        (λ m b. subst (λ (f : Frame). NoPath N f.port (asked f.levels m)) (sym z) (y s ss refl m b))
        (subst (λ (f : Frame). Path N (free f.port) (asked f.levels n) q X) (sym z)
        ((paths s.port (asked s.levels n) q X).1
        (path_at M is_net s.port (asked s.levels n) q X h))) m)
    is_lost spent h e = absurd (cc)

    -- the chain used up its crossings
    is_cut : {end : chain.End NodeName} {a : Answer} → IsFound M F s n end a →
        Ends M s.port (asked s.levels n) end → a ≡ heads.budget →
        IsHead N (F ++ framed s 0 ∷ []) (length F) no_head
    is_cut (exits m) h e = absurd (unmatched_budget m e)
    is_cut (lost b) h e = absurd (cc)
    is_cut spent h e =
        let z = frame_last F (framed s 0) in
        heads.never (λ m. subst (λ (f : Frame). NoPath N f.port (asked f.levels m)) (sym z)
        (none m (cases_lt m n)))
      where
        none : (m : ℕ) → (m < n) ⊎ (n ≤ m) → NoPath N s.port (asked s.levels m)
        none m (inl c) = y s ss refl m c
        none m (inr c) = λ q X r.
            spent_is_lost M is_net L s.port s.levels n h m c q X
            ((paths s.port (asked s.levels m) q X).0 r)

    found_ahead : (many : ℕ) → length F < many → {end : chain.End NodeName} (a : Answer) →
        IsFound M F s n end a → Ends M s.port (asked s.levels n) end → (rest : List ReadNode) →
        HaveAskedHeadsOf N many (next F s ss a).frames (next F s ss a).waiting rest →
        HaveAskedHeadsOf N many F (s ∷ ss) (place_of a ∷ rest)
    found_ahead many below (head n' v k ls) f h rest r = by f refl h
      where
        by : {end : chain.End NodeName} {b : Answer} → IsFound M F s n end b → b ≡ head n' v k ls →
            Ends M s.port (asked s.levels n) end →
            HaveAskedHeadsOf N many F (s ∷ ss) (node.Head n' v k ∷ rest)
        by {b = b} f e h =
            let i : IsHead N (F ++ framed s 0 ∷ []) (length F) (head n' v k ls) =
            subst (λ a. IsHead N (F ++ framed s 0 ∷ []) (length F) a) e (is_head f e h) in
            places_of.found below i r
    found_ahead many below no_head f h rest r = places_of.lost below (is_lost f h refl) r
    found_ahead many below heads.budget f h rest r = places_of.cut below (is_cut f h refl) r

turn_ahead : (N M P : NamedNet NodeName) (many ticket : ℕ) (es : List Entry)
    (places ns : List ReadNode) (a b : Asking) → IsNet M → IsLevelled M → HaveSamePaths N M →
    Turn many M ticket a es ns P b → Ahead N many places a → Tried N a →
    Ahead N many (places ++ ns) b
    × Tried N b
turn_ahead N M P many ticket es places ns a b is_net L paths (rewrites m) x y = (
  λ rest r. subst (λ (ps : List ReadNode). HasAskedHeadsOf N many (ps ++ rest))
      (sym (append-nil places)) (x rest r),
  y,
)
turn_ahead N M P many ticket es places ns a b is_net L paths (one_more {F = F} {s = s} {ss =
    ss} {n = n} h l) x y = (
      λ rest r. subst (λ (ps : List ReadNode). HasAskedHeadsOf N many (ps ++ rest))
          (sym (append-nil places)) (x rest r),
      tried_more N M is_net paths F s ss n h.ends y,
    )
turn_ahead N M P many ticket es places ns a b is_net L paths (finds {F = F} {s = s} {ss = ss} {n =
    n} {a = c} h f) x y = (
      λ rest r. subst (λ (ps : List ReadNode). HasAskedHeadsOf N many ps)
          (sym (append_assoc places (place_of c ∷ []) rest))
          (x (place_of c ∷ rest) (found_ahead N M is_net L paths F s ss n y many h.below c f h.ends rest r)),
      tried_none N F s ss c,
    )

heads_ahead : {N : NamedNet NodeName} {many : ℕ} {M : NamedNet NodeName} {turns : ℕ}
    {journal : List Entry} {places : List ReadNode} {a : Asking} → IsStart N → IsLevelled N →
    Turns N many turns journal places M a → Ahead N many places a × Tried N a
heads_ahead s L begins = (λ rest r. r, λ t ts e m b. absurd (omega arith))
heads_ahead {N = N} {many = many} s L (and_then {journal = journal} {es = es} {places =
    places} {ns = ns} {M = M} {P = P} {a = a} {b = b} r t) =
    let k = turns_kept s r in
    let h = heads_ahead s L r in
    let L' = run_keeps N M 0 journal s.net s.named k.run L in
    turn_ahead N M P many (length journal) es places ns a b k.net L' k.paths t h.0 h.1

-- whatever is left to be read after the last turn
rest_cut : (N : NamedNet NodeName) (many : ℕ) (F : List Frame) (ss : List Subterm) →
    (ss ≡ []) ⊎ (many ≤ length F) → HaveAskedHeadsOf N many F ss (map (λ s. node.Cut) ss)
rest_cut N many F ss (inl e) = subst (λ ss. HaveAskedHeadsOf N many F ss (map (λ s. node.Cut) ss))
    (sym e) places_of.end
rest_cut N many F ss (inr b) = places_of.past b

pub demand_tells : DemandTellsAsked
demand_tells N M many journal places s L d =
    subst (λ (ns : List ReadNode). HasAskedHeadsOf N many ns) (sym d.all)
    ((heads_ahead s L d.run).0 (map (λ s. node.Cut) d.last.waiting)
    (rest_cut N many d.last.frames d.last.waiting d.over))

pub demand_places : DemandPlacesAreTheSources
demand_places N M many journal places s L d =
    asked_heads N many places (demand_tells N M many journal places s L d)
