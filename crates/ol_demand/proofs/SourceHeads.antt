-- The heads that turns find are those of the net before.
use Rattle.std.proofs.Common.{◌≡◌, ℕ, suc, ◌<◌, ◌≤◌, ◌⊎◌, inl, inr, List, [], ◌∷◌, ◌++◌, length}
use Rattle.std.proofs.Common.{append-nil, map, false, refl, sym, subst, arith}
use Rattle.std.proofs.lemmas.List.{append_assoc}
use Rattle.std.proofs.lemmas.Bool.{cases_lt}
use Rattle.ol_net.specs.Nets.{NamedNet, free, IsNet}
use Rattle.ol_context.specs.Contexts.{Level}
use Rattle.ol_context.specs.Paths.{Path, HaveSamePaths}
use Rattle.ol_rules.specs.declared.journal.NodeName.{NodeName}
use Rattle.ol_rules.specs.declared.journal.Entry.{Entry}
use Rattle.ol_readback.specs.Frames.{Frame, asked}
use Rattle.ol_readback.specs.Heads.{Answer, head, no_head, NoPath, IsHead}
use Rattle.ol_readback.specs.Heads as heads
use Rattle.ol_readback.specs.ReadTrees.{Subterm, framed}
use Rattle.ol_readback.specs.Sources.{HaveHeadsOf, HasHeadsOf}
use Rattle.ol_readback.specs.Sources as sources
use Rattle.ol_readback.specs.declared.answers.HeadVar.{HeadVar}
use Rattle.ol_readback.specs.declared.answers.ReadNode.{ReadNode}
use Rattle.ol_readback.specs.declared.answers.ReadNode.TheVariants as node
use Rattle.ol_readback.proofs.Forests.{frame_last}
use Rattle.ol_demand.specs.Chains as chain
use Rattle.ol_demand.specs.Chains.{Ends}
use Rattle.ol_demand.specs.Demands.{Asking, asks, IsFound, exits, lost, spent, place_of, next, Turn}
use Rattle.ol_demand.specs.Demands.{rewrites, one_more, finds, Turns, begins, and_then}
use Rattle.ol_demand.specs.Laws.{IsStart, HeadsAreOfSource}
use Rattle.ol_demand.proofs.Chains.{no_path_at, path_at}
use Rattle.ol_demand.proofs.Turning.{turns_kept}

-- what is found later is found after these places
abbrev Ahead : NamedNet NodeName → List ReadNode → Asking → Type 0
Ahead N places a = (rest : List ReadNode) → HaveHeadsOf N false a.frames a.waiting rest →
    HasHeadsOf N false (places ++ rest)

-- the first subterm that is left was asked in vain for each smaller number of abstractions
abbrev pub Tried : NamedNet NodeName → Asking → Type 0
Tried N a = (s : Subterm) (ss : List Subterm) → a.waiting ≡ s ∷ ss → (m : ℕ) → m < a.lams →
    NoPath N s.port (asked s.levels m)

pub first_is : (s t : Subterm) (ss ts : List Subterm) → s ∷ ss ≡ t ∷ ts → s ≡ t
first_is s t ss ts e = cc

module _ (N M : NamedNet NodeName) (is_net : IsNet M) (paths : HaveSamePaths N M) where
  none_in : (s : Subterm) (n : ℕ) → Ends M s.port (asked s.levels n) chain.undefined →
      NoPath N s.port (asked s.levels n)
  none_in s n h q X r = no_path_at M is_net s.port (asked s.levels n) h q X ((paths s.port (asked s.levels n) q X).0 r)

  pub tried_more : (F : List Frame) (s : Subterm) (ss : List Subterm) (n : ℕ) →
      Ends M s.port (asked s.levels n) chain.undefined → Tried N (asks F (s ∷ ss) n) → Tried N (asks F (s ∷ ss) (suc n))
  tried_more F s ss n h y t ts e m b = go (cases_lt m n)
    where
      go : (m < n) ⊎ (n ≤ m) → NoPath N t.port (asked t.levels m)
      go (inl c) = y t ts e m c
      go (inr c) =
          let z : n ≡ m = omega arith in
          subst (λ m. NoPath N t.port (asked t.levels m)) z
          (subst (λ (t : Subterm). NoPath N t.port (asked t.levels n)) (first_is s t ss ts e) (none_in s n h))

  module _ (F : List Frame) (s : Subterm) (ss : List Subterm) (n : ℕ) (y : Tried N (asks F (s ∷ ss) n)) where
    is_head : {end : chain.End NodeName} {a : Answer} {n' k : ℕ} {v : HeadVar} {ls : List Level} →
        IsFound M F s n end a → a ≡ head n' v k ls → Ends M s.port (asked s.levels n) end →
        IsHead N (F ++ framed s 0 ∷ []) (length F) a
    is_head (exits {q = q} {X = X} {a = a} m) e h =
        let z = frame_last F (framed s 0) in
        heads.leaves {n = n} {q = q} {X = X}
        (λ m b. subst (λ (f : Frame). NoPath N f.port (asked f.levels m)) (sym z) (y s ss refl m b))
        (subst (λ (f : Frame). Path N (free f.port) (asked f.levels n) q X) (sym z)
        ((paths s.port (asked s.levels n) q X).1 (path_at M is_net s.port (asked s.levels n) q X h))) m
    is_head (lost b) e h = absurd (cc)
    is_head spent e h = absurd (cc)

    found_ahead : {end : chain.End NodeName} (a : Answer) → IsFound M F s n end a →
        Ends M s.port (asked s.levels n) end → (rest : List ReadNode) →
        HaveHeadsOf N false (next F s ss a).frames (next F s ss a).waiting rest →
        HaveHeadsOf N false F (s ∷ ss) (place_of a ∷ rest)
    found_ahead (head n' v k ls) f h rest r = by f refl h
      where
        by : {end : chain.End NodeName} {b : Answer} → IsFound M F s n end b → b ≡ head n' v k ls →
            Ends M s.port (asked s.levels n) end → HaveHeadsOf N false F (s ∷ ss) (node.Head n' v k ∷ rest)
        by {b = b} f e h =
            let i : IsHead N (F ++ framed s 0 ∷ []) (length F) (head n' v k ls) = subst
            (λ a. IsHead N (F ++ framed s 0 ∷ []) (length F) a) e (is_head f e h) in
            sources.found i r
    found_ahead no_head f h rest r = sources.lost (λ e. absurd (cc)) r
    found_ahead heads.budget f h rest r = sources.cut r

pub tried_none : (N : NamedNet NodeName) (F : List Frame) (s : Subterm) (ss : List Subterm)
    (a : Answer) → Tried N (next F s ss a)
tried_none N F s ss (head n v k ls) t ts e m b = absurd (omega arith)
tried_none N F s ss no_head t ts e m b = absurd (omega arith)
tried_none N F s ss heads.budget t ts e m b = absurd (omega arith)

turn_ahead : (N M P : NamedNet NodeName) (many ticket : ℕ) (es : List Entry)
    (places ns : List ReadNode) (a b : Asking) → IsNet M → HaveSamePaths N M →
    Turn many M ticket a es ns P b → Ahead N places a → Tried N a → Ahead N (places ++ ns) b × Tried N b
turn_ahead N M P many ticket es places ns a b is_net paths
    (rewrites m) x y = (
      λ rest r. subst (λ (ps : List ReadNode). HasHeadsOf N false (ps ++ rest))
          (sym (append-nil places)) (x rest r),
      y,
    )
turn_ahead N M P many ticket es places ns a b is_net paths (one_more {F = F} {s = s} {ss = ss} {n = n} h l) x y = (
  λ rest r. subst (λ (ps : List ReadNode). HasHeadsOf N false (ps ++ rest))
      (sym (append-nil places)) (x rest r),
  tried_more N M is_net paths F s ss n h.ends y,
)
turn_ahead N M P many ticket es places ns a b is_net paths (finds {F = F} {s = s} {ss = ss} {n = n} {a = c} h f) x y = (
  λ rest r. subst (λ (ps : List ReadNode). HasHeadsOf N false ps)
      (sym (append_assoc places (place_of c ∷ []) rest))
      (x (place_of c ∷ rest) (found_ahead N M is_net paths F s ss n y c f h.ends rest r)),
  tried_none N F s ss c,
)

heads_ahead : {N : NamedNet NodeName} {many : ℕ} {M : NamedNet NodeName} {turns : ℕ}
    {journal : List Entry} {places : List ReadNode} {a : Asking} → IsStart N →
    Turns N many turns journal places M a → Ahead N places a × Tried N a
heads_ahead s begins = (λ rest r. r, λ t ts e m b. absurd (omega arith))
heads_ahead {N = N} {many = many} s (and_then {journal = journal} {es = es} {places = places}
    {ns = ns} {M = M} {P = P} {a = a} {b = b} r t) =
    let k = turns_kept s r in
    let h = heads_ahead s r in
    turn_ahead N M P many (length journal) es places ns a b k.net k.paths t h.0 h.1

cuts : (N : NamedNet NodeName) (F : List Frame) (ss : List Subterm) → HaveHeadsOf N false F ss (map (λ s. node.Cut) ss)
cuts N F [] = sources.end
cuts N F (s ∷ ss) = sources.cut (cuts N (F ++ framed s 0 ∷ []) ss)

pub heads_are_of_source : HeadsAreOfSource
heads_are_of_source N M many journal places s d =
    subst (λ (ns : List ReadNode). HasHeadsOf N false ns) (sym d.all)
    ((heads_ahead s d.run).0 (map (λ s. node.Cut) d.last.waiting) (cuts N d.last.frames d.last.waiting))
