-- Where demand order makes no step from a net, this net is enough for the places that it reads.
use Rattle.std.proofs.Common.{◌≡◌, ℕ, suc, ◌<◌, ◌≤◌, ◌⊎◌, inl, inr, List, [], ◌∷◌, ◌++◌, length}
use Rattle.std.proofs.Common.{append-nil, refl, sym, subst, arith}
use Rattle.std.proofs.lemmas.Bool.{cases_lt}
use Rattle.ol_net.specs.Nets.{NamedNet, IsNet}
use Rattle.ol_context.specs.Short.{live}
use Rattle.ol_rules.specs.declared.journal.NodeName.{NodeName}
use Rattle.ol_rules.specs.declared.journal.Entry.{Entry}
use Rattle.ol_readback.specs.Frames.{Frame, asked}
use Rattle.ol_readback.specs.Heads.{Answer, head, no_head, matched, unmatched, NoPath}
use Rattle.ol_readback.specs.Heads as answer
use Rattle.ol_readback.specs.ReadTrees.{Subterm, whole_term, framed}
use Rattle.ol_readback.specs.Terms.{HasAllHeads}
use Rattle.ol_readback.specs.declared.answers.ReadNode.{ReadNode}
use Rattle.ol_readback.proofs.OneTree.{all_left, all_right}
use Rattle.ol_demand.specs.Chains as chain
use Rattle.ol_demand.specs.Demands.{Asking, ChainEnds, IsFound, exits, lost, spent, place_of, next, Turn, rewrites}
use Rattle.ol_demand.specs.Demands.{one_more, finds, Turns, begins, and_then, IsDemandRun}
use Rattle.ol_demand.proofs.Chains.{no_path_at}
use Rattle.ol_law_completeness.specs.Laws.{CrossesNoStuck}
use Rattle.ol_law_completeness.specs.Least.{IsEnough, done, past, place, unknown, headless, MeetsNone}
use Rattle.ol_law_completeness.specs.Least.{EnoughAsItIs, EnoughWithoutHeads}
use Rattle.ol_law_completeness.proofs.Lasting.{Lasts, lasts_here, no_path_lasts}
use Rattle.ol_law_completeness.proofs.Longer.{broken_meets_none, longer_meet_none, spent_meet_none}
use Rattle.ol_law_completeness.proofs.Tracing.{chain_is_on_path}
use Rattle.ol_demand.proofs.SourceHeads.{first_is}

none_first : {X : Type 0} (xs ys : List X) → xs ++ ys ≡ [] → (xs ≡ []) × (ys ≡ [])
none_first [] ys e = (refl, e)
none_first (x ∷ xs) ys e = absurd (cc)

pub no_lams : (F : List Frame) (s : Subterm) (ss : List Subterm) (c : Answer) →
    (next F s ss c).lams ≡ 0
no_lams F s ss (head n v k ls) = refl
no_lams F s ss no_head = refl
no_lams F s ss answer.budget = refl

-- subterm s was asked for so many abstractions in vain
abbrev pub InVain : NamedNet NodeName → Subterm → ℕ → Type 0
InVain P s j = NoPath P s.port (asked s.levels j) × MeetsNone P s.port (asked s.levels j)

pub vain_lasts : (P Q : NamedNet NodeName) → Lasts P Q → (s : Subterm) (j : ℕ) → InVain P s j →
    InVain Q s j
vain_lasts P Q k s j h = (
  no_path_lasts P Q k s.port (asked s.levels j) h.0,
  k.none s.port (asked s.levels j) h.1,
)

module _ (P : NamedNet NodeName) (is_net : IsNet P) (heads : ℕ) where
  -- each of these places has a head, or no walk crosses a stuck pair
  abbrev pub Fine : List ReadNode → Type 0
  Fine ns = HasAllHeads ns ⊎ CrossesNoStuck P

  fine_left : (ns ms : List ReadNode) → Fine (ns ++ ms) → Fine ns
  fine_left ns ms (inl all) = inl (all_left ns ms all)
  fine_left ns ms (inr clear) = inr clear

  fine_right : (ns ms : List ReadNode) → Fine (ns ++ ms) → Fine ms
  fine_right ns ms (inl all) = inl (all_right ns ms all)
  fine_right ns ms (inr clear) = inr clear

  -- what is enough for what is left is enough for all
  record Still (M : NamedNet NodeName) (places : List ReadNode) (a : Asking) : Type 0 where
    same : M ≡ P
    ahead : Fine places → IsEnough P heads a.frames a.waiting →
        IsEnough P heads [] (whole_term ∷ [])
    tried : (s : Subterm) (ss : List Subterm) → a.waiting ≡ s ∷ ss → (j : ℕ) → j < a.lams →
        InVain P s j

  module _ (F : List Frame) (s : Subterm) (ss : List Subterm) (n : ℕ) where
    in_vain : ChainEnds heads P F s n chain.undefined → InVain P s n
    in_vain h = (
      λ q X r. no_path_at P is_net s.port (asked s.levels n) h.ends q X r,
      broken_meets_none P is_net s.port (asked s.levels n) h.ends,
    )

    pub tried_more : ChainEnds heads P F s n chain.undefined →
        ((t : Subterm) (ts : List Subterm) → s ∷ ss ≡ t ∷ ts → (j : ℕ) → j < n → InVain P t j) →
        (t : Subterm) (ts : List Subterm) → s ∷ ss ≡ t ∷ ts → (j : ℕ) → j < suc n → InVain P t j
    tried_more h before t ts e j b = by (cases_lt j n)
      where
        by : (j < n) ⊎ (n ≤ j) → InVain P t j
        by (inl c) = before t ts e j c
        by (inr c) =
            let z : n ≡ j = omega arith in
            subst (λ j. InVain P t j) z
            (subst (λ (t : Subterm). InVain P t n) (first_is s t ss ts e) (in_vain h))

    lost_later : CrossesNoStuck P → ChainEnds heads P F s n chain.undefined → live P ≤ n →
        (m : ℕ) → n ≤ m → InVain P s m
    lost_later clear h many m b = (
      (λ q X t. (let c =
          chain_is_on_path P is_net clear s.port s.levels m q X t n chain.undefined b h.ends in
          let d = c.1 in absurd (omega arith))),
      longer_meet_none P is_net clear s.port s.levels n m b many h.ends,
    )

    spent_later : CrossesNoStuck P → ChainEnds heads P F s n chain.budget → (m : ℕ) → n ≤ m →
        InVain P s m
    spent_later clear h m b = (
      (λ q X t. chain_is_on_path P is_net clear s.port s.levels m q X t n chain.budget b h.ends),
      spent_meet_none P is_net clear s.port s.levels n m b h.ends,
    )

    -- what it leaves for each net in which all this lasts
    module _ (Q : NamedNet NodeName) (k : Lasts P Q) where
      -- a place that is asked in vain, for fewer abstractions, for so many, and for more
      without_head : ((j : ℕ) → j < n → InVain P s j) → ((m : ℕ) → n ≤ m → InVain P s m) →
          IsEnough Q heads (F ++ framed s 0 ∷ []) ss → IsEnough Q heads F (s ∷ ss)
      without_head few later rest =
          headless (λ m. (each m (cases_lt m n)).0) (λ m. (each m (cases_lt m n)).1) rest
        where
          each : (m : ℕ) → (m < n) ⊎ (n ≤ m) → InVain Q s m
          each m (inl b) = vain_lasts P Q k s m (few m b)
          each m (inr b) = vain_lasts P Q k s m (later m b)

      few_last : ((j : ℕ) → j < n → InVain P s j) → (j : ℕ) → j < n →
          NoPath Q s.port (asked s.levels j)
      few_last few j b = no_path_lasts P Q k s.port (asked s.levels j) (few j b).0

      pub before_next : {end : chain.End NodeName} {a : Answer} → ChainEnds heads P F s n end →
          IsFound P F s n end a → ((j : ℕ) → j < n → InVain P s j) → Fine (place_of a ∷ []) →
          IsEnough Q heads (next F s ss a).frames (next F s ss a).waiting →
          IsEnough Q heads F (s ∷ ss)
      before_next h (exits {q = q} {X = X} (matched m)) few fine r =
          place (few_last few) (k.leaves s.port s.levels n q X h.ends) m r
      before_next h (exits {q = q} {X = X} (unmatched m)) few fine r =
          unknown (few_last few) (k.leaves s.port s.levels n q X h.ends) m r
      before_next h (lost b) few (inl all) r = absurd all
      before_next h (lost b) few (inr clear) r =
          without_head few (lost_later clear h b) r
      before_next h spent few (inl all) r = absurd all
      before_next h spent few (inr clear) r = without_head few (spent_later clear h) r

  still_on : (M K : NamedNet NodeName) (ticket : ℕ) (es : List Entry) (places ns : List ReadNode)
      (a b : Asking) → es ≡ [] → Turn heads M ticket a es ns K b → Still M places a →
      Still K (places ++ ns) b
  still_on M K ticket es places ns a b e (rewrites m) u = absurd (cc)
  still_on M K ticket es places ns a b e (one_more {F = F} {s = s} {ss = ss} {n = n} h l) u =
      record {
        same = u.same;
        ahead = λ all r. u.ahead (subst Fine (append-nil places) all) r;
        tried = tried_more F s ss n (subst (λ M. ChainEnds heads M F s n chain.undefined) u.same h)
            u.tried;
      }
  still_on M K ticket es places ns a b e (finds {F = F} {s = s} {ss = ss} {n = n} {end = end}
      {a = c} h f) u = record {
        same = u.same;
        ahead = λ all r. u.ahead (fine_left places (place_of c ∷ []) all)
            (before_next F s ss n P (lasts_here P) (subst (λ M. ChainEnds heads M F s n end) u.same h)
            (subst (λ M. IsFound M F s n end c) u.same f) (u.tried s ss refl)
            (fine_right places (place_of c ∷ []) all) r);
        tried = none c;
      }
    where
      none : (c : Answer) (t : Subterm) (ts : List Subterm) → (next F s ss c).waiting ≡ t ∷ ts →
          (j : ℕ) → j < (next F s ss c).lams → InVain P t j
      none c t ts e j b = absurd (let z = no_lams F s ss c in omega arith)

  still : {turns : ℕ} {journal : List Entry} {places : List ReadNode} {M : NamedNet NodeName}
      {a : Asking} → Turns P heads turns journal places M a → journal ≡ [] → Still M places a
  still begins e = record {
    same = refl;
    ahead = λ all r. r;
    tried = λ t ts z j b. absurd (omega arith);
  }
  still (and_then {journal = journal} {es = es} {places = places} {ns = ns} {M = M} {P = K}
      {a = a} {b = b} y t) e =
      let z = none_first journal es e in
      still_on M K (length journal) es places ns a b z.1 t (still y z.0)

  enough : (M : NamedNet NodeName) (places : List ReadNode) (d : IsDemandRun P heads [] places M) →
      Fine d.asked_places → IsEnough P heads [] (whole_term ∷ [])
  enough M places d fine = (still d.run refl).ahead fine (by d.last d.over)
    where
      by : (a : Asking) → (a.waiting ≡ []) ⊎ (heads ≤ length a.frames) →
          IsEnough P heads a.frames a.waiting
      by a (inl e) = subst (λ ss. IsEnough P heads a.frames ss) (sym e) done
      by a (inr b) = past b

pub enough_as_it_is : EnoughAsItIs
enough_as_it_is P M heads places is_net d all =
    enough P is_net heads M places d (inl all)

pub enough_without_heads : EnoughWithoutHeads
enough_without_heads P M heads places is_net clear d = enough P is_net heads M places d (inr clear)
