-- A tree that `demand` reads has few binders.
use Rattle.std.proofs.Common.{◌≡◌, ℕ, zero, suc, ◌+◌, ◌*◌, ◌<◌, ◌≤◌, Bool, true, List, [], ◌∷◌, ◌++◌, length, length-append, map, inl, inr, refl, sym, ap, arith}
use Rattle.std.specs.Prelude.{slice_index}
use Rattle.ol_law_edges.specs.Edges.{IsIn}
use Rattle.ol_net.specs.declared.parts.Kind.{Kind}
use Rattle.ol_net.specs.Parts.{arity}
use Rattle.ol_net.specs.Nets.{NamedNet}
use Rattle.ol_context.specs.Contexts.{Context}
use Rattle.ol_context.specs.Short.{live, IsOnce}
use Rattle.ol_context.proofs.Short.{few}
use Rattle.ol_rules.specs.declared.journal.NodeName.{NodeName}
use Rattle.ol_rules.specs.declared.journal.Entry.{Entry}
use Rattle.ol_rules.specs.Rewriting.{Action, meeting, crossing, NodeOf, left, of_f, of_g, Rewrites}
use Rattle.ol_rules.proofs.Born.{at_most_two}
use Rattle.ol_readback.specs.Frames.{Frame}
use Rattle.ol_readback.specs.Heads.{Answer, IsMatched}
use Rattle.ol_readback.specs.Heads as answer
use Rattle.ol_readback.specs.ReadTrees.{Subterm, framed}
use Rattle.ol_readback.specs.Texts.{rounds}
use Rattle.ol_readback.specs.Whole.{Part, term, lost, cut, none, more, preorder}
use Rattle.ol_readback.specs.declared.answers.ReadNode.{ReadNode}
use Rattle.ol_readback.specs.declared.answers.ReadNode.TheVariants as node
use Rattle.ol_demand.specs.Chains.{End}
use Rattle.ol_demand.specs.Demands.{Asking, IsFound, place_of, next, Turn, Turns, IsDemandRun}
use Rattle.ol_equal.specs.Comparing.{place_at}
use Rattle.ol_derivations.specs.Heads.{lams_of}

-- ---- a step makes at most four nodes

abbrev index_of : Action → ℕ
index_of meeting = 0
index_of (crossing j) = j

module _ {A : Type 0} (born : ℕ → A) (k : Kind) (i : ℕ) (l : Kind) (j : ℕ) (nodes : List (A × Kind × ℕ)) where
  abbrev with_copies : List (A × Kind × ℕ)
  with_copies = (born 0, k, i) ∷ (born 1, k, i) ∷ (born (arity l + 0), l, j) ∷ (born (arity l + 1), l, j) ∷ nodes

  of_first : (q : ℕ) → q < 2 → IsIn (born q, k, i) with_copies
  of_first zero h = inl refl
  of_first (suc zero) h = inr (inl refl)
  of_first (suc (suc q)) h = absurd (omega (arith, h))

  of_second : (p m : ℕ) → p < 2 → m ≡ j → IsIn (born (arity l + p), l, m) with_copies
  of_second zero m h e = inr (inr (inl (ap (λ (m : ℕ). (born (arity l + 0), l, m)) e)))
  of_second (suc zero) m h e = inr (inr (inr (inl (ap (λ (m : ℕ). (born (arity l + 1), l, m)) e))))
  of_second (suc (suc p)) m h e = absurd (omega (arith, h))

inside : {A : Type 0} {born : ℕ → A} {N : NamedNet A} {f g : A} {k : Kind} {i : ℕ} {l : Kind} {a : Action} {x : A}
    {m : Kind} {n : ℕ} → NodeOf N born f g k i l a x m n → IsIn (x, m, n) (with_copies born k i l (index_of a) N.nodes)
inside (left h other another) = inr (inr (inr (inr h)))
inside {born = born} {N = N} {k = k} {i = i} {l = l} {a = a} (of_f {q = q} j e low) =
    of_first born k i l (index_of a) N.nodes q (omega (arith, low, at_most_two l))
inside {born = born} {N = N} {k = k} {i = i} {l = l} {a = a} (of_g {p = p} j e low) =
    of_second born k i l (index_of a) N.nodes p j (omega (arith, low, at_most_two k)) (sym (ap index_of e))

pub grown : {A : Type 0} {born : ℕ → A} {N M : NamedNet A} {f g : A} {k : Kind} {i : ℕ} {l : Kind} {a : Action} →
    Rewrites born N f g k i l a M → IsOnce M.nodes → live M ≤ live N + 4
grown {born = born} {N = N} {M = M} {k = k} {i = i} {l = l} {a = a} w o =
    let h = few M.nodes (with_copies born k i l (index_of a) N.nodes) o (λ x h. inside ((w.nodes x.0 x.1 x.2).0 h)) in
    omega (arith, h)

-- ---- binders of a list of places

abbrev pub sum_lams : List ReadNode → ℕ
sum_lams [] = 0
sum_lams (n ∷ ns) = lams_of n + sum_lams ns

sum_both : (ns ms : List ReadNode) → sum_lams (ns ++ ms) ≡ sum_lams ns + sum_lams ms
sum_both [] ms = omega arith
sum_both (n ∷ ns) ms = let h = sum_both ns ms in omega (arith, h)

cut_none : (ss : List Subterm) → sum_lams (map (λ s. node.Cut) ss) ≡ 0
cut_none [] = refl
cut_none (s ∷ ss) = let h = cut_none ss in omega (arith, h)

-- ---- turns

matched_lams : {F : List Frame} {i n q : ℕ} {X : Context} {a : Answer} → IsMatched F i n q X a → lams_of (place_of a) ≤ n
matched_lams (IsMatched.matched h) = omega arith
matched_lams (IsMatched.unmatched h) = omega arith

found_lams : {M : NamedNet NodeName} {F : List Frame} {s : Subterm} {n : ℕ} {end : End NodeName} {a : Answer} →
    IsFound M F s n end a → lams_of (place_of a) ≤ n
found_lams (IsFound.exits m) = matched_lams m
found_lams (IsFound.lost h) = omega arith
found_lams IsFound.spent = omega arith

next_lams : (F : List Frame) (s : Subterm) (ss : List Subterm) (a : Answer) → (next F s ss a).lams ≡ 0
next_lams F s ss (answer.head n v k ls) = refl
next_lams F s ss answer.no_head = refl
next_lams F s ss answer.budget = refl

next_frames : (F : List Frame) (s : Subterm) (ss : List Subterm) (a : Answer) →
    length (next F s ss a).frames ≡ length F + 1
next_frames F s ss (answer.head n v k ls) = length-append F (framed s n ∷ [])
next_frames F s ss answer.no_head = length-append F (framed s 0 ∷ [])
next_frames F s ss answer.budget = length-append F (framed s 0 ∷ [])

record IsSmall (N : NamedNet NodeName) (heads : ℕ) (journal : List Entry) (places : List ReadNode)
    (M : NamedNet NodeName) (a : Asking) : Type 0 where
  here : live M ≤ live N + 4 * length journal
  lams : a.lams ≤ 32200000
  sum : sum_lams places ≤ length a.frames * 32200000
  frames : length a.frames ≤ heads

module _ {N : NamedNet NodeName} {heads : ℕ} where
  turned : (journal : List Entry) (places : List ReadNode) {M P : NamedNet NodeName} {a b : Asking} {es : List Entry}
      {ns : List ReadNode} → Turn heads M (length journal) a es ns P b →
      live N + 4 * length (journal ++ es) ≤ 32200000 → IsSmall N heads journal places M a →
      IsSmall N heads (journal ++ es) (places ++ ns) P b
  turned journal places (Turn.rewrites {e = e} m) low w =
      let g = grown m.step.step.rewrites m.once in
      let c = length-append journal (e ∷ []) in
      let s = sum_both places [] in
      let h = w.here in
      let t = w.sum in
      record {
        here = omega (arith, g, c, h);
        lams = w.lams;
        sum = omega (arith, s, t);
        frames = w.frames;
      }
  turned journal places (Turn.one_more {n = n} h below) low w =
      let c = length-append journal [] in
      let s = sum_both places [] in
      let k = w.here in
      let t = w.sum in
      record {
        here = omega (arith, c, k);
        lams = omega (arith, below, low, c, k);
        sum = omega (arith, s, t);
        frames = w.frames;
      }
  turned journal places (Turn.finds {F = F} {s = s} {ss = ss} {n = n} {a = a} h f) low w =
      let c = length-append journal [] in
      let k = w.here in
      let z = next_lams F s ss a in
      let e = next_frames F s ss a in
      let m = found_lams f in
      let l = w.lams in
      let t = w.sum in
      let p = sum_both places (place_of a ∷ []) in
      let b = h.below in
      record {
        here = omega (arith, c, k);
        lams = omega (arith, z);
        sum = omega (arith, e, m, l, t, p);
        frames = omega (arith, e, b);
      }

  small : {turns : ℕ} {journal : List Entry} {places : List ReadNode} {M : NamedNet NodeName} {a : Asking} →
      Turns N heads turns journal places M a → live N + 4 * length journal ≤ 32200000 →
      IsSmall N heads journal places M a
  small Turns.begins low = record { here = omega arith; lams = omega arith; sum = omega arith; frames = omega arith }
  small (Turns.and_then {journal = js} {es = es} {places = ps} r t) low =
      turned js ps t low (small r (omega (arith, low, length-append js es)))

  pub few_binders : {journal : List Entry} {places : List ReadNode} {M : NamedNet NodeName} →
      IsDemandRun N heads journal places M → live N + 4 * length journal ≤ 32200000 →
      sum_lams places ≤ heads * 32200000
  few_binders d low =
      let w = small d.run low in
      let s = w.sum in
      let f = w.frames in
      let all = ap sum_lams d.all in
      let both = sum_both d.asked_places (map (λ s. node.Cut) d.last.waiting) in
      let cuts = cut_none d.last.waiting in
      omega (arith, s, f, all, both, cuts)

-- ---- binders round a place

abbrev AreWithin : ℕ → List ℕ → List ReadNode → Type 0
AreWithin most [] [] = Unit {0}
AreWithin most [] (n ∷ ns) = ⊥
AreWithin most (r ∷ rs) [] = ⊥
AreWithin most (r ∷ rs) (n ∷ ns) = (r + lams_of n ≤ most) × AreWithin most rs ns

within_both : (most : ℕ) (rs qs : List ℕ) (ns ms : List ReadNode) → AreWithin most rs ns → AreWithin most qs ms →
    AreWithin most (rs ++ qs) (ns ++ ms)
within_both most [] qs [] ms h k = k
within_both most [] qs (n ∷ ns) ms h k = absurd h
within_both most (r ∷ rs) qs [] ms h k = absurd h
within_both most (r ∷ rs) qs (n ∷ ns) ms h k = (h.0, within_both most rs qs ns ms h.1 k)

part_within : {b : Bool} (most t : ℕ) (p : Part b) → t + sum_lams (preorder p) ≤ most →
    AreWithin most (rounds t p) (preorder p)
part_within most t (term l v ts) h = (omega (arith, h), part_within most (t + l) ts (omega (arith, h)))
part_within most t lost h = (omega (arith, h), tt)
part_within most t cut h = (omega (arith, h), tt)
part_within most t none h = tt
part_within most t (more u us) h =
    let e = sum_both (preorder u) (preorder us) in
    within_both most (rounds t u) (rounds t us) (preorder u) (preorder us)
    (part_within most t u (omega (arith, h, e))) (part_within most t us (omega (arith, h, e)))

within_at : (most : ℕ) (rs : List ℕ) (ns : List ReadNode) (k : ℕ) → AreWithin most rs ns →
    slice_index rs k + lams_of (place_at ns k) ≤ most
within_at most [] [] zero h = omega arith
within_at most [] [] (suc k) h = omega arith
within_at most [] (n ∷ ns) k h = absurd h
within_at most (r ∷ rs) [] k h = absurd h
within_at most (r ∷ rs) (n ∷ ns) zero h = h.0
within_at most (r ∷ rs) (n ∷ ns) (suc k) h = within_at most rs ns k h.1

pub few_round : (most : ℕ) (p : Part true) (k : ℕ) → sum_lams (preorder p) ≤ most →
    slice_index (rounds 0 p) k + lams_of (place_at (preorder p) k) ≤ most
few_round most p k h = within_at most (rounds 0 p) (preorder p) k (part_within most 0 p (omega (arith, h)))
