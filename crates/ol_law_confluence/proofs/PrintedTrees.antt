-- Printed trees and all reductions of their source.
use Rattle.std.proofs.Common.{◌≡◌, ℕ, Bool, true, List, [], ◌∷◌, sym, ap, ◌∙◌, subst}
use Rattle.ol_beta.specs.Roads.{RoadLeads}
use Rattle.ol_beta.specs.Verdicts.{IsVerdict}
use Rattle.ol_beta.specs.declared.certifying.Verdict.TheVariants.{Differs}
use Rattle.ol_beta.proofs.Redexes.{no_leftmost}
use Rattle.ol_readback.proofs.OneTree.{list_is_of_one_tree}
use Rattle.ol_readback.specs.Whole.{Part, term, lost, cut, preorder}
use Rattle.ol_readback.specs.Terms.{HasAllHeads, term_of}
use Rattle.ol_readback.specs.declared.answers.ReadNode.{ReadNode}
use Rattle.ol_readback.specs.declared.answers.ReadNode.TheVariants as node
use Rattle.ol_law_meaning.specs.Contraction.{Tree}
use Rattle.ol_law_meaning.specs.Shows.{ready, contract, BetaReduces, HeadReducesForever, LacksHead, Fills}
use Rattle.ol_law_meaning.specs.Meaning.{SaysOf}
use Rattle.ol_law_confluence.specs.Reductions.{Convertible, turned, joined, HasNormalForm, HasHeadNormalForm}
use Rattle.ol_law_confluence.specs.Printed.{IsTheNormalForm, SaysAlways}
use Rattle.ol_law_confluence.proofs.Meetings.{convertible, convertible_leads, normal_stays}
use Rattle.ol_law_confluence.proofs.LeftmostEnds.{leftmost_finds, leftmost_beta}
use Rattle.ol_law_confluence.proofs.HeadForms.{forever_none}

module _ {t : Tree} {b : Bool} {ns : List ReadNode} (s : SaysOf t b ns) (h : HasAllHeads ns) where
  leads_to : BetaReduces t (term_of s.tree)
  leads_to = leftmost_beta (s.leftmost h)

  the_normal_form : IsTheNormalForm t (term_of s.tree)
  the_normal_form = record {
    is_normal = s.normal h;
    every_reduct = λ u l. convertible_leads (convertible l) leads_to (s.normal h);
    only = λ u l n. normal_stays n (convertible_leads (convertible l) leads_to (s.normal h));
    leftmost = λ u c. leftmost_finds (convertible_leads c leads_to (s.normal h)) (s.normal h);
  }

  tree_convertible : Convertible t (term_of s.tree)
  tree_convertible = convertible leads_to

pub decided : {t u : Tree} {b c : Bool} {ns ms : List ReadNode} (s : SaysOf t b ns)
    (r : SaysOf u c ms) → HasAllHeads ns → HasAllHeads ms → Convertible t u →
    term_of s.tree ≡ term_of r.tree
decided s r h k c =
    sym
    (normal_stays (r.normal k)
    (leftmost_beta
    ((the_normal_form s h).leftmost (term_of r.tree) (joined c (tree_convertible r k)))))

pub decides : {t u : Tree} {b c : Bool} {ns ms : List ReadNode} (s : SaysOf t b ns)
    (r : SaysOf u c ms) → HasAllHeads ns → HasAllHeads ms → term_of s.tree ≡ term_of r.tree →
    Convertible t u
decides {t} s r h k e =
    joined (subst (λ v. Convertible t v) e (tree_convertible s h)) (turned (tree_convertible r k))

no_normal_form : {t : Tree} {b : Bool} {ns : List ReadNode} → SaysOf t b ns → b ≡ true →
    LacksHead ns →
    (u : Tree) → Convertible t u → HasNormalForm u → ⊥
no_normal_form s e h u c n =
    s.endless e h n.form
    (leftmost_finds (convertible_leads (turned c) n.reduces n.is_normal) n.is_normal) n.is_normal

-- ---- a root without a head

no_more : (b : Bool) (T : Part true) → b ≡ true → preorder T ≡ node.NoHead ∷ [] → (u : Tree) →
    Fills b [] 0 T u → HeadReducesForever u
no_more b (term l v ts) k e u h = absurd (cc)
no_more b lost k e u h = h k
no_more b cut k e u h = absurd (cc)

no_head_normal_form : {t : Tree} {b : Bool} {ns : List ReadNode} → SaysOf t b ns → b ≡ true →
    ns ≡ node.NoHead ∷ [] → HasHeadNormalForm t → ⊥
no_head_normal_form {b = b} s e f k =
    forever_none s.reduct (no_more b s.tree e (s.is_list ∙ f) s.reduct s.fills) (record {
      form = k.form;
      converts = joined (turned (convertible s.reduces)) k.converts;
      is_head_normal = k.is_head_normal;
    })

pub says_always : {t : Tree} {b : Bool} {ns : List ReadNode} (s : SaysOf t b ns) → SaysAlways s
says_always s = record {
  whole = λ h. the_normal_form s h;
  lost = λ e h u c n. no_normal_form s e h u c n;
  lost_root = λ e f k. no_head_normal_form s e f k;
}

-- ---- the verdict of leftmost reduction

pub road_beta : (road : List (List ℕ)) (t v : Tree) → RoadLeads t road v → BetaReduces t v
road_beta [] t v e = subst (λ v. BetaReduces t v) e ready
road_beta (at ∷ road) t v h = contract {at = at} tt h.2.1.0 (road_beta road h.2.0 v h.2.1.1)

pub never_differs : {t : Tree} {b : Bool} {ns : List ReadNode} {most : ℕ} {road : List (List ℕ)} →
    SaysOf t b ns → IsVerdict t ns most (Differs road) → ⊥
never_differs {t} {road = road} s o =
    let w = o.0.is_term in
    let n = (the_normal_form s w.whole).only o.1 (road_beta road t o.1 o.2.leads) (no_leftmost o.1 o.2.none) in
    o.3
    (n ∙ ap (λ T. term_of T) (list_is_of_one_tree s.tree w.tree (s.is_list ∙ sym w.is_list)) ∙ w.is)
