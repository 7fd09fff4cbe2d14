-- Demand order is complete.
use Rattle.std.proofs.Common.{◌≡◌, ℕ, suc, ◌+◌, ◌<◌, ◌≤◌, Bool, List, [], ◌∷◌, ◌++◌, length, refl, sym, subst, arith}
use Rattle.ol_net.specs.Nets.{NamedNet, free}
use Rattle.ol_context.specs.Contexts.{Level}
use Rattle.ol_context.specs.Paths.{Path, HaveSamePaths}
use Rattle.ol_term.specs.Trees.{Tree}
use Rattle.ol_term.specs.declared.translations.Translation.{Translation}
use Rattle.ol_translate.specs.Names.{HasNames}
use Rattle.ol_translate.specs.Translation.{translation_of}
use Rattle.ol_readback.specs.Frames.{Frame, asked}
use Rattle.ol_readback.specs.Heads.{head, matched, NoPath, IsHead}
use Rattle.ol_readback.specs.Heads as heads
use Rattle.ol_readback.specs.ReadTrees.{Subterm, whole_term, framed, port_of, arguments}
use Rattle.ol_readback.specs.Sources.{HaveHeadsOf}
use Rattle.ol_readback.specs.Sources as sources
use Rattle.ol_readback.specs.Terms.{HasAllHeads, abstracted, variable_of}
use Rattle.ol_readback.specs.Whole.{preorder}
use Rattle.ol_readback.specs.declared.answers.HeadVar.{HeadVar}
use Rattle.ol_readback.specs.declared.answers.ReadNode.{ReadNode}
use Rattle.ol_readback.specs.declared.answers.ReadNode.TheVariants as node
use Rattle.ol_rules.specs.declared.journal.NodeName.{NodeName}
use Rattle.ol_rules.specs.declared.journal.Entry.{Entry}
use Rattle.ol_demand.specs.Demands.{IsDemandRun}
use Rattle.ol_law_meaning.specs.Seen.{WholeSeats}
use Rattle.ol_law_meaning.specs.Shows.{HeadReduces, IsHeadNormal, applied}
use Rattle.ol_law_meaning.proofs.HeadSteps.{as_steps}
use Rattle.ol_law_meaning.proofs.Shapes.{normal_of}
use Rattle.ol_law_meaning.proofs.Showing.{headed}
use Rattle.ol_law_meaning.proofs.Based.{term_seen}
use Rattle.ol_readback.proofs.Forests.{frame_last}
use Rattle.ol_law_completeness.specs.Complete.{AreRead, done, enough, place, IsReadWithin, DemandIsComplete, HeadIsRead}
use Rattle.ol_law_completeness.specs.Rows.{row, inversions}
use Rattle.ol_law_completeness.proofs.HeadsFound.{has_head}
use Rattle.ol_law_completeness.proofs.Ending.{heads_are_read}
use Rattle.ol_law_completeness.proofs.Normalizing.{normal_form_has_heads}

module _ {A B : Type 0} (N : NamedNet A) (M : NamedNet B) (same : HaveSamePaths N M) where
  -- a place with a head, before those that are read later
  place_before : (F : List Frame) (s : Subterm) (ss : List Subterm) (ns : List ReadNode) (n k m : ℕ)
      (v : HeadVar) (ls : List Level) → IsHead N (F ++ framed s 0 ∷ []) (length F) (head n v k ls) →
      (Said : ℕ → Type 0) →
      ((most : ℕ) → Said most →
      AreRead M most (F ++ framed s n ∷ []) (arguments (length F)
      (port_of (F ++ framed s n ∷ []) v) ls 0 k ++ ss) ns m) →
      (m' : ℕ) × ((most : ℕ) → Said most → AreRead M most F (s ∷ ss) (node.Head n v k ∷ ns) m')
  place_before F s ss ns n k m v ls (heads.leaves {q = q} {X = X} few t (matched x)) Said r =
      let e = frame_last F (framed s 0) in
      let path =
      (same s.port (asked s.levels n) q X).0 (subst (λ (f : Frame).
      Path N (free f.port) (asked f.levels n) q X) e t) in
      let none : (j : ℕ) → j < n → NoPath M s.port (asked s.levels j) =
      λ j b q' X' y.
      few j b q' X' (subst (λ (f : Frame). Path N (free f.port) (asked f.levels j) q' X')
      (sym e) ((same s.port (asked s.levels j) q' X').1 y)) in
      (inversions (row path) + m, λ most b. place none path x (r most b))

  -- where all places have heads, whatever places are spoken of
  pub costs_of : {b : Bool} {F : List Frame} {ss : List Subterm} {ns : List ReadNode} →
      HaveHeadsOf N b F ss ns → HasAllHeads ns → (m : ℕ) × ((most : ℕ) → Unit {0} →
      AreRead M most F ss ns m)
  costs_of sources.end a = (0, λ most b. done)
  costs_of (sources.cut r) a = absurd a
  costs_of (sources.lost h r) a = absurd a
  costs_of {F = F} (sources.found {s = s} {ss = ss} {ns = ns} {n = n} {k = k} {v = v} {ls = ls} h r)
      a = let t = costs_of r a in place_before F s ss ns n k t.0 v ls h (λ most. Unit {0}) t.1

pub demand_is_complete : DemandIsComplete
demand_is_complete τ t names h v r n N start same clear =
    let x = normal_form_has_heads τ t names h v r n in
    let c = costs_of (translation_of τ t names) N same x.1 x.2 in
    let reads : (heads : ℕ) → IsReadWithin N heads c.0 (preorder x.0)
    × (length (preorder x.0) ≤ heads →
    (journal : List Entry) (places : List ReadNode) (M : NamedNet NodeName) →
    IsDemandRun N heads journal places M → places ≡ preorder x.0) =
    λ heads. (
    let most = suc (heads + length (preorder x.0)) in
    let z = heads_are_read N most c.0 (preorder x.0) start clear (c.1 most tt) heads (omega arith)
    in
    (z.0, z.1 (omega arith))
    ) in
    (x.0, x.2, x.3, c.0, reads)

-- the head of a term's head normal form, as its place in a net with the term's paths
pub record HeadAt {A : Type 0} (N : NamedNet A) (t : Tree) : Type 0 where
  pub lams : ℕ
  pub args : ℕ
  pub variable : HeadVar
  pub terms : List Tree
  pub count : length terms ≡ args
  pub reaches : HeadReduces t (abstracted lams (applied (variable_of ((0, lams) ∷ []) variable) terms))
  pub cost : ℕ
  pub reads : AreRead N 1 [] (whole_term ∷ []) (node.Head lams variable args ∷ []) cost

pub head_at : {A : Type 0} (N : NamedNet A) (τ : Translation) (t : Tree) (names : ℕ) →
    HasNames t names → (u : Tree) → HeadReduces t u → IsHeadNormal u →
    HaveSamePaths (translation_of τ t names) N → HeadAt N t
head_at N τ t names h u r n same =
    let seen = term_seen τ t names h in
    let k = normal_of n in
    let x = has_head [] whole_term seen refl (as_steps r).1 k.0 k.1 k.2 k.3 in
    let g = headed WholeSeats [] whole_term seen refl x.0 x.1 x.2 x.3 x.4 in
    let c = place_before (translation_of τ t names) N same [] whole_term [] [] x.0 x.1 0 x.2 x.3 x.4
    (λ most. most ≤ 1) (λ most b. enough (omega arith)) in
    record {
      lams = x.0;
      args = x.1;
      variable = x.2;
      terms = g.args;
      count = g.count_is;
      reaches = g.reaches;
      cost = c.0;
      reads = c.1 1 (omega arith);
    }

pub head_is_read : HeadIsRead
head_is_read τ t names h u r n N start same clear =
    let a = head_at N τ t names h u r n same in
    let z = heads_are_read N 1 a.cost (node.Head a.lams a.variable a.args ∷ []) start clear a.reads 1
    (omega arith) in
    (a.lams, a.args, a.variable, a.terms, a.count, a.reaches, a.cost, z.0)
