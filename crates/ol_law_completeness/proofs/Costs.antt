-- A step keeps what is read, at no more cost; and at less where it is on the path of the first
-- place.
use Rattle.std.proofs.Common.{ℕ, Bool, ◌+◌, ◌<◌, ◌≤◌, List, [], ◌∷◌, ◌++◌, length, arith}
use Rattle.ol_law_edges.specs.Edges.{IsTest}
use Rattle.ol_law_edges.proofs.Contraction.{is_or_is_not}
use Rattle.ol_net.specs.declared.parts.Rule.{Rule}
use Rattle.ol_net.specs.Nets.{NamedNet, free, IsNet}
use Rattle.ol_context.specs.Contexts.{Level, Context}
use Rattle.ol_context.specs.Paths.{Path, HaveSamePaths}
use Rattle.ol_invariance.proofs.Steps.{step_keeps}
use Rattle.ol_invariance.proofs.Table.{rule_suits}
use Rattle.ol_rules.specs.Laws.{IsFresh}
use Rattle.ol_rules.specs.Rewriting.{action_of, IsStep}
use Rattle.ol_readback.specs.Frames.{Frame, asked}
use Rattle.ol_readback.specs.Heads.{NoPath}
use Rattle.ol_readback.specs.Matching.{Matches}
use Rattle.ol_readback.specs.ReadTrees.{Subterm, framed, port_of, arguments}
use Rattle.ol_readback.specs.declared.answers.HeadVar.{HeadVar}
use Rattle.ol_readback.specs.declared.answers.ReadNode.{ReadNode}
use Rattle.ol_readback.specs.declared.answers.ReadNode.TheVariants as node
use Rattle.ol_law_completeness.specs.Rows.{row, inversions, GoesDown}
use Rattle.ol_law_completeness.specs.Laws.{StepShortensRow}
use Rattle.ol_law_completeness.specs.Complete.{AreRead, done, enough, place}
use Rattle.ol_law_completeness.proofs.Rows.{fewer, strictly}
use Rattle.ol_law_completeness.proofs.Shortening.{followed}

module _ {A : Type 0} where
  pub step_shortens : StepShortensRow A
  step_shortens same t born N M f g r is_net fresh s p c q X path =
      let a = s.active in
      let o = followed N f g a.k a.i a.l a.j (action_of r a.j) born is_net a.faces fresh M
      s.rewrites (λ x y. is_or_is_not same t y x) (rule_suits a.k a.i a.l a.j r a.fits) path in
      (o.0, fewer f g o.1, λ h. strictly f g o.1 h)

module _ {A : Type 0} (same : A → A → Bool) (t : IsTest same)
    (born : ℕ → A) (N M : NamedNet A) (f g : A) (r : Rule) (is_net : IsNet N)
    (fresh : IsFresh N born)
    (step : IsStep born N f g r M) where
  paths : HaveSamePaths N M
  paths = step_keeps same t born N M f g r is_net fresh step

  still_none : (p : ℕ) (c : Context) → NoPath N p c → NoPath M p c
  still_none p c h q X y = h q X ((paths p c q X).1 y)

  pub costs_after : {most : ℕ} {F : List Frame} {ss : List Subterm} {ns : List ReadNode} {m : ℕ} →
      AreRead N most F ss ns m → (m' : ℕ) × AreRead M most F ss ns m' × (m' ≤ m)
  costs_after done = (0, done, omega arith)
  costs_after (enough b) = (0, enough b, omega arith)
  costs_after (place {s = s} {n = n} {q = q} {m = m} {X = X} few path match rest) =
      let y = costs_after rest in
      let z = step_shortens same t born N M f g r is_net fresh step s.port (asked s.levels n) q X
      path in
      let less = z.1 in
      let fewer = y.2 in (
        inversions (row z.0) + y.0,
        place (λ j b. still_none s.port (asked s.levels j) (few j b)) z.0
            match y.1,
        omega arith,
      )

  pub first_after : {most : ℕ} {F : List Frame} {s : Subterm} {ss : List Subterm}
      {ns : List ReadNode} {n q k m : ℕ} {X : Context} {v : HeadVar} {ls : List Level} →
      ((j : ℕ) → j < n → NoPath N s.port (asked s.levels j)) →
      (path : Path N (free s.port) (asked s.levels n) q X) →
      Matches (F ++ framed s 0 ∷ []) q X (length F) n v k ls →
      AreRead N most (F ++ framed s n ∷ []) (arguments (length F) (port_of (F ++ framed s n ∷ []) v)
      ls 0 k ++ ss) ns m → GoesDown f g (row path) →
      (m' : ℕ) × AreRead M most F (s ∷ ss) (node.Head n v k ∷ ns) m'
      × (m' < inversions (row path) + m)
  first_after {s = s} {n = n} {q = q} {X = X} few path match rest h =
      let y = costs_after rest in
      let z = step_shortens same t born N M f g r is_net fresh step s.port (asked s.levels n) q X
      path in
      let less = z.2 h in
      let fewer = y.2 in (
        inversions (row z.0) + y.0,
        place (λ j b. still_none s.port (asked s.levels j) (few j b)) z.0
            match y.1,
        omega arith,
      )
