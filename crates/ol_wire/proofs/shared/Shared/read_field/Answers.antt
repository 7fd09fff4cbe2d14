-- The node of a pair in hand is a node of the table.
use Rattle.std.proofs.Common.{◌≡◌, ℕ, sym, refl, ap, ◌∙◌, subst, inl, inr, arith, List}
use Rattle.ol_law_edges.specs.Edges.{IsIn}
use Rattle.ol_wire.specs.declared.layout.Parts.{Parts}
use Rattle.ol_wire.specs.declared.view.View.{View}
use Rattle.ol_wire.specs.References.{kind_in}
use Rattle.ol_wire.specs.Layout.{table_size}
use Rattle.ol_wire.specs.StepPlays.{IsNodeOf}
use Rattle.ol_wire.specs.Stand.{TableState}
use Rattle.ol_wire.specs.InHand.{IsInHand, IsOfPair}
use Rattle.ol_wire.proofs.Steps.Allowed.{reads_field_allowed}
use Rattle.ol_wire.proofs.shared.Shared.read_field.Goals as goal
use Rattle.ol_rules.proofs.Born.{at_most_two}

node_in_hand : (v : View) (w r : ℕ) → IsInHand v w → IsOfPair v r → IsNodeOf v.parts r
node_in_hand v w r h (inl e) = subst (IsNodeOf v.parts) (sym e) h.nodes.0
node_in_hand v w r h (inr e) = subst (IsNodeOf v.parts) (sym e) h.nodes.1

pub field-word-requires : goal.field-word-requires
field-word-requires c =
    let me = c.args.token.now in
    let parts : me.me.0.parts ≡ c.self.inside.parts = c.requires.token.1.0
    ∙ sym (ap (λ (b : TableState). b.plan.parts) c.self.view_is) ∙ c.self.invariant.0 in (
      c.self.invariant.4,
      subst (λ (z : Parts). IsNodeOf z c.args.node) parts
          (node_in_hand me.me.0 c.requires.pair.0 c.args.node c.requires.pair.1 c.requires.node),
      omega (arith, c.requires.slot, at_most_two (kind_in c.args.node)),
    )

pub load-requires : goal.load-requires
load-requires c =
    let t = c.self.inside.table.shared in
    let me = c.args.token.now in
    let of : me.table_id ≡ t.table_id = c.requires.token.0 ∙ sym (ap (λ (b : TableState). b.table) c.self.view_is) in
    let parts : me.me.0.parts ≡ c.self.inside.parts = c.requires.token.1.0
    ∙ sym (ap (λ (b : TableState). b.plan.parts) c.self.view_is) ∙ c.self.invariant.0 in
    let node = node_in_hand me.me.0 c.requires.pair.0 c.args.node c.requires.pair.1 c.requires.node in
    let h = c.requires.pair.1 in
    let w : ℕ = c.requires.pair.0 in
    let taken : IsIn {X = ℕ × ℕ} (w, me.me.0.last.0) me.me.0.taken = subst
    (λ (l : List (ℕ × ℕ)). IsIn {X = ℕ × ℕ} (w, me.me.0.last.0) l) (sym h.taken) (inl refl) in (
      of,
      omega (
        arith,
        c.field-word.ensures,
        node.4,
        c.requires.slot,
        at_most_two (kind_in c.args.node),
        c.self.invariant.2,
        ap (λ (z : Parts). table_size z) parts,
      ),
      reads_field_allowed t.key t.table_id.slots me.id me.me c.requires.token.1.2 w c.args.node
          c.args.slot taken h.right c.requires.node c.requires.slot c.field-word.result c.field-word.ensures,
    )

pub returns-clause-same : goal.returns-clause-same
returns-clause-same c = subst (λ (u : ℕ). (y : ℕ) →
    IsIn {X = ℕ × ℕ} (u, y) c.args.token.now.me.0.known → y ≡ c.load.result) c.field-word.ensures c.load.ensures.2.1
