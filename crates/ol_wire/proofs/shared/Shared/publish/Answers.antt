-- Two equal first numbers make equal pairs.
use Rattle.std.proofs.Common.{◌≡◌, ◌+◌, ◌<◌, suc, ◌∷◌, sym, refl, ap, ◌∙◌, subst, inl, arith, ℕ}
use Rattle.ol_law_edges.specs.Edges.{IsIn}
use Rattle.ol_wire.specs.declared.layout.Parts.{Parts}
use Rattle.ol_wire.specs.declared.view.Link.{Link}
use Rattle.ol_wire.specs.declared.view.View.{View}
use Rattle.ol_wire.specs.Layout.{table_size}
use Rattle.ol_wire.specs.Links.{link_between}
use Rattle.ol_wire.specs.StepPlays.{rest}
use Rattle.ol_wire.specs.Stand.{TableState}
use Rattle.ol_wire.proofs.LinkSteps.Allowed.{places_allowed, publishes_allowed}
use Rattle.ol_wire.proofs.shared.Shared.publish.Goals as goal

pair_at : (a b x : ℕ) → a ≡ b → ◌≡◌ {A = ℕ × ℕ} (a, x) (b, x)
pair_at a b x e = cc

pub store-requires : goal.store-requires
store-requires c =
    let t = c.self.inside.table.shared in
    let me = c.args.token.now in
    let of : me.table_id ≡ t.table_id = c.requires.token.0 ∙ sym (ap (λ (b : TableState). b.table) c.self.view_is) in
    let parts : c.self.inside.parts ≡ c.args.self.now.plan.parts = sym c.self.invariant.0
    ∙ ap (λ (b : TableState). b.plan.parts) c.self.view_is in
    let l : Link = link_between c.args.cell c.args.one c.args.two in (
      of,
      omega (arith, c.requires.cell, c.self.invariant.2, ap (λ (z : Parts). table_size z) parts),
      places_allowed t.key t.table_id.slots me.id me.me c.requires.token.1.2 l
          (rest me.me.0.pending) c.requires.next.0 c.requires.next.1 c.requires.nodes.0
          c.requires.nodes.1 (c.args.cell + 1) c.args.two (omega arith) refl,
    )

pub store-requires-2 : goal.store-requires-2
store-requires-2 c =
    let t = c.self.inside.table.shared in
    let v : View = c.args.token.now.me.0 in
    let me = c.store.new.seat in
    let e = c.store.ensures.2.1 in
    let of : me.table_id ≡ t.table_id = c.store.ensures.0 ∙ c.requires.token.0
    ∙ sym (ap (λ (b : TableState). b.table) c.self.view_is) in
    let parts : c.self.inside.parts ≡ c.args.self.now.plan.parts = sym c.self.invariant.0
    ∙ ap (λ (b : TableState). b.plan.parts) c.self.view_is in
    let l : Link = link_between c.args.cell c.args.one c.args.two in
    let held : 0 < me.me.0.holds = omega (arith, c.requires.token.1.2, ap (λ (u : View). u.holds) e) in
    let pending : me.me.0.pending ≡ l ∷ rest v.pending = ap (λ (u : View). u.pending) e ∙ c.requires.next.1 in
    let word : c.args.cell + 1 ≡ suc c.args.cell = omega arith in
    let known : IsIn {X = ℕ × ℕ} (suc c.args.cell, c.args.two) me.me.0.known = subst
    (λ (u : View). IsIn {X = ℕ × ℕ} (suc c.args.cell, c.args.two) u.known) (sym e)
    (inl (pair_at (suc c.args.cell) (c.args.cell + 1) c.args.two (sym word))) in (
      of,
      omega (arith, c.requires.cell, c.self.invariant.2, ap (λ (z : Parts). table_size z) parts),
      publishes_allowed t.key t.table_id.slots me.id me.me held l (rest v.pending)
          (ap (λ (u : View). u.due) e ∙ c.requires.next.0) pending c.requires.nodes.0
          c.requires.nodes.1 c.args.cell c.args.one refl refl known,
    )
