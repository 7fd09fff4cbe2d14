use Rattle.std.proofs.Common.{◌≡◌, ℕ, ◌+◌, ◌<◌, ◌≤◌, ◌⊎◌, inl, inr, Some, sym, subst, arith}
use Rattle.std.proofs.lemmas.Bool.{cases_lt}
use Rattle.ol_net.specs.declared.parts.Kind.{Kind}
use Rattle.ol_net.specs.Nets.{HasNode}
use Rattle.ol_net.specs.Numbered.{net_of}
use Rattle.ol_net.proofs.Places.{kind_at-inside}
use Rattle.ol_net.proofs.Numbered.{has_node}
use Rattle.ol_orders.specs.Meetings.{met_by}
use Rattle.ol_orders.proofs.comparing.first_alone.Goals as goal

pub loop-n-preserved : goal.loop-n-preserved
loop-n-preserved c = λ x l k i h. go x k i h l (cases_lt x c.loop-n.n)
  where
    go : (x : ℕ) (k : Kind) (i : ℕ) → HasNode (net_of c.args.net.now) x k i → x < c.loop-n.n + 1 →
        (x < c.loop-n.n) ⊎ (c.loop-n.n ≤ x) → (y : ℕ) × (met_by c.args.table.now x ≡ Some y)
    go x k i h l (inl b) = c.loop-n.invariant x b k i h
    go x k i h l (inr a) =
        let same : c.loop-n.n ≡ x = omega (arith, l, a) in
        subst (λ (z : ℕ). (y : ℕ) × (met_by c.args.table.now z ≡ Some y)) same
        (c.is_alone.ensures.not c.if-is_alone.false k i
        (subst (λ (z : ℕ). HasNode (net_of c.args.net.now) z k i) (sym same) h))

pub returns-clause-none : goal.returns-clause-none
returns-clause-none c = λ x k i h.
    let inside = kind_at-inside c.args.net.now.nodes x (k, i) ((has_node c.args.net.now x k i).0 h) in
    c.loop-n.invariant x (omega (arith, inside, c.loop-n-test.false, c.born-n-end.ensures.born)) k i h
