use Rattle.std.proofs.Common.{◌≡◌, ℕ, ◌+◌, ◌<◌, length, get_or, slice_get, Some, true, false, sym, ap, ◌∙◌, rules, arith}
use Rattle.std.proofs.lemmas.List.Sums.{count_by_more_yes, count_by_more_no}
use Rattle.std.proofs.lemmas.Option.{get_or_from_slice_get, slice_get_within}
use Rattle.ol_readback.specs.declared.answers.ReadNode.TheVariants as node
use Rattle.ol_counts.specs.Tallies.{is_read}
use Rattle.ol_counts.proofs.tallies.places_read.Goals as goal
use Rattle.ol_counts.proofs.tallies.places_read.Goals.{then-is_read, else-is_read}

pub loop-k-preserved : goal.loop-k-preserved
loop-k-preserved c =
    let t = c.args.tree.now in
    let k = c.loop-k.k in
    let i = c.loop-k.invariant in
    let m = i.1 in
    let g : slice_get t k ≡ Some c.in-Some.node = sym c.get.ensures.place ∙ c.in-Some.is in
    let e : get_or t k node.Cut ≡ c.in-Some.node = get_or_from_slice_get t k c.in-Some.node node.Cut g in
    let l : k < length t = slice_get_within t k c.in-Some.node g in
    elim c.if-is_read.branch [
      | then-is_read w ↦
          let y : is_read (get_or t k node.Cut) ≡ true = ap is_read e ∙ sym c.is_read.ensures ∙ w.if-is_read.true in
          let p : c.if-is_read.places ≡ c.loop-k.places + 1 = search rules in
          (p ∙ ap (λ (n : ℕ). n + 1) i.0 ∙ sym (count_by_more_yes is_read t k node.Cut l y), omega (arith, p, m))
      | else-is_read w ↦
          let y : is_read (get_or t k node.Cut) ≡ false = ap is_read e ∙ sym c.is_read.ensures ∙ w.if-is_read.false in
          let p : c.if-is_read.places ≡ c.loop-k.places = search rules in
          (p ∙ i.0 ∙ sym (count_by_more_no is_read t k node.Cut l y), omega (arith, p, m))
    ]
