use Rattle.std.proofs.Common.{◌≡◌, ℕ, List, true, sym, ap, ◌∙◌, subst, length}
use Rattle.ol_term.specs.Trees.{Tree, tree_of, is_below, is_named_below}
use Rattle.ol_term.specs.NameLists.{in_table}
use Rattle.ol_derivations.specs.Applications.{with_function}
use Rattle.ol_derivations.proofs.Joined.{both_bound, both_named}
use Rattle.ol_derivations.proofs.applying.apply.Goals as goal

pub invariant_of-result : goal.invariant_of-result
invariant_of-result c =
    let names = c.in_ok-names.names in
    let f = c.args.function.now in
    let a = c.args.arguments.now in
    let n = c.args.further in
    let e : tree_of c.put_function.new.arguments
    ≡ with_function (in_table names f.names (tree_of f.term)) n (in_table names a.names (tree_of a.term)) =
    c.in_ok-put_function.ensures
    ∙ ap (λ (u : Tree). with_function u n (tree_of c.renumber-2.new.term))
    (c.renumber.ensures ∙ ap (in_table names f.names) c.in_ok-head.ensures)
    ∙ ap (with_function (in_table names f.names (tree_of f.term)) n)
    (c.renumber-2.ensures ∙ ap (in_table names a.names) c.in_ok-term.ensures) in
    record {
      bound = ap (is_below 0) e ∙ both_bound names f.names a.names (tree_of f.term) (tree_of a.term) n f.bound a.bound;
      named = ap (is_named_below (length names)) e
          ∙ subst (λ (all : List (List ℕ)). is_named_below (length all)
          (with_function (in_table all f.names (tree_of f.term)) n (in_table all a.names (tree_of a.term))) ≡ true)
          (sym c.in_ok-names.ensures)
          (both_named f.names a.names (tree_of f.term) (tree_of a.term) n f.named a.named);
    }
