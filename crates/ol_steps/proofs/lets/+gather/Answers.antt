use Rattle.std.proofs.Common.{rules, ◌≡◌, ℕ, ◌-◌, List, [], ◌∷◌, ◌++◌, Option, Some, sym, ap, ◌∙◌, subst}
use Rattle.std.specs.Prelude.{IfNone, IfSome}
use Rattle.ol_term.specs.declared.terms.Term.{Term}
use Rattle.ol_term.specs.Trees.{Tree, tree_of}
use Rattle.ol_beta.specs.Beta.{contracted, IsWithin}
use Rattle.ol_steps.specs.Trees.{binders_in}
use Rattle.ol_steps.specs.Binders.{Binders}
use Rattle.ol_steps.specs.ValueTrees.{rows_of}
use Rattle.ol_steps.specs.Lets.{let_names, lets, no_more, row_if, names_of_lets, value_of}
use Rattle.ol_steps.proofs.Rows.{nothing_named, nothing_valued, none_new, none_names, none_values, some_new, some_names, some_values}
use Rattle.ol_steps.proofs.lets.+gather.Goals as goal

pub returns-in_default : goal.returns-in_default
returns-in_default t c =
    let names = c.args.names.now in
    let u = tree_of c.args.term.now in
    let s = binders_in c.args.binders.now in
    let later = let_names c.args.count (binders_in c.args.front.now) in
    let e : later ≡ [] = search rules in record {
      names = nothing_named names later u s e;
      rows = nothing_valued (rows_of c.args.rows.now.items) names later u s e;
    }

pub add_if-requires : goal.add_if-requires
add_if-requires t c =
    let u = tree_of c.args.term.now in
    let s = binders_in c.args.binders.now in
    let none : no_more (contracted u []) = subst (λ (r : Option Term). IfNone r (no_more (contracted u []))) c.in_default-2.is
    c.in_ok-next.ensures.none in
    record {
      new = none_new c.args.names.now (let_names (c.args.count - 1) (binders_in c.in-Some.inner.now)) c.in-Some.name.now u s
          c.is_kept-kept.result c.is_kept-kept.ensures none;
    }

pub returns-in_default-2 : goal.returns-in_default-2
returns-in_default-2 t c =
    let names = c.args.names.now in
    let vs = rows_of c.args.rows.now.items in
    let u = tree_of c.args.term.now in
    let s = binders_in c.args.binders.now in
    let x = c.in-Some.name.now in
    let kept = c.is_kept-kept.result in
    let later = let_names (c.args.count - 1) (binders_in c.in-Some.inner.now) in
    let e : let_names c.args.count (binders_in c.args.front.now) ≡ x ∷ later = search rules in
    let none : no_more (contracted u []) = subst (λ (r : Option Term). IfNone r (no_more (contracted u []))) c.in_default-2.is
    c.in_ok-next.ensures.none in
    let v = c.value_of.ensures in
    let w = c.names_in_argument-own.ensures in
    let b = binders_in c.names_in_argument-own.result.now in record {
      names = none_names names later x u s kept c.is_kept-kept.ensures none _
          (c.in_ok-add_if.ensures.names ∙ ap (λ (z : Tree). names ++ names_of_lets (row_if kept x z b)) v
          ∙ ap (λ (z : Binders). names ++ names_of_lets (row_if kept x (value_of u) z)) w)
          ∙ ap (λ (l : List (List ℕ)). names ++ names_of_lets (lets names l u s)) (sym e);
      rows = none_values names later x u s kept c.is_kept-kept.ensures none vs _
          (c.in_ok-add_if.ensures.rows ∙ ap (λ (z : Tree). vs ++ row_if kept x z b) v
          ∙ ap (λ (z : Binders). vs ++ row_if kept x (value_of u) z) w)
          ∙ ap (λ (l : List (List ℕ)). vs ++ lets names l u s) (sym e);
    }

pub add_if-requires-2 : goal.add_if-requires-2
add_if-requires-2 t c =
    let u = tree_of c.args.term.now in
    let s = binders_in c.args.binders.now in
    let later = let_names (c.args.count - 1) (binders_in c.in-Some.inner.now) in
    let w = tree_of c.in-Some-2.next in
    let some : contracted u [] ≡ Some w = subst (λ (r : Option Term). IfSome r (λ s. contracted u [] ≡ Some (tree_of s)))
    c.in-Some-2.is c.in_ok-next.ensures.some in
    let small : IsWithin w = subst (λ (r : Option Term). IfSome r (λ s. IsWithin (tree_of s))) c.in-Some-2.is
    c.in_ok-next.ensures.within in
    let names = c.args.names.now in
    let after = c.in_ok-after.ensures in
    record {
      new = some_new names later c.in-Some.name.now u s c.is_kept-kept.result c.is_kept-kept.ensures w some small
          c.gather.new.names
          (c.in_ok-gather.ensures.names ∙ ap (λ (z : Binders). names ++ names_of_lets (lets names later w z)) after);
    }

pub returns : goal.returns
returns t c =
    let names = c.args.names.now in
    let vs = rows_of c.args.rows.now.items in
    let u = tree_of c.args.term.now in
    let s = binders_in c.args.binders.now in
    let x = c.in-Some.name.now in
    let kept = c.is_kept-kept.result in
    let later = let_names (c.args.count - 1) (binders_in c.in-Some.inner.now) in
    let e : let_names c.args.count (binders_in c.args.front.now) ≡ x ∷ later = search rules in
    let w = tree_of c.in-Some-2.next in
    let some : contracted u [] ≡ Some w = subst (λ (r : Option Term). IfSome r (λ s. contracted u [] ≡ Some (tree_of s)))
    c.in-Some-2.is c.in_ok-next.ensures.some in
    let small : IsWithin w = subst (λ (r : Option Term). IfSome r (λ s. IsWithin (tree_of s))) c.in-Some-2.is
    c.in_ok-next.ensures.within in
    let v = c.value_of-2.ensures in
    let r = c.names_in_argument-own.ensures in
    let b = binders_in c.names_in_argument-own.result.now in
    let after = c.in_ok-after.ensures in record {
      names = some_names names later x u s kept c.is_kept-kept.ensures w some small c.gather.new.names _
          (c.in_ok-gather.ensures.names ∙ ap (λ (z : Binders). names ++ names_of_lets (lets names later w z)) after)
          (c.in_ok-add_if-2.ensures.names ∙ ap (λ (z : Tree). c.gather.new.names ++ names_of_lets (row_if kept x z b)) v
          ∙ ap (λ (z : Binders). c.gather.new.names ++ names_of_lets (row_if kept x (value_of u) z)) r)
          ∙ ap (λ (l : List (List ℕ)). names ++ names_of_lets (lets names l u s)) (sym e);
      rows = some_values names later x u s kept c.is_kept-kept.ensures w some small vs
          (rows_of c.gather.new.rows.items) _
          (c.in_ok-gather.ensures.rows ∙ ap (λ (z : Binders). vs ++ lets names later w z) after)
          (c.in_ok-add_if-2.ensures.rows ∙ ap (λ (z : Tree). rows_of c.gather.new.rows.items ++ row_if kept x z b) v
          ∙ ap (λ (z : Binders). rows_of c.gather.new.rows.items ++ row_if kept x (value_of u) z) r)
          ∙ ap (λ (l : List (List ℕ)). vs ++ lets names l u s) (sym e);
    }
