use Rattle.std.proofs.Common.{◌≡◌, ◌++◌, ◌∷◌, [], arith, sym, ap, ◌∙◌, subst}
use Rattle.std.proofs.lemmas.Grind.{common_steps}
use Rattle.ol_term.specs.Trees.{tree_of, lam, app}
use Rattle.ol_derivations.specs.Reductions.{redexes}
use Rattle.ol_derivations.specs.Searches.{placed}
use Rattle.ol_derivations.proofs.Redexes.{lam_done, app_done}
use Rattle.ol_derivations.proofs.searching.+put_redexes.Goals as goal

pub returns-in_ok-put_redexes-in-Lam-clause-found : goal.returns-in_ok-put_redexes-in-Lam-clause-found
returns-in_ok-put_redexes-in-Lam-clause-found t c =
    let part = tree_of c.args.part.now in
    let b = tree_of c.deref.result.now in
    let e : part ≡ lam b = grind (arith, common_steps) in
    lam_done c.args.found.now.items c.put_redexes.new.found.items c.args.at.now.items c.push.new.self.items part b e
    c.in_ok-push-in-Lam.ensures.items c.in_ok-put_redexes-in-Lam.ensures.found

pub returns-in_ok-put_redexes-in-App-2-clause-found : goal.returns-in_ok-put_redexes-in-App-2-clause-found
returns-in_ok-put_redexes-in-App-2-clause-found t c =
    let part = tree_of c.args.part.now in
    let at = c.args.at.now.items in
    let f = tree_of c.deref-in-App.result.now in
    let g = tree_of c.deref-in-App-3.result.now in
    let a = tree_of c.deref-in-App-4.result.now in
    let e : part ≡ app f a = grind (arith, common_steps) in
    let same : f ≡ g = grind (arith, common_steps) in
    let back : c.pop-in-App.new.self.items ≡ at = grind (arith, common_steps) in
    let two = c.in_ok-push-in-App-2.ensures.items ∙ ap (λ at. at ++ 2 ∷ []) back in
    let low = subst (λ x. c.put_redexes-in-App.new.found.items
    ≡ c.put_here.new.found.items ++ placed c.push-in-App.new.self.items (redexes x)) (sym same)
    c.in_ok-put_redexes-in-App.ensures.found in
    app_done c.args.found.now.items c.put_here.new.found.items c.put_redexes-in-App.new.found.items
    c.put_redexes-in-App-2.new.found.items at c.deref-in-App-2.result.now c.push-in-App.new.self.items
    c.push-in-App-2.new.self.items part f a e c.deref-in-App-2.ensures.value c.in_ok-push-in-App.ensures.items two
    c.in_ok-put_here-in-App.ensures low c.in_ok-put_redexes-in-App-2.ensures.found
