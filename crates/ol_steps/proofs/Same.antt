-- Whether two trees are one.
use Rattle.std.proofs.Common.{◌≡◌, Bool, true, false, refl, sym, ap, ◌∙◌, eqb-true, eq-eqb}
use Rattle.std.specs.Prelude.{◌↔◌}
use Rattle.std.proofs.lemmas.Bool.{and_parts, and_from}
use Rattle.ol_term.specs.Trees.{Tree, var, free, lam, app}
use Rattle.ol_steps.specs.Folded.{is_same}

pub same_is : (s t : Tree) → is_same s t ≡ true → s ≡ t
same_is (var j) (var k) h = ap var (eqb-true j k h)
same_is (var j) (free k) h = absurd (cc)
same_is (var j) (lam t) h = absurd (cc)
same_is (var j) (app g u) h = absurd (cc)
same_is (free j) (var k) h = absurd (cc)
same_is (free j) (free k) h = ap free (eqb-true j k h)
same_is (free j) (lam t) h = absurd (cc)
same_is (free j) (app g u) h = absurd (cc)
same_is (lam s) (var k) h = absurd (cc)
same_is (lam s) (free k) h = absurd (cc)
same_is (lam s) (lam t) h = ap lam (same_is s t h)
same_is (lam s) (app g u) h = absurd (cc)
same_is (app f s) (var k) h = absurd (cc)
same_is (app f s) (free k) h = absurd (cc)
same_is (app f s) (lam t) h = absurd (cc)
same_is (app f s) (app g t) h =
    let p = and_parts (is_same f g) (is_same s t) h in
    ap (λ (u : Tree). app u s) (same_is f g p.0) ∙ ap (λ (u : Tree). app g u) (same_is s t p.1)

pub same_itself : (t : Tree) → is_same t t ≡ true
same_itself (var k) = eq-eqb k k refl
same_itself (free k) = eq-eqb k k refl
same_itself (lam t) = same_itself t
same_itself (app f a) = and_from (is_same f f) (is_same a a) (same_itself f) (same_itself a)

pub decided : (b : Bool) (s t : Tree) → ((b ≡ true) ↔ (s ≡ t)) → b ≡ is_same s t
decided true s t h = sym (ap (λ (u : Tree). is_same s u) (sym (h.0 refl)) ∙ same_itself s)
decided false s t h = go (is_same s t) refl
  where
    go : (c : Bool) → is_same s t ≡ c → false ≡ c
    go false e = refl
    go true e = h.1 (same_is s t e)
