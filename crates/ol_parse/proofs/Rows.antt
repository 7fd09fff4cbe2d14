-- A row of steps, from the left.
use Rattle.std.proofs.Common.{◌≡◌, ℕ, ◌+◌, ◌<◌, List, [], ◌∷◌, ◌++◌, take, drop, get_or, length, Option, Some, None}
use Rattle.std.proofs.Common.{IsSome, option_and_then, refl, sym, ap, ◌∙◌, subst, take-append-drop}
use Rattle.std.proofs.lemmas.List.{take_more}
use Rattle.ol_parse.specs.Grammar.{Named}
use Rattle.ol_parse.specs.Flat.{put, build, built}
use Rattle.ol_parse.specs.declared.flat.Op.{Op}

build_both : (xs ys : List Op) (ts : List Named) → build (xs ++ ys) ts ≡ option_and_then (build ys) (build xs ts)
build_both [] ys ts = refl
build_both (x ∷ xs) ys ts = each (λ us. build_both xs ys us) (put x ts)
  where
    each : ((us : List Named) → build (xs ++ ys) us ≡ option_and_then (build ys) (build xs us)) →
        (o : Option (List Named)) → option_and_then (build (xs ++ ys)) o ≡ option_and_then
        (build ys) (option_and_then (build xs) o)
    each h None = refl
    each h (Some us) = h us

one_put : (op : Op) (ts : List Named) → build (op ∷ []) ts ≡ put op ts
one_put op ts = go (put op ts)
  where
    go : (o : Option (List Named)) → option_and_then (build []) o ≡ o
    go None = refl
    go (Some us) = refl

some_first : (f : List Named → Option (List Named)) (o : Option (List Named)) (u : List Named) →
    option_and_then f o ≡ Some u → IsSome o
some_first f None u h = absurd (cc)
some_first f (Some x) u h = refl

module _ (ops : List Op) (i : ℕ) (d : Op) (ts : List Named) (so_far : built (take i ops) ≡ Some ts)
    (inside : i < length ops) where
  pub step_is : built (take (i + 1) ops) ≡ put (get_or ops i d) ts
  step_is = ap built (take_more ops i d inside) ∙ build_both (take i ops) (get_or ops i d ∷ []) []
      ∙ ap (option_and_then (build (get_or ops i d ∷ []))) so_far ∙ one_put (get_or ops i d) ts

  -- of a row that builds something each step can be taken
  pub step_can : (us : List Named) → built ops ≡ Some us → IsSome (put (get_or ops i d) ts)
  step_can us h =
      let whole : option_and_then (build (drop (i + 1) ops))
      (built (take (i + 1) ops)) ≡ Some us = sym
      (build_both (take (i + 1) ops) (drop (i + 1) ops) []) ∙ ap built (take-append-drop (i + 1) ops) ∙ h in
      subst (λ (o : Option (List Named)). IsSome o) step_is
      (some_first (build (drop (i + 1) ops)) (built (take (i + 1) ops)) us whole)
