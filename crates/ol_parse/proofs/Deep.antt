-- Depths of what a row of steps builds.
use Rattle.std.proofs.Common.{◌≡◌, ℕ, ◌+◌, ◌*◌, ◌<◌, ◌≤◌, List, [], ◌∷◌, take, get_or, length, map}
use Rattle.std.proofs.Common.{reverse, All, Option, Some, None, IsSome, refl, sym, ap, ◌∙◌, arith}
use Rattle.ol_parse.specs.Grammar.{Named}
use Rattle.ol_parse.specs.Flat.{put, built}
use Rattle.ol_parse.specs.declared.flat.Op.{Op}
use Rattle.ol_parse.specs.Depth.{named_depth}
use Rattle.ol_parse.proofs.Rows.{step_is, step_can}
use Rattle.std.proofs.Math.Seq.{take-length}

pub record IsDeep (ops : List Op) (i done : ℕ) (stack : List ℕ) : Type 0 where
  pub terms : List Named
  pub so_far : built (take i ops) ≡ Some terms
  pub depths : map named_depth terms ≡ reverse stack
  pub bounded : All (λ d. d ≤ done) stack
  pub twice : done ≡ 2 * i

pub can_deepen : (ops : List Op) (i done : ℕ) (stack : List ℕ) (d : Op) (us : List Named) →
    IsDeep ops i done stack → i < length ops → built ops ≡ Some us →
    (ts : List Named) × (map named_depth ts ≡ reverse stack) × IsSome (put (get_or ops i d) ts)
can_deepen ops i done stack d us r h e = (r.terms, r.depths, step_can ops i d r.terms r.so_far h us e)

some_is : (o : Option (List Named)) → IsSome o → (us : List Named) × (o ≡ Some us)
some_is None h = absurd (cc)
some_is (Some us) h = (us, refl)

pub deeper : (ops : List Op) (i done : ℕ) (old new : List ℕ) (d : Op) (us : List Named) →
    IsDeep ops i done old → i < length ops → built ops ≡ Some us → All (λ d. d ≤ done + 2) new →
    ((ts us : List Named) → map named_depth ts ≡ reverse old → put (get_or ops i d) ts ≡ Some us →
    map named_depth us ≡ reverse new) → IsDeep ops (i + 1) (done + 2) new
deeper ops i done old new d us r h e b each =
    let (vs, p) = some_is (put (get_or ops i d) r.terms) (step_can ops i d r.terms r.so_far h us e) in
    let t = r.twice in
    record {
      terms = vs;
      so_far = step_is ops i d r.terms r.so_far h ∙ p;
      depths = each r.terms vs r.depths p;
      bounded = b;
      twice = omega arith;
    }

-- in the end
pub deep_end : (ops : List Op) (i done : ℕ) (stack : List ℕ) → IsDeep ops i done stack →
    i ≡ length ops → (t : Named) → built ops ≡ Some (t ∷ []) → reverse stack ≡ named_depth t ∷ []
deep_end ops i done stack r h t e =
    let s : built ops ≡ Some r.terms = ap built (sym (take-length ops))
    ∙ ap (λ n. built (take n ops)) (sym h) ∙ r.so_far in
    let q : r.terms ≡ t ∷ [] = cc in
    sym r.depths ∙ ap (map named_depth) q
