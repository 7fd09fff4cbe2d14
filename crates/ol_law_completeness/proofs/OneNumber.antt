-- A net tells one number of inversions, for the law `inversions_are_one`; and where these are of all
-- places, it tells it whatever number of places is spoken of, which Within uses too.
use Rattle.std.proofs.Common.{◌≡◌, ℕ, suc, ◌+◌, ◌<◌, ◌≤◌, List, [], ◌∷◌, ◌++◌, length, refl, sym, ap, ◌∙◌, subst, arith}
use Rattle.std.proofs.lemmas.List.{length-append}
use Rattle.ol_net.specs.declared.parts.Kind.{Kind}
use Rattle.ol_net.specs.Nets.{NamedNet, NamedPort, free, slot, HasNode, Linked, IsNet}
use Rattle.ol_context.specs.Contexts.{Level, Context}
use Rattle.ol_context.specs.Paths.{Path, ends, goes, Crosses, inward, outward, Through, through}
use Rattle.ol_context.proofs.Ways.{through_one}
use Rattle.ol_readback.specs.Frames.{Frame, asked}
use Rattle.ol_readback.specs.Heads.{Answer, head, no_head, budget, matched, NoPath, IsHead}
use Rattle.ol_readback.specs.Heads as heads
use Rattle.ol_readback.specs.Matching.{Matches}
use Rattle.ol_readback.specs.ReadTrees.{Subterm, framed, port_of, arguments}
use Rattle.ol_readback.specs.declared.answers.HeadVar.{HeadVar}
use Rattle.ol_readback.specs.declared.answers.ReadNode.{ReadNode}
use Rattle.ol_readback.specs.declared.answers.ReadNode.TheVariants as node
use Rattle.ol_readback.proofs.Forests.{frame_last}
use Rattle.ol_readback.proofs.One.{head_one}
use Rattle.ol_demand.specs.Demands.{place_of}
use Rattle.ol_law_completeness.specs.Complete.{AreRead, done, enough, place, InversionsAreOne, AllInversionsAreOne}
use Rattle.ol_law_completeness.specs.Rows.{rise, fall, row, inversions}

-- ---- all places

-- where all places are read, this may be said of any number of places
pub any_most : {A : Type 0} (N : NamedNet A) {most : ℕ} {F : List Frame} {ss : List Subterm}
    {ns : List ReadNode} {m : ℕ} → AreRead N most F ss ns m → length F + length ns < most →
    (more : ℕ) → AreRead N more F ss ns m
any_most N done b more = done
any_most N (enough c) b more = absurd (omega arith)
any_most N {F = F} (place {s = s} {n = n} few path match rest) b more =
    let l = length-append F (framed s n ∷ []) in
    place few path match (any_most N rest (omega arith) more)

-- ---- one row

module _ {A : Type 0} (N : NamedNet A) (is_net : IsNet N) where
  -- two crossings from one port with one context
  record Alike (x x' : A) (s s' t t' : ℕ) (d d' : Context) : Type 0 where
    enters : slot x s ≡ slot x' s'
    leaves : slot x t ≡ slot x' t'
    with_one : d ≡ d'

  alike : {p p' : NamedPort A} {c c' : Context} → p ≡ p' → c ≡ c' →
      {x x' : A} {k k' : Kind} {i i' s s' t t' : ℕ} {d d' : Context} →
      Linked N p (slot x s) → HasNode N x k i → Crosses k i s c t d →
      Linked N p' (slot x' s') → HasNode N x' k' i' → Crosses k' i' s' c' t' d' →
      Alike x x' s s' t t' d d'
  alike {p = p} {p' = p'} {c = c} {c' = c'} e f {x = x} {x' = x'} {s = s} {s' = s'} {t = t} {t' = t'}
      {d = d} {d' = d'} l h y l' h' y' =
      let z : slot x s ≡ slot x' s' = is_net.one_link p' (slot x s) (slot x' s')
      (subst (λ p. Linked N p (slot x s)) e l) l' in
      let other : Through N (slot x s) c (slot x' t') d' =
      subst (λ u. Through N u c (slot x' t') d') (sym z)
      (subst (λ c. Through N (slot x' s') c (slot x' t') d') (sym f) (through h' y')) in
      let o = through_one N is_net (through h y) other in
      record { enters = z; leaves = o.0; with_one = o.1 }

  row_one : {p p' : NamedPort A} {c c' : Context} {q q' : ℕ} {d d' : Context} → p ≡ p' → c ≡ c' →
      (r : Path N p c q d) (r' : Path N p' c' q' d') → row r ≡ row r'
  row_one e f (ends l) (ends l') = refl
  row_one {p' = p'} e f (ends {q = q} l) (goes {x = x} {s = s} l' h y r) =
      let z : free q ≡ slot x s = is_net.one_link p' (free q) (slot x s)
      (subst (λ p. Linked N p (free q)) e l) l' in
      absurd (cc)
  row_one {p' = p'} e f (goes {x = x} {s = s} l h y r) (ends {q = q} l') =
      let z : slot x s ≡ free q = is_net.one_link p' (slot x s) (free q)
      (subst (λ p. Linked N p (slot x s)) e l) l' in
      absurd (cc)
  row_one e f (goes {x = x} l h (inward b u) r) (goes {x = x'} l' h' (inward b' u') r') =
      let a = alike e f l h (inward b u) l' h' (inward b' u') in
      let z = a.enters in
      let same : x ≡ x' = cc in
      ap (λ x. rise x ∷ row r) same ∙ ap (λ w. rise x' ∷ w) (row_one a.leaves a.with_one r r')
  row_one e f (goes {x = x} l h (inward b u) r) (goes {x = x'} l' h' (outward b' u') r') =
      let z = (alike e f l h (inward b u) l' h' (outward b' u')).enters in
      absurd (cc)
  row_one e f (goes {x = x} l h (outward b u) r) (goes {x = x'} l' h' (inward b' u') r') =
      let z = (alike e f l h (outward b u) l' h' (inward b' u')).enters in
      absurd (cc)
  row_one e f (goes {x = x} l h (outward b u) r) (goes {x = x'} l' h' (outward b' u') r') =
      let a = alike e f l h (outward b u) l' h' (outward b' u') in
      let z = a.enters in
      let same : x ≡ x' = cc in
      ap (λ x. fall x ∷ row r) same ∙ ap (λ w. fall x' ∷ w) (row_one a.leaves a.with_one r r')

  -- ---- one list of places

  head_here : (F : List Frame) (s : Subterm) {n q k : ℕ} {X : Context} {v : HeadVar}
      {ls : List Level} → ((j : ℕ) → j < n → NoPath N s.port (asked s.levels j)) →
      Path N (free s.port) (asked s.levels n) q X →
      Matches (F ++ framed s 0 ∷ []) q X (length F) n v k ls →
      IsHead N (F ++ framed s 0 ∷ []) (length F) (head n v k ls)
  head_here F s {n = n} {q = q} {X = X} few path match =
      let e = frame_last F (framed s 0) in
      heads.leaves (λ j b q' X' t. few j b q' X' (subst (λ (f : Frame).
      Path N (free f.port) (asked f.levels j) q' X') e t))
      (subst (λ (f : Frame). Path N (free f.port) (asked f.levels n) q X) (sym e) path)
      (matched match)

  -- what is read after a place with this head
  abbrev Later : ℕ → List Frame → Subterm → List Subterm → List ReadNode → ℕ → Answer → Type 0
  Later most F s ss ns m (head n v k ls) = AreRead N most (F ++ framed s n ∷ [])
      (arguments (length F) (port_of (F ++ framed s n ∷ []) v) ls 0 k ++ ss) ns m
  Later most F s ss ns m no_head = Unit {0}
  Later most F s ss ns m budget = Unit {0}

  read_one : {most : ℕ} {F : List Frame} {ss : List Subterm} {ns ns' : List ReadNode} {m m' : ℕ} →
      length F + length ns ≤ most → length F + length ns' ≤ most →
      AreRead N most F ss ns m → AreRead N most F ss ns' m' → (ns ≡ ns') × (m ≡ m')
  read_one b b' done done = (refl, refl)
  read_one b b' done (enough c) = (refl, refl)
  read_one b b' (enough c) done = (refl, refl)
  read_one b b' (enough c) (enough c') = (refl, refl)
  read_one b b' (enough c) (place few path match rest) = absurd (omega arith)
  read_one b b' (place few path match rest) (enough c) = absurd (omega arith)
  read_one {most = most} {F = F} b b' (place {s = s} {ss = ss} {ns = ns} {n = n} {k = k} {m = m} {v = v}
      {ls = ls} few path match rest) (place {ns = ns'} {n = n'} {k = k'} {m = m'} {v = v'} {ls = ls'} few' path'
      match' rest') =
      let e : head n v k ls ≡ head n' v' k' ls' =
      head_one N is_net (F ++ framed s 0 ∷ []) (length F) (head n v k ls) (head n' v' k' ls')
      (head_here F s few path match) (head_here F s few' path' match') in
      let lams : n ≡ n' = cc in
      let l = length-append F (framed s n ∷ []) in
      let r = read_one (omega arith) (omega arith) rest
      (subst (Later most F s ss ns' m') (sym e) rest') in
      let w = ap inversions (row_one refl (ap (asked s.levels) lams) path path') in
      let i = r.1 in (
        ap (λ a. place_of a ∷ ns) e ∙ ap (λ ns. node.Head n' v' k' ∷ ns) r.0,
        omega arith,
      )

-- ---- the laws

module _ {A : Type 0} where
  pub inversions_are_one : InversionsAreOne A
  inversions_are_one N is_net most m m' ns ns' b b' r r' =
      read_one N is_net (omega arith) (omega arith) r r'

  pub all_inversions_are_one : AllInversionsAreOne A
  all_inversions_are_one N is_net m m' ns ns' r r' =
      let most = suc (length ns + length ns') in
      read_one N is_net {most = most} (omega arith) (omega arith) (any_most N r (omega arith) most)
      (any_most N r' (omega arith) most)
