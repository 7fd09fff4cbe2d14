-- A term has one count, whatever letters its subterms have.
use Rattle.std.proofs.Common.{◌≡◌, ℕ, suc, ◌+◌, ◌<◌, ◌≤◌, List, [], ◌∷◌, ◌++◌, length, length-append, map, Bool, true, false, Some, None, refl, sym, ap, ◌∙◌, subst, arith, ◌⊎◌, inl, inr}
use Rattle.std.proofs.lemmas.Bool.{cases_order}
use Rattle.std.proofs.lemmas.Option.{none-some}
use Rattle.ol_beta.specs.Beta.{IsPast}
use Rattle.ol_beta.specs.Leftmost.{leftmost}
use Rattle.ol_beta.proofs.Onward.{past_within}
use Rattle.ol_beta.proofs.Redexes.{none_some}
use Rattle.ol_law_edges.specs.Edges.{IsIn}
use Rattle.ol_law_edges.proofs.Lists.{in_map, in_map_of}
use Rattle.ol_law_optimality.specs.HeadFamilies.{HasSoManyDifferent}
use Rattle.ol_law_optimality.specs.Readings.{AreDifferent}
use Rattle.ol_law_optimality.specs.Labels.{Label, Labelled, erased, contracted, degree, LeftmostContracts, ready, contract}
use Rattle.ol_term.specs.Trees.{Tree}
use Rattle.ol_families.specs.Counts.{IsShortLabelled, IsLongLabelled, AreShortLabelled, ReducesLabelled, IsFamilyCount, FamilyCountIsOne, ended, cut, IsCut, all_made, too_large}
use Rattle.ol_families.specs.Letters.{letters_of, most_letters}
use Rattle.ol_families.proofs.Renaming.{renamed, relabelled, numbered, reduces_too, erased_too, letters_in_too, letters_of_too, up_to_letters, AreOneUpToLetters}
use Rattle.ol_families.proofs.Rows.{same_some}
use Rattle.ol_law_optimality.proofs.Counts.{no_more}

-- ---- two reductions of one labelled term

record First {t v : Labelled} {ds : List Label} (r : LeftmostContracts t ds v) : Type 0 where
  at : List ℕ
  next : Labelled
  word : Label
  rest : List Label
  here : leftmost (erased t) ≡ Some at
  has : degree t at ≡ Some word
  becomes : contracted t at ≡ Some next
  is : ds ≡ word ∷ rest
  onward : LeftmostContracts next rest v
  small : AreShortLabelled r → AreShortLabelled onward

first : (t v : Labelled) (ds : List Label) (r : LeftmostContracts t ds v) → 0 < length ds → First r
first t v ds (ready {t = u}) n = absurd (omega (arith, n))
first t v ds (contract {t = s} {u = u} {v = z} {w = d} {ws = es} by k e c r) n = record {
  at = by;
  next = u;
  word = d;
  rest = es;
  here = k;
  has = e;
  becomes = c;
  is = refl;
  onward = r;
  small = λ x. x.1;
}

-- a reduction goes through each other one that isn't longer
record Through {t v : Labelled} {ds : List Label} (r : LeftmostContracts t ds v) (x : Labelled) (es : List Label) :
    Type 0 where
  more : List Label
  is : ds ≡ es ++ more
  onward : LeftmostContracts x more v
  small : AreShortLabelled r → AreShortLabelled onward

through : (t x v : Labelled) (ds es : List Label) (s : LeftmostContracts t es x) (r : LeftmostContracts t ds v) →
    length es ≤ length ds → Through r x es
through t x v ds es (ready {t = u}) r n = record { more = ds; is = refl; onward = r; small = λ z. z }
through t x v ds es (contract {t = t'} {u = u} {v = x'} {w = d} {ws = fs} at l e c s) r n =
    let o : suc (length fs) ≤ length ds = n in
    let f = first t' v ds r (omega (arith, o)) in
    let a : f.at ≡ at = same_some (sym f.here ∙ l) in
    let b : f.next ≡ u = same_some (sym f.becomes ∙ ap (contracted t') a ∙ c) in
    let w : f.word ≡ d = same_some (sym f.has ∙ ap (degree t') a ∙ e) in
    let P : Labelled → Type 0 = λ z. (q : LeftmostContracts z f.rest v) × (AreShortLabelled f.onward → AreShortLabelled q) in
    let m = subst P b (f.onward, λ z. z) in
    let k : length ds ≡ suc (length f.rest) = ap (λ (ds : List Label). length ds) f.is in
    let g = through u x' v f.rest fs s m.0 (omega (arith, o, k)) in
    record {
      more = g.more;
      is = f.is ∙ ap (λ (w : Label). w ∷ f.rest) w ∙ ap (λ (ws : List Label). d ∷ ws) g.is;
      onward = g.onward;
      small = λ z. g.small (m.1 (f.small z));
    }

append_nil : (ls : List Label) → ls ++ [] ≡ ls
append_nil [] = refl
append_nil (x ∷ ls) = ap (λ (ls : List Label). x ∷ ls) (append_nil ls)

no_label : (ds : List Label) → length ds ≡ 0 → ds ≡ []
no_label [] e = refl
no_label (d ∷ ds) e = absurd (omega (arith, e))

-- two reductions of one length are one
record AreOne (x v : Labelled) (ds es : List Label) : Type 0 where
  end : x ≡ v
  degrees : ds ≡ es

at_once : (x v : Labelled) (ds : List Label) → LeftmostContracts x ds v → length ds ≡ 0 → x ≡ v
at_once x v ds (ready {t = t}) e = refl
at_once x v ds (contract at l d c r) e = absurd (omega (arith, e))

one_way : (t x v : Labelled) (ds es : List Label) (s : LeftmostContracts t es x) (r : LeftmostContracts t ds v) →
    length ds ≡ length es → AreOne x v ds es
one_way t x v ds es s r e =
    let h = through t x v ds es s r (omega (arith, e)) in
    let a = ap (λ (ds : List Label). length ds) h.is in
    let b = length-append es h.more in
    let n : length h.more ≡ 0 = omega (arith, a, b, e) in
    record {
      end = at_once x v h.more h.onward n;
      degrees = h.is ∙ ap (λ (more : List Label). es ++ more) (no_label h.more n) ∙ append_nil es;
    }

first_small : (x v : Labelled) (ds : List Label) (r : LeftmostContracts x ds v) → AreShortLabelled r → IsShortLabelled x
first_small x v ds (ready {t = t}) s = s
first_small x v ds (contract {t = t} at l e c r) s = s.0

letters_append : (ds es : List Label) → letters_of (ds ++ es) ≡ letters_of ds + letters_of es
letters_append [] es = omega arith
letters_append (d ∷ ds) es = let e = letters_append ds es in omega arith

not_both : (x : Labelled) → IsShortLabelled x → IsLongLabelled x → ⊥
not_both x s (inl p) = past_within (erased x) p s.0
not_both x s (inr p) = let b = s.1 in absurd (omega (arith, p, b))

-- ---- how many different ones there are

one_number : (ds : List Label) (n m : ℕ) → HasSoManyDifferent ds n → HasSoManyDifferent ds m → n ≡ m
one_number ds n m (es, d, s, e) (fs, c, r, f) =
    let a = no_more es fs d (λ x i. (r x).1 ((s x).0 i)) in
    let b = no_more fs es c (λ x i. (s x).1 ((r x).0 i)) in
    omega (arith, a, b, e, f)

length_map : (f : Label → Label) (ds : List Label) → length (map f ds) ≡ length ds
length_map f [] = refl
length_map f (d ∷ ds) = ap suc (length_map f ds)

module _ (f g : Label → Label) where
  fixed : (ds : List Label) → ds ≡ map g (map f ds) → (e : Label) → IsIn e ds → g (f e) ≡ e
  fixed [] q e i = absurd i
  fixed (d ∷ ds) q e (inl i) =
      let h : d ≡ g (f d) = cc in ap (λ (e : Label). g (f e)) i ∙ sym h ∙ sym i
  fixed (d ∷ ds) q e (inr i) = fixed ds (cc) e i

  different_map : (es : List Label) → ((e : Label) → IsIn e es → g (f e) ≡ e) → AreDifferent es → AreDifferent (map f es)
  different_map [] h d = tt
  different_map (e ∷ es) h d = (
    (λ i. let x = in_map_of f (f e) es i in
        d.0 (subst (λ (z : Label). IsIn z es) (sym (h x.0 (inr x.1)) ∙ ap g (sym x.2) ∙ h e (inl refl)) x.1)),
    different_map es (λ x i. h x (inr i)) d.1,
  )

  in_maps : (es ds : List Label) → ((e : Label) → IsIn e es → IsIn e ds) → (e : Label) → IsIn e (map f es) →
      IsIn e (map f ds)
  in_maps es ds h e i = let x = in_map_of f e es i in
      subst (λ (e : Label). IsIn e (map f ds)) (sym x.2) (in_map f x.0 ds (h x.0 x.1))

  count_map : (ds : List Label) (n : ℕ) → ds ≡ map g (map f ds) → HasSoManyDifferent ds n →
      HasSoManyDifferent (map f ds) n
  count_map ds n q (es, d, s, e) = (
    map f es,
    different_map es (λ x i. fixed ds q x ((s x).0 i)) d,
    (λ x. (in_maps es ds (λ z i. (s z).0 i) x, in_maps ds es (λ z i. (s z).1 i) x)),
    e ∙ sym (length_map f es),
  )

-- ---- the same reduction, with numbers in preorder for letters

record Canonical {t : Tree} {most : ℕ} {ds : List Label} {v : Labelled} (r : ReducesLabelled t most ds v) : Type 0 where
  names : ℕ → ℕ
  reduction : LeftmostContracts (numbered 0 t) (map (λ w. renamed names w) ds) (relabelled names v)
  small : AreShortLabelled reduction
  count : (n : ℕ) → HasSoManyDifferent ds n → HasSoManyDifferent (map (λ w. renamed names w) ds) n

canonical_by : (t : Tree) (most : ℕ) (ds : List Label) (v : Labelled) (r : ReducesLabelled t most ds v) →
    AreOneUpToLetters r.start (erased r.start) → Canonical r
canonical_by t most ds v r u =
    let too = reduces_too u.there r.start v ds r.reduction in
    let es = map (λ w. renamed u.there w) ds in
    let x = relabelled u.there v in
    let P : Labelled → Type 0 = λ T. (q : LeftmostContracts T es x) × (AreShortLabelled r.reduction → AreShortLabelled q) in
    let Q : Labelled → Type 0 = λ T. LeftmostContracts T es x in
    let m = subst P (u.was ∙ ap (numbered 0) r.is) (too.reduction, too.small) in
    let back = reduces_too u.back (numbered 0 (erased r.start)) x es (subst Q u.was too.reduction) in
    let y = relabelled u.back x in
    let S : Labelled → Type 0 = λ T. LeftmostContracts T (map (λ w. renamed u.back w) es) y in
    let q = subst S u.is back.reduction in
    record {
      names = u.there;
      reduction = m.0;
      small = m.1 r.short;
      count = λ k h. count_map (λ w. renamed u.there w) (λ w. renamed u.back w) ds k
          (one_way r.start y v ds (map (λ w. renamed u.back w) es) q r.reduction
          (sym (length_map (λ w. renamed u.back w) es ∙ length_map (λ w. renamed u.there w) ds))).degrees h;
    }

canonical : (t : Tree) (most : ℕ) (ds : List Label) (v : Labelled) (r : ReducesLabelled t most ds v) → Canonical r
canonical t most ds v r = canonical_by t most ds v r (up_to_letters r.start r.own)

leftmost_too : (ρ : ℕ → ℕ) (v : Labelled) → leftmost (erased (relabelled ρ v)) ≡ leftmost (erased v)
leftmost_too ρ v = ap leftmost (erased_too ρ v)

long_too : (ρ : ℕ → ℕ) (x : Labelled) → IsLongLabelled x → IsLongLabelled (relabelled ρ x)
long_too ρ x (inl p) = inl (subst IsPast (sym (erased_too ρ x)) p)
long_too ρ x (inr p) = let e = letters_in_too ρ x in inr (omega (arith, e, p))

-- what is cut has a redex left
redex_left : (most : ℕ) (ds : List Label) (v : Labelled) → IsCut most ds v → leftmost (erased v) ≡ None → ⊥
redex_left most ds v (all_made l s) n = none_some (leftmost (erased v)) n s
redex_left most ds v (too_large {at = at} l e c p) n = none-some at (sym n ∙ l)

-- a reduction ends in a normal form, or is cut
abbrev Stops : ℕ → List Label → Labelled → Bool → Type 0
Stops most ds v true = leftmost (erased v) ≡ None
Stops most ds v false = IsCut most ds v

record Counted (t : Tree) (most n : ℕ) (b : Bool) : Type 0 where
  degrees : List Label
  end : Labelled
  reduction : ReducesLabelled t most degrees end
  stops : Stops most degrees end b
  different : HasSoManyDifferent degrees n

counted : (t : Tree) (most n : ℕ) (b : Bool) → IsFamilyCount t most n b → Counted t most n b
counted t most n true (ended {ds = ds} {v = v} r e h) = record {
  degrees = ds;
  end = v;
  reduction = r;
  stops = e;
  different = h;
}
counted t most n false (cut {ds = ds} {v = v} r e h) = record {
  degrees = ds;
  end = v;
  reduction = r;
  stops = e;
  different = h;
}

module _ (t : Tree) (most : ℕ) (ds es : List Label) (v x : Labelled) (r : ReducesLabelled t most ds v)
    (s : ReducesLabelled t most es x) where
  abbrev c : Canonical r
  c = canonical t most ds v r

  abbrev d : Canonical s
  d = canonical t most es x s

  abbrev renamed_ds : List Label
  renamed_ds = map (λ w. renamed c.names w) ds

  abbrev renamed_es : List Label
  renamed_es = map (λ w. renamed d.names w) es

  abbrev v' : Labelled
  v' = relabelled c.names v

  abbrev x' : Labelled
  x' = relabelled d.names x

  one_end : length ds ≡ length es → AreOne x' v' renamed_ds renamed_es
  one_end e = one_way (numbered 0 t) x' v' renamed_ds renamed_es d.reduction c.reduction
      (length_map (λ w. renamed c.names w) ds ∙ e ∙ sym (length_map (λ w. renamed d.names w) es))

  one_leftmost : length ds ≡ length es → leftmost (erased x) ≡ leftmost (erased v)
  one_leftmost e = sym (leftmost_too d.names x) ∙ ap (λ (t : Labelled). leftmost (erased t)) (one_end e).end
      ∙ leftmost_too c.names v

  one_different : length ds ≡ length es → (n m : ℕ) → HasSoManyDifferent ds n → HasSoManyDifferent es m → n ≡ m
  one_different e n m h k =
      one_number renamed_es n m (subst (λ (ds : List Label). HasSoManyDifferent ds n) (one_end e).degrees (c.count n h))
      (d.count m k)

  -- the first is longer than the second
  module _ (l : length es < length ds) where
    way : Through c.reduction x' renamed_es
    way = through (numbered 0 t) x' v' renamed_ds renamed_es d.reduction c.reduction
        (let a = length_map (λ w. renamed c.names w) ds in let b = length_map (λ w. renamed d.names w) es in
        omega (arith, a, b, l))

    some_more : 0 < length way.more
    some_more =
        let a = length_map (λ w. renamed c.names w) ds in
        let b = length_map (λ w. renamed d.names w) es in
        let e = ap (λ (ds : List Label). length ds) way.is in
        let f = length-append renamed_es way.more in
        omega (arith, a, b, e, f, l)

    not_normal : leftmost (erased x) ≡ None → ⊥
    not_normal n =
        let f = first x' v' way.more way.onward some_more in
        none-some f.at (sym (leftmost_too d.names x ∙ n) ∙ f.here)

    not_long : (at : List ℕ) (w : Label) (u : Labelled) → leftmost (erased x) ≡ Some at → degree x at ≡ Some w →
        contracted x at ≡ Some u → IsLongLabelled u ⊎ (most_letters < letters_of (es ++ w ∷ [])) → ⊥
    not_long at w u i j k p =
        let o : LeftmostContracts x (w ∷ []) u = contract at i j k ready in
        let too = reduces_too d.names x u (w ∷ []) o in
        let u' = relabelled d.names u in
        let b : length (map (λ w. renamed d.names w) (w ∷ [])) ≤ length way.more = some_more in
        let h = through x' u' v' way.more (map (λ w. renamed d.names w) (w ∷ [])) too.reduction way.onward b in
        elim p [
          | inl q ↦ not_both u' (first_small u' v' h.more h.onward (h.small (way.small c.small))) (long_too d.names u q)
          | inr q ↦
              let a = letters_of_too c.names ds in
              let e = letters_of_too d.names es in
              let f = letters_of_too d.names (w ∷ []) in
              let g = ap letters_of way.is in
              let y = letters_append renamed_es way.more in
              let z = ap letters_of h.is in
              let m = letters_append (map (λ w. renamed d.names w) (w ∷ [])) h.more in
              let n = letters_append es (w ∷ []) in
              let few = r.few in
              absurd (omega (arith, a, e, f, g, y, z, m, n, few, q))
        ]

    not_cut : IsCut most es x → ⊥
    not_cut (all_made e i) = let m = r.made in absurd (omega (arith, e, m, l))
    not_cut (too_large {at = at} {d = w} {u = u} i j k p) = not_long at w u i j k p

    not_longer : (b : Bool) → Stops most es x b → ⊥
    not_longer true n = not_normal n
    not_longer false n = not_cut n

one_stop : (most : ℕ) (ds es : List Label) (v x : Labelled) (a b : Bool) → leftmost (erased x) ≡ leftmost (erased v) →
    Stops most ds v a → Stops most es x b → a ≡ b
one_stop most ds es v x true true e p q = refl
one_stop most ds es v x true false e p q = absurd (redex_left most es x q (e ∙ p))
one_stop most ds es v x false true e p q = absurd (redex_left most ds v p (sym e ∙ q))
one_stop most ds es v x false false e p q = refl

module _ (t : Tree) (most n m : ℕ) (a b : Bool) (c : Counted t most n a) (d : Counted t most m b) where
  one_count : (length c.degrees ≡ length d.degrees)
      ⊎ ((length c.degrees < length d.degrees) ⊎ (length d.degrees < length c.degrees)) → (n ≡ m) × (a ≡ b)
  one_count (inl e) = (
    one_different t most c.degrees d.degrees c.end d.end c.reduction d.reduction e n m c.different d.different,
    one_stop most c.degrees d.degrees c.end d.end a b
        (one_leftmost t most c.degrees d.degrees c.end d.end c.reduction d.reduction e) c.stops d.stops,
  )
  one_count (inr (inl l)) =
      absurd (not_longer t most d.degrees c.degrees d.end c.end d.reduction c.reduction l a c.stops)
  one_count (inr (inr l)) =
      absurd (not_longer t most c.degrees d.degrees c.end d.end c.reduction d.reduction l b d.stops)

pub count_is_one : FamilyCountIsOne
count_is_one t most n m a b h k =
    let c = counted t most n a h in
    let d = counted t most m b k in
    one_count t most n m a b c d (cases_order (length c.degrees) (length d.degrees))
