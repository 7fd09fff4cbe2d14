-- Where the subterms of a term have letters of their own, the edges of its net have different letters.
use Rattle.std.proofs.Common.{◌≡◌, ℕ, zero, suc, ◌+◌, ◌<◌, ◌≤◌, nat_eq, nat_lt, eq-eqb, true, false, if◌then◌else◌}
use Rattle.std.proofs.Common.{◌⊎◌, inl, inr, List, [], ◌∷◌, ◌++◌, length, length-append, Option, None, Some}
use Rattle.std.proofs.Common.{refl, sym, ap, ◌∙◌, subst, arith}
use Rattle.std.proofs.lemmas.Bool.Decides.{nat_tests}
use Rattle.ol_law_edges.specs.Edges.{IsIn}
use Rattle.ol_law_edges.proofs.Lists.{in_left, in_right}
use Rattle.ol_net.specs.Numbered.{numbered_from}
use Rattle.ol_net.specs.declared.parts.Kind.{Kind}
use Rattle.ol_net.specs.declared.parts.Kind.TheVariants as kind
use Rattle.ol_net.specs.declared.parts.Port.{Port}
use Rattle.ol_law_optimality.specs.Labels.{Label, none, atom, over, under, Labelled, var, free, lam, app, erased}
use Rattle.ol_term.specs.declared.translations.Translation.{Translation}
use Rattle.ol_translate.specs.Translation.{Subnet, subnet_of, erasers, bracket_nodes, past_brackets, fans, fan_nodes}
use Rattle.ol_translate.specs.Translation.{merged, applied, bare_variable, wire_of, slot_port, translation_of}
use Rattle.ol_law_optimality.specs.Families.{labels_in, HaveOwnLetters, IsLetter}
use Rattle.ol_law_optimality.proofs.Hearing.{AreLettered}
use Rattle.ol_law_optimality.specs.Readings.{label_of, AreDifferent}
use Rattle.ol_law_optimality.proofs.Phases.{has_letter, HaveLetters}
use Rattle.ol_law_meaning.proofs.Bare.{no_lam, no_app}

abbrev Nodes : Type 0
Nodes = List (Kind × ℕ)

-- ---- nodes by their numbers

in_range : (x i : ℕ) (K : Kind) (k : ℕ) (ns : Nodes) → IsIn {X = ℕ × Kind × ℕ} (x, K, i) (numbered_from k ns) →
    (k ≤ x) × (x < k + length ns)
in_range x i K k [] h = absurd h
in_range x i K k (n ∷ ns) (inl e) = let q : x ≡ k = ap (λ (p : ℕ × Kind × ℕ). p.0) e in ((omega arith), (omega arith))
in_range x i K k (n ∷ ns) (inr h) = let r = in_range x i K (suc k) ns h in let a = r.0 in let b = r.1 in
    ((omega arith), (omega arith))

in_parts : (x i : ℕ) (K : Kind) (k : ℕ) (ns ms : Nodes) → IsIn {X = ℕ × Kind × ℕ} (
  x,
  K,
  i,
) (numbered_from k (ns ++ ms)) →
    IsIn {X = ℕ × Kind × ℕ} (x, K, i) (numbered_from k ns) ⊎ IsIn {X = ℕ × Kind × ℕ} (
      x,
      K,
      i,
    ) (numbered_from (k + length ns) ms)
in_parts x i K k [] ms h = let e : k ≡ k + 0 = omega arith in
    inr (subst (λ k. IsIn {X = ℕ × Kind × ℕ} (x, K, i) (numbered_from k ms)) e h)
in_parts x i K k (n ∷ ns) ms (inl e) = inl (inl e)
in_parts x i K k (n ∷ ns) ms (inr h) = elim (in_parts x i K (suc k) ns ms h) [
  | inl j ↦ inl (inr j)
  | inr j ↦ (let e : suc k + length ns ≡ k + suc (length ns) = omega arith in
      inr (subst (λ k. IsIn {X = ℕ × Kind × ℕ} (x, K, i) (numbered_from k ms)) e j))
]

-- nodes of sharing, and erasers
abbrev Quiets : Nodes → Type 0
Quiets [] = Unit {0}
Quiets (n ∷ ns) = ((s : ℕ) → has_letter n.0 s ≡ false) × Quiets ns

quiets_append : (ns ms : Nodes) → Quiets ns → Quiets ms → Quiets (ns ++ ms)
quiets_append [] ms a b = b
quiets_append (n ∷ ns) ms a b = (a.0, quiets_append ns ms a.1 b)

quiet_brackets : (n : ℕ) (ws : List (ℕ × Port)) → Quiets (bracket_nodes n ws)
quiet_brackets n [] = tt
quiet_brackets n (w ∷ ws) = ((λ s. refl), quiet_brackets n ws)

quiet_fan : (n : ℕ) (x : Option Port) → Quiets (fan_nodes n x)
quiet_fan n None = tt
quiet_fan n (Some p) = ((λ s. refl), tt)

quiet_fans : (n f : ℕ) (ws more : List (ℕ × Port)) → Quiets (fans n f ws more).nodes
quiet_fans n f ws [] = tt
quiet_fans n f ws (w ∷ more) =
    let x = wire_of w.0 ws in
    quiets_append (fan_nodes n x) _ (quiet_fan n x) (quiet_fans n (f + length (fan_nodes n x)) (merged f x w ws) more)

quiet_erasers : (x : Option Port) → Quiets (erasers x)
quiet_erasers None = ((λ s. refl), tt)
quiet_erasers (Some p) = tt

no_letter : (x i s : ℕ) (K : Kind) (k : ℕ) (ns : Nodes) → Quiets ns →
    IsIn {X = ℕ × Kind × ℕ} (x, K, i) (numbered_from k ns) →
    has_letter K s ≡ true → ⊥
no_letter x i s K k [] q h e = h
no_letter x i s K k (n ∷ ns) q (inl d) e =
    let t : has_letter K s ≡ has_letter n.0 s = ap (λ (p : ℕ × Kind × ℕ). has_letter p.1 s) d in
    let clash : false ≡ true = sym (q.0 s) ∙ sym t ∙ e in absurd (cc)
no_letter x i s K k (n ∷ ns) q (inr h) e = no_letter x i s K (suc k) ns q.1 h e

-- ---- labels

record Apart (xs ys : List Label) : Type 0 where
  first : AreDifferent xs
  second : AreDifferent ys
  none_in_both : (x : Label) → IsIn x xs → IsIn x ys → ⊥

apart : (xs ys : List Label) → AreDifferent (xs ++ ys) → Apart xs ys
apart [] ys d = record { first = tt; second = d; none_in_both = λ x h k. h }
apart (x ∷ xs) ys d =
    let r = apart xs ys d.1 in
    record { first = ((λ h. d.0 (in_left x xs ys h)), r.first); second = r.second; none_in_both = both r }
  where
    both : Apart xs ys → (y : Label) → IsIn y (x ∷ xs) → IsIn y ys → ⊥
    both r y (inl e) k = d.0 (in_right x xs ys (subst (λ y. IsIn y ys) e k))
    both r y (inr h) k = r.none_in_both y h k

-- the labels of the proper subterms
abbrev parts_in : Labelled → List Label
parts_in (var k w) = []
parts_in (free k w) = []
parts_in (lam b w) = labels_in b
parts_in (app f a w) = labels_in f ++ labels_in a

first_in : (T : Labelled) → labels_in T ≡ label_of T ∷ parts_in T
first_in (var k w) = refl
first_in (free k w) = refl
first_in (lam b w) = refl
first_in (app f a w) = refl

own_in : (T : Labelled) → IsIn (label_of T) (labels_in T)
own_in T = subst (λ xs. IsIn (label_of T) xs) (sym (first_in T)) (inl refl)

part_in : (T : Labelled) (v : Label) → IsIn v (parts_in T) → IsIn v (labels_in T)
part_in T v h = subst (λ xs. IsIn v xs) (sym (first_in T)) (inr h)

not_own : (T : Labelled) → AreDifferent (labels_in T) → IsIn (label_of T) (parts_in T) → ⊥
not_own T d h = (subst AreDifferent (first_in T) d).0 h

abbrev letter_in_label : Label → ℕ
letter_in_label none = 0
letter_in_label (atom n w) = n
letter_in_label (over v w) = 0
letter_in_label (under v w) = 0

is_its_letter : (v : Label) → IsLetter v → v ≡ atom (letter_in_label v) none
is_its_letter v (n, e) = e ∙ ap (λ v. atom (letter_in_label v) none) (sym e)

abbrev AllLetters : Labelled → Type 0
AllLetters T = (v : Label) → IsIn v (labels_in T) → IsLetter v

module _ (τ : Translation) where
  abbrev nodes : Labelled → (d n k : ℕ) → Nodes
  nodes T d n k = (subnet_of τ (erased T) d n k).nodes

  abbrev after : Labelled → (d n k : ℕ) → ℕ
  after f d n k = k + 1 + length (nodes f d n (k + 1))

  -- the letter of slot s of node x
  abbrev letter_of_edge : Labelled → (d n k x s : ℕ) → ℕ
  letter_of_edge (var y w) d n k x s = 0
  letter_of_edge (free f w) d n k x s = 0
  letter_of_edge (lam b w) d n k x s = if nat_eq x k then letter_in_label (label_of b) else letter_of_edge b
      (d + 1) n (k + 1) x s
  letter_of_edge (app f a w) d n k x s =
      if nat_eq x k then (if nat_eq s 0 then letter_in_label (label_of f) else letter_in_label (label_of a))
      else if nat_lt x (k + 1 + length (subnet_of τ (erased f) d n (k + 1)).nodes) then letter_of_edge f d n (k + 1) x s
      else letter_of_edge a d (n + 1) (k + 1 + length (subnet_of τ (erased f) d n (k + 1)).nodes) x s

  record EdgeIn (ns : Nodes) (k x s : ℕ) : Type 0 where
    kind_is : Kind
    index : ℕ
    there : IsIn {X = ℕ × Kind × ℕ} (x, kind_is, index) (numbered_from k ns)
    has : has_letter kind_is s ≡ true

  from_next : (k x i : ℕ) (K : Kind) (ns : Nodes) → IsIn {X = ℕ × Kind × ℕ} (x, K, i) (numbered_from (suc k) ns) →
      IsIn {X = ℕ × Kind × ℕ} (x, K, i) (numbered_from (k + 1) ns)
  from_next k x i K ns h = let e : suc k ≡ k + 1 = omega arith in subst (λ k. IsIn {X = ℕ × Kind × ℕ} (
    x,
    K,
    i,
  ) (numbered_from k ns)) e h

  lam_slot : (s : ℕ) → has_letter kind.Lam s ≡ true → s ≡ 1
  lam_slot zero e = absurd (cc)
  lam_slot (suc zero) e = refl
  lam_slot (suc (suc s)) e = absurd (cc)

  app_slot : (s : ℕ) → has_letter kind.App s ≡ true → (s ≡ 0) ⊎ (s ≡ 2)
  app_slot zero e = inl refl
  app_slot (suc zero) e = absurd (cc)
  app_slot (suc (suc zero)) e = inr refl
  app_slot (suc (suc (suc s))) e = absurd (cc)

  -- ---- where an edge is

  data InLam (b : Labelled) (d n k x s : ℕ) : Type 0 where
    own : x ≡ k → s ≡ 1 → InLam b d n k x s
    inside : EdgeIn (nodes b (d + 1) n (k + 1)) (k + 1) x s → InLam b d n k x s

  in_lam : (b : Labelled) (w : Label) (d n k x s : ℕ) → EdgeIn (nodes (lam b w) d n k) k x s → InLam b d n k x s
  in_lam b w d n k x s e =
      by (in_parts x e.index e.kind_is k ((kind.Lam, n) ∷ nodes b (d + 1) n (k + 1)) _ e.there)
    where
      by : IsIn {X = ℕ × Kind × ℕ} (x, e.kind_is, e.index) (numbered_from k ((kind.Lam, n) ∷ nodes b (d + 1) n (k + 1)))
          ⊎ IsIn {X = ℕ × Kind × ℕ} (x, e.kind_is, e.index) (numbered_from (k + length ((
            kind.Lam,
            n,
          ) ∷ nodes b (d + 1) n (k + 1)))
          (erasers (wire_of 0 (subnet_of τ (erased b) (d + 1) n (k + 1)).wires))) → InLam b d n k x s
      by (inr h) = absurd (no_letter x e.index s e.kind_is _ (erasers (wire_of 0 (subnet_of τ (erased b)
          (d + 1) n (k + 1)).wires))
          (quiet_erasers (wire_of 0 (subnet_of τ (erased b) (d + 1) n (k + 1)).wires)) h e.has)
      by (inl (inl q)) = own (ap (λ (p : ℕ × Kind × ℕ). p.0) q)
          (lam_slot s (ap (λ (p : ℕ × Kind × ℕ). has_letter p.1 s) (sym q) ∙ e.has))
      by (inl (inr h)) = inside (record {
        kind_is = e.kind_is;
        index = e.index;
        there = from_next k x e.index e.kind_is (nodes b (d + 1) n (k + 1)) h;
        has = e.has;
      })

  data InApp (f a : Labelled) (d n k x s : ℕ) : Type 0 where
    function : x ≡ k → s ≡ 0 → InApp f a d n k x s
    argument : x ≡ k → s ≡ 2 → InApp f a d n k x s
    in_f : EdgeIn (nodes f d n (k + 1)) (k + 1) x s → InApp f a d n k x s
    in_a : EdgeIn (nodes a d (n + 1) (after f d n k)) (after f d n k) x s → InApp f a d n k x s

  at_app : (f a : Labelled) (d n k x s i : ℕ) (K : Kind) → ◌≡◌ {A = ℕ × Kind × ℕ} (x, K, i) (k, kind.App, n) →
      has_letter K s ≡ true →
      InApp f a d n k x s
  at_app f a d n k x s i K q h = elim (app_slot s (ap (λ (p : ℕ × Kind × ℕ). has_letter p.1 s) (sym q) ∙ h)) [
    | inl z ↦ function (ap (λ (p : ℕ × Kind × ℕ). p.0) q) z
    | inr z ↦ argument (ap (λ (p : ℕ × Kind × ℕ). p.0) q) z
  ]

  in_head : (f a : Labelled) (d n k x s i : ℕ) (K : Kind) → has_letter K s ≡ true →
      IsIn {X = ℕ × Kind × ℕ} (x, K, i) (numbered_from k ((kind.App, n) ∷ nodes f d n (k + 1))) → InApp f a d n k x s
  in_head f a d n k x s i K h (inl q) = at_app f a d n k x s i K q h
  in_head f a d n k x s i K h (inr j) =
      in_f (record { kind_is = K; index = i; there = from_next k x i K (nodes f d n (k + 1)) j; has = h })

  in_app : (o : Option ℕ) (f a : Labelled) (d n k x s : ℕ) →
      EdgeIn (applied n k o (subnet_of τ (erased f) d n (k + 1)) (subnet_of τ (erased a) d (n + 1)
      (after f d n k))).nodes k x s →
      InApp f a d n k x s
  in_app None f a d n k x s e =
      by (in_parts x e.index e.kind_is k (((kind.App, n) ∷ nodes f d n (k + 1)) ++ nodes a d (n + 1)
      (after f d n k)) _ e.there)
    where
      Q : Subnet
      Q = subnet_of τ (erased a) d (n + 1) (after f d n k)

      head : IsIn {X = ℕ × Kind × ℕ} (x, e.kind_is, e.index) (numbered_from k ((kind.App, n) ∷ nodes f d n (k + 1)))
          ⊎ IsIn {X = ℕ × Kind × ℕ} (x, e.kind_is, e.index) (numbered_from (k + length ((
            kind.App,
            n,
          ) ∷ nodes f d n (k + 1))) (nodes a d (n + 1) (after f d n k))) →
          InApp f a d n k x s
      head (inl h) = in_head f a d n k x s e.index e.kind_is e.has h
      head (inr h) = in_a (record {
        kind_is = e.kind_is;
        index = e.index;
        there = (let q : k + suc (length (nodes f d n (k + 1))) ≡ k + 1 + length (nodes f d n (k + 1)) = omega arith in
            subst (λ j. IsIn {X = ℕ × Kind × ℕ} (
              x,
              e.kind_is,
              e.index,
            ) (numbered_from j (nodes a d (n + 1) (after f d n k)))) q h);
        has = e.has;
      })

      by : IsIn {X = ℕ × Kind × ℕ} (x, e.kind_is, e.index) (numbered_from k (((
        kind.App,
        n,
      ) ∷ nodes f d n (k + 1)) ++ nodes a d (n + 1) (after f d n k)))
          ⊎ IsIn {X = ℕ × Kind × ℕ} (x, e.kind_is, e.index) (numbered_from (k + length (((
            kind.App,
            n,
          ) ∷ nodes f d n (k + 1)) ++ nodes a d (n + 1) (after f d n k)))
          (bracket_nodes n (subnet_of τ (erased a) d (n + 1) (after f d n k)).wires
          ++ (fans n (after f d n k + length (nodes a d (n + 1) (after f d n k)) + length (subnet_of τ
          (erased a) d (n + 1) (after f d n k)).wires)
          (subnet_of τ (erased f) d n (k + 1)).wires (past_brackets (after f d n k + length (nodes a d (n + 1)
          (after f d n k)))
          (subnet_of τ (erased a) d (n + 1) (after f d n k)).wires)).nodes)) → InApp f a d n k x s
      by (inl h) = head (in_parts x e.index e.kind_is k ((
        kind.App,
        n,
      ) ∷ nodes f d n (k + 1)) (nodes a d (n + 1) (after f d n k)) h)
      by (inr h) = absurd (no_letter x e.index s e.kind_is _ _
          (quiets_append (bracket_nodes n (subnet_of τ (erased a) d (n + 1) (after f d n k)).wires) _
          (quiet_brackets n (subnet_of τ (erased a) d (n + 1) (after f d n k)).wires)
          (quiet_fans n (after f d n k + length (nodes a d (n + 1) (after f d n k)) + length (subnet_of τ
          (erased a) d (n + 1) (after f d n k)).wires)
          (subnet_of τ (erased f) d n (k + 1)).wires (past_brackets (after f d n k + length (nodes a d (n + 1)
          (after f d n k)))
          (subnet_of τ (erased a) d (n + 1) (after f d n k)).wires))) h e.has)
  in_app (Some y) f a d n k x s e =
      by (in_parts x e.index e.kind_is k ((kind.App, n) ∷ nodes f d n (k + 1)) _ e.there)
    where
      by : IsIn {X = ℕ × Kind × ℕ} (x, e.kind_is, e.index) (numbered_from k ((kind.App, n) ∷ nodes f d n (k + 1)))
          ⊎ IsIn {X = ℕ × Kind × ℕ} (x, e.kind_is, e.index) (numbered_from (k + length ((
            kind.App,
            n,
          ) ∷ nodes f d n (k + 1)))
          (fans n (after f d n k) (subnet_of τ (erased f) d n (k + 1)).wires ((y, slot_port k 2) ∷ [])).nodes) →
          InApp f a d n k x s
      by (inl h) = in_head f a d n k x s e.index e.kind_is e.has h
      by (inr h) = absurd (no_letter x e.index s e.kind_is _ _
          (quiet_fans n (after f d n k) (subnet_of τ (erased f) d n (k + 1)).wires ((y, slot_port k 2) ∷ [])) h e.has)

  -- ---- the letter of an edge is that of a proper subterm

  abbrev Label' : Labelled → (d n k x s : ℕ) → Label
  Label' T d n k x s = atom (letter_of_edge T d n k x s) none

  range : {ns : Nodes} {k x s : ℕ} (e : EdgeIn ns k x s) → (k ≤ x) × (x < k + length ns)
  range {ns} {k} {x} e = in_range x e.index e.kind_is k ns e.there

  lam_own : (b : Labelled) (w : Label) (d n k x s : ℕ) → x ≡ k → AllLetters b → Label' (lam b w) d n k x s ≡ label_of b
  lam_own b w d n k x s e l = rw (eq-eqb x k e) (sym (is_its_letter (label_of b) (l (label_of b) (own_in b))))

  lam_inside : (b : Labelled) (w : Label) (d n k x s : ℕ) → EdgeIn (nodes b (d + 1) n (k + 1)) (k + 1) x s →
      letter_of_edge (lam b w) d n k x s ≡ letter_of_edge b (d + 1) n (k + 1) x s
  lam_inside b w d n k x s e =
      let r = (range e).0 in
      let off : nat_eq x k ≡ false = grind (arith, nat_tests, r) in rw off refl

  app_function : (f a : Labelled) (w : Label) (d n k x s : ℕ) → x ≡ k → s ≡ 0 → AllLetters f →
      Label' (app f a w) d n k x s ≡ label_of f
  app_function f a w d n k x s e z l =
      rw (eq-eqb x k e) (rw (eq-eqb s 0 z) (sym (is_its_letter (label_of f) (l (label_of f) (own_in f)))))

  app_argument : (f a : Labelled) (w : Label) (d n k x s : ℕ) → x ≡ k → s ≡ 2 → AllLetters a →
      Label' (app f a w) d n k x s ≡ label_of a
  app_argument f a w d n k x s e z l =
      let off : nat_eq s 0 ≡ false = grind (arith, nat_tests, z) in
      rw (eq-eqb x k e) (rw off (sym (is_its_letter (label_of a) (l (label_of a) (own_in a)))))

  app_in_f : (f a : Labelled) (w : Label) (d n k x s : ℕ) → EdgeIn (nodes f d n (k + 1)) (k + 1) x s →
      letter_of_edge (app f a w) d n k x s ≡ letter_of_edge f d n (k + 1) x s
  app_in_f f a w d n k x s e =
      let r = range e in
      let low = r.0 in
      let high = r.1 in
      let off : nat_eq x k ≡ false = grind (arith, nat_tests, low) in
      let less : nat_lt x (k + 1 + length (nodes f d n (k + 1))) ≡ true = grind (arith, nat_tests, high) in
      rw off (rw less refl)

  app_in_a : (f a : Labelled) (w : Label) (d n k x s : ℕ) → EdgeIn (nodes a d (n + 1) (after f d n k))
      (after f d n k) x s →
      letter_of_edge (app f a w) d n k x s ≡ letter_of_edge a d (n + 1) (after f d n k) x s
  app_in_a f a w d n k x s e =
      let low = (range e).0 in
      let off : nat_eq x k ≡ false = grind (arith, nat_tests, low) in
      let more : nat_lt x (k + 1 + length (nodes f d n (k + 1))) ≡ false = grind (arith, nat_tests, low) in
      rw off (rw more refl)

  -- ---- so edges with one letter are one

  all_lam : (b : Labelled) (w : Label) → AllLetters (lam b w) → AllLetters b
  all_lam b w l v h = l v (inr h)

  all_function : (f a : Labelled) (w : Label) → AllLetters (app f a w) → AllLetters f
  all_function f a w l v h = l v (inr (in_left v (labels_in f) (labels_in a) h))

  all_argument : (f a : Labelled) (w : Label) → AllLetters (app f a w) → AllLetters a
  all_argument f a w l v h = l v (inr (in_right v (labels_in f) (labels_in a) h))

  known : (T : Labelled) (d n k x s : ℕ) → AllLetters T → EdgeIn (nodes T d n k) k x s →
      IsIn (Label' T d n k x s) (parts_in T)
  known (var y w) d n k x s l e = absurd (no_letter x e.index s e.kind_is k ((
    kind.Croissant,
    n,
  ) ∷ []) ((λ s. refl), tt) e.there e.has)
  known (free f w) d n k x s l e = absurd (no_letter x e.index s e.kind_is k ((
    kind.Croissant,
    n,
  ) ∷ []) ((λ s. refl), tt) e.there e.has)
  known (lam b w) d n k x s l e = by (λ i. known b (d + 1) n (k + 1) x s (all_lam b w l) i) (in_lam b w d n k x s e)
    where
      by : (EdgeIn (nodes b (d + 1) n (k + 1)) (k + 1) x s → IsIn (Label' b (d + 1) n (k + 1) x s) (parts_in b)) →
          InLam b d n k x s → IsIn (Label' (lam b w) d n k x s) (labels_in b)
      by rec (own q z) = subst (λ v. IsIn v (labels_in b)) (sym (lam_own b w d n k x s q (all_lam b w l))) (own_in b)
      by rec (inside i) = subst (λ m. IsIn (atom m none) (labels_in b)) (sym (lam_inside b w d n k x s i))
          (part_in b (Label' b (d + 1) n (k + 1) x s) (rec i))
  known (app f a w) d n k x s l e =
      by (λ i. known f d n (k + 1) x s (all_function f a w l) i)
      (λ i. known a d (n + 1) (after f d n k) x s (all_argument f a w l) i)
      (in_app (bare_variable τ d (erased a)) f a d n k x s e)
    where
      by : (EdgeIn (nodes f d n (k + 1)) (k + 1) x s → IsIn (Label' f d n (k + 1) x s) (parts_in f)) →
          (EdgeIn (nodes a d (n + 1) (after f d n k)) (after f d n k) x s →
          IsIn (Label' a d (n + 1) (after f d n k) x s) (parts_in a)) →
          InApp f a d n k x s → IsIn (Label' (app f a w) d n k x s) (labels_in f ++ labels_in a)
      by rec rec' (function q z) = subst (λ v. IsIn v (labels_in f ++ labels_in a)) (sym
          (app_function f a w d n k x s q z (all_function f a w l)))
          (in_left (label_of f) (labels_in f) (labels_in a) (own_in f))
      by rec rec' (argument q z) = subst (λ v. IsIn v (labels_in f ++ labels_in a)) (sym
          (app_argument f a w d n k x s q z (all_argument f a w l)))
          (in_right (label_of a) (labels_in f) (labels_in a) (own_in a))
      by rec rec' (in_f i) = subst (λ m. IsIn (atom m none) (labels_in f ++ labels_in a)) (sym
          (app_in_f f a w d n k x s i))
          (in_left (Label' f d n (k + 1) x s) (labels_in f) (labels_in a) (part_in f (Label' f d n
          (k + 1) x s) (rec i)))
      by rec rec' (in_a i) = subst (λ m. IsIn (atom m none) (labels_in f ++ labels_in a)) (sym
          (app_in_a f a w d n k x s i))
          (in_right (Label' a d (n + 1) (after f d n k) x s) (labels_in f) (labels_in a)
          (part_in a (Label' a d (n + 1) (after f d n k) x s) (rec' i)))

  abbrev OneEdge : Labelled → (d n k : ℕ) → Type 0
  OneEdge T d n k = (x y s r : ℕ) → EdgeIn (nodes T d n k) k x s → EdgeIn (nodes T d n k) k y r →
      letter_of_edge T d n k x s ≡ letter_of_edge T d n k y r → (x ≡ y) × (s ≡ r)

  one_in_lam : (b : Labelled) (w : Label) (d n k : ℕ) → AllLetters b → AreDifferent (labels_in b) →
      OneEdge b (d + 1) n (k + 1) →
      (x y s r : ℕ) → InLam b d n k x s → InLam b d n k y r →
      letter_of_edge (lam b w) d n k x s ≡ letter_of_edge (lam b w) d n k y r → (x ≡ y) × (s ≡ r)
  one_in_lam b w d n k l di f x y s r (own q z) (own q' z') e = (q ∙ sym q', z ∙ sym z')
  one_in_lam b w d n k l di f x y s r (own q z) (inside i) e =
      let v : label_of b ≡ Label' b (d + 1) n (k + 1) y r = sym (lam_own b w d n k x s q l)
      ∙ ap (λ m. atom m none) (e ∙ lam_inside b w d n k y r i) in
      absurd (not_own b di (subst (λ v. IsIn v (parts_in b)) (sym v) (known b (d + 1) n (k + 1) y r l i)))
  one_in_lam b w d n k l di f x y s r (inside i) (own q z) e =
      let v : label_of b ≡ Label' b (d + 1) n (k + 1) x s = sym (lam_own b w d n k y r q l)
      ∙ ap (λ m. atom m none) (sym e ∙ lam_inside b w d n k x s i) in
      absurd (not_own b di (subst (λ v. IsIn v (parts_in b)) (sym v) (known b (d + 1) n (k + 1) x s l i)))
  one_in_lam b w d n k l di f x y s r (inside i) (inside j) e =
      f x y s r i j (sym (lam_inside b w d n k x s i) ∙ e ∙ lam_inside b w d n k y r j)

  -- which part's label it is, and that of the part itself
  record Place' (f a : Labelled) (v : Label) (x s k : ℕ) (d n : ℕ) : Type 0 where
    is : ((v ≡ label_of f) × (x ≡ k) × (s ≡ 0)) ⊎ (((v ≡ label_of a) × (x ≡ k) × (s ≡ 2))
        ⊎ (((v ≡ Label' f d n (k + 1) x s) × EdgeIn (nodes f d n (k + 1)) (k + 1) x s)
        ⊎ ((v ≡ Label' a d (n + 1) (after f d n k) x s) × EdgeIn (nodes a d (n + 1) (after f d n k))
        (after f d n k) x s)))

  placed : (f a : Labelled) (w : Label) (d n k x s : ℕ) → AllLetters (app f a w) → InApp f a d n k x s →
      Place' f a (Label' (app f a w) d n k x s) x s k d n
  placed f a w d n k x s l (function q z) = record {
    is = inl (
      app_function f a w d n k x s q z
          (all_function f a w l),
      q,
      z,
    );
  }
  placed f a w d n k x s l (argument q z) = record {
    is = inr (inl (
      app_argument f a w d n k x s q z
          (all_argument f a w l),
      q,
      z,
    ));
  }
  placed f a w d n k x s l (in_f i) = record {
    is = inr (inr (inl (
      ap (λ m. atom m none)
          (app_in_f f a w d n k x s i),
      i,
    )));
  }
  placed f a w d n k x s l (in_a i) = record {
    is = inr (inr (inr (
      ap (λ m. atom m none)
          (app_in_a f a w d n k x s i),
      i,
    )));
  }

  letters_one : {m k : ℕ} → ◌≡◌ {A = Label} (atom m none) (atom k none) → m ≡ k
  letters_one e = cc

  one_in_app : (f a : Labelled) (w : Label) (d n k : ℕ) → AllLetters (app f a w) →
      AreDifferent (labels_in f ++ labels_in a) →
      OneEdge f d n (k + 1) → OneEdge a d (n + 1) (after f d n k) →
      (x y s r : ℕ) (v u : Label) → v ≡ u → Place' f a v x s k d n → Place' f a u y r k d n → (x ≡ y) × (s ≡ r)
  one_in_app f a w d n k l di F A x y s r v u e p p' = go p.is p'.is
    where
      D : Apart (labels_in f) (labels_in a)
      D = apart (labels_in f) (labels_in a) di

      here : (x s : ℕ) → EdgeIn (nodes f d n (k + 1)) (k + 1) x s → IsIn (Label' f d n (k + 1) x s) (parts_in f)
      here x s i = known f d n (k + 1) x s (all_function f a w l) i

      there : (x s : ℕ) → EdgeIn (nodes a d (n + 1) (after f d n k)) (after f d n k) x s →
          IsIn (Label' a d (n + 1) (after f d n k) x s) (parts_in a)
      there x s i = known a d (n + 1) (after f d n k) x s (all_argument f a w l) i

      never : (v u : Label) → IsIn v (labels_in f) → IsIn u (labels_in a) → v ≡ u → ⊥
      never v u h j e = D.none_in_both v h (subst (λ v. IsIn v (labels_in a)) (sym e) j)

      go : ((v ≡ label_of f) × (x ≡ k) × (s ≡ 0)) ⊎ (((v ≡ label_of a) × (x ≡ k) × (s ≡ 2))
          ⊎ (((v ≡ Label' f d n (k + 1) x s) × EdgeIn (nodes f d n (k + 1)) (k + 1) x s)
          ⊎ ((v ≡ Label' a d (n + 1) (after f d n k) x s) × EdgeIn (nodes a d (n + 1) (after f d n k))
          (after f d n k) x s))) →
          ((u ≡ label_of f) × (y ≡ k) × (r ≡ 0)) ⊎ (((u ≡ label_of a) × (y ≡ k) × (r ≡ 2))
          ⊎ (((u ≡ Label' f d n (k + 1) y r) × EdgeIn (nodes f d n (k + 1)) (k + 1) y r)
          ⊎ ((u ≡ Label' a d (n + 1) (after f d n k) y r) × EdgeIn (nodes a d (n + 1) (after f d n k))
          (after f d n k) y r))) →
          (x ≡ y) × (s ≡ r)
      go (inl (b, q, z)) (inl (b', q', z')) = (q ∙ sym q', z ∙ sym z')
      go (inl (b, q, z)) (inr (inl (b', q', z'))) = absurd (never (label_of f) (label_of a) (own_in f)
          (own_in a) (sym b ∙ e ∙ b'))
      go (inl (b, q, z)) (inr (inr (inl (b', i)))) =
          absurd (not_own f D.first (subst (λ v. IsIn v (parts_in f)) (sym (sym b ∙ e ∙ b')) (here y r i)))
      go (inl (b, q, z)) (inr (inr (inr (b', i)))) =
          absurd (never (label_of f) _ (own_in f) (part_in a (Label' a d (n + 1) (after f d n k) y r)
          (there y r i)) (sym b ∙ e ∙ b'))
      go (inr (inl (b, q, z))) (inl (b', q', z')) = absurd (never (label_of f) (label_of a) (own_in f)
          (own_in a) (sym b' ∙ sym e ∙ b))
      go (inr (inl (b, q, z))) (inr (inl (b', q', z'))) = (q ∙ sym q', z ∙ sym z')
      go (inr (inl (b, q, z))) (inr (inr (inl (b', i)))) =
          absurd (never _ (label_of a) (part_in f (Label' f d n (k + 1) y r) (here y r i)) (own_in a) (sym b'
          ∙ sym e ∙ b))
      go (inr (inl (b, q, z))) (inr (inr (inr (b', i)))) =
          absurd (not_own a D.second (subst (λ v. IsIn v (parts_in a)) (sym (sym b ∙ e ∙ b')) (there y r i)))
      go (inr (inr (inl (b, i)))) (inl (b', q', z')) =
          absurd (not_own f D.first (subst (λ v. IsIn v (parts_in f)) (sym b ∙ e ∙ b') (here x s i)))
      go (inr (inr (inl (b, i)))) (inr (inl (b', q', z'))) =
          absurd (never _ (label_of a) (part_in f (Label' f d n (k + 1) x s) (here x s i)) (own_in a) (sym b ∙ e ∙ b'))
      go (inr (inr (inl (b, i)))) (inr (inr (inl (b', j)))) = F x y s r i j (letters_one (sym b ∙ e ∙ b'))
      go (inr (inr (inl (b, i)))) (inr (inr (inr (b', j)))) =
          absurd (never _ _ (part_in f (Label' f d n (k + 1) x s) (here x s i)) (part_in a (Label' a d (n + 1)
          (after f d n k) y r) (there y r j)) (sym b ∙ e ∙ b'))
      go (inr (inr (inr (b, i)))) (inl (b', q', z')) =
          absurd (never (label_of f) _ (own_in f) (part_in a (Label' a d (n + 1) (after f d n k) x s)
          (there x s i)) (sym b' ∙ sym e ∙ b))
      go (inr (inr (inr (b, i)))) (inr (inl (b', q', z'))) =
          absurd (not_own a D.second (subst (λ v. IsIn v (parts_in a)) (sym b ∙ e ∙ b') (there x s i)))
      go (inr (inr (inr (b, i)))) (inr (inr (inl (b', j)))) =
          absurd (never _ _ (part_in f (Label' f d n (k + 1) y r) (here y r j)) (part_in a (Label' a d (n + 1)
          (after f d n k) x s) (there x s i)) (sym b' ∙ sym e ∙ b))
      go (inr (inr (inr (b, i)))) (inr (inr (inr (b', j)))) = A x y s r i j (letters_one (sym b ∙ e ∙ b'))

  one_edge : (T : Labelled) (d n k : ℕ) → AllLetters T → AreDifferent (labels_in T) → OneEdge T d n k
  one_edge (var y w) d n k l di x z s r e e' q = absurd (no_letter x e.index s e.kind_is k ((
    kind.Croissant,
    n,
  ) ∷ []) ((λ s. refl), tt) e.there e.has)
  one_edge (free f w) d n k l di x z s r e e' q = absurd (no_letter x e.index s e.kind_is k ((
    kind.Croissant,
    n,
  ) ∷ []) ((λ s. refl), tt) e.there e.has)
  one_edge (lam b w) d n k l di x y s r e e' q =
      one_in_lam b w d n k (all_lam b w l) di.1 (one_edge b (d + 1) n (k + 1) (all_lam b w l) di.1) x y s r
      (in_lam b w d n k x s e) (in_lam b w d n k y r e') q
  one_edge (app f a w) d n k l di x y s r e e' q =
      let D = apart (labels_in f) (labels_in a) di.1 in
      one_in_app f a w d n k l di.1 (one_edge f d n (k + 1) (all_function f a w l) D.first)
      (one_edge a d (n + 1) (after f d n k) (all_argument f a w l) D.second) x y s r
      (Label' (app f a w) d n k x s) (Label' (app f a w) d n k y r) (ap (λ m. atom m none) q)
      (placed f a w d n k x s l (in_app (bare_variable τ d (erased a)) f a d n k x s e))
      (placed f a w d n k y r l (in_app (bare_variable τ d (erased a)) f a d n k y r e'))

  -- ---- and each subterm has the letter of its edge

  abbrev Agrees : (ℕ → ℕ → ℕ) → Labelled → (d n k : ℕ) → Type 0
  Agrees letter T d n k = (x s : ℕ) → k ≤ x → x < k + length (nodes T d n k) → letter x s ≡ letter_of_edge T d n k x s

  long_lam : (b : Labelled) (w : Label) (d n k : ℕ) → suc (length (nodes b (d + 1) n (k + 1))) ≤ length (nodes
      (lam b w) d n k)
  long_lam b w d n k =
      let e = length-append ((kind.Lam, n) ∷ nodes b (d + 1) n (k + 1)) (erasers (wire_of 0 (subnet_of τ
      (erased b) (d + 1) n (k + 1)).wires)) in
      omega (arith, e)

  long_app : (o : Option ℕ) (f a : Labelled) (d n k : ℕ) → suc (length (nodes f d n (k + 1)))
      ≤ length (applied n k o (subnet_of τ (erased f) d n (k + 1)) (subnet_of τ (erased a) d (n + 1)
      (after f d n k))).nodes
  long_app None f a d n k =
      let e = length-append (((kind.App, n) ∷ nodes f d n (k + 1)) ++ nodes a d (n + 1) (after f d n k))
      (bracket_nodes n (subnet_of τ (erased a) d (n + 1) (after f d n k)).wires
      ++ (fans n (after f d n k + length (nodes a d (n + 1) (after f d n k)) + length (subnet_of τ (erased a) d
      (n + 1) (after f d n k)).wires)
      (subnet_of τ (erased f) d n (k + 1)).wires (past_brackets (after f d n k + length (nodes a d (n + 1)
      (after f d n k)))
      (subnet_of τ (erased a) d (n + 1) (after f d n k)).wires)).nodes) in
      let g = length-append ((kind.App, n) ∷ nodes f d n (k + 1)) (nodes a d (n + 1) (after f d n k)) in
      omega (arith, e, g)
  long_app (Some y) f a d n k =
      let e = length-append ((kind.App, n) ∷ nodes f d n (k + 1))
      (fans n (after f d n k) (subnet_of τ (erased f) d n (k + 1)).wires ((y, slot_port k 2) ∷ [])).nodes in
      omega (arith, e)

  long_both : (f a : Labelled) (d n k : ℕ) → suc (length (nodes f d n (k + 1)) + length (nodes a d (n + 1)
      (after f d n k)))
      ≤ length (applied n k None (subnet_of τ (erased f) d n (k + 1)) (subnet_of τ (erased a) d (n + 1)
      (after f d n k))).nodes
  long_both f a d n k =
      let e = length-append (((kind.App, n) ∷ nodes f d n (k + 1)) ++ nodes a d (n + 1) (after f d n k))
      (bracket_nodes n (subnet_of τ (erased a) d (n + 1) (after f d n k)).wires
      ++ (fans n (after f d n k + length (nodes a d (n + 1) (after f d n k)) + length (subnet_of τ (erased a) d
      (n + 1) (after f d n k)).wires)
      (subnet_of τ (erased f) d n (k + 1)).wires (past_brackets (after f d n k + length (nodes a d (n + 1)
      (after f d n k)))
      (subnet_of τ (erased a) d (n + 1) (after f d n k)).wires)).nodes) in
      let g = length-append ((kind.App, n) ∷ nodes f d n (k + 1)) (nodes a d (n + 1) (after f d n k)) in
      omega (arith, e, g)

  unless_bare : (a : Labelled) (letter : ℕ → ℕ → ℕ) (d n k : ℕ) (x : ℕ) → bare_variable τ d (erased a) ≡ Some x →
      AreLettered τ letter a d n k
  unless_bare (var y w) letter d n k x e = tt
  unless_bare (free f w) letter d n k x e = tt
  unless_bare (lam b w) letter d n k x e = absurd (no_lam τ d x (erased b) e)
  unless_bare (app f a w) letter d n k x e = absurd (no_app τ d x (erased f) (erased a) e)

  are_lettered : (T : Labelled) (letter : ℕ → ℕ → ℕ) (d n k : ℕ) → AllLetters T → Agrees letter T d n k →
      AreLettered τ letter T d n k
  are_lettered (var y w) letter d n k l g = tt
  are_lettered (free f w) letter d n k l g = tt
  are_lettered (lam b w) letter d n k l g =
      let long = long_lam b w d n k in (
        sym (lam_own b w d n k k 1 refl (all_lam b w l)) ∙ ap (λ m. atom m none) (sym (g k 1 (omega arith)
            (omega arith))),
        are_lettered b letter (d + 1) n (k + 1) (all_lam b w l) (λ x s low high.
            let off : nat_eq x k ≡ false = grind (arith, nat_tests, low) in
            g x s (omega arith) (omega arith) ∙ rw off refl),
      )
  are_lettered (app f a w) letter d n k l g =
      let long = long_app (bare_variable τ d (erased a)) f a d n k in (
        sym (app_function f a w d n k k 0 refl refl (all_function f a w l))
            ∙ ap (λ m. atom m none) (sym (g k 0 (omega arith) (omega arith))),
        sym (app_argument f a w d n k k 2 refl refl (all_argument f a w l))
            ∙ ap (λ m. atom m none) (sym (g k 2 (omega arith) (omega arith))),
        are_lettered f letter d n (k + 1) (all_function f a w l) (λ x s low high.
            let off : nat_eq x k ≡ false = grind (arith, nat_tests, low) in
            let less : nat_lt x (k + 1 + length (nodes f d n (k + 1))) ≡ true = grind (arith, nat_tests, high) in
            g x s (omega arith) (omega arith) ∙ rw off (rw less refl)),
        by (λ i. are_lettered a letter d (n + 1) (after f d n k) (all_argument f a w l) i) (bare_variable τ d
            (erased a)) refl g,
      )
    where
      by : (Agrees letter a d (n + 1) (after f d n k) → AreLettered τ letter a d (n + 1) (after f d n k)) →
          (o : Option ℕ) → bare_variable τ d (erased a) ≡ o →
          ((x s : ℕ) → k ≤ x → x < k + length (applied n k o (subnet_of τ (erased f) d n (k + 1)) (subnet_of τ
          (erased a) d (n + 1) (after f d n k))).nodes →
          letter x s ≡ letter_of_edge (app f a w) d n k x s) → AreLettered τ letter a d (n + 1) (after f d n k)
      by rec (Some y) e g = unless_bare a letter d (n + 1) (after f d n k) y e
      by rec None e g = rec (λ x s low high.
          let long = long_both f a d n k in
          let off : nat_eq x k ≡ false = grind (arith, nat_tests, low) in
          let more : nat_lt x (k + 1 + length (nodes f d n (k + 1))) ≡ false = grind (arith, nat_tests, low) in
          g x s (omega arith) (omega arith) ∙ rw off (rw more refl))

-- the letters of a whole term's net
pub record Lettering (τ : Translation) (T : Labelled) (names : ℕ) : Type 0 where
  pub letter : ℕ → ℕ → ℕ
  pub atoms : HaveLetters (translation_of τ (erased T) names) letter
  pub are : AreLettered τ letter T 0 0 0

pub lettering : (τ : Translation) (T : Labelled) (names : ℕ) → HaveOwnLetters T → Lettering τ T names
lettering τ T names o = record {
  letter = letter_of_edge τ T 0 0 0;
  atoms = λ x y s r e e'. one_edge τ T 0 0 0 o.1 o.0 x y s r
      (record { kind_is = e.0; index = e.1; there = e.2; has = e.3 })
      (record { kind_is = e'.0; index = e'.1; there = e'.2; has = e'.3 });
  are = are_lettered τ T (letter_of_edge τ T 0 0 0) 0 0 0 o.1 (λ x s low high. refl);
}
