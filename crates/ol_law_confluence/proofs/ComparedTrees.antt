-- What the comparison of two printed trees says of their sources.
use Rattle.std.proofs.Common.{◌≡◌, ℕ, zero, suc, ◌+◌, ◌-◌, ◌<◌, ◌≤◌, ◌⊎◌, inl, inr, Bool, true}
use Rattle.std.proofs.Common.{false, List, [], ◌∷◌, ◌++◌, length, get_or, refl, sym, ap, ◌∙◌, subst}
use Rattle.std.proofs.Common.{subst₂, append_assoc, length-append, arith}
use Rattle.std.specs.Prelude.{slice_index_or}
use Rattle.std.proofs.lemmas.List.{get_or-append-add, append-nil}
use Rattle.std.proofs.lemmas.Bool.{cases_lt}
use Rattle.ol_readback.specs.Whole.{Part, term, lost, cut, none, more, count, preorder, IsInScope, IsBound, IsWholeTree}
use Rattle.ol_readback.specs.Terms.{HasAllHeads, abstracted, index_of, variable_of, meaning, term_of}
use Rattle.ol_readback.specs.declared.answers.HeadVar.{HeadVar}
use Rattle.ol_readback.specs.declared.answers.HeadVar.TheVariants as head
use Rattle.ol_readback.specs.declared.answers.ReadNode.{ReadNode}
use Rattle.ol_readback.specs.declared.answers.ReadNode.TheVariants as node
use Rattle.ol_readback.proofs.OneTree.{count_one, list_is_of_one_tree}
use Rattle.std.specs.List.{AllZip}
use Rattle.ol_equal.specs.Comparing.{TreeWithNames, IsSameVar, Agree, place_at, IsFirstApart, IsComparison}
use Rattle.ol_equal.proofs.Agreeing.{AgreeAt, each-agrees}
use Rattle.ol_equal.proofs.Walks.{path-within}
use Rattle.ol_equal.specs.declared.answers.Compared.{Compared}
use Rattle.ol_equal.specs.declared.answers.Compared.TheVariants as answer
use Rattle.ol_law_confluence.specs.Compared.{TellsTerms, number_of, renamed, ShareNormalForm, ArePrinted}
use Rattle.ol_law_confluence.specs.Compared.{IsHeadBesideLost}
use Rattle.ol_law_meaning.specs.Contraction.{Tree, lam, app}
use Rattle.ol_law_meaning.specs.Contraction as tree
use Rattle.ol_law_meaning.specs.Shows.{BetaReduces, IsVariable, Fills}
use Rattle.ol_law_confluence.specs.Reductions.{Convertible, turned, joined, AreConvertible}
use Rattle.ol_law_confluence.proofs.Meetings.{convertible}
use Rattle.ol_law_confluence.proofs.LeftmostEnds.{leftmost_beta}
use Rattle.ol_law_confluence.proofs.HeadForms.{heads_agree, forever_none}
use Rattle.ol_law_confluence.proofs.Renamings.{renamed_beta, renamed_forever, renamed_normal, renamed_all}
use Rattle.ol_law_confluence.proofs.Renamings.{renamed_length, renamed_abstracted, renamed_head_normal, number_of_one}
use Rattle.ol_law_confluence.proofs.Scopes.{Older, older_on, binder_one}

-- ---- places

module _ (names : TreeWithNames) where
  -- all places of two parts are heads that agree
  abbrev pub Same : {k : Bool} → Part k → Part k → Type 0
  Same (term l v ts) (term m w us) =
      (l ≡ m) × IsSameVar names v w × (count ts ≡ count us) × Same ts us
  Same (term l v ts) lost = ⊥
  Same (term l v ts) cut = ⊥
  Same lost u = ⊥
  Same cut u = ⊥
  Same none none = Unit {0}
  Same none (more u us) = ⊥
  Same (more t ts) none = ⊥
  Same (more t ts) (more u us) = Same t u × Same ts us

  same_length : {k : Bool} (T U : Part k) → Same T U → length (preorder T) ≡ length (preorder U)
  same_length (term l v ts) (term m w us) h = ap suc (same_length ts us h.3)
  same_length (term l v ts) lost h = absurd h
  same_length (term l v ts) cut h = absurd h
  same_length lost u h = absurd h
  same_length cut u h = absurd h
  same_length none none h = refl
  same_length none (more u us) h = absurd h
  same_length (more t ts) none h = absurd h
  same_length (more t ts) (more u us) h =
      let a = same_length t u h.0 in
      let b = same_length ts us h.1 in
      length-append (preorder t) (preorder ts) ∙ (λ i. a i + b i)
      ∙ sym (length-append (preorder u) (preorder us))

  -- each place before number n is of heads that agree
  abbrev Before : List ReadNode → List ReadNode → ℕ → Type 0
  Before ps qs n = (j : ℕ) → j < n → AgreeAt names ps qs j

  -- the places of a list after its first part
  after : (ps qs xs ys : List ReadNode) (n : ℕ) → length ps ≡ length qs →
      Before (ps ++ xs) (qs ++ ys) n → length ps ≤ n → Before xs ys (n - length ps)
  after ps qs xs ys n e h le j lt =
      let x : AgreeAt names (ps ++ xs) (qs ++ ys) (length ps + j) =
      h (length ps + j) (omega arith) in
      subst₂ (λ a b. Agree names a b) (get_or-append-add ps xs j node.Cut)
      (ap (λ m. get_or (qs ++ ys) (m + j) node.Cut) e ∙ get_or-append-add qs ys j node.Cut) x

  regroup : (t u : Part true) (ts us : Part false) (xs ys : List ReadNode) (n : ℕ) →
      Before (preorder (more t ts) ++ xs) (preorder (more u us) ++ ys) n →
      Before (preorder t ++ (preorder ts ++ xs)) (preorder u ++ (preorder us ++ ys)) n
  regroup t u ts us xs ys n h j lt =
      subst₂ (λ ps qs. AgreeAt names ps qs j) (append_assoc (preorder t) (preorder ts) xs)
      (append_assoc (preorder u) (preorder us) ys) (h j lt)

  pub same_if : {k : Bool} (T U : Part k) (xs ys : List ReadNode) (n : ℕ) → count T ≡ count U →
      Before (preorder T ++ xs) (preorder U ++ ys) n → length (preorder T) ≤ n → Same T U
  same_if (term l v ts) (term m w us) xs ys n c h le =
      let a = h 0 (omega arith) in (
        a.0,
        a.1,
        a.2,
        same_if ts us xs ys (n - 1) a.2 (λ j lt. h (suc j) (omega arith))
            (omega arith),
      )
  same_if (term l v ts) lost xs ys n c h le = absurd (h 0 (omega arith))
  same_if (term l v ts) cut xs ys n c h le = absurd (h 0 (omega arith))
  same_if lost u xs ys n c h le = absurd (h 0 (omega arith))
  same_if cut u xs ys n c h le = absurd (h 0 (omega arith))
  same_if none none xs ys n c h le = tt
  same_if none (more u us) xs ys n c h le = absurd (omega arith)
  same_if (more t ts) none xs ys n c h le = absurd (omega arith)
  same_if (more t ts) (more u us) xs ys n c h le =
      let s : length (preorder t ++ preorder ts) ≡ length (preorder t) + length (preorder ts) =
      length-append (preorder t) (preorder ts) in
      let g = regroup t u ts us xs ys n h in
      let one : count t ≡ count u = count_one t ∙ sym (count_one u) in
      let a = same_if t u (preorder ts ++ xs) (preorder us ++ ys) n one g (omega arith) in
      let l = same_length t u a in
      let rest =
      after (preorder t) (preorder u) (preorder ts ++ xs) (preorder us ++ ys) n l g
      (omega arith) in
      (a, same_if ts us xs ys (n - length (preorder t)) (omega arith) rest (omega arith))

  -- the numbers of the free names
  abbrev f : ℕ → ℕ
  f k = number_of (slice_index_or names.a k [])

  abbrev g : ℕ → ℕ
  g k = number_of (slice_index_or names.b k [])

  -- ---- trees that are the same

  same_variable : (ss : List (ℕ × ℕ)) (v w : HeadVar) → IsSameVar names v w →
      renamed f (variable_of ss v) ≡ renamed g (variable_of ss w)
  same_variable ss (head.Bound k j) (head.Bound m n) h = λ i. tree.var (index_of ss (h.0 i) (h.1 i))
  same_variable ss (head.Bound k j) (head.Free r) h = absurd h
  same_variable ss (head.Free q) (head.Bound m n) h = absurd h
  same_variable ss (head.Free q) (head.Free r) h = ap (λ x. tree.free (number_of x)) h

  -- two parts that are the same stand for the same
  abbrev Reads : {k : Bool} → Part k → Part k → Type 0
  Reads {k = true} T U =
      (ss : List (ℕ × ℕ)) (i : ℕ) → renamed f (meaning ss i T) ≡ renamed g (meaning ss i U)
  Reads {k = false} T U =
      (ss : List (ℕ × ℕ)) (i : ℕ) (h h' : Tree) → renamed f h ≡ renamed g h' →
      renamed f (meaning ss i T h) ≡ renamed g (meaning ss i U h')

  reads_term : (l m : ℕ) (v w : HeadVar) (ts us : Part false) → l ≡ m → IsSameVar names v w →
      Reads ts us → Reads (term l v ts) (term m w us)
  reads_term l m v w ts us e h up ss i =
      let t = meaning ((i, l) ∷ ss) (suc i) ts (variable_of ((i, l) ∷ ss) v) in
      let u = λ (m : ℕ). meaning ((i, m) ∷ ss) (suc i) us (variable_of ((i, m) ∷ ss) w) in
      renamed_abstracted f l t
      ∙ ap (abstracted l)
      (up ((i, l) ∷ ss) (suc i) (variable_of ((i, l) ∷ ss) v) (variable_of ((i, l) ∷ ss) w)
      (same_variable ((i, l) ∷ ss) v w h))
      ∙ sym (renamed_abstracted g l (u l)) ∙ ap (λ m. renamed g (abstracted m (u m))) e

  reads_more : (t u : Part true) (ts us : Part false) → length (preorder t) ≡ length (preorder u) →
      Reads t u → Reads ts us → Reads (more t ts) (more u us)
  reads_more t u ts us e first later ss i h h' k =
      later ss (i + length (preorder t)) (app h (meaning ss i t)) (app h' (meaning ss i u))
      (λ j. app (k j) (first ss i j))
      ∙ ap (λ n. renamed g (meaning ss (i + n) us (app h' (meaning ss i u)))) e

  reads : {k : Bool} (T U : Part k) → Same T U → Reads T U
  reads (term l v ts) (term m w us) h = reads_term l m v w ts us h.0 h.1 (reads ts us h.3)
  reads (term l v ts) lost h = absurd h
  reads (term l v ts) cut h = absurd h
  reads lost u h = absurd h
  reads cut u h = absurd h
  reads none none h = λ ss i x y e. e
  reads none (more u us) h = absurd h
  reads (more t ts) none h = absurd h
  reads (more t ts) (more u us) h =
      reads_more t u ts us (same_length t u h.0) (reads t u h.0) (reads ts us h.1)

  all_joined : (xs ys : List ReadNode) → HasAllHeads xs → HasAllHeads ys → HasAllHeads (xs ++ ys)
  all_joined [] ys h k = k
  all_joined (node.Head l v n ∷ xs) ys h k = all_joined xs ys h k
  all_joined (node.NoHead ∷ xs) ys h k = absurd h
  all_joined (node.Cut ∷ xs) ys h k = absurd h

  same_heads : {k : Bool} (T U : Part k) → Same T U →
      HasAllHeads (preorder T) × HasAllHeads (preorder U)
  same_heads (term l v ts) (term m w us) h = same_heads ts us h.3
  same_heads (term l v ts) lost h = absurd h
  same_heads (term l v ts) cut h = absurd h
  same_heads lost u h = absurd h
  same_heads cut u h = absurd h
  same_heads none none h = (tt, tt)
  same_heads none (more u us) h = absurd h
  same_heads (more t ts) none h = absurd h
  same_heads (more t ts) (more u us) h =
      let a = same_heads t u h.0 in
      let b = same_heads ts us h.1 in
      (all_joined (preorder t) (preorder ts) a.0 b.0, all_joined (preorder u) (preorder us) a.1 b.1)

  pub equal_share : (t u : Tree) (b c : Bool) (ns ms : List ReadNode) →
      ArePrinted t u b c ns ms → AllZip (Agree names) ns ms →
      ShareNormalForm (renamed f t) (renamed g u)
  equal_share t u b c ns ms p e =
      let T = p.first.tree in
      let U = p.second.tree in
      let x : ns ≡ preorder T ++ [] = sym p.first.is_list ∙ sym (append-nil (preorder T)) in
      let y : ms ≡ preorder U ++ [] = sym p.second.is_list ∙ sym (append-nil (preorder U)) in
      let s =
      same_if T U [] [] (length ns) (count_one T ∙ sym (count_one U))
      (λ j lt. subst₂ (λ ps qs. AgreeAt names ps qs j) x y ((each-agrees names ns ms e).1 j lt))
      (subst (λ ps. length (preorder T) ≤ length ps) p.first.is_list
      (let z : length (preorder T) ≤ length (preorder T) = omega arith in z)) in
      let h = same_heads T U s in
      let a = subst (λ ps. HasAllHeads ps) p.first.is_list h.0 in
      let b = subst (λ ps. HasAllHeads ps) p.second.is_list h.1 in
      record {
        form = renamed f (term_of T);
        first = renamed_beta f (leftmost_beta (p.first.leftmost a));
        second =
            subst (λ v. BetaReduces (renamed g u) v) (sym (reads T U s [] 0))
            (renamed_beta g (leftmost_beta (p.second.leftmost b)));
        is_normal = renamed_normal f (term_of T) (p.first.normal a);
      }

  -- ---- what convertible sources allow

  module _ (b c : Bool) where
    -- Heads agree at each place as far as all places before it agree; and no head stands beside a
    -- place without one.
    abbrev pub Compatible : {k : Bool} → Part k → Part k → Type 0
    Compatible (term l v ts) (term m w us) =
        (l ≡ m) × IsSameVar names v w × (count ts ≡ count us) × Compatible ts us
    Compatible (term l v ts) lost = c ≡ true → ⊥
    Compatible (term l v ts) cut = Unit {0}
    Compatible lost (term m w us) = b ≡ true → ⊥
    Compatible lost lost = Unit {0}
    Compatible lost cut = Unit {0}
    Compatible cut u = Unit {0}
    Compatible none none = Unit {0}
    Compatible none (more u us) = Unit {0}
    Compatible (more t ts) none = Unit {0}
    Compatible (more t ts) (more u us) = Compatible t u × (Same t u → Compatible ts us)

    -- two heads, or a head beside a place without one
    abbrev pub Tells : ReadNode → ReadNode → Type 0
    Tells x y = HasAllHeads (x ∷ y ∷ []) ⊎ IsHeadBesideLost b c x y

    -- at a place that tells, two compatible parts agree, if they agree at each place before it
    abbrev NoneApart : {k : Bool} → Part k → Part k → Type 0
    NoneApart T U = (xs ys : List ReadNode) (n : ℕ) → count T ≡ count U → Compatible T U →
        Before (preorder T ++ xs) (preorder U ++ ys) n → n < length (preorder T) →
        Tells (place_at (preorder T ++ xs) n) (place_at (preorder U ++ ys) n) →
        AgreeAt names (preorder T ++ xs) (preorder U ++ ys) n

    place_on : (ps xs : List ReadNode) (n : ℕ) → length ps ≤ n →
        place_at (ps ++ xs) n ≡ place_at xs (n - length ps)
    place_on ps xs n le =
        ap (λ m. get_or (ps ++ xs) m node.Cut)
        (let e : n ≡ length ps + (n - length ps) = omega arith in e)
        ∙ get_or-append-add ps xs (n - length ps) node.Cut

    none_more : (t u : Part true) (ts us : Part false) → NoneApart t u → NoneApart ts us →
        NoneApart (more t ts) (more u us)
    none_more t u ts us first later xs ys n e h g lt k =
        subst₂ (λ ps qs. AgreeAt names ps qs n) (sym (append_assoc (preorder t) (preorder ts) xs))
        (sym (append_assoc (preorder u) (preorder us) ys))
        (go (cases_lt n (length (preorder t)))
        (subst₂ (λ ps qs. Tells (place_at ps n) (place_at qs n))
        (append_assoc (preorder t) (preorder ts) xs) (append_assoc (preorder u) (preorder us) ys)
        k))
      where
        s : length (preorder t ++ preorder ts) ≡ length (preorder t) + length (preorder ts)
        s = length-append (preorder t) (preorder ts)

        one : count t ≡ count u
        one = count_one t ∙ sym (count_one u)

        d : Before (preorder t ++ (preorder ts ++ xs)) (preorder u ++ (preorder us ++ ys)) n
        d = regroup t u ts us xs ys n g

        go : (n < length (preorder t)) ⊎ (length (preorder t) ≤ n) →
            Tells (place_at (preorder t ++ (preorder ts ++ xs)) n)
            (place_at (preorder u ++ (preorder us ++ ys)) n) →
            AgreeAt names (preorder t ++ (preorder ts ++ xs)) (preorder u ++ (preorder us ++ ys)) n
        go (inl short) k = first (preorder ts ++ xs) (preorder us ++ ys) n one h.0 d short k
        go (inr long) k =
            let a = same_if t u (preorder ts ++ xs) (preorder us ++ ys) n one d long in
            let l = same_length t u a in
            let p = place_on (preorder t) (preorder ts ++ xs) n long in
            let q : place_at (preorder u ++ (preorder us ++ ys)) n ≡ place_at (preorder us ++ ys)
            (n - length (preorder t)) =
            place_on (preorder u) (preorder us ++ ys) n (subst (λ m. m ≤ n) l long)
            ∙ ap (λ m. place_at (preorder us ++ ys) (n - m)) (sym l) in
            subst₂ (λ x y. Agree names x y) (sym p) (sym q)
            (later xs ys (n - length (preorder t)) (let f : count ts ≡ count us = omega arith in f)
            (h.1 a)
            (after (preorder t) (preorder u) (preorder ts ++ xs) (preorder us ++ ys) n l d long)
            (let w : n < length (preorder t) + length (preorder ts) = subst (λ m. n < m) s lt in
            let m : n - length (preorder t) < length (preorder ts) = omega arith in m)
            (subst₂ (λ x y. Tells x y) p q k))

    pub none_apart : {k : Bool} (T U : Part k) → NoneApart T U
    none_apart (term l v ts) (term m w us) xs ys zero e h g lt k = (h.0, h.1, h.2)
    none_apart (term l v ts) (term m w us) xs ys (suc n) e h g lt k =
        none_apart ts us xs ys n h.2 h.3 (λ j p. g (suc j) (omega arith)) (omega arith) k
    none_apart (term l v ts) lost xs ys zero e h g lt (inl k) = absurd k
    none_apart (term l v ts) lost xs ys zero e h g lt (inr k) = absurd (h k)
    none_apart (term l v ts) lost xs ys (suc n) e h g lt k = absurd (g 0 (omega arith))
    none_apart (term l v ts) cut xs ys zero e h g lt (inl k) = absurd k
    none_apart (term l v ts) cut xs ys zero e h g lt (inr k) = absurd k
    none_apart (term l v ts) cut xs ys (suc n) e h g lt k = absurd (g 0 (omega arith))
    none_apart lost (term m w us) xs ys zero e h g lt (inl k) = absurd k
    none_apart lost (term m w us) xs ys zero e h g lt (inr k) = absurd (h k)
    none_apart lost (term m w us) xs ys (suc n) e h g lt k = absurd (omega arith)
    none_apart lost lost xs ys zero e h g lt (inl k) = absurd k
    none_apart lost lost xs ys zero e h g lt (inr k) = absurd k
    none_apart lost lost xs ys (suc n) e h g lt k = absurd (omega arith)
    none_apart lost cut xs ys zero e h g lt (inl k) = absurd k
    none_apart lost cut xs ys zero e h g lt (inr k) = absurd k
    none_apart lost cut xs ys (suc n) e h g lt k = absurd (omega arith)
    none_apart cut u xs ys zero e h g lt (inl k) = absurd k
    none_apart cut u xs ys zero e h g lt (inr k) = absurd k
    none_apart cut u xs ys (suc n) e h g lt k = absurd (omega arith)
    none_apart none none xs ys n e h g lt k = absurd (omega arith)
    none_apart none (more u us) xs ys n e h g lt k = absurd (omega arith)
    none_apart (more t ts) none xs ys n e h g lt k = absurd (omega arith)
    none_apart (more t ts) (more u us) xs ys n e h g lt k =
        none_more t u ts us (none_apart t u) (none_apart ts us) xs ys n e h g lt k

    -- ---- heads of convertible terms

    same_var : (ss : List (ℕ × ℕ)) (i : ℕ) → Older ss i → (v w : HeadVar) → IsInScope ss v →
        IsInScope ss w → renamed f (variable_of ss v) ≡ renamed g (variable_of ss w) →
        IsSameVar names v w
    same_var ss i o (head.Bound k j) (head.Bound m n) h h' e =
        binder_one ss i o k j m n h h'
        (let x : tree.var (index_of ss k j) ≡ tree.var (index_of ss m n) = e in cc)
    same_var ss i o (head.Bound k j) (head.Free r) h h' e =
        absurd (let x : tree.var (index_of ss k j) ≡ tree.free (g (r - 1)) = e in cc)
    same_var ss i o (head.Free q) (head.Bound m n) h h' e =
        absurd (let x : tree.free (f (q - 1)) ≡ tree.var (index_of ss m n) = e in cc)
    same_var ss i o (head.Free q) (head.Free r) h h' e =
        number_of_one (slice_index_or names.a (q - 1) []) (slice_index_or names.b (r - 1) [])
        (let x : tree.free (f (q - 1)) ≡ tree.free (g (r - 1)) = e in cc)

    are_length : (Ps Qs : List Tree) → AreConvertible Ps Qs → length Ps ≡ length Qs
    are_length [] [] h = refl
    are_length [] (Q ∷ Qs) h = absurd h
    are_length (P ∷ Ps) [] h = absurd h
    are_length (P ∷ Ps) (Q ∷ Qs) h = ap suc (are_length Ps Qs h.1)

    fills_length : (d : Bool) (ss : List (ℕ × ℕ)) (i : ℕ) (ts : Part false) (Ps : List Tree) →
        Fills d ss i ts Ps → length Ps ≡ count ts
    fills_length d ss i none Ps h = ap length h
    fills_length d ss i (more t ts) [] h = absurd h
    fills_length d ss i (more t ts) (P ∷ Ps) h =
        ap suc (fills_length d ss (i + length (preorder t)) ts Ps h.1)

    variable_is : (h : ℕ → ℕ) (ss : List (ℕ × ℕ)) (v : HeadVar) →
        IsVariable (renamed h (variable_of ss v))
    variable_is h ss (head.Bound k j) = tt
    variable_is h ss (head.Free q) = tt

    -- parts that show two convertible terms, or as many of each, are compatible
    abbrev Allowed : {k : Bool} → Part k → Part k → Type 0
    Allowed {k = true} T U =
        (ss : List (ℕ × ℕ)) (i : ℕ) → Older ss i → IsBound ss i T → IsBound ss i U → (P Q : Tree) →
        Fills b ss i T P → Fills c ss i U Q →
        Convertible (renamed f P) (renamed g Q) → Compatible T U
    Allowed {k = false} T U =
        (ss : List (ℕ × ℕ)) (i : ℕ) → Older ss i → IsBound ss i T → IsBound ss i U →
        (Ps Qs : List Tree) → Fills b ss i T Ps → Fills c ss i U Qs →
        AreConvertible (renamed_all f Ps) (renamed_all g Qs) → Compatible T U

    allowed_head : (l : ℕ) (v w : HeadVar) (ts us : Part false) → Allowed ts us →
        (ss : List (ℕ × ℕ)) (i : ℕ) → Older ss i →
        IsBound ss i (term l v ts) → IsBound ss i (term l w us) → (Ps Qs : List Tree) →
        Fills b ((i, l) ∷ ss) (suc i) ts Ps → Fills c ((i, l) ∷ ss) (suc i) us Qs →
        renamed f (variable_of ((i, l) ∷ ss) v) ≡ renamed g (variable_of ((i, l) ∷ ss) w) →
        AreConvertible (renamed_all f Ps) (renamed_all g Qs) →
        IsSameVar names v w × (count ts ≡ count us) × Compatible ts us
    allowed_head l v w ts us up ss i o bt bu Ps Qs ft fu e h =
        let older : Older ((i, l) ∷ ss) (suc i) = ((let lt : i < suc i = omega arith in lt), o) in (
          same_var ((i, l) ∷ ss) (suc i) older v w bt.0 bu.0 e,
          sym (fills_length b ((i, l) ∷ ss) (suc i) ts Ps ft) ∙ sym (renamed_length f Ps)
              ∙ are_length (renamed_all f Ps) (renamed_all g Qs) h ∙ renamed_length g Qs
              ∙ fills_length c ((i, l) ∷ ss) (suc i) us Qs fu,
          up ((i, l) ∷ ss) (suc i) older bt.1 bu.1 Ps Qs ft fu h,
        )

    allowed_term : (l m : ℕ) (v w : HeadVar) (ts us : Part false) → Allowed ts us →
        Allowed (term l v ts) (term m w us)
    allowed_term l m v w ts us up ss i o bt bu P Q ft fu z =
        let p = ap (renamed f) ft.1 ∙ renamed_head_normal f l (variable_of ((i, l) ∷ ss) v) ft.0 in
        let q = ap (renamed g) fu.1 ∙ renamed_head_normal g m (variable_of ((i, m) ∷ ss) w) fu.0 in
        let r =
        heads_agree l m (renamed f (variable_of ((i, l) ∷ ss) v))
        (renamed g (variable_of ((i, m) ∷ ss) w)) (renamed_all f ft.0) (renamed_all g fu.0)
        (variable_is f ((i, l) ∷ ss) v) (variable_is g ((i, m) ∷ ss) w)
        (subst₂ (λ t u. Convertible t u) p q z) in
        let x =
        allowed_head l v w ts us up ss i o bt
        (subst (λ m. IsBound ss i (term m w us)) (sym r.0) bu) ft.0 fu.0 ft.2
        (subst (λ m. Fills c ((i, m) ∷ ss) (suc i) us fu.0) (sym r.0) fu.2)
        (subst
        (λ m. renamed f (variable_of ((i, l) ∷ ss) v) ≡ renamed g (variable_of ((i, m) ∷ ss) w))
        (sym r.0) r.1) r.2 in
        (r.0, x.0, x.1, x.2)

    allowed_lost_head : (m : ℕ) (w : HeadVar) (us : Part false) → Allowed lost (term m w us)
    allowed_lost_head m w us ss i o bt bu P Q ft fu z e =
        forever_none (renamed f P) (renamed_forever f P (ft e)) (record {
          form = renamed g Q;
          converts = z;
          is_head_normal = record {
            abstractions = m;
            head = renamed g (variable_of ((i, m) ∷ ss) w);
            arguments = renamed_all g fu.0;
            variable = variable_is g ((i, m) ∷ ss) w;
            is = ap (renamed g) fu.1 ∙ renamed_head_normal g m (variable_of ((i, m) ∷ ss) w) fu.0;
          };
        })

    allowed_head_lost : (l : ℕ) (v : HeadVar) (ts : Part false) → Allowed (term l v ts) lost
    allowed_head_lost l v ts ss i o bt bu P Q ft fu z e =
        forever_none (renamed g Q) (renamed_forever g Q (fu e)) (record {
          form = renamed f P;
          converts = turned z;
          is_head_normal = record {
            abstractions = l;
            head = renamed f (variable_of ((i, l) ∷ ss) v);
            arguments = renamed_all f ft.0;
            variable = variable_is f ((i, l) ∷ ss) v;
            is = ap (renamed f) ft.1 ∙ renamed_head_normal f l (variable_of ((i, l) ∷ ss) v) ft.0;
          };
        })

    allowed_more : (t u : Part true) (ts us : Part false) → Allowed t u → Allowed ts us →
        Allowed (more t ts) (more u us)
    allowed_more t u ts us first later ss i o bt bu [] Qs ft fu z = absurd ft
    allowed_more t u ts us first later ss i o bt bu (P ∷ Ps) [] ft fu z = absurd fu
    allowed_more t u ts us first later ss i o bt bu (P ∷ Ps) (Q ∷ Qs) ft fu z = (
      first ss i o bt.0 bu.0 P Q ft.0 fu.0 z.0,
      λ s. (
          let e = sym (same_length t u s) in
          later ss (i + length (preorder t))
          (older_on ss i (i + length (preorder t)) o (omega arith)) bt.1
          (subst (λ n. IsBound ss (i + n) us) e bu.1) Ps Qs
          ft.1 (subst (λ n. Fills c ss (i + n) us Qs) e fu.1) z.1
          ),
    )

    allowed : {k : Bool} (T U : Part k) → Allowed T U
    allowed (term l v ts) (term m w us) = allowed_term l m v w ts us (allowed ts us)
    allowed (term l v ts) lost = allowed_head_lost l v ts
    allowed (term l v ts) cut = λ ss i o bt bu P Q ft fu z. tt
    allowed lost (term m w us) = allowed_lost_head m w us
    allowed lost lost = λ ss i o bt bu P Q ft fu z. tt
    allowed lost cut = λ ss i o bt bu P Q ft fu z. tt
    allowed cut u = λ ss i o bt bu P Q ft fu z. tt
    allowed none none = λ ss i o bt bu Ps Qs ft fu z. tt
    allowed none (more u us) = λ ss i o bt bu Ps Qs ft fu z. tt
    allowed (more t ts) none = λ ss i o bt bu Ps Qs ft fu z. tt
    allowed (more t ts) (more u us) = allowed_more t u ts us (allowed t u) (allowed ts us)

    whole_bound : (ns : List ReadNode) (T : Part true) → preorder T ≡ ns → IsWholeTree ns →
        IsBound [] 0 T
    whole_bound ns T e w =
        subst (λ T. IsBound [] 0 T) (list_is_of_one_tree w.tree T (w.is_list ∙ sym e)) w.bound

    -- where convertible terms were printed, no place that tells is the first one apart
    pub not_apart : (t u : Tree) (ns ms : List ReadNode) → ArePrinted t u b c ns ms →
        (k : ℕ) (path : List ℕ) → IsFirstApart names ns ms k path →
        Tells (place_at ns k) (place_at ms k) →
        Convertible (renamed f t) (renamed g u) → ⊥
    not_apart t u ns ms p k path x tells z =
        let T = p.first.tree in
        let U = p.second.tree in
        let m : ns ≡ preorder T ++ [] = sym p.first.is_list ∙ sym (append-nil (preorder T)) in
        let n : ms ≡ preorder U ++ [] = sym p.second.is_list ∙ sym (append-nil (preorder U)) in
        let h =
        allowed T U [] 0 tt (whole_bound ns T p.first.is_list p.first_whole)
        (whole_bound ms U p.second.is_list p.second_whole) p.first.reduct p.second.reduct
        p.first.fills p.second.fills
        (joined (turned (convertible (renamed_beta f p.first.reduces)))
        (joined z (convertible (renamed_beta g p.second.reduces)))) in
        x.apart (subst₂ (λ ps qs. AgreeAt names ps qs k) (sym m) (sym n)
        (none_apart T U [] [] k (count_one T ∙ sym (count_one U)) h
        (λ j lt. subst₂ (λ ps qs. AgreeAt names ps qs j) m n (x.before j lt))
        (subst (λ ps. k < length ps) (sym p.first.is_list) (path-within ns k path x.path_in_a))
        (subst₂ (λ ps qs. Tells (place_at ps k) (place_at qs k)) m n tells)))

pub comparison_tells : (names : TreeWithNames) (t u : Tree) (b c : Bool) (ns ms : List ReadNode) →
    ArePrinted t u b c ns ms → (x : Compared) → IsComparison names ns ms x → TellsTerms names t u x
comparison_tells names t u b c ns ms p answer.Equal h = equal_share names t u b c ns ms p h
comparison_tells names t u b c ns ms p (answer.Different path) h =
    λ z. not_apart names b c t u ns ms p h.0 path h.1 (inl h.2) z
comparison_tells names t u b c ns ms p (answer.Cut path) h = tt
