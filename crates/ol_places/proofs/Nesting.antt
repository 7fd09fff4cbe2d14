-- In a term each `let` has its `in`: a scan of its tokens ends with what waited before, and within it the tokens that are
-- left hold the `in` of each `let` that waits.
use Rattle.std.proofs.Common.{◌≡◌, ℕ, zero, suc, ◌+◌, ◌-◌, ◌<◌, ◌≤◌, List, [], ◌∷◌, ◌++◌, length, map, take}
use Rattle.std.proofs.Common.{refl, sym, ap, ◌∙◌, subst, arith, append_assoc, append-nil, length-append}
use Rattle.std.proofs.Math.Seq.{take-append_seam}
use Rattle.ol_parse.specs.Grammar.{Named, Token, name, let_key, in_key, lambda, dot, equals, open_bracket, close_bracket}
use Rattle.ol_parse.specs.Grammar.{IsTerm, term_body, term_spine, term_both, IsSpine, spine_one, spine_more}
use Rattle.ol_parse.specs.Grammar.{IsAtom, atom_name, atom_brackets, IsBody, body_lambda, body_let}
use Rattle.ol_places.specs.Scanned.{lets_after}
use Rattle.ol_places.proofs.Cuts.{Seam, inside, beyond, seam, head_of, tail_of, none_ends}

abbrev pub Each : (ℕ → Type 0) → List ℕ → Type 0
Each P [] = Unit {0}
Each P (x ∷ xs) = P x × Each P xs

pub each_map : (P Q : ℕ → Type 0) → ((n : ℕ) → P n → Q n) → (xs : List ℕ) → Each P xs → Each Q xs
each_map P Q f [] h = tt
each_map P Q f (x ∷ xs) h = (f x h.0, each_map P Q f xs h.1)

-- none is less than one before it
abbrev pub Rising : List ℕ → Type 0
Rising [] = Unit {0}
Rising (x ∷ xs) = Each (λ y. x ≤ y) xs × Rising xs

pop_push : (lets : List ℕ) (n : ℕ) → take (length (lets ++ (n ∷ [])) - 1) (lets ++ (n ∷ [])) ≡ lets
pop_push lets n =
    let l = length-append lets (n ∷ []) in
    let e : length (lets ++ (n ∷ [])) - 1 ≡ length lets = omega arith in
    ap (λ k. take k (lets ++ (n ∷ []))) e ∙ take-append_seam lets (n ∷ [])

-- The token behind which r others follow begins at byte `at r`.
module _ (at : ℕ → ℕ) (falls : (r q : ℕ) → r ≤ q → at q ≤ at r) where
  abbrev pub scan : List ℕ → List Token → List ℕ
  scan lets [] = lets
  scan lets (k ∷ ks) = scan (lets_after lets (at (length ks)) k) ks

  -- tokens u are followed by v, and a `let` of u that begins at this byte has its `in` in v
  pub record Waits (u v : List Token) (n : ℕ) : Type 0 where
    pub before : List Token
    pub within : List Token
    pub is : u ≡ before ++ (let_key ∷ within)
    pub x : List ℕ
    pub definition : List Token
    pub defined : Named
    pub term : IsTerm definition defined
    pub more : List Token
    pub parts : name x ∷ equals ∷ definition ≡ within ++ more
    pub after : List Token
    pub left : v ≡ more ++ (in_key ∷ after)
    pub starts : at (length within) ≡ n

  pub record Opened (lets : List ℕ) (u v : List Token) : Type 0 where
    pub new : List ℕ
    pub is : scan lets u ≡ lets ++ new
    pub each : Each (Waits u v) new
    pub rising : Rising new

  pub record IsBalanced (a : List Token) : Type 0 where
    pub over : (lets : List ℕ) (rest : List Token) → scan lets (a ++ rest) ≡ scan lets rest
    pub splits : (u v : List Token) → a ≡ u ++ v → (lets : List ℕ) → Opened lets u v

  -- ---- more tokens round a `let` that waits

  front_one : (k : Token) (u v : List Token) (n : ℕ) → Waits u v n → Waits (k ∷ u) v n
  front_one k u v n w = record {
    before = k ∷ w.before;
    within = w.within;
    is = ap (λ u. k ∷ u) w.is;
    x = w.x;
    definition = w.definition;
    defined = w.defined;
    term = w.term;
    more = w.more;
    parts = w.parts;
    after = w.after;
    left = w.left;
    starts = w.starts;
  }

  front_all : (a u v : List Token) (n : ℕ) → Waits u v n → Waits (a ++ u) v n
  front_all [] u v n w = w
  front_all (k ∷ a) u v n w = front_one k (a ++ u) v n (front_all a u v n w)

  back_all : (u v b : List Token) (n : ℕ) → Waits u v n → Waits u (v ++ b) n
  back_all u v b n w = record {
    before = w.before;
    within = w.within;
    is = w.is;
    x = w.x;
    definition = w.definition;
    defined = w.defined;
    term = w.term;
    more = w.more;
    parts = w.parts;
    after = w.after ++ b;
    left = ap (λ v. v ++ b) w.left ∙ append_assoc w.more (in_key ∷ w.after) b;
    starts = w.starts;
  }

  none_opened : (lets : List ℕ) (v : List Token) → Opened lets [] v
  none_opened lets v = record { new = []; is = sym (append-nil lets); each = tt; rising = tt }

  -- other tokens to which the same `let`s belong
  same_opened : {lets : List ℕ} {u v u' v' : List Token} (o : Opened lets u v) → scan lets u' ≡ scan lets u →
      ((n : ℕ) → Waits u v n → Waits u' v' n) → Opened lets u' v'
  same_opened {u = u} {v = v} {u' = u'} {v' = v'} o e f = record {
    new = o.new;
    is = e ∙ o.is;
    each = each_map (Waits u v) (Waits u' v') f o.new o.each;
    rising = o.rising;
  }

  -- ---- balanced tokens

  empty : IsBalanced []
  empty = record { over = λ lets rest. refl; splits = splits }
    where
      splits : (u v : List Token) → [] ≡ u ++ v → (lets : List ℕ) → Opened lets u v
      splits [] v e lets = none_opened lets v
      splits (k ∷ u) v e lets = absurd (cc)

  abbrev IsQuiet : Token → Type 0
  IsQuiet k = (lets : List ℕ) (n : ℕ) → lets_after lets n k ≡ lets

  one_more : {b : List Token} (k : Token) → IsQuiet k → IsBalanced b → IsBalanced (k ∷ b)
  one_more {b = b} k q m = record {
    over = λ lets rest. ap (λ l. scan l (b ++ rest)) (q lets (at (length (b ++ rest)))) ∙ m.over lets rest;
    splits = splits;
  }
    where
      splits : (u v : List Token) → k ∷ b ≡ u ++ v → (lets : List ℕ) → Opened lets u v
      splits [] v e lets = none_opened lets v
      splits (j ∷ u) v e lets = subst (λ j. Opened lets (j ∷ u) v) (head_of k j b (u ++ v) e)
          (same_opened (m.splits u v (tail_of k j b (u ++ v) e) lets)
          (ap (λ l. scan l u) (q lets (at (length u)))) (λ n w. front_one k u v n w))

  both : {a b : List Token} → IsBalanced a → IsBalanced b → IsBalanced (a ++ b)
  both {a = a} {b = b} m n = record {
    over = λ lets rest. ap (scan lets) (append_assoc a b rest) ∙ m.over lets (b ++ rest) ∙ n.over lets rest;
    splits = λ u v e lets. go u v lets (seam a b u v e);
  }
    where
      go : (u v : List Token) (lets : List ℕ) → Seam a b u v → Opened lets u v
      go u v lets (inside w f g) = subst (λ u. Opened lets u v) (sym f)
          (same_opened (n.splits w v g lets) (m.over lets w) (λ n h. front_all a w v n h))
      go u v lets (beyond w f g) = subst (λ v. Opened lets u v) (sym g)
          (same_opened (m.splits u w f lets) refl (λ n h. back_all u w b n h))

  -- ---- a `let`

  module _ (x : List ℕ) {d b : List Token} {t : Named} (i : IsTerm d t) (m : IsBalanced (name x ∷ equals ∷ d))
      (n : IsBalanced b) where
    abbrev E : List Token
    E = name x ∷ equals ∷ d

    let_over : (lets : List ℕ) (rest : List Token) →
        scan lets ((let_key ∷ E ++ (in_key ∷ b)) ++ rest) ≡ scan lets rest
    let_over lets rest =
        let s = at (length ((E ++ (in_key ∷ b)) ++ rest)) in
        ap (scan (lets ++ (s ∷ []))) (append_assoc E (in_key ∷ b) rest) ∙ m.over (lets ++ (s ∷ [])) (in_key ∷ b ++ rest)
        ∙ ap (λ l. scan l (b ++ rest)) (pop_push lets s) ∙ n.over lets rest

    -- before its `in`
    defining : (u w : List Token) (lets : List ℕ) → E ≡ u ++ w → Opened lets (let_key ∷ u) (w ++ (in_key ∷ b))
    defining u w lets e =
        let s = at (length u) in
        let o = m.splits u w e (lets ++ (s ∷ [])) in
        record {
          new = s ∷ o.new;
          is = o.is ∙ append_assoc lets (s ∷ []) o.new;
          each = (
            record {
              before = [];
              within = u;
              is = refl;
              x = x;
              definition = d;
              defined = t;
              term = i;
              more = w;
              parts = e;
              after = b;
              left = refl;
              starts = refl;
            },
            each_map (Waits u w) (Waits (let_key ∷ u) (w ++ (in_key ∷ b)))
                (λ n h. front_one let_key u (w ++ (in_key ∷ b)) n (back_all u w (in_key ∷ b) n h)) o.new o.each,
          );
          rising = (each_map (Waits u w) (λ y. s ≤ y) later o.new o.each, o.rising);
        }
      where
        later : (y : ℕ) → Waits u w y → at (length u) ≤ y
        later y h =
            let l = ap length h.is in
            let k = length-append h.before (let_key ∷ h.within) in
            subst (λ y. at (length u) ≤ y) h.starts (falls (length h.within) (length u) (omega arith))

    -- behind its `in`
    bound : (w v : List Token) (lets : List ℕ) → b ≡ w ++ v → Opened lets (let_key ∷ E ++ (in_key ∷ w)) v
    bound w v lets e =
        let s = at (length (E ++ (in_key ∷ w))) in
        same_opened (n.splits w v e lets)
        (m.over (lets ++ (s ∷ [])) (in_key ∷ w) ∙ ap (λ l. scan l w) (pop_push lets s))
        (λ n h. front_one let_key (E ++ (in_key ∷ w)) v n
        (front_all E (in_key ∷ w) v n (front_one in_key w v n h)))

    let_splits : (u v : List Token) → let_key ∷ E ++ (in_key ∷ b) ≡ u ++ v → (lets : List ℕ) → Opened lets u v
    let_splits [] v e lets = none_opened lets v
    let_splits (k ∷ u) v e lets = subst (λ k. Opened lets (k ∷ u) v)
        (head_of let_key k (E ++ (in_key ∷ b)) (u ++ v) e)
        (go (seam E (in_key ∷ b) u v (tail_of let_key k (E ++ (in_key ∷ b)) (u ++ v) e)))
      where
        go : Seam E (in_key ∷ b) u v → Opened lets (let_key ∷ u) v
        go (inside [] f g) = subst (λ u. Opened lets (let_key ∷ u) v) (sym (f ∙ append-nil E))
            (subst (λ v. Opened lets (let_key ∷ E) v) g (defining E [] lets (sym (append-nil E))))
        go (inside (j ∷ w) f g) = subst (λ u. Opened lets (let_key ∷ u) v)
            (ap (λ j. E ++ (j ∷ w)) (head_of in_key j b (w ++ v) g) ∙ sym f)
            (bound w v lets (tail_of in_key j b (w ++ v) g))
        go (beyond w f g) = subst (λ v. Opened lets (let_key ∷ u) v) (sym g) (defining u w lets f)

    pub balanced_let : IsBalanced (let_key ∷ E ++ (in_key ∷ b))
    balanced_let = record { over = let_over; splits = let_splits }

  -- ---- terms

  named : (x : List ℕ) → IsQuiet (name x)
  named x lets n = refl

  names : {b : List Token} (xs : List (List ℕ)) → IsBalanced b → IsBalanced (map name xs ++ b)
  names [] m = m
  names (x ∷ xs) m = one_more (name x) (named x) (names xs m)

  mutual
    pub term_balanced : {a : List Token} {t : Named} → IsTerm a t → IsBalanced a
    term_balanced (term_body b) = body_balanced b
    term_balanced (term_spine s) = spine_balanced s
    term_balanced (term_both s b) = both (spine_balanced s) (body_balanced b)

    spine_balanced : {a : List Token} {t : Named} → IsSpine a t → IsBalanced a
    spine_balanced (spine_one i) = atom_balanced i
    spine_balanced (spine_more s i) = both (spine_balanced s) (atom_balanced i)

    atom_balanced : {a : List Token} {t : Named} → IsAtom a t → IsBalanced a
    atom_balanced (atom_name {x = x}) = one_more (name x) (named x) empty
    atom_balanced (atom_brackets i) = one_more open_bracket (λ lets n. refl)
        (both (term_balanced i) (one_more close_bracket (λ lets n. refl) empty))

    body_balanced : {a : List Token} {t : Named} → IsBody a t → IsBalanced a
    body_balanced (body_lambda x xs i) = one_more lambda (λ lets n. refl)
        (names (x ∷ xs) (one_more dot (λ lets n. refl) (term_balanced i)))
    body_balanced (body_let x i j) = balanced_let x i
        (one_more (name x) (named x) (one_more equals (λ lets n. refl) (term_balanced i))) (term_balanced j)

  -- what waits behind the name and the `=` of a `let`, within its definition
  pub defined_balanced : (x : List ℕ) {d : List Token} {t : Named} → IsTerm d t → IsBalanced (name x ∷ equals ∷ d)
  defined_balanced x i = one_more (name x) (named x) (one_more equals (λ lets n. refl) (term_balanced i))
