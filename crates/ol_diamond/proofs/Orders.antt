-- Runs of any steps of which two commute: complete runs agree.
use Rattle.std.proofs.Common.{◌≡◌, ℕ, ◌+◌, ◌≤◌, List, [], ◌∷◌, ◌++◌, Bool, ◌⊎◌, inl, inr, refl, sym, ap, ◌∙◌, arith}
use Rattle.ol_law_edges.specs.Edges.{bit}

pub record Commuting {ℓ} {S : Type ℓ} {L : Type 0} (Good : S → Type 0) (Same : S → S → Type 0)
    (Alike : L → L → Type 0) (Step : S → L → S → Type 0) : Type ℓ where
  pub same_refl : (s : S) → Same s s
  pub same_sym : (s t : S) → Same s t → Same t s
  pub same_trans : (s t u : S) → Same s t → Same t u → Same s u
  pub good : (s t : S) (l : L) → Good s → Step s l t → Good t
  pub alike_refl : (l : L) → Alike l l
  pub one : (s s' t t' : S) (l m : L) → Alike l m → Good s → Good s' → Same s s' → Step s l t → Step s' m t' → Same t t'
  pub also : (s s' t : S) (l : L) → Good s → Good s' → Same s s' → Step s l t → (t' : S) × Step s' l t'
  pub square : (s t u : S) (l m : L) → Good s → Step s l t → Step s m u → (Alike l m → ⊥) →
      (v : S) × (w : S) × Step t m v × Step u l w × Same v w
  pub is : (l m : L) → Alike l m ⊎ (Alike l m → ⊥)
  pub alike_sym : (l m : L) → Alike l m → Alike m l

module _ {ℓ} {S : Type ℓ} {L : Type 0} (Step : S → L → S → Type 0) where
  pub data Run : S → List L → S → Type ℓ where
    end : {s : S} → Run s [] s
    then : {s t u : S} {l : L} {ls : List L} → Step s l t → Run t ls u → Run s (l ∷ ls) u

  abbrev pub Ended : S → Type ℓ
  Ended s = (l : L) (t : S) → Step s l t → ⊥

-- how many pass a test
abbrev pub tally : {L : Type 0} → (L → Bool) → List L → ℕ
tally p [] = 0
tally p (l ∷ ls) = bit (p l) + tally p ls

tally_append : {L : Type 0} (p : L → Bool) (xs ys : List L) → tally p (xs ++ ys) ≡ tally p xs + tally p ys
tally_append p [] ys = omega arith
tally_append p (l ∷ xs) ys = let h = tally_append p xs ys in omega arith

module _ {ℓ} {S : Type ℓ} {L : Type 0} {Good : S → Type 0} {Same : S → S → Type 0} {Alike : L → L →
    Type 0} {Step : S → L → S → Type 0} (c : Commuting Good Same Alike Step) where
  -- the same run from the same start
  run_also : (s s' t : S) (ls : List L) → Good s → Good s' → Same s s' → Run Step s ls t →
      (t' : S) × Run Step s' ls t' × Same t t'
  run_also s s' t [] g g' q end = (s', end, q)
  run_also s s' t (l ∷ ls) g g' q (then {t = u} h r) =
      let a = c.also s s' u l g g' q h in
      let b = run_also u a.0 t ls (c.good s u l g h) (c.good s' a.0 l g' a.1)
      (c.one s s' u a.0 l l (c.alike_refl l) g g' q h a.1) r in
      (b.0, then a.1 b.1, b.2)

  pub ended_also : (s s' : S) → Good s → Good s' → Same s s' → Ended Step s → Ended Step s'
  ended_also s s' g g' q e l t h = let a = c.also s' s t l g' g (c.same_sym s s' q) h in e l a.0 a.1

  pub good_end : (s t : S) (ls : List L) → Good s → Run Step s ls t → Good t
  good_end s t [] g end = g
  good_end s t (l ∷ ls) g (then {t = u} h r) = good_end u t ls (c.good s u l g h) r

  -- a label that can be taken now stands in a complete run, and can be moved to its front
  pub record Front (l : L) (ls : List L) (u t : S) : Type ℓ where
    pub before : List L
    pub after : List L
    pub label : L
    pub alike : Alike l label
    pub is : ls ≡ before ++ (label ∷ after)
    pub end_state : S
    pub run : Run Step u (before ++ after) end_state
    pub same : Same t end_state

  pub to_front : (s u t : S) (l : L) (ls : List L) → Good s → Step s l u → Run Step s ls t →
      Ended Step t → Front l ls u t
  to_front s u t l [] g h end e = absurd (e l u h)
  to_front s u t l (m ∷ ls) g h (then {t = v} k r) e = go (c.is m l)
      (λ (w : S) (x : Step v l w). to_front v w t l ls (c.good s v m g k) x r e)
    where
      go : Alike m l ⊎ (Alike m l → ⊥) → ((w : S) → Step v l w → Front l ls w t) → Front l (m ∷ ls) u t
      go (inl q) ih =
          let same = c.one s s v u m l q g g (c.same_refl s) k h in
          let a = run_also v u t ls (c.good s v m g k) (c.good s u l g h) same r in
          record {
            before = [];
            after = ls;
            label = m;
            alike = c.alike_sym m l q;
            is = refl;
            end_state = a.0;
            run = a.1;
            same = a.2;
          }
      go (inr n) ih =
          let sq = c.square s u v l m g h k (λ q. n (c.alike_sym l m q)) in
          let f = ih sq.1 sq.3 in
          let gu = c.good s u l g h in
          let gv = c.good s v m g k in
          let a = run_also sq.1 sq.0 f.end_state (f.before ++ f.after) (c.good v sq.1 l gv sq.3)
          (c.good u sq.0 m gu sq.2) (c.same_sym sq.0 sq.1 sq.4) f.run in
          record {
            before = m ∷ f.before;
            after = f.after;
            label = f.label;
            alike = f.alike;
            is = ap (λ ls. m ∷ ls) f.is;
            end_state = a.0;
            run = then sq.2 a.1;
            same = c.same_trans t f.end_state a.0 f.same a.2;
          }

  front_tally : (p : L → Bool) (l : L) (xs ys : List L) → tally p (xs ++ (l ∷ ys)) ≡ bit (p l) + tally p (xs ++ ys)
  front_tally p l xs ys = let a = tally_append p xs (l ∷ ys) in let b = tally_append p xs ys in omega arith

  -- no run is longer than a complete one, nor has it a label more often
  pub no_more : (s t u : S) (ls ms : List L) → Good s → Run Step s ls t → Ended Step t →
      Run Step s ms u → (p : L → Bool) → ((l m : L) → Alike l m → p l ≡ p m) → tally p ms ≤ tally p ls
  no_more s t u ls [] g r e end p k = omega arith
  no_more s t u ls (m ∷ ms) g r e (then {t = v} h r') p k =
      let f = to_front s v t m ls g h r e in
      let gv = c.good s v m g h in
      let e' = ended_also t f.end_state (good_end s t ls g r)
      (good_end v f.end_state (f.before ++ f.after) gv f.run) f.same e in
      let ih = no_more v f.end_state u (f.before ++ f.after) ms gv f.run e' r' p k in
      let q = ap (tally p) f.is ∙ front_tally p f.label f.before f.after in
      let b = ap bit (k m f.label f.alike) in
      omega arith

  -- complete runs have the same labels, each as often, and come to the same
  pub agree : (s t u : S) (ls ms : List L) → Good s → Run Step s ls t → Ended Step t → Run Step s ms u → Ended Step u →
      ((p : L → Bool) → ((l m : L) → Alike l m → p l ≡ p m) → tally p ls ≡ tally p ms) × Same t u
  agree s t u [] [] g end e end e' = ((λ p k. refl), c.same_refl s)
  agree s t u (l ∷ ls) [] g (then {t = v} h r) e end e' = absurd (e' l v h)
  agree s t u ls (m ∷ ms) g r e (then {t = v} h r') e' =
      let f = to_front s v t m ls g h r e in
      let gv = c.good s v m g h in
      let e2 = ended_also t f.end_state (good_end s t ls g r)
      (good_end v f.end_state (f.before ++ f.after) gv f.run) f.same e in
      let ih = agree v f.end_state u (f.before ++ f.after) ms gv f.run e2 r' e' in (
        (λ p k. ap (tally p) f.is ∙ front_tally p f.label f.before f.after
            ∙ ap (λ b. bit b + tally p (f.before ++ f.after)) (sym (k m f.label f.alike))
            ∙ ap (λ n. bit (p m) + n) (ih.0 p k)),
        c.same_trans t f.end_state u f.same ih.1,
      )
