-- What the machine accepts is in the grammar.
use Rattle.std.proofs.Common.{◌≡◌, ℕ, List, [], ◌∷◌, ◌++◌, map, Option, Some, None, option_and_then}
use Rattle.std.proofs.Common.{refl, sym, ap, ◌∙◌, subst, append_assoc, append-nil}
use Rattle.ol_parse.specs.Grammar.{Named, var, lam, app, Token, name, let_key, in_key, lambda, dot}
use Rattle.ol_parse.specs.Grammar.{equals, open_bracket, close_bracket, lams, IsTerm, term_body}
use Rattle.ol_parse.specs.Grammar.{term_spine, term_both, IsSpine, spine_one, spine_more, IsAtom}
use Rattle.ol_parse.specs.Grammar.{atom_name, atom_brackets, IsBody, body_lambda, body_let}
use Rattle.ol_parse.specs.Machine.{Frame, applied, abstracted, bound, bracket, defining, State, at}
use Rattle.ol_parse.specs.Machine.{first_name, more_names, let_name, let_equals, join, finish}
use Rattle.ol_parse.specs.Machine.{at_close, at_in, at_end, final, accepts}

-- tokens with which a spine goes on to a whole term
data Tail : Named → List Token → Named → Type 0 where
  tail_none : {f : Named} → Tail f [] f
  tail_atom : {f x v : Named} {a c : List Token} → IsAtom a x → Tail (app f x) c v → Tail f (a ++ c) v
  tail_body : {f v : Named} {c : List Token} → IsBody c v → Tail f c (app f v)

abbrev Grows : Option Named → List Token → Named → Type 0
Grows None a v = IsTerm a v
Grows (Some f) a v = Tail f a v

-- tokens in two parts, a term with what follows
record Split (P : List Token → Named → Type 0) (Q : Named → List Token → Type 0) (ks : List Token) : Type 0 where
  first : List Token
  second : List Token
  term : Named
  parts : ks ≡ first ++ second
  is_first : P first term
  is_second : Q term second

-- b is what comes behind the term u under these frames, and t the whole
abbrev Closing : List Frame → Named → Named → List Token → Type 0
Closing [] t u b = (b ≡ []) × (u ≡ t)
Closing (applied o ∷ fs) t u b = Closing fs t (join o u) b
Closing (abstracted x ∷ fs) t u b = Closing fs t (lam x u) b
Closing (bound x d ∷ fs) t u b = Closing fs t (app (lam x u) d) b
Closing (bracket o ∷ fs) t u b = (c : List Token) × (b ≡ close_bracket ∷ c) × Split (Tail (join o u)) (Closing fs t) c
Closing (defining x ∷ fs) t u b = (c : List Token) × (b ≡ in_key ∷ c)
    × Split IsTerm (λ v. Closing fs t (app (lam x v) u)) c

record Names (fs : List Frame) (t : Named) (xs : List (List ℕ)) (ks : List Token) : Type 0 where
  after : List Token
  parts : ks ≡ map name xs ++ (dot ∷ after)
  then : Split IsTerm (λ v. Closing fs t (lams xs v)) after

-- the rest ks brings the state to the whole term t
abbrev Rest : State → Named → List Token → Type 0
Rest (at o fs) t ks = Split (Grows o) (Closing fs t) ks
Rest (first_name fs) t ks = (x : List ℕ) × (xs : List (List ℕ)) × Names fs t (x ∷ xs) ks
Rest (more_names fs) t ks = (xs : List (List ℕ)) × Names fs t xs ks
Rest (let_name fs) t ks = (x : List ℕ) × (after : List Token) × (ks ≡ name x ∷ equals ∷ after)
    × Split IsTerm (Closing (defining x ∷ fs) t) after
Rest (let_equals x fs) t ks = (after : List Token) × (ks ≡ equals ∷ after)
    × Split IsTerm (Closing (defining x ∷ fs) t) after

closing : (fs : List Frame) (t u : Named) (b : List Token) →
    Closing (finish u fs).1 t (finish u fs).0 b → Closing fs t u b
closing [] t u b h = h
closing (applied o ∷ fs) t u b h = closing fs t (join o u) b h
closing (abstracted x ∷ fs) t u b h = closing fs t (lam x u) b h
closing (bound x d ∷ fs) t u b h = closing fs t (app (lam x u) d) b h
closing (bracket o ∷ fs) t u b h = h
closing (defining x ∷ fs) t u b h = h

spine_tail : {s c : List Token} {f v : Named} → Tail f c v → IsSpine s f → IsTerm (s ++ c) v
spine_tail {s = s} {f = f} tail_none i = subst (λ a. IsTerm a f) (sym (append-nil s)) (term_spine i)
spine_tail {s = s} {v = v} (tail_atom {a = a} {c = c} r l) i = subst (λ a. IsTerm a v)
    (append_assoc s a c) (spine_tail l (spine_more i r))
spine_tail (tail_body b) i = term_both i b

atom_grows : {a c : List Token} {x v : Named} (o : Option Named) → IsAtom a x → Tail (join o x) c v → Grows o (a ++ c) v
atom_grows None i l = spine_tail l (spine_one i)
atom_grows (Some f) i l = tail_atom i l

body_grows : {c : List Token} {v : Named} (o : Option Named) → IsBody c v → Grows o c (join o v)
body_grows None b = term_body b
body_grows (Some f) b = tail_body b

grow : {a ks : List Token} {x : Named} {Q : Named → List Token → Type 0} (o : Option Named) →
    IsAtom a x → Split (Tail (join o x)) Q ks → Split (Grows o) Q (a ++ ks)
grow {a = a} o i s = record {
  first = a ++ s.first;
  second = s.second;
  term = s.term;
  parts = ap (λ k. a ++ k) s.parts ∙ sym (append_assoc a s.first s.second);
  is_first = atom_grows o i s.is_first;
  is_second = s.is_second;
}

in_brackets : (o : Option Named) (fs : List Frame) (t : Named) (ks : List Token) →
    Split IsTerm (Closing (bracket o ∷ fs) t) ks → Split (Grows o) (Closing fs t) (open_bracket ∷ ks)
in_brackets o fs t ks s =
    let (c, e, r) = s.is_second in
    let g = grow {Q = Closing fs t} o (atom_brackets s.is_first) r in
    let p : open_bracket ∷ ks ≡ (open_bracket ∷ s.first ++ (close_bracket ∷ [])) ++ c = ap
    (λ k. open_bracket ∷ k) (s.parts ∙ ap (λ k. s.first ++ k) e
    ∙ sym (append_assoc s.first (close_bracket ∷ []) c)) in
    subst (Split (Grows o) (Closing fs t)) (sym p) g

under : (o : Option Named) (fs : List Frame) (t : Named) (ks : List Token) →
    Rest (first_name (applied o ∷ fs)) t ks → Split (Grows o) (Closing fs t) (lambda ∷ ks)
under o fs t ks (x, xs, n) =
    let s = n.then in
    record {
      first = lambda ∷ map name (x ∷ xs) ++ (dot ∷ s.first);
      second = s.second;
      term = join o (lams (x ∷ xs) s.term);
      parts = ap (λ k. lambda ∷ k) (n.parts ∙ ap (λ k. map name (x ∷ xs) ++ (dot ∷ k)) s.parts
          ∙ sym (append_assoc (map name (x ∷ xs)) (dot ∷ s.first) s.second));
      is_first = body_grows o (body_lambda x xs s.is_first);
      is_second = s.is_second;
    }

by_let : (o : Option Named) (fs : List Frame) (t : Named) (ks : List Token) →
    Rest (let_name (applied o ∷ fs)) t ks → Split (Grows o) (Closing fs t) (let_key ∷ ks)
by_let o fs t ks (x, after, e, s) =
    let (c, e', r) = s.is_second in
    record {
      first = let_key ∷ name x ∷ equals ∷ s.first ++ (in_key ∷ r.first);
      second = r.second;
      term = join o (app (lam x r.term) s.term);
      parts = ap (λ k. let_key ∷ k) (e ∙ ap (λ k. name x ∷ equals ∷ k)
          (s.parts ∙ ap (λ k. s.first ++ k) (e' ∙ ap (λ k. in_key ∷ k) r.parts)
          ∙ sym (append_assoc s.first (in_key ∷ r.first) r.second)));
      is_first = body_grows o (body_let x s.is_first r.is_first);
      is_second = r.is_second;
    }

no_more : (f : Named) (fs : List Frame) (t : Named) (ks : List Token) →
    Closing (finish f fs).1 t (finish f fs).0 ks → Rest (at (Some f) fs) t ks
no_more f fs t ks h = record {
  first = [];
  second = ks;
  term = f;
  parts = refl;
  is_first = tail_none;
  is_second = closing fs t f ks h;
}

at_the_end : (w : Named × List Frame) (t : Named) → at_end w ≡ Some t → Closing w.1 t w.0 []
at_the_end (u, []) t h = (refl, cc)
at_the_end (u, f ∷ fs) t h = absurd (cc)

at_a_close : (w : Named × List Frame) (t : Named) (ks : List Token) →
    ((s : State) → accepts s ks ≡ Some t → Rest s t ks) →
    option_and_then (λ s. accepts s ks) (at_close w) ≡ Some t → Closing w.1 t w.0 (close_bracket ∷ ks)
at_a_close (u, bracket o ∷ fs) t ks each h = (ks, refl, each (at (Some (join o u)) fs) h)
at_a_close _ t ks each h = absurd (cc)

at_an_in : (w : Named × List Frame) (t : Named) (ks : List Token) →
    ((s : State) → accepts s ks ≡ Some t → Rest s t ks) →
    option_and_then (λ s. accepts s ks) (at_in w) ≡ Some t → Closing w.1 t w.0 (in_key ∷ ks)
at_an_in (u, defining x ∷ fs) t ks each h = (ks, refl, each (at None (bound x u ∷ fs)) h)
at_an_in _ t ks each h = absurd (cc)

sound_at : (o : Option Named) (fs : List Frame) (t : Named) (k : Token) (ks : List Token) →
    ((s : State) → accepts s ks ≡ Some t → Rest s t ks) → accepts (at o fs) (k ∷ ks) ≡ Some t →
    Split (Grows o) (Closing fs t) (k ∷ ks)
sound_at o fs t (name x) ks each h = grow {Q = Closing fs t} o atom_name (each (at (Some (join o (var x))) fs) h)
sound_at o fs t open_bracket ks each h = in_brackets o fs t ks (each (at None (bracket o ∷ fs)) h)
sound_at o fs t lambda ks each h = under o fs t ks (each (first_name (applied o ∷ fs)) h)
sound_at o fs t let_key ks each h = by_let o fs t ks (each (let_name (applied o ∷ fs)) h)
sound_at (Some f) fs t close_bracket ks each h = no_more f fs t (close_bracket ∷ ks)
    (at_a_close (finish f fs) t ks each h)
sound_at (Some f) fs t in_key ks each h = no_more f fs t (in_key ∷ ks) (at_an_in (finish f fs) t ks each h)
sound_at _ fs t _ ks each h = absurd (cc)

one_more : (fs : List Frame) (t : Named) (x : List ℕ) (xs : List (List ℕ)) (ks : List Token) →
    Names (abstracted x ∷ fs) t xs ks → Names fs t (x ∷ xs) (name x ∷ ks)
one_more fs t x xs ks n = record { after = n.after; parts = ap (λ k. name x ∷ k) n.parts; then = n.then }

sound_step : (s : State) (t : Named) (k : Token) (ks : List Token) →
    ((s : State) → accepts s ks ≡ Some t → Rest s t ks) → accepts s (k ∷ ks) ≡ Some t → Rest s t (k ∷ ks)
sound_step (at o fs) t k ks each h = sound_at o fs t k ks each h
sound_step (first_name fs) t (name x) ks each h = let (xs, n) = each
    (more_names (abstracted x ∷ fs)) h in (x, xs, one_more fs t x xs ks n)
sound_step (first_name fs) t _ ks each h = absurd (cc)
sound_step (more_names fs) t (name x) ks each h = let (xs, n) = each
    (more_names (abstracted x ∷ fs)) h in (x ∷ xs, one_more fs t x xs ks n)
sound_step (more_names fs) t dot ks each h = ([], record { after = ks; parts = refl; then = each (at None fs) h })
sound_step (more_names fs) t _ ks each h = absurd (cc)
sound_step (let_name fs) t (name x) ks each h = let (after, e, s) = each (let_equals x fs) h in
    (x, after, ap (λ k. name x ∷ k) e, s)
sound_step (let_name fs) t _ ks each h = absurd (cc)
sound_step (let_equals x fs) t equals ks each h = (ks, refl, each (at None (defining x ∷ fs)) h)
sound_step (let_equals x fs) t _ ks each h = absurd (cc)

sound_none : (s : State) (t : Named) → final s ≡ Some t → Rest s t []
sound_none (at (Some f) fs) t h = no_more f fs t [] (at_the_end (finish f fs) t h)
sound_none _ t h = absurd (cc)

sound_all : (t : Named) (ks : List Token) (s : State) → accepts s ks ≡ Some t → Rest s t ks
sound_all t [] s h = sound_none s t h
sound_all t (k ∷ ks) s h = sound_step s t k ks (sound_all t ks) h

-- what is accepted is in the grammar
pub sound : (t : Named) (ks : List Token) → accepts (at None []) ks ≡ Some t → IsTerm ks t
sound t ks h =
    let s = sound_all t ks (at None []) h in
    let e = s.is_second.0 in
    subst (λ t. IsTerm ks t) s.is_second.1
    (subst (λ k. IsTerm k s.term) (sym (s.parts ∙ ap (λ k. s.first ++ k) e ∙ append-nil s.first)) s.is_first)
