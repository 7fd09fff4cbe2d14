-- The machine accepts what the grammar has, and nothing else.
use Rattle.std.proofs.Common.{◌≡◌, ℕ, List, [], ◌∷◌, ◌++◌, map, Option, Some, None, option_and_then}
use Rattle.std.proofs.Common.{refl, sym, ap, ◌∙◌, append_assoc, append-nil}
use Rattle.ol_parse.specs.Grammar.{Named, Token, name, in_key, dot, close_bracket, lams, IsTerm}
use Rattle.ol_parse.specs.Grammar.{term_body, term_spine, term_both, IsSpine, spine_one, spine_more}
use Rattle.ol_parse.specs.Grammar.{IsAtom, atom_name, atom_brackets, IsBody, body_lambda, body_let}
use Rattle.ol_parse.specs.Machine.{Frame, applied, abstracted, bound, bracket, defining, State, at, first_name}
use Rattle.ol_parse.specs.Machine.{more_names, join, finish, at_close, at_in, at_end, accepts}

-- Reading a from these leads to a spine under frames that finish as given, whatever follows.
pub record Leads (s : State) (a : List Token) (whole : Named × List Frame) : Type 0 where
  pub spine : Named
  pub frames : List Frame
  pub read : (rest : List Token) → accepts s (a ++ rest) ≡ accepts (at (Some spine) frames) rest
  pub same : finish spine frames ≡ whole

abbrev names_then : (xs : List (List ℕ)) → List Frame → List Frame
names_then [] fs = fs
names_then (x ∷ xs) fs = names_then xs (abstracted x ∷ fs)

reads_names : (xs : List (List ℕ)) (fs : List Frame) (rest : List Token) →
    accepts (more_names fs) (map name xs ++ (dot ∷ rest)) ≡ accepts (at None (names_then xs fs)) rest
reads_names [] fs rest = refl
reads_names (x ∷ xs) fs rest = reads_names xs (abstracted x ∷ fs) rest

finish_names : (xs : List (List ℕ)) (u : Named) (fs : List Frame) → finish u (names_then xs fs) ≡ finish (lams xs u) fs
finish_names [] u fs = refl
finish_names (x ∷ xs) u fs = finish_names xs u (abstracted x ∷ fs)

mutual
  leads_term : {a : List Token} {t : Named} → IsTerm a t → (fs : List Frame) → Leads (at None fs) a (finish t fs)
  leads_term (term_body b) fs = leads_body b None fs
  leads_term (term_spine {t = t} s) fs = record { spine = t; frames = fs; read = reads_spine s fs; same = refl }
  leads_term (term_both {a = a} {b = b} {f = f} s r) fs =
      let l = leads_body r (Some f) fs in
      record {
        spine = l.spine;
        frames = l.frames;
        read = λ rest. ap (accepts (at None fs)) (append_assoc a b rest) ∙ reads_spine s fs (b ++ rest) ∙ l.read rest;
        same = l.same;
      }

  reads_spine : {a : List Token} {t : Named} → IsSpine a t → (fs : List Frame) (rest : List Token) →
      accepts (at None fs) (a ++ rest) ≡ accepts (at (Some t) fs) rest
  reads_spine (spine_one a) fs rest = reads_atom a None fs rest
  reads_spine (spine_more {a = a} {b = b} {f = f} s r) fs rest =
      ap (accepts (at None fs)) (append_assoc a b rest) ∙ reads_spine s fs (b ++ rest) ∙ reads_atom r (Some f) fs rest

  reads_atom : {a : List Token} {t : Named} → IsAtom a t →
      (o : Option Named) (fs : List Frame) (rest : List Token) →
      accepts (at o fs) (a ++ rest) ≡ accepts (at (Some (join o t)) fs) rest
  reads_atom atom_name o fs rest = refl
  reads_atom (atom_brackets {a = a} i) o fs rest =
      let l = leads_term i (bracket o ∷ fs) in
      ap (accepts (at None (bracket o ∷ fs))) (append_assoc a (close_bracket ∷ []) rest) ∙ l.read (close_bracket ∷ rest)
      ∙ ap (λ w. option_and_then (λ s. accepts s rest) (at_close w)) l.same

  leads_body : {a : List Token} {t : Named} → IsBody a t → (o : Option Named) (fs : List Frame) →
      Leads (at o fs) a (finish (join o t) fs)
  leads_body (body_lambda x xs {a = a} i) o fs =
      let gs = names_then (x ∷ xs) (applied o ∷ fs) in
      let l = leads_term i gs in
      record {
        spine = l.spine;
        frames = l.frames;
        read = λ rest. ap (λ ks. accepts (first_name (applied o ∷ fs)) (name x ∷ ks))
            (append_assoc (map name xs) (dot ∷ a) rest)
            ∙ reads_names xs (abstracted x ∷ applied o ∷ fs) (a ++ rest) ∙ l.read rest;
        same = l.same ∙ finish_names (x ∷ xs) _ (applied o ∷ fs);
      }
  leads_body (body_let x {a = a} {b = b} {d = d} i j) o fs =
      let l = leads_term i (defining x ∷ applied o ∷ fs) in
      let m = leads_term j (bound x d ∷ applied o ∷ fs) in
      record {
        spine = m.spine;
        frames = m.frames;
        read = λ rest. ap (accepts (at None (defining x ∷ applied o ∷ fs)))
            (append_assoc a (in_key ∷ b) rest) ∙ l.read (in_key ∷ b ++ rest)
            ∙ ap (λ w. option_and_then (λ s. accepts s (b ++ rest)) (at_in w)) l.same ∙ m.read rest;
        same = m.same;
      }

-- what the grammar has is accepted
pub complete : {a : List Token} {t : Named} → IsTerm a t → accepts (at None []) a ≡ Some t
complete {a = a} {t = t} i =
    let l = leads_term i [] in
    ap (accepts (at None [])) (sym (append-nil a)) ∙ l.read [] ∙ ap at_end l.same
