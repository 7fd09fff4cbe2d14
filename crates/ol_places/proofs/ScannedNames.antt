-- A scan of tokens finds exactly the free names of a reading.
use Rattle.std.proofs.Common.{◌≡◌, ℕ, Bool, false, List, [], ◌∷◌, ◌++◌, map, refl, sym, ap, ◌∙◌, append_assoc, append-nil}
use Rattle.ol_parse.specs.Grammar.{Named, Token, name, in_key, dot, close_bracket, IsTerm, term_body, term_spine}
use Rattle.ol_parse.specs.Grammar.{term_both, IsSpine, spine_one, spine_more, IsAtom, atom_name, atom_brackets}
use Rattle.ol_parse.specs.Grammar.{IsBody, body_lambda, body_let}
use Rattle.ol_places.specs.declared.scanning.Mode.TheVariants.{Atom, Names}
use Rattle.ol_places.specs.Occurrences.{free_in_term, free_in_spine, free_in_atom, free_in_body}
use Rattle.ol_places.specs.Scans.{Scope, bracket, binder, defining, bound_by, unwound, closed, rebound, frees}

-- Tokens of a reading have these flags, and behind them are scopes that end as those before.
record Leads (ss : List Scope) (a : List Token) (flags : List Bool) : Type 0 where
  scopes : List Scope
  read : (rest : List Token) → frees Atom ss (a ++ rest) ≡ flags ++ frees Atom scopes rest
  same : unwound scopes ≡ unwound ss

abbrev names_then : List (List ℕ) → List Scope → List Scope
names_then [] ss = ss
names_then (x ∷ xs) ss = names_then xs (binder x ∷ ss)

reads_names : (xs : List (List ℕ)) (ss : List Scope) (rest : List Token) →
    frees Names ss (map name xs ++ (dot ∷ rest))
    ≡ map (λ y. false) xs ++ (false ∷ frees Atom (names_then xs ss) rest)
reads_names [] ss rest = refl
reads_names (x ∷ xs) ss rest = ap (λ l. false ∷ l) (reads_names xs (binder x ∷ ss) rest)

bound_names : (xs : List (List ℕ)) (ss : List Scope) → bound_by (names_then xs ss) ≡ bound_by ss ++ xs
bound_names [] ss = sym (append-nil (bound_by ss))
bound_names (x ∷ xs) ss = bound_names xs (binder x ∷ ss) ∙ append_assoc (bound_by ss) (x ∷ []) xs

unwound_names : (xs : List (List ℕ)) (ss : List Scope) → unwound (names_then xs ss) ≡ unwound ss
unwound_names [] ss = refl
unwound_names (x ∷ xs) ss = unwound_names xs (binder x ∷ ss)

mutual
  leads_term : {a : List Token} {t : Named} (i : IsTerm a t) (ss : List Scope) →
      Leads ss a (free_in_term (bound_by ss) i)
  leads_term (term_body b) ss = leads_body b ss
  leads_term (term_spine s) ss = record { scopes = ss; read = reads_spine s ss; same = refl }
  leads_term (term_both {a = a} {b = b} s r) ss =
      let l = leads_body r ss in
      record {
        scopes = l.scopes;
        read = λ rest. ap (frees Atom ss) (append_assoc a b rest) ∙ reads_spine s ss (b ++ rest)
            ∙ ap (λ fs. free_in_spine (bound_by ss) s ++ fs) (l.read rest)
            ∙ sym (append_assoc (free_in_spine (bound_by ss) s) (free_in_body (bound_by ss) r) (frees Atom l.scopes rest));
        same = l.same;
      }

  reads_spine : {a : List Token} {t : Named} (i : IsSpine a t) (ss : List Scope) (rest : List Token) →
      frees Atom ss (a ++ rest) ≡ free_in_spine (bound_by ss) i ++ frees Atom ss rest
  reads_spine (spine_one i) ss rest = reads_atom i ss rest
  reads_spine (spine_more {a = a} {b = b} s i) ss rest =
      ap (frees Atom ss) (append_assoc a b rest) ∙ reads_spine s ss (b ++ rest)
      ∙ ap (λ fs. free_in_spine (bound_by ss) s ++ fs) (reads_atom i ss rest)
      ∙ sym (append_assoc (free_in_spine (bound_by ss) s) (free_in_atom (bound_by ss) i) (frees Atom ss rest))

  reads_atom : {a : List Token} {t : Named} (i : IsAtom a t) (ss : List Scope) (rest : List Token) →
      frees Atom ss (a ++ rest) ≡ free_in_atom (bound_by ss) i ++ frees Atom ss rest
  reads_atom atom_name ss rest = refl
  reads_atom (atom_brackets {a = a} i) ss rest =
      let l = leads_term i (bracket ∷ ss) in
      let flags = free_in_term (bound_by ss) i in
      ap (λ fs. false ∷ fs) (ap (frees Atom (bracket ∷ ss)) (append_assoc a (close_bracket ∷ []) rest)
      ∙ l.read (close_bracket ∷ rest)
      ∙ ap (λ gs. flags ++ (false ∷ frees Atom (closed gs) rest)) l.same
      ∙ sym (append_assoc flags (false ∷ []) (frees Atom ss rest)))

  leads_body : {a : List Token} {t : Named} (i : IsBody a t) (ss : List Scope) →
      Leads ss a (free_in_body (bound_by ss) i)
  leads_body (body_lambda x xs {a = a} i) ss =
      let gs = names_then (x ∷ xs) ss in
      let l = leads_term i gs in
      let none = map (λ (y : List ℕ). false) (x ∷ xs) in
      let flags = free_in_term (bound_by ss ++ (x ∷ xs)) i in
      record {
        scopes = l.scopes;
        read = λ rest. ap (λ fs. false ∷ fs)
            (ap (frees Names ss) (append_assoc (map name (x ∷ xs)) (dot ∷ a) rest)
            ∙ reads_names (x ∷ xs) ss (a ++ rest)
            ∙ ap (λ fs. none ++ (false ∷ fs)) (l.read rest)
            ∙ ap (λ bound. none ++ (false ∷ free_in_term bound i ++ frees Atom l.scopes rest)) (bound_names (x ∷ xs) ss)
            ∙ sym (append_assoc none (false ∷ flags) (frees Atom l.scopes rest)));
        same = l.same ∙ unwound_names (x ∷ xs) ss;
      }
  leads_body (body_let x {a = a} {b = b} i j) ss =
      let l = leads_term i (defining x ∷ ss) in
      let m = leads_term j (binder x ∷ ss) in
      let first = free_in_term (bound_by ss) i in
      let second = free_in_term (bound_by ss ++ (x ∷ [])) j in
      record {
        scopes = m.scopes;
        read = λ rest. ap (λ fs. false ∷ false ∷ false ∷ fs)
            (ap (frees Atom (defining x ∷ ss)) (append_assoc a (in_key ∷ b) rest)
            ∙ l.read (in_key ∷ b ++ rest)
            ∙ ap (λ gs. first ++ (false ∷ frees Atom (rebound gs) (b ++ rest))) l.same
            ∙ ap (λ fs. first ++ (false ∷ fs)) (m.read rest)
            ∙ sym (append_assoc first (false ∷ second) (frees Atom m.scopes rest)));
        same = m.same;
      }

-- a scan of all tokens finds the free names
pub scanned : {a : List Token} {t : Named} (i : IsTerm a t) → frees Atom [] a ≡ free_in_term [] i
scanned {a = a} i =
    let l = leads_term i [] in
    ap (frees Atom []) (sym (append-nil a)) ∙ l.read [] ∙ append-nil (free_in_term [] i)
