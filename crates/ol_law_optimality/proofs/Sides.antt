-- Each spot has two sides, and on each one neighbour at most: so trails between ends read one word.
use Rattle.std.proofs.Common.{◌≡◌, ℕ, Bool, true, false, not, [], ◌++◌, ◌⊎◌, inl, inr, refl, sym, ap, ◌∙◌, subst}
use Rattle.std.proofs.lemmas.List.{append_assoc}
use Rattle.ol_context.proofs.Contexts.{head_eq, tail_eq}
use Rattle.ol_law_optimality.specs.Met.{IsMatched, blank}
use Rattle.ol_law_optimality.proofs.Sites.{no_wire, no_root}
use Rattle.ol_law_meaning.specs.Contraction.{Tree, lam, app, Level, empty, o, star, Context, cons, bound, name, Place}
use Rattle.ol_law_meaning.specs.Contraction.{root, wire, Spot, at, body, fun, arg, Edge, var_wire, free_wire, lam_root}
use Rattle.ol_law_meaning.specs.Contraction.{lam_own, lam_wire, app_root, app_arg, app_left, app_right, in_body, in_fun}
use Rattle.ol_law_meaning.specs.Contraction.{in_arg, Trail, here, on, back}
use Rattle.ol_law_meaning.proofs.Addresses.{left_one, right_one, sides_apart}
use Rattle.ol_law_optimality.specs.Labels.{Labelled, erased}
use Rattle.ol_law_meaning.specs.Sites.{Site, self, in_lam, in_function, in_argument, PartAt, whole, of_lam, of_function}
use Rattle.ol_law_meaning.specs.Sites.{of_argument, function_at, abstraction_at}
use Rattle.ol_term.specs.declared.translations.Translation.{Translation}
use Rattle.ol_law_optimality.specs.Signs.{Signs, signs_of, reversed}
use Rattle.ol_law_optimality.specs.Readings.{reading, word_along, function_label, moved, AreAlike, SiteHasOneWord}
use Rattle.ol_law_optimality.proofs.Motions.{moved_append, moved_back, moved_there}
use Rattle.ol_law_meaning.proofs.Channels.{under_one, under_zero}

-- the sides on which an edge is, of its outer spot and of its inner one: a part's interface has the part inside
abbrev sides : Spot → Spot → Bool × Bool
sides (at p v c) (at q u d) = (true, true)
sides (at p v c) (body z) = (true, false)
sides (at p v c) (fun z) = (true, false)
sides (at p v c) (arg u z) = (true, false)
sides (body s) (at q u d) = (true, true)
sides (body s) (body z) = sides s z
sides (body s) (fun z) = (true, true)
sides (body s) (arg u z) = (true, true)
sides (fun s) (at q u d) = (true, true)
sides (fun s) (body z) = (true, true)
sides (fun s) (fun z) = sides s z
sides (fun s) (arg u z) = (false, false)
sides (arg v s) (at q u d) = (true, true)
sides (arg v s) (body z) = (true, true)
sides (arg v s) (fun z) = (true, true)
sides (arg v s) (arg u z) = sides s z

from_interface : (p : Place) (v : Level) (c : Context) (z : Spot) → (sides (at p v c) z).0 ≡ true
from_interface p v c (at q u d) = refl
from_interface p v c (body z) = refl
from_interface p v c (fun z) = refl
from_interface p v c (arg u z) = refl

apart : false ≡ true → ⊥
apart e = absurd (cc)

module _ {τ : Translation} where
  to_interface : {t : Tree} {s : Spot} {p : Place} {v : Level} {c : Context} {n : ℕ} → Edge τ t s (at p v c) n → (sides s (at p v c)).1 ≡ true
  to_interface {s = at q u d} e = refl
  to_interface {s = body z} e = refl
  to_interface {s = fun z} e = refl
  to_interface {s = arg u z} e = refl

  -- two edges from one outer spot, on one side of it
  two_out : {t : Tree} {s z z' : Spot} {n n' : ℕ} → Edge τ t s z n → Edge τ t s z' n' → (sides s z).0 ≡ (sides s z').0 → z ≡ z'
  two_out (var_wire {y = y} e) (var_wire e') q = ap (at (wire (bound y)) empty) (e ∙ sym e')
  two_out (free_wire {f = f} e) (free_wire e') q = ap (at (wire (name f)) empty) (e ∙ sym e')
  two_out lam_root lam_root q = refl
  two_out (lam_own m) (lam_own m') q = refl
  two_out (lam_wire {a = a} {c = c} e m) (lam_wire e' m') q = ap (λ z. body (at (wire z) a c)) (e ∙ sym e')
  two_out (in_body e) (in_body e') q = ap body (two_out e e' q)
  two_out app_root app_root q = refl
  two_out (app_arg {v = v} {u = u} {d = d} e) (app_arg {u = u'} {d = d'} e') q =
      let k : cons u d ≡ cons u' d' = sym e ∙ e' in ap (λ u. arg v (at root u d)) (head_eq u u' d d' k) ∙ ap (λ d. arg v (at root u' d)) (tail_eq u u' d d' k)
  two_out (app_arg {v = v} {c = c} e) (in_fun {s' = z'} e') q = absurd (apart (q ∙ from_interface root (star v) c z'))
  two_out (in_fun {s' = z} e) (app_arg {v = v} {c = c} e') q = absurd (apart (sym q ∙ from_interface root (star v) c z))
  two_out (app_left {N = N} {y = y} {a = a} {c = c} m e) (app_left {a = a'} m' e') q = ap (λ a. fun (at (wire y) a c)) (left_one N y a a' (sym e ∙ e'))
  two_out (app_left {M = M} {N = N} {y = y} {a = a} m e) (app_right {b = b} {v = v} m' e') q = absurd (sides_apart M N y a b v m m' e e')
  two_out (app_right {M = M} {N = N} {y = y} {b = b} {v = v} m e) (app_left {a = a} m' e') q = absurd (sides_apart M N y a b v m' m e' e)
  two_out (app_right {y = y} {b = b} {v = v} {c = c} m e) (app_right {b = b'} {v = v'} m' e') q =
      let k = right_one e e' refl in ap (λ b. arg v (at (wire y) b c)) k.0 ∙ ap (λ v. arg v (at (wire y) b' c)) k.1
  two_out (in_fun e) (in_fun e') q = ap fun (two_out e e' q)
  two_out (in_arg {v = v} e) (in_arg e') q = ap (arg v) (two_out e e' q)

  -- only an occurrence's root is joined to a wire of the interface
  root_of : {t : Tree} {z s : Spot} {n : ℕ} → Edge τ t z s n → (p : Place) (l : Level) (d : Context) → s ≡ at p l d → (v : Level) × (c : Context) × (z ≡ at root v c) × (d ≡ cons v c)
  root_of (var_wire {v = v} {c = c} {d = d'} e) p l d q = (v, c, refl, ((let j : d ≡ d' = cc in j) ∙ e))
  root_of (free_wire {v = v} {c = c} {d = d'} e) p l d q = (v, c, refl, ((let j : d ≡ d' = cc in j) ∙ e))
  root_of lam_root p l d q = absurd (cc)
  root_of (lam_own m) p l d q = absurd (cc)
  root_of (lam_wire e m) p l d q = absurd (cc)
  root_of app_root p l d q = absurd (cc)
  root_of (app_arg e) p l d q = absurd (cc)
  root_of (app_left m e) p l d q = absurd (cc)
  root_of (app_right m e) p l d q = absurd (cc)
  root_of (in_body e) p l d q = absurd (cc)
  root_of (in_fun e) p l d q = absurd (cc)
  root_of (in_arg e) p l d q = absurd (cc)

  -- two edges to one inner spot
  two_in : {t : Tree} {s z z' : Spot} {n n' : ℕ} → Edge τ t z s n → Edge τ t z' s n' → (sides z s).1 ≡ (sides z' s).1 → z ≡ z'
  two_in (var_wire {y = y} {v = v} {c = c} {d = d} e) e' q =
      let r = root_of e' (wire (bound y)) empty d refl in
      let k : cons v c ≡ cons r.0 r.1 = sym e ∙ r.3 in
      ap (λ v. at root v c) (head_eq v r.0 c r.1 k) ∙ ap (at root r.0) (tail_eq v r.0 c r.1 k) ∙ sym r.2
  two_in (free_wire {f = f} {v = v} {c = c} {d = d} e) e' q =
      let r = root_of e' (wire (name f)) empty d refl in
      let k : cons v c ≡ cons r.0 r.1 = sym e ∙ r.3 in
      ap (λ v. at root v c) (head_eq v r.0 c r.1 k) ∙ ap (at root r.0) (tail_eq v r.0 c r.1 k) ∙ sym r.2
  two_in lam_root lam_root q = refl
  two_in lam_root (in_body e') q = absurd (apart (q ∙ to_interface e'))
  two_in (lam_own m) (lam_own m') q = refl
  two_in (lam_own m) (lam_wire {y = y} e m') q = absurd (under_zero y e)
  two_in (lam_own m) (in_body e') q = absurd (apart (q ∙ to_interface e'))
  two_in (lam_wire {y = y} e m) (lam_own m') q = absurd (under_zero y e)
  two_in (lam_wire {y = y} {a = a} {c = c} e m) (lam_wire {y = y'} e' m') q = ap (λ y. at (wire y) a c) (under_one y y' (sym e ∙ e'))
  two_in (lam_wire e m) (in_body e') q = absurd (apart (q ∙ to_interface e'))
  two_in (in_body e) lam_root q = absurd (apart (sym q ∙ to_interface e))
  two_in (in_body e) (lam_own m) q = absurd (apart (sym q ∙ to_interface e))
  two_in (in_body e) (lam_wire e' m) q = absurd (apart (sym q ∙ to_interface e))
  two_in (in_body e) (in_body e') q = ap body (two_in e e' q)
  two_in app_root app_root q = refl
  two_in app_root (in_fun e') q = absurd (apart (q ∙ to_interface e'))
  two_in (app_left {y = y} {c = c} m e) (app_left m' e') q = ap (λ w. at (wire y) w c) (e ∙ sym e')
  two_in (app_left m e) (in_fun e') q = absurd (apart (q ∙ to_interface e'))
  two_in (in_fun e) app_root q = absurd (apart (sym q ∙ to_interface e))
  two_in (in_fun e) (app_left m e') q = absurd (apart (sym q ∙ to_interface e))
  two_in (in_fun e) (in_fun e') q = ap fun (two_in e e' q)
  two_in (app_arg {v = v} e) (app_arg e') q = ap (λ c. fun (at root (star v) c)) (e ∙ sym e')
  two_in (app_arg e) (in_arg e') q = absurd (apart (q ∙ to_interface e'))
  two_in (app_right {y = y} {c = c} m e) (app_right m' e') q = ap (λ w. at (wire y) w c) (e.is ∙ sym e'.is)
  two_in (app_right m e) (in_arg e') q = absurd (apart (q ∙ to_interface e'))
  two_in (in_arg e) (app_arg e') q = absurd (apart (sym q ∙ to_interface e))
  two_in (in_arg e) (app_right m e') q = absurd (apart (sym q ∙ to_interface e))
  two_in (in_arg {v = v} e) (in_arg e') q = ap (arg v) (two_in e e' q)

  -- one from a spot and one to it
  out_in : {t : Tree} {s z z' : Spot} {n n' : ℕ} → Edge τ t s z n → Edge τ t z' s n' → (sides s z).0 ≡ (sides z' s).1 → ⊥
  out_in (var_wire e) e' q = elim e' [ ]
  out_in (free_wire e) e' q = elim e' [ ]
  out_in lam_root e' q = elim e' [ ]
  out_in (lam_own m) e' q = elim e' [ ]
  out_in (lam_wire e m) e' q = elim e' [ ]
  out_in app_root e' q = elim e' [ ]
  out_in (app_left m e) e' q = elim e' [ ]
  out_in (app_right m e) e' q = elim e' [ ]
  out_in (in_body {s' = z} e) (lam_root {v = v} {c = c}) q = apart (sym q ∙ from_interface root v c z)
  out_in (in_body {s' = z} e) (lam_own {a = a} {c = c} m) q = apart (sym q ∙ from_interface (wire (bound 0)) a c z)
  out_in (in_body {s' = z} e) (lam_wire {z = u} {a = a} {c = c} f m) q = apart (sym q ∙ from_interface (wire u) a c z)
  out_in (in_body e) (in_body e') q = out_in e e' q
  out_in (app_arg e) (in_fun e') q = apart (q ∙ to_interface e')
  out_in (in_fun {s' = z} e) (app_root {v = v} {c = c}) q = apart (sym q ∙ from_interface root (o v) c z)
  out_in (in_fun {s' = z} e) (app_left {y = y} {a = a} {c = c} m f) q = apart (sym q ∙ from_interface (wire y) a c z)
  out_in (in_fun e) (in_fun e') q = out_in e e' q
  out_in (in_arg {s' = z} e) (app_arg {u = u} {d = d} f) q = apart (sym q ∙ from_interface root u d z)
  out_in (in_arg {s' = z} e) (app_right {y = y} {b = b} {c = c} m f) q = apart (sym q ∙ from_interface (wire y) b c z)
  out_in (in_arg e) (in_arg e') q = out_in e e' q

-- ---- ends

-- all edges are on one side
abbrev Ends : Translation → Tree → Spot → Bool → Type 0
Ends τ t s b = (z : Spot) (n : ℕ) → (Edge τ t s z n → (sides s z).0 ≡ b) × (Edge τ t z s n → (sides z s).1 ≡ b)

-- in a part, whose interface it isn't at, or which it ends from outside
abbrev Fits : Spot → Bool → Type 0
Fits s b = (q : Place) (v : Level) (c : Context) → at q v c ≡ s → b ≡ false

no_place : (p : Site) (c : Context) (b : Bool) → Fits (function_at p empty c) b
no_place p c b root v d e = absurd (no_root p empty v c d root e)
no_place p c b (wire y) v d e = absurd (no_wire true p empty v c d y e)

no_star : (q : Site) (c : Context) (v : Level) (d : Context) → at root (star v) d ≡ abstraction_at q empty c → ⊥
no_star self c v d e = absurd (cc)
no_star (in_lam q) c v d e = absurd (cc)
no_star (in_function q) c v d e = absurd (cc)
no_star (in_argument a q) c v d e = absurd (cc)

module _ {τ : Translation} where
  in_lam_ends : {M : Tree} {s : Spot} {b : Bool} → Fits s b → Ends τ M s b → Ends τ (lam M) (body s) b
  in_lam_ends {M} {s} {b} f h z n = (λ e. out e refl, λ e. to e refl)
    where
      out : {y z : Spot} {n : ℕ} → Edge τ (lam M) y z n → y ≡ body s → (sides y z).0 ≡ b
      out lam_root q = absurd (cc)
      out (lam_own m) q = absurd (cc)
      out (lam_wire e m) q = absurd (cc)
      out (in_body {s = y} {s' = z} {w = n} e) q = let j : s ≡ y = cc in (subst (λ s. Ends τ M s b) j h z n).0 e

      to : {y z : Spot} {n : ℕ} → Edge τ (lam M) z y n → y ≡ body s → (sides z y).1 ≡ b
      to (lam_root {v = v} {c = c}) q = sym (f root v c (let j : at root v c ≡ s = cc in j))
      to (lam_own {a = a} {c = c} m) q = sym (f (wire (bound 0)) a c (let j : at (wire (bound 0)) a c ≡ s = cc in j))
      to (lam_wire {z = u} {a = a} {c = c} e m) q = sym (f (wire u) a c (let j : at (wire u) a c ≡ s = cc in j))
      to (in_body {s = z} {s' = y} {w = n} e) q = let j : s ≡ y = cc in (subst (λ s. Ends τ M s b) j h z n).1 e

  in_fun_ends : {M N : Tree} {s : Spot} {b : Bool} → Fits s b → ((v : Level) (c : Context) → at root (star v) c ≡ s → ⊥) → Ends τ M s b → Ends τ (app M N) (fun s) b
  in_fun_ends {M} {N} {s} {b} f g h z n = (λ e. out e refl, λ e. to e refl)
    where
      out : {y z : Spot} {n : ℕ} → Edge τ (app M N) y z n → y ≡ fun s → (sides y z).0 ≡ b
      out app_root q = absurd (cc)
      out (app_arg {v = v} {c = c} e) q = absurd (g v c (let j : at root (star v) c ≡ s = cc in j))
      out (app_left m e) q = absurd (cc)
      out (app_right m e) q = absurd (cc)
      out (in_fun {s = y} {s' = z} {w = n} e) q = let j : s ≡ y = cc in (subst (λ s. Ends τ M s b) j h z n).0 e
      out (in_arg e) q = absurd (cc)

      to : {y z : Spot} {n : ℕ} → Edge τ (app M N) z y n → y ≡ fun s → (sides z y).1 ≡ b
      to (app_root {v = v} {c = c}) q = sym (f root (o v) c (let j : at root (o v) c ≡ s = cc in j))
      to (app_arg e) q = absurd (cc)
      to (app_left {y = y} {a = a} {c = c} m e) q = sym (f (wire y) a c (let j : at (wire y) a c ≡ s = cc in j))
      to (app_right m e) q = absurd (cc)
      to (in_fun {s = z} {s' = y} {w = n} e) q = let j : s ≡ y = cc in (subst (λ s. Ends τ M s b) j h z n).1 e
      to (in_arg e) q = absurd (cc)

  in_arg_ends : {M N : Tree} {v : Level} {s : Spot} {b : Bool} → Fits s b → Ends τ N s b → Ends τ (app M N) (arg v s) b
  in_arg_ends {M} {N} {v} {s} {b} f h z n = (λ e. out e refl, λ e. to e refl)
    where
      out : {y z : Spot} {n : ℕ} → Edge τ (app M N) y z n → y ≡ arg v s → (sides y z).0 ≡ b
      out app_root q = absurd (cc)
      out (app_arg e) q = absurd (cc)
      out (app_left m e) q = absurd (cc)
      out (app_right m e) q = absurd (cc)
      out (in_fun e) q = absurd (cc)
      out (in_arg {s = y} {s' = z} {w = n} e) q = let j : s ≡ y = cc in (subst (λ s. Ends τ N s b) j h z n).0 e

      to : {y z : Spot} {n : ℕ} → Edge τ (app M N) z y n → y ≡ arg v s → (sides z y).1 ≡ b
      to app_root q = absurd (cc)
      to (app_arg {u = u} {d = d} e) q = sym (f root u d (let j : at root u d ≡ s = cc in j))
      to (app_left m e) q = absurd (cc)
      to (app_right {y = y} {b = b'} {c = c} m e) q = sym (f (wire y) b' c (let j : at (wire y) b' c ≡ s = cc in j))
      to (in_fun e) q = absurd (cc)
      to (in_arg {s = z} {s' = y} {w = n} e) q = let j : s ≡ y = cc in (subst (λ s. Ends τ N s b) j h z n).1 e

  -- ---- the root of an application's function, with an empty level

  inside : {M N : Tree} (c : Context) → Ends τ (app M N) (fun (at root empty c)) true
  inside {M} {N} c z n = (λ e. out e refl, λ e. absurd (to e refl))
    where
      out : {y z : Spot} {n : ℕ} → Edge τ (app M N) y z n → y ≡ fun (at root empty c) → (sides y z).0 ≡ true
      out app_root q = absurd (cc)
      out (app_arg e) q = absurd (cc)
      out (app_left m e) q = absurd (cc)
      out (app_right m e) q = absurd (cc)
      out (in_fun {s = y} {s' = z} e) q = let j : at root empty c ≡ y = cc in subst (λ y. (sides y z).0 ≡ true) j (from_interface root empty c z)
      out (in_arg e) q = absurd (cc)

      nothing : {K : Tree} {z y : Spot} {n : ℕ} → Edge τ K z y n → y ≡ at root empty c → ⊥
      nothing (var_wire e) q = absurd (cc)
      nothing (free_wire e) q = absurd (cc)
      nothing lam_root q = absurd (cc)
      nothing (lam_own m) q = absurd (cc)
      nothing (lam_wire e m) q = absurd (cc)
      nothing app_root q = absurd (cc)
      nothing (app_arg e) q = absurd (cc)
      nothing (app_left m e) q = absurd (cc)
      nothing (app_right m e) q = absurd (cc)
      nothing (in_body e) q = absurd (cc)
      nothing (in_fun e) q = absurd (cc)
      nothing (in_arg e) q = absurd (cc)

      to : {y z : Spot} {n : ℕ} → Edge τ (app M N) z y n → y ≡ fun (at root empty c) → ⊥
      to app_root q = absurd (cc)
      to (app_arg e) q = absurd (cc)
      to (app_left m e) q = absurd (cc)
      to (app_right m e) q = absurd (cc)
      to (in_fun {s' = y} e) q = nothing e (let j : y ≡ at root empty c = cc in j)
      to (in_arg e) q = absurd (cc)

  ends_function : {t F A : Tree} (p : Site) (c : Context) → PartAt t p (app F A) → Ends τ t (function_at p empty c) true
  ends_function self c whole = inside c
  ends_function (in_lam p) c (of_lam m) = in_lam_ends (no_place p c true) (ends_function p c m)
  ends_function (in_function p) c (of_function m) = in_fun_ends (no_place p c true) (λ v d e. no_root p empty (star v) c d root e) (ends_function p c m)
  ends_function (in_argument a p) c (of_argument m) = in_arg_ends (no_place p c true) (ends_function p c m)

  -- ---- the root of an abstraction, with an empty level

  outside : {M : Tree} (c : Context) → Ends τ (lam M) (at root empty c) false
  outside {M} c z n = (λ e. absurd (out e refl), λ e. absurd (to e refl))
    where
      out : {y z : Spot} {n : ℕ} → Edge τ (lam M) y z n → y ≡ at root empty c → ⊥
      out lam_root q = absurd (cc)
      out (lam_own m) q = absurd (cc)
      out (lam_wire e m) q = absurd (cc)
      out (in_body e) q = absurd (cc)

      to : {y z : Spot} {n : ℕ} → Edge τ (lam M) z y n → y ≡ at root empty c → ⊥
      to lam_root q = absurd (cc)
      to (lam_own m) q = absurd (cc)
      to (lam_wire e m) q = absurd (cc)
      to (in_body e) q = absurd (cc)

  ends_abstraction : {t I : Tree} (q : Site) (c : Context) → PartAt t q (lam I) → Ends τ t (abstraction_at q empty c) false
  ends_abstraction self c whole = outside c
  ends_abstraction (in_lam q) c (of_lam m) = in_lam_ends (λ p v d e. refl) (ends_abstraction q c m)
  ends_abstraction (in_function q) c (of_function m) = in_fun_ends (λ p v d e. refl) (no_star q c) (ends_abstraction q c m)
  ends_abstraction (in_argument a q) c (of_argument m) = in_arg_ends (λ p v d e. refl) (ends_abstraction q c m)

-- ---- lines: trails that never go back

two_sides : (a b : Bool) → (a ≡ b) ⊎ (a ≡ not b)
two_sides true true = inl refl
two_sides false false = inl refl
two_sides true false = inr refl
two_sides false true = inr refl

not_one : (a b : Bool) → not a ≡ not b → a ≡ b
not_one true true e = refl
not_one false false e = refl
not_one true false e = absurd (cc)
not_one false true e = absurd (cc)

no_not : (b : Bool) → not b ≡ b → ⊥
no_not true e = absurd (cc)
no_not false e = absurd (cc)

module _ (τ : Translation) (t : Tree) (T : Labelled) where
  -- on from a spot to which one came on side b: to this spot, on this side, and what is read
  data Run : Spot → Bool → Spot → Signs → Type 0 where
    stop : {s : Spot} {b : Bool} → Run s b s []
    fore : {s z y : Spot} {b : Bool} {a a' : Signs} {n : ℕ} → Edge τ t s z n → (sides s z).0 ≡ not b → Run z (sides s z).1 y a → a' ≡ reading T s z ++ a → Run s b y a'
    aft : {s z y : Spot} {b : Bool} {a a' : Signs} {n : ℕ} → Edge τ t z s n → (sides z s).1 ≡ not b → Run z (sides z s).0 y a → a' ≡ reversed (reading T z s) ++ a → Run s b y a'

  -- at an end one came on its side
  abbrev Came : Spot → Bool → Type 0
  Came s b = Ends τ t s false → b ≡ false

  no_more : (s : Spot) (b : Bool) (x : Bool) → Came s b → Ends τ t s false → x ≡ not b → x ≡ false → ⊥
  no_more s b x f h q e = absurd (apart (sym e ∙ q ∙ ap not (f h)))

  -- two of them from one spot that come to ends are one
  one_run : {s y y' : Spot} {b : Bool} {a a' : Signs} → Run s b y a → Run s b y' a' → Came s b → Ends τ t y false → Ends τ t y' false → a ≡ a'
  one_run stop stop f h k = refl
  one_run {s} {b = b} stop (fore {z = z} {n = n} e g r i) f h k = absurd (no_more s b (sides s z).0 f h g ((h z n).0 e))
  one_run {s} {b = b} stop (aft {z = z} {n = n} e g r i) f h k = absurd (no_more s b (sides z s).1 f h g ((h z n).1 e))
  one_run {s} {b = b} (fore {z = z} {n = n} e g r i) stop f h k = absurd (no_more s b (sides s z).0 f k g ((k z n).0 e))
  one_run {s} {b = b} (aft {z = z} {n = n} e g r i) stop f h k = absurd (no_more s b (sides z s).1 f k g ((k z n).1 e))
  one_run {s} {y' = y'} (fore {z = z} {a = a} {n = n} e g r i) (fore {z = z'} {a = a'} e' g' r' i') f h k =
      let j : z ≡ z' = two_out e e' (g ∙ sym g') in
      let q = one_run r (subst (λ z. Run z (sides s z).1 y' a') (sym j) r') (λ h. (h s n).1 e) h k in
      i ∙ ap (λ a. reading T s z ++ a) q ∙ ap (λ z. reading T s z ++ a') j ∙ sym i'
  one_run (fore e g r i) (aft e' g' r' i') f h k = absurd (out_in e e' (g ∙ sym g'))
  one_run (aft e g r i) (fore e' g' r' i') f h k = absurd (out_in e' e (g' ∙ sym g))
  one_run {s} {y' = y'} (aft {z = z} {a = a} {n = n} e g r i) (aft {z = z'} {a = a'} e' g' r' i') f h k =
      let j : z ≡ z' = two_in e e' (g ∙ sym g') in
      let q = one_run r (subst (λ z. Run z (sides z s).0 y' a') (sym j) r') (λ h. (h s n).0 e) h k in
      i ∙ ap (λ a. reversed (reading T z s) ++ a) q ∙ ap (λ z. reversed (reading T z s) ++ a') j ∙ sym i'

module _ (τ : Translation) (t : Tree) (T : Labelled) (s0 : Spot) (end : Ends τ t s0 true) where
  -- the same from its last step to its first
  data Line : Spot → Bool → Signs → Type 0 where
    begin : Line s0 false []
    to : {s z : Spot} {b b' : Bool} {a a' : Signs} {n : ℕ} → Line s b a → Edge τ t s z n → (sides s z).0 ≡ not b → b' ≡ (sides s z).1 → a' ≡ a ++ reading T s z → Line z b' a'
    from : {s z : Spot} {b b' : Bool} {a a' : Signs} {n : ℕ} → Line s b a → Edge τ t z s n → (sides z s).1 ≡ not b → b' ≡ (sides z s).0 → a' ≡ a ++ reversed (reading T z s) → Line z b' a'

  run_of : {s y : Spot} {b : Bool} {a d : Signs} → Line s b a → Run τ t T s b y d → (e : Signs) × (e ≡ a ++ d) × Run τ t T s0 false y e
  run_of {d = d} begin r = (d, refl, r)
  run_of {y = y} {d = d} (to {s = s} {z = z} {a = a} l e g h i) r =
      let k = run_of l (fore e g (subst (λ b. Run τ t T z b y d) h r) refl) in
      (k.0, k.1 ∙ sym (append_assoc a (reading T s z) d) ∙ ap (λ a. a ++ d) (sym i), k.2)
  run_of {y = y} {d = d} (from {s = s} {z = z} {a = a} l e g h i) r =
      let k = run_of l (aft e g (subst (λ b. Run τ t T z b y d) h r) refl) in
      (k.0, k.1 ∙ sym (append_assoc a (reversed (reading T z s)) d) ∙ ap (λ a. a ++ d) (sym i), k.2)

  -- a trail without what goes back
  record Straight (z : Spot) (a : Signs) : Type 0 where
    side : Bool
    word : Signs
    line : Line z side word
    alike : AreAlike a word

  changed : {z : Spot} {a b : Signs} → Straight z b → AreAlike a b → Straight z a
  changed k e = record { side = k.side; word = k.word; line = k.line; alike = λ r x. e r x ∙ k.alike r x }

  -- a step that goes back takes away the last one
  undone : (a b c : Signs) → AreAlike ((a ++ reversed b) ++ (b ++ c)) (a ++ c)
  undone a b c r x =
      moved_append r (a ++ reversed b) (b ++ c) x ∙ moved_append r b c (moved r (a ++ reversed b) x)
      ∙ ap (λ y. moved r c (moved r b y)) (moved_append r a (reversed b) x)
      ∙ ap (moved r c) (moved_there r b (moved r a x)) ∙ sym (moved_append r a c x)

  done : (a b c : Signs) → AreAlike ((a ++ b) ++ (reversed b ++ c)) (a ++ c)
  done a b c r x =
      moved_append r (a ++ b) (reversed b ++ c) x ∙ moved_append r (reversed b) c (moved r (a ++ b) x)
      ∙ ap (λ y. moved r c (moved r (reversed b) y)) (moved_append r a b x)
      ∙ ap (moved r c) (moved_back r b (moved r a x)) ∙ sym (moved_append r a c x)

  grouped : (a b c : Signs) → AreAlike (a ++ (b ++ c)) ((a ++ b) ++ c)
  grouped a b c r x = ap (λ s. moved r s x) (sym (append_assoc a b c))

  abbrev Rest : Spot → Spot → Signs → Type 0
  Rest z y w = (b : Bool) (a : Signs) → Line z b a → Straight y (a ++ w)

  back_on : {s z y : Spot} {b : Bool} {a : Signs} {n : ℕ} → Line s b a → Edge τ t s z n → (sides s z).0 ≡ b → (w : Signs) → Rest z y w → Straight y (a ++ (reading T s z ++ w))
  back_on {z = z} {n = n} begin e q w rest = absurd (apart (sym q ∙ (end z n).0 e))
  back_on (to l e0 g h i) e q w rest = absurd (out_in e e0 (q ∙ h))
  back_on {s} {z} (from {s = s'} {b = b1} {a = a1} l e0 g h i) e q w rest =
      let j : z ≡ s' = two_out e e0 (q ∙ h) in
      changed (rest b1 a1 (subst (λ s. Line s b1 a1) (sym j) l))
      (λ r x. ap (λ a. moved r (a ++ (reading T s z ++ w)) x) (i ∙ ap (λ s'. a1 ++ reversed (reading T s s')) (sym j)) ∙ undone a1 (reading T s z) w r x)

  back_off : {s z y : Spot} {b : Bool} {a : Signs} {n : ℕ} → Line s b a → Edge τ t z s n → (sides z s).1 ≡ b → (w : Signs) → Rest z y w → Straight y (a ++ (reversed (reading T z s) ++ w))
  back_off {z = z} {n = n} begin e q w rest = absurd (apart (sym q ∙ (end z n).1 e))
  back_off {s} {z} (to {s = s'} {b = b1} {a = a1} l e0 g h i) e q w rest =
      let j : z ≡ s' = two_in e e0 (q ∙ h) in
      changed (rest b1 a1 (subst (λ s. Line s b1 a1) (sym j) l))
      (λ r x. ap (λ a. moved r (a ++ (reversed (reading T z s) ++ w)) x) (i ∙ ap (λ s'. a1 ++ reading T s' s) (sym j)) ∙ done a1 (reading T z s) w r x)
  back_off (from l e0 g h i) e q w rest = absurd (out_in e0 e (sym h ∙ sym q))

  straight : {s z : Spot} {b : Bool} {a : Signs} {n : ℕ} (u : Trail (Edge τ t) s z n) → Line s b a → Straight z (a ++ word_along T u)
  straight {b = b} {a = a} here l = record { side = b; word = a; line = l; alike = λ r x. moved_append r a [] x }
  straight {z = y} {b = b} {a = a} (on {s = s} {s' = z} {w = w} e u h) l = elim (two_sides (sides s z).0 b) [
    | inl q ↦ back_on l e q (word_along T u) (λ b a l. straight u l)
    | inr q ↦ changed (straight u (to l e q refl refl)) (grouped a (reading T s z) (word_along T u))
  ]
  straight {z = y} {b = b} {a = a} (back {s = s} {s' = z} {w = w} e u h) l = elim (two_sides (sides z s).1 b) [
    | inl q ↦ back_off l e q (word_along T u) (λ b a l. straight u l)
    | inr q ↦ changed (straight u (from l e q refl refl)) (grouped a (reversed (reading T z s)) (word_along T u))
  ]

  -- all trails from it to ends read alike words
  one_word : {y y' : Spot} {n n' : ℕ} (u : Trail (Edge τ t) s0 y n) (u' : Trail (Edge τ t) s0 y' n') → Ends τ t y false → Ends τ t y' false → AreAlike (word_along T u) (word_along T u')
  one_word u u' h k r x =
      let a = straight u begin in
      let b = straight u' begin in
      let c = run_of a.line stop in
      let d = run_of b.line stop in
      let q = one_run τ t T c.2 d.2 (λ h. refl) h k in
      a.alike r x ∙ sym (moved_append r a.word [] x) ∙ ap (λ s. moved r s x) (sym c.1 ∙ q ∙ d.1) ∙ moved_append r b.word [] x ∙ sym (b.alike r x)

pub tree_word : (τ : Translation) (t : Tree) (T : Labelled) (p : Site) (m n : IsMatched τ t p) →
    AreAlike (signs_of (function_label T p) ++ word_along T m.trail) (signs_of (function_label T p) ++ word_along T n.trail)
tree_word τ t T p m n r x =
    let w = one_word τ t T (function_at p empty blank) (ends_function p blank m.is) m.trail n.trail (ends_abstraction m.other blank m.is_other) (ends_abstraction n.other blank n.is_other) in
    let l = signs_of (function_label T p) in
    moved_append r l (word_along T m.trail) x ∙ w r (moved r l x) ∙ sym (moved_append r l (word_along T n.trail) x)

pub site_has_one_word : SiteHasOneWord
site_has_one_word τ T p m n = tree_word τ (erased T) T p m n
