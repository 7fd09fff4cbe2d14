-- Trails, one after another and the other way round.
use Rattle.std.proofs.Common.{◌≡◌, ℕ, ◌+◌, refl, subst, arith}
use Rattle.ol_term.specs.declared.translations.Translation.{Translation}
use Rattle.ol_term.specs.Trees.{Tree, lam, app}
use Rattle.ol_context.specs.Contexts.{Level}
use Rattle.ol_law_meaning.specs.Spots.{Spot, body, fun, arg, Edge, in_body, in_fun, in_arg, Trail, here, on, back}

pub tr_trans : {V : Type 0} {E : V → V → ℕ → Type 0} {s z y : V} {n m k : ℕ} → Trail E s z n →
    Trail E z y m → k ≡ n + m → Trail E s y k
tr_trans {E = E} {s = s} {y = y} here b e = subst (λ n. Trail E s y n) (let r = e in omega arith) b
tr_trans (on {n = n} e a h) b q = on e (tr_trans a b refl) (omega arith)
tr_trans (back {n = n} e a h) b q = back e (tr_trans a b refl) (omega arith)

pub one : {V : Type 0} {E : V → V → ℕ → Type 0} {s z : V} {n : ℕ} → E s z n → Trail E s z n
one e = on e here (omega arith)

pub one_back : {V : Type 0} {E : V → V → ℕ → Type 0} {s z : V} {n : ℕ} → E z s n → Trail E s z n
one_back e = back e here (omega arith)

pub tr_sym : {V : Type 0} {E : V → V → ℕ → Type 0} {s z : V} {n : ℕ} → Trail E s z n → Trail E z s n
tr_sym here = here
tr_sym (on e a h) = tr_trans (tr_sym a) (one_back e) (omega arith)
tr_sym (back e a h) = tr_trans (tr_sym a) (one e) (omega arith)

-- from edges each of which is a trail
pub tr_map : {V W : Type 0} {E : V → V → ℕ → Type 0} {F : W → W → ℕ → Type 0} (f : V → W) →
    ((s z : V) (n : ℕ) → E s z n → Trail F (f s) (f z) n) → {s z : V} {n : ℕ} → Trail E s z n → Trail F (f s) (f z) n
tr_map f m here = here
tr_map f m (on {s = s} {s' = s'} {w = w} e a h) = tr_trans (m s s' w e) (tr_map f m a) h
tr_map f m (back {s = s} {s' = s'} {w = w} e a h) = tr_trans (tr_sym (m s' s w e)) (tr_map f m a) h

pub tr_body : {τ : Translation} {M : Tree} {s z : Spot} {n : ℕ} → Trail (Edge τ M) s z n →
    Trail (Edge τ (lam M)) (body s) (body z) n
tr_body t = tr_map body (λ s z n e. one (in_body e)) t

pub tr_fun : {τ : Translation} {M N : Tree} {s z : Spot} {n : ℕ} → Trail (Edge τ M) s z n →
    Trail (Edge τ (app M N)) (fun s) (fun z) n
tr_fun t = tr_map fun (λ s z n e. one (in_fun e)) t

pub tr_arg : {τ : Translation} {M N : Tree} {v : Level} {s z : Spot} {n : ℕ} →
    Trail (Edge τ N) s z n → Trail (Edge τ (app M N)) (arg v s) (arg v z) n
tr_arg {v = v} t = tr_map (arg v) (λ s z n e. one (in_arg e)) t
